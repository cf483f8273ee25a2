-- How each definition goes over one more entry: at its own lock by the event, elsewhere not at all.
use Rattle.std.proofs.Common.{◌≡◌, ℕ, suc, ◌+◌, Bool, true, false, List, ◌∷◌, Option, Some, None, refl, ap, ◌∙◌, cond, length}
use Rattle.std.proofs.lemmas.Bool.{eq-eqb, ne_eqb, and_right}
use Rattle.std.specs.Prelude.{◌==◌, ◌&&◌, ◌||◌, not}
use Rattle.array_journal.specs.declared.at.At.{At}
use Rattle.array_journal.specs.declared.entry.Entry.{Entry}
use Rattle.array_journal.specs.declared.event.Event.{Event}
use Rattle.array_journal.specs.declared.setting.Setting.{Setting}
use Rattle.array_journal.specs.Entries.{some_at, count_at, entry_at}
use Rattle.array_journal.specs.declared.task.Task.{Task}
use Rattle.array_journal.specs.Commands.{opens_command, ends_command, is_open, task_given, task_of, first_task}
use Rattle.xor_buffers.specs.declared.held.HeldBlocks.{HeldBlocks}
use Rattle.array_journal.specs.Media.{media, medium_after, held, held_after}

-- a choice by an equation that holds, and by one that doesn't
pub chosen_here : {A : Type 0} (m n : ℕ) (x y : A) → m ≡ n → cond (m == n) x y ≡ x
chosen_here m n x y e = ap (λ b. cond b x y) (eq-eqb m n e)

pub chosen_else : {A : Type 0} (m n : ℕ) (x y : A) → (m ≡ n → ⊥) → cond (m == n) x y ≡ y
chosen_else m n x y h = ap (λ b. cond b x y) (ne_eqb m n h)

chosen_same : {A : Type 0} (b : Bool) (x : A) → cond b x x ≡ x
chosen_same true x = refl
chosen_same false x = refl

pub chosen_length : (b : Bool) (x y : List ℕ) → length x ≡ length y → length (cond b x y) ≡ length y
chosen_length true x y h = h
chosen_length false x y h = refl

pub media-here : (s : Setting) (i : ℕ) (e : Entry) (past : List Entry) → e.lock ≡ i + 1 →
    media s i (e ∷ past) ≡ medium_after s e.event (media s i past)
media-here s i e past h = chosen_here e.lock (i + 1) _ _ h

pub media-else : (s : Setting) (i : ℕ) (e : Entry) (past : List Entry) → (e.lock ≡ i + 1 → ⊥) →
    media s i (e ∷ past) ≡ media s i past
media-else s i e past h = chosen_else e.lock (i + 1) _ _ h

pub held-here : (s : Setting) (i : ℕ) (e : Entry) (past : List Entry) → e.lock ≡ i + 1 →
    held s i (e ∷ past) ≡ held_after s (media s i past) e.event (held s i past)
held-here s i e past h = chosen_here e.lock (i + 1) _ _ h

pub held-else : (s : Setting) (i : ℕ) (e : Entry) (past : List Entry) → (e.lock ≡ i + 1 → ⊥) →
    held s i (e ∷ past) ≡ held s i past
held-else s i e past h = chosen_else e.lock (i + 1) _ _ h

-- the newest entry is the one of its name
pub entry_at-here : (name : At) (e : Entry) (past : List Entry) → name.stamp ≡ e.stamp → name.lock ≡ e.lock →
    entry_at name (e ∷ past) ≡ Some e.event
entry_at-here name e past h k =
    ap (λ b. cond (b && (name.lock == e.lock)) (Some e.event) (entry_at name past)) (eq-eqb name.stamp e.stamp h)
    ∙ chosen_here name.lock e.lock (Some e.event) (entry_at name past) k

-- an entry of another stamp isn't
pub entry_at-else : (name : At) (e : Entry) (past : List Entry) → (name.stamp ≡ e.stamp → ⊥) →
    entry_at name (e ∷ past) ≡ entry_at name past
entry_at-else name e past h =
    ap (λ b. cond (b && (name.lock == e.lock)) (Some e.event) (entry_at name past)) (ne_eqb name.stamp e.stamp h)

-- an entry whose event doesn't say so adds nothing
pub some_at-quiet : (lock : ℕ) (test : Event → Bool) (e : Entry) (past : List Entry) → test e.event ≡ false →
    some_at lock test (e ∷ past) ≡ some_at lock test past
some_at-quiet lock test e past h =
    ap (λ b. ((e.lock == lock) && b) || some_at lock test past) h ∙ and_false (e.lock == lock) (some_at lock test past)
  where
    and_false : (a b : Bool) → ((a && false) || b) ≡ b
    and_false true b = refl
    and_false false b = refl

pub count_at-quiet : (lock : ℕ) (test : Event → Bool) (e : Entry) (past : List Entry) → test e.event ≡ false →
    count_at lock test (e ∷ past) ≡ count_at lock test past
count_at-quiet lock test e past h =
    ap (λ b. cond b (suc (count_at lock test past)) (count_at lock test past)) (and_right (e.lock == lock) (test e.event) h)

-- an entry that opens nothing gives no task
pub task_of-quiet : (c : ℕ) (e : Entry) (past : List Entry) → task_given c e.event ≡ None → task_of c (e ∷ past) ≡ task_of c past
task_of-quiet c e past h =
    ap (λ o. first_task (cond (e.lock == 0) o None) (task_of c past)) h
    ∙ same-both (e.lock == 0) None (λ o. first_task o (task_of c past))
  where
    same-both : (b : Bool) (o : Option Task) (f : Option Task → Option Task) → f (cond b o o) ≡ f o
    same-both true o f = refl
    same-both false o f = refl

-- an entry that neither opens nor ends a command leaves it as it is
pub is_open-quiet : (c : ℕ) (e : Entry) (past : List Entry) → opens_command c e.event ≡ false → ends_command c e.event ≡ false →
    is_open c (e ∷ past) ≡ is_open c past
is_open-quiet c e past h k =
    ap (λ b. b && not (some_at 0 (ends_command c) (e ∷ past))) (some_at-quiet 0 (opens_command c) e past h)
    ∙ ap (λ b. some_at 0 (opens_command c) past && not b) (some_at-quiet 0 (ends_command c) e past k)

-- a closed command isn't open
pub is_open-ended : (c : ℕ) (past : List Entry) → some_at 0 (ends_command c) past ≡ true → is_open c past ≡ false
is_open-ended c past h = and_right (some_at 0 (opens_command c) past) _ (ap not h)

-- an event that leaves the medium, or what is held, as it was
pub media-quiet : (s : Setting) (i : ℕ) (e : Entry) (past : List Entry) → ((old : List ℕ) → medium_after s e.event old ≡ old) →
    media s i (e ∷ past) ≡ media s i past
media-quiet s i e past h = ap (λ m. cond (e.lock == i + 1) m (media s i past)) (h (media s i past)) ∙ chosen_same (e.lock == i + 1) (media s i past)

pub held-quiet : (s : Setting) (i : ℕ) (e : Entry) (past : List Entry) → ((m : List ℕ) (old : List HeldBlocks) → held_after s m e.event old ≡ old) →
    held s i (e ∷ past) ≡ held s i past
held-quiet s i e past h =
    ap (λ m. cond (e.lock == i + 1) m (held s i past)) (h (media s i past) (held s i past)) ∙ chosen_same (e.lock == i + 1) (held s i past)
