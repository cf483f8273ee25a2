-- What the book decides is read from the entries of lock 0 alone.
use Rattle.std.specs.Prelude.{◌≡◌, ◌==◌, ◌&&◌, ◌||◌, nat_le, not, ℕ, ◌+◌, Bool, true, false, List, [], ◌∷◌, length, filter, Option, Some, None, is_some}
use Rattle.std.proofs.Common.{refl, ap, sym, ◌∙◌, cond, arith}
use Rattle.stripe_layout.specs.Layout.{parity_of}
use Rattle.array_journal.specs.declared.entry.Entry.{Entry}
use Rattle.array_journal.specs.declared.event.Event.{Event}
use Rattle.array_journal.specs.declared.event.Event.TheVariants.{Open}
use Rattle.array_journal.specs.declared.event.Why.TheVariants.{Medium, NotReady, Unfitted, Present, Listed, Second, Clean, Absent}
use Rattle.array_journal.specs.declared.setting.Setting.{Setting}
use Rattle.array_journal.specs.declared.task.Kind.TheVariants.{Read, Update, DataOnly, DegradedRead, DegradedWrite, Rebuild, Resync}
use Rattle.array_journal.specs.declared.task.Task.{Task}
use Rattle.array_journal.specs.Lists.{numbers}
use Rattle.array_journal.specs.Entries.{some_at}
use Rattle.array_journal.specs.Acts.{is_target}
use Rattle.array_journal.specs.Commands.{tasks_conflict}
use Rattle.array_journal.specs.Listed.{is_listed}
use Rattle.array_journal.specs.Lives.{is_missing, is_unfitted}
use Rattle.array_journal.specs.declared.decision.Want.{Want}
use Rattle.array_journal.specs.declared.decision.Want.TheVariants.{Read as WantsRead, Write as WantsWrite, Rebuild as WantsRebuild, Resync as WantsResync}
use Rattle.array_journal.specs.declared.decision.Decision.{Decision}
use Rattle.array_journal.specs.declared.decision.Decision.TheVariants.{Opens, Refuses}
use Rattle.array_journal.specs.Decision.{decision, missing_count, opens_conflict, holder_of, holds_at, count_of, held_count, has_room_at, has_room}
use Rattle.array_journal.specs.May.{opens_at}
use Rattle.array_journal.specs.Laws.{lane}
use Rattle.array_journal.proofs.runs.LaneLaws.{lane-fold, some_at-lane, is_open-lane, is_unfitted-lane, is_missing-lane, listed_for-lane}

-- how many of some numbers pass is told by the test alone
filter-same : (p q : ℕ → Bool) (xs : List ℕ) → ((x : ℕ) → p x ≡ q x) → filter p xs ≡ filter q xs
filter-same p q [] h = refl
filter-same p q (x ∷ xs) h =
    ap (λ b. cond b (x ∷ filter p xs) (filter p xs)) (h x) ∙ ap (λ (l : List ℕ). cond (q x) (x ∷ l) l) (filter-same p q xs h)

missing_count-lane : (s : Setting) (stripe : ℕ) (past : List Entry) → missing_count s stripe past ≡ missing_count s stripe (lane 0 past)
missing_count-lane s stripe past =
    ap length (filter-same (λ i. is_missing i stripe past) (λ i. is_missing i stripe (lane 0 past)) (numbers 0 s.geometry.targets) (λ i. is_missing-lane i stripe past))

-- all that the decision looks at, as plain values
abbrev decided : Want → Bool → Bool → Bool → Bool → ℕ → Bool → Decision
decided WantsRead missing listed parity unfitted count other =
    cond (missing && listed) (Refuses Medium) (cond (nat_le 2 count) (Refuses NotReady) (cond (not missing) (Opens Read) (Opens DegradedRead)))
decided WantsWrite missing listed parity unfitted count other =
    cond (missing && listed) (Refuses Medium)
    (cond (nat_le 2 count) (Refuses NotReady) (cond missing (Opens DegradedWrite) (cond parity (Opens DataOnly) (Opens Update))))
decided WantsRebuild missing listed parity unfitted count other =
    cond unfitted (Refuses Unfitted)
    (cond (not missing) (Refuses Present) (cond (listed && other) (Refuses Listed) (cond (nat_le 2 count) (Refuses Second) (Opens Rebuild))))
decided WantsResync missing listed parity unfitted count other =
    cond (not listed) (Refuses Clean) (cond (nat_le 1 count) (Refuses Absent) (Opens Resync))

decision-plain : (s : Setting) (want : Want) (stripe i : ℕ) (past : List Entry) →
    decision s want stripe i past ≡ decided want (is_missing i stripe past) (is_listed stripe past) (is_missing (parity_of s.geometry stripe) stripe past)
    (is_unfitted i past) (missing_count s stripe past) (not (i == parity_of s.geometry stripe))
decision-plain s WantsRead stripe i past = refl
decision-plain s WantsWrite stripe i past = refl
decision-plain s WantsRebuild stripe i past = refl
decision-plain s WantsResync stripe i past = refl

is_listed-lane : (stripe : ℕ) (past : List Entry) → is_listed stripe past ≡ is_listed stripe (lane 0 past)
is_listed-lane stripe past = ap is_some (listed_for-lane stripe past)

decided-same : (want : Want) (other m n l k p q u v : Bool) (a b : ℕ) → m ≡ n → l ≡ k → p ≡ q → u ≡ v → a ≡ b → decided want m l p u a other ≡ decided want n k q v b other
decided-same want other m n l k p q u v a b e f g h c =
    ap (λ x. decided want x l p u a other) e ∙ ap (λ x. decided want n x p u a other) f ∙ ap (λ x. decided want n k x u a other) g
    ∙ ap (λ x. decided want n k q x a other) h ∙ ap (λ x. decided want n k q v x other) c

pub decision-lane : (s : Setting) (want : Want) (stripe i : ℕ) (past : List Entry) → decision s want stripe i past ≡ decision s want stripe i (lane 0 past)
decision-lane s want stripe i past =
    decision-plain s want stripe i past
    ∙ decided-same want (not (i == parity_of s.geometry stripe)) (is_missing i stripe past) (is_missing i stripe (lane 0 past)) (is_listed stripe past)
    (is_listed stripe (lane 0 past)) (is_missing (parity_of s.geometry stripe) stripe past) (is_missing (parity_of s.geometry stripe) stripe (lane 0 past))
    (is_unfitted i past) (is_unfitted i (lane 0 past)) (missing_count s stripe past) (missing_count s stripe (lane 0 past))
    (is_missing-lane i stripe past) (is_listed-lane stripe past) (is_missing-lane (parity_of s.geometry stripe) stripe past) (is_unfitted-lane i past)
    (missing_count-lane s stripe past)
    ∙ sym (decision-plain s want stripe i (lane 0 past))

-- two tests that agree find the same
some_at-same : (k : ℕ) (test other : Event → Bool) (past : List Entry) → ((event : Event) → test event ≡ other event) → some_at k test past ≡ some_at k other past
some_at-same k test other [] h = refl
some_at-same k test other (e ∷ past) h =
    ap (λ b. ((e.lock == k) && b) || some_at k test past) (h e.event) ∙ ap (λ b. ((e.lock == k) && other e.event) || b) (some_at-same k test other past h)

opens_conflict-lane : (whole : List Entry) (task : Task) (event : Event) → opens_conflict whole task event ≡ opens_conflict (lane 0 whole) task event
opens_conflict-lane whole task (Open command other) = ap (λ b. b && tasks_conflict task other) (is_open-lane command whole)
opens_conflict-lane whole task _ = refl

pub conflict-lane : (task : Task) (past : List Entry) → some_at 0 (opens_conflict past task) past ≡ some_at 0 (opens_conflict (lane 0 past) task) (lane 0 past)
conflict-lane task past =
    some_at-same 0 (opens_conflict past task) (opens_conflict (lane 0 past) task) past (opens_conflict-lane past task)
    ∙ some_at-lane 0 (opens_conflict (lane 0 past) task) past

opens_at-lane : (s : Setting) (whole : List Entry) (i : ℕ) (event : Event) → opens_at s whole i event ≡ opens_at s (lane 0 whole) i event
opens_at-lane s whole i (Open command task) = ap (λ b. b && is_target s task i) (is_open-lane command whole)
opens_at-lane s whole i _ = refl

pub idle-lane : (s : Setting) (i : ℕ) (past : List Entry) → some_at 0 (opens_at s past i) past ≡ some_at 0 (opens_at s (lane 0 past) i) (lane 0 past)
idle-lane s i past =
    some_at-same 0 (opens_at s past i) (opens_at s (lane 0 past) i) past (opens_at-lane s past i) ∙ some_at-lane 0 (opens_at s (lane 0 past) i) past

count_of-lane : (s : Setting) (whole : List Entry) (i : ℕ) (event : Event) → count_of s whole i event ≡ count_of s (lane 0 whole) i event
count_of-lane s whole i (Open command task) = ap (λ b. cond (b && holds_at s i task) task.count 0) (is_open-lane command whole)
count_of-lane s whole i _ = refl

held_count-whole : (s : Setting) (whole : List Entry) (i : ℕ) (past : List Entry) → held_count s whole i past ≡ held_count s (lane 0 whole) i past
held_count-whole s whole i [] = refl
held_count-whole s whole i (e ∷ past) =
    ap (λ n. cond (e.lock == 0) n 0 + held_count s whole i past) (count_of-lane s whole i e.event)
    ∙ ap (λ n. cond (e.lock == 0) (count_of s (lane 0 whole) i e.event) 0 + n) (held_count-whole s whole i past)

held_count-lane : (s : Setting) (i : ℕ) (past : List Entry) → held_count s past i past ≡ held_count s (lane 0 past) i (lane 0 past)
held_count-lane s i past =
    held_count-whole s past i past
    ∙ lane-fold 0 (held_count s (lane 0 past) i) (λ e old. count_of s (lane 0 past) i e.event + old)
    (λ e rest. step (e.lock == 0) (count_of s (lane 0 past) i e.event) (held_count s (lane 0 past) i rest)) past
  where
    step : (b : Bool) (n r : ℕ) → (cond b n 0 + r) ≡ cond b (n + r) r
    step true n r = refl
    step false n r = omega arith

has_room_at-lane : (s : Setting) (task : Task) (past : List Entry) (holder : Option ℕ) → has_room_at s task past holder ≡ has_room_at s task (lane 0 past) holder
has_room_at-lane s task past None = refl
has_room_at-lane s task past (Some i) = ap (λ n. nat_le (n + task.count) s.buffer) (held_count-lane s i past)

pub room-lane : (s : Setting) (task : Task) (past : List Entry) → has_room s task past ≡ has_room s task (lane 0 past)
room-lane s task past = has_room_at-lane s task past (holder_of s task.kind task)
