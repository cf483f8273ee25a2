-- What a target or the book holds is read from the entries of its own lock alone; and an entry that is named, from
-- those of its name's lock.
use Rattle.std.specs.Prelude.{◌≡◌, ◌==◌, ◌&&◌, ◌||◌, not, ℕ, suc, ◌+◌, Bool, true, false, List, [], ◌∷◌, Option, Some, None, is_some}
use Rattle.std.proofs.Common.{refl, ap, sym, ◌∙◌, cond}
use Rattle.std.proofs.lemmas.Bool.{ne_eqb, eqb-false, and_right, cond-true, cond-false}
use Rattle.array_journal.specs.declared.at.At.{At}
use Rattle.array_journal.specs.declared.entry.Entry.{Entry}
use Rattle.array_journal.specs.declared.event.Event.{Event}
use Rattle.array_journal.specs.declared.event.Event.TheVariants.{Open, Close, Spoil}
use Rattle.array_journal.specs.declared.setting.Setting.{Setting}
use Rattle.array_journal.specs.declared.task.Task.{Task}
use Rattle.array_journal.specs.Entries.{name_of, same_at, entry_at, some_at, count_at}
use Rattle.array_journal.specs.Commands.{opens, opens_command, ends_command, is_open, task_given, task_of, first_task}
use Rattle.xor_buffers.specs.declared.held.HeldBlocks.{HeldBlocks}
use Rattle.array_journal.specs.Media.{media, medium_after, held, held_after, drops, drops_after}
use Rattle.array_journal.specs.Lives.{is_fresh, is_note_of, is_swap_of, loss_after, loss_of, is_unfitted, rebuilds, closes_done, has_rebuilt, opens_rebuilt, missing_in, is_missing}
use Rattle.array_journal.specs.Listed.{listed_after, listed_for, has_stripe, renews_parity}
use Rattle.array_journal.specs.Laws.{lane, OwnLane, BookLane}

-- what each entry of a lock changes in turn, and no other, is read from this lock's entries
pub lane-fold : {A : Type 0} (k : ℕ) (f : List Entry → A) (next : Entry → A → A) →
    ((e : Entry) (past : List Entry) → f (e ∷ past) ≡ cond (e.lock == k) (next e (f past)) (f past)) → (past : List Entry) → f past ≡ f (lane k past)
lane-fold k f next step [] = refl
lane-fold k f next step (e ∷ past) = choose (e.lock == k) refl (lane-fold k f next step past)
  where
    choose : (b : Bool) → (e.lock == k) ≡ b → f past ≡ f (lane k past) → f (e ∷ past) ≡ f (cond b (e ∷ lane k past) (lane k past))
    choose true q old =
        step e past ∙ cond-true (e.lock == k) (next e (f past)) (f past) q ∙ ap (next e) old
        ∙ sym (step e (lane k past) ∙ cond-true (e.lock == k) (next e (f (lane k past))) (f (lane k past)) q)
    choose false q old = step e past ∙ cond-false (e.lock == k) (next e (f past)) (f past) q ∙ old

pub some_at-lane : (k : ℕ) (test : Event → Bool) (past : List Entry) → some_at k test past ≡ some_at k test (lane k past)
some_at-lane k test past = lane-fold k (some_at k test) (λ e old. test e.event || old) (λ e rest. step (e.lock == k) (test e.event) (some_at k test rest)) past
  where
    step : (b t r : Bool) → ((b && t) || r) ≡ cond b (t || r) r
    step true t r = refl
    step false t r = refl

pub count_at-lane : (k : ℕ) (test : Event → Bool) (past : List Entry) → count_at k test past ≡ count_at k test (lane k past)
count_at-lane k test past =
    lane-fold k (count_at k test) (λ e old. cond (test e.event) (suc old) old) (λ e rest. step (e.lock == k) (test e.event) (count_at k test rest)) past
  where
    step : (b t : Bool) (n : ℕ) → cond (b && t) (suc n) n ≡ cond b (cond t (suc n) n) n
    step true t n = refl
    step false t n = refl

pub media-lane : (s : Setting) (i : ℕ) (past : List Entry) → media s i past ≡ media s i (lane (i + 1) past)
media-lane s i past = lane-fold (i + 1) (media s i) (λ e old. medium_after s e.event old) (λ e rest. refl) past

-- the medium of a target with what it holds
pub record Stored : Type 0 where
  pub medium : List ℕ
  pub blocks : List HeldBlocks

abbrev stored : Setting → ℕ → List Entry → Stored
stored s i past = record { medium = media s i past; blocks = held s i past }

stored-lane : (s : Setting) (i : ℕ) (past : List Entry) → stored s i past ≡ stored s i (lane (i + 1) past)
stored-lane s i past =
    lane-fold (i + 1) (stored s i) (λ e old. record { medium = medium_after s e.event old.medium; blocks = held_after s old.medium e.event old.blocks })
    (λ e rest. step (e.lock == i + 1) (medium_after s e.event (media s i rest)) (media s i rest) (held_after s (media s i rest) e.event (held s i rest)) (held s i rest)) past
  where
    pack : List ℕ → List HeldBlocks → Stored
    pack m h = record { medium = m; blocks = h }

    step : (b : Bool) (m n : List ℕ) (h l : List HeldBlocks) → pack (cond b m n) (cond b h l) ≡ cond b (pack m h) (pack n l)
    step true m n h l = refl
    step false m n h l = refl

pub held-lane : (s : Setting) (i : ℕ) (past : List Entry) → held s i past ≡ held s i (lane (i + 1) past)
held-lane s i past = ap (λ (x : Stored). x.blocks) (stored-lane s i past)

pub drops-lane : (i : ℕ) (past : List Entry) → drops i past ≡ drops i (lane (i + 1) past)
drops-lane i past = lane-fold (i + 1) (drops i) (λ e old. drops_after e.event old) (λ e rest. refl) past

pub loss_of-lane : (i : ℕ) (past : List Entry) → loss_of i past ≡ loss_of i (lane (i + 1) past)
loss_of-lane i past = lane-fold (i + 1) (loss_of i) (λ e old. loss_after (name_of e) e.event old) (λ e rest. refl) past

pub own-lane : (s : Setting) (i : ℕ) (past : List Entry) → OwnLane s i past
own-lane s i past = record {
  medium = media-lane s i past;
  blocks = held-lane s i past;
  to_drop = drops-lane i past;
  loss = loss_of-lane i past;
  life = count_at-lane (i + 1) is_fresh past;
}

pub is_open-lane : (c : ℕ) (past : List Entry) → is_open c past ≡ is_open c (lane 0 past)
is_open-lane c past =
    ap (λ b. b && not (some_at 0 (ends_command c) past)) (some_at-lane 0 (opens_command c) past)
    ∙ ap (λ b. some_at 0 (opens_command c) (lane 0 past) && not b) (some_at-lane 0 (ends_command c) past)

pub task_of-lane : (c : ℕ) (past : List Entry) → task_of c past ≡ task_of c (lane 0 past)
task_of-lane c past =
    lane-fold 0 (task_of c) (λ e old. first_task (task_given c e.event) old) (λ e rest. step (e.lock == 0) (task_given c e.event) (task_of c rest)) past
  where
    step : (b : Bool) (given old : Option Task) → first_task (cond b given None) old ≡ cond b (first_task given old) old
    step true given old = refl
    step false given old = refl

pub is_unfitted-lane : (i : ℕ) (past : List Entry) → is_unfitted i past ≡ is_unfitted i (lane 0 past)
is_unfitted-lane i past =
    lane-fold 0 (is_unfitted i) (λ e old. cond (is_note_of i e.event) true (cond (is_swap_of i e.event) false old))
    (λ e rest. step (e.lock == 0) (is_note_of i e.event) (is_swap_of i e.event) (is_unfitted i rest)) past
  where
    step : (b n w r : Bool) → cond (b && n) true (cond (b && w) false r) ≡ cond b (cond n true (cond w false r)) r
    step true n w r = refl
    step false n w r = refl

-- the list of stripes reads the task of the command that an entry ends
listed_after-lane : (past : List Entry) (stripe : ℕ) (event : Event) (old : Option ℕ) → listed_after past stripe event old ≡ listed_after (lane 0 past) stripe event old
listed_after-lane past stripe (Spoil command diff loss shut) old =
    ap (λ (t : Option Task). cond (has_stripe stripe t && not (is_some old)) (Some command) old) (task_of-lane command past)
listed_after-lane past stripe (Close command done names cause bytes) old =
    ap (λ (t : Option Task). cond (done && renews_parity stripe t) None old) (task_of-lane command past)
listed_after-lane past stripe _ old = refl

pub listed_for-lane : (stripe : ℕ) (past : List Entry) → listed_for stripe past ≡ listed_for stripe (lane 0 past)
listed_for-lane stripe [] = refl
listed_for-lane stripe (e ∷ past) = choose (e.lock == 0) refl (listed_for-lane stripe past)
  where
    choose : (b : Bool) → (e.lock == 0) ≡ b → listed_for stripe past ≡ listed_for stripe (lane 0 past) →
        cond b (listed_after past stripe e.event (listed_for stripe past)) (listed_for stripe past) ≡ listed_for stripe (cond b (e ∷ lane 0 past) (lane 0 past))
    choose true q old =
        ap (listed_after past stripe e.event) old ∙ listed_after-lane past stripe e.event (listed_for stripe (lane 0 past))
        ∙ sym (cond-true (e.lock == 0) (listed_after (lane 0 past) stripe e.event (listed_for stripe (lane 0 past))) (listed_for stripe (lane 0 past)) q)
    choose false q old = old

has_rebuilt-lane : (whole : List Entry) (i stripe c : ℕ) → has_rebuilt whole i stripe c ≡ has_rebuilt (lane 0 whole) i stripe c
has_rebuilt-lane whole i stripe c =
    ap (λ (t : Option Task). rebuilds i stripe t && some_at 0 (closes_done c) whole) (task_of-lane c whole)
    ∙ ap (λ b. rebuilds i stripe (task_of c (lane 0 whole)) && b) (some_at-lane 0 (closes_done c) whole)

opens_rebuilt-lane : (whole : List Entry) (i stripe : ℕ) (event : Event) → opens_rebuilt whole i stripe event ≡ opens_rebuilt (lane 0 whole) i stripe event
opens_rebuilt-lane whole i stripe (Open command task) = has_rebuilt-lane whole i stripe command
opens_rebuilt-lane whole i stripe _ = refl

missing_in-whole : (whole : List Entry) (i stripe : ℕ) (past : List Entry) → missing_in whole i stripe past ≡ missing_in (lane 0 whole) i stripe past
missing_in-whole whole i stripe [] = refl
missing_in-whole whole i stripe (e ∷ past) =
    ap (λ b. cond ((e.lock == 0) && is_note_of i e.event) true (cond ((e.lock == 0) && b) false (missing_in whole i stripe past))) (opens_rebuilt-lane whole i stripe e.event)
    ∙ ap (λ b. cond ((e.lock == 0) && is_note_of i e.event) true (cond ((e.lock == 0) && opens_rebuilt (lane 0 whole) i stripe e.event) false b))
    (missing_in-whole whole i stripe past)

pub is_missing-lane : (i stripe : ℕ) (past : List Entry) → is_missing i stripe past ≡ is_missing i stripe (lane 0 past)
is_missing-lane i stripe past =
    missing_in-whole past i stripe past
    ∙ lane-fold 0 (missing_in (lane 0 past) i stripe) (λ e old. cond (is_note_of i e.event) true (cond (opens_rebuilt (lane 0 past) i stripe e.event) false old))
    (λ e rest. step (e.lock == 0) (is_note_of i e.event) (opens_rebuilt (lane 0 past) i stripe e.event) (missing_in (lane 0 past) i stripe rest)) past
  where
    step : (b n w r : Bool) → cond (b && n) true (cond (b && w) false r) ≡ cond b (cond n true (cond w false r)) r
    step true n w r = refl
    step false n w r = refl

pub book-lane : (i stripe c : ℕ) (past : List Entry) → BookLane i stripe c past
book-lane i stripe c past = record {
  opened = count_at-lane 0 opens past;
  open_still = is_open-lane c past;
  task = task_of-lane c past;
  listed = listed_for-lane stripe past;
  swaps = count_at-lane 0 (is_swap_of i) past;
  noted = some_at-lane 0 (is_note_of i) past;
  unfitted = is_unfitted-lane i past;
  missing = is_missing-lane i stripe past;
}

-- an entry that is named is one of its name's lock
pub entry_at-lane : (name : At) (past : List Entry) → entry_at name past ≡ entry_at name (lane name.lock past)
entry_at-lane name [] = refl
entry_at-lane name (e ∷ past) = choose (e.lock == name.lock) refl (entry_at-lane name past)
  where
    choose : (b : Bool) → (e.lock == name.lock) ≡ b → entry_at name past ≡ entry_at name (lane name.lock past) →
        entry_at name (e ∷ past) ≡ entry_at name (cond b (e ∷ lane name.lock past) (lane name.lock past))
    choose true q old = ap (cond (same_at name (name_of e)) (Some e.event)) old
    choose false q old =
        cond-false (same_at name (name_of e)) (Some e.event) (entry_at name past)
        (and_right (name.stamp == e.stamp) (name.lock == e.lock) (ne_eqb name.lock e.lock (λ k. eqb-false e.lock name.lock q (sym k)))) ∙ old
