-- Nothing but a lost disk, a shut or a want of memory stands in the way of an act that is due.
use Rattle.std.specs.List.{AllByRecursion}
use Rattle.std.specs.Prelude.{◌≡◌, ◌==◌, ◌&&◌, ◌||◌, ◌≤◌, ◌<◌, ◌⊎◌, ◌≢◌, nat_lt, not, ℕ, ◌+◌, ◌*◌, ◌/◌, Bool, true, false, List, [], ◌∷◌, length, Some, suc}
use Rattle.std.proofs.Common.{refl, ap, sym, ◌∙◌, subst, cond, arith, inl, inr}
use Rattle.std.proofs.lemmas.Bool.{and_parts, or_cases, leb-true, eq-eqb, cases_Bool, both_ways, false≢true}
use Rattle.std.proofs.lemmas.List.{length-replicate}
use Rattle.blocks_core.specs.Xor.{zeros}
use Rattle.array_journal.specs.declared.at.At.{At}
use Rattle.array_journal.specs.declared.entry.Entry.{Entry}
use Rattle.array_journal.specs.declared.event.Event.{Event}
use Rattle.array_journal.specs.declared.event.Event.TheVariants.{Fresh, Open, Swap}
use Rattle.array_journal.specs.declared.setting.Setting.{Setting}
use Rattle.array_journal.specs.declared.task.Task.{Task}
use Rattle.array_journal.specs.Entries.{entry_at, some_at, count_at, count_before, stamps_below}
use Rattle.array_journal.specs.Commands.{is_open, task_of}
use Rattle.array_journal.specs.declared.act.Act.{Act}
use Rattle.array_journal.specs.declared.act.Act.TheVariants.{Fetches, Puts, Diffs, Takes, Folds, Holds}
use Rattle.array_journal.specs.Acts.{has_act, is_act, is_target, task_bytes}
use Rattle.xor_buffers.specs.declared.held.HeldBlocks.{HeldBlocks}
use Rattle.xor_buffers.specs.Held.{has_owner, held_blocks}
use Rattle.xor_buffers.proofs.HeldLists.{all-owned}
use Rattle.array_journal.specs.Media.{held}
use Rattle.array_journal.specs.Deltas.{covers}
use Rattle.array_journal.specs.Decision.{held_count}
use Rattle.array_journal.specs.Lives.{is_swap_of, swap_count}
use Rattle.array_journal.specs.May.{MayTarget, swapped_since, freshes_after, IsTask}
use Rattle.array_journal.specs.Run.{Grows, IsSetting}
use Rattle.array_journal.specs.Served.{IsDue, fills_buffer, IsApartFrom, NoOtherAnswerLaw}
use Rattle.array_journal.proofs.runs.Standing.{IsNameOf, named-below, may-here, some_at-cases, passes-said, entry_at-cases, entry_at-more, count_before-still, count_before-le, count_before-of_all}
use Rattle.array_journal.proofs.runs.CommandLaws.{named-task}
use Rattle.array_journal.proofs.lives.DoneRebuilds.{task-sound}
use Rattle.array_journal.proofs.sums.CoveredRows.{blocks_in}
use Rattle.array_journal.proofs.held.HeldOwners.{acted-has, never-both, owner-source}
use Rattle.array_journal.proofs.held.TakersApart.{open-takers-apart}
use Rattle.array_journal.proofs.held.HeldOfOpen.{IsHeld, holder-open}
use Rattle.array_journal.proofs.held.NewlyHeld.{takes-from, diff-takes, hold-takes}
use Rattle.array_journal.proofs.held.Holding.{holding}
use Rattle.array_journal.proofs.held.NoRowTwice.{apart-rows}
use Rattle.array_journal.proofs.held.RoomLaws.{IsCounted, takes-holds, all-fits, held-counted}
use Rattle.array_journal.proofs.lives.WaitingSlots.{open-before, one-waits}
use Rattle.array_journal.proofs.owed.ActBars.{target-of_act}
use Rattle.array_journal.proofs.held.TaskPlaces.{rows-fit}
use Rattle.array_journal.proofs.calm.ActSteps.{acts-there}

-- each entry of a lock is before a stamp that is above all of them
all-before : (k stamp : ℕ) (test : Event → Bool) (past : List Entry) → stamps_below k stamp past ≡ true → count_before k test stamp past ≡ count_at k test past
all-before k stamp test [] h = refl
all-before k stamp test (e ∷ past) h =
    let parts = and_parts (not (e.lock == k) || nat_lt e.stamp stamp) (stamps_below k stamp past) h in
    step (e.lock == k) (nat_lt e.stamp stamp) (test e.event) (count_before k test stamp past) (count_at k test past) parts.0 (all-before k stamp test past parts.1)
  where
    step : (b l t : Bool) (m n : ℕ) → (not b || l) ≡ true → m ≡ n → cond (b && l && t) (suc m) m ≡ cond (b && t) (suc n) n
    step true true true m n h e = ap suc e
    step true true false m n h e = e
    step true false t m n h e = absurd (false≢true h)
    step false l t m n h e = e

-- no swap of a slot came since an open command with that slot was opened
unswapped-since : (s : Setting) (i c : ℕ) (opened : At) (task : Task) (past : List Entry) → Grows s past → opened.lock ≡ 0 →
    entry_at opened past ≡ Some (Open c task) → is_open c past ≡ true → is_target s task i ≡ true →
    count_before 0 (is_swap_of i) opened.stamp past ≡ swap_count i past
unswapped-since s i c opened task [] g book stands o t = cc
unswapped-since s i c opened task (e ∷ past) g book stands o t =
    by (λ q k. unswapped-since s i c opened task past g.1 book q k t) (entry_at-cases opened e past (Open c task) stands)
  where
    by : (entry_at opened past ≡ Some (Open c task) → is_open c past ≡ true → count_before 0 (is_swap_of i) opened.stamp past ≡ swap_count i past) →
        (IsNameOf opened e × (e.event ≡ Open c task)) ⊎ (entry_at opened past ≡ Some (Open c task)) →
        count_before 0 (is_swap_of i) opened.stamp (e ∷ past) ≡ swap_count i (e ∷ past)
    by rest (inl here) =
        let same : opened.stamp ≡ e.stamp = here.0.0 in
        let book_entry : e.lock ≡ 0 = sym here.0.1 ∙ book in
        count_before-still 0 (is_swap_of i) opened.stamp e past (λ x. omega arith)
        ∙ all-before 0 opened.stamp (is_swap_of i) past
        (ap (λ (n : ℕ). stamps_below 0 n past) same ∙ subst (λ (k : ℕ). stamps_below k e.stamp past ≡ true) book_entry g.0.1.0)
        ∙ sym (ap (λ b. cond ((e.lock == 0) && b) (suc (swap_count i past)) (swap_count i past)) (ap (is_swap_of i) here.1) ∙ quiet (e.lock == 0))
      where
        quiet : (b : Bool) → cond (b && false) (suc (swap_count i past)) (swap_count i past) ≡ swap_count i past
        quiet true = refl
        quiet false = refl
    by rest (inr older) =
        let its : task_of c past ≡ Some task = named-task s opened c task past g.1 book older in
        let before : is_open c past ≡ true = open-before c e past task its o in
        count_before-still 0 (is_swap_of i) opened.stamp e past (later older) ∙ rest older before ∙ sym (one-waits s i c task e past g.0.1 before its t).swaps
      where
        later : entry_at opened past ≡ Some (Open c task) → e.lock ≡ 0 → opened.stamp ≤ e.stamp
        later q here =
            let less : opened.stamp < e.stamp =
            named-below (λ x. true) e.stamp opened past (subst (λ (k : ℕ). stamps_below k e.stamp past ≡ true) (here ∙ sym book) g.0.1.0)
            (passes-said (λ x. true) opened past (Open c task) q refl) in omega arith

-- a disk that is too new came for a swap since
pub record IsNewDisk (i : ℕ) (opened : At) (past : List Entry) : Type 0 where
  pub swap : At
  pub call : ℕ
  pub in_book : swap.lock ≡ 0
  pub stands : entry_at swap past ≡ Some (Swap i call)
  pub later : opened.stamp ≤ swap.stamp

new-disk : (s : Setting) (i : ℕ) (opened : At) (past : List Entry) → Grows s past → some_at (i + 1) (swapped_since opened) past ≡ true → IsNewDisk i opened past
new-disk s i opened [] g h = absurd (false≢true h)
new-disk s i opened (e ∷ past) g h = by (λ q. new-disk s i opened past g.1 q) (some_at-cases (i + 1) (swapped_since opened) e past h)
  where
    more : IsNewDisk i opened past → IsNewDisk i opened (e ∷ past)
    more d = record {
      swap = d.swap;
      call = d.call;
      in_book = d.in_book;
      stands = entry_at-more d.swap e past (Swap i d.call) g.0.1.0 d.stands;
      later = d.later;
    }

    came : (event : Event) → MayTarget s past e.stamp i event → swapped_since opened event ≡ true → IsNewDisk i opened past
    came (Fresh call swap) m q = record { swap = swap; call = call; in_book = m.in_book; stands = m.swapped.0; later = leb-true opened.stamp swap.stamp q }
    came _ m q = absurd (false≢true q)

    by : (some_at (i + 1) (swapped_since opened) past ≡ true → IsNewDisk i opened past) →
        ((e.lock ≡ i + 1) × (swapped_since opened e.event ≡ true)) ⊎ (some_at (i + 1) (swapped_since opened) past ≡ true) → IsNewDisk i opened (e ∷ past)
    by rest (inl here) = more (came e.event (may-here s past e.stamp e.lock i e.event here.0 g.0.1.1) here.1)
    by rest (inr older) = more (rest older)

due-life : (s : Setting) (past : List Entry) (i c : ℕ) (opened : At) (task : Task) (act : Act) → Grows s past → IsDue s past i c opened task act →
    freshes_after i opened past ≡ false
due-life s past i c opened task act g d = elim (cases_Bool (freshes_after i opened past)) [
  | inl newer ↦ absurd (never (new-disk s i opened past g newer))
  | inr none ↦ none
]
  where
    never : IsNewDisk i opened past → ⊥
    never n =
        let since : count_before 0 (is_swap_of i) opened.stamp past ≡ swap_count i past =
        unswapped-since s i c opened task past g d.in_book d.opening d.open_still (target-of_act s act task i d.of_task) in
        let up : count_before 0 (is_swap_of i) opened.stamp past ≤ count_before 0 (is_swap_of i) n.swap.stamp past =
        count_before-le 0 (is_swap_of i) opened.stamp n.swap.stamp past n.later in
        let fewer : count_before 0 (is_swap_of i) n.swap.stamp past < swap_count i past =
        count_before-of_all 0 (is_swap_of i) n.swap past n.in_book (passes-said (is_swap_of i) n.swap past (Swap i n.call) n.stands (eq-eqb i i refl)) in
        omega (arith, since, up, fewer)

-- an act that fills the buffer is one whose command takes there
filling-takes : (s : Setting) (act : Act) (task : Task) (i : ℕ) → fills_buffer s.mode act ≡ true → has_act s act task i ≡ true → has_act s Takes task i ≡ true
filling-takes s Diffs task i f h = takes-from s Diffs task i h (diff-takes s.mode task.kind task i f)
filling-takes s Holds task i f h = takes-from s Holds task i h (hold-takes s.mode task.kind task i)
filling-takes s Fetches task i f h = absurd (false≢true f)
filling-takes s Puts task i f h = absurd (false≢true f)
filling-takes s Takes task i f h = absurd (false≢true f)
filling-takes s Folds task i f h = absurd (false≢true f)

-- and nothing of its command is held yet
due-unheld : (s : Setting) (past : List Entry) (i c : ℕ) (opened : At) (task : Task) (act : Act) → Grows s past → IsDue s past i c opened task act →
    fills_buffer s.mode act ≡ true → has_owner c (held s i past) ≡ false
due-unheld s past i c opened task act g d f = elim (cases_Bool (has_owner c (held s i past))) [
  | inl owned ↦ absurd (by act f d.of_task d.once (or_cases (some_at (i + 1) (is_act Diffs c) past) (some_at (i + 1) (is_act Holds c) past) (owner-source s i c past g owned)))
  | inr none ↦ none
]
  where
    its : task_of c past ≡ Some task
    its = named-task s opened c task past g d.in_book d.opening

    by : (a : Act) → fills_buffer s.mode a ≡ true → has_act s a task i ≡ true → some_at (i + 1) (is_act a c) past ≡ false →
        (some_at (i + 1) (is_act Diffs c) past ≡ true) ⊎ (some_at (i + 1) (is_act Holds c) past ≡ true) → ⊥
    by Diffs k h once (inl diff) = both_ways (some_at (i + 1) (is_act Diffs c) past) once diff
    by Diffs k h once (inr hold) = never-both s i c past (task, (its, h)) (acted-has s i c Holds past g hold)
    by Holds k h once (inl diff) = never-both s i c past (acted-has s i c Diffs past g diff) (task, (its, h))
    by Holds k h once (inr hold) = both_ways (some_at (i + 1) (is_act Holds c) past) once hold
    by Fetches k h once x = false≢true k
    by Puts k h once x = false≢true k
    by Takes k h once x = false≢true k
    by Folds k h once x = false≢true k

-- the blocks that the act will hold
abbrev filler : Setting → ℕ → Task → HeldBlocks
filler s c task = record { owner = c; row = task.row; bytes = zeros (task_bytes s task) }

all-apart_from : (s : Setting) (past : List Entry) (i c : ℕ) (task : Task) → IsSetting s → Grows s past → is_open c past ≡ true → task_of c past ≡ Some task →
    has_act s Takes task i ≡ true → has_owner c (held s i past) ≡ false → AllByRecursion (IsApartFrom s task) (held s i past)
all-apart_from s past i c task set g o its takes none =
    all-owned (IsHeld s i past) (IsApartFrom s task) (held s i past) (λ h owned p. apart h owned p) (holding s i past set.array.least_block g).each
  where
    apart : (h : HeldBlocks) → has_owner h.owner (held s i past) ≡ true → IsHeld s i past h → IsApartFrom s task h
    apart h owned p r =
        let other : c ≢ h.owner = λ same. both_ways (has_owner c (held s i past)) none (subst (λ (n : ℕ). has_owner n (held s i past) ≡ true) (sym same) owned) in
        ap (λ n. covers s.geometry.block task.row n r && covers s.geometry.block h.row (length h.bytes) r) (sym (length-replicate (task_bytes s task) 0))
        ∙ apart-rows s.geometry.block (filler s c task) h task p.task r set.array.least_block refl p.from_row (length-replicate (task_bytes s task) 0) p.whole
        (open-takers-apart s i c h.owner task p.task past g other o (holder-open s i past h g owned p) its
        (named-task s p.opened h.owner p.task past g p.in_book p.opening) takes p.takes)

room-left : (s : Setting) (past : List Entry) (i c : ℕ) (task : Task) → IsSetting s → Grows s past → is_open c past ≡ true → task_of c past ≡ Some task →
    has_act s Takes task i ≡ true → has_owner c (held s i past) ≡ false → held_blocks s.geometry.block (held s i past) + task.count ≤ s.buffer
room-left s past i c task set g o its takes none =
    let counted : held_blocks s.geometry.block (filler s c task ∷ held s i past) ≤ held_count s past i past =
    held-counted s past i past (filler s c task ∷ held s i past) (none, (holding s i past set.array.least_block g).distinct) (mine, others) in
    let fits : held_count s past i past ≤ s.buffer = all-fits s i past g in
    let size : length (zeros (task_bytes s task)) / s.geometry.block ≡ task.count =
    blocks_in s.geometry.block task.count (length (zeros (task_bytes s task))) set.array.least_block (length-replicate (task_bytes s task) 0) in
    omega (arith, counted, fits, size)
  where
    mine : IsCounted s past past i (filler s c task)
    mine = record {
      task = task;
      its_task = its;
      open_still = o;
      holds = takes-holds s task i (acts-there s Takes task i takes);
      fits =
          let size : length (zeros (task_bytes s task)) / s.geometry.block ≡ task.count =
          blocks_in s.geometry.block task.count (length (zeros (task_bytes s task))) set.array.least_block (length-replicate (task_bytes s task) 0) in
          omega (arith, size);
    }

    one : (h : HeldBlocks) → has_owner h.owner (held s i past) ≡ true → IsHeld s i past h → IsCounted s past past i h
    one h owned p = record {
      task = p.task;
      its_task = named-task s p.opened h.owner p.task past g p.in_book p.opening;
      open_still = holder-open s i past h g owned p;
      holds = takes-holds s p.task i (acts-there s Takes p.task i p.takes);
      fits =
          let size : length h.bytes / s.geometry.block ≡ p.task.count = blocks_in s.geometry.block p.task.count (length h.bytes) set.array.least_block p.whole in
          omega (arith, size);
    }

    others : AllByRecursion (IsCounted s past past i) (held s i past)
    others = all-owned (IsHeld s i past) (IsCounted s past past i) (held s i past) (λ h owned p. one h owned p) (holding s i past set.array.least_block g).each

pub no-other_answer : NoOtherAnswerLaw
no-other_answer s i c opened task act past set g d = record {
  same_life = due-life s past i c opened task act g d;
  in_range = rows-fit s task sound;
  short = omega (arith, sound.from_stripe, sound.to_stripe);
  unheld = λ f. all-apart_from s past i c task set g d.open_still its (filling-takes s act task i f d.of_task) (due-unheld s past i c opened task act g d f);
  room = λ f. room-left s past i c task set g d.open_still its (filling-takes s act task i f d.of_task) (due-unheld s past i c opened task act g d f);
}
  where
    its : task_of c past ≡ Some task
    its = named-task s opened c task past g d.in_book d.opening

    sound : IsTask s task
    sound = task-sound s c task past g its

    one_more : (n u : ℕ) → (n + 1) * u ≡ n * u + u
    one_more n u = omega arith
