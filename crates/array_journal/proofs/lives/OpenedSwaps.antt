-- How often a slot was swapped before a command was opened: an opened command keeps that number, an opening that is named tells
-- it by its stamp, and no act comes after a disk that was put in for a later swap.
use Rattle.std.specs.Prelude.{◌≡◌, ◌==◌, ◌&&◌, ◌<◌, ◌≤◌, ℕ, Bool, true, false, List, [], ◌∷◌, Some, if◌then◌else◌, suc, ◌+◌}
use Rattle.std.proofs.Common.{refl, ap, sym, ◌∙◌, cond, arith, subst, inl, inr}
use Rattle.std.proofs.lemmas.Bool.{eq-eqb, ne_eqb, eqb-true, cases_eq, and_from, and_parts, and_left, and_right, cond-true, cond-false, cases_lt, le-leb, both_ways}
use Rattle.array_journal.specs.declared.at.At.{At}
use Rattle.array_journal.specs.declared.entry.Entry.{Entry}
use Rattle.array_journal.specs.declared.event.Event.{Event}
use Rattle.array_journal.specs.declared.event.Event.TheVariants.{Open, Fresh, Swap}
use Rattle.array_journal.specs.declared.setting.Setting.{Setting}
use Rattle.array_journal.specs.declared.task.Task.{Task}
use Rattle.array_journal.specs.Entries.{name_of, same_at, entry_at, some_at, count_before, stamps_below}
use Rattle.array_journal.specs.Commands.{opens_command}
use Rattle.array_journal.specs.Lives.{is_swap_of, swap_count, life_of, is_fresh}
use Rattle.array_journal.specs.Run.{Grows}
use Rattle.array_journal.specs.Laws.{entries_before}
use Rattle.array_journal.proofs.runs.Standing.{count_at-more, IsNameOf, entry_at-cases, count_before-still, count_before-all, named-below, passes-said, may-here, some_at-older, some_at-newest, count_at-else, count_before-more, count_before-named}
use Rattle.array_journal.proofs.runs.CommandLaws.{opened-once, named-opened}
use Rattle.array_journal.specs.May.{swapped_since, freshes_after}
use Rattle.array_journal.proofs.lives.LifeLaws.{DiskStep, loses, renews, keeps, disk-step, life-here}

-- how often slot i was swapped before a command was opened
abbrev pub opened_swaps : ℕ → ℕ → List Entry → ℕ
opened_swaps i c [] = 0
opened_swaps i c (e ∷ past) = if (e.lock == 0) && opens_command c e.event then swap_count i past else opened_swaps i c past

-- a choice of two numbers that are both small
pub either_le : (b : Bool) (m n k : ℕ) → m ≤ k → n ≤ k → cond b m n ≤ k
either_le true m n k p q = p
either_le false m n k p q = q

pub opened_swaps-le : (i c : ℕ) (past : List Entry) → opened_swaps i c past ≤ swap_count i past
opened_swaps-le i c [] = omega arith
opened_swaps-le i c (e ∷ past) =
    let a : swap_count i past ≤ swap_count i (e ∷ past) = count_at-more 0 (is_swap_of i) e past in
    let b : opened_swaps i c past ≤ swap_count i past = opened_swaps-le i c past in
    either_le ((e.lock == 0) && opens_command c e.event) (swap_count i past) (opened_swaps i c past) (swap_count i (e ∷ past)) a (omega arith)

-- an opened command keeps its number of swaps
pub opened_swaps-more : (s : Setting) (i c : ℕ) (e : Entry) (past : List Entry) → Grows s (e ∷ past) → some_at 0 (opens_command c) past ≡ true →
    opened_swaps i c (e ∷ past) ≡ opened_swaps i c past
opened_swaps-more s i c e past g h = cond-false ((e.lock == 0) && opens_command c e.event) (swap_count i past) (opened_swaps i c past) (elim (cases_eq e.lock 0) [
  | inl book ↦ and_right (e.lock == 0) (opens_command c e.event) (opened-once s c e past g.1 g.0.1 book h)
  | inr other ↦ and_left (e.lock == 0) (opens_command c e.event) (ne_eqb e.lock 0 other)
])

-- an opening that is named: the swaps with a smaller stamp were before it
pub named-swaps : (s : Setting) (i : ℕ) (opened : At) (c : ℕ) (task : Task) (past : List Entry) → Grows s past → opened.lock ≡ 0 → entry_at opened past ≡ Some (Open c task) →
    count_before 0 (is_swap_of i) opened.stamp past ≤ opened_swaps i c past
named-swaps s i opened c task [] g book h = omega arith
named-swaps s i opened c task (e ∷ past) g book h = elim (entry_at-cases opened e past (Open c task) h) [
  | inl here ↦ newest here
  | inr older ↦ let a : count_before 0 (is_swap_of i) opened.stamp past ≤ opened_swaps i c past = named-swaps s i opened c task past g.1 book older in
      let b : count_before 0 (is_swap_of i) opened.stamp (e ∷ past) ≡ count_before 0 (is_swap_of i) opened.stamp past =
      count_before-still 0 (is_swap_of i) opened.stamp e past (earlier older) in
      let d : opened_swaps i c (e ∷ past) ≡ opened_swaps i c past = opened_swaps-more s i c e past g (named-opened opened c task past book older) in omega arith
]
  where
    earlier : entry_at opened past ≡ Some (Open c task) → e.lock ≡ 0 → opened.stamp ≤ e.stamp
    earlier older at_book =
        let l : opened.stamp < e.stamp =
        named-below (λ x. true) e.stamp opened past (subst (λ (k : ℕ). stamps_below k e.stamp past ≡ true) (at_book ∙ sym book) g.0.1.0)
        (passes-said (λ x. true) opened past (Open c task) older refl) in omega arith

    newest : IsNameOf opened e × (e.event ≡ Open c task) → count_before 0 (is_swap_of i) opened.stamp (e ∷ past) ≤ opened_swaps i c (e ∷ past)
    newest here =
        let f : opened.stamp ≡ e.stamp = here.0.0 in
        let a : count_before 0 (is_swap_of i) opened.stamp (e ∷ past) ≡ count_before 0 (is_swap_of i) opened.stamp past =
        count_before-still 0 (is_swap_of i) opened.stamp e past (λ q. omega arith) in
        let b : count_before 0 (is_swap_of i) opened.stamp past ≤ swap_count i past = count_before-all 0 (is_swap_of i) opened.stamp past in
        let d : opened_swaps i c (e ∷ past) ≡ swap_count i past =
        cond-true ((e.lock == 0) && opens_command c e.event) (swap_count i past) (opened_swaps i c past)
        (and_from (e.lock == 0) (opens_command c e.event) (eq-eqb e.lock 0 (sym here.0.1 ∙ book)) (ap (opens_command c) here.1 ∙ eq-eqb c c refl)) in omega arith

-- the swaps with a smaller stamp than an entry of the book were before it
pub swaps-before : (s : Setting) (i : ℕ) (name : At) (event : Event) (past : List Entry) → Grows s past → name.lock ≡ 0 → entry_at name past ≡ Some event →
    count_before 0 (is_swap_of i) name.stamp past ≤ swap_count i (entries_before name past)
swaps-before s i name event [] g book h = absurd cc
swaps-before s i name event (e ∷ past) g book h = choose (same_at name (name_of e)) refl (λ k. swaps-before s i name event past g.1 book k) h
  where
    still : (e.lock ≡ 0 → name.stamp ≤ e.stamp) → count_before 0 (is_swap_of i) name.stamp (e ∷ past) ≡ count_before 0 (is_swap_of i) name.stamp past
    still q = count_before-still 0 (is_swap_of i) name.stamp e past q

    earlier : entry_at name past ≡ Some event → e.lock ≡ 0 → name.stamp ≤ e.stamp
    earlier older at_book =
        let l : name.stamp < e.stamp =
        named-below (λ x. true) e.stamp name past (subst (λ (k : ℕ). stamps_below k e.stamp past ≡ true) (at_book ∙ sym book) g.0.1.0)
        (passes-said (λ x. true) name past event older refl) in omega arith

    choose : (b : Bool) → same_at name (name_of e) ≡ b →
        (entry_at name past ≡ Some event → count_before 0 (is_swap_of i) name.stamp past ≤ swap_count i (entries_before name past)) →
        cond b (Some e.event) (entry_at name past) ≡ Some event →
        count_before 0 (is_swap_of i) name.stamp (e ∷ past) ≤ swap_count i (cond b past (entries_before name past))
    choose true q rec k =
        let f : name.stamp ≡ e.stamp = eqb-true name.stamp e.stamp (and_parts (name.stamp == e.stamp) (name.lock == e.lock) q).0 in
        let a : count_before 0 (is_swap_of i) name.stamp (e ∷ past) ≡ count_before 0 (is_swap_of i) name.stamp past = still (λ x. omega arith) in
        let b : count_before 0 (is_swap_of i) name.stamp past ≤ swap_count i past = count_before-all 0 (is_swap_of i) name.stamp past in omega arith
    choose false q rec k =
        let a : count_before 0 (is_swap_of i) name.stamp (e ∷ past) ≡ count_before 0 (is_swap_of i) name.stamp past = still (earlier k) in
        let b : count_before 0 (is_swap_of i) name.stamp past ≤ swap_count i (entries_before name past) = rec k in omega arith

-- the disks that were put in for a command that may act: each for a swap before its opening
pub fresh-le_before : (s : Setting) (i : ℕ) (opened : At) (past : List Entry) → Grows s past → freshes_after i opened past ≡ false →
    life_of i past ≤ count_before 0 (is_swap_of i) opened.stamp past
fresh-le_before s i opened [] g h = omega arith
fresh-le_before s i opened (e ∷ past) g h = elim (cases_eq e.lock (i + 1)) [
  | inl here ↦ at_disk here (fresh-le_before s i opened past g.1 (some_at-older (i + 1) (swapped_since opened) e past h))
      (disk-step i s past e.stamp e.event (may-here s past e.stamp e.lock i e.event here g.0.1.1))
  | inr other ↦ let a : life_of i (e ∷ past) ≡ life_of i past = count_at-else (i + 1) is_fresh e past other in
      let b : life_of i past ≤ count_before 0 (is_swap_of i) opened.stamp past =
      fresh-le_before s i opened past g.1 (some_at-older (i + 1) (swapped_since opened) e past h) in
      let d : count_before 0 (is_swap_of i) opened.stamp past ≤ count_before 0 (is_swap_of i) opened.stamp (e ∷ past) =
      count_before-more 0 (is_swap_of i) opened.stamp e past in omega arith
]
  where
    before : e.lock ≡ i + 1 → (call : ℕ) (swap : At) → e.event ≡ Fresh call swap → swap.stamp < opened.stamp
    before here call swap k = elim (cases_lt swap.stamp opened.stamp) [
      | inl less ↦ less
      | inr more ↦ absurd (both_ways (some_at (i + 1) (swapped_since opened) (e ∷ past)) h (since here call swap k more))
    ]
      where
        since : e.lock ≡ i + 1 → (call : ℕ) (swap : At) → e.event ≡ Fresh call swap → opened.stamp ≤ swap.stamp →
            some_at (i + 1) (swapped_since opened) (e ∷ past) ≡ true
        since here call swap k more = some_at-newest (i + 1) (swapped_since opened) e past here (ap (swapped_since opened) k ∙ le-leb opened.stamp swap.stamp more)

    at_disk : e.lock ≡ i + 1 → life_of i past ≤ count_before 0 (is_swap_of i) opened.stamp past → DiskStep i past e.stamp e.event →
        life_of i (e ∷ past) ≤ count_before 0 (is_swap_of i) opened.stamp (e ∷ past)
    at_disk here old (loses l f a v) =
        let q : life_of i (e ∷ past) ≡ life_of i past = life-here i e past false here f in
        let d : count_before 0 (is_swap_of i) opened.stamp past ≤ count_before 0 (is_swap_of i) opened.stamp (e ∷ past) =
        count_before-more 0 (is_swap_of i) opened.stamp e past in omega arith
    at_disk here old (renews l f a v call swap k m) =
        let q : life_of i (e ∷ past) ≡ suc (life_of i past) = life-here i e past true here f in
        let r : count_before 0 (is_swap_of i) swap.stamp past < count_before 0 (is_swap_of i) opened.stamp past =
        count_before-named 0 (is_swap_of i) swap opened.stamp past m.in_book (passes-said (is_swap_of i) swap past (Swap i call) m.swapped.0 (eq-eqb i i refl))
        (before here call swap k) in
        let t : count_before 0 (is_swap_of i) swap.stamp past ≡ life_of i past = m.next_disk in
        let d : count_before 0 (is_swap_of i) opened.stamp past ≤ count_before 0 (is_swap_of i) opened.stamp (e ∷ past) =
        count_before-more 0 (is_swap_of i) opened.stamp e past in omega arith
    at_disk here old (keeps l f a v) =
        let q : life_of i (e ∷ past) ≡ life_of i past = life-here i e past false here f in
        let d : count_before 0 (is_swap_of i) opened.stamp past ≤ count_before 0 (is_swap_of i) opened.stamp (e ∷ past) =
        count_before-more 0 (is_swap_of i) opened.stamp e past in omega arith
