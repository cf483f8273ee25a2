-- A unit is absent exactly where it is missing or its target is gone. Each rebuild that is done counts for the life
-- of the disk that it wrote to, and that is the number of swaps before it was opened: so both the notes and the losses
-- are compared with the newest such life.
use Rattle.std.specs.Prelude.{◌≡◌, ◌||◌, ◌<◌, ◌≤◌, nat_lt, ℕ, ◌+◌, true, false, List}
use Rattle.std.proofs.Common.{ap, sym, ◌∙◌, arith, subst, inl, inr}
use Rattle.std.proofs.lemmas.Bool.{leb-true, le-leb, lt-ltb, le-ltb, ltb-false, cases_Bool, cases_lt, or_left, or_right, or_from, both_ways, false≢true}
use Rattle.sbc_cdbs.specs.declared.descriptor.Cdb.{Cdb}
use Rattle.array_journal.specs.declared.at.At.{At}
use Rattle.array_journal.specs.declared.entry.Entry.{Entry}
use Rattle.array_journal.specs.declared.event.Event.{Event}
use Rattle.array_journal.specs.declared.event.Event.TheVariants.{Open, Gone}
use Rattle.array_journal.specs.declared.setting.Setting.{Setting}
use Rattle.array_journal.specs.declared.task.Task.{Task}
use Rattle.array_journal.specs.Entries.{some_at, count_before}
use Rattle.array_journal.specs.declared.act.Act.{Act}
use Rattle.array_journal.specs.Lives.{is_swap_of, is_gone, life_of, swap_count, is_absent, is_missing}
use Rattle.array_journal.specs.May.{MayAct}
use Rattle.array_journal.specs.Run.{Grows}
use Rattle.array_journal.specs.Laws.{note_count, unfitted_count, is_loss_from, entries_before}
use Rattle.array_journal.proofs.lives.LifeLaws.{notes-swaps, noted-loss, working-loss, working-counts, gone-loss}
use Rattle.array_journal.proofs.owed.ActBars.{some_at-weaker}
use Rattle.array_journal.proofs.lives.OpenedSwaps.{swaps-before, fresh-le_before}
use Rattle.array_journal.proofs.lives.RebuiltLives.{rebuilt_in, put_life-le, put_life-same, before-grows, rebuilt-since}
use Rattle.array_journal.proofs.lives.MissingCounts.{absent-counted, missing-here}

-- a loss since then: one that the book noted since, or one that lasts
lost-since : (s : Setting) (i n : ℕ) (past : List Entry) → Grows s past → n ≤ life_of i past →
    some_at (i + 1) (is_loss_from n) past ≡ (nat_lt n (note_count i past) || is_gone i past)
lost-since s i n past g l = elim (cases_Bool (is_gone i past)) [
  | inl gone_now ↦ lasting gone_now ∙ sym (or_right (nat_lt n (note_count i past)) (is_gone i past) gone_now)
  | inr works ↦ elim (cases_Bool (some_at (i + 1) (is_loss_from n) past)) [
    | inl lost ↦ lost ∙ sym (or_left (nat_lt n (note_count i past)) (is_gone i past) (lt-ltb n (note_count i past) (noted works lost)))
    | inr kept ↦ kept ∙ sym (or_from (nat_lt n (note_count i past)) (is_gone i past) (le-ltb n (note_count i past) (unnoted kept)) works)
  ]
]
  where
    weaker : (event : Event) → is_loss_from (life_of i past) event ≡ true → is_loss_from n event ≡ true
    weaker (Gone life call commands) h = let a : life_of i past ≤ life = leb-true (life_of i past) life h in le-leb n life (omega arith)
    weaker _ h = absurd (false≢true h)

    lasting : is_gone i past ≡ true → some_at (i + 1) (is_loss_from n) past ≡ true
    lasting h = some_at-weaker (i + 1) (is_loss_from (life_of i past)) (is_loss_from n) past weaker (gone-loss s i past g h)

    noted : is_gone i past ≡ false → some_at (i + 1) (is_loss_from n) past ≡ true → n < note_count i past
    noted works lost =
        let a : n < life_of i past = working-loss s i n past g works lost in
        let b : (note_count i past ≡ life_of i past) × (swap_count i past ≡ life_of i past) = working-counts s i past g works in
        let d : note_count i past ≡ life_of i past = b.0 in omega arith

    unnoted : some_at (i + 1) (is_loss_from n) past ≡ false → note_count i past ≤ n
    unnoted kept = elim (cases_lt n (note_count i past)) [
      | inl more ↦ absurd (both_ways (some_at (i + 1) (is_loss_from n) past) kept (noted-loss s i n past g more))
      | inr within ↦ within
    ]

-- a unit is absent exactly where it is missing or its target is gone
pub absent-exactly : (s : Setting) (i stripe : ℕ) (past : List Entry) → Grows s past → is_absent i stripe past ≡ (is_missing i stripe past || is_gone i past)
absent-exactly s i stripe past g =
    absent-counted s past i stripe past g
    ∙ ap (λ (n : ℕ). some_at (i + 1) (is_loss_from n) past) (put_life-same s i stripe past g)
    ∙ lost-since s i (rebuilt_in past i stripe past) past g
    (subst (λ (n : ℕ). n ≤ life_of i past) (put_life-same s i stripe past g) (put_life-le past i stripe past))
    ∙ sym (ap (λ b. b || is_gone i past) (missing-here s i stripe past g))

-- where the unit of an act wasn't missing at the opening of its command, it isn't absent at the act
pub act-present : (s : Setting) (past : List Entry) (stamp i stripe c : ℕ) (opened : At) (cdb : Cdb) (row len sources : ℕ) (task : Task) (act : Act) → Grows s past →
    MayAct s past stamp i c opened cdb row len sources task act → is_missing i stripe (entries_before opened past) ≡ false → is_absent i stripe past ≡ false
act-present s past stamp i stripe c opened cdb row len sources task act g m h =
    absent-exactly s i stripe past g ∙ or_from (is_missing i stripe past) (is_gone i past) present m.not_gone
  where
    older : List Entry
    older = entries_before opened past

    known : note_count i older ≤ rebuilt_in older i stripe older
    known = ltb-false (rebuilt_in older i stripe older) (note_count i older) (sym (missing-here s i stripe older (before-grows s opened past g)) ∙ h)

    present : is_missing i stripe past ≡ false
    present =
        let a : note_count i older ≤ rebuilt_in older i stripe older = known in
        let b : rebuilt_in older i stripe older ≤ rebuilt_in past i stripe past = rebuilt-since s i stripe opened past g in
        let d : (note_count i past ≡ life_of i past) × (swap_count i past ≡ life_of i past) = working-counts s i past g m.not_gone in
        let n : note_count i past ≡ life_of i past = d.0 in
        let f : life_of i past ≤ count_before 0 (is_swap_of i) opened.stamp past = fresh-le_before s i opened past g m.same_life in
        let w : count_before 0 (is_swap_of i) opened.stamp past ≤ swap_count i older = swaps-before s i opened (Open c task) past g m.in_book m.opening.0 in
        let v : note_count i older ≡ swap_count i older + unfitted_count i older = notes-swaps s i older (before-grows s opened past g) in
        missing-here s i stripe past g ∙ le-ltb (rebuilt_in past i stripe past) (note_count i past) (omega arith)
