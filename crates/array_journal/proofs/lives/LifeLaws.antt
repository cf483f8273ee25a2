-- The lives of a slot in a run: losses, notes, swaps and fresh disks come in their order.
use Rattle.std.specs.Prelude.{◌≡◌, ◌==◌, ◌&&◌, ◌<◌, ◌≤◌, ◌⊎◌, nat_le, ℕ, suc, ◌+◌, Bool, true, false, List, [], ◌∷◌, Option, Some, None, is_some}
use Rattle.std.proofs.Common.{refl, ap, sym, ◌∙◌, cond, arith, subst, inl, inr}
use Rattle.std.proofs.lemmas.Bool.{eq-eqb, ne_eqb, eqb-true, le-leb, leb-true, cases_eq, cases_lt, both_ways, false≢true, cond-true, cond-false}
use Rattle.array_journal.specs.declared.at.At.{At}
use Rattle.array_journal.specs.declared.entry.Entry.{Entry}
use Rattle.array_journal.specs.declared.event.Event.{Event}
use Rattle.array_journal.specs.declared.event.Event.TheVariants.{Gone, Fresh, Note, Swap}
use Rattle.array_journal.specs.declared.setting.Setting.{Setting}
use Rattle.array_journal.specs.Entries.{name_of, entry_at, some_at, count_at, count_before}
use Rattle.array_journal.specs.Lives.{is_fresh, is_note_of, is_swap_of, is_loss, loss_after, loss_of, is_gone, life_of, swap_count, is_unfitted}
use Rattle.array_journal.specs.May.{MayBook, MayTarget, passes, is_loss_in, MayNote, MaySwap, MayFresh}
use Rattle.array_journal.specs.Run.{Grows}
use Rattle.array_journal.specs.Laws.{note_count, unfitted_count, is_loss_from}
use Rattle.array_journal.proofs.runs.Standing.{may-book, may-here, some_at-else, some_at-cases, some_at-more, some_at-newest, count_at-here, count_at-else, count_at-more, some-named, passes-said, count_before-of_all, passes-weaker}

-- the state of a slot after one more entry
pub loss_of-here : (i : ℕ) (e : Entry) (past : List Entry) → e.lock ≡ i + 1 → loss_of i (e ∷ past) ≡ loss_after (name_of e) e.event (loss_of i past)
loss_of-here i e past h = cond-true (e.lock == i + 1) _ _ (eq-eqb e.lock (i + 1) h)

pub loss_of-else : (i : ℕ) (e : Entry) (past : List Entry) → (e.lock ≡ i + 1 → ⊥) → loss_of i (e ∷ past) ≡ loss_of i past
loss_of-else i e past h = cond-false (e.lock == i + 1) _ _ (ne_eqb e.lock (i + 1) h)

pub is_gone-else : (i : ℕ) (e : Entry) (past : List Entry) → (e.lock ≡ i + 1 → ⊥) → is_gone i (e ∷ past) ≡ is_gone i past
is_gone-else i e past h = ap (λ (o : Option At). is_some o) (loss_of-else i e past h)

pub is_unfitted-else : (i : ℕ) (e : Entry) (past : List Entry) → (e.lock ≡ 0 → ⊥) → is_unfitted i (e ∷ past) ≡ is_unfitted i past
is_unfitted-else i e past h =
    ap (λ b. cond (b && is_note_of i e.event) true (cond (b && is_swap_of i e.event) false (is_unfitted i past))) (ne_eqb e.lock 0 h)

pub is_unfitted-here : (i : ℕ) (e : Entry) (past : List Entry) → e.lock ≡ 0 →
    is_unfitted i (e ∷ past) ≡ cond (is_note_of i e.event) true (cond (is_swap_of i e.event) false (is_unfitted i past))
is_unfitted-here i e past h =
    ap (λ b. cond (b && is_note_of i e.event) true (cond (b && is_swap_of i e.event) false (is_unfitted i past))) (eq-eqb e.lock 0 h)

-- what an entry of the book does to a slot: it notes its loss, swaps its disk, or nothing
pub data BookStep (i : ℕ) (s : Setting) (past : List Entry) (stamp : ℕ) (event : Event) : Type 0 where
  notes : (lost : At) → event ≡ Note i lost → MayNote past stamp i lost → BookStep i s past stamp event
  swaps : (call : ℕ) → event ≡ Swap i call → MaySwap s past i → BookStep i s past stamp event
  neither : is_note_of i event ≡ false → is_swap_of i event ≡ false → BookStep i s past stamp event

pub book-step : (i : ℕ) (s : Setting) (past : List Entry) (stamp : ℕ) (event : Event) → MayBook s past stamp event → BookStep i s past stamp event
book-step i s past stamp (Note slot lost) m = elim (cases_eq slot i) [
  | inl same ↦ notes lost (ap (λ n. Note n lost) same) (subst (λ (n : ℕ). MayNote past stamp n lost) same m.1)
  | inr other ↦ neither (ne_eqb slot i other) refl
]
book-step i s past stamp (Swap slot call) m = elim (cases_eq slot i) [
  | inl same ↦ swaps call (ap (λ n. Swap n call) same) (subst (λ (n : ℕ). MaySwap s past n) same m.1)
  | inr other ↦ neither refl (ne_eqb slot i other)
]
book-step i s past stamp _ m = neither refl refl

-- what an entry of a target does to its disk: it is lost, a new one comes, or nothing
pub data DiskStep (i : ℕ) (past : List Entry) (stamp : ℕ) (event : Event) : Type 0 where
  loses : is_loss event ≡ true → is_fresh event ≡ false → ((at : At) (old : Option At) → loss_after at event old ≡ Some at) →
      ((w : ℕ) → is_loss_from w event ≡ nat_le w (life_of i past)) → DiskStep i past stamp event
  renews : is_loss event ≡ false → is_fresh event ≡ true → ((at : At) (old : Option At) → loss_after at event old ≡ None) →
      ((w : ℕ) → is_loss_from w event ≡ false) → (call : ℕ) (swap : At) → event ≡ Fresh call swap → MayFresh past stamp i call swap → DiskStep i past stamp event
  keeps : is_loss event ≡ false → is_fresh event ≡ false → ((at : At) (old : Option At) → loss_after at event old ≡ old) →
      ((w : ℕ) → is_loss_from w event ≡ false) → DiskStep i past stamp event

pub disk-step : (i : ℕ) (s : Setting) (past : List Entry) (stamp : ℕ) (event : Event) → MayTarget s past stamp i event → DiskStep i past stamp event
disk-step i s past stamp (Gone life call commands) m = loses refl refl (λ at old. refl) (λ w. ap (nat_le w) m.says_life)
disk-step i s past stamp (Fresh call swap) m = renews refl refl (λ at old. refl) (λ w. refl) call swap refl m
disk-step i s past stamp _ m = keeps refl refl (λ at old. refl) (λ w. refl)

-- notes and swaps alternate
pub notes-swaps : (s : Setting) (i : ℕ) (past : List Entry) → Grows s past → note_count i past ≡ swap_count i past + unfitted_count i past
notes-swaps s i [] g = refl
notes-swaps s i (e ∷ past) g = elim (cases_eq e.lock 0) [
  | inl book ↦ here book (notes-swaps s i past g.1) (book-step i s past e.stamp e.event (may-book s past e.stamp e.lock e.event book g.0.1.1))
  | inr other ↦ count_at-else 0 (is_note_of i) e past other ∙ notes-swaps s i past g.1
      ∙ sym (ap (λ n. n + unfitted_count i (e ∷ past)) (count_at-else 0 (is_swap_of i) e past other) ∙ ap (λ b. swap_count i past + cond b 1 0) (is_unfitted-else i e past other))
]
  where
    here : e.lock ≡ 0 → note_count i past ≡ swap_count i past + unfitted_count i past → BookStep i s past e.stamp e.event →
        note_count i (e ∷ past) ≡ swap_count i (e ∷ past) + unfitted_count i (e ∷ past)
    here book old (notes lost q m) =
        let a : is_note_of i e.event ≡ true = ap (is_note_of i) q ∙ eq-eqb i i refl in
        let b : is_swap_of i e.event ≡ false = ap (is_swap_of i) q in
        let n : note_count i (e ∷ past) ≡ suc (note_count i past) = count_at-here 0 (is_note_of i) e past book ∙ cond-true (is_note_of i e.event) _ _ a in
        let w : swap_count i (e ∷ past) ≡ swap_count i past = count_at-here 0 (is_swap_of i) e past book ∙ cond-false (is_swap_of i e.event) _ _ b in
        let u : unfitted_count i (e ∷ past) ≡ 1 = ap (λ x. cond x 1 0) (is_unfitted-here i e past book ∙ cond-true (is_note_of i e.event) _ _ a) in
        let v : unfitted_count i past ≡ 0 = ap (λ x. cond x 1 0) m.not_known in omega arith
    here book old (swaps call q m) =
        let a : is_note_of i e.event ≡ false = ap (is_note_of i) q in
        let b : is_swap_of i e.event ≡ true = ap (is_swap_of i) q ∙ eq-eqb i i refl in
        let n : note_count i (e ∷ past) ≡ note_count i past = count_at-here 0 (is_note_of i) e past book ∙ cond-false (is_note_of i e.event) _ _ a in
        let w : swap_count i (e ∷ past) ≡ suc (swap_count i past) = count_at-here 0 (is_swap_of i) e past book ∙ cond-true (is_swap_of i e.event) _ _ b in
        let u : unfitted_count i (e ∷ past) ≡ 0 =
        ap (λ x. cond x 1 0) (is_unfitted-here i e past book ∙ cond-false (is_note_of i e.event) _ _ a ∙ cond-true (is_swap_of i e.event) _ _ b) in
        let v : unfitted_count i past ≡ 1 = ap (λ x. cond x 1 0) m.known in omega arith
    here book old (neither a b) =
        let n : note_count i (e ∷ past) ≡ note_count i past = count_at-here 0 (is_note_of i) e past book ∙ cond-false (is_note_of i e.event) _ _ a in
        let w : swap_count i (e ∷ past) ≡ swap_count i past = count_at-here 0 (is_swap_of i) e past book ∙ cond-false (is_swap_of i e.event) _ _ b in
        let u : unfitted_count i (e ∷ past) ≡ unfitted_count i past =
        ap (λ x. cond x 1 0) (is_unfitted-here i e past book ∙ cond-false (is_note_of i e.event) _ _ a ∙ cond-false (is_swap_of i e.event) _ _ b) in omega arith

-- the swap that a fresh disk names isn't among those before it
pub fresh-swapped : (past : List Entry) (stamp i call : ℕ) (swap : At) → MayFresh past stamp i call swap → life_of i past < swap_count i past
fresh-swapped past stamp i call swap m =
    let a : count_before 0 (is_swap_of i) swap.stamp past < count_at 0 (is_swap_of i) past =
    count_before-of_all 0 (is_swap_of i) swap past m.in_book (passes-said (is_swap_of i) swap past (Swap i call) m.swapped.0 (eq-eqb i i refl)) in
    let b : count_before 0 (is_swap_of i) swap.stamp past ≡ life_of i past = m.next_disk in omega arith

pub life-here : (i : ℕ) (e : Entry) (past : List Entry) (b : Bool) → e.lock ≡ i + 1 → is_fresh e.event ≡ b → life_of i (e ∷ past) ≡ cond b (suc (life_of i past)) (life_of i past)
life-here i e past b h f = count_at-here (i + 1) is_fresh e past h ∙ ap (λ x. cond x (suc (life_of i past)) (life_of i past)) f

pub life-more : (i : ℕ) (e : Entry) (past : List Entry) → life_of i past ≤ life_of i (e ∷ past)
life-more i e past = count_at-more (i + 1) is_fresh e past

-- no disk is fresh that wasn't swapped
pub fresh-le_swaps : (s : Setting) (i : ℕ) (past : List Entry) → Grows s past → life_of i past ≤ swap_count i past
fresh-le_swaps s i [] g = omega arith
fresh-le_swaps s i (e ∷ past) g = elim (cases_eq e.lock (i + 1)) [
  | inl h ↦ here h (fresh-le_swaps s i past g.1) (disk-step i s past e.stamp e.event (may-here s past e.stamp e.lock i e.event h g.0.1.1))
  | inr other ↦ let a : life_of i (e ∷ past) ≡ life_of i past = count_at-else (i + 1) is_fresh e past other in
      let b : life_of i past ≤ swap_count i past = fresh-le_swaps s i past g.1 in
      let d : swap_count i past ≤ swap_count i (e ∷ past) = count_at-more 0 (is_swap_of i) e past in omega arith
]
  where
    here : e.lock ≡ i + 1 → life_of i past ≤ swap_count i past → DiskStep i past e.stamp e.event → life_of i (e ∷ past) ≤ swap_count i (e ∷ past)
    here h old (loses l f a w) =
        let q : life_of i (e ∷ past) ≡ life_of i past = life-here i e past false h f in
        let d : swap_count i past ≤ swap_count i (e ∷ past) = count_at-more 0 (is_swap_of i) e past in omega arith
    here h old (renews l f a w call swap k m) =
        let q : life_of i (e ∷ past) ≡ suc (life_of i past) = life-here i e past true h f in
        let r : life_of i past < swap_count i past = fresh-swapped past e.stamp i call swap m in
        let d : swap_count i past ≤ swap_count i (e ∷ past) = count_at-more 0 (is_swap_of i) e past in omega arith
    here h old (keeps l f a w) =
        let q : life_of i (e ∷ past) ≡ life_of i past = life-here i e past false h f in
        let d : swap_count i past ≤ swap_count i (e ∷ past) = count_at-more 0 (is_swap_of i) e past in omega arith

-- a loss is of the life that lasts, in which the disk is gone, or of one before
pub loss-life : (s : Setting) (i w : ℕ) (past : List Entry) → Grows s past → some_at (i + 1) (is_loss_from w) past ≡ true →
    (w < life_of i past) ⊎ ((w ≤ life_of i past) × (is_gone i past ≡ true))
loss-life s i w [] g h = absurd (false≢true h)
loss-life s i w (e ∷ past) g h = elim (cases_eq e.lock (i + 1)) [
  | inl here ↦ at_disk here (λ k. loss-life s i w past g.1 k) (disk-step i s past e.stamp e.event (may-here s past e.stamp e.lock i e.event here g.0.1.1))
  | inr other ↦ elsewhere other (loss-life s i w past g.1 (sym (some_at-else (i + 1) (is_loss_from w) e past other) ∙ h))
]
  where
    Result : List Entry → Type 0
    Result journal = (w < life_of i journal) ⊎ ((w ≤ life_of i journal) × (is_gone i journal ≡ true))

    elsewhere : (e.lock ≡ i + 1 → ⊥) → (w < life_of i past) ⊎ ((w ≤ life_of i past) × (is_gone i past ≡ true)) →
        (w < life_of i (e ∷ past)) ⊎ ((w ≤ life_of i (e ∷ past)) × (is_gone i (e ∷ past) ≡ true))
    elsewhere other (inl less) = let a : life_of i past ≤ life_of i (e ∷ past) = life-more i e past in inl (omega arith)
    elsewhere other (inr both) = let a : life_of i past ≤ life_of i (e ∷ past) = life-more i e past in
        let b : w ≤ life_of i past = both.0 in inr (omega arith, is_gone-else i e past other ∙ both.1)

    at_disk : e.lock ≡ i + 1 → (some_at (i + 1) (is_loss_from w) past ≡ true → (w < life_of i past) ⊎ ((w ≤ life_of i past) × (is_gone i past ≡ true))) →
        DiskStep i past e.stamp e.event → (w < life_of i (e ∷ past)) ⊎ ((w ≤ life_of i (e ∷ past)) × (is_gone i (e ∷ past) ≡ true))
    at_disk here old (loses l f a v) = inr (within, ap (λ (o : Option At). is_some o) (loss_of-here i e past here ∙ a (name_of e) (loss_of i past)))
      where
        older : (w < life_of i past) ⊎ ((w ≤ life_of i past) × (is_gone i past ≡ true)) → w ≤ life_of i (e ∷ past)
        older (inl less) = let q : life_of i past ≤ life_of i (e ∷ past) = life-more i e past in omega arith
        older (inr both) = let q : life_of i past ≤ life_of i (e ∷ past) = life-more i e past in let b : w ≤ life_of i past = both.0 in omega arith

        within : w ≤ life_of i (e ∷ past)
        within = elim (some_at-cases (i + 1) (is_loss_from w) e past h) [
          | inl newest ↦ let q : life_of i past ≤ life_of i (e ∷ past) = life-more i e past in
              let b : w ≤ life_of i past = leb-true w (life_of i past) (sym (v w) ∙ newest.1) in omega arith
          | inr before ↦ older (old before)
        ]
    at_disk here old (renews l f a v call swap k m) = elim (some_at-cases (i + 1) (is_loss_from w) e past h) [
      | inl newest ↦ absurd (both_ways (is_loss_from w e.event) (v w) newest.1)
      | inr before ↦ inl (grown (old before))
    ]
      where
        grown : (w < life_of i past) ⊎ ((w ≤ life_of i past) × (is_gone i past ≡ true)) → w < life_of i (e ∷ past)
        grown (inl less) = let q : life_of i (e ∷ past) ≡ suc (life_of i past) = life-here i e past true here f in omega arith
        grown (inr both) = let q : life_of i (e ∷ past) ≡ suc (life_of i past) = life-here i e past true here f in let b : w ≤ life_of i past = both.0 in omega arith
    at_disk here old (keeps l f a v) = elim (some_at-cases (i + 1) (is_loss_from w) e past h) [
      | inl newest ↦ absurd (both_ways (is_loss_from w e.event) (v w) newest.1)
      | inr before ↦ kept (old before)
    ]
      where
        kept : (w < life_of i past) ⊎ ((w ≤ life_of i past) × (is_gone i past ≡ true)) →
            (w < life_of i (e ∷ past)) ⊎ ((w ≤ life_of i (e ∷ past)) × (is_gone i (e ∷ past) ≡ true))
        kept (inl less) = let q : life_of i past ≤ life_of i (e ∷ past) = life-more i e past in inl (omega arith)
        kept (inr both) = let q : life_of i past ≤ life_of i (e ∷ past) = life-more i e past in let b : w ≤ life_of i past = both.0 in
            inr (omega arith, ap (λ (o : Option At). is_some o) (loss_of-here i e past here ∙ a (name_of e) (loss_of i past)) ∙ both.1)

loss-in_from : (life w : ℕ) (event : Event) → w ≤ life → is_loss_in life event ≡ true → is_loss_from w event ≡ true
loss-in_from life w (Gone its_life call commands) h k = let a : its_life ≡ life = eqb-true its_life life k in le-leb w its_life (omega arith)
loss-in_from life w _ h k = absurd (false≢true k)

-- a loss that is named in a life stands
pub named-loss : (i life w : ℕ) (lost : At) (past : List Entry) → lost.lock ≡ i + 1 → passes (is_loss_in life) (entry_at lost past) ≡ true → w ≤ life →
    some_at (i + 1) (is_loss_from w) past ≡ true
named-loss i life w lost past h p k =
    some-named (i + 1) (is_loss_from w) lost past h
    (passes-weaker (is_loss_in life) (is_loss_from w) (entry_at lost past) (λ event. loss-in_from life w event k) p)

-- each note is of a loss, in the life of its number
pub noted-loss : (s : Setting) (i w : ℕ) (past : List Entry) → Grows s past → w < note_count i past → some_at (i + 1) (is_loss_from w) past ≡ true
noted-loss s i w [] g h = absurd (omega arith)
noted-loss s i w (e ∷ past) g h = elim (cases_lt w (note_count i past)) [
  | inl less ↦ some_at-more (i + 1) (is_loss_from w) e past (noted-loss s i w past g.1 less)
  | inr more ↦ some_at-more (i + 1) (is_loss_from w) e past (newest more)
]
  where
    here : note_count i past ≤ w → e.lock ≡ 0 → BookStep i s past e.stamp e.event → some_at (i + 1) (is_loss_from w) past ≡ true
    here more book (notes lost q m) =
        let n : note_count i (e ∷ past) ≡ suc (note_count i past) =
        count_at-here 0 (is_note_of i) e past book ∙ cond-true (is_note_of i e.event) _ _ (ap (is_note_of i) q ∙ eq-eqb i i refl) in
        let u : unfitted_count i past ≡ 0 = ap (λ x. cond x 1 0) m.not_known in
        let v : note_count i past ≡ swap_count i past + unfitted_count i past = notes-swaps s i past g.1 in
        named-loss i (swap_count i past) w lost past m.at_target m.names_loss.0 (omega arith)
    here more book (swaps call q m) =
        let n : note_count i (e ∷ past) ≡ note_count i past = count_at-here 0 (is_note_of i) e past book ∙ cond-false (is_note_of i e.event) _ _ (ap (is_note_of i) q) in
        absurd (omega arith)
    here more book (neither a b) =
        let n : note_count i (e ∷ past) ≡ note_count i past = count_at-here 0 (is_note_of i) e past book ∙ cond-false (is_note_of i e.event) _ _ a in
        absurd (omega arith)

    newest : note_count i past ≤ w → some_at (i + 1) (is_loss_from w) past ≡ true
    newest more = elim (cases_eq e.lock 0) [
      | inl book ↦ here more book (book-step i s past e.stamp e.event (may-book s past e.stamp e.lock e.event book g.0.1.1))
      | inr other ↦ let n : note_count i (e ∷ past) ≡ note_count i past = count_at-else 0 (is_note_of i) e past other in absurd (omega arith)
    ]

-- where the book has more notes than there were fresh disks, the disk is gone
pub unmended-gone : (s : Setting) (i : ℕ) (past : List Entry) → Grows s past → life_of i past < note_count i past → is_gone i past ≡ true
unmended-gone s i past g h = either (loss-life s i (life_of i past) past g (noted-loss s i (life_of i past) past g h))
  where
    either : (life_of i past < life_of i past) ⊎ ((life_of i past ≤ life_of i past) × (is_gone i past ≡ true)) → is_gone i past ≡ true
    either (inl less) = absurd (omega arith)
    either (inr both) = both.1

pub unfitted-gone : (s : Setting) (i : ℕ) (past : List Entry) → Grows s past → is_unfitted i past ≡ true → is_gone i past ≡ true
unfitted-gone s i past g h =
    let u : unfitted_count i past ≡ 1 = ap (λ x. cond x 1 0) h in
    let v : note_count i past ≡ swap_count i past + unfitted_count i past = notes-swaps s i past g in
    let w : life_of i past ≤ swap_count i past = fresh-le_swaps s i past g in
    unmended-gone s i past g (omega arith)

pub swapped-gone : (s : Setting) (i : ℕ) (past : List Entry) → Grows s past → life_of i past < swap_count i past → is_gone i past ≡ true
swapped-gone s i past g h =
    let v : note_count i past ≡ swap_count i past + unfitted_count i past = notes-swaps s i past g in
    unmended-gone s i past g (omega arith)

-- a disk that works: each loss was in a life before
pub working-loss : (s : Setting) (i w : ℕ) (past : List Entry) → Grows s past → is_gone i past ≡ false → some_at (i + 1) (is_loss_from w) past ≡ true →
    w < life_of i past
working-loss s i w past g works h = either (loss-life s i w past g h)
  where
    either : (w < life_of i past) ⊎ ((w ≤ life_of i past) × (is_gone i past ≡ true)) → w < life_of i past
    either (inl less) = less
    either (inr both) = absurd (both_ways (is_gone i past) works both.1)

-- and notes, swaps and fresh disks are as many
pub working-counts : (s : Setting) (i : ℕ) (past : List Entry) → Grows s past → is_gone i past ≡ false →
    (note_count i past ≡ life_of i past) × (swap_count i past ≡ life_of i past)
working-counts s i past g works = elim (cases_lt (life_of i past) (note_count i past)) [
  | inl more ↦ absurd (both_ways (is_gone i past) works (unmended-gone s i past g more))
  | inr within ↦
      let v : note_count i past ≡ swap_count i past + unfitted_count i past = notes-swaps s i past g in
      let w : life_of i past ≤ swap_count i past = fresh-le_swaps s i past g in (omega arith, omega arith)
]

-- the disk that a fresh one replaces is gone
pub fresh-gone : (s : Setting) (past : List Entry) (stamp i call : ℕ) (swap : At) → Grows s past → MayFresh past stamp i call swap → is_gone i past ≡ true
fresh-gone s past stamp i call swap g m = swapped-gone s i past g (fresh-swapped past stamp i call swap m)

-- where the disk is gone it is gone in this life
pub gone-loss : (s : Setting) (i : ℕ) (past : List Entry) → Grows s past → is_gone i past ≡ true → some_at (i + 1) (is_loss_from (life_of i past)) past ≡ true
gone-loss s i [] g h = absurd (false≢true h)
gone-loss s i (e ∷ past) g h = elim (cases_eq e.lock (i + 1)) [
  | inl here ↦ at_disk here (λ k. gone-loss s i past g.1 k) (disk-step i s past e.stamp e.event (may-here s past e.stamp e.lock i e.event here g.0.1.1))
  | inr other ↦ subst (λ (n : ℕ). some_at (i + 1) (is_loss_from n) (e ∷ past) ≡ true) (sym (count_at-else (i + 1) is_fresh e past other))
      (some_at-more (i + 1) (is_loss_from (life_of i past)) e past (gone-loss s i past g.1 (sym (is_gone-else i e past other) ∙ h)))
]
  where
    at_disk : e.lock ≡ i + 1 → (is_gone i past ≡ true → some_at (i + 1) (is_loss_from (life_of i past)) past ≡ true) → DiskStep i past e.stamp e.event →
        some_at (i + 1) (is_loss_from (life_of i (e ∷ past))) (e ∷ past) ≡ true
    at_disk here old (loses l f a v) =
        subst (λ (n : ℕ). some_at (i + 1) (is_loss_from n) (e ∷ past) ≡ true) (sym (life-here i e past false here f))
        (some_at-newest (i + 1) (is_loss_from (life_of i past)) e past here (v (life_of i past) ∙ le-leb (life_of i past) (life_of i past) (omega arith)))
    at_disk here old (renews l f a v call swap k m) =
        absurd (false≢true (sym (ap (λ (o : Option At). is_some o) (loss_of-here i e past here ∙ a (name_of e) (loss_of i past))) ∙ h))
    at_disk here old (keeps l f a v) =
        subst (λ (n : ℕ). some_at (i + 1) (is_loss_from n) (e ∷ past) ≡ true) (sym (life-here i e past false here f))
        (some_at-more (i + 1) (is_loss_from (life_of i past)) e past
        (old (sym (ap (λ (o : Option At). is_some o) (loss_of-here i e past here ∙ a (name_of e) (loss_of i past))) ∙ h)))
