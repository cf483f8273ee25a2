-- The end of a life by the entries that name one another: a loss, its note, a swap and a fresh disk, each after the
-- other, and each with as many fresh disks or swaps before it as the life's number.
use Rattle.std.specs.Prelude.{◌≡◌, ◌==◌, ◌&&◌, ◌||◌, ◌<◌, ◌≤◌, nat_lt, not, ℕ, suc, ◌+◌, Bool, true, false, List, [], ◌∷◌, Some}
use Rattle.std.proofs.Common.{refl, ap, sym, ◌∙◌, cond, arith, subst, inl, inr}
use Rattle.std.proofs.lemmas.Bool.{eq-eqb, eqb-true, cases_eq, and_parts, both_ways, false≢true, cond-true, cond-false}
use Rattle.array_journal.specs.declared.at.At.{At}
use Rattle.array_journal.specs.declared.entry.Entry.{Entry}
use Rattle.array_journal.specs.declared.event.Event.{Event}
use Rattle.array_journal.specs.declared.event.Event.TheVariants.{Gone, Fresh, Note, Swap}
use Rattle.array_journal.specs.declared.setting.Setting.{Setting}
use Rattle.array_journal.specs.Entries.{name_of, entry_at, count_at, count_before, stamps_below}
use Rattle.array_journal.specs.Lives.{is_fresh, is_note_of, is_swap_of, is_unfitted, life_of, swap_count}
use Rattle.array_journal.specs.May.{MayTarget, MayBook, MayFresh, passes, is_loss_in}
use Rattle.array_journal.specs.Run.{Grows}
use Rattle.array_journal.specs.Laws.{IsNotedBy, IsMended}
use Rattle.array_journal.proofs.runs.Steps.{entry_at-here}
use Rattle.array_journal.proofs.runs.Standing.{may-book, may-here, IsNameOf, entry_at-cases, entry_at-more, passes-cases, passes-said, passes-more, passes-event, named-below, count_at-here, count_at-else, count_before-still}
use Rattle.array_journal.proofs.lives.LifeLaws.{BookStep, notes, swaps, neither, book-step, is_unfitted-here, is_unfitted-else}

-- where all stamps are smaller, all are counted
counted-all : (k : ℕ) (test : Event → Bool) (stamp : ℕ) (past : List Entry) → stamps_below k stamp past ≡ true → count_before k test stamp past ≡ count_at k test past
counted-all k test stamp [] b = refl
counted-all k test stamp (e ∷ past) b =
    let parts : ((not (e.lock == k) || nat_lt e.stamp stamp) ≡ true) × (stamps_below k stamp past ≡ true) =
    and_parts (not (e.lock == k) || nat_lt e.stamp stamp) (stamps_below k stamp past) b in
    step (e.lock == k) (nat_lt e.stamp stamp) (test e.event) (count_before k test stamp past) (count_at k test past) parts.0 (counted-all k test stamp past parts.1)
  where
    step : (h l t : Bool) (m n : ℕ) → (not h || l) ≡ true → m ≡ n → cond (h && l && t) (suc m) m ≡ cond (h && t) (suc n) n
    step true true true m n p q = ap suc q
    step true true false m n p q = q
    step true false t m n p q = absurd (false≢true p)
    step false l t m n p q = q

-- the newest entry has all others of its lock before it
newest-counted : (k : ℕ) (test : Event → Bool) (e : Entry) (past : List Entry) → e.lock ≡ k → stamps_below e.lock e.stamp past ≡ true →
    count_before k test e.stamp (e ∷ past) ≡ count_at k test past
newest-counted k test e past h b =
    count_before-still k test e.stamp e past (λ q. omega arith)
    ∙ counted-all k test e.stamp past (subst (λ (l : ℕ). stamps_below l e.stamp past ≡ true) h b)

-- an older one has as many as before
older-counted : (k : ℕ) (test : Event → Bool) (name : At) (e : Entry) (past : List Entry) (event : Event) → name.lock ≡ k → stamps_below e.lock e.stamp past ≡ true →
    entry_at name past ≡ Some event → count_before k test name.stamp (e ∷ past) ≡ count_before k test name.stamp past
older-counted k test name e past event h b stands = count_before-still k test name.stamp e past earlier
  where
    earlier : e.lock ≡ k → name.stamp ≤ e.stamp
    earlier same =
        let l : name.stamp < e.stamp =
        named-below (λ x. true) e.stamp name past (subst (λ (j : ℕ). stamps_below j e.stamp past ≡ true) (same ∙ sym h) b)
        (passes-said (λ x. true) name past event stands refl) in omega arith

-- a loss that is named in a life has so many fresh disks before it
loss-says : (s : Setting) (past : List Entry) (stamp i life : ℕ) (event : Event) → MayTarget s past stamp i event → is_loss_in life event ≡ true → life_of i past ≡ life
loss-says s past stamp i life (Gone its_life call commands) m h = sym m.says_life ∙ eqb-true its_life life h
loss-says s past stamp i life _ m h = absurd (false≢true h)

loss-counted : (s : Setting) (i life : ℕ) (lost : At) (past : List Entry) → Grows s past → lost.lock ≡ i + 1 → passes (is_loss_in life) (entry_at lost past) ≡ true →
    count_before (i + 1) is_fresh lost.stamp past ≡ life
loss-counted s i life lost [] g h p = absurd (false≢true p)
loss-counted s i life lost (e ∷ past) g h p = elim (passes-cases (is_loss_in life) lost e past p) [
  | inl here ↦ ap (λ (n : ℕ). count_before (i + 1) is_fresh n (e ∷ past)) here.0.0
      ∙ newest-counted (i + 1) is_fresh e past (sym here.0.1 ∙ h) g.0.1.0
      ∙ loss-says s past e.stamp i life e.event (may-here s past e.stamp e.lock i e.event (sym here.0.1 ∙ h) g.0.1.1) here.1
  | inr older ↦ let found : (event : Event) × ((entry_at lost past ≡ Some event) × (is_loss_in life event ≡ true)) = passes-event (is_loss_in life) (entry_at lost past) older in
      older-counted (i + 1) is_fresh lost e past found.0 h g.0.1.0 found.1.0 ∙ loss-counted s i life lost past g.1 h older
]

noted-more : (s : Setting) (i w : ℕ) (note lost : At) (e : Entry) (past : List Entry) → Grows s (e ∷ past) → IsNotedBy i w note lost past → IsNotedBy i w note lost (e ∷ past)
noted-more s i w note lost e past g n = record {
  in_book = n.in_book;
  noted = entry_at-more note e past (Note i lost) g.0.1.0 n.noted;
  swaps_before = older-counted 0 (is_swap_of i) note e past (Note i lost) n.in_book g.0.1.0 n.noted ∙ n.swaps_before;
  at_target = n.at_target;
  lost_there = passes-more (is_loss_in w) lost e past g.0.1.0 n.lost_there;
  fresh_before = loss-counted s i w lost (e ∷ past) g n.at_target (passes-more (is_loss_in w) lost e past g.0.1.0 n.lost_there);
  earlier = n.earlier;
}

-- a loss and its note
abbrev Noted : ℕ → ℕ → List Entry → Type 0
Noted i w past = (note lost : At) × IsNotedBy i w note lost past

unfitted-noted : (s : Setting) (i : ℕ) (past : List Entry) → Grows s past → is_unfitted i past ≡ true → Noted i (swap_count i past) past
unfitted-noted s i [] g u = absurd (false≢true u)
unfitted-noted s i (e ∷ past) g u = elim (cases_eq e.lock 0) [
  | inl book ↦ here book (λ v. unfitted-noted s i past g.1 v) (book-step i s past e.stamp e.event (may-book s past e.stamp e.lock e.event book g.0.1.1))
  | inr other ↦ subst (λ (w : ℕ). Noted i w (e ∷ past)) (sym (count_at-else 0 (is_swap_of i) e past other))
      (more (swap_count i past) (unfitted-noted s i past g.1 (sym (is_unfitted-else i e past other) ∙ u)))
]
  where
    more : (w : ℕ) → Noted i w past → Noted i w (e ∷ past)
    more w (note, lost, n) = (note, lost, noted-more s i w note lost e past g n)

    here : e.lock ≡ 0 → (is_unfitted i past ≡ true → Noted i (swap_count i past) past) → BookStep i s past e.stamp e.event → Noted i (swap_count i (e ∷ past)) (e ∷ past)
    here book old (notes lost q m) =
        let same : swap_count i (e ∷ past) ≡ swap_count i past =
        count_at-here 0 (is_swap_of i) e past book ∙ cond-false (is_swap_of i e.event) _ _ (ap (is_swap_of i) q) in
        let there : passes (is_loss_in (swap_count i past)) (entry_at lost (e ∷ past)) ≡ true =
        passes-more (is_loss_in (swap_count i past)) lost e past g.0.1.0 m.names_loss.0 in
        subst (λ (w : ℕ). Noted i w (e ∷ past)) (sym same) (
          name_of e,
          lost,
          record {
            in_book = book;
            noted = entry_at-here (name_of e) e past refl refl ∙ ap (λ (x : Event). Some x) q;
            swaps_before = newest-counted 0 (is_swap_of i) e past book g.0.1.0;
            at_target = m.at_target;
            lost_there = there;
            fresh_before = loss-counted s i (swap_count i past) lost (e ∷ past) g m.at_target there;
            earlier = m.names_loss.1;
          },
        )
    here book old (swaps call q m) =
        absurd (both_ways (is_unfitted i (e ∷ past))
        (is_unfitted-here i e past book ∙ cond-false (is_note_of i e.event) _ _ (ap (is_note_of i) q) ∙ cond-true (is_swap_of i e.event) _ _ (ap (is_swap_of i) q ∙ eq-eqb i i refl)) u)
    here book old (neither a b) =
        let same : swap_count i (e ∷ past) ≡ swap_count i past = count_at-here 0 (is_swap_of i) e past book ∙ cond-false (is_swap_of i e.event) _ _ b in
        subst (λ (w : ℕ). Noted i w (e ∷ past)) (sym same)
        (more (swap_count i past) (old (sym (is_unfitted-here i e past book ∙ cond-false (is_note_of i e.event) _ _ a ∙ cond-false (is_swap_of i e.event) _ _ b) ∙ u)))

-- a loss and its note before a swap
abbrev Swapped : ℕ → ℕ → At → List Entry → Type 0
Swapped i w swap past = (note lost : At) × (IsNotedBy i w note lost past × (note.stamp < swap.stamp))

swap-known : (s : Setting) (past : List Entry) (stamp i call : ℕ) (event : Event) → event ≡ Swap i call → MayBook s past stamp event → is_unfitted i past ≡ true
swap-known s past stamp i call event q m = known (subst (λ (x : Event). MayBook s past stamp x) q m)
  where
    known : MayBook s past stamp (Swap i call) → is_unfitted i past ≡ true
    known may = may.1.known

swap-noted : (s : Setting) (i call : ℕ) (swap : At) (past : List Entry) → Grows s past → swap.lock ≡ 0 → entry_at swap past ≡ Some (Swap i call) →
    Swapped i (count_before 0 (is_swap_of i) swap.stamp past) swap past
swap-noted s i call swap [] g h stands = absurd cc
swap-noted s i call swap (e ∷ past) g h stands = elim (entry_at-cases swap e past (Swap i call) stands) [
  | inl here ↦ newest here
      (unfitted-noted s i past g.1 (swap-known s past e.stamp i call e.event here.1 (may-book s past e.stamp e.lock e.event (sym here.0.1 ∙ h) g.0.1.1)))
  | inr older ↦ subst (λ (w : ℕ). Swapped i w swap (e ∷ past)) (sym (older-counted 0 (is_swap_of i) swap e past (Swap i call) h g.0.1.0 older))
      (more (count_before 0 (is_swap_of i) swap.stamp past) (swap-noted s i call swap past g.1 h older))
]
  where
    more : (w : ℕ) → Swapped i w swap past → Swapped i w swap (e ∷ past)
    more w (note, lost, (n, l)) = (note, lost, (noted-more s i w note lost e past g n, l))

    newest : IsNameOf swap e × (e.event ≡ Swap i call) → Noted i (swap_count i past) past → Swapped i (count_before 0 (is_swap_of i) swap.stamp (e ∷ past)) swap (e ∷ past)
    newest here (note, lost, n) =
        let counted : count_before 0 (is_swap_of i) swap.stamp (e ∷ past) ≡ swap_count i past =
        ap (λ (m : ℕ). count_before 0 (is_swap_of i) m (e ∷ past)) here.0.0 ∙ newest-counted 0 (is_swap_of i) e past (sym here.0.1 ∙ h) g.0.1.0 in
        let l : note.stamp < e.stamp =
        named-below (λ x. true) e.stamp note past (subst (λ (j : ℕ). stamps_below j e.stamp past ≡ true) (sym here.0.1 ∙ h ∙ sym n.in_book) g.0.1.0)
        (passes-said (λ x. true) note past (Note i lost) n.noted refl) in
        subst (λ (w : ℕ). Swapped i w swap (e ∷ past)) (sym counted)
        (note, lost, (noted-more s i (swap_count i past) note lost e past g n, subst (λ (m : ℕ). note.stamp < m) (sym here.0.0) l))

fresh-asks : (s : Setting) (past : List Entry) (stamp i call : ℕ) (swap : At) (event : Event) → event ≡ Fresh call swap → MayTarget s past stamp i event →
    MayFresh past stamp i call swap
fresh-asks s past stamp i call swap event q m = subst (λ (x : Event). MayTarget s past stamp i x) q m

abbrev Mended : ℕ → ℕ → ℕ → At → At → List Entry → Type 0
Mended i call life swap fresh past = (note lost : At) × IsMended i call life lost note swap fresh past

mended-more : (s : Setting) (i call life : ℕ) (lost note swap fresh : At) (e : Entry) (past : List Entry) → Grows s (e ∷ past) →
    IsMended i call life lost note swap fresh past → IsMended i call life lost note swap fresh (e ∷ past)
mended-more s i call life lost note swap fresh e past g m = record {
  noted = noted-more s i life note lost e past g m.noted;
  in_book = m.in_book;
  swapped = entry_at-more swap e past (Swap i call) g.0.1.0 m.swapped;
  swaps_before = older-counted 0 (is_swap_of i) swap e past (Swap i call) m.in_book g.0.1.0 m.swapped ∙ m.swaps_before;
  after_note = m.after_note;
  after_swap = m.after_swap;
}

-- each fresh disk ends a life so
pub fresh-mended : (s : Setting) (i call : ℕ) (swap fresh : At) (past : List Entry) → Grows s past → fresh.lock ≡ i + 1 → entry_at fresh past ≡ Some (Fresh call swap) →
    Mended i call (count_before (i + 1) is_fresh fresh.stamp past) swap fresh past
fresh-mended s i call swap fresh [] g h stands = absurd cc
fresh-mended s i call swap fresh (e ∷ past) g h stands = elim (entry_at-cases fresh e past (Fresh call swap) stands) [
  | inl here ↦ newest here (fresh-asks s past e.stamp i call swap e.event here.1 (may-here s past e.stamp e.lock i e.event (sym here.0.1 ∙ h) g.0.1.1))
  | inr older ↦ subst (λ (w : ℕ). Mended i call w swap fresh (e ∷ past)) (sym (older-counted (i + 1) is_fresh fresh e past (Fresh call swap) h g.0.1.0 older))
      (more (count_before (i + 1) is_fresh fresh.stamp past) (fresh-mended s i call swap fresh past g.1 h older))
]
  where
    more : (w : ℕ) → Mended i call w swap fresh past → Mended i call w swap fresh (e ∷ past)
    more w (note, lost, m) = (note, lost, mended-more s i call w lost note swap fresh e past g m)

    newest : IsNameOf fresh e × (e.event ≡ Fresh call swap) → MayFresh past e.stamp i call swap →
        Mended i call (count_before (i + 1) is_fresh fresh.stamp (e ∷ past)) swap fresh (e ∷ past)
    newest here m = packed (swap-noted s i call swap past g.1 m.in_book m.swapped.0)
      where
        counted : count_before (i + 1) is_fresh fresh.stamp (e ∷ past) ≡ life_of i past
        counted = ap (λ (n : ℕ). count_before (i + 1) is_fresh n (e ∷ past)) here.0.0 ∙ newest-counted (i + 1) is_fresh e past (sym here.0.1 ∙ h) g.0.1.0

        packed : Swapped i (count_before 0 (is_swap_of i) swap.stamp past) swap past → Mended i call (count_before (i + 1) is_fresh fresh.stamp (e ∷ past)) swap fresh (e ∷ past)
        packed (note, lost, (n, l)) =
            subst (λ (w : ℕ). Mended i call w swap fresh (e ∷ past)) (m.next_disk ∙ sym counted) (
              note,
              lost,
              record {
                noted = noted-more s i (count_before 0 (is_swap_of i) swap.stamp past) note lost e past g n;
                in_book = m.in_book;
                swapped = entry_at-more swap e past (Swap i call) g.0.1.0 m.swapped.0;
                swaps_before = older-counted 0 (is_swap_of i) swap e past (Swap i call) m.in_book g.0.1.0 m.swapped.0;
                after_note = l;
                after_swap = subst (λ (k : ℕ). swap.stamp < k) (sym here.0.0) m.swapped.1;
              },
            )
