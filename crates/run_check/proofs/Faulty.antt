-- A journal read entry by entry is a run as long as each entry may follow.
use Rattle.std.proofs.Common.{◌≡◌, ℕ, zero, suc, ◌+◌, ◌<◌, true, List, [], ◌∷◌, length, take, get_or, reverse, refl, ap, subst, sym, ◌∙◌, arith}
use Rattle.std.proofs.lemmas.List.{take_more, reverse-append, get_or_read}
use Rattle.array_journal.specs.declared.entry.Entry.{Entry}
use Rattle.array_journal.specs.declared.setting.Setting.{Setting}
use Rattle.array_journal.specs.Entries.{name_of, at_lt}
use Rattle.array_journal.specs.May.{May}
use Rattle.array_journal.specs.Merge.{Rises}
use Rattle.array_journal.specs.Run.{ComesLater, Grows, Run}
use Rattle.array_journal.proofs.runs.BeginningLaws.{beginning-run}
use Rattle.run_check.specs.Faults.{IsFirstFault}
use Rattle.stripe_check.proofs.Journals.{read_more}

rises-at : (journal : List Entry) (j : ℕ) (d : Entry) → Rises journal → suc j < length journal → at_lt (name_of (get_or journal j d)) (name_of (get_or journal (suc j) d)) ≡ true
rises-at [] j d r lt = absurd (omega (arith, lt))
rises-at (a ∷ []) j d r lt = absurd (omega (arith, lt))
rises-at (a ∷ b ∷ rest) zero d r lt = r.0
rises-at (a ∷ b ∷ rest) (suc j) d r lt = rises-at (b ∷ rest) j d r.1 (omega (arith, lt))

comes-later : (journal : List Entry) (k : ℕ) (e : Entry) → Rises journal → k < length journal → get_or journal k e ≡ e → ComesLater e (reverse (take k journal))
comes-later journal zero e r lt here = tt
comes-later journal (suc j) e r lt here =
    let before : j < length journal = omega (arith, lt) in
    let number : suc j ≡ j + 1 = omega arith in
    let read : reverse (take (suc j) journal) ≡ get_or journal j e ∷ reverse (take j journal)
    = ap (λ n. reverse (take n journal)) number ∙ ap (λ (xs : List Entry). reverse xs) (take_more journal j e before) ∙ reverse-append (take j journal) (get_or journal j e ∷ []) in
    subst (ComesLater e) (sym read) (subst (λ (x : Entry). at_lt (name_of (get_or journal j e)) (name_of x) ≡ true) here (rises-at journal j e r lt))

-- one more entry that may follow
pub run-more : (s : Setting) (journal : List Entry) (k : ℕ) (e : Entry) → Rises journal → k < length journal → get_or journal k e ≡ e →
    May s (reverse (take k journal)) e → Run s (take k journal) → Run s (take (k + 1) journal)
run-more s journal k e r lt here m run = subst (Grows s) (sym (read_more journal k e lt here)) ((comes-later journal k e r lt here, m), run)

-- an entry that may not follow isn't one of a run
pub no-run : (s : Setting) (journal : List Entry) (k : ℕ) (e : Entry) → k < length journal → get_or journal k e ≡ e →
    (May s (reverse (take k journal)) e → ⊥) → Run s journal → ⊥
no-run s journal k e lt here refused run = refused (subst (Grows s) (read_more journal k e lt here) (beginning-run s journal (k + 1) run)).0.1

-- and is the first that may not follow the ones before it
pub is-fault : (s : Setting) (journal : List Entry) (k : ℕ) (e : Entry) → k < length journal → get_or journal k e ≡ e →
    Run s (take k journal) → (May s (reverse (take k journal)) e → ⊥) → IsFirstFault s journal (k + 1)
is-fault s journal k e lt here run refused = (
  k,
  (
    refl,
    record {
      before = run;
      within = lt;
      refused = λ d m. refused (subst (λ (x : Entry). May s (reverse (take k journal)) x) (sym (get_or_read journal k e lt (sym here) d)) m);
    },
  ),
)
