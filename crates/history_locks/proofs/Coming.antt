-- What an act of a bus comes to, by the lists of its entries before and after.
use Rattle.std.specs.Prelude.{◌≡◌, ◌==◌, ◌⊎◌, ◌||◌, ◌&&◌, nat_lt, ◌<◌, ◌≤◌, ◌+◌, ℕ, suc, Bool, true, false, List, [], ◌∷◌, ◌++◌, length}
use Rattle.std.proofs.Common.{refl, ap, sym, subst, ◌∙◌, cond, arith, inl, inr}
use Rattle.std.proofs.lemmas.Bool.{eq-eqb, cond-true}
use Rattle.std.proofs.lemmas.Bool.Decides.{nat_tests}
use Rattle.array_journal.specs.declared.entry.Entry.{Entry}
use Rattle.array_journal.specs.declared.setting.Setting.{Setting}
use Rattle.array_journal.specs.Laws.{lane}
use Rattle.array_journal.specs.May.{May}
use Rattle.array_journal.specs.Run.{ComesLater, Grows}
use Rattle.array_journal.proofs.runs.OneJournal.{with_entry}
use Rattle.xor_target.specs.Logs.{last_stamp}
use Rattle.xor_target.specs.State.{is_failure}
use Rattle.unit_plans.specs.Buses.{merged, Outgrows, EachBeginsWith}
use Rattle.unit_plans.specs.Effects.{HasCome}
use Rattle.history_locks.specs.PlainBuses.{AreLists}
use Rattle.history_locks.proofs.Growing.{merged-last, merged-more, lists-more, begins-same, begins-more}

-- An act at a lock, by who has seen all entries up to this stamp: it made no entry, or the next one. `own` and `now` are the entries
-- of its lock before and after, the newest first.
pub data Comes (seen lock : ℕ) (lists : List (List Entry)) (own : List Entry) (newest : ℕ) (after : List (List Entry)) (now : List Entry) : Type 0 where
  Still : after ≡ lists → newest ≡ seen → now ≡ own → Comes seen lock lists own newest after now
  More : (e : Entry) → after ≡ with_entry lists lock e → newest ≡ seen + 1 → now ≡ e ∷ own → e.stamp ≡ seen + 1 → e.lock ≡ lock → is_failure e.event ≡ false →
      Comes seen lock lists own newest after now

-- the entries that it made
abbrev pub made_by : {seen lock : ℕ} → {lists : List (List Entry)} → {own : List Entry} → {newest : ℕ} → {after : List (List Entry)} → {now : List Entry} →
    Comes seen lock lists own newest after now → List Entry
made_by (Still same stamp none) = []
made_by (More e grown stamp one next at quiet) = e ∷ []

lower : (s t k l : ℕ) → t ≡ s + 1 → (nat_lt s t || ((s == t) && nat_lt k l)) ≡ true
lower s t k l h = grind (arith, nat_tests)

comes-later : (e : Entry) (past : List Entry) → e.stamp ≡ last_stamp past + 1 → ComesLater e past
comes-later e [] h = tt
comes-later e (f ∷ past) h = lower f.stamp e.stamp f.lock e.lock h

-- an entry in front, at its lock or not
in-front : (b : Bool) (e : Entry) (l : List Entry) → (newer : List Entry) × (cond b (e ∷ l) l ≡ newer ++ l)
in-front true e l = (e ∷ [], refl)
in-front false e l = ([], refl)

module _ (seen lock : ℕ) (lists : List (List Entry)) (inside : lock < length lists) (h : AreLists seen lists) where
  pub comes-lists : {own : List Entry} → {newest : ℕ} → {after : List (List Entry)} → {now : List Entry} → Comes seen lock lists own newest after now →
      AreLists newest after
  comes-lists {own} {newest} {after} {now} (Still same stamp none) = subst (λ (n : ℕ). AreLists n after) (sym stamp) (subst (AreLists seen) (sym same) h)
  comes-lists {own} {newest} {after} {now} (More e grown stamp one next at quiet) =
      subst (λ (n : ℕ). AreLists n after) (sym stamp) (subst (AreLists (seen + 1)) (sym grown) (lists-more seen lists lock e inside next h at quiet))

  pub comes-begins : {own : List Entry} → {newest : ℕ} → {after : List (List Entry)} → {now : List Entry} → Comes seen lock lists own newest after now →
      EachBeginsWith after lists
  comes-begins {own} {newest} {after} {now} (Still same stamp none) = subst (λ (ls : List (List Entry)). EachBeginsWith ls lists) (sym same) (begins-same lists)
  comes-begins {own} {newest} {after} {now} (More e grown stamp one next at quiet) =
      subst (λ (ls : List (List Entry)). EachBeginsWith ls lists) (sym grown) (begins-more lists lock e)

  pub comes-merged : {own : List Entry} → {newest : ℕ} → {after : List (List Entry)} → {now : List Entry} → (c : Comes seen lock lists own newest after now) →
      merged after ≡ made_by c ++ merged lists
  comes-merged {own} {newest} {after} {now} (Still same stamp none) = ap merged same
  comes-merged {own} {newest} {after} {now} (More e grown stamp one next at quiet) = ap merged grown ∙ merged-more seen lists lock e inside next h.kept

  pub comes-grown : {own : List Entry} → {newest : ℕ} → {after : List (List Entry)} → {now : List Entry} →
      (c : Comes seen lock lists own newest after now) → now ≡ made_by c ++ own
  comes-grown (Still same stamp none) = none
  comes-grown (More e grown stamp one next at quiet) = one

  comes-one : {own : List Entry} → {newest : ℕ} → {after : List (List Entry)} → {now : List Entry} → (c : Comes seen lock lists own newest after now) →
      length (made_by c) ≤ 1
  comes-one (Still same stamp none) = omega arith
  comes-one (More e grown stamp one next at quiet) = omega arith

  comes-here : {own : List Entry} → {newest : ℕ} → {after : List (List Entry)} → {now : List Entry} → (c : Comes seen lock lists own newest after now) →
      lane lock (made_by c ++ merged lists) ≡ made_by c ++ lane lock (merged lists)
  comes-here (Still same stamp none) = refl
  comes-here (More e grown stamp one next at quiet) = cond-true (e.lock == lock) (e ∷ lane lock (merged lists)) (lane lock (merged lists))
      (eq-eqb e.lock lock at)

  comes-others : {own : List Entry} → {newest : ℕ} → {after : List (List Entry)} → {now : List Entry} → (c : Comes seen lock lists own newest after now) →
      Outgrows (made_by c ++ merged lists) (merged lists)
  comes-others (Still same stamp none) k = ([], refl)
  comes-others (More e grown stamp one next at quiet) k = in-front (e.lock == k) e (lane k (merged lists))

  pub has-come : (array_grows : List Entry → Type 0) → {own : List Entry} → {newest : ℕ} → {after : List (List Entry)} → {now : List Entry} →
      (c : Comes seen lock lists own newest after now) →
      HasCome true array_grows lock (merged lists) (made_by c) (merged lists) (merged lists) (merged after) (merged after)
  has-come array_grows c =
      let same = comes-merged c in
      record {
        before = λ k. ([], refl);
        run = λ g. g;
        one = comes-one c;
        here = ap (lane lock) same ∙ comes-here c;
        others = subst (λ (es : List Entry). Outgrows es (merged lists)) (sym same) (comes-others c);
        mine = same;
        at_once = λ alone. refl;
        alone_after = λ alone. same;
      }

  -- where the entry may follow, it is a run still
  pub comes-run : (s : Setting) → {own : List Entry} → {newest : ℕ} → {after : List (List Entry)} → {now : List Entry} →
      Comes seen lock lists own newest after now →
      ((e : Entry) → now ≡ e ∷ own → May s (merged lists) e) → Grows s (merged lists) → Grows s (merged after)
  comes-run s {own} {newest} {after} {now} (Still same stamp none) may run = subst (Grows s) (sym (ap merged same)) run
  comes-run s {own} {newest} {after} {now} (More e grown stamp one next at quiet) may run =
      subst (Grows s) (sym (ap merged grown ∙ merged-more seen lists lock e inside next h.kept))
      ((comes-later e (merged lists) (next ∙ ap (λ n. n + 1) (sym (merged-last seen lists h))), may e one), run)

-- ---- the one entry that an act makes

head-same : (e f : Entry) (l : List Entry) → e ∷ l ≡ f ∷ l → e ≡ f
head-same e f l h = ap (first_or e) h
  where
    first_or : Entry → List Entry → Entry
    first_or d [] = d
    first_or d (x ∷ xs) = x

none-longer : (e : Entry) (l : List Entry) → l ≡ e ∷ l → ⊥
none-longer e l h = let long : length l ≡ suc (length l) = ap (λ (x : List Entry). length x) h in omega (arith, long)

-- what holds of the entry that is made, if one is, holds of the one that was made
pub of-made : (P : Entry → Type 0) (own now : List Entry) → (now ≡ own) ⊎ ((f : Entry) × ((now ≡ f ∷ own) × P f)) → (e : Entry) → now ≡ e ∷ own → P e
of-made P own now (inl none) e is = absurd (none-longer e own (sym none ∙ is))
of-made P own now (inr one) e is = subst P (sym (head-same e one.0 own (sym is ∙ one.1.0))) one.1.1
