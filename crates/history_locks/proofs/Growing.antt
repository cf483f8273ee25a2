-- The lists of all locks while one of them grows by an entry with the next stamp: it comes in front of the journal, and at its lock.
use Rattle.std.specs.Prelude.{◌≡◌, ◌≢◌, ◌==◌, ◌⊎◌, ◌<◌, ◌≤◌, ◌+◌, ℕ, zero, suc, max, false, List, [], ◌∷◌, ◌++◌, length, reverse}
use Rattle.std.specs.List.{AllByRecursion}
use Rattle.std.proofs.Common.{refl, ap, sym, subst, ◌∙◌, arith, inl, inr, get_or}
use Rattle.std.proofs.lemmas.Bool.{cases_eq, eq-eqb, ne_eqb, cond-true, cond-false}
use Rattle.std.proofs.lemmas.List.{append-nil, reverse-append, reverse-reverse, length-reverse, get_or-set_same, get_or-set_other}
use Rattle.array_journal.specs.declared.entry.Entry.{Entry}
use Rattle.array_journal.specs.Calm.{IsStamped}
use Rattle.array_journal.specs.Laws.{lane}
use Rattle.array_journal.specs.Merge.{joined}
use Rattle.array_journal.specs.OneJournal.{journal_of, AreKept}
use Rattle.array_journal.proofs.runs.OneJournal.{all-first, all-rest, with_entry, journal-more, kept-more, length-journal}
use Rattle.array_journal.proofs.runs.JoinedParts.{reverse-all}
use Rattle.xor_target.specs.Logs.{last_stamp}
use Rattle.xor_target.specs.State.{is_failure}
use Rattle.unit_plans.specs.Buses.{merged, EachBeginsWith}
use Rattle.history_locks.specs.PlainBuses.{AreLists}

-- ---- stamps

stamped-last : (past : List Entry) → IsStamped past → last_stamp past ≡ length past
stamped-last [] h = refl
stamped-last (e ∷ past) h = h.0

pub merged-length : (stamp : ℕ) (lists : List (List Entry)) → AreKept stamp lists → length (merged lists) ≡ stamp
unfolding merged
merged-length stamp lists kept = length-reverse (journal_of lists) ∙ length-journal stamp lists kept

-- the newest entry of all has the stamp of the lists
pub merged-last : (stamp : ℕ) (lists : List (List Entry)) → AreLists stamp lists → last_stamp (merged lists) ≡ stamp
merged-last stamp lists h = stamped-last (merged lists) h.stamped ∙ merged-length stamp lists h.kept

-- what holds of all entries holds of those of one list
part-all : (P : Entry → Type 0) (lists : List (List Entry)) (k : ℕ) → AllByRecursion P (joined lists) → AllByRecursion P (get_or lists k [])
part-all P [] k h = tt
part-all P (l ∷ lists) zero h = all-first P l (joined lists) h
part-all P (l ∷ lists) (suc k) h = part-all P lists k (all-rest P l (joined lists) h)

first-below : (s : ℕ) (past : List Entry) → AllByRecursion (λ (e : Entry). e.stamp ≤ s) past → last_stamp past ≤ s
first-below s [] h = omega arith
first-below s (e ∷ past) h = h.0

-- no list's newest entry has a greater stamp
pub newest-below : (stamp : ℕ) (lists : List (List Entry)) (k : ℕ) (past : List Entry) → AreKept stamp lists → get_or lists k [] ≡ reverse past →
    last_stamp past ≤ stamp
newest-below stamp lists k past kept is =
    let Below : Entry → Type 0 = λ e. e.stamp ≤ stamp in
    let part : AllByRecursion Below (reverse past) = subst (AllByRecursion Below) is (part-all Below lists k kept.up_to) in
    first-below stamp past (subst (AllByRecursion Below) (reverse-reverse past) (reverse-all Below (reverse past) part))

-- the stamp of the next entry, and the newest stamp then
pub next-above : (last seen : ℕ) → last ≤ seen → max last seen + 1 ≡ seen + 1
next-above last seen h = omega (arith, h)

pub newest-stays : (seen last : ℕ) → last ≤ seen → max seen last ≡ seen
newest-stays seen last h = omega (arith, h)

pub newest-next : (seen last : ℕ) → last ≡ seen + 1 → max seen last ≡ seen + 1
newest-next seen last h = omega (arith, h)

-- ---- one entry more

module _ (stamp : ℕ) (lists : List (List Entry)) (i : ℕ) (e : Entry) (inside : i < length lists) (next : e.stamp ≡ stamp + 1) where
  -- it comes in front of all
  pub merged-more : AreKept stamp lists → merged (with_entry lists i e) ≡ e ∷ merged lists
  unfolding merged
  merged-more kept =
      ap (λ (es : List Entry). reverse es) (journal-more stamp lists i e kept inside next) ∙ reverse-append (journal_of lists) (e ∷ [])

  -- and of its own list
  lane-more : e.lock ≡ i → ((k : ℕ) → lane k (merged lists) ≡ reverse (get_or lists k [])) → (k : ℕ) → (k ≡ i) ⊎ (k ≢ i) →
      lane k (e ∷ merged lists) ≡ reverse (get_or (with_entry lists i e) k [])
  lane-more at lanes k (inl is) =
      cond-true (e.lock == k) (e ∷ lane k (merged lists)) (lane k (merged lists)) (eq-eqb e.lock k (at ∙ sym is))
      ∙ ap (λ (l : List Entry). e ∷ l) (lanes k)
      ∙ ap (λ (n : ℕ). e ∷ reverse (get_or lists n [])) is
      ∙ sym (reverse-append (get_or lists i []) (e ∷ []))
      ∙ ap (λ (l : List Entry). reverse l) (sym (get_or-set_same lists i (get_or lists i [] ++ e ∷ []) [] inside))
      ∙ ap (λ (n : ℕ). reverse (get_or (with_entry lists i e) n [])) (sym is)
  lane-more at lanes k (inr other) =
      cond-false (e.lock == k) (e ∷ lane k (merged lists)) (lane k (merged lists)) (ne_eqb e.lock k (λ same. other (sym same ∙ at)))
      ∙ lanes k ∙ ap (λ (l : List Entry). reverse l) (sym (get_or-set_other lists i k (get_or lists i [] ++ e ∷ []) [] other))

  pub lists-more : AreLists stamp lists → e.lock ≡ i → is_failure e.event ≡ false → AreLists (stamp + 1) (with_entry lists i e)
  lists-more h at quiet =
      let more : merged (with_entry lists i e) ≡ e ∷ merged lists = merged-more h.kept in
      record {
        kept = kept-more stamp lists i e h.kept inside next at;
        stamped = subst IsStamped (sym more) (next ∙ omega (arith, merged-length stamp lists h.kept), h.stamped);
        lanes = λ k. ap (lane k) more ∙ lane-more at h.lanes k (cases_eq k i);
        quiet = subst (λ (es : List Entry). AllByRecursion (λ (x : Entry). is_failure x.event ≡ false) es) (sym more) (quiet, h.quiet);
      }

-- ---- each list begins with what it was

pub begins-same : (lists : List (List Entry)) → EachBeginsWith lists lists
begins-same [] = tt
begins-same (l ∷ lists) = (([], sym (append-nil l)), begins-same lists)

pub begins-more : (lists : List (List Entry)) (i : ℕ) (e : Entry) → EachBeginsWith (with_entry lists i e) lists
begins-more [] i e = tt
begins-more (l ∷ lists) zero e = ((e ∷ [], refl), begins-same lists)
begins-more (l ∷ lists) (suc i) e = (([], sym (append-nil l)), begins-more lists i e)
