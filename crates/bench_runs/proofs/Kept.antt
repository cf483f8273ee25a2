-- What stands between lines goes on standing while targets come to something else, each by an entry or none.
use Rattle.std.proofs.Common.{◌≡◌, ◌⊎◌, ◌≤◌, ◌<◌, ◌+◌, ℕ, zero, suc, max, List, [], ◌∷◌, ◌++◌, map, reverse, length, get_or, Some, None, slice_get, slice_set, refl, sym, ap, subst, ◌∙◌, inl, inr, arith}
use Rattle.std.proofs.lemmas.Option.{same_Some, slice_get_within}
use Rattle.std.proofs.lemmas.List.{length-map, reverse-append, length-reverse}
use Rattle.array_journal.specs.declared.entry.Entry.{Entry}
use Rattle.array_journal.specs.declared.event.Event.{Event}
use Rattle.array_journal.specs.Calm.{IsStamped}
use Rattle.array_journal.specs.OneJournal.{journal_of, AreKept}
use Rattle.array_journal.proofs.runs.OneJournal.{with_entry, kept-more, journal-more, length-journal}
use Rattle.xor_target.specs.Logs.{last_stamp}
use Rattle.xor_target.specs.State.{TargetState}
use Rattle.xor_target.specs.Answers.{next_entry}
use Rattle.xor_target.specs.Rigs.{Turns}
use Rattle.xor_target.proofs.RigRows.{row-kept, idle-kept}
use Rattle.bench_runs.specs.BenchRuns.{newest_stamp, lists_of}
use Rattle.bench_runs.specs.Ready.{IsReady}
use Rattle.bench_runs.proofs.Grown.{Grows}

abbrev entries_in : TargetState → List Entry
entries_in t = reverse t.past

-- ---- the lists of entries

-- a target with the entries that it had
lists-still : (ts : List TargetState) (i : ℕ) (t next : TargetState) → slice_get ts i ≡ Some t → entries_in next ≡ entries_in t → map entries_in (slice_set ts i next) ≡ map entries_in ts
lists-still [] i t next there same = refl
lists-still (x ∷ ts) zero t next there same =
    let is : x ≡ t = same_Some x t there in ap (λ (es : List Entry). es ∷ map entries_in ts) (same ∙ ap entries_in (sym is))
lists-still (x ∷ ts) (suc i) t next there same = ap (λ (ls : List (List Entry)). entries_in x ∷ ls) (lists-still ts i t next there same)

-- a target with one entry more
lists-more : (ts : List TargetState) (i : ℕ) (t next : TargetState) (e : Entry) → slice_get ts i ≡ Some t → entries_in next ≡ entries_in t ++ e ∷ [] →
    map entries_in (slice_set ts i next) ≡ slice_set (map entries_in ts) i (get_or (map entries_in ts) i [] ++ e ∷ [])
lists-more [] i t next e there more = absurd (let no : None ≡ Some t = there in cc no)
lists-more (x ∷ ts) zero t next e there more =
    let is : x ≡ t = same_Some x t there in ap (λ (es : List Entry). es ∷ map entries_in ts) (more ∙ ap (λ (s : TargetState). entries_in s ++ e ∷ []) (sym is))
lists-more (x ∷ ts) (suc i) t next e there more = ap (λ (ls : List (List Entry)). entries_in x ∷ ls) (lists-more ts i t next e there more)

inside-lists : (ts : List TargetState) (i : ℕ) (t : TargetState) → slice_get ts i ≡ Some t → suc i < length (lists_of ts)
inside-lists ts i t there = omega (arith, slice_get_within ts i t there, length-map ts entries_in)

-- ---- the greatest stamp

max-above : (a b c : ℕ) → c ≤ b → c ≤ max a b
max-above a b c h = omega (arith, h)

max-first : (a b s : ℕ) → b ≤ s → a ≡ s + 1 → max a b ≡ s + 1
max-first a b s below next = omega (arith, below, next)

max-last : (a b s : ℕ) → a ≤ s → b ≡ s + 1 → max a b ≡ s + 1
max-last a b s below next = omega (arith, below, next)

first-below : (a b s : ℕ) → max a b ≤ s → a ≤ s
first-below a b s h = omega (arith, h)

rest-below : (a b s : ℕ) → max a b ≤ s → b ≤ s
rest-below a b s h = omega (arith, h)

next-above : (last stamp : ℕ) → last ≤ stamp → max last stamp + 1 ≡ stamp + 1
next-above last stamp h = omega (arith, h)

-- no target's is above it
pub newest-there : (ts : List TargetState) (i : ℕ) (t : TargetState) → slice_get ts i ≡ Some t → last_stamp t.past ≤ newest_stamp ts
newest-there [] i t there = absurd (let no : None ≡ Some t = there in cc no)
newest-there (x ∷ ts) zero t there =
    subst (λ (s : TargetState). last_stamp s.past ≤ max (last_stamp x.past) (newest_stamp ts)) (same_Some x t there) (first-below (last_stamp x.past) (newest_stamp ts) (max (last_stamp x.past) (newest_stamp ts)) (omega arith))
newest-there (x ∷ ts) (suc i) t there = max-above (last_stamp x.past) (newest_stamp ts) (last_stamp t.past) (newest-there ts i t there)

pub newest-still : (ts : List TargetState) (i : ℕ) (t next : TargetState) → slice_get ts i ≡ Some t → next.past ≡ t.past → newest_stamp (slice_set ts i next) ≡ newest_stamp ts
newest-still [] i t next there same = refl
newest-still (x ∷ ts) zero t next there same =
    let is : x ≡ t = same_Some x t there in
    ap (λ (es : List Entry). max (last_stamp es) (newest_stamp ts)) (same ∙ ap (λ (s : TargetState). s.past) (sym is))
newest-still (x ∷ ts) (suc i) t next there same = ap (max (last_stamp x.past)) (newest-still ts i t next there same)

newest-more : (ts : List TargetState) (i : ℕ) (t next : TargetState) (s : ℕ) → slice_get ts i ≡ Some t → newest_stamp ts ≤ s → last_stamp next.past ≡ s + 1 → newest_stamp (slice_set ts i next) ≡ s + 1
newest-more [] i t next s there below next_is = absurd (let no : None ≡ Some t = there in cc no)
newest-more (x ∷ ts) zero t next s there below next_is =
    max-first (last_stamp next.past) (newest_stamp ts) s (rest-below (last_stamp x.past) (newest_stamp ts) s below) next_is
newest-more (x ∷ ts) (suc i) t next s there below next_is =
    max-last (last_stamp x.past) (newest_stamp (slice_set ts i next)) s (first-below (last_stamp x.past) (newest_stamp ts) s below)
    (newest-more ts i t next s there (rest-below (last_stamp x.past) (newest_stamp ts) s below) next_is)

-- ---- a target that came to something else

-- an entry at the end of a journal
stamped-more : (journal : List Entry) (e : Entry) → IsStamped (reverse journal) → e.stamp ≡ suc (length journal) → IsStamped (reverse (journal ++ e ∷ []))
stamped-more journal e stamped next =
    subst IsStamped (sym (reverse-append journal (e ∷ []))) (next ∙ ap suc (sym (length-reverse journal)), stamped)

-- the entries of all are kept
record IsKept (ts : List TargetState) : Type 0 where
  kept : AreKept (newest_stamp ts) (lists_of ts)
  stamped : IsStamped (reverse (journal_of (lists_of ts)))

module _ (ts : List TargetState) (i : ℕ) (t next : TargetState) (there : slice_get ts i ≡ Some t) where
  abbrev grown : List TargetState
  grown = slice_set ts i next

  -- no entry was made
  kept-still : IsKept ts → next.past ≡ t.past → IsKept grown
  kept-still k same =
      let lists : lists_of grown ≡ lists_of ts = ap (λ (ls : List (List Entry)). [] ∷ ls) (lists-still ts i t next there (ap reverse same)) in
      let stamp : newest_stamp grown ≡ newest_stamp ts = newest-still ts i t next there same in
      record {
        kept = subst (λ (n : ℕ). AreKept n (lists_of grown)) (sym stamp) (subst (AreKept (newest_stamp ts)) (sym lists) k.kept);
        stamped = subst (λ (ls : List (List Entry)). IsStamped (reverse (journal_of ls))) (sym lists) k.stamped;
      }

  -- the stamp of the next entry, and then it is the greatest
  pub entry-next : (event : Event) → (next_entry t (newest_stamp ts) event).stamp ≡ newest_stamp ts + 1
  entry-next event = next-above (last_stamp t.past) (newest_stamp ts) (newest-there ts i t there)

  pub newest-next : (event : Event) → next.past ≡ next_entry t (newest_stamp ts) event ∷ t.past → newest_stamp grown ≡ newest_stamp ts + 1
  newest-next event past =
      let last : last_stamp next.past ≡ newest_stamp ts + 1 = ap last_stamp past ∙ entry-next event in
      newest-more ts i t next (newest_stamp ts) there (omega arith) last

  -- one was
  kept-one : IsKept ts → t.number ≡ i → (event : Event) → next.past ≡ next_entry t (newest_stamp ts) event ∷ t.past → IsKept grown
  kept-one k at event past =
      let e : Entry = next_entry t (newest_stamp ts) event in
      let lists : lists_of grown ≡ with_entry (lists_of ts) (suc i) e =
      ap (λ (ls : List (List Entry)). [] ∷ ls) (lists-more ts i t next e there (ap reverse past ∙ reverse-append (e ∷ []) t.past)) in
      let inside : suc i < length (lists_of ts) = inside-lists ts i t there in
      let lock : e.lock ≡ suc i = ap (λ n. n + 1) at ∙ omega arith in
      let long : newest_stamp ts + 1 ≡ suc (length (journal_of (lists_of ts))) = omega (arith, length-journal (newest_stamp ts) (lists_of ts) k.kept) in
      record {
        kept = subst (λ (n : ℕ). AreKept n (lists_of grown)) (sym (newest-next event past))
            (subst (AreKept (newest_stamp ts + 1)) (sym lists) (kept-more (newest_stamp ts) (lists_of ts) (suc i) e k.kept inside (entry-next event) lock));
        stamped = subst (λ (ls : List (List Entry)). IsStamped (reverse (journal_of ls))) (sym lists)
            (subst (λ (es : List Entry). IsStamped (reverse es)) (sym (journal-more (newest_stamp ts) (lists_of ts) (suc i) e k.kept inside (entry-next event)))
            (stamped-more (journal_of (lists_of ts)) e k.stamped (entry-next event ∙ long)));
      }

  kept-grown : IsKept ts → t.number ≡ i → (next.past ≡ t.past) ⊎ ((event : Event) × (next.past ≡ next_entry t (newest_stamp ts) event ∷ t.past)) → IsKept grown
  kept-grown k at (inl same) = kept-still k same
  kept-grown k at (inr more) = kept-one k at more.0 more.1

-- a target that grew leaves all as it is to stand before the next line
pub ready-turn : (number k : ℕ) (comes_to : TargetState → TargetState → Type 0) (ts after : List TargetState) → IsReady (number + 1) ts → (turn : Turns k comes_to ts after) →
    Grows number (newest_stamp ts) turn.before turn.now → IsReady (number + 1) after
ready-turn number k comes_to ts after ready turn grows =
    let at : turn.before.number ≡ k = (ready.row.placed k turn.before turn.stands).number in
    let whole : IsKept (slice_set ts k turn.now) = kept-grown ts k turn.before turn.now turn.stands (record { kept = ready.kept; stamped = ready.stamped }) at grows.past in
    let now : IsKept after = subst IsKept (sym turn.others) whole in
    record {
      row = row-kept k comes_to ts after ready.row turn grows.place;
      idle = λ owner beyond.
          let later : number < owner = omega (arith, beyond) in
          idle-kept k owner comes_to ts after (λ j t there other. ready.idle owner beyond j t there) turn (grows.later owner later (ready.idle owner beyond k turn.before turn.stands));
      kept = now.kept;
      stamped = now.stamped;
    }
