-- What a controller's lists, journal and disks become where its book or one target changes.
use Rattle.std.specs.Prelude.{◌≡◌, ◌<◌, ◌+◌, ℕ, zero, suc, List, [], ◌∷◌, ◌++◌, length, map}
use Rattle.std.proofs.Common.{refl, ap, sym, subst, ◌∙◌, arith, add-one, get_or, set}
use Rattle.std.proofs.lemmas.List.{map-set, length-map}
use Rattle.std.proofs.Math.Seq.{map-set_same}
use Rattle.std.proofs.Math.ListN.{get_or-map}
use Rattle.array_journal.specs.declared.entry.Entry.{Entry}
use Rattle.array_journal.specs.declared.event.Event.{Event}
use Rattle.xor_cli.specs.Disks.{Disk, Lane, disk_of}
use Rattle.xor_cli.specs.Arrays.{Array}
use Rattle.array_journal.specs.OneJournal.{journal_of, AreKept}
use Rattle.xor_cli.specs.Serving.{next_at, with_next}
use Rattle.array_journal.proofs.runs.OneJournal.{with_entry, kept-more, journal-more, length-journal}

abbrev pub disk_in : Lane → Disk
disk_in t = t.disk

abbrev pub entries_in : Lane → List Entry
entries_in t = t.entries

-- an array by its journal and its disks
pub same-array : (a : Array) (journal later : List Entry) (disks others : List Disk) → journal ≡ later → disks ≡ others →
    record a { journal = journal; disks = disks } ≡ record a { journal = later; disks = others }
same-array a journal later disks others h k =
    ap (λ (j : List Entry). record a { journal = j; disks = disks }) h ∙ ap (λ (ds : List Disk). record a { journal = later; disks = ds }) k

-- an entry of a lock with a stamp
abbrev pub stamped : ℕ → ℕ → Event → Entry
stamped stamp lock event = record { stamp = stamp; lock = lock; event = event }

same-read : {X : Type 0} (xs : List X) (i : ℕ) (a b : X) → i < length xs → get_or xs i a ≡ get_or xs i b
same-read [] i a b h = absurd (omega arith)
same-read (x ∷ xs) zero a b h = refl
same-read (x ∷ xs) (suc i) a b h = same-read xs i a b (omega arith)

-- the disk at a target
pub disk-there : (lanes : List Lane) (i : ℕ) (old : Lane) → i < length lanes → old ≡ get_or lanes i old → disk_of (map disk_in lanes) i ≡ old.disk
disk-there lanes i old h is =
    same-read (map disk_in lanes) i (record { medium = []; held = [] }) old.disk (omega (arith, length-map lanes disk_in))
    ∙ get_or-map disk_in lanes i old ∙ ap disk_in (sym is)

-- a target with another disk and the same entries
module _ (lanes : List Lane) (i : ℕ) (old new : Lane) (is : old ≡ get_or lanes i old) where
  pub lists-same : new.entries ≡ old.entries → map entries_in (set lanes i new) ≡ map entries_in lanes
  lists-same h = map-set_same entries_in lanes i new old (h ∙ ap entries_in is)

  pub disks-set : map disk_in (set lanes i new) ≡ set (map disk_in lanes) i new.disk
  disks-set = map-set disk_in lanes i new

  pub disks-same : new.disk ≡ old.disk → map disk_in (set lanes i new) ≡ map disk_in lanes
  disks-same h = map-set_same disk_in lanes i new old (h ∙ ap disk_in is)

  -- what was done to its disk is done to that of the array
  pub disk-done : (F : Disk → Disk) → i < length lanes → new.disk ≡ F old.disk →
      map disk_in (set lanes i new) ≡ set (map disk_in lanes) i (F (disk_of (map disk_in lanes) i))
  disk-done F below h =
      disks-set ∙ ap (set (map disk_in lanes) i) (h ∙ ap F (sym (disk-there lanes i old below is)))

  -- a target with one more entry
  pub lists-more : (book : List Entry) (e : Entry) → i < length lanes → new.entries ≡ old.entries ++ e ∷ [] →
      book ∷ map entries_in (set lanes i new) ≡ with_entry (book ∷ map entries_in lanes) (suc i) e
  lists-more book e below h =
      let there : get_or (map entries_in lanes) i [] ≡ old.entries =
      same-read (map entries_in lanes) i [] old.entries (omega (arith, length-map lanes entries_in)) ∙ get_or-map entries_in lanes i old ∙ ap entries_in (sym is) in
      ap (λ (ls : List (List Entry)). book ∷ ls)
      (map-set entries_in lanes i new ∙ ap (λ (es : List Entry). set (map entries_in lanes) i es) (h ∙ ap (λ (es : List Entry). es ++ e ∷ []) (sym there)))

-- the lists with one more entry, which has the next stamp
module _ (stamp next : ℕ) (book : List Entry) (lanes : List Lane) (event : Event) (kept : AreKept stamp (book ∷ map entries_in lanes)) (is_next : next ≡ stamp + 1) where
  pub named : (lock : ℕ) → stamped next lock event ≡ stamped (length (journal_of (book ∷ map entries_in lanes)) + 1) lock event
  named lock = ap (λ n. stamped n lock event) (is_next ∙ ap (λ n. n + 1) (sym (length-journal stamp (book ∷ map entries_in lanes) kept)))

  pub named_at : (lock : ℕ) → record { stamp = next; lock = lock } ≡ next_at (journal_of (book ∷ map entries_in lanes)) lock
  named_at lock = ap (λ n. record { stamp = n; lock = lock }) (is_next ∙ ap (λ n. n + 1) (sym (length-journal stamp (book ∷ map entries_in lanes) kept)))

  -- in the book
  pub in_book-kept : (more : List Entry) → more ≡ book ++ stamped next 0 event ∷ [] → AreKept next (more ∷ map entries_in lanes)
  in_book-kept more h =
      let kept_more : AreKept (stamp + 1) ((book ++ stamped next 0 event ∷ []) ∷ map entries_in lanes) =
      kept-more stamp (book ∷ map entries_in lanes) 0 (stamped next 0 event) kept (omega arith) is_next refl in
      subst (λ (n : ℕ). AreKept n (more ∷ map entries_in lanes)) (sym is_next)
      (subst (λ (es : List Entry). AreKept (stamp + 1) (es ∷ map entries_in lanes)) (sym h) kept_more)

  pub in_book-journal : (more : List Entry) → more ≡ book ++ stamped next 0 event ∷ [] →
      journal_of (more ∷ map entries_in lanes) ≡ with_next (journal_of (book ∷ map entries_in lanes)) 0 event
  in_book-journal more h =
      ap (λ (es : List Entry). journal_of (es ∷ map entries_in lanes)) h
      ∙ journal-more stamp (book ∷ map entries_in lanes) 0 (stamped next 0 event) kept (omega arith) is_next
      ∙ ap (λ (e : Entry). journal_of (book ∷ map entries_in lanes) ++ e ∷ []) (named 0)

  -- at a target
  pub at_target-kept : (i : ℕ) (old new : Lane) → old ≡ get_or lanes i old → i < length lanes → new.entries ≡ old.entries ++ stamped next (i + 1) event ∷ [] →
      AreKept next (book ∷ map entries_in (set lanes i new))
  at_target-kept i old new is below h =
      let kept_more : AreKept (stamp + 1) (with_entry (book ∷ map entries_in lanes) (suc i) (stamped next (i + 1) event)) =
      kept-more stamp (book ∷ map entries_in lanes) (suc i) (stamped next (i + 1) event) kept (omega (arith, length-map lanes entries_in)) is_next (add-one i) in
      subst (λ (n : ℕ). AreKept n (book ∷ map entries_in (set lanes i new))) (sym is_next)
      (subst (AreKept (stamp + 1)) (sym (lists-more lanes i old new is book (stamped next (i + 1) event) below h)) kept_more)

  pub at_target-journal : (i : ℕ) (old new : Lane) → old ≡ get_or lanes i old → i < length lanes → new.entries ≡ old.entries ++ stamped next (i + 1) event ∷ [] →
      journal_of (book ∷ map entries_in (set lanes i new)) ≡ with_next (journal_of (book ∷ map entries_in lanes)) (i + 1) event
  at_target-journal i old new is below h =
      ap journal_of (lists-more lanes i old new is book (stamped next (i + 1) event) below h)
      ∙ journal-more stamp (book ∷ map entries_in lanes) (suc i) (stamped next (i + 1) event) kept (omega (arith, length-map lanes entries_in)) is_next
      ∙ ap (λ (e : Entry). journal_of (book ∷ map entries_in lanes) ++ e ∷ []) (named (i + 1))
