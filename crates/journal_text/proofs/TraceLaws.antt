-- A text is the trace of one journal, or has one first fault.
use Rattle.std.proofs.Common.{◌≡◌, ℕ, ◌+◌, ◌<◌, ◌≤◌, cond, true, List, [], ◌∷◌, ◌++◌, length, Option, Some, None, Result, Ok, Err, MatchResult, ◌⊎◌, inl, inr, refl, sym, ap, subst, ◌∙◌, append_assoc, length-append, arith}
use Rattle.std.specs.List.{flat_map, AllByRecursion}
use Rattle.std.proofs.lemmas.Bool.{cases_lt}
use Rattle.std.proofs.lemmas.List.{append-nil}
use Rattle.std.proofs.lemmas.Option.{cond_some, none-some, some_pair_parts}
use Rattle.array_journal.specs.declared.at.At.{At}
use Rattle.array_journal.specs.declared.entry.Entry.{Entry}
use Rattle.array_journal.specs.Entries.{name_of}
use Rattle.array_journal.specs.Merge.{Rises}
use Rattle.std.specs.Fmt.{decimal}
use Rattle.journal_text.specs.Traces.{field, event_text, entry_line, trace_of}
use Rattle.journal_text.specs.declared.fault.TraceFault.{TraceFault}
use Rattle.journal_text.specs.declared.fault.TraceFault.TheVariants as faults
use Rattle.journal_text.specs.Lines.{entry_at}
use Rattle.journal_text.specs.Readable.{IsEntry, IsTraced, SpellsTrace, IsFirstFaultyLine}
use Rattle.journal_text.specs.Journals.{goes_on, next_at, FailsAt, IsFault, Tells}
use Rattle.text_fields.proofs.Cuts.{bind-some}
use Rattle.journal_text.proofs.InRange.{all-more}
use Rattle.journal_text.proofs.EntryLaws.{entry-takes, entry-again}

-- ---- one entry more

-- the name of the last entry
abbrev pub last_name : List Entry → Option At
last_name [] = None
last_name (e ∷ []) = Some (name_of e)
last_name (e ∷ f ∷ journal) = last_name (f ∷ journal)

pub trace-more : (journal : List Entry) (e : Entry) (rest : List ℕ) → trace_of (journal ++ e ∷ []) ++ rest ≡ trace_of journal ++ (entry_line e ++ rest)
unfolding trace_of
trace-more [] e rest = ap (λ (t : List ℕ). t ++ rest) (append-nil (entry_line e))
trace-more (f ∷ journal) e rest =
    append_assoc (entry_line f) (flat_map entry_line (journal ++ e ∷ [])) rest
    ∙ ap (λ (t : List ℕ). entry_line f ++ t) (trace-more journal e rest)
    ∙ sym (append_assoc (entry_line f) (flat_map entry_line journal) (entry_line e ++ rest))

pub last-more : (journal : List Entry) (e : Entry) → last_name (journal ++ e ∷ []) ≡ Some (name_of e)
last-more [] e = refl
last-more (f ∷ []) e = refl
last-more (f ∷ g ∷ journal) e = last-more (g ∷ journal) e

pub rises-more : (journal : List Entry) (e : Entry) → Rises journal → goes_on (last_name journal) e ≡ true → Rises (journal ++ e ∷ [])
rises-more [] e h k = tt
rises-more (f ∷ []) e h k = (k, tt)
rises-more (f ∷ g ∷ journal) e h k = (h.0, rises-more (g ∷ journal) e h.1 k)

rises-goes : (journal : List Entry) (e : Entry) → Rises (journal ++ e ∷ []) → goes_on (last_name journal) e ≡ true
rises-goes [] e h = refl
rises-goes (f ∷ []) e h = h.0
rises-goes (f ∷ g ∷ journal) e h = rises-goes (g ∷ journal) e h.1

-- a line is no shorter than its end
pub line-longer : (text rest : List ℕ) → length rest < length ((text ++ 10 ∷ []) ++ rest)
line-longer text rest =
    let a : length ((text ++ 10 ∷ []) ++ rest) ≡ length (text ++ 10 ∷ []) + length rest = length-append (text ++ 10 ∷ []) rest in
    let b : length (text ++ 10 ∷ []) ≡ length text + 1 = length-append text (10 ∷ []) in
    omega (arith, a, b)

-- what is kept while lines are read
pub record IsRead (bytes : List ℕ) (journal : List Entry) (last : Option At) (rest : List ℕ) : Type 0 where
  pub parts : bytes ≡ trace_of journal ++ rest
  pub traced : IsTraced journal
  pub name : last ≡ last_name journal
  pub count : length journal + length rest ≤ length bytes

pub read-start : (bytes : List ℕ) → IsRead bytes [] None bytes
unfolding trace_of
read-start bytes = record { parts = refl; traced = (tt, tt); name = refl; count = omega arith }

next-parts : (last : Option At) (bytes : List ℕ) (e : Entry) (after : List ℕ) → next_at last bytes ≡ Some (e, after) → (entry_at bytes ≡ Some (e, after)) × (goes_on last e ≡ true)
unfolding next_at
next-parts last bytes e after h =
    let a = bind-some (entry_at bytes) (λ first. cond (goes_on last first.0) (Some first) None) (e, after) h in
    let g = cond_some (goes_on last a.0.0) a.0 (e, after) a.2 in
    (a.1 ∙ ap (λ (x : Entry × List ℕ). Some x) g.1, sym (ap (λ (x : Entry × List ℕ). goes_on last x.0) g.1) ∙ g.0)

pub read-shorter : (last : Option At) (bytes : List ℕ) (e : Entry) (after : List ℕ) → next_at last bytes ≡ Some (e, after) → length after < length bytes
read-shorter last bytes e after h =
    let t = entry-takes bytes e after (next-parts last bytes e after h).0 in
    subst (λ (xs : List ℕ). length after < length xs) (sym t.0) (line-longer _ after)

pub read-more : (bytes : List ℕ) (journal : List Entry) (last : Option At) (rest : List ℕ) (e : Entry) (after : List ℕ) → IsRead bytes journal last rest → next_at last rest ≡ Some (e, after)
    → IsRead bytes (journal ++ e ∷ []) (Some (name_of e)) after
read-more bytes journal last rest e after r h =
    let n = next-parts last rest e after h in
    let t = entry-takes rest e after n.0 in
    let goes : goes_on (last_name journal) e ≡ true = sym (ap (λ (o : Option At). goes_on o e) r.name) ∙ n.1 in
    let shorter = read-shorter last rest e after h in
    let longer : length (journal ++ e ∷ []) ≡ length journal + 1 = length-append journal (e ∷ []) in
    record {
      parts = r.parts ∙ ap (λ (xs : List ℕ). trace_of journal ++ xs) t.0 ∙ sym (trace-more journal e after);
      traced = (all-more IsEntry journal e r.traced.0 t.1, rises-more journal e r.traced.1 goes);
      name = sym (last-more journal e);
      count = omega (arith, r.count, shorter, longer);
    }

next-from : (last : Option At) (bytes : List ℕ) (e : Entry) (after : List ℕ) → entry_at bytes ≡ Some (e, after) → goes_on last e ≡ true → next_at last bytes ≡ Some (e, after)
unfolding next_at
next-from last bytes e after h g = rw (h, g) refl

all-last : (journal : List Entry) (e : Entry) → AllByRecursion IsEntry (journal ++ e ∷ []) → IsEntry e
all-last [] e h = h.0
all-last (f ∷ journal) e h = all-last journal e h.1

pub read-stops : (bytes : List ℕ) (journal : List Entry) (last : Option At) (rest : List ℕ) (line : ℕ) (fault : TraceFault) → IsRead bytes journal last rest → 0 < length rest → line ≡ length journal + 1
    → FailsAt line fault (next_at last rest) → IsFault bytes fault
read-stops bytes journal last rest line faults.Memory r some n h = tt
read-stops bytes journal last rest line (faults.Line m) r some n h = record {
  before = journal;
  rest = rest;
  parts = r.parts;
  traced = r.traced;
  number = h.0 ∙ n;
  some = λ e. let none : length rest ≡ 0 = ap (λ (xs : List ℕ). length xs) e in omega (arith, none, some);
  broken = λ e more spelt traced. none-some (e, more) (sym h.1 ∙ next-from last rest e more (ap entry_at spelt ∙ entry-again e more (all-last journal e traced.0)) (ap (λ (o : Option At). goes_on o e) r.name ∙ rises-goes journal e traced.1));
}

pub read-all : (bytes : List ℕ) (journal : List Entry) (last : Option At) (rest : List ℕ) → IsRead bytes journal last rest → length rest ≡ 0 → SpellsTrace bytes journal
read-all bytes journal last [] r none = (r.parts ∙ append-nil (trace_of journal), r.traced)
read-all bytes journal last (b ∷ rest) r none = let no : ⊥ = omega arith in absurd no

-- ---- a text has one reading

-- what stands behind the first entries of one reading is what the other goes on with
pub record GoesOn (es fs : List Entry) (x y : List ℕ) : Type 0 where
  pub more : List Entry
  pub entries : fs ≡ es ++ more
  pub bytes : x ≡ trace_of more ++ y

one-line : (e f : Entry) (x y : List ℕ) → IsEntry e → IsEntry f → entry_line e ++ x ≡ entry_line f ++ y → (e ≡ f) × (x ≡ y)
one-line e f x y h k same =
    let both : Some (e, x) ≡ Some (f, y) = sym (entry-again e x h) ∙ ap entry_at same ∙ entry-again f y k in
    some_pair_parts e f x y both

-- of two readings the longer goes on from the shorter
pub compared : (es fs : List Entry) (x y : List ℕ) → AllByRecursion IsEntry es → AllByRecursion IsEntry fs → length es ≤ length fs → trace_of es ++ x ≡ trace_of fs ++ y → GoesOn es fs x y
unfolding trace_of
compared [] fs x y h k le same = record { more = fs; entries = refl; bytes = same }
compared (e ∷ es) [] x y h k le same = let no : ⊥ = omega arith in absurd no
compared (e ∷ es) (f ∷ fs) x y h k le same =
    let one = one-line e f (flat_map entry_line es ++ x) (flat_map entry_line fs ++ y) h.0 k.0
    (sym (append_assoc (entry_line e) (flat_map entry_line es) x) ∙ same ∙ append_assoc (entry_line f) (flat_map entry_line fs) y) in
    let rest = compared es fs x y h.1 k.1 (omega arith) one.1 in
    record { more = rest.more; entries = ap (λ (g : Entry). g ∷ fs) (sym one.0) ∙ ap (λ (gs : List Entry). e ∷ gs) rest.entries; bytes = rest.bytes }

no-line : (e : Entry) (x : List ℕ) → entry_line e ++ x ≡ [] → ⊥
no-line e x h =
    let long = line-longer (decimal e.stamp ++ (field (decimal e.lock) ++ field (event_text e.event))) x in
    let none : length (entry_line e ++ x) ≡ 0 = ap (λ (xs : List ℕ). length xs) h in
    omega (arith, long, none)

traces-nothing : (journal : List Entry) (x : List ℕ) → trace_of journal ++ x ≡ [] → (journal ≡ []) × (x ≡ [])
unfolding trace_of
traces-nothing [] x h = (refl, h)
traces-nothing (e ∷ journal) x h = absurd (no-line e (flat_map entry_line journal ++ x) (sym (append_assoc (entry_line e) (flat_map entry_line journal) x) ∙ h))

rises-front : (front : List Entry) (e : Entry) (rest : List Entry) → Rises (front ++ e ∷ rest) → Rises (front ++ e ∷ [])
rises-front [] e rest h = tt
rises-front (f ∷ []) e rest h = (h.0, tt)
rises-front (f ∷ g ∷ front) e rest h = (h.0, rises-front (g ∷ front) e rest h.1)

all-front : (front : List Entry) (e : Entry) (rest : List Entry) → AllByRecursion IsEntry (front ++ e ∷ rest) → AllByRecursion IsEntry (front ++ e ∷ [])
all-front [] e rest h = (h.0, tt)
all-front (f ∷ front) e rest h = (h.0, all-front front e rest h.1)

-- no reading goes on from a fault
stuck : (bytes : List ℕ) (n : ℕ) (q : IsFirstFaultyLine bytes n) (fs more : List Entry) (y : List ℕ) → IsTraced fs → fs ≡ q.before ++ more → q.rest ≡ trace_of more ++ y → more ≡ []
unfolding trace_of
stuck bytes n q fs [] y traced e h = refl
stuck bytes n q fs (f ∷ more) y traced e h =
    let t : IsTraced (q.before ++ f ∷ more) = subst (λ (xs : List Entry). IsTraced xs) e traced in
    absurd (q.broken f (flat_map entry_line more ++ y) (h ∙ append_assoc (entry_line f) (flat_map entry_line more) y) (all-front q.before f more t.0, rises-front q.before f more t.1))

-- a text with a fault is no trace
pub no-fault : (bytes : List ℕ) (n : ℕ) (journal : List Entry) → IsFirstFaultyLine bytes n → SpellsTrace bytes journal → ⊥
unfolding trace_of
no-fault bytes n journal q s = by-order (cases_lt (length journal) (length q.before))
  where
    same : trace_of journal ++ [] ≡ trace_of q.before ++ q.rest
    same = append-nil (trace_of journal) ∙ sym s.0 ∙ q.parts

    by-order : (length journal < length q.before) ⊎ (length q.before ≤ length journal) → ⊥
    by-order (inl lt) =
        let g = compared journal q.before [] q.rest s.1.0 q.traced.0 (omega arith) same in
        q.some (traces-nothing g.more q.rest (sym g.bytes)).1
    by-order (inr le) =
        let g = compared q.before journal q.rest [] q.traced.0 s.1.0 le (sym same) in
        let none : g.more ≡ [] = stuck bytes n q journal g.more [] s.1 g.entries g.bytes in
        q.some (g.bytes ∙ ap (λ (es : List Entry). trace_of es ++ []) none)

-- a text has one first fault
pub one-fault : (bytes : List ℕ) (m n : ℕ) → IsFirstFaultyLine bytes m → IsFirstFaultyLine bytes n → m ≡ n
one-fault bytes m n p q = p.number ∙ ap (λ (k : ℕ). k + 1) (by-order (cases_lt (length p.before) (length q.before))) ∙ sym q.number
  where
    same : trace_of p.before ++ p.rest ≡ trace_of q.before ++ q.rest
    same = sym p.parts ∙ q.parts

    by-order : (length p.before < length q.before) ⊎ (length q.before ≤ length p.before) → length p.before ≡ length q.before
    by-order (inl lt) =
        let g = compared p.before q.before p.rest q.rest p.traced.0 q.traced.0 (omega arith) same in
        let none : g.more ≡ [] = stuck bytes m p q.before g.more q.rest q.traced g.entries g.bytes in
        sym (ap (λ (es : List Entry). length es) (g.entries ∙ ap (λ (es : List Entry). p.before ++ es) none ∙ append-nil p.before))
    by-order (inr le) =
        let g = compared q.before p.before q.rest p.rest q.traced.0 p.traced.0 le (sym same) in
        let none : g.more ≡ [] = stuck bytes n q p.before g.more p.rest p.traced g.entries g.bytes in
        ap (λ (es : List Entry). length es) (g.entries ∙ ap (λ (es : List Entry). q.before ++ es) none ∙ append-nil q.before)

-- a text is the trace of one journal
pub one-journal : (bytes : List ℕ) (j k : List Entry) → SpellsTrace bytes j → SpellsTrace bytes k → j ≡ k
one-journal bytes j k s t = by-order (cases_lt (length j) (length k))
  where
    same : trace_of j ++ [] ≡ trace_of k ++ []
    same = append-nil (trace_of j) ∙ sym s.0 ∙ t.0 ∙ sym (append-nil (trace_of k))

    by-order : (length j < length k) ⊎ (length k ≤ length j) → j ≡ k
    by-order (inl lt) =
        let g = compared j k [] [] s.1.0 t.1.0 (omega arith) same in
        let none = traces-nothing g.more [] (sym g.bytes) in
        sym (g.entries ∙ ap (λ (es : List Entry). j ++ es) none.0 ∙ append-nil j)
    by-order (inr le) =
        let g = compared k j [] [] t.1.0 s.1.0 le (sym same) in
        let none = traces-nothing g.more [] (sym g.bytes) in
        g.entries ∙ ap (λ (es : List Entry). k ++ es) none.0 ∙ append-nil k

-- ---- what an answer says

abbrev Answer : Type 0
Answer = Result (List Entry) TraceFault

pub answer-spelt : (bytes : List ℕ) (r : Answer) → MatchResult r (λ j. SpellsTrace bytes j) (λ e. IsFault bytes e) → (j : List Entry) → SpellsTrace bytes j → MatchResult r (λ k. k ≡ j) (λ e. e ≡ faults.Memory)
answer-spelt bytes (Ok k) h j s = one-journal bytes k j h s
answer-spelt bytes (Err faults.Memory) h j s = refl
answer-spelt bytes (Err (faults.Line n)) h j s = absurd (no-fault bytes n j h s)

pub answer-fault : (bytes : List ℕ) (r : Answer) → MatchResult r (λ j. SpellsTrace bytes j) (λ e. IsFault bytes e) → (n : ℕ) → IsFirstFaultyLine bytes n → MatchResult r (λ j. ⊥) (λ e. Tells n e)
answer-fault bytes (Ok j) h n q = no-fault bytes n j q h
answer-fault bytes (Err faults.Memory) h n q = tt
answer-fault bytes (Err (faults.Line m)) h n q = one-fault bytes m n h q
