-- A table stays one where a run is put behind the others, and where blocks of a run are let go.
use Rattle.std.proofs.Common.{◌≡◌, ◌==◌, ℕ, ◌+◌, ◌-◌, ◌*◌, ◌<◌, ◌≤◌, Bool, true, false, cond, List, [], ◌∷◌, ◌++◌, length, take, drop, Some, None, inl, inr, refl, ap, sym, ◌∙◌, subst, arith}
use Rattle.std.specs.Prelude.{nat_lt, nat_le}
use Rattle.std.specs.List.{AllByRecursion}
use Rattle.std.proofs.lemmas.Bool.{eq-eqb, ne_eqb, cases_eq, cases_Bool, lt-ltb, le-leb, leb-true, and_parts, and_from, both_ways, false_from_ne_true, cond-true, cond-false}
use Rattle.std.proofs.lemmas.List.{length-take-le, take_at, drop_at, append_assoc}
use Rattle.blocks_core.specs.Lists.{put}
use Rattle.xor_buffers.specs.declared.buffer.table.Run.{Run}
use Rattle.xor_buffers.specs.Runs.{runs_of, blocks_in, run_holds, run_overlaps, run_overlap, times_held, run_rest, IsRun, IsTable}
use Rattle.xor_buffers.proofs.TableSteps.{blocks_in-append}
use Rattle.xor_buffers.proofs.RunLaws.{runs_of-same, runs_of-append}
use Rattle.xor_buffers.proofs.TakenRows.{front_part, back_part, blocks_in-front, blocks_in-back}

pub all-append : (P : Run → Type 0) (xs ys : List Run) → AllByRecursion P xs → AllByRecursion P ys → AllByRecursion P (xs ++ ys)
all-append P [] ys p q = q
all-append P (x ∷ xs) ys p q = (p.0, all-append P xs ys p.1 q)

pub all-left : (P : Run → Type 0) (xs ys : List Run) → AllByRecursion P (xs ++ ys) → AllByRecursion P xs
all-left P [] ys p = tt
all-left P (x ∷ xs) ys p = (p.0, all-left P xs ys p.1)

pub all-right : (P : Run → Type 0) (xs ys : List Run) → AllByRecursion P (xs ++ ys) → AllByRecursion P ys
all-right P [] ys p = p
all-right P (x ∷ xs) ys p = all-right P xs ys p.1

pub times_held-append : (row : ℕ) (xs ys : List Run) → times_held row (xs ++ ys) ≡ times_held row xs + times_held row ys
times_held-append row [] ys = omega arith
times_held-append row (x ∷ xs) ys = omega (arith, times_held-append row xs ys)

-- each run has a block at least
pub runs-few : (runs : List Run) → AllByRecursion IsRun runs → length runs ≤ blocks_in runs
runs-few [] sound = omega arith
runs-few (e ∷ es) sound = omega (arith, sound.0.filled, runs-few es sound.1)

-- a row in a run, in numbers
has-row : (row : ℕ) (e : Run) → run_holds row 1 e ≡ true → (e.row ≤ row) × (row < e.row + e.count)
has-row row e h =
    let parts : (nat_le e.row row ≡ true) × (nat_le (row + 1) (e.row + e.count) ≡ true) = and_parts (nat_le e.row row) (nat_le (row + 1) (e.row + e.count)) h in
    let last : row + 1 ≤ e.row + e.count = leb-true (row + 1) (e.row + e.count) parts.1 in
    (leb-true e.row row parts.0, omega (arith, last))

row-in : (row : ℕ) (e : Run) → e.row ≤ row → row < e.row + e.count → run_holds row 1 e ≡ true
row-in row e from until = and_from (nat_le e.row row) (nat_le (row + 1) (e.row + e.count)) (le-leb e.row row from) (le-leb (row + 1) (e.row + e.count) (omega (arith, until)))

one-held : (row : ℕ) (e : Run) → run_holds row 1 e ≡ true → (es : List Run) → times_held row (e ∷ es) ≡ 1 + times_held row es
one-held row e h es = ap (λ (t : Bool). cond t 1 0 + times_held row es) h

none-held : (row : ℕ) (e : Run) → run_holds row 1 e ≡ false → (es : List Run) → times_held row (e ∷ es) ≡ times_held row es
none-held row e h es = ap (λ (t : Bool). cond t 1 0 + times_held row es) h ∙ omega arith

-- rows that no run has
pub rows-free : (row count : ℕ) (es : List Run) (r : ℕ) → run_overlap row count es ≡ None → row ≤ r → r < row + count → times_held r es ≡ 0
rows-free row count [] r free from until = refl
rows-free row count (e ∷ es) r free from until = elim (cases_Bool (run_overlaps row count e)) [
  | inl over ↦ absurd (some-none (sym (cond-true (run_overlaps row count e) (Some e.owner) (run_overlap row count es) over) ∙ free))
  | inr apart ↦
      none-held r e (false_from_ne_true (run_holds r 1 e) (λ h. both_ways (run_overlaps row count e) apart (meets (has-row r e h)))) es
      ∙ rows-free row count es r (sym (cond-false (run_overlaps row count e) (Some e.owner) (run_overlap row count es) apart) ∙ free) from until
]
  where
    some-none : Some e.owner ≡ None → ⊥
    some-none q = cc

    meets : (e.row ≤ r) × (r < e.row + e.count) → run_overlaps row count e ≡ true
    meets p = and_from (nat_lt e.row (row + count)) (nat_lt row (e.row + e.count)) (lt-ltb e.row (row + count) (omega (arith, p.0, until))) (lt-ltb row (e.row + e.count) (omega (arith, p.1, from)))

-- what is left of a run has a row no more often than the run
rest-rows : (row start count : ℕ) (e : Run) → start + count ≤ e.count → times_held row (run_rest start count e) ≤ times_held row (e ∷ [])
rest-rows row start count e le = elim (cases_Bool (run_holds row 1 e)) [
  | inl within ↦ omega (arith, one-held row e within [], both, at_most_front, at_most_back, not_both)
  | inr out ↦ omega (arith, none-held row e out [], both, front_none out, back_none out)
]
  where
    front : Run
    front = record { owner = e.owner; row = e.row; count = start }

    back : Run
    back = record { owner = e.owner; row = e.row + (start + count); count = e.count - (start + count) }

    both : times_held row (run_rest start count e) ≡ times_held row (front_part start e) + times_held row (back_part (start + count) e)
    both = times_held-append row (front_part start e) (back_part (start + count) e)

    front_is : times_held row (front_part start e) ≤ times_held row (front ∷ [])
    front_is = elim (cases_Bool (start == 0)) [
      | inl t ↦ subst (λ l. times_held row l ≤ times_held row (front ∷ [])) (sym (cond-true (start == 0) [] (front ∷ []) t)) (omega arith)
      | inr f ↦ subst (λ l. times_held row l ≤ times_held row (front ∷ [])) (sym (cond-false (start == 0) [] (front ∷ []) f)) (omega arith)
    ]

    back_is : times_held row (back_part (start + count) e) ≤ times_held row (back ∷ [])
    back_is = elim (cases_Bool (start + count == e.count)) [
      | inl t ↦ subst (λ l. times_held row l ≤ times_held row (back ∷ [])) (sym (cond-true (start + count == e.count) [] (back ∷ []) t)) (omega arith)
      | inr f ↦ subst (λ l. times_held row l ≤ times_held row (back ∷ [])) (sym (cond-false (start + count == e.count) [] (back ∷ []) f)) (omega arith)
    ]

    in_front : run_holds row 1 front ≡ true → row < e.row + start
    in_front h = (has-row row front h).1

    in_back : run_holds row 1 back ≡ true → (e.row + (start + count) ≤ row) × (row < e.row + (start + count) + (e.count - (start + count)))
    in_back h = has-row row back h

    at_most_front : times_held row (front_part start e) ≤ 1
    at_most_front = elim (cases_Bool (run_holds row 1 front)) [ inl t ↦ omega (arith, front_is, one-held row front t []) | inr f ↦ omega (arith, front_is, none-held row front f []) ]

    at_most_back : times_held row (back_part (start + count) e) ≤ 1
    at_most_back = elim (cases_Bool (run_holds row 1 back)) [ inl t ↦ omega (arith, back_is, one-held row back t []) | inr f ↦ omega (arith, back_is, none-held row back f []) ]

    not_both : times_held row (front_part start e) + times_held row (back_part (start + count) e) ≤ 1
    not_both = elim (cases_Bool (run_holds row 1 front)) [
      | inl t ↦ elim (cases_Bool (run_holds row 1 back)) [
        | inl u ↦ absurd (omega (arith, in_front t, (in_back u).0))
        | inr v ↦ omega (arith, at_most_front, back_is, none-held row back v [])
      ]
      | inr f ↦ omega (arith, front_is, none-held row front f [], at_most_back)
    ]

    front_none : run_holds row 1 e ≡ false → times_held row (front_part start e) ≡ 0
    front_none out = elim (cases_Bool (run_holds row 1 front)) [
      | inl t ↦ absurd (both_ways (run_holds row 1 e) out (row-in row e (has-row row front t).0 (omega (arith, in_front t, le))))
      | inr f ↦ omega (arith, front_is, none-held row front f [])
    ]

    back_none : run_holds row 1 e ≡ false → times_held row (back_part (start + count) e) ≡ 0
    back_none out = elim (cases_Bool (run_holds row 1 back)) [
      | inl t ↦ absurd (both_ways (run_holds row 1 e) out (row-in row e (omega (arith, (in_back t).0)) (omega (arith, (in_back t).1, le))))
      | inr f ↦ omega (arith, back_is, none-held row back f [])
    ]

-- and is runs
rest-sound : (start count : ℕ) (e : Run) → start + count ≤ e.count → IsRun e → AllByRecursion IsRun (run_rest start count e)
rest-sound start count e le sound = all-append IsRun (front_part start e) (back_part (start + count) e) front back
  where
    front : AllByRecursion IsRun (front_part start e)
    front = elim (cases_eq start 0) [
      | inl none ↦ subst (AllByRecursion IsRun) (sym (cond-true (start == 0) _ _ (eq-eqb start 0 none))) tt
      | inr some ↦ subst (AllByRecursion IsRun) (sym (cond-false (start == 0) _ _ (ne_eqb start 0 some)))
          (record { filled = omega (arith, some); fits = omega (arith, sound.fits, le) }, tt)
    ]

    back : AllByRecursion IsRun (back_part (start + count) e)
    back = elim (cases_eq (start + count) e.count) [
      | inl all ↦ subst (AllByRecursion IsRun) (sym (cond-true (start + count == e.count) _ _ (eq-eqb (start + count) e.count all))) tt
      | inr more ↦ subst (AllByRecursion IsRun) (sym (cond-false (start + count == e.count) _ _ (ne_eqb (start + count) e.count more)))
          (record { filled = omega (arith, more, le); fits = omega (arith, sound.fits, le) }, tt)
    ]

pub table-append : (b slots capacity used places later : ℕ) (v w : List ℕ) (runs : List Run) (n : Run) → IsTable b slots v capacity used places runs → IsRun n →
    used + n.count ≤ slots → used + n.count ≤ capacity → run_overlap n.row n.count runs ≡ None → length w ≡ length v → places ≤ later →
    IsTable b slots w capacity (used + n.count) later (runs ++ n ∷ [])
table-append b slots capacity used places later v w runs n t sound fits room free len more = record {
  some_block = t.some_block;
  whole = len ∙ t.whole;
  counted = omega (arith, t.counted, blocks_in-append runs (n ∷ []));
  within = fits;
  room = room;
  sound = all-append IsRun runs (n ∷ []) t.sound (sound, tt);
  apart = λ r. elim (cases_Bool (run_holds r 1 n)) [
    | inl within ↦ omega (arith, times_held-append r runs (n ∷ []), one-held r n within [], rows-free n.row n.count runs r free (has-row r n within).0 (has-row r n within).1)
    | inr out ↦ omega (arith, times_held-append r runs (n ∷ []), none-held r n out [], t.apart r)
  ];
  table = omega (arith, t.table, more);
  few = t.few;
}

pub table-cut : (b slots capacity used places later start count : ℕ) (v w : List ℕ) (front back : List Run) (e : Run) →
    IsTable b slots v capacity used places (front ++ e ∷ back) → start + count ≤ e.count → length w ≡ length v → places ≤ later →
    IsTable b slots w capacity (used - count) later (front ++ (run_rest start count e ++ back))
table-cut b slots capacity used places later start count v w front back e t le len more = record {
  some_block = t.some_block;
  whole = len ∙ t.whole;
  counted = omega (
    arith,
    t.counted,
    blocks_in-append front (e ∷ back),
    blocks_in-append front (run_rest start count e ++ back),
    blocks_in-append (run_rest start count e) back,
    blocks_in-append (front_part start e) (back_part (start + count) e),
    blocks_in-front start e,
    blocks_in-back (start + count) e le,
    le,
  );
  within = omega (arith, t.within);
  room = omega (arith, t.room);
  sound = all-append IsRun front (run_rest start count e ++ back) (all-left IsRun front (e ∷ back) t.sound)
      (all-append IsRun (run_rest start count e) back (rest-sound start count e le (all-right IsRun front (e ∷ back) t.sound).0) (all-right IsRun front (e ∷ back) t.sound).1);
  apart = λ r. omega (
    arith,
    t.apart r,
    times_held-append r front (e ∷ back),
    times_held-append r front (run_rest start count e ++ back),
    times_held-append r (run_rest start count e) back,
    times_held-append r (e ∷ []) back,
    rest-rows r start count e le,
  );
  table = omega (arith, t.table, more);
  few = t.few;
}

-- no other run contains rows of one
pub none-before : (row count : ℕ) (front back : List Run) (e : Run) → 1 ≤ count → run_holds row count e ≡ true → times_held row (front ++ e ∷ back) ≤ 1 →
    AllByRecursion (λ x. run_holds row count x ≡ false) front
none-before row count [] back e some holds once = tt
none-before row count (f ∷ fs) back e some holds once = (
  false_from_ne_true (run_holds row count f) (λ h. omega (arith, once, one-held row f (first f h) (fs ++ e ∷ back), own)),
  none-before row count fs back e some holds (omega (arith, once)),
)
  where
    first : (x : Run) → run_holds row count x ≡ true → run_holds row 1 x ≡ true
    first x h =
        let parts : (nat_le x.row row ≡ true) × (nat_le (row + count) (x.row + x.count) ≡ true) = and_parts (nat_le x.row row) (nat_le (row + count) (x.row + x.count)) h in
        let last : row + count ≤ x.row + x.count = leb-true (row + count) (x.row + x.count) parts.1 in
        row-in row x (leb-true x.row row parts.0) (omega (arith, last, some))

    own : 1 ≤ times_held row (fs ++ e ∷ back)
    own = omega (arith, times_held-append row fs (e ∷ back), one-held row e (first e holds) back)

-- blocks that are put behind all others
pub held-append : (b used : ℕ) (v bytes : List ℕ) (runs : List Run) (n : Run) → used ≡ blocks_in runs → length bytes ≡ n.count * b → used * b + length bytes ≤ length v →
    runs_of b (put v (used * b) bytes) (runs ++ n ∷ []) ≡ runs_of b v runs ++ record { owner = n.owner; row = n.row; bytes = bytes } ∷ []
held-append b used v bytes runs n is len fits =
    runs_of-append b (put v (used * b) bytes) runs (n ∷ [])
    ∙ ap (λ hs. hs ++ runs_of b (drop (blocks_in runs * b) (put v (used * b) bytes)) (n ∷ [])) (runs_of-same b (put v (used * b) bytes) v runs before)
    ∙ ap (λ l. runs_of b v runs ++ record { owner = n.owner; row = n.row; bytes = l } ∷ []) own
  where
    front : length (take (used * b) v) ≡ used * b
    front = length-take-le (used * b) v (omega (arith, fits))

    place : blocks_in runs * b ≡ used * b
    place = ap (λ n. n * b) (sym is)

    before : take (blocks_in runs * b) (put v (used * b) bytes) ≡ take (blocks_in runs * b) v
    before =
        ap (λ n. take n (put v (used * b) bytes)) place
        ∙ ap (take (used * b)) (append_assoc (take (used * b) v) bytes (drop (used * b + length bytes) v))
        ∙ take_at (take (used * b) v) (bytes ++ drop (used * b + length bytes) v) (used * b) front
        ∙ ap (λ n. take n v) (sym place)

    own : take (n.count * b) (drop (blocks_in runs * b) (put v (used * b) bytes)) ≡ bytes
    own =
        ap (λ m. take (n.count * b) (drop m (put v (used * b) bytes))) place
        ∙ ap (λ l. take (n.count * b) (drop (used * b) l)) (append_assoc (take (used * b) v) bytes (drop (used * b + length bytes) v))
        ∙ ap (take (n.count * b)) (drop_at (take (used * b) v) (bytes ++ drop (used * b + length bytes) v) (used * b) front)
        ∙ take_at bytes (drop (used * b + length bytes) v) (n.count * b) len
