-- A cut at a place of a table: what it needs, and what the buffer holds then.
use Rattle.std.proofs.Common.{◌≡◌, ℕ, zero, suc, ◌+◌, ◌-◌, ◌*◌, ◌/◌, ◌%◌, ◌^◌, ◌≤◌, true, false, List, ◌∷◌, ◌++◌, length, take, drop, get_or, Some, ap, sym, ◌∙◌, subst, arith, inl, inr, None, [], ◌==◌, Bool, refl}
use Rattle.std.specs.List.{AllByRecursion}
use Rattle.std.proofs.Math.Nat.{add-mul, zero-mul}
use Rattle.std.proofs.lemmas.Nat.{mul-le}
use Rattle.std.specs.Prelude.{nat_lt, ◌&&◌}
use Rattle.std.proofs.lemmas.Bool.{cases_Bool, cond-true, cond-false, and_right, le-ltb}
use Rattle.std.proofs.lemmas.List.{length-append, length-take-le, length-drop, take-append-drop, drop_more}
use Rattle.blocks_core.specs.Lists.{slice}
use Rattle.xor_buffers.specs.declared.buffer.table.Run.{Run}
use Rattle.xor_buffers.specs.Held.{take_rows, rows_held, holder_of}
use Rattle.xor_buffers.specs.Slots.{released}
use Rattle.xor_buffers.specs.Runs.{runs_of, blocks_in, run_holds, run_overlap, run_overlaps, run_rest, times_held, IsRun, IsTable, IsPlace, AreBetween}
use Rattle.xor_buffers.proofs.TableSteps.{blocks_in-append}
use Rattle.xor_buffers.proofs.RunLaws.{runs_of-same, cut_out, take-released}
use Rattle.xor_buffers.proofs.TakenRows.{IsWithin, is_within, front_part, back_part, blocks_in-front, blocks_in-back, cut-is-taken, rows-cut}
use Rattle.xor_buffers.proofs.TableLaws.{all-append, all-left, all-right, runs-few, table-cut, none-before}
use Rattle.xor_buffers.proofs.HeldViews.{bytes_inside}

-- whole blocks, in numbers
pub whole-blocks : (b n : ℕ) → 1 ≤ b → n % b ≡ 0 → n ≡ n / b * b
whole-blocks b n some whole = omega (arith, whole)

pub some-blocks : (b n k : ℕ) → 1 ≤ n → n ≡ k * b → 1 ≤ k
some-blocks b n zero some is = absurd (omega (arith, some, is, zero-mul b))
some-blocks b n (suc k) some is = omega arith

-- rows of a run at a place, and what stands around it
pub record IsCut (used places row count index at : ℕ) (runs : List Run) (run : Run) : Type 0 where
  pub split : runs ≡ take index runs ++ run ∷ drop (index + 1) runs
  pub holds : run_holds row count run ≡ true
  pub within : IsWithin row count run
  pub none : AllByRecursion (λ x. run_holds row count x ≡ false) (take index runs)
  pub behind : at ≡ blocks_in (take index runs)
  pub whole : used ≡ blocks_in (take index runs) + (run.count + blocks_in (drop (index + 1) runs))
  pub few : length runs + (run.count - count) ≤ places + 1
  pub fits : run.row + run.count ≤ 2 ^ 32
  pub inside : at + (row - run.row) + count ≤ used

pub is_cut : (b slots capacity used places row count index at : ℕ) (v : List ℕ) (runs : List Run) (run : Run) → IsTable b slots v capacity used places runs →
    IsPlace row count runs index at → 1 ≤ count → run ≡ get_or runs index run → IsCut used places row count index at runs run
is_cut b slots capacity used places row count index at v runs run t p some read = record {
  split = split;
  holds = holds;
  within = within;
  none = none-before row count front back run some holds (subst (λ l. times_is l) split (t.apart row));
  behind = p.behind;
  whole = whole;
  few = omega (
    arith,
    ap (λ (l : List Run). length l) split,
    length-append front (run ∷ back),
    runs-few front (all-left IsRun front (run ∷ back) sound),
    runs-few back (all-right IsRun front (run ∷ back) sound).1,
    whole,
    t.within,
    t.table,
    some,
    within.until,
  );
  fits = (all-right IsRun front (run ∷ back) sound).0.fits;
  inside = omega (arith, p.behind, whole, within.until);
}
  where
    front : List Run
    front = take index runs

    back : List Run
    back = drop (index + 1) runs

    split : runs ≡ front ++ run ∷ back
    split = sym (take-append-drop index runs) ∙ ap (λ l. front ++ l) (drop_more runs index run p.inside ∙ ap (λ (e : Run). e ∷ back) (sym read))

    holds : run_holds row count run ≡ true
    holds = ap (run_holds row count) read ∙ p.contains run

    within : IsWithin row count run
    within = is_within row count run holds

    sound : AllByRecursion IsRun (front ++ run ∷ back)
    sound = subst (AllByRecursion IsRun) split t.sound

    whole : used ≡ blocks_in front + (run.count + blocks_in back)
    whole = t.counted ∙ ap blocks_in split ∙ blocks_in-append front (run ∷ back)

    times_is : List Run → Type 0
    times_is l = times_held row l ≤ 1

pub length-released : (at len used : ℕ) (bytes : List ℕ) → at + len ≤ used → used ≤ length bytes → length (released at len used bytes) ≡ length bytes
length-released at len used bytes within le = omega (
  arith,
  length-append (take at bytes ++ slice bytes (at + len) (used - (at + len)) ++ slice bytes at len) (drop used bytes),
  length-append (take at bytes ++ slice bytes (at + len) (used - (at + len))) (slice bytes at len),
  length-append (take at bytes) (slice bytes (at + len) (used - (at + len))),
  length-take-le at bytes (omega (arith, within, le)),
  length-take-le (used - (at + len)) (drop (at + len) bytes) (omega (arith, length-drop (at + len) bytes, le)),
  length-take-le len (drop at bytes) (omega (arith, length-drop at bytes, within, le)),
  length-drop used bytes,
  within,
  le,
)

-- the bytes of the cut, within those that are used
pub cut-bytes : (b used places row count index at : ℕ) (runs : List Run) (run : Run) → IsCut used places row count index at runs run →
    (at + (row - run.row)) * b + count * b ≤ used * b
cut-bytes b used places row count index at runs run k =
    omega (arith, add-mul (at + (row - run.row)) count b, mul-le (at + (row - run.row) + count) b used b k.inside (omega arith))

pub list-cut : (b slots capacity used places row count index at : ℕ) (v : List ℕ) (runs : List Run) (run : Run) → IsTable b slots v capacity used places runs →
    IsCut used places row count index at runs run →
    runs_of b (released ((at + (row - run.row)) * b) (count * b) (used * b) v) (take index runs ++ (run_rest (row - run.row) count run ++ drop (index + 1) runs))
    ≡ take_rows b row (count * b) (runs_of b v runs)
list-cut b slots capacity used places row count index at v runs run t k =
    runs_of-same b (released ((at + s) * b) (count * b) (used * b) v) (cut_out ((at + s) * b) (count * b) v) (front ++ (run_rest s count run ++ back)) same
    ∙ ap (λ n. runs_of b (cut_out ((n + s) * b) (count * b) v) (front ++ (run_rest s count run ++ back))) k.behind
    ∙ cut-is-taken b row count front run back v t.some_block k.none k.holds room
    ∙ ap (λ l. take_rows b row (count * b) (runs_of b v l)) (sym k.split)
  where
    s : ℕ
    s = row - run.row

    front : List Run
    front = take index runs

    back : List Run
    back = drop (index + 1) runs

    used_bytes : used * b ≤ length v
    used_bytes = omega (arith, bytes_inside b slots capacity used places v runs t, ap (λ n. n * b) t.counted)

    room : (blocks_in front + (run.count + blocks_in back)) * b ≤ length v
    room = subst (λ n. n * b ≤ length v) k.whole used_bytes

    left : blocks_in (front ++ (run_rest s count run ++ back)) ≡ used - count
    left = omega (
      arith,
      blocks_in-append front (run_rest s count run ++ back),
      blocks_in-append (run_rest s count run) back,
      blocks_in-append (front_part s run) (back_part (s + count) run),
      blocks_in-front s run,
      blocks_in-back (s + count) run k.within.until,
      k.whole,
      k.within.until,
    )

    bytes_left : blocks_in (front ++ (run_rest s count run ++ back)) * b ≡ used * b - count * b
    bytes_left = ap (λ n. n * b) left ∙ omega (arith, ap (λ n. n * b) whole, add-mul (used - count) count b)
      where
        whole : used ≡ used - count + count
        whole = omega (arith, k.inside)

    same : take (blocks_in (front ++ (run_rest s count run ++ back)) * b) (released ((at + s) * b) (count * b) (used * b) v)
        ≡ take (blocks_in (front ++ (run_rest s count run ++ back)) * b) (cut_out ((at + s) * b) (count * b) v)
    same =
        ap (λ n. take n (released ((at + s) * b) (count * b) (used * b) v)) bytes_left
        ∙ take-released ((at + s) * b) (count * b) (used * b) v (cut-bytes b used places row count index at runs run k) used_bytes
        ∙ ap (λ n. take n (cut_out ((at + s) * b) (count * b) v)) (sym bytes_left)

pub rows-of-cut : (b slots capacity used places row count index at : ℕ) (v : List ℕ) (runs : List Run) (run : Run) → IsTable b slots v capacity used places runs →
    IsCut used places row count index at runs run →
    (rows_held b run.owner row (count * b) (runs_of b v runs) ≡ Some (slice v ((at + (row - run.row)) * b) (count * b)))
    × (holder_of b row (count * b) (runs_of b v runs) ≡ Some run.owner)
rows-of-cut b slots capacity used places row count index at v runs run t k =
    let used_bytes : used * b ≤ length v = omega (arith, bytes_inside b slots capacity used places v runs t, ap (λ n. n * b) t.counted) in
    let room : (blocks_in (take index runs) + (run.count + blocks_in (drop (index + 1) runs))) * b ≤ length v = subst (λ n. n * b ≤ length v) k.whole used_bytes in
    let found : (rows_held b run.owner row (count * b) (runs_of b v (take index runs ++ run ∷ drop (index + 1) runs))
    ≡ Some (slice v ((blocks_in (take index runs) + (row - run.row)) * b) (count * b)))
    × (holder_of b row (count * b) (runs_of b v (take index runs ++ run ∷ drop (index + 1) runs)) ≡ Some run.owner) =
    rows-cut b row count (take index runs) run (drop (index + 1) runs) v t.some_block k.none k.holds room in (
      ap (λ l. rows_held b run.owner row (count * b) (runs_of b v l)) k.split ∙ found.0 ∙ ap (λ n. Some (slice v ((n + (row - run.row)) * b) (count * b))) (sym k.behind),
      ap (λ l. holder_of b row (count * b) (runs_of b v l)) k.split ∙ found.1,
    )

pub table-of-cut : (b slots capacity used places later row count index at : ℕ) (v : List ℕ) (runs : List Run) (run : Run) → IsTable b slots v capacity used places runs →
    IsCut used places row count index at runs run → places ≤ later →
    IsTable b slots (released ((at + (row - run.row)) * b) (count * b) (used * b) v) capacity (used - count) later
    (take index runs ++ (run_rest (row - run.row) count run ++ drop (index + 1) runs))
table-of-cut b slots capacity used places later row count index at v runs run t k more =
    table-cut b slots capacity used places later (row - run.row) count v (released ((at + (row - run.row)) * b) (count * b) (used * b) v)
    (take index runs) (drop (index + 1) runs) run (subst (λ l. IsTable b slots v capacity used places l) k.split t) k.within.until
    (length-released ((at + (row - run.row)) * b) (count * b) (used * b) v (cut-bytes b used places row count index at runs run k)
    (omega (arith, bytes_inside b slots capacity used places v runs t, ap (λ n. n * b) t.counted))) more

-- rows from the end of all runs on are free
pub beyond : (first end row count : ℕ) (runs : List Run) → AreBetween first end runs → end ≤ row → run_overlap row count runs ≡ None
beyond first end row count [] between h = refl
beyond first end row count (e ∷ es) between h =
    cond-false (run_overlaps row count e) (Some e.owner) (run_overlap row count es)
    (and_right (nat_lt e.row (row + count)) (nat_lt row (e.row + e.count)) (le-ltb row (e.row + e.count) (omega (arith, between.0.1, h))))
    ∙ beyond first end row count es between.1 h

-- and so are rows before the first of all runs
pub ahead : (first end row count : ℕ) (runs : List Run) → AreBetween first end runs → row + count ≤ first → run_overlap row count runs ≡ None
ahead first end row count [] between h = refl
ahead first end row count (e ∷ es) between h =
    cond-false (run_overlaps row count e) (Some e.owner) (run_overlap row count es)
    (ap (λ (lower : Bool). lower && nat_lt row (e.row + e.count)) (le-ltb e.row (row + count) (omega (arith, between.0.0, h))))
    ∙ ahead first end row count es between.1 h

pub between-wider : (first end least most : ℕ) (runs : List Run) → least ≤ first → end ≤ most → AreBetween first end runs → AreBetween least most runs
between-wider first end least most [] lower upper between = tt
between-wider first end least most (e ∷ es) lower upper between =
    ((omega (arith, between.0.0, lower), omega (arith, between.0.1, upper)), between-wider first end least most es lower upper between.1)

pub between-append : (first end least most : ℕ) (runs : List Run) (run : Run) → least ≤ first → end ≤ most → least ≤ run.row → run.row + run.count ≤ most → AreBetween first end runs →
    AreBetween least most (runs ++ run ∷ [])
between-append first end least most runs run lower upper from until between =
    all-append (λ e. (least ≤ e.row) × (e.row + e.count ≤ most)) runs (run ∷ []) (between-wider first end least most runs lower upper between) ((from, until), tt)

rest-between : (first end start count : ℕ) (e : Run) → start + count ≤ e.count → first ≤ e.row → e.row + e.count ≤ end → AreBetween first end (run_rest start count e)
rest-between first end start count e le from until = all-append (λ x. (first ≤ x.row) × (x.row + x.count ≤ end)) (front_part start e) (back_part (start + count) e) front back
  where
    front : AreBetween first end (front_part start e)
    front = elim (cases_Bool (start == 0)) [
      | inl t ↦ subst (AreBetween first end) (sym (cond-true (start == 0) _ _ t)) tt
      | inr f ↦ subst (AreBetween first end) (sym (cond-false (start == 0) _ _ f)) ((from, omega (arith, le, until)), tt)
    ]

    back : AreBetween first end (back_part (start + count) e)
    back = elim (cases_Bool (start + count == e.count)) [
      | inl t ↦ subst (AreBetween first end) (sym (cond-true (start + count == e.count) _ _ t)) tt
      | inr f ↦ subst (AreBetween first end) (sym (cond-false (start + count == e.count) _ _ f)) ((omega (arith, from), omega (arith, le, until)), tt)
    ]

pub between-cut : (first end used places row count index at : ℕ) (runs : List Run) (run : Run) → IsCut used places row count index at runs run → AreBetween first end runs →
    AreBetween first end (take index runs ++ (run_rest (row - run.row) count run ++ drop (index + 1) runs))
between-cut first end used places row count index at runs run k between =
    let all : AreBetween first end (take index runs ++ run ∷ drop (index + 1) runs) = subst (AreBetween first end) k.split between in
    let tail : AreBetween first end (run ∷ drop (index + 1) runs) = all-right (λ e. (first ≤ e.row) × (e.row + e.count ≤ end)) (take index runs) (run ∷ drop (index + 1) runs) all in
    all-append (λ e. (first ≤ e.row) × (e.row + e.count ≤ end)) (take index runs) (run_rest (row - run.row) count run ++ drop (index + 1) runs)
    (all-left (λ e. (first ≤ e.row) × (e.row + e.count ≤ end)) (take index runs) (run ∷ drop (index + 1) runs) all)
    (all-append (λ e. (first ≤ e.row) × (e.row + e.count ≤ end)) (run_rest (row - run.row) count run) (drop (index + 1) runs)
    (rest-between first end (row - run.row) count run k.within.until tail.0.0 tail.0.1) tail.1)
