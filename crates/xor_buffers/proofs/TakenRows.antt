-- The rows that a cut takes out of a table are those that the words on lists of held blocks say.
use Rattle.std.proofs.Common.{◌≡◌, ◌==◌, ◌&&◌, ℕ, ◌+◌, ◌-◌, ◌*◌, ◌/◌, ◌≤◌, true, false, cond, List, [], ◌∷◌, ◌++◌, length, take, drop, Some, None, inl, inr, refl, ap, sym, ◌∙◌, subst, arith}
use Rattle.std.specs.Prelude.{nat_lt, nat_le}
use Rattle.std.specs.List.{AllByRecursion}
use Rattle.std.proofs.Math.Nat.{add-mul}
use Rattle.std.proofs.lemmas.Nat.{mul-le}
use Rattle.std.proofs.lemmas.Bool.{eq-eqb, ne_eqb, cases_eq, leb-true, and_parts, and_from, and_right, cond-true, cond-false}
use Rattle.std.proofs.lemmas.List.{length-take-le, length-drop, drop-take, take-take, drop-drop, drop_at}
use Rattle.blocks_core.specs.Lists.{slice}
use Rattle.blocks_core.proofs.BlockLists.{slice-slice}
use Rattle.xor_buffers.specs.declared.held.HeldBlocks.{HeldBlocks}
use Rattle.xor_buffers.specs.declared.buffer.table.Run.{Run}
use Rattle.xor_buffers.specs.Held.{holds_rows, rest_of, take_rows, rows_held, holder_of, overlap_of}
use Rattle.xor_buffers.specs.Runs.{runs_of, blocks_in, run_holds, run_overlaps, run_overlap, run_rest}
use Rattle.xor_buffers.proofs.TableSteps.{blocks_in-append}
use Rattle.xor_buffers.proofs.RunLaws.{runs_of-append, blocks_of_run, div-whole, holds-run, cut_out, drop-cut_out, take-cut_out}

abbrev pub held_run : Run → List ℕ → HeldBlocks
held_run e bytes = record { owner = e.owner; row = e.row; bytes = bytes }

-- a run that contains rows, in numbers
pub record IsWithin (row count : ℕ) (e : Run) : Type 0 where
  pub from : e.row ≤ row
  pub until : row - e.row + count ≤ e.count

pub is_within : (row count : ℕ) (e : Run) → run_holds row count e ≡ true → IsWithin row count e
is_within row count e h =
    let parts : (nat_le e.row row ≡ true) × (nat_le (row + count) (e.row + e.count) ≡ true) = and_parts (nat_le e.row row) (nat_le (row + count) (e.row + e.count)) h in
    let from : e.row ≤ row = leb-true e.row row parts.0 in
    let until : row + count ≤ e.row + e.count = leb-true (row + count) (e.row + e.count) parts.1 in
    record { from = from; until = omega (arith, from, until) }

abbrev pub front_part : ℕ → Run → List Run
front_part start e = cond (start == 0) [] (record { owner = e.owner; row = e.row; count = start } ∷ [])

abbrev pub back_part : ℕ → Run → List Run
back_part behind e = cond (behind == e.count) [] (record { owner = e.owner; row = e.row + behind; count = e.count - behind } ∷ [])

pub blocks_in-front : (start : ℕ) (e : Run) → blocks_in (front_part start e) ≡ start
blocks_in-front start e = elim (cases_eq start 0) [
  | inl none ↦ ap blocks_in (cond-true (start == 0) _ _ (eq-eqb start 0 none)) ∙ sym none
  | inr some ↦ ap blocks_in (cond-false (start == 0) _ _ (ne_eqb start 0 some)) ∙ omega arith
]

pub blocks_in-back : (behind : ℕ) (e : Run) → behind ≤ e.count → blocks_in (back_part behind e) ≡ e.count - behind
blocks_in-back behind e le = elim (cases_eq behind e.count) [
  | inl all ↦ ap blocks_in (cond-true (behind == e.count) _ _ (eq-eqb behind e.count all)) ∙ omega (arith, all)
  | inr some ↦ ap blocks_in (cond-false (behind == e.count) _ _ (ne_eqb behind e.count some)) ∙ omega arith
]

-- what a cut leaves in front
front-held : (b row : ℕ) (e : Run) (d w : List ℕ) → e.row ≤ row → take ((row - e.row) * b) d ≡ take ((row - e.row) * b) w →
    runs_of b d (front_part (row - e.row) e) ≡ cond (row == e.row) [] (held_run e (take ((row - e.row) * b) w) ∷ [])
front-held b row e d w from same = elim (cases_eq (row - e.row) 0) [
  | inl none ↦
      ap (runs_of b d) (cond-true (row - e.row == 0) _ _ (eq-eqb (row - e.row) 0 none))
      ∙ sym (cond-true (row == e.row) [] (held_run e (take ((row - e.row) * b) w) ∷ []) (eq-eqb row e.row (omega (arith, none, from))))
  | inr some ↦
      ap (runs_of b d) (cond-false (row - e.row == 0) _ _ (ne_eqb (row - e.row) 0 some))
      ∙ ap (λ l. held_run e l ∷ []) same
      ∙ sym (cond-false (row == e.row) [] (held_run e (take ((row - e.row) * b) w) ∷ []) (ne_eqb row e.row (λ q. some (omega (arith, q)))))
]

-- and behind
back-held : (b row count : ℕ) (e : Run) (d h : List ℕ) → 1 ≤ b → IsWithin row count e → length h ≡ e.count * b →
    take ((e.count - (row - e.row + count)) * b) d ≡ drop ((row - e.row) * b + count * b) h →
    runs_of b d (back_part (row - e.row + count) e)
    ≡ cond ((row - e.row) * b + count * b == length h) [] (record { owner = e.owner; row = row + count * b / b; bytes = drop ((row - e.row) * b + count * b) h } ∷ [])
back-held b row count e d h some within len same = elim (cases_eq (row - e.row + count) e.count) [
  | inl all ↦
      ap (runs_of b d) (cond-true (row - e.row + count == e.count) _ _ (eq-eqb (row - e.row + count) e.count all))
      ∙ sym (cond-true ((row - e.row) * b + count * b == length h) [] after (eq-eqb ((row - e.row) * b + count * b) (length h) (sym sum ∙ ap (λ n. n * b) all ∙ sym len)))
  | inr more ↦
      ap (runs_of b d) (cond-false (row - e.row + count == e.count) _ _ (ne_eqb (row - e.row + count) e.count more))
      ∙ ap (λ l. record { owner = e.owner; row = e.row + (row - e.row + count); bytes = l } ∷ []) same
      ∙ ap (λ n. record { owner = e.owner; row = n; bytes = drop ((row - e.row) * b + count * b) h } ∷ []) rows
      ∙ sym (cond-false ((row - e.row) * b + count * b == length h) [] after (ne_eqb ((row - e.row) * b + count * b) (length h) (λ q. short more q)))
]
  where
    after : List HeldBlocks
    after = record { owner = e.owner; row = row + count * b / b; bytes = drop ((row - e.row) * b + count * b) h } ∷ []

    sum : (row - e.row + count) * b ≡ (row - e.row) * b + count * b
    sum = add-mul (row - e.row) count b

    rows : e.row + (row - e.row + count) ≡ row + count * b / b
    rows = omega (arith, div-whole b count some, within.from)

    short : (row - e.row + count ≡ e.count → ⊥) → (row - e.row) * b + count * b ≡ length h → ⊥
    short more q =
        omega (arith, q, len, sum, mul-le (row - e.row + count + 1) b e.count b (omega (arith, more, within.until)) (omega arith), add-mul (row - e.row + count) 1 b, some)

-- a cut in the first run
pub cut-first : (b row count : ℕ) (e : Run) (back : List Run) (w : List ℕ) → 1 ≤ b → IsWithin row count e → (e.count + blocks_in back) * b ≤ length w →
    runs_of b (cut_out ((row - e.row) * b) (count * b) w) (run_rest (row - e.row) count e ++ back)
    ≡ rest_of b row (count * b) (held_run e (take (e.count * b) w)) ++ runs_of b (drop (e.count * b) w) back
cut-first b row count e back w some within room =
    runs_of-append b d (front_part s e ++ back_part (s + count) e) back
    ∙ ap (λ t. t ++ runs_of b (drop (blocks_in (front_part s e ++ back_part (s + count) e) * b) d) back) (runs_of-append b d (front_part s e) (back_part (s + count) e))
    ∙ ap (λ n. runs_of b d (front_part s e) ++ runs_of b (drop (n * b) d) (back_part (s + count) e) ++ runs_of b (drop (blocks_in (front_part s e ++ back_part (s + count) e) * b) d) back) (blocks_in-front s e)
    ∙ ap (λ t. t ++ runs_of b (drop (s * b) d) (back_part (s + count) e) ++ runs_of b (drop (blocks_in (front_part s e ++ back_part (s + count) e) * b) d) back)
    (front-held b row e d h within.from front_same)
    ∙ ap (λ t. cond (row == e.row) [] (held_run e (take (s * b) h) ∷ []) ++ t ++ runs_of b (drop (blocks_in (front_part s e ++ back_part (s + count) e) * b) d) back)
    (back-held b row count e (drop (s * b) d) h some within len back_same)
    ∙ ap (λ t. rest_of b row (count * b) (held_run e h) ++ runs_of b t back) rest_same
  where
    s : ℕ
    s = row - e.row

    d : List ℕ
    d = cut_out (s * b) (count * b) w

    h : List ℕ
    h = take (e.count * b) w

    yc : ℕ
    yc = e.count - (s + count)

    sum : (s + count) * b ≡ s * b + count * b
    sum = add-mul s count b

    whole : e.count * b ≡ s * b + count * b + yc * b
    whole = ap (λ n. n * b) all ∙ add-mul (s + count) yc b ∙ ap (λ n. n + yc * b) sum
      where
        all : e.count ≡ s + count + yc
        all = omega (arith, within.until)

    fits : e.count * b ≤ length w
    fits = omega (arith, room, add-mul e.count (blocks_in back) b)

    len : length h ≡ e.count * b
    len = length-take-le (e.count * b) w fits

    short : length (take (s * b) w) ≡ s * b
    short = length-take-le (s * b) w (omega (arith, fits, whole))

    front_same : take (s * b) d ≡ take (s * b) h
    front_same =
        take-cut_out (s * b) (s * b) (count * b) w (omega arith) (omega (arith, fits, whole))
        ∙ sym (take-of-take (s * b) (e.count * b) w (omega (arith, whole)))
      where
        take-of-take : (m n : ℕ) (l : List ℕ) → m ≤ n → take m (take n l) ≡ take m l
        take-of-take m n l le = take-take m n l le

    behind : drop (s * b) d ≡ drop (s * b + count * b) w
    behind = drop_at (take (s * b) w) (drop (s * b + count * b) w) (s * b) short

    back_same : take ((e.count - (s + count)) * b) (drop (s * b) d) ≡ drop (s * b + count * b) h
    back_same =
        ap (take (yc * b)) behind ∙ sym (drop-take (s * b + count * b) (yc * b) w) ∙ ap (λ n. drop (s * b + count * b) (take n w)) (sym whole)

    rest_same : drop (blocks_in (front_part s e ++ back_part (s + count) e) * b) d ≡ drop (e.count * b) w
    rest_same =
        ap (λ n. drop n d) size ∙ sym (drop-drop (yc * b) (s * b) d) ∙ ap (drop (yc * b)) behind
        ∙ drop-drop (yc * b) (s * b + count * b) w ∙ ap (λ n. drop n w) (sym whole)
      where
        size : blocks_in (front_part s e ++ back_part (s + count) e) * b ≡ s * b + yc * b
        size =
            ap (λ n. n * b) (blocks_in-append (front_part s e) (back_part (s + count) e) ∙ ap (λ n. n + blocks_in (back_part (s + count) e)) (blocks_in-front s e)
            ∙ ap (λ n. s + n) (blocks_in-back (s + count) e within.until))
            ∙ add-mul s yc b

-- a run that doesn't contain rows is passed over
passed : (b row count : ℕ) (f : Run) (v : List ℕ) → 1 ≤ b → f.count * b ≤ length v → run_holds row count f ≡ false →
    holds_rows b row (count * b) (held_run f (take (f.count * b) v)) ≡ false
passed b row count f v some fits none = holds-run b count row f (take (f.count * b) v) some (length-take-le (f.count * b) v fits) ∙ none

-- what a cut leaves is what is left of the list
pub cut-is-taken : (b row count : ℕ) (front : List Run) (e : Run) (back : List Run) (v : List ℕ) → 1 ≤ b → AllByRecursion (λ x. run_holds row count x ≡ false) front →
    run_holds row count e ≡ true → (blocks_in front + (e.count + blocks_in back)) * b ≤ length v →
    runs_of b (cut_out ((blocks_in front + (row - e.row)) * b) (count * b) v) (front ++ (run_rest (row - e.row) count e ++ back))
    ≡ take_rows b row (count * b) (runs_of b v (front ++ e ∷ back))
cut-is-taken b row count [] e back v some none holds room =
    ap (λ n. runs_of b (cut_out (n * b) (count * b) v) (run_rest (row - e.row) count e ++ back)) (omega arith)
    ∙ cut-first b row count e back v some (is_within row count e holds) (subst (λ n. n * b ≤ length v) (omega arith) room)
    ∙ sym (cond-true (holds_rows b row (count * b) (held_run e (take (e.count * b) v))) _ _ contains)
  where
    contains : holds_rows b row (count * b) (held_run e (take (e.count * b) v)) ≡ true
    contains =
        holds-run b count row e (take (e.count * b) v) some (length-take-le (e.count * b) v (omega (arith, room, add-mul 0 (e.count + blocks_in back) b, add-mul e.count (blocks_in back) b))) ∙ holds
cut-is-taken b row count (f ∷ fs) e back v some none holds room =
    ap (λ n. runs_of b (cut_out n (count * b) v) (f ∷ fs ++ (run_rest (row - e.row) count e ++ back))) place
    ∙ ap (λ l. held_run f l ∷ runs_of b (drop (f.count * b) (cut_out (f.count * b + (blocks_in fs + (row - e.row)) * b) (count * b) v)) (fs ++ (run_rest (row - e.row) count e ++ back)))
    (take-cut_out (f.count * b) (f.count * b + (blocks_in fs + (row - e.row)) * b) (count * b) v (omega arith) inside)
    ∙ ap (λ l. held_run f (take (f.count * b) v) ∷ runs_of b l (fs ++ (run_rest (row - e.row) count e ++ back)))
    (drop-cut_out (f.count * b) ((blocks_in fs + (row - e.row)) * b) (count * b) v inside)
    ∙ ap (λ hs. held_run f (take (f.count * b) v) ∷ hs) (cut-is-taken b row count fs e back (drop (f.count * b) v) some none.1 holds rest_room)
    ∙ sym (cond-false (holds_rows b row (count * b) (held_run f (take (f.count * b) v))) _ _ (passed b row count f v some (omega (arith, room, sum)) none.0))
  where
    within : IsWithin row count e
    within = is_within row count e holds

    sum : (f.count + blocks_in fs + (e.count + blocks_in back)) * b ≡ f.count * b + (blocks_in fs + (e.count + blocks_in back)) * b
    sum = ap (λ n. n * b) regroup ∙ add-mul f.count (blocks_in fs + (e.count + blocks_in back)) b
      where
        regroup : f.count + blocks_in fs + (e.count + blocks_in back) ≡ f.count + (blocks_in fs + (e.count + blocks_in back))
        regroup = omega arith

    place : (f.count + blocks_in fs + (row - e.row)) * b ≡ f.count * b + (blocks_in fs + (row - e.row)) * b
    place = ap (λ n. n * b) regroup ∙ add-mul f.count (blocks_in fs + (row - e.row)) b
      where
        regroup : f.count + blocks_in fs + (row - e.row) ≡ f.count + (blocks_in fs + (row - e.row))
        regroup = omega arith

    inside : f.count * b + (blocks_in fs + (row - e.row)) * b ≤ length v
    inside = omega (arith, room, sum, mul-le (blocks_in fs + (row - e.row)) b (blocks_in fs + (e.count + blocks_in back)) b (omega (arith, within.until)) (omega arith))

    rest_room : (blocks_in fs + (e.count + blocks_in back)) * b ≤ length (drop (f.count * b) v)
    rest_room = omega (arith, room, sum, length-drop (f.count * b) v)

-- and the rows are the bytes that were cut out
pub rows-cut : (b row count : ℕ) (front : List Run) (e : Run) (back : List Run) (v : List ℕ) → 1 ≤ b → AllByRecursion (λ x. run_holds row count x ≡ false) front →
    run_holds row count e ≡ true → (blocks_in front + (e.count + blocks_in back)) * b ≤ length v →
    (rows_held b e.owner row (count * b) (runs_of b v (front ++ e ∷ back)) ≡ Some (slice v ((blocks_in front + (row - e.row)) * b) (count * b)))
    × (holder_of b row (count * b) (runs_of b v (front ++ e ∷ back)) ≡ Some e.owner)
rows-cut b row count [] e back v some none holds room = (
  cond-true ((e.owner == e.owner) && holds_rows b row (count * b) (held_run e (take (e.count * b) v))) _ _
      (and_from (e.owner == e.owner) (holds_rows b row (count * b) (held_run e (take (e.count * b) v))) (eq-eqb e.owner e.owner refl) contains)
      ∙ ap Some (slice-slice v 0 (e.count * b) ((row - e.row) * b) (count * b) inside)
      ∙ ap (λ n. Some (slice v n (count * b))) place,
  cond-true (holds_rows b row (count * b) (held_run e (take (e.count * b) v))) _ _ contains,
)
  where
    within : IsWithin row count e
    within = is_within row count e holds

    contains : holds_rows b row (count * b) (held_run e (take (e.count * b) v)) ≡ true
    contains =
        holds-run b count row e (take (e.count * b) v) some (length-take-le (e.count * b) v (omega (arith, room, add-mul 0 (e.count + blocks_in back) b, add-mul e.count (blocks_in back) b))) ∙ holds

    inside : (row - e.row) * b + count * b ≤ e.count * b
    inside = omega (arith, add-mul (row - e.row) count b, mul-le (row - e.row + count) b e.count b within.until (omega arith))

    place : 0 + (row - e.row) * b ≡ (0 + (row - e.row)) * b
    place = omega (arith, add-mul 0 (row - e.row) b)
rows-cut b row count (f ∷ fs) e back v some none holds room = (
  cond-false ((f.owner == e.owner) && holds_rows b row (count * b) (held_run f (take (f.count * b) v))) _ _
      (and_right (f.owner == e.owner) (holds_rows b row (count * b) (held_run f (take (f.count * b) v))) not_here)
      ∙ (rows-cut b row count fs e back (drop (f.count * b) v) some none.1 holds rest_room).0
      ∙ ap (λ l. Some (take (count * b) l)) (drop-drop ((blocks_in fs + (row - e.row)) * b) (f.count * b) v ∙ ap (λ n. drop n v) (sym place)),
  cond-false (holds_rows b row (count * b) (held_run f (take (f.count * b) v))) _ _ not_here
      ∙ (rows-cut b row count fs e back (drop (f.count * b) v) some none.1 holds rest_room).1,
)
  where
    sum : (f.count + blocks_in fs + (e.count + blocks_in back)) * b ≡ f.count * b + (blocks_in fs + (e.count + blocks_in back)) * b
    sum = ap (λ n. n * b) regroup ∙ add-mul f.count (blocks_in fs + (e.count + blocks_in back)) b
      where
        regroup : f.count + blocks_in fs + (e.count + blocks_in back) ≡ f.count + (blocks_in fs + (e.count + blocks_in back))
        regroup = omega arith

    place : (f.count + blocks_in fs + (row - e.row)) * b ≡ f.count * b + (blocks_in fs + (row - e.row)) * b
    place = ap (λ n. n * b) regroup ∙ add-mul f.count (blocks_in fs + (row - e.row)) b
      where
        regroup : f.count + blocks_in fs + (row - e.row) ≡ f.count + (blocks_in fs + (row - e.row))
        regroup = omega arith

    not_here : holds_rows b row (count * b) (held_run f (take (f.count * b) v)) ≡ false
    not_here = passed b row count f v some (omega (arith, room, sum)) none.0

    rest_room : (blocks_in fs + (e.count + blocks_in back)) * b ≤ length (drop (f.count * b) v)
    rest_room = omega (arith, room, sum, length-drop (f.count * b) v)

-- where no run contains rows, nothing held does
pub none-holds : (b row count : ℕ) (es : List Run) (v : List ℕ) → 1 ≤ b → blocks_in es * b ≤ length v → AllByRecursion (λ x. run_holds row count x ≡ false) es →
    holder_of b row (count * b) (runs_of b v es) ≡ None
none-holds b row count [] v some room none = refl
none-holds b row count (e ∷ es) v some room none =
    cond-false (holds_rows b row (count * b) (held_run e (take (e.count * b) v))) _ _
    (passed b row count e v some (omega (arith, room, add-mul e.count (blocks_in es) b)) none.0)
    ∙ none-holds b row count es (drop (e.count * b) v) some (omega (arith, room, add-mul e.count (blocks_in es) b, length-drop (e.count * b) v)) none.1

-- rows that are held, by runs and by held blocks
pub overlap-runs : (b row count : ℕ) (es : List Run) (v : List ℕ) → 1 ≤ b → blocks_in es * b ≤ length v →
    overlap_of b row count (runs_of b v es) ≡ run_overlap row count es
overlap-runs b row count [] v some room = refl
overlap-runs b row count (e ∷ es) v some room =
    ap (λ n. cond (nat_lt e.row (row + count) && nat_lt row (e.row + n)) (Some e.owner) (overlap_of b row count (runs_of b (drop (e.count * b) v) es)))
    (blocks_of_run b e.count v some (omega (arith, room, add-mul e.count (blocks_in es) b)))
    ∙ ap (λ o. cond (run_overlaps row count e) (Some e.owner) o)
    (overlap-runs b row count es (drop (e.count * b) v) some (omega (arith, room, add-mul e.count (blocks_in es) b, length-drop (e.count * b) v)))
