-- Pieces that are let go one by one, from the newest on.
use Rattle.xor_buffers.proofs.TableLaws.{all-append, all-left, all-right}
use Rattle.std.proofs.Common.{◌≡◌, ◌==◌, ℕ, zero, suc, ◌+◌, ◌-◌, ◌*◌, ◌/◌, ◌<◌, ◌≤◌, Bool, true, false, cond, filter, List, [], ◌∷◌, ◌++◌, length, take, drop, get_or, refl, ap, sym, ◌∙◌, subst, arith}
use Rattle.std.specs.List.{AllByRecursion}
use Rattle.std.proofs.Math.Nat.{add-mul, sub_self, zero-mul}
use Rattle.std.proofs.lemmas.Nat.{mul-le}
use Rattle.std.proofs.lemmas.Bool.{le-leb, and_from, eq-eqb, cond-true, cond-false}
use Rattle.std.specs.Prelude.{nat_le}
use Rattle.std.proofs.lemmas.List.{append_assoc, length-append, length-take-le, length-drop, take_more, drop_more, take_at, drop_at, take-append-drop, drop-drop, get_or_default, get_or_append_left, get_or-take}
use Rattle.xor_buffers.specs.declared.held.HeldBlocks.{HeldBlocks}
use Rattle.xor_buffers.specs.declared.buffer.table.Run.{Run}
use Rattle.xor_buffers.specs.Held.{held_blocks}
use Rattle.xor_buffers.specs.Slots.{released}
use Rattle.xor_buffers.specs.Runs.{runs_of, blocks_in, run_holds, run_rest, IsRun, IsTable, IsPlace, AreBetween}
use Rattle.xor_buffers.proofs.TableSteps.{blocks_in-append, blocks_in-more}
use Rattle.xor_buffers.proofs.RunLaws.{runs_of-same, runs_of-append, blocks_of_run, cut_out, take-cut_out, take-released}
use Rattle.xor_buffers.proofs.HeldViews.{bytes_inside}
use Rattle.xor_buffers.proofs.Cuts.{IsCut, table-of-cut}

pub length-runs_of : (b : ℕ) (v : List ℕ) (runs : List Run) → length (runs_of b v runs) ≡ length runs
length-runs_of b v [] = refl
length-runs_of b v (e ∷ es) = ap suc (length-runs_of b (drop (e.count * b) v) es)

pub take-runs_of : (b : ℕ) (v : List ℕ) (i : ℕ) (runs : List Run) → take i (runs_of b v runs) ≡ runs_of b v (take i runs)
take-runs_of b v zero runs = refl
take-runs_of b v (suc i) [] = refl
take-runs_of b v (suc i) (e ∷ es) = ap (λ hs. record { owner = e.owner; row = e.row; bytes = take (e.count * b) v } ∷ hs) (take-runs_of b (drop (e.count * b) v) i es)

-- a piece and its run
pub get-runs_of : (b : ℕ) (v : List ℕ) (i : ℕ) (runs : List Run) (d : HeldBlocks) (e : Run) → 1 ≤ b → i < length runs → blocks_in runs * b ≤ length v →
    ((get_or runs i e).owner ≡ (get_or (runs_of b v runs) i d).owner) × ((get_or runs i e).count ≡ length (get_or (runs_of b v runs) i d).bytes / b)
get-runs_of b v i [] d e some h room = absurd (omega arith)
get-runs_of b v zero (x ∷ xs) d e some h room = (refl, sym (blocks_of_run b x.count v some (omega (arith, room, add-mul x.count (blocks_in xs) b))))
get-runs_of b v (suc i) (x ∷ xs) d e some h room =
    get-runs_of b (drop (x.count * b) v) i xs d e some (omega (arith, h)) (omega (arith, room, add-mul x.count (blocks_in xs) b, length-drop (x.count * b) v))

pub held_blocks-append : (b : ℕ) (xs ys : List HeldBlocks) → held_blocks b (xs ++ ys) ≡ held_blocks b xs + held_blocks b ys
held_blocks-append b [] ys = omega arith
held_blocks-append b (x ∷ xs) ys = omega (arith, held_blocks-append b xs ys)

-- what is left once the pieces from one on were gone through
abbrev pub kept_from : (HeldBlocks → Bool) → ℕ → List HeldBlocks → List HeldBlocks
kept_from passing i hs = take i hs ++ filter passing (drop i hs)

-- one piece more
pub record IsStep (b : ℕ) (passing : HeldBlocks → Bool) (hs : List HeldBlocks) (i : ℕ) (d : HeldBlocks) : Type 0 where
  pub inside : i < length (kept_from passing (i + 1) hs)
  pub front : take i (kept_from passing (i + 1) hs) ≡ take i hs
  pub piece : get_or (kept_from passing (i + 1) hs) i d ≡ get_or hs i d
  pub dropped : passing (get_or hs i d) ≡ false → take i (kept_from passing (i + 1) hs) ++ drop (i + 1) (kept_from passing (i + 1) hs) ≡ kept_from passing i hs
  pub kept : passing (get_or hs i d) ≡ true → kept_from passing (i + 1) hs ≡ kept_from passing i hs
  pub blocks : held_blocks b (take (i + 1) hs) ≡ held_blocks b (take i hs) + length (get_or hs i d).bytes / b

pub is_step : (b : ℕ) (passing : HeldBlocks → Bool) (hs : List HeldBlocks) (i : ℕ) (d : HeldBlocks) → i < length hs → IsStep b passing hs i d
is_step b passing hs i d h = record {
  inside = omega (arith, length-append (take (i + 1) hs) later, long);
  front = ap (take i) parts ∙ take_at (take i hs) (get_or hs i d ∷ later) i (length-take-le i hs (omega (arith, h)));
  piece = get_or_append_left (take (i + 1) hs) later d i (omega (arith, long)) ∙ get_or-take (i + 1) hs i d (omega arith);
  dropped = λ out.
      ap (λ l. take i l ++ drop (i + 1) (take (i + 1) hs ++ later)) parts
      ∙ ap (λ l. l ++ drop (i + 1) (take (i + 1) hs ++ later)) (take_at (take i hs) (get_or hs i d ∷ later) i (length-take-le i hs (omega (arith, h))))
      ∙ ap (λ l. take i hs ++ l) (drop_at (take (i + 1) hs) later (i + 1) long)
      ∙ ap (λ l. take i hs ++ l) (sym (ap (filter passing) (drop_more hs i d h) ∙ cond-false (passing (get_or hs i d)) (get_or hs i d ∷ later) later out));
  kept = λ stays. parts ∙ ap (λ l. take i hs ++ l) (sym (ap (filter passing) (drop_more hs i d h) ∙ cond-true (passing (get_or hs i d)) (get_or hs i d ∷ later) later stays));
  blocks = ap (held_blocks b) (take_more hs i d h) ∙ held_blocks-append b (take i hs) (get_or hs i d ∷ []) ∙ omega arith;
}
  where
    later : List HeldBlocks
    later = filter passing (drop (i + 1) hs)

    long : length (take (i + 1) hs) ≡ i + 1
    long = length-take-le (i + 1) hs (omega (arith, h))

    parts : take (i + 1) hs ++ later ≡ take i hs ++ get_or hs i d ∷ later
    parts = ap (λ l. l ++ later) (take_more hs i d h) ∙ append_assoc (take i hs) (get_or hs i d ∷ []) later

-- a run contains all of its rows
pub own-place : (runs : List Run) (i at : ℕ) (run : Run) → i < length runs → run ≡ get_or runs i run → at ≡ blocks_in (take i runs) →
    IsPlace run.row run.count runs i at
own-place runs i at run h read behind = record {
  inside = h;
  behind = behind;
  contains = λ d. ap (run_holds run.row run.count) (get_or_default runs i d run h ∙ sym read)
      ∙ and_from (nat_le run.row run.row) (nat_le (run.row + run.count) (run.row + run.count)) (le-leb run.row run.row (omega arith)) (le-leb (run.row + run.count) (run.row + run.count) (omega arith));
}

-- nothing is left of a run that is let go whole
pub rest-none : (start : ℕ) (run : Run) → start ≡ 0 → run_rest start run.count run ≡ []
rest-none start run none =
    ap (λ t. t ++ cond (start + run.count == run.count) [] (record { owner = run.owner; row = run.row + (start + run.count); count = run.count - (start + run.count) } ∷ []))
    (cond-true (start == 0) [] _ (eq-eqb start 0 none))
    ∙ cond-true (start + run.count == run.count) [] _ (eq-eqb (start + run.count) run.count (omega (arith, none)))

pub drop-runs_of : (b : ℕ) (v : List ℕ) (i : ℕ) (runs : List Run) → drop i (runs_of b v runs) ≡ runs_of b (drop (blocks_in (take i runs) * b) v) (drop i runs)
drop-runs_of b v zero runs = ap (λ n. runs_of b (drop n v) runs) (sym (zero-mul b))
drop-runs_of b v (suc i) [] = refl
drop-runs_of b v (suc i) (e ∷ es) =
    drop-runs_of b (drop (e.count * b) v) i es
    ∙ ap (λ l. runs_of b l (drop i es)) (drop-drop (blocks_in (take i es) * b) (e.count * b) v ∙ ap (λ n. drop n v) (sym (add-mul e.count (blocks_in (take i es)) b)))

pub run-at : (runs : List Run) (i : ℕ) (run : Run) → AllByRecursion IsRun runs → i < length runs → run ≡ get_or runs i run → IsRun run
run-at [] i run sound h read = absurd (omega arith)
run-at (x ∷ xs) zero run sound h read = subst IsRun (sym read) sound.0
run-at (x ∷ xs) (suc i) run sound h read = run-at xs i run sound.1 (omega (arith, h)) read

-- a piece let go, by runs and by held blocks
pub list-dropped : (b slots capacity used places index at : ℕ) (v : List ℕ) (runs : List Run) (run : Run) → IsTable b slots v capacity used places runs →
    IsCut used places run.row run.count index at runs run → index < length runs → run ≡ get_or runs index run →
    runs_of b (released (at * b) (run.count * b) (used * b) v) (take index runs ++ drop (index + 1) runs) ≡ take index (runs_of b v runs) ++ drop (index + 1) (runs_of b v runs)
list-dropped b slots capacity used places index at v runs run t k h read =
    runs_of-same b (released (at * b) (run.count * b) (used * b) v) (cut_out (at * b) (run.count * b) v) (front ++ back) same
    ∙ runs_of-append b (cut_out (at * b) (run.count * b) v) front back
    ∙ ap (λ hs. hs ++ runs_of b (drop (blocks_in front * b) (cut_out (at * b) (run.count * b) v)) back)
    (runs_of-same b (cut_out (at * b) (run.count * b) v) v front (take-cut_out (blocks_in front * b) (at * b) (run.count * b) v (omega (arith, place)) within))
    ∙ ap (λ l. runs_of b v front ++ runs_of b l back) (drop_at (take (at * b) v) (drop (at * b + run.count * b) v) (blocks_in front * b) (length-take-le (at * b) v within ∙ place))
    ∙ ap (λ hs. hs ++ runs_of b (drop (at * b + run.count * b) v) back) (sym (take-runs_of b v index runs))
    ∙ ap (λ n. take index (runs_of b v runs) ++ runs_of b (drop n v) back) (sym until)
    ∙ ap (λ hs. take index (runs_of b v runs) ++ hs) (sym (drop-runs_of b v (index + 1) runs))
  where
    front : List Run
    front = take index runs

    back : List Run
    back = drop (index + 1) runs

    place : at * b ≡ blocks_in front * b
    place = ap (λ n. n * b) k.behind

    ends : at + run.count ≤ used
    ends = omega (arith, k.inside)

    bytes : at * b + run.count * b ≤ used * b
    bytes = omega (arith, add-mul at run.count b, mul-le (at + run.count) b used b ends (omega arith))

    used_bytes : used * b ≤ length v
    used_bytes = omega (arith, bytes_inside b slots capacity used places v runs t, ap (λ n. n * b) t.counted)

    within : at * b ≤ length v
    within = omega (arith, bytes, used_bytes)

    until : blocks_in (take (index + 1) runs) * b ≡ at * b + run.count * b
    until = ap (λ n. n * b) (blocks_in-more runs index run h ∙ ap (λ n. n + (get_or runs index run).count) (sym k.behind) ∙ ap (λ (e : Run). at + e.count) (sym read)) ∙ add-mul at run.count b

    left : blocks_in (front ++ back) * b ≡ used * b - run.count * b
    left = ap (λ n. n * b) fewer ∙ omega (arith, ap (λ n. n * b) whole, add-mul (used - run.count) run.count b)
      where
        fewer : blocks_in (front ++ back) ≡ used - run.count
        fewer = omega (arith, blocks_in-append front back, k.whole)

        whole : used ≡ used - run.count + run.count
        whole = omega (arith, ends)

    same : take (blocks_in (front ++ back) * b) (released (at * b) (run.count * b) (used * b) v) ≡ take (blocks_in (front ++ back) * b) (cut_out (at * b) (run.count * b) v)
    same =
        ap (λ n. take n (released (at * b) (run.count * b) (used * b) v)) left
        ∙ take-released (at * b) (run.count * b) (used * b) v bytes used_bytes
        ∙ ap (λ n. take n (cut_out (at * b) (run.count * b) v)) (sym left)

pub table-dropped : (b slots capacity used places later index at : ℕ) (v : List ℕ) (runs : List Run) (run : Run) → IsTable b slots v capacity used places runs →
    IsCut used places run.row run.count index at runs run → places ≤ later →
    IsTable b slots (released (at * b) (run.count * b) (used * b) v) capacity (used - run.count) later (take index runs ++ drop (index + 1) runs)
table-dropped b slots capacity used places later index at v runs run t k more =
    subst (λ l. IsTable b slots (released (at * b) (run.count * b) (used * b) v) capacity (used - run.count) later (take index runs ++ (l ++ drop (index + 1) runs)))
    (rest-none 0 run refl)
    (subst (λ n. IsTable b slots (released (n * b) (run.count * b) (used * b) v) capacity (used - run.count) later (take index runs ++ (run_rest 0 run.count run ++ drop (index + 1) runs))) none
    (subst (λ n. IsTable b slots (released ((at + n) * b) (run.count * b) (used * b) v) capacity (used - run.count) later (take index runs ++ (run_rest n run.count run ++ drop (index + 1) runs)))
    (sub_self run.row) (table-of-cut b slots capacity used places later run.row run.count index at v runs run t k more)))
  where
    none : at + 0 ≡ at
    none = omega arith

pub front-bytes : (b index : ℕ) (v : List ℕ) (runs : List Run) → blocks_in runs * b ≤ length v → blocks_in (take index runs) * b ≤ length v
front-bytes b index v runs h =
    let parts : blocks_in (take index runs) + blocks_in (drop index runs) ≡ blocks_in runs = sym (blocks_in-append (take index runs) (drop index runs)) ∙ ap blocks_in (take-append-drop index runs) in
    omega (arith, mul-le (blocks_in (take index runs)) b (blocks_in runs) b (omega (arith, parts)) (omega arith), h)

pub between-dropped : (first end index : ℕ) (runs : List Run) → AreBetween first end runs → AreBetween first end (take index runs ++ drop (index + 1) runs)
between-dropped first end index runs between =
    all-append (λ e. (first ≤ e.row) × (e.row + e.count ≤ end)) (take index runs) (drop (index + 1) runs)
    (all-left (λ e. (first ≤ e.row) × (e.row + e.count ≤ end)) (take index runs) (drop index runs) (subst (AreBetween first end) (sym (take-append-drop index runs)) between))
    (all-right (λ e. (first ≤ e.row) × (e.row + e.count ≤ end)) (take (index + 1) runs) (drop (index + 1) runs) (subst (AreBetween first end) (sym (take-append-drop (index + 1) runs)) between))
