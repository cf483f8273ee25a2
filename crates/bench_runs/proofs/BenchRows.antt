-- The row that a bench has first, and what is done to one target of a row.
use Rattle.std.proofs.Common.{◌≡◌, ◌<◌, ◌≤◌, ◌+◌, ◌*◌, ℕ, zero, suc, max, List, [], ◌∷◌, ◌++◌, map, reverse, length, get_or, Some, None, slice_get, slice_set, refl, sym, ap, subst, ◌∙◌, arith}
use Rattle.std.specs.List.{AllByRecursion, refill}
use Rattle.std.proofs.lemmas.List.{length-set}
use Rattle.std.proofs.lemmas.Option.{same_Some}
use Rattle.blocks_core.specs.Xor.{zeros}
use Rattle.sector_media.specs.Media.{Sectors}
use Rattle.array_journal.specs.declared.entry.Entry.{Entry}
use Rattle.array_journal.specs.Calm.{IsStamped}
use Rattle.array_journal.specs.Merge.{joined, Rises, AreOfLocks}
use Rattle.array_journal.specs.OneJournal.{by_name, journal_of}
use Rattle.array_journal.specs.Lists.{numbers}
use Rattle.host_scripts.specs.declared.bench.Bench.{Bench}
use Rattle.host_scripts.specs.declared.bench.BenchLine.{BenchLine}
use Rattle.host_scripts.specs.Benches.{IsBenchLine}
use Rattle.xor_target.specs.declared.order.Order.{Order}
use Rattle.xor_target.specs.State.{TargetState, is_waiting}
use Rattle.xor_target.specs.Rigs.{IsPlaced, IsRow, Turns}
use Rattle.xor_target.proofs.RigSteps.{got-inside}
use Rattle.bench_runs.specs.BenchRuns.{first_page, first_target, first_targets, newest_stamp, lists_of, line_order}
use Rattle.bench_runs.specs.Ready.{IsReady}

-- ---- the targets

-- a target to which nothing happened, on a medium
abbrev pub target_on : Bench → ℕ → Sectors → TargetState
target_on bench number medium = record {
  number = number;
  targets = bench.targets;
  block = bench.block;
  rows = medium.rows;
  buffer = bench.buffer;
  first = first_page;
  page = first_page;
  past = [];
  held = [];
  contents = Some medium.bytes;
  faults = 0;
  waiting = [];
}

pub first-on : (bench : Bench) (number : ℕ) (medium : Sectors) → medium ≡ record { block = bench.block; rows = bench.rows; bytes = zeros (bench.rows * bench.block) } →
    target_on bench number medium ≡ first_target bench number
first-on bench number medium blank = ap (target_on bench number) blank

targets-more : (bench : Bench) (n count : ℕ) → map (first_target bench) (numbers n (suc count)) ≡ map (first_target bench) (numbers n count) ++ first_target bench (n + count) ∷ []
targets-more bench n zero =
    let same : n ≡ n + 0 = omega arith in ap (λ (i : ℕ). first_target bench i ∷ []) same
targets-more bench n (suc count) =
    let same : suc n + count ≡ n + suc count = omega arith in
    ap (λ (ts : List TargetState). first_target bench n ∷ ts)
    (targets-more bench (suc n) count ∙ ap (λ (i : ℕ). map (first_target bench) (numbers (suc n) count) ++ first_target bench i ∷ []) same)

-- one more
pub targets-next : (bench : Bench) (n : ℕ) → map (first_target bench) (numbers 0 (n + 1)) ≡ map (first_target bench) (numbers 0 n) ++ first_target bench n ∷ []
targets-next bench n =
    let next : n + 1 ≡ suc n = omega arith in
    let same : 0 + n ≡ n = omega arith in
    ap (λ (k : ℕ). map (first_target bench) (numbers 0 k)) next ∙ targets-more bench 0 n
    ∙ ap (λ (i : ℕ). map (first_target bench) (numbers 0 n) ++ first_target bench i ∷ []) same

pub count-from : (bench : Bench) (n count : ℕ) → length (map (first_target bench) (numbers n count)) ≡ count
count-from bench n zero = refl
count-from bench n (suc count) = ap suc (count-from bench (suc n) count)

-- each line has its target among them
lines-there : (bench : Bench) (lines : List BenchLine) (count : ℕ) → count ≡ bench.targets → AllByRecursion (IsBenchLine bench) lines → AllByRecursion (λ (l : BenchLine). l.target < count) lines
lines-there bench [] count same all = tt
lines-there bench (l ∷ lines) count same all =
    (subst (λ (n : ℕ). l.target < n) (sym same) all.0.0, lines-there bench lines count same all.1)

pub targets-there : (bench : Bench) → AllByRecursion (IsBenchLine bench) bench.lines → AllByRecursion (λ (l : BenchLine). l.target < length (first_targets bench)) bench.lines
targets-there bench all = lines-there bench bench.lines (length (first_targets bench)) (count-from bench 0 bench.targets) all

-- ---- the row

abbrev entries_in : TargetState → List Entry
entries_in t = reverse t.past

placed-from : (bench : Bench) (n count k : ℕ) (t : TargetState) → slice_get (map (first_target bench) (numbers n count)) k ≡ Some t → t ≡ first_target bench (n + k)
placed-from bench n zero k t there = absurd (let no : None ≡ Some t = there in cc no)
placed-from bench n (suc count) zero t there =
    let same : n ≡ n + 0 = omega arith in sym (same_Some (first_target bench n) t there) ∙ ap (first_target bench) same
placed-from bench n (suc count) (suc k) t there =
    let same : suc n + k ≡ n + suc k = omega arith in placed-from bench (suc n) count k t there ∙ ap (first_target bench) same

pub first-row : (bench : Bench) → IsRow (first_targets bench)
first-row bench = record { block = bench.block; placed = λ k t there. placed k t (placed-from bench 0 bench.targets k t there) }
  where
    placed : (k : ℕ) (t : TargetState) → t ≡ first_target bench (0 + k) → IsPlaced t k (length (first_targets bench)) bench.block
    placed k t is =
        let same : 0 + k ≡ k = omega arith in
        record {
          number = ap (λ (u : TargetState). u.number) is ∙ same;
          targets = ap (λ (u : TargetState). u.targets) is ∙ sym (count-from bench 0 bench.targets);
          block = ap (λ (u : TargetState). u.block) is;
        }

none-joined : (bench : Bench) (n count : ℕ) → joined (map entries_in (map (first_target bench) (numbers n count))) ≡ []
none-joined bench n zero = refl
none-joined bench n (suc count) = none-joined bench (suc n) count

none-of_locks : (bench : Bench) (n count lock : ℕ) → AreOfLocks lock (map entries_in (map (first_target bench) (numbers n count)))
none-of_locks bench n zero lock = tt
none-of_locks bench n (suc count) lock = ((tt, tt), none-of_locks bench (suc n) count (suc lock))

none-above : (m : ℕ) → m ≡ 0 → max 0 m ≡ 0
none-above m h = omega (arith, h)

none-newest : (bench : Bench) (n count : ℕ) → newest_stamp (map (first_target bench) (numbers n count)) ≡ 0
none-newest bench n zero = refl
none-newest bench n (suc count) = none-above (newest_stamp (map (first_target bench) (numbers (suc n) count))) (none-newest bench (suc n) count)

-- and what is to stand before the first line
pub first-ready : (bench : Bench) → IsReady 1 (first_targets bench)
unfolding journal_of
first-ready bench =
    let none : joined (lists_of (first_targets bench)) ≡ [] = none-joined bench 0 bench.targets in
    let newest : newest_stamp (first_targets bench) ≡ 0 = none-newest bench 0 bench.targets in
    record {
      row = first-row bench;
      idle = λ owner later k t there. ap (λ (u : TargetState). is_waiting u owner) (placed-from bench 0 bench.targets k t there);
      kept = record {
        of_locks = ((tt, tt), none-of_locks bench 0 bench.targets 1);
        rises = subst (λ (es : List Entry). Rises (by_name es)) (sym none) tt;
        counted = newest ∙ ap length (sym none);
        up_to = subst (λ (es : List Entry). AllByRecursion (λ (e : Entry). e.stamp ≤ newest_stamp (first_targets bench)) es) (sym none) tt;
      };
      stamped = subst (λ (es : List Entry). IsStamped (reverse (by_name es))) (sym none) tt;
    }

-- ---- the greatest stamp, from the front

pub newest-so_far : (last newest rest : ℕ) → max (max last newest) rest ≡ max newest (max last rest)
newest-so_far last newest rest = omega arith

-- ---- one target of a row

refill-same : (xs ws : List TargetState) → length ws ≡ length xs → refill (length xs) xs ws ≡ ws
refill-same [] [] h = refl
refill-same [] (w ∷ ws) h = absurd (omega (arith, h))
refill-same (x ∷ xs) [] h = absurd (omega (arith, h))
refill-same (x ∷ xs) (w ∷ ws) h = ap (λ (l : List TargetState). w ∷ l) (refill-same xs ws (omega (arith, h)))

refilled : (ts : List TargetState) (k : ℕ) (now : TargetState) → refill (length ts) ts (slice_set ts k now) ≡ slice_set ts k now
refilled ts k now = refill-same ts (slice_set ts k now) (length-set ts k now)

-- target k of the targets that a row lent came to something else
pub turn-in : (k : ℕ) (comes_to : TargetState → TargetState → Type 0) (lent ts : List TargetState) (t now : TargetState) → lent ≡ ts → k < length ts → t ≡ get_or lent k t → comes_to t now →
    Turns k comes_to ts (refill (length ts) ts (slice_set lent k now))
turn-in k comes_to lent ts t now same within is comes = record {
  before = t;
  now = now;
  stands = got-inside lent ts k t same within is;
  comes = comes;
  others = ap (λ (l : List TargetState). refill (length ts) ts (slice_set l k now)) same ∙ refilled ts k now;
}

-- an order that goes by this stamp is the line's
pub order-at : (number stamp newest : ℕ) (cdb bytes : List ℕ) (order : Order) (P : Order → Type 0) → order ≡ line_order number stamp cdb bytes → stamp ≡ newest → P order → P (line_order number newest cdb bytes)
order-at number stamp newest cdb bytes order P is same holds = subst (λ (n : ℕ). P (line_order number n cdb bytes)) same (subst P is holds)
