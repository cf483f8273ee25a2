-- The targets that a script has first, and a bus of them.
use Rattle.std.proofs.Common.{◌≡◌, ◌<◌, ◌+◌, ◌*◌, ℕ, zero, suc, List, [], ◌∷◌, ◌++◌, map, reverse, length, Some, None, slice_get, refl, sym, ap, subst, ◌∙◌, arith}
use Rattle.std.proofs.lemmas.Option.{same_Some}
use Rattle.blocks_core.specs.Xor.{zeros}
use Rattle.stripe_layout.specs.Layout.{rows_of}
use Rattle.sector_media.specs.Media.{Sectors}
use Rattle.xor_mode_page.specs.declared.pages.XorPage.{XorPage}
use Rattle.array_journal.specs.declared.entry.Entry.{Entry}
use Rattle.array_journal.specs.Lists.{numbers}
use Rattle.array_journal.specs.Merge.{joined}
use Rattle.array_journal.specs.OneJournal.{by_name, journal_of}
use Rattle.host_scripts.specs.declared.script.Script.{Script}
use Rattle.host_requests.specs.Settings.{setting_of}
use Rattle.array_book.specs.Ledgers.{Ledger}
use Rattle.xor_target.specs.State.{TargetState}
use Rattle.unit_plans.specs.Buses.{merged}
use Rattle.history_locks.specs.PlainBuses.{PlainState, IsFirst, IsNew, entries_of, lists_of}
use Rattle.array_calls.specs.FirstBus.{bus_of, first_page, first_target, first_targets}

-- ---- the targets

-- a medium of zeros
abbrev pub blank : Script → ℕ → Sectors
blank s rows = record { block = s.geometry.block; rows = rows; bytes = zeros (rows * s.geometry.block) }

-- a target to which nothing happened, on a medium and with a page
abbrev pub target_on : Script → ℕ → XorPage → Sectors → TargetState
target_on s number page medium = record {
  number = number;
  targets = s.geometry.targets;
  block = s.geometry.block;
  rows = medium.rows;
  buffer = s.buffer;
  first = page;
  page = page;
  past = [];
  held = [];
  contents = Some medium.bytes;
  faults = 0;
  waiting = [];
}

pub first-on : (s : Script) (number rows : ℕ) (page : XorPage) (medium : Sectors) → rows ≡ rows_of s.geometry → page ≡ first_page s → medium ≡ blank s rows →
    target_on s number page medium ≡ first_target s number
first-on s number rows page medium all paged zeroed =
    ap (target_on s number page) zeroed ∙ ap (λ (n : ℕ). target_on s number page (blank s n)) all
    ∙ ap (λ (p : XorPage). target_on s number p (blank s (rows_of s.geometry))) paged

targets-more : (s : Script) (n count : ℕ) → map (first_target s) (numbers n (suc count)) ≡ map (first_target s) (numbers n count) ++ first_target s (n + count) ∷ []
targets-more s n zero =
    let same : n ≡ n + 0 = omega arith in ap (λ (i : ℕ). first_target s i ∷ []) same
targets-more s n (suc count) =
    let same : suc n + count ≡ n + suc count = omega arith in
    ap (λ (ts : List TargetState). first_target s n ∷ ts)
    (targets-more s (suc n) count ∙ ap (λ (i : ℕ). map (first_target s) (numbers (suc n) count) ++ first_target s i ∷ []) same)

-- one more
pub targets-next : (s : Script) (n : ℕ) → map (first_target s) (numbers 0 (n + 1)) ≡ map (first_target s) (numbers 0 n) ++ first_target s n ∷ []
targets-next s n =
    let next : n + 1 ≡ suc n = omega arith in
    let same : 0 + n ≡ n = omega arith in
    ap (λ (k : ℕ). map (first_target s) (numbers 0 k)) next ∙ targets-more s 0 n
    ∙ ap (λ (i : ℕ). map (first_target s) (numbers 0 n) ++ first_target s i ∷ []) same

count-from : (s : Script) (n count : ℕ) → length (map (first_target s) (numbers n count)) ≡ count
count-from s n zero = refl
count-from s n (suc count) = ap suc (count-from s (suc n) count)

placed-from : (s : Script) (n count k : ℕ) (t : TargetState) → slice_get (map (first_target s) (numbers n count)) k ≡ Some t →
    (k < count) × (t ≡ first_target s (n + k))
placed-from s n zero k t there = absurd (let no : None ≡ Some t = there in cc no)
placed-from s n (suc count) zero t there =
    let same : n ≡ n + 0 = omega arith in (omega arith, sym (same_Some (first_target s n) t there) ∙ ap (first_target s) same)
placed-from s n (suc count) (suc k) t there =
    let same : suc n + k ≡ n + suc k = omega arith in
    let so : (k < count) × (t ≡ first_target s (suc n + k)) = placed-from s (suc n) count k t there in
    (omega (arith, so.0), so.1 ∙ ap (first_target s) same)

-- ---- the bus

-- a bus of the script's first targets, and a book with no entry
abbrev pub bus_on : Script → PlainState
bus_on s = record { targets = first_targets s; book = record { setting = setting_of s; past = [] }; page = first_page s }

abbrev pub book_on : Script → Ledger
book_on s = record { setting = setting_of s; past = [] }

abbrev pub bus_with : List TargetState → Ledger → XorPage → PlainState
bus_with targets book page = record { targets = targets; book = book; page = page }

pub bus-is : (s : Script) (targets : List TargetState) (book : Ledger) (page : XorPage) → targets ≡ first_targets s → book ≡ book_on s → page ≡ first_page s →
    bus_with targets book page ≡ bus_on s
bus-is s targets book page all empty paged =
    ap (λ (ts : List TargetState). bus_with ts book page) all ∙ ap (λ (b : Ledger). bus_with (first_targets s) b page) empty
    ∙ ap (λ (p : XorPage). bus_with (first_targets s) (book_on s) p) paged

target-first : (s : Script) (k : ℕ) → k < s.geometry.targets → IsFirst (bus_of s) k (first_target s k)
target-first s k below = record {
  number = refl;
  of_array = record { number = below; targets = refl; block = refl; rows = refl; buffer = refl };
  page = record { xor_on = refl; write = refl; regenerate = refl; rebuild = refl };
  first = record { xor_on = refl; write = refl; regenerate = refl; rebuild = refl };
  nothing_waits = refl;
  no_entry = refl;
  nothing_held = refl;
  tells = refl;
}

pub bus-new : (s : Script) → IsNew (bus_on s)
bus-new s = record {
  many = count-from s 0 s.geometry.targets;
  placed = λ k t there. placed k t (placed-from s 0 s.geometry.targets k t there);
  no_entry = refl;
}
  where
    placed : (k : ℕ) (t : TargetState) → (k < s.geometry.targets) × (t ≡ first_target s (0 + k)) → IsFirst (bus_of s) k t
    placed k t is =
        let same : 0 + k ≡ k = omega arith in
        subst (IsFirst (bus_of s) k) (sym (is.1 ∙ ap (first_target s) same)) (target-first s k is.0)

-- ---- its journal

none-joined : (s : Script) (n count : ℕ) → joined (map entries_of (map (first_target s) (numbers n count))) ≡ []
none-joined s n zero = refl
none-joined s n (suc count) = none-joined s (suc n) count

pub none-merged : (s : Script) → merged (lists_of (bus_on s)) ≡ []
unfolding merged journal_of
none-merged s = ap (λ (es : List Entry). reverse (by_name es)) (none-joined s 0 s.geometry.targets)
