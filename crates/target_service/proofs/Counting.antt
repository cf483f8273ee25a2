-- Which limits items pass, and that they pass no fewer with more behind them.
use Rattle.std.proofs.Common.{◌≡◌, ℕ, ◌+◌, ◌*◌, ◌≤◌, Bool, true, false, List, [], ◌∷◌, ◌++◌, length, Option, Some, None, refl, sym, ap, ◌∙◌, arith}
use Rattle.std.specs.Prelude.{nat_lt, if◌then◌else◌, is_some}
use Rattle.std.proofs.Math.Nat.{le-mul_of_pos_right}
use Rattle.std.proofs.lemmas.Bool.{ltb-false, le-ltb}
use Rattle.std.proofs.lemmas.List.{length-append}
use Rattle.std.proofs.lemmas.List.Sums.{sum_by-append, sum_by-cons}
use Rattle.std.proofs.lemmas.Nat.{mul-le}
use Rattle.std.proofs.lemmas.Option.{none-some}
use Rattle.host_scripts.specs.Benches.{IsBench}
use Rattle.host_scripts.specs.BenchLimits.{bench_media, bench_limit_of}
use Rattle.host_scripts.specs.declared.script.Limit.{Limit}
use Rattle.host_scripts.specs.declared.script.Limit.TheVariants as limits
use Rattle.target_frames.specs.declared.items.Item.{Item}
use Rattle.target_frames.specs.declared.items.Item.TheVariants.{Opening, Frame}
use Rattle.target_frames.specs.Frames.{IsOpening}
use Rattle.target_service.specs.declared.findings.ServiceLimit.{ServiceLimit}
use Rattle.target_service.specs.declared.findings.ServiceLimit.TheVariants.{Media, Frames, Moved}
use Rattle.target_service.specs.Answered.{bench_of}
use Rattle.target_service.specs.Limits.{moved_by, moved_by_all, passed, limit_in}

-- ---- tests in turn

two-none : (a b : Bool) → (if a then Some Frames else if b then Some Moved else None) ≡ None → (a ≡ false) × (b ≡ false)
two-none true b e = absurd (none-some Frames (sym e))
two-none false true e = absurd (none-some Moved (sym e))
two-none false false e = (refl, refl)

pub passed-none : (block frames moved : ℕ) → passed block frames moved ≡ None → (frames ≤ 1000000) × (moved * block ≤ 67108864)
passed-none block frames moved e =
    let both = two-none (nat_lt 1000000 frames) (nat_lt 67108864 (moved * block)) e in
    (ltb-false 1000000 frames both.0, ltb-false 67108864 (moved * block) both.1)

none-two : (a b : Bool) → a ≡ false → b ≡ false → (if a then Some Frames else if b then Some Moved else None) ≡ None
none-two true b e f = absurd (let no : true ≡ false = e in cc no)
none-two false true e f = absurd (let no : true ≡ false = f in cc no)
none-two false false e f = refl

pub none-passed : (block frames moved : ℕ) → frames ≤ 1000000 → moved * block ≤ 67108864 → passed block frames moved ≡ None
none-passed block frames moved few little =
    none-two (nat_lt 1000000 frames) (nat_lt 67108864 (moved * block)) (le-ltb 1000000 frames few) (le-ltb 67108864 (moved * block) little)

first-none : (a : Bool) (rest : Option ServiceLimit) → (if a then Some Media else rest) ≡ None → (a ≡ false) × (rest ≡ None)
first-none true rest e = absurd (none-some Media (sym e))
first-none false rest e = (refl, e)

none-first : (a : Bool) (rest : Option ServiceLimit) → a ≡ false → (if a then Some Media else rest) ≡ rest
none-first true rest e = absurd (let no : true ≡ false = e in cc no)
none-first false rest e = refl

-- ---- items

moved-on : (rows : ℕ) (front back : List Item) → moved_by_all rows (front ++ back) ≡ moved_by_all rows front + moved_by_all rows back
moved-on rows front back = sum_by-append (moved_by rows) front back

-- with one frame more
pub moved-next : (rows : ℕ) (frames : List Item) (frame : Item) → moved_by_all rows (frames ++ frame ∷ []) ≡ moved_by_all rows frames + moved_by rows frame
moved-next rows frames frame =
    let one : moved_by_all rows (frame ∷ []) ≡ moved_by rows frame = omega (arith, sum_by-cons (moved_by rows) frame []) in
    moved-on rows frames (frame ∷ []) ∙ ap (λ n. moved_by_all rows frames + n) one

pub count-next : (frames : List Item) (frame : Item) → length (frames ++ frame ∷ []) ≡ length frames + 1
count-next frames frame = omega (arith, length-append frames (frame ∷ []))

-- fewer items pass none that more of them don't
pub limit-shorter : (front back : List Item) → limit_in (front ++ back) ≡ None → limit_in front ≡ None
limit-shorter [] back e = refl
limit-shorter (Frame kind target cdb bytes ∷ items) back e = refl
limit-shorter (Opening targets block buffer rows ∷ frames) back e =
    let media = nat_lt 16777216 (bench_media (bench_of targets block buffer rows)) in
    let both = first-none media (passed block (length (frames ++ back)) (moved_by_all rows (frames ++ back))) e in
    let all = passed-none block (length (frames ++ back)) (moved_by_all rows (frames ++ back)) both.1 in
    let less : moved_by_all rows frames ≤ moved_by_all rows (frames ++ back) = omega (arith, moved-on rows frames back) in
    let few : length frames ≤ 1000000 = omega (arith, all.0, length-append frames back) in
    let little : moved_by_all rows frames * block ≤ 67108864 =
    omega (arith, all.1, mul-le (moved_by_all rows frames) block (moved_by_all rows (frames ++ back)) block less (omega arith)) in
    none-first media (passed block (length frames) (moved_by_all rows frames)) both.0 ∙ none-passed block (length frames) (moved_by_all rows frames) few little

-- the limit that the next frame passes, behind an opening and frames that pass none
pub limit-next : (targets block buffer rows : ℕ) (frames : List Item) (frame : Item) → limit_in (Opening targets block buffer rows ∷ frames) ≡ None
    → limit_in ((Opening targets block buffer rows ∷ frames) ++ frame ∷ []) ≡ passed block (length frames + 1) (moved_by_all rows frames + moved_by rows frame)
limit-next targets block buffer rows frames frame e =
    let media = nat_lt 16777216 (bench_media (bench_of targets block buffer rows)) in
    let both = first-none media (passed block (length frames) (moved_by_all rows frames)) e in
    none-first media (passed block (length (frames ++ frame ∷ [])) (moved_by_all rows (frames ++ frame ∷ []))) both.0
    ∙ ap (λ n. passed block n (moved_by_all rows (frames ++ frame ∷ []))) (count-next frames frame)
    ∙ ap (λ n. passed block (length frames + 1) n) (moved-next rows frames frame)

-- ---- openings

-- a bench without lines can pass but one limit
media-alone : (m : Bool) (moved : ℕ) → moved ≡ 0 → (r : Option Limit) → r ≡ (if nat_lt 67108864 moved then Some limits.Moved else if m then Some limits.Media else None)
    → r ≡ (if m then Some limits.Media else None)
media-alone m moved e r is = is ∙ ap (λ n. if nat_lt 67108864 n then Some limits.Moved else if m then Some limits.Media else None) e

pub bench-media : (targets block buffer rows : ℕ)
    → bench_limit_of (bench_of targets block buffer rows) ≡ (if nat_lt 16777216 (bench_media (bench_of targets block buffer rows)) then Some limits.Media else None)
bench-media targets block buffer rows =
    media-alone (nat_lt 16777216 (bench_media (bench_of targets block buffer rows))) (0 * block) (omega arith) (bench_limit_of (bench_of targets block buffer rows)) refl

-- an opening alone passes what its media pass
opening-limit : (block : ℕ) (m : Bool) → (if m then Some Media else passed block 0 0) ≡ (if m then Some Media else None)
opening-limit block true = refl
opening-limit block false = none-passed block 0 0 (omega arith) (omega arith)

to-service : (m : Bool) (r : Option Limit) → r ≡ (if m then Some limits.Media else None) → (r ≡ None) → (if m then Some Media else None) ≡ None
to-service true r e none = absurd (none-some limits.Media (sym none ∙ e))
to-service false r e none = refl

to-service-some : (m : Bool) (r : Option Limit) (l : Limit) → r ≡ (if m then Some limits.Media else None) → (r ≡ Some l) → (if m then Some Media else None) ≡ Some Media
to-service-some true r l e some = refl
to-service-some false r l e some = absurd (none-some l (sym e ∙ some))

pub opening-within : (targets block buffer rows : ℕ) → bench_limit_of (bench_of targets block buffer rows) ≡ None → limit_in (Opening targets block buffer rows ∷ []) ≡ None
opening-within targets block buffer rows none =
    let m = nat_lt 16777216 (bench_media (bench_of targets block buffer rows)) in
    opening-limit block m ∙ to-service m (bench_limit_of (bench_of targets block buffer rows)) (bench-media targets block buffer rows) none

pub opening-past : (targets block buffer rows : ℕ) (l : Limit) → bench_limit_of (bench_of targets block buffer rows) ≡ Some l → limit_in (Opening targets block buffer rows ∷ []) ≡ Some Media
opening-past targets block buffer rows l some =
    let m = nat_lt 16777216 (bench_media (bench_of targets block buffer rows)) in
    opening-limit block m ∙ to-service-some m (bench_limit_of (bench_of targets block buffer rows)) l (bench-media targets block buffer rows) some

-- what is found of a bench's media is found of its opening
pub opening-fits : (targets block buffer rows : ℕ) (r : Option Limit) → r ≡ bench_limit_of (bench_of targets block buffer rows) → is_some r ≡ false → limit_in (Opening targets block buffer rows ∷ []) ≡ None
opening-fits targets block buffer rows None e none = opening-within targets block buffer rows (sym e)
opening-fits targets block buffer rows (Some l) e none = absurd (let no : true ≡ false = none in cc no)

pub opening-passes : (targets block buffer rows : ℕ) (r : Option Limit) → r ≡ bench_limit_of (bench_of targets block buffer rows) → is_some r ≡ true → limit_in (Opening targets block buffer rows ∷ []) ≡ Some Media
opening-passes targets block buffer rows None e some = absurd (let no : false ≡ true = some in cc no)
opening-passes targets block buffer rows (Some l) e some = opening-past targets block buffer rows l (sym e)

-- its ranges are those of a bench
pub bench-ranged : (targets block buffer rows : ℕ) → IsOpening targets block buffer rows → IsBench (bench_of targets block buffer rows)
bench-ranged targets block buffer rows o = record {
  least_targets = o.some_targets;
  most_targets = o.few_targets;
  least_block = o.some_block;
  most_block = o.small_block;
  least_rows = o.some_rows;
  most_rows = o.few_rows;
  most_buffer = omega (arith, o.small_buffer);
  lines = tt;
}

-- numbers within the limits are small
pub still-small : (block frames moved : ℕ) → 1 ≤ block → passed block frames moved ≡ None → (frames ≤ 1000000) × (moved ≤ 67108864)
still-small block frames moved some within =
    let both = passed-none block frames moved within in
    (both.0, omega (arith, both.1, le-mul_of_pos_right moved some))
