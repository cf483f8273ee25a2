-- The places of the lines of scripts: the three kinds of scripts, each within the one before.
use Rattle.std.proofs.Common.{◌≡◌, ℕ, ◌+◌, ◌<◌, ◌≤◌, Bool, true, List, [], ◌∷◌, ◌++◌, length, Option, arith}
use Rattle.std.specs.List.{flat_map, AllByRecursion}
use Rattle.host_scripts.specs.declared.script.Script.{Script}
use Rattle.host_scripts.specs.declared.script.Call.{Call}
use Rattle.stripe_layout.specs.declared.geometry.Geometry.{Geometry}
use Rattle.host_scripts.specs.declared.script.Action.{Action}
use Rattle.host_scripts.specs.declared.script.Action.TheVariants.{Read, Write, Fill, Raw, Lose, Reset, DropNext, Replace, Rebuild, Resync}
use Rattle.host_scripts.specs.declared.script.Cause.{Cause}
use Rattle.host_scripts.specs.declared.script.Cause.TheVariants.{Size}
use Rattle.text_fields.specs.Spelling.{line, numeral}
use Rattle.host_scripts.specs.Scripts.{script_lines, IsAction, IsCall, IsScript}
use Rattle.host_scripts.specs.Reading.{line_at, number_at}
use Rattle.host_scripts.specs.FirstRefusals.{Begins, IsCause}
use Rattle.host_scripts.specs.Refusals.{IsFormedAction, IsFormedCall, IsFormed, IsRangedAction, IsRangedCall, IsRanged, script_grammar}
use Rattle.text_fields.specs.Laws.{lacks}
use Rattle.host_scripts.proofs.Outcomes.{Outcome}
use Rattle.host_scripts.proofs.Rules.{IsRule, LineBad}
pub use Rattle.host_scripts.proofs.LinePlaces.{outcome_map, one-more, regroup, Spelled, Grown, same-line, within-parts, NumberRead}
use Rattle.host_scripts.proofs.LinePlaces.{IsNested, NearIn, IsPlaceIn, placed-in, number-placed-in}

-- a refusal of a line of a script
abbrev pub Near : List ℕ → ℕ → Cause → Type 0
Near bytes = NearIn script_grammar bytes

-- which scripts go on at a place, and with what
abbrev pub IsPlace : {V W : Type 0} → (W → List ℕ) → (W → V) → (W → Type 0) → (V → Bool) → List (List ℕ) → List ℕ → Type 0
IsPlace text_of kept Formed ranged texts rest = IsPlaceIn script_grammar text_of kept Formed ranged texts rest

each-number : (P Q : ℕ → Type 0) → ((x : ℕ) → P x → Q x) → (xs : List ℕ) → AllByRecursion P xs → AllByRecursion Q xs
each-number P Q f [] h = tt
each-number P Q f (x ∷ xs) h = (f x h.0, each-number P Q f xs h.1)

pub each-call : (P Q : Call → Type 0) → ((x : Call) → P x → Q x) → (xs : List Call) → AllByRecursion P xs → AllByRecursion Q xs
each-call P Q f [] h = tt
each-call P Q f (x ∷ xs) h = (f x h.0, each-call P Q f xs h.1)

pub form-action : (g : Geometry) (a : Action) → IsRangedAction g a → IsFormedAction a
form-action g (Read lba count) h = tt
form-action g (Write lba bytes) h = h.1
form-action g (Fill lba count byte) h = h.2
form-action g (Raw cdb bytes) h = h
form-action g (Lose target) h = tt
form-action g (Reset target) h = tt
form-action g (DropNext target) h = tt
form-action g (Replace target) h = tt
form-action g (Rebuild target) h = tt
form-action g Resync h = tt

range-action : (g : Geometry) (a : Action) → IsAction g a → IsRangedAction g a
range-action g (Read lba count) h = h
range-action g (Write lba bytes) h = (h.0, h.1)
range-action g (Fill lba count byte) h = h
range-action g (Raw cdb bytes) h = h
range-action g (Lose target) h = h
range-action g (Reset target) h = h
range-action g (DropNext target) h = h
range-action g (Replace target) h = h
range-action g (Rebuild target) h = h
range-action g Resync h = h

-- scripts in range are in form, and what the grammar allows is in range
pub ranged-formed : (s : Script) → IsRanged s → IsFormed s
ranged-formed s is = record {
  version = is.version;
  maxima = is.maxima;
  order = each-number (λ h. h < s.hosts) (λ h. h < 26) (λ h lt. omega (arith, lt, is.most_hosts)) s.order is.order;
  calls = each-call (IsRangedCall s) IsFormedCall (λ call h. (omega (arith, h.0, is.most_hosts), form-action s.geometry call.action h.1)) s.calls is.calls;
}

pub script-ranged : (s : Script) → IsScript s → IsRanged s
script-ranged s is = record {
  version = is.version;
  geometry = is.geometry;
  targets = is.targets;
  least_buffer = is.least_buffer;
  most_buffer = is.most_buffer;
  maxima = is.maxima;
  write_maximum = is.write_maximum;
  regenerate_maximum = is.regenerate_maximum;
  rebuild_maximum = is.rebuild_maximum;
  seed = is.seed;
  least_hosts = is.least_hosts;
  most_hosts = is.most_hosts;
  turns = is.turns;
  order = is.order;
  calls = each-call (IsCall s) (IsRangedCall s) (λ call h. (h.0, range-action s.geometry call.action h.1)) s.calls is.calls;
}

pub script_nested : IsNested script_grammar
script_nested = record { formed = ranged-formed; ranged = script-ranged }

-- what is known of the bytes once the line behind these is read
pub placed : {V W : Type 0} (rule : List ℕ → Option V) (text_of : W → List ℕ) (kept : W → V) (Formed : W → Type 0) → IsRule rule text_of kept Formed → (ranged sized : V → Bool)
    (bytes : List ℕ) (texts : List (List ℕ)) (rest : List ℕ) (n : ℕ) → bytes ≡ flat_map line texts ++ rest → n ≡ length texts + 1 → Begins script_grammar IsScript texts
    → IsPlace text_of kept Formed ranged texts rest → (LineBad text_of kept Formed ranged sized rest Size → IsCause script_grammar texts rest Size)
    → Outcome (Grown text_of kept Formed ranged sized bytes texts) (Near bytes) (line_at n ranged sized rule rest)
placed rule text_of kept Formed is ranged sized bytes texts rest n split number begins place size =
    placed-in script_grammar script_nested rule text_of kept Formed is ranged sized bytes texts rest n split number begins place size

pub number-placed : (keyword : List ℕ) (least most : ℕ) → lacks 10 keyword ≡ true → most ≤ 4294967295 → (field : Script → ℕ)
    (bytes : List ℕ) (texts : List (List ℕ)) (rest : List ℕ) (n : ℕ) → bytes ≡ flat_map line texts ++ rest → n ≡ length texts + 1 → Begins script_grammar IsScript texts
    → ((s : Script) (text : List ℕ) (more : List (List ℕ)) → IsFormed s → script_lines s ≡ texts ++ text ∷ more → keyword ++ numeral (field s) ≡ text)
    → ((m : ℕ) → Begins script_grammar IsFormed (texts ++ (keyword ++ numeral m) ∷ []))
    → ((s : Script) (text : List ℕ) (more : List (List ℕ)) → IsRanged s → script_lines s ≡ texts ++ text ∷ more → (least ≤ field s) × (field s ≤ most))
    → Outcome (NumberRead keyword least most bytes texts) (Near bytes) (number_at n keyword least most rest)
number-placed keyword least most clean small field bytes texts rest n split number begins here formed fits =
    number-placed-in script_grammar script_nested keyword least most clean small field bytes texts rest n split number begins here formed fits
