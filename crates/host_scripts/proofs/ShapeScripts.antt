-- Scripts that begin with the lines of a shape, as far as it is known, and go on in the plainest way.
use Rattle.std.proofs.Common.{◌≡◌, ℕ, ◌≤◌, inl, List, [], ◌∷◌, ◌++◌, length, map, get_or, refl, ap, arith}
use Rattle.std.specs.Prelude.{codes}
use Rattle.std.specs.List.{AllByRecursion}
use Rattle.stripe_layout.specs.Layout.{IsArray, IsArea}
use Rattle.stripe_layout.specs.declared.areas.Area.{Area}
use Rattle.stripe_layout.specs.declared.geometry.Geometry.{Geometry}
use Rattle.stripe_layout.specs.declared.mode.Mode.TheVariants.{Supervised}
use Rattle.stripe_layout.proofs.StripeLaws.{most-greatest}
use Rattle.host_scripts.specs.declared.script.Script.{Script}
use Rattle.text_fields.specs.Spelling.{numeral}
use Rattle.host_scripts.specs.Scripts.{version_text, start_texts, order_texts, call_text, script_lines, most_targets, IsVersion, IsScript}
use Rattle.host_scripts.specs.FirstRefusals.{Begins}
use Rattle.host_scripts.specs.Refusals.{IsFormed, script_grammar}
use Rattle.host_scripts.proofs.ShapeTexts.{IsKnown, known, of-one-area, same-version}
use Rattle.host_scripts.proofs.ShapeAgain.{most-small}

-- ---- scripts that have what is known so far

pub record IsShape (version : ℕ) (g : Geometry) : Type 0 where
  pub version_is : IsVersion version g.areas
  pub array : IsArray g
  pub targets : g.targets ≤ most_targets version

abbrev pub plain : ℕ → Geometry → Script
plain v g = record { version = v; geometry = g; buffer = 65536; maxima = 0 ∷ 0 ∷ 0 ∷ []; mode = Supervised; seed = 0; hosts = 1; order = []; calls = [] }

pub plain-is : (v : ℕ) (g : Geometry) → IsShape v g → IsScript (plain v g)
plain-is v g is = record {
  version = is.version_is;
  geometry = is.array;
  targets = is.targets;
  least_buffer = let most = most-greatest g is.array in omega (arith, most);
  most_buffer = omega arith;
  maxima = refl;
  write_maximum = omega arith;
  regenerate_maximum = inl refl;
  rebuild_maximum = inl refl;
  seed = omega arith;
  least_hosts = omega arith;
  most_hosts = omega arith;
  turns = omega arith;
  order = tt;
  calls = tt;
}

pub begins-is : (v : ℕ) (g : Geometry) (texts more : List (List ℕ)) → IsShape v g → script_lines (plain v g) ≡ texts ++ more → Begins script_grammar IsScript texts
begins-is v g texts more is e = record { value = plain v g; kind = plain-is v g is; more = more; lines = e }

pub begins-formed : (v : ℕ) (g : Geometry) (texts more : List (List ℕ)) → IsVersion v g.areas → script_lines (plain v g) ≡ texts ++ more → Begins script_grammar IsFormed texts
begins-formed v g texts more is e = record { value = plain v g; kind = record { version = is; maxima = refl; order = tt; calls = tt }; more = more; lines = e }

abbrev pub Small : ℕ → Type 0
Small n = (1 ≤ n) × (n ≤ 4096)

pub one-small : Small 1
one-small = (omega arith, omega arith)

abbrev pub shaped : ℕ → ℕ → List Area → Geometry
shaped t b areas = record { targets = t; block = b; areas = areas }

abbrev pub area : ℕ → ℕ → Area
area u s = record { unit = u; stripes = s }

abbrev pub least : Area
least = area 1 1

pub is-area : (u s : ℕ) → Small u → Small s → IsArea (area u s)
is-area u s hu hs = record { least_unit = hu.0; most_unit = hu.1; least_stripes = hs.0; most_stripes = hs.1 }

pub least-is : IsArea least
least-is = is-area 1 1 one-small one-small

pub is-shape : (v t b : ℕ) (areas : List Area) → IsVersion v areas → 3 ≤ t → t ≤ most_targets v → Small b → 1 ≤ length areas → length areas ≤ 8 → AllByRecursion IsArea areas → IsShape v (shaped t b areas)
is-shape v t b areas is t0 t1 hb low high all =
    let most = most-small v (known v areas is) in
    record { version_is = is; array = record { least_targets = t0; most_targets = omega (arith, most, t1); least_block = hb.0; most_block = hb.1; least_areas = low; most_areas = high; areas = all }; targets = t1 }

pub one-shape : (v t b u s : ℕ) → IsKnown v → 3 ≤ t → t ≤ most_targets v → Small b → Small u → Small s → IsShape v (shaped t b (area u s ∷ []))
one-shape v t b u s k t0 t1 hb hu hs = is-shape v t b (area u s ∷ []) (of-one-area v (area u s) k) t0 t1 hb (omega arith) (omega arith) (is-area u s hu hs, tt)

-- the lines behind those of the shape
abbrev pub behind_shape : Script → List (List ℕ)
behind_shape s = start_texts s ++ (order_texts s.order ++ map call_text s.calls)

-- the line at a place
pub at-line : (n : ℕ) (s : Script) (texts more : List (List ℕ)) (text : List ℕ) → script_lines s ≡ texts ++ text ∷ more → get_or (script_lines s) n [] ≡ get_or (texts ++ text ∷ more) n []
at-line n s texts more text e = ap (λ (xs : List (List ℕ)). get_or xs n []) e

-- a script that begins with the line of a version is of it
pub is-of : (v : ℕ) → IsKnown v → (s : Script) (more : List (List ℕ)) → IsFormed s → script_lines s ≡ version_text v ∷ more → s.version ≡ v
is-of v k s more f e = same-version s.version v (known s.version s.geometry.areas f.version) k (ap (λ (xs : List (List ℕ)). get_or xs 0 []) e)

-- the lines of the version, the targets and the block
abbrev pub third_texts : ℕ → ℕ → ℕ → List (List ℕ)
third_texts v t b = version_text v ∷ (codes "targets " ++ numeral t) ∷ (codes "block " ++ numeral b) ∷ []
