-- What stood on rows, where a medium tells it.
use Rattle.std.specs.Prelude.{◌≡◌, ℕ, List, [], Option, Some, None, IfSome, unwrap_or, option_map}
use Rattle.std.proofs.Common.{refl, ap, subst}
use Rattle.blocks_core.specs.Lists.{slice}
use Rattle.outer_io.specs.Outside.{TellsOn}

-- some bytes stood there
pub rows-stood : (contents : Option (List ℕ)) (at len : ℕ) → (old : List ℕ) × IfSome contents (λ told. old ≡ slice told at len)
rows-stood None at len = ([], tt)
rows-stood (Some told) at len = (slice told at len, refl)

pub some-bytes : (o : Option (List ℕ)) (bytes : List ℕ) → o ≡ Some bytes → unwrap_or o [] ≡ bytes
some-bytes o bytes e = ap (λ x. unwrap_or x []) e

-- the same bytes, by other names of the medium's bytes, the place and the length
pub stood-as : (contents other : Option (List ℕ)) (at at' len len' : ℕ) (old : List ℕ) → other ≡ contents → at' ≡ at → len' ≡ len →
    IfSome other (λ told. old ≡ slice told at' len') → IfSome contents (λ told. old ≡ slice told at len)
stood-as contents other at at' len len' old e p q h =
    subst (λ (o : Option (List ℕ)). IfSome o (λ told. old ≡ slice told at len)) e
    (subst (λ (a : ℕ). IfSome other (λ told. old ≡ slice told a len)) p (subst (λ (l : ℕ). IfSome other (λ told. old ≡ slice told at' l)) q h))

-- bytes that are changed where they are told, and aren't told elsewhere
pub told-change : (before now : Option (List ℕ)) (change : List ℕ → List ℕ) → IfSome before (λ told. now ≡ Some (change told)) → TellsOn now before →
    now ≡ option_map change before
told-change None None change e t = refl
told-change None (Some told) change e t = absurd t
told-change (Some told) now change e t = e
