-- Calls of one piece: what they ask for, and the steps that serve them.
use Rattle.std.proofs.Common.{◌≡◌, ℕ, zero, suc, ◌+◌, ◌-◌, ◌*◌, ◌≤◌, min, true, List, [], ◌∷◌, length, refl, ap, ◌∙◌, arith}
use Rattle.std.proofs.lemmas.Bool.{eq-eqb, le-ltb}
use Rattle.std.proofs.lemmas.List.{take_all}
use Rattle.stripe_layout.specs.declared.geometry.Geometry.{Geometry}
use Rattle.stripe_layout.specs.Layout.{capacity_of}
use Rattle.blocks_core.specs.Lists.{slice}
use Rattle.host_scripts.specs.declared.script.Script.{Script}
use Rattle.stripe_check.specs.Asked.{goes_through}
use Rattle.host_requests.specs.Settings.{most_blocks}
use Rattle.stripe_layout.specs.declared.pieces.Piece.{Piece}
use Rattle.stripe_layout.specs.Layout.{room_in_unit}
use Rattle.stripe_layout.specs.Pieces.{piece_of, first_count, cut, pieces_of}
use Rattle.host_requests.specs.Requests.{Moves, moved, reading, writing}
use Rattle.stripe_check.specs.Steps.{Begins, Ends, Done}

cut-none : (g : Geometry) (most left lba : ℕ) → cut g most left lba 0 ≡ []
cut-none g most zero lba = refl
cut-none g most (suc left) lba = refl

-- blocks that stand in one unit, and are no more than a command may have, are one piece
pub pieces-one : (script : Script) (lba count : ℕ) → 1 ≤ count → count ≤ most_blocks script →
    count ≤ room_in_unit script.geometry lba →
    pieces_of script.geometry (most_blocks script) lba count ≡ piece_of script.geometry lba count ∷ []
pieces-one script lba zero some fits within = let no : ⊥ = omega arith in absurd no
pieces-one script lba (suc others) some fits within =
    let whole : first_count script.geometry (most_blocks script) lba (suc others) ≡ suc others = min-min (room_in_unit script.geometry lba) (most_blocks script) (suc others) within fits in
    rw whole
    (ap (λ (xs : List Piece). piece_of script.geometry lba (suc others) ∷ xs)
    (ap (λ n. cut script.geometry (most_blocks script) others (lba + suc others) n) (omega arith) ∙ cut-none script.geometry (most_blocks script) others (lba + suc others)))
  where
    min-min : (a b n : ℕ) → n ≤ a → n ≤ b → min a (min b n) ≡ n
    min-min a b n le le2 = omega arith

-- its bytes are all that came
pub bytes-one : (lba count block : ℕ) (bytes : List ℕ) → length bytes ≡ count * block → slice bytes ((lba - lba) * block) (count * block) ≡ bytes
bytes-one lba count block bytes h =
    let same : lba - lba ≡ 0 = omega arith in
    let none : 0 * block ≡ 0 = omega arith in
    rw (same, none) (take_all (count * block) bytes (omega arith))

-- a command that is closed as done serves it
pub served-one : (command : ℕ) → goes_through true 1 0 0 (Begins 0 command ∷ Ends command Done ∷ []) ≡ true
served-one command = rw (eq-eqb command command refl) refl

-- reads and writes within the capacity pass the tests
pub moved-read : (g : Geometry) (lba count : ℕ) → lba + count ≤ capacity_of g → moved g (reading lba count []) ≡ Moves (reading lba count [])
moved-read g lba count within = rw (le-ltb (capacity_of g) (lba + count) within) refl

pub moved-write : (g : Geometry) (lba count : ℕ) (bytes : List ℕ) → lba + count ≤ capacity_of g → length bytes ≡ count * g.block →
    moved g (writing lba count bytes) ≡ Moves (writing lba count bytes)
moved-write g lba count bytes within due = rw (le-ltb (capacity_of g) (lba + count) within, eq-eqb (length bytes) (count * g.block) due) refl
