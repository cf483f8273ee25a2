-- The first fault of bytes as a parameter list, as a function of them (SBC).
use Rattle.std.specs.Prelude.{◌*◌, ◌==◌, not, ℕ, zero, suc, nat_lt, Bool, List, [], ◌∷◌, ◌++◌, Option, Some, None, option_map, if◌then◌else◌, drop, length, slice_index, bit_and}
use Rattle.xor_params.specs.declared.lists.ParamFault.{ParamFault}
use Rattle.xor_params.specs.declared.lists.ParamFault.TheVariants.{Length, Field}
use Rattle.xor_params.specs.ParameterLists.{announced_sources, announced_room, due, reserved_bits}

-- the bits that must be zero in so many descriptors, byte by byte
abbrev pub reserved_of : ℕ → List ℕ
reserved_of zero = []
reserved_of (suc n) = reserved_bits ++ reserved_of n

-- the lowest byte, counted from this place on, with a bit that must be zero and isn't
abbrev pub first_wrong : ℕ → List ℕ → List ℕ → Option ℕ
first_wrong byte [] bytes = None
first_wrong byte (m ∷ mask) [] = None
first_wrong byte (m ∷ mask) (b ∷ bytes) = if bit_and m b == 0 then first_wrong (suc byte) mask bytes else Some byte

-- The first fault of the bytes, for a command with this INTDATA bit that takes so many bytes of intermediate data where the
-- bit is one; none where they spell a list. The head comes before the length, and the length before the descriptors.
unfoldable pub list_fault : List ℕ → Bool → ℕ → Option ParamFault
list_fault bytes intdata wanted =
    if nat_lt (length bytes) 4 then Some (Length 4 (length bytes))
    else if not (slice_index bytes 1 == 0) then Some (Field 1)
    else if nat_lt (announced_room bytes) (16 * announced_sources bytes) then Some (Field 2)
    else if not (length bytes == due bytes intdata wanted) then Some (Length (due bytes intdata wanted) (length bytes))
    else option_map Field (first_wrong 4 (reserved_of (announced_sources bytes)) (drop 4 bytes))
