-- What the bytes of a parameter list say of its sources and its intermediate data (SBC).
use Rattle.std.specs.Prelude.{◌≤◌, ◌+◌, ◌-◌, ◌*◌, ◌==◌, ◌||◌, not, ℕ, suc, nat_lt, Bool, List, [], ◌∷◌, Option, Some, None, if◌then◌else◌, map, take, drop, length}
use Rattle.std.specs.Simd.{first_chunks}
use Rattle.cdb_fields.specs.Fields.{number_at}
use Rattle.xor_params.specs.declared.sources.Descriptor.{Descriptor}
use Rattle.xor_params.specs.declared.lists.Params.{Params}
use Rattle.xor_params.specs.ParameterLists.{HasHead, announced_sources, announced_room, place}

-- descriptors and pad, as long as the head announces them, stand in the bytes
pub record HasRoom (bytes : List ℕ) : Type 0 where
  pub head : HasHead bytes
  pub whole : 4 + announced_room bytes ≤ length bytes

-- the sixteen bytes of each announced descriptor
abbrev pub descriptors_in : List ℕ → List (List ℕ)
descriptors_in bytes = first_chunks 16 (announced_sources bytes) (drop 4 bytes)

-- the source that a descriptor names
abbrev pub source_in : List ℕ → Descriptor
source_in bytes = record { target = number_at 7 1 bytes; lba = number_at 12 4 bytes }

-- the sources, in the order in which they stand
abbrev pub sources_in : List ℕ → List Descriptor
sources_in bytes = map source_in (descriptors_in bytes)

-- the pad: what is left of the announced room behind the descriptors
abbrev pub pad_in : List ℕ → List ℕ
pad_in bytes = take (announced_room bytes - 16 * announced_sources bytes) (drop (4 + 16 * announced_sources bytes) bytes)

-- the intermediate data: what stands behind descriptors and pad
abbrev pub intermediate_in : List ℕ → List ℕ
intermediate_in bytes = drop (4 + announced_room bytes) bytes

-- all that the bytes say
abbrev pub params_in : List ℕ → Params
params_in bytes = record { sources = sources_in bytes; pad = pad_in bytes; intermediate = intermediate_in bytes }

-- among so many targets none has the source's number, or it is that of the target that asks
abbrev pub is_stranger : ℕ → ℕ → Descriptor → Bool
is_stranger targets number d = not (nat_lt d.target targets) || d.target == number

-- where the number of the first such source stands, if the first of these sources is that of descriptor k
abbrev pub first_stranger : ℕ → ℕ → ℕ → List Descriptor → Option ℕ
first_stranger k targets number [] = None
first_stranger k targets number (d ∷ sources) =
    if is_stranger targets number d then Some (place k 7) else first_stranger (suc k) targets number sources

-- the same of all sources
abbrev pub stranger_in : ℕ → ℕ → List ℕ → Option ℕ
stranger_in targets number bytes = first_stranger 0 targets number (sources_in bytes)
