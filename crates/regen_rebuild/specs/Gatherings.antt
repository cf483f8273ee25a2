-- What a gathering has so far, and why bytes of a source aren't accepted.
use Rattle.std.specs.Prelude.{◌≡◌, ◌≢◌, ◌≤◌, ◌*◌, ℕ, Bool, true, false, List, [], ◌∷◌, map, replicate, length, Some, slice_get, slice_set}
use Rattle.blocks_core.specs.Xor.{xor, zeros}
use Rattle.regen_rebuild.specs.declared.gather.GatherFault.{GatherFault}
use Rattle.regen_rebuild.specs.declared.gather.GatherFault.TheVariants.{Stranger, Double, Size}

-- a block's size, how many blocks each source gives, which sources were accepted, and the exclusive-or of their blocks
pub record Gathering : Type 0 where
  pub block : ℕ
  pub count : ℕ
  pub accepted : List Bool
  pub sum : List ℕ

-- none of so many sources is accepted yet
abbrev pub fresh : ℕ → ℕ → ℕ → Gathering
fresh block count sources = record { block = block; count = count; accepted = replicate sources false; sum = zeros (count * block) }

-- the number of bytes that each source gives
abbrev pub size : Gathering → ℕ
size g = g.count * g.block

-- it is one of the sources, and was accepted already
abbrev pub HasAccepted : Gathering → ℕ → Type 0
HasAccepted g source = slice_get g.accepted source ≡ Some true

-- it is one of the sources, and wasn't accepted yet
abbrev pub Awaits : Gathering → ℕ → Type 0
Awaits g source = slice_get g.accepted source ≡ Some false

-- so many bytes of a source meet a fault: there is no such source; it was accepted already; it is awaited, and these aren't its blocks
abbrev pub Meets : Gathering → ℕ → ℕ → GatherFault → Type 0
Meets g source len (Stranger s) = (s ≡ source) × (length g.accepted ≤ source)
Meets g source len (Double s) = (s ≡ source) × HasAccepted g source
Meets g source len (Size want got) = (want ≡ size g) × (got ≡ len) × Awaits g source × (len ≢ size g)

-- the gathering with one more source
abbrev pub accepted_one : Gathering → ℕ → List ℕ → Gathering
accepted_one g source bytes = record g { accepted = slice_set g.accepted source true; sum = xor g.sum bytes }

-- what one source gave
pub record Part : Type 0 where
  pub source : ℕ
  pub bytes : List ℕ

-- the gathering after these were accepted, the newest first
abbrev pub gathered : Gathering → List Part → Gathering
gathered g [] = g
gathered g (part ∷ past) = accepted_one (gathered g past) part.source part.bytes

-- what each of them gave
abbrev pub parts_bytes : List Part → List (List ℕ)
parts_bytes parts = map (λ part. part.bytes) parts
