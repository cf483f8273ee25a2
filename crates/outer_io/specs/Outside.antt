-- What a call of a source or a sink does to its count of faults and to the bytes that it tells.
use Rattle.std.specs.Prelude.{◌≡◌, ◌≤◌, ◌<◌, ◌+◌, ◌-◌, ◌^◌, ℕ, List, ◌++◌, length, take, drop, min, Option, Some, None, Contains}

-- one more on a count, which stands still at the greatest number that it holds
abbrev pub raised : ℕ → ℕ
raised count = min (count + 1) (2 ^ 64 - 1)

-- a count of faults rose, or stands at the greatest number that it holds
abbrev pub HasRisen : ℕ → ℕ → Type 0
HasRisen before now = raised before ≤ now

-- who tells bytes goes on telling
abbrev pub TellsOn : Option (List ℕ) → Option (List ℕ) → Type 0
TellsOn None new = Unit {0}
TellsOn (Some old) None = ⊥
TellsOn (Some old) (Some new) = Unit {0}

-- known bytes grow by a beginning of these bytes, maybe by none
abbrev pub AppendsPrefix : Option (List ℕ) → Option (List ℕ) → List ℕ → Type 0
AppendsPrefix None new bytes = Unit {0}
AppendsPrefix (Some old) None bytes = ⊥
AppendsPrefix (Some old) (Some new) bytes = (count : ℕ) × (new ≡ old ++ take count bytes)

-- known bytes lose their first ones, no more than so many, maybe none
abbrev pub LosesAtMost : ℕ → Option (List ℕ) → Option (List ℕ) → Type 0
LosesAtMost most None new = Unit {0}
LosesAtMost most (Some old) None = ⊥
LosesAtMost most (Some old) (Some new) = (count : ℕ) × (count ≤ most) × (new ≡ drop count old)

-- a reader of std as a source: the bytes that are left, where it tells them, and how often it has failed
pub record Reading : Type 0 where
  pub remaining : Option (List ℕ)
  pub faults : ℕ

-- a writer of std as a sink: the bytes that it holds, where it tells them, and how often it has failed
pub record Writing : Type 0 where
  pub contents : Option (List ℕ)
  pub faults : ℕ

-- the most bytes of an input
abbrev pub input_limit : ℕ
input_limit = 50331648

-- a read of a source in memory gave so many bytes: the first that were left, as many as find room, stand at the buffer's start,
-- and what stands behind them in the buffer stays
abbrev pub Gives : ℕ → List ℕ → List ℕ → List ℕ → List ℕ → Type 0
Gives count old new buffer filled =
    (count ≡ min (length old) (length buffer)) × (new ≡ drop count old) × (filled ≡ take count old ++ drop count buffer)

-- a sink in memory: its bytes, how many it has room for, and how often it has failed
pub record Filling : Type 0 where
  pub bytes : List ℕ
  pub room : ℕ
  pub faults : ℕ

-- a piece that isn't empty meets a full room
abbrev pub MeetsFullRoom : Filling → List ℕ → Type 0
MeetsFullRoom sink piece = (0 < length piece) × (length sink.bytes ≡ sink.room)

-- a write to a sink in memory took so many bytes: the first of the piece, as many as there is room for, are appended
abbrev pub Puts : ℕ → Filling → Filling → List ℕ → Type 0
Puts count old new piece =
    (count ≡ min (length piece) (old.room - length old.bytes)) × (new ≡ record old { bytes = old.bytes ++ take count piece })

-- a failure of a sink in memory is counted, and no byte is taken
abbrev pub failed : Filling → Filling
failed sink = record sink { faults = raised sink.faults }

-- which calls fail, by their numbers from 1, and how many were made
pub record FailingCalls : Type 0 where
  pub fails : List ℕ
  pub made : ℕ

-- a call is made
abbrev pub called : FailingCalls → FailingCalls
called calls = record calls { made = raised calls.made }

-- the next call is one of those that fail
abbrev pub FailsNext : FailingCalls → Type 0
FailsNext calls = Contains calls.fails (called calls).made

-- a source in memory of which some calls fail: the bytes left, which calls those are, and how often it has failed
pub record FailingBytes : Type 0 where
  pub unread : List ℕ
  pub calls : FailingCalls
  pub faults : ℕ

-- a sink in memory of which some calls fail
pub record FailingFilling : Type 0 where
  pub sink : Filling
  pub calls : FailingCalls
