-- What a gathering has so far is what the entries that it names have read. The journal has the newest entry first.
use Rattle.std.specs.Prelude.{◌≡◌, ◌++◌, ℕ, false, List, [], ◌∷◌, map}
use Rattle.std.specs.List.{AllByRecursion}
use Rattle.blocks_core.specs.Xor.{xor, xor_all}
use Rattle.regen_rebuild.specs.Gatherings.{size}
use Rattle.sbc_cdbs.specs.declared.commands.Command.{Command}
use Rattle.array_journal.specs.declared.at.At.{At}
use Rattle.array_journal.specs.declared.entry.Entry.{Entry}
use Rattle.array_journal.specs.Entries.{name_of, same_at}
use Rattle.array_journal.specs.May.{bytes_named}
use Rattle.xor_target.specs.declared.order.Order.{Order}
use Rattle.xor_target.specs.Gathers.{GatheringState, IsFirst, accepted, done_order}

-- the blocks that have come are the exclusive-or of those that the named entries read
abbrev pub IsGatheredBy : List Entry → List At → GatheringState → Type 0
IsGatheredBy journal names g = g.gather.sum ≡ xor_all (size g.gather) (map (bytes_named journal) names)

-- It is so at first, when nothing has come,
abbrev pub GatheringBegins : Type 0
GatheringBegins =
    (block : ℕ) (order : Order) (command : Command) (g : GatheringState) (journal : List Entry) → IsFirst block order command g → IsGatheredBy journal [] g

-- with the blocks of one source more, which one entry more has read,
abbrev pub GatheringGoesOn : Type 0
GatheringGoesOn =
    (g : GatheringState) (bytes : List ℕ) (names : List At) (name : At) (journal : List Entry) → IsGatheredBy journal names g → bytes ≡ bytes_named journal name →
    IsGatheredBy journal (names ++ name ∷ []) (accepted g bytes)

-- and over a journal with an entry of another name in front.
abbrev pub GatheringStays : Type 0
GatheringStays =
    (g : GatheringState) (names : List At) (e : Entry) (journal : List Entry) → AllByRecursion (λ (name : At). same_at name (name_of e) ≡ false) names →
    IsGatheredBy journal names g → IsGatheredBy (e ∷ journal) names g

-- Then the order that is done, with the blocks of the last source, has the intermediate data exclusive-or what all the named
-- entries read.
abbrev pub GatheringEnds : Type 0
GatheringEnds =
    (g : GatheringState) (bytes : List ℕ) (names : List At) (name : At) (seen : ℕ) (journal : List Entry) → IsGatheredBy journal names g → bytes ≡ bytes_named journal name →
    (done_order g (names ++ name ∷ []) bytes seen).bytes ≡ xor g.order.bytes (xor_all (size g.gather) (map (bytes_named journal) (names ++ name ∷ [])))
