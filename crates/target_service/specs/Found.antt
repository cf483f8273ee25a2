-- What a stream is found to be that isn't served to its end, and the line that says so.
use Rattle.std.specs.Prelude.{◌≡◌, ◌≢◌, ◌⊎◌, ℕ, List, [], ◌∷◌, ◌++◌, length, codes, Some, None}
use Rattle.text_fields.specs.Spelling.{line}
use Rattle.host_scripts.specs.declared.script.Limit.TheVariants as limits
use Rattle.program_status.specs.declared.notes.Excess.TheVariants.{Counted}
use Rattle.program_status.specs.declared.status.Verdict.{Verdict}
use Rattle.program_status.specs.declared.status.Verdict.TheVariants as verdicts
use Rattle.program_status.specs.Notes.{excess_line, numbered_line}
use Rattle.program_status.specs.Statuses.{verdict_code}
use Rattle.target_frames.specs.declared.items.Item.{Item}
use Rattle.target_frames.specs.Frames as readings
use Rattle.target_frames.specs.Frames.{Unfinished, Reads}
use Rattle.target_service.specs.declared.findings.ServiceLimit.{ServiceLimit}
use Rattle.target_service.specs.declared.findings.ServiceLimit.TheVariants.{Media, Frames, Moved}
use Rattle.target_service.specs.declared.findings.ServiceFinding.{ServiceFinding}
use Rattle.target_service.specs.declared.findings.ServiceFinding.TheVariants.{Refused, Ended, Over}
use Rattle.target_service.specs.Answered.{AreServed}
use Rattle.target_service.specs.Limits.{limit_in}
use Rattle.target_service.specs.Served.{Begins}

-- ---- how it is said

abbrev pub verdict_of : ServiceFinding → Verdict
verdict_of (Refused byte) = verdicts.Refused
verdict_of (Ended byte) = verdicts.Refused
verdict_of (Over limit) = verdicts.Exceeded

abbrev pub finding_status : ServiceFinding → ℕ
finding_status finding = verdict_code (verdict_of finding)

abbrev pub limit_line : ServiceLimit → List ℕ
limit_line Media = excess_line (Counted limits.Media)
limit_line Frames = line (codes "limit frames")
limit_line Moved = excess_line (Counted limits.Moved)

abbrev pub finding_line : ServiceFinding → List ℕ
finding_line (Refused byte) = numbered_line (codes "refused byte") byte
finding_line (Ended byte) = numbered_line (codes "ended byte") byte
finding_line (Over limit) = limit_line limit

-- ---- of which streams it is so

-- behind these items, which are all or some of the stream's, its service ends so: a field is refused; the stream ended
-- before an opening, or inside an item; the next item is whole, and passes a limit
abbrev pub EndsBehind : List Item → List ℕ → ServiceFinding → Type 0
EndsBehind items stream (Refused byte) = Reads stream items (readings.Refused byte)
EndsBehind items stream (Ended byte) =
    (rest : List ℕ) × (Reads stream items (Unfinished rest) × ((items ≡ []) ⊎ (rest ≢ [])) × (byte ≡ length stream))
EndsBehind items stream (Over limit) = (item : Item) × (Begins stream (items ++ item ∷ []) × (limit_in (items ++ item ∷ []) ≡ Some limit))

-- The first of these that comes in the order of the stream: no limit is passed before.
pub record IsFound (stream : List ℕ) (finding : ServiceFinding) : Type 0 where
  pub items : List Item
  pub within : limit_in items ≡ None
  pub ends : EndsBehind items stream finding

-- the same, with the replies to the frames before
abbrev pub IsFoundServed : List ℕ → ServiceFinding → List ℕ → Type 0
IsFoundServed stream finding replies = (f : IsFound stream finding) × AreServed f.items replies
