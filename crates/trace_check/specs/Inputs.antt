-- The parts of an input: a script, the line `output`, the report of a run and its trace. A line begins at the front and
-- behind each byte that ends one.
use Rattle.std.specs.Prelude.{ℕ, ◌+◌, ◌==◌, ◌&&◌, ◌||◌, not, Bool, true, false, eqb, if◌then◌else◌, List, [], ◌∷◌, length, take, drop, codes, Option, Some, None}
use Rattle.std.specs.List.{starts_with}
use Rattle.text_fields.specs.Spelling.{line}
use Rattle.trace_check.specs.declared.checking.parting.LineStart.{LineStart}
use Rattle.trace_check.specs.declared.checking.parting.LineStart.TheVariants as starts
use Rattle.text_fields.specs.Reading.{stripped, ◌>>=◌}

pub record Parts : Type 0 where
  pub script : List ℕ
  pub report : List ℕ
  pub trace : List ℕ

-- the line that parts a script from an output
abbrev pub output_line : List ℕ
output_line = line (codes "output")

-- the bytes begin so: with that line; with the count of stripes; with no line that a report has behind it
abbrev pub starts_line : LineStart → List ℕ → Bool
starts_line starts.Output bytes = starts_with eqb bytes output_line
starts_line starts.Stripes bytes = starts_with eqb bytes (codes "stripes ")
starts_line starts.Trace bytes = not (starts_with eqb bytes (codes "dirty ") || starts_with eqb bytes (codes "absent "))

-- the place of the first line that begins so, in bytes from a place on; a line begins at their front, or it doesn't
abbrev pub place_from : LineStart → ℕ → Bool → List ℕ → Option ℕ
place_from start place begins [] = None
place_from start place begins (b ∷ bytes) = if begins && starts_line start (b ∷ bytes) then Some place else place_from start (place + 1) (b == 10) bytes

abbrev pub place_or : ℕ → Option ℕ → ℕ
place_or n (Some place) = place
place_or n None = n

-- the trace begins behind the first line that counts stripes, at the first line that isn't one of those that a report
-- has there, or else at the end
abbrev pub behind_stripes : List ℕ → Option ℕ → ℕ
behind_stripes output (Some place) = place_or (length output) (place_from starts.Trace place false (drop place output))
behind_stripes output None = length output

abbrev pub trace_place : List ℕ → ℕ
trace_place output = behind_stripes output (place_from starts.Stripes 0 true output)

abbrev pub parts_in : List ℕ → List ℕ → Parts
parts_in script output = record { script = script; report = take (trace_place output) output; trace = drop (trace_place output) output }

-- none where no line is `output`
unfoldable pub parts_of : List ℕ → Option Parts
parts_of input =
    place_from starts.Output 0 true input
    >>= λ place. stripped output_line (drop place input)
    >>= λ output. Some (parts_in (take place input) output)
