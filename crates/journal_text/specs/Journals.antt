-- Entries that follow one another.
use Rattle.std.specs.Prelude.{ℕ, ◌≡◌, Bool, true, if◌then◌else◌, List, Option, Some, None, Result, Ok, Err}
use Rattle.array_journal.specs.declared.at.At.{At}
use Rattle.array_journal.specs.declared.entry.Entry.{Entry}
use Rattle.array_journal.specs.Entries.{name_of, at_lt}
use Rattle.journal_text.specs.declared.fault.TraceFault.{TraceFault}
use Rattle.journal_text.specs.declared.fault.TraceFault.TheVariants as faults
use Rattle.text_fields.specs.Reading.{◌>>=◌}
use Rattle.journal_text.specs.Lines.{entry_at}
use Rattle.journal_text.specs.Readable.{IsFirstFaultyLine}

-- an entry may stand behind one of that name
abbrev pub goes_on : Option At → Entry → Bool
goes_on None e = true
goes_on (Some last) e = at_lt last (name_of e)

-- the entry of the first line, where it may stand behind one of that name
unfoldable pub next_at : Option At → List ℕ → Option (Entry × List ℕ)
next_at last bytes = entry_at bytes >>= λ first. if goes_on last first.0 then Some first else None

-- what is told of a line: its number, where it isn't read
abbrev pub FailsAt : {Y : Type 0} → ℕ → TraceFault → Option Y → Type 0
FailsAt n (faults.Line line) read = (line ≡ n) × (read ≡ None)
FailsAt n faults.Memory read = Unit {0}

abbrev pub GivesAt : {X Y : Type 0} → ℕ → (X → Y) → Result X TraceFault → Option Y → Type 0
GivesAt n view (Ok x) read = read ≡ Some (view x)
GivesAt n view (Err e) read = FailsAt n e read

-- the line is the first fault, and want of memory says nothing of the bytes
abbrev pub IsFault : List ℕ → TraceFault → Type 0
IsFault bytes (faults.Line line) = IsFirstFaultyLine bytes line
IsFault bytes faults.Memory = Unit {0}

-- that line, or want of memory
abbrev pub Tells : ℕ → TraceFault → Type 0
Tells n (faults.Line line) = line ≡ n
Tells n faults.Memory = Unit {0}
