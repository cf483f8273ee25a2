-- Comparisons of plain values, as tests.
use Rattle.std.specs.Prelude.{◌==◌, not, ℕ, Bool, true, false, List, length, Option, Some, None}
use Rattle.std.specs.Str.{bytes_eq}
use Rattle.array_journal.specs.declared.at.At.{At}
use Rattle.array_journal.specs.declared.task.Kind.{Kind}
use Rattle.array_journal.specs.declared.task.Kind.TheVariants.{Read, Update, DataOnly, DegradedRead, DegradedWrite, Rebuild, Resync}
use Rattle.array_journal.specs.Entries.{same_at}

abbrev pub is_empty : List ℕ → Bool
is_empty bytes = length bytes == 0

abbrev pub same_bool : Bool → Bool → Bool
same_bool true b = b
same_bool false b = not b

-- there are bytes, and they are these
abbrev pub same_found : List ℕ → Option (List ℕ) → Bool
same_found bytes None = false
same_found bytes (Some found) = bytes_eq bytes found

-- two names are one, where there are any
abbrev pub same_place : Option At → Option At → Bool
same_place None None = true
same_place None (Some b) = false
same_place (Some a) None = false
same_place (Some a) (Some b) = same_at a b

abbrev pub same_kind : Kind → Kind → Bool
same_kind Read Read = true
same_kind Update Update = true
same_kind DataOnly DataOnly = true
same_kind DegradedRead DegradedRead = true
same_kind DegradedWrite DegradedWrite = true
same_kind Rebuild Rebuild = true
same_kind Resync Resync = true
same_kind _ _ = false
