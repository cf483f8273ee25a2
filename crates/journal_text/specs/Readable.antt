-- The journals that traces spell, and the first line of a text that is no line of one.
use Rattle.std.specs.Prelude.{ℕ, ◌≡◌, ◌+◌, ◌<◌, ◌^◌, true, List, [], ◌∷◌, ◌++◌, length, Option, Some, None}
use Rattle.std.specs.List.{AllByRecursion}
use Rattle.sbc_cdbs.specs.declared.descriptor.Cdb.{Cdb}
use Rattle.sbc_cdbs.specs.Cdbs.{cdb_bytes}
use Rattle.sense_data.specs.declared.senses.Pointer.{Pointer}
use Rattle.sense_data.specs.declared.senses.Sense.{Sense}
use Rattle.array_journal.specs.declared.at.At.{At}
use Rattle.array_journal.specs.declared.entry.Entry.{Entry}
use Rattle.array_journal.specs.declared.event.Event.{Event}
use Rattle.array_journal.specs.declared.event.Event.TheVariants.{Fetch, Put, Diff, Take, Fold, Hold, Shut, Gone, Wiped, Fresh, Open, Close, Spoil, Note, Swap, Refuse}
use Rattle.array_journal.specs.declared.event.Why.{Why}
use Rattle.array_journal.specs.declared.task.Task.{Task}
use Rattle.array_journal.specs.Merge.{Rises}
use Rattle.text_fields.specs.Spelling.{AreBytes}
use Rattle.journal_text.specs.Traces.{entry_line, trace_of}
use Rattle.journal_text.specs.Told.{OfSense}

-- a name has a stamp of 64 bits and a lock of 8
abbrev pub IsAt : At → Type 0
IsAt at = (at.stamp < 2 ^ 64) × (at.lock < 2 ^ 8)

abbrev pub IsCause : Option At → Type 0
IsCause None = Unit {0}
IsCause (Some at) = IsAt at

-- numbers of commands
abbrev pub AreOwners : List ℕ → Type 0
AreOwners owners = AllByRecursion (λ n. n < 2 ^ 32) owners

abbrev pub AreNames : List At → Type 0
AreNames names = AllByRecursion IsAt names

-- a CDB in a block of 16 bytes
abbrev pub IsCdb : Cdb → Type 0
IsCdb cdb = (length cdb.bytes ≡ 16) × AreBytes (cdb_bytes cdb)

-- all that a line tells of a pointer: it is into the CDB, at a byte and at no bit
abbrev pub IsPointer : Option Pointer → Type 0
IsPointer None = Unit {0}
IsPointer (Some p) = (p.command ≡ true) × (p.bit ≡ None) × (p.byte < 2 ^ 16)

-- all that it tells of a sense: there is no information, command specific information or field replaceable unit
pub record IsSense (s : Sense) : Type 0 where
  pub uninformed : s.information ≡ None
  pub unspecific : s.specific ≡ 0
  pub asc : s.asc < 256
  pub ascq : s.ascq < 256
  pub no_unit : s.fru ≡ 0
  pub pointer : IsPointer s.pointer

abbrev pub IsWhy : Why → Type 0
IsWhy why = OfSense IsSense why

-- the numbers of a task, and its bytes
abbrev pub IsAim : Task → Type 0
IsAim t = (t.call < 2 ^ 32) × (t.piece < 2 ^ 32) × (t.stripe < 2 ^ 32)

abbrev pub IsPlace : Task → Type 0
IsPlace t = (t.target < 2 ^ 8) × (t.parity < 2 ^ 8) × (t.row < 2 ^ 32) × (t.count < 2 ^ 32) × AreBytes t.bytes

-- what all acts of commands have
abbrev pub IsAct : ℕ → At → Cdb → ℕ → List ℕ → Type 0
IsAct command opened cdb row bytes = (command < 2 ^ 32) × IsAt opened × IsCdb cdb × (row < 2 ^ 32) × AreBytes bytes

-- each number of an event is in the range of its type, and its sense is told whole
abbrev pub IsEvent : Event → Type 0
IsEvent (Fetch command opened cdb row bytes) = IsAct command opened cdb row bytes
IsEvent (Put command opened cdb row bytes names) = IsAct command opened cdb row bytes × AreNames names
IsEvent (Diff command opened cdb row bytes sent dropped back) = IsAct command opened cdb row bytes
IsEvent (Take command opened cdb row bytes) = IsAct command opened cdb row bytes
IsEvent (Fold command opened cdb row bytes names) = IsAct command opened cdb row bytes × AreNames names
IsEvent (Hold command opened cdb row bytes kept names back) = IsAct command opened cdb row bytes × AreNames names
IsEvent (Shut command opened acted lost) = (command < 2 ^ 32) × IsAt opened × IsCause lost
IsEvent (Gone life call commands) = (life < 2 ^ 32) × (call < 2 ^ 32) × AreOwners commands
IsEvent (Wiped what call commands) = (call < 2 ^ 32) × AreOwners commands
IsEvent (Fresh call swap) = (call < 2 ^ 32) × IsAt swap
IsEvent (Open command task) = (command < 2 ^ 32) × IsAim task × IsPlace task
IsEvent (Close command done names cause bytes) = (command < 2 ^ 32) × AreNames names × IsCause cause × AreBytes bytes
IsEvent (Spoil command diff loss shut) = (command < 2 ^ 32) × IsAt diff × IsAt loss × IsAt shut
IsEvent (Note slot lost) = (slot < 2 ^ 8) × IsAt lost
IsEvent (Swap slot call) = (slot < 2 ^ 8) × (call < 2 ^ 32)
IsEvent (Refuse call piece why) = (call < 2 ^ 32) × (piece < 2 ^ 32) × IsWhy why

abbrev pub IsEntry : Entry → Type 0
IsEntry e = (e.stamp < 2 ^ 64) × (e.lock < 2 ^ 8) × IsEvent e.event

-- the entries of a trace: each can be told by a line, and their names rise
abbrev pub IsTraced : List Entry → Type 0
IsTraced journal = AllByRecursion IsEntry journal × Rises journal

-- the bytes are the trace of that journal
abbrev pub SpellsTrace : List ℕ → List Entry → Type 0
SpellsTrace bytes journal = (bytes ≡ trace_of journal) × IsTraced journal

-- the lines before the n-th, counted from 1, are the trace of some entries, there is an n-th, and it is no
-- line of an entry that may stand behind these
pub record IsFirstFaultyLine (bytes : List ℕ) (n : ℕ) : Type 0 where
  pub before : List Entry
  pub rest : List ℕ
  pub parts : bytes ≡ trace_of before ++ rest
  pub traced : IsTraced before
  pub number : n ≡ length before + 1
  pub some : rest ≡ [] → ⊥
  pub broken : (e : Entry) (more : List ℕ) → rest ≡ entry_line e ++ more → IsTraced (before ++ e ∷ []) → ⊥
