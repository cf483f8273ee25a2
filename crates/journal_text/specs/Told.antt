-- Journals of which a trace tells all: no number of a journal in memory is out of its range, but of a sense
-- a line tells its key, its codes and a byte of the CDB alone.
use Rattle.std.specs.Prelude.{◌≡◌, true, Option, Some, None}
use Rattle.sense_data.specs.declared.senses.Pointer.{Pointer}
use Rattle.sense_data.specs.declared.senses.Sense.{Sense}
use Rattle.array_journal.specs.declared.entry.Entry.{Entry}
use Rattle.array_journal.specs.declared.event.Event.{Event}
use Rattle.array_journal.specs.declared.event.Event.TheVariants.{Fetch, Put, Diff, Take, Fold, Hold, Shut, Gone, Wiped, Fresh, Open, Close, Spoil, Note, Swap, Refuse}
use Rattle.array_journal.specs.declared.event.Why.{Why}
use Rattle.array_journal.specs.declared.event.Why.TheVariants.{Illegal, Medium, NotReady, Unfitted, Present, Listed, Second, Clean, Absent, NotLost}

-- a pointer into the CDB, at no bit
abbrev pub IsToldPointer : Option Pointer → Type 0
IsToldPointer None = Unit {0}
IsToldPointer (Some p) = (p.command ≡ true) × (p.bit ≡ None)

pub record IsToldSense (s : Sense) : Type 0 where
  pub uninformed : s.information ≡ None
  pub unspecific : s.specific ≡ 0
  pub no_unit : s.fru ≡ 0
  pub pointer : IsToldPointer s.pointer

-- this is so of the sense that a refusal has, where it has one
abbrev pub OfSense : (Sense → Type 0) → Why → Type 0
OfSense Is (Illegal sense) = Is sense
OfSense Is Medium = Unit {0}
OfSense Is NotReady = Unit {0}
OfSense Is Unfitted = Unit {0}
OfSense Is Present = Unit {0}
OfSense Is Listed = Unit {0}
OfSense Is Second = Unit {0}
OfSense Is Clean = Unit {0}
OfSense Is Absent = Unit {0}
OfSense Is NotLost = Unit {0}

abbrev pub IsToldWhy : Why → Type 0
IsToldWhy why = OfSense IsToldSense why

abbrev pub IsTold : Event → Type 0
IsTold (Fetch command opened cdb row bytes) = Unit {0}
IsTold (Put command opened cdb row bytes names) = Unit {0}
IsTold (Diff command opened cdb row bytes sent dropped back) = Unit {0}
IsTold (Take command opened cdb row bytes) = Unit {0}
IsTold (Fold command opened cdb row bytes names) = Unit {0}
IsTold (Hold command opened cdb row bytes kept names back) = Unit {0}
IsTold (Shut command opened acted lost) = Unit {0}
IsTold (Gone life call commands) = Unit {0}
IsTold (Wiped what call commands) = Unit {0}
IsTold (Fresh call swap) = Unit {0}
IsTold (Open command task) = Unit {0}
IsTold (Close command done names cause bytes) = Unit {0}
IsTold (Spoil command diff loss shut) = Unit {0}
IsTold (Note slot lost) = Unit {0}
IsTold (Swap slot call) = Unit {0}
IsTold (Refuse call piece why) = IsToldWhy why

abbrev pub IsToldEntry : Entry → Type 0
IsToldEntry e = IsTold e.event
