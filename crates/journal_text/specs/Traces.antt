-- The trace of a journal: a line for each entry, with its fields in their order.
use Rattle.std.specs.Prelude.{ℕ, Bool, true, false, List, [], ◌∷◌, ◌++◌, Option, Some, None, codes}
use Rattle.std.specs.List.{flat_map}
use Rattle.std.specs.Fmt.{decimal}
use Rattle.sbc_cdbs.specs.declared.descriptor.Cdb.{Cdb}
use Rattle.sbc_cdbs.specs.Cdbs.{cdb_bytes}
use Rattle.sense_data.specs.declared.senses.Pointer.{Pointer}
use Rattle.sense_data.specs.declared.senses.Sense.{Sense}
use Rattle.array_journal.specs.declared.at.At.{At}
use Rattle.array_journal.specs.declared.entry.Entry.{Entry}
use Rattle.array_journal.specs.declared.event.Event.{Event}
use Rattle.array_journal.specs.declared.event.Event.TheVariants.{Fetch, Put, Diff, Take, Fold, Hold, Shut, Gone, Wiped, Fresh, Open, Close, Spoil, Note, Swap, Refuse}
use Rattle.array_journal.specs.declared.event.What.{What}
use Rattle.array_journal.specs.declared.event.What.TheVariants.{Buffers, Request}
use Rattle.array_journal.specs.declared.event.Why.{Why}
use Rattle.array_journal.specs.declared.event.Why.TheVariants.{Illegal, Medium, NotReady, Unfitted, Present, Listed, Second, Clean, Absent, NotLost}
use Rattle.array_journal.specs.declared.task.Kind.{Kind}
use Rattle.array_journal.specs.declared.task.Kind.TheVariants.{Read, Update, DataOnly, DegradedRead, DegradedWrite, Rebuild, Resync}
use Rattle.array_journal.specs.declared.task.Task.{Task}
use Rattle.text_fields.specs.Spelling.{line, hex_or_dash, upper_nibble, upper_byte}

-- a field, behind a space
abbrev pub field : List ℕ → List ℕ
field text = 32 ∷ text

abbrev pub flag_text : Bool → List ℕ
flag_text false = codes "0"
flag_text true = codes "1"

-- the stamp and the lock of an entry
abbrev pub at_text : At → List ℕ
at_text at = decimal at.stamp ++ (46 ∷ decimal at.lock)

abbrev pub cause_text : Option At → List ℕ
cause_text None = codes "-"
cause_text (Some at) = at_text at

-- further texts, each behind a comma
abbrev pub further : {A : Type 0} → (A → List ℕ) → List A → List ℕ
further text [] = []
further text (x ∷ xs) = 44 ∷ (text x ++ further text xs)

-- texts with commas between them, or a dash for none
abbrev pub listed : {A : Type 0} → (A → List ℕ) → List A → List ℕ
listed text [] = codes "-"
listed text (x ∷ xs) = text x ++ further text xs

abbrev pub names_text : List At → List ℕ
names_text names = listed at_text names

abbrev pub owners_text : List ℕ → List ℕ
owners_text owners = listed decimal owners

abbrev pub kind_text : Kind → List ℕ
kind_text Read = codes "read"
kind_text Update = codes "update"
kind_text DataOnly = codes "dataonly"
kind_text DegradedRead = codes "degradedread"
kind_text DegradedWrite = codes "degradedwrite"
kind_text Rebuild = codes "rebuild"
kind_text Resync = codes "resync"

abbrev pub what_text : What → List ℕ
what_text Buffers = codes "buffers"
what_text Request = codes "request"

abbrev pub pointer_text : Option Pointer → List ℕ
pointer_text None = codes "-"
pointer_text (Some p) = decimal p.byte

-- sense key, code, qualifier and the byte pointed at
abbrev pub sense_text : Sense → List ℕ
sense_text s = upper_nibble s.key ∷ 58 ∷ (upper_byte s.asc ++ (58 ∷ (upper_byte s.ascq ++ (58 ∷ pointer_text s.pointer))))

abbrev pub why_text : Why → List ℕ
why_text (Illegal sense) = codes "illegal:" ++ sense_text sense
why_text Medium = codes "medium"
why_text NotReady = codes "notready"
why_text Unfitted = codes "unfitted"
why_text Present = codes "present"
why_text Listed = codes "listed"
why_text Second = codes "second"
why_text Clean = codes "clean"
why_text Absent = codes "absent"
why_text NotLost = codes "notlost"

-- which command a task is of, and what it does
abbrev pub aim_text : Task → List ℕ
aim_text t = field (decimal t.call) ++ (field (decimal t.piece) ++ (field (kind_text t.kind) ++ field (decimal t.stripe)))

-- where it does it, and the blocks
abbrev pub place_text : Task → List ℕ
place_text t = field (decimal t.target) ++ (field (decimal t.parity) ++ (field (decimal t.row) ++ (field (decimal t.count) ++ field (hex_or_dash t.bytes))))

-- what all acts of commands have
abbrev pub act_text : ℕ → At → Cdb → ℕ → List ℕ → List ℕ
act_text command opened cdb row bytes =
    field (decimal command) ++ (field (at_text opened) ++ (field (hex_or_dash (cdb_bytes cdb)) ++ (field (decimal row) ++ field (hex_or_dash bytes))))

abbrev pub event_text : Event → List ℕ
event_text (Fetch command opened cdb row bytes) = codes "fetch" ++ act_text command opened cdb row bytes
event_text (Put command opened cdb row bytes names) = codes "put" ++ (act_text command opened cdb row bytes ++ field (names_text names))
event_text (Diff command opened cdb row bytes sent dropped back) =
    codes "diff" ++ (act_text command opened cdb row bytes ++ (field (flag_text sent) ++ (field (flag_text dropped) ++ field (flag_text back))))
event_text (Take command opened cdb row bytes) = codes "take" ++ act_text command opened cdb row bytes
event_text (Fold command opened cdb row bytes names) = codes "fold" ++ (act_text command opened cdb row bytes ++ field (names_text names))
event_text (Hold command opened cdb row bytes kept names back) =
    codes "hold" ++ (act_text command opened cdb row bytes ++ (field (flag_text kept) ++ (field (names_text names) ++ field (flag_text back))))
event_text (Shut command opened acted lost) =
    codes "shut" ++ (field (decimal command) ++ (field (at_text opened) ++ (field (flag_text acted) ++ field (cause_text lost))))
event_text (Gone life call commands) = codes "gone" ++ (field (decimal life) ++ (field (decimal call) ++ field (owners_text commands)))
event_text (Wiped what call commands) = codes "wiped" ++ (field (what_text what) ++ (field (decimal call) ++ field (owners_text commands)))
event_text (Fresh call swap) = codes "fresh" ++ (field (decimal call) ++ field (at_text swap))
event_text (Open command task) = codes "open" ++ (field (decimal command) ++ (aim_text task ++ place_text task))
event_text (Close command done names cause bytes) =
    codes "close" ++ (field (decimal command) ++ (field (flag_text done) ++ (field (names_text names) ++ (field (cause_text cause) ++ field (hex_or_dash bytes)))))
event_text (Spoil command diff loss shut) =
    codes "spoil" ++ (field (decimal command) ++ (field (at_text diff) ++ (field (at_text loss) ++ field (at_text shut))))
event_text (Note slot lost) = codes "note" ++ (field (decimal slot) ++ field (at_text lost))
event_text (Swap slot call) = codes "swap" ++ (field (decimal slot) ++ field (decimal call))
event_text (Refuse call piece why) = codes "refuse" ++ (field (decimal call) ++ (field (decimal piece) ++ field (why_text why)))

-- stamp, lock and event
abbrev pub entry_line : Entry → List ℕ
entry_line e = line (decimal e.stamp ++ (field (decimal e.lock) ++ field (event_text e.event)))

-- the trace of a journal, the oldest entry first
unfoldable pub trace_of : List Entry → List ℕ
trace_of journal = flat_map entry_line journal
