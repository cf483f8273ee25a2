-- An event is spelt as its name and the fields behind it.
use Rattle.std.proofs.Common.{◌≡◌, ℕ, true, List, ◌++◌, refl}
use Rattle.std.specs.Fmt.{decimal}
use Rattle.array_journal.specs.declared.event.Event.{Event}
use Rattle.array_journal.specs.declared.event.Event.TheVariants as events
use Rattle.text_fields.specs.Spelling.{hex_or_dash}
use Rattle.journal_text.specs.Traces.{field, flag_text, at_text, cause_text, names_text, owners_text, what_text, why_text, aim_text, place_text, act_text, event_text}
use Rattle.journal_text.specs.declared.reading.names.EventName.{EventName}
use Rattle.journal_text.specs.declared.reading.names.EventName.TheVariants as titles
use Rattle.journal_text.specs.Lines.{name_text}
use Rattle.text_fields.proofs.Cuts.{ends}

-- ---- events

-- the kind of an event
abbrev pub title : Event → EventName
title (events.Fetch command opened cdb row bytes) = titles.Fetch
title (events.Put command opened cdb row bytes names) = titles.Put
title (events.Diff command opened cdb row bytes sent dropped back) = titles.Diff
title (events.Take command opened cdb row bytes) = titles.Take
title (events.Fold command opened cdb row bytes names) = titles.Fold
title (events.Hold command opened cdb row bytes kept names back) = titles.Hold
title (events.Shut command opened acted lost) = titles.Shut
title (events.Gone life call commands) = titles.Gone
title (events.Wiped what call commands) = titles.Wiped
title (events.Fresh call swap) = titles.Fresh
title (events.Open command task) = titles.Open
title (events.Close command done names cause bytes) = titles.Close
title (events.Spoil command diff loss shut) = titles.Spoil
title (events.Note slot lost) = titles.Note
title (events.Swap slot call) = titles.Swap
title (events.Refuse call piece why) = titles.Refuse

-- all that stands behind its name
abbrev pub fields : Event → List ℕ
fields (events.Fetch command opened cdb row bytes) = act_text command opened cdb row bytes
fields (events.Put command opened cdb row bytes names) = act_text command opened cdb row bytes ++ field (names_text names)
fields (events.Diff command opened cdb row bytes sent dropped back) = act_text command opened cdb row bytes ++ (field (flag_text sent) ++ (field (flag_text dropped) ++ field (flag_text back)))
fields (events.Take command opened cdb row bytes) = act_text command opened cdb row bytes
fields (events.Fold command opened cdb row bytes names) = act_text command opened cdb row bytes ++ field (names_text names)
fields (events.Hold command opened cdb row bytes kept names back) = act_text command opened cdb row bytes ++ (field (flag_text kept) ++ (field (names_text names) ++ field (flag_text back)))
fields (events.Shut command opened acted lost) = field (decimal command) ++ (field (at_text opened) ++ (field (flag_text acted) ++ field (cause_text lost)))
fields (events.Gone life call commands) = field (decimal life) ++ (field (decimal call) ++ field (owners_text commands))
fields (events.Wiped what call commands) = field (what_text what) ++ (field (decimal call) ++ field (owners_text commands))
fields (events.Fresh call swap) = field (decimal call) ++ field (at_text swap)
fields (events.Open command task) = field (decimal command) ++ (aim_text task ++ place_text task)
fields (events.Close command done names cause bytes) = field (decimal command) ++ (field (flag_text done) ++ (field (names_text names) ++ (field (cause_text cause) ++ field (hex_or_dash bytes))))
fields (events.Spoil command diff loss shut) = field (decimal command) ++ (field (at_text diff) ++ (field (at_text loss) ++ field (at_text shut)))
fields (events.Note slot lost) = field (decimal slot) ++ field (at_text lost)
fields (events.Swap slot call) = field (decimal slot) ++ field (decimal call)
fields (events.Refuse call piece why) = field (decimal call) ++ (field (decimal piece) ++ field (why_text why))

pub event-parts : (e : Event) → event_text e ≡ name_text (title e) ++ fields e
event-parts (events.Fetch command opened cdb row bytes) = refl
event-parts (events.Put command opened cdb row bytes names) = refl
event-parts (events.Diff command opened cdb row bytes sent dropped back) = refl
event-parts (events.Take command opened cdb row bytes) = refl
event-parts (events.Fold command opened cdb row bytes names) = refl
event-parts (events.Hold command opened cdb row bytes kept names back) = refl
event-parts (events.Shut command opened acted lost) = refl
event-parts (events.Gone life call commands) = refl
event-parts (events.Wiped what call commands) = refl
event-parts (events.Fresh call swap) = refl
event-parts (events.Open command task) = refl
event-parts (events.Close command done names cause bytes) = refl
event-parts (events.Spoil command diff loss shut) = refl
event-parts (events.Note slot lost) = refl
event-parts (events.Swap slot call) = refl
event-parts (events.Refuse call piece why) = refl

-- each begins with a space
pub fields-begin : (e : Event) (rest : List ℕ) → ends (fields e ++ rest) ≡ true
fields-begin (events.Fetch command opened cdb row bytes) rest = refl
fields-begin (events.Put command opened cdb row bytes names) rest = refl
fields-begin (events.Diff command opened cdb row bytes sent dropped back) rest = refl
fields-begin (events.Take command opened cdb row bytes) rest = refl
fields-begin (events.Fold command opened cdb row bytes names) rest = refl
fields-begin (events.Hold command opened cdb row bytes kept names back) rest = refl
fields-begin (events.Shut command opened acted lost) rest = refl
fields-begin (events.Gone life call commands) rest = refl
fields-begin (events.Wiped what call commands) rest = refl
fields-begin (events.Fresh call swap) rest = refl
fields-begin (events.Open command task) rest = refl
fields-begin (events.Close command done names cause bytes) rest = refl
fields-begin (events.Spoil command diff loss shut) rest = refl
fields-begin (events.Note slot lost) rest = refl
fields-begin (events.Swap slot call) rest = refl
fields-begin (events.Refuse call piece why) rest = refl
