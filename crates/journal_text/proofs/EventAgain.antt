-- What is spelt of the fields of an event is read.
use Rattle.std.proofs.Common.{◌≡◌, ℕ, ◌^◌, ◌<◌, Bool, true, List, ◌++◌, Option, Some}
use Rattle.std.specs.Fmt.{decimal}
use Rattle.sbc_cdbs.specs.declared.descriptor.Cdb.{Cdb}
use Rattle.array_journal.specs.declared.at.At.{At}
use Rattle.array_journal.specs.declared.event.Event.{Event}
use Rattle.array_journal.specs.declared.event.Event.TheVariants as events
use Rattle.array_journal.specs.declared.event.What.{What}
use Rattle.array_journal.specs.declared.event.Why.{Why}
use Rattle.array_journal.specs.declared.task.Task.{Task}
use Rattle.text_fields.specs.Spelling.{hex_or_dash, AreBytes}
use Rattle.journal_text.specs.Traces.{field, flag_text, at_text, cause_text, names_text, owners_text, what_text, why_text}
use Rattle.journal_text.specs.declared.reading.fields.ActFields.{ActFields}
use Rattle.journal_text.specs.declared.reading.fields.AimFields.{AimFields}
use Rattle.journal_text.specs.declared.reading.fields.PlaceFields.{PlaceFields}
use Rattle.text_fields.specs.Reading.{number_of, data_of}
use Rattle.journal_text.specs.Words.{at_of, cause_of, flag_of, what_of}
use Rattle.journal_text.specs.Senses.{why_of}
use Rattle.journal_text.specs.Lists.{listed_of}
use Rattle.journal_text.specs.Readable.{IsAt, IsCause, AreOwners, AreNames, IsWhy, IsEvent}
use Rattle.journal_text.specs.Lines.{field_of, act_at, aim_at, place_at, task_of_parts, fetch_at, put_at, diff_at, take_at, fold_at, hold_at, shut_at, gone_at, wiped_at, fresh_at, open_at, close_at, spoil_at, note_at, swap_at, refuse_at, event_at}
use Rattle.text_fields.proofs.Cuts.{ends}
use Rattle.journal_text.proofs.Parts.{again-1, again-2, again-3, again-4, again-5}
use Rattle.journal_text.proofs.WordLaws.{Always}
use Rattle.journal_text.proofs.EventFields.{long-part, short-part, data-part, at-part, cause-part, flag-part, what-part, names-part, owners-part, why-part, act_fields, ActFits, act-part, aim_fields, AimFits, aim-part, place_fields, PlaceFits, place-part}
use Rattle.journal_text.proofs.EventParts.{title, fields}

fetch-again : (command : ℕ) (opened : At) (cdb : Cdb) (row : ℕ) (bytes : List ℕ) (rest : List ℕ) → IsEvent (events.Fetch command opened cdb row bytes) → ends rest ≡ true
    → fetch_at (fields (events.Fetch command opened cdb row bytes) ++ rest) ≡ Some (events.Fetch command opened cdb row bytes, rest)
unfolding fetch_at
fetch-again command opened cdb row bytes rest h stop =
    let act : ActFields = record { command = command; opened = opened; cdb = cdb; row = row; bytes = bytes } in
    again-1 ActFields Event act_fields ActFits act_at act-part (λ (a : ActFields). events.Fetch a.command a.opened a.cdb a.row a.bytes) act rest h stop

put-again : (command : ℕ) (opened : At) (cdb : Cdb) (row : ℕ) (bytes : List ℕ) (names : List At) (rest : List ℕ) → IsEvent (events.Put command opened cdb row bytes names) → ends rest ≡ true
    → put_at (fields (events.Put command opened cdb row bytes names) ++ rest) ≡ Some (events.Put command opened cdb row bytes names, rest)
unfolding put_at
put-again command opened cdb row bytes names rest h stop =
    let act : ActFields = record { command = command; opened = opened; cdb = cdb; row = row; bytes = bytes } in
    again-2 ActFields (List At) Event act_fields ActFits act_at (λ names. field (names_text names)) AreNames (field_of (listed_of at_of)) act-part names-part (λ (a : ActFields) (b : (List At)). events.Put a.command a.opened a.cdb a.row a.bytes b) act names rest h.0 h.1 stop

diff-again : (command : ℕ) (opened : At) (cdb : Cdb) (row : ℕ) (bytes : List ℕ) (sent : Bool) (dropped : Bool) (back : Bool) (rest : List ℕ) → IsEvent (events.Diff command opened cdb row bytes sent dropped back) → ends rest ≡ true
    → diff_at (fields (events.Diff command opened cdb row bytes sent dropped back) ++ rest) ≡ Some (events.Diff command opened cdb row bytes sent dropped back, rest)
unfolding diff_at
diff-again command opened cdb row bytes sent dropped back rest h stop =
    let act : ActFields = record { command = command; opened = opened; cdb = cdb; row = row; bytes = bytes } in
    again-4 ActFields Bool Bool Bool Event act_fields ActFits act_at (λ flag. field (flag_text flag)) (Always Bool) (field_of flag_of) (λ flag. field (flag_text flag)) (Always Bool) (field_of flag_of) (λ flag. field (flag_text flag)) (Always Bool) (field_of flag_of) act-part flag-part flag-part flag-part (λ (a : ActFields) (b : Bool) (c : Bool) (d : Bool). events.Diff a.command a.opened a.cdb a.row a.bytes b c d) act sent dropped back rest h tt tt tt stop

take-again : (command : ℕ) (opened : At) (cdb : Cdb) (row : ℕ) (bytes : List ℕ) (rest : List ℕ) → IsEvent (events.Take command opened cdb row bytes) → ends rest ≡ true
    → take_at (fields (events.Take command opened cdb row bytes) ++ rest) ≡ Some (events.Take command opened cdb row bytes, rest)
unfolding take_at
take-again command opened cdb row bytes rest h stop =
    let act : ActFields = record { command = command; opened = opened; cdb = cdb; row = row; bytes = bytes } in
    again-1 ActFields Event act_fields ActFits act_at act-part (λ (a : ActFields). events.Take a.command a.opened a.cdb a.row a.bytes) act rest h stop

fold-again : (command : ℕ) (opened : At) (cdb : Cdb) (row : ℕ) (bytes : List ℕ) (names : List At) (rest : List ℕ) → IsEvent (events.Fold command opened cdb row bytes names) → ends rest ≡ true
    → fold_at (fields (events.Fold command opened cdb row bytes names) ++ rest) ≡ Some (events.Fold command opened cdb row bytes names, rest)
unfolding fold_at
fold-again command opened cdb row bytes names rest h stop =
    let act : ActFields = record { command = command; opened = opened; cdb = cdb; row = row; bytes = bytes } in
    again-2 ActFields (List At) Event act_fields ActFits act_at (λ names. field (names_text names)) AreNames (field_of (listed_of at_of)) act-part names-part (λ (a : ActFields) (b : (List At)). events.Fold a.command a.opened a.cdb a.row a.bytes b) act names rest h.0 h.1 stop

hold-again : (command : ℕ) (opened : At) (cdb : Cdb) (row : ℕ) (bytes : List ℕ) (kept : Bool) (names : List At) (back : Bool) (rest : List ℕ) → IsEvent (events.Hold command opened cdb row bytes kept names back) → ends rest ≡ true
    → hold_at (fields (events.Hold command opened cdb row bytes kept names back) ++ rest) ≡ Some (events.Hold command opened cdb row bytes kept names back, rest)
unfolding hold_at
hold-again command opened cdb row bytes kept names back rest h stop =
    let act : ActFields = record { command = command; opened = opened; cdb = cdb; row = row; bytes = bytes } in
    again-4 ActFields Bool (List At) Bool Event act_fields ActFits act_at (λ flag. field (flag_text flag)) (Always Bool) (field_of flag_of) (λ names. field (names_text names)) AreNames (field_of (listed_of at_of)) (λ flag. field (flag_text flag)) (Always Bool) (field_of flag_of) act-part flag-part names-part flag-part (λ (a : ActFields) (b : Bool) (c : (List At)) (d : Bool). events.Hold a.command a.opened a.cdb a.row a.bytes b c d) act kept names back rest h.0 tt h.1 tt stop

shut-again : (command : ℕ) (opened : At) (acted : Bool) (lost : Option At) (rest : List ℕ) → IsEvent (events.Shut command opened acted lost) → ends rest ≡ true
    → shut_at (fields (events.Shut command opened acted lost) ++ rest) ≡ Some (events.Shut command opened acted lost, rest)
unfolding shut_at
shut-again command opened acted lost rest h stop =
    again-4 ℕ At Bool (Option At) Event (λ n. field (decimal n)) (λ n. n < 2 ^ 32) (field_of (number_of 4294967295)) (λ at. field (at_text at)) IsAt (field_of at_of) (λ flag. field (flag_text flag)) (Always Bool) (field_of flag_of) (λ cause. field (cause_text cause)) IsCause (field_of cause_of) long-part at-part flag-part cause-part (λ (a : ℕ) (b : At) (c : Bool) (d : (Option At)). events.Shut a b c d) command opened acted lost rest h.0 h.1 tt h.2 stop

gone-again : (life : ℕ) (call : ℕ) (commands : List ℕ) (rest : List ℕ) → IsEvent (events.Gone life call commands) → ends rest ≡ true
    → gone_at (fields (events.Gone life call commands) ++ rest) ≡ Some (events.Gone life call commands, rest)
unfolding gone_at
gone-again life call commands rest h stop =
    again-3 ℕ ℕ (List ℕ) Event (λ n. field (decimal n)) (λ n. n < 2 ^ 32) (field_of (number_of 4294967295)) (λ n. field (decimal n)) (λ n. n < 2 ^ 32) (field_of (number_of 4294967295)) (λ owners. field (owners_text owners)) AreOwners (field_of (listed_of (number_of 4294967295))) long-part long-part owners-part (λ (a : ℕ) (b : ℕ) (c : (List ℕ)). events.Gone a b c) life call commands rest h.0 h.1 h.2 stop

wiped-again : (what : What) (call : ℕ) (commands : List ℕ) (rest : List ℕ) → IsEvent (events.Wiped what call commands) → ends rest ≡ true
    → wiped_at (fields (events.Wiped what call commands) ++ rest) ≡ Some (events.Wiped what call commands, rest)
unfolding wiped_at
wiped-again what call commands rest h stop =
    again-3 What ℕ (List ℕ) Event (λ what. field (what_text what)) (Always What) (field_of what_of) (λ n. field (decimal n)) (λ n. n < 2 ^ 32) (field_of (number_of 4294967295)) (λ owners. field (owners_text owners)) AreOwners (field_of (listed_of (number_of 4294967295))) what-part long-part owners-part (λ (a : What) (b : ℕ) (c : (List ℕ)). events.Wiped a b c) what call commands rest tt h.0 h.1 stop

fresh-again : (call : ℕ) (swap : At) (rest : List ℕ) → IsEvent (events.Fresh call swap) → ends rest ≡ true
    → fresh_at (fields (events.Fresh call swap) ++ rest) ≡ Some (events.Fresh call swap, rest)
unfolding fresh_at
fresh-again call swap rest h stop =
    again-2 ℕ At Event (λ n. field (decimal n)) (λ n. n < 2 ^ 32) (field_of (number_of 4294967295)) (λ at. field (at_text at)) IsAt (field_of at_of) long-part at-part (λ (a : ℕ) (b : At). events.Fresh a b) call swap rest h.0 h.1 stop

open-again : (command : ℕ) (task : Task) (rest : List ℕ) → IsEvent (events.Open command task) → ends rest ≡ true
    → open_at (fields (events.Open command task) ++ rest) ≡ Some (events.Open command task, rest)
unfolding open_at
open-again command task rest h stop =
    let aim : AimFields = record { call = task.call; piece = task.piece; kind = task.kind; stripe = task.stripe } in
    let place : PlaceFields = record { target = task.target; parity = task.parity; row = task.row; count = task.count; bytes = task.bytes } in
    again-3 ℕ AimFields PlaceFields Event (λ n. field (decimal n)) (λ n. n < 2 ^ 32) (field_of (number_of 4294967295)) aim_fields AimFits aim_at place_fields PlaceFits place_at long-part aim-part place-part (λ (a : ℕ) (b : AimFields) (c : PlaceFields). events.Open a (task_of_parts b c)) command aim place rest h.0 h.1 h.2 stop

close-again : (command : ℕ) (done : Bool) (names : List At) (cause : Option At) (bytes : List ℕ) (rest : List ℕ) → IsEvent (events.Close command done names cause bytes) → ends rest ≡ true
    → close_at (fields (events.Close command done names cause bytes) ++ rest) ≡ Some (events.Close command done names cause bytes, rest)
unfolding close_at
close-again command done names cause bytes rest h stop =
    again-5 ℕ Bool (List At) (Option At) (List ℕ) Event (λ n. field (decimal n)) (λ n. n < 2 ^ 32) (field_of (number_of 4294967295)) (λ flag. field (flag_text flag)) (Always Bool) (field_of flag_of) (λ names. field (names_text names)) AreNames (field_of (listed_of at_of)) (λ cause. field (cause_text cause)) IsCause (field_of cause_of) (λ bytes. field (hex_or_dash bytes)) AreBytes (field_of data_of) long-part flag-part names-part cause-part data-part (λ (a : ℕ) (b : Bool) (c : (List At)) (d : (Option At)) (e : (List ℕ)). events.Close a b c d e) command done names cause bytes rest h.0 tt h.1 h.2 h.3 stop

spoil-again : (command : ℕ) (diff : At) (loss : At) (shut : At) (rest : List ℕ) → IsEvent (events.Spoil command diff loss shut) → ends rest ≡ true
    → spoil_at (fields (events.Spoil command diff loss shut) ++ rest) ≡ Some (events.Spoil command diff loss shut, rest)
unfolding spoil_at
spoil-again command diff loss shut rest h stop =
    again-4 ℕ At At At Event (λ n. field (decimal n)) (λ n. n < 2 ^ 32) (field_of (number_of 4294967295)) (λ at. field (at_text at)) IsAt (field_of at_of) (λ at. field (at_text at)) IsAt (field_of at_of) (λ at. field (at_text at)) IsAt (field_of at_of) long-part at-part at-part at-part (λ (a : ℕ) (b : At) (c : At) (d : At). events.Spoil a b c d) command diff loss shut rest h.0 h.1 h.2 h.3 stop

note-again : (slot : ℕ) (lost : At) (rest : List ℕ) → IsEvent (events.Note slot lost) → ends rest ≡ true
    → note_at (fields (events.Note slot lost) ++ rest) ≡ Some (events.Note slot lost, rest)
unfolding note_at
note-again slot lost rest h stop =
    again-2 ℕ At Event (λ n. field (decimal n)) (λ n. n < 2 ^ 8) (field_of (number_of 255)) (λ at. field (at_text at)) IsAt (field_of at_of) short-part at-part (λ (a : ℕ) (b : At). events.Note a b) slot lost rest h.0 h.1 stop

swap-again : (slot : ℕ) (call : ℕ) (rest : List ℕ) → IsEvent (events.Swap slot call) → ends rest ≡ true
    → swap_at (fields (events.Swap slot call) ++ rest) ≡ Some (events.Swap slot call, rest)
unfolding swap_at
swap-again slot call rest h stop =
    again-2 ℕ ℕ Event (λ n. field (decimal n)) (λ n. n < 2 ^ 8) (field_of (number_of 255)) (λ n. field (decimal n)) (λ n. n < 2 ^ 32) (field_of (number_of 4294967295)) short-part long-part (λ (a : ℕ) (b : ℕ). events.Swap a b) slot call rest h.0 h.1 stop

refuse-again : (call : ℕ) (piece : ℕ) (why : Why) (rest : List ℕ) → IsEvent (events.Refuse call piece why) → ends rest ≡ true
    → refuse_at (fields (events.Refuse call piece why) ++ rest) ≡ Some (events.Refuse call piece why, rest)
unfolding refuse_at
refuse-again call piece why rest h stop =
    again-3 ℕ ℕ Why Event (λ n. field (decimal n)) (λ n. n < 2 ^ 32) (field_of (number_of 4294967295)) (λ n. field (decimal n)) (λ n. n < 2 ^ 32) (field_of (number_of 4294967295)) (λ why. field (why_text why)) IsWhy (field_of why_of) long-part long-part why-part (λ (a : ℕ) (b : ℕ) (c : Why). events.Refuse a b c) call piece why rest h.0 h.1 h.2 stop

pub event-again : (e : Event) (rest : List ℕ) → IsEvent e → ends rest ≡ true → event_at (title e) (fields e ++ rest) ≡ Some (e, rest)
unfolding event_at
event-again (events.Fetch command opened cdb row bytes) rest h stop = fetch-again command opened cdb row bytes rest h stop
event-again (events.Put command opened cdb row bytes names) rest h stop = put-again command opened cdb row bytes names rest h stop
event-again (events.Diff command opened cdb row bytes sent dropped back) rest h stop = diff-again command opened cdb row bytes sent dropped back rest h stop
event-again (events.Take command opened cdb row bytes) rest h stop = take-again command opened cdb row bytes rest h stop
event-again (events.Fold command opened cdb row bytes names) rest h stop = fold-again command opened cdb row bytes names rest h stop
event-again (events.Hold command opened cdb row bytes kept names back) rest h stop = hold-again command opened cdb row bytes kept names back rest h stop
event-again (events.Shut command opened acted lost) rest h stop = shut-again command opened acted lost rest h stop
event-again (events.Gone life call commands) rest h stop = gone-again life call commands rest h stop
event-again (events.Wiped what call commands) rest h stop = wiped-again what call commands rest h stop
event-again (events.Fresh call swap) rest h stop = fresh-again call swap rest h stop
event-again (events.Open command task) rest h stop = open-again command task rest h stop
event-again (events.Close command done names cause bytes) rest h stop = close-again command done names cause bytes rest h stop
event-again (events.Spoil command diff loss shut) rest h stop = spoil-again command diff loss shut rest h stop
event-again (events.Note slot lost) rest h stop = note-again slot lost rest h stop
event-again (events.Swap slot call) rest h stop = swap-again slot call rest h stop
event-again (events.Refuse call piece why) rest h stop = refuse-again call piece why rest h stop
