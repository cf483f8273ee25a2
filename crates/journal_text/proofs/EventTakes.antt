-- What is read of the fields of an event is spelt so.
use Rattle.std.proofs.Common.{◌≡◌, ℕ, ◌^◌, ◌<◌, Bool, List, ◌++◌, Option, Some, refl, subst}
use Rattle.std.specs.Fmt.{decimal}
use Rattle.array_journal.specs.declared.at.At.{At}
use Rattle.array_journal.specs.declared.event.Event.{Event}
use Rattle.array_journal.specs.declared.event.Event.TheVariants as events
use Rattle.array_journal.specs.declared.event.What.{What}
use Rattle.array_journal.specs.declared.event.Why.{Why}
use Rattle.text_fields.specs.Spelling.{hex_or_dash, AreBytes}
use Rattle.journal_text.specs.Traces.{field, flag_text, at_text, cause_text, names_text, owners_text, what_text, why_text}
use Rattle.journal_text.specs.declared.reading.fields.ActFields.{ActFields}
use Rattle.journal_text.specs.declared.reading.fields.AimFields.{AimFields}
use Rattle.journal_text.specs.declared.reading.fields.PlaceFields.{PlaceFields}
use Rattle.journal_text.specs.declared.reading.names.EventName.{EventName}
use Rattle.journal_text.specs.declared.reading.names.EventName.TheVariants as titles
use Rattle.text_fields.specs.Reading.{number_of, data_of}
use Rattle.journal_text.specs.Words.{at_of, cause_of, flag_of, what_of}
use Rattle.journal_text.specs.Senses.{why_of}
use Rattle.journal_text.specs.Lists.{listed_of}
use Rattle.journal_text.specs.Readable.{IsAt, IsCause, AreOwners, AreNames, IsWhy, IsEvent}
use Rattle.journal_text.specs.Lines.{field_of, act_at, aim_at, place_at, task_of_parts, fetch_at, put_at, diff_at, take_at, fold_at, hold_at, shut_at, gone_at, wiped_at, fresh_at, open_at, close_at, spoil_at, note_at, swap_at, refuse_at, event_at}
use Rattle.journal_text.proofs.Parts.{takes-1, takes-2, takes-3, takes-4, takes-5}
use Rattle.journal_text.proofs.WordLaws.{Always}
use Rattle.journal_text.proofs.EventFields.{long-part, short-part, data-part, at-part, cause-part, flag-part, what-part, names-part, owners-part, why-part, act_fields, ActFits, act-part, aim_fields, AimFits, aim-part, place_fields, PlaceFits, place-part}
use Rattle.journal_text.proofs.EventParts.{title, fields}

-- what was read of the fields behind a name
pub record IsFound (name : EventName) (bytes : List ℕ) (e : Event) (rest : List ℕ) : Type 0 where
  pub spelt : bytes ≡ fields e ++ rest
  pub named : title e ≡ name
  pub fits : IsEvent e

fetch-takes : (bytes : List ℕ) (e : Event) (rest : List ℕ) → fetch_at bytes ≡ Some (e, rest) → IsFound titles.Fetch bytes e rest
unfolding fetch_at
fetch-takes bytes e rest h =
    let t = takes-1 ActFields Event act_fields ActFits act_at act-part (λ (a : ActFields). events.Fetch a.command a.opened a.cdb a.row a.bytes) bytes rest e h in
    subst (λ (x : Event). IsFound titles.Fetch bytes x rest) t.made (record { spelt = t.spelt; named = refl; fits = t.fits_a })

put-takes : (bytes : List ℕ) (e : Event) (rest : List ℕ) → put_at bytes ≡ Some (e, rest) → IsFound titles.Put bytes e rest
unfolding put_at
put-takes bytes e rest h =
    let t = takes-2 ActFields (List At) Event act_fields ActFits act_at (λ names. field (names_text names)) AreNames (field_of (listed_of at_of)) act-part names-part (λ (a : ActFields) (b : (List At)). events.Put a.command a.opened a.cdb a.row a.bytes b) bytes rest e h in
    subst (λ (x : Event). IsFound titles.Put bytes x rest) t.made (record { spelt = t.spelt; named = refl; fits = (t.fits_a, t.fits_b) })

diff-takes : (bytes : List ℕ) (e : Event) (rest : List ℕ) → diff_at bytes ≡ Some (e, rest) → IsFound titles.Diff bytes e rest
unfolding diff_at
diff-takes bytes e rest h =
    let t = takes-4 ActFields Bool Bool Bool Event act_fields ActFits act_at (λ flag. field (flag_text flag)) (Always Bool) (field_of flag_of) (λ flag. field (flag_text flag)) (Always Bool) (field_of flag_of) (λ flag. field (flag_text flag)) (Always Bool) (field_of flag_of) act-part flag-part flag-part flag-part (λ (a : ActFields) (b : Bool) (c : Bool) (d : Bool). events.Diff a.command a.opened a.cdb a.row a.bytes b c d) bytes rest e h in
    subst (λ (x : Event). IsFound titles.Diff bytes x rest) t.made (record { spelt = t.spelt; named = refl; fits = t.fits_a })

take-takes : (bytes : List ℕ) (e : Event) (rest : List ℕ) → take_at bytes ≡ Some (e, rest) → IsFound titles.Take bytes e rest
unfolding take_at
take-takes bytes e rest h =
    let t = takes-1 ActFields Event act_fields ActFits act_at act-part (λ (a : ActFields). events.Take a.command a.opened a.cdb a.row a.bytes) bytes rest e h in
    subst (λ (x : Event). IsFound titles.Take bytes x rest) t.made (record { spelt = t.spelt; named = refl; fits = t.fits_a })

fold-takes : (bytes : List ℕ) (e : Event) (rest : List ℕ) → fold_at bytes ≡ Some (e, rest) → IsFound titles.Fold bytes e rest
unfolding fold_at
fold-takes bytes e rest h =
    let t = takes-2 ActFields (List At) Event act_fields ActFits act_at (λ names. field (names_text names)) AreNames (field_of (listed_of at_of)) act-part names-part (λ (a : ActFields) (b : (List At)). events.Fold a.command a.opened a.cdb a.row a.bytes b) bytes rest e h in
    subst (λ (x : Event). IsFound titles.Fold bytes x rest) t.made (record { spelt = t.spelt; named = refl; fits = (t.fits_a, t.fits_b) })

hold-takes : (bytes : List ℕ) (e : Event) (rest : List ℕ) → hold_at bytes ≡ Some (e, rest) → IsFound titles.Hold bytes e rest
unfolding hold_at
hold-takes bytes e rest h =
    let t = takes-4 ActFields Bool (List At) Bool Event act_fields ActFits act_at (λ flag. field (flag_text flag)) (Always Bool) (field_of flag_of) (λ names. field (names_text names)) AreNames (field_of (listed_of at_of)) (λ flag. field (flag_text flag)) (Always Bool) (field_of flag_of) act-part flag-part names-part flag-part (λ (a : ActFields) (b : Bool) (c : (List At)) (d : Bool). events.Hold a.command a.opened a.cdb a.row a.bytes b c d) bytes rest e h in
    subst (λ (x : Event). IsFound titles.Hold bytes x rest) t.made (record { spelt = t.spelt; named = refl; fits = (t.fits_a, t.fits_c) })

shut-takes : (bytes : List ℕ) (e : Event) (rest : List ℕ) → shut_at bytes ≡ Some (e, rest) → IsFound titles.Shut bytes e rest
unfolding shut_at
shut-takes bytes e rest h =
    let t = takes-4 ℕ At Bool (Option At) Event (λ n. field (decimal n)) (λ n. n < 2 ^ 32) (field_of (number_of 4294967295)) (λ at. field (at_text at)) IsAt (field_of at_of) (λ flag. field (flag_text flag)) (Always Bool) (field_of flag_of) (λ cause. field (cause_text cause)) IsCause (field_of cause_of) long-part at-part flag-part cause-part (λ (a : ℕ) (b : At) (c : Bool) (d : (Option At)). events.Shut a b c d) bytes rest e h in
    subst (λ (x : Event). IsFound titles.Shut bytes x rest) t.made (record { spelt = t.spelt; named = refl; fits = (t.fits_a, t.fits_b, t.fits_d) })

gone-takes : (bytes : List ℕ) (e : Event) (rest : List ℕ) → gone_at bytes ≡ Some (e, rest) → IsFound titles.Gone bytes e rest
unfolding gone_at
gone-takes bytes e rest h =
    let t = takes-3 ℕ ℕ (List ℕ) Event (λ n. field (decimal n)) (λ n. n < 2 ^ 32) (field_of (number_of 4294967295)) (λ n. field (decimal n)) (λ n. n < 2 ^ 32) (field_of (number_of 4294967295)) (λ owners. field (owners_text owners)) AreOwners (field_of (listed_of (number_of 4294967295))) long-part long-part owners-part (λ (a : ℕ) (b : ℕ) (c : (List ℕ)). events.Gone a b c) bytes rest e h in
    subst (λ (x : Event). IsFound titles.Gone bytes x rest) t.made (record { spelt = t.spelt; named = refl; fits = (t.fits_a, t.fits_b, t.fits_c) })

wiped-takes : (bytes : List ℕ) (e : Event) (rest : List ℕ) → wiped_at bytes ≡ Some (e, rest) → IsFound titles.Wiped bytes e rest
unfolding wiped_at
wiped-takes bytes e rest h =
    let t = takes-3 What ℕ (List ℕ) Event (λ what. field (what_text what)) (Always What) (field_of what_of) (λ n. field (decimal n)) (λ n. n < 2 ^ 32) (field_of (number_of 4294967295)) (λ owners. field (owners_text owners)) AreOwners (field_of (listed_of (number_of 4294967295))) what-part long-part owners-part (λ (a : What) (b : ℕ) (c : (List ℕ)). events.Wiped a b c) bytes rest e h in
    subst (λ (x : Event). IsFound titles.Wiped bytes x rest) t.made (record { spelt = t.spelt; named = refl; fits = (t.fits_b, t.fits_c) })

fresh-takes : (bytes : List ℕ) (e : Event) (rest : List ℕ) → fresh_at bytes ≡ Some (e, rest) → IsFound titles.Fresh bytes e rest
unfolding fresh_at
fresh-takes bytes e rest h =
    let t = takes-2 ℕ At Event (λ n. field (decimal n)) (λ n. n < 2 ^ 32) (field_of (number_of 4294967295)) (λ at. field (at_text at)) IsAt (field_of at_of) long-part at-part (λ (a : ℕ) (b : At). events.Fresh a b) bytes rest e h in
    subst (λ (x : Event). IsFound titles.Fresh bytes x rest) t.made (record { spelt = t.spelt; named = refl; fits = (t.fits_a, t.fits_b) })

open-takes : (bytes : List ℕ) (e : Event) (rest : List ℕ) → open_at bytes ≡ Some (e, rest) → IsFound titles.Open bytes e rest
unfolding open_at
open-takes bytes e rest h =
    let t = takes-3 ℕ AimFields PlaceFields Event (λ n. field (decimal n)) (λ n. n < 2 ^ 32) (field_of (number_of 4294967295)) aim_fields AimFits aim_at place_fields PlaceFits place_at long-part aim-part place-part (λ (a : ℕ) (b : AimFields) (c : PlaceFields). events.Open a (task_of_parts b c)) bytes rest e h in
    subst (λ (x : Event). IsFound titles.Open bytes x rest) t.made (record { spelt = t.spelt; named = refl; fits = (t.fits_a, t.fits_b, t.fits_c) })

close-takes : (bytes : List ℕ) (e : Event) (rest : List ℕ) → close_at bytes ≡ Some (e, rest) → IsFound titles.Close bytes e rest
unfolding close_at
close-takes bytes e rest h =
    let t = takes-5 ℕ Bool (List At) (Option At) (List ℕ) Event (λ n. field (decimal n)) (λ n. n < 2 ^ 32) (field_of (number_of 4294967295)) (λ flag. field (flag_text flag)) (Always Bool) (field_of flag_of) (λ names. field (names_text names)) AreNames (field_of (listed_of at_of)) (λ cause. field (cause_text cause)) IsCause (field_of cause_of) (λ bytes. field (hex_or_dash bytes)) AreBytes (field_of data_of) long-part flag-part names-part cause-part data-part (λ (a : ℕ) (b : Bool) (c : (List At)) (d : (Option At)) (e : (List ℕ)). events.Close a b c d e) bytes rest e h in
    subst (λ (x : Event). IsFound titles.Close bytes x rest) t.made (record { spelt = t.spelt; named = refl; fits = (t.fits_a, t.fits_c, t.fits_d, t.fits_e) })

spoil-takes : (bytes : List ℕ) (e : Event) (rest : List ℕ) → spoil_at bytes ≡ Some (e, rest) → IsFound titles.Spoil bytes e rest
unfolding spoil_at
spoil-takes bytes e rest h =
    let t = takes-4 ℕ At At At Event (λ n. field (decimal n)) (λ n. n < 2 ^ 32) (field_of (number_of 4294967295)) (λ at. field (at_text at)) IsAt (field_of at_of) (λ at. field (at_text at)) IsAt (field_of at_of) (λ at. field (at_text at)) IsAt (field_of at_of) long-part at-part at-part at-part (λ (a : ℕ) (b : At) (c : At) (d : At). events.Spoil a b c d) bytes rest e h in
    subst (λ (x : Event). IsFound titles.Spoil bytes x rest) t.made (record { spelt = t.spelt; named = refl; fits = (t.fits_a, t.fits_b, t.fits_c, t.fits_d) })

note-takes : (bytes : List ℕ) (e : Event) (rest : List ℕ) → note_at bytes ≡ Some (e, rest) → IsFound titles.Note bytes e rest
unfolding note_at
note-takes bytes e rest h =
    let t = takes-2 ℕ At Event (λ n. field (decimal n)) (λ n. n < 2 ^ 8) (field_of (number_of 255)) (λ at. field (at_text at)) IsAt (field_of at_of) short-part at-part (λ (a : ℕ) (b : At). events.Note a b) bytes rest e h in
    subst (λ (x : Event). IsFound titles.Note bytes x rest) t.made (record { spelt = t.spelt; named = refl; fits = (t.fits_a, t.fits_b) })

swap-takes : (bytes : List ℕ) (e : Event) (rest : List ℕ) → swap_at bytes ≡ Some (e, rest) → IsFound titles.Swap bytes e rest
unfolding swap_at
swap-takes bytes e rest h =
    let t = takes-2 ℕ ℕ Event (λ n. field (decimal n)) (λ n. n < 2 ^ 8) (field_of (number_of 255)) (λ n. field (decimal n)) (λ n. n < 2 ^ 32) (field_of (number_of 4294967295)) short-part long-part (λ (a : ℕ) (b : ℕ). events.Swap a b) bytes rest e h in
    subst (λ (x : Event). IsFound titles.Swap bytes x rest) t.made (record { spelt = t.spelt; named = refl; fits = (t.fits_a, t.fits_b) })

refuse-takes : (bytes : List ℕ) (e : Event) (rest : List ℕ) → refuse_at bytes ≡ Some (e, rest) → IsFound titles.Refuse bytes e rest
unfolding refuse_at
refuse-takes bytes e rest h =
    let t = takes-3 ℕ ℕ Why Event (λ n. field (decimal n)) (λ n. n < 2 ^ 32) (field_of (number_of 4294967295)) (λ n. field (decimal n)) (λ n. n < 2 ^ 32) (field_of (number_of 4294967295)) (λ why. field (why_text why)) IsWhy (field_of why_of) long-part long-part why-part (λ (a : ℕ) (b : ℕ) (c : Why). events.Refuse a b c) bytes rest e h in
    subst (λ (x : Event). IsFound titles.Refuse bytes x rest) t.made (record { spelt = t.spelt; named = refl; fits = (t.fits_a, t.fits_b, t.fits_c) })

pub event-takes : (name : EventName) (bytes : List ℕ) (e : Event) (rest : List ℕ) → event_at name bytes ≡ Some (e, rest) → IsFound name bytes e rest
unfolding event_at
event-takes titles.Fetch bytes e rest h = fetch-takes bytes e rest h
event-takes titles.Put bytes e rest h = put-takes bytes e rest h
event-takes titles.Diff bytes e rest h = diff-takes bytes e rest h
event-takes titles.Take bytes e rest h = take-takes bytes e rest h
event-takes titles.Fold bytes e rest h = fold-takes bytes e rest h
event-takes titles.Hold bytes e rest h = hold-takes bytes e rest h
event-takes titles.Shut bytes e rest h = shut-takes bytes e rest h
event-takes titles.Gone bytes e rest h = gone-takes bytes e rest h
event-takes titles.Wiped bytes e rest h = wiped-takes bytes e rest h
event-takes titles.Fresh bytes e rest h = fresh-takes bytes e rest h
event-takes titles.Open bytes e rest h = open-takes bytes e rest h
event-takes titles.Close bytes e rest h = close-takes bytes e rest h
event-takes titles.Spoil bytes e rest h = spoil-takes bytes e rest h
event-takes titles.Note bytes e rest h = note-takes bytes e rest h
event-takes titles.Swap bytes e rest h = swap-takes bytes e rest h
event-takes titles.Refuse bytes e rest h = refuse-takes bytes e rest h
