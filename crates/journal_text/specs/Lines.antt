-- Lines of a trace: fields behind spaces, and the entry that they spell.
use Rattle.std.specs.Prelude.{ℕ, List, [], ◌∷◌, Option, Some, codes}
use Rattle.array_journal.specs.declared.entry.Entry.{Entry}
use Rattle.array_journal.specs.declared.event.Event.{Event}
use Rattle.array_journal.specs.declared.event.Event.TheVariants as events
use Rattle.array_journal.specs.declared.task.Task.{Task}
use Rattle.sbc_cdbs.specs.declared.descriptor.Cdb.{Cdb}
use Rattle.journal_text.specs.declared.reading.fields.ActFields.{ActFields}
use Rattle.journal_text.specs.declared.reading.fields.AimFields.{AimFields}
use Rattle.journal_text.specs.declared.reading.fields.PlaceFields.{PlaceFields}
use Rattle.journal_text.specs.declared.reading.names.EventName.{EventName}
use Rattle.journal_text.specs.declared.reading.names.EventName.TheVariants as titles
use Rattle.text_fields.specs.Reading.{◌>>=◌, front_at, word_at, number_of, data_of, stripped}
use Rattle.journal_text.specs.Words.{at_of, cause_of, flag_of, what_of, kind_of, spelt_of}
use Rattle.journal_text.specs.Cdbs.{cdb_of}
use Rattle.journal_text.specs.Senses.{why_of}
use Rattle.journal_text.specs.Lists.{listed_of}

-- a value that one word spells, behind a space
unfoldable pub field_of : {A : Type 0} → (List ℕ → Option A) → List ℕ → Option (A × List ℕ)
field_of read bytes = do
  word ← word_at bytes
  value ← read word.0
  Some (value, word.1)

-- a CDB
unfoldable pub cdb_word_of : List ℕ → Option Cdb
cdb_word_of word = data_of word >>= cdb_of

-- what all acts of commands have
unfoldable pub act_at : List ℕ → Option (ActFields × List ℕ)
act_at line = do
  command ← field_of (number_of 4294967295) line
  opened ← field_of at_of command.1
  cdb ← field_of cdb_word_of opened.1
  row ← field_of (number_of 4294967295) cdb.1
  bytes ← field_of data_of row.1
  Some (record { command = command.0; opened = opened.0; cdb = cdb.0; row = row.0; bytes = bytes.0 }, bytes.1)

-- which command a task is of, and what it does
unfoldable pub aim_at : List ℕ → Option (AimFields × List ℕ)
aim_at line = do
  call ← field_of (number_of 4294967295) line
  piece ← field_of (number_of 4294967295) call.1
  kind ← field_of kind_of piece.1
  stripe ← field_of (number_of 4294967295) kind.1
  Some (record { call = call.0; piece = piece.0; kind = kind.0; stripe = stripe.0 }, stripe.1)

-- where it does it, and the blocks
unfoldable pub place_at : List ℕ → Option (PlaceFields × List ℕ)
place_at line = do
  target ← field_of (number_of 255) line
  parity ← field_of (number_of 255) target.1
  row ← field_of (number_of 4294967295) parity.1
  count ← field_of (number_of 4294967295) row.1
  bytes ← field_of data_of count.1
  Some (record { target = target.0; parity = parity.0; row = row.0; count = count.0; bytes = bytes.0 }, bytes.1)

-- ---- the events, each behind its name

unfoldable pub fetch_at : List ℕ → Option (Event × List ℕ)
fetch_at line = do
  act ← act_at line
  Some (events.Fetch act.0.command act.0.opened act.0.cdb act.0.row act.0.bytes, act.1)

unfoldable pub put_at : List ℕ → Option (Event × List ℕ)
put_at line = do
  act ← act_at line
  names ← field_of (listed_of at_of) act.1
  Some (events.Put act.0.command act.0.opened act.0.cdb act.0.row act.0.bytes names.0, names.1)

unfoldable pub diff_at : List ℕ → Option (Event × List ℕ)
diff_at line = do
  act ← act_at line
  sent ← field_of flag_of act.1
  dropped ← field_of flag_of sent.1
  back ← field_of flag_of dropped.1
  Some (events.Diff act.0.command act.0.opened act.0.cdb act.0.row act.0.bytes sent.0 dropped.0 back.0, back.1)

unfoldable pub take_at : List ℕ → Option (Event × List ℕ)
take_at line = do
  act ← act_at line
  Some (events.Take act.0.command act.0.opened act.0.cdb act.0.row act.0.bytes, act.1)

unfoldable pub fold_at : List ℕ → Option (Event × List ℕ)
fold_at line = do
  act ← act_at line
  names ← field_of (listed_of at_of) act.1
  Some (events.Fold act.0.command act.0.opened act.0.cdb act.0.row act.0.bytes names.0, names.1)

unfoldable pub hold_at : List ℕ → Option (Event × List ℕ)
hold_at line = do
  act ← act_at line
  kept ← field_of flag_of act.1
  names ← field_of (listed_of at_of) kept.1
  back ← field_of flag_of names.1
  Some (events.Hold act.0.command act.0.opened act.0.cdb act.0.row act.0.bytes kept.0 names.0 back.0, back.1)

unfoldable pub shut_at : List ℕ → Option (Event × List ℕ)
shut_at line = do
  command ← field_of (number_of 4294967295) line
  opened ← field_of at_of command.1
  acted ← field_of flag_of opened.1
  lost ← field_of cause_of acted.1
  Some (events.Shut command.0 opened.0 acted.0 lost.0, lost.1)

unfoldable pub gone_at : List ℕ → Option (Event × List ℕ)
gone_at line = do
  life ← field_of (number_of 4294967295) line
  call ← field_of (number_of 4294967295) life.1
  commands ← field_of (listed_of (number_of 4294967295)) call.1
  Some (events.Gone life.0 call.0 commands.0, commands.1)

unfoldable pub wiped_at : List ℕ → Option (Event × List ℕ)
wiped_at line = do
  what ← field_of what_of line
  call ← field_of (number_of 4294967295) what.1
  commands ← field_of (listed_of (number_of 4294967295)) call.1
  Some (events.Wiped what.0 call.0 commands.0, commands.1)

unfoldable pub fresh_at : List ℕ → Option (Event × List ℕ)
fresh_at line = do
  call ← field_of (number_of 4294967295) line
  swap ← field_of at_of call.1
  Some (events.Fresh call.0 swap.0, swap.1)

-- a task of its two parts
abbrev pub task_of_parts : AimFields → PlaceFields → Task
task_of_parts a p = record {
  call = a.call;
  piece = a.piece;
  kind = a.kind;
  stripe = a.stripe;
  target = p.target;
  parity = p.parity;
  row = p.row;
  count = p.count;
  bytes = p.bytes;
}

unfoldable pub open_at : List ℕ → Option (Event × List ℕ)
open_at line = do
  command ← field_of (number_of 4294967295) line
  aim ← aim_at command.1
  place ← place_at aim.1
  Some (events.Open command.0 (task_of_parts aim.0 place.0), place.1)

unfoldable pub close_at : List ℕ → Option (Event × List ℕ)
close_at line = do
  command ← field_of (number_of 4294967295) line
  done ← field_of flag_of command.1
  names ← field_of (listed_of at_of) done.1
  cause ← field_of cause_of names.1
  bytes ← field_of data_of cause.1
  Some (events.Close command.0 done.0 names.0 cause.0 bytes.0, bytes.1)

unfoldable pub spoil_at : List ℕ → Option (Event × List ℕ)
spoil_at line = do
  command ← field_of (number_of 4294967295) line
  diff ← field_of at_of command.1
  loss ← field_of at_of diff.1
  shut ← field_of at_of loss.1
  Some (events.Spoil command.0 diff.0 loss.0 shut.0, shut.1)

unfoldable pub note_at : List ℕ → Option (Event × List ℕ)
note_at line = do
  slot ← field_of (number_of 255) line
  lost ← field_of at_of slot.1
  Some (events.Note slot.0 lost.0, lost.1)

unfoldable pub swap_at : List ℕ → Option (Event × List ℕ)
swap_at line = do
  slot ← field_of (number_of 255) line
  call ← field_of (number_of 4294967295) slot.1
  Some (events.Swap slot.0 call.0, call.1)

unfoldable pub refuse_at : List ℕ → Option (Event × List ℕ)
refuse_at line = do
  call ← field_of (number_of 4294967295) line
  piece ← field_of (number_of 4294967295) call.1
  why ← field_of why_of piece.1
  Some (events.Refuse call.0 piece.0 why.0, why.1)

-- ---- names of events

abbrev pub name_text : EventName → List ℕ
name_text titles.Fetch = codes "fetch"
name_text titles.Put = codes "put"
name_text titles.Diff = codes "diff"
name_text titles.Take = codes "take"
name_text titles.Fold = codes "fold"
name_text titles.Hold = codes "hold"
name_text titles.Shut = codes "shut"
name_text titles.Gone = codes "gone"
name_text titles.Wiped = codes "wiped"
name_text titles.Fresh = codes "fresh"
name_text titles.Open = codes "open"
name_text titles.Close = codes "close"
name_text titles.Spoil = codes "spoil"
name_text titles.Note = codes "note"
name_text titles.Swap = codes "swap"
name_text titles.Refuse = codes "refuse"

unfoldable pub name_of : List ℕ → Option EventName
name_of word =
    spelt_of name_text (titles.Fetch ∷ titles.Put ∷ titles.Diff ∷ titles.Take ∷ titles.Fold ∷ titles.Hold ∷ titles.Shut ∷ titles.Gone ∷ titles.Wiped ∷ titles.Fresh ∷ titles.Open ∷ titles.Close ∷ titles.Spoil ∷ titles.Note ∷ titles.Swap ∷ titles.Refuse ∷ []) word

-- the event of a name
unfoldable pub event_at : EventName → List ℕ → Option (Event × List ℕ)
event_at titles.Fetch line = fetch_at line
event_at titles.Put line = put_at line
event_at titles.Diff line = diff_at line
event_at titles.Take line = take_at line
event_at titles.Fold line = fold_at line
event_at titles.Hold line = hold_at line
event_at titles.Shut line = shut_at line
event_at titles.Gone line = gone_at line
event_at titles.Wiped line = wiped_at line
event_at titles.Fresh line = fresh_at line
event_at titles.Open line = open_at line
event_at titles.Close line = close_at line
event_at titles.Spoil line = spoil_at line
event_at titles.Note line = note_at line
event_at titles.Swap line = swap_at line
event_at titles.Refuse line = refuse_at line

-- ---- whole lines

-- a stamp at the front
unfoldable pub stamp_at : List ℕ → Option (ℕ × List ℕ)
stamp_at bytes = do
  stamp ← number_of 18446744073709551615 (front_at bytes).0
  Some (stamp, (front_at bytes).1)

-- the entry of the first line, and what stands after it
unfoldable pub entry_at : List ℕ → Option (Entry × List ℕ)
entry_at bytes = do
  stamp ← stamp_at bytes
  lock ← field_of (number_of 255) stamp.1
  name ← field_of name_of lock.1
  event ← event_at name.0 name.1
  rest ← stripped (10 ∷ []) event.1
  Some (record { stamp = stamp.0; lock = lock.0; event = event.0 }, rest)
