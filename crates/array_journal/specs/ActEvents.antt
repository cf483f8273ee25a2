-- What the entries of all six acts say.
use Rattle.std.specs.Prelude.{ℕ, List, Option, Some, None}
use Rattle.sbc_cdbs.specs.declared.descriptor.Cdb.{Cdb}
use Rattle.array_journal.specs.declared.act.Act.{Act}
use Rattle.array_journal.specs.declared.act.Act.TheVariants.{Fetches, Puts, Diffs, Takes, Folds, Holds}
use Rattle.array_journal.specs.declared.act_view.ActView.{ActView}
use Rattle.array_journal.specs.declared.at.At.{At}
use Rattle.array_journal.specs.declared.event.Event.{Event}
use Rattle.array_journal.specs.declared.event.Event.TheVariants.{Fetch, Put, Diff, Take, Fold, Hold, Shut}

-- an act: which, of which command, opened by which entry, sent how, where, and its bytes
pub record ActSaid : Type 0 where
  pub act : Act
  pub command : ℕ
  pub opened : At
  pub cdb : Cdb
  pub row : ℕ
  pub bytes : List ℕ

abbrev pub act_of : Act → ℕ → At → Cdb → ℕ → List ℕ → ActSaid
act_of act command opened cdb row bytes = record { act = act; command = command; opened = opened; cdb = cdb; row = row; bytes = bytes }

-- what an event says, where it is an act
abbrev pub act_in : Event → Option ActSaid
act_in (Fetch command opened cdb row bytes) = Some (act_of Fetches command opened cdb row bytes)
act_in (Put command opened cdb row bytes names) = Some (act_of Puts command opened cdb row bytes)
act_in (Diff command opened cdb row bytes sent dropped back) = Some (act_of Diffs command opened cdb row bytes)
act_in (Take command opened cdb row bytes) = Some (act_of Takes command opened cdb row bytes)
act_in (Fold command opened cdb row bytes names) = Some (act_of Folds command opened cdb row bytes)
act_in (Hold command opened cdb row bytes kept names back) = Some (act_of Holds command opened cdb row bytes)
act_in _ = None

-- what a program holds of an act
abbrev pub said : ActView → ActSaid
said view = act_of view.act view.command view.opened view.cdb.now view.row view.bytes.now

-- the command that acts or is shut by an event
abbrev pub actor : Event → Option ℕ
actor (Fetch command opened cdb row bytes) = Some command
actor (Put command opened cdb row bytes names) = Some command
actor (Diff command opened cdb row bytes sent dropped back) = Some command
actor (Take command opened cdb row bytes) = Some command
actor (Fold command opened cdb row bytes names) = Some command
actor (Hold command opened cdb row bytes kept names back) = Some command
actor (Shut command opened acted lost) = Some command
actor _ = None
