-- Calm journals: those of reads and supervised updates alone, each of them ended, in an array that loses nothing.
use Rattle.std.specs.Prelude.{◌≡◌, ◌<◌, ◌≤◌, ◌*◌, ℕ, suc, true, false, List, [], ◌∷◌, length}
use Rattle.std.specs.List.{AllByRecursion}
use Rattle.stripe_layout.specs.Layout.{rows_of}
use Rattle.array_journal.specs.declared.entry.Entry.{Entry}
use Rattle.array_journal.specs.declared.event.Event.{Event}
use Rattle.array_journal.specs.declared.event.Event.TheVariants.{Fetch, Diff, Take, Fold, Open, Close}
use Rattle.array_journal.specs.declared.setting.Setting.{Setting}
use Rattle.array_journal.specs.Commands.{open_count}
use Rattle.array_journal.specs.Media.{media, held}
use Rattle.array_journal.specs.Run.{Grows, NoneOpen}

-- an event of a read or of a supervised update whose command is one of the first c
abbrev pub IsCalmEvent : ℕ → Event → Type 0
IsCalmEvent c (Fetch command opened cdb row bytes) = command < c
IsCalmEvent c (Diff command opened cdb row bytes sent dropped back) = (command < c) × (sent ≡ false)
IsCalmEvent c (Take command opened cdb row bytes) = command < c
IsCalmEvent c (Fold command opened cdb row bytes names) = command < c
IsCalmEvent c (Open command task) = command < c
IsCalmEvent c (Close command done names cause bytes) = (command < c) × (done ≡ true)
IsCalmEvent c _ = ⊥

-- such an event with a stamp of at most t
pub record IsCalmEntry (t c : ℕ) (e : Entry) : Type 0 where
  pub stamp : e.stamp ≤ t
  pub event : IsCalmEvent c e.event

-- stamps are 1, 2, 3 and so on
abbrev pub IsStamped : List Entry → Type 0
IsStamped [] = Unit {0}
IsStamped (e ∷ past) = (e.stamp ≡ suc (length past)) × IsStamped past

-- what a journal of whole reads and updates leaves: nothing open or held
pub record Quiet (s : Setting) (past : List Entry) : Type 0 where
  pub entries : AllByRecursion (IsCalmEntry (length past) (open_count past)) past
  pub stamped : IsStamped past
  pub none_open : NoneOpen past
  pub none_held : (i : ℕ) → held s i past ≡ []
  pub media_size : (i : ℕ) → length (media s i past) ≡ rows_of s.geometry * s.geometry.block

-- a calm journal: a run that leaves all quiet
pub record Calm (s : Setting) (past : List Entry) : Type 0 where
  pub quiet : Quiet s past
  pub grows : Grows s past
