-- The promise of a run: what its journal is.
use Rattle.std.specs.Prelude.{◌≡◌, ◌==◌, Bool, false, List, [], reverse}
use Rattle.std.specs.List.{AllByRecursion}
use Rattle.stripe_layout.specs.declared.mode.Mode.TheVariants.{Supervised}
use Rattle.host_scripts.specs.declared.script.Script.{Script}
use Rattle.array_journal.specs.declared.entry.Entry.{Entry}
use Rattle.array_journal.specs.declared.event.Event.{Event}
use Rattle.array_journal.specs.declared.event.Event.TheVariants.{Gone}
use Rattle.array_journal.specs.declared.setting.Setting.{Setting}
use Rattle.array_journal.specs.Listed.{dirty}
use Rattle.array_journal.specs.Run.{IsSetting, Run, ConservedThroughout, IsLegal, NoneOpen}
use Rattle.array_journal.specs.Calm.{IsStamped}
use Rattle.array_journal.specs.Guarded.{IsGuarded}
use Rattle.host_requests.specs.Settings.{setting_of}
use Rattle.stripe_check.specs.Asked.{IsAsked}

-- a setting in which each update is supervised
abbrev pub IsStart : Setting → Type 0
IsStart s = IsSetting s × (s.mode ≡ Supervised)

-- the event is a loss that no call asked for: a medium failed
abbrev pub is_medium_loss : Event → Bool
is_medium_loss (Gone life call commands) = call == 0
is_medium_loss _ = false

abbrev pub HasNoMediumLoss : List Entry → Type 0
HasNoMediumLoss past = AllByRecursion (λ (e : Entry). is_medium_loss e.event ≡ false) past

-- The journal is a run of the array in the script's setting, and the one that its calls ask for; nothing is lost after
-- any entry of it, and what hosts were told is what one plain list of sectors says; commands that run alone are
-- undisturbed, no act follows the end of its command, and absent units are those missing or gone; no medium failed; its
-- stamps are 1, 2, 3 and so on, and at its end no command is open and no stripe is listed.
pub record IsJournalOf (script : Script) (journal : List Entry) : Type 0 where
  pub run : Run (setting_of script) journal
  pub asked : IsAsked script journal
  pub conserved : ConservedThroughout (setting_of script) journal
  pub legal : IsLegal (setting_of script) journal
  pub guarded : IsGuarded journal
  pub stamped : IsStamped (reverse journal)
  pub none_open : NoneOpen (reverse journal)
  pub none_listed : dirty (setting_of script) (reverse journal) ≡ []
  pub none_failed : HasNoMediumLoss (reverse journal)
