-- What acts on a bus leave: their entries may follow the journal, and what acts keeps its shape. A journal has the newest entry
-- first; `t` is a target before an act and `after` afterwards, over all entries that stand before the act's.
use Rattle.std.specs.Prelude.{◌≡◌, ◌⊎◌, ℕ, Bool, true, List, ◌∷◌, Some}
use Rattle.array_journal.specs.declared.entry.Entry.{Entry}
use Rattle.array_journal.specs.declared.setting.Setting.{Setting}
use Rattle.array_journal.specs.Laws.{lane}
use Rattle.array_journal.specs.May.{May}
use Rattle.array_journal.specs.Run.{Grows, IsSetting}
use Rattle.array_book.specs.Ledgers.{Ledger, AreInOrder}
use Rattle.xor_target.specs.Logs.{last_stamp}
use Rattle.xor_target.specs.State.{TargetState}
use Rattle.unit_plans.specs.declared.acts.Act.{Act}
use Rattle.unit_plans.specs.declared.acts.Acted.{Acted}
use Rattle.unit_plans.specs.declared.acts.BookAct.{BookAct}
use Rattle.unit_plans.specs.declared.acts.BookActed.{BookActed}
use Rattle.unit_plans.specs.Answered.{StaysOrGrows}
use Rattle.unit_plans.specs.Buses.{BusSetting, StandsOn}
use Rattle.unit_plans.specs.Conditions.{CanAct, CanBook}
use Rattle.unit_plans.specs.Effects.{HasActed, HasBooked}

-- An act that may be asked of a target makes no entry, or one that may follow.
abbrev pub ActsMayFollow : Type 0
ActsMayFollow =
    (b : BusSetting) (never_fails : Bool) (t after : TargetState) (act : Act) (answer : Acted) (journal made : List Entry) → IsSetting b.array → Grows b.array journal →
    StandsOn b t journal → CanAct b.array journal made t.number act → HasActed never_fails t act (last_stamp journal) answer after → StaysOrGrows b.array journal t after

-- What an act leaves of a target: its number, size and first page, and no command that waits. It goes on with the page that it
-- has, or with the first one; and where no medium fails, its medium tells its bytes still.
pub record KeepsShape (never_fails : Bool) (t after : TargetState) : Type 0 where
  pub same : after ≡ record t { page = after.page; past = after.past; held = after.held; contents = after.contents; faults = after.faults }
  pub page : (after.page ≡ t.page) ⊎ (after.page ≡ t.first)
  pub tells : never_fails ≡ true → (told : List ℕ) × (after.contents ≡ Some told)

abbrev pub ActsKeepShapes : Type 0
ActsKeepShapes =
    (b : BusSetting) (never_fails : Bool) (t after : TargetState) (act : Act) (answer : Acted) (journal made : List Entry) → StandsOn b t journal →
    CanAct b.array journal made t.number act → HasActed never_fails t act (last_stamp journal) answer after → KeepsShape never_fails t after

-- The book has no entry more than before, or one that may follow the journal.
pub record BookGrowsBy (s : Setting) (journal : List Entry) (book after : Ledger) : Type 0 where
  pub entry : Entry
  pub grown : after.past ≡ entry ∷ book.past
  pub at_lock : entry.lock ≡ 0
  pub may : May s journal entry

abbrev pub BookActsMayFollow : Type 0
BookActsMayFollow =
    (b : BusSetting) (book after : Ledger) (act : BookAct) (answer : BookActed) (journal made : List Entry) → IsSetting b.array → Grows b.array journal →
    book.setting ≡ b.array → AreInOrder book.past → lane 0 journal ≡ book.past → CanBook b.array journal made act → HasBooked book act (last_stamp journal) answer after →
    (after.past ≡ book.past) ⊎ BookGrowsBy b.array journal book after
