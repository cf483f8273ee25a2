-- What the entries of a plan's command say, and what they don't.
use Rattle.std.specs.List.{AllByRecursion}
use Rattle.std.specs.Prelude.{◌≡◌, ◌++◌, ℕ, Bool, true, false, List, [], ◌∷◌, Some}
use Rattle.std.proofs.Common.{refl, ap, ◌∙◌}
use Rattle.std.proofs.lemmas.Bool.{eq-eqb}
use Rattle.stripe_layout.specs.declared.mode.Mode.{Mode}
use Rattle.sbc_cdbs.specs.declared.descriptor.Cdb.{Cdb}
use Rattle.array_journal.specs.declared.act.Act.{Act as Kind}
use Rattle.array_journal.specs.declared.act.Act.TheVariants.{Fetches, Puts, Diffs, Takes, Folds, Holds}
use Rattle.array_journal.specs.declared.entry.Entry.{Entry}
use Rattle.array_journal.specs.declared.event.Event.{Event}
use Rattle.array_journal.specs.declared.event.Event.TheVariants.{Fetch, Put, Diff, Take, Fold, Hold, Shut, Open, Close, Spoil}
use Rattle.array_journal.specs.Acts.{is_act, shuts_command}
use Rattle.array_journal.specs.Commands.{ends_command, is_open}
use Rattle.array_journal.specs.Entries.{entry_at, some_at}
use Rattle.array_journal.specs.OwnEntries.{OfCommand, carries, IsOwnTest}
use Rattle.array_journal.specs.Run.{Grows}
use Rattle.array_journal.proofs.runs.CommandLaws.{named-opened, opened-open}
use Rattle.array_journal.proofs.runs.OneJournal.{all-rest, all-first}
use Rattle.xor_target.specs.declared.order.Order.{Order}
use Rattle.unit_plans.specs.Buses.{BusSetting}
use Rattle.unit_plans.specs.Conditions.{IsOwn}
use Rattle.unit_plans.specs.Follows.{IsFollowed, AreMadeBy, opening_of}
use Rattle.unit_plans.specs.Plans.{PlanState}
use Rattle.unit_plans.specs.ServedOrders.{act_event}
use Rattle.unit_plans.proofs.OwnEntries.{Stands, own-stand, none-says}

-- ---- tests that only a command's own events pass

pub act-own : (act : Kind) (c : ℕ) → IsOwnTest (OfCommand c) (is_act act c)
act-own Fetches c (Fetch command opened cdb row bytes) h = h
act-own Fetches c _ h = cc
act-own Puts c (Put command opened cdb row bytes names) h = h
act-own Puts c _ h = cc
act-own Diffs c (Diff command opened cdb row bytes sent dropped back) h = h
act-own Diffs c _ h = cc
act-own Takes c (Take command opened cdb row bytes) h = h
act-own Takes c _ h = cc
act-own Folds c (Fold command opened cdb row bytes names) h = h
act-own Folds c _ h = cc
act-own Holds c (Hold command opened cdb row bytes kept names back) h = h
act-own Holds c _ h = cc

pub shut-own : (c : ℕ) → IsOwnTest (OfCommand c) (shuts_command c)
shut-own c (Shut command opened acted lost) h = h
shut-own c _ h = cc

pub end-own : (c : ℕ) → IsOwnTest (OfCommand c) (ends_command c)
end-own c (Close command done names cause bytes) h = h
end-own c (Spoil command diff loss shut) h = h
end-own c _ h = cc

-- ---- what the event of an act says

pub event-acts : (mode : Mode) (act : Kind) (order : Order) (cdb : Cdb) (row : ℕ) (bytes : List ℕ) (c : ℕ) → order.owner ≡ c →
    is_act act c (act_event mode act order cdb row bytes) ≡ true
event-acts mode Fetches order cdb row bytes c h = eq-eqb order.owner c h
event-acts mode Puts order cdb row bytes c h = eq-eqb order.owner c h
event-acts mode Diffs order cdb row bytes c h = eq-eqb order.owner c h
event-acts mode Takes order cdb row bytes c h = eq-eqb order.owner c h
event-acts mode Folds order cdb row bytes c h = eq-eqb order.owner c h
event-acts mode Holds order cdb row bytes c h = eq-eqb order.owner c h

pub event-owned : (mode : Mode) (act : Kind) (order : Order) (cdb : Cdb) (row : ℕ) (bytes : List ℕ) (c : ℕ) → order.owner ≡ c →
    carries (OfCommand c) (act_event mode act order cdb row bytes) ≡ true
event-owned mode act order cdb row bytes c h = act-own act c (act_event mode act order cdb row bytes) (event-acts mode act order cdb row bytes c h)

-- no event of this act passes a test
abbrev pub IsQuiet : Mode → ℕ → (Event → Bool) → Kind → Type 0
IsQuiet mode row test act = (order : Order) (cdb : Cdb) (bytes : List ℕ) → test (act_event mode act order cdb row bytes) ≡ false

pub shut-quiet : (mode : Mode) (row c : ℕ) (act : Kind) → IsQuiet mode row (shuts_command c) act
shut-quiet mode row c Fetches order cdb bytes = refl
shut-quiet mode row c Puts order cdb bytes = refl
shut-quiet mode row c Diffs order cdb bytes = refl
shut-quiet mode row c Takes order cdb bytes = refl
shut-quiet mode row c Folds order cdb bytes = refl
shut-quiet mode row c Holds order cdb bytes = refl

pub end-quiet : (mode : Mode) (row c : ℕ) (act : Kind) → IsQuiet mode row (ends_command c) act
end-quiet mode row c Fetches order cdb bytes = refl
end-quiet mode row c Puts order cdb bytes = refl
end-quiet mode row c Diffs order cdb bytes = refl
end-quiet mode row c Takes order cdb bytes = refl
end-quiet mode row c Folds order cdb bytes = refl
end-quiet mode row c Holds order cdb bytes = refl

made-quiet : (p : PlanState) (test : Event → Bool) (acts : List Kind) (entries : List Entry) → AllByRecursion (IsQuiet p.mode p.task.row test) acts → AreMadeBy p acts entries →
    AllByRecursion (λ (e : Entry). test e.event ≡ false) entries
made-quiet p test [] [] quiet made = tt
made-quiet p test [] (e ∷ entries) quiet made = absurd made
made-quiet p test (act ∷ acts) [] quiet made = absurd made
made-quiet p test (act ∷ acts) (e ∷ entries) quiet made =
    let m = made.0 in (ap test m.event ∙ quiet.0 m.order m.cdb m.bytes, made-quiet p test acts entries quiet.1 made.1)

pub each-act : (P : Kind → Type 0) (acts : List Kind) → ((act : Kind) → P act) → AllByRecursion P acts
each-act P [] h = tt
each-act P (act ∷ acts) h = (h act, each-act P acts h)

-- ---- what stands of the command of a plan

with-opening : (P : Entry → Type 0) (entries : List Entry) (e : Entry) → AllByRecursion P entries → P e → AllByRecursion P (entries ++ e ∷ [])
with-opening P [] e h p = (p, tt)
with-opening P (x ∷ entries) e h p = (h.0, with-opening P entries e h.1 p)

module _ (b : BusSetting) (p : PlanState) (acts : List Kind) (entries journal : List Entry) (g : Grows b.array journal) (f : IsFollowed b p acts entries journal) where
  all : AllByRecursion (Stands journal) (entries ++ opening_of p ∷ [])
  all = own-stand b.array (OfCommand p.command) journal (entries ++ opening_of p ∷ []) g f.own

  pub made-stand : AllByRecursion (Stands journal) entries
  made-stand = all-first (Stands journal) entries (opening_of p ∷ []) all

  pub opening-stands : entry_at p.opened journal ≡ Some (Open p.command p.task)
  opening-stands =
      ap (λ (l : ℕ). entry_at (record { stamp = p.opened.stamp; lock = l }) journal) f.in_book
      ∙ (all-rest (Stands journal) entries (opening_of p ∷ []) all).0

  -- what none of its acts says and its opening doesn't say either, no entry says
  pub never-says : (lock : ℕ) (test : Event → Bool) → IsOwnTest (OfCommand p.command) test → AllByRecursion (IsQuiet p.mode p.task.row test) acts →
      test (Open p.command p.task) ≡ false → some_at lock test journal ≡ false
  never-says lock test own quiet opening =
      none-says (OfCommand p.command) lock test journal (entries ++ opening_of p ∷ []) own f.own
      (with-opening (λ (e : Entry). test e.event ≡ false) entries (opening_of p) (made-quiet p test acts entries quiet f.made) opening)

  pub open-still : is_open p.command journal ≡ true
  open-still =
      opened-open p.command journal (named-opened p.opened p.command p.task journal f.in_book opening-stands)
      (never-says 0 (ends_command p.command) (end-own p.command) (each-act (IsQuiet p.mode p.task.row (ends_command p.command)) acts (end-quiet p.mode p.task.row p.command)) refl)

  pub own-command : IsOwn journal journal p.command
  own-command = record { opened_here = named-opened p.opened p.command p.task journal f.in_book opening-stands; open_still = open-still }
