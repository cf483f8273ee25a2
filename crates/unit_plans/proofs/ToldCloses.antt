-- That a command was closed is said to the plan that asked for it.
use Rattle.std.specs.Prelude.{◌≡◌, ◌++◌, true, List, [], ◌∷◌, map, reverse, max, ◌+◌, Some, None}
use Rattle.std.proofs.Common.{refl, ap, sym, ◌∙◌, subst}
use Rattle.std.proofs.lemmas.List.{append_cancel_right}
use Rattle.array_journal.specs.declared.entry.Entry.{Entry}
use Rattle.array_journal.specs.declared.event.Event.TheVariants.{Close}
use Rattle.array_journal.specs.Entries.{name_of}
use Rattle.array_book.specs.declared.answers.End.{End}
use Rattle.array_book.specs.Ledgers.{Ledger, book_entry, newest_stamp}
use Rattle.xor_target.specs.Logs.{last_stamp}
use Rattle.unit_plans.specs.declared.acts.BookAct.{BookAct}
use Rattle.unit_plans.specs.declared.acts.BookAct.TheVariants as books
use Rattle.unit_plans.specs.declared.acts.BookActed.{BookActed}
use Rattle.unit_plans.specs.declared.acts.BookActed.TheVariants as booked
use Rattle.unit_plans.specs.declared.doings.Do.TheVariants as dos
use Rattle.unit_plans.specs.declared.doings.Said.TheVariants as says
use Rattle.unit_plans.specs.declared.steps.Step.{Step}
use Rattle.unit_plans.specs.declared.steps.Step.TheVariants.{Begun, Acting, Closing, Over}
use Rattle.unit_plans.specs.Buses.{BusSetting}
use Rattle.unit_plans.specs.Effects.{IsDoneInBook}
use Rattle.unit_plans.specs.Follows.{IsFollowed, IsOnStep, IsToldAt, IsUndisturbed, HasGrown, WasClosed, all_acts, made_at, replied}
use Rattle.unit_plans.specs.PlanLaws.{PlansAreToldOfCloses}
use Rattle.unit_plans.specs.Plans.{PlanState}

module _ (b : BusSetting) (p : PlanState) (journal now : List Entry) (calm : IsUndisturbed journal) where
  abbrev end : End
  end = record { done = true; names = p.names; cause = None; bytes = [] }

  told-close : (answer : BookActed) (entries : List Entry) → IsFollowed b p (all_acts p.mode p.task.kind) entries journal → p.names ≡ map name_of (reverse entries) →
      p.bytes ≡ replied p.task.kind entries → IsDoneInBook true b (books.Close p.command end) answer journal journal now now →
      WasClosed b p (Some (says.Book answer)) now × IsUndisturbed now × HasGrown journal now
  told-close (booked.Closed at) entries f named replies d =
      let e : Entry = book_entry (max (newest_stamp d.book.past) (last_stamp journal) + 1) (Close p.command true p.names None []) in
      let over : d.over ≡ journal = d.come.at_once refl in
      let one : d.entries ≡ e ∷ [] = append_cancel_right d.entries (e ∷ []) d.book.past (sym d.grown ∙ ap (λ (l : Ledger). l.past) d.does.1.made) in
      let is : now ≡ e ∷ journal = d.come.alone_after refl ∙ ap (λ (j : List Entry). d.entries ++ j) over ∙ ap (λ (es : List Entry). es ++ journal) one in (
        record { at = at; entry = e; entries = entries; past = journal; says = refl; event = refl; newest = is; followed = f; named = named; replies = replies },
        subst IsUndisturbed (sym is) (refl, calm),
        (e, is),
      )
  told-close (booked.Begun x) entries f named replies d = absurd d.does
  told-close (booked.Spoilt x) entries f named replies d = absurd d.does
  told-close (booked.Noted x) entries f named replies d = absurd d.does
  told-close (booked.Swapped x) entries f named replies d = absurd d.does

  told-at : (step : Step) (act : BookAct) (answer : BookActed) (entries : List Entry) → IsFollowed b p (made_at p.mode p.task.kind step) entries journal →
      p.names ≡ map name_of (reverse entries) → p.bytes ≡ replied p.task.kind entries → IsOnStep step b p (dos.Book act) journal →
      IsDoneInBook true b act answer journal journal now now → IsToldAt step b p (Some (says.Book answer)) now × IsUndisturbed now × HasGrown journal now
  told-at Begun act answer entries f named replies on d = absurd on
  told-at (Acting kind) act answer entries f named replies on d = let no = on.says in cc
  told-at Closing act answer entries f named replies on d =
      told-close answer entries f named replies (subst (λ (a : BookAct). IsDoneInBook true b a answer journal journal now now) (same act on) d)
    where
      same : (act : BookAct) → dos.Book act ≡ dos.Book (books.Close p.command end) → act ≡ books.Close p.command end
      same act h = cc
  told-at Over act answer entries f named replies on d = absurd on

pub told-closes : PlansAreToldOfCloses
told-closes b p act answer journal now plan g calm asked d = told-at b p journal now calm p.step act answer asked.entries asked.followed asked.named asked.replies asked.on d
