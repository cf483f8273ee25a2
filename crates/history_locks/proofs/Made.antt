-- An act makes no entry or one with the next stamp, which tells no failure of a medium where none fails.
use Rattle.std.specs.Prelude.{◌≡◌, ◌+◌, ℕ, Bool, true, false, max, List, [], ◌∷◌, Some}
use Rattle.std.proofs.Common.{refl, ap, sym, ◌∙◌}
use Rattle.std.proofs.lemmas.Bool.{false≢true, ne_eqb}
use Rattle.std.proofs.lemmas.Option.{same_Some}
use Rattle.sbc_cdbs.specs.declared.descriptor.Cdb.{Cdb}
use Rattle.sbc_cdbs.specs.declared.commands.Command.{Command}
use Rattle.sbc_cdbs.specs.declared.commands.Command.TheVariants.{Read, Write, XdWrite, XpWrite, XdRead, XdWriteRead, ModeSelect, ModeSense, XdWriteExtended, Rebuild, Regenerate}
use Rattle.xor_buffers.specs.declared.held.HeldBlocks.{HeldBlocks}
use Rattle.array_journal.specs.declared.entry.Entry.{Entry}
use Rattle.array_journal.specs.declared.event.Event.{Event}
use Rattle.array_journal.specs.declared.event.Event.TheVariants as events
use Rattle.array_journal.specs.declared.setting.Setting.{Setting}
use Rattle.array_book.specs.BookAnswers.{HasBegun, IsNoteAnswer, IsSwapAnswer}
use Rattle.array_book.specs.declared.answers.Begun.{Begun}
use Rattle.array_book.specs.declared.answers.Begun.TheVariants as begun
use Rattle.array_book.specs.declared.answers.Noted.{Noted}
use Rattle.array_book.specs.declared.answers.Swapped.{Swapped}
use Rattle.array_book.specs.declared.asks.Ask.{Ask}
use Rattle.array_journal.specs.declared.at.At.{At}
use Rattle.array_book.specs.declared.answers.Noted.TheVariants as noted
use Rattle.array_book.specs.declared.answers.Swapped.TheVariants as swapped
use Rattle.array_book.specs.Ledgers.{Ledger, book_entry, newest_stamp}
use Rattle.xor_target.specs.declared.answer.Answer.{Answer}
use Rattle.xor_target.specs.declared.order.Order.{Order}
use Rattle.xor_target.specs.Admission.{command_in}
use Rattle.xor_target.specs.Answers.{next_entry, loss_here, IsDone, IsStruck, IsActed, Does, Fails, IsSent, Sends, Drops, Loses, IsGathered, Alone, Begins, IsExecuted, IsAnswered, WantsMemory, Tells, Executes}
use Rattle.xor_target.specs.Befalls.{shut_event, reset_event, drop_event, IsRenewed}
use Rattle.xor_target.specs.Effects.{Effect, effect_of}
use Rattle.xor_target.specs.Gathers.{done_order}
use Rattle.xor_target.specs.State.{TargetState, is_failure}
use Rattle.unit_plans.specs.declared.acts.Act.{Act}
use Rattle.unit_plans.specs.declared.acts.Act.TheVariants.{Run, Shut, Lose, Wipe, DropNext, Fresh}
use Rattle.unit_plans.specs.declared.acts.Acted.{Acted}
use Rattle.unit_plans.specs.declared.acts.Acted.TheVariants as acted
use Rattle.unit_plans.specs.declared.acts.BookAct.{BookAct}
use Rattle.unit_plans.specs.declared.acts.BookAct.TheVariants as books
use Rattle.unit_plans.specs.declared.acts.BookActed.{BookActed}
use Rattle.unit_plans.specs.declared.acts.BookActed.TheVariants as booked
use Rattle.unit_plans.specs.Conditions.{CanAct}
use Rattle.unit_plans.specs.Effects.{HasActed, HasBooked}

-- ---- at a target

-- no entry more than before, or one with the next stamp, which is no failure
pub data Makes (t : TargetState) (seen : ℕ) (after : TargetState) : Type 0 where
  None_more : after.past ≡ t.past → Makes t seen after
  One_more : (event : Event) → after.past ≡ next_entry t seen event ∷ t.past → is_failure event ≡ false → Makes t seen after

-- no effect of a command is a failure
quiet : (e effect : Effect) → is_failure e.event ≡ false → Some e ≡ Some effect → is_failure effect.event ≡ false
quiet e effect h is = ap (λ (x : Effect). is_failure x.event) (sym (same_Some e effect is)) ∙ h

quiet-effect : (block : ℕ) (order : Order) (cdb : Cdb) (held : List HeldBlocks) (old : List ℕ) (dropped : Bool) (command : Command) (effect : Effect) →
    effect_of block order cdb held old dropped command ≡ Some effect → is_failure effect.event ≡ false
quiet-effect block order cdb held old dropped (Read dpo fua lba count) effect does = quiet _ effect refl does
quiet-effect block order cdb held old dropped (Write dpo fua lba count) effect does = quiet _ effect refl does
quiet-effect block order cdb held old dropped (XdWrite dpo fua false lba count) effect does = quiet _ effect refl does
quiet-effect block order cdb held old dropped (XdWrite dpo fua true lba count) effect does = quiet _ effect refl does
quiet-effect block order cdb held old dropped (XdWriteRead dpo fua false lba count) effect does = quiet _ effect refl does
quiet-effect block order cdb held old dropped (XdWriteRead dpo fua true lba count) effect does = quiet _ effect refl does
quiet-effect block order cdb held old dropped (XpWrite dpo fua lba count) effect does = quiet _ effect refl does
quiet-effect block order cdb held old dropped (XdRead lba count) effect does = quiet _ effect refl does
quiet-effect block order cdb held old dropped (ModeSelect pf sp list) effect does = absurd cc
quiet-effect block order cdb held old dropped (ModeSense dbd pc page allocation) effect does = absurd cc
quiet-effect block order cdb held old dropped (XdWriteExtended dpo fua false lba second count address) effect does = quiet _ effect refl does
quiet-effect block order cdb held old dropped (XdWriteExtended dpo fua true lba second count address) effect does = quiet _ effect refl does
quiet-effect block order cdb held old dropped (Rebuild dpo fua intdata lba count list) effect does = quiet _ effect refl does
quiet-effect block order cdb held old dropped (Regenerate dpo fua intdata lba count list) effect does = quiet _ effect refl does

done-makes : (t : TargetState) (order : Order) (command : Command) (bytes : List ℕ) (after : TargetState) (seen : ℕ) → order.stamp ≡ seen →
    IsDone t order command bytes after → Makes t seen after
done-makes t order command bytes after seen same done =
    One_more done.effect.event (ap (λ (x : TargetState). x.past) done.grown ∙ ap (λ n. next_entry t n done.effect.event ∷ t.past) same)
    (quiet-effect t.block order done.cdb t.held done.old _ command done.effect done.does)

-- no medium fails
never-struck : (t : TargetState) (stamp : ℕ) (after : TargetState) → IsStruck true t stamp after → ⊥
never-struck t stamp after struck = false≢true (sym struck.failed.may_fail)

acted-makes : (t : TargetState) (order : Order) (command : Command) (answer : Answer) (after : TargetState) (seen : ℕ) → order.stamp ≡ seen →
    IsActed true t order command answer after → Makes t seen after
acted-makes t order command answer after seen same (Does bytes done says) = done-makes t order command bytes after seen same done
acted-makes t order command answer after seen same (Fails struck says) = absurd (never-struck t order.stamp after struck)

sent-makes : (t : TargetState) (order : Order) (command : Command) (second count address : ℕ) (answer : Answer) (after : TargetState) →
    IsSent true t order command second count address answer after → Makes t order.stamp after
sent-makes t order command second count address answer after (Sends delta done goes does is says) =
    One_more does.effect.event (ap (λ (x : TargetState). x.past) is ∙ ap (λ (x : TargetState). x.past) does.grown)
    (quiet-effect t.block order does.cdb t.held does.old _ command does.effect does.does)
sent-makes t order command second count address answer after (Drops delta drops does says) = done-makes t order command delta after order.stamp refl does
sent-makes t order command second count address answer after (Loses struck says) = absurd (never-struck t order.stamp after struck)

gathered-makes : (t : TargetState) (order : Order) (command : Command) (answer : Answer) (after : TargetState) →
    IsGathered true t order command answer after → Makes t order.stamp after
gathered-makes t order command answer after (Alone g first none does) = acted-makes t (done_order g [] [] order.stamp) command answer after order.stamp refl
    does
gathered-makes t order command answer after (Begins g source first asks says is) = None_more (ap (λ (x : TargetState). x.past) is)

executed-makes : (t : TargetState) (order : Order) (answer : Answer) (after : TargetState) (command : Command) →
    IsExecuted true t order answer after command → Makes t order.stamp after
executed-makes t order answer after (ModeSense dbd pc page allocation) s = None_more (ap (λ (x : TargetState). x.past) s.same)
executed-makes t order answer after (ModeSelect pf sp list) s = None_more (ap (λ (x : TargetState). x.past) s.same)
executed-makes t order answer after (Read dpo fua lba count) s = acted-makes t order (Read dpo fua lba count) answer after order.stamp refl s
executed-makes t order answer after (Write dpo fua lba count) s = acted-makes t order (Write dpo fua lba count) answer after order.stamp refl s
executed-makes t order answer after (XdWrite dpo fua disable lba count) s = acted-makes t order (XdWrite dpo fua disable lba count) answer after order.stamp
    refl s
executed-makes t order answer after (XpWrite dpo fua lba count) s = acted-makes t order (XpWrite dpo fua lba count) answer after order.stamp refl s
executed-makes t order answer after (XdRead lba count) s = acted-makes t order (XdRead lba count) answer after order.stamp refl s
executed-makes t order answer after (XdWriteRead dpo fua disable lba count) s = acted-makes t order (XdWriteRead dpo fua disable lba count) answer after
    order.stamp refl s
executed-makes t order answer after (XdWriteExtended dpo fua disable lba second count address) s =
    sent-makes t order (XdWriteExtended dpo fua disable lba second count address) second count address answer after s
executed-makes t order answer after (Rebuild dpo fua intdata lba count list) s = gathered-makes t order (Rebuild dpo fua intdata lba count list) answer after s
executed-makes t order answer after (Regenerate dpo fua intdata lba count list) s = gathered-makes t order (Regenerate dpo fua intdata lba count list)
    answer after s

answered-makes : (t : TargetState) (order : Order) (answer : Answer) (after : TargetState) → IsAnswered true t order answer after → Makes t order.stamp after
answered-makes t order answer after (WantsMemory early memory same) = None_more (ap (λ (x : TargetState). x.past) same)
answered-makes t order answer after (Tells early same) = None_more (ap (λ (x : TargetState). x.past) same)
answered-makes t order answer after (Executes early by) = executed-makes t order answer after (command_in order.cdb) by

renewed-makes : (t : TargetState) (call : ℕ) (swap : At) (seen : ℕ) (answer : Answer) (after : TargetState) → IsRenewed true t call swap seen answer after →
    Makes t seen after
renewed-makes t call swap seen answer after (IsRenewed.WantsMemory memory same) = None_more (ap (λ (x : TargetState). x.past) same)
renewed-makes t call swap seen answer after (IsRenewed.Renews fresh says) = One_more (events.Fresh call swap) (ap (λ (x : TargetState). x.past) fresh.grown)
    refl
renewed-makes t call swap seen answer after (IsRenewed.Fails struck says) = absurd (never-struck t seen after struck)

pub act-makes : (s : Setting) (t : TargetState) (act : Act) (journal made : List Entry) (i seen : ℕ) (answer : Acted) (after : TargetState) →
    CanAct s journal made i act → HasActed true t act seen answer after → Makes t seen after
act-makes s t (Run order) journal made i seen (acted.Answer answer) after can does = answered-makes t (record order { stamp = seen }) answer after does.0
act-makes s t (Shut owner opened) journal made i seen (acted.Shut answer) after can does =
    One_more (shut_event t owner opened) (ap (λ (x : TargetState). x.past) does.grown) refl
act-makes s t (Lose call) journal made i seen (acted.Gone answer) after can does =
    One_more (loss_here t call) (ap (λ (x : TargetState). x.past) does.grown) (ne_eqb call 0 can)
act-makes s t (Wipe call) journal made i seen (acted.Made at) after can does = One_more (reset_event t call) (ap (λ (x : TargetState). x.past) does.grown) refl
act-makes s t (DropNext call) journal made i seen (acted.Made at) after can does = One_more (drop_event call) (ap (λ (x : TargetState). x.past) does.grown) refl
act-makes s t (Fresh call swap) journal made i seen (acted.Answer answer) after can does = renewed-makes t call swap seen answer after does.0
act-makes s t _ journal made i seen _ after can does = absurd does

-- ---- in the book

-- the same of the book
pub data MakesIn (book : Ledger) (seen : ℕ) (after : Ledger) : Type 0 where
  None_in : after.past ≡ book.past → MakesIn book seen after
  One_in : (event : Event) → after.past ≡ book_entry (max (newest_stamp book.past) seen + 1) event ∷ book.past → is_failure event ≡ false →
      MakesIn book seen after

past-of : {after before : Ledger} → after ≡ before → after.past ≡ before.past
past-of e = ap (λ (x : Ledger). x.past) e

begun-makes : (book : Ledger) (ask : Ask) (seen : ℕ) (answer : Begun) (after : Ledger) → HasBegun book ask seen after answer → MakesIn book seen after
begun-makes book ask seen (begun.Opened at command task) after h = One_in (events.Open command task) (past-of h.made) refl
begun-makes book ask seen (begun.Again by) after h = None_in (past-of h.1)
begun-makes book ask seen (begun.Refused at why) after h = One_in (events.Refuse ask.call ask.piece why) (past-of h.made) refl
begun-makes book ask seen begun.Memory after h = None_in (past-of h)

note-makes : (book : Ledger) (slot : ℕ) (gone : At) (life seen : ℕ) (answer : Noted) (after : Ledger) → IsNoteAnswer book slot gone life seen after answer →
    MakesIn book seen after
note-makes book slot gone life seen (noted.Made at) after h = One_in (events.Note slot gone) (past-of h.made) refl
note-makes book slot gone life seen noted.Already after h = None_in (past-of h.1)
note-makes book slot gone life seen (noted.Stale swaps) after h = None_in (past-of h.1.1.1)
note-makes book slot gone life seen noted.Memory after h = None_in (past-of h)

swap-makes : (book : Ledger) (slot call seen : ℕ) (answer : Swapped) (after : Ledger) → IsSwapAnswer book slot call seen after answer → MakesIn book seen after
swap-makes book slot call seen (swapped.Made at) after h = One_in (events.Swap slot call) (past-of h.made) refl
swap-makes book slot call seen (swapped.Again by) after h = None_in (past-of h.1)
swap-makes book slot call seen (swapped.Refused at why) after h = One_in _ (past-of h.made) refl
swap-makes book slot call seen swapped.Memory after h = None_in (past-of h)

pub book-makes : (book : Ledger) (act : BookAct) (seen : ℕ) (answer : BookActed) (after : Ledger) → HasBooked book act seen answer after →
    MakesIn book seen after
book-makes book (books.Begin ask) seen (booked.Begun answer) after does = begun-makes book ask seen answer after does.0
book-makes book (books.Close command end) seen (booked.Closed at) after does = One_in _ (past-of does.1.made) refl
book-makes book (books.Spoil command diff loss shut) seen (booked.Spoilt at) after does = One_in _ (past-of does.1.made) refl
book-makes book (books.Note slot gone life) seen (booked.Noted answer) after does = note-makes book slot gone life seen answer after does.0
book-makes book (books.Swap slot call) seen (booked.Swapped answer) after does = swap-makes book slot call seen answer after does.0
book-makes book _ seen _ after does = absurd does
