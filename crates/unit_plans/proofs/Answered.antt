-- Whatever a target answers to an order, it has no entry more or one that may follow the journal.
use Rattle.std.specs.Prelude.{◌≡◌, ℕ, Bool, false, List, [], ◌∷◌, Option, Some, None, is_some, option_map}
use Rattle.std.proofs.Common.{refl, ap, sym, ◌∙◌, subst, inl, inr}
use Rattle.sbc_cdbs.specs.declared.commands.Command.{Command}
use Rattle.sbc_cdbs.specs.declared.commands.Command.TheVariants as sbc
use Rattle.array_journal.specs.declared.at.At.{At}
use Rattle.array_journal.specs.declared.entry.Entry.{Entry}
use Rattle.array_journal.specs.declared.setting.Setting.{Setting}
use Rattle.array_journal.specs.Lives.{loss_of, is_gone}
use Rattle.xor_target.specs.declared.answer.Answer.{Answer}
use Rattle.xor_target.specs.declared.order.Order.{Order}
use Rattle.xor_target.specs.Admission.{command_in}
use Rattle.xor_target.specs.Answers.{IsDone, IsActed, Does, Fails, IsSent, Sends, Drops, Loses, IsGathered, Alone, Begins, IsExecuted, WantsMemory, Tells, Executes}
use Rattle.xor_target.specs.Gathers.{IsFirst, IsGatherer, done_order}
use Rattle.xor_target.specs.State.{TargetState}
use Rattle.xor_target.specs.Table.{first_answer, early_answer, refused_row, shut_row, gone_row}
use Rattle.unit_plans.specs.Targets.{StandsIn, GrowsBy}
use Rattle.unit_plans.specs.Orders.{Serves}
use Rattle.unit_plans.specs.Followers.{IsOrderDone}
use Rattle.unit_plans.specs.Answered.{StaysOrGrows, AskedForAct, Fetching, Putting, Diffing, Taking, Folding, Holding, CanFollow, AnswersMayFollow}
use Rattle.unit_plans.proofs.Befallen.{failure-follows, past-of}
use Rattle.unit_plans.proofs.Moved.{fetch-follows, put-follows, fold-follows}
use Rattle.unit_plans.proofs.Deltas.{diff-follows, take-follows, hold-follows}

-- an act that is done, whichever it is
by-act : (s : Setting) (t after : TargetState) (order : Order) (journal : List Entry) → Serves s t order journal → AskedForAct s journal t.number order →
    IsOrderDone t order after → GrowsBy s journal t after
by-act s t after order journal h (Fetching task a) done = fetch-follows s t after order task journal h a done
by-act s t after order journal h (Putting task a) done = put-follows s t after order task journal h a done
by-act s t after order journal h (Diffing task a) done = diff-follows s t after order task journal h a done
by-act s t after order journal h (Taking task a) done = take-follows s t after order task journal h a done
by-act s t after order journal h (Folding task name a) done = fold-follows s t after order task name journal h a done
by-act s t after order journal h (Holding task a) done = hold-follows s t after order task journal h a done

-- the order's command is done
done-follows : (s : Setting) (t after : TargetState) (order : Order) (command : Command) (bytes : List ℕ) (journal : List Entry) → StandsIn s t journal →
    is_gone t.number t.past ≡ false → CanFollow s t order journal → command ≡ command_in order.cdb → IsDone t order command bytes after → GrowsBy s journal t after
done-follows s t after order command bytes journal h works can q d =
    by-act s t after order journal (record { stands = h; works = works; same_life = can.same_life }) can.asked
    (bytes, subst (λ (c : Command). IsDone t order c bytes after) q d)

-- or the medium failed
pub acted-follows : (s : Setting) (never_fails : Bool) (t after : TargetState) (order : Order) (command : Command) (answer : Answer) (journal : List Entry) → StandsIn s t journal →
    is_gone t.number t.past ≡ false → CanFollow s t order journal → command ≡ command_in order.cdb → IsActed never_fails t order command answer after →
    GrowsBy s journal t after
acted-follows s never_fails t after order command answer journal h works can q (Does bytes d says) = done-follows s t after order command bytes journal h works can q d
acted-follows s never_fails t after order command answer journal h works can q (Fails struck says) = failure-follows s never_fails t after order.stamp journal h struck

-- where no row of a table answers, none of its rows does
first-none : (o : Option Answer) (rows : List (Option Answer)) → first_answer (o ∷ rows) ≡ None → (o ≡ None) × (first_answer rows ≡ None)
first-none None rows h = (refl, h)
first-none (Some answer) rows h = absurd cc

-- and then the disk works
pub no-loss : (loss : Option At) (said : At → Answer) → option_map said loss ≡ None → is_some loss ≡ false
no-loss None said h = refl
no-loss (Some at) said h = absurd cc

early-works : (t : TargetState) (order : Order) → early_answer t order ≡ None → is_gone t.number t.past ≡ false
early-works t order h =
    let refused = first-none (refused_row t order) _ h in
    let shut = first-none (shut_row t order.owner) _ refused.1 in
    let gone = first-none (gone_row t order.owner) _ shut.1 in
    no-loss (loss_of t.number t.past) _ gone.0

sent-follows : (s : Setting) (never_fails : Bool) (t after : TargetState) (order : Order) (command : Command) (second count address : ℕ) (answer : Answer) (journal : List Entry) →
    StandsIn s t journal → is_gone t.number t.past ≡ false → CanFollow s t order journal → command ≡ command_in order.cdb →
    IsSent never_fails t order command second count address answer after → GrowsBy s journal t after
sent-follows s never_fails t after order command second count address answer journal h works can q (Sends delta done drops d same says) =
    let g = done-follows s t done order command delta journal h works can q d in
    record { entry = g.entry; grown = past-of same ∙ g.grown; at_lock = g.at_lock; may = g.may }
sent-follows s never_fails t after order command second count address answer journal h works can q (Drops delta drops d says) =
    done-follows s t after order command delta journal h works can q d
sent-follows s never_fails t after order command second count address answer journal h works can q (Loses struck says) =
    failure-follows s never_fails t after order.stamp journal h struck

pub answers-follow : AnswersMayFollow
answers-follow s never_fails t after order answer journal h asked (WantsMemory early says same) = inl (past-of same)
answers-follow s never_fails t after order answer journal h asked (Tells early same) = inl (past-of same)
answers-follow s never_fails t after order answer journal h asked (Executes early x) = executed (command_in order.cdb) refl x
  where
    works : is_gone t.number t.past ≡ false
    works = early-works t order early

    acted : (command : Command) → command_in order.cdb ≡ command → (IsGatherer command → ⊥) → IsActed never_fails t order command answer after → StaysOrGrows s journal t after
    acted command q brings x =
        inr (acted-follows s never_fails t after order command answer journal h works (asked.brings (λ g. brings (subst IsGatherer q g))) (sym q) x)

    gathered : (command : Command) → command_in order.cdb ≡ command → IsGatherer command → IsGathered never_fails t order command answer after → StaysOrGrows s journal t after
    gathered command q gathers (Begins g source first some says same) = inl (past-of same)
    gathered command q gathers (Alone g first none x) =
        let own : g.order.cdb ≡ order.cdb = ap (λ (o : Order). o.cdb) first.of_order in
        inr (acted-follows s never_fails t after (done_order g [] [] order.stamp) command answer journal h works
        (asked.alone (subst IsGatherer (sym q) gathers) g (subst (λ (c : Command). IsFirst t.block order c g) (sym q) first) none) (sym q ∙ ap command_in (sym own)) x)

    executed : (command : Command) → command_in order.cdb ≡ command → IsExecuted never_fails t order answer after command → StaysOrGrows s journal t after
    executed (sbc.ModeSense dbd pc page allocation) q x = inl (past-of x.same)
    executed (sbc.ModeSelect pf sp list) q x = inl (past-of x.same)
    executed (sbc.XdWriteExtended dpo fua disable lba second count address) q x =
        inr (sent-follows s never_fails t after order (sbc.XdWriteExtended dpo fua disable lba second count address) second count address answer journal h works
        (asked.brings (λ g. subst IsGatherer q g)) (sym q) x)
    executed (sbc.Rebuild dpo fua intdata lba count list) q x = gathered (sbc.Rebuild dpo fua intdata lba count list) q tt x
    executed (sbc.Regenerate dpo fua intdata lba count list) q x = gathered (sbc.Regenerate dpo fua intdata lba count list) q tt x
    executed (sbc.Read dpo fua lba count) q x = acted (sbc.Read dpo fua lba count) q (λ g. g) x
    executed (sbc.Write dpo fua lba count) q x = acted (sbc.Write dpo fua lba count) q (λ g. g) x
    executed (sbc.XdWrite dpo fua disable lba count) q x = acted (sbc.XdWrite dpo fua disable lba count) q (λ g. g) x
    executed (sbc.XpWrite dpo fua lba count) q x = acted (sbc.XpWrite dpo fua lba count) q (λ g. g) x
    executed (sbc.XdRead lba count) q x = acted (sbc.XdRead lba count) q (λ g. g) x
    executed (sbc.XdWriteRead dpo fua disable lba count) q x = acted (sbc.XdWriteRead dpo fua disable lba count) q (λ g. g) x
