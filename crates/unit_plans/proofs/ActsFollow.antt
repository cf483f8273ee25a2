-- Whatever is done at a target over a bus makes no entry, or one that may follow the journal.
use Rattle.std.specs.Prelude.{◌≡◌, ◌*◌, ℕ, Bool, true, false, List, [], ◌∷◌, length, Some, None}
use Rattle.std.specs.List.{AllByRecursion}
use Rattle.std.proofs.Common.{refl, ap, sym, ◌∙◌, cond, inl, inr}
use Rattle.std.proofs.lemmas.Bool.{cases_eq, cond-false}
use Rattle.sbc_cdbs.specs.declared.commands.Command.TheVariants as sbc
use Rattle.xor_buffers.specs.declared.held.HeldBlocks.{HeldBlocks}
use Rattle.xor_buffers.specs.Held.{holds_rows, holder_of}
use Rattle.xor_buffers.proofs.HeldLists.{IsBesideTaken, all-owned}
use Rattle.array_journal.specs.declared.act.Act.{Act as Kind}
use Rattle.array_journal.specs.declared.act.Act.TheVariants.{Fetches, Puts, Diffs, Takes, Folds}
use Rattle.array_journal.specs.declared.at.At.{At}
use Rattle.array_journal.specs.declared.entry.Entry.{Entry}
use Rattle.array_journal.specs.declared.setting.Setting.{Setting}
use Rattle.array_journal.specs.declared.task.Task.{Task}
use Rattle.array_journal.specs.Acts.{cdb_of, task_bytes}
use Rattle.array_journal.specs.Commands.{is_open}
use Rattle.array_journal.specs.May.{freshes_after}
use Rattle.array_journal.specs.Media.{held}
use Rattle.array_journal.specs.Run.{Grows, IsSetting}
use Rattle.array_journal.proofs.held.HeldOfOpen.{IsHeld, held-beside}
use Rattle.array_journal.proofs.held.Holding.{holding}
use Rattle.array_journal.proofs.held.ServedActs.{no-other_answer}
use Rattle.array_journal.proofs.runs.CommandLaws.{named-task}
use Rattle.xor_target.specs.declared.answer.Answer.{Answer}
use Rattle.xor_target.specs.declared.order.Order.{Order}
use Rattle.xor_target.specs.Admission.{command_in}
use Rattle.xor_target.specs.Answers.{IsAnswered, WantsMemory, Tells, Executes}
use Rattle.xor_target.specs.Befalls.{IsRenewed}
use Rattle.xor_target.specs.Logs.{last_stamp}
use Rattle.xor_target.specs.State.{TargetState}
use Rattle.xor_target.specs.Table.{early_answer}
use Rattle.xor_target.proofs.CdbRows.{spelt-in}
use Rattle.xor_target.proofs.Possible.{admitted-held}
use Rattle.unit_plans.specs.declared.acts.Act.TheVariants.{Run, Shut, Lose, Wipe, DropNext, Fresh}
use Rattle.unit_plans.specs.declared.acts.Acted.TheVariants as acted
use Rattle.unit_plans.specs.ActLaws.{ActsMayFollow}
use Rattle.unit_plans.specs.Answered.{StaysOrGrows, AskedForAct, CanFollow}
use Rattle.unit_plans.specs.Conditions.{IsSentFor, Fetching, Putting, Diffing, Taking, Folding, CanRenew}
use Rattle.unit_plans.specs.Orders.{AskedOrder, AskedTakeOrder}
use Rattle.unit_plans.specs.Targets.{StandsIn}
use Rattle.unit_plans.proofs.Answered.{answers-follow}
use Rattle.unit_plans.proofs.Befallen.{past-of, shut-follows, loss-follows, reset-follows, drop-follows, fresh-follows, failure-follows}
use Rattle.unit_plans.proofs.Knowing.{targets-know}
use Rattle.unit_plans.proofs.SentCommands.{alone-gathers, sent-alone}

-- an act that is asked of a command that is open is due, so no disk came that is too new for it
asked-life : (s : Setting) (i : ℕ) (order : Order) (sources : ℕ) (task : Task) (kind : Kind) (journal : List Entry) → IsSetting s → Grows s journal →
    is_open order.owner journal ≡ true → AskedOrder s journal i order sources task kind → freshes_after i order.opened journal ≡ false
asked-life s i order sources task kind journal set g open_still a =
    (no-other_answer s i order.owner order.opened task kind journal set g (record {
      in_book = a.in_book;
      opening = a.opening;
      open_still = open_still;
      of_task = a.of_task;
      once = a.once;
    })).same_life

sent-life : (s : Setting) (i : ℕ) (order : Order) (journal : List Entry) → IsSetting s → Grows s journal → is_open order.owner journal ≡ true →
    IsSentFor s journal i order → freshes_after i order.opened journal ≡ false
sent-life s i order journal set g open_still (Fetching task a brings) = asked-life s i order 0 task Fetches journal set g open_still a
sent-life s i order journal set g open_still (Putting task a own) = asked-life s i order (length order.names) task Puts journal set g open_still a.act
sent-life s i order journal set g open_still (Diffing task a stays) = asked-life s i order 0 task Diffs journal set g open_still a.act
sent-life s i order journal set g open_still (Taking task a brings) = asked-life s i order 0 task Takes journal set g open_still a
sent-life s i order journal set g open_still (Folding task name a) = asked-life s i order 0 task Folds journal set g open_still a.act

-- where all held blocks but a command's lie beside some rows, whoever holds these is the command
only-own : (block c row len : ℕ) (hs : List HeldBlocks) → AllByRecursion (IsBesideTaken c block row len) hs → (holder_of block row len hs ≡ None → ⊥) →
    holder_of block row len hs ≡ Some c
only-own block c row len [] beside some = absurd (some refl)
only-own block c row len (h ∷ hs) beside some = elim (cases_eq h.owner c) [
  | inl own ↦ choose own (holds_rows block row len h) some (only-own block c row len hs beside.1)
  | inr other ↦
      let skip : holder_of block row len (h ∷ hs) ≡ holder_of block row len hs =
      cond-false (holds_rows block row len h) (Some h.owner) (holder_of block row len hs) (beside.0.others other) in
      skip ∙ only-own block c row len hs beside.1 (λ none. some (skip ∙ none))
]
  where
    choose : h.owner ≡ c → (holds : Bool) → (cond holds (Some h.owner) (holder_of block row len hs) ≡ None → ⊥) →
        ((holder_of block row len hs ≡ None → ⊥) → holder_of block row len hs ≡ Some c) → cond holds (Some h.owner) (holder_of block row len hs) ≡ Some c
    choose own true some rest = ap Some own
    choose own false some rest = rest some

-- A take that the target doesn't refuse finds rows that are held; and what others hold lies beside them.
taken-own : (s : Setting) (t : TargetState) (order : Order) (task : Task) (journal : List Entry) → IsSetting s → Grows s journal → StandsIn s t journal →
    is_open order.owner journal ≡ true → AskedOrder s journal t.number order 0 task Takes → early_answer t order ≡ None →
    AskedTakeOrder s journal t.number order task
taken-own s t order task journal set g stands open_still a early = record {
  act = a;
  own = only-own s.geometry.block order.owner task.row (task_bytes s task) (held s t.number journal)
      (all-owned (IsHeld s t.number journal) (IsBesideTaken order.owner s.geometry.block task.row (task_bytes s task)) (held s t.number journal)
      (λ h owned p. held-beside s t.number order.owner journal task task.row (task_bytes s task) h set.array.least_block g open_still
      (named-task s order.opened order.owner task journal g a.in_book a.opening) a.of_task refl refl owned p)
      (holding s t.number journal set.array.least_block g).each)
      found;
}
  where
    by_journal : holder_of t.block task.row (task.count * t.block) t.held ≡ holder_of s.geometry.block task.row (task_bytes s task) (held s t.number journal)
    by_journal = ap (λ n. holder_of n task.row (task.count * n) t.held) stands.of_array.block
        ∙ ap (holder_of s.geometry.block task.row (task_bytes s task)) (sym (targets-know s t journal stands).blocks)

    found : holder_of s.geometry.block task.row (task_bytes s task) (held s t.number journal) ≡ None → ⊥
    found none =
        admitted-held t order (sbc.XdRead task.row task.count) early (sym (spelt-in order.cdb (cdb_of s task 0 Takes) a.spelt)) refl (by_journal ∙ none)

sent-asked : (s : Setting) (t : TargetState) (order : Order) (journal : List Entry) → IsSetting s → Grows s journal → StandsIn s t journal →
    is_open order.owner journal ≡ true → early_answer t order ≡ None → IsSentFor s journal t.number order → AskedForAct s journal t.number order
sent-asked s t order journal set g stands open_still early (Fetching task a brings) = AskedForAct.Fetching task a
sent-asked s t order journal set g stands open_still early (Putting task a own) = AskedForAct.Putting task a
sent-asked s t order journal set g stands open_still early (Diffing task a stays) = AskedForAct.Diffing task a
sent-asked s t order journal set g stands open_still early (Taking task a brings) =
    AskedForAct.Taking task (taken-own s t order task journal set g stands open_still a early)
sent-asked s t order journal set g stands open_still early (Folding task name a) = AskedForAct.Folding task name a

run-follows : (s : Setting) (never_fails : Bool) (t after : TargetState) (order : Order) (answer : Answer) (journal : List Entry) → IsSetting s →
    Grows s journal →
    StandsIn s t journal → is_open order.owner journal ≡ true → IsSentFor s journal t.number order → IsAnswered never_fails t order answer after →
    StaysOrGrows s journal t after
run-follows s never_fails t after order answer journal set g stands open_still sent (WantsMemory early says same) = inl (past-of same)
run-follows s never_fails t after order answer journal set g stands open_still sent (Tells early same) = inl (past-of same)
run-follows s never_fails t after order answer journal set g stands open_still sent (Executes early x) =
    answers-follow s never_fails t after order answer journal stands (record {
      brings = λ alone. can;
      alone = λ gathers first of_order none. absurd (alone-gathers (command_in order.cdb) (sent-alone s journal t.number order sent) gathers);
    }) (Executes early x)
  where
    can : CanFollow s t order journal
    can = record {
      same_life = sent-life s t.number order journal set g open_still sent;
      asked = sent-asked s t order journal set g stands open_still early sent;
    }

renewed-follows : (s : Setting) (never_fails : Bool) (t after : TargetState) (call : ℕ) (swap : At) (answer : Answer) (journal made : List Entry) →
    StandsIn s t journal →
    CanRenew journal made t.number call swap → IsRenewed never_fails t call swap (last_stamp journal) answer after → StaysOrGrows s journal t after
renewed-follows s never_fails t after call swap answer journal made stands can (IsRenewed.WantsMemory says same) = inl (past-of same)
renewed-follows s never_fails t after call swap answer journal made stands can (IsRenewed.Renews fresh says) =
    inr (fresh-follows s t after call swap (last_stamp journal) journal stands can.asked (can.next ∙ (targets-know s t journal stands).life) can.seen fresh)
renewed-follows s never_fails t after call swap answer journal made stands can (IsRenewed.Fails struck says) =
    inr (failure-follows s never_fails t after (last_stamp journal) journal stands struck)

pub acts-follow : ActsMayFollow
acts-follow b never_fails t after (Run order) (acted.Answer answer) journal made set g on can x =
    run-follows b.array never_fails t after (record order { stamp = last_stamp journal }) answer journal set g on.stands can.0.open_still can.1 x.0
acts-follow b never_fails t after (Shut owner opened) (acted.Shut answer) journal made set g on can x =
    inr (shut-follows b.array t after owner opened (last_stamp journal) answer can.task journal on.stands can.asked can.seen x)
acts-follow b never_fails t after (Lose call) (acted.Gone answer) journal made set g on can x =
    inr (loss-follows b.array t after call (last_stamp journal) answer journal on.stands x)
acts-follow b never_fails t after (Wipe call) (acted.Made at) journal made set g on can x =
    inr (reset-follows b.array t after call (last_stamp journal) at journal on.stands x)
acts-follow b never_fails t after (DropNext call) (acted.Made at) journal made set g on can x =
    inr (drop-follows b.array t after call (last_stamp journal) at journal on.stands x)
acts-follow b never_fails t after (Fresh call swap) (acted.Answer answer) journal made set g on can x =
    renewed-follows b.array never_fails t after call swap answer journal made on.stands can x.0
acts-follow b never_fails t after _ _ journal made set g on can x = absurd x
