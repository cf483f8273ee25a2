-- An order for an act that is due is served: no row of the table answers it, so its command is done.
use Rattle.std.specs.Prelude.{◌≡◌, ◌≢◌, ◌&&◌, ◌+◌, ◌*◌, ◌/◌, ◌<◌, ◌≤◌, ◌^◌, not, ℕ, true, false, List, [], ◌∷◌, length, Option, Some, None, is_some}
use Rattle.std.specs.List.{AllByRecursion}
use Rattle.std.proofs.Common.{refl, ap, sym, ◌∙◌, subst, arith, cond}
use Rattle.std.proofs.lemmas.Bool.{both_ways, false≢true}
use Rattle.std.proofs.lemmas.Option.{none-some}
use Rattle.blocks_core.specs.Xor.{xor}
use Rattle.sbc_cdbs.specs.declared.commands.Command.{Command}
use Rattle.sbc_cdbs.specs.declared.commands.Command.TheVariants as sbc
use Rattle.sbc_cdbs.specs.Cdbs.{SpellsCdb}
use Rattle.sbc_cdbs.specs.Kinds.{block_count, is_kept}
use Rattle.stripe_layout.specs.declared.mode.Mode.{Mode}
use Rattle.stripe_layout.specs.declared.mode.Mode.TheVariants.{Supervised, ThirdParty, Readback}
use Rattle.stripe_layout.specs.Modes.{takes_delta, sends_delta, hands_delta_back, target_gathers}
use Rattle.xor_buffers.specs.declared.held.HeldBlocks.{HeldBlocks}
use Rattle.xor_buffers.specs.Held.{overlap_of, holder_of, held_blocks, rows_held}
use Rattle.array_journal.specs.declared.act.Act.{Act as Kind}
use Rattle.array_journal.specs.declared.act.Act.TheVariants.{Fetches, Puts, Diffs, Takes, Folds}
use Rattle.array_journal.specs.declared.at.At.{At}
use Rattle.array_journal.specs.declared.entry.Entry.{Entry}
use Rattle.array_journal.specs.declared.event.Event.TheVariants as events
use Rattle.array_journal.specs.declared.setting.Setting.{Setting}
use Rattle.array_journal.specs.declared.task.Task.{Task}
use Rattle.array_journal.specs.Acts.{diff_command, task_bytes, is_data_only, is_degraded_write, list_length, shuts_command}
use Rattle.array_journal.specs.Entries.{some_at}
use Rattle.array_journal.specs.Lives.{is_gone, loss_of}
use Rattle.array_journal.specs.May.{IsTask}
use Rattle.array_journal.specs.Media.{held, rows_on}
use Rattle.array_journal.specs.Run.{Grows, IsSetting}
use Rattle.array_journal.specs.Served.{IsDue, CanBeMade, fills_buffer}
use Rattle.array_journal.proofs.held.HeldOfOpen.{IsHeld}
use Rattle.array_journal.proofs.held.Holding.{holding}
use Rattle.array_journal.proofs.held.ServedActs.{no-other_answer}
use Rattle.array_journal.proofs.lives.DoneRebuilds.{task-sound}
use Rattle.array_journal.proofs.runs.CommandLaws.{named-task}
use Rattle.array_journal.proofs.runs.LaneLaws.{some_at-lane}
use Rattle.array_journal.proofs.sums.CoveredRows.{blocks_in}
use Rattle.xor_buffers.proofs.HeldLists.{all-owned}
use Rattle.xor_target.specs.declared.answer.Answer.{Answer}
use Rattle.xor_target.specs.declared.answer.Answer.TheVariants.{Good, Memory}
use Rattle.xor_target.specs.declared.order.Order.{Order}
use Rattle.xor_target.specs.Admission.{row_of, maximum_of, is_over, data_due}
use Rattle.xor_target.specs.Answers.{IsDone, IsActed, Does, Fails, IsExecuted, IsAnswered, WantsMemory, Tells, Executes, next_name, next_entry}
use Rattle.xor_target.specs.Effects.{Effect, read_effect, write_effect, xdwrite_effect, xdwriteread_effect, xpwrite_effect, xdread_effect, bytes_taken}
use Rattle.xor_target.specs.State.{TargetState, limits_of}
use Rattle.xor_target.specs.Table.{is_take, early_answer}
use Rattle.xor_target.proofs.CdbRows.{spelt-in}
use Rattle.unit_plans.specs.Buses.{BusSetting, StandsOn}
use Rattle.unit_plans.specs.Conditions.{IsSentFor}
use Rattle.unit_plans.specs.Orders.{AskedOrder, Serves}
use Rattle.unit_plans.specs.ServedOrders.{act_event, IsAnswerOf, IsServed, HoldsWhatIsTaken, FitsMaximum, OrdersAreServed}
use Rattle.unit_plans.proofs.Knowing.{targets-know}
use Rattle.unit_plans.proofs.Moved.{old-rows, done-past, some-same}
use Rattle.unit_plans.proofs.OwnRows.{own-rows_first}
use Rattle.unit_plans.proofs.Unanswered.{IsPlain, IsFree, unanswered, not-over, no-newest, none-overlapped}

-- ---- nothing stands in the way

-- an order for an act that is due, at a target whose disk works
record IsDueAt (b : BusSetting) (t : TargetState) (order : Order) (past : List Entry) (sources : ℕ) (task : Task) (act : Kind) : Type 0 where
  set : IsSetting b.array
  grows : Grows b.array past
  stands : StandsOn b t past
  asked : AskedOrder b.array past t.number order sources task act
  due : IsDue b.array past t.number order.owner order.opened task act
  works : is_gone t.number t.past ≡ false

-- what the act's command says of itself, as it is spelt
record IsOf (b : BusSetting) (t : TargetState) (order : Order) (past : List Entry) (task : Task) (act : Kind) (command : Command) : Type 0 where
  spelt : SpellsCdb order.cdb command
  fits : task.count < 2 ^ 16
  plain : IsPlain (limits_of t) command order.bytes
  at_row : row_of command ≡ task.row
  counted : block_count command ≡ Some task.count
  below : is_over (maximum_of t.page command) task.count ≡ false
  whole : length order.bytes ≡ data_due t.block command
  fills : is_kept command ≡ true → fills_buffer b.array.mode act ≡ true
  takes : is_take command ≡ true →
      (bytes : List ℕ) × (rows_held b.array.geometry.block order.owner task.row (task_bytes b.array task) (held b.array t.number past) ≡ Some bytes)

-- each held block is some rows of a task
held-some : (s : Setting) (i : ℕ) (past : List Entry) → IsSetting s → Grows s past →
    AllByRecursion (λ (h : HeldBlocks). 1 ≤ length h.bytes / s.geometry.block) (held s i past)
held-some s i past set g =
    all-owned (IsHeld s i past) (λ (h : HeldBlocks). 1 ≤ length h.bytes / s.geometry.block) (held s i past) (λ h owned p. one h p)
    (holding s i past set.array.least_block g).each
  where
    one : (h : HeldBlocks) → IsHeld s i past h → 1 ≤ length h.bytes / s.geometry.block
    one h p =
        let sound : IsTask s p.task = task-sound s h.owner p.task past g (named-task s p.opened h.owner p.task past g p.in_book p.opening) in
        let some : 1 ≤ p.task.count = sound.some_rows in
        let size : length h.bytes / s.geometry.block ≡ p.task.count = blocks_in s.geometry.block p.task.count (length h.bytes) set.array.least_block p.whole in
        omega (arith, some, size)

lost-none : (o : Option At) → is_some o ≡ false → o ≡ None
lost-none None h = refl
lost-none (Some at) h = absurd (both_ways true h refl)

free : (b : BusSetting) (t : TargetState) (order : Order) (past : List Entry) (sources : ℕ) (task : Task) (act : Kind) (command : Command) →
    IsDueAt b t order past sources task act → IsOf b t order past task act command → IsFree t order command task.row task.count
free b t order past sources task act command d c = record {
  spelt = c.spelt;
  xor_on = d.stands.page.xor_on;
  plain = c.plain;
  at_row = c.at_row;
  counted = c.counted;
  some = sound.some_rows;
  fits = c.fits;
  below = c.below;
  in_range = (let within = can.in_range in let rows = d.stands.stands.of_array.rows in omega (arith, within, rows));
  whole = c.whole;
  not_shut = no-newest (t.number + 1) (shuts_command order.owner) t.past
      (ap (some_at (t.number + 1) (shuts_command order.owner)) (sym d.stands.stands.entries)
      ∙ sym (some_at-lane (t.number + 1) (shuts_command order.owner) past) ∙ d.asked.not_shut);
  works = lost-none (loss_of t.number t.past) d.works;
  nothing_waits = d.stands.nothing_waits;
  unheld = λ kept. ap (λ n. overlap_of n task.row task.count t.held) block ∙ ap (overlap_of s.geometry.block task.row task.count) (sym blocks)
      ∙ none-overlapped s.geometry.block task.row task.count (task_bytes s task) (held s t.number past) sound.some_rows
      (blocks_in s.geometry.block task.count (task_bytes s task) d.set.array.least_block refl) (can.unheld (c.fills kept))
      (held-some s t.number past d.set d.grows);
  room = λ kept. room-here kept;
  holds = λ takes. (
    order.owner,
    ap (λ n. holder_of n task.row (task.count * n) t.held) block ∙ ap (holder_of s.geometry.block task.row (task_bytes s task)) (sym blocks)
        ∙ own-rows_first s t.number order.owner task.row task.count (c.takes takes).0 past d.set sound.some_rows d.grows (c.takes takes).1,
  );
}
  where
    s : Setting
    s = b.array

    can : CanBeMade b.array past t.number order.opened task act
    can = no-other_answer b.array t.number order.owner order.opened task act past d.set d.grows d.due

    sound : IsTask b.array task
    sound = task-sound b.array order.owner task past d.grows (named-task b.array order.opened order.owner task past d.grows d.due.in_book d.due.opening)

    block : t.block ≡ b.array.geometry.block
    block = d.stands.stands.of_array.block

    blocks : held b.array t.number past ≡ t.held
    blocks = (targets-know b.array t past d.stands.stands).blocks

    room-here : is_kept command ≡ true → held_blocks t.block t.held + task.count ≤ t.buffer
    room-here kept =
        let room = can.room (c.fills kept) in
        let size = d.stands.stands.of_array.buffer in
        let same : held_blocks t.block t.held ≡ held_blocks b.array.geometry.block (held b.array t.number past) =
        ap (λ n. held_blocks n t.held) block ∙ ap (held_blocks b.array.geometry.block) (sym blocks) in
        omega (arith, room, size, same)

serves : (b : BusSetting) (t : TargetState) (order : Order) (past : List Entry) (sources : ℕ) (task : Task) (act : Kind) →
    IsDueAt b t order past sources task act → Serves b.array t order past
serves b t order past sources task act d = record {
  stands = d.stands.stands;
  works = d.works;
  same_life = (no-other_answer b.array t.number order.owner order.opened task act past d.set d.grows d.due).same_life;
}

-- ---- so the command is done

-- a command of blocks that is done, and what is answered
abbrev IsDoneAs : TargetState → Order → Command → Answer → TargetState → Type 0
IsDoneAs t order command answer after = (bytes : List ℕ) × (IsDone t order command bytes after × (answer ≡ Good bytes (next_name t order.stamp ∷ [])))

acted-done : (t after : TargetState) (order : Order) (command : Command) (answer : Answer) → IsActed true t order command answer after →
    IsDoneAs t order command answer after
acted-done t after order command answer (Does bytes d says) = (bytes, (d, says))
acted-done t after order command answer (Fails struck says) = absurd (both_ways true struck.failed.may_fail refl)

executed : (t after : TargetState) (order : Order) (answer : Answer) (command : Command) → early_answer t order ≡ None → answer ≢ Memory →
    SpellsCdb order.cdb command → IsAnswered true t order answer after → IsExecuted true t order answer after command
executed t after order answer command none kept spelt (WantsMemory early says same) = absurd (kept says)
executed t after order answer command none kept spelt (Tells early same) = absurd (none-some answer (sym none ∙ early))
executed t after order answer command none kept spelt (Executes early x) =
    subst (λ (c : Command). IsExecuted true t order answer after c) (spelt-in order.cdb command spelt) x

-- so an act that is due is done as its command
due-done : (b : BusSetting) (t after : TargetState) (order : Order) (answer : Answer) (past : List Entry) (sources : ℕ) (task : Task) (act : Kind)
    (command : Command) → IsDueAt b t order past sources task act → IsOf b t order past task act command →
    (IsExecuted true t order answer after command → IsActed true t order command answer after) → answer ≢ Memory → IsAnswered true t order answer after →
    IsDoneAs t order command answer after
due-done b t after order answer past sources task act command d its moves kept x =
    acted-done t after order command answer
    (moves (executed t after order answer command none kept its.spelt x))
  where
    none : early_answer t order ≡ None
    none = unanswered t order command task.row task.count (free b t order past sources task act command d its)

-- the act's entry is that of the command's effect
served : (s : Setting) (t after : TargetState) (order : Order) (kind : Kind) (task : Task) (answer : Answer) (past : List Entry) (command : Command)
    (bytes : List ℕ) (effect : Effect) (d : IsDone t order command bytes after) → answer ≡ Good bytes (next_name t order.stamp ∷ []) → effect ≡ d.effect →
    effect.event ≡ act_event s.mode kind order d.cdb task.row bytes → IsAnswerOf s t.number kind task order.bytes bytes past →
    IsServed s t order kind task answer after past
served s t after order kind task answer past command bytes effect d says same event read = record {
  cdb = d.cdb;
  bytes = bytes;
  sent = d.sent;
  says = says;
  grown = done-past t after order command bytes effect d same ∙ ap (λ e. next_entry t order.stamp e ∷ t.past) event;
  read = read;
}

-- ---- each command

abbrev ServesAct : BusSetting → TargetState → TargetState → Order → Answer → List Entry → ℕ → Task → Kind → Type 0
ServesAct b t after order answer past sources task act =
    IsDueAt b t order past sources task act → HoldsWhatIsTaken b.array t.number act order task past → FitsMaximum b act task →
    IsAnswered true t order answer after → answer ≢ Memory → IsServed b.array t order act task answer after past

-- data that are a task's blocks are as many bytes as its command brings
data-whole : (b : BusSetting) (t : TargetState) (past : List Entry) (task : Task) (bytes : List ℕ) → StandsOn b t past →
    length bytes ≡ task_bytes b.array task → length bytes ≡ task.count * t.block
data-whole b t past task bytes on whole = whole ∙ ap (λ n. task.count * n) (sym on.stands.of_array.block)

read-served : (b : BusSetting) (t after : TargetState) (order : Order) (answer : Answer) (past : List Entry) (task : Task) → order.bytes ≡ [] →
    ServesAct b t after order answer past 0 task Fetches
read-served b t after order answer past task brings d holds max x kept =
    done (due-done b t after order answer past 0 task Fetches (sbc.Read false false task.row task.count) d its (λ y. y) kept x)
  where
    its : IsOf b t order past task Fetches (sbc.Read false false task.row task.count)
    its = record {
      spelt = d.asked.spelt;
      fits = d.asked.spelt.1.1;
      plain = record { second = refl; selects = refl; saved = refl; shown = refl; list = refl };
      at_row = refl;
      counted = refl;
      below = refl;
      whole = ap length brings;
      fills = λ e. absurd (false≢true e);
      takes = λ e. absurd (false≢true e);
    }

    done : IsDoneAs t order (sbc.Read false false task.row task.count) answer after → IsServed b.array t order Fetches task answer after past
    done (bytes, (h, says)) =
        let effect : read_effect order h.cdb t.held h.old task.row ≡ h.effect = some-same h.does in
        let read : h.old ≡ bytes = ap (λ (e : Effect). e.answer) effect ∙ sym h.answers in
        served b.array t after order Fetches task answer past (sbc.Read false false task.row task.count) bytes
        (read_effect order h.cdb t.held h.old task.row) h says effect (ap (events.Fetch order.owner order.opened h.cdb task.row) read)
        (sym read ∙ old-rows b.array t order h.old task.row task.count past (serves b t order past 0 task Fetches d) h.stood)

write-served : (b : BusSetting) (t after : TargetState) (order : Order) (answer : Answer) (past : List Entry) (task : Task) →
    length order.bytes ≡ task_bytes b.array task → (target_gathers b.array.mode && not (is_data_only task.kind)) ≡ false →
    ServesAct b t after order answer past (length order.names) task Puts
write-served b t after order answer past task whole own d holds max x kept =
    done (due-done b t after order answer past (length order.names) task Puts (sbc.Write false false task.row task.count) d its (λ y. y) kept x)
  where
    spelt : SpellsCdb order.cdb (sbc.Write false false task.row task.count)
    spelt =
        subst (SpellsCdb order.cdb)
        (ap (λ c. cond c (sbc.Rebuild false false (is_degraded_write task.kind) task.row task.count (list_length b.array task (length order.names)))
        (sbc.Write false false task.row task.count)) own) d.asked.spelt

    its : IsOf b t order past task Puts (sbc.Write false false task.row task.count)
    its = record {
      spelt = spelt;
      fits = spelt.1.1;
      plain = record { second = refl; selects = refl; saved = refl; shown = refl; list = refl };
      at_row = refl;
      counted = refl;
      below = refl;
      whole = data-whole b t past task order.bytes d.stands whole;
      fills = λ e. absurd (false≢true e);
      takes = λ e. absurd (false≢true e);
    }

    done : IsDoneAs t order (sbc.Write false false task.row task.count) answer after → IsServed b.array t order Puts task answer after past
    done (bytes, (h, says)) =
        let effect : write_effect order h.cdb t.held task.row ≡ h.effect = some-same h.does in
        served b.array t after order Puts task answer past (sbc.Write false false task.row task.count) bytes
        (write_effect order h.cdb t.held task.row) h says effect refl (h.answers ∙ sym (ap (λ (e : Effect). e.answer) effect))

xpwrite-served : (b : BusSetting) (t after : TargetState) (order : Order) (answer : Answer) (past : List Entry) (task : Task) →
    length order.bytes ≡ task_bytes b.array task → ServesAct b t after order answer past 0 task Folds
xpwrite-served b t after order answer past task whole d holds max x kept =
    done (due-done b t after order answer past 0 task Folds (sbc.XpWrite false false task.row task.count) d its (λ y. y) kept x)
  where
    its : IsOf b t order past task Folds (sbc.XpWrite false false task.row task.count)
    its = record {
      spelt = d.asked.spelt;
      fits = d.asked.spelt.1.1;
      plain = record { second = refl; selects = refl; saved = refl; shown = refl; list = refl };
      at_row = refl;
      counted = refl;
      below = ap (λ n. is_over n task.count) d.stands.page.write ∙ not-over b.max_write task.count max;
      whole = data-whole b t past task order.bytes d.stands whole;
      fills = λ e. absurd (false≢true e);
      takes = λ e. absurd (false≢true e);
    }

    done : IsDoneAs t order (sbc.XpWrite false false task.row task.count) answer after → IsServed b.array t order Folds task answer after past
    done (bytes, (h, says)) =
        let effect : xpwrite_effect order h.cdb t.held h.old task.row ≡ h.effect = some-same h.does in
        served b.array t after order Folds task answer past (sbc.XpWrite false false task.row task.count) bytes
        (xpwrite_effect order h.cdb t.held h.old task.row) h says effect refl (h.answers ∙ sym (ap (λ (e : Effect). e.answer) effect))

xdread-served : (b : BusSetting) (t after : TargetState) (order : Order) (answer : Answer) (past : List Entry) (task : Task) → order.bytes ≡ [] →
    ServesAct b t after order answer past 0 task Takes
xdread-served b t after order answer past task brings d holds max x kept =
    done (due-done b t after order answer past 0 task Takes (sbc.XdRead task.row task.count) d its (λ y. y) kept x)
  where
    its : IsOf b t order past task Takes (sbc.XdRead task.row task.count)
    its = record {
      spelt = d.asked.spelt;
      fits = d.asked.spelt.1.1;
      plain = record { second = refl; selects = refl; saved = refl; shown = refl; list = refl };
      at_row = refl;
      counted = refl;
      below = refl;
      whole = ap length brings;
      fills = λ e. absurd (false≢true e);
      takes = λ e. holds;
    }

    done : IsDoneAs t order (sbc.XdRead task.row task.count) answer after → IsServed b.array t order Takes task answer after past
    done (bytes, (h, says)) =
        let effect : xdread_effect t.block order h.cdb t.held task.row (task.count * t.block) ≡ h.effect = some-same h.does in
        let taken : bytes_taken t.block task.row (task.count * t.block) t.held ≡ bytes = ap (λ (e : Effect). e.answer) effect ∙ sym h.answers in
        served b.array t after order Takes task answer past (sbc.XdRead task.row task.count) bytes
        (xdread_effect t.block order h.cdb t.held task.row (task.count * t.block)) h says effect
        (ap (events.Take order.owner order.opened h.cdb task.row) taken)
        (h.whole ∙ ap (λ n. task.count * n) d.stands.stands.of_array.block)

-- XDWRITE, where the controller takes the delta; XDWRITEREAD, where the target hands it back
diff-served : (b : BusSetting) (t after : TargetState) (order : Order) (answer : Answer) (past : List Entry) (task : Task) (mode : Mode) → b.array.mode ≡ mode →
    length order.bytes ≡ task_bytes b.array task → sends_delta b.array.mode ≡ false → ServesAct b t after order answer past 0 task Diffs
diff-served b t after order answer past task Supervised q whole stays d holds max x kept =
    done (due-done b t after order answer past 0 task Diffs (sbc.XdWrite false false false task.row task.count) d its (λ y. y) kept x)
  where
    spelt : SpellsCdb order.cdb (sbc.XdWrite false false false task.row task.count)
    spelt = subst (SpellsCdb order.cdb) (ap (λ m. diff_command m task) q) d.asked.spelt

    its : IsOf b t order past task Diffs (sbc.XdWrite false false false task.row task.count)
    its = record {
      spelt = spelt;
      fits = spelt.1.1;
      plain = record { second = refl; selects = refl; saved = refl; shown = refl; list = refl };
      at_row = refl;
      counted = refl;
      below = ap (λ n. is_over n task.count) d.stands.page.write ∙ not-over b.max_write task.count max;
      whole = data-whole b t past task order.bytes d.stands whole;
      fills = λ e. ap takes_delta q;
      takes = λ e. absurd (false≢true e);
    }

    done : IsDoneAs t order (sbc.XdWrite false false false task.row task.count) answer after → IsServed b.array t order Diffs task answer after past
    done (bytes, (h, says)) =
        let effect : xdwrite_effect order h.cdb t.held h.old task.row ≡ h.effect = some-same h.does in
        served b.array t after order Diffs task answer past (sbc.XdWrite false false false task.row task.count) bytes
        (xdwrite_effect order h.cdb t.held h.old task.row) h says effect
        (ap (events.Diff order.owner order.opened h.cdb task.row order.bytes false false) (ap hands_delta_back (sym q)))
        (λ back. absurd (false≢true (sym (ap hands_delta_back q) ∙ back)))
diff-served b t after order answer past task Readback q whole stays d holds max x kept =
    done (due-done b t after order answer past 0 task Diffs (sbc.XdWriteRead false false false task.row task.count) d its (λ y. y) kept x)
  where
    spelt : SpellsCdb order.cdb (sbc.XdWriteRead false false false task.row task.count)
    spelt = subst (SpellsCdb order.cdb) (ap (λ m. diff_command m task) q) d.asked.spelt

    its : IsOf b t order past task Diffs (sbc.XdWriteRead false false false task.row task.count)
    its = record {
      spelt = spelt;
      fits = spelt.1.1;
      plain = record { second = refl; selects = refl; saved = refl; shown = refl; list = refl };
      at_row = refl;
      counted = refl;
      below = ap (λ n. is_over n task.count) d.stands.page.write ∙ not-over b.max_write task.count max;
      whole = data-whole b t past task order.bytes d.stands whole;
      fills = λ e. absurd (false≢true e);
      takes = λ e. absurd (false≢true e);
    }

    done : IsDoneAs t order (sbc.XdWriteRead false false false task.row task.count) answer after → IsServed b.array t order Diffs task answer after past
    done (bytes, (h, says)) =
        let effect : xdwriteread_effect order h.cdb t.held h.old task.row ≡ h.effect = some-same h.does in
        let old : h.old ≡ rows_on b.array t.number past task.row (length order.bytes) =
        old-rows b.array t order h.old task.row task.count past (serves b t order past 0 task Diffs d) h.stood
        ∙ ap (rows_on b.array t.number past task.row) (sym whole) in
        served b.array t after order Diffs task answer past (sbc.XdWriteRead false false false task.row task.count) bytes
        (xdwriteread_effect order h.cdb t.held h.old task.row) h says effect
        (ap (events.Diff order.owner order.opened h.cdb task.row order.bytes false false) (ap hands_delta_back (sym q)))
        (λ back. h.answers ∙ sym (ap (λ (e : Effect). e.answer) effect) ∙ ap (λ (l : List ℕ). xor l order.bytes) old)
diff-served b t after order answer past task ThirdParty q whole stays d holds max x kept =
    absurd (both_ways (sends_delta b.array.mode) stays (ap sends_delta q))

pub orders-served : OrdersAreServed
orders-served b t after order answer past set g on (IsSentFor.Fetching task asked brings) due holds max works x kept =
    read-served b t after order answer past task brings
    (record { set = set; grows = g; stands = on; asked = asked; due = due; works = works }) holds max x kept
orders-served b t after order answer past set g on (IsSentFor.Putting task asked own) due holds max works x kept =
    write-served b t after order answer past task asked.whole own
    (record { set = set; grows = g; stands = on; asked = asked.act; due = due; works = works }) holds max x kept
orders-served b t after order answer past set g on (IsSentFor.Diffing task asked stays) due holds max works x kept =
    diff-served b t after order answer past task b.array.mode refl asked.whole stays
    (record { set = set; grows = g; stands = on; asked = asked.act; due = due; works = works }) holds max x kept
orders-served b t after order answer past set g on (IsSentFor.Taking task asked brings) due holds max works x kept =
    xdread-served b t after order answer past task brings
    (record { set = set; grows = g; stands = on; asked = asked; due = due; works = works }) holds max x kept
orders-served b t after order answer past set g on (IsSentFor.Folding task name asked) due holds max works x kept =
    xpwrite-served b t after order answer past task asked.whole
    (record { set = set; grows = g; stands = on; asked = asked.act; due = due; works = works }) holds max x kept
