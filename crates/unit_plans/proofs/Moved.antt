-- A command that reads, writes or folds blocks and is done makes an entry that may follow the journal.
use Rattle.std.specs.Prelude.{◌≡◌, ◌*◌, ◌&&◌, not, ℕ, Bool, true, false, List, ◌∷◌, length, Option, Some, IfSome, is_some}
use Rattle.std.proofs.Common.{refl, ap, sym, ◌∙◌, subst, cond}
use Rattle.blocks_core.specs.Lists.{slice}
use Rattle.sbc_cdbs.specs.declared.commands.Command.{Command}
use Rattle.sbc_cdbs.specs.declared.commands.Command.TheVariants as sbc
use Rattle.sbc_cdbs.specs.declared.descriptor.Cdb.{Cdb}
use Rattle.sbc_cdbs.specs.Cdbs.{cdb_bytes, SpellsCdb}
use Rattle.stripe_layout.specs.Modes.{target_gathers}
use Rattle.array_journal.specs.declared.act.Act.{Act}
use Rattle.array_journal.specs.declared.act.Act.TheVariants.{Fetches, Puts, Folds}
use Rattle.array_journal.specs.declared.entry.Entry.{Entry}
use Rattle.array_journal.specs.declared.setting.Setting.{Setting}
use Rattle.array_journal.specs.declared.task.Task.{Task}
use Rattle.array_journal.specs.Acts.{cdb_of, task_bytes, is_data_only, is_degraded_write, list_length}
use Rattle.array_journal.specs.Media.{media, rows_on}
use Rattle.array_journal.specs.Parts.{AskedAct, FoundAct}
use Rattle.xor_target.specs.declared.order.Order.{Order}
use Rattle.xor_target.specs.Answers.{IsDone, next_entry}
use Rattle.xor_target.specs.Effects.{Effect, effect_of, read_effect, write_effect, xpwrite_effect}
use Rattle.xor_target.specs.Logs.{drops_next}
use Rattle.xor_target.specs.State.{TargetState}
use Rattle.xor_target.proofs.CdbRows.{spelt-in}
use Rattle.unit_plans.specs.Targets.{GrowsBy}
use Rattle.unit_plans.specs.Orders.{AskedOrder, Serves}
use Rattle.unit_plans.specs.Followers.{IsOrderDone, FetchMayFollow, PutMayFollow, FoldMayFollow}
use Rattle.unit_plans.proofs.Knowing.{targets-know}
use Rattle.unit_plans.proofs.Following.{grows}

-- an order that is asked for was done as the command of its act
pub act-done : (s : Setting) (t after : TargetState) (order : Order) (sources : ℕ) (task : Task) (act : Act) (journal : List Entry) →
    AskedOrder s journal t.number order sources task act → IsOrderDone t order after →
    (bytes : List ℕ) × IsDone t order (cdb_of s task sources act) bytes after
act-done s t after order sources task act journal asked (bytes, d) =
    (bytes, subst (λ (c : Command). IsDone t order c bytes after) (spelt-in order.cdb (cdb_of s task sources act) asked.spelt) d)

-- what is asked of its event
pub act-asked : (s : Setting) (t after : TargetState) (order : Order) (len sources : ℕ) (task : Task) (act : Act) (cdb : Cdb) (journal : List Entry) →
    AskedOrder s journal t.number order sources task act → cdb_bytes cdb ≡ order.cdb → len ≡ task_bytes s task →
    AskedAct s journal t.number order.owner order.opened cdb task.row len sources task act
act-asked s t after order len sources task act cdb journal asked sent whole = record {
  opening = asked.opening;
  in_book = asked.in_book;
  of_task = asked.of_task;
  not_shut = asked.not_shut;
  once = asked.once;
  at_row = refl;
  whole = whole;
  spelt = subst (λ (bytes : List ℕ). SpellsCdb bytes (cdb_of s task sources act)) (sym sent) asked.spelt;
}

-- and found
pub act-found : (s : Setting) (t : TargetState) (order : Order) (journal : List Entry) → Serves s t order journal → FoundAct journal t.number order.opened
act-found s t order journal h = record {
  not_gone = ap is_some (targets-know s t journal h.stands).loss ∙ h.works;
  same_life = h.same_life;
}

-- the old rows are those of the medium by the journal
pub old-rows : (s : Setting) (t : TargetState) (order : Order) (old : List ℕ) (row count : ℕ) (journal : List Entry) → Serves s t order journal →
    IfSome t.contents (λ told. old ≡ slice told (row * t.block) (count * t.block)) →
    old ≡ rows_on s t.number journal row (count * s.geometry.block)
old-rows s t order old row count journal h stood =
    subst (λ (o : Option (List ℕ)). IfSome o (λ told. old ≡ slice told (row * t.block) (count * t.block))) ((targets-know s t journal h.stands).medium h.works) stood
    ∙ ap (λ n. slice (media s t.number journal) (row * n) (count * n)) h.stands.of_array.block

-- a command that is done makes the entry of its effect
pub done-past : (t after : TargetState) (order : Order) (command : Command) (bytes : List ℕ) (effect : Effect) (d : IsDone t order command bytes after) → effect ≡ d.effect →
    after.past ≡ next_entry t order.stamp effect.event ∷ t.past
done-past t after order command bytes effect d same =
    ap (λ (x : TargetState). x.past) d.grown ∙ ap (λ (e : Effect). next_entry t order.stamp e.event ∷ t.past) (sym same)

pub some-same : {A : Type 0} {a b : A} → Some a ≡ Some b → a ≡ b
some-same e = cc

pub fetch-follows : FetchMayFollow
fetch-follows s t after order task journal h asked done =
    with-done (act-done s t after order 0 task Fetches journal asked done)
  where
    with-done : (bytes : List ℕ) × IsDone t order (sbc.Read false false task.row task.count) bytes after → GrowsBy s journal t after
    with-done (bytes, d) =
        let effect : read_effect order d.cdb t.held d.old task.row ≡ d.effect = some-same d.does in
        let read : bytes ≡ d.old = d.answers ∙ sym (ap (λ (e : Effect). e.answer) effect) in
        let whole : length d.old ≡ task_bytes s task = ap length (sym read) ∙ d.whole ∙ ap (λ n. task.count * n) h.stands.of_array.block in
        grows s t after order.stamp (read_effect order d.cdb t.held d.old task.row).event journal h.stands
        (task, act-asked s t after order (length d.old) 0 task Fetches d.cdb journal asked d.sent whole)
        (record {
          act = act-found s t order journal h;
          read = old-rows s t order d.old task.row task.count journal h d.stood ∙ ap (rows_on s t.number journal task.row) (sym whole);
        })
        (asked.seen.0, tt)
        (done-past t after order (sbc.Read false false task.row task.count) bytes (read_effect order d.cdb t.held d.old task.row) d effect)

-- what a put's order does, as WRITE or as REBUILD
written : (s : Setting) (t : TargetState) (order : Order) (cdb : Cdb) (old : List ℕ) (effect : Effect) (task : Task) (sources : ℕ) →
    effect_of t.block order cdb t.held old (drops_next t.number t.past) (cdb_of s task sources Puts) ≡ Some effect → write_effect order cdb t.held task.row ≡ effect
written s t order cdb old effect task sources does = choose (target_gathers s.mode && not (is_data_only task.kind)) does
  where
    choose : (rebuilt : Bool) →
        effect_of t.block order cdb t.held old (drops_next t.number t.past)
        (cond rebuilt (sbc.Rebuild false false (is_degraded_write task.kind) task.row task.count (list_length s task sources)) (sbc.Write false false task.row task.count)) ≡ Some effect →
        write_effect order cdb t.held task.row ≡ effect
    choose true does = some-same does
    choose false does = some-same does

pub put-follows : PutMayFollow
put-follows s t after order task journal h asked done =
    with-done (act-done s t after order (length order.names) task Puts journal asked.act done)
  where
    with-done : (bytes : List ℕ) × IsDone t order (cdb_of s task (length order.names) Puts) bytes after → GrowsBy s journal t after
    with-done (bytes, d) =
        let effect : write_effect order d.cdb t.held task.row ≡ d.effect = written s t order d.cdb d.old d.effect task (length order.names) d.does in
        grows s t after order.stamp (write_effect order d.cdb t.held task.row).event journal h.stands (
          task,
          record {
            act = act-asked s t after order (length order.bytes) (length order.names) task Puts d.cdb journal asked.act d.sent asked.whole;
            fetched = asked.fetched;
            made = asked.made;
          },
        )
        (act-found s t order journal h)
        asked.act.seen
        (done-past t after order (cdb_of s task (length order.names) Puts) bytes (write_effect order d.cdb t.held task.row) d effect)

pub fold-follows : FoldMayFollow
fold-follows s t after order task name journal h asked done =
    with-done (act-done s t after order 0 task Folds journal asked.act done)
  where
    with-done : (bytes : List ℕ) × IsDone t order (sbc.XpWrite false false task.row task.count) bytes after → GrowsBy s journal t after
    with-done (bytes, d) =
        let effect : xpwrite_effect order d.cdb t.held d.old task.row ≡ d.effect = some-same d.does in
        grows s t after order.stamp (xpwrite_effect order d.cdb t.held d.old task.row).event journal h.stands (
          task,
          (
            name,
            record {
              act = act-asked s t after order (length order.bytes) 0 task Folds d.cdb journal asked.act d.sent asked.whole;
              one = asked.one;
              at_source = asked.at_source;
              source = asked.source;
            },
          ),
        )
        (act-found s t order journal h)
        asked.act.seen
        (done-past t after order (sbc.XpWrite false false task.row task.count) bytes (xpwrite_effect order d.cdb t.held d.old task.row) d effect)
