-- A command whose delta, or what it gathered, is held, handed back, sent or taken makes an entry that may follow the journal.
use Rattle.std.specs.Prelude.{◌≡◌, ◌==◌, ◌&&◌, ◌-◌, ◌*◌, ◌≤◌, ℕ, Bool, true, false, List, [], ◌∷◌, length, drop, map, Some, unwrap_or}
use Rattle.std.proofs.Common.{refl, ap, sym, ◌∙◌, subst, cond, arith}
use Rattle.std.proofs.lemmas.Bool.{eq-eqb, false≢true}
use Rattle.std.proofs.lemmas.List.{length-take}
use Rattle.blocks_core.specs.Lists.{slice}
use Rattle.blocks_core.specs.Xor.{xor, xor_all}
use Rattle.blocks_core.proofs.XorLaws.{length-xor_le}
use Rattle.sbc_cdbs.specs.declared.commands.Command.TheVariants as sbc
use Rattle.sbc_cdbs.specs.declared.descriptor.Cdb.{Cdb}
use Rattle.sbc_cdbs.specs.Cdbs.{cdb_bytes}
use Rattle.stripe_layout.specs.declared.mode.Mode.{Mode}
use Rattle.stripe_layout.specs.declared.mode.Mode.TheVariants.{Supervised, ThirdParty, Readback}
use Rattle.stripe_layout.specs.Modes.{sends_delta, hands_delta_back}
use Rattle.xor_buffers.specs.declared.held.HeldBlocks.{HeldBlocks}
use Rattle.xor_buffers.specs.Held.{holds_rows, holder_of, rows_held}
use Rattle.array_journal.specs.declared.act.Act.TheVariants.{Diffs, Takes, Holds}
use Rattle.array_journal.specs.Acts.{cdb_of, diff_command, task_bytes}
use Rattle.array_journal.specs.Media.{media, held, rows_on}
use Rattle.array_journal.specs.May.{bytes_named}
use Rattle.array_journal.specs.Parts.{AskedDiff}
use Rattle.xor_target.specs.Answers.{IsDone}
use Rattle.xor_target.specs.Effects.{Effect, rows_taken, bytes_taken, xdwrite_effect, xdwrite_disabled_effect, xdwriteread_effect, xdwrite_extended_effect, xdread_effect}
use Rattle.xor_target.specs.Logs.{drops_next}
use Rattle.unit_plans.specs.Targets.{GrowsBy}
use Rattle.unit_plans.specs.Followers.{DiffMayFollow, TakeMayFollow, HoldMayFollow}
use Rattle.unit_plans.proofs.Knowing.{targets-know}
use Rattle.unit_plans.proofs.Following.{grows}
use Rattle.unit_plans.proofs.Moved.{act-done, act-asked, act-found, old-rows, done-past, some-same}

pub diff-follows : DiffMayFollow
diff-follows s t after order task journal h asked done =
    let d = act-done s t after order 0 task Diffs journal asked.act done in
    by_mode s.mode refl d.0 d.1
  where
    asks : (mode : Mode) (cdb : Cdb) (sent back : Bool) → s.mode ≡ mode → cdb_bytes cdb ≡ order.cdb → sent ≡ sends_delta mode → back ≡ hands_delta_back mode →
        AskedDiff s journal t.number order.owner order.opened cdb task.row order.bytes sent back task
    asks mode cdb sent back q same sends backs = record {
      act = act-asked s t after order (length order.bytes) 0 task Diffs cdb journal asked.act same asked.whole;
      written = asked.written;
      sent_by_mode = sends ∙ ap sends_delta (sym q);
      back_by_mode = backs ∙ ap hands_delta_back (sym q);
    }

    by_mode : (mode : Mode) → s.mode ≡ mode → (bytes : List ℕ) → IsDone t order (diff_command mode task) bytes after → GrowsBy s journal t after
    by_mode Supervised q bytes d =
        let effect : xdwrite_effect order d.cdb t.held d.old task.row ≡ d.effect = some-same d.does in
        grows s t after order.stamp (xdwrite_effect order d.cdb t.held d.old task.row).event journal h.stands (task, asks Supervised d.cdb false false q d.sent refl refl)
        (record { act = act-found s t order journal h; dropped_when_due = refl }) (asked.act.seen.0, tt)
        (done-past t after order (diff_command Supervised task) bytes (xdwrite_effect order d.cdb t.held d.old task.row) d effect)
    by_mode ThirdParty q bytes d =
        let dropped = drops_next t.number t.past in
        let effect : xdwrite_extended_effect order d.cdb t.held d.old dropped task.row ≡ d.effect = some-same d.does in
        grows s t after order.stamp (xdwrite_extended_effect order d.cdb t.held d.old dropped task.row).event journal h.stands
        (task, asks ThirdParty d.cdb true false q d.sent refl refl)
        (record { act = act-found s t order journal h; dropped_when_due = sym (targets-know s t journal h.stands).drops }) (asked.act.seen.0, tt)
        (done-past t after order (diff_command ThirdParty task) bytes (xdwrite_extended_effect order d.cdb t.held d.old dropped task.row) d effect)
    by_mode Readback q bytes d =
        let effect : xdwriteread_effect order d.cdb t.held d.old task.row ≡ d.effect = some-same d.does in
        grows s t after order.stamp (xdwriteread_effect order d.cdb t.held d.old task.row).event journal h.stands (task, asks Readback d.cdb false true q d.sent refl refl)
        (record { act = act-found s t order journal h; dropped_when_due = refl }) (asked.act.seen.0, tt)
        (done-past t after order (diff_command Readback task) bytes (xdwriteread_effect order d.cdb t.held d.old task.row) d effect)

-- rows whose first holder is a command are taken as this command holds them
own-rows : (block c row len : ℕ) (hs : List HeldBlocks) → holder_of block row len hs ≡ Some c → rows_held block c row len hs ≡ Some (bytes_taken block row len hs)
own-rows block c row len [] own = absurd cc
own-rows block c row len (h ∷ hs) own = choose (holds_rows block row len h) (h.owner == c) refl own (own-rows block c row len hs)
  where
    found : List ℕ
    found = slice h.bytes ((row - h.row) * block) len

    choose : (holds same : Bool) → (h.owner == c) ≡ same → cond holds (Some h.owner) (holder_of block row len hs) ≡ Some c →
        (holder_of block row len hs ≡ Some c → rows_held block c row len hs ≡ Some (unwrap_or (rows_taken block row len hs) [])) →
        cond (same && holds) (Some found) (rows_held block c row len hs) ≡ Some (unwrap_or (cond holds (Some found) (rows_taken block row len hs)) [])
    choose true true e own older = refl
    choose true false e own older =
        let is : h.owner ≡ c = cc in
        absurd (false≢true (sym e ∙ eq-eqb h.owner c is))
    choose false true e own older = older own
    choose false false e own older = older own

pub take-follows : TakeMayFollow
take-follows s t after order task journal h asked done =
    with-done (act-done s t after order 0 task Takes journal asked.act done)
  where
    block : t.block ≡ s.geometry.block
    block = h.stands.of_array.block

    blocks : held s t.number journal ≡ t.held
    blocks = (targets-know s t journal h.stands).blocks

    own : holder_of t.block task.row (task.count * t.block) t.held ≡ Some order.owner
    own = ap (λ n. holder_of n task.row (task.count * n) t.held) block ∙ ap (holder_of s.geometry.block task.row (task_bytes s task)) (sym blocks) ∙ asked.own

    with-done : (bytes : List ℕ) × IsDone t order (sbc.XdRead task.row task.count) bytes after → GrowsBy s journal t after
    with-done (bytes, d) =
        let event = xdread_effect t.block order d.cdb t.held task.row (task.count * t.block) in
        let taken = bytes_taken t.block task.row (task.count * t.block) t.held in
        let effect : event ≡ d.effect = some-same d.does in
        let same : bytes ≡ taken = d.answers ∙ sym (ap (λ (e : Effect). e.answer) effect) in
        let whole : length taken ≡ task_bytes s task = ap length (sym same) ∙ d.whole ∙ ap (λ n. task.count * n) block in
        let there : rows_held t.block order.owner task.row (task.count * t.block) t.held ≡ Some taken = own-rows t.block order.owner task.row (task.count * t.block) t.held own in
        grows s t after order.stamp event.event journal h.stands
        (task, act-asked s t after order (length taken) 0 task Takes d.cdb journal asked.act d.sent whole)
        (record {
          act = act-found s t order journal h;
          taken = ap (λ n. rows_held s.geometry.block order.owner task.row n (held s t.number journal)) whole
              ∙ ap (rows_held s.geometry.block order.owner task.row (task_bytes s task)) blocks
              ∙ ap (λ n. rows_held n order.owner task.row (task.count * n) t.held) (sym block) ∙ there;
        })
        (asked.act.seen.0, tt)
        (done-past t after order (sbc.XdRead task.row task.count) bytes event d effect)

-- a slice is no longer than it is asked to be
slice-short : (bytes : List ℕ) (at len : ℕ) → length (slice bytes at len) ≤ len
slice-short bytes at len = let same = length-take len (drop at bytes) in omega (arith, same)

pub hold-follows : HoldMayFollow
hold-follows s t after order task journal h asked done =
    with-done (act-done s t after order (length order.names) task Holds journal asked.act done)
  where
    with-done : (bytes : List ℕ) × IsDone t order (cdb_of s task (length order.names) Holds) bytes after → GrowsBy s journal t after
    with-done (bytes, d) =
        let effect : xdwrite_disabled_effect order d.cdb t.held d.old task.row ≡ d.effect = some-same d.does in
        let rows : d.old ≡ rows_on s t.number journal task.row (task_bytes s task) = old-rows s t order d.old task.row task.count journal h d.stood in
        let short : length d.old ≤ task_bytes s task =
        subst (λ (l : List ℕ). length l ≤ task_bytes s task) (sym rows)
        (slice-short (media s t.number journal) (task.row * s.geometry.block) (task_bytes s task)) in
        let whole : length (xor d.old order.bytes) ≡ task_bytes s task =
        length-xor_le d.old order.bytes (omega (arith, short, asked.whole)) ∙ asked.whole in
        grows s t after order.stamp (xdwrite_disabled_effect order d.cdb t.held d.old task.row).event journal h.stands (
          task,
          record {
            act = act-asked s t after order (length (xor d.old order.bytes)) (length order.names) task Holds d.cdb journal asked.act d.sent whole;
            kept_here = refl;
            not_handed = refl;
            fetched = asked.fetched;
          },
        )
        (record {
          act = act-found s t order journal h;
          made = ap (λ (l : List ℕ). xor l order.bytes) rows ∙ ap (xor (rows_on s t.number journal task.row (task_bytes s task))) asked.made
              ∙ ap (λ n. xor (rows_on s t.number journal task.row n) (xor_all n (map (bytes_named journal) order.names))) (sym whole);
        })
        asked.act.seen
        (done-past t after order (cdb_of s task (length order.names) Holds) bytes (xdwrite_disabled_effect order d.cdb t.held d.old task.row) d effect)
