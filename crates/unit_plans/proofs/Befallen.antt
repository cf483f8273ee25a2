-- What befalls a target makes an entry that may follow the journal.
use Rattle.std.specs.Prelude.{◌≡◌, ℕ, List, ◌∷◌}
use Rattle.std.proofs.Common.{refl, ap, sym, ◌∙◌}
use Rattle.xor_buffers.specs.Held.{owners_of}
use Rattle.array_journal.specs.declared.entry.Entry.{Entry}
use Rattle.array_journal.specs.declared.event.Event.TheVariants as events
use Rattle.array_journal.specs.declared.setting.Setting.{Setting}
use Rattle.xor_target.specs.Answers.{next_entry, loss_here}
use Rattle.xor_target.specs.Befalls.{shut_event, reset_event, drop_event}
use Rattle.xor_target.specs.State.{TargetState}
use Rattle.unit_plans.specs.Targets.{StandsIn, GrowsBy}
use Rattle.unit_plans.specs.Followers.{ShutMayFollow, LossMayFollow, ResetMayFollow, DropMayFollow, FreshMayFollow, FailureMayFollow}
use Rattle.unit_plans.proofs.Knowing.{targets-know}
use Rattle.unit_plans.proofs.Following.{grows}

pub past-of : {after before : TargetState} → after ≡ before → after.past ≡ before.past
past-of e = ap (λ (x : TargetState). x.past) e

pub shut-follows : ShutMayFollow
shut-follows s t after owner opened seen answer task journal h asked earlier shut =
    let knows = targets-know s t journal h in
    grows s t after seen (shut_event t owner opened) journal h (task, asked)
    (record { says_acted = sym (knows.acted owner); says_lost = sym knows.loss }) (earlier, tt) (past-of shut.grown)

-- a loss, whatever made it
losing : (s : Setting) (t after : TargetState) (call seen : ℕ) (journal : List Entry) → StandsIn s t journal →
    after.past ≡ next_entry t seen (loss_here t call) ∷ t.past → GrowsBy s journal t after
losing s t after call seen journal h grown =
    let knows = targets-know s t journal h in
    grows s t after seen (loss_here t call) journal h tt
    (record { says_life = sym knows.life; says_owners = sym (ap owners_of knows.blocks) }) tt grown

pub loss-follows : LossMayFollow
loss-follows s t after call seen answer journal h lost = losing s t after call seen journal h (past-of lost.grown)

pub failure-follows : FailureMayFollow
failure-follows s never_fails t after seen journal h struck = losing s t after 0 seen journal h (past-of struck.grown)

pub reset-follows : ResetMayFollow
reset-follows s t after call seen at journal h reset =
    let knows = targets-know s t journal h in
    grows s t after seen (reset_event t call) journal h tt (sym (ap owners_of knows.blocks)) tt (past-of reset.grown)

pub drop-follows : DropMayFollow
drop-follows s t after call seen at journal h dropping =
    grows s t after seen (drop_event call) journal h tt refl tt (past-of dropping.grown)

pub fresh-follows : FreshMayFollow
fresh-follows s t after call swap seen journal h asked next earlier fresh =
    let knows = targets-know s t journal h in
    grows s t after seen (events.Fresh call swap) journal h asked (next ∙ sym knows.life) (earlier, tt) (past-of fresh.grown)
