-- What an act over a bus leaves of a target: its shape, and a medium that tells its bytes where it never fails.
use Rattle.std.specs.Prelude.{◌≡◌, ◌⊎◌, ◌*◌, ℕ, Bool, true, List, Option, Some, None, option_map}
use Rattle.std.proofs.Common.{refl, ap, sym, ◌∙◌, subst, inl, inr}
use Rattle.std.proofs.lemmas.Bool.{false≢true}
use Rattle.blocks_core.specs.Lists.{put}
use Rattle.blocks_core.specs.Xor.{zeros}
use Rattle.sbc_cdbs.specs.declared.commands.Command.{Command}
use Rattle.xor_mode_page.specs.declared.pages.XorPage.{XorPage}
use Rattle.xor_buffers.specs.declared.held.HeldBlocks.{HeldBlocks}
use Rattle.array_journal.specs.declared.at.At.{At}
use Rattle.array_journal.specs.declared.entry.Entry.{Entry}
use Rattle.xor_target.specs.declared.answer.Answer.{Answer}
use Rattle.xor_target.specs.declared.order.Order.{Order}
use Rattle.xor_target.specs.declared.waiting.Waiting.{Waiting}
use Rattle.xor_target.specs.Admission.{command_in, row_of}
use Rattle.xor_target.specs.Answers.{IsActed, Does, Fails, IsStruck, IsAnswered, WantsMemory, Tells, Executes}
use Rattle.xor_target.specs.Befalls.{IsRenewed}
use Rattle.xor_target.specs.Effects.{rewritten}
use Rattle.xor_target.specs.Logs.{last_stamp}
use Rattle.xor_target.specs.State.{TargetState}
use Rattle.xor_target.specs.Waits.{without_gatherings, without_gathering}
use Rattle.unit_plans.specs.declared.acts.Act.TheVariants.{Run, Shut, Lose, Wipe, DropNext, Fresh}
use Rattle.unit_plans.specs.declared.acts.Acted.TheVariants as acted
use Rattle.unit_plans.specs.ActLaws.{KeepsShape, ActsKeepShapes}
use Rattle.unit_plans.specs.Buses.{BusSetting, StandsOn}
use Rattle.unit_plans.proofs.SentCommands.{IsAlone, alone-acts, sent-alone}

-- the bytes are told
abbrev Told : Option (List ℕ) → Type 0
Told contents = (told : List ℕ) × (contents ≡ Some told)

-- a target with another page, past, held blocks, bytes and count of failures, where as many commands wait, has the same shape
keeps : (never_fails : Bool) (t after : TargetState) (page : XorPage) {past : List Entry} {held : List HeldBlocks} (contents : Option (List ℕ)) {faults : ℕ}
    {waiting : List Waiting} →
    t.waiting ≡ waiting → (page ≡ t.page) ⊎ (page ≡ t.first) → (never_fails ≡ true → Told contents) →
    after ≡ record t { page = page; past = past; held = held; contents = contents; faults = faults; waiting = waiting } → KeepsShape never_fails t after
keeps never_fails t after page {past} {held} contents {faults} {waiting} none paged tells e = subst (KeepsShape never_fails t) (sym e) (record {
  same = ap (λ (ws : List Waiting). record t { page = page; past = past; held = held; contents = contents; faults = faults; waiting = ws }) (sym none);
  page = paged;
  tells = tells;
})

-- nothing is changed
stays : (b : BusSetting) (never_fails : Bool) (t after : TargetState) (journal : List Entry) → StandsOn b t journal → after ≡ t →
    KeepsShape never_fails t after
stays b never_fails t after journal on same =
    keeps never_fails t after t.page t.contents refl (inl refl) (λ never. (on.stands.kept.told, on.stands.kept.tells)) same

-- bytes that are told are told when some of them were written
rewritten-told : (block row : ℕ) (written contents : Option (List ℕ)) (told : List ℕ) → contents ≡ Some told → Told (rewritten block row written contents)
rewritten-told block row None contents told e = (told, e)
rewritten-told block row (Some blocks) contents told e =
    subst (λ (o : Option (List ℕ)). Told (rewritten block row (Some blocks) o)) (sym e) (put told (row * block) blocks, refl)

-- none waits, gathering or not
none-gathers : (b : BusSetting) (t : TargetState) (journal : List Entry) → StandsOn b t journal → t.waiting ≡ without_gatherings t.waiting
none-gathers b t journal on = on.nothing_waits ∙ sym (ap without_gatherings on.nothing_waits)

-- the medium failed: one that never fails doesn't
struck-shape : (b : BusSetting) (never_fails : Bool) (t after : TargetState) (seen : ℕ) (journal : List Entry) → StandsOn b t journal →
    IsStruck never_fails t seen after → KeepsShape never_fails t after
struck-shape b never_fails t after seen journal on struck =
    keeps never_fails t after t.page after.contents (none-gathers b t journal on) (inl refl)
    (λ never. absurd (false≢true (sym struck.failed.may_fail ∙ never))) struck.grown

acted-shape : (b : BusSetting) (never_fails : Bool) (t after : TargetState) (order : Order) (command : Command) (answer : Answer) (journal : List Entry) →
    StandsOn b t journal → IsActed never_fails t order command answer after → KeepsShape never_fails t after
acted-shape b never_fails t after order command answer journal on (Does bytes d says) =
    keeps never_fails t after t.page (rewritten t.block (row_of command) d.effect.written t.contents) refl (inl refl)
    (λ never. rewritten-told t.block (row_of command) d.effect.written t.contents on.stands.kept.told on.stands.kept.tells) d.grown
acted-shape b never_fails t after order command answer journal on (Fails struck says) = struck-shape b never_fails t after order.stamp journal on struck

answered-shape : (b : BusSetting) (never_fails : Bool) (t after : TargetState) (order : Order) (answer : Answer) (journal : List Entry) →
    StandsOn b t journal → IsAlone (command_in order.cdb) → IsAnswered never_fails t order answer after → KeepsShape never_fails t after
answered-shape b never_fails t after order answer journal on alone (WantsMemory early says same) = stays b never_fails t after journal on same
answered-shape b never_fails t after order answer journal on alone (Tells early same) = stays b never_fails t after journal on same
answered-shape b never_fails t after order answer journal on alone (Executes early x) =
    acted-shape b never_fails t after order (command_in order.cdb) answer journal on
    (alone-acts never_fails t after order answer (command_in order.cdb) alone x)

renewed-shape : (b : BusSetting) (never_fails : Bool) (t after : TargetState) (call : ℕ) (swap : At) (seen : ℕ) (answer : Answer) (journal : List Entry) →
    StandsOn b t journal → IsRenewed never_fails t call swap seen answer after → KeepsShape never_fails t after
renewed-shape b never_fails t after call swap seen answer journal on (IsRenewed.WantsMemory says same) = stays b never_fails t after journal on same
renewed-shape b never_fails t after call swap seen answer journal on (IsRenewed.Renews fresh says) =
    keeps never_fails t after t.first _ refl (inr refl)
    (λ never. zeroed t.contents on.stands.kept.tells) fresh.grown
  where
    zeroed : (contents : Option (List ℕ)) → contents ≡ Some on.stands.kept.told → Told (option_map (λ told. zeros (t.rows * t.block)) contents)
    zeroed None e = absurd cc
    zeroed (Some told) e = (zeros (t.rows * t.block), refl)
renewed-shape b never_fails t after call swap seen answer journal on (IsRenewed.Fails struck says) = struck-shape b never_fails t after seen journal on struck

pub acts-keep_shapes : ActsKeepShapes
acts-keep_shapes b never_fails t after (Run order) (acted.Answer answer) journal made on can x =
    answered-shape b never_fails t after (record order { stamp = last_stamp journal }) answer journal on
    (sent-alone b.array journal t.number (record order { stamp = last_stamp journal }) can.1) x.0
acts-keep_shapes b never_fails t after (Shut owner opened) (acted.Shut answer) journal made on can x =
    keeps never_fails t after t.page t.contents (on.nothing_waits ∙ sym (ap (without_gathering owner) on.nothing_waits)) (inl refl)
    (λ never. (on.stands.kept.told, on.stands.kept.tells)) x.grown
acts-keep_shapes b never_fails t after (Lose call) (acted.Gone answer) journal made on can x =
    keeps never_fails t after t.page t.contents (none-gathers b t journal on) (inl refl) (λ never. (on.stands.kept.told, on.stands.kept.tells)) x.grown
acts-keep_shapes b never_fails t after (Wipe call) (acted.Made at) journal made on can x =
    keeps never_fails t after t.page t.contents refl (inl refl) (λ never. (on.stands.kept.told, on.stands.kept.tells)) x.grown
acts-keep_shapes b never_fails t after (DropNext call) (acted.Made at) journal made on can x =
    keeps never_fails t after t.page t.contents refl (inl refl) (λ never. (on.stands.kept.told, on.stands.kept.tells)) x.grown
acts-keep_shapes b never_fails t after (Fresh call swap) (acted.Answer answer) journal made on can x =
    renewed-shape b never_fails t after call swap (last_stamp journal) answer journal on x.0
acts-keep_shapes b never_fails t after _ _ journal made on can x = absurd x
