-- From what a command does to a disk and its log to what a target answers.
use Rattle.std.specs.Prelude.{◌≡◌, ◌+◌, ◌*◌, ℕ, Bool, true, false, List, length, [], ◌∷◌, Option, IfSome}
use Rattle.std.proofs.Common.{ap, sym, ◌∙◌, subst}
use Rattle.blocks_core.specs.Lists.{slice}
use Rattle.sbc_cdbs.specs.Cdbs.{cdb_bytes}
use Rattle.sbc_cdbs.specs.Kinds.{is_kept}
use Rattle.sbc_cdbs.specs.declared.commands.Command.{Command}
use Rattle.xor_mode_page.specs.declared.pages.XorPage.{XorPage}
use Rattle.xor_buffers.specs.declared.held.HeldBlocks.{HeldBlocks}
use Rattle.xor_buffers.specs.Held.{owners_of, held_blocks}
use Rattle.array_journal.specs.declared.entry.Entry.{Entry}
use Rattle.array_journal.specs.declared.event.Event.TheVariants.{Gone}
use Rattle.array_journal.specs.Lives.{life_of}
use Rattle.xor_target.specs.declared.act.BlockAct.{BlockAct}
use Rattle.xor_target.specs.declared.order.Order.{Order}
use Rattle.xor_target.specs.Admission.{count_of}
use Rattle.xor_target.specs.Logs.{Logged}
use Rattle.xor_target.specs.Disks.{DiskState, HasFailed}
use Rattle.xor_target.specs.declared.waiting.Waiting.{Waiting}
use Rattle.xor_target.specs.Waits.{without_gatherings}
use Rattle.xor_target.specs.State.{TargetState, state_of}
use Rattle.xor_target.specs.Effects.{bytes_back, rewritten}
use Rattle.xor_target.specs.Answers.{IsDone, IsStruck, next_stamp}
use Rattle.xor_target.specs.Acts.{IsActOf, IsPerformed, IsSteady}
use Rattle.xor_target.proofs.DiskSteps.{disk_with}

-- what is seen of a log doesn't hang on the memory that it has
pub same-state : (targets : ℕ) (first page : XorPage) (waiting : List Waiting) (disk disk' : DiskState) (log log' : Logged) → disk' ≡ disk → log'.past ≡ log.past → log'.number ≡ log.number →
    state_of targets first page waiting disk' log' ≡ state_of targets first page waiting disk log
same-state targets first page waiting disk disk' log log' d p n =
    ap (λ (z : DiskState). state_of targets first page waiting z log') d ∙ ap (λ (x : List Entry). record (state_of targets first page waiting disk log') { past = x }) p
    ∙ ap (λ (x : ℕ). record (state_of targets first page waiting disk log) { number = x }) n

-- a disk that changes, and one entry more
pub grown-state : (targets : ℕ) (first page : XorPage) (waiting : List Waiting) (disk disk' : DiskState) (log log' : Logged) (contents : Option (List ℕ)) (faults slots : ℕ) (list : List HeldBlocks) (e : Entry) →
    disk' ≡ disk_with disk contents faults slots list → log'.past ≡ e ∷ log.past → log'.number ≡ log.number →
    state_of targets first page waiting disk' log' ≡ record (state_of targets first page waiting disk log) { past = e ∷ log.past; held = list; contents = contents; faults = faults }
grown-state targets first page waiting disk disk' log log' contents faults slots list e d p n =
    let t : ℕ → List Entry → TargetState =
    λ x y. record (state_of targets first page waiting disk log) { number = x; past = y; held = list; contents = contents; faults = faults } in
    ap (λ (z : DiskState). state_of targets first page waiting z log') d ∙ ap (λ y. t log'.number y) p ∙ ap (λ x. t x (e ∷ log.past)) n

-- a command that was performed is done
pub performed-done : (targets : ℕ) (first page : XorPage) (waiting : List Waiting) (disk disk' : DiskState) (log log' : Logged) (order : Order) (command : Command) (act : BlockAct) (bytes : List ℕ) →
    IsActOf command act → cdb_bytes act.cdb ≡ order.cdb → act.stamp ≡ next_stamp log.past order.stamp →
    IsPerformed disk log order command act bytes disk' log' → length bytes ≡ bytes_back disk.block command →
    (is_kept command ≡ true → held_blocks disk.block disk'.buffer.list ≡ held_blocks disk.block disk.buffer.list + act.count) →
    IsDone (state_of targets first page waiting disk log) order command bytes (state_of targets first page waiting disk' log')
performed-done targets first page waiting disk disk' log log' order command act bytes rows sent stamp done whole fills =
    let d = done.done in
    let effect = done.effect_by d.old in
    let entry : ℕ → Entry = λ s. record { stamp = s; lock = log.number + 1; event = effect.event } in
    record {
      cdb = act.cdb;
      old = d.old;
      effect = effect;
      sent = sent;
      stood =
          subst (λ (r : ℕ). IfSome disk.contents (λ told. d.old ≡ slice told (r * disk.block) (count_of command * disk.block))) rows.row
          (subst (λ (n : ℕ). IfSome disk.contents (λ told. d.old ≡ slice told (act.row * disk.block) (n * disk.block))) rows.count d.stood);
      does = done.does d.old;
      answers = d.answers;
      whole = whole;
      fills = λ kept. fills kept ∙ ap (λ n. held_blocks disk.block disk.buffer.list + n) rows.count;
      counted = d.counted;
      grown =
          grown-state targets first page waiting disk disk' log log' disk'.contents disk'.faults disk'.buffer.slots effect.held (entry act.stamp) d.kept d.logged d.number
          ∙ ap (λ s. record (state_of targets first page waiting disk log) { past = entry s ∷ log.past; held = effect.held; contents = disk'.contents; faults = disk'.faults }) stamp
          ∙ ap (λ c. record (state_of targets first page waiting disk log) { past = entry (next_stamp log.past order.stamp) ∷ log.past; held = effect.held; contents = c; faults = disk'.faults })
          (d.written ∙ ap (λ r. rewritten disk.block r effect.written disk.contents) rows.row);
    }

-- a failure of the medium takes the disk
pub failed-struck : (never_fails : Bool) (targets : ℕ) (first page : XorPage) (waiting : List Waiting) (disk mid disk' : DiskState) (log log' : Logged) (seen stamp : ℕ) (owners : List ℕ) →
    IsSteady disk mid → HasFailed never_fails disk.faults mid.faults → disk' ≡ record mid { buffer = record mid.buffer { list = [] } } →
    log'.past ≡ record { stamp = stamp; lock = log.number + 1; event = Gone (life_of log.number log.past) 0 owners } ∷ log.past → log'.number ≡ log.number →
    stamp ≡ next_stamp log.past seen → (never_fails ≡ false → owners ≡ owners_of disk.buffer.list) →
    IsStruck never_fails (state_of targets first page waiting disk log) seen (state_of targets first page (without_gatherings waiting) disk' log')
failed-struck never_fails targets first page waiting disk mid disk' log log' seen stamp owners steady failed wiped past number stamped owned =
    let left = without_gatherings waiting in
    let faults = ap (λ (z : DiskState). z.faults) wiped in
    let contents = ap (λ (z : DiskState). z.contents) wiped in
    let gone : ℕ → List ℕ → Entry = λ s o. record { stamp = s; lock = log.number + 1; event = Gone (life_of log.number log.past) 0 o } in
    let t : Entry → TargetState = λ e. record (state_of targets first page left disk log) { past = e ∷ log.past; held = []; contents = disk'.contents; faults = disk'.faults } in
    record {
      failed = subst (λ (n : ℕ). HasFailed never_fails disk.faults n) (sym faults) failed;
      grown =
          grown-state targets first page left disk disk' log log' mid.contents mid.faults mid.buffer.slots [] (gone stamp owners)
          (wiped ∙ ap (λ (z : DiskState). record z { buffer = record z.buffer { list = [] } }) steady.same) past number
          ∙ ap (λ c. record (state_of targets first page left disk log) { past = gone stamp owners ∷ log.past; held = []; contents = c; faults = mid.faults }) (sym contents)
          ∙ ap (λ f. record (state_of targets first page left disk log) { past = gone stamp owners ∷ log.past; held = []; contents = disk'.contents; faults = f }) (sym faults)
          ∙ ap (λ s. t (gone s owners)) stamped ∙ ap (λ o. t (gone (next_stamp log.past seen) o)) (owned failed.may_fail);
    }
