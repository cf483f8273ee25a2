-- Gatherings that go on, and what they leave.
use Rattle.std.specs.Prelude.{◌≡◌, ◌==◌, ◌≤◌, ◌+◌, ◌-◌, ◌*◌, ◌^◌, nat_lt, not, ℕ, Bool, true, false, List, [], ◌∷◌, ◌++◌, length, Option, Some, None, IfSome, is_some, is_none, option_map, unwrap_or}
use Rattle.std.specs.List.{AllByRecursion}
use Rattle.std.proofs.Common.{refl, ap, sym, ◌∙◌, subst, arith}
use Rattle.std.proofs.lemmas.Bool.{false≢true, eqb-true, le-ltb}
use Rattle.std.proofs.lemmas.List.{length-replicate}
use Rattle.sbc_cdbs.specs.Kinds.{is_kept}
use Rattle.xor_buffers.specs.declared.held.HeldBlocks.{HeldBlocks}
use Rattle.xor_buffers.specs.Held.{overlap_of, held_blocks}
use Rattle.sbc_cdbs.specs.declared.commands.Command.{Command}
use Rattle.sbc_cdbs.specs.declared.commands.Command.TheVariants.{Read, Write, XdWrite, XpWrite, XdRead, XdWriteRead, ModeSelect, ModeSense, XdWriteExtended, Rebuild, Regenerate}
use Rattle.xor_params.specs.Contents.{intermediate_in}
use Rattle.regen_rebuild.specs.Gatherings.{Gathering, size}
use Rattle.array_journal.specs.declared.at.At.{At}
use Rattle.array_journal.specs.declared.entry.Entry.{Entry}
use Rattle.xor_target.specs.declared.answer.Answer.{Answer}
use Rattle.xor_target.specs.declared.answer.Answer.TheVariants.{Good, Check, Gone, Shut, Peer, Memory}
use Rattle.xor_target.specs.declared.order.Order.{Order}
use Rattle.xor_target.specs.declared.waiting.Waiting.{Waiting}
use Rattle.xor_target.specs.Admission.{row_of, count_of}
use Rattle.xor_target.specs.Disks.{DiskState}
use Rattle.xor_target.specs.Table.{is_take}
use Rattle.xor_target.specs.Gathers.{GatheringState, IsGatherer, IsUnderWay, IsUnderWayIf, accepted, done_order}
use Rattle.xor_target.specs.Waits.{waiting_of, sends, with_source, without_owner}
use Rattle.xor_target.specs.State.{TargetState, IsTarget, has_failed}
use Rattle.xor_target.specs.Acts.{IsFewWhereGone, IsGathering, IsPossible}
use Rattle.xor_target.specs.Answers.{IsActed, Does, Fails, IsGathered, Alone, Begins, next_name}
use Rattle.xor_target.specs.Resumes.{IsContinued, Asks, Finishes, HasContinued, no_longer, with_names, renamed}
use Rattle.xor_target.proofs.AsideStates.{FindsRoom, aside-gathers, aside-found, aside-left, aside-source}
use Rattle.xor_target.proofs.WaitLists.{all-filtered, all-found, found-passes}
use Rattle.xor_target.proofs.WaitingSources.{all-with-source}
use Rattle.xor_target.proofs.Gatherings.{gatherer-due, gatherer-possible, done-length, under-way-size, first-under-way, next-under-way}
use Rattle.xor_target.proofs.KeptStates.{acted-target, waiting-target, more-waiting}

-- ---- the owner's gathering

-- what its command would hold is free on a disk, and finds room
pub record IsHeldThere (disk : DiskState) (g : GatheringState) : Type 0 where
  pub free : is_kept g.admitted.command ≡ true → overlap_of disk.block (row_of g.admitted.command) (count_of g.admitted.command) disk.buffer.list ≡ None
  pub room : is_kept g.admitted.command ≡ true → nat_lt (disk.buffer.capacity - held_blocks disk.block disk.buffer.list) (count_of g.admitted.command) ≡ false

-- since it was set aside
held-there : (owner : ℕ) (disk : DiskState) (t : TargetState) (w : Waiting) (g : GatheringState) → IsTarget t → disk.block ≡ t.block → disk.buffer.list ≡ t.held → disk.buffer.capacity ≡ t.buffer →
    waiting_of owner t.waiting ≡ Some w → w.gathering ≡ Some g → IsHeldThere disk g
held-there owner disk t w g i b h k found has = record {
  free = λ kept.
      ap (λ n. overlap_of n (row_of g.admitted.command) (count_of g.admitted.command) disk.buffer.list) b
      ∙ ap (λ (l : List HeldBlocks). overlap_of t.block (row_of g.admitted.command) (count_of g.admitted.command) l) h ∙ (aside-found t owner w g i.aside found has kept).free;
  room = λ kept.
      let finds = aside-found t owner w g i.aside found has kept in
      let held : held_blocks disk.block disk.buffer.list ≡ held_blocks t.block t.held = ap (λ n. held_blocks n disk.buffer.list) b ∙ ap (λ (l : List HeldBlocks). held_blocks t.block l) h in
      le-ltb (disk.buffer.capacity - held_blocks disk.block disk.buffer.list) (count_of g.admitted.command) (omega (arith, finds.room, held, k));
}

by-gathering : (block rows owner len : ℕ) (disk : DiskState) (ws : List Waiting) (w : Waiting) (o : Option GatheringState) → disk.block ≡ block → disk.rows ≡ rows →
    waiting_of owner ws ≡ Some w → w.gathering ≡ o → w.owner ≡ owner → IsUnderWayIf block rows w.owner o → unwrap_or (option_map sends (Some w)) false ≡ false →
    IfSome o (λ (g : GatheringState). len ≡ size g.gather) →
    ((g : GatheringState) → w.gathering ≡ Some g → IsHeldThere disk g) → IsGathering disk owner len ws
by-gathering block rows owner len disk ws w None b r found has own way gathers fits there = absurd (false≢true (sym gathers ∙ ap (λ (o : Option GatheringState). is_none o) has))
by-gathering block rows owner len disk ws w (Some g) b r found has own way gathers fits there = record {
  waiting = w;
  gathering = g;
  waits = found;
  gathers = has;
  under_way = subst (λ n. IsUnderWay n disk.rows g) (sym b) (subst (λ n. IsUnderWay block n g) (sym r) way.1);
  own = way.0 ∙ own;
  size = fits;
  free = (there g has).free;
  room = (there g has).room;
}

by-waiting : (block rows owner len : ℕ) (disk : DiskState) (ws : List Waiting) (o : Option Waiting) → disk.block ≡ block → disk.rows ≡ rows →
    AllByRecursion (λ (w : Waiting). IsUnderWayIf block rows w.owner w.gathering) ws → waiting_of owner ws ≡ o → is_some o ≡ true →
    unwrap_or (option_map sends o) false ≡ false → IfSome o (λ (w : Waiting). IfSome w.gathering (λ (g : GatheringState). len ≡ size g.gather)) →
    ((w : Waiting) (g : GatheringState) → waiting_of owner ws ≡ Some w → w.gathering ≡ Some g → IsHeldThere disk g) → IsGathering disk owner len ws
by-waiting block rows owner len disk ws None b r all found some gathers fits there = absurd (false≢true some)
by-waiting block rows owner len disk ws (Some w) b r all found some gathers fits there =
    by-gathering block rows owner len disk ws w w.gathering b r found refl
    (eqb-true w.owner owner (found-passes (λ (x : Waiting). x.owner == owner) ws w found))
    (all-found (λ (x : Waiting). IsUnderWayIf block rows x.owner x.gathering) (λ (x : Waiting). x.owner == owner) ws w all found) gathers fits (λ g has. there w g found has)

-- an owner's command that waits, and has sent no delta, gathers
pub is-gathering : (owner len : ℕ) (disk : DiskState) (t : TargetState) → IsTarget t → disk.block ≡ t.block → disk.rows ≡ t.rows → disk.buffer.list ≡ t.held → disk.buffer.capacity ≡ t.buffer →
    is_some (waiting_of owner t.waiting) ≡ true → unwrap_or (option_map sends (waiting_of owner t.waiting)) false ≡ false →
    IfSome (waiting_of owner t.waiting) (λ (w : Waiting). IfSome w.gathering (λ (g : GatheringState). len ≡ size g.gather)) → IsGathering disk owner len t.waiting
is-gathering owner len disk t i b r h k some gathers fits =
    by-waiting t.block t.rows owner len disk t.waiting (waiting_of owner t.waiting) b r i.gathers refl some gathers fits (λ w g found has. held-there owner disk t w g i b h k found has)

some-same : {X : Type 0} (x y : X) → Some x ≡ Some y → x ≡ y
some-same x y h = cc

-- an owner has one gathering that is found
pub same-gathering : (owner : ℕ) (ws : List Waiting) (w v : Waiting) (g h : GatheringState) → waiting_of owner ws ≡ Some w → w.gathering ≡ Some g → waiting_of owner ws ≡ Some v → v.gathering ≡ Some h → g ≡ h
same-gathering owner ws w v g h found has found' has' =
    let same : w ≡ v = some-same w v (sym found ∙ found') in
    some-same g h (sym has ∙ ap (λ (x : Waiting). x.gathering) same ∙ has')

-- what is gathered is enough for its command
pub continued-possible : (disk : DiskState) (g : GatheringState) (made : List At) (bytes : List ℕ) (seen : ℕ) → IsUnderWay disk.block disk.rows g → length bytes ≡ size g.gather → IsHeldThere disk g →
    IsPossible disk (done_order g made bytes seen) g.admitted.command
continued-possible disk g made bytes seen u long there =
    let n = count_of g.admitted.command * disk.block in
    let same : length bytes ≡ n = long ∙ under-way-size disk.block disk.rows g u in
    gatherer-possible disk (done_order g made bytes seen) g.admitted.command u.gathers u.some u.within u.fits (done-length g made bytes seen n u.summed (omega (arith, same)) u.sized) there.free there.room

-- ---- what an order that gathers leaves

not-taken : (command : Command) → IsGatherer command → is_take command ≡ true → ⊥
not-taken (Rebuild dpo fua intdata lba count list) h taken = absurd cc
not-taken (Read dpo fua lba count) h taken = h
not-taken (Write dpo fua lba count) h taken = h
not-taken (XdWrite dpo fua disable lba count) h taken = h
not-taken (XpWrite dpo fua lba count) h taken = h
not-taken (XdRead lba count) h taken = h
not-taken (XdWriteRead dpo fua disable lba count) h taken = h
not-taken (ModeSelect pf sp list) h taken = h
not-taken (ModeSense dbd pc page allocation) h taken = h
not-taken (XdWriteExtended dpo fua disable lba second count address) h taken = h
not-taken (Regenerate dpo fua intdata lba count list) h taken = absurd cc

pub gathered-target : (never_fails : Bool) (t : TargetState) (order : Order) (command : Command) (answer : Answer) (after : TargetState) → IsTarget t →
    has_failed t.number t.past ≡ false → IsGatherer command → 1 ≤ count_of command → count_of command ≤ 65535 → row_of command + count_of command ≤ t.rows →
    row_of command + count_of command ≤ 2 ^ 32 → length (intermediate_in order.bytes) ≤ count_of command * t.block → (is_kept command ≡ true → FindsRoom t command) →
    IsFewWhereGone after.past answer → IsGathered never_fails t order command answer after → IsTarget after
gathered-target never_fails t order command answer after i sound gathers some counted within fits sized finds few (Alone g first none acted) =
    let n = count_of command * t.block in
    let sum : length g.gather.sum ≡ n = ap (λ (x : Gathering). length x.sum) first.gather ∙ length-replicate n 0 in
    let extra : length g.order.bytes ≤ n = subst (λ (b : List ℕ). length b ≤ n) (sym (ap (λ (o : Order). o.bytes) first.of_order)) sized in
    acted-target never_fails t (done_order g [] [] order.stamp) command answer after i sound
    (done-length g [] [] order.stamp n sum (omega arith) extra ∙ sym (gatherer-due t.block command gathers))
    (λ taken. absurd (not-taken command gathers taken)) finds few acted
gathered-target never_fails t order command answer after i sound gathers some counted within fits sized finds few (Begins g source first asks says waits) =
    subst (λ (x : TargetState). IsTarget x) (sym waits)
    (more-waiting t t.waiting (record { owner = order.owner; made = []; gathering = Some g }) i refl
    (aside-gathers t order.owner [] g (subst (λ (c : Command). is_kept c ≡ true → FindsRoom t c) (sym first.of_command) finds) i.aside)
    (ap (λ (o : Order). o.owner) first.of_order, first-under-way t.block t.rows order command g source first asks gathers some counted within fits sized))

-- ---- what a gathering that goes on leaves

-- each name before those that an act made
pub renamed-with : (never_fails : Bool) (t : TargetState) (order : Order) (command : Command) (answer : Answer) (after : TargetState) (made : List At) →
    IsActed never_fails t order command answer after → renamed (made ++ next_name t order.stamp ∷ []) answer ≡ with_names made answer
renamed-with never_fails t order command answer after made (Does bytes done says) =
    subst (λ (a : Answer). renamed (made ++ next_name t order.stamp ∷ []) a ≡ with_names made a) (sym says) refl
renamed-with never_fails t order command answer after made (Fails struck says) =
    subst (λ (a : Answer). renamed (made ++ next_name t order.stamp ∷ []) a ≡ with_names made a) (sym says) refl

pub few-renamed : (past : List Entry) (names : List At) (answer : Answer) → IsFewWhereGone past answer → IsFewWhereGone past (renamed names answer)
few-renamed past names (Good bytes made) few = tt
few-renamed past names (Check sense made loss) few = tt
few-renamed past names (Gone at life loss) few = few
few-renamed past names (Shut at) few = tt
few-renamed past names (Peer request made) few = tt
few-renamed past names Memory few = tt

few-named : (past : List Entry) (names : List At) (answer : Answer) → IsFewWhereGone past (with_names names answer) → IsFewWhereGone past answer
few-named past names (Good bytes made) few = tt
few-named past names (Check sense made loss) few = tt
few-named past names (Gone at life loss) few = few
few-named past names (Shut at) few = tt
few-named past names (Peer request made) few = tt
few-named past names Memory few = tt

continued-by : (never_fails : Bool) (t : TargetState) (owner : ℕ) (w : Waiting) (g : GatheringState) (bytes : List ℕ) (made : List At) (seen : ℕ) (answer : Answer) (after : TargetState) →
    IsTarget t → has_failed t.number t.past ≡ false → waiting_of owner t.waiting ≡ Some w → w.gathering ≡ Some g → (g.order.owner ≡ w.owner) × IsUnderWay t.block t.rows g →
    length bytes ≡ size g.gather → IsFewWhereGone after.past answer → IsContinued never_fails t owner w g bytes made seen answer after → IsTarget after
continued-by never_fails t owner w g bytes made seen answer after i sound waits gathers way long few (Asks source asks says now) =
    let changed : (x : Waiting) → waiting_of owner t.waiting ≡ Some x →
    IsUnderWayIf t.block t.rows x.owner (option_map (λ (y : GatheringState). accepted y bytes) x.gathering) =
    λ x found. subst (λ (y : Waiting). IsUnderWayIf t.block t.rows y.owner (option_map (λ (z : GatheringState). accepted z bytes) y.gathering)) (some-same w x (sym waits ∙ found))
    (subst (λ (o : Option GatheringState). IsUnderWayIf t.block t.rows w.owner (option_map (λ (z : GatheringState). accepted z bytes) o)) (sym gathers)
    (way.0, next-under-way t.block t.rows g bytes source way.1 long asks)) in
    subst (λ (x : TargetState). IsTarget x) (sym now)
    (waiting-target t (with_source owner (w.made ++ made) bytes t.waiting) i (aside-source t.block t.buffer owner t.held (w.made ++ made) bytes t.waiting i.aside)
    (all-with-source (λ (x : Waiting). IsUnderWayIf t.block t.rows x.owner x.gathering) owner (w.made ++ made) bytes t.waiting i.gathers changed))
continued-by never_fails t owner w g bytes made seen answer after i sound waits gathers way long few (Finishes done none acted says) =
    let command = g.admitted.command in
    let n = count_of command * t.block in
    let u = way.1 in
    let size : length bytes ≡ n = long ∙ under-way-size t.block t.rows g u in
    acted-target never_fails (no_longer t owner) (done_order g (w.made ++ made) bytes seen) command done after
    (waiting-target t (without_owner owner t.waiting) i (aside-left t.block t.buffer t.held (λ (x : Waiting). not (x.owner == owner)) t.waiting i.aside)
    (all-filtered (λ (x : Waiting). IsUnderWayIf t.block t.rows x.owner x.gathering) (λ (x : Waiting). not (x.owner == owner)) t.waiting i.gathers))
    sound (done-length g (w.made ++ made) bytes seen n u.summed (omega (arith, size)) u.sized ∙ sym (gatherer-due t.block command u.gathers))
    (λ taken. absurd (not-taken command u.gathers taken)) (aside-found t owner w g i.aside waits gathers)
    (few-named after.past (w.made ++ made) done (subst (λ (a : Answer). IsFewWhereGone after.past a) says few)) acted

-- a gathering that goes on leaves a target
pub continued-target : (never_fails : Bool) (t : TargetState) (owner : ℕ) (bytes : List ℕ) (made : List At) (seen : ℕ) (answer : Answer) (after : TargetState) → IsTarget t →
    has_failed t.number t.past ≡ false → IfSome (waiting_of owner t.waiting) (λ (w : Waiting). IfSome w.gathering (λ (g : GatheringState). length bytes ≡ size g.gather)) →
    IsFewWhereGone after.past answer → HasContinued never_fails t owner bytes made seen answer after → IsTarget after
continued-target never_fails t owner bytes made seen answer after i sound fits few h =
    let w = h.waiting in
    let found = all-found (λ (x : Waiting). IsUnderWayIf t.block t.rows x.owner x.gathering) (λ (x : Waiting). x.owner == owner) t.waiting w i.gathers h.waits in
    let way = subst (λ (o : Option GatheringState). IsUnderWayIf t.block t.rows w.owner o) h.gathers found in
    let own = subst (λ (o : Option Waiting). IfSome o (λ (x : Waiting). IfSome x.gathering (λ (g : GatheringState). length bytes ≡ size g.gather))) h.waits fits in
    let long = subst (λ (o : Option GatheringState). IfSome o (λ (g : GatheringState). length bytes ≡ size g.gather)) h.gathers own in
    continued-by never_fails t owner w h.gathering bytes made seen answer after i sound h.waits h.gathers way long few h.continued
