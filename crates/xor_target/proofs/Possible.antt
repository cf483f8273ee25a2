-- What nothing is said to before can be done.
use Rattle.std.specs.Prelude.{◌≡◌, ◌==◌, ◌&&◌, ◌||◌, ◌≤◌, ◌-◌, ◌*◌, ℕ, Bool, true, false, List, [], ◌∷◌, length, Option, Some, None, option_map, is_some, is_none}
use Rattle.std.specs.Bool.{then_some}
use Rattle.std.proofs.Common.{refl, ap, sym, ◌∙◌, subst, arith}
use Rattle.std.proofs.lemmas.Bool.{false≢true, eq-eqb, ltb-false, le-ltb}
use Rattle.sbc_cdbs.specs.declared.commands.Command.{Command}
use Rattle.sbc_cdbs.specs.declared.commands.Command.TheVariants.{Read, Write, XdWrite, XpWrite, XdRead, XdWriteRead, ModeSelect, ModeSense, XdWriteExtended, Rebuild, Regenerate}
use Rattle.sbc_cdbs.specs.Kinds.{block_count, is_kept}
use Rattle.xor_mode_page.specs.declared.pages.XorPage.{XorPage}
use Rattle.xor_buffers.specs.Held.{overlap_of, holder_of, held_blocks}
use Rattle.xor_params.specs.Contents.{HasRoom, intermediate_in}
use Rattle.array_journal.specs.Lives.{loss_of}
use Rattle.xor_target.specs.declared.answer.Answer.{Answer}
use Rattle.xor_target.specs.declared.admission.Admitted.{Admitted}
use Rattle.xor_target.specs.declared.order.Order.{Order}
use Rattle.xor_target.specs.Admission.{command_in, row_of, count_of, data_due, HasSoundList}
use Rattle.xor_target.specs.Disks.{DiskState}
use Rattle.xor_target.specs.Logs.{Logged}
use Rattle.xor_target.specs.declared.waiting.Waiting.{Waiting}
use Rattle.xor_target.specs.State.{TargetState, IsTarget, state_of, limits_of, has_failed}
use Rattle.xor_target.specs.Table.{first_answer, refused_row, shut_row, gone_row, idle_row, overlap_row, room_row, unheld_row, early_answer, is_no_blocks, is_take}
use Rattle.xor_target.specs.Acts.{IsAdmitted, IsPossible, IsGatherable, MovesBlocks, BringsBlocks, bytes_due}
use Rattle.xor_target.specs.declared.limits.TargetLimits.{TargetLimits}
use Rattle.xor_target.specs.Gathers.{IsGatherer}
use Rattle.xor_target.specs.Resumes.{ended_answer}
use Rattle.xor_target.specs.Waits.{overlaps_aside, aside_blocks}
use Rattle.xor_target.proofs.AsideStates.{FindsRoom}
use Rattle.xor_target.proofs.Gatherings.{intermediate-length}
use Rattle.xor_target.proofs.Recorded.{present-sound}

-- no row answers where the table doesn't
first-none : (o : Option Answer) (rows : List (Option Answer)) → first_answer (o ∷ rows) ≡ None → (o ≡ None) × (first_answer rows ≡ None)
first-none None rows h = (refl, h)
first-none (Some answer) rows h = absurd cc

-- what is said under a test that fails isn't said
pub unsaid : {A : Type 0} (b : Bool) (a : A) → then_some b a ≡ None → b ≡ false
unsaid true a h = absurd cc
unsaid false a h = refl

second-false : (a b : Bool) → (a && b) ≡ false → a ≡ true → b ≡ false
second-false true b h e = h
second-false false b h e = absurd cc

no-option : {A : Type 0} (o : Option A) → is_some o ≡ false → o ≡ None
no-option None h = refl
no-option (Some a) h = absurd cc

no-map : {A B : Type 0} (f : A → B) (o : Option A) → option_map f o ≡ None → o ≡ None
no-map f None h = refl
no-map f (Some a) h = absurd cc

nonzero : (n : ℕ) → (n == 0) ≡ false → 1 ≤ n
nonzero n h = let other : n ≡ 0 → ⊥ = λ e. absurd (false≢true (sym h ∙ eq-eqb n 0 e)) in omega (arith, other)

some-of : (command : Command) → MovesBlocks command → is_no_blocks (block_count command) ≡ false → 1 ≤ count_of command
some-of (Read dpo fua lba count) moves h = nonzero count h
some-of (Write dpo fua lba count) moves h = nonzero count h
some-of (XdWrite dpo fua disable lba count) moves h = nonzero count h
some-of (XpWrite dpo fua lba count) moves h = nonzero count h
some-of (XdRead lba count) moves h = nonzero count h
some-of (XdWriteRead dpo fua disable lba count) moves h = nonzero count h
some-of (ModeSelect pf sp list) moves h = absurd moves
some-of (ModeSense dbd pc page allocation) moves h = absurd moves
some-of (XdWriteExtended dpo fua disable lba second count address) moves h = nonzero count h
some-of (Rebuild dpo fua intdata lba count list) moves h = nonzero count h
some-of (Regenerate dpo fua intdata lba count list) moves h = nonzero count h

moves-of : (command : Command) → BringsBlocks command → MovesBlocks command
moves-of (Read dpo fua lba count) b = b
moves-of (Write dpo fua lba count) b = b
moves-of (XdWrite dpo fua disable lba count) b = b
moves-of (XpWrite dpo fua lba count) b = b
moves-of (XdRead lba count) b = b
moves-of (XdWriteRead dpo fua disable lba count) b = b
moves-of (ModeSelect pf sp list) b = b
moves-of (ModeSense dbd pc page allocation) b = b
moves-of (XdWriteExtended dpo fua disable lba second count address) b = b
moves-of (Rebuild dpo fua intdata lba count list) b = absurd b
moves-of (Regenerate dpo fua intdata lba count list) b = absurd b

pub due-of : (block : ℕ) (command : Command) → BringsBlocks command → data_due block command ≡ bytes_due block command
due-of block (Read dpo fua lba count) b = refl
due-of block (Write dpo fua lba count) b = refl
due-of block (XdWrite dpo fua disable lba count) b = refl
due-of block (XpWrite dpo fua lba count) b = refl
due-of block (XdRead lba count) b = refl
due-of block (XdWriteRead dpo fua disable lba count) b = refl
due-of block (ModeSelect pf sp list) b = refl
due-of block (ModeSense dbd pc page allocation) b = refl
due-of block (XdWriteExtended dpo fua disable lba second count address) b = refl
due-of block (Rebuild dpo fua intdata lba count list) b = absurd b
due-of block (Regenerate dpo fua intdata lba count list) b = absurd b

-- the rows of the table, of an order that none of them answers
record Unsaid (t : TargetState) (order : Order) (command : Command) : Type 0 where
  shut : shut_row t order.owner ≡ None
  gone : gone_row t order.owner ≡ None
  idle : idle_row command ≡ None
  overlap : overlap_row t order command ≡ None
  room : room_row t order command ≡ None
  unheld : unheld_row t order command ≡ None

all-unsaid : (t : TargetState) (order : Order) → early_answer t order ≡ None → Unsaid t order (command_in order.cdb)
all-unsaid t order h =
    let command = command_in order.cdb in
    let a = first-none (refused_row t order) (shut_row t order.owner ∷ gone_row t order.owner ∷ idle_row command ∷ overlap_row t order command ∷ room_row t order command ∷ unheld_row t order command ∷ []) h in
    let b = first-none (shut_row t order.owner) (gone_row t order.owner ∷ idle_row command ∷ overlap_row t order command ∷ room_row t order command ∷ unheld_row t order command ∷ []) a.1 in
    let c = first-none (gone_row t order.owner) (idle_row command ∷ overlap_row t order command ∷ room_row t order command ∷ unheld_row t order command ∷ []) b.1 in
    let d = first-none (idle_row command) (overlap_row t order command ∷ room_row t order command ∷ unheld_row t order command ∷ []) c.1 in
    let e = first-none (overlap_row t order command) (room_row t order command ∷ unheld_row t order command ∷ []) d.1 in
    let f = first-none (room_row t order command) (unheld_row t order command ∷ []) e.1 in
    let g = first-none (unheld_row t order command) [] f.1 in
    record { shut = b.0; gone = c.0; idle = d.0; overlap = e.0; room = f.0; unheld = g.0 }

-- an order that is to be done meets a medium that didn't fail
pub admitted-sound : (t : TargetState) (order : Order) → early_answer t order ≡ None → has_failed t.number t.past ≡ false
admitted-sound t order h = present-sound t.number t.past (no-map _ (loss_of t.number t.past) (all-unsaid t order h).gone)

-- and what it would take is held
pub admitted-held : (t : TargetState) (order : Order) (command : Command) → early_answer t order ≡ None → command ≡ command_in order.cdb → is_take command ≡ true →
    holder_of t.block (row_of command) (count_of command * t.block) t.held ≡ None → ⊥
admitted-held t order command h is take none =
    let u = subst (λ (c : Command). Unsaid t order c) (sym is) (all-unsaid t order h) in
    let some = second-false (is_take command) (is_none (holder_of t.block (row_of command) (count_of command * t.block) t.held)) (unsaid _ _ u.unheld) take in
    false≢true (sym some ∙ ap is_none none)

first-false : (a b : Bool) → (a || b) ≡ false → (a ≡ false) × (b ≡ false)
first-false true b h = absurd (false≢true (sym h))
first-false false b h = (refl, h)

-- no row of what it would hold is held or set aside
unsaid-free : (t : TargetState) (order : Order) (command : Command) → overlap_row t order command ≡ None → is_kept command ≡ true →
    (overlap_of t.block (row_of command) (count_of command) t.held ≡ None) × (overlaps_aside (row_of command) (count_of command) t.waiting ≡ false)
unsaid-free t order command h kept =
    let none = first-false (is_some (overlap_of t.block (row_of command) (count_of command) t.held)) _ (second-false (is_kept command) _ (unsaid _ _ h) kept) in
    (no-option (overlap_of t.block (row_of command) (count_of command) t.held) none.0, none.1)

-- and there is room for it besides what is held and set aside
unsaid-room : (t : TargetState) (order : Order) (command : Command) → room_row t order command ≡ None → is_kept command ≡ true →
    count_of command ≤ t.buffer - held_blocks t.block t.held - aside_blocks t.waiting
unsaid-room t order command h kept =
    ltb-false (t.buffer - held_blocks t.block t.held - aside_blocks t.waiting) (count_of command) (second-false (is_kept command) _ (unsaid _ _ h) kept)

-- an order that is to be done may hold what it would hold
pub admitted-finds : (t : TargetState) (order : Order) (command : Command) → IsTarget t → early_answer t order ≡ None → command ≡ command_in order.cdb → 1 ≤ count_of command →
    is_kept command ≡ true → FindsRoom t command
admitted-finds t order command i h is some kept =
    let u = subst (λ (c : Command). Unsaid t order c) (sym is) (all-unsaid t order h) in
    let free = unsaid-free t order command u.overlap kept in
    record { free = free.0; apart = free.1; room = omega (arith, unsaid-room t order command u.room kept, some, i.aside.room) }

pub admitted-possible : (n : ℕ) (f p : XorPage) (w : List Waiting) (disk : DiskState) (log : Logged) (order : Order) (admitted : Admitted) → IsAdmitted (state_of n f p w disk log) order admitted →
    BringsBlocks admitted.command → IsPossible disk order admitted.command
admitted-possible n f p w disk log order admitted a brings =
    let t = state_of n f p w disk log in
    let command = admitted.command in
    let u = subst (λ (c : Command). Unsaid t order c) (sym a.command) (all-unsaid t order a.early) in
    record {
      blocks = moves-of command brings;
      some = some-of command (moves-of command brings) (unsaid (is_no_blocks (block_count command)) _ u.idle);
      within = a.within;
      fits = a.fits;
      due = a.due ∙ due-of disk.block command brings;
      free = λ kept. (unsaid-free t order command u.overlap kept).0;
      room = λ kept. le-ltb (disk.buffer.capacity - held_blocks disk.block disk.buffer.list) (count_of command) (omega (arith, unsaid-room t order command u.room kept));
      held = admitted-held t order command a.early a.command;
    }

-- its owner wasn't shut, and the disk isn't lost
pub admitted-open : (t : TargetState) (order : Order) → early_answer t order ≡ None → ended_answer t order.owner ≡ None
admitted-open t order h =
    let u = all-unsaid t order h in
    ap (λ (o : Option Answer). first_answer (o ∷ gone_row t order.owner ∷ [])) u.shut ∙ ap (λ (o : Option Answer). first_answer (None ∷ o ∷ [])) u.gone

-- an owner that isn't told that it was shut, or its disk lost, meets a medium that didn't fail
pub ended-sound : (t : TargetState) (owner : ℕ) → ended_answer t owner ≡ None → has_failed t.number t.past ≡ false
ended-sound t owner h =
    let a = first-none (shut_row t owner) (gone_row t owner ∷ []) h in
    let b = first-none (gone_row t owner) [] a.1 in
    present-sound t.number t.past (no-map _ (loss_of t.number t.past) b.0)

-- ---- what gathers

gatherer-moves : (command : Command) → IsGatherer command → MovesBlocks command
gatherer-moves (Read dpo fua lba count) h = absurd h
gatherer-moves (Write dpo fua lba count) h = absurd h
gatherer-moves (XdWrite dpo fua disable lba count) h = absurd h
gatherer-moves (XpWrite dpo fua lba count) h = absurd h
gatherer-moves (XdRead lba count) h = absurd h
gatherer-moves (XdWriteRead dpo fua disable lba count) h = absurd h
gatherer-moves (ModeSelect pf sp list) h = absurd h
gatherer-moves (ModeSense dbd pc page allocation) h = absurd h
gatherer-moves (XdWriteExtended dpo fua disable lba second count address) h = absurd h
gatherer-moves (Rebuild dpo fua intdata lba count list) h = tt
gatherer-moves (Regenerate dpo fua intdata lba count list) h = tt

-- it has some blocks
pub admitted-some : (t : TargetState) (order : Order) (command : Command) → early_answer t order ≡ None → command_in order.cdb ≡ command → IsGatherer command → 1 ≤ count_of command
admitted-some t order command h is gathers =
    let u = subst (λ (c : Command). Unsaid t order c) is (all-unsaid t order h) in
    some-of command (gatherer-moves command gathers) (unsaid (is_no_blocks (block_count command)) _ u.idle)

-- its list is sound
gatherer-list : (limits : TargetLimits) (command : Command) (bytes : List ℕ) → IsGatherer command → 1 ≤ count_of command → HasSoundList limits command bytes →
    HasRoom bytes × (length (intermediate_in bytes) ≤ count_of command * limits.block)
gatherer-list limits (Read dpo fua lba count) bytes h some sound = absurd h
gatherer-list limits (Write dpo fua lba count) bytes h some sound = absurd h
gatherer-list limits (XdWrite dpo fua disable lba count) bytes h some sound = absurd h
gatherer-list limits (XpWrite dpo fua lba count) bytes h some sound = absurd h
gatherer-list limits (XdRead lba count) bytes h some sound = absurd h
gatherer-list limits (XdWriteRead dpo fua disable lba count) bytes h some sound = absurd h
gatherer-list limits (ModeSelect pf sp list) bytes h some sound = absurd h
gatherer-list limits (ModeSense dbd pc page allocation) bytes h some sound = absurd h
gatherer-list limits (XdWriteExtended dpo fua disable lba second count address) bytes h some sound = absurd h
gatherer-list limits (Rebuild dpo fua intdata lba count list) bytes h some sound =
    let sources = sound some in
    (sources.room, intermediate-length bytes intdata (count * limits.block) sources.sound)
gatherer-list limits (Regenerate dpo fua intdata lba count list) bytes h some sound =
    let sources = sound some in
    (sources.room, intermediate-length bytes intdata (count * limits.block) sources.sound)

pub admitted-gatherable : (n : ℕ) (f p : XorPage) (w : List Waiting) (disk : DiskState) (log : Logged) (order : Order) (admitted : Admitted) →
    IsAdmitted (state_of n f p w disk log) order admitted → IsGatherer admitted.command → IsGatherable disk order admitted
admitted-gatherable n f p w disk log order admitted a gathers =
    let t = state_of n f p w disk log in
    let command = admitted.command in
    let u = subst (λ (c : Command). Unsaid t order c) (sym a.command) (all-unsaid t order a.early) in
    let some = some-of command (gatherer-moves command gathers) (unsaid (is_no_blocks (block_count command)) _ u.idle) in
    let list = gatherer-list (limits_of t) command order.bytes gathers some a.listed in
    record {
      gathers = gathers;
      sent = a.sent;
      list = list.0;
      some = some;
      counted = a.counted;
      within = a.within;
      fits = a.fits;
      sized = list.1;
      free = λ kept. (unsaid-free t order command u.overlap kept).0;
      room = λ kept. le-ltb (disk.buffer.capacity - held_blocks disk.block disk.buffer.list) (count_of command) (omega (arith, unsaid-room t order command u.room kept));
    }
