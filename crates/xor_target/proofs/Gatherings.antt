-- What a gathering takes in, and what its command has in the end.
use Rattle.std.specs.Prelude.{◌≡◌, ◌<◌, ◌≤◌, ◌+◌, ◌-◌, ◌*◌, ◌^◌, nat_lt, ℕ, zero, suc, Bool, true, false, List, [], ◌∷◌, length, replicate, drop, Some, None, Result, Ok, Err, IsOk, IfErr, slice_get, slice_set}
use Rattle.std.proofs.Common.{refl, ap, sym, ◌∙◌, subst, arith, length-drop}
use Rattle.std.proofs.lemmas.List.{length-map, length-replicate}
use Rattle.blocks_core.specs.Xor.{xor, zeros}
use Rattle.blocks_core.proofs.XorLaws.{length-xor, xor-nil_r, xor-zeros_l}
use Rattle.sbc_cdbs.specs.Kinds.{is_kept}
use Rattle.xor_buffers.specs.Held.{overlap_of, held_blocks}
use Rattle.sbc_cdbs.specs.declared.commands.Command.{Command}
use Rattle.sbc_cdbs.specs.declared.commands.Command.TheVariants.{Read, Write, XdWrite, XpWrite, XdRead, XdWriteRead, ModeSelect, ModeSense, XdWriteExtended, Rebuild, Regenerate}
use Rattle.array_journal.specs.declared.at.At.{At}
use Rattle.xor_params.specs.declared.sources.Descriptor.{Descriptor}
use Rattle.xor_params.specs.ParameterLists.{announced_sources, announced_room, data_due}
use Rattle.xor_params.specs.Contents.{descriptors_in, source_in, sources_in, intermediate_in}
use Rattle.xor_params.specs.ListFaults.{list_fault}
use Rattle.xor_params.proofs.ListFaults.{sound-whole}
use Rattle.xor_params.proofs.TableLemmas.{length-chunks}
use Rattle.regen_rebuild.specs.declared.gather.GatherFault.{GatherFault}
use Rattle.regen_rebuild.specs.declared.gather.GatherFault.TheVariants.{Stranger, Double, Size}
use Rattle.regen_rebuild.specs.Gatherings.{Gathering, Awaits, Meets, accepted_one, fresh, size}
use Rattle.xor_target.specs.declared.order.Order.{Order}
use Rattle.xor_target.specs.Admission.{row_of, count_of}
use Rattle.xor_target.specs.Disks.{DiskState}
use Rattle.xor_target.specs.Acts.{IsPossible, bytes_due}
use Rattle.xor_target.specs.Gathers.{GatheringState, AwaitsRest, IsFirst, IsUnderWay, IsGatherer, accepted, done_order}
use Rattle.xor_target.proofs.WaitLists.{past-end}

-- ---- the sources that haven't answered

same-at : {X : Type 0} (n k : ℕ) (x : X) → k < n → slice_get (replicate n x) k ≡ Some x
same-at zero k x h = absurd (omega arith)
same-at (suc n) zero x h = refl
same-at (suc n) (suc k) x h = same-at n k x (omega arith)

other-at : {X : Type 0} (xs : List X) (i k : ℕ) (x : X) → i < k → slice_get (slice_set xs i x) k ≡ slice_get xs k
other-at [] i k x h = refl
other-at (y ∷ xs) zero zero x h = absurd (omega arith)
other-at (y ∷ xs) zero (suc k) x h = refl
other-at (y ∷ xs) (suc i) zero x h = absurd (omega arith)
other-at (y ∷ xs) (suc i) (suc k) x h = other-at xs i k x (omega arith)

pub first-awaits : (sources : List Descriptor) (g : Gathering) (block count n : ℕ) → length sources ≡ n → n ≤ 255 → g ≡ fresh block count n → AwaitsRest 0 sources g
first-awaits sources g block count n same few is = record {
  few = omega (arith, same, few);
  some = omega arith;
  rest = λ k from within. subst (λ (x : Gathering). Awaits x k) (sym is) (same-at n k false (omega (arith, same, within)));
}

pub next-awaits : (answered : ℕ) (sources : List Descriptor) (g next : Gathering) (bytes : List ℕ) → AwaitsRest answered sources g → answered < length sources →
    next ≡ accepted_one g answered bytes → AwaitsRest (answered + 1) sources next
next-awaits answered sources g next bytes h asks is = record {
  few = h.few;
  some = omega arith;
  rest = λ k from within. subst (λ (x : Gathering). Awaits x k) (sym is) (other-at g.accepted answered k true (omega (arith, from)) ∙ h.rest k (omega (arith, from)) within);
}

-- what is awaited, and as long as its blocks, meets no fault
pub no-meets : (g : Gathering) (source len : ℕ) (f : GatherFault) → Awaits g source → len ≡ size g → Meets g source len f → ⊥
no-meets g source len (Stranger s) awaits same m =
    let none : slice_get g.accepted source ≡ None = past-end g.accepted source m.1 in
    absurd cc
no-meets g source len (Double s) awaits same m = let taken : slice_get g.accepted source ≡ Some true = m.1 in absurd cc
no-meets g source len (Size want got) awaits same m = m.3 same

pub no-refusal : {A E : Type 0} (r : Result A E) (P : E → Type 0) → IfErr r P → ((e : E) → P e → ⊥) → IsOk r
no-refusal (Ok a) P h never = refl
no-refusal (Err e) P h never = absurd (never e h)

-- ---- how many sources and bytes a list has

pub sources-length : (bytes : List ℕ) → length (sources_in bytes) ≡ announced_sources bytes
sources-length bytes = length-map (descriptors_in bytes) source_in ∙ length-chunks 16 (announced_sources bytes) (drop 4 bytes)

due-at-most : (intdata : Bool) (wanted : ℕ) → data_due intdata wanted ≤ wanted
due-at-most true wanted = omega arith
due-at-most false wanted = omega arith

pub intermediate-length : (bytes : List ℕ) (intdata : Bool) (wanted : ℕ) → list_fault bytes intdata wanted ≡ None → length (intermediate_in bytes) ≤ wanted
intermediate-length bytes intdata wanted h =
    let whole : length bytes ≡ 4 + announced_room bytes + data_due intdata wanted = sound-whole bytes intdata wanted h in
    omega (arith, length-drop (4 + announced_room bytes) bytes, whole, due-at-most intdata wanted)

-- ---- what was gathered

-- exclusive-or others that are no longer
shorter-length : (a b : List ℕ) → length b ≤ length a → length (xor a b) ≡ length a
shorter-length a [] h = ap length (xor-nil_r a)
shorter-length [] (y ∷ b) h = absurd (omega arith)
shorter-length (x ∷ a) (y ∷ b) h = ap suc (shorter-length a b (omega arith))

pub done-length : (g : GatheringState) (made : List At) (last : List ℕ) (stamp n : ℕ) → length g.gather.sum ≡ n → length last ≤ n → length g.order.bytes ≤ n →
    length (done_order g made last stamp).bytes ≡ n
done-length g made last stamp n sum shorter extra =
    let one : length (xor g.gather.sum last) ≡ length g.gather.sum = shorter-length g.gather.sum last (omega (arith, sum, shorter)) in
    shorter-length (xor g.gather.sum last) g.order.bytes (omega (arith, one, sum, extra)) ∙ one ∙ sum

-- the exclusive-or as it is made: beginning with zeros
pub made-sum : (sum last extra : List ℕ) → xor (xor (xor (zeros (length sum)) sum) last) extra ≡ xor (xor sum last) extra
made-sum sum last extra = ap (λ s. xor (xor s last) extra) (xor-zeros_l (length sum) sum refl)

pub gatherer-due : (block : ℕ) (command : Command) → IsGatherer command → bytes_due block command ≡ count_of command * block
gatherer-due block (Read dpo fua lba count) h = absurd h
gatherer-due block (Write dpo fua lba count) h = absurd h
gatherer-due block (XdWrite dpo fua disable lba count) h = absurd h
gatherer-due block (XpWrite dpo fua lba count) h = absurd h
gatherer-due block (XdRead lba count) h = absurd h
gatherer-due block (XdWriteRead dpo fua disable lba count) h = absurd h
gatherer-due block (ModeSelect pf sp list) h = absurd h
gatherer-due block (ModeSense dbd pc page allocation) h = absurd h
gatherer-due block (XdWriteExtended dpo fua disable lba second count address) h = absurd h
gatherer-due block (Rebuild dpo fua intdata lba count list) h = refl
gatherer-due block (Regenerate dpo fua intdata lba count list) h = refl

-- a command that gathers can be done with as many bytes as its blocks have, where what it would hold is free and finds room
pub gatherer-possible : (disk : DiskState) (order : Order) (command : Command) → IsGatherer command → 1 ≤ count_of command →
    row_of command + count_of command ≤ disk.rows → row_of command + count_of command ≤ 2 ^ 32 → length order.bytes ≡ count_of command * disk.block →
    (is_kept command ≡ true → overlap_of disk.block (row_of command) (count_of command) disk.buffer.list ≡ None) →
    (is_kept command ≡ true → nat_lt (disk.buffer.capacity - held_blocks disk.block disk.buffer.list) (count_of command) ≡ false) →
    IsPossible disk order command
gatherer-possible disk order (Read dpo fua lba count) h some within fits long free room = absurd h
gatherer-possible disk order (Write dpo fua lba count) h some within fits long free room = absurd h
gatherer-possible disk order (XdWrite dpo fua disable lba count) h some within fits long free room = absurd h
gatherer-possible disk order (XpWrite dpo fua lba count) h some within fits long free room = absurd h
gatherer-possible disk order (XdRead lba count) h some within fits long free room = absurd h
gatherer-possible disk order (XdWriteRead dpo fua disable lba count) h some within fits long free room = absurd h
gatherer-possible disk order (ModeSelect pf sp list) h some within fits long free room = absurd h
gatherer-possible disk order (ModeSense dbd pc page allocation) h some within fits long free room = absurd h
gatherer-possible disk order (XdWriteExtended dpo fua disable lba second count address) h some within fits long free room = absurd h
gatherer-possible disk order (Rebuild dpo fua intdata lba count list) h some within fits long free room = record {
  blocks = tt;
  some = some;
  within = within;
  fits = fits;
  due = long;
  free = free;
  room = room;
  held = λ taken none. absurd cc;
}
gatherer-possible disk order (Regenerate dpo fua intdata lba count list) h some within fits long free room = record {
  blocks = tt;
  some = some;
  within = within;
  fits = fits;
  due = long;
  free = free;
  room = room;
  held = λ taken none. absurd cc;
}

-- ---- the first gathering of an order

some-first : (sources : List Descriptor) (source : Descriptor) → slice_get sources 0 ≡ Some source → 0 < length sources
some-first [] source h = absurd cc
some-first (d ∷ sources) source h = omega arith

pub within-get : (sources : List Descriptor) (k : ℕ) (source : Descriptor) → slice_get sources k ≡ Some source → k < length sources
within-get [] k source h = absurd cc
within-get (d ∷ sources) zero source h = omega arith
within-get (d ∷ sources) (suc k) source h = let below : k < length sources = within-get sources k source h in omega arith

-- it asks a source, and its command can be done with what it gathers
pub first-under-way : (block rows : ℕ) (order : Order) (command : Command) (g : GatheringState) (source : Descriptor) → IsFirst block order command g →
    slice_get g.sources 0 ≡ Some source → IsGatherer command → 1 ≤ count_of command → count_of command ≤ 65535 →
    row_of command + count_of command ≤ rows → row_of command + count_of command ≤ 2 ^ 32 → length (intermediate_in order.bytes) ≤ count_of command * block →
    IsUnderWay block rows g
first-under-way block rows order command g source first asks gathers some counted within fits sized = record {
  gathers = subst IsGatherer (sym first.of_command) gathers;
  sent = first.sent ∙ sym (ap (λ (o : Order). o.cdb) first.of_order);
  asks = subst (λ n. n < length g.sources) (sym first.answered) (some-first g.sources source asks);
  some = subst (λ (c : Command). 1 ≤ count_of c) (sym first.of_command) some;
  counted = subst (λ (c : Command). count_of c ≤ 65535) (sym first.of_command) counted;
  within = subst (λ (c : Command). row_of c + count_of c ≤ rows) (sym first.of_command) within;
  fits = subst (λ (c : Command). row_of c + count_of c ≤ 2 ^ 32) (sym first.of_command) fits;
  block_size = ap (λ (x : Gathering). x.block) first.gather;
  block_count = ap (λ (x : Gathering). x.count) first.gather ∙ ap count_of (sym first.of_command);
  sized = subst (λ (c : Command). length g.order.bytes ≤ count_of c * block) (sym first.of_command)
      (subst (λ (b : List ℕ). length b ≤ count_of command * block) (sym (ap (λ (o : Order). o.bytes) first.of_order)) sized);
  summed =
      ap (λ (x : Gathering). length x.sum) first.gather ∙ length-replicate (count_of command * block) 0
      ∙ ap (λ (c : Command). count_of c * block) (sym first.of_command);
}

-- as many bytes as its blocks have
pub under-way-size : (block rows : ℕ) (g : GatheringState) → IsUnderWay block rows g → size g.gather ≡ count_of g.admitted.command * block
under-way-size block rows g u = ap (λ n. n * g.gather.block) u.block_count ∙ ap (λ b. count_of g.admitted.command * b) u.block_size

-- the same with one more source, where a further one is asked
pub next-under-way : (block rows : ℕ) (g : GatheringState) (bytes : List ℕ) (source : Descriptor) → IsUnderWay block rows g → length bytes ≡ size g.gather →
    slice_get g.sources (g.answered + 1) ≡ Some source → IsUnderWay block rows (accepted g bytes)
next-under-way block rows g bytes source u long asks = record {
  gathers = u.gathers;
  sent = u.sent;
  asks = within-get g.sources (g.answered + 1) source asks;
  some = u.some;
  counted = u.counted;
  within = u.within;
  fits = u.fits;
  block_size = u.block_size;
  block_count = u.block_count;
  sized = u.sized;
  summed = length-xor g.gather.sum bytes (u.summed ∙ sym (under-way-size block rows g u) ∙ sym long) ∙ u.summed;
}

-- what has no sources can be done with its intermediate data alone
pub alone-possible : (disk : DiskState) (order : Order) (command : Command) (g : GatheringState) (stamp : ℕ) → IsFirst disk.block order command g → IsGatherer command → 1 ≤ count_of command →
    row_of command + count_of command ≤ disk.rows → row_of command + count_of command ≤ 2 ^ 32 → length (intermediate_in order.bytes) ≤ count_of command * disk.block →
    (is_kept command ≡ true → overlap_of disk.block (row_of command) (count_of command) disk.buffer.list ≡ None) →
    (is_kept command ≡ true → nat_lt (disk.buffer.capacity - held_blocks disk.block disk.buffer.list) (count_of command) ≡ false) →
    IsPossible disk (done_order g [] [] stamp) g.admitted.command
alone-possible disk order command g stamp first gathers some within fits sized free room =
    let n = count_of command * disk.block in
    let sum : length g.gather.sum ≡ n = ap (λ (x : Gathering). length x.sum) first.gather ∙ length-replicate n 0 in
    let extra : length g.order.bytes ≤ n = subst (λ (b : List ℕ). length b ≤ n) (sym (ap (λ (o : Order). o.bytes) first.of_order)) sized in
    subst (λ (c : Command). IsPossible disk (done_order g [] [] stamp) c) (sym first.of_command)
    (gatherer-possible disk (done_order g [] [] stamp) command gathers some within fits (done-length g [] [] stamp n sum (omega arith) extra) free room)

-- there are no sources where there is no first
pub no-sources : (sources : List Descriptor) → slice_get sources 0 ≡ None → sources ≡ []
no-sources [] h = refl
no-sources (d ∷ sources) h = absurd cc
