-- What the calls of a disk leave, one after the other.
use Rattle.std.specs.Prelude.{◌≡◌, ◌+◌, ℕ, List, [], ◌∷◌, ◌++◌, Option}
use Rattle.std.proofs.Common.{ap, sym, ◌∙◌, subst}
use Rattle.xor_buffers.specs.declared.held.HeldBlocks.{HeldBlocks}
use Rattle.xor_buffers.specs.Held.{held_blocks}
use Rattle.xor_target.specs.Disks.{DiskState}

-- a disk with other bytes, count of failures, slots and held blocks
abbrev pub disk_with : DiskState → Option (List ℕ) → ℕ → ℕ → List HeldBlocks → DiskState
disk_with d contents faults slots list = record d { contents = contents; faults = faults; buffer = record d.buffer { slots = slots; list = list } }

-- these may be named by the disk itself
pub by-itself : (d h : DiskState) (contents : Option (List ℕ)) (faults slots : ℕ) (list : List HeldBlocks) →
    h ≡ disk_with d contents faults slots list → h ≡ disk_with d h.contents h.faults h.buffer.slots list
by-itself d h contents faults slots list e =
    subst (λ (z : DiskState). h ≡ disk_with d z.contents z.faults z.buffer.slots list) (sym e) e

-- slots are reserved, the medium is read and written, and blocks are held
pub held-last : (d r m w h : DiskState) (x y : HeldBlocks) → r ≡ record d { buffer = record d.buffer { slots = r.buffer.slots } } →
    m ≡ record r { contents = m.contents; faults = m.faults } → w ≡ record m { contents = w.contents; faults = w.faults } →
    h ≡ record w { buffer = record w.buffer { list = w.buffer.list ++ x ∷ [] } } → x ≡ y →
    h ≡ disk_with d h.contents h.faults h.buffer.slots (d.buffer.list ++ y ∷ [])
held-last d r m w h x y er em ew eh e =
    by-itself d h w.contents w.faults r.buffer.slots (d.buffer.list ++ y ∷ [])
    (eh ∙ ap (λ (z : DiskState). record z { buffer = record z.buffer { list = z.buffer.list ++ x ∷ [] } }) ew
    ∙ ap (λ (z : DiskState). record z { contents = w.contents; faults = w.faults; buffer = record z.buffer { list = z.buffer.list ++ x ∷ [] } }) em
    ∙ ap (λ (z : DiskState). record z { contents = w.contents; faults = w.faults; buffer = record z.buffer { list = z.buffer.list ++ x ∷ [] } }) er
    ∙ ap (λ (b : HeldBlocks). disk_with d w.contents w.faults r.buffer.slots (d.buffer.list ++ b ∷ [])) e)

-- and there are as many more as were held last
pub filled-last : (d r m w : DiskState) (now : List HeldBlocks) (n : ℕ) → r ≡ record d { buffer = record d.buffer { slots = r.buffer.slots } } →
    m ≡ record r { contents = m.contents; faults = m.faults } → w ≡ record m { contents = w.contents; faults = w.faults } →
    held_blocks w.block now ≡ held_blocks w.block w.buffer.list + n → held_blocks d.block now ≡ held_blocks d.block d.buffer.list + n
filled-last d r m w now n er em ew e =
    let block : w.block ≡ d.block = ap (λ (z : DiskState). z.block) ew ∙ ap (λ (z : DiskState). z.block) em ∙ ap (λ (z : DiskState). z.block) er in
    let list : w.buffer.list ≡ d.buffer.list = ap (λ (z : DiskState). z.buffer.list) ew ∙ ap (λ (z : DiskState). z.buffer.list) em ∙ ap (λ (z : DiskState). z.buffer.list) er in
    ap (λ b. held_blocks b now) (sym block) ∙ e ∙ ap (λ b. held_blocks b w.buffer.list + n) block ∙ ap (λ (l : List HeldBlocks). held_blocks d.block l + n) list
