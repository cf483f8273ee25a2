-- Bytes that are whole blocks.
use Rattle.std.proofs.Common.{◌≡◌, ℕ, ◌+◌, ◌*◌, ◌/◌, ◌%◌, ◌≤◌, ◌<◌, List, [], ◌∷◌, ◌++◌, length, ap, ◌∙◌, arith}
use Rattle.std.proofs.lemmas.Nat.{mod-mul-add, div-mul-add}
use Rattle.xor_buffers.specs.declared.held.HeldBlocks.{HeldBlocks}
use Rattle.xor_buffers.specs.Held.{held_blocks}
use Rattle.xor_buffers.proofs.Wiping.{held_blocks-append}

pub blocks-whole : (n count block : ℕ) → 1 ≤ block → n ≡ count * block → n % block ≡ 0
blocks-whole n count block some e =
    let p : n ≡ count * block + 0 = omega arith in
    let s : 0 < block = omega arith in
    ap (λ x. x % block) p ∙ mod-mul-add count block 0 s

pub blocks-count : (n count block : ℕ) → 1 ≤ block → n ≡ count * block → n / block ≡ count
blocks-count n count block some e =
    let p : n ≡ count * block + 0 = omega arith in
    let s : 0 < block = omega arith in
    ap (λ x. x / block) p ∙ div-mul-add count block 0 s

-- blocks that are held behind others
pub held-more : (block count : ℕ) (list : List HeldBlocks) (h : HeldBlocks) → 1 ≤ block → length h.bytes ≡ count * block →
    held_blocks block (list ++ h ∷ []) ≡ held_blocks block list + count
held-more block count list h some whole =
    let own = blocks-count (length h.bytes) count block some whole in
    omega (arith, held_blocks-append block list (h ∷ []), own)
