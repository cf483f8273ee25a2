-- The owners of held blocks, from the last on.
use Rattle.std.proofs.Common.{◌≡◌, ℕ, ◌+◌, ◌-◌, ◌<◌, List, ◌∷◌, length, drop, get_or, ap, ◌∙◌, arith}
use Rattle.std.proofs.lemmas.List.{drop_more}
use Rattle.xor_buffers.specs.declared.held.HeldBlocks.{HeldBlocks}
use Rattle.xor_buffers.specs.Held.{owners_of, with_owner}

-- one more, before those read so far
pub owners-more : (hs : List HeldBlocks) (len done : ℕ) (d : HeldBlocks) (owner : ℕ) (before after : List ℕ) → len ≡ length hs → done < len →
    owner ≡ (get_or hs (len - 1 - done) d).owner → before ≡ owners_of (drop (len - done) hs) → after ≡ with_owner owner before →
    after ≡ owners_of (drop (len - (done + 1)) hs)
owners-more hs len done d owner before after size lt own so_far put =
    let place : len - 1 - done ≡ len - (done + 1) = omega arith in
    let next : len - (done + 1) + 1 ≡ len - done = omega (arith, lt) in
    let inside : len - (done + 1) < length hs = omega (arith, size, lt) in
    let rest : drop (len - (done + 1)) hs ≡ get_or hs (len - (done + 1)) d ∷ drop (len - (done + 1) + 1) hs = drop_more hs (len - (done + 1)) d inside in
    let same : owner ≡ (get_or hs (len - (done + 1)) d).owner = own ∙ ap (λ k. (get_or hs k d).owner) place in
    rw (rest, next) (put ∙ ap (λ (c : ℕ). with_owner c before) same ∙ ap (λ (xs : List ℕ). with_owner (get_or hs (len - (done + 1)) d).owner xs) so_far)
