use Rattle.std.proofs.Common.{◌≡◌, ◌*◌, ◌+◌, ◌-◌, ◌/◌, ◌<◌, ℕ, List, [], length, get_or, take, drop, ap, ◌∙◌, arith}
use Rattle.std.specs.Simd.{first_chunks}
use Rattle.std.proofs.lemmas.List.{length-take, length-drop, get_or-take, get_or-drop}
use Rattle.xor_params.specs.ParameterLists.{announced_sources, place}
use Rattle.xor_params.proofs.TableLemmas.{chunks-of-front, byte_of_piece}
use Rattle.xor_params.proofs.tables.table_of.Goals as goal

pub returns-clause-pieces : goal.returns-clause-pieces
returns-clause-pieces c =
    let bytes = c.args.bytes.now in
    let end = 4 + 16 * c.from.result - 4 in
    let part = take end (drop 4 bytes) in
    let n = announced_sources bytes in
    let count : length part / 16 ≡ n = omega (arith, length-take end (drop 4 bytes), length-drop 4 bytes, c.requires.whole) in
    let same : end ≡ 16 * n = omega arith in
    c.as_chunks.ensures.front ∙ ap (λ (k : ℕ). first_chunks 16 k part) count ∙ ap (λ (e : ℕ). first_chunks 16 n (take e (drop 4 bytes))) same ∙ chunks-of-front n (drop 4 bytes)

pub returns-clause-places : goal.returns-clause-places
returns-clause-places c k i h l =
    let bytes = c.args.bytes.now in
    let end = 4 + 16 * c.from.result - 4 in
    let part = take end (drop 4 bytes) in
    let inside : k < length part / 16 = omega (arith, c.as_chunks.ensures.front_len) in
    let before : 16 * k + i < end = omega (arith, length-take end (drop 4 bytes)) in
    let at : 4 + (16 * k + i) ≡ place k i = omega arith in
    ap (λ (t : List (List ℕ)). get_or (get_or t k []) i 0) c.as_chunks.ensures.front ∙ byte_of_piece (length part / 16) k i part inside l
    ∙ get_or-take end (drop 4 bytes) (16 * k + i) 0 before ∙ get_or-drop 4 bytes (16 * k + i) 0 ∙ ap (λ (j : ℕ). get_or bytes j 0) at
