-- An opening's 16 bytes and its fields.
use Rattle.std.proofs.Common.{◌≡◌, ℕ, ◌+◌, ◌*◌, ◌^◌, ◌<◌, ◌≤◌, List, [], ◌∷◌, ◌++◌, length, get_or, None, refl, sym, ap, subst, ◌∙◌, arith}
use Rattle.std.specs.Int.{w16, w32, to_be_bytes}
use Rattle.std.proofs.lemmas.Bool.{eqb-true, eq-eqb}
use Rattle.byteorder.specs.Endian.{big_number}
use Rattle.byteorder.specs.Numbers.{big_number-reads_back}
use Rattle.cdb_fields.proofs.Cells.{whole, number_4, number_2, number_2_fits}
use Rattle.target_frames.specs.declared.heads.OpeningHead.{OpeningHead}
use Rattle.target_frames.specs.declared.items.Item.TheVariants.{Opening}
use Rattle.target_frames.specs.Frames.{spelling, IsOpening}
use Rattle.target_frames.specs.Heads.{opening_head, opening_fields, first_wrong, opening_of}
use Rattle.target_frames.proofs.Tests.{first_right, goes_on, between, is_between}

-- the bytes are an opening with this head, whose fields are all right
pub record IsOpenedBy (bytes : List ℕ) (h : OpeningHead) : Type 0 where
  pub spelled : bytes ≡ spelling (opening_of h)
  pub sound : IsOpening h.targets h.block h.buffer h.rows

-- what the tests of the fields say
record AreRight (h : OpeningHead) : Type 0 where
  pub magic : h.magic ≡ 0x584f5254
  pub version : h.version ≡ 1
  pub targets : (1 ≤ h.targets) × (h.targets ≤ 16)
  pub zero : h.zero ≡ 0
  pub block : (1 ≤ h.block) × (h.block ≤ 4096)
  pub rows : (1 ≤ h.rows) × (h.rows ≤ 65536)

are_right : (h : OpeningHead) → first_wrong (opening_fields h) ≡ None → AreRight h
are_right h e =
    let a = first_right _ 0 _ e in
    let b = first_right _ 4 _ a.1 in
    let c = first_right _ 5 _ b.1 in
    let d = first_right _ 6 _ c.1 in
    let f = first_right _ 8 _ d.1 in
    let g = first_right _ 12 _ f.1 in
    record {
      magic = eqb-true h.magic 0x584f5254 a.0;
      version = eqb-true h.version 1 b.0;
      targets = between 1 h.targets 16 c.0;
      zero = eqb-true h.zero 0 d.0;
      block = between 1 h.block 4096 f.0;
      rows = between 1 h.rows 65536 g.0;
    }

-- so they are where the numbers are in their ranges
pub opening_is_right : (h : OpeningHead) → h.magic ≡ 0x584f5254 → h.version ≡ 1 → h.zero ≡ 0 → IsOpening h.targets h.block h.buffer h.rows
    → first_wrong (opening_fields h) ≡ None
opening_is_right h magic version zero sound =
    goes_on _ 0 _ (eq-eqb h.magic 0x584f5254 magic)
    (goes_on _ 4 _ (eq-eqb h.version 1 version)
    (goes_on _ 5 _ (is_between 1 h.targets 16 sound.some_targets sound.few_targets)
    (goes_on _ 6 _ (eq-eqb h.zero 0 zero)
    (goes_on _ 8 _ (is_between 1 h.block 4096 sound.some_block sound.small_block)
    (goes_on _ 12 _ (is_between 1 h.rows 65536 sound.some_rows sound.few_rows) refl)))))

-- 16 cells are the spelling of an opening if they are those of its fields
parts_spell : (m3 m2 m1 m0 v t z1 z0 b1 b0 f1 f0 r3 r2 r1 r0 targets block buffer rows : ℕ) → to_be_bytes w32 0x584f5254 ≡ m3 ∷ m2 ∷ m1 ∷ m0 ∷ []
    → v ≡ 1 → targets ≡ t → to_be_bytes w16 0 ≡ z1 ∷ z0 ∷ [] → to_be_bytes w16 block ≡ b1 ∷ b0 ∷ [] → to_be_bytes w16 buffer ≡ f1 ∷ f0 ∷ []
    → to_be_bytes w32 rows ≡ r3 ∷ r2 ∷ r1 ∷ r0 ∷ []
    → m3 ∷ m2 ∷ m1 ∷ m0 ∷ v ∷ t ∷ z1 ∷ z0 ∷ b1 ∷ b0 ∷ f1 ∷ f0 ∷ r3 ∷ r2 ∷ r1 ∷ r0 ∷ [] ≡ spelling (Opening targets block buffer rows)
parts_spell m3 m2 m1 m0 v t z1 z0 b1 b0 f1 f0 r3 r2 r1 r0 targets block buffer rows magic version same zero wide deep high = cc

-- 16 cells whose fields are right
cells_open : (m3 m2 m1 m0 v t z1 z0 b1 b0 f1 f0 r3 r2 r1 r0 : ℕ) (h : OpeningHead)
    → let bytes : List ℕ = m3 ∷ m2 ∷ m1 ∷ m0 ∷ v ∷ t ∷ z1 ∷ z0 ∷ b1 ∷ b0 ∷ f1 ∷ f0 ∷ r3 ∷ r2 ∷ r1 ∷ r0 ∷ [] in
    h ≡ opening_head bytes → ((i : ℕ) → get_or bytes i 0 < 256) → AreRight h → IsOpenedBy bytes h
cells_open m3 m2 m1 m0 v t z1 z0 b1 b0 f1 f0 r3 r2 r1 r0 h is fits right =
    let n4 = big_number 4 in
    let n2 = big_number 2 in
    let magic_is : h.magic ≡ n4 (m3 ∷ m2 ∷ m1 ∷ m0 ∷ []) = ap (λ (h : OpeningHead). h.magic) is in
    let version_is : h.version ≡ v * 256 ^ 0 + 0 = ap (λ (h : OpeningHead). h.version) is in
    let targets_is : h.targets ≡ t * 256 ^ 0 + 0 = ap (λ (h : OpeningHead). h.targets) is in
    let zero_is : h.zero ≡ n2 (z1 ∷ z0 ∷ []) = ap (λ (h : OpeningHead). h.zero) is in
    let block_is : h.block ≡ n2 (b1 ∷ b0 ∷ []) = ap (λ (h : OpeningHead). h.block) is in
    let buffer_is : h.buffer ≡ n2 (f1 ∷ f0 ∷ []) = ap (λ (h : OpeningHead). h.buffer) is in
    let rows_is : h.rows ≡ n4 (r3 ∷ r2 ∷ r1 ∷ r0 ∷ []) = ap (λ (h : OpeningHead). h.rows) is in
    record {
      spelled =
          parts_spell m3 m2 m1 m0 v t z1 z0 b1 b0 f1 f0 r3 r2 r1 r0 h.targets h.block h.buffer h.rows
          (ap (to_be_bytes w32) (sym right.magic ∙ magic_is) ∙ number_4 m3 m2 m1 m0 [] (fits 0) (fits 1) (fits 2) (fits 3))
          (omega (arith, right.version, version_is))
          (omega (arith, targets_is))
          (ap (to_be_bytes w16) (sym right.zero ∙ zero_is) ∙ number_2 z1 z0 [] (fits 6) (fits 7))
          (ap (to_be_bytes w16) block_is ∙ number_2 b1 b0 [] (fits 8) (fits 9))
          (ap (to_be_bytes w16) buffer_is ∙ number_2 f1 f0 [] (fits 10) (fits 11))
          (ap (to_be_bytes w32) rows_is ∙ number_4 r3 r2 r1 r0 [] (fits 12) (fits 13) (fits 14) (fits 15));
      sound = record {
        some_targets = right.targets.0;
        few_targets = right.targets.1;
        some_block = right.block.0;
        small_block = right.block.1;
        small_buffer = omega (arith, buffer_is, number_2_fits f1 f0 [] (fits 10) (fits 11));
        some_rows = right.rows.0;
        few_rows = right.rows.1;
      };
    }

-- an opening whose fields are right is spelled by its fields
pub opening_spells : (bytes : List ℕ) → length bytes ≡ 16 → ((i : ℕ) → get_or bytes i 0 < 256) → first_wrong (opening_fields (opening_head bytes)) ≡ None
    → IsOpenedBy bytes (opening_head bytes)
opening_spells bytes len fits e =
    let P : List ℕ → Type 0 = λ xs. (h : OpeningHead) → h ≡ opening_head xs → ((i : ℕ) → get_or xs i 0 < 256) → AreRight h → IsOpenedBy xs h in
    subst P (sym (whole 16 bytes len)) (cells_open _ _ _ _ _ _ _ _ _ _ _ _ _ _ _ _) (opening_head bytes) refl fits (are_right (opening_head bytes) e)

-- the head of an opening that is right
abbrev right_opening : ℕ → ℕ → ℕ → ℕ → OpeningHead
right_opening targets block buffer rows = record {
  magic = 0x584f5254;
  version = 1;
  targets = targets;
  zero = 0;
  block = block;
  buffer = buffer;
  rows = rows;
}

-- the fields of a spelling are those of its opening
pub opening_again : (targets block buffer rows : ℕ) → IsOpening targets block buffer rows
    → opening_head (spelling (Opening targets block buffer rows))
    ≡ record { magic = 0x584f5254; version = 1; targets = targets; zero = 0; block = block; buffer = buffer; rows = rows }
opening_again targets block buffer rows sound =
    let high = to_be_bytes w32 rows ++ [] in
    let deep = to_be_bytes w16 buffer ++ high in
    let B = big_number 2 (to_be_bytes w16 block ++ deep) in
    let F = big_number 2 (to_be_bytes w16 buffer ++ high) in
    let R = big_number 4 (to_be_bytes w32 rows ++ []) in
    let b : B ≡ block = big_number-reads_back 2 block deep (omega (arith, sound.small_block)) in
    let f : F ≡ buffer = big_number-reads_back 2 buffer high sound.small_buffer in
    let r : R ≡ rows = big_number-reads_back 4 rows [] (omega (arith, sound.few_rows)) in
    let t : targets * 256 ^ 0 + 0 ≡ targets = omega arith in
    ap (λ x. right_opening x B F R) t ∙ ap (λ x. right_opening targets x F R) b ∙ ap (λ x. right_opening targets block x R) f ∙ ap (λ x. right_opening targets block buffer x) r
