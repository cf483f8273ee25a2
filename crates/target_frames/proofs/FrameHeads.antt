-- A frame's first 8 bytes and its fields.
use Rattle.std.proofs.Common.{◌≡◌, ◌≢◌, ℕ, ◌+◌, ◌*◌, ◌^◌, ◌<◌, ◌≤◌, Bool, true, false, cond, eqb, leb, List, [], ◌∷◌, ◌++◌, length, get_or, None, refl, sym, ap, subst, ◌∙◌, arith, ◌||◌}
use Rattle.std.specs.Int.{w32, to_be_bytes}
use Rattle.std.proofs.lemmas.Bool.{eqb-true, eq-eqb, ltb-true, lt-ltb, leb-true, le-leb, ne_eqb}
use Rattle.byteorder.specs.Endian.{big_number}
use Rattle.byteorder.specs.Numbers.{big_number-reads_back}
use Rattle.cdb_fields.proofs.Cells.{whole, number_4}
use Rattle.target_frames.specs.declared.heads.FrameHead.{FrameHead}
use Rattle.target_frames.specs.Heads.{frame_head, frame_fields, first_wrong}
use Rattle.target_frames.proofs.Tests.{first_right, goes_on, between, is_between}

-- a head's fields are right, where there are so many targets
pub record IsHead (targets : ℕ) (h : FrameHead) : Type 0 where
  pub kind : (1 ≤ h.kind) × (h.kind ≤ 5)
  pub target : h.target < targets
  pub no_cdb : h.kind ≢ 1 → h.cdb_len ≡ 0
  pub zero : h.zero ≡ 0
  pub few : h.data_len ≤ 16777216
  pub no_data : h.kind ≢ 1 → h.data_len ≡ 0

-- the eight bytes of a head
abbrev pub head_bytes : FrameHead → List ℕ
head_bytes h = h.kind ∷ h.target ∷ h.cdb_len ∷ 0 ∷ to_be_bytes w32 h.data_len

-- a length that is right stands for a command, or is zero
for_command : (kind len : ℕ) → (eqb kind 1 || eqb len 0) ≡ true → kind ≢ 1 → len ≡ 0
for_command kind len e ne = subst (λ b. (b || eqb len 0) ≡ true → len ≡ 0) (sym (ne_eqb kind 1 ne)) (λ t. eqb-true len 0 t) e

most : (b : Bool) (n : ℕ) → leb n (cond b 16777216 0) ≡ true → n ≤ 16777216
most true n e = leb-true n 16777216 e
most false n e = omega (arith, leb-true n 0 e)

nothing : (kind n : ℕ) → leb n (cond (eqb kind 1) 16777216 0) ≡ true → kind ≢ 1 → n ≡ 0
nothing kind n e ne = omega (arith, leb-true n 0 (subst (λ b. leb n (cond b 16777216 0) ≡ true) (ne_eqb kind 1 ne) e))

pub head_is_right : (targets : ℕ) (h : FrameHead) → first_wrong (frame_fields targets h) ≡ None → IsHead targets h
head_is_right targets h e =
    let a = first_right _ 0 _ e in
    let b = first_right _ 1 _ a.1 in
    let c = first_right _ 2 _ b.1 in
    let d = first_right _ 3 _ c.1 in
    let f = first_right _ 4 _ d.1 in
    record {
      kind = between 1 h.kind 5 a.0;
      target = ltb-true h.target targets b.0;
      no_cdb = for_command h.kind h.cdb_len c.0;
      zero = eqb-true h.zero 0 d.0;
      few = most (eqb h.kind 1) h.data_len f.0;
      no_data = nothing h.kind h.data_len f.0;
    }

allowed : (b : Bool) (kind len : ℕ) → b ≡ eqb kind 1 → (kind ≢ 1 → len ≡ 0) → (b || eqb len 0) ≡ true
allowed true kind len e unless = refl
allowed false kind len e unless = eq-eqb len 0 (unless (λ one. absurd (cc (sym e, eq-eqb kind 1 one))))

fits_most : (b : Bool) (kind n : ℕ) → b ≡ eqb kind 1 → n ≤ 16777216 → (kind ≢ 1 → n ≡ 0) → leb n (cond b 16777216 0) ≡ true
fits_most true kind n e few unless = le-leb n 16777216 few
fits_most false kind n e few unless = le-leb n 0 (omega (arith, unless (λ one. absurd (cc (sym e, eq-eqb kind 1 one)))))

pub right_head : (targets : ℕ) (h : FrameHead) → IsHead targets h → first_wrong (frame_fields targets h) ≡ None
right_head targets h right =
    goes_on _ 0 _ (is_between 1 h.kind 5 right.kind.0 right.kind.1)
    (goes_on _ 1 _ (lt-ltb h.target targets right.target)
    (goes_on _ 2 _ (allowed (eqb h.kind 1) h.kind h.cdb_len refl right.no_cdb)
    (goes_on _ 3 _ (eq-eqb h.zero 0 right.zero)
    (goes_on _ 4 _ (fits_most (eqb h.kind 1) h.kind h.data_len refl right.few right.no_data) refl))))

cells_head : (k t c z d3 d2 d1 d0 : ℕ) (h : FrameHead)
    → let bytes : List ℕ = k ∷ t ∷ c ∷ z ∷ d3 ∷ d2 ∷ d1 ∷ d0 ∷ [] in
    h ≡ frame_head bytes → ((i : ℕ) → get_or bytes i 0 < 256) → h.zero ≡ 0 → bytes ≡ head_bytes h
cells_head k t c z d3 d2 d1 d0 h is fits e =
    let kind_is : h.kind ≡ k * 256 ^ 0 + 0 = ap (λ (h : FrameHead). h.kind) is in
    let target_is : h.target ≡ t * 256 ^ 0 + 0 = ap (λ (h : FrameHead). h.target) is in
    let cdb_is : h.cdb_len ≡ c * 256 ^ 0 + 0 = ap (λ (h : FrameHead). h.cdb_len) is in
    let zero_is : h.zero ≡ z * 256 ^ 0 + 0 = ap (λ (h : FrameHead). h.zero) is in
    let body_is : h.data_len ≡ big_number 4 (d3 ∷ d2 ∷ d1 ∷ d0 ∷ []) = ap (λ (h : FrameHead). h.data_len) is in
    cells_spell k t c z d3 d2 d1 d0 h.kind h.target h.cdb_len h.data_len (omega (arith, kind_is)) (omega (arith, target_is)) (omega (arith, cdb_is)) (omega (arith, zero_is, e))
    (ap (to_be_bytes w32) body_is ∙ number_4 d3 d2 d1 d0 [] (fits 4) (fits 5) (fits 6) (fits 7))
  where
    cells_spell : (k t c z d3 d2 d1 d0 kind target cdb len : ℕ) → kind ≡ k → target ≡ t → cdb ≡ c → z ≡ 0 → to_be_bytes w32 len ≡ d3 ∷ d2 ∷ d1 ∷ d0 ∷ []
        → k ∷ t ∷ c ∷ z ∷ d3 ∷ d2 ∷ d1 ∷ d0 ∷ [] ≡ kind ∷ target ∷ cdb ∷ 0 ∷ to_be_bytes w32 len
    cells_spell k t c z d3 d2 d1 d0 kind target cdb len a b e f g = cc

-- a head is spelled by its fields
pub head_spells : (bytes : List ℕ) → length bytes ≡ 8 → ((i : ℕ) → get_or bytes i 0 < 256) → (frame_head bytes).zero ≡ 0 → bytes ≡ head_bytes (frame_head bytes)
head_spells bytes len fits e =
    let P : List ℕ → Type 0 = λ xs. (h : FrameHead) → h ≡ frame_head xs → ((i : ℕ) → get_or xs i 0 < 256) → h.zero ≡ 0 → xs ≡ head_bytes h in
    subst P (sym (whole 8 bytes len)) (cells_head _ _ _ _ _ _ _ _) (frame_head bytes) refl fits e

-- a head whose reserved byte is zero
abbrev clean_head : ℕ → ℕ → ℕ → ℕ → FrameHead
clean_head k t c d = record { kind = k; target = t; cdb_len = c; zero = 0; data_len = d }

-- the fields of a spelling are those of its head
pub head_again : (k t c d : ℕ) → d < 2 ^ 32
    → frame_head (head_bytes (record { kind = k; target = t; cdb_len = c; zero = 0; data_len = d })) ≡ record { kind = k; target = t; cdb_len = c; zero = 0; data_len = d }
head_again k t c d few =
    let n : big_number 4 (to_be_bytes w32 d ++ []) ≡ d = big_number-reads_back 4 d [] few in
    let kind : k * 256 ^ 0 + 0 ≡ k = omega arith in
    let target : t * 256 ^ 0 + 0 ≡ t = omega arith in
    let cdb : c * 256 ^ 0 + 0 ≡ c = omega arith in
    ap (λ x. clean_head x (t * 256 ^ 0 + 0) (c * 256 ^ 0 + 0) (big_number 4 (to_be_bytes w32 d ++ []))) kind
    ∙ ap (λ x. clean_head k x (c * 256 ^ 0 + 0) (big_number 4 (to_be_bytes w32 d ++ []))) target ∙ ap (λ x. clean_head k t x (big_number 4 (to_be_bytes w32 d ++ []))) cdb ∙ ap (λ x. clean_head k t c x) n
