-- The item at the front of bytes: where its head is right and it is whole the bytes spell it, and a spelling
-- gives its item again.
use Rattle.std.proofs.Common.{◌≡◌, ℕ, ◌+◌, ◌<◌, ◌≤◌, Bool, false, cond, ltb, List, ◌∷◌, ◌++◌, length, get_or, take, drop, Option, Some, None, refl, sym, ap, ◌∙◌, append_assoc, arith, inl, inr}
use Rattle.std.specs.Int.{w32, to_be_bytes}
use Rattle.std.proofs.lemmas.Bool.{cases_lt, lt-ltb, le-ltb, cond-true, cond-false}
use Rattle.std.proofs.lemmas.List.{take_at, drop_at, take-append-drop, take-append-le, length-append, length-take-le, length-drop, drop-drop, get_or-drop, get_or-take, get_or_past, length-take, nil_from_length}
use Rattle.blocks_core.specs.Lists.{slice}
use Rattle.target_frames.specs.declared.items.Item.{Item}
use Rattle.target_frames.specs.declared.items.Item.TheVariants.{Opening, Frame}
use Rattle.target_frames.specs.declared.heads.FrameHead.{FrameHead}
use Rattle.target_frames.specs.Frames.{spelling, IsOpening, IsFrame, IsSound}
use Rattle.target_frames.specs.Heads.{opening_head, opening_fields, frame_head, frame_fields, first_wrong, offence, due, frame_length, opening_of, frame_of, item_of}
use Rattle.target_frames.proofs.Openings.{opening_spells, opening_is_right, opening_again}
use Rattle.target_frames.proofs.FrameHeads.{IsHead, head_bytes, head_is_right, right_head, head_spells, head_again}

abbrev pub IsBytes : List ℕ → Type 0
IsBytes bytes = (i : ℕ) → get_or bytes i 0 < 256

pub bytes_behind : (n : ℕ) (bytes : List ℕ) → IsBytes bytes → IsBytes (drop n bytes)
bytes_behind n bytes fits i = rw get_or-drop (fits (n + i))

bytes_before : (n : ℕ) (bytes : List ℕ) → IsBytes bytes → IsBytes (take n bytes)
bytes_before n bytes fits i =
    elim (cases_lt i n) [
      | inl lt ↦ rw (get_or-take n bytes i 0 lt) (fits i)
      | inr le ↦ rw (get_or_past (take n bytes) i 0 (omega (arith, length-take n bytes))) (omega arith)
    ]

-- ---- from bytes to an item

-- the bytes begin with the spelling of their item
pub record IsFront (known : Option ℕ) (bytes : List ℕ) : Type 0 where
  pub sound : IsSound known (item_of known bytes)
  pub spelled : bytes ≡ spelling (item_of known bytes) ++ drop (due known bytes) bytes
  pub len : length (spelling (item_of known bytes)) ≡ due known bytes

-- behind a test of the length
past : (b : Bool) (x : Option ℕ) → b ≡ false → cond b None x ≡ None → x ≡ None
past b x h e = sym (cond-false b None x h) ∙ e

opening_front : (bytes : List ℕ) → IsBytes bytes → offence None bytes ≡ None → 16 ≤ length bytes → IsFront None bytes
opening_front bytes fits e long =
    let right = past (ltb (length bytes) 16) (first_wrong (opening_fields (opening_head (take 16 bytes)))) (le-ltb _ _ long) e in
    let opened = opening_spells (take 16 bytes) (length-take-le 16 bytes long) (bytes_before 16 bytes fits) right in
    record {
      sound = opened.sound;
      spelled = sym (take-append-drop 16 bytes) ∙ ap (λ (t : List ℕ). t ++ drop 16 bytes) opened.spelled;
      len = refl;
    }

-- bytes are a head, a CDB, data and what stands behind them
four_parts : (bytes : List ℕ) (c d : ℕ) → bytes ≡ take 8 bytes ++ take c (drop 8 bytes) ++ take d (drop (8 + c) bytes) ++ drop (8 + c + d) bytes
four_parts bytes c d =
    let cdb = take c (drop 8 bytes) in
    let body = take d (drop (8 + c) bytes) in
    let rest = drop (8 + c + d) bytes in
    let third : drop (8 + c) bytes ≡ body ++ rest =
    sym (take-append-drop d (drop (8 + c) bytes)) ∙ ap (λ (t : List ℕ). body ++ t) (drop-drop d (8 + c) bytes) in
    let second : drop 8 bytes ≡ cdb ++ (body ++ rest) =
    sym (take-append-drop c (drop 8 bytes)) ∙ ap (λ (t : List ℕ). cdb ++ t) (drop-drop c 8 bytes ∙ third) in
    let first : bytes ≡ take 8 bytes ++ (cdb ++ (body ++ rest)) = sym (take-append-drop 8 bytes) ∙ ap (λ (t : List ℕ). take 8 bytes ++ t) second in
    first ∙ sym (append_assoc (take 8 bytes) cdb (body ++ rest)) ∙ sym (append_assoc (take 8 bytes ++ cdb) body rest)

-- a frame's spelling by its parts, with the lengths told apart
frame_parts : (kind target c d : ℕ) (cdb body : List ℕ) → length cdb ≡ c → length body ≡ d
    → spelling (Frame kind target cdb body) ≡ head_bytes (record { kind = kind; target = target; cdb_len = c; zero = 0; data_len = d }) ++ cdb ++ body
frame_parts kind target c d cdb body lc ld =
    ap (λ n. kind ∷ target ∷ n ∷ 0 ∷ to_be_bytes w32 (length body) ++ cdb ++ body) lc
    ∙ ap (λ n. kind ∷ target ∷ c ∷ 0 ∷ to_be_bytes w32 n ++ cdb ++ body) ld

frame_front : (targets : ℕ) (bytes : List ℕ) → IsBytes bytes → 8 ≤ length bytes → first_wrong (frame_fields targets (frame_head (take 8 bytes))) ≡ None
    → frame_length (frame_head (take 8 bytes)) ≤ length bytes → due (Some targets) bytes ≡ frame_length (frame_head (take 8 bytes)) → IsFront (Some targets) bytes
frame_front targets bytes fits head e long whole =
    let h = frame_head (take 8 bytes) in
    let right = head_is_right targets h e in
    let cdb = slice bytes 8 h.cdb_len in
    let body = slice bytes (8 + h.cdb_len) h.data_len in
    let lc : length cdb ≡ h.cdb_len = length-take-le h.cdb_len (drop 8 bytes) (omega (arith, length-drop 8 bytes, long)) in
    let ld : length body ≡ h.data_len = length-take-le h.data_len (drop (8 + h.cdb_len) bytes) (omega (arith, length-drop (8 + h.cdb_len) bytes, long)) in
    let eight : take 8 bytes ≡ head_bytes h = head_spells (take 8 bytes) (length-take-le 8 bytes head) (bytes_before 8 bytes fits) right.zero in
    let parts = frame_parts h.kind h.target h.cdb_len h.data_len cdb body lc ld in
    let small : h.cdb_len < 256 = omega (arith, get_or-drop 2 (take 8 bytes) 0 0, bytes_before 8 bytes fits 2) in
    let spelled : bytes ≡ spelling (frame_of h bytes) ++ drop (frame_length h) bytes =
    four_parts bytes h.cdb_len h.data_len ∙ ap (λ (t : List ℕ). t ++ cdb ++ body ++ drop (frame_length h) bytes) eight
    ∙ ap (λ (t : List ℕ). t ++ drop (frame_length h) bytes) (sym parts) in
    record {
      sound = record {
        some_kind = right.kind.0;
        known_kind = right.kind.1;
        known_target = right.target;
        short_cdb = omega (arith, lc, small);
        few_bytes = omega (arith, ld, right.few);
        no_cdb = λ ne. nil_from_length cdb (lc ∙ right.no_cdb ne);
        no_bytes = λ ne. nil_from_length body (ld ∙ right.no_data ne);
      };
      spelled = spelled ∙ ap (λ n. spelling (frame_of h bytes) ++ drop n bytes) (sym whole);
      len = omega (arith, whole, lc, ld, length-append cdb body);
    }

pub front_spells : (known : Option ℕ) (bytes : List ℕ) → IsBytes bytes → offence known bytes ≡ None → due known bytes ≤ length bytes → IsFront known bytes
front_spells None bytes fits e long = opening_front bytes fits e long
front_spells (Some targets) bytes fits e long =
    let F = frame_length (frame_head (take 8 bytes)) in
    elim (cases_lt (length bytes) 8) [
      | inl lt ↦ absurd (omega (arith, lt, long, cond-true (ltb (length bytes) 8) 8 F (lt-ltb _ _ lt)))
      | inr le ↦
          let whole : due (Some targets) bytes ≡ F = cond-false (ltb (length bytes) 8) 8 F (le-ltb _ _ le) in
          frame_front targets bytes fits le (past (ltb (length bytes) 8) (first_wrong (frame_fields targets (frame_head (take 8 bytes)))) (le-ltb _ _ le) e)
          (omega (arith, whole, long)) whole
    ]

-- ---- and back

-- the spelling of an item, whatever follows, begins with that item
pub record IsAgain (known : Option ℕ) (item : Item) (more : List ℕ) : Type 0 where
  pub right : offence known (spelling item ++ more) ≡ None
  pub len : due known (spelling item ++ more) ≡ length (spelling item)
  pub same : item_of known (spelling item ++ more) ≡ item

opening_back : (targets block buffer rows : ℕ) (more : List ℕ) → IsOpening targets block buffer rows → IsAgain None (Opening targets block buffer rows) more
opening_back targets block buffer rows more sound =
    let text = spelling (Opening targets block buffer rows) in
    let head : opening_head (take 16 (text ++ more)) ≡ record { magic = 0x584f5254; version = 1; targets = targets; zero = 0; block = block; buffer = buffer; rows = rows } =
    ap opening_head (take_at text more 16 refl) ∙ opening_again targets block buffer rows sound in
    record {
      right =
          cond-false (ltb (length (text ++ more)) 16) None (first_wrong (opening_fields (opening_head (take 16 (text ++ more))))) (le-ltb _ _ (omega (arith, length-append text more)))
          ∙ ap (λ h. first_wrong (opening_fields h)) head ∙ opening_is_right _ refl refl refl sound;
      len = refl;
      same = ap opening_of head;
    }

frame_back : (targets kind target : ℕ) (cdb bytes more : List ℕ) → IsFrame targets kind target cdb bytes → IsAgain (Some targets) (Frame kind target cdb bytes) more
frame_back targets kind target cdb bytes more sound =
    let text = spelling (Frame kind target cdb bytes) in
    let H : FrameHead = record { kind = kind; target = target; cdb_len = length cdb; zero = 0; data_len = length bytes } in
    let eight = head_bytes H in
    let parts : text ++ more ≡ eight ++ (cdb ++ (bytes ++ more)) =
    append_assoc (eight ++ cdb) bytes more ∙ append_assoc eight cdb (bytes ++ more) in
    let total : length (text ++ more) ≡ 8 + length cdb + length bytes + length more =
    omega (arith, length-append text more, length-append cdb bytes) in
    let head : frame_head (take 8 (text ++ more)) ≡ H =
    ap (λ (t : List ℕ). frame_head (take 8 t)) parts ∙ ap frame_head (take_at eight (cdb ++ (bytes ++ more)) 8 refl)
    ∙ head_again kind target (length cdb) (length bytes) (omega (arith, sound.few_bytes)) in
    let right : IsHead targets H = record {
      kind = (sound.some_kind, sound.known_kind);
      target = sound.known_target;
      no_cdb = λ ne. ap length (sound.no_cdb ne);
      zero = refl;
      few = sound.few_bytes;
      no_data = λ ne. ap length (sound.no_bytes ne);
    } in
    let long : ltb (length (text ++ more)) 8 ≡ false = le-ltb _ _ (omega (arith, total)) in
    let behind : drop 8 (text ++ more) ≡ cdb ++ (bytes ++ more) = ap (drop 8) parts ∙ drop_at eight (cdb ++ (bytes ++ more)) 8 refl in
    let further : drop (8 + length cdb) (text ++ more) ≡ bytes ++ more =
    sym (drop-drop (length cdb) 8 (text ++ more)) ∙ ap (drop (length cdb)) behind ∙ drop_at cdb (bytes ++ more) (length cdb) refl in
    let first : slice (text ++ more) 8 (length cdb) ≡ cdb = ap (take (length cdb)) behind ∙ take_at cdb (bytes ++ more) (length cdb) refl in
    let second : slice (text ++ more) (8 + length cdb) (length bytes) ≡ bytes = ap (take (length bytes)) further ∙ take_at bytes more (length bytes) refl in
    record {
      right =
          cond-false (ltb (length (text ++ more)) 8) None (first_wrong (frame_fields targets (frame_head (take 8 (text ++ more))))) long
          ∙ ap (λ h. first_wrong (frame_fields targets h)) head ∙ right_head targets H right;
      len =
          cond-false (ltb (length (text ++ more)) 8) 8 (frame_length (frame_head (take 8 (text ++ more)))) long
          ∙ ap frame_length head ∙ omega (arith, length-append cdb bytes);
      same =
          ap (λ h. frame_of h (text ++ more)) head
          ∙ ap (λ (t : List ℕ). Frame kind target t (slice (text ++ more) (8 + length cdb) (length bytes))) first
          ∙ ap (λ (t : List ℕ). Frame kind target cdb t) second;
    }

pub front_again : (known : Option ℕ) (item : Item) (more : List ℕ) → IsSound known item → IsAgain known item more
front_again None (Opening targets block buffer rows) more sound = opening_back targets block buffer rows more sound
front_again None (Frame kind target cdb bytes) more sound = absurd sound
front_again (Some n) (Opening targets block buffer rows) more sound = absurd sound
front_again (Some n) (Frame kind target cdb bytes) more sound = frame_back n kind target cdb bytes more sound

-- ---- a field that isn't right

pub never : (found : Option ℕ) (field : ℕ) → found ≡ None → found ≡ Some field → ⊥
never found field absent present = absurd cc

-- bytes behind a head make none of its fields right or wrong
stays : (n : ℕ) (find : List ℕ → Option ℕ) (bytes more : List ℕ) (field : ℕ) → cond (ltb (length bytes) n) None (find (take n bytes)) ≡ Some field
    → cond (ltb (length (bytes ++ more)) n) None (find (take n (bytes ++ more))) ≡ Some field
stays n find bytes more field e =
    elim (cases_lt (length bytes) n) [
      | inl lt ↦
          absurd (never (cond (ltb (length bytes) n) None (find (take n bytes))) field (cond-true (ltb (length bytes) n) None (find (take n bytes)) (lt-ltb _ _ lt)) e)
      | inr le ↦
          cond-false (ltb (length (bytes ++ more)) n) None (find (take n (bytes ++ more))) (le-ltb _ _ (omega (arith, length-append bytes more, le)))
          ∙ ap find (take-append-le n bytes more le)
          ∙ sym (cond-false (ltb (length bytes) n) None (find (take n bytes)) (le-ltb _ _ le)) ∙ e
    ]

pub offence_stays : (known : Option ℕ) (bytes more : List ℕ) (field : ℕ) → offence known bytes ≡ Some field → offence known (bytes ++ more) ≡ Some field
offence_stays None bytes more field e = stays 16 (λ b. first_wrong (opening_fields (opening_head b))) bytes more field e
offence_stays (Some n) bytes more field e = stays 8 (λ b. first_wrong (frame_fields n (frame_head b))) bytes more field e
