-- Cutting bytes into items, one after another.
use Rattle.std.proofs.Common.{◌≡◌, ℕ, ◌+◌, ◌-◌, ◌<◌, ◌≤◌, Bool, true, false, cond, ltb, take, List, [], ◌∷◌, ◌++◌, length, drop, Option, Some, None, refl, sym, ap, subst, ◌∙◌, append_assoc, append-nil, arith}
use Rattle.std.proofs.lemmas.List.{length-append, drop_at}
use Rattle.std.proofs.lemmas.List.Concat.{flat_map-append, flat_map-cons}
use Rattle.target_frames.specs.declared.items.Item.{Item}
use Rattle.target_frames.specs.Frames.{Ends, IsSound, AreSound, told, all_told, spelling, spellings}
use Rattle.target_frames.specs.Heads.{offence, due, item_of, frame_head, frame_length}
use Rattle.target_frames.specs.Splits.{Splits, end_at}
use Rattle.target_frames.proofs.Fronts.{IsBytes, front_spells, bytes_behind}
use Rattle.target_frames.proofs.Streams.{told_on, sound_on}

-- no further item is whole, or this field isn't right
abbrev pub Stops : Option ℕ → List ℕ → Option ℕ → Type 0
Stops known rest None = (offence known rest ≡ None) × (length rest < due known rest)
Stops known rest (Some field) = offence known rest ≡ Some field

-- the items so far, and the bytes behind them
pub record IsCut (known : Option ℕ) (bytes : List ℕ) (items : List Item) (told_now : Option ℕ) (rest : List ℕ) : Type 0 where
  pub spelled : bytes ≡ spellings items ++ rest
  pub sound : AreSound known items
  pub targets : told_now ≡ all_told known items
  pub fits : IsBytes rest

pub uncut : (known : Option ℕ) (bytes : List ℕ) → IsBytes bytes → IsCut known bytes [] known bytes
uncut known bytes fits = record { spelled = refl; sound = tt; targets = refl; fits = fits }

-- one more item
pub cut_more : (known : Option ℕ) (bytes : List ℕ) (items : List Item) (now : Option ℕ) (rest : List ℕ) (item : Item) (len : ℕ) → IsCut known bytes items now rest
    → offence now rest ≡ None → len ≡ due now rest → len ≤ length rest → item ≡ item_of now rest
    → IsCut known bytes (items ++ item ∷ []) (told now item) (drop len rest)
cut_more known bytes items now rest item len cut right is long same =
    let front = front_spells now rest cut.fits right (omega (arith, is, long)) in
    let sound : IsSound now item = subst (IsSound now) (sym same) front.sound in
    let spelled : rest ≡ spelling item ++ drop len rest =
    front.spelled ∙ ap (λ i. spelling i ++ drop (due now rest) rest) (sym same) ∙ ap (λ n. spelling item ++ drop n rest) (sym is) in
    let all : spellings (items ++ item ∷ []) ≡ spellings items ++ spelling item =
    flat_map-append spelling items (item ∷ []) ∙ ap (λ (t : List ℕ). spellings items ++ t) (flat_map-cons spelling item [] ∙ append-nil (spelling item)) in
    record {
      spelled =
          cut.spelled ∙ ap (λ (t : List ℕ). spellings items ++ t) spelled
          ∙ sym (append_assoc (spellings items) (spelling item) (drop len rest))
          ∙ ap (λ (t : List ℕ). t ++ drop len rest) (sym all);
      sound = sound_on known items (item ∷ []) cut.sound (subst (λ k. IsSound k item) cut.targets sound, tt);
      targets = ap (λ k. told k item) cut.targets ∙ sym (told_on known items (item ∷ []));
      fits = bytes_behind len rest cut.fits;
    }

-- an item has bytes, so less is left
some_bytes : (n f len : ℕ) → len ≡ cond (ltb n 8) 8 (8 + f) → 0 < len
some_bytes n f len is = positive (ltb n 8) is
  where
    positive : (b : Bool) → len ≡ cond b 8 (8 + f) → 0 < len
    positive true e = omega (arith, e)
    positive false e = omega (arith, e)

pub is_shorter : (known : Option ℕ) (rest : List ℕ) (len : ℕ) → len ≡ due known rest → 0 < len
is_shorter None rest len is = omega (arith, is)
is_shorter (Some targets) rest len is =
    let h = frame_head (take 8 rest) in
    let split : frame_length h ≡ 8 + (h.cdb_len + h.data_len) = omega arith in
    some_bytes (length rest) (h.cdb_len + h.data_len) len (is ∙ ap (λ f. cond (ltb (length rest) 8) 8 f) split)

-- what was cut
pub is_split : (known : Option ℕ) (bytes : List ℕ) (items : List Item) (now : Option ℕ) (rest : List ℕ) (wrong : Option ℕ) → IsCut known bytes items now rest → Stops now rest wrong
    → Splits known bytes (record { items = items; targets = now; used = length bytes - length rest; wrong = wrong })
is_split known bytes items now rest wrong cut stop =
    let total : length bytes ≡ length (spellings items) + length rest = ap length cut.spelled ∙ length-append (spellings items) rest in
    let used : length bytes - length rest ≡ length (spellings items) = omega (arith, total) in
    let behind : drop (length bytes - length rest) bytes ≡ rest =
    ap (λ (t : List ℕ). drop (length bytes - length rest) t) cut.spelled ∙ drop_at (spellings items) rest (length bytes - length rest) (sym used) in
    record {
      reads = record {
        more = rest;
        spelled = cut.spelled;
        sound = cut.sound;
        ends = ends wrong (length bytes - length rest) (subst (λ k. Stops k rest wrong) cut.targets stop) behind used;
      };
      targets = cut.targets;
      used = used;
      within = omega (arith, total, used);
    }
  where
    ends : (wrong : Option ℕ) (n : ℕ) → Stops (all_told known items) rest wrong → drop n bytes ≡ rest → n ≡ length (spellings items)
        → Ends (all_told known items) (0 + length (spellings items)) rest (end_at n bytes wrong)
    ends None n stop behind used = (sym behind, stop.0, stop.1)
    ends (Some field) n stop behind used = (field, stop, omega (arith, used))
