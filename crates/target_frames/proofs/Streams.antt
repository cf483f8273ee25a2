-- Streams of items: how they are read from a place on, and that there is one way.
use Rattle.std.proofs.Common.{◌≡◌, ℕ, ◌+◌, ◌<◌, List, [], ◌∷◌, ◌++◌, length, Option, Some, None, refl, sym, ap, subst, ◌∙◌, append_assoc, arith}
use Rattle.std.proofs.lemmas.List.{append-nil, length-append, append_cancel_left}
use Rattle.std.proofs.lemmas.List.Concat.{flat_map-cons, flat_map-append}
use Rattle.target_frames.specs.declared.items.Item.{Item}
use Rattle.target_frames.specs.Frames.{End, Unfinished, Refused, Ends, Reads, ReadsFrom, IsSound, AreSound, told, all_told, spelling, spellings}
use Rattle.target_frames.specs.Heads.{offence, due, item_of}
use Rattle.target_frames.proofs.Fronts.{never, front_again, offence_stays}

-- no item's spelling is the beginning of another's
pub no_other : (known : Option ℕ) (a b : Item) (x y : List ℕ) → IsSound known a → IsSound known b → spelling a ++ x ≡ spelling b ++ y → (a ≡ b) × (x ≡ y)
no_other known a b x y sa sb e =
    let same : a ≡ b = sym (front_again known a x sa).same ∙ ap (item_of known) e ∙ (front_again known b y sb).same in
    (same, append_cancel_left (spelling b) x y (ap (λ i. spelling i ++ x) (sym same) ∙ e))

-- ---- one end

ends_one : (known : Option ℕ) (at : ℕ) (more : List ℕ) (e f : End) → Ends known at more e → Ends known at more f → e ≡ f
ends_one known at more (Unfinished r) (Unfinished s) p q = ap Unfinished (sym p.0 ∙ q.0)
ends_one known at more (Unfinished r) (Refused b) p q = absurd (never (offence known more) q.0 p.1 q.1)
ends_one known at more (Refused b) (Unfinished s) p q = absurd (never (offence known more) p.0 q.1 p.1)
ends_one known at more (Refused b) (Refused c) p q =
    let fields : Some p.0 ≡ Some q.0 = sym p.1 ∙ q.1 in
    let same : p.0 ≡ q.0 = cc in
    ap Refused (p.2 ∙ ap (λ n. at + n) same ∙ sym q.2)

-- where an item is whole, nothing ends
pub not_whole : (known : Option ℕ) (at : ℕ) (bytes : List ℕ) (e : End) (item : Item) (x : List ℕ) → Ends known at bytes e → IsSound known item → bytes ≡ spelling item ++ x → ⊥
not_whole known at bytes (Unfinished r) item x ends sound is =
    let again = front_again known item x sound in
    let short : length (spelling item ++ x) < due known (spelling item ++ x) = subst (λ (b : List ℕ). length b < due known b) is ends.2 in
    omega (arith, short, again.len, length-append (spelling item) x)
not_whole known at bytes (Refused b) item x ends sound is =
    never (offence known bytes) ends.0 (ap (offence known) is ∙ (front_again known item x sound).right) ends.1

-- ---- one reading

-- what is read behind the first item
pub record IsBehind (known : Option ℕ) (at : ℕ) (bytes : List ℕ) (item : Item) (items : List Item) (end : End) : Type 0 where
  pub rest : List ℕ
  pub first : bytes ≡ spelling item ++ rest
  pub sound : IsSound known item
  pub reads : ReadsFrom (told known item) (at + length (spelling item)) rest items end

pub behind : (known : Option ℕ) (at : ℕ) (bytes : List ℕ) (item : Item) (items : List Item) (end : End) → ReadsFrom known at bytes (item ∷ items) end → IsBehind known at bytes item items end
behind known at bytes item items end r =
    let cut : spellings (item ∷ items) ≡ spelling item ++ spellings items = flat_map-cons spelling item items in
    let place : at + length (spellings (item ∷ items)) ≡ at + length (spelling item) + length (spellings items) =
    omega (arith, ap length cut, length-append (spelling item) (spellings items)) in
    record {
      rest = spellings items ++ r.more;
      first = r.spelled ∙ ap (λ (t : List ℕ). t ++ r.more) cut ∙ append_assoc (spelling item) (spellings items) r.more;
      sound = r.sound.0;
      reads = record {
        more = r.more;
        spelled = refl;
        sound = r.sound.1;
        ends = subst (λ n. Ends (all_told (told known item) items) n r.more end) place r.ends;
      };
    }

pub one_reading : (known : Option ℕ) (at : ℕ) (bytes : List ℕ) (a b : List Item) (e f : End) → ReadsFrom known at bytes a e → ReadsFrom known at bytes b f → (a ≡ b) × (e ≡ f)
one_reading known at bytes [] [] e f p q =
    let same : p.more ≡ q.more = sym p.spelled ∙ q.spelled in
    (refl, ends_one known (at + 0) q.more e f (subst (λ (m : List ℕ). Ends known (at + 0) m e) same p.ends) q.ends)
one_reading known at bytes [] (j ∷ js) e f p q =
    let second = behind known at bytes j js f q in
    absurd (not_whole known (at + 0) bytes e j second.rest (subst (λ (m : List ℕ). Ends known (at + 0) m e) (sym p.spelled) p.ends) second.sound second.first)
one_reading known at bytes (i ∷ is) [] e f p q =
    let first = behind known at bytes i is e p in
    absurd (not_whole known (at + 0) bytes f i first.rest (subst (λ (m : List ℕ). Ends known (at + 0) m f) (sym q.spelled) q.ends) first.sound first.first)
one_reading known at bytes (i ∷ is) (j ∷ js) e f p q =
    let first = behind known at bytes i is e p in
    let second = behind known at bytes j js f q in
    let one = no_other known i j first.rest second.rest first.sound second.sound (sym first.first ∙ second.first) in
    let P : Item → List ℕ → Type 0 = λ item rest. ReadsFrom (told known item) (at + length (spelling item)) rest js f in
    let others_read : P i first.rest = subst (λ item. P item first.rest) (sym one.0) (subst (P j) (sym one.1) second.reads) in
    let others = one_reading (told known i) (at + length (spelling i)) first.rest is js e f first.reads others_read in
    (ap (λ item. item ∷ is) one.0 ∙ ap (λ items. j ∷ items) others.0, others.1)

-- ---- making readings

empty_ends : (known : Option ℕ) (at : ℕ) → Ends known at [] (Unfinished [])
empty_ends None at = (refl, refl, omega arith)
empty_ends (Some n) at = (refl, refl, omega arith)

pub sound_items : (items : List Item) → AreSound None items → Reads (spellings items) items (Unfinished [])
sound_items items sound = record {
  more = [];
  spelled = sym (append-nil (spellings items));
  sound = sound;
  ends = empty_ends (all_told None items) (0 + length (spellings items));
}

pub told_on : (known : Option ℕ) (a b : List Item) → all_told known (a ++ b) ≡ all_told (all_told known a) b
told_on known [] b = refl
told_on known (i ∷ is) b = told_on (told known i) is b

pub sound_on : (known : Option ℕ) (a b : List Item) → AreSound known a → AreSound (all_told known a) b → AreSound known (a ++ b)
sound_on known [] b sa sb = sb
sound_on known (i ∷ is) b sa sb = (sa.0, sound_on (told known i) is b sa.1 sb)

-- what is read behind an unfinished item goes on with it
pub joined : (known : Option ℕ) (at : ℕ) (x y rest : List ℕ) (a b : List Item) (end : End) → ReadsFrom known at x a (Unfinished rest)
    → ReadsFrom (all_told known a) (at + length (spellings a)) (rest ++ y) b end → ReadsFrom known at (x ++ y) (a ++ b) end
joined known at x y rest a b end p q =
    let all : spellings (a ++ b) ≡ spellings a ++ spellings b = flat_map-append spelling a b in
    let place : at + length (spellings a) + length (spellings b) ≡ at + length (spellings (a ++ b)) =
    omega (arith, ap length all, length-append (spellings a) (spellings b)) in
    record {
      more = q.more;
      spelled =
          ap (λ (t : List ℕ). t ++ y) p.spelled ∙ append_assoc (spellings a) p.more y
          ∙ ap (λ (t : List ℕ). spellings a ++ (t ++ y)) p.ends.0
          ∙ ap (λ (t : List ℕ). spellings a ++ t) q.spelled
          ∙ sym (append_assoc (spellings a) (spellings b) q.more)
          ∙ ap (λ (t : List ℕ). t ++ q.more) (sym all);
      sound = sound_on known a b p.sound q.sound;
      ends =
          let P : Option ℕ → ℕ → Type 0 = λ k n. Ends k n q.more end in
          subst (λ k. P k (at + length (spellings (a ++ b)))) (sym (told_on known a b)) (subst (P (all_told (all_told known a) b)) place q.ends);
    }

-- what is behind a refused field changes nothing
pub stays_refused : (known : Option ℕ) (at : ℕ) (x y : List ℕ) (items : List Item) (byte : ℕ) → ReadsFrom known at x items (Refused byte) → ReadsFrom known at (x ++ y) items (Refused byte)
stays_refused known at x y items byte p = record {
  more = p.more ++ y;
  spelled = ap (λ (t : List ℕ). t ++ y) p.spelled ∙ append_assoc (spellings items) p.more y;
  sound = p.sound;
  ends = (p.ends.0, offence_stays (all_told known items) p.more y p.ends.0 p.ends.1, p.ends.2);
}

-- a reading from the front of some bytes, at their place in the stream
abbrev pub moved : ℕ → End → End
moved at (Unfinished rest) = Unfinished rest
moved at (Refused byte) = Refused (at + byte)

moved_ends : (known : Option ℕ) (at n : ℕ) (more : List ℕ) (end : End) → Ends known (0 + n) more end → Ends known (at + n) more (moved at end)
moved_ends known at n more (Unfinished rest) e = e
moved_ends known at n more (Refused byte) e = (e.0, e.1, omega (arith, e.2))

pub reads_at : (known : Option ℕ) (at : ℕ) (bytes : List ℕ) (items : List Item) (end : End) → ReadsFrom known 0 bytes items end → ReadsFrom known at bytes items (moved at end)
reads_at known at bytes items end r = record {
  more = r.more;
  spelled = r.spelled;
  sound = r.sound;
  ends = moved_ends (all_told known items) at (length (spellings items)) r.more end r.ends;
}
