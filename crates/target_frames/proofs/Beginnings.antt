-- What a stream begins with.
use Rattle.std.proofs.Common.{◌≡◌, ◌⊎◌, ℕ, ◌+◌, List, [], ◌∷◌, ◌++◌, length, Option, Some, None, refl, sym, ap, subst, ◌∙◌, inl, inr, append_assoc}
use Rattle.std.proofs.lemmas.List.{append_cancel_left}
use Rattle.std.proofs.lemmas.List.Concat.{flat_map-cons, flat_map-append}
use Rattle.target_frames.specs.declared.items.Item.{Item}
use Rattle.target_frames.specs.Frames.{End, Ends, ReadsFrom, IsSound, AreSound, told, all_told, spelling, spellings}
use Rattle.target_frames.proofs.Streams.{no_other, not_whole, behind}

-- the first item of some, and what stands behind it
first_of : (item : Item) (items : List Item) (more : List ℕ) → spellings (item ∷ items) ++ more ≡ spelling item ++ (spellings items ++ more)
first_of item items more = ap (λ (t : List ℕ). t ++ more) (flat_map-cons spelling item items) ∙ append_assoc (spelling item) (spellings items) more

-- whole items at the front of a stream are the first that are read
pub are_read : (known : Option ℕ) (at : ℕ) (bytes more : List ℕ) (items all : List Item) (end : End) → AreSound known items → bytes ≡ spellings items ++ more
    → ReadsFrom known at bytes all end → (rest : List Item) × (all ≡ items ++ rest)
are_read known at bytes more [] all end sound is r = (all, refl)
are_read known at bytes more (i ∷ is) [] end sound spelled r =
    let here : r.more ≡ spelling i ++ (spellings is ++ more) = sym r.spelled ∙ spelled ∙ first_of i is more in
    absurd (not_whole known (at + 0) r.more end i (spellings is ++ more) r.ends sound.0 here)
are_read known at bytes more (i ∷ is) (j ∷ js) end sound spelled r =
    let b = behind known at bytes j js end r in
    let one = no_other known i j (spellings is ++ more) b.rest sound.0 b.sound (sym (first_of i is more) ∙ sym spelled ∙ b.first) in
    let P : Item → Type 0 = λ item. ReadsFrom (told known item) (at + length (spelling item)) b.rest js end in
    let others = are_read (told known i) (at + length (spelling i)) b.rest more is js end sound.1 (sym one.1) (subst P (sym one.0) b.reads) in
    (others.0, ap (λ item. item ∷ js) (sym one.0) ∙ ap (λ items. i ∷ items) others.1)

-- of two lists of whole items at the front of the same bytes one begins the other
pub one_front : (known : Option ℕ) (a b : List Item) (x y : List ℕ) → AreSound known a → AreSound known b → spellings a ++ x ≡ spellings b ++ y
    → ((rest : List Item) × (b ≡ a ++ rest)) ⊎ ((rest : List Item) × (a ≡ b ++ rest))
one_front known [] b x y sa sb e = inl (b, refl)
one_front known (i ∷ is) [] x y sa sb e = inr (i ∷ is, refl)
one_front known (i ∷ is) (j ∷ js) x y sa sb e = longer (one_front (told known i) is js x y sa.1 (subst (λ item. AreSound (told known item) js) (sym one.0) sb.1) one.1)
  where
    one : (i ≡ j) × (spellings is ++ x ≡ spellings js ++ y)
    one = no_other known i j (spellings is ++ x) (spellings js ++ y) sa.0 sb.0 (sym (first_of i is x) ∙ e ∙ first_of j js y)

    longer : ((rest : List Item) × (js ≡ is ++ rest)) ⊎ ((rest : List Item) × (is ≡ js ++ rest)) → ((rest : List Item) × (j ∷ js ≡ i ∷ is ++ rest)) ⊎ ((rest : List Item) × (i ∷ is ≡ j ∷ js ++ rest))
    longer (inl rest) = inl (rest.0, ap (λ item. item ∷ js) (sym one.0) ∙ ap (λ items. i ∷ items) rest.1)
    longer (inr rest) = inr (rest.0, ap (λ item. item ∷ is) one.0 ∙ ap (λ items. j ∷ items) rest.1)

-- items that may stand behind one another, in two parts
pub sound_first : (known : Option ℕ) (a b : List Item) → AreSound known (a ++ b) → AreSound known a
sound_first known [] b s = tt
sound_first known (i ∷ is) b s = (s.0, sound_first (told known i) is b s.1)

pub sound_rest : (known : Option ℕ) (a b : List Item) → AreSound known (a ++ b) → AreSound (all_told known a) b
sound_rest known [] b s = s
sound_rest known (i ∷ is) b s = sound_rest (told known i) is b s.1

pub spelled_on : (a b : List Item) (more : List ℕ) → spellings (a ++ b) ++ more ≡ spellings a ++ (spellings b ++ more)
spelled_on a b more = ap (λ (t : List ℕ). t ++ more) (flat_map-append spelling a b) ∙ append_assoc (spellings a) (spellings b) more

-- the next item of a stream is one
pub one_next : (known : Option ℕ) (front : List Item) (i j : Item) (is js : List Item) (x y : List ℕ) → AreSound known (front ++ i ∷ is) → AreSound known (front ++ j ∷ js)
    → spellings (front ++ i ∷ is) ++ x ≡ spellings (front ++ j ∷ js) ++ y → i ≡ j
one_next known front i j is js x y sa sb e =
    let both : spellings (i ∷ is) ++ x ≡ spellings (j ∷ js) ++ y =
    append_cancel_left (spellings front) (spellings (i ∷ is) ++ x) (spellings (j ∷ js) ++ y) (sym (spelled_on front (i ∷ is) x) ∙ e ∙ spelled_on front (j ∷ js) y) in
    (no_other (all_told known front) i j (spellings is ++ x) (spellings js ++ y) (sound_rest known front (i ∷ is) sa).0 (sound_rest known front (j ∷ js) sb).0
    (sym (first_of i is x) ∙ both ∙ first_of j js y)).0
