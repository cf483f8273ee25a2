-- A stream is found to be one thing, and nothing where it is served to its end.
use Rattle.std.proofs.Common.{◌≡◌, ◌≢◌, ◌⊎◌, ℕ, List, [], ◌∷◌, ◌++◌, Some, None, sym, ap, subst, ◌∙◌, inl, inr, append_assoc}
use Rattle.std.proofs.lemmas.List.{append-nil}
use Rattle.std.proofs.lemmas.Option.{none-some, same_Some}
use Rattle.target_frames.specs.declared.items.Item.{Item}
use Rattle.target_frames.specs.Frames as readings
use Rattle.target_frames.specs.Frames.{End, Unfinished, Reads, AreSound, spellings}
use Rattle.target_frames.proofs.Streams.{one_reading}
use Rattle.target_frames.proofs.Beginnings.{are_read, one_front, one_next, sound_first, spelled_on}
use Rattle.target_service.specs.declared.findings.ServiceLimit.{ServiceLimit}
use Rattle.target_service.specs.declared.findings.ServiceFinding.{ServiceFinding}
use Rattle.target_service.specs.declared.findings.ServiceFinding.TheVariants.{Refused, Ended, Over}
use Rattle.target_service.specs.Limits.{limit_in}
use Rattle.target_service.specs.Served.{Begins, IsWhole}
use Rattle.target_service.specs.Found.{IsFound}
use Rattle.target_service.proofs.Counting.{limit-shorter}

-- what is past a limit isn't within all
past-not_within : (items : List Item) (limit : ServiceLimit) → limit_in items ≡ Some limit → limit_in items ≡ None → ⊥
past-not_within items limit past within = none-some limit (sym within ∙ past)

-- a reading within all limits has no item that passes one
not-past : (stream : List ℕ) (items all : List Item) (item : Item) (end : End) (limit : ServiceLimit) → Begins stream (items ++ item ∷ []) → limit_in (items ++ item ∷ []) ≡ Some limit
    → Reads stream all end → limit_in all ≡ None → ⊥
not-past stream items all item end limit begins past reads within =
    let more = are_read None 0 stream begins.more (items ++ item ∷ []) all end begins.sound begins.spelled reads in
    past-not_within (items ++ item ∷ []) limit past (limit-shorter (items ++ item ∷ []) more.0 (sym (ap limit_in more.1) ∙ within))

-- ---- two limits

-- the first item that passes a limit is one, where one beginning is no longer than the other
first-past : (stream : List ℕ) (a rest : List Item) (x y : Item) (l m : ServiceLimit) → Begins stream (a ++ x ∷ []) → limit_in (a ++ x ∷ []) ≡ Some l
    → Begins stream ((a ++ rest) ++ y ∷ []) → limit_in ((a ++ rest) ++ y ∷ []) ≡ Some m → limit_in (a ++ rest) ≡ None → l ≡ m
first-past stream a [] x y l m p past q later within =
    let P : List Item → Type 0 = λ items. Begins stream (items ++ y ∷ []) in
    let none : a ++ [] ≡ a = append-nil a in
    let other : Begins stream (a ++ y ∷ []) = subst P none q in
    let same : x ≡ y = one_next None a x y [] [] p.more other.more p.sound other.sound (sym p.spelled ∙ other.spelled) in
    let both : Some l ≡ Some m = sym past ∙ ap (λ item. limit_in (a ++ item ∷ [])) same ∙ ap (λ items. limit_in (items ++ y ∷ [])) (sym none) ∙ later in
    same_Some l m both
first-past stream a (z ∷ zs) x y l m p past q later within =
    let apart : (a ++ z ∷ zs) ++ y ∷ [] ≡ a ++ z ∷ (zs ++ y ∷ []) = append_assoc a (z ∷ zs) (y ∷ []) in
    let other : Begins stream (a ++ z ∷ (zs ++ y ∷ [])) = subst (Begins stream) apart q in
    let same : x ≡ z = one_next None a x z [] (zs ++ y ∷ []) p.more other.more p.sound other.sound (sym p.spelled ∙ other.spelled) in
    let front : a ++ z ∷ zs ≡ (a ++ x ∷ []) ++ zs = ap (λ item. a ++ item ∷ zs) (sym same) ∙ sym (append_assoc a (x ∷ []) zs) in
    absurd (past-not_within (a ++ x ∷ []) l past (limit-shorter (a ++ x ∷ []) zs (sym (ap limit_in front) ∙ within)))

front-of : (stream : List ℕ) (items : List Item) (item : Item) → Begins stream (items ++ item ∷ []) → Begins stream items
front-of stream items item b = record {
  more = spellings (item ∷ []) ++ b.more;
  spelled = b.spelled ∙ spelled_on items (item ∷ []) b.more;
  sound = sound_first None items (item ∷ []) b.sound;
}

one-limit : (stream : List ℕ) (a b : List Item) (x y : Item) (l m : ServiceLimit) → limit_in a ≡ None → limit_in b ≡ None
    → Begins stream (a ++ x ∷ []) → limit_in (a ++ x ∷ []) ≡ Some l → Begins stream (b ++ y ∷ []) → limit_in (b ++ y ∷ []) ≡ Some m → l ≡ m
one-limit stream a b x y l m within_a within_b p past q later =
    by-front (one_front None a b f.more g.more f.sound g.sound (sym f.spelled ∙ g.spelled))
  where
    f : Begins stream a
    f = front-of stream a x p

    g : Begins stream b
    g = front-of stream b y q

    by-front : ((rest : List Item) × (b ≡ a ++ rest)) ⊎ ((rest : List Item) × (a ≡ b ++ rest)) → l ≡ m
    by-front (inl rest) =
        let P : List Item → Type 0 = λ items. Begins stream (items ++ y ∷ []) in
        let Q : List Item → Type 0 = λ items. limit_in (items ++ y ∷ []) ≡ Some m in
        first-past stream a rest.0 x y l m p past (subst P rest.1 q) (subst Q rest.1 later) (sym (ap limit_in rest.1) ∙ within_b)
    by-front (inr rest) =
        let P : List Item → Type 0 = λ items. Begins stream (items ++ x ∷ []) in
        let Q : List Item → Type 0 = λ items. limit_in (items ++ x ∷ []) ≡ Some l in
        sym (first-past stream b rest.0 y x m l q later (subst P rest.1 p) (subst Q rest.1 past) (sym (ap limit_in rest.1) ∙ within_a))

-- ---- two findings

ends-apart : (rest : List ℕ) (byte : ℕ) → Unfinished rest ≡ readings.Refused byte → ⊥
ends-apart rest byte e = absurd cc

pub one-finding : (stream : List ℕ) (a b : ServiceFinding) → IsFound stream a → IsFound stream b → a ≡ b
one-finding stream (Refused x) (Refused y) f g =
    let same : readings.Refused x ≡ readings.Refused y = (one_reading None 0 stream f.items g.items (readings.Refused x) (readings.Refused y) f.ends g.ends).1 in
    let bytes : x ≡ y = cc in
    ap Refused bytes
one-finding stream (Refused x) (Ended y) f g =
    absurd (ends-apart g.ends.0 x (sym (one_reading None 0 stream f.items g.items (readings.Refused x) (Unfinished g.ends.0) f.ends g.ends.1.0).1))
one-finding stream (Refused x) (Over m) f g = absurd (not-past stream g.items f.items g.ends.0 (readings.Refused x) m g.ends.1.0 g.ends.1.1 f.ends f.within)
one-finding stream (Ended x) (Refused y) f g =
    absurd (ends-apart f.ends.0 y (one_reading None 0 stream f.items g.items (Unfinished f.ends.0) (readings.Refused y) f.ends.1.0 g.ends).1)
one-finding stream (Ended x) (Ended y) f g = ap Ended (f.ends.1.2 ∙ sym g.ends.1.2)
one-finding stream (Ended x) (Over m) f g = absurd (not-past stream g.items f.items g.ends.0 (Unfinished f.ends.0) m g.ends.1.0 g.ends.1.1 f.ends.1.0 f.within)
one-finding stream (Over l) (Refused y) f g = absurd (not-past stream f.items g.items f.ends.0 (readings.Refused y) l f.ends.1.0 f.ends.1.1 g.ends g.within)
one-finding stream (Over l) (Ended y) f g = absurd (not-past stream f.items g.items f.ends.0 (Unfinished g.ends.0) l f.ends.1.0 f.ends.1.1 g.ends.1.0 g.within)
one-finding stream (Over l) (Over m) f g = ap Over (one-limit stream f.items g.items f.ends.0 g.ends.0 l m f.within g.within f.ends.1.0 f.ends.1.1 g.ends.1.0 g.ends.1.1)

-- nothing is found of a stream that is served to its end
whole-not_ended : (opening : Item) (behind items : List Item) (rest : List ℕ) → opening ∷ behind ≡ items → Unfinished [] ≡ Unfinished rest → (items ≡ []) ⊎ (rest ≢ []) → ⊥
whole-not_ended opening behind items rest same ends (inl none) = absurd (let no : opening ∷ behind ≡ [] = same ∙ none in cc no)
whole-not_ended opening behind items rest same ends (inr some) = some (let is : rest ≡ [] = cc in is)

pub whole-not_found : (stream : List ℕ) (finding : ServiceFinding) → IsWhole stream → IsFound stream finding → ⊥
whole-not_found stream (Refused x) w f =
    ends-apart [] x (one_reading None 0 stream (w.opening ∷ w.frames) f.items (Unfinished []) (readings.Refused x) w.reads f.ends).1
whole-not_found stream (Ended x) w f =
    let one = one_reading None 0 stream (w.opening ∷ w.frames) f.items (Unfinished []) (Unfinished f.ends.0) w.reads f.ends.1.0 in
    whole-not_ended w.opening w.frames f.items f.ends.0 one.0 one.1 f.ends.1.1
whole-not_found stream (Over l) w f = not-past stream f.items (w.opening ∷ w.frames) f.ends.0 (Unfinished []) l f.ends.1.0 f.ends.1.1 w.reads w.within
