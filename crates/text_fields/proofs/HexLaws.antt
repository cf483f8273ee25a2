-- Bytes as pairs of hexadecimal digits: what is read is spelt so, and what is spelt so is read.
use Rattle.std.proofs.Common.{◌≡◌, ℕ, ◌+◌, ◌-◌, ◌*◌, ◌/◌, ◌%◌, ◌<◌, ◌≤◌, ◌==◌, ◌&&◌, nat_lt, cond, Bool, true, false, List, [], ◌∷◌, length, Option, Some, None, Result, Ok, Err, refl, sym, ap, subst, ◌∙◌, inl, inr, arith}
use Rattle.std.specs.Prelude.{IsSome}
use Rattle.std.specs.List.{list_all}
use Rattle.std.proofs.lemmas.Bool.{and_parts, and_from, cases_lt, eqb-true}
use Rattle.std.proofs.lemmas.Bool.Decides.{nat_tests}
use Rattle.std.proofs.lemmas.Option.{cond_some, same_Some, none-some}
use Rattle.hex.specs.Hex.{decode_of, decode_pairs, digit_or_error, hex_digit_value, pair_value, value_at}
use Rattle.hex.proofs.HexLemmas.{decode_of-even}
use Rattle.hex.proofs.Pairs.{cons_byte, decode_pairs-ok_pair}
use Rattle.text_fields.specs.Spelling.{AreBytes, nibble, hex, hex_or_dash}
use Rattle.text_fields.specs.Reading.{◌>>=◌, nibble_of, byte_of, hex_of, filled_of, data_of, one_byte_of}
use Rattle.text_fields.specs.Digits.{is_digit, is_hex}
use Rattle.text_fields.specs.Laws.{lacks, HexIsExact, FilledIsExact, OneByteIsExact, DataIsExact}
use Rattle.text_fields.proofs.Cuts.{bind-some, above, above-lower}

-- ---- hexadecimal

nibble-takes : (c n : ℕ) → nibble_of c ≡ Some n → (c ≡ nibble n) × (n < 16)
nibble-takes c n e = grind (arith, nat_tests)

nibble-again : (n : ℕ) → n < 16 → nibble_of (nibble n) ≡ Some n
nibble-again n lt = grind (arith, nat_tests)

byte-takes : (high low b : ℕ) → byte_of high low ≡ Some b → (high ≡ nibble (b / 16)) × (low ≡ nibble (b % 16)) × (b < 256)
unfolding byte_of
byte-takes high low b e =
    let h = bind-some (nibble_of high) (λ h. nibble_of low >>= λ l. Some (h * 16 + l)) b e in
    let l = bind-some (nibble_of low) (λ l. Some (h.0 * 16 + l)) b h.2 in
    let same : h.0 * 16 + l.0 ≡ b = same_Some (h.0 * 16 + l.0) b l.2 in
    let x = nibble-takes high h.0 h.1 in
    let y = nibble-takes low l.0 l.1 in
    let q : h.0 ≡ b / 16 = omega (arith, same, x.1, y.1) in
    let r : l.0 ≡ b % 16 = omega (arith, same, x.1, y.1) in
    (x.0 ∙ ap nibble q, y.0 ∙ ap nibble r, omega (arith, same, x.1, y.1))

byte-again : (b : ℕ) → b < 256 → byte_of (nibble (b / 16)) (nibble (b % 16)) ≡ Some b
unfolding byte_of
byte-again b lt =
    let q : b / 16 < 16 = omega arith in
    let r : b % 16 < 16 = omega arith in
    let same : b / 16 * 16 + b % 16 ≡ b = omega arith in
    rw (nibble-again (b / 16) q, nibble-again (b % 16) r) (ap (λ (k : ℕ). Some k) same)

pair-joined : (high low b : ℕ) (rest bytes : List ℕ) → high ≡ nibble (b / 16) → low ≡ nibble (b % 16) → rest ≡ hex bytes → high ∷ low ∷ rest ≡ hex (b ∷ bytes)
pair-joined high low b rest bytes h l r = rw (h, l, r) refl

pub hex-takes : (text bytes : List ℕ) → hex_of text ≡ Some bytes → (text ≡ hex bytes) × AreBytes bytes
unfolding hex_of
hex-takes [] bytes e = subst (λ (bs : List ℕ). ([] ≡ hex bs) × AreBytes bs) (same_Some [] bytes e) (refl, tt)
hex-takes (c ∷ []) bytes e = absurd cc
hex-takes (high ∷ low ∷ rest) bytes e =
    let x = bind-some (byte_of high low) (λ byte. hex_of rest >>= λ bytes. Some (byte ∷ bytes)) bytes e in
    let y = bind-some (hex_of rest) (λ bytes. Some (x.0 ∷ bytes)) bytes x.2 in
    let b = byte-takes high low x.0 x.1 in
    let bs = hex-takes rest y.0 y.1 in
    let all : high ∷ low ∷ rest ≡ hex (x.0 ∷ y.0) = pair-joined high low x.0 rest y.0 b.0 b.1 bs.0 in
    subst (λ (k : List ℕ). (high ∷ low ∷ rest ≡ hex k) × AreBytes k) (same_Some (x.0 ∷ y.0) bytes y.2) (all, (b.2, bs.1))

pub hex-again : (bytes : List ℕ) → AreBytes bytes → hex_of (hex bytes) ≡ Some bytes
unfolding hex_of
hex-again [] h = refl
hex-again (b ∷ bytes) h = rw (byte-again b h.0, hex-again bytes h.1) refl

pub hex-lacks : (mark : ℕ) (bytes : List ℕ) → mark < 48 → AreBytes bytes → lacks mark (hex bytes) ≡ true
hex-lacks mark [] lt h = refl
hex-lacks mark (b ∷ bytes) lt h =
    let others = hex-lacks mark bytes lt h.1 in
    grind (arith, nat_tests, others)

pub data-takes : (text bytes : List ℕ) → data_of text ≡ Some bytes → (text ≡ hex_or_dash bytes) × AreBytes bytes
unfolding data_of
data-takes [] bytes e = absurd cc
data-takes (c ∷ []) bytes e =
    let g = cond_some (c == 45) [] bytes e in
    let dash : c ≡ 45 = grind (arith, nat_tests, g.0) in
    subst (λ (bs : List ℕ). (c ∷ [] ≡ hex_or_dash bs) × AreBytes bs) g.1 (ap (λ (k : ℕ). k ∷ []) dash, tt)
data-takes (c ∷ d ∷ rest) bytes e = filled bytes (hex-takes (c ∷ d ∷ rest) bytes e)
  where
    filled : (bs : List ℕ) → (c ∷ d ∷ rest ≡ hex bs) × AreBytes bs → (c ∷ d ∷ rest ≡ hex_or_dash bs) × AreBytes bs
    filled [] h = absurd cc
    filled (b ∷ bs) h = h

pub data-again : (bytes : List ℕ) → AreBytes bytes → data_of (hex_or_dash bytes) ≡ Some bytes
unfolding data_of
data-again [] h = refl
data-again (b ∷ bytes) h = hex-again (b ∷ bytes) h

-- at least one byte
pub filled-takes : (text bytes : List ℕ) → filled_of text ≡ Some bytes → (text ≡ hex bytes) × AreBytes bytes × (1 ≤ length bytes)
unfolding filled_of
filled-takes [] bytes e = absurd cc
filled-takes (c ∷ text) bytes e = some-byte bytes (hex-takes (c ∷ text) bytes e)
  where
    some-byte : (bs : List ℕ) → (c ∷ text ≡ hex bs) × AreBytes bs → (c ∷ text ≡ hex bs) × AreBytes bs × (1 ≤ length bs)
    some-byte [] h = absurd cc
    some-byte (b ∷ bs) h = (h.0, h.1, omega arith)

pub filled-again : (bytes : List ℕ) → AreBytes bytes → 1 ≤ length bytes → filled_of (hex bytes) ≡ Some bytes
unfolding filled_of
filled-again [] h lt = let no : ⊥ = omega arith in absurd no
filled-again (b ∷ bytes) h lt = hex-again (b ∷ bytes) h

pub one-byte-takes : (text : List ℕ) (b : ℕ) → one_byte_of text ≡ Some b → (text ≡ hex (b ∷ [])) × (b < 256)
unfolding one_byte_of
one-byte-takes [] b e = absurd cc
one-byte-takes (c ∷ []) b e = absurd cc
one-byte-takes (c ∷ d ∷ []) b e = let t = byte-takes c d b e in (rw (t.0, t.1) refl, t.2)
one-byte-takes (c ∷ d ∷ f ∷ text) b e = absurd cc

pub one-byte-again : (b : ℕ) → b < 256 → one_byte_of (hex (b ∷ [])) ≡ Some b
unfolding one_byte_of
one-byte-again b lt = byte-again b lt

pub hex-exact : HexIsExact
hex-exact text bytes = (hex-takes text bytes, λ h. ap hex_of h.0 ∙ hex-again bytes h.1)

pub filled-exact : FilledIsExact
filled-exact text bytes = (filled-takes text bytes, λ h. ap filled_of h.0 ∙ filled-again bytes h.1 h.2)

pub one-byte-exact : OneByteIsExact
one-byte-exact text b = (one-byte-takes text b, λ h. ap one_byte_of h.0 ∙ one-byte-again b h.1)

pub data-exact : DataIsExact
data-exact text bytes = (data-takes text bytes, λ h. ap data_of h.0 ∙ data-again bytes h.1)

nibble-above : (n : ℕ) → n < 16 → nat_lt 47 (nibble n) ≡ true
nibble-above n h = grind (arith, nat_tests)

pub hex-above : (bytes : List ℕ) → AreBytes bytes → above 47 (hex bytes) ≡ true
hex-above [] h = refl
hex-above (b ∷ bytes) h =
    let lt : b < 256 = h.0 in
    and_from (nat_lt 47 (nibble (b / 16))) (nat_lt 47 (nibble (b % 16)) && above 47 (hex bytes)) (nibble-above (b / 16) (omega (arith, lt)))
    (and_from (nat_lt 47 (nibble (b % 16))) (above 47 (hex bytes)) (nibble-above (b % 16) (omega (arith, lt))) (hex-above bytes h.1))

pub data-solid : (bytes : List ℕ) → AreBytes bytes → above 32 (hex_or_dash bytes) ≡ true
data-solid [] h = refl
data-solid (b ∷ bytes) h = above-lower 32 47 (hex (b ∷ bytes)) (omega arith) (hex-above (b ∷ bytes) h)

-- ---- what `hex::decode` answers to pairs of digits

-- a digit has a value, whose digit it is
digit-value : (c : ℕ) → is_digit c ≡ true → (n : ℕ) × ((hex_digit_value c ≡ Some n) × (c ≡ nibble n) × (n < 16))
digit-value c e = elim (cases_lt c 58) [
  | inl low ↦ (c - 48, (grind (arith, nat_tests), grind (arith, nat_tests), grind (arith, nat_tests)))
  | inr high ↦ (c - 87, (grind (arith, nat_tests), grind (arith, nat_tests), grind (arith, nat_tests)))
]

value-digit : (n : ℕ) → n < 16 → (is_digit (nibble n) ≡ true) × (hex_digit_value (nibble n) ≡ Some n)
value-digit n lt = (grind (arith, nat_tests), grind (arith, nat_tests))

pair-value : (i h l m n : ℕ) → hex_digit_value h ≡ Some m → hex_digit_value l ≡ Some n → pair_value h l i ≡ Ok (m * 16 + n)
pair-value i h l m n eh el =
    let a : value_at h i ≡ Ok m = ap (digit_or_error h i) eh in
    let b : value_at l (i + 1) ≡ Ok n = ap (digit_or_error l (i + 1)) el in
    rw (a, b) refl

pairs-step : (i h l v : ℕ) (rest bytes : List ℕ) → pair_value h l i ≡ Ok v → decode_pairs (i + 2) rest ≡ Ok bytes → decode_pairs i (h ∷ l ∷ rest) ≡ Ok (v ∷ bytes)
pairs-step i h l v rest bytes p r = decode_pairs-ok_pair i h l v rest p ∙ ap (cons_byte v) r

hex-joined : (h l m n : ℕ) (rest bytes : List ℕ) → h ≡ nibble m → l ≡ nibble n → m < 16 → n < 16 → rest ≡ hex bytes → h ∷ l ∷ rest ≡ hex ((m * 16 + n) ∷ bytes)
hex-joined h l m n rest bytes eh el lm ln er =
    let q : m ≡ (m * 16 + n) / 16 = omega arith in
    let r : n ≡ (m * 16 + n) % 16 = omega arith in
    let first : h ≡ nibble ((m * 16 + n) / 16) = eh ∙ ap nibble q in
    let second : l ≡ nibble ((m * 16 + n) % 16) = el ∙ ap nibble r in
    rw (first, second, er) refl

-- digits, of an even number, are the digits of some bytes, and are decoded as these
pub pairs-read : (i : ℕ) (text : List ℕ) → list_all is_digit text ≡ true → length text % 2 ≡ 0 → (bytes : List ℕ) × ((decode_pairs i text ≡ Ok bytes) × (text ≡ hex bytes) × AreBytes bytes)
unfolding decode_pairs
pairs-read i [] all even = ([], (refl, refl, tt))
pairs-read i (h ∷ []) all even = absurd (omega arith)
pairs-read i (h ∷ (l ∷ rest)) all even =
    let one = and_parts (is_digit h) (list_all is_digit (l ∷ rest)) all in
    let two = and_parts (is_digit l) (list_all is_digit rest) one.1 in
    let m = digit-value h one.0 in
    let n = digit-value l two.0 in
    let more = pairs-read (i + 2) rest two.1 (omega arith) in
    let v : ℕ = m.0 * 16 + n.0 in
    let fits : v < 256 = omega (arith, m.1.2, n.1.2) in (
      v ∷ more.0,
      (
        pairs-step i h l v rest more.0 (pair-value i h l m.0 n.0 m.1.0 n.1.0) more.1.0,
        hex-joined h l m.0 n.0 rest more.0 m.1.1 n.1.1 m.1.2 n.1.2 more.1.1,
        (fits, more.1.2),
      ),
    )

pub pairs-again : (i : ℕ) (bytes : List ℕ) → AreBytes bytes → (list_all is_digit (hex bytes) ≡ true) × (decode_pairs i (hex bytes) ≡ Ok bytes)
unfolding decode_pairs
pairs-again i [] h = (refl, refl)
pairs-again i (b ∷ bytes) h =
    let lt : b < 256 = h.0 in
    let q = value-digit (b / 16) (omega arith) in
    let r = value-digit (b % 16) (omega arith) in
    let more = pairs-again (i + 2) bytes h.1 in
    let whole : b / 16 * 16 + b % 16 ≡ b = omega arith in
    let step = pairs-step i (nibble (b / 16)) (nibble (b % 16)) (b / 16 * 16 + b % 16) (hex bytes) bytes (pair-value i (nibble (b / 16)) (nibble (b % 16)) (b / 16) (b % 16) q.1 r.1) more.1 in
    (and_from _ _ q.0 (and_from _ _ r.0 more.0), step ∙ ap (λ (v : ℕ). Ok (v ∷ bytes)) whole)

pub length-hex : (bytes : List ℕ) → length (hex bytes) ≡ 2 * length bytes
length-hex [] = refl
length-hex (b ∷ bytes) = let e = length-hex bytes in omega (arith, e)

-- ---- what the code reads

is_hex-parts : (text : List ℕ) → is_hex text ≡ true → (length text % 2 ≡ 0) × (list_all is_digit text ≡ true)
is_hex-parts text e =
    let parts = and_parts (length text % 2 == 0) (list_all is_digit text) e in
    (eqb-true (length text % 2) 0 parts.0, parts.1)

-- a text of pairs of digits is read, as `hex::decode` has it
pub hex-some : (text : List ℕ) → is_hex text ≡ true → (bytes : List ℕ) × ((hex_of text ≡ Some bytes) × (decode_of text ≡ Ok bytes))
hex-some text e =
    let parts = is_hex-parts text e in
    let read = pairs-read 0 text parts.1 parts.0 in
    (read.0, (ap hex_of read.1.1 ∙ hex-again read.0 read.1.2, decode_of-even text parts.0 ∙ read.1.0))

-- what is read is pairs of digits
hex-is : (text bytes : List ℕ) → hex_of text ≡ Some bytes → is_hex text ≡ true
hex-is text bytes e =
    let t = hex-takes text bytes e in
    let all : list_all is_digit (hex bytes) ≡ true = (pairs-again 0 bytes t.1).0 in
    let even : length (hex bytes) % 2 ≡ 0 = omega (arith, length-hex bytes) in
    let is : is_hex (hex bytes) ≡ true = and_from _ _ (grind (arith, nat_tests, even)) all in
    ap is_hex t.0 ∙ is

none-unless : (o : Option (List ℕ)) → ((bytes : List ℕ) → o ≡ Some bytes → ⊥) → o ≡ None
none-unless None never = refl
none-unless (Some bytes) never = absurd (never bytes refl)

-- and nothing is read of another text
pub hex-none : (text : List ℕ) (is : Bool) → is ≡ is_hex text → is ≡ false → hex_of text ≡ None
hex-none text is e f =
    none-unless (hex_of text) (λ bytes read. let clash : true ≡ false = sym (hex-is text bytes read) ∙ sym e ∙ f in cc clash)

pub hex-found : (text bytes found : List ℕ) (is : Bool) → is ≡ is_hex text → is ≡ true → decode_of text ≡ Ok bytes → found ≡ bytes → hex_of text ≡ Some found
hex-found text bytes found is e t decoded same =
    let s = hex-some text (sym e ∙ t) in
    let one : Ok s.0 ≡ Ok bytes = sym s.1.1 ∙ decoded in
    let read : s.0 ≡ bytes = cc one in
    s.1.0 ∙ ap (λ (bs : List ℕ). Some bs) (read ∙ sym same)

pub hex-is_some : (text : List ℕ) (is : Bool) → is ≡ is_hex text → is ≡ true → IsSome (hex_of text)
hex-is_some text is e t =
    let s = hex-some text (sym e ∙ t) in
    let P : Option (List ℕ) → Type 0 = λ o. IsSome o in
    subst P (sym s.1.0) refl
