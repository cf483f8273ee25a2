-- Numbers and bytes in words: what is read is spelt so, and what is spelt so is read.
use Rattle.std.proofs.Common.{◌≡◌, ◌≢◌, ℕ, ◌≤◌, ◌<◌, ◌^◌, List, [], ◌∷◌, length, Some, refl, sym, ap, ◌∙◌, arith}
use Rattle.std.specs.Fmt.{decimal}
use Rattle.text_fields.specs.Spelling.{hex}
use Rattle.text_fields.proofs.NumeralLaws as numerals
use Rattle.text_fields.proofs.NumeralLaws.{numeral-decimal}
use Rattle.text_fields.proofs.HexLaws.{filled-takes, filled-again}
use Rattle.xor_cli.specs.Words.{IsData}
use Rattle.xor_cli.specs.WordReading.{hex_of, number_of}

some-bytes : (bytes : List ℕ) → 1 ≤ length bytes → bytes ≢ []
some-bytes [] h e = omega arith
some-bytes (b ∷ bytes) h e = cc e

at-least-one : (bytes : List ℕ) → bytes ≢ [] → 1 ≤ length bytes
at-least-one [] h = absurd (h refl)
at-least-one (b ∷ bytes) h = omega arith

pub hex-takes : (word bytes : List ℕ) → hex_of word ≡ Some bytes → (word ≡ hex bytes) × IsData bytes
hex-takes word bytes e =
    let t = filled-takes word bytes e in
    (t.0, (some-bytes bytes t.2, t.1))

pub hex-again : (bytes : List ℕ) → IsData bytes → hex_of (hex bytes) ≡ Some bytes
hex-again bytes h = filled-again bytes h.1 (at-least-one bytes h.0)

pub number-takes : (word : List ℕ) (n : ℕ) → number_of word ≡ Some n → (word ≡ decimal n) × (n < 2 ^ 32)
number-takes word n e =
    let t = numerals.number-takes 4294967295 word n e in
    (t.0 ∙ numeral-decimal n (omega (arith, t.1)), omega (arith, t.1))

pub number-again : (n : ℕ) → n < 2 ^ 32 → number_of (decimal n) ≡ Some n
number-again n lt = ap number_of (sym (numeral-decimal n (omega (arith, lt)))) ∙ numerals.number-again 4294967295 n (omega (arith, lt))
