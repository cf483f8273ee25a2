-- CDBs, senses and reasons of refusals, as words.
use Rattle.std.proofs.Common.{◌≡◌, ℕ, suc, ◌+◌, ◌-◌, ◌*◌, ◌/◌, ◌%◌, ◌^◌, ◌<◌, ◌≤◌, ◌&&◌, ◌==◌, nat_lt, not, cond, Bool, true, false, List, [], ◌∷◌, ◌++◌, length, get_or, take, drop, Option, Some, None, option_map, refl, sym, ap, subst, ◌∙◌, length-append, arith}
use Rattle.std.specs.Prelude.{codes}
use Rattle.std.specs.List.{AllByRecursion}
use Rattle.std.specs.Str.{bytes_eq}
use Rattle.std.specs.Fmt.{decimal}
use Rattle.std.proofs.lemmas.Bool.{and_from}
use Rattle.std.proofs.lemmas.Bool.Decides.{nat_tests}
use Rattle.std.proofs.lemmas.List.{take_at, take-append-drop, length-replicate, length-take-le, get_or-drop}
use Rattle.std.proofs.lemmas.Option.{same_Some}
use Rattle.std.proofs.lemmas.Slice.Eq.{bytes_eq-Decides}
use Rattle.blocks_core.specs.Xor.{zeros}
use Rattle.sbc_cdbs.specs.declared.descriptor.Cdb.{Cdb}
use Rattle.sbc_cdbs.specs.Cdbs.{cdb_bytes}
use Rattle.sense_data.specs.declared.senses.Pointer.{Pointer}
use Rattle.sense_data.specs.declared.senses.Sense.{Sense}
use Rattle.sense_data.specs.Reading.{Values, values, pointer_parts}
use Rattle.sense_data.specs.Illegal.{in_cdb, illegal}
use Rattle.array_journal.specs.declared.event.Why.{Why}
use Rattle.array_journal.specs.declared.event.Why.TheVariants.{Illegal, Medium, NotReady, Unfitted, Present, Listed, Second, Clean, Absent, NotLost}
use Rattle.text_fields.specs.Spelling.{hex_or_dash, upper_nibble, upper_byte, AreBytes}
use Rattle.journal_text.specs.Traces.{pointer_text, sense_text, why_text}
use Rattle.text_fields.specs.Reading.{◌>>=◌, cut_at, number_of, data_of, stripped}
use Rattle.journal_text.specs.Steps.{below, at_most, same}
use Rattle.journal_text.specs.Cdbs.{zeros-behind, cdb_of}
use Rattle.journal_text.specs.Words.{spelt_of}
use Rattle.journal_text.specs.Senses.{upper_of, key_of, code_of, plain_sense, pointed_of, sense_with, sense_made, sense_of, plain_why_of, illegal_or, why_of}
use Rattle.journal_text.specs.Lines.{cdb_word_of}
use Rattle.journal_text.specs.Readable.{IsCdb, IsPointer, IsSense, IsWhy}
use Rattle.text_fields.proofs.Cuts.{bind-some, above, above-append, above-lower, cut-takes, cut-again, stripped-takes, stripped-again}
use Rattle.text_fields.specs.Laws.{lacks}
use Rattle.journal_text.proofs.Numerals.{number-takes, number-again, decimal-above, decimal-some}
use Rattle.journal_text.proofs.Leaves.{cdb-short, pointed-read, plain-read, other-read}
use Rattle.journal_text.proofs.Parts.{IsWord}
use Rattle.journal_text.proofs.WordLaws.{data-word, no-dash, spelt-takes}

-- ---- CDBs

cdb-takes : (bytes : List ℕ) (cdb : Cdb) → cdb_of bytes ≡ Some cdb → (bytes ≡ cdb_bytes cdb) × (length cdb.bytes ≡ 16)
unfolding cdb_of
cdb-takes bytes cdb e =
    let x = bind-some (at_most (length bytes) 16) (λ fits. Some (record { bytes = bytes ++ zeros (16 - length bytes); len = length bytes; fits = fits; padded = zeros-behind bytes (16 - length bytes) })) cdb e in
    let made : Cdb = record { bytes = bytes ++ zeros (16 - length bytes); len = length bytes; fits = x.0; padded = zeros-behind bytes (16 - length bytes) } in
    let a : length (bytes ++ zeros (16 - length bytes)) ≡ length bytes + length (zeros (16 - length bytes)) = length-append bytes (zeros (16 - length bytes)) in
    let b : length (zeros (16 - length bytes)) ≡ 16 - length bytes = length-replicate (16 - length bytes) 0 in
    let fits : length bytes ≤ 16 = x.0 in
    subst (λ (c : Cdb). (bytes ≡ cdb_bytes c) × (length c.bytes ≡ 16)) (same_Some made cdb x.2) (sym (take_at bytes (zeros (16 - length bytes)) (length bytes) refl), omega (arith, a, b, fits))

-- a list of zeros
all-zero : (xs : List ℕ) → ((k : ℕ) → get_or xs k 0 ≡ 0) → xs ≡ zeros (length xs)
all-zero [] h = refl
all-zero (x ∷ xs) h = ap (λ (n : ℕ). n ∷ xs) (h 0) ∙ ap (λ (ys : List ℕ). 0 ∷ ys) (all-zero xs (λ k. h (suc k)))

drop-zero : (bytes : List ℕ) (len k : ℕ) → ((k : ℕ) → len ≤ k → get_or bytes k 0 ≡ 0) → get_or (drop len bytes) k 0 ≡ 0
drop-zero bytes len k padded = get_or-drop len bytes k 0 ∙ padded (len + k) (omega arith)

cdb-again : (cdb : Cdb) → IsCdb cdb → cdb_of (cdb_bytes cdb) ≡ Some cdb
cdb-again cdb h =
    let fits : cdb.len ≤ 16 = cdb.fits in
    let whole : length cdb.bytes ≡ 16 = h.0 in
    let len : length (take cdb.len cdb.bytes) ≡ cdb.len = length-take-le cdb.len cdb.bytes (omega (arith, fits, whole)) in
    let parts : take cdb.len cdb.bytes ++ drop cdb.len cdb.bytes ≡ cdb.bytes = take-append-drop cdb.len cdb.bytes in
    let sum : length (take cdb.len cdb.bytes ++ drop cdb.len cdb.bytes) ≡ length (take cdb.len cdb.bytes) + length (drop cdb.len cdb.bytes) = length-append (take cdb.len cdb.bytes) (drop cdb.len cdb.bytes) in
    let rest : length (drop cdb.len cdb.bytes) ≡ 16 - length (take cdb.len cdb.bytes) = omega (arith, sum, ap (λ (xs : List ℕ). length xs) parts, whole, len) in
    let none : drop cdb.len cdb.bytes ≡ zeros (length (drop cdb.len cdb.bytes)) = all-zero (drop cdb.len cdb.bytes) (λ k. drop-zero cdb.bytes cdb.len k cdb.padded) in
    let bytes : cdb.bytes ≡ take cdb.len cdb.bytes ++ zeros (16 - length (take cdb.len cdb.bytes)) = sym parts ∙ ap (λ (xs : List ℕ). take cdb.len cdb.bytes ++ xs) (none ∙ ap zeros rest) in
    cdb-short (take cdb.len cdb.bytes) cdb bytes (sym len) (omega (arith, len, fits))

word-takes : (word : List ℕ) (cdb : Cdb) → cdb_word_of word ≡ Some cdb → (word ≡ hex_or_dash (cdb_bytes cdb)) × IsCdb cdb
unfolding cdb_word_of
word-takes word cdb e =
    let x = bind-some (data_of word) cdb_of cdb e in
    let d = data-word.takes word x.0 x.1 in
    let c = cdb-takes x.0 cdb x.2 in
    (d.0 ∙ ap hex_or_dash c.0, (c.1, subst AreBytes c.0 d.1))

word-again : (cdb : Cdb) → IsCdb cdb → cdb_word_of (hex_or_dash (cdb_bytes cdb)) ≡ Some cdb
unfolding cdb_word_of
word-again cdb h = ap (λ (o : Option (List ℕ)). o >>= cdb_of) (data-word.again (cdb_bytes cdb) h.1) ∙ cdb-again cdb h

pub cdb-word : IsWord Cdb (λ c. hex_or_dash (cdb_bytes c)) IsCdb cdb_word_of
cdb-word = record { takes = word-takes; again = word-again; solid = λ c h. data-word.solid (cdb_bytes c) h.1 }

-- ---- digits in upper case

upper-takes : (c n : ℕ) → upper_of c ≡ Some n → (c ≡ upper_nibble n) × (n < 16)
upper-takes c n e = grind (arith, nat_tests)

upper-again : (n : ℕ) → n < 16 → upper_of (upper_nibble n) ≡ Some n
upper-again n lt = grind (arith, nat_tests)

upper-above : (n : ℕ) → n < 16 → nat_lt 32 (upper_nibble n) ≡ true
upper-above n lt = grind (arith, nat_tests)

upper-lacks : (n : ℕ) → n < 16 → not (upper_nibble n == 58) ≡ true
upper-lacks n lt = grind (arith, nat_tests)

key-takes : (text : List ℕ) (key : ℕ) → key_of text ≡ Some key → (text ≡ upper_nibble key ∷ []) × (key < 16)
unfolding key_of
key-takes [] key e = absurd cc
key-takes (c ∷ []) key e = let u = upper-takes c key e in (ap (λ (x : ℕ). x ∷ []) u.0, u.1)
key-takes (c ∷ d ∷ rest) key e = absurd cc

key-again : (key : ℕ) → key < 16 → key_of (upper_nibble key ∷ []) ≡ Some key
unfolding key_of
key-again key h = upper-again key h

code-takes : (text : List ℕ) (code : ℕ) → code_of text ≡ Some code → (text ≡ upper_byte code) × (code < 256)
unfolding code_of
code-takes [] code e = absurd cc
code-takes (c ∷ []) code e = absurd cc
code-takes (c ∷ d ∷ []) code e =
    let h = bind-some (upper_of c) (λ high. upper_of d >>= λ low. Some (high * 16 + low)) code e in
    let l = bind-some (upper_of d) (λ low. Some (h.0 * 16 + low)) code h.2 in
    let same : h.0 * 16 + l.0 ≡ code = same_Some (h.0 * 16 + l.0) code l.2 in
    let x = upper-takes c h.0 h.1 in
    let y = upper-takes d l.0 l.1 in
    let q : h.0 ≡ code / 16 = omega (arith, same, x.1, y.1) in
    let r : l.0 ≡ code % 16 = omega (arith, same, x.1, y.1) in
    (ap (λ (n : ℕ). n ∷ d ∷ []) (x.0 ∙ ap upper_nibble q) ∙ ap (λ (n : ℕ). upper_nibble (code / 16) ∷ n ∷ []) (y.0 ∙ ap upper_nibble r), omega (arith, same, x.1, y.1))
code-takes (c ∷ d ∷ f ∷ rest) code e = absurd cc

code-again : (code : ℕ) → code < 256 → code_of (upper_byte code) ≡ Some code
unfolding code_of
code-again code lt =
    let q : code / 16 < 16 = omega arith in
    let r : code % 16 < 16 = omega arith in
    let same : code / 16 * 16 + code % 16 ≡ code = omega arith in
    rw (upper-again (code / 16) q, upper-again (code % 16) r) (ap (λ (k : ℕ). Some k) same)

code-lacks : (code : ℕ) → code < 256 → lacks 58 (upper_byte code) ≡ true
code-lacks code lt =
    and_from (not (upper_nibble (code / 16) == 58)) (not (upper_nibble (code % 16) == 58) && true) (upper-lacks (code / 16) (omega arith))
    (and_from (not (upper_nibble (code % 16) == 58)) true (upper-lacks (code % 16) (omega arith)) refl)

code-above : (code : ℕ) → code < 256 → above 32 (upper_byte code) ≡ true
code-above code lt =
    and_from (nat_lt 32 (upper_nibble (code / 16))) (nat_lt 32 (upper_nibble (code % 16)) && true) (upper-above (code / 16) (omega arith))
    (and_from (nat_lt 32 (upper_nibble (code % 16))) true (upper-above (code % 16) (omega arith)) refl)

-- ---- senses

-- a sense that was read of a key, two codes and a text
record IsMade (key asc ascq : ℕ) (text : List ℕ) (s : Sense) : Type 0 where
  key_is : key ≡ s.key
  asc_is : asc ≡ s.asc
  ascq_is : ascq ≡ s.ascq
  text_is : text ≡ pointer_text s.pointer
  uninformed : s.information ≡ None
  unspecific : s.specific ≡ 0
  no_unit : s.fru ≡ 0
  pointer : IsPointer s.pointer

with-takes : (key asc ascq : ℕ) (text : List ℕ) (s : Sense) → sense_with key asc ascq text ≡ Some s → IsMade key asc ascq text s
unfolding sense_with pointed_of
with-takes key asc ascq text s e = by-test (bytes_eq text (codes "-")) (bytes_eq-Decides text (codes "-")).0 e
  where
    by-test : (b : Bool) → (b ≡ true → text ≡ codes "-") → cond b (below key 16 >>= λ small. Some (plain_sense key asc ascq small)) (pointed_of key asc ascq text) ≡ Some s → IsMade key asc ascq text s
    by-test true dash e =
        let x = bind-some (below key 16) (λ small. Some (plain_sense key asc ascq small)) s e in
        subst (λ (t : Sense). IsMade key asc ascq text t) (same_Some (plain_sense key asc ascq x.0) s x.2)
        (record { key_is = refl; asc_is = refl; ascq_is = refl; text_is = dash refl; uninformed = refl; unspecific = refl; no_unit = refl; pointer = tt })
    by-test false dash e =
        let y = bind-some (same key 5) (λ five. number_of 65535 text >>= λ byte. Some (illegal asc ascq (Some (in_cdb byte)))) s e in
        let z = bind-some (number_of 65535 text) (λ byte. Some (illegal asc ascq (Some (in_cdb byte)))) s y.2 in
        let n = number-takes 65535 text z.0 (omega arith) z.1 in
        let le : z.0 ≤ 65535 = n.1 in
        subst (λ (t : Sense). IsMade key asc ascq text t) (same_Some (illegal asc ascq (Some (in_cdb z.0))) s z.2)
        (record { key_is = y.0; asc_is = refl; ascq_is = refl; text_is = n.0; uninformed = refl; unspecific = refl; no_unit = refl; pointer = (refl, refl, omega (arith, le)) })

-- the text of a key, two codes and what is pointed at
abbrev four : ℕ → ℕ → ℕ → List ℕ → List ℕ
four key asc ascq pointer = upper_nibble key ∷ 58 ∷ (upper_byte asc ++ (58 ∷ (upper_byte ascq ++ (58 ∷ pointer))))

sense-takes : (text : List ℕ) (s : Sense) → sense_of text ≡ Some s → (text ≡ sense_text s) × IsSense s
unfolding sense_of sense_made
sense-takes text s e =
    let a = bind-some (cut_at 58 text) (λ key. cut_at 58 key.1 >>= λ asc. cut_at 58 asc.1 >>= λ ascq. sense_made key.0 asc.0 ascq.0 ascq.1) s e in
    let b = bind-some (cut_at 58 a.0.1) (λ asc. cut_at 58 asc.1 >>= λ ascq. sense_made a.0.0 asc.0 ascq.0 ascq.1) s a.2 in
    let c = bind-some (cut_at 58 b.0.1) (λ ascq. sense_made a.0.0 b.0.0 ascq.0 ascq.1) s b.2 in
    let x = bind-some (key_of a.0.0) (λ key. code_of b.0.0 >>= λ asc. code_of c.0.0 >>= λ ascq. sense_with key asc ascq c.0.1) s c.2 in
    let y = bind-some (code_of b.0.0) (λ asc. code_of c.0.0 >>= λ ascq. sense_with x.0 asc ascq c.0.1) s x.2 in
    let z = bind-some (code_of c.0.0) (λ ascq. sense_with x.0 y.0 ascq c.0.1) s y.2 in
    let m = with-takes x.0 y.0 z.0 c.0.1 s z.2 in
    let key = key-takes a.0.0 x.0 x.1 in
    let asc = code-takes b.0.0 y.0 y.1 in
    let ascq = code-takes c.0.0 z.0 z.1 in
    let parts : text ≡ a.0.0 ++ 58 ∷ (b.0.0 ++ 58 ∷ (c.0.0 ++ 58 ∷ c.0.1)) =
    cut-takes 58 text a.0.0 a.0.1 a.1 ∙ ap (λ (t : List ℕ). a.0.0 ++ 58 ∷ t) (cut-takes 58 a.0.1 b.0.0 b.0.1 b.1 ∙ ap (λ (t : List ℕ). b.0.0 ++ 58 ∷ t) (cut-takes 58 b.0.1 c.0.0 c.0.1 c.1)) in
    let spelt : text ≡ four x.0 y.0 z.0 c.0.1 =
    parts ∙ ap (λ (t : List ℕ). t ++ 58 ∷ (b.0.0 ++ 58 ∷ (c.0.0 ++ 58 ∷ c.0.1))) key.0
    ∙ ap (λ (t : List ℕ). upper_nibble x.0 ∷ 58 ∷ (t ++ 58 ∷ (c.0.0 ++ 58 ∷ c.0.1))) asc.0
    ∙ ap (λ (t : List ℕ). upper_nibble x.0 ∷ 58 ∷ (upper_byte y.0 ++ 58 ∷ (t ++ 58 ∷ c.0.1))) ascq.0 in
    let all : text ≡ sense_text s =
    spelt ∙ ap (λ (n : ℕ). four n y.0 z.0 c.0.1) m.key_is ∙ ap (λ (n : ℕ). four s.key n z.0 c.0.1) m.asc_is
    ∙ ap (λ (n : ℕ). four s.key s.asc n c.0.1) m.ascq_is ∙ ap (λ (t : List ℕ). four s.key s.asc s.ascq t) m.text_is in (
      all,
      record {
        uninformed = m.uninformed;
        unspecific = m.unspecific;
        asc = subst (λ (n : ℕ). n < 256) m.asc_is asc.1;
        ascq = subst (λ (n : ℕ). n < 256) m.ascq_is ascq.1;
        no_unit = m.no_unit;
        pointer = m.pointer;
      },
    )

-- a sense has no values but those that a line tells
told : (s : Sense) (pointer : Option (Bool × Option ℕ × ℕ)) → IsSense s → option_map pointer_parts s.pointer ≡ pointer
    → values s ≡ record { key = s.key; information = None; specific = 0; asc = s.asc; ascq = s.ascq; fru = 0; pointer = pointer }
told s pointer h e =
    let v : Values = values s in
    ap (λ (o : Option ℕ). record v { information = o }) h.uninformed
    ∙ ap (λ (n : ℕ). record v { information = None; specific = n }) h.unspecific
    ∙ ap (λ (n : ℕ). record v { information = None; specific = 0; fru = n }) h.no_unit
    ∙ ap (λ (p : Option (Bool × Option ℕ × ℕ)). record v { information = None; specific = 0; fru = 0; pointer = p }) e

with-again : (s : Sense) → IsSense s → sense_with s.key s.asc s.ascq (pointer_text s.pointer) ≡ Some s
with-again s h = by-pointer s.pointer refl h.pointer
  where
    parts : Bool → Option ℕ → ℕ → Option (Bool × Option ℕ × ℕ)
    parts command bit byte = Some (command, bit, byte)

    by-pointer : (o : Option Pointer) → s.pointer ≡ o → IsPointer o → sense_with s.key s.asc s.ascq (pointer_text o) ≡ Some s
    by-pointer None e p = plain-read s.key s.asc s.ascq (codes "-") s refl s.in_range (told s None h (ap (λ (o : Option Pointer). option_map pointer_parts o) e))
    by-pointer (Some q) e p =
        let byte : q.byte < 2 ^ 16 = p.2 in
        let dash : bytes_eq (decimal q.byte) (codes "-") ≡ false = no-dash (decimal q.byte) (decimal-some q.byte (omega arith)) (above-lower 45 47 (decimal q.byte) (omega arith) (decimal-above q.byte (omega arith))) in
        let number : number_of 65535 (decimal q.byte) ≡ Some q.byte = number-again 65535 q.byte (omega arith) (omega arith) in
        let pointed : option_map pointer_parts s.pointer ≡ parts true None q.byte =
        ap (λ (o : Option Pointer). option_map pointer_parts o) e ∙ ap (λ (c : Bool). parts c q.bit q.byte) p.0 ∙ ap (λ (b : Option ℕ). parts true b q.byte) p.1 in
        other-read s.key s.asc s.ascq (decimal q.byte) dash
        ∙ pointed-read s.key s.asc s.ascq q.byte (decimal q.byte) s (s.illegal q e) number (told s (parts true None q.byte) h pointed)

made-again : (s : Sense) → IsSense s → sense_made (upper_nibble s.key ∷ []) (upper_byte s.asc) (upper_byte s.ascq) (pointer_text s.pointer) ≡ Some s
unfolding sense_made
made-again s h =
    let p = pointer_text s.pointer in
    ap (λ (o : Option ℕ). o >>= λ key. code_of (upper_byte s.asc) >>= λ asc. code_of (upper_byte s.ascq) >>= λ ascq. sense_with key asc ascq p) (key-again s.key s.in_range)
    ∙ ap (λ (o : Option ℕ). o >>= λ asc. code_of (upper_byte s.ascq) >>= λ ascq. sense_with s.key asc ascq p) (code-again s.asc h.asc)
    ∙ ap (λ (o : Option ℕ). o >>= λ ascq. sense_with s.key s.asc ascq p) (code-again s.ascq h.ascq)
    ∙ with-again s h

sense-again : (s : Sense) → IsSense s → sense_of (sense_text s) ≡ Some s
unfolding sense_of
sense-again s h =
    let p = pointer_text s.pointer in
    let one : lacks 58 (upper_nibble s.key ∷ []) ≡ true = and_from (not (upper_nibble s.key == 58)) true (upper-lacks s.key s.in_range) refl in
    ap (λ (o : Option (List ℕ × List ℕ)). o >>= λ key. cut_at 58 key.1 >>= λ asc. cut_at 58 asc.1 >>= λ ascq. sense_made key.0 asc.0 ascq.0 ascq.1)
    (cut-again 58 (upper_nibble s.key ∷ []) (upper_byte s.asc ++ (58 ∷ (upper_byte s.ascq ++ (58 ∷ p)))) one)
    ∙ ap (λ (o : Option (List ℕ × List ℕ)). o >>= λ asc. cut_at 58 asc.1 >>= λ ascq. sense_made (upper_nibble s.key ∷ []) asc.0 ascq.0 ascq.1)
    (cut-again 58 (upper_byte s.asc) (upper_byte s.ascq ++ (58 ∷ p)) (code-lacks s.asc h.asc))
    ∙ ap (λ (o : Option (List ℕ × List ℕ)). o >>= λ ascq. sense_made (upper_nibble s.key ∷ []) (upper_byte s.asc) ascq.0 ascq.1)
    (cut-again 58 (upper_byte s.ascq) p (code-lacks s.ascq h.ascq))
    ∙ made-again s h

pointer-solid : (o : Option Pointer) → IsPointer o → above 32 (pointer_text o) ≡ true
pointer-solid None h = refl
pointer-solid (Some q) h =
    let byte : q.byte < 2 ^ 16 = h.2 in
    above-lower 32 47 (decimal q.byte) (omega arith) (decimal-above q.byte (omega arith))

sense-solid : (s : Sense) → IsSense s → above 32 (sense_text s) ≡ true
sense-solid s h =
    let p = pointer_text s.pointer in
    and_from (nat_lt 32 (upper_nibble s.key)) (above 32 (58 ∷ (upper_byte s.asc ++ (58 ∷ (upper_byte s.ascq ++ (58 ∷ p)))))) (upper-above s.key s.in_range)
    (above-append 32 (upper_byte s.asc) (58 ∷ (upper_byte s.ascq ++ (58 ∷ p))) (code-above s.asc h.asc)
    (above-append 32 (upper_byte s.ascq) (58 ∷ p) (code-above s.ascq h.ascq) (pointer-solid s.pointer h.pointer)))

-- ---- reasons

spelt-fits : {A : Type 0} (P : A → Type 0) (text : A → List ℕ) (values : List A) (word : List ℕ) (v : A) → AllByRecursion P values → spelt_of text values word ≡ Some v → P v
spelt-fits P text [] word v all e = absurd cc
spelt-fits {A} P text (x ∷ values) word v all e = by-test (bytes_eq word (text x)) (λ h. spelt-fits P text values word v all.1 h) e
  where
    by-test : (b : Bool) → (spelt_of text values word ≡ Some v → P v) → cond b (Some x) (spelt_of text values word) ≡ Some v → P v
    by-test true more e = subst P (same_Some x v e) all.0
    by-test false more e = more e

plain-takes : (word : List ℕ) (why : Why) → plain_why_of word ≡ Some why → (word ≡ why_text why) × IsWhy why
unfolding plain_why_of
plain-takes word why e =
    let values : List Why = Medium ∷ NotReady ∷ Unfitted ∷ Present ∷ Listed ∷ Second ∷ Clean ∷ Absent ∷ NotLost ∷ [] in
    (spelt-takes why_text values word why e, spelt-fits IsWhy why_text values word why (tt, (tt, (tt, (tt, (tt, (tt, (tt, (tt, (tt, tt))))))))) e)

why-takes : (word : List ℕ) (why : Why) → why_of word ≡ Some why → (word ≡ why_text why) × IsWhy why
unfolding why_of
why-takes word why e = by-front (stripped (codes "illegal:") word) (λ text h. stripped-takes (codes "illegal:") word text h) e
  where
    by-front : (o : Option (List ℕ)) → ((text : List ℕ) → o ≡ Some text → word ≡ codes "illegal:" ++ text) → illegal_or o (plain_why_of word) ≡ Some why → (word ≡ why_text why) × IsWhy why
    by-front (Some text) behind e =
        let x = bind-some (sense_of text) (λ sense. Some (Illegal sense)) why e in
        let t = sense-takes text x.0 x.1 in
        subst (λ (w : Why). (word ≡ why_text w) × IsWhy w) (same_Some (Illegal x.0) why x.2) (behind text refl ∙ ap (λ (s : List ℕ). codes "illegal:" ++ s) t.0, t.1)
    by-front None behind e = plain-takes word why e

why-again : (why : Why) → IsWhy why → why_of (why_text why) ≡ Some why
unfolding why_of stripped plain_why_of
why-again (Illegal sense) h =
    ap (λ (o : Option (List ℕ)). illegal_or o (plain_why_of (codes "illegal:" ++ sense_text sense))) (stripped-again (codes "illegal:") (sense_text sense))
    ∙ ap (λ (o : Option Sense). o >>= λ s. Some (Illegal s)) (sense-again sense h)
why-again Medium h = refl
why-again NotReady h = refl
why-again Unfitted h = refl
why-again Present h = refl
why-again Listed h = refl
why-again Second h = refl
why-again Clean h = refl
why-again Absent h = refl
why-again NotLost h = refl

why-solid : (why : Why) → IsWhy why → above 32 (why_text why) ≡ true
why-solid (Illegal sense) h = sense-solid sense h
why-solid Medium h = refl
why-solid NotReady h = refl
why-solid Unfitted h = refl
why-solid Present h = refl
why-solid Listed h = refl
why-solid Second h = refl
why-solid Clean h = refl
why-solid Absent h = refl
why-solid NotLost h = refl

pub why-word : IsWord Why why_text IsWhy why_of
why-word = record { takes = why-takes; again = why-again; solid = why-solid }
