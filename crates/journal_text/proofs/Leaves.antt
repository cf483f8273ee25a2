-- CDBs and senses with the facts that they carry.
use Rattle.std.proofs.Common.{◌≡◌, ℕ, ◌-◌, ◌<◌, ◌≤◌, ◌==◌, nat_lt, nat_le, Bool, true, false, List, ◌++◌, length, get_or, Option, Some, None, refl, sym, ap, subst, ◌∙◌, arith}
use Rattle.std.specs.Prelude.{codes}
use Rattle.std.specs.Str.{bytes_eq}
use Rattle.std.proofs.Props.{props}
use Rattle.std.proofs.lemmas.Bool.{ltb-true, ltb-false, leb-true, leb-false, eqb-true, eqb-false}
use Rattle.blocks_core.specs.Xor.{zeros}
use Rattle.sbc_cdbs.specs.declared.descriptor.Cdb.{Cdb}
use Rattle.sense_data.specs.declared.senses.Sense.{Sense}
use Rattle.sense_data.specs.Illegal.{in_cdb, illegal}
use Rattle.sense_data.specs.Reading.{values}
use Rattle.sense_data.proofs.Values.{same_sense}
use Rattle.text_fields.specs.Reading.{◌>>=◌, number_of}
use Rattle.journal_text.specs.Steps.{checked_below, checked_most, checked_same, below, same}
use Rattle.journal_text.specs.Cdbs.{zeros-behind, cdb_of}
use Rattle.journal_text.specs.Senses.{plain_sense, pointed_of, sense_with}

-- ---- facts that are tested

below-yes : (n m : ℕ) (b : Bool) (e : nat_lt n m ≡ b) (h : n < m) → checked_below n m b e ≡ Some h
below-yes n m true e h = let prop : IsProp (n < m) = hlevel props in ap (λ (x : n < m). Some x) (prop (ltb-true n m e) h)
below-yes n m false e h = let no : ⊥ = omega (arith, ltb-false n m e, h) in absurd no

below-no : (n m : ℕ) (b : Bool) (e : nat_lt n m ≡ b) → m ≤ n → checked_below n m b e ≡ None
below-no n m true e h = let no : ⊥ = omega (arith, ltb-true n m e, h) in absurd no
below-no n m false e h = refl

most-yes : (n m : ℕ) (b : Bool) (e : nat_le n m ≡ b) (h : n ≤ m) → checked_most n m b e ≡ Some h
most-yes n m true e h = let prop : IsProp (n ≤ m) = hlevel props in ap (λ (x : n ≤ m). Some x) (prop (leb-true n m e) h)
most-yes n m false e h = let no : ⊥ = omega (arith, leb-false n m e, h) in absurd no

most-no : (n m : ℕ) (b : Bool) (e : nat_le n m ≡ b) → m < n → checked_most n m b e ≡ None
most-no n m true e h = let no : ⊥ = omega (arith, leb-true n m e, h) in absurd no
most-no n m false e h = refl

same-yes : (n m : ℕ) (b : Bool) (e : (n == m) ≡ b) (h : n ≡ m) → checked_same n m b e ≡ Some h
same-yes n m true e h = let prop : IsProp (n ≡ m) = hlevel props in ap (λ (x : n ≡ m). Some x) (prop (eqb-true n m e) h)
same-yes n m false e h = absurd (eqb-false n m e h)

same-no : (n m : ℕ) (b : Bool) (e : (n == m) ≡ b) → (n ≡ m → ⊥) → checked_same n m b e ≡ None
same-no n m true e h = absurd (h (eqb-true n m e))
same-no n m false e h = refl

-- ---- CDBs

abbrev parts_of : Cdb → List ℕ × ℕ
parts_of cdb = (cdb.bytes, cdb.len)

-- blocks with the same bytes and the same length are one
pub same_cdb : (v w : Cdb) → v.bytes ≡ w.bytes → v.len ≡ w.len → v ≡ w
same_cdb v w e f = subst Joined pair joined w.fits w.padded
  where
    joint : List ℕ → ℕ → List ℕ × ℕ
    joint bytes len = (bytes, len)

    pair : parts_of v ≡ parts_of w
    pair = ap (λ (b : List ℕ). joint b v.len) e ∙ ap (λ (n : ℕ). joint w.bytes n) f

    Joined : List ℕ × ℕ → Type 0
    Joined t = (fits : t.1 ≤ 16) (padded : (k : ℕ) → t.1 ≤ k → get_or t.0 k 0 ≡ 0) → v ≡ record { bytes = t.0; len = t.1; fits = fits; padded = padded }

    joined : Joined (parts_of v)
    joined fits padded =
        let small : IsProp (v.len ≤ 16) = hlevel props in
        let zero : IsProp ((k : ℕ) → v.len ≤ k → get_or v.bytes k 0 ≡ 0) = hlevel props in
        ap (λ (g : v.len ≤ 16). record v { fits = g }) (small v.fits fits)
        ∙ ap (λ (g : (k : ℕ) → v.len ≤ k → get_or v.bytes k 0 ≡ 0). record v { fits = fits; padded = g }) (zero v.padded padded)

pub cdb-long : (bytes : List ℕ) → 16 < length bytes → cdb_of bytes ≡ None
unfolding cdb_of
cdb-long bytes h = rw (most-no (length bytes) 16 (nat_le (length bytes) 16) refl h) refl

pub cdb-short : (bytes : List ℕ) (cdb : Cdb) → cdb.bytes ≡ bytes ++ zeros (16 - length bytes) → cdb.len ≡ length bytes → length bytes ≤ 16 → cdb_of bytes ≡ Some cdb
unfolding cdb_of
cdb-short bytes cdb e f h =
    let made : Cdb = record { bytes = bytes ++ zeros (16 - length bytes); len = length bytes; fits = h; padded = zeros-behind bytes (16 - length bytes) } in
    rw (most-yes (length bytes) 16 (nat_le (length bytes) 16) refl h) (ap (λ (x : Cdb). Some x) (same_cdb made cdb (sym e) (sym f)))

pub zeros-there : (bytes all : List ℕ) (n k : ℕ) → all ≡ bytes ++ zeros (16 - length bytes) → n ≡ length bytes → n ≤ k → get_or all k 0 ≡ 0
zeros-there bytes all n k e f le = ap (λ (xs : List ℕ). get_or xs k 0) e ∙ zeros-behind bytes (16 - length bytes) k (omega (arith, f, le))

-- ---- senses

pub other-key : (key asc ascq : ℕ) (text : List ℕ) → (key ≡ 5 → ⊥) → pointed_of key asc ascq text ≡ None
unfolding pointed_of
other-key key asc ascq text h = rw (same-no key 5 (key == 5) refl h) refl

pub no-byte : (key asc ascq : ℕ) (text : List ℕ) → number_of 65535 text ≡ None → pointed_of key asc ascq text ≡ None
unfolding pointed_of
no-byte key asc ascq text h = by-key (same key 5)
  where
    by-key : (o : Option (key ≡ 5)) → (o >>= λ five. number_of 65535 text >>= λ byte. Some (illegal asc ascq (Some (in_cdb byte)))) ≡ None
    by-key None = refl
    by-key (Some five) = rw h refl

pub pointed-made : (key asc ascq byte : ℕ) (text : List ℕ) → key ≡ 5 → number_of 65535 text ≡ Some byte
    → pointed_of key asc ascq text ≡ Some (illegal asc ascq (Some (in_cdb byte)))
unfolding pointed_of
pointed-made key asc ascq byte text five h = rw (same-yes key 5 (key == 5) refl five, h) refl

pub pointed-read : (key asc ascq byte : ℕ) (text : List ℕ) (s : Sense) → key ≡ 5 → number_of 65535 text ≡ Some byte
    → values s ≡ record { key = key; information = None; specific = 0; asc = asc; ascq = ascq; fru = 0; pointer = Some (true, None, byte) } → pointed_of key asc ascq text ≡ Some s
pointed-read key asc ascq byte text s five h v =
    let made : Sense = illegal asc ascq (Some (in_cdb byte)) in
    let same : values made ≡ values s = ap (λ (k : ℕ). record { key = k; information = None; specific = 0; asc = asc; ascq = ascq; fru = 0; pointer = Some (true, None, byte) }) (sym five) ∙ sym v in
    pointed-made key asc ascq byte text five h ∙ ap (λ (x : Sense). Some x) (same_sense made s same)

pub great-key : (key asc ascq : ℕ) (text : List ℕ) → bytes_eq text (codes "-") ≡ true → 16 ≤ key → sense_with key asc ascq text ≡ None
unfolding sense_with
great-key key asc ascq text h great = rw (h, below-no key 16 (nat_lt key 16) refl great) refl

pub plain-read : (key asc ascq : ℕ) (text : List ℕ) (s : Sense) → bytes_eq text (codes "-") ≡ true → key < 16
    → values s ≡ record { key = key; information = None; specific = 0; asc = asc; ascq = ascq; fru = 0; pointer = None } → sense_with key asc ascq text ≡ Some s
unfolding sense_with
plain-read key asc ascq text s h small v =
    rw (h, below-yes key 16 (nat_lt key 16) refl small) (ap (λ (x : Sense). Some x) (same_sense (plain_sense key asc ascq small) s (sym v)))

pub other-read : (key asc ascq : ℕ) (text : List ℕ) → bytes_eq text (codes "-") ≡ false → sense_with key asc ascq text ≡ pointed_of key asc ascq text
unfolding sense_with
other-read key asc ascq text h = rw h refl
