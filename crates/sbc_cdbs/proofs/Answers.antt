-- The answers of the decoder exclude each other: bytes have one command, or one first fault.
use Rattle.std.proofs.Common.{◌≡◌, ℕ, List, [], ◌∷◌, length, get_or, sym, ap, subst, ◌∙◌, Some, None, Result, Ok, Err, MatchResult, option_map, slice_get}
use Rattle.cdb_fields.specs.Fields.{IsFirstShared, SharesNone}
use Rattle.cdb_fields.proofs.Shared.{first_shared_unique}
use Rattle.sbc_cdbs.specs.Cdbs.{spelling, SpellsCdb, Fits}
use Rattle.sbc_cdbs.specs.Faults.{reserved_bits, mask_of, wanted_length, IsFault}
use Rattle.sbc_cdbs.specs.Reading.{command_of}
use Rattle.sbc_cdbs.specs.declared.commands.Command.{Command}
use Rattle.sbc_cdbs.specs.declared.decoding.CdbFault.{CdbFault}
use Rattle.sbc_cdbs.specs.declared.decoding.CdbFault.TheVariants.{OpCode, Length, Bits}
use Rattle.sbc_cdbs.proofs.Again.{again, clean, Clean}

pub one_command : (v w : Command) → Fits v → Fits w → spelling v ≡ spelling w → v ≡ w
one_command v w a b e = sym (again v a) ∙ ap (λ xs. command_of (get_or xs 0 0) xs) e ∙ again w b

-- a code is known or not, with one mask, and one length is wanted
none_known : (code : ℕ) (bytes mask : List ℕ) → reserved_bits code ≡ Some mask → reserved_bits code ≡ None → ⊥
none_known code bytes mask a b = let e : Some mask ≡ None = sym a ∙ b in cc

same_mask : (bytes m n : List ℕ) → mask_of bytes ≡ Some m → mask_of bytes ≡ Some n → m ≡ n
same_mask bytes m n a b = let e : Some m ≡ Some n = sym a ∙ b in cc

wanted : (code : ℕ) (rest mask : List ℕ) (want : ℕ) → reserved_bits code ≡ Some mask → wanted_length (code ∷ rest) ≡ Some want → length mask ≡ want
wanted code rest mask want a b = let e : Some (length mask) ≡ Some want = sym (ap (λ o. option_map length o) a) ∙ b in cc

unmasked : (code : ℕ) (rest mask : List ℕ) (c : ℕ) → slice_get (code ∷ rest) 0 ≡ Some c → reserved_bits c ≡ None → reserved_bits code ≡ Some mask → ⊥
unmasked code rest mask c first none known =
    let same : Some code ≡ Some c = first in
    let equal : code ≡ c = cc in
    none_known code rest mask known (ap reserved_bits equal ∙ none)

unwanted : (code : ℕ) (rest : List ℕ) (c want : ℕ) → slice_get (code ∷ rest) 0 ≡ Some c → reserved_bits c ≡ None → wanted_length (code ∷ rest) ≡ Some want → ⊥
unwanted code rest c want first none known =
    let same : Some code ≡ Some c = first in
    let equal : code ≡ c = cc in
    let e : None ≡ Some want = sym (ap (λ o. option_map length o) (ap reserved_bits equal ∙ none)) ∙ known in
    cc

-- bytes of a known code and its length with no reserved bit have no fault
pub clean_faultless : (bytes : List ℕ) (f : CdbFault) → Clean bytes → IsFault bytes f → ⊥
clean_faultless [] f h e = absurd (none_some h.known)
  where
    none_some : None ≡ Some h.mask → ⊥
    none_some e = cc
clean_faultless (code ∷ rest) (OpCode c) h e = let same : code ≡ c = cc in absurd (none_known code (code ∷ rest) h.mask h.known (ap reserved_bits same ∙ e.1))
clean_faultless (code ∷ rest) (Length want got) h e = absurd (e.1 (e.0 ∙ h.long ∙ wanted code rest h.mask want h.known e.2))
clean_faultless (code ∷ rest) (Bits byte) h e = absurd (e.first.1 (subst (λ m. SharesNone m (code ∷ rest) byte) (same_mask (code ∷ rest) h.mask e.mask h.known e.known) (h.none byte)))

pub faultless : (bytes : List ℕ) (v : Command) (f : CdbFault) → SpellsCdb bytes v → IsFault bytes f → ⊥
faultless bytes v f h e = clean_faultless bytes f (subst Clean (sym h.0) (clean v)) e

pub one_fault : (bytes : List ℕ) (f g : CdbFault) → IsFault bytes f → IsFault bytes g → f ≡ g
one_fault [] (OpCode c) g a b = let e : None ≡ Some c = a.0 in cc
one_fault [] (Length want got) (OpCode c) a b = let e : None ≡ Some c = b.0 in cc
one_fault [] (Length want got) (Length w n) a b = let e : Some 1 ≡ Some want = a.2 in let f : Some 1 ≡ Some w = b.2 in cc
one_fault [] (Length want got) (Bits k) a b = let e : None ≡ Some b.mask = b.known in cc
one_fault [] (Bits k) g a b = let e : None ≡ Some a.mask = a.known in cc
one_fault (code ∷ rest) (OpCode c) (OpCode d) a b = let e : Some code ≡ Some c = a.0 in let f : Some code ≡ Some d = b.0 in cc
one_fault (code ∷ rest) (OpCode c) (Length w n) a b = absurd (unwanted code rest c w a.0 a.1 b.2)
one_fault (code ∷ rest) (OpCode c) (Bits k) a b = absurd (unmasked code rest b.mask c a.0 a.1 b.known)
one_fault (code ∷ rest) (Length want got) (OpCode c) a b = absurd (unwanted code rest c want b.0 b.1 a.2)
one_fault (code ∷ rest) (Length want got) (Length w n) a b =
    let e : Some want ≡ Some w = sym a.2 ∙ b.2 in let g : got ≡ n = a.0 ∙ sym b.0 in cc
one_fault (code ∷ rest) (Length want got) (Bits k) a b = absurd (a.1 (a.0 ∙ b.long ∙ wanted code rest b.mask want b.known a.2))
one_fault (code ∷ rest) (Bits k) (OpCode c) a b = absurd (unmasked code rest a.mask c b.0 b.1 a.known)
one_fault (code ∷ rest) (Bits k) (Length w n) a b = absurd (b.1 (b.0 ∙ a.long ∙ wanted code rest a.mask w a.known b.2))
one_fault (code ∷ rest) (Bits k) (Bits j) a b =
    ap Bits (first_shared_unique a.mask (code ∷ rest) k j a.first (subst (λ m. IsFirstShared m (code ∷ rest) j) (same_mask (code ∷ rest) b.mask a.mask b.known a.known) b.first))

pub reads : (bytes : List ℕ) (r : Result Command CdbFault) → MatchResult r (SpellsCdb bytes) (IsFault bytes) → (v : Command) → SpellsCdb bytes v → r ≡ Ok v
reads bytes (Ok w) h v s = ap Ok (one_command w v h.1 s.1 (sym h.0 ∙ s.0))
reads bytes (Err f) h v s = absurd (faultless bytes v f s h)

pub refuses : (bytes : List ℕ) (r : Result Command CdbFault) → MatchResult r (SpellsCdb bytes) (IsFault bytes) → (f : CdbFault) → IsFault bytes f → r ≡ Err f
refuses bytes (Ok w) h f e = absurd (faultless bytes w f h e)
refuses bytes (Err g) h f e = ap Err (one_fault bytes g f h e)
