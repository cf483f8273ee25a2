-- What the decoder of CDBs answers decides the tests of a host's CDB.
use Rattle.std.proofs.Common.{◌≡◌, ◌≢◌, ℕ, ◌==◌, ◌||◌, not, if◌then◌else◌, Bool, true, false, List, [], ◌∷◌, length, Option, Some, None, option_map, refl, sym, ap, subst, arith, ◌∙◌}
use Rattle.std.proofs.lemmas.Bool.{eq-eqb, ne_eqb, false≢true}
use Rattle.std.proofs.lemmas.Option.{none-some, same_Some}
use Rattle.sense_data.specs.declared.senses.Sense.{Sense}
use Rattle.sbc_cdbs.specs.Faults.{reserved_bits, IsBitFault, IsFault}
use Rattle.sbc_cdbs.specs.declared.decoding.CdbFault.{CdbFault}
use Rattle.sbc_cdbs.specs.declared.decoding.CdbFault.TheVariants.{OpCode, Length, Bits}
use Rattle.sbc_cdbs.proofs.Offending.{first-found}
use Rattle.sbc_cdbs.proofs.Spelled.{transfer_mask}
use Rattle.host_requests.specs.Cdbs.{has_other_code, fault_by}
use Rattle.host_requests.specs.Forms.{sense_of}
use Rattle.host_requests.specs.Requests.{illegal, field_fault, cdb_fault}

-- ---- the tests by the reserved bits of a code

abbrev serves : ℕ → Bool
serves code = code == 0x28 || code == 0x2a

tested : (code : ℕ) (rest mask : List ℕ) (fault : Option Sense) → serves code ≡ true → reserved_bits code ≡ Some mask
    → field_fault (Some mask) (code ∷ rest) ≡ fault → cdb_fault (code ∷ rest) ≡ fault
tested code rest mask fault served known e =
    subst (λ (b : Bool). (if b then field_fault (reserved_bits code) (code ∷ rest) else Some (illegal 0x20 None)) ≡ fault) (sym served)
    (subst (λ (o : Option (List ℕ)). field_fault o (code ∷ rest) ≡ fault) (sym known) e)

unother : (b : Bool) → not b ≡ false → b ≡ true
unother true e = refl
unother false e = sym e

-- the code that is served has the length and the reserved bits of a transfer
served-code : (code : ℕ) → serves code ≡ true → reserved_bits code ≡ Some transfer_mask
served-code code served = rw served refl

same_mask : (code : ℕ) (mask : List ℕ) → serves code ≡ true → reserved_bits code ≡ Some mask → mask ≡ transfer_mask
same_mask code mask served known = same_Some mask transfer_mask (sym known ∙ served-code code served)

-- ---- bytes that spell no command

fails-length : (code : ℕ) (rest : List ℕ) (want : ℕ) → serves code ≡ true → length (code ∷ rest) ≢ want → option_map length (reserved_bits code) ≡ Some want
    → cdb_fault (code ∷ rest) ≡ Some (illegal 0x24 None)
fails-length code rest want served differs wanted =
    let known = served-code code served in
    let is : length transfer_mask ≡ want = same_Some (length transfer_mask) want (sym (ap (λ (o : Option (List ℕ)). option_map length o) known) ∙ wanted) in
    tested code rest transfer_mask (Some (illegal 0x24 None)) served known
    (rw (ne_eqb (length (code ∷ rest)) (length transfer_mask) (λ e. differs (e ∙ is))) refl)

fails-bits : (code : ℕ) (rest : List ℕ) (byte : ℕ) → serves code ≡ true → IsBitFault (code ∷ rest) byte → cdb_fault (code ∷ rest) ≡ Some (illegal 0x24 (Some byte))
fails-bits code rest byte served h =
    tested code rest h.mask (Some (illegal 0x24 (Some byte))) served h.known
    (rw (eq-eqb (length (code ∷ rest)) (length h.mask) h.long)
    (ap (λ (o : Option ℕ). option_map (λ b. illegal 0x24 (Some b)) o)
    (first-found 0 h.mask (code ∷ rest) byte h.long h.first.0 h.first.1 h.first.2 ∙ ap Some (omega arith))))

pub fault-fails : (cdb : List ℕ) (fault : CdbFault) → IsFault cdb fault → has_other_code cdb ≡ false → cdb_fault cdb ≡ Some (sense_of (fault_by fault))
fault-fails [] (OpCode code) h served = absurd (none-some code h.0)
fault-fails [] (Length want got) h served = refl
fault-fails [] (Bits byte) h served = absurd (none-some h.mask h.known)
fault-fails (code ∷ rest) (OpCode other) h served =
    let same : code ≡ other = same_Some code other h.0 in
    let known : Some transfer_mask ≡ None = sym (served-code code (unother (serves code) served)) ∙ ap reserved_bits same ∙ h.1 in
    absurd (none-some transfer_mask (sym known))
fault-fails (code ∷ rest) (Length want got) h served =
    fails-length code rest want (unother (serves code) served) (λ e. h.1 (h.0 ∙ e)) h.2
fault-fails (code ∷ rest) (Bits byte) h served = fails-bits code rest byte (unother (serves code) served) h

pub other-fails : (cdb : List ℕ) → has_other_code cdb ≡ true → cdb_fault cdb ≡ Some (illegal 0x20 None)
other-fails [] e = absurd (false≢true e)
other-fails (code ∷ rest) e =
    subst (λ (b : Bool). (if b then field_fault (reserved_bits code) (code ∷ rest) else Some (illegal 0x20 None)) ≡ Some (illegal 0x20 None)) (sym (other (serves code) e)) refl
  where
    other : (b : Bool) → not b ≡ true → b ≡ false
    other true h = sym h
    other false h = refl
