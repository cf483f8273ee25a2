-- The decoder's answer decides the rows of a CDB.
use Rattle.std.proofs.Common.{◌≡◌, ◌≢◌, ℕ, ◌==◌, ◌||◌, ◌&&◌, not, Bool, true, false, List, [], ◌∷◌, ◌++◌, length, Option, Some, None, option_map, refl, sym, ap, subst, ◌∙◌, arith}
use Rattle.std.specs.Prelude.{is_none, unwrap_or}
use Rattle.std.specs.Bool.{then_some}
use Rattle.std.proofs.lemmas.Bool.{eq-eqb, ne_eqb, false≢true}
use Rattle.std.proofs.lemmas.Option.{none-some, same_Some}
use Rattle.sense_data.specs.declared.senses.Sense.{Sense}
use Rattle.sense_data.specs.Illegal.{illegal, in_cdb}
use Rattle.sbc_cdbs.specs.declared.commands.Command.{Command}
use Rattle.sbc_cdbs.specs.declared.decoding.CdbFault.{CdbFault}
use Rattle.sbc_cdbs.specs.declared.decoding.CdbFault.TheVariants.{OpCode, Length, Bits}
use Rattle.sbc_cdbs.specs.Cdbs.{SpellsCdb}
use Rattle.sbc_cdbs.specs.Faults.{reserved_bits, IsFault, first_offending}
use Rattle.sbc_cdbs.specs.Kinds.{is_xor_code}
use Rattle.sbc_cdbs.proofs.Again.{again}
use Rattle.sbc_cdbs.proofs.Offending.{first-found}
use Rattle.xor_mode_page.specs.declared.pages.XorPage.{XorPage}
use Rattle.xor_target.specs.declared.limits.TargetLimits.{TargetLimits}
use Rattle.xor_target.specs.Admission.{first_some, command_in, cdb_rows, command_rows, refusal_of}
use Rattle.xor_target.specs.Codes.{is_shut_out, fault_sense}

-- the rows of a CDB of at least one byte, by the bits that must be zero, and whether the code is forbidden
abbrev rows_by : Option (List ℕ) → Bool → List ℕ → List (Option Sense)
rows_by mask forbidden cdb =
    then_some (is_none mask || forbidden) (illegal 0x20 0 None)
    ∷ then_some (not (unwrap_or (option_map length mask) (length cdb) == length cdb)) (illegal 0x24 0 None)
    ∷ option_map (λ byte. illegal 0x24 0 (Some (in_cdb byte))) (first_offending 0 (unwrap_or mask []) cdb)
    ∷ []

unknown : (mask : Option (List ℕ)) (forbidden : Bool) (cdb : List ℕ) → mask ≡ None
    → first_some (rows_by mask forbidden cdb) ≡ Some (illegal 0x20 0 None)
unknown None forbidden cdb e = refl
unknown (Some mask) forbidden cdb e = absurd (none-some mask (sym e))

measured : (mask cdb : List ℕ) (forbidden : Bool) → forbidden ≡ false → length cdb ≢ length mask
    → first_some (rows_by (Some mask) forbidden cdb) ≡ Some (illegal 0x24 0 None)
measured mask cdb true e differs = absurd (false≢true (sym e))
measured mask cdb false e differs = rw (ne_eqb (length mask) (length cdb) (λ s. differs (sym s))) refl

sound : (mask cdb : List ℕ) (forbidden : Bool) (byte : Option ℕ) → forbidden ≡ false → length cdb ≡ length mask
    → first_offending 0 mask cdb ≡ byte
    → first_some (rows_by (Some mask) forbidden cdb) ≡ option_map (λ b. illegal 0x24 0 (Some (in_cdb b))) byte
sound mask cdb true byte e same first = absurd (false≢true (sym e))
sound mask cdb false byte e same first =
    rw (eq-eqb (length mask) (length cdb) (sym same))
    (subst (λ (o : Option ℕ). first_some (option_map (λ b. illegal 0x24 0 (Some (in_cdb b))) o ∷ []) ≡ option_map (λ b. illegal 0x24 0 (Some (in_cdb b))) byte) (sym first) (one byte))
  where
    one : (byte : Option ℕ) → first_some (option_map (λ b. illegal 0x24 0 (Some (in_cdb b))) byte ∷ []) ≡ option_map (λ b. illegal 0x24 0 (Some (in_cdb b))) byte
    one None = refl
    one (Some b) = refl

-- what holds by the mask that is known holds by the operation code
by_mask : (page : XorPage) (code : ℕ) (rest : List ℕ) (mask : Option (List ℕ)) (sense : Option Sense) → reserved_bits code ≡ mask
    → first_some (rows_by mask (page.xordis && is_xor_code code) (code ∷ rest)) ≡ sense
    → first_some (cdb_rows page (code ∷ rest)) ≡ sense
by_mask page code rest mask sense known e =
    subst (λ (o : Option (List ℕ)). first_some (rows_by o (page.xordis && is_xor_code code) (code ∷ rest)) ≡ sense) (sym known) e

-- a CDB has the mask of its code where one is as long as its code wants
wanted : (mask : Option (List ℕ)) (want : ℕ) → option_map length mask ≡ Some want → (m : List ℕ) × (mask ≡ Some m) × (length m ≡ want)
wanted None want e = absurd (none-some want e)
wanted (Some m) want e = (m, refl, same_Some (length m) want e)

pub refuses : (page : XorPage) (cdb : List ℕ) (fault : CdbFault) → is_shut_out page cdb ≡ false → IsFault cdb fault
    → first_some (cdb_rows page cdb) ≡ Some (fault_sense fault)
refuses page [] (OpCode code) open_to h = absurd (none-some code h.0)
refuses page [] (Length want got) open_to h = refl
refuses page [] (Bits byte) open_to h = absurd (none-some h.mask h.known)
refuses page (code ∷ rest) (OpCode other) open_to h =
    let same : code ≡ other = same_Some code other h.0 in
    by_mask page code rest None _ (ap reserved_bits same ∙ h.1) (unknown None (page.xordis && is_xor_code code) (code ∷ rest) refl)
refuses page (code ∷ rest) (Length want got) open_to h =
    let known = wanted (reserved_bits code) want h.2 in
    by_mask page code rest (Some known.0) _ known.1
    (measured known.0 (code ∷ rest) (page.xordis && is_xor_code code) open_to (λ e. h.1 (h.0 ∙ e ∙ known.2)))
refuses page (code ∷ rest) (Bits byte) open_to h =
    by_mask page code rest (Some h.mask) _ h.known
    (sound h.mask (code ∷ rest) (page.xordis && is_xor_code code) (Some byte) open_to h.long
    (first-found 0 h.mask (code ∷ rest) byte h.long h.first.0 h.first.1 h.first.2 ∙ ap Some (omega arith)))

-- ---- the whole table

-- rows that don't answer leave it to those behind them, and one that does hides them
pub passed : (rows more : List (Option Sense)) → first_some rows ≡ None → first_some (rows ++ more) ≡ first_some more
passed [] more e = refl
passed (Some sense ∷ rows) more e = absurd (none-some sense (sym e))
passed (None ∷ rows) more e = passed rows more e

pub stopped : (rows more : List (Option Sense)) (sense : Sense) → first_some rows ≡ Some sense → first_some (rows ++ more) ≡ Some sense
stopped [] more sense e = absurd (none-some sense e)
stopped (Some other ∷ rows) more sense e = e
stopped (None ∷ rows) more sense e = stopped rows more sense e

-- the command that a CDB's fields give is the one that it spells
pub spelt-in : (cdb : List ℕ) (command : Command) → SpellsCdb cdb command → command_in cdb ≡ command
spelt-in cdb command h = ap command_in h.0 ∙ again command h.1

pub at_fields : (limits : TargetLimits) (page : XorPage) (cdb bytes : List ℕ) (command : Command) (answer : Option Sense) → SpellsCdb cdb command
    → first_some (cdb_rows page cdb) ≡ None → first_some (command_rows limits page command bytes) ≡ answer → refusal_of limits page cdb bytes ≡ answer
at_fields limits page cdb bytes command answer spelt passes e =
    passed (cdb_rows page cdb) (command_rows limits page (command_in cdb) bytes) passes
    ∙ ap (λ (c : Command). first_some (command_rows limits page c bytes)) (spelt-in cdb command spelt)
    ∙ e
