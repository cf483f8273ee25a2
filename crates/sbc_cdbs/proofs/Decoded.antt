-- What the decoder answers is what bytes decode to.
use Rattle.std.proofs.Common.{◌≡◌, ℕ, Bool, true, false, List, get_or, Some, None, refl, sym, ap, subst, ◌∙◌}
use Rattle.std.specs.Prelude.{if◌then◌else◌}
use Rattle.std.specs.Str.{bytes_eq}
use Rattle.std.proofs.lemmas.Slice.Eq.{bytes_eq-Decides}
use Rattle.sbc_cdbs.specs.Cdbs.{spelling, SpellsCdb}
use Rattle.sbc_cdbs.specs.Faults.{IsFault}
use Rattle.sbc_cdbs.specs.Reading.{command_of, decoded}
use Rattle.sbc_cdbs.specs.declared.commands.Command.{Command}
use Rattle.sbc_cdbs.specs.declared.decoding.CdbFault.{CdbFault}
use Rattle.sbc_cdbs.proofs.Again.{again, clean, Clean}
use Rattle.sbc_cdbs.proofs.Answers.{clean_faultless}

spelling_decodes : (v : Command) → command_of (get_or (spelling v) 0 0) (spelling v) ≡ v → decoded (spelling v) ≡ Some v
unfolding decoded
spelling_decodes v same =
    let is : bytes_eq (spelling v) (spelling (command_of (get_or (spelling v) 0 0) (spelling v))) ≡ true = (bytes_eq-Decides (spelling v) (spelling (command_of (get_or (spelling v) 0 0) (spelling v)))).1 (sym (ap spelling same)) in
    rw is (ap Some same)

-- what spells a command decodes to it
pub spelt_decodes : (bytes : List ℕ) (v : Command) → SpellsCdb bytes v → decoded bytes ≡ Some v
spelt_decodes bytes v h = ap decoded h.0 ∙ spelling_decodes v (again v h.1)

-- what has a fault decodes to none
pub faulty_decodes : (bytes : List ℕ) (f : CdbFault) → IsFault bytes f → decoded bytes ≡ None
unfolding decoded
faulty_decodes bytes f fault = by-test (bytes_eq bytes (spelling v)) refl
  where
    v : Command
    v = command_of (get_or bytes 0 0) bytes

    by-test : (b : Bool) → bytes_eq bytes (spelling v) ≡ b → (if b then Some v else None) ≡ None
    by-test false e = refl
    by-test true e = absurd (clean_faultless bytes f (subst Clean (sym ((bytes_eq-Decides bytes (spelling v)).0 e)) (clean v)) fault)
