-- What each decoder answers is the value that bytes spell, or their first fault.
use Rattle.std.proofs.Common.{◌≡◌, ℕ, Bool, List, length, Result, Ok, Err, refl, sym, ap, ◌∙◌, inl, inr}
use Rattle.std.specs.Prelude.{IfOk, IfErr, MatchResult}
use Rattle.sbc_cdbs.specs.declared.commands.Command.{Command}
use Rattle.sbc_cdbs.specs.declared.decoding.CdbFault.{CdbFault}
use Rattle.sbc_cdbs.specs.declared.decoding.CdbFault.TheVariants as cdb_faults
use Rattle.sbc_cdbs.specs.Cdbs as cdbs
use Rattle.sbc_cdbs.specs.Faults as cdb_rules
use Rattle.sense_data.specs.declared.senses.Sense.{Sense}
use Rattle.sense_data.specs.declared.decoding.SenseFault.{SenseFault}
use Rattle.sense_data.specs.declared.decoding.SenseFault.TheVariants as sense_faults
use Rattle.sense_data.specs.Senses as senses
use Rattle.sense_data.specs.Faults as sense_rules
use Rattle.xor_mode_page.specs.declared.pages.XorPage.{XorPage}
use Rattle.xor_mode_page.specs.declared.pages.PageFault.{PageFault}
use Rattle.xor_mode_page.specs.declared.pages.PageFault.TheVariants as page_faults
use Rattle.xor_mode_page.specs.Pages as pages
use Rattle.xor_params.specs.declared.lists.Params.{Params}
use Rattle.xor_params.specs.declared.lists.ParamFault.{ParamFault}
use Rattle.xor_params.specs.declared.lists.ParamFault.TheVariants as list_faults
use Rattle.xor_params.specs.ParameterLists as lists
use Rattle.xor_cli.specs.declared.decoding.faults.DecodeFault.{DecodeFault}
use Rattle.xor_cli.specs.declared.decoding.faults.DecodeFault.TheVariants as faults
use Rattle.xor_cli.specs.declared.decoding.values.Format.TheVariants as formats
use Rattle.xor_cli.specs.declared.decoding.values.DecodedValue.{DecodedValue}
use Rattle.xor_cli.specs.declared.decoding.values.DecodedValue.TheVariants as values
use Rattle.xor_cli.specs.declared.decoding.values.Undecoded.TheVariants as undecoded
use Rattle.xor_cli.specs.Decoding.{IsValue, IsFault, IsReason, IsAnswer}
use Rattle.xor_cli.specs.DecodeAnswers.{cdb_answer, sense_answer, page_answer, params_answer}

-- ---- commands

cdb-only : (bytes : List ℕ) (r : Result Command CdbFault) → ((v : Command) → cdbs.SpellsCdb bytes v → r ≡ Ok v) → (value : DecodedValue) → IsValue formats.Cdb bytes value → MatchResult (cdb_answer r) (λ v. v ≡ value) (λ reason. reason ≡ undecoded.Memory)
cdb-only bytes r read value (v, (s, e)) = rw (read v s) (sym e)

cdb-fault : (bytes : List ℕ) (r : Result Command CdbFault) → ((f : CdbFault) → cdb_rules.IsFault bytes f → r ≡ Err f) → (first : DecodeFault) → IsFault formats.Cdb bytes first → cdb_answer r ≡ Err (undecoded.Faulty first)
cdb-fault bytes r refused (faults.OpCode code) h = rw (refused (cdb_faults.OpCode code) h) refl
cdb-fault bytes r refused (faults.Length want got) h = rw (refused (cdb_faults.Length want got) h) refl
cdb-fault bytes r refused (faults.Bits byte) h = rw (refused (cdb_faults.Bits byte) h) refl
cdb-fault bytes r refused (faults.Code got) h = absurd h
cdb-fault bytes r refused (faults.Field byte) h = absurd h

cdb-found : (bytes : List ℕ) (r : Result Command CdbFault) → IfOk r (cdbs.SpellsCdb bytes) → IfOk (cdb_answer r) (IsValue formats.Cdb bytes)
cdb-found bytes (Ok v) s = (v, (s, refl))
cdb-found bytes (Err (cdb_faults.OpCode code)) s = tt
cdb-found bytes (Err (cdb_faults.Length want got)) s = tt
cdb-found bytes (Err (cdb_faults.Bits byte)) s = tt

cdb-refused : (bytes : List ℕ) (r : Result Command CdbFault) → IfErr r (cdb_rules.IsFault bytes) → IfErr (cdb_answer r) (IsReason formats.Cdb bytes)
cdb-refused bytes (Ok v) s = tt
cdb-refused bytes (Err (cdb_faults.OpCode code)) s = s
cdb-refused bytes (Err (cdb_faults.Length want got)) s = s
cdb-refused bytes (Err (cdb_faults.Bits byte)) s = s

pub cdb-answers : (bytes : List ℕ) (r : Result Command CdbFault) → IfOk r (cdbs.SpellsCdb bytes) → ((v : Command) → cdbs.SpellsCdb bytes v → r ≡ Ok v) → IfErr r (cdb_rules.IsFault bytes) → ((f : CdbFault) → cdb_rules.IsFault bytes f → r ≡ Err f) → IsAnswer formats.Cdb bytes (cdb_answer r)
cdb-answers bytes r spelt read fault refused = record {
  found = cdb-found bytes r spelt;
  only = cdb-only bytes r read;
  refused = cdb-refused bytes r fault;
  fault = cdb-fault bytes r refused;
}

-- ---- sense data

sense-only : (bytes : List ℕ) (r : Result Sense SenseFault) → ((v : Sense) → senses.SpellsSense bytes v → r ≡ Ok v) → (value : DecodedValue) → IsValue formats.Sense bytes value → MatchResult (sense_answer r) (λ v. v ≡ value) (λ reason. reason ≡ undecoded.Memory)
sense-only bytes r read value (v, (s, e)) = rw (read v s) (sym e)

sense-fault : (bytes : List ℕ) (r : Result Sense SenseFault) → ((f : SenseFault) → sense_rules.IsFault bytes f → r ≡ Err f) → (first : DecodeFault) → IsFault formats.Sense bytes first → sense_answer r ≡ Err (undecoded.Faulty first)
sense-fault bytes r refused (faults.OpCode code) h = absurd h
sense-fault bytes r refused (faults.Length want got) h = rw (refused (sense_faults.Length got) h.1) (ap (λ (n : ℕ). Err (undecoded.Faulty (faults.Length n got))) (sym h.0))
sense-fault bytes r refused (faults.Bits byte) h = rw (refused (sense_faults.Bits byte) h) refl
sense-fault bytes r refused (faults.Code got) h = rw (refused (sense_faults.Code got) h) refl
sense-fault bytes r refused (faults.Field byte) h = absurd h

sense-found : (bytes : List ℕ) (r : Result Sense SenseFault) → IfOk r (senses.SpellsSense bytes) → IfOk (sense_answer r) (IsValue formats.Sense bytes)
sense-found bytes (Ok v) s = (v, (s, refl))
sense-found bytes (Err (sense_faults.Length got)) s = tt
sense-found bytes (Err (sense_faults.Code got)) s = tt
sense-found bytes (Err (sense_faults.Bits byte)) s = tt

sense-refused : (bytes : List ℕ) (r : Result Sense SenseFault) → IfErr r (sense_rules.IsFault bytes) → IfErr (sense_answer r) (IsReason formats.Sense bytes)
sense-refused bytes (Ok v) s = tt
sense-refused bytes (Err (sense_faults.Length got)) s = (refl, s)
sense-refused bytes (Err (sense_faults.Code got)) s = s
sense-refused bytes (Err (sense_faults.Bits byte)) s = s

pub sense-answers : (bytes : List ℕ) (r : Result Sense SenseFault) → IfOk r (senses.SpellsSense bytes) → ((v : Sense) → senses.SpellsSense bytes v → r ≡ Ok v) → IfErr r (sense_rules.IsFault bytes) → ((f : SenseFault) → sense_rules.IsFault bytes f → r ≡ Err f) → IsAnswer formats.Sense bytes (sense_answer r)
sense-answers bytes r spelt read fault refused = record {
  found = sense-found bytes r spelt;
  only = sense-only bytes r read;
  refused = sense-refused bytes r fault;
  fault = sense-fault bytes r refused;
}

-- ---- pages

page-only : (bytes : List ℕ) (r : Result XorPage PageFault) → ((v : XorPage) → pages.SpellsPage bytes v → r ≡ Ok v) → (value : DecodedValue) → IsValue formats.Page bytes value → MatchResult (page_answer r) (λ v. v ≡ value) (λ reason. reason ≡ undecoded.Memory)
page-only bytes r read value (v, (s, e)) = rw (read v s) (sym e)

page-fault : (bytes : List ℕ) (r : Result XorPage PageFault) → ((f : PageFault) → pages.IsPageFault bytes f → r ≡ Err f) → (first : DecodeFault) → IsFault formats.Page bytes first → page_answer r ≡ Err (undecoded.Faulty first)
page-fault bytes r refused (faults.OpCode code) h = absurd h
page-fault bytes r refused (faults.Length want got) h = rw (refused (page_faults.Length want got) h) refl
page-fault bytes r refused (faults.Bits byte) h = absurd h
page-fault bytes r refused (faults.Code got) h = absurd h
page-fault bytes r refused (faults.Field byte) h = rw (refused (page_faults.Field byte) h) refl

page-found : (bytes : List ℕ) (r : Result XorPage PageFault) → IfOk r (pages.SpellsPage bytes) → IfOk (page_answer r) (IsValue formats.Page bytes)
page-found bytes (Ok v) s = (v, (s, refl))
page-found bytes (Err (page_faults.Length want got)) s = tt
page-found bytes (Err (page_faults.Field byte)) s = tt

page-refused : (bytes : List ℕ) (r : Result XorPage PageFault) → IfErr r (pages.IsPageFault bytes) → IfErr (page_answer r) (IsReason formats.Page bytes)
page-refused bytes (Ok v) s = tt
page-refused bytes (Err (page_faults.Length want got)) s = s
page-refused bytes (Err (page_faults.Field byte)) s = s

pub page-answers : (bytes : List ℕ) (r : Result XorPage PageFault) → IfOk r (pages.SpellsPage bytes) → ((v : XorPage) → pages.SpellsPage bytes v → r ≡ Ok v) → IfErr r (pages.IsPageFault bytes) → ((f : PageFault) → pages.IsPageFault bytes f → r ≡ Err f) → IsAnswer formats.Page bytes (page_answer r)
page-answers bytes r spelt read fault refused = record {
  found = page-found bytes r spelt;
  only = page-only bytes r read;
  refused = page-refused bytes r fault;
  fault = page-fault bytes r refused;
}

-- ---- parameter lists

params-only : (bytes : List ℕ) (intdata : Bool) (wanted : ℕ) (r : Result Params ParamFault) → ((v : Params) → lists.SpellsParams bytes intdata wanted v → MatchResult r (λ q. q ≡ v) (λ e. e ≡ list_faults.Memory)) → (value : DecodedValue) → IsValue (formats.Params intdata wanted) bytes value → MatchResult (params_answer r) (λ v. v ≡ value) (λ reason. reason ≡ undecoded.Memory)
params-only bytes intdata wanted r read value (v, (s, e)) = answered r (read v s)
  where
    answered : (r : Result Params ParamFault) → MatchResult r (λ q. q ≡ v) (λ e. e ≡ list_faults.Memory) → MatchResult (params_answer r) (λ v. v ≡ value) (λ reason. reason ≡ undecoded.Memory)
    answered (Ok q) m = ap values.Params m ∙ sym e
    answered (Err (list_faults.Length want got)) m = absurd cc
    answered (Err (list_faults.Field byte)) m = absurd cc
    answered (Err list_faults.Memory) m = refl

-- when a parameter list has each fault
pub record Refuses (bytes : List ℕ) (intdata : Bool) (wanted : ℕ) (r : Result Params ParamFault) : Type 0 where
  pub short : lists.IsShort bytes → r ≡ Err (list_faults.Length 4 (length bytes))
  pub reserved : lists.HasReserved bytes → r ≡ Err (list_faults.Field 1)
  pub crowded : lists.IsCrowded bytes → r ≡ Err (list_faults.Field 2)
  pub wrong : lists.HasWrongLength bytes intdata wanted → r ≡ Err (list_faults.Length (lists.due bytes intdata wanted) (length bytes))
  pub offends : (byte : ℕ) → lists.OffendsFirst bytes intdata wanted byte → r ≡ Err (list_faults.Field byte)

params-length : (bytes : List ℕ) (intdata : Bool) (wanted want got : ℕ) (r : Result Params ParamFault) → Refuses bytes intdata wanted r → lists.IsRefused bytes intdata wanted (list_faults.Length want got) → r ≡ Err (list_faults.Length want got)
params-length bytes intdata wanted want got r h (g, inl (short, w)) = rw (h.short short, w, g) refl
params-length bytes intdata wanted want got r h (g, inr (wrong, w)) = rw (h.wrong wrong, w, g) refl

params-field : (bytes : List ℕ) (intdata : Bool) (wanted byte : ℕ) (r : Result Params ParamFault) → Refuses bytes intdata wanted r → lists.IsRefused bytes intdata wanted (list_faults.Field byte) → r ≡ Err (list_faults.Field byte)
params-field bytes intdata wanted byte r h (inl (reserved, e)) = rw (h.reserved reserved, e) refl
params-field bytes intdata wanted byte r h (inr (inl (crowded, e))) = rw (h.crowded crowded, e) refl
params-field bytes intdata wanted byte r h (inr (inr offends)) = h.offends byte offends

params-fault : (bytes : List ℕ) (intdata : Bool) (wanted : ℕ) (r : Result Params ParamFault) → Refuses bytes intdata wanted r → (first : DecodeFault) → IsFault (formats.Params intdata wanted) bytes first → params_answer r ≡ Err (undecoded.Faulty first)
params-fault bytes intdata wanted r refused (faults.OpCode code) h = absurd h
params-fault bytes intdata wanted r refused (faults.Length want got) h = rw (params-length bytes intdata wanted want got r refused h) refl
params-fault bytes intdata wanted r refused (faults.Bits byte) h = absurd h
params-fault bytes intdata wanted r refused (faults.Code got) h = absurd h
params-fault bytes intdata wanted r refused (faults.Field byte) h = rw (params-field bytes intdata wanted byte r refused h) refl

params-found : (bytes : List ℕ) (intdata : Bool) (wanted : ℕ) (r : Result Params ParamFault) → IfOk r (lists.SpellsParams bytes intdata wanted) → IfOk (params_answer r) (IsValue (formats.Params intdata wanted) bytes)
params-found bytes intdata wanted (Ok v) s = (v, (s, refl))
params-found bytes intdata wanted (Err (list_faults.Length want got)) s = tt
params-found bytes intdata wanted (Err (list_faults.Field byte)) s = tt
params-found bytes intdata wanted (Err list_faults.Memory) s = tt

params-refused : (bytes : List ℕ) (intdata : Bool) (wanted : ℕ) (r : Result Params ParamFault) → IfErr r (lists.IsFault bytes intdata wanted) → IfErr (params_answer r) (IsReason (formats.Params intdata wanted) bytes)
params-refused bytes intdata wanted (Ok v) s = tt
params-refused bytes intdata wanted (Err (list_faults.Length want got)) s = s
params-refused bytes intdata wanted (Err (list_faults.Field byte)) s = s
params-refused bytes intdata wanted (Err list_faults.Memory) s = (values.Params s.0, (s.0, (s.1, refl)))

pub params-answers : (bytes : List ℕ) (intdata : Bool) (wanted : ℕ) (r : Result Params ParamFault) → IfOk r (lists.SpellsParams bytes intdata wanted) → ((v : Params) → lists.SpellsParams bytes intdata wanted v → MatchResult r (λ q. q ≡ v) (λ e. e ≡ list_faults.Memory)) → IfErr r (lists.IsFault bytes intdata wanted) → Refuses bytes intdata wanted r → IsAnswer (formats.Params intdata wanted) bytes (params_answer r)
params-answers bytes intdata wanted r spelt read fault refused = record {
  found = params-found bytes intdata wanted r spelt;
  only = params-only bytes intdata wanted r read;
  refused = params-refused bytes intdata wanted r fault;
  fault = params-fault bytes intdata wanted r refused;
}
