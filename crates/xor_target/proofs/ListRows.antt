-- What no row on lists refuses is a list.
use Rattle.std.specs.Prelude.{◌≡◌, ◌≤◌, ◌*◌, ◌==◌, ℕ, Bool, true, false, if◌then◌else◌, List, [], ◌∷◌, ◌++◌, Option, Some, None, option_map}
use Rattle.std.proofs.Common.{refl, arith}
use Rattle.std.proofs.lemmas.Bool.{ne_eqb}
use Rattle.sense_data.specs.declared.senses.Sense.{Sense}
use Rattle.sbc_cdbs.specs.declared.commands.Command.{Command}
use Rattle.sbc_cdbs.specs.declared.commands.Command.TheVariants.{Read, Write, XdWrite, XpWrite, XdRead, XdWriteRead, ModeSelect, ModeSense, XdWriteExtended, Rebuild, Regenerate}
use Rattle.xor_mode_page.specs.Pages.{list_fault}
use Rattle.xor_params.specs.declared.lists.ParamFault.{ParamFault}
use Rattle.xor_params.specs.declared.lists.ParamFault.TheVariants.{Length, Field, Memory}
use Rattle.xor_params.specs.Contents.{stranger_in}
use Rattle.xor_params.specs.ListFaults as params
use Rattle.xor_params.proofs.ListFaults.{sound-room, never-memory}
use Rattle.xor_target.specs.declared.limits.TargetLimits.{TargetLimits}
use Rattle.xor_target.specs.Admission.{first_some, param_sense, wrong_in_list, wrong_sources, wrong_list, HasSources, HasSoundList}

-- where no row answers, the last doesn't
pub last-none : (rows : List (Option Sense)) (last : Option Sense) → first_some (rows ++ last ∷ []) ≡ None → last ≡ None
last-none [] None h = refl
last-none [] (Some sense) h = absurd cc
last-none (Some sense ∷ rows) last h = absurd cc
last-none (None ∷ rows) last h = last-none rows last h

pub first-none : (o : Option Sense) (rows : List (Option Sense)) → first_some (o ∷ rows) ≡ None → o ≡ None
first-none None rows h = refl
first-none (Some sense) rows h = absurd cc

pub no-map : {A : Type 0} (f : A → Sense) (o : Option A) → option_map f o ≡ None → o ≡ None
no-map f None h = refl
no-map f (Some a) h = absurd cc

no-sense : (o : Option ParamFault) → (o ≡ Some Memory → ⊥) → param_sense o ≡ None → o ≡ None
no-sense None memory h = refl
no-sense (Some (Length want got)) memory h = absurd cc
no-sense (Some (Field byte)) memory h = absurd cc
no-sense (Some Memory) memory h = absurd (memory refl)

chosen-second : (b : Bool) (o : Option Sense) → b ≡ false → (if b then None else o) ≡ None → o ≡ None
chosen-second true o e h = absurd cc
chosen-second false o e h = h

sources-sound : (limits : TargetLimits) (intdata : Bool) (count : ℕ) (bytes : List ℕ) → wrong_sources limits intdata count bytes ≡ None → 1 ≤ count → HasSources limits intdata count bytes
sources-sound limits intdata count bytes h some =
    let wanted = count * limits.block in
    let fault = params.list_fault bytes intdata wanted in
    let strange = option_map wrong_in_list (stranger_in limits.targets limits.number bytes) in
    let rows = chosen-second (count == 0) (first_some (param_sense fault ∷ strange ∷ [])) (ne_eqb count 0 (λ z. omega (arith, z, some))) h in
    let none : fault ≡ None = no-sense fault (λ e. never-memory bytes intdata wanted e) (first-none (param_sense fault) (strange ∷ []) rows) in
    record {
      sound = none;
      room = sound-room bytes intdata wanted none;
      known = no-map wrong_in_list (stranger_in limits.targets limits.number bytes) (last-none (param_sense fault ∷ []) strange rows);
    }

pub sound-list : (limits : TargetLimits) (command : Command) (bytes : List ℕ) → wrong_list limits command bytes ≡ None → HasSoundList limits command bytes
sound-list limits (Read dpo fua lba count) bytes h = tt
sound-list limits (Write dpo fua lba count) bytes h = tt
sound-list limits (XdWrite dpo fua disable lba count) bytes h = tt
sound-list limits (XpWrite dpo fua lba count) bytes h = tt
sound-list limits (XdRead lba count) bytes h = tt
sound-list limits (XdWriteRead dpo fua disable lba count) bytes h = tt
sound-list limits (ModeSelect pf sp list) bytes h = no-map _ (list_fault bytes) h
sound-list limits (ModeSense dbd pc page allocation) bytes h = tt
sound-list limits (XdWriteExtended dpo fua disable lba second count address) bytes h = tt
sound-list limits (Rebuild dpo fua intdata lba count list) bytes h = sources-sound limits intdata count bytes h
sound-list limits (Regenerate dpo fua intdata lba count list) bytes h = sources-sound limits intdata count bytes h
