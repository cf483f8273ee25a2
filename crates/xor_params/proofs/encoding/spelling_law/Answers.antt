use Rattle.std.proofs.Common.{true, length, refl, sym}
use Rattle.xor_params.specs.ParameterLists.{spelling}
use Rattle.xor_params.proofs.Readings.{one_list}
use Rattle.xor_params.proofs.encoding.spelling_law.Goals as goal

pub returns : goal.returns
returns c p q f g len same =
    one_list (spelling p) true (length p.intermediate) p q (record { spelled = refl; fits = f; amount = refl }) (record { spelled = same; fits = g; amount = sym len })
