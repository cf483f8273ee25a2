use Rattle.std.proofs.Common.{refl}
use Rattle.xor_mode_page.specs.Pages.{spelling}
use Rattle.xor_mode_page.proofs.PageLemmas.{one_page}
use Rattle.xor_mode_page.proofs.codec.spelling_law.Goals as goal

pub returns : goal.returns
returns c p q f g same = one_page (spelling p) p q (record { spelled = refl; fits = f }) (record { spelled = same; fits = g })
