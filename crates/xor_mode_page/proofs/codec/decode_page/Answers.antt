use Rattle.xor_mode_page.proofs.PageLemmas.{one_answer}
use Rattle.xor_mode_page.proofs.codec.decode_page.Goals as goal

pub returns-clause-only : goal.returns-clause-only
returns-clause-only c p s = one_answer c.args.bytes.now c.first_answer.result p c.first_answer.ensures s
