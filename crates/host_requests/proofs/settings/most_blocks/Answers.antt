use Rattle.std.proofs.Common.{arith}
use Rattle.stripe_layout.proofs.StripeLaws.{some-greatest}
use Rattle.host_requests.proofs.settings.most_blocks.Goals as goal

-- src/settings.rt:25:1
pub returns-then-script-eq0-clause-some : goal.returns-then-script-eq0-clause-some
returns-then-script-eq0-clause-some c = λ is. omega (arith, some-greatest c.args.script.now.geometry is.geometry, is.least_buffer)

-- src/settings.rt:25:1
pub returns-else-script-eq0-clause-some : goal.returns-else-script-eq0-clause-some
returns-else-script-eq0-clause-some c = λ is. omega (arith, some-greatest c.args.script.now.geometry is.geometry, is.least_buffer, c.if-script-eq0.false, c.min.ensures)
