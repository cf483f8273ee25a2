use Rattle.array_control.proofs.Apart.{calls-apart, commands-call, none-again}
use Rattle.array_control.proofs.laws.calls_are_apart.Goals as goal

pub returns : goal.returns
returns c = record { apart = calls-apart; commands = commands-call; once = none-again }
