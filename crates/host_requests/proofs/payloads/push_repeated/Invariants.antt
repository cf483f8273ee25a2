use Rattle.std.proofs.Common.{◌≡◌, ◌++◌, replicate}
use Rattle.host_requests.proofs.payloads.push_repeated.Given as goal

abbrev pub invariant-loop : goal.invariant-loop
invariant-loop l = l.bytes ≡ l.initial.bytes ++ replicate l.counter l.byte
