use Rattle.std.proofs.Common.{◌<◌, ◌^◌, List, rules, subst}
use Rattle.std.specs.List.{All}
use Rattle.xor_params.specs.declared.sources.Descriptor.{Descriptor}
use Rattle.xor_params.proofs.encoding.encode.Goals as goal

pub returns-clause-again : goal.returns-clause-again
returns-clause-again c intdata wanted amount = record {
  spelled = search rules;
  fits = record {
    few = c.requires.few;
    short = c.requires.short;
    addresses = subst (λ (t : List Descriptor). All (λ d. d.lba < 2 ^ 32) t) c.as_slice.ensures c.in_ok-push_sources.ensures.addresses;
  };
  amount = amount;
}
