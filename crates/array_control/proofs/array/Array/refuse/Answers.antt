use Rattle.array_control.proofs.Refusing.{refused-grown, refused-ends, refused-calm}
use Rattle.array_control.proofs.array.Array.refuse.Goals as goal

pub returns-clause-grown : goal.returns-clause-grown
returns-clause-grown g c =
    refused-grown _ _ _ _ _ _ _ _ _ _ _ _ _ _ c.sense.ensures c.in-Begun.is c.in-Refused.is c.in_ok-acted.ensures.done c.requires.calm

pub returns-clause-refused : goal.returns-clause-refused
returns-clause-refused g c =
    refused-ends _ _ _ _ _ _ _ _ _ _ _ _ _ _ c.sense.ensures c.in-Begun.is c.in-Refused.is c.in_ok-acted.ensures.done c.requires.calm c.requires.new

pub returns-clause-calm : goal.returns-clause-calm
returns-clause-calm g c =
    refused-calm _ _ _ _ _ _ _ _ _ _ _ _ _ _ c.sense.ensures c.in-Begun.is c.in-Refused.is c.in_ok-acted.ensures.done c.requires.calm
    (c.in_ok-acted.ensures.run c.requires.calm.runs)
