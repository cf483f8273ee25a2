use Rattle.xor_cli.specs.declared.words.ToolCommand.TheVariants as commands
use Rattle.xor_cli.proofs.WordLaws.{same-decode, unread-decode}
use Rattle.xor_cli.proofs.Work.{value-moved, fault-moved}
use Rattle.xor_cli.proofs.execute.work.Goals as goal

pub returns-in-Some-Decode-clause-decodes : goal.returns-in-Some-Decode-clause-decodes
returns-in-Some-Decode-clause-decodes g c = λ f b value spelt is.
    let only = c.in_ok-run.ensures.only (commands.Decode f b) spelt in
    let same = same-decode _ _ f c.in-Some-Decode.format b c.in-Some-Decode.bytes c.in-Some-Decode.is c.in-Some-Decode.field-0-is only in
    c.decode.ensures.decodes value (value-moved f _ b _ _ value same c.as_slice.ensures is)

pub returns-in-Some-Decode-clause-faults : goal.returns-in-Some-Decode-clause-faults
returns-in-Some-Decode-clause-faults g c = λ f b fault spelt is.
    let only = c.in_ok-run.ensures.only (commands.Decode f b) spelt in
    let same = same-decode _ _ f c.in-Some-Decode.format b c.in-Some-Decode.bytes c.in-Some-Decode.is c.in-Some-Decode.field-0-is only in
    c.decode.ensures.faults fault (fault-moved f _ b _ _ fault same c.as_slice.ensures is)

pub returns-in-None-clause-decodes : goal.returns-in-None-clause-decodes
returns-in-None-clause-decodes g c = λ f b value spelt is.
    absurd (unread-decode _ f b c.in-None.is (c.in_ok-run.ensures.only (commands.Decode f b) spelt))

pub returns-in-None-clause-faults : goal.returns-in-None-clause-faults
returns-in-None-clause-faults g c = λ f b fault spelt is.
    absurd (unread-decode _ f b c.in-None.is (c.in_ok-run.ensures.only (commands.Decode f b) spelt))
