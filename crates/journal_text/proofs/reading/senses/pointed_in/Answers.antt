use Rattle.std.proofs.Common.{◌∙◌, Some, ap, sym}
use Rattle.sense_data.specs.declared.senses.Pointer.{Pointer}
use Rattle.sense_data.specs.declared.senses.Sense.{Sense}
use Rattle.sense_data.specs.Illegal.{illegal}
use Rattle.journal_text.proofs.Leaves.{other-key, no-byte, pointed-made}
use Rattle.journal_text.proofs.reading.senses.pointed_in.Goals as goal

pub returns-then-key-ne-ILLEGAL_REQUEST : goal.returns-then-key-ne-ILLEGAL_REQUEST
returns-then-key-ne-ILLEGAL_REQUEST c = other-key c.args.key c.args.asc c.args.ascq c.args.text.now c.if-key-ne-ILLEGAL_REQUEST.true

pub returns-in_default : goal.returns-in_default
returns-in_default c = no-byte c.args.key c.args.asc c.args.ascq c.args.text.now c.in_default.ensures

pub returns : goal.returns
returns c =
    pointed-made c.args.key c.args.asc c.args.ascq c.in-Some.byte c.args.text.now c.if-key-ne-ILLEGAL_REQUEST.false c.in-Some.ensures
    ∙ ap (λ (s : Sense). Some s) (sym (c.illegal.ensures ∙ ap (λ (p : Pointer). illegal c.args.asc c.args.ascq (Some p)) c.in_cdb.ensures))
