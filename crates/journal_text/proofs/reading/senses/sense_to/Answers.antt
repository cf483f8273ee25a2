use Rattle.std.proofs.Common.{◌≡◌, ◌∙◌, Option, true, false, refl, sym, subst}
use Rattle.std.specs.Prelude.{codes}
use Rattle.std.specs.Str.{bytes_eq}
use Rattle.sense_data.specs.declared.senses.Sense.{Sense}
use Rattle.text_fields.specs.Reading.{Reads}
use Rattle.journal_text.proofs.Leaves.{other-read, great-key, plain-read}
use Rattle.journal_text.proofs.reading.senses.sense_to.Goals as goal

pub returns-then-not-is_text : goal.returns-then-not-is_text
returns-then-not-is_text c =
    let h : bytes_eq c.args.text.now (codes "-") ≡ false = sym c.is_text.ensures ∙ c.if-not-is_text.true in
    subst (λ (o : Option Sense). Reads (λ (s : Sense). s) c.pointed_in.result o) (sym (other-read c.args.key c.args.asc c.args.ascq c.args.text.now h)) c.pointed_in.ensures

pub returns-then-key-ge16 : goal.returns-then-key-ge16
returns-then-key-ge16 c =
    let h : bytes_eq c.args.text.now (codes "-") ≡ true = sym c.is_text.ensures ∙ c.if-not-is_text.false in
    great-key c.args.key c.args.asc c.args.ascq c.args.text.now h c.if-key-ge16.true

pub returns : goal.returns
returns c =
    let h : bytes_eq c.args.text.now (codes "-") ≡ true = sym c.is_text.ensures ∙ c.if-not-is_text.false in
    plain-read c.args.key c.args.asc c.args.ascq c.args.text.now _ h c.if-key-ge16.false refl
