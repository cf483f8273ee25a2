use Rattle.std.proofs.Common.{sym, ap, arith, length}
use Rattle.std.proofs.lemmas.List.{take_all}
use Rattle.stripe_check.proofs.Journals.{read_more, length-read}
use Rattle.stripe_check.proofs.absent_units.losses_of.Goals as goal

pub loop-place-preserved : goal.loop-place-preserved
loop-place-preserved c = λ s g a.
    let same = c.as_slice-entry-items.ensures in
    let len = ap length same in
    let here = rw same at (sym c.entry-item.is) in
    rw (read_more c.args.journal.now c.loop-place.place c.entry-item.result (omega (arith, len)) here)
    (c.keep_loss.ensures s _ _ a (omega (arith, length-read c.args.journal.now c.loop-place.place (omega (arith, len)))) (c.loop-place.invariant s g a))

pub returns : goal.returns
returns c = λ s g a.
    let h = c.loop-place.invariant s g a in
    rw (take_all c.loop-place.place c.args.journal.now (omega (arith, ap length c.as_slice-entry-items.ensures))) at h
