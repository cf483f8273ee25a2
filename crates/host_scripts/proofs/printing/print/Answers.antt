use Rattle.host_scripts.proofs.PrintedText.{printed-is}
use Rattle.host_scripts.proofs.printing.print.Goals as goal

pub returns-clause-spelling : goal.returns-clause-spelling
returns-clause-spelling c = printed-is c.args.script.now c.as_slice.result.now c.as_slice-2.result.now c.new-text.result c.push_shape.new.text c.push_starts.new.text c.push_order.new.text c.push_calls.new.text c.as_slice.ensures c.as_slice-2.ensures c.new-text.ensures c.in_ok-push_shape.ensures c.in_ok-push_starts.ensures c.in_ok-push_order.ensures c.in_ok-push_calls.ensures

pub returns-clause-again : goal.returns-clause-again
returns-clause-again c = (printed-is c.args.script.now c.as_slice.result.now c.as_slice-2.result.now c.new-text.result c.push_shape.new.text c.push_starts.new.text c.push_order.new.text c.push_calls.new.text c.as_slice.ensures c.as_slice-2.ensures c.new-text.ensures c.in_ok-push_shape.ensures c.in_ok-push_starts.ensures c.in_ok-push_order.ensures c.in_ok-push_calls.ensures, c.requires)
