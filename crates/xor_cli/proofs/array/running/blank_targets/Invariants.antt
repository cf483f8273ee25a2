-- the targets so far are blank
use Rattle.std.proofs.Common.{◌≡◌, ◌*◌, [], replicate}
use Rattle.blocks_core.specs.Xor.{zeros}
use Rattle.stripe_layout.specs.Layout.{rows_of}
use Rattle.xor_cli.proofs.array.running.blank_targets.Given as goal

abbrev pub invariant-loop : goal.invariant-loop
invariant-loop l =
    l.targets.items ≡ replicate l.counter (record {
      disk = record { medium = zeros (rows_of l.fn.geometry * l.fn.geometry.block); held = [] };
      entries = [];
    })
