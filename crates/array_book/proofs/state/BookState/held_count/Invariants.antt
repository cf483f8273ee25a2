use Rattle.std.proofs.Common.{◌≡◌, ◌*◌, ◌^◌, ◌≤◌, take, reverse}
use Rattle.std.specs.List.{sum_by}
use Rattle.array_book.specs.OpenCommands.{open_tasks}
use Rattle.array_book.proofs.OpenLaws.{held_by}
use Rattle.array_book.proofs.state.BookState.held_count.Given as goal

abbrev pub invariant-loop-place : goal.invariant-loop-place
invariant-loop-place l = record {
  value : l.held ≡ sum_by (held_by l.setting l.target) (take l.place (open_tasks (reverse l.entries)));
  small : l.held ≤ l.place * 2 ^ 32;
}
