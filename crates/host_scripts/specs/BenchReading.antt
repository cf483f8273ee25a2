-- Reading a bench from left to right, line by line.
use Rattle.std.specs.Prelude.{ℕ, nat_lt, Bool, List, length, codes, Result, Ok}
use Rattle.host_scripts.specs.declared.bench.Bench.{Bench}
use Rattle.host_scripts.specs.declared.bench.BenchLine.{BenchLine}
use Rattle.host_scripts.specs.declared.bench_header.BenchHeader.{BenchHeader}
use Rattle.host_scripts.specs.BenchLoose.{bench_version_of, bench_line_of}
use Rattle.host_scripts.specs.Reading.{◌>>=◌, Fault, any, line_at, each_at, number_at}

-- the lines that a bench begins with
unfoldable pub bench_head_at : List ℕ → Result (BenchHeader × List ℕ) Fault
bench_head_at bytes = do
  version ← line_at 1 any any bench_version_of bytes
  targets ← number_at 2 (codes "targets ") 1 16 version.1
  block ← number_at 3 (codes "block ") 1 4096 targets.1
  rows ← number_at 4 (codes "rows ") 1 65536 block.1
  buffer ← number_at 5 (codes "buffer ") 0 65536 rows.1
  Ok (record { targets = targets.0; block = block.0; rows = rows.0; buffer = buffer.0 }, buffer.1)

-- a line is for one of so many targets
abbrev pub is_on_bench : ℕ → BenchLine → Bool
is_on_bench targets l = nat_lt l.target targets

-- what the next line asks
unfoldable pub bench_line_at : ℕ → ℕ → List ℕ → Result (BenchLine × List ℕ) Fault
bench_line_at targets n bytes = line_at n (is_on_bench targets) any bench_line_of bytes

-- the same of at most so many lines, to the last byte
abbrev pub bench_lines_at : ℕ → ℕ → ℕ → List ℕ → Result (List BenchLine) Fault
bench_lines_at targets turns n bytes = each_at (bench_line_at targets) turns n bytes

-- the bench of a header and what its lines ask
abbrev pub bench_with : BenchHeader → List BenchLine → Bench
bench_with h lines = record { targets = h.targets; block = h.block; rows = h.rows; buffer = h.buffer; lines = lines }

-- the whole bench
unfoldable pub bench_at : List ℕ → Result Bench Fault
bench_at bytes = do
  head ← bench_head_at bytes
  lines ← bench_lines_at head.0.targets (length head.1) 6 head.1
  Ok (bench_with head.0 lines)
