-- What a bench is, and the bytes that spell it.
use Rattle.std.specs.Prelude.{ℕ, ◌≡◌, ◌<◌, ◌≤◌, List, ◌∷◌, ◌++◌, map, codes}
use Rattle.std.specs.List.{flat_map, AllByRecursion}
use Rattle.text_fields.specs.Spelling.{line, numeral}
use Rattle.host_scripts.specs.declared.bench.Bench.{Bench}
use Rattle.host_scripts.specs.declared.bench.BenchLine.{BenchLine}
use Rattle.host_scripts.specs.declared.bench.BenchAction.{BenchAction}
use Rattle.host_scripts.specs.declared.bench.BenchAction.TheVariants.{Raw, Lose, Reset, DropNext, Fresh}
use Rattle.host_scripts.specs.Scripts.{raw_text, IsRaw}

-- what stands behind a target
abbrev pub bench_action_text : BenchAction → List ℕ
bench_action_text (Raw cdb bytes) = raw_text cdb bytes
bench_action_text Lose = codes "lose"
bench_action_text Reset = codes "reset"
bench_action_text DropNext = codes "drop"
bench_action_text Fresh = codes "fresh"

-- a target and what is asked of it
abbrev pub bench_line_text : BenchLine → List ℕ
bench_line_text l = numeral l.target ++ 32 ∷ bench_action_text l.action

-- the lines of a bench, each without its end
abbrev pub bench_texts : Bench → List (List ℕ)
bench_texts b =
    codes "xorbench 1"
    ∷ (codes "targets " ++ numeral b.targets)
    ∷ (codes "block " ++ numeral b.block)
    ∷ (codes "rows " ++ numeral b.rows)
    ∷ (codes "buffer " ++ numeral b.buffer)
    ∷ map bench_line_text b.lines

-- all the bytes of a bench
unfoldable pub bench_spelling : Bench → List ℕ
bench_spelling b = flat_map line (bench_texts b)

-- bytes are bytes, and a CDB has at least one
abbrev pub IsBenchAction : BenchAction → Type 0
IsBenchAction (Raw cdb bytes) = IsRaw cdb bytes
IsBenchAction Lose = Unit {0}
IsBenchAction Reset = Unit {0}
IsBenchAction DropNext = Unit {0}
IsBenchAction Fresh = Unit {0}

-- something is asked of one of the targets
abbrev pub IsBenchLine : Bench → BenchLine → Type 0
IsBenchLine b l = (l.target < b.targets) × IsBenchAction l.action

-- what the grammar allows: each number is in the range of its line
pub record IsBench (b : Bench) : Type 0 where
  pub least_targets : 1 ≤ b.targets
  pub most_targets : b.targets ≤ 16
  pub least_block : 1 ≤ b.block
  pub most_block : b.block ≤ 4096
  pub least_rows : 1 ≤ b.rows
  pub most_rows : b.rows ≤ 65536
  pub most_buffer : b.buffer ≤ 65536
  pub lines : AllByRecursion (IsBenchLine b) b.lines

-- the bytes are this bench's
abbrev pub SpellsBench : List ℕ → Bench → Type 0
SpellsBench bytes b = (bytes ≡ bench_spelling b) × IsBench b
