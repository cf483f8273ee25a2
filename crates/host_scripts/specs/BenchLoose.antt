-- What the text of a bench's line says in the form of a rule, before its ranges are tested.
use Rattle.std.specs.Prelude.{ℕ, if◌then◌else◌, List, codes, Option, Some, None}
use Rattle.std.specs.Str.{bytes_eq}
use Rattle.text_fields.specs.Reading.{◌>>=◌, stripped}
use Rattle.host_scripts.specs.declared.bench.BenchLine.{BenchLine}
use Rattle.host_scripts.specs.declared.bench.BenchAction.{BenchAction}
use Rattle.host_scripts.specs.declared.bench.BenchAction.TheVariants.{Raw, Lose, Reset, DropNext, Fresh}
use Rattle.host_scripts.specs.Loose.{exact_of, else_of, addressed_of, raw_parts_of}

-- the first line, and its version
unfoldable pub bench_version_of : List ℕ → Option ℕ
bench_version_of text = exact_of (codes "xorbench 1") 1 text

-- what is asked by a word alone
unfoldable pub bench_word_of : List ℕ → Option BenchAction
bench_word_of text =
    if bytes_eq text (codes "lose") then Some Lose
    else if bytes_eq text (codes "reset") then Some Reset
    else if bytes_eq text (codes "drop") then Some DropNext
    else if bytes_eq text (codes "fresh") then Some Fresh
    else None

-- what stands behind `cdb `
unfoldable pub bench_raw_of : List ℕ → Option BenchAction
bench_raw_of text = do
  parts ← raw_parts_of text
  Some (Raw parts.0 parts.1)

-- what is asked
unfoldable pub bench_action_of : List ℕ → Option BenchAction
bench_action_of text = else_of bench_raw_of (stripped (codes "cdb ") text) (bench_word_of text)

-- a target, a space and what is asked of it
unfoldable pub bench_line_of : List ℕ → Option BenchLine
bench_line_of text = do
  target ← addressed_of text
  action ← bench_action_of target.1
  Some (record { target = target.0; action = action })
