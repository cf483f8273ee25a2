-- Which line of bytes that spell no bench is refused, and for what.
use Rattle.std.specs.Prelude.{ℕ, List}
use Rattle.std.specs.List.{AllByRecursion}
use Rattle.host_scripts.specs.declared.bench.Bench.{Bench}
use Rattle.host_scripts.specs.declared.bench.BenchLine.{BenchLine}
use Rattle.host_scripts.specs.declared.script.Cause.{Cause}
use Rattle.host_scripts.specs.declared.script.ScriptFault.{ScriptFault}
use Rattle.host_scripts.specs.Benches.{bench_texts, IsBenchAction, IsBench, SpellsBench}
use Rattle.host_scripts.specs.FirstRefusals.{Grammar, IsFirstRefusal, RefusesFirst}

-- a line with a target of any number
abbrev pub IsFormedBenchLine : BenchLine → Type 0
IsFormedBenchLine l = IsBenchAction l.action

-- a bench whose numbers are of any size
abbrev pub IsFormedBench : Bench → Type 0
IsFormedBench b = AllByRecursion IsFormedBenchLine b.lines

-- the grammar of benches; what is in range is allowed, so no line is refused for a size
abbrev pub bench_grammar : Grammar Bench
bench_grammar = record { lines = bench_texts; spells = SpellsBench; formed = IsFormedBench; ranged = IsBench; allowed = IsBench }

-- the bytes spell no bench, and this is the first line that is refused and its first cause
abbrev pub IsBenchRefusal : List ℕ → ℕ → Cause → Type 0
IsBenchRefusal bytes number cause = IsFirstRefusal bench_grammar bytes number cause

-- want of memory says nothing of the bytes
abbrev pub RefusesBench : List ℕ → ScriptFault → Type 0
RefusesBench bytes fault = RefusesFirst bench_grammar bytes fault
