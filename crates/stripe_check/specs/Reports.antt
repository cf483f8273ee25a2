-- The report of a run: a line for each call, and a summary of what the journal leaves.
use Rattle.std.specs.Prelude.{ℕ, ◌==◌, if◌then◌else◌, List, [], ◌++◌, length, reverse, Option, Some, None, codes}
use Rattle.std.specs.List.{flat_map}
use Rattle.stripe_layout.specs.Layout.{stripes_of}
use Rattle.array_journal.specs.declared.entry.Entry.{Entry}
use Rattle.array_journal.specs.declared.setting.Setting.{Setting}
use Rattle.array_journal.specs.declared.task.Task.{Task}
use Rattle.array_journal.specs.Commands.{task_of}
use Rattle.array_journal.specs.Listed.{Dirty, dirty}
use Rattle.array_journal.specs.Lists.{numbers}
use Rattle.host_scripts.specs.declared.script.Script.{Script}
use Rattle.host_requests.specs.Settings.{setting_of}
use Rattle.text_fields.specs.Spelling.{line, counted}
use Rattle.stripe_check.specs.Replies.{reply_lines}
use Rattle.stripe_check.specs.Sums.{stripes_that, has_absent, is_balanced, absent_units}

-- how many entries
abbrev pub entries_line : List Entry → List ℕ
entries_line past = line (counted (codes "entries") (length past) [])

-- how many stripes there are, have all units and come to zero, are listed, and have an absent unit
abbrev pub stripes_line : Setting → List Entry → List ℕ
stripes_line s past =
    line (counted (codes "stripes") (stripes_of s.geometry)
    (counted (codes " zero") (stripes_that s (is_balanced s past))
    (counted (codes " listed") (length (dirty s past))
    (counted (codes " absent") (stripes_that s (has_absent s past)) []))))

-- a listed stripe, and the call and piece of the command that it is listed for
abbrev pub dirty_text : ℕ → Option Task → List ℕ
dirty_text stripe None = []
dirty_text stripe (Some task) = line (counted (codes "dirty") stripe (counted (codes " call") task.call (counted (codes " piece") task.piece [])))

abbrev pub dirty_line : List Entry → Dirty → List ℕ
dirty_line past d = dirty_text d.stripe (task_of d.command past)

-- a target with absent units, and how many
abbrev pub absent_text : ℕ → ℕ → List ℕ
absent_text i units = if units == 0 then [] else line (counted (codes "absent") i (counted (codes " units") units []))

abbrev pub absent_line : Setting → List Entry → ℕ → List ℕ
absent_line s past i = absent_text i (absent_units s past i)

-- what a journal leaves, the newest entry first
abbrev pub summary_in : Setting → List Entry → List ℕ
summary_in s past =
    entries_line past
    ++ (stripes_line s past
    ++ (flat_map (dirty_line past) (dirty s past)
    ++ flat_map (absent_line s past) (numbers 0 s.geometry.targets)))

-- the summary of a journal, the oldest entry first
unfoldable pub summary_of : Script → List Entry → List ℕ
summary_of script journal = summary_in (setting_of script) (reverse journal)

-- the report of a script and a journal, the oldest entry first
unfoldable pub report_of : Script → List Entry → List ℕ
report_of script journal = reply_lines script.geometry (reverse journal) 1 script.calls ++ summary_of script journal
