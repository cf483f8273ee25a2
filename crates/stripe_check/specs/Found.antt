-- The summary, by what was kept while a journal was read.
use Rattle.std.specs.Prelude.{ℕ, ◌+◌, ◌*◌, ◌&&◌, not, is_some, Bool, List, [], ◌∷◌, ◌++◌, length, get_or, filter, Option, Some, None, codes}
use Rattle.std.specs.List.{flat_map, list_any}
use Rattle.blocks_core.specs.Xor.{xor_all, is_zero}
use Rattle.stripe_layout.specs.declared.geometry.Geometry.{Geometry}
use Rattle.stripe_layout.specs.Layout.{stripes_of, first_row}
use Rattle.dirty_list.specs.Listings.{command_of}
use Rattle.array_journal.specs.Lists.{numbers}
use Rattle.host_scripts.specs.declared.script.Call.{Call}
use Rattle.text_fields.specs.Spelling.{line, counted}
use Rattle.stripe_check.specs.declared.command_summary.Brief.{Brief}
use Rattle.stripe_check.specs.declared.command_summary.CommandSummary.{CommandSummary}
use Rattle.stripe_check.specs.declared.command_summary.Tally.{Tally}
use Rattle.stripe_check.specs.declared.failure.Failure.{Failure}
use Rattle.stripe_check.specs.Folds.{unknown}
use Rattle.stripe_check.specs.AbsentUnits.{is_lost}
use Rattle.stripe_check.specs.Reports.{absent_text}
use Rattle.stripe_check.specs.Replies.{answer_line}
use Rattle.stripe_check.specs.Sums.{unit_bytes, parts_on}
use Rattle.stripe_check.specs.Tallies.{untold}

-- some unit of a stripe was lost
abbrev pub any_lost : List ℕ → List (List ℕ) → ℕ → ℕ → Bool
any_lost lost made targets stripe = list_any (λ i. is_lost lost made i stripe) (numbers 0 targets)

-- how many stripes lost a unit
abbrev pub lost_stripes : List ℕ → List (List ℕ) → ℕ → ℕ → ℕ
lost_stripes lost made targets stripes = length (filter (any_lost lost made targets) (numbers 0 stripes))

-- how many units a target lost
abbrev pub lost_units : List ℕ → List (List ℕ) → ℕ → ℕ → ℕ
lost_units lost made stripes i = length (filter (is_lost lost made i) (numbers 0 stripes))

-- the exclusive-or of a stripe's rows over all media
abbrev pub stripe_total : Geometry → List (List ℕ) → ℕ → List ℕ
stripe_total g media stripe = xor_all (unit_bytes g stripe) (parts_on (first_row g stripe * g.block) (unit_bytes g stripe) media)

abbrev pub sums_to_zero : Geometry → List (List ℕ) → ℕ → Bool
sums_to_zero g media stripe = is_zero (stripe_total g media stripe)

-- a stripe has all its units, and comes to zero
abbrev pub is_whole : Geometry → List (List ℕ) → List ℕ → List (List ℕ) → ℕ → Bool
is_whole g media lost made stripe = not (any_lost lost made g.targets stripe) && sums_to_zero g media stripe

-- how many stripes do
abbrev pub zero_stripes : Geometry → List (List ℕ) → List ℕ → List (List ℕ) → ℕ → ℕ
zero_stripes g media lost made stripes = length (filter (is_whole g media lost made) (numbers 0 stripes))

-- how many stripes are listed
abbrev pub listed_count : List (ℕ × ℕ) → ℕ → ℕ
listed_count listed stripes = length (filter (λ stripe. is_some (command_of stripe listed)) (numbers 0 stripes))

-- the line of a listed stripe
abbrev pub dirty_briefly : ℕ → Option Brief → List ℕ
dirty_briefly stripe None = []
dirty_briefly stripe (Some b) = line (counted (codes "dirty") stripe (counted (codes " call") b.call (counted (codes " piece") b.piece [])))

abbrev pub listed_line : List CommandSummary → ℕ → Option ℕ → List ℕ
listed_line kept stripe None = []
listed_line kept stripe (Some c) = dirty_briefly stripe (get_or kept c unknown).brief

-- the lines of the listed stripes
abbrev pub listed_lines : List CommandSummary → List (ℕ × ℕ) → ℕ → List ℕ
listed_lines kept listed stripes = flat_map (λ stripe. listed_line kept stripe (command_of stripe listed)) (numbers 0 stripes)

-- the lines of the targets with lost units
abbrev pub lost_lines : List ℕ → List (List ℕ) → ℕ → ℕ → List ℕ
lost_lines lost made targets stripes = flat_map (λ i. absent_text i (lost_units lost made stripes i)) (numbers 0 targets)

-- how many stripes there are, have all units and come to zero, are listed, and lost a unit
abbrev pub counts_line : ℕ → ℕ → ℕ → ℕ → List ℕ
counts_line stripes zeros listed absent =
    line (counted (codes "stripes") stripes (counted (codes " zero") zeros (counted (codes " listed") listed (counted (codes " absent") absent []))))

abbrev pub entries_text : ℕ → List ℕ
entries_text count = line (counted (codes "entries") count [])

abbrev pub summary_found : Geometry → ℕ → List (List ℕ) → List CommandSummary → List (ℕ × ℕ) → List ℕ → List (List ℕ) → List ℕ
summary_found g count media kept listed lost made =
    entries_text count
    ++ (counts_line (stripes_of g) (zero_stripes g media lost made (stripes_of g)) (listed_count listed (stripes_of g)) (lost_stripes lost made g.targets (stripes_of g))
    ++ (listed_lines kept listed (stripes_of g)
    ++ lost_lines lost made g.targets (stripes_of g)))

-- the answers to calls, by what was kept of those behind n of them
abbrev pub replies_found : List (List ℕ) → List (Option Failure) → List Tally → ℕ → List Call → List ℕ
replies_found reads failures tallies n [] = []
replies_found reads failures tallies n (call ∷ calls) =
    answer_line (n + 1) call (get_or reads n []) (get_or failures n None) (get_or tallies n untold) ++ replies_found reads failures tallies (n + 1) calls
