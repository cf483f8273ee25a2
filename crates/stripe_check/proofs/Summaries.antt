-- What was kept while a journal was read gives its report.
use Rattle.std.proofs.Common.{◌≡◌, ℕ, zero, suc, ◌+◌, ◌*◌, ◌<◌, ◌≤◌, ◌&&◌, not, List, [], ◌∷◌, ◌++◌, length, map, get_or, reverse, Option, Some, None, refl, ap, sym, ◌∙◌, arith}
use Rattle.std.specs.Prelude.{filter, is_some}
use Rattle.std.specs.List.{flat_map, filter_map}
use Rattle.std.specs.Option.{option_map}
use Rattle.blocks_core.specs.Xor.{xor_all, is_zero}
use Rattle.stripe_layout.specs.declared.geometry.Geometry.{Geometry}
use Rattle.array_journal.specs.declared.entry.Entry.{Entry}
use Rattle.array_journal.specs.declared.setting.Setting.{Setting}
use Rattle.array_journal.specs.declared.task.Task.{Task}
use Rattle.array_journal.specs.Commands.{task_of}
use Rattle.array_journal.specs.Listed.{dirty_stripe, listed_for}
use Rattle.blocks_core.specs.Lists.{slice}
use Rattle.dirty_list.specs.Listings.{command_of}
use Rattle.array_journal.specs.Lists.{numbers}
use Rattle.array_journal.specs.Media.{media}
use Rattle.host_scripts.specs.declared.script.Call.{Call}
use Rattle.host_scripts.specs.declared.script.Script.{Script}
use Rattle.std.proofs.lemmas.List.{length-reverse}
use Rattle.stripe_layout.specs.Layout.{stripes_of, first_row}
use Rattle.stripe_check.specs.declared.command_summary.CommandSummary.{CommandSummary}
use Rattle.stripe_check.specs.declared.command_summary.Tally.{Tally}
use Rattle.stripe_check.specs.declared.failure.Failure.{Failure}
use Rattle.stripe_check.specs.declared.absent_units.Losses.{Losses}
use Rattle.stripe_check.specs.declared.call_outcomes.Story.{Story}
use Rattle.stripe_check.specs.Findings.{IsFound}
use Rattle.stripe_check.specs.Folds.{AreMedia, AreCommands, AreListed, AreReads, AreFailures, AreTallies, brief_of, unknown}
use Rattle.stripe_check.specs.Found.{any_lost, sums_to_zero, is_whole, dirty_briefly, listed_line, counts_line, entries_text, summary_found, replies_found}
use Rattle.stripe_check.specs.AbsentUnits.{AreLosses}
use Rattle.stripe_check.specs.Replies.{reply_lines, answer_line, bytes_read, failure_of}
use Rattle.host_requests.specs.Settings.{setting_of}
use Rattle.stripe_check.specs.Reports.{dirty_line, dirty_text, absent_text, summary_in, summary_of, report_of}
use Rattle.stripe_check.specs.Tallies.{untold, tally_of}
use Rattle.stripe_check.specs.Sums.{unit_bytes, unit_on, sum_of, has_absent, is_balanced, parts_on}
use Rattle.stripe_check.proofs.Counting.{same-filter, same-any, same-flat_map}

-- ---- units

any-is : (s : Setting) (past : List Entry) (lost : List ℕ) (made : List (List ℕ)) → AreLosses s past past lost made → (k : ℕ) → k < stripes_of s.geometry →
    any_lost lost made s.geometry.targets k ≡ has_absent s past k
any-is s past lost made losses k lt = same-any _ _ 0 s.geometry.targets (λ i h. losses.absent i k (omega arith) lt)

parts-from : (kept : List (List ℕ)) (h : ℕ → List ℕ) (a at len : ℕ) → ((i : ℕ) → i < length kept → get_or kept i [] ≡ h (a + i)) →
    parts_on at len kept ≡ map (λ i. slice (h i) at len) (numbers a (length kept))
parts-from [] h a at len each = refl
parts-from (m ∷ kept) h a at len each =
    let first : m ≡ h a = each 0 (omega arith) ∙ ap h (omega arith) in
    let rest = parts-from kept h (suc a) at len (λ i lt. each (suc i) (omega arith) ∙ ap h (omega arith)) in
    rw (first, rest) refl

pub sum-is : (s : Setting) (past : List Entry) (kept : List (List ℕ)) → AreMedia s past kept → (k : ℕ) →
    xor_all (unit_bytes s.geometry k) (parts_on (first_row s.geometry k * s.geometry.block) (unit_bytes s.geometry k) kept) ≡ sum_of s past k
sum-is s past kept are k =
    let count = are.count in
    let parts = parts-from kept (λ i. media s i past) 0 (first_row s.geometry k * s.geometry.block) (unit_bytes s.geometry k)
    (λ i lt. are.each i (omega arith) ∙ ap (λ n. media s n past) (omega arith)) in
    ap (λ ms. xor_all (unit_bytes s.geometry k) ms) (parts ∙ ap (λ n. map (unit_on s past k) (numbers 0 n)) count)

whole-is : (s : Setting) (past : List Entry) (kept : List (List ℕ)) (lost : List ℕ) (made : List (List ℕ)) → AreMedia s past kept → AreLosses s past past lost made →
    (k : ℕ) → k < stripes_of s.geometry → is_whole s.geometry kept lost made k ≡ is_balanced s past k
whole-is s past kept lost made are losses k lt =
    ap (λ b. not b && sums_to_zero s.geometry kept k) (any-is s past lost made losses k lt)
    ∙ ap (λ bytes. not (has_absent s past k) && is_zero bytes) (sum-is s past kept are k)

-- ---- listed stripes

dirty-is : (stripe : ℕ) (o : Option Task) → dirty_briefly stripe (option_map brief_of o) ≡ dirty_text stripe o
dirty-is stripe None = refl
dirty-is stripe (Some task) = refl

count-from : (past : List Entry) (listed : List (ℕ × ℕ)) → ((k : ℕ) → command_of k listed ≡ listed_for k past) → (a n : ℕ) →
    length (filter (λ stripe. is_some (command_of stripe listed)) (numbers a n)) ≡ length (filter_map (λ stripe. dirty_stripe stripe (listed_for stripe past)) (numbers a n))
count-from past listed each a zero = refl
count-from past listed each a (suc n) = by (listed_for a past) refl (count-from past listed each (suc a) n)
  where
    by : (o : Option ℕ) → listed_for a past ≡ o →
        length (filter (λ stripe. is_some (command_of stripe listed)) (numbers (suc a) n)) ≡ length (filter_map (λ stripe. dirty_stripe stripe (listed_for stripe past)) (numbers (suc a) n)) →
        length (filter (λ stripe. is_some (command_of stripe listed)) (numbers a (suc n))) ≡ length (filter_map (λ stripe. dirty_stripe stripe (listed_for stripe past)) (numbers a (suc n)))
    by None here rest = rw (each a, here) rest
    by (Some c) here rest = rw (each a, here) (ap suc rest)

lines-from : (past : List Entry) (kept : List CommandSummary) → AreCommands past kept → (listed : List (ℕ × ℕ)) → ((k : ℕ) → command_of k listed ≡ listed_for k past) → (a n : ℕ) →
    flat_map (λ stripe. listed_line kept stripe (command_of stripe listed)) (numbers a n)
    ≡ flat_map (dirty_line past) (filter_map (λ stripe. dirty_stripe stripe (listed_for stripe past)) (numbers a n))
lines-from past kept are listed each a zero = refl
lines-from past kept are listed each a (suc n) = by (listed_for a past) refl (lines-from past kept are listed each (suc a) n)
  where
    by : (o : Option ℕ) → listed_for a past ≡ o →
        flat_map (λ stripe. listed_line kept stripe (command_of stripe listed)) (numbers (suc a) n)
        ≡ flat_map (dirty_line past) (filter_map (λ stripe. dirty_stripe stripe (listed_for stripe past)) (numbers (suc a) n)) →
        flat_map (λ stripe. listed_line kept stripe (command_of stripe listed)) (numbers a (suc n))
        ≡ flat_map (dirty_line past) (filter_map (λ stripe. dirty_stripe stripe (listed_for stripe past)) (numbers a (suc n)))
    by None here rest = rw (each a, here) rest
    by (Some c) here rest =
        let line : dirty_briefly a (get_or kept c unknown).brief ≡ dirty_text a (task_of c past) = ap (λ (k : CommandSummary). dirty_briefly a k.brief) (are.each c) ∙ dirty-is a (task_of c past) in
        rw (each a, here)
        (ap (λ xs. xs ++ flat_map (λ stripe. listed_line kept stripe (command_of stripe listed)) (numbers (suc a) n)) line ∙ ap (λ xs. dirty_text a (task_of c past) ++ xs) rest)

-- ---- all of it

assembled : (count stripes z z' l l' a a' : ℕ) (d d' u u' : List ℕ) → z ≡ z' → l ≡ l' → a ≡ a' → d ≡ d' → u ≡ u' →
    entries_text count ++ (counts_line stripes z l a ++ (d ++ u)) ≡ entries_text count ++ (counts_line stripes z' l' a' ++ (d' ++ u'))
assembled count stripes z z' l l' a a' d d' u u' p q r t v =
    ap (λ n. entries_text count ++ (counts_line stripes n l a ++ (d ++ u))) p
    ∙ ap (λ n. entries_text count ++ (counts_line stripes z' n a ++ (d ++ u))) q
    ∙ ap (λ n. entries_text count ++ (counts_line stripes z' l' n ++ (d ++ u))) r
    ∙ ap (λ xs. entries_text count ++ (counts_line stripes z' l' a' ++ (xs ++ u))) t
    ∙ ap (λ xs. entries_text count ++ (counts_line stripes z' l' a' ++ (d' ++ xs))) v

pub summary-is : (s : Setting) (past : List Entry) (kept : List (List ℕ)) (commands : List CommandSummary) (listed : List (ℕ × ℕ)) (lost : List ℕ) (made : List (List ℕ)) →
    AreMedia s past kept → AreCommands past commands → AreListed past listed → AreLosses s past past lost made →
    summary_found s.geometry (length past) kept commands listed lost made ≡ summary_in s past
summary-is s past kept commands listed lost made are known dirt losses =
    assembled (length past) (stripes_of s.geometry) _ _ _ _ _ _ _ _ _ _
    (ap length (same-filter _ _ 0 (stripes_of s.geometry) (λ k lt. whole-is s past kept lost made are losses k (omega arith))))
    (count-from past listed dirt.each 0 (stripes_of s.geometry))
    (ap length (same-filter _ _ 0 (stripes_of s.geometry) (λ k lt. any-is s past lost made losses k (omega arith))))
    (lines-from past commands known listed dirt.each 0 (stripes_of s.geometry))
    (same-flat_map _ _ 0 s.geometry.targets (λ i lt. ap (λ n. absent_text i n)
    (ap length (same-filter _ _ 0 (stripes_of s.geometry) (λ k lt2. losses.absent i k (omega arith) (omega arith))))))

-- ---- answers

pub replies-are : (g : Geometry) (past : List Entry) (reads : List (List ℕ)) (failures : List (Option Failure)) (tallies : List Tally) →
    AreReads g past reads → AreFailures past failures → AreTallies past tallies →
    (n : ℕ) (calls : List Call) → n + length calls ≤ length reads → n + length calls ≤ length failures → n + length calls ≤ length tallies →
    replies_found reads failures tallies n calls ≡ reply_lines g past (n + 1) calls
replies-are g past reads failures tallies read failed tallied n [] le le2 le3 = refl
replies-are g past reads failures tallies read failed tallied n (call ∷ calls) le le2 le3 =
    let told : get_or reads n [] ≡ bytes_read g (n + 1) past = read.each n (omega arith) in
    let why : get_or failures n None ≡ failure_of (n + 1) past = failed.each n (omega arith) in
    let tally : get_or tallies n untold ≡ tally_of (n + 1) past = tallied.each n (omega arith) in
    rw (told, why, tally) (ap (λ xs. answer_line (n + 1) call (bytes_read g (n + 1) past) (failure_of (n + 1) past) (tally_of (n + 1) past) ++ xs)
    (replies-are g past reads failures tallies read failed tallied (n + 1) calls (omega arith) (omega arith) (omega arith)))

-- ---- texts

pub summary-text : (script : Script) (journal : List Entry) (s : Setting) (calls entries : ℕ) (kept : List (List ℕ)) (story : Story) (losses : Losses) (start text : List ℕ) →
    s ≡ setting_of script → IsFound s calls (reverse journal) kept story losses → entries ≡ length journal → start ≡ [] →
    text ≡ start ++ summary_found s.geometry entries kept story.commands.items story.listed losses.lost.items losses.made.items →
    text ≡ summary_of script journal
unfolding summary_of
summary-text script journal s calls entries kept story losses start text set found count nothing said =
    let here : entries ≡ length (reverse journal) = count ∙ sym (length-reverse journal) in
    said
    ∙ ap (λ xs. xs ++ summary_found s.geometry entries kept story.commands.items story.listed losses.lost.items losses.made.items) nothing
    ∙ ap (λ n. summary_found s.geometry n kept story.commands.items story.listed losses.lost.items losses.made.items) here
    ∙ summary-is s (reverse journal) kept story.commands.items story.listed losses.lost.items losses.made.items
    found.stands found.told.commands found.told.dirty found.lost
    ∙ ap (λ (t : Setting). summary_in t (reverse journal)) set

pub report-text : (script : Script) (journal : List Entry) (s : Setting) (calls entries : ℕ) (kept : List (List ℕ)) (story : Story) (losses : Losses) (start first text : List ℕ) →
    s ≡ setting_of script → IsFound s calls (reverse journal) kept story losses → calls ≡ length script.calls → entries ≡ length journal → start ≡ [] →
    first ≡ start ++ replies_found story.reads.items story.failures.items story.tallies.items 0 script.calls →
    text ≡ first ++ summary_found s.geometry entries kept story.commands.items story.listed losses.lost.items losses.made.items →
    text ≡ report_of script journal
unfolding report_of summary_of
report-text script journal s calls entries kept story losses start first text set found number count nothing answered said =
    let replies = replies-are script.geometry (reverse journal) story.reads.items story.failures.items story.tallies.items
    (found.told.read script.geometry) found.told.failed found.told.tallied 0 script.calls
    (omega (arith, found.told.read_count)) (omega (arith, found.told.failed_count)) (omega (arith, found.told.tallied_count)) in
    let lines = answered ∙ ap (λ xs. xs ++ replies_found story.reads.items story.failures.items story.tallies.items 0 script.calls) nothing ∙ replies in
    let rest = summary-text script journal s calls entries kept story losses []
    (summary_found s.geometry entries kept story.commands.items story.listed losses.lost.items losses.made.items) set found count refl refl in
    said
    ∙ ap (λ xs. xs ++ summary_found s.geometry entries kept story.commands.items story.listed losses.lost.items losses.made.items) lines
    ∙ ap (λ xs. reply_lines script.geometry (reverse journal) 1 script.calls ++ xs) rest
