-- Where the report ends in what is printed of a run.
use Rattle.std.proofs.Common.{◌≡◌, ℕ, ◌+◌, ◌/◌, ◌%◌, ◌==◌, not, cond, Bool, true, false, List, [], ◌∷◌, ◌++◌, length, drop, reverse, Option, Some, None, refl, ap, ◌∙◌, append_assoc, length-append, arith}
use Rattle.std.specs.Prelude.{codes}
use Rattle.std.specs.List.{flat_map}
use Rattle.std.specs.Fmt.{decimal}
use Rattle.std.proofs.lemmas.Bool.{and_from, ne_eqb}
use Rattle.std.proofs.lemmas.Bool.Decides.{nat_tests}
use Rattle.std.proofs.lemmas.List.{drop_at}
use Rattle.array_journal.specs.declared.entry.Entry.{Entry}
use Rattle.array_journal.specs.declared.setting.Setting.{Setting}
use Rattle.array_journal.specs.declared.task.Task.{Task}
use Rattle.array_journal.specs.Commands.{task_of}
use Rattle.array_journal.specs.Listed.{dirty}
use Rattle.array_journal.specs.Lists.{numbers}
use Rattle.host_scripts.specs.declared.script.Script.{Script}
use Rattle.host_scripts.specs.declared.script.Call.{Call}
use Rattle.host_scripts.specs.declared.script.Action.{Action}
use Rattle.host_scripts.specs.declared.script.Action.TheVariants.{Read, Write, Fill, Raw, Lose, Reset, DropNext, Replace, Rebuild, Resync}
use Rattle.stripe_layout.specs.declared.geometry.Geometry.{Geometry}
use Rattle.stripe_layout.specs.Layout.{stripes_of}
use Rattle.text_fields.specs.Spelling.{line, nibble, hex, upper_nibble, upper_byte, counted}
use Rattle.host_scripts.specs.Scripts.{letter}
use Rattle.text_fields.specs.Laws.{lacks}
use Rattle.text_fields.proofs.Cuts.{lacks-append}
use Rattle.stripe_check.specs.declared.command_summary.Tally.{Tally}
use Rattle.answer_text.specs.declared.check.Check.{Check}
use Rattle.stripe_check.specs.declared.failure.Failure.{Failure}
use Rattle.stripe_check.specs.Tallies.{tally_of}
use Rattle.answer_text.specs.Answers.{byte_text, check_text, good_text}
use Rattle.stripe_check.specs.Replies.{host_text, failure_check, replaced_text, tally_text, reply_text, read_error, write_error, cdb_error, reply_line, reply_lines, bytes_read, failure_of}
use Rattle.stripe_check.specs.Sums.{stripes_that, has_absent, is_balanced, absent_units}
use Rattle.host_requests.specs.Settings.{setting_of}
use Rattle.stripe_check.specs.Reports.{entries_line, stripes_line, dirty_text, dirty_line, absent_text, absent_line, summary_of, report_of}
use Rattle.journal_text.specs.Traces.{field, event_text, entry_line, trace_of}
use Rattle.trace_check.specs.declared.checking.parting.LineStart.TheVariants as starts
use Rattle.trace_check.specs.Inputs.{place_from, place_or, behind_stripes, trace_place}
use Rattle.trace_check.proofs.parting.PassedLines.{Passes, none-passes, both-pass, each-passes, line-goes, line-passes, leads, leads-append, decimal-lacks, decimal-leads, digit-no-stripes, digit-is-trace}

-- ---- replies

nibble-lacks : (n : ℕ) → (nibble n == 10) ≡ false
nibble-lacks n = grind (arith, nat_tests)

upper-lacks : (n : ℕ) → (upper_nibble n == 10) ≡ false
upper-lacks n = grind (arith, nat_tests)

hex-lacks : (bytes : List ℕ) → lacks 10 (hex bytes) ≡ true
hex-lacks [] = refl
hex-lacks (b ∷ bytes) = rw (nibble-lacks (b / 16), nibble-lacks (b % 16), hex-lacks bytes) refl

byte-lacks : (byte : Option ℕ) → lacks 10 (byte_text byte) ≡ true
byte-lacks None = refl
byte-lacks (Some n) = lacks-append 10 (codes " byte ") (decimal n) refl (decimal-lacks n)

upper-byte-lacks : (b : ℕ) → lacks 10 (upper_byte b) ≡ true
upper-byte-lacks b = rw (upper-lacks (b / 16), upper-lacks (b % 16)) refl

check-lacks : (c : Check) → lacks 10 (check_text c) ≡ true
check-lacks c =
    let last : lacks 10 (upper_byte c.ascq ++ byte_text c.byte) ≡ true = lacks-append 10 (upper_byte c.ascq) (byte_text c.byte) (upper-byte-lacks c.ascq) (byte-lacks c.byte) in
    let code : lacks 10 (upper_byte c.asc ++ (47 ∷ (upper_byte c.ascq ++ byte_text c.byte))) ≡ true = lacks-append 10 (upper_byte c.asc) (47 ∷ (upper_byte c.ascq ++ byte_text c.byte)) (upper-byte-lacks c.asc) last in
    let key : not (upper_nibble c.key == 10) ≡ true = ap not (upper-lacks c.key) in
    let all : lacks 10 (upper_nibble c.key ∷ 32 ∷ (upper_byte c.asc ++ (47 ∷ (upper_byte c.ascq ++ byte_text c.byte)))) ≡ true =
    and_from (not (upper_nibble c.key == 10)) (lacks 10 (32 ∷ (upper_byte c.asc ++ (47 ∷ (upper_byte c.ascq ++ byte_text c.byte))))) key code in
    lacks-append 10 (codes "check ") (upper_nibble c.key ∷ 32 ∷ (upper_byte c.asc ++ (47 ∷ (upper_byte c.ascq ++ byte_text c.byte)))) refl all

good-lacks : (bytes : List ℕ) → lacks 10 (good_text bytes) ≡ true
good-lacks [] = refl
good-lacks (b ∷ bytes) = lacks-append 10 (codes "good ") (hex (b ∷ bytes)) refl (hex-lacks (b ∷ bytes))

host-lacks : (medium : Check) (bytes : List ℕ) (failure : Option Failure) → lacks 10 (host_text medium bytes failure) ≡ true
host-lacks medium bytes None = good-lacks bytes
host-lacks medium bytes (Some failure) = check-lacks (failure_check medium failure)

counted-lacks : (word : List ℕ) (n : ℕ) (rest : List ℕ) → lacks 10 word ≡ true → lacks 10 rest ≡ true → lacks 10 (counted word n rest) ≡ true
counted-lacks word n rest h k = lacks-append 10 word (32 ∷ (decimal n ++ rest)) h (lacks-append 10 (decimal n) rest (decimal-lacks n) k)

tally-lacks : (t : Tally) → lacks 10 (tally_text t) ≡ true
tally-lacks t = counted-lacks (codes "done") t.done (32 ∷ decimal t.left) refl (decimal-lacks t.left)

replaced-lacks : (failure : Option Failure) → lacks 10 (replaced_text failure) ≡ true
replaced-lacks None = refl
replaced-lacks (Some failure) = refl

reply-lacks : (action : Action) (bytes : List ℕ) (failure : Option Failure) (tally : Tally) → lacks 10 (reply_text action bytes failure tally) ≡ true
reply-lacks (Read lba count) bytes failure tally = host-lacks read_error bytes failure
reply-lacks (Write lba sent) bytes failure tally = host-lacks write_error bytes failure
reply-lacks (Fill lba count byte) bytes failure tally = host-lacks write_error bytes failure
reply-lacks (Raw cdb sent) bytes failure tally = host-lacks (cdb_error cdb) bytes failure
reply-lacks (Lose target) bytes failure tally = refl
reply-lacks (Reset target) bytes failure tally = refl
reply-lacks (DropNext target) bytes failure tally = refl
reply-lacks (Replace target) bytes failure tally = replaced-lacks failure
reply-lacks (Rebuild target) bytes failure tally = tally-lacks tally
reply-lacks Resync bytes failure tally = tally-lacks tally

-- a line that begins with a number
numbered-passes : (n : ℕ) (text : List ℕ) → lacks 10 text ≡ true → Passes starts.Stripes (line (decimal n ++ text))
numbered-passes n text h =
    line-passes starts.Stripes (decimal n ++ text) (lacks-append 10 (decimal n) text (decimal-lacks n) h)
    (λ rest. digit-no-stripes (line (decimal n ++ text) ++ rest) (leads-append (line (decimal n ++ text)) rest (leads-append (decimal n ++ text) (10 ∷ []) (leads-append (decimal n) text (decimal-leads n)))))

answer-lacks : (host : ℕ) (text : List ℕ) → lacks 10 text ≡ true → lacks 10 (32 ∷ letter host ∷ 32 ∷ text) ≡ true
answer-lacks host text h =
    let other : ((65 + host) == 10) ≡ false = ne_eqb (65 + host) 10 (λ e. omega (arith, e)) in
    rw (other, h) refl

replies-pass : (g : Geometry) (past : List Entry) (n : ℕ) (calls : List Call) → Passes starts.Stripes (reply_lines g past n calls)
replies-pass g past n [] = none-passes starts.Stripes
replies-pass g past n (call ∷ calls) =
    let text = reply_text call.action (bytes_read g n past) (failure_of n past) (tally_of n past) in
    let one = numbered-passes n (32 ∷ letter call.host ∷ 32 ∷ text) (answer-lacks call.host text (reply-lacks call.action (bytes_read g n past) (failure_of n past) (tally_of n past))) in
    both-pass starts.Stripes (reply_line g past n call) (reply_lines g past (n + 1) calls) one (replies-pass g past (n + 1) calls)

entries-pass : (past : List Entry) → Passes starts.Stripes (entries_line past)
entries-pass past = line-passes starts.Stripes (counted (codes "entries") (length past) []) (counted-lacks (codes "entries") (length past) [] refl refl) (λ rest. refl)

-- ---- the summary

dirty-text-passes : (stripe : ℕ) (task : Option Task) → Passes starts.Trace (dirty_text stripe task)
dirty-text-passes stripe None = none-passes starts.Trace
dirty-text-passes stripe (Some task) =
    let last = counted-lacks (codes " piece") task.piece [] refl refl in
    let more = counted-lacks (codes " call") task.call (counted (codes " piece") task.piece []) refl last in
    line-passes starts.Trace (counted (codes "dirty") stripe (counted (codes " call") task.call (counted (codes " piece") task.piece []))) (counted-lacks (codes "dirty") stripe (counted (codes " call") task.call (counted (codes " piece") task.piece [])) refl more) (λ rest. refl)

absent-text-passes : (i units : ℕ) → Passes starts.Trace (absent_text i units)
absent-text-passes i units = by-test (units == 0)
  where
    by-test : (b : Bool) → Passes starts.Trace (cond b [] (line (counted (codes "absent") i (counted (codes " units") units []))))
    by-test true = none-passes starts.Trace
    by-test false = line-passes starts.Trace (counted (codes "absent") i (counted (codes " units") units [])) (counted-lacks (codes "absent") i (counted (codes " units") units []) refl (counted-lacks (codes " units") units [] refl refl)) (λ rest. refl)

-- what a report has behind its count of stripes
abbrev listed-lines : Setting → List Entry → List ℕ
listed-lines s past = flat_map (dirty_line past) (dirty s past) ++ flat_map (absent_line s past) (numbers 0 s.geometry.targets)

listed-pass : (s : Setting) (past : List Entry) → Passes starts.Trace (listed-lines s past)
listed-pass s past =
    both-pass starts.Trace (flat_map (dirty_line past) (dirty s past)) (flat_map (absent_line s past) (numbers 0 s.geometry.targets))
    (each-passes starts.Trace (dirty_line past) (dirty s past) (λ d. dirty-text-passes d.stripe (task_of d.command past)))
    (each-passes starts.Trace (absent_line s past) (numbers 0 s.geometry.targets) (λ i. absent-text-passes i (absent_units s past i)))

abbrev stripes-text : Setting → List Entry → List ℕ
stripes-text s past =
    counted (codes "stripes") (stripes_of s.geometry)
    (counted (codes " zero") (stripes_that s (is_balanced s past))
    (counted (codes " listed") (length (dirty s past))
    (counted (codes " absent") (stripes_that s (has_absent s past)) [])))

stripes-lack : (s : Setting) (past : List Entry) → lacks 10 (stripes-text s past) ≡ true
stripes-lack s past =
    let a = counted-lacks (codes " absent") (stripes_that s (has_absent s past)) [] refl refl in
    let l = counted-lacks (codes " listed") (length (dirty s past)) _ refl a in
    let z = counted-lacks (codes " zero") (stripes_that s (is_balanced s past)) _ refl l in
    counted-lacks (codes "stripes") (stripes_of s.geometry) _ refl z

stripes-found : (s : Setting) (past : List Entry) (rest : List ℕ) (place : ℕ) → place_from starts.Stripes place true (stripes_line s past ++ rest) ≡ Some place
stripes-found s past rest place = refl

-- the trace begins where its first line does, or at the end
trace-found : (journal : List Entry) (place end : ℕ) → end ≡ place + length (trace_of journal) → place_or end (place_from starts.Trace place true (trace_of journal)) ≡ place
unfolding trace_of
trace-found [] place end e = omega (arith, e)
trace-found (entry ∷ journal) place end e =
    begun (trace_of (entry ∷ journal)) (leads-append (entry_line entry) (flat_map entry_line journal) (leads-append (decimal entry.stamp ++ (field (decimal entry.lock) ++ field (event_text entry.event))) (10 ∷ []) (leads-append (decimal entry.stamp) (field (decimal entry.lock) ++ field (event_text entry.event)) (decimal-leads entry.stamp))))
  where
    begun : (bytes : List ℕ) → leads bytes ≡ true → place_or end (place_from starts.Trace place true bytes) ≡ place
    begun [] h = absurd cc
    begun (b ∷ bytes) h = ap (λ (t : Bool). place_or end (cond t (Some place) (place_from starts.Trace (place + 1) (b == 10) bytes))) (digit-is-trace (b ∷ bytes) h)

-- a head without a count of stripes, that count, lines of what is listed, and a trace
parted-at : (head stripes lines trace : List ℕ) → Passes starts.Stripes head → ((place : ℕ) (rest : List ℕ) → place_from starts.Stripes place true (line stripes ++ rest) ≡ Some place) → lacks 10 stripes ≡ true → Passes starts.Trace lines
    → ((place end : ℕ) → end ≡ place + length trace → place_or end (place_from starts.Trace place true trace) ≡ place)
    → trace_place (head ++ (line stripes ++ (lines ++ trace))) ≡ length head + length (line stripes) + length lines
parted-at head stripes lines trace before count clean listed found =
    let output = head ++ (line stripes ++ (lines ++ trace)) in
    let at = 0 + length head in
    let same : 0 + length head ≡ length head = omega arith in
    let first : place_from starts.Stripes 0 true output ≡ Some (length head) = before 0 (line stripes ++ (lines ++ trace)) ∙ count at (lines ++ trace) ∙ ap (λ (k : ℕ). Some k) same in
    let behind : drop (length head) output ≡ line stripes ++ (lines ++ trace) = drop_at head (line stripes ++ (lines ++ trace)) (length head) refl in
    let place = length head + length (line stripes) + length lines in
    let walk : place_from starts.Trace (length head) false (line stripes ++ (lines ++ trace)) ≡ place_from starts.Trace place true trace =
    line-goes starts.Trace stripes (lines ++ trace) (length head) clean ∙ listed (length head + length (line stripes)) trace in
    let all : length output ≡ length head + (length (line stripes) + (length lines + length trace)) =
    length-append head (line stripes ++ (lines ++ trace)) ∙ ap (λ (k : ℕ). length head + k) (length-append (line stripes) (lines ++ trace) ∙ ap (λ (k : ℕ). length (line stripes) + k) (length-append lines trace)) in
    let end : length output ≡ place + length trace = omega (arith, all) in
    ap (λ (o : Option ℕ). behind_stripes output o) first
    ∙ ap (λ (t : List ℕ). place_or (length output) (place_from starts.Trace (length head) false t)) behind
    ∙ ap (λ (o : Option ℕ). place_or (length output) o) walk
    ∙ found place (length output) end

grouped : (a b c d t : List ℕ) → (a ++ (b ++ (c ++ d))) ++ t ≡ (a ++ b) ++ (c ++ (d ++ t))
grouped a b c d t = simp append_assoc refl

joined-length : (a b c d : List ℕ) → length (a ++ b) + length c + length d ≡ length (a ++ (b ++ (c ++ d)))
joined-length a b c d =
    let x = length-append a b in
    let y = length-append c d in
    let z = length-append b (c ++ d) in
    let w = length-append a (b ++ (c ++ d)) in
    omega (arith, x, y, z, w)

pub report-parted : (script : Script) (journal : List Entry) → trace_place (report_of script journal ++ trace_of journal) ≡ length (report_of script journal)
unfolding report_of summary_of
report-parted script journal =
    let s = setting_of script in
    let past = reverse journal in
    let replies = reply_lines script.geometry past 1 script.calls in
    let entries = entries_line past in
    ap trace_place (grouped replies entries (stripes_line s past) (listed-lines s past) (trace_of journal))
    ∙ parted-at (replies ++ entries) (stripes-text s past) (listed-lines s past) (trace_of journal) (both-pass starts.Stripes replies entries (replies-pass script.geometry past 1 script.calls) (entries-pass past))
    (λ place rest. stripes-found s past rest place) (stripes-lack s past) (listed-pass s past) (trace-found journal)
    ∙ joined-length replies entries (stripes_line s past) (listed-lines s past)
