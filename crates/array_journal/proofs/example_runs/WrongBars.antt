-- Entries that are wrong in one place may not follow.
use Rattle.std.specs.Prelude.{◌≡◌, ◌&&◌, nat_lt, nat_le, ℕ, ◌+◌, Bool, true, false, length, if◌then◌else◌}
use Rattle.std.proofs.Common.{refl, ap, sym, ◌∙◌, subst}
use Rattle.array_journal.specs.declared.at.At.{At}
use Rattle.array_journal.specs.declared.event.Event.TheVariants.{Put}
use Rattle.array_journal.specs.declared.event.Why.TheVariants.{Medium, NotReady}
use Rattle.array_journal.specs.declared.task.Kind.{Kind}
use Rattle.array_journal.specs.declared.task.Kind.TheVariants.{Update, DataOnly, DegradedWrite}
use Rattle.array_journal.specs.declared.task.Task.{Task}
use Rattle.array_journal.specs.declared.act.Act.TheVariants.{Puts}
use Rattle.array_journal.specs.Acts.{acts_at, task_bytes}
use Rattle.array_journal.specs.declared.decision.Decision.TheVariants.{Opens, Refuses}
use Rattle.array_journal.specs.Decision.{decision, want_of, missing_count}
use Rattle.array_journal.specs.Listed.{is_listed}
use Rattle.array_journal.specs.Lives.{is_missing}
use Rattle.stripe_layout.specs.Layout.{parity_of}
use Rattle.array_journal.specs.Media.{rows_on}
use Rattle.array_journal.specs.Entries.{entry_at}
use Rattle.array_journal.specs.May.{IsFoldSource}
use Rattle.array_journal.specs.ExampleJournals.{small, at, read_task}
use Rattle.array_journal.specs.Wrong.{taken_out, reading, FoldsTheTaken, OneDiff, UpdatesApart, FetchesWhatStands, RewriteOwesZeros, UpdatesPutNothing, DataAloneWantsParityLost, ShutBarsTheFold}
use Rattle.array_journal.proofs.runs.Standing.{may-here}
use Rattle.std.proofs.lemmas.Bool.{and_parts}
use Rattle.stripe_layout.specs.declared.mode.Mode.{Mode}

pub folds-the_taken : FoldsTheTaken
folds-the_taken diff take fold stamp bytes (later, (below, (task, (name, may)))) =
    let same : at 3 1 ≡ name = cc (may.one) in
    let P : At → Type 0 = λ n. IsFoldSource small (taken_out diff take) 0 task n bytes (entry_at n (taken_out diff take)) in
    let source : P (at 3 1) = subst P (sym same) may.source in
    sym source.1

pub one-diff : OneDiff
one-diff diff again stamp row bytes (later, (below, (task, may))) =
    let once : true ≡ false = may.act.once in
    cc

pub updates-apart : UpdatesApart
updates-apart diff stamp command call bytes (later, may) =
    let alone : true ≡ false = may.alone in
    cc

pub fetches-what_stands : FetchesWhatStands
fetches-what_stands diff take fold fetch stamp bytes (later, (below, (task, may))) =
    let same : read_task ≡ task = cc (may.act.opening.0) in
    let whole : length bytes ≡ 8 = may.act.whole ∙ ap (λ (t : Task). task_bytes small t) (sym same) in
    let row : 0 ≡ task.row = ap (λ (t : Task). t.row) same in
    may.read ∙ ap (λ n. rows_on small 0 (reading diff take fold) 0 n) whole

pub rewrite-owes_zeros : RewriteOwesZeros
rewrite-owes_zeros diff take fold again out = (refl, refl)

-- no update puts
puts-none : (mode : Mode) (kind : Kind) (task : Task) (i : ℕ) → kind ≡ Update → acts_at mode Puts kind task i ≡ true → ⊥
puts-none mode kind task i h k =
    let none : false ≡ true = subst (λ (x : Kind). acts_at mode Puts x task i ≡ true) h k in
    cc

pub updates-put_nothing : UpdatesPutNothing
updates-put_nothing s past task stamp i c row opened cdb bytes names opening update (below, m) =
    let (own, may) = may-here s past stamp (i + 1) i (Put c opened cdb row bytes names) refl m in
    let same : task ≡ own = cc (opening, may.act.opening.0) in
    let kind : own.kind ≡ Update = ap (λ (t : Task). t.kind) (sym same) ∙ update in
    puts-none s.mode own.kind own i kind
    (and_parts (nat_lt i s.geometry.targets) (acts_at s.mode Puts own.kind own i) may.act.of_task).1

-- of the ways in which a write is served, data alone is that of a missing parity unit
data_alone-lost : (listed two gone parity : Bool) →
    (if listed then Refuses Medium
    else if two then Refuses NotReady
    else if gone then Opens DegradedWrite
    else if parity then Opens DataOnly
    else Opens Update) ≡ Opens DataOnly → parity ≡ true
data_alone-lost true two gone parity h = cc
data_alone-lost false true gone parity h = cc
data_alone-lost false false true parity h = cc
data_alone-lost false false false true h = refl
data_alone-lost false false false false h = cc

pub data_alone-wants_parity_lost : DataAloneWantsParityLost
data_alone-wants_parity_lost s past task stamp c kind (below, may) =
    let P : Kind → Type 0 = λ k. decision s (want_of k) task.stripe task.target past ≡ Opens k in
    let decided : P DataOnly = subst P kind may.decided in
    data_alone-lost (is_missing task.target task.stripe past && is_listed task.stripe past) (nat_le 2 (missing_count s task.stripe past))
    (is_missing task.target task.stripe past) (is_missing (parity_of s.geometry task.stripe) task.stripe past) decided

pub shut-bars_the_fold : ShutBarsTheFold
shut-bars_the_fold diff fold stamp row opened bytes names (below, (inside, (task, (name, may)))) =
    let shut : true ≡ false = may.act.not_shut in
    cc
