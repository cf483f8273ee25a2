-- Updates in readback mode: the journal that was tried is a run, and what may not follow doesn't.
use Rattle.std.specs.Prelude.{◌≡◌, ◌==◌, nat_lt, ℕ, ◌+◌, Bool, true, false, List, [], ◌∷◌, Option, Some, None}
use Rattle.std.proofs.Common.{refl, sym, ap, subst, ◌∙◌, lit<, lit≤}
use Rattle.std.proofs.lemmas.Bool.{and_parts, false≢true}
use Rattle.stripe_layout.specs.declared.mode.Mode.{Mode}
use Rattle.stripe_layout.specs.declared.mode.Mode.TheVariants.{Readback}
use Rattle.stripe_layout.specs.Modes.{hands_delta_back}
use Rattle.sbc_cdbs.specs.declared.descriptor.Cdb.{Cdb}
use Rattle.array_journal.specs.declared.at.At.{At}
use Rattle.array_journal.specs.declared.entry.Entry.{Entry}
use Rattle.array_journal.specs.declared.event.Event.{Event}
use Rattle.array_journal.specs.declared.event.Event.TheVariants.{Diff, Take, Fold, Wiped, Close}
use Rattle.array_journal.specs.declared.event.What.TheVariants.{Buffers}
use Rattle.array_journal.specs.declared.task.Kind.{Kind}
use Rattle.array_journal.specs.declared.task.Kind.TheVariants.{Read, Update, DataOnly, DegradedRead, DegradedWrite, Rebuild, Resync}
use Rattle.array_journal.specs.declared.task.Task.{Task}
use Rattle.array_journal.specs.declared.act.Act.{Act}
use Rattle.array_journal.specs.declared.act.Act.TheVariants.{Fetches, Puts, Diffs, Takes, Folds, Holds}
use Rattle.array_journal.specs.Acts.{acts_at}
use Rattle.array_journal.specs.Entries.{entry_at}
use Rattle.xor_buffers.specs.declared.held.HeldBlocks.{HeldBlocks}
use Rattle.array_journal.specs.Media.{held_after}
use Rattle.array_journal.specs.May.{May, IsTask, IsFoldSource, NamesActs, AllNamed, is_named, is_under_way}
use Rattle.array_journal.specs.ExampleJournals.{at, entry, old_task}
use Rattle.array_journal.specs.Examples.{one_byte}
use Rattle.array_journal.specs.Readback.{tiny_readback, handed_back, HandedBackRuns, HandedBackIsNotHeld, HandsBackByMode, FoldsTheHandedBack, FoldsNothingElse, TakesNothing}
use Rattle.array_journal.proofs.calm.ActSteps.{all_named-none, all_named-one}
use Rattle.array_journal.proofs.runs.Steps.{held-quiet}
use Rattle.array_journal.proofs.runs.Standing.{may-here}

-- the journal up to its fold
abbrev fold_made : Cdb → Cdb → List Entry
fold_made diff fold = entry 4 3 (Fold 0 (at 1 0) fold 0 one_byte (at 2 1 ∷ [])) ∷ entry 3 1 (Wiped Buffers 2 []) ∷ handed_back diff

close-handed : (diff fold : Cdb) → May tiny_readback (fold_made diff fold) (entry 5 0 (Close 0 true (at 2 1 ∷ at 4 3 ∷ []) None []))
close-handed diff fold = (refl, (old_task, ((refl, refl), record { acts = acts; folds = one Folds 2 (λ i. refl) refl; no_cause = refl; answer = refl })))
  where
    none : (act : Act) → ((i : ℕ) → acts_at Readback act Update old_task i ≡ false) → AllNamed tiny_readback (fold_made diff fold) 0 old_task act (at 2 1 ∷ at 4 3 ∷ [])
    none act never = all_named-none tiny_readback (fold_made diff fold) 0 old_task act (at 2 1 ∷ at 4 3 ∷ []) Update Readback refl refl never

    one : (act : Act) (target : ℕ) → ((i : ℕ) → acts_at Readback act Update old_task i ≡ (i == target)) →
        is_named (fold_made diff fold) 0 act target (at 2 1 ∷ at 4 3 ∷ []) ≡ true → AllNamed tiny_readback (fold_made diff fold) 0 old_task act (at 2 1 ∷ at 4 3 ∷ [])
    one act target only named = all_named-one tiny_readback (fold_made diff fold) 0 old_task act (at 2 1 ∷ at 4 3 ∷ []) Update Readback target refl refl only named

    acts : NamesActs tiny_readback (fold_made diff fold) 5 0 old_task (at 2 1 ∷ at 4 3 ∷ [])
    acts = record {
      in_order = (refl, tt);
      only = ((refl, lit< tt), ((refl, lit< tt), tt));
      fetches = none Fetches (λ i. refl);
      puts = none Puts (λ i. refl);
      diffs = one Diffs 0 (λ i. refl) refl;
      takes = none Takes (λ i. refl);
      holds = none Holds (λ i. refl);
    }

handed_sound : IsTask tiny_readback old_task
handed_sound = record {
  in_array = lit< tt;
  parity = refl;
  target = lit< tt;
  some_rows = lit≤ tt;
  from_stripe = lit≤ tt;
  to_stripe = lit≤ tt;
  by_kind = ((λ e. cc), refl);
}

pub handed_back-runs : HandedBackRuns
handed_back-runs diff fold d f = (
  (refl, close-handed diff fold),
  (
    (refl, (refl, (lit< tt, (old_task, (at 2 1, record { act = record { opening = (refl, lit< tt); in_book = refl; of_task = refl; not_gone = refl; not_shut = refl; once = refl; same_life = refl; at_row = refl; whole = refl; spelt = f }; one = refl; at_source = refl; earlier = lit< tt; source = (refl, refl, refl) }))))),
    (
      (refl, (refl, (lit< tt, refl))),
      (
        (refl, (refl, (lit< tt, (old_task, record { act = record { opening = (refl, lit< tt); in_book = refl; of_task = refl; not_gone = refl; not_shut = refl; once = refl; same_life = refl; at_row = refl; whole = refl; spelt = d }; written = refl; sent_by_mode = refl; back_by_mode = refl; dropped_when_due = refl })))),
        (
          (tt, (refl, record { numbered = refl; sound = handed_sound; decided = refl; alone = refl; room = refl })),
          tt,
        ),
      ),
    ),
  ),
)

pub handed_back-not_held : HandedBackIsNotHeld
handed_back-not_held s past i stamp lock c row opened cdb bytes sent dropped =
    held-quiet s i (entry stamp lock (Diff c opened cdb row bytes sent dropped true)) past (λ m old. unheld m old sent)
  where
    unheld : (m : List ℕ) (old : List HeldBlocks) (b : Bool) → held_after s m (Diff c opened cdb row bytes b dropped true) old ≡ old
    unheld m old true = refl
    unheld m old false = refl

pub hands-back_by_mode : HandsBackByMode
hands-back_by_mode s past stamp i c row opened cdb bytes sent dropped mode (below, m) =
    let (task, may) = may-here s past stamp (i + 1) i (Diff c opened cdb row bytes sent dropped false) refl m in
    false≢true (may.back_by_mode ∙ ap hands_delta_back mode)

pub folds-the_handed_back : FoldsTheHandedBack
folds-the_handed_back diff fold stamp bytes (below, (inside, (task, (name, may)))) =
    let same : at 2 1 ≡ name = cc (may.one) in
    let its : old_task ≡ task = cc (may.act.opening.0) in
    let P : At → Task → Type 0 = λ n t. IsFoldSource tiny_readback (handed_back diff) 0 t n bytes (entry_at n (handed_back diff)) in
    let named : P (at 2 1) task = subst (λ n. P n task) (sym same) may.source in
    let source : P (at 2 1) old_task = subst (P (at 2 1)) (sym its) named in
    cc (source.2)

pub folds-nothing_else : FoldsNothingElse
folds-nothing_else s past stamp i c d row its_row opened its_opened name cdb its_cdb bytes its_bytes sent dropped mode stands (below, m) =
    let (task, (source, may)) = may-here s past stamp (i + 1) i (Fold c opened cdb row bytes (name ∷ [])) refl m in
    let same : name ≡ source = cc (may.one) in
    let named : IsFoldSource s past c task name bytes (entry_at name past) =
    subst (λ (n : At). IsFoldSource s past c task n bytes (entry_at n past)) (sym same) may.source in
    let there : IsFoldSource s past c task name bytes (Some (Diff d its_opened its_cdb its_row its_bytes sent dropped false)) =
    subst (λ (o : Option Event). IsFoldSource s past c task name bytes o) stands named in
    false≢true (sym (ap (λ (x : Mode). is_under_way x sent dropped false) mode) ∙ there.0)

takes-none : (kind : Kind) (task : Task) (i : ℕ) → acts_at Readback Takes kind task i ≡ true → ⊥
takes-none Read task i h = false≢true h
takes-none Update task i h = false≢true h
takes-none DataOnly task i h = false≢true h
takes-none DegradedRead task i h = false≢true h
takes-none DegradedWrite task i h = false≢true h
takes-none Rebuild task i h = false≢true h
takes-none Resync task i h = false≢true h

pub takes-nothing : TakesNothing
takes-nothing s past stamp i c row opened cdb bytes mode (below, m) =
    let (task, may) = may-here s past stamp (i + 1) i (Take c opened cdb row bytes) refl m in
    let due : acts_at s.mode Takes task.kind task i ≡ true =
    (and_parts (nat_lt i s.geometry.targets) (acts_at s.mode Takes task.kind task i) may.act.of_task).1 in
    takes-none task.kind task i (sym (ap (λ (x : Mode). acts_at x Takes task.kind task i) mode) ∙ due)
