-- Entries that may not follow, whatever they name.
use Rattle.std.specs.List.{AllByRecursion}
use Rattle.std.specs.Prelude.{◌≡◌, ◌==◌, ◌&&◌, ◌||◌, ℕ, ◌+◌, Bool, true, false, List, [], ◌∷◌, Some, None}
use Rattle.std.proofs.Common.{refl, ap, ◌∙◌, subst, cond}
use Rattle.sbc_cdbs.specs.declared.descriptor.Cdb.{Cdb}
use Rattle.array_journal.specs.declared.at.At.{At}
use Rattle.array_journal.specs.declared.entry.Entry.{Entry}
use Rattle.array_journal.specs.declared.event.Event.{Event}
use Rattle.array_journal.specs.declared.event.Event.TheVariants.{Diff, Take, Open}
use Rattle.array_journal.specs.declared.task.Kind.TheVariants.{Update, Rebuild}
use Rattle.array_journal.specs.declared.task.Task.{Task}
use Rattle.array_journal.specs.Entries.{name_of, same_at, entry_at}
use Rattle.array_journal.specs.declared.act.Act.{Act}
use Rattle.array_journal.specs.declared.act.Act.TheVariants.{Folds, Puts}
use Rattle.array_journal.specs.Acts.{has_act, is_act}
use Rattle.array_journal.specs.Lives.{swap_count}
use Rattle.array_journal.specs.May.{passes, is_named, is_loss_in}
use Rattle.array_journal.specs.ExampleJournals.{small, at, entry, block, write_task, rebuild_task, rebuilding, UnfoldedStaysOpen, UnputStaysOpen}

-- where no entry passes, no name's entry does
none_passes : (test : Event → Bool) (name : At) (past : List Entry) → AllByRecursion (λ (e : Entry). test e.event ≡ false) past →
    passes test (entry_at name past) ≡ false
none_passes test name [] h = refl
none_passes test name (e ∷ past) h = by_case (same_at name (name_of e)) h.0 (none_passes test name past h.1)
  where
    by_case : (b : Bool) → test e.event ≡ false → passes test (entry_at name past) ≡ false →
        passes test (cond b (Some e.event) (entry_at name past)) ≡ false
    by_case true here rest = here
    by_case false here rest = rest

pub none_named : (past : List Entry) (c : ℕ) (act : Act) (i : ℕ) (names : List At) → AllByRecursion (λ (e : Entry). is_act act c e.event ≡ false) past →
    is_named past c act i names ≡ false
none_named past c act i [] h = refl
none_named past c act i (name ∷ names) h =
    ap (λ b. ((name.lock == i + 1) && b) || is_named past c act i names) (none_passes (is_act act c) name past h)
    ∙ neither (name.lock == i + 1) (is_named past c act i names) (none_named past c act i names h)
  where
    neither : (a b : Bool) → b ≡ false → ((a && false) || b) ≡ false
    neither true b k = k
    neither false b k = k

both_ways : (b : Bool) → b ≡ false → b ≡ true → ⊥
both_ways b h k = cc

abbrev update_taken : Cdb → Cdb → List Entry
update_taken diff take =
    entry 3 1 (Take 0 (at 1 0) take 0 block) ∷ entry 2 1 (Diff 0 (at 1 0) diff 0 block false false false) ∷ entry 1 0 (Open 0 write_task) ∷ []

pub unfolded-stays_open : UnfoldedStaysOpen
unfolded-stays_open diff take stamp names None bytes (later, (task, (open_with, close))) =
    let same : write_task ≡ task = cc (open_with.1) in
    let has : has_act small Folds task 2 ≡ true = subst (λ (t : Task). has_act small Folds t 2 ≡ true) same refl in
    both_ways (is_named (update_taken diff take) 0 Folds 2 names)
    (none_named (update_taken diff take) 0 Folds 2 names (refl, (refl, (refl, tt)))) (close.folds 2 has)
unfolded-stays_open diff take stamp names (Some cause) bytes (later, (task, (open_with, close))) =
    both_ways (passes (is_loss_in (swap_count task.parity (update_taken diff take))) (entry_at cause (update_taken diff take)))
    (none_passes (is_loss_in (swap_count task.parity (update_taken diff take))) cause (update_taken diff take) (refl, (refl, (refl, tt))))
    close.parity_lost.lost.0

pub unput-stays_open : UnputStaysOpen
unput-stays_open second third stamp names None bytes (later, (task, (open_with, close))) =
    let same : rebuild_task ≡ task = cc (open_with.1) in
    let has : has_act small Puts task 0 ≡ true = subst (λ (t : Task). has_act small Puts t 0 ≡ true) same refl in
    both_ways (is_named (rebuilding second third) 0 Puts 0 names)
    (none_named (rebuilding second third) 0 Puts 0 names (refl, (refl, (refl, (refl, (refl, (refl, (refl, tt)))))))) (close.acts.puts 0 has)
unput-stays_open second third stamp names (Some cause) bytes (later, (task, (open_with, close))) =
    let same : rebuild_task ≡ task = cc (open_with.1) in
    let kind : Rebuild ≡ task.kind = ap (λ (t : Task). t.kind) same in
    let update : task.kind ≡ Update = close.update in
    cc
