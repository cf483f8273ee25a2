-- What a command that runs alone reads stands as it stood when the command was opened; and who owes parity a delta.
use Rattle.std.specs.Prelude.{◌≡◌, ◌==◌, ◌<◌, ℕ, ◌+◌, ◌-◌, Bool, true, false, List, [], ◌∷◌, map, Some}
use Rattle.std.specs.List.{AllByRecursion}
use Rattle.std.proofs.Common.{refl, ap, sym, ◌∙◌, subst, cond}
use Rattle.std.proofs.lemmas.Bool.{false≢true}
use Rattle.blocks_core.specs.Xor.{xor_all}
use Rattle.stripe_layout.specs.Layout.{parity_of, lba_at, IsRowOf}
use Rattle.array_journal.specs.declared.at.At.{At}
use Rattle.array_journal.specs.declared.entry.Entry.{Entry}
use Rattle.array_journal.specs.declared.event.Event.{Event}
use Rattle.array_journal.specs.declared.event.Event.TheVariants.{Open}
use Rattle.array_journal.specs.declared.setting.Setting.{Setting}
use Rattle.array_journal.specs.declared.task.Task.{Task}
use Rattle.blocks_core.specs.Lists.{block_at}
use Rattle.array_journal.specs.Lists.{numbers}
use Rattle.array_journal.specs.Entries.{name_of, same_at, entry_at}
use Rattle.array_journal.specs.Commands.{task_of}
use Rattle.array_journal.specs.declared.act.Act.{Act}
use Rattle.array_journal.specs.declared.act.Act.TheVariants.{Fetches, Puts, Diffs}
use Rattle.array_journal.specs.Acts.{has_act, is_act}
use Rattle.array_journal.specs.Deltas.{Delta, outstanding}
use Rattle.array_journal.specs.May.{IsTask}
use Rattle.array_journal.specs.Run.{Grows, IsSetting}
use Rattle.array_journal.specs.Laws.{RunsAlone, entries_before}
use Rattle.array_journal.specs.Known.{known_in, view, WindowReadsLaw, IsOfUpdate, UpdatesOweLaw}
use Rattle.array_journal.proofs.runs.Standing.{some-named}
use Rattle.array_journal.proofs.runs.CommandLaws.{one_task, named-task}
use Rattle.array_journal.proofs.held.HeldOwners.{HasAct, acted-has}
use Rattle.array_journal.proofs.lives.DoneRebuilds.{task-sound}
use Rattle.array_journal.proofs.reads.KnownBlocks.{SectorStep, tells_none, tells_write, Tells, by_diff, by_put, by_parity, sector-step}
use Rattle.array_journal.proofs.windows.WindowViews.{view-still}
use Rattle.array_journal.proofs.windows.WindowReads.{ReadsBy, fetches-by, read-unwritten, below-targets}
use Rattle.array_journal.proofs.owed.KeptRuns.{kept-run}
use Rattle.array_journal.proofs.sums.LayoutLaws.{task_row}
use Rattle.array_journal.proofs.owed.OwedItems.{IsItem, items}
use Rattle.array_journal.proofs.lives.WaitingSlots.{open-before}

-- an opening tells hosts nothing
opening-silent : (s : Setting) (c stripe i r : ℕ) (task : Task) (e : Entry) (past : List Entry) → Grows s (e ∷ past) → e.event ≡ Open c task →
    view s (e ∷ past) stripe i r ≡ view s past stripe i r
opening-silent s c stripe i r task e past g q = by (sector-step s past e.stamp e.lock e.event g.1 g.0.1.1)
  where
    in_sectors : List ℕ → List ℕ
    in_sectors l =
        cond (i == parity_of s.geometry stripe)
        (xor_all s.geometry.block (map (λ unit. block_at s.geometry.block l (lba_at s.geometry stripe unit r)) (numbers 0 (s.geometry.targets - 1))))
        (known_in s l stripe i r)

    no_act : (act : Act) (d : ℕ) → is_act act d (Open c task) ≡ false → is_act act d e.event ≡ true → ⊥
    no_act act d none h = false≢true (sym (ap (is_act act d) q ∙ none) ∙ h)

    never : (write : Task) (d : ℕ) → Tells write e.lock d e.event → ⊥
    never write d (by_diff l k h) = no_act Diffs d refl h
    never write d (by_put l k h) = no_act Puts d refl h
    never write d (by_parity l k h) = no_act Puts d refl h

    by : SectorStep s past e.lock e.event → view s (e ∷ past) stripe i r ≡ view s past stripe i r
    by (tells_none same) = ap in_sectors same
    by (tells_write d write w) = absurd (never write d w.how)

window-start : (s : Setting) (c i r : ℕ) (task : Task) (opened : At) (past : List Entry) → IsSetting s → Grows s past → RunsAlone c task past → opened.lock ≡ 0 →
    entry_at opened past ≡ Some (Open c task) → IsRowOf s.geometry task.stripe r → i < s.geometry.targets → ReadsBy task i → IsTask s task →
    view s past task.stripe i r ≡ view s (entries_before opened past) task.stripe i r
window-start s c i r task opened [] set g alone book stands at below reads sound = cc
window-start s c i r task opened (e ∷ past) set g alone book stands at below reads sound =
    choose (same_at opened (name_of e)) (λ a q. window-start s c i r task opened past set g.1 a book q at below reads sound) stands
  where
    choose : (b : Bool) → (RunsAlone c task past → entry_at opened past ≡ Some (Open c task) → view s past task.stripe i r ≡ view s (entries_before opened past) task.stripe i r) →
        cond b (Some e.event) (entry_at opened past) ≡ Some (Open c task) →
        view s (e ∷ past) task.stripe i r ≡ view s (cond b past (entries_before opened past)) task.stripe i r
    choose true rec q = opening-silent s c task.stripe i r task e past g (one e.event (Open c task) q)
      where
        one : (x y : Event) → Some x ≡ Some y → x ≡ y
        one x y h = cc
    choose false rec q =
        let its : task_of c past ≡ Some task = named-task s opened c task past g.1 book q in
        let before : RunsAlone c task past = record { opened = open-before c e past task its alone.opened; its_task = its; alone = alone.alone } in
        view-still s c i r task e past set g before at below (λ w. read-unwritten s task i e.lock c e.event sound reads w) ∙ rec before q

pub window-reads_stood : WindowReadsLaw
window-reads_stood s c i j task opened name past set g alone book stands at says h =
    (kept-run s past set g).fetched c i j task name alone at says h
    ∙ window-start s c i (task.row + j) task opened past set g alone book stands (task_row s task j sound h) (below-targets s Fetches task i fetches)
    (fetches-by s task i alone.alone fetches) sound
  where
    sound : IsTask s task
    sound = task-sound s c task past g alone.its_task

    act : HasAct s past i c Fetches
    act = acted-has s i c Fetches past g (some-named (i + 1) (is_act Fetches c) name past at says)

    fetches : has_act s Fetches task i ≡ true
    fetches = subst (λ (t : Task). has_act s Fetches t i ≡ true) (one_task act.0 task (sym act.1.0 ∙ alone.its_task)) act.1.1

-- a delta that parity lacks is an update's
of-updates : (s : Setting) (r : ℕ) (past : List Entry) (ds : List Delta) → AllByRecursion (IsItem s past past r) ds → AllByRecursion (IsOfUpdate past) ds
of-updates s r past [] p = tt
of-updates s r past (d ∷ ds) p = ((p.0.task, (p.0.its_task, p.0.update)), of-updates s r past ds p.1)

pub updates-owe : UpdatesOweLaw
updates-owe s stripe r past g = of-updates s r past (outstanding s past stripe r) (items s past stripe r past g)
