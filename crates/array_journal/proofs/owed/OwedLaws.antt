-- Who owes the deltas that parity doesn't have yet: an open update; or one that was spoilt, on a listed stripe; or one
-- that was closed without its parity disk. So on a trusted stripe only open ones, and none while a command runs alone.
use Rattle.std.specs.Prelude.{◌≡◌, ◌≢◌, ◌⊎◌, ℕ, ◌+◌, ◌-◌, true, false, List, [], ◌∷◌, length, Option, Some, is_some}
use Rattle.std.specs.List.{AllByRecursion}
use Rattle.std.proofs.Common.{refl, ap, sym, ◌∙◌, subst, inl, inr}
use Rattle.std.proofs.lemmas.Bool.{eq-eqb, cases_eq, cases_Bool, both_ways, false≢true}
use Rattle.stripe_layout.specs.Layout.{parity_of, IsRowOf}
use Rattle.array_journal.specs.declared.entry.Entry.{Entry}
use Rattle.array_journal.specs.declared.event.Event.{Event}
use Rattle.array_journal.specs.declared.event.Event.TheVariants.{Diff, Fold}
use Rattle.array_journal.specs.declared.setting.Setting.{Setting}
use Rattle.array_journal.specs.declared.task.Kind.TheVariants.{Update}
use Rattle.array_journal.specs.declared.task.Task.{Task}
use Rattle.blocks_core.specs.Lists.{block_at}
use Rattle.array_journal.specs.Entries.{some_at}
use Rattle.array_journal.specs.Commands.{opens_command, ends_command, is_open, task_of, is_shared}
use Rattle.array_journal.specs.declared.act.Act.TheVariants.{Diffs, Folds}
use Rattle.array_journal.specs.Acts.{is_act, task_bytes}
use Rattle.array_journal.specs.Lives.{is_absent}
use Rattle.array_journal.specs.Deltas.{Delta, covers, delta_of, has_acted, puts_row, outstanding}
use Rattle.array_journal.specs.May.{MayTarget}
use Rattle.array_journal.specs.Run.{Grows, IsSetting, IsTrusted}
use Rattle.array_journal.specs.Laws.{RunsAlone}
use Rattle.array_journal.proofs.runs.CommandLaws.{one_task}
use Rattle.array_journal.proofs.runs.Steps.{is_open-quiet}
use Rattle.array_journal.proofs.owed.EndedCommands.{act-open}
use Rattle.array_journal.proofs.windows.WindowLaws.{exclusive-alone}
use Rattle.array_journal.proofs.lives.DoneRebuilds.{task-sound}
use Rattle.array_journal.proofs.owed.DeltaLaws.{act-lock}
use Rattle.array_journal.proofs.owed.OwedLists.{without_command, all-deltas, kept-others, none-left}
use Rattle.array_journal.proofs.owed.OwedItems.{IsItem, items}
use Rattle.array_journal.proofs.owed.LonePuts.{task-covers}
use Rattle.array_journal.proofs.owed.OwedSteps.{moves_delta, outstanding-still, outstanding-put, outstanding-diff, outstanding-diff_beside, outstanding-folded}
use Rattle.array_journal.proofs.owed.EndedUpdates.{OwedBy, still_open, is_spoilt, is_unfolded, IsUnfolded, renews_now, owed_by-more}
use Rattle.array_journal.proofs.owed.RenewedParity.{renewal-owes_nothing}

-- What holds of each owed delta, and of that of a new diff, holds of each that is owed after one more entry.
moved-after : (s : Setting) (stripe r : ℕ) (Q : Delta → Type 0) (e : Entry) (past : List Entry) (event : Event) → IsSetting s → Grows s (e ∷ past) → e.event ≡ event →
    moves_delta event ≡ true → AllByRecursion Q (outstanding s past stripe r) →
    ((command : ℕ) (block : List ℕ) → is_act Diffs command e.event ≡ true → Q (record { command = command; block = block })) → AllByRecursion Q (outstanding s (e ∷ past) stripe r)
moved-after s stripe r Q e past (Diff command opened cdb row bytes sent dropped back) set g q h p new = elim (cases_Bool (covers s.geometry.block row (length bytes) r)) [
  | inl hit ↦ subst (AllByRecursion Q)
      (sym (outstanding-diff s stripe r lock.0 command opened cdb row bytes sent dropped back e past set g lock.1.0 q hit))
      (new command (block_at s.geometry.block (delta_of s lock.0 past row bytes) (r - row)) acts_so, p)
  | inr beside ↦ subst (AllByRecursion Q) (sym (outstanding-diff_beside s stripe r command opened cdb row bytes sent dropped back e past q beside)) p
]
  where
    acts_so : is_act Diffs command e.event ≡ true
    acts_so = ap (is_act Diffs command) q ∙ eq-eqb command command refl

    lock : (i : ℕ) × ((e.lock ≡ i + 1) × MayTarget s past e.stamp i e.event)
    lock = act-lock s past e.stamp e.lock command Diffs e.event g.0.1.1 acts_so
moved-after s stripe r Q e past (Fold command opened cdb row bytes names) set g q h p new =
    subst (AllByRecursion Q) (sym (outstanding-folded s stripe r command opened cdb row bytes names e past q))
    (all-deltas (λ (d : Delta). (d.command ≢ command) × Q d) Q (without_command command (outstanding s past stripe r)) (λ d both. both.1)
    (kept-others Q command (outstanding s past stripe r) p))
moved-after s stripe r Q e past _ set g q h p new = absurd (false≢true h)

pub owed-after : (s : Setting) (stripe r : ℕ) (Q : Delta → Type 0) (e : Entry) (past : List Entry) → IsSetting s → Grows s (e ∷ past) →
    AllByRecursion Q (outstanding s past stripe r) →
    ((command : ℕ) (block : List ℕ) → is_act Diffs command e.event ≡ true → Q (record { command = command; block = block })) → AllByRecursion Q (outstanding s (e ∷ past) stripe r)
owed-after s stripe r Q e past set g p new = elim (cases_Bool (moves_delta e.event)) [
  | inl moves ↦ moved-after s stripe r Q e past e.event set g refl moves p new
  | inr still ↦ quiet still (cases_eq e.lock (parity_of s.geometry stripe + 1)) (cases_Bool (puts_row s r e.event))
]
  where
    quiet : moves_delta e.event ≡ false → (e.lock ≡ parity_of s.geometry stripe + 1) ⊎ (e.lock ≡ parity_of s.geometry stripe + 1 → ⊥) →
        (puts_row s r e.event ≡ true) ⊎ (puts_row s r e.event ≡ false) → AllByRecursion Q (outstanding s (e ∷ past) stripe r)
    quiet still (inl here) (inl puts) = subst (AllByRecursion Q) (sym (outstanding-put s stripe r e past here puts)) tt
    quiet still (inl here) (inr none) = subst (AllByRecursion Q) (sym (outstanding-still s stripe r e past still (λ k. none))) p
    quiet still (inr other) puts = subst (AllByRecursion Q) (sym (outstanding-still s stripe r e past still (λ k. absurd (other k)))) p

-- an owed delta is of an update that has its diff and folded nothing
item-unfolded : (s : Setting) (stripe r : ℕ) (past : List Entry) (d : Delta) → IsSetting s → Grows s past → IsRowOf s.geometry stripe r → (x : IsItem s past past r d) →
    IsUnfolded s stripe d.command past x.task
item-unfolded s stripe r past d set g at x = record {
  its_task = x.its_task;
  update = x.update;
  of_stripe = task-covers s x.task stripe r set (task-sound s d.command x.task past g x.its_task) at x.hit;
  differed = x.differed;
  unfolded = x.unfolded;
}

-- the diff of an open command leaves it open
diff-open : (s : Setting) (c : ℕ) (e : Entry) (past : List Entry) → Grows s (e ∷ past) → is_act Diffs c e.event ≡ true → is_open c (e ∷ past) ≡ true
diff-open s c e past g h =
    by e.event refl h ∙ before (act-lock s past e.stamp e.lock c Diffs e.event g.0.1.1 h)
  where
    by : (event : Event) → e.event ≡ event → is_act Diffs c event ≡ true → is_open c (e ∷ past) ≡ is_open c past
    by (Diff command opened cdb row bytes sent dropped back) q k = is_open-quiet c e past (ap (opens_command c) q) (ap (ends_command c) q)
    by _ q k = absurd (false≢true k)

    before : (i : ℕ) × ((e.lock ≡ i + 1) × MayTarget s past e.stamp i e.event) → is_open c past ≡ true
    before (i, (here, m)) = act-open s past e.stamp i c Diffs e.event g.1 m h

-- two facts of each
both-hold : (P Q : Delta → Type 0) (ds : List Delta) → AllByRecursion P ds → AllByRecursion Q ds → AllByRecursion (λ (d : Delta). P d × Q d) ds
both-hold P Q [] p q = tt
both-hold P Q (d ∷ ds) p q = ((p.0, q.0), both-hold P Q ds p.1 q.1)

owed-by_all : (s : Setting) (stripe r : ℕ) (past : List Entry) → IsSetting s → Grows s past → IsRowOf s.geometry stripe r →
    AllByRecursion (λ (d : Delta). OwedBy s past stripe d.command) (outstanding s past stripe r)
owed-by_all s stripe r [] set g at = tt
owed-by_all s stripe r (e ∷ past) set g at = step (owed-by_all s stripe r past set g.1 at) (cases_Bool (renews_now past stripe e))
  where
    step : AllByRecursion (λ (d : Delta). OwedBy s past stripe d.command) (outstanding s past stripe r) →
        (renews_now past stripe e ≡ true) ⊎ (renews_now past stripe e ≡ false) →
        AllByRecursion (λ (d : Delta). OwedBy s (e ∷ past) stripe d.command) (outstanding s (e ∷ past) stripe r)
    step p (inl renews) =
        subst (AllByRecursion (λ (d : Delta). OwedBy s (e ∷ past) stripe d.command)) (sym (renewal-owes_nothing s stripe r e past set g at renews).1) tt
    step p (inr none) =
        owed-after s stripe r (λ (d : Delta). OwedBy s (e ∷ past) stripe d.command) e past set g
        (all-deltas (λ (d : Delta). IsItem s past past r d × OwedBy s past stripe d.command) (λ (d : Delta). OwedBy s (e ∷ past) stripe d.command) (outstanding s past stripe r)
        (λ d both. owed_by-more s stripe d.command e past both.0.task set g none (item-unfolded s stripe r past d set g.1 at both.0) both.1)
        (both-hold (IsItem s past past r) (λ (d : Delta). OwedBy s past stripe d.command) (outstanding s past stripe r) (items s past stripe r past g.1) p))
        (λ command block h. still_open (diff-open s command e past g h))

-- whose an owed delta is
pub record IsOwed (s : Setting) (past : List Entry) (stripe r c : ℕ) : Type 0 where
  pub task : Task
  pub its_task : task_of c past ≡ Some task
  pub update : task.kind ≡ Update
  pub of_stripe : task.stripe ≡ stripe
  pub hit : covers s.geometry.block task.row (task_bytes s task) r ≡ true
  pub differed : some_at (task.target + 1) (is_act Diffs c) past ≡ true
  pub unfolded : has_acted Folds c past ≡ false
  pub owed_by : OwedBy s past stripe c

pub owed-all : (s : Setting) (stripe r : ℕ) (past : List Entry) → IsSetting s → Grows s past → IsRowOf s.geometry stripe r →
    AllByRecursion (λ (d : Delta). IsOwed s past stripe r d.command) (outstanding s past stripe r)
owed-all s stripe r past set g at =
    all-deltas (λ (d : Delta). IsItem s past past r d × OwedBy s past stripe d.command) (λ (d : Delta). IsOwed s past stripe r d.command) (outstanding s past stripe r)
    owed
    (both-hold (IsItem s past past r) (λ (d : Delta). OwedBy s past stripe d.command) (outstanding s past stripe r)
    (items s past stripe r past g) (owed-by_all s stripe r past set g at))
  where
    owed : (d : Delta) → IsItem s past past r d × OwedBy s past stripe d.command → IsOwed s past stripe r d.command
    owed d both = record {
      task = both.0.task;
      its_task = both.0.its_task;
      update = both.0.update;
      of_stripe = (item-unfolded s stripe r past d set g at both.0).of_stripe;
      hit = both.0.hit;
      differed = both.0.differed;
      unfolded = both.0.unfolded;
      owed_by = both.1;
    }

-- on a trusted stripe each is of an open command
trusted-open : (s : Setting) (past : List Entry) (stripe c : ℕ) → IsTrusted s past stripe → OwedBy s past stripe c → is_open c past ≡ true
trusted-open s past stripe c trusted (still_open o) = o
trusted-open s past stripe c trusted (is_spoilt l) = absurd (false≢true (sym (ap (λ (o : Option ℕ). is_some o) trusted.0) ∙ l))
trusted-open s past stripe c trusted (is_unfolded a) = absurd (both_ways (is_absent (parity_of s.geometry stripe) stripe past) trusted.1 a)

pub owed-open : (s : Setting) (stripe r : ℕ) (past : List Entry) → IsSetting s → Grows s past → IsRowOf s.geometry stripe r → IsTrusted s past stripe →
    AllByRecursion (λ (d : Delta). is_open d.command past ≡ true) (outstanding s past stripe r)
owed-open s stripe r past set g at trusted =
    all-deltas (λ (d : Delta). OwedBy s past stripe d.command) (λ (d : Delta). is_open d.command past ≡ true) (outstanding s past stripe r)
    (λ d o. trusted-open s past stripe d.command trusted o) (owed-by_all s stripe r past set g at)

-- so nothing is owed there while a command runs alone
pub window-owes_nothing : (s : Setting) (c r : ℕ) (task : Task) (past : List Entry) → IsSetting s → Grows s past → RunsAlone c task past →
    IsRowOf s.geometry task.stripe r → IsTrusted s past task.stripe → outstanding s past task.stripe r ≡ []
window-owes_nothing s c r task past set g alone at trusted =
    none-left (λ (d : Delta). IsOwed s past task.stripe r d.command) (outstanding s past task.stripe r) never (owed-all s task.stripe r past set g at)
  where
    never : (d : Delta) → IsOwed s past task.stripe r d.command → ⊥
    never d x =
        exclusive-alone s c d.command task x.task past g alone.opened alone.its_task alone.alone (trusted-open s past task.stripe d.command trusted x.owed_by) x.its_task differs x.of_stripe
      where
        differs : d.command ≢ c
        differs q =
            let one : x.task ≡ task = one_task x.task task (sym x.its_task ∙ ap (λ (n : ℕ). task_of n past) q ∙ alone.its_task) in
            both_ways (is_shared task.kind) alone.alone (sym (ap (λ (t : Task). is_shared t.kind) one) ∙ ap is_shared x.update)
