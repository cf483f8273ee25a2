-- Once a command that makes parity anew has put it, nothing is owed on its stripe while it is open, nor at its end.
use Rattle.std.specs.Prelude.{◌≡◌, ◌≢◌, ◌==◌, ◌&&◌, ◌<◌, ◌≤◌, ◌⊎◌, not, ℕ, ◌+◌, ◌-◌, Bool, true, false, List, [], ◌∷◌, length, Option, Some, None}
use Rattle.std.proofs.Common.{refl, ap, sym, ◌∙◌, cond, arith, subst, inl, inr}
use Rattle.std.proofs.lemmas.Bool.{eq-eqb, eqb-true, cases_eq, cases_Bool, and_parts, and_left, both_ways, false≢true, cond-false, cond_both}
use Rattle.stripe_layout.specs.Layout.{parity_of, IsRowOf, first_row, unit_rows}
use Rattle.sbc_cdbs.specs.declared.descriptor.Cdb.{Cdb}
use Rattle.array_journal.specs.declared.at.At.{At}
use Rattle.array_journal.specs.declared.entry.Entry.{Entry}
use Rattle.array_journal.specs.declared.event.Event.{Event}
use Rattle.array_journal.specs.declared.event.Event.TheVariants.{Put, Diff, Close}
use Rattle.array_journal.specs.declared.setting.Setting.{Setting}
use Rattle.array_journal.specs.declared.task.Kind.{Kind}
use Rattle.array_journal.specs.declared.task.Kind.TheVariants.{Read, Update, DataOnly, DegradedRead, DegradedWrite, Rebuild, Resync}
use Rattle.array_journal.specs.declared.task.Task.{Task}
use Rattle.blocks_core.specs.Lists.{block_at}
use Rattle.array_journal.specs.Entries.{some_at}
use Rattle.array_journal.specs.Commands.{opens_command, is_open, task_of, is_shared}
use Rattle.array_journal.specs.declared.act.Act.TheVariants.{Puts, Diffs, Folds}
use Rattle.array_journal.specs.Acts.{has_act, is_act, task_bytes}
use Rattle.array_journal.specs.Lives.{closes_done}
use Rattle.array_journal.specs.Listed.{makes_parity, renews_parity}
use Rattle.array_journal.specs.Deltas.{Delta, covers, delta_of, has_acted, puts_row, with_delta, outstanding_in, outstanding}
use Rattle.array_journal.specs.May.{MayTarget, IsTask, IsTaskOfKind, SomeTask, MayDiff}
use Rattle.array_journal.specs.Run.{Grows, IsSetting}
use Rattle.array_journal.proofs.runs.Standing.{may-book, may-here, some_at-cases}
use Rattle.array_journal.proofs.runs.CommandLaws.{named-task, ends-open, one_task}
use Rattle.array_journal.proofs.calm.ActSteps.{has-there}
use Rattle.array_journal.proofs.owed.EndedCommands.{act-open}
use Rattle.array_journal.proofs.windows.WindowLaws.{older-open, older-task, exclusive-alone}
use Rattle.array_journal.proofs.lives.DoneRebuilds.{task-sound, done-ends, done-put}
use Rattle.array_journal.proofs.sums.LayoutLaws.{parity_of-below}
use Rattle.array_journal.proofs.owed.DeltaLaws.{covers-from, differs-update}
use Rattle.array_journal.proofs.owed.OwedLists.{outstanding_in-put}
use Rattle.array_journal.proofs.owed.LonePuts.{task-covers}
use Rattle.array_journal.proofs.owed.OwedOnce.{acted-before}
use Rattle.array_journal.proofs.owed.OwedSteps.{moves_delta, outstanding-still}
use Rattle.array_journal.proofs.owed.EndedUpdates.{closes_renewal, renews_now}

-- what makes parity anew runs alone, on all rows of its stripe, and puts at the parity target
pub record IsRenewal (s : Setting) (task : Task) : Type 0 where
  pub alone : is_shared task.kind ≡ false
  pub from_row : task.row ≡ first_row s.geometry task.stripe
  pub all_rows : task.count ≡ unit_rows s.geometry task.stripe
  pub puts : has_act s Puts task (parity_of s.geometry task.stripe) ≡ true

renewal-kind : (s : Setting) (kind : Kind) (task : Task) → IsSetting s → IsTask s task → task.kind ≡ kind → makes_parity kind task ≡ true → IsTaskOfKind s task kind → IsRenewal s task
renewal-kind s Resync task set sound k h rows = record {
  alone = ap is_shared k;
  from_row = rows.0;
  all_rows = rows.1;
  puts = has-there s Puts task Resync s.mode (parity_of s.geometry task.stripe) k refl (parity_of-below s task.stripe set)
      (eq-eqb (parity_of s.geometry task.stripe) task.parity (sym sound.parity));
}
renewal-kind s Rebuild task set sound k h rows = record {
  alone = ap is_shared k;
  from_row = rows.0;
  all_rows = rows.1;
  puts = has-there s Puts task Rebuild s.mode (parity_of s.geometry task.stripe) k refl (parity_of-below s task.stripe set)
      (eq-eqb (parity_of s.geometry task.stripe) task.target (sym (eqb-true task.target task.parity h ∙ sound.parity)));
}
renewal-kind s Read task set sound k h rows = absurd (false≢true h)
renewal-kind s Update task set sound k h rows = absurd (false≢true h)
renewal-kind s DataOnly task set sound k h rows = absurd (false≢true h)
renewal-kind s DegradedRead task set sound k h rows = absurd (false≢true h)
renewal-kind s DegradedWrite task set sound k h rows = absurd (false≢true h)

pub renewal : (s : Setting) (task : Task) → IsSetting s → IsTask s task → makes_parity task.kind task ≡ true → IsRenewal s task
renewal s task set sound h = renewal-kind s task.kind task set sound refl h sound.by_kind

-- its put writes each row of the stripe
renewal-covers : (s : Setting) (task : Task) (r : ℕ) → IsSetting s → IsRenewal s task → IsRowOf s.geometry task.stripe r →
    covers s.geometry.block task.row (task_bytes s task) r ≡ true
renewal-covers s task r set n at =
    covers-from s.geometry.block task.row (task_bytes s task) task.count r set.array.least_block refl low high
  where
    low : task.row ≤ r
    low = omega (arith, n.from_row, at.first)

    high : r < task.row + task.count
    high = omega (arith, n.from_row, n.all_rows, at.last)

put-row : (s : Setting) (past : List Entry) (stamp i c r : ℕ) (task : Task) (event : Event) → Grows s past → MayTarget s past stamp i event → is_act Puts c event ≡ true →
    task_of c past ≡ Some task → covers s.geometry.block task.row (task_bytes s task) r ≡ true → puts_row s r event ≡ true
put-row s past stamp i c r task (Put command opened cdb row bytes names) g m h its hit =
    let same : m.0 ≡ task = one_task m.0 task
    (sym (subst (λ (n : ℕ). task_of n past ≡ Some m.0) (eqb-true command c h) (named-task s opened command m.0 past g m.1.act.in_book m.1.act.opening.0)) ∙ its) in
    ap (λ (n : ℕ). covers s.geometry.block n (length bytes) r) (m.1.act.at_row ∙ ap (λ (t : Task). t.row) same)
    ∙ ap (λ (n : ℕ). covers s.geometry.block task.row n r) (m.1.act.whole ∙ ap (λ (t : Task). task_bytes s t) same) ∙ hit
put-row s past stamp i c r task _ g m h its hit = absurd (false≢true h)

-- while a command runs alone on a stripe, no diff is made on its rows
pub no-diff_beside : (s : Setting) (stripe r i c : ℕ) (task : Task) (command : ℕ) (opened : At) (cdb : Cdb) (row : ℕ) (bytes : List ℕ) (sent dropped back : Bool) (e : Entry) (past : List Entry) →
    IsSetting s → Grows s (e ∷ past) → IsRowOf s.geometry stripe r → is_open c past ≡ true → task_of c past ≡ Some task → task.stripe ≡ stripe → is_shared task.kind ≡ false →
    e.lock ≡ i + 1 → e.event ≡ Diff command opened cdb row bytes sent dropped back → covers s.geometry.block row (length bytes) r ≡ false
no-diff_beside s stripe r i c task command opened cdb row bytes sent dropped back e past set g at oc its same alone here q = elim (cases_Bool (covers s.geometry.block row (length bytes) r)) [
  | inl hit ↦ absurd (never hit)
  | inr beside ↦ beside
]
  where
    m : SomeTask (λ other. MayDiff s past e.stamp i command opened cdb row bytes sent dropped back other)
    m = subst (λ (x : Event). MayTarget s past e.stamp i x) q (may-here s past e.stamp e.lock i e.event here g.0.1.1)

    other_its : task_of command past ≡ Some m.0
    other_its = named-task s opened command m.0 past g.1 m.1.act.in_book m.1.act.opening.0

    differs : command ≢ c
    differs e_same =
        let one : m.0 ≡ task = one_task m.0 task (sym other_its ∙ ap (λ (n : ℕ). task_of n past) e_same ∙ its) in
        both_ways (is_shared task.kind) alone (sym (ap (λ (t : Task). is_shared t.kind) one) ∙ ap is_shared (differs-update s m.0 i m.1.act.of_task).0)

    never : covers s.geometry.block row (length bytes) r ≡ true → ⊥
    never hit =
        exclusive-alone s c command task m.0 past g.1 oc its alone
        (act-open s past e.stamp i command Diffs e.event g.1 (may-here s past e.stamp e.lock i e.event here g.0.1.1) (ap (is_act Diffs command) q ∙ eq-eqb command command refl))
        other_its differs
        (task-covers s m.0 stripe r set (task-sound s command m.0 past g.1 other_its) at
        (subst (λ (n : ℕ). covers s.geometry.block m.0.row n r ≡ true) m.1.act.whole
        (subst (λ (n : ℕ). covers s.geometry.block n (length bytes) r ≡ true) m.1.act.at_row hit)) ∙ sym same)

no-delta_beside : (s : Setting) (whole : List Entry) (stripe r i c : ℕ) (task : Task) (e : Entry) (past : List Entry) (event : Event) → IsSetting s → Grows s (e ∷ past) →
    IsRowOf s.geometry stripe r → is_open c past ≡ true → task_of c past ≡ Some task → task.stripe ≡ stripe → is_shared task.kind ≡ false → e.lock ≡ i + 1 → e.event ≡ event →
    with_delta s whole i past r event [] ≡ []
no-delta_beside s whole stripe r i c task e past (Diff command opened cdb row bytes sent dropped back) set g at oc its same alone here q =
    cond-false (covers s.geometry.block row (length bytes) r && not (has_acted Folds command whole))
    (record { command = command; block = block_at s.geometry.block (delta_of s i past row bytes) (r - row) } ∷ []) []
    (and_left (covers s.geometry.block row (length bytes) r) (not (has_acted Folds command whole))
    (no-diff_beside s stripe r i c task command opened cdb row bytes sent dropped back e past set g at oc its same alone here q))
no-delta_beside s whole stripe r i c task e past _ set g at oc its same alone here q = refl

renewed-in : (s : Setting) (whole : List Entry) (c r : ℕ) (task : Task) (past : List Entry) → IsSetting s → Grows s past → IsRenewal s task →
    is_open c past ≡ true → task_of c past ≡ Some task → some_at (parity_of s.geometry task.stripe + 1) (is_act Puts c) past ≡ true →
    IsRowOf s.geometry task.stripe r → outstanding_in s whole task.stripe r past ≡ []
renewed-in s whole c r task [] set g n o its put at = refl
renewed-in s whole c r task (e ∷ past) set g n o its put at =
    step (λ older. renewed-in s whole c r task past set g.1 n open_before its_before older at) (some_at-cases (parity_of s.geometry task.stripe + 1) (is_act Puts c) e past put)
  where
    not_opens : (e.lock ≡ 0) × (opens_command c e.event ≡ true) → ⊥
    not_opens = acted-before s (parity_of s.geometry task.stripe) c Puts e past g put

    open_before : is_open c past ≡ true
    open_before = older-open c e past not_opens o

    its_before : task_of c past ≡ Some task
    its_before = sym (older-task c e past not_opens) ∙ its

    place : (e.lock ≡ 0 → ⊥) → e.lock ≡ e.lock - 1 + 1
    place other = elim (cases_eq (e.lock - 1 + 1) e.lock) [
      | inl same ↦ sym same
      | inr differs ↦ absurd (other (omega arith))
    ]

    quiet : outstanding_in s whole task.stripe r past ≡ [] → (e.lock == 0) ≡ false →
        with_delta s whole (e.lock - 1) past r e.event (outstanding_in s whole task.stripe r past) ≡ []
    quiet old away =
        ap (with_delta s whole (e.lock - 1) past r e.event) old
        ∙ no-delta_beside s whole task.stripe r (e.lock - 1) c task e past e.event set g at open_before its_before refl n.alone
        (place (λ book. both_ways (e.lock == 0) away (eq-eqb e.lock 0 book))) refl

    step : (some_at (parity_of s.geometry task.stripe + 1) (is_act Puts c) past ≡ true → outstanding_in s whole task.stripe r past ≡ []) →
        ((e.lock ≡ parity_of s.geometry task.stripe + 1) × (is_act Puts c e.event ≡ true)) ⊎ (some_at (parity_of s.geometry task.stripe + 1) (is_act Puts c) past ≡ true) →
        outstanding_in s whole task.stripe r (e ∷ past) ≡ []
    step rec (inl here) =
        outstanding_in-put s whole task.stripe r e past here.0
        (put-row s past e.stamp (parity_of s.geometry task.stripe) c r task e.event g.1
        (may-here s past e.stamp e.lock (parity_of s.geometry task.stripe) e.event here.0 g.0.1.1) here.1 its_before (renewal-covers s task r set n at))
    step rec (inr older) =
        cond_both ((e.lock == parity_of s.geometry task.stripe + 1) && puts_row s r e.event) []
        (cond (e.lock == 0) (outstanding_in s whole task.stripe r past) (with_delta s whole (e.lock - 1) past r e.event (outstanding_in s whole task.stripe r past)))
        (λ (l : List Delta). l ≡ []) (λ h. refl)
        (λ h. cond_both (e.lock == 0) (outstanding_in s whole task.stripe r past) (with_delta s whole (e.lock - 1) past r e.event (outstanding_in s whole task.stripe r past))
        (λ (l : List Delta). l ≡ []) (λ k. rec older) (λ k. quiet (rec older) k))

-- nothing is owed after the put, while the command is open
pub renewed-owes_nothing : (s : Setting) (c r : ℕ) (task : Task) (past : List Entry) → IsSetting s → Grows s past → is_open c past ≡ true → task_of c past ≡ Some task →
    makes_parity task.kind task ≡ true → some_at (parity_of s.geometry task.stripe + 1) (is_act Puts c) past ≡ true →
    IsRowOf s.geometry task.stripe r → outstanding s past task.stripe r ≡ []
renewed-owes_nothing s c r task past set g o its makes put at =
    renewed-in s past c r task past set g (renewal s task set (task-sound s c task past g its) makes) o its put at

-- nor before its close as done
closing-owes_nothing : (s : Setting) (stripe r : ℕ) (e : Entry) (past : List Entry) (event : Event) → IsSetting s → Grows s (e ∷ past) → IsRowOf s.geometry stripe r →
    e.lock ≡ 0 → e.event ≡ event → closes_renewal past stripe event ≡ true → outstanding s past stripe r ≡ []
closing-owes_nothing s stripe r e past (Close command true names cause bytes) set g at book q h = found (renews-some (task_of command past) refl h)
  where
    renews-some : (known : Option Task) → task_of command past ≡ known → renews_parity stripe known ≡ true →
        (task : Task) × ((task_of command past ≡ Some task) × ((task.stripe ≡ stripe) × (makes_parity task.kind task ≡ true)))
    renews-some None k p = absurd (false≢true p)
    renews-some (Some task) k p =
        let both : ((task.stripe == stripe) ≡ true) × (makes_parity task.kind task ≡ true) = and_parts (task.stripe == stripe) (makes_parity task.kind task) p in
        (task, (k, (eqb-true task.stripe stripe both.0, both.1)))

    closes : closes_done command e.event ≡ true
    closes = ap (closes_done command) q ∙ eq-eqb command command refl

    found : (task : Task) × ((task_of command past ≡ Some task) × ((task.stripe ≡ stripe) × (makes_parity task.kind task ≡ true))) → outstanding s past stripe r ≡ []
    found (task, (its, (same, makes))) =
        subst (λ (n : ℕ). outstanding s past n r ≡ []) same
        (renewed-owes_nothing s command r task past set g.1 (ends-open s command e past g.0.1 book (done-ends command e.event closes)) its makes
        (done-put s past e.stamp command (parity_of s.geometry task.stripe) e.event task (may-book s past e.stamp e.lock e.event book g.0.1.1) closes its
        (renewal s task set (task-sound s command task past g.1 its) makes).puts)
        (subst (λ (n : ℕ). IsRowOf s.geometry n r) (sym same) at))
closing-owes_nothing s stripe r e past (Close command false names cause bytes) set g at book q h = absurd (false≢true h)
closing-owes_nothing s stripe r e past _ set g at book q h = absurd (false≢true h)

-- nor after it
pub renewal-owes_nothing : (s : Setting) (stripe r : ℕ) (e : Entry) (past : List Entry) → IsSetting s → Grows s (e ∷ past) → IsRowOf s.geometry stripe r →
    renews_now past stripe e ≡ true → (outstanding s past stripe r ≡ []) × (outstanding s (e ∷ past) stripe r ≡ [])
renewal-owes_nothing s stripe r e past set g at h = (before, after e.event refl parts.1)
  where
    parts : ((e.lock == 0) ≡ true) × (closes_renewal past stripe e.event ≡ true)
    parts = and_parts (e.lock == 0) (closes_renewal past stripe e.event) h

    book : e.lock ≡ 0
    book = eqb-true e.lock 0 parts.0

    before : outstanding s past stripe r ≡ []
    before = closing-owes_nothing s stripe r e past e.event set g at book refl parts.1

    after : (event : Event) → e.event ≡ event → closes_renewal past stripe event ≡ true → outstanding s (e ∷ past) stripe r ≡ []
    after (Close command done names cause bytes) q k =
        outstanding-still s stripe r e past (ap moves_delta q) (λ here. absurd (omega (arith, book))) ∙ before
    after _ q k = absurd (false≢true k)
