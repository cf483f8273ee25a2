-- The rebuilds of a unit that are done: their tasks, what opens and puts them, and that each made its put. What counts as
-- done stays so.
use Rattle.std.specs.Prelude.{◌≡◌, ◌==◌, ◌&&◌, ◌<◌, ℕ, ◌+◌, true, false, List, [], ◌∷◌, Option, Some, None}
use Rattle.std.proofs.Common.{refl, ap, sym, ◌∙◌, cond, subst, inl, inr}
use Rattle.std.proofs.lemmas.Bool.{eq-eqb, eqb-true, cases_Bool, and_from, and_parts, both_ways, false≢true, cond-true}
use Rattle.array_journal.specs.declared.at.At.{At}
use Rattle.array_journal.specs.declared.entry.Entry.{Entry}
use Rattle.array_journal.specs.declared.event.Event.{Event}
use Rattle.array_journal.specs.declared.event.Event.TheVariants.{Put, Open, Close}
use Rattle.array_journal.specs.declared.event.Why.{Why}
use Rattle.array_journal.specs.declared.event.Why.TheVariants.{Unfitted}
use Rattle.array_journal.specs.declared.setting.Setting.{Setting}
use Rattle.array_journal.specs.declared.task.Kind.{Kind}
use Rattle.array_journal.specs.declared.task.Kind.TheVariants.{Rebuild}
use Rattle.array_journal.specs.declared.task.Task.{Task}
use Rattle.array_journal.specs.Entries.{some_at}
use Rattle.array_journal.specs.Commands.{opens_command, ends_command, task_given, task_of, first_task}
use Rattle.array_journal.specs.declared.act.Act.TheVariants.{Puts}
use Rattle.array_journal.specs.Acts.{has_act, is_act}
use Rattle.array_journal.specs.Lives.{is_unfitted, is_rebuild, rebuilds, closes_done, has_rebuilt, puts_rebuilt, opens_rebuilt}
use Rattle.array_journal.specs.declared.decision.Decision.TheVariants.{Opens, Refuses}
use Rattle.array_journal.specs.Decision.{want_of, decision}
use Rattle.array_journal.specs.May.{MayBook, MayOpen, MayClose, IsTask}
use Rattle.array_journal.specs.Run.{Grows}
use Rattle.array_journal.proofs.calm.ActSteps.{has-there}
use Rattle.array_journal.proofs.runs.Standing.{may-book, some_at-cases, some_at-more}
use Rattle.array_journal.proofs.runs.CommandLaws.{opened-once, ended-opened, ends-open, open-opened, task_of-more}
use Rattle.array_journal.proofs.owed.ActBars.{named-made, some_at-weaker}
use Rattle.array_journal.proofs.windows.WindowLaws.{opens-event, older-task}

-- an event that opens such a rebuild
pub opens-rebuilt : (whole : List Entry) (i stripe : ℕ) (event : Event) → opens_rebuilt whole i stripe event ≡ true →
    (c : ℕ) × ((task : Task) × ((event ≡ Open c task) × (has_rebuilt whole i stripe c ≡ true)))
opens-rebuilt whole i stripe (Open command task) h = (command, (task, (refl, h)))
opens-rebuilt whole i stripe _ h = absurd (false≢true h)

pub puts-rebuilt : (whole : List Entry) (i stripe : ℕ) (event : Event) → puts_rebuilt whole i stripe event ≡ true →
    (c : ℕ) × ((is_act Puts c event ≡ true) × (has_rebuilt whole i stripe c ≡ true))
puts-rebuilt whole i stripe (Put command opened cdb row bytes names) h = (command, (eq-eqb command command refl, h))
puts-rebuilt whole i stripe _ h = absurd (false≢true h)

pub put-puts : (whole : List Entry) (i stripe c : ℕ) (event : Event) → is_act Puts c event ≡ true → has_rebuilt whole i stripe c ≡ true →
    puts_rebuilt whole i stripe event ≡ true
put-puts whole i stripe c (Put command opened cdb row bytes names) h r =
    subst (λ (d : ℕ). has_rebuilt whole i stripe d ≡ true) (sym (eqb-true command c h)) r
put-puts whole i stripe c _ h r = absurd (false≢true h)

rebuild-kind : (kind : Kind) → is_rebuild kind ≡ true → kind ≡ Rebuild
rebuild-kind Rebuild h = refl
rebuild-kind _ h = absurd (false≢true h)

-- the task of a rebuild of a unit
pub record IsRebuild (i stripe : ℕ) (task : Task) : Type 0 where
  pub of_kind : task.kind ≡ Rebuild
  pub at_target : task.target ≡ i
  pub of_stripe : task.stripe ≡ stripe

pub rebuild-task : (i stripe : ℕ) (task : Task) → rebuilds i stripe (Some task) ≡ true → IsRebuild i stripe task
rebuild-task i stripe task h =
    let a : ((is_rebuild task.kind && (task.target == i)) ≡ true) × ((task.stripe == stripe) ≡ true) =
    and_parts (is_rebuild task.kind && (task.target == i)) (task.stripe == stripe) h in
    let b : (is_rebuild task.kind ≡ true) × ((task.target == i) ≡ true) = and_parts (is_rebuild task.kind) (task.target == i) a.0 in
    record { of_kind = rebuild-kind task.kind b.0; at_target = eqb-true task.target i b.1; of_stripe = eqb-true task.stripe stripe a.1 }

-- a rebuild isn't opened where its slot has no new disk
pub rebuild-fitted : (s : Setting) (past : List Entry) (c i stripe : ℕ) (task : Task) → MayOpen s past c task → IsRebuild i stripe task → is_unfitted i past ≡ false
rebuild-fitted s past c i stripe task m r = elim (cases_Bool (is_unfitted i past)) [
  | inl unfitted ↦ absurd (refused unfitted)
  | inr fitted ↦ fitted
]
  where
    apart : {x : Why} {k : Kind} → Refuses x ≡ Opens k → ⊥
    apart q = absurd cc

    refused : is_unfitted i past ≡ true → ⊥
    refused unfitted =
        apart (sym (cond-true (is_unfitted task.target past) (Refuses Unfitted) _ (ap (λ (j : ℕ). is_unfitted j past) r.at_target ∙ unfitted))
        ∙ sym (ap (λ (k : Kind). decision s (want_of k) task.stripe task.target past) r.of_kind) ∙ m.decided)

pub opened-task : (c : ℕ) (task : Task) (e : Entry) (past : List Entry) → e.lock ≡ 0 → e.event ≡ Open c task → task_of c (e ∷ past) ≡ Some task
opened-task c task e past book q =
    ap (λ b. first_task (cond b (task_given c e.event) None) (task_of c past)) (eq-eqb e.lock 0 book)
    ∙ ap (λ (x : Event). first_task (task_given c x) (task_of c past)) q
    ∙ ap (λ b. first_task (cond b (Some task) None) (task_of c past)) (eq-eqb c c refl)

-- the task of each command is sound
pub task-sound : (s : Setting) (c : ℕ) (task : Task) (past : List Entry) → Grows s past → task_of c past ≡ Some task → IsTask s task
task-sound s c task [] g q = absurd cc
task-sound s c task (e ∷ past) g q = elim (cases_Bool ((e.lock == 0) && opens_command c e.event)) [
  | inl opened ↦ newest (and_parts (e.lock == 0) (opens_command c e.event) opened)
  | inr other ↦ task-sound s c task past g.1 (sym (older-task c e past (λ both. both_ways ((e.lock == 0) && opens_command c e.event) other
      (and_from (e.lock == 0) (opens_command c e.event) (eq-eqb e.lock 0 both.0) both.1))) ∙ q)
]
  where
    newest : ((e.lock == 0) ≡ true) × (opens_command c e.event ≡ true) → IsTask s task
    newest parts =
        let book : e.lock ≡ 0 = eqb-true e.lock 0 parts.0 in
        let o : (other : Task) × (e.event ≡ Open c other) = opens-event c e.event parts.1 in
        let its : task_of c (e ∷ past) ≡ Some o.0 = opened-task c o.0 e past book o.1 in
        let same : o.0 ≡ task = cc in
        let m : MayOpen s past c o.0 = subst (λ (x : Event). MayBook s past e.stamp x) o.1 (may-book s past e.stamp e.lock e.event book g.0.1.1) in
        subst (λ (x : Task). IsTask s x) same m.sound

pub done-ends : (c : ℕ) (event : Event) → closes_done c event ≡ true → ends_command c event ≡ true
done-ends c (Close command true names cause bytes) h = h
done-ends c (Close command false names cause bytes) h = absurd (false≢true h)
done-ends c _ h = absurd (false≢true h)

-- a command that is done made each of its puts
done-named : (s : Setting) (past : List Entry) (stamp c i : ℕ) (names : List At) (cause : Option At) (bytes : List ℕ) (task : Task) →
    MayClose s past stamp c true names cause bytes task → has_act s Puts task i ≡ true → some_at (i + 1) (is_act Puts c) past ≡ true
done-named s past stamp c i names None bytes task m h = named-made past c i Puts names (m.acts.puts i h)
done-named s past stamp c i names (Some cause) bytes task m h = named-made past c i Puts names (m.acts.puts i h)

pub done-put : (s : Setting) (past : List Entry) (stamp c i : ℕ) (event : Event) (task : Task) → MayBook s past stamp event → closes_done c event ≡ true →
    task_of c past ≡ Some task → has_act s Puts task i ≡ true → some_at (i + 1) (is_act Puts c) past ≡ true
done-put s past stamp c i (Close command true names cause bytes) task m h q has =
    let same : command ≡ c = eqb-true command c h in
    let its : task_of c past ≡ Some m.0 = subst (λ (d : ℕ). task_of d past ≡ Some m.0) same m.1.0.1 in
    let t : task ≡ m.0 = cc in
    done-named s past stamp c i names cause bytes m.0 (subst (λ (d : ℕ). MayClose s past stamp d true names cause bytes m.0) same m.1.1)
    (subst (λ (x : Task). has_act s Puts x i ≡ true) t has)
done-put s past stamp c i (Close command false names cause bytes) task m h q has = absurd (false≢true h)
done-put s past stamp c i _ task m h q has = absurd (false≢true h)

done-puts : (s : Setting) (i c : ℕ) (task : Task) (past : List Entry) → Grows s past → some_at 0 (closes_done c) past ≡ true → task_of c past ≡ Some task →
    has_act s Puts task i ≡ true → some_at (i + 1) (is_act Puts c) past ≡ true
done-puts s i c task [] g h q has = absurd (false≢true h)
done-puts s i c task (e ∷ past) g h q has = elim (some_at-cases 0 (closes_done c) e past h) [
  | inl here ↦ some_at-more (i + 1) (is_act Puts c) e past
      (done-put s past e.stamp c i e.event task (may-book s past e.stamp e.lock e.event here.0 g.0.1.1) here.1
      (before (open-opened c past (ends-open s c e past g.0.1 here.0 (done-ends c e.event here.1)))) has)
  | inr older ↦ some_at-more (i + 1) (is_act Puts c) e past
      (done-puts s i c task past g.1 older (before (ended-opened s c past g.1 (some_at-weaker 0 (closes_done c) (ends_command c) past (done-ends c) older))) has)
]
  where
    before : some_at 0 (opens_command c) past ≡ true → task_of c past ≡ Some task
    before opened = sym (older-task c e past (λ both. both_ways (opens_command c e.event) (opened-once s c e past g.1 g.0.1 both.0 opened) both.1)) ∙ q

pub rebuilds-some : (i stripe : ℕ) (found : Option Task) → rebuilds i stripe found ≡ true → (task : Task) × ((found ≡ Some task) × IsRebuild i stripe task)
rebuilds-some i stripe None h = absurd (false≢true h)
rebuilds-some i stripe (Some task) h = (task, (refl, rebuild-task i stripe task h))

pub rebuilt-put : (s : Setting) (i stripe c : ℕ) (whole : List Entry) → Grows s whole → has_rebuilt whole i stripe c ≡ true → some_at (i + 1) (is_act Puts c) whole ≡ true
rebuilt-put s i stripe c whole g h =
    let parts : (rebuilds i stripe (task_of c whole) ≡ true) × (some_at 0 (closes_done c) whole ≡ true) =
    and_parts (rebuilds i stripe (task_of c whole)) (some_at 0 (closes_done c) whole) h in
    let t : (task : Task) × ((task_of c whole ≡ Some task) × IsRebuild i stripe task) = rebuilds-some i stripe (task_of c whole) parts.0 in
    let sound : IsTask s t.0 = task-sound s c t.0 whole g t.1.0 in
    let at : t.0.target ≡ i = t.1.1.at_target in
    let below : i < s.geometry.targets = subst (λ (j : ℕ). j < s.geometry.targets) at sound.target in
    done-puts s i c t.0 whole g parts.1 t.1.0
    (has-there s Puts t.0 Rebuild s.mode i t.1.1.of_kind refl below (eq-eqb i t.0.target (sym at)))

-- what a rebuild that is done counts, it counts after more entries
pub has_rebuilt-more : (s : Setting) (i stripe c : ℕ) (e : Entry) (past : List Entry) → Grows s (e ∷ past) → has_rebuilt past i stripe c ≡ true →
    has_rebuilt (e ∷ past) i stripe c ≡ true
has_rebuilt-more s i stripe c e past g h =
    let parts : (rebuilds i stripe (task_of c past) ≡ true) × (some_at 0 (closes_done c) past ≡ true) =
    and_parts (rebuilds i stripe (task_of c past)) (some_at 0 (closes_done c) past) h in
    let t : (task : Task) × ((task_of c past ≡ Some task) × IsRebuild i stripe task) = rebuilds-some i stripe (task_of c past) parts.0 in
    and_from (rebuilds i stripe (task_of c (e ∷ past))) (some_at 0 (closes_done c) (e ∷ past))
    (ap (rebuilds i stripe) (task_of-more s c e past t.0 g.1 g.0.1 t.1.0 ∙ sym t.1.0) ∙ parts.0)
    (some_at-more 0 (closes_done c) e past parts.1)
