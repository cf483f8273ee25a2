-- A put at parity on a row is of a command that runs alone in its stripe: so none comes while an update is open there.
use Rattle.std.specs.Prelude.{◌≡◌, ◌≢◌, ◌<◌, ◌≤◌, ◌⊎◌, nat_lt, ℕ, ◌+◌, true, false, List, ◌∷◌, length, Some}
use Rattle.std.proofs.Common.{refl, ap, sym, ◌∙◌, subst, inl, inr}
use Rattle.std.proofs.lemmas.Bool.{eq-eqb, eqb-true, cases_Bool, and_parts, both_ways, false≢true}
use Rattle.stripe_layout.specs.declared.mode.Mode.{Mode}
use Rattle.stripe_layout.specs.Layout.{parity_of, IsRowOf}
use Rattle.array_journal.specs.declared.entry.Entry.{Entry}
use Rattle.array_journal.specs.declared.event.Event.{Event}
use Rattle.array_journal.specs.declared.event.Event.TheVariants.{Put}
use Rattle.array_journal.specs.declared.setting.Setting.{Setting}
use Rattle.array_journal.specs.declared.task.Kind.{Kind}
use Rattle.array_journal.specs.declared.task.Kind.TheVariants.{Read, Update, DataOnly, DegradedRead, DegradedWrite, Rebuild, Resync}
use Rattle.array_journal.specs.declared.task.Task.{Task}
use Rattle.array_journal.specs.Commands.{is_open, task_of, is_shared}
use Rattle.array_journal.specs.declared.act.Act.TheVariants.{Puts}
use Rattle.array_journal.specs.Acts.{acts_at, task_bytes}
use Rattle.array_journal.specs.Deltas.{covers, puts_row}
use Rattle.array_journal.specs.May.{MayTarget, IsTask, IsTaskOfKind}
use Rattle.array_journal.specs.Run.{Grows, IsSetting}
use Rattle.array_journal.proofs.runs.Standing.{may-here}
use Rattle.array_journal.proofs.runs.CommandLaws.{named-task, one_task}
use Rattle.array_journal.proofs.owed.EndedCommands.{act-open}
use Rattle.array_journal.proofs.windows.WindowLaws.{exclusive-alone}
use Rattle.array_journal.proofs.lives.DoneRebuilds.{task-sound}
use Rattle.array_journal.proofs.sums.LayoutLaws.{covered-stripe}
use Rattle.array_journal.proofs.owed.DeltaLaws.{covers-range}

-- the rows of an item's task, and so its stripe
pub task-covers : (s : Setting) (task : Task) (stripe r : ℕ) → IsSetting s → IsTask s task → IsRowOf s.geometry stripe r →
    covers s.geometry.block task.row (task_bytes s task) r ≡ true → task.stripe ≡ stripe
task-covers s task stripe r set sound at hit =
    let range : (task.row ≤ r) × (r < task.row + task.count) = covers-range s.geometry.block task.row (task_bytes s task) task.count r set.array.least_block refl hit in
    sym (covered-stripe s task stripe r sound at range.0 range.1)

-- what puts is a command that runs alone, or a write of data alone at its target
puts-kind : (mode : Mode) (kind : Kind) (task : Task) (i : ℕ) → acts_at mode Puts kind task i ≡ true → (is_shared kind ≡ false) ⊎ ((kind ≡ DataOnly) × (i ≡ task.target))
puts-kind mode DataOnly task i h = inr (refl, eqb-true i task.target h)
puts-kind mode DegradedWrite task i h = inl refl
puts-kind mode Resync task i h = inl refl
puts-kind mode Rebuild task i h = inl refl
puts-kind mode Read task i h = absurd (false≢true h)
puts-kind mode Update task i h = absurd (false≢true h)
puts-kind mode DegradedRead task i h = absurd (false≢true h)

-- the command of a put at parity on a row of a stripe runs alone there
pub record PutsParity (s : Setting) (stripe c : ℕ) (past : List Entry) (task : Task) : Type 0 where
  pub its_task : task_of c past ≡ Some task
  pub opened : is_open c past ≡ true
  pub of_stripe : task.stripe ≡ stripe
  pub alone : is_shared task.kind ≡ false

puts-parity : (s : Setting) (past : List Entry) (stamp stripe r : ℕ) (event : Event) → IsSetting s → Grows s past →
    MayTarget s past stamp (parity_of s.geometry stripe) event → IsRowOf s.geometry stripe r → puts_row s r event ≡ true →
    (c : ℕ) × ((task : Task) × PutsParity s stripe c past task)
puts-parity s past stamp stripe r (Put command opened cdb row bytes names) set g m at h = (
  command,
  (
    m.0,
    record {
      its_task = its;
      opened = act-open s past stamp (parity_of s.geometry stripe) command Puts (Put command opened cdb row bytes names) g m (eq-eqb command command refl);
      of_stripe = same;
      alone = exclusive (puts-kind s.mode m.0.kind m.0 (parity_of s.geometry stripe)
          (and_parts (nat_lt (parity_of s.geometry stripe) s.geometry.targets) (acts_at s.mode Puts m.0.kind m.0 (parity_of s.geometry stripe)) m.1.act.of_task).1);
    },
  ),
)
  where
    its : task_of command past ≡ Some m.0
    its = named-task s opened command m.0 past g m.1.act.in_book m.1.act.opening.0

    sound : IsTask s m.0
    sound = task-sound s command m.0 past g its

    same : m.0.stripe ≡ stripe
    same = task-covers s m.0 stripe r set sound at
        (subst (λ (n : ℕ). covers s.geometry.block m.0.row n r ≡ true) m.1.act.whole
        (subst (λ (n : ℕ). covers s.geometry.block n (length bytes) r ≡ true) m.1.act.at_row h))

    exclusive : (is_shared m.0.kind ≡ false) ⊎ ((m.0.kind ≡ DataOnly) × (parity_of s.geometry stripe ≡ m.0.target)) → is_shared m.0.kind ≡ false
    exclusive (inl alone) = alone
    exclusive (inr both) =
        absurd ((subst (λ (k : Kind). IsTaskOfKind s m.0 k) both.0 sound.by_kind).0
        (sym both.1 ∙ ap (parity_of s.geometry) (sym same) ∙ sym sound.parity))
puts-parity s past stamp stripe r _ set g m at h = absurd (false≢true h)

-- so while a shared command is open on the stripe no row of parity is put there
pub no-put_beside : (s : Setting) (stripe r c : ℕ) (task : Task) (e : Entry) (past : List Entry) → IsSetting s → Grows s (e ∷ past) → IsRowOf s.geometry stripe r →
    is_open c past ≡ true → task_of c past ≡ Some task → task.stripe ≡ stripe → is_shared task.kind ≡ true → e.lock ≡ parity_of s.geometry stripe + 1 →
    puts_row s r e.event ≡ false
no-put_beside s stripe r c task e past set g at oc its same shared here = elim (cases_Bool (puts_row s r e.event)) [
  | inl puts ↦ absurd (never (puts-parity s past e.stamp stripe r e.event set g.1
      (may-here s past e.stamp e.lock (parity_of s.geometry stripe) e.event here g.0.1.1) at puts))
  | inr none ↦ none
]
  where
    never : (d : ℕ) × ((other : Task) × PutsParity s stripe d past other) → ⊥
    never (d, (other, p)) = exclusive-alone s d c other task past g.1 p.opened p.its_task p.alone oc its differs (same ∙ sym p.of_stripe)
      where
        differs : c ≢ d
        differs q =
            let one : task ≡ other = one_task task other (sym its ∙ ap (λ (n : ℕ). task_of n past) q ∙ p.its_task) in
            both_ways (is_shared other.kind) p.alone (sym (ap (λ (t : Task). is_shared t.kind) one) ∙ shared)
