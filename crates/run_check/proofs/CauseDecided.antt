-- The test of a cause decides whether it is one.
use Rattle.std.proofs.Common.{◌≡◌, ℕ, zero, suc, ◌+◌, ◌-◌, ◌<◌, ◌&&◌, true, List, refl, subst, arith}
use Rattle.std.specs.Bool.{Decides}
use Rattle.std.proofs.lemmas.Bool.{false≢true}
use Rattle.std.proofs.lemmas.Bool.Decides.{Decides-and, Decides-or, Decides-eqb, Decides-ltb, Decides-like}
use Rattle.array_journal.specs.declared.at.At.{At}
use Rattle.array_journal.specs.declared.entry.Entry.{Entry}
use Rattle.array_journal.specs.declared.setting.Setting.{Setting}
use Rattle.array_journal.specs.declared.task.Kind.{Kind}
use Rattle.array_journal.specs.declared.task.Kind.TheVariants.{DegradedRead, Rebuild}
use Rattle.array_journal.specs.declared.task.Task.{Task}
use Rattle.array_journal.specs.Acts.{is_target}
use Rattle.array_journal.specs.Lives.{swap_count, is_unfitted}
use Rattle.array_journal.specs.May.{Names, IsCauseOfLoss, IsCauseOfKind, IsCause, is_loss_in, is_wipe_of}
use Rattle.run_check.proofs.PlainDecided.{Decides-true, Decides-nothing}
use Rattle.run_check.proofs.NamesDecided.{names-decided}
use Rattle.run_check.proofs.ActNamesDecided.{and_left, and_right}
use Rattle.run_check.specs.CauseTest.{cause_of_loss, cause_before, cause_of_kind, cause_at, is_cause}

pub loss-decided : (past : List Entry) (stamp i : ℕ) (cause : At) → Decides (cause_of_loss past stamp i cause) (IsCauseOfLoss past stamp i cause)
loss-decided past stamp i cause =
    Decides-like (cause_of_loss past stamp i cause)
    (λ p. record { at_target = p.0.0; lost = p.0.1; known = p.1 })
    (λ (m : IsCauseOfLoss past stamp i cause). ((m.at_target, m.lost), m.known))
    (Decides-and _ _ (Decides-and _ _ (Decides-eqb cause.lock (i + 1)) (names-decided past stamp cause (is_loss_in (swap_count i past))))
    (Decides-true (is_unfitted i past)))

before-decided : (past : List Entry) (stamp c i : ℕ) (cause : At) → Decides (cause_before past stamp i cause)
    ((life : ℕ) × ((suc life ≡ swap_count i past) × ((cause.lock ≡ i + 1) × Names past stamp cause (is_loss_in life))))
before-decided past stamp c i cause =
    Decides-like (cause_before past stamp i cause)
    (λ p. (swap_count i past - 1, ((let lt = p.0.0 in omega (arith, lt)), (p.0.1, p.1))))
    (λ (life, (e, (at, named))).
    let same : life ≡ swap_count i past - 1 = omega (arith, e) in
    (((let lt : 0 < swap_count i past = omega (arith, e) in lt), at), subst (λ (k : ℕ). Names past stamp cause (is_loss_in k)) same named))
    (Decides-and _ _ (Decides-and _ _ (Decides-ltb 0 (swap_count i past)) (Decides-eqb cause.lock (i + 1)))
    (names-decided past stamp cause (is_loss_in (swap_count i past - 1))))

of_kind-decided : (past : List Entry) (stamp c : ℕ) (task : Task) (cause : At) (kind : Kind) → Decides (cause_of_kind past stamp c task cause kind) (IsCauseOfKind past stamp c task cause kind)
of_kind-decided past stamp c task cause Rebuild = before-decided past stamp c task.target cause
of_kind-decided past stamp c task cause DegradedRead = names-decided past stamp cause (is_wipe_of c)
of_kind-decided past stamp c task cause _ = Decides-nothing

at-decided : (s : Setting) (past : List Entry) (stamp : ℕ) (task : Task) (cause : At) (lock : ℕ) → cause.lock ≡ lock →
    Decides (cause_at s past stamp task cause lock) ((i : ℕ) × ((is_target s task i ≡ true) × IsCauseOfLoss past stamp i cause))
at-decided s past stamp task cause zero e =
    (λ h. absurd (false≢true h), λ (i, (t, m)). let at = m.at_target in absurd (omega (arith, at, e)))
at-decided s past stamp task cause (suc j) e = (
  λ h. (j, ((and_left (is_target s task j) (cause_of_loss past stamp j cause) h), (loss-decided past stamp j cause).0 (and_right (is_target s task j) (cause_of_loss past stamp j cause) h))),
  λ (i, (t, m)).
      let at = m.at_target in
      let same : i ≡ j = omega (arith, at, e) in
      subst (λ (k : ℕ). (is_target s task k && cause_of_loss past stamp k cause) ≡ true) same
      (rw (t, (loss-decided past stamp i cause).1 m) refl),
)

pub cause-decided : (s : Setting) (past : List Entry) (stamp c : ℕ) (task : Task) (cause : At) → Decides (is_cause s past stamp c task cause) (IsCause s past stamp c task cause)
cause-decided s past stamp c task cause =
    Decides-or (cause_at s past stamp task cause cause.lock) (cause_of_kind past stamp c task cause task.kind)
    (at-decided s past stamp task cause cause.lock refl) (of_kind-decided past stamp c task cause task.kind)
