-- A task is that of an aim where its fields are.
use Rattle.std.proofs.Common.{◌≡◌, ℕ, ◌&&◌, Bool, List, sym, ap, subst, ◌∙◌}
use Rattle.std.specs.Prelude.{◌↔◌, IsTrue}
use Rattle.std.specs.Bool.{Decides}
use Rattle.std.proofs.lemmas.Bool.Decides.{Decides-and, Decides-eqb, Decides-like}
use Rattle.stripe_layout.specs.declared.geometry.Geometry.{Geometry}
use Rattle.stripe_layout.specs.Layout.{parity_of}
use Rattle.array_journal.specs.declared.task.Kind.{Kind}
use Rattle.array_journal.specs.declared.task.Task.{Task}
use Rattle.host_requests.specs.Begins.{Aim, task_of_piece}
use Rattle.host_requests.specs.Tasks.{same_places}

record HasPlaces (aim : Aim) (parity : ℕ) (task : Task) : Type 0 where
  pub stripe : aim.stripe ≡ task.stripe
  pub target : aim.target ≡ task.target
  pub parity_at : parity ≡ task.parity
  pub row : aim.row ≡ task.row
  pub count : aim.count ≡ task.count

places-decided : (aim : Aim) (parity : ℕ) (task : Task) → Decides (same_places aim parity task) (HasPlaces aim parity task)
places-decided aim parity task =
    Decides-like (same_places aim parity task)
    (λ p. record { stripe = p.0.0.0.0; target = p.0.0.0.1; parity_at = p.0.0.1; row = p.0.1; count = p.1 })
    (λ r. ((((r.stripe, r.target), r.parity_at), r.row), r.count))
    (Decides-and _ _ (Decides-and _ _ (Decides-and _ _ (Decides-and _ _ (Decides-eqb aim.stripe task.stripe) (Decides-eqb aim.target task.target)) (Decides-eqb parity task.parity)) (Decides-eqb aim.row task.row)) (Decides-eqb aim.count task.count))

-- tasks of one call and piece with the same other fields are one
same_task : (task : Task) (kind : Kind) (stripe target parity row count : ℕ) (bytes : List ℕ)
    → kind ≡ task.kind → stripe ≡ task.stripe → target ≡ task.target → parity ≡ task.parity → row ≡ task.row → count ≡ task.count → bytes ≡ task.bytes
    → record { call = task.call; piece = task.piece; kind = kind; stripe = stripe; target = target; parity = parity; row = row; count = count; bytes = bytes } ≡ task
same_task task kind stripe target parity row count bytes ek es et ep er ec eb =
    ap (λ (x : Kind). record { call = task.call; piece = task.piece; kind = x; stripe = stripe; target = target; parity = parity; row = row; count = count; bytes = bytes }) ek
    ∙ ap (λ (x : ℕ). record task { stripe = x; target = target; parity = parity; row = row; count = count; bytes = bytes }) es
    ∙ ap (λ (x : ℕ). record task { target = x; parity = parity; row = row; count = count; bytes = bytes }) et
    ∙ ap (λ (x : ℕ). record task { parity = x; row = row; count = count; bytes = bytes }) ep
    ∙ ap (λ (x : ℕ). record task { row = x; count = count; bytes = bytes }) er
    ∙ ap (λ (x : ℕ). record task { count = x; bytes = bytes }) ec
    ∙ ap (λ (x : List ℕ). record task { bytes = x }) eb

pub task-decided : (g : Geometry) (aim : Aim) (kind : Kind) (task : Task) (parity : ℕ) (k p b : Bool) → parity ≡ parity_of g aim.stripe
    → (IsTrue k ↔ (kind ≡ task.kind)) → p ≡ same_places aim parity task → (IsTrue b ↔ (aim.bytes ≡ task.bytes))
    → (IsTrue ((k && p) && b) ↔ (task_of_piece g task.call task.piece aim kind ≡ task))
task-decided g aim kind task parity k p b at kinds places bytes =
    let decided : Decides p (HasPlaces aim parity task) = subst (λ (x : Bool). Decides x (HasPlaces aim parity task)) (sym places) (places-decided aim parity task) in
    Decides-like ((k && p) && b)
    (λ q. same_task task kind aim.stripe aim.target (parity_of g aim.stripe) aim.row aim.count aim.bytes q.0.0 q.0.1.stripe q.0.1.target (sym at ∙ q.0.1.parity_at) q.0.1.row q.0.1.count q.1)
    (λ e. (
      (
        ap (λ (t : Task). t.kind) e,
        record {
          stripe = ap (λ (t : Task). t.stripe) e;
          target = ap (λ (t : Task). t.target) e;
          parity_at = at ∙ ap (λ (t : Task). t.parity) e;
          row = ap (λ (t : Task). t.row) e;
          count = ap (λ (t : Task). t.count) e;
        },
      ),
      ap (λ (t : Task). t.bytes) e,
    ))
    (Decides-and (k && p) b (Decides-and k p kinds decided) bytes)
