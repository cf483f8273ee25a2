use Rattle.std.proofs.Common.{◌≡◌, List, ℕ, subst}
use Rattle.std.specs.Prelude.{◌↔◌, IsTrue}
use Rattle.host_requests.specs.Forms.{aim_as, payload_bytes}
use Rattle.host_requests.proofs.AimTasks.{task-decided}
use Rattle.host_requests.proofs.aims.Aim.is_task.Goals as goal

pub returns : goal.returns
returns c =
    rw (c.both-2.ensures, c.both.ensures)
    (task-decided c.args.geometry.now (aim_as c.args.self) c.args.kind c.args.task.now c.parity-parity.result
    c.is_same_kind-same_kind.result c.has_places-places.result c.is-bytes.result
    c.parity-parity.ensures.value c.is_same_kind-same_kind.ensures c.has_places-places.ensures
    (subst (λ (l : List ℕ). IsTrue c.is-bytes.result ↔ (payload_bytes c.args.self.bytes ≡ l)) c.as_slice.ensures c.is-bytes.ensures))
