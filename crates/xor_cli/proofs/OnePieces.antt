-- Calls that are one piece: how the book begins them, and that the steps of one command serve them.
use Rattle.std.specs.Prelude.{◌≡◌, ◌+◌, ◌*◌, ℕ, suc, true, List, [], ◌∷◌, length, Some, option_map, slice_get}
use Rattle.std.proofs.Common.{refl, ap, sym, subst, ◌∙◌, arith, add-zero}
use Rattle.stripe_layout.specs.declared.pieces.Piece.{Piece}
use Rattle.stripe_layout.specs.Layout.{stripe_of, target_of}
use Rattle.stripe_layout.specs.Pieces.{piece_of}
use Rattle.array_journal.specs.declared.entry.Entry.{Entry}
use Rattle.array_journal.specs.declared.task.Kind.{Kind}
use Rattle.array_journal.specs.declared.task.Task.{Task}
use Rattle.array_journal.specs.declared.decision.Decision.TheVariants.{Opens}
use Rattle.array_journal.specs.Decision.{decision}
use Rattle.host_scripts.specs.declared.script.Script.{Script}
use Rattle.host_scripts.specs.declared.script.Call.{Call}
use Rattle.host_requests.specs.Settings.{setting_of}
use Rattle.stripe_check.specs.Asked.{IsServed, AreServed, goes_through}
use Rattle.host_requests.specs.Begins.{Opening, begin_of, begin_call, begin_request, begin_aim, begin_decided, piece_aim, transfer_pieces, task_of_piece}
use Rattle.host_requests.specs.Requests.{Request, Moves, Transfer, request_of, call_at, writing}
use Rattle.stripe_check.specs.Steps.{Begins, Ends, Done, steps_of}
use Rattle.xor_cli.specs.Tasks.{task_at}
use Rattle.stripe_check.proofs.OnePiece.{bytes-one, served-one}

-- the call of a number is one piece
pub record IsOnePiece (script : Script) (number : ℕ) (call : Call) (t : Transfer) : Type 0 where
  pub there : call_at script.calls number ≡ Some call
  pub job : request_of script.geometry call.action ≡ Moves t
  pub whole : transfer_pieces script t ≡ piece_of script.geometry t.lba t.count ∷ []

-- the task of a call of one piece
abbrev pub whole_task : Script → ℕ → Transfer → Kind → Task
whole_task script number t kind = task_of_piece script.geometry number 0 (piece_aim script.geometry t (piece_of script.geometry t.lba t.count)) kind

-- the book opens it as it decides
pub opens-one : (script : Script) (number : ℕ) (call : Call) (t : Transfer) (past : List Entry) (kind : Kind) → IsOnePiece script number call t →
    decision (setting_of script) t.want (stripe_of script.geometry t.lba) (target_of script.geometry t.lba) past ≡ Opens kind →
    begin_of script number 0 past ≡ Some (Opening (whole_task script number t kind))
opens-one script number call t past kind one decided =
    ap (begin_call script number 0 past) one.there
    ∙ ap (begin_request script number 0 past) one.job
    ∙ ap (λ (pieces : List Piece). option_map (begin_aim script number 0 past) (option_map (piece_aim script.geometry t) (slice_get pieces 0))) one.whole
    ∙ ap (λ d. Some (begin_decided script.geometry number 0 (piece_aim script.geometry t (piece_of script.geometry t.lba t.count)) d)) decided

-- it is served by the one command that was opened and closed as done
pub steps-serve : (script : Script) (whole : List Entry) (number : ℕ) (call : Call) (t : Transfer) (c : ℕ) → IsOnePiece script number call t →
    steps_of number whole ≡ Begins 0 c ∷ Ends c Done ∷ [] → IsServed script whole (request_of script.geometry call.action) (steps_of number whole)
steps-serve script whole number call t c one steps =
    let pieces : goes_through true (length (transfer_pieces script t)) 0 0 (steps_of number whole) ≡ true =
    ap (λ (xs : List Piece). goes_through true (length xs) 0 0 (steps_of number whole)) one.whole
    ∙ ap (goes_through true 1 0 0) steps ∙ served-one c in
    subst (λ (job : Request). IsServed script whole job (steps_of number whole)) (sym one.job) pieces

-- all calls are served where each by itself is
pub all-served : (script : Script) (whole : List Entry) (calls : List Call) (number : ℕ) →
    ((place : ℕ) (call : Call) → slice_get calls place ≡ Some call → IsServed script whole (request_of script.geometry call.action) (steps_of (number + place) whole)) →
    AreServed script whole number calls
all-served script whole [] number each = tt
all-served script whole (call ∷ calls) number each = (
  subst (λ n. IsServed script whole (request_of script.geometry call.action) (steps_of n whole)) (add-zero number) (each 0 call refl),
  all-served script whole calls (suc number)
      (λ place other at. subst (λ n. IsServed script whole (request_of script.geometry other.action) (steps_of n whole)) (shifted number place) (each (suc place) other at)),
)
  where
    shifted : (n place : ℕ) → n + suc place ≡ suc n + place
    shifted n place = omega arith

-- the task of a write of one piece has all its bytes
pub write-whole : (script : Script) (number lba count : ℕ) (bytes : List ℕ) (kind : Kind) → length bytes ≡ count * script.geometry.block →
    whole_task script number (writing lba count bytes) kind ≡ task_at script.geometry number kind lba count bytes
write-whole script number lba count bytes kind due =
    ap (task_at script.geometry number kind lba count) (bytes-one lba count script.geometry.block bytes due)
