-- A script no line of which waits for later can be run.
use Rattle.std.proofs.Common.{◌≡◌, ◌+◌, ◌/◌, ◌==◌, ◌&&◌, nat_le, not, cond, ℕ, suc, Bool, true, false, List, [], ◌∷◌, length, Option, Some, None, refl, arith}
use Rattle.std.specs.List.{AllByRecursion}
use Rattle.std.proofs.lemmas.Bool.{and_parts, leb-true, eqb-true, not-false}
use Rattle.stripe_layout.specs.Layout.{capacity_of, room_in_unit}
use Rattle.stripe_layout.specs.declared.mode.Mode.{Mode}
use Rattle.stripe_layout.specs.declared.mode.Mode.TheVariants.{Supervised, ThirdParty, Readback}
use Rattle.host_scripts.specs.declared.script.Script.{Script}
use Rattle.host_scripts.specs.declared.script.Call.{Call}
use Rattle.host_scripts.specs.declared.script.Action.{Action}
use Rattle.host_scripts.specs.declared.script.Action.TheVariants.{Read, Write, Fill, Raw, Lose, Reset, DropNext, Replace, Rebuild, Resync}
use Rattle.host_requests.specs.Settings.{most_blocks}
use Rattle.host_requests.specs.Settings.{setting_of}
use Rattle.xor_cli.specs.Inputs.{IsRunnable}
use Rattle.xor_cli.specs.Headline.{IsStart}
use Rattle.xor_cli.specs.Unsupported.{can_serve_in, is_one_piece, can_do, can_call, later_call}
use Rattle.xor_cli.proofs.Today.{AreOnePiece, CanDo, CanCall, CanRun}

-- nothing is left where the choice says so
left-none : (b : Bool) (n : ℕ) (other : Option ℕ) → cond b (Some n) other ≡ None → (b ≡ false) × (other ≡ None)
left-none true n other e = absurd cc
left-none false n other e = (refl, e)

one-piece : (s : Script) (lba count : ℕ) → is_one_piece s lba count ≡ true → AreOnePiece s lba count
one-piece s lba count e =
    let a = and_parts (nat_le 1 count && nat_le count (most_blocks s) && nat_le (lba + count) (capacity_of s.geometry)) (nat_le count (room_in_unit s.geometry lba)) e in
    let b = and_parts (nat_le 1 count && nat_le count (most_blocks s)) (nat_le (lba + count) (capacity_of s.geometry)) a.0 in
    let c = and_parts (nat_le 1 count) (nat_le count (most_blocks s)) b.0 in
    record {
      some = leb-true 1 count c.0;
      most = leb-true count (most_blocks s) c.1;
      in_unit = leb-true count (room_in_unit s.geometry lba) a.1;
      within = leb-true (lba + count) (capacity_of s.geometry) b.1;
    }

do-today : (s : Script) (action : Action) → can_do s action ≡ true → CanDo s action
do-today s (Read lba count) e = one-piece s lba count e
do-today s (Write lba bytes) e = one-piece s lba (length bytes / s.geometry.block) e
do-today s (Fill lba count byte) e = absurd cc
do-today s (Raw cdb bytes) e = absurd cc
do-today s (Lose target) e = absurd cc
do-today s (Reset target) e = absurd cc
do-today s (DropNext target) e = absurd cc
do-today s (Replace target) e = absurd cc
do-today s (Rebuild target) e = absurd cc
do-today s Resync e = absurd cc

call-today : (s : Script) (call : Call) → can_call s call ≡ true → CanCall s call
call-today s call e =
    let parts = and_parts (call.host == 0) (can_do s call.action) e in
    (eqb-true call.host 0 parts.0, do-today s call.action parts.1)

passed : (b : Bool) (n : ℕ) (other : Option ℕ) → cond b other (Some n) ≡ None → (b ≡ true) × (other ≡ None)
passed true n other e = (refl, e)
passed false n other e = absurd cc

calls-today : (s : Script) (number : ℕ) (calls : List Call) → later_call s number calls ≡ None → AllByRecursion (CanCall s) calls
calls-today s number [] e = tt
calls-today s number (call ∷ calls) e =
    let first = passed (can_call s call) number (later_call s (suc number) calls) e in
    (call-today s call first.0, calls-today s (suc number) calls first.1)

supervised : (mode : Mode) → not (can_serve_in mode) ≡ false → mode ≡ Supervised
supervised Supervised e = refl
supervised ThirdParty e = absurd cc
supervised Readback e = absurd cc

unordered : (order : List ℕ) → not (length order == 0) ≡ false → order ≡ []
unordered [] e = refl
unordered (h ∷ hosts) e = let none : length (h ∷ hosts) ≡ 0 = eqb-true (length (h ∷ hosts)) 0 (not-false (length (h ∷ hosts) == 0) e) in absurd (omega (arith, none))

pub runs-today : (s : Script) → IsRunnable s → CanRun s
runs-today s is =
    let version = left-none (not (s.version == 1)) 1 _ is.2 in
    let mode = left-none (not (can_serve_in s.mode)) 8 _ version.1 in
    let turns = left-none (not (length s.order == 0)) 11 _ mode.1 in
    record {
      in_range = is.0;
      supervised = supervised s.mode mode.0;
      unordered = unordered s.order turns.0;
      calls = calls-today s 11 s.calls turns.1;
    }

-- its array is one in which the controller moves the deltas
pub starts-today : (s : Script) → IsRunnable s → IsStart (setting_of s)
starts-today s is =
    let version = left-none (not (s.version == 1)) 1 _ is.2 in
    let mode = left-none (not (can_serve_in s.mode)) 8 _ version.1 in
    (record { array = is.0.geometry; least_buffer = is.0.least_buffer; most_buffer = is.0.most_buffer }, supervised s.mode mode.0)
