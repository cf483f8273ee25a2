-- The calls of one host among all calls.
use Rattle.std.specs.Prelude.{◌≡◌, ◌<◌, ◌≤◌, ◌+◌, ◌-◌, ◌^◌, ◌==◌, ◌++◌, ℕ, suc, Bool, true, false, List, [], ◌∷◌, Some, cond, drop, length, slice_get}
use Rattle.std.proofs.Common.{refl, ap, sym, ◌∙◌, arith}
use Rattle.std.proofs.lemmas.Bool.{eq-eqb}
use Rattle.std.proofs.lemmas.List.{length-append, length-drop, drop-append-le, drop_at, drop-drop, drop_more, drop_all}
use Rattle.std.proofs.lemmas.Option.{slice_get_within, get_or_from_slice_get}
use Rattle.host_scripts.specs.declared.script.Action.{Action}
use Rattle.host_scripts.specs.declared.script.Call.{Call}
use Rattle.array_control.specs.HostCalls.{calls_from, calls_of, IsPlace}

calls-joined : (host number : ℕ) (xs ys : List Call) →
    calls_from host number (xs ++ ys) ≡ calls_from host number xs ++ calls_from host (number + length xs) ys
calls-joined host number [] ys = ap (λ n. calls_from host n ys) (omega arith)
calls-joined host number (call ∷ xs) ys =
    by (call.host == host) (calls-joined host (suc number) xs ys ∙ ap (λ n. calls_from host (suc number) xs ++ calls_from host n ys) (omega arith))
  where
    by : (b : Bool) → calls_from host (suc number) (xs ++ ys) ≡ calls_from host (suc number) xs ++ calls_from host (number + length (call ∷ xs)) ys →
        cond b ((number, call.action) ∷ calls_from host (suc number) (xs ++ ys)) (calls_from host (suc number) (xs ++ ys))
        ≡ cond b ((number, call.action) ∷ calls_from host (suc number) xs) (calls_from host (suc number) xs)
        ++ calls_from host (number + length (call ∷ xs)) ys
    by true h = ap (λ (l : List (ℕ × Action)). (number, call.action) ∷ l) h
    by false h = h

-- ---- further calls

-- those of the host follow
pub of-joined : (host : ℕ) (old later : List Call) → calls_of host (old ++ later) ≡ calls_of host old ++ calls_from host (length old + 1) later
of-joined host old later = calls-joined host 1 old later ∙ ap (λ n. calls_of host old ++ calls_from host n later) (omega arith)

pub extended-left : (host told : ℕ) (old later calls : List Call) → calls ≡ old ++ later → told ≤ length (calls_of host old) →
    drop told (calls_of host calls) ≡ drop told (calls_of host old) ++ calls_from host (length old + 1) (drop (length old) calls)
extended-left host told old later calls q answered =
    ap (λ (l : List Call). drop told (calls_of host l)) q
    ∙ ap (drop told) (of-joined host old later)
    ∙ drop-append-le told (calls_of host old) (calls_from host (length old + 1) later) answered
    ∙ ap (λ (l : List Call). drop told (calls_of host old) ++ calls_from host (length old + 1) l)
    (sym (ap (drop (length old)) q ∙ drop_at old later (length old) refl))

pub extended-place : (host place told : ℕ) (old later calls : List Call) → IsPlace host place old told → calls ≡ old ++ later → length calls < 2 ^ 32 →
    IsPlace host place calls told
extended-place host place told old later calls at q short = record {
  in_calls = let longer : length calls ≡ length old + length later = ap length q ∙ length-append old later in omega (arith, longer, at.in_calls);
  short = short;
  answered =
      let longer : length (calls_of host calls) ≡ length (calls_of host old) + length (calls_from host (length old + 1) later) =
      ap (λ (l : List Call). length (calls_of host l)) q ∙ ap length (of-joined host old later)
      ∙ length-append (calls_of host old) (calls_from host (length old + 1) later) in
      omega (arith, longer, at.answered);
  left =
      let rest : length (drop place old) ≡ length old - place = length-drop place old in
      let next : (place + 1) + length (drop place old) ≡ length old + 1 = omega (arith, rest, at.in_calls) in
      ap (λ (l : List Call). calls_from host (place + 1) (drop place l)) q
      ∙ ap (calls_from host (place + 1)) (drop-append-le place old later at.in_calls)
      ∙ calls-joined host (place + 1) (drop place old) later
      ∙ ap (λ n. calls_from host (place + 1) (drop place old) ++ calls_from host n later) next
      ∙ ap (λ (l : List (ℕ × Action)). l ++ calls_from host (length old + 1) later) at.left
      ∙ sym (drop-append-le told (calls_of host old) (calls_from host (length old + 1) later) at.answered)
      ∙ ap (drop told) (sym (of-joined host old later))
      ∙ ap (λ (l : List Call). drop told (calls_of host l)) (sym q);
}

-- ---- the call at a place

drop-here : (calls : List Call) (place : ℕ) (call : Call) → slice_get calls place ≡ Some call → drop place calls ≡ call ∷ drop (place + 1) calls
drop-here calls place call q =
    drop_more calls place call (slice_get_within calls place call q)
    ∙ ap (λ (x : Call). x ∷ drop (place + 1) calls) (get_or_from_slice_get calls place call call q)

-- it is the host's
pub own-here : (host place : ℕ) (calls : List Call) (call : Call) → slice_get calls place ≡ Some call → call.host ≡ host →
    calls_from host (place + 1) (drop place calls) ≡ (place + 1, call.action) ∷ calls_from host ((place + 1) + 1) (drop (place + 1) calls)
own-here host place calls call q own =
    let behind : List (ℕ × Action) = calls_from host (suc (place + 1)) (drop (place + 1) calls) in
    ap (calls_from host (place + 1)) (drop-here calls place call q)
    ∙ ap (λ b. cond b ((place + 1, call.action) ∷ behind) behind)
    (eq-eqb call.host host own)
    ∙ ap (λ n. (place + 1, call.action) ∷ calls_from host n (drop (place + 1) calls)) (omega arith)

-- it is another's
pub other-here : (host place : ℕ) (calls : List Call) (call : Call) → slice_get calls place ≡ Some call → (call.host == host) ≡ false →
    calls_from host (place + 1) (drop place calls) ≡ calls_from host ((place + 1) + 1) (drop (place + 1) calls)
other-here host place calls call q other =
    let behind : List (ℕ × Action) = calls_from host (suc (place + 1)) (drop (place + 1) calls) in
    ap (calls_from host (place + 1)) (drop-here calls place call q)
    ∙ ap (λ b. cond b ((place + 1, call.action) ∷ behind) behind) other
    ∙ ap (λ n. calls_from host n (drop (place + 1) calls)) (omega arith)

-- behind all there is none
pub none-behind : (host : ℕ) (calls : List Call) → calls_from host (length calls + 1) (drop (length calls) calls) ≡ []
none-behind host calls = ap (calls_from host (length calls + 1)) (drop_all (length calls) calls (omega arith))

-- one more is told
pub told-place : (host place behind told : ℕ) (calls : List Call) → IsPlace host place calls told → 0 < length (drop told (calls_of host calls)) →
    behind ≤ length calls → calls_from host (behind + 1) (drop behind calls) ≡ drop 1 (calls_from host (place + 1) (drop place calls)) →
    IsPlace host behind calls (told + 1)
told-place host place behind told calls at some within q = record {
  in_calls = within;
  short = at.short;
  answered =
      let rest : length (drop told (calls_of host calls)) ≡ length (calls_of host calls) - told = length-drop told (calls_of host calls) in
      omega (arith, rest, some);
  left = q ∙ ap (drop 1) at.left ∙ drop-drop 1 told (calls_of host calls);
}

-- another place, before which the host has no further call
pub other-place : (host place other told : ℕ) (calls : List Call) → IsPlace host place calls told → other ≤ length calls →
    calls_from host (place + 1) (drop place calls) ≡ calls_from host (other + 1) (drop other calls) → IsPlace host other calls told
other-place host place other told calls at within q = record { in_calls = within; short = at.short; answered = at.answered; left = sym q ∙ at.left }
