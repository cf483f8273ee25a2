-- Which answer is handed on to a command that waits, and which is told that its owner was shut or the disk lost.
use Rattle.std.specs.Prelude.{◌≡◌, ◌||◌, ℕ, Bool, true, false, List, [], ◌∷◌, Option, Some, None, option_map, unwrap_or, is_some, is_none, MatchOption}
use Rattle.std.proofs.Common.{refl, ap, sym, ◌∙◌}
use Rattle.std.proofs.lemmas.Bool.{false≢true}
use Rattle.array_journal.specs.declared.at.At.{At}
use Rattle.array_journal.specs.Lives.{is_gone, loss_of}
use Rattle.array_journal.specs.Owners.{shut_at}
use Rattle.xor_target.specs.declared.answer.Answer.{Answer}
use Rattle.xor_target.specs.declared.waiting.Waiting.{Waiting}
use Rattle.xor_target.specs.Waits.{waiting_of, sends}
use Rattle.xor_target.specs.State.{TargetState, is_waiting}
use Rattle.xor_target.specs.Table.{first_answer, shut_row, gone_row}
use Rattle.xor_target.specs.Resumes.{may_resume, is_sending, ended_answer, goes_on}

-- a delta that was sent is waited for
pub sending-goes : (t : TargetState) (owner : ℕ) → is_sending t owner ≡ true → goes_on t owner ≡ true
sending-goes t owner h = ap (λ b. b || is_none (ended_answer t owner)) h

-- an owner that was shut is told so
pub ended-first : (t : TargetState) (owner : ℕ) (answer : Answer) → is_sending t owner ≡ false → shut_row t owner ≡ Some answer →
    (goes_on t owner ≡ false) × (ended_answer t owner ≡ Some answer)
ended-first t owner answer sent shut = (
  ap (λ b. b || is_none (ended_answer t owner)) sent ∙ ap (λ (o : Option Answer). false || is_none (first_answer (o ∷ gone_row t owner ∷ []))) shut,
  ap (λ (o : Option Answer). first_answer (o ∷ gone_row t owner ∷ [])) shut,
)

-- and one that wasn't is told that the disk is lost, or goes on
pub ended-second : (t : TargetState) (owner : ℕ) (o : Option Answer) → is_sending t owner ≡ false → shut_row t owner ≡ None → o ≡ gone_row t owner →
    MatchOption o (goes_on t owner ≡ true) (λ answer. (goes_on t owner ≡ false) × (ended_answer t owner ≡ Some answer))
ended-second t owner None sent shut gone =
    ap (λ b. b || is_none (ended_answer t owner)) sent ∙ ap (λ (o : Option Answer). false || is_none (first_answer (o ∷ gone_row t owner ∷ []))) shut
    ∙ ap (λ (o : Option Answer). false || is_none (first_answer (None ∷ o ∷ []))) (sym gone)
ended-second t owner (Some answer) sent shut gone = (
  ap (λ b. b || is_none (ended_answer t owner)) sent ∙ ap (λ (o : Option Answer). false || is_none (first_answer (o ∷ gone_row t owner ∷ []))) shut
      ∙ ap (λ (o : Option Answer). false || is_none (first_answer (None ∷ o ∷ []))) (sym gone),
  ap (λ (o : Option Answer). first_answer (o ∷ gone_row t owner ∷ [])) shut ∙ ap (λ (o : Option Answer). first_answer (None ∷ o ∷ [])) (sym gone),
)

pub none-is : {A : Type 0} (o : Option A) → is_none o ≡ true → o ≡ None
none-is None h = refl
none-is (Some a) h = absurd (false≢true h)

-- a gathering goes on where nothing is told
pub gathering-goes : (t : TargetState) (owner : ℕ) → goes_on t owner ≡ true → is_sending t owner ≡ false → ended_answer t owner ≡ None
gathering-goes t owner goes sent = none-is (ended_answer t owner) (sym (ap (λ b. b || is_none (ended_answer t owner)) sent) ∙ goes)

-- nothing is told of one that wasn't shut, on a disk that isn't lost
told-none : (shut loss : Option At) (said : At → Answer) (lost : At → Answer) → first_answer (option_map said shut ∷ option_map lost loss ∷ []) ≡ None →
    (is_some shut ≡ false) × (is_some loss ≡ false)
told-none None None said lost h = (refl, refl)
told-none None (Some at) said lost h = absurd cc
told-none (Some at) loss said lost h = absurd cc

none-of-three : (a b c : Bool) → (a || b || c) ≡ true → a ≡ false → b ≡ false → c ≡ false → ⊥
none-of-three false false false h x y z = false≢true h
none-of-three true b c h x y z = false≢true (sym x)
none-of-three false true c h x y z = false≢true (sym y)
none-of-three false false true h x y z = false≢true (sym z)

waits-by : (t : TargetState) (owner : ℕ) (o : Option Waiting) → waiting_of owner t.waiting ≡ o → may_resume t owner ≡ true → goes_on t owner ≡ true → is_some o ≡ true
waits-by t owner (Some w) found may goes = refl
waits-by t owner None found may goes =
    let sent : is_sending t owner ≡ false = ap (λ (x : Option Waiting). unwrap_or (option_map sends x) false) found in
    let none = told-none (shut_at t.number owner t.past) (loss_of t.number t.past) _ _ (gathering-goes t owner goes sent) in
    absurd (none-of-three (is_waiting t owner) (is_some (shut_at t.number owner t.past)) (is_gone t.number t.past) may (ap (λ (x : Option Waiting). is_some x) found) none.0 none.1)

-- what may be resumed, and goes on, waits
pub goes-waits : (t : TargetState) (owner : ℕ) → may_resume t owner ≡ true → goes_on t owner ≡ true → is_waiting t owner ≡ true
goes-waits t owner may goes = waits-by t owner (waiting_of owner t.waiting) refl may goes

-- one that sends waits, and gathers nothing
pub sending-waits : (ws : List Waiting) (owner : ℕ) (o : Option Waiting) → waiting_of owner ws ≡ o → unwrap_or (option_map sends o) false ≡ true → is_some o ≡ true
sending-waits ws owner None found h = absurd (false≢true h)
sending-waits ws owner (Some w) found h = refl

pub sends-nothing : (w : Waiting) (o : Option Waiting) → o ≡ Some w → unwrap_or (option_map sends o) false ≡ true → w.gathering ≡ None
sends-nothing w o found h =
    none-is w.gathering (sym (ap (λ (x : Option Waiting). unwrap_or (option_map sends x) false) found) ∙ h)
