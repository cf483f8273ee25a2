-- What a request to read a source is answered: as many bytes as the gathering that asks takes.
use Rattle.std.specs.Prelude.{◌≡◌, ◌≤◌, ◌*◌, ℕ, Bool, true, false, List, [], ◌∷◌, length, Option, Some, None, option_map, IfSome}
use Rattle.std.specs.Bool.{then_some}
use Rattle.std.proofs.Common.{refl, ap, sym, subst, ◌∙◌}
use Rattle.std.proofs.Math.Nat.{zero-mul}
use Rattle.std.proofs.lemmas.Bool.{eqb-true}
use Rattle.std.proofs.lemmas.Option.{same_Some}
use Rattle.sbc_cdbs.specs.Cdbs.{spelling}
use Rattle.sbc_cdbs.specs.Kinds.{block_count}
use Rattle.sbc_cdbs.specs.declared.commands.Command.TheVariants.{Read}
use Rattle.regen_rebuild.specs.Gatherings.{size}
use Rattle.array_journal.specs.declared.at.At.{At}
use Rattle.array_journal.specs.Lives.{loss_of, life_of}
use Rattle.array_journal.specs.Owners.{shut_at}
use Rattle.xor_target.specs.declared.answer.Answer.{Answer}
use Rattle.xor_target.specs.declared.answer.Answer.TheVariants.{Good, Check, Gone, Shut, Peer, Memory}
use Rattle.xor_target.specs.declared.answer.PeerBack.{PeerBack}
use Rattle.xor_target.specs.declared.answer.PeerBack.TheVariants as back
use Rattle.xor_target.specs.declared.order.Order.{Order}
use Rattle.xor_target.specs.declared.order.PeerRequest.{PeerRequest}
use Rattle.xor_target.specs.declared.waiting.Waiting.{Waiting}
use Rattle.xor_target.specs.Admission.{command_in, count_of, refusal_of}
use Rattle.xor_target.specs.Gathers.{GatheringState}
use Rattle.xor_target.specs.Waits.{waiting_of}
use Rattle.xor_target.specs.State.{TargetState, limits_of}
use Rattle.xor_target.specs.Table.{first_answer, refused_row, shut_row, gone_row, idle_row, overlap_row, room_row, unheld_row, early_answer, check, loss_for, is_no_blocks}
use Rattle.xor_target.specs.Answers.{IsActed, Does, Fails, IsExecuted, IsAnswered, WantsMemory, Tells, Executes}
use Rattle.xor_target.specs.Resumes.{IsFitting}
use Rattle.xor_target.specs.Rigs.{IsGoingOn, handed_back}
use Rattle.xor_target.proofs.RigGatherings.{read-count}

-- ---- GOOD before anything is done

-- it answers no bytes, and names no entries, and the command has no blocks
abbrev pub IsIdleGood : Order → Answer → Type 0
IsIdleGood order answer = (bytes : List ℕ) (made : List At) → answer ≡ Good bytes made → (bytes ≡ []) × (made ≡ []) × (is_no_blocks (block_count (command_in order.cdb)) ≡ true)

first-of : (P : Answer → Type 0) (o : Option Answer) (rows : List (Option Answer)) (answer : Answer) → ((a : Answer) → o ≡ Some a → P a) → (first_answer rows ≡ Some answer → P answer) →
    first_answer (o ∷ rows) ≡ Some answer → P answer
first-of P None rows answer own rest h = rest h
first-of P (Some a) rows answer own rest h = own answer h

mapped : {A : Type 0} (P : Answer → Type 0) (f : A → Answer) (o : Option A) (a : Answer) → ((x : A) → P (f x)) → option_map f o ≡ Some a → P a
mapped P f None a says h = absurd cc
mapped P f (Some x) a says h = subst P (same_Some (f x) a h) (says x)

tested : (P : Answer → Type 0) (b : Bool) (x a : Answer) → (b ≡ true → P x) → then_some b x ≡ Some a → P a
tested P true x a says h = subst P (same_Some x a h) (says refl)
tested P false x a says h = absurd cc

pub told-good : (t : TargetState) (order : Order) (answer : Answer) → early_answer t order ≡ Some answer → IsIdleGood order answer
told-good t order answer h =
    let P : Answer → Type 0 = IsIdleGood order in
    let command = command_in order.cdb in
    let unheld = unheld_row t order command in
    let room = room_row t order command in
    let overlap = overlap_row t order command in
    let idle = idle_row command in
    let gone = gone_row t order.owner in
    let shut = shut_row t order.owner in
    first-of P (refused_row t order) (shut ∷ gone ∷ idle ∷ overlap ∷ room ∷ unheld ∷ []) answer
    (λ a e. mapped P (check t order) (refusal_of (limits_of t) t.page order.cdb order.bytes) a (λ s bytes made is. absurd cc) e)
    (λ h1. first-of P shut (gone ∷ idle ∷ overlap ∷ room ∷ unheld ∷ []) answer (λ a e. mapped P Shut (shut_at t.number order.owner t.past) a (λ x bytes made is. absurd cc) e)
    (λ h2. first-of P gone (idle ∷ overlap ∷ room ∷ unheld ∷ []) answer
    (λ a e. mapped P (λ at. Gone at (life_of t.number t.past) (loss_for t order.owner)) (loss_of t.number t.past) a (λ x bytes made is. absurd cc) e)
    (λ h3. first-of P idle (overlap ∷ room ∷ unheld ∷ []) answer
    (λ a e. tested P (is_no_blocks (block_count command)) (Good [] []) a (λ none bytes made is. let empty : bytes ≡ [] = cc in let unnamed : made ≡ [] = cc in (empty, unnamed, none)) e)
    (λ h4. first-of P overlap (room ∷ unheld ∷ []) answer (λ a e. tested P _ _ a (λ b bytes made is. absurd cc) e)
    (λ h5. first-of P room (unheld ∷ []) answer (λ a e. tested P _ _ a (λ b bytes made is. absurd cc) e)
    (λ h6. first-of P unheld [] answer (λ a e. tested P _ _ a (λ b bytes made is. absurd cc) e) (λ h7. absurd cc) h6) h5) h4) h3) h2) h1) h

-- ---- a READ

acted-read : (never_fails : Bool) (t : TargetState) (order : Order) (dpo fua : Bool) (lba count : ℕ) (said : Answer) (now : TargetState) (bytes : List ℕ) (made : List At) →
    IsActed never_fails t order (Read dpo fua lba count) said now → said ≡ Good bytes made → length bytes ≡ count * t.block
acted-read never_fails t order dpo fua lba count said now bytes made (Does own done says) good = let same : own ≡ bytes = cc in sym (ap length same) ∙ done.whole
acted-read never_fails t order dpo fua lba count said now bytes made (Fails struck says) good = absurd cc

no-block : (n : ℕ) (o : Option ℕ) → o ≡ Some n → is_no_blocks o ≡ true → n ≡ 0
no-block n o is none = eqb-true n 0 (sym (ap is_no_blocks is) ∙ none)

no-times : (n b : ℕ) → n ≡ 0 → n * b ≡ 0
no-times n b none = ap (λ (k : ℕ). k * b) none ∙ zero-mul b

read-good : (never_fails : Bool) (t : TargetState) (order : Order) (lba n : ℕ) (said : Answer) (now : TargetState) (bytes : List ℕ) (made : List At) → order.cdb ≡ spelling (Read false false lba n) →
    n ≤ 65535 → IsAnswered never_fails t order said now → said ≡ Good bytes made → length bytes ≡ n * t.block
read-good never_fails t order lba n said now bytes made is few (WantsMemory early says same) good = absurd cc
read-good never_fails t order lba n said now bytes made is few (Tells early same) good =
    let idle = told-good t order said early bytes made good in
    let none : n ≡ 0 = no-block n (block_count (command_in order.cdb)) (ap (λ (c : List ℕ). block_count (command_in c)) is ∙ read-count lba n few) idle.2 in
    ap length idle.0 ∙ sym (no-times n t.block none)
read-good never_fails t order lba n said now bytes made is few (Executes early e) good =
    let command = command_in (spelling (Read false false lba n)) in
    let does : IsExecuted never_fails t order said now command = subst (λ (c : List ℕ). IsExecuted never_fails t order said now (command_in c)) is e in
    acted-read never_fails t order _ _ _ _ said now bytes made does good ∙ ap (λ (k : ℕ). k * t.block) (same_Some _ n (read-count lba n few))

-- ---- what is handed back for it

failed-fits : (t : TargetState) (owner : ℕ) (peer : PeerBack) → Some back.Failed ≡ Some peer → IsFitting t owner peer
failed-fits t owner peer e = subst (λ (p : PeerBack). IsFitting t owner p) (same_Some back.Failed peer e) tt

-- as many bytes as the gathering takes that asked for them
pub read-fits : (never_fails : Bool) (sender asked now : TargetState) (request : PeerRequest) (many : ℕ) (said : Answer) (peer : PeerBack) → IsGoingOn request many sender →
    asked.block ≡ sender.block → IsAnswered never_fails asked request.order said now → handed_back said ≡ Some peer → IsFitting sender request.order.owner peer
read-fits never_fails sender asked now request many (Good bytes made) peer on block answered handed =
    let same : back.Good bytes made ≡ peer = same_Some (back.Good bytes made) peer handed in
    subst (λ (p : PeerBack). IsFitting sender request.order.owner p) same (by_waiting (waiting_of request.order.owner sender.waiting) refl)
  where
    by_gathering : (w : Waiting) (o : Option GatheringState) → waiting_of request.order.owner sender.waiting ≡ Some w → w.gathering ≡ o → IfSome o (λ (g : GatheringState). length bytes ≡ size g.gather)
    by_gathering w None found has = tt
    by_gathering w (Some g) found has =
        let goes = (on w g found has).1 in
        let long = read-good never_fails asked request.order goes.lba (count_of g.admitted.command) (Good bytes made) now bytes made goes.reads goes.few answered refl in
        long ∙ ap (λ (n : ℕ). n * asked.block) (sym goes.count) ∙ ap (λ (b : ℕ). g.gather.count * b) (block ∙ sym goes.block)

    by_waiting : (o : Option Waiting) → waiting_of request.order.owner sender.waiting ≡ o → IfSome o (λ (w : Waiting). IfSome w.gathering (λ (g : GatheringState). length bytes ≡ size g.gather))
    by_waiting None found = tt
    by_waiting (Some w) found = by_gathering w w.gathering found refl
read-fits never_fails sender asked now request many (Check sense made loss) peer on block answered handed = failed-fits sender request.order.owner peer handed
read-fits never_fails sender asked now request many (Gone at life loss) peer on block answered handed = failed-fits sender request.order.owner peer handed
read-fits never_fails sender asked now request many (Shut at) peer on block answered handed = failed-fits sender request.order.owner peer handed
read-fits never_fails sender asked now request many (Peer further made) peer on block answered handed = absurd cc
read-fits never_fails sender asked now request many Memory peer on block answered handed = absurd cc
