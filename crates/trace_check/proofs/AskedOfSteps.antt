-- What is decided over the steps of a journal is decided over the journal.
use Rattle.std.proofs.Common.{◌≡◌, ℕ, suc, List, [], ◌∷◌, length, reverse, refl, sym, ap, subst, ◌∙◌}
use Rattle.std.proofs.lemmas.List.{length-reverse}
use Rattle.array_journal.specs.declared.entry.Entry.{Entry}
use Rattle.stripe_check.specs.Asked.{AreInTurn, IsServed, goes_back, is_of_host}
use Rattle.host_requests.specs.Begins.{Begin}
use Rattle.host_requests.specs.Requests.{Request}
use Rattle.stripe_check.specs.Steps.{Step}
use Rattle.std.specs.Prelude.{filter, true, ◌↔◌, IsTrue, Bool, ◌<◌, Option}
use Rattle.host_scripts.specs.declared.script.Script.{Script}
use Rattle.trace_check.specs.declared.asking.entry_steps.EntryStep.{EntryStep}
use Rattle.trace_check.specs.EntrySteps.{AreStepsOf}
use Rattle.trace_check.specs.HostOrder.{AreStepsInTurn}
use Rattle.trace_check.proofs.StepsRead.{marked-calls}

pub marked-turns : (script : Script) (b : Bool) (entry_steps : List EntryStep) (past : List Entry) → AreStepsOf entry_steps past
    → (IsTrue b ↔ AreStepsInTurn script entry_steps) → (IsTrue b ↔ AreInTurn script past)
marked-turns script b entry_steps past h d =
    subst (λ (calls : List ℕ). IsTrue b ↔ ((host : ℕ) → host < script.hosts → goes_back (filter (is_of_host script host) calls) ≡ true)) (marked-calls entry_steps past h) d

as-many : (entry_steps : List EntryStep) (past : List Entry) → AreStepsOf entry_steps past → length entry_steps ≡ length past
as-many [] [] h = refl
as-many [] (e ∷ past) h = absurd h
as-many (entry_step ∷ entry_steps) [] h = absurd h
as-many (entry_step ∷ entry_steps) (e ∷ past) h = ap suc (as-many entry_steps past h.1)

pub as-many-entry_steps : (entry_steps : List EntryStep) (entries : List Entry) → AreStepsOf (reverse entry_steps) (reverse entries) → length entry_steps ≡ length entries
as-many-entry_steps entry_steps entries h = sym (length-reverse entry_steps) ∙ as-many (reverse entry_steps) (reverse entries) h ∙ length-reverse entries

pub served-as : (script : Script) (whole : List Entry) (b : Bool) (j k : Request) (l m : List Step) → j ≡ k → l ≡ m
    → (IsTrue b ↔ IsServed script whole j l) → (IsTrue b ↔ IsServed script whole k m)
served-as script whole b j k l m e f d =
    subst (λ (x : List Step). IsTrue b ↔ IsServed script whole k x) f (subst (λ (x : Request). IsTrue b ↔ IsServed script whole x l) e d)

pub begun-as : (b : Bool) (x y : Option Begin) (z : Option Begin) → x ≡ y → (IsTrue b ↔ (x ≡ z)) → (IsTrue b ↔ (y ≡ z))
begun-as b x y z e d = subst (λ (o : Option Begin). IsTrue b ↔ (o ≡ z)) e d
