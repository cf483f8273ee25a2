-- What is told of runs, of one more at their end.
use Rattle.std.proofs.Common.{List, ℕ, [], ◌∷◌, ◌++◌, refl, sym, subst}
use Rattle.worked_cases.specs.declared.lists.CaseRun.{CaseRun}
use Rattle.worked_cases.specs.Runs.{IsTold, AreTold}

pub AreTold-push : (runs : List CaseRun) (run : CaseRun) (before between after : List ℕ) →
    AreTold runs before between → IsTold run between after → AreTold (runs ++ run ∷ []) before after
AreTold-push [] run before between after none told =
    let P : List ℕ → Type 0 = λ text. IsTold run text after in
    (after, (subst P (sym none) told, refl))
AreTold-push (first ∷ runs) run before between after more told = (more.0, (more.1.0, AreTold-push runs run more.0 between after more.1.1 told))
