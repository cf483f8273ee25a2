-- A target hands a call on to its disk and log: what these answer for any pages, they answer for its own.
use Rattle.std.specs.Prelude.{◌≡◌, ℕ, List, Result, Ok, Err, IfOk, OnOk, OnErr}
use Rattle.std.proofs.Common.{sym, subst}
use Rattle.xor_mode_page.specs.declared.pages.XorPage.{XorPage}
use Rattle.xor_target.specs.declared.waiting.Waiting.{Waiting}
use Rattle.xor_target.specs.State.{TargetState, IsTarget}

pub ok-at : {A E : Type 0} (r : Result A E) (P : A → ℕ → XorPage → XorPage → List Waiting → Type 0) (n : ℕ) (f p : XorPage) (w : List Waiting) →
    IfOk r (λ a. (n : ℕ) (f p : XorPage) (w : List Waiting) → P a n f p w) → IfOk r (λ a. P a n f p w)
ok-at (Ok a) P n f p w h = h n f p w
ok-at (Err e) P n f p w h = tt

pub err-at : {A E : Type 0} (r : Result A E) (Q : ℕ → XorPage → XorPage → List Waiting → Type 0) (n : ℕ) (f p : XorPage) (w : List Waiting) →
    OnErr r ((n : ℕ) (f p : XorPage) (w : List Waiting) → Q n f p w) → OnErr r (Q n f p w)
err-at (Ok a) Q n f p w h = tt
err-at (Err e) Q n f p w h = h n f p w

-- both are said of what is good
pub ok-both : {A E : Type 0} (r : Result A E) (P Q : A → Type 0) → IfOk r P → IfOk r Q → IfOk r (λ a. P a × Q a)
ok-both (Ok a) P Q p q = (p, q)
ok-both (Err e) P Q p q = tt

-- a call that is good leaves a target, and one that isn't leaves all as it was
pub kept-target : {A E : Type 0} (r : Result A E) (old new : TargetState) (P : A → Type 0) → IfOk r P → OnErr r (new ≡ old) → ((a : A) → P a → IsTarget new) → IsTarget old → IsTarget new
kept-target (Ok a) old new P p same f i = f a p
kept-target (Err e) old new P p same f i = subst (λ (t : TargetState). IsTarget t) (sym same) i

-- the same of a logical unit, which knows who waits
pub unit-ok : {A E : Type 0} (r : Result A E) (P : A → ℕ → XorPage → XorPage → Type 0) (n : ℕ) (f p : XorPage) →
    IfOk r (λ a. (n : ℕ) (f p : XorPage) → P a n f p) → IfOk r (λ a. P a n f p)
unit-ok (Ok a) P n f p h = h n f p
unit-ok (Err e) P n f p h = tt

pub unit-err : {A E : Type 0} (r : Result A E) (Q : ℕ → XorPage → XorPage → Type 0) (n : ℕ) (f p : XorPage) →
    OnErr r ((n : ℕ) (f p : XorPage) → Q n f p) → OnErr r (Q n f p)
unit-err (Ok a) Q n f p h = tt
unit-err (Err e) Q n f p h = h n f p

-- what is good is more, where more follows from it
pub ok-so : {A E : Type 0} (r : Result A E) (P Q : A → Type 0) → IfOk r P → ((a : A) → P a → Q a) → IfOk r Q
ok-so (Ok a) P Q p f = f a p
ok-so (Err e) P Q p f = tt

-- the same with what else holds where a call is good
pub ok-with : {A E : Type 0} (r : Result A E) (P Q : A → Type 0) (B : Type 0) → IfOk r P → OnOk r B → ((a : A) → P a → B → Q a) → IfOk r Q
ok-with (Ok a) P Q B p b f = f a p b
ok-with (Err e) P Q B p b f = tt
