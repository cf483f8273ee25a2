-- Tests that decide facts.
use Rattle.std.proofs.Common.{◌≡◌, ◌==◌, ℕ, ◌≤◌, nat_le, not, Bool, true, false, List, [], ◌∷◌, length, Option, Some, None, refl, sym, ap, subst, arith, ◌∙◌}
use Rattle.std.specs.Bool.{Decides}
use Rattle.std.proofs.lemmas.Slice.Eq.{bytes_eq-Decides}
use Rattle.std.proofs.lemmas.Bool.{false≢true}
use Rattle.std.proofs.lemmas.Bool.Decides.{Decides-and, Decides-eqb, Decides-like, nat_tests}
use Rattle.array_journal.specs.declared.at.At.{At}
use Rattle.array_journal.specs.declared.task.Kind.{Kind}
use Rattle.array_journal.specs.declared.task.Kind.TheVariants.{Read, Update, DataOnly, DegradedRead, DegradedWrite, Rebuild, Resync}
use Rattle.array_journal.specs.Entries.{same_at}
use Rattle.run_check.specs.Plain.{is_empty, same_bool, same_found, same_place, same_kind}

pub Decides-le : (a b : ℕ) → Decides (nat_le a b) (a ≤ b)
Decides-le a b = (λ h. grind (arith, nat_tests), λ h. grind (arith, nat_tests))

pub Decides-true : (b : Bool) → Decides b (b ≡ true)
Decides-true b = (λ h. h, λ h. h)

pub Decides-false : (b : Bool) → Decides (not b) (b ≡ false)
Decides-false true = (λ h. absurd (false≢true h), λ h. sym h)
Decides-false false = (λ h. refl, λ h. refl)

pub Decides-empty : (xs : List ℕ) → Decides (is_empty xs) (xs ≡ [])
Decides-empty xs = Decides-like (is_empty xs) (nil-from xs) (λ e. ap length e) (Decides-eqb (length xs) 0)
  where
    nil-from : (xs : List ℕ) → length xs ≡ 0 → xs ≡ []
    nil-from [] e = refl
    nil-from (x ∷ xs) e = absurd (omega (arith, e))

same_kind-refl : (a : Kind) → same_kind a a ≡ true
same_kind-refl Read = refl
same_kind-refl Update = refl
same_kind-refl DataOnly = refl
same_kind-refl DegradedRead = refl
same_kind-refl DegradedWrite = refl
same_kind-refl Rebuild = refl
same_kind-refl Resync = refl

same_kind-sound : (a b : Kind) → same_kind a b ≡ true → a ≡ b
same_kind-sound Read Read h = refl
same_kind-sound Update Update h = refl
same_kind-sound DataOnly DataOnly h = refl
same_kind-sound DegradedRead DegradedRead h = refl
same_kind-sound DegradedWrite DegradedWrite h = refl
same_kind-sound Rebuild Rebuild h = refl
same_kind-sound Resync Resync h = refl
same_kind-sound _ _ h = absurd (false≢true h)

pub Decides-kind : (a b : Kind) → Decides (same_kind a b) (a ≡ b)
Decides-kind a b = (same_kind-sound a b, λ e. subst (λ (k : Kind). same_kind a k ≡ true) e (same_kind-refl a))

pub Decides-at_name : (a b : At) → Decides (same_at a b) (a ≡ b)
Decides-at_name a b =
    Decides-like (same_at a b)
    (λ p. ap (λ (n : ℕ). record a { stamp = n }) p.0 ∙ ap (λ (n : ℕ). record b { lock = n }) p.1)
    (λ e. (ap (λ (x : At). x.stamp) e, ap (λ (x : At). x.lock) e))
    (Decides-and (a.stamp == b.stamp) (a.lock == b.lock) (Decides-eqb a.stamp b.stamp) (Decides-eqb a.lock b.lock))

pub Decides-nothing : Decides false ⊥
Decides-nothing = (λ h. false≢true h, λ h. absurd h)

pub Decides-bool : (a b : Bool) → Decides (same_bool a b) (a ≡ b)
Decides-bool true true = (λ h. refl, λ h. refl)
Decides-bool true false = (λ h. absurd (false≢true h), λ h. sym h)
Decides-bool false true = (λ h. absurd (false≢true h), λ h. h)
Decides-bool false false = (λ h. refl, λ h. refl)

pub Decides-found : (bytes : List ℕ) (o : Option (List ℕ)) → Decides (same_found bytes o) (o ≡ Some bytes)
Decides-found bytes None = (λ h. absurd (false≢true h), λ h. cc)
Decides-found bytes (Some found) =
    Decides-like (same_found bytes (Some found)) (λ e. ap Some (sym e)) (λ e. cc) (bytes_eq-Decides bytes found)

pub place-decided : (a b : Option At) → Decides (same_place a b) (a ≡ b)
place-decided None None = (λ h. refl, λ h. refl)
place-decided None (Some b) = (λ h. absurd (false≢true h), λ h. cc)
place-decided (Some a) None = (λ h. absurd (false≢true h), λ h. cc)
place-decided (Some a) (Some b) = Decides-like (same_place (Some a) (Some b)) (λ e. ap Some e) (λ e. cc) (Decides-at_name a b)
