-- Causes without a sense are told by their number.
use Rattle.std.proofs.Common.{◌≡◌, ◌==◌, ℕ, true, Option, Some, None, is_some, unwrap_or, refl, sym, ap, ◌∙◌}
use Rattle.std.specs.Prelude.{if◌then◌else◌}
use Rattle.std.proofs.lemmas.Bool.{false≢true}
use Rattle.array_journal.specs.declared.event.Why.{Why}
use Rattle.array_journal.specs.declared.event.Why.TheVariants.{Illegal, Medium, NotReady, Unfitted, Present, Listed, Second, Clean, Absent, NotLost}
use Rattle.trace_check.specs.CauseNumbers.{number_of, is_plain}

-- the cause without a sense that has this number
abbrev plain_of : ℕ → Option Why
plain_of n =
    if n == 1 then Some Medium
    else if n == 2 then Some NotReady
    else if n == 3 then Some Unfitted
    else if n == 4 then Some Present
    else if n == 5 then Some Listed
    else if n == 6 then Some Second
    else if n == 7 then Some Clean
    else if n == 8 then Some Absent
    else if n == 9 then Some NotLost
    else None

named : (a : Why) → is_plain a ≡ true → plain_of (number_of a) ≡ Some a
named (Illegal sense) h = absurd (false≢true h)
named Medium h = refl
named NotReady h = refl
named Unfitted h = refl
named Present h = refl
named Listed h = refl
named Second h = refl
named Clean h = refl
named Absent h = refl
named NotLost h = refl

one : (a b : Why) → Some a ≡ Some b → a ≡ b
one a b e = ap (λ (o : Option Why). unwrap_or o a) e

same-name : (a b : Why) → Some a ≡ plain_of (number_of b) → a ≡ b
same-name a (Illegal sense) e = absurd (false≢true (sym (ap (λ (o : Option Why). is_some o) e)))
same-name a Medium e = one a Medium e
same-name a NotReady e = one a NotReady e
same-name a Unfitted e = one a Unfitted e
same-name a Present e = one a Present e
same-name a Listed e = one a Listed e
same-name a Second e = one a Second e
same-name a Clean e = one a Clean e
same-name a Absent e = one a Absent e
same-name a NotLost e = one a NotLost e

pub plain-one : (a b : Why) → is_plain a ≡ true → number_of a ≡ number_of b → a ≡ b
plain-one a b h e = same-name a b (sym (named a h) ∙ ap plain_of e)
