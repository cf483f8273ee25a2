-- Whether a command changed a medium, by its acts there.
use Rattle.std.proofs.Common.{◌≡◌, ◌==◌, ◌&&◌, ◌||◌, ℕ, Bool, true, false, List, [], ◌∷◌, refl, ap, ◌∙◌}
use Rattle.array_journal.specs.declared.entry.Entry.{Entry}
use Rattle.array_journal.specs.declared.act.Act.TheVariants.{Puts, Diffs, Folds}
use Rattle.array_journal.specs.Acts.{is_act, changes_medium}
use Rattle.array_journal.specs.Entries.{some_at}

any-of-three : (here x y z p q r : Bool) → (((here && x) || p) || ((here && y) || q) || ((here && z) || r)) ≡ ((here && (x || y || z)) || (p || q || r))
any-of-three false x y z p q r = refl
any-of-three true true y z p q r = refl
any-of-three true false true z true q r = refl
any-of-three true false true z false q r = refl
any-of-three true false false true true q r = refl
any-of-three true false false true false true r = refl
any-of-three true false false true false false r = refl
any-of-three true false false false p q r = refl

-- a medium is changed by puts, diffs and folds
pub changes-some : (lock c : ℕ) (past : List Entry)
    → (some_at lock (is_act Puts c) past || some_at lock (is_act Diffs c) past || some_at lock (is_act Folds c) past) ≡ some_at lock (changes_medium c) past
changes-some lock c [] = refl
changes-some lock c (e ∷ past) =
    any-of-three (e.lock == lock) (is_act Puts c e.event) (is_act Diffs c e.event) (is_act Folds c e.event)
    (some_at lock (is_act Puts c) past) (some_at lock (is_act Diffs c) past) (some_at lock (is_act Folds c) past)
    ∙ ap (λ b. ((e.lock == lock) && changes_medium c e.event) || b) (changes-some lock c past)
