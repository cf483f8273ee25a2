-- Turns that are given by letters.
use Rattle.std.proofs.Common.{◌≡◌, ℕ, ◌-◌, ◌&&◌, nat_le, nat_lt, List, length, map, refl}
use Rattle.std.specs.List.{list_all}
use Rattle.std.proofs.lemmas.List.{length-map}
use Rattle.std.proofs.lemmas.List.Folds.{list_all-map}
use Rattle.host_scripts.specs.Reading.{are_turns}

pub are_turns_is : (hosts : ℕ) (letters : List ℕ) → are_turns hosts (map (λ l. l - 65) letters) ≡ (nat_le (length letters) 1000 && list_all (λ l. nat_lt (l - 65) hosts) letters)
are_turns_is hosts letters = rw (length-map letters (λ l. l - 65), list_all-map (λ h. nat_lt h hosts) (λ l. l - 65) letters) refl
