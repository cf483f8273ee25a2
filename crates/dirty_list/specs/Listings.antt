-- Listed stripes, each with its command.
use Rattle.std.specs.Prelude.{◌==◌, nat_lt, ℕ, List, [], ◌∷◌, Option, Some, None, is_some, if◌then◌else◌}

-- the command that a stripe is listed for
abbrev pub command_of : ℕ → List (ℕ × ℕ) → Option ℕ
command_of stripe [] = None
command_of stripe (x ∷ xs) = if stripe == x.0 then Some x.1 else command_of stripe xs

-- one more stripe, before the first that is greater
abbrev pub put_in : ℕ → ℕ → List (ℕ × ℕ) → List (ℕ × ℕ)
put_in stripe command [] = (stripe, command) ∷ []
put_in stripe command (x ∷ xs) = if nat_lt stripe x.0 then (stripe, command) ∷ x ∷ xs else x ∷ put_in stripe command xs

-- a stripe listed for a command, unless it is listed
abbrev pub listed_with : ℕ → ℕ → List (ℕ × ℕ) → List (ℕ × ℕ)
listed_with stripe command xs = if is_some (command_of stripe xs) then xs else put_in stripe command xs

-- the others without a stripe
abbrev pub without : ℕ → List (ℕ × ℕ) → List (ℕ × ℕ)
without stripe [] = []
without stripe (x ∷ xs) = if stripe == x.0 then xs else x ∷ without stripe xs
