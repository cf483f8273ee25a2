-- The words that a program is started with.
use Rattle.std.specs.Prelude.{ℕ, List, [], ◌∷◌, map, Option, Some, None, String, string_bytes}
use Rattle.std.specs.declared.alloc.Global.{Global}

-- the bytes of each word
abbrev pub texts : List (String Global) → List (List ℕ)
texts words = map string_bytes words

-- the one word
abbrev pub single_of : List (List ℕ) → Option (List ℕ)
single_of [] = None
single_of (word ∷ []) = Some word
single_of (word ∷ other ∷ words) = None
