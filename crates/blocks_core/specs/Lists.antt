-- Parts of lists of bytes: what media, buffers and journals say of their bytes.
use Rattle.std.specs.Prelude.{◌+◌, ◌*◌, ℕ, List, ◌++◌, length, take, drop}

-- so many bytes from a place on
abbrev pub slice : List ℕ → ℕ → ℕ → List ℕ
slice bytes at len = take len (drop at bytes)

-- the bytes with others put over them from a place on
abbrev pub put : List ℕ → ℕ → List ℕ → List ℕ
put old at bytes = take at old ++ bytes ++ drop (at + length bytes) old

-- one block of some bytes
abbrev pub block_at : ℕ → List ℕ → ℕ → List ℕ
block_at block bytes k = slice bytes (k * block) block
