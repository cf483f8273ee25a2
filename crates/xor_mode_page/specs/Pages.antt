-- The XOR control mode page (SBC) and the parameter lists of MODE SENSE and MODE SELECT (SPC). The highest
-- byte of a number stands first.
use Rattle.std.specs.Prelude.{◌≡◌, ◌≢◌, ◌⊎◌, ◌<◌, ◌≤◌, ◌^◌, ◌==◌, ◌||◌, ℕ, suc, nat_lt, true, Option, Some, None, option_map, List, [], ◌∷◌, ◌++◌, if◌then◌else◌, length, slice_index, bit_and}
use Rattle.std.specs.Int.{w16, w32, to_be_bytes}
use Rattle.xor_mode_page.specs.declared.pages.XorPage.{XorPage}
use Rattle.xor_mode_page.specs.declared.pages.PageFault.{PageFault}
use Rattle.xor_mode_page.specs.declared.pages.PageFault.TheVariants.{Length, Field}

-- ---- what bytes spell

-- the bytes that spell a page: page code, page length, XORDIS in bit 1, the greatest XOR write, the
-- greatest REGENERATE and REBUILD, and the rebuild delay
abbrev pub spelling : XorPage → List ℕ
spelling p =
    16 ∷ 22 ∷ (if p.xordis then 2 else 0) ∷ 0 ∷ to_be_bytes w32 p.max_write ++ 0 ∷ 0 ∷ 0 ∷ 0 ∷ to_be_bytes w32 p.max_regenerate
    ++ to_be_bytes w32 p.max_rebuild ++ 0 ∷ 0 ∷ to_be_bytes w16 p.delay

-- what has a spelling
pub record Fits (p : XorPage) : Type 0 where
  pub max_write : p.max_write < 2 ^ 32
  pub max_regenerate : p.max_regenerate < 2 ^ 32
  pub max_rebuild : p.max_rebuild < 2 ^ 32
  pub delay : p.delay < 2 ^ 16

-- the bytes spell the page
pub record SpellsPage (bytes : List ℕ) (p : XorPage) : Type 0 where
  pub spelled : bytes ≡ spelling p
  pub fits : Fits p

-- the page that has all bits that may be changed
abbrev pub changeable : XorPage
changeable = record { xordis = true; max_write = 4294967295; max_regenerate = 4294967295; max_rebuild = 4294967295; delay = 65535 }

-- the header of a list of MODE SELECT
abbrev pub select_header : List ℕ
select_header = 0 ∷ 0 ∷ 0 ∷ 0 ∷ 0 ∷ 0 ∷ 0 ∷ 0 ∷ []

-- the header of what MODE SENSE gives: the number of bytes after the first two
abbrev pub sense_header : List ℕ
sense_header = 0 ∷ 30 ∷ 0 ∷ 0 ∷ 0 ∷ 0 ∷ 0 ∷ 0 ∷ []

-- a list of MODE SELECT makes the new page of the old one: no bytes and a header alone leave it as it is
abbrev pub Selects : List ℕ → XorPage → XorPage → Type 0
Selects list old new =
    ((list ≡ []) × (new ≡ old)) ⊎ ((list ≡ select_header) × (new ≡ old)) ⊎ ((list ≡ select_header ++ spelling new) × Fits new)

-- ---- what is wrong with other bytes

-- the bits that are the same on each page, byte by byte, and the values that they have there
abbrev pub fixed_bits : List ℕ
fixed_bits =
    255 ∷ 255 ∷ 253 ∷ 255 ∷ 0 ∷ 0 ∷ 0 ∷ 0 ∷ 255 ∷ 255 ∷ 255 ∷ 255 ∷ 0 ∷ 0 ∷ 0 ∷ 0 ∷ 0 ∷ 0 ∷ 0 ∷ 0 ∷ 255 ∷ 255 ∷ 0 ∷ 0 ∷ []

abbrev pub fixed_values : List ℕ
fixed_values = 16 ∷ 22 ∷ 0 ∷ 0 ∷ 0 ∷ 0 ∷ 0 ∷ 0 ∷ 0 ∷ 0 ∷ 0 ∷ 0 ∷ 0 ∷ 0 ∷ 0 ∷ 0 ∷ 0 ∷ 0 ∷ 0 ∷ 0 ∷ 0 ∷ 0 ∷ 0 ∷ 0 ∷ []

-- the same for a list of MODE SELECT
abbrev pub list_bits : List ℕ
list_bits = 255 ∷ 255 ∷ 255 ∷ 255 ∷ 255 ∷ 255 ∷ 255 ∷ 255 ∷ fixed_bits

abbrev pub list_values : List ℕ
list_values = 0 ∷ 0 ∷ 0 ∷ 0 ∷ 0 ∷ 0 ∷ 0 ∷ 0 ∷ fixed_values

-- at byte k the fixed bits have their values
abbrev pub IsFine : List ℕ → List ℕ → List ℕ → ℕ → Type 0
IsFine bits values bytes k = bit_and (slice_index bytes k) (slice_index bits k) ≡ slice_index values k

-- this is the lowest byte at which they don't
pub record OffendsFirst (bits values bytes : List ℕ) (byte : ℕ) : Type 0 where
  pub within : byte < length bytes
  pub offends : ¬ IsFine bits values bytes byte
  pub lowest : (k : ℕ) → k < byte → IsFine bits values bytes k

-- the bytes are refused as a page with this fault, which counts from the page's start
abbrev pub IsPageFault : List ℕ → PageFault → Type 0
IsPageFault bytes (Length want got) = (length bytes ≢ 24) × (want ≡ 24) × (got ≡ length bytes)
IsPageFault bytes (Field byte) = (length bytes ≡ 24) × OffendsFirst fixed_bits fixed_values bytes byte

-- the lengths that a list of MODE SELECT may have: no bytes, a header, a header and the page
abbrev pub HasLength : List ℕ → Type 0
HasLength list = (length list ≡ 0) ⊎ (length list ≡ 8) ⊎ (length list ≡ 32)

-- the bytes are refused as a list of MODE SELECT with this fault, which counts from the list's start; a
-- list that is too short for a header wants one
abbrev pub IsListFault : List ℕ → PageFault → Type 0
IsListFault list (Length want got) =
    ¬ HasLength list × (got ≡ length list) × (((length list < 8) × (want ≡ 8)) ⊎ ((8 ≤ length list) × (want ≡ 32)))
IsListFault list (Field byte) = HasLength list × OffendsFirst list_bits list_values list byte

-- ---- the same fault of a list, as a function of it

-- the lowest byte, from this one on, at which a fixed bit has another value
abbrev pub first_unlike : ℕ → List ℕ → List ℕ → List ℕ → Option ℕ
first_unlike place bits values [] = None
first_unlike place [] values (b ∷ bytes) = None
first_unlike place (m ∷ bits) [] (b ∷ bytes) = None
first_unlike place (m ∷ bits) (v ∷ values) (b ∷ bytes) =
    if bit_and b m == v then first_unlike (suc place) bits values bytes else Some place

-- the fault of the bytes as a list of MODE SELECT; none where they are such a list
abbrev pub list_fault : List ℕ → Option PageFault
list_fault list =
    if length list == 0 || length list == 8 || length list == 32 then option_map Field (first_unlike 0 list_bits list_values list)
    else Some (Length (if nat_lt (length list) 8 then 8 else 32) (length list))
