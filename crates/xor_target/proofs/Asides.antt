-- Rows that are set aside stay free while other rows are held and taken, and what is held keeps its room.
use Rattle.std.specs.Prelude.{◌≡◌, ◌==◌, ◌&&◌, ◌||◌, ◌<◌, ◌≤◌, ◌+◌, ◌-◌, ◌*◌, ◌/◌, nat_lt, nat_le, ℕ, Bool, true, false, List, [], ◌∷◌, ◌++◌, filter, length, take, drop, Option, Some, None}
use Rattle.std.specs.List.{list_any}
use Rattle.std.proofs.Common.{refl, ap, sym, ◌∙◌, cond, arith, length-drop}
use Rattle.std.proofs.Math.Nat.{add-mul}
use Rattle.std.proofs.lemmas.Bool.{false≢true, leb-true, ltb-true, lt-ltb, and_parts}
use Rattle.std.proofs.lemmas.List.{length-take}
use Rattle.std.proofs.lemmas.Nat.{div-add-mod', div_below, le-div}
use Rattle.xor_buffers.specs.declared.held.HeldBlocks.{HeldBlocks}
use Rattle.xor_buffers.specs.Held.{overlap_of, holds_rows, rest_of, take_rows, held_blocks}
use Rattle.xor_buffers.proofs.Wiping.{held_blocks-append}
use Rattle.xor_target.specs.declared.waiting.Waiting.{Waiting}
use Rattle.xor_target.specs.Waits.{row_aside, count_aside, has_aside, aside_blocks}
use Rattle.xor_target.specs.State.{AreApart}

-- ---- which held blocks have a row of some

abbrev pub touches : ℕ → ℕ → ℕ → HeldBlocks → Bool
touches block row count h = nat_lt h.row (row + count) && nat_lt row (h.row + length h.bytes / block)

none-left : (b : Bool) (x : ℕ) (o : Option ℕ) → cond b (Some x) o ≡ None → (b ≡ false) × (o ≡ None)
none-left true x o h = absurd cc
none-left false x o h = (refl, h)

not-true : (b : Bool) → (b ≡ true → ⊥) → b ≡ false
not-true true h = absurd (h refl)
not-true false h = refl

both-true : (a b : Bool) → a ≡ true → b ≡ true → (a && b) ≡ true
both-true true b x y = y
both-true false b x y = absurd (false≢true x)

-- blocks within others touch no row that these don't
apart-within : (block row count : ℕ) (h x : HeldBlocks) → h.row ≤ x.row → x.row + length x.bytes / block ≤ h.row + length h.bytes / block → touches block row count h ≡ false →
    touches block row count x ≡ false
apart-within block row count h x from to apart =
    not-true _ (λ t.
    let parts = and_parts (nat_lt x.row (row + count)) (nat_lt row (x.row + length x.bytes / block)) t in
    let first = ltb-true x.row (row + count) parts.0 in
    let last = ltb-true row (x.row + length x.bytes / block) parts.1 in
    false≢true (sym apart
    ∙ both-true _ _ (lt-ltb h.row (row + count) (omega (arith, first, from))) (lt-ltb row (h.row + length h.bytes / block) (omega (arith, last, to)))))

-- ---- rows stay free

pub free-more : (block row count : ℕ) (hs more : List HeldBlocks) → overlap_of block row count hs ≡ None → overlap_of block row count more ≡ None →
    overlap_of block row count (hs ++ more) ≡ None
free-more block row count [] more free rest = rest
free-more block row count (h ∷ hs) more free rest =
    let parts = none-left (touches block row count h) h.owner (overlap_of block row count hs) free in
    ap (λ b. cond b (Some h.owner) (overlap_of block row count (hs ++ more))) parts.0 ∙ free-more block row count hs more parts.1 rest

free-one : (block row count : ℕ) (h : HeldBlocks) → touches block row count h ≡ false → overlap_of block row count (h ∷ []) ≡ None
free-one block row count h apart = ap (λ b. cond b (Some h.owner) None) apart

pub free-filtered : (block row count : ℕ) (q : HeldBlocks → Bool) (hs : List HeldBlocks) → overlap_of block row count hs ≡ None → overlap_of block row count (filter q hs) ≡ None
free-filtered block row count q [] free = refl
free-filtered block row count q (h ∷ hs) free =
    let parts = none-left (touches block row count h) h.owner (overlap_of block row count hs) free in
    keep (q h) parts.0 (free-filtered block row count q hs parts.1)
  where
    keep : (b : Bool) → touches block row count h ≡ false → overlap_of block row count (filter q hs) ≡ None → overlap_of block row count (cond b (h ∷ filter q hs) (filter q hs)) ≡ None
    keep true apart rest = ap (λ b. cond b (Some h.owner) (overlap_of block row count (filter q hs))) apart ∙ rest
    keep false apart rest = rest

div-mono : (a b k : ℕ) → 1 ≤ k → a ≤ b → a / k ≤ b / k
div-mono a b k some le = le-div (a / k) b k (omega arith) (omega (arith, div-add-mod' a k))

-- rows before some, these, and those behind them are no more than all
div-parts : (d len rest k all : ℕ) → 1 ≤ k → d * k + len + rest ≤ all → d + len / k + rest / k ≤ all / k
div-parts d len rest k all some le =
    le-div (d + len / k + rest / k) all k (omega arith)
    (omega (arith, add-mul (d + len / k) (rest / k) k, add-mul d (len / k) k, div-add-mod' len k, div-add-mod' rest k))

-- what is left of blocks of which rows are taken has no further row
free-rest : (block row count at len : ℕ) (h : HeldBlocks) → 1 ≤ block → holds_rows block at len h ≡ true → touches block row count h ≡ false →
    overlap_of block row count (rest_of block at len h) ≡ None
free-rest block row count at len h some holds apart =
    let parts = and_parts (nat_le h.row at) (nat_le ((at - h.row) * block + len) (length h.bytes)) holds in
    let from : h.row ≤ at = leb-true h.row at parts.0 in
    let inside : (at - h.row) * block + len ≤ length h.bytes = leb-true ((at - h.row) * block + len) (length h.bytes) parts.1 in
    let front : HeldBlocks = record { owner = h.owner; row = h.row; bytes = take ((at - h.row) * block) h.bytes } in
    let back : HeldBlocks = record { owner = h.owner; row = at + len / block; bytes = drop ((at - h.row) * block + len) h.bytes } in
    let shorter : length front.bytes / block ≤ length h.bytes / block =
    div-mono (length front.bytes) (length h.bytes) block some (omega (arith, length-take ((at - h.row) * block) h.bytes)) in
    let further : (at - h.row) + len / block + length back.bytes / block ≤ length h.bytes / block =
    div-parts (at - h.row) len (length back.bytes) block (length h.bytes) some (omega (arith, inside, length-drop ((at - h.row) * block + len) h.bytes)) in
    free-more block row count _ _
    (one (at == h.row) front (apart-within block row count h front (omega arith) (omega (arith, shorter)) apart))
    (one ((at - h.row) * block + len == length h.bytes) back (apart-within block row count h back (omega (arith, from)) (omega (arith, further, from)) apart))
  where
    one : (b : Bool) (x : HeldBlocks) → touches block row count x ≡ false → overlap_of block row count (cond b [] (x ∷ [])) ≡ None
    one true x apart = refl
    one false x apart = free-one block row count x apart

pub free-taken : (block row count at len : ℕ) (hs : List HeldBlocks) → 1 ≤ block → overlap_of block row count hs ≡ None → overlap_of block row count (take_rows block at len hs) ≡ None
free-taken block row count at len [] some free = refl
free-taken block row count at len (h ∷ hs) some free =
    let parts = none-left (touches block row count h) h.owner (overlap_of block row count hs) free in
    choose (holds_rows block at len h) refl parts.0 parts.1 (free-taken block row count at len hs some parts.1)
  where
    choose : (b : Bool) → holds_rows block at len h ≡ b → touches block row count h ≡ false → overlap_of block row count hs ≡ None →
        overlap_of block row count (take_rows block at len hs) ≡ None →
        overlap_of block row count (cond b (rest_of block at len h ++ hs) (h ∷ take_rows block at len hs)) ≡ None
    choose true holds apart free older = free-more block row count (rest_of block at len h) hs (free-rest block row count at len h some holds apart) free
    choose false holds apart free older = ap (λ b. cond b (Some h.owner) (overlap_of block row count (take_rows block at len hs))) apart ∙ older

-- ---- what is held keeps its room

pub fewer-filtered : (block : ℕ) (q : HeldBlocks → Bool) (hs : List HeldBlocks) → held_blocks block (filter q hs) ≤ held_blocks block hs
fewer-filtered block q [] = omega arith
fewer-filtered block q (h ∷ hs) = keep (q h) (fewer-filtered block q hs)
  where
    keep : (b : Bool) → held_blocks block (filter q hs) ≤ held_blocks block hs → held_blocks block (cond b (h ∷ filter q hs) (filter q hs)) ≤ length h.bytes / block + held_blocks block hs
    keep true rest = omega (arith, rest)
    keep false rest = omega (arith, rest)

div-at-most : (n d k : ℕ) → 1 ≤ k → n ≤ d * k → n / k ≤ d
div-at-most n d k some le =
    let below : n / k < d + 1 = div_below n k (d + 1) (omega arith) (omega (arith, add-mul d 1 k, le, some)) in
    omega arith

-- what is left of blocks of which rows are taken is no more than they were
fewer-rest : (block at len : ℕ) (h : HeldBlocks) → 1 ≤ block → holds_rows block at len h ≡ true → held_blocks block (rest_of block at len h) ≤ length h.bytes / block
fewer-rest block at len h some holds =
    let parts = and_parts (nat_le h.row at) (nat_le ((at - h.row) * block + len) (length h.bytes)) holds in
    let inside : (at - h.row) * block + len ≤ length h.bytes = leb-true ((at - h.row) * block + len) (length h.bytes) parts.1 in
    let front = take ((at - h.row) * block) h.bytes in
    let back = drop ((at - h.row) * block + len) h.bytes in
    let front_rows : length front / block ≤ at - h.row =
    div-at-most (length front) (at - h.row) block some (omega (arith, length-take ((at - h.row) * block) h.bytes)) in
    let all : (at - h.row) + len / block + length back / block ≤ length h.bytes / block =
    div-parts (at - h.row) len (length back) block (length h.bytes) some (omega (arith, inside, length-drop ((at - h.row) * block + len) h.bytes)) in
    omega (
      arith,
      held_blocks-append block (cond (at == h.row) [] (record { owner = h.owner; row = h.row; bytes = front } ∷ []))
          (cond ((at - h.row) * block + len == length h.bytes) [] (record { owner = h.owner; row = at + len / block; bytes = back } ∷ [])),
      one (at == h.row) (record { owner = h.owner; row = h.row; bytes = front }),
      one ((at - h.row) * block + len == length h.bytes) (record { owner = h.owner; row = at + len / block; bytes = back }),
      front_rows,
      all,
    )
  where
    one : (b : Bool) (x : HeldBlocks) → held_blocks block (cond b [] (x ∷ [])) ≤ length x.bytes / block
    one true x = omega arith
    one false x = omega arith

pub fewer-taken : (block at len : ℕ) (hs : List HeldBlocks) → 1 ≤ block → held_blocks block (take_rows block at len hs) ≤ held_blocks block hs
fewer-taken block at len [] some = omega arith
fewer-taken block at len (h ∷ hs) some = choose (holds_rows block at len h) refl (fewer-taken block at len hs some)
  where
    choose : (b : Bool) → holds_rows block at len h ≡ b → held_blocks block (take_rows block at len hs) ≤ held_blocks block hs →
        held_blocks block (cond b (rest_of block at len h ++ hs) (h ∷ take_rows block at len hs)) ≤ length h.bytes / block + held_blocks block hs
    choose true holds older = omega (arith, held_blocks-append block (rest_of block at len h) hs, fewer-rest block at len h some holds)
    choose false holds older = omega (arith, older)

-- ---- what is set aside, by fewer and by more who wait

pub aside-filtered : (q : Waiting → Bool) (ws : List Waiting) → aside_blocks (filter q ws) ≤ aside_blocks ws
aside-filtered q [] = omega arith
aside-filtered q (w ∷ ws) = keep (q w) (aside-filtered q ws)
  where
    keep : (b : Bool) → aside_blocks (filter q ws) ≤ aside_blocks ws → aside_blocks (cond b (w ∷ filter q ws) (filter q ws)) ≤ count_aside w.gathering + aside_blocks ws
    keep true rest = omega (arith, rest)
    keep false rest = omega (arith, rest)

pub none-of-any : (p q : Waiting → Bool) (ws : List Waiting) → list_any p ws ≡ false → list_any p (filter q ws) ≡ false
none-of-any p q [] h = refl
none-of-any p q (w ∷ ws) h = keep (q w) (no-first (p w) (list_any p ws) h) (none-of-any p q ws (no-second (p w) (list_any p ws) h))
  where
    no-first : (a b : Bool) → (a || b) ≡ false → a ≡ false
    no-first true b h = h
    no-first false b h = refl

    no-second : (a b : Bool) → (a || b) ≡ false → b ≡ false
    no-second true b h = absurd (false≢true (sym h))
    no-second false b h = h

    keep : (b : Bool) → p w ≡ false → list_any p (filter q ws) ≡ false → list_any p (cond b (w ∷ filter q ws) (filter q ws)) ≡ false
    keep true own rest = ap (λ b. b || list_any p (filter q ws)) own ∙ rest
    keep false own rest = rest

pub apart-filtered : (q : Waiting → Bool) (ws : List Waiting) → AreApart ws → AreApart (filter q ws)
apart-filtered q [] h = tt
apart-filtered q (w ∷ ws) h = keep (q w) (apart-filtered q ws h.1)
  where
    keep : (b : Bool) → AreApart (filter q ws) → AreApart (cond b (w ∷ filter q ws) (filter q ws))
    keep true rest = (λ aside. none-of-any (has_aside (row_aside w.gathering) (count_aside w.gathering)) q ws (h.0 aside), rest)
    keep false rest = rest
