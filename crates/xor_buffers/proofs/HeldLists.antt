-- Lists of held blocks, with one owner for each: what a take, a release and a growth leave.
use Rattle.std.specs.Prelude.{◌≡◌, ◌==◌, ◌&&◌, ◌||◌, not, ℕ, ◌+◌, ◌-◌, ◌*◌, ◌/◌, Bool, true, false, List, [], ◌∷◌, ◌++◌, Some, filter, length, take, drop, nat_le}
use Rattle.std.specs.List.{AllByRecursion}
use Rattle.std.proofs.Common.{refl, ap, sym, ◌∙◌, cond, subst, inl, inr, arith}
use Rattle.std.proofs.Math.Nat.{sub_self, zero-mul}
use Rattle.std.proofs.lemmas.Bool.{eqb-true, cases_eq, cases_Bool, or_left, or_right, or_cases, both_ways, false≢true, eq-eqb, ne_eqb, eqb-false, le-leb, and_from, and_left, or_parts, or_from, cond-true, cond-false}
use Rattle.std.proofs.lemmas.List.{take_all}
use Rattle.blocks_core.specs.Lists.{slice}
use Rattle.xor_buffers.specs.declared.held.HeldBlocks.{HeldBlocks}
use Rattle.xor_buffers.specs.Held.{has_owner, held_blocks, AreAmong, holds_rows, rest_of, take_rows, rows_held}
use Rattle.xor_buffers.proofs.OwnerLaws.{has_owner-joined, kept-owner}

no_rows_on : (block row : ℕ) → (row - row) * block ≡ 0
no_rows_on block row = ap (λ n. n * block) (sub_self row) ∙ zero-mul block

-- blocks that a command holds from a row on
abbrev pub own_blocks : ℕ → ℕ → List ℕ → HeldBlocks
own_blocks c row bytes = record { owner = c; row = row; bytes = bytes }

own-whole : (block c row : ℕ) (bytes : List ℕ) → holds_rows block row (length bytes) (own_blocks c row bytes) ≡ true
own-whole block c row bytes =
    and_from (nat_le row row) (nat_le ((row - row) * block + length bytes) (length bytes))
    (le-leb row row (omega arith)) (le-leb ((row - row) * block + length bytes) (length bytes) (omega (arith, no_rows_on block row)))

-- what a command alone holds is had whole
pub rows_held-own : (block c row : ℕ) (bytes : List ℕ) → rows_held block c row (length bytes) (own_blocks c row bytes ∷ []) ≡ Some bytes
rows_held-own block c row bytes =
    ap (λ b. cond b (Some (slice bytes ((row - row) * block) (length bytes))) (rows_held block c row (length bytes) []))
    (and_from (c == c) (holds_rows block row (length bytes) (own_blocks c row bytes)) (eq-eqb c c refl) (own-whole block c row bytes))
    ∙ ap (λ n. Some (slice bytes n (length bytes))) (no_rows_on block row) ∙ ap Some (take_all (length bytes) bytes (omega arith))

-- and once taken, nothing is held
pub take_rows-own : (block c row : ℕ) (bytes : List ℕ) → take_rows block row (length bytes) (own_blocks c row bytes ∷ []) ≡ []
take_rows-own block c row bytes =
    ap (λ b. cond b (rest_of block row (length bytes) (own_blocks c row bytes) ++ []) (own_blocks c row bytes ∷ [])) (own-whole block c row bytes)
    ∙ nothing_left (row == row) ((row - row) * block + length bytes == length bytes) _ _ (eq-eqb row row refl)
    (eq-eqb ((row - row) * block + length bytes) (length bytes) (omega (arith, no_rows_on block row)))
  where
    nothing_left : (a b : Bool) (x y : HeldBlocks) → a ≡ true → b ≡ true → (cond a [] (x ∷ []) ++ cond b [] (y ∷ [])) ++ [] ≡ []
    nothing_left a b x y h k = ap (λ z. (cond z [] (x ∷ []) ++ cond b [] (y ∷ [])) ++ []) h ∙ ap (λ z. cond z [] (y ∷ []) ++ []) k

-- the owners differ
abbrev pub AreDistinct : List HeldBlocks → Type 0
AreDistinct [] = Unit {0}
AreDistinct (h ∷ hs) = (has_owner h.owner hs ≡ false) × AreDistinct hs

-- held blocks of a list, one by one
pub all-owned : (P Q : HeldBlocks → Type 0) (hs : List HeldBlocks) → ((h : HeldBlocks) → has_owner h.owner hs ≡ true → P h → Q h) → AllByRecursion P hs → AllByRecursion Q hs
all-owned P Q [] f p = tt
all-owned P Q (x ∷ hs) f p = (
  f x (or_left (x.owner == x.owner) (has_owner x.owner hs) (eq-eqb x.owner x.owner refl)) p.0,
  all-owned P Q hs (λ h q r. f h (or_right (x.owner == h.owner) (has_owner h.owner hs) q) r) p.1,
)

pub all-kept : (P Q : HeldBlocks → Type 0) (passing : HeldBlocks → Bool) (hs : List HeldBlocks) → ((h : HeldBlocks) → passing h ≡ true → P h → Q h) → AllByRecursion P hs →
    AllByRecursion Q (filter passing hs)
all-kept P Q passing [] f p = tt
all-kept P Q passing (x ∷ hs) f p = choose (passing x) refl (all-kept P Q passing hs f p.1)
  where
    choose : (b : Bool) → passing x ≡ b → AllByRecursion Q (filter passing hs) → AllByRecursion Q (cond b (x ∷ filter passing hs) (filter passing hs))
    choose true q rest = (f x q p.0, rest)
    choose false q rest = rest

pub all-joined : (Q : HeldBlocks → Type 0) (hs : List HeldBlocks) (x : HeldBlocks) → AllByRecursion Q hs → Q x → AllByRecursion Q (hs ++ x ∷ [])
all-joined Q [] x p q = (q, tt)
all-joined Q (h ∷ hs) x p q = (p.0, all-joined Q hs x p.1 q)

pub lacks : (c : ℕ) (xs ys : List HeldBlocks) → (has_owner c xs ≡ true → has_owner c ys ≡ true) → has_owner c ys ≡ false → has_owner c xs ≡ false
lacks c xs ys f h = elim (cases_Bool (has_owner c xs)) [
  | inl owned ↦ absurd (both_ways (has_owner c ys) h (f owned))
  | inr none ↦ none
]

pub distinct-kept : (passing : HeldBlocks → Bool) (hs : List HeldBlocks) → AreDistinct hs → AreDistinct (filter passing hs)
distinct-kept passing [] d = tt
distinct-kept passing (x ∷ hs) d = choose (passing x) (distinct-kept passing hs d.1)
  where
    choose : (b : Bool) → AreDistinct (filter passing hs) → AreDistinct (cond b (x ∷ filter passing hs) (filter passing hs))
    choose true rest = (lacks x.owner (filter passing hs) hs (kept-owner x.owner passing hs) d.0, rest)
    choose false rest = rest

pub distinct-joined : (hs : List HeldBlocks) (x : HeldBlocks) → AreDistinct hs → has_owner x.owner hs ≡ false → AreDistinct (hs ++ x ∷ [])
distinct-joined [] x d n = (refl, tt)
distinct-joined (h ∷ hs) x d n =
    let parts : ((h.owner == x.owner) ≡ false) × (has_owner x.owner hs ≡ false) = or_parts (h.owner == x.owner) (has_owner x.owner hs) n in
    let other : (x.owner == h.owner) ≡ false = ne_eqb x.owner h.owner (λ e. eqb-false h.owner x.owner parts.0 (sym e)) in (
      has_owner-joined h.owner hs (x ∷ []) ∙ or_from (has_owner h.owner hs) ((x.owner == h.owner) || false) d.0 (or_from (x.owner == h.owner) false other refl),
      distinct-joined hs x d.1 parts.1,
    )

-- the held blocks without those of a command
abbrev pub without : ℕ → List HeldBlocks → List HeldBlocks
without c hs = filter (λ h. not (h.owner == c)) hs

pub without-none : (c : ℕ) (hs : List HeldBlocks) → has_owner c hs ≡ false → without c hs ≡ hs
without-none c [] h = refl
without-none c (x ∷ hs) h =
    let parts : ((x.owner == c) ≡ false) × (has_owner c hs ≡ false) = or_parts (x.owner == c) (has_owner c hs) h in
    cond-true (not (x.owner == c)) (x ∷ without c hs) (without c hs) (ap not parts.0) ∙ ap (λ (ys : List HeldBlocks). x ∷ ys) (without-none c hs parts.1)

-- held blocks beside rows that a command takes: its own are these rows, and no others contain them
pub record IsBesideTaken (c block row len : ℕ) (h : HeldBlocks) : Type 0 where
  pub its_own : h.owner ≡ c → (h.row ≡ row) × (length h.bytes ≡ len)
  pub others : (h.owner ≡ c → ⊥) → holds_rows block row len h ≡ false

take-own : (block row len : ℕ) (h : HeldBlocks) → h.row ≡ row → length h.bytes ≡ len → (holds_rows block row len h ≡ true) × (rest_of block row len h ≡ [])
take-own block row len h p q =
    let gap : (row - h.row) * block ≡ 0 = zero-gap in (
      and_from (nat_le h.row row) (nat_le ((row - h.row) * block + len) (length h.bytes)) (le-leb h.row row (omega arith))
          (le-leb ((row - h.row) * block + len) (length h.bytes) (omega arith)),
      parts (row == h.row) ((row - h.row) * block + len == length h.bytes)
          (eq-eqb row h.row (sym p)) (eq-eqb ((row - h.row) * block + len) (length h.bytes) (omega arith)),
    )
  where
    zero-gap : (row - h.row) * block ≡ 0
    zero-gap = ap (λ (n : ℕ). n * block) (difference row h.row p) ∙ omega arith
      where
        difference : (m n : ℕ) → n ≡ m → m - n ≡ 0
        difference m n e = omega arith

    front : HeldBlocks
    front = record { owner = h.owner; row = h.row; bytes = take ((row - h.row) * block) h.bytes }

    back : HeldBlocks
    back = record { owner = h.owner; row = row + len / block; bytes = drop ((row - h.row) * block + len) h.bytes }

    parts : (x y : Bool) → x ≡ true → y ≡ true → (cond x [] (front ∷ []) ++ cond y [] (back ∷ [])) ≡ []
    parts true true e f = refl
    parts true false e f = absurd (false≢true f)
    parts false y e f = absurd (false≢true e)

pub take-removes : (c block row len : ℕ) (hs : List HeldBlocks) → AreDistinct hs → AllByRecursion (IsBesideTaken c block row len) hs → has_owner c hs ≡ true →
    take_rows block row len hs ≡ without c hs
take-removes c block row len [] d p h = absurd (false≢true h)
take-removes c block row len (x ∷ hs) d p h = elim (cases_eq x.owner c) [
  | inl own ↦ own_first own
  | inr other ↦
      let not_this : (x.owner == c) ≡ false = ne_eqb x.owner c other in
      cond-false (holds_rows block row len x) (rest_of block row len x ++ hs) (x ∷ take_rows block row len hs) (p.0.others other)
      ∙ ap (λ (ys : List HeldBlocks). x ∷ ys) (take-removes c block row len hs d.1 p.1 (sym (ap (λ b. b || has_owner c hs) not_this) ∙ h))
      ∙ sym (cond-true (not (x.owner == c)) (x ∷ without c hs) (without c hs) (ap not not_this))
]
  where
    own_first : x.owner ≡ c → take_rows block row len (x ∷ hs) ≡ without c (x ∷ hs)
    own_first own =
        let fits : (x.row ≡ row) × (length x.bytes ≡ len) = p.0.its_own own in
        let gone_whole : (holds_rows block row len x ≡ true) × (rest_of block row len x ≡ []) = take-own block row len x fits.0 fits.1 in
        cond-true (holds_rows block row len x) (rest_of block row len x ++ hs) (x ∷ take_rows block row len hs) gone_whole.0
        ∙ ap (λ (ys : List HeldBlocks). ys ++ hs) gone_whole.1
        ∙ sym (without-none c hs (subst (λ (n : ℕ). has_owner n hs ≡ false) own d.0))
        ∙ sym (cond-false (not (x.owner == c)) (x ∷ without c hs) (without c hs) (ap not (eq-eqb x.owner c own)))

-- the held blocks of a command
pub held-of : (P : HeldBlocks → Type 0) (c : ℕ) (hs : List HeldBlocks) → AllByRecursion P hs → has_owner c hs ≡ true → (h : HeldBlocks) × ((h.owner ≡ c) × P h)
held-of P c [] p h = absurd (false≢true h)
held-of P c (x ∷ hs) p h = elim (or_cases (x.owner == c) (has_owner c hs) h) [
  | inl this ↦ (x, (eqb-true x.owner c this, p.0))
  | inr rest ↦ held-of P c hs p.1 rest
]

-- what is let go of one owner leaves the others'
pub owner-without : (c d : ℕ) (hs : List HeldBlocks) → (d == c) ≡ false → has_owner c hs ≡ true → has_owner c (without d hs) ≡ true
owner-without c d [] h k = k
owner-without c d (x ∷ hs) h k = choose (x.owner == d) refl (λ q. owner-without c d hs h q)
  where
    choose : (b : Bool) → (x.owner == d) ≡ b → (has_owner c hs ≡ true → has_owner c (without d hs) ≡ true) →
        has_owner c (cond (not b) (x ∷ without d hs) (without d hs)) ≡ true
    choose true q rec = elim (or_cases (x.owner == c) (has_owner c hs) k) [
      | inl this ↦ absurd (both_ways (d == c) h (eq-eqb d c (sym (eqb-true x.owner d q) ∙ eqb-true x.owner c this)))
      | inr rest ↦ rec rest
    ]
    choose false q rec = elim (or_cases (x.owner == c) (has_owner c hs) k) [
      | inl this ↦ or_left (x.owner == c) (has_owner c (without d hs)) this
      | inr rest ↦ or_right (x.owner == c) (has_owner c (without d hs)) (rec rest)
    ]

-- the blocks of a command that still has some
pub among-owner : (h : HeldBlocks) (hs : List HeldBlocks) → AreAmong h hs → has_owner h.owner hs ≡ true
among-owner h [] a = absurd a
among-owner h (x ∷ hs) (inl same) = or_left (x.owner == h.owner) (has_owner h.owner hs) (eq-eqb x.owner h.owner (ap (λ (y : HeldBlocks). y.owner) same))
among-owner h (x ∷ hs) (inr rest) = or_right (x.owner == h.owner) (has_owner h.owner hs) (among-owner h hs rest)

pub among-joined : (h : HeldBlocks) (hs more : List HeldBlocks) → AreAmong h hs → AreAmong h (hs ++ more)
among-joined h [] more a = absurd a
among-joined h (x ∷ hs) more (inl same) = inl same
among-joined h (x ∷ hs) more (inr rest) = inr (among-joined h hs more rest)

pub among-last : (h : HeldBlocks) (hs : List HeldBlocks) → AreAmong h (hs ++ h ∷ [])
among-last h [] = inl refl
among-last h (x ∷ hs) = inr (among-last h hs)

among-kept : (keeps : HeldBlocks → Bool) (h : HeldBlocks) (hs : List HeldBlocks) → keeps h ≡ true → AreAmong h hs → AreAmong h (filter keeps hs)
among-kept keeps h [] k a = absurd a
among-kept keeps h (x ∷ hs) k (inl same) =
    subst (λ b. AreAmong h (cond b (x ∷ filter keeps hs) (filter keeps hs))) (sym (ap keeps same ∙ k)) (inl same)
among-kept keeps h (x ∷ hs) k (inr rest) = choose (keeps x) (among-kept keeps h hs k rest)
  where
    choose : (b : Bool) → AreAmong h (filter keeps hs) → AreAmong h (cond b (x ∷ filter keeps hs) (filter keeps hs))
    choose true a = inr a
    choose false a = a

-- those of a command that is no other's are left by what takes the other's
pub among-without : (h : HeldBlocks) (c : ℕ) (hs : List HeldBlocks) → (c == h.owner) ≡ false → AreAmong h hs → AreAmong h (without c hs)
among-without h c hs other a =
    among-kept (λ (x : HeldBlocks). not (x.owner == c)) h hs (ap not (ne_eqb h.owner c (λ same. both_ways (c == h.owner) other (eq-eqb c h.owner (sym same))))) a

-- blocks contain their own rows
own-rows : (block : ℕ) (h : HeldBlocks) → holds_rows block h.row (length h.bytes) h ≡ true
own-rows block h =
    let gap : (h.row - h.row) * block ≡ 0 = ap (λ (n : ℕ). n * block) none ∙ omega arith in
    and_from (nat_le h.row h.row) (nat_le ((h.row - h.row) * block + length h.bytes) (length h.bytes)) (le-leb h.row h.row (omega arith))
    (le-leb ((h.row - h.row) * block + length h.bytes) (length h.bytes) (omega arith))
  where
    none : h.row - h.row ≡ 0
    none = omega arith

own-slice : (block : ℕ) (h : HeldBlocks) → slice h.bytes ((h.row - h.row) * block) (length h.bytes) ≡ h.bytes
own-slice block h = ap (λ n. slice h.bytes n (length h.bytes)) gap ∙ take_all (length h.bytes) h.bytes (omega arith)
  where
    none : h.row - h.row ≡ 0
    none = omega arith

    gap : (h.row - h.row) * block ≡ 0
    gap = ap (λ (n : ℕ). n * block) none ∙ omega arith

-- where no two held blocks have one owner, a command's are found by their rows
pub among-found : (block : ℕ) (h : HeldBlocks) (hs : List HeldBlocks) → AreDistinct hs → AreAmong h hs → rows_held block h.owner h.row (length h.bytes) hs ≡ Some h.bytes
among-found block h [] d a = absurd a
among-found block h (x ∷ hs) d (inl same) =
    ap (λ (y : HeldBlocks). rows_held block h.owner h.row (length h.bytes) (y ∷ hs)) same
    ∙ cond-true ((h.owner == h.owner) && holds_rows block h.row (length h.bytes) h) (Some (slice h.bytes ((h.row - h.row) * block) (length h.bytes)))
    (rows_held block h.owner h.row (length h.bytes) hs) (and_from (h.owner == h.owner) (holds_rows block h.row (length h.bytes) h) (eq-eqb h.owner h.owner refl) (own-rows block h))
    ∙ ap (λ (l : List ℕ). Some l) (own-slice block h)
among-found block h (x ∷ hs) d (inr rest) =
    cond-false ((x.owner == h.owner) && holds_rows block h.row (length h.bytes) x) (Some (slice x.bytes ((h.row - x.row) * block) (length h.bytes)))
    (rows_held block h.owner h.row (length h.bytes) hs) (and_left (x.owner == h.owner) (holds_rows block h.row (length h.bytes) x) (ne_eqb x.owner h.owner other))
    ∙ among-found block h hs d.1 rest
  where
    other : x.owner ≡ h.owner → ⊥
    other same = both_ways (has_owner x.owner hs) d.0 (ap (λ (n : ℕ). has_owner n hs) same ∙ among-owner h hs rest)

-- those of one command, and the others
pub taken-out : (P : HeldBlocks → Type 0) (block d : ℕ) (hs : List HeldBlocks) → AreDistinct hs → AllByRecursion P hs → has_owner d hs ≡ true →
    (h : HeldBlocks) × ((h.owner ≡ d) × (P h × (held_blocks block hs ≡ length h.bytes / block + held_blocks block (without d hs))))
taken-out P block d [] a p o = absurd (false≢true o)
taken-out P block d (x ∷ hs) a p o = elim (cases_Bool (x.owner == d)) [
  | inl this ↦ (x, (eqb-true x.owner d this, (p.0, first this)))
  | inr other ↦ rest other (taken-out P block d hs a.1 p.1 (sym (ap (λ b. b || has_owner d hs) other) ∙ o))
]
  where
    first : (x.owner == d) ≡ true → held_blocks block (x ∷ hs) ≡ length x.bytes / block + held_blocks block (without d (x ∷ hs))
    first this =
        ap (λ (l : List HeldBlocks). length x.bytes / block + held_blocks block l)
        (sym (ap (λ b. cond (not b) (x ∷ without d hs) (without d hs)) this
        ∙ without-none d hs (subst (λ (n : ℕ). has_owner n hs ≡ false) (eqb-true x.owner d this) a.0)))

    rest : (x.owner == d) ≡ false → (h : HeldBlocks) × ((h.owner ≡ d) × (P h × (held_blocks block hs ≡ length h.bytes / block + held_blocks block (without d hs)))) →
        (h : HeldBlocks) × ((h.owner ≡ d) × (P h × (held_blocks block (x ∷ hs) ≡ length h.bytes / block + held_blocks block (without d (x ∷ hs)))))
    rest other (h, (own, (q, e))) =
        let kept : held_blocks block (without d (x ∷ hs)) ≡ length x.bytes / block + held_blocks block (without d hs) =
        ap (λ b. held_blocks block (cond (not b) (x ∷ without d hs) (without d hs))) other in
        (h, (own, (q, omega (arith, e, kept))))

pub without-apart : (d : ℕ) (hs : List HeldBlocks) → has_owner d (without d hs) ≡ false
without-apart d [] = refl
without-apart d (x ∷ hs) = choose (x.owner == d) refl (without-apart d hs)
  where
    choose : (b : Bool) → (x.owner == d) ≡ b → has_owner d (without d hs) ≡ false → has_owner d (cond (not b) (x ∷ without d hs) (without d hs)) ≡ false
    choose true q rest = rest
    choose false q rest = ap (λ b. b || has_owner d (without d hs)) q ∙ rest

pub without-all : (P : HeldBlocks → Type 0) (d : ℕ) (hs : List HeldBlocks) → AllByRecursion P hs → AllByRecursion P (without d hs)
without-all P d [] p = tt
without-all P d (x ∷ hs) p = choose (x.owner == d) (without-all P d hs p.1)
  where
    choose : (b : Bool) → AllByRecursion P (without d hs) → AllByRecursion P (cond (not b) (x ∷ without d hs) (without d hs))
    choose true rest = rest
    choose false rest = (p.0, rest)

pub without-distinct : (d : ℕ) (hs : List HeldBlocks) → AreDistinct hs → AreDistinct (without d hs)
without-distinct d hs a = distinct-kept (λ h. not (h.owner == d)) hs a
