-- What is set aside stays free and finds room, whatever is held, taken and waited for.
use Rattle.std.specs.Prelude.{◌≡◌, ◌==◌, ◌&&◌, ◌||◌, ◌≤◌, ◌+◌, ◌/◌, nat_lt, not, ℕ, Bool, true, false, List, [], ◌∷◌, ◌++◌, filter, length, Option, Some, None, option_map}
use Rattle.std.specs.List.{AllByRecursion, list_any, find}
use Rattle.std.proofs.Common.{refl, ap, sym, ◌∙◌, cond, subst, arith}
use Rattle.std.proofs.lemmas.Bool.{false≢true}
use Rattle.std.proofs.lemmas.List.Folds.{list_any-append}
use Rattle.array_journal.specs.declared.at.At.{At}
use Rattle.xor_buffers.specs.declared.held.HeldBlocks.{HeldBlocks}
use Rattle.xor_buffers.specs.Held.{overlap_of, held_blocks}
use Rattle.xor_buffers.proofs.Wiping.{held_blocks-append}
use Rattle.xor_target.specs.declared.waiting.Waiting.{Waiting}
use Rattle.xor_target.specs.Gathers.{GatheringState, accepted}
use Rattle.xor_target.specs.Waits.{waiting_of, without_owner, with_source, accepting, sets_aside, row_aside, count_aside, has_aside, overlaps_aside, aside_blocks}
use Rattle.sbc_cdbs.specs.Kinds.{is_kept}
use Rattle.sbc_cdbs.specs.declared.commands.Command.{Command}
use Rattle.xor_target.specs.Admission.{row_of, count_of}
use Rattle.xor_target.specs.State.{TargetState, AreApart, IsAsideFree}
use Rattle.xor_target.proofs.WaitLists.{all-filtered, all-more, all-found}
use Rattle.xor_target.proofs.WaitingSources.{all-with-source}
use Rattle.xor_target.proofs.Asides.{free-more, aside-filtered, none-of-any, apart-filtered}

-- a waiting one's rows are free among held blocks, if it sets any aside
abbrev pub is_free : ℕ → List HeldBlocks → Waiting → Type 0
is_free block held w = sets_aside w.gathering ≡ true → overlap_of block (row_aside w.gathering) (count_aside w.gathering) held ≡ None

all-mapped : {X : Type 0} (P Q : X → Type 0) (xs : List X) → ((x : X) → P x → Q x) → AllByRecursion P xs → AllByRecursion Q xs
all-mapped P Q [] f h = tt
all-mapped P Q (x ∷ xs) f h = (f x h.0, all-mapped P Q xs f h.1)

-- ---- less is held, and fewer wait

pub aside-fewer : (block capacity : ℕ) (held now : List HeldBlocks) (ws : List Waiting) →
    ((row count : ℕ) → overlap_of block row count held ≡ None → overlap_of block row count now ≡ None) → held_blocks block now ≤ held_blocks block held →
    IsAsideFree block capacity held ws → IsAsideFree block capacity now ws
aside-fewer block capacity held now ws keeps fewer i = record {
  free = all-mapped (is_free block held) (is_free block now) ws (λ w h aside. keeps (row_aside w.gathering) (count_aside w.gathering) (h aside)) i.free;
  apart = i.apart;
  room = omega (arith, i.room, fewer);
}

pub aside-left : (block capacity : ℕ) (held : List HeldBlocks) (q : Waiting → Bool) (ws : List Waiting) → IsAsideFree block capacity held ws →
    IsAsideFree block capacity held (filter q ws)
aside-left block capacity held q ws i = record {
  free = all-filtered (is_free block held) q ws i.free;
  apart = apart-filtered q ws i.apart;
  room = omega (arith, i.room, aside-filtered q ws);
}

-- ---- more is held

second-false : (a b : Bool) → (a && b) ≡ false → a ≡ true → b ≡ false
second-false true b h e = h
second-false false b h e = absurd (false≢true e)

turned-false : (a b : Bool) → (a && b) ≡ false → (b && a) ≡ false
turned-false true true h = h
turned-false true false h = refl
turned-false false true h = refl
turned-false false false h = refl

first-none : (a b : Bool) → (a || b) ≡ false → (a ≡ false) × (b ≡ false)
first-none true b h = absurd (false≢true (sym h))
first-none false b h = (refl, h)

-- rows that aren't set aside touch none that are
untouched : (block row count : ℕ) (h : HeldBlocks) (w : Waiting) → h.row ≡ row → length h.bytes / block ≡ count → has_aside row count w ≡ false →
    sets_aside w.gathering ≡ true → overlap_of block (row_aside w.gathering) (count_aside w.gathering) (h ∷ []) ≡ None
untouched block row count h w at long apart aside =
    let rows = turned-false (nat_lt (row_aside w.gathering) (row + count)) (nat_lt row (row_aside w.gathering + count_aside w.gathering))
    (second-false (sets_aside w.gathering) _ apart aside) in
    ap (λ b. cond b (Some h.owner) None)
    (ap (λ r. nat_lt r (row_aside w.gathering + count_aside w.gathering) && nat_lt (row_aside w.gathering) (r + length h.bytes / block)) at
    ∙ ap (λ n. nat_lt row (row_aside w.gathering + count_aside w.gathering) && nat_lt (row_aside w.gathering) (row + n)) long ∙ rows)

all-untouched : (block row count : ℕ) (held : List HeldBlocks) (h : HeldBlocks) (ws : List Waiting) → h.row ≡ row → length h.bytes / block ≡ count →
    overlaps_aside row count ws ≡ false → AllByRecursion (is_free block held) ws → AllByRecursion (is_free block (held ++ h ∷ [])) ws
all-untouched block row count held h [] at long apart free = tt
all-untouched block row count held h (w ∷ ws) at long apart free =
    let parts = first-none (has_aside row count w) (list_any (has_aside row count) ws) apart in (
      λ aside. free-more block (row_aside w.gathering) (count_aside w.gathering) held (h ∷ []) (free.0 aside) (untouched block row count h w at long parts.0 aside),
      all-untouched block row count held h ws at long parts.1 free.1,
    )

pub aside-more : (block capacity row count : ℕ) (held : List HeldBlocks) (h : HeldBlocks) (ws : List Waiting) → h.row ≡ row → length h.bytes / block ≡ count →
    overlaps_aside row count ws ≡ false → held_blocks block held + count + aside_blocks ws ≤ capacity → IsAsideFree block capacity held ws →
    IsAsideFree block capacity (held ++ h ∷ []) ws
aside-more block capacity row count held h ws at long apart room i = record {
  free = all-untouched block row count held h ws at long apart i.free;
  apart = i.apart;
  room = omega (arith, room, long, held_blocks-append block held (h ∷ []));
}

-- ---- one more waits

-- each is apart from the other
turned-apart : (v w : Waiting) → sets_aside w.gathering ≡ true → has_aside (row_aside w.gathering) (count_aside w.gathering) v ≡ false → sets_aside v.gathering ≡ true →
    has_aside (row_aside v.gathering) (count_aside v.gathering) w ≡ false
turned-apart v w mine apart aside =
    let rows = turned-false (nat_lt (row_aside v.gathering) (row_aside w.gathering + count_aside w.gathering))
    (nat_lt (row_aside w.gathering) (row_aside v.gathering + count_aside v.gathering)) (second-false (sets_aside v.gathering) _ apart aside) in
    ap (λ b. b && (nat_lt (row_aside w.gathering) (row_aside v.gathering + count_aside v.gathering) && nat_lt (row_aside v.gathering) (row_aside w.gathering + count_aside w.gathering))) mine
    ∙ rows

-- one that sets nothing aside has none of the rows
nothing-aside : (row count : ℕ) (w : Waiting) → sets_aside w.gathering ≡ false → has_aside row count w ≡ false
nothing-aside row count w h = ap (λ b. b && (nat_lt (row_aside w.gathering) (row + count) && nat_lt row (row_aside w.gathering + count_aside w.gathering))) h

more-apart : (ws : List Waiting) (w : Waiting) → AreApart ws → (sets_aside w.gathering ≡ true → overlaps_aside (row_aside w.gathering) (count_aside w.gathering) ws ≡ false) →
    AreApart (ws ++ w ∷ [])
more-apart [] w h apart = (λ aside. refl, tt)
more-apart (v ∷ ws) w h apart = (
  λ aside.
      list_any-append (has_aside (row_aside v.gathering) (count_aside v.gathering)) ws (w ∷ [])
      ∙ ap (λ b. b || (has_aside (row_aside v.gathering) (count_aside v.gathering) w || false)) (h.0 aside)
      ∙ ap (λ b. b || false) (mine (sets_aside w.gathering) refl aside),
  more-apart ws w h.1 (λ aside. (first-none (has_aside (row_aside w.gathering) (count_aside w.gathering) v) _ (apart aside)).1),
)
  where
    mine : (b : Bool) → sets_aside w.gathering ≡ b → sets_aside v.gathering ≡ true → has_aside (row_aside v.gathering) (count_aside v.gathering) w ≡ false
    mine true own aside = turned-apart v w own (first-none (has_aside (row_aside w.gathering) (count_aside w.gathering) v) _ (apart own)).0 aside
    mine false own aside = nothing-aside (row_aside v.gathering) (count_aside v.gathering) w own

more-blocks : (ws : List Waiting) (w : Waiting) → aside_blocks (ws ++ w ∷ []) ≡ aside_blocks ws + count_aside w.gathering
more-blocks [] w = omega arith
more-blocks (v ∷ ws) w = let rest = more-blocks ws w in omega (arith, rest)

pub aside-begun : (block capacity : ℕ) (held : List HeldBlocks) (ws : List Waiting) (w : Waiting) → IsAsideFree block capacity held ws → is_free block held w →
    (sets_aside w.gathering ≡ true → overlaps_aside (row_aside w.gathering) (count_aside w.gathering) ws ≡ false) →
    held_blocks block held + aside_blocks ws + count_aside w.gathering ≤ capacity → IsAsideFree block capacity held (ws ++ w ∷ [])
aside-begun block capacity held ws w i free apart room = record {
  free = all-more (is_free block held) ws w i.free free;
  apart = more-apart ws w i.apart apart;
  room = omega (arith, room, more-blocks ws w);
}

-- ---- a source was taken in

same-sets : (o : Option GatheringState) (bytes : List ℕ) → sets_aside (option_map (λ (g : GatheringState). accepted g bytes) o) ≡ sets_aside o
same-sets None bytes = refl
same-sets (Some g) bytes = refl

same-row : (o : Option GatheringState) (bytes : List ℕ) → row_aside (option_map (λ (g : GatheringState). accepted g bytes) o) ≡ row_aside o
same-row None bytes = refl
same-row (Some g) bytes = refl

same-count : (o : Option GatheringState) (bytes : List ℕ) → count_aside (option_map (λ (g : GatheringState). accepted g bytes) o) ≡ count_aside o
same-count None bytes = refl
same-count (Some g) bytes = refl

has-same : (row count : ℕ) (made : List At) (bytes : List ℕ) (w : Waiting) → has_aside row count (accepting made bytes w) ≡ has_aside row count w
has-same row count made bytes w =
    ap (λ b. b && (nat_lt (row_aside (accepting made bytes w).gathering) (row + count)
    && nat_lt row (row_aside (accepting made bytes w).gathering + count_aside (accepting made bytes w).gathering))) (same-sets w.gathering bytes)
    ∙ ap (λ r. sets_aside w.gathering && (nat_lt r (row + count) && nat_lt row (r + count_aside (accepting made bytes w).gathering))) (same-row w.gathering bytes)
    ∙ ap (λ n. sets_aside w.gathering && (nat_lt (row_aside w.gathering) (row + count) && nat_lt row (row_aside w.gathering + n))) (same-count w.gathering bytes)

overlaps-same : (row count owner : ℕ) (made : List At) (bytes : List ℕ) (ws : List Waiting) → overlaps_aside row count (with_source owner made bytes ws) ≡ overlaps_aside row count ws
overlaps-same row count owner made bytes [] = refl
overlaps-same row count owner made bytes (w ∷ ws) = choose (w.owner == owner) (overlaps-same row count owner made bytes ws)
  where
    choose : (b : Bool) → overlaps_aside row count (with_source owner made bytes ws) ≡ overlaps_aside row count ws →
        overlaps_aside row count (cond b (accepting made bytes w ∷ ws) (w ∷ with_source owner made bytes ws)) ≡ (has_aside row count w || overlaps_aside row count ws)
    choose true rest = ap (λ b. b || overlaps_aside row count ws) (has-same row count made bytes w)
    choose false rest = ap (λ b. has_aside row count w || b) rest

blocks-same : (owner : ℕ) (made : List At) (bytes : List ℕ) (ws : List Waiting) → aside_blocks (with_source owner made bytes ws) ≡ aside_blocks ws
blocks-same owner made bytes [] = refl
blocks-same owner made bytes (w ∷ ws) = choose (w.owner == owner) (blocks-same owner made bytes ws)
  where
    choose : (b : Bool) → aside_blocks (with_source owner made bytes ws) ≡ aside_blocks ws →
        aside_blocks (cond b (accepting made bytes w ∷ ws) (w ∷ with_source owner made bytes ws)) ≡ count_aside w.gathering + aside_blocks ws
    choose true rest = ap (λ n. n + aside_blocks ws) (same-count w.gathering bytes)
    choose false rest = ap (λ n. count_aside w.gathering + n) rest

-- what is said of rows that are set aside is said of them with a source more
moved : (P : ℕ → ℕ → Type 0) (made : List At) (bytes : List ℕ) (w : Waiting) → (sets_aside w.gathering ≡ true → P (row_aside w.gathering) (count_aside w.gathering)) →
    sets_aside (accepting made bytes w).gathering ≡ true → P (row_aside (accepting made bytes w).gathering) (count_aside (accepting made bytes w).gathering)
moved P made bytes w h aside =
    subst (λ r. P r (count_aside (accepting made bytes w).gathering)) (sym (same-row w.gathering bytes))
    (subst (λ n. P (row_aside w.gathering) n) (sym (same-count w.gathering bytes)) (h (sym (same-sets w.gathering bytes) ∙ aside)))

apart-same : (owner : ℕ) (made : List At) (bytes : List ℕ) (ws : List Waiting) → AreApart ws → AreApart (with_source owner made bytes ws)
apart-same owner made bytes [] h = tt
apart-same owner made bytes (w ∷ ws) h = choose (w.owner == owner) (apart-same owner made bytes ws h.1)
  where
    choose : (b : Bool) → AreApart (with_source owner made bytes ws) → AreApart (cond b (accepting made bytes w ∷ ws) (w ∷ with_source owner made bytes ws))
    choose true rest = (moved (λ r n. overlaps_aside r n ws ≡ false) made bytes w h.0, h.1)
    choose false rest = (λ aside. overlaps-same (row_aside w.gathering) (count_aside w.gathering) owner made bytes ws ∙ h.0 aside, rest)

pub aside-source : (block capacity owner : ℕ) (held : List HeldBlocks) (made : List At) (bytes : List ℕ) (ws : List Waiting) → IsAsideFree block capacity held ws →
    IsAsideFree block capacity held (with_source owner made bytes ws)
aside-source block capacity owner held made bytes ws i = record {
  free = all-with-source (is_free block held) owner made bytes ws i.free
      (λ w found. moved (λ r n. overlap_of block r n held ≡ None) made bytes w
      (all-found (is_free block held) (λ (x : Waiting). x.owner == owner) ws w i.free found));
  apart = apart-same owner made bytes ws i.apart;
  room = omega (arith, i.room, blocks-same owner made bytes ws);
}

-- ---- a gathering ends whose rows were set aside

some-same : {X : Type 0} (x y : X) → Some x ≡ Some y → x ≡ y
some-same x y h = cc

-- what no element has, the first that passes a test hasn't
none-found : (p q : Waiting → Bool) (ws : List Waiting) (w : Waiting) → list_any p ws ≡ false → find q ws ≡ Some w → p w ≡ false
none-found p q [] w none found = absurd cc
none-found p q (v ∷ ws) w none found =
    let parts = first-none (p v) (list_any p ws) none in
    choose (q v) found parts.0 (none-found p q ws w parts.1)
  where
    choose : (b : Bool) → cond b (Some v) (find q ws) ≡ Some w → p v ≡ false → (find q ws ≡ Some w → p w ≡ false) → p w ≡ false
    choose true e own older = subst (λ (x : Waiting). p x ≡ false) (some-same v w e) own
    choose false e own older = older e

-- the others' rows are apart from its rows
pub others-apart : (owner : ℕ) (ws : List Waiting) (w : Waiting) → AreApart ws → waiting_of owner ws ≡ Some w → sets_aside w.gathering ≡ true →
    overlaps_aside (row_aside w.gathering) (count_aside w.gathering) (without_owner owner ws) ≡ false
others-apart owner [] w h found aside = absurd cc
others-apart owner (v ∷ ws) w h found aside = choose (v.owner == owner) found (others-apart owner ws w h.1)
  where
    first : (b : Bool) → sets_aside v.gathering ≡ b → waiting_of owner ws ≡ Some w → has_aside (row_aside w.gathering) (count_aside w.gathering) v ≡ false
    first true own there =
        turned-apart w v own
        (none-found (has_aside (row_aside v.gathering) (count_aside v.gathering)) (λ (x : Waiting). x.owner == owner) ws w (h.0 own) there) aside
    first false own there = nothing-aside (row_aside w.gathering) (count_aside w.gathering) v own

    choose : (b : Bool) → cond b (Some v) (waiting_of owner ws) ≡ Some w →
        (waiting_of owner ws ≡ Some w → sets_aside w.gathering ≡ true → overlaps_aside (row_aside w.gathering) (count_aside w.gathering) (without_owner owner ws) ≡ false) →
        list_any (has_aside (row_aside w.gathering) (count_aside w.gathering)) (cond (not b) (v ∷ without_owner owner ws) (without_owner owner ws)) ≡ false
    choose true e older =
        subst (λ (x : Waiting). overlaps_aside (row_aside x.gathering) (count_aside x.gathering) (without_owner owner ws) ≡ false) (some-same v w e)
        (none-of-any (has_aside (row_aside v.gathering) (count_aside v.gathering)) (λ (x : Waiting). not (x.owner == owner)) ws
        (h.0 (subst (λ (x : Waiting). sets_aside x.gathering ≡ true) (sym (some-same v w e)) aside)))
    choose false e older =
        ap (λ b. b || overlaps_aside (row_aside w.gathering) (count_aside w.gathering) (without_owner owner ws)) (first (sets_aside v.gathering) refl e) ∙ older e aside

-- and its blocks were set aside besides theirs
pub others-blocks : (owner : ℕ) (ws : List Waiting) (w : Waiting) → waiting_of owner ws ≡ Some w → count_aside w.gathering + aside_blocks (without_owner owner ws) ≤ aside_blocks ws
others-blocks owner [] w found = absurd cc
others-blocks owner (v ∷ ws) w found = choose (v.owner == owner) found (others-blocks owner ws w)
  where
    choose : (b : Bool) → cond b (Some v) (waiting_of owner ws) ≡ Some w →
        (waiting_of owner ws ≡ Some w → count_aside w.gathering + aside_blocks (without_owner owner ws) ≤ aside_blocks ws) →
        count_aside w.gathering + aside_blocks (cond (not b) (v ∷ without_owner owner ws) (without_owner owner ws)) ≤ count_aside v.gathering + aside_blocks ws
    choose true e older =
        let same : count_aside v.gathering ≡ count_aside w.gathering = ap (λ (x : Waiting). count_aside x.gathering) (some-same v w e) in
        omega (arith, same, aside-filtered (λ (x : Waiting). not (x.owner == owner)) ws)
    choose false e older = omega (arith, older e)

-- ---- what may be held

-- A command's rows may be held: none of them is held or set aside, and there is room for them besides what is held and set aside.
pub record FindsRoom (t : TargetState) (command : Command) : Type 0 where
  pub free : overlap_of t.block (row_of command) (count_of command) t.held ≡ None
  pub apart : overlaps_aside (row_of command) (count_of command) t.waiting ≡ false
  pub room : held_blocks t.block t.held + count_of command + aside_blocks t.waiting ≤ t.buffer

-- they are held
pub aside-held : (t : TargetState) (row count owner : ℕ) (bytes : List ℕ) → overlaps_aside row count t.waiting ≡ false → held_blocks t.block t.held + count + aside_blocks t.waiting ≤ t.buffer →
    held_blocks t.block (t.held ++ record { owner = owner; row = row; bytes = bytes } ∷ []) ≡ held_blocks t.block t.held + count → IsAsideFree t.block t.buffer t.held t.waiting →
    IsAsideFree t.block t.buffer (t.held ++ record { owner = owner; row = row; bytes = bytes } ∷ []) t.waiting
aside-held t row count owner bytes apart room fills i =
    let h : HeldBlocks = record { owner = owner; row = row; bytes = bytes } in
    let both = held_blocks-append t.block t.held (h ∷ []) in
    let long : length bytes / t.block ≡ count = omega (arith, fills, both) in
    aside-more t.block t.buffer row count t.held h t.waiting refl long apart room i

-- one more waits that gathers nothing
pub aside-waits : (block capacity : ℕ) (held : List HeldBlocks) (ws : List Waiting) (owner : ℕ) (made : List At) → IsAsideFree block capacity held ws →
    IsAsideFree block capacity held (ws ++ record { owner = owner; made = made; gathering = None } ∷ [])
aside-waits block capacity held ws owner made i =
    aside-begun block capacity held ws (record { owner = owner; made = made; gathering = None }) i (λ aside. absurd (false≢true aside)) (λ aside. absurd (false≢true aside)) (omega (arith, i.room))

-- one more gathers
pub aside-gathers : (t : TargetState) (owner : ℕ) (made : List At) (g : GatheringState) → (is_kept g.admitted.command ≡ true → FindsRoom t g.admitted.command) →
    IsAsideFree t.block t.buffer t.held t.waiting → IsAsideFree t.block t.buffer t.held (t.waiting ++ record { owner = owner; made = made; gathering = Some g } ∷ [])
aside-gathers t owner made g finds i = by (is_kept g.admitted.command) refl
  where
    waits : Waiting
    waits = record { owner = owner; made = made; gathering = Some g }

    by : (b : Bool) → is_kept g.admitted.command ≡ b → IsAsideFree t.block t.buffer t.held (t.waiting ++ waits ∷ [])
    by true kept =
        let f = finds kept in
        let n : count_aside (Some g) ≡ count_of g.admitted.command = ap (λ b. cond b (count_of g.admitted.command) 0) kept in
        aside-begun t.block t.buffer t.held t.waiting waits i
        (λ aside. ap (λ n. overlap_of t.block (row_of g.admitted.command) n t.held) n ∙ f.free)
        (λ aside. ap (λ n. overlaps_aside (row_of g.admitted.command) n t.waiting) n ∙ f.apart) (omega (arith, n, f.room))
    by false other =
        let n : count_aside (Some g) ≡ 0 = ap (λ b. cond b (count_of g.admitted.command) 0) other in
        aside-begun t.block t.buffer t.held t.waiting waits i (λ aside. absurd (false≢true (sym other ∙ aside))) (λ aside. absurd (false≢true (sym other ∙ aside))) (omega (arith, n, i.room))

-- what a gathering set aside may be held as soon as it ends
pub aside-found : (t : TargetState) (owner : ℕ) (w : Waiting) (g : GatheringState) → IsAsideFree t.block t.buffer t.held t.waiting → waiting_of owner t.waiting ≡ Some w →
    w.gathering ≡ Some g → is_kept g.admitted.command ≡ true → FindsRoom (record t { waiting = without_owner owner t.waiting }) g.admitted.command
aside-found t owner w g i found has kept =
    let aside : sets_aside w.gathering ≡ true = ap sets_aside has ∙ kept in
    let row : row_aside w.gathering ≡ row_of g.admitted.command = ap row_aside has in
    let n : count_aside w.gathering ≡ count_of g.admitted.command = ap count_aside has ∙ ap (λ b. cond b (count_of g.admitted.command) 0) kept in
    let own = all-found (is_free t.block t.held) (λ (x : Waiting). x.owner == owner) t.waiting w i.free found aside in
    let others = others-apart owner t.waiting w i.apart found aside in
    record {
      free = ap (λ r. overlap_of t.block r (count_of g.admitted.command) t.held) (sym row) ∙ ap (λ m. overlap_of t.block (row_aside w.gathering) m t.held) (sym n) ∙ own;
      apart = ap (λ r. overlaps_aside r (count_of g.admitted.command) (without_owner owner t.waiting)) (sym row)
          ∙ ap (λ m. overlaps_aside (row_aside w.gathering) m (without_owner owner t.waiting)) (sym n) ∙ others;
      room = omega (arith, i.room, n, others-blocks owner t.waiting w found);
    }
