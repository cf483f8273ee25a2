-- The buffer of a target has room for all that open commands will hold there, so for each of them.
use Rattle.std.specs.List.{AllByRecursion}
use Rattle.std.specs.Prelude.{◌≡◌, ◌==◌, ◌&&◌, ◌||◌, ◌≤◌, ◌⊎◌, not, ℕ, ◌+◌, ◌/◌, Bool, true, false, List, [], ◌∷◌, length, Option, Some, None}
use Rattle.std.proofs.Common.{refl, ap, sym, ◌∙◌, subst, cond, arith, inl, inr}
use Rattle.std.proofs.lemmas.Bool.{and_from, and_parts, and_left, and_right, or_left, or_right, eq-eqb, ne_eqb, eqb-true, leb-true, cases_eq, cases_Bool, cond-true, cond-false, both_ways, false≢true}
use Rattle.stripe_layout.specs.declared.mode.Mode.{Mode}
use Rattle.stripe_layout.specs.Modes.{takes_delta, update_needs_room, target_gathers}
use Rattle.stripe_layout.proofs.ModeLaws.{taken-buffered}
use Rattle.array_journal.specs.declared.entry.Entry.{Entry}
use Rattle.array_journal.specs.declared.event.Event.{Event}
use Rattle.array_journal.specs.declared.event.Event.TheVariants.{Open}
use Rattle.array_journal.specs.declared.setting.Setting.{Setting}
use Rattle.array_journal.specs.declared.task.Kind.{Kind}
use Rattle.array_journal.specs.declared.task.Kind.TheVariants.{Read, Update, DataOnly, DegradedRead, DegradedWrite, Rebuild, Resync}
use Rattle.array_journal.specs.declared.task.Task.{Task}
use Rattle.array_journal.specs.Entries.{some_at}
use Rattle.array_journal.specs.Commands.{opens_command, ends_command, is_open, task_given, task_of, first_task}
use Rattle.array_journal.specs.declared.act.Act.TheVariants.{Takes}
use Rattle.array_journal.specs.Acts.{acts_at, gatherer}
use Rattle.xor_buffers.specs.declared.held.HeldBlocks.{HeldBlocks}
use Rattle.xor_buffers.specs.Held.{has_owner, held_blocks}
use Rattle.xor_buffers.proofs.HeldLists.{AreDistinct, without, taken-out, without-apart, without-all, without-distinct}
use Rattle.array_journal.specs.Decision.{holder_of, is_target_number, holds_at, count_of, held_count, has_room, has_room_at}
use Rattle.array_journal.specs.May.{MayBook}
use Rattle.array_journal.specs.Run.{Grows}
use Rattle.array_journal.proofs.runs.Standing.{may-book, some_at-more}
use Rattle.array_journal.proofs.runs.CommandLaws.{no_task}

-- who takes at a target holds there
holder-takes : (s : Setting) (mode : Mode) (kind : Kind) (task : Task) (i : ℕ) → s.mode ≡ mode → acts_at mode Takes kind task i ≡ true →
    is_target_number i (holder_of s kind task) ≡ true
holder-takes s mode Update task i m h =
    let parts : (takes_delta mode ≡ true) × ((i == task.target) ≡ true) = and_parts (takes_delta mode) (i == task.target) h in
    ap (λ b. is_target_number i (cond b (Some task.target) None)) (ap update_needs_room m ∙ taken-buffered mode parts.0)
    ∙ eq-eqb task.target i (sym (eqb-true i task.target parts.1))
holder-takes s mode DegradedRead task i m h =
    let parts : (target_gathers mode ≡ true) × ((i == gatherer task) ≡ true) = and_parts (target_gathers mode) (i == gatherer task) h in
    ap (λ b. is_target_number i (cond b (Some (gatherer task)) None)) (ap target_gathers m ∙ parts.0)
    ∙ eq-eqb (gatherer task) i (sym (eqb-true i (gatherer task) parts.1))
holder-takes s mode Read task i m h = absurd (false≢true h)
holder-takes s mode DataOnly task i m h = absurd (false≢true h)
holder-takes s mode DegradedWrite task i m h = absurd (false≢true h)
holder-takes s mode Rebuild task i m h = absurd (false≢true h)
holder-takes s mode Resync task i m h = absurd (false≢true h)

pub takes-holds : (s : Setting) (task : Task) (i : ℕ) → acts_at s.mode Takes task.kind task i ≡ true → holds_at s i task ≡ true
takes-holds s task i h = holder-takes s s.mode task.kind task i refl h

-- a command that is opened now doesn't reopen another
still-counted : (s : Setting) (whole wider : List Entry) (i : ℕ) (past : List Entry) →
    ((d : ℕ) → some_at 0 (opens_command d) past ≡ true → is_open d wider ≡ true → is_open d whole ≡ true) → held_count s wider i past ≤ held_count s whole i past
still-counted s whole wider i [] f = omega arith
still-counted s whole wider i (e ∷ past) f =
    let older : held_count s wider i past ≤ held_count s whole i past = still-counted s whole wider i past (λ d o. f d (some_at-more 0 (opens_command d) e past o)) in
    let newest : (cond (e.lock == 0) (count_of s wider i e.event) 0) ≤ (cond (e.lock == 0) (count_of s whole i e.event) 0) = one (e.lock == 0) refl in
    omega (arith, older, newest)
  where
    fewer : (a b h : Bool) (n : ℕ) → (a ≡ true → b ≡ true) → cond (a && h) n 0 ≤ cond (b && h) n 0
    fewer true true h n k = omega arith
    fewer true false h n k = absurd (false≢true (k refl))
    fewer false b h n k = omega arith

    counted : e.lock ≡ 0 → (event : Event) → e.event ≡ event → count_of s wider i event ≤ count_of s whole i event
    counted book (Open command task) q =
        fewer (is_open command wider) (is_open command whole) (holds_at s i task) task.count
        (f command (or_left ((e.lock == 0) && opens_command command e.event) (some_at 0 (opens_command command) past)
        (and_from (e.lock == 0) (opens_command command e.event) (eq-eqb e.lock 0 book) (ap (opens_command command) q ∙ eq-eqb command command refl))))
    counted book _ q = omega arith

    one : (b : Bool) → (e.lock == 0) ≡ b → cond b (count_of s wider i e.event) 0 ≤ cond b (count_of s whole i e.event) 0
    one true q = counted (eqb-true e.lock 0 q) e.event refl
    one false q = omega arith

-- a command that is open after one more entry, and was opened before it, was open before it
was-open : (e : Entry) (past : List Entry) (d : ℕ) → some_at 0 (opens_command d) past ≡ true → is_open d (e ∷ past) ≡ true → is_open d past ≡ true
was-open e past d o h =
    let parts = and_parts (some_at 0 (opens_command d) (e ∷ past)) (not (some_at 0 (ends_command d) (e ∷ past))) h in
    and_from (some_at 0 (opens_command d) past) (not (some_at 0 (ends_command d) past)) o
    (not_older ((e.lock == 0) && ends_command d e.event) (some_at 0 (ends_command d) past) parts.1)
  where
    not_older : (a b : Bool) → not (a || b) ≡ true → not b ≡ true
    not_older true b k = absurd (false≢true k)
    not_older false b k = k

-- What open commands will hold at a target fits its buffer.
room-fits : (s : Setting) (past : List Entry) (task : Task) (i : ℕ) → has_room s task past ≡ true → holds_at s i task ≡ true →
    held_count s past i past + task.count ≤ s.buffer
room-fits s past task i room holds = by (holder_of s task.kind task) refl
  where
    by : (holder : Option ℕ) → holder_of s task.kind task ≡ holder → held_count s past i past + task.count ≤ s.buffer
    by None q = absurd (false≢true (sym (ap (is_target_number i) q) ∙ holds))
    by (Some j) q =
        let same : j ≡ i = eqb-true j i (sym (ap (is_target_number i) q) ∙ holds) in
        let fits : held_count s past j past + task.count ≤ s.buffer =
        leb-true (held_count s past j past + task.count) s.buffer (sym (ap (has_room_at s task past) q) ∙ room) in
        subst (λ (k : ℕ). held_count s past k past + task.count ≤ s.buffer) same fits

pub all-fits : (s : Setting) (i : ℕ) (past : List Entry) → Grows s past → held_count s past i past ≤ s.buffer
all-fits s i [] g = omega arith
all-fits s i (e ∷ past) g = by (all-fits s i past g.1) (cases_eq e.lock 0)
  where
    older : held_count s (e ∷ past) i past ≤ held_count s past i past
    older = still-counted s past (e ∷ past) i past (was-open e past)

    limited : (a h : Bool) (n m : ℕ) → (h ≡ true → m + n ≤ s.buffer) → m ≤ s.buffer → cond (a && h) n 0 + m ≤ s.buffer
    limited true true n m f k = let x : m + n ≤ s.buffer = f refl in omega arith
    limited true false n m f k = omega arith
    limited false h n m f k = omega arith

    opened : held_count s past i past ≤ s.buffer → (event : Event) → MayBook s past e.stamp event → count_of s (e ∷ past) i event + held_count s past i past ≤ s.buffer
    opened fits (Open command task) m =
        limited (is_open command (e ∷ past)) (holds_at s i task) task.count (held_count s past i past) (room-fits s past task i m.room) fits
    opened fits _ m = omega (arith, fits)

    by : held_count s past i past ≤ s.buffer → (e.lock ≡ 0) ⊎ (e.lock ≡ 0 → ⊥) → held_count s (e ∷ past) i (e ∷ past) ≤ s.buffer
    by fits (inl book) =
        let now : count_of s (e ∷ past) i e.event + held_count s past i past ≤ s.buffer = opened fits e.event (may-book s past e.stamp e.lock e.event book g.0.1.1) in
        let q : cond (e.lock == 0) (count_of s (e ∷ past) i e.event) 0 ≡ count_of s (e ∷ past) i e.event =
        cond-true (e.lock == 0) (count_of s (e ∷ past) i e.event) 0 (eq-eqb e.lock 0 book) in
        omega (arith, now, q, older)
    by fits (inr other) =
        let q : cond (e.lock == 0) (count_of s (e ∷ past) i e.event) 0 ≡ 0 =
        cond-false (e.lock == 0) (count_of s (e ∷ past) i e.event) 0 (ne_eqb e.lock 0 other) in
        omega (arith, fits, q, older)

-- held blocks of an open command that counts there
pub record IsCounted (s : Setting) (whole past : List Entry) (i : ℕ) (h : HeldBlocks) : Type 0 where
  pub task : Task
  pub its_task : task_of h.owner past ≡ Some task
  pub open_still : is_open h.owner whole ≡ true
  pub holds : holds_at s i task ≡ true
  pub fits : length h.bytes / s.geometry.block ≤ task.count

-- no one's blocks are those of an entry that isn't one's opening
older-counted : (s : Setting) (whole : List Entry) (i : ℕ) (e : Entry) (past : List Entry) (hs : List HeldBlocks) →
    ((c : ℕ) → has_owner c hs ≡ true → ((e.lock == 0) && opens_command c e.event) ≡ false) →
    AllByRecursion (IsCounted s whole (e ∷ past) i) hs → AllByRecursion (IsCounted s whole past i) hs
older-counted s whole i e past [] f p = tt
older-counted s whole i e past (h ∷ hs) f p = (
  record {
    task = p.0.task;
    its_task = sym (task-else h.owner (f h.owner (or_left (h.owner == h.owner) (has_owner h.owner hs) (eq-eqb h.owner h.owner refl)))) ∙ p.0.its_task;
    open_still = p.0.open_still;
    holds = p.0.holds;
    fits = p.0.fits;
  },
  older-counted s whole i e past hs (λ c o. f c (or_right (h.owner == c) (has_owner c hs) o)) p.1,
)
  where
    given-none : (b : Bool) (c : ℕ) → (b && opens_command c e.event) ≡ false → cond b (task_given c e.event) None ≡ None
    given-none true c q = no_task c e.event q
    given-none false c q = refl

    task-else : (c : ℕ) → ((e.lock == 0) && opens_command c e.event) ≡ false → task_of c (e ∷ past) ≡ task_of c past
    task-else c q = ap (λ (o : Option Task). first_task o (task_of c past)) (given-none (e.lock == 0) c q)

-- What is held counts for no more than open commands do.
pub held-counted : (s : Setting) (whole : List Entry) (i : ℕ) (past : List Entry) (hs : List HeldBlocks) → AreDistinct hs →
    AllByRecursion (IsCounted s whole past i) hs → held_blocks s.geometry.block hs ≤ held_count s whole i past
held-counted s whole i [] [] a p = omega arith
held-counted s whole i [] (h ∷ hs) a p = cc
held-counted s whole i (e ∷ past) hs a p = by (λ l d q. held-counted s whole i past l d q) (e.lock == 0) refl e.event refl
  where
    Rest : Type 0
    Rest = (l : List HeldBlocks) → AreDistinct l → AllByRecursion (IsCounted s whole past i) l → held_blocks s.geometry.block l ≤ held_count s whole i past

    none : Rest → ((c : ℕ) → has_owner c hs ≡ true → ((e.lock == 0) && opens_command c e.event) ≡ false) → held_blocks s.geometry.block hs ≤ held_count s whole i (e ∷ past)
    none rest f =
        let older : held_blocks s.geometry.block hs ≤ held_count s whole i past = rest hs a (older-counted s whole i e past hs f p) in
        omega (arith, older)

    one : (x y : Task) → Some x ≡ Some y → x ≡ y
    one x y q = cc

    opening : Rest → (e.lock == 0) ≡ true → (d : ℕ) (task : Task) → e.event ≡ Open d task → held_blocks s.geometry.block hs ≤ held_count s whole i (e ∷ past)
    opening rest book d task r = elim (cases_Bool (has_owner d hs)) [
      | inl owned ↦ counted (taken-out (IsCounted s whole (e ∷ past) i) s.geometry.block d hs a p owned)
      | inr other ↦ none rest (λ c o. and_right (e.lock == 0) (opens_command c e.event)
          (ap (opens_command c) r ∙ ne_eqb d c (λ same. both_ways (has_owner d hs) other (subst (λ (n : ℕ). has_owner n hs ≡ true) (sym same) o))))
    ]
      where
        its : (c : ℕ) (t : Task) → c ≡ d → task_of c (e ∷ past) ≡ Some t → t ≡ task
        its c t same q =
            one t task
            (sym (subst (λ (n : ℕ). task_of n (e ∷ past) ≡ Some t) same q)
            ∙ ap (λ b. first_task (cond b (task_given d e.event) None) (task_of d past)) book
            ∙ ap (λ (x : Event). first_task (task_given d x) (task_of d past)) r
            ∙ ap (λ b. first_task (cond b (Some task) None) (task_of d past)) (eq-eqb d d refl))

        counted : (h : HeldBlocks) × ((h.owner ≡ d) × (IsCounted s whole (e ∷ past) i h × (held_blocks s.geometry.block hs ≡ length h.bytes / s.geometry.block + held_blocks s.geometry.block (without d hs)))) →
            held_blocks s.geometry.block hs ≤ held_count s whole i (e ∷ past)
        counted (h, (own, (c, whole_sum))) =
            let same : c.task ≡ task = its h.owner c.task own c.its_task in
            let fits : length h.bytes / s.geometry.block ≤ task.count = subst (λ (t : Task). length h.bytes / s.geometry.block ≤ t.count) same c.fits in
            let now : cond (e.lock == 0) (count_of s whole i e.event) 0 ≡ task.count =
            ap (λ b. cond b (count_of s whole i e.event) 0) book ∙ ap (count_of s whole i) r
            ∙ ap (λ b. cond (b && holds_at s i task) task.count 0) (subst (λ (n : ℕ). is_open n whole ≡ true) own c.open_still)
            ∙ ap (λ b. cond b task.count 0) (subst (λ (t : Task). holds_at s i t ≡ true) same c.holds) in
            let others : held_blocks s.geometry.block (without d hs) ≤ held_count s whole i past =
            rest (without d hs) (without-distinct d hs a)
            (older-counted s whole i e past (without d hs)
            (λ n o. and_right (e.lock == 0) (opens_command n e.event)
            (ap (opens_command n) r ∙ ne_eqb d n (λ q. both_ways (has_owner d (without d hs)) (without-apart d hs) (subst (λ (m : ℕ). has_owner m (without d hs) ≡ true) (sym q) o))))
            (without-all (IsCounted s whole (e ∷ past) i) d hs p)) in
            omega (arith, whole_sum, fits, now, others)

    by : Rest → (b : Bool) → (e.lock == 0) ≡ b → (event : Event) → e.event ≡ event → held_blocks s.geometry.block hs ≤ held_count s whole i (e ∷ past)
    by rest false q event r = none rest (λ c o. and_left (e.lock == 0) (opens_command c e.event) q)
    by rest true q (Open d task) r = opening rest q d task r
    by rest true q _ r = none rest (λ c o. and_right (e.lock == 0) (opens_command c e.event) (ap (opens_command c) r))
