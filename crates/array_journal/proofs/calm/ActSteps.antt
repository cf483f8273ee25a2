-- What a calm journal allows of the next entry, piece by piece.
use Rattle.std.specs.Prelude.{◌≡◌, ◌==◌, ◌&&◌, ◌||◌, ◌<◌, ◌≤◌, nat_lt, ℕ, suc, ◌+◌, Bool, true, false, List, [], ◌∷◌, Some}
use Rattle.std.proofs.Common.{refl, ap, sym, ◌∙◌, arith, subst}
use Rattle.std.proofs.lemmas.Bool.{eq-eqb, eqb-true, lt-ltb, and_from, and_right, or_left, or_right, and_parts, both_ways}
use Rattle.stripe_layout.specs.declared.mode.Mode.{Mode}
use Rattle.sbc_cdbs.specs.declared.descriptor.Cdb.{Cdb}
use Rattle.sbc_cdbs.specs.Cdbs.{SpellsCdb, cdb_bytes}
use Rattle.array_journal.specs.declared.at.At.{At}
use Rattle.array_journal.specs.declared.entry.Entry.{Entry}
use Rattle.array_journal.specs.declared.event.Event.{Event}
use Rattle.array_journal.specs.declared.event.Event.TheVariants.{Open}
use Rattle.array_journal.specs.declared.setting.Setting.{Setting}
use Rattle.array_journal.specs.declared.task.Kind.{Kind}
use Rattle.array_journal.specs.declared.task.Task.{Task}
use Rattle.array_journal.specs.Entries.{name_of, at_lt, entry_at, some_at}
use Rattle.array_journal.specs.declared.act.Act.{Act}
use Rattle.array_journal.specs.declared.act.Act.TheVariants.{Fetches, Puts, Diffs, Takes, Folds, Holds}
use Rattle.array_journal.specs.Acts.{acts_at, has_act, task_bytes, cdb_of, is_act}
use Rattle.array_journal.specs.May.{passes, Names, MayAct, MayAt, MayTarget, is_own_act, is_named, AllNamed}
use Rattle.array_journal.specs.Run.{ComesLater}
use Rattle.array_journal.specs.Calm.{IsCalmEvent}
use Rattle.array_journal.proofs.calm.CalmEntries.{AllCalm, calm-more, is_gone-calm, not_shut-calm, freshes-calm}
use Rattle.array_journal.proofs.runs.Standing.{passes-said}

-- one more calm entry
pub calm-next : (t u c d : ℕ) (e : Entry) (past : List Entry) → e.stamp ≤ u → t ≤ u → c ≤ d → IsCalmEvent d e.event → AllCalm t c past → AllCalm u d (e ∷ past)
calm-next t u c d e past h k m q p = (record { stamp = h; event = q }, calm-more t u c d past k m p)

-- a larger stamp comes later
pub stamp_lt : (a b : At) → a.stamp < b.stamp → at_lt a b ≡ true
stamp_lt a b h = or_left (nat_lt a.stamp b.stamp) ((a.stamp == b.stamp) && nat_lt a.lock b.lock) (lt-ltb a.stamp b.stamp h)

pub later-calm : (e : Entry) (t c : ℕ) (past : List Entry) → t < e.stamp → AllCalm t c past → ComesLater e past
later-calm e t c [] h p = tt
later-calm e t c (newest ∷ past) h p = stamp_lt (name_of newest) (name_of e) (omega (arith, p.0.stamp))

-- an act at a target of a command that was opened in a calm journal
pub act-calm : (s : Setting) (past : List Entry) (stamp i c t d : ℕ) (opened : At) (cdb : Cdb) (len : ℕ) (task : Task) (act : Act) →
    AllCalm t d past → entry_at opened past ≡ Some (Open c task) → opened.stamp < stamp → opened.lock ≡ 0 →
    has_act s act task i ≡ true → some_at (i + 1) (is_act act c) past ≡ false → len ≡ task_bytes s task →
    SpellsCdb (cdb_bytes cdb) (cdb_of s task 0 act) → MayAct s past stamp i c opened cdb task.row len 0 task act
act-calm s past stamp i c t d opened cdb len task act calm stands before book has once whole spelt = record {
  opening = (stands, before);
  in_book = book;
  of_task = has;
  not_gone = is_gone-calm i t d past calm;
  not_shut = not_shut-calm (i + 1) c t d past calm;
  once = once;
  same_life = freshes-calm i opened t d past calm;
  at_row = refl;
  whole = whole;
  spelt = spelt;
}

-- an event of target i, whose lock is i + 1
pub may-target : (s : Setting) (past : List Entry) (stamp i : ℕ) (event : Event) → i < s.geometry.targets →
    MayTarget s past stamp i event → MayAt s past stamp (i + 1) event
may-target s past stamp i event h m = subst (λ (l : ℕ). MayAt s past stamp l event) (suc-lock i) (h, m)
  where
    suc-lock : (i : ℕ) → suc i ≡ i + 1
    suc-lock i = omega arith

-- which acts a task has is a matter of its kind
pub has-by_kind : (s : Setting) (act : Act) (task : Task) (kind : Kind) (mode : Mode) (i : ℕ) → task.kind ≡ kind → s.mode ≡ mode →
    has_act s act task i ≡ (nat_lt i s.geometry.targets && acts_at mode act kind task i)
has-by_kind s act task kind mode i e m =
    ap (λ (k : Kind). nat_lt i s.geometry.targets && acts_at s.mode act k task i) e
    ∙ ap (λ (x : Mode). nat_lt i s.geometry.targets && acts_at x act kind task i) m

-- an act that a task has is one of its kind
pub acts-there : (s : Setting) (act : Act) (task : Task) (i : ℕ) → has_act s act task i ≡ true → acts_at s.mode act task.kind task i ≡ true
acts-there s act task i h = (and_parts (nat_lt i s.geometry.targets) (acts_at s.mode act task.kind task i) h).1

-- an act that the kind has at one target
pub has-there : (s : Setting) (act : Act) (task : Task) (kind : Kind) (mode : Mode) (i : ℕ) → task.kind ≡ kind → s.mode ≡ mode →
    i < s.geometry.targets → acts_at mode act kind task i ≡ true → has_act s act task i ≡ true
has-there s act task kind mode i e m h k =
    has-by_kind s act task kind mode i e m ∙ and_from (nat_lt i s.geometry.targets) (acts_at mode act kind task i) (lt-ltb i s.geometry.targets h) k

-- an act that the kind doesn't have needs no name
pub all_named-none : (s : Setting) (past : List Entry) (c : ℕ) (task : Task) (act : Act) (names : List At) (kind : Kind) (mode : Mode) →
    task.kind ≡ kind → s.mode ≡ mode → ((i : ℕ) → acts_at mode act kind task i ≡ false) → AllNamed s past c task act names
all_named-none s past c task act names kind mode e m never i h =
    absurd (both_ways (has_act s act task i)
    (has-by_kind s act task kind mode i e m ∙ and_right (nat_lt i s.geometry.targets) (acts_at mode act kind task i) (never i)) h)

-- an act that the kind has at one target is named if it is there
pub all_named-one : (s : Setting) (past : List Entry) (c : ℕ) (task : Task) (act : Act) (names : List At) (kind : Kind) (mode : Mode) (target : ℕ) →
    task.kind ≡ kind → s.mode ≡ mode → ((i : ℕ) → acts_at mode act kind task i ≡ (i == target)) →
    is_named past c act target names ≡ true → AllNamed s past c task act names
all_named-one s past c task act names kind mode target e m only named i h =
    let both : (nat_lt i s.geometry.targets ≡ true) × ((i == target) ≡ true) =
    and_parts (nat_lt i s.geometry.targets) (i == target)
    (sym (has-by_kind s act task kind mode i e m ∙ ap (λ b. nat_lt i s.geometry.targets && b) (only i)) ∙ h) in
    subst (λ (k : ℕ). is_named past c act k names ≡ true) (sym (eqb-true i target both.1)) named

-- the first name is of this act, or one of the others is
pub named-here : (past : List Entry) (c : ℕ) (act : Act) (i : ℕ) (name : At) (names : List At) (event : Event) → name.lock ≡ i + 1 →
    entry_at name past ≡ Some event → is_act act c event ≡ true → is_named past c act i (name ∷ names) ≡ true
named-here past c act i name names event h e k =
    or_left ((name.lock == i + 1) && passes (is_act act c) (entry_at name past)) (is_named past c act i names)
    (and_from (name.lock == i + 1) (passes (is_act act c) (entry_at name past)) (eq-eqb name.lock (i + 1) h) (passes-said (is_act act c) name past event e k))

pub named-later : (past : List Entry) (c : ℕ) (act : Act) (i : ℕ) (name : At) (names : List At) → is_named past c act i names ≡ true →
    is_named past c act i (name ∷ names) ≡ true
named-later past c act i name names h = or_right ((name.lock == i + 1) && passes (is_act act c) (entry_at name past)) (is_named past c act i names) h

-- one of six
first_of_six : (a b c d e f : Bool) → a ≡ true → (a || b || c || d || e || f) ≡ true
first_of_six a b c d e f h = ap (λ x. x || b || c || d || e || f) h

third_of_six : (a b c d e f : Bool) → c ≡ true → (a || b || c || d || e || f) ≡ true
third_of_six true b c d e f h = refl
third_of_six false true c d e f h = refl
third_of_six false false c d e f h = ap (λ x. x || d || e || f) h

fourth_of_six : (a b c d e f : Bool) → d ≡ true → (a || b || c || d || e || f) ≡ true
fourth_of_six a b true d e f h = third_of_six a b true d e f refl
fourth_of_six true b false d e f h = refl
fourth_of_six false true false d e f h = refl
fourth_of_six false false false d e f h = ap (λ x. x || e || f) h

fifth_of_six : (a b c d e f : Bool) → e ≡ true → (a || b || c || d || e || f) ≡ true
fifth_of_six a b c true e f h = fourth_of_six a b c true e f refl
fifth_of_six a b true false e f h = third_of_six a b true false e f refl
fifth_of_six true b false false e f h = refl
fifth_of_six false true false false e f h = refl
fifth_of_six false false false false e f h = ap (λ x. x || f) h

-- the event is this act of the command, and the task has it there
abbrev own_part : Setting → ℕ → Task → ℕ → Event → Act → Bool
own_part s c task i e act = has_act s act task i && is_act act c e

-- an act that the task has at the target is one of its own
pub own-fetches : (s : Setting) (c : ℕ) (task : Task) (i : ℕ) (e : Event) → has_act s Fetches task i ≡ true → is_act Fetches c e ≡ true →
    is_own_act s c task (suc i) e ≡ true
own-fetches s c task i e h k =
    first_of_six (own_part s c task i e Fetches) (own_part s c task i e Puts) (own_part s c task i e Diffs) (own_part s c task i e Takes)
    (own_part s c task i e Folds) (own_part s c task i e Holds) (and_from (has_act s Fetches task i) (is_act Fetches c e) h k)

pub own-diffs : (s : Setting) (c : ℕ) (task : Task) (i : ℕ) (e : Event) → has_act s Diffs task i ≡ true → is_act Diffs c e ≡ true →
    is_own_act s c task (suc i) e ≡ true
own-diffs s c task i e h k =
    third_of_six (own_part s c task i e Fetches) (own_part s c task i e Puts) (own_part s c task i e Diffs) (own_part s c task i e Takes)
    (own_part s c task i e Folds) (own_part s c task i e Holds) (and_from (has_act s Diffs task i) (is_act Diffs c e) h k)

pub own-takes : (s : Setting) (c : ℕ) (task : Task) (i : ℕ) (e : Event) → has_act s Takes task i ≡ true → is_act Takes c e ≡ true →
    is_own_act s c task (suc i) e ≡ true
own-takes s c task i e h k =
    fourth_of_six (own_part s c task i e Fetches) (own_part s c task i e Puts) (own_part s c task i e Diffs) (own_part s c task i e Takes)
    (own_part s c task i e Folds) (own_part s c task i e Holds) (and_from (has_act s Takes task i) (is_act Takes c e) h k)

pub own-folds : (s : Setting) (c : ℕ) (task : Task) (i : ℕ) (e : Event) → has_act s Folds task i ≡ true → is_act Folds c e ≡ true →
    is_own_act s c task (suc i) e ≡ true
own-folds s c task i e h k =
    fifth_of_six (own_part s c task i e Fetches) (own_part s c task i e Puts) (own_part s c task i e Diffs) (own_part s c task i e Takes)
    (own_part s c task i e Folds) (own_part s c task i e Holds) (and_from (has_act s Folds task i) (is_act Folds c e) h k)

-- a name of an own act at target i
pub names-own : (s : Setting) (past : List Entry) (stamp c : ℕ) (task : Task) (i : ℕ) (name : At) (event : Event) → name.lock ≡ i + 1 →
    name.stamp < stamp → entry_at name past ≡ Some event → is_own_act s c task (suc i) event ≡ true →
    Names past stamp name (is_own_act s c task name.lock)
names-own s past stamp c task i name event h before e own = (
  passes-said (is_own_act s c task name.lock) name past event e
      (ap (λ (l : ℕ). is_own_act s c task l event) (lock-suc name.lock i h) ∙ own),
  before,
)
  where
    lock-suc : (l i : ℕ) → l ≡ i + 1 → l ≡ suc i
    lock-suc l i h = omega arith
