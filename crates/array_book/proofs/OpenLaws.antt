-- What the tasks of open commands tell: a question about the openings whose commands are open is one about these tasks.
use Rattle.std.proofs.Common.{◌≡◌, ℕ, ◌+◌, Bool, true, false, List, [], ◌∷◌, refl, sym, ap, ◌∙◌, cond, arith, subst}
use Rattle.std.specs.List.{list_any, sum_by}
use Rattle.std.specs.Prelude.{◌==◌, ◌&&◌, ◌||◌, not}
use Rattle.std.proofs.lemmas.Bool.{false≢true, or_right, eq-eqb, eqb-true}
use Rattle.std.proofs.lemmas.List.Folds.{list_any-append}
use Rattle.std.proofs.lemmas.List.Sums.{sum_by-append}
use Rattle.array_journal.specs.declared.entry.Entry.{Entry}
use Rattle.array_journal.specs.declared.event.Event.{Event}
use Rattle.array_journal.specs.declared.event.Event.TheVariants.{Open}
use Rattle.array_journal.specs.declared.setting.Setting.{Setting}
use Rattle.array_journal.specs.declared.task.Task.{Task}
use Rattle.array_journal.specs.Acts.{is_target}
use Rattle.array_journal.specs.Commands.{opens, opens_command, is_open, tasks_conflict}
use Rattle.array_journal.specs.Decision.{opens_conflict, holds_at, count_of, held_count}
use Rattle.array_journal.specs.Entries.{some_at}
use Rattle.array_journal.specs.May.{opens_at}
use Rattle.array_journal.specs.Run.{NoneOpen}
use Rattle.array_journal.proofs.runs.CommandLaws.{open-opened}
use Rattle.array_book.specs.OpenCommands.{task_by, tasks_in, open_tasks, has_ended}

-- each opening of these entries is one of all entries
abbrev pub OpenedAmong : List Entry → List Entry → Type 0
OpenedAmong whole past = (c : ℕ) → some_at 0 (opens_command c) past ≡ true → some_at 0 (opens_command c) whole ≡ true

or-false : (b : Bool) → (b || false) ≡ b
or-false true = refl
or-false false = refl

or-swap : (a b : Bool) → (a || b) ≡ (b || a)
or-swap true true = refl
or-swap true false = refl
or-swap false true = refl
or-swap false false = refl

older-opened : (whole : List Entry) (e : Entry) (past : List Entry) → OpenedAmong whole (e ∷ past) → OpenedAmong whole past
older-opened whole e past among c h = among c (or_right ((e.lock == 0) && opens_command c e.event) (some_at 0 (opens_command c) past) h)

newest-opened : (whole : List Entry) (e : Entry) (past : List Entry) → OpenedAmong whole (e ∷ past) →
    (c : ℕ) → ((e.lock == 0) && opens_command c e.event) ≡ true → some_at 0 (opens_command c) whole ≡ true
newest-opened whole e past among c h = among c (ap (λ b. b || some_at 0 (opens_command c) past) h)

-- a question about open commands
pub record AsksOpen (whole : List Entry) (test : Event → Bool) (f : Task → Bool) : Type 0 where
  pub opening : (c : ℕ) (task : Task) → test (Open c task) ≡ (is_open c whole && f task)
  pub other : (event : Event) → opens event ≡ false → test event ≡ false

asked-here : (whole : List Entry) (test : Event → Bool) (f : Task → Bool) → AsksOpen whole test f → (book : Bool) (event : Event) →
    ((c : ℕ) → (book && opens_command c event) ≡ true → some_at 0 (opens_command c) whole ≡ true) →
    (book && test event) ≡ list_any f (cond book (task_by (has_ended whole) event) [])
asked-here whole test f asks false event opened = refl
asked-here whole test f asks true (Open c task) opened =
    asks.opening c task
    ∙ ap (λ b. (b && not (has_ended whole c)) && f task) (opened c (eq-eqb c c refl))
    ∙ by_end (has_ended whole c)
  where
    by_end : (b : Bool) → (not b && f task) ≡ list_any f (cond b [] (task ∷ []))
    by_end true = refl
    by_end false = sym (or-false (f task))
asked-here whole test f asks true event opened = asks.other event refl

asked-within : (whole : List Entry) (test : Event → Bool) (f : Task → Bool) → AsksOpen whole test f → (past : List Entry) → OpenedAmong whole past →
    some_at 0 test past ≡ list_any f (tasks_in (has_ended whole) past)
asked-within whole test f asks [] among = refl
asked-within whole test f asks (e ∷ past) among =
    ap (λ b. b || some_at 0 test past) (asked-here whole test f asks (e.lock == 0) e.event (newest-opened whole e past among))
    ∙ ap (λ b. list_any f (cond (e.lock == 0) (task_by (has_ended whole) e.event) []) || b)
    (asked-within whole test f asks past (older-opened whole e past among))
    ∙ or-swap (list_any f (cond (e.lock == 0) (task_by (has_ended whole) e.event) [])) (list_any f (tasks_in (has_ended whole) past))
    ∙ sym (list_any-append f (tasks_in (has_ended whole) past) (cond (e.lock == 0) (task_by (has_ended whole) e.event) []))

-- whether the book has an opening whose command is open and whose task passes
pub asked-open : (past : List Entry) (test : Event → Bool) (f : Task → Bool) → AsksOpen past test f →
    some_at 0 test past ≡ list_any f (open_tasks past)
asked-open past test f asks = asked-within past test f asks past (λ c h. h)

-- whether a command that is open conflicts with a task
pub conflict-open : (past : List Entry) (task : Task) →
    some_at 0 (opens_conflict past task) past ≡ list_any (tasks_conflict task) (open_tasks past)
conflict-open past task = asked-open past (opens_conflict past task) (tasks_conflict task) (record { opening = λ c other. refl; other = others })
  where
    others : (event : Event) → opens event ≡ false → opens_conflict past task event ≡ false
    others (Open c other) h = absurd (false≢true (sym h))
    others event h = refl

-- whether a command that is open acts at a target
pub used-open : (s : Setting) (past : List Entry) (i : ℕ) →
    some_at 0 (opens_at s past i) past ≡ list_any (λ task. is_target s task i) (open_tasks past)
used-open s past i = asked-open past (opens_at s past i) (λ task. is_target s task i) (record { opening = λ c task. refl; other = others })
  where
    others : (event : Event) → opens event ≡ false → opens_at s past i event ≡ false
    others (Open c task) h = absurd (false≢true (sym h))
    others event h = refl

-- the blocks that a task holds at target i
abbrev pub held_by : Setting → ℕ → Task → ℕ
held_by s i task = cond (holds_at s i task) task.count 0

held-here : (s : Setting) (whole : List Entry) (i : ℕ) (book : Bool) (event : Event) →
    ((c : ℕ) → (book && opens_command c event) ≡ true → some_at 0 (opens_command c) whole ≡ true) →
    cond book (count_of s whole i event) 0 ≡ sum_by (held_by s i) (cond book (task_by (has_ended whole) event) [])
held-here s whole i false event opened = refl
held-here s whole i true (Open c task) opened =
    ap (λ b. cond ((b && not (has_ended whole c)) && holds_at s i task) task.count 0) (opened c (eq-eqb c c refl))
    ∙ by_end (has_ended whole c)
  where
    by_end : (b : Bool) → cond (not b && holds_at s i task) task.count 0 ≡ sum_by (held_by s i) (cond b [] (task ∷ []))
    by_end true = refl
    by_end false = let n : ℕ = held_by s i task in (omega arith)
held-here s whole i true event opened = refl

held-within : (s : Setting) (whole : List Entry) (i : ℕ) (past : List Entry) → OpenedAmong whole past →
    held_count s whole i past ≡ sum_by (held_by s i) (tasks_in (has_ended whole) past)
held-within s whole i [] among = refl
held-within s whole i (e ∷ past) among =
    let here : cond (e.lock == 0) (count_of s whole i e.event) 0
    ≡ sum_by (held_by s i) (cond (e.lock == 0) (task_by (has_ended whole) e.event) []) =
    held-here s whole i (e.lock == 0) e.event (newest-opened whole e past among) in
    let older : held_count s whole i past ≡ sum_by (held_by s i) (tasks_in (has_ended whole) past) =
    held-within s whole i past (older-opened whole e past among) in
    let joined : sum_by (held_by s i) (tasks_in (has_ended whole) (e ∷ past))
    ≡ sum_by (held_by s i) (tasks_in (has_ended whole) past) + sum_by (held_by s i) (cond (e.lock == 0) (task_by (has_ended whole) e.event) []) =
    sum_by-append (held_by s i) (tasks_in (has_ended whole) past) (cond (e.lock == 0) (task_by (has_ended whole) e.event) []) in
    omega arith

-- the blocks that open commands hold at target i
pub held-open : (s : Setting) (past : List Entry) (i : ℕ) →
    held_count s past i past ≡ sum_by (held_by s i) (open_tasks past)
held-open s past i = held-within s past i past (λ c h. h)

-- the event opens a command that is open
abbrev pub opens_still : List Entry → Event → Bool
opens_still whole (Open c task) = is_open c whole
opens_still whole _ = false

and-true : (b : Bool) → b ≡ (b && true)
and-true true = refl
and-true false = refl

any-open : (past : List Entry) → some_at 0 (opens_still past) past ≡ list_any (λ task. true) (open_tasks past)
any-open past = asked-open past (opens_still past) (λ task. true) (record { opening = λ c task. and-true (is_open c past); other = others })
  where
    others : (event : Event) → opens event ≡ false → opens_still past event ≡ false
    others (Open c task) h = absurd (false≢true (sym h))
    others event h = refl

join : (a t r u s : Bool) → (a && t) || r ≡ true → (t ≡ true → u ≡ true) → (r ≡ true → s ≡ true) → (a && u) || s ≡ true
join true true r true s h f g = refl
join true true r false s h f g = absurd (false≢true (f refl))
join true false r true s h f g = refl
join true false r false s h f g = g h
join false t r u s h f g = g h

neither : (a t r : Bool) → t ≡ false → r ≡ false → (a && t) || r ≡ false
neither true true r e f = absurd (false≢true (sym e))
neither true false r e f = f
neither false t r e f = f

opening-stands : (whole : List Entry) (c : ℕ) → is_open c whole ≡ true → (event : Event) → opens_command c event ≡ true → opens_still whole event ≡ true
opening-stands whole c is (Open command task) h = subst (λ (x : ℕ). is_open x whole ≡ true) (sym (eqb-true command c h)) is
opening-stands whole c is event h = absurd (false≢true h)

open-stands : (whole past : List Entry) (c : ℕ) → is_open c whole ≡ true → some_at 0 (opens_command c) past ≡ true → some_at 0 (opens_still whole) past ≡ true
open-stands whole [] c is h = absurd (false≢true h)
open-stands whole (e ∷ past) c is h =
    join (e.lock == 0) (opens_command c e.event) (some_at 0 (opens_command c) past) (opens_still whole e.event) (some_at 0 (opens_still whole) past) h
    (opening-stands whole c is e.event) (open-stands whole past c is)

-- where no opening stands, no command is open
pub none_open-tasks : (past : List Entry) → open_tasks past ≡ [] → NoneOpen past
none_open-tasks past none c = by_case (is_open c past) refl
  where
    by_case : (b : Bool) → is_open c past ≡ b → is_open c past ≡ false
    by_case true is =
        absurd (false≢true (sym (ap (list_any (λ (task : Task). true)) none) ∙ sym (any-open past) ∙ open-stands past past c is (open-opened c past is)))
    by_case false is = is

event-closed : (whole : List Entry) → NoneOpen whole → (event : Event) → opens_still whole event ≡ false
event-closed whole none (Open command task) = none command
event-closed whole none event = refl

none-stands : (whole : List Entry) → NoneOpen whole → (past : List Entry) → some_at 0 (opens_still whole) past ≡ false
none-stands whole none [] = refl
none-stands whole none (e ∷ past) =
    neither (e.lock == 0) (opens_still whole e.event) (some_at 0 (opens_still whole) past) (event-closed whole none e.event) (none-stands whole none past)

-- and where no command is open, no opening stands
pub tasks-none_open : (past : List Entry) → NoneOpen past → open_tasks past ≡ []
tasks-none_open past none = empty (open_tasks past) (sym (any-open past) ∙ none-stands past none past)
  where
    empty : (tasks : List Task) → list_any (λ (task : Task). true) tasks ≡ false → tasks ≡ []
    empty [] h = refl
    empty (task ∷ tasks) h = absurd (false≢true (sym h))
