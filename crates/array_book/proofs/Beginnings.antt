-- How a piece is begun: what stands in the way of it, the verdict, and the opening.
use Rattle.std.proofs.Common.{◌≡◌, ◌<◌, ◌≤◌, ℕ, Bool, true, false, List, Option, Some, None, refl, sym, ap, ◌∙◌, subst, arith, inl, inr}
use Rattle.std.specs.List.{list_any}
use Rattle.std.specs.Prelude.{MatchOption, is_some, Result, Ok}
use Rattle.std.proofs.lemmas.Bool.{false≢true}
use Rattle.sense_data.specs.declared.senses.Sense.{Sense}
use Rattle.array_journal.specs.declared.at.At.{At}
use Rattle.array_journal.specs.declared.decision.Decision.TheVariants.{Opens, Refuses}
use Rattle.array_journal.specs.declared.decision.Want.{Want as Service}
use Rattle.array_journal.specs.declared.entry.Entry.{Entry}
use Rattle.array_journal.specs.declared.event.Why.{Why}
use Rattle.array_journal.specs.declared.event.Event.TheVariants as events
use Rattle.array_journal.specs.declared.setting.Setting.{Setting}
use Rattle.array_journal.specs.declared.task.Kind.{Kind}
use Rattle.array_journal.specs.declared.task.Task.{Task}
use Rattle.array_journal.specs.Acts.{is_target}
use Rattle.array_journal.specs.Commands.{open_count, opens_command, tasks_conflict}
use Rattle.array_journal.specs.Decision.{want_of, decision, holder_of, holds_at, has_room, has_room_at, opens_conflict}
use Rattle.array_journal.specs.Entries.{some_at}
use Rattle.array_journal.specs.Lives.{is_unfitted}
use Rattle.array_journal.specs.May.{IsTask, opens_at}
use Rattle.array_journal.specs.Parts.{FoundOpen}
use Rattle.array_journal.specs.Run.{IsSetting}
use Rattle.array_book.specs.declared.asks.Aim.{Aim}
use Rattle.array_book.specs.declared.asks.Ask.{Ask}
use Rattle.array_book.specs.declared.beginning.Verdict.{Verdict}
use Rattle.array_book.specs.declared.beginning.Verdict.TheVariants.{Open, Wait, Refuse}
use Rattle.array_book.specs.Asks.{IsWant, IsTaskAt, aim_of, decided_at}
use Rattle.array_book.specs.Begins.{asked_task, MayBegin, IsToOpen, IsVerdict, wait_of}
use Rattle.array_book.specs.BookAnswers.{HasToWait, HasOpened, HasToWaitForSwap}
use Rattle.array_book.specs.Ledgers.{Ledger, AreNumbered, next_name, with_event}
use Rattle.array_book.specs.OpenCommands.{open_commands, open_tasks}
use Rattle.array_book.specs.OpenTasks.{first_open}
use Rattle.array_book.specs.Waits.{IsOpenSo, IsLeastOpen, fills, WaitsFor, IsFree, SwapWaitsFor}
use Rattle.array_book.proofs.FirstOpen.{first-some}
use Rattle.array_book.proofs.LeastOpen.{least-open, opened-below}
use Rattle.array_book.proofs.OpenLaws.{conflict-open, used-open}
use Rattle.array_book.proofs.Opened.{opens-wanted, holder-alike, room-lacks}
use Rattle.array_book.proofs.OpenPlaces.{length-open_tasks}
use Rattle.array_book.proofs.SoundTasks.{task-sound}

-- where none passes, no open command does
no-such : (test : Task → Bool) (past : List Entry) → AreNumbered past → list_any test (open_tasks past) ≡ false → (c : ℕ) → IsOpenSo past test c → ⊥
no-such test past numbered none c so = by_found (first_open test past) refl
  where
    by_found : (found : Option ℕ) → first_open test past ≡ found → ⊥
    by_found None is = least-open test past None numbered (sym is) c so
    by_found (Some by) is =
        false≢true (sym none ∙ sym (first-some test (open_commands past) (open_tasks past) (length-open_tasks past)) ∙ ap (λ (o : Option ℕ). is_some o) is)

-- where no open command passes, none of their tasks does
pub none-passes : (test : Task → Bool) (past : List Entry) → AreNumbered past → ((c : ℕ) → IsOpenSo past test c → ⊥) → list_any test (open_tasks past) ≡ false
none-passes test past numbered none = by_found (first_open test past) refl
  where
    by_found : (found : Option ℕ) → first_open test past ≡ found → list_any test (open_tasks past) ≡ false
    by_found None is = sym (first-some test (open_commands past) (open_tasks past) (length-open_tasks past)) ∙ ap (λ (o : Option ℕ). is_some o) is
    by_found (Some by) is = absurd (none by (least-open test past (Some by) numbered (sym is)).one)

-- the least command that acts at a slot
pub least-at : (s : Setting) (past : List Entry) (slot : ℕ) (found : Option ℕ) → AreNumbered past → found ≡ first_open (λ task. is_target s task slot) past →
    MatchOption found (some_at 0 (opens_at s past slot) past ≡ false) (λ by. SwapWaitsFor s past slot by)
least-at s past slot None numbered is =
    used-open s past slot
    ∙ sym (first-some (λ task. is_target s task slot) (open_commands past) (open_tasks past) (length-open_tasks past))
    ∙ ap (λ (o : Option ℕ). is_some o) (sym is)
least-at s past slot (Some by) numbered is = least-open (λ task. is_target s task slot) past (Some by) numbered is

pub none-at : (s : Setting) (past : List Entry) (slot : ℕ) → AreNumbered past → some_at 0 (opens_at s past slot) past ≡ false →
    (by : ℕ) → SwapWaitsFor s past slot by → ⊥
none-at s past slot numbered idle by waits = no-such (λ task. is_target s task slot) past numbered (sym (used-open s past slot) ∙ idle) by waits.one

pub swap-waits : (s : Setting) (past : List Entry) (slot : ℕ) (found : Option ℕ) → AreNumbered past → is_unfitted slot past ≡ true →
    MatchOption found (some_at 0 (opens_at s past slot) past ≡ false) (λ by. SwapWaitsFor s past slot by) →
    MatchOption found ((by : ℕ) → HasToWaitForSwap s past slot by → ⊥) (λ by. HasToWaitForSwap s past slot by)
swap-waits s past slot None numbered unfitted idle = λ by h. none-at s past slot numbered idle by h.1
swap-waits s past slot (Some by) numbered unfitted waits = (unfitted, waits)

-- a task that conflicts with none and has room waits for none
pub waits-none : (s : Setting) (past : List Entry) (task : Task) → AreNumbered past → IsFree s past task → (by : ℕ) → WaitsFor s past task by → ⊥
waits-none s past task numbered free by (inl h) =
    no-such (tasks_conflict task) past numbered (sym (conflict-open past task) ∙ free.alone) by h.one
waits-none s past task numbered free by (inr h) = false≢true (sym h.full ∙ free.room)

-- the least that a task conflicts with
pub least-conflict : (past : List Entry) (task : Task) (found : Option ℕ) → AreNumbered past →
    MatchOption found ((c : ℕ) → IsOpenSo past (tasks_conflict task) c → ⊥) (λ by. IsLeastOpen past (tasks_conflict task) by) →
    MatchOption found (some_at 0 (opens_conflict past task) past ≡ false) (λ by. IsLeastOpen past (tasks_conflict task) by)
least-conflict past task None numbered none = conflict-open past task ∙ none-passes (tasks_conflict task) past numbered none
least-conflict past task (Some by) numbered least = least

-- the least that holds blocks where room is lacking
pub waits-room : (s : Setting) (past : List Entry) (task : Task) (i : ℕ) (found : Option ℕ) → AreNumbered past → task.count ≤ s.buffer →
    some_at 0 (opens_conflict past task) past ≡ false → has_room s task past ≡ false → Some i ≡ holder_of s task.kind task →
    MatchOption found ((c : ℕ) → IsOpenSo past (holds_at s i) c → ⊥) (λ by. IsLeastOpen past (holds_at s i) by) →
    MatchOption found (IsFree s past task) (λ by. WaitsFor s past task by)
waits-room s past task i None numbered small alone full at none =
    absurd (room-lacks s task past i small (sym at) full (none-passes (holds_at s i) past numbered none))
waits-room s past task i (Some by) numbered small alone full at least = inr (record {
  alone = alone;
  full = full;
  least = subst (λ (o : Option ℕ). IsLeastOpen past (fills s o) by) at least;
})

-- a buffer is asked for no room where no blocks are held
pub room-unasked : (s : Setting) (past : List Entry) (task : Task) → None ≡ holder_of s task.kind task → has_room s task past ≡ true
room-unasked s past task none = ap (has_room_at s task past) (sym none)

-- ---- what stands in the way of a task doesn't hang on its bytes

module _ (s : Setting) (past : List Entry) (a b : Task) (same : b ≡ record a { bytes = b.bytes }) where
  conflicts-alike : some_at 0 (opens_conflict past a) past ≡ some_at 0 (opens_conflict past b) past
  conflicts-alike =
      conflict-open past a
      ∙ sym (conflict-open past b ∙ ap (λ (task : Task). list_any (tasks_conflict task) (open_tasks past)) same)

  holders-alike : holder_of s a.kind a ≡ holder_of s b.kind b
  holders-alike =
      holder-alike s a.kind a b (sym (ap (λ (task : Task). task.target) same))
      ∙ ap (λ (kind : Kind). holder_of s kind b) (sym (ap (λ (task : Task). task.kind) same))

  room_at-alike : (o : Option ℕ) → has_room_at s a past o ≡ has_room_at s b past o
  room_at-alike None = refl
  room_at-alike (Some i) = sym (ap (λ (task : Task). has_room_at s task past (Some i)) same)

  rooms-alike : has_room s a past ≡ has_room s b past
  rooms-alike = room_at-alike (holder_of s a.kind a) ∙ ap (has_room_at s b past) holders-alike

  least-alike : (by : ℕ) → IsLeastOpen past (tasks_conflict a) by → IsLeastOpen past (tasks_conflict b) by
  least-alike by h = subst (λ (task : Task). IsLeastOpen past (tasks_conflict task) by) (sym same) h

  pub waits-alike : (by : ℕ) → WaitsFor s past a by → WaitsFor s past b by
  waits-alike by (inl h) = inl (least-alike by h)
  waits-alike by (inr h) = inr (record {
    alone = sym conflicts-alike ∙ h.alone;
    full = sym rooms-alike ∙ h.full;
    least = subst (λ (o : Option ℕ). IsLeastOpen past (fills s o) by) holders-alike h.least;
  })

  pub free-alike : IsFree s past a → IsFree s past b
  free-alike h = record { alone = sym conflicts-alike ∙ h.alone; room = sym rooms-alike ∙ h.room }

-- ---- the verdict

same-kind : (a b : Kind) → Opens a ≡ Opens b → a ≡ b
same-kind a b e = cc

pub verdict-is : (book : Ledger) (ask : Ask) (kind : Kind) (aim : Aim) (v : Verdict) → Ok aim ≡ aim_of book.setting.geometry ask.want →
    Opens kind ≡ decision book.setting aim.want aim.stripe aim.target book.past → MayBegin book ask kind aim v → IsVerdict book ask v
verdict-is book ask kind aim (Open kind_of rows) at dec h =
    subst (λ (k : Kind). IsToOpen book ask k rows) (sym h.0.0)
    (subst (λ (r : Aim). IsToOpen book ask kind r) (sym h.0.1)
    (record { at_rows = sym at; decided_so = ap (decided_at book.setting book.past) (sym at) ∙ sym dec; waits = h.1 }))
verdict-is book ask kind aim (Wait by) at dec h = record {
  kind = kind;
  task = asked_task book ask kind aim;
  decided_so = ap (decided_at book.setting book.past) (sym at) ∙ sym dec;
  task_is = subst (λ (r : Result Aim Sense). IsTaskAt book.setting.geometry ask kind r (asked_task book ask kind aim)) at refl;
  waits = h;
}
verdict-is book ask kind aim (Refuse why) at dec h = absurd h

open-waits : (book : Ledger) (ask : Ask) (kind : Kind) (aim : Aim) → IsToOpen book ask kind aim → (by : ℕ) → HasToWait book.setting book.past ask by → ⊥
open-waits book ask kind aim o by h =
    let k : h.kind ≡ kind = same-kind h.kind kind (sym h.decided_so ∙ o.decided_so) in
    let t : h.task ≡ asked_task book ask h.kind aim = subst (λ (r : Result Aim Sense). IsTaskAt book.setting.geometry ask h.kind r h.task) o.at_rows h.task_is in
    let same : h.task ≡ asked_task book ask kind aim = t ∙ ap (λ (x : Kind). asked_task book ask x aim) k in
    o.waits.for_none by (subst (λ (task : Task). WaitsFor book.setting book.past task by) same h.waits)

-- what a look answers
pub looked : (book : Ledger) (ask : Ask) (v : Verdict) → IsVerdict book ask v →
    MatchOption (wait_of v) ((by : ℕ) → HasToWait book.setting book.past ask by → ⊥) (λ by. HasToWait book.setting book.past ask by)
looked book ask (Open kind aim) o = λ by h. open-waits book ask kind aim o by h
looked book ask (Wait by) h = h
looked book ask (Refuse why) refused = λ by h. other why h.kind (sym refused ∙ h.decided_so)
  where
    other : (w : Why) (k : Kind) → Refuses w ≡ Opens k → ⊥
    other w k e = cc

-- ---- the opening

-- the task of what is to be opened is sound
pub asked-sound : (book : Ledger) (ask : Ask) (kind : Kind) (aim : Aim) → IsSetting book.setting → IsWant book.setting ask.want → aim_of book.setting.geometry ask.want ≡ Ok aim →
    decision book.setting aim.want aim.stripe aim.target book.past ≡ Opens kind → IsTask book.setting (asked_task book ask kind aim)
asked-sound book ask kind aim setting want at dec =
    task-sound book.setting ask.call ask.piece ask.want kind aim setting want at (opens-wanted book.setting aim.want aim.stripe aim.target book.past kind dec)

pub opens-sound : (book : Ledger) (ask : Ask) (kind : Kind) (aim : Aim) → IsSetting book.setting → IsWant book.setting ask.want → IsToOpen book ask kind aim →
    IsTask book.setting (asked_task book ask kind aim)
opens-sound book ask kind aim setting want o =
    asked-sound book ask kind aim setting want o.at_rows (ap (decided_at book.setting book.past) (sym o.at_rows) ∙ o.decided_so)

pub new-number : (past : List Entry) (c : ℕ) → AreNumbered past → c ≡ open_count past → some_at 0 (opens_command c) past ≡ false
new-number past c numbered is = by_test (some_at 0 (opens_command c) past) refl
  where
    by_test : (b : Bool) → some_at 0 (opens_command c) past ≡ b → b ≡ false
    by_test true h = let lt : c < open_count past = opened-below past numbered c h in absurd (omega (arith, lt, is))
    by_test false h = refl

pub has-opened : (old : Ledger) (ask : Ask) (kind : Kind) (aim : Aim) (stamp : ℕ) (new : Ledger) (at : At) (command : ℕ) (task : Task) →
    IsSetting old.setting → AreNumbered old.past → IsWant old.setting ask.want → IsToOpen old ask kind aim →
    task ≡ asked_task old ask kind aim → command ≡ open_count old.past → at ≡ next_name old stamp → new ≡ with_event old stamp (events.Open command task) →
    HasOpened old ask stamp new at command task
has-opened old ask kind aim stamp new at command task setting numbered want o task_eq command_eq name made =
    let dec : decision old.setting aim.want aim.stripe aim.target old.past ≡ Opens kind = ap (decided_at old.setting old.past) (sym o.at_rows) ∙ o.decided_so in
    let wanted : want_of kind ≡ aim.want = opens-wanted old.setting aim.want aim.stripe aim.target old.past kind dec in
    let kind_is : task.kind ≡ kind = ap (λ (t : Task). t.kind) task_eq in
    record {
      decided_so = o.decided_so ∙ ap Opens (sym kind_is);
      task_is = subst (λ (r : Result Aim Sense). IsTaskAt old.setting.geometry ask task.kind r task) (sym o.at_rows)
          (task_eq ∙ ap (λ (k : Kind). asked_task old ask k aim) (sym kind_is));
      asked = subst (λ (t : Task). IsTask old.setting t) (sym task_eq) (opens-sound old ask kind aim setting want o);
      found = subst (λ (t : Task). FoundOpen old.setting old.past command t) (sym task_eq) (record {
        numbered = command_eq;
        decided = ap (λ (w : Service). decision old.setting w aim.stripe aim.target old.past) wanted ∙ dec;
        alone = o.waits.free.alone;
        room = o.waits.free.room;
      });
      is_new = new-number old.past command numbered command_eq;
      name = name;
      made = made;
    }
