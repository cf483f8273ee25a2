-- Whether a host has something to do, and its next act wouldn't have to wait.
use Rattle.std.specs.Prelude.{◌≡◌, ◌≢◌, ◌<◌, ◌+◌, ◌==◌, ℕ, Bool, true, false, not, List, [], ◌∷◌, drop, length, slice_get, get_or, Option, Some, None, is_some, Result, Ok, Err, MatchOption}
use Rattle.std.proofs.Common.{refl, ap, sym, ◌∙◌, subst, cond, arith, inl, inr}
use Rattle.std.proofs.lemmas.Bool.{ne_eqb}
use Rattle.std.proofs.lemmas.Option.{get_or_from_slice_get, slice_get-get_or}
use Rattle.sense_data.specs.declared.senses.Sense.{Sense}
use Rattle.stripe_layout.specs.declared.pieces.Piece.{Piece}
use Rattle.array_journal.specs.declared.entry.Entry.{Entry}
use Rattle.array_journal.specs.declared.setting.Setting.{Setting}
use Rattle.array_journal.specs.declared.task.Task.{Task}
use Rattle.array_journal.specs.Commands.{is_open, task_of, tasks_conflict}
use Rattle.array_journal.specs.Decision.{opens_conflict, has_room, holder_of}
use Rattle.array_journal.specs.Entries.{some_at}
use Rattle.array_journal.specs.Laws.{lane}
use Rattle.array_journal.proofs.runs.BookLanes.{decision-lane, conflict-lane, room-lane}
use Rattle.array_journal.proofs.runs.LaneLaws.{is_open-lane, task_of-lane}
use Rattle.array_book.specs.declared.asks.Aim.{Aim}
use Rattle.array_book.specs.declared.asks.Ask.{Ask}
use Rattle.array_book.specs.declared.asks.Want.{Want}
use Rattle.array_book.specs.Asks.{aim_of, decided, decided_at}
use Rattle.array_book.specs.BookAnswers.{HasToWait}
use Rattle.array_book.specs.OpenTasks.{passes_task}
use Rattle.array_book.specs.Waits.{IsOpenSo, IsLeastOpen, WaitsFor, fills}
use Rattle.host_requests.specs.Forms.{transfer_as}
use Rattle.host_requests.specs.Requests.{Moves, Transfer}
use Rattle.host_scripts.specs.declared.script.Action.{Action}
use Rattle.host_scripts.specs.declared.script.Call.{Call}
use Rattle.unit_plans.specs.Buses.{BusSetting}
use Rattle.array_control.specs.declared.call_run.CallRun.{CallRun}
use Rattle.array_control.specs.declared.turns.Work.{Work}
use Rattle.array_control.specs.declared.turns.Work.TheVariants as works
use Rattle.array_control.specs.Arrays.{HasToWaitFor, IsAskFor, IsHeldUpBy, IsTransferOf, part_of, want_for}
use Rattle.array_control.specs.Begins.{IsOfHost, pieces_by}
use Rattle.array_control.specs.HostCalls.{HostCalls, calls_from, left_of}
use Rattle.array_control.specs.Turns.{AreNew, AreOfHosts, FirstIsHeldUp, IsCurrent, IsFirstOf, IsFirstWork, IsHeldUp, IsNewlyTaken, IsNextHeldUp, IsRunnable, IsTaken, StandsAt, Tells, is_empty, not_taken, request_in, upcoming}
use Rattle.array_control.proofs.HostCalls.{own-here, other-here, none-behind}

-- ---- what has to wait is told by the book's entries alone

-- two lists of entries tell the same of what is open, and the book decides the same over them
record SaysSame (s : Setting) (past other : List Entry) : Type 0 where
  opened : (c : ℕ) → is_open c past ≡ is_open c other
  tasks : (c : ℕ) → task_of c past ≡ task_of c other
  conflict : (task : Task) → some_at 0 (opens_conflict past task) past ≡ some_at 0 (opens_conflict other task) other
  room : (task : Task) → has_room s task past ≡ has_room s task other
  decides : (want : Want) → decided s past want ≡ decided s other want

turned : (s : Setting) (past other : List Entry) → SaysSame s past other → SaysSame s other past
turned s past other h = record {
  opened = λ c. sym (h.opened c);
  tasks = λ c. sym (h.tasks c);
  conflict = λ task. sym (h.conflict task);
  room = λ task. sym (h.room task);
  decides = λ want. sym (h.decides want);
}

-- a journal says the same as its entries of lock 0
says-lane : (s : Setting) (past : List Entry) → SaysSame s past (lane 0 past)
says-lane s past = record {
  opened = λ c. is_open-lane c past;
  tasks = λ c. task_of-lane c past;
  conflict = λ task. conflict-lane task past;
  room = λ task. room-lane s task past;
  decides = λ want. at_aim (aim_of s.geometry want);
}
  where
    at_aim : (aim : Result Aim Sense) → decided_at s past aim ≡ decided_at s (lane 0 past) aim
    at_aim (Ok aim) = decision-lane s aim.want aim.stripe aim.target past
    at_aim (Err sense) = refl

module _ (s : Setting) (past other : List Entry) (h : SaysSame s past other) where
  open-so : (test : Task → Bool) (c : ℕ) → IsOpenSo past test c → IsOpenSo other test c
  open-so test c is = record { open_still = sym (h.opened c) ∙ is.open_still; passes = ap (passes_task test) (sym (h.tasks c)) ∙ is.passes }

  open-back : (test : Task → Bool) (c : ℕ) → IsOpenSo other test c → IsOpenSo past test c
  open-back test c is = record { open_still = h.opened c ∙ is.open_still; passes = ap (passes_task test) (h.tasks c) ∙ is.passes }

  least-so : (test : Task → Bool) (by : ℕ) → IsLeastOpen past test by → IsLeastOpen other test by
  least-so test by is = record { one = open-so test by is.one; least = λ c so. is.least c (open-back test c so) }

  waits-so : (task : Task) (by : ℕ) → WaitsFor s past task by → WaitsFor s other task by
  waits-so task by (inl is) = inl (least-so (tasks_conflict task) by is)
  waits-so task by (inr is) = inr (record {
    alone = sym (h.conflict task) ∙ is.alone;
    full = sym (h.room task) ∙ is.full;
    least = least-so (fills s (holder_of s task.kind task)) by is.least;
  })

  has-to-wait : (ask : Ask) (by : ℕ) → HasToWait s past ask by → HasToWait s other ask by
  has-to-wait ask by is = record {
    kind = is.kind;
    task = is.task;
    decided_so = sym (h.decides ask.want) ∙ is.decided_so;
    task_is = is.task_is;
    waits = waits-so is.task by is.waits;
  }

waits-in-book : (s : Setting) (journal : List Entry) (ask : Ask) (by : ℕ) → HasToWait s journal ask by → HasToWait s (lane 0 journal) ask by
waits-in-book s journal = has-to-wait s journal (lane 0 journal) (says-lane s journal)

waits-in-all : (s : Setting) (journal : List Entry) (ask : Ask) (by : ℕ) → HasToWait s (lane 0 journal) ask by → HasToWait s journal ask by
waits-in-all s journal = has-to-wait s (lane 0 journal) journal (turned s journal (lane 0 journal) (says-lane s journal))

-- ---- whether a piece can be gone on with

-- of a piece of a call one thing is asked
one-ask : (b : BusSetting) (n : ℕ) (t : Transfer) (piece : ℕ) (ask other : Ask) → IsAskFor b n t piece ask → IsAskFor b n t piece other → other ≡ ask
one-ask b n t piece ask other h k =
    let found : Some k.blocks ≡ Some h.blocks = sym k.at ∙ h.at in
    let blocks : k.blocks ≡ h.blocks = cc in
    let want : other.want ≡ ask.want =
    k.want ∙ ap (λ (x : Piece). want_for t.want x (part_of b.array.geometry t x)) blocks ∙ sym h.want in
    let call : other.call ≡ ask.call = k.call ∙ sym h.call in
    let place : other.piece ≡ ask.piece = k.piece_is ∙ sym h.piece_is in
    let first : other ≡ record other { call = ask.call } = ap (λ x. record other { call = x }) call in
    let second : record other { call = ask.call } ≡ record other { call = ask.call; piece = ask.piece } =
    ap (λ x. record other { call = ask.call; piece = x }) place in
    let third : record other { call = ask.call; piece = ask.piece } ≡ ask =
    ap (λ (x : Want). record { call = ask.call; piece = ask.piece; want = x }) want in
    first ∙ second ∙ third

pub not-some : {A : Type 0} (o : Option A) → is_some o ≡ false → o ≡ None
not-some None is = refl
not-some (Some x) is = absurd cc

held-wait : (b : BusSetting) (run : CallRun) (ask : Ask) (journal : List Entry) → IsAskFor b run.number (transfer_as run.transfer) run.piece ask →
    (by : ℕ) → IsHeldUpBy b run by journal → HasToWait b.array journal ask by
held-wait b run ask journal asked by held =
    waits-in-all b.array journal ask by
    (subst (λ (x : Ask). HasToWait b.array (lane 0 journal) x by)
    (one-ask b run.number (transfer_as run.transfer) run.piece ask held.waits.ask asked held.waits.asked) held.waits.waits)

-- no command serves it, and the book was looked at
pub free-looked : (b : BusSetting) (run : CallRun) (ask : Ask) (journal : List Entry) (found : Option ℕ) (free : Bool) →
    run.doing ≡ None → IsAskFor b run.number (transfer_as run.transfer) run.piece ask → is_some found ≡ not free →
    MatchOption found ((by : ℕ) → HasToWait b.array journal ask by → ⊥) (λ by. HasToWait b.array journal ask by) →
    Tells free ((by : ℕ) → IsHeldUpBy b run by journal → ⊥)
free-looked b run ask journal None true idle asked is looked =
    record { is = λ _ by held. looked by (held-wait b run ask journal asked by held); so = λ _. refl }
free-looked b run ask journal None false idle asked is looked = absurd cc
free-looked b run ask journal (Some by) true idle asked is looked = absurd cc
free-looked b run ask journal (Some by) false idle asked is looked = record {
  is = λ no. absurd cc;
  so = λ free. absurd (free by (record { idle = idle; waits = record { ask = ask; asked = asked; waits = waits-in-book b.array journal ask by looked } }));
}

-- ---- the first call that isn't of no blocks

-- a call that is read twice is the same one
pub own-read : (host place : ℕ) (calls : List Call) (first second : Call) → place < length calls → (get_or calls place first).host ≡ host →
    (get_or calls place second).host ≡ host
own-read host place calls first second within own =
    ap (λ (x : Call). x.host) (get_or_from_slice_get calls place (get_or calls place first) second (slice_get-get_or calls place first within)) ∙ own

module _ (b : BusSetting) where
  -- it has blocks
  some-blocks : (next : ℕ × Action) (call : CallRun) (journal : List Entry) → IsTaken b next call journal → is_empty b (request_in b next) ≡ false
  some-blocks next call journal taken =
      ap (is_empty b) taken.asks
      ∙ some (length (pieces_by b (transfer_as call.transfer))) (subst (λ n. call.piece < n) taken.way.counted taken.more)
    where
      some : (n : ℕ) → call.piece < n → (n == 0) ≡ false
      some n less = ne_eqb n 0 (λ is. omega (arith, less, is))

  comes-first : (next : ℕ × Action) (left : List (ℕ × Action)) → is_empty b (request_in b next) ≡ false → upcoming b (next ∷ left) ≡ next ∷ left
  comes-first next left is = ap (λ x. cond x (upcoming b left) (next ∷ left)) is

  goes-by : (next : ℕ × Action) (left : List (ℕ × Action)) → is_empty b (request_in b next) ≡ true → upcoming b (next ∷ left) ≡ upcoming b left
  goes-by next left is = ap (λ x. cond x (upcoming b left) (next ∷ left)) is

  -- what is to be done for a call shows that it isn't empty
  work-some : (next : ℕ × Action) (work : Work) → IsFirstWork b next (Some work) → is_empty b (request_in b next) ≡ false
  work-some next (works.Moves call) first = some-blocks next call [] (first.taken [] tt)
  work-some next (works.Fails number fault) first = ap (is_empty b) first.fails

  module _ (host place : ℕ) (calls : List Call) (call : Call) (there : slice_get calls place ≡ Some call) where
    abbrev here : ℕ × Action
    here = (place + 1, call.action)

    -- the calls of the host from the place on, and from behind it on
    abbrev from : List (ℕ × Action)
    from = calls_from host (place + 1) (drop place calls)

    abbrev behind : List (ℕ × Action)
    behind = calls_from host ((place + 1) + 1) (drop (place + 1) calls)

    module _ (own : call.host ≡ host) where
      pub here-of_host : AreOfHosts b from → IsOfHost (request_in b here)
      here-of_host hosts = (subst (AreOfHosts b) (own-here host place calls call there own) hosts).0

      pub here-works : (all : List (ℕ × Action)) (work : Work) → upcoming b all ≡ upcoming b from → IsFirstWork b here (Some work) →
          IsFirstOf b (upcoming b all) (Some work)
      here-works all work same first =
          subst (λ (l : List (ℕ × Action)). IsFirstOf b l (Some work))
          (sym (same ∙ ap (upcoming b) (own-here host place calls call there own) ∙ comes-first here behind (work-some here work first))) first

      pub here-passed : (all : List (ℕ × Action)) → is_empty b (request_in b here) ≡ true → (upcoming b all ≡ upcoming b from) × AreOfHosts b from →
          (upcoming b all ≡ upcoming b behind) × AreOfHosts b behind
      here-passed all none so = (
        so.0 ∙ ap (upcoming b) (own-here host place calls call there own) ∙ goes-by here behind none,
        (subst (AreOfHosts b) (own-here host place calls call there own) so.1).1,
      )

    pub other-passed : (all : List (ℕ × Action)) → (call.host == host) ≡ false → (upcoming b all ≡ upcoming b from) × AreOfHosts b from →
        (upcoming b all ≡ upcoming b behind) × AreOfHosts b behind
    other-passed all other so = (
      so.0 ∙ ap (upcoming b) (other-here host place calls call there other),
      subst (AreOfHosts b) (other-here host place calls call there other) so.1,
    )

  pub none-works : (host place : ℕ) (calls : List Call) (all : List (ℕ × Action)) → place ≡ length calls →
      upcoming b all ≡ upcoming b (calls_from host (place + 1) (drop place calls)) → IsFirstOf b (upcoming b all) None
  none-works host place calls all last same =
      subst (λ (l : List (ℕ × Action)). IsFirstOf b l None)
      (sym (same ∙ ap (λ n. upcoming b (calls_from host (n + 1) (drop n calls))) last ∙ ap (upcoming b) (none-behind host calls))) tt

-- ---- whether a host can go on

-- the work that was found is the first of what is left
pub work-there : (b : BusSetting) (run : HostCalls) (calls : List Call) (host place : ℕ) (found work : Work) → host ≡ run.host →
    calls_from run.host (place + 1) (drop place calls) ≡ left_of run → found ≡ work →
    IsFirstOf b (upcoming b (calls_from host (place + 1) (drop place calls))) (Some found) → IsFirstOf b (upcoming b (left_of run)) (Some work)
work-there b run calls host place found work same left is first =
    subst (λ (w : Work). IsFirstOf b (upcoming b (left_of run)) (Some w)) is
    (subst (λ (l : List (ℕ × Action)). IsFirstOf b (upcoming b l) (Some found)) (ap (λ n. calls_from n (place + 1) (drop place calls)) same ∙ left) first)

told-alike : (answer : Bool) (P Q : Type 0) → (P → Q) → (Q → P) → Tells answer P → Tells answer Q
told-alike answer P Q to back h = record { is = λ yes'. to (h.is yes'); so = λ q. h.so (back q) }

module _ (b : BusSetting) (run : HostCalls) where
  -- with a call that was taken up
  module _ (call : CallRun) (current : run.current ≡ Some call) where
    taken-up : (journal : List Entry) → StandsAt b run journal → IsCurrent b (left_of run) (Some call) journal
    taken-up journal stands = subst (λ (o : Option CallRun). IsCurrent b (left_of run) o journal) current stands.current

    current-works : (left : List (ℕ × Action)) (journal : List Entry) → IsCurrent b left (Some call) journal → upcoming b left ≢ []
    current-works [] journal is none = is
    current-works (next ∷ left) journal is none =
        let some : next ∷ left ≡ [] = sym (comes-first b next left (some-blocks b next call journal is)) ∙ none in cc

    pub goes-runnable : (journal now : List Entry) (free : Bool) → StandsAt b run journal → Tells free ((by : ℕ) → IsHeldUpBy b call by now → ⊥) →
        Tells free (IsRunnable b run now)
    goes-runnable journal now free stands =
        told-alike free ((by : ℕ) → IsHeldUpBy b call by now → ⊥) (IsRunnable b run now)
        (λ never. record {
          work = current-works (left_of run) journal (taken-up journal stands);
          free = λ by held. never by (subst (λ (o : Option CallRun). IsNextHeldUp b (left_of run) o by now) current held);
        })
        (λ runs by held. runs.free by (subst (λ (o : Option CallRun). IsNextHeldUp b (left_of run) o by now) (sym current) held))

  -- with none
  module _ (current : run.current ≡ None) where
    upcoming-new : (left : List (ℕ × Action)) (journal : List Entry) → AreNew left journal → AreNew (upcoming b left) journal
    upcoming-new [] journal new = tt
    upcoming-new (next ∷ left) journal new = by (is_empty b (request_in b next)) (upcoming-new left journal new.1)
      where
        by : (x : Bool) → AreNew (upcoming b left) journal → AreNew (cond x (upcoming b left) (next ∷ left)) journal
        by true later = later
        by false later = new

    all-new : (journal : List Entry) → StandsAt b run journal → AreNew (upcoming b (left_of run)) journal
    all-new journal stands =
        upcoming-new (left_of run) journal (subst (λ (o : Option CallRun). AreNew (not_taken o (left_of run)) journal) current stands.new)

    idle-held : (by : ℕ) (now : List Entry) → IsHeldUp b run by now → FirstIsHeldUp b (upcoming b (left_of run)) by now
    idle-held by now held = subst (λ (o : Option CallRun). IsNextHeldUp b (left_of run) o by now) current held

    held-idle : (by : ℕ) (now : List Entry) → FirstIsHeldUp b (upcoming b (left_of run)) by now → IsHeldUp b run by now
    held-idle by now held = subst (λ (o : Option CallRun). IsNextHeldUp b (left_of run) o by now) (sym current) held

    -- to begin a call
    record IsToBegin (calls : List (ℕ × Action)) (call : CallRun) (journal : List Entry) : Type 0 where
      next : ℕ × Action
      rest : List (ℕ × Action)
      first : calls ≡ next ∷ rest
      newly : IsNewlyTaken b next call
      taken : IsTaken b next call journal

    to-begin : (calls : List (ℕ × Action)) (call : CallRun) (journal : List Entry) → IsFirstOf b calls (Some (works.Moves call)) → AreNew calls journal →
        IsToBegin calls call journal
    to-begin [] call journal first new = absurd first
    to-begin (next ∷ rest) call journal first new = record { next = next; rest = rest; first = refl; newly = first; taken = first.taken journal new.0 }

    module _ (call : CallRun) (first : IsFirstOf b (upcoming b (left_of run)) (Some (works.Moves call))) (journal : List Entry) (stands : StandsAt b run journal) where
      begins : IsToBegin (upcoming b (left_of run)) call journal
      begins = to-begin (upcoming b (left_of run)) call journal first (all-new journal stands)

      pub begins-transfer : IsTransferOf b (transfer_as call.transfer)
      begins-transfer = begins.taken.way.transfer

      pub begins-more : call.piece < length (pieces_by b (transfer_as call.transfer))
      begins-more = subst (λ n. call.piece < n) begins.taken.way.counted begins.taken.more

      begins-held : (by : ℕ) (now : List Entry) → FirstIsHeldUp b (upcoming b (left_of run)) by now → IsHeldUpBy b call by now
      begins-held by now held =
          let both : held.call ∷ held.rest ≡ begins.next ∷ begins.rest = sym held.first ∙ begins.first in
          let same : held.call ≡ begins.next = cc in
          let moves : Moves held.transfer ≡ Moves (transfer_as call.transfer) = sym held.moves ∙ ap (request_in b) same ∙ begins.taken.asks in
          let transfer : held.transfer ≡ transfer_as call.transfer = cc in
          let number : held.call.0 ≡ call.number = ap (λ (x : ℕ × Action). x.0) same ∙ sym begins.taken.number in
          record {
            idle = begins.newly.idle;
            waits =
                subst (λ n. HasToWaitFor b call.number (transfer_as call.transfer) n by now) (sym begins.newly.piece)
                (subst (λ (t : Transfer). HasToWaitFor b call.number t 0 by now) transfer
                (subst (λ n. HasToWaitFor b n held.transfer 0 by now) number held.waits));
          }

      held-begins : (by : ℕ) (now : List Entry) → IsHeldUpBy b call by now → FirstIsHeldUp b (upcoming b (left_of run)) by now
      held-begins by now held = record {
        call = begins.next;
        rest = begins.rest;
        first = begins.first;
        transfer = transfer_as call.transfer;
        moves = begins.taken.asks;
        waits =
            subst (λ n. HasToWaitFor b n (transfer_as call.transfer) 0 by now) begins.taken.number
            (subst (λ n. HasToWaitFor b call.number (transfer_as call.transfer) n by now) begins.newly.piece held.waits);
      }

      pub begins-runnable : (now : List Entry) (free : Bool) → Tells free ((by : ℕ) → IsHeldUpBy b call by now → ⊥) → Tells free (IsRunnable b run now)
      begins-runnable now free =
          told-alike free ((by : ℕ) → IsHeldUpBy b call by now → ⊥) (IsRunnable b run now)
          (λ never. record {
            work = λ none. let no : begins.next ∷ begins.rest ≡ [] = sym begins.first ∙ none in cc;
            free = λ by held. never by (begins-held by now (idle-held by now held));
          })
          (λ runs by held. runs.free by (held-idle by now (held-begins by now held)))
