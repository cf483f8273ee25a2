-- A piece is begun: what the book decides of it, and what the call has come to then.
use Rattle.std.specs.Prelude.{◌≡◌, ◌≢◌, ◌≤◌, ◌<◌, ◌++◌, ◌⊎◌, ◌+◌, max, ℕ, Bool, true, List, [], ◌∷◌, Option, Some, None, option_map, slice_get}
use Rattle.std.proofs.Common.{refl, ap, sym, ◌∙◌, subst, inl, inr}
use Rattle.std.proofs.lemmas.Bool.{ne_eqb}
use Rattle.std.proofs.lemmas.List.{append_cancel_right}
use Rattle.stripe_layout.specs.declared.geometry.Geometry.{Geometry}
use Rattle.stripe_layout.specs.declared.mode.Mode.{Mode}
use Rattle.stripe_layout.specs.declared.pieces.Piece.{Piece}
use Rattle.array_journal.specs.declared.at.At.{At}
use Rattle.array_journal.specs.declared.decision.Decision.{Decision}
use Rattle.array_journal.specs.declared.decision.Decision.TheVariants.{Opens, Refuses}
use Rattle.array_journal.specs.declared.decision.Want.{Want}
use Rattle.array_journal.specs.declared.decision.Want.TheVariants as services
use Rattle.array_journal.specs.declared.entry.Entry.{Entry}
use Rattle.array_journal.specs.declared.event.Event.TheVariants.{Open}
use Rattle.array_journal.specs.declared.event.Why.{Why}
use Rattle.array_journal.specs.declared.setting.Setting.{Setting}
use Rattle.array_journal.specs.declared.task.Kind.{Kind}
use Rattle.array_journal.specs.declared.task.Kind.TheVariants as kinds
use Rattle.array_journal.specs.declared.task.Task.{Task}
use Rattle.array_journal.specs.Decision.{decision}
use Rattle.array_journal.specs.Laws.{lane}
use Rattle.array_journal.specs.May.{IsTask, IsTaskOfKind}
use Rattle.array_journal.specs.Run.{Grows}
use Rattle.array_journal.proofs.runs.BookLanes.{decision-lane}
use Rattle.array_book.specs.declared.asks.Ask.{Ask}
use Rattle.array_book.specs.declared.asks.Want.{Want as BookWant}
use Rattle.array_book.specs.declared.answers.Begun.{Begun}
use Rattle.array_book.specs.declared.answers.Begun.TheVariants as answers
use Rattle.array_book.specs.Asks.{decided, IsTaskFor, task_at}
use Rattle.array_book.specs.Asks.{piece_aim as rows_of}
use Rattle.array_book.specs.BookAnswers.{HasBegun, HasOpened, HasToWait}
use Rattle.array_book.specs.Ledgers.{Ledger, book_entry, newest_stamp}
use Rattle.host_requests.specs.Begins.{Opening, begin_decided, piece_aim, task_of_piece}
use Rattle.host_requests.specs.Forms.{transfer_as}
use Rattle.host_requests.specs.Requests.{Moves}
use Rattle.xor_target.specs.Logs.{last_stamp}
use Rattle.unit_plans.specs.declared.acts.BookAct.TheVariants.{Begin}
use Rattle.unit_plans.specs.declared.acts.BookActed.{BookActed}
use Rattle.unit_plans.specs.declared.acts.BookActed.TheVariants.{Begun as Booked}
use Rattle.unit_plans.specs.declared.steps.Step.TheVariants.{Acting}
use Rattle.unit_plans.specs.Buses.{BusSetting}
use Rattle.unit_plans.specs.Effects.{IsDoneInBook}
use Rattle.unit_plans.specs.Follows.{HasAsked, IsTold, IsUndisturbed}
use Rattle.unit_plans.specs.Plans.{PlanState, IsPlan, IsPlanned, HasNext, begun}
use Rattle.unit_plans.specs.Steps.{first_act}
use Rattle.unit_plans.proofs.GoesOn.{plans-go_on}
use Rattle.unit_plans.proofs.PlansBegin.{plans-begin}
use Rattle.array_control.specs.declared.call_run.CallRun.{CallRun}
use Rattle.array_control.specs.declared.call_run.PieceRun.{PieceRun}
use Rattle.array_control.specs.Arrays.{HasGrownBy, IsAskFor, IsCalm, IsMove, IsTransferOf, IsAtPiece, IsServedBy, HasToWaitFor, part_of, want_for}
use Rattle.array_control.specs.Begins.{begin_aim_on, begin_on, pieces_by}
use Rattle.array_control.specs.Progress.{HasCome, IsServing}
use Rattle.array_control.proofs.CalmDecisions.{calm-reads, calm-writes}
use Rattle.array_control.proofs.Progress.{piece-begins}

-- a piece that is read or written opens a command of this kind
abbrev pub kind_for : Want → Kind
kind_for services.Write = kinds.Update
kind_for _ = kinds.Read

-- the task that the book gives a piece is the one that is asked for
as-asked : (g : Geometry) (want : Want) → IsMove want → (lba count : ℕ) (bytes : List ℕ) (blocks : Piece) (ask : Ask) (kind : Kind) (task : Task) →
    ask.want ≡ want_for want blocks (part_of g (record { want = want; lba = lba; count = count; bytes = bytes }) blocks) → IsTaskFor g ask kind task →
    task ≡ task_of_piece g task.call task.piece (piece_aim g (record { want = want; lba = lba; count = count; bytes = bytes }) blocks) kind
as-asked g services.Read moves lba count bytes blocks ask kind task wants for =
    let is : task ≡ task_at g ask.call ask.piece kind (rows_of services.Read blocks) [] = subst (λ (w : BookWant). IsTaskFor g (record ask { want = w }) kind task) wants for in
    is ∙ ap (λ c. task_at g c ask.piece kind (rows_of services.Read blocks) []) (sym (ap (λ (x : Task). x.call) is))
    ∙ ap (λ p. task_at g task.call p kind (rows_of services.Read blocks) []) (sym (ap (λ (x : Task). x.piece) is))
as-asked g services.Write moves lba count bytes blocks ask kind task wants for =
    let part : List ℕ = part_of g (record { want = services.Write; lba = lba; count = count; bytes = bytes }) blocks in
    let is : task ≡ task_at g ask.call ask.piece kind (rows_of services.Write blocks) part = subst (λ (w : BookWant). IsTaskFor g (record ask { want = w }) kind task) wants for in
    is ∙ ap (λ c. task_at g c ask.piece kind (rows_of services.Write blocks) part) (sym (ap (λ (x : Task). x.call) is))
    ∙ ap (λ p. task_at g task.call p kind (rows_of services.Write blocks) part) (sym (ap (λ (x : Task). x.piece) is))
as-asked g _ moves lba count bytes blocks ask kind task wants for = absurd moves

module _ (b : BusSetting) (journal : List Entry) (calm : IsCalm true true b journal) (book : Ledger) (own : lane 0 journal ≡ book.past) (set_is : book.setting ≡ b.array) where
  decides : (want : Want) → IsMove want → (piece : Piece) (bytes : List ℕ) → decided book.setting book.past (want_for want piece bytes) ≡ Opens (kind_for want)
  decides services.Read moves piece bytes =
      ap (λ (s : Setting). decision s services.Read piece.place.stripe piece.place.target book.past) set_is
      ∙ ap (decision b.array services.Read piece.place.stripe piece.place.target) (sym own)
      ∙ sym (decision-lane b.array services.Read piece.place.stripe piece.place.target journal)
      ∙ calm-reads b.array piece.place.stripe piece.place.target journal calm.runs calm.undisturbed
  decides services.Write moves piece bytes =
      ap (λ (s : Setting). decision s services.Write piece.place.stripe piece.place.target book.past) set_is
      ∙ ap (decision b.array services.Write piece.place.stripe piece.place.target) (sym own)
      ∙ sym (decision-lane b.array services.Write piece.place.stripe piece.place.target journal)
      ∙ calm-writes b.array piece.place.stripe piece.place.target journal calm.runs calm.undisturbed
  decides _ moves piece bytes = absurd moves

  -- over all entries it decides the same
  decides-here : (want : Want) → IsMove want → (piece : Piece) → decision b.array want piece.place.stripe piece.place.target journal ≡ Opens (kind_for want)
  decides-here services.Read moves piece = calm-reads b.array piece.place.stripe piece.place.target journal calm.runs calm.undisturbed
  decides-here services.Write moves piece = calm-writes b.array piece.place.stripe piece.place.target journal calm.runs calm.undisturbed
  decides-here _ moves piece = absurd moves

  module _ (run : CallRun) (ask : Ask) (asked : IsAskFor b run.number (transfer_as run.transfer) run.piece ask) (transfer : IsTransferOf b (transfer_as run.transfer)) where
    asked-decides : decided book.setting book.past ask.want ≡ Opens (kind_for run.transfer.wanted)
    asked-decides = ap (decided book.setting book.past) asked.want ∙ decides run.transfer.wanted transfer.moves asked.blocks (part_of b.array.geometry (transfer_as run.transfer) asked.blocks)

    pub never-refused : (why : Why) → decided book.setting book.past ask.want ≡ Refuses why → ⊥
    never-refused why refused = let no : Opens (kind_for run.transfer.wanted) ≡ Refuses why = sym asked-decides ∙ refused in cc

    pub kind-opened : (kind : Kind) → decided book.setting book.past ask.want ≡ Opens kind → kind ≡ kind_for run.transfer.wanted
    kind-opened kind opened = let same : Opens kind ≡ Opens (kind_for run.transfer.wanted) = sym opened ∙ asked-decides in cc

    pub kind-planned : (kind : Kind) → decided book.setting book.past ask.want ≡ Opens kind → IsPlanned b.array.mode kind
    kind-planned kind opened = subst (IsPlanned b.array.mode) (sym (kind-opened kind opened)) (by run.transfer.wanted transfer.moves)
      where
        by : (want : Want) → IsMove want → IsPlanned b.array.mode (kind_for want)
        by services.Read moves = tt
        by services.Write moves = calm.planned
        by _ moves = absurd moves

    -- its task is that of the blocks that were asked about
    pub task-counts : (kind : Kind) (task : Task) → IsTaskFor book.setting.geometry ask kind task → task.count ≡ asked.blocks.count
    task-counts kind task for = by run.transfer.wanted transfer.moves (subst (λ (w : BookWant). IsTaskFor book.setting.geometry (record ask { want = w }) kind task) asked.want for)
      where
        by : (want : Want) → IsMove want → IsTaskFor book.setting.geometry (record ask { want = want_for want asked.blocks (part_of b.array.geometry (transfer_as run.transfer) asked.blocks) }) kind task → task.count ≡ asked.blocks.count
        by services.Read moves h = ap (λ (t : Task). t.count) h
        by services.Write moves h = ap (λ (t : Task). t.count) h
        by _ moves h = absurd moves

    pub task-of_call : (kind : Kind) (task : Task) → IsTaskFor book.setting.geometry ask kind task → (task.call ≡ run.number) × (task.piece ≡ run.piece)
    task-of_call kind task for = by run.transfer.wanted transfer.moves (subst (λ (w : BookWant). IsTaskFor book.setting.geometry (record ask { want = w }) kind task) asked.want for)
      where
        by : (want : Want) → IsMove want → IsTaskFor book.setting.geometry (record ask { want = want_for want asked.blocks (part_of b.array.geometry (transfer_as run.transfer) asked.blocks) }) kind task →
            (task.call ≡ run.number) × (task.piece ≡ run.piece)
        by services.Read moves h = (ap (λ (t : Task). t.call) h ∙ asked.call, ap (λ (t : Task). t.piece) h ∙ asked.piece_is)
        by services.Write moves h = (ap (λ (t : Task). t.call) h ∙ asked.call, ap (λ (t : Task). t.piece) h ∙ asked.piece_is)
        by _ moves h = absurd moves

    -- a piece is begun as is asked: its command has the task of the piece, of the kind that the book decides
    pub begun-as_asked : (task : Task) → task.piece ≡ run.piece → decided book.setting book.past ask.want ≡ Opens task.kind → IsTaskFor book.setting.geometry ask task.kind task →
        begin_on b task.call task.piece journal (Moves (transfer_as run.transfer)) ≡ Some (Opening task)
    begun-as_asked task piece opened for =
        let t = transfer_as run.transfer in
        let aim = piece_aim b.array.geometry t asked.blocks in
        let kind : task.kind ≡ kind_for run.transfer.wanted = kind-opened task.kind opened in
        let for_array = subst (λ (s : Setting). IsTaskFor s.geometry ask task.kind task) set_is for in
        let there : slice_get (pieces_by b t) task.piece ≡ Some asked.blocks = ap (slice_get (pieces_by b t)) piece ∙ asked.at in
        ap (option_map (λ (blocks : Piece). begin_aim_on b task.call task.piece journal (piece_aim b.array.geometry t blocks))) there
        ∙ ap (λ (d : Decision). Some (begin_decided b.array.geometry task.call task.piece aim d)) (decides-here run.transfer.wanted transfer.moves asked.blocks)
        ∙ ap (λ (k : Kind). Some (Opening (task_of_piece b.array.geometry task.call task.piece aim k))) (sym kind)
        ∙ ap (λ (x : Task). Some (Opening x))
        (sym (as-asked b.array.geometry run.transfer.wanted transfer.moves t.lba t.count t.bytes asked.blocks ask task.kind task asked.want for_array))

-- ---- what came of it

-- a task is as sound in an array of other buffers
task-moves : (s : Setting) (g : Geometry) (m : Mode) (task : Task) → g ≡ s.geometry → IsTask s task → IsTask (record { geometry = g; buffer = 0; mode = m }) task
task-moves s g m task same h = subst (λ (x : Geometry). IsTask (record { geometry = x; buffer = 0; mode = m }) task) (sym same) (record {
  in_array = h.in_array;
  parity = h.parity;
  target = h.target;
  some_rows = h.some_rows;
  from_stripe = h.from_stripe;
  to_stripe = h.to_stripe;
  by_kind = by task.kind h.by_kind;
})
  where
    by : (kind : Kind) → IsTaskOfKind s task kind → IsTaskOfKind (record { geometry = s.geometry; buffer = 0; mode = m }) task kind
    by kinds.Read k = k
    by kinds.Update k = k
    by kinds.DataOnly k = k
    by kinds.DegradedRead k = k
    by kinds.DegradedWrite k = k
    by kinds.Rebuild k = k
    by kinds.Resync k = k

module _ (alone : Bool) (b : BusSetting) (run : CallRun) (ask : Ask) (answer : Begun) (acted : BookActed) (journal made now now_made : List Entry) (booked : acted ≡ Booked answer) (done : IsDoneInBook alone b (Begin ask) acted journal made now now_made) (calm : IsCalm alone true b journal) (asked : IsAskFor b run.number (transfer_as run.transfer) run.piece ask) (transfer : IsTransferOf b (transfer_as run.transfer)) where
  abbrev d : IsDoneInBook alone b (Begin ask) (Booked answer) journal made now now_made
  d = subst (λ (x : BookActed). IsDoneInBook alone b (Begin ask) x journal made now now_made) booked done

  over : d.over ≡ journal
  over = d.come.at_once calm.is_alone

  own : lane 0 journal ≡ d.book.past
  own = subst (λ (j : List Entry). lane 0 j ≡ d.book.past) over d.stands

  quiet : IsCalm true true b journal
  quiet = record { is_alone = refl; is_reliable = refl; planned = calm.planned; in_range = calm.in_range; runs = calm.runs; undisturbed = calm.undisturbed }

  came : now ≡ d.entries ++ journal
  came = d.come.alone_after calm.is_alone ∙ ap (λ (j : List Entry). d.entries ++ j) over

  pub begun-refused : (at : At) (why : Why) → answer ≡ answers.Refused at why → ⊥
  begun-refused at why is =
      let does = subst (λ (x : Begun). HasBegun d.book ask (last_stamp journal) d.after x) is d.does.0 in
      never-refused b journal quiet d.book own d.of_array run ask asked transfer why does.decided_so

  pub begun-or_stopped : ((at : At) × (why : Why) × (answer ≡ answers.Refused at why)) ⊎ (answer ≡ answers.Memory) → ⊥
  begun-or_stopped (inl refused) = begun-refused refused.0 refused.1 refused.2
  begun-or_stopped (inr memory) = d.does.1 memory

  module _ (at : At) (command : ℕ) (task : Task) (is : answer ≡ answers.Opened at command task) where
    opened : HasOpened d.book ask (last_stamp journal) d.after at command task
    opened = subst (λ (x : Begun). HasBegun d.book ask (last_stamp journal) d.after x) is d.does.0

    pub begun-planned : IsPlanned b.array.mode task.kind
    begun-planned = kind-planned b journal quiet d.book own d.of_array run ask asked transfer task.kind opened.decided_so

    abbrev pub entry : Entry
    entry = book_entry (max (newest_stamp d.book.past) (last_stamp journal) + 1) (Open command task)

    grown : d.after.past ≡ entry ∷ d.book.past
    grown = ap (λ (l : Ledger). l.past) opened.made

    one : d.entries ≡ entry ∷ []
    one = append_cancel_right d.entries (entry ∷ []) d.book.past (sym d.grown ∙ grown)

    pub begun-now : now ≡ entry ∷ journal
    begun-now = came ∙ ap (λ (es : List Entry). es ++ journal) one

    its-call : (task.call ≡ run.number) × (task.piece ≡ run.piece)
    its-call = task-of_call b journal quiet d.book own d.of_array run ask asked transfer task.kind task opened.task_is

    -- the opening is of this call, and as the book decides of what is asked
    pub begun-grown : HasGrownBy b run.number (Moves (transfer_as run.transfer)) journal now
    begun-grown = record {
      entry = entry;
      newest = begun-now;
      is_for = record {
        of_this = inl (ap Some its-call.0);
        own = λ k other. ne_eqb task.call k (λ same. other (sym same ∙ its-call.0));
        begun = begun-as_asked b journal quiet d.book own d.of_array run ask asked transfer task its-call.1 opened.decided_so opened.task_is;
      };
    }

    pub begun-undisturbed : IsUndisturbed now
    begun-undisturbed = subst IsUndisturbed (sym begun-now) (refl, calm.undisturbed)

    fits : task.kind ≡ kinds.Update → b.max_write ≢ 0 → task.count ≤ b.max_write
    fits update some =
        subst (λ (n : ℕ). n ≤ b.max_write) (sym (task-counts b journal quiet d.book own d.of_array run ask asked transfer task.kind task opened.task_is)) (asked.most some)

    told : IsTold b (begun b.array.geometry b.array.mode task command at) None (entry ∷ journal)
    told =
        plans-begin b d.book d.after ask at command task (last_stamp journal) journal calm.in_range calm.runs d.of_array own opened begun-planned fits entry grown

    -- the plan follows the command, and the call has its piece served
    pub begun-serves : (geometry : Geometry) (mode : Mode) (doing : PieceRun) → geometry ≡ b.array.geometry → mode ≡ b.array.mode → IsPlan doing.plan → Grows b.array now →
        HasNext (begun geometry mode task command at) None doing.next doing.plan → HasCome b.array.geometry run.number run.count run.piece run.read journal →
        run.piece < run.count → IsServedBy b run.number run.count run.piece run.read doing now
    begun-serves geometry mode doing same_geometry same_mode plan runs next come more =
        let p : PlanState = begun b.array.geometry b.array.mode task command at in
        let has : HasNext p None doing.next doing.plan =
        subst (λ (m : Mode). HasNext (begun b.array.geometry m task command at) None doing.next doing.plan) same_mode
        (subst (λ (g : Geometry). HasNext (begun g mode task command at) None doing.next doing.plan) same_geometry next) in
        let sound : IsTask b.array task = subst (λ (s : Setting). IsTask s task) d.of_array opened.asked in
        let is_plan : IsPlan p = record { array = calm.in_range.array; sound = task-moves b.array b.array.geometry b.array.mode task refl sound; planned = begun-planned } in
        let asks : HasAsked b doing.plan doing.next now =
        plans-go_on b p doing.plan None doing.next now is_plan runs (λ no. cc) (subst (IsTold b p None) (sym begun-now) told) has in
        let kept : doing.plan ≡ record p { step = Acting (first_act task.kind) } = has.goes_on in
        let call = task-of_call b journal quiet d.book own d.of_array run ask asked transfer task.kind task opened.task_is in
        let serving : IsServing b.array.geometry run.number run.count run.piece run.read command task [] now =
        subst (IsServing b.array.geometry run.number run.count run.piece run.read command task []) (sym begun-now)
        (piece-begins b.array.geometry run.number run.count run.piece run.read command task entry journal come more refl refl call.0 call.1) in
        record {
          more = [];
          serving =
              subst (λ (q : PlanState). IsServing b.array.geometry run.number run.count run.piece run.read q.command q.task [] now) (sym kept) serving;
          plan = plan;
          asked = asks;
          told = sym (ap (λ (q : PlanState). q.bytes) kept);
        }

-- a piece that has to wait
module _ (alone : Bool) (b : BusSetting) (run : CallRun) (ask : Ask) (answer : Begun) (acted : BookActed) (journal made now now_made : List Entry) (booked : acted ≡ Booked answer) (done : IsDoneInBook alone b (Begin ask) acted journal made now now_made) (calm : IsCalm alone true b journal) (asked : IsAskFor b run.number (transfer_as run.transfer) run.piece ask) (by : ℕ) (is : answer ≡ answers.Again by) where
  abbrev e : IsDoneInBook alone b (Begin ask) (Booked answer) journal made now now_made
  e = subst (λ (x : BookActed). IsDoneInBook alone b (Begin ask) x journal made now now_made) booked done

  again : HasBegun e.book ask (last_stamp journal) e.after (answers.Again by)
  again = subst (λ (x : Begun). HasBegun e.book ask (last_stamp journal) e.after x) is e.does.0

  there : e.over ≡ journal
  there = e.come.at_once calm.is_alone

  none : e.entries ≡ []
  none = append_cancel_right e.entries [] e.book.past (sym e.grown ∙ ap (λ (l : Ledger). l.past) again.1)

  pub again-now : now ≡ journal
  again-now = e.come.alone_after calm.is_alone ∙ ap (λ (j : List Entry). e.entries ++ j) there ∙ ap (λ (es : List Entry). es ++ journal) none

  pub again-waits : HasToWaitFor b run.number (transfer_as run.transfer) run.piece by journal
  again-waits =
      let at-book : HasToWait b.array e.book.past ask by = subst (λ (s : Setting). HasToWait s e.book.past ask by) e.of_array again.0 in
      record {
        ask = ask;
        asked = asked;
        waits = subst (λ (j : List Entry). HasToWait b.array j ask by) (sym (subst (λ (j : List Entry). lane 0 j ≡ e.book.past) there e.stands)) at-book;
      }

-- a bus that is reliable is as good as one that says so
pub calm-reliable : (alone reliable : Bool) (b : BusSetting) (journal : List Entry) → IsCalm alone reliable b journal → IsCalm alone true b journal
calm-reliable alone reliable b journal c =
    record { is_alone = c.is_alone; is_reliable = refl; planned = c.planned; in_range = c.in_range; runs = c.runs; undisturbed = c.undisturbed }

pub calm-grown : (alone reliable : Bool) (b : BusSetting) (journal now : List Entry) → IsCalm alone reliable b journal → Grows b.array now → IsUndisturbed now → IsCalm alone reliable b now
calm-grown alone reliable b journal now c runs undisturbed =
    record { is_alone = c.is_alone; is_reliable = c.is_reliable; planned = c.planned; in_range = c.in_range; runs = runs; undisturbed = undisturbed }

-- where no command serves it, a call stands before its next piece
pub come-of : (b : BusSetting) (run : CallRun) (journal : List Entry) → run.doing ≡ None →
    IsAtPiece b run.number run.count run.piece run.read run.doing journal → HasCome b.array.geometry run.number run.count run.piece run.read journal
come-of b run journal idle at = subst (λ (o : Option PieceRun). IsAtPiece b run.number run.count run.piece run.read o journal) idle at
