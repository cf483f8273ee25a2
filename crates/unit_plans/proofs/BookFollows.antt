-- Whatever is done in the book over a bus makes no entry, or one that may follow the journal.
use Rattle.std.specs.Prelude.{◌≡◌, ◌==◌, ◌&&◌, ◌||◌, ◌<◌, ◌⊎◌, ◌+◌, not, nat_lt, ℕ, Bool, max, true, false, List, [], ◌∷◌, Option, Some, None}
use Rattle.std.proofs.Common.{refl, ap, sym, ◌∙◌, subst, arith, inl, inr}
use Rattle.std.proofs.lemmas.Bool.{lt-ltb}
use Rattle.std.proofs.Math.Nat.{le-max_right}
use Rattle.array_journal.specs.declared.act.Act.TheVariants.{Diffs}
use Rattle.array_journal.specs.declared.at.At.{At}
use Rattle.array_journal.specs.declared.entry.Entry.{Entry}
use Rattle.array_journal.specs.declared.event.Event.{Event}
use Rattle.array_journal.specs.declared.event.Event.TheVariants as events
use Rattle.array_journal.specs.declared.event.Why.TheVariants.{NotLost}
use Rattle.array_journal.specs.declared.setting.Setting.{Setting}
use Rattle.array_journal.specs.declared.task.Task.{Task}
use Rattle.array_journal.specs.Acts.{is_act, is_target, targets_that}
use Rattle.array_journal.specs.Commands.{opens}
use Rattle.array_journal.specs.Decision.{want_of}
use Rattle.array_journal.specs.Entries.{entry_at, stamps_below}
use Rattle.array_journal.specs.Laws.{lane}
use Rattle.array_journal.specs.Lives.{is_loss, is_swap_of, swap_count, is_unfitted}
use Rattle.array_journal.specs.May.{MaySwap, IsTask, is_loss_in, is_own_act, shuts_idle, is_dropped_diff, discards}
use Rattle.array_journal.specs.Parts.{Named, NamedAt, EachNamed, AskedBook, AskedClose, AskedSpoil, FoundBook, FoundOpen, AllEarlier, named_by, with_cause, is_cause_of}
use Rattle.array_journal.specs.Run.{Grows}
use Rattle.array_journal.proofs.runs.BookLanes.{decision-lane, conflict-lane, idle-lane, room-lane}
use Rattle.array_journal.proofs.runs.LaneLaws.{count_at-lane, is_unfitted-lane}
use Rattle.array_journal.proofs.runs.MayOfParts.{parts-give_may}
use Rattle.array_journal.proofs.runs.Standing.{passes-event, passes-weaker}
use Rattle.array_book.specs.declared.answers.Begun.{Begun}
use Rattle.array_book.specs.declared.answers.Begun.TheVariants as begun
use Rattle.array_book.specs.declared.answers.Noted.{Noted}
use Rattle.array_book.specs.declared.answers.Noted.TheVariants as noted
use Rattle.array_book.specs.declared.answers.Swapped.{Swapped}
use Rattle.array_book.specs.declared.answers.Swapped.TheVariants as swapped
use Rattle.array_book.specs.declared.asks.Ask.{Ask}
use Rattle.array_book.specs.BookAnswers.{HasBegun, IsNoteAnswer, IsSwapAnswer}
use Rattle.array_book.specs.Findings.{OpensAlike, SwapsAlike, NotesAlike}
use Rattle.array_book.specs.Ledgers.{Ledger, book_entry, newest_stamp, with_event}
use Rattle.xor_target.specs.Logs.{last_stamp}
use Rattle.unit_plans.specs.declared.acts.BookAct.TheVariants as books
use Rattle.unit_plans.specs.declared.acts.BookActed.TheVariants as booked
use Rattle.unit_plans.specs.ActLaws.{BookGrowsBy, BookActsMayFollow}
use Rattle.unit_plans.specs.Conditions.{CanNote, closing}
use Rattle.unit_plans.proofs.OwnEntries.{last-above, named-seen}

-- ---- no entry of a run has a greater stamp than the newest

module _ (s : Setting) (past : List Entry) (g : Grows s past) (stamp : ℕ) (later : last_stamp past < stamp) where
  -- so what an end or a note names comes earlier than the next entry, whose caller has seen all of the run
  named-earlier : (name : At) (test : Event → Bool) → Named past name test → name.stamp < stamp
  named-earlier name test p =
      let found = passes-event test (entry_at name past) p in omega (arith, later, named-seen s name past found.0 g found.1.0)

  targets-earlier : (targets : List ℕ) (test : Event → Bool) (names : List At) → NamedAt past targets test names → AllEarlier stamp names
  targets-earlier [] test [] h = tt
  targets-earlier [] test (name ∷ names) h = absurd h
  targets-earlier (i ∷ targets) test [] h = absurd h
  targets-earlier (i ∷ targets) test (name ∷ names) h = (named-earlier name test h.0.1, targets-earlier targets test names h.1)

  acts-earlier : (c : ℕ) (task : Task) (names : List At) → EachNamed s past c task names → AllEarlier stamp names
  acts-earlier c task [] h = tt
  acts-earlier c task (name ∷ names) h = (named-earlier name (is_own_act s c task name.lock) h.0, acts-earlier c task names h.1)

  close-earlier : (c : ℕ) (done : Bool) (names : List At) (cause : Option At) (bytes : List ℕ) (task : Task) →
      AskedClose s past c done names cause bytes task → AllEarlier stamp (with_cause cause names)
  close-earlier c true names None bytes task a = acts-earlier c task names a.acts.only
  close-earlier c true names (Some cause) bytes task a = (named-earlier cause is_loss a.names_loss, acts-earlier c task names a.acts.only)
  close-earlier c false names None bytes task a = absurd a
  close-earlier c false names (Some cause) bytes task a =
      (named-earlier cause (is_cause_of c) a.names_cause, targets-earlier (targets_that s (is_target s task)) (shuts_idle c) names a.shut)

  spoil-earlier : (c : ℕ) (diff loss shut : At) (task : Task) → AskedSpoil s past c diff loss shut task → AllEarlier stamp (diff ∷ loss ∷ shut ∷ [])
  spoil-earlier c diff loss shut task a = (first, (second a.lost, (named-earlier shut (shuts_idle c) a.shut_idle, tt)))
    where
      first : diff.stamp < stamp
      first = named-earlier diff (is_act Diffs c) a.differed

      second : ((loss ≡ diff) × Named past diff (is_dropped_diff c)) ⊎ ((loss.lock ≡ task.target + 1) × Named past loss (discards c)) → loss.stamp < stamp
      second (inl h) = subst (λ (name : At). name.stamp < stamp) (sym h.0) first
      second (inr h) = named-earlier loss (discards c) h.1

  -- and so does each entry of a lock
  all-below : (k : ℕ) → stamps_below k stamp past ≡ true
  all-below k = below past g later
    where
      both : (a b r : Bool) → b ≡ true → r ≡ true → ((not a || b) && r) ≡ true
      both true true true h i = refl
      both false true true h i = refl
      both a false r h i = absurd cc
      both a true false h i = absurd cc

      below : (entries : List Entry) → Grows s entries → last_stamp entries < stamp → stamps_below k stamp entries ≡ true
      below [] grown less = refl
      below (e ∷ entries) grown less =
          both (e.lock == k) (nat_lt e.stamp stamp) (stamps_below k stamp entries) (lt-ltb e.stamp stamp less)
          (below entries grown.1 (omega (arith, less, last-above s e entries grown)))

-- ---- what the book finds over its own entries holds over the journal

opens-alike : OpensAlike
opens-alike s c task journal f = record {
  numbered = f.numbered ∙ sym (count_at-lane 0 opens journal);
  decided = decision-lane s (want_of task.kind) task.stripe task.target journal ∙ f.decided;
  alone = conflict-lane task journal ∙ f.alone;
  room = room-lane s task journal ∙ f.room;
}

swaps-alike : SwapsAlike
swaps-alike s slot journal m = record {
  known = is_unfitted-lane slot journal ∙ m.known;
  idle = idle-lane s slot journal ∙ m.idle;
}

notes-alike : NotesAlike
notes-alike slot life gone journal unknown in_life named = record {
  in_life = subst (λ (n : ℕ). Named journal gone (is_loss_in n)) (in_life ∙ sym (count_at-lane 0 (is_swap_of slot) journal)) named;
  not_known = is_unfitted-lane slot journal ∙ unknown;
}

-- ---- what is asked for and found so may follow, as the book's next entry

-- the stamp of the book's next entry, where its caller has seen all of the journal
abbrev stamp_after : Ledger → List Entry → ℕ
stamp_after book journal = max (newest_stamp book.past) (last_stamp journal) + 1

after-seen : (book : Ledger) (journal : List Entry) → last_stamp journal < stamp_after book journal
after-seen book journal = let least = le-max_right (newest_stamp book.past) (last_stamp journal) in omega (arith, least)

grows : (s : Setting) (book after : Ledger) (event : Event) (journal : List Entry) → Grows s journal → AskedBook s journal event →
    FoundBook s journal event → AllEarlier (stamp_after book journal) (named_by event) → after ≡ with_event book (last_stamp journal) event →
    BookGrowsBy s journal book after
grows s book after event journal g asked found earlier made = record {
  entry = book_entry (stamp_after book journal) event;
  grown = ap (λ (l : Ledger). l.past) made;
  at_lock = refl;
  may = parts-give_may s journal (book_entry (stamp_after book journal) event) (record {
    asked = asked;
    found = found;
    later = (all-below s journal g (stamp_after book journal) (after-seen book journal) 0, earlier);
  });
}

-- ---- each act

begin-follows : (s : Setting) (book after : Ledger) (ask : Ask) (answer : Begun) (journal : List Entry) → book.setting ≡ s → Grows s journal →
    lane 0 journal ≡ book.past → HasBegun book ask (last_stamp journal) after answer → (after.past ≡ book.past) ⊎ BookGrowsBy s journal book after
begin-follows s book after ask (begun.Opened at command task) journal of_array g stands x =
    inr (grows s book after (events.Open command task) journal g
    (subst (λ (z : Setting). IsTask z task) of_array x.asked)
    (opens-alike s command task journal
    (subst (λ (z : Setting). FoundOpen z (lane 0 journal) command task) of_array
    (subst (λ (past : List Entry). FoundOpen book.setting past command task) (sym stands) x.found)))
    tt x.made)
begin-follows s book after ask (begun.Again by) journal of_array g stands x = inl (ap (λ (l : Ledger). l.past) x.1)
begin-follows s book after ask (begun.Refused at why) journal of_array g stands x =
    inr (grows s book after (events.Refuse ask.call ask.piece why) journal g tt tt tt x.made)
begin-follows s book after ask begun.Memory journal of_array g stands x = inl (ap (λ (l : Ledger). l.past) x)

note-follows : (s : Setting) (book after : Ledger) (slot : ℕ) (gone : At) (life : ℕ) (answer : Noted) (journal : List Entry) → Grows s journal →
    lane 0 journal ≡ book.past → CanNote s journal slot gone life → IsNoteAnswer book slot gone life (last_stamp journal) after answer →
    (after.past ≡ book.past) ⊎ BookGrowsBy s journal book after
note-follows s book after slot gone life (noted.Made at) journal g stands can x =
    inr (grows s book after (events.Note slot gone) journal g
    (record {
      slot = can.of_array;
      at_target = can.at_target;
      names_loss = passes-weaker (is_loss_in life) is_loss (entry_at gone journal) loses can.lost;
    })
    (notes-alike slot life gone journal
    (subst (λ (past : List Entry). is_unfitted slot past ≡ false) (sym stands) x.not_known)
    (subst (λ (past : List Entry). life ≡ swap_count slot past) (sym stands) x.in_life)
    can.lost)
    (named-earlier s journal g (stamp_after book journal) (after-seen book journal) gone (is_loss_in life) can.lost, tt) x.made)
  where
    loses : (event : Event) → is_loss_in life event ≡ true → is_loss event ≡ true
    loses (events.Gone its_life call commands) h = refl
    loses _ h = cc
note-follows s book after slot gone life noted.Already journal g stands can x = inl (ap (λ (l : Ledger). l.past) x.1)
note-follows s book after slot gone life (noted.Stale swaps) journal g stands can x = inl (ap (λ (l : Ledger). l.past) x.1.1.1)
note-follows s book after slot gone life noted.Memory journal g stands can x = inl (ap (λ (l : Ledger). l.past) x)

swap-follows : (s : Setting) (book after : Ledger) (slot call : ℕ) (answer : Swapped) (journal : List Entry) → book.setting ≡ s → Grows s journal →
    lane 0 journal ≡ book.past → slot < s.geometry.targets → IsSwapAnswer book slot call (last_stamp journal) after answer →
    (after.past ≡ book.past) ⊎ BookGrowsBy s journal book after
swap-follows s book after slot call (swapped.Made at) journal of_array g stands can x =
    inr (grows s book after (events.Swap slot call) journal g can
    (swaps-alike s slot journal
    (subst (λ (z : Setting). MaySwap z (lane 0 journal) slot) of_array
    (subst (λ (past : List Entry). MaySwap book.setting past slot) (sym stands) x.found)))
    tt x.made)
swap-follows s book after slot call (swapped.Again by) journal of_array g stands can x = inl (ap (λ (l : Ledger). l.past) x.1)
swap-follows s book after slot call (swapped.Refused at why) journal of_array g stands can x =
    inr (grows s book after (events.Refuse call 0 NotLost) journal g tt tt tt x.made)
swap-follows s book after slot call swapped.Memory journal of_array g stands can x = inl (ap (λ (l : Ledger). l.past) x)

pub book-follows : BookActsMayFollow
book-follows b book after (books.Begin ask) (booked.Begun answer) journal made set g of_array order stands can x =
    begin-follows b.array book after ask answer journal of_array g stands x.0
book-follows b book after (books.Close command end) (booked.Closed at) journal made set g of_array order stands can x =
    inr (grows b.array book after (closing command end) journal g can.asked can.found
    (close-earlier b.array journal g (stamp_after book journal) (after-seen book journal) command end.done end.names end.cause end.bytes can.asked.0
    can.asked.1.1) x.1.made)
book-follows b book after (books.Spoil command diff loss shut) (booked.Spoilt at) journal made set g of_array order stands can x =
    inr (grows b.array book after (events.Spoil command diff loss shut) journal g can.asked can.found
    (spoil-earlier b.array journal g (stamp_after book journal) (after-seen book journal) command diff loss shut can.asked.0 can.asked.1.1)
    x.1.made)
book-follows b book after (books.Note slot gone life) (booked.Noted answer) journal made set g of_array order stands can x =
    note-follows b.array book after slot gone life answer journal g stands can x.0
book-follows b book after (books.Swap slot call) (booked.Swapped answer) journal made set g of_array order stands can x =
    swap-follows b.array book after slot call answer journal of_array g stands can x.0
book-follows b book after _ _ journal made set g of_array order stands can x = absurd x
