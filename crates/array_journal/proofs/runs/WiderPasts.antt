-- An entry that may follow some entries may follow more of them, where those of its own lock are the same, and those of
-- every other lock begin with the ones that stood there: what it asks of other locks is asked of entries that it names.
use Rattle.std.specs.Prelude.{◌≡◌, ◌&&◌, ◌⊎◌, nat_lt, ℕ, suc, zero, ◌+◌, Bool, true, false, List, length, map, Option, Some, None}
use Rattle.std.proofs.Common.{refl, ap, sym, ◌∙◌, subst, arith, inl, inr}
use Rattle.blocks_core.specs.Xor.{xor, xor_all}
use Rattle.sbc_cdbs.specs.declared.descriptor.Cdb.{Cdb}
use Rattle.array_journal.specs.declared.at.At.{At}
use Rattle.array_journal.specs.declared.entry.Entry.{Entry}
use Rattle.array_journal.specs.declared.event.Event.{Event}
use Rattle.array_journal.specs.declared.event.Event.TheVariants.{Fetch, Put, Diff, Take, Fold, Hold, Shut, Gone, Wiped, Fresh, Open, Close, Spoil, Note, Swap, Refuse}
use Rattle.array_journal.specs.declared.event.What.TheVariants.{Buffers, Request}
use Rattle.array_journal.specs.declared.setting.Setting.{Setting}
use Rattle.array_journal.specs.declared.task.Kind.{Kind}
use Rattle.array_journal.specs.declared.task.Kind.TheVariants.{DegradedRead, Rebuild}
use Rattle.array_journal.specs.declared.task.Task.{Task}
use Rattle.array_journal.specs.Entries.{entry_at, some_at, stamps_below}
use Rattle.array_journal.specs.Commands.{opens, open_count, is_open, task_of}
use Rattle.array_journal.specs.declared.act.Act.{Act}
use Rattle.array_journal.specs.declared.act.Act.TheVariants.{Fetches, Puts, Diffs, Takes, Folds, Holds}
use Rattle.array_journal.specs.Acts.{is_target, targets_that, is_act, shuts_command, changes_medium}
use Rattle.xor_buffers.specs.Held.{rows_held, owners_of}
use Rattle.array_journal.specs.Media.{rows_on, held, drops}
use Rattle.array_journal.specs.Lives.{is_fresh, loss_of, life_of, swap_count}
use Rattle.array_journal.specs.Decision.{want_of, decision, opens_conflict, has_room}
use Rattle.array_journal.specs.May.{May, MayAt, MayBook, MayTarget, Names, bytes_named, fetched_targets, swapped_since, MayAct, IsFoldSource, NamesActs, is_loss_in, IsCauseOfLoss, MayClose, IsCause, IsCauseOfKind, shuts_idle, is_wipe_of, is_dropped_diff, discards, MaySpoil, IsOpenWith, opens_at, is_read_task}
use Rattle.array_journal.proofs.runs.LaneLaws.{count_at-lane, held-lane, drops-lane, loss_of-lane, is_open-lane, task_of-lane}
use Rattle.array_journal.proofs.runs.BookLanes.{decision-lane, conflict-lane, idle-lane, room-lane}
use Rattle.array_journal.proofs.runs.WiderNames.{Wider, SameLane, same, same-some, same-gone, same-rows, same-unfitted, same-swaps, stamps_below-lane, wider-names, wider-named, AllSame, named-same, own-same, wider-own, same-bytes, same-named, wider-all_named, same-closed}

-- acts
wider-act : (s : Setting) (past wide : List Entry) (stamp i c : ℕ) (opened : At) (cdb : Cdb) (row len sources : ℕ) (task : Task) (act : Act) → Wider past wide →
    SameLane (i + 1) past wide → MayAct s past stamp i c opened cdb row len sources task act → MayAct s wide stamp i c opened cdb row len sources task act
wider-act s past wide stamp i c opened cdb row len sources task act w own m = record {
  opening = (w.stands opened (Open c task) m.opening.0, m.opening.1);
  in_book = m.in_book;
  of_task = m.of_task;
  not_gone = sym (same-gone i past wide own) ∙ m.not_gone;
  not_shut = sym (same-some (i + 1) (shuts_command c) past wide own) ∙ m.not_shut;
  once = sym (same-some (i + 1) (is_act act c) past wide own) ∙ m.once;
  same_life = sym (same-some (i + 1) (swapped_since opened) past wide own) ∙ m.same_life;
  at_row = m.at_row;
  whole = m.whole;
  spelt = m.spelt;
}

wider-source : (s : Setting) (past wide : List Entry) (c : ℕ) (task : Task) (name : At) (bytes : List ℕ) → Wider past wide → name.lock ≡ task.target + 1 →
    (found : Option Event) → entry_at name past ≡ found → IsFoldSource s past c task name bytes found → IsFoldSource s wide c task name bytes (entry_at name wide)
wider-source s past wide c task name bytes w at (Some (Take command opened cdb row was)) q h =
    subst (λ (o : Option Event). IsFoldSource s wide c task name bytes o) (sym (w.stands name (Take command opened cdb row was) q)) h
wider-source s past wide c task name bytes w at (Some (Diff command opened cdb row was sent dropped back)) q h =
    subst (λ (o : Option Event). IsFoldSource s wide c task name bytes o) (sym (w.stands name (Diff command opened cdb row was sent dropped back) q))
    (h.0, h.1, w.deltas s task.target name bytes at h.2)
wider-source s past wide c task name bytes w at _ q h = absurd h

wider-target : (s : Setting) (past wide : List Entry) (stamp i : ℕ) (event : Event) → Wider past wide → SameLane (i + 1) past wide →
    MayTarget s past stamp i event → MayTarget s wide stamp i event
wider-target s past wide stamp i (Fetch command opened cdb row bytes) w own (task, m) = (
  task,
  record {
    act = wider-act s past wide stamp i command opened cdb row (length bytes) 0 task Fetches w own m.act;
    read = m.read ∙ same-rows s i row (length bytes) past wide own;
  },
)
wider-target s past wide stamp i (Put command opened cdb row bytes names) w own (task, m) = (
  task,
  record {
    act = wider-act s past wide stamp i command opened cdb row (length bytes) (length names) task Puts w own m.act;
    fetched = wider-named past wide stamp (fetched_targets s task) (is_act Fetches command) names w m.fetched;
    made = m.made ∙ ap (λ (l : List (List ℕ)). xor task.bytes (xor_all (length bytes) l))
        (same-bytes past wide names (named-same past wide stamp (fetched_targets s task) (is_act Fetches command) names w m.fetched));
  },
)
wider-target s past wide stamp i (Diff command opened cdb row bytes sent dropped back) w own (task, m) = (
  task,
  record {
    act = wider-act s past wide stamp i command opened cdb row (length bytes) 0 task Diffs w own m.act;
    written = m.written;
    sent_by_mode = m.sent_by_mode;
    back_by_mode = m.back_by_mode;
    dropped_when_due = m.dropped_when_due ∙ ap (λ n. sent && nat_lt 0 n) (same (drops i) (i + 1) past wide (drops-lane i) own);
  },
)
wider-target s past wide stamp i (Take command opened cdb row bytes) w own (task, m) = (
  task,
  record {
    act = wider-act s past wide stamp i command opened cdb row (length bytes) 0 task Takes w own m.act;
    taken = sym (ap (rows_held s.geometry.block command row (length bytes)) (same (held s i) (i + 1) past wide (held-lane s i) own)) ∙ m.taken;
  },
)
wider-target s past wide stamp i (Fold command opened cdb row bytes names) w own (task, (name, m)) = (
  task,
  (
    name,
    record {
      act = wider-act s past wide stamp i command opened cdb row (length bytes) 0 task Folds w own m.act;
      one = m.one;
      at_source = m.at_source;
      earlier = m.earlier;
      source = wider-source s past wide command task name bytes w m.at_source (entry_at name past) refl m.source;
    },
  ),
)
wider-target s past wide stamp i (Hold command opened cdb row bytes kept names back) w own (task, m) = (
  task,
  record {
    act = wider-act s past wide stamp i command opened cdb row (length bytes) (length names) task Holds w own m.act;
    kept_here = m.kept_here;
    not_handed = m.not_handed;
    fetched = wider-named past wide stamp (fetched_targets s task) (is_act Fetches command) names w m.fetched;
    made = m.made ∙ ap (λ (l : List ℕ). xor l (xor_all (length bytes) (map (bytes_named past) names))) (same-rows s i row (length bytes) past wide own)
        ∙ ap (λ (l : List (List ℕ)). xor (rows_on s i wide row (length bytes)) (xor_all (length bytes) l))
        (same-bytes past wide names (named-same past wide stamp (fetched_targets s task) (is_act Fetches command) names w m.fetched));
  },
)
wider-target s past wide stamp i (Shut command opened acted lost) w own (task, m) = (
  task,
  record {
    opening = (w.stands opened (Open command task) m.opening.0, m.opening.1);
    in_book = m.in_book;
    of_task = m.of_task;
    once = sym (same-some (i + 1) (shuts_command command) past wide own) ∙ m.once;
    unanswered = ap (λ b. is_read_task task.kind && b) (sym (same-some (i + 1) (is_act Fetches command) past wide own)) ∙ m.unanswered;
    says_acted = m.says_acted ∙ same-some (i + 1) (changes_medium command) past wide own;
    says_lost = m.says_lost ∙ same (loss_of i) (i + 1) past wide (loss_of-lane i) own;
  },
)
wider-target s past wide stamp i (Gone life call commands) w own m = record {
  says_life = m.says_life ∙ same (life_of i) (i + 1) past wide (count_at-lane (i + 1) is_fresh) own;
  says_owners = m.says_owners ∙ ap owners_of (same (held s i) (i + 1) past wide (held-lane s i) own);
}
wider-target s past wide stamp i (Wiped Buffers call commands) w own m = m ∙ ap owners_of (same (held s i) (i + 1) past wide (held-lane s i) own)
wider-target s past wide stamp i (Wiped Request call commands) w own m = m
wider-target s past wide stamp i (Fresh call swap) w own m = record {
  swapped = (w.stands swap (Swap i call) m.swapped.0, m.swapped.1);
  in_book = m.in_book;
  next_disk = sym (w.swaps i swap (Swap i call) m.in_book m.swapped.0) ∙ m.next_disk ∙ same (life_of i) (i + 1) past wide (count_at-lane (i + 1) is_fresh) own;
}
wider-target s past wide stamp i _ w own m = absurd m

-- the book
wider-cause : (past wide : List Entry) (stamp i : ℕ) (cause : At) → Wider past wide → SameLane 0 past wide → IsCauseOfLoss past stamp i cause → IsCauseOfLoss wide stamp i cause
wider-cause past wide stamp i cause w own m = record {
  at_target = m.at_target;
  lost = subst (λ (n : ℕ). Names wide stamp cause (is_loss_in n)) (same-swaps i past wide own) (wider-names past wide stamp cause (is_loss_in (swap_count i past)) w m.lost);
  known = sym (same-unfitted i past wide own) ∙ m.known;
}

wider-acts : (s : Setting) (past wide : List Entry) (stamp c : ℕ) (task : Task) (names : List At) → Wider past wide → NamesActs s past stamp c task names →
    NamesActs s wide stamp c task names
wider-acts s past wide stamp c task names w m =
    let a : AllSame past wide names = own-same s past wide stamp c task names w m.only in
    record {
      in_order = m.in_order;
      only = wider-own s past wide stamp c task names w m.only;
      fetches = wider-all_named s past wide c task Fetches names a m.fetches;
      puts = wider-all_named s past wide c task Puts names a m.puts;
      diffs = wider-all_named s past wide c task Diffs names a m.diffs;
      takes = wider-all_named s past wide c task Takes names a m.takes;
      holds = wider-all_named s past wide c task Holds names a m.holds;
    }

wider-kind : (past wide : List Entry) (stamp c : ℕ) (task : Task) (cause : At) (kind : Kind) → Wider past wide → SameLane 0 past wide →
    IsCauseOfKind past stamp c task cause kind → IsCauseOfKind wide stamp c task cause kind
wider-kind past wide stamp c task cause Rebuild w own (life, (next, (at, lost))) =
    (life, (next ∙ same-swaps task.target past wide own, (at, wider-names past wide stamp cause (is_loss_in life) w lost)))
wider-kind past wide stamp c task cause DegradedRead w own m = wider-names past wide stamp cause (is_wipe_of c) w m
wider-kind past wide stamp c task cause _ w own m = absurd m

wider-why : (s : Setting) (past wide : List Entry) (stamp c : ℕ) (task : Task) (cause : At) → Wider past wide → SameLane 0 past wide →
    IsCause s past stamp c task cause → IsCause s wide stamp c task cause
wider-why s past wide stamp c task cause w own (inl (i, (target, lost))) = inl (i, (target, wider-cause past wide stamp i cause w own lost))
wider-why s past wide stamp c task cause w own (inr m) = inr (wider-kind past wide stamp c task cause task.kind w own m)

wider-close : (s : Setting) (past wide : List Entry) (stamp c : ℕ) (done : Bool) (names : List At) (cause : Option At) (bytes : List ℕ) (task : Task) →
    Wider past wide → SameLane 0 past wide → MayClose s past stamp c done names cause bytes task → MayClose s wide stamp c done names cause bytes task
wider-close s past wide stamp c true names None bytes task w own m =
    let a : AllSame past wide names = own-same s past wide stamp c task names w m.acts.only in
    record {
      acts = wider-acts s past wide stamp c task names w m.acts;
      folds = wider-all_named s past wide c task Folds names a m.folds;
      no_cause = m.no_cause;
      answer = m.answer ∙ same-closed s past wide task names task.kind a;
    }
wider-close s past wide stamp c true names (Some cause) bytes task w own m =
    let a : AllSame past wide names = own-same s past wide stamp c task names w m.acts.only in
    record {
      update = m.update;
      acts = wider-acts s past wide stamp c task names w m.acts;
      no_fold = λ i. sym (same-named past wide c Folds i names a) ∙ m.no_fold i;
      parity_lost = wider-cause past wide stamp task.parity cause w own m.parity_lost;
      no_answer = m.no_answer;
    }
wider-close s past wide stamp c false names None bytes task w own m = m
wider-close s past wide stamp c false names (Some cause) bytes task w own m = record {
  shut = wider-named past wide stamp (targets_that s (is_target s task)) (shuts_idle c) names w m.shut;
  for_cause = wider-why s past wide stamp c task cause w own m.for_cause;
  no_answer = m.no_answer;
}

wider-spoil : (s : Setting) (past wide : List Entry) (stamp c : ℕ) (diff loss shut : At) (task : Task) → Wider past wide →
    MaySpoil s past stamp c diff loss shut task → MaySpoil s wide stamp c diff loss shut task
wider-spoil s past wide stamp c diff loss shut task w m = record {
  update = m.update;
  at_target = m.at_target;
  differed = wider-names past wide stamp diff (is_act Diffs c) w m.differed;
  lost = by m.lost;
  at_parity = m.at_parity;
  shut_idle = wider-names past wide stamp shut (shuts_idle c) w m.shut_idle;
}
  where
    by : ((loss ≡ diff) × Names past stamp diff (is_dropped_diff c)) ⊎ ((loss.lock ≡ task.target + 1) × Names past stamp loss (discards c)) →
        ((loss ≡ diff) × Names wide stamp diff (is_dropped_diff c)) ⊎ ((loss.lock ≡ task.target + 1) × Names wide stamp loss (discards c))
    by (inl dropped) = inl (dropped.0, wider-names past wide stamp diff (is_dropped_diff c) w dropped.1)
    by (inr lost) = inr (lost.0, wider-names past wide stamp loss (discards c) w lost.1)

wider-with : (past wide : List Entry) (c : ℕ) (task : Task) → SameLane 0 past wide → IsOpenWith past c task → IsOpenWith wide c task
wider-with past wide c task own m =
    (sym (same (is_open c) 0 past wide (is_open-lane c) own) ∙ m.0, sym (same (task_of c) 0 past wide (task_of-lane c) own) ∙ m.1)

wider-book : (s : Setting) (past wide : List Entry) (stamp : ℕ) (event : Event) → Wider past wide → SameLane 0 past wide → MayBook s past stamp event → MayBook s wide stamp event
wider-book s past wide stamp (Open command task) w own m = record {
  numbered = m.numbered ∙ same open_count 0 past wide (count_at-lane 0 opens) own;
  sound = m.sound;
  decided = sym (same (decision s (want_of task.kind) task.stripe task.target) 0 past wide (decision-lane s (want_of task.kind) task.stripe task.target) own) ∙ m.decided;
  alone = sym (same (λ p. some_at 0 (opens_conflict p task) p) 0 past wide (conflict-lane task) own) ∙ m.alone;
  room = sym (same (has_room s task) 0 past wide (room-lane s task) own) ∙ m.room;
}
wider-book s past wide stamp (Close command done names cause bytes) w own (task, m) =
    (task, (wider-with past wide command task own m.0, wider-close s past wide stamp command done names cause bytes task w own m.1))
wider-book s past wide stamp (Spoil command diff loss shut) w own (task, m) =
    (task, (wider-with past wide command task own m.0, wider-spoil s past wide stamp command diff loss shut task w m.1))
wider-book s past wide stamp (Note slot lost) w own m = (
  m.0,
  record {
    at_target = m.1.at_target;
    names_loss = subst (λ (n : ℕ). Names wide stamp lost (is_loss_in n)) (same-swaps slot past wide own)
        (wider-names past wide stamp lost (is_loss_in (swap_count slot past)) w m.1.names_loss);
    not_known = sym (same-unfitted slot past wide own) ∙ m.1.not_known;
  },
)
wider-book s past wide stamp (Swap slot call) w own m = (
  m.0,
  record {
    known = sym (same-unfitted slot past wide own) ∙ m.1.known;
    idle = sym (same (λ p. some_at 0 (opens_at s p slot) p) 0 past wide (idle-lane s slot) own) ∙ m.1.idle;
  },
)
wider-book s past wide stamp (Refuse call piece why) w own m = tt
wider-book s past wide stamp _ w own m = absurd m

wider-at : (s : Setting) (past wide : List Entry) (stamp lock : ℕ) (event : Event) → Wider past wide → SameLane lock past wide → MayAt s past stamp lock event →
    MayAt s wide stamp lock event
wider-at s past wide stamp zero event w own m = wider-book s past wide stamp event w own m
wider-at s past wide stamp (suc i) event w own m =
    let here : suc i ≡ i + 1 = omega arith in
    (m.0, wider-target s past wide stamp i event w (subst (λ (k : ℕ). SameLane k past wide) here own) m.1)

pub may-wider : (s : Setting) (past wide : List Entry) (e : Entry) → Wider past wide → SameLane e.lock past wide → May s past e → May s wide e
may-wider s past wide e w own m =
    (sym (same (stamps_below e.lock e.stamp) e.lock past wide (stamps_below-lane e.lock e.stamp) own) ∙ m.0, wider-at s past wide e.stamp e.lock e.event w own m.1)
