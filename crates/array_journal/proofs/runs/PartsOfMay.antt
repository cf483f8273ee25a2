-- What may follow a journal is asked, is found, and is later.
use Rattle.std.specs.Prelude.{◌≡◌, ◌<◌, ◌⊎◌, ℕ, zero, suc, ◌+◌, Bool, true, false, List, Option, Some, None}
use Rattle.std.proofs.Common.{sym, subst, inl, inr}
use Rattle.std.proofs.lemmas.Bool.{or_left, or_right}
use Rattle.sbc_cdbs.specs.declared.descriptor.Cdb.{Cdb}
use Rattle.array_journal.specs.declared.at.At.{At}
use Rattle.array_journal.specs.declared.entry.Entry.{Entry}
use Rattle.array_journal.specs.declared.event.Event.{Event}
use Rattle.array_journal.specs.declared.event.Event.TheVariants.{Fetch, Put, Diff, Take, Fold, Hold, Shut, Gone, Wiped, Fresh, Open, Close, Spoil, Note, Swap, Refuse}
use Rattle.array_journal.specs.declared.setting.Setting.{Setting}
use Rattle.array_journal.specs.declared.task.Kind.{Kind}
use Rattle.array_journal.specs.declared.task.Kind.TheVariants.{DegradedRead, Rebuild}
use Rattle.array_journal.specs.declared.task.Task.{Task}
use Rattle.array_journal.specs.Entries.{entry_at}
use Rattle.array_journal.specs.declared.act.Act.{Act}
use Rattle.array_journal.specs.declared.act.Act.TheVariants.{Fetches}
use Rattle.array_journal.specs.Acts.{targets_that, is_target, is_act}
use Rattle.array_journal.specs.Lives.{is_loss, swap_count}
use Rattle.array_journal.specs.May.{MayAt, MayBook, MayTarget, MayAct, MayClose, MaySpoil, Names, IsCause, IsCauseOfKind, IsCauseOfLoss, fetched_targets, is_loss_in, is_wipe_of, shuts_idle, is_dropped_diff, discards}
use Rattle.array_journal.specs.Parts.{Named, AskedAct, FoundAct, AskedClose, AskedSpoil, FoundLoss, FoundCause, FoundCauseOfKind, FoundClose, Asked, AskedBook, AskedTarget, Found, FoundBook, FoundTarget, is_cause_of, named_by, AllEarlier, MayHasParts}
use Rattle.array_journal.proofs.runs.PartsOfNames.{named_at, each_named, named_acts, loss_of_life}
use Rattle.array_journal.proofs.runs.Standing.{passes-weaker}

-- acts
asked-act : {s : Setting} {past : List Entry} {stamp i c : ℕ} {opened : At} {cdb : Cdb} {row len sources : ℕ} {task : Task} {act : Act} →
    MayAct s past stamp i c opened cdb row len sources task act → AskedAct s past i c opened cdb row len sources task act
asked-act m = record {
  opening = m.opening.0;
  in_book = m.in_book;
  of_task = m.of_task;
  not_shut = m.not_shut;
  once = m.once;
  at_row = m.at_row;
  whole = m.whole;
  spelt = m.spelt;
}

found-act : {s : Setting} {past : List Entry} {stamp i c : ℕ} {opened : At} {cdb : Cdb} {row len sources : ℕ} {task : Task} {act : Act} →
    MayAct s past stamp i c opened cdb row len sources task act → FoundAct past i opened
found-act m = record { not_gone = m.not_gone; same_life = m.same_life }

cause_by_loss : (c life : ℕ) (e : Event) → is_loss_in life e ≡ true → is_cause_of c e ≡ true
cause_by_loss c life e h = or_left (is_loss e) (is_wipe_of c e) (loss_of_life life e h)

cause_by_wipe : (c : ℕ) (e : Event) → is_wipe_of c e ≡ true → is_cause_of c e ≡ true
cause_by_wipe c e h = or_right (is_loss e) (is_wipe_of c e) h

-- causes of a close
found-loss : {past : List Entry} {stamp i : ℕ} {cause : At} → IsCauseOfLoss past stamp i cause → FoundLoss past i cause
found-loss m = record { at_target = m.at_target; lost = m.lost.0; known = m.known }

record CauseParts (s : Setting) (past : List Entry) (stamp c : ℕ) (task : Task) (cause : At) (found : Type 0) : Type 0 where
  named : Named past cause (is_cause_of c)
  fits : found
  earlier : cause.stamp < stamp

kind-parts : (s : Setting) (past : List Entry) (stamp c : ℕ) (task : Task) (cause : At) (kind : Kind) → IsCauseOfKind past stamp c task cause kind →
    CauseParts s past stamp c task cause (FoundCauseOfKind past c task cause kind)
kind-parts s past stamp c task cause Rebuild (life, m) = record {
  named = passes-weaker (is_loss_in life) (is_cause_of c) (entry_at cause past) (cause_by_loss c life) m.1.1.0;
  fits = (life, (m.0, (m.1.0, m.1.1.0)));
  earlier = m.1.1.1;
}
kind-parts s past stamp c task cause DegradedRead m = record {
  named = passes-weaker (is_wipe_of c) (is_cause_of c) (entry_at cause past) (cause_by_wipe c) m.0;
  fits = m.0;
  earlier = m.1;
}
kind-parts s past stamp c task cause _ m = absurd m

cause-parts : (s : Setting) (past : List Entry) (stamp c : ℕ) (task : Task) (cause : At) → IsCause s past stamp c task cause →
    CauseParts s past stamp c task cause (FoundCause s past c task cause)
cause-parts s past stamp c task cause (inl (i, m)) = record {
  named = passes-weaker (is_loss_in (swap_count i past)) (is_cause_of c) (entry_at cause past) (cause_by_loss c (swap_count i past)) m.1.lost.0;
  fits = inl (i, (m.0, found-loss m.1));
  earlier = m.1.lost.1;
}
cause-parts s past stamp c task cause (inr m) =
    let k = kind-parts s past stamp c task cause task.kind m in
    record { named = k.named; fits = inr k.fits; earlier = k.earlier }

-- the three parts of an event, with the stamp's
record EventParts (asked found : Type 0) (stamp : ℕ) (event : Event) : Type 0 where
  asked_part : asked
  found_part : found
  earlier : AllEarlier stamp (named_by event)

close-parts : (s : Setting) (past : List Entry) (stamp c : ℕ) (done : Bool) (names : List At) (cause : Option At) (bytes : List ℕ) (task : Task) →
    MayClose s past stamp c done names cause bytes task →
    EventParts (AskedClose s past c done names cause bytes task) (FoundClose s past c done cause (Some task)) stamp (Close c done names cause bytes)
close-parts s past stamp c true names None bytes task m = record {
  asked_part = record { acts = named_acts m.acts; folds = m.folds; answer = m.answer };
  found_part = tt;
  earlier = (each_named s past stamp c task names m.acts.only).1;
}
close-parts s past stamp c true names (Some cause) bytes task m = record {
  asked_part = record {
    update = m.update;
    acts = named_acts m.acts;
    no_fold = m.no_fold;
    at_parity = m.parity_lost.at_target;
    names_loss = passes-weaker (is_loss_in (swap_count task.parity past)) is_loss (entry_at cause past)
        (loss_of_life (swap_count task.parity past)) m.parity_lost.lost.0;
    no_answer = m.no_answer;
  };
  found_part = found-loss m.parity_lost;
  earlier = (m.parity_lost.lost.1, (each_named s past stamp c task names m.acts.only).1);
}
close-parts s past stamp c false names None bytes task m = absurd m
close-parts s past stamp c false names (Some cause) bytes task m =
    let shut = named_at past stamp (targets_that s (is_target s task)) (shuts_idle c) names m.shut in
    let parts = cause-parts s past stamp c task cause m.for_cause in
    record {
      asked_part = record { shut = shut.0; names_cause = parts.named; no_answer = m.no_answer };
      found_part = parts.fits;
      earlier = (parts.earlier, shut.1);
    }

-- a spoil's loss is the diff itself, or an entry that discarded the delta
loss-parts : (past : List Entry) (stamp c target : ℕ) (diff loss : At) →
    ((loss ≡ diff) × Names past stamp diff (is_dropped_diff c)) ⊎ ((loss.lock ≡ target + 1) × Names past stamp loss (discards c)) →
    (((loss ≡ diff) × Named past diff (is_dropped_diff c)) ⊎ ((loss.lock ≡ target + 1) × Named past loss (discards c))) × (loss.stamp < stamp)
loss-parts past stamp c target diff loss (inl h) = (inl (h.0, h.1.0), subst (λ (n : At). n.stamp < stamp) (sym h.0) h.1.1)
loss-parts past stamp c target diff loss (inr h) = (inr (h.0, h.1.0), h.1.1)

spoil-parts : (s : Setting) (past : List Entry) (stamp c : ℕ) (diff loss shut : At) (task : Task) → MaySpoil s past stamp c diff loss shut task →
    EventParts (AskedSpoil s past c diff loss shut task) (Unit {0}) stamp (Spoil c diff loss shut)
spoil-parts s past stamp c diff loss shut task m =
    let lost = loss-parts past stamp c task.target diff loss m.lost in
    record {
      asked_part = record {
        update = m.update;
        at_target = m.at_target;
        differed = m.differed.0;
        lost = lost.0;
        at_parity = m.at_parity;
        shut_idle = m.shut_idle.0;
      };
      found_part = tt;
      earlier = (m.differed.1, (lost.1, (m.shut_idle.1, tt)));
    }

book-parts : (s : Setting) (past : List Entry) (stamp : ℕ) (event : Event) → MayBook s past stamp event →
    EventParts (AskedBook s past event) (FoundBook s past event) stamp event
book-parts s past stamp (Open command task) m = record {
  asked_part = m.sound;
  found_part = record { numbered = m.numbered; decided = m.decided; alone = m.alone; room = m.room };
  earlier = tt;
}
book-parts s past stamp (Close command done names cause bytes) (task, m) =
    let parts = close-parts s past stamp command done names cause bytes task m.1 in
    record {
      asked_part = (task, (m.0, parts.asked_part));
      found_part = subst (λ (o : Option Task). FoundClose s past command done cause o) (sym m.0.1) parts.found_part;
      earlier = parts.earlier;
    }
book-parts s past stamp (Spoil command diff loss shut) (task, m) =
    let parts = spoil-parts s past stamp command diff loss shut task m.1 in
    record { asked_part = (task, (m.0, parts.asked_part)); found_part = tt; earlier = parts.earlier }
book-parts s past stamp (Note slot lost) m = record {
  asked_part = record {
    slot = m.0;
    at_target = m.1.at_target;
    names_loss = passes-weaker (is_loss_in (swap_count slot past)) is_loss (entry_at lost past) (loss_of_life (swap_count slot past)) m.1.names_loss.0;
  };
  found_part = record { in_life = m.1.names_loss.0; not_known = m.1.not_known };
  earlier = (m.1.names_loss.1, tt);
}
book-parts s past stamp (Swap slot call) m = record { asked_part = m.0; found_part = m.1; earlier = tt }
book-parts s past stamp (Refuse call piece why) m = record { asked_part = tt; found_part = tt; earlier = tt }
book-parts s past stamp _ m = absurd m

target-parts : (s : Setting) (past : List Entry) (stamp i : ℕ) (event : Event) → MayTarget s past stamp i event →
    EventParts (AskedTarget s past i event) (FoundTarget s past i event) stamp event
target-parts s past stamp i (Fetch command opened cdb row bytes) (task, m) = record {
  asked_part = (task, asked-act m.act);
  found_part = record { act = found-act m.act; read = m.read };
  earlier = (m.act.opening.1, tt);
}
target-parts s past stamp i (Put command opened cdb row bytes names) (task, m) =
    let fetched = named_at past stamp (fetched_targets s task) (is_act Fetches command) names m.fetched in
    record {
      asked_part = (task, record { act = asked-act m.act; fetched = fetched.0; made = m.made });
      found_part = found-act m.act;
      earlier = (m.act.opening.1, fetched.1);
    }
target-parts s past stamp i (Diff command opened cdb row bytes sent dropped back) (task, m) = record {
  asked_part = (task, record { act = asked-act m.act; written = m.written; sent_by_mode = m.sent_by_mode; back_by_mode = m.back_by_mode });
  found_part = record { act = found-act m.act; dropped_when_due = m.dropped_when_due };
  earlier = (m.act.opening.1, tt);
}
target-parts s past stamp i (Take command opened cdb row bytes) (task, m) = record {
  asked_part = (task, asked-act m.act);
  found_part = record { act = found-act m.act; taken = m.taken };
  earlier = (m.act.opening.1, tt);
}
target-parts s past stamp i (Fold command opened cdb row bytes names) (task, (name, m)) = record {
  asked_part = (task, (name, record { act = asked-act m.act; one = m.one; at_source = m.at_source; source = m.source }));
  found_part = found-act m.act;
  earlier = (m.act.opening.1, subst (λ (ns : List At). AllEarlier stamp ns) (sym m.one) (m.earlier, tt));
}
target-parts s past stamp i (Hold command opened cdb row bytes kept names back) (task, m) =
    let fetched = named_at past stamp (fetched_targets s task) (is_act Fetches command) names m.fetched in
    record {
      asked_part = (task, record { act = asked-act m.act; kept_here = m.kept_here; not_handed = m.not_handed; fetched = fetched.0 });
      found_part = record { act = found-act m.act; made = m.made };
      earlier = (m.act.opening.1, fetched.1);
    }
target-parts s past stamp i (Shut command opened acted lost) (task, m) = record {
  asked_part = (
    task,
    record {
      opening = m.opening.0;
      in_book = m.in_book;
      of_task = m.of_task;
      once = m.once;
      unanswered = m.unanswered;
    },
  );
  found_part = record { says_acted = m.says_acted; says_lost = m.says_lost };
  earlier = (m.opening.1, tt);
}
target-parts s past stamp i (Gone life call commands) m = record { asked_part = tt; found_part = m; earlier = tt }
target-parts s past stamp i (Wiped what call commands) m = record { asked_part = tt; found_part = m; earlier = tt }
target-parts s past stamp i (Fresh call swap) m = record {
  asked_part = record { swapped = m.swapped.0; in_book = m.in_book };
  found_part = m.next_disk;
  earlier = (m.swapped.1, tt);
}
target-parts s past stamp i _ m = absurd m

at-parts : (s : Setting) (past : List Entry) (stamp lock : ℕ) (event : Event) → MayAt s past stamp lock event →
    EventParts (Asked s past lock event) (Found s past lock event) stamp event
at-parts s past stamp zero event m = book-parts s past stamp event m
at-parts s past stamp (suc i) event m =
    let parts = target-parts s past stamp i event m.1 in
    record { asked_part = (m.0, parts.asked_part); found_part = parts.found_part; earlier = parts.earlier }

pub may-has_parts : MayHasParts
may-has_parts s past e m =
    let parts = at-parts s past e.stamp e.lock e.event m.1 in
    record { asked = parts.asked_part; found = parts.found_part; later = (m.0, parts.earlier) }
