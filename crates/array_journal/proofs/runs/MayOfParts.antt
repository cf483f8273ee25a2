-- What is asked, is found, and is later may follow a journal.
use Rattle.std.specs.Prelude.{◌<◌, ℕ, zero, suc, Bool, true, false, List, Option, Some, None}
use Rattle.std.proofs.Common.{refl, subst, inl, inr}
use Rattle.sbc_cdbs.specs.declared.descriptor.Cdb.{Cdb}
use Rattle.array_journal.specs.declared.at.At.{At}
use Rattle.array_journal.specs.declared.entry.Entry.{Entry}
use Rattle.array_journal.specs.declared.event.Event.{Event}
use Rattle.array_journal.specs.declared.event.Event.TheVariants.{Fetch, Put, Diff, Take, Fold, Hold, Shut, Gone, Wiped, Fresh, Open, Close, Spoil, Note, Swap, Refuse}
use Rattle.array_journal.specs.declared.setting.Setting.{Setting}
use Rattle.array_journal.specs.declared.task.Kind.{Kind}
use Rattle.array_journal.specs.declared.task.Kind.TheVariants.{DegradedRead, Rebuild}
use Rattle.array_journal.specs.declared.task.Task.{Task}
use Rattle.array_journal.specs.declared.act.Act.{Act}
use Rattle.array_journal.specs.declared.act.Act.TheVariants.{Fetches}
use Rattle.array_journal.specs.Acts.{targets_that, is_target, is_act}
use Rattle.array_journal.specs.May.{MayAt, MayBook, MayTarget, MayAct, MayClose, IsCause, IsCauseOfKind, IsCauseOfLoss, fetched_targets, shuts_idle}
use Rattle.array_journal.specs.Parts.{AskedAct, FoundAct, AskedClose, FoundLoss, FoundCause, FoundCauseOfKind, FoundClose, Asked, AskedBook, AskedTarget, Found, FoundBook, FoundTarget, named_by, with_cause, AllEarlier, PartsGiveMay}
use Rattle.array_journal.proofs.runs.PartsOfNames.{names_at, names_acts}

may-act : {s : Setting} {past : List Entry} {stamp i c : ℕ} {opened : At} {cdb : Cdb} {row len sources : ℕ} {task : Task} {act : Act} →
    AskedAct s past i c opened cdb row len sources task act → FoundAct past i opened → opened.stamp < stamp →
    MayAct s past stamp i c opened cdb row len sources task act
may-act a f later = record {
  opening = (a.opening, later);
  in_book = a.in_book;
  of_task = a.of_task;
  not_gone = f.not_gone;
  not_shut = a.not_shut;
  once = a.once;
  same_life = f.same_life;
  at_row = a.at_row;
  whole = a.whole;
  spelt = a.spelt;
}

cause-of_loss : {past : List Entry} {i : ℕ} {cause : At} (stamp : ℕ) → FoundLoss past i cause → cause.stamp < stamp → IsCauseOfLoss past stamp i cause
cause-of_loss stamp f later = record { at_target = f.at_target; lost = (f.lost, later); known = f.known }

kind-whole : (past : List Entry) (stamp c : ℕ) (task : Task) (cause : At) (kind : Kind) → FoundCauseOfKind past c task cause kind → cause.stamp < stamp →
    IsCauseOfKind past stamp c task cause kind
kind-whole past stamp c task cause Rebuild (life, m) later = (life, (m.0, (m.1.0, (m.1.1, later))))
kind-whole past stamp c task cause DegradedRead m later = (m, later)
kind-whole past stamp c task cause _ m later = absurd m

cause-whole : (s : Setting) (past : List Entry) (stamp c : ℕ) (task : Task) (cause : At) → FoundCause s past c task cause → cause.stamp < stamp →
    IsCause s past stamp c task cause
cause-whole s past stamp c task cause (inl (i, m)) later = inl (i, (m.0, cause-of_loss stamp m.1 later))
cause-whole s past stamp c task cause (inr m) later = inr (kind-whole past stamp c task cause task.kind m later)

close-whole : (s : Setting) (past : List Entry) (stamp c : ℕ) (done : Bool) (names : List At) (cause : Option At) (bytes : List ℕ) (task : Task) →
    AskedClose s past c done names cause bytes task → FoundClose s past c done cause (Some task) → AllEarlier stamp (with_cause cause names) →
    MayClose s past stamp c done names cause bytes task
close-whole s past stamp c true names None bytes task a f later =
    record { acts = names_acts stamp a.acts later; folds = a.folds; no_cause = refl; answer = a.answer }
close-whole s past stamp c true names (Some cause) bytes task a f later = record {
  update = a.update;
  acts = names_acts stamp a.acts later.1;
  no_fold = a.no_fold;
  parity_lost = cause-of_loss stamp f later.0;
  no_answer = a.no_answer;
}
close-whole s past stamp c false names None bytes task a f later = absurd a
close-whole s past stamp c false names (Some cause) bytes task a f later = record {
  shut = names_at past stamp (targets_that s (is_target s task)) (shuts_idle c) names a.shut later.1;
  for_cause = cause-whole s past stamp c task cause f later.0;
  no_answer = a.no_answer;
}

book-whole : (s : Setting) (past : List Entry) (stamp : ℕ) (event : Event) → AskedBook s past event → FoundBook s past event →
    AllEarlier stamp (named_by event) → MayBook s past stamp event
book-whole s past stamp (Open command task) a f later =
    record { numbered = f.numbered; sound = a; decided = f.decided; alone = f.alone; room = f.room }
book-whole s past stamp (Close command done names cause bytes) (task, a) f later = (
  task,
  (
    a.0,
    close-whole s past stamp command done names cause bytes task a.1
        (subst (λ (o : Option Task). FoundClose s past command done cause o) a.0.1 f) later,
  ),
)
book-whole s past stamp (Spoil command diff loss shut) (task, a) f later = (
  task,
  (
    a.0,
    record {
      update = a.1.update;
      at_target = a.1.at_target;
      differed = (a.1.differed, later.0);
      lost = elim a.1.lost [ inl h ↦ inl (h.0, (h.1, later.0)) | inr h ↦ inr (h.0, (h.1, later.1.0)) ];
      at_parity = a.1.at_parity;
      shut_idle = (a.1.shut_idle, later.1.1.0);
    },
  ),
)
book-whole s past stamp (Note slot lost) a f later =
    (a.slot, record { at_target = a.at_target; names_loss = (f.in_life, later.0); not_known = f.not_known })
book-whole s past stamp (Swap slot call) a f later = (a, f)
book-whole s past stamp (Refuse call piece why) a f later = tt
book-whole s past stamp _ a f later = absurd a

target-whole : (s : Setting) (past : List Entry) (stamp i : ℕ) (event : Event) → AskedTarget s past i event → FoundTarget s past i event →
    AllEarlier stamp (named_by event) → MayTarget s past stamp i event
target-whole s past stamp i (Fetch command opened cdb row bytes) (task, a) f later =
    (task, record { act = may-act a f.act later.0; read = f.read })
target-whole s past stamp i (Put command opened cdb row bytes names) (task, a) f later = (
  task,
  record {
    act = may-act a.act f later.0;
    fetched = names_at past stamp (fetched_targets s task) (is_act Fetches command) names a.fetched later.1;
    made = a.made;
  },
)
target-whole s past stamp i (Diff command opened cdb row bytes sent dropped back) (task, a) f later = (
  task,
  record {
    act = may-act a.act f.act later.0;
    written = a.written;
    sent_by_mode = a.sent_by_mode;
    back_by_mode = a.back_by_mode;
    dropped_when_due = f.dropped_when_due;
  },
)
target-whole s past stamp i (Take command opened cdb row bytes) (task, a) f later =
    (task, record { act = may-act a f.act later.0; taken = f.taken })
target-whole s past stamp i (Fold command opened cdb row bytes names) (task, (name, a)) f later =
    let earlier = subst (λ (ns : List At). AllEarlier stamp ns) a.one later.1 in
    (task, (name, record { act = may-act a.act f later.0; one = a.one; at_source = a.at_source; earlier = earlier.0; source = a.source }))
target-whole s past stamp i (Hold command opened cdb row bytes kept names back) (task, a) f later = (
  task,
  record {
    act = may-act a.act f.act later.0;
    kept_here = a.kept_here;
    not_handed = a.not_handed;
    fetched = names_at past stamp (fetched_targets s task) (is_act Fetches command) names a.fetched later.1;
    made = f.made;
  },
)
target-whole s past stamp i (Shut command opened acted lost) (task, a) f later = (
  task,
  record {
    opening = (a.opening, later.0);
    in_book = a.in_book;
    of_task = a.of_task;
    once = a.once;
    unanswered = a.unanswered;
    says_acted = f.says_acted;
    says_lost = f.says_lost;
  },
)
target-whole s past stamp i (Gone life call commands) a f later = f
target-whole s past stamp i (Wiped what call commands) a f later = f
target-whole s past stamp i (Fresh call swap) a f later = record { swapped = (a.swapped, later.0); in_book = a.in_book; next_disk = f }
target-whole s past stamp i _ a f later = absurd a

at-whole : (s : Setting) (past : List Entry) (stamp lock : ℕ) (event : Event) → Asked s past lock event → Found s past lock event →
    AllEarlier stamp (named_by event) → MayAt s past stamp lock event
at-whole s past stamp zero event a f later = book-whole s past stamp event a f later
at-whole s past stamp (suc i) event a f later = (a.0, target-whole s past stamp i event a.1 f later)

pub parts-give_may : PartsGiveMay
parts-give_may s past e h = (h.later.0, at-whole s past e.stamp e.lock e.event h.asked h.found h.later.1)
