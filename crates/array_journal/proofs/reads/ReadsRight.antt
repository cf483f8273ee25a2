-- What hosts read is what one plain list of sectors says: entry by entry of a run.
use Rattle.std.specs.Prelude.{◌≡◌, ℕ, zero, suc, Bool, true, false, List, [], ◌∷◌, ◌++◌, Option, Some, None, reverse}
use Rattle.std.proofs.Common.{refl, ap, sym, ◌∙◌, cond, subst}
use Rattle.std.proofs.lemmas.Bool.{false≢true}
use Rattle.sbc_cdbs.specs.declared.descriptor.Cdb.{Cdb}
use Rattle.array_journal.specs.declared.at.At.{At}
use Rattle.array_journal.specs.declared.entry.Entry.{Entry}
use Rattle.array_journal.specs.declared.event.Event.{Event}
use Rattle.array_journal.specs.declared.event.Event.TheVariants.{Fetch, Put, Diff, Close, Refuse}
use Rattle.array_journal.specs.declared.setting.Setting.{Setting}
use Rattle.array_journal.specs.declared.task.Kind.{Kind}
use Rattle.array_journal.specs.declared.task.Kind.TheVariants.{Read, Update, DegradedRead}
use Rattle.array_journal.specs.declared.task.Task.{Task}
use Rattle.array_journal.specs.Commands.{task_of, is_shared}
use Rattle.array_journal.specs.declared.act.Act.TheVariants.{Fetches}
use Rattle.array_journal.specs.Host.{is_read, is_degraded_read, is_put_write, read_item, wrote_item, told_by, teller, teller_task, host, Legal}
use Rattle.array_journal.specs.May.{MayFetch, MayAt, MayClose, IsOpenWith}
use Rattle.array_journal.specs.Run.{IsSetting, Grows}
use Rattle.array_journal.specs.Laws.{LegalLaw}
use Rattle.array_journal.proofs.reads.KnownBlocks.{act_task}
use Rattle.array_journal.proofs.windows.WindowReads.{Kept}
use Rattle.array_journal.proofs.owed.KeptRuns.{kept-run}
use Rattle.array_journal.proofs.windows.DegradedReads.{read-right, closed-right}

read-kind : (kind : Kind) → is_read kind ≡ true → kind ≡ Read
read-kind Read h = refl
read-kind _ h = absurd (false≢true h)

degraded_read-kind : (kind : Kind) → is_degraded_read kind ≡ true → kind ≡ DegradedRead
degraded_read-kind DegradedRead h = refl
degraded_read-kind _ h = absurd (false≢true h)

-- items that were told, and then one more or none
abbrev LegalAfter : Setting → List Entry → Event → Option Task → Type 0
LegalAfter s past event found = Legal s.geometry (told_by s.geometry event found ++ host s.geometry past)

fetch-legal : (s : Setting) (past : List Entry) (stamp i command : ℕ) (opened : At) (cdb : Cdb) (row : ℕ) (bytes : List ℕ) (task : Task) → IsSetting s → Grows s past →
    Kept s past → MayFetch s past stamp i command opened cdb row bytes task → Legal s.geometry (host s.geometry past) →
    LegalAfter s past (Fetch command opened cdb row bytes) (Some task)
fetch-legal s past stamp i command opened cdb row bytes task set g kept m old = choose (is_read task.kind) refl
  where
    choose : (b : Bool) → is_read task.kind ≡ b → Legal s.geometry (cond b (read_item s.geometry task bytes ∷ []) [] ++ host s.geometry past)
    choose true k = (read-right s past stamp i command opened cdb row bytes task set g kept m (read-kind task.kind k), old)
    choose false k = old

close-legal : (s : Setting) (past : List Entry) (stamp command : ℕ) (names : List At) (cause : Option At) (bytes : List ℕ) (task : Task) → IsSetting s → Grows s past →
    Kept s past → IsOpenWith past command task → MayClose s past stamp command true names cause bytes task → Legal s.geometry (host s.geometry past) →
    LegalAfter s past (Close command true names cause bytes) (Some task)
close-legal s past stamp command names cause bytes task set g kept o m old = choose (is_degraded_read task.kind) refl
  where
    right : (found : Option At) → task.kind ≡ DegradedRead → MayClose s past stamp command true names found bytes task →
        Legal s.geometry (read_item s.geometry task bytes ∷ host s.geometry past)
    right None k c = (
      closed-right s past stamp command task names None bytes set g kept (record { opened = o.0; its_task = o.1; alone = ap is_shared k }) k c,
      old,
    )
    right (Some found) k c = absurd (apart (sym k ∙ c.update))
      where
        apart : DegradedRead ≡ Update → ⊥
        apart e = absurd cc

    choose : (b : Bool) → is_degraded_read task.kind ≡ b → Legal s.geometry (cond b (read_item s.geometry task bytes ∷ []) [] ++ host s.geometry past)
    choose true k = right cause (degraded_read-kind task.kind k) m
    choose false k = old

diff-legal : (s : Setting) (past : List Entry) (command : ℕ) (opened : At) (cdb : Cdb) (row : ℕ) (bytes : List ℕ) (sent dropped back : Bool) (found : Option Task) →
    Legal s.geometry (host s.geometry past) → LegalAfter s past (Diff command opened cdb row bytes sent dropped back) found
diff-legal s past command opened cdb row bytes sent dropped back None old = old
diff-legal s past command opened cdb row bytes sent dropped back (Some task) old = (tt, old)

put-legal : (s : Setting) (past : List Entry) (command : ℕ) (opened : At) (cdb : Cdb) (row : ℕ) (bytes : List ℕ) (names : List At) (found : Option Task) →
    Legal s.geometry (host s.geometry past) → LegalAfter s past (Put command opened cdb row bytes names) found
put-legal s past command opened cdb row bytes names None old = old
put-legal s past command opened cdb row bytes names (Some task) old = choose (is_put_write task.kind)
  where
    choose : (b : Bool) → Legal s.geometry (cond b (wrote_item s.geometry task ∷ []) [] ++ host s.geometry past)
    choose true = (tt, old)
    choose false = old

unclosed-legal : (s : Setting) (past : List Entry) (command : ℕ) (names : List At) (cause : Option At) (bytes : List ℕ) (found : Option Task) →
    Legal s.geometry (host s.geometry past) → LegalAfter s past (Close command false names cause bytes) found
unclosed-legal s past command names cause bytes None old = old
unclosed-legal s past command names cause bytes (Some task) old = old

legal-after : (s : Setting) (past : List Entry) (stamp lock : ℕ) (event : Event) → IsSetting s → Grows s past → Kept s past → MayAt s past stamp lock event →
    Legal s.geometry (host s.geometry past) → LegalAfter s past event (teller_task (teller event) past)
legal-after s past stamp zero (Close command true names cause bytes) set g kept m old =
    subst (LegalAfter s past (Close command true names cause bytes)) (sym m.1.0.1) (close-legal s past stamp command names cause bytes m.0 set g kept m.1.0 m.1.1 old)
legal-after s past stamp zero (Close command false names cause bytes) set g kept m old = unclosed-legal s past command names cause bytes (task_of command past) old
legal-after s past stamp zero (Fetch command opened cdb row bytes) set g kept m old = absurd m
legal-after s past stamp zero (Put command opened cdb row bytes names) set g kept m old = absurd m
legal-after s past stamp zero (Diff command opened cdb row bytes sent dropped back) set g kept m old = absurd m
legal-after s past stamp zero (Refuse call piece why) set g kept m old = (tt, old)
legal-after s past stamp zero _ set g kept m old = old
legal-after s past stamp (suc i) (Fetch command opened cdb row bytes) set g kept m old =
    subst (LegalAfter s past (Fetch command opened cdb row bytes)) (sym (act_task s past stamp i command opened cdb row _ 0 m.1.0 Fetches g m.1.1.act))
    (fetch-legal s past stamp i command opened cdb row bytes m.1.0 set g kept m.1.1 old)
legal-after s past stamp (suc i) (Put command opened cdb row bytes names) set g kept m old = put-legal s past command opened cdb row bytes names (task_of command past) old
legal-after s past stamp (suc i) (Diff command opened cdb row bytes sent dropped back) set g kept m old =
    diff-legal s past command opened cdb row bytes sent dropped back (task_of command past) old
legal-after s past stamp (suc i) (Close command done names cause bytes) set g kept m old = absurd m.1
legal-after s past stamp (suc i) (Refuse call piece why) set g kept m old = absurd m.1
legal-after s past stamp (suc i) _ set g kept m old = old

pub legal-run : (s : Setting) (past : List Entry) → IsSetting s → Grows s past → Legal s.geometry (host s.geometry past)
legal-run s [] set g = tt
legal-run s (e ∷ past) set g =
    legal-after s past e.stamp e.lock e.event set g.1 (kept-run s past set g.1) g.0.1.1 (legal-run s past set g.1)

pub legal_law : LegalLaw
legal_law s journal set run = legal-run s (reverse journal) set run
