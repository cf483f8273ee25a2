-- The test of a fold decides whether it may follow.
use Rattle.std.proofs.Common.{◌≡◌, ◌==◌, ℕ, ◌+◌, List, [], ◌∷◌, length, Option, Some, None, refl, subst}
use Rattle.std.specs.Bool.{Decides}
use Rattle.std.specs.Str.{bytes_eq}
use Rattle.std.proofs.lemmas.Bool.Decides.{Decides-and, Decides-eqb, Decides-ltb, Decides-like}
use Rattle.std.proofs.lemmas.Slice.Eq.{bytes_eq-Decides}
use Rattle.sbc_cdbs.specs.declared.descriptor.Cdb.{Cdb}
use Rattle.array_journal.specs.declared.at.At.{At}
use Rattle.array_journal.specs.declared.entry.Entry.{Entry}
use Rattle.array_journal.specs.declared.event.Event.{Event}
use Rattle.array_journal.specs.declared.event.Event.TheVariants.{Diff, Take}
use Rattle.array_journal.specs.declared.setting.Setting.{Setting}
use Rattle.array_journal.specs.declared.task.Task.{Task}
use Rattle.array_journal.specs.declared.act.Act.TheVariants.{Folds}
use Rattle.array_journal.specs.Deltas.{delta_at}
use Rattle.array_journal.specs.Entries.{entry_at}
use Rattle.array_journal.specs.May.{SomeTask, MayFold, IsFoldSource, is_under_way}
use Rattle.run_check.proofs.PlainDecided.{Decides-true, Decides-nothing, Decides-found}
use Rattle.run_check.proofs.ActDecided.{IsOpened, of_opened-decided, act-decided}
use Rattle.run_check.specs.ActTest.{of_opened}
use Rattle.run_check.specs.FoldTest.{is_source, may_fold}

source-decided : (s : Setting) (past : List Entry) (c : ℕ) (task : Task) (name : At) (bytes : List ℕ) (o : Option Event) →
    Decides (is_source s past c task name bytes o) (IsFoldSource s past c task name bytes o)
source-decided s past c task name bytes (Some (Take command opened cdb row taken)) =
    Decides-and (command == c) (bytes_eq taken bytes) (Decides-eqb command c) (bytes_eq-Decides taken bytes)
source-decided s past c task name bytes (Some (Diff command opened cdb row written sent dropped back)) =
    Decides-like (is_source s past c task name bytes (Some (Diff command opened cdb row written sent dropped back)))
    (λ p. (p.0.0, p.0.1, p.1)) (λ p. ((p.0, p.1), p.2))
    (Decides-and _ _ (Decides-and _ _ (Decides-true (is_under_way s.mode sent dropped back)) (Decides-eqb command c))
    (Decides-found bytes (delta_at s task.target name past)))
source-decided s past c task name bytes (Some _) = Decides-nothing
source-decided s past c task name bytes None = Decides-nothing

-- some name is the one of a fold
abbrev pub FoldsOne : Setting → List Entry → ℕ → ℕ → ℕ → At → Cdb → ℕ → List ℕ → List At → Task → Type 0
FoldsOne s past stamp i c opened cdb row bytes list task = (name : At) × MayFold s past stamp i c opened cdb row bytes list task name

fold-with : (s : Setting) (past : List Entry) (stamp i c : ℕ) (opened : At) (cdb : Cdb) (row : ℕ) (bytes : List ℕ) (list : List At) (task : Task) →
    IsOpened past stamp c opened task →
    Decides (may_fold s past stamp i c opened cdb row bytes list task) (FoldsOne s past stamp i c opened cdb row bytes list task)
fold-with s past stamp i c opened cdb row bytes [] task o =
    Decides-like (may_fold s past stamp i c opened cdb row bytes [] task)
    (λ p. absurd p.1) (λ (name, m). let e = m.one in cc)
    (Decides-and _ _ (act-decided s past stamp i c opened cdb row (length bytes) 0 task Folds o) Decides-nothing)
fold-with s past stamp i c opened cdb row bytes (name ∷ []) task o =
    Decides-like (may_fold s past stamp i c opened cdb row bytes (name ∷ []) task)
    (λ p. (name, record { act = p.0; one = refl; at_source = p.1.0.0; earlier = p.1.0.1; source = p.1.1 }))
    (λ (other, m).
    let e = m.one in
    let same : other ≡ name = cc in
    let here : MayFold s past stamp i c opened cdb row bytes (name ∷ []) task name = subst (λ (n : At). MayFold s past stamp i c opened cdb row bytes (name ∷ []) task n) same m in
    (here.act, ((here.at_source, here.earlier), here.source)))
    (Decides-and _ _ (act-decided s past stamp i c opened cdb row (length bytes) 0 task Folds o)
    (Decides-and _ _ (Decides-and _ _ (Decides-eqb name.lock (task.target + 1)) (Decides-ltb name.stamp stamp))
    (source-decided s past c task name bytes (entry_at name past))))
fold-with s past stamp i c opened cdb row bytes (name ∷ other ∷ rest) task o =
    Decides-like (may_fold s past stamp i c opened cdb row bytes (name ∷ other ∷ rest) task)
    (λ p. absurd p.1) (λ (one, m). let e = m.one in cc)
    (Decides-and _ _ (act-decided s past stamp i c opened cdb row (length bytes) 0 task Folds o) Decides-nothing)

pub fold-decided : (s : Setting) (past : List Entry) (stamp i c : ℕ) (opened : At) (cdb : Cdb) (row : ℕ) (bytes : List ℕ) (list : List At) →
    Decides (of_opened past stamp c opened (may_fold s past stamp i c opened cdb row bytes list))
    (SomeTask (λ task. (name : At) × MayFold s past stamp i c opened cdb row bytes list task name))
fold-decided s past stamp i c opened cdb row bytes list =
    of_opened-decided past stamp c opened _ (FoldsOne s past stamp i c opened cdb row bytes list)
    (λ task o. fold-with s past stamp i c opened cdb row bytes list task o)
    (λ task (name, m). record { opening = m.act.opening; in_book = m.act.in_book })
