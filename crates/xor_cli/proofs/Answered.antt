-- The entries of a read or of an update of one piece serve the call at work.
use Rattle.std.specs.Prelude.{◌≡◌, ◌==◌, ◌≤◌, ℕ, Bool, true, false, List, [], ◌∷◌, length, cond, Option, Some, None, option_map, take}
use Rattle.std.proofs.Common.{refl, ap, subst, ◌∙◌}
use Rattle.std.proofs.lemmas.Bool.{eq-eqb}
use Rattle.sbc_cdbs.specs.declared.descriptor.Cdb.{Cdb}
use Rattle.array_journal.specs.declared.entry.Entry.{Entry}
use Rattle.array_journal.specs.declared.setting.Setting.{Setting}
use Rattle.array_journal.specs.declared.task.Task.{Task}
use Rattle.array_journal.specs.Commands.{open_count, task_given, first_task, task_of}
use Rattle.array_journal.specs.Serving.{open_entry, fetch_entry, close_read_entry, read_entries, diff_entry, take_entry, fold_entry, close_update_entry, update_entries}
use Rattle.host_scripts.specs.declared.script.Script.{Script}
use Rattle.host_requests.specs.Begins.{Opening, begin_of}
use Rattle.stripe_check.specs.Steps.{Begins, Ends, Done, call_of_command}
use Rattle.xor_cli.proofs.Going.{Going, going-more}

abbrev no_task : Option Task
no_task = None

-- entries that give a command no task leave its call as it was
call-behind : (c : ℕ) (e : Entry) (past : List Entry) → task_given c e.event ≡ None → call_of_command c (e ∷ past) ≡ call_of_command c past
call-behind c e past none =
    ap (λ given. option_map (λ (task : Task). task.call) (first_task (cond (e.lock == 0) given None) (task_of c past))) none
    ∙ ap (λ given. option_map (λ (task : Task). task.call) (first_task given (task_of c past))) (no-choice (e.lock == 0))
  where
    no-choice : (b : Bool) → cond b no_task no_task ≡ no_task
    no-choice true = refl
    no-choice false = refl

-- after its opening a command is of its task's call
call-opened : (past : List Entry) (task : Task) → call_of_command (open_count past) (open_entry past task ∷ past) ≡ Some task.call
call-opened past task =
    ap (λ b. option_map (λ (t : Task). t.call) (first_task (cond b (Some task) None) (task_of (open_count past) past))) (eq-eqb (open_count past) (open_count past) refl)

-- a task of the call at work, as the book begins its one piece
pub record IsBegun (script : Script) (number : ℕ) (past : List Entry) (task : Task) : Type 0 where
  pub call : task.call ≡ number
  pub piece : task.piece ≡ 0
  pub least : 1 ≤ number
  pub most : number ≤ length script.calls
  pub begun : begin_of script number 0 past ≡ Some (Opening task)

module _ (script : Script) (number : ℕ) (past : List Entry) (task : Task) (begun : IsBegun script number past task) (going : Going script number [] past) where
  going-opened : Going script number (Begins 0 (open_count past) ∷ []) (open_entry past task ∷ past)
  going-opened =
      subst (λ (piece : ℕ). Going script number (Begins piece (open_count past) ∷ []) (open_entry past task ∷ past)) begun.piece
      (going-more script number [] past (open_entry past task) going (ap Some begun.call) begun.least begun.most
      (ap (λ n. begin_of script n task.piece past) begun.call ∙ ap (λ n. begin_of script number n past) begun.piece ∙ begun.begun))

  pub going-read : (s : Setting) (cdb : Cdb) →
      Going script number (Begins 0 (open_count past) ∷ Ends (open_count past) Done ∷ []) (read_entries s past task cdb)
  going-read s cdb =
      let c : ℕ = open_count past in
      let e1 : Entry = open_entry past task in
      let e2 : Entry = fetch_entry s past task cdb in
      let e3 : Entry = close_read_entry past task in
      let of1 : call_of_command c (e1 ∷ past) ≡ Some number = call-opened past task ∙ ap Some begun.call in
      let of2 : call_of_command c (e2 ∷ e1 ∷ past) ≡ Some number = call-behind c e2 (e1 ∷ past) refl ∙ of1 in
      going-more script number (Begins 0 c ∷ []) (e2 ∷ e1 ∷ past) e3
      (going-more script number (Begins 0 c ∷ []) (e1 ∷ past) e2 going-opened of1 begun.least begun.most tt)
      of2 begun.least begun.most tt

  pub going-update : (s : Setting) (diff take fold : Cdb) →
      Going script number (Begins 0 (open_count past) ∷ Ends (open_count past) Done ∷ []) (update_entries s past task diff take fold)
  going-update s diff take fold =
      let c : ℕ = open_count past in
      let e1 : Entry = open_entry past task in
      let e2 : Entry = diff_entry past task diff in
      let e3 : Entry = take_entry s past task take in
      let e4 : Entry = fold_entry s past task fold in
      let e5 : Entry = close_update_entry past task in
      let of1 : call_of_command c (e1 ∷ past) ≡ Some number = call-opened past task ∙ ap Some begun.call in
      let of2 : call_of_command c (e2 ∷ e1 ∷ past) ≡ Some number = call-behind c e2 (e1 ∷ past) refl ∙ of1 in
      let of3 : call_of_command c (e3 ∷ e2 ∷ e1 ∷ past) ≡ Some number = call-behind c e3 (e2 ∷ e1 ∷ past) refl ∙ of2 in
      let of4 : call_of_command c (e4 ∷ e3 ∷ e2 ∷ e1 ∷ past) ≡ Some number = call-behind c e4 (e3 ∷ e2 ∷ e1 ∷ past) refl ∙ of3 in
      going-more script number (Begins 0 c ∷ []) (e4 ∷ e3 ∷ e2 ∷ e1 ∷ past) e5
      (going-more script number (Begins 0 c ∷ []) (e3 ∷ e2 ∷ e1 ∷ past) e4
      (going-more script number (Begins 0 c ∷ []) (e2 ∷ e1 ∷ past) e3
      (going-more script number (Begins 0 c ∷ []) (e1 ∷ past) e2 going-opened of1 begun.least begun.most tt)
      of2 begun.least begun.most tt)
      of3 begun.least begun.most tt)
      of4 begun.least begun.most tt
