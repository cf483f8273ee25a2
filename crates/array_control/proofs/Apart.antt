-- Entries of other calls than a given one.
use Rattle.std.specs.Prelude.{◌≡◌, ◌++◌, ◌⊎◌, ℕ, true, false, List, [], ◌∷◌, Some, None, option_map}
use Rattle.std.proofs.Common.{ap, ◌∙◌, inl, inr}
use Rattle.std.proofs.lemmas.Bool.{eqb-true, ne_eqb}
use Rattle.array_journal.specs.declared.entry.Entry.{Entry}
use Rattle.array_journal.specs.declared.event.Event.{Event}
use Rattle.array_journal.specs.declared.event.Event.TheVariants.{Close, Spoil}
use Rattle.array_journal.specs.declared.setting.Setting.{Setting}
use Rattle.array_journal.specs.declared.task.Task.{Task}
use Rattle.array_journal.specs.Commands.{ends_command, task_of}
use Rattle.array_journal.specs.Run.{Grows}
use Rattle.array_journal.proofs.runs.CommandLaws.{task-opened, opened-once, task_of-more}
use Rattle.stripe_check.specs.Steps.{call_of, call_of_command, is_call}
use Rattle.array_control.specs.ApartLaws.{CallsAreApart, CommandsHaveTheirCall, NoneOpensAgain}
use Rattle.array_control.proofs.Progress.{doing-call}

pub calls-apart : CallsAreApart
calls-apart m n [] past other h = tt
calls-apart m n (e ∷ entries) past other h = (by h.0, calls-apart m n entries past other h.1)
  where
    by : (call_of e.event (entries ++ past) ≡ Some m) ⊎ (call_of e.event (entries ++ past) ≡ None) → is_call n (call_of e.event (entries ++ past)) ≡ false
    by (inl its) = ap (is_call n) its ∙ ne_eqb m n other
    by (inr none) = ap (is_call n) none

ending-call : (c : ℕ) (event : Event) (past : List Entry) → ends_command c event ≡ true → call_of event past ≡ call_of_command c past
ending-call c (Close command done names cause bytes) past h = ap (λ d. call_of_command d past) (eqb-true command c h)
ending-call c (Spoil command diff loss shut) past h = ap (λ d. call_of_command d past) (eqb-true command c h)
ending-call c _ past h = cc

pub commands-call : CommandsHaveTheirCall
commands-call c task e past its (inl does) = doing-call c e.event past does ∙ ap (option_map (λ (t : Task). t.call)) its
commands-call c task e past its (inr ends) = ending-call c e.event past ends ∙ ap (option_map (λ (t : Task). t.call)) its

-- its task stays
task-stays : (s : Setting) (c : ℕ) (task : Task) (others past : List Entry) → Grows s (others ++ past) → task_of c past ≡ Some task →
    task_of c (others ++ past) ≡ Some task
task-stays s c task [] past grows its = its
task-stays s c task (e ∷ others) past grows its = task_of-more s c e (others ++ past) task grows.1 grows.0.1 (task-stays s c task others past grows.1 its)

pub none-again : NoneOpensAgain
none-again s c task [] past grows its = tt
none-again s c task (e ∷ others) past grows its =
    let known : task_of c (others ++ past) ≡ Some task = task-stays s c task others past grows.1 its in (
      λ book. opened-once s c e (others ++ past) grows.1 grows.0.1 book (task-opened c (others ++ past) task known),
      none-again s c task others past grows.1 its,
    )
