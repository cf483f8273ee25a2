-- What is asked of one event, by the names that the program has for these questions.
use Rattle.std.specs.Prelude.{Bool}
use Rattle.array_journal.specs.declared.event.Event.{Event}
use Rattle.array_journal.specs.Acts.{is_act}
use Rattle.array_journal.specs.May.{is_loss_in, shuts_idle, is_wipe_of, is_dropped_diff, discards}
use Rattle.run_check.specs.declared.questions.Question.{Question}
use Rattle.run_check.specs.declared.questions.Question.TheVariants.{IsAct, ShutsIdle, IsLossIn, IsWipeOf, Discards, IsDroppedDiff}

-- what a question asks
abbrev pub test_of : Question → Event → Bool
test_of (IsAct act c) = is_act act c
test_of (ShutsIdle c) = shuts_idle c
test_of (IsLossIn life) = is_loss_in life
test_of (IsWipeOf c) = is_wipe_of c
test_of (Discards c) = discards c
test_of (IsDroppedDiff c) = is_dropped_diff c
