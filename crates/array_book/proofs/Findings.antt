-- What the book finds over its own entries holds over each journal that has these at the book's lock.
use Rattle.std.proofs.Common.{◌≡◌, ◌==◌, ◌&&◌, ◌||◌, not, nat_lt, ℕ, Bool, true, false, [], ◌∷◌, refl, sym, ◌∙◌, subst, arith}
use Rattle.std.proofs.lemmas.Bool.{lt-ltb}
use Rattle.array_journal.specs.Commands.{opens}
use Rattle.array_journal.specs.Decision.{want_of}
use Rattle.array_journal.specs.Entries.{stamps_below}
use Rattle.array_journal.specs.Lives.{is_swap_of}
use Rattle.array_journal.specs.May.{is_loss_in}
use Rattle.array_journal.specs.Parts.{Named}
use Rattle.array_journal.proofs.runs.LaneLaws.{count_at-lane, is_unfitted-lane}
use Rattle.array_journal.proofs.runs.BookLanes.{decision-lane, conflict-lane, idle-lane, room-lane}
use Rattle.array_book.specs.Findings.{OpensAlike, SwapsAlike, NotesAlike, NewestIsGreatest}

pub opens-alike : OpensAlike
opens-alike s c task journal f = record {
  numbered = f.numbered ∙ sym (count_at-lane 0 opens journal);
  decided = decision-lane s (want_of task.kind) task.stripe task.target journal ∙ f.decided;
  alone = conflict-lane task journal ∙ f.alone;
  room = room-lane s task journal ∙ f.room;
}

pub swaps-alike : SwapsAlike
swaps-alike s slot journal m = record {
  known = is_unfitted-lane slot journal ∙ m.known;
  idle = idle-lane s slot journal ∙ m.idle;
}

pub notes-alike : NotesAlike
notes-alike slot life gone journal unknown in_life named = record {
  in_life = subst (λ (n : ℕ). Named journal gone (is_loss_in n)) (in_life ∙ sym (count_at-lane 0 (is_swap_of slot) journal)) named;
  not_known = is_unfitted-lane slot journal ∙ unknown;
}

pub newest-greatest : NewestIsGreatest
newest-greatest stamp [] order less = refl
newest-greatest stamp (e ∷ past) order less =
    let older : stamps_below 0 stamp past ≡ true = newest-greatest stamp past order.1.1 (omega (arith, order.1.0, less)) in
    both (e.lock == 0) (nat_lt e.stamp stamp) (stamps_below 0 stamp past) (lt-ltb e.stamp stamp less) older
  where
    both : (a b r : Bool) → b ≡ true → r ≡ true → ((not a || b) && r) ≡ true
    both true true true h k = refl
    both false true true h k = refl
    both a false r h k = absurd cc
    both a true false h k = absurd cc
