-- A call that fails a test is refused by the book: by one entry, which is its only one.
use Rattle.std.specs.Prelude.{◌≡◌, ◌++◌, ◌+◌, ◌||◌, max, ℕ, Bool, false, List, [], ◌∷◌}
use Rattle.std.proofs.Common.{refl, ap, sym, ◌∙◌, subst, inl}
use Rattle.std.proofs.lemmas.Bool.{ne_eqb}
use Rattle.std.proofs.lemmas.List.{append_cancel_right}
use Rattle.sense_data.specs.declared.senses.Sense.{Sense}
use Rattle.array_journal.specs.declared.at.At.{At}
use Rattle.array_journal.specs.declared.decision.Decision.TheVariants.{Refuses}
use Rattle.array_journal.specs.declared.entry.Entry.{Entry}
use Rattle.array_journal.specs.declared.event.Event.TheVariants.{Refuse}
use Rattle.array_journal.specs.declared.event.Why.{Why}
use Rattle.array_journal.specs.declared.event.Why.TheVariants.{Illegal}
use Rattle.array_journal.specs.Calls.{IsNewCall}
use Rattle.array_journal.specs.Run.{Grows}
use Rattle.array_book.specs.declared.asks.Ask.{Ask}
use Rattle.array_book.specs.declared.asks.Want.TheVariants as asks
use Rattle.array_book.specs.declared.answers.Begun.{Begun}
use Rattle.array_book.specs.declared.answers.Begun.TheVariants as answers
use Rattle.array_book.specs.BookAnswers.{HasBegun, HasRefused}
use Rattle.array_book.specs.Ledgers.{Ledger, book_entry, newest_stamp}
use Rattle.host_requests.specs.Requests.{Fails}
use Rattle.xor_target.specs.Logs.{last_stamp}
use Rattle.unit_plans.specs.declared.acts.BookAct.TheVariants.{Begin}
use Rattle.unit_plans.specs.declared.acts.BookActed.{BookActed}
use Rattle.unit_plans.specs.declared.acts.BookActed.TheVariants.{Begun as Booked}
use Rattle.unit_plans.specs.Buses.{BusSetting}
use Rattle.unit_plans.specs.Effects.{IsDoneInBook}
use Rattle.unit_plans.specs.Follows.{IsUndisturbed}
use Rattle.array_control.specs.Arrays.{HasGrownBy, IsCalm}
use Rattle.array_control.specs.Progress.{IsRefused}
use Rattle.array_control.proofs.Beginning.{calm-grown}
use Rattle.array_control.proofs.Progress.{illegal-ends}

-- what the book is asked about a call that fails a test
abbrev pub ask_to_refuse : ℕ → Sense → Ask
ask_to_refuse n sense = record { call = n; piece = 0; want = asks.Illegal sense }

-- the book has refused it
module _ (alone reliable : Bool) (b : BusSetting) (n : ℕ) (told sense : Sense) (answer : Begun) (acted : BookActed) (journal made now now_made : List Entry) (at : At) (why : Why) (same : told ≡ sense) (booked : acted ≡ Booked answer) (is : answer ≡ answers.Refused at why) (done : IsDoneInBook alone b (Begin (ask_to_refuse n told)) acted journal made now now_made) (calm : IsCalm alone reliable b journal) where
  abbrev d : IsDoneInBook alone b (Begin (ask_to_refuse n told)) (Booked answer) journal made now now_made
  d = subst (λ (x : BookActed). IsDoneInBook alone b (Begin (ask_to_refuse n told)) x journal made now now_made) booked done

  refused : HasRefused d.book (ask_to_refuse n told) (last_stamp journal) d.after at why
  refused = subst (λ (x : Begun). HasBegun d.book (ask_to_refuse n told) (last_stamp journal) d.after x) is d.does.0

  -- it is refused for the test that it fails
  for-test : why ≡ Illegal sense
  for-test = let so : Refuses (Illegal told) ≡ Refuses why = refused.decided_so in cc

  abbrev entry : Entry
  entry = book_entry (max (newest_stamp d.book.past) (last_stamp journal) + 1) (Refuse n 0 (Illegal sense))

  grown : d.after.past ≡ entry ∷ d.book.past
  grown =
      ap (λ (l : Ledger). l.past) refused.made
      ∙ ap (λ (w : Why). book_entry (max (newest_stamp d.book.past) (last_stamp journal) + 1) (Refuse n 0 w) ∷ d.book.past) for-test

  one : d.entries ≡ entry ∷ []
  one = append_cancel_right d.entries (entry ∷ []) d.book.past (sym d.grown ∙ grown)

  refused-now : now ≡ entry ∷ journal
  refused-now =
      d.come.alone_after calm.is_alone
      ∙ ap (λ (over : List Entry). d.entries ++ over) (d.come.at_once calm.is_alone)
      ∙ ap (λ (entries : List Entry). entries ++ journal) one

  -- the refusal is of this call
  pub refused-grown : HasGrownBy b n (Fails sense) journal now
  refused-grown = record {
    entry = entry;
    newest = refused-now;
    is_for = record { of_this = inl refl; own = λ k other. ap (λ x. x || false) (ne_eqb n k (λ equal. other (sym equal))); begun = refl };
  }

  -- and its only entry
  pub refused-ends : IsNewCall n journal → IsRefused b.array.geometry n sense now
  refused-ends new = subst (IsRefused b.array.geometry n sense) (sym refused-now) (illegal-ends b.array.geometry n sense entry journal new refl)

  pub refused-calm : Grows b.array now → IsCalm alone reliable b now
  refused-calm runs = calm-grown alone reliable b journal now calm runs (subst IsUndisturbed (sym refused-now) (refl, calm.undisturbed))
