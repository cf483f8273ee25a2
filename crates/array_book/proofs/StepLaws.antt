-- How definitions of commands go over one more entry, by what it does to commands.
use Rattle.std.proofs.Common.{◌≡◌, ℕ, suc, Bool, true, false, List, [], ◌∷◌, ◌++◌, Some, refl, ap, cond, length}
use Rattle.std.specs.Prelude.{◌==◌, ◌&&◌, ◌||◌}
use Rattle.array_journal.specs.declared.entry.Entry.{Entry}
use Rattle.array_journal.specs.declared.event.Event.{Event}
use Rattle.array_journal.specs.declared.event.Event.TheVariants.{Open, Close, Spoil}
use Rattle.array_journal.specs.Commands.{opens, opens_command, ends_command, open_count}
use Rattle.array_journal.specs.Entries.{some_at}
use Rattle.array_journal.specs.Lives.{closes_done}
use Rattle.array_book.specs.declared.commands.open_commands.OpenCommand.{OpenCommand}
use Rattle.array_book.specs.CommandSteps.{CommandStep}
use Rattle.array_book.specs.CommandSteps.{Opens, Ends, Neither}
use Rattle.array_book.specs.CommandSteps.{step_by, step_of}
use Rattle.array_book.specs.Openings.{opening_place}
use Rattle.array_book.specs.OpenCommands.{open_by, open_in}

-- the step opens some command
abbrev pub is_opening : CommandStep → Bool
is_opening (Opens command) = true
is_opening _ = false

-- it opens this one
abbrev pub opens_so : ℕ → CommandStep → Bool
opens_so c (Opens command) = command == c
opens_so c _ = false

-- it ends this one
abbrev pub ends_so : ℕ → CommandStep → Bool
ends_so c (Ends command done) = command == c
ends_so c _ = false

-- it closes this one as done
abbrev pub done_so : ℕ → CommandStep → Bool
done_so c (Ends command done) = done && (command == c)
done_so c _ = false

-- the opening that it is, where the command didn't end
abbrev pub stands_so : (ℕ → Bool) → ℕ → CommandStep → List OpenCommand
stands_so ended place (Opens command) = cond (ended command) [] (record { command = command; place = place } ∷ [])
stands_so ended place _ = []

opening-is : (book : Bool) (event : Event) → (book && opens event) ≡ is_opening (cond book (step_by event) Neither)
opening-is true (Open command task) = refl
opening-is true (Close command done names cause bytes) = refl
opening-is true (Spoil command diff loss shut) = refl
opening-is true event = refl
opening-is false event = refl

opens-is : (c : ℕ) (book : Bool) (event : Event) → (book && opens_command c event) ≡ opens_so c (cond book (step_by event) Neither)
opens-is c true (Open command task) = refl
opens-is c true (Close command done names cause bytes) = refl
opens-is c true (Spoil command diff loss shut) = refl
opens-is c true event = refl
opens-is c false event = refl

ends-is : (c : ℕ) (book : Bool) (event : Event) → (book && ends_command c event) ≡ ends_so c (cond book (step_by event) Neither)
ends-is c true (Open command task) = refl
ends-is c true (Close command done names cause bytes) = refl
ends-is c true (Spoil command diff loss shut) = refl
ends-is c true event = refl
ends-is c false event = refl

done-is : (c : ℕ) (book : Bool) (event : Event) → (book && closes_done c event) ≡ done_so c (cond book (step_by event) Neither)
done-is c true (Open command task) = refl
done-is c true (Close command true names cause bytes) = refl
done-is c true (Close command false names cause bytes) = refl
done-is c true (Spoil command diff loss shut) = refl
done-is c true event = refl
done-is c false event = refl

stands-is : (ended : ℕ → Bool) (place : ℕ) (book : Bool) (event : Event) →
    cond book (open_by ended place event) [] ≡ stands_so ended place (cond book (step_by event) Neither)
stands-is ended place true (Open command task) = refl
stands-is ended place true (Close command done names cause bytes) = refl
stands-is ended place true (Spoil command diff loss shut) = refl
stands-is ended place true event = refl
stands-is ended place false event = refl

pub opening_place-step : (c : ℕ) (e : Entry) (past : List Entry) →
    opening_place c (e ∷ past) ≡ cond (opens_so c (step_of e)) (Some (length past)) (opening_place c past)
opening_place-step c e past = ap (λ b. cond b (Some (length past)) (opening_place c past)) (opens-is c (e.lock == 0) e.event)

pub open_count-step : (e : Entry) (past : List Entry) →
    open_count (e ∷ past) ≡ cond (is_opening (step_of e)) (suc (open_count past)) (open_count past)
open_count-step e past = ap (λ b. cond b (suc (open_count past)) (open_count past)) (opening-is (e.lock == 0) e.event)

pub ended-step : (c : ℕ) (e : Entry) (past : List Entry) →
    some_at 0 (ends_command c) (e ∷ past) ≡ (ends_so c (step_of e) || some_at 0 (ends_command c) past)
ended-step c e past = ap (λ b. b || some_at 0 (ends_command c) past) (ends-is c (e.lock == 0) e.event)

pub done-step : (c : ℕ) (e : Entry) (past : List Entry) →
    some_at 0 (closes_done c) (e ∷ past) ≡ (done_so c (step_of e) || some_at 0 (closes_done c) past)
done-step c e past = ap (λ b. b || some_at 0 (closes_done c) past) (done-is c (e.lock == 0) e.event)

pub open_in-step : (ended : ℕ → Bool) (e : Entry) (past : List Entry) →
    open_in ended (e ∷ past) ≡ open_in ended past ++ stands_so ended (length past) (step_of e)
open_in-step ended e past = ap (λ ys. open_in ended past ++ ys) (stands-is ended (length past) (e.lock == 0) e.event)
