-- What is known of commands, kept over one more entry.
use Rattle.std.proofs.Common.{◌≡◌, ℕ, ◌+◌, suc, Bool, true, false, not, List, [], ◌∷◌, ◌++◌, Option, Some, refl, sym, ap, ◌∙◌, cond, length, arith, inl, inr}
use Rattle.std.specs.Prelude.{◌==◌, ◌&&◌, ◌||◌, filter}
use Rattle.std.proofs.lemmas.Bool.{cases_eq, eq-eqb, ne_eqb}
use Rattle.std.proofs.lemmas.List.{append-nil}
use Rattle.std.proofs.lemmas.List.Elements.{filter-append}
use Rattle.array_journal.specs.declared.entry.Entry.{Entry}
use Rattle.array_journal.specs.declared.event.Event.{Event}
use Rattle.array_journal.specs.declared.event.Event.TheVariants.{Open}
use Rattle.array_journal.specs.Commands.{open_count, ends_command}
use Rattle.array_journal.specs.Entries.{some_at}
use Rattle.array_journal.specs.Lives.{closes_done}
use Rattle.array_book.specs.declared.commands.openings.Openings.{Openings}
use Rattle.array_book.specs.declared.commands.endings.Endings.{Endings}
use Rattle.array_book.specs.declared.commands.open_commands.OpenCommand.{OpenCommand}
use Rattle.array_book.specs.declared.commands.open_commands.OpenCommands.{OpenCommands}
use Rattle.array_book.specs.CommandSteps.{CommandStep}
use Rattle.array_book.specs.CommandSteps.{Opens, Ends, Neither}
use Rattle.array_book.specs.CommandSteps.{step_of}
use Rattle.array_book.specs.Numbered.{value_of}
use Rattle.array_book.specs.Openings.{KeepsOpenings, opening_place}
use Rattle.array_book.specs.Endings.{KeepsEndings, has_ended_in, is_done_in}
use Rattle.array_book.specs.OpenCommands.{KeepsOpen, has_ended, open_by, open_in}
use Rattle.array_book.proofs.StepLaws.{is_opening, opens_so, ends_so, done_so, stands_so, opening_place-step, open_count-step, ended-step, done-step, open_in-step}

-- openings, after a step that opens none
pub openings-kept : (step : CommandStep) (e : Entry) (past : List Entry) (part : Openings) → step_of e ≡ step →
    ((c : ℕ) → opens_so c step ≡ false) → is_opening step ≡ false → KeepsOpenings past part → KeepsOpenings (e ∷ past) part
openings-kept step e past part is none quiet keeps = record {
  places = λ c. keeps.places c
      ∙ sym (opening_place-step c e past ∙ ap (λ (b : Bool). cond b (Some (length past)) (opening_place c past)) (ap (opens_so c) is ∙ none c));
  counted = keeps.counted
      ∙ sym (open_count-step e past ∙ ap (λ (b : Bool). cond b (suc (open_count past)) (open_count past)) (ap is_opening is ∙ quiet));
}

-- openings, after one more
pub openings-more : (command place : ℕ) (e : Entry) (past : List Entry) (old new : Openings) → step_of e ≡ Opens command → length past ≡ place →
    ((c : ℕ) → value_of new.places c ≡ cond (command == c) (Some place) (value_of old.places c)) → new.count ≡ old.count + 1 →
    KeepsOpenings past old → KeepsOpenings (e ∷ past) new
openings-more command place e past old new is at places count keeps = record {
  places = λ c. places c ∙ ap (λ (o : Option ℕ). cond (command == c) (Some place) o) (keeps.places c)
      ∙ ap (λ (n : ℕ). cond (command == c) (Some n) (opening_place c past)) (sym at)
      ∙ sym (opening_place-step c e past ∙ ap (λ (b : Bool). cond b (Some (length past)) (opening_place c past)) (ap (opens_so c) is));
  counted =
      let so : open_count (e ∷ past) ≡ suc (open_count past) =
      open_count-step e past ∙ ap (λ (b : Bool). cond b (suc (open_count past)) (open_count past)) (ap is_opening is) in
      let before : old.count ≡ open_count past = keeps.counted in omega arith;
}

-- ends, after a step that ends none
pub endings-kept : (step : CommandStep) (e : Entry) (past : List Entry) (part : Endings) → step_of e ≡ step →
    ((c : ℕ) → ends_so c step ≡ false) → ((c : ℕ) → done_so c step ≡ false) → KeepsEndings past part → KeepsEndings (e ∷ past) part
endings-kept step e past part is none quiet keeps = record {
  ended = λ c. keeps.ended c
      ∙ sym (ended-step c e past ∙ ap (λ (b : Bool). b || some_at 0 (ends_command c) past) (ap (ends_so c) is ∙ none c));
  done = λ c. keeps.done c
      ∙ sym (done-step c e past ∙ ap (λ (b : Bool). b || some_at 0 (closes_done c) past) (ap (done_so c) is ∙ quiet c));
}

-- ends that are kept otherwise
pub endings-same : (past : List Entry) (old new : Endings) → ((c : ℕ) → has_ended_in new c ≡ has_ended_in old c) →
    ((c : ℕ) → is_done_in new c ≡ is_done_in old c) → KeepsEndings past old → KeepsEndings past new
endings-same past old new ended done keeps = record {
  ended = λ c. ended c ∙ keeps.ended c;
  done = λ c. done c ∙ keeps.done c;
}

-- ends, after one more
pub endings-more : (command : ℕ) (done : Bool) (e : Entry) (past : List Entry) (old new : Endings) → step_of e ≡ Ends command done →
    ((c : ℕ) → has_ended_in new c ≡ ((command == c) || has_ended_in old c)) →
    ((c : ℕ) → is_done_in new c ≡ ((done && (command == c)) || is_done_in old c)) →
    KeepsEndings past old → KeepsEndings (e ∷ past) new
endings-more command done e past old new is ended closed keeps = record {
  ended = λ c. ended c ∙ ap (λ (b : Bool). (command == c) || b) (keeps.ended c)
      ∙ sym (ended-step c e past ∙ ap (λ (b : Bool). b || some_at 0 (ends_command c) past) (ap (ends_so c) is));
  done = λ c. closed c ∙ ap (λ (b : Bool). (done && (command == c)) || b) (keeps.done c)
      ∙ sym (done-step c e past ∙ ap (λ (b : Bool). b || some_at 0 (closes_done c) past) (ap (done_so c) is));
}

-- the openings that stand hang only on which commands ended
open_by-alike : (f g : ℕ → Bool) → ((c : ℕ) → f c ≡ g c) → (place : ℕ) (event : Event) → open_by f place event ≡ open_by g place event
open_by-alike f g same place (Open command task) = ap (λ (b : Bool). cond b [] (record { command = command; place = place } ∷ [])) (same command)
open_by-alike f g same place event = refl

pub open_in-alike : (f g : ℕ → Bool) → ((c : ℕ) → f c ≡ g c) → (past : List Entry) → open_in f past ≡ open_in g past
open_in-alike f g same [] = refl
open_in-alike f g same (e ∷ past) =
    ap (λ xs. xs ++ cond (e.lock == 0) (open_by f (length past) e.event) []) (open_in-alike f g same past)
    ∙ ap (λ ys. open_in g past ++ cond (e.lock == 0) ys []) (open_by-alike f g same (length past) e.event)

-- an opening is of another command
abbrev pub is_of_other : ℕ → OpenCommand → Bool
is_of_other command s = not (s.command == command)

eqb-sym : (a b : ℕ) → (a == b) ≡ (b == a)
eqb-sym a b = elim (cases_eq a b) [
  | inl same ↦ eq-eqb a b same ∙ sym (eq-eqb b a (sym same))
  | inr apart ↦ ne_eqb a b apart ∙ sym (ne_eqb b a (λ q. apart (sym q)))
]

-- once one more command ended, its openings are taken out
open_by-ended : (command : ℕ) (f : ℕ → Bool) (place : ℕ) (event : Event) →
    open_by (λ c. (command == c) || f c) place event ≡ filter (is_of_other command) (open_by f place event)
open_by-ended command f place (Open n task) = taken (command == n) (f n) (eqb-sym command n)
  where
    taken : (a b : Bool) → a ≡ (n == command) →
        cond (a || b) [] (record { command = n; place = place } ∷ []) ≡ filter (is_of_other command) (cond b [] (record { command = n; place = place } ∷ []))
    taken true true same = refl
    taken true false same = ap (λ (x : Bool). cond (not x) (record { command = n; place = place } ∷ []) []) same
    taken false true same = refl
    taken false false same = ap (λ (x : Bool). cond (not x) (record { command = n; place = place } ∷ []) []) same
open_by-ended command f place event = refl

open_in-ended : (command : ℕ) (f : ℕ → Bool) (past : List Entry) →
    open_in (λ c. (command == c) || f c) past ≡ filter (is_of_other command) (open_in f past)
open_in-ended command f [] = refl
open_in-ended command f (e ∷ past) =
    ap (λ xs. xs ++ cond (e.lock == 0) (open_by (λ c. (command == c) || f c) (length past) e.event) []) (open_in-ended command f past)
    ∙ ap (λ ys. filter (is_of_other command) (open_in f past) ++ ys)
    (chosen (e.lock == 0) _ _ (open_by-ended command f (length past) e.event))
    ∙ sym (filter-append (is_of_other command) (open_in f past) (cond (e.lock == 0) (open_by f (length past) e.event) []))
  where
    chosen : (b : Bool) (xs ys : List OpenCommand) → xs ≡ filter (is_of_other command) ys → cond b xs [] ≡ filter (is_of_other command) (cond b ys [])
    chosen true xs ys same = same
    chosen false xs ys same = refl

-- the openings that stand, after an entry that opens and ends none
pub open_commands-kept : (e : Entry) (past : List Entry) (part : OpenCommands) → step_of e ≡ Neither → KeepsOpen past part → KeepsOpen (e ∷ past) part
open_commands-kept e past part is keeps =
    keeps
    ∙ open_in-alike (has_ended past) (has_ended (e ∷ past)) (λ c. sym (ended-none e past is c)) past
    ∙ sym (append-nil _)
    ∙ sym (open_in-step (has_ended (e ∷ past)) e past
    ∙ ap (λ step. open_in (has_ended (e ∷ past)) past ++ stands_so (has_ended (e ∷ past)) (length past) step) is)
  where
    ended-none : (e : Entry) (past : List Entry) → step_of e ≡ Neither → (c : ℕ) → has_ended (e ∷ past) c ≡ has_ended past c
    ended-none e past is c = ended-step c e past ∙ ap (λ step. ends_so c step || has_ended past c) is

-- after an opening
pub open_commands-more : (command place : ℕ) (e : Entry) (past : List Entry) (old new : OpenCommands) → step_of e ≡ Opens command → length past ≡ place →
    new.openings.items ≡ old.openings.items ++ cond (has_ended past command) [] (record { command = command; place = place } ∷ []) →
    KeepsOpen past old → KeepsOpen (e ∷ past) new
open_commands-more command place e past old new is at more keeps =
    more
    ∙ ap (λ xs. xs ++ cond (has_ended past command) [] (record { command = command; place = place } ∷ []))
    (keeps ∙ open_in-alike (has_ended past) (has_ended (e ∷ past)) (λ c. sym (as-before c)) past)
    ∙ ap (λ (n : ℕ). open_in (has_ended (e ∷ past)) past ++ cond (has_ended past command) [] (record { command = command; place = n } ∷ [])) (sym at)
    ∙ ap (λ (b : Bool). open_in (has_ended (e ∷ past)) past ++ cond b [] (record { command = command; place = length past } ∷ [])) (sym (as-before command))
    ∙ sym (open_in-step (has_ended (e ∷ past)) e past
    ∙ ap (λ step. open_in (has_ended (e ∷ past)) past ++ stands_so (has_ended (e ∷ past)) (length past) step) is)
  where
    as-before : (c : ℕ) → has_ended (e ∷ past) c ≡ has_ended past c
    as-before c = ended-step c e past ∙ ap (λ step. ends_so c step || has_ended past c) is

-- after an end
pub open_commands-fewer : (command : ℕ) (done : Bool) (e : Entry) (past : List Entry) (old new : OpenCommands) → step_of e ≡ Ends command done →
    new.openings.items ≡ filter (is_of_other command) old.openings.items → KeepsOpen past old → KeepsOpen (e ∷ past) new
open_commands-fewer command done e past old new is fewer keeps =
    fewer
    ∙ ap (filter (is_of_other command)) keeps
    ∙ sym (open_in-ended command (has_ended past) past)
    ∙ open_in-alike (λ c. (command == c) || has_ended past c) (has_ended (e ∷ past)) (λ c. sym (one-more c)) past
    ∙ sym (append-nil _)
    ∙ sym (open_in-step (has_ended (e ∷ past)) e past
    ∙ ap (λ step. open_in (has_ended (e ∷ past)) past ++ stands_so (has_ended (e ∷ past)) (length past) step) is)
  where
    one-more : (c : ℕ) → has_ended (e ∷ past) c ≡ ((command == c) || has_ended past c)
    one-more c = ended-step c e past ∙ ap (λ step. ends_so c step || has_ended past c) is
