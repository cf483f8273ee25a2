-- Calls that are new to some entries.
use Rattle.std.specs.Prelude.{◌≡◌, ◌==◌, ℕ, Bool, true, false, List, [], ◌∷◌, ◌++◌, Some}
use Rattle.std.proofs.Common.{refl, ap, ◌∙◌, cond, subst}
use Rattle.std.proofs.lemmas.Bool.{or_parts, eq-eqb, both_ways}
use Rattle.array_journal.specs.declared.at.At.{At}
use Rattle.array_journal.specs.declared.entry.Entry.{Entry}
use Rattle.array_journal.specs.declared.event.Event.{Event}
use Rattle.array_journal.specs.declared.event.Event.TheVariants.{Fetch, Put, Diff, Take, Fold, Hold, Shut, Gone, Wiped, Fresh, Open, Close, Spoil, Note, Swap, Refuse}
use Rattle.array_journal.specs.declared.task.Task.{Task}
use Rattle.array_journal.specs.Entries.{entry_at, same_at, name_of}
use Rattle.array_journal.specs.OwnEntries.{OfCall, carries, mine}
use Rattle.array_journal.specs.Calls.{is_of_call, IsNewCall, NewToBoth, NewCallsHaveNothing}

new-joined : (k : ℕ) (others past : List Entry) → IsNewCall k others → IsNewCall k past → IsNewCall k (others ++ past)
new-joined k [] past a b = b
new-joined k (e ∷ others) past a b = (a.0, new-joined k others past a.1 b)

new-parts : (k : ℕ) (others past : List Entry) → IsNewCall k (others ++ past) → IsNewCall k others × IsNewCall k past
new-parts k [] past a = (tt, a)
new-parts k (e ∷ others) past a = let rest = new-parts k others past a.1 in ((a.0, rest.0), rest.1)

pub new-to_both : NewToBoth
new-to_both k others past = (λ a. new-parts k others past a, λ a. new-joined k others past a.0 a.1)

-- what belongs to a call carries it
carried : (k : ℕ) (event : Event) → is_of_call k event ≡ false → carries (OfCall k) event ≡ false
carried k (Fresh call swap) h = (or_parts (call == k) false h).0
carried k (Swap slot call) h = (or_parts (call == k) false h).0
carried k (Refuse call piece why) h = (or_parts (call == k) false h).0
carried k (Fetch command opened cdb row bytes) h = refl
carried k (Put command opened cdb row bytes names) h = refl
carried k (Diff command opened cdb row bytes sent dropped back) h = refl
carried k (Take command opened cdb row bytes) h = refl
carried k (Fold command opened cdb row bytes names) h = refl
carried k (Hold command opened cdb row bytes kept names back) h = refl
carried k (Shut command opened acted lost) h = refl
carried k (Gone life call commands) h = refl
carried k (Wiped what call commands) h = refl
carried k (Open command task) h = refl
carried k (Close command done names cause bytes) h = refl
carried k (Spoil command diff loss shut) h = refl
carried k (Note slot lost) h = refl

none-mine : (k : ℕ) (entries : List Entry) → IsNewCall k entries → mine (OfCall k) entries ≡ []
none-mine k [] h = refl
none-mine k (e ∷ entries) h =
    ap (λ b. cond b (e ∷ mine (OfCall k) entries) (mine (OfCall k) entries)) (carried k e.event h.0) ∙ none-mine k entries h.1

none-opened : (k : ℕ) (opened : At) (c : ℕ) (task : Task) (entries : List Entry) → IsNewCall k entries → entry_at opened entries ≡ Some (Open c task) → task.call ≡ k → ⊥
none-opened k opened c task [] h q same = cc
none-opened k opened c task (e ∷ entries) h q same = choose (same_at opened (name_of e)) (none-opened k opened c task entries h.1) q
  where
    choose : (b : Bool) → (entry_at opened entries ≡ Some (Open c task) → task.call ≡ k → ⊥) → cond b (Some e.event) (entry_at opened entries) ≡ Some (Open c task) → ⊥
    choose false rest p = rest p same
    choose true rest p =
        let its : e.event ≡ Open c task = one e.event (Open c task) p in
        both_ways (task.call == k) (or_parts false (task.call == k) (subst (λ (x : Event). is_of_call k x ≡ false) its h.0)).1 (eq-eqb task.call k same)
      where
        one : (x y : Event) → Some x ≡ Some y → x ≡ y
        one x y r = cc

pub new-calls_have_nothing : NewCallsHaveNothing
new-calls_have_nothing k entries h = record {
  no_entries = none-mine k entries h;
  no_commands = λ opened c task q same. none-opened k opened c task entries h q same;
}
