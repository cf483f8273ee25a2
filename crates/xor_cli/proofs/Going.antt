-- How a journal that grows by the entries of one call after another, each of one piece, stays what its calls ask for.
use Rattle.std.specs.Prelude.{◌≡◌, ◌⊎◌, ◌==◌, ◌||◌, nat_le, ◌<◌, ◌≤◌, ℕ, suc, Bool, true, false, List, [], ◌∷◌, ◌++◌, length, cond, Some}
use Rattle.std.proofs.Common.{refl, ap, ◌∙◌, arith, inl, inr}
use Rattle.std.specs.List.{list_all}
use Rattle.std.proofs.lemmas.List.{append-nil}
use Rattle.std.proofs.lemmas.Bool.{eq-eqb, ne_eqb, and_from, and_parts, cases_lt}
use Rattle.std.proofs.lemmas.Bool.Decides.{nat_tests}
use Rattle.array_journal.specs.declared.entry.Entry.{Entry}
use Rattle.array_journal.specs.declared.event.Event.{Event}
use Rattle.array_journal.specs.declared.event.Event.TheVariants.{Gone, Note}
use Rattle.array_journal.specs.Entries.{name_of}
use Rattle.host_scripts.specs.declared.script.Script.{Script}
use Rattle.stripe_check.specs.Asked.{calls_seen, call_list, goes_back, is_owned, is_call_of, are_owned, IsDecided, AreDecided}
use Rattle.stripe_check.specs.Steps.{Step, Begins, Ends, Done, call_of, step_by, step_list, is_call, steps_of}

-- after some entries, calls before this number were served each by one piece, and of this one the steps so far were made
pub record Going (script : Script) (number : ℕ) (steps : List Step) (past : List Entry) : Type 0 where
  pub back : goes_back (calls_seen past) ≡ true
  pub seen : list_all (λ m. nat_le m number) (calls_seen past) ≡ true
  pub before : (n : ℕ) → 1 ≤ n → n < number → (c : ℕ) × (steps_of n past ≡ Begins 0 c ∷ Ends c Done ∷ [])
  pub own : steps_of number past ≡ steps
  pub later : (n : ℕ) → number < n → steps_of n past ≡ []
  pub decided : AreDecided script past
  pub owned : are_owned script past ≡ true

pub going-none : (script : Script) → Going script 1 [] []
going-none script = record {
  back = refl;
  seen = refl;
  before = λ n h k. absurd (none n h k);
  own = refl;
  later = λ n h. refl;
  decided = tt;
  owned = refl;
}
  where
    none : (n : ℕ) → 1 ≤ n → n < 1 → ⊥
    none n h k = omega arith

le-itself : (n : ℕ) → nat_le n n ≡ true
le-itself n = grind (arith, nat_tests)

le-next : (m n : ℕ) → nat_le m n ≡ true → nat_le m (suc n) ≡ true
le-next m n h = grind (arith, nat_tests)

-- an entry of a call of the script has an owner
owned-by : (script : Script) (event : Event) (past : List Entry) (number : ℕ) → call_of event past ≡ Some number → is_call_of script (Some number) ≡ true →
    is_owned script event past ≡ true
owned-by script (Note slot lost) past number h k = refl
owned-by script (Gone life call commands) past number h k = or-second (call == 0) (is_call_of script (Some call)) (ap (is_call_of script) h ∙ k)
  where
    or-second : (a b : Bool) → b ≡ true → (a || b) ≡ true
    or-second true b e = refl
    or-second false b e = e
owned-by script event past number h k = ap (is_call_of script) h ∙ k

is_call-of : (script : Script) (number : ℕ) → 1 ≤ number → number ≤ length script.calls → is_call_of script (Some number) ≡ true
is_call-of script number h k = and_from (nat_le 1 number) (nat_le number (length script.calls)) (to_le 1 number h) (to_le number (length script.calls) k)
  where
    to_le : (m n : ℕ) → m ≤ n → nat_le m n ≡ true
    to_le m n e = grind (arith, nat_tests)

-- the steps of another call stay as they were
steps-other : (n number : ℕ) (e : Entry) (past : List Entry) → call_of e.event past ≡ Some number → (number == n) ≡ false → steps_of n (e ∷ past) ≡ steps_of n past
steps-other n number e past h other =
    ap (λ x. steps_of n past ++ cond (is_call n x) (step_list (step_by e.event e.lock (name_of e))) []) h
    ∙ ap (λ b. steps_of n past ++ cond b (step_list (step_by e.event e.lock (name_of e))) []) other
    ∙ append-nil (steps_of n past)

-- one more entry of the call at work
pub going-more : (script : Script) (number : ℕ) (steps : List Step) (past : List Entry) (e : Entry) → Going script number steps past →
    call_of e.event past ≡ Some number → 1 ≤ number → number ≤ length script.calls → IsDecided script e.event past →
    Going script number (steps ++ step_list (step_by e.event e.lock (name_of e))) (e ∷ past)
going-more script number steps past e g h least most decided =
    let same : calls_seen (e ∷ past) ≡ number ∷ calls_seen past = ap (λ x. call_list x ++ calls_seen past) h in
    record {
      back = ap goes_back same ∙ and_from (list_all (λ m. nat_le m number) (calls_seen past)) (goes_back (calls_seen past)) g.seen g.back;
      seen = ap (list_all (λ m. nat_le m number)) same ∙ and_from (nat_le number number) (list_all (λ m. nat_le m number) (calls_seen past)) (le-itself number) g.seen;
      before = λ n one less. ((g.before n one less).0, steps-other n number e past h (ne_eqb number n (above n less)) ∙ (g.before n one less).1);
      own = ap (λ x. steps_of number past ++ cond (is_call number x) (step_list (step_by e.event e.lock (name_of e))) []) h
          ∙ ap (λ b. steps_of number past ++ cond b (step_list (step_by e.event e.lock (name_of e))) []) (eq-eqb number number refl)
          ∙ ap (λ l. l ++ step_list (step_by e.event e.lock (name_of e))) g.own;
      later = λ n less. steps-other n number e past h (ne_eqb number n (below n less)) ∙ g.later n less;
      decided = (decided, g.decided);
      owned = and_from (is_owned script e.event past) (are_owned script past) (owned-by script e.event past number h (is_call-of script number least most)) g.owned;
    }
  where
    above : (n : ℕ) → n < number → number ≡ n → ⊥
    above n less eq = omega arith

    below : (n : ℕ) → number < n → number ≡ n → ⊥
    below n less eq = omega arith

-- the next call
pub going-next : (script : Script) (number c : ℕ) (past : List Entry) → Going script number (Begins 0 c ∷ Ends c Done ∷ []) past → Going script (suc number) [] past
going-next script number c past g = record {
  back = g.back;
  seen = wider (calls_seen past) g.seen;
  before = λ n one less. by_place n one less (cases_lt n number);
  own = g.later (suc number) (omega arith);
  later = λ n less. g.later n (omega (arith, less));
  decided = g.decided;
  owned = g.owned;
}
  where
    wider : (l : List ℕ) → list_all (λ m. nat_le m number) l ≡ true → list_all (λ m. nat_le m (suc number)) l ≡ true
    wider [] h = refl
    wider (m ∷ l) h =
        let parts = and_parts (nat_le m number) (list_all (λ k. nat_le k number) l) h in
        and_from (nat_le m (suc number)) (list_all (λ k. nat_le k (suc number)) l) (le-next m number parts.0) (wider l parts.1)

    by_place : (n : ℕ) → 1 ≤ n → n < suc number → (n < number) ⊎ (number ≤ n) → (d : ℕ) × (steps_of n past ≡ Begins 0 d ∷ Ends d Done ∷ [])
    by_place n one less (inl below) = g.before n one below
    by_place n one less (inr above) = let same : n ≡ number = omega (arith, less, above) in (c, ap (λ m. steps_of m past) same ∙ g.own)
