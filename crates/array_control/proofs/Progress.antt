-- How calls come through their pieces, entry by entry.
use Rattle.std.specs.Prelude.{◌≡◌, ◌<◌, ◌==◌, ◌++◌, ◌&&◌, nat_lt, ℕ, suc, Bool, true, false, List, [], ◌∷◌, Option, Some, None, cond, option_map}
use Rattle.std.proofs.Common.{refl, ap, sym, ◌∙◌, arith, inl, inr}
use Rattle.std.proofs.lemmas.List.{append-nil, append_assoc}
use Rattle.std.proofs.lemmas.Bool.{eq-eqb, eqb-true, lt-ltb, ne_eqb, cases_eq}
use Rattle.stripe_layout.specs.declared.geometry.Geometry.{Geometry}
use Rattle.array_journal.specs.declared.at.At.{At}
use Rattle.array_journal.specs.declared.entry.Entry.{Entry}
use Rattle.array_journal.specs.declared.event.Event.{Event}
use Rattle.array_journal.specs.declared.event.Event.TheVariants.{Fetch, Put, Diff, Take, Fold, Hold, Shut, Open, Close, Spoil, Refuse}
use Rattle.array_journal.specs.declared.event.Why.TheVariants.{Illegal}
use Rattle.array_journal.specs.declared.task.Task.{Task}
use Rattle.array_journal.specs.Commands.{task_of, task_given, first_task, opens_command}
use Rattle.array_journal.specs.Entries.{name_of}
use Rattle.array_journal.specs.Host.{HostItem, told_by, teller, teller_task, is_read, is_degraded_read, is_put_write, read_item, wrote_item}
use Rattle.stripe_check.specs.declared.failure.Failure.{Failure}
use Rattle.stripe_check.specs.declared.failure.Failure.TheVariants as failures
use Rattle.stripe_check.specs.Asked.{goes_through}
use Rattle.stripe_check.specs.Replies.{bytes_told, bytes_read, failure_of, first_failure, told_bytes, failure_by, spoilt_task, spoilt_command}
use Rattle.stripe_check.specs.Steps.{Step, Begins, Ends, Refused, Done, GivenUp, Spoilt, call_of, call_of_command, step_by, step_list, is_call, steps_of}
use Rattle.array_journal.proofs.runs.CommandLaws.{no_task}
use Rattle.array_control.specs.Progress.{IsServing, AreOfOthers, OpenNo, is_doing, bytes_by_act, bytes_by_close, AreDoings, bytes_by_acts}
use Rattle.array_control.specs.ProgressLaws.{WholePieceEnds, NewCallBegins, IllegalCallEnds, PieceBegins, ActsGoOn, PieceEnds, GivenUpPieceStays, SpoiltPieceEnds, RefusedPieceEnds, LastPieceEnds, OthersLeaveCalls}
use Rattle.array_control.proofs.Entries.{steps-by, told-by, failed-by, steps-other, told-other, failed-other, new-steps, new-told, new-failed}

pub new-begins : NewCallBegins
new-begins g n count past new = record {
  in_count = omega arith;
  steps = λ rest. ap (λ (steps : List Step). goes_through true count 0 0 (steps ++ rest)) (new-steps n past new);
  told = new-told g n past new;
  unfailed = new-failed n past new;
}

pub same-call : (n m : ℕ) → m ≡ n → (m == n) ≡ true
same-call n m q = eq-eqb m n q

pub illegal-ends : IllegalCallEnds
illegal-ends g n sense e past new q = record {
  steps = steps-by n e past _ q (same-call n n refl) ∙ ap (λ (steps : List Step). steps ++ Refused 0 (Illegal sense) ∷ []) (new-steps n past new);
  told = told-by g n e past _ q ∙ append-nil (bytes_read g n past) ∙ new-told g n past new;
  failed = failed-by n e past _ q ∙ ap (λ b. first_failure (cond b (Some (failures.Refused (Illegal sense))) None) (failure_of n past)) (same-call n n refl);
}

-- steps that come after others
pub joined : (fatal : Bool) (count : ℕ) (made step whole : List Step) (then : List Step → Bool) →
    ((rest : List Step) → goes_through fatal count 0 0 (made ++ rest) ≡ then rest) →
    whole ≡ made ++ step → (rest : List Step) → goes_through fatal count 0 0 (whole ++ rest) ≡ then (step ++ rest)
joined fatal count made step whole then h q rest =
    ap (λ (steps : List Step). goes_through fatal count 0 0 (steps ++ rest)) q
    ∙ ap (goes_through fatal count 0 0) (append_assoc made step rest)
    ∙ h (step ++ rest)

-- a command that was opened just now
pub opened-its : (c : ℕ) (task : Task) (e : Entry) (past : List Entry) → e.lock ≡ 0 → e.event ≡ Open c task → task_of c (e ∷ past) ≡ Some task
opened-its c task e past book q =
    ap (λ b. first_task (cond b (task_given c e.event) None) (task_of c past)) (eq-eqb e.lock 0 book)
    ∙ ap (λ (x : Event). first_task (task_given c x) (task_of c past)) q
    ∙ ap (λ b. first_task (cond b (Some task) None) (task_of c past)) (eq-eqb c c refl)

pub piece-begins : PieceBegins
piece-begins g n count piece bytes c task e past come within book q of_call of_piece = record {
  in_count = within;
  its_task = opened-its c task e past book q;
  of_call = of_call;
  steps = joined true count (steps_of n past) (Begins piece c ∷ []) (steps_of n (e ∷ past)) (goes_through true count piece 0) come.steps
      (steps-by n e past _ q (same-call n task.call of_call) ∙ ap (λ p. steps_of n past ++ Begins p c ∷ []) of_piece);
  told = told-by g n e past _ q ∙ append-nil (bytes_read g n past) ∙ come.told ∙ sym (append-nil bytes);
  unfailed = failed-by n e past _ q ∙ come.unfailed;
}

pub is_next-so : (piece count : ℕ) → piece < count → ((piece == piece) && nat_lt piece count) ≡ true
is_next-so piece count within = rw (eq-eqb piece piece refl, lt-ltb piece count within) refl

pub done-goes : (fatal : Bool) (count piece c : ℕ) (rest : List Step) → piece < count →
    goes_through fatal count piece 0 (Begins piece c ∷ Ends c Done ∷ rest) ≡ goes_through fatal count (suc piece) 0 rest
done-goes fatal count piece c rest within = rw (is_next-so piece count within, eq-eqb c c refl) refl

pub given_up-goes : (fatal : Bool) (count piece c : ℕ) (rest : List Step) → piece < count →
    goes_through fatal count piece 0 (Begins piece c ∷ Ends c GivenUp ∷ rest) ≡ goes_through fatal count piece 0 rest
given_up-goes fatal count piece c rest within = rw (is_next-so piece count within) refl

spoilt-goes : (count piece c : ℕ) → piece < count → goes_through true count piece 0 (Begins piece c ∷ Ends c Spoilt ∷ []) ≡ true
spoilt-goes count piece c within = rw (is_next-so piece count within, eq-eqb c c refl) refl

-- the call of a command with a task
pub its-call : (n c : ℕ) (task : Task) (past : List Entry) → task_of c past ≡ Some task → task.call ≡ n →
    is_call n (option_map (λ (t : Task). t.call) (task_of c past)) ≡ true
its-call n c task past q of_call = ap (λ (o : Option Task). is_call n (option_map (λ (t : Task). t.call) o)) q ∙ same-call n task.call of_call

-- an item that is told under a condition
told-if : (n : ℕ) (b : Bool) (item : HostItem) → bytes_told n (cond b (item ∷ []) []) ≡ cond b (told_bytes n item) []
told-if n true item = refl
told-if n false item = refl

its-bytes : (n : ℕ) (b c : Bool) (bytes : List ℕ) → c ≡ true → cond b (cond c bytes []) [] ≡ cond b bytes []
its-bytes n b c bytes h = ap (λ x. cond b (cond x bytes []) []) h

pub piece-ends : PieceEnds
piece-ends g n count piece bytes c task more names cause made e past serving q = record {
  in_count = omega (arith, serving.in_count);
  steps = λ rest. joined true count (steps_of n past) (Ends c Done ∷ []) (steps_of n (e ∷ past))
      (λ (steps : List Step). goes_through true count piece 0 (Begins piece c ∷ steps))
      serving.steps
      (steps-by n e past _ q (its-call n c task past serving.its_task serving.of_call)) rest
      ∙ done-goes true count piece c rest serving.in_count;
  told = told-by g n e past _ q
      ∙ ap (λ (o : Option Task). bytes_read g n past ++ bytes_told n (told_by g (Close c true names cause made) o)) serving.its_task
      ∙ ap (λ (l : List ℕ). bytes_read g n past ++ l)
      (told-if n (is_degraded_read task.kind) (read_item g task made)
      ∙ its-bytes n (is_degraded_read task.kind) (task.call == n) made (same-call n task.call serving.of_call))
      ∙ ap (λ (l : List ℕ). l ++ bytes_by_close task made) serving.told
      ∙ append_assoc bytes more (bytes_by_close task made);
  unfailed = failed-by n e past _ q ∙ serving.unfailed;
}

pub given_up-stays : GivenUpPieceStays
given_up-stays g n count piece bytes c task names cause made e past serving q = record {
  in_count = omega (arith, serving.in_count);
  steps = λ rest. joined true count (steps_of n past) (Ends c GivenUp ∷ []) (steps_of n (e ∷ past))
      (λ (steps : List Step). goes_through true count piece 0 (Begins piece c ∷ steps))
      serving.steps
      (steps-by n e past _ q (its-call n c task past serving.its_task serving.of_call)) rest
      ∙ given_up-goes true count piece c rest serving.in_count;
  told = told-by g n e past _ q ∙ append-nil (bytes_read g n past) ∙ serving.told ∙ append-nil bytes;
  unfailed = failed-by n e past _ q ∙ serving.unfailed;
}

pub spoilt-ends : SpoiltPieceEnds
spoilt-ends g n count piece bytes c task more diff loss shut e past serving q = record {
  steps = ap (goes_through true count 0 0) (steps-by n e past _ q (its-call n c task past serving.its_task serving.of_call))
      ∙ serving.steps (Ends c Spoilt ∷ []) ∙ spoilt-goes count piece c serving.in_count;
  told = told-by g n e past _ q ∙ append-nil (bytes_read g n past) ∙ serving.told;
  failed = failed-by n e past _ q
      ∙ ap (λ (o : Option Task). first_failure (failure_by n (Spoil c diff loss shut) o) (failure_of n past)) serving.its_task
      ∙ ap (λ b. first_failure (cond b (Some failures.Spoilt) None) (failure_of n past)) (same-call n task.call serving.of_call);
}

pub refused-ends : RefusedPieceEnds
refused-ends g n count piece bytes why e past come within q = record {
  steps = ap (goes_through true count 0 0) (steps-by n e past _ q (same-call n n refl))
      ∙ come.steps (Refused piece why ∷ []) ∙ rw (is_next-so piece count within) refl;
  told = told-by g n e past _ q ∙ append-nil (bytes_read g n past) ∙ come.told;
  failed = failed-by n e past _ q ∙ ap (λ b. first_failure (cond b (Some (failures.Refused why)) None) (failure_of n past)) (same-call n n refl);
}

pub last-ends : LastPieceEnds
last-ends g n count bytes past come = record {
  steps = ap (goes_through true count 0 0) (sym (append-nil (steps_of n past))) ∙ come.steps [] ∙ eq-eqb count count refl;
  told = come.told;
  failed = come.unfailed;
}

-- ---- entries of other calls

pub others-steps : (n : ℕ) (others past : List Entry) → AreOfOthers n others past → steps_of n (others ++ past) ≡ steps_of n past
others-steps n [] past h = refl
others-steps n (e ∷ others) past h = steps-other n e (others ++ past) h.0 ∙ others-steps n others past h.1

others-told : (g : Geometry) (n : ℕ) (others past : List Entry) → AreOfOthers n others past → bytes_read g n (others ++ past) ≡ bytes_read g n past
others-told g n [] past h = refl
others-told g n (e ∷ others) past h = told-other g n e (others ++ past) h.0 ∙ others-told g n others past h.1

others-failed : (n : ℕ) (others past : List Entry) → AreOfOthers n others past → failure_of n (others ++ past) ≡ failure_of n past
others-failed n [] past h = refl
others-failed n (e ∷ others) past h = failed-other n e (others ++ past) h.0 ∙ others-failed n others past h.1

pub others-task : (c : ℕ) (others past : List Entry) → OpenNo c others → task_of c (others ++ past) ≡ task_of c past
others-task c [] past h = refl
others-task c (e ∷ others) past h = elim (cases_eq e.lock 0) [
  | inl book ↦ ap (λ b. first_task (cond b (task_given c e.event) None) (task_of c (others ++ past))) (eq-eqb e.lock 0 book)
      ∙ ap (λ (o : Option Task). first_task o (task_of c (others ++ past))) (no_task c e.event (h.0 book)) ∙ others-task c others past h.1
  | inr other ↦ ap (λ b. first_task (cond b (task_given c e.event) None) (task_of c (others ++ past))) (ne_eqb e.lock 0 other) ∙ others-task c others past h.1
]

pub others-leave : OthersLeaveCalls
others-leave g n count bytes others past h = record {
  come = λ piece come. record {
    in_count = come.in_count;
    steps = λ rest. ap (λ (steps : List Step). goes_through true count 0 0 (steps ++ rest)) (others-steps n others past h) ∙ come.steps rest;
    told = others-told g n others past h ∙ come.told;
    unfailed = others-failed n others past h ∙ come.unfailed;
  };
  serving = λ piece c task more apart serving. record {
    in_count = serving.in_count;
    its_task = others-task c others past apart ∙ serving.its_task;
    of_call = serving.of_call;
    steps = λ rest. ap (λ (steps : List Step). goes_through true count 0 0 (steps ++ rest)) (others-steps n others past h) ∙ serving.steps rest;
    told = others-told g n others past h ∙ serving.told;
    unfailed = others-failed n others past h ∙ serving.unfailed;
  };
  ended = λ failure ended. record {
    steps = ap (goes_through true count 0 0) (others-steps n others past h) ∙ ended.steps;
    told = others-told g n others past h ∙ ended.told;
    failed = others-failed n others past h ∙ ended.failed;
  };
  refused = λ sense refused. record {
    steps = others-steps n others past h ∙ refused.steps;
    told = others-told g n others past h ∙ refused.told;
    failed = others-failed n others past h ∙ refused.failed;
  };
}

-- ---- acts

-- an act belongs to its command's call, is no step, and neither fails nor opens anything
pub doing-call : (c : ℕ) (event : Event) (past : List Entry) → is_doing c event ≡ true → call_of event past ≡ call_of_command c past
doing-call c (Fetch command opened cdb row bytes) past h = ap (λ d. call_of_command d past) (eqb-true command c h)
doing-call c (Put command opened cdb row bytes names) past h = ap (λ d. call_of_command d past) (eqb-true command c h)
doing-call c (Diff command opened cdb row bytes sent dropped back) past h = ap (λ d. call_of_command d past) (eqb-true command c h)
doing-call c (Take command opened cdb row bytes) past h = ap (λ d. call_of_command d past) (eqb-true command c h)
doing-call c (Fold command opened cdb row bytes names) past h = ap (λ d. call_of_command d past) (eqb-true command c h)
doing-call c (Hold command opened cdb row bytes kept names back) past h = ap (λ d. call_of_command d past) (eqb-true command c h)
doing-call c (Shut command opened acted lost) past h = ap (λ d. call_of_command d past) (eqb-true command c h)
doing-call c _ past h = cc

pub doing-step : (c : ℕ) (event : Event) (lock : ℕ) (name : At) → is_doing c event ≡ true → step_by event lock name ≡ None
doing-step c (Fetch command opened cdb row bytes) lock name h = refl
doing-step c (Put command opened cdb row bytes names) lock name h = refl
doing-step c (Diff command opened cdb row bytes sent dropped back) lock name h = refl
doing-step c (Take command opened cdb row bytes) lock name h = refl
doing-step c (Fold command opened cdb row bytes names) lock name h = refl
doing-step c (Hold command opened cdb row bytes kept names back) lock name h = refl
doing-step c (Shut command opened acted lost) lock name h = refl
doing-step c _ lock name h = cc

doing-unfailed : (n c : ℕ) (event : Event) (past : List Entry) → is_doing c event ≡ true → failure_by n event (spoilt_task (spoilt_command event) past) ≡ None
doing-unfailed n c (Spoil command diff loss shut) past h = cc
doing-unfailed n c (Refuse call piece why) past h = cc
doing-unfailed n c _ past h = refl

pub doing-opens_none : (c : ℕ) (event : Event) → is_doing c event ≡ true → opens_command c event ≡ false
doing-opens_none c (Open command task) h = cc
doing-opens_none c _ h = refl

-- what it tells
doing-told : (g : Geometry) (n c : ℕ) (task : Task) (event : Event) (past : List Entry) → is_doing c event ≡ true → task_of c past ≡ Some task →
    task.call ≡ n →
    bytes_told n (told_by g event (teller_task (teller event) past)) ≡ bytes_by_act task event
doing-told g n c task (Fetch command opened cdb row bytes) past h its of_call =
    ap (λ d. bytes_told n (told_by g (Fetch command opened cdb row bytes) (task_of d past))) (eqb-true command c h)
    ∙ ap (λ (o : Option Task). bytes_told n (told_by g (Fetch command opened cdb row bytes) o)) its
    ∙ told-if n (is_read task.kind) (read_item g task bytes)
    ∙ its-bytes n (is_read task.kind) (task.call == n) bytes (same-call n task.call of_call)
doing-told g n c task (Put command opened cdb row bytes names) past h its of_call =
    ap (λ d. bytes_told n (told_by g (Put command opened cdb row bytes names) (task_of d past))) (eqb-true command c h)
    ∙ ap (λ (o : Option Task). bytes_told n (told_by g (Put command opened cdb row bytes names) o)) its
    ∙ told-if n (is_put_write task.kind) (wrote_item g task) ∙ either (is_put_write task.kind)
  where
    either : (b : Bool) → cond b (told_bytes n (wrote_item g task)) [] ≡ []
    either true = refl
    either false = refl
doing-told g n c task (Diff command opened cdb row bytes sent dropped back) past h its of_call =
    ap (λ d. bytes_told n (told_by g (Diff command opened cdb row bytes sent dropped back) (task_of d past))) (eqb-true command c h)
    ∙ ap (λ (o : Option Task). bytes_told n (told_by g (Diff command opened cdb row bytes sent dropped back) o)) its
doing-told g n c task (Take command opened cdb row bytes) past h its of_call = refl
doing-told g n c task (Fold command opened cdb row bytes names) past h its of_call = refl
doing-told g n c task (Hold command opened cdb row bytes kept names back) past h its of_call = refl
doing-told g n c task (Shut command opened acted lost) past h its of_call = refl
doing-told g n c task _ past h its of_call = cc

pub doing-adds_none : (n c : ℕ) (task : Task) (e : Entry) (past : List Entry) → is_doing c e.event ≡ true → task_of c past ≡ Some task → task.call ≡ n →
    steps_of n (e ∷ past) ≡ steps_of n past
doing-adds_none n c task e past h its of_call =
    steps-by n e past e.event refl (ap (is_call n) (doing-call c e.event past h) ∙ its-call n c task past its of_call)
    ∙ ap (λ (o : Option Step). steps_of n past ++ step_list o) (doing-step c e.event e.lock (name_of e) h)
    ∙ append-nil (steps_of n past)

pub acts-go_on : ActsGoOn
acts-go_on g n count piece bytes c task more e past serving h = record {
  in_count = serving.in_count;
  its_task = others-task c (e ∷ []) past (λ book. doing-opens_none c e.event h, tt) ∙ serving.its_task;
  of_call = serving.of_call;
  steps = λ rest. ap (λ (steps : List Step). goes_through true count 0 0 (steps ++ rest))
      (doing-adds_none n c task e past h serving.its_task serving.of_call) ∙ serving.steps rest;
  told = told-by g n e past e.event refl
      ∙ ap (λ (l : List ℕ). bytes_read g n past ++ l) (doing-told g n c task e.event past h serving.its_task serving.of_call)
      ∙ ap (λ (l : List ℕ). l ++ bytes_by_act task e.event) serving.told
      ∙ append_assoc bytes more (bytes_by_act task e.event);
  unfailed = ap (λ (o : Option Failure). first_failure o (failure_of n past)) (doing-unfailed n c e.event past h) ∙ serving.unfailed;
}

-- several acts
acts-go : (g : Geometry) (n count piece : ℕ) (bytes : List ℕ) (c : ℕ) (task : Task) (acts past : List Entry) →
    IsServing g n count piece bytes c task [] past → AreDoings c acts → IsServing g n count piece bytes c task (bytes_by_acts task acts) (acts ++ past)
acts-go g n count piece bytes c task [] past serving h = serving
acts-go g n count piece bytes c task (e ∷ acts) past serving h =
    acts-go_on g n count piece bytes c task (bytes_by_acts task acts) e (acts ++ past) (acts-go g n count piece bytes c task acts past serving h.1) h.0

pub whole-ends : WholePieceEnds
whole-ends g n count piece bytes c task names cause made open_entry close_entry acts past come within book q of_call of_piece h r =
    piece-ends g n count piece bytes c task (bytes_by_acts task acts) names cause made close_entry (acts ++ open_entry ∷ past)
    (acts-go g n count piece bytes c task acts (open_entry ∷ past)
    (piece-begins g n count piece bytes c task open_entry past come within book q of_call of_piece) h) r
