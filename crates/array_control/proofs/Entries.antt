-- What one entry more makes of a call's steps, of the bytes that it was told, and of the reason why it failed.
use Rattle.std.specs.Prelude.{◌≡◌, ◌==◌, ◌++◌, ℕ, Bool, true, false, List, [], ◌∷◌, Option, Some, None, cond, option_map}
use Rattle.std.proofs.Common.{refl, ap, sym, ◌∙◌}
use Rattle.std.proofs.lemmas.List.{append-nil, append_assoc}
use Rattle.std.proofs.lemmas.Bool.{or_parts}
use Rattle.stripe_layout.specs.declared.geometry.Geometry.{Geometry}
use Rattle.array_journal.specs.declared.entry.Entry.{Entry}
use Rattle.array_journal.specs.declared.event.Event.{Event}
use Rattle.array_journal.specs.declared.event.Event.TheVariants.{Fetch, Put, Diff, Take, Fold, Hold, Shut, Gone, Wiped, Fresh, Open, Close, Spoil, Note, Swap, Refuse}
use Rattle.array_journal.specs.declared.task.Task.{Task}
use Rattle.array_journal.specs.Calls.{is_of_call, IsNewCall}
use Rattle.array_journal.specs.Commands.{task_of, task_given, first_task}
use Rattle.array_journal.specs.Entries.{name_of}
use Rattle.array_journal.specs.Host.{HostItem, told_by, teller, teller_task, host, is_read, is_degraded_read, is_put_write, read_item, wrote_item}
use Rattle.stripe_check.specs.declared.failure.Failure.{Failure}
use Rattle.stripe_check.specs.declared.failure.Failure.TheVariants as failures
use Rattle.stripe_check.specs.Replies.{told_bytes, bytes_told, bytes_read, failure_by, failure_of, first_failure, spoilt_command, spoilt_task}
use Rattle.stripe_check.specs.Steps.{call_of, call_of_command, step_by, step_list, is_call, steps_of}

-- ---- by its event

pub steps-by : (n : ℕ) (e : Entry) (past : List Entry) (event : Event) → e.event ≡ event → is_call n (call_of event past) ≡ true →
    steps_of n (e ∷ past) ≡ steps_of n past ++ step_list (step_by event e.lock (name_of e))
steps-by n e past event q own =
    ap (λ (x : Event). steps_of n past ++ cond (is_call n (call_of x past)) (step_list (step_by x e.lock (name_of e))) []) q
    ∙ ap (λ b. steps_of n past ++ cond b (step_list (step_by event e.lock (name_of e))) []) own

told-more : (n : ℕ) (items past : List HostItem) → bytes_told n (items ++ past) ≡ bytes_told n past ++ bytes_told n items
told-more n [] past = sym (append-nil (bytes_told n past))
told-more n (item ∷ items) past =
    ap (λ (l : List ℕ). l ++ told_bytes n item) (told-more n items past)
    ∙ append_assoc (bytes_told n past) (bytes_told n items) (told_bytes n item)

pub told-by : (g : Geometry) (n : ℕ) (e : Entry) (past : List Entry) (event : Event) → e.event ≡ event →
    bytes_read g n (e ∷ past) ≡ bytes_read g n past ++ bytes_told n (told_by g event (teller_task (teller event) past))
told-by g n e past event q =
    told-more n (told_by g e.event (teller_task (teller e.event) past)) (host g past)
    ∙ ap (λ (x : Event). bytes_read g n past ++ bytes_told n (told_by g x (teller_task (teller x) past))) q

pub failed-by : (n : ℕ) (e : Entry) (past : List Entry) (event : Event) → e.event ≡ event →
    failure_of n (e ∷ past) ≡ first_failure (failure_by n event (spoilt_task (spoilt_command event) past)) (failure_of n past)
failed-by n e past event q =
    ap (λ (x : Event). first_failure (failure_by n x (spoilt_task (spoilt_command x) past)) (failure_of n past)) q

-- ---- of another call

pub steps-other : (n : ℕ) (e : Entry) (past : List Entry) → is_call n (call_of e.event past) ≡ false →
    steps_of n (e ∷ past) ≡ steps_of n past
steps-other n e past other =
    ap (λ b. steps_of n past ++ cond b (step_list (step_by e.event e.lock (name_of e))) []) other ∙ append-nil (steps_of n past)

-- an item that is told under a condition
told-if : (n : ℕ) (b : Bool) (item : HostItem) → told_bytes n item ≡ [] → bytes_told n (cond b (item ∷ []) []) ≡ []
told-if n true item h = h
told-if n false item h = refl

none-told : (g : Geometry) (n : ℕ) (event : Event) (past : List Entry) → is_call n (call_of event past) ≡ false →
    bytes_told n (told_by g event (teller_task (teller event) past)) ≡ []
none-told g n (Fetch command opened cdb row bytes) past other = by (task_of command past) other
  where
    by : (o : Option Task) → is_call n (option_map (λ (t : Task). t.call) o) ≡ false →
        bytes_told n (told_by g (Fetch command opened cdb row bytes) o) ≡ []
    by None h = refl
    by (Some task) h = told-if n (is_read task.kind) (read_item g task bytes) (ap (λ b. cond b bytes []) h)
none-told g n (Close command true names cause bytes) past other = by (task_of command past) other
  where
    by : (o : Option Task) → is_call n (option_map (λ (t : Task). t.call) o) ≡ false →
        bytes_told n (told_by g (Close command true names cause bytes) o) ≡ []
    by None h = refl
    by (Some task) h = told-if n (is_degraded_read task.kind) (read_item g task bytes) (ap (λ b. cond b bytes []) h)
none-told g n (Close command false names cause bytes) past other = refl
none-told g n (Diff command opened cdb row bytes sent dropped back) past other = by (task_of command past)
  where
    by : (o : Option Task) → bytes_told n (told_by g (Diff command opened cdb row bytes sent dropped back) o) ≡ []
    by None = refl
    by (Some task) = refl
none-told g n (Put command opened cdb row bytes names) past other = by (task_of command past)
  where
    by : (o : Option Task) → bytes_told n (told_by g (Put command opened cdb row bytes names) o) ≡ []
    by None = refl
    by (Some task) = told-if n (is_put_write task.kind) (wrote_item g task) refl
none-told g n (Take command opened cdb row bytes) past other = refl
none-told g n (Fold command opened cdb row bytes names) past other = refl
none-told g n (Hold command opened cdb row bytes kept names back) past other = refl
none-told g n (Shut command opened acted lost) past other = refl
none-told g n (Gone life call commands) past other = refl
none-told g n (Wiped what call commands) past other = refl
none-told g n (Fresh call swap) past other = refl
none-told g n (Open command task) past other = refl
none-told g n (Spoil command diff loss shut) past other = refl
none-told g n (Note slot lost) past other = refl
none-told g n (Swap slot call) past other = refl
none-told g n (Refuse call piece why) past other = refl

pub told-other : (g : Geometry) (n : ℕ) (e : Entry) (past : List Entry) → is_call n (call_of e.event past) ≡ false →
    bytes_read g n (e ∷ past) ≡ bytes_read g n past
told-other g n e past other =
    told-by g n e past e.event refl
    ∙ ap (λ (l : List ℕ). bytes_read g n past ++ l) (none-told g n e.event past other)
    ∙ append-nil (bytes_read g n past)

none-failed : (n : ℕ) (event : Event) (past : List Entry) → is_call n (call_of event past) ≡ false →
    failure_by n event (spoilt_task (spoilt_command event) past) ≡ None
none-failed n (Refuse call piece why) past other = ap (λ b. cond b (Some (failures.Refused why)) None) other
none-failed n (Spoil command diff loss shut) past other = by (task_of command past) other
  where
    by : (o : Option Task) → is_call n (option_map (λ (t : Task). t.call) o) ≡ false →
        failure_by n (Spoil command diff loss shut) o ≡ None
    by None h = refl
    by (Some task) h = ap (λ b. cond b (Some failures.Spoilt) None) h
none-failed n _ past other = refl

pub failed-other : (n : ℕ) (e : Entry) (past : List Entry) → is_call n (call_of e.event past) ≡ false → failure_of n (e ∷ past) ≡ failure_of n past
failed-other n e past other = ap (λ (o : Option Failure). first_failure o (failure_of n past)) (none-failed n e.event past other)

-- ---- of a call that is new

given-new : (n c : ℕ) (event : Event) (o : Option Task) → is_of_call n event ≡ false → is_call n (option_map (λ (t : Task). t.call) o) ≡ false →
    is_call n (option_map (λ (t : Task). t.call) (first_task (task_given c event) o)) ≡ false
given-new n c (Open command task) o new older = by (command == c)
  where
    by : (b : Bool) → is_call n (option_map (λ (t : Task). t.call) (first_task (cond b (Some task) None) o)) ≡ false
    by true = (or_parts false (task.call == n) new).1
    by false = older
given-new n c _ o new older = older

-- no command was opened for it
none-opened : (n c : ℕ) (past : List Entry) → IsNewCall n past → is_call n (call_of_command c past) ≡ false
none-opened n c [] new = refl
none-opened n c (e ∷ past) new = by (none-opened n c past new.1) (e.lock == 0)
  where
    by : is_call n (call_of_command c past) ≡ false → (b : Bool) →
        is_call n (option_map (λ (t : Task). t.call) (first_task (cond b (task_given c e.event) None) (task_of c past))) ≡ false
    by older true = given-new n c e.event (task_of c past) new.0 older
    by older false = older

-- its entries are of other calls
pub of-other : (n : ℕ) (event : Event) (past : List Entry) → is_of_call n event ≡ false → IsNewCall n past → is_call n (call_of event past) ≡ false
of-other n (Gone life call commands) past new rest = (or_parts (call == n) false new).0
of-other n (Wiped what call commands) past new rest = (or_parts (call == n) false new).0
of-other n (Fresh call swap) past new rest = (or_parts (call == n) false new).0
of-other n (Swap slot call) past new rest = (or_parts (call == n) false new).0
of-other n (Refuse call piece why) past new rest = (or_parts (call == n) false new).0
of-other n (Open command task) past new rest = (or_parts false (task.call == n) new).1
of-other n (Note slot lost) past new rest = refl
of-other n (Fetch command opened cdb row bytes) past new rest = none-opened n command past rest
of-other n (Put command opened cdb row bytes names) past new rest = none-opened n command past rest
of-other n (Diff command opened cdb row bytes sent dropped back) past new rest = none-opened n command past rest
of-other n (Take command opened cdb row bytes) past new rest = none-opened n command past rest
of-other n (Fold command opened cdb row bytes names) past new rest = none-opened n command past rest
of-other n (Hold command opened cdb row bytes kept names back) past new rest = none-opened n command past rest
of-other n (Shut command opened acted lost) past new rest = none-opened n command past rest
of-other n (Close command done names cause bytes) past new rest = none-opened n command past rest
of-other n (Spoil command diff loss shut) past new rest = none-opened n command past rest

pub new-steps : (n : ℕ) (past : List Entry) → IsNewCall n past → steps_of n past ≡ []
new-steps n [] new = refl
new-steps n (e ∷ past) new = steps-other n e past (of-other n e.event past new.0 new.1) ∙ new-steps n past new.1

pub new-told : (g : Geometry) (n : ℕ) (past : List Entry) → IsNewCall n past → bytes_read g n past ≡ []
new-told g n [] new = refl
new-told g n (e ∷ past) new = told-other g n e past (of-other n e.event past new.0 new.1) ∙ new-told g n past new.1

pub new-failed : (n : ℕ) (past : List Entry) → IsNewCall n past → failure_of n past ≡ None
new-failed n [] new = refl
new-failed n (e ∷ past) new = failed-other n e past (of-other n e.event past new.0 new.1) ∙ new-failed n past new.1
