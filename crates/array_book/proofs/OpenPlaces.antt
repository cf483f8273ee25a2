-- What stands at the places that are kept: the openings, with their tasks.
use Rattle.std.proofs.Common.{◌≡◌, ℕ, ◌+◌, ◌≤◌, Bool, true, false, List, [], ◌∷◌, ◌++◌, Option, Some, None, refl, sym, ap, ◌∙◌, cond, length, map, reverse, arith}
use Rattle.std.specs.Prelude.{◌==◌, ◌&&◌, ◌||◌, not, is_some, option_map, slice_get}
use Rattle.std.specs.Option.{option_and_then}
use Rattle.std.proofs.lemmas.List.{append_assoc, append-nil, reverse-append, length-reverse, map-append, length-append}
use Rattle.std.proofs.lemmas.Option.{slice_get-map}
use Rattle.array_journal.specs.declared.entry.Entry.{Entry}
use Rattle.array_journal.specs.declared.event.Event.{Event}
use Rattle.array_journal.specs.declared.event.Event.TheVariants.{Open}
use Rattle.array_journal.specs.declared.task.Task.{Task}
use Rattle.array_journal.specs.Commands.{opens_command, is_open, task_given, task_of, first_task}
use Rattle.array_journal.specs.Entries.{some_at}
use Rattle.array_book.specs.declared.commands.open_commands.OpenCommand.{OpenCommand}
use Rattle.array_book.specs.Openings.{opening_place, task_in, opened_task}
use Rattle.array_book.specs.OpenCommands.{open_by, open_in, open_commands, task_by, tasks_in, open_tasks, has_ended}

-- the entry behind others
get-behind : (xs : List Entry) (e : Entry) (zs : List Entry) → slice_get (xs ++ e ∷ zs) (length xs) ≡ Some e
get-behind [] e zs = refl
get-behind (x ∷ xs) e zs = get-behind xs e zs

reverse-more : (e : Entry) (past zs : List Entry) → reverse (e ∷ past) ++ zs ≡ reverse past ++ e ∷ zs
reverse-more e past zs = ap (λ xs. xs ++ zs) (reverse-append (e ∷ []) past) ∙ append_assoc (reverse past) (e ∷ []) zs

-- an entry stands where it was the newest
get-newest : (e : Entry) (past zs : List Entry) → slice_get (reverse past ++ e ∷ zs) (length past) ≡ Some e
get-newest e past zs =
    ap (λ n. slice_get (reverse past ++ e ∷ zs) n) (sym (length-reverse past)) ∙ get-behind (reverse past) e zs

-- the task at a place of a list of entries
abbrev pub task_there : List Entry → ℕ → Option Task
task_there entries place = opened_task (slice_get entries place)

-- the task of a command is that of its newest opening
task-within : (c : ℕ) (past zs : List Entry) → task_of c past ≡ option_and_then (task_there (reverse past ++ zs)) (opening_place c past)
task-within c [] zs = refl
task-within c (e ∷ past) zs =
    by_event (task-within c past (e ∷ zs)) (e.lock == 0) e.event refl
    ∙ ap (λ xs. option_and_then (task_there xs) (opening_place c (e ∷ past))) (sym (reverse-more e past zs))
  where
    by_number : (task_of c past ≡ option_and_then (task_there (reverse past ++ e ∷ zs)) (opening_place c past)) →
        (b : Bool) (task : Task) (n : ℕ) → e.event ≡ Open n task →
        first_task (cond b (Some task) None) (task_of c past)
        ≡ option_and_then (task_there (reverse past ++ e ∷ zs)) (cond b (Some (length past)) (opening_place c past))
    by_number before true task n is = sym (ap opened_task (get-newest e past zs) ∙ ap task_in is)
    by_number before false task n is = before

    by_event : (task_of c past ≡ option_and_then (task_there (reverse past ++ e ∷ zs)) (opening_place c past)) →
        (book : Bool) (event : Event) → e.event ≡ event →
        first_task (cond book (task_given c event) None) (task_of c past)
        ≡ option_and_then (task_there (reverse past ++ e ∷ zs)) (cond (book && opens_command c event) (Some (length past)) (opening_place c past))
    by_event before true (Open n task) is = by_number before (n == c) task n is
    by_event before true event is = before
    by_event before false event is = before

pub task-placed : (c : ℕ) (past : List Entry) → task_of c past ≡ option_and_then (task_there (reverse past)) (opening_place c past)
task-placed c past = task-within c past [] ∙ ap (λ xs. option_and_then (task_there xs) (opening_place c past)) (append-nil (reverse past))

-- a command has a place exactly if it was opened
pub opened-placed : (c : ℕ) (past : List Entry) → is_some (opening_place c past) ≡ some_at 0 (opens_command c) past
opened-placed c [] = refl
opened-placed c (e ∷ past) = by_test (opened-placed c past) ((e.lock == 0) && opens_command c e.event)
  where
    by_test : is_some (opening_place c past) ≡ some_at 0 (opens_command c) past →
        (b : Bool) → is_some (cond b (Some (length past)) (opening_place c past)) ≡ (b || some_at 0 (opens_command c) past)
    by_test before true = refl
    by_test before false = before

-- whether a command is open, from what is known of it
pub open-known : (c : ℕ) (past : List Entry) (opened ended : Bool) → opened ≡ is_some (opening_place c past) → ended ≡ has_ended past c →
    (opened && not ended) ≡ is_open c past
open-known c past opened ended h k =
    ap (λ b. b && not ended) (h ∙ opened-placed c past) ∙ ap (λ b. some_at 0 (opens_command c) past && not b) k

-- the task of a command, from the place of its newest opening
pub task-known : (c : ℕ) (past entries : List Entry) (place : Option ℕ) → entries ≡ reverse past → place ≡ opening_place c past →
    option_and_then (task_there entries) place ≡ task_of c past
task-known c past entries place same at =
    ap (λ xs. option_and_then (task_there xs) place) same ∙ ap (option_and_then (task_there (reverse past))) at ∙ sym (task-placed c past)

-- the task of an opening in a list of entries
abbrev pub placed_task : List Entry → OpenCommand → Option Task
placed_task entries s = task_there entries s.place

-- the tasks that stand are those of the openings that do
tasks-within : (ended : ℕ → Bool) (past zs : List Entry) →
    map Some (tasks_in ended past) ≡ map (placed_task (reverse past ++ zs)) (open_in ended past)
tasks-within ended [] zs = refl
tasks-within ended (e ∷ past) zs =
    map-append Some (tasks_in ended past) (cond (e.lock == 0) (task_by ended e.event) [])
    ∙ ap (λ xs. xs ++ map Some (cond (e.lock == 0) (task_by ended e.event) [])) (tasks-within ended past (e ∷ zs))
    ∙ ap (λ ys. map (placed_task (reverse past ++ e ∷ zs)) (open_in ended past) ++ ys) (by_event (e.lock == 0) e.event refl)
    ∙ sym (map-append (placed_task (reverse past ++ e ∷ zs)) (open_in ended past) (cond (e.lock == 0) (open_by ended (length past) e.event) []))
    ∙ ap (λ xs. map (placed_task xs) (open_in ended (e ∷ past))) (sym (reverse-more e past zs))
  where
    by_ended : (b : Bool) (task : Task) (n : ℕ) → e.event ≡ Open n task →
        map Some (cond b [] (task ∷ [])) ≡ map (placed_task (reverse past ++ e ∷ zs)) (cond b [] (record { command = n; place = length past } ∷ []))
    by_ended true task n is = refl
    by_ended false task n is = ap (λ (o : Option Task). o ∷ []) (sym (ap opened_task (get-newest e past zs) ∙ ap task_in is))

    by_event : (book : Bool) (event : Event) → e.event ≡ event →
        map Some (cond book (task_by ended event) []) ≡ map (placed_task (reverse past ++ e ∷ zs)) (cond book (open_by ended (length past) event) [])
    by_event true (Open n task) is = by_ended (ended n) task n is
    by_event true event is = refl
    by_event false event is = refl

tasks-placed : (past : List Entry) → map Some (open_tasks past) ≡ map (placed_task (reverse past)) (open_commands past)
tasks-placed past =
    tasks-within (has_ended past) past []
    ∙ ap (λ xs. map (placed_task xs) (open_commands past)) (append-nil (reverse past))

-- the task of each opening that stands
pub open_task-placed : (past : List Entry) (k : ℕ) →
    slice_get (open_tasks past) k ≡ option_and_then (placed_task (reverse past)) (slice_get (open_commands past) k)
open_task-placed past k =
    same (slice_get (open_tasks past) k) (slice_get (open_commands past) k)
    (sym (slice_get-map Some (open_tasks past) k)
    ∙ ap (λ (xs : List (Option Task)). slice_get xs k) (tasks-placed past)
    ∙ slice_get-map (placed_task (reverse past)) (open_commands past) k)
  where
    same : (task : Option Task) (opening : Option OpenCommand) →
        option_map Some task ≡ option_map (placed_task (reverse past)) opening →
        task ≡ option_and_then (placed_task (reverse past)) opening
    same None None h = refl
    same None (Some opening) h = absurd cc
    same (Some task) None h = absurd cc
    same (Some task) (Some opening) h = cc

-- and from that opening
pub open_task-known : (past entries : List Entry) (k : ℕ) (opening : Option OpenCommand) → entries ≡ reverse past → opening ≡ slice_get (open_commands past) k →
    option_and_then (placed_task entries) opening ≡ slice_get (open_tasks past) k
open_task-known past entries k opening same at =
    ap (λ xs. option_and_then (placed_task xs) opening) same ∙ ap (option_and_then (placed_task (reverse past))) at ∙ sym (open_task-placed past k)

-- as many tasks as openings
pub tasks-len : (ended : ℕ → Bool) (past : List Entry) → length (tasks_in ended past) ≡ length (open_in ended past)
tasks-len ended [] = refl
tasks-len ended (e ∷ past) =
    length-append (tasks_in ended past) (cond (e.lock == 0) (task_by ended e.event) [])
    ∙ ap (λ n. n + length (cond (e.lock == 0) (task_by ended e.event) [])) (tasks-len ended past)
    ∙ ap (λ n. length (open_in ended past) + n) (by_event (e.lock == 0) e.event)
    ∙ sym (length-append (open_in ended past) (cond (e.lock == 0) (open_by ended (length past) e.event) []))
  where
    by_ended : (b : Bool) (task : Task) (n : ℕ) → length (cond b [] (task ∷ [])) ≡ length {A = OpenCommand} (cond b [] (record { command = n; place = length past } ∷ []))
    by_ended true task n = refl
    by_ended false task n = refl

    by_event : (book : Bool) (event : Event) → length (cond book (task_by ended event) []) ≡ length (cond book (open_by ended (length past) event) [])
    by_event true (Open n task) = by_ended (ended n) task n
    by_event true event = refl
    by_event false event = refl

pub length-open_tasks : (past : List Entry) → length (open_commands past) ≡ length (open_tasks past)
length-open_tasks past = sym (tasks-len (has_ended past) past)

-- at most as many as entries
tasks-fewer : (ended : ℕ → Bool) (past : List Entry) → length (tasks_in ended past) ≤ length past
tasks-fewer ended [] = omega arith
tasks-fewer ended (e ∷ past) =
    let before : length (tasks_in ended past) ≤ length past = tasks-fewer ended past in
    let more : length {A = Task} (cond (e.lock == 0) (task_by ended e.event) []) ≤ 1 = by_event (e.lock == 0) e.event in
    let both : length (tasks_in ended (e ∷ past)) ≡ length (tasks_in ended past) + length {A = Task} (cond (e.lock == 0) (task_by ended e.event) []) =
    length-append (tasks_in ended past) (cond (e.lock == 0) (task_by ended e.event) []) in
    omega arith
  where
    by_ended : (b : Bool) (task : Task) → length {A = Task} (cond b [] (task ∷ [])) ≤ 1
    by_ended true task = omega arith
    by_ended false task = omega arith

    by_event : (book : Bool) (event : Event) → length {A = Task} (cond book (task_by ended event) []) ≤ 1
    by_event true (Open n task) = by_ended (ended n) task
    by_event true event = omega arith
    by_event false event = omega arith

pub length-open_tasks-le : (past : List Entry) → length (open_tasks past) ≤ length past
length-open_tasks-le past = tasks-fewer (has_ended past) past
