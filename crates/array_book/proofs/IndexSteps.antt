-- The indexes of open commands, over one more entry of the book.
use Rattle.std.proofs.Common.{◌≡◌, ◌+◌, ◌-◌, ◌==◌, ◌&&◌, ◌||◌, ℕ, Bool, true, false, not, List, [], ◌∷◌, Option, Some, None, refl, sym, ap, ◌∙◌, cond, subst, arith}
use Rattle.std.specs.List.{sum_by}
use Rattle.std.proofs.lemmas.Bool.{false≢true, eqb-true}
use Rattle.std.proofs.lemmas.List.Sums.{sum_by-append}
use Rattle.array_journal.specs.declared.entry.Entry.{Entry}
use Rattle.array_journal.specs.declared.event.Event.{Event}
use Rattle.array_journal.specs.declared.event.Event.TheVariants.{Open, Close, Spoil}
use Rattle.array_journal.specs.declared.setting.Setting.{Setting}
use Rattle.array_journal.specs.declared.task.Task.{Task}
use Rattle.array_journal.specs.Commands.{opens_command, ends_command, first_task, task_of}
use Rattle.array_journal.specs.Decision.{holds_at, held_count}
use Rattle.array_journal.specs.Entries.{some_at}
use Rattle.array_book.specs.declared.open_index.OpenIndex.{OpenIndex}
use Rattle.array_book.specs.CommandSteps.{step_by, Neither, IsEnd}
use Rattle.array_book.specs.Ledgers.{book_entry, AreNumbered}
use Rattle.array_book.specs.OpenCommands.{has_ended, task_by, tasks_in}
use Rattle.array_book.specs.OpenIndexes.{is_in, held_in, AddsCommand, RemovesCommand, KeepsIndex, open_task}
use Rattle.array_book.specs.OpenTasks.{passes_task, held_where}
use Rattle.array_book.proofs.EndedSums.{sum-ended, tasks_in-alike}
use Rattle.array_book.proofs.OpenLaws.{held_by, held-open}

-- ---- open commands and held blocks, over one more entry

-- an entry that ends no command
held-more : (s : Setting) (past : List Entry) (i stamp : ℕ) (event : Event) → ((c : ℕ) → ends_command c event ≡ false) →
    held_count s (book_entry stamp event ∷ past) i (book_entry stamp event ∷ past) ≡ held_count s past i past + sum_by (held_by s i) (task_by (has_ended (book_entry stamp event ∷ past)) event)
held-more s past i stamp event none =
    held-open s (book_entry stamp event ∷ past) i
    ∙ sum_by-append (held_by s i) (tasks_in (has_ended (book_entry stamp event ∷ past)) past) (task_by (has_ended (book_entry stamp event ∷ past)) event)
    ∙ ap (λ (tasks : List Task). sum_by (held_by s i) tasks + sum_by (held_by s i) (task_by (has_ended (book_entry stamp event ∷ past)) event))
    (tasks_in-alike (has_ended (book_entry stamp event ∷ past)) (has_ended past) (λ c. ap (λ (b : Bool). b || has_ended past c) (none c)) past)
    ∙ ap (λ (n : ℕ). n + sum_by (held_by s i) (task_by (has_ended (book_entry stamp event ∷ past)) event)) (sym (held-open s past i))

-- an entry that ends this one, and opens none
held-fewer : (s : Setting) (past : List Entry) (i stamp n : ℕ) (event : Event) → AreNumbered past → ((c : ℕ) → ends_command c event ≡ (n == c)) →
    ((f : ℕ → Bool) → task_by f event ≡ []) →
    held_count s (book_entry stamp event ∷ past) i (book_entry stamp event ∷ past) + held_where s i (open_task n past) ≡ held_count s past i past
held-fewer s past i stamp n event numbered ends opens =
    let whole : held_count s (book_entry stamp event ∷ past) i (book_entry stamp event ∷ past)
    ≡ sum_by (held_by s i) (tasks_in (λ c. (n == c) || has_ended past c) past) + sum_by (held_by s i) [] =
    held-open s (book_entry stamp event ∷ past) i
    ∙ sum_by-append (held_by s i) (tasks_in (has_ended (book_entry stamp event ∷ past)) past) (task_by (has_ended (book_entry stamp event ∷ past)) event)
    ∙ ap (λ (tasks : List Task). sum_by (held_by s i) (tasks_in (has_ended (book_entry stamp event ∷ past)) past) + sum_by (held_by s i) tasks) (opens (has_ended (book_entry stamp event ∷ past)))
    ∙ ap (λ (tasks : List Task). sum_by (held_by s i) tasks + sum_by (held_by s i) [])
    (tasks_in-alike (has_ended (book_entry stamp event ∷ past)) (λ c. (n == c) || has_ended past c) (λ c. ap (λ (b : Bool). b || has_ended past c) (ends c)) past) in
    let nothing : sum_by (held_by s i) [] ≡ 0 = refl in
    let parts : sum_by (held_by s i) (tasks_in (λ c. (n == c) || has_ended past c) past) + held_where s i (open_task n past) ≡ sum_by (held_by s i) (tasks_in (has_ended past) past) =
    sum-ended s i n past numbered in
    let before : held_count s past i past ≡ sum_by (held_by s i) (tasks_in (has_ended past) past) = held-open s past i in
    omega (arith, whole, nothing, parts, before)

quiet-ends : (event : Event) → step_by event ≡ Neither → (c : ℕ) → ends_command c event ≡ false
quiet-ends (Open n task) q c = absurd cc
quiet-ends (Close n done names cause bytes) q c = absurd cc
quiet-ends (Spoil n diff loss shut) q c = absurd cc
quiet-ends event q c = refl

quiet-tasks : (event : Event) → step_by event ≡ Neither → (f : ℕ → Bool) → task_by f event ≡ []
quiet-tasks (Open n task) q f = absurd cc
quiet-tasks (Close n done names cause bytes) q f = absurd cc
quiet-tasks (Spoil n diff loss shut) q f = absurd cc
quiet-tasks event q f = refl

quiet-task : (c stamp : ℕ) (past : List Entry) (event : Event) → step_by event ≡ Neither → open_task c (book_entry stamp event ∷ past) ≡ open_task c past
quiet-task c stamp past (Open n task) q = absurd cc
quiet-task c stamp past (Close n done names cause bytes) q = absurd cc
quiet-task c stamp past (Spoil n diff loss shut) q = absurd cc
quiet-task c stamp past event q = refl

-- the task of a command, where it is open, by what is known of it
abbrev task_if : Bool → Bool → Option Task → Option Task
task_if opened ended task = cond (opened && not ended) task None

never-open : (opened ended : Bool) (task : Option Task) → ended ≡ true → task_if opened ended task ≡ None
never-open true true task h = refl
never-open false ended task h = refl
never-open true false task h = absurd (false≢true h)

-- after an opening of a command that didn't end
opened-task : (c n stamp : ℕ) (past : List Entry) (task : Task) → has_ended past n ≡ false →
    open_task c (book_entry stamp (Open n task) ∷ past) ≡ cond (n == c) (Some task) (open_task c past)
opened-task c n stamp past task still = by_test (n == c) refl
  where
    by_test : (b : Bool) → (n == c) ≡ b →
        task_if (b || some_at 0 (opens_command c) past) (has_ended past c) (first_task (cond b (Some task) None) (task_of c past)) ≡ cond b (Some task) (open_task c past)
    by_test true is = ap (λ (ended : Bool). task_if true ended (Some task)) (ap (has_ended past) (sym (eqb-true n c is)) ∙ still)
    by_test false is = refl

-- after an opening of a command that ended before
ended-opened : (c n stamp : ℕ) (past : List Entry) (task : Task) → has_ended past n ≡ true → open_task c (book_entry stamp (Open n task) ∷ past) ≡ open_task c past
ended-opened c n stamp past task over = by_test (n == c) refl
  where
    by_test : (b : Bool) → (n == c) ≡ b →
        task_if (b || some_at 0 (opens_command c) past) (has_ended past c) (first_task (cond b (Some task) None) (task_of c past)) ≡ open_task c past
    by_test true is =
        let ended : has_ended past c ≡ true = ap (has_ended past) (sym (eqb-true n c is)) ∙ over in
        never-open true (has_ended past c) (Some task) ended ∙ sym (never-open (some_at 0 (opens_command c) past) (has_ended past c) (task_of c past) ended)
    by_test false is = refl

end-ends : (n : ℕ) (event : Event) → IsEnd n event → (c : ℕ) → ends_command c event ≡ (n == c)
end-ends n (Close command done names cause bytes) same c = ap (λ (m : ℕ). m == c) same
end-ends n (Spoil command diff loss shut) same c = ap (λ (m : ℕ). m == c) same
end-ends n event none c = absurd none

end-tasks : (n : ℕ) (event : Event) → IsEnd n event → (f : ℕ → Bool) → task_by f event ≡ []
end-tasks n (Close command done names cause bytes) same f = refl
end-tasks n (Spoil command diff loss shut) same f = refl
end-tasks n event none f = absurd none

ended-by : (c n m : ℕ) (past : List Entry) → m ≡ n →
    task_if (some_at 0 (opens_command c) past) ((m == c) || has_ended past c) (task_of c past) ≡ cond (n == c) None (open_task c past)
ended-by c n m past same = ap (λ (k : ℕ). task_if (some_at 0 (opens_command c) past) ((k == c) || has_ended past c) (task_of c past)) same ∙ by_test (n == c)
  where
    by_test : (b : Bool) → task_if (some_at 0 (opens_command c) past) (b || has_ended past c) (task_of c past) ≡ cond b None (open_task c past)
    by_test true = never-open (some_at 0 (opens_command c) past) true (task_of c past) refl
    by_test false = refl

-- after its end
ended-task : (c n stamp : ℕ) (past : List Entry) (event : Event) → IsEnd n event → open_task c (book_entry stamp event ∷ past) ≡ cond (n == c) None (open_task c past)
ended-task c n stamp past (Close m done names cause bytes) same = ended-by c n m past same
ended-task c n stamp past (Spoil m diff loss shut) same = ended-by c n m past same
ended-task c n stamp past event none = absurd none

-- ---- the indexes

-- an entry that opens and ends none
pub quiet-index : (s : Setting) (stamp : ℕ) (past : List Entry) (event : Event) (index : OpenIndex) → step_by event ≡ Neither →
    KeepsIndex s past index → KeepsIndex s (book_entry stamp event ∷ past) index
quiet-index s stamp past event index quiet keeps = record {
  stripes = λ q c. keeps.stripes q c ∙ ap (passes_task (λ task. task.stripe == q)) (sym (quiet-task c stamp past event quiet));
  commands = λ i c. keeps.commands i c ∙ ap (passes_task (holds_at s i)) (sym (quiet-task c stamp past event quiet));
  counts = λ i.
      let now : held_count s (book_entry stamp event ∷ past) i (book_entry stamp event ∷ past)
      ≡ held_count s past i past + sum_by (held_by s i) (task_by (has_ended (book_entry stamp event ∷ past)) event) =
      held-more s past i stamp event (quiet-ends event quiet) in
      let nothing : sum_by (held_by s i) (task_by (has_ended (book_entry stamp event ∷ past)) event) ≡ 0 =
      ap (sum_by (held_by s i)) (quiet-tasks event quiet (has_ended (book_entry stamp event ∷ past))) in
      let before : held_in index.holders.counts i ≡ held_count s past i past = keeps.counts i in
      omega (arith, now, nothing, before);
}

-- a command that was in no group is put into those that its task passes
added : (test : Task → Bool) (task : Task) (n c : ℕ) (old : Option Task) → (n ≡ c → old ≡ None) →
    ((test task && (n == c)) || passes_task test old) ≡ passes_task test (cond (n == c) (Some task) old)
added test task n c old fresh = by_test (n == c) refl (test task)
  where
    alone : (b : Bool) → ((b && true) || false) ≡ b
    alone true = refl
    alone false = refl

    by_test : (b : Bool) → (n == c) ≡ b → (t : Bool) → ((test task && b) || passes_task test old) ≡ passes_task test (cond b (Some task) old)
    by_test true is t = ap (λ (o : Option Task). (test task && true) || passes_task test o) (fresh (eqb-true n c is)) ∙ alone (test task)
    by_test false is t = other (test task) (passes_task test old)
      where
        other : (b r : Bool) → ((b && false) || r) ≡ r
        other true r = refl
        other false r = refl

-- a command is opened that didn't end
pub opened-index : (s : Setting) (n stamp : ℕ) (task : Task) (past : List Entry) (old new : OpenIndex) → has_ended past n ≡ false → open_task n past ≡ None →
    AddsCommand s n task old new → KeepsIndex s past old → KeepsIndex s (book_entry stamp (Open n task) ∷ past) new
opened-index s n stamp task past old new still fresh adds keeps = record {
  stripes = λ q c.
      adds.stripes q c
      ∙ ap (λ (b : Bool). ((task.stripe == q) && (n == c)) || b) (keeps.stripes q c)
      ∙ added (λ t. t.stripe == q) task n c (open_task c past) (none c)
      ∙ ap (passes_task (λ t. t.stripe == q)) (sym (opened-task c n stamp past task still));
  commands = λ i c.
      adds.holders.commands i c
      ∙ ap (λ (b : Bool). (holds_at s i task && (n == c)) || b) (keeps.commands i c)
      ∙ added (holds_at s i) task n c (open_task c past) (none c)
      ∙ ap (passes_task (holds_at s i)) (sym (opened-task c n stamp past task still));
  counts = λ i.
      let now : held_count s (book_entry stamp (Open n task) ∷ past) i (book_entry stamp (Open n task) ∷ past)
      ≡ held_count s past i past + sum_by (held_by s i) (cond (has_ended past n) [] (task ∷ [])) =
      held-more s past i stamp (Open n task) (λ c. refl) in
      let one : sum_by (held_by s i) (cond (has_ended past n) [] (task ∷ [])) ≡ 0 + held_by s i task =
      ap (λ (b : Bool). sum_by (held_by s i) (cond b [] (task ∷ []))) still in
      let more : held_in new.holders.counts i ≡ held_in old.holders.counts i + held_by s i task = adds.holders.counts i in
      let before : held_in old.holders.counts i ≡ held_count s past i past = keeps.counts i in
      omega (arith, now, one, more, before);
}
  where
    none : (c : ℕ) → n ≡ c → open_task c past ≡ None
    none c same = subst (λ (k : ℕ). open_task k past ≡ None) same fresh

-- a command is opened that ended before
pub idle-index : (s : Setting) (n stamp : ℕ) (task : Task) (past : List Entry) (index : OpenIndex) → has_ended past n ≡ true →
    KeepsIndex s past index → KeepsIndex s (book_entry stamp (Open n task) ∷ past) index
idle-index s n stamp task past index over keeps = record {
  stripes = λ q c. keeps.stripes q c ∙ ap (passes_task (λ t. t.stripe == q)) (sym (ended-opened c n stamp past task over));
  commands = λ i c. keeps.commands i c ∙ ap (passes_task (holds_at s i)) (sym (ended-opened c n stamp past task over));
  counts = λ i.
      let now : held_count s (book_entry stamp (Open n task) ∷ past) i (book_entry stamp (Open n task) ∷ past)
      ≡ held_count s past i past + sum_by (held_by s i) (cond (has_ended past n) [] (task ∷ [])) =
      held-more s past i stamp (Open n task) (λ c. refl) in
      let nothing : sum_by (held_by s i) (cond (has_ended past n) [] (task ∷ [])) ≡ 0 =
      ap (λ (b : Bool). sum_by (held_by s i) (cond b [] (task ∷ []))) over in
      let before : held_in index.holders.counts i ≡ held_count s past i past = keeps.counts i in
      omega (arith, now, nothing, before);
}

-- a command is taken out of the groups that its task passes
taken-out : (test : Task → Bool) (n c : ℕ) (past : List Entry) →
    (passes_task test (open_task c past) && not (passes_task test (open_task n past) && (n == c))) ≡ passes_task test (cond (n == c) None (open_task c past))
taken-out test n c past = by_test (n == c) refl
  where
    both : (b : Bool) → (b && not (b && true)) ≡ false
    both true = refl
    both false = refl

    other : (b r : Bool) → (b && not (r && false)) ≡ b
    other true true = refl
    other true false = refl
    other false r = refl

    by_test : (b : Bool) → (n == c) ≡ b →
        (passes_task test (open_task c past) && not (passes_task test (open_task n past) && b)) ≡ passes_task test (cond b None (open_task c past))
    by_test true is =
        ap (λ (k : ℕ). passes_task test (open_task c past) && not (passes_task test (open_task k past) && true)) (eqb-true n c is)
        ∙ both (passes_task test (open_task c past))
    by_test false is = other (passes_task test (open_task c past)) (passes_task test (open_task n past))

-- a command ends
pub ended-index : (s : Setting) (n stamp : ℕ) (event : Event) (past : List Entry) (old new : OpenIndex) → AreNumbered past → IsEnd n event →
    RemovesCommand s n (open_task n past) old new → KeepsIndex s past old → KeepsIndex s (book_entry stamp event ∷ past) new
ended-index s n stamp event past old new numbered ends removes keeps = record {
  stripes = λ q c.
      removes.stripes q c
      ∙ ap (λ (b : Bool). b && not (passes_task (λ t. t.stripe == q) (open_task n past) && (n == c))) (keeps.stripes q c)
      ∙ taken-out (λ t. t.stripe == q) n c past
      ∙ ap (passes_task (λ t. t.stripe == q)) (sym (ended-task c n stamp past event ends));
  commands = λ i c.
      removes.commands i c
      ∙ ap (λ (b : Bool). b && not (passes_task (holds_at s i) (open_task n past) && (n == c))) (keeps.commands i c)
      ∙ taken-out (holds_at s i) n c past
      ∙ ap (passes_task (holds_at s i)) (sym (ended-task c n stamp past event ends));
  counts = λ i.
      let now : held_count s (book_entry stamp event ∷ past) i (book_entry stamp event ∷ past) + held_where s i (open_task n past) ≡ held_count s past i past =
      held-fewer s past i stamp n event numbered (end-ends n event ends) (end-tasks n event ends) in
      let fewer : held_in new.holders.counts i ≡ held_in old.holders.counts i - held_where s i (open_task n past) = removes.counts i in
      let before : held_in old.holders.counts i ≡ held_count s past i past = keeps.counts i in
      omega (arith, now, fewer, before);
}

-- an opening that couldn't be written down is taken back
pub back-index : (s : Setting) (n : ℕ) (task : Task) (past : List Entry) (old more new : OpenIndex) → open_task n past ≡ None →
    AddsCommand s n task old more → RemovesCommand s n (Some task) more new → KeepsIndex s past old → KeepsIndex s past new
back-index s n task past old more new fresh adds removes keeps = record {
  stripes = λ q c.
      removes.stripes q c
      ∙ ap (λ (b : Bool). b && not ((task.stripe == q) && (n == c))) (adds.stripes q c)
      ∙ as-before (task.stripe == q) (n == c) (is_in old.on_stripes q c)
      (λ same. keeps.stripes q c ∙ ap (passes_task (λ t. t.stripe == q)) (none c (eqb-true n c same)))
      ∙ keeps.stripes q c;
  commands = λ i c.
      removes.commands i c
      ∙ ap (λ (b : Bool). b && not (holds_at s i task && (n == c))) (adds.holders.commands i c)
      ∙ as-before (holds_at s i task) (n == c) (is_in old.holders.commands i c)
      (λ same. keeps.commands i c ∙ ap (passes_task (holds_at s i)) (none c (eqb-true n c same)))
      ∙ keeps.commands i c;
  counts = λ i.
      let more_so : held_in more.holders.counts i ≡ held_in old.holders.counts i + held_by s i task = adds.holders.counts i in
      let fewer : held_in new.holders.counts i ≡ held_in more.holders.counts i - held_by s i task = removes.counts i in
      let before : held_in old.holders.counts i ≡ held_count s past i past = keeps.counts i in
      omega (arith, more_so, fewer, before);
}
  where
    none : (c : ℕ) → n ≡ c → open_task c past ≡ None
    none c same = subst (λ (k : ℕ). open_task k past ≡ None) same fresh

    as-before : (t q r : Bool) → (q ≡ true → r ≡ false) → (((t && q) || r) && not (t && q)) ≡ r
    as-before true true r f = sym (f refl)
    as-before true false true f = refl
    as-before true false false f = refl
    as-before false q true f = refl
    as-before false q false f = refl
