-- How an absent unit comes back: by a rebuild of it that is closed as done, and not otherwise.
use Rattle.std.specs.Prelude.{◌≡◌, ◌==◌, ◌&&◌, ◌||◌, ◌⊎◌, not, ℕ, ◌+◌, Bool, true, false, List, [], ◌∷◌, Option, Some}
use Rattle.std.proofs.Common.{refl, ap, sym, ◌∙◌, cond, subst, inl, inr}
use Rattle.std.proofs.lemmas.Bool.{eq-eqb, eqb-true, cases_Bool, and_parts, and_cases, and_left, and_right, both_ways, false≢true}
use Rattle.array_journal.specs.declared.entry.Entry.{Entry}
use Rattle.array_journal.specs.declared.event.Event.{Event}
use Rattle.array_journal.specs.declared.event.Event.TheVariants.{Put, Close}
use Rattle.array_journal.specs.declared.setting.Setting.{Setting}
use Rattle.array_journal.specs.declared.task.Task.{Task}
use Rattle.array_journal.specs.Entries.{some_at}
use Rattle.array_journal.specs.Commands.{opens_command, ends_command, is_open, task_of}
use Rattle.array_journal.specs.declared.act.Act.TheVariants.{Puts}
use Rattle.array_journal.specs.Acts.{is_act}
use Rattle.array_journal.specs.Lives.{rebuilds, closes_done, has_rebuilt, puts_rebuilt, is_loss, absent_in, is_absent}
use Rattle.array_journal.specs.Run.{Grows}
use Rattle.array_journal.proofs.runs.Standing.{may-here}
use Rattle.array_journal.proofs.runs.CommandLaws.{opened-once, ended-opened, ends-open}
use Rattle.array_journal.proofs.owed.ActBars.{some_at-weaker}
use Rattle.array_journal.proofs.owed.EndedCommands.{act-not_ended}
use Rattle.array_journal.proofs.windows.WindowLaws.{older-task}
use Rattle.array_journal.proofs.lives.DoneRebuilds.{IsRebuild, rebuilds-some, puts-rebuilt, done-ends}

-- the event closes as done a rebuild of the unit of target i in a stripe
abbrev pub closes_rebuild : List Entry → ℕ → ℕ → Event → Bool
closes_rebuild past i stripe (Close command true names cause bytes) = rebuilds i stripe (task_of command past)
closes_rebuild past i stripe _ = false

-- the entry by which a unit comes back
pub record Returns (s : Setting) (i stripe : ℕ) (e : Entry) (past : List Entry) : Type 0 where
  pub command : ℕ
  pub task : Task
  pub in_book : e.lock ≡ 0
  pub closes : closes_done command e.event ≡ true
  pub opened : is_open command past ≡ true
  pub its_task : task_of command past ≡ Some task
  pub rebuild : IsRebuild i stripe task

closing : (past : List Entry) (i stripe : ℕ) (event : Event) → closes_rebuild past i stripe event ≡ true →
    (c : ℕ) × ((closes_done c event ≡ true) × (rebuilds i stripe (task_of c past) ≡ true))
closing past i stripe (Close command true names cause bytes) h = (command, (eq-eqb command command refl, h))
closing past i stripe (Close command false names cause bytes) h = absurd (false≢true h)
closing past i stripe _ h = absurd (false≢true h)

returning : (s : Setting) (i stripe : ℕ) (e : Entry) (past : List Entry) → Grows s (e ∷ past) → e.lock ≡ 0 → closes_rebuild past i stripe e.event ≡ true → Returns s i stripe e past
returning s i stripe e past g book h =
    let c : (c : ℕ) × ((closes_done c e.event ≡ true) × (rebuilds i stripe (task_of c past) ≡ true)) = closing past i stripe e.event h in
    let t : (task : Task) × ((task_of c.0 past ≡ Some task) × IsRebuild i stripe task) = rebuilds-some i stripe (task_of c.0 past) c.1.1 in
    record {
      command = c.0;
      task = t.0;
      in_book = book;
      closes = c.1.0;
      opened = ends-open s c.0 e past g.0.1 book (done-ends c.0 e.event c.1.0);
      its_task = t.1.0;
      rebuild = t.1.1;
    }

-- an event that closes a command as done closes a rebuild only where that is its task
not_closing : (past : List Entry) (i stripe c : ℕ) (event : Event) → closes_done c event ≡ true → closes_rebuild past i stripe event ≡ false →
    rebuilds i stripe (task_of c past) ≡ false
not_closing past i stripe c (Close command true names cause bytes) h none = subst (λ (d : ℕ). rebuilds i stripe (task_of d past) ≡ false) (eqb-true command c h) none
not_closing past i stripe c (Close command false names cause bytes) h none = absurd (false≢true h)
not_closing past i stripe c _ h none = absurd (false≢true h)

-- the rebuilds that are done are as before
rebuilt-same : (s : Setting) (i stripe c : ℕ) (e : Entry) (past : List Entry) → Grows s (e ∷ past) → ((e.lock == 0) && closes_rebuild past i stripe e.event) ≡ false →
    has_rebuilt (e ∷ past) i stripe c ≡ has_rebuilt past i stripe c
rebuilt-same s i stripe c e past g none = elim (cases_Bool ((e.lock == 0) && closes_done c e.event)) [
  | inl closes ↦ closed (and_parts (e.lock == 0) (closes_done c e.event) closes)
  | inr other ↦ ap (λ b. rebuilds i stripe (task_of c (e ∷ past)) && (b || some_at 0 (closes_done c) past)) other ∙ unclosed (cases_Bool (some_at 0 (closes_done c) past))
]
  where
    same_task : some_at 0 (opens_command c) past ≡ true → task_of c (e ∷ past) ≡ task_of c past
    same_task opened = older-task c e past (λ both. both_ways (opens_command c e.event) (opened-once s c e past g.1 g.0.1 both.0 opened) both.1)

    opened_of : (e.lock ≡ 0) → closes_done c e.event ≡ true → some_at 0 (opens_command c) past ≡ true
    opened_of book closes =
        (and_parts (some_at 0 (opens_command c) past) (not (some_at 0 (ends_command c) past)) (ends-open s c e past g.0.1 book (done-ends c e.event closes))).0

    closed : ((e.lock == 0) ≡ true) × (closes_done c e.event ≡ true) → has_rebuilt (e ∷ past) i stripe c ≡ has_rebuilt past i stripe c
    closed both =
        and_left (rebuilds i stripe (task_of c (e ∷ past))) (some_at 0 (closes_done c) (e ∷ past))
        (ap (rebuilds i stripe) (same_task (opened_of (eqb-true e.lock 0 both.0) both.1)) ∙ no_rebuild)
        ∙ sym (and_left (rebuilds i stripe (task_of c past)) (some_at 0 (closes_done c) past) no_rebuild)
      where
        no_rebuild : rebuilds i stripe (task_of c past) ≡ false
        no_rebuild = not_closing past i stripe c e.event both.1 (elim (and_cases (e.lock == 0) (closes_rebuild past i stripe e.event) none) [
          | inl away ↦ absurd (both_ways (e.lock == 0) away both.0)
          | inr quiet ↦ quiet
        ])

    unclosed : (some_at 0 (closes_done c) past ≡ true) ⊎ (some_at 0 (closes_done c) past ≡ false) →
        (rebuilds i stripe (task_of c (e ∷ past)) && some_at 0 (closes_done c) past) ≡ has_rebuilt past i stripe c
    unclosed (inl done) =
        ap (λ (t : Option Task). rebuilds i stripe t && some_at 0 (closes_done c) past)
        (same_task (ended-opened s c past g.1 (some_at-weaker 0 (closes_done c) (ends_command c) past (done-ends c) done)))
    unclosed (inr open_still) =
        and_right (rebuilds i stripe (task_of c (e ∷ past))) (some_at 0 (closes_done c) past) open_still
        ∙ sym (and_right (rebuilds i stripe (task_of c past)) (some_at 0 (closes_done c) past) open_still)

puts_rebuilt-same : (v w : List Entry) (i stripe : ℕ) (event : Event) → ((c : ℕ) → has_rebuilt v i stripe c ≡ has_rebuilt w i stripe c) →
    puts_rebuilt v i stripe event ≡ puts_rebuilt w i stripe event
puts_rebuilt-same v w i stripe (Put command opened cdb row bytes names) same = same command
puts_rebuilt-same v w i stripe _ same = refl

absent_in-same : (v w : List Entry) (i stripe : ℕ) (past : List Entry) → ((c : ℕ) → has_rebuilt v i stripe c ≡ has_rebuilt w i stripe c) →
    absent_in v i stripe past ≡ absent_in w i stripe past
absent_in-same v w i stripe [] same = refl
absent_in-same v w i stripe (e ∷ past) same =
    ap (λ b. cond ((e.lock == i + 1) && is_loss e.event) true (cond ((e.lock == i + 1) && puts_rebuilt v i stripe e.event) false b)) (absent_in-same v w i stripe past same)
    ∙ ap (λ b. cond ((e.lock == i + 1) && is_loss e.event) true (cond ((e.lock == i + 1) && b) false (absent_in w i stripe past)))
    (puts_rebuilt-same v w i stripe e.event same)

-- a put of a rebuild isn't one that is done
no-rebuilt_put : (s : Setting) (i stripe : ℕ) (e : Entry) (past : List Entry) → Grows s (e ∷ past) → ((c : ℕ) → has_rebuilt (e ∷ past) i stripe c ≡ has_rebuilt past i stripe c) →
    ((e.lock == i + 1) && puts_rebuilt (e ∷ past) i stripe e.event) ≡ false
no-rebuilt_put s i stripe e past g same = elim (cases_Bool ((e.lock == i + 1) && puts_rebuilt (e ∷ past) i stripe e.event)) [
  | inl puts ↦ absurd (never (and_parts (e.lock == i + 1) (puts_rebuilt (e ∷ past) i stripe e.event) puts))
  | inr none ↦ none
]
  where
    never : ((e.lock == i + 1) ≡ true) × (puts_rebuilt (e ∷ past) i stripe e.event ≡ true) → ⊥
    never both =
        let p : (c : ℕ) × ((is_act Puts c e.event ≡ true) × (has_rebuilt (e ∷ past) i stripe c ≡ true)) = puts-rebuilt (e ∷ past) i stripe e.event both.1 in
        let done : some_at 0 (closes_done p.0) past ≡ true =
        (and_parts (rebuilds i stripe (task_of p.0 past)) (some_at 0 (closes_done p.0) past) (sym (same p.0) ∙ p.1.1)).1 in
        both_ways (some_at 0 (ends_command p.0) past)
        (act-not_ended s past e.stamp i p.0 Puts e.event g.1 (may-here s past e.stamp e.lock i e.event (eqb-true e.lock (i + 1) both.0) g.0.1.1) p.1.0)
        (some_at-weaker 0 (closes_done p.0) (ends_command p.0) past (done-ends p.0) done)

-- an absent unit comes back by the close as done of its rebuild alone
pub absent-returns : (s : Setting) (i stripe : ℕ) (e : Entry) (past : List Entry) → Grows s (e ∷ past) → is_absent i stripe past ≡ true →
    is_absent i stripe (e ∷ past) ≡ false → Returns s i stripe e past
absent-returns s i stripe e past g was now = elim (cases_Bool ((e.lock == 0) && closes_rebuild past i stripe e.event)) [
  | inl closes ↦ let both : ((e.lock == 0) ≡ true) × (closes_rebuild past i stripe e.event ≡ true) = and_parts (e.lock == 0) (closes_rebuild past i stripe e.event) closes in
      returning s i stripe e past g (eqb-true e.lock 0 both.0) both.1
  | inr other ↦ absurd (both_ways (is_absent i stripe (e ∷ past)) now (lasting (λ c. rebuilt-same s i stripe c e past g other)))
]
  where
    lasting : ((c : ℕ) → has_rebuilt (e ∷ past) i stripe c ≡ has_rebuilt past i stripe c) → is_absent i stripe (e ∷ past) ≡ true
    lasting same =
        ap (λ b. cond ((e.lock == i + 1) && is_loss e.event) true (cond b false (absent_in (e ∷ past) i stripe past))) (no-rebuilt_put s i stripe e past g same)
        ∙ ap (λ b. cond ((e.lock == i + 1) && is_loss e.event) true b) (absent_in-same (e ∷ past) past i stripe past same ∙ was)
        ∙ both ((e.lock == i + 1) && is_loss e.event)
      where
        both : (b : Bool) → cond b true true ≡ true
        both true = refl
        both false = refl
