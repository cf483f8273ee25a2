-- A unit is missing where its slot is noted and none of the rebuilds that were opened since is closed as done.
use Rattle.std.proofs.Common.{◌≡◌, ◌==◌, ◌&&◌, ◌||◌, ℕ, Bool, true, false, List, [], ◌∷◌, ◌++◌, Option, Some, None, refl, ap, sym, ◌∙◌, cond, inl, inr}
use Rattle.std.specs.Prelude.{not, option_map}
use Rattle.std.specs.List.{list_any}
use Rattle.std.proofs.lemmas.Bool.{cases_eq, eq-eqb, ne_eqb, and_parts, or_right, false≢true}
use Rattle.std.proofs.lemmas.List.Folds.{list_any-append}
use Rattle.array_journal.specs.declared.entry.Entry.{Entry}
use Rattle.array_journal.specs.declared.event.Event.{Event}
use Rattle.array_journal.specs.declared.event.Event.TheVariants.{Open, Note}
use Rattle.array_journal.specs.declared.task.Task.{Task}
use Rattle.array_journal.specs.Commands.{task_of, first_task}
use Rattle.array_journal.specs.Lives.{is_missing, missing_in, has_rebuilt, rebuilds}
use Rattle.array_journal.proofs.runs.Steps.{task_of-quiet}
use Rattle.array_book.specs.Noted.{opened_since, missing_by}

-- one more command that passes the test, and one that doesn't
passes-more : (test : ℕ → Bool) (c : ℕ) (old : Option (List ℕ)) → test c ≡ true → missing_by test (option_map (λ cs. cs ++ c ∷ []) old) ≡ false
passes-more test c None h = refl
passes-more test c (Some cs) h =
    ap not (list_any-append test cs (c ∷ []) ∙ or_right (list_any test cs) (list_any test (c ∷ [])) (ap (λ b. b || false) h))

fails-more : (test : ℕ → Bool) (c : ℕ) (old : Option (List ℕ)) → test c ≡ false → missing_by test (option_map (λ cs. cs ++ c ∷ []) old) ≡ missing_by test old
fails-more test c None h = refl
fails-more test c (Some cs) h =
    ap not (list_any-append test cs (c ∷ []) ∙ ap (λ b. list_any test cs || (b || false)) h ∙ or_none (list_any test cs))
  where
    or_none : (b : Bool) → (b || false) ≡ b
    or_none true = refl
    or_none false = refl

-- where the newest opening of each rebuilt command stands among some entries, they decide as all entries do
module _ (whole : List Entry) (i stripe : ℕ) where
  abbrev Agrees : List Entry → Type 0
  Agrees past = missing_in whole i stripe past ≡ missing_by (has_rebuilt whole i stripe) (opened_since i stripe past)

  abbrev HasOpenings : List Entry → Type 0
  HasOpenings past = (c : ℕ) → has_rebuilt whole i stripe c ≡ true → task_of c past ≡ task_of c whole

  note-agrees : (a b rest : Bool) (old : Option (List ℕ)) → rest ≡ missing_by (has_rebuilt whole i stripe) old →
      cond (a && b) true (cond (a && false) false rest) ≡ missing_by (has_rebuilt whole i stripe) (cond a (cond b (Some []) old) old)
  note-agrees true true rest old h = refl
  note-agrees true false rest old h = h
  note-agrees false b rest old h = h

  quiet-agrees : (a rest : Bool) (old : Option (List ℕ)) → rest ≡ missing_by (has_rebuilt whole i stripe) old →
      cond (a && false) true (cond (a && false) false rest) ≡ missing_by (has_rebuilt whole i stripe) (cond a old old)
  quiet-agrees true rest old h = h
  quiet-agrees false rest old h = h

  -- the opening of a command that is rebuilt: its task is the one that all entries know
  rebuilt-agrees : (c : ℕ) (task : Task) (old : Option (List ℕ)) → has_rebuilt whole i stripe c ≡ true → Some task ≡ task_of c whole →
      false ≡ missing_by (has_rebuilt whole i stripe) (cond (rebuilds i stripe (Some task)) (option_map (λ cs. cs ++ c ∷ []) old) old)
  rebuilt-agrees c task old done is =
      let here : rebuilds i stripe (Some task) ≡ true = ap (rebuilds i stripe) is ∙ (and_parts _ _ done).0 in
      sym (ap (λ b. missing_by (has_rebuilt whole i stripe) (cond b (option_map (λ cs. cs ++ c ∷ []) old) old)) here
      ∙ passes-more (has_rebuilt whole i stripe) c old done)

  other-agrees : (c : ℕ) (b rest : Bool) (old : Option (List ℕ)) → has_rebuilt whole i stripe c ≡ false → rest ≡ missing_by (has_rebuilt whole i stripe) old →
      rest ≡ missing_by (has_rebuilt whole i stripe) (cond b (option_map (λ cs. cs ++ c ∷ []) old) old)
  other-agrees c true rest old idle h = h ∙ sym (fails-more (has_rebuilt whole i stripe) c old idle)
  other-agrees c false rest old idle h = h

  open-agrees : (book done rest : Bool) (command : ℕ) (task : Task) (old : Option (List ℕ)) → has_rebuilt whole i stripe command ≡ done →
      (book ≡ true → done ≡ true → Some task ≡ task_of command whole) → (book && done ≡ false → rest ≡ missing_by (has_rebuilt whole i stripe) old) →
      cond (book && false) true (cond (book && done) false rest)
      ≡ missing_by (has_rebuilt whole i stripe) (cond book (cond (rebuilds i stripe (Some task)) (option_map (λ cs. cs ++ command ∷ []) old) old) old)
  open-agrees true true rest command task old is given h = rebuilt-agrees command task old is (given refl refl)
  open-agrees true false rest command task old is given h = other-agrees command (rebuilds i stripe (Some task)) rest old is (h refl)
  open-agrees false done rest command task old is given h = h refl

  -- what an opening leaves of the tasks of others
  others-stand : (book done : Bool) (command : ℕ) (task : Task) (past : List Entry) → has_rebuilt whole i stripe command ≡ done → book && done ≡ false →
      ((c : ℕ) → has_rebuilt whole i stripe c ≡ true → first_task (cond book (cond (command == c) (Some task) None) None) (task_of c past) ≡ task_of c whole) →
      HasOpenings past
  others-stand false done command task past is idle h c rebuilt = h c rebuilt
  others-stand true done command task past is idle h c rebuilt = elim (cases_eq command c) [
    | inl same ↦ absurd (false≢true (sym (is ∙ idle) ∙ ap (has_rebuilt whole i stripe) same ∙ rebuilt))
    | inr other ↦ sym (ap (λ b. first_task (cond b (Some task) None) (task_of c past)) (ne_eqb command c other)) ∙ h c rebuilt
  ]

  step-agrees : (stamp l : ℕ) (event : Event) (past : List Entry) → (HasOpenings past → Agrees past) →
      HasOpenings (record { stamp = stamp; lock = l; event = event } ∷ past) → Agrees (record { stamp = stamp; lock = l; event = event } ∷ past)
  step-agrees stamp l (Note slot lost) past before h =
      note-agrees (l == 0) (slot == i) (missing_in whole i stripe past) (opened_since i stripe past)
      (before (λ c r. sym (task_of-quiet c (record { stamp = stamp; lock = l; event = Note slot lost }) past refl) ∙ h c r))
  step-agrees stamp l (Open command task) past before h =
      open-agrees (l == 0) (has_rebuilt whole i stripe command) (missing_in whole i stripe past) command task (opened_since i stripe past) refl
      (λ book done. sym (ap (λ b. first_task (cond b (cond (command == command) (Some task) None) None) (task_of command past)) book
      ∙ ap (λ b. first_task (cond b (Some task) None) (task_of command past)) (eq-eqb command command refl)) ∙ h command done)
      (λ idle. before (others-stand (l == 0) (has_rebuilt whole i stripe command) command task past refl idle h))
  step-agrees stamp l event past before h =
      quiet-agrees (l == 0) (missing_in whole i stripe past) (opened_since i stripe past)
      (before (λ c r. sym (task_of-quiet c (record { stamp = stamp; lock = l; event = event }) past refl) ∙ h c r))

  agrees : (past : List Entry) → HasOpenings past → Agrees past
  agrees [] h = refl
  agrees (e ∷ past) h = step-agrees e.stamp e.lock e.event past (agrees past) h

-- the unit of target i in a stripe is missing by the rebuilds that were opened since the newest note of its slot
pub missing-since : (i stripe : ℕ) (past : List Entry) → is_missing i stripe past ≡ missing_by (has_rebuilt past i stripe) (opened_since i stripe past)
missing-since i stripe past = agrees past i stripe past (λ c rebuilt. refl)
