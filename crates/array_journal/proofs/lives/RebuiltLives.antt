-- The life of the disk that the newest rebuild that is done wrote to. Counted at its opening, by the swaps before it, or at
-- its put, by the disks that were put in, it comes to one number, which never falls.
use Rattle.std.specs.Prelude.{◌≡◌, ◌==◌, ◌&&◌, ◌≤◌, ◌⊎◌, ℕ, ◌+◌, Bool, true, false, List, [], ◌∷◌, if◌then◌else◌}
use Rattle.std.proofs.Common.{refl, ap, sym, ◌∙◌, cond, arith, subst, inl, inr}
use Rattle.std.proofs.lemmas.Bool.{cond_both, eq-eqb, eqb-true, cases_Bool, and_from, and_parts, both_ways, false≢true, cond-true, cond-false}
use Rattle.array_journal.specs.declared.at.At.{At}
use Rattle.array_journal.specs.declared.entry.Entry.{Entry}
use Rattle.array_journal.specs.declared.event.Event.{Event}
use Rattle.array_journal.specs.declared.event.Event.TheVariants.{Open}
use Rattle.array_journal.specs.declared.setting.Setting.{Setting}
use Rattle.array_journal.specs.declared.task.Task.{Task}
use Rattle.array_journal.specs.Entries.{name_of, same_at, some_at, count_before}
use Rattle.array_journal.specs.Commands.{opens_command}
use Rattle.array_journal.specs.declared.act.Act.{Act}
use Rattle.array_journal.specs.declared.act.Act.TheVariants.{Puts}
use Rattle.array_journal.specs.Acts.{is_act}
use Rattle.array_journal.specs.Lives.{is_swap_of, life_of, swap_count, has_rebuilt, puts_rebuilt, opens_rebuilt}
use Rattle.array_journal.specs.Run.{Grows}
use Rattle.array_journal.specs.Laws.{note_count, entries_before}
use Rattle.array_journal.proofs.runs.Standing.{may-here, some_at-cases, some_at-more, some_at-newest, count_at-more}
use Rattle.array_journal.proofs.runs.CommandLaws.{task-opened}
use Rattle.array_journal.proofs.lives.LifeLaws.{life-more, working-counts}
use Rattle.array_journal.proofs.held.HeldOwners.{ActAt, acts, act-asks, HasAct, acted-has}
use Rattle.array_journal.proofs.owed.EndedCommands.{act-opened}
use Rattle.array_journal.proofs.lives.OpenedSwaps.{opened_swaps, either_le, opened_swaps-le, opened_swaps-more, named-swaps, fresh-le_before}
use Rattle.array_journal.proofs.lives.DoneRebuilds.{opens-rebuilt, puts-rebuilt, put-puts, rebuilt-put, has_rebuilt-more}

-- how often slot i was swapped before the newest opening, in these entries, of a rebuild that is done in all of them
abbrev pub rebuilt_in : List Entry → ℕ → ℕ → List Entry → ℕ
rebuilt_in whole i stripe [] = 0
rebuilt_in whole i stripe (e ∷ past) =
    if (e.lock == 0) && opens_rebuilt whole i stripe e.event then swap_count i past else rebuilt_in whole i stripe past

-- the life of the disk at the newest put, in these entries, of such a rebuild
abbrev pub put_life_in : List Entry → ℕ → ℕ → List Entry → ℕ
put_life_in whole i stripe [] = 0
put_life_in whole i stripe (e ∷ past) =
    if (e.lock == i + 1) && puts_rebuilt whole i stripe e.event then life_of i past else put_life_in whole i stripe past

pub rebuilt-le : (whole : List Entry) (i stripe : ℕ) (past : List Entry) → rebuilt_in whole i stripe past ≤ swap_count i past
rebuilt-le whole i stripe [] = omega arith
rebuilt-le whole i stripe (e ∷ past) =
    let a : swap_count i past ≤ swap_count i (e ∷ past) = count_at-more 0 (is_swap_of i) e past in
    let b : rebuilt_in whole i stripe past ≤ swap_count i past = rebuilt-le whole i stripe past in
    either_le ((e.lock == 0) && opens_rebuilt whole i stripe e.event) (swap_count i past) (rebuilt_in whole i stripe past) (swap_count i (e ∷ past)) a (omega arith)

pub put_life-le : (whole : List Entry) (i stripe : ℕ) (past : List Entry) → put_life_in whole i stripe past ≤ life_of i past
put_life-le whole i stripe [] = omega arith
put_life-le whole i stripe (e ∷ past) =
    let a : life_of i past ≤ life_of i (e ∷ past) = life-more i e past in
    let b : put_life_in whole i stripe past ≤ life_of i past = put_life-le whole i stripe past in
    either_le ((e.lock == i + 1) && puts_rebuilt whole i stripe e.event) (life_of i past) (put_life_in whole i stripe past) (life_of i (e ∷ past)) a (omega arith)

either_ge : (b : Bool) (m n k : ℕ) → k ≤ m → k ≤ n → k ≤ cond b m n
either_ge true m n k p q = p
either_ge false m n k p q = q

-- the put of a rebuild is in the life that its opening counted
put-life : (s : Setting) (past : List Entry) (stamp i c : ℕ) → Grows s past → ActAt s past stamp i c Puts →
    (opened_swaps i c past ≤ life_of i past) × (life_of i past ≤ opened_swaps i c past)
put-life s past stamp i c g (acts opened task sources row len cdb a) =
    let n : (note_count i past ≡ life_of i past) × (swap_count i past ≡ life_of i past) = working-counts s i past g a.not_gone in
    let w : swap_count i past ≡ life_of i past = n.1 in
    let o : opened_swaps i c past ≤ swap_count i past = opened_swaps-le i c past in
    let b : life_of i past ≤ count_before 0 (is_swap_of i) opened.stamp past = fresh-le_before s i opened past g a.same_life in
    let d : count_before 0 (is_swap_of i) opened.stamp past ≤ opened_swaps i c past = named-swaps s i opened c task past g a.in_book a.opening.0 in
    (omega arith, omega arith)

acted-opened : (s : Setting) (i c : ℕ) (act : Act) (past : List Entry) → Grows s past → some_at (i + 1) (is_act act c) past ≡ true → some_at 0 (opens_command c) past ≡ true
acted-opened s i c act past g h = let a : HasAct s past i c act = acted-has s i c act past g h in task-opened c past a.0 a.1.0

put-reaches : (s : Setting) (whole : List Entry) (i stripe c : ℕ) (past : List Entry) → Grows s past → has_rebuilt whole i stripe c ≡ true →
    some_at (i + 1) (is_act Puts c) past ≡ true → opened_swaps i c past ≤ put_life_in whole i stripe past
put-reaches s whole i stripe c [] g r h = absurd (false≢true h)
put-reaches s whole i stripe c (e ∷ past) g r h = elim (some_at-cases (i + 1) (is_act Puts c) e past h) [
  | inl here ↦ newest here.0 here.1 (act-asks s past e.stamp i c Puts e.event (may-here s past e.stamp e.lock i e.event here.0 g.0.1.1) here.1)
  | inr older ↦
      let a : opened_swaps i c past ≤ put_life_in whole i stripe past = put-reaches s whole i stripe c past g.1 r older in
      let b : opened_swaps i c (e ∷ past) ≡ opened_swaps i c past = opened_swaps-more s i c e past g (acted-opened s i c Puts past g.1 older) in
      let l : put_life_in whole i stripe past ≤ life_of i past = put_life-le whole i stripe past in
      let d : put_life_in whole i stripe past ≤ put_life_in whole i stripe (e ∷ past) =
      either_ge ((e.lock == i + 1) && puts_rebuilt whole i stripe e.event) (life_of i past) (put_life_in whole i stripe past) (put_life_in whole i stripe past) l (omega arith) in
      omega arith
]
  where
    newest : e.lock ≡ i + 1 → is_act Puts c e.event ≡ true → ActAt s past e.stamp i c Puts → opened_swaps i c (e ∷ past) ≤ put_life_in whole i stripe (e ∷ past)
    newest here p a =
        let b : opened_swaps i c (e ∷ past) ≡ opened_swaps i c past = opened_swaps-more s i c e past g (act-opened s past e.stamp i c Puts a) in
        let d : put_life_in whole i stripe (e ∷ past) ≡ life_of i past =
        cond-true ((e.lock == i + 1) && puts_rebuilt whole i stripe e.event) (life_of i past) (put_life_in whole i stripe past)
        (and_from (e.lock == i + 1) (puts_rebuilt whole i stripe e.event) (eq-eqb e.lock (i + 1) here) (put-puts whole i stripe c e.event p r)) in
        let f : (opened_swaps i c past ≤ life_of i past) × (life_of i past ≤ opened_swaps i c past) = put-life s past e.stamp i c g.1 a in
        let l : opened_swaps i c past ≤ life_of i past = f.0 in omega arith

-- a rebuild that is done in all entries and was opened in these counts at least so many swaps
abbrev IsReached : List Entry → ℕ → ℕ → List Entry → ℕ → Type 0
IsReached whole i stripe past n =
    (n ≡ 0) ⊎ ((c : ℕ) × ((has_rebuilt whole i stripe c ≡ true) × ((some_at 0 (opens_command c) past ≡ true) × (n ≤ opened_swaps i c past))))

reached-more : (s : Setting) (whole : List Entry) (i stripe n : ℕ) (e : Entry) (past : List Entry) → Grows s (e ∷ past) → IsReached whole i stripe past n →
    IsReached whole i stripe (e ∷ past) n
reached-more s whole i stripe n e past g (inl none) = inl none
reached-more s whole i stripe n e past g (inr (c, (r, (o, l)))) =
    let b : opened_swaps i c (e ∷ past) ≡ opened_swaps i c past = opened_swaps-more s i c e past g o in
    inr (c, (r, (some_at-more 0 (opens_command c) e past o, omega arith)))

put-comes : (s : Setting) (whole : List Entry) (i stripe : ℕ) (past : List Entry) → Grows s past → IsReached whole i stripe past (put_life_in whole i stripe past)
put-comes s whole i stripe [] g = inl refl
put-comes s whole i stripe (e ∷ past) g = elim (cases_Bool ((e.lock == i + 1) && puts_rebuilt whole i stripe e.event)) [
  | inl put ↦ newest put
  | inr other ↦ subst (IsReached whole i stripe (e ∷ past))
      (sym (cond-false ((e.lock == i + 1) && puts_rebuilt whole i stripe e.event) (life_of i past) (put_life_in whole i stripe past) other))
      (reached-more s whole i stripe (put_life_in whole i stripe past) e past g (put-comes s whole i stripe past g.1))
]
  where
    newest : ((e.lock == i + 1) && puts_rebuilt whole i stripe e.event) ≡ true → IsReached whole i stripe (e ∷ past) (put_life_in whole i stripe (e ∷ past))
    newest put =
        let parts : ((e.lock == i + 1) ≡ true) × (puts_rebuilt whole i stripe e.event ≡ true) = and_parts (e.lock == i + 1) (puts_rebuilt whole i stripe e.event) put in
        let p : (c : ℕ) × ((is_act Puts c e.event ≡ true) × (has_rebuilt whole i stripe c ≡ true)) = puts-rebuilt whole i stripe e.event parts.1 in
        let a : ActAt s past e.stamp i p.0 Puts =
        act-asks s past e.stamp i p.0 Puts e.event (may-here s past e.stamp e.lock i e.event (eqb-true e.lock (i + 1) parts.0) g.0.1.1) p.1.0 in
        let o : some_at 0 (opens_command p.0) past ≡ true = act-opened s past e.stamp i p.0 Puts a in
        let b : opened_swaps i p.0 (e ∷ past) ≡ opened_swaps i p.0 past = opened_swaps-more s i p.0 e past g o in
        let d : put_life_in whole i stripe (e ∷ past) ≡ life_of i past =
        cond-true ((e.lock == i + 1) && puts_rebuilt whole i stripe e.event) (life_of i past) (put_life_in whole i stripe past) put in
        let f : (opened_swaps i p.0 past ≤ life_of i past) × (life_of i past ≤ opened_swaps i p.0 past) = put-life s past e.stamp i p.0 g.1 a in
        let l : life_of i past ≤ opened_swaps i p.0 past = f.1 in
        inr (p.0, (p.1.1, (some_at-more 0 (opens_command p.0) e past o, omega arith)))

opens-opens : (whole : List Entry) (i stripe c : ℕ) (event : Event) → opens_command c event ≡ true → has_rebuilt whole i stripe c ≡ true →
    opens_rebuilt whole i stripe event ≡ true
opens-opens whole i stripe c (Open command task) h r = subst (λ (d : ℕ). has_rebuilt whole i stripe d ≡ true) (sym (eqb-true command c h)) r
opens-opens whole i stripe c _ h r = absurd (false≢true h)

opening-reaches : (s : Setting) (whole : List Entry) (i stripe c : ℕ) (past : List Entry) → Grows s past → has_rebuilt whole i stripe c ≡ true →
    some_at 0 (opens_command c) past ≡ true → opened_swaps i c past ≤ rebuilt_in whole i stripe past
opening-reaches s whole i stripe c [] g r h = absurd (false≢true h)
opening-reaches s whole i stripe c (e ∷ past) g r h = elim (cases_Bool ((e.lock == 0) && opens_rebuilt whole i stripe e.event)) [
  | inl opened ↦
      let a : rebuilt_in whole i stripe (e ∷ past) ≡ swap_count i past =
      cond-true ((e.lock == 0) && opens_rebuilt whole i stripe e.event) (swap_count i past) (rebuilt_in whole i stripe past) opened in
      let b : opened_swaps i c past ≤ swap_count i past = opened_swaps-le i c past in
      let d : opened_swaps i c (e ∷ past) ≤ swap_count i past =
      either_le ((e.lock == 0) && opens_command c e.event) (swap_count i past) (opened_swaps i c past) (swap_count i past) (omega arith) b in omega arith
  | inr other ↦
      let o : some_at 0 (opens_command c) past ≡ true = older other in
      let a : rebuilt_in whole i stripe (e ∷ past) ≡ rebuilt_in whole i stripe past =
      cond-false ((e.lock == 0) && opens_rebuilt whole i stripe e.event) (swap_count i past) (rebuilt_in whole i stripe past) other in
      let b : opened_swaps i c (e ∷ past) ≡ opened_swaps i c past = opened_swaps-more s i c e past g o in
      let d : opened_swaps i c past ≤ rebuilt_in whole i stripe past = opening-reaches s whole i stripe c past g.1 r o in omega arith
]
  where
    older : ((e.lock == 0) && opens_rebuilt whole i stripe e.event) ≡ false → some_at 0 (opens_command c) past ≡ true
    older other = elim (some_at-cases 0 (opens_command c) e past h) [
      | inl here ↦ absurd (both_ways ((e.lock == 0) && opens_rebuilt whole i stripe e.event) other
          (and_from (e.lock == 0) (opens_rebuilt whole i stripe e.event) (eq-eqb e.lock 0 here.0) (opens-opens whole i stripe c e.event here.1 r)))
      | inr before ↦ before
    ]

opening-comes : (s : Setting) (whole : List Entry) (i stripe : ℕ) (past : List Entry) → Grows s past → IsReached whole i stripe past (rebuilt_in whole i stripe past)
opening-comes s whole i stripe [] g = inl refl
opening-comes s whole i stripe (e ∷ past) g = elim (cases_Bool ((e.lock == 0) && opens_rebuilt whole i stripe e.event)) [
  | inl opened ↦ newest opened
  | inr other ↦ subst (IsReached whole i stripe (e ∷ past))
      (sym (cond-false ((e.lock == 0) && opens_rebuilt whole i stripe e.event) (swap_count i past) (rebuilt_in whole i stripe past) other))
      (reached-more s whole i stripe (rebuilt_in whole i stripe past) e past g (opening-comes s whole i stripe past g.1))
]
  where
    newest : ((e.lock == 0) && opens_rebuilt whole i stripe e.event) ≡ true → IsReached whole i stripe (e ∷ past) (rebuilt_in whole i stripe (e ∷ past))
    newest opened =
        let parts : ((e.lock == 0) ≡ true) × (opens_rebuilt whole i stripe e.event ≡ true) = and_parts (e.lock == 0) (opens_rebuilt whole i stripe e.event) opened in
        let o : (c : ℕ) × ((task : Task) × ((e.event ≡ Open c task) × (has_rebuilt whole i stripe c ≡ true))) = opens-rebuilt whole i stripe e.event parts.1 in
        let q : opens_command o.0 e.event ≡ true = ap (opens_command o.0) o.1.1.0 ∙ eq-eqb o.0 o.0 refl in
        let a : rebuilt_in whole i stripe (e ∷ past) ≡ swap_count i past =
        cond-true ((e.lock == 0) && opens_rebuilt whole i stripe e.event) (swap_count i past) (rebuilt_in whole i stripe past) opened in
        let b : opened_swaps i o.0 (e ∷ past) ≡ swap_count i past =
        cond-true ((e.lock == 0) && opens_command o.0 e.event) (swap_count i past) (opened_swaps i o.0 past) (and_from (e.lock == 0) (opens_command o.0 e.event) parts.0 q) in
        inr (o.0, (o.1.1.1, (some_at-newest 0 (opens_command o.0) e past (eqb-true e.lock 0 parts.0) q, omega arith)))

-- the openings and the puts of the rebuilds that are done come to one life
pub put_life-same : (s : Setting) (i stripe : ℕ) (whole : List Entry) → Grows s whole → put_life_in whole i stripe whole ≡ rebuilt_in whole i stripe whole
put_life-same s i stripe whole g =
    let a : put_life_in whole i stripe whole ≤ rebuilt_in whole i stripe whole = lower (put-comes s whole i stripe whole g) in
    let b : rebuilt_in whole i stripe whole ≤ put_life_in whole i stripe whole = upper (opening-comes s whole i stripe whole g) in omega arith
  where
    lower : IsReached whole i stripe whole (put_life_in whole i stripe whole) → put_life_in whole i stripe whole ≤ rebuilt_in whole i stripe whole
    lower (inl none) = omega arith
    lower (inr (c, (r, (o, l)))) =
        let m : opened_swaps i c whole ≤ rebuilt_in whole i stripe whole = opening-reaches s whole i stripe c whole g r o in omega arith

    upper : IsReached whole i stripe whole (rebuilt_in whole i stripe whole) → rebuilt_in whole i stripe whole ≤ put_life_in whole i stripe whole
    upper (inl none) = omega arith
    upper (inr (c, (r, (o, l)))) =
        let m : opened_swaps i c whole ≤ put_life_in whole i stripe whole = put-reaches s whole i stripe c whole g r (rebuilt-put s i stripe c whole g r) in omega arith

rebuilt-more : (s : Setting) (i stripe : ℕ) (e : Entry) (past : List Entry) → Grows s (e ∷ past) →
    rebuilt_in past i stripe past ≤ rebuilt_in (e ∷ past) i stripe (e ∷ past)
rebuilt-more s i stripe e past g = more (opening-comes s past i stripe past g.1)
  where
    more : IsReached past i stripe past (rebuilt_in past i stripe past) → rebuilt_in past i stripe past ≤ rebuilt_in (e ∷ past) i stripe (e ∷ past)
    more (inl none) = omega arith
    more (inr (c, (r, (o, l)))) =
        let b : opened_swaps i c (e ∷ past) ≡ opened_swaps i c past = opened_swaps-more s i c e past g o in
        let d : opened_swaps i c (e ∷ past) ≤ rebuilt_in (e ∷ past) i stripe (e ∷ past) =
        opening-reaches s (e ∷ past) i stripe c (e ∷ past) g (has_rebuilt-more s i stripe c e past g r) (some_at-more 0 (opens_command c) e past o) in omega arith

-- the entries before one of a run are a run
pub before-grows : (s : Setting) (name : At) (past : List Entry) → Grows s past → Grows s (entries_before name past)
before-grows s name [] g = tt
before-grows s name (e ∷ past) g = cond_both (same_at name (name_of e)) past (entries_before name past) (Grows s) (λ h. g.1) (λ h. before-grows s name past g.1)

pub rebuilt-since : (s : Setting) (i stripe : ℕ) (name : At) (past : List Entry) → Grows s past →
    rebuilt_in (entries_before name past) i stripe (entries_before name past) ≤ rebuilt_in past i stripe past
rebuilt-since s i stripe name [] g = omega arith
rebuilt-since s i stripe name (e ∷ past) g =
    let a : rebuilt_in past i stripe past ≤ rebuilt_in (e ∷ past) i stripe (e ∷ past) = rebuilt-more s i stripe e past g in
    let b : rebuilt_in (entries_before name past) i stripe (entries_before name past) ≤ rebuilt_in past i stripe past = rebuilt-since s i stripe name past g.1 in
    cond_both (same_at name (name_of e)) past (entries_before name past) (λ (x : List Entry). rebuilt_in x i stripe x ≤ rebuilt_in (e ∷ past) i stripe (e ∷ past))
    (λ h. a) (λ h. omega arith)
