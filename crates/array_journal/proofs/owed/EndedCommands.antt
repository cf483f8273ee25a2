-- A bar against an act stays, and each act of a command that has ended is barred: so no act comes after the end.
use Rattle.std.specs.Prelude.{◌≡◌, ◌<◌, ◌≤◌, ℕ, ◌+◌, true, false, List, [], ◌∷◌, Some, length}
use Rattle.std.proofs.Common.{refl, ap, sym, ◌∙◌, arith, subst, inl, inr}
use Rattle.std.proofs.lemmas.Bool.{eq-eqb, eqb-true, cases_Bool, both_ways, false≢true}
use Rattle.sbc_cdbs.specs.declared.descriptor.Cdb.{Cdb}
use Rattle.array_journal.specs.declared.at.At.{At}
use Rattle.array_journal.specs.declared.entry.Entry.{Entry}
use Rattle.array_journal.specs.declared.event.Event.{Event}
use Rattle.array_journal.specs.declared.event.Event.TheVariants.{Take, Open}
use Rattle.array_journal.specs.declared.setting.Setting.{Setting}
use Rattle.array_journal.specs.declared.task.Task.{Task}
use Rattle.array_journal.specs.Entries.{entry_at, some_at, count_before, stamps_below}
use Rattle.array_journal.specs.Commands.{opens_command, ends_command, is_open}
use Rattle.array_journal.specs.declared.act.Act.{Act}
use Rattle.array_journal.specs.declared.act.Act.TheVariants.{Takes}
use Rattle.array_journal.specs.Acts.{is_act, shuts_command}
use Rattle.xor_buffers.specs.Held.{rows_held, has_owner}
use Rattle.xor_buffers.proofs.OwnerLaws.{found-owner}
use Rattle.array_journal.specs.Media.{held}
use Rattle.array_journal.specs.Lives.{life_of, is_swap_of}
use Rattle.array_journal.specs.May.{MayAct, MayTarget}
use Rattle.array_journal.specs.Run.{Grows}
use Rattle.array_journal.proofs.runs.Standing.{may-book, some_at-cases, IsNameOf, passes-said, entry_at-cases, count_before-still, count_before-all, named-below}
use Rattle.array_journal.proofs.runs.CommandLaws.{named-task, opened-once, ended-opened, named-opened, opened-open}
use Rattle.array_journal.proofs.lives.LifeLaws.{working-loss}
use Rattle.array_journal.proofs.held.HeldOwners.{ActAt, acts, act-asks, discarded-lacks}
use Rattle.array_journal.proofs.owed.ActBars.{Bar, made, is_shut, is_lost, is_emptied, bar-more, AllBarred, end-bars, no_end}
use Rattle.array_journal.proofs.lives.OpenedSwaps.{fresh-le_before}

pub taken-bytes : (s : Setting) (past : List Entry) (stamp i c : ℕ) (event : Event) → MayTarget s past stamp i event → is_act Takes c event ≡ true →
    (row len : ℕ) × ((bytes : List ℕ) × (rows_held s.geometry.block c row len (held s i past) ≡ Some bytes))
taken-bytes s past stamp i c (Take command opened cdb row bytes) m h =
    subst (λ (d : ℕ). (row len : ℕ) × ((found : List ℕ) × (rows_held s.geometry.block d row len (held s i past) ≡ Some found))) (eqb-true command c h)
    (row, length bytes, (bytes, m.1.taken))
taken-bytes s past stamp i c _ m h = absurd (false≢true h)

-- where a bar stands, the act may not follow
barred : (s : Setting) (past : List Entry) (stamp i c : ℕ) (act : Act) (event : Event) (opened : At) (task : Task) (sources row len : ℕ) (cdb : Cdb) → Grows s past →
    MayTarget s past stamp i event → is_act act c event ≡ true → MayAct s past stamp i c opened cdb row len sources task act →
    Bar c i (count_before 0 (is_swap_of i) opened.stamp past) act past → ⊥
barred s past stamp i c act event opened task sources row len cdb g m h a (made b) = both_ways (some_at (i + 1) (is_act act c) past) a.once b
barred s past stamp i c act event opened task sources row len cdb g m h a (is_shut b) = both_ways (some_at (i + 1) (shuts_command c) past) a.not_shut b
barred s past stamp i c act event opened task sources row len cdb g m h a (is_lost b) =
    let x : count_before 0 (is_swap_of i) opened.stamp past < life_of i past =
    working-loss s i (count_before 0 (is_swap_of i) opened.stamp past) past g a.not_gone b in
    let y : life_of i past ≤ count_before 0 (is_swap_of i) opened.stamp past = fresh-le_before s i opened past g a.same_life in omega arith
barred s past stamp i c act event opened task sources row len cdb g m h a (is_emptied takes b) =
    discarded-lacks s i c past g b (found takes)
  where
    found : act ≡ Takes → has_owner c (held s i past) ≡ true
    found takes =
        let t : is_act Takes c event ≡ true = subst (λ (x : Act). is_act x c event ≡ true) takes h in
        let q : (row len : ℕ) × ((bytes : List ℕ) × (rows_held s.geometry.block c row len (held s i past) ≡ Some bytes)) = taken-bytes s past stamp i c event m t in
        found-owner s.geometry.block c q.0 q.1 q.2.0 (held s i past) q.2.1

pub ended-barred : (s : Setting) (c : ℕ) (past : List Entry) → Grows s past → some_at 0 (ends_command c) past ≡ true → AllBarred s c past
ended-barred s c [] g h i act opened task book stands has = absurd (false≢true h)
ended-barred s c (e ∷ past) g h i act opened task book stands has =
    elim (some_at-cases 0 (ends_command c) e past h) [
      | inl newest ↦ elim (entry_at-cases opened e past (Open c task) stands) [
        | inl here ↦ absurd (no_end c task e.event here.1 newest.1)
        | inr older ↦ moved older
            (end-bars s past e.stamp c i (count_before 0 (is_swap_of i) opened.stamp past) act e.event task g.1
            (may-book s past e.stamp e.lock e.event newest.0 g.0.1.1) newest.1 (named-task s opened c task past g.1 book older)
            (count_before-all 0 (is_swap_of i) opened.stamp past) has)
      ]
      | inr ended ↦ elim (entry_at-cases opened e past (Open c task) stands) [
        | inl here ↦ absurd (again ended here)
        | inr older ↦ moved older (ended-barred s c past g.1 ended i act opened task book older has)
      ]
    ]
  where
    again : some_at 0 (ends_command c) past ≡ true → IsNameOf opened e × (e.event ≡ Open c task) → ⊥
    again ended here =
        both_ways (opens_command c e.event) (opened-once s c e past g.1 g.0.1 (sym here.0.1 ∙ book) (ended-opened s c past g.1 ended))
        (ap (opens_command c) here.1 ∙ eq-eqb c c refl)

    earlier : entry_at opened past ≡ Some (Open c task) → e.lock ≡ 0 → opened.stamp ≤ e.stamp
    earlier older at_book =
        let l : opened.stamp < e.stamp =
        named-below (λ x. true) e.stamp opened past (subst (λ (k : ℕ). stamps_below k e.stamp past ≡ true) (at_book ∙ sym book) g.0.1.0)
        (passes-said (λ x. true) opened past (Open c task) older refl) in omega arith

    moved : entry_at opened past ≡ Some (Open c task) → Bar c i (count_before 0 (is_swap_of i) opened.stamp past) act past →
        Bar c i (count_before 0 (is_swap_of i) opened.stamp (e ∷ past)) act (e ∷ past)
    moved older bar =
        subst (λ (w : ℕ). Bar c i w act (e ∷ past)) (sym (count_before-still 0 (is_swap_of i) opened.stamp e past (earlier older)))
        (bar-more c i (count_before 0 (is_swap_of i) opened.stamp past) act e past bar)

-- no act follows the end of its command
pub act-not_ended : (s : Setting) (past : List Entry) (stamp i c : ℕ) (act : Act) (event : Event) → Grows s past → MayTarget s past stamp i event →
    is_act act c event ≡ true → some_at 0 (ends_command c) past ≡ false
act-not_ended s past stamp i c act event g m h = elim (cases_Bool (some_at 0 (ends_command c) past)) [
  | inl ended ↦ absurd (never ended (act-asks s past stamp i c act event m h))
  | inr open_still ↦ open_still
]
  where
    never : some_at 0 (ends_command c) past ≡ true → ActAt s past stamp i c act → ⊥
    never ended (acts opened task sources row len cdb a) =
        barred s past stamp i c act event opened task sources row len cdb g m h a
        (ended-barred s c past g ended i act opened task a.in_book a.opening.0 a.of_task)

pub act-opened : (s : Setting) (past : List Entry) (stamp i c : ℕ) (act : Act) → ActAt s past stamp i c act → some_at 0 (opens_command c) past ≡ true
act-opened s past stamp i c act (acts opened task sources row len cdb a) = named-opened opened c task past a.in_book a.opening.0

-- the command of an act is open
pub act-open : (s : Setting) (past : List Entry) (stamp i c : ℕ) (act : Act) (event : Event) → Grows s past → MayTarget s past stamp i event →
    is_act act c event ≡ true → is_open c past ≡ true
act-open s past stamp i c act event g m h =
    opened-open c past (act-opened s past stamp i c act (act-asks s past stamp i c act event m h)) (act-not_ended s past stamp i c act event g m h)
