-- How an update ends that has its diff and folded nothing: it is spoilt, and its stripe listed; or it is closed, and its
-- parity unit is absent.
use Rattle.std.specs.Prelude.{◌≡◌, ◌==◌, ◌&&◌, ◌||◌, ◌<◌, ◌⊎◌, not, ℕ, ◌+◌, Bool, true, false, List, [], ◌∷◌, Option, Some, None, is_some}
use Rattle.std.proofs.Common.{refl, ap, sym, ◌∙◌, cond, arith, subst, inl, inr}
use Rattle.std.proofs.lemmas.Bool.{eq-eqb, eqb-true, cases_Bool, and_from, and_parts, or_left, or_right, or_from, both_ways, false≢true, cond-true, cond-false}
use Rattle.stripe_layout.specs.Layout.{parity_of}
use Rattle.array_journal.specs.declared.at.At.{At}
use Rattle.array_journal.specs.declared.entry.Entry.{Entry}
use Rattle.array_journal.specs.declared.event.Event.{Event}
use Rattle.array_journal.specs.declared.event.Event.TheVariants.{Shut, Close, Spoil}
use Rattle.array_journal.specs.declared.setting.Setting.{Setting}
use Rattle.array_journal.specs.declared.task.Kind.{Kind}
use Rattle.array_journal.specs.declared.task.Kind.TheVariants.{Update}
use Rattle.array_journal.specs.declared.task.Task.{Task}
use Rattle.array_journal.specs.Entries.{some_at}
use Rattle.array_journal.specs.Commands.{opens_command, ends_command, is_open, task_of}
use Rattle.array_journal.specs.declared.act.Act.{Act}
use Rattle.array_journal.specs.declared.act.Act.TheVariants.{Puts, Diffs, Folds}
use Rattle.array_journal.specs.Acts.{is_target, is_act, shuts_command, changes_medium}
use Rattle.array_journal.specs.Lives.{closes_done, is_gone, is_missing, is_absent}
use Rattle.array_journal.specs.Listed.{makes_parity, renews_parity, has_stripe, listed_after, listed_for, is_listed}
use Rattle.array_journal.specs.Deltas.{has_acted}
use Rattle.array_journal.specs.May.{MayTarget, MayBook, MayClose, MayCloseWhole, IsTask, shuts_idle}
use Rattle.array_journal.specs.Run.{Grows, IsSetting}
use Rattle.array_journal.proofs.runs.Standing.{may-book, may-here, some_at-cases, some_at-more}
use Rattle.array_journal.proofs.runs.CommandLaws.{opened-open, open-opened, open-not_ended}
use Rattle.array_journal.proofs.calm.ActSteps.{has-there}
use Rattle.array_journal.proofs.lives.LifeLaws.{unfitted-gone, is_gone-else}
use Rattle.array_journal.proofs.held.HeldOwners.{ActAt, acts, act-asks}
use Rattle.array_journal.proofs.owed.ActBars.{named-made, named-each, target-of_act, shut-idle, some_at-weaker}
use Rattle.array_journal.proofs.lives.DoneRebuilds.{IsRebuild, task-sound}
use Rattle.array_journal.proofs.lives.AbsentLaws.{absent-exactly}
use Rattle.array_journal.proofs.lives.AbsentSteps.{Returns, absent-returns}
use Rattle.array_journal.proofs.sums.LayoutLaws.{parity_of-below}

-- whose delta is owed on a stripe: an open command's; or, on a listed stripe or one whose parity unit is absent, an ended one's
pub data OwedBy (s : Setting) (past : List Entry) (stripe c : ℕ) : Type 0 where
  still_open : is_open c past ≡ true → OwedBy s past stripe c
  is_spoilt : is_listed stripe past ≡ true → OwedBy s past stripe c
  is_unfolded : is_absent (parity_of s.geometry stripe) stripe past ≡ true → OwedBy s past stripe c

-- an update that has its diff and folded nothing
pub record IsUnfolded (s : Setting) (stripe c : ℕ) (past : List Entry) (task : Task) : Type 0 where
  pub its_task : task_of c past ≡ Some task
  pub update : task.kind ≡ Update
  pub of_stripe : task.stripe ≡ stripe
  pub differed : some_at (task.target + 1) (is_act Diffs c) past ≡ true
  pub unfolded : has_acted Folds c past ≡ false

-- where an act stands, the command has acted
pub acted-somewhere : (k c : ℕ) (act : Act) (past : List Entry) → some_at k (is_act act c) past ≡ true → has_acted act c past ≡ true
acted-somewhere k c act [] h = h
acted-somewhere k c act (e ∷ past) h = elim (some_at-cases k (is_act act c) e past h) [
  | inl here ↦ cond-true (is_act act c e.event) true (has_acted act c past) here.1
  | inr older ↦ either (is_act act c e.event) (acted-somewhere k c act past older)
]
  where
    either : (b : Bool) → has_acted act c past ≡ true → cond b true (has_acted act c past) ≡ true
    either true h = refl
    either false h = h

-- A command is shut without effect at a target only where it made no diff.
idle-says : (s : Setting) (past : List Entry) (stamp i c : ℕ) (event : Event) → MayTarget s past stamp i event → shuts_idle c event ≡ true →
    some_at (i + 1) (changes_medium c) past ≡ false
idle-says s past stamp i c (Shut command opened false lost) m h =
    subst (λ (d : ℕ). some_at (i + 1) (changes_medium d) past ≡ false) (eqb-true command c h) (sym m.1.says_acted)
idle-says s past stamp i c (Shut command opened true lost) m h = absurd (false≢true h)
idle-says s past stamp i c _ m h = absurd (false≢true h)

no_diff : (c : ℕ) (event : Event) → shuts_idle c event ≡ true → is_act Diffs c event ≡ true → ⊥
no_diff c (Shut command opened acted lost) h k = false≢true k
no_diff c _ h k = false≢true h

changes-diff : (c : ℕ) (event : Event) → is_act Diffs c event ≡ true → changes_medium c event ≡ true
changes-diff c event h = or_left (is_act Puts c event || is_act Diffs c event) (is_act Folds c event) (or_right (is_act Puts c event) (is_act Diffs c event) h)

act-not_shut : (s : Setting) (past : List Entry) (stamp i c : ℕ) (act : Act) → ActAt s past stamp i c act → some_at (i + 1) (shuts_command c) past ≡ false
act-not_shut s past stamp i c act (acts opened task sources row len cdb a) = a.not_shut

pub idle-unchanged : (s : Setting) (i c : ℕ) (past : List Entry) → Grows s past → some_at (i + 1) (shuts_idle c) past ≡ true → some_at (i + 1) (is_act Diffs c) past ≡ true → ⊥
idle-unchanged s i c [] g h k = false≢true h
idle-unchanged s i c (e ∷ past) g h k =
    both (some_at-cases (i + 1) (shuts_idle c) e past h) (some_at-cases (i + 1) (is_act Diffs c) e past k) (λ x y. idle-unchanged s i c past g.1 x y)
  where
    both : ((e.lock ≡ i + 1) × (shuts_idle c e.event ≡ true)) ⊎ (some_at (i + 1) (shuts_idle c) past ≡ true) →
        ((e.lock ≡ i + 1) × (is_act Diffs c e.event ≡ true)) ⊎ (some_at (i + 1) (is_act Diffs c) past ≡ true) →
        (some_at (i + 1) (shuts_idle c) past ≡ true → some_at (i + 1) (is_act Diffs c) past ≡ true → ⊥) → ⊥
    both (inl shut) (inl diff) rec = no_diff c e.event shut.1 diff.1
    both (inl shut) (inr diff) rec =
        both_ways (some_at (i + 1) (changes_medium c) past)
        (idle-says s past e.stamp i c e.event (may-here s past e.stamp e.lock i e.event shut.0 g.0.1.1) shut.1)
        (some_at-weaker (i + 1) (is_act Diffs c) (changes_medium c) past (changes-diff c) diff)
    both (inr shut) (inl diff) rec =
        both_ways (some_at (i + 1) (shuts_command c) past)
        (act-not_shut s past e.stamp i c Diffs (act-asks s past e.stamp i c Diffs e.event (may-here s past e.stamp e.lock i e.event diff.0 g.0.1.1) diff.1))
        (some_at-weaker (i + 1) (shuts_idle c) (shuts_command c) past (shut-idle c) shut)
    both (inr shut) (inr diff) rec = rec shut diff

has-some : {A : Type 0} (b : Bool) (x : A) (old : Option A) → is_some old ≡ true → is_some (cond b (Some x) old) ≡ true
has-some true x old h = refl
has-some false x old h = h

-- a spoil lists its stripe
spoil-lists : (past : List Entry) (stripe : ℕ) (diff loss shut : At) (c : ℕ) (old : Option ℕ) → has_stripe stripe (task_of c past) ≡ true →
    is_some (listed_after past stripe (Spoil c diff loss shut) old) ≡ true
spoil-lists past stripe diff loss shut c None h = ap (λ b. is_some (cond (b && true) (Some c) None)) h
spoil-lists past stripe diff loss shut c (Some other) h = has-some (has_stripe stripe (task_of c past) && false) c (Some other) refl

-- closed as done with all acts, it would have folded
close-folds : (s : Setting) (past : List Entry) (stamp c : ℕ) (task : Task) (names : List At) (cause : Option At) (bytes : List ℕ) → IsSetting s → IsTask s task →
    task.kind ≡ Update → MayCloseWhole s past stamp c task names cause bytes → has_acted Folds c past ≡ true
close-folds s past stamp c task names cause bytes set sound update m =
    acted-somewhere (task.parity + 1) c Folds past
    (named-made past c task.parity Folds names (m.folds task.parity
    (has-there s Folds task Update s.mode task.parity update refl
    (subst (λ (n : ℕ). n < s.geometry.targets) (sym sound.parity) (parity_of-below s task.stripe set)) (eq-eqb task.parity task.parity refl))))

ended-by_close : (s : Setting) (stripe c : ℕ) (e : Entry) (past : List Entry) (done : Bool) (names : List At) (cause : Option At) (bytes : List ℕ) (task : Task) →
    IsSetting s → Grows s (e ∷ past) → e.lock ≡ 0 → IsUnfolded s stripe c past task → MayClose s past e.stamp c done names cause bytes task → OwedBy s (e ∷ past) stripe c
ended-by_close s stripe c e past true names None bytes task set g book u m =
    absurd (both_ways (has_acted Folds c past) u.unfolded
    (close-folds s past e.stamp c task names None bytes set (task-sound s c task past g.1 u.its_task) u.update m))
ended-by_close s stripe c e past true names (Some cause) bytes task set g book u m =
    is_unfolded (absent-exactly s (parity_of s.geometry stripe) stripe (e ∷ past) g
    ∙ or_right (is_missing (parity_of s.geometry stripe) stripe (e ∷ past)) (is_gone (parity_of s.geometry stripe) (e ∷ past))
    (is_gone-else (parity_of s.geometry stripe) e past (λ here. absurd (omega arith))
    ∙ subst (λ (n : ℕ). is_gone n past ≡ true) ((task-sound s c task past g.1 u.its_task).parity ∙ ap (parity_of s.geometry) u.of_stripe)
    (unfitted-gone s task.parity past g.1 m.parity_lost.known)))
ended-by_close s stripe c e past false names None bytes task set g book u m = absurd m
ended-by_close s stripe c e past false names (Some cause) bytes task set g book u m =
    let sound : IsTask s task = task-sound s c task past g.1 u.its_task in
    absurd (idle-unchanged s task.target c past g.1
    (named-each past e.stamp task.target (shuts_idle c) (is_target s task) s.geometry.targets 0 names m.shut (omega arith) (let h : task.target < s.geometry.targets = sound.target in omega arith)
    (target-of_act s Diffs task task.target
    (has-there s Diffs task Update s.mode task.target u.update refl sound.target (eq-eqb task.target task.target refl)))) u.differed)

ended-by : (s : Setting) (stripe c : ℕ) (e : Entry) (past : List Entry) (event : Event) (task : Task) → IsSetting s → Grows s (e ∷ past) → e.lock ≡ 0 → e.event ≡ event →
    MayBook s past e.stamp event → ends_command c event ≡ true → IsUnfolded s stripe c past task → OwedBy s (e ∷ past) stripe c
ended-by s stripe c e past (Close command done names cause bytes) task set g book q m ends u =
    let same : command ≡ c = eqb-true command c ends in
    let its : task_of c past ≡ Some m.0 = subst (λ (d : ℕ). task_of d past ≡ Some m.0) same m.1.0.1 in
    let t : m.0 ≡ task = one m.0 task (sym its ∙ u.its_task) in
    ended-by_close s stripe c e past done names cause bytes task set g book u
    (subst (λ (x : Task). MayClose s past e.stamp c done names cause bytes x) t
    (subst (λ (d : ℕ). MayClose s past e.stamp d done names cause bytes m.0) same m.1.1))
  where
    one : (x y : Task) → Some x ≡ Some y → x ≡ y
    one x y k = cc
ended-by s stripe c e past (Spoil command diff loss shut) task set g book q m ends u =
    is_spoilt (ap (λ (o : Option ℕ). is_some o) (cond-true (e.lock == 0) (listed_after past stripe e.event (listed_for stripe past)) (listed_for stripe past) (eq-eqb e.lock 0 book))
    ∙ ap (λ (x : Event). is_some (listed_after past stripe x (listed_for stripe past))) q
    ∙ spoil-lists past stripe diff loss shut command (listed_for stripe past)
    (ap (has_stripe stripe) (ap (λ (n : ℕ). task_of n past) (eqb-true command c ends) ∙ u.its_task) ∙ eq-eqb task.stripe stripe u.of_stripe))
ended-by s stripe c e past _ task set g book q m ends u = absurd (false≢true ends)

-- the event closes as done a command that makes the parity of a stripe anew
abbrev pub closes_renewal : List Entry → ℕ → Event → Bool
closes_renewal past stripe (Close command done names cause bytes) = done && renews_parity stripe (task_of command past)
closes_renewal past stripe _ = false

abbrev pub renews_now : List Entry → ℕ → Entry → Bool
renews_now past stripe e = (e.lock == 0) && closes_renewal past stripe e.event

-- else a listed stripe stays listed
listed_after-stays : (past : List Entry) (stripe : ℕ) (event : Event) (old : Option ℕ) → closes_renewal past stripe event ≡ false → is_some old ≡ true →
    is_some (listed_after past stripe event old) ≡ true
listed_after-stays past stripe (Spoil command diff loss shut) old none h = has-some (has_stripe stripe (task_of command past) && not (is_some old)) command old h
listed_after-stays past stripe (Close command done names cause bytes) old none h = ap (λ b. is_some (cond b None old)) none ∙ h
listed_after-stays past stripe _ old none h = h

pub listed-stays : (stripe : ℕ) (e : Entry) (past : List Entry) → renews_now past stripe e ≡ false → is_listed stripe past ≡ true → is_listed stripe (e ∷ past) ≡ true
listed-stays stripe e past none h = elim (cases_Bool (e.lock == 0)) [
  | inl book ↦ ap (λ (o : Option ℕ). is_some o) (cond-true (e.lock == 0) (listed_after past stripe e.event (listed_for stripe past)) (listed_for stripe past) book)
      ∙ listed_after-stays past stripe e.event (listed_for stripe past) (quiet book) h
  | inr away ↦ ap (λ (o : Option ℕ). is_some o) (cond-false (e.lock == 0) (listed_after past stripe e.event (listed_for stripe past)) (listed_for stripe past) away) ∙ h
]
  where
    quiet : (e.lock == 0) ≡ true → closes_renewal past stripe e.event ≡ false
    quiet book = sym (ap (λ b. b && closes_renewal past stripe e.event) book) ∙ none

-- and an absent parity unit absent
closes-renews : (s : Setting) (past : List Entry) (stripe c : ℕ) (event : Event) (task : Task) → IsTask s task → closes_done c event ≡ true → task_of c past ≡ Some task →
    IsRebuild (parity_of s.geometry stripe) stripe task → closes_renewal past stripe event ≡ true
closes-renews s past stripe c (Close command true names cause bytes) task sound closes its r =
    ap (renews_parity stripe) (ap (λ (n : ℕ). task_of n past) (eqb-true command c closes) ∙ its)
    ∙ and_from (task.stripe == stripe) (makes_parity task.kind task) (eq-eqb task.stripe stripe r.of_stripe)
    (ap (λ (k : Kind). makes_parity k task) r.of_kind
    ∙ eq-eqb task.target task.parity (r.at_target ∙ ap (parity_of s.geometry) (sym r.of_stripe) ∙ sym sound.parity))
closes-renews s past stripe c (Close command false names cause bytes) task sound closes its r = absurd (false≢true closes)
closes-renews s past stripe c _ task sound closes its r = absurd (false≢true closes)

pub absent-stays : (s : Setting) (stripe : ℕ) (e : Entry) (past : List Entry) → Grows s (e ∷ past) → renews_now past stripe e ≡ false →
    is_absent (parity_of s.geometry stripe) stripe past ≡ true → is_absent (parity_of s.geometry stripe) stripe (e ∷ past) ≡ true
absent-stays s stripe e past g none h = elim (cases_Bool (is_absent (parity_of s.geometry stripe) stripe (e ∷ past))) [
  | inl still ↦ still
  | inr back ↦ absurd (never (absent-returns s (parity_of s.geometry stripe) stripe e past g h back))
]
  where
    never : Returns s (parity_of s.geometry stripe) stripe e past → ⊥
    never r =
        both_ways ((e.lock == 0) && closes_renewal past stripe e.event) none
        (and_from (e.lock == 0) (closes_renewal past stripe e.event) (eq-eqb e.lock 0 r.in_book)
        (closes-renews s past stripe r.command e.event r.task (task-sound s r.command r.task past g.1 r.its_task) r.closes r.its_task r.rebuild))

-- so whoever owed a delta owes it still
pub owed_by-more : (s : Setting) (stripe c : ℕ) (e : Entry) (past : List Entry) (task : Task) → IsSetting s → Grows s (e ∷ past) → renews_now past stripe e ≡ false →
    IsUnfolded s stripe c past task → OwedBy s past stripe c → OwedBy s (e ∷ past) stripe c
owed_by-more s stripe c e past task set g none u (still_open o) = elim (cases_Bool ((e.lock == 0) && ends_command c e.event)) [
  | inl ends ↦ ended (and_parts (e.lock == 0) (ends_command c e.event) ends)
  | inr other ↦ still_open (opened-open c (e ∷ past) (some_at-more 0 (opens_command c) e past (open-opened c past o))
      (or_from ((e.lock == 0) && ends_command c e.event) (some_at 0 (ends_command c) past) other (open-not_ended c past o)))
]
  where
    ended : ((e.lock == 0) ≡ true) × (ends_command c e.event ≡ true) → OwedBy s (e ∷ past) stripe c
    ended both =
        let book : e.lock ≡ 0 = eqb-true e.lock 0 both.0 in
        ended-by s stripe c e past e.event task set g book refl (may-book s past e.stamp e.lock e.event book g.0.1.1) both.1 u
owed_by-more s stripe c e past task set g none u (is_spoilt l) = is_spoilt (listed-stays stripe e past none l)
owed_by-more s stripe c e past task set g none u (is_unfolded a) = is_unfolded (absent-stays s stripe e past g none a)
