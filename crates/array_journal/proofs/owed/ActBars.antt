-- What bars an act of a command: the act was made; or the command is shut there; or the disk that it was opened for is lost;
-- or what it would take was discarded. The end of a command bars each of its acts.
use Rattle.std.specs.Prelude.{◌≡◌, ◌==◌, ◌&&◌, ◌||◌, ◌<◌, ◌≤◌, ◌⊎◌, nat_lt, ℕ, zero, suc, ◌+◌, Bool, true, false, List, [], ◌∷◌, Option, Some, None, filter}
use Rattle.std.proofs.Common.{refl, ap, sym, ◌∙◌, cond, arith, subst, inl, inr}
use Rattle.std.proofs.lemmas.Bool.{eqb-true, ltb-true, cases_eq, and_parts, or_right, or_cases, both_ways, false≢true}
use Rattle.stripe_layout.specs.Modes.{takes_delta, sends_delta}
use Rattle.stripe_layout.proofs.ModeLaws.{taken-unsent}
use Rattle.array_journal.specs.declared.at.At.{At}
use Rattle.array_journal.specs.declared.entry.Entry.{Entry}
use Rattle.array_journal.specs.declared.event.Event.{Event}
use Rattle.array_journal.specs.declared.event.Event.TheVariants.{Diff, Shut, Open, Close, Spoil}
use Rattle.array_journal.specs.declared.setting.Setting.{Setting}
use Rattle.array_journal.specs.declared.task.Kind.TheVariants.{Update}
use Rattle.array_journal.specs.declared.task.Task.{Task}
use Rattle.array_journal.specs.Lists.{numbers}
use Rattle.array_journal.specs.Entries.{entry_at, some_at, count_before}
use Rattle.array_journal.specs.Commands.{ends_command, task_of}
use Rattle.array_journal.specs.declared.act.Act.{Act}
use Rattle.array_journal.specs.declared.act.Act.TheVariants.{Fetches, Puts, Diffs, Takes, Folds, Holds}
use Rattle.array_journal.specs.Acts.{acts_at, has_act, is_target, is_act, shuts_command}
use Rattle.array_journal.specs.Media.{drops}
use Rattle.array_journal.specs.Lives.{swap_count, is_swap_of}
use Rattle.array_journal.specs.May.{MayTarget, MayBook, passes, Names, NamesAt, NamesActs, AllNamed, is_named, shuts_idle, MayClose, MayCloseWhole, MayCloseUnfolded, MayGiveUp, MaySpoil, is_dropped_diff, discards}
use Rattle.array_journal.specs.Run.{Grows}
use Rattle.array_journal.specs.Laws.{is_loss_from}
use Rattle.array_journal.proofs.runs.Standing.{may-here, some_at-cases, some_at-more, some_at-newest, some-named}
use Rattle.array_journal.proofs.calm.ActSteps.{has-by_kind}
use Rattle.array_journal.proofs.lives.LifeLaws.{named-loss}

-- a bar against an act of a command at target i, whose slot was swapped w times before it was opened
pub data Bar (c i w : ℕ) (act : Act) (past : List Entry) : Type 0 where
  made : some_at (i + 1) (is_act act c) past ≡ true → Bar c i w act past
  is_shut : some_at (i + 1) (shuts_command c) past ≡ true → Bar c i w act past
  is_lost : some_at (i + 1) (is_loss_from w) past ≡ true → Bar c i w act past
  is_emptied : act ≡ Takes → some_at (i + 1) (discards c) past ≡ true → Bar c i w act past

pub bar-more : (c i w : ℕ) (act : Act) (e : Entry) (past : List Entry) → Bar c i w act past → Bar c i w act (e ∷ past)
bar-more c i w act e past (made h) = made (some_at-more (i + 1) (is_act act c) e past h)
bar-more c i w act e past (is_shut h) = is_shut (some_at-more (i + 1) (shuts_command c) e past h)
bar-more c i w act e past (is_lost h) = is_lost (some_at-more (i + 1) (is_loss_from w) e past h)
bar-more c i w act e past (is_emptied a h) = is_emptied a (some_at-more (i + 1) (discards c) e past h)

-- each act of an ended command is barred
abbrev pub AllBarred : Setting → ℕ → List Entry → Type 0
AllBarred s c past =
    (i : ℕ) (act : Act) (opened : At) (task : Task) → opened.lock ≡ 0 → entry_at opened past ≡ Some (Open c task) → has_act s act task i ≡ true →
    Bar c i (count_before 0 (is_swap_of i) opened.stamp past) act past

pub named-made : (past : List Entry) (c i : ℕ) (act : Act) (names : List At) → is_named past c act i names ≡ true → some_at (i + 1) (is_act act c) past ≡ true
named-made past c i act [] h = absurd (false≢true h)
named-made past c i act (name ∷ names) h =
    elim (or_cases ((name.lock == i + 1) && passes (is_act act c) (entry_at name past)) (is_named past c act i names) h) [
      | inl this ↦ let both : ((name.lock == i + 1) ≡ true) × (passes (is_act act c) (entry_at name past) ≡ true) =
          and_parts (name.lock == i + 1) (passes (is_act act c) (entry_at name past)) this in
          some-named (i + 1) (is_act act c) name past (eqb-true name.lock (i + 1) both.0) both.1
      | inr rest ↦ named-made past c i act names rest
    ]

-- five of the six kinds of acts are named in each close as done
acts-named : (s : Setting) (past : List Entry) (stamp c : ℕ) (task : Task) (names : List At) → NamesActs s past stamp c task names →
    AllNamed s past c task Folds names → (act : Act) → AllNamed s past c task act names
acts-named s past stamp c task names a folds Fetches = a.fetches
acts-named s past stamp c task names a folds Puts = a.puts
acts-named s past stamp c task names a folds Diffs = a.diffs
acts-named s past stamp c task names a folds Takes = a.takes
acts-named s past stamp c task names a folds Folds = folds
acts-named s past stamp c task names a folds Holds = a.holds

-- an act's target is one of the command's
pub target-of_act : (s : Setting) (act : Act) (task : Task) (i : ℕ) → has_act s act task i ≡ true → is_target s task i ≡ true
target-of_act s act task i h =
    one_of act (has_act s Fetches task i) (has_act s Puts task i) (has_act s Diffs task i) (has_act s Takes task i) (has_act s Folds task i) (has_act s Holds task i)
    (λ q. here Fetches q) (λ q. here Puts q) (λ q. here Diffs q) (λ q. here Takes q) (λ q. here Folds q) (λ q. here Holds q)
  where
    here : (other : Act) → act ≡ other → has_act s other task i ≡ true
    here other q = subst (λ (x : Act). has_act s x task i ≡ true) q h

    one_of : (x : Act) (a b c d e f : Bool) → (x ≡ Fetches → a ≡ true) → (x ≡ Puts → b ≡ true) → (x ≡ Diffs → c ≡ true) → (x ≡ Takes → d ≡ true) →
        (x ≡ Folds → e ≡ true) → (x ≡ Holds → f ≡ true) → (a || b || c || d || e || f) ≡ true
    one_of Fetches a b c d e f p q r t u v = ap (λ y. y || b || c || d || e || f) (p refl)
    one_of Puts a b c d e f p q r t u v = ap (λ y. y || c || d || e || f) (or_right a b (q refl))
    one_of Diffs a b c d e f p q r t u v = ap (λ y. y || d || e || f) (or_right (a || b) c (r refl))
    one_of Takes a b c d e f p q r t u v = ap (λ y. y || e || f) (or_right (a || b || c) d (t refl))
    one_of Folds a b c d e f p q r t u v = ap (λ y. y || f) (or_right (a || b || c || d) e (u refl))
    one_of Holds a b c d e f p q r t u v = or_right (a || b || c || d || e) f (v refl)

-- each of the targets has one of the named entries
pub named-each : (past : List Entry) (stamp i : ℕ) (test : Event → Bool) (passing : ℕ → Bool) (n first : ℕ) (names : List At) →
    NamesAt past stamp (filter passing (numbers first n)) test names → first ≤ i → i < first + n → passing i ≡ true → some_at (i + 1) test past ≡ true
named-each past stamp i test passing zero first names h low high k = absurd (omega arith)
named-each past stamp i test passing (suc n) first names h low high k =
    choose (passing first) refl (λ rest p l. named-each past stamp i test passing n (suc first) rest p l (omega arith) k) names h
  where
    others : List ℕ
    others = filter passing (numbers (suc first) n)

    choose : (b : Bool) → passing first ≡ b → ((rest : List At) → NamesAt past stamp others test rest → suc first ≤ i → some_at (i + 1) test past ≡ true) →
        (found : List At) → NamesAt past stamp (cond b (first ∷ others) others) test found → some_at (i + 1) test past ≡ true
    choose true q rec [] p = absurd p
    choose true q rec (name ∷ rest) p = elim (cases_eq first i) [
      | inl same ↦ some-named (i + 1) test name past (p.0.0 ∙ ap (λ (x : ℕ). x + 1) same) p.0.1.0
      | inr other ↦ rec rest p.1 (omega arith)
    ]
    choose false q rec found p = elim (cases_eq first i) [
      | inl same ↦ absurd (both_ways (passing i) (sym (ap passing same) ∙ q) k)
      | inr other ↦ rec found p (omega arith)
    ]

pub shut-idle : (c : ℕ) (event : Event) → shuts_idle c event ≡ true → shuts_command c event ≡ true
shut-idle c (Shut command opened false lost) h = h
shut-idle c (Shut command opened true lost) h = absurd (false≢true h)
shut-idle c _ h = absurd (false≢true h)

pub some_at-weaker : (k : ℕ) (test weaker : Event → Bool) (past : List Entry) → ((event : Event) → test event ≡ true → weaker event ≡ true) →
    some_at k test past ≡ true → some_at k weaker past ≡ true
some_at-weaker k test weaker [] f h = h
some_at-weaker k test weaker (e ∷ past) f h = elim (some_at-cases k test e past h) [
  | inl here ↦ some_at-newest k weaker e past here.0 (f e.event here.1)
  | inr older ↦ some_at-more k weaker e past (some_at-weaker k test weaker past f older)
]

-- a delta is dropped only where targets send theirs
dropped-sent : (s : Setting) (past : List Entry) (stamp i c : ℕ) (event : Event) → MayTarget s past stamp i event → is_dropped_diff c event ≡ true →
    sends_delta s.mode ≡ true
dropped-sent s past stamp i c (Diff command opened cdb row bytes sent true back) m h =
    sym m.1.sent_by_mode ∙ (and_parts sent (nat_lt 0 (drops i past)) (sym m.1.dropped_when_due)).0
dropped-sent s past stamp i c (Diff command opened cdb row bytes sent false back) m h = absurd (false≢true h)
dropped-sent s past stamp i c _ m h = absurd (false≢true h)

dropped-sends : (s : Setting) (i c : ℕ) (past : List Entry) → Grows s past → some_at (i + 1) (is_dropped_diff c) past ≡ true → sends_delta s.mode ≡ true
dropped-sends s i c [] g h = absurd (false≢true h)
dropped-sends s i c (e ∷ past) g h = elim (some_at-cases (i + 1) (is_dropped_diff c) e past h) [
  | inl here ↦ dropped-sent s past e.stamp i c e.event (may-here s past e.stamp e.lock i e.event here.0 g.0.1.1) here.1
  | inr older ↦ dropped-sends s i c past g.1 older
]

-- which acts an update has
update-act : (s : Setting) (act : Act) (task : Task) (i : ℕ) → task.kind ≡ Update → has_act s act task i ≡ true →
    acts_at s.mode act Update task i ≡ true
update-act s act task i k h =
    (and_parts (nat_lt i s.geometry.targets) (acts_at s.mode act Update task i)
    (sym (has-by_kind s act task Update s.mode i k refl) ∙ h)).1

-- the end of a command bars each of its acts
whole-bars : (s : Setting) (past : List Entry) (stamp c i w : ℕ) (act : Act) (task : Task) (names : List At) (cause : Option At) (bytes : List ℕ) →
    MayCloseWhole s past stamp c task names cause bytes → has_act s act task i ≡ true → Bar c i w act past
whole-bars s past stamp c i w act task names cause bytes m h =
    made (named-made past c i act names (acts-named s past stamp c task names m.acts m.folds act i h))

unfolded-bars : (s : Setting) (past : List Entry) (stamp c i w : ℕ) (act : Act) (task : Task) (names : List At) (cause : At) (bytes : List ℕ) →
    MayCloseUnfolded s past stamp c task names cause bytes → w ≤ swap_count i past → has_act s act task i ≡ true → Bar c i w act past
unfolded-bars s past stamp c i w Folds task names cause bytes m l h =
    let at_parity : i ≡ task.parity = eqb-true i task.parity (update-act s Folds task i m.update h) in
    let swaps : swap_count i past ≡ swap_count task.parity past = ap (λ (j : ℕ). swap_count j past) at_parity in
    is_lost (named-loss i (swap_count task.parity past) w cause past (m.parity_lost.at_target ∙ ap (λ (j : ℕ). j + 1) (sym at_parity)) m.parity_lost.lost.0 (omega arith))
unfolded-bars s past stamp c i w Fetches task names cause bytes m l h = made (named-made past c i Fetches names (m.acts.fetches i h))
unfolded-bars s past stamp c i w Puts task names cause bytes m l h = made (named-made past c i Puts names (m.acts.puts i h))
unfolded-bars s past stamp c i w Diffs task names cause bytes m l h = made (named-made past c i Diffs names (m.acts.diffs i h))
unfolded-bars s past stamp c i w Takes task names cause bytes m l h = made (named-made past c i Takes names (m.acts.takes i h))
unfolded-bars s past stamp c i w Holds task names cause bytes m l h = made (named-made past c i Holds names (m.acts.holds i h))

given_up-bars : (s : Setting) (past : List Entry) (stamp c i w : ℕ) (act : Act) (task : Task) (names : List At) (cause : At) (bytes : List ℕ) →
    MayGiveUp s past stamp c task names cause bytes → has_act s act task i ≡ true → Bar c i w act past
given_up-bars s past stamp c i w act task names cause bytes m h =
    let low : (nat_lt i s.geometry.targets ≡ true) × (acts_at s.mode act task.kind task i ≡ true) =
    and_parts (nat_lt i s.geometry.targets) (acts_at s.mode act task.kind task i) h in
    let below : i < s.geometry.targets = ltb-true i s.geometry.targets low.0 in
    is_shut (some_at-weaker (i + 1) (shuts_idle c) (shuts_command c) past (shut-idle c)
    (named-each past stamp i (shuts_idle c) (is_target s task) s.geometry.targets 0 names m.shut (omega arith) (omega arith) (target-of_act s act task i h)))

close-bars : (s : Setting) (past : List Entry) (stamp c i w : ℕ) (act : Act) (done : Bool) (names : List At) (cause : Option At) (bytes : List ℕ) (task : Task) →
    MayClose s past stamp c done names cause bytes task → w ≤ swap_count i past → has_act s act task i ≡ true → Bar c i w act past
close-bars s past stamp c i w act true names None bytes task m l h = whole-bars s past stamp c i w act task names None bytes m h
close-bars s past stamp c i w act true names (Some cause) bytes task m l h = unfolded-bars s past stamp c i w act task names cause bytes m l h
close-bars s past stamp c i w act false names None bytes task m l h = absurd m
close-bars s past stamp c i w act false names (Some cause) bytes task m l h = given_up-bars s past stamp c i w act task names cause bytes m h

spoil-bars : (s : Setting) (past : List Entry) (stamp c i w : ℕ) (act : Act) (diff loss shut : At) (task : Task) → Grows s past →
    MaySpoil s past stamp c diff loss shut task → has_act s act task i ≡ true → Bar c i w act past
spoil-bars s past stamp c i w Diffs diff loss shut task g m h =
    let here : i ≡ task.target = eqb-true i task.target (update-act s Diffs task i m.update h) in
    made (some-named (i + 1) (is_act Diffs c) diff past (m.at_target ∙ ap (λ (j : ℕ). j + 1) (sym here)) m.differed.0)
spoil-bars s past stamp c i w Folds diff loss shut task g m h =
    let here : i ≡ task.parity = eqb-true i task.parity (update-act s Folds task i m.update h) in
    is_shut (some_at-weaker (i + 1) (shuts_idle c) (shuts_command c) past (shut-idle c)
    (some-named (i + 1) (shuts_idle c) shut past (m.at_parity ∙ ap (λ (j : ℕ). j + 1) (sym here)) m.shut_idle.0))
spoil-bars s past stamp c i w Takes diff loss shut task g m h = lost m.lost
  where
    parts : (takes_delta s.mode ≡ true) × ((i == task.target) ≡ true)
    parts = and_parts (takes_delta s.mode) (i == task.target) (update-act s Takes task i m.update h)

    here : i ≡ task.target
    here = eqb-true i task.target parts.1

    lost : ((loss ≡ diff) × Names past stamp diff (is_dropped_diff c)) ⊎ ((loss.lock ≡ task.target + 1) × Names past stamp loss (discards c)) → Bar c i w Takes past
    lost (inl dropped) =
        absurd (both_ways (sends_delta s.mode) (taken-unsent s.mode parts.0)
        (dropped-sends s task.target c past g (some-named (task.target + 1) (is_dropped_diff c) diff past m.at_target dropped.1.0)))
    lost (inr discarded) = is_emptied refl (some-named (i + 1) (discards c) loss past (discarded.0 ∙ ap (λ (j : ℕ). j + 1) (sym here)) discarded.1.0)
spoil-bars s past stamp c i w Fetches diff loss shut task g m h = absurd (false≢true (update-act s Fetches task i m.update h))
spoil-bars s past stamp c i w Puts diff loss shut task g m h = absurd (false≢true (update-act s Puts task i m.update h))
spoil-bars s past stamp c i w Holds diff loss shut task g m h = absurd (false≢true (update-act s Holds task i m.update h))

pub end-bars : (s : Setting) (past : List Entry) (stamp c i w : ℕ) (act : Act) (event : Event) (task : Task) → Grows s past → MayBook s past stamp event →
    ends_command c event ≡ true → task_of c past ≡ Some task → w ≤ swap_count i past → has_act s act task i ≡ true → Bar c i w act past
end-bars s past stamp c i w act (Close command done names cause bytes) task g m ends q l h =
    let same : command ≡ c = eqb-true command c ends in
    let its : task_of c past ≡ Some m.0 = subst (λ (d : ℕ). task_of d past ≡ Some m.0) same m.1.0.1 in
    let t : task ≡ m.0 = cc in
    close-bars s past stamp c i w act done names cause bytes m.0 (subst (λ (d : ℕ). MayClose s past stamp d done names cause bytes m.0) same m.1.1) l
    (subst (λ (x : Task). has_act s act x i ≡ true) t h)
end-bars s past stamp c i w act (Spoil command diff loss shut) task g m ends q l h =
    let same : command ≡ c = eqb-true command c ends in
    let its : task_of c past ≡ Some m.0 = subst (λ (d : ℕ). task_of d past ≡ Some m.0) same m.1.0.1 in
    let t : task ≡ m.0 = cc in
    spoil-bars s past stamp c i w act diff loss shut m.0 g (subst (λ (d : ℕ). MaySpoil s past stamp d diff loss shut m.0) same m.1.1)
    (subst (λ (x : Task). has_act s act x i ≡ true) t h)
end-bars s past stamp c i w act _ task g m ends q l h = absurd (false≢true ends)

pub no_end : (c : ℕ) (task : Task) (event : Event) → event ≡ Open c task → ends_command c event ≡ true → ⊥
no_end c task event q h = false≢true (sym (ap (ends_command c) q) ∙ h)
