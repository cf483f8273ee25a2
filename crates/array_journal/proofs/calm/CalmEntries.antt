-- In a journal of reads and supervised updates alone: what its entries never say.
use Rattle.std.specs.Prelude.{◌≡◌, ◌==◌, ◌&&◌, ◌≤◌, ℕ, ◌+◌, Bool, true, false, List, [], ◌∷◌, Option, None, length, filter}
use Rattle.std.specs.List.{AllByRecursion}
use Rattle.std.proofs.Common.{refl, ap, ◌∙◌, cond, arith}
use Rattle.std.proofs.lemmas.Bool.{or_from, and_right}
use Rattle.array_journal.specs.declared.at.At.{At}
use Rattle.array_journal.specs.declared.entry.Entry.{Entry}
use Rattle.array_journal.specs.declared.event.Event.{Event}
use Rattle.array_journal.specs.declared.event.Event.TheVariants.{Fetch, Diff, Take, Fold, Open, Close}
use Rattle.array_journal.specs.declared.setting.Setting.{Setting}
use Rattle.array_journal.specs.Lists.{numbers}
use Rattle.array_journal.specs.Entries.{name_of, some_at}
use Rattle.array_journal.specs.Acts.{shuts_command}
use Rattle.array_journal.specs.Lives.{is_note_of, loss_after, loss_of, is_gone, missing_in, is_missing, opens_rebuilt}
use Rattle.array_journal.specs.Decision.{missing_count}
use Rattle.array_journal.specs.May.{swapped_since, freshes_after}
use Rattle.array_journal.specs.Calm.{IsCalmEvent, IsCalmEntry}

-- all entries are calm
abbrev pub AllCalm : ℕ → ℕ → List Entry → Type 0
AllCalm t c past = AllByRecursion (IsCalmEntry t c) past

-- more commands and larger stamps allow as much
pub calm_event-more : (c d : ℕ) (e : Event) → c ≤ d → IsCalmEvent c e → IsCalmEvent d e
calm_event-more c d (Fetch command opened cdb row bytes) h p = omega arith
calm_event-more c d (Diff command opened cdb row bytes sent dropped back) h p = (omega (arith, p.0), p.1)
calm_event-more c d (Take command opened cdb row bytes) h p = omega arith
calm_event-more c d (Fold command opened cdb row bytes names) h p = omega arith
calm_event-more c d (Open command task) h p = omega arith
calm_event-more c d (Close command done names cause bytes) h p = (omega (arith, p.0), p.1)
calm_event-more c d _ h p = absurd p

pub calm-more : (t u c d : ℕ) (past : List Entry) → t ≤ u → c ≤ d → AllCalm t c past → AllCalm u d past
calm-more t u c d [] h k p = tt
calm-more t u c d (e ∷ past) h k p =
    (record { stamp = omega (arith, p.0.stamp); event = calm_event-more c d e.event k p.0.event }, calm-more t u c d past h k p.1)

-- what no calm event says, no entry says
pub some_at-calm : (lock : ℕ) (test : Event → Bool) (t c : ℕ) (past : List Entry) →
    ((e : Event) → IsCalmEvent c e → test e ≡ false) → AllCalm t c past → some_at lock test past ≡ false
some_at-calm lock test t c [] never p = refl
some_at-calm lock test t c (e ∷ past) never p =
    or_from _ _ (and_right _ _ (never e.event p.0.event)) (some_at-calm lock test t c past never p.1)

calm-no_swapped : (opened : At) (c : ℕ) (e : Event) → IsCalmEvent c e → swapped_since opened e ≡ false
calm-no_swapped opened c (Fetch command o cdb row bytes) p = refl
calm-no_swapped opened c (Diff command o cdb row bytes sent dropped back) p = refl
calm-no_swapped opened c (Take command o cdb row bytes) p = refl
calm-no_swapped opened c (Fold command o cdb row bytes names) p = refl
calm-no_swapped opened c (Open command task) p = refl
calm-no_swapped opened c (Close command done names cause bytes) p = refl
calm-no_swapped opened c _ p = absurd p

calm-no_note : (i c : ℕ) (e : Event) → IsCalmEvent c e → is_note_of i e ≡ false
calm-no_note i c (Fetch command opened cdb row bytes) p = refl
calm-no_note i c (Diff command opened cdb row bytes sent dropped back) p = refl
calm-no_note i c (Take command opened cdb row bytes) p = refl
calm-no_note i c (Fold command opened cdb row bytes names) p = refl
calm-no_note i c (Open command task) p = refl
calm-no_note i c (Close command done names cause bytes) p = refl
calm-no_note i c _ p = absurd p

calm-no_shut : (d c : ℕ) (e : Event) → IsCalmEvent c e → shuts_command d e ≡ false
calm-no_shut d c (Fetch command opened cdb row bytes) p = refl
calm-no_shut d c (Diff command opened cdb row bytes sent dropped back) p = refl
calm-no_shut d c (Take command opened cdb row bytes) p = refl
calm-no_shut d c (Fold command opened cdb row bytes names) p = refl
calm-no_shut d c (Open command task) p = refl
calm-no_shut d c (Close command done names cause bytes) p = refl
calm-no_shut d c _ p = absurd p

calm-same_loss : (at : At) (c : ℕ) (e : Event) (old : Option At) → IsCalmEvent c e → loss_after at e old ≡ old
calm-same_loss at c (Fetch command opened cdb row bytes) old p = refl
calm-same_loss at c (Diff command opened cdb row bytes sent dropped back) old p = refl
calm-same_loss at c (Take command opened cdb row bytes) old p = refl
calm-same_loss at c (Fold command opened cdb row bytes names) old p = refl
calm-same_loss at c (Open command task) old p = refl
calm-same_loss at c (Close command done names cause bytes) old p = refl
calm-same_loss at c _ old p = absurd p

-- a choice between two that are one
choice-same : {A : Type 0} (b : Bool) (x y z : A) → x ≡ z → y ≡ z → cond b x y ≡ z
choice-same true x y z p q = p
choice-same false x y z p q = q

pub loss_of-calm : (i t c : ℕ) (past : List Entry) → AllCalm t c past → loss_of i past ≡ None
loss_of-calm i t c [] p = refl
loss_of-calm i t c (e ∷ past) p =
    let older : loss_of i past ≡ None = loss_of-calm i t c past p.1 in
    choice-same (e.lock == i + 1) _ _ None (calm-same_loss (name_of e) c e.event (loss_of i past) p.0.event ∙ older) older

pub is_gone-calm : (i t c : ℕ) (past : List Entry) → AllCalm t c past → is_gone i past ≡ false
is_gone-calm i t c past p = rw (loss_of-calm i t c past p)

pub freshes-calm : (i : ℕ) (opened : At) (t c : ℕ) (past : List Entry) → AllCalm t c past → freshes_after i opened past ≡ false
freshes-calm i opened t c past p = some_at-calm (i + 1) (swapped_since opened) t c past (calm-no_swapped opened c) p

pub not_shut-calm : (lock d t c : ℕ) (past : List Entry) → AllCalm t c past → some_at lock (shuts_command d) past ≡ false
not_shut-calm lock d t c past p = some_at-calm lock (shuts_command d) t c past (calm-no_shut d c) p

-- two tests in turn, the first of which fails
two_tests : (a b : Bool) (x : Bool) → a ≡ false → x ≡ false → cond a true (cond b false x) ≡ false
two_tests true b x h k = h
two_tests false true x h k = refl
two_tests false false x h k = k

pub missing_in-calm : (whole : List Entry) (i stripe t c : ℕ) (past : List Entry) → AllCalm t c past → missing_in whole i stripe past ≡ false
missing_in-calm whole i stripe t c [] p = refl
missing_in-calm whole i stripe t c (e ∷ past) p =
    two_tests ((e.lock == 0) && is_note_of i e.event) ((e.lock == 0) && opens_rebuilt whole i stripe e.event) (missing_in whole i stripe past)
    (and_right _ _ (calm-no_note i c e.event p.0.event)) (missing_in-calm whole i stripe t c past p.1)

pub is_missing-calm : (i stripe t c : ℕ) (past : List Entry) → AllCalm t c past → is_missing i stripe past ≡ false
is_missing-calm i stripe t c past p = missing_in-calm past i stripe t c past p

-- a filter by a test that nothing passes
filter-none : (test : ℕ → Bool) (xs : List ℕ) → ((x : ℕ) → test x ≡ false) → filter test xs ≡ []
filter-none test [] never = refl
filter-none test (x ∷ xs) never = ap (λ b. cond b (x ∷ filter test xs) (filter test xs)) (never x) ∙ filter-none test xs never

pub missing_count-calm : (s : Setting) (stripe t c : ℕ) (past : List Entry) → AllCalm t c past → missing_count s stripe past ≡ 0
missing_count-calm s stripe t c past p =
    ap length (filter-none (λ i. is_missing i stripe past) (numbers 0 s.geometry.targets) (λ i. is_missing-calm i stripe t c past p))
