-- In a journal of reads and supervised updates alone: what stands of the next command, and room for it.
use Rattle.std.specs.Prelude.{◌≡◌, ◌==◌, ◌<◌, ◌≤◌, nat_lt, not, ℕ, ◌+◌, Bool, true, false, List, [], ◌∷◌, Option, Some, None}
use Rattle.std.proofs.Common.{refl, ap, ◌∙◌, cond, arith}
use Rattle.std.proofs.lemmas.Bool.{ne_eqb, lt-ltb, le-leb, or_from, and_left, and_right, or_right, and_from}
use Rattle.array_journal.specs.declared.entry.Entry.{Entry}
use Rattle.array_journal.specs.declared.event.Event.{Event}
use Rattle.array_journal.specs.declared.event.Event.TheVariants.{Fetch, Diff, Take, Fold, Open, Close}
use Rattle.array_journal.specs.declared.setting.Setting.{Setting}
use Rattle.array_journal.specs.declared.task.Task.{Task}
use Rattle.array_journal.specs.Entries.{some_at, stamps_below}
use Rattle.array_journal.specs.Commands.{ends_command, is_open}
use Rattle.array_journal.specs.declared.act.Act.TheVariants.{Fetches, Diffs, Takes, Folds}
use Rattle.array_journal.specs.Acts.{is_act}
use Rattle.array_journal.specs.Decision.{opens_conflict, holder_of, count_of, held_count, has_room_at, has_room, holds_at}
use Rattle.array_journal.specs.Run.{NoneOpen}
use Rattle.array_journal.specs.Calm.{IsCalmEvent}
use Rattle.array_journal.proofs.calm.CalmEntries.{AllCalm}

pub below_other : (m n : ℕ) → m < n → m ≡ n → ⊥
below_other m n h e = omega arith

-- a calm entry has no larger stamp
pub stamps_below-calm : (lock stamp t c : ℕ) (past : List Entry) → t < stamp → AllCalm t c past → stamps_below lock stamp past ≡ true
stamps_below-calm lock stamp t c [] h p = refl
stamps_below-calm lock stamp t c (e ∷ past) h p =
    and_from _ _ (or_right (not (e.lock == lock)) (nat_lt e.stamp stamp) (lt-ltb e.stamp stamp (omega (arith, p.0.stamp))))
    (stamps_below-calm lock stamp t c past h p.1)

-- no calm event is an act or an end of the next command
pub calm-no_fetches : (c : ℕ) (e : Event) → IsCalmEvent c e → is_act Fetches c e ≡ false
calm-no_fetches c (Fetch command opened cdb row bytes) p = ne_eqb command c (below_other command c p)
calm-no_fetches c (Diff command opened cdb row bytes sent dropped back) p = refl
calm-no_fetches c (Take command opened cdb row bytes) p = refl
calm-no_fetches c (Fold command opened cdb row bytes names) p = refl
calm-no_fetches c (Open command task) p = refl
calm-no_fetches c (Close command done names cause bytes) p = refl
calm-no_fetches c _ p = absurd p

pub calm-no_diffs : (c : ℕ) (e : Event) → IsCalmEvent c e → is_act Diffs c e ≡ false
calm-no_diffs c (Fetch command opened cdb row bytes) p = refl
calm-no_diffs c (Diff command opened cdb row bytes sent dropped back) p = ne_eqb command c (below_other command c p.0)
calm-no_diffs c (Take command opened cdb row bytes) p = refl
calm-no_diffs c (Fold command opened cdb row bytes names) p = refl
calm-no_diffs c (Open command task) p = refl
calm-no_diffs c (Close command done names cause bytes) p = refl
calm-no_diffs c _ p = absurd p

pub calm-no_takes : (c : ℕ) (e : Event) → IsCalmEvent c e → is_act Takes c e ≡ false
calm-no_takes c (Fetch command opened cdb row bytes) p = refl
calm-no_takes c (Diff command opened cdb row bytes sent dropped back) p = refl
calm-no_takes c (Take command opened cdb row bytes) p = ne_eqb command c (below_other command c p)
calm-no_takes c (Fold command opened cdb row bytes names) p = refl
calm-no_takes c (Open command task) p = refl
calm-no_takes c (Close command done names cause bytes) p = refl
calm-no_takes c _ p = absurd p

pub calm-no_folds : (c : ℕ) (e : Event) → IsCalmEvent c e → is_act Folds c e ≡ false
calm-no_folds c (Fetch command opened cdb row bytes) p = refl
calm-no_folds c (Diff command opened cdb row bytes sent dropped back) p = refl
calm-no_folds c (Take command opened cdb row bytes) p = refl
calm-no_folds c (Fold command opened cdb row bytes names) p = ne_eqb command c (below_other command c p)
calm-no_folds c (Open command task) p = refl
calm-no_folds c (Close command done names cause bytes) p = refl
calm-no_folds c _ p = absurd p

pub calm-no_end : (c : ℕ) (e : Event) → IsCalmEvent c e → ends_command c e ≡ false
calm-no_end c (Fetch command opened cdb row bytes) p = refl
calm-no_end c (Diff command opened cdb row bytes sent dropped back) p = refl
calm-no_end c (Take command opened cdb row bytes) p = refl
calm-no_end c (Fold command opened cdb row bytes names) p = refl
calm-no_end c (Open command task) p = refl
calm-no_end c (Close command done names cause bytes) p = ne_eqb command c (below_other command c p.0)
calm-no_end c _ p = absurd p

-- what no event says, no entry says
pub some_at-never : (lock : ℕ) (test : Event → Bool) (past : List Entry) → ((e : Event) → test e ≡ false) → some_at lock test past ≡ false
some_at-never lock test [] never = refl
some_at-never lock test (e ∷ past) never = or_from _ _ (and_right _ _ (never e.event)) (some_at-never lock test past never)

-- where no command is open, none conflicts with a task, and none holds blocks
no_conflict : (whole : List Entry) (task : Task) (e : Event) → NoneOpen whole → opens_conflict whole task e ≡ false
no_conflict whole task (Open command other) h = and_left _ _ (h command)
no_conflict whole task _ h = refl

pub alone-calm : (past : List Entry) (task : Task) → NoneOpen past → some_at 0 (opens_conflict past task) past ≡ false
alone-calm past task h = some_at-never 0 (opens_conflict past task) past (λ e. no_conflict past task e h)

no_count : (s : Setting) (whole : List Entry) (i : ℕ) (e : Event) → NoneOpen whole → count_of s whole i e ≡ 0
no_count s whole i (Open command task) h = ap (λ b. cond b task.count 0) (and_left (is_open command whole) (holds_at s i task) (h command))
no_count s whole i _ h = refl

pub held_count-calm : (s : Setting) (whole : List Entry) (i : ℕ) (past : List Entry) → NoneOpen whole → held_count s whole i past ≡ 0
held_count-calm s whole i [] h = refl
held_count-calm s whole i (e ∷ past) h =
    ap (λ n. cond (e.lock == 0) n 0 + held_count s whole i past) (no_count s whole i e.event h)
    ∙ ap (λ n. cond (e.lock == 0) 0 0 + n) (held_count-calm s whole i past h) ∙ zero-both (e.lock == 0)
  where
    zero-both : (b : Bool) → cond b 0 0 + 0 ≡ 0
    zero-both true = refl
    zero-both false = refl

room_at-calm : (s : Setting) (task : Task) (past : List Entry) (holder : Option ℕ) → NoneOpen past → task.count ≤ s.buffer →
    has_room_at s task past holder ≡ true
room_at-calm s task past None h k = refl
room_at-calm s task past (Some i) h k =
    le-leb (held_count s past i past + task.count) s.buffer (omega (arith, held_count-calm s past i past h))

pub room-calm : (s : Setting) (task : Task) (past : List Entry) → NoneOpen past → task.count ≤ s.buffer → has_room s task past ≡ true
room-calm s task past h k = room_at-calm s task past (holder_of s task.kind task) h k
