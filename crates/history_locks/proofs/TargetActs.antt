-- An act of a bus at a target.
use Rattle.std.specs.Prelude.{◌≡◌, ◌≢◌, ◌==◌, ◌&&◌, ◌||◌, ◌⊎◌, ◌<◌, ◌≤◌, ◌+◌, ℕ, zero, suc, max, Bool, true, false, List, [], ◌∷◌, ◌++◌, length, map, reverse, Option, Some, None, IfSome, is_some, slice_get, slice_set}
use Rattle.std.proofs.Common.{refl, ap, sym, subst, ◌∙◌, cond, arith, inl, inr, get_or}
use Rattle.std.proofs.lemmas.Bool.{cases_eq, false≢true}
use Rattle.std.proofs.lemmas.Option.{same_Some, slice_get_within}
use Rattle.std.proofs.lemmas.List.{length-map, length-set, reverse-append, reverse-reverse}
use Rattle.array_journal.specs.declared.entry.Entry.{Entry}
use Rattle.array_journal.specs.declared.event.Event.{Event}
use Rattle.array_journal.specs.declared.setting.Setting.{Setting}
use Rattle.array_journal.specs.Acts.{shuts_command}
use Rattle.array_journal.specs.Entries.{name_of, some_at, newest_at}
use Rattle.array_journal.specs.Laws.{lane}
use Rattle.array_journal.specs.May.{May}
use Rattle.array_journal.specs.Run.{Grows}
use Rattle.array_journal.proofs.runs.LaneLaws.{some_at-lane}
use Rattle.array_journal.proofs.runs.OneJournal.{with_entry}
use Rattle.xor_target.specs.Answers.{next_entry}
use Rattle.xor_target.specs.Logs.{last_stamp}
use Rattle.xor_target.specs.State.{TargetState, IsRecorded}
use Rattle.xor_target.specs.Waits.{waiting_of}
use Rattle.xor_target.specs.declared.waiting.Waiting.{Waiting}
use Rattle.unit_plans.specs.declared.acts.Act.{Act}
use Rattle.unit_plans.specs.declared.acts.Act.TheVariants.{Run, Back, Shut, Lose, Wipe, DropNext, Fresh}
use Rattle.unit_plans.specs.declared.acts.Acted.{Acted}
use Rattle.unit_plans.specs.ActLaws.{KeepsShape}
use Rattle.unit_plans.specs.Answered.{StaysOrGrows}
use Rattle.unit_plans.specs.Buses.{BusSetting, HasMaxima, StandsOn, EachBeginsWith, merged}
use Rattle.unit_plans.specs.Conditions.{CanAct}
use Rattle.unit_plans.specs.Effects.{HasActed, HasCome, IsDoneAt}
use Rattle.history_locks.specs.PlainActs.{IsReadyFor, IsTelling, ActsAt}
use Rattle.history_locks.specs.PlainBuses.{PlainState, IsPlaced, ArePlaced, IsPassOf, entries_of, lists_of, setting_of}
use Rattle.history_locks.proofs.Coming.{Comes, Still, More, made_by, comes-lists, comes-begins, comes-grown, has-come, comes-run, of-made}
use Rattle.history_locks.proofs.Growing.{merged-last, newest-below, next-above, newest-stays, newest-next}
use Rattle.unit_plans.proofs.ActsFollow.{acts-follow}
use Rattle.unit_plans.proofs.Shapes.{acts-keep_shapes}
use Rattle.history_locks.proofs.Made.{Makes, None_more, One_more, act-makes}

-- ---- the list of a target

target-list : (ts : List TargetState) (k : ℕ) (t : TargetState) → slice_get ts k ≡ Some t → get_or (map entries_of ts) k [] ≡ entries_of t
target-list [] k t there = absurd cc
target-list (x ∷ ts) zero t there = ap entries_of (same_Some x t there)
target-list (x ∷ ts) (suc k) t there = target-list ts k t there

-- a target with the entries that it had
lists-still : (ts : List TargetState) (k : ℕ) (t now : TargetState) → slice_get ts k ≡ Some t → now.past ≡ t.past →
    map entries_of (slice_set ts k now) ≡ map entries_of ts
lists-still [] k t now there same = refl
lists-still (x ∷ ts) zero t now there same =
    ap (λ (es : List Entry). reverse es ∷ map entries_of ts) (same ∙ ap (λ (u : TargetState). u.past) (sym (same_Some x t there)))
lists-still (x ∷ ts) (suc k) t now there same = ap (λ (ls : List (List Entry)). entries_of x ∷ ls) (lists-still ts k t now there same)

-- a target with one entry more
lists-one : (ts : List TargetState) (k : ℕ) (t now : TargetState) (e : Entry) → slice_get ts k ≡ Some t → now.past ≡ e ∷ t.past →
    map entries_of (slice_set ts k now) ≡ with_entry (map entries_of ts) k e
lists-one [] k t now e there more = absurd cc
lists-one (x ∷ ts) zero t now e there more =
    ap (λ (es : List Entry). reverse es ∷ map entries_of ts) more
    ∙ ap (λ (es : List Entry). es ∷ map entries_of ts) (reverse-append (e ∷ []) t.past)
    ∙ ap (λ (u : TargetState). (entries_of u ++ e ∷ []) ∷ map entries_of ts) (sym (same_Some x t there))
lists-one (x ∷ ts) (suc k) t now e there more = ap (λ (ls : List (List Entry)). entries_of x ∷ ls) (lists-one ts k t now e there more)

pub inside-lists : (bus : PlainState) (k : ℕ) (t : TargetState) → slice_get bus.targets k ≡ Some t → suc k < length (lists_of bus)
inside-lists bus k t there = omega (arith, slice_get_within bus.targets k t there, length-map bus.targets entries_of)

-- ---- before an act

module _ (never_fails : Bool) (bus : PlainState) (seen k : ℕ) (t : TargetState) (pass : IsPassOf never_fails bus seen)
    (there : slice_get bus.targets k ≡ Some t) where
  own-lane : lane (suc k) (merged (lists_of bus)) ≡ t.past
  own-lane = pass.lists.lanes (suc k) ∙ ap (λ (es : List Entry). reverse es) (target-list bus.targets k t there) ∙ reverse-reverse t.past

  placed-at : IsPlaced (setting_of bus) k t
  placed-at = pass.placed k t there

  its-lock : t.number + 1 ≡ suc k
  its-lock = ap (λ n. n + 1) placed-at.number ∙ omega arith

  pub stands-on : StandsOn (setting_of bus) t (merged (lists_of bus))
  stands-on = record {
    stands = record { of_array = placed-at.of_array; kept = placed-at.kept; entries = ap (λ n. lane n (merged (lists_of bus))) its-lock ∙ own-lane };
    page = placed-at.page;
    first = placed-at.first;
    nothing_waits = placed-at.nothing_waits;
  }

  pub last-below : last_stamp t.past ≤ seen
  last-below = newest-below seen (lists_of bus) (suc k) t.past pass.lists.kept (target-list bus.targets k t there)

-- none is the newest where there is none
newest-none : (lock : ℕ) (test : Event → Bool) (past : List Entry) → some_at lock test past ≡ false → newest_at lock test past ≡ None
newest-none lock test [] h = refl
newest-none lock test (e ∷ past) h = by_test ((e.lock == lock) && test e.event) (newest-none lock test past) h
  where
    by_test : (b : Bool) → (some_at lock test past ≡ false → newest_at lock test past ≡ None) → (b || some_at lock test past) ≡ false →
        cond b (Some (name_of e)) (newest_at lock test past) ≡ None
    by_test true rest without = absurd (false≢true (sym without))
    by_test false rest without = rest without

-- what a target asks of an act is so where the act may be asked
pub ready-for : (s : Setting) (t : TargetState) (act : Act) (journal made : List Entry) → lane (t.number + 1) journal ≡ t.past → t.waiting ≡ [] →
    CanAct s journal made t.number act → IsReadyFor t act
ready-for s t (Run order) journal made own waits can = ap (λ (ws : List Waiting). is_some (waiting_of order.owner ws)) waits
ready-for s t (Back owner peer) journal made own waits can = can
ready-for s t (Shut owner opened) journal made own waits can =
    newest-none (t.number + 1) (shuts_command owner) t.past
    (ap (λ (p : List Entry). some_at (t.number + 1) (shuts_command owner) p) (sym own) ∙ sym (some_at-lane (t.number + 1) (shuts_command owner) journal) ∙
    can.asked.once)
ready-for s t (Lose call) journal made own waits can = can
ready-for s t (Wipe call) journal made own waits can = tt
ready-for s t (DropNext call) journal made own waits can = tt
ready-for s t (Fresh call swap) journal made own waits can = tt

-- what an act of a pass asks of the target at its place
pub ready-at : (never_fails : Bool) (bus : PlainState) (seen k : ℕ) (act : Act) (made : List Entry) → IsPassOf never_fails bus seen →
    CanAct bus.book.setting (merged (lists_of bus)) made k act → (t : TargetState) → slice_get bus.targets k ≡ Some t → IsReadyFor t act
ready-at never_fails bus seen k act made pass can t there =
    let on = stands-on never_fails bus seen k t pass there in
    ready-for bus.book.setting t act (merged (lists_of bus)) made on.stands.entries on.nothing_waits
    (subst (λ n. CanAct bus.book.setting (merged (lists_of bus)) made n act) (sym (pass.placed k t there).number) can)

-- ---- what an act leaves

-- the target is one of the bus still
placed-still : (b : BusSetting) (never_fails : Bool) (k : ℕ) (t now : TargetState) → never_fails ≡ true → IsPlaced b k t → KeepsShape never_fails t now →
    IsTelling now → IsPlaced b k now
placed-still b never_fails k t now reliable h keeps telling =
    let tells = keeps.tells reliable in
    record {
      number = ap (λ (u : TargetState). u.number) keeps.same ∙ h.number;
      of_array = record {
        number = subst (λ n. n < b.array.geometry.targets) (sym (ap (λ (u : TargetState). u.number) keeps.same)) h.of_array.number;
        targets = ap (λ (u : TargetState). u.targets) keeps.same ∙ h.of_array.targets;
        block = ap (λ (u : TargetState). u.block) keeps.same ∙ h.of_array.block;
        rows = ap (λ (u : TargetState). u.rows) keeps.same ∙ h.of_array.rows;
        buffer = ap (λ (u : TargetState). u.buffer) keeps.same ∙ h.of_array.buffer;
      };
      kept = record {
        told = tells.0;
        tells = tells.1;
        recorded = subst (λ (o : Option (List ℕ)). IfSome o (IsRecorded now)) tells.1 telling.recorded;
        rise = telling.rise;
      };
      page = paged keeps.page;
      first = subst (HasMaxima b) (sym (ap (λ (u : TargetState). u.first) keeps.same)) h.first;
      nothing_waits = ap (λ (u : TargetState). u.waiting) keeps.same ∙ h.nothing_waits;
    }
  where
    paged : (now.page ≡ t.page) ⊎ (now.page ≡ t.first) → HasMaxima b now.page
    paged (inl same) = subst (HasMaxima b) (sym same) h.page
    paged (inr same) = subst (HasMaxima b) (sym same) h.first

got-same : (ts : List TargetState) (k : ℕ) (t now : TargetState) → slice_get ts k ≡ Some t → slice_get (slice_set ts k now) k ≡ Some now
got-same [] k t now h = absurd cc
got-same (x ∷ ts) zero t now h = refl
got-same (x ∷ ts) (suc k) t now h = got-same ts k t now h

got-other : (ts : List TargetState) (k j : ℕ) (now : TargetState) → j ≢ k → slice_get (slice_set ts k now) j ≡ slice_get ts j
got-other [] k j now h = refl
got-other (x ∷ ts) zero zero now h = absurd (h refl)
got-other (x ∷ ts) zero (suc j) now h = refl
got-other (x ∷ ts) (suc k) zero now h = refl
got-other (x ∷ ts) (suc k) (suc j) now h = got-other ts k j now (λ e. h (ap suc e))

-- all are at their places where one came to something else there
placed-all : (b : BusSetting) (ts : List TargetState) (k : ℕ) (t now : TargetState) → ArePlaced b ts → slice_get ts k ≡ Some t → IsPlaced b k now →
    ArePlaced b (slice_set ts k now)
placed-all b ts k t now all there placed j u got = at (cases_eq j k)
  where
    at : (j ≡ k) ⊎ (j ≢ k) → IsPlaced b j u
    at (inr other) = all j u (sym (got-other ts k j now other) ∙ got)
    at (inl is) =
        let here : slice_get (slice_set ts k now) k ≡ Some u = subst (λ (i : ℕ). slice_get (slice_set ts k now) i ≡ Some u) is got in
        let same : u ≡ now = same_Some u now (sym here ∙ got-same ts k t now there) in
        subst (λ (i : ℕ). IsPlaced b i u) (sym is) (subst (IsPlaced b k) (sym same) placed)

module _ (never_fails : Bool) (bus : PlainState) (seen k : ℕ) (act : Act) (pass : IsPassOf never_fails bus seen)
    (can : CanAct bus.book.setting (merged (lists_of bus)) (merged (lists_of bus)) k act) (answer : Acted) (newest : ℕ) (after : PlainState)
    (acts : ActsAt never_fails bus k seen act answer newest after) where
  abbrev journal : List Entry
  journal = merged (lists_of bus)

  abbrev later : PlainState
  later = record bus { targets = slice_set bus.targets k acts.now }

  comes : Makes acts.before seen acts.now → Comes seen (suc k) (lists_of bus) acts.before.past newest (lists_of later) acts.now.past
  comes (None_more same) =
      Still
      (ap (λ (ls : List (List Entry)). reverse bus.book.past ∷ ls) (lists-still bus.targets k acts.before acts.now acts.stands same))
      (acts.newest_is ∙ ap (λ (es : List Entry). max seen (last_stamp es)) same
      ∙ newest-stays seen (last_stamp acts.before.past) (last-below never_fails bus seen k acts.before pass acts.stands))
      same
  comes (One_more event more quiet) =
      let e : Entry = next_entry acts.before seen event in
      let next : e.stamp ≡ seen + 1 = next-above (last_stamp acts.before.past) seen (last-below never_fails bus seen k acts.before pass acts.stands) in
      More e
      (ap (λ (ls : List (List Entry)). reverse bus.book.past ∷ ls) (lists-one bus.targets k acts.before acts.now e acts.stands more))
      (acts.newest_is ∙ newest-next seen (last_stamp acts.now.past) (ap last_stamp more ∙ next))
      more next (its-lock never_fails bus seen k acts.before pass acts.stands) quiet

  on : StandsOn (setting_of bus) acts.before journal
  on = stands-on never_fails bus seen k acts.before pass acts.stands

  its-can : CanAct bus.book.setting journal journal acts.before.number act
  its-can = subst (λ n. CanAct bus.book.setting journal journal n act) (sym (pass.placed k acts.before acts.stands).number) can

  does : HasActed never_fails acts.before act (last_stamp journal) answer acts.now
  does = subst (λ n. HasActed never_fails acts.before act n answer acts.now) (sym (merged-last seen (lists_of bus) pass.lists)) acts.does

  came : Comes seen (suc k) (lists_of bus) acts.before.past newest (lists_of later) acts.now.past
  came = comes (act-makes bus.book.setting acts.before act journal journal k seen answer acts.now can
      (subst (λ b. HasActed b acts.before act seen answer acts.now) pass.reliable acts.does))

  inside : suc k < length (lists_of bus)
  inside = inside-lists bus k acts.before acts.stands

  pub target-pass : IsPassOf never_fails after newest
  target-pass = subst (λ (b : PlainState). IsPassOf never_fails b newest) (sym acts.others) (record {
    reliable = pass.reliable;
    array = pass.array;
    in_order = pass.in_order;
    many = length-set bus.targets k acts.now ∙ pass.many;
    placed = placed-all (setting_of bus) bus.targets k acts.before acts.now pass.placed acts.stands
        (placed-still (setting_of bus) never_fails k acts.before acts.now pass.reliable (pass.placed k acts.before acts.stands)
        (acts-keep_shapes (setting_of bus) never_fails acts.before acts.now act answer journal journal on its-can does) acts.telling);
    lists = comes-lists seen (suc k) (lists_of bus) inside pass.lists came;
  })

  pub target-begins : EachBeginsWith (lists_of after) (lists_of bus)
  target-begins = subst (λ (b : PlainState). EachBeginsWith (lists_of b) (lists_of bus)) (sym acts.others)
      (comes-begins seen (suc k) (lists_of bus) inside pass.lists came)

  pub target-run : Grows bus.book.setting (merged (lists_of bus)) → Grows bus.book.setting (merged (lists_of after))
  target-run run = subst (λ (b : PlainState). Grows bus.book.setting (merged (lists_of b))) (sym acts.others)
      (comes-run seen (suc k) (lists_of bus) inside pass.lists bus.book.setting came
      (of-made (May bus.book.setting journal) acts.before.past acts.now.past
      (told (acts-follow (setting_of bus) never_fails acts.before acts.now act answer journal journal pass.array run on its-can does))) run)
    where
      told : StaysOrGrows bus.book.setting journal acts.before acts.now →
          (acts.now.past ≡ acts.before.past) ⊎ ((f : Entry) × ((acts.now.past ≡ f ∷ acts.before.past) × May bus.book.setting journal f))
      told (inl same) = inl same
      told (inr grows) = inr (grows.entry, (grows.grown, grows.may))

  pub target-done : IsDoneAt true never_fails (setting_of bus) k act answer (merged (lists_of bus)) (merged (lists_of bus)) (merged (lists_of after))
      (merged (lists_of after))
  target-done = subst (λ (b : PlainState). IsDoneAt true never_fails (setting_of bus) k act answer journal journal (merged (lists_of b))
      (merged (lists_of b))) (sym acts.others) (record {
        over = journal;
        entries = made_by came;
        target = acts.before;
        after = acts.now;
        number = (pass.placed k acts.before acts.stands).number;
        stands = on;
        does = does;
        grown = comes-grown seen (suc k) (lists_of bus) inside pass.lists came;
        come = subst (λ n. HasCome true (Grows bus.book.setting) n journal (made_by came) journal journal (merged (lists_of later)) (merged (lists_of later)))
            (omega arith)
            (has-come seen (suc k) (lists_of bus) inside pass.lists (Grows bus.book.setting) came);
      })
