-- A bus on which nothing happened.
use Rattle.std.specs.Prelude.{◌≡◌, ◌≤◌, ◌*◌, ℕ, zero, suc, Bool, IsTrue, List, [], ◌∷◌, ◌++◌, length, map, reverse, Some, slice_get}
use Rattle.std.specs.List.{AllByRecursion}
use Rattle.std.proofs.Common.{refl, ap, sym, subst, ◌∙◌, arith, get_or}
use Rattle.blocks_core.specs.Xor.{zeros}
use Rattle.array_journal.specs.declared.entry.Entry.{Entry}
use Rattle.array_journal.specs.Calm.{IsStamped}
use Rattle.array_journal.specs.Laws.{lane}
use Rattle.array_journal.specs.Merge.{joined, Rises, AreOfLocks}
use Rattle.array_journal.specs.OneJournal.{by_name, journal_of}
use Rattle.array_journal.specs.Run.{IsSetting}
use Rattle.array_book.specs.Ledgers.{AreInOrder}
use Rattle.xor_target.specs.State.{TargetState, IsRecorded, target_setting}
use Rattle.array_journal.specs.Media.{media, held}
use Rattle.unit_plans.specs.Buses.{BusSetting, HasNoFailure, merged}
use Rattle.history_locks.specs.PlainBuses.{PlainState, IsNew, IsFirst, IsPlaced, IsPassOf, AreLists, entries_of, lists_of, setting_of}

-- ---- lists of no entries

abbrev AreEmpty : List (List Entry) → Type 0
AreEmpty lists = AllByRecursion (λ (l : List Entry). l ≡ []) lists

empty-joined : (lists : List (List Entry)) → AreEmpty lists → joined lists ≡ []
empty-joined [] h = refl
empty-joined (l ∷ lists) h = ap (λ (es : List Entry). es ++ joined lists) h.0 ∙ empty-joined lists h.1

empty-of_locks : (lock : ℕ) (lists : List (List Entry)) → AreEmpty lists → AreOfLocks lock lists
empty-of_locks lock [] h = tt
empty-of_locks lock (l ∷ lists) h =
    (subst (λ (es : List Entry). AllByRecursion (λ (e : Entry). e.lock ≡ lock) es × Rises es) (sym h.0) (tt, tt), empty-of_locks (suc lock) lists h.1)

empty-part : (lists : List (List Entry)) (k : ℕ) → AreEmpty lists → get_or lists k [] ≡ []
empty-part [] k h = refl
empty-part (l ∷ lists) zero h = h.0
empty-part (l ∷ lists) (suc k) h = empty-part lists k h.1

empty-journal : (lists : List (List Entry)) → AreEmpty lists → journal_of lists ≡ []
unfolding journal_of
empty-journal lists h = ap by_name (empty-joined lists h)

empty-merged : (lists : List (List Entry)) → AreEmpty lists → merged lists ≡ []
unfolding merged
empty-merged lists h = ap (λ (es : List Entry). reverse es) (empty-journal lists h)

empty-lists : (lists : List (List Entry)) → AreEmpty lists → AreLists 0 lists
empty-lists lists h = record {
  kept = record {
    of_locks = empty-of_locks 0 lists h;
    rises = subst Rises (sym (empty-journal lists h)) tt;
    counted = ap (λ (es : List Entry). length es) (sym (empty-joined lists h));
    up_to = subst (λ (es : List Entry). AllByRecursion (λ (e : Entry). e.stamp ≤ 0) es) (sym (empty-joined lists h)) tt;
  };
  stamped = subst IsStamped (sym (empty-merged lists h)) tt;
  lanes = λ k. ap (lane k) (empty-merged lists h) ∙ ap (λ (es : List Entry). reverse es) (sym (empty-part lists k h));
  quiet = subst HasNoFailure (sym (empty-merged lists h)) tt;
}

-- ---- the first targets

targets-empty : (ts : List TargetState) → ((k : ℕ) (t : TargetState) → slice_get ts k ≡ Some t → t.past ≡ []) → AreEmpty (map entries_of ts)
targets-empty [] h = tt
targets-empty (t ∷ ts) h = (ap (λ (es : List Entry). reverse es) (h 0 t refl), targets-empty ts (λ k u there. h (suc k) u there))

-- zeros are what no entry says
none-recorded : (t : TargetState) → t.past ≡ [] → t.held ≡ [] → IsRecorded t (zeros (t.rows * t.block))
none-recorded t none free = record {
  held = free ∙ ap (held (target_setting t) t.number) (sym none);
  media = λ sound. ap (λ n. zeros (n * t.block)) (omega arith) ∙ ap (media (target_setting t) t.number) (sym none);
}

first-placed : (b : BusSetting) (k : ℕ) (t : TargetState) → IsFirst b k t → IsPlaced b k t
first-placed b k t h = record {
  number = h.number;
  of_array = h.of_array;
  kept = record {
    told = zeros (t.rows * t.block);
    tells = h.tells;
    recorded = none-recorded t h.no_entry h.nothing_held;
    rise = subst (λ (es : List Entry). Rises (reverse es)) (sym h.no_entry) tt;
  };
  page = h.page;
  first = h.first;
  nothing_waits = h.nothing_waits;
}

pub new-pass : (never_fails : Bool) (bus : PlainState) → IsTrue never_fails → IsNew bus → IsSetting bus.book.setting → IsPassOf never_fails bus 0
new-pass never_fails bus reliable new array = record {
  reliable = reliable;
  array = array;
  in_order = subst AreInOrder (sym new.no_entry) tt;
  many = new.many;
  placed = λ k t there. first-placed (setting_of bus) k t (new.placed k t there);
  lists = empty-lists (lists_of bus)
      (ap (λ (es : List Entry). reverse es) new.no_entry, targets-empty bus.targets (λ k t there. (new.placed k t there).no_entry));
}
