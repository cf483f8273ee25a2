-- More entries, where those of one lock are the same and those of every other lock begin with the ones that stood there:
-- what is read of that lock is the same, and names say what they said.
use Rattle.std.specs.List.{AllByRecursion}
use Rattle.std.specs.Prelude.{◌≡◌, ◌==◌, ◌&&◌, ◌||◌, nat_lt, not, ℕ, ◌+◌, ◌*◌, Bool, true, false, List, [], ◌∷◌, map, Option, Some, is_some}
use Rattle.std.proofs.Common.{refl, ap, sym, ◌∙◌, cond}
use Rattle.blocks_core.specs.Xor.{xor_all}
use Rattle.stripe_layout.specs.Modes.{target_gathers}
use Rattle.array_journal.specs.declared.at.At.{At}
use Rattle.array_journal.specs.declared.entry.Entry.{Entry}
use Rattle.array_journal.specs.declared.event.Event.{Event}
use Rattle.array_journal.specs.declared.setting.Setting.{Setting}
use Rattle.array_journal.specs.declared.task.Kind.{Kind}
use Rattle.array_journal.specs.declared.task.Kind.TheVariants.{DegradedRead}
use Rattle.array_journal.specs.declared.task.Task.{Task}
use Rattle.blocks_core.specs.Lists.{slice}
use Rattle.array_journal.specs.Entries.{entry_at, some_at, count_before, stamps_below}
use Rattle.array_journal.specs.declared.act.Act.{Act}
use Rattle.array_journal.specs.Acts.{task_bytes, is_act}
use Rattle.array_journal.specs.Media.{rows_on}
use Rattle.array_journal.specs.Lives.{is_gone, loss_of, swap_count, is_swap_of, is_unfitted}
use Rattle.array_journal.specs.Deltas.{delta_at}
use Rattle.array_journal.specs.May.{Names, NamesAt, passes, bytes_of, bytes_named, EachOwn, is_own_act, is_named, AllNamed, taken, first_taken, closed_bytes}
use Rattle.array_journal.specs.Laws.{lane}
use Rattle.array_journal.proofs.runs.Standing.{passes-event, passes-said}
use Rattle.array_journal.proofs.runs.LaneLaws.{lane-fold, some_at-lane, count_at-lane, media-lane, loss_of-lane, is_unfitted-lane}

-- What stands in some entries stands in more of them: each named entry, the delta of a named diff, and how many swaps
-- came before a named entry of the book.
pub record Wider (past wide : List Entry) : Type 0 where
  pub stands : (name : At) (event : Event) → entry_at name past ≡ Some event → entry_at name wide ≡ Some event
  pub deltas : (s : Setting) (i : ℕ) (name : At) (bytes : List ℕ) → name.lock ≡ i + 1 → delta_at s i name past ≡ Some bytes → delta_at s i name wide ≡ Some bytes
  pub swaps : (i : ℕ) (name : At) (event : Event) → name.lock ≡ 0 → entry_at name past ≡ Some event →
      count_before 0 (is_swap_of i) name.stamp past ≡ count_before 0 (is_swap_of i) name.stamp wide

-- the entries of one lock are the same
abbrev pub SameLane : ℕ → List Entry → List Entry → Type 0
SameLane k past wide = lane k past ≡ lane k wide

-- what is read from one lock alone is the same
pub same : {A : Type 0} (f : List Entry → A) (k : ℕ) (past wide : List Entry) → ((p : List Entry) → f p ≡ f (lane k p)) → SameLane k past wide → f past ≡ f wide
same f k past wide law own = law past ∙ ap f own ∙ sym (law wide)

pub same-some : (k : ℕ) (test : Event → Bool) (past wide : List Entry) → SameLane k past wide → some_at k test past ≡ some_at k test wide
same-some k test past wide own = same (some_at k test) k past wide (some_at-lane k test) own

pub same-gone : (i : ℕ) (past wide : List Entry) → SameLane (i + 1) past wide → is_gone i past ≡ is_gone i wide
same-gone i past wide own = ap is_some (same (loss_of i) (i + 1) past wide (loss_of-lane i) own)

pub same-rows : (s : Setting) (i row len : ℕ) (past wide : List Entry) → SameLane (i + 1) past wide → rows_on s i past row len ≡ rows_on s i wide row len
same-rows s i row len past wide own =
    same (λ p. rows_on s i p row len) (i + 1) past wide (λ p. ap (λ (m : List ℕ). slice m (row * s.geometry.block) len) (media-lane s i p)) own

pub same-unfitted : (i : ℕ) (past wide : List Entry) → SameLane 0 past wide → is_unfitted i past ≡ is_unfitted i wide
same-unfitted i past wide own = same (is_unfitted i) 0 past wide (is_unfitted-lane i) own

pub same-swaps : (i : ℕ) (past wide : List Entry) → SameLane 0 past wide → swap_count i past ≡ swap_count i wide
same-swaps i past wide own = same (swap_count i) 0 past wide (count_at-lane 0 (is_swap_of i)) own

pub stamps_below-lane : (k stamp : ℕ) (past : List Entry) → stamps_below k stamp past ≡ stamps_below k stamp (lane k past)
stamps_below-lane k stamp past =
    lane-fold k (stamps_below k stamp) (λ e old. nat_lt e.stamp stamp && old) (λ e rest. step (e.lock == k) (nat_lt e.stamp stamp) (stamps_below k stamp rest)) past
  where
    step : (b l r : Bool) → ((not b || l) && r) ≡ cond b (l && r) r
    step true l r = refl
    step false l r = refl

-- names
pub wider-names : (past wide : List Entry) (stamp : ℕ) (name : At) (test : Event → Bool) → Wider past wide → Names past stamp name test → Names wide stamp name test
wider-names past wide stamp name test w n =
    let found = passes-event test (entry_at name past) n.0 in
    (passes-said test name wide found.0 (w.stands name found.0 found.1.0) found.1.1, n.1)

pub wider-named : (past wide : List Entry) (stamp : ℕ) (targets : List ℕ) (test : Event → Bool) (names : List At) → Wider past wide →
    NamesAt past stamp targets test names → NamesAt wide stamp targets test names
wider-named past wide stamp [] test [] w n = tt
wider-named past wide stamp [] test (name ∷ names) w n = n
wider-named past wide stamp (i ∷ targets) test [] w n = n
wider-named past wide stamp (i ∷ targets) test (name ∷ names) w n =
    ((n.0.0, wider-names past wide stamp name test w n.0.1), wider-named past wide stamp targets test names w n.1)

-- each of these names says the same
abbrev pub AllSame : List Entry → List Entry → List At → Type 0
AllSame past wide names = AllByRecursion (λ (name : At). entry_at name past ≡ entry_at name wide) names

one-same : (past wide : List Entry) (name : At) (test : Event → Bool) → Wider past wide → passes test (entry_at name past) ≡ true → entry_at name past ≡ entry_at name wide
one-same past wide name test w p = let found = passes-event test (entry_at name past) p in found.1.0 ∙ sym (w.stands name found.0 found.1.0)

pub named-same : (past wide : List Entry) (stamp : ℕ) (targets : List ℕ) (test : Event → Bool) (names : List At) → Wider past wide →
    NamesAt past stamp targets test names → AllSame past wide names
named-same past wide stamp [] test [] w n = tt
named-same past wide stamp [] test (name ∷ names) w n = absurd n
named-same past wide stamp (i ∷ targets) test [] w n = tt
named-same past wide stamp (i ∷ targets) test (name ∷ names) w n =
    (one-same past wide name test w n.0.1.0, named-same past wide stamp targets test names w n.1)

pub own-same : (s : Setting) (past wide : List Entry) (stamp c : ℕ) (task : Task) (names : List At) → Wider past wide → EachOwn s past stamp c task names → AllSame past wide names
own-same s past wide stamp c task [] w n = tt
own-same s past wide stamp c task (name ∷ names) w n =
    (one-same past wide name (is_own_act s c task name.lock) w n.0.0, own-same s past wide stamp c task names w n.1)

pub wider-own : (s : Setting) (past wide : List Entry) (stamp c : ℕ) (task : Task) (names : List At) → Wider past wide → EachOwn s past stamp c task names →
    EachOwn s wide stamp c task names
wider-own s past wide stamp c task [] w n = tt
wider-own s past wide stamp c task (name ∷ names) w n =
    (wider-names past wide stamp name (is_own_act s c task name.lock) w n.0, wider-own s past wide stamp c task names w n.1)

pub same-bytes : (past wide : List Entry) (names : List At) → AllSame past wide names → map (bytes_named past) names ≡ map (bytes_named wide) names
same-bytes past wide [] a = refl
same-bytes past wide (name ∷ names) a =
    ap (λ (o : Option Event). bytes_of o ∷ map (bytes_named past) names) a.0 ∙ ap (λ (l : List (List ℕ)). bytes_named wide name ∷ l) (same-bytes past wide names a.1)

same-taken : (past wide : List Entry) (names : List At) → AllSame past wide names → first_taken past names ≡ first_taken wide names
same-taken past wide [] a = refl
same-taken past wide (name ∷ names) a =
    ap (λ (o : Option Event). taken o (first_taken past names)) a.0 ∙ ap (taken (entry_at name wide)) (same-taken past wide names a.1)

pub same-named : (past wide : List Entry) (c : ℕ) (act : Act) (i : ℕ) (names : List At) → AllSame past wide names → is_named past c act i names ≡ is_named wide c act i names
same-named past wide c act i [] a = refl
same-named past wide c act i (name ∷ names) a =
    ap (λ (o : Option Event). ((name.lock == i + 1) && passes (is_act act c) o) || is_named past c act i names) a.0
    ∙ ap (λ b. ((name.lock == i + 1) && passes (is_act act c) (entry_at name wide)) || b) (same-named past wide c act i names a.1)

pub wider-all_named : (s : Setting) (past wide : List Entry) (c : ℕ) (task : Task) (act : Act) (names : List At) → AllSame past wide names →
    AllNamed s past c task act names → AllNamed s wide c task act names
wider-all_named s past wide c task act names a all i h = sym (same-named past wide c act i names a) ∙ all i h

pub same-closed : (s : Setting) (past wide : List Entry) (task : Task) (names : List At) (kind : Kind) → AllSame past wide names →
    closed_bytes s past task names kind ≡ closed_bytes s wide task names kind
same-closed s past wide task names DegradedRead a =
    ap (λ (l : List ℕ). cond (target_gathers s.mode) l (xor_all (task_bytes s task) (map (bytes_named past) names))) (same-taken past wide names a)
    ∙ ap (λ (l : List (List ℕ)). cond (target_gathers s.mode) (first_taken wide names) (xor_all (task_bytes s task) l)) (same-bytes past wide names a)
same-closed s past wide task names _ a = refl
