-- The tests of names of a command's acts decide what is asked of them.
use Rattle.std.proofs.Common.{◌≡◌, ◌==◌, ℕ, zero, suc, ◌+◌, ◌<◌, ◌≤◌, ◌&&◌, ◌||◌, ◌⊎◌, nat_lt, not, Bool, true, false, List, [], ◌∷◌, refl, sym, ap, subst, ⊎_elim, arith}
use Rattle.std.specs.Bool.{Decides}
use Rattle.std.specs.List.{list_all}
use Rattle.std.proofs.lemmas.Bool.{false≢true, ne_eqb}
use Rattle.std.proofs.lemmas.Bool.Decides.{Decides-and, Decides-eqb, Decides-ltb}
use Rattle.array_journal.specs.declared.at.At.{At}
use Rattle.array_journal.specs.declared.entry.Entry.{Entry}
use Rattle.array_journal.specs.declared.setting.Setting.{Setting}
use Rattle.array_journal.specs.declared.task.Task.{Task}
use Rattle.array_journal.specs.declared.act.Act.{Act}
use Rattle.array_journal.specs.declared.act.Act.TheVariants.{Folds}
use Rattle.array_journal.specs.Acts.{has_act, is_act, acts_at}
use Rattle.array_journal.specs.Entries.{entry_at}
use Rattle.array_journal.specs.Lists.{numbers}
use Rattle.array_journal.specs.May.{passes, EachOwn, AllNamed, is_own_act, is_named}
use Rattle.run_check.proofs.NamesDecided.{names-decided}
use Rattle.run_check.specs.NameTests.{names}
use Rattle.run_check.specs.ActNameTests.{each_own, is_named_where_due, all_named, fold_named}

pub own-decided : (s : Setting) (past : List Entry) (stamp c : ℕ) (task : Task) (list : List At) → Decides (each_own s past stamp c task list) (EachOwn s past stamp c task list)
own-decided s past stamp c task [] = (λ h. tt, λ h. refl)
own-decided s past stamp c task (name ∷ rest) =
    Decides-and (names past stamp name (is_own_act s c task name.lock)) (each_own s past stamp c task rest)
    (names-decided past stamp name (is_own_act s c task name.lock)) (own-decided s past stamp c task rest)

pub and_left : (a b : Bool) → (a && b) ≡ true → a ≡ true
and_left true b h = refl
and_left false b h = absurd (false≢true h)

pub and_right : (a b : Bool) → (a && b) ≡ true → b ≡ true
and_right true b h = h
and_right false b h = absurd (false≢true h)

all-at : (p : ℕ → Bool) (a n k : ℕ) → a ≤ k → k < a + n → list_all p (numbers a n) ≡ true → p k ≡ true
all-at p a zero k le lt h = let no : ⊥ = omega arith in absurd no
all-at p a (suc n) k le lt h =
    ⊎_elim (λ (same : a ≡ k). subst (λ (j : ℕ). p j ≡ true) same (and_left (p a) (list_all p (numbers (suc a) n)) h))
    (λ (other : a < k). all-at p (suc a) n k (omega arith) (omega arith) (and_right (p a) (list_all p (numbers (suc a) n)) h))
    (first_or_later a k le)
  where
    first_or_later : (a k : ℕ) → a ≤ k → (a ≡ k) ⊎ (a < k)
    first_or_later a k le = grind arith

all-each : (p : ℕ → Bool) (a n : ℕ) → ((k : ℕ) → p k ≡ true) → list_all p (numbers a n) ≡ true
all-each p a zero each = refl
all-each p a (suc n) each = rw (each a) (all-each p (suc a) n each)

due-named : (due named : Bool) → (not due || named) ≡ true → due ≡ true → named ≡ true
due-named true named h d = h
due-named false named h d = absurd (false≢true d)

named-due : (due named : Bool) → (due ≡ true → named ≡ true) → (not due || named) ≡ true
named-due true named h = h refl
named-due false named h = refl

lt-true : (i n : ℕ) → nat_lt i n ≡ true → i < n
lt-true i n h = (Decides-ltb i n).0 h

pub all-decided : (s : Setting) (past : List Entry) (c : ℕ) (task : Task) (act : Act) (list : List At) → Decides (all_named s past c task act list) (AllNamed s past c task act list)
all-decided s past c task act list = (
  λ h i due.
      due-named (has_act s act task i) (is_named past c act i list)
      (all-at (is_named_where_due s past c task act list) 0 s.geometry.targets i (omega arith)
      (let lt = lt-true i s.geometry.targets (and_left (nat_lt i s.geometry.targets) (acts_at s.mode act task.kind task i) due) in omega (arith, lt)) h)
      due,
  λ each. all-each (is_named_where_due s past c task act list) 0 s.geometry.targets
      (λ i. named-due (has_act s act task i) (is_named past c act i list) (each i)),
)

or_false : (a b : Bool) → (a || b) ≡ false → (a ≡ false) × (b ≡ false)
or_false true b h = absurd (false≢true (sym h))
or_false false b h = (refl, h)

here-not : (past : List Entry) (c : ℕ) (name : At) (i : ℕ) (p : Bool) → (not (name.lock == 0) && p) ≡ false → ((name.lock == i + 1) && p) ≡ false
here-not past c name i false h = and_no (name.lock == i + 1)
  where
    and_no : (b : Bool) → (b && false) ≡ false
    and_no true = refl
    and_no false = refl
here-not past c name i true h = not_lock name.lock h
  where
    not_lock : (lock : ℕ) → (not (lock == 0) && true) ≡ false → ((lock == i + 1) && true) ≡ false
    not_lock zero h = rw (ne_eqb 0 (i + 1) (λ e. omega (arith, e))) refl
    not_lock (suc lock) h =
        let e = ne_eqb (suc lock) 0 (λ e. omega (arith, e)) in
        let no = rw e at h in
        absurd (false≢true (sym no))

none-named : (past : List Entry) (c : ℕ) (list : List At) → fold_named past c list ≡ false → (i : ℕ) → is_named past c Folds i list ≡ false
none-named past c [] h i = refl
none-named past c (name ∷ rest) h i =
    let parts = or_false (not (name.lock == 0) && passes (is_act Folds c) (entry_at name past)) (fold_named past c rest) h in
    rw (here-not past c name i (passes (is_act Folds c) (entry_at name past)) parts.0, none-named past c rest parts.1 i) refl

here-none : (lock : ℕ) (p : Bool) → ((i : ℕ) → ((lock == i + 1) && p) ≡ false) → (not (lock == 0) && p) ≡ false
here-none zero p h = refl
here-none (suc lock) p h =
    rw (ne_eqb (suc lock) 0 (λ e. omega (arith, e)))
    (subst (λ (b : Bool). (b && p) ≡ false) ((Decides-eqb (suc lock) (lock + 1)).1 (omega arith)) (h lock))

named-none : (past : List Entry) (c : ℕ) (list : List At) → ((i : ℕ) → is_named past c Folds i list ≡ false) → fold_named past c list ≡ false
named-none past c [] h = refl
named-none past c (name ∷ rest) h =
    let parts = λ (i : ℕ). or_false ((name.lock == i + 1) && passes (is_act Folds c) (entry_at name past)) (is_named past c Folds i rest) (h i) in
    rw (here-none name.lock (passes (is_act Folds c) (entry_at name past)) (λ i. (parts i).0), named-none past c rest (λ i. (parts i).1)) refl

not_true : (b : Bool) → not b ≡ true → b ≡ false
not_true true h = absurd (false≢true h)
not_true false h = refl

pub unfolded-decided : (past : List Entry) (c : ℕ) (list : List At) → Decides (not (fold_named past c list)) ((i : ℕ) → is_named past c Folds i list ≡ false)
unfolded-decided past c list =
    (λ h. none-named past c list (not_true (fold_named past c list) h), λ h. ap not (named-none past c list h))
