-- An array in which nothing happened yet.
use Rattle.std.specs.Prelude.{◌≡◌, ◌≤◌, ℕ, zero, suc, List, [], ◌∷◌, length, map, replicate}
use Rattle.std.proofs.Common.{refl, ap, sym, subst, ◌∙◌}
use Rattle.std.specs.List.{AllByRecursion}
use Rattle.array_journal.specs.declared.entry.Entry.{Entry}
use Rattle.array_journal.specs.Merge.{joined, Rises, AreOfLocks}
use Rattle.xor_cli.specs.Disks.{Lane}
use Rattle.array_journal.specs.OneJournal.{by_name, journal_of, AreKept}
use Rattle.xor_cli.proofs.Appends.{disk_in, entries_in}

map-replicate : {A B : Type 0} (f : A → B) (n : ℕ) (x : A) → map f (replicate n x) ≡ replicate n (f x)
map-replicate f zero x = refl
map-replicate f (suc n) x = ap (λ l. f x ∷ l) (map-replicate f n x)

none-joined : (n : ℕ) → joined (replicate n []) ≡ []
none-joined zero = refl
none-joined (suc n) = none-joined n

none-of_locks : (lock n : ℕ) → AreOfLocks lock (replicate n [])
none-of_locks lock zero = tt
none-of_locks lock (suc n) = ((tt, tt), none-of_locks (suc lock) n)

-- empty lists
empty-lists : (n : ℕ) (lane : Lane) → lane.entries ≡ [] → [] ∷ map entries_in (replicate n lane) ≡ [] ∷ replicate n []
empty-lists n lane h = ap (λ (ls : List (List Entry)). [] ∷ ls) (map-replicate entries_in n lane ∙ ap (λ (es : List Entry). replicate n es) h)

none-kept : (n : ℕ) → AreKept 0 ([] ∷ replicate n [])
unfolding journal_of
none-kept n = record {
  of_locks = ((tt, tt), none-of_locks 1 n);
  rises = subst (λ (es : List Entry). Rises (by_name es)) (sym (none-joined n)) tt;
  counted = ap (λ (es : List Entry). length es) (sym (none-joined n));
  up_to = subst (λ (es : List Entry). AllByRecursion (λ (e : Entry). e.stamp ≤ 0) es) (sym (none-joined n)) tt;
}

pub blank-kept : (lanes : List Lane) (n : ℕ) (lane : Lane) → lanes ≡ replicate n lane → lane.entries ≡ [] → AreKept 0 ([] ∷ map entries_in lanes)
blank-kept lanes n lane same h =
    subst (λ (ts : List Lane). AreKept 0 ([] ∷ map entries_in ts)) (sym same) (subst (AreKept 0) (sym (empty-lists n lane h)) (none-kept n))

pub blank-journal : (lanes : List Lane) (n : ℕ) (lane : Lane) → lanes ≡ replicate n lane → lane.entries ≡ [] → journal_of ([] ∷ map entries_in lanes) ≡ []
unfolding journal_of
blank-journal lanes n lane same h =
    ap (λ (ts : List Lane). by_name (joined ([] ∷ map entries_in ts))) same ∙ ap (λ (ls : List (List Entry)). by_name (joined ls)) (empty-lists n lane h)
    ∙ ap by_name (none-joined n)

pub blank-disks : (lanes : List Lane) (n : ℕ) (lane : Lane) → lanes ≡ replicate n lane → map disk_in lanes ≡ replicate n lane.disk
blank-disks lanes n lane same = ap (map disk_in) same ∙ map-replicate disk_in n lane
