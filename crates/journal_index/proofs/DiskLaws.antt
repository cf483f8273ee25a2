-- What became of a disk answers as the definitions do that read all entries.
use Rattle.std.proofs.Common.{◌≡◌, ℕ, suc, ◌+◌, ◌<◌, ◌≤◌, Bool, true, false, cond, List, [], ◌∷◌, length, Option, Some, None, refl, ap, sym, ◌∙◌, ⊎_elim, arith, ◌==◌, ◌&&◌, ◌||◌, nat_lt, nat_le}
use Rattle.std.proofs.lemmas.Bool.{cases_lt, lt-ltb, le-ltb, le-leb, lt-leb}
use Rattle.array_journal.specs.declared.at.At.{At}
use Rattle.array_journal.specs.declared.entry.Entry.{Entry}
use Rattle.array_journal.specs.declared.event.Event.{Event}
use Rattle.array_journal.specs.declared.event.Event.TheVariants.{Fresh}
use Rattle.array_journal.specs.Entries.{name_of, some_at}
use Rattle.array_journal.specs.Lives.{is_fresh, loss_of, loss_after, life_of, life_after}
use Rattle.array_journal.specs.Media.{drops, drops_after}
use Rattle.array_journal.specs.May.{swapped_since}
use Rattle.array_journal.proofs.lives.DiskCounts.{counted-more, drops-more}
use Rattle.journal_index.specs.Stamps.{greater_of}
use Rattle.journal_index.specs.Disks.{swap_after, disk_after, disk_at, reaches}
use Rattle.journal_index.specs.declared.disks.Disk.{Disk}

loss_step : (b : Bool) (at : At) (event : Event) (disk : Disk) (loss : Option At) → loss ≡ disk.loss →
    cond b (loss_after at event loss) loss ≡ (cond b (disk_after at event disk) disk).loss
loss_step true at event disk loss h = ap (loss_after at event) h
loss_step false at event disk loss h = h

pub loss_of-disk : (i : ℕ) (past : List Entry) → loss_of i past ≡ (disk_at (i + 1) past).loss
loss_of-disk i [] = refl
loss_of-disk i (e ∷ past) =
    loss_step (e.lock == i + 1) (name_of e) e.event (disk_at (i + 1) past) (loss_of i past) (loss_of-disk i past)

life_step : (b : Bool) (at : At) (event : Event) (disk : Disk) (life : ℕ) → life ≡ disk.life →
    cond (b && is_fresh event) (suc life) life ≡ (cond b (disk_after at event disk) disk).life
life_step true at event disk life h = ap (life_after event) h
life_step false at event disk life h = h

pub life_of-disk : (i : ℕ) (past : List Entry) → life_of i past ≡ (disk_at (i + 1) past).life
life_of-disk i [] = refl
life_of-disk i (e ∷ past) =
    life_step (e.lock == i + 1) (name_of e) e.event (disk_at (i + 1) past) (life_of i past) (life_of-disk i past)

drops_step : (b : Bool) (at : At) (event : Event) (disk : Disk) (count : ℕ) → count ≡ disk.drops →
    cond b (drops_after event count) count ≡ (cond b (disk_after at event disk) disk).drops
drops_step true at event disk count h = ap (drops_after event) h
drops_step false at event disk count h = h

pub drops-disk : (i : ℕ) (past : List Entry) → drops i past ≡ (disk_at (i + 1) past).drops
drops-disk i [] = refl
drops-disk i (e ∷ past) =
    drops_step (e.lock == i + 1) (name_of e) e.event (disk_at (i + 1) past) (drops i past) (drops-disk i past)

or_false : (b : Bool) → (b || false) ≡ b
or_false true = refl
or_false false = refl

-- the greater of two numbers isn't below a third where one of them isn't
one_reaches : (s m t : ℕ) → (nat_le t s || nat_le t m) ≡ nat_le t (cond (nat_lt m s) s m)
one_reaches s m t = ⊎_elim under over (cases_lt m s)
  where
    chosen : (b : Bool) → nat_lt m s ≡ b → nat_le t (cond (nat_lt m s) s m) ≡ nat_le t (cond b s m)
    chosen b h = ap (λ x. nat_le t (cond x s m)) h

    or_true : (b : Bool) → (b || true) ≡ true
    or_true true = refl
    or_true false = refl

    under : m < s → (nat_le t s || nat_le t m) ≡ nat_le t (cond (nat_lt m s) s m)
    under h =
        ⊎_elim
        (λ g. ap (λ b. nat_le t s || b) (lt-leb t m g) ∙ or_false (nat_le t s))
        (λ g. ap (λ b. b || nat_le t m) (le-leb t s (omega (arith, h, g))) ∙ sym (le-leb t s (omega (arith, h, g))))
        (cases_lt m t)
        ∙ sym (chosen true (lt-ltb m s h))

    over : s ≤ m → (nat_le t s || nat_le t m) ≡ nat_le t (cond (nat_lt m s) s m)
    over h =
        ⊎_elim
        (λ g. ap (λ b. b || nat_le t m) (lt-leb t s (omega (arith, h, g))))
        (λ g. ap (λ b. nat_le t s || b) (le-leb t m g) ∙ or_true (nat_le t s) ∙ sym (le-leb t m g))
        (cases_lt m t)
        ∙ sym (chosen false (le-ltb m s h))

fresh_step : (old : Option ℕ) (s t : ℕ) (found : Bool) → found ≡ reaches old t →
    (nat_le t s || found) ≡ reaches (Some (greater_of old s)) t
fresh_step None s t found h = ap (λ b. nat_le t s || b) h ∙ or_false (nat_le t s)
fresh_step (Some m) s t found h = ap (λ b. nat_le t s || b) h ∙ one_reaches s m t

swap_event : (event : Event) (old : Option ℕ) (opened : At) (found : Bool) → found ≡ reaches old opened.stamp →
    (swapped_since opened event || found) ≡ reaches (swap_after event old) opened.stamp
swap_event (Fresh call swap) old opened found h = fresh_step old swap.stamp opened.stamp found h
swap_event _ old opened found h = h

swap_step : (b : Bool) (at : At) (event : Event) (disk : Disk) (opened : At) (found : Bool) → found ≡ reaches disk.swap opened.stamp →
    ((b && swapped_since opened event) || found) ≡ reaches (cond b (disk_after at event disk) disk).swap opened.stamp
swap_step true at event disk opened found h = swap_event event disk.swap opened found h
swap_step false at event disk opened found h = h

pub swapped-disk : (lock : ℕ) (opened : At) (past : List Entry) →
    some_at lock (swapped_since opened) past ≡ reaches (disk_at lock past).swap opened.stamp
swapped-disk lock opened [] = refl
swapped-disk lock opened (e ∷ past) =
    swap_step (e.lock == lock) (name_of e) e.event (disk_at lock past) opened (some_at lock (swapped_since opened) past) (swapped-disk lock opened past)

life_small : (b : Bool) (at : At) (event : Event) (disk : Disk) (m : ℕ) → disk.life ≤ m →
    (cond b (disk_after at event disk) disk).life ≤ suc m
life_small true at event disk m h = counted-more (is_fresh event) disk.life m h
life_small false at event disk m h = omega (arith, h)

-- no more fresh disks came than entries
pub life-le : (lock : ℕ) (past : List Entry) → (disk_at lock past).life ≤ length past
life-le lock [] = omega arith
life-le lock (e ∷ past) = life_small (e.lock == lock) (name_of e) e.event (disk_at lock past) (length past) (life-le lock past)

drops_small : (b : Bool) (at : At) (event : Event) (disk : Disk) (m : ℕ) → disk.drops ≤ m →
    (cond b (disk_after at event disk) disk).drops ≤ suc m
drops_small true at event disk m h = drops-more event disk.drops m h
drops_small false at event disk m h = omega (arith, h)

-- no more requests are to be dropped than entries came
pub drops-le : (lock : ℕ) (past : List Entry) → (disk_at lock past).drops ≤ length past
drops-le lock [] = omega arith
drops-le lock (e ∷ past) = drops_small (e.lock == lock) (name_of e) e.event (disk_at lock past) (length past) (drops-le lock past)
