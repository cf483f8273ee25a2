-- No more fresh disks came, and no more requests are to be dropped, than there are entries.
use Rattle.std.proofs.Common.{◌≤◌, ℕ, suc, ◌+◌, Bool, true, false, cond, List, [], ◌∷◌, length, arith, ◌==◌, ◌&&◌}
use Rattle.array_journal.specs.declared.entry.Entry.{Entry}
use Rattle.array_journal.specs.declared.event.Event.{Event}
use Rattle.array_journal.specs.declared.event.Event.TheVariants.{Wiped, Diff, Hold}
use Rattle.array_journal.specs.declared.event.What.TheVariants.{Request}
use Rattle.array_journal.specs.Lives.{is_fresh, life_of}
use Rattle.array_journal.specs.Media.{drops, drops_after}

pub counted-more : (b : Bool) (n m : ℕ) → n ≤ m → cond b (suc n) n ≤ suc m
counted-more true n m h = omega (arith, h)
counted-more false n m h = omega (arith, h)

pub drops-more : (event : Event) (n m : ℕ) → n ≤ m → drops_after event n ≤ suc m
drops-more (Wiped Request call commands) n m h = omega (arith, h)
drops-more (Diff command opened cdb row bytes true dropped back) n m h = omega (arith, h)
drops-more (Hold command opened cdb row bytes false names false) n m h = omega (arith, h)
drops-more _ n m h = omega (arith, h)

pub life-few : (i : ℕ) (past : List Entry) → life_of i past ≤ length past
life-few i [] = omega arith
life-few i (e ∷ past) = counted-more ((e.lock == i + 1) && is_fresh e.event) (life_of i past) (length past) (life-few i past)

pub drops-few : (i : ℕ) (past : List Entry) → drops i past ≤ length past
drops-few i [] = omega arith
drops-few i (e ∷ past) = by (e.lock == i + 1) (drops-few i past)
  where
    by : (b : Bool) → drops i past ≤ length past → cond b (drops_after e.event (drops i past)) (drops i past) ≤ suc (length past)
    by true h = drops-more e.event (drops i past) (length past) h
    by false h = omega (arith, h)
