-- What the tests of a call that was read say of its numbers and bytes.
use Rattle.std.proofs.Common.{◌≡◌, ℕ, zero, ◌*◌, ◌%◌, ◌<◌, ◌≤◌, ◌&&◌, ◌==◌, nat_lt, nat_le, Bool, true, false, length, refl, arith}
use Rattle.std.proofs.lemmas.Bool.{le-leb, lt-ltb}
use Rattle.std.proofs.lemmas.Bool.Decides.{nat_tests}
use Rattle.stripe_layout.specs.declared.geometry.Geometry.{Geometry}
use Rattle.host_scripts.specs.declared.script.Action.{Action}
use Rattle.host_scripts.specs.declared.script.Action.TheVariants.{Read, Write, Fill, Raw, Lose, Reset, DropNext, Replace, Rebuild, Resync}
use Rattle.host_scripts.specs.Scripts.{IsAction}
use Rattle.host_scripts.specs.Reading.{is_ranged, is_sized}
use Rattle.host_scripts.specs.Refusals.{IsFormedAction, IsRangedAction}
use Rattle.host_scripts.proofs.Texts.{cap}
use Rattle.host_scripts.proofs.CallTexts.{kept_action}
use Rattle.host_scripts.proofs.NumberLines.{cap-small}

pub both : (a b : Bool) → (a && b) ≡ true → (a ≡ true) × (b ≡ true)
both true true h = (refl, refl)
both true false h = absurd cc
both false b h = absurd cc

pub le-from : (m n : ℕ) → nat_le m n ≡ true → m ≤ n
le-from m n h = grind (arith, nat_tests)

pub lt-from : (m n : ℕ) → nat_lt m n ≡ true → m < n
lt-from m n h = grind (arith, nat_tests)

-- a number within its range is kept as it is
small : (n most : ℕ) → most ≤ 4294967295 → nat_le (cap n) most ≡ true → (n ≤ most) × (cap n ≡ n)
small n most le h = let k = le-from (cap n) most h in (omega (arith, k), omega (arith, k))

target-small : (t n : ℕ) → n ≤ 32 → nat_lt (cap t) n ≡ true → (t < n) × (cap t ≡ t)
target-small t n le h = let k = lt-from (cap t) n h in (omega (arith, k), omega (arith, k))

pub ranged-takes : (g : Geometry) (a : Action) → g.targets ≤ 32 → IsFormedAction a → is_ranged g (kept_action a) ≡ true → IsRangedAction g a × (kept_action a ≡ a)
ranged-takes g (Read lba count) t f h =
    let p = both (nat_le (cap lba) 4294967295) (nat_le (cap count) 65535) h in
    let x = small lba 4294967295 (omega arith) p.0 in
    let y = small count 65535 (omega arith) p.1 in
    ((omega (arith, x.0), omega (arith, y.0)), rw (x.1, y.1) refl)
ranged-takes g (Write lba bytes) t f h = let x = small lba 4294967295 (omega arith) h in ((omega (arith, x.0), f), rw x.1 refl)
ranged-takes g (Fill lba count byte) t f h =
    let p = both (nat_le (cap lba) 4294967295) (nat_le (cap count) 65535) h in
    let x = small lba 4294967295 (omega arith) p.0 in
    let y = small count 65535 (omega arith) p.1 in
    ((omega (arith, x.0), omega (arith, y.0), f), rw (x.1, y.1) refl)
ranged-takes g (Raw cdb bytes) t f h = (f, refl)
ranged-takes g (Lose target) t f h = let x = target-small target g.targets t h in (x.0, rw x.1 refl)
ranged-takes g (Reset target) t f h = let x = target-small target g.targets t h in (x.0, rw x.1 refl)
ranged-takes g (DropNext target) t f h = let x = target-small target g.targets t h in (x.0, rw x.1 refl)
ranged-takes g (Replace target) t f h = let x = target-small target g.targets t h in (x.0, rw x.1 refl)
ranged-takes g (Rebuild target) t f h = let x = target-small target g.targets t h in (x.0, rw x.1 refl)
ranged-takes g Resync t f h = (tt, refl)

pub ranged-again : (g : Geometry) (a : Action) → g.targets ≤ 32 → IsRangedAction g a → is_ranged g (kept_action a) ≡ true
ranged-again g (Read lba count) t h = rw (cap-small lba (omega (arith, h.0)), cap-small count (omega (arith, h.1)), le-leb lba 4294967295 (omega (arith, h.0)), le-leb count 65535 (omega (arith, h.1))) refl
ranged-again g (Write lba bytes) t h = rw (cap-small lba (omega (arith, h.0))) (le-leb lba 4294967295 (omega (arith, h.0)))
ranged-again g (Fill lba count byte) t h = rw (cap-small lba (omega (arith, h.0)), cap-small count (omega (arith, h.1)), le-leb lba 4294967295 (omega (arith, h.0)), le-leb count 65535 (omega (arith, h.1))) refl
ranged-again g (Raw cdb bytes) t h = refl
ranged-again g (Lose target) t h = rw (cap-small target (omega (arith, h, t))) (lt-ltb target g.targets h)
ranged-again g (Reset target) t h = rw (cap-small target (omega (arith, h, t))) (lt-ltb target g.targets h)
ranged-again g (DropNext target) t h = rw (cap-small target (omega (arith, h, t))) (lt-ltb target g.targets h)
ranged-again g (Replace target) t h = rw (cap-small target (omega (arith, h, t))) (lt-ltb target g.targets h)
ranged-again g (Rebuild target) t h = rw (cap-small target (omega (arith, h, t))) (lt-ltb target g.targets h)
ranged-again g Resync t h = refl

pub sized-takes : (g : Geometry) (a : Action) → 1 ≤ g.block → IsRangedAction g a → is_sized g a ≡ true → IsAction g a
sized-takes g (Read lba count) b r h = r
sized-takes g (Write lba bytes) b r h =
    let p = both (length bytes % g.block == 0) (nat_le (length bytes) (65535 * g.block)) h in
    let rest : length bytes % g.block ≡ 0 = grind (arith, nat_tests, p.0) in
    (r.0, r.1, (((λ zero. omega arith), rest), le-from (length bytes) (65535 * g.block) p.1))
sized-takes g (Fill lba count byte) b r h = r
sized-takes g (Raw cdb bytes) b r h = r
sized-takes g (Lose target) b r h = r
sized-takes g (Reset target) b r h = r
sized-takes g (DropNext target) b r h = r
sized-takes g (Replace target) b r h = r
sized-takes g (Rebuild target) b r h = r
sized-takes g Resync b r h = r
