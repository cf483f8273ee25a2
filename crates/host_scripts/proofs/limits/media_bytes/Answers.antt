use Rattle.std.proofs.Common.{ℕ, ◌*◌, ◌<◌, ◌≤◌, arith}
use Rattle.std.proofs.Math.Nat.{mul-le-mul_right}
use Rattle.host_scripts.proofs.limits.media_bytes.Goals as goal

media-below : (t r b : ℕ) → t ≤ 255 → r ≤ 4294967295 → b ≤ 4096 → t * r * b < 18446744073709551616
media-below t r b ht hr hb =
    let one : t * r ≤ 255 * r = mul-le-mul_right r ht in
    let two : t * r * b ≤ 1095216660225 * b = mul-le-mul_right b (omega (arith, one, hr)) in
    omega (arith, two, hb)

pub overflow_mul-result-2 : goal.overflow_mul-result-2
overflow_mul-result-2 c =
    let h = media-below c.args.targets c.args.rows c.args.block (omega arith) (omega arith) c.requires in
    rw (c.from.ensures, c.from-2.ensures, c.from-3.ensures) (omega (arith, h))
