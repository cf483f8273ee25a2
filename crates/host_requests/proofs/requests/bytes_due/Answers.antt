use Rattle.std.proofs.Common.{ℕ, ◌*◌, ◌<◌, ◌≤◌, arith}
use Rattle.std.proofs.lemmas.Nat.{mul-lt}
use Rattle.host_requests.proofs.requests.bytes_due.Goals as goal

fits : (count block : ℕ) → count < 4294967296 → block ≤ 4096 → count * block < 18446744073709551616
fits count block h b =
    let m : count * block < 4294967296 * 4097 = mul-lt count block 4294967296 4097 h (omega arith) in omega (arith, m)

pub overflow_mul-result : goal.overflow_mul-result
overflow_mul-result c =
    let h = fits c.args.count c.args.geometry.now.block (omega (arith, c.ranges.count)) c.requires.most_block in
    rw (c.from-in-Write.ensures, c.from.ensures) (omega (arith, h))
