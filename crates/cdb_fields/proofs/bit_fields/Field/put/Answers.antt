use Rattle.std.proofs.Common.{◌≡◌, ◌+◌, ◌-◌, ◌*◌, ◌%◌, ◌^◌, ◌<◌, get_or, set, arith, ap, ◌∙◌}
use Rattle.cdb_fields.specs.Fields.{bits, with_bits}
use Rattle.cdb_fields.proofs.Bits.{with_bits_fits, shifted, bits_below}
use Rattle.cdb_fields.proofs.bit_fields.Field.put.Goals as goal
use Rattle.cdb_fields.proofs.bit_fields.Field.put.Given.{Over}
use Rattle.cdb_fields.proofs.bit_fields.Field.put.Goals.{After-get}

-- the byte as the code computes it
byte_is : (g : Over) (c : After-get g) → get_or c.args.bytes.now g.row.BYTE 0 - c.get.result * 2 ^ g.row.LOW % 256 + c.args.value * 2 ^ g.row.LOW % 256 ≡ with_bits g.row.HIGH g.row.LOW (get_or c.args.bytes.now g.row.BYTE 0) c.args.value
byte_is g c =
    let old : c.get.result * 2 ^ g.row.LOW % 256 ≡ c.get.result * 2 ^ g.row.LOW =
    shifted g.row.HIGH g.row.LOW c.get.result c.requires.order c.requires.top
    (let below : bits g.row.HIGH g.row.LOW (get_or c.args.bytes.now g.row.BYTE 0) < 2 ^ (g.row.HIGH + 1 - g.row.LOW) = bits_below g.row.HIGH g.row.LOW (get_or c.args.bytes.now g.row.BYTE 0) in
    omega (arith, c.get.ensures, below)) in
    let put : c.args.value * 2 ^ g.row.LOW % 256 ≡ c.args.value * 2 ^ g.row.LOW =
    shifted g.row.HIGH g.row.LOW c.args.value c.requires.order c.requires.top c.requires.fits in
    ap (λ n. get_or c.args.bytes.now g.row.BYTE 0 - n + c.args.value * 2 ^ g.row.LOW % 256) old
    ∙ ap (λ n. get_or c.args.bytes.now g.row.BYTE 0 - c.get.result * 2 ^ g.row.LOW + n) put
    ∙ ap (λ n. get_or c.args.bytes.now g.row.BYTE 0 - n * 2 ^ g.row.LOW + c.args.value * 2 ^ g.row.LOW) c.get.ensures

pub overflow_add-bytes : goal.overflow_add-bytes
overflow_add-bytes g c =
    omega (arith, byte_is g c, with_bits_fits g.row.HIGH g.row.LOW (get_or c.args.bytes.now g.row.BYTE 0) c.args.value (omega arith) c.requires.order c.requires.top c.requires.fits)

pub returns : goal.returns
returns g c = ap (λ b. set c.args.bytes.now g.row.BYTE b) (byte_is g c)
