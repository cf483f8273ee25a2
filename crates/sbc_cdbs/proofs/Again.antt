-- What a command's spelling gives again: the command, and no reserved bit.
use Rattle.std.proofs.Common.{◌≡◌, ℕ, ◌+◌, ◌*◌, ◌^◌, ◌<◌, ◌≤◌, Bool, true, false, List, [], ◌∷◌, ◌++◌, length, get_or, eqb, refl, arith, Some}
use Rattle.std.specs.Int.{w16, w32, to_be_bytes}
use Rattle.std.specs.Int.Bits.{bit_and}
use Rattle.byteorder.specs.Endian.{big_number}
use Rattle.byteorder.specs.Numbers.{big_number-reads_back}
use Rattle.cdb_fields.specs.Fields.{bits, flag, SharesNone}
use Rattle.cdb_fields.proofs.Shared.{zip_none}
use Rattle.sbc_cdbs.specs.Cdbs.{spelling, Fits}
use Rattle.sbc_cdbs.specs.Faults.{mask_of}
use Rattle.sbc_cdbs.specs.Reading.{command_of}
use Rattle.sbc_cdbs.proofs.Spelled.{transfer_mask, xdwrite_mask, xdread_mask, select_mask, sense_mask, extended_mask, rebuild_mask}
use Rattle.sbc_cdbs.specs.declared.commands.Command.{Command}
use Rattle.sbc_cdbs.specs.declared.commands.Command.TheVariants.{Read, Write, XdWrite, XpWrite, XdRead, XdWriteRead, ModeSelect, ModeSense, XdWriteExtended, Rebuild, Regenerate}

-- the bits of byte 1 are read back
two : (a b : Bool) → (eqb (bits 4 4 (flag 4 a + flag 3 b)) 1 ≡ a) × (eqb (bits 3 3 (flag 4 a + flag 3 b)) 1 ≡ b)
two true true = (refl, refl)
two true false = (refl, refl)
two false true = (refl, refl)
two false false = (refl, refl)

three : (a b c : Bool) → (eqb (bits 4 4 (flag 4 a + flag 3 b + flag 2 c)) 1 ≡ a) × (eqb (bits 3 3 (flag 4 a + flag 3 b + flag 2 c)) 1 ≡ b) × (eqb (bits 2 2 (flag 4 a + flag 3 b + flag 2 c)) 1 ≡ c)
three true true true = (refl, refl, refl)
three true true false = (refl, refl, refl)
three true false true = (refl, refl, refl)
three true false false = (refl, refl, refl)
three false true true = (refl, refl, refl)
three false true false = (refl, refl, refl)
three false false true = (refl, refl, refl)
three false false false = (refl, refl, refl)

select : (a b : Bool) → (eqb (bits 4 4 (flag 4 a + flag 0 b)) 1 ≡ a) × (eqb (bits 0 0 (flag 4 a + flag 0 b)) 1 ≡ b)
select true true = (refl, refl)
select true false = (refl, refl)
select false true = (refl, refl)
select false false = (refl, refl)

sense : (a : Bool) → eqb (bits 3 3 (flag 3 a)) 1 ≡ a
sense true = refl
sense false = refl

-- and page control and page code of byte 2
pages : (pc page : ℕ) → pc ≤ 3 → page ≤ 63 → (bits 7 6 (pc * 64 + page) ≡ pc) × (bits 5 0 (pc * 64 + page) ≡ page)
pages pc page h k = (omega arith, omega arith)

-- numbers of four, two and one bytes are read back
four : (n : ℕ) (rest : List ℕ) → n < 2 ^ 32 → big_number 4 (to_be_bytes w32 n ++ rest) ≡ n
four n rest h = big_number-reads_back 4 n rest h

pair : (n : ℕ) (rest : List ℕ) → n < 2 ^ 16 → big_number 2 (to_be_bytes w16 n ++ rest) ≡ n
pair n rest h = big_number-reads_back 2 n rest h

pub again : (v : Command) → Fits v → command_of (get_or (spelling v) 0 0) (spelling v) ≡ v
again (Read dpo fua lba count) h =
    let flags = two dpo fua in
    let one = four lba (0 ∷ to_be_bytes w16 count ++ 0 ∷ []) h.0 in
    let last = pair count (0 ∷ []) h.1 in
    cc (flags.0, flags.1, one, last)
again (Write dpo fua lba count) h =
    let flags = two dpo fua in
    let one = four lba (0 ∷ to_be_bytes w16 count ++ 0 ∷ []) h.0 in
    let last = pair count (0 ∷ []) h.1 in
    cc (flags.0, flags.1, one, last)
again (XdWrite dpo fua disable lba count) h =
    let flags = three dpo fua disable in
    let one = four lba (0 ∷ to_be_bytes w16 count ++ 0 ∷ []) h.0 in
    let last = pair count (0 ∷ []) h.1 in
    cc (flags.0, flags.1, flags.2, one, last)
again (XpWrite dpo fua lba count) h =
    let flags = two dpo fua in
    let one = four lba (0 ∷ to_be_bytes w16 count ++ 0 ∷ []) h.0 in
    let last = pair count (0 ∷ []) h.1 in
    cc (flags.0, flags.1, one, last)
again (XdRead lba count) h =
    let one = four lba (0 ∷ to_be_bytes w16 count ++ 0 ∷ []) h.0 in
    let last = pair count (0 ∷ []) h.1 in
    cc (one, last)
again (XdWriteRead dpo fua disable lba count) h =
    let flags = three dpo fua disable in
    let one = four lba (0 ∷ to_be_bytes w16 count ++ 0 ∷ []) h.0 in
    let last = pair count (0 ∷ []) h.1 in
    cc (flags.0, flags.1, flags.2, one, last)
again (ModeSelect pf sp list) h =
    let flags = select pf sp in
    let last = pair list (0 ∷ []) h in
    cc (flags.0, flags.1, last)
again (ModeSense dbd pc page allocation) h =
    let flags = sense dbd in
    let parts = pages pc page h.0 h.1 in
    let last = pair allocation (0 ∷ []) h.2 in
    cc (flags, parts.0, parts.1, last)
again (XdWriteExtended dpo fua disable lba second count address) h =
    let flags = three dpo fua disable in
    let one = four lba (to_be_bytes w32 second ++ to_be_bytes w32 count ++ address ∷ 0 ∷ []) h.0 in
    let next = four second (to_be_bytes w32 count ++ address ∷ 0 ∷ []) h.1 in
    let last = four count (address ∷ 0 ∷ []) h.2 in
    let at : big_number 1 (address ∷ 0 ∷ []) ≡ address = omega arith in
    cc (flags.0, flags.1, flags.2, one, next, last, at)
again (Rebuild dpo fua intdata lba count list) h =
    let flags = three dpo fua intdata in
    let one = four lba (to_be_bytes w32 count ++ to_be_bytes w32 list ++ 0 ∷ 0 ∷ []) h.0 in
    let next = four count (to_be_bytes w32 list ++ 0 ∷ 0 ∷ []) h.1 in
    let last = four list (0 ∷ 0 ∷ []) h.2 in
    cc (flags.0, flags.1, flags.2, one, next, last)
again (Regenerate dpo fua intdata lba count list) h =
    let flags = three dpo fua intdata in
    let one = four lba (to_be_bytes w32 count ++ to_be_bytes w32 list ++ 0 ∷ 0 ∷ []) h.0 in
    let next = four count (to_be_bytes w32 list ++ 0 ∷ 0 ∷ []) h.1 in
    let last = four list (0 ∷ 0 ∷ []) h.2 in
    cc (flags.0, flags.1, flags.2, one, next, last)

-- the bits that must be zero are zero in a spelling, and its length is right
pub record Clean (bytes : List ℕ) : Type 0 where
  pub mask : List ℕ
  pub known : mask_of bytes ≡ Some mask
  pub long : length bytes ≡ length mask
  pub none : (k : ℕ) → SharesNone mask bytes k

two_clean : (a b : Bool) → bit_and 0xe7 (flag 4 a + flag 3 b) ≡ 0
two_clean true true = refl
two_clean true false = refl
two_clean false true = refl
two_clean false false = refl

three_clean : (a b c : Bool) → bit_and 0xe3 (flag 4 a + flag 3 b + flag 2 c) ≡ 0
three_clean true true true = refl
three_clean true true false = refl
three_clean true false true = refl
three_clean true false false = refl
three_clean false true true = refl
three_clean false true false = refl
three_clean false false true = refl
three_clean false false false = refl

select_clean : (a b : Bool) → bit_and 0xee (flag 4 a + flag 0 b) ≡ 0
select_clean true true = refl
select_clean true false = refl
select_clean false true = refl
select_clean false false = refl

sense_clean : (a : Bool) → bit_and 0xf7 (flag 3 a) ≡ 0
sense_clean true = refl
sense_clean false = refl

pub clean : (v : Command) → Clean (spelling v)
clean (Read dpo fua lba count) =
    record { mask = transfer_mask; known = refl; long = refl; none = zip_none transfer_mask (spelling (Read dpo fua lba count)) (refl, (two_clean dpo fua, (refl, (refl, (refl, (refl, (refl, (refl, (refl, (refl, tt)))))))))) }
clean (Write dpo fua lba count) =
    record { mask = transfer_mask; known = refl; long = refl; none = zip_none transfer_mask (spelling (Write dpo fua lba count)) (refl, (two_clean dpo fua, (refl, (refl, (refl, (refl, (refl, (refl, (refl, (refl, tt)))))))))) }
clean (XdWrite dpo fua disable lba count) =
    record { mask = xdwrite_mask; known = refl; long = refl; none = zip_none xdwrite_mask (spelling (XdWrite dpo fua disable lba count)) (refl, (three_clean dpo fua disable, (refl, (refl, (refl, (refl, (refl, (refl, (refl, (refl, tt)))))))))) }
clean (XpWrite dpo fua lba count) =
    record { mask = transfer_mask; known = refl; long = refl; none = zip_none transfer_mask (spelling (XpWrite dpo fua lba count)) (refl, (two_clean dpo fua, (refl, (refl, (refl, (refl, (refl, (refl, (refl, (refl, tt)))))))))) }
clean (XdRead lba count) =
    record { mask = xdread_mask; known = refl; long = refl; none = zip_none xdread_mask (spelling (XdRead lba count)) (refl, (refl, (refl, (refl, (refl, (refl, (refl, (refl, (refl, (refl, tt)))))))))) }
clean (XdWriteRead dpo fua disable lba count) =
    record { mask = xdwrite_mask; known = refl; long = refl; none = zip_none xdwrite_mask (spelling (XdWriteRead dpo fua disable lba count)) (refl, (three_clean dpo fua disable, (refl, (refl, (refl, (refl, (refl, (refl, (refl, (refl, tt)))))))))) }
clean (ModeSelect pf sp list) =
    record { mask = select_mask; known = refl; long = refl; none = zip_none select_mask (spelling (ModeSelect pf sp list)) (refl, (select_clean pf sp, (refl, (refl, (refl, (refl, (refl, (refl, (refl, (refl, tt)))))))))) }
clean (ModeSense dbd pc page allocation) =
    record { mask = sense_mask; known = refl; long = refl; none = zip_none sense_mask (spelling (ModeSense dbd pc page allocation)) (refl, (sense_clean dbd, (refl, (refl, (refl, (refl, (refl, (refl, (refl, (refl, tt)))))))))) }
clean (XdWriteExtended dpo fua disable lba second count address) =
    record { mask = extended_mask; known = refl; long = refl; none = zip_none extended_mask (spelling (XdWriteExtended dpo fua disable lba second count address)) (refl, (three_clean dpo fua disable, (refl, (refl, (refl, (refl, (refl, (refl, (refl, (refl, (refl, (refl, (refl, (refl, (refl, (refl, tt)))))))))))))))) }
clean (Rebuild dpo fua intdata lba count list) =
    record { mask = rebuild_mask; known = refl; long = refl; none = zip_none rebuild_mask (spelling (Rebuild dpo fua intdata lba count list)) (refl, (three_clean dpo fua intdata, (refl, (refl, (refl, (refl, (refl, (refl, (refl, (refl, (refl, (refl, (refl, (refl, (refl, (refl, tt)))))))))))))))) }
clean (Regenerate dpo fua intdata lba count list) =
    record { mask = rebuild_mask; known = refl; long = refl; none = zip_none rebuild_mask (spelling (Regenerate dpo fua intdata lba count list)) (refl, (three_clean dpo fua intdata, (refl, (refl, (refl, (refl, (refl, (refl, (refl, (refl, (refl, (refl, (refl, (refl, (refl, (refl, tt)))))))))))))))) }
