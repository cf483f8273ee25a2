use Rattle.std.proofs.Common.{◌≡◌, ◌≤◌, ◌+◌, ℕ, ◌-◌, length, take, drop, List, ◌++◌, arith, ap, sym, ◌∙◌, append_assoc, length-drop}
use Rattle.std.proofs.lemmas.List.{drop-drop, drop_all, take_all, append-nil}
use borrow.Rule.Slice.PartMut.{put_mid}
use Rattle.cdb_fields.specs.Fields.{with_number}
use Rattle.byteorder.specs.Endian.{big_bytes}
use Rattle.cdb_fields.proofs.numbers.Number.put.Goals as goal

-- a number written at the front of the rest of a list
written : (xs zs ys : List ℕ) (b w : ℕ) → b + w ≤ length xs → ys ≡ zs ++ drop w (take (length xs - b) (drop b xs)) → put_mid b (length xs - b) xs ys ≡ take b xs ++ zs ++ drop (b + w) xs
written xs zs ys b w h e =
    let short : length (drop b xs) ≤ length xs - b = omega (arith, length-drop b xs) in
    ap (λ rest. take b xs ++ (ys ++ rest)) (drop_all (length xs - b) (drop b xs) short)
    ∙ ap (λ l. take b xs ++ l) (append-nil ys ∙ e ∙ ap (λ l. zs ++ drop w l) (take_all (length xs - b) (drop b xs) short) ∙ ap (λ l. zs ++ l) (drop-drop w b xs))
    ∙ sym (append_assoc (take b xs) zs (drop (b + w) xs))

pub returns-in-2 : goal.returns-in-2
returns-in-2 g c =
    let width : g.row.WIDTH ≡ 2 = c.in-2.is in
    written c.args.bytes.now (big_bytes 2 c.args.value) c.write_u16.new.buf g.row.BYTE 2 (omega arith) c.write_u16.ensures
    ∙ ap (λ w. with_number g.row.BYTE w c.args.bytes.now c.args.value) (sym width)

pub returns-in_default : goal.returns-in_default
returns-in_default g c =
    let width : g.row.WIDTH ≡ 4 = omega arith in
    written c.args.bytes.now (big_bytes 4 c.args.value) c.write_u32.new.buf g.row.BYTE 4 (omega arith) c.write_u32.ensures
    ∙ ap (λ w. with_number g.row.BYTE w c.args.bytes.now c.args.value) (sym width)
