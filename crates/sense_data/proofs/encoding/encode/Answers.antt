use Rattle.std.proofs.Common.{◌≡◌, ◌+◌, ◌<◌, ◌^◌, IfSome, subst, ℕ, ◌∷◌, ◌++◌, Bool, Option, Some, None, is_some, unwrap_or, replicate, take, drop, refl, ap, ◌∙◌, arith}
use Rattle.std.proofs.lemmas.List.{append-nil}
use borrow.Rule.Slice.PartMut.{put_mid}
use Rattle.std.specs.Int.{w16, w32, to_be_bytes}
use Rattle.cdb_fields.specs.Fields.{flag}
use Rattle.sense_data.specs.declared.senses.Pointer.{Pointer}
use Rattle.sense_data.specs.declared.senses.Sense.{Sense}
use Rattle.sense_data.specs.declared.layout.Header.{Header}
use Rattle.sense_data.specs.declared.layout.Additional.{Additional}
use Rattle.sense_data.specs.Reading.{AdditionalFits, header_fields, additional_fields, with_pointer, header_bytes, additional_bytes}
use Rattle.sense_data.specs.Senses.{Fits, specific_bytes, bit_pointer}
use Rattle.sense_data.proofs.encoding.encode.Goals as goal

-- byte 15 of a pointer
byte_15 : (command : Bool) (bit : Option ℕ) → 128 + flag 6 command + flag 3 (is_some bit) + unwrap_or bit 0 ≡ 128 + flag 6 command + bit_pointer bit
byte_15 command None = omega arith
byte_15 command (Some b) = omega arith

specific_part : (specific asc ascq fru : ℕ) (p : Option Pointer) → additional_bytes (with_pointer specific asc ascq fru p) ≡ to_be_bytes w32 specific ++ asc ∷ ascq ∷ fru ∷ specific_bytes p
specific_part specific asc ascq fru None = refl
specific_part specific asc ascq fru (Some p) =
    ap (λ n. to_be_bytes w32 specific ++ asc ∷ ascq ∷ fru ∷ n ∷ to_be_bytes w16 p.byte) (byte_15 p.command p.bit)

-- the numbers of a sense fit, as those of its fields do
information_fits : (o : Option ℕ) → unwrap_or o 0 < 2 ^ 32 → IfSome o (λ n. n < 2 ^ 32)
information_fits None h = tt
information_fits (Some n) h = h

record PointerFits (specific asc ascq fru : ℕ) (p : Option Pointer) : Type 0 where
  fits_specific : specific < 2 ^ 32
  fits_asc : asc < 256
  fits_ascq : ascq < 256
  fits_fru : fru < 256
  fits_byte : IfSome p (λ q. q.byte < 2 ^ 16)

pointer_fits : (specific asc ascq fru : ℕ) (p : Option Pointer) → AdditionalFits (with_pointer specific asc ascq fru p) → PointerFits specific asc ascq fru p
pointer_fits specific asc ascq fru None h =
    record { fits_specific = h.specific; fits_asc = h.asc; fits_ascq = h.ascq; fits_fru = h.fru; fits_byte = tt }
pointer_fits specific asc ascq fru (Some p) h =
    record { fits_specific = h.specific; fits_asc = h.asc; fits_ascq = h.ascq; fits_fru = h.fru; fits_byte = h.byte }

fits : (s : Sense) (h : Header) (a : Additional) → h ≡ header_fields s → a ≡ additional_fields s → h.information < 2 ^ 32 → AdditionalFits a → Fits s
fits s h a e f small rest =
    let all = pointer_fits s.specific s.asc s.ascq s.fru s.pointer (subst AdditionalFits f rest) in
    let number : h.information ≡ unwrap_or s.information 0 = ap (λ (x : Header). x.information) e in
    record {
      information = information_fits s.information (omega (arith, small, number));
      specific = all.fits_specific;
      asc = all.fits_asc;
      ascq = all.fits_ascq;
      fru = all.fits_fru;
      byte = all.fits_byte;
    }

pub returns-clause-bytes : goal.returns-clause-bytes
returns-clause-bytes c =
    let head : c.header_block-bytes.result ≡ header_bytes (header_fields c.args.sense.now) ++ replicate 10 0 =
    c.header_block-bytes.ensures ∙ ap (λ h. header_bytes h ++ replicate 10 0) c.header_from.ensures.fields in
    let block : c.additional_block.result ≡ replicate 8 0 ++ additional_bytes (additional_fields c.args.sense.now) =
    c.additional_block.ensures ∙ ap (λ a. replicate 8 0 ++ additional_bytes a) c.additional_from.ensures.fields in
    let tail : c.copy_from_slice.new.self ≡ additional_bytes (additional_fields c.args.sense.now) =
    c.copy_from_slice.ensures.after ∙ ap (λ xs. take 10 (drop 8 xs)) block in
    ap (λ xs. put_mid 8 10 xs c.copy_from_slice.new.self) head
    ∙ ap (λ ys. put_mid 8 10 (header_bytes (header_fields c.args.sense.now) ++ replicate 10 0) ys) (tail ∙ specific_part c.args.sense.now.specific c.args.sense.now.asc c.args.sense.now.ascq c.args.sense.now.fru c.args.sense.now.pointer)
    ∙ simp append-nil

pub returns-clause-spells : goal.returns-clause-spells
returns-clause-spells c =
    (returns-clause-bytes c, fits c.args.sense.now c.header_from.result c.additional_from.result c.header_from.ensures.fields c.additional_from.ensures.fields c.header_from.ensures.information c.additional_from.ensures.fits)
