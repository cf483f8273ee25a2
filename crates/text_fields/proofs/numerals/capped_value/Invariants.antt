use Rattle.std.proofs.Common.{◌≡◌, min, true, take}
use Rattle.std.specs.Str.{all_ascii_digits}
use Rattle.std.specs.Str.Parse.{digits_value}
use Rattle.text_fields.proofs.numerals.capped_value.Given as goal

abbrev pub invariant-loop-digit : goal.invariant-loop-digit
invariant-loop-digit l = (all_ascii_digits (take l.digit-index l.text) ≡ true) × (l.value ≡ min (digits_value 10 (take l.digit-index l.text)) 18446744073709551616)
