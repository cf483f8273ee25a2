use Rattle.std.proofs.Common.{◌≡◌, ◌≤◌, ◌+◌, inl, inr, ℕ, ◌-◌, length, get_or, take, drop, ◌++◌, arith, ap, ◌∙◌, append_assoc, length-append}
use Rattle.std.proofs.lemmas.List.{drop_at, get_or_append_left, get_or-append_right, get_or-drop, get_or-take, length-take-le}
use Rattle.byteorder.specs.Endian.{big_bytes, big_number}
use Rattle.byteorder.specs.Numbers.{big_number-reads_back, length-bytes_high_first}
use Rattle.cdb_fields.proofs.numbers.number_law.Goals as goal

pub returns-clause-read : goal.returns-clause-read
returns-clause-read c place width value bytes h fits =
    let front : length (take place bytes) ≡ place = length-take-le place bytes (omega arith) in
    ap (λ l. big_number width (drop place l)) (append_assoc (take place bytes) (big_bytes width value) (drop (place + width) bytes))
    ∙ ap (λ l. big_number width l) (drop_at (take place bytes) (big_bytes width value ++ drop (place + width) bytes) place front)
    ∙ big_number-reads_back width value (drop (place + width) bytes) fits

pub returns-clause-others : goal.returns-clause-others
returns-clause-others c place width value bytes h k side =
    let front : length (take place bytes) ≡ place = length-take-le place bytes (omega arith) in
    let size : length (take place bytes ++ big_bytes width value) ≡ place + width =
    length-append (take place bytes) (big_bytes width value) ∙ omega (arith, front, length-bytes_high_first width value) in
    elim side [
      | inl before ↦
          ap (λ l. get_or l k 0) (append_assoc (take place bytes) (big_bytes width value) (drop (place + width) bytes))
          ∙ get_or_append_left (take place bytes) (big_bytes width value ++ drop (place + width) bytes) 0 k (omega (arith, front))
          ∙ get_or-take place bytes k 0 before
      | inr after ↦
          get_or-append_right (take place bytes ++ big_bytes width value) (drop (place + width) bytes) (place + width) k 0 size after
          ∙ get_or-drop (place + width) bytes (k - (place + width)) 0
          ∙ ap (λ n. get_or bytes n 0) (back place width k after)
    ]
  where
    back : (p w n : ℕ) → p + w ≤ n → p + w + (n - (p + w)) ≡ n
    back p w n e = omega arith
