-- A journal read entry by entry.
use Rattle.std.proofs.Common.{◌≡◌, ℕ, ◌+◌, ◌<◌, ◌≤◌, List, [], ◌∷◌, length, take, get_or, reverse, ap, ◌∙◌}
use Rattle.std.proofs.lemmas.List.{take_more, reverse-append, length-reverse, length-take-le}
use Rattle.array_journal.specs.declared.entry.Entry.{Entry}

-- what is read once one more entry is
pub read_more : (xs : List Entry) (k : ℕ) (e : Entry) → k < length xs → get_or xs k e ≡ e → reverse (take (k + 1) xs) ≡ e ∷ reverse (take k xs)
read_more xs k e lt h =
    ap reverse (take_more xs k e lt) ∙ reverse-append (take k xs) (get_or xs k e ∷ []) ∙ ap (λ x. x ∷ reverse (take k xs)) h

pub length-read : (xs : List Entry) (k : ℕ) → k ≤ length xs → length (reverse (take k xs)) ≡ k
length-read xs k le = length-reverse (take k xs) ∙ length-take-le k xs le
