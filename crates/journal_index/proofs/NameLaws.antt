-- The place of a name has the entry of that name.
use Rattle.std.proofs.Common.{◌≡◌, ℕ, Bool, true, false, cond, List, [], ◌∷◌, ◌++◌, length, reverse, slice_get, Option, Some, refl, ap, sym, ◌∙◌, ◌⊎◌, inl, inr, arith, ◌<◌, ◌==◌, append_assoc, append-nil}
use Rattle.std.proofs.lemmas.Bool.{cases_eq, eq-eqb, ne_eqb, and_from, and_left, and_right}
use Rattle.std.proofs.lemmas.List.{reverse-append, length-reverse}
use Rattle.array_journal.specs.declared.at.At.{At}
use Rattle.array_journal.specs.declared.entry.Entry.{Entry}
use Rattle.array_journal.specs.declared.event.Event.{Event}
use Rattle.array_journal.specs.Entries.{name_of, same_at, entry_at}
use Rattle.journal_index.specs.Names.{place_of, event_at, event_of, key_of}

-- an entry's name has the number of another exactly where the names are one
pub is_named : (e : Entry) (name : At) → e.lock < 256 → name.lock < 256 → (key_of (name_of e) == key_of name) ≡ same_at name (name_of e)
is_named e name h g = by (cases_eq name.stamp e.stamp) (cases_eq name.lock e.lock)
  where
    by : ((name.stamp ≡ e.stamp) ⊎ (name.stamp ≡ e.stamp → ⊥)) → ((name.lock ≡ e.lock) ⊎ (name.lock ≡ e.lock → ⊥)) →
        (key_of (name_of e) == key_of name) ≡ same_at name (name_of e)
    by (inl s) (inl l) =
        eq-eqb (key_of (name_of e)) (key_of name) (omega (arith, s, l))
        ∙ sym (and_from (name.stamp == e.stamp) (name.lock == e.lock) (eq-eqb name.stamp e.stamp s) (eq-eqb name.lock e.lock l))
    by (inl s) (inr l) =
        ne_eqb (key_of (name_of e)) (key_of name) (λ q. l (omega (arith, q, s)))
        ∙ sym (and_right (name.stamp == e.stamp) (name.lock == e.lock) (ne_eqb name.lock e.lock l))
    by (inr s) l =
        ne_eqb (key_of (name_of e)) (key_of name) (λ q. s (omega (arith, q, h, g)))
        ∙ sym (and_left (name.stamp == e.stamp) (name.lock == e.lock) (ne_eqb name.stamp e.stamp s))

-- where two lists meet, the second begins
at_seam : (xs : List Entry) (e : Entry) (more : List Entry) → slice_get (xs ++ e ∷ more) (length xs) ≡ Some e
at_seam [] e more = refl
at_seam (x ∷ xs) e more = at_seam xs e more

-- one more entry has its place after those before it
read_step : (b : Bool) (e : Entry) (past more : List Entry) (found : Option Event) (place : Option ℕ) →
    found ≡ event_at place (reverse past ++ e ∷ more) →
    cond b (Some e.event) found ≡ event_at (cond b (Some (length past)) place) (reverse (e ∷ past) ++ more)
read_step b e past more found place h = by b ∙ ap (event_at (cond b (Some (length past)) place)) (sym joined)
  where
    joined : reverse (e ∷ past) ++ more ≡ reverse past ++ e ∷ more
    joined = ap (λ xs. xs ++ more) (reverse-append (e ∷ []) past) ∙ append_assoc (reverse past) (e ∷ []) more

    here : event_of (slice_get (reverse past ++ e ∷ more) (length past)) ≡ Some e.event
    here =
        ap (λ n. event_of (slice_get (reverse past ++ e ∷ more) n)) (sym (length-reverse past))
        ∙ ap event_of (at_seam (reverse past) e more)

    by : (t : Bool) → cond t (Some e.event) found ≡ event_at (cond t (Some (length past)) place) (reverse past ++ e ∷ more)
    by true = sym here
    by false = h

read_at : (name : At) (past more : List Entry) → entry_at name past ≡ event_at (place_of name past) (reverse past ++ more)
read_at name [] more = refl
read_at name (e ∷ past) more =
    read_step (same_at name (name_of e)) e past more (entry_at name past) (place_of name past) (read_at name past (e ∷ more))

-- what the entry of a name says stands at its place
pub entry_at-place : (name : At) (past : List Entry) → entry_at name past ≡ event_at (place_of name past) (reverse past)
entry_at-place name past = read_at name past [] ∙ ap (event_at (place_of name past)) (append-nil (reverse past))
