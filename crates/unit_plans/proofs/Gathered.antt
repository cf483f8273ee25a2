-- What a gathering has so far is what the entries that it names have read.
use Rattle.std.specs.Prelude.{◌≡◌, ◌++◌, ℕ, false, List, [], ◌∷◌, map, Some}
use Rattle.std.specs.List.{AllByRecursion}
use Rattle.std.proofs.Common.{refl, ap, sym, ◌∙◌}
use Rattle.std.proofs.lemmas.Bool.{cond-false}
use Rattle.blocks_core.specs.Xor.{xor, xor_all, zeros}
use Rattle.blocks_core.proofs.XorLaws.{xor-assoc, xor-comm}
use Rattle.regen_rebuild.specs.Gatherings.{Gathering, size}
use Rattle.array_journal.specs.declared.at.At.{At}
use Rattle.array_journal.specs.declared.entry.Entry.{Entry}
use Rattle.array_journal.specs.Entries.{name_of, same_at, entry_at}
use Rattle.array_journal.specs.May.NamedEntries.{bytes_of}
use Rattle.array_journal.specs.May.{bytes_named}
use Rattle.unit_plans.specs.Gathered.{GatheringBegins, GatheringGoesOn, GatheringStays, GatheringEnds}

-- one more of some blocks is one more in their exclusive-or
one-more : (n : ℕ) (f : At → List ℕ) (names : List At) (name : At) → xor_all n (map f (names ++ name ∷ [])) ≡ xor (xor_all n (map f names)) (f name)
one-more n f [] name = xor-comm (f name) (zeros n)
one-more n f (x ∷ names) name = ap (xor (f x)) (one-more n f names name) ∙ sym (xor-assoc (f x) (xor_all n (map f names)) (f name))

pub gathering-begins : GatheringBegins
gathering-begins block order command g journal first =
    ap (λ (x : Gathering). x.sum) first.gather ∙ sym (ap (λ (x : Gathering). zeros (size x)) first.gather)

added : (n : ℕ) (journal : List Entry) (names : List At) (name : At) (sum bytes : List ℕ) → sum ≡ xor_all n (map (bytes_named journal) names) →
    bytes ≡ bytes_named journal name → xor sum bytes ≡ xor_all n (map (bytes_named journal) (names ++ name ∷ []))
added n journal names name sum bytes h is =
    ap (λ (l : List ℕ). xor l bytes) h ∙ ap (xor (xor_all n (map (bytes_named journal) names))) is ∙ sym (one-more n (bytes_named journal) names name)

pub gathering-goes_on : GatheringGoesOn
gathering-goes_on g bytes names name journal h is = added (size g.gather) journal names name g.gather.sum bytes h is

pub gathering-ends : GatheringEnds
gathering-ends g bytes names name seen journal h is =
    ap (λ (l : List ℕ). xor l g.order.bytes) (added (size g.gather) journal names name g.gather.sum bytes h is)
    ∙ xor-comm (xor_all (size g.gather) (map (bytes_named journal) (names ++ name ∷ []))) g.order.bytes

same-named : (names : List At) (e : Entry) (journal : List Entry) → AllByRecursion (λ (name : At). same_at name (name_of e) ≡ false) names →
    map (bytes_named journal) names ≡ map (bytes_named (e ∷ journal)) names
same-named [] e journal other = refl
same-named (name ∷ names) e journal other =
    ap (λ (l : List ℕ). l ∷ map (bytes_named journal) names)
    (ap bytes_of (sym (cond-false (same_at name (name_of e)) (Some e.event) (entry_at name journal) other.0)))
    ∙ ap (λ (l : List (List ℕ)). bytes_named (e ∷ journal) name ∷ l) (same-named names e journal other.1)

pub gathering-stays : GatheringStays
gathering-stays g names e journal other h = h ∙ ap (xor_all (size g.gather)) (same-named names e journal other)
