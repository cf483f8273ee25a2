use Rattle.std.proofs.Common.{◌≡◌, ◌<◌, ℕ, length, reverse, sym, subst, ◌∙◌}
use Rattle.std.proofs.lemmas.List.{length-reverse}
use Rattle.journal_index.proofs.index.Index.add.Goals as goal

pub returns : goal.returns
returns c =
    let past = reverse c.args.past.now in
    let here : length past ≡ c.place_after-place.result = length-reverse c.args.past.now ∙ sym c.place_after-place.ensures.place in
    let short : length past < 9223372036854775808 = subst (λ (n : ℕ). n < 9223372036854775808) (sym here) c.place_after-place.ensures.small in
    record {
      names = c.in_ok-add.ensures past here c.requires.names;
      stamps = c.in_ok-add-2.ensures past c.requires.stamps;
      disks = c.in_ok-add-3.ensures past short c.requires.disks;
      book = c.in_ok-add-4.ensures.ok;
      acts = c.in_ok-add-5.ensures past c.requires.acts;
    }
