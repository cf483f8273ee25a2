use Rattle.std.proofs.Common.{rules, ap, sym, subst, ◌∙◌, ltb}
use Rattle.std.proofs.lemmas.List.Sorted.{IsPartitionPoint-from_clause, IsPartitionedBy-ltb}
use Rattle.std.specs.List.Sorted.{IsNonDecreasingBy}
use Rattle.journal_index.specs.Rising.{place_among}
use Rattle.journal_index.proofs.RisingLaws.{key_in, found_at}
use Rattle.journal_index.proofs.rising.RisingPlaces.risen.Goals as goal

pub returns : goal.returns
returns c = λ rises.
    let xs = c.as_slice-rising.result.now in
    let up = subst (IsNonDecreasingBy key_in) (sym c.as_slice-rising.ensures.value) rises.in_order in
    let parted = IsPartitionedBy-ltb key_in xs c.args.key up in
    let point = IsPartitionPoint-from_clause (λ x. ltb (key_in x) c.args.key) xs _ c.partition_point-at.ensures.partitioned parted (λ a r q k. search rules) in
    let found = found_at c.args.key c.partition_point-at.result xs up point in
    c.place_at.ensures ∙ sym found ∙ ap (λ ys. place_among ys c.args.key) c.as_slice-rising.ensures.value
