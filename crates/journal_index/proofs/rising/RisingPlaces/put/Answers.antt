use Rattle.std.proofs.Common.{rules, ap, ◌∙◌, ◌≡◌, ◌≤◌, None, List}
use Rattle.std.specs.BTreeMap.{get}
use Rattle.std.specs.Ordering.{nat_cmp}
use Rattle.std.specs.Option.{option_or}
use Rattle.journal_index.specs.declared.rising.KeyedPlace.{KeyedPlace}
use Rattle.journal_index.specs.Rising.{place_among}
use Rattle.journal_index.proofs.RisingLaws.{kept_push}
use Rattle.journal_index.proofs.rising.RisingPlaces.put.Goals as goal

pub returns-in_ok-push-clause-places : goal.returns-in_ok-push-clause-places
returns-in_ok-push-clause-places c = λ rises k.
    let m = c.args.self.now in
    let none : get nat_cmp m.others c.args.key ≡ None = search rules in
    let above : m.bound ≤ c.args.key = search rules in
    ap (λ (xs : List KeyedPlace). option_or (get nat_cmp m.others k) (place_among xs k)) c.in_ok-push.ensures.items
    ∙ kept_push k m.bound (get nat_cmp m.others) m.rising.items (record { key = c.args.key; place = c.args.place }) none rises.below above
