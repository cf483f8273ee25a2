use Rattle.std.proofs.Common.{◌-◌, ◌<◌, ℕ, List, [], ◌∷◌, ◌++◌, Option, length, take, drop, arith, sym, ap, subst}
use Rattle.std.proofs.lemmas.List.{take_rest, length-drop, length-append}
use Rattle.target_frames.specs.declared.front.Front.TheVariants as front
use Rattle.target_frames.specs.declared.items.Item.{Item}
use Rattle.target_frames.specs.Frames.{spellings, told}
use Rattle.target_frames.specs.Heads.{BeginsWith}
use Rattle.target_frames.proofs.Cuts.{IsCut, Stops, uncut, cut_more, is_shorter, is_split}
use Rattle.target_frames.proofs.splitting.cut.Goals.{in-Unfinished, in-Wrong}
use Rattle.target_frames.proofs.splitting.cut.Goals as goal

pub items-init : goal.items-init
items-init c = subst (λ (i : List Item). IsCut c.args.targets c.args.bytes.now i c.args.targets c.args.bytes.now) (sym c.new-items.ensures) (uncut c.args.targets c.args.bytes.now (λ i. omega (arith, c.type_inv.bytes i)))

pub items-preserved : goal.items-preserved
items-preserved c =
    let rest = c.items.rest.now in
    let item = c.in-Whole.item in
    let len = c.in-Whole.len in
    let begins : BeginsWith c.items.known rest (front.Whole item len) = subst (BeginsWith c.items.known rest) c.in-Whole.is c.in_ok-item.ensures in
    let more = cut_more c.args.targets c.args.bytes.now c.items.items c.items.known rest item len c.items.invariant begins.0 begins.1 begins.2 begins.3 in
    let P : List Item → Option ℕ → List ℕ → Type 0 = λ i k r. IsCut c.args.targets c.args.bytes.now i k r in
    let left : List ℕ = take (length rest - len) (drop len rest) in
    let behind : P (c.items.items ++ item ∷ []) (told c.items.known item) left = subst (P (c.items.items ++ item ∷ []) (told c.items.known item)) (sym (take_rest rest len)) more in
    let known : P (c.items.items ++ item ∷ []) c.told-known.result left = subst (λ k. P (c.items.items ++ item ∷ []) k left) (sym c.told-known.ensures) behind in
    subst (λ (i : List Item). P i c.told-known.result left) (sym c.in_ok-push-in-Whole.ensures.ok) known

pub items-smaller : goal.items-smaller
items-smaller c =
    let rest = c.items.rest.now in
    let item = c.in-Whole.item in
    let len = c.in-Whole.len in
    let begins : BeginsWith c.items.known rest (front.Whole item len) = subst (BeginsWith c.items.known rest) c.in-Whole.is c.in_ok-item.ensures in
    let shorter : length (take (length rest - len) (drop len rest)) < length rest =
    omega (arith, ap length (take_rest rest len), length-drop len rest, is_shorter c.items.known rest len begins.1, begins.2) in
    shorter

pub returns-in-items : goal.returns-in-items
returns-in-items c =
    let rest = c.items.rest.now in
    let stop : Stops c.items.known rest c.match-branch-2.wrong =
    elim c.match-branch-2.branch [
      | in-Unfinished w ↦ subst (Stops c.items.known rest) (sym w.wrong-is) (subst (BeginsWith c.items.known rest) w.in-Unfinished.is c.in_ok-item.ensures)
      | in-Wrong w ↦ subst (Stops c.items.known rest) (sym w.wrong-is) (subst (BeginsWith c.items.known rest) w.in-Wrong.is c.in_ok-item.ensures)
    ] in
    is_split c.args.targets c.args.bytes.now c.items.items c.items.known rest c.match-branch-2.wrong c.items.invariant stop

pub overflow_sub-result : goal.overflow_sub-result
overflow_sub-result c = omega (arith, ap length c.items.invariant.spelled, length-append (spellings c.items.items) c.items.rest.now)
