-- Media depend on nothing but the shape of the array.
use Rattle.std.proofs.Common.{◌≡◌, ℕ, ◌+◌, ◌*◌, ◌==◌, cond, List, [], ◌∷◌, length, refl, ap, ◌∙◌}
use Rattle.blocks_core.specs.Xor.{xor, zeros}
use Rattle.stripe_layout.specs.declared.geometry.Geometry.{Geometry}
use Rattle.stripe_layout.specs.Layout.{rows_of}
use Rattle.array_journal.specs.declared.entry.Entry.{Entry}
use Rattle.array_journal.specs.declared.event.Event.{Event}
use Rattle.array_journal.specs.declared.event.Event.TheVariants.{Put, Diff, Fold, Fresh}
use Rattle.array_journal.specs.declared.setting.Setting.{Setting}
use Rattle.blocks_core.specs.Lists.{slice, put}
use Rattle.array_journal.specs.Media.{media, medium_after}
use Rattle.stripe_check.specs.Folds.{AreMedia}
use Rattle.stripe_check.specs.Found.{stripe_total}
use Rattle.stripe_check.specs.Sums.{sum_of}
use Rattle.stripe_check.proofs.Summaries.{sum-is}

medium_after-same : (s t : Setting) (e : Event) (old : List ℕ) → s.geometry ≡ t.geometry → medium_after s e old ≡ medium_after t e old
medium_after-same s t (Put command opened cdb row bytes names) old h = ap (λ (g : Geometry). put old (row * g.block) bytes) h
medium_after-same s t (Diff command opened cdb row bytes sent dropped back) old h = ap (λ (g : Geometry). put old (row * g.block) bytes) h
medium_after-same s t (Fold command opened cdb row bytes names) old h =
    ap (λ (g : Geometry). put old (row * g.block) (xor (slice old (row * g.block) (length bytes)) bytes)) h
medium_after-same s t (Fresh call swap) old h = ap (λ (g : Geometry). zeros (rows_of g * g.block)) h
medium_after-same s t _ old h = refl

media-same : (s t : Setting) (i : ℕ) (past : List Entry) → s.geometry ≡ t.geometry → media s i past ≡ media t i past
media-same s t i [] h = ap (λ (g : Geometry). zeros (rows_of g * g.block)) h
media-same s t i (e ∷ past) h =
    let before = media-same s t i past h in
    ap (λ m. cond (e.lock == i + 1) (medium_after s e.event m) m) before
    ∙ ap (λ m. cond (e.lock == i + 1) m (media t i past)) (medium_after-same s t e.event (media t i past) h)

-- the sum of a stripe in any setting of that shape
pub sum-of-shape : (s t : Setting) (past : List Entry) (kept : List (List ℕ)) (k : ℕ) → s.geometry ≡ t.geometry → AreMedia s past kept →
    stripe_total s.geometry kept k ≡ sum_of t past k
sum-of-shape s t past kept k h are =
    let here : AreMedia t past kept = record {
      count = are.count ∙ ap (λ (g : Geometry). g.targets) h;
      each = λ i lt. are.each i (rw h lt) ∙ media-same s t i past h;
    } in
    ap (λ (g : Geometry). stripe_total g kept k) h ∙ sum-is t past kept here k
