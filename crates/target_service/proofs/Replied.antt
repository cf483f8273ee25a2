-- One frame more that is replied to.
use Rattle.std.proofs.Common.{◌≡◌, ℕ, suc, ◌+◌, List, [], ◌∷◌, ◌++◌, length, refl, sym, ap, subst, ◌∙◌, append_assoc, arith}
use Rattle.std.proofs.lemmas.List.{append-nil}
use Rattle.target_frames.specs.declared.items.Item.{Item}
use Rattle.xor_target.specs.State.{TargetState}
use Rattle.target_service.specs.Answered.{IsReplied, AreReplied}

pub replied-more : (n : ℕ) (b : List TargetState) (frames : List Item) (mid : List TargetState) (replies : List ℕ) (frame : Item) (after : List TargetState) (reply : List ℕ)
    → AreReplied n b frames mid replies → IsReplied (n + length frames) mid frame after reply → AreReplied n b (frames ++ frame ∷ []) after (replies ++ reply)
replied-more n b [] mid replies frame after reply done step =
    let P : ℕ → List TargetState → Type 0 = λ k state. IsReplied k state frame after reply in
    let same : n + 0 ≡ n = omega arith in
    let here : IsReplied n b frame after reply = subst (λ k. P k b) same (subst (P (n + 0)) done.0 step) in
    (after, (reply, ([], (here, (refl, refl), ap (λ (r : List ℕ). r ++ reply) done.1 ∙ sym (append-nil reply)))))
replied-more n b (f ∷ fs) mid replies frame after reply (next, (first, (rest, (one, others, whole)))) step =
    let same : n + suc (length fs) ≡ suc n + length fs = omega arith in
    let later : IsReplied (suc n + length fs) mid frame after reply = subst (λ k. IsReplied k mid frame after reply) same step in
    let more : AreReplied (suc n) next (fs ++ frame ∷ []) after (rest ++ reply) = replied-more (suc n) next fs mid rest frame after reply others later in
    (next, (first, (rest ++ reply, (one, more, ap (λ (r : List ℕ). r ++ reply) whole ∙ append_assoc first rest reply))))
