-- A text that grows still starts with what it was.
use Rattle.std.proofs.Common.{◌≡◌, List, ℕ, ◌++◌, length, drop, sym, ap, ◌∙◌, append_assoc, arith}
use Rattle.std.specs.Io.{StartsWith}
use Rattle.std.proofs.Math.Seq.{take-append_seam}
use Rattle.std.proofs.lemmas.List.{take_all, take-append-drop}

pub front_start : (old : List ℕ) → StartsWith old old
front_start old = take_all (length old) old (omega arith)

pub front_still : (old mid new : List ℕ) → StartsWith mid old → new ≡ mid → StartsWith new old
front_still old mid new front e = rw e front

front_append : (old more : List ℕ) → StartsWith (old ++ more) old
front_append old more = take-append_seam old more

front_split : (old new : List ℕ) → StartsWith new old → new ≡ old ++ drop (length old) new
front_split old new front = sym (take-append-drop (length old) new) ∙ ap (λ t. t ++ drop (length old) new) front

pub front_more : (old mid more new : List ℕ) → StartsWith mid old → new ≡ mid ++ more → StartsWith new old
front_more old mid more new front e =
    let first = drop (length old) mid in
    let all : new ≡ old ++ (first ++ more) = e ∙ ap (λ t. t ++ more) (front_split old mid front) ∙ append_assoc old first more in
    rw all (front_append old (first ++ more))

pub front_further : (old mid new : List ℕ) → StartsWith mid old → StartsWith new mid → StartsWith new old
front_further old mid new front further = front_more old mid (drop (length mid) new) new front (front_split mid new further)

-- by these a function that calls others to append is seen to keep what stood in front
pub ruleset fronts = (front_start, front_still, front_further)
