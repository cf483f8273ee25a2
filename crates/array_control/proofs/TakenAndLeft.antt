-- One more call of a host is told its reply: which calls were told then, and which are left.
use Rattle.std.specs.Prelude.{◌≡◌, ◌+◌, ◌++◌, ℕ, zero, suc, List, [], ◌∷◌, drop, length, take}
use Rattle.std.proofs.Common.{ap, sym, ◌∙◌, subst, arith}
use Rattle.std.proofs.lemmas.List.{drop-drop, length-append}
use Rattle.array_journal.specs.declared.entry.Entry.{Entry}
use Rattle.host_scripts.specs.declared.script.Action.{Action}
use Rattle.unit_plans.specs.declared.doings.Reply.{Reply}
use Rattle.unit_plans.specs.Buses.{BusSetting}
use Rattle.array_control.specs.HostCalls.{HostCalls, calls_of, left_of, with_reply}
use Rattle.array_control.specs.Turns.{WasTold, WereTold, request_in}

-- ---- the first so many of a list, and the others

module _ {X : Type 0} where
  pub taken-more : (n : ℕ) (xs rest : List X) (x : X) → drop n xs ≡ x ∷ rest → take (suc n) xs ≡ take n xs ++ x ∷ []
  taken-more zero [] rest x q = absurd cc
  taken-more zero (y ∷ xs) rest x q = let first : y ≡ x = cc in ap (λ (z : X). z ∷ []) first
  taken-more (suc n) [] rest x q = absurd cc
  taken-more (suc n) (y ∷ xs) rest x q = ap (λ (zs : List X). y ∷ zs) (taken-more n xs rest x q)

  pub left-more : (n : ℕ) (xs rest : List X) (x : X) → drop n xs ≡ x ∷ rest → drop (n + 1) xs ≡ rest
  left-more n xs rest x q = sym (drop-drop 1 n xs) ∙ ap (drop 1) q

-- ---- the calls that were told

pub told-more : (b : BusSetting) (calls : List (ℕ × Action)) (replies : List Reply) (call : ℕ × Action) (reply : Reply) (journal : List Entry) →
    WereTold b calls replies journal → WasTold b call.0 call.1 (request_in b call) reply journal →
    WereTold b (calls ++ call ∷ []) (replies ++ reply ∷ []) journal
told-more b [] [] call reply journal told more = (more, tt)
told-more b [] (first ∷ replies) call reply journal told more = absurd told
told-more b (first ∷ calls) [] call reply journal told more = absurd told
told-more b (first ∷ calls) (its ∷ replies) call reply journal told more = (told.0, told-more b calls replies call reply journal told.1 more)

module _ (run : HostCalls) (next : ℕ × Action) (rest : List (ℕ × Action)) (reply : Reply) (here : left_of run ≡ next ∷ rest) where
  one-more : length (run.replies ++ reply ∷ []) ≡ length run.replies + 1
  one-more = length-append run.replies (reply ∷ [])

  -- the next call isn't left
  pub left-with_reply : left_of (with_reply run reply) ≡ rest
  left-with_reply =
      ap (λ n. drop n (calls_of run.host run.calls)) one-more ∙ left-more (length run.replies) (calls_of run.host run.calls) rest next here

  -- but was told this
  pub told-with_reply : (b : BusSetting) (journal : List Entry) → WereTold b (take (length run.replies) (calls_of run.host run.calls)) run.replies journal →
      WasTold b next.0 next.1 (request_in b next) reply journal →
      WereTold b (take (length (with_reply run reply).replies) (calls_of run.host run.calls)) (with_reply run reply).replies journal
  told-with_reply b journal told more =
      let same : take (length (run.replies ++ reply ∷ [])) (calls_of run.host run.calls) ≡ take (length run.replies) (calls_of run.host run.calls) ++ next ∷ [] =
      let longer : length (run.replies ++ reply ∷ []) ≡ suc (length run.replies) = omega (arith, one-more) in
      ap (λ n. take n (calls_of run.host run.calls)) longer ∙ taken-more (length run.replies) (calls_of run.host run.calls) rest next here in
      subst (λ (calls : List (ℕ × Action)). WereTold b calls (run.replies ++ reply ∷ []) journal) (sym same)
      (told-more b (take (length run.replies) (calls_of run.host run.calls)) run.replies next reply journal told more)
