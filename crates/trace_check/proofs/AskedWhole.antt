-- The tests of a journal's parts decide what a script's calls ask of it.
use Rattle.std.proofs.Common.{◌≡◌, ℕ, suc, ◌+◌, ◌<◌, ◌&&◌, Bool, List, [], ◌∷◌, ◌++◌, length, take, get_or, sym, ap, subst, arith, ◌∙◌}
use Rattle.std.specs.Prelude.{◌↔◌, IsTrue}
use Rattle.std.proofs.lemmas.Bool.Decides.{Decides-and, Decides-like}
use Rattle.std.proofs.lemmas.List.{take_more, length-take-le}
use Rattle.array_journal.specs.declared.entry.Entry.{Entry}
use Rattle.array_journal.specs.Run.{NoneOpen}
use Rattle.host_scripts.specs.declared.script.Call.{Call}
use Rattle.host_scripts.specs.declared.script.Script.{Script}
use Rattle.stripe_check.specs.Asked.{IsServed, AreServed, AreInTurn, AreDecided, are_owned, IsAskedOf}
use Rattle.host_requests.specs.Requests.{request_of}
use Rattle.stripe_check.specs.Steps.{steps_of}

-- ---- calls, one by one

served-put : (script : Script) (whole : List Entry) (n : ℕ) (xs : List Call) (x : Call)
    → AreServed script whole n xs → IsServed script whole (request_of script.geometry x.action) (steps_of (n + length xs) whole) → AreServed script whole n (xs ++ x ∷ [])
served-put script whole n [] x h k =
    (subst (λ (m : ℕ). IsServed script whole (request_of script.geometry x.action) (steps_of m whole)) (omega arith) k, tt)
served-put script whole n (y ∷ ys) x h k =
    (h.0, served-put script whole (suc n) ys x h.1 (subst (λ (m : ℕ). IsServed script whole (request_of script.geometry x.action) (steps_of m whole)) (omega arith) k))

served-rest : (script : Script) (whole : List Entry) (n : ℕ) (xs : List Call) (x : Call)
    → AreServed script whole n (xs ++ x ∷ []) → AreServed script whole n xs × IsServed script whole (request_of script.geometry x.action) (steps_of (n + length xs) whole)
served-rest script whole n [] x h =
    (tt, subst (λ (m : ℕ). IsServed script whole (request_of script.geometry x.action) (steps_of m whole)) (omega arith) h.0)
served-rest script whole n (y ∷ ys) x h =
    let r = served-rest script whole (suc n) ys x h.1 in
    ((h.0, r.0), subst (λ (m : ℕ). IsServed script whole (request_of script.geometry x.action) (steps_of m whole)) (omega arith) r.1)

pub served-step : (script : Script) (whole : List Entry) (calls : List Call) (k : ℕ) (call : Call) (here served : Bool)
    → k < length calls → get_or calls k call ≡ call
    → (IsTrue here ↔ IsServed script whole (request_of script.geometry call.action) (steps_of (k + 1) whole))
    → (IsTrue served ↔ AreServed script whole 1 (take k calls))
    → (IsTrue (here && served) ↔ AreServed script whole 1 (take (k + 1) calls))
served-step script whole calls k call here served lt is now before =
    let e = take_more calls k call lt ∙ ap (λ x. take k calls ++ x ∷ []) is in
    let len : length (take k calls) ≡ k = length-take-le k calls (omega (arith, lt)) in
    let same : k + 1 ≡ 1 + length (take k calls) = omega (arith, len) in
    let Here : ℕ → Type 0 = λ m. IsServed script whole (request_of script.geometry call.action) (steps_of m whole) in
    subst (λ (l : List Call). IsTrue (here && served) ↔ AreServed script whole 1 l) (sym e)
    (Decides-like (here && served)
    (λ p. served-put script whole 1 (take k calls) call p.1 (subst Here same p.0))
    (λ q. let r = served-rest script whole 1 (take k calls) call q in (subst Here (sym same) r.1, r.0))
    (Decides-and here served now before))

-- ---- the parts together

pub asked-decided : (script : Script) (past : List Entry) (in_turn served decided owned closed : Bool)
    → (IsTrue in_turn ↔ AreInTurn script past) → (IsTrue served ↔ AreServed script past 1 script.calls) → (IsTrue decided ↔ AreDecided script past)
    → owned ≡ are_owned script past → (IsTrue closed ↔ NoneOpen past)
    → (IsTrue (in_turn && served && decided && owned && closed) ↔ IsAskedOf script past)
asked-decided script past in_turn served decided owned closed t s d o n =
    Decides-like (in_turn && served && decided && owned && closed)
    (λ p. record { in_turn = p.0.0.0.0; served = p.0.0.0.1; decided = p.0.0.1; owned = p.0.1; closed = p.1 })
    (λ r. ((((r.in_turn, r.served), r.decided), r.owned), r.closed))
    (Decides-and _ closed (Decides-and _ owned (Decides-and _ decided (Decides-and in_turn served t s) d) (λ h. sym o ∙ h, λ h. o ∙ h)) n)
