-- The call lines: what was read is spelt so, or the first of them that is refused.
use Rattle.std.proofs.Common.{◌≡◌, ℕ, ◌+◌, ◌<◌, ◌≤◌, nat_lt, true, List, [], ◌∷◌, ◌++◌, length, map, get_or, drop, None, refl, sym, ap, subst, ◌∙◌, append_assoc, length-append, arith}
use Rattle.std.specs.Prelude.{codes}
use Rattle.std.specs.List.{flat_map, AllByRecursion}
use Rattle.std.proofs.lemmas.Bool.{lt-ltb}
use Rattle.std.proofs.lemmas.List.{append-nil}
use Rattle.std.proofs.lemmas.Option.{none-some, same_Some}
use Rattle.stripe_layout.specs.declared.geometry.Geometry.{Geometry}
use Rattle.host_scripts.specs.declared.script.Script.{Script}
use Rattle.host_scripts.specs.declared.script.Call.{Call}
use Rattle.host_scripts.specs.declared.script.Action.{Action}
use Rattle.host_scripts.specs.declared.script.Cause.TheVariants.{Size}
use Rattle.text_fields.specs.Spelling.{line}
use Rattle.host_scripts.specs.Scripts.{letter, call_text, order_texts, script_lines, IsAction, IsCall, IsScript}
use Rattle.text_fields.specs.Reading.{stripped}
use Rattle.host_scripts.specs.Loose.{call_of}
use Rattle.host_scripts.specs.Reading.{Head, line_at, is_ranged, is_ranged_call, is_sized_call, call_at, calls_at}
use Rattle.host_scripts.specs.FirstRefusals.{Begins, IsCause}
use Rattle.host_scripts.specs.Refusals.{IsFormedCall, IsFormed, IsRangedAction, IsRangedCall, IsRanged, script_grammar}
use Rattle.host_scripts.proofs.Outcomes.{Outcome}
use Rattle.host_scripts.proofs.Rules.{LineBad}
use Rattle.host_scripts.proofs.CallTexts.{kept_action, kept_call, call_rule}
use Rattle.host_scripts.proofs.Again.{kept-ranged}
use Rattle.host_scripts.proofs.EachLine.{each-outcome, item-after, all-append, shorter-by}
use Rattle.host_scripts.proofs.Places.{Near, IsPlace, Spelled, Grown, placed, outcome_map, form-action, regroup, ranged-formed, script-ranged, same-line}
use Rattle.host_scripts.proofs.HeadWalk.{whole, IsHead}
use Rattle.host_scripts.proofs.CallRanges.{both, lt-from, ranged-again, ranged-takes, sized-takes}
use Rattle.host_scripts.proofs.TurnsWalk.{IsSoFar, so-far, behind, call-bare, calls-same, lines-more, order-begins, order_line}

-- the calls of a script that has the turns and calls so far as its first lines
calls-behind : (order : List ℕ) (asked : List Call) (turns : List ℕ) (done : List Call) (text tail : List ℕ) (more : List (List ℕ)) → AllByRecursion IsFormedCall asked → AllByRecursion IsFormedCall done
    → (turns ≡ [] → done ≡ [] → stripped (codes "order ") (text ++ tail) ≡ None) → order_texts order ++ map call_text asked ≡ (order_texts turns ++ map call_text done) ++ text ∷ more → map call_text asked ≡ map call_text done ++ text ∷ more
calls-behind [] asked [] done text tail more f g bare e = e
calls-behind (o ∷ order) asked (t ∷ turns) done text tail more f g bare e = ap (λ (xs : List (List ℕ)). drop 1 xs) e
calls-behind (o ∷ order) asked [] [] text tail more f g bare e =
    let same : order_line (o ∷ order) ≡ text = ap (λ (xs : List (List ℕ)). get_or xs 0 []) e in
    let no : ⊥ = none-some (map letter (o ∷ order) ++ tail) (sym (bare refl refl) ∙ ap (λ (t : List ℕ). stripped (codes "order ") (t ++ tail)) (sym same) ∙ order-begins (map letter (o ∷ order)) tail) in
    absurd no
calls-behind (o ∷ order) asked [] (d ∷ done) text tail more f g bare e =
    let same : order_line (o ∷ order) ≡ call_text d = ap (λ (xs : List (List ℕ)). get_or xs 0 []) e in
    let no : ⊥ = none-some (map letter (o ∷ order) ++ []) (sym (call-bare d [] g.0.0) ∙ ap (λ (t : List ℕ). stripped (codes "order ") (t ++ [])) (sym same) ∙ order-begins (map letter (o ∷ order)) []) in
    absurd no
calls-behind [] [] (t ∷ turns) done text tail more f g bare e = let no : ⊥ = omega (arith, ap (λ (xs : List (List ℕ)). length xs) e) in absurd no
calls-behind [] (call ∷ asked) (t ∷ turns) done text tail more f g bare e =
    let same : call_text call ≡ order_line (t ∷ turns) = ap (λ (xs : List (List ℕ)). get_or xs 0 []) e in
    let no : ⊥ = none-some (map letter (t ∷ turns) ++ []) (sym (call-bare call [] f.0.0) ∙ ap (λ (t : List ℕ). stripped (codes "order ") (t ++ [])) same ∙ order-begins (map letter (t ∷ turns)) []) in
    absurd no

formed-so-far : (h : Head) (order : List ℕ) (calls : List Call) → IsSoFar h order calls → IsFormed (whole h order calls)
formed-so-far h order calls is = ranged-formed (whole h order calls) (script-ranged (whole h order calls) (so-far h order calls is))

-- what is read of a call line
pub record CallRead (bytes : List ℕ) (h : Head) (order : List ℕ) (calls : List Call) (rest : List ℕ) (x : Call × List ℕ) : Type 0 where
  pub is : IsSoFar h order (calls ++ x.0 ∷ [])
  pub split : bytes ≡ flat_map line (script_lines (whole h order (calls ++ x.0 ∷ []))) ++ x.1
  pub shorter : length x.1 < length rest

abbrev Bare : List ℕ → List Call → List ℕ → Type 0
Bare order calls rest = order ≡ [] → calls ≡ [] → stripped (codes "order ") rest ≡ None

call-here : (h : Head) (order : List ℕ) (calls : List Call) (rest : List ℕ) → IsSoFar h order calls → Bare order calls rest
    → (s : Script) (text : List ℕ) (more : List (List ℕ)) (after : List ℕ) → IsFormed s → script_lines s ≡ script_lines (whole h order calls) ++ text ∷ more → rest ≡ line text ++ after → Spelled call_text IsFormedCall text
call-here h order calls rest is bare s text more after f e split =
    let rest-is : text ++ 10 ∷ after ≡ rest = sym (split ∙ append_assoc text (10 ∷ []) after) in
    let tail = calls-behind s.order s.calls order calls text (10 ∷ after) more f.calls (formed-so-far h order calls is).calls (λ o d. ap (stripped (codes "order ")) rest-is ∙ bare o d) (calls-same h is.head order calls s (text ∷ more) f e).lines in
    item-after call_text IsFormedCall s.calls calls text more f.calls tail

same-kept : (a b : Call) → IsFormedCall a → IsFormedCall b → call_text a ≡ call_text b → kept_call a ≡ kept_call b
same-kept a b f g e = same_Some (kept_call a) (kept_call b) (sym (call_rule.again a f) ∙ ap call_of e ∙ call_rule.again b g)

-- a script that goes on with a call's line has a call whose line it is
call-there : (P : Call → Type 0) (h : Head) (order : List ℕ) (calls : List Call) → IsSoFar h order calls → (s : Script) (w : Call) (more : List (List ℕ)) → IsFormed s → AllByRecursion P s.calls → IsFormedCall w
    → script_lines s ≡ script_lines (whole h order calls) ++ call_text w ∷ more → (c : Call) × P c × (call_text c ≡ call_text w)
call-there P h order calls is s w more f all g e =
    let tail = calls-behind s.order s.calls order calls (call_text w) [] more f.calls (formed-so-far h order calls is).calls (λ o d. call-bare w [] g.0) (calls-same h is.head order calls s (call_text w ∷ more) f e).lines in
    let a = item-after call_text P s.calls calls (call_text w) more all tail in
    (a.word, a.formed, sym a.spelt)

call-fits : (h : Head) (order : List ℕ) (calls : List Call) → IsSoFar h order calls → (s : Script) (w : Call) (more : List (List ℕ)) → IsRanged s → IsFormedCall w → script_lines s ≡ script_lines (whole h order calls) ++ call_text w ∷ more
    → is_ranged_call h.geometry h.hosts (kept_call w) ≡ true
call-fits h order calls is s w more r g e =
    let head = calls-same h is.head order calls s (call_text w ∷ more) (ranged-formed s r) e in
    let c = call-there (IsRangedCall s) h order calls is s w more (ranged-formed s r) r.calls g e in
    let formed : IsFormedCall c.0 = (omega (arith, c.1.0, r.most_hosts), form-action s.geometry c.0.action c.1.1) in
    let kept = same-kept c.0 w formed g c.2 in
    let tests : is_ranged_call s.geometry s.hosts (kept_call c.0) ≡ true = rw (lt-ltb c.0.host s.hosts c.1.0, ranged-again s.geometry c.0.action r.geometry.most_targets c.1.1) refl in
    let a : is_ranged_call h.geometry s.hosts (kept_call c.0) ≡ true = subst (λ (x : Geometry). is_ranged_call x s.hosts (kept_call c.0) ≡ true) head.geometry tests in
    let b : is_ranged_call h.geometry h.hosts (kept_call c.0) ≡ true = subst (λ (n : ℕ). is_ranged_call h.geometry n (kept_call c.0) ≡ true) head.hosts a in
    subst (λ (k : Call). is_ranged_call h.geometry h.hosts k ≡ true) kept b

-- one more call
grown-lines : (h : Head) (order : List ℕ) (calls : List Call) (w : Call) → script_lines (whole h order (calls ++ w ∷ [])) ≡ (script_lines (whole h order calls) ++ call_text w ∷ []) ++ []
grown-lines h order calls w = lines-more h order calls (w ∷ []) ∙ sym (append-nil (script_lines (whole h order calls) ++ call_text w ∷ []))

call-formed : (h : Head) (order : List ℕ) (calls : List Call) → IsSoFar h order calls → (w : Call) → IsFormedCall w → Begins script_grammar IsFormed (script_lines (whole h order calls) ++ call_text w ∷ [])
call-formed h order calls is w g =
    let f = formed-so-far h order calls is in
    record { value = whole h order (calls ++ w ∷ []); kind = record { version = f.version; maxima = f.maxima; order = f.order; calls = all-append IsFormedCall calls w f.calls g }; more = []; lines = grown-lines h order calls w }

-- a call whose numbers are in range
call-is-ranged : (h : Head) → IsHead h → (w : Call) → IsFormedCall w → is_ranged_call h.geometry h.hosts (kept_call w) ≡ true → (w.host < h.hosts) × IsRangedAction h.geometry w.action × (kept_call w ≡ w)
call-is-ranged h is w g e =
    let p = both (nat_lt w.host h.hosts) (is_ranged h.geometry (kept_action w.action)) e in
    let a = ranged-takes h.geometry w.action is.shape.array.most_targets g.1 p.1 in
    (lt-from w.host h.hosts p.0, a.0, ap (λ (x : Action). record { host = w.host; action = x }) a.1)

call-ranged : (h : Head) (order : List ℕ) (calls : List Call) → IsSoFar h order calls → (w : Call) → (w.host < h.hosts) × IsRangedAction h.geometry w.action → Begins script_grammar IsRanged (script_lines (whole h order calls) ++ call_text w ∷ [])
call-ranged h order calls is w g =
    let s = whole h order calls in
    let r = script-ranged s (so-far h order calls is) in
    record {
      value = whole h order (calls ++ w ∷ []);
      kind = record {
        version = r.version;
        geometry = r.geometry;
        targets = r.targets;
        least_buffer = r.least_buffer;
        most_buffer = r.most_buffer;
        maxima = r.maxima;
        write_maximum = r.write_maximum;
        regenerate_maximum = r.regenerate_maximum;
        rebuild_maximum = r.rebuild_maximum;
        seed = r.seed;
        least_hosts = r.least_hosts;
        most_hosts = r.most_hosts;
        turns = r.turns;
        order = r.order;
        calls = all-append (λ (c : Call). (c.host < h.hosts) × IsRangedAction h.geometry c.action) calls w r.calls g;
      };
      more = [];
      lines = grown-lines h order calls w;
    }

-- the bytes of a write that isn't whole blocks
call-size : (h : Head) (order : List ℕ) (calls : List Call) (rest : List ℕ) → IsSoFar h order calls → Bare order calls rest
    → LineBad call_text kept_call IsFormedCall (is_ranged_call h.geometry h.hosts) (is_sized_call h.geometry) rest Size → IsCause script_grammar (script_lines (whole h order calls)) rest Size
call-size h order calls rest is bare bad =
    let w = bad.word in
    let p = call-is-ranged h is.head w bad.formed bad.holds.0 in
    let texts = script_lines (whole h order calls) in (
      record { text = call_text w; after = bad.after; split = bad.split; begins = call-ranged h order calls is w (p.0, p.1) },
      λ g.
          let s = g.begins.value in
          let f = ranged-formed s (script-ranged s g.begins.kind) in
          let lines = g.begins.lines ∙ regroup texts g.begins.more g.text in
          let a = call-here h order calls rest is bare s g.text g.begins.more g.after f lines g.split in
          let split : rest ≡ line (call_text a.word) ++ g.after = g.split ∙ ap (λ (t : List ℕ). line t ++ g.after) a.spelt in
          let same = same-line (call_text a.word) (call_text w) g.after bad.after rest (call_rule.clean a.word a.formed) (call_rule.clean w bad.formed) split bad.split in
          let lines-w : script_lines s ≡ texts ++ call_text w ∷ g.begins.more = lines ∙ ap (λ (t : List ℕ). texts ++ t ∷ g.begins.more) (a.spelt ∙ same) in
          let c = call-there (IsCall s) h order calls is s w g.begins.more f g.begins.kind.calls bad.formed lines-w in
          let k = kept-ranged s.geometry c.0.action g.begins.kind.geometry.most_targets c.1.1 in
          let formed : IsFormedCall c.0 = (omega (arith, c.1.0, g.begins.kind.most_hosts), k.0) in
          let kept = same-kept c.0 w formed bad.formed c.2 in
          let here : is_sized_call h.geometry (kept_call c.0) ≡ true = subst (λ (x : Geometry). is_sized_call x (kept_call c.0) ≡ true) (calls-same h is.head order calls s (call_text w ∷ g.begins.more) f lines-w).geometry k.2 in
          bad.holds.1 (subst (λ (x : Call). is_sized_call h.geometry x ≡ true) kept here),
    )

call-outcome : (bytes rest : List ℕ) (h : Head) (order : List ℕ) (calls : List Call) (n : ℕ) → IsSoFar h order calls → bytes ≡ flat_map line (script_lines (whole h order calls)) ++ rest → n ≡ length (script_lines (whole h order calls)) + 1 → Bare order calls rest
    → Outcome (CallRead bytes h order calls rest) (Near bytes) (call_at h.geometry h.hosts n rest)
unfolding call_at
call-outcome bytes rest h order calls n is e number bare =
    let texts = script_lines (whole h order calls) in
    let ranged = is_ranged_call h.geometry h.hosts in
    let sized = is_sized_call h.geometry in
    let place : IsPlace call_text kept_call IsFormedCall ranged texts rest = record { here = call-here h order calls rest is bare; formed = call-formed h order calls is; fits = call-fits h order calls is } in
    let begins : Begins script_grammar IsScript texts = record { value = whole h order calls; kind = so-far h order calls is; more = []; lines = sym (append-nil texts) } in
    outcome_map (Grown call_text kept_call IsFormedCall ranged sized bytes texts) (CallRead bytes h order calls rest) (Near bytes) (Near bytes) (line_at n ranged sized call_of rest)
    (placed call_of call_text kept_call IsFormedCall call_rule ranged sized bytes texts rest n e number begins place (call-size h order calls rest is bare))
    (λ x r.
    let w = r.word in
    let ranged-is : ranged (kept_call w) ≡ true = subst (λ (c : Call). ranged c ≡ true) r.value r.ranged_is in
    let p = call-is-ranged h is.head w r.formed ranged-is in
    let sized-is : sized w ≡ true = subst (λ (c : Call). sized c ≡ true) (r.value ∙ p.2) r.sized_is in
    let action = sized-takes h.geometry w.action is.head.shape.array.least_block p.1 sized-is in
    let more : IsSoFar h order (calls ++ w ∷ []) = record { head = is.head; turns = is.turns; order = is.order; calls = all-append (λ (c : Call). (c.host < h.hosts) × IsAction h.geometry c.action) calls w is.calls (p.0, action) } in
    let split : bytes ≡ flat_map line (script_lines (whole h order (calls ++ w ∷ []))) ++ x.1 = r.split ∙ ap (λ (ts : List (List ℕ)). flat_map line ts ++ x.1) (sym (lines-more h order calls (w ∷ []))) in
    let same : w ≡ x.0 = sym (r.value ∙ p.2) in
    record {
      is = subst (λ (c : Call). IsSoFar h order (calls ++ c ∷ [])) same more;
      split = subst (λ (c : Call). bytes ≡ flat_map line (script_lines (whole h order (calls ++ c ∷ []))) ++ x.1) same split;
      shorter = shorter-by bytes texts (call_text w) rest x.1 e r.split;
    }) (λ m cause bad. bad)

-- what is read of all of them
pub record CallsRead (bytes : List ℕ) (h : Head) (order : List ℕ) (calls more : List Call) : Type 0 where
  pub is : IsSoFar h order (calls ++ more)
  pub split : bytes ≡ flat_map line (script_lines (whole h order (calls ++ more)))

next-number : (h : Head) (order : List ℕ) (calls : List Call) (c : Call) (n : ℕ) → n ≡ length (script_lines (whole h order calls)) + 1 → n + 1 ≡ length (script_lines (whole h order (calls ++ c ∷ []))) + 1
next-number h order calls c n e =
    let a = ap (λ (xs : List (List ℕ)). length xs) (lines-more h order calls (c ∷ [])) in
    let b = length-append (script_lines (whole h order calls)) (call_text c ∷ []) in
    omega (arith, a, b, e)

not-empty : (calls : List Call) (c : Call) → calls ++ c ∷ [] ≡ [] → ⊥
not-empty calls c e = let b = length-append calls (c ∷ []) in omega (arith, b, ap (λ (xs : List Call). length xs) e)

-- what is known behind some calls
record CallState (bytes : List ℕ) (h : Head) (order : List ℕ) (calls : List Call) (n : ℕ) (rest : List ℕ) : Type 0 where
  is : IsSoFar h order calls
  split : bytes ≡ flat_map line (script_lines (whole h order calls)) ++ rest
  number : n ≡ length (script_lines (whole h order calls)) + 1
  bare : Bare order calls rest

next-call : (bytes : List ℕ) (h : Head) (order : List ℕ) (calls : List Call) (n : ℕ) (rest : List ℕ) → CallState bytes h order calls n rest
    → Outcome (λ x. CallState bytes h order (calls ++ x.0 ∷ []) (n + 1) x.1 × (length x.1 < length rest)) (Near bytes) (call_at h.geometry h.hosts n rest)
next-call bytes h order calls n rest s =
    outcome_map (CallRead bytes h order calls rest) (λ x. CallState bytes h order (calls ++ x.0 ∷ []) (n + 1) x.1 × (length x.1 < length rest)) (Near bytes) (Near bytes) (call_at h.geometry h.hosts n rest)
    (call-outcome bytes rest h order calls n s.is s.split s.number s.bare)
    (λ x g. (record { is = g.is; split = g.split; number = next-number h order calls x.0 n s.number; bare = λ o d. absurd (not-empty calls x.0 d) }, g.shorter)) (λ m cause bad. bad)

pub calls-outcome : (bytes : List ℕ) (h : Head) (order : List ℕ) (turns : ℕ) (calls : List Call) (n : ℕ) (rest : List ℕ) → length rest ≤ turns → IsSoFar h order calls → bytes ≡ flat_map line (script_lines (whole h order calls)) ++ rest
    → n ≡ length (script_lines (whole h order calls)) + 1 → Bare order calls rest → Outcome (CallsRead bytes h order calls) (Near bytes) (calls_at h.geometry h.hosts turns n rest)
calls-outcome bytes h order turns calls n rest le is e number bare =
    outcome_map (λ more. (m : ℕ) × CallState bytes h order (calls ++ more) m []) (CallsRead bytes h order calls) (Near bytes) (Near bytes) (calls_at h.geometry h.hosts turns n rest)
    (each-outcome (call_at h.geometry h.hosts) (Near bytes) (CallState bytes h order) (next-call bytes h order) turns calls n rest le (record { is = is; split = e; number = number; bare = bare }))
    (λ more s. record { is = s.1.is; split = s.1.split ∙ append-nil (flat_map line (script_lines (whole h order (calls ++ more)))) }) (λ m cause bad. bad)
