-- What an order and what is handed back leave at a target.
use Rattle.std.specs.Prelude.{◌≡◌, ◌≢◌, ◌<◌, ◌≤◌, ◌==◌, ◌||◌, not, nat_lt, ℕ, Bool, true, false, List, [], ◌∷◌, ◌++◌, ◌+◌, filter, slice_get, Option, Some, None, option_map, is_some}
use Rattle.std.specs.Bool.{then_some}
use Rattle.std.proofs.Common.{refl, ap, sym, subst, ◌∙◌, cond}
use Rattle.std.proofs.lemmas.Bool.{false≢true, eq-eqb, ltb-true, ltb-false}
use Rattle.std.proofs.lemmas.Option.{same_Some}
use Rattle.sense_data.specs.declared.senses.Sense.{Sense}
use Rattle.sbc_cdbs.specs.declared.commands.Command.{Command}
use Rattle.sbc_cdbs.specs.declared.commands.Command.TheVariants.{Read, Write, XdWrite, XpWrite, XdRead, XdWriteRead, ModeSelect, ModeSense, XdWriteExtended, Rebuild, Regenerate}
use Rattle.array_journal.specs.declared.at.At.{At}
use Rattle.array_journal.specs.Lives.{loss_of, life_of}
use Rattle.array_journal.specs.Owners.{shut_at}
use Rattle.xor_target.specs.declared.order.Order.{Order}
use Rattle.xor_target.specs.declared.waiting.Waiting.{Waiting}
use Rattle.xor_target.specs.declared.answer.Answer.{Answer}
use Rattle.xor_target.specs.declared.answer.Answer.TheVariants.{Good, Check, Gone, Shut, Peer, Memory}
use Rattle.xor_target.specs.declared.answer.PeerBack.{PeerBack}
use Rattle.xor_target.specs.declared.answer.PeerBack.TheVariants as back
use Rattle.xor_target.specs.Admission.{first_some, command_in, count_of, cdb_rows, command_rows, refusal_of, too_long, wrong_secondary, wrong_select, saved_values, unknown_page, out_of_range, wrong_amount, wrong_list}
use Rattle.xor_target.specs.Waits.{waiting_of, without_owner, with_source, sends}
use Rattle.xor_target.specs.Gathers.{GatheringState, IsFirst, IsGatherer, done_order, read_request}
use Rattle.xor_params.specs.declared.sources.Descriptor.{Descriptor}
use Rattle.xor_params.specs.Contents.{stranger_in}
use Rattle.xor_target.specs.State.{TargetState, limits_of, is_waiting}
use Rattle.xor_target.specs.Table.{first_answer, refused_row, shut_row, gone_row, idle_row, overlap_row, room_row, unheld_row, early_answer, check, loss_for}
use Rattle.xor_target.specs.Answers.{next_name, IsDone, IsStruck, IsActed, Does, Fails, IsSent, Sends, Drops, Loses, IsGathered, Alone, Begins, IsExecuted, IsAnswered, WantsMemory, Tells, Executes, fold_request, newest_stamp}
use Rattle.xor_target.specs.Resumes.{no_longer, goes_on, with_names, IsContinued, Asks as AsksMore, Finishes, IsResumed, Ended, Folded, Refused, Continues, WantsMemory as LacksMemory}
use Rattle.xor_target.specs.Rigs.{asks_further, asks_others}
use Rattle.xor_target.proofs.ListRows.{first-none, last-none, sound-list}
use Rattle.xor_target.proofs.Possible.{unsaid, admitted-some}
use Rattle.xor_target.proofs.RigRows.{IsUnmoved}

-- ---- nothing that is said before anything is done asks another target

first-said : (o : Option Answer) (rows : List (Option Answer)) (answer : Answer) → ((a : Answer) → o ≡ Some a → asks_further a ≡ false) →
    (first_answer rows ≡ Some answer → asks_further answer ≡ false) → first_answer (o ∷ rows) ≡ Some answer → asks_further answer ≡ false
first-said None rows answer own rest h = rest h
first-said (Some a) rows answer own rest h = own answer h

mapped : {A : Type 0} (f : A → Answer) (o : Option A) (a : Answer) → ((x : A) → asks_further (f x) ≡ false) → option_map f o ≡ Some a → asks_further a ≡ false
mapped f None a says h = absurd cc
mapped f (Some x) a says h = ap asks_further (sym (same_Some (f x) a h)) ∙ says x

tested : (b : Bool) (x a : Answer) → asks_further x ≡ false → then_some b x ≡ Some a → asks_further a ≡ false
tested true x a says h = ap asks_further (sym (same_Some x a h)) ∙ says
tested false x a says h = absurd cc

told-early : (t : TargetState) (order : Order) (answer : Answer) → early_answer t order ≡ Some answer → asks_further answer ≡ false
told-early t order answer h =
    let command = command_in order.cdb in
    let unheld = unheld_row t order command in
    let room = room_row t order command in
    let overlap = overlap_row t order command in
    let idle = idle_row command in
    let gone = gone_row t order.owner in
    let shut = shut_row t order.owner in
    first-said (refused_row t order) (shut ∷ gone ∷ idle ∷ overlap ∷ room ∷ unheld ∷ []) answer (λ a e. mapped (check t order) (refusal_of (limits_of t) t.page order.cdb order.bytes) a (λ s. refl) e)
    (λ h1. first-said shut (gone ∷ idle ∷ overlap ∷ room ∷ unheld ∷ []) answer (λ a e. mapped Shut (shut_at t.number order.owner t.past) a (λ x. refl) e)
    (λ h2. first-said gone (idle ∷ overlap ∷ room ∷ unheld ∷ []) answer (λ a e. mapped (λ at. Gone at (life_of t.number t.past) (loss_for t order.owner)) (loss_of t.number t.past) a (λ x. refl) e)
    (λ h3. first-said idle (overlap ∷ room ∷ unheld ∷ []) answer (λ a e. tested _ _ a refl e)
    (λ h4. first-said overlap (room ∷ unheld ∷ []) answer (λ a e. tested _ _ a refl e)
    (λ h5. first-said room (unheld ∷ []) answer (λ a e. tested _ _ a refl e)
    (λ h6. first-said unheld [] answer (λ a e. tested _ _ a refl e) (λ h7. absurd cc) h6) h5) h4) h3) h2) h1) h

-- ---- an order

-- What an order leaves: the target is where it was, and nobody waits there who didn't; or it asks to fold a delta at another
-- target, or to read a source, and waits for that.
pub data Left (t : TargetState) (order : Order) (said : Answer) (now : TargetState) : Type 0 where
  Ends : asks_further said ≡ false → ((owner : ℕ) → is_waiting t owner ≡ false → is_waiting now owner ≡ false) → IsUnmoved t now → Left t order said now
  Asks : (dpo fua disable : Bool) (lba second count address : ℕ) (delta : List ℕ) → early_answer t order ≡ None → command_in order.cdb ≡ XdWriteExtended dpo fua disable lba second count address →
      said ≡ Peer (fold_request t.number (next_name t order.stamp) order second count address delta) (next_name t order.stamp ∷ []) →
      now.waiting ≡ t.waiting ++ record { owner = order.owner; made = next_name t order.stamp ∷ []; gathering = None } ∷ [] → IsUnmoved t now → Left t order said now
  Reads : (g : GatheringState) (source : Descriptor) (command : Command) → early_answer t order ≡ None → command_in order.cdb ≡ command → IsGatherer command → IsFirst t.block order command g →
      slice_get g.sources 0 ≡ Some source → said ≡ Peer (read_request t.number (newest_stamp t.past order.stamp) g source) [] →
      now ≡ record t { waiting = t.waiting ++ record { owner = order.owner; made = []; gathering = Some g } ∷ [] } → Left t order said now

same-place : (t now : TargetState) → now ≡ t → IsUnmoved t now
same-place t now e = record { number = ap (λ (u : TargetState). u.number) e; targets = ap (λ (u : TargetState). u.targets) e; block = ap (λ (u : TargetState). u.block) e }

done-place : (t : TargetState) (order : Order) (command : Command) (bytes : List ℕ) (now : TargetState) → IsDone t order command bytes now → IsUnmoved t now × (now.waiting ≡ t.waiting)
done-place t order command bytes now d = (
  record { number = ap (λ (u : TargetState). u.number) d.grown; targets = ap (λ (u : TargetState). u.targets) d.grown; block = ap (λ (u : TargetState). u.block) d.grown },
  ap (λ (u : TargetState). u.waiting) d.grown,
)

-- what is taken out of a list isn't found where nothing was
pub none-filtered : (q : Waiting → Bool) (owner : ℕ) (ws : List Waiting) → is_some (waiting_of owner ws) ≡ false → is_some (waiting_of owner (filter q ws)) ≡ false
none-filtered q owner [] h = refl
none-filtered q owner (w ∷ ws) h = step (q w) (w.owner == owner) refl h (none-filtered q owner ws)
  where
    step : (b c : Bool) → (w.owner == owner) ≡ c → is_some (cond c (Some w) (waiting_of owner ws)) ≡ false →
        (is_some (waiting_of owner ws) ≡ false → is_some (waiting_of owner (filter q ws)) ≡ false) → is_some (waiting_of owner (cond b (w ∷ filter q ws) (filter q ws))) ≡ false
    step b true e none older = absurd (false≢true (sym none))
    step true false e none older = ap (λ x. is_some (cond x (Some w) (waiting_of owner (filter q ws)))) e ∙ older none
    step false false e none older = older none

pub same-waits : (t now : TargetState) → now.waiting ≡ t.waiting → (owner : ℕ) → is_waiting t owner ≡ false → is_waiting now owner ≡ false
same-waits t now e owner none = ap (λ (ws : List Waiting). is_some (waiting_of owner ws)) e ∙ none

struck-place : (never_fails : Bool) (t : TargetState) (stamp : ℕ) (now : TargetState) → IsStruck never_fails t stamp now →
    IsUnmoved t now × ((owner : ℕ) → is_waiting t owner ≡ false → is_waiting now owner ≡ false)
struck-place never_fails t stamp now d = (
  record { number = ap (λ (u : TargetState). u.number) d.grown; targets = ap (λ (u : TargetState). u.targets) d.grown; block = ap (λ (u : TargetState). u.block) d.grown },
  λ owner none. ap (λ (u : TargetState). is_waiting u owner) d.grown ∙ none-filtered sends owner t.waiting none,
)

-- what a command of blocks leaves, done or failed, of those who wait
pub acted-place : (never_fails : Bool) (t : TargetState) (order : Order) (command : Command) (said : Answer) (now : TargetState) → IsActed never_fails t order command said now →
    IsUnmoved t now × ((owner : ℕ) → is_waiting t owner ≡ false → is_waiting now owner ≡ false)
acted-place never_fails t order command said now (Does bytes done says) =
    let p = done-place t order command bytes now done in
    (p.0, same-waits t now p.1)
acted-place never_fails t order command said now (Fails struck says) = struck-place never_fails t order.stamp now struck

pub acted-ends : (never_fails : Bool) (t : TargetState) (order : Order) (command : Command) (said : Answer) (now : TargetState) → IsActed never_fails t order command said now →
    asks_further said ≡ false
acted-ends never_fails t order command said now (Does bytes done says) = ap asks_further says
acted-ends never_fails t order command said now (Fails struck says) = ap asks_further says

acted : (never_fails : Bool) (t : TargetState) (order : Order) (command : Command) (said : Answer) (now : TargetState) → IsActed never_fails t order command said now → Left t order said now
acted never_fails t order command said now a =
    let p = acted-place never_fails t order command said now a in
    Ends (acted-ends never_fails t order command said now a) p.1 p.0

-- a command that gathers is done at once, or reads its first source
gathered : (never_fails : Bool) (t : TargetState) (order : Order) (command : Command) (said : Answer) (now : TargetState) → early_answer t order ≡ None → command_in order.cdb ≡ command →
    IsGatherer command → IsGathered never_fails t order command said now → Left t order said now
gathered never_fails t order command said now early is gathers (Alone g first none does) =
    let p = acted-place never_fails t (done_order g [] [] order.stamp) command said now does in
    Ends (acted-ends never_fails t (done_order g [] [] order.stamp) command said now does) p.1 p.0
gathered never_fails t order command said now early is gathers (Begins g source first asks says after) =
    Reads g source command early is gathers first asks says after

sent : (never_fails : Bool) (t : TargetState) (order : Order) (dpo fua disable : Bool) (lba second count address : ℕ) (said : Answer) (now : TargetState) → early_answer t order ≡ None →
    command_in order.cdb ≡ XdWriteExtended dpo fua disable lba second count address →
    IsSent never_fails t order (XdWriteExtended dpo fua disable lba second count address) second count address said now → Left t order said now
sent never_fails t order dpo fua disable lba second count address said now early is (Sends delta done goes does after says) =
    let p = done-place t order (XdWriteExtended dpo fua disable lba second count address) delta done does in
    Asks dpo fua disable lba second count address delta early is says (ap (λ (u : TargetState). u.waiting) after)
    (record {
      number = ap (λ (u : TargetState). u.number) after ∙ p.0.number;
      targets = ap (λ (u : TargetState). u.targets) after ∙ p.0.targets;
      block = ap (λ (u : TargetState). u.block) after ∙ p.0.block;
    })
sent never_fails t order dpo fua disable lba second count address said now early is (Drops delta drops does says) =
    let p = done-place t order (XdWriteExtended dpo fua disable lba second count address) delta now does in
    Ends (ap asks_further says) (same-waits t now p.1) p.0
sent never_fails t order dpo fua disable lba second count address said now early is (Loses struck says) =
    let p = struck-place never_fails t order.stamp now struck in
    Ends (ap asks_further says) p.1 p.0

executed : (never_fails : Bool) (t : TargetState) (order : Order) (said : Answer) (now : TargetState) (command : Command) → early_answer t order ≡ None → command_in order.cdb ≡ command →
    IsExecuted never_fails t order said now command → Left t order said now
executed never_fails t order said now (Read dpo fua lba count) early is e = acted never_fails t order (Read dpo fua lba count) said now e
executed never_fails t order said now (Write dpo fua lba count) early is e = acted never_fails t order (Write dpo fua lba count) said now e
executed never_fails t order said now (XdWrite dpo fua disable lba count) early is e = acted never_fails t order (XdWrite dpo fua disable lba count) said now e
executed never_fails t order said now (XpWrite dpo fua lba count) early is e = acted never_fails t order (XpWrite dpo fua lba count) said now e
executed never_fails t order said now (XdRead lba count) early is e = acted never_fails t order (XdRead lba count) said now e
executed never_fails t order said now (XdWriteRead dpo fua disable lba count) early is e = acted never_fails t order (XdWriteRead dpo fua disable lba count) said now e
executed never_fails t order said now (ModeSelect pf sp list) early is e =
    Ends (ap asks_further e.says) (same-waits t now (ap (λ (u : TargetState). u.waiting) e.same))
    (record { number = ap (λ (u : TargetState). u.number) e.same; targets = ap (λ (u : TargetState). u.targets) e.same; block = ap (λ (u : TargetState). u.block) e.same })
executed never_fails t order said now (ModeSense dbd pc page allocation) early is e =
    Ends (ap asks_further e.says) (same-waits t now (ap (λ (u : TargetState). u.waiting) e.same)) (same-place t now e.same)
executed never_fails t order said now (XdWriteExtended dpo fua disable lba second count address) early is e =
    sent never_fails t order dpo fua disable lba second count address said now early is e
executed never_fails t order said now (Rebuild dpo fua intdata lba count list) early is e =
    gathered never_fails t order (Rebuild dpo fua intdata lba count list) said now early is tt e
executed never_fails t order said now (Regenerate dpo fua intdata lba count list) early is e =
    gathered never_fails t order (Regenerate dpo fua intdata lba count list) said now early is tt e

pub left-by : (never_fails : Bool) (t : TargetState) (order : Order) (said : Answer) (now : TargetState) → IsAnswered never_fails t order said now → Left t order said now
left-by never_fails t order said now (WantsMemory early says same) =
    Ends (ap asks_further says) (same-waits t now (ap (λ (u : TargetState). u.waiting) same)) (same-place t now same)
left-by never_fails t order said now (Tells early same) =
    Ends (told-early t order said early) (same-waits t now (ap (λ (u : TargetState). u.waiting) same)) (same-place t now same)
left-by never_fails t order said now (Executes early e) = executed never_fails t order said now (command_in order.cdb) early refl e

-- the request of an XDWRITE EXTENDED is for another target of the row

past-rows : (rows more : List (Option Sense)) → first_some (rows ++ more) ≡ None → first_some more ≡ None
past-rows [] more h = h
past-rows (Some sense ∷ rows) more h = absurd cc
past-rows (None ∷ rows) more h = past-rows rows more h

first-answer-none : (o : Option Answer) (rows : List (Option Answer)) → first_answer (o ∷ rows) ≡ None → o ≡ None
first-answer-none None rows h = refl
first-answer-none (Some a) rows h = absurd cc

unmapped : {A : Type 0} (f : A → Answer) (o : Option A) → option_map f o ≡ None → o ≡ None
unmapped f None h = refl
unmapped f (Some a) h = absurd cc

-- neither test of the secondary address refuses
both-pass : (below same : Bool) (sense : Sense) → then_some (not below || same) sense ≡ None → (below ≡ true) × (same ≡ false)
both-pass true true sense h = absurd cc
both-pass true false sense h = (refl, refl)
both-pass false same sense h = absurd cc

-- no row on its fields refuses an order that is to be done
unrefused : (t : TargetState) (order : Order) (command : Command) → early_answer t order ≡ None → command_in order.cdb ≡ command → first_some (command_rows (limits_of t) t.page command order.bytes) ≡ None
unrefused t order command early is =
    let limits = limits_of t in
    let refused = unmapped (check t order) (refusal_of limits t.page order.cdb order.bytes) (first-answer-none (refused_row t order) _ early) in
    let rows : first_some (command_rows limits t.page (command_in order.cdb) order.bytes) ≡ None = past-rows (cdb_rows t.page order.cdb) (command_rows limits t.page (command_in order.cdb) order.bytes) refused in
    subst (λ (c : Command). first_some (command_rows limits t.page c order.bytes) ≡ None) is rows

pub asked-apart : (t : TargetState) (order : Order) (dpo fua disable : Bool) (lba second count address : ℕ) → early_answer t order ≡ None →
    command_in order.cdb ≡ XdWriteExtended dpo fua disable lba second count address → (address < t.targets) × (address ≢ t.number)
asked-apart t order dpo fua disable lba second count address early is =
    let limits = limits_of t in
    let command = XdWriteExtended dpo fua disable lba second count address in
    let mine = unrefused t order command early is in
    let rest = past-rows (too_long t.page command ∷ []) (wrong_secondary limits command ∷ wrong_select command ∷ saved_values command ∷ unknown_page command ∷ out_of_range limits command
    ∷ wrong_amount limits command order.bytes ∷ wrong_list limits command order.bytes ∷ []) mine in
    let tests = both-pass (nat_lt address t.targets) (address == t.number) _ (first-none (wrong_secondary limits command) _ rest) in
    (ltb-true address t.targets tests.0, λ e. false≢true (sym tests.1 ∙ eq-eqb address t.number e))

-- what is known of an order that begins to gather: it has some blocks, no more than a READ can ask for, and its sources are other
-- targets
pub record IsReading (t : TargetState) (order : Order) (command : Command) : Type 0 where
  pub few : count_of command ≤ 65535
  pub known : stranger_in t.targets t.number order.bytes ≡ None

no-more : (over : Bool) (count : ℕ) (sense : Sense) → then_some (over || nat_lt 65535 count) sense ≡ None → count ≤ 65535
no-more true count sense h = absurd cc
no-more false count sense h = ltb-false 65535 count (unsaid (nat_lt 65535 count) sense h)

pub reading-row : (t : TargetState) (order : Order) (command : Command) → early_answer t order ≡ None → command_in order.cdb ≡ command → IsGatherer command → IsReading t order command
reading-row t order (Read dpo fua lba count) early is gathers = absurd gathers
reading-row t order (Write dpo fua lba count) early is gathers = absurd gathers
reading-row t order (XdWrite dpo fua disable lba count) early is gathers = absurd gathers
reading-row t order (XpWrite dpo fua lba count) early is gathers = absurd gathers
reading-row t order (XdRead lba count) early is gathers = absurd gathers
reading-row t order (XdWriteRead dpo fua disable lba count) early is gathers = absurd gathers
reading-row t order (ModeSelect pf sp list) early is gathers = absurd gathers
reading-row t order (ModeSense dbd pc page allocation) early is gathers = absurd gathers
reading-row t order (XdWriteExtended dpo fua disable lba second count address) early is gathers = absurd gathers
reading-row t order (Rebuild dpo fua intdata lba count list) early is gathers =
    let limits = limits_of t in
    let command = Rebuild dpo fua intdata lba count list in
    let mine = unrefused t order command early is in
    let listed = last-none (too_long t.page command ∷ wrong_secondary limits command ∷ wrong_select command ∷ saved_values command ∷ unknown_page command ∷ out_of_range limits command
    ∷ wrong_amount limits command order.bytes ∷ []) (wrong_list limits command order.bytes) mine in
    record { few = no-more _ count _ (first-none (too_long t.page command) _ mine); known = (sound-list limits command order.bytes listed (admitted-some t order command early is tt)).known }
reading-row t order (Regenerate dpo fua intdata lba count list) early is gathers =
    let limits = limits_of t in
    let command = Regenerate dpo fua intdata lba count list in
    let mine = unrefused t order command early is in
    let listed = last-none (too_long t.page command ∷ wrong_secondary limits command ∷ wrong_select command ∷ saved_values command ∷ unknown_page command ∷ out_of_range limits command
    ∷ wrong_amount limits command order.bytes ∷ []) (wrong_list limits command order.bytes) mine in
    record { few = no-more _ count _ (first-none (too_long t.page command) _ mine); known = (sound-list limits command order.bytes listed (admitted-some t order command early is tt)).known }

gatherer-asks : (command : Command) → IsGatherer command → asks_others command ≡ true
gatherer-asks (Read dpo fua lba count) h = absurd h
gatherer-asks (Write dpo fua lba count) h = absurd h
gatherer-asks (XdWrite dpo fua disable lba count) h = absurd h
gatherer-asks (XpWrite dpo fua lba count) h = absurd h
gatherer-asks (XdRead lba count) h = absurd h
gatherer-asks (XdWriteRead dpo fua disable lba count) h = absurd h
gatherer-asks (ModeSelect pf sp list) h = absurd h
gatherer-asks (ModeSense dbd pc page allocation) h = absurd h
gatherer-asks (XdWriteExtended dpo fua disable lba second count address) h = absurd h
gatherer-asks (Rebuild dpo fua intdata lba count list) h = refl
gatherer-asks (Regenerate dpo fua intdata lba count list) h = refl

-- a command that asks no other target is answered by no request
pub plain-ends : (t : TargetState) (order : Order) (said : Answer) (now : TargetState) → asks_others (command_in order.cdb) ≡ false → Left t order said now → asks_further said ≡ false
plain-ends t order said now plain (Ends ends waiting place) = ends
plain-ends t order said now plain (Asks dpo fua disable lba second count address delta early is says waiting place) = absurd (false≢true (sym plain ∙ ap asks_others is))
plain-ends t order said now plain (Reads g source command early is gathers first asks says after) =
    absurd (false≢true (sym (ap asks_others (sym is) ∙ plain) ∙ gatherer-asks command gathers))

-- ---- who waits

found-last : (owner : ℕ) (w : Waiting) (ws : List Waiting) → w.owner ≡ owner → is_some (waiting_of owner (ws ++ w ∷ [])) ≡ true
found-last owner w [] e = ap (λ b. is_some (cond b (Some w) None)) (eq-eqb w.owner owner e)
found-last owner w (v ∷ ws) e = either (v.owner == owner) v (waiting_of owner (ws ++ w ∷ [])) (found-last owner w ws e)
  where
    either : (b : Bool) (v : Waiting) (o : Option Waiting) → is_some o ≡ true → is_some (cond b (Some v) o) ≡ true
    either true v o h = refl
    either false v o h = h

none-left : (owner : ℕ) (ws : List Waiting) → is_some (waiting_of owner (without_owner owner ws)) ≡ false
none-left owner [] = refl
none-left owner (v ∷ ws) = step (v.owner == owner) refl (none-left owner ws)
  where
    step : (b : Bool) → (v.owner == owner) ≡ b → is_some (waiting_of owner (without_owner owner ws)) ≡ false →
        is_some (waiting_of owner (cond (not b) (v ∷ without_owner owner ws) (without_owner owner ws))) ≡ false
    step true e rest = rest
    step false e rest = ap (λ c. is_some (cond c (Some v) (waiting_of owner (without_owner owner ws)))) e ∙ rest

pub asks-waits : (t : TargetState) (owner : ℕ) (w : Waiting) (now : TargetState) → w.owner ≡ owner → now.waiting ≡ t.waiting ++ w ∷ [] → is_waiting now owner ≡ true
asks-waits t owner w now own e = ap (λ ws. is_some (waiting_of owner ws)) e ∙ found-last owner w t.waiting own

-- the command that began last is an owner's first where none of it waited
pub began-last : (owner : ℕ) (w : Waiting) (ws : List Waiting) → w.owner ≡ owner → is_some (waiting_of owner ws) ≡ false → waiting_of owner (ws ++ w ∷ []) ≡ Some w
began-last owner w [] own none = ap (λ b. cond b (Some w) None) (eq-eqb w.owner owner own)
began-last owner w (v ∷ ws) own none = step (v.owner == owner) none (began-last owner w ws own)
  where
    step : (b : Bool) → is_some (cond b (Some v) (waiting_of owner ws)) ≡ false → (is_some (waiting_of owner ws) ≡ false → waiting_of owner (ws ++ w ∷ []) ≡ Some w) →
        cond b (Some v) (waiting_of owner (ws ++ w ∷ [])) ≡ Some w
    step true h rest = absurd (false≢true (sym h))
    step false h rest = rest h

-- ---- what is handed back

-- What is handed back to a target that waits leaves it where it was: it waits no longer; or it asks the next source of what it
-- gathers; or, where it wants memory, it is as it was. It neither asks further nor wants memory where it is told of a failure.
pub data Resumed (t : TargetState) (owner : ℕ) (peer : PeerBack) (answer : Answer) (now : TargetState) : Type 0 where
  Goes : asks_further answer ≡ false → answer ≢ Memory → is_waiting now owner ≡ false → IsUnmoved t now → Resumed t owner peer answer now
  Stays : answer ≡ Memory → now ≡ t → peer ≢ back.Failed → Resumed t owner peer answer now
  AsksNext : (w : Waiting) (g : GatheringState) (source : Descriptor) (bytes : List ℕ) (made : List At) (stamp : ℕ) → waiting_of owner t.waiting ≡ Some w → w.gathering ≡ Some g →
      slice_get g.sources (g.answered + 1) ≡ Some source → answer ≡ Peer (read_request t.number stamp g source) made →
      now ≡ record t { waiting = with_source owner made bytes t.waiting } → peer ≢ back.Failed → Resumed t owner peer answer now

no-longer-place : (t : TargetState) (owner : ℕ) (now : TargetState) → now ≡ no_longer t owner → IsUnmoved t now
no-longer-place t owner now e = record { number = ap (λ (u : TargetState). u.number) e; targets = ap (λ (u : TargetState). u.targets) e; block = ap (λ (u : TargetState). u.block) e }

pub named-ends : (made : List At) (done : Answer) → asks_further done ≡ false → asks_further (with_names made done) ≡ false
named-ends made (Good bytes names) h = refl
named-ends made (Check sense names loss) h = refl
named-ends made (Gone at life loss) h = refl
named-ends made (Shut at) h = refl
named-ends made (Peer request names) h = h
named-ends made Memory h = refl

acted-said : (never_fails : Bool) (t : TargetState) (order : Order) (command : Command) (made : List At) (said : Answer) (now : TargetState) → IsActed never_fails t order command said now →
    with_names made said ≢ Memory
acted-said never_fails t order command made said now (Does bytes done says) e = let w = ap (λ (a : Answer). with_names made a) says in absurd cc
acted-said never_fails t order command made said now (Fails struck says) e = let w = ap (λ (a : Answer). with_names made a) says in absurd cc

finished : (never_fails : Bool) (t : TargetState) (owner : ℕ) (peer : PeerBack) (order : Order) (command : Command) (made : List At) (done answer : Answer) (now : TargetState) →
    IsActed never_fails (no_longer t owner) order command done now → answer ≡ with_names made done → Resumed t owner peer answer now
finished never_fails t owner peer order command made done answer now acts says =
    let p = acted-place never_fails (no_longer t owner) order command done now acts in
    Goes (ap asks_further says ∙ named-ends made done (acted-ends never_fails (no_longer t owner) order command done now acts))
    (λ e. acted-said never_fails (no_longer t owner) order command made done now acts (sym says ∙ e)) (p.1 owner (none-left owner t.waiting))
    (record { number = p.0.number; targets = p.0.targets; block = p.0.block })

pub resumed-by : (never_fails : Bool) (t : TargetState) (owner : ℕ) (peer : PeerBack) (seen : ℕ) (answer : Answer) (now : TargetState) → goes_on t owner ≡ true →
    IsResumed never_fails t owner peer seen answer now → Resumed t owner peer answer now
resumed-by never_fails t owner peer seen answer now goes (Ended none told same) = absurd (false≢true (sym none ∙ goes))
resumed-by never_fails t owner peer seen answer now goes (Folded w bytes made is nothing good says after) =
    Goes (ap asks_further says) (λ e. absurd cc) (ap (λ (u : TargetState). is_waiting u owner) after ∙ none-left owner t.waiting) (no-longer-place t owner now after)
resumed-by never_fails t owner peer seen answer now goes (Refused w on is failed says after) =
    Goes (ap asks_further says) (λ e. absurd cc) (ap (λ (u : TargetState). is_waiting u owner) after ∙ none-left owner t.waiting) (no-longer-place t owner now after)
resumed-by never_fails t owner peer seen answer now goes (Continues bytes made on is c) = by c.continued
  where
    by : IsContinued never_fails t owner c.waiting c.gathering bytes made seen answer now → Resumed t owner peer answer now
    by (AsksMore source asks says after) =
        AsksNext c.waiting c.gathering source bytes (c.waiting.made ++ made) (newest_stamp t.past seen) c.waits c.gathers asks says after (λ e. absurd cc)
    by (Finishes done none acts says) =
        finished never_fails t owner peer (done_order c.gathering (c.waiting.made ++ made) bytes seen) c.gathering.admitted.command (c.waiting.made ++ made) done answer now acts says
resumed-by never_fails t owner peer seen answer now goes (LacksMemory bytes made on is good says same) = Stays says same (λ e. absurd cc)
