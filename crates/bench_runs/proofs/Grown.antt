-- What a piece of a line leaves of a target: its place, its entries, and for whom it waits.
use Rattle.std.proofs.Common.{◌≡◌, ◌≢◌, ◌⊎◌, ◌<◌, ◌++◌, ◌==◌, not, ℕ, Bool, true, false, List, [], ◌∷◌, Option, None, Some, is_some, option_map, cond, refl, sym, ap, subst, ◌∙◌, inl, inr, arith}
use Rattle.std.proofs.lemmas.Bool.{false≢true, ne_eqb}
use Rattle.std.proofs.lemmas.Option.{same_Some}
use Rattle.array_journal.specs.declared.entry.Entry.{Entry}
use Rattle.array_journal.specs.declared.event.Event.{Event}
use Rattle.array_journal.specs.Lives.{loss_of, life_of}
use Rattle.array_journal.specs.Owners.{shut_at}
use Rattle.sbc_cdbs.specs.declared.commands.Command.{Command}
use Rattle.sbc_cdbs.specs.declared.commands.Command.TheVariants.{Read, Write, XdWrite, XpWrite, XdRead, XdWriteRead, ModeSelect, ModeSense, XdWriteExtended, Rebuild, Regenerate}
use Rattle.xor_target.specs.declared.order.Order.{Order}
use Rattle.xor_target.specs.declared.answer.Answer.{Answer}
use Rattle.xor_target.specs.declared.answer.Answer.TheVariants.{Good, Check, Gone, Shut, Peer, Memory}
use Rattle.xor_target.specs.declared.answer.PeerBack.{PeerBack}
use Rattle.xor_target.specs.declared.waiting.Waiting.{Waiting}
use Rattle.xor_target.specs.Admission.{command_in}
use Rattle.xor_target.specs.Waits.{waiting_of, without_owner, with_source, accepting}
use Rattle.xor_target.specs.State.{TargetState, is_waiting}
use Rattle.xor_target.specs.Table.{early_answer, first_answer, shut_row, gone_row, loss_for}
use Rattle.xor_target.specs.Answers.{next_entry, next_name, next_stamp, newest_stamp, loss_here, IsActed, Does, Fails, IsSent, Sends, Drops, Loses, IsGathered, Alone, Begins, IsExecuted, IsAnswered, WantsMemory, Tells, Executes}
use Rattle.xor_target.specs.Resumes.{no_longer, HasContinued, IsContinued, Asks as AsksMore, Finishes, IsResumed, Ended, Folded, Refused, Continues, ended_answer, WantsMemory as LacksMemory}
use Rattle.xor_target.specs.declared.answer.PeerBack.TheVariants as back
use Rattle.xor_target.specs.Gathers.{done_order}
use Rattle.array_journal.specs.declared.at.At.{At}
use Rattle.xor_target.specs.Rigs.{asks_further}
use Rattle.xor_target.proofs.RigRows.{IsUnmoved}
use Rattle.xor_target.proofs.RigAnswers.{Left, Ends, Asks, Reads, left-by, acted-place, acted-ends, named-ends}

-- The target is at its place, its entries are what they were, or one more with the next stamp, and it waits for no owner
-- after the one of this number that it didn't wait for.
pub record Grows (number stamp : ℕ) (t next : TargetState) : Type 0 where
  pub place : IsUnmoved t next
  pub past : (next.past ≡ t.past) ⊎ ((event : Event) × (next.past ≡ next_entry t stamp event ∷ t.past))
  pub later : (owner : ℕ) → number < owner → is_waiting t owner ≡ false → is_waiting next owner ≡ false

abbrev past_in : TargetState → List Entry
past_in t = t.past

abbrev waiting_in : TargetState → List Waiting
waiting_in t = t.waiting

-- ---- who waits

abbrev is_waited : ℕ → List Waiting → Bool
is_waited owner ws = is_some (waiting_of owner ws)

found-other : (b : Bool) (v : Waiting) (o p : Option Waiting) → is_some (cond b (Some v) o) ≡ false → (is_some o ≡ false → is_some p ≡ false) → is_some (cond b (Some v) p) ≡ false
found-other true v o p h rest = h
found-other false v o p h rest = rest h

not-further : (b : Bool) (v : Waiting) (o : Option Waiting) → is_some (cond b (Some v) o) ≡ false → is_some o ≡ false
not-further true v o h = absurd (false≢true (sym h))
not-further false v o h = h

-- one that begins is no other owner's
begun-other : (owner : ℕ) (w : Waiting) (ws : List Waiting) → w.owner ≢ owner → is_waited owner ws ≡ false → is_waited owner (ws ++ w ∷ []) ≡ false
begun-other owner w [] other h = ap (λ b. is_some (cond b (Some w) None)) (ne_eqb w.owner owner other)
begun-other owner w (v ∷ ws) other h = found-other (v.owner == owner) v (waiting_of owner ws) (waiting_of owner (ws ++ w ∷ [])) h (begun-other owner w ws other)

-- nobody waits who didn't, where some wait no longer
ended-other : (owner ended : ℕ) (ws : List Waiting) → is_waited owner ws ≡ false → is_waited owner (without_owner ended ws) ≡ false
ended-other owner ended [] h = h
ended-other owner ended (v ∷ ws) h = by_test (not (v.owner == ended)) (ended-other owner ended ws (not-further (v.owner == owner) v (waiting_of owner ws) h))
  where
    by_test : (b : Bool) → is_waited owner (without_owner ended ws) ≡ false → is_waited owner (cond b (v ∷ without_owner ended ws) (without_owner ended ws)) ≡ false
    by_test true rest = found-other (v.owner == owner) v (waiting_of owner ws) (waiting_of owner (without_owner ended ws)) h (λ none. rest)
    by_test false rest = rest

later-than : (number owner : ℕ) → number < owner → number ≢ owner
later-than number owner h e = omega (arith, h, e)

-- ---- an order

-- a request is its owner's, and has seen the entry that was made
abbrev pub Follows : ℕ → ℕ → Answer → Type 0
Follows number stamp (Peer request made) = (request.order.owner ≡ number) × (request.order.stamp ≡ stamp)
Follows number stamp (Good bytes made) = Unit {0}
Follows number stamp (Check sense made loss) = Unit {0}
Follows number stamp (Gone at life loss) = Unit {0}
Follows number stamp (Shut at) = Unit {0}
Follows number stamp Memory = Unit {0}

pub plain-follows : (number stamp : ℕ) (said : Answer) → asks_further said ≡ false → Follows number stamp said
plain-follows number stamp (Peer request made) ends = absurd (false≢true (sym ends))
plain-follows number stamp (Good bytes made) ends = tt
plain-follows number stamp (Check sense made loss) ends = tt
plain-follows number stamp (Gone at life loss) ends = tt
plain-follows number stamp (Shut at) ends = tt
plain-follows number stamp Memory ends = tt

-- What an answer leaves of the entries: they are as they were, and it is no request; or it asks for a source, by one who has
-- seen all of them; or there is one more, which a request has seen.
pub data Past (owner stamp : ℕ) (said : Answer) (t next : TargetState) : Type 0 where
  Still : next.past ≡ t.past → asks_further said ≡ false → Past owner stamp said t next
  Asked : next.past ≡ t.past → Follows owner (newest_stamp t.past stamp) said → Past owner stamp said t next
  Made : (event : Event) → next.past ≡ next_entry t stamp event ∷ t.past → Follows owner (next_stamp t.past stamp) said → Past owner stamp said t next

acted : (t : TargetState) (order : Order) (said : Answer) (next : TargetState) (command : Command) → IsActed true t order command said next → Past order.owner order.stamp said t next
acted t order said next command (Does bytes done says) =
    Made done.effect.event (ap past_in done.grown) (plain-follows order.owner (next_stamp t.past order.stamp) said (ap asks_further says))
acted t order said next command (Fails struck says) = Made (loss_here t 0) (ap past_in struck.grown) (plain-follows order.owner (next_stamp t.past order.stamp) said (ap asks_further says))

sent : (t : TargetState) (order : Order) (said : Answer) (next : TargetState) (command : Command) (second count address : ℕ) →
    IsSent true t order command second count address said next → Past order.owner order.stamp said t next
sent t order said next command second count address (Sends delta done goes does after says) =
    Made does.effect.event (ap past_in after ∙ ap past_in does.grown) (subst (Follows order.owner (next_stamp t.past order.stamp)) (sym says) (refl, refl))
sent t order said next command second count address (Drops delta drops does says) =
    Made does.effect.event (ap past_in does.grown) (plain-follows order.owner (next_stamp t.past order.stamp) said (ap asks_further says))
sent t order said next command second count address (Loses struck says) =
    Made (loss_here t 0) (ap past_in struck.grown) (plain-follows order.owner (next_stamp t.past order.stamp) said (ap asks_further says))

gathered : (t : TargetState) (order : Order) (said : Answer) (next : TargetState) (command : Command) → IsGathered true t order command said next → Past order.owner order.stamp said t next
gathered t order said next command (Alone g first none does) =
    subst (λ (owner : ℕ). Past owner order.stamp said t next) (ap (λ (o : Order). o.owner) first.of_order) (acted t (done_order g [] [] order.stamp) said next command does)
gathered t order said next command (Begins g source first asks says after) =
    Asked (ap past_in after) (subst (Follows order.owner (newest_stamp t.past order.stamp)) (sym says) (ap (λ (o : Order). o.owner) first.of_order, refl))

executed : (t : TargetState) (order : Order) (said : Answer) (next : TargetState) (command : Command) → IsExecuted true t order said next command → Past order.owner order.stamp said t next
executed t order said next (ModeSense dbd pc page allocation) s = Still (ap past_in s.same) (ap asks_further s.says)
executed t order said next (ModeSelect pf sp list) s = Still (ap past_in s.same) (ap asks_further s.says)
executed t order said next (Read dpo fua lba count) s = acted t order said next (Read dpo fua lba count) s
executed t order said next (Write dpo fua lba count) s = acted t order said next (Write dpo fua lba count) s
executed t order said next (XdWrite dpo fua disable lba count) s = acted t order said next (XdWrite dpo fua disable lba count) s
executed t order said next (XpWrite dpo fua lba count) s = acted t order said next (XpWrite dpo fua lba count) s
executed t order said next (XdRead lba count) s = acted t order said next (XdRead lba count) s
executed t order said next (XdWriteRead dpo fua disable lba count) s = acted t order said next (XdWriteRead dpo fua disable lba count) s
executed t order said next (XdWriteExtended dpo fua disable lba second count address) s =
    sent t order said next (XdWriteExtended dpo fua disable lba second count address) second count address s
executed t order said next (Rebuild dpo fua intdata lba count list) s = gathered t order said next (Rebuild dpo fua intdata lba count list) s
executed t order said next (Regenerate dpo fua intdata lba count list) s = gathered t order said next (Regenerate dpo fua intdata lba count list) s

told-ends : (t : TargetState) (order : Order) (said : Answer) (next : TargetState) → early_answer t order ≡ Some said → Left t order said next → asks_further said ≡ false
told-ends t order said next told (Ends ends waiting place) = ends
told-ends t order said next told (Asks dpo fua disable lba second count address delta early is says waiting place) =
    absurd (let no : None ≡ Some said = sym early ∙ told in cc no)
told-ends t order said next told (Reads g source command early is gathers first asks says grown) = absurd (let no : None ≡ Some said = sym early ∙ told in cc no)

answered-past : (t : TargetState) (order : Order) (said : Answer) (next : TargetState) → IsAnswered true t order said next → Past order.owner order.stamp said t next
answered-past t order said next (WantsMemory early memory same) = Still (ap past_in same) (ap asks_further memory)
answered-past t order said next (Tells early same) = Still (ap past_in same) (told-ends t order said next early (left-by true t order said next (Tells early same)))
answered-past t order said next (Executes early by) = executed t order said next (command_in order.cdb) by

left-place : (t : TargetState) (order : Order) (said : Answer) (next : TargetState) → Left t order said next → IsUnmoved t next
left-place t order said next (Ends ends waiting place) = place
left-place t order said next (Asks dpo fua disable lba second count address delta early is says waiting place) = place
left-place t order said next (Reads g source command early is gathers first asks says grown) =
    record { number = ap (λ (u : TargetState). u.number) grown; targets = ap (λ (u : TargetState). u.targets) grown; block = ap (λ (u : TargetState). u.block) grown }

left-later : (number : ℕ) (t : TargetState) (order : Order) (said : Answer) (next : TargetState) → order.owner ≡ number → Left t order said next →
    (owner : ℕ) → number < owner → is_waiting t owner ≡ false → is_waiting next owner ≡ false
left-later number t order said next same (Ends ends waiting place) owner beyond none = waiting owner none
left-later number t order said next same (Asks dpo fua disable lba second count address delta early is says waiting place) owner beyond none =
    ap (is_waited owner) waiting
    ∙ begun-other owner (record { owner = order.owner; made = next_name t order.stamp ∷ []; gathering = None }) t.waiting (λ e. later-than number owner beyond (sym same ∙ e)) none
left-later number t order said next same (Reads g source command early is gathers first asks says grown) owner beyond none =
    ap (λ (u : TargetState). is_waiting u owner) grown
    ∙ begun-other owner (record { owner = order.owner; made = []; gathering = Some g }) t.waiting (λ e. later-than number owner beyond (sym same ∙ e)) none

pub only-past : (owner stamp : ℕ) (said : Answer) (t next : TargetState) → Past owner stamp said t next → (next.past ≡ t.past) ⊎ ((event : Event) × (next.past ≡ next_entry t stamp event ∷ t.past))
only-past owner stamp said t next (Still same ends) = inl same
only-past owner stamp said t next (Asked same follows) = inl same
only-past owner stamp said t next (Made event past follows) = inr (event, past)

-- an answer leaves the entries by its order's owner and stamp
pub past-by : (number : ℕ) (t : TargetState) (order : Order) (said : Answer) (next : TargetState) → order.owner ≡ number → IsAnswered true t order said next → Past number order.stamp said t next
past-by number t order said next same is = subst (λ (owner : ℕ). Past owner order.stamp said t next) same (answered-past t order said next is)

pub answered-grows : (number : ℕ) (t : TargetState) (order : Order) (said : Answer) (next : TargetState) → order.owner ≡ number → IsAnswered true t order said next → Grows number order.stamp t next
answered-grows number t order said next same is =
    let left = left-by true t order said next is in
    record {
      place = left-place t order said next left;
      past = only-past order.owner order.stamp said t next (answered-past t order said next is);
      later = left-later number t order said next same left;
    }

-- ---- what is handed back

first-ends : (o : Option Answer) (rows : List (Option Answer)) (answer : Answer) → ((a : Answer) → o ≡ Some a → asks_further a ≡ false) →
    (first_answer rows ≡ Some answer → asks_further answer ≡ false) → first_answer (o ∷ rows) ≡ Some answer → asks_further answer ≡ false
first-ends None rows answer own rest h = rest h
first-ends (Some a) rows answer own rest h = own answer h

mapped-ends : {A : Type 0} (f : A → Answer) (o : Option A) (a : Answer) → ((x : A) → asks_further (f x) ≡ false) → option_map f o ≡ Some a → asks_further a ≡ false
mapped-ends f None a says h = absurd (let no : None ≡ Some a = h in cc no)
mapped-ends f (Some x) a says h = ap asks_further (sym (same_Some (f x) a h)) ∙ says x

ended-ends : (t : TargetState) (owner : ℕ) (answer : Answer) → ended_answer t owner ≡ Some answer → asks_further answer ≡ false
ended-ends t owner answer =
    first-ends (shut_row t owner) (gone_row t owner ∷ []) answer (λ a e. mapped-ends Shut (shut_at t.number owner t.past) a (λ x. refl) e)
    (first-ends (gone_row t owner) [] answer (λ a e. mapped-ends (λ at. Gone at (life_of t.number t.past) (loss_for t owner)) (loss_of t.number t.past) a (λ x. refl) e)
    (λ none. absurd (let no : None ≡ Some answer = none in cc no)))

-- the target is as it was
pub same-grows : (number stamp : ℕ) (t next : TargetState) → next ≡ t → Grows number stamp t next
same-grows number stamp t next same = record {
  place = record { number = ap (λ (u : TargetState). u.number) same; targets = ap (λ (u : TargetState). u.targets) same; block = ap (λ (u : TargetState). u.block) same };
  past = inl (ap past_in same);
  later = λ owner beyond none. ap (λ (u : TargetState). is_waiting u owner) same ∙ none;
}

-- the owner's command waits no longer
over-grows : (number stamp : ℕ) (t : TargetState) (ended : ℕ) (next : TargetState) → next ≡ no_longer t ended → Grows number stamp t next
over-grows number stamp t ended next after = record {
  place = record { number = ap (λ (u : TargetState). u.number) after; targets = ap (λ (u : TargetState). u.targets) after; block = ap (λ (u : TargetState). u.block) after };
  past = inl (ap past_in after);
  later = λ owner beyond none. ap (λ (u : TargetState). is_waiting u owner) after ∙ ended-other owner ended t.waiting none;
}

-- What is handed back leaves a target that grew by this stamp, and a further request has seen all there is.
pub record Handed (number stamp : ℕ) (answer : Answer) (t next : TargetState) : Type 0 where
  pub grows : Grows number stamp t next
  pub past : Past number stamp answer t next

unchanged : (number stamp : ℕ) (answer : Answer) (t next : TargetState) → Grows number stamp t next → next.past ≡ t.past → asks_further answer ≡ false → Handed number stamp answer t next
unchanged number stamp answer t next grows same ends = record { grows = grows; past = Still same ends }

-- nobody waits who didn't, where one takes in a source
first-other : (b : Bool) (made : List At) (bytes : List ℕ) (v : Waiting) (o : Option Waiting) → is_some (cond b (Some v) o) ≡ false → is_some (cond b (Some (accepting made bytes v)) o) ≡ false
first-other true made bytes v o h = absurd (false≢true (sym h))
first-other false made bytes v o h = h

taken-other : (owner taker : ℕ) (made : List At) (bytes : List ℕ) (ws : List Waiting) → is_waited owner ws ≡ false → is_waited owner (with_source taker made bytes ws) ≡ false
taken-other owner taker made bytes [] h = refl
taken-other owner taker made bytes (v ∷ ws) h = by_test (v.owner == taker) (taken-other owner taker made bytes ws)
  where
    by_test : (b : Bool) → (is_waited owner ws ≡ false → is_waited owner (with_source taker made bytes ws) ≡ false) →
        is_waited owner (cond b (accepting made bytes v ∷ ws) (v ∷ with_source taker made bytes ws)) ≡ false
    by_test true rest = first-other (v.owner == owner) made bytes v (waiting_of owner ws) h
    by_test false rest = found-other (v.owner == owner) v (waiting_of owner ws) (waiting_of owner (with_source taker made bytes ws)) h rest

ended-past : (number stamp : ℕ) (answer : Answer) (t next : TargetState) → (next.past ≡ t.past) ⊎ ((event : Event) × (next.past ≡ next_entry t stamp event ∷ t.past)) →
    asks_further answer ≡ false → Past number stamp answer t next
ended-past number stamp answer t next (inl kept) ends = Still kept ends
ended-past number stamp answer t next (inr more) ends = Made more.0 more.1 (plain-follows number (next_stamp t.past stamp) answer ends)

continued : (number stamp : ℕ) (t : TargetState) (owner : ℕ) (bytes : List ℕ) (made : List At) (answer : Answer) (next : TargetState) → owner ≡ number →
    HasContinued true t owner bytes made stamp answer next → Handed number stamp answer t next
continued number stamp t owner bytes made answer next same c = by c.continued
  where
    by : IsContinued true t owner c.waiting c.gathering bytes made stamp answer next → Handed number stamp answer t next
    by (AsksMore source asks says after) = record {
      grows = record {
        place = record { number = ap (λ (u : TargetState). u.number) after; targets = ap (λ (u : TargetState). u.targets) after; block = ap (λ (u : TargetState). u.block) after };
        past = inl (ap past_in after);
        later = λ later beyond none. ap (λ (u : TargetState). is_waiting u later) after ∙ taken-other later owner (c.waiting.made ++ made) bytes t.waiting none;
      };
      past = Asked (ap past_in after) (subst (Follows number (newest_stamp t.past stamp)) (sym says) (c.own ∙ same, refl));
    }
    by (Finishes done none acts says) =
        let order = done_order c.gathering (c.waiting.made ++ made) bytes stamp in
        let command = c.gathering.admitted.command in
        let place = acted-place true (no_longer t owner) order command done next acts in
        let ends : asks_further answer ≡ false = ap asks_further says ∙ named-ends (c.waiting.made ++ made) done (acted-ends true (no_longer t owner) order command done next acts) in
        let past : (next.past ≡ t.past) ⊎ ((event : Event) × (next.past ≡ next_entry t stamp event ∷ t.past)) =
        only-past order.owner stamp done (no_longer t owner) next (acted (no_longer t owner) order done next command acts) in
        record {
          grows = record {
            place = record { number = place.0.number; targets = place.0.targets; block = place.0.block };
            past = past;
            later = λ later beyond none. place.1 later (ended-other later owner t.waiting none);
          };
          past = ended-past number stamp answer t next past ends;
        }

pub resumed-grows : (number stamp : ℕ) (t : TargetState) (owner : ℕ) (peer : PeerBack) (seen : ℕ) (answer : Answer) (next : TargetState) → owner ≡ number →
    ((bytes : List ℕ) (made : List At) → peer ≡ back.Good bytes made → seen ≡ stamp) → IsResumed true t owner peer seen answer next → Handed number stamp answer t next
resumed-grows number stamp t owner peer seen answer next same at (Ended none told is) =
    unchanged number stamp answer t next (same-grows number stamp t next is) (ap past_in is) (ended-ends t owner answer told)
resumed-grows number stamp t owner peer seen answer next same at (Folded w bytes made is nothing good says after) =
    unchanged number stamp answer t next (over-grows number stamp t owner next after) (ap past_in after) (ap asks_further says)
resumed-grows number stamp t owner peer seen answer next same at (Refused w on is failed says after) =
    unchanged number stamp answer t next (over-grows number stamp t owner next after) (ap past_in after) (ap asks_further says)
resumed-grows number stamp t owner peer seen answer next same at (Continues bytes made on good c) =
    continued number stamp t owner bytes made answer next same (subst (λ (s : ℕ). HasContinued true t owner bytes made s answer next) (at bytes made good) c)
resumed-grows number stamp t owner peer seen answer next same at (LacksMemory bytes made on is good says kept) =
    unchanged number stamp answer t next (same-grows number stamp t next kept) (ap past_in kept) (ap asks_further says)

-- ---- what befalls a target

-- a target with one entry more, at its place, for which nobody more waits
pub one-grows : (number stamp : ℕ) (t next : TargetState) (event : Event) → next.number ≡ t.number → next.targets ≡ t.targets → next.block ≡ t.block →
    next.past ≡ next_entry t stamp event ∷ t.past → ((owner : ℕ) → is_waiting t owner ≡ false → is_waiting next owner ≡ false) → Grows number stamp t next
one-grows number stamp t next event at many size past waiting = record {
  place = record { number = at; targets = many; block = size };
  past = inr (event, past);
  later = λ owner beyond none. waiting owner none;
}
