-- The constant journals that are asked for, and those that aren't.
use Rattle.std.proofs.Common.{◌≡◌, ◌==◌, ◌&&◌, ◌<◌, not, ℕ, zero, suc, Bool, true, false, List, [], ◌∷◌, Option, Some, refl, sym, ap, subst, ⊎_elim, arith, lit<}
use Rattle.std.specs.Prelude.{filter}
use Rattle.std.proofs.lemmas.Bool.{cases_eq, ne_eqb, false≢true}
use Rattle.array_journal.specs.declared.entry.Entry.{Entry}
use Rattle.array_journal.specs.declared.event.Event.{Event}
use Rattle.array_journal.specs.declared.event.Event.TheVariants.{Open}
use Rattle.array_journal.specs.declared.event.Why.TheVariants.{Medium, NotReady}
use Rattle.array_journal.specs.Host.{is_read}
use Rattle.array_journal.specs.Commands.{opens_command, ends_command}
use Rattle.array_journal.specs.Entries.{some_at}
use Rattle.array_journal.specs.Run.{NoneOpen}
use Rattle.array_journal.specs.Examples.{delta_wiped, rebuilt, gathered}
use Rattle.array_journal.specs.Readback.{folded_back}
use Rattle.array_journal.specs.ExampleJournals.{small, tiny, write_and_read, loss_meets_a_read}
use Rattle.host_scripts.specs.declared.script.Script.{Script}
use Rattle.stripe_check.specs.Asked.{calls_seen, is_of_host, goes_back}
use Rattle.host_requests.specs.Begins.{Begin, Opening, Refusal}
use Rattle.stripe_check.specs.AskedExamples.{script_of, write_then_read, read_and_lose, write_and_reset, hand_back_and_reset, lose_and_read, lose_and_rebuild, lose_two, refused_as, illegal_calls, illegal_refusals, WriteAndReadAsked, UnclosedUnasked, OtherBlockUnasked, OtherOrderUnasked, UnservedUnasked, GivenUpAsked, RefusedAsked, OtherReasonUnasked, RebuiltAsked, SpoiltAsked, HandedBackAsked, GatheredAsked, IllegalAsked, both_hosts, second_refused_first, EitherHostFirst, OutOfTurnUnasked, UnnotedUnasked, LossAllowed, StrangerUnasked}

-- what holds of the first host and the second holds of both
both : (P : ℕ → Type 0) → P 0 → P 1 → (host : ℕ) → host < 2 → P host
both P a b zero lt = a
both P a b (suc zero) lt = b
both P a b (suc (suc n)) lt = absurd (omega arith)

in_turn : (script : Script) (past : List Entry) →
    goes_back (filter (is_of_host script 0) (calls_seen past)) ≡ true → goes_back (filter (is_of_host script 1) (calls_seen past)) ≡ true →
    (host : ℕ) → host < 2 → goes_back (filter (is_of_host script host) (calls_seen past)) ≡ true
in_turn script past a b = both (λ host. goes_back (filter (is_of_host script host) (calls_seen past)) ≡ true) a b

-- the command that an event opens is ended
abbrev ends_what_opens : List Entry → Event → Bool
ends_what_opens whole (Open command task) = some_at 0 (ends_command command) whole
ends_what_opens whole _ = true

abbrev all_end : List Entry → List Entry → Bool
all_end whole [] = true
all_end whole (e ∷ past) = ends_what_opens whole e.event && all_end whole past

and_false : (b : Bool) → (b && false) ≡ false
and_false true = refl
and_false false = refl

left : (a b : Bool) → (a && b) ≡ true → a ≡ true
left true b h = refl
left false b h = h

right : (a b : Bool) → (a && b) ≡ true → b ≡ true
right true b h = h
right false b h = absurd cc

here : (whole : List Entry) (lock : Bool) (e : Event) (c : ℕ) → some_at 0 (ends_command c) whole ≡ false → ends_what_opens whole e ≡ true →
    (lock && opens_command c e) ≡ false
here whole lock (Open command task) c unended ends = ⊎_elim
    (λ (same : command ≡ c). let E : ℕ → Type 0 = λ n. some_at 0 (ends_command n) whole ≡ true in let ended : some_at 0 (ends_command c) whole ≡ true = subst E same ends in absurd cc)
    (λ (other : command ≡ c → ⊥). rw (ne_eqb command c other) (and_false lock)) (cases_eq command c)
here whole lock _ c unended ends = and_false lock

unopened : (whole past : List Entry) (c : ℕ) → some_at 0 (ends_command c) whole ≡ false → all_end whole past ≡ true →
    some_at 0 (opens_command c) past ≡ false
unopened whole [] c unended all = refl
unopened whole (e ∷ past) c unended all =
    rw (here whole (e.lock == 0) e.event c unended (left _ _ all), unopened whole past c unended (right (ends_what_opens whole e.event) _ all)) refl

none-by : (past : List Entry) (c : ℕ) (ended : Bool) → ended ≡ some_at 0 (ends_command c) past → all_end past past ≡ true →
    (some_at 0 (opens_command c) past && not ended) ≡ false
none-by past c true is all = and_false _
none-by past c false is all = rw (unopened past past c (sym is) all) refl

-- no command is open where all that are opened are ended
none_open : (past : List Entry) → all_end past past ≡ true → NoneOpen past
none_open past all c = none-by past c (some_at 0 (ends_command c) past) refl all

pub write_and_read-asked : WriteAndReadAsked
write_and_read-asked diff take fold fetch = record {
  in_turn = in_turn write_then_read (write_and_read diff take fold fetch) refl refl;
  served = (refl, (refl, tt));
  decided = (tt, (tt, (refl, (tt, (tt, (tt, (tt, (refl, tt))))))));
  owned = refl;
  closed = none_open (write_and_read diff take fold fetch) refl;
}

pub given_up-asked : GivenUpAsked
given_up-asked fetch other = record {
  in_turn = in_turn read_and_lose (loss_meets_a_read fetch other) refl refl;
  served = (refl, (refl, tt));
  decided = (tt, (tt, (tt, (refl, (tt, (tt, (tt, (refl, (tt, tt)))))))));
  owned = refl;
  closed = none_open (loss_meets_a_read fetch other) refl;
}

pub spoilt-asked : SpoiltAsked
spoilt-asked diff = record {
  in_turn = in_turn write_and_reset (delta_wiped diff) refl refl;
  served = (refl, (refl, tt));
  decided = (tt, (tt, (tt, (tt, (refl, tt)))));
  owned = refl;
  closed = none_open (delta_wiped diff) refl;
}

pub handed_back-asked : HandedBackAsked
handed_back-asked diff fold = record {
  in_turn = in_turn hand_back_and_reset (folded_back diff fold) refl refl;
  served = (refl, (refl, tt));
  decided = (tt, (tt, (tt, (tt, (refl, tt)))));
  owned = refl;
  closed = none_open (folded_back diff fold) refl;
}

pub gathered-asked : GatheredAsked
gathered-asked fetch hold take = record {
  in_turn = in_turn lose_and_read (gathered fetch hold take) refl refl;
  served = (refl, (refl, tt));
  decided = (tt, (tt, (tt, (tt, (refl, (tt, (tt, tt)))))));
  owned = refl;
  closed = none_open (gathered fetch hold take) refl;
}

pub rebuilt-asked : RebuiltAsked
rebuilt-asked fetch other put = record {
  in_turn = in_turn lose_and_rebuild (rebuilt fetch other put) refl refl;
  served = (refl, (refl, (refl, tt)));
  decided = (tt, (tt, (tt, (tt, (refl, (tt, (refl, (tt, (tt, tt)))))))));
  owned = refl;
  closed = none_open (rebuilt fetch other put) refl;
}

pub refused-asked : RefusedAsked
refused-asked = record {
  in_turn = in_turn (script_of tiny lose_two) (refused_as NotReady) refl refl;
  served = (refl, (refl, (refl, (refl, tt))));
  decided = (refl, (refl, (tt, (tt, (tt, (tt, tt))))));
  owned = refl;
  closed = none_open (refused_as NotReady) refl;
}

pub illegal-asked : IllegalAsked
illegal-asked = record {
  in_turn = in_turn (script_of small illegal_calls) illegal_refusals refl refl;
  served = (refl, (refl, (refl, (refl, (refl, (refl, tt))))));
  decided = (refl, (refl, (refl, (refl, (refl, tt)))));
  owned = refl;
  closed = none_open illegal_refusals refl;
}

pub either_host-first : EitherHostFirst
either_host-first = record {
  in_turn = in_turn both_hosts second_refused_first refl refl;
  served = (refl, (refl, tt));
  decided = (refl, (refl, tt));
  owned = refl;
  closed = none_open second_refused_first refl;
}

pub loss-allowed : LossAllowed
loss-allowed = record {
  in_turn = λ host lt. refl;
  served = tt;
  decided = (tt, tt);
  owned = refl;
  closed = λ c. refl;
}

-- ---- those that aren't

pub other_reason-unasked : OtherReasonUnasked
other_reason-unasked a = let other : Some (Refusal NotReady) ≡ Some (Refusal Medium) = a.decided.1.0 in cc

pub unclosed-unasked : UnclosedUnasked
unclosed-unasked diff take fold fetch a = false≢true a.served.1.0

pub unserved-unasked : UnservedUnasked
unserved-unasked diff take fold fetch a = false≢true a.served.1.1.0

-- the target of what is begun
target_begun : Option Begin → ℕ
target_begun (Some (Opening task)) = task.target
target_begun _ = 16

-- a read is begun
reads : Option Begin → Bool
reads (Some (Opening task)) = is_read task.kind
reads _ = false

pub other_block-unasked : OtherBlockUnasked
unfolding target_begun
other_block-unasked diff take fold fetch a = let other : ◌≡◌ {A = ℕ} 1 0 = ap target_begun a.decided.1.1.0 in cc

pub other_order-unasked : OtherOrderUnasked
unfolding reads
other_order-unasked diff take fold fetch a = false≢true (ap reads a.decided.1.1.0)

pub out_of_turn-unasked : OutOfTurnUnasked
out_of_turn-unasked a = false≢true (a.in_turn 0 (lit< tt))

pub unnoted-unasked : UnnotedUnasked
unnoted-unasked a = false≢true a.served.0

pub stranger-unasked : StrangerUnasked
stranger-unasked a = false≢true a.owned
