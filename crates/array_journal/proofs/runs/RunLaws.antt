-- The laws of every run, each from the lemmas on its subject.
use Rattle.std.specs.Prelude.{◌≡◌, ◌≤◌, ℕ, zero, suc, ◌+◌, Bool, true, false, List}
use Rattle.std.proofs.Common.{refl, sym, cond, arith, subst, inl, inr}
use Rattle.std.proofs.lemmas.Bool.{cases_Bool, both_ways, false≢true}
use Rattle.array_journal.specs.declared.at.At.{At}
use Rattle.array_journal.specs.declared.entry.Entry.{Entry}
use Rattle.array_journal.specs.declared.event.Event.{Event}
use Rattle.array_journal.specs.declared.event.Event.TheVariants.{Fetch, Put, Diff, Take, Fold, Hold, Fresh, Close, Spoil}
use Rattle.array_journal.specs.declared.setting.Setting.{Setting}
use Rattle.array_journal.specs.Commands.{ends_command, is_open}
use Rattle.array_journal.specs.declared.act.Act.{Act}
use Rattle.array_journal.specs.declared.act.Act.TheVariants.{Fetches, Puts, Diffs, Takes, Folds, Holds}
use Rattle.array_journal.specs.Acts.{is_act}
use Rattle.array_journal.specs.Lives.{is_fresh, is_gone, is_missing, is_absent, is_unfitted, swap_count}
use Rattle.array_journal.specs.May.{MayAt, MayTarget, MayBook}
use Rattle.array_journal.specs.Run.{Grows}
use Rattle.array_journal.specs.Laws.{note_count, unfitted_count, entries_before, LivesLaw, FreshLaw, MendedLaw, UnfittedLaw, AloneLaw, UndisturbedLaw, NoActAfterEndLaw, OneEndLaw, AbsentLaw, PresentLaw, OwnersLaw, HeldApartLaw, DeltaHeldLaw, BeginningsLaw, ByNamesLaw, TargetLaneLaw, BookLaneLaw, NamedLaneLaw}
use Rattle.array_journal.proofs.runs.Standing.{may-here}
use Rattle.array_journal.proofs.runs.CommandLaws.{ends-open, opened-one}
use Rattle.array_journal.proofs.lives.LifeLaws.{notes-swaps, fresh-le_swaps, unfitted-gone, swapped-gone, fresh-gone}
use Rattle.array_journal.proofs.held.HeldOwners.{ActAt, acts, act-asks, act-works, gone-holds_nothing}
use Rattle.array_journal.proofs.owed.EndedCommands.{act-open}
use Rattle.array_journal.proofs.windows.WindowLaws.{exclusive-alone}
use Rattle.array_journal.proofs.lives.AbsentLaws.{absent-exactly, act-present}
use Rattle.array_journal.proofs.held.Holding.{owners-open}
use Rattle.array_journal.proofs.held.NoRowTwice.{held-apart}
use Rattle.array_journal.proofs.held.HeldUntil.{delta-held}
use Rattle.array_journal.proofs.runs.BeginningLaws.{beginning-run, grows-rises, grows-follows, follows-grows}
use Rattle.array_journal.proofs.lives.MendedLaws.{fresh-mended}
use Rattle.array_journal.proofs.runs.LaneLaws.{own-lane, book-lane, entry_at-lane}

one_at_most : (b : Bool) → cond b 1 0 ≤ 1
one_at_most true = omega arith
one_at_most false = omega arith

pub lives_law : LivesLaw
lives_law s i past g =
    let n : note_count i past ≡ swap_count i past + unfitted_count i past = notes-swaps s i past g in
    let u : unfitted_count i past ≤ 1 = one_at_most (is_unfitted i past) in
    record {
      fresh_swapped = fresh-le_swaps s i past g;
      swaps_noted = omega arith;
      notes_next = omega arith;
      noted_gone = unfitted-gone s i past g;
      swapped_gone = swapped-gone s i past g;
      gone_empty = gone-holds_nothing s i past g;
    }

fresh_law-event : (s : Setting) (past : List Entry) (stamp i : ℕ) (event : Event) → Grows s past → MayTarget s past stamp i event → is_fresh event ≡ true →
    is_gone i past ≡ true
fresh_law-event s past stamp i (Fresh call swap) g m h = fresh-gone s past stamp i call swap g m
fresh_law-event s past stamp i _ g m h = absurd (false≢true h)

pub fresh_law : FreshLaw
fresh_law s i e past g m here h = fresh_law-event s past e.stamp i e.event g (may-here s past e.stamp e.lock i e.event here m.1) h

pub mended_law : MendedLaw
mended_law = fresh-mended

pub unfitted_law : UnfittedLaw
unfitted_law s i c act e past g m here h = elim (cases_Bool (is_unfitted i past)) [
  | inl unfitted ↦ absurd (both_ways (is_gone i past)
      (act-works s past e.stamp i c act (act-asks s past e.stamp i c act e.event (may-here s past e.stamp e.lock i e.event here m.1) h)) (unfitted-gone s i past g unfitted))
  | inr fitted ↦ fitted
]

-- acts are made at targets, ends in the book
no_act : (s : Setting) (past : List Entry) (stamp c : ℕ) (act : Act) (event : Event) → MayBook s past stamp event → is_act act c event ≡ true → ⊥
no_act s past stamp c Fetches (Fetch command opened cdb row bytes) m h = m
no_act s past stamp c Puts (Put command opened cdb row bytes names) m h = m
no_act s past stamp c Diffs (Diff command opened cdb row bytes sent dropped back) m h = m
no_act s past stamp c Takes (Take command opened cdb row bytes) m h = m
no_act s past stamp c Folds (Fold command opened cdb row bytes names) m h = m
no_act s past stamp c Holds (Hold command opened cdb row bytes kept names back) m h = m
no_act s past stamp c Fetches _ m h = false≢true h
no_act s past stamp c Puts _ m h = false≢true h
no_act s past stamp c Diffs _ m h = false≢true h
no_act s past stamp c Takes _ m h = false≢true h
no_act s past stamp c Folds _ m h = false≢true h
no_act s past stamp c Holds _ m h = false≢true h

act_law : (s : Setting) (past : List Entry) (stamp lock c : ℕ) (act : Act) (event : Event) → Grows s past → MayAt s past stamp lock event → is_act act c event ≡ true →
    is_open c past ≡ true
act_law s past stamp zero c act event g m h = absurd (no_act s past stamp c act event m h)
act_law s past stamp (suc i) c act event g m h = act-open s past stamp i c act event g m.1 h

pub no_act_after_end_law : NoActAfterEndLaw
no_act_after_end_law s c act e past g m h = act_law s past e.stamp e.lock c act e.event g m.1 h

no_end : (s : Setting) (past : List Entry) (stamp i c : ℕ) (event : Event) → MayTarget s past stamp i event → ends_command c event ≡ true → ⊥
no_end s past stamp i c (Close command done names cause bytes) m h = m
no_end s past stamp i c (Spoil command diff loss shut) m h = m
no_end s past stamp i c _ m h = false≢true h

end_law : (s : Setting) (past : List Entry) (stamp lock c : ℕ) (event : Event) → MayAt s past stamp lock event → ends_command c event ≡ true → lock ≡ 0
end_law s past stamp zero c event m h = refl
end_law s past stamp (suc i) c event m h = absurd (no_end s past stamp i c event m.1 h)

pub one_end_law : OneEndLaw
one_end_law s c e past g m h = ends-open s c e past m (end_law s past e.stamp e.lock c e.event m.1 h) h

pub alone_law : AloneLaw
alone_law s c d task other past g r open_other q differs = exclusive-alone s c d task other past g r.opened r.its_task r.alone open_other q differs

pub undisturbed_law : UndisturbedLaw
undisturbed_law s c d task other act e past g r m h q differs =
    exclusive-alone s c d task other past g r.opened r.its_task r.alone (no_act_after_end_law s d act e past g m h) q differs

pub absent_law : AbsentLaw
absent_law s i stripe past g = absent-exactly s i stripe past g

pub present_law : PresentLaw
present_law s i c act task opened e past g m here h book stands missing =
    same_opening (act-asks s past e.stamp i c act e.event (may-here s past e.stamp e.lock i e.event here m.1) h)
  where
    same_opening : ActAt s past e.stamp i c act → is_absent i task.stripe past ≡ false
    same_opening (acts name its_task sources row len cdb a) =
        let same : name ≡ opened = opened-one s name opened c its_task task past g a.in_book book a.opening.0 stands in
        act-present s past e.stamp i task.stripe c name cdb row len sources its_task act g a
        (subst (λ (n : At). is_missing i task.stripe (entries_before n past) ≡ false) (sym same) missing)

pub owners_law : OwnersLaw
owners_law s i past setting g = owners-open s i past setting.array.least_block g

pub held_apart_law : HeldApartLaw
held_apart_law s i past setting g = held-apart s i past setting.array.least_block g

pub delta_held_law : DeltaHeldLaw
delta_held_law s i c past setting mode g h = delta-held s i c past setting.array.least_block mode g h

pub beginnings_law : BeginningsLaw
beginnings_law = beginning-run

pub by_names_law : ByNamesLaw
by_names_law s past = (λ g. (grows-rises s past g, grows-follows s past g), λ p. follows-grows s past p.0 p.1)

pub target_lane_law : TargetLaneLaw
target_lane_law = own-lane

pub book_lane_law : BookLaneLaw
book_lane_law = book-lane

pub named_lane_law : NamedLaneLaw
named_lane_law = entry_at-lane
