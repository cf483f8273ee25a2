-- What a journal doesn't say in which nothing befell a target.
use Rattle.std.specs.Prelude.{◌≡◌, ◌==◌, ◌&&◌, ◌||◌, ◌+◌, ℕ, Bool, true, false, List, [], ◌∷◌, None, is_some}
use Rattle.std.proofs.Common.{refl, ap, sym, ◌∙◌, cond}
use Rattle.stripe_layout.specs.declared.mode.Mode.{Mode}
use Rattle.sbc_cdbs.specs.declared.descriptor.Cdb.{Cdb}
use Rattle.array_journal.specs.declared.act.Act.{Act as Kind}
use Rattle.array_journal.specs.declared.act.Act.TheVariants.{Fetches, Puts, Diffs, Takes, Folds, Holds}
use Rattle.array_journal.specs.declared.entry.Entry.{Entry}
use Rattle.array_journal.specs.declared.event.Event.{Event}
use Rattle.array_journal.specs.declared.event.Event.TheVariants.{Gone, Wiped, Fresh}
use Rattle.array_journal.specs.Entries.{name_of, some_at}
use Rattle.array_journal.specs.Acts.{is_act, shuts_command}
use Rattle.array_journal.specs.Laws.{lane, releases}
use Rattle.array_journal.specs.Lives.{loss_of, loss_after, is_gone}
use Rattle.array_journal.specs.May.{discards}
use Rattle.array_journal.proofs.runs.LaneLaws.{loss_of-lane}
use Rattle.xor_target.specs.declared.order.Order.{Order}
use Rattle.unit_plans.specs.Follows.{IsUndisturbed, befalls}
use Rattle.unit_plans.specs.ServedOrders.{act_event}

-- no disk is gone
no-loss : (i : ℕ) (journal : List Entry) → IsUndisturbed journal → loss_of i journal ≡ None
no-loss i [] h = refl
no-loss i (e ∷ journal) h = by e.event h.0 (e.lock == i + 1) (no-loss i journal h.1)
  where
    by : (event : Event) → befalls event ≡ false → (b : Bool) → loss_of i journal ≡ None → cond b (loss_after (name_of e) event (loss_of i journal)) (loss_of i journal) ≡ None
    by event quiet false older = older
    by (Gone life call commands) quiet true older = cc
    by (Fresh call swap) quiet true older = cc
    by _ quiet true older = older

pub none-gone : (i : ℕ) (past journal : List Entry) → lane (i + 1) journal ≡ past → IsUndisturbed journal → is_gone i past ≡ false
none-gone i past journal own h = ap is_some (ap (loss_of i) (sym own) ∙ sym (loss_of-lane i journal) ∙ no-loss i journal h)

-- nothing was discarded
discards-none : (c : ℕ) (event : Event) → befalls event ≡ false → discards c event ≡ false
discards-none c (Gone life call commands) h = cc
discards-none c (Wiped what call commands) h = cc
discards-none c _ h = refl

-- so what is neither taken nor shut isn't released
pub none-releases : (c lock : ℕ) (journal : List Entry) → IsUndisturbed journal → some_at lock (is_act Takes c) journal ≡ false → some_at lock (shuts_command c) journal ≡ false →
    some_at lock (releases c) journal ≡ false
none-releases c lock [] h taken shut = refl
none-releases c lock (e ∷ journal) h taken shut =
    let t = ors (((e.lock == lock) && is_act Takes c e.event)) (some_at lock (is_act Takes c) journal) taken in
    let s = ors (((e.lock == lock) && shuts_command c e.event)) (some_at lock (shuts_command c) journal) shut in
    both (e.lock == lock) (is_act Takes c e.event) (shuts_command c e.event) (discards c e.event) (some_at lock (releases c) journal) t.0 s.0 (discards-none c e.event h.0)
    (none-releases c lock journal h.1 t.1 s.1)
  where
    ors : (a b : Bool) → (a || b) ≡ false → (a ≡ false) × (b ≡ false)
    ors true b h = cc
    ors false b h = (refl, h)

    both : (here t s d rest : Bool) → (here && t) ≡ false → (here && s) ≡ false → d ≡ false → rest ≡ false → ((here && (t || s || d)) || rest) ≡ false
    both true true s d rest ht hs hd hr = cc
    both true false true d rest ht hs hd hr = cc
    both true false false d rest ht hs hd hr = ap (λ x. x || rest) hd ∙ hr
    both false t s d rest ht hs hd hr = hr

-- an act befalls nothing
pub acts-befall_none : (mode : Mode) (act : Kind) (order : Order) (cdb : Cdb) (row : ℕ) (bytes : List ℕ) → befalls (act_event mode act order cdb row bytes) ≡ false
acts-befall_none mode Fetches order cdb row bytes = refl
acts-befall_none mode Puts order cdb row bytes = refl
acts-befall_none mode Diffs order cdb row bytes = refl
acts-befall_none mode Takes order cdb row bytes = refl
acts-befall_none mode Folds order cdb row bytes = refl
acts-befall_none mode Holds order cdb row bytes = refl
