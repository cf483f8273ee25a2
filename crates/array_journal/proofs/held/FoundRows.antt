-- What was held is found by its command's take.
use Rattle.std.specs.Prelude.{◌≡◌, ℕ, ◌*◌, Bool, true, false, List, [], ◌∷◌, length, Some}
use Rattle.std.proofs.Common.{ap, sym, ◌∙◌, cond}
use Rattle.sbc_cdbs.specs.declared.descriptor.Cdb.{Cdb}
use Rattle.array_journal.specs.declared.at.At.{At}
use Rattle.array_journal.specs.declared.entry.Entry.{Entry}
use Rattle.array_journal.specs.declared.event.Event.{Event}
use Rattle.array_journal.specs.declared.event.Event.TheVariants.{Diff}
use Rattle.array_journal.specs.declared.setting.Setting.{Setting}
use Rattle.array_journal.specs.Entries.{entry_at, same_at, name_of}
use Rattle.xor_buffers.specs.Held.{rows_held}
use Rattle.xor_buffers.proofs.HeldLists.{among-found}
use Rattle.array_journal.specs.Media.{media, held}
use Rattle.array_journal.specs.Deltas.{delta_at, delta_in, delta_of}
use Rattle.array_journal.specs.Served.{DeltaFoundLaw, GatheredFoundLaw}
use Rattle.array_journal.proofs.held.NewlyHeld.{delta-length}
use Rattle.array_journal.proofs.held.Holding.{holding}
use Rattle.array_journal.proofs.held.ExactlyHeld.{delta-exactly, gathered-exactly}

-- a delta is as long as what was written
delta-size : (s : Setting) (i c row : ℕ) (name opened : At) (cdb : Cdb) (bytes delta : List ℕ) (sent dropped back : Bool) (past : List Entry) →
    entry_at name past ≡ Some (Diff c opened cdb row bytes sent dropped back) → delta_at s i name past ≡ Some delta → length delta ≡ length bytes
delta-size s i c row name opened cdb bytes delta sent dropped back [] stands q = cc
delta-size s i c row name opened cdb bytes delta sent dropped back (e ∷ past) stands q =
    choose (same_at name (name_of e)) (delta-size s i c row name opened cdb bytes delta sent dropped back past) stands q
  where
    choose : (b : Bool) → (entry_at name past ≡ Some (Diff c opened cdb row bytes sent dropped back) → delta_at s i name past ≡ Some delta → length delta ≡ length bytes) →
        cond b (Some e.event) (entry_at name past) ≡ Some (Diff c opened cdb row bytes sent dropped back) →
        cond b (delta_in s i past e.event) (delta_at s i name past) ≡ Some delta → length delta ≡ length bytes
    choose true older k l =
        let its : e.event ≡ Diff c opened cdb row bytes sent dropped back = one e.event (Diff c opened cdb row bytes sent dropped back) k in
        let made : Some (delta_of s i past row bytes) ≡ Some delta = sym (ap (delta_in s i past) its) ∙ l in
        ap (λ (l : List ℕ). length l) (sym (same_list (delta_of s i past row bytes) delta made)) ∙ delta-length (media s i past) bytes (row * s.geometry.block)
      where
        one : (x y : Event) → Some x ≡ Some y → x ≡ y
        one x y p = cc

        same_list : (x y : List ℕ) → Some x ≡ Some y → x ≡ y
        same_list x y p = cc
    choose false older k l = older k l

pub delta-found : DeltaFoundLaw
delta-found s i c row name opened cdb bytes sent dropped back past set mode g at stands r =
    let e = delta-exactly s i c row name opened cdb bytes sent dropped back past set mode g at stands r in
    ap (λ (n : ℕ). rows_held s.geometry.block c row n (held s i past)) (sym (size e.0 e.1.0))
    ∙ among-found s.geometry.block (record { owner = c; row = row; bytes = e.0 }) (held s i past) (holding s i past set.array.least_block g).distinct e.1.1
    ∙ sym e.1.0
  where
    size : (delta : List ℕ) → delta_at s i name past ≡ Some delta → length delta ≡ length bytes
    size delta q = delta-size s i c row name opened cdb bytes delta sent dropped back past stands q

pub gathered-found : GatheredFoundLaw
gathered-found s i c row name opened cdb bytes names back past set g at stands r =
    among-found s.geometry.block (record { owner = c; row = row; bytes = bytes }) (held s i past) (holding s i past set.array.least_block g).distinct
    (gathered-exactly s i c row name opened cdb bytes names back past set g at stands r)
