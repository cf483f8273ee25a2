-- A calm journal lists no stripe, and has no loss that no call made.
use Rattle.std.specs.Prelude.{◌&&◌}
use Rattle.std.proofs.Common.{◌≡◌, ℕ, ◌==◌, Bool, true, false, List, [], ◌∷◌, refl, ap, ◌∙◌, cond, Option, None}
use Rattle.std.specs.List.{AllByRecursion, filter_map, cons_option}
use Rattle.stripe_layout.specs.Layout.{stripes_of}
use Rattle.array_journal.specs.declared.entry.Entry.{Entry}
use Rattle.array_journal.specs.declared.event.Event.{Event}
use Rattle.array_journal.specs.declared.event.Event.TheVariants.{Fetch, Diff, Take, Fold, Open, Close}
use Rattle.array_journal.specs.declared.setting.Setting.{Setting}
use Rattle.array_journal.specs.Calm.{IsCalmEvent, IsCalmEntry}
use Rattle.array_journal.specs.Commands.{task_of}
use Rattle.array_journal.specs.Lists.{numbers}
use Rattle.array_journal.specs.Listed.{dirty, dirty_stripe, listed_after, listed_for, renews_parity}
use Rattle.xor_cli.specs.Headline.{is_medium_loss, HasNoMediumLoss}

-- a choice of two that are one
chosen : (b : Bool) (x y : Option ℕ) → x ≡ None → y ≡ None → cond b x y ≡ None
chosen true x y p q = p
chosen false x y p q = q

listed_after-calm : (past : List Entry) (stripe c : ℕ) (e : Event) → IsCalmEvent c e → listed_after past stripe e None ≡ None
listed_after-calm past stripe c (Fetch command opened cdb row bytes) p = refl
listed_after-calm past stripe c (Diff command opened cdb row bytes sent dropped back) p = refl
listed_after-calm past stripe c (Take command opened cdb row bytes) p = refl
listed_after-calm past stripe c (Fold command opened cdb row bytes names) p = refl
listed_after-calm past stripe c (Open command task) p = refl
listed_after-calm past stripe c (Close command done names cause bytes) p =
    chosen (done && renews_parity stripe (task_of command past)) None None refl refl
listed_after-calm past stripe c _ p = absurd p

listed_for-calm : (stripe t c : ℕ) (past : List Entry) → AllByRecursion (IsCalmEntry t c) past → listed_for stripe past ≡ None
listed_for-calm stripe t c [] p = refl
listed_for-calm stripe t c (e ∷ past) p =
    let older : listed_for stripe past ≡ None = listed_for-calm stripe t c past p.1 in
    chosen (e.lock == 0) (listed_after past stripe e.event (listed_for stripe past)) (listed_for stripe past)
    (ap (listed_after past stripe e.event) older ∙ listed_after-calm past stripe c e.event p.0.event) older

none-dirty : (past : List Entry) (stripes : List ℕ) → ((stripe : ℕ) → listed_for stripe past ≡ None) →
    filter_map (λ stripe. dirty_stripe stripe (listed_for stripe past)) stripes ≡ []
none-dirty past [] h = refl
none-dirty past (stripe ∷ stripes) h =
    ap (λ (o : Option ℕ). cons_option (dirty_stripe stripe o) (filter_map (λ x. dirty_stripe x (listed_for x past)) stripes)) (h stripe)
    ∙ none-dirty past stripes h

pub dirty-calm : (s : Setting) (t c : ℕ) (past : List Entry) → AllByRecursion (IsCalmEntry t c) past → dirty s past ≡ []
dirty-calm s t c past p = none-dirty past (numbers 0 (stripes_of s.geometry)) (λ stripe. listed_for-calm stripe t c past p)

calm-no_loss : (c : ℕ) (e : Event) → IsCalmEvent c e → is_medium_loss e ≡ false
calm-no_loss c (Fetch command opened cdb row bytes) p = refl
calm-no_loss c (Diff command opened cdb row bytes sent dropped back) p = refl
calm-no_loss c (Take command opened cdb row bytes) p = refl
calm-no_loss c (Fold command opened cdb row bytes names) p = refl
calm-no_loss c (Open command task) p = refl
calm-no_loss c (Close command done names cause bytes) p = refl
calm-no_loss c _ p = absurd p

pub no_medium_loss-calm : (t c : ℕ) (past : List Entry) → AllByRecursion (IsCalmEntry t c) past → HasNoMediumLoss past
no_medium_loss-calm t c [] p = tt
no_medium_loss-calm t c (e ∷ past) p = (calm-no_loss c e.event p.0.event, no_medium_loss-calm t c past p.1)
