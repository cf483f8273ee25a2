-- Each entry of a run is guarded, by the laws of one more entry.
use Rattle.std.specs.Prelude.{List, [], ◌∷◌, reverse}
use Rattle.array_journal.specs.declared.entry.Entry.{Entry}
use Rattle.array_journal.specs.declared.setting.Setting.{Setting}
use Rattle.array_journal.specs.Run.{Grows}
use Rattle.array_journal.specs.Guarded.{EachAfter, IsUndisturbing, IsOfOpenCommand, LeavesAbsent, IsOnPresent, GuardedLaw}
use Rattle.array_journal.proofs.runs.RunLaws.{undisturbed_law, no_act_after_end_law, one_end_law, absent_law, present_law}

each-after : (s : Setting) (P : Entry → List Entry → Type 0) (past : List Entry) → ((e : Entry) (older : List Entry) → Grows s (e ∷ older) → P e older) → Grows s past →
    EachAfter P past
each-after s P [] f g = tt
each-after s P (e ∷ past) f g = (f e past g, each-after s P past f g.1)

pub guarded_law : GuardedLaw
guarded_law s journal g = record {
  undisturbed = each-after s IsUndisturbing (reverse journal)
      (λ e past h c d task other act r q k differs. undisturbed_law s c d task other act e past h.1 r h.0.1 q k differs) g;
  ended = each-after s IsOfOpenCommand (reverse journal)
      (λ e past h. (λ c act q. no_act_after_end_law s c act e past h.1 h.0.1 q, λ c q. one_end_law s c e past h.1 h.0.1 q)) g;
  absent = each-after s LeavesAbsent (reverse journal) (λ e past h i stripe. absent_law s i stripe (e ∷ past) h) g;
  present = each-after s IsOnPresent (reverse journal)
      (λ e past h i c act task opened here q book stands missing. present_law s i c act task opened e past h.1 h.0.1 here q book stands missing) g;
}
