-- The lines of the table of decisions, over facts that are those of some entries.
use Rattle.std.proofs.Common.{◌≡◌, ℕ, List, cond, subst}
use Rattle.std.specs.Prelude.{not, nat_le, ◌&&◌}
use Rattle.array_journal.specs.declared.entry.Entry.{Entry}
use Rattle.array_journal.specs.declared.event.Why.TheVariants.{Medium, NotReady, Unfitted, Present, Listed, Second, Clean, Absent}
use Rattle.array_journal.specs.declared.setting.Setting.{Setting}
use Rattle.array_journal.specs.declared.task.Kind.TheVariants as kinds
use Rattle.array_journal.specs.declared.decision.Want.TheVariants.{Read as WantsRead, Write as WantsWrite, Rebuild as WantsRebuild, Resync as WantsResync}
use Rattle.array_journal.specs.declared.decision.Decision.{Decision}
use Rattle.array_journal.specs.declared.decision.Decision.TheVariants.{Opens, Refuses}
use Rattle.array_journal.specs.Decision.{decision}
use Rattle.array_book.specs.declared.decision.Facts.{Facts}
use Rattle.array_book.specs.Decisions.{facts_of}

module _ (s : Setting) (stripe i : ℕ) (past : List Entry) (f : Facts) (same : f ≡ facts_of s stripe i past) where
  pub read-decided : (d : Decision) →
      d ≡ cond (f.missing && f.listed) (Refuses Medium) (cond (nat_le 2 f.missing_count) (Refuses NotReady) (cond (not f.missing) (Opens kinds.Read) (Opens kinds.DegradedRead))) →
      d ≡ decision s WantsRead stripe i past
  read-decided d h = subst (λ (g : Facts). d ≡ cond (g.missing && g.listed) (Refuses Medium) (cond (nat_le 2 g.missing_count) (Refuses NotReady) (cond (not g.missing) (Opens kinds.Read) (Opens kinds.DegradedRead)))) same h

  pub write-decided : (d : Decision) →
      d ≡ cond (f.missing && f.listed) (Refuses Medium) (cond (nat_le 2 f.missing_count) (Refuses NotReady) (cond f.missing (Opens kinds.DegradedWrite) (cond f.parity_missing (Opens kinds.DataOnly) (Opens kinds.Update)))) →
      d ≡ decision s WantsWrite stripe i past
  write-decided d h = subst (λ (g : Facts). d ≡ cond (g.missing && g.listed) (Refuses Medium) (cond (nat_le 2 g.missing_count) (Refuses NotReady) (cond g.missing (Opens kinds.DegradedWrite) (cond g.parity_missing (Opens kinds.DataOnly) (Opens kinds.Update))))) same h

  pub rebuild-decided : (d : Decision) →
      d ≡ cond f.unfitted (Refuses Unfitted) (cond (not f.missing) (Refuses Present) (cond (f.listed && not f.at_parity) (Refuses Listed) (cond (nat_le 2 f.missing_count) (Refuses Second) (Opens kinds.Rebuild)))) →
      d ≡ decision s WantsRebuild stripe i past
  rebuild-decided d h = subst (λ (g : Facts). d ≡ cond g.unfitted (Refuses Unfitted) (cond (not g.missing) (Refuses Present) (cond (g.listed && not g.at_parity) (Refuses Listed) (cond (nat_le 2 g.missing_count) (Refuses Second) (Opens kinds.Rebuild))))) same h

  pub resync-decided : (d : Decision) →
      d ≡ cond (not f.listed) (Refuses Clean) (cond (nat_le 1 f.missing_count) (Refuses Absent) (Opens kinds.Resync)) →
      d ≡ decision s WantsResync stripe i past
  resync-decided d h = subst (λ (g : Facts). d ≡ cond (not g.listed) (Refuses Clean) (cond (nat_le 1 g.missing_count) (Refuses Absent) (Opens kinds.Resync))) same h
