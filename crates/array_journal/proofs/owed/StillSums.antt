-- What an entry leaves as it stands on a row: the data where the entry is beside the row, and the parity where it is at another
-- target.
use Rattle.std.specs.Prelude.{◌≡◌, ◌||◌, ◌<◌, ℕ, ◌+◌, Bool, true, false, List, ◌∷◌, Some}
use Rattle.std.proofs.Common.{ap, sym, ◌∙◌, subst, inl, inr}
use Rattle.std.proofs.lemmas.Bool.{cases_eq, both_ways, false≢true}
use Rattle.blocks_core.specs.Xor.{xor}
use Rattle.stripe_layout.specs.Layout.{parity_of, IsRowOf}
use Rattle.sbc_cdbs.specs.declared.descriptor.Cdb.{Cdb}
use Rattle.array_journal.specs.declared.at.At.{At}
use Rattle.array_journal.specs.declared.entry.Entry.{Entry}
use Rattle.array_journal.specs.declared.event.Event.{Event}
use Rattle.array_journal.specs.declared.event.Event.TheVariants.{Put, Diff}
use Rattle.array_journal.specs.declared.setting.Setting.{Setting}
use Rattle.array_journal.specs.declared.task.Task.{Task}
use Rattle.blocks_core.specs.Lists.{block_at}
use Rattle.array_journal.specs.Commands.{task_of}
use Rattle.array_journal.specs.declared.act.Act.TheVariants.{Puts, Diffs}
use Rattle.array_journal.specs.Acts.{is_act}
use Rattle.array_journal.specs.Media.{media, medium_after}
use Rattle.array_journal.specs.Host.{is_put_write}
use Rattle.array_journal.specs.Deltas.{puts_row}
use Rattle.array_journal.specs.Run.{IsSetting, Grows}
use Rattle.array_journal.proofs.runs.Steps.{media-here, media-else}
use Rattle.array_journal.proofs.sums.LayoutLaws.{IsBeside}
use Rattle.array_journal.proofs.reads.KnownBlocks.{stands, Tells, by_diff, by_put, by_parity, IsWrite}
use Rattle.array_journal.proofs.windows.WindowViews.{data_sum}
use Rattle.array_journal.proofs.windows.WindowReads.{owed_sum}
use Rattle.array_journal.proofs.reads.DataLaw.{not-beside}
use Rattle.array_journal.proofs.owed.OwedSteps.{moves_delta, outstanding-still}
use Rattle.array_journal.proofs.sums.RowSums.{sum-kept, write-task, put-only, diff-only, same-sum, tells-moves}

-- an event that writes no medium, tells no write and moves no delta
pub record IsStill (s : Setting) (r : ℕ) (event : Event) : Type 0 where
  pub medium : (old : List ℕ) → medium_after s event old ≡ old
  pub silent : (c : ℕ) → (is_act Diffs c event || is_act Puts c event) ≡ false
  pub deltas : moves_delta event ≡ false
  pub row : puts_row s r event ≡ false

pub still-data : (s : Setting) (e : Entry) (past : List Entry) (stripe r : ℕ) → IsSetting s → Grows s (e ∷ past) → IsRowOf s.geometry stripe r →
    ((c : ℕ) → (is_act Diffs c e.event || is_act Puts c e.event) ≡ false) → data_sum s (e ∷ past) stripe r ≡ data_sum s past stripe r
still-data s e past stripe r set g at silent =
    sum-kept s e past stripe r set g at (λ c task w same j h k. both_ways (is_act Diffs c e.event || is_act Puts c e.event) (silent c) (tells-moves task e.lock c e.event w.how))

still-parity : (s : Setting) (e : Entry) (past : List Entry) (p r : ℕ) → ((old : List ℕ) → medium_after s e.event old ≡ old) → stands s (e ∷ past) p r ≡ stands s past p r
still-parity s e past p r same = elim (cases_eq e.lock (p + 1)) [
  | inl here ↦ ap (λ (l : List ℕ). block_at s.geometry.block l r) (media-here s p e past here ∙ same (media s p past))
  | inr other ↦ ap (λ (l : List ℕ). block_at s.geometry.block l r) (media-else s p e past other)
]

pub still-sum : (s : Setting) (e : Entry) (past : List Entry) (stripe r : ℕ) (event : Event) → IsSetting s → Grows s (e ∷ past) → IsRowOf s.geometry stripe r → e.event ≡ event →
    IsStill s r event → xor (stands s past (parity_of s.geometry stripe) r) (data_sum s past stripe r) ≡ owed_sum s past stripe r →
    xor (stands s (e ∷ past) (parity_of s.geometry stripe) r) (data_sum s (e ∷ past) stripe r) ≡ owed_sum s (e ∷ past) stripe r
still-sum s e past stripe r event set g at q still old =
    same-sum s e past stripe r (still-parity s e past (parity_of s.geometry stripe) r (λ l. ap (λ (x : Event). medium_after s x l) q ∙ still.medium l))
    (still-data s e past stripe r set g at (λ c. ap (λ (x : Event). is_act Diffs c x || is_act Puts c x) q ∙ still.silent c))
    (outstanding-still s stripe r e past (ap moves_delta q ∙ still.deltas) (λ here. ap (puts_row s r) q ∙ still.row)) old

-- a put beside the row, or on a row of another stripe
pub put-data_kept : (s : Setting) (e : Entry) (past : List Entry) (stripe r command : ℕ) (opened : At) (cdb : Cdb) (row : ℕ) (bytes : List ℕ) (names : List At) (its : Task) →
    IsSetting s → Grows s (e ∷ past) → IsRowOf s.geometry stripe r → e.event ≡ Put command opened cdb row bytes names → task_of command past ≡ Some its →
    (stripe ≡ its.stripe → (j : ℕ) → j < its.count → r ≡ its.row + j → is_put_write its.kind ≡ true → ⊥) → data_sum s (e ∷ past) stripe r ≡ data_sum s past stripe r
put-data_kept s e past stripe r command opened cdb row bytes names its set g at q task apart =
    sum-kept s e past stripe r set g at (λ c u w same j h k. never c u w
    (write-task s past e.lock c command u its e.event w (λ d m. put-only d command opened cdb row bytes names e.event q m) task) same j h k)
  where
    put_kind : (u : Task) (lock c : ℕ) (event : Event) → event ≡ Put command opened cdb row bytes names → Tells u lock c event → is_put_write u.kind ≡ true
    put_kind u lock c event e_is (by_diff k l h) = absurd (false≢true (sym (ap (is_act Diffs c) e_is) ∙ h))
    put_kind u lock c event e_is (by_put k l h) = ap is_put_write k
    put_kind u lock c event e_is (by_parity k l h) = ap is_put_write k

    never : (c : ℕ) (u : Task) → IsWrite s past c u e.lock e.event → u ≡ its → stripe ≡ u.stripe → (j : ℕ) → j < u.count → r ≡ u.row + j → ⊥
    never c u w same_task same j h k =
        apart (same ∙ ap (λ (x : Task). x.stripe) same_task) j (subst (λ (x : Task). j < x.count) same_task h) (k ∙ ap (λ (x : Task). x.row + j) same_task)
        (subst (λ (x : Task). is_put_write x.kind ≡ true) same_task (put_kind u e.lock c e.event q w.how))

-- a diff beside the row
pub diff-data_kept : (s : Setting) (e : Entry) (past : List Entry) (stripe r command : ℕ) (opened : At) (cdb : Cdb) (row : ℕ) (bytes : List ℕ) (sent dropped back : Bool) (its : Task) →
    IsSetting s → Grows s (e ∷ past) → IsRowOf s.geometry stripe r → e.event ≡ Diff command opened cdb row bytes sent dropped back → task_of command past ≡ Some its →
    IsBeside its.row its.count r → data_sum s (e ∷ past) stripe r ≡ data_sum s past stripe r
diff-data_kept s e past stripe r command opened cdb row bytes sent dropped back its set g at q task beside =
    sum-kept s e past stripe r set g at (λ c u w same j h k. never c u
    (write-task s past e.lock c command u its e.event w (λ d m. diff-only d command opened cdb row bytes sent dropped back e.event q m) task) j h k)
  where
    never : (c : ℕ) (u : Task) → u ≡ its → (j : ℕ) → j < u.count → r ≡ u.row + j → ⊥
    never c u same j h k = not-beside its r j beside (subst (λ (x : Task). j < x.count) same h) (k ∙ ap (λ (x : Task). x.row + j) same)

-- the parity of entries elsewhere
pub parity-else : (s : Setting) (e : Entry) (past : List Entry) (p r : ℕ) → (e.lock ≡ p + 1 → ⊥) → stands s (e ∷ past) p r ≡ stands s past p r
parity-else s e past p r away = ap (λ (l : List ℕ). block_at s.geometry.block l r) (media-else s p e past away)
