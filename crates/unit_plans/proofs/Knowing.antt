-- What a target finds over its own entries holds over each journal that has these at its lock.
use Rattle.std.specs.Prelude.{◌≡◌, ◌⊎◌, ◌==◌, ◌&&◌, ◌||◌, ◌<◌, ◌≤◌, ◌+◌, ◌*◌, not, nat_lt, ℕ, Bool, true, false, List, [], ◌∷◌, ◌++◌, length, map, reverse, Option, Some, None, is_some}
use Rattle.std.specs.List.{AllByRecursion}
use Rattle.std.proofs.Common.{refl, ap, sym, ◌∙◌, subst, cond, arith, inl, inr}
use Rattle.std.proofs.Math.Nat.{le-max_left, le-max_right}
use Rattle.std.proofs.lemmas.Bool.{lt-ltb, eq-eqb, ne_eqb, cond-true, cond-false}
use Rattle.std.proofs.lemmas.List.{reverse-append, reverse-reverse}
use Rattle.blocks_core.specs.Lists.{slice, put}
use Rattle.blocks_core.specs.Xor.{xor, zeros}
use Rattle.stripe_layout.specs.Layout.{rows_of}
use Rattle.xor_buffers.specs.declared.held.HeldBlocks.{HeldBlocks}
use Rattle.xor_buffers.specs.Held.{take_rows}
use Rattle.array_journal.specs.declared.at.At.{At}
use Rattle.array_journal.specs.declared.entry.Entry.{Entry}
use Rattle.array_journal.specs.declared.event.Event.{Event}
use Rattle.array_journal.specs.declared.event.Event.TheVariants.{Put, Diff, Take, Fold, Fresh}
use Rattle.array_journal.specs.declared.setting.Setting.{Setting}
use Rattle.array_journal.specs.Acts.{changes_medium}
use Rattle.array_journal.specs.Entries.{name_of, at_lt, some_at, stamps_below}
use Rattle.array_journal.specs.Laws.{lane}
use Rattle.array_journal.specs.Lives.{loss_of, life_of, is_fresh}
use Rattle.array_journal.specs.Media.{media, medium_after, held, held_after, drops}
use Rattle.array_journal.specs.Merge.{Rises}
use Rattle.array_journal.proofs.runs.BeginningLaws.{lt-cases}
use Rattle.array_journal.proofs.runs.JoinedParts.{reverse-all}
use Rattle.array_journal.proofs.runs.LaneLaws.{media-lane, held-lane, drops-lane, loss_of-lane, count_at-lane, some_at-lane}
use Rattle.array_journal.proofs.runs.WiderNames.{stamps_below-lane}
use Rattle.array_journal.proofs.windows.NamedReads.{rises-after, rise-tail}
use Rattle.xor_target.specs.Answers.{next_stamp}
use Rattle.xor_target.specs.Logs.{last_stamp}
use Rattle.xor_target.specs.State.{TargetState, target_setting}
use Rattle.xor_target.proofs.Recorded.{present-sound}
use Rattle.unit_plans.specs.Targets.{IsTargetOf}
use Rattle.unit_plans.specs.Findings.{TargetsKnowThemselves, NextIsLater, GrowthIsSeen}

-- settings that agree on the block and on the rows of a target give a target the same medium and the same held blocks
pub record Agree (a b : Setting) : Type 0 where
  pub block : a.geometry.block ≡ b.geometry.block
  pub rows : rows_of a.geometry ≡ rows_of b.geometry

same-after : (a b : Setting) (event : Event) (old : List ℕ) → Agree a b → medium_after a event old ≡ medium_after b event old
same-after a b (Put command opened cdb row bytes names) old g = ap (λ n. put old (row * n) bytes) g.block
same-after a b (Diff command opened cdb row bytes sent dropped back) old g = ap (λ n. put old (row * n) bytes) g.block
same-after a b (Fold command opened cdb row bytes names) old g = ap (λ n. put old (row * n) (xor (slice old (row * n) (length bytes)) bytes)) g.block
same-after a b (Fresh call swap) old g = ap (λ n. zeros (n * a.geometry.block)) g.rows ∙ ap (λ n. zeros (rows_of b.geometry * n)) g.block
same-after a b _ old g = refl

same-media : (a b : Setting) (i : ℕ) (past : List Entry) → Agree a b → media a i past ≡ media b i past
same-media a b i [] g = ap (λ n. zeros (n * a.geometry.block)) g.rows ∙ ap (λ n. zeros (rows_of b.geometry * n)) g.block
same-media a b i (e ∷ past) g = choose (e.lock == i + 1) (same-media a b i past g)
  where
    choose : (here : Bool) → media a i past ≡ media b i past →
        cond here (medium_after a e.event (media a i past)) (media a i past) ≡ cond here (medium_after b e.event (media b i past)) (media b i past)
    choose true old = same-after a b e.event (media a i past) g ∙ ap (medium_after b e.event) old
    choose false old = old

same-held_after : (a b : Setting) (medium : List ℕ) (event : Event) (old : List HeldBlocks) → Agree a b → held_after a medium event old ≡ held_after b medium event old
same-held_after a b medium (Diff command opened cdb row bytes sent dropped back) old g =
    ap (λ n. cond (sent || back) old (old ++ record { owner = command; row = row; bytes = xor (slice medium (row * n) (length bytes)) bytes } ∷ [])) g.block
same-held_after a b medium (Take command opened cdb row bytes) old g = ap (λ n. take_rows n row (length bytes) old) g.block
same-held_after a b medium _ old g = refl

same-held : (a b : Setting) (i : ℕ) (past : List Entry) → Agree a b → held a i past ≡ held b i past
same-held a b i [] g = refl
same-held a b i (e ∷ past) g = choose (e.lock == i + 1) (same-held a b i past g)
  where
    choose : (here : Bool) → held a i past ≡ held b i past →
        cond here (held_after a (media a i past) e.event (held a i past)) (held a i past) ≡ cond here (held_after b (media b i past) e.event (held b i past)) (held b i past)
    choose true old =
        same-held_after a b (media a i past) e.event (held a i past) g
        ∙ ap (λ (m : List ℕ). held_after b m e.event (held a i past)) (same-media a b i past g) ∙ ap (held_after b (media b i past) e.event) old
    choose false old = old

agrees : (s : Setting) (t : TargetState) → IsTargetOf s t → Agree s (target_setting t)
agrees s t of = record { block = sym of.block; rows = omega (arith, sym of.rows) }

-- a target that isn't gone has no loss
not-lost : (o : Option At) → is_some o ≡ false → o ≡ None
not-lost None h = refl
not-lost (Some at) h = absurd cc

pub targets-know : TargetsKnowThemselves
targets-know s t journal h = record {
  loss = loss_of-lane t.number journal ∙ ap (loss_of t.number) h.entries;
  life = count_at-lane (t.number + 1) is_fresh journal ∙ ap (life_of t.number) h.entries;
  drops = ap (nat_lt 0) (drops-lane t.number journal ∙ ap (drops t.number) h.entries);
  acted = λ c. some_at-lane (t.number + 1) (changes_medium c) journal ∙ ap (λ (p : List Entry). has_changed c p) h.entries;
  blocks = held-lane s t.number journal ∙ ap (held s t.number) h.entries ∙ same-held s (target_setting t) t.number t.past (agrees s t h.of_array)
      ∙ sym h.kept.recorded.held;
  medium = λ works. h.kept.tells
      ∙ ap Some (h.kept.recorded.media (present-sound t.number t.past (not-lost (loss_of t.number t.past) works))
      ∙ sym (media-lane s t.number journal ∙ ap (media s t.number) h.entries ∙ same-media s (target_setting t) t.number t.past (agrees s t h.of_array)));
}
  where
    has_changed : ℕ → List Entry → Bool
    has_changed c p = some_at (t.number + 1) (changes_medium c) p

-- the last of some entries whose names rise has the greatest stamp
last-greatest : (xs : List Entry) (e : Entry) → Rises (xs ++ e ∷ []) → AllByRecursion (λ (x : Entry). x.stamp ≤ e.stamp) xs
last-greatest [] e r = tt
last-greatest (x ∷ xs) e r = (
  by_name (name_of x) (name_of e) (lt-cases (name_of x) (name_of e) (of-last xs (rises-after (name_of x) (map name_of (xs ++ e ∷ [])) r))),
  last-greatest xs e (rise-tail (name_of x) (map name_of (xs ++ e ∷ [])) r),
)
  where
    by_name : (a b : At) → (a.stamp < b.stamp) ⊎ ((a.stamp ≡ b.stamp) × (a.lock < b.lock)) → a.stamp ≤ b.stamp
    by_name a b (inl less) = omega (arith, less)
    by_name a b (inr same) = omega (arith, same.0)

    of-last : (ys : List Entry) → AllByRecursion (λ (z : At). at_lt (name_of x) z ≡ true) (map name_of (ys ++ e ∷ [])) → at_lt (name_of x) (name_of e) ≡ true
    of-last [] h = h.0
    of-last (y ∷ ys) h = of-last ys h.1

all-below : (stamp below : ℕ) (xs : List Entry) → below < stamp → AllByRecursion (λ (x : Entry). x.stamp ≤ below) xs → AllByRecursion (λ (x : Entry). x.stamp < stamp) xs
all-below stamp below [] less h = tt
all-below stamp below (x ∷ xs) less h = (omega (arith, less, h.0), all-below stamp below xs less h.1)

-- no entry of a target has a greater stamp than the newest
at-most : (past : List Entry) (stamp : ℕ) → Rises (reverse past) → last_stamp past < stamp → AllByRecursion (λ (x : Entry). x.stamp < stamp) past
at-most [] stamp rises h = tt
at-most (e ∷ past) stamp rises h = (
  h,
  subst (AllByRecursion (λ (x : Entry). x.stamp < stamp)) (reverse-reverse past)
      (reverse-all (λ (x : Entry). x.stamp < stamp) (reverse past)
      (all-below stamp e.stamp (reverse past) h (last-greatest (reverse past) e (subst Rises (reverse-append (e ∷ []) past) rises)))),
)

below-all : (lock stamp : ℕ) (past : List Entry) → AllByRecursion (λ (x : Entry). x.stamp < stamp) past → stamps_below lock stamp past ≡ true
below-all lock stamp [] h = refl
below-all lock stamp (e ∷ past) h = both (e.lock == lock) (nat_lt e.stamp stamp) (stamps_below lock stamp past) (lt-ltb e.stamp stamp h.0) (below-all lock stamp past h.1)
  where
    both : (a b r : Bool) → b ≡ true → r ≡ true → ((not a || b) && r) ≡ true
    both true true true h k = refl
    both false true true h k = refl
    both a false r h k = absurd cc
    both a true false h k = absurd cc

pub next-later : NextIsLater
next-later s t seen journal h = (
  stamps_below-lane (t.number + 1) (next_stamp t.past seen) journal ∙ ap (stamps_below (t.number + 1) (next_stamp t.past seen)) h.entries
      ∙ below-all (t.number + 1) (next_stamp t.past seen) t.past
      (at-most t.past (next_stamp t.past seen) h.kept.rise (let least = le-max_left (last_stamp t.past) seen in omega (arith, least))),
  (let least = le-max_right (last_stamp t.past) seen in omega (arith, least)),
)

pub growth-seen : GrowthIsSeen
growth-seen s t after journal own g = (
  cond-true (g.entry.lock == t.number + 1) (g.entry ∷ lane (t.number + 1) journal) (lane (t.number + 1) journal) (eq-eqb g.entry.lock (t.number + 1) g.at_lock)
      ∙ ap (λ (l : List Entry). g.entry ∷ l) own ∙ sym g.grown,
  λ k other. cond-false (g.entry.lock == k) (g.entry ∷ lane k journal) (lane k journal) (ne_eqb g.entry.lock k (λ e. other (sym e ∙ g.at_lock))),
)
