-- What is opened is what was wanted, and what stands in the way of a task doesn't hang on its bytes.
use Rattle.std.proofs.Common.{◌≡◌, ◌≤◌, ◌+◌, ℕ, Bool, true, false, List, [], ◌∷◌, Some, cond, refl, sym, ap, ◌∙◌, arith}
use Rattle.std.specs.List.{list_any, sum_by}
use Rattle.std.specs.Prelude.{◌==◌, nat_le, not, ◌&&◌, ◌||◌}
use Rattle.std.proofs.lemmas.Bool.{false≢true, le-leb}
use Rattle.std.proofs.lemmas.List.Sums.{sum_by-cons}
use Rattle.stripe_layout.specs.Layout.{parity_of}
use Rattle.array_journal.specs.declared.decision.Decision.{Decision}
use Rattle.array_journal.specs.declared.decision.Decision.TheVariants.{Opens, Refuses}
use Rattle.array_journal.specs.declared.decision.Want.{Want as Service}
use Rattle.array_journal.specs.declared.decision.Want.TheVariants as services
use Rattle.array_journal.specs.declared.entry.Entry.{Entry}
use Rattle.array_journal.specs.declared.event.Why.{Why}
use Rattle.array_journal.specs.declared.event.Why.TheVariants.{Medium, NotReady, Unfitted, Present, Listed, Second, Clean, Absent}
use Rattle.array_journal.specs.declared.setting.Setting.{Setting}
use Rattle.array_journal.specs.declared.task.Kind.{Kind}
use Rattle.array_journal.specs.declared.task.Kind.TheVariants as kinds
use Rattle.array_journal.specs.declared.task.Task.{Task}
use Rattle.array_journal.specs.Decision.{want_of, decision, missing_count, holds_at, holder_of, has_room, has_room_at, held_count}
use Rattle.array_journal.specs.Listed.{is_listed}
use Rattle.array_journal.specs.Lives.{is_missing, is_unfitted}
use Rattle.array_book.specs.OpenCommands.{open_tasks}
use Rattle.array_book.proofs.OpenLaws.{held_by, held-open}

-- a line of the table that opens nothing else is passed over
opens-else : (b : Bool) (why : Why) (d : Decision) (kind : Kind) → cond b (Refuses why) d ≡ Opens kind → d ≡ Opens kind
opens-else true why d kind e = absurd cc
opens-else false why d kind e = e

opens-one : (b : Bool) (k l kind : Kind) → cond b (Opens k) (Opens l) ≡ Opens kind → want_of k ≡ want_of l → want_of kind ≡ want_of l
opens-one true k l kind e w = let same : k ≡ kind = cc in ap want_of (sym same) ∙ w
opens-one false k l kind e w = let same : l ≡ kind = cc in ap want_of (sym same)

write-wanted : (a b : Bool) (kind : Kind) → cond a (Opens kinds.DegradedWrite) (cond b (Opens kinds.DataOnly) (Opens kinds.Update)) ≡ Opens kind → want_of kind ≡ services.Write
write-wanted true b kind e = let same : kinds.DegradedWrite ≡ kind = cc in ap want_of (sym same)
write-wanted false b kind e = opens-one b kinds.DataOnly kinds.Update kind e refl

abbrev written : ℕ → ℕ → List Entry → Setting → Decision
written stripe i past s =
    cond (is_missing i stripe past) (Opens kinds.DegradedWrite) (cond (is_missing (parity_of s.geometry stripe) stripe past) (Opens kinds.DataOnly) (Opens kinds.Update))

rebuild-wanted : (a b c d : Bool) (kind : Kind) →
    cond a (Refuses Unfitted) (cond b (Refuses Present) (cond c (Refuses Listed) (cond d (Refuses Second) (Opens kinds.Rebuild)))) ≡ Opens kind → want_of kind ≡ services.Rebuild
rebuild-wanted true b c d kind e = absurd cc
rebuild-wanted false true c d kind e = absurd cc
rebuild-wanted false false true d kind e = absurd cc
rebuild-wanted false false false true kind e = absurd cc
rebuild-wanted false false false false kind e = let same : kinds.Rebuild ≡ kind = cc in ap want_of (sym same)

resync-wanted : (a b : Bool) (kind : Kind) → cond a (Refuses Clean) (cond b (Refuses Absent) (Opens kinds.Resync)) ≡ Opens kind → want_of kind ≡ services.Resync
resync-wanted true b kind e = absurd cc
resync-wanted false true kind e = absurd cc
resync-wanted false false kind e = let same : kinds.Resync ≡ kind = cc in ap want_of (sym same)

-- the kind that is opened serves what was wanted
pub opens-wanted : (s : Setting) (want : Service) (stripe i : ℕ) (past : List Entry) (kind : Kind) → decision s want stripe i past ≡ Opens kind → want_of kind ≡ want
opens-wanted s services.Read stripe i past kind e =
    opens-one (not (is_missing i stripe past)) kinds.Read kinds.DegradedRead kind
    (opens-else (nat_le 2 (missing_count s stripe past)) NotReady (cond (not (is_missing i stripe past)) (Opens kinds.Read) (Opens kinds.DegradedRead)) kind
    (opens-else (is_missing i stripe past && is_listed stripe past) Medium
    (cond (nat_le 2 (missing_count s stripe past)) (Refuses NotReady) (cond (not (is_missing i stripe past)) (Opens kinds.Read) (Opens kinds.DegradedRead))) kind e)) refl
opens-wanted s services.Write stripe i past kind e =
    write-wanted (is_missing i stripe past) (is_missing (parity_of s.geometry stripe) stripe past) kind
    (opens-else (nat_le 2 (missing_count s stripe past)) NotReady (written stripe i past s) kind
    (opens-else (is_missing i stripe past && is_listed stripe past) Medium (cond (nat_le 2 (missing_count s stripe past)) (Refuses NotReady) (written stripe i past s)) kind e))
opens-wanted s services.Rebuild stripe i past kind e =
    rebuild-wanted (is_unfitted i past) (not (is_missing i stripe past)) (is_listed stripe past && not (i == parity_of s.geometry stripe)) (nat_le 2 (missing_count s stripe past)) kind e
opens-wanted s services.Resync stripe i past kind e = resync-wanted (not (is_listed stripe past)) (nat_le 1 (missing_count s stripe past)) kind e

-- two tasks hold blocks at one target, if they are at one target
pub holder-alike : (s : Setting) (kind : Kind) (a b : Task) → a.target ≡ b.target → holder_of s kind a ≡ holder_of s kind b
holder-alike s kinds.Update a b e = ap (λ (i : ℕ). holder_of s kinds.Update (record a { target = i })) e
holder-alike s kinds.DegradedRead a b e = ap (λ (i : ℕ). holder_of s kinds.DegradedRead (record a { target = i })) e
holder-alike s kinds.Read a b e = refl
holder-alike s kinds.DataOnly a b e = refl
holder-alike s kinds.DegradedWrite a b e = refl
holder-alike s kinds.Rebuild a b e = refl
holder-alike s kinds.Resync a b e = refl

none-held : (s : Setting) (i : ℕ) (tasks : List Task) → list_any (holds_at s i) tasks ≡ false → sum_by (held_by s i) tasks ≡ 0
none-held s i [] h = refl
none-held s i (task ∷ tasks) h = by_test (holds_at s i task) refl h (none-held s i tasks)
  where
    by_test : (b : Bool) → holds_at s i task ≡ b → (b || list_any (holds_at s i) tasks) ≡ false →
        (list_any (holds_at s i) tasks ≡ false → sum_by (held_by s i) tasks ≡ 0) → sum_by (held_by s i) (task ∷ tasks) ≡ 0
    by_test true is q others = absurd (false≢true (sym q))
    by_test false is q others =
        let here : held_by s i task ≡ 0 = ap (λ (b : Bool). cond b task.count 0) is in
        let rest : sum_by (held_by s i) tasks ≡ 0 = others q in
        let both : sum_by (held_by s i) (task ∷ tasks) ≡ held_by s i task + sum_by (held_by s i) tasks = sum_by-cons (held_by s i) task tasks in
        omega (arith, here, rest, both)

-- a buffer that lacks room for no more than it has holds blocks of some open command
pub room-lacks : (s : Setting) (task : Task) (past : List Entry) (i : ℕ) → task.count ≤ s.buffer → holder_of s task.kind task ≡ Some i → has_room s task past ≡ false →
    list_any (holds_at s i) (open_tasks past) ≡ false → ⊥
room-lacks s task past i small at full any =
    let zero_held : held_count s past i past ≡ 0 = held-open s past i ∙ none-held s i (open_tasks past) any in
    let fits : held_count s past i past + task.count ≤ s.buffer = omega (arith, zero_held, small) in
    false≢true (sym full ∙ ap (has_room_at s task past) at ∙ le-leb (held_count s past i past + task.count) s.buffer fits)
