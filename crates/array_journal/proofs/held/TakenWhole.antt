-- A take hands out whole what its command holds.
use Rattle.std.specs.Prelude.{◌≡◌, ◌==◌, ◌&&◌, ◌≤◌, ℕ, ◌-◌, ◌*◌, true, List, [], ◌∷◌, length, take, drop, Some}
use Rattle.std.specs.List.{AllByRecursion}
use Rattle.std.proofs.Common.{ap, sym, ◌∙◌, arith, inl, inr}
use Rattle.std.proofs.lemmas.List.{take_all}
use Rattle.std.proofs.lemmas.Bool.{eqb-true, cases_Bool, and_parts, and_from, cond-true, cond-false}
use Rattle.sbc_cdbs.specs.declared.descriptor.Cdb.{Cdb}
use Rattle.array_journal.specs.declared.at.At.{At}
use Rattle.array_journal.specs.declared.entry.Entry.{Entry}
use Rattle.array_journal.specs.declared.event.Event.TheVariants.{Take}
use Rattle.array_journal.specs.declared.setting.Setting.{Setting}
use Rattle.array_journal.specs.declared.task.Task.{Task}
use Rattle.blocks_core.specs.Lists.{slice}
use Rattle.array_journal.specs.Commands.{task_of}
use Rattle.array_journal.specs.Acts.{task_bytes}
use Rattle.xor_buffers.specs.declared.held.HeldBlocks.{HeldBlocks}
use Rattle.xor_buffers.specs.Held.{holds_rows, rows_held}
use Rattle.array_journal.specs.Media.{held}
use Rattle.array_journal.specs.May.{MayTarget}
use Rattle.array_journal.specs.Run.{Grows}
use Rattle.array_journal.proofs.runs.CommandLaws.{named-task}
use Rattle.array_journal.proofs.held.HeldOfOpen.{IsHeld, AllHeld}
use Rattle.array_journal.proofs.held.Holding.{holding}

-- held blocks are just these rows
record IsWhole (row len : ℕ) (h : HeldBlocks) : Type 0 where
  pub from_row : h.row ≡ row
  pub size : length h.bytes ≡ len

-- held blocks of a command that are found, and what else holds of them
abbrev pub Found : (HeldBlocks → Type 0) → ℕ → List ℕ → Type 0
Found P c bytes = (h : HeldBlocks) × ((h.owner ≡ c) × ((bytes ≡ h.bytes) × P h))

some_bytes : (x y : List ℕ) → Some x ≡ Some y → x ≡ y
some_bytes x y e = cc

whole-slice : (block row len : ℕ) (h : HeldBlocks) → IsWhole row len h → slice h.bytes ((row - h.row) * block) len ≡ h.bytes
whole-slice block row len h w =
    ap (λ (n : ℕ). take len (drop n h.bytes)) gap ∙ take_all len h.bytes (let f : length h.bytes ≡ len = w.size in omega arith)
  where
    gap : (row - h.row) * block ≡ 0
    gap = ap (λ (n : ℕ). n * block) none ∙ omega arith
      where
        none : row - h.row ≡ 0
        none = let f : h.row ≡ row = w.from_row in omega arith

found-whole : (P : HeldBlocks → Type 0) (block c row len : ℕ) (bytes : List ℕ) (hs : List HeldBlocks) →
    AllByRecursion (λ (h : HeldBlocks). (h.owner ≡ c → IsWhole row len h) × P h) hs → rows_held block c row len hs ≡ Some bytes → Found P c bytes
found-whole P block c row len bytes [] p k = absurd cc
found-whole P block c row len bytes (h ∷ hs) p k = elim (cases_Bool ((h.owner == c) && holds_rows block row len h)) [
  | inl this ↦ found (and_parts (h.owner == c) (holds_rows block row len h) this)
  | inr other ↦ found-whole P block c row len bytes hs p.1
      (sym (cond-false ((h.owner == c) && holds_rows block row len h) (Some (slice h.bytes ((row - h.row) * block) len)) (rows_held block c row len hs) other) ∙ k)
]
  where
    found : ((h.owner == c) ≡ true) × (holds_rows block row len h ≡ true) → Found P c bytes
    found both = (h, (own, (sym read ∙ whole-slice block row len h (p.0.0 own), p.0.1)))
      where
        own : h.owner ≡ c
        own = eqb-true h.owner c both.0

        read : slice h.bytes ((row - h.row) * block) len ≡ bytes
        read = some_bytes (slice h.bytes ((row - h.row) * block) len) bytes
            (sym (cond-true ((h.owner == c) && holds_rows block row len h) (Some (slice h.bytes ((row - h.row) * block) len)) (rows_held block c row len hs)
            (and_from (h.owner == c) (holds_rows block row len h) both.0 both.1)) ∙ k)

-- what is taken is what some blocks are that the command holds
pub taken-whole : (P : HeldBlocks → Type 0) (s : Setting) (past : List Entry) (stamp i c : ℕ) (opened : At) (cdb : Cdb) (row : ℕ) (bytes : List ℕ) → 1 ≤ s.geometry.block →
    Grows s past → MayTarget s past stamp i (Take c opened cdb row bytes) → AllByRecursion P (held s i past) → Found P c bytes
taken-whole P s past stamp i c opened cdb row bytes b g m all =
    found-whole P s.geometry.block c row (length bytes) bytes (held s i past) (each (held s i past) (holding s i past b g).each all) m.1.taken
  where
    its : task_of c past ≡ Some m.0
    its = named-task s opened c m.0 past g m.1.act.in_book m.1.act.opening.0

    one : (x y : Task) → Some x ≡ Some y → x ≡ y
    one x y k = cc

    fits : (h : HeldBlocks) → IsHeld s i past h → h.owner ≡ c → IsWhole row (length bytes) h
    fits h p own = record {
      from_row = p.from_row ∙ ap (λ (t : Task). t.row) same ∙ sym m.1.act.at_row;
      size = p.whole ∙ ap (λ (t : Task). task_bytes s t) same ∙ sym m.1.act.whole;
    }
      where
        same : p.task ≡ m.0
        same = one p.task m.0 (sym (named-task s p.opened h.owner p.task past g p.in_book p.opening) ∙ ap (λ (n : ℕ). task_of n past) own ∙ its)

    each : (hs : List HeldBlocks) → AllHeld s i past hs → AllByRecursion P hs →
        AllByRecursion (λ (h : HeldBlocks). (h.owner ≡ c → IsWhole row (length bytes) h) × P h) hs
    each [] p d = tt
    each (h ∷ hs) p d = (((λ own. fits h p.0 own), d.0), each hs p.1 d.1)
