-- What is true of every book, kept over each entry that it makes.
use Rattle.std.proofs.Common.{◌≡◌, ◌<◌, ℕ, Bool, true, false, not, ◌&&◌, List, ◌∷◌, Option, Some, None, refl, sym, ap, ◌∙◌, cond, subst}
use Rattle.std.specs.Prelude.{Result, Ok, Err, OnOk, OnErr}
use Rattle.array_journal.specs.declared.entry.Entry.{Entry}
use Rattle.array_journal.specs.declared.event.Event.{Event}
use Rattle.array_journal.specs.declared.event.Event.TheVariants.{Open, Close, Spoil}
use Rattle.array_journal.specs.declared.setting.Setting.{Setting}
use Rattle.array_journal.specs.declared.task.Task.{Task}
use Rattle.array_journal.specs.Commands.{is_open, open_count, task_of}
use Rattle.array_journal.specs.Decision.{holds_at}
use Rattle.array_journal.specs.May.{IsTask}
use Rattle.array_book.specs.declared.open_index.OpenIndex.{OpenIndex}
use Rattle.array_book.specs.CommandSteps.{step_by, Neither, IsEnd}
use Rattle.array_book.specs.Kept.{IsKept}
use Rattle.array_book.specs.Ledgers.{book_entry, newest_stamp, IsNumbered, AreNumbered, IsSoundOpening}
use Rattle.array_book.specs.OpenCommands.{has_ended}
use Rattle.array_book.specs.OpenIndexes.{is_in, AddsCommand, RemovesCommand, open_task}
use Rattle.array_book.specs.OpenTasks.{passes_task}
use Rattle.array_book.proofs.Beginnings.{new-number}
use Rattle.array_book.proofs.IndexSteps.{quiet-index, opened-index, idle-index, ended-index, back-index}

quiet-numbered : (event : Event) (past : List Entry) → step_by event ≡ Neither → IsNumbered event past
quiet-numbered (Open n task) past q = absurd cc
quiet-numbered event past q = tt

quiet-sound : (s : Setting) (event : Event) → step_by event ≡ Neither → IsSoundOpening s event
quiet-sound s (Open n task) q = absurd cc
quiet-sound s event q = tt

pub kept-quiet : (s : Setting) (past new : List Entry) (stamp : ℕ) (event : Event) (index : OpenIndex) → IsKept s past index → newest_stamp past < stamp → step_by event ≡ Neither →
    new ≡ book_entry stamp event ∷ past → IsKept s new index
kept-quiet s past new stamp event index kept later quiet is =
    subst (λ (p : List Entry). IsKept s p index) (sym is) (record {
      setting = kept.setting;
      numbered = (quiet-numbered event past quiet, kept.numbered);
      in_order = (refl, (later, kept.in_order));
      sound = (quiet-sound s event quiet, kept.sound);
      indexed = quiet-index s stamp past event index quiet kept.indexed;
    })

end-numbered : (n : ℕ) (event : Event) (past : List Entry) → IsEnd n event → IsNumbered event past
end-numbered n (Open m task) past ends = absurd ends
end-numbered n event past ends = tt

end-sound : (s : Setting) (n : ℕ) (event : Event) → IsEnd n event → IsSoundOpening s event
end-sound s n (Open m task) ends = absurd ends
end-sound s n event ends = tt

end-task : (n c stamp : ℕ) (event : Event) (past : List Entry) → IsEnd n event → task_of c (book_entry stamp event ∷ past) ≡ task_of c past
end-task n c stamp (Close m done names cause bytes) past ends = refl
end-task n c stamp (Spoil m diff loss shut) past ends = refl
end-task n c stamp event past ends = absurd ends

pub kept-ended : (s : Setting) (past now : List Entry) (stamp n : ℕ) (event : Event) (task : Option Task) (was_open : Bool) (old new : OpenIndex) → IsKept s past old →
    newest_stamp past < stamp → IsEnd n event → was_open ≡ is_open n past → now ≡ book_entry stamp event ∷ past → task ≡ cond was_open (task_of n now) None →
    RemovesCommand s n task old new → IsKept s now new
kept-ended s past now stamp n event task was_open old new kept later ends was is given removes =
    subst (λ (p : List Entry). IsKept s p new) (sym is) (record {
      setting = kept.setting;
      numbered = (end-numbered n event past ends, kept.numbered);
      in_order = (refl, (later, kept.in_order));
      sound = (end-sound s n event ends, kept.sound);
      indexed = ended-index s n stamp event past old new kept.numbered ends (subst (λ (o : Option Task). RemovesCommand s n o old new) same removes) kept.indexed;
    })
  where
    same : task ≡ open_task n past
    same =
        given
        ∙ ap (λ (p : List Entry). cond was_open (task_of n p) None) is
        ∙ ap (λ (o : Option Task). cond was_open o None) (end-task n n stamp event past ends)
        ∙ ap (λ (b : Bool). cond b (task_of n past) None) was

-- a command that is about to be opened isn't open
pub next-unopened : (past : List Entry) (n : ℕ) → AreNumbered past → n ≡ open_count past → open_task n past ≡ None
next-unopened past n numbered number = ap (λ (b : Bool). cond (b && not (has_ended past n)) (task_of n past) None) (new-number past n numbered number)

pub next-stranger : (s : Setting) (past : List Entry) (index : OpenIndex) (n : ℕ) → IsKept s past index → n ≡ open_count past → (i : ℕ) → is_in index.holders.commands i n ≡ false
next-stranger s past index n kept number i = kept.indexed.commands i n ∙ ap (λ (o : Option Task). passes_task (holds_at s i) o) (next-unopened past n kept.numbered number)

pub kept-opened : (s : Setting) (past now : List Entry) (e : Entry) (n : ℕ) (task : Task) (old new : OpenIndex) → IsKept s past old → e ≡ book_entry e.stamp (Open n task) →
    newest_stamp past < e.stamp → n ≡ open_count past → IsTask s task → has_ended past n ≡ false → now ≡ e ∷ past → AddsCommand s n task old new → IsKept s now new
kept-opened s past now e n task old new kept opens later number sound still is adds =
    subst (λ (p : List Entry). IsKept s p new) (sym (is ∙ ap (λ (x : Entry). x ∷ past) opens)) (record {
      setting = kept.setting;
      numbered = (number, kept.numbered);
      in_order = (refl, (later, kept.in_order));
      sound = (sound, kept.sound);
      indexed = opened-index s n e.stamp task past old new still (next-unopened past n kept.numbered number) adds kept.indexed;
    })

-- the opening of a command that ended before, or none for want of memory
pub kept-idle : (s : Setting) (past now : List Entry) (e : Entry) (n : ℕ) (task : Task) (index : OpenIndex) {T E : Type 0} (result : Result T E) → IsKept s past index →
    e ≡ book_entry e.stamp (Open n task) → newest_stamp past < e.stamp → n ≡ open_count past → IsTask s task → has_ended past n ≡ true →
    OnOk result (now ≡ e ∷ past) → OnErr result (now ≡ past) → IsKept s now index
kept-idle s past now e n task index (Ok x) kept opens later number sound over is none =
    subst (λ (p : List Entry). IsKept s p index) (sym (is ∙ ap (λ (x : Entry). x ∷ past) opens)) (record {
      setting = kept.setting;
      numbered = (number, kept.numbered);
      in_order = (refl, (later, kept.in_order));
      sound = (sound, kept.sound);
      indexed = idle-index s n e.stamp task past index over kept.indexed;
    })
kept-idle s past now e n task index (Err x) kept opens later number sound over none is = subst (λ (p : List Entry). IsKept s p index) (sym is) kept

-- an opening that is taken back
pub kept-back : (s : Setting) (past now : List Entry) (n : ℕ) (task : Task) (old more new : OpenIndex) → IsKept s past old → n ≡ open_count past → now ≡ past →
    AddsCommand s n task old more → RemovesCommand s n (Some task) more new → IsKept s now new
kept-back s past now n task old more new kept number is adds removes =
    subst (λ (p : List Entry). IsKept s p new) (sym is) (record {
      setting = kept.setting;
      numbered = kept.numbered;
      in_order = kept.in_order;
      sound = kept.sound;
      indexed = back-index s n task past old more new (next-unopened past n kept.numbered number) adds removes kept.indexed;
    })
