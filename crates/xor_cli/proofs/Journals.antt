-- A journal that a controller appended to, seen from its newest entry.
use Rattle.std.proofs.Common.{◌≡◌, ℕ, ◌+◌, true, List, [], ◌∷◌, length, reverse, None, ap, sym, ◌∙◌, arith, length-append}
use Rattle.std.proofs.lemmas.List.{reverse-append, length-reverse}
use Rattle.sbc_cdbs.specs.declared.descriptor.Cdb.{Cdb}
use Rattle.array_journal.specs.declared.at.At.{At}
use Rattle.array_journal.specs.declared.entry.Entry.{Entry}
use Rattle.array_journal.specs.declared.event.Event.{Event}
use Rattle.array_journal.specs.declared.event.Event.TheVariants.{Fetch, Open, Close}
use Rattle.array_journal.specs.declared.setting.Setting.{Setting}
use Rattle.array_journal.specs.declared.task.Task.{Task}
use Rattle.array_journal.specs.Commands.{open_count}
use Rattle.array_journal.specs.Acts.{task_bytes}
use Rattle.array_journal.specs.Media.{rows_on}
use Rattle.array_journal.specs.Serving.{next_name, read_entries, opened_name}
use Rattle.xor_cli.specs.Serving.{next_at, with_next}

-- the newest entry first
pub reverse-with_next : (journal : List Entry) (lock : ℕ) (event : Event) →
    reverse (with_next journal lock event) ≡ record { stamp = length journal + 1; lock = lock; event = event } ∷ reverse journal
reverse-with_next journal lock event = reverse-append journal (record { stamp = length journal + 1; lock = lock; event = event } ∷ [])

pub length-with_next : (journal : List Entry) (lock : ℕ) (event : Event) → length (with_next journal lock event) ≡ length journal + 1
length-with_next journal lock event = length-append journal (record { stamp = length journal + 1; lock = lock; event = event } ∷ [])

-- the three entries of a read, by their numbers
three : List Entry → Task → Cdb → ℕ → ℕ → ℕ → ℕ → At → At → List ℕ → List Entry
three past task cdb a b d c opened at bytes =
    record { stamp = d; lock = 0; event = Close c true (at ∷ []) None [] }
    ∷ record { stamp = b; lock = task.target + 1; event = Fetch c opened cdb task.row bytes }
    ∷ record { stamp = a; lock = 0; event = Open c task } ∷ past

name_by : ℕ → ℕ → At
name_by stamp lock = record { stamp = stamp; lock = lock }

-- what a controller appends for a read are its entries
pub read-appended : (s : Setting) (journal : List Entry) (task : Task) (cdb : Cdb) (c : ℕ) (opened at : At) (bytes : List ℕ) →
    c ≡ open_count (reverse journal) → opened ≡ next_at journal 0 → at ≡ next_at (with_next journal 0 (Open c task)) (task.target + 1) →
    bytes ≡ rows_on s task.target (reverse journal) task.row (task_bytes s task) →
    reverse (with_next (with_next (with_next journal 0 (Open c task)) (task.target + 1) (Fetch c opened cdb task.row bytes)) 0 (Close c true (at ∷ []) None []))
    ≡ read_entries s (reverse journal) task cdb
unfolding three name_by
read-appended s journal task cdb c opened at bytes hc ho ha hb =
    let j1 : List Entry = with_next journal 0 (Open c task) in
    let j2 : List Entry = with_next j1 (task.target + 1) (Fetch c opened cdb task.row bytes) in
    let n : length journal ≡ length (reverse journal) = sym (length-reverse journal) in
    let n1 : length j1 ≡ length journal + 1 = length-with_next journal 0 (Open c task) in
    let n2 : length j2 ≡ length j1 + 1 = length-with_next j1 (task.target + 1) (Fetch c opened cdb task.row bytes) in
    let s1 : length journal + 1 ≡ length (reverse journal) + 1 = ap (λ m. m + 1) n in
    let s2 : length j1 + 1 ≡ length (reverse journal) + 2 = omega arith in
    let s3 : length j2 + 1 ≡ length (reverse journal) + 3 = omega arith in
    let o : opened ≡ name_by (length (reverse journal) + 1) 0 = ho ∙ ap (λ m. name_by m 0) s1 in
    let a : at ≡ name_by (length (reverse journal) + 2) (task.target + 1) = ha ∙ ap (λ m. name_by m (task.target + 1)) s2 in
    let front : reverse (with_next j2 0 (Close c true (at ∷ []) None [])) ≡ three (reverse journal) task cdb (length journal + 1) (length j1 + 1) (length j2 + 1) c opened at bytes =
    reverse-with_next j2 0 (Close c true (at ∷ []) None [])
    ∙ ap (λ past. record { stamp = length j2 + 1; lock = 0; event = Close c true (at ∷ []) None [] } ∷ past)
    (reverse-with_next j1 (task.target + 1) (Fetch c opened cdb task.row bytes)
    ∙ ap (λ past. record { stamp = length j1 + 1; lock = task.target + 1; event = Fetch c opened cdb task.row bytes } ∷ past) (reverse-with_next journal 0 (Open c task))) in
    front
    ∙ ap (λ m. three (reverse journal) task cdb m (length j1 + 1) (length j2 + 1) c opened at bytes) s1
    ∙ ap (λ m. three (reverse journal) task cdb (length (reverse journal) + 1) m (length j2 + 1) c opened at bytes) s2
    ∙ ap (λ m. three (reverse journal) task cdb (length (reverse journal) + 1) (length (reverse journal) + 2) m c opened at bytes) s3
    ∙ ap (λ m. three (reverse journal) task cdb (length (reverse journal) + 1) (length (reverse journal) + 2) (length (reverse journal) + 3) m opened at bytes) hc
    ∙ ap (λ m. three (reverse journal) task cdb (length (reverse journal) + 1) (length (reverse journal) + 2) (length (reverse journal) + 3) (open_count (reverse journal)) m at bytes) o
    ∙ ap (λ m. three (reverse journal) task cdb (length (reverse journal) + 1) (length (reverse journal) + 2) (length (reverse journal) + 3) (open_count (reverse journal)) (opened_name (reverse journal)) m bytes) a
    ∙ ap (λ m. three (reverse journal) task cdb (length (reverse journal) + 1) (length (reverse journal) + 2) (length (reverse journal) + 3) (open_count (reverse journal)) (opened_name (reverse journal)) (next_name (reverse journal) 2 (task.target + 1)) m) hb
