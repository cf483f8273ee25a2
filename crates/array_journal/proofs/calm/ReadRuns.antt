-- A read over a quiet journal: its entries go on the run, and leave it quiet.
use Rattle.std.specs.Prelude.{◌≡◌, ◌==◌, ℕ, suc, ◌+◌, ◌*◌, true, false, List, [], ◌∷◌, Some, length}
use Rattle.std.proofs.Common.{refl, ap, sym, ◌∙◌, arith, subst, inl, inr}
use Rattle.std.proofs.lemmas.Bool.{eq-eqb, ne_eqb, cases_eq, or_left}
use Rattle.sbc_cdbs.specs.declared.descriptor.Cdb.{Cdb}
use Rattle.sbc_cdbs.specs.Cdbs.{SpellsCdb, cdb_bytes}
use Rattle.array_journal.specs.declared.at.At.{At}
use Rattle.array_journal.specs.declared.entry.Entry.{Entry}
use Rattle.array_journal.specs.declared.setting.Setting.{Setting}
use Rattle.array_journal.specs.declared.task.Kind.{Kind}
use Rattle.array_journal.specs.declared.task.Kind.TheVariants.{Read}
use Rattle.array_journal.specs.declared.task.Task.{Task}
use Rattle.array_journal.specs.Entries.{entry_at, some_at}
use Rattle.array_journal.specs.Commands.{opens, ends_command, open_count, is_open, task_of}
use Rattle.array_journal.specs.declared.act.Act.{Act}
use Rattle.array_journal.specs.declared.act.Act.TheVariants.{Fetches, Puts, Diffs, Takes, Folds, Holds}
use Rattle.array_journal.specs.Acts.{acts_at, is_act, task_bytes, cdb_of}
use Rattle.array_journal.specs.Media.{media, held, rows_on}
use Rattle.array_journal.specs.Decision.{has_room, has_room_at, holder_of}
use Rattle.blocks_core.specs.Lists.{slice}
use Rattle.blocks_core.proofs.BlockLists.{length-slice}
use Rattle.array_journal.specs.May.{May, MayFetch, IsTask, NamesActs, AllNamed, closed_bytes}
use Rattle.array_journal.specs.Run.{Grows, NoneOpen}
use Rattle.array_journal.specs.Serving.{next_name, open_entry, opened_name, fetch_entry, close_read_entry, read_entries}
use Rattle.array_journal.specs.Calm.{Quiet}
use Rattle.array_journal.proofs.runs.Steps.{entry_at-here, media-else, media-quiet, held-quiet, is_open-quiet, is_open-ended, task_of-quiet, count_at-quiet}
use Rattle.array_journal.proofs.calm.CalmEntries.{AllCalm}
use Rattle.array_journal.proofs.calm.CalmCommands.{stamps_below-calm, calm-no_fetches}
use Rattle.array_journal.proofs.held.TaskPlaces.{rows-fit_bytes}
use Rattle.array_journal.proofs.calm.ActSteps.{calm-next, stamp_lt, act-calm, may-target, has-there, all_named-none, all_named-one, named-here, own-fetches, names-own}
use Rattle.array_journal.proofs.calm.Opening.{opened_past, opened-calm, opened-stands, opened-once, opened-task, opened-open, opened-grows, read-decided}

-- lock 0 is no target's
pub book_lock : (i : ℕ) → 0 ≡ i + 1 → ⊥
book_lock i e = omega arith

-- what the rows of a task contain has the task's length
pub length-rows_on : (s : Setting) (past : List Entry) (task : Task) (i : ℕ) → Quiet s past → IsTask s task →
    length (rows_on s i past task.row (task_bytes s task)) ≡ task_bytes s task
length-rows_on s past task i q sound =
    length-slice (media s i past) (task.row * s.geometry.block) (task_bytes s task) (omega (arith, rows-fit_bytes s task sound, q.media_size i))

-- the journal with the read's rows fetched
abbrev pub fetched_past : Setting → List Entry → Task → Cdb → List Entry
fetched_past s past task fetch = fetch_entry s past task fetch ∷ opened_past past task

pub fetched-calm : (s : Setting) (past : List Entry) (task : Task) (fetch : Cdb) → Quiet s past →
    AllCalm (length past + 2) (suc (open_count past)) (fetched_past s past task fetch)
fetched-calm s past task fetch q =
    calm-next (length past + 1) (length past + 2) (suc (open_count past)) (suc (open_count past)) (fetch_entry s past task fetch) (opened_past past task)
    (omega arith) (omega arith) (omega arith) (omega arith) (opened-calm s past task q)

-- the opening changes no medium
same_rows : (s : Setting) (past : List Entry) (task : Task) (i row len : ℕ) → rows_on s i past row len ≡ rows_on s i (opened_past past task) row len
same_rows s past task i row len =
    ap (λ (m : List ℕ). slice m (row * s.geometry.block) len) (sym (media-else s i (open_entry past task) past (book_lock i)))

-- the read finds the rows as they stand
pub may-fetch : (s : Setting) (past : List Entry) (task : Task) (fetch : Cdb) → Quiet s past → IsTask s task → task.kind ≡ Read →
    SpellsCdb (cdb_bytes fetch) (cdb_of s task 0 Fetches) → May s (opened_past past task) (fetch_entry s past task fetch)
may-fetch s past task fetch q sound kind spelt = (
  stamps_below-calm (task.target + 1) (length past + 2) (length past + 1) (suc (open_count past)) (opened_past past task) (omega arith)
      (opened-calm s past task q),
  may-target s (opened_past past task) (length past + 2) task.target (fetch_entry s past task fetch).event sound.target (task, found),
)
  where
    whole : length (rows_on s task.target past task.row (task_bytes s task)) ≡ task_bytes s task
    whole = length-rows_on s past task task.target q sound

    found : MayFetch s (opened_past past task) (length past + 2) task.target (open_count past) (opened_name past) fetch task.row
        (rows_on s task.target past task.row (task_bytes s task)) task
    found = record {
      act = act-calm s (opened_past past task) (length past + 2) task.target (open_count past) (length past + 1) (suc (open_count past)) (opened_name past)
          fetch (length (rows_on s task.target past task.row (task_bytes s task))) task Fetches (opened-calm s past task q) (opened-stands past task)
          (omega arith) refl (has-there s Fetches task Read s.mode task.target kind refl sound.target (eq-eqb task.target task.target refl))
          (opened-once s past task (task.target + 1) (is_act Fetches (open_count past)) q refl (calm-no_fetches (open_count past))) whole spelt;
      read = ap (λ n. rows_on s task.target past task.row n) (sym whole)
          ∙ same_rows s past task task.target task.row (length (rows_on s task.target past task.row (task_bytes s task)));
    }

-- the fetch's name
abbrev pub fetch_name : List Entry → Task → At
fetch_name past task = next_name past 2 (task.target + 1)

fetch-stands : (s : Setting) (past : List Entry) (task : Task) (fetch : Cdb) →
    entry_at (fetch_name past task) (fetched_past s past task fetch) ≡ Some (fetch_entry s past task fetch).event
fetch-stands s past task fetch = entry_at-here (fetch_name past task) (fetch_entry s past task fetch) (opened_past past task) refl refl

read-names : (s : Setting) (past : List Entry) (task : Task) (fetch : Cdb) → IsTask s task → task.kind ≡ Read →
    NamesActs s (fetched_past s past task fetch) (length past + 3) (open_count past) task (fetch_name past task ∷ [])
read-names s past task fetch sound kind = record {
  in_order = tt;
  only = (
    names-own s (fetched_past s past task fetch) (length past + 3) (open_count past) task task.target (fetch_name past task)
        (fetch_entry s past task fetch).event refl (omega arith) (fetch-stands s past task fetch)
        (own-fetches s (open_count past) task task.target (fetch_entry s past task fetch).event
        (has-there s Fetches task Read s.mode task.target kind refl sound.target (eq-eqb task.target task.target refl))
        (eq-eqb (open_count past) (open_count past) refl)),
    tt,
  );
  fetches = all_named-one s (fetched_past s past task fetch) (open_count past) task Fetches (fetch_name past task ∷ []) Read s.mode
      task.target kind refl (λ i. refl)
      (named-here (fetched_past s past task fetch) (open_count past) Fetches task.target (fetch_name past task) [] (fetch_entry s past task fetch).event
      refl (fetch-stands s past task fetch) (eq-eqb (open_count past) (open_count past) refl));
  puts = unnamed Puts (λ i. refl);
  diffs = unnamed Diffs (λ i. refl);
  takes = unnamed Takes (λ i. refl);
  holds = unnamed Holds (λ i. refl);
}
  where
    unnamed : (act : Act) → ((i : ℕ) → acts_at s.mode act Read task i ≡ false) →
        AllNamed s (fetched_past s past task fetch) (open_count past) task act (fetch_name past task ∷ [])
    unnamed act never =
        all_named-none s (fetched_past s past task fetch) (open_count past) task act (fetch_name past task ∷ []) Read s.mode kind refl never

pub may-close_read : (s : Setting) (past : List Entry) (task : Task) (fetch : Cdb) → Quiet s past → IsTask s task → task.kind ≡ Read →
    May s (fetched_past s past task fetch) (close_read_entry past task)
may-close_read s past task fetch q sound kind = (
  stamps_below-calm 0 (length past + 3) (length past + 2) (suc (open_count past)) (fetched_past s past task fetch) (omega arith)
      (fetched-calm s past task fetch q),
  (
    task,
    (
      (still_open, tasked),
      record {
        acts = read-names s past task fetch sound kind;
        folds = all_named-none s (fetched_past s past task fetch) (open_count past) task Folds (fetch_name past task ∷ []) Read s.mode
            kind refl (λ i. refl);
        no_cause = refl;
        answer = sym (ap (λ (k : Kind). closed_bytes s (fetched_past s past task fetch) task (fetch_name past task ∷ []) k) kind);
      },
    ),
  ),
)
  where
    still_open : is_open (open_count past) (fetched_past s past task fetch) ≡ true
    still_open = is_open-quiet (open_count past) (fetch_entry s past task fetch) (opened_past past task) refl refl ∙ opened-open s past task q

    tasked : task_of (open_count past) (fetched_past s past task fetch) ≡ Some task
    tasked = task_of-quiet (open_count past) (fetch_entry s past task fetch) (opened_past past task) refl ∙ opened-task past task

read-room : (s : Setting) (past : List Entry) (task : Task) → task.kind ≡ Read → has_room s task past ≡ true
read-room s past task kind = ap (λ (k : Kind). has_room_at s task past (holder_of s k task)) kind

-- the entries of a read go on the run
pub read-grows : (s : Setting) (past : List Entry) (task : Task) (fetch : Cdb) → Quiet s past → Grows s past → IsTask s task → task.kind ≡ Read →
    SpellsCdb (cdb_bytes fetch) (cdb_of s task 0 Fetches) → Grows s (read_entries s past task fetch)
read-grows s past task fetch q grows sound kind spelt = (
  (stamp_lt (fetch_name past task) (next_name past 3 0) (omega arith), may-close_read s past task fetch q sound kind),
  (
    (stamp_lt (opened_name past) (fetch_name past task) (omega arith), may-fetch s past task fetch q sound kind spelt),
    opened-grows s past task q grows sound (read-decided s past task q kind) (read-room s past task kind),
  ),
)

pub read-count : (s : Setting) (past : List Entry) (task : Task) (fetch : Cdb) → open_count (read_entries s past task fetch) ≡ suc (open_count past)
read-count s past task fetch = count_at-quiet 0 opens (fetch_entry s past task fetch) (opened_past past task) refl

read-calm : (s : Setting) (past : List Entry) (task : Task) (fetch : Cdb) → Quiet s past →
    AllCalm (length (read_entries s past task fetch)) (open_count (read_entries s past task fetch)) (read_entries s past task fetch)
read-calm s past task fetch q =
    subst (λ (d : ℕ). AllCalm (length (read_entries s past task fetch)) d (read_entries s past task fetch)) (sym (read-count s past task fetch))
    (calm-next (length past + 2) (suc (suc (suc (length past)))) (suc (open_count past)) (suc (open_count past)) (close_read_entry past task)
    (fetched_past s past task fetch) (omega arith) (omega arith) (omega arith) (omega arith, refl) (fetched-calm s past task fetch q))

-- the read is closed, and other commands are as they were
read-none_open : (s : Setting) (past : List Entry) (task : Task) (fetch : Cdb) → NoneOpen past → NoneOpen (read_entries s past task fetch)
read-none_open s past task fetch none d = elim (cases_eq (open_count past) d) [
  | inl e ↦ is_open-ended d (read_entries s past task fetch)
      (or_left (open_count past == d) (some_at 0 (ends_command d) (fetched_past s past task fetch)) (eq-eqb (open_count past) d e))
  | inr h ↦ is_open-quiet d (close_read_entry past task) (fetched_past s past task fetch) refl (ne_eqb (open_count past) d h)
      ∙ is_open-quiet d (fetch_entry s past task fetch) (opened_past past task) refl refl
      ∙ is_open-quiet d (open_entry past task) past (ne_eqb (open_count past) d h) refl ∙ none d
]

-- the medium and what is held stay
pub read-media : (s : Setting) (past : List Entry) (task : Task) (fetch : Cdb) (i : ℕ) → media s i (read_entries s past task fetch) ≡ media s i past
read-media s past task fetch i =
    media-quiet s i (close_read_entry past task) (fetched_past s past task fetch) (λ old. refl)
    ∙ media-quiet s i (fetch_entry s past task fetch) (opened_past past task) (λ old. refl) ∙ media-quiet s i (open_entry past task) past (λ old. refl)

pub read-held : (s : Setting) (past : List Entry) (task : Task) (fetch : Cdb) (i : ℕ) → held s i (read_entries s past task fetch) ≡ held s i past
read-held s past task fetch i =
    held-quiet s i (close_read_entry past task) (fetched_past s past task fetch) (λ m old. refl)
    ∙ held-quiet s i (fetch_entry s past task fetch) (opened_past past task) (λ m old. refl) ∙ held-quiet s i (open_entry past task) past (λ m old. refl)

-- the journal is quiet again
pub read-quiet : (s : Setting) (past : List Entry) (task : Task) (fetch : Cdb) → Quiet s past → task.kind ≡ Read → Quiet s (read_entries s past task fetch)
read-quiet s past task fetch q kind = record {
  entries = read-calm s past task fetch q;
  stamped = (omega arith, (omega arith, (omega arith, q.stamped)));
  none_open = read-none_open s past task fetch q.none_open;
  none_held = λ i. read-held s past task fetch i ∙ q.none_held i;
  media_size = λ i. ap length (read-media s past task fetch i) ∙ q.media_size i;
}
