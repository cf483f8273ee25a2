-- The entries that a controller appends for an update, and what becomes of its targets.
use Rattle.std.proofs.Common.{◌≡◌, ◌≢◌, ℕ, ◌+◌, ◌<◌, true, false, List, [], ◌∷◌, length, reverse, None, ap, sym, ◌∙◌, arith, set, get_or-set_same, get_or-set_other}
use Rattle.std.proofs.lemmas.List.{length-reverse, length-set}
use Rattle.blocks_core.specs.Xor.{xor}
use Rattle.sbc_cdbs.specs.declared.descriptor.Cdb.{Cdb}
use Rattle.array_journal.specs.declared.at.At.{At}
use Rattle.array_journal.specs.declared.entry.Entry.{Entry}
use Rattle.array_journal.specs.declared.event.Event.TheVariants.{Diff, Take, Fold, Open, Close}
use Rattle.array_journal.specs.declared.setting.Setting.{Setting}
use Rattle.array_journal.specs.declared.task.Task.{Task}
use Rattle.array_journal.specs.Commands.{open_count}
use Rattle.array_journal.specs.Serving.{update_entries, update_delta}
use Rattle.blocks_core.specs.Lists.{slice, put}
use Rattle.xor_cli.specs.Disks.{Disk, disk_of, with_diff, with_take, with_fold}
use Rattle.xor_cli.specs.Serving.{next_at, with_next}
use Rattle.xor_cli.proofs.Journals.{reverse-with_next, length-with_next}

-- the five journals of an update, the oldest entry first
abbrev pub opened_journal : List Entry → ℕ → Task → List Entry
opened_journal journal c task = with_next journal 0 (Open c task)

abbrev pub diffed_journal : List Entry → ℕ → At → Task → Cdb → List Entry
diffed_journal journal c opened task cdb = with_next journal (task.target + 1) (Diff c opened cdb task.row task.bytes false false false)

abbrev pub taken_journal : List Entry → ℕ → At → Task → Cdb → List ℕ → List Entry
taken_journal journal c opened task cdb delta = with_next journal (task.target + 1) (Take c opened cdb task.row delta)

abbrev pub folded_journal : List Entry → ℕ → At → Task → Cdb → List ℕ → At → List Entry
folded_journal journal c opened task cdb delta taken = with_next journal (task.parity + 1) (Fold c opened cdb task.row delta (taken ∷ []))

abbrev pub closed_journal : List Entry → ℕ → List At → List Entry
closed_journal journal c names = with_next journal 0 (Close c true names None [])

name_by : ℕ → ℕ → At
name_by stamp lock = record { stamp = stamp; lock = lock }

-- the five entries by their numbers
five : List Entry → Task → Cdb → Cdb → Cdb → ℕ → ℕ → ℕ → ℕ → ℕ → ℕ → At → At → At → At → List ℕ → List Entry
five past task diff take fold a b d e f c opened differed taken folded delta =
    record { stamp = f; lock = 0; event = Close c true (differed ∷ taken ∷ folded ∷ []) None [] }
    ∷ record { stamp = e; lock = task.parity + 1; event = Fold c opened fold task.row delta (taken ∷ []) }
    ∷ record { stamp = d; lock = task.target + 1; event = Take c opened take task.row delta }
    ∷ record { stamp = b; lock = task.target + 1; event = Diff c opened diff task.row task.bytes false false false }
    ∷ record { stamp = a; lock = 0; event = Open c task } ∷ past

-- what a controller appends for an update are its entries
pub update-appended : (s : Setting) (j0 j1 j2 j3 j4 j5 : List Entry) (task : Task) (diff take fold : Cdb) (c : ℕ) (opened differed taken folded : At) (delta : List ℕ) →
    j1 ≡ opened_journal j0 c task → j2 ≡ diffed_journal j1 c opened task diff → j3 ≡ taken_journal j2 c opened task take delta →
    j4 ≡ folded_journal j3 c opened task fold delta taken → j5 ≡ closed_journal j4 c (differed ∷ taken ∷ folded ∷ []) →
    c ≡ open_count (reverse j0) → opened ≡ next_at j0 0 → differed ≡ next_at j1 (task.target + 1) → taken ≡ next_at j2 (task.target + 1) →
    folded ≡ next_at j3 (task.parity + 1) → delta ≡ update_delta s (reverse j0) task →
    reverse j5 ≡ update_entries s (reverse j0) task diff take fold
unfolding five name_by
update-appended s j0 j1 j2 j3 j4 j5 task diff take fold c opened differed taken folded delta h1 h2 h3 h4 h5 hc ho hd ht hf hx =
    let m : ℕ = length (reverse j0) in
    let n0 : length j0 ≡ m = sym (length-reverse j0) in
    let n1 : length j1 ≡ length j0 + 1 = ap length h1 ∙ length-with_next j0 0 (Open c task) in
    let n2 : length j2 ≡ length j1 + 1 = ap length h2 ∙ length-with_next j1 (task.target + 1) (Diff c opened diff task.row task.bytes false false false) in
    let n3 : length j3 ≡ length j2 + 1 = ap length h3 ∙ length-with_next j2 (task.target + 1) (Take c opened take task.row delta) in
    let n4 : length j4 ≡ length j3 + 1 = ap length h4 ∙ length-with_next j3 (task.parity + 1) (Fold c opened fold task.row delta (taken ∷ [])) in
    let s1 : length j0 + 1 ≡ m + 1 = omega arith in
    let s2 : length j1 + 1 ≡ m + 2 = omega arith in
    let s3 : length j2 + 1 ≡ m + 3 = omega arith in
    let s4 : length j3 + 1 ≡ m + 4 = omega arith in
    let s5 : length j4 + 1 ≡ m + 5 = omega arith in
    let o : opened ≡ name_by (m + 1) 0 = ho ∙ ap (λ k. name_by k 0) s1 in
    let d : differed ≡ name_by (m + 2) (task.target + 1) = hd ∙ ap (λ k. name_by k (task.target + 1)) s2 in
    let t : taken ≡ name_by (m + 3) (task.target + 1) = ht ∙ ap (λ k. name_by k (task.target + 1)) s3 in
    let f : folded ≡ name_by (m + 4) (task.parity + 1) = hf ∙ ap (λ k. name_by k (task.parity + 1)) s4 in
    let r1 : reverse j1 ≡ record { stamp = length j0 + 1; lock = 0; event = Open c task } ∷ reverse j0 =
    ap reverse h1 ∙ reverse-with_next j0 0 (Open c task) in
    let r2 : reverse j2 ≡ record { stamp = length j1 + 1; lock = task.target + 1; event = Diff c opened diff task.row task.bytes false false false } ∷ reverse j1 =
    ap reverse h2 ∙ reverse-with_next j1 (task.target + 1) (Diff c opened diff task.row task.bytes false false false) in
    let r3 : reverse j3 ≡ record { stamp = length j2 + 1; lock = task.target + 1; event = Take c opened take task.row delta } ∷ reverse j2 =
    ap reverse h3 ∙ reverse-with_next j2 (task.target + 1) (Take c opened take task.row delta) in
    let r4 : reverse j4 ≡ record { stamp = length j3 + 1; lock = task.parity + 1; event = Fold c opened fold task.row delta (taken ∷ []) } ∷ reverse j3 =
    ap reverse h4 ∙ reverse-with_next j3 (task.parity + 1) (Fold c opened fold task.row delta (taken ∷ [])) in
    let r5 : reverse j5 ≡ record { stamp = length j4 + 1; lock = 0; event = Close c true (differed ∷ taken ∷ folded ∷ []) None [] } ∷ reverse j4 =
    ap reverse h5 ∙ reverse-with_next j4 0 (Close c true (differed ∷ taken ∷ folded ∷ []) None []) in
    let front : reverse j5 ≡ five (reverse j0) task diff take fold (length j0 + 1) (length j1 + 1) (length j2 + 1) (length j3 + 1) (length j4 + 1) c opened differed taken folded delta = cc in
    let middle : five (reverse j0) task diff take fold (length j0 + 1) (length j1 + 1) (length j2 + 1) (length j3 + 1) (length j4 + 1) c opened differed taken folded delta
    ≡ five (reverse j0) task diff take fold (m + 1) (m + 2) (m + 3) (m + 4) (m + 5) (open_count (reverse j0)) (name_by (m + 1) 0) (name_by (m + 2) (task.target + 1))
    (name_by (m + 3) (task.target + 1)) (name_by (m + 4) (task.parity + 1)) (update_delta s (reverse j0) task) = cc in
    front ∙ middle

-- the disks after an update: the data target's blocks are written, and what it held is folded into parity
abbrev pub updated_disks : List Disk → ℕ → ℕ → ℕ → List ℕ → List ℕ → List Disk
updated_disks disks target parity at bytes delta = with_fold (with_take (with_diff disks target at bytes) target) parity at delta

abbrev pub no_disk : Disk
no_disk = record { medium = []; held = [] }

pub disk-same : (disks : List Disk) (i : ℕ) (d : Disk) → i < length disks → disk_of (set disks i d) i ≡ d
disk-same disks i d h = get_or-set_same disks i d no_disk h

pub disk-other : (disks : List Disk) (i j : ℕ) (d : Disk) → j ≢ i → disk_of (set disks i d) j ≡ disk_of disks j
disk-other disks i j d h = get_or-set_other disks i j d no_disk h

pub length-updated : (disks : List Disk) (target parity at : ℕ) (bytes delta : List ℕ) → length (updated_disks disks target parity at bytes delta) ≡ length disks
length-updated disks target parity at bytes delta =
    length-set (with_take (with_diff disks target at bytes) target) parity _ ∙ length-set (with_diff disks target at bytes) target _ ∙ length-set disks target _

-- the data target's medium
pub updated-target : (disks : List Disk) (target parity at : ℕ) (bytes delta : List ℕ) → target < length disks → target ≢ parity →
    (disk_of (updated_disks disks target parity at bytes delta) target).medium ≡ put (disk_of disks target).medium at bytes
updated-target disks target parity at bytes delta h other =
    ap (λ (d : Disk). d.medium) (disk-other (with_take (with_diff disks target at bytes) target) parity target _ other)
    ∙ ap (λ (d : Disk). d.medium) (disk-same (with_diff disks target at bytes) target _ (omega (arith, length-set {A = Disk})))
    ∙ ap (λ (d : Disk). d.medium) (disk-same disks target _ h)

-- a target that is neither the data target nor the parity target
pub updated-other : (disks : List Disk) (target parity at i : ℕ) (bytes delta : List ℕ) → i ≢ target → i ≢ parity →
    (disk_of (updated_disks disks target parity at bytes delta) i).medium ≡ (disk_of disks i).medium
updated-other disks target parity at i bytes delta h k =
    ap (λ (d : Disk). d.medium) (disk-other (with_take (with_diff disks target at bytes) target) parity i _ k)
    ∙ ap (λ (d : Disk). d.medium) (disk-other (with_diff disks target at bytes) target i _ h)
    ∙ ap (λ (d : Disk). d.medium) (disk-other disks target i _ h)

-- the parity target's medium
pub updated-parity : (disks : List Disk) (target parity at : ℕ) (bytes delta : List ℕ) → parity < length disks → parity ≢ target →
    (disk_of (updated_disks disks target parity at bytes delta) parity).medium
    ≡ put (disk_of disks parity).medium at (xor (slice (disk_of disks parity).medium at (length delta)) delta)
updated-parity disks target parity at bytes delta h other =
    ap (λ (d : Disk). d.medium) (disk-same (with_take (with_diff disks target at bytes) target) parity _ (omega (arith, length-set {A = Disk})))
    ∙ ap (λ m. put m at (xor (slice m at (length delta)) delta))
    (ap (λ (d : Disk). d.medium) (disk-other (with_diff disks target at bytes) target parity _ other)
    ∙ ap (λ (d : Disk). d.medium) (disk-other disks target parity _ other))
