-- What an opening knows of the units of its stripe, and so what is there at the acts of its command.
use Rattle.std.specs.Prelude.{◌≡◌, ◌≢◌, ◌==◌, ◌&&◌, ◌||◌, ◌<◌, ◌≤◌, ◌⊎◌, nat_le, not, ℕ, zero, suc, ◌+◌, Bool, true, false, List, [], ◌∷◌, Some, length, filter}
use Rattle.std.proofs.Common.{refl, ap, sym, ◌∙◌, cond, arith, subst, inl, inr}
use Rattle.std.proofs.lemmas.Bool.{eqb-true, leb-false, cases_eq, cases_Bool, and_parts, not-true, not-false, both_ways, false≢true, cond-true, cond_both}
use Rattle.stripe_layout.specs.Layout.{parity_of}
use Rattle.sbc_cdbs.specs.declared.descriptor.Cdb.{Cdb}
use Rattle.array_journal.specs.declared.at.At.{At}
use Rattle.array_journal.specs.declared.entry.Entry.{Entry}
use Rattle.array_journal.specs.declared.event.Event.{Event}
use Rattle.array_journal.specs.declared.event.Event.TheVariants.{Open}
use Rattle.array_journal.specs.declared.event.Why.{Why}
use Rattle.array_journal.specs.declared.event.Why.TheVariants.{Medium, NotReady, Unfitted, Present, Listed, Second, Clean, Absent}
use Rattle.array_journal.specs.declared.setting.Setting.{Setting}
use Rattle.array_journal.specs.declared.task.Kind.{Kind}
use Rattle.array_journal.specs.declared.task.Kind.TheVariants.{Read, Update, DataOnly, DegradedRead, DegradedWrite, Rebuild, Resync}
use Rattle.array_journal.specs.declared.task.Task.{Task}
use Rattle.array_journal.specs.Lists.{numbers}
use Rattle.array_journal.specs.Entries.{name_of, same_at, entry_at}
use Rattle.array_journal.specs.Commands.{is_open, task_of, is_shared}
use Rattle.array_journal.specs.declared.act.Act.{Act}
use Rattle.array_journal.specs.Lives.{is_gone, is_absent, is_missing, is_unfitted}
use Rattle.array_journal.specs.Listed.{is_listed}
use Rattle.array_journal.specs.declared.decision.Decision.{Decision}
use Rattle.array_journal.specs.declared.decision.Decision.TheVariants.{Opens, Refuses}
use Rattle.array_journal.specs.Decision.{want_of, missing_count, decision}
use Rattle.array_journal.specs.May.{MayAct, MayBook, MayOpen}
use Rattle.array_journal.specs.Run.{Grows}
use Rattle.array_journal.specs.Laws.{entries_before}
use Rattle.array_journal.proofs.runs.CommandLaws.{one_task}
use Rattle.array_journal.proofs.runs.Standing.{may-book}
use Rattle.array_journal.proofs.windows.WindowLaws.{exclusive-alone}
use Rattle.array_journal.proofs.lives.AbsentLaws.{absent-exactly, act-present}
use Rattle.array_journal.proofs.lives.ThereLaws.{There, is_present, is_put}
use Rattle.array_journal.proofs.lives.MissingStays.{missing-stays}

-- an opening that is named could be made over the entries before it
opening-may : (s : Setting) (opened : At) (c : ℕ) (task : Task) (past : List Entry) → Grows s past → opened.lock ≡ 0 → entry_at opened past ≡ Some (Open c task) →
    MayOpen s (entries_before opened past) c task
opening-may s opened c task [] g book h = absurd cc
opening-may s opened c task (e ∷ past) g book h = choose (same_at opened (name_of e)) refl (λ q. opening-may s opened c task past g.1 book q) h
  where
    choose : (b : Bool) → same_at opened (name_of e) ≡ b → (entry_at opened past ≡ Some (Open c task) → MayOpen s (entries_before opened past) c task) →
        cond b (Some e.event) (entry_at opened past) ≡ Some (Open c task) → MayOpen s (cond b past (entries_before opened past)) c task
    choose true q rec k =
        let lock : opened.lock ≡ e.lock = eqb-true opened.lock e.lock (and_parts (opened.stamp == e.stamp) (opened.lock == e.lock) q).1 in
        let this : e.event ≡ Open c task = one e.event (Open c task) k in
        subst (λ (x : Event). MayBook s past e.stamp x) this (may-book s past e.stamp e.lock e.event (sym lock ∙ book) g.0.1.1)
      where
        one : (x y : Event) → Some x ≡ Some y → x ≡ y
        one x y r = cc
    choose false q rec k = rec k

-- how many numbers pass
passing-one : (test : ℕ → Bool) (i m first : ℕ) → first ≤ i → i < first + m → test i ≡ true → 1 ≤ length (filter test (numbers first m))
passing-one test i zero first low high t = absurd (omega arith)
passing-one test i (suc m) first low high t = elim (cases_eq first i) [
  | inl same ↦ let e : length (filter test (numbers first (suc m))) ≡ suc (length rest) =
      ap length (cond-true (test first) (first ∷ rest) rest (ap test same ∙ t)) in omega arith
  | inr other ↦ let later : 1 ≤ length rest = passing-one test i m (suc first) (omega arith) (omega arith) t in
      cond_both (test first) (first ∷ rest) rest (λ (l : List ℕ). 1 ≤ length l) (λ q. omega arith) (λ q. later)
]
  where
    rest : List ℕ
    rest = filter test (numbers (suc first) m)

passing-two : (test : ℕ → Bool) (i d m first : ℕ) → first ≤ i → i < first + m → first ≤ d → d < first + m → i ≢ d → test i ≡ true → test d ≡ true →
    2 ≤ length (filter test (numbers first m))
passing-two test i d zero first low high from to other t u = absurd (omega arith)
passing-two test i d (suc m) first low high from to other t u = by (cases_eq first i) (cases_eq first d)
    (λ l k. passing-two test i d m (suc first) l (omega arith) k (omega arith) other t u)
  where
    rest : List ℕ
    rest = filter test (numbers (suc first) m)

    more : test first ≡ true → 1 ≤ length rest → 2 ≤ length (filter test (numbers first (suc m)))
    more q l = let e : length (filter test (numbers first (suc m))) ≡ suc (length rest) = ap length (cond-true (test first) (first ∷ rest) rest q) in omega arith

    by : ((first ≡ i) ⊎ (first ≡ i → ⊥)) → ((first ≡ d) ⊎ (first ≡ d → ⊥)) → (suc first ≤ i → suc first ≤ d → 2 ≤ length rest) →
        2 ≤ length (filter test (numbers first (suc m)))
    by (inl same) (inl also) rec = absurd (other (sym same ∙ also))
    by (inl same) (inr apart) rec = more (ap test same ∙ t) (passing-one test d m (suc first) (omega arith) (omega arith) u)
    by (inr apart) (inl same) rec = more (ap test same ∙ u) (passing-one test i m (suc first) (omega arith) (omega arith) t)
    by (inr apart) (inr also) rec =
        let later : 2 ≤ length rest = rec (omega arith) (omega arith) in
        cond_both (test first) (first ∷ rest) rest (λ (l : List ℕ). 2 ≤ length l) (λ q. omega arith) (λ q. later)

-- fewer than two units are missing: none but one; fewer than one: none
one-missing : (s : Setting) (stripe i d : ℕ) (past : List Entry) → nat_le 2 (missing_count s stripe past) ≡ false → i < s.geometry.targets → d < s.geometry.targets → i ≢ d →
    is_missing d stripe past ≡ true → is_missing i stripe past ≡ false
one-missing s stripe i d past few below under other h = elim (cases_Bool (is_missing i stripe past)) [
  | inl also ↦
      let few_here : missing_count s stripe past < 2 = leb-false 2 (missing_count s stripe past) few in
      let two : 2 ≤ missing_count s stripe past =
      passing-two (λ x. is_missing x stripe past) i d s.geometry.targets 0 (omega arith) (omega arith) (omega arith) (omega arith) other also h in absurd (omega arith)
  | inr present ↦ present
]

none-missing : (s : Setting) (stripe i : ℕ) (past : List Entry) → nat_le 1 (missing_count s stripe past) ≡ false → i < s.geometry.targets → is_missing i stripe past ≡ false
none-missing s stripe i past few below = elim (cases_Bool (is_missing i stripe past)) [
  | inl lost ↦
      let few_here : missing_count s stripe past < 1 = leb-false 1 (missing_count s stripe past) few in
      let one : 1 ≤ missing_count s stripe past =
      passing-one (λ x. is_missing x stripe past) i s.geometry.targets 0 (omega arith) (omega arith) lost in absurd (omega arith)
  | inr present ↦ present
]

-- how a decision came to open
not_refused : (b : Bool) (why : Why) (x : Decision) (kind : Kind) → cond b (Refuses why) x ≡ Opens kind → (b ≡ false) × (x ≡ Opens kind)
not_refused true why x kind h = absurd cc
not_refused false why x kind h = (refl, h)

opened_first : (b : Bool) (first kind : Kind) (x : Decision) → cond b (Opens first) x ≡ Opens kind → ((b ≡ true) × (first ≡ kind)) ⊎ ((b ≡ false) × (x ≡ Opens kind))
opened_first true first kind x h = inl (refl, cc)
opened_first false first kind x h = inr (refl, h)

opened_last : (first kind : Kind) → Opens first ≡ Opens kind → first ≡ kind
opened_last first kind h = cc

-- what is known of the units at an opening
pub record KnowsRead (s : Setting) (task : Task) (past : List Entry) : Type 0 where
  pub few : nat_le 2 (missing_count s task.stripe past) ≡ false
  pub how : ((is_missing task.target task.stripe past ≡ false) × (task.kind ≡ Read)) ⊎ ((is_missing task.target task.stripe past ≡ true) × (task.kind ≡ DegradedRead))

pub record KnowsWrite (s : Setting) (task : Task) (past : List Entry) : Type 0 where
  pub few : nat_le 2 (missing_count s task.stripe past) ≡ false
  pub how : ((is_missing task.target task.stripe past ≡ true) × (task.kind ≡ DegradedWrite))
      ⊎ (((is_missing task.target task.stripe past ≡ false) × ((is_missing (parity_of s.geometry task.stripe) task.stripe past ≡ true) × (task.kind ≡ DataOnly)))
      ⊎ ((is_missing task.target task.stripe past ≡ false) × (task.kind ≡ Update)))

knows-read : (s : Setting) (task : Task) (past : List Entry) (kind : Kind) → task.kind ≡ kind → decision s (want_of Read) task.stripe task.target past ≡ Opens kind → KnowsRead s task past
knows-read s task past kind k d =
    let a : ((is_missing task.target task.stripe past && is_listed task.stripe past) ≡ false) × (_ ≡ Opens kind) =
    not_refused (is_missing task.target task.stripe past && is_listed task.stripe past) Medium _ kind d in
    let b : (nat_le 2 (missing_count s task.stripe past) ≡ false) × (_ ≡ Opens kind) = not_refused (nat_le 2 (missing_count s task.stripe past)) NotReady _ kind a.1 in
    record { few = b.0; how = by (opened_first (not (is_missing task.target task.stripe past)) Read kind (Opens DegradedRead) b.1) }
  where
    by : ((not (is_missing task.target task.stripe past) ≡ true) × (Read ≡ kind)) ⊎ ((not (is_missing task.target task.stripe past) ≡ false) × (Opens DegradedRead ≡ Opens kind)) →
        ((is_missing task.target task.stripe past ≡ false) × (task.kind ≡ Read)) ⊎ ((is_missing task.target task.stripe past ≡ true) × (task.kind ≡ DegradedRead))
    by (inl h) = inl (not-true (is_missing task.target task.stripe past) h.0, k ∙ sym h.1)
    by (inr h) = inr (not-false (is_missing task.target task.stripe past) h.0, k ∙ sym (opened_last DegradedRead kind h.1))

knows-write : (s : Setting) (task : Task) (past : List Entry) (kind : Kind) → task.kind ≡ kind → decision s (want_of Update) task.stripe task.target past ≡ Opens kind → KnowsWrite s task past
knows-write s task past kind k d =
    let a : ((is_missing task.target task.stripe past && is_listed task.stripe past) ≡ false) × (_ ≡ Opens kind) =
    not_refused (is_missing task.target task.stripe past && is_listed task.stripe past) Medium _ kind d in
    let b : (nat_le 2 (missing_count s task.stripe past) ≡ false) × (_ ≡ Opens kind) = not_refused (nat_le 2 (missing_count s task.stripe past)) NotReady _ kind a.1 in
    record { few = b.0; how = by (opened_first (is_missing task.target task.stripe past) DegradedWrite kind _ b.1) }
  where
    p : ℕ
    p = parity_of s.geometry task.stripe

    by : ((is_missing task.target task.stripe past ≡ true) × (DegradedWrite ≡ kind))
        ⊎ ((is_missing task.target task.stripe past ≡ false) × (cond (is_missing p task.stripe past) (Opens DataOnly) (Opens Update) ≡ Opens kind)) →
        ((is_missing task.target task.stripe past ≡ true) × (task.kind ≡ DegradedWrite))
        ⊎ (((is_missing task.target task.stripe past ≡ false) × ((is_missing p task.stripe past ≡ true) × (task.kind ≡ DataOnly)))
        ⊎ ((is_missing task.target task.stripe past ≡ false) × (task.kind ≡ Update)))
    by (inl h) = inl (h.0, k ∙ sym h.1)
    by (inr h) = elim (opened_first (is_missing p task.stripe past) DataOnly kind (Opens Update) h.1) [
      | inl r ↦ inr (inl (h.0, (r.0, k ∙ sym r.1)))
      | inr r ↦ inr (inr (h.0, k ∙ sym (opened_last Update kind r.1)))
    ]

-- a rebuild: its unit is missing, and no other
pub record KnowsRebuild (s : Setting) (task : Task) (past : List Entry) : Type 0 where
  pub lost : is_missing task.target task.stripe past ≡ true
  pub few : nat_le 2 (missing_count s task.stripe past) ≡ false

knows-rebuild : (s : Setting) (task : Task) (past : List Entry) → decision s (want_of Rebuild) task.stripe task.target past ≡ Opens Rebuild → KnowsRebuild s task past
knows-rebuild s task past d =
    let a : (is_unfitted task.target past ≡ false) × (_ ≡ Opens Rebuild) = not_refused (is_unfitted task.target past) Unfitted _ Rebuild d in
    let b : (not (is_missing task.target task.stripe past) ≡ false) × (_ ≡ Opens Rebuild) = not_refused (not (is_missing task.target task.stripe past)) Present _ Rebuild a.1 in
    let e : ((is_listed task.stripe past && not (task.target == parity_of s.geometry task.stripe)) ≡ false) × (_ ≡ Opens Rebuild) =
    not_refused (is_listed task.stripe past && not (task.target == parity_of s.geometry task.stripe)) Listed _ Rebuild b.1 in
    let f : (nat_le 2 (missing_count s task.stripe past) ≡ false) × (_ ≡ Opens Rebuild) = not_refused (nat_le 2 (missing_count s task.stripe past)) Second _ Rebuild e.1 in
    record { lost = not-false (is_missing task.target task.stripe past) b.0; few = f.0 }

knows-resync : (s : Setting) (task : Task) (past : List Entry) → decision s (want_of Resync) task.stripe task.target past ≡ Opens Resync →
    nat_le 1 (missing_count s task.stripe past) ≡ false
knows-resync s task past d =
    let a : (not (is_listed task.stripe past) ≡ false) × (_ ≡ Opens Resync) = not_refused (not (is_listed task.stripe past)) Clean _ Resync d in
    (not_refused (nat_le 1 (missing_count s task.stripe past)) Absent _ Resync a.1).0

decided-kind : (s : Setting) (past : List Entry) (c : ℕ) (task : Task) (kind : Kind) → MayOpen s past c task → task.kind ≡ kind →
    decision s (want_of kind) task.stripe task.target past ≡ Opens kind
decided-kind s past c task kind m k = subst (λ (x : Kind). decision s (want_of x) task.stripe task.target past ≡ Opens x) k m.decided

-- an exclusive command finds all units but its own
alone-kind : (s : Setting) (past : List Entry) (c i : ℕ) (task : Task) (kind : Kind) → MayOpen s past c task → task.kind ≡ kind → is_shared kind ≡ false →
    i < s.geometry.targets → i ≢ task.target → is_missing i task.stripe past ≡ false
alone-kind s past c i task Read m k alone below other = absurd (false≢true (sym alone))
alone-kind s past c i task Update m k alone below other = absurd (false≢true (sym alone))
alone-kind s past c i task DataOnly m k alone below other = absurd (false≢true (sym alone))
alone-kind s past c i task DegradedRead m k alone below other = by (knows-read s task past DegradedRead k (decided-kind s past c task DegradedRead m k))
  where
    by : KnowsRead s task past → is_missing i task.stripe past ≡ false
    by w = elim w.how [
      | inl h ↦ absurd cc
      | inr h ↦ one-missing s task.stripe i task.target past w.few below m.sound.target other h.0
    ]
alone-kind s past c i task DegradedWrite m k alone below other = by (knows-write s task past DegradedWrite k (decided-kind s past c task DegradedWrite m k))
  where
    by : KnowsWrite s task past → is_missing i task.stripe past ≡ false
    by w = elim w.how [
      | inl h ↦ one-missing s task.stripe i task.target past w.few below m.sound.target other h.0
      | inr (inl h) ↦ absurd cc
      | inr (inr h) ↦ absurd cc
    ]
alone-kind s past c i task Rebuild m k alone below other =
    let w : KnowsRebuild s task past = knows-rebuild s task past (decided-kind s past c task Rebuild m k) in
    one-missing s task.stripe i task.target past w.few below m.sound.target other w.lost
alone-kind s past c i task Resync m k alone below other =
    none-missing s task.stripe i past (knows-resync s task past (decided-kind s past c task Resync m k)) below

alone-present : (s : Setting) (past : List Entry) (c i : ℕ) (task : Task) → MayOpen s past c task → is_shared task.kind ≡ false → i < s.geometry.targets →
    i ≢ task.target → is_missing i task.stripe past ≡ false
alone-present s past c i task m alone below other = alone-kind s past c i task task.kind m refl alone below other

-- a read finds its unit, and so does an update
read-present : (s : Setting) (past : List Entry) (c : ℕ) (task : Task) → MayOpen s past c task → task.kind ≡ Read → is_missing task.target task.stripe past ≡ false
read-present s past c task m k = by (knows-read s task past Read k (decided-kind s past c task Read m k))
  where
    by : KnowsRead s task past → is_missing task.target task.stripe past ≡ false
    by w = elim w.how [
      | inl h ↦ h.0
      | inr h ↦ absurd cc
    ]

update-present : (s : Setting) (past : List Entry) (c : ℕ) (task : Task) → MayOpen s past c task → task.kind ≡ Update → is_missing task.target task.stripe past ≡ false
update-present s past c task m k = by (knows-write s task past Update k (decided-kind s past c task Update m k))
  where
    by : KnowsWrite s task past → is_missing task.target task.stripe past ≡ false
    by w = elim w.how [
      | inl h ↦ absurd cc
      | inr (inl h) ↦ h.0
      | inr (inr h) ↦ h.0
    ]

-- a degraded write lacks its unit, a write of data alone the parity unit
degraded-lacks : (s : Setting) (past : List Entry) (c : ℕ) (task : Task) → MayOpen s past c task → task.kind ≡ DegradedWrite → is_missing task.target task.stripe past ≡ true
degraded-lacks s past c task m k = by (knows-write s task past DegradedWrite k (decided-kind s past c task DegradedWrite m k))
  where
    by : KnowsWrite s task past → is_missing task.target task.stripe past ≡ true
    by w = elim w.how [
      | inl h ↦ h.0
      | inr (inl h) ↦ absurd cc
      | inr (inr h) ↦ absurd cc
    ]

data-lacks : (s : Setting) (past : List Entry) (c : ℕ) (task : Task) → MayOpen s past c task → task.kind ≡ DataOnly →
    is_missing (parity_of s.geometry task.stripe) task.stripe past ≡ true
data-lacks s past c task m k = by (knows-write s task past DataOnly k (decided-kind s past c task DataOnly m k))
  where
    by : KnowsWrite s task past → is_missing (parity_of s.geometry task.stripe) task.stripe past ≡ true
    by w = elim w.how [
      | inl h ↦ absurd cc
      | inr (inl h) ↦ h.1.0
      | inr (inr h) ↦ absurd cc
    ]

-- a unit that a command lacked when it was opened isn't there while it is open
lacking-not_there : (s : Setting) (i c : ℕ) (task : Task) (past : List Entry) → Grows s past → is_open c past ≡ true → task_of c past ≡ Some task → (task.kind ≡ Rebuild → ⊥) →
    ((older : List Entry) → MayOpen s older c task → is_missing i task.stripe older ≡ true) → There i task.stripe past → ⊥
lacking-not_there s i c task past g o q other lacks (is_present h) =
    both_ways (is_absent i task.stripe past) h (absent-exactly s i task.stripe past g ∙ ap (λ b. b || is_gone i past) (missing-stays s i c task past g o q lacks))
lacking-not_there s i c task past g o q other lacks (is_put d rebuild p r k since) =
    exclusive-alone s d c rebuild task past g p r (ap is_shared k.of_kind) o q (λ same. other (same_kind same)) (sym k.of_stripe)
  where
    same_kind : c ≡ d → task.kind ≡ Rebuild
    same_kind same = ap (λ (x : Task). x.kind) (one_task task rebuild (sym q ∙ ap (λ (n : ℕ). task_of n past) same ∙ r)) ∙ k.of_kind

pub degraded-not_there : (s : Setting) (c : ℕ) (task : Task) (past : List Entry) → Grows s past → is_open c past ≡ true → task_of c past ≡ Some task →
    task.kind ≡ DegradedWrite → There task.target task.stripe past → ⊥
degraded-not_there s c task past g o q k there =
    lacking-not_there s task.target c task past g o q (λ r. apart (sym k ∙ r)) (λ older m. degraded-lacks s older c task m k) there
  where
    apart : DegradedWrite ≡ Rebuild → ⊥
    apart e = absurd cc

pub data-not_there : (s : Setting) (c : ℕ) (task : Task) (past : List Entry) → Grows s past → is_open c past ≡ true → task_of c past ≡ Some task →
    task.kind ≡ DataOnly → There (parity_of s.geometry task.stripe) task.stripe past → ⊥
data-not_there s c task past g o q k there =
    lacking-not_there s (parity_of s.geometry task.stripe) c task past g o q (λ r. apart (sym k ∙ r)) (λ older m. data-lacks s older c task m k) there
  where
    apart : DataOnly ≡ Rebuild → ⊥
    apart e = absurd cc

-- what an act finds there: all units but its own for an exclusive command, its own for a read and an update
pub alone-there : (s : Setting) (past : List Entry) (stamp i c : ℕ) (opened : At) (cdb : Cdb) (row len sources : ℕ) (task : Task) (act : Act) → Grows s past →
    MayAct s past stamp i c opened cdb row len sources task act → is_shared task.kind ≡ false → i < s.geometry.targets → i ≢ task.target → is_absent i task.stripe past ≡ false
alone-there s past stamp i c opened cdb row len sources task act g a alone below other =
    act-present s past stamp i task.stripe c opened cdb row len sources task act g a
    (alone-present s (entries_before opened past) c i task (opening-may s opened c task past g a.in_book a.opening.0) alone below other)

pub read-there : (s : Setting) (past : List Entry) (stamp c : ℕ) (opened : At) (cdb : Cdb) (row len sources : ℕ) (task : Task) (act : Act) → Grows s past →
    MayAct s past stamp task.target c opened cdb row len sources task act → task.kind ≡ Read → is_absent task.target task.stripe past ≡ false
read-there s past stamp c opened cdb row len sources task act g a k =
    act-present s past stamp task.target task.stripe c opened cdb row len sources task act g a
    (read-present s (entries_before opened past) c task (opening-may s opened c task past g a.in_book a.opening.0) k)

pub update-there : (s : Setting) (past : List Entry) (stamp c : ℕ) (opened : At) (cdb : Cdb) (row len sources : ℕ) (task : Task) (act : Act) → Grows s past →
    MayAct s past stamp task.target c opened cdb row len sources task act → task.kind ≡ Update → is_absent task.target task.stripe past ≡ false
update-there s past stamp c opened cdb row len sources task act g a k =
    act-present s past stamp task.target task.stripe c opened cdb row len sources task act g a
    (update-present s (entries_before opened past) c task (opening-may s opened c task past g a.in_book a.opening.0) k)
