-- Gatherings of a target in a row: whom they ask, and what they take.
use Rattle.std.specs.Prelude.{◌≡◌, ◌≢◌, ◌<◌, ◌≤◌, ◌==◌, ◌||◌, ◌+◌, ◌-◌, not, nat_lt, ℕ, zero, suc, Bool, true, false, List, [], ◌∷◌, ◌++◌, length, Option, Some, None, option_map, unwrap_or, is_some, is_none, slice_get}
use Rattle.std.specs.List.{AllByRecursion}
use Rattle.std.proofs.Common.{refl, ap, sym, subst, ◌∙◌, cond, arith}
use Rattle.std.proofs.lemmas.Bool.{false≢true, eq-eqb, ltb-true}
use Rattle.std.proofs.lemmas.Option.{same_Some}
use Rattle.sbc_cdbs.specs.Cdbs.{spelling}
use Rattle.sbc_cdbs.specs.Kinds.{block_count}
use Rattle.sbc_cdbs.specs.declared.commands.Command.{Command}
use Rattle.sbc_cdbs.specs.declared.commands.Command.TheVariants.{Read}
use Rattle.sbc_cdbs.proofs.Again.{again}
use Rattle.xor_params.specs.declared.sources.Descriptor.{Descriptor}
use Rattle.xor_params.specs.ParameterLists.{place}
use Rattle.xor_params.specs.Contents.{is_stranger, first_stranger}
use Rattle.array_journal.specs.declared.at.At.{At}
use Rattle.xor_target.specs.declared.order.Order.{Order}
use Rattle.xor_target.specs.declared.order.PeerRequest.{PeerRequest}
use Rattle.xor_target.specs.declared.waiting.Waiting.{Waiting}
use Rattle.xor_target.specs.Admission.{command_in, count_of}
use Rattle.regen_rebuild.specs.Gatherings.{Gathering}
use Rattle.xor_target.specs.declared.answer.Answer.{Answer}
use Rattle.xor_target.specs.Gathers.{GatheringState, IsFirst, accepted, read_request}
use Rattle.xor_target.specs.State.{TargetState, is_waiting}
use Rattle.xor_target.specs.Resumes.{ended_answer, goes_on, is_sending}
use Rattle.xor_target.specs.Rigs.{GoesOn, IsGoingOn, requests_left, requests_of}
use Rattle.xor_target.specs.Waits.{waiting_of, with_source, accepting, sends}
use Rattle.xor_target.proofs.Gatherings.{within-get}
use Rattle.xor_target.proofs.Resuming.{sending-goes}
use Rattle.xor_target.proofs.RigAnswers.{began-last}

-- ---- sources that are other targets

neither : (below same : Bool) → (not below || same) ≡ false → (below ≡ true) × (same ≡ false)
neither true true h = absurd cc
neither true false h = (refl, refl)
neither false same h = absurd cc

pub known-others : (k many number : ℕ) (sources : List Descriptor) → first_stranger k many number sources ≡ None →
    AllByRecursion (λ (d : Descriptor). (d.target < many) × (d.target ≢ number)) sources
known-others k many number [] h = tt
known-others k many number (d ∷ sources) h = choose (is_stranger many number d) refl h (known-others (suc k) many number sources)
  where
    choose : (b : Bool) → is_stranger many number d ≡ b → cond b (Some (place k 7)) (first_stranger (suc k) many number sources) ≡ None →
        (first_stranger (suc k) many number sources ≡ None → AllByRecursion (λ (x : Descriptor). (x.target < many) × (x.target ≢ number)) sources) →
        AllByRecursion (λ (x : Descriptor). (x.target < many) × (x.target ≢ number)) (d ∷ sources)
    choose true e none older = absurd cc
    choose false e none older =
        let apart = neither (nat_lt d.target many) (d.target == number) e in
        ((ltb-true d.target many apart.0, λ same. false≢true (sym apart.1 ∙ eq-eqb d.target number same)), older none)

pub other-source : (many number : ℕ) (sources : List Descriptor) (k : ℕ) (d : Descriptor) → AllByRecursion (λ (d : Descriptor). (d.target < many) × (d.target ≢ number)) sources →
    slice_get sources k ≡ Some d → (d.target < many) × (d.target ≢ number)
other-source many number [] k d h at = absurd cc
other-source many number (x ∷ sources) zero d h at = let same : x ≡ d = cc in subst (λ (y : Descriptor). (y.target < many) × (y.target ≢ number)) same h.0
other-source many number (x ∷ sources) (suc k) d h at = other-source many number sources k d h.1 at

-- ---- the count of a request to read

-- a READ's count is read back from its CDB, whatever its LBA is
pub read-count : (lba count : ℕ) → count ≤ 65535 → block_count (command_in (spelling (Read false false lba count))) ≡ Some count
read-count lba count few = ap block_count (again (Read false false 0 count) (omega arith, omega (arith, few)))

-- ---- one who takes in the blocks of a source

pub found-taken : (owner : ℕ) (made : List At) (bytes : List ℕ) (ws : List Waiting) (w : Waiting) → waiting_of owner ws ≡ Some w →
    waiting_of owner (with_source owner made bytes ws) ≡ Some (accepting made bytes w)
found-taken owner made bytes [] w h = absurd cc
found-taken owner made bytes (v ∷ ws) w h = choose (v.owner == owner) refl h (found-taken owner made bytes ws w)
  where
    choose : (b : Bool) → (v.owner == owner) ≡ b → cond b (Some v) (waiting_of owner ws) ≡ Some w →
        (waiting_of owner ws ≡ Some w → waiting_of owner (with_source owner made bytes ws) ≡ Some (accepting made bytes w)) →
        waiting_of owner (cond b (accepting made bytes v ∷ ws) (v ∷ with_source owner made bytes ws)) ≡ Some (accepting made bytes w)
    choose true own is older =
        let same : v ≡ w = cc in
        ap (λ c. cond c (Some (accepting made bytes v)) (waiting_of owner ws)) own ∙ ap (λ (x : Waiting). Some (accepting made bytes x)) same
    choose false own is older = ap (λ c. cond c (Some v) (waiting_of owner (with_source owner made bytes ws))) own ∙ older is

-- ---- the next source

pub next-goes : (t now : TargetState) (request further : PeerRequest) (many : ℕ) (w : Waiting) (g : GatheringState) (source : Descriptor) (bytes : List ℕ) (made : List At) (stamp : ℕ) →
    waiting_of request.order.owner t.waiting ≡ Some w → w.gathering ≡ Some g → ended_answer t request.order.owner ≡ None → GoesOn request many t.block g →
    slice_get g.sources (g.answered + 1) ≡ Some source → t.number ≡ request.from → further ≡ read_request t.number stamp g source →
    now ≡ record t { waiting = with_source request.order.owner made bytes t.waiting } → IsGoingOn further many now
next-goes t now request further many w g source bytes made stamp found has quiet on asks number is after =
    subst (λ (r : PeerRequest). IsGoingOn r many now) (sym is)
    (subst (λ (u : TargetState). IsGoingOn (read_request t.number stamp g source) many u) (sym after)
    (λ x h at gathers.
    let taken = found-taken request.order.owner made bytes t.waiting w found in
    let at' : waiting_of request.order.owner (with_source request.order.owner made bytes t.waiting) ≡ Some x =
    subst (λ (o : ℕ). waiting_of o (with_source request.order.owner made bytes t.waiting) ≡ Some x) on.own at in
    let same : accepting made bytes w ≡ x = same_Some (accepting made bytes w) x (sym taken ∙ at') in
    let kept : Some (accepted g bytes) ≡ Some h =
    sym (ap (λ (o : Option GatheringState). option_map (λ (y : GatheringState). accepted y bytes) o) has) ∙ ap (λ (y : Waiting). y.gathering) same ∙ gathers in
    let goes : GoesOn (read_request t.number stamp g source) many t.block (accepted g bytes) = record {
      asks = within-get g.sources (g.answered + 1) source asks;
      others = subst (λ (n : ℕ). AllByRecursion (λ (d : Descriptor). (d.target < many) × (d.target ≢ n)) g.sources) (sym number) on.others;
      block = on.block;
      count = on.count;
      few = on.few;
      own = refl;
      lba = source.lba;
      reads = refl;
    } in (
      subst (λ (o : ℕ). ended_answer t o ≡ None) (sym on.own) quiet,
      subst (λ (y : GatheringState). GoesOn (read_request t.number stamp g source) many t.block y) (same_Some (accepted g bytes) h kept) goes,
    )))

-- ---- the first source

pub first-goes : (t now : TargetState) (order : Order) (request : PeerRequest) (many : ℕ) (command : Command) (g : GatheringState) (source : Descriptor) (stamp : ℕ) →
    is_waiting t order.owner ≡ false → ended_answer t order.owner ≡ None → IsFirst t.block order command g → count_of command ≤ 65535 →
    AllByRecursion (λ (d : Descriptor). (d.target < many) × (d.target ≢ t.number)) g.sources → slice_get g.sources 0 ≡ Some source → request ≡ read_request t.number stamp g source →
    now ≡ record t { waiting = t.waiting ++ record { owner = order.owner; made = []; gathering = Some g } ∷ [] } → IsGoingOn request many now
first-goes t now order request many command g source stamp idle quiet first few others asks is after =
    subst (λ (r : PeerRequest). IsGoingOn r many now) (sym is)
    (subst (λ (u : TargetState). IsGoingOn (read_request t.number stamp g source) many u) (sym after)
    (λ x h at gathers.
    let own : g.order.owner ≡ order.owner = ap (λ (o : Order). o.owner) first.of_order in
    let began = began-last order.owner (record { owner = order.owner; made = []; gathering = Some g }) t.waiting refl idle in
    let at' = subst (λ (o : ℕ). waiting_of o (t.waiting ++ record { owner = order.owner; made = []; gathering = Some g } ∷ []) ≡ Some x) own at in
    let same : record { owner = order.owner; made = []; gathering = Some g } ≡ x = same_Some _ x (sym began ∙ at') in
    let kept : Some g ≡ Some h = ap (λ (y : Waiting). y.gathering) same ∙ gathers in
    let goes : GoesOn (read_request t.number stamp g source) many t.block g = record {
      asks = subst (λ (n : ℕ). n < length g.sources) (sym first.answered) (within-get g.sources 0 source asks);
      others = others;
      block = ap (λ (y : Gathering). y.block) first.gather;
      count = ap (λ (y : Gathering). y.count) first.gather ∙ ap count_of (sym first.of_command);
      few = subst (λ (c : Command). count_of c ≤ 65535) (sym first.of_command) few;
      own = refl;
      lba = source.lba;
      reads = refl;
    } in (
      subst (λ (o : ℕ). ended_answer t o ≡ None) (sym own) quiet,
      subst (λ (y : GatheringState). GoesOn (read_request t.number stamp g source) many t.block y) (same_Some g h kept) goes,
    )))

-- ---- a command that goes on

or-true : (b : Bool) → (b || true) ≡ true
or-true true = refl
or-true false = refl

goes-by : (t : TargetState) (owner : ℕ) (w : Waiting) (o : Option GatheringState) → waiting_of owner t.waiting ≡ Some w → w.gathering ≡ o →
    ((g : GatheringState) → o ≡ Some g → ended_answer t owner ≡ None) → goes_on t owner ≡ true
goes-by t owner w None found has quiet =
    sending-goes t owner (ap (λ (x : Option Waiting). unwrap_or (option_map sends x) false) found ∙ ap (λ (x : Option GatheringState). is_none x) has)
goes-by t owner w (Some g) found has quiet = ap (λ (e : Option Answer). is_sending t owner || is_none e) (quiet g refl) ∙ or-true (is_sending t owner)

pub waits-goes : (t : TargetState) (request : PeerRequest) (many : ℕ) (o : Option Waiting) → waiting_of request.order.owner t.waiting ≡ o → is_some o ≡ true → IsGoingOn request many t →
    goes_on t request.order.owner ≡ true
waits-goes t request many None found some on = absurd (false≢true some)
waits-goes t request many (Some w) found some on = goes-by t request.order.owner w w.gathering found refl (λ g has. (on w g found has).0)

-- ---- how many requests are left

pub some-left : (t : TargetState) (request : PeerRequest) (many : ℕ) (o : Option Waiting) → waiting_of request.order.owner t.waiting ≡ o → is_some o ≡ true → IsGoingOn request many t →
    1 ≤ requests_of request.order.owner t
some-left t request many None found some on = absurd (false≢true some)
some-left t request many (Some w) found some on =
    subst (λ (n : ℕ). 1 ≤ n) (sym (ap (λ (x : Option Waiting). unwrap_or (option_map (λ (y : Waiting). requests_left y.gathering) x) 0) found)) (by w.gathering refl)
  where
    by : (o : Option GatheringState) → w.gathering ≡ o → 1 ≤ requests_left o
    by None has = omega arith
    by (Some g) has = omega (arith, (on w g found has).1.asks)

pub fewer-left : (t now : TargetState) (owner : ℕ) (w : Waiting) (g : GatheringState) (source : Descriptor) (bytes : List ℕ) (made : List At) → waiting_of owner t.waiting ≡ Some w →
    w.gathering ≡ Some g → slice_get g.sources (g.answered + 1) ≡ Some source → now ≡ record t { waiting = with_source owner made bytes t.waiting } →
    requests_of owner now < requests_of owner t
fewer-left t now owner w g source bytes made found has asks after =
    let left : Option Waiting → ℕ = λ x. unwrap_or (option_map (λ (y : Waiting). requests_left y.gathering) x) 0 in
    let old : requests_of owner t ≡ length g.sources - g.answered = ap left found ∙ ap requests_left has in
    let new : requests_of owner now ≡ length g.sources - (g.answered + 1) =
    ap (λ (u : TargetState). requests_of owner u) after ∙ ap left (found-taken owner made bytes t.waiting w found)
    ∙ ap (λ (o : Option GatheringState). requests_left (option_map (λ (y : GatheringState). accepted y bytes) o)) has in
    omega (arith, old, new, within-get g.sources (g.answered + 1) source asks)
