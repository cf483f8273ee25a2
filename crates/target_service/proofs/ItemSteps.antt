-- What taking items comes to.
use Rattle.std.proofs.Common.{◌≡◌, ℕ, ◌+◌, ◌≤◌, List, [], ◌∷◌, ◌++◌, length, take, drop, Option, Some, None, refl, sym, ap, subst, ◌∙◌, append_assoc, arith}
use Rattle.std.specs.Io.KnownBytes.{Appends}
use Rattle.std.proofs.Math.Seq.{take-add, take-append_seam, drop-append_seam}
use Rattle.std.proofs.lemmas.List.{append-nil}
use Rattle.outer_io.specs.Outside.{AppendsPrefix}
use Rattle.outer_io.proofs.Known.{Appends-none, Appends-more, HasRisen-since}
use Rattle.host_scripts.specs.declared.bench.BenchAction.{BenchAction}
use Rattle.host_scripts.specs.declared.bench.BenchLine.{BenchLine}
use Rattle.host_scripts.specs.BenchLimits.{moved_by_action}
use Rattle.program_status.specs.declared.stops.ProgramStop.{ProgramStop}
use Rattle.program_status.specs.declared.stops.ProgramStop.TheVariants.{Usage, ReadFault, Found, Memory}
use Rattle.program_status.specs.Endings.{StopsBy}
use Rattle.target_frames.specs.declared.items.Item.{Item}
use Rattle.target_frames.specs.declared.items.Item.TheVariants.{Opening, Frame}
use Rattle.target_frames.specs.Frames.{IsOpening, IsSound, told, all_told}
use Rattle.target_frames.proofs.Streams.{told_on}
use Rattle.bench_runs.specs.BenchRuns.{first_targets}
use Rattle.target_service.specs.declared.findings.ServiceLimit.{ServiceLimit}
use Rattle.target_service.specs.declared.findings.ServiceFinding.{ServiceFinding}
use Rattle.target_service.specs.declared.findings.ServiceFinding.TheVariants.{Refused, Ended, Over}
use Rattle.target_service.specs.declared.findings.ServiceStop.{ServiceStop}
use Rattle.target_service.specs.declared.findings.ServiceStop.TheVariants.{Noted, WriteFault}
use Rattle.target_service.specs.declared.open_service.OpenService.{OpenService}
use Rattle.target_service.specs.Replies.{line_of, action_of}
use Rattle.target_service.specs.Answered.{bench_of, IsReplied, IsDone, AreServed}
use Rattle.target_service.specs.Limits.{limit_in, passed, moved_by, moved_by_all}
use Rattle.target_service.specs.Found.{finding_line}
use Rattle.target_service.specs.Stops.{IsWritten, IsWriteFault}
use Rattle.target_service.specs.Progress.{TooMuch, moved_with, IsReplyTo, IsOpen, HasServed, known_of, Asks, HasReplied, HasPassed, Goes, IsPart, PassesIn, StopsIn, Halts}
use Rattle.target_service.proofs.Counting.{count-next, moved-next, limit-next}
use Rattle.target_service.proofs.Replied.{replied-more}

-- ---- what was served

-- the items that were taken pass no limit, and are replied to
pub served-within : (service : Option OpenService) (items : List Item) (replies : List ℕ) → HasServed service items replies → (limit_in items ≡ None) × AreServed items replies
served-within None items replies (nothing, silent) =
    let served : AreServed [] replies = silent in
    (ap limit_in nothing, subst (λ (x : List Item). AreServed x replies) (sym nothing) served)
served-within (Some s) items replies o =
    let served : AreServed (Opening o.count o.bytes o.buffer o.all ∷ o.behind) replies = (s.row, o.replied) in
    (o.within, subst (λ (x : List Item). AreServed x replies) (sym o.whole) served)

part-of : (service : Option OpenService) (items more : List Item) (replies : List ℕ) → HasServed service items replies → IsPart (items ++ more) replies
part-of service items more replies h =
    let both = served-within service items replies h in
    record { items = items; more = more; parted = refl; within = both.0; served = both.1 }

-- the same with no reply more
silent-part : (service : Option OpenService) (items more : List Item) (replies : List ℕ) → HasServed service items replies → IsPart (items ++ more) (replies ++ [])
silent-part service items more replies h = subst (IsPart (items ++ more)) (sym (append-nil replies)) (part-of service items more replies h)

-- ---- an opening

-- an opening comes first
pub opening-sound : (old : Option OpenService) (targets block buffer rows : ℕ) → IsSound (known_of old) (Opening targets block buffer rows) → IsOpening targets block buffer rows
opening-sound None targets block buffer rows sound = sound
opening-sound (Some o) targets block buffer rows sound = absurd sound

pub opening-goes : (old : Option OpenService) (s : OpenService) (targets block buffer rows : ℕ) → IsSound (known_of old) (Opening targets block buffer rows)
    → IsOpen s (Opening targets block buffer rows ∷ []) [] → Goes old (Some s) (Opening targets block buffer rows ∷ []) []
opening-goes (Some o) s targets block buffer rows sound opened before sent h = absurd sound
opening-goes None s targets block buffer rows sound opened before sent (nothing, silent) =
    let item = Opening targets block buffer rows in
    let bare : IsOpen s (item ∷ []) (sent ++ []) = subst (λ (r : List ℕ). IsOpen s (item ∷ []) (r ++ [])) (sym silent) opened in
    subst (λ (x : List Item). IsOpen s (x ++ item ∷ []) (sent ++ [])) (sym nothing) bare

pub opening-halts : (old : Option OpenService) (targets block buffer rows : ℕ) (stop : ProgramStop ServiceFinding) → IsSound (known_of old) (Opening targets block buffer rows)
    → StopsBy finding_line (TooMuch targets block buffer rows) stop → Halts old (Opening targets block buffer rows ∷ []) [] (Noted stop)
opening-halts old targets block buffer rows Usage sound s before sent h = absurd s
opening-halts old targets block buffer rows ReadFault sound s before sent h = absurd s
opening-halts old targets block buffer rows Memory sound s before sent h = silent-part old before (Opening targets block buffer rows ∷ []) sent h
opening-halts old targets block buffer rows (Found (Refused byte) note) sound s before sent h = absurd s.0
opening-halts old targets block buffer rows (Found (Ended byte) note) sound s before sent h = absurd s.0
opening-halts (Some o) targets block buffer rows (Found (Over limit) note) sound s before sent h = absurd sound
opening-halts None targets block buffer rows (Found (Over limit) note) sound s before sent (nothing, silent) =
    let item = Opening targets block buffer rows in (
      record {
        items = [];
        item = item;
        more = [];
        parted = ap (λ (x : List Item). x ++ item ∷ []) nothing;
        within = refl;
        passes = s.0;
        served = append-nil sent ∙ silent;
      },
      s.1,
    )

-- ---- a frame

-- its target is one of those that there are
pub frame-asks : (old : Option OpenService) (kind target : ℕ) (cdb bytes : List ℕ) → IsSound (known_of old) (Frame kind target cdb bytes) → Asks old (line_of kind target cdb bytes)
frame-asks None kind target cdb bytes sound = tt
frame-asks (Some o) kind target cdb bytes sound = sound.known_target

-- there are as many afterwards
pub frame-known : (old new : Option OpenService) (kind target : ℕ) (cdb bytes reply : List ℕ) → HasReplied old (line_of kind target cdb bytes) new reply → known_of new ≡ known_of old
frame-known None new kind target cdb bytes reply r = absurd r
frame-known (Some s) None kind target cdb bytes reply r = absurd r
frame-known (Some s) (Some t) kind target cdb bytes reply r = ap Some r.still

-- with the frame so many blocks are moved
counted-with : (s : OpenService) (items : List Item) (replies : List ℕ) (kind target : ℕ) (cdb bytes : List ℕ) (o : IsOpen s items replies)
    → moved_with s (line_of kind target cdb bytes) ≡ moved_by_all o.all o.behind + moved_by o.all (Frame kind target cdb bytes)
counted-with s items replies kind target cdb bytes o =
    let action = (line_of kind target cdb bytes).action in
    ap (λ n. n + moved_by_action s.rows action) o.moved ∙ ap (λ n. moved_by_all o.all o.behind + moved_by_action n action) o.rows

-- the limit that is passed with it
limit-with : (s : OpenService) (items : List Item) (replies : List ℕ) (kind target : ℕ) (cdb bytes : List ℕ) (o : IsOpen s items replies)
    → limit_in (items ++ Frame kind target cdb bytes ∷ []) ≡ passed s.block (s.frames + 1) (moved_with s (line_of kind target cdb bytes))
limit-with s items replies kind target cdb bytes o =
    let frame = Frame kind target cdb bytes in
    let all = moved_by_all o.all o.behind + moved_by o.all frame in
    ap (λ (x : List Item). limit_in (x ++ frame ∷ [])) o.whole
    ∙ limit-next o.count o.bytes o.buffer o.all o.behind frame (sym (ap limit_in o.whole) ∙ o.within)
    ∙ ap (λ n. passed n (length o.behind + 1) all) (sym o.block)
    ∙ ap (λ n. passed s.block (n + 1) all) (sym o.frames)
    ∙ ap (λ n. passed s.block (s.frames + 1) n) (sym (counted-with s items replies kind target cdb bytes o))

frame-open : (s t : OpenService) (kind target : ℕ) (cdb bytes reply : List ℕ) → IsReplyTo s (line_of kind target cdb bytes) t reply → (items : List Item) (replies : List ℕ)
    → IsOpen s items replies → IsOpen t (items ++ Frame kind target cdb bytes ∷ []) (replies ++ reply)
frame-open s t kind target cdb bytes reply r items replies o =
    let frame = Frame kind target cdb bytes in
    let start = first_targets (bench_of o.count o.bytes o.buffer o.all) in
    let number : s.frames + 1 ≡ 1 + length o.behind = omega (arith, o.frames) in
    let step : IsReplied (1 + length o.behind) s.row frame t.row reply =
    subst (λ n. IsDone n s.row (line_of kind target cdb bytes) t.row reply) number r.done in
    record {
      count = o.count;
      bytes = o.bytes;
      buffer = o.buffer;
      all = o.all;
      behind = o.behind ++ frame ∷ [];
      whole = ap (λ (x : List Item). x ++ frame ∷ []) o.whole;
      within = limit-with s items replies kind target cdb bytes o ∙ r.within;
      replied = replied-more 1 start o.behind s.row replies frame t.row reply o.replied step;
      block = r.block ∙ o.block;
      rows = r.rows ∙ o.rows;
      frames = r.frames ∙ ap (λ n. n + 1) o.frames ∙ sym (count-next o.behind frame);
      moved = r.moved ∙ counted-with s items replies kind target cdb bytes o ∙ sym (moved-next o.all o.behind frame);
    }

pub frame-goes : (old new : Option OpenService) (kind target : ℕ) (cdb bytes reply : List ℕ) → HasReplied old (line_of kind target cdb bytes) new reply
    → Goes old new (Frame kind target cdb bytes ∷ []) reply
frame-goes None new kind target cdb bytes reply r = absurd r
frame-goes (Some s) None kind target cdb bytes reply r = absurd r
frame-goes (Some s) (Some t) kind target cdb bytes reply r = frame-open s t kind target cdb bytes reply r

pub frame-halts : (old : Option OpenService) (kind target : ℕ) (cdb bytes : List ℕ) (stop : ProgramStop ServiceFinding)
    → StopsBy finding_line (HasPassed old (line_of kind target cdb bytes)) stop → Halts old (Frame kind target cdb bytes ∷ []) [] (Noted stop)
frame-halts old kind target cdb bytes Usage s before sent h = absurd s
frame-halts old kind target cdb bytes ReadFault s before sent h = absurd s
frame-halts old kind target cdb bytes Memory s before sent h = silent-part old before (Frame kind target cdb bytes ∷ []) sent h
frame-halts None kind target cdb bytes (Found finding note) s before sent h = absurd s.0
frame-halts (Some o) kind target cdb bytes (Found (Refused byte) note) s before sent h = absurd s.0
frame-halts (Some o) kind target cdb bytes (Found (Ended byte) note) s before sent h = absurd s.0
frame-halts (Some o) kind target cdb bytes (Found (Over limit) note) s before sent h =
    let both = served-within (Some o) before sent h in (
      record {
        items = before;
        item = Frame kind target cdb bytes;
        more = [];
        parted = refl;
        within = both.0;
        passes = limit-with o before sent kind target cdb bytes h ∙ s.0;
        served = subst (AreServed before) (sym (append-nil sent)) both.1;
      },
      s.1,
    )

-- it was answered, but its reply wasn't written
pub unwritten-halts : (old new : Option OpenService) (kind target : ℕ) (cdb bytes reply : List ℕ) → HasReplied old (line_of kind target cdb bytes) new reply
    → Halts old (Frame kind target cdb bytes ∷ []) reply WriteFault
unwritten-halts old new kind target cdb bytes reply r before sent h =
    let frame = Frame kind target cdb bytes in
    let after = frame-goes old new kind target cdb bytes reply r before sent h in
    subst (λ (x : List Item). IsPart x (sent ++ reply)) (append-nil (before ++ frame ∷ [])) (part-of new (before ++ frame ∷ []) [] (sent ++ reply) after)

pub send-halts : (old new : Option OpenService) (kind target : ℕ) (cdb bytes reply : List ℕ) (stop : ServiceStop) (before after : Option (List ℕ)) (faults now : ℕ)
    → HasReplied old (line_of kind target cdb bytes) new reply → IsWriteFault stop before after faults now reply
    → (replies : List ℕ) × (IsWritten stop before after faults now replies × Halts old (Frame kind target cdb bytes ∷ []) replies stop)
send-halts old new kind target cdb bytes reply (Noted stop) before after faults now r w = absurd w
send-halts old new kind target cdb bytes reply WriteFault before after faults now r w = (reply, (w, unwritten-halts old new kind target cdb bytes reply r))

-- ---- the same of an item that is known to be one

pub opened-goes : (old : Option OpenService) (s : OpenService) (item : Item) (targets block buffer rows : ℕ) (written : Option (List ℕ)) → item ≡ Opening targets block buffer rows → IsSound (known_of old) item
    → IsOpen s (Opening targets block buffer rows ∷ []) [] → (reply : List ℕ) × (Appends written written reply × Goes old (Some s) (item ∷ []) reply)
opened-goes old s item targets block buffer rows written is sound opened =
    let here : IsSound (known_of old) (Opening targets block buffer rows) = subst (λ (i : Item). IsSound (known_of old) i) is sound in
    let goes : Goes old (Some s) (item ∷ []) [] = subst (λ (i : Item). Goes old (Some s) (i ∷ []) []) (sym is) (opening-goes old s targets block buffer rows here opened) in
    ([], (Appends-none written, goes))

pub opened-halts : (old : Option OpenService) (item : Item) (targets block buffer rows : ℕ) (stop : ProgramStop ServiceFinding) (written : Option (List ℕ)) → item ≡ Opening targets block buffer rows
    → IsSound (known_of old) item → StopsBy finding_line (TooMuch targets block buffer rows) stop → (replies : List ℕ) × (Appends written written replies × Halts old (item ∷ []) replies (Noted stop))
opened-halts old item targets block buffer rows stop written is sound stops =
    let here : IsSound (known_of old) (Opening targets block buffer rows) = subst (λ (i : Item). IsSound (known_of old) i) is sound in
    let halts : Halts old (item ∷ []) [] (Noted stop) = subst (λ (i : Item). Halts old (i ∷ []) [] (Noted stop)) (sym is) (opening-halts old targets block buffer rows stop here stops) in
    ([], (Appends-none written, halts))

module _ (old : Option OpenService) (item : Item) (kind target : ℕ) (cdb bytes : List ℕ) (action : BenchAction) (is : item ≡ Frame kind target cdb bytes) (does : action ≡ action_of kind cdb bytes) where
  abbrev line : BenchLine
  line = record { target = target; action = action }

  same : line ≡ line_of kind target cdb bytes
  same = ap (λ (a : BenchAction). record { target = target; action = a }) does

  pub framed-asks : IsSound (known_of old) item → Asks old (record { target = target; action = action })
  framed-asks sound =
      let here : IsSound (known_of old) (Frame kind target cdb bytes) = subst (λ (i : Item). IsSound (known_of old) i) is sound in
      subst (Asks old) (sym same) (frame-asks old kind target cdb bytes here)

  pub framed-known : (new : Option OpenService) (reply : List ℕ) → HasReplied old (record { target = target; action = action }) new reply → known_of new ≡ told (known_of old) item
  framed-known new reply r =
      let here : HasReplied old (line_of kind target cdb bytes) new reply = subst (λ (l : BenchLine). HasReplied old l new reply) same r in
      subst (λ (i : Item). known_of new ≡ told (known_of old) i) (sym is) (frame-known old new kind target cdb bytes reply here)

  pub framed-goes : (new : Option OpenService) (reply : List ℕ) → HasReplied old (record { target = target; action = action }) new reply → Goes old new (item ∷ []) reply
  framed-goes new reply r =
      let here : HasReplied old (line_of kind target cdb bytes) new reply = subst (λ (l : BenchLine). HasReplied old l new reply) same r in
      subst (λ (i : Item). Goes old new (i ∷ []) reply) (sym is) (frame-goes old new kind target cdb bytes reply here)

  pub framed-halts : (stop : ProgramStop ServiceFinding) (written : Option (List ℕ)) → StopsBy finding_line (HasPassed old (record { target = target; action = action })) stop
      → (replies : List ℕ) × (Appends written written replies × Halts old (item ∷ []) replies (Noted stop))
  framed-halts stop written stops =
      let here : StopsBy finding_line (HasPassed old (line_of kind target cdb bytes)) stop = subst (λ (l : BenchLine). StopsBy finding_line (HasPassed old l) stop) same stops in
      let halts : Halts old (item ∷ []) [] (Noted stop) = subst (λ (i : Item). Halts old (i ∷ []) [] (Noted stop)) (sym is) (frame-halts old kind target cdb bytes stop here) in
      ([], (Appends-none written, halts))

  pub framed-send : (new : Option OpenService) (reply sent : List ℕ) (stop : ServiceStop) (before after : Option (List ℕ)) (faults now : ℕ) → HasReplied old (record { target = target; action = action }) new reply
      → sent ≡ reply → IsWriteFault stop before after faults now sent → (replies : List ℕ) × (IsWritten stop before after faults now replies × Halts old (item ∷ []) replies stop)
  framed-send new reply sent stop before after faults now r written fault =
      let here : HasReplied old (line_of kind target cdb bytes) new reply = subst (λ (l : BenchLine). HasReplied old l new reply) same r in
      let whole : IsWriteFault stop before after faults now reply = subst (λ (t : List ℕ). IsWriteFault stop before after faults now t) written fault in
      subst (λ (i : Item). (replies : List ℕ) × (IsWritten stop before after faults now replies × Halts old (i ∷ []) replies stop)) (sym is)
      (send-halts old new kind target cdb bytes reply stop before after faults now here whole)

-- ---- several items

pub goes-none : (service : Option OpenService) → Goes service service [] []
goes-none service before sent h =
    subst (λ (x : List Item). HasServed service x (sent ++ [])) (sym (append-nil before)) (subst (HasServed service before) (sym (append-nil sent)) h)

pub goes-more : (a b c : Option OpenService) (xs ys : List Item) (r s : List ℕ) → Goes a b xs r → Goes b c ys s → Goes a c (xs ++ ys) (r ++ s)
goes-more a b c xs ys r s first second before sent h =
    let all : HasServed c ((before ++ xs) ++ ys) ((sent ++ r) ++ s) = second (before ++ xs) (sent ++ r) (first before sent h) in
    let items : HasServed c (before ++ (xs ++ ys)) ((sent ++ r) ++ s) = subst (λ (x : List Item). HasServed c x ((sent ++ r) ++ s)) (append_assoc before xs ys) all in
    subst (HasServed c (before ++ (xs ++ ys))) (append_assoc sent r s) items

-- a stop among items is one among more of them
wider-part : (given more : List Item) (replies : List ℕ) → IsPart given replies → IsPart (given ++ more) replies
wider-part given more replies p = record {
  items = p.items;
  more = p.more ++ more;
  parted = ap (λ (x : List Item). x ++ more) p.parted ∙ append_assoc p.items p.more more;
  within = p.within;
  served = p.served;
}

wider-past : (given more : List Item) (replies : List ℕ) (limit : ServiceLimit) → PassesIn given replies limit → PassesIn (given ++ more) replies limit
wider-past given more replies limit p = record {
  items = p.items;
  item = p.item;
  more = p.more ++ more;
  parted = ap (λ (x : List Item). x ++ more) p.parted ∙ append_assoc p.items (p.item ∷ p.more) more;
  within = p.within;
  passes = p.passes;
  served = p.served;
}

stops-wider : (given more : List Item) (replies : List ℕ) (stop : ServiceStop) → StopsIn given replies stop → StopsIn (given ++ more) replies stop
stops-wider given more replies (Noted Usage) s = absurd s
stops-wider given more replies (Noted ReadFault) s = absurd s
stops-wider given more replies (Noted (Found (Refused byte) note)) s = absurd s.0
stops-wider given more replies (Noted (Found (Ended byte) note)) s = absurd s.0
stops-wider given more replies (Noted (Found (Over limit) note)) s = (wider-past given more replies limit s.0, s.1)
stops-wider given more replies (Noted Memory) s = wider-part given more replies s
stops-wider given more replies WriteFault s = wider-part given more replies s

-- behind items that were served the next one stops the service, whatever follows
pub halts-after : (a b : Option OpenService) (xs ys zs : List Item) (r s : List ℕ) (stop : ServiceStop) → Goes a b xs r → Halts b ys s stop → Halts a (xs ++ (ys ++ zs)) (r ++ s) stop
halts-after a b xs ys zs r s stop first halt before sent h =
    let here : StopsIn ((before ++ xs) ++ ys) ((sent ++ r) ++ s) stop = halt (before ++ xs) (sent ++ r) (first before sent h) in
    let wide : StopsIn (((before ++ xs) ++ ys) ++ zs) ((sent ++ r) ++ s) stop = stops-wider ((before ++ xs) ++ ys) zs ((sent ++ r) ++ s) stop here in
    let same : ((before ++ xs) ++ ys) ++ zs ≡ before ++ (xs ++ (ys ++ zs)) =
    append_assoc (before ++ xs) ys zs ∙ append_assoc before xs (ys ++ zs) in
    let items : StopsIn (before ++ (xs ++ (ys ++ zs))) ((sent ++ r) ++ s) stop = subst (λ (x : List Item). StopsIn x ((sent ++ r) ++ s) stop) same wide in
    subst (λ (t : List ℕ). StopsIn (before ++ (xs ++ (ys ++ zs))) t stop) (append_assoc sent r s) items

-- ---- what out has gained

pub prefix-after : (a b c : Option (List ℕ)) (r s : List ℕ) → Appends a b r → AppendsPrefix b c s → AppendsPrefix a c (r ++ s)
prefix-after None b c r s p q = tt
prefix-after (Some l) None c r s p q = absurd p
prefix-after (Some l) (Some m) None r s p q = absurd q
prefix-after (Some l) (Some m) (Some n) r s p q =
    let front : take (length r) (r ++ s) ≡ r = take-append_seam r s in
    let back : drop (length r) (r ++ s) ≡ s = drop-append_seam r s in
    let both : r ++ take q.0 s ≡ take (length r + q.0) (r ++ s) =
    ap (λ (t : List ℕ). t ++ take q.0 s) (sym front) ∙ ap (λ (t : List ℕ). take (length r) (r ++ s) ++ take q.0 t) (sym back) ∙ sym (take-add (length r) q.0 (r ++ s)) in
    (length r + q.0, q.1 ∙ ap (λ (t : List ℕ). t ++ take q.0 s) p ∙ append_assoc l r (take q.0 s) ∙ ap (λ (t : List ℕ). l ++ t) both)

pub written-after : (stop : ServiceStop) (a b c : Option (List ℕ)) (first mid now : ℕ) (r s : List ℕ) → Appends a b r → first ≤ mid → IsWritten stop b c mid now s → IsWritten stop a c first now (r ++ s)
written-after (Noted stop) a b c first mid now r s p below w = Appends-more a b c r s p w
written-after WriteFault a b c first mid now r s p below w = (HasRisen-since first mid now below w.0, prefix-after a b c r s p w.1)

-- ---- items one after another

-- what is known when some of the items were taken: the others stand behind them
pub record AreTaken (old now : Option OpenService) (items left : List Item) (before after : Option (List ℕ)) : Type 0 where
  pub done : List Item
  pub replies : List ℕ
  pub parted : items ≡ done ++ left
  pub known : known_of now ≡ all_told (known_of old) done
  pub written : Appends before after replies
  pub goes : Goes old now done replies

pub none-taken : (old : Option OpenService) (items : List Item) (written : Option (List ℕ)) → AreTaken old old items items written written
none-taken old items written = record {
  done = [];
  replies = [];
  parted = refl;
  known = refl;
  written = Appends-none written;
  goes = goes-none old;
}

pub taken-next : (old mid now : Option OpenService) (items left : List Item) (item : Item) (before between after : Option (List ℕ)) (reply : List ℕ) → AreTaken old mid items (item ∷ left) before between
    → known_of now ≡ told (known_of mid) item → Appends between after reply → Goes mid now (item ∷ []) reply → AreTaken old now items left before after
taken-next old mid now items left item before between after reply t known written goes = record {
  done = t.done ++ item ∷ [];
  replies = t.replies ++ reply;
  parted = t.parted ∙ sym (append_assoc t.done (item ∷ []) left);
  known = known ∙ ap (λ k. told k item) t.known ∙ sym (told_on (known_of old) t.done (item ∷ []));
  written = Appends-more before between after t.replies reply t.written written;
  goes = goes-more old mid now t.done (item ∷ []) t.replies reply t.goes goes;
}

-- no item is left
pub taken-known : (old now : Option OpenService) (items : List Item) (before after : Option (List ℕ)) → AreTaken old now items [] before after → known_of now ≡ all_told (known_of old) items
taken-known old now items before after t = t.known ∙ ap (all_told (known_of old)) (sym (t.parted ∙ append-nil t.done))

pub taken-all : (old now : Option OpenService) (items : List Item) (before after : Option (List ℕ)) → AreTaken old now items [] before after → (replies : List ℕ) × (Appends before after replies × Goes old now items replies)
taken-all old now items before after t =
    (t.replies, (t.written, subst (λ (x : List Item). Goes old now x t.replies) (sym (t.parted ∙ append-nil t.done)) t.goes))

-- the next one stops the service
pub taken-stops : (old mid : Option OpenService) (items left : List Item) (item : Item) (before between after : Option (List ℕ)) (first next now : ℕ) (reply : List ℕ) (stop : ServiceStop)
    → AreTaken old mid items (item ∷ left) before between → first ≤ next → IsWritten stop between after next now reply → Halts mid (item ∷ []) reply stop
    → (replies : List ℕ) × (IsWritten stop before after first now replies × Halts old items replies stop)
taken-stops old mid items left item before between after first next now reply stop t below written halts =
    let all : Halts old (t.done ++ item ∷ left) (t.replies ++ reply) stop = halts-after old mid t.done (item ∷ []) left t.replies reply stop t.goes halts in (
      t.replies ++ reply,
      (
        written-after stop before between after first next now t.replies reply t.written below written,
        subst (λ (x : List Item). Halts old x (t.replies ++ reply) stop) (sym t.parted) all,
      ),
    )
