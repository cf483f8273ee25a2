-- What a piece of a stream, a refused field and the end of the stream come to.
use Rattle.std.proofs.Common.{◌≡◌, ◌≢◌, ◌⊎◌, ◌≤◌, ℕ, ◌==◌, ◌&&◌, Bool, true, false, List, [], ◌∷◌, ◌++◌, length, Option, Some, None, Result, Ok, Err, refl, sym, ap, subst, ◌∙◌, inl, inr, append_assoc, arith}
use Rattle.std.specs.Prelude.{is_some, OnOk}
use Rattle.std.specs.Io.KnownBytes.{Appends}
use Rattle.std.proofs.lemmas.Bool.{eq-eqb, eqb-true}
use Rattle.std.proofs.lemmas.List.{append-nil}
use Rattle.program_status.specs.declared.stops.ProgramStop.{ProgramStop}
use Rattle.program_status.specs.declared.stops.ProgramStop.TheVariants.{Usage, ReadFault, Found, Memory}
use Rattle.program_status.specs.Stops.{IsStopOf}
use Rattle.target_frames.specs.declared.items.Item.{Item}
use Rattle.target_frames.specs.declared.items.Item.TheVariants.{Opening}
use Rattle.target_frames.specs.Frames as readings
use Rattle.target_frames.specs.Frames.{End, Unfinished, Reads, AreSound, all_told, spellings}
use Rattle.target_frames.specs.State.{State, Follows, IsReading, WaitsFor, HasRoomAt, HasRoom, bytes_of, unfinished}
use Rattle.target_frames.proofs.Streams.{told_on}
use Rattle.target_frames.proofs.Beginnings.{sound_first, sound_rest, spelled_on}
use Rattle.target_service.specs.declared.findings.ServiceFinding.{ServiceFinding}
use Rattle.target_service.specs.declared.findings.ServiceFinding.TheVariants.{Refused, Ended, Over}
use Rattle.target_service.specs.declared.findings.ServiceStop.{ServiceStop}
use Rattle.target_service.specs.declared.findings.ServiceStop.TheVariants.{Noted, WriteFault}
use Rattle.target_service.specs.declared.open_service.OpenService.{OpenService}
use Rattle.target_service.specs.Limits.{limit_in}
use Rattle.target_service.specs.Served.{Begins, IsServed, IsBegun}
use Rattle.target_service.specs.Found.{IsFoundServed, finding_line}
use Rattle.target_service.specs.Stops.{IsWritten}
use Rattle.target_service.specs.Progress.{known_of, Goes, IsPart, StopsIn, Halts, IsAt, IsHeldBack, StopsStream}
use Rattle.target_service.proofs.ItemSteps.{served-within}

-- ---- what a stream begins with

begins-front : (stream : List ℕ) (given front back : List Item) → Begins stream given → given ≡ front ++ back → Begins stream front
begins-front stream given front back b parted = record {
  more = spellings back ++ b.more;
  spelled = b.spelled ∙ ap (λ items. spellings items ++ b.more) parted ∙ spelled_on front back b.more;
  sound = sound_first None front back (subst (AreSound None) parted b.sound);
}

-- with more bytes behind
pub begins-longer : (stream further : List ℕ) (items : List Item) → Begins stream items → Begins (stream ++ further) items
begins-longer stream further items b = record {
  more = b.more ++ further;
  spelled = ap (λ (t : List ℕ). t ++ further) b.spelled ∙ append_assoc (spellings items) b.more further;
  sound = b.sound;
}

follows-begins : (stream : List ℕ) (given : List Item) (reader : State) → Follows stream given reader → Begins stream given
follows-begins stream given reader f =
    let all : Begins stream (given ++ reader.waiting) = record { more = f.reads.more; spelled = f.reads.spelled; sound = f.reads.sound } in
    begins-front stream (given ++ reader.waiting) given reader.waiting all refl

begun-part : (stream : List ℕ) (given : List Item) (replies : List ℕ) → Begins stream given → IsPart given replies → IsBegun stream replies
begun-part stream given replies b p = record { items = p.items; begins = begins-front stream given p.items p.more b p.parted; within = p.within; served = p.served }

-- a stop among the items of a stream is one in the stream
pub stops-stream : (stream : List ℕ) (given : List Item) (replies : List ℕ) (stop : ServiceStop) → Begins stream given → StopsIn given replies stop → StopsStream stream replies stop
stops-stream stream given replies (Noted Usage) b s = absurd s
stops-stream stream given replies (Noted ReadFault) b s = absurd s
stops-stream stream given replies (Noted (Found (Refused byte) note)) b s = absurd s.0
stops-stream stream given replies (Noted (Found (Ended byte) note)) b s = absurd s.0
stops-stream stream given replies (Noted (Found (Over limit) note)) b s =
    let p = s.0 in
    let parted : given ≡ (p.items ++ p.item ∷ []) ++ p.more = p.parted ∙ sym (append_assoc p.items (p.item ∷ []) p.more) in
    let begins = begins-front stream given (p.items ++ p.item ∷ []) p.more b parted in
    ((record { items = p.items; within = p.within; ends = (p.item, (begins, p.passes)) }, p.served), s.1)
stops-stream stream given replies (Noted Memory) b s = begun-part stream given replies b s
stops-stream stream given replies WriteFault b s = begun-part stream given replies b s

-- ---- a piece

pub piece-sound : (read sent : List ℕ) (old : State) (service : Option OpenService) (a : IsAt read sent old service) (stream : List ℕ) (items : List Item) (new : State)
    → Follows stream (a.given ++ items) new → AreSound (known_of service) items
piece-sound read sent old service a stream items new f =
    let all : AreSound None (a.given ++ items) = sound_first None (a.given ++ items) new.waiting f.reads.sound in
    subst (λ known. AreSound known items) (sym a.known) (sound_rest None a.given items all)

pub at-next : (read sent piece replies : List ℕ) (old new : State) (s t : Option OpenService) (items : List Item) (a : IsAt read sent old s)
    → Follows (read ++ piece) (a.given ++ items) new → IsReading new → known_of t ≡ all_told (known_of s) items → Goes s t items replies → IsAt (read ++ piece) (sent ++ replies) new t
at-next read sent piece replies old new s t items a follows reading known goes = record {
  given = a.given ++ items;
  follows = follows;
  reading = reading;
  known = known ∙ ap (λ k. all_told k items) a.known ∙ sym (told_on None a.given items);
  served = goes a.given sent a.served;
}

pub piece-stops : (read sent piece replies : List ℕ) (old new : State) (s : Option OpenService) (items : List Item) (stop : ServiceStop) (a : IsAt read sent old s)
    → Follows (read ++ piece) (a.given ++ items) new → Halts s items replies stop → StopsStream (read ++ piece) (sent ++ replies) stop
piece-stops read sent piece replies old new s items stop a follows halts =
    stops-stream (read ++ piece) (a.given ++ items) (sent ++ replies) stop (follows-begins (read ++ piece) (a.given ++ items) new follows) (halts a.given sent a.served)

-- the replies so far are those to all items that were handed out
pub at-begun : (read sent : List ℕ) (reader : State) (s : Option OpenService) → IsAt read sent reader s → IsBegun read sent
at-begun read sent reader s a =
    let both = served-within s a.given sent a.served in
    record { items = a.given; begins = follows-begins read a.given reader a.follows; within = both.0; served = both.1 }

-- memory ran out before the piece was taken
pub piece-wanting : (read sent piece : List ℕ) (old : State) (s : Option OpenService) → IsAt read sent old s → StopsStream (read ++ piece) (sent ++ []) (Noted Memory)
piece-wanting read sent piece old s a =
    let b = at-begun read sent old s a in
    let begun : IsBegun (read ++ piece) sent = record { items = b.items; begins = begins-longer read piece b.items b.begins; within = b.within; served = b.served } in
    subst (IsBegun (read ++ piece)) (sym (append-nil sent)) begun

-- ---- a refused field

pub held-back : (read sent piece : List ℕ) (old new : State) (s : Option OpenService) (byte : ℕ) (a : IsAt read sent old s) → Follows (read ++ piece) a.given new → new.end ≡ readings.Refused byte
    → IsHeldBack (read ++ piece) sent new s byte
held-back read sent piece old new s byte a follows refused = record { given = a.given; follows = follows; refused = refused; known = a.known; served = a.served }

pub held-sound : (read sent : List ℕ) (reader : State) (s : Option OpenService) (byte : ℕ) → IsHeldBack read sent reader s byte → AreSound (known_of s) reader.waiting
held-sound read sent reader s byte h = subst (λ known. AreSound known reader.waiting) (sym h.known) (sound_rest None h.given reader.waiting h.follows.reads.sound)

held-begins : (read sent : List ℕ) (reader : State) (s : Option OpenService) (byte : ℕ) (h : IsHeldBack read sent reader s byte) → Begins read (h.given ++ reader.waiting)
held-begins read sent reader s byte h = record { more = h.follows.reads.more; spelled = h.follows.reads.spelled; sound = h.follows.reads.sound }

pub held-stops : (read sent replies : List ℕ) (reader : State) (s : Option OpenService) (byte : ℕ) (stop : ServiceStop) → IsHeldBack read sent reader s byte → Halts s reader.waiting replies stop
    → StopsStream read (sent ++ replies) stop
held-stops read sent replies reader s byte stop h halts =
    stops-stream read (h.given ++ reader.waiting) (sent ++ replies) stop (held-begins read sent reader s byte h) (halts h.given sent h.served)

-- the items before it are served, so it is what is found
pub held-found : (read sent replies : List ℕ) (reader : State) (s t : Option OpenService) (byte : ℕ) (stop : ProgramStop ServiceFinding) → IsHeldBack read sent reader s byte
    → Goes s t reader.waiting replies → IsStopOf finding_line (Refused byte) stop → StopsStream read (sent ++ replies) (Noted stop)
held-found read sent replies reader s t byte stop h goes (inl e) =
    let all = h.given ++ reader.waiting in
    let both = served-within t all (sent ++ replies) (goes h.given sent h.served) in
    let reads : Reads read all (readings.Refused byte) = subst (Reads read all) h.refused h.follows.reads in
    let found : IsFoundServed read (Refused byte) (sent ++ replies) = (record { items = all; within = both.0; ends = reads }, both.1) in
    subst (λ p. StopsStream read (sent ++ replies) (Noted p)) (sym e) (found, refl)
held-found read sent replies reader s t byte stop h goes (inr e) =
    let all = h.given ++ reader.waiting in
    let both = served-within t all (sent ++ replies) (goes h.given sent h.served) in
    let begun : IsBegun read (sent ++ replies) = record { items = all; begins = held-begins read sent reader s byte h; within = both.0; served = both.1 } in
    subst (λ p. StopsStream read (sent ++ replies) (Noted p)) (sym e) begun

-- ---- what pieces and refusals come to, with what out gains

-- a refused field was found, behind items that were served
pub refused-found : (reader : State) (s t : Option OpenService) (byte : ℕ) (items : List Item) (before after : Option (List ℕ)) (faults now : ℕ) (found : ProgramStop ServiceFinding) (stop : ServiceStop)
    → items ≡ reader.waiting → ((replies : List ℕ) × (Appends before after replies × Goes s t items replies)) → IsStopOf finding_line (Refused byte) found → stop ≡ Noted found
    → (replies : List ℕ) × (IsWritten stop before after faults now replies × ((read sent : List ℕ) → IsHeldBack read sent reader s byte → StopsStream read (sent ++ replies) stop))
refused-found reader s t byte items before after faults now found stop same (replies, (written, goes)) told is =
    let All : ServiceStop → Type 0 =
    λ stop. (replies : List ℕ) × (IsWritten stop before after faults now replies × ((read sent : List ℕ) → IsHeldBack read sent reader s byte → StopsStream read (sent ++ replies) stop)) in
    let served : Goes s t reader.waiting replies = subst (λ (x : List Item). Goes s t x replies) same goes in
    subst All (sym is) (replies, (written, λ read sent h. held-found read sent replies reader s t byte found h served told))

-- one of the items before it stopped the service
pub refused-stops : (reader : State) (s : Option OpenService) (byte : ℕ) (items : List Item) (before after : Option (List ℕ)) (faults now : ℕ) (stop : ServiceStop) → items ≡ reader.waiting
    → ((replies : List ℕ) × (IsWritten stop before after faults now replies × Halts s items replies stop))
    → (replies : List ℕ) × (IsWritten stop before after faults now replies × ((read sent : List ℕ) → IsHeldBack read sent reader s byte → StopsStream read (sent ++ replies) stop))
refused-stops reader s byte items before after faults now stop same (replies, (written, halts)) =
    let here : Halts s reader.waiting replies stop = subst (λ (x : List Item). Halts s x replies stop) same halts in
    (replies, (written, λ read sent h. held-stops read sent replies reader s byte stop h here))

-- what `feed` says of the items that it hands out
abbrev pub HandsOut : State → State → List ℕ → List Item → Type 0
HandsOut old new piece items = (stream : List ℕ) (given : List Item) → Follows stream given old → Follows (stream ++ piece) (given ++ items) new

-- the items of a piece were served
pub piece-served : (old new : State) (s t : Option OpenService) (piece : List ℕ) (items : List Item) (before after : Option (List ℕ)) → HandsOut old new piece items → IsReading new
    → known_of t ≡ all_told (known_of s) items → ((replies : List ℕ) × (Appends before after replies × Goes s t items replies))
    → (replies : List ℕ) × (Appends before after replies × ((read sent : List ℕ) → IsAt read sent old s → IsAt (read ++ piece) (sent ++ replies) new t))
piece-served old new s t piece items before after hands reading known (replies, (written, goes)) =
    (replies, (written, λ read sent a. at-next read sent piece replies old new s t items a (hands read a.given a.follows) reading known goes))

-- two facts of a result that is Ok make a third
pub served-of : {T E P Q R : Type 0} (r : Result T E) → OnOk r P → OnOk r Q → (P → Q → R) → OnOk r R
served-of (Ok x) p q both = both p q
served-of (Err e) p q both = tt

-- one of them stopped the service
pub piece-halts : (old new : State) (s : Option OpenService) (piece : List ℕ) (items : List Item) (before after : Option (List ℕ)) (faults now : ℕ) (stop : ServiceStop) → HandsOut old new piece items
    → ((replies : List ℕ) × (IsWritten stop before after faults now replies × Halts s items replies stop))
    → (replies : List ℕ) × (IsWritten stop before after faults now replies × ((read sent : List ℕ) → IsAt read sent old s → StopsStream (read ++ piece) (sent ++ replies) stop))
piece-halts old new s piece items before after faults now stop hands (replies, (written, halts)) =
    (replies, (written, λ read sent a. piece-stops read sent piece replies old new s items stop a (hands read a.given a.follows) halts))

-- a field in it is refused
pub piece-refused : (old new : State) (s : Option OpenService) (piece : List ℕ) (byte : ℕ) (before after : Option (List ℕ)) (faults now : ℕ) (stop : ServiceStop)
    → ((stream : List ℕ) (given : List Item) → Follows stream given old → Follows (stream ++ piece) given new) → new.end ≡ readings.Refused byte
    → ((replies : List ℕ) × (IsWritten stop before after faults now replies × ((read sent : List ℕ) → IsHeldBack read sent new s byte → StopsStream read (sent ++ replies) stop)))
    → (replies : List ℕ) × (IsWritten stop before after faults now replies × ((read sent : List ℕ) → IsAt read sent old s → StopsStream (read ++ piece) (sent ++ replies) stop))
piece-refused old new s piece byte before after faults now stop follows refused (replies, (written, stops)) =
    (replies, (written, λ read sent a. stops (read ++ piece) sent (held-back read sent piece old new s byte a (follows read a.given a.follows) refused)))

-- ---- the end

pub at-reads : (read sent : List ℕ) (reader : State) (s : Option OpenService) (a : IsAt read sent reader s) → Reads read a.given (Unfinished (bytes_of reader.end))
at-reads read sent reader s a =
    let waits : WaitsFor (Unfinished (bytes_of reader.end)) reader.waiting = subst (λ end. WaitsFor end reader.waiting) a.reading a.follows.waits in
    let same : a.given ++ reader.waiting ≡ a.given = ap (λ (w : List Item). a.given ++ w) waits ∙ append-nil a.given in
    subst (λ items. Reads read items (Unfinished (bytes_of reader.end))) same (subst (Reads read (a.given ++ reader.waiting)) a.reading a.follows.reads)

no-bytes : (bytes : List ℕ) → length bytes ≡ 0 → bytes ≡ []
no-bytes [] e = refl
no-bytes (b ∷ bytes) e = absurd (omega (arith, e))

-- how many bytes are left behind the items
left-over : (reader : State) → IsReading reader → unfinished reader.end ≡ length (bytes_of reader.end)
left-over reader reading = ap unfinished reading

pub end-whole : (read sent : List ℕ) (reader : State) (service : Option OpenService) → is_some service ≡ true → unfinished reader.end ≡ 0 → IsAt read sent reader service → IsServed read sent
end-whole read sent reader None some none a = absurd (let no : false ≡ true = some in cc no)
end-whole read sent reader (Some s) some none a =
    let o = a.served in
    let rest : bytes_of reader.end ≡ [] = no-bytes (bytes_of reader.end) (sym (left-over reader a.reading) ∙ none) in
    let P : List Item → List ℕ → Type 0 = λ items bytes. Reads read items (Unfinished bytes) in
    let reads = subst (λ items. P items []) o.whole (subst (P a.given) rest (at-reads read sent reader (Some s) a)) in (
      record {
        opening = Opening o.count o.bytes o.buffer o.all;
        frames = o.behind;
        reads = reads;
        within = sym (ap limit_in o.whole) ∙ o.within;
      },
      (s.row, o.replied),
    )

-- the test whether the stream is whole
true-both : (a b : Bool) → (a && b) ≡ true → (a ≡ true) × (b ≡ true)
true-both true b e = (refl, e)
true-both false b e = absurd (let no : false ≡ true = e in cc no)

pub tested-whole : (read sent : List ℕ) (reader : State) (service : Option OpenService) (whole : Bool) → whole ≡ (is_some service && unfinished reader.end == 0) → whole ≡ true
    → IsAt read sent reader service → IsServed read sent
tested-whole read sent reader service whole is holds a =
    let both = true-both (is_some service) (unfinished reader.end == 0) (sym is ∙ holds) in
    end-whole read sent reader service both.0 (eqb-true (unfinished reader.end) 0 both.1) a

never-both : (b : Bool) → b ≡ true → b ≡ false → ⊥
never-both b holds fails = let both : true ≡ false = sym holds ∙ fails in cc both

cut-off : (read sent : List ℕ) (reader : State) (service : Option OpenService) (a : IsAt read sent reader service) → (is_some service && unfinished reader.end == 0) ≡ false
    → (a.given ≡ []) ⊎ (bytes_of reader.end ≢ [])
cut-off read sent reader None a fails = inl a.served.0
cut-off read sent reader (Some s) a fails =
    inr (λ none. never-both (unfinished reader.end == 0) (eq-eqb (unfinished reader.end) 0 (left-over reader a.reading ∙ ap length none)) fails)

pub tested-ended : (read sent : List ℕ) (reader : State) (service : Option OpenService) (whole : Bool) (bytes : ℕ) → whole ≡ (is_some service && unfinished reader.end == 0) → whole ≡ false
    → bytes ≡ length read → IsAt read sent reader service → IsFoundServed read (Ended bytes) sent
tested-ended read sent reader service whole bytes is fails count a =
    let both = served-within service a.given sent a.served in (
      record {
        items = a.given;
        within = both.0;
        ends = (bytes_of reader.end, (at-reads read sent reader service a, cut-off read sent reader service a (sym is ∙ fails), count));
      },
      both.1,
    )

-- ---- room

-- where many bytes may still come, fewer may
room-at : (end : End) (at m n : ℕ) → m ≤ n → HasRoomAt end at n → HasRoomAt end at m
room-at (Unfinished rest) at m n less room = omega (arith, less, room)
room-at (readings.Refused byte) at m n less room = tt

pub room-less : (reader : State) (m n : ℕ) → m ≤ n → HasRoom reader n → HasRoom reader m
room-less reader m n less room = room-at reader.end reader.at m n less room
