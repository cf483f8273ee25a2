-- A reader that takes one more piece.
use Rattle.std.proofs.Common.{◌≡◌, ℕ, ◌+◌, List, ◌++◌, length, drop, Option, Some, None, Result, Ok, Err, sym, ap, subst, ◌∙◌, arith}
use Rattle.std.specs.Prelude.{IfOk, IfErr}
use Rattle.std.proofs.lemmas.List.{append-nil, length-append}
use Rattle.std.proofs.lemmas.List.Concat.{flat_map-append}
use Rattle.target_frames.specs.declared.items.Item.{Item}
use Rattle.target_frames.specs.declared.fault.FrameFault.{FrameFault}
use Rattle.target_frames.specs.declared.fault.FrameFault.TheVariants.{Field, Memory}
use Rattle.target_frames.specs.declared.splitting.Split.{Split}
use Rattle.target_frames.specs.Frames.{End, Unfinished, Refused, Reads, ReadsFrom, told, all_told, spelling, spellings}
use Rattle.target_frames.specs.Splits.{Splits, end_at, passed, passed_by, IsFieldOf}
use Rattle.target_frames.specs.State.{State, Follows, IsReading, bytes_of}
use Rattle.target_frames.proofs.Streams.{joined, moved, reads_at, told_on, stays_refused}

-- a reader that waits for bytes, without the items that wait for nobody
record IsOpen (stream : List ℕ) (given : List Item) (targets : Option ℕ) (at : ℕ) (rest : List ℕ) : Type 0 where
  pub reads : Reads stream given (Unfinished rest)
  pub targets_are : targets ≡ all_told None given
  pub place : at ≡ length (spellings given)

is_open : (stream : List ℕ) (given : List Item) (targets : Option ℕ) (at : ℕ) (rest : List ℕ) (waiting : List Item)
    → Follows stream given (record { targets = targets; at = at; end = Unfinished rest; waiting = waiting }) → IsOpen stream given targets at rest
is_open stream given targets at rest waiting f =
    let same : given ++ waiting ≡ given = ap (λ (w : List Item). given ++ w) f.waits ∙ append-nil given in
    record {
      reads = subst (λ (items : List Item). Reads stream items (Unfinished rest)) same f.reads;
      targets_are = f.targets ∙ ap (all_told None) same;
      place = f.at ∙ ap (λ (items : List Item). length (spellings items)) same;
    }

-- what is read of the stream with the piece
record IsFurther (stream : List ℕ) (items : List Item) (end : End) (targets : Option ℕ) (at : ℕ) : Type 0 where
  pub reads : Reads stream items end
  pub targets_are : targets ≡ all_told None items
  pub place : at ≡ length (spellings items)

read_on : (stream piece : List ℕ) (given : List Item) (targets : Option ℕ) (at : ℕ) (rest : List ℕ) (s : Split) → IsOpen stream given targets at rest → Splits targets (rest ++ piece) s
    → IsFurther (stream ++ piece) (given ++ s.items) (moved at (end_at s.used (rest ++ piece) s.wrong)) s.targets (at + s.used)
read_on stream piece given targets at rest s o p =
    let end = moved at (end_at s.used (rest ++ piece) s.wrong) in
    let P : Option ℕ → ℕ → Type 0 = λ k n. ReadsFrom k n (rest ++ piece) s.items end in
    let place : at ≡ 0 + length (spellings given) = omega (arith, o.place) in
    let here : P targets at = reads_at targets at (rest ++ piece) s.items (end_at s.used (rest ++ piece) s.wrong) p.reads in
    let there : P (all_told None given) (0 + length (spellings given)) = subst (λ k. P k (0 + length (spellings given))) o.targets_are (subst (P targets) place here) in
    record {
      reads = joined None 0 stream piece rest given s.items end o.reads there;
      targets_are = p.targets ∙ ap (λ k. all_told k s.items) o.targets_are ∙ sym (told_on None given s.items);
      place = omega (arith, o.place, p.used, ap length (flat_map-append spelling given s.items), length-append (spellings given) (spellings s.items));
    }

-- without a field that isn't right the items are handed out
follows_on : (stream piece : List ℕ) (given : List Item) (targets : Option ℕ) (at : ℕ) (rest : List ℕ) (waiting : List Item) (s : Split)
    → Follows stream given (record { targets = targets; at = at; end = Unfinished rest; waiting = waiting }) → Splits targets (rest ++ piece) s → s.wrong ≡ None
    → Follows (stream ++ piece) (given ++ s.items) (record { targets = s.targets; at = at + s.used; end = Unfinished (drop s.used (rest ++ piece)); waiting = waiting })
follows_on stream piece given targets at rest waiting s f p clean =
    let all = read_on stream piece given targets at rest s (is_open stream given targets at rest waiting f) p in
    let E : Option ℕ → End = λ w. moved at (end_at s.used (rest ++ piece) w) in
    let reads : Reads (stream ++ piece) (given ++ s.items) (Unfinished (drop s.used (rest ++ piece))) =
    subst (λ w. Reads (stream ++ piece) (given ++ s.items) (E w)) clean all.reads in
    let same : given ++ s.items ≡ given ++ s.items ++ waiting =
    sym (append-nil (given ++ s.items)) ∙ ap (λ (w : List Item). given ++ s.items ++ w) (sym f.waits) in
    record {
      reads = subst (λ (items : List Item). Reads (stream ++ piece) items (Unfinished (drop s.used (rest ++ piece)))) same reads;
      targets = all.targets_are ∙ ap (all_told None) same;
      at = all.place ∙ ap (λ (items : List Item). length (spellings items)) same;
      waits = f.waits;
    }

-- with one they wait
follows_refused : (stream piece : List ℕ) (given : List Item) (targets : Option ℕ) (at : ℕ) (rest : List ℕ) (waiting : List Item) (s : Split) (field : ℕ)
    → Follows stream given (record { targets = targets; at = at; end = Unfinished rest; waiting = waiting }) → Splits targets (rest ++ piece) s → s.wrong ≡ Some field
    → Follows (stream ++ piece) given (record { targets = s.targets; at = at + s.used; end = Refused (at + s.used + field); waiting = s.items })
follows_refused stream piece given targets at rest waiting s field f p wrong_is =
    let all = read_on stream piece given targets at rest s (is_open stream given targets at rest waiting f) p in
    let E : Option ℕ → End = λ w. moved at (end_at s.used (rest ++ piece) w) in
    let same : at + (s.used + field) ≡ at + s.used + field = omega arith in
    record {
      reads = subst (λ b. Reads (stream ++ piece) (given ++ s.items) (Refused b)) same (subst (λ w. Reads (stream ++ piece) (given ++ s.items) (E w)) wrong_is all.reads);
      targets = all.targets_are;
      at = all.place;
      waits = tt;
    }

-- ---- over the states of `feed`

-- the state with the piece behind the unfinished item
abbrev pub with_piece : State → List ℕ → State
with_piece old piece = record { targets = old.targets; at = old.at; end = Unfinished (bytes_of old.end ++ piece); waiting = old.waiting }

pub goes_further : (old new : State) (stream piece : List ℕ) (given : List Item) (s : Split) → IsReading old → Splits old.targets (bytes_of old.end ++ piece) s → s.wrong ≡ None
    → new ≡ passed (with_piece old piece) s → Follows stream given old → Follows (stream ++ piece) (given ++ s.items) new
goes_further old new stream piece given s reading p clean is f =
    let here : Follows stream given (record { targets = old.targets; at = old.at; end = Unfinished (bytes_of old.end); waiting = old.waiting }) =
    subst (λ e. Follows stream given (record { targets = old.targets; at = old.at; end = e; waiting = old.waiting })) reading f in
    let state : new ≡ passed_by None (with_piece old piece) s = is ∙ ap (λ w. passed_by w (with_piece old piece) s) clean in
    subst (λ n. Follows (stream ++ piece) (given ++ s.items) n) (sym state) (follows_on stream piece given old.targets old.at (bytes_of old.end) old.waiting s here p clean)

pub is_refused : (old new : State) (stream piece : List ℕ) (given : List Item) (s : Split) (field : ℕ) → IsReading old → Splits old.targets (bytes_of old.end ++ piece) s → s.wrong ≡ Some field
    → new ≡ passed (with_piece old piece) s → Follows stream given old → Follows (stream ++ piece) given new
is_refused old new stream piece given s field reading p wrong_is is f =
    let here : Follows stream given (record { targets = old.targets; at = old.at; end = Unfinished (bytes_of old.end); waiting = old.waiting }) =
    subst (λ e. Follows stream given (record { targets = old.targets; at = old.at; end = e; waiting = old.waiting })) reading f in
    let state : new ≡ passed_by (Some field) (with_piece old piece) s = is ∙ ap (λ w. passed_by w (with_piece old piece) s) wrong_is in
    subst (λ n. Follows (stream ++ piece) given n) (sym state) (follows_refused stream piece given old.targets old.at (bytes_of old.end) old.waiting s field here p wrong_is)

-- the items that are handed out are those of the piece
pub handed_out : (old new : State) (piece : List ℕ) (s : Split) (r : Result (List Item) FrameFault) → IsReading old → Splits old.targets (bytes_of old.end ++ piece) s
    → new ≡ passed (with_piece old piece) s → IfOk r (λ items. (s.wrong ≡ None) × (items ≡ s.items))
    → IfOk r (λ items. (stream : List ℕ) (given : List Item) → Follows stream given old → Follows (stream ++ piece) (given ++ items) new)
handed_out old new piece s (Ok items) reading p is told = λ stream given f.
    subst (λ (i : List Item). Follows (stream ++ piece) (given ++ i) new) (sym told.1) (goes_further old new stream piece given s reading p told.0 is f)
handed_out old new piece s (Err e) reading p is told = tt

-- those before a refused field wait
pub held_back : (old new : State) (piece : List ℕ) (s : Split) (r : Result (List Item) FrameFault) → IsReading old → Splits old.targets (bytes_of old.end ++ piece) s
    → new ≡ passed (with_piece old piece) s → IfErr r (IsFieldOf (with_piece old piece) s)
    → (byte : ℕ) → r ≡ Err (Field byte) → (stream : List ℕ) (given : List Item) → Follows stream given old → Follows (stream ++ piece) given new
held_back old new piece s (Ok items) reading p is told byte e stream given f = absurd cc
held_back old new piece s (Err (Field b)) reading p is told byte e stream given f = is_refused old new stream piece given s told.0 reading p told.1 is f
held_back old new piece s (Err Memory) reading p is told byte e stream given f = absurd told

-- whatever comes behind a refused field
pub stays : (old : State) (byte : ℕ) (stream piece : List ℕ) (given : List Item) → old.end ≡ Refused byte → Follows stream given old → Follows (stream ++ piece) given old
stays old byte stream piece given refused f = record {
  reads =
      subst (λ e. Reads (stream ++ piece) (given ++ old.waiting) e) (sym refused)
      (stays_refused None 0 stream piece (given ++ old.waiting) byte (subst (λ e. Reads stream (given ++ old.waiting) e) refused f.reads));
  targets = f.targets;
  at = f.at;
  waits = f.waits;
}
