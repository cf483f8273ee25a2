-- How far a stream is served, and with which replies.
use Rattle.std.specs.Prelude.{◌≡◌, ℕ, List, [], ◌∷◌, ◌++◌, None}
use Rattle.target_frames.specs.declared.items.Item.{Item}
use Rattle.target_frames.specs.Frames.{Unfinished, Reads, AreSound, spellings}
use Rattle.target_service.specs.Answered.{AreServed}
use Rattle.target_service.specs.Limits.{limit_in}

-- a stream begins with these items
pub record Begins (stream : List ℕ) (items : List Item) : Type 0 where
  pub more : List ℕ
  pub spelled : stream ≡ spellings items ++ more
  pub sound : AreSound None items

-- the stream ended behind an opening and whole frames, and no limit is passed
pub record IsWhole (stream : List ℕ) : Type 0 where
  pub opening : Item
  pub frames : List Item
  pub reads : Reads stream (opening ∷ frames) (Unfinished [])
  pub within : limit_in (opening ∷ frames) ≡ None

-- such a stream, with the replies to all its frames
abbrev pub IsServed : List ℕ → List ℕ → Type 0
IsServed stream replies = (w : IsWhole stream) × AreServed (w.opening ∷ w.frames) replies

-- these are the replies to some of the whole frames that a stream begins with, the first ones
pub record IsBegun (stream replies : List ℕ) : Type 0 where
  pub items : List Item
  pub begins : Begins stream items
  pub within : limit_in items ≡ None
  pub served : AreServed items replies

-- these are the replies to all the whole frames of what was read of a stream
pub record IsReadTo (stream replies : List ℕ) : Type 0 where
  pub read : List ℕ
  pub left : List ℕ
  pub parted : stream ≡ read ++ left
  pub items : List Item
  pub rest : List ℕ
  pub reads : Reads read items (Unfinished rest)
  pub within : limit_in items ≡ None
  pub served : AreServed items replies
