-- What stands on the media and in the buffers of the targets.
use Rattle.std.specs.Prelude.{◌==◌, not, ◌||◌, ℕ, suc, ◌+◌, ◌-◌, ◌*◌, true, false, List, [], ◌∷◌, ◌++◌, length, filter, if◌then◌else◌}
use Rattle.blocks_core.specs.Xor.{xor, zeros}
use Rattle.stripe_layout.specs.Layout.{rows_of}
use Rattle.array_journal.specs.declared.entry.Entry.{Entry}
use Rattle.array_journal.specs.declared.event.Event.{Event}
use Rattle.array_journal.specs.declared.event.Event.TheVariants.{Put, Diff, Take, Fold, Hold, Shut, Gone, Wiped, Fresh}
use Rattle.array_journal.specs.declared.event.What.TheVariants.{Buffers, Request}
use Rattle.array_journal.specs.declared.setting.Setting.{Setting}
use Rattle.blocks_core.specs.Lists.{slice, put}
use Rattle.xor_buffers.specs.declared.held.HeldBlocks.{HeldBlocks}
use Rattle.xor_buffers.specs.Held.{take_rows}

-- The medium of a target after an event there: a put and a diff write their bytes over their rows, a fold
-- the exclusive-or of its bytes with what stood there; a fresh disk is zeros.
abbrev pub medium_after : Setting → Event → List ℕ → List ℕ
medium_after s (Put command opened cdb row bytes names) old = put old (row * s.geometry.block) bytes
medium_after s (Diff command opened cdb row bytes sent dropped back) old = put old (row * s.geometry.block) bytes
medium_after s (Fold command opened cdb row bytes names) old =
    put old (row * s.geometry.block) (xor (slice old (row * s.geometry.block) (length bytes)) bytes)
medium_after s (Fresh call swap) old = zeros (rows_of s.geometry * s.geometry.block)
medium_after s _ old = old

-- the bytes of target i's medium, zeros at first
abbrev pub media : Setting → ℕ → List Entry → List ℕ
media s i [] = zeros (rows_of s.geometry * s.geometry.block)
media s i (e ∷ past) = if e.lock == i + 1 then medium_after s e.event (media s i past) else media s i past

-- so many bytes of target i's medium from a row on
abbrev pub rows_on : Setting → ℕ → List Entry → ℕ → ℕ → List ℕ
rows_on s i past row len = slice (media s i past) (row * s.geometry.block) len

-- The held blocks of a target after an event there, over the medium before it: a diff that neither sends its delta nor
-- hands it back holds it, a hold that is kept its bytes; a take removes its rows, a shut what its command holds; a
-- loss, a wipe of the buffers and a fresh disk remove all.
abbrev pub held_after : Setting → List ℕ → Event → List HeldBlocks → List HeldBlocks
held_after s medium (Diff command opened cdb row bytes sent dropped back) old =
    if sent || back then old
    else old ++ record { owner = command; row = row; bytes = xor (slice medium (row * s.geometry.block) (length bytes)) bytes } ∷ []
held_after s medium (Hold command opened cdb row bytes kept names back) old =
    if kept then old ++ record { owner = command; row = row; bytes = bytes } ∷ [] else old
held_after s medium (Take command opened cdb row bytes) old = take_rows s.geometry.block row (length bytes) old
held_after s medium (Shut command opened acted lost) old = filter (λ h. not (h.owner == command)) old
held_after s medium (Gone life call commands) old = []
held_after s medium (Wiped Buffers call commands) old = []
held_after s medium (Fresh call swap) old = []
held_after s medium _ old = old

-- what target i holds, nothing at first
abbrev pub held : Setting → ℕ → List Entry → List HeldBlocks
held s i [] = []
held s i (e ∷ past) = if e.lock == i + 1 then held_after s (media s i past) e.event (held s i past) else held s i past

-- how many requests to peers are to be dropped after an event: a wipe of a request adds one, whatever is sent to a
-- peer uses one up
abbrev pub drops_after : Event → ℕ → ℕ
drops_after (Wiped Request call commands) n = suc n
drops_after (Diff command opened cdb row bytes true dropped back) n = n - 1
drops_after (Hold command opened cdb row bytes false names false) n = n - 1
drops_after _ n = n

abbrev pub drops : ℕ → List Entry → ℕ
drops i [] = 0
drops i (e ∷ past) = if e.lock == i + 1 then drops_after e.event (drops i past) else drops i past
