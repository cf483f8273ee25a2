-- Which entries an order names that is answered GOOD: none, or the one that it made.
use Rattle.std.proofs.Common.{true, ◌≡◌, ◌⊎◌, ℕ, List, [], ◌∷◌, ap, inl, inr}
use Rattle.array_journal.specs.declared.at.At.{At}
use Rattle.array_journal.specs.declared.entry.Entry.{Entry}
use Rattle.array_journal.specs.declared.event.Event.{Event}
use Rattle.sbc_cdbs.specs.declared.commands.Command.{Command}
use Rattle.sbc_cdbs.specs.declared.commands.Command.TheVariants.{Read, Write, XdWrite, XpWrite, XdRead, XdWriteRead, ModeSelect, ModeSense, XdWriteExtended, Rebuild, Regenerate}
use Rattle.xor_target.specs.declared.order.Order.{Order}
use Rattle.xor_target.specs.declared.answer.Answer.{Answer}
use Rattle.xor_target.specs.declared.answer.Answer.TheVariants.{Good}
use Rattle.xor_target.specs.Admission.{command_in}
use Rattle.xor_target.specs.Gathers.{done_order}
use Rattle.xor_target.specs.State.{TargetState}
use Rattle.xor_target.specs.Answers.{next_entry, next_name, IsActed, Does, Fails, IsSent, Sends, Drops, Loses, IsGathered, Alone, Begins, IsExecuted, IsAnswered, WantsMemory, Tells, Executes}
use Rattle.xor_target.proofs.RigReads.{told-good}

abbrev pub Named : ℕ → List At → TargetState → TargetState → Type 0
Named stamp made t next =
    ((made ≡ []) × (next.past ≡ t.past)) ⊎ ((made ≡ next_name t stamp ∷ []) × ((event : Event) × (next.past ≡ next_entry t stamp event ∷ t.past)))

abbrev past_in : TargetState → List Entry
past_in t = t.past

same-names : (bytes own : List ℕ) (made names : List At) (said : Answer) → said ≡ Good bytes made → said ≡ Good own names → made ≡ names
same-names bytes own made names said is says = cc

acted : (t : TargetState) (order : Order) (said : Answer) (next : TargetState) (command : Command) (bytes : List ℕ) (made : List At) → said ≡ Good bytes made →
    IsActed true t order command said next → Named order.stamp made t next
acted t order said next command bytes made is (Does own done says) = inr (same-names bytes own made (next_name t order.stamp ∷ []) said is says, (done.effect.event, ap past_in done.grown))
acted t order said next command bytes made is (Fails struck says) = absurd cc

sent : (t : TargetState) (order : Order) (said : Answer) (next : TargetState) (command : Command) (second count address : ℕ) (bytes : List ℕ) (made : List At) → said ≡ Good bytes made →
    IsSent true t order command second count address said next → Named order.stamp made t next
sent t order said next command second count address bytes made is (Sends delta done goes does after says) = absurd cc
sent t order said next command second count address bytes made is (Drops delta drops does says) = absurd cc
sent t order said next command second count address bytes made is (Loses struck says) = absurd cc

gathered : (t : TargetState) (order : Order) (said : Answer) (next : TargetState) (command : Command) (bytes : List ℕ) (made : List At) → said ≡ Good bytes made →
    IsGathered true t order command said next → Named order.stamp made t next
gathered t order said next command bytes made is (Alone g first none does) = acted t (done_order g [] [] order.stamp) said next command bytes made is does
gathered t order said next command bytes made is (Begins g source first asks says after) = absurd cc

executed : (t : TargetState) (order : Order) (said : Answer) (next : TargetState) (command : Command) (bytes : List ℕ) (made : List At) → said ≡ Good bytes made →
    IsExecuted true t order said next command → Named order.stamp made t next
executed t order said next (ModeSense dbd pc page allocation) bytes made is s = inl (same-names bytes _ made [] said is s.says, ap past_in s.same)
executed t order said next (ModeSelect pf sp list) bytes made is s = inl (same-names bytes [] made [] said is s.says, ap past_in s.same)
executed t order said next (Read dpo fua lba count) bytes made is s = acted t order said next (Read dpo fua lba count) bytes made is s
executed t order said next (Write dpo fua lba count) bytes made is s = acted t order said next (Write dpo fua lba count) bytes made is s
executed t order said next (XdWrite dpo fua disable lba count) bytes made is s = acted t order said next (XdWrite dpo fua disable lba count) bytes made is s
executed t order said next (XpWrite dpo fua lba count) bytes made is s = acted t order said next (XpWrite dpo fua lba count) bytes made is s
executed t order said next (XdRead lba count) bytes made is s = acted t order said next (XdRead lba count) bytes made is s
executed t order said next (XdWriteRead dpo fua disable lba count) bytes made is s = acted t order said next (XdWriteRead dpo fua disable lba count) bytes made is s
executed t order said next (XdWriteExtended dpo fua disable lba second count address) bytes made is s =
    sent t order said next (XdWriteExtended dpo fua disable lba second count address) second count address bytes made is s
executed t order said next (Rebuild dpo fua intdata lba count list) bytes made is s = gathered t order said next (Rebuild dpo fua intdata lba count list) bytes made is s
executed t order said next (Regenerate dpo fua intdata lba count list) bytes made is s = gathered t order said next (Regenerate dpo fua intdata lba count list) bytes made is s

pub good-names : (t : TargetState) (order : Order) (said : Answer) (next : TargetState) (bytes : List ℕ) (made : List At) → said ≡ Good bytes made → IsAnswered true t order said next →
    Named order.stamp made t next
good-names t order said next bytes made is (WantsMemory early memory same) = absurd cc
good-names t order said next bytes made is (Tells early same) = inl ((told-good t order said early bytes made is).1, ap past_in same)
good-names t order said next bytes made is (Executes early by) = executed t order said next (command_in order.cdb) bytes made is by
