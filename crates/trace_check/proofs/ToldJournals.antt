-- The journals that a script's calls ask for have only senses that a trace tells whole, and the names of a run rise.
use Rattle.std.proofs.Common.{◌≡◌, ◌+◌, ◌*◌, ◌/◌, ◌==◌, ◌||◌, ◌&&◌, nat_lt, nat_le, not, cond, ℕ, Bool, true, false, List, [], ◌∷◌, length, replicate, reverse, Option, Some, None, option_map, refl, sym, subst}
use Rattle.std.specs.List.{AllByRecursion}
use Rattle.std.proofs.lemmas.List.{reverse-reverse}
use Rattle.sbc_cdbs.specs.Faults.{reserved_bits}
use Rattle.sense_data.specs.declared.senses.Sense.{Sense}
use Rattle.stripe_layout.specs.declared.geometry.Geometry.{Geometry}
use Rattle.stripe_layout.specs.Layout.{capacity_of, parity_of}
use Rattle.array_journal.specs.declared.at.At.{At}
use Rattle.array_journal.specs.declared.entry.Entry.{Entry}
use Rattle.array_journal.specs.declared.event.Event.{Event}
use Rattle.array_journal.specs.declared.event.Event.TheVariants.{Fetch, Put, Diff, Take, Fold, Hold, Shut, Gone, Wiped, Fresh, Open, Close, Spoil, Note, Swap, Refuse}
use Rattle.array_journal.specs.declared.event.Why.{Why}
use Rattle.array_journal.specs.declared.setting.Setting.{Setting}
use Rattle.array_journal.specs.Entries.{name_of, at_lt}
use Rattle.array_journal.specs.declared.decision.Want.{Want}
use Rattle.array_journal.specs.declared.decision.Want.TheVariants.{Read as WantsRead, Write as WantsWrite, Rebuild as WantsRebuild, Resync as WantsResync}
use Rattle.array_journal.specs.declared.decision.Decision.{Decision}
use Rattle.array_journal.specs.declared.decision.Decision.TheVariants.{Opens, Refuses}
use Rattle.array_journal.specs.Decision.{missing_count, decision}
use Rattle.array_journal.specs.Listed.{is_listed}
use Rattle.array_journal.specs.Lives.{is_missing, is_unfitted}
use Rattle.array_journal.specs.Merge.{Rises}
use Rattle.array_journal.specs.Run.{Grows, Run}
use Rattle.host_scripts.specs.declared.script.Action.{Action}
use Rattle.host_scripts.specs.declared.script.Action.TheVariants as actions
use Rattle.host_scripts.specs.declared.script.Call.{Call}
use Rattle.host_scripts.specs.declared.script.Script.{Script}
use Rattle.stripe_check.specs.Asked.{IsDecided, AreDecided}
use Rattle.host_requests.specs.Begins.{Aim, Begin, Opening, Refusal, Swapping, aim_of, begin_decided, begin_aim, begin_request, begin_call, begin_of}
use Rattle.sbc_cdbs.specs.Faults.{first_offending}
use Rattle.host_requests.specs.Requests.{Request, Fails, Moves, Loses, Wipes, Replaces, Rebuilds, Resyncs, Transfer, illegal, field_fault, cdb_fault, bytes_due, transfer_fault, unless, moved, reading, writing, raw_transfer, request_of, call_at}
use Rattle.host_requests.specs.Settings.{setting_of}
use Rattle.journal_text.specs.Journals.{goes_on}
use Rattle.trace_check.specs.Laws.{ToldJournalsLaw}
use Rattle.journal_text.specs.Told.{IsToldSense, IsToldWhy, IsTold, IsToldEntry}
use Rattle.journal_text.proofs.InRange.{turned, all-turned}
use Rattle.journal_text.proofs.TraceLaws.{last_name, rises-more, last-more}

-- of two that are as asked, the one that is chosen is
chosen : {A : Type 0} (P : A → Type 0) (test : Bool) (a b : A) → P a → P b → P (cond test a b)
chosen P true a b p q = p
chosen P false a b p q = q

-- ---- the senses of calls that fail a test

abbrev IsToldFault : Option Sense → Type 0
IsToldFault None = Unit {0}
IsToldFault (Some sense) = IsToldSense sense

told-illegal : (asc : ℕ) (byte : Option ℕ) → IsToldSense (illegal asc byte)
told-illegal asc None = record { uninformed = refl; unspecific = refl; no_unit = refl; pointer = tt }
told-illegal asc (Some byte) = record { uninformed = refl; unspecific = refl; no_unit = refl; pointer = (refl, refl) }

told-byte : (byte : Option ℕ) → IsToldFault (option_map (λ b. illegal 0x24 (Some b)) byte)
told-byte None = tt
told-byte (Some byte) = told-illegal 0x24 (Some byte)

told-field : (mask : Option (List ℕ)) (cdb : List ℕ) → IsToldFault (field_fault mask cdb)
told-field None cdb = tt
told-field (Some mask) cdb =
    chosen IsToldFault (length cdb == length mask) _ _ (told-byte (first_offending 0 mask cdb)) (told-illegal 0x24 None)

told-cdb : (cdb : List ℕ) → IsToldFault (cdb_fault cdb)
told-cdb [] = told-illegal 0x24 None
told-cdb (code ∷ cdb) =
    chosen IsToldFault (code == 0x28 || code == 0x2a) _ _ (told-field (reserved_bits code) (code ∷ cdb)) (told-illegal 0x20 None)

told-transfer : (g : Geometry) (t : Transfer) → IsToldFault (transfer_fault g t)
told-transfer g t =
    chosen IsToldFault (nat_lt (capacity_of g) (t.lba + t.count)) _ _ (told-illegal 0x21 None)
    (chosen IsToldFault (length t.bytes == bytes_due g t.want t.count) _ _ tt (told-illegal 0x1a None))

-- ---- jobs

abbrev IsToldRequest : Request → Type 0
IsToldRequest (Fails sense) = IsToldSense sense
IsToldRequest (Moves t) = Unit {0}
IsToldRequest (Loses target) = Unit {0}
IsToldRequest (Wipes target what) = Unit {0}
IsToldRequest (Replaces slot) = Unit {0}
IsToldRequest (Rebuilds slot) = Unit {0}
IsToldRequest Resyncs = Unit {0}

told-unless : (fault : Option Sense) (job : Request) → IsToldFault fault → IsToldRequest job → IsToldRequest (unless fault job)
told-unless None job f j = j
told-unless (Some sense) job f j = f

told-moved : (g : Geometry) (t : Transfer) → IsToldRequest (moved g t)
told-moved g t = told-unless (transfer_fault g t) (Moves t) (told-transfer g t) tt

told-request : (g : Geometry) (action : Action) → IsToldRequest (request_of g action)
told-request g (actions.Read lba count) = told-moved g (reading lba count [])
told-request g (actions.Write lba bytes) = told-moved g (writing lba (length bytes / g.block) bytes)
told-request g (actions.Fill lba count byte) = told-moved g (writing lba count (replicate (count * g.block) byte))
told-request g (actions.Raw cdb bytes) = told-unless (cdb_fault cdb) (moved g (raw_transfer cdb bytes)) (told-cdb cdb) (told-moved g (raw_transfer cdb bytes))
told-request g (actions.Lose target) = tt
told-request g (actions.Reset target) = tt
told-request g (actions.DropNext target) = tt
told-request g (actions.Replace target) = tt
told-request g (actions.Rebuild target) = tt
told-request g actions.Resync = tt

-- ---- decisions

abbrev IsToldDecision : Decision → Type 0
IsToldDecision (Opens kind) = Unit {0}
IsToldDecision (Refuses why) = IsToldWhy why

told-decision : (s : Setting) (want : Want) (stripe i : ℕ) (past : List Entry) → IsToldDecision (decision s want stripe i past)
told-decision s WantsRead stripe i past =
    chosen IsToldDecision (is_missing i stripe past && is_listed stripe past) _ _ tt
    (chosen IsToldDecision (nat_le 2 (missing_count s stripe past)) _ _ tt
    (chosen IsToldDecision (not (is_missing i stripe past)) _ _ tt tt))
told-decision s WantsWrite stripe i past =
    chosen IsToldDecision (is_missing i stripe past && is_listed stripe past) _ _ tt
    (chosen IsToldDecision (nat_le 2 (missing_count s stripe past)) _ _ tt
    (chosen IsToldDecision (is_missing i stripe past) _ _ tt
    (chosen IsToldDecision (is_missing (parity_of s.geometry stripe) stripe past) _ _ tt tt)))
told-decision s WantsRebuild stripe i past =
    chosen IsToldDecision (is_unfitted i past) _ _ tt
    (chosen IsToldDecision (not (is_missing i stripe past)) _ _ tt
    (chosen IsToldDecision (is_listed stripe past && not (i == parity_of s.geometry stripe)) _ _ tt
    (chosen IsToldDecision (nat_le 2 (missing_count s stripe past)) _ _ tt tt)))
told-decision s WantsResync stripe i past =
    chosen IsToldDecision (not (is_listed stripe past)) _ _ tt
    (chosen IsToldDecision (nat_le 1 (missing_count s stripe past)) _ _ tt tt)

-- ---- what becomes of a piece

abbrev IsToldBegin : Option Begin → Type 0
IsToldBegin None = Unit {0}
IsToldBegin (Some (Opening task)) = Unit {0}
IsToldBegin (Some (Refusal why)) = IsToldWhy why
IsToldBegin (Some (Swapping slot)) = Unit {0}

told-as : (g : Geometry) (call piece : ℕ) (aim : Aim) (d : Decision) → IsToldDecision d → IsToldBegin (Some (begin_decided g call piece aim d))
told-as g call piece aim (Opens kind) told = tt
told-as g call piece aim (Refuses why) told = told

told-aim : (script : Script) (call piece : ℕ) (past : List Entry) (aim : Option Aim) → IsToldBegin (option_map (begin_aim script call piece past) aim)
told-aim script call piece past None = tt
told-aim script call piece past (Some aim) =
    let d = decision (setting_of script) aim.want aim.stripe aim.target past in
    told-as script.geometry call piece aim d (told-decision (setting_of script) aim.want aim.stripe aim.target past)

told-begin : (script : Script) (call piece : ℕ) (past : List Entry) (job : Request) → IsToldRequest job → IsToldBegin (begin_request script call piece past job)
told-begin script call piece past (Fails sense) told = chosen IsToldBegin (piece == 0) _ _ told tt
told-begin script call piece past (Replaces slot) told =
    chosen IsToldBegin (piece == 0) _ _ (chosen (λ (b : Begin). IsToldBegin (Some b)) (is_unfitted slot past) _ _ tt tt) tt
told-begin script call piece past (Moves t) told = told-aim script call piece past (aim_of script (Moves t) piece)
told-begin script call piece past (Loses target) told = told-aim script call piece past (aim_of script (Loses target) piece)
told-begin script call piece past (Wipes target what) told = told-aim script call piece past (aim_of script (Wipes target what) piece)
told-begin script call piece past (Rebuilds slot) told = told-aim script call piece past (aim_of script (Rebuilds slot) piece)
told-begin script call piece past Resyncs told = told-aim script call piece past (aim_of script Resyncs piece)

told-call : (script : Script) (number piece : ℕ) (past : List Entry) (call : Option Call) → IsToldBegin (begin_call script number piece past call)
told-call script number piece past None = tt
told-call script number piece past (Some call) =
    told-begin script number piece past (request_of script.geometry call.action) (told-request script.geometry call.action)

told-refusal : (script : Script) (call piece : ℕ) (past : List Entry) (why : Why) → begin_of script call piece past ≡ Some (Refusal why) → IsToldWhy why
told-refusal script call piece past why e = subst IsToldBegin e (told-call script call piece past (call_at script.calls call))

-- ---- events

told-event : (script : Script) (event : Event) (past : List Entry) → IsDecided script event past → IsTold event
told-event script (Fetch command opened cdb row bytes) past d = tt
told-event script (Put command opened cdb row bytes names) past d = tt
told-event script (Diff command opened cdb row bytes sent dropped back) past d = tt
told-event script (Take command opened cdb row bytes) past d = tt
told-event script (Fold command opened cdb row bytes names) past d = tt
told-event script (Hold command opened cdb row bytes kept names back) past d = tt
told-event script (Shut command opened acted lost) past d = tt
told-event script (Gone life call commands) past d = tt
told-event script (Wiped what call commands) past d = tt
told-event script (Fresh call swap) past d = tt
told-event script (Open command task) past d = tt
told-event script (Close command done names cause bytes) past d = tt
told-event script (Spoil command diff loss shut) past d = tt
told-event script (Note slot lost) past d = tt
told-event script (Swap slot call) past d = tt
told-event script (Refuse call piece why) past d = told-refusal script call piece past why d

told-entries : (script : Script) (past : List Entry) → AreDecided script past → AllByRecursion IsToldEntry past
told-entries script [] d = tt
told-entries script (e ∷ past) d = (told-event script e.event past d.0, told-entries script past d.1)

pub told-journal : ToldJournalsLaw
told-journal script journal asked =
    subst (AllByRecursion IsToldEntry) (reverse-reverse journal) (all-turned IsToldEntry (reverse journal) (told-entries script (reverse journal) asked.decided))

-- ---- names

last-turned : (e newest : Entry) (past : List Entry) → at_lt (name_of newest) (name_of e) ≡ true → goes_on (last_name (reverse (newest ∷ past))) e ≡ true
last-turned e newest past later =
    subst (λ (entries : List Entry). goes_on (last_name entries) e ≡ true) (sym (turned newest past))
    (subst (λ (name : Option At). goes_on name e ≡ true) (sym (last-more (reverse past) newest)) later)

rises-turned : (s : Setting) (past : List Entry) → Grows s past → Rises (reverse past)
rises-turned s [] g = tt
rises-turned s (e ∷ []) g = tt
rises-turned s (e ∷ newest ∷ past) g =
    let earlier = rises-turned s (newest ∷ past) g.1 in
    subst Rises (sym (turned e (newest ∷ past))) (rises-more (reverse (newest ∷ past)) e earlier (last-turned e newest past g.0.0))

pub run-rises : (s : Setting) (journal : List Entry) → Run s journal → Rises journal
run-rises s journal run = subst Rises (reverse-reverse journal) (rises-turned s (reverse journal) run)
