-- The rule of call lines.
use Rattle.std.proofs.Common.{◌≡◌, ℕ, ◌+◌, ◌-◌, ◌<◌, ◌≤◌, ◌&&◌, ◌==◌, nat_le, cond, Bool, true, false, List, [], ◌∷◌, ◌++◌, Option, Some, None, refl, sym, ap, subst, ◌∙◌, arith}
use Rattle.std.specs.Prelude.{codes}
use Rattle.std.proofs.lemmas.Bool.Decides.{nat_tests}
use Rattle.std.proofs.lemmas.Option.{same_Some}
use Rattle.host_scripts.specs.declared.script.Call.{Call}
use Rattle.host_scripts.specs.declared.script.Action.{Action}
use Rattle.host_scripts.specs.declared.script.Action.TheVariants.{Read, Write, Fill, Raw, Lose, Reset, DropNext, Replace, Rebuild, Resync}
use Rattle.host_scripts.specs.declared.actions.Operation.{Operation}
use Rattle.host_scripts.specs.declared.actions.Operation.TheVariants.{Losing, Resetting, Dropping, Replacing, Rebuilding}
use Rattle.text_fields.specs.Spelling.{AreBytes, numeral, hex, hex_or_dash}
use Rattle.host_scripts.specs.Scripts.{letter, action_text, call_text, IsRaw}
use Rattle.text_fields.specs.Reading.{◌>>=◌, cut_at, stripped, data_of, one_byte_of}
use Rattle.host_scripts.specs.Loose.{numeral_of, exact_of, is_letter, addressed_of, two_of, read_of, write_of, fill_of, raw_parts_of, raw_of, on_target, target_of, after_of, operation_at, operator_of, else_of, action_of, called, call_of}
use Rattle.host_scripts.specs.Refusals.{IsFormedAction, IsFormedCall}
use Rattle.text_fields.proofs.Cuts.{bind-some, lacks-append, cut-takes, cut-again, stripped-takes, stripped-again}
use Rattle.text_fields.specs.Laws.{lacks}
use Rattle.text_fields.proofs.NumeralLaws.{numeral-lacks}
use Rattle.text_fields.proofs.HexLaws.{hex-lacks, data-takes, data-again, one-byte-takes, one-byte-again}
use Rattle.host_scripts.proofs.Rules.{Says, IsRule}
use Rattle.host_scripts.proofs.RawTexts.{dash-lacks, raw-parts-takes, raw-parts-again, raw-clean}
use Rattle.host_scripts.proofs.Texts.{cap, numeral-takes, numeral-again, exact-takes}

-- ---- actions

-- what the code keeps of an action whose numbers are of any size
abbrev pub kept_action : Action → Action
kept_action (Read lba count) = Read (cap lba) (cap count)
kept_action (Write lba bytes) = Write (cap lba) bytes
kept_action (Fill lba count byte) = Fill (cap lba) (cap count) byte
kept_action (Raw cdb bytes) = Raw cdb bytes
kept_action (Lose target) = Lose (cap target)
kept_action (Reset target) = Reset (cap target)
kept_action (DropNext target) = DropNext (cap target)
kept_action (Replace target) = Replace (cap target)
kept_action (Rebuild target) = Rebuild (cap target)
kept_action Resync = Resync

-- a text behind a keyword says an action
pub record SaysAction (keyword text : List ℕ) (a : Action) : Type 0 where
  pub word : Action
  pub spelt : keyword ++ text ≡ action_text word
  pub formed : IsFormedAction word
  pub value : a ≡ kept_action word

-- a number, and what stands behind it
pub record IsAddressed (text : List ℕ) (v : ℕ) (rest : List ℕ) : Type 0 where
  pub number : ℕ
  pub spelt : text ≡ numeral number ++ 32 ∷ rest
  pub value : v ≡ cap number

pub addressed-takes : (text : List ℕ) (x : ℕ × List ℕ) → addressed_of text ≡ Some x → IsAddressed text x.0 x.1
unfolding addressed_of
addressed-takes text x e =
    let a = bind-some (cut_at 32 text) (λ cut. numeral_of cut.0 >>= λ lba. Some (lba, cut.1)) x e in
    let b = bind-some (numeral_of a.0.0) (λ lba. Some (lba, a.0.1)) x a.2 in
    let n = numeral-takes a.0.0 b.0 b.1 in
    let all : text ≡ numeral n.number ++ 32 ∷ a.0.1 = cut-takes 32 text a.0.0 a.0.1 a.1 ∙ ap (λ (t : List ℕ). t ++ 32 ∷ a.0.1) n.spelt in
    let here : IsAddressed text b.0 a.0.1 = record { number = n.number; spelt = all; value = n.value } in
    subst (λ (p : ℕ × List ℕ). IsAddressed text p.0 p.1) (same_Some (b.0, a.0.1) x b.2) here

pub addressed-again : (n : ℕ) (rest : List ℕ) → addressed_of (numeral n ++ 32 ∷ rest) ≡ Some (cap n, rest)
unfolding addressed_of
addressed-again n rest = rw (cut-again 32 (numeral n) rest (numeral-lacks 32 n (omega arith)), numeral-again n) refl

same-read : (x y a b : ℕ) → x ≡ a → y ≡ b → Read x y ≡ Read a b
same-read x y a b e f = rw (e, f) refl

same-fill : (x y z a b : ℕ) → x ≡ a → y ≡ b → Fill x y z ≡ Fill a b z
same-fill x y z a b e f = rw (e, f) refl

read-takes : (text : List ℕ) (a : Action) → read_of text ≡ Some a → SaysAction (codes "read ") text a
unfolding read_of two_of
read-takes text a e =
    let t = bind-some (addressed_of text >>= λ first. numeral_of first.1 >>= λ second. Some (first.0, second)) (λ two. Some (Read two.0 two.1)) a e in
    let x = bind-some (addressed_of text) (λ first. numeral_of first.1 >>= λ second. Some (first.0, second)) t.0 t.1 in
    let y = bind-some (numeral_of x.0.1) (λ second. Some (x.0.0, second)) t.0 x.2 in
    let p = addressed-takes text x.0 x.1 in
    let n = numeral-takes x.0.1 y.0 y.1 in
    let all : text ≡ numeral p.number ++ 32 ∷ numeral n.number = p.spelt ∙ ap (λ (t : List ℕ). numeral p.number ++ 32 ∷ t) n.spelt in
    let two : (x.0.0, y.0) ≡ t.0 = same_Some (x.0.0, y.0) t.0 y.2 in
    let value : Read x.0.0 y.0 ≡ Read (cap p.number) (cap n.number) = same-read x.0.0 y.0 (cap p.number) (cap n.number) p.value n.value in
    record { word = Read p.number n.number; spelt = ap (λ (t : List ℕ). codes "read " ++ t) all; formed = tt; value = sym (same_Some (Read t.0.0 t.0.1) a t.2) ∙ ap (λ (p : ℕ × ℕ). Read p.0 p.1) (sym two) ∙ value }

write-takes : (text : List ℕ) (a : Action) → write_of text ≡ Some a → SaysAction (codes "write ") text a
unfolding write_of
write-takes text a e =
    let x = bind-some (addressed_of text) (λ address. data_of address.1 >>= λ bytes. Some (Write address.0 bytes)) a e in
    let y = bind-some (data_of x.0.1) (λ bytes. Some (Write x.0.0 bytes)) a x.2 in
    let p = addressed-takes text x.0 x.1 in
    let d = data-takes x.0.1 y.0 y.1 in
    let all : text ≡ numeral p.number ++ 32 ∷ hex_or_dash y.0 = p.spelt ∙ ap (λ (t : List ℕ). numeral p.number ++ 32 ∷ t) d.0 in
    let value : Write x.0.0 y.0 ≡ Write (cap p.number) y.0 = ap (λ (k : ℕ). Write k y.0) p.value in
    record { word = Write p.number y.0; spelt = ap (λ (t : List ℕ). codes "write " ++ t) all; formed = d.1; value = sym (same_Some (Write x.0.0 y.0) a y.2) ∙ value }

fill-takes : (text : List ℕ) (a : Action) → fill_of text ≡ Some a → SaysAction (codes "fill ") text a
unfolding fill_of
fill-takes text a e =
    let x = bind-some (addressed_of text) (λ address. addressed_of address.1 >>= λ count. one_byte_of count.1 >>= λ byte. Some (Fill address.0 count.0 byte)) a e in
    let y = bind-some (addressed_of x.0.1) (λ count. one_byte_of count.1 >>= λ byte. Some (Fill x.0.0 count.0 byte)) a x.2 in
    let z = bind-some (one_byte_of y.0.1) (λ byte. Some (Fill x.0.0 y.0.0 byte)) a y.2 in
    let p = addressed-takes text x.0 x.1 in
    let q = addressed-takes x.0.1 y.0 y.1 in
    let b = one-byte-takes y.0.1 z.0 z.1 in
    let all : text ≡ numeral p.number ++ 32 ∷ (numeral q.number ++ 32 ∷ hex (z.0 ∷ [])) = p.spelt ∙ ap (λ (t : List ℕ). numeral p.number ++ 32 ∷ t) (q.spelt ∙ ap (λ (t : List ℕ). numeral q.number ++ 32 ∷ t) b.0) in
    let value : Fill x.0.0 y.0.0 z.0 ≡ Fill (cap p.number) (cap q.number) z.0 = same-fill x.0.0 y.0.0 z.0 (cap p.number) (cap q.number) p.value q.value in
    record { word = Fill p.number q.number z.0; spelt = ap (λ (t : List ℕ). codes "fill " ++ t) all; formed = b.1; value = sym (same_Some (Fill x.0.0 y.0.0 z.0) a z.2) ∙ value }

raw-takes : (text : List ℕ) (a : Action) → raw_of text ≡ Some a → SaysAction (codes "cdb ") text a
unfolding raw_of
raw-takes text a e =
    let p = bind-some (raw_parts_of text) (λ parts. Some (Raw parts.0 parts.1)) a e in
    let said = raw-parts-takes text p.0 p.1 in
    record { word = Raw p.0.0 p.0.1; spelt = said.0; formed = said.1; value = sym (same_Some (Raw p.0.0 p.0.1) a p.2) }

-- the word of an operation
abbrev word_of : Operation → List ℕ
word_of Losing = codes "lose "
word_of Resetting = codes "reset "
word_of Dropping = codes "drop "
word_of Replacing = codes "replace "
word_of Rebuilding = codes "rebuild "

operation-text : (operation : Operation) (n : ℕ) → word_of operation ++ numeral n ≡ action_text (on_target operation n)
operation-text Losing n = refl
operation-text Resetting n = refl
operation-text Dropping n = refl
operation-text Replacing n = refl
operation-text Rebuilding n = refl

operation-formed : (operation : Operation) (n : ℕ) → IsFormedAction (on_target operation n)
operation-formed Losing n = tt
operation-formed Resetting n = tt
operation-formed Dropping n = tt
operation-formed Replacing n = tt
operation-formed Rebuilding n = tt

operation-kept : (operation : Operation) (n : ℕ) → on_target operation (cap n) ≡ kept_action (on_target operation n)
operation-kept Losing n = refl
operation-kept Resetting n = refl
operation-kept Dropping n = refl
operation-kept Replacing n = refl
operation-kept Rebuilding n = refl

target-takes : (operation : Operation) (text : List ℕ) (a : Action) → target_of operation text ≡ Some a → SaysAction (word_of operation) text a
unfolding target_of
target-takes operation text a e =
    let x = bind-some (numeral_of text) (λ target. Some (on_target operation target)) a e in
    let n = numeral-takes text x.0 x.1 in
    record { word = on_target operation n.number; spelt = ap (λ (t : List ℕ). word_of operation ++ t) n.spelt ∙ operation-text operation n.number; formed = operation-formed operation n.number; value = sym (same_Some (on_target operation x.0) a x.2) ∙ ap (λ (k : ℕ). on_target operation k) n.value ∙ operation-kept operation n.number }

operation-takes : (text : List ℕ) (x : Operation × List ℕ) → operation_at text ≡ Some x → text ≡ word_of x.0 ++ x.1
unfolding operation_at
operation-takes text x e =
    after Losing (stripped (codes "lose ") text) (after_of Resetting (stripped (codes "reset ") text) (after_of Dropping (stripped (codes "drop ") text) (after_of Replacing (stripped (codes "replace ") text) (after_of Rebuilding (stripped (codes "rebuild ") text) None)))) (λ rest. stripped-takes (codes "lose ") text rest)
    (after Resetting (stripped (codes "reset ") text) (after_of Dropping (stripped (codes "drop ") text) (after_of Replacing (stripped (codes "replace ") text) (after_of Rebuilding (stripped (codes "rebuild ") text) None))) (λ rest. stripped-takes (codes "reset ") text rest)
    (after Dropping (stripped (codes "drop ") text) (after_of Replacing (stripped (codes "replace ") text) (after_of Rebuilding (stripped (codes "rebuild ") text) None)) (λ rest. stripped-takes (codes "drop ") text rest)
    (after Replacing (stripped (codes "replace ") text) (after_of Rebuilding (stripped (codes "rebuild ") text) None) (λ rest. stripped-takes (codes "replace ") text rest)
    (after Rebuilding (stripped (codes "rebuild ") text) None (λ rest. stripped-takes (codes "rebuild ") text rest) (λ e. absurd cc))))) e
  where
    after : (operation : Operation) (o : Option (List ℕ)) (p : Option (Operation × List ℕ)) → ((rest : List ℕ) → o ≡ Some rest → text ≡ word_of operation ++ rest) → (p ≡ Some x → text ≡ word_of x.0 ++ x.1)
        → after_of operation o p ≡ Some x → text ≡ word_of x.0 ++ x.1
    after operation (Some rest) p h k e = let same = same_Some (operation, rest) x e in subst (λ (y : Operation × List ℕ). text ≡ word_of y.0 ++ y.1) same (h rest refl)
    after operation None p h k e = k e

-- an action that a text says
pub record SaysOne (text : List ℕ) (a : Action) : Type 0 where
  pub word : Action
  pub spelt : text ≡ action_text word
  pub formed : IsFormedAction word
  pub value : a ≡ kept_action word

behind : (keyword rest text : List ℕ) (a : Action) → text ≡ keyword ++ rest → SaysAction keyword rest a → SaysOne text a
behind keyword rest text a e s = record { word = s.word; spelt = e ∙ s.spelt; formed = s.formed; value = s.value }

operator-takes : (text : List ℕ) (a : Action) → operator_of text ≡ Some a → SaysOne text a
unfolding operator_of
operator-takes text a e = by-operation (operation_at text) (λ x h. operation-takes text x h) e
  where
    by-operation : (o : Option (Operation × List ℕ)) → ((x : Operation × List ℕ) → o ≡ Some x → text ≡ word_of x.0 ++ x.1) → else_of (λ x. target_of x.0 x.1) o (exact_of (codes "resync") Resync text) ≡ Some a → SaysOne text a
    by-operation (Some x) h e = behind (word_of x.0) x.1 text a (h x refl) (target-takes x.0 x.1 a e)
    by-operation None h e = let g = exact-takes (codes "resync") Resync text a e in record { word = Resync; spelt = g.0; formed = tt; value = sym g.1 }

action-takes : (text : List ℕ) (a : Action) → action_of text ≡ Some a → SaysOne text a
unfolding action_of
action-takes text a e =
    let others3 = operator_of text in
    let others2 = else_of raw_of (stripped (codes "cdb ") text) others3 in
    let others1 = else_of fill_of (stripped (codes "fill ") text) others2 in
    let others0 = else_of write_of (stripped (codes "write ") text) others1 in
    by-word (codes "read ") read_of (λ rest. read-takes rest a) (stripped (codes "read ") text) others0 (λ rest h. stripped-takes (codes "read ") text rest h)
    (by-word (codes "write ") write_of (λ rest. write-takes rest a) (stripped (codes "write ") text) others1 (λ rest h. stripped-takes (codes "write ") text rest h)
    (by-word (codes "fill ") fill_of (λ rest. fill-takes rest a) (stripped (codes "fill ") text) others2 (λ rest h. stripped-takes (codes "fill ") text rest h)
    (by-word (codes "cdb ") raw_of (λ rest. raw-takes rest a) (stripped (codes "cdb ") text) others3 (λ rest h. stripped-takes (codes "cdb ") text rest h)
    (operator-takes text a)))) e
  where
    by-word : (keyword : List ℕ) (rule : List ℕ → Option Action) → ((rest : List ℕ) → rule rest ≡ Some a → SaysAction keyword rest a) → (o : Option (List ℕ)) (p : Option Action)
        → ((rest : List ℕ) → o ≡ Some rest → text ≡ keyword ++ rest) → (p ≡ Some a → SaysOne text a) → else_of rule o p ≡ Some a → SaysOne text a
    by-word keyword rule t (Some rest) p h k e = behind keyword rest text a (h rest refl) (t rest e)
    by-word keyword rule t None p h k e = k e

-- ---- reading again

read-again : (lba count : ℕ) → read_of (numeral lba ++ 32 ∷ numeral count) ≡ Some (Read (cap lba) (cap count))
unfolding read_of two_of
read-again lba count = rw (addressed-again lba (numeral count), numeral-again count) refl

write-again : (lba : ℕ) (bytes : List ℕ) → AreBytes bytes → write_of (numeral lba ++ 32 ∷ hex_or_dash bytes) ≡ Some (Write (cap lba) bytes)
unfolding write_of
write-again lba bytes h = rw (addressed-again lba (hex_or_dash bytes), data-again bytes h) refl

fill-again : (lba count byte : ℕ) → byte < 256 → fill_of (numeral lba ++ 32 ∷ (numeral count ++ 32 ∷ hex (byte ∷ []))) ≡ Some (Fill (cap lba) (cap count) byte)
unfolding fill_of
fill-again lba count byte lt = rw (addressed-again lba (numeral count ++ 32 ∷ hex (byte ∷ [])), addressed-again count (hex (byte ∷ [])), one-byte-again byte lt) refl

raw-again : (cdb bytes : List ℕ) → IsRaw cdb bytes → raw_of (hex cdb ++ 32 ∷ hex_or_dash bytes) ≡ Some (Raw cdb bytes)
unfolding raw_of
raw-again cdb bytes h = rw (raw-parts-again cdb bytes h) refl

target-again : (operation : Operation) (n : ℕ) → target_of operation (numeral n) ≡ Some (on_target operation (cap n))
unfolding target_of
target-again operation n = rw (numeral-again n) refl

operation-again : (operation : Operation) (rest : List ℕ) → operation_at (word_of operation ++ rest) ≡ Some (operation, rest)
unfolding operation_at stripped
operation-again Losing rest = refl
operation-again Resetting rest = refl
operation-again Dropping rest = refl
operation-again Replacing rest = refl
operation-again Rebuilding rest = refl

-- the words of reads, writes and blocks aren't those of an operator
no-word : (operation : Operation) (rest : List ℕ) → (stripped (codes "read ") (word_of operation ++ rest) ≡ None) × (stripped (codes "write ") (word_of operation ++ rest) ≡ None) × (stripped (codes "fill ") (word_of operation ++ rest) ≡ None) × (stripped (codes "cdb ") (word_of operation ++ rest) ≡ None)
unfolding stripped
no-word Losing rest = (refl, refl, refl, refl)
no-word Resetting rest = (refl, refl, refl, refl)
no-word Dropping rest = (refl, refl, refl, refl)
no-word Replacing rest = (refl, refl, refl, refl)
no-word Rebuilding rest = (refl, refl, refl, refl)

operator-again : (operation : Operation) (n : ℕ) → action_of (word_of operation ++ numeral n) ≡ Some (on_target operation (cap n))
unfolding action_of operator_of
operator-again operation n =
    let no = no-word operation (numeral n) in
    rw (no.0, no.1, no.2, no.3, operation-again operation (numeral n), target-again operation n) refl

resync-again : action_of (codes "resync") ≡ Some Resync
unfolding action_of operator_of operation_at stripped exact_of
resync-again = refl

not-read : (rest : List ℕ) → stripped (codes "read ") (codes "write " ++ rest) ≡ None
unfolding stripped
not-read rest = refl

not-fill : (rest : List ℕ) → (stripped (codes "read ") (codes "fill " ++ rest) ≡ None) × (stripped (codes "write ") (codes "fill " ++ rest) ≡ None)
unfolding stripped
not-fill rest = (refl, refl)

not-raw : (rest : List ℕ) → (stripped (codes "read ") (codes "cdb " ++ rest) ≡ None) × (stripped (codes "write ") (codes "cdb " ++ rest) ≡ None) × (stripped (codes "fill ") (codes "cdb " ++ rest) ≡ None)
unfolding stripped
not-raw rest = (refl, refl, refl)

action-again : (a : Action) → IsFormedAction a → action_of (action_text a) ≡ Some (kept_action a)
unfolding action_of
action-again (Read lba count) f = let rest = numeral lba ++ 32 ∷ numeral count in rw (stripped-again (codes "read ") rest) (read-again lba count)
action-again (Write lba bytes) f = let rest = numeral lba ++ 32 ∷ hex_or_dash bytes in rw (not-read rest, stripped-again (codes "write ") rest) (write-again lba bytes f)
action-again (Fill lba count byte) f =
    let rest = numeral lba ++ 32 ∷ (numeral count ++ 32 ∷ hex (byte ∷ [])) in
    let no = not-fill rest in
    rw (no.0, no.1, stripped-again (codes "fill ") rest) (fill-again lba count byte f)
action-again (Raw cdb bytes) f =
    let rest = hex cdb ++ 32 ∷ hex_or_dash bytes in
    let no = not-raw rest in
    rw (no.0, no.1, no.2, stripped-again (codes "cdb ") rest) (raw-again cdb bytes f)
action-again (Lose target) f = operator-again Losing target
action-again (Reset target) f = operator-again Resetting target
action-again (DropNext target) f = operator-again Dropping target
action-again (Replace target) f = operator-again Replacing target
action-again (Rebuild target) f = operator-again Rebuilding target
action-again Resync f = resync-again

-- ---- no action has an end of line

spaced : (n : ℕ) (rest : List ℕ) → lacks 10 rest ≡ true → lacks 10 (numeral n ++ 32 ∷ rest) ≡ true
spaced n rest h = lacks-append 10 (numeral n) (32 ∷ rest) (numeral-lacks 10 n (omega arith)) h

action-clean : (a : Action) → IsFormedAction a → lacks 10 (action_text a) ≡ true
action-clean (Read lba count) f = lacks-append 10 (codes "read ") (numeral lba ++ 32 ∷ numeral count) refl (spaced lba (numeral count) (numeral-lacks 10 count (omega arith)))
action-clean (Write lba bytes) f = lacks-append 10 (codes "write ") (numeral lba ++ 32 ∷ hex_or_dash bytes) refl (spaced lba (hex_or_dash bytes) (dash-lacks bytes f))
action-clean (Fill lba count byte) f = lacks-append 10 (codes "fill ") (numeral lba ++ 32 ∷ (numeral count ++ 32 ∷ hex (byte ∷ []))) refl (spaced lba (numeral count ++ 32 ∷ hex (byte ∷ [])) (spaced count (hex (byte ∷ [])) (hex-lacks 10 (byte ∷ []) (omega arith) (f, tt))))
action-clean (Raw cdb bytes) f = raw-clean cdb bytes f
action-clean (Lose target) f = lacks-append 10 (codes "lose ") (numeral target) refl (numeral-lacks 10 target (omega arith))
action-clean (Reset target) f = lacks-append 10 (codes "reset ") (numeral target) refl (numeral-lacks 10 target (omega arith))
action-clean (DropNext target) f = lacks-append 10 (codes "drop ") (numeral target) refl (numeral-lacks 10 target (omega arith))
action-clean (Replace target) f = lacks-append 10 (codes "replace ") (numeral target) refl (numeral-lacks 10 target (omega arith))
action-clean (Rebuild target) f = lacks-append 10 (codes "rebuild ") (numeral target) refl (numeral-lacks 10 target (omega arith))
action-clean Resync f = refl

-- ---- calls

-- what the code keeps of a call
abbrev pub kept_call : Call → Call
kept_call call = record { host = call.host; action = kept_action call.action }

called-some : (host : ℕ) (o : Option Action) (v : Call) → called host o ≡ Some v → (a : Action) × (o ≡ Some a) × (record { host = host; action = a } ≡ v)
called-some host (Some a) v e = (a, refl, same_Some (record { host = host; action = a }) v e)
called-some host None v e = absurd cc

guarded : (test : Bool) (o : Option Call) (v : Call) → cond test o None ≡ Some v → (test ≡ true) × (o ≡ Some v)
guarded true o v e = (refl, e)
guarded false o v e = absurd cc

call-takes : (text : List ℕ) (v : Call) → call_of text ≡ Some v → Says call_text kept_call IsFormedCall text v
unfolding call_of
call-takes [] v e = absurd cc
call-takes (c ∷ []) v e = absurd cc
call-takes (c ∷ space ∷ text) v e =
    let g = guarded (is_letter c && (space == 32)) (called (c - 65) (action_of text)) v e in
    let b = called-some (c - 65) (action_of text) v g.1 in
    let a = action-takes text b.0 b.1 in
    let low : 65 ≤ c = grind (arith, nat_tests, g.0) in
    let high : c ≤ 90 = grind (arith, nat_tests, g.0) in
    let sp : space ≡ 32 = grind (arith, nat_tests, g.0) in
    let back : c ≡ letter (c - 65) = omega (arith, low) in
    let k : Call = record { host = c - 65; action = a.word } in
    let all : c ∷ space ∷ text ≡ call_text k = ap (λ (x : ℕ). x ∷ space ∷ text) back ∙ ap (λ (x : ℕ). letter (c - 65) ∷ x ∷ text) sp ∙ ap (λ (t : List ℕ). letter (c - 65) ∷ 32 ∷ t) a.spelt in
    let same : record { host = c - 65; action = b.0 } ≡ kept_call k = ap (λ (x : Action). record { host = c - 65; action = x }) a.value in
    record { word = k; spelt = all; formed = (omega (arith, low, high), a.formed); value = sym b.2 ∙ same }

call-again : (call : Call) → IsFormedCall call → call_of (call_text call) ≡ Some (kept_call call)
unfolding call_of
call-again call f =
    let low : nat_le 65 (65 + call.host) ≡ true = grind (arith, nat_tests) in
    let high : nat_le (65 + call.host) 90 ≡ true = grind (arith, nat_tests, f.0) in
    let back : 65 + call.host - 65 ≡ call.host = omega arith in
    rw (low, high, action-again call.action f.1, back) refl

call-clean : (call : Call) → IsFormedCall call → lacks 10 (call_text call) ≡ true
call-clean call f =
    let host : ((65 + call.host) == 10) ≡ false = grind (arith, nat_tests) in
    rw (host, action-clean call.action f.1) refl

pub call_rule : IsRule call_of call_text kept_call IsFormedCall
call_rule = record { takes = call-takes; again = call-again; clean = call-clean }
