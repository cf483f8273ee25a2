-- No row of a target's table answers an order that nothing stands in the way of.
use Rattle.std.specs.Prelude.{◌≡◌, ◌≢◌, ◌==◌, ◌&&◌, ◌||◌, ◌+◌, ◌-◌, ◌*◌, ◌/◌, ◌<◌, ◌≤◌, ◌^◌, not, nat_lt, nat_le, ℕ, Bool, true, false, List, [], ◌∷◌, length, Option, Some, None, option_map, is_some, is_none, unwrap_or}
use Rattle.std.specs.Bool.{then_some}
use Rattle.std.specs.List.{AllByRecursion}
use Rattle.std.proofs.Common.{refl, ap, sym, ◌∙◌, subst, arith, cond, inl, inr}
use Rattle.std.proofs.lemmas.Bool.{eq-eqb, ne_eqb, le-ltb, ltb-true, lt-ltb, le-leb, leb-true, leb-false, cases_eq, cases_Bool, and_parts, and_from, both_ways, false≢true}
use Rattle.std.proofs.lemmas.Option.{none-some}
use Rattle.sense_data.specs.declared.senses.Sense.{Sense}
use Rattle.sense_data.specs.Illegal.{illegal, in_cdb}
use Rattle.sbc_cdbs.specs.declared.commands.Command.{Command}
use Rattle.sbc_cdbs.specs.Cdbs.{SpellsCdb}
use Rattle.sbc_cdbs.specs.Faults.{reserved_bits, wanted_length, first_offending}
use Rattle.sbc_cdbs.specs.Kinds.{is_xor_code, block_count, is_kept}
use Rattle.sbc_cdbs.proofs.Again.{Clean, clean}
use Rattle.sbc_cdbs.proofs.Offending.{none-found}
use Rattle.xor_mode_page.specs.declared.pages.XorPage.{XorPage}
use Rattle.xor_buffers.specs.declared.held.HeldBlocks.{HeldBlocks}
use Rattle.xor_buffers.specs.Held.{overlap_of, holder_of, held_blocks}
use Rattle.array_journal.specs.declared.entry.Entry.{Entry}
use Rattle.array_journal.specs.declared.event.Event.{Event}
use Rattle.array_journal.specs.Deltas.{covers}
use Rattle.array_journal.specs.Entries.{name_of, some_at, newest_at}
use Rattle.array_journal.specs.Lives.{loss_of}
use Rattle.array_journal.specs.Owners.{shut_at}
use Rattle.xor_target.specs.declared.answer.Answer.{Answer}
use Rattle.xor_target.specs.declared.limits.TargetLimits.{TargetLimits}
use Rattle.xor_target.specs.declared.order.Order.{Order}
use Rattle.xor_target.specs.Admission.{first_some, refused_code, wrong_length, reserved_bit, cdb_rows, row_of, count_of, maximum_of, is_over, too_long, wrong_secondary, wrong_select, saved_values, unknown_page, out_of_range, data_due, wrong_amount, wrong_list, command_rows, refusal_of}
use Rattle.xor_target.specs.State.{TargetState, limits_of}
use Rattle.xor_target.specs.Table.{first_answer, is_take, is_no_blocks, refused_row, shut_row, gone_row, idle_row, overlap_row, room_row, unheld_row, early_answer}
use Rattle.xor_target.specs.Waits.{overlaps_aside, aside_blocks}
use Rattle.xor_target.proofs.CdbRows.{spelt-in, at_fields}

-- ---- rows that don't answer

no-sense : (row : Option Sense) (rows : List (Option Sense)) → row ≡ None → first_some rows ≡ None → first_some (row ∷ rows) ≡ None
no-sense None rows e h = h
no-sense (Some sense) rows e h = absurd (none-some sense (sym e))

no-answer : (row : Option Answer) (rows : List (Option Answer)) → row ≡ None → first_answer rows ≡ None → first_answer (row ∷ rows) ≡ None
no-answer None rows e h = h
no-answer (Some answer) rows e h = absurd (none-some answer (sym e))

-- what is said under a test isn't said where it fails
untold : {A : Type 0} (test : Bool) (a : A) → test ≡ false → then_some test a ≡ None
untold test a e = ap (λ b. then_some b a) e

neither : (a b : Bool) → a ≡ false → b ≡ false → (a || b) ≡ false
neither a b e f = ap (λ x. x || b) e ∙ f

-- a test that is made where another holds alone fails
only-where : (a b : Bool) → (a ≡ true → b ≡ false) → (a && b) ≡ false
only-where true b h = h refl
only-where false b h = refl

-- ---- the CDB

-- none of a CDB alone answers where its length is right and no bit is one that must be zero
pub cdb-unanswered : (page : XorPage) (cdb : List ℕ) → page.xordis ≡ false → Clean cdb → first_some (cdb_rows page cdb) ≡ None
cdb-unanswered page [] off c = absurd (none-some c.mask c.known)
cdb-unanswered page (code ∷ rest) off c =
    no-sense (refused_code page (code ∷ rest)) (wrong_length (code ∷ rest) ∷ reserved_bit (code ∷ rest) ∷ [])
    (untold (is_none (reserved_bits code) || (page.xordis && is_xor_code code)) (illegal 0x20 0 None)
    (neither (is_none (reserved_bits code)) (page.xordis && is_xor_code code) (ap is_none c.known) (ap (λ b. b && is_xor_code code) off)))
    (no-sense (wrong_length (code ∷ rest)) (reserved_bit (code ∷ rest) ∷ [])
    (untold (not (unwrap_or (wanted_length (code ∷ rest)) (length (code ∷ rest)) == length (code ∷ rest))) (illegal 0x24 0 None) (ap not long))
    (no-sense (reserved_bit (code ∷ rest)) [] bits refl))
  where
    long : (unwrap_or (wanted_length (code ∷ rest)) (length (code ∷ rest)) == length (code ∷ rest)) ≡ true
    long =
        eq-eqb (unwrap_or (wanted_length (code ∷ rest)) (length (code ∷ rest))) (length (code ∷ rest))
        (ap (λ (mask : Option (List ℕ)). unwrap_or (option_map length mask) (length (code ∷ rest))) c.known ∙ sym c.long)

    bits : reserved_bit (code ∷ rest) ≡ None
    bits =
        ap (λ (mask : Option (List ℕ)). option_map (λ byte. illegal 0x24 0 (Some (in_cdb byte))) (first_offending 0 (unwrap_or mask []) (code ∷ rest))) c.known
        ∙ ap (option_map (λ byte. illegal 0x24 0 (Some (in_cdb byte)))) (none-found 0 c.mask (code ∷ rest) c.none)

-- no more blocks than a maximum, where there is one
pub not-over : (maximum count : ℕ) → (maximum ≢ 0 → count ≤ maximum) → is_over maximum count ≡ false
not-over maximum count h =
    only-where (not (maximum == 0)) (nat_lt maximum count)
    (λ some. le-ltb maximum count (h (λ none. both_ways (not (maximum == 0)) (ap not (eq-eqb maximum 0 none)) some)))

-- ---- the table

-- The command is none of those that name another target, or set or read a page, or bring a list.
pub record IsPlain (limits : TargetLimits) (command : Command) (bytes : List ℕ) : Type 0 where
  pub second : wrong_secondary limits command ≡ None
  pub selects : wrong_select command ≡ None
  pub saved : saved_values command ≡ None
  pub shown : unknown_page command ≡ None
  pub list : wrong_list limits command bytes ≡ None

-- An order that nothing stands in the way of: what its CDB spells is a command that the target admits, of at least one of its
-- rows; the owner isn't shut, the disk works, and nothing waits; what is to be held finds its rows free and room, and what
-- is to be taken is held.
pub record IsFree (t : TargetState) (order : Order) (command : Command) (row count : ℕ) : Type 0 where
  pub spelt : SpellsCdb order.cdb command
  pub xor_on : t.page.xordis ≡ false
  pub plain : IsPlain (limits_of t) command order.bytes
  pub at_row : row_of command ≡ row
  pub counted : block_count command ≡ Some count
  pub some : 1 ≤ count
  pub fits : count < 2 ^ 16
  pub below : is_over (maximum_of t.page command) count ≡ false
  pub in_range : row + count ≤ t.rows
  pub whole : length order.bytes ≡ data_due t.block command
  pub not_shut : shut_at t.number order.owner t.past ≡ None
  pub works : loss_of t.number t.past ≡ None
  pub nothing_waits : t.waiting ≡ []
  pub unheld : is_kept command ≡ true → overlap_of t.block row count t.held ≡ None
  pub room : is_kept command ≡ true → held_blocks t.block t.held + count ≤ t.buffer
  pub holds : is_take command ≡ true → (owner : ℕ) × (holder_of t.block row (count * t.block) t.held ≡ Some owner)

-- the number of blocks, as the rows of the table ask for it
count-there : (t : TargetState) (order : Order) (command : Command) (row count : ℕ) → IsFree t order command row count → count_of command ≡ count
count-there t order command row count f = ap (λ (n : Option ℕ). unwrap_or n 0) f.counted

fields-unanswered : (t : TargetState) (order : Order) (command : Command) (row count : ℕ) → IsFree t order command row count →
    first_some (command_rows (limits_of t) t.page command order.bytes) ≡ None
fields-unanswered t order command row count f =
    no-sense (too_long t.page command) _
    (untold (is_over (maximum_of t.page command) (count_of command) || nat_lt 65535 (count_of command)) _
    (neither (is_over (maximum_of t.page command) (count_of command)) (nat_lt 65535 (count_of command))
    (ap (is_over (maximum_of t.page command)) there ∙ f.below) (ap (nat_lt 65535) there ∙ le-ltb 65535 count (let fits = f.fits in omega arith))))
    (no-sense (wrong_secondary (limits_of t) command) _ f.plain.second
    (no-sense (wrong_select command) _ f.plain.selects
    (no-sense (saved_values command) _ f.plain.saved
    (no-sense (unknown_page command) _ f.plain.shown
    (no-sense (out_of_range (limits_of t) command) _
    (untold (nat_lt t.rows (row_of command + count_of command)) (illegal 0x21 0 None)
    (le-ltb t.rows (row_of command + count_of command) (let r = f.at_row in let within = f.in_range in omega (arith, r, there, within))))
    (no-sense (wrong_amount (limits_of t) command order.bytes) _
    (untold (not (length order.bytes == data_due t.block command)) (illegal 0x1a 0 None)
    (ap not (eq-eqb (length order.bytes) (data_due t.block command) f.whole)))
    (no-sense (wrong_list (limits_of t) command order.bytes) [] f.plain.list refl)))))))
  where
    there : count_of command ≡ count
    there = count-there t order command row count f

refusal-unanswered : (t : TargetState) (order : Order) (command : Command) (row count : ℕ) → IsFree t order command row count →
    refusal_of (limits_of t) t.page order.cdb order.bytes ≡ None
refusal-unanswered t order command row count f =
    at_fields (limits_of t) t.page order.cdb order.bytes command None f.spelt
    (cdb-unanswered t.page order.cdb f.xor_on (subst Clean (sym f.spelt.0) (clean command))) (fields-unanswered t order command row count f)

-- the rows that ask for the command, behind those that don't
abbrev state_rows : TargetState → Order → Command → List (Option Answer)
state_rows t order command = idle_row command ∷ overlap_row t order command ∷ room_row t order command ∷ unheld_row t order command ∷ []

state-unanswered : (t : TargetState) (order : Order) (command : Command) (row count : ℕ) → IsFree t order command row count →
    first_answer (state_rows t order command) ≡ None
state-unanswered t order command row count f =
    no-answer (idle_row command) _ (untold (is_no_blocks (block_count command)) _ (ap is_no_blocks f.counted ∙ some-blocks count f.some))
    (no-answer (overlap_row t order command) _
    (untold _ _
    (only-where (is_kept command)
    (is_some (overlap_of t.block (row_of command) (count_of command) t.held) || overlaps_aside (row_of command) (count_of command) t.waiting)
    (λ kept. neither _ _ (ap is_some (free kept)) (ap (overlaps_aside (row_of command) (count_of command)) f.nothing_waits))))
    (no-answer (room_row t order command) _
    (untold (is_kept command && nat_lt (t.buffer - held_blocks t.block t.held - aside_blocks t.waiting) (count_of command)) _
    (only-where (is_kept command) _ (λ kept. le-ltb (t.buffer - held_blocks t.block t.held - aside_blocks t.waiting) (count_of command)
    (let room = f.room kept in let waits = ap aside_blocks f.nothing_waits in omega (arith, room, waits, there)))))
    (no-answer (unheld_row t order command) []
    (untold (is_take command && is_none (holder_of t.block (row_of command) (count_of command * t.block) t.held)) _
    (only-where (is_take command) _ (λ takes. ap is_none (held-there takes)))) refl)))
  where
    there : count_of command ≡ count
    there = count-there t order command row count f

    some-blocks : (n : ℕ) → 1 ≤ n → is_no_blocks (Some n) ≡ false
    some-blocks n some = elim (cases_eq n 0) [
      | inl none ↦ (let no : ⊥ = omega (arith, none, some) in absurd no)
      | inr other ↦ ne_eqb n 0 other
    ]

    free : is_kept command ≡ true → overlap_of t.block (row_of command) (count_of command) t.held ≡ None
    free kept =
        ap (λ r. overlap_of t.block r (count_of command) t.held) f.at_row ∙ ap (λ n. overlap_of t.block row n t.held) there ∙ f.unheld kept

    held-there : (takes : is_take command ≡ true) → holder_of t.block (row_of command) (count_of command * t.block) t.held ≡ Some (f.holds takes).0
    held-there takes =
        ap (λ r. holder_of t.block r (count_of command * t.block) t.held) f.at_row ∙ ap (λ n. holder_of t.block row (n * t.block) t.held) there
        ∙ (f.holds takes).1

pub unanswered : (t : TargetState) (order : Order) (command : Command) (row count : ℕ) → IsFree t order command row count → early_answer t order ≡ None
unanswered t order command row count f =
    ap (λ (c : Command). first_answer (refused_row t order ∷ shut_row t order.owner ∷ gone_row t order.owner ∷ state_rows t order c))
    (spelt-in order.cdb command f.spelt)
    ∙ no-answer (refused_row t order) _ (ap (option_map _) (refusal-unanswered t order command row count f))
    (no-answer (shut_row t order.owner) _ (ap (option_map _) f.not_shut)
    (no-answer (gone_row t order.owner) _ (ap (option_map _) f.works) (state-unanswered t order command row count f)))

-- ---- where the facts come from

-- what is said of no entry has no newest one
pub no-newest : (lock : ℕ) (test : Event → Bool) (past : List Entry) → some_at lock test past ≡ false → newest_at lock test past ≡ None
no-newest lock test [] h = refl
no-newest lock test (e ∷ past) h = choose ((e.lock == lock) && test e.event) h (no-newest lock test past)
  where
    choose : (b : Bool) → (b || some_at lock test past) ≡ false → (some_at lock test past ≡ false → newest_at lock test past ≡ None) →
        cond b (Some (name_of e)) (newest_at lock test past) ≡ None
    choose true h older = absurd (false≢true (sym h))
    choose false h older = older h

-- blocks that share none of some rows don't overlap them
not-overlapped : (block row count len : ℕ) (h : HeldBlocks) → 1 ≤ count → len / block ≡ count → 1 ≤ length h.bytes / block →
    ((r : ℕ) → (covers block row len r && covers block h.row (length h.bytes) r) ≡ false) →
    (nat_lt h.row (row + count) && nat_lt row (h.row + length h.bytes / block)) ≡ false
not-overlapped block row count len h some size more apart = elim (cases_Bool (nat_lt h.row (row + count) && nat_lt row (h.row + length h.bytes / block))) [
  | inl over ↦ absurd (never (and_parts (nat_lt h.row (row + count)) (nat_lt row (h.row + length h.bytes / block)) over))
  | inr none ↦ none
]
  where
    both : (r : ℕ) → row ≤ r → r < row + count → h.row ≤ r → r < h.row + length h.bytes / block → ⊥
    both r a b c d =
        both_ways (covers block row len r && covers block h.row (length h.bytes) r) (apart r)
        (and_from (covers block row len r) (covers block h.row (length h.bytes) r)
        (and_from (nat_le row r) (nat_lt r (row + len / block)) (le-leb row r a) (lt-ltb r (row + len / block) (omega (arith, b, size))))
        (and_from (nat_le h.row r) (nat_lt r (h.row + length h.bytes / block)) (le-leb h.row r c) (lt-ltb r (h.row + length h.bytes / block) d)))

    never : (nat_lt h.row (row + count) ≡ true) × (nat_lt row (h.row + length h.bytes / block) ≡ true) → ⊥
    never p =
        let before : h.row < row + count = ltb-true h.row (row + count) p.0 in
        let after : row < h.row + length h.bytes / block = ltb-true row (h.row + length h.bytes / block) p.1 in
        elim (cases_Bool (nat_le h.row row)) [
          | inl from ↦ (let le : h.row ≤ row = leb-true h.row row from in both row (omega arith) (omega (arith, some)) le after)
          | inr later ↦ (let lt : row < h.row = leb-false h.row row later in both h.row (omega (arith, lt)) before (omega arith) (omega (arith, more)))
        ]

pub none-overlapped : (block row count len : ℕ) (hs : List HeldBlocks) → 1 ≤ count → len / block ≡ count →
    AllByRecursion (λ (h : HeldBlocks). (r : ℕ) → (covers block row len r && covers block h.row (length h.bytes) r) ≡ false) hs →
    AllByRecursion (λ (h : HeldBlocks). 1 ≤ length h.bytes / block) hs → overlap_of block row count hs ≡ None
none-overlapped block row count len [] some size apart sizes = refl
none-overlapped block row count len (h ∷ hs) some size apart sizes =
    ap (λ b. cond b (Some h.owner) (overlap_of block row count hs)) (not-overlapped block row count len h some size sizes.0 apart.0)
    ∙ none-overlapped block row count len hs some size apart.1 sizes.1
