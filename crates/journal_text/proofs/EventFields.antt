-- The fields of events, and the groups of them that several kinds share: what is read is spelt so, and what is spelt so is
-- read.
use Rattle.std.proofs.Common.{◌≡◌, ℕ, ◌^◌, ◌<◌, Bool, true, List, ◌++◌, Option, Some, refl, subst}
use Rattle.std.specs.Fmt.{decimal}
use Rattle.sbc_cdbs.specs.declared.descriptor.Cdb.{Cdb}
use Rattle.sbc_cdbs.specs.Cdbs.{cdb_bytes}
use Rattle.array_journal.specs.declared.at.At.{At}
use Rattle.array_journal.specs.declared.event.What.{What}
use Rattle.array_journal.specs.declared.event.Why.{Why}
use Rattle.array_journal.specs.declared.task.Kind.{Kind}
use Rattle.text_fields.specs.Spelling.{hex_or_dash, AreBytes}
use Rattle.journal_text.specs.Traces.{field, flag_text, at_text, cause_text, names_text, owners_text, kind_text, what_text, why_text, act_text}
use Rattle.journal_text.specs.declared.reading.fields.ActFields.{ActFields}
use Rattle.journal_text.specs.declared.reading.fields.AimFields.{AimFields}
use Rattle.journal_text.specs.declared.reading.fields.PlaceFields.{PlaceFields}
use Rattle.text_fields.specs.Reading.{number_of, data_of}
use Rattle.journal_text.specs.Words.{at_of, cause_of, flag_of, what_of, kind_of}
use Rattle.journal_text.specs.Senses.{why_of}
use Rattle.journal_text.specs.Lists.{listed_of}
use Rattle.journal_text.specs.Readable.{IsAt, IsCause, AreOwners, AreNames, IsCdb, IsWhy, IsAct}
use Rattle.journal_text.specs.Lines.{field_of, cdb_word_of, act_at, aim_at, place_at}
use Rattle.text_fields.proofs.Cuts.{ends}
use Rattle.journal_text.proofs.Parts.{IsPart, field-part, takes-4, takes-5, again-4, again-5}
use Rattle.journal_text.proofs.WordLaws.{Always, long-word, short-word, data-word, at-word, cause-word, flag-word, what-word, kind-word}
use Rattle.journal_text.proofs.ListLaws.{names-word, owners-word}
use Rattle.journal_text.proofs.SenseLaws.{cdb-word, why-word}

-- ---- fields

pub long-part : IsPart ℕ (λ n. field (decimal n)) (λ n. n < 2 ^ 32) (field_of (number_of 4294967295))
long-part = field-part ℕ decimal (λ n. n < 2 ^ 32) (number_of 4294967295) long-word

pub short-part : IsPart ℕ (λ n. field (decimal n)) (λ n. n < 2 ^ 8) (field_of (number_of 255))
short-part = field-part ℕ decimal (λ n. n < 2 ^ 8) (number_of 255) short-word

pub data-part : IsPart (List ℕ) (λ bytes. field (hex_or_dash bytes)) AreBytes (field_of data_of)
data-part = field-part (List ℕ) hex_or_dash AreBytes data_of data-word

cdb-part : IsPart Cdb (λ cdb. field (hex_or_dash (cdb_bytes cdb))) IsCdb (field_of cdb_word_of)
cdb-part = field-part Cdb (λ cdb. hex_or_dash (cdb_bytes cdb)) IsCdb cdb_word_of cdb-word

pub at-part : IsPart At (λ at. field (at_text at)) IsAt (field_of at_of)
at-part = field-part At at_text IsAt at_of at-word

pub cause-part : IsPart (Option At) (λ cause. field (cause_text cause)) IsCause (field_of cause_of)
cause-part = field-part (Option At) cause_text IsCause cause_of cause-word

pub flag-part : IsPart Bool (λ flag. field (flag_text flag)) (Always Bool) (field_of flag_of)
flag-part = field-part Bool flag_text (Always Bool) flag_of flag-word

pub what-part : IsPart What (λ what. field (what_text what)) (Always What) (field_of what_of)
what-part = field-part What what_text (Always What) what_of what-word

kind-part : IsPart Kind (λ kind. field (kind_text kind)) (Always Kind) (field_of kind_of)
kind-part = field-part Kind kind_text (Always Kind) kind_of kind-word

pub names-part : IsPart (List At) (λ names. field (names_text names)) AreNames (field_of (listed_of at_of))
names-part = field-part (List At) names_text AreNames (listed_of at_of) names-word

pub owners-part : IsPart (List ℕ) (λ owners. field (owners_text owners)) AreOwners (field_of (listed_of (number_of 4294967295)))
owners-part = field-part (List ℕ) owners_text AreOwners (listed_of (number_of 4294967295)) owners-word

pub why-part : IsPart Why (λ why. field (why_text why)) IsWhy (field_of why_of)
why-part = field-part Why why_text IsWhy why_of why-word

-- ---- groups of fields

abbrev pub act_fields : ActFields → List ℕ
act_fields x = act_text x.command x.opened x.cdb x.row x.bytes

abbrev pub ActFits : ActFields → Type 0
ActFits x = IsAct x.command x.opened x.cdb x.row x.bytes

abbrev make_act : ℕ → At → Cdb → ℕ → (List ℕ) → ActFields
make_act command opened cdb row bytes = record { command = command; opened = opened; cdb = cdb; row = row; bytes = bytes }

act-takes : (bytes : List ℕ) (x : ActFields) (rest : List ℕ) → act_at bytes ≡ Some (x, rest) → (bytes ≡ act_fields x ++ rest) × ActFits x
unfolding act_at
act-takes bytes x rest e =
    let t = takes-5 ℕ At Cdb ℕ (List ℕ) ActFields (λ n. field (decimal n)) (λ n. n < 2 ^ 32) (field_of (number_of 4294967295)) (λ at. field (at_text at)) IsAt (field_of at_of) (λ cdb. field (hex_or_dash (cdb_bytes cdb))) IsCdb (field_of cdb_word_of) (λ n. field (decimal n)) (λ n. n < 2 ^ 32) (field_of (number_of 4294967295)) (λ bytes. field (hex_or_dash bytes)) AreBytes (field_of data_of) long-part at-part cdb-part long-part data-part make_act bytes rest x e in
    subst (λ (y : ActFields). (bytes ≡ act_fields y ++ rest) × ActFits y) t.made (t.spelt, (t.fits_a, t.fits_b, t.fits_c, t.fits_d, t.fits_e))

act-again : (x : ActFields) (rest : List ℕ) → ActFits x → ends rest ≡ true → act_at (act_fields x ++ rest) ≡ Some (x, rest)
unfolding act_at
act-again x rest h stop = again-5 ℕ At Cdb ℕ (List ℕ) ActFields (λ n. field (decimal n)) (λ n. n < 2 ^ 32) (field_of (number_of 4294967295)) (λ at. field (at_text at)) IsAt (field_of at_of) (λ cdb. field (hex_or_dash (cdb_bytes cdb))) IsCdb (field_of cdb_word_of) (λ n. field (decimal n)) (λ n. n < 2 ^ 32) (field_of (number_of 4294967295)) (λ bytes. field (hex_or_dash bytes)) AreBytes (field_of data_of) long-part at-part cdb-part long-part data-part make_act x.command x.opened x.cdb x.row x.bytes rest h.0 h.1 h.2 h.3 h.4 stop

pub act-part : IsPart ActFields act_fields ActFits act_at
act-part = record { takes = act-takes; again = act-again; begins = λ x rest. refl }

abbrev pub aim_fields : AimFields → List ℕ
aim_fields x = field (decimal x.call) ++ (field (decimal x.piece) ++ (field (kind_text x.kind) ++ field (decimal x.stripe)))

abbrev pub AimFits : AimFields → Type 0
AimFits x = (x.call < 2 ^ 32) × (x.piece < 2 ^ 32) × (x.stripe < 2 ^ 32)

abbrev make_aim : ℕ → ℕ → Kind → ℕ → AimFields
make_aim call piece kind stripe = record { call = call; piece = piece; kind = kind; stripe = stripe }

aim-takes : (bytes : List ℕ) (x : AimFields) (rest : List ℕ) → aim_at bytes ≡ Some (x, rest) → (bytes ≡ aim_fields x ++ rest) × AimFits x
unfolding aim_at
aim-takes bytes x rest e =
    let t = takes-4 ℕ ℕ Kind ℕ AimFields (λ n. field (decimal n)) (λ n. n < 2 ^ 32) (field_of (number_of 4294967295)) (λ n. field (decimal n)) (λ n. n < 2 ^ 32) (field_of (number_of 4294967295)) (λ kind. field (kind_text kind)) (Always Kind) (field_of kind_of) (λ n. field (decimal n)) (λ n. n < 2 ^ 32) (field_of (number_of 4294967295)) long-part long-part kind-part long-part make_aim bytes rest x e in
    subst (λ (y : AimFields). (bytes ≡ aim_fields y ++ rest) × AimFits y) t.made (t.spelt, (t.fits_a, t.fits_b, t.fits_d))

aim-again : (x : AimFields) (rest : List ℕ) → AimFits x → ends rest ≡ true → aim_at (aim_fields x ++ rest) ≡ Some (x, rest)
unfolding aim_at
aim-again x rest h stop = again-4 ℕ ℕ Kind ℕ AimFields (λ n. field (decimal n)) (λ n. n < 2 ^ 32) (field_of (number_of 4294967295)) (λ n. field (decimal n)) (λ n. n < 2 ^ 32) (field_of (number_of 4294967295)) (λ kind. field (kind_text kind)) (Always Kind) (field_of kind_of) (λ n. field (decimal n)) (λ n. n < 2 ^ 32) (field_of (number_of 4294967295)) long-part long-part kind-part long-part make_aim x.call x.piece x.kind x.stripe rest h.0 h.1 tt h.2 stop

pub aim-part : IsPart AimFields aim_fields AimFits aim_at
aim-part = record { takes = aim-takes; again = aim-again; begins = λ x rest. refl }

abbrev pub place_fields : PlaceFields → List ℕ
place_fields x = field (decimal x.target) ++ (field (decimal x.parity) ++ (field (decimal x.row) ++ (field (decimal x.count) ++ field (hex_or_dash x.bytes))))

abbrev pub PlaceFits : PlaceFields → Type 0
PlaceFits x = (x.target < 2 ^ 8) × (x.parity < 2 ^ 8) × (x.row < 2 ^ 32) × (x.count < 2 ^ 32) × AreBytes x.bytes

abbrev make_place : ℕ → ℕ → ℕ → ℕ → (List ℕ) → PlaceFields
make_place target parity row count bytes = record { target = target; parity = parity; row = row; count = count; bytes = bytes }

place-takes : (bytes : List ℕ) (x : PlaceFields) (rest : List ℕ) → place_at bytes ≡ Some (x, rest) → (bytes ≡ place_fields x ++ rest) × PlaceFits x
unfolding place_at
place-takes bytes x rest e =
    let t = takes-5 ℕ ℕ ℕ ℕ (List ℕ) PlaceFields (λ n. field (decimal n)) (λ n. n < 2 ^ 8) (field_of (number_of 255)) (λ n. field (decimal n)) (λ n. n < 2 ^ 8) (field_of (number_of 255)) (λ n. field (decimal n)) (λ n. n < 2 ^ 32) (field_of (number_of 4294967295)) (λ n. field (decimal n)) (λ n. n < 2 ^ 32) (field_of (number_of 4294967295)) (λ bytes. field (hex_or_dash bytes)) AreBytes (field_of data_of) short-part short-part long-part long-part data-part make_place bytes rest x e in
    subst (λ (y : PlaceFields). (bytes ≡ place_fields y ++ rest) × PlaceFits y) t.made (t.spelt, (t.fits_a, t.fits_b, t.fits_c, t.fits_d, t.fits_e))

place-again : (x : PlaceFields) (rest : List ℕ) → PlaceFits x → ends rest ≡ true → place_at (place_fields x ++ rest) ≡ Some (x, rest)
unfolding place_at
place-again x rest h stop = again-5 ℕ ℕ ℕ ℕ (List ℕ) PlaceFields (λ n. field (decimal n)) (λ n. n < 2 ^ 8) (field_of (number_of 255)) (λ n. field (decimal n)) (λ n. n < 2 ^ 8) (field_of (number_of 255)) (λ n. field (decimal n)) (λ n. n < 2 ^ 32) (field_of (number_of 4294967295)) (λ n. field (decimal n)) (λ n. n < 2 ^ 32) (field_of (number_of 4294967295)) (λ bytes. field (hex_or_dash bytes)) AreBytes (field_of data_of) short-part short-part long-part long-part data-part make_place x.target x.parity x.row x.count x.bytes rest h.0 h.1 h.2 h.3 h.4 stop

pub place-part : IsPart PlaceFields place_fields PlaceFits place_at
place-part = record { takes = place-takes; again = place-again; begins = λ x rest. refl }
