-- A CDB and the bytes sent with it.
use Rattle.std.proofs.Common.{◌≡◌, ℕ, true, List, [], ◌∷◌, ◌++◌, Some, refl, ap, subst, ◌∙◌, arith}
use Rattle.std.specs.Prelude.{codes}
use Rattle.std.proofs.lemmas.Option.{same_Some}
use Rattle.text_fields.specs.Spelling.{AreBytes, hex, hex_or_dash}
use Rattle.text_fields.specs.Reading.{◌>>=◌, cut_at, filled_of, data_of}
use Rattle.text_fields.specs.Laws.{lacks}
use Rattle.text_fields.proofs.Cuts.{bind-some, lacks-append, cut-takes, cut-again}
use Rattle.text_fields.proofs.HexLaws.{hex-lacks, data-takes, data-again, filled-takes, filled-again}
use Rattle.host_scripts.specs.Scripts.{raw_text, IsRaw}
use Rattle.host_scripts.specs.Loose.{raw_parts_of}
use Rattle.host_scripts.proofs.Texts.{spaced_same}

-- the parts of a text behind `cdb `
pub raw-parts-takes : (text : List ℕ) (p : List ℕ × List ℕ) → raw_parts_of text ≡ Some p → (codes "cdb " ++ text ≡ raw_text p.0 p.1) × IsRaw p.0 p.1
unfolding raw_parts_of
raw-parts-takes text p e =
    let x = bind-some (cut_at 32 text) (λ cut. filled_of cut.0 >>= λ cdb. data_of cut.1 >>= λ bytes. Some (cdb, bytes)) p e in
    let y = bind-some (filled_of x.0.0) (λ cdb. data_of x.0.1 >>= λ bytes. Some (cdb, bytes)) p x.2 in
    let z = bind-some (data_of x.0.1) (λ bytes. Some (y.0, bytes)) p y.2 in
    let c = filled-takes x.0.0 y.0 y.1 in
    let d = data-takes x.0.1 z.0 z.1 in
    let all : text ≡ hex y.0 ++ 32 ∷ hex_or_dash z.0 = cut-takes 32 text x.0.0 x.0.1 x.1 ∙ spaced_same x.0.0 x.0.1 (hex y.0) (hex_or_dash z.0) c.0 d.0 in
    let here : (codes "cdb " ++ text ≡ raw_text y.0 z.0) × IsRaw y.0 z.0 = (ap (λ (t : List ℕ). codes "cdb " ++ t) all, (c.2, c.1, d.1)) in
    subst (λ (q : List ℕ × List ℕ). (codes "cdb " ++ text ≡ raw_text q.0 q.1) × IsRaw q.0 q.1) (same_Some (y.0, z.0) p z.2) here

pub raw-parts-again : (cdb bytes : List ℕ) → IsRaw cdb bytes → raw_parts_of (hex cdb ++ 32 ∷ hex_or_dash bytes) ≡ Some (cdb, bytes)
unfolding raw_parts_of
raw-parts-again cdb bytes h = rw (cut-again 32 (hex cdb) (hex_or_dash bytes) (hex-lacks 32 cdb (omega arith) h.1), filled-again cdb h.1 h.0, data-again bytes h.2) refl

pub dash-lacks : (bytes : List ℕ) → AreBytes bytes → lacks 10 (hex_or_dash bytes) ≡ true
dash-lacks [] h = refl
dash-lacks (b ∷ bytes) h = hex-lacks 10 (b ∷ bytes) (omega arith) h

-- there is no end of line in them
pub raw-clean : (cdb bytes : List ℕ) → IsRaw cdb bytes → lacks 10 (raw_text cdb bytes) ≡ true
raw-clean cdb bytes h = lacks-append 10 (codes "cdb ") (hex cdb ++ 32 ∷ hex_or_dash bytes) refl (lacks-append 10 (hex cdb) (32 ∷ hex_or_dash bytes) (hex-lacks 10 cdb (omega arith) h.1) (dash-lacks bytes h.2))
