-- Parts of a line: what is read is what is spelt there, and what is spelt is read again, whatever follows it.
use Rattle.std.proofs.Common.{◌≡◌, ℕ, true, List, ◌∷◌, ◌++◌, Option, Some, refl, sym, ap, subst, ◌∙◌, append_assoc}
use Rattle.std.proofs.lemmas.Option.{some_pair_parts}
use Rattle.journal_text.specs.Traces.{field}
use Rattle.text_fields.specs.Reading.{◌>>=◌, word_at}
use Rattle.journal_text.specs.Lines.{field_of}
use Rattle.text_fields.proofs.Cuts.{bind-some, above, ends, word-takes, word-again}

-- one word spells a value that fits, and no other word does
pub record IsWord (A : Type 0) (text : A → List ℕ) (Fits : A → Type 0) (read : List ℕ → Option A) : Type 0 where
  pub takes : (word : List ℕ) (v : A) → read word ≡ Some v → (word ≡ text v) × Fits v
  pub again : (v : A) → Fits v → read (text v) ≡ Some v
  pub solid : (v : A) → Fits v → above 32 (text v) ≡ true

-- the same of a part that begins with a space, and of what stands after it
pub record IsPart (A : Type 0) (text : A → List ℕ) (Fits : A → Type 0) (read : List ℕ → Option (A × List ℕ)) : Type 0 where
  pub takes : (bytes : List ℕ) (v : A) (rest : List ℕ) → read bytes ≡ Some (v, rest) → (bytes ≡ text v ++ rest) × Fits v
  pub again : (v : A) (rest : List ℕ) → Fits v → ends rest ≡ true → read (text v ++ rest) ≡ Some (v, rest)
  pub begins : (v : A) (rest : List ℕ) → ends (text v ++ rest) ≡ true

field-takes : (A : Type 0) (text : A → List ℕ) (Fits : A → Type 0) (read : List ℕ → Option A) → IsWord A text Fits read
    → (bytes : List ℕ) (v : A) (rest : List ℕ) → field_of read bytes ≡ Some (v, rest) → (bytes ≡ field (text v) ++ rest) × Fits v
unfolding field_of
field-takes A text Fits read w bytes v rest e =
    let a = bind-some (word_at bytes) (λ word. read word.0 >>= λ value. Some (value, word.1)) (v, rest) e in
    let b = bind-some (read a.0.0) (λ value. Some (value, a.0.1)) (v, rest) a.2 in
    let same = some_pair_parts b.0 v a.0.1 rest b.2 in
    let t = w.takes a.0.0 b.0 b.1 in
    let all : bytes ≡ 32 ∷ (text b.0 ++ a.0.1) = word-takes bytes a.0.0 a.0.1 a.1 ∙ ap (λ (x : List ℕ). 32 ∷ (x ++ a.0.1)) t.0 in
    let P : A → List ℕ → Type 0 = λ x z. (bytes ≡ field (text x) ++ z) × Fits x in
    subst (λ (x : A). P x rest) same.0 (subst (λ (z : List ℕ). P b.0 z) same.1 (all, t.1))

field-again : (A : Type 0) (text : A → List ℕ) (Fits : A → Type 0) (read : List ℕ → Option A) → IsWord A text Fits read
    → (v : A) (rest : List ℕ) → Fits v → ends rest ≡ true → field_of read (field (text v) ++ rest) ≡ Some (v, rest)
unfolding field_of
field-again A text Fits read w v rest fits e =
    ap (λ (o : Option (List ℕ × List ℕ)). o >>= λ word. read word.0 >>= λ value. Some (value, word.1)) (word-again (text v) rest (w.solid v fits) e)
    ∙ ap (λ (o : Option A). o >>= λ value. Some (value, rest)) (w.again v fits)

pub field-part : (A : Type 0) (text : A → List ℕ) (Fits : A → Type 0) (read : List ℕ → Option A) → IsWord A text Fits read → IsPart A (λ v. field (text v)) Fits (field_of read)
field-part A text Fits read w = record {
  takes = field-takes A text Fits read w;
  again = field-again A text Fits read w;
  begins = λ v rest. refl;
}

-- ---- parts one after the other, up to five

-- a value, and what stands after it
abbrev pub read_as : {Z : Type 0} → Z → List ℕ → Option (Z × List ℕ)
read_as value rest = Some (value, rest)

pub record Takes1 (A Z : Type 0) (ta : A → List ℕ) (Fa : A → Type 0) (make : A → Z) (bytes rest : List ℕ) (z : Z) : Type 0 where
  pub a : A
  pub spelt : bytes ≡ (ta a) ++ rest
  pub fits_a : Fa a
  pub made : make a ≡ z

pub takes-1 : (A Z : Type 0) (ta : A → List ℕ) (Fa : A → Type 0) (ra : List ℕ → Option (A × List ℕ)) → IsPart A ta Fa ra → (make : A → Z) (bytes rest : List ℕ) (z : Z) → (ra bytes >>= λ a. read_as (make a.0) a.1) ≡ read_as z rest
    → Takes1 A Z ta Fa make bytes rest z
takes-1 A Z ta Fa ra pa make bytes rest z e =
    let x = bind-some (ra bytes) (λ a. read_as (make a.0) a.1) (z, rest) e in
    let same = some_pair_parts (make x.0.0) z x.0.1 rest x.2 in
    let p = pa.takes bytes x.0.0 x.0.1 x.1 in
    record { a = x.0.0; spelt = p.0 ∙ ap (λ (r : List ℕ). ta x.0.0 ++ r) same.1; fits_a = p.1; made = same.0 }

pub again-1 : (A Z : Type 0) (ta : A → List ℕ) (Fa : A → Type 0) (ra : List ℕ → Option (A × List ℕ)) → IsPart A ta Fa ra → (make : A → Z) (a : A) (rest : List ℕ) → Fa a → ends rest ≡ true → (ra (ta a ++ rest) >>= λ a. read_as (make a.0) a.1) ≡ read_as (make a) rest
again-1 A Z ta Fa ra pa make a rest fa stop = ap (λ (o : Option (A × List ℕ)). o >>= λ a. read_as (make a.0) a.1) (pa.again a rest fa stop)

pub record Takes2 (A B Z : Type 0) (ta : A → List ℕ) (Fa : A → Type 0) (tb : B → List ℕ) (Fb : B → Type 0) (make : A → B → Z) (bytes rest : List ℕ) (z : Z) : Type 0 where
  pub a : A
  pub b : B
  pub spelt : bytes ≡ (ta a ++ (tb b)) ++ rest
  pub fits_a : Fa a
  pub fits_b : Fb b
  pub made : make a b ≡ z

pub takes-2 : (A B Z : Type 0) (ta : A → List ℕ) (Fa : A → Type 0) (ra : List ℕ → Option (A × List ℕ)) (tb : B → List ℕ) (Fb : B → Type 0) (rb : List ℕ → Option (B × List ℕ)) → IsPart A ta Fa ra → IsPart B tb Fb rb → (make : A → B → Z) (bytes rest : List ℕ) (z : Z) → (ra bytes >>= λ a. rb a.1 >>= λ b. read_as (make a.0 b.0) b.1) ≡ read_as z rest
    → Takes2 A B Z ta Fa tb Fb make bytes rest z
takes-2 A B Z ta Fa ra tb Fb rb pa pb make bytes rest z e =
    let x = bind-some (ra bytes) (λ a. rb a.1 >>= λ b. read_as (make a.0 b.0) b.1) (z, rest) e in
    let p = pa.takes bytes x.0.0 x.0.1 x.1 in
    let y = takes-1 B Z tb Fb rb pb (make x.0.0) x.0.1 rest z x.2 in
    record { a = x.0.0; b = y.a; spelt = p.0 ∙ ap (λ (r : List ℕ). ta x.0.0 ++ r) y.spelt ∙ sym (append_assoc (ta x.0.0) (tb y.a) rest); fits_a = p.1; fits_b = y.fits_a; made = y.made }

pub again-2 : (A B Z : Type 0) (ta : A → List ℕ) (Fa : A → Type 0) (ra : List ℕ → Option (A × List ℕ)) (tb : B → List ℕ) (Fb : B → Type 0) (rb : List ℕ → Option (B × List ℕ)) → IsPart A ta Fa ra → IsPart B tb Fb rb → (make : A → B → Z) (a : A) (b : B) (rest : List ℕ) → Fa a → Fb b → ends rest ≡ true
    → (ra ((ta a ++ (tb b)) ++ rest) >>= λ a. rb a.1 >>= λ b. read_as (make a.0 b.0) b.1) ≡ read_as (make a b) rest
again-2 A B Z ta Fa ra tb Fb rb pa pb make a b rest fa fb stop =
    let tail = tb b in
    let begins : ends (tail ++ rest) ≡ true = pb.begins b rest in
    let first : ra ((ta a ++ tail) ++ rest) ≡ Some (a, tail ++ rest) = ap ra (append_assoc (ta a) tail rest) ∙ pa.again a (tail ++ rest) fa begins in
    ap (λ (o : Option (A × List ℕ)). o >>= λ a. rb a.1 >>= λ b. read_as (make a.0 b.0) b.1) first
    ∙ again-1 B Z tb Fb rb pb (make a) b rest fb stop

pub record Takes3 (A B C Z : Type 0) (ta : A → List ℕ) (Fa : A → Type 0) (tb : B → List ℕ) (Fb : B → Type 0) (tc : C → List ℕ) (Fc : C → Type 0) (make : A → B → C → Z) (bytes rest : List ℕ) (z : Z) : Type 0 where
  pub a : A
  pub b : B
  pub c : C
  pub spelt : bytes ≡ (ta a ++ (tb b ++ (tc c))) ++ rest
  pub fits_a : Fa a
  pub fits_b : Fb b
  pub fits_c : Fc c
  pub made : make a b c ≡ z

pub takes-3 : (A B C Z : Type 0) (ta : A → List ℕ) (Fa : A → Type 0) (ra : List ℕ → Option (A × List ℕ)) (tb : B → List ℕ) (Fb : B → Type 0) (rb : List ℕ → Option (B × List ℕ)) (tc : C → List ℕ) (Fc : C → Type 0) (rc : List ℕ → Option (C × List ℕ)) → IsPart A ta Fa ra → IsPart B tb Fb rb → IsPart C tc Fc rc → (make : A → B → C → Z) (bytes rest : List ℕ) (z : Z) → (ra bytes >>= λ a. rb a.1 >>= λ b. rc b.1 >>= λ c. read_as (make a.0 b.0 c.0) c.1) ≡ read_as z rest
    → Takes3 A B C Z ta Fa tb Fb tc Fc make bytes rest z
takes-3 A B C Z ta Fa ra tb Fb rb tc Fc rc pa pb pc make bytes rest z e =
    let x = bind-some (ra bytes) (λ a. rb a.1 >>= λ b. rc b.1 >>= λ c. read_as (make a.0 b.0 c.0) c.1) (z, rest) e in
    let p = pa.takes bytes x.0.0 x.0.1 x.1 in
    let y = takes-2 B C Z tb Fb rb tc Fc rc pb pc (make x.0.0) x.0.1 rest z x.2 in
    record { a = x.0.0; b = y.a; c = y.b; spelt = p.0 ∙ ap (λ (r : List ℕ). ta x.0.0 ++ r) y.spelt ∙ sym (append_assoc (ta x.0.0) (tb y.a ++ (tc y.b)) rest); fits_a = p.1; fits_b = y.fits_a; fits_c = y.fits_b; made = y.made }

pub again-3 : (A B C Z : Type 0) (ta : A → List ℕ) (Fa : A → Type 0) (ra : List ℕ → Option (A × List ℕ)) (tb : B → List ℕ) (Fb : B → Type 0) (rb : List ℕ → Option (B × List ℕ)) (tc : C → List ℕ) (Fc : C → Type 0) (rc : List ℕ → Option (C × List ℕ)) → IsPart A ta Fa ra → IsPart B tb Fb rb → IsPart C tc Fc rc → (make : A → B → C → Z) (a : A) (b : B) (c : C) (rest : List ℕ) → Fa a → Fb b → Fc c → ends rest ≡ true
    → (ra ((ta a ++ (tb b ++ (tc c))) ++ rest) >>= λ a. rb a.1 >>= λ b. rc b.1 >>= λ c. read_as (make a.0 b.0 c.0) c.1) ≡ read_as (make a b c) rest
again-3 A B C Z ta Fa ra tb Fb rb tc Fc rc pa pb pc make a b c rest fa fb fc stop =
    let tail = tb b ++ (tc c) in
    let begins : ends (tail ++ rest) ≡ true = ap ends (append_assoc (tb b) (tc c) rest) ∙ pb.begins b ((tc c) ++ rest) in
    let first : ra ((ta a ++ tail) ++ rest) ≡ Some (a, tail ++ rest) = ap ra (append_assoc (ta a) tail rest) ∙ pa.again a (tail ++ rest) fa begins in
    ap (λ (o : Option (A × List ℕ)). o >>= λ a. rb a.1 >>= λ b. rc b.1 >>= λ c. read_as (make a.0 b.0 c.0) c.1) first
    ∙ again-2 B C Z tb Fb rb tc Fc rc pb pc (make a) b c rest fb fc stop

pub record Takes4 (A B C D Z : Type 0) (ta : A → List ℕ) (Fa : A → Type 0) (tb : B → List ℕ) (Fb : B → Type 0) (tc : C → List ℕ) (Fc : C → Type 0) (td : D → List ℕ) (Fd : D → Type 0) (make : A → B → C → D → Z) (bytes rest : List ℕ) (z : Z) : Type 0 where
  pub a : A
  pub b : B
  pub c : C
  pub d : D
  pub spelt : bytes ≡ (ta a ++ (tb b ++ (tc c ++ (td d)))) ++ rest
  pub fits_a : Fa a
  pub fits_b : Fb b
  pub fits_c : Fc c
  pub fits_d : Fd d
  pub made : make a b c d ≡ z

pub takes-4 : (A B C D Z : Type 0) (ta : A → List ℕ) (Fa : A → Type 0) (ra : List ℕ → Option (A × List ℕ)) (tb : B → List ℕ) (Fb : B → Type 0) (rb : List ℕ → Option (B × List ℕ)) (tc : C → List ℕ) (Fc : C → Type 0) (rc : List ℕ → Option (C × List ℕ)) (td : D → List ℕ) (Fd : D → Type 0) (rd : List ℕ → Option (D × List ℕ)) → IsPart A ta Fa ra → IsPart B tb Fb rb → IsPart C tc Fc rc → IsPart D td Fd rd → (make : A → B → C → D → Z) (bytes rest : List ℕ) (z : Z) → (ra bytes >>= λ a. rb a.1 >>= λ b. rc b.1 >>= λ c. rd c.1 >>= λ d. read_as (make a.0 b.0 c.0 d.0) d.1) ≡ read_as z rest
    → Takes4 A B C D Z ta Fa tb Fb tc Fc td Fd make bytes rest z
takes-4 A B C D Z ta Fa ra tb Fb rb tc Fc rc td Fd rd pa pb pc pd make bytes rest z e =
    let x = bind-some (ra bytes) (λ a. rb a.1 >>= λ b. rc b.1 >>= λ c. rd c.1 >>= λ d. read_as (make a.0 b.0 c.0 d.0) d.1) (z, rest) e in
    let p = pa.takes bytes x.0.0 x.0.1 x.1 in
    let y = takes-3 B C D Z tb Fb rb tc Fc rc td Fd rd pb pc pd (make x.0.0) x.0.1 rest z x.2 in
    record { a = x.0.0; b = y.a; c = y.b; d = y.c; spelt = p.0 ∙ ap (λ (r : List ℕ). ta x.0.0 ++ r) y.spelt ∙ sym (append_assoc (ta x.0.0) (tb y.a ++ (tc y.b ++ (td y.c))) rest); fits_a = p.1; fits_b = y.fits_a; fits_c = y.fits_b; fits_d = y.fits_c; made = y.made }

pub again-4 : (A B C D Z : Type 0) (ta : A → List ℕ) (Fa : A → Type 0) (ra : List ℕ → Option (A × List ℕ)) (tb : B → List ℕ) (Fb : B → Type 0) (rb : List ℕ → Option (B × List ℕ)) (tc : C → List ℕ) (Fc : C → Type 0) (rc : List ℕ → Option (C × List ℕ)) (td : D → List ℕ) (Fd : D → Type 0) (rd : List ℕ → Option (D × List ℕ)) → IsPart A ta Fa ra → IsPart B tb Fb rb → IsPart C tc Fc rc → IsPart D td Fd rd → (make : A → B → C → D → Z) (a : A) (b : B) (c : C) (d : D) (rest : List ℕ) → Fa a → Fb b → Fc c → Fd d → ends rest ≡ true
    → (ra ((ta a ++ (tb b ++ (tc c ++ (td d)))) ++ rest) >>= λ a. rb a.1 >>= λ b. rc b.1 >>= λ c. rd c.1 >>= λ d. read_as (make a.0 b.0 c.0 d.0) d.1) ≡ read_as (make a b c d) rest
again-4 A B C D Z ta Fa ra tb Fb rb tc Fc rc td Fd rd pa pb pc pd make a b c d rest fa fb fc fd stop =
    let tail = tb b ++ (tc c ++ (td d)) in
    let begins : ends (tail ++ rest) ≡ true = ap ends (append_assoc (tb b) (tc c ++ (td d)) rest) ∙ pb.begins b ((tc c ++ (td d)) ++ rest) in
    let first : ra ((ta a ++ tail) ++ rest) ≡ Some (a, tail ++ rest) = ap ra (append_assoc (ta a) tail rest) ∙ pa.again a (tail ++ rest) fa begins in
    ap (λ (o : Option (A × List ℕ)). o >>= λ a. rb a.1 >>= λ b. rc b.1 >>= λ c. rd c.1 >>= λ d. read_as (make a.0 b.0 c.0 d.0) d.1) first
    ∙ again-3 B C D Z tb Fb rb tc Fc rc td Fd rd pb pc pd (make a) b c d rest fb fc fd stop

pub record Takes5 (A B C D E Z : Type 0) (ta : A → List ℕ) (Fa : A → Type 0) (tb : B → List ℕ) (Fb : B → Type 0) (tc : C → List ℕ) (Fc : C → Type 0) (td : D → List ℕ) (Fd : D → Type 0) (te : E → List ℕ) (Fe : E → Type 0) (make : A → B → C → D → E → Z) (bytes rest : List ℕ) (z : Z) : Type 0 where
  pub a : A
  pub b : B
  pub c : C
  pub d : D
  pub e : E
  pub spelt : bytes ≡ (ta a ++ (tb b ++ (tc c ++ (td d ++ (te e))))) ++ rest
  pub fits_a : Fa a
  pub fits_b : Fb b
  pub fits_c : Fc c
  pub fits_d : Fd d
  pub fits_e : Fe e
  pub made : make a b c d e ≡ z

pub takes-5 : (A B C D E Z : Type 0) (ta : A → List ℕ) (Fa : A → Type 0) (ra : List ℕ → Option (A × List ℕ)) (tb : B → List ℕ) (Fb : B → Type 0) (rb : List ℕ → Option (B × List ℕ)) (tc : C → List ℕ) (Fc : C → Type 0) (rc : List ℕ → Option (C × List ℕ)) (td : D → List ℕ) (Fd : D → Type 0) (rd : List ℕ → Option (D × List ℕ)) (te : E → List ℕ) (Fe : E → Type 0) (re : List ℕ → Option (E × List ℕ)) → IsPart A ta Fa ra → IsPart B tb Fb rb → IsPart C tc Fc rc → IsPart D td Fd rd → IsPart E te Fe re → (make : A → B → C → D → E → Z) (bytes rest : List ℕ) (z : Z) → (ra bytes >>= λ a. rb a.1 >>= λ b. rc b.1 >>= λ c. rd c.1 >>= λ d. re d.1 >>= λ e. read_as (make a.0 b.0 c.0 d.0 e.0) e.1) ≡ read_as z rest
    → Takes5 A B C D E Z ta Fa tb Fb tc Fc td Fd te Fe make bytes rest z
takes-5 A B C D E Z ta Fa ra tb Fb rb tc Fc rc td Fd rd te Fe re pa pb pc pd pe make bytes rest z e =
    let x = bind-some (ra bytes) (λ a. rb a.1 >>= λ b. rc b.1 >>= λ c. rd c.1 >>= λ d. re d.1 >>= λ e. read_as (make a.0 b.0 c.0 d.0 e.0) e.1) (z, rest) e in
    let p = pa.takes bytes x.0.0 x.0.1 x.1 in
    let y = takes-4 B C D E Z tb Fb rb tc Fc rc td Fd rd te Fe re pb pc pd pe (make x.0.0) x.0.1 rest z x.2 in
    record { a = x.0.0; b = y.a; c = y.b; d = y.c; e = y.d; spelt = p.0 ∙ ap (λ (r : List ℕ). ta x.0.0 ++ r) y.spelt ∙ sym (append_assoc (ta x.0.0) (tb y.a ++ (tc y.b ++ (td y.c ++ (te y.d)))) rest); fits_a = p.1; fits_b = y.fits_a; fits_c = y.fits_b; fits_d = y.fits_c; fits_e = y.fits_d; made = y.made }

pub again-5 : (A B C D E Z : Type 0) (ta : A → List ℕ) (Fa : A → Type 0) (ra : List ℕ → Option (A × List ℕ)) (tb : B → List ℕ) (Fb : B → Type 0) (rb : List ℕ → Option (B × List ℕ)) (tc : C → List ℕ) (Fc : C → Type 0) (rc : List ℕ → Option (C × List ℕ)) (td : D → List ℕ) (Fd : D → Type 0) (rd : List ℕ → Option (D × List ℕ)) (te : E → List ℕ) (Fe : E → Type 0) (re : List ℕ → Option (E × List ℕ)) → IsPart A ta Fa ra → IsPart B tb Fb rb → IsPart C tc Fc rc → IsPart D td Fd rd → IsPart E te Fe re → (make : A → B → C → D → E → Z) (a : A) (b : B) (c : C) (d : D) (e : E) (rest : List ℕ) → Fa a → Fb b → Fc c → Fd d → Fe e → ends rest ≡ true
    → (ra ((ta a ++ (tb b ++ (tc c ++ (td d ++ (te e))))) ++ rest) >>= λ a. rb a.1 >>= λ b. rc b.1 >>= λ c. rd c.1 >>= λ d. re d.1 >>= λ e. read_as (make a.0 b.0 c.0 d.0 e.0) e.1) ≡ read_as (make a b c d e) rest
again-5 A B C D E Z ta Fa ra tb Fb rb tc Fc rc td Fd rd te Fe re pa pb pc pd pe make a b c d e rest fa fb fc fd fe stop =
    let tail = tb b ++ (tc c ++ (td d ++ (te e))) in
    let begins : ends (tail ++ rest) ≡ true = ap ends (append_assoc (tb b) (tc c ++ (td d ++ (te e))) rest) ∙ pb.begins b ((tc c ++ (td d ++ (te e))) ++ rest) in
    let first : ra ((ta a ++ tail) ++ rest) ≡ Some (a, tail ++ rest) = ap ra (append_assoc (ta a) tail rest) ∙ pa.again a (tail ++ rest) fa begins in
    ap (λ (o : Option (A × List ℕ)). o >>= λ a. rb a.1 >>= λ b. rc b.1 >>= λ c. rd c.1 >>= λ d. re d.1 >>= λ e. read_as (make a.0 b.0 c.0 d.0 e.0) e.1) first
    ∙ again-4 B C D E Z tb Fb rb tc Fc rc td Fd rd te Fe re pb pc pd pe (make a) b c d e rest fb fc fd fe stop
