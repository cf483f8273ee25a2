-- Whole lines: what is read of a line is the entry that it spells.
use Rattle.std.proofs.Common.{◌≡◌, ℕ, ◌^◌, ◌<◌, ◌≤◌, true, List, [], ◌∷◌, ◌++◌, Option, Some, refl, sym, ap, subst, ◌∙◌, append_assoc, arith}
use Rattle.std.specs.Fmt.{decimal}
use Rattle.std.proofs.lemmas.Option.{some_pair_parts}
use Rattle.array_journal.specs.declared.entry.Entry.{Entry}
use Rattle.array_journal.specs.declared.event.Event.{Event}
use Rattle.journal_text.specs.Traces.{field, entry_line}
use Rattle.journal_text.specs.declared.reading.names.EventName.{EventName}
use Rattle.text_fields.specs.Reading.{◌>>=◌, front_at, number_of, stripped}
use Rattle.journal_text.specs.Lines.{field_of, name_text, name_of, event_at, stamp_at, entry_at}
use Rattle.journal_text.specs.Readable.{IsEntry}
use Rattle.text_fields.proofs.Cuts.{bind-some, above-lower, ends, front-takes, front-again, stripped-takes, stripped-again}
use Rattle.journal_text.proofs.Numerals.{number-takes, number-again, decimal-above}
use Rattle.journal_text.proofs.EventFields.{short-part}
use Rattle.journal_text.proofs.EventNames.{name-part}
use Rattle.journal_text.proofs.EventParts.{title, fields, event-parts, fields-begin}
use Rattle.journal_text.proofs.EventTakes.{event-takes}
use Rattle.journal_text.proofs.EventAgain.{event-again}

stamp-takes : (bytes : List ℕ) (stamp : ℕ) (rest : List ℕ) → stamp_at bytes ≡ Some (stamp, rest) → (bytes ≡ decimal stamp ++ rest) × (stamp < 2 ^ 64)
unfolding stamp_at
stamp-takes bytes stamp rest e =
    let x = bind-some (number_of 18446744073709551615 (front_at bytes).0) (λ stamp. Some (stamp, (front_at bytes).1)) (stamp, rest) e in
    let same = some_pair_parts x.0 stamp (front_at bytes).1 rest x.2 in
    let n = number-takes 18446744073709551615 (front_at bytes).0 x.0 (omega arith) x.1 in
    let le : x.0 ≤ 18446744073709551615 = n.1 in
    let all : bytes ≡ decimal x.0 ++ (front_at bytes).1 = front-takes bytes ∙ ap (λ (t : List ℕ). t ++ (front_at bytes).1) n.0 in
    let P : ℕ → List ℕ → Type 0 = λ k z. (bytes ≡ decimal k ++ z) × (k < 2 ^ 64) in
    subst (λ (k : ℕ). P k rest) same.0 (subst (λ (z : List ℕ). P x.0 z) same.1 (all, omega (arith, le)))

stamp-again : (stamp : ℕ) (rest : List ℕ) → stamp < 2 ^ 64 → ends rest ≡ true → stamp_at (decimal stamp ++ rest) ≡ Some (stamp, rest)
unfolding stamp_at
stamp-again stamp rest lt stop =
    ap (λ (p : List ℕ × List ℕ). number_of 18446744073709551615 p.0 >>= λ n. Some (n, p.1)) (front-again (decimal stamp) rest (above-lower 32 47 (decimal stamp) (omega arith) (decimal-above stamp lt)) stop)
    ∙ ap (λ (o : Option ℕ). o >>= λ n. Some (n, rest)) (number-again 18446744073709551615 stamp (omega arith) lt)

-- the parts of a line
abbrev parts : ℕ → ℕ → EventName → List ℕ → List ℕ → List ℕ
parts stamp lock name text rest = decimal stamp ++ (field (decimal lock) ++ (field (name_text name) ++ (text ++ (10 ∷ rest))))

regroup : (s l n f rest : List ℕ) → ((s ++ (l ++ (32 ∷ (n ++ f)))) ++ (10 ∷ [])) ++ rest ≡ s ++ (l ++ (32 ∷ (n ++ (f ++ (10 ∷ rest)))))
regroup s l n f rest = simp append_assoc refl

line-parts : (e : Entry) (rest : List ℕ) → entry_line e ++ rest ≡ parts e.stamp e.lock (title e.event) (fields e.event) rest
line-parts e rest =
    ap (λ (t : List ℕ). ((decimal e.stamp ++ (field (decimal e.lock) ++ field t)) ++ (10 ∷ [])) ++ rest) (event-parts e.event)
    ∙ regroup (decimal e.stamp) (field (decimal e.lock)) (name_text (title e.event)) (fields e.event) rest

pub entry-takes : (bytes : List ℕ) (e : Entry) (rest : List ℕ) → entry_at bytes ≡ Some (e, rest) → (bytes ≡ entry_line e ++ rest) × IsEntry e
unfolding entry_at
entry-takes bytes e rest h =
    let a = bind-some (stamp_at bytes) (λ stamp. field_of (number_of 255) stamp.1 >>= λ lock. field_of name_of lock.1 >>= λ name. event_at name.0 name.1 >>= λ event. stripped (10 ∷ []) event.1 >>= λ rest. Some (record { stamp = stamp.0; lock = lock.0; event = event.0 }, rest)) (e, rest) h in
    let b = bind-some (field_of (number_of 255) a.0.1) (λ lock. field_of name_of lock.1 >>= λ name. event_at name.0 name.1 >>= λ event. stripped (10 ∷ []) event.1 >>= λ rest. Some (record { stamp = a.0.0; lock = lock.0; event = event.0 }, rest)) (e, rest) a.2 in
    let c = bind-some (field_of name_of b.0.1) (λ name. event_at name.0 name.1 >>= λ event. stripped (10 ∷ []) event.1 >>= λ rest. Some (record { stamp = a.0.0; lock = b.0.0; event = event.0 }, rest)) (e, rest) b.2 in
    let d = bind-some (event_at c.0.0 c.0.1) (λ event. stripped (10 ∷ []) event.1 >>= λ rest. Some (record { stamp = a.0.0; lock = b.0.0; event = event.0 }, rest)) (e, rest) c.2 in
    let f = bind-some (stripped (10 ∷ []) d.0.1) (λ rest. Some (record { stamp = a.0.0; lock = b.0.0; event = d.0.0 }, rest)) (e, rest) d.2 in
    let made : Entry = record { stamp = a.0.0; lock = b.0.0; event = d.0.0 } in
    let same = some_pair_parts made e f.0 rest f.2 in
    let s = stamp-takes bytes a.0.0 a.0.1 a.1 in
    let l = short-part.takes a.0.1 b.0.0 b.0.1 b.1 in
    let n = name-part.takes b.0.1 c.0.0 c.0.1 c.1 in
    let v = event-takes c.0.0 c.0.1 d.0.0 d.0.1 d.1 in
    let spelt : bytes ≡ parts a.0.0 b.0.0 c.0.0 (fields d.0.0) f.0 =
    s.0 ∙ ap (λ (t : List ℕ). decimal a.0.0 ++ t) (l.0 ∙ ap (λ (t : List ℕ). field (decimal b.0.0) ++ t) (n.0 ∙ ap (λ (t : List ℕ). field (name_text c.0.0) ++ t) (v.spelt ∙ ap (λ (t : List ℕ). fields d.0.0 ++ t) (stripped-takes (10 ∷ []) d.0.1 f.0 f.1)))) in
    let all : bytes ≡ entry_line made ++ f.0 = spelt ∙ ap (λ (k : EventName). parts a.0.0 b.0.0 k (fields d.0.0) f.0) (sym v.named) ∙ sym (line-parts made f.0) in
    let P : Entry → List ℕ → Type 0 = λ x z. (bytes ≡ entry_line x ++ z) × IsEntry x in
    subst (λ (x : Entry). P x rest) same.0 (subst (λ (z : List ℕ). P made z) same.1 (all, (s.1, l.1, v.fits)))

pub entry-again : (e : Entry) (rest : List ℕ) → IsEntry e → entry_at (entry_line e ++ rest) ≡ Some (e, rest)
unfolding entry_at
entry-again e rest h =
    let behind = fields e.event ++ (10 ∷ rest) in
    let name = field (name_text (title e.event)) ++ behind in
    ap entry_at (line-parts e rest)
    ∙ ap (λ (o : Option (ℕ × List ℕ)). o >>= λ stamp. field_of (number_of 255) stamp.1 >>= λ lock. field_of name_of lock.1 >>= λ name. event_at name.0 name.1 >>= λ event. stripped (10 ∷ []) event.1 >>= λ rest. Some (record { stamp = stamp.0; lock = lock.0; event = event.0 }, rest))
    (stamp-again e.stamp (field (decimal e.lock) ++ name) h.0 refl)
    ∙ ap (λ (o : Option (ℕ × List ℕ)). o >>= λ lock. field_of name_of lock.1 >>= λ name. event_at name.0 name.1 >>= λ event. stripped (10 ∷ []) event.1 >>= λ rest. Some (record { stamp = e.stamp; lock = lock.0; event = event.0 }, rest))
    (short-part.again e.lock name h.1 refl)
    ∙ ap (λ (o : Option (EventName × List ℕ)). o >>= λ name. event_at name.0 name.1 >>= λ event. stripped (10 ∷ []) event.1 >>= λ rest. Some (record { stamp = e.stamp; lock = e.lock; event = event.0 }, rest))
    (name-part.again (title e.event) behind tt (fields-begin e.event (10 ∷ rest)))
    ∙ ap (λ (o : Option (Event × List ℕ)). o >>= λ event. stripped (10 ∷ []) event.1 >>= λ rest. Some (record { stamp = e.stamp; lock = e.lock; event = event.0 }, rest))
    (event-again e.event (10 ∷ rest) h.2 refl)
    ∙ ap (λ (o : Option (List ℕ)). o >>= λ rest. Some (record { stamp = e.stamp; lock = e.lock; event = e.event }, rest))
    (stripped-again (10 ∷ []) rest)
