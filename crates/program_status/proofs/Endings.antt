-- What follows from how a program ended.
use Rattle.std.proofs.Common.{◌≡◌, ◌≢◌, ℕ, List, Option, Result, Ok, Err, refl, sym, subst, ◌∙◌, inl, inr}
use Rattle.std.specs.Prelude.{MatchResult}
use Rattle.std.specs.Io.KnownBytes.{Appends}
use Rattle.outer_io.specs.Outside.{HasRisen, AppendsPrefix}
use Rattle.program_status.specs.declared.status.Verdict.{Verdict}
use Rattle.program_status.specs.declared.status.Verdict.TheVariants.{Rejected, Refused, Exceeded}
use Rattle.program_status.specs.declared.stops.ProgramStop.{ProgramStop}
use Rattle.program_status.specs.declared.stops.ProgramStop.TheVariants.{Usage, ReadFault, Found, Memory}
use Rattle.program_status.specs.Statuses.{verdict_code, code_of}
use Rattle.program_status.specs.Stops.{status_of, note_of, noted_for, IsStopOf}
use Rattle.program_status.specs.Endings.{IsHanded, IsNoted, Counts, HasCause, StopsBy, StopsProgram, AfterReading}

-- ---- statuses

-- a status isn't two numbers
clash : {A : Type 0} (status m n : ℕ) → status ≡ m → m ≢ n → status ≡ n → A
clash status m n e apart f = absurd (apart (sym e ∙ f))

-- no finding has the status of a fault, of want of memory or of words that are no command
pub verdict-not_three : (v : Verdict) → verdict_code v ≢ 3
verdict-not_three Rejected = λ a. cc a
verdict-not_three Refused = λ a. cc a
verdict-not_three Exceeded = λ a. cc a

pub verdict-not_four : (v : Verdict) → verdict_code v ≢ 4
verdict-not_four Rejected = λ a. cc a
verdict-not_four Refused = λ a. cc a
verdict-not_four Exceeded = λ a. cc a

pub verdict-not_five : (v : Verdict) → verdict_code v ≢ 5
verdict-not_five Rejected = λ a. cc a
verdict-not_five Refused = λ a. cc a
verdict-not_five Exceeded = λ a. cc a

pub verdict-not_usage : (v : Verdict) → verdict_code v ≢ 64
verdict-not_usage Rejected = λ a. cc a
verdict-not_usage Refused = λ a. cc a
verdict-not_usage Exceeded = λ a. cc a

-- what stops a program isn't a write fault
pub not-four : {F : Type 0} (verdict : F → Verdict) (stop : ProgramStop F) → code_of (status_of verdict stop) ≢ 4
not-four verdict Usage = λ a. cc a
not-four verdict ReadFault = λ a. cc a
not-four verdict (Found finding note) = verdict-not_four (verdict finding)
not-four verdict Memory = λ a. cc a

-- ---- what was made is handed out

pub handed-causes : (NoCommand Command Reading : Type 0) (before after : Counts) (text : List ℕ) (old new : Option (List ℕ)) (status : ℕ) →
    IsHanded 0 text old new before.out after.out status → HasCause NoCommand Command Reading before after status
handed-causes NoCommand Command Reading before after text old new status (inl e) = record {
  read_fault = clash status 0 3 e.0 (λ a. cc a);
  write_fault = clash status 0 4 e.0 (λ a. cc a);
  no_memory = clash status 0 5 e.0 (λ a. cc a);
  usage = clash status 0 64 e.0 (λ a. cc a);
}
handed-causes NoCommand Command Reading before after text old new status (inr e) = record {
  read_fault = clash status 4 3 e.0 (λ a. cc a);
  write_fault = λ four. inl e.1;
  no_memory = clash status 4 5 e.0 (λ a. cc a);
  usage = clash status 4 64 e.0 (λ a. cc a);
}

pub handed-cut_short : (text : List ℕ) (old new : Option (List ℕ)) (before after status : ℕ) →
    IsHanded 0 text old new before after status → status ≡ 4 → HasRisen before after × AppendsPrefix old new text
handed-cut_short text old new before after status (inl e) four = clash status 0 4 e.0 (λ a. cc a) four
handed-cut_short text old new before after status (inr e) four = (e.1, e.2)

-- ---- what stopped a program is noted

pub noted-causes : {F : Type 0} (NoCommand Command Reading : Type 0) (before after : Counts) (verdict : F → Verdict) (line : F → List ℕ) (Is : F → Type 0) (stop : ProgramStop F) (old new : Option (List ℕ)) (status : ℕ) →
    StopsProgram NoCommand Command Reading line Is before.source after.source stop → IsNoted verdict stop old new before.notes after.notes status → HasCause NoCommand Command Reading before after status
noted-causes NoCommand Command Reading before after verdict line Is stop old new status s (inr e) = record {
  read_fault = clash status 4 3 e.0 (λ a. cc a);
  write_fault = λ four. inr e.1;
  no_memory = clash status 4 5 e.0 (λ a. cc a);
  usage = clash status 4 64 e.0 (λ a. cc a);
}
noted-causes NoCommand Command Reading before after verdict line Is Usage old new status s (inl e) = record {
  read_fault = clash status 64 3 e.0 (λ a. cc a);
  write_fault = clash status 64 4 e.0 (λ a. cc a);
  no_memory = clash status 64 5 e.0 (λ a. cc a);
  usage = λ usage. s;
}
noted-causes NoCommand Command Reading before after verdict line Is ReadFault old new status s (inl e) = record {
  read_fault = λ three. s;
  write_fault = clash status 3 4 e.0 (λ a. cc a);
  no_memory = clash status 3 5 e.0 (λ a. cc a);
  usage = clash status 3 64 e.0 (λ a. cc a);
}
noted-causes NoCommand Command Reading before after verdict line Is (Found finding note) old new status s (inl e) = record {
  read_fault = clash status (verdict_code (verdict finding)) 3 e.0 (verdict-not_three (verdict finding));
  write_fault = clash status (verdict_code (verdict finding)) 4 e.0 (verdict-not_four (verdict finding));
  no_memory = clash status (verdict_code (verdict finding)) 5 e.0 (verdict-not_five (verdict finding));
  usage = clash status (verdict_code (verdict finding)) 64 e.0 (verdict-not_usage (verdict finding));
}
noted-causes NoCommand Command Reading before after verdict line Is Memory old new status s (inl e) = record {
  read_fault = clash status 5 3 e.0 (λ a. cc a);
  write_fault = clash status 5 4 e.0 (λ a. cc a);
  no_memory = λ five. s;
  usage = clash status 5 64 e.0 (λ a. cc a);
}

pub noted-cut_short : {F : Type 0} (verdict : F → Verdict) (stop : ProgramStop F) (old new : Option (List ℕ)) (before after status : ℕ) →
    IsNoted verdict stop old new before after status → status ≡ 4 → HasRisen before after × AppendsPrefix old new (note_of stop)
noted-cut_short verdict stop old new before after status (inl e) four = absurd (not-four verdict stop (sym e.0 ∙ four))
noted-cut_short verdict stop old new before after status (inr e) four = (e.1, e.2)

-- a status that findings alone have comes of a finding, and its line is noted
pub noted-finding : {F : Type 0} (NoCommand Command Reading : Type 0) (source now : ℕ) (verdict : F → Verdict) (line : F → List ℕ) (Is : F → Type 0) (stop : ProgramStop F) (old new : Option (List ℕ)) (before after status n : ℕ) →
    StopsProgram NoCommand Command Reading line Is source now stop → IsNoted verdict stop old new before after status → status ≡ n → n ≢ 3 → n ≢ 4 → n ≢ 5 → n ≢ 64 →
    (finding : F) × (Is finding × ((verdict_code (verdict finding) ≡ n) × Appends old new (line finding)))
noted-finding NoCommand Command Reading source now verdict line Is stop old new before after status n s (inr e) is three four five usage = absurd (four (sym is ∙ e.0))
noted-finding NoCommand Command Reading source now verdict line Is Usage old new before after status n s (inl e) is three four five usage = absurd (usage (sym is ∙ e.0))
noted-finding NoCommand Command Reading source now verdict line Is ReadFault old new before after status n s (inl e) is three four five usage = absurd (three (sym is ∙ e.0))
noted-finding NoCommand Command Reading source now verdict line Is (Found finding note) old new before after status n s (inl e) is three four five usage =
    (finding, (s.0, (sym e.0 ∙ is, subst (λ (t : List ℕ). Appends old new t) s.1 e.1)))
noted-finding NoCommand Command Reading source now verdict line Is Memory old new before after status n s (inl e) is three four five usage = absurd (five (sym is ∙ e.0))

-- what is noted where the status is no finding's
pub noted-other : {F : Type 0} (verdict : F → Verdict) (stop : ProgramStop F) (old new : Option (List ℕ)) (before after status : ℕ) →
    IsNoted verdict stop old new before after status → status ≢ 4 → ((finding : F) → status ≢ verdict_code (verdict finding)) → Appends old new (noted_for status)
noted-other verdict stop old new before after status (inr e) four apart = absurd (four e.0)
noted-other verdict Usage old new before after status (inl e) four apart = let P : ℕ → Type 0 = λ n. Appends old new (noted_for n) in subst P (sym e.0) e.1
noted-other verdict ReadFault old new before after status (inl e) four apart = let P : ℕ → Type 0 = λ n. Appends old new (noted_for n) in subst P (sym e.0) e.1
noted-other verdict (Found finding note) old new before after status (inl e) four apart = absurd (apart finding e.0)
noted-other verdict Memory old new before after status (inl e) four apart = let P : ℕ → Type 0 = λ n. Appends old new (noted_for n) in subst P (sym e.0) e.1

-- ---- what stops a part stops the whole

-- a finding's stop, where the finding holds
pub stop-found : {F : Type 0} (line : F → List ℕ) (Is : F → Type 0) (finding : F) (stop : ProgramStop F) → IsStopOf line finding stop → Is finding → StopsBy line Is stop
stop-found {F} line Is finding stop (inl e) is = let P : ProgramStop F → Type 0 = λ s. StopsBy line Is s in subst P (sym e) (is, refl)
stop-found {F} line Is finding stop (inr e) is = let P : ProgramStop F → Type 0 = λ s. StopsBy line Is s in subst P (sym e) tt

-- what holds of each finding holds of its stop
pub stops-weaker : {F : Type 0} (line : F → List ℕ) (Is Other : F → Type 0) → ((finding : F) → Is finding → Other finding) → (stop : ProgramStop F) → StopsBy line Is stop → StopsBy line Other stop
stops-weaker line Is Other weaker Usage s = absurd s
stops-weaker line Is Other weaker ReadFault s = absurd s
stops-weaker line Is Other weaker (Found finding note) s = (weaker finding s.0, s.1)
stops-weaker line Is Other weaker Memory s = tt

-- ---- what is taken of the source

after-any : {F : Type 0} (Said : Type 0) (stop : ProgramStop F) → Said → AfterReading Said stop
after-any Said Usage said = tt
after-any Said ReadFault said = tt
after-any Said (Found finding note) said = said
after-any Said Memory said = tt

-- what is known once the input is read, of whatever comes after
pub after-both : {X F : Type 0} (Said : Type 0) (r : Result X (ProgramStop F)) → Said → MatchResult r (λ x. Said) (λ stop. AfterReading Said stop)
after-both Said (Ok x) said = said
after-both Said (Err stop) said = after-any Said stop said

-- what is said after reading is so where the status is a finding's
pub noted-after : {F : Type 0} (Said : Type 0) (verdict : F → Verdict) (stop : ProgramStop F) (old new : Option (List ℕ)) (before after status : ℕ) →
    AfterReading Said stop → IsNoted verdict stop old new before after status → status ≢ 3 → status ≢ 4 → status ≢ 5 → status ≢ 64 → Said
noted-after Said verdict stop old new before after status said (inr e) three four five usage = absurd (four e.0)
noted-after Said verdict Usage old new before after status said (inl e) three four five usage = absurd (usage e.0)
noted-after Said verdict ReadFault old new before after status said (inl e) three four five usage = absurd (three e.0)
noted-after Said verdict (Found finding note) old new before after status said (inl e) three four five usage = said
noted-after Said verdict Memory old new before after status said (inl e) three four five usage = absurd (five e.0)
