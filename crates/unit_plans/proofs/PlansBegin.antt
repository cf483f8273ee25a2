-- A command that the book has just opened stands at its beginning: no entry of a run carries a command that wasn't opened.
use Rattle.std.specs.Prelude.{◌≡◌, ◌==◌, ◌⊎◌, ℕ, zero, suc, Bool, true, false, List, [], ◌∷◌, Some}
use Rattle.std.proofs.Common.{refl, ap, sym, ◌∙◌, cond, subst, inl, inr}
use Rattle.std.proofs.lemmas.Bool.{both_ways, cond-true, eq-eqb, eqb-true, false≢true}
use Rattle.array_journal.specs.declared.at.At.{At}
use Rattle.array_journal.specs.declared.entry.Entry.{Entry}
use Rattle.array_journal.specs.declared.event.Event.{Event}
use Rattle.array_journal.specs.declared.event.Event.TheVariants.{Fetch, Put, Diff, Take, Fold, Hold, Shut, Gone, Wiped, Fresh, Open, Close, Spoil, Note, Swap, Refuse}
use Rattle.array_journal.specs.declared.setting.Setting.{Setting}
use Rattle.array_journal.specs.declared.task.Task.{Task}
use Rattle.array_journal.specs.Commands.{is_open, opens_command}
use Rattle.array_journal.specs.Entries.{entry_at, some_at}
use Rattle.array_journal.specs.May.{IsTask, MayAt, MayBook, MayTarget}
use Rattle.array_journal.specs.OwnEntries.{OfCommand, carries, mine}
use Rattle.array_journal.specs.Run.{Grows}
use Rattle.array_journal.proofs.runs.CommandLaws.{named-opened, open-opened}
use Rattle.array_journal.proofs.runs.LaneLaws.{some_at-lane}
use Rattle.array_journal.proofs.runs.Standing.{some_at-newest, some_at-older}
use Rattle.array_book.specs.BookAnswers.{HasOpened}
use Rattle.array_book.specs.declared.asks.Ask.{Ask}
use Rattle.array_book.specs.Ledgers.{Ledger, book_entry, next_name}
use Rattle.unit_plans.specs.PlanLaws.{PlansBegin}

-- ---- what carries a command follows its opening

-- the command was opened, since an entry names its opening
by-opening : (c command : ℕ) (opened : At) (task : Task) (past : List Entry) → (command == c) ≡ true → opened.lock ≡ 0 →
    entry_at opened past ≡ Some (Open command task) → some_at 0 (opens_command c) past ≡ true
by-opening c command opened task past same book stands =
    subst (λ (d : ℕ). some_at 0 (opens_command d) past ≡ true) (eqb-true command c same) (named-opened opened command task past book stands)

-- or since it is open
by-openness : (c command : ℕ) (past : List Entry) → (command == c) ≡ true → is_open command past ≡ true → some_at 0 (opens_command c) past ≡ true
by-openness c command past same open_still =
    subst (λ (d : ℕ). some_at 0 (opens_command d) past ≡ true) (eqb-true command c same) (open-opened command past open_still)

at-target : (s : Setting) (past : List Entry) (stamp i c : ℕ) (event : Event) → MayTarget s past stamp i event → carries (OfCommand c) event ≡ true →
    some_at 0 (opens_command c) past ≡ true
at-target s past stamp i c (Fetch command opened cdb row bytes) (task, m) h = by-opening c command opened task past h m.act.in_book m.act.opening.0
at-target s past stamp i c (Put command opened cdb row bytes names) (task, m) h = by-opening c command opened task past h m.act.in_book m.act.opening.0
at-target s past stamp i c (Diff command opened cdb row bytes sent dropped back) (task, m) h =
    by-opening c command opened task past h m.act.in_book m.act.opening.0
at-target s past stamp i c (Take command opened cdb row bytes) (task, m) h = by-opening c command opened task past h m.act.in_book m.act.opening.0
at-target s past stamp i c (Fold command opened cdb row bytes names) (task, (name, m)) h =
    by-opening c command opened task past h m.act.in_book m.act.opening.0
at-target s past stamp i c (Hold command opened cdb row bytes kept names back) (task, m) h =
    by-opening c command opened task past h m.act.in_book m.act.opening.0
at-target s past stamp i c (Shut command opened acted lost) (task, m) h = by-opening c command opened task past h m.in_book m.opening.0
at-target s past stamp i c (Gone life call commands) m h = absurd (false≢true h)
at-target s past stamp i c (Wiped what call commands) m h = absurd (false≢true h)
at-target s past stamp i c (Fresh call swap) m h = absurd (false≢true h)
at-target s past stamp i c _ m h = absurd m

at-book : (s : Setting) (past : List Entry) (stamp c : ℕ) (event : Event) → MayBook s past stamp event → carries (OfCommand c) event ≡ true →
    (opens_command c event ≡ true) ⊎ (some_at 0 (opens_command c) past ≡ true)
at-book s past stamp c (Open command task) m h = inl h
at-book s past stamp c (Close command done names cause bytes) (task, m) h = inr (by-openness c command past h m.0.0)
at-book s past stamp c (Spoil command diff loss shut) (task, m) h = inr (by-openness c command past h m.0.0)
at-book s past stamp c (Note slot lost) m h = absurd (false≢true h)
at-book s past stamp c (Swap slot call) m h = absurd (false≢true h)
at-book s past stamp c (Refuse call piece why) m h = absurd (false≢true h)
at-book s past stamp c _ m h = absurd m

at-lock : (s : Setting) (past : List Entry) (stamp lock c : ℕ) (event : Event) → MayAt s past stamp lock event → carries (OfCommand c) event ≡ true →
    ((lock ≡ 0) × (opens_command c event ≡ true)) ⊎ (some_at 0 (opens_command c) past ≡ true)
at-lock s past stamp zero c event m h = elim (at-book s past stamp c event m h) [ inl opening ↦ inl (refl, opening) | inr older ↦ inr older ]
at-lock s past stamp (suc i) c event m h = inr (at-target s past stamp i c event m.1 h)

-- so of a command that wasn't opened there is no entry
pub none-carries : (s : Setting) (c : ℕ) (past : List Entry) → Grows s past → some_at 0 (opens_command c) past ≡ false → mine (OfCommand c) past ≡ []
none-carries s c [] g new = refl
none-carries s c (e ∷ past) g new =
    by (carries (OfCommand c) e.event) (at-lock s past e.stamp e.lock c e.event g.0.1.1)
    (none-carries s c past g.1 (some_at-older 0 (opens_command c) e past new))
  where
    never : ((e.lock ≡ 0) × (opens_command c e.event ≡ true)) ⊎ (some_at 0 (opens_command c) past ≡ true) → ⊥
    never (inl here) = both_ways (some_at 0 (opens_command c) (e ∷ past)) new (some_at-newest 0 (opens_command c) e past here.0 here.1)
    never (inr older) = both_ways (some_at 0 (opens_command c) past) (some_at-older 0 (opens_command c) e past new) older

    by : (b : Bool) → (b ≡ true → ((e.lock ≡ 0) × (opens_command c e.event ≡ true)) ⊎ (some_at 0 (opens_command c) past ≡ true)) →
        mine (OfCommand c) past ≡ [] → cond b (e ∷ mine (OfCommand c) past) (mine (OfCommand c) past) ≡ []
    by true opened older = absurd (never (opened refl))
    by false opened older = older

-- ---- a command that was just opened

one-head : (a b : Entry) (x y : List Entry) → a ∷ x ≡ b ∷ y → a ≡ b
one-head a b x y h = cc

-- the entry that the book has made is the opening
opening-is : (book after : Ledger) (ask : Ask) (at : At) (command : ℕ) (task : Task) (seen : ℕ) (entry : Entry) →
    HasOpened book ask seen after at command task → after.past ≡ entry ∷ book.past → entry ≡ book_entry at.stamp (Open command task)
opening-is book after ask at command task seen entry x grown =
    one-head entry (book_entry (next_name book seen).stamp (Open command task)) book.past book.past (sym grown ∙ ap (λ (l : Ledger). l.past) x.made)
    ∙ ap (λ (a : At). book_entry a.stamp (Open command task)) (sym x.name)

-- with it the command has this entry alone
only-opening : (s : Setting) (c : ℕ) (task : Task) (stamp : ℕ) (journal : List Entry) → Grows s journal → some_at 0 (opens_command c) journal ≡ false →
    mine (OfCommand c) (book_entry stamp (Open c task) ∷ journal) ≡ book_entry stamp (Open c task) ∷ []
only-opening s c task stamp journal g new =
    cond-true (c == c) (book_entry stamp (Open c task) ∷ mine (OfCommand c) journal) (mine (OfCommand c) journal) (eq-eqb c c refl)
    ∙ ap (λ (l : List Entry). book_entry stamp (Open c task) ∷ l) (none-carries s c journal g new)

pub plans-begin : PlansBegin
plans-begin b book after ask at command task seen journal set g of_array stands x planned fits entry grown = (
  refl,
  (
    refl,
    (
      refl,
      record {
        geometry = refl;
        mode = refl;
        fits = fits;
        sound = subst (λ (s : Setting). IsTask s task) of_array x.asked;
        in_book = ap (λ (a : At). a.lock) x.name;
        own =
            ap (λ (e : Entry). mine (OfCommand command) (e ∷ journal)) (opening-is book after ask at command task seen entry x grown)
            ∙ only-opening b.array command task at.stamp journal g
            (some_at-lane 0 (opens_command command) journal ∙ ap (some_at 0 (opens_command command)) stands ∙ x.is_new);
        made = tt;
      },
    ),
  ),
)
