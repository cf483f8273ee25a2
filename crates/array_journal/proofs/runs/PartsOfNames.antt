-- That names stand is two things: what they say, and that their stamps are smaller.
use Rattle.std.specs.Prelude.{◌≡◌, ℕ, Bool, true, List, [], ◌∷◌}
use Rattle.std.proofs.Common.{refl}
use Rattle.array_journal.specs.declared.at.At.{At}
use Rattle.array_journal.specs.declared.entry.Entry.{Entry}
use Rattle.array_journal.specs.declared.event.Event.{Event}
use Rattle.array_journal.specs.declared.event.Event.TheVariants.{Gone}
use Rattle.array_journal.specs.declared.setting.Setting.{Setting}
use Rattle.array_journal.specs.declared.task.Task.{Task}
use Rattle.array_journal.specs.Lives.{is_loss}
use Rattle.array_journal.specs.May.{NamesAt, NamesActs, EachOwn, is_loss_in}
use Rattle.array_journal.specs.Parts.{NamedAt, EachNamed, NamedActs, AllEarlier}

-- lists of names
pub named_at : (past : List Entry) (stamp : ℕ) (targets : List ℕ) (test : Event → Bool) (names : List At) → NamesAt past stamp targets test names →
    NamedAt past targets test names × AllEarlier stamp names
named_at past stamp [] test [] m = (tt, tt)
named_at past stamp [] test (name ∷ names) m = absurd m
named_at past stamp (i ∷ targets) test [] m = absurd m
named_at past stamp (i ∷ targets) test (name ∷ names) m =
    let rest = named_at past stamp targets test names m.1 in (((m.0.0, m.0.1.0), rest.0), (m.0.1.1, rest.1))

pub names_at : (past : List Entry) (stamp : ℕ) (targets : List ℕ) (test : Event → Bool) (names : List At) → NamedAt past targets test names →
    AllEarlier stamp names → NamesAt past stamp targets test names
names_at past stamp [] test [] m later = tt
names_at past stamp [] test (name ∷ names) m later = absurd m
names_at past stamp (i ∷ targets) test [] m later = absurd m
names_at past stamp (i ∷ targets) test (name ∷ names) m later =
    ((m.0.0, (m.0.1, later.0)), names_at past stamp targets test names m.1 later.1)

pub each_named : (s : Setting) (past : List Entry) (stamp c : ℕ) (task : Task) (names : List At) → EachOwn s past stamp c task names →
    EachNamed s past c task names × AllEarlier stamp names
each_named s past stamp c task [] m = (tt, tt)
each_named s past stamp c task (name ∷ names) m =
    let rest = each_named s past stamp c task names m.1 in ((m.0.0, rest.0), (m.0.1, rest.1))

each_own : (s : Setting) (past : List Entry) (stamp c : ℕ) (task : Task) (names : List At) → EachNamed s past c task names →
    AllEarlier stamp names → EachOwn s past stamp c task names
each_own s past stamp c task [] m later = tt
each_own s past stamp c task (name ∷ names) m later = ((m.0, later.0), each_own s past stamp c task names m.1 later.1)

pub named_acts : {s : Setting} {past : List Entry} {stamp c : ℕ} {task : Task} {names : List At} → NamesActs s past stamp c task names →
    NamedActs s past c task names
named_acts {s} {past} {stamp} {c} {task} {names} m = record {
  in_order = m.in_order;
  only = (each_named s past stamp c task names m.only).0;
  fetches = m.fetches;
  puts = m.puts;
  diffs = m.diffs;
  takes = m.takes;
  holds = m.holds;
}

pub names_acts : {s : Setting} {past : List Entry} {c : ℕ} {task : Task} {names : List At} (stamp : ℕ) → NamedActs s past c task names →
    AllEarlier stamp names → NamesActs s past stamp c task names
names_acts {s} {past} {c} {task} {names} stamp m later = record {
  in_order = m.in_order;
  only = each_own s past stamp c task names m.only later;
  fetches = m.fetches;
  puts = m.puts;
  diffs = m.diffs;
  takes = m.takes;
  holds = m.holds;
}

pub loss_of_life : (life : ℕ) (e : Event) → is_loss_in life e ≡ true → is_loss e ≡ true
loss_of_life life (Gone its call commands) h = refl
loss_of_life life _ h = h
