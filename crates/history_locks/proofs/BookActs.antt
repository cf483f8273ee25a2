-- An act of a bus in its book.
use Rattle.std.specs.Prelude.{◌≡◌, ◌⊎◌, ◌<◌, ◌≤◌, ◌+◌, ℕ, max, Bool, true, List, [], ◌∷◌, length, map, reverse}
use Rattle.std.proofs.Common.{refl, ap, sym, subst, ◌∙◌, arith, inl, inr}
use Rattle.std.proofs.lemmas.List.{reverse-append, reverse-reverse}
use Rattle.array_journal.specs.declared.entry.Entry.{Entry}
use Rattle.array_journal.specs.declared.setting.Setting.{Setting}
use Rattle.array_journal.specs.Laws.{lane}
use Rattle.array_journal.specs.May.{May}
use Rattle.array_journal.specs.Run.{Grows, IsSetting}
use Rattle.array_book.specs.Ledgers.{Ledger, book_entry, newest_stamp}
use Rattle.xor_target.specs.Logs.{last_stamp}
use Rattle.unit_plans.specs.declared.acts.BookAct.{BookAct}
use Rattle.unit_plans.specs.declared.acts.BookAct.TheVariants.{Begin, Close, Spoil, Note, Swap}
use Rattle.unit_plans.specs.declared.acts.BookActed.{BookActed}
use Rattle.unit_plans.specs.ActLaws.{BookGrowsBy}
use Rattle.unit_plans.specs.Buses.{BusSetting, EachBeginsWith, merged}
use Rattle.unit_plans.specs.Conditions.{CanBook}
use Rattle.unit_plans.specs.Effects.{HasBooked, IsDoneInBook}
use Rattle.history_locks.specs.PlainActs.{IsReadyIn, ActsInBook}
use Rattle.history_locks.specs.PlainBuses.{PlainState, ArePlaced, IsPassOf, entries_of, lists_of, setting_of}
use Rattle.history_locks.proofs.Coming.{Comes, Still, More, made_by, comes-lists, comes-begins, comes-grown, has-come, comes-run, of-made}
use Rattle.history_locks.proofs.Growing.{merged-last, newest-below, next-above, newest-stays, newest-next}
use Rattle.unit_plans.proofs.BookFollows.{book-follows}
use Rattle.history_locks.proofs.Made.{MakesIn, None_in, One_in, book-makes}

-- what the book asks of an act is so where the act may be asked
pub ready-in : (book : Ledger) (act : BookAct) (journal made : List Entry) → CanBook book.setting journal made act → IsReadyIn book act
ready-in book (Begin ask) journal made can = can
ready-in book (Close command end) journal made can = tt
ready-in book (Spoil command diff loss shut) journal made can = tt
ready-in book (Note slot gone life) journal made can = tt
ready-in book (Swap slot call) journal made can = tt

-- the book and a target tell the newest stamp alike
same-newest : (past : List Entry) → newest_stamp past ≡ last_stamp past
same-newest [] = refl
same-newest (e ∷ past) = refl

-- at lock 0 the journal has the book's entries
pub book-lane : (never_fails : Bool) (bus : PlainState) (seen : ℕ) → IsPassOf never_fails bus seen → lane 0 (merged (lists_of bus)) ≡ bus.book.past
book-lane never_fails bus seen pass = pass.lists.lanes 0 ∙ reverse-reverse bus.book.past

module _ (never_fails : Bool) (bus : PlainState) (seen : ℕ) (act : BookAct) (pass : IsPassOf never_fails bus seen)
    (can : CanBook bus.book.setting (merged (lists_of bus)) (merged (lists_of bus)) act) (answer : BookActed) (newest : ℕ) (after : PlainState)
    (acts : ActsInBook bus seen act answer newest after) where
  abbrev journal : List Entry
  journal = merged (lists_of bus)

  abbrev later : PlainState
  later = record bus { book = acts.now }

  below : newest_stamp bus.book.past ≤ seen
  below = let least = newest-below seen (lists_of bus) 0 bus.book.past pass.lists.kept refl in omega (arith, least, same-newest bus.book.past)

  abbrev others : List (List Entry)
  others = map entries_of bus.targets

  comes : MakesIn bus.book seen acts.now → Comes seen 0 (lists_of bus) bus.book.past newest (lists_of later) acts.now.past
  comes (None_in same) =
      Still
      (ap (λ (es : List Entry). reverse es ∷ others) same)
      (acts.newest_is ∙ ap (λ (es : List Entry). max seen (newest_stamp es)) same ∙ newest-stays seen (newest_stamp bus.book.past) below)
      same
  comes (One_in event more quiet) =
      let e : Entry = book_entry (max (newest_stamp bus.book.past) seen + 1) event in
      let next : e.stamp ≡ seen + 1 = next-above (newest_stamp bus.book.past) seen below in
      More e
      (ap (λ (es : List Entry). reverse es ∷ others) more ∙ ap (λ (es : List Entry). es ∷ others) (reverse-append (e ∷ []) bus.book.past))
      (acts.newest_is ∙ newest-next seen (newest_stamp acts.now.past) (ap newest_stamp more ∙ next))
      more next refl quiet

  does : HasBooked bus.book act (last_stamp journal) answer acts.now
  does = subst (λ n. HasBooked bus.book act n answer acts.now) (sym (merged-last seen (lists_of bus) pass.lists)) acts.does

  came : Comes seen 0 (lists_of bus) bus.book.past newest (lists_of later) acts.now.past
  came = comes (book-makes bus.book act seen answer acts.now acts.does)

  inside : 0 < length (lists_of bus)
  inside = omega arith

  -- the same maxima over another array
  abbrev with_array : Setting → BusSetting
  with_array s = record { array = s; max_write = bus.page.max_write; max_regenerate = bus.page.max_regenerate; max_rebuild = bus.page.max_rebuild }

  pub book-pass : IsPassOf never_fails after newest
  book-pass = subst (λ (b : PlainState). IsPassOf never_fails b newest) (sym acts.others) (record {
    reliable = pass.reliable;
    array = subst IsSetting (sym acts.same_setting) pass.array;
    in_order = acts.in_order;
    many = pass.many ∙ ap (λ (s : Setting). s.geometry.targets) (sym acts.same_setting);
    placed = subst (λ (s : Setting). ArePlaced (with_array s) bus.targets) (sym acts.same_setting) pass.placed;
    lists = comes-lists seen 0 (lists_of bus) inside pass.lists came;
  })

  pub book-begins : EachBeginsWith (lists_of after) (lists_of bus)
  book-begins = subst (λ (b : PlainState). EachBeginsWith (lists_of b) (lists_of bus)) (sym acts.others)
      (comes-begins seen 0 (lists_of bus) inside pass.lists came)

  pub book-run : Grows bus.book.setting (merged (lists_of bus)) → Grows bus.book.setting (merged (lists_of after))
  book-run run = subst (λ (b : PlainState). Grows bus.book.setting (merged (lists_of b))) (sym acts.others)
      (comes-run seen 0 (lists_of bus) inside pass.lists bus.book.setting came
      (of-made (May bus.book.setting journal) bus.book.past acts.now.past
      (told (book-follows (setting_of bus) bus.book acts.now act answer journal journal pass.array run refl pass.in_order
      (book-lane never_fails bus seen pass) can does))) run)
    where
      told : (acts.now.past ≡ bus.book.past) ⊎ BookGrowsBy bus.book.setting journal bus.book acts.now →
          (acts.now.past ≡ bus.book.past) ⊎ ((f : Entry) × ((acts.now.past ≡ f ∷ bus.book.past) × May bus.book.setting journal f))
      told (inl same) = inl same
      told (inr grows) = inr (grows.entry, (grows.grown, grows.may))

  pub book-done : IsDoneInBook true (setting_of bus) act answer (merged (lists_of bus)) (merged (lists_of bus)) (merged (lists_of after))
      (merged (lists_of after))
  book-done = subst (λ (b : PlainState). IsDoneInBook true (setting_of bus) act answer journal journal (merged (lists_of b)) (merged (lists_of b)))
      (sym acts.others) (record {
        over = journal;
        entries = made_by came;
        book = bus.book;
        after = acts.now;
        of_array = refl;
        stands = book-lane never_fails bus seen pass;
        does = does;
        grown = comes-grown seen 0 (lists_of bus) inside pass.lists came;
        come = has-come seen 0 (lists_of bus) inside pass.lists (Grows bus.book.setting) came;
      })
