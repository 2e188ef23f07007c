-- A chronicle that a text tells is one that a text can tell.
use Rattle.ghc_records.proofs.Words.{ℕ, ◌+◌, List, length, inl, inr, Goal, In, Tree, IsInputTerm, at_of_in, Names, IsCalled, IsReadTerm, IsNamedIn, IsReadAs, IsWritableGoal, kept_limit, Entry, took, SaysStep, TellsSection, Chronicle, AreBelow, AreInTurn, entry_limit, spy_limit, SaysEntry, GoTogether, SaysPredicate, TellsChronicle, behind_lines, entries_line, lines_to_spies, opening_line, spies_line, CanBeSaid, CanBeTold}
use Rattle.ghc_records.proofs.ToldAsks.{can_be_asked}
use Rattle.ghc_records.proofs.ToldHistories.{said_of_goal}

-- a line of the section says each item
item_said : {A : Type 0} (Says : List ℕ → A → Type 0) (Fit : List A → Type 0) (count_line : ℕ → List ℕ) (limit : ℕ) (pieces : List (List ℕ)) (items : List A) → TellsSection Says Fit count_line limit pieces items
    → (a : A) → In a items → (line : List ℕ) × Says line a
item_said Says Fit count_line limit pieces items told a i = let k = at_of_in items a i in let t = told.told.each k.0 a k.1 in (t.0, t.2)

module _ (only : (text : List ℕ) (u : Tree) → IsReadTerm text u → IsInputTerm u)
    (writable : (names : Names) (text : List ℕ) (gs : List Goal) → IsReadAs (IsCalled names) text gs → (g : Goal) → In g gs → IsWritableGoal (IsNamedIn names) g) where
  entry_can : (line : List ℕ) (e : Entry) → SaysEntry line e → CanBeSaid e
  entry_can line (took s) (inl h) = inl (said_of_goal only line s h)
  entry_can line (took s) (inr h) = inr (record { number = h.number; none = h.of_none; goals = h.goals; asks = h.asks; can = can_be_asked writable h.body h.goals h.says s.number h.new })
  entry_can line e h = h.1

  pub can_be_told : (text : List ℕ) (c : Chronicle) → TellsChronicle text c → CanBeTold c
  can_be_told text c told =
      let entries_told = told.spies.entries in
      let opening_told = entries_told.opening in
      record {
        few_steps = opening_told.steps.few;
        steps = λ s i. let (line, says) = item_said SaysStep (AreBelow c.opening.next) (opening_line c.opening.next) kept_limit (behind_lines 1 text) c.opening.steps opening_told.steps s i in said_of_goal only line s says;
        below = opening_told.steps.told.fit;
        first = opening_told.next;
        few_entries = entries_told.entries.few;
        entries = λ e i. let (line, says) = item_said SaysEntry (AreInTurn c.opening.next) entries_line entry_limit (behind_lines (length c.opening.steps + 2) text) c.entries entries_told.entries e i in entry_can line e says;
        in_turn = entries_told.entries.told.fit;
        few_spies = told.spies.spies.few;
        spies = λ p i. let (line, says) = item_said SaysPredicate GoTogether spies_line spy_limit (behind_lines (lines_to_spies c.opening c.entries) text) c.spies told.spies.spies p i in (says.1, says.2);
        next = told.next;
      }
