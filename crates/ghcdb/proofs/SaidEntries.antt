-- A line can say what a change enters into the journal.
use Rattle.ghcdb.proofs.CitedWords.{◌≡◌, ◌≤◌, ℕ, List, length, inl, inr, sym, subst, arith, Option, Some, Program, World}
use Rattle.std.specs.FinMap as finite
use Rattle.std.proofs.lemmas.Option.{slice_get_within}
use Rattle.ghc_term.specs.declared.var_name.VarName.{VarName}
use Rattle.ghc_term.specs.declared.goal_name.GoalName.{GoalName}
use Rattle.ghc_term.specs.InputTerm.{IsInputTerm}
use Rattle.ghc_term.specs.Tree.{Tree}
use Rattle.ghc_term.specs.Goal.{Goal, call, unify, assign, stream}
use Rattle.ghc_term.specs.Store.{value_at}
use Rattle.ghc_fire.specs.declared.act.Act.{Act}
use Rattle.ghc_fire.specs.declared.act.Act.TheVariants.{ByClause as by_clause, Given as given, Asked as asked}
use Rattle.ghc_fire.specs.Effect.{Effect, HasEffect}
use Rattle.ghc_records.specs.ChronicleLaws.{CanBeAsked, CanBeSaid}
use Rattle.ghc_records.specs.EntryText.{IsNamed}
use Rattle.ghc_records.specs.Journal.{took, step_of}
use Rattle.ghc_records.specs.Record.{State, Record, Fires}
use Rattle.ghc_depend.proofs.Results.{firing}
use Rattle.ghc_core.specs.declared.changes.Change.{Change}
use Rattle.ghc_core.specs.declared.changes.Change.TheVariants.{Comes as comes, Goes as goes, Reorders as reorders}
use Rattle.ghc_core.specs.declared.changes.Coming.{Coming}
use Rattle.ghc_core.specs.declared.changes.Going.{Going}
use Rattle.ghc_core.specs.Change.{CanChange}
use Rattle.ghc_core.specs.Reached.{Reaches}
use Rattle.ghc_core.proofs.Resuming.{entered_by}
use Rattle.ghcdb.proofs.GoalNumbers.{IsSmall}
use Rattle.ghcdb.proofs.StepNumbers.{all_of, kept_named, next_named, order_named, shelf_named}

-- what the step gives is an input term, where it gives one; and a line can ask for what it asks for
pub record CanBeGiven (r : Record) : Type 0 where
  pub input : (u : Tree) → r.act ≡ given u → IsInputTerm u
  pub asks : (gs : List Goal) → r.act ≡ asked gs → CanBeAsked r.number gs

-- .. where the change is a new step
abbrev pub ChangeCanBeGiven : Change → Type 0
ChangeCanBeGiven (comes Coming.Next r) = CanBeGiven r
ChangeCanBeGiven (comes Coming.Shelved r) = Unit {0}
ChangeCanBeGiven (goes how gone) = Unit {0}
ChangeCanBeGiven (reorders a) = Unit {0}

module _ (P : Program) where
  -- an ask has no effect on a goal
  never_asked : (b : Goal) (gs : List Goal) (n : ℕ) (S : VarName → Option Tree) (e : Effect) → ¬ HasEffect P b (asked gs) n S e
  never_asked (call f ts) gs n S e h = h
  never_asked (unify l r) gs n S e h = h
  never_asked (assign t x) gs n S e h = h
  never_asked (stream k s) gs n S e h = h

  -- a clause by which a goal is reduced is one of the program
  clause_within : (b : Goal) (k n : ℕ) (S : VarName → Option Tree) (e : Effect) → HasEffect P b (by_clause k) n S e → (1 ≤ k) × (k ≤ length P)
  clause_within (call f ts) k n S e h =
      let i = h.2.0 in
      let same = h.2.1 in
      let within = slice_get_within P i h.0 h.2.2 in
      (omega (arith, same), omega (arith, same, within))
  clause_within (unify l r) k n S e h = absurd h
  clause_within (assign t x) k n S e h = absurd h
  clause_within (stream j s) k n S e h = absurd h

  module _ (few : length P ≤ 10000) (s : State) (small : (g : GoalName) (b : Goal) → finite.get s.goals g ≡ Some b → IsSmall g) where
    -- a step that is possible in the state
    step_said : (r : Record) → Fires P s r → IsNamed r.number → CanBeGiven r → CanBeSaid (took (step_of r))
    step_said r fires number gives = elim (firing P s r fires) [
      | inl t ↦
          let effect : (a : Act) → r.act ≡ a → HasEffect P t.goal a r.number (value_at s.store) r.effect = λ a e. subst (λ c. HasEffect P t.goal c r.number (value_at s.store) r.effect) e t.effect in
          let within = λ (k : ℕ) (e : r.act ≡ by_clause k). clause_within t.goal k r.number (value_at s.store) r.effect (effect (by_clause k) e) in
          inl (record {
            number = number;
            goal = (t.name, t.named);
            unasked = λ gs e. never_asked t.goal gs r.number (value_at s.store) r.effect (effect (asked gs) e);
            clause = λ k e. (within k e).0;
            range = record {
              goal = λ g e. (let same : t.name ≡ g = cc in subst IsSmall same (small t.name t.goal t.there));
              clause = λ k e. (let w = within k e in omega (arith, w.1, few));
              input = gives.input;
            };
          })
      | inr a ↦ inr (record { number = number; none = a.none; goals = a.goals; asks = a.act; can = gives.asks a.goals a.act })
    ]

module _ (w : World) (at : Reaches w) (few : length w.opening.program ≤ 10000) (small : (g : GoalName) (b : Goal) → finite.get w.state.goals g ≡ Some b → IsSmall g) where
  pub entry_said : (change : Change) → CanChange w change → ChangeCanBeGiven change → CanBeSaid (entered_by change)
  entry_said (comes Coming.Next r) can gives = step_said w.opening.program few w.state small r can.1 (subst IsNamed (sym can.0) (next_named w at can.2.0)) gives
  entry_said (comes Coming.Shelved r) can gives = shelf_named w at r.number r can.0
  entry_said (goes Going.Alone gone) can gives = kept_named w at gone.first can.0
  entry_said (goes Going.Together gone) can gives = kept_named w at gone.first can.0
  entry_said (reorders a) can gives = all_of IsNamed a.order (order_named w at a.order can.0)
