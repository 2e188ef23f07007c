-- What became of a goal that a kept step made: it is there as it was made, or a kept step took it.
use Rattle.ghc_trace.proofs.Words.{◌≡◌, ℕ, ◌+◌, ◌<◌, ◌++◌, List, length, refl, sym, ap, ◌∙◌, inl, inr, arith, Bor, Option, Some, None, get_or, subst, GoalName, Goal, Tree, call, In, World, Program, Query, State, Record, Replays}
use Rattle.std.proofs.lemmas.Option.{slice_get-get_or}
use Rattle.std.specs.Prelude.{IfSome, codes, slice_get}
use Rattle.std.specs.FinMap as finite
use Rattle.ghc_fire.specs.Goals.{goal_cmp}
use Rattle.ghc_records.proofs.States.{made_at}
use Rattle.ghc_depend.proofs.Finding.{find_consumed, made_own, not_both, own}
use Rattle.ghc_depend.proofs.Placing.{results_of}
use Rattle.ghc_depend.proofs.Results.{untaken}
use Rattle.ghc_records.specs.StepText.{goal_name_text}
use Rattle.ghc_depend.specs.Deletion.{IsConsumedIn}
use Rattle.ghc_trace.specs.PartLines.{IsShown, TellsMade, gave, stands}
use Rattle.ghc_trace.specs.inner.PartsCode.{fate_word}

-- what a look-up of an index finds
pub found_at : (makes listed : List Goal) (i : ℕ) (o : Option (Bor Goal)) (r : Bor Goal) → listed ≡ makes → i < length makes → o ≡ Some r → IfSome o (λ x. x.now ≡ get_or listed i x.now) → slice_get makes i ≡ Some r.now
found_at makes listed i o r is low e h =
    let same : r.now ≡ get_or makes i r.now = subst (λ l. r.now ≡ get_or l i r.now) is (subst (λ (p : Option (Bor Goal)). IfSome p (λ x. x.now ≡ get_or listed i x.now)) e h) in
    slice_get-get_or makes i r.now low ∙ ap Some (sym same)

-- the name of the goal at an index of those that the step made
abbrev pub name_at : Record → ℕ → GoalName
name_at r i = record { step = r.number; place = i + 1 }

module _ (P : Program) (query : Query) (kept : List Record) (t : State) (replay : Replays P query kept t) (r : Record) (there : In r kept) (i : ℕ) (b : Goal) (low : i < length r.effect.makes)
    (at : slice_get r.effect.makes i ≡ Some b) where
  own_at : own r (name_at r i) ≡ Some b
  own_at =
      let m = made_own r (name_at r i) (refl, omega arith, omega (arith, low)) in
      elim (made_at r.number 1 r.effect.makes finite.empty (name_at r i) m.0 m.1) [
        | inl p ↦ let place = p.3 in let index : p.0 ≡ i = omega (arith, place) in m.1 ∙ sym p.1 ∙ ap (slice_get r.effect.makes) index ∙ at
        | inr n ↦ absurd (not_both n (finite.get-empty goal_cmp (name_at r i)))
      ]

  -- where a goal of its name is there, it is this one
  pub stands_as_made : (c : Goal) → finite.get t.goals (name_at r i) ≡ Some c → finite.get t.goals (name_at r i) ≡ Some b
  stands_as_made c e = let results = results_of P query kept t replay in results.made r (name_at r i) b there own_at (untaken query kept t results (name_at r i) c e)

  -- and where none is, a kept step took it
  pub was_taken : finite.get t.goals (name_at r i) ≡ None → IsConsumedIn kept (name_at r i)
  was_taken none =
      elim (find_consumed kept (name_at r i)) [
        | inl c ↦ (c.0, c.1, c.2)
        | inr never ↦ absurd (not_both ((results_of P query kept t replay).made r (name_at r i) b there own_at never) none)
      ]

-- what is told of a call that a kept step made
module _ (w : World) (replay : Replays w.opening.program w.opening.query w.kept w.state) (r : Record) (there : In r w.kept) (i : ℕ) (low : i < length r.effect.makes) (f : List ℕ) (ts : List Tree)
    (at : slice_get r.effect.makes i ≡ Some (call f ts)) (text : List ℕ) (shown : IsShown w.state.store (call f ts) text) where
  abbrev line_by : Option Goal → List ℕ
  line_by o = goal_name_text (name_at r i) ++ (fate_word o ++ (text ++ codes "\n"))

  told_by : (o : Option Goal) → finite.get w.state.goals (name_at r i) ≡ o → TellsMade w (name_at r i) (call f ts) (line_by o)
  told_by (Some c) e = stands (stands_as_made w.opening.program w.opening.query w.kept w.state replay r there i (call f ts) low at c e) shown
  told_by None e = gave (was_taken w.opening.program w.opening.query w.kept w.state replay r there i (call f ts) low at e) shown

  pub made_told : TellsMade w (name_at r i) (call f ts) (line_by (finite.get w.state.goals (name_at r i)))
  made_told = told_by (finite.get w.state.goals (name_at r i)) refl
