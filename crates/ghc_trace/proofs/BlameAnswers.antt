-- Whether answers are about calls of a slice, and what is told by them.
use Rattle.ghc_trace.proofs.Words.{◌≡◌, ℕ, List, sym, ap, ◌∙◌, inl, inr, Some, Option, GoalName, In, in_at, Record, State, Decided, some_decided, Bool, get_or}
use Rattle.ghc_depend.proofs.Finding.{goal_or_not}
use Rattle.ghc_term.proofs.ListsLemmas.{at_of_in}
use Rattle.ghc_trace.specs.declared.blame_lines.Told.{Told}
use Rattle.ghc_trace.specs.declared.judgements.Answer.{Answer}
use Rattle.ghc_trace.specs.declared.slice_calls.Call.{Call}
use Rattle.ghc_trace.specs.BlameLines.{HasTooLongTold, gave_is_too_long, given_is_too_long}
use Rattle.std.specs.Prelude.{IfNone, IfSome}
use Rattle.std.proofs.lemmas.Option.{get_or_from_slice_get}
use Rattle.ghc_trace.specs.declared.next_question.Next.{Next}
use Rattle.ghc_trace.specs.Blaming.{IsAsked, IsCallOf, IsInQuestion, IsTop}
use Rattle.ghc_trace.specs.inner.BlameCode.{AreInQuestion, IsNameOfTop, StandsAtPlace}
use Rattle.ghc_trace.specs.inner.BlameLinesCode.{HasTooLongCall, IsAbout}

module _ (d : Told) (rs : List Record) (t : State) (about : IsAbout d rs t) where
  -- of each goal it is known whether it is a call
  call_known : (g : GoalName) → Decided (IsCallOf rs t d.target g)
  call_known g = elim (some_decided d.calls.now.list.items (λ c. c.name ≡ g) (λ c _. goal_or_not c.name g)) [
    | inl p ↦ let at = at_of_in d.calls.now.list.items p.0 p.1 in inl ((about.calls.all g).1 (at.0, p.0, at.1, p.2))
    | inr none ↦ inr (λ k. let p = (about.calls.all g).0 k in none (p.1, in_at d.calls.now.list.items p.0 p.1 p.2, p.3))
  ]

  -- where not all answers are about calls, one is not
  pub one_beside : (answers : List Answer) → ¬ ((a : Answer) → In a answers → IsCallOf rs t d.target a.goal) → (a : Answer) × In a answers × (¬ IsCallOf rs t d.target a.goal)
  one_beside answers not = elim (some_decided answers (λ a. ¬ IsCallOf rs t d.target a.goal) (λ a _. elim (call_known a.goal) [ inl k ↦ inr (λ n. n k) | inr n ↦ inl n ])) [
    | inl p ↦ p
    | inr none ↦ absurd (not (λ a i. elim (call_known a.goal) [ inl k ↦ k | inr n ↦ absurd (none (a, i, n)) ]))
  ]

  -- what is too long of the call asked about
  pub too_long_asked : (answers : List Answer) (top : Option GoalName) (count : ℕ) (g : GoalName) → IsTop rs t d.target answers top → IsAsked rs t d.target answers top count g → HasTooLongCall rs t g
      → HasTooLongTold d.core.now.world rs t d.target answers
  too_long_asked answers top count g is asked long = elim long.2 [
    | inl given ↦ given_is_too_long g long.0 given.0 (inl (top, count, is, asked)) long.1 given.1 given.2
    | inr text ↦ gave_is_too_long g long.0 (inl (top, count, is, asked)) long.1 text
  ]

  -- what is known of the questions, and of the next one
  abbrev pub AreAsked : List Answer → Option ℕ → List Bool → Type 0
  AreAsked answers place doubts = (top : Option GoalName) × IsNameOfTop d.calls.now.list.items place top × IsTop rs t d.target answers top × AreInQuestion rs t d.target answers top d.calls.now.list.items doubts

  abbrev pub IsNext : List Answer → Option GoalName → Option Next → Type 0
  IsNext answers top next =
      IfSome next (λ one. (c : Call) × StandsAtPlace d.calls.now.list.items one.place c × IsAsked rs t d.target answers top one.count c.name)
      × IfNone next ((g : GoalName) → ¬ IsInQuestion rs t d.target answers top g)
