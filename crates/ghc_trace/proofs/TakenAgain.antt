-- After a rollback of a step, which clauses its goal can be stepped by.
use Rattle.ghc_trace.proofs.Words.{◌≡◌, ◌⊎◌, ℕ, List, refl, sym, ap, subst, inl, inr, Option, Some, VarName, GoalName, Tree, In, Goal, call, unify, assign, stream, Program, State, Record, value_at, Answer, Attempts, proposes, no_step, IsWithoutSteps, World, IsStanding, all_gone, going_leaves, opening_stays, reached_good, record_once, taken, Runs, query_state, Opening, StoreValue, IsAcyclic}
use Rattle.std.specs.FinMap as finite
use Rattle.ghc_term.proofs.Decided.{nat_decided}
use Rattle.ghc_flat.specs.Clause.{Clause, IsClause, IsFor}
use Rattle.ghc_flat.specs.Flat.{IsProgram}
use Rattle.ghc_match.specs.Match.{Accepts}
use Rattle.ghc_match.proofs.Outcomes.{accepts_refuses, accepts_waits}
use Rattle.ghc_fire.specs.declared.act.Act.{Act}
use Rattle.ghc_fire.specs.declared.act.Act.TheVariants.{ByClause as by_clause, Unified as unified, Assigned as assigned, Given as given, Closed as closed, Asked as asked}
use Rattle.ghc_fire.specs.Attempt.{ChoiceAnswers}
use Rattle.ghc_fire.specs.Effect.{Effect, HasEffect}
use Rattle.ghc_fire.specs.Proposal.{Proposal, under}
use Rattle.ghc_fire.proofs.EachAnswer.{each_answer}
use Rattle.ghc_fire.proofs.Steps.{clause_once}
use Rattle.ghc_records.proofs.OrderLemmas.{picks_once}
use Rattle.ghc_records.proofs.Replaying.{run_once}
use Rattle.ghc_records.specs.Record.{Fires}
use Rattle.ghc_depend.proofs.ComingBack.{come_back}
use Rattle.ghc_depend.proofs.Comparing.{without_once}
use Rattle.ghc_depend.proofs.Following.{split_closed}
use Rattle.ghc_depend.proofs.KeptOnce.{runs_split}
use Rattle.ghc_depend.proofs.Results.{taken_at}
use Rattle.ghc_depend.specs.Depend.{GoesWith}
use Rattle.ghc_depend.specs.Kept.{IsSplitAt}
use Rattle.ghc_core.proofs.Committing.{answered_holds, next_step}
use Rattle.ghc_core.proofs.Moving.{reachable_reached}
use Rattle.ghc_core.proofs.Replayed.{replayed}
use Rattle.ghc_core.specs.Answers.{does, to_roll}
use Rattle.ghc_core.specs.Change.{Changes}
use Rattle.ghc_core.specs.declared.changes.Change.TheVariants.{Goes as goes}
use Rattle.ghc_core.specs.declared.changes.Going.{Going}
use Rattle.ghc_core.specs.Gone.{Gone}
use Rattle.ghc_core.specs.Proposes.{AttemptAnswers, IsStepOf}
use Rattle.ghc_core.specs.Reached.{by_change}
use Rattle.ghc_core.specs.World.{HasRoom}
use Rattle.ghc_trace.specs.OtherClauses.{SaysYesTo, CouldBe, OtherClausesAreTaken}

-- an act is by this clause, or is not
by_or_not : (a : Act) (k : ℕ) → (a ≡ by_clause k) ⊎ (¬ (a ≡ by_clause k))
by_or_not (by_clause j) k = elim (nat_decided j k) [ inl e ↦ inl (ap by_clause e) | inr n ↦ inr (λ e. n (cc)) ]
by_or_not unified k = inr (λ e. cc)
by_or_not assigned k = inr (λ e. cc)
by_or_not (given u) k = inr (λ e. cc)
by_or_not closed k = inr (λ e. cc)
by_or_not (asked gs) k = inr (λ e. cc)

-- a clause that has an effect on a goal says yes to it
effect_says : (P : Program) (S : VarName → Option Tree) (b : Goal) (n k : ℕ) (e : Effect) → HasEffect P b (by_clause k) n S e → SaysYesTo P S (Some b) k
effect_says P S (call f ts) n k e d = (d.0, d.2, d.3, d.4.0)
effect_says P S (unify l r) n k e d = absurd d
effect_says P S (assign t x) n k e d = absurd d
effect_says P S (stream j x) n k e d = absurd d

-- what is proposed with a clause chosen, that clause says yes to
proposed_says : (P : Program) (S : VarName → Option Tree) (b : Goal) (k : ℕ) (a : Act) (e : Effect) → Attempts P S (Some b) (Some k) (proposes a e) → SaysYesTo P S (Some b) k
proposed_says P S (call f ts) k a e (ChoiceAnswers.by_choice d) = (d.0, d.2, d.3, d.4.0)
proposed_says P S (unify l r) k a e p = cc
proposed_says P S (assign t x) k a e p = cc
proposed_says P S (stream n s) k a e p = cc

-- a clause that accepts a call is proposed where it is chosen
chosen : (P : Program) (S : VarName → Option Tree) (f : List ℕ) (ts : List Tree) (k : ℕ) (c : Clause) → IsClause P k c → IsFor f ts c → Accepts c ts S → (a : Answer) → ChoiceAnswers no_step P f ts k S a
    → (e : Effect) × ChoiceAnswers no_step P f ts k S (proposes (by_clause k) e)
chosen P S f ts k c ic is agrees a (ChoiceAnswers.no_clause n) = absurd (n c ic is)
chosen P S f ts k c ic is agrees a (ChoiceAnswers.by_choice {e = e} d) = (e, ChoiceAnswers.by_choice d)
chosen P S f ts k c ic is agrees a (ChoiceAnswers.waits {c = d} {x = x} id for w) = absurd (accepts_waits d ts S (subst (λ z. Accepts z ts S) (clause_once P ic id) agrees) x w)
chosen P S f ts k c ic is agrees a (ChoiceAnswers.no_match {c = d} id for r) = absurd (accepts_refuses d ts S (subst (λ z. Accepts z ts S) (clause_once P ic id) agrees) r)

-- a clause that says yes to a goal is proposed where it is chosen
proposed_by : (P : Program) (s : StoreValue) → IsProgram P → IsAcyclic (value_at s) → (b : Goal) (k : ℕ) → SaysYesTo P (value_at s) (Some b) k → (e : Effect) × Attempts P (value_at s) (Some b) (Some k) (proposes (by_clause k) e)
proposed_by P s accepted acyclic (call f ts) k y =
    let a = each_answer P s (Some (call f ts)) (Some k) accepted acyclic in
    chosen P (value_at s) f ts k y.0 y.1 y.2 y.3 a.0 a.1
proposed_by P s accepted acyclic (unify l r) k y = absurd y
proposed_by P s accepted acyclic (assign t x) k y = absurd y
proposed_by P s accepted acyclic (stream j x) k y = absurd y

-- In a world that stands and has room, a step of a goal by this clause is taken exactly where the clause says yes to it.
module _ (v : World) (stands : IsStanding v) (room : HasRoom v) (g : GoalName) (b : Goal) (there : finite.get v.state.goals g ≡ Some b) (k : ℕ) where
  abbrev P : Program
  P = v.opening.program

  abbrev S : VarName → Option Tree
  S = value_at v.state.store

  step_says : ((s : Record) × IsStepOf v g (Some k) s) → SaysYesTo P S (Some b) k
  step_says (s, (p, named, answers, commit)) =
      proposed_says P S b k p.act p.effect (subst (λ o. Attempts P S o (Some k) (proposes p.act p.effect)) there answers)

  steps_on : (e : Effect) → Attempts P S (Some b) (Some k) (proposes (by_clause k) e) → (s : Record) × IsStepOf v g (Some k) s
  steps_on e t =
      let p : Proposal = record { goal = g; consumed = b; act = by_clause k; effect = e } in
      let answers : AttemptAnswers v g (Some k) (proposes (by_clause k) e) = subst (λ o. Attempts P S o (Some k) (proposes (by_clause k) e)) (sym there) t in
      let holds = answered_holds v p (Some k) b there answers in
      (record { number = v.next; goal = Some g; consumed = Some b; act = by_clause k; effect = under v.next e }, (p, refl, answers, next_step v p b stands holds there room))

  says_steps : SaysYesTo P S (Some b) k → (s : Record) × IsStepOf v g (Some k) s
  says_steps y =
      let good = reached_good stands in
      let e = proposed_by P v.state.store good.accepted good.acyclic b k y in
      steps_on e.0 e.1

-- a kept step is possible once it was rolled back
module _ (w : World) (stands : IsStanding w) (gone : Gone) (left : List Record) (t : State) (i : In gone.first w.kept) (split : IsSplitAt w.kept gone.first (all_gone gone) left)
    (run : Runs w.opening.program (query_state w.opening.query) left t) where
  fires_again : Fires w.opening.program t gone.first
  fires_again =
      let P = w.opening.program in
      let query = w.opening.query in
      let good = reached_good stands in
      let replay = (replayed stands).replay in
      let whole = come_back P query w.kept w.state replay (GoesWith w.kept gone.first) (all_gone gone) left split (split_closed w.kept good.kept_once gone.first i) good.acyclic in
      let s = runs_split P left (all_gone gone) (query_state query) w.state whole.1 in
      subst (λ z. Fires P z gone.first) (run_once P (query_state query) left s.0 t s.1 run) s.2.0

-- In the world v, which is w without r and its consequences, the clauses that say yes to the goal of r are its own and the others.
module _ (w v : World) (r : Record) (g : GoalName) (named : r.goal ≡ Some g) (gone left : List Record) (split : IsSplitAt w.kept r gone left) (without : IsWithoutSteps gone w.state v.state)
    (opened : v.opening ≡ w.opening) (fires : Fires v.opening.program v.state r) (k : ℕ) where
  abbrev Says : Type 0
  Says = SaysYesTo v.opening.program (value_at v.state.store) r.consumed k

  own_says : r.act ≡ by_clause k → Says
  own_says own =
      let P = v.opening.program in
      let S = value_at v.state.store in
      let t = taken P v.state r fires g named in
      subst (λ o. SaysYesTo P S o k) (sym t.consumed) (effect_says P S t.goal r.number k r.effect (subst (λ a. HasEffect P t.goal a r.number S r.effect) own t.effect))

  other_says : CouldBe w r k → Says
  other_says (other, (t, (far, rest, parts, apart), agrees)) =
      let all : far ≡ gone = picks_once w.kept far gone parts.0 split.0 in
      let same : t ≡ v.state = without_once gone w.state t v.state (subst (λ z. IsWithoutSteps z w.state t) all apart) without in
      subst (λ (o : Opening). SaysYesTo o.program (value_at v.state.store) r.consumed k) (sym opened) (subst (λ (z : State). SaysYesTo w.opening.program (value_at z.store) r.consumed k) same agrees)

  says_which : Says → (r.act ≡ by_clause k) ⊎ CouldBe w r k
  says_which agrees = elim (by_or_not r.act k) [
    | inl own ↦ inl own
    | inr other ↦ inr (other, (v.state, (gone, left, split, without), subst (λ (o : Opening). SaysYesTo o.program (value_at v.state.store) r.consumed k) opened agrees))
  ]

pub others_taken : OtherClausesAreTaken
others_taken w v hands r g k ns reach i named (does (to_roll {gone = gone} number) can (left, split, (t, run, e)) told) room =
    let stands = reachable_reached reach in
    let change = goes Going.Together gone in
    let changes : Changes w change v = (left, split, (t, run, e)) in
    let again : IsStanding v = by_change change stands can changes in
    let opened = opening_stays w v change can changes in
    let first : gone.first ≡ r = record_once w.kept gone.first r (reached_good stands).kept_once can.0 i number in
    let state : v.state ≡ t = ap (λ (z : World). z.state) e in
    let possible : Fires w.opening.program t gone.first = fires_again w stands gone left t can.0 split run.1 in
    let fires : Fires v.opening.program v.state r =
    subst (λ (o : Opening). Fires o.program v.state r) (sym opened) (subst (λ z. Fires w.opening.program z r) (sym state) (subst (Fires w.opening.program t) first possible)) in
    let parts : IsSplitAt w.kept r (all_gone gone) left = subst (λ z. IsSplitAt w.kept z (all_gone gone) left) first split in
    let without = going_leaves w v stands Going.Together gone can changes in
    let a = taken_at v.opening.program v.state r fires g named in (
      λ s. says_which w v r g named (all_gone gone) left parts without opened fires k (subst (λ o. SaysYesTo v.opening.program (value_at v.state.store) o k) (sym a.2) (step_says v again room g a.0 a.1 k s)),
      λ c. says_steps v again room g a.0 a.1 k (subst (λ o. SaysYesTo v.opening.program (value_at v.state.store) o k) a.2 (elim c [
        | inl own ↦ own_says w v r g named (all_gone gone) left parts without opened fires k own
        | inr other ↦ other_says w v r g named (all_gone gone) left parts without opened fires k other
      ])),
    )
