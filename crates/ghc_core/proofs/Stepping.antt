-- Proposing, committing, and acting on streams have one answer, where attempts and effects have.
use Rattle.ghc_core.proofs.Words.{◌≡◌, ℕ, List, [], ◌∷◌, ◌++◌, refl, sym, ap, ◌∙◌, subst, subst₂, inl, inr, arith, Some, Option, VarName, GoalName, Tree, variable, IsValue, Goal, stream, value_at, Leads, IsAcyclic, leads_once, Program, EndsIn, Fault, Act, Given as given, Closed as closed, Effect, HasEffect, EffectIsOne, Record, HasStepEffect, Proposal, World, IsFull, HasRoom, IsNextStep, comes_leads}
use Rattle.std.specs.FinMap as finite
use Rattle.ghc_core.specs.Proposes as asking
use Rattle.ghc_core.specs.Streams as streams
use Rattle.ghc_core.proofs.Refusing.{value_once, finds}

-- a world has no room and is full at once
pub room_or_full : (w : World) → HasRoom w → ¬ IsFull w
room_or_full w r (inl f) = omega (arith, r.0)
room_or_full w r (inr f) = omega (arith, r.1)

-- the effect of a next step that names its goal
pub step_effect : (w : World) (r : Record) (g : GoalName) → IsNextStep w r → r.goal ≡ Some g
    → (b : Goal) × (r.consumed ≡ Some b) × (finite.get w.state.goals g ≡ Some b) × HasEffect w.opening.program b r.act w.next (value_at w.state.store) r.effect
step_effect w r g n e =
    let f = finds w r g n.1 e in
    (f.0, f.1, f.2, subst₂ (λ c m. HasStepEffect w.opening.program c r.act m (value_at w.state.store) r.effect) f.1 n.0 n.1.1)

module _ (effects : EffectIsOne) (w : World) (acyclic : IsAcyclic (value_at w.state.store)) where
  -- a goal and an act make one next step
  pub step_once : (r s : Record) (g : GoalName) → IsNextStep w r → IsNextStep w s → r.goal ≡ Some g → s.goal ≡ Some g → r.act ≡ s.act → r ≡ s
  step_once r s g n m e k a =
      let p = step_effect w r g n e in
      let q = step_effect w s g m k in
      let goals : p.0 ≡ q.0 = value_once p.2 q.2 in
      let moved : HasEffect w.opening.program q.0 s.act w.next (value_at w.state.store) r.effect = subst₂ (λ b c. HasEffect w.opening.program b c w.next (value_at w.state.store) r.effect) goals a p.3 in
      let effect : r.effect ≡ s.effect = effects w.opening.program q.0 s.act w.next (value_at w.state.store) r.effect s.effect acyclic moved q.3 in
      let number : r.number ≡ s.number = n.0 ∙ sym m.0 in
      let goal : r.goal ≡ s.goal = e ∙ sym k in
      let consumed : r.consumed ≡ s.consumed = p.1 ∙ ap Some goals ∙ sym q.1 in
      λ i. record { number = number i; goal = goal i; consumed = consumed i; act = a i; effect = effect i }

-- a commit is not both taken and refused
pub commit_or_fail : (w : World) {p : Proposal} {f : Fault} (r : Record) → asking.IsCommitOf w p r → ¬ asking.CommitFails w p f
commit_or_fail w r c p = elim p.first [ inl q ↦ q.1 c.0 | inr q ↦ room_or_full w c.1.2 q.1.1 ]

-- an act on a stream has an effect where its tail ends unbound alone
tail_open : (P : Program) (k : ℕ) (s : VarName) (a : Act) (n : ℕ) (S : VarName → Option Tree) (e : Effect) → HasEffect P (stream k s) a n S e → (x : VarName) × (xs : List VarName) × Leads S (variable s) xs (variable x)
tail_open P k s (given u) n S e f = (f.0, f.2.0 ++ f.0 ∷ [], comes_leads f.2.1 f.2.2)
tail_open P k s closed n S e f = (f.0, f.1.0 ++ f.0 ∷ [], comes_leads f.1.1 f.1.2)
tail_open P k s a n S e f = absurd f

module _ (effects : EffectIsOne) (w : World) (acyclic : IsAcyclic (value_at w.state.store))
    (once : (k : ℕ) (g h : GoalName) (s u : VarName) → streams.IsStreamAt w k g s → streams.IsStreamAt w k h u → g ≡ h) (k : ℕ) (act : Act) where
  -- a stream has one tail
  one_tail : (g h : GoalName) (s u : VarName) → streams.IsStreamAt w k g s → streams.IsStreamAt w k h u → s ≡ u
  one_tail g h s u p q = let same : stream k s ≡ stream k u = value_once p (rw (once k g h s u p q) q) in cc

  at_stream : (r : Record) (t : streams.IsStreamStep w k act r) → streams.IsStreamAt w k t.0.0 t.0.1
  at_stream r t = let f = step_effect w r t.0.0 t.1 t.0.2 in f.2 ∙ sym f.1 ∙ t.0.3

  opens : (r : Record) (t : streams.IsStreamStep w k act r) → (x : VarName) × (xs : List VarName) × Leads (value_at w.state.store) (variable t.0.1) xs (variable x)
  opens r t =
      let f = step_effect w r t.0.0 t.1 t.0.2 in
      let goal : f.0 ≡ stream k t.0.1 = value_once f.1 t.0.3 in
      tail_open w.opening.program k t.0.1 r.act w.next (value_at w.state.store) r.effect
      (subst (λ b. HasEffect w.opening.program b r.act w.next (value_at w.state.store) r.effect) goal f.3)

  -- a tail ends in one thing
  not_value : (s x : VarName) (xs ys : List VarName) (e : Tree) → Leads (value_at w.state.store) (variable s) xs (variable x) → Leads (value_at w.state.store) (variable s) ys e → ¬ IsValue e
  not_value s x xs ys e p q v = subst IsValue (sym (leads_once p q).1) v

  pub stream_step_or_fail : {f : Fault} (r : Record) → streams.IsStreamStep w k act r → ¬ streams.StreamFails w k f
  stream_step_or_fail r t p =
      let at = at_stream r t in
      let o = opens r t in
      elim p.first [
        | inl (_, none) ↦ none t.0.0 t.0.1 at
        | inr (_, inl (_, (g, s, value, here, ends, v))) ↦
            not_value s o.0 o.1 ends.0 value (subst (λ z. Leads (value_at w.state.store) (variable z) o.1 (variable o.0)) (one_tail t.0.0 g t.0.1 s at here) o.2) ends.1 v
        | inr (_, inr (_, (_, many))) ↦ room_or_full w t.1.2 many
      ]

  pub bound_or_open : (g h : GoalName) (s u x : VarName) (e : Tree) → streams.IsStreamAt w k g s → EndsIn (value_at w.state.store) s e → IsValue e → streams.IsStreamAt w k h u → EndsIn (value_at w.state.store) u (variable x) → ⊥
  bound_or_open g h s u x e at ends v here open_end =
      not_value s x open_end.0 ends.0 e (subst (λ z. Leads (value_at w.state.store) (variable z) open_end.0 (variable x)) (one_tail h g u s here at) open_end.1) ends.1 v

  pub stream_full : (g : GoalName) (s x : VarName) → streams.IsStreamAt w k g s → EndsIn (value_at w.state.store) s (variable x) → IsFull w → streams.StreamFails w k Fault.Full
  stream_full g s x at ends many = record { first = inr ((λ f none. none.1 g s at), inr ((λ f (_, (h, u, e, here, reached, v)). bound_or_open h g u s x e here reached v at ends), (refl, many))) }

  pub one_stream_step : (r s : Record) → streams.IsStreamStep w k act r → streams.IsStreamStep w k act s → r ≡ s
  one_stream_step r s t q =
      let names : t.0.0 ≡ q.0.0 = once k t.0.0 q.0.0 t.0.1 q.0.1 (at_stream r t) (at_stream s q) in
      step_once effects w acyclic r s q.0.0 t.1 q.1 (t.0.2 ∙ ap Some names) q.0.2 (t.0.4 ∙ sym q.0.4)
