-- The step of a stream that is prepared, and why none is.
use Rattle.ghc_core.proofs.Words.{◌≡◌, ℕ, refl, ap, sym, subst, inl, inr, Some, Result, Err, VarName, GoalName, Fault, variable, stream, StoreValue, value_at, EndsIn, Act, Closed as closed, effect_once, Effect, HasEffect, IsTailBound, Record, World, IsFull, HasRoom, IsOrderly, IsStreamAt, StreamFails, IsStreamStep}
use Rattle.ghc_core.proofs.Naming.{known_of_act}
use Rattle.ghc_core.proofs.Refusing.{stream_fails_once, tail_bound}
use Rattle.ghc_core.proofs.Stepping.{bound_or_open, room_or_full, stream_full}

-- The tail ends in a value.
pub is_bound : (w : World) (k : ℕ) (g : GoalName) (s : VarName) (m : StoreValue) → m ≡ w.state.store → IsStreamAt w k g s → IsTailBound s (value_at m) → StreamFails w k Fault.TailBound
is_bound w k g s m same at b = let t = subst (λ x. IsTailBound s (value_at x)) same b in tail_bound g s t.0 at t.1 t.2

-- The step of an act on a stream.
pub stream_step : (w : World) (k : ℕ) (act : Act) (g : GoalName) (s : VarName) (e : Effect) (r : Record) → IsStreamAt w k g s
    → HasEffect w.opening.program (stream k s) act w.next (value_at w.state.store) e → HasRoom w
    → r ≡ record { number = w.next; goal = Some g; consumed = Some (stream k s); act = act; effect = e } → IsStreamStep w k act r
stream_step w k act g s e r at has room same =
    let t : Record = record { number = w.next; goal = Some g; consumed = Some (stream k s); act = act; effect = e } in
    subst (IsStreamStep w k act) (sym same)
    ((g, s, refl, refl, refl), (refl, ((stream k s, refl, at), has), room, known_of_act w.opening.program w.opening.query w.kept t (stream k s) w.next (value_at w.state.store) e has))

module _ (w : World) (ordered : IsOrderly w) (k : ℕ) where
  -- a refusal that takes no memory is the one
  pub refused_anyway : {A : Type 0} (f g : Fault) → StreamFails w k f → StreamFails w k g → ◌≡◌ {A = Result A Fault} (Err f) (Err g)
  refused_anyway f g p q = ap Err (stream_fails_once p q)

  -- the tail is open, and the world full
  pub is_full : (g : GoalName) (s x : VarName) → IsStreamAt w k g s → EndsIn (value_at w.state.store) s (variable x) → IsFull w → StreamFails w k Fault.Full
  is_full g s x at ends full = stream_full effect_once w ordered.acyclic ordered.streams_once k closed g s x at ends full

  -- a stream whose tail ends in an unbound variable takes what it is given, where there is room
  pub takes_something : (g : GoalName) (s x : VarName) {f : Fault} → IsStreamAt w k g s → EndsIn (value_at w.state.store) s (variable x) → HasRoom w → ¬ StreamFails w k f
  takes_something g s x at ends room p = elim p.first [
    | inl (_, none) ↦ none g s at
    | inr (_, inl (_, (h, u, t, here, bound, v))) ↦ bound_or_open effect_once w ordered.acyclic ordered.streams_once k closed h g u s x t here bound v at ends
    | inr (_, inr (_, (_, full))) ↦ room_or_full w room full
  ]
