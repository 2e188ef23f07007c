-- Acts on streams have an answer.
use Rattle.ghc_core.proofs.Words.{◌≡◌, ℕ, ◌⊎◌, List, [], ◌∷◌, map, length, refl, sym, ap, ◌∙◌, subst, inl, inr, arith, Some, Option, cases_eq, VarName, GoalName, Tree, variable, cons, nil, Goal, stream, Leads, value_at, chain, left_end, Fault, made, Act, Given as given, Closed as closed, Effect, HasEffect, IsClosed, number_limit, kept_limit, Record, World, IsFull, HasRoom, effect_once, Decided, some_decided, cases_lt, Goals, In, is_some, contains_in, Contains-from_any, same_goal}
use Rattle.std.specs.FinMap as finite
use Rattle.std.specs.FinSet as set
use Rattle.ghc_core.specs.Streams as streams
use Rattle.ghc_core.specs.Laws as laws
use Rattle.ghc_core.proofs.Naming.{known_of_act}
use Rattle.ghc_core.proofs.Refusing.{no_stream, tail_bound}
use Rattle.ghc_core.proofs.Stepping.{stream_full}

-- the goal is that of stream k, or not
is_of : (k : ℕ) (o : Option Goal) → Decided ((s : VarName) × (o ≡ Some (stream k s)))
is_of k (Some (stream l s)) = elim (cases_eq l k) [
  | inl e ↦ inl (s, ap (λ i. Some (stream i s)) e)
  | inr n ↦ inr (λ p. n (let e = p.1 in let same : l ≡ k = cc in same))
]
is_of k o = inr (λ p. let e = p.1 in cc)

-- a goal that is there is listed
listed : (m : Goals) (g : GoalName) (b : Goal) → finite.get m g ≡ Some b → In g (finite.keys m)
listed m g b e = contains_in (finite.keys m) g (Contains-from_any same_goal g (finite.keys m) (sym (finite.contains_key-keys m g) ∙ ap is_some e))

pub room : (w : World) → HasRoom w ⊎ IsFull w
room w = elim (cases_lt w.next number_limit) [
  | inr f ↦ inr (inl f)
  | inl r ↦ elim (cases_lt (length w.kept) kept_limit) [ inr f ↦ inr (inr f) | inl q ↦ inl (r, q) ]
]

-- an act on a stream
abbrev pub OnStream : Act → Type 0
OnStream act = ((t : Tree) × (act ≡ given t) × IsClosed t) ⊎ (act ≡ closed)

effect_on : (w : World) (k : ℕ) (act : Act) (s x : VarName) (xs : List VarName) → OnStream act → Leads (value_at w.state.store) (variable s) xs (variable x)
    → (e : Effect) × HasEffect w.opening.program (stream k s) act w.next (value_at w.state.store) e
effect_on w k act s x xs (inl p) l =
    let c = left_end l in
    let e : Effect = record { reads = set.from_list c.0; binds = finite.insert finite.empty x (cons p.0 (variable (made w.next 1))); makes = stream k (made w.next 1) ∷ []; fresh = 1 } in
    (e, subst (λ a. HasEffect w.opening.program (stream k s) a w.next (value_at w.state.store) e) (sym p.1) (x, p.2, (c.0, c.2, c.3, refl), refl, refl, refl))
effect_on w k act s x xs (inr p) l =
    let c = left_end l in
    let e : Effect = record { reads = set.from_list c.0; binds = finite.insert finite.empty x nil; makes = []; fresh = 0 } in
    (e, subst (λ a. HasEffect w.opening.program (stream k s) a w.next (value_at w.state.store) e) (sym p) (x, (c.0, c.2, c.3, refl), refl, refl, refl))

-- the act is done on stream k as a next step, or refused
abbrev pub IsActAnswered : World → ℕ → Act → Type 0
IsActAnswered w k act = ((r : Record) × streams.IsStreamStep w k act r) ⊎ ((f : Fault) × streams.StreamFails w k f)

by_end : (w : World) → laws.IsOrderly w → (k : ℕ) (act : Act) (g : GoalName) (s : VarName) (xs : List VarName) (e : Tree) → OnStream act → streams.IsStreamAt w k g s → Leads (value_at w.state.store) (variable s) xs e → IsActAnswered w k act
by_end w ordered k act g s xs (variable x) a at l = elim (room w) [
  | inr full ↦ inr (Fault.Full, stream_full effect_once w ordered.acyclic ordered.streams_once k act g s x at (xs, l) full)
  | inl r ↦
      let f = effect_on w k act s x xs a l in
      let t : Record = record { number = w.next; goal = Some g; consumed = Some (stream k s); act = act; effect = f.0 } in
      inl (t, ((g, s, refl, refl, refl), (refl, ((stream k s, refl, at), f.1), r, known_of_act w.opening.program w.opening.query w.kept t (stream k s) w.next (value_at w.state.store) f.0 f.1)))
]
by_end w ordered k act g s xs e a at l = inr (Fault.TailBound, tail_bound g s e at (xs, l) tt)

pub act_answered : (w : World) → laws.IsOrderly w → (k : ℕ) (act : Act) → OnStream act → IsActAnswered w k act
act_answered w ordered k act a =
    let es = finite.entries w.state.goals in
    elim (some_decided (map (λ e. e.0) es) (λ g. (s : VarName) × streams.IsStreamAt w k g s) (λ g i. is_of k (finite.get w.state.goals g))) [
      | inl (g, i, (s, at)) ↦
          let c = chain (finite.len w.state.store) w.state.store (omega arith) ordered.acyclic (variable s) in
          by_end w ordered k act g s c.passed c.«end» a at c.leads
      | inr n ↦ inr (Fault.NoStream, no_stream (λ g s at. n (g, listed w.state.goals g (stream k s) at, (s, at))))
    ]
