-- What steps name: those that consume a goal name nothing; and whether what a step names is known.
use Rattle.ghc_core.proofs.Words.{◌≡◌, ◌≢◌, ℕ, List, [], ◌∷◌, ◌++◌, length, refl, ap, subst, inl, inr, arith, Some, length-append, Option, VarName, GoalName, Goal, call, Tree, In, value_at, Decided, decided_either, nat_decided, name_decided, in_decided, some_decided, compare_splits, Program, Query, variables_of_goals, Act, Asked as asked, variables_asked, Effect, HasEffect, State, Record, Fires, IsVariableOf, AreKnownIn, NameWhatIsKnown, taken, le_decided}

-- an act that has an effect on a goal names no variable
act_names_nothing : (P : Program) (b : Goal) (a : Act) (n : ℕ) (S : VarName → Option Tree) (e : Effect) → HasEffect P b a n S e → variables_asked a ≡ []
act_names_nothing P (call f ts) (asked gs) n S e h = absurd h
act_names_nothing P b (asked gs) n S e h = absurd h
act_names_nothing P b a n S e h = refl

-- an act that does not ask for goals names no variable
pub unasked_names_nothing : (a : Act) → ((gs : List Goal) → a ≢ asked gs) → variables_asked a ≡ []
unasked_names_nothing (asked gs) n = absurd (n gs refl)
unasked_names_nothing a n = refl

-- where nothing is named, all that is named is known
pub nothing_named : (query : Query) (rs : List Record) (r : Record) → variables_asked r.act ≡ [] → AreKnownIn query rs r
nothing_named query rs r none x n = absurd (subst (In x) none n.0)

-- A step whose act has an effect on a goal names nothing,
pub known_of_act : (P : Program) (query : Query) (rs : List Record) (r : Record) (b : Goal) (n : ℕ) (S : VarName → Option Tree) (e : Effect) → HasEffect P b r.act n S e → AreKnownIn query rs r
known_of_act P query rs r b n S e h = nothing_named query rs r (act_names_nothing P b r.act n S e h)

-- and so does one that consumes a goal.
pub known_of_goal : (P : Program) (s : State) (query : Query) (rs : List Record) (r : Record) → Fires P s r → (g : GoalName) → r.goal ≡ Some g → AreKnownIn query rs r
known_of_goal P s query rs r fires g named = let t = taken P s r fires g named in known_of_act P query rs r t.goal r.number (value_at s.store) r.effect t.effect

-- what is known among some steps is known among more
pub known_more : (query : Query) (rs more : List Record) → ((r : Record) → In r rs → In r more) → (x : VarName) → IsVariableOf query rs x → IsVariableOf query more x
known_more query rs more among x (inl i) = inl i
known_more query rs more among x (inr m) = inr (m.0, among m.0 m.1, m.2)

-- no steps name nothing
pub none_named : (query : Query) → NameWhatIsKnown query []
none_named query front behind r e = absurd (omega (arith, ap length e, length-append front (r ∷ behind)))

-- a step more, which names what is known
pub named_push : (query : Query) (rs : List Record) (r : Record) → NameWhatIsKnown query rs → AreKnownIn query rs r → NameWhatIsKnown query (rs ++ r ∷ [])
named_push query rs r named known front behind q e = elim (compare_splits rs front r q [] behind e) [
  | inl same ↦ subst (λ l. AreKnownIn query l q) same.0 (subst (AreKnownIn query rs) same.1 known)
  | inr (inl m) ↦ absurd (omega (arith, ap length m.1, ap length e, length-append rs (r ∷ m.0), length-append rs (r ∷ []), length-append front (q ∷ behind)))
  | inr (inr m) ↦ named front m.0 q m.1
]

-- whether the variable is the query's, or a step made it
variable_decided : (query : Query) (rs : List Record) (x : VarName) → Decided (IsVariableOf query rs x)
variable_decided query rs x =
    decided_either (in_decided name_decided x (variables_of_goals query))
    (some_decided rs _ (λ r i. grind (arith, nat_decided x.step r.number, le_decided 1 x.place, le_decided x.place r.effect.fresh)))

-- whether all these variables, but for those of step n, are known
pub all_decided : (query : Query) (rs : List Record) (n : ℕ) (xs : List VarName) → Decided ((x : VarName) → In x xs × (x.step ≢ n) → IsVariableOf query rs x)
all_decided query rs n xs =
    elim (some_decided xs (λ x. (x.step ≢ n) × (¬ IsVariableOf query rs x)) (λ x i. grind (arith, nat_decided x.step n, variable_decided query rs x))) [
      | inl (x, i, (other, unknown)) ↦ inr (λ all. unknown (all x (i, other)))
      | inr none ↦ inl (λ x i. elim (variable_decided query rs x) [ inl known ↦ known | inr unknown ↦ absurd (none (x, i.0, (i.1, unknown))) ])
    ]

-- Whether all that the step names is known.
pub known_decided : (query : Query) (rs : List Record) (r : Record) → Decided (AreKnownIn query rs r)
known_decided query rs r = all_decided query rs r.number (variables_asked r.act)
