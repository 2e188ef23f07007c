-- A run keeps one goal a stream.
use Rattle.ghc_records.proofs.Words.{◌≡◌, ◌≢◌, ℕ, zero, suc, ◌+◌, true, false, cond, List, [], ◌∷◌, filter, refl, sym, ap, ◌∙◌, subst, inl, inr, arith, Some, None, slice_get, Option, VarName, GoalName, Tree, Goal, call, unify, assign, stream, In, value_at, in_at, Program, Query, is_stream, IsProgram, IsQuery, becomes, replace_in_goal, Act, ByClause as by_clause, Unified as unified, Assigned as assigned, Given as given, Closed as closed, Effect, HasEffect, goal_cmp, State, Record, without_goal, after, Fires, query_state, Runs, same_parts}
use Rattle.std.specs.FinMap as finite
use Rattle.ghc_records.proofs.States.{old_apart}
pub use Rattle.ghc_records.proofs.States.{MadeAt, made_at}
use Rattle.ghc_records.proofs.Effects.{firing, mapped, not_stream, kept_goal}

-- each stream has one goal at most
abbrev pub OneEach : State → Type 0
OneEach s = (k : ℕ) (g h : GoalName) (x y : VarName) → finite.get s.goals g ≡ Some (stream k x) → finite.get s.goals h ≡ Some (stream k y) → g ≡ h

still : (s : VarName → Tree) (b : Goal) → is_stream (replace_in_goal s b) ≡ is_stream b
still s (call f ts) = refl
still s b = refl

one_made : (k l : ℕ) (x y : VarName) (j : ℕ) → slice_get (stream k x ∷ []) j ≡ Some (stream l y) → (j ≡ 0) × (k ≡ l)
one_made k l x y zero e = (refl, cc)
one_made k l x y (suc j) e = cc

none_made : (gs : List Goal) (j : ℕ) (b : Goal) → gs ≡ [] → slice_get gs j ≡ Some b → ⊥
none_made gs j b e p = let clash : None ≡ Some b = ap (λ l. slice_get l j) (sym e) ∙ p in cc

-- a step makes a stream goal only of one, and at its first place
pub stream_made : (P : Program) (g : Goal) (a : Act) (n : ℕ) (S : VarName → Option Tree) (e : Effect) → IsProgram P → HasEffect P g a n S e → (j k : ℕ) (x : VarName) → slice_get e.makes j ≡ Some (stream k x)
    → (j ≡ 0) × ((tail : VarName) × (g ≡ stream k tail))
stream_made P (call f ts) (by_clause c) n S e accepted d j k x p =
    let b = mapped (replace_in_goal (becomes d.0 d.1 n)) d.0.body (stream k x) (subst (In (stream k x)) d.6 (in_at e.makes j (stream k x) p)) in
    let plain = not_stream d.0.body b.0 (accepted d.0 (in_at P d.2.0 d.0 d.2.2)).closed b.1 in
    absurd (let clash : true ≡ false = ap is_stream b.2 ∙ still (becomes d.0 d.1 n) b.0 ∙ plain in cc)
stream_made P (unify l r) unified n S e accepted d j k x p = absurd (none_made e.makes j (stream k x) d.1 p)
stream_made P (assign t b) assigned n S e accepted d j k x p = absurd (none_made e.makes j (stream k x) d.5 p)
stream_made P (stream l s) (given u) n S e accepted d j k x p =
    let q = one_made l k (record { step = n; place = 1 }) x j (ap (λ gs. slice_get gs j) (sym d.4) ∙ p) in
    (q.0, (s, ap (λ i. stream i s) q.1))
stream_made P (stream l s) closed n S e accepted d j k x p = absurd (none_made e.makes j (stream k x) d.3 p)
stream_made P g a n S e accepted d j k x p = absurd d

-- no stream goal is among these
none_stream : (gs : List Goal) (j k : ℕ) (x : VarName) → filter is_stream gs ≡ [] → slice_get gs j ≡ Some (stream k x) → ⊥
none_stream gs j k x e p = let clash : true ≡ false = not_stream gs (stream k x) e (in_at gs j (stream k x) p) in cc

module _ (P : Program) (accepted : IsProgram P) where
  -- a step that consumes no goal
  after_asked : (s : State) (r : Record) → r.goal ≡ None → filter is_stream r.effect.makes ≡ [] → OneEach s → OneEach (after s r)
  after_asked s r none plain one k g h x y p q =
      let old : (i : GoalName) (z : VarName) → finite.get (after s r).goals i ≡ Some (stream k z) → finite.get s.goals i ≡ Some (stream k z) =
      λ i z e. elim (made_at r.number 1 r.effect.makes (without_goal r.goal s.goals) i (stream k z) e) [
        | inl m ↦ absurd (none_stream r.effect.makes m.0 k z plain m.1)
        | inr m ↦ kept_goal s.goals r.goal i (stream k z) m
      ] in
      one k g h x y (old g x p) (old h y q)

  pub after_one_each : (s : State) (r : Record) → Fires P s r → OneEach s → OneEach (after s r)
  after_one_each s r fires one k g h x y p q = elim (firing P s r fires) [
    | inr n ↦ after_asked s r n.3 (ap (filter is_stream) n.2.makes ∙ n.2.askable.plain) one k g h x y p q
    | inl f ↦
        let old : (i : GoalName) (b : Goal) → finite.get (without_goal r.goal s.goals) i ≡ Some b → (finite.get s.goals i ≡ Some b) × (i ≢ f.0) =
        λ i b e. old_apart s.goals f.0 i b (subst (λ o. finite.get (without_goal o s.goals) i ≡ Some b) f.2 e) in
        let made : (i : GoalName) (z : VarName) → MadeAt r.number 1 r.effect.makes i (stream k z) → (i.place ≡ 1) × ((tail : VarName) × (finite.get s.goals f.0 ≡ Some (stream k tail))) =
        λ i z m.
        let t = stream_made P f.1 r.act r.number (value_at s.store) r.effect accepted f.4 m.0 k z m.1 in
        let place : i.place ≡ 1 + m.0 = m.3 in
        let first : m.0 ≡ 0 = t.0 in
        ((omega arith), (t.1.0, f.3 ∙ ap Some t.1.1)) in
        elim (made_at r.number 1 r.effect.makes (without_goal r.goal s.goals) g (stream k x) p) [
          | inl a ↦ elim (made_at r.number 1 r.effect.makes (without_goal r.goal s.goals) h (stream k y) q) [
            | inl b ↦ same_parts g h (a.2 ∙ sym b.2) ((made g x a).0 ∙ sym (made h y b).0)
            | inr b ↦ let c = made g x a in let d = old h (stream k y) b in absurd (d.1 (sym (one k f.0 h c.1.0 y c.1.1 d.0)))
          ]
          | inr a ↦ elim (made_at r.number 1 r.effect.makes (without_goal r.goal s.goals) h (stream k y) q) [
            | inl b ↦ let c = made h y b in let d = old g (stream k x) a in absurd (d.1 (sym (one k f.0 g c.1.0 x c.1.1 d.0)))
            | inr b ↦ one k g h x y (old g (stream k x) a).0 (old h (stream k y) b).0
          ]
        ]
  ]

  pub run_one_each : (rs : List Record) (s t : State) → Runs P s rs t → OneEach s → OneEach t
  run_one_each [] s t run one = subst OneEach (sym run) one
  run_one_each (r ∷ rs) s t run one = run_one_each rs (after s r) t run.1 (after_one_each s r run.0 one)

-- how many stream goals stand before the j-th
abbrev rank : List Goal → ℕ → ℕ
rank [] j = 0
rank (g ∷ gs) zero = 0
rank (g ∷ gs) (suc j) = cond (is_stream g) (suc (rank gs j)) (rank gs j)

ranked : (gs : List Goal) (j : ℕ) (b : Goal) → slice_get gs j ≡ Some b → is_stream b ≡ true → slice_get (filter is_stream gs) (rank gs j) ≡ Some b
ranked [] j b e s = cc
ranked (g ∷ gs) zero b e s =
    elim (is_stream g) as (λ c. is_stream g ≡ c → slice_get (cond c (g ∷ filter is_stream gs) (filter is_stream gs)) 0 ≡ Some b) [
      | true ↦ λ p. e
      | false ↦ λ p. absurd (let same : g ≡ b = cc in let clash : false ≡ true = sym p ∙ ap is_stream same ∙ s in cc)
    ] refl
ranked (g ∷ gs) (suc j) b e s =
    elim (is_stream g) as (λ c. slice_get (cond c (g ∷ filter is_stream gs) (filter is_stream gs)) (cond c (suc (rank gs j)) (rank gs j)) ≡ Some b) [
      | true ↦ ranked gs j b e s
      | false ↦ ranked gs j b e s
    ]

apart_rank : (g : Goal) (n : ℕ) (b : Goal) → Some g ≡ Some b → is_stream b ≡ true → 0 ≡ cond (is_stream g) (suc n) n → ⊥
apart_rank g n b e s =
    elim (is_stream g) as (λ c. is_stream g ≡ c → 0 ≡ cond c (suc n) n → ⊥) [
      | true ↦ λ p q. omega arith
      | false ↦ λ p q. (let same : g ≡ b = cc in let clash : false ≡ true = sym p ∙ ap is_stream same ∙ s in cc)
    ] refl

one_rank : (gs : List Goal) (j l : ℕ) (b c : Goal) → slice_get gs j ≡ Some b → is_stream b ≡ true → slice_get gs l ≡ Some c → is_stream c ≡ true → rank gs j ≡ rank gs l → j ≡ l
one_rank [] j l b c e s f t r = cc
one_rank (g ∷ gs) zero zero b c e s f t r = refl
one_rank (g ∷ gs) zero (suc l) b c e s f t r = absurd (apart_rank g (rank gs l) b e s r)
one_rank (g ∷ gs) (suc j) zero b c e s f t r = absurd (apart_rank g (rank gs j) c f t (sym r))
one_rank (g ∷ gs) (suc j) (suc l) b c e s f t r =
    ap suc (one_rank gs j l b c e s f t (elim (is_stream g) as (λ d. cond d (suc (rank gs j)) (rank gs j) ≡ cond d (suc (rank gs l)) (rank gs l) → rank gs j ≡ rank gs l) [ true ↦ λ p. omega arith | false ↦ λ p. p ] r))

-- a query has one goal a stream
pub query_one_each : (P : Program) (query : Query) → IsQuery P query → OneEach (query_state query)
query_one_each P query fits k g h x y p q =
    elim (made_at 0 1 query finite.empty g (stream k x) p) [
      | inr a ↦ absurd (let clash : None ≡ Some (stream k x) = sym (finite.get-empty goal_cmp g) ∙ a in cc)
      | inl a ↦ elim (made_at 0 1 query finite.empty h (stream k y) q) [
        | inr b ↦ absurd (let clash : None ≡ Some (stream k y) = sym (finite.get-empty goal_cmp h) ∙ b in cc)
        | inl b ↦
            let first : k ≡ rank query a.0 + 1 = fits.streams (rank query a.0) k x (ranked query a.0 (stream k x) a.1 refl) in
            let second : k ≡ rank query b.0 + 1 = fits.streams (rank query b.0) k y (ranked query b.0 (stream k y) b.1 refl) in
            let same : a.0 ≡ b.0 = one_rank query a.0 b.0 (stream k x) (stream k y) a.1 refl b.1 refl (omega arith) in
            let one : g.place ≡ 1 + a.0 = a.3 in
            let two : h.place ≡ 1 + b.0 = b.3 in
            same_parts g h (a.2 ∙ sym b.2) (omega arith)
      ]
    ]
