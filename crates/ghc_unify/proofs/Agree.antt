-- A unification goes the same way on every store that agrees with its own on all that its terms reach.
use Rattle.ghc_unify.proofs.Words.{◌≡◌, cond, List, [], ◌∷◌, ◌++◌, refl, sym, ap, ◌∙◌, subst, inl, inr, ◌⊎◌, Option, Some, eq_by_cmp, VarName, Tree, Trees, Occurs, OccursIn, In, Leads, at_free, along, Reaches, here, through, Comes, now, on, name_cmp, with_binding, leads_agree, reaches_on, Pairs, no_more, one_more, Meets, integers, nodes, Move, shared, left, right, both, Moves, stay, go, IsClash, IsCycle, solved, clash, cycle, UnificationLooksAtItsTerms, Each, each_both}
use Rattle.ghc_unify.proofs.Locality.{comes_agree, met_agree, both_met, by_binding}

-- the variables of the tree are in D
abbrev pub Inside : (VarName → Type 0) → Tree → Type 0
Inside D t = (x : VarName) → Occurs x t → D x

abbrev pub AllInside : (VarName → Type 0) → List (Tree × Tree) → Type 0
AllInside D [] = Unit {0}
AllInside D (e ∷ es) = Inside D e.0 × Inside D e.1 × AllInside D es

-- S is the store before and T the store by now; S' and T' agree with them on D, and what T binds in D stays in D
pub record Alike (D : VarName → Type 0) (S T S' T' : VarName → Option Tree) : Type 0 where
  pub old : (x : VarName) → D x → S' x ≡ S x
  pub agree : (x : VarName) → D x → T' x ≡ T x
  pub closed : (x : VarName) (t : Tree) → D x → T x ≡ Some t → Inside D t

module _ {D : VarName → Type 0} {S T S' T' : VarName → Option Tree} (f : Alike D S T S' T') where
  comes_inside : {t : Tree} {xs : List VarName} {y : VarName} → Comes T t xs y → Inside D t → ((x : VarName) → In x xs → D x) × D y
  comes_inside (now {x = x}) i = (λ x j. absurd j, i x refl)
  comes_inside (on {x = x} {t = u} e c) i =
      let d = i x refl in
      let rest = comes_inside c (f.closed x u d e) in
      (λ y j. elim j [ inl p ↦ subst D (sym p) d | inr k ↦ rest.0 y k ], rest.1)

  leads_inside : {t e : Tree} {xs : List VarName} → Leads T t xs e → Inside D t → ((x : VarName) → In x xs → D x) × Inside D e
  leads_inside (at_free {x = x} p) i = (λ y j. elim j [ inl p ↦ subst D (sym p) (i x refl) | inr k ↦ absurd k ], i)
  leads_inside (along {x = x} {t = u} p a) i =
      let d = i x refl in
      let rest = leads_inside a (f.closed x u d p) in
      (λ y j. elim j [ inl p ↦ subst D (sym p) d | inr k ↦ rest.0 y k ], rest.1)
  leads_inside l i = (λ x j. absurd j, i)

  comes_on : {t : Tree} {xs : List VarName} {y : VarName} → Comes T t xs y → Inside D t → Comes T' t xs y
  comes_on c i = comes_agree c (λ x j. f.agree x ((comes_inside c i).0 x j))

  leads_on : {t e : Tree} {xs : List VarName} → Leads T t xs e → Inside D t → Leads T' t xs e
  leads_on c i = leads_agree c (λ x j. f.agree x ((leads_inside c i).0 x j))

  reaches_there : {t : Tree} {y : VarName} → Reaches T t y → Inside D t → Reaches T' t y
  reaches_there (here o) i = here o
  reaches_there (through {u = u} {y = x} o e r) i = let d = i x o in through o (f.agree x d ∙ e) (reaches_there r (f.closed x u d e))

  alike_with : (x : VarName) (t : Tree) → Inside D t → Alike D S (with_binding T x t) S' (with_binding T' x t)
  alike_with x t i = record {
    old = f.old;
    agree = λ y d. ap (cond (eq_by_cmp name_cmp y x) (Some t)) (f.agree y d);
    closed = λ y u d. by_binding (λ o _. o ≡ Some u → Inside D u) T T' x t y (λ _ e. let same : t ≡ u = cc in subst (Inside D) same i) (f.closed y u d);
  }

-- the other way round
back : {D : VarName → Type 0} {S T S' T' : VarName → Option Tree} → Alike D S T S' T' → Alike D S' T' S T
back f = record {
  old = λ x d. sym (f.old x d);
  agree = λ x d. sym (f.agree x d);
  closed = λ x t d e. f.closed x t d (sym (f.agree x d) ∙ e);
}

pub pairs_inside : {D : VarName → Type 0} {ts us : Trees} {es : List (Tree × Tree)} → Pairs ts us es → ((x : VarName) → OccursIn x ts → D x) → ((x : VarName) → OccursIn x us → D x) → AllInside D es
pairs_inside no_more i j = tt
pairs_inside (one_more p) i j = (λ x o. i x (inl o), λ x o. j x (inl o), pairs_inside p (λ x o. i x (inr o)) (λ x o. j x (inr o)))

pub meets_inside : {D : VarName → Type 0} {e f : Tree} {es : List (Tree × Tree)} → Meets e f es → Inside D e → Inside D f → AllInside D es
meets_inside integers i j = tt
meets_inside (nodes p) i j = pairs_inside p i j

pub append_inside : (D : VarName → Type 0) (es fs : List (Tree × Tree)) → AllInside D es → AllInside D fs → AllInside D (es ++ fs)
append_inside D [] fs i j = j
append_inside D (e ∷ es) fs i j = (i.0, i.1, append_inside D es fs i.2 j)

step : {D : VarName → Type 0} {S T S' T' U : VarName → Option Tree} {es fs : List (Tree × Tree)} {bs : List (VarName × Tree)} {rs : List VarName} → Move S T es U fs bs rs → Alike D S T S' T' → AllInside D es
    → (U' : VarName → Option Tree) × Move S' T' es U' fs bs rs × Alike D S U S' U' × AllInside D fs × Each bs (λ b. D b.0)
step {S = S} {S' = S'} {T' = T'} (shared {a = a} {b = b} p q first) f i =
    let cl = comes_inside f p i.0 in
    let cr = comes_inside f q i.1 in
    let move = shared (comes_on f p i.0) (comes_on f q i.1) (λ x j c. first x j (c.0, comes_on (back f) c.1 i.1)) in
    (T', rw (← both_met S S' a b (λ x k. f.old x (cl.0 x k)) (λ x k. f.old x (cr.0 x k))) move, f, i.2, tt)
step {S = S} {S' = S'} {T' = T'} (left {r = r} {a = a} {x = x} p n o) f i =
    let cl = comes_inside f p i.0 in
    let move = left (comes_on f p i.0) (f.agree x cl.1 ∙ n) (λ c. o (reaches_there (back f) c i.1)) in
    (with_binding T' x r, rw (← met_agree S S' a (λ y k. f.old y (cl.0 y k))) move, alike_with f x r i.1, i.2, (cl.1, tt))
step {S = S} {S' = S'} {T' = T'} (right {l = l} {a = a} {b = b} {y = y} k v q n o) f i =
    let cl = leads_inside f k i.0 in
    let cr = comes_inside f q i.1 in
    let move = right (leads_on f k i.0) v (comes_on f q i.1) (f.agree y cr.1 ∙ n) (λ c. o (reaches_there (back f) c i.0)) in
    (with_binding T' y l, rw (← both_met S S' a b (λ x k. f.old x (cl.0 x k)) (λ x k. f.old x (cr.0 x k))) move, alike_with f y l i.0, i.2, (cr.1, tt))
step {D = D} {S = S} {S' = S'} {T' = T'} (both {a = a} {b = b} {es = es} {new = new} p q apart m) f i =
    let cl = leads_inside f p i.0 in
    let cr = leads_inside f q i.1 in
    let move = both (leads_on f p i.0) (leads_on f q i.1) apart m in
    let reads = both_met S S' a b (λ x k. f.old x (cl.0 x k)) (λ x k. f.old x (cr.0 x k)) in
    (T', rw (← reads) move, f, append_inside D new es (meets_inside m cl.1 cr.1) i.2, tt)

pub steps : {D : VarName → Type 0} {S T S' T' V : VarName → Option Tree} {es gs : List (Tree × Tree)} {bs : List (VarName × Tree)} {rs : List VarName}
    → Moves S T es V gs bs rs → Alike D S T S' T' → AllInside D es
    → (V' : VarName → Option Tree) × Moves S' T' es V' gs bs rs × Alike D S V S' V' × AllInside D gs × Each bs (λ b. D b.0)
steps {T' = T'} stay f i = (T', stay, f, i, tt)
steps {D = D} (go {bs = bs} {cs = cs} m ms) f i =
    let one = step m f i in
    let rest = steps ms one.2 one.3 in
    (rest.0, go one.1 rest.1, rest.2, rest.3, each_both bs cs (λ b. D b.0) one.4 rest.4)

clash_there : {D : VarName → Type 0} {S T S' T' : VarName → Option Tree} {l r : Tree} → Alike D S T S' T' → Inside D l → Inside D r → IsClash T l r → IsClash T' l r
clash_there f i j c = (c.0, c.1, c.2, c.3, leads_on f c.4 i, leads_on f c.5 j, c.6, c.7, c.8, c.9)

cycle_there : {D : VarName → Type 0} {S T S' T' : VarName → Option Tree} {l r : Tree} → Alike D S T S' T' → Inside D l → Inside D r → IsCycle T l r → IsCycle T' l r
cycle_there f i j (inl c) =
    let x = (comes_inside f c.2 i).1 in
    inl (c.0, c.1, comes_on f c.2 i, f.agree c.1 x ∙ c.3, (λ p. c.4 (p.0, comes_on (back f) p.1 j)), reaches_there f c.5 j)
cycle_there f i j (inr c) =
    let y = (comes_inside f c.6 j).1 in
    inr (c.0, c.1, c.2, c.3, leads_on f c.4 i, c.5, comes_on f c.6 j, f.agree c.3 y ∙ c.7, reaches_there f c.8 i)

-- what the two terms reach is closed
start : (S S' : VarName → Option Tree) (l r : Tree) → ((x : VarName) → Reaches S l x ⊎ Reaches S r x → S' x ≡ S x) → Alike (λ x. Reaches S l x ⊎ Reaches S r x) S S S' S'
start S S' l r h = record {
  old = h;
  agree = h;
  closed = λ x t d e y o. elim d [ inl p ↦ inl (reaches_on p e (here o)) | inr p ↦ inr (reaches_on p e (here o)) ];
}

pub looks_at_terms : UnificationLooksAtItsTerms
looks_at_terms S S' l r (solved binds reads) u h =
    let s = steps u.2.1 (start S S' l r h) (λ x o. inl (here o), λ x o. inr (here o), tt) in
    (u.0, u.1, (s.0, s.1), u.3, u.4)
looks_at_terms S S' l r clash u h =
    let s = steps u.6 (start S S' l r h) (λ x o. inl (here o), λ x o. inr (here o), tt) in
    (s.0, u.1, u.2, u.3, u.4, u.5, s.1, clash_there s.2 s.3.0 s.3.1 u.7)
looks_at_terms S S' l r cycle u h =
    let s = steps u.6 (start S S' l r h) (λ x o. inl (here o), λ x o. inr (here o), tt) in
    (s.0, u.1, u.2, u.3, u.4, u.5, s.1, cycle_there s.2 s.3.0 s.3.1 u.7)
