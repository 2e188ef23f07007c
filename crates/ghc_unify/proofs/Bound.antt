-- The bindings of a run, in their order and as a map.
use Rattle.ghc_unify.proofs.Words.{◌≡◌, true, cond, List, [], ◌∷◌, ◌++◌, refl, sym, ap, ◌∙◌, subst, inl, inr, ◌⊎◌, Option, Some, None, option_or, eq_by_cmp, VarName, Tree, name_cmp, with_binding, decided_either, name_decided, Each, by_answers, name_total, itself as found_itself, apart, Move, left, right, Moves, stay, go, with_bindings}
use Rattle.std.specs.FinMap as finite
use Rattle.ghc_unify.proofs.Locality.{by_binding}

-- the store with these bindings more, one after another
abbrev pub bound_by : List (VarName × Tree) → (VarName → Option Tree) → VarName → Option Tree
bound_by [] S = S
bound_by (b ∷ bs) S = bound_by bs (with_binding S b.0 b.1)

-- one of the bindings binds x
abbrev pub IsBoundIn : List (VarName × Tree) → VarName → Type 0
IsBoundIn [] x = ⊥
IsBoundIn (b ∷ bs) x = (x ≡ b.0) ⊎ IsBoundIn bs x

-- each is bound where it is unbound
abbrev pub Fresh : List (VarName × Tree) → (VarName → Option Tree) → Type 0
Fresh [] T = Unit {0}
Fresh (b ∷ bs) T = (T b.0 ≡ None) × Fresh bs (with_binding T b.0 b.1)

pub itself : (x y : VarName) → x ≡ y → eq_by_cmp name_cmp x y ≡ true
itself x y e = ap (eq_by_cmp name_cmp x) (sym e) ∙ found_itself x

pub is_bound : (x : VarName) (b : VarName × Tree) (T : VarName → Option Tree) → x ≡ b.0 → with_binding T b.0 b.1 x ≡ Some b.1
is_bound x b T e = ap (λ c. cond c (Some b.1) (T x)) (itself x b.0 e)

pub other : (x : VarName) (b : VarName × Tree) (T : VarName → Option Tree) → ¬ (x ≡ b.0) → with_binding T b.0 b.1 x ≡ T x
other x b T n = ap (λ c. cond c (Some b.1) (T x)) (apart x b.0 n)

pub is_in : (bs : List (VarName × Tree)) (x : VarName) → IsBoundIn bs x ⊎ (¬ IsBoundIn bs x)
is_in [] x = inr (λ i. i)
is_in (b ∷ bs) x = decided_either (name_decided x b.0) (is_in bs x)

pub untouched : (bs : List (VarName × Tree)) (T : VarName → Option Tree) (x : VarName) → ¬ IsBoundIn bs x → bound_by bs T x ≡ T x
untouched [] T x n = refl
untouched (b ∷ bs) T x n = untouched bs (with_binding T b.0 b.1) x (λ i. n (inr i)) ∙ other x b T (λ e. n (inl e))

-- what these bind does not hang on the store below
last_value : (bs : List (VarName × Tree)) (x : VarName) → IsBoundIn bs x → (t : Tree) × ((T : VarName → Option Tree) → bound_by bs T x ≡ Some t)
last_value [] x i = absurd i
last_value (b ∷ bs) x i = elim (is_in bs x) [
  | inl j ↦ let v = last_value bs x j in (v.0, λ T. v.1 (with_binding T b.0 b.1))
  | inr n ↦ elim i [ inl e ↦ (b.1, λ T. untouched bs (with_binding T b.0 b.1) x n ∙ is_bound x b T e) | inr j ↦ absurd (n j) ]
]

pub same_bound : (bs : List (VarName × Tree)) (T T' : VarName → Option Tree) (x : VarName) → IsBoundIn bs x → bound_by bs T x ≡ bound_by bs T' x
same_bound bs T T' x i = let v = last_value bs x i in v.1 T ∙ sym (v.1 T')

pub unbound_before : (bs : List (VarName × Tree)) (T : VarName → Option Tree) (x : VarName) → Fresh bs T → IsBoundIn bs x → T x ≡ None
unbound_before [] T x f i = absurd i
unbound_before (b ∷ bs) T x f (inl e) = ap T e ∙ f.0
unbound_before (b ∷ bs) T x f (inr i) =
    by_binding (λ o _. o ≡ None → T x ≡ None) T T b.0 b.1 x (λ _ e. cc) (λ e. e) (unbound_before bs (with_binding T b.0 b.1) x f.1 i)

pub keeps : (bs : List (VarName × Tree)) (T : VarName → Option Tree) (x : VarName) (t : Tree) → Fresh bs T → T x ≡ Some t → bound_by bs T x ≡ Some t
keeps bs T x t f e = elim (is_in bs x) [
  | inl i ↦ let clash : None ≡ Some t = sym (unbound_before bs T x f i) ∙ e in cc
  | inr n ↦ untouched bs T x n ∙ e
]

-- what the map binds, the run binds
pub map_bound : (bs : List (VarName × Tree)) (x : VarName) (t : Tree) → finite.find name_cmp x bs ≡ Some t → IsBoundIn bs x
map_bound [] x t e = let clash : None ≡ Some t = e in cc
map_bound (b ∷ bs) x t e =
    let F = λ (q : VarName). finite.find name_cmp q bs in
    by_binding (λ o _. o ≡ Some t → IsBoundIn (b ∷ bs) x) F F b.0 b.1 x (λ s _. inl s) (λ p. inr (map_bound bs x t p)) e

pub bound_each : (Q : VarName → Type 0) (bs : List (VarName × Tree)) (x : VarName) → Each bs (λ b. Q b.0) → IsBoundIn bs x → Q x
bound_each Q [] x a i = absurd i
bound_each Q (b ∷ bs) x a i = elim i [ inl e ↦ subst Q (sym e) a.0 | inr j ↦ bound_each Q bs x a.1 j ]

pub fresh_append : (bs cs : List (VarName × Tree)) (T : VarName → Option Tree) → Fresh bs T → Fresh cs (bound_by bs T) → Fresh (bs ++ cs) T
fresh_append [] cs T f g = g
fresh_append (b ∷ bs) cs T f g = (f.0, fresh_append bs cs (with_binding T b.0 b.1) f.1 g)

pub move_fresh : {S T U : VarName → Option Tree} {es fs : List (Tree × Tree)} {bs : List (VarName × Tree)} {rs : List VarName} → Move S T es U fs bs rs → Fresh bs T × (U ≡ bound_by bs T)
move_fresh (left p n o) = ((n, tt), refl)
move_fresh (right p v q n o) = ((n, tt), refl)
move_fresh m = (tt, refl)

pub moves_fresh : {S T V : VarName → Option Tree} {es gs : List (Tree × Tree)} {bs : List (VarName × Tree)} {rs : List VarName} → Moves S T es V gs bs rs → Fresh bs T
moves_fresh stay = tt
moves_fresh {T = T} (go {bs = bs} {cs = cs} m ms) = let first = move_fresh m in fresh_append bs cs T first.0 (subst (λ W. Fresh cs W) first.1 (moves_fresh ms))

pub mono : (cs : List (VarName × Tree)) (T T' : VarName → Option Tree) → ((x : VarName) (t : Tree) → T x ≡ Some t → T' x ≡ Some t) → (x : VarName) (t : Tree) → bound_by cs T x ≡ Some t → bound_by cs T' x ≡ Some t
mono cs T T' h x t e = elim (is_in cs x) [
  | inl i ↦ sym (same_bound cs T T' x i) ∙ e
  | inr n ↦ untouched cs T' x n ∙ h x t (sym (untouched cs T x n) ∙ e)
]

pub has_value : (bs : List (VarName × Tree)) (T : VarName → Option Tree) (x : VarName) → IsBoundIn bs x → (t : Tree) × (bound_by bs T x ≡ Some t)
has_value bs T x i = let v = last_value bs x i in (v.0, v.1 T)

bound_append : (bs cs : List (VarName × Tree)) (T : VarName → Option Tree) → bound_by (bs ++ cs) T ≡ bound_by cs (bound_by bs T)
bound_append [] cs T = refl
bound_append (b ∷ bs) cs T = bound_append bs cs (with_binding T b.0 b.1)

pub moves_bound : {S T V : VarName → Option Tree} {es gs : List (Tree × Tree)} {bs : List (VarName × Tree)} {rs : List VarName} → Moves S T es V gs bs rs → V ≡ bound_by bs T
moves_bound stay = refl
moves_bound {T = T} (go {bs = bs} {cs = cs} m ms) = moves_bound ms ∙ ap (bound_by cs) (move_fresh m).1 ∙ sym (bound_append bs cs T)

found : (bs : List (VarName × Tree)) (T : VarName → Option Tree) (x : VarName) → Fresh bs T → option_or (finite.find name_cmp x bs) (T x) ≡ bound_by bs T x
found [] T x f = refl
found (b ∷ bs) T x f =
    let T' = with_binding T b.0 b.1 in
    by_binding (λ o p. p ≡ T' x → option_or o (T x) ≡ bound_by bs T' x) (λ q. finite.find name_cmp q bs) T b.0 b.1 x
    (λ s _. sym (keeps bs T' x b.1 f.1 (is_bound x b T s))) (λ e. ap (option_or (finite.find name_cmp x bs)) e ∙ found bs T' x f.1) refl

-- the bindings as a map
pub bound_is : (bs : List (VarName × Tree)) (T : VarName → Option Tree) → Fresh bs T → bound_by bs T ≡ with_bindings (finite.from_entries bs) T
bound_is bs T f = by_answers (λ x. sym (ap (λ o. option_or o (T x)) (finite.get-from_entries name_total bs x) ∙ found bs T x f))
