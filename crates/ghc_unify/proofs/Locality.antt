-- A unification is the same on every store that comes from its own by taking bindings away from variables that it did not read.
use Rattle.ghc_unify.proofs.Words.{◌≡◌, true, false, cond, List, [], ◌∷◌, ◌++◌, refl, sym, ap, ◌∙◌, inl, inr, ◌⊎◌, Option, Some, None, is_some, eq_by_cmp, VarName, Tree, In, Comes, now, on, name_cmp, with_binding, leads_agree, reaches_more, In_append, In_append_right, same_name, met, Move, shared, left, right, both, Moves, stay, go, Solved, IsCutDown}

-- S is the store before and T the store by now; S' and T' lack bindings of S, but none of the variables in R
pub record Fewer (R : List VarName) (S T S' T' : VarName → Option Tree) : Type 0 where
  pub fresh : (x : VarName) → S x ≡ None → (S' x ≡ None) × (T' x ≡ T x)
  pub old : (x : VarName) (t : Tree) → S x ≡ Some t → (T x ≡ Some t) × (T' x ≡ S' x) × ((S' x ≡ Some t) ⊎ (S' x ≡ None))
  pub read : (x : VarName) → In x R → S' x ≡ S x

-- by whether a variable is bound
pub by_value : {P : Type 0} (o : Option Tree) → (o ≡ None → P) → ((t : Tree) → o ≡ Some t → P) → P
by_value None f g = f refl
by_value (Some t) f g = g t refl

-- by whether a variable is the one that two stores bind
pub by_binding : (P : Option Tree → Option Tree → Type 0) (T T' : VarName → Option Tree) (x : VarName) (t : Tree) (y : VarName)
    → (y ≡ x → P (Some t) (Some t)) → P (T y) (T' y) → P (with_binding T x t y) (with_binding T' x t y)
by_binding P T T' x t y f g =
    elim (eq_by_cmp name_cmp y x) as (λ c. eq_by_cmp name_cmp y x ≡ c → P (cond c (Some t) (T y)) (cond c (Some t) (T' y))) [
      | true ↦ λ p. f (same_name y x p)
      | false ↦ λ p. g
    ] refl

pub comes_agree : {T T' : VarName → Option Tree} {t : Tree} {xs : List VarName} {y : VarName} → Comes T t xs y → ((x : VarName) → In x xs → T' x ≡ T x) → Comes T' t xs y
comes_agree now h = now
comes_agree (on {x = x} e c) h = on (h x (inl refl) ∙ e) (comes_agree c (λ y i. h y (inr i)))

pub comes_more : {T T' : VarName → Option Tree} {t : Tree} {xs : List VarName} {y : VarName} → Comes T t xs y → ((x : VarName) (u : Tree) → T x ≡ Some u → T' x ≡ Some u) → Comes T' t xs y
comes_more now h = now
comes_more (on {x = x} {t = u} e c) h = on (h x u e) (comes_more c h)

in_met : (S : VarName → Option Tree) (a : List VarName) (x : VarName) (t : Tree) → In x a → S x ≡ Some t → In x (met S a)
in_met S [] x t i e = absurd i
in_met S (y ∷ a) x t (inl q) e = rw (ap S (sym q) ∙ e) (inl q)
in_met S (y ∷ a) x t (inr j) e =
    let i = in_met S a x t j e in
    elim (is_some (S y)) as (λ b. In x (cond b (y ∷ met S a) (met S a))) [ true ↦ inr i | false ↦ i ]

pub met_agree : (S S' : VarName → Option Tree) (a : List VarName) → ((x : VarName) → In x a → S' x ≡ S x) → met S' a ≡ met S a
met_agree S S' [] h = refl
met_agree S S' (y ∷ a) h = rw (h y (inl refl), met_agree S S' a (λ x i. h x (inr i)))

pub both_met : (S S' : VarName → Option Tree) (a b : List VarName)
    → ((x : VarName) → In x a → S' x ≡ S x) → ((x : VarName) → In x b → S' x ≡ S x) → met S' a ++ met S' b ≡ met S a ++ met S b
both_met S S' a b i j = rw (met_agree S S' a i, met_agree S S' b j)

module _ {R : List VarName} {S T S' T' : VarName → Option Tree} (f : Fewer R S T S' T') where
  fewer_sub : (x : VarName) (u : Tree) → T' x ≡ Some u → T x ≡ Some u
  fewer_sub x u e = by_value (S x) (λ n. sym (f.fresh x n).1 ∙ e) (λ t b.
      let o = f.old x t b in
      elim o.2 [ inl s ↦ cc | inr n ↦ cc ])

  -- the stores agree on what is passed and read
  passed : (a : List VarName) → ((x : VarName) → In x (met S a) → In x R) → (x : VarName) → In x a → (T' x ≡ T x) × (S' x ≡ S x)
  passed a within x i = by_value (S x) (λ n. let o = f.fresh x n in (o.1, o.0 ∙ sym n)) (λ t b.
      let o = f.old x t b in
      let same = f.read x (within x (in_met S a x t i b)) in
      (o.1 ∙ same ∙ b ∙ sym o.0, same))

  unbound : (x : VarName) → T x ≡ None → (S x ≡ None) × (T' x ≡ None)
  unbound x e = by_value (S x) (λ n. (n, (f.fresh x n).1 ∙ e)) (λ t b. let clash : None ≡ Some t = sym e ∙ (f.old x t b).0 in cc)

  -- the same new binding on top
  fewer_with : (x : VarName) (t : Tree) → T x ≡ None → Fewer R S (with_binding T x t) S' (with_binding T' x t)
  fewer_with x t e = record {
    fresh = λ y n. ((f.fresh y n).0, ap (cond (eq_by_cmp name_cmp y x) (Some t)) (f.fresh y n).1);
    old = λ y u b. by_binding (λ o p. (o ≡ Some u) × (p ≡ S' y) × ((S' y ≡ Some u) ⊎ (S' y ≡ None))) T T' x t y
        (λ s. let clash : None ≡ Some u = sym (unbound x e).0 ∙ ap S (sym s) ∙ b in cc) (f.old y u b);
    read = f.read;
  }

  local : {es fs : List (Tree × Tree)} {U : VarName → Option Tree} {bs : List (VarName × Tree)} {rs : List VarName} → Move S T es U fs bs rs → ((x : VarName) → In x rs → In x R)
      → (U' : VarName → Option Tree) × Move S' T' es U' fs bs rs × Fewer R S U S' U'
  local (shared {a = a} {b = b} p q first) within =
      let onl = passed a (λ x i. within x (In_append (met S a) (met S b) x i)) in
      let onr = passed b (λ x i. within x (In_append_right (met S a) (met S b) x i)) in
      let move = shared (comes_agree p (λ x i. (onl x i).0)) (comes_agree q (λ x i. (onr x i).0)) (λ x i c. first x i (c.0, comes_more c.1 fewer_sub)) in
      (T', rw (← both_met S S' a b (λ x i. (onl x i).1) (λ x i. (onr x i).1)) move, f)
  local (left {r = r} {a = a} {x = x} p n o) within =
      let onl = passed a within in
      let move = left (comes_agree p (λ x i. (onl x i).0)) (unbound x n).1 (λ c. o (reaches_more c fewer_sub)) in
      (with_binding T' x r, rw (← met_agree S S' a (λ x i. (onl x i).1)) move, fewer_with x r n)
  local (right {l = l} {a = a} {b = b} {y = y} p v q n o) within =
      let onl = passed a (λ x i. within x (In_append (met S a) (met S b) x i)) in
      let onr = passed b (λ x i. within x (In_append_right (met S a) (met S b) x i)) in
      let move = right (leads_agree p (λ x i. (onl x i).0)) v (comes_agree q (λ x i. (onr x i).0)) (unbound y n).1 (λ c. o (reaches_more c fewer_sub)) in
      (with_binding T' y l, rw (← both_met S S' a b (λ x i. (onl x i).1) (λ x i. (onr x i).1)) move, fewer_with y l n)
  local (both {a = a} {b = b} p q apart m) within =
      let onl = passed a (λ x i. within x (In_append (met S a) (met S b) x i)) in
      let onr = passed b (λ x i. within x (In_append_right (met S a) (met S b) x i)) in
      let move = both (leads_agree p (λ x i. (onl x i).0)) (leads_agree q (λ x i. (onr x i).0)) apart m in
      (T', rw (← both_met S S' a b (λ x i. (onl x i).1) (λ x i. (onr x i).1)) move, f)

pub all_local : {R : List VarName} {S T S' T' V : VarName → Option Tree} {es gs : List (Tree × Tree)} {bs : List (VarName × Tree)} {rs : List VarName}
    → Moves S T es V gs bs rs → Fewer R S T S' T' → ((x : VarName) → In x rs → In x R)
    → (V' : VarName → Option Tree) × Moves S' T' es V' gs bs rs
all_local {T' = T'} stay f within = (T', stay)
all_local (go {rs = rs} {qs = qs} m ms) f within =
    let first = local f m (λ x i. within x (In_append rs qs x i)) in
    let rest = all_local ms first.2 (λ x i. within x (In_append_right rs qs x i)) in
    (rest.0, go first.1 rest.1)

-- S' lacks bindings of S, but none of the variables in reads
pub locality : (S S' : VarName → Option Tree) (l r : Tree) (binds : List (VarName × Tree)) (reads : List VarName)
    → Solved S l r binds reads → IsCutDown (λ x. In x reads) S S' → Solved S' l r binds reads
locality S S' l r binds reads u w =
    all_local u.1 (record {
      fresh = λ x n. let none : S' x ≡ None = by_value (S' x) (λ e. e) (λ t e. let clash : None ≡ Some t = sym n ∙ w.less x t e in cc) in (none, none ∙ sym n);
      old = λ x t e. (e, refl, by_value (S' x) (λ n. inr n) (λ u b. inl (b ∙ sym (w.less x u b) ∙ e)));
      read = w.kept;
    }) (λ x i. i)
