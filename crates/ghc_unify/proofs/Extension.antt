-- A unification is the same on every store that has more bindings, where these bind none of its variables and the bindings of both close no cycle.
use Rattle.ghc_unify.proofs.Words.{◌≡◌, List, [], ◌∷◌, ◌++◌, refl, sym, ap, ◌∙◌, subst, inl, inr, ◌⊎◌, Option, Some, None, VarName, Tree, variable, IsValue, In, Leads, at_integer, at_node, at_free, along, Reaches, here, through, Comes, now, on, Passes, IsAcyclic, with_binding, reaches_more, Meets, integers, nodes, Move, shared, left, right, both, Moves, stay, go}
use Rattle.ghc_unify.proofs.Locality.{comes_more, met_agree, both_met, by_binding, by_value}

-- S is the store before and T the store by now, which S+ and T+ extend; all bindings hold in F
pub record More (F S T S+ T+ : VarName → Option Tree) : Type 0 where
  pub more : (x : VarName) (t : Tree) → T x ≡ Some t → T+ x ≡ Some t
  pub old : (x : VarName) (t : Tree) → S x ≡ Some t → S+ x ≡ Some t
  pub new : (x : VarName) (t : Tree) → S x ≡ None → T x ≡ Some t → S+ x ≡ None
  pub none : (x : VarName) → T x ≡ None → S+ x ≡ None → T+ x ≡ None
  pub within : (x : VarName) (t : Tree) → T+ x ≡ Some t → F x ≡ Some t

pub leads_more : {T T' : VarName → Option Tree} {t e : Tree} {xs : List VarName} → Leads T t xs e → IsValue e → ((x : VarName) (u : Tree) → T x ≡ Some u → T' x ≡ Some u) → Leads T' t xs e
leads_more at_integer v h = at_integer
leads_more at_node v h = at_node
leads_more (at_free p) v h = absurd v
leads_more (along {x = x} {t = u} p a) v h = along (h x u p) (leads_more a v h)

pub comes_reaches : {T : VarName → Option Tree} {t : Tree} {xs : List VarName} {y : VarName} → Comes T t xs y → Reaches T t y
comes_reaches now = here refl
comes_reaches (on e c) = through refl e (comes_reaches c)

pub comes_on : {T : VarName → Option Tree} {t : Tree} {xs ys : List VarName} {x y : VarName} → Comes T t xs x → Comes T (variable x) ys y → Passes T t y
comes_on now d = (_, d)
comes_on (on {x = z} e c) d = let rest = comes_on c d in (z ∷ rest.0, on e rest.1)

-- what is passed is bound, and leads on
pub passed_on : {T : VarName → Option Tree} {t : Tree} {xs : List VarName} {x y : VarName} → Comes T t xs y → In x xs → (u : Tree) × (T x ≡ Some u) × Passes T u y
passed_on now i = absurd i
passed_on {T = T} {y = y} (on {x = z} {t = u} e c) (inl p) = (u, ap T p ∙ e, (_, c))
passed_on (on e c) (inr i) = passed_on c i

pub leads_bound : {T : VarName → Option Tree} {t e : Tree} {xs : List VarName} {x : VarName} → Leads T t xs e → IsValue e → In x xs → (u : Tree) × (T x ≡ Some u)
leads_bound (at_free p) v i = absurd v
leads_bound {T = T} (along {t = u} p a) v (inl q) = (u, ap T q ∙ p)
leads_bound (along p a) v (inr i) = leads_bound a v i
leads_bound l v i = absurd i

-- of two variables of one chain, one comes to the other
pub earlier : {T : VarName → Option Tree} {t : Tree} {xs ys : List VarName} {x y : VarName} → Comes T t xs x → Comes T t ys y → In y xs ⊎ Passes T (variable x) y
earlier now d = inr (_, d)
earlier (on e c) now = inl (inl refl)
earlier {T = T} (on {x = z} {t = u} {xs = cs} e c) (on {y = y} {t = v} {xs = bs} g d) =
    let same : v ≡ u = let a : Some v ≡ Some u = sym g ∙ e in cc in
    elim (earlier c (subst (λ w. Comes T w bs y) same d)) [ inl i ↦ inl (inr i) | inr p ↦ inr p ]

-- what a chain passes on the way is on the chain
pub before : {T : VarName → Option Tree} {t : Tree} {xs : List VarName} {x y : VarName} → Comes T t xs y → In x xs → Passes T t x
before now i = absurd i
before {T = T} {x = x} (on {x = z} e c) (inl p) = ([], subst (λ w. Comes T (variable w) [] x) p now)
before (on {x = z} e c) (inr i) = let rest = before c i in (z ∷ rest.0, on e rest.1)

pub values : {e f : Tree} {es : List (Tree × Tree)} → Meets e f es → IsValue e × IsValue f
values integers = (tt, tt)
values (nodes p) = (tt, tt)

-- the bindings hold in F, and bind variables that are unbound in S+
abbrev pub Hold : List (VarName × Tree) → (VarName → Option Tree) → (VarName → Option Tree) → Type 0
Hold [] S+ F = Unit {0}
Hold (b ∷ bs) S+ F = (S+ b.0 ≡ None) × (F b.0 ≡ Some b.1) × Hold bs S+ F

module _ {F S T S+ T+ : VarName → Option Tree} (acyclic : IsAcyclic F) (f : More F S T S+ T+) where
  kept : (x : VarName) (u : Tree) → T x ≡ Some u → S+ x ≡ S x
  kept x u e = by_value (S x) (λ n. f.new x u n e ∙ sym n) (λ t b. f.old x t b ∙ sym b)

  passed_kept : {t : Tree} {xs : List VarName} {y : VarName} → Comes T t xs y → (x : VarName) → In x xs → S+ x ≡ S x
  passed_kept c x i = let o = passed_on c i in kept x o.0 o.1

  led_kept : {t e : Tree} {xs : List VarName} → Leads T t xs e → IsValue e → (x : VarName) → In x xs → S+ x ≡ S x
  led_kept l v x i = let o = leads_bound l v i in kept x o.0 o.1

  more_with : (x : VarName) (t : Tree) → S+ x ≡ None → F x ≡ Some t → More F S (with_binding T x t) S+ (with_binding T+ x t)
  more_with x t n b = record {
    more = λ y u. by_binding (λ o p. o ≡ Some u → p ≡ Some u) T T+ x t y (λ _ e. e) (f.more y u);
    old = f.old;
    new = λ y u m. by_binding (λ o _. o ≡ Some u → S+ y ≡ None) T T+ x t y (λ s _. ap S+ s ∙ n) (f.new y u m);
    none = λ y. by_binding (λ o p. o ≡ None → S+ y ≡ None → p ≡ None) T T+ x t y (λ _ e _. e) (f.none y);
    within = λ y u. by_binding (λ _ p. p ≡ Some u → F y ≡ Some u) T T+ x t y (λ s e. ap F s ∙ b ∙ e) (f.within y u);
  }

  extend : {es fs : List (Tree × Tree)} {U : VarName → Option Tree} {bs : List (VarName × Tree)} {rs : List VarName} → Move S T es U fs bs rs
      → Hold bs S+ F → (U+ : VarName → Option Tree) × Move S+ T+ es U+ fs bs rs × More F S U S+ U+
  extend (shared {r = r} {a = a} {b = b} p q first) h =
      let still : (x : VarName) → In x a → ¬ Passes T+ r x = λ x i c. elim (earlier (comes_more q f.more) c.1) [
        | inl j ↦ first x i (before q j)
        | inr d ↦
            let o = passed_on p i in
            let round = comes_on (comes_more o.2.1 (λ y u e. f.within y u (f.more y u e))) (comes_more d.1 f.within) in
            acyclic x o.0 (f.within x o.0 (f.more x o.0 o.1)) (comes_reaches round.1)
      ] in
      (T+, rw (← both_met S S+ a b (passed_kept p) (passed_kept q)) (shared (comes_more p f.more) (comes_more q f.more) still), f)
  extend (left {r = r} {a = a} {x = x} p n o) h =
      let move = left (comes_more p f.more) (f.none x n h.0) (λ c. acyclic x r h.1 (reaches_more c f.within)) in
      (with_binding T+ x r, rw (← met_agree S S+ a (passed_kept p)) move, more_with x r h.0 h.1)
  extend (right {l = l} {a = a} {b = b} {y = y} p v q n o) h =
      let move = right (leads_more p v f.more) v (comes_more q f.more) (f.none y n h.0) (λ c. acyclic y l h.1 (reaches_more c f.within)) in
      (with_binding T+ y l, rw (← both_met S S+ a b (led_kept p v) (passed_kept q)) move, more_with y l h.0 h.1)
  extend (both {a = a} {b = b} p q apart m) h =
      let v = values m in
      (T+, rw (← both_met S S+ a b (led_kept p v.0) (led_kept q v.1)) (both (leads_more p v.0 f.more) (leads_more q v.1 f.more) apart m), f)

Hold_left : (bs cs : List (VarName × Tree)) (S F : VarName → Option Tree) → Hold (bs ++ cs) S F → Hold bs S F × Hold cs S F
Hold_left [] cs S F h = (tt, h)
Hold_left (b ∷ bs) cs S F h = let rest = Hold_left bs cs S F h.2 in ((h.0, h.1, rest.0), rest.1)

pub all_extend : {F S T S+ T+ V : VarName → Option Tree} {es gs : List (Tree × Tree)} {bs : List (VarName × Tree)} {rs : List VarName} → IsAcyclic F
    → Moves S T es V gs bs rs → More F S T S+ T+ → Hold bs S+ F → (V+ : VarName → Option Tree) × Moves S+ T+ es V+ gs bs rs
all_extend {T+ = T+} acyclic stay f h = (T+, stay)
all_extend {F = F} {S+ = S+} acyclic (go {bs = bs} {cs = cs} m ms) f h =
    let split = Hold_left bs cs S+ F h in
    let first = extend acyclic f m split.0 in
    let rest = all_extend acyclic ms first.2 split.1 in
    (rest.0, go first.1 rest.1)
