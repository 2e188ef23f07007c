-- In an acyclic store at most one move is possible, and none where an equation clashes or closes a cycle.
use Rattle.ghc_unify.proofs.Words.{◌≡◌, List, [], ◌∷◌, ◌++◌, refl, sym, ap, ◌∙◌, subst, inl, inr, Option, Some, None, VarName, Tree, Trees, IsValue, In, Leads, Reaches, Comes, now, on, Passes, IsAcyclic, with_binding, leads_once, Pairs, no_more, one_more, Meets, integers, nodes, met, Move, shared, left, right, both, Moves, stay, go, IsClash, IsCycle, Solved, Clashes, Cycles}
use Rattle.ghc_unify.proofs.Extension.{comes_reaches, comes_on, passed_on, earlier, values}
use Rattle.ghc_unify.proofs.Partings.{on_chain}
use Rattle.ghc_unify.proofs.SolutionLemmas.{value_end}
use Rattle.ghc_unify.proofs.Acyclic.{move_acyclic}

-- the first variable of which Q holds on a chain
first_once : {T : VarName → Option Tree} {t : Tree} {a b : List VarName} {x y : VarName} (Q : VarName → Type 0) → Comes T t a x → Q x → ((z : VarName) → In z a → ¬ Q z)
    → Comes T t b y → Q y → ((z : VarName) → In z b → ¬ Q z) → (a ≡ b) × (x ≡ y)
first_once Q now q f now p g = (refl, refl)
first_once Q (now {x = x}) q f (on e d) p g = absurd (g x (inl refl) q)
first_once Q (on {x = x} e c) q f now p g = absurd (f x (inl refl) p)
first_once {T = T} Q (on {x = z} {t = u} {xs = a} e c) q f (on {y = y} {t = v} {xs = b} h d) p g =
    let same : v ≡ u = let s : Some v ≡ Some u = sym h ∙ e in cc in
    let rest = first_once Q c q (λ w i. f w (inr i)) (subst (λ w. Comes T w b y) same d) p (λ w i. g w (inr i)) in
    (ap (λ l. z ∷ l) rest.0, rest.1)

-- what a chain passes is bound
passed_bound : {T : VarName → Option Tree} {t : Tree} {xs : List VarName} {x y : VarName} → Comes T t xs y → In x xs → T x ≡ None → ⊥
passed_bound c i n = let o = passed_on c i in let clash : None ≡ Some o.0 = sym n ∙ o.1 in cc

-- the same chain, up to its unbound end
pub comes_end : {T : VarName → Option Tree} {t : Tree} {a b : List VarName} {x y : VarName} → Comes T t a x → T x ≡ None → Comes T t b y → T y ≡ None → (a ≡ b) × (x ≡ y)
comes_end {T = T} c n d m = first_once (λ z. T z ≡ None) c n (λ z i. passed_bound c i) d m (λ z i. passed_bound d i)

-- in an acyclic store a chain comes to a variable once
not_again : {T : VarName → Option Tree} {t : Tree} {a : List VarName} {x : VarName} → IsAcyclic T → Comes T t a x → (z : VarName) → In z a → ¬ (z ≡ x)
not_again {T = T} h c z i e = let o = passed_on c i in h z o.0 o.1 (subst (Reaches T o.0) (sym e) (comes_reaches o.2.1))

pairs_once : {ts us : Trees} {es fs : List (Tree × Tree)} → Pairs ts us es → Pairs ts us fs → es ≡ fs
pairs_once no_more no_more = refl
pairs_once (one_more {t = t} {u = u} p) (one_more q) = ap (λ l. (t, u) ∷ l) (pairs_once p q)

meets_once : {e f e' f' : Tree} {es fs : List (Tree × Tree)} → Meets e f es → Meets e' f' fs → e ≡ e' → f ≡ f' → es ≡ fs
meets_once integers integers p q = refl
meets_once (nodes {us = us} m) (nodes {ts = vs} {es = fs} n) p q = pairs_once m (subst (λ v. Pairs v us fs) (cc) (subst (λ w. Pairs vs w fs) (cc) n))
meets_once m n p q = cc

-- of a variable on both chains: the unbound end of the one is the other's
joined : {T : VarName → Option Tree} {l r : Tree} {a b c : List VarName} {m x : VarName} → Comes T l a m → Comes T r b m → Comes T l c x → T x ≡ None → Passes T r x
joined p q d n = elim (earlier p d) [ inl i ↦ absurd (passed_bound p i n) | inr s ↦ comes_on q s.1 ]

shared_left : {T : VarName → Option Tree} {l r : Tree} {a b c : List VarName} {m x : VarName} → Comes T l a m → Comes T r b m → Comes T l c x → T x ≡ None → ¬ Reaches T r x → ⊥
shared_left p q d n o = o (comes_reaches (joined p q d n).1)

shared_right : {T : VarName → Option Tree} {l r e : Tree} {a b c d : List VarName} {m y : VarName} → Comes T l a m → Comes T r b m → Leads T l c e → IsValue e → Comes T r d y → T y ≡ None → ⊥
shared_right p q k v g n = value_end k v n (joined q p g n)

shared_both : {T : VarName → Option Tree} {l r e f : Tree} {a b c d : List VarName} {m : VarName} → Comes T l a m → Comes T r b m → Leads T l c e → Leads T r d f → IsValue e → IsValue f
    → ((x : VarName) → In x c → ¬ In x d) → ⊥
shared_both {m = m} p q k h v w apart = apart m (on_chain k p) (on_chain h q)

left_value : {T : VarName → Option Tree} {l e : Tree} {a c : List VarName} {x : VarName} → Comes T l a x → T x ≡ None → Leads T l c e → IsValue e → ⊥
left_value {a = a} p n k v = value_end k v n (a, p)

abbrev Same : (VarName → Option Tree) → List (Tree × Tree) → List (VarName × Tree) → List VarName → (VarName → Option Tree) → List (Tree × Tree) → List (VarName × Tree) → List VarName → Type 0
Same U fs bs rs V gs cs qs = (U ≡ V) × (fs ≡ gs) × (bs ≡ cs) × (rs ≡ qs)

-- one move is possible at most
step_once : {S T U : VarName → Option Tree} {es fs : List (Tree × Tree)} {bs : List (VarName × Tree)} {rs : List VarName} → IsAcyclic T → Move S T es U fs bs rs
    → {V : VarName → Option Tree} {gs : List (Tree × Tree)} {cs : List (VarName × Tree)} {qs : List VarName} → Move S T es V gs cs qs
    → Same U fs bs rs V gs cs qs
step_once {S = S} {T = T} h (shared {r = r} {a = a} {b = b} {m = m} p q f) (shared {a = c} {b = d} k g i) =
    let one = first_once (λ x. Passes T r x) p (b, q) f k (d, g) i in
    let two = first_once (λ x. x ≡ m) q refl (not_again h q) g (sym one.1) (λ x j e. not_again h g x j (e ∙ one.1)) in
    (refl, refl, refl, ap (λ x. met S x ++ met S b) one.0 ∙ ap (λ x. met S c ++ met S x) two.0)
step_once h (shared p q f) (left k n o) = absurd (shared_left p q k n o)
step_once h (shared p q f) (right k v g n o) = absurd (shared_right p q k v g n)
step_once h (shared p q f) (both k g apart m) = let v = values m in absurd (shared_both p q k g v.0 v.1 apart)
step_once h (left p n o) (shared k g i) = absurd (shared_left k g p n o)
step_once {S = S} {T = T} h (left {r = r} p n o) (left q m i) =
    let one = comes_end p n q m in
    (ap (λ x. with_binding T x r) one.1, refl, ap (λ x. (x, r) ∷ []) one.1, ap (met S) one.0)
step_once h (left p n o) (right k v g m i) = absurd (left_value p n k v)
step_once h (left p n o) (both k g apart m) = absurd (left_value p n k (values m).0)
step_once h (right k v g n o) (shared p q f) = absurd (shared_right p q k v g n)
step_once h (right k v g n o) (left p m i) = absurd (left_value p m k v)
step_once {S = S} {T = T} h (right {l = l} {b = b} k v g n o) (right {a = c} p w q m i) =
    let one = leads_once k p in
    let two = comes_end g n q m in
    (ap (λ x. with_binding T x l) two.1, refl, ap (λ x. (x, l) ∷ []) two.1, ap (λ x. met S x ++ met S b) one.0 ∙ ap (λ x. met S c ++ met S x) two.0)
step_once h (right k v g n o) (both p q apart m) = absurd (left_value g n q (values m).1)
step_once h (both k g apart m) (shared p q f) = let v = values m in absurd (shared_both p q k g v.0 v.1 apart)
step_once h (both k g apart m) (left p n o) = absurd (left_value p n k (values m).0)
step_once h (both p q apart m) (right k v g n o) = absurd (left_value g n q (values m).1)
step_once {S = S} h (both {b = b} {es = es} p q apart m) (both {a = c} k g away i) =
    let one = leads_once p k in
    let two = leads_once q g in
    (refl, ap (λ x. x ++ es) (meets_once m i one.1 two.1), refl, ap (λ x. met S x ++ met S b) one.0 ∙ ap (λ x. met S c ++ met S x) two.0)

-- no move is possible from the equations
abbrev Stuck : (VarName → Option Tree) → (VarName → Option Tree) → List (Tree × Tree) → Type 0
Stuck S T es = (U : VarName → Option Tree) (fs : List (Tree × Tree)) (bs : List (VarName × Tree)) (rs : List VarName) → ¬ Move S T es U fs bs rs

done : (S T : VarName → Option Tree) → Stuck S T []
done S T U fs bs rs m = elim m [ ]

clashed : (S T : VarName → Option Tree) (l r : Tree) (es : List (Tree × Tree)) → IsClash T l r → Stuck S T ((l, r) ∷ es)
clashed S T l r es c U fs bs rs (shared p q f) = shared_both p q c.4 c.5 c.6 c.7 c.8
clashed S T l r es c U fs bs rs (left p n o) = left_value p n c.4 c.6
clashed S T l r es c U fs bs rs (right k v g n o) = left_value g n c.5 c.7
clashed S T l r es c U fs bs rs (both {new = new} p q apart m) = c.9 new (subst (λ e. Meets e c.3 new) (leads_once p c.4).1 (subst (λ f. Meets _ f new) (leads_once q c.5).1 m))

cycled : (S T : VarName → Option Tree) (l r : Tree) (es : List (Tree × Tree)) → IsCycle T l r → Stuck S T ((l, r) ∷ es)
cycled S T l r es (inl c) U fs bs rs (shared p q f) = c.4 (joined p q c.2 c.3)
cycled S T l r es (inl c) U fs bs rs (left p n o) = o (subst (λ x. Reaches T r x) (comes_end c.2 c.3 p n).1 c.5)
cycled S T l r es (inl c) U fs bs rs (right k v g n o) = left_value c.2 c.3 k v
cycled S T l r es (inl c) U fs bs rs (both p q apart m) = left_value c.2 c.3 p (values m).0
cycled S T l r es (inr c) U fs bs rs (shared p q f) = shared_right p q c.4 c.5 c.6 c.7
cycled S T l r es (inr c) U fs bs rs (left p n o) = left_value p n c.4 c.5
cycled S T l r es (inr c) U fs bs rs (right k v g n o) = o (subst (λ x. Reaches T l x) (comes_end c.6 c.7 g n).1 c.8)
cycled S T l r es (inr c) U fs bs rs (both p q apart m) = left_value c.6 c.7 q (values m).1

-- a clash is no cycle
pub not_both : (T : VarName → Option Tree) (l r : Tree) → IsClash T l r → ¬ IsCycle T l r
not_both T l r c (inl d) = left_value d.2 d.3 c.4 c.6
not_both T l r c (inr d) = left_value d.6 d.7 c.5 c.7

-- runs to a place from which no move is possible are one
runs_once : {S T U V : VarName → Option Tree} {es fs gs : List (Tree × Tree)} {bs cs : List (VarName × Tree)} {rs qs : List VarName} → IsAcyclic T
    → Moves S T es U fs bs rs → Stuck S U fs → Moves S T es V gs cs qs → Stuck S V gs → Same U fs bs rs V gs cs qs
runs_once h stay s stay t = (refl, refl, refl, refl)
runs_once h stay s (go m ms) t = absurd (s _ _ _ _ m)
runs_once h (go m ms) s stay t = absurd (t _ _ _ _ m)
runs_once h (go {cs = cs} {qs = qs} m ms) s (go {bs = ds} {rs = us} n ns) t =
    let one = step_once h m n in
    let rest = runs_once (move_acyclic m h) ms s (rw (← one.0, ← one.1) at ns) t in
    (rest.0, rest.1, ap (λ x. x ++ cs) one.2 ∙ ap (λ x. ds ++ x) rest.2, ap (λ x. x ++ qs) one.3 ∙ ap (λ x. us ++ x) rest.3)

-- a solved run and its end
pub solved_once : {S : VarName → Option Tree} {l r : Tree} {bs cs : List (VarName × Tree)} {rs qs : List VarName} → IsAcyclic S → Solved S l r bs rs → Solved S l r cs qs → (bs ≡ cs) × (rs ≡ qs)
solved_once {S = S} h u v = let o = runs_once h u.1 (done S u.0) v.1 (done S v.0) in (o.2, o.3)

-- a solved run does not come to an equation that is stuck
solved_not : {S T : VarName → Option Tree} {l r : Tree} {e : Tree × Tree} {es : List (Tree × Tree)} {bs cs : List (VarName × Tree)} {rs qs : List VarName} → IsAcyclic S → Solved S l r bs rs
    → Moves S S ((l, r) ∷ []) T (e ∷ es) cs qs → Stuck S T (e ∷ es) → ⊥
solved_not {S = S} h u m s = let o = runs_once h u.1 (done S u.0) m s in cc

pub solved_no_clash : {S : VarName → Option Tree} {l r : Tree} {bs : List (VarName × Tree)} {rs : List VarName} → IsAcyclic S → Solved S l r bs rs → ¬ Clashes S l r
solved_no_clash {S = S} h u c = solved_not h u c.6 (clashed S c.0 c.1 c.2 c.3 c.7)

pub solved_no_cycle : {S : VarName → Option Tree} {l r : Tree} {bs : List (VarName × Tree)} {rs : List VarName} → IsAcyclic S → Solved S l r bs rs → ¬ Cycles S l r
solved_no_cycle {S = S} h u c = solved_not h u c.6 (cycled S c.0 c.1 c.2 c.3 c.7)

pub clash_no_cycle : {S : VarName → Option Tree} {l r : Tree} → IsAcyclic S → Clashes S l r → ¬ Cycles S l r
clash_no_cycle {S = S} h c d =
    let o = runs_once h c.6 (clashed S c.0 c.1 c.2 c.3 c.7) d.6 (cycled S d.0 d.1 d.2 d.3 d.7) in
    let same : (c.1, c.2) ≡ (d.1, d.2) = cc in
    not_both d.0 d.1 d.2 (subst (λ T. IsClash T d.1 d.2) o.0 (subst (λ (e : Tree × Tree). IsClash c.0 e.0 e.1) same c.7)) d.7
