-- The moves that bind nothing make the equations smaller.
use Rattle.ghc_unify.proofs.Words.{◌≡◌, ℕ, ◌+◌, ◌<◌, List, [], ◌∷◌, ◌++◌, sym, subst, arith, append_assoc, Option, VarName, Tree, Trees, StoreValue, value_at, IsAcyclic, Leads, size_positive, size, size_all, size_end, Pairs, no_more, one_more, Meets, integers, nodes, Move, shared, both, Moves, stay, go}

-- how large the equations are
abbrev pub weights : StoreValue → List (Tree × Tree) → ℕ
weights s [] = 0
weights s (e ∷ es) = size s e.0 + size s e.1 + weights s es

weights_append : (s : StoreValue) (es fs : List (Tree × Tree)) → weights s (es ++ fs) ≡ weights s es + weights s fs
weights_append s [] fs = omega arith
weights_append s (e ∷ es) fs = let r = weights_append s es fs in omega (arith, r)

pairs_weight : (s : StoreValue) {ts us : Trees} {es : List (Tree × Tree)} → Pairs ts us es → weights s es ≡ size_all s ts + size_all s us
pairs_weight s no_more = omega arith
pairs_weight s (one_more p) = let r = pairs_weight s p in omega (arith, r)

meets_weight : (s : StoreValue) {e f : Tree} {es : List (Tree × Tree)} → Meets e f es → weights s es < size s e + size s f
meets_weight s integers = omega arith
meets_weight s (nodes p) = let r = pairs_weight s p in omega (arith, r)

pub move_lighter : {S T U : VarName → Option Tree} {es fs : List (Tree × Tree)} {bs : List (VarName × Tree)} {rs : List VarName} → Move S T es U fs bs rs
    → bs ≡ [] → (s : StoreValue) → value_at s ≡ T → IsAcyclic (value_at s) → weights s fs < weights s es
move_lighter (shared {l = l} {r = r} p q n) e s is h = omega (arith, size_positive s l)
move_lighter (both {l = l} {r = r} {e = e} {f = f} {a = a} {b = b} {es = es} {new = new} p q apart m) none_bound s is h =
    let k = size_end s h (subst (λ V. Leads V l a e) (sym is) p) in
    let g = size_end s h (subst (λ V. Leads V r b f) (sym is) q) in
    omega (arith, k, g, weights_append s new es, meets_weight s m)
move_lighter m e s is h = cc

-- one move more
pub one_more_move : {S T U V : VarName → Option Tree} {es fs gs : List (Tree × Tree)} {bs cs : List (VarName × Tree)} {rs qs : List VarName} → Moves S T es U fs bs rs → Moves S U fs V gs cs qs → Moves S T es V gs (bs ++ cs) (rs ++ qs)
one_more_move stay n = n
one_more_move (go m ms) n = simp append_assoc (go m (one_more_move ms n))
