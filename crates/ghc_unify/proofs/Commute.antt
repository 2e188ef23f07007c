-- Two unifications change places.
use Rattle.ghc_unify.proofs.Words.{◌≡◌, List, [], ◌∷◌, refl, sym, ◌∙◌, inl, inr, Option, Some, None, VarName, Tree, IsAcyclic, with_binding, In, Solved}
use Rattle.ghc_unify.proofs.Locality.{locality}
use Rattle.ghc_unify.proofs.Extension.{Hold, all_extend}
use Rattle.ghc_unify.proofs.Bound.{bound_by, IsBoundIn, Fresh, is_bound, is_in, untouched, same_bound, unbound_before, keeps, moves_fresh, mono, has_value}

-- what is bound, and to what
pub bound_to : (bs : List (VarName × Tree)) (T : VarName → Option Tree) → Fresh bs T → (W : VarName → Option Tree) (F : VarName → Option Tree)
    → ((x : VarName) → IsBoundIn bs x → W x ≡ None) → ((x : VarName) (t : Tree) → bound_by bs T x ≡ Some t → F x ≡ Some t) → Hold bs W F
bound_to [] T f W F w h = tt
bound_to (b ∷ bs) T f W F w h =
    (w b.0 (inl refl), h b.0 b.1 (keeps bs (with_binding T b.0 b.1) b.0 b.1 f.1 (is_bound b.0 b T refl)), bound_to bs (with_binding T b.0 b.1) f.1 W F (λ x i. w x (inr i)) h)

-- two runs, of which the later one read nothing that the earlier one bound, change places
pub commute : (S : VarName → Option Tree) (l r l' r' : Tree) (bs cs : List (VarName × Tree)) (rs qs : List VarName)
    → Solved S l r bs rs → Solved (bound_by bs S) l' r' cs qs
    → ((x : VarName) → In x qs → ¬ IsBoundIn bs x) → IsAcyclic (bound_by cs (bound_by bs S))
    → Solved S l' r' cs qs × Solved (bound_by cs S) l r bs rs × ((x : VarName) → bound_by bs (bound_by cs S) x ≡ bound_by cs (bound_by bs S) x)
commute S l r l' r' bs cs rs qs a b none acyclic =
    let A = bound_by bs S in
    let B = bound_by cs S in
    let fresh_a = moves_fresh a.1 in
    let fresh_b = moves_fresh b.1 in
    let first : Solved S l' r' cs qs = locality A S l' r' cs qs b (record { less = λ x t e. keeps bs S x t fresh_a e; kept = λ x i. sym (untouched bs S x (none x i)) }) in
    let fresh_c = moves_fresh first.1 in
    -- no variable is bound by both
    let apart_from : (x : VarName) → IsBoundIn bs x → ¬ IsBoundIn cs x = λ x i j.
    let v = has_value bs S x i in
    let none = unbound_before cs A x fresh_b j in cc in
    let second : Solved B l r bs rs = all_extend acyclic a.1 (record {
      more = λ x t e. keeps cs S x t fresh_c e;
      old = λ x t e. keeps cs S x t fresh_c e;
      new = λ x t n e. cc;
      none = λ x n m. m;
      within = mono cs S A (λ x t e. keeps bs S x t fresh_a e);
    }) (bound_to bs S fresh_a B _ (λ x i. untouched cs S x (apart_from x i) ∙ unbound_before bs S x fresh_a i) (λ x t e. keeps cs A x t fresh_b e)) in (
      first,
      second,
      λ x. elim (is_in bs x) [
        | inl i ↦ same_bound bs B S x i ∙ sym (untouched cs A x (apart_from x i))
        | inr n ↦ untouched bs B x n ∙ elim (is_in cs x) [
          | inl j ↦ same_bound cs S A x j
          | inr m ↦ untouched cs S x m ∙ sym (untouched cs A x m ∙ untouched bs S x n)
        ]
      ],
    )
