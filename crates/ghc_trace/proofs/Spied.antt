-- The order of predicates, and predicates as keys of a table.
use Rattle.ghc_trace.proofs.Words.{◌≡◌, Bool, ◌&&◌, ap, ◌∙◌, nat_eq, nat_cmp, eq_by_cmp, is_eq, IsTotalOrder, nat_cmp_total, tied_then, slice_cmp, nat_list_cmp_total, texts_ties, IsAntisymmetric, nat_cmp-IsAntisymmetric, slice_cmp-IsAntisymmetric, then_total, on_total, tie, is_same_key, Predicate, predicate_cmp}
use Rattle.ghc_term.proofs.Names.{both}

pub predicate_total : IsTotalOrder predicate_cmp
predicate_total = then_total (on_total (λ (p : Predicate). p.name) nat_list_cmp_total) (on_total (λ (p : Predicate). p.arity) nat_cmp_total)

pub predicate_antisymmetric : IsAntisymmetric predicate_cmp
predicate_antisymmetric p q e =
    let parts = both (slice_cmp nat_cmp p.name q.name) (nat_cmp p.arity q.arity) e in
    let names : p.name ≡ q.name = slice_cmp-IsAntisymmetric nat_cmp-IsAntisymmetric p.name q.name parts.0 in
    let arities : p.arity ≡ q.arity = nat_cmp-IsAntisymmetric p.arity q.arity parts.1 in
    λ i. record { name = names i; arity = arities i }

-- Equality of predicates, as the code has it.
abbrev pub same : Predicate → Predicate → Bool
same p q = is_same_key q.name q.arity (p.name, p.arity)

pub same_is : (p q : Predicate) → same p q ≡ eq_by_cmp predicate_cmp p q
same_is p q =
    ap (λ b. b && nat_eq p.arity q.arity) (texts_ties p.name q.name) ∙ ap (λ b. is_eq (slice_cmp nat_cmp p.name q.name) && b) (tie p.arity q.arity)
    ∙ tied_then (slice_cmp nat_cmp p.name q.name) (nat_cmp p.arity q.arity)
