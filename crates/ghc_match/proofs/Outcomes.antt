-- The outcomes of a clause.
use Rattle.ghc_match.proofs.Words.{◌≡◌, List, refl, sym, ap, ◌∙◌, inl, inr, Option, VarName, Tree, one_set, set_of, one_map, Clause, StandsFor, HeadFits, GuardSaysNo, Refuses, WaitsFor, Accepts, LooksAt, refuses, waits, accepts, OutcomesExclude, OutcomeIsOfWhatIsLookedAt}
use Rattle.ghc_match.proofs.LooksAt.{stands_there, stands_back, looks_there, looks_back, mismatch_there, head_wants_there, wants_there, holds_there}

module _ (c : Clause) (ts : List Tree) (S : VarName → Option Tree) where
  pub refuses_waits : Refuses c ts S → (x : VarName) → ¬ WaitsFor c ts S x
  refuses_waits (inl m) x (inl w) = w.0 m
  refuses_waits (inl m) x (inr w) = w.0.0 m
  refuses_waits (inr r) x (inl w) = r.0.1 x w.1
  refuses_waits (inr r) x (inr w) = w.1 r.1

  pub accepts_refuses : Accepts c ts S → ¬ Refuses c ts S
  accepts_refuses a (inl m) = a.0.0 m
  accepts_refuses a (inr r) = let n = r.1 in n.2.1 (a.1 n.0 n.1).1

  pub accepts_waits : Accepts c ts S → (x : VarName) → ¬ WaitsFor c ts S x
  accepts_waits a x (inl w) = a.0.1 x w.1
  accepts_waits a x (inr w) = let g = w.2 in (a.1 g.0 g.1).0 x g.2

pub outcomes_exclude : OutcomesExclude
outcomes_exclude c ts S refuses refuses p q = refl
outcomes_exclude c ts S refuses (waits xs) p q = absurd (refuses_waits c ts S p q.1.0 q.1.1)
outcomes_exclude c ts S refuses (accepts m s) p q = absurd (accepts_refuses c ts S q.0 p)
outcomes_exclude c ts S (waits xs) refuses p q = absurd (refuses_waits c ts S q p.1.0 p.1.1)
outcomes_exclude c ts S (waits xs) (waits ys) p q = ap waits (one_set xs ys (WaitsFor c ts S) (WaitsFor c ts S) p.0 q.0 (λ x w. w) (λ x w. w))
outcomes_exclude c ts S (waits xs) (accepts m s) p q = absurd (accepts_waits c ts S q.0 p.1.0 p.1.1)
outcomes_exclude c ts S (accepts m s) refuses p q = absurd (accepts_refuses c ts S p.0 q)
outcomes_exclude c ts S (accepts m s) (waits xs) p q = absurd (accepts_waits c ts S p.0 q.1.0 q.1.1)
outcomes_exclude c ts S (accepts m s) (accepts n t) p q =
    ap (λ z. accepts z s) (one_map m n (StandsFor c ts S) p.1 q.1) ∙ ap (accepts n) (one_set s t (LooksAt c ts S) (LooksAt c ts S) p.2 q.2 (λ x l. l) (λ x l. l))

module _ (c : Clause) (ts : List Tree) (S S' : VarName → Option Tree) (h : (x : VarName) → LooksAt c ts S x → S' x ≡ S x) where
  back : (x : VarName) → LooksAt c ts S' x → S x ≡ S' x
  back x l = sym (h x (looks_back c ts S S' h x l))

  says_no_there : GuardSaysNo c ts S → GuardSaysNo c ts S'
  says_no_there n = (n.0, n.1, (λ x w. n.2.0 x (wants_there c ts S' S back n.0 n.1 x w), λ t. n.2.1 (holds_there c ts S' S back n.0 n.1 t)))

  fits_there : HeadFits c ts S → HeadFits c ts S'
  fits_there f = (λ m. f.0 (mismatch_there c ts S' S back m), λ x w. f.1 x (head_wants_there c ts S' S back x w))

module _ (c : Clause) (ts : List Tree) (S S' : VarName → Option Tree) (h : (x : VarName) → LooksAt c ts S x → S' x ≡ S x) where
  pub refuses_there : Refuses c ts S → Refuses c ts S'
  refuses_there (inl m) = inl (mismatch_there c ts S S' h m)
  refuses_there (inr r) = inr (fits_there c ts S S' h r.0, says_no_there c ts S S' h r.1)

  pub waits_there : (x : VarName) → WaitsFor c ts S x → WaitsFor c ts S' x
  waits_there x (inl w) = inl (λ m. w.0 (mismatch_there c ts S' S (back c ts S S' h) m), head_wants_there c ts S S' h x w.1)
  waits_there x (inr w) =
      let g = w.2 in
      inr (fits_there c ts S S' h w.0, (λ n. w.1 (says_no_there c ts S' S (back c ts S S' h) n)), (g.0, g.1, wants_there c ts S S' h g.0 g.1 x g.2))

  pub accepts_there : Accepts c ts S → Accepts c ts S'
  accepts_there a = (
    fits_there c ts S S' h a.0,
    λ g ig. let y = a.1 g ig in ((λ x w. y.0 x (wants_there c ts S' S (back c ts S S' h) g ig x w)), holds_there c ts S S' h g ig y.1),
  )

pub outcome_there : OutcomeIsOfWhatIsLookedAt
outcome_there c ts S S' refuses o h = refuses_there c ts S S' h o
outcome_there c ts S S' (waits xs) o h = (
  set_of xs (WaitsFor c ts S) (WaitsFor c ts S') (waits_there c ts S S' h) (waits_there c ts S' S (back c ts S S' h)) o.0,
  (o.1.0, waits_there c ts S S' h o.1.0 o.1.1),
)
outcome_there c ts S S' (accepts m s) o h = (
  accepts_there c ts S S' h o.0,
  (λ y t. (λ e. stands_there c ts S S' h y t ((o.1 y t).0 e), λ d. (o.1 y t).1 (stands_back c ts S S' h y t d))),
  set_of s (LooksAt c ts S) (LooksAt c ts S') (looks_there c ts S S' h) (looks_back c ts S S' h) o.2,
)
