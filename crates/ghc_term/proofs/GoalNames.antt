-- The order of goal names.
use Rattle.ghc_term.proofs.Words.{◌≡◌, ◌≢◌, Bool, true, false, false_from_ne_true, ◌&&◌, sym, ap, ◌∙◌, nat_eq, Equal, nat_cmp, eq_by_cmp, is_eq, IsTotalOrder, ranked, nat_cmp_total, tied_then, eq_by_cmp_equiv, IsAntisymmetric, then_total, on_total, tells_apart, GoalName, goal_cmp}
pub use Rattle.ghc_term.proofs.Names.{both}
use Rattle.ghc_term.proofs.Entries.{tie}

pub goal_total : IsTotalOrder goal_cmp
goal_total = then_total (on_total (λ (g : GoalName). g.step) nat_cmp_total) (on_total (λ (g : GoalName). g.place) nat_cmp_total)

pub goal_antisymmetric : IsAntisymmetric goal_cmp
goal_antisymmetric g h e =
    let p = both (nat_cmp g.step h.step) (nat_cmp g.place h.place) e in
    let steps : g.step ≡ h.step = ranked g.step h.step Equal (sym p.0) in
    let places : g.place ≡ h.place = ranked g.place h.place Equal (sym p.1) in
    λ i. record { step = steps i; place = places i }

-- names of the same parts are one
pub same_parts : (g h : GoalName) → g.step ≡ h.step → g.place ≡ h.place → g ≡ h
same_parts g h p q i = record { step = p i; place = q i }

-- the test of names tells whether they are one
pub same_goal : (g h : GoalName) → eq_by_cmp goal_cmp g h ≡ true → g ≡ h
same_goal = tells_apart goal_antisymmetric

-- Equality of goal names, as the code has it.
abbrev pub same : GoalName → GoalName → Bool
same g h = nat_eq g.step h.step && nat_eq g.place h.place

pub same_is : (g h : GoalName) → same g h ≡ eq_by_cmp goal_cmp g h
same_is g h = ap (λ b. b && nat_eq g.place h.place) (tie g.step h.step) ∙ ap (λ b. is_eq (nat_cmp g.step h.step) && b) (tie g.place h.place) ∙ tied_then (nat_cmp g.step h.step) (nat_cmp g.place h.place)

pub itself : (g : GoalName) → eq_by_cmp goal_cmp g g ≡ true
itself = (eq_by_cmp_equiv goal_total).refl

pub apart : (g h : GoalName) → g ≢ h → eq_by_cmp goal_cmp g h ≡ false
apart g h n = false_from_ne_true _ (λ e. n (same_goal g h e))
