-- A part of a store is cut out: what terms reach in it is there.
use Rattle.ghc_core.proofs.Words.{ℕ, ◌≡◌, ◌⊎◌, ◌++◌, List, [], ◌∷◌, inl, inr, refl, sym, ap, ◌∙◌, subst, Option, Some, None, VarName, Tree, In, in_left, in_more, in_right, Picks, picks_has}
use Rattle.std.specs.Prelude.{◌≢◌, true, false, cond, is_some, option_copied}
use Rattle.std.specs.Borrow.{Bor}
use Rattle.std.specs.Ordering.{eq_by_cmp}
use Rattle.ghc_term.proofs.Total.{same_name}
use Rattle.ghc_term.proofs.Names.{itself}
use Rattle.ghc_term.specs.Tree.{variable, node, trees, Occurs, OccursIn, IsClosed}
use Rattle.ghc_term.specs.declared.view.TermView.{TermView}
use Rattle.ghc_term.specs.declared.view.TermView.TheVariants.{Var, Struct}
use Rattle.ghc_term.specs.inner.Shown.{shown}
use Rattle.ghc_term.specs.Bindings.{Reaches, here, through, with_binding, name_cmp}
use Rattle.ghc_core.specs.inner.CutOut.{IsCutOut, IsToldOrWaits, IsCuttingOut, OpenOnesWait, TakesOver, has_it, is_unbound, takes}

-- what M tells as S does, M' tells so too, which has what M has and nothing that S has not
told_on : {s m m' : Option Tree} → s ≡ m → ((u : Tree) → m ≡ Some u → m' ≡ Some u) → ((u : Tree) → m' ≡ Some u → s ≡ Some u) → s ≡ m'
told_on {m' = Some u} e more from = from u refl
told_on {m = None} {m' = None} e more from = e
told_on {m = Some u} {m' = None} e more from = let clash : None ≡ Some u = more u refl in cc

told_now : (S M : VarName → Option Tree) (x : VarName) → IsToldOrWaits S M [] x → S x ≡ M x
told_now S M x (inl e) = e
told_now S M x (inr w) = absurd w.1

-- a variable of a node stands in one of its arguments
occurs_among : (us : List Tree) (x : VarName) → OccursIn x (trees us) → (u : Tree) × In u us × Occurs x u
occurs_among [] x o = absurd o
occurs_among (u ∷ us) x (inl o) = (u, inl refl, o)
occurs_among (u ∷ us) x (inr o) = let p = occurs_among us x o in (p.0, inr p.1, p.2)

-- what is lent neither as a variable nor as a structure is closed
lent_closed : (v : TermView) → ((x : VarName) → v ≢ Var x) → ((f : Bor (List ℕ)) (us : Bor (List Tree)) → v ≢ Struct f us) → IsClosed (shown v)
lent_closed (Var y) n m x o = n y refl
lent_closed (Struct f us) n m x o = m f us refl
lent_closed _ n m x o = o

pub seen_closed : (v : TermView) (t : Tree) → shown v ≡ t → ((x : VarName) → v ≢ Var x) → ((f : Bor (List ℕ)) (us : Bor (List Tree)) → v ≢ Struct f us) → IsClosed t
seen_closed v t e n m = subst IsClosed e (lent_closed v n m)

-- what a look-up tells
pub is_bound : {S M : VarName → Option Tree} {x : VarName} {ws : List Tree} (o : Option (Bor Tree)) → option_copied o ≡ M x → is_some o ≡ true → TakesOver S x M M ws ws
is_bound (Some b) e t = has_it (sym e)
is_bound None e t = absurd (let clash : false ≡ true = t in cc)

pub not_bound : {m : Option Tree} (o : Option (Bor Tree)) → option_copied o ≡ m → is_some o ≡ false → m ≡ None
not_bound (Some b) e t = absurd (let clash : true ≡ false = t in cc)
not_bound None e t = sym e

-- a term in which a variable stands is among the open ones
stands_open : (ts us : List Tree) (t : Tree) (x : VarName) → Picks (λ v. ¬ IsClosed v) ts us → In t ts → Occurs x t → In t us
stands_open ts us t x open_ones i o = elim (picks_has ts us t open_ones i) [ inl j ↦ j | inr shut ↦ absurd (shut (λ c. c x o)) ]

module _ {S M : VarName → Option Tree} {ts : List Tree} where
  -- at the beginning the open ones of the terms wait, and nothing is taken over
  pub cut_begins : (us : List Tree) → Picks (λ t. ¬ IsClosed t) ts us → ((x : VarName) → M x ≡ None) → IsCuttingOut S M ts us
  cut_begins us open_ones none = record {
    within = λ x u e. absurd (let clash : None ≡ Some u = sym (none x) ∙ e in cc);
    terms = λ t x i o. inr (t, stands_open ts us t x open_ones i o, o);
    values = λ y u x e o. absurd (let clash : None ≡ Some u = sym (none y) ∙ e in cc);
  }

  value_told : IsCuttingOut S M ts [] → {y x : VarName} {u : Tree} → M y ≡ Some u → Reaches M u x → S x ≡ M x
  value_told c {y} {x} {u} e (here o) = told_now S M x (c.values y u x e o)
  value_told c e (through o d r) = value_told c d r

  -- where nothing waits any more, the part is cut out
  pub cut_ends : IsCuttingOut S M ts [] → IsCutOut S M ts
  cut_ends c t x i (here o) = told_now S M x (c.terms t x i o)
  cut_ends c t x i (through o d r) = value_told c d r

-- The last term that waits is gone through: what stands in it is told now, or waits.
module _ (S M M' : VarName → Option Tree) (ts rest after : List Tree) (w : Tree) (c : IsCuttingOut S M ts (rest ++ w ∷ []))
    (more : (x : VarName) (u : Tree) → M x ≡ Some u → M' x ≡ Some u)
    (from : (x : VarName) (u : Tree) → M' x ≡ Some u → (M x ≡ Some u) ⊎ ((S x ≡ Some u) × ((y : VarName) → Occurs y u → In u after)))
    (keeps : (v : Tree) → In v rest → In v after)
    (done : (x : VarName) → Occurs x w → IsToldOrWaits S M' after x) where
  within_on : (x : VarName) (u : Tree) → M' x ≡ Some u → S x ≡ Some u
  within_on x u e = elim (from x u e) [ inl d ↦ c.within x u d | inr d ↦ d.0 ]

  still : {x : VarName} → IsToldOrWaits S M (rest ++ w ∷ []) x → IsToldOrWaits S M' after x
  still {x} (inl e) = inl (told_on e (more x) (within_on x))
  still {x} (inr v) = elim (in_more rest w v.0 v.1) [ inl j ↦ inr (v.0, keeps v.0 j, v.2) | inr e ↦ done x (subst (Occurs x) e v.2) ]

  pub cut_goes_on : IsCuttingOut S M' ts after
  cut_goes_on = record {
    within = within_on;
    terms = λ t x i o. still (c.terms t x i o);
    values = λ y u x e o. elim (from y u e) [ inl d ↦ still (c.values y u x d o) | inr d ↦ inr (u, d.1 x o, o) ];
  }

-- A variable that is free in M gets its value from S.
module _ (S M : VarName → Option Tree) (x : VarName) (u : Tree) (free : M x ≡ None) (found : S x ≡ Some u) where
  bound_on : (y : VarName) (v : Tree) → M y ≡ Some v → with_binding M x u y ≡ Some v
  bound_on y v e =
      elim (eq_by_cmp name_cmp y x) as (λ b. eq_by_cmp name_cmp y x ≡ b → cond b (Some u) (M y) ≡ Some v) [
        | true ↦ λ p. absurd (let clash : None ≡ Some v = sym free ∙ ap M (sym (same_name y x p)) ∙ e in cc)
        | false ↦ λ p. e
      ] refl

  bound_from : (rest us : List Tree) → Picks (λ t. ¬ IsClosed t) (u ∷ []) us → (y : VarName) (v : Tree) → with_binding M x u y ≡ Some v → (M y ≡ Some v) ⊎ ((S y ≡ Some v) × ((z : VarName) → Occurs z v → In v (rest ++ us)))
  bound_from rest us open_ones y v e =
      elim (eq_by_cmp name_cmp y x) as (λ b. eq_by_cmp name_cmp y x ≡ b → cond b (Some u) (M y) ≡ Some v → (M y ≡ Some v) ⊎ ((S y ≡ Some v) × ((z : VarName) → Occurs z v → In v (rest ++ us)))) [
        | true ↦ λ p q. let same : u ≡ v = cc in inr (ap S (same_name y x p) ∙ found ∙ q, λ z o. in_right rest us v (stands_open (u ∷ []) us v z open_ones (inl (sym same)) o))
        | false ↦ λ p q. inl q
      ] refl e

  told_there : (y : VarName) → y ≡ x → S y ≡ with_binding M x u y
  told_there y o = subst (λ z. S z ≡ with_binding M x u z) (sym o) (found ∙ sym (ap (λ b. cond b (Some u) (M x)) (itself x)))

-- What a variable that waited shows: it is told now.
module _ (S : VarName → Option Tree) (ts rest : List Tree) where
  -- nothing stands in the term but what is told, and M stays
  pub passed : (M : VarName → Option Tree) (w : Tree) → IsCuttingOut S M ts (rest ++ w ∷ []) → ((x : VarName) → Occurs x w → S x ≡ M x) → IsCuttingOut S M ts rest
  passed M w c told = cut_goes_on S M M ts rest rest w c (λ x u e. e) (λ x u e. inl e) (λ v i. i) (λ x o. inl (told x o))

  -- the arguments wait in its place, but for closed ones
  pub opened : (M : VarName → Option Tree) (f : List ℕ) (us after : List Tree) → OpenOnesWait us rest after → IsCuttingOut S M ts (rest ++ node f (trees us) ∷ []) → IsCuttingOut S M ts after
  opened M f us after (vs, open_ones, is) c =
      subst (IsCuttingOut S M ts) (sym is)
      (cut_goes_on S M M ts rest (rest ++ vs) (node f (trees us)) c (λ x u e. e) (λ x u e. inl e) (λ v i. in_left rest vs v i)
      (λ x o. let p = occurs_among us x o in inr (p.0, in_right rest vs p.0 (stands_open us vs p.0 x open_ones p.1 p.2), p.2)))

  pub taken_over : (M : VarName → Option Tree) (x : VarName) (M' : VarName → Option Tree) (after : List Tree) → TakesOver S x M M' rest after → IsCuttingOut S M ts (rest ++ variable x ∷ []) → IsCuttingOut S M' ts after
  taken_over M x M' after (has_it {u = u} e) c = passed M (variable x) c (λ y o. subst (λ z. S z ≡ M z) (sym o) (c.within x u e ∙ sym e))
  taken_over M x M' after (is_unbound e d) c = passed M (variable x) c (λ y o. subst (λ z. S z ≡ M z) (sym o) (d ∙ sym e))
  taken_over M x M' after (takes {u = u} e d (us, open_ones, is)) c =
      subst (IsCuttingOut S (with_binding M x u) ts) (sym is)
      (cut_goes_on S M (with_binding M x u) ts rest (rest ++ us) (variable x) c (bound_on S M x u e d) (bound_from S M x u e d rest us open_ones) (λ v i. in_left rest us v i)
      (λ y o. inl (told_there S M x u e d y o)))
