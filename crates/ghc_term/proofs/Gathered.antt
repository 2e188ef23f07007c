-- How variables are gathered in a list.
use Rattle.ghc_term.proofs.Words.{◌≡◌, ℕ, ◌+◌, ◌<◌, ◌↔◌, List, [], ◌∷◌, ◌++◌, length, get_or, take, take_more, map, map-append, append-nil, append_assoc, refl, sym, ap, ◌∙◌, subst, inl, inr, ◌⊎◌, Bool, true, false, IsTrue, Result, Ok, Err, IfOk, VarName, Tree, variable, integer, node, Trees, none, more, trees, Occurs, OccursIn, In, Bor, var_inj}
use Rattle.ghc_term.specs.inner.Walking.{StandsIn}
use Rattle.ghc_term.specs.Variables.{variables, variables_of_all}
use Rattle.ghc_term.specs.inner.KeptList.{numbered, IsTold, IsListOf, GoesOn, Gathers}
use Rattle.ghc_term.proofs.ListsLemmas.{in_left, in_right, in_either, in_last, in_more}
use Rattle.ghc_term.proofs.Searching.{stands_left, stands_right, stands_last, occurs_among, among_occurs}

-- the variables of a tree, as a list, are those that stand in it
mutual
  pub in_variables : (t : Tree) (x : VarName) → Occurs x t → In x (variables t)
  in_variables (variable y) x o = inl o
  in_variables (integer k) x o = absurd o
  in_variables (node f ts) x o = in_all ts x o

  pub in_all : (ts : Trees) (x : VarName) → OccursIn x ts → In x (variables_of_all ts)
  in_all none x o = absurd o
  in_all (more t ts) x (inl o) = in_left (variables t) (variables_of_all ts) x (in_variables t x o)
  in_all (more t ts) x (inr o) = in_right (variables t) (variables_of_all ts) x (in_all ts x o)

mutual
  pub of_variables : (t : Tree) (x : VarName) → In x (variables t) → Occurs x t
  of_variables (variable y) x (inl e) = e
  of_variables (variable y) x (inr n) = absurd n
  of_variables (integer k) x i = absurd i
  of_variables (node f ts) x i = of_all ts x i

  pub of_all : (ts : Trees) (x : VarName) → In x (variables_of_all ts) → OccursIn x ts
  of_all none x i = absurd i
  of_all (more t ts) x i = elim (in_either (variables t) (variables_of_all ts) x i) [ inl a ↦ inl (of_variables t x a) | inr b ↦ inr (of_all ts x b) ]

-- the numbers of a list tell of its variables
pub in_told : (xs : List VarName) (x : VarName) → In x xs → IsTold x (numbered xs)
in_told [] x i = absurd i
in_told (y ∷ ys) x (inl e) = inl (ap (λ z. z.step) e, ap (λ z. z.place) e)
in_told (y ∷ ys) x (inr i) = inr (in_told ys x i)

pub told_in : (xs : List VarName) (x : VarName) → IsTold x (numbered xs) → In x xs
told_in [] x t = absurd t
told_in (y ∷ ys) x (inl e) = inl (var_inj x y e.0 e.1)
told_in (y ∷ ys) x (inr t) = inr (told_in ys x t)

pub told_occurs : (ns : List ℕ) (ts : Trees) (x : VarName) → ns ≡ numbered (variables_of_all ts) → IsTold x ns ↔ OccursIn x ts
told_occurs ns ts x e = (
  λ t. of_all ts x (told_in (variables_of_all ts) x (subst (IsTold x) e t)),
  λ o. subst (IsTold x) (sym e) (in_told (variables_of_all ts) x (in_all ts x o)),
)

-- a list goes on
pub as_it_was : (xs : List VarName) → GoesOn xs xs
as_it_was xs = ([], sym (append-nil xs))

pub goes_on : (old mid new : List VarName) → GoesOn old mid → GoesOn mid new → GoesOn old new
goes_on old mid new a b = (a.0 ++ b.0, b.1 ∙ ap (λ l. l ++ b.0) a.1 ∙ append_assoc old a.0 b.0)

-- nothing is added
pub none_added : {P : VarName → Type 0} (xs ys : List VarName) → ys ≡ xs → ((x : VarName) → P x → In x xs) → Gathers P xs ys
none_added {P = P} xs ys e h = subst (Gathers P xs) (sym e) (as_it_was xs, λ x. (λ i. inl i, λ o. elim o [ inl i ↦ i | inr p ↦ h x p ]))

-- one variable
pub one_there : (xs : List VarName) (x : VarName) → In x xs → Gathers (λ y. y ≡ x) xs xs
one_there xs x i = none_added xs xs refl (λ y e. subst (λ z. In z xs) (sym e) i)

pub one_pushed : (old new : List VarName) (x : VarName) → new ≡ old ++ x ∷ [] → Gathers (λ y. y ≡ x) old new
one_pushed old new x e = (
  (x ∷ [], e),
  λ y. (λ i. in_more old x y (subst (In y) e i), λ o. subst (In y) (sym e) (elim o [ inl j ↦ in_left old (x ∷ []) y j | inr s ↦ in_right old (x ∷ []) y (inl s) ])),
)

-- the first ones, and one more
pub next_gathered : (xs : List VarName) (i : ℕ) (d : VarName) (old mid new : List VarName) → i < length xs
    → Gathers (λ y. In y (take i xs)) old mid → Gathers (λ y. y ≡ get_or xs i d) mid new → Gathers (λ y. In y (take (i + 1) xs)) old new
next_gathered xs i d old mid new h a b =
    let x = get_or xs i d in
    let all : take (i + 1) xs ≡ take i xs ++ x ∷ [] = take_more xs i d h in (
      goes_on old mid new a.0 b.0,
      λ y. (
        λ j. elim ((b.1 y).0 j) [
          | inl m ↦ elim ((a.1 y).0 m) [ inl o ↦ inl o | inr t ↦ inr (subst (In y) (sym all) (in_left (take i xs) (x ∷ []) y t)) ]
          | inr s ↦ inr (subst (In y) (sym all) (in_right (take i xs) (x ∷ []) y (inl s)))
        ],
        λ o. (b.1 y).1 (elim o [
          | inl p ↦ inl ((a.1 y).1 (inl p))
          | inr t ↦ elim (in_more (take i xs) x y (subst (In y) all t)) [ inl f ↦ inl ((a.1 y).1 (inr f)) | inr s ↦ inr s ]
        ]),
      ),
    )

-- the same by another word
pub as_told : {P Q : VarName → Type 0} (old new : List VarName) → ((x : VarName) → P x ↔ Q x) → Gathers P old new → Gathers Q old new
as_told old new h g = (
  g.0,
  λ x. (
    λ i. elim ((g.1 x).0 i) [ inl o ↦ inl o | inr p ↦ inr ((h x).0 p) ],
    λ o. (g.1 x).1 (elim o [ inl j ↦ inl j | inr q ↦ inr ((h x).1 q) ]),
  ),
)

-- what a list tells that is kept
kept_told : {E : Type 0} (r : Result Bool E) (ns : List ℕ) (kept old new : List VarName) → IsListOf ns kept → IfOk r (λ found. (found ≡ true) × Gathers (λ y. In y kept) old new)
    → IfOk r (λ found. IsTrue found → Gathers (λ y. IsTold y ns) old new)
kept_told (Ok b) ns kept old new l h = λ _. as_told old new l h.1
kept_told (Err e) ns kept old new l h = tt

pub found_kept : {E : Type 0} (r r' : Result Bool E) (ns : List ℕ) (kept old new new' : List VarName) → r ≡ r' → new ≡ new' → IsListOf ns kept
    → IfOk r' (λ found. (found ≡ true) × Gathers (λ y. In y kept) old new') → IfOk r (λ found. IsTrue found → Gathers (λ y. IsTold y ns) old new)
found_kept r r' ns kept old new new' e f l h =
    subst (λ z. IfOk z (λ found. IsTrue found → Gathers (λ y. IsTold y ns) old new)) (sym e)
    (subst (λ z. IfOk r' (λ found. IsTrue found → Gathers (λ y. IsTold y ns) old z)) (sym f) (kept_told r' ns kept old new' l h))

pub none_kept : {E : Type 0} (X : Type 0) (r : Result Bool E) → r ≡ Ok false → IfOk r (λ found. IsTrue found → X)
none_kept X r e = subst (λ z. IfOk z (λ found. IsTrue found → X)) (sym e) (λ t. absurd (let clash : false ≡ true = t in cc))

-- a walk: what was there, or stands in the whole, is in the list or stands in one of the trees that are still to be looked into
pub record Gathering (P : VarName → Type 0) (old into : List VarName) (open_ones : List Tree) : Type 0 where
  pub grown : GoesOn old into
  pub same : (x : VarName) → (In x old ⊎ P x) ↔ (In x into ⊎ StandsIn x open_ones)

pub stands_either : (ts us : List Tree) (y : VarName) → StandsIn y (ts ++ us) → StandsIn y ts ⊎ StandsIn y us
stands_either ts us y s = elim (in_either ts us s.0 s.1) [ inl i ↦ inl (s.0, i, s.2) | inr j ↦ inr (s.0, j, s.2) ]

module _ {P : VarName → Type 0} where
  pub begun : (old : List VarName) (ts : List Tree) (t : Tree) → ts ≡ t ∷ [] → ((x : VarName) → P x ↔ Occurs x t) → Gathering P old old ts
  begun old ts t e h = subst (Gathering P old old) (sym e) (record {
    grown = as_it_was old;
    same = λ x. (
      λ o. elim o [ inl i ↦ inl i | inr p ↦ inr (t, inl refl, (h x).0 p) ],
      λ o. elim o [ inl i ↦ inl i | inr s ↦ inr ((h x).1 (elim s.1 [ inl e ↦ subst (Occurs x) e s.2 | inr n ↦ absurd n ])) ],
    );
  })

  -- a tree gives way to others, and variables come into the list
  pub replaced : (old into into' : List VarName) (all rest new after : List Tree) (t : Tree) → all ≡ rest ++ t ∷ [] → after ≡ rest ++ new → GoesOn into into'
      → ((y : VarName) → (In y into' ⊎ StandsIn y new) ↔ (In y into ⊎ Occurs y t)) → Gathering P old into all → Gathering P old into' after
  replaced old into into' all rest new after t e f on_ h g =
      let s = subst (Gathering P old into) e g in
      subst (Gathering P old into') (sym f) (record {
        grown = goes_on old into into' s.grown on_;
        same = λ x. (
          λ o. elim ((s.same x).0 o) [
            | inl i ↦ elim ((h x).1 (inl i)) [ inl j ↦ inl j | inr n ↦ inr (stands_right rest new x n) ]
            | inr a ↦ elim (stands_last rest t x a) [
              | inl r ↦ inr (stands_left rest new x r)
              | inr q ↦ elim ((h x).1 (inr q)) [ inl j ↦ inl j | inr n ↦ inr (stands_right rest new x n) ]
            ]
          ],
          λ o. (s.same x).1 (elim o [
            | inl j ↦ elim ((h x).0 (inl j)) [ inl i ↦ inl i | inr q ↦ inr (t, in_last rest t, q) ]
            | inr a ↦ elim (stands_either rest new x a) [
              | inl r ↦ inr (stands_left rest (t ∷ []) x r)
              | inr n ↦ elim ((h x).0 (inr n)) [ inl i ↦ inl i | inr q ↦ inr (t, in_last rest t, q) ]
            ]
          ]),
        );
      })

  -- the variables of a tree are in the list
  pub added : (old into into' : List VarName) (all rest : List Tree) (t : Tree) → all ≡ rest ++ t ∷ [] → Gathers (λ y. Occurs y t) into into' → Gathering P old into all → Gathering P old into' rest
  added old into into' all rest t e a g = replaced old into into' all rest [] rest t e (sym (append-nil rest)) a.0 (λ y. (
    λ o. elim o [ inl i ↦ (a.1 y).0 i | inr s ↦ absurd s.1 ],
    λ o. inl ((a.1 y).1 o),
  )) g

  -- nothing stands in the tree
  pub passed : (old into : List VarName) (all rest : List Tree) (t : Tree) → all ≡ rest ++ t ∷ [] → ((y : VarName) → ¬ Occurs y t) → Gathering P old into all → Gathering P old into rest
  passed old into all rest t e n g = added old into into all rest t e (none_added into into refl (λ y o. absurd (n y o))) g

  -- a structure gives way to its arguments
  pub unfolds : (old into : List VarName) (all rest after ts : List Tree) (f : List ℕ) (t : Tree) → node f (trees ts) ≡ t → all ≡ rest ++ t ∷ [] → after ≡ rest ++ ts → Gathering P old into all → Gathering P old into after
  unfolds old into all rest after ts f t is e g w = replaced old into into all rest ts after t e g (as_it_was into) (λ y. (
    λ o. elim o [ inl i ↦ inl i | inr s ↦ inr (subst (Occurs y) is (among_occurs ts s.0 y s.1 s.2)) ],
    λ o. elim o [ inl i ↦ inl i | inr q ↦ inr (occurs_among ts y (subst (Occurs y) (sym is) q)) ],
  )) w

  pub finished : (old into : List VarName) → Gathering P old into [] → Gathers P old into
  finished old into g = (
    g.grown,
    λ x. (
      λ i. (g.same x).1 (inl i),
      λ o. elim ((g.same x).0 o) [ inl i ↦ i | inr s ↦ absurd s.1 ],
    ),
  )

-- the variables of the first trees, and of one more
pub next_stood : (ts : List (Bor Tree)) (i : ℕ) (d : Bor Tree) (old mid new : List VarName) → i < length ts
    → Gathers (λ y. StandsIn y (map (λ t. t.now) (take i ts))) old mid → Gathers (λ y. Occurs y (get_or ts i d).now) mid new → Gathers (λ y. StandsIn y (map (λ t. t.now) (take (i + 1) ts))) old new
next_stood ts i d old mid new h a b =
    let t = (get_or ts i d).now in
    let first = map (λ (b : Bor Tree). b.now) (take i ts) in
    let all : map (λ (b : Bor Tree). b.now) (take (i + 1) ts) ≡ first ++ t ∷ [] = ap (map (λ (b : Bor Tree). b.now)) (take_more ts i d h) ∙ map-append (λ (b : Bor Tree). b.now) (take i ts) (get_or ts i d ∷ []) in (
      goes_on old mid new a.0 b.0,
      λ y. (
        λ j. elim ((b.1 y).0 j) [
          | inl m ↦ elim ((a.1 y).0 m) [ inl o ↦ inl o | inr s ↦ inr (subst (StandsIn y) (sym all) (stands_left first (t ∷ []) y s)) ]
          | inr o ↦ inr (t, subst (In t) (sym all) (in_last first t), o)
        ],
        λ o. (b.1 y).1 (elim o [
          | inl p ↦ inl ((a.1 y).1 (inl p))
          | inr s ↦ elim (stands_last first t y (subst (StandsIn y) all s)) [ inl f ↦ inl ((a.1 y).1 (inr f)) | inr q ↦ inr q ]
        ]),
      ),
    )
