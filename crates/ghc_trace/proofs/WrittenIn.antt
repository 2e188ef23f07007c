-- Whether variables of a set stand in terms and goals.
use Rattle.ghc_trace.proofs.Words.{◌≡◌, ◌⊎◌, ◌↔◌, ◌+◌, ◌<◌, ◌≤◌, Bool, true, false, Bor, ℕ, List, [], ◌∷◌, ◌++◌, length, get_or, map, take, take_all, take_more, refl, sym, ◌∙◌, subst, inl, inr, IsTrue, VarName, Variables, Tree, Goal, In, in_get, in_map, in_more}
use Rattle.std.specs.FinSet as set
use Rattle.ghc_term.specs.Sets.{IsSetOf}
use Rattle.ghc_term.specs.Tree.{IsClosed, Occurs, variable}
use Rattle.ghc_trace.specs.inner.WhyNotCode.{GoalHasOneOf, HasOneOf, OneHasOneOf}

-- a test of one that fails for each: none
abbrev pub NoneOf : {X : Type 0} → (X → Type 0) → List X → Type 0
NoneOf {X} P xs = (x : X) → In x xs → ¬ P x

pub none_yet : {X : Type 0} (P : X → Type 0) → NoneOf P []
none_yet P x i = absurd i

pub none_more : {X : Type 0} (P : X → Type 0) (xs : List X) (x : X) → ¬ P x → NoneOf P xs → NoneOf P (xs ++ x ∷ [])
none_more P xs x n none z i = elim (in_more xs x z i) [ inl j ↦ none z j | inr e ↦ λ p. n (subst P e p) ]

pub one_is : {X : Type 0} (P : X → Type 0) (xs : List X) (x : X) → In x xs → P x → IsTrue true ↔ ((z : X) × In z xs × P z)
one_is P xs x i p = (λ _. (x, i, p), λ _. refl)

pub none_is : {X : Type 0} (P : X → Type 0) (xs : List X) → NoneOf P xs → IsTrue false ↔ ((z : X) × In z xs × P z)
none_is P xs none = (λ h. let clash : false ≡ true = h in absurd (cc), λ z. absurd (none z.0 z.1 z.2))

-- at the place i of a list, whose element is t
module _ {X : Type 0} (P : X → Type 0) (xs : List X) (i : ℕ) (t : X) (within : i < length xs) (is : t ≡ get_or xs i t) where
  pub none_next : ¬ P t → NoneOf P (take i xs) → NoneOf P (take (i + 1) xs)
  none_next n none = subst (NoneOf P) (sym (take_more xs i t within)) (none_more P (take i xs) (get_or xs i t) (λ p. n (subst P (sym is) p)) none)

  pub one_here : P t → IsTrue true ↔ ((z : X) × In z xs × P z)
  one_here p = one_is P xs t (subst (λ z. In z xs) (sym is) (in_get xs i t within)) p

pub none_here : {X : Type 0} (P : X → Type 0) (xs : List X) (i : ℕ) → length xs ≤ i → NoneOf P (take i xs) → IsTrue false ↔ ((z : X) × In z xs × P z)
none_here P xs i high none = none_is P xs (subst (NoneOf P) (take_all i xs high) none)

-- of terms lent, one has a variable of the set where one of the terms has
mapped_in : (ts : List (Bor Tree)) (u : Tree) → In u (map (λ t. t.now) ts) → (z : Bor Tree) × In z ts × (u ≡ z.now)
mapped_in [] u i = absurd i
mapped_in (t ∷ ts) u (inl e) = (t, inl refl, e)
mapped_in (t ∷ ts) u (inr i) = let q = mapped_in ts u i in (q.0, inr q.1, q.2)

pub of_lent : (xs : Variables) (ts : List (Bor Tree)) (b : Bool) → IsTrue b ↔ ((z : Bor Tree) × In z ts × HasOneOf xs z.now) → IsTrue b ↔ OneHasOneOf xs (map (λ t. t.now) ts)
of_lent xs ts b is = (
  λ i. let o = is.0 i in (o.0.now, in_map (λ (t : Bor Tree). t.now) ts o.0 o.1, o.2),
  λ o. let q = mapped_in ts o.0 o.1 in is.1 (q.0, q.1, subst (HasOneOf xs) q.2 o.2),
)

-- a term in which a variable of the set stands, or none does
module _ (xs : Variables) where
  pub of_variable : (x : VarName) (t : Tree) (b : Bool) → variable x ≡ t → b ≡ set.contains xs x → IsTrue b ↔ HasOneOf xs t
  of_variable x t b shown is = subst (λ u. IsTrue b ↔ HasOneOf xs u) shown (λ i. (x, refl, sym is ∙ i), λ h. is ∙ subst (λ z. IsTrue (set.contains xs z)) h.1 h.2)

  pub of_closed : (t : Tree) → IsClosed t → IsTrue false ↔ HasOneOf xs t
  of_closed t closed = (λ h. let clash : false ≡ true = h in absurd (cc), λ h. absurd (closed h.0 h.1))

  pub of_written : (t : Tree) (written : Variables) (b : Bool) → IsSetOf written (λ x. Occurs x t) → IsTrue b ↔ ((x : VarName) × IsTrue (set.contains written x) × IsTrue (set.contains xs x)) → IsTrue b ↔ HasOneOf xs t
  of_written t written b are is = (λ i. let m = is.0 i in (m.0, (are m.0).0 m.1, m.2), λ h. is.1 (h.0, (are h.0).1 h.1, h.2))

  -- the first of the terms, or one of the others
  pub in_head : (t : Tree) (ts : List Tree) → HasOneOf xs t → IsTrue true ↔ OneHasOneOf xs (t ∷ ts)
  in_head t ts h = (λ _. (t, inl refl, h), λ _. refl)

  pub in_tail : (t : Tree) (ts : List Tree) (b : Bool) → ¬ HasOneOf xs t → IsTrue b ↔ OneHasOneOf xs ts → IsTrue b ↔ OneHasOneOf xs (t ∷ ts)
  in_tail t ts b n is = (
    λ i. let o = is.0 i in (o.0, inr o.1, o.2),
    λ o. elim o.1 [ inl e ↦ absurd (n (subst (HasOneOf xs) e o.2)) | inr i ↦ is.1 (o.0, i, o.2) ],
  )

  pub in_one : (t : Tree) (b : Bool) → IsTrue b ↔ HasOneOf xs t → IsTrue b ↔ OneHasOneOf xs (t ∷ [])
  in_one t b is = (λ i. (t, inl refl, is.0 i), λ o. elim o.1 [ inl e ↦ is.1 (subst (HasOneOf xs) e o.2) | inr n ↦ absurd n ])

  -- what is shown of the goal
  pub of_goal : (b g : Goal) (t : Bool) → b ≡ g → IsTrue t ↔ GoalHasOneOf xs b → IsTrue t ↔ GoalHasOneOf xs g
  of_goal b g t shown is = subst (λ q. IsTrue t ↔ GoalHasOneOf xs q) shown is

-- a test that is false does not hold
pub fails : {P : Type 0} (b : Bool) → b ≡ false → IsTrue b ↔ P → ¬ P
fails b failed is p = let clash : false ≡ true = sym failed ∙ is.1 p in cc

pub holds : {P : Type 0} (b : Bool) → b ≡ true → IsTrue b ↔ P → P
holds b held is = is.0 held
