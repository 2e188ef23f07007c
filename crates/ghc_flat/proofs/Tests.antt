-- The tests that guards make, and whose variables they test.
use Rattle.ghc_flat.proofs.Words.{◌≡◌, ℕ, Bool, List, [], ◌∷◌, ◌++◌, length, append_assoc, append-nil, inl, inr, refl, sym, ap, ◌∙◌, subst, arith, IsTrue, ◌↔◌, VarName, Comparison, variable, Expression, call, In, Guard, Item as item, variables_of_guard, variables_of_guards, Test, Compare as compare, IsPredefined, MakesTests, MakeTests, IsFlatGuard, variables_of_test, variables_of_tests, leaf_variables, Rises, IsAmong, AreAmong, MakesAmong, in_left, in_right, in_either}
use Rattle.ghc_reader.specs.declared.written.Guard.TheVariants.{Comparison as comparison}
use Rattle.ghc_flat.proofs.Rising.{among_of_in}

-- a test of one variable
pub one_among : (n : ℕ) (x : VarName) (b : Bool) → (IsTrue b ↔ IsAmong n x) → IsTrue b ↔ AreAmong n (x ∷ [])
one_among n x b h = (
  λ t y i. elim i [ inl e ↦ subst (IsAmong n) (sym e) (h.0 t) | inr none ↦ absurd none ],
  λ a. h.1 (a x (inl refl)),
)

-- two lists
pub both_among : (n : ℕ) (xs ys : List VarName) → AreAmong n xs → AreAmong n ys → AreAmong n (xs ++ ys)
both_among n xs ys a b y i = elim (in_either xs ys y i) [ inl j ↦ a y j | inr j ↦ b y j ]

pub left_among : (n : ℕ) (xs ys : List VarName) → AreAmong n (xs ++ ys) → AreAmong n xs
left_among n xs ys a y i = a y (in_left xs ys y i)

pub right_among : (n : ℕ) (xs ys : List VarName) → AreAmong n (xs ++ ys) → AreAmong n ys
right_among n xs ys a y i = a y (in_right xs ys y i)

-- a predefined test is of its variable
pub predefined_variable : (f : List ℕ) (x : VarName) (g : Test) → IsPredefined f x g → variables_of_test g ≡ x ∷ []
predefined_variable f x g p = grind arith

pub not_among : (n : ℕ) (f : List ℕ) (x : VarName) → (¬ IsAmong n x) → (ts : List Test) → ¬ MakesAmong n (item (call f (variable x ∷ []))) ts
not_among n f x other ts m =
    let made = m.0 in
    other (m.1 made.0 (subst (λ l. In made.0 l) (sym made.2) (inl refl)) x (subst (λ l. In x l) (sym (predefined_variable f x made.0 made.1)) (inl refl)))

-- a comparison
pub makes_comparison : (n : ℕ) (o : Comparison) (a b : Expression) → AreAmong n (leaf_variables a) → AreAmong n (leaf_variables b) → MakesAmong n (comparison o a b) (compare o a b ∷ [])
makes_comparison n o a b p q = (
  refl,
  λ t i. elim i [
    | inl e ↦ subst (λ g. AreAmong n (variables_of_test g)) (sym e) (both_among n (leaf_variables a) (leaf_variables b) p q)
    | inr none ↦ absurd none
  ],
)

pub compares_among : (n : ℕ) (o : Comparison) (a b : Expression) (ts : List Test) → MakesAmong n (comparison o a b) ts → AreAmong n (leaf_variables a ++ leaf_variables b)
compares_among n o a b ts m = m.1 (compare o a b) (subst (λ l. In (compare o a b) l) (sym m.0) (inl refl))

-- the tests of one more guard
pub make_more : (gs : List Guard) (g : Guard) (ts us : List Test) → MakeTests gs ts → MakesTests g us → MakeTests (gs ++ g ∷ []) (ts ++ us)
make_more [] g ts us e m = (us, [], m, refl, ap (λ l. l ++ us) e ∙ sym (append-nil us))
make_more (h ∷ gs) g ts us d m = (d.0, d.1 ++ us, d.2, make_more gs g d.1 us d.3 m, ap (λ l. l ++ us) d.4 ∙ append_assoc d.0 d.1 us)

-- the tests have the variables of the guards
pub variables_made : (g : Guard) (ts : List Test) → MakesTests g ts → variables_of_tests ts ≡ variables_of_guard g
variables_made (item (call f [])) ts m = ap variables_of_tests m.1
variables_made (item (call f (variable x ∷ []))) ts m = ap variables_of_tests m.2 ∙ ap (λ l. l ++ []) (predefined_variable f x m.0 m.1)
variables_made (comparison o a b) ts m = ap variables_of_tests m ∙ append-nil (leaf_variables a ++ leaf_variables b)
variables_made _ ts m = absurd m

tests_append : (ts us : List Test) → variables_of_tests (ts ++ us) ≡ variables_of_tests ts ++ variables_of_tests us
tests_append [] us = refl
tests_append (t ∷ ts) us = ap (λ l. variables_of_test t ++ l) (tests_append ts us) ∙ sym (append_assoc (variables_of_test t) (variables_of_tests ts) (variables_of_tests us))

pub all_variables_made : (gs : List Guard) (ts : List Test) → MakeTests gs ts → variables_of_tests ts ≡ variables_of_guards gs
all_variables_made [] ts e = ap variables_of_tests e
all_variables_made (g ∷ gs) ts d =
    ap variables_of_tests d.4 ∙ tests_append d.0 d.1 ∙ ap (λ l. l ++ variables_of_tests d.1) (variables_made g d.0 d.2) ∙ ap (λ l. variables_of_guard g ++ l) (all_variables_made gs d.1 d.3)

-- each guard makes some of the tests
pub made_by : (gs : List Guard) (ts : List Test) → MakeTests gs ts → (g : Guard) → In g gs → (us : List Test) × MakesTests g us × ((t : Test) → In t us → In t ts)
made_by [] ts e g i = absurd i
made_by (h ∷ gs) ts d g (inl e) = (d.0, subst (λ k. MakesTests k d.0) (sym e) d.2, λ t j. subst (λ l. In t l) (sym d.4) (in_left d.0 d.1 t j))
made_by (h ∷ gs) ts d g (inr i) =
    let r = made_by gs d.1 d.3 g i in
    (r.0, r.1, λ t j. subst (λ l. In t l) (sym d.4) (in_right d.0 d.1 t (r.2 t j)))

pub not_flat_guard : (xs : List VarName) (n : ℕ) (g : Guard) → Rises 0 xs → n ≡ length xs → ((ts : List Test) → ¬ MakesAmong n g ts) → ¬ IsFlatGuard xs g
not_flat_guard xs n g r e none f = none f.0 (f.1, λ t i x j. subst (λ k. IsAmong k x) (sym e) (among_of_in xs x r (f.2 t x i j)))

predefined_once : (f : List ℕ) (x : VarName) (g h : Test) → IsPredefined f x g → IsPredefined f x h → g ≡ h
predefined_once f x g h p q = grind arith

-- the tests of a guard are determined
pub makes_once : (g : Guard) (ts us : List Test) → MakesTests g ts → MakesTests g us → ts ≡ us
makes_once (item (call f [])) ts us m d = m.1 ∙ sym d.1
makes_once (item (call f (variable x ∷ []))) ts us m d = m.2 ∙ ap (λ t. t ∷ []) (predefined_once f x m.0 d.0 m.1 d.1) ∙ sym d.2
makes_once (comparison o a b) ts us m d = m ∙ sym d
makes_once _ ts us m d = absurd m

pub make_once : (gs : List Guard) (ts us : List Test) → MakeTests gs ts → MakeTests gs us → ts ≡ us
make_once [] ts us m d = m ∙ sym d
make_once (g ∷ gs) ts us m d =
    let first : m.0 ≡ d.0 = makes_once g m.0 d.0 m.2 d.2 in
    let rest : m.1 ≡ d.1 = make_once gs m.1 d.1 m.3 d.3 in
    m.4 ∙ (λ i. first i ++ rest i) ∙ sym d.4

-- the tests of one more guard, and their variables
pub tests_more : (n : ℕ) (gs : List Guard) (g : Guard) (ts us : List Test) → (MakeTests gs ts × ((t : Test) → In t ts → AreAmong n (variables_of_test t))) → MakesAmong n g us
    → MakeTests (gs ++ g ∷ []) (ts ++ us) × ((t : Test) → In t (ts ++ us) → AreAmong n (variables_of_test t))
tests_more n gs g ts us m d = (make_more gs g ts us m.0 d.0, λ t i. elim (in_either ts us t i) [ inl j ↦ m.1 t j | inr j ↦ d.1 t j ])
