-- Goals by variable with one goal more or less under each of some variables.
use Rattle.ghc_hooks.proofs.Words.{◌≡◌, ℕ, ◌+◌, ◌<◌, List, [], ◌∷◌, ◌++◌, get_or, take, drop, length, sym, subst, ◌⊎◌, ◌↔◌, IsTrue, take_more, take-append-drop, VarName, GoalName, In, in_more, in_left, in_last, GoalsByVariable, looks, arith}

-- the goal g stands under each of these besides, or under none of them any more
abbrev pub HasBesides : GoalsByVariable → List VarName → GoalName → GoalsByVariable → Type 0
HasBesides old xs g new = (y : VarName) (h : GoalName) → IsTrue (looks new y h) ↔ (IsTrue (looks old y h) ⊎ (In y xs × (h ≡ g)))

abbrev pub HasWithout : GoalsByVariable → List VarName → GoalName → GoalsByVariable → Type 0
HasWithout old xs g new = (y : VarName) (h : GoalName) → IsTrue (looks new y h) ↔ (IsTrue (looks old y h) × ¬ (In y xs × (h ≡ g)))

module _ {X : Type 0} (xs : List X) (i : ℕ) (d : X) (within : i < length xs) (y : X) where
  pub so_far : In y (take (i + 1) xs) → In y (take i xs) ⊎ (y ≡ get_or xs i d)
  so_far k = in_more (take i xs) (get_or xs i d) y (subst (In y) (take_more xs i d within) k)

  pub earlier : In y (take i xs) → In y (take (i + 1) xs)
  earlier k = subst (In y) (sym (take_more xs i d within)) (in_left (take i xs) (get_or xs i d ∷ []) y k)

  pub latest : y ≡ get_or xs i d → In y (take (i + 1) xs)
  latest e = subst (In y) (sym (take_more xs i d within)) (subst (λ z. In z (take i xs ++ get_or xs i d ∷ [])) (sym e) (in_last (take i xs) (get_or xs i d)))

module _ (old now new : GoalsByVariable) (xs : List VarName) (i : ℕ) (d : VarName) (g : GoalName) (within : i < length xs) where
  pub besides_next : HasBesides old (take i xs) g now → ((y : VarName) (h : GoalName) → IsTrue (looks new y h) ↔ (IsTrue (looks now y h) ⊎ ((y ≡ get_or xs i d) × (h ≡ g)))) → HasBesides old (take (i + 1) xs) g new
  besides_next before step y h = grind (arith, before y h, step y h, so_far xs i d within y, earlier xs i d within y, latest xs i d within y)

  pub without_next : HasWithout old (take i xs) g now → ((y : VarName) (h : GoalName) → IsTrue (looks new y h) ↔ (IsTrue (looks now y h) × ¬ ((y ≡ get_or xs i d) × (h ≡ g)))) → HasWithout old (take (i + 1) xs) g new
  without_next before step y h = grind (arith, before y h, step y h, so_far xs i d within y, earlier xs i d within y, latest xs i d within y)

-- what was put under some of the variables and taken from all is as before
pub taken_back : (old now now' new : GoalsByVariable) (xs : List VarName) (i : ℕ) (g : GoalName) → ((y : VarName) → ¬ IsTrue (looks old y g)) → HasBesides old (take i xs) g now
    → ((y : VarName) (h : GoalName) → looks now' y h ≡ looks now y h) → HasWithout now' xs g new → (y : VarName) (h : GoalName) → IsTrue (looks new y h) ↔ IsTrue (looks old y h)
taken_back old now now' new xs i g fresh before same after y h =
    let front : In y (take i xs) → In y xs = λ k. rw (take-append-drop i xs) at (in_left (take i xs) (drop i xs) y k) in
    let none : h ≡ g → ¬ IsTrue (looks old y h) = λ e. rw e (fresh y) in
    grind (arith, before y h, same y h, after y h)
