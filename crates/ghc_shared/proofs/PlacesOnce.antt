-- Each place since the opening is a place of one pass, once.
use Rattle.ghc_shared.proofs.Words.{◌≡◌, ◌≢◌, ℕ, zero, suc, ◌+◌, ◌==◌, ◌<◌, ◌≤◌, List, [], ◌∷◌, ◌++◌, length, true, false, cond, refl, sym, ap, ◌∙◌, subst, arith, eq-eqb, ne_eqb, MatchBool, slice_index, IsStrictlyIncreasing, ArePlacesBy, AllBy, Known, AreAll, weight, numbers_from, AreAllByTheirs, weight_of_places}
use mathlib.Core.Logic.{dite}
use native.Mathlib.Decide.{ℕ_discrete}

pub weight-one : (xs : List ℕ) → weight (λ _. 1) xs ≡ length xs
weight-one [] = refl
weight-one (x ∷ xs) = omega (arith, weight-one xs)

pub numbers_length : (k n : ℕ) → length (numbers_from k n) ≡ n
numbers_length k zero = refl
numbers_length k (suc n) = ap suc (numbers_length (suc k) n)

if_same : (a b c d : ℕ) → a ≡ b → cond (a == b) c d ≡ c
if_same a b c d e = ap (λ t. cond t c d) (eq-eqb a b e)

if_other : (a b c d : ℕ) → a ≢ b → cond (a == b) c d ≡ d
if_other a b c d ne = ap (λ t. cond t c d) (ne_eqb a b ne)

empty : (l : List ℕ) → 0 ≡ length l → [] ≡ l
empty [] e = refl
empty (x ∷ xs) e = absurd (omega (arith, e))

rises : (p q : ℕ) (places : List ℕ) → p < q → IsStrictlyIncreasing (q ∷ places) → IsStrictlyIncreasing (p ∷ q ∷ places)
rises p q places low h zero fits = low
rises p q places low h (suc k) fits =
    let one_more : suc (k + 1) ≡ suc k + 1 = omega arith in
    subst (λ n. slice_index (q ∷ places) k < slice_index (p ∷ q ∷ places) n) one_more (h k (omega (arith, fits)))

module _ {E : Type 0} where
  -- f of each pass's number, added up
  abbrev over : (ℕ → ℕ) → List (Known E) → ℕ
  over f [] = 0
  over f (p ∷ ps) = f p.number + over f ps

  over_add : (f g : ℕ → ℕ) (ps : List (Known E)) → over (λ i. f i + g i) ps ≡ over f ps + over g ps
  over_add f g [] = refl
  over_add f g (p ∷ ps) = omega (arith, over_add f g ps)

  over_same : (f g : ℕ → ℕ) (ps : List (Known E)) → ((i : ℕ) → f i ≡ g i) → over f ps ≡ over g ps
  over_same f g [] e = refl
  over_same f g (p ∷ ps) e = omega (arith, e p.number, over_same f g ps e)

  over_none : (passes k t c : ℕ) (ps : List (Known E)) → AreAll passes k ps → t < k → over (λ i. cond (t == i) c 0) ps ≡ 0
  over_none passes k t c [] all h = refl
  over_none passes k t c (p ∷ ps) all h = omega (arith, if_other t p.number c 0 (λ e. omega (arith, e, all.0)), over_none passes (suc k) t c ps all.1 (omega arith))

  -- one pass has the number t
  over_one : (passes k t c : ℕ) (ps : List (Known E)) → AreAll passes k ps → k ≤ t → t < passes → over (λ i. cond (t == i) c 0) ps ≡ c
  over_one passes k t c [] all low high = absurd (omega (arith, all))
  over_one passes k t c (p ∷ ps) all low high = dite (ℕ_discrete t k)
      (λ e. omega (arith, if_same t p.number c 0 (e ∙ sym all.0), over_none passes (suc k) t c ps all.1 (omega (arith, e))))
      (λ ne. omega (arith, if_other t p.number c 0 (λ e. ne (e ∙ all.0)), over_one passes (suc k) t c ps all.1 (omega (arith, ne)) high))

  -- the places of the items_of by this pass
  abbrev all_places : ℕ → ℕ → List (ℕ × E) → List ℕ
  all_places by k [] = []
  all_places by k (x ∷ log) = cond (x.0 == by) (k ∷ all_places by (suc k) log) (all_places by (suc k) log)

  weigh_places : (h : ℕ → ℕ) (by k : ℕ) (x : ℕ × E) (log : List (ℕ × E)) → weight h (all_places by k (x ∷ log)) ≡ cond (x.0 == by) (h k) 0 + weight h (all_places by (suc k) log)
  weigh_places h by k x log = (elim (x.0 == by) as (λ b. weight h (cond b (k ∷ all_places by (suc k) log) (all_places by (suc k) log)) ≡ cond b (h k) 0 + weight h (all_places by (suc k) log)) [ true ↦ refl | false ↦ omega arith ])

  -- together they are all places
  over_places : (h : ℕ → ℕ) (passes k : ℕ) (log : List (ℕ × E)) (ps : List (Known E)) → AreAll passes 0 ps → AllBy passes log → over (λ by. weight h (all_places by k log)) ps ≡ weight h (numbers_from k (length log))
  over_places h passes k [] ps all by = none ps
    where
      none : (ps : List (Known E)) → over (λ _. 0) ps ≡ 0
      none [] = refl
      none (p ∷ ps) = omega (arith, none ps)
  over_places h passes k (x ∷ log) ps all by =
      over_same (λ by. weight h (all_places by k (x ∷ log))) (λ by. cond (x.0 == by) (h k) 0 + weight h (all_places by (suc k) log)) ps (λ i. weigh_places h i k x log)
      ∙ over_add (λ by. cond (x.0 == by) (h k) 0) (λ by. weight h (all_places by (suc k) log)) ps
      ∙ omega (arith, over_one passes 0 x.0 (h k) ps all (omega arith) by.0, over_places h passes (suc k) log ps all by.1)

  longer_places : (by k : ℕ) (x : ℕ × E) (log : List (ℕ × E)) → length (all_places by (suc k) log) ≤ length (all_places by k (x ∷ log))
  longer_places by k x log = (elim (x.0 == by) as (λ b. length (all_places by (suc k) log) ≤ length (cond b (k ∷ all_places by (suc k) log) (all_places by (suc k) log))) [ true ↦ omega arith | false ↦ omega arith ])

  here_places : (by k : ℕ) (x : ℕ × E) (log : List (ℕ × E)) → x.0 ≡ by → all_places by k (x ∷ log) ≡ k ∷ all_places by (suc k) log
  here_places by k x log e = ap (λ b. cond b (k ∷ all_places by (suc k) log) (all_places by (suc k) log)) (eq-eqb x.0 by e)

  other_places : (by k : ℕ) (x : ℕ × E) (log : List (ℕ × E)) → x.0 ≢ by → all_places by k (x ∷ log) ≡ all_places by (suc k) log
  other_places by k x log ne = ap (λ b. cond b (k ∷ all_places by (suc k) log) (all_places by (suc k) log)) (ne_eqb x.0 by ne)

  -- the two cases of a first place
  at_first : (by k p : ℕ) (x : ℕ × E) (log : List (ℕ × E)) (places : List ℕ) (G : Type 0) → ArePlacesBy by k (x ∷ log) (p ∷ places) → (p ≡ k → x.0 ≡ by → ArePlacesBy by (suc k) log places → G) → (p ≢ k → ArePlacesBy by (suc k) log (p ∷ places) → G) → G
  at_first by k p x log places G h hit miss = dite (ℕ_discrete p k)
      (λ e. let g = subst (λ b. MatchBool b ((x.0 ≡ by) × ArePlacesBy by (suc k) log places) (ArePlacesBy by (suc k) log (p ∷ places))) (eq-eqb p k e) h in hit e g.0 g.1)
      (λ ne. miss ne (subst (λ b. MatchBool b ((x.0 ≡ by) × ArePlacesBy by (suc k) log places) (ArePlacesBy by (suc k) log (p ∷ places))) (ne_eqb p k ne) h))

  at_most : (by k : ℕ) (log : List (ℕ × E)) (places : List ℕ) → ArePlacesBy by k log places → length places ≤ length (all_places by k log)
  at_most by k [] places h = omega (arith, ap (λ (l : List ℕ). length l) h)
  at_most by k (x ∷ log) [] h = omega arith
  at_most by k (x ∷ log) (p ∷ places) h = at_first by k p x log places (suc (length places) ≤ length (all_places by k (x ∷ log))) h
      (λ e made rest. omega (arith, at_most by (suc k) log places rest, ap (λ (l : List ℕ). length l) (here_places by k x log made)))
      (λ ne rest. omega (arith, at_most by (suc k) log (p ∷ places) rest, longer_places by k x log))

  -- as many as there are: all of them
  exact : (by k : ℕ) (log : List (ℕ × E)) (places : List ℕ) → ArePlacesBy by k log places → length places ≡ length (all_places by k log) → places ≡ all_places by k log
  exact by k [] places h e = h
  exact by k (x ∷ log) [] h e = empty (all_places by k (x ∷ log)) e
  exact by k (x ∷ log) (p ∷ places) h e = at_first by k p x log places (p ∷ places ≡ all_places by k (x ∷ log)) h
      (λ at made rest. let here = here_places by k x log made in (λ i. at i ∷ exact by (suc k) log places rest (omega (arith, e, ap (λ (l : List ℕ). length l) here)) i) ∙ sym here)
      (λ ne rest. dite (ℕ_discrete x.0 by)
      (λ made. absurd (omega (arith, e, ap (λ (l : List ℕ). length l) (here_places by k x log made), at_most by (suc k) log (p ∷ places) rest)))
      (λ other. let there = other_places by k x log other in exact by (suc k) log (p ∷ places) rest (e ∙ ap (λ (l : List ℕ). length l) there) ∙ sym there))

  at_least : (by k p : ℕ) (log : List (ℕ × E)) (places : List ℕ) → ArePlacesBy by k log (p ∷ places) → k ≤ p
  at_least by k p [] places h = absurd (cc)
  at_least by k p (x ∷ log) places h = at_first by k p x log places (k ≤ p) h (λ e made rest. omega (arith, e)) (λ ne rest. omega (arith, at_least by (suc k) p log places rest))

  pub increasing : (by k : ℕ) (log : List (ℕ × E)) (places : List ℕ) → ArePlacesBy by k log places → IsStrictlyIncreasing places
  increasing by k [] places h = subst IsStrictlyIncreasing (sym h) (λ i low. absurd (omega (arith, low)))
  increasing by k (x ∷ log) [] h = λ i low. absurd (omega (arith, low))
  increasing by k (x ∷ log) (p ∷ []) h = λ i low. absurd (omega (arith, low))
  increasing by k (x ∷ log) (p ∷ q ∷ places) h = at_first by k p x log (q ∷ places) (IsStrictlyIncreasing (p ∷ q ∷ places)) h
      (λ e made rest. rises p q places (omega (arith, e, at_least by (suc k) q log places rest)) (increasing by (suc k) log (q ∷ places) rest))
      (λ ne rest. increasing by (suc k) log (p ∷ q ∷ places) rest)

  pub all_length : (passes k : ℕ) (ps : List (Known E)) → AreAll passes k ps → k + length ps ≡ passes
  all_length passes k [] h = omega (arith, h)
  all_length passes k (p ∷ ps) h = omega (arith, all_length passes (suc k) ps h.1)

  pub weight_more : (h : ℕ → ℕ) (ps : List (Known E)) (p : Known E) → weight_of_places h (ps ++ p ∷ []) ≡ weight_of_places h ps + weight h p.places
  weight_more h [] p = omega arith
  weight_more h (q ∷ ps) p = omega (arith, weight_more h ps p)

  pub theirs_too : (k : ℕ) (log : List (ℕ × E)) (ps : List (Known E)) (p : Known E) → AreAllByTheirs k log ps → ArePlacesBy p.number k log p.places → AreAllByTheirs k log (ps ++ p ∷ [])
  theirs_too k log [] p h a = (a, tt)
  theirs_too k log (q ∷ ps) p h a = (h.0, theirs_too k log ps p h.1 a)

  fewer : (k : ℕ) (log : List (ℕ × E)) (ps : List (Known E)) → AreAllByTheirs k log ps → weight_of_places (λ _. 1) ps ≤ over (λ by. weight (λ _. 1) (all_places by k log)) ps
  fewer k log [] h = omega arith
  fewer k log (p ∷ ps) h = omega (arith, at_most p.number k log p.places h.0, fewer k log ps h.1, weight-one p.places, weight-one (all_places p.number k log))

  all_exact : (w : ℕ → ℕ) (k : ℕ) (log : List (ℕ × E)) (ps : List (Known E)) → AreAllByTheirs k log ps → weight_of_places (λ _. 1) ps ≡ over (λ by. weight (λ _. 1) (all_places by k log)) ps → weight_of_places w ps ≡ over (λ by. weight w (all_places by k log)) ps
  all_exact w k log [] h e = refl
  all_exact w k log (p ∷ ps) h e =
      let one : length p.places ≡ length (all_places p.number k log) = omega (arith, e, at_most p.number k log p.places h.0, fewer k log ps h.1, weight-one p.places, weight-one (all_places p.number k log)) in
      let rest : weight_of_places (λ _. 1) ps ≡ over (λ by. weight (λ _. 1) (all_places by k log)) ps = omega (arith, e, one, weight-one p.places, weight-one (all_places p.number k log)) in
      omega (arith, ap (λ (l : List ℕ). weight w l) (exact p.number k log p.places h.0 one), all_exact w k log ps h.1 rest)

  -- each place since the opening is a place of one pass, once
  pub each_once : (w : ℕ → ℕ) (passes k : ℕ) (log : List (ℕ × E)) (ps : List (Known E)) → AreAll passes 0 ps → AllBy passes log → AreAllByTheirs k log ps → weight_of_places (λ _. 1) ps ≡ length log
      → weight_of_places w ps ≡ weight w (numbers_from k (length log))
  each_once w passes k log ps all by h e =
      let count : over (λ by. weight (λ _. 1) (all_places by k log)) ps ≡ length log = over_places (λ _. 1) passes k log ps all by ∙ weight-one (numbers_from k (length log)) ∙ numbers_length k (length log) in
      all_exact w k log ps h (e ∙ sym count) ∙ over_places w passes k log ps all by
