-- The passes and the keeper at the opening.
use Rattle.ghc_shared.proofs.Words.{◌≡◌, ℕ, zero, suc, ◌<◌, List, [], ◌∷◌, ◌++◌, length, drop, refl, sym, ap, ◌∙◌, subst, arith, get_or, Me, Knowledge, items_of, opening_log, AllBy, keeper, front, Known, newcomers, AreAll, IsPass, IsKeeper}
use Rattle.ghc_shared.proofs.Extended.{items_opening, length-opening_log, no_place, drop_all}

module _ {E : Type 0} where
  pub told_opening : (S : Type 0) (me : Me S (Knowledge E)) (es : List E) → me ≡ (front (opening_log es), []) → items_of me.0.seen ≡ es
  told_opening S me es is = ap (λ (m : Me S (Knowledge E)). items_of m.0.seen) is ∙ items_opening es

  pub newcomer_is : (S : Type 0) (base passes : ℕ) (legal : List E → Type 0) (number : ℕ) (places : List ℕ) (me : Me S (Knowledge E)) (parts amount : ℕ) (es : List E)
      → me ≡ (front (opening_log es), []) → legal es → base ≡ length es → number < passes → parts ≡ 1 → amount ≡ 0 → places ≡ [] → IsPass base passes legal number places me parts amount
  newcomer_is S base passes legal number places me parts amount es is lawful base_is low one none no_places =
      subst (λ (m : Me S (Knowledge E)). IsPass base passes legal number places m parts amount) (sym is) (subst (λ (l : List ℕ). IsPass {S = S} base passes legal number l (front (opening_log es), []) parts amount) (sym no_places) record {
        seated = refl;
        lawful = subst legal (sym (items_opening es)) lawful;
        opened = omega (arith, base_is, length-opening_log es);
        rising = no_place number base (drop base (opening_log es));
        numbered = low;
        one_part = one;
        counted = none;
      })

  pub keeper_is : (S : Type 0) (base passes : ℕ) (me : Me S (Knowledge E)) (total : ℕ) (es : List E) → me ≡ (keeper (opening_log es), []) → base ≡ length es → total ≡ 0 → IsKeeper base passes es me total
  keeper_is S base passes me total es is base_is none = subst (λ (m : Me S (Knowledge E)). IsKeeper base passes es m total) (sym is) record {
    seated = refl;
    same = items_opening es;
    made_by = subst (AllBy passes) (sym (drop_all base (opening_log es) (base_is ∙ sym (length-opening_log es)))) tt;
    counted = omega (arith, none, base_is, length-opening_log es);
  }

  all_more : (passes k : ℕ) (ps : List (Known E)) (p : Known E) → AreAll passes k ps → p.number ≡ passes → AreAll (suc passes) k (ps ++ p ∷ [])
  all_more passes k [] p h is = (is ∙ sym h, ap suc h)
  all_more passes k (q ∷ ps) p h is = (h.0, all_more passes (suc k) ps p h.1 is)

  pub all_newcomers : (es : List E) (passes : ℕ) → AreAll passes 0 (newcomers es passes)
  all_newcomers es zero = refl
  all_newcomers es (suc n) = all_more n 0 (newcomers es n) record { number = n; front = es; places = []; submits = 0 } (all_newcomers es n) refl

  -- the same numbers in the same order
  pub all_given : (passes k : ℕ) (ps qs : List (Known E)) → length qs ≡ length ps → ((i : ℕ) (d : Known E) → i < length ps → (get_or qs i d).number ≡ (get_or ps i d).number) → AreAll passes k ps → AreAll passes k qs
  all_given passes k [] [] same given h = h
  all_given passes k [] (q ∷ qs) same given h = absurd (omega (arith, same))
  all_given passes k (p ∷ ps) [] same given h = absurd (omega (arith, same))
  all_given passes k (p ∷ ps) (q ∷ qs) same given h = (given 0 q (omega arith) ∙ h.0, all_given passes (suc k) ps qs (omega (arith, same)) (λ i d lt. given (suc i) d (omega (arith, lt))) h.1)
