-- Terms and expressions with their variables replaced, from the inside out.
use Rattle.ghc_fire.proofs.Words.{◌≡◌, ℕ, List, [], ◌∷◌, ◌++◌, map, refl, sym, ap, ◌∙◌, inl, inr, map_push, VarName, Operator, Tree, variable, integer, node, Trees, none, more, trees, IsClosed, Expression, operation, replace, replace_all, plugged, operated, Front, Occurs, OccursIn}

pub plugged_push : (fs : List Front) (f : Front) (t : Tree) → plugged (fs ++ f ∷ []) t ≡ plugged fs (node f.name (trees (f.arguments.items ++ t ∷ [])))
plugged_push [] f t = refl
plugged_push (g ∷ fs) f t = ap (λ u. node g.name (trees (g.arguments.items ++ u ∷ []))) (plugged_push fs f t)

pub operated_push : (ps : List (Operator × Expression)) (p : Operator × Expression) (a : Expression) → operated (ps ++ p ∷ []) a ≡ operated ps (operation p.0 a p.1)
operated_push [] p a = refl
operated_push (q ∷ ps) p a = ap (λ b. operation q.0 b q.1) (operated_push ps p a)

module _ (s : VarName → Tree) where
  pub replace_trees : (ts : List Tree) → replace_all s (trees ts) ≡ trees (map (replace s) ts)
  replace_trees [] = refl
  replace_trees (t ∷ ts) = ap (more (replace s t)) (replace_trees ts)

  -- a tree stays where its variables do
  mutual
    pub replace_kept : (t : Tree) → ((x : VarName) → Occurs x t → s x ≡ variable x) → replace s t ≡ t
    replace_kept (variable x) h = h x refl
    replace_kept (integer k) h = refl
    replace_kept (node f ts) h = ap (node f) (replace_all_kept ts h)

    replace_all_kept : (ts : Trees) → ((x : VarName) → OccursIn x ts → s x ≡ variable x) → replace_all s ts ≡ ts
    replace_all_kept none h = refl
    replace_all_kept (more t ts) h = λ i. more (replace_kept t (λ x o. h x (inl o)) i) (replace_all_kept ts (λ x o. h x (inr o)) i)

  pub replace_closed : (t : Tree) → IsClosed t → replace s t ≡ t
  replace_closed t h = replace_kept t (λ x o. absurd (h x o))

  -- one structure further in
  pub further_in : (fs : List Front) (g : Front) (f : List ℕ) (whole front : List Tree) (last place : Tree) → node f (trees whole) ≡ place → whole ≡ front ++ last ∷ [] → g.name ≡ f → g.arguments.items ≡ map (replace s) front
      → plugged (fs ++ g ∷ []) (replace s last) ≡ plugged fs (replace s place)
  further_in fs g f whole front last place e w p q =
      let args : trees (g.arguments.items ++ replace s last ∷ []) ≡ replace_all s (trees whole) =
      ap (λ l. trees (l ++ replace s last ∷ [])) q ∙ ap trees (sym (map_push (replace s) front last)) ∙ sym (replace_trees (front ++ last ∷ [])) ∙ ap (λ l. replace_all s (trees l)) (sym w) in
      plugged_push fs g (replace s last) ∙ ap (plugged fs) ((λ i. node (p i) (args i)) ∙ ap (replace s) e)
