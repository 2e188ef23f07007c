-- A term that is being replaced along its last arguments, and what of it stays.
use Rattle.ghc_fire.proofs.Words.{◌≡◌, ℕ, ◌+◌, ◌≤◌, List, [], ◌∷◌, ◌++◌, length, take, map, length-append, sym, ap, ◌∙◌, subst, arith, Option, Some, None, MatchOption, map_push, take-append-le, take_all, VarName, Tree, node, trees, replace, plugged, Front}
use Rattle.ghc_fire.proofs.Rebuilding.{replace_trees, further_in}

module _ (s : VarName → Tree) where
  -- the term is walked up to the place; if that stays, so does the rest, which stands in the first so many structures
  pub record Walked (term : Tree) (fs : List Front) (place : Tree) (count : ℕ) (rest : Tree) : Type 0 where
    pub whole : plugged fs (replace s place) ≡ replace s term
    pub kept : plugged (take count fs) (replace s rest) ≡ replace s term
    pub within : count ≤ length fs
    pub stays : replace s place ≡ place → replace s rest ≡ rest
    pub first : count ≡ 0 → rest ≡ term

  -- where the place stays
  pub walk_stays : (term : Tree) (fs : List Front) (place : Tree) (count : ℕ) (rest : Tree) → Walked term fs place count rest → replace s place ≡ place
      → (o : Option Tree) → MatchOption o (count ≡ 0) (λ t. t ≡ plugged (take count fs) rest) → MatchOption o (replace s term ≡ term) (λ t. t ≡ replace s term)
  walk_stays term fs place count rest w p None z = subst (λ t. replace s t ≡ t) (w.first z) (w.stays p)
  walk_stays term fs place count rest w p (Some t) e = e ∙ ap (plugged (take count fs)) (sym (w.stays p)) ∙ w.kept

  -- a structure whose arguments stay
  structure_stays : (f : List ℕ) (whole front : List Tree) (last place : Tree) → node f (trees whole) ≡ place → whole ≡ front ++ last ∷ [] → map (replace s) front ≡ front → replace s last ≡ last → replace s place ≡ place
  structure_stays f whole front last place e w p q =
      let all : map (replace s) whole ≡ whole = ap (map (replace s)) w ∙ map_push (replace s) front last ∙ (λ i. p i ++ q i ∷ []) ∙ sym w in
      subst (λ t. replace s t ≡ t) e (ap (node f) (replace_trees s whole ∙ ap trees all))

  module _ (term : Tree) (fs : List Front) (place : Tree) (count : ℕ) (rest : Tree) (walked : Walked term fs place count rest) where
    module _ (g : Front) (f : List ℕ) (whole front : List Tree) (last : Tree) (seen : node f (trees whole) ≡ place) (split : whole ≡ front ++ last ∷ []) where
      -- one structure further in
      further : g.name ≡ f → g.arguments.items ≡ map (replace s) front → plugged (fs ++ g ∷ []) (replace s last) ≡ replace s term
      further named made = further_in s fs g f whole front last place seen split named made ∙ walked.whole

      -- where the other arguments stay
      pub walk_same : (gs : List Front) → gs ≡ fs ++ g ∷ [] → g.name ≡ f → g.arguments.items ≡ map (replace s) front → map (replace s) front ≡ front → Walked term gs last count rest
      walk_same gs pushed named made same =
          let before : take count (fs ++ g ∷ []) ≡ take count fs = take-append-le count fs (g ∷ []) walked.within in
          let now : Walked term (fs ++ g ∷ []) last count rest =
          record {
            whole = further named made;
            kept = ap (λ l. plugged l (replace s rest)) before ∙ walked.kept;
            within = simp length-append (omega (arith, walked.within));
            stays = λ e. walked.stays (structure_stays f whole front last place seen split same e);
            first = walked.first;
          }
          in
          subst (λ l. Walked term l last count rest) (sym pushed) now

      -- where one of them becomes another
      pub walk_other : (gs : List Front) → gs ≡ fs ++ g ∷ [] → g.name ≡ f → g.arguments.items ≡ map (replace s) front → (n : ℕ) → n ≡ length gs → Walked term gs last n last
      walk_other gs pushed named made n counted =
          let all : plugged gs (replace s last) ≡ replace s term = ap (λ l. plugged l (replace s last)) pushed ∙ further named made in
          let long : length gs ≡ length fs + 1 = ap length pushed ∙ length-append fs (g ∷ []) in
          let taken : take n gs ≡ gs = take_all n gs (omega (arith, counted)) in
          record {
            whole = all;
            kept = ap (λ l. plugged l (replace s last)) taken ∙ all;
            within = omega (arith, counted);
            stays = λ e. e;
            first = λ z. absurd (omega (arith, z, counted, long));
          }
