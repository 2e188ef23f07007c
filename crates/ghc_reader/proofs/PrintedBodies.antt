-- Goals that the grammar has a text for are said by a derivation, whose tokens are those of the text that is printed of the goals.
use Rattle.ghc_reader.proofs.Words.{◌≡◌, ℕ, ◌≤◌, true, false, List, [], ◌∷◌, ◌++◌, length, refl, sym, ap, ◌∙◌, subst, inl, inr, arith, cond, Some, codes, All, not, filter_map, All-nil, All-cons, VarName, In, variable_text, goal_text, IsRun, is_word, begins_variable, Piece, spelled, IsRefusedToken, IsLexed, token_of, token_places, start, place_behind, Comma, Reserved, Body, last, next, body, item_of, goals_of, misplaced_body, widest_goals, SaysGoalBy, Each, doing, is_true, further_goals, IsWritableGoal}
use Rattle.std.proofs.Common.{append-nil}
use Rattle.ghc_term.specs.Goal.{Goal}
use Rattle.ghc_reader.specs.declared.token.Token.TheVariants as token
use Rattle.ghc_reader.specs.declared.lexer.symbol.Symbol.TheVariants as symbol
use Rattle.ghc_reader.specs.Grammar as grammar
use Rattle.ghc_reader.specs.Source as source
use Rattle.ghc_reader.proofs.Append.{item_append}
use Rattle.ghc_reader.proofs.MarkPieces.{mark_stands}
use Rattle.ghc_reader.proofs.OperatorPieces.{space, space_stands, symbol_piece}
use Rattle.ghc_reader.proofs.TokenTexts.{pieces_of, CutBehind, cuts, IsKept, none_refused, tokens_back, pieces_lexed}
use Rattle.ghc_reader.proofs.PrintedItems.{IsMeantGoal, goal_meant}

-- The comma between two goals.
abbrev comma : Piece
comma = symbol_piece (symbol.Mark Comma)

-- A derivation of goals: it says them, and pieces with its tokens have as their text what is printed.
pub record IsMeantBody (C : List ℕ → VarName → Type 0) (reserved : Reserved) (g : Goal) (gs : List Goal) : Type 0 where
  pub body_is : Body
  pub pieces : List Piece
  pub cut : CutBehind true pieces
  pub kept_all : All (IsKept reserved) pieces
  pub back : filter_map token_of pieces ≡ body body_is []
  pub text : spelled pieces [] ≡ goal_text g ++ further_goals gs
  pub says : Each (SaysGoalBy C) (doing (goals_of body_is [])) (g ∷ gs)
  pub placed : misplaced_body (goals_of body_is []) ≡ []
  pub width : widest_goals (goals_of body_is []) ≤ 255
  pub many : length (goals_of body_is []) ≡ length (g ∷ gs)

-- a goal that is not `true` does something
doing_first : (x : source.Goal) (xs : List source.Goal) → is_true x ≡ false → doing (x ∷ xs) ≡ x ∷ doing xs
doing_first x xs plain = ap (λ b. cond (not b) (x ∷ doing xs) (doing xs)) plain

module _ (V : VarName → Type 0) (C : List ℕ → VarName → Type 0) (W : List ℕ → Type 0) (call_by : (x : VarName) → V x → (v : List ℕ) × C v x × W v) (called : (v : List ℕ) (x : VarName) → C v x → v ≡ variable_text x) where
  module _ (reserved : Reserved) (form : (v : List ℕ) → W v → IsRun begins_variable is_word v) (kept : (v : List ℕ) → W v → ¬ (IsRefusedToken reserved (Some (token.Variable v)))) where
    one_goal : (g : Goal) → IsMeantGoal C W g → IsMeantBody C reserved g []
    one_goal g m =
        let tokens = grammar.item m.item [] in
        let spaced = m.spaced [] tt in
        record {
          body_is = last m.item;
          pieces = pieces_of tokens [];
          cut = cuts reserved W form kept true tokens [] spaced (tt, tt) (λ signs may. tt);
          kept_all = none_refused reserved W form kept true tokens [] spaced (All-nil (IsKept reserved));
          back = tokens_back reserved W form kept true tokens [] spaced ∙ append-nil tokens;
          text = m.printed_as [] [];
          says = subst (λ l. Each (SaysGoalBy C) l (g ∷ [])) (sym (doing_first (item_of m.item []) [] (m.plain []))) (m.says [], tt);
          placed = ap (λ l. l ++ []) (m.placed []);
          width = omega (arith, m.width []);
          many = refl;
        }

    more_goals : (g h : Goal) (gs : List Goal) → IsMeantGoal C W g → IsMeantBody C reserved h gs → IsMeantBody C reserved g (h ∷ gs)
    more_goals g h gs m others =
        let tokens = grammar.item m.item [] in
        let spaced = m.spaced [] tt in
        let ps = others.pieces in
        let behind = token.Mark Comma ∷ body others.body_is [] in
        let others_cut : CutBehind false (comma ∷ space ∷ ps) = λ signs may. (mark_stands signs Comma (32 ∷ spelled ps []) refl, (space_stands true (spelled ps []), others.cut true (λ e. refl))) in
        record {
          body_is = next m.item others.body_is;
          pieces = pieces_of tokens (comma ∷ space ∷ ps);
          cut = cuts reserved W form kept true tokens (comma ∷ space ∷ ps) spaced (refl, refl) others_cut;
          kept_all = none_refused reserved W form kept true tokens (comma ∷ space ∷ ps) spaced (All-cons (IsKept reserved) comma (space ∷ ps) (λ r. r) (All-cons (IsKept reserved) space ps (λ r. r) others.kept_all));
          back = tokens_back reserved W form kept true tokens (comma ∷ space ∷ ps) spaced ∙ ap (λ l. tokens ++ (token.Mark Comma ∷ l)) others.back ∙ sym (item_append m.item [] behind);
          text = m.printed_as (comma ∷ space ∷ ps) [] ∙ ap (λ l. goal_text g ++ (codes ", " ++ l)) others.text;
          says =
              subst (λ l. Each (SaysGoalBy C) l (g ∷ h ∷ gs)) (sym (doing_first (item_of m.item behind) (goals_of others.body_is []) (m.plain behind))) (m.says behind, others.says);
          placed = λ i. m.placed behind i ++ others.placed i;
          width = omega (arith, m.width behind, others.width);
          many = omega (arith, others.many);
        }

    pub goals_meant : (g : Goal) (gs : List Goal) → ((h : Goal) → In h (g ∷ gs) → IsWritableGoal V h) → IsMeantBody C reserved g gs
    goals_meant g [] w = one_goal g (goal_meant V C W call_by called g (w g (inl refl)))
    goals_meant g (h ∷ gs) w =
        more_goals g h gs (goal_meant V C W call_by called g (w g (inl refl))) (goals_meant h gs (λ x stands. w x (inr stands)))

    -- the tokens of the text of goals
    pub goals_lexed : (g : Goal) (gs : List Goal) (m : IsMeantBody C reserved g gs) → IsLexed reserved (goal_text g ++ further_goals gs) (body m.body_is []) (token_places start m.pieces ++ place_behind start (spelled m.pieces []) ∷ [])
    goals_lexed g gs m =
        subst (λ text. IsLexed reserved text (body m.body_is []) (token_places start m.pieces ++ place_behind start (spelled m.pieces []) ∷ [])) m.text
        (pieces_lexed reserved W form kept m.pieces (body m.body_is []) m.cut m.kept_all m.back)
