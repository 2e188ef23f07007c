-- Each goal that the grammar has a text for is said by a derivation, whose tokens have as their text what is printed of the goal.
use Rattle.ghc_reader.proofs.Words.{◌≡◌, ℕ, ◌≤◌, true, false, List, [], ◌∷◌, ◌++◌, length, refl, sym, ap, ◌∙◌, subst, arith, append_assoc, codes, bytes_eq, nat_eq, ◌&&◌, nat_tests, bytes_eq-Decides, VarName, node, trees, list_of, variable_text, term_text, arguments_text, all_resolved, stream, goal_text, expression_text, list_of-trees, Piece, Equals, Token, Item, Tree, structure, tree_of, arguments_of, item_of, count, misplaced_goal, place_if, widest, widest_of, widest_goal, SaysBy, SaysAllBy, SaysValueBy, SaysGoalBy, is_true, IsWritable, IsWritableExpression, IsWritableGoal}
use Rattle.ghc_term.specs.Tree as term
use Rattle.ghc_term.specs.Expression as shown
use Rattle.ghc_term.specs.Goal.{Goal, call, unify, assign}
use Rattle.ghc_reader.specs.declared.token.Token.TheVariants as token
use Rattle.ghc_reader.specs.Grammar as grammar
use Rattle.ghc_reader.proofs.Meanings.{IsSoundBy}
use Rattle.ghc_reader.proofs.TokenTexts.{text_of, AreSpaced}
use Rattle.ghc_reader.proofs.Derivations.{derive, derive_arguments, derive_back, arguments_back, spaced_term}
use Rattle.ghc_reader.proofs.PrintedTokens.{printed, printed_arguments}
use Rattle.ghc_reader.proofs.GrammarTrees.{AreMeant, meant, all_meant}
use Rattle.ghc_reader.proofs.PrintedValues.{derive_value, value_back, spaced_value, value_printed, value_meant}

-- A derivation of a goal, whatever tokens stand after it: it says the goal, its tokens are spaced, and their text is what is printed.
pub record IsMeantGoal (C : List ℕ → VarName → Type 0) (W : List ℕ → Type 0) (g : Goal) : Type 0 where
  pub item : Item
  pub says : (ts : List Token) → SaysGoalBy C (item_of item ts) g
  pub spaced : (ts : List Token) → AreSpaced W false ts → AreSpaced W true (grammar.item item ts)
  pub printed_as : (ps : List Piece) (ts : List Token) → text_of (grammar.item item ts) ps ≡ goal_text g ++ text_of ts ps
  pub plain : (ts : List Token) → is_true (item_of item ts) ≡ false
  pub placed : (ts : List Token) → misplaced_goal (item_of item ts) ≡ []
  pub width : (ts : List Token) → widest_goal (item_of item ts) ≤ 255

-- ---- a call that is another than some one

another_call : (name f : List ℕ) (k n : ℕ) → ¬ ((f ≡ name) × (n ≡ k)) → (bytes_eq f name && nat_eq n k) ≡ false
another_call name f k n other = grind (arith, nat_tests, bytes_eq-Decides)

unresolved : (us : List term.Tree) → all_resolved (λ t. t) us ≡ trees us
unresolved [] = refl
unresolved (u ∷ us) = ap (term.more u) (unresolved us)

-- ---- each form

-- where V holds of the variables, each of which is called, as it is printed, by a name that passes W
module _ (V : VarName → Type 0) (C : List ℕ → VarName → Type 0) (W : List ℕ → Type 0) (call_by : (x : VarName) → V x → (v : List ℕ) × C v x × W v) (called : (v : List ℕ) (x : VarName) → C v x → v ≡ variable_text x) where
  says_back : (s : Tree) (u : term.Tree) → SaysBy C s u → SaysBy C (tree_of (derive s)) u
  says_back s u says = subst (λ t. SaysBy C t u) (sym (derive_back s)) says

  spaced_derived : (s : Tree) (ts : List Token) → IsSoundBy W s → AreSpaced W false ts → AreSpaced W true (grammar.term (derive s) ts)
  spaced_derived s ts sound behind = spaced_term W (derive s) ts (subst (IsSoundBy W) (sym (derive_back s)) sound) behind

  width_back : (s : Tree) → widest s ≤ 255 → widest (tree_of (derive s)) ≤ 255
  width_back s width = subst (λ t. widest t ≤ 255) (sym (derive_back s)) width

  module _ (f : List ℕ) (us : List term.Tree) (w : IsWritableGoal V (call f us)) (m : AreMeant C W (trees us)) where
    same_list : m.listed ≡ us
    same_list = sym (list_of-trees m.listed) ∙ ap list_of (sym m.are) ∙ list_of-trees us

    say_all : SaysAllBy C m.all us
    say_all = subst (SaysAllBy C m.all) same_list m.say

    say_back : SaysAllBy C (arguments_of (derive_arguments m.all)) us
    say_back = subst (λ x. SaysAllBy C x us) (sym (arguments_back m.all)) say_all

    counted : count (arguments_of (derive_arguments m.all)) ≡ length us
    counted = ap count (arguments_back m.all) ∙ m.counted ∙ ap length (list_of-trees us)

    call_meant : IsMeantGoal C W (call f us)
    call_meant = record {
      item = grammar.goal f (derive_arguments m.all);
      says = λ ts. (us, refl, say_back);
      spaced = λ ts behind. spaced_derived (structure f m.all) ts (w.0, m.sound) behind;
      printed_as = λ ps ts.
          ap (λ l. f ++ l) (printed_arguments C W called ps m.all us say_all m.sound ts ∙ ap (λ l. arguments_text l ++ text_of ts ps) (sym (unresolved us)))
          ∙ sym (append_assoc f (arguments_text (all_resolved (λ t. t) us)) (text_of ts ps));
      plain = λ ts. ap (λ n. bytes_eq f (codes "true") && nat_eq n 0) counted ∙ another_call (codes "true") f 0 (length us) w.3;
      placed = λ ts.
          ap (λ b. place_if b (record { left = length (token.Name f ∷ grammar.arguments (derive_arguments m.all) ts); name = f; arguments = arguments_of (derive_arguments m.all) }))
          (ap (λ n. bytes_eq f (codes "instream") && nat_eq n 1) counted ∙ another_call (codes "instream") f 1 (length us) w.4);
      width = λ ts. omega (arith, w.1, counted, m.width, ap widest_of (arguments_back m.all));
    }

  unify_meant : (t u : term.Tree) → IsWritable V t → IsWritable V u → IsMeantGoal C W (unify t u)
  unify_meant t u wt wu =
      let a = meant V C W call_by t wt in
      let b = meant V C W call_by u wu in
      record {
        item = grammar.unify (derive a.seen) (derive b.seen);
        says = λ ts. (t, u, refl, says_back a.seen t a.says, says_back b.seen u b.says);
        spaced = λ ts behind. spaced_derived a.seen (token.Mark Equals ∷ grammar.term (derive b.seen) ts) a.sound (tt, spaced_derived b.seen ts b.sound behind);
        printed_as = λ ps ts.
            printed C W called ps a.seen t a.says a.sound (token.Mark Equals ∷ grammar.term (derive b.seen) ts)
            ∙ ap (λ l. term_text t ++ (codes " = " ++ l)) (printed C W called ps b.seen u b.says b.sound ts)
            ∙ ap (λ l. term_text t ++ l) (sym (append_assoc (codes " = ") (term_text u) (text_of ts ps)))
            ∙ sym (append_assoc (term_text t) (codes " = " ++ term_text u) (text_of ts ps));
        plain = λ ts. refl;
        placed = λ ts. refl;
        width = λ ts. omega (arith, width_back a.seen a.width, width_back b.seen b.width);
      }

  assign_meant : (x : VarName) (e : shown.Expression) → V x → IsWritableExpression V e → IsMeantGoal C W (assign (term.variable x) e)
  assign_meant x e wx we =
      let name = call_by x wx in
      let b = value_meant V C W call_by e we in
      record {
        item = grammar.assign name.0 (derive_value b.seen);
        says = λ ts. (x, e, refl, name.1, subst (λ s. SaysValueBy C s e) (sym (value_back b.seen)) b.says);
        spaced = λ ts behind. ((refl, name.2), (tt, spaced_value W b.seen ts b.sound behind));
        printed_as = λ ps ts.
            ap (λ l. l ++ (codes " := " ++ text_of (grammar.expression (derive_value b.seen) ts) ps)) (called name.0 x name.1)
            ∙ ap (λ l. variable_text x ++ (codes " := " ++ l)) (value_printed C called ps b.seen e b.says ts)
            ∙ ap (λ l. variable_text x ++ l) (sym (append_assoc (codes " := ") (expression_text e) (text_of ts ps)))
            ∙ sym (append_assoc (variable_text x) (codes " := " ++ expression_text e) (text_of ts ps));
        plain = λ ts. refl;
        placed = λ ts. refl;
        width = λ ts. omega arith;
      }

  pub goal_meant : (g : Goal) → IsWritableGoal V g → IsMeantGoal C W g
  goal_meant (call f us) w = call_meant f us w (all_meant V C W call_by (trees us) w.2)
  goal_meant (unify t u) w = unify_meant t u w.0 w.1
  goal_meant (assign (term.variable x) e) w = assign_meant x e w.0 w.1
  goal_meant (assign (term.integer k) e) w = absurd w.0
  goal_meant (assign (node f us) e) w = absurd w.0
  goal_meant (stream k x) w = absurd w
