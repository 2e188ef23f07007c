-- Goals as they are printed, and that they are read again.
use Rattle.std.specs.Prelude.{◌≡◌, ℕ, ◌≤◌, List, [], ◌∷◌, ◌++◌, length, codes, FitsSigned}
use Rattle.std.specs.Int.{w64}
use Rattle.ghc_term.specs.declared.var_name.VarName.{VarName}
use Rattle.ghc_term.specs.Lists.{In}
use Rattle.ghc_term.specs.Tree as term
use Rattle.ghc_term.specs.Tree.{node, trees}
use Rattle.ghc_term.specs.Text.{variable_text}
use Rattle.ghc_term.specs.InputTerm.{IsNameText, IsHead}
use Rattle.ghc_term.specs.Expression.{Expression, leaf, operation}
use Rattle.ghc_term.specs.Goal.{Goal, call, unify, assign, stream}
use Rattle.ghc_term.specs.GoalText.{goal_text}
use Rattle.ghc_term.specs.Variables.{variables_of_goals, firsts}
use Rattle.ghc_reader.specs.declared.token.Token.{Token}
use Rattle.ghc_reader.specs.declared.place.Place.{Place}
use Rattle.ghc_reader.specs.declared.lexer.value.Reserved.TheVariants.{Allowed}
use Rattle.ghc_reader.specs.Lexed.{IsLexed, greatest_number}
use Rattle.ghc_reader.specs.Grammar.{Query, query}
use Rattle.ghc_reader.specs.Source as source
use Rattle.ghc_reader.specs.Derived.{query_of}
use Rattle.ghc_reader.specs.Reserved.{misplaced_body}
use Rattle.ghc_reader.specs.Tests.{an_ask, a_body, IsRead}
use Rattle.ghc_reader.specs.Written.{IsWithinLimits}
use Rattle.ghc_reader.specs.Lowered.{Names, IsCalled, SaysGoalBy, Each, doing}

-- ---- the text of goals

-- further goals, each after a comma and a space
abbrev pub further_goals : List Goal → List ℕ
further_goals [] = []
further_goals (g ∷ gs) = codes ", " ++ (goal_text g ++ further_goals gs)

-- goals one after the other, `G, G`, and `true` where there are none
abbrev pub goals_text : List Goal → List ℕ
goals_text [] = codes "true"
goals_text (g ∷ gs) = goal_text g ++ further_goals gs

-- ---- the goals that a text can say

-- the numbers of the variable have 32 bits
pub record HasNumbers (x : VarName) : Type 0 where
  pub step : x.step ≤ greatest_number
  pub place : x.place ≤ greatest_number

module _ (V : VarName → Type 0) where
  abbrev mutual
    -- the grammar has a text for the tree, where V holds of a variable that it has a text for: its integers have 64 bits, and its names stand over arguments as in the grammar
    pub IsWritable : term.Tree → Type 0
    IsWritable (term.variable x) = V x
    IsWritable (term.integer k) = FitsSigned w64 k
    IsWritable (node f ts) = IsHead f ts × AreWritable ts

    -- .. for each of the trees
    pub AreWritable : term.Trees → Type 0
    AreWritable term.none = Unit {0}
    AreWritable (term.more t ts) = IsWritable t × AreWritable ts

  -- a tree that may be an operand: a variable or an integer
  abbrev pub IsWritableOperand : term.Tree → Type 0
  IsWritableOperand (term.variable x) = V x
  IsWritableOperand (term.integer k) = FitsSigned w64 k
  IsWritableOperand (node _ _) = ⊥

  -- the grammar has a text for the expression
  abbrev pub IsWritableExpression : Expression → Type 0
  IsWritableExpression (leaf t) = IsWritableOperand t
  IsWritableExpression (operation _ a b) = IsWritableExpression a × IsWritableExpression b

  -- what stands to the left of `:=`
  abbrev pub IsWritableTarget : term.Tree → Type 0
  IsWritableTarget (term.variable x) = V x
  IsWritableTarget (term.integer _) = ⊥
  IsWritableTarget (node _ _) = ⊥

  -- The grammar has a text for the goal, and no other meaning for that text: a call is neither `true`, which does nothing, nor `instream(X)`, which is a stream.
  abbrev pub IsWritableGoal : Goal → Type 0
  IsWritableGoal (call f ts) =
      IsNameText f × (length ts ≤ 255) × AreWritable (trees ts) × ¬ ((f ≡ codes "true") × (length ts ≡ 0)) × ¬ ((f ≡ codes "instream") × (length ts ≡ 1))
  IsWritableGoal (unify t u) = IsWritable t × IsWritable u
  IsWritableGoal (assign t e) = IsWritableTarget t × IsWritableExpression e
  IsWritableGoal (stream _ _) = ⊥

-- ---- goals that are read again

-- The variable x is called as it is printed, `_n_m`.
abbrev pub IsPrintedAs : List ℕ → VarName → Type 0
IsPrintedAs v x = v ≡ variable_text x

-- The tokens of the text are those of a derivation that says the goals, where C v x tells that the variable x is called v; and none of the goals is misplaced in the text.
pub record IsSaidIn (C : List ℕ → VarName → Type 0) (text : List ℕ) (gs : List Goal) : Type 0 where
  pub tokens : List Token
  pub places : List Place
  pub lexed : IsLexed Allowed text tokens places
  pub derivation : Query
  pub spelled : tokens ≡ query derivation []
  pub says : Each (SaysGoalBy C) (doing (query_of derivation [])) gs
  pub placed : misplaced_body (query_of derivation []) ≡ []

-- No test refuses the text as that of goals in a history, and it says the goals, where C v x tells that the variable x is called v.
abbrev pub IsReadAs : (List ℕ → VarName → Type 0) → List ℕ → List Goal → Type 0
IsReadAs C text gs = (seen : List source.Goal) × IsRead a_body text seen × Each (SaysGoalBy C) (doing seen) gs

-- The variable has one of the names.
abbrev pub IsNamedIn : Names → VarName → Type 0
IsNamedIn names x = (v : List ℕ) × IsCalled names v x

-- Goals that the grammar has a text for are said in the text that is printed of them, whatever the limits, and within the limits they are read again from it as themselves; no other goals are printed so. What a text is read as is such goals, and what is read as asked for in mid-run is read so in a history too.
pub record PrintedGoalsAreReadAgain : Type 0 where
  pub said : (gs : List Goal) → ((g : Goal) → In g gs → IsWritableGoal HasNumbers g) → IsSaidIn IsPrintedAs (goals_text gs) gs
  pub read_again : (gs : List Goal) → ((g : Goal) → In g gs → IsWritableGoal HasNumbers g) → IsWithinLimits gs (length (firsts [] (variables_of_goals gs))) → IsReadAs IsPrintedAs (goals_text gs) gs
  pub only : (gs hs : List Goal) → ((g : Goal) → In g gs → IsWritableGoal HasNumbers g) → ((g : Goal) → In g hs → IsWritableGoal HasNumbers g) → goals_text gs ≡ goals_text hs → gs ≡ hs
  pub writable : (names : Names) (text : List ℕ) (gs : List Goal) → IsReadAs (IsCalled names) text gs → (g : Goal) → In g gs → IsWritableGoal (IsNamedIn names) g
  pub asked : (text : List ℕ) (seen : List source.Goal) → IsRead an_ask text seen → IsRead a_body text seen
