-- What goals say, and which variables they meet.
use Rattle.ghc_reader.proofs.Words.{◌≡◌, ℕ, ◌+◌, ◌<◌, List, [], ◌∷◌, ◌++◌, length, take, get_or, refl, sym, ap, ◌∙◌, subst, append_assoc, Bool, true, false, cond, Option, Some, None, Box, Global, Vec, vec_len, arith, inl, inr, ◌⊎◌, ◌==◌, not, MatchOption, bytes_eq, nat_eq, codes, append-nil, filter-append, VarName, variables_of_expression, variables_of_goal, variables_of_goals, Tree, Value, SourceTerm, SourceCall, SourceGoal, Goal, cells, view, views, goal_view, goal_views, Names, IsCalled, Says, SaysValue, SaysGoal, SaysAsked, Each, is_true, doing, variable_of, tail_of, MeetsAll}
use Rattle.ghc_term.specs.Tree as term
use Rattle.ghc_term.specs.Expression.{Expression}
use Rattle.ghc_term.specs.Goal as goal
use Rattle.ghc_term.specs.Variables.{variables}
use Rattle.ghc_reader.specs.declared.source.SourceTerm.TheViews as w
use Rattle.ghc_reader.specs.declared.source.SourceGoal.TheVariants as source
use Rattle.ghc_reader.specs.Source.{call, unify, assign}
use Rattle.ghc_reader.proofs.Misplaced.{count_views}
use Rattle.ghc_reader.proofs.Scopes.{Grows, grows, met_also, called_still}
use Rattle.ghc_reader.proofs.TermsLowered.{says_still, says_all_still}
use Rattle.ghc_reader.proofs.ExpressionsLowered.{value_still, mapped_more}
use Rattle.ghc_reader.proofs.Views.{view_list}

-- a list with elements is no variable
pub list_has_no_variable : (a : Vec SourceTerm Global) (b : Box SourceTerm Global) → false ≡ (vec_len a == 0) → variable_of (view (w.List a b)) ≡ None
list_has_no_variable a b e = ap variable_of (view_list a b) ∙ by_items a.items (e ∙ ap (λ n. n == 0) a.ok.0)
  where
    by_items : (ts : List SourceTerm) → false ≡ (length ts == 0) → variable_of (cells (views ts) (view b.value)) ≡ None
    by_items [] e = cc
    by_items (t ∷ ts) e = refl

pub goal_still : (g : Goal) (a b : Names) (u : goal.Goal) → Grows a b → SaysGoal a g u → SaysGoal b g u
goal_still (call c) a b u g h = (h.0, h.1, says_all_still c.arguments a b h.0 g h.2)
goal_still (unify s t) a b u g h = (h.0, h.1, h.2, says_still s a b h.0 g h.3, says_still t a b h.1 g h.4)
goal_still (assign v e) a b u g h = (h.0, h.1, h.2, called_still a b v h.0 g h.3, value_still e a b h.1 g h.4)

-- an equation says what its sides say
pub unify_says : (s t : Tree) (b c : Names) (l r : term.Tree) (u : goal.Goal) → u ≡ goal.unify l r → Says b s l → MeetsAll b (variables r) c → Says c t r → SaysGoal c (unify s t) u
unify_says s t b c l r u made h met k = (l, r, made, says_still s b c l (grows (variables r) b c met) h, k)

pub unify_meets : (a b c : Names) (l r : term.Tree) (u : goal.Goal) → u ≡ goal.unify l r → MeetsAll a (variables l) b → MeetsAll b (variables r) c → MeetsAll a (variables_of_goal u) c
unify_meets a b c l r u made m n = subst (λ x. MeetsAll a (variables_of_goal x) c) (sym made) (met_also (variables l) (variables r) a b c m n)

-- an assignment says what its sides say
pub assign_says : (v : List ℕ) (e : Value) (b c : Names) (x : VarName) (left : term.Tree) (r : Expression) (u : goal.Goal) → u ≡ goal.assign left r → left ≡ term.variable x → IsCalled b v x → MeetsAll b (variables_of_expression r) c → SaysValue c e r → SaysGoal c (assign v e) u
assign_says v e b c x left r u made at h met k =
    (x, r, made ∙ ap (λ l. goal.assign l r) at, called_still b c v x (grows (variables_of_expression r) b c met) h, k)

pub each_still : {X Y : Type 0} (R S : X → Y → Type 0) → ((x : X) (y : Y) → R x y → S x y) → (xs : List X) (ys : List Y) → Each R xs ys → Each S xs ys
each_still R S f [] [] h = tt
each_still R S f (x ∷ xs) (y ∷ ys) h = (f x y h.0, each_still R S f xs ys h.1)
each_still R S f xs ys h = absurd h

pub each_push : {X Y : Type 0} (R : X → Y → Type 0) (xs : List X) (ys : List Y) (x : X) (y : Y) → Each R xs ys → R x y → Each R (xs ++ x ∷ []) (ys ++ y ∷ [])
each_push R [] [] x y h k = (k, tt)
each_push R (x' ∷ xs) (y' ∷ ys) x y h k = (h.0, each_push R xs ys x y h.1 k)
each_push R xs ys x y h k = absurd h

pub variables_goal_push : (gs : List goal.Goal) (g : goal.Goal) → variables_of_goals (gs ++ g ∷ []) ≡ variables_of_goals gs ++ variables_of_goal g
variables_goal_push [] g = append-nil (variables_of_goal g)
variables_goal_push (h ∷ gs) g = ap (λ xs. variables_of_goal h ++ xs) (variables_goal_push gs g) ∙ sym (append_assoc (variables_of_goal h) (variables_of_goals gs) (variables_of_goal g))

-- one goal more is among those that do something, but where it is `true`
doing_more : (goals : List SourceGoal) (i : ℕ) (g : SourceGoal) (b : Bool) → i < length goals → g ≡ get_or goals i g → is_true (goal_view g) ≡ b → doing (goal_views (take (i + 1) goals)) ≡ doing (goal_views (take i goals)) ++ cond (not b) (goal_view g ∷ []) []
doing_more goals i g b less is e =
    ap doing (mapped_more goal_view goals i g less is) ∙ filter-append (λ h. not (is_true h)) (goal_views (take i goals)) (goal_view g ∷ [])
    ∙ ap (λ c. doing (goal_views (take i goals)) ++ cond (not c) (goal_view g ∷ []) []) e

-- what holds of the goals so far, under the names that are known then
pub goals_skipped : (R : Goal → goal.Goal → Type 0) (goals : List SourceGoal) (i : ℕ) (g : SourceGoal) (us : List goal.Goal) → i < length goals → g ≡ get_or goals i g → is_true (goal_view g) ≡ true → Each R (doing (goal_views (take i goals))) us → Each R (doing (goal_views (take (i + 1) goals))) us
goals_skipped R goals i g us less is e h =
    subst (λ l. Each R l us) (sym (doing_more goals i g true less is e ∙ append-nil (doing (goal_views (take i goals))))) h

pub goals_more : (R S : Goal → goal.Goal → Type 0) (goals : List SourceGoal) (i : ℕ) (g : SourceGoal) (us new : List goal.Goal) (u : goal.Goal) → ((x : Goal) (y : goal.Goal) → R x y → S x y) → i < length goals → g ≡ get_or goals i g → is_true (goal_view g) ≡ false → new ≡ us ++ u ∷ [] → Each R (doing (goal_views (take i goals))) us → S (goal_view g) u → Each S (doing (goal_views (take (i + 1) goals))) new
goals_more R S goals i g us new u still less is e grown h k =
    rw (doing_more goals i g false less is e, grown)
    (each_push S (doing (goal_views (take i goals))) us (goal_view g) u (each_still R S still (doing (goal_views (take i goals))) us h) k)

pub goals_meet : (first a b : Names) (us new : List goal.Goal) (u : goal.Goal) → new ≡ us ++ u ∷ [] → MeetsAll first (variables_of_goals us) a → MeetsAll a (variables_of_goal u) b → MeetsAll first (variables_of_goals new) b
goals_meet first a b us new u grown m n =
    subst (λ xs. MeetsAll first xs b) (sym (ap variables_of_goals grown ∙ variables_goal_push us u)) (met_also (variables_of_goals us) (variables_of_goal u) first a b m n)

-- no variable where the call is another
pub another_has_no_tail : (g : SourceGoal) (c : SourceCall) → g ≡ source.Call c → (bytes_eq c.name (codes "instream") ≡ false) ⊎ (nat_eq (length c.arguments.items) 1 ≡ false) → tail_of (goal_view g) ≡ None
another_has_no_tail g c is (inl e) = ap (λ x. tail_of (goal_view x)) is ∙ grind (arith, e)
another_has_no_tail g c is (inr e) = ap (λ x. tail_of (goal_view x)) is ∙ grind (arith, ap (λ n. nat_eq n 1) (count_views c.arguments.items) ∙ e)

option_still : (o : Option (List ℕ)) (g : Goal) (a b : Names) (u : goal.Goal) → Grows a b → MatchOption o (SaysGoal a g u) (λ v. (k : ℕ) × (x : VarName) × (u ≡ goal.stream k x) × IsCalled a v x) → MatchOption o (SaysGoal b g u) (λ v. (k : ℕ) × (x : VarName) × (u ≡ goal.stream k x) × IsCalled b v x)
option_still None g a b u grow h = goal_still g a b u grow h
option_still (Some v) g a b u grow h = (h.0, h.1, h.2, called_still a b v h.1 grow h.3)

pub asked_still : (g : Goal) (a b : Names) (u : goal.Goal) → Grows a b → SaysAsked a g u → SaysAsked b g u
asked_still g a b u grow h = option_still (tail_of g) g a b u grow h

-- Which goals are said so far, and which names are known by then.
pub record GoalsSoFar (R : Names → Goal → goal.Goal → Type 0) (gs : List Goal) (first names : Names) (us : List goal.Goal) : Type 0 where
  pub says : Each (R names) gs us
  pub met : MeetsAll first (variables_of_goals us) names

-- A goal `true` is left out.
pub goals_skip : (R : Names → Goal → goal.Goal → Type 0) (goals : List SourceGoal) (i : ℕ) (g : SourceGoal) (first a later : Names) (us now : List goal.Goal) → later ≡ a → now ≡ us → i < length goals → g ≡ get_or goals i g → is_true (goal_view g) ≡ true → Each (R a) (doing (goal_views (take i goals))) us → MeetsAll first (variables_of_goals us) a → GoalsSoFar R (doing (goal_views (take (i + 1) goals))) first later now
goals_skip R goals i g first a later us now e f less is t h m =
    rw (e, f) (record { says = goals_skipped (R a) goals i g us less is t h; met = m })

-- Any other goal is said.
pub goals_step : (R : Names → Goal → goal.Goal → Type 0) → ((g : Goal) (a b : Names) (u : goal.Goal) → Grows a b → R a g u → R b g u) → (goals : List SourceGoal) (i : ℕ) (g : SourceGoal) (first a b later : Names) (us new now : List goal.Goal) (u : goal.Goal) → later ≡ b → now ≡ new → i < length goals → g ≡ get_or goals i g → is_true (goal_view g) ≡ false → new ≡ us ++ u ∷ [] → Each (R a) (doing (goal_views (take i goals))) us → MeetsAll first (variables_of_goals us) a → R b (goal_view g) u → MeetsAll a (variables_of_goal u) b → GoalsSoFar R (doing (goal_views (take (i + 1) goals))) first later now
goals_step R still goals i g first a b later us new now u e f less is t grown h m k n =
    rw (e, f) (record {
      says = goals_more (R a) (R b) goals i g us new u (λ x y r. still x a b y (grows (variables_of_goal u) a b n) r) less is t grown h k;
      met = goals_meet first a b us new u grown m n;
    })
