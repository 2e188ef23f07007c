-- Goals of good tokens have names of the grammar and integers of 64 bits; and what such goals say within the limits the grammar has a text for.
use Rattle.ghc_reader.proofs.Words.{◌≡◌, ℕ, ◌≤◌, true, false, List, [], ◌∷◌, ◌++◌, length, refl, sym, ap, ◌∙◌, subst, inl, inr, arith, cond, codes, bytes_eq, nat_eq, ◌&&◌, not, nat_tests, bytes_eq-Decides, VarName, In, trees, IsNameText, list_of-trees, Close, Comma, Equals, Stop, Sum, Product, Token, Allowed, Operand, Factors, factor, factors, Expression, summand, summands, Item, Body, last, next, Query, plain, stopped, query, Tree, Trees, Value, Goal, operand_of, product_of, product_onto, value_of, sum_onto, item_of, goals_of, query_of, count, place_if, misplaced_goal, misplaced_body, widest, widest_of, widest_goal, widest_goals, Names, IsCalled, SaysBy, SaysAllBy, SaysValueBy, SaysGoalBy, Each, doing, is_true, IsWritable, AreWritable, IsWritableExpression, IsWritableGoal, IsReadAs, IsNamedIn, false≢true}
use Rattle.ghc_term.specs.Tree as term
use Rattle.ghc_term.specs.Expression as shown
use Rattle.ghc_term.specs.Goal as goal
use Rattle.ghc_reader.specs.declared.token.Token.TheVariants as token
use Rattle.ghc_reader.specs.Grammar as grammar
use Rattle.ghc_reader.specs.Source as source
use Rattle.ghc_reader.proofs.Meanings.{AnyVariable, IsSoundBy, AreSoundBy}
use Rattle.ghc_reader.proofs.Numbered.{test_cases}
use Rattle.ghc_reader.proofs.TokenBytes.{AreGood, good_tokens}
use Rattle.ghc_reader.proofs.ReadTerms.{sound_tree}
use Rattle.ghc_reader.proofs.WithinLimits.{limits_of_query}
use Rattle.ghc_reader.proofs.PrintedValues.{IsSoundValue}

-- ---- a derivation of good tokens is sound

mutual
  sound_operand : (u : Operand) (ts : List Token) → AreGood (grammar.operand u ts) → IsSoundValue AnyVariable (operand_of u) × AreGood ts
  sound_operand (grammar.number n) ts good = good
  sound_operand (grammar.named v) ts good = good
  sound_operand (grammar.nested e) ts good = let inner = sound_expression e (token.Mark Close ∷ ts) good.1 in (inner.0, inner.1.1)

  sound_product : (p : Factors) (ts : List Token) → AreGood (grammar.product p ts) → IsSoundValue AnyVariable (product_of p) × AreGood ts
  sound_product (factor u) ts good = sound_operand u ts good
  sound_product (factors u o p) ts good =
      let first = sound_operand u (token.Product o ∷ grammar.product p ts) good in sound_factors (operand_of u) o p ts first.0 first.1.1

  sound_factors : (left : Value) (o : Product) (p : Factors) (ts : List Token) → IsSoundValue AnyVariable left → AreGood (grammar.product p ts) → IsSoundValue AnyVariable (product_onto left o p) × AreGood ts
  sound_factors left o (factor u) ts sound good = let right = sound_operand u ts good in ((sound, right.0), right.1)
  sound_factors left o (factors u k p) ts sound good =
      let right = sound_operand u (token.Product k ∷ grammar.product p ts) good in
      sound_factors (source.product o left (operand_of u)) k p ts (sound, right.0) right.1.1

  sound_expression : (e : Expression) (ts : List Token) → AreGood (grammar.expression e ts) → IsSoundValue AnyVariable (value_of e) × AreGood ts
  sound_expression (summand p) ts good = sound_product p ts good
  sound_expression (summands p o e) ts good =
      let first = sound_product p (token.Sum o ∷ grammar.expression e ts) good in sound_summands (product_of p) o e ts first.0 first.1.1

  sound_summands : (left : Value) (o : Sum) (e : Expression) (ts : List Token) → IsSoundValue AnyVariable left → AreGood (grammar.expression e ts) → IsSoundValue AnyVariable (sum_onto left o e) × AreGood ts
  sound_summands left o (summand p) ts sound good = let right = sound_product p ts good in ((sound, right.0), right.1)
  sound_summands left o (summands p k e) ts sound good =
      let right = sound_product p (token.Sum k ∷ grammar.expression e ts) good in
      sound_summands (source.sum o left (product_of p)) k e ts (sound, right.0) right.1.1

-- its names are those of the grammar, and its integers have 64 bits
abbrev IsSoundGoal : Goal → Type 0
IsSoundGoal (source.call c) = IsNameText c.name × AreSoundBy AnyVariable c.arguments
IsSoundGoal (source.unify s t) = IsSoundBy AnyVariable s × IsSoundBy AnyVariable t
IsSoundGoal (source.assign v e) = IsSoundValue AnyVariable e

abbrev EachIsSound : List Goal → Type 0
EachIsSound [] = Unit {0}
EachIsSound (x ∷ xs) = IsSoundGoal x × EachIsSound xs

sound_item : (i : Item) (ts : List Token) → AreGood (grammar.item i ts) → IsSoundGoal (item_of i ts) × AreGood ts
sound_item (grammar.goal f a) ts good = sound_tree (grammar.call f a) ts good
sound_item (grammar.unify s t) ts good =
    let left = sound_tree s (token.Mark Equals ∷ grammar.term t ts) good in
    let right = sound_tree t ts left.1.1 in
    ((left.0, right.0), right.1)
sound_item (grammar.assign v e) ts good = sound_expression e ts good.1.1

sound_body : (b : Body) (ts : List Token) → AreGood (grammar.body b ts) → EachIsSound (goals_of b ts)
sound_body (last i) ts good = ((sound_item i ts good).0, tt)
sound_body (next i b) ts good = let first = sound_item i (token.Mark Comma ∷ grammar.body b ts) good in (first.0, sound_body b ts first.1.1)

sound_query : (q : Query) → AreGood (query q []) → EachIsSound (query_of q [])
sound_query (plain b) good = sound_body b [] good
sound_query (stopped b) good = sound_body b (token.Mark Stop ∷ []) good

-- ---- what it says the grammar has a text for

this_call : (name f : List ℕ) (k n : ℕ) → f ≡ name → n ≡ k → (bytes_eq f name && nat_eq n k) ≡ true
this_call name f k n same arity = grind (arith, nat_tests, bytes_eq-Decides)

nothing_first : {X : Type 0} (a b : List X) → a ++ b ≡ [] → (a ≡ []) × (b ≡ [])
nothing_first [] b e = (refl, e)
nothing_first (x ∷ a) b e = cc

-- where the variables called so pass V
module _ (C : List ℕ → VarName → Type 0) (V : VarName → Type 0) (passes : (v : List ℕ) (x : VarName) → C v x → V x) where
  counted : (ts : Trees) (us : List term.Tree) → SaysAllBy C ts us → count ts ≡ length us
  counted source.none us says = omega (arith, ap length says)
  counted (source.some t ts) us says = omega (arith, ap length says.2, counted ts says.1 says.4)

  mutual
    writable_tree : (t : Tree) (u : term.Tree) → SaysBy C t u → IsSoundBy AnyVariable t → widest t ≤ 255 → IsWritable V u
    writable_tree (source.variable v) u says sound width = subst (IsWritable V) (sym says.1) (passes v says.0 says.2)
    writable_tree (source.integer n) u says sound width = subst (IsWritable V) (sym says) sound
    writable_tree (source.structure f ts) u says sound width =
        subst (IsWritable V) (sym says.1)
        (inr (inr (sound.0, omega (arith, width, counted ts says.0 says.2, ap length (list_of-trees says.0)))), writable_trees ts says.0 says.2 sound.1 (omega (arith, width)))
    writable_tree source.empty u says sound width = subst (IsWritable V) (sym says) (inl refl, tt)
    writable_tree (source.cell t rest) u says sound width =
        subst (IsWritable V) (sym says.2)
        (inr (inl refl), (writable_tree t says.0 says.3 sound.0 (omega (arith, width)), (writable_tree rest says.1 says.4 sound.1 (omega (arith, width)), tt)))

    writable_trees : (ts : Trees) (us : List term.Tree) → SaysAllBy C ts us → AreSoundBy AnyVariable ts → widest_of ts ≤ 255 → AreWritable V (trees us)
    writable_trees source.none us says sound width = subst (λ l. AreWritable V (trees l)) (sym says) tt
    writable_trees (source.some t ts) us says sound width =
        rw says.2 (writable_tree t says.0 says.3 sound.0 (omega (arith, width)), writable_trees ts says.1 says.4 sound.1 (omega (arith, width)))

  writable_value : (s : Value) (e : shown.Expression) → SaysValueBy C s e → IsSoundValue AnyVariable s → IsWritableExpression V e
  writable_value (source.number n) e says sound = subst (IsWritableExpression V) (sym says) sound
  writable_value (source.named v) e says sound = subst (IsWritableExpression V) (sym says.1) (passes v says.0 says.2)
  writable_value (source.product o a b) e says sound = rw says.2 (writable_value a says.0 says.3 sound.0, writable_value b says.1 says.4 sound.1)
  writable_value (source.sum o a b) e says sound = rw says.2 (writable_value a says.0 says.3 sound.0, writable_value b says.1 says.4 sound.1)

  writable_goal : (x : Goal) (g : goal.Goal) → SaysGoalBy C x g → IsSoundGoal x → widest_goal x ≤ 255 → is_true x ≡ false → misplaced_goal x ≡ [] → IsWritableGoal V g
  writable_goal (source.call c) g says sound width plain_call placed =
      let many = counted c.arguments says.0 says.2 in
      let no_true : ¬ ((c.name ≡ codes "true") × (length says.0 ≡ 0)) = λ h.
      false≢true (sym plain_call ∙ this_call (codes "true") c.name 0 (count c.arguments) h.0 (omega (arith, many, h.1))) in
      let no_stream : ¬ ((c.name ≡ codes "instream") × (length says.0 ≡ 1)) = λ h.
      absurd (omega (arith, ap length (sym placed ∙ ap (λ b. place_if b c) (this_call (codes "instream") c.name 1 (count c.arguments) h.0 (omega (arith, many, h.1)))))) in
      subst (IsWritableGoal V) (sym says.1)
      (sound.0, omega (arith, width, many), writable_trees c.arguments says.0 says.2 sound.1 (omega (arith, width)), no_true, no_stream)
  writable_goal (source.unify s t) g says sound width plain_call placed =
      rw says.2 (writable_tree s says.0 says.3 sound.0 (omega (arith, width)), writable_tree t says.1 says.4 sound.1 (omega (arith, width)))
  writable_goal (source.assign v e) g says sound width plain_call placed = rw says.2 (passes v says.0 says.3, writable_value e says.1 says.4 sound)

  each_writable : (xs : List Goal) (gs : List goal.Goal) → Each (SaysGoalBy C) (doing xs) gs → EachIsSound xs → misplaced_body xs ≡ [] → widest_goals xs ≤ 255 → (g : goal.Goal) → In g gs → IsWritableGoal V g
  each_writable [] [] says sound placed width g stands = absurd stands
  each_writable [] (h ∷ gs) says sound placed width g stands = absurd says
  each_writable (x ∷ xs) gs says sound placed width g stands =
      let parts = nothing_first (misplaced_goal x) (misplaced_body xs) placed in
      let others : (hs : List goal.Goal) → Each (SaysGoalBy C) (doing xs) hs → In g hs → IsWritableGoal V g = λ hs say. each_writable xs hs say sound.1 parts.1 (omega (arith, width)) g in
      elim (test_cases (is_true x)) [
        | inl skipped ↦ others gs (subst (λ l. Each (SaysGoalBy C) l gs) (ap (λ b. cond (not b) (x ∷ doing xs) (doing xs)) skipped) says) stands
        | inr done ↦
            first_or_other gs others (λ h say. writable_goal x h say sound.0 (omega (arith, width)) done parts.0)
            (subst (λ l. Each (SaysGoalBy C) l gs) (ap (λ b. cond (not b) (x ∷ doing xs) (doing xs)) done) says) stands
      ]
    where
      first_or_other : (hs : List goal.Goal) → ((ks : List goal.Goal) → Each (SaysGoalBy C) (doing xs) ks → In g ks → IsWritableGoal V g) → ((h : goal.Goal) → SaysGoalBy C x h → IsWritableGoal V h)
          → Each (SaysGoalBy C) (x ∷ doing xs) hs → In g hs → IsWritableGoal V g
      first_or_other [] others first says stands = absurd says
      first_or_other (h ∷ hs) others first says (inl same) = subst (IsWritableGoal V) (sym same) (first h says.0)
      first_or_other (h ∷ hs) others first says (inr behind) = others hs says.1 behind

-- ---- the whole text

pub read_writable : (names : Names) (text : List ℕ) (gs : List goal.Goal) → IsReadAs (IsCalled names) text gs → (g : goal.Goal) → In g gs → IsWritableGoal (IsNamedIn names) g
read_writable names text gs (xs, read, says) =
    let derived = read.derived in
    let lexed = derived.scanned.has_tokens.lexed in
    let good = subst AreGood (sym lexed.tokens_are ∙ derived.spelled) (good_tokens Allowed true lexed.pieces [] lexed.cut.each_stands lexed.cut.none_refused) in
    let sound = subst EachIsSound derived.sees (sound_query derived.derivation good) in
    each_writable (IsCalled names) (IsNamedIn names) (λ v x called. (v, called)) xs gs says sound (grind (arith, read.placed)) (limits_of_query xs read.within).0
