-- Lines of goals, one after another.
use Rattle.ghc_trace.proofs.Words.{◌≡◌, ℕ, ◌≤◌, List, [], ◌∷◌, ◌++◌, length, refl, sym, ap, ◌∙◌, subst, inl, inr, append_assoc, append-nil, arith, Option, Some, T, Ordering, Less, Equal, Greater, AllZip, AllByRecursion, concat, keys_of, is_lt, below_all, is_sorted, concat-append, VarName, GoalName, Tree, Goal, IsGoalTextOf, In, in_right, Bor, StoreValue, value_at, goal_cmp, Goals, goal_total, NotesByGoal, IsUntried, Named, TellsGoal, StandsByNote, AreLinesByNotes, IsTooLong, HasTooLong, print_limit, IsKnown, TellsShort, AddsLine, AddsLines, lent}
use Rattle.std.specs.List.Sorted.{IsStrictlySortedBy}
use Rattle.std.specs.FinMap as finite
use Rattle.ghc_trace.proofs.Entries.{entry_in, in_entry}
use Rattle.ghc_term.proofs.GoalMaps.{parts}

module _ {A B : Type 0} where
  one_more : (R : A → B → Type 0) (xs : List A) (ys : List B) (x : A) (y : B) → AllZip R xs ys → R x y → AllZip R (xs ++ x ∷ []) (ys ++ y ∷ [])
  one_more R [] [] x y a r = (r, tt)
  one_more R [] (v ∷ ys) x y a r = absurd a
  one_more R (u ∷ xs) [] x y a r = absurd a
  one_more R (u ∷ xs) (v ∷ ys) x y a r = (a.0, one_more R xs ys x y a.1 r)

  -- each pair is one of another relation
  pub each : (P Q : A → B → Type 0) (xs : List A) (ys : List B) → ((x : A) (y : B) → In x xs → P x y → Q x y) → AllZip P xs ys → AllZip Q xs ys
  each P Q [] [] f a = tt
  each P Q [] (v ∷ ys) f a = absurd a
  each P Q (u ∷ xs) [] f a = absurd a
  each P Q (u ∷ xs) (v ∷ ys) f a = (f u v (inl refl) a.0, each P Q xs ys (λ x y i. f x y (inr i)) a.1)

  -- the partner of an element
  partner : (R : A → B → Type 0) (xs : List A) (ys : List B) (x : A) → AllZip R xs ys → In x xs → (y : B) × R x y
  partner R [] ys x a i = absurd i
  partner R (u ∷ xs) [] x a i = absurd a
  partner R (u ∷ xs) (v ∷ ys) x a (inl e) = (v, subst (λ z. R z v) (sym e) a.0)
  partner R (u ∷ xs) (v ∷ ys) x a (inr i) = partner R xs ys x a.1 i

-- the line of one more goal
pub adds_one : (notes : NotesByGoal) (store : StoreValue) (goals : List Named) (goal : Named) (old mid new : List ℕ) → AddsLines notes store goals old mid → AddsLine notes store goal mid new
    → AddsLines notes store (goals ++ goal ∷ []) old new
adds_one notes store goals goal old mid new lines line = (
  lines.0 ++ line.0 ∷ [],
  one_more (TellsShort notes store) goals lines.0 goal line.0 lines.1 line.1,
  line.2 ∙ ap (λ t. t ++ line.0) lines.2 ∙ append_assoc old (concat lines.0) line.0
      ∙ ap (λ t. old ++ t) (sym (concat-append lines.0 (line.0 ∷ []) ∙ ap (λ t. concat lines.0 ++ t) (append-nil line.0))),
)

-- before any goal nothing is added
pub nothing_added : (notes : NotesByGoal) (store : StoreValue) (old : List ℕ) → AddsLines notes store [] old old
nothing_added notes store old = ([], tt, sym (append-nil old))

-- the goal that comes next is one of those listed
pub next_in : (goals done : List Named) (now left : List (GoalName × Bor Goal)) (e : GoalName × Bor Goal) → goals ≡ done ++ lent now → now ≡ e ∷ left → In (e.0, e.1.now) goals
next_in goals done now left e all next = subst (In (e.0, e.1.now)) (sym (all ∙ ap (λ es. done ++ lent es) next)) (in_right done (lent (e ∷ left)) (e.0, e.1.now) (inl refl))

-- a goal has one text
one_text : {S : VarName → Option Tree} {b : Goal} {t u : List ℕ} → IsGoalTextOf S b t → IsGoalTextOf S b u → u ≡ t
one_text h k = k.written ∙ h.only k.resolved k.resolves

-- a goal whose text is short is not too long
pub not_long : (store : StoreValue) (b : Goal) (text : List ℕ) → IsGoalTextOf (value_at store) b text → length text ≤ print_limit → ¬ IsTooLong store b
not_long store b text h short long = let same : length long.0 ≡ length text = ap length (one_text h long.1) in omega (arith, short, long.2, same)

less : (o : Ordering) → T (is_lt o) → o ≡ Less
less Less p = refl
less Equal p = absurd p
less Greater p = absurd p

above : (g : GoalName) (es : List Named) → T (below_all goal_cmp g es) → AllByRecursion (λ h. goal_cmp g h ≡ Less) (keys_of es)
above g [] p = tt
above g (e ∷ es) p = let q = parts _ _ p in (less _ q.0, above g es q.1)

rising : (es : List Named) → T (is_sorted goal_cmp es) → IsStrictlySortedBy goal_cmp (keys_of es)
unfolding IsStrictlySortedBy
rising [] p = tt
rising (e ∷ es) p = let q = parts _ _ p in (above e.0 es q.0, rising es q.1)

module _ (goals : Goals) where
  by_list : (g : GoalName) → finite.get (finite.from_entries {R = goal_cmp} (finite.entries goals)) g ≡ finite.get goals g
  by_list g = finite.get-from_entries goal_total (finite.entries goals) g ∙ sym (finite.get-entries goals g)

  -- a goal that is listed is there
  pub listed : (goal : Named) → In goal (finite.entries goals) → finite.get goals goal.0 ≡ Some goal.1
  listed goal i = sym (by_list goal.0) ∙ in_entry (finite.entries goals) goal (rising (finite.entries goals) (finite.entries_sorted goals)) i

  pub there : (g : GoalName) (b : Goal) → finite.get goals g ≡ Some b → In (g, b) (finite.entries goals)
  there g b e = entry_in (finite.entries goals) g b (by_list g ∙ e)

  -- each goal that is listed has a note, or is a stream
  pub known : (notes : NotesByGoal) → ((g : GoalName) → ¬ IsUntried goals notes g) → (goal : Named) → In goal (finite.entries goals) → IsKnown notes goal
  known notes tried goal i no_stream none = tried goal.0 (goal.1, listed goal i, no_stream, none)

  module _ (notes : NotesByGoal) (store : StoreValue) (old new : List ℕ) (lines : AddsLines notes store (finite.entries goals) old new) where
    -- the lines of all that are listed
    pub all_told : (text : List ℕ) × AreLinesByNotes notes goals store text × (new ≡ old ++ text)
    all_told = (
      concat lines.0,
      (lines.0, each (TellsShort notes store) (TellsGoal (StandsByNote notes) store) (finite.entries goals) lines.0 (λ goal line i t. t.tells) lines.1, refl),
      lines.2,
    )

    pub none_long : ¬ HasTooLong goals store
    none_long long = (partner (TellsShort notes store) (finite.entries goals) lines.0 (long.0, long.1) lines.1 (there long.0 long.1 long.2)).1.short long.3

  -- one that is listed and too long is one of the goals
  pub one_long : (store : StoreValue) (goal : Named) → In goal (finite.entries goals) → IsTooLong store goal.1 → HasTooLong goals store
  one_long store goal i long = (goal.0, goal.1, listed goal i, long)
