-- Values under the names of goals.
use Rattle.ghc_term.proofs.Words.{◌≡◌, ◌+◌, Bool, true, false, cond, not, ◌&&◌, ◌||◌, List, [], ◌∷◌, length, refl, sym, ap, ◌∙◌, arith, Option, None, Some, is_some, T, list_any, keys_of, eq_by_cmp, is_eq, is_lt, Ordering, Equal, below_all, is_sorted, GoalName, goal_cmp, names_of}
use Rattle.std.specs.List.{IsDistinct}
use Rattle.std.specs.FinMap as finite
use Rattle.std.specs.FinSet as set
use Rattle.ghc_term.proofs.GoalNames.{goal_total, goal_antisymmetric, same, same_is}
use Rattle.ghc_term.proofs.Indexed as indexed

either : {V : Type 0} (b : Bool) (v : V) (o : Option V) → is_some (cond b (Some v) o) ≡ (b || is_some o)
either true v o = refl
either false v o = refl

neither : {V : Type 0} (b : Bool) (o : Option V) → is_some (cond b None o) ≡ (not b && is_some o)
neither true o = refl
neither false o = refl

-- names are in a list where one of its entries is found
named_is : {V : Type 0} (q : GoalName) (es : List (GoalName × V)) → is_some (finite.find goal_cmp q es) ≡ list_any (eq_by_cmp goal_cmp q) (keys_of es)
named_is q [] = refl
named_is q (e ∷ es) = either (eq_by_cmp goal_cmp q e.0) e.1 (finite.find goal_cmp q es) ∙ ap (λ b. eq_by_cmp goal_cmp q e.0 || b) (named_is q es)

-- the names of a map are those that it has a value for
pub in_names : {V : Type 0} (m : finite.FinMap goal_cmp V) (q : GoalName) → set.contains (names_of m) q ≡ finite.contains_key m q
in_names m q = set.contains-from_list goal_total (finite.keys m) q ∙ sym (finite.contains_key-keys m q)

-- a map of entries has their names
pub names_are : {V : Type 0} (es : List (GoalName × V)) → set.from_list (keys_of es) ≡ names_of (finite.from_entries es)
names_are es = set.same_set goal_total goal_antisymmetric _ _ (λ q.
    set.contains-from_list goal_total (keys_of es) q ∙ sym (named_is q es) ∙ ap is_some (sym (finite.get-from_entries goal_total es q)) ∙ sym (in_names (finite.from_entries es) q))

-- the names of a map that has one name more or less, and how many they are
pub no_names : (V : Type 0) → names_of {V = V} finite.empty ≡ set.empty
no_names V = set.same_set goal_total goal_antisymmetric _ _ (λ q. in_names finite.empty q ∙ ap is_some (finite.get-empty {X = V} goal_cmp q) ∙ sym (set.contains-empty goal_cmp q))

pub put_name : {V : Type 0} (m : finite.FinMap goal_cmp V) (k : GoalName) (v : V) → names_of (finite.insert m k v) ≡ set.insert (names_of m) k
put_name m k v = set.same_set goal_total goal_antisymmetric _ _ (λ q.
    in_names (finite.insert m k v) q ∙ ap is_some (finite.get-insert goal_total m k v q) ∙ either (eq_by_cmp goal_cmp q k) v (finite.get m q)
    ∙ ap (λ b. eq_by_cmp goal_cmp q k || b) (sym (in_names m q)) ∙ sym (set.contains-insert goal_total (names_of m) k q))

pub taken_name : {V : Type 0} (m : finite.FinMap goal_cmp V) (k : GoalName) → names_of (finite.remove m k) ≡ set.remove (names_of m) k
taken_name m k = set.same_set goal_total goal_antisymmetric _ _ (λ q.
    in_names (finite.remove m k) q ∙ ap is_some (finite.get-remove goal_total m k q) ∙ neither (eq_by_cmp goal_cmp q k) (finite.get m q)
    ∙ ap (λ b. not (eq_by_cmp goal_cmp q k) && b) (sym (in_names m q)) ∙ sym (set.contains-remove goal_total (names_of m) k q))

less_apart : (o : Ordering) → T (is_lt o) → is_eq o ≡ false
less_apart Equal p = absurd p
less_apart o p = refl

pub parts : (a b : Bool) → T (a && b) → T a × T b
parts true b p = (tt, p)
parts false b p = absurd p

none_below : {V : Type 0} (k : GoalName) (es : List (GoalName × V)) → T (below_all goal_cmp k es) → list_any (eq_by_cmp goal_cmp k) (keys_of es) ≡ false
none_below k [] p = refl
none_below k (e ∷ es) p = let q = parts _ _ p in ap (λ b. b || list_any (eq_by_cmp goal_cmp k) (keys_of es)) (less_apart (goal_cmp k e.0) q.0) ∙ none_below k es q.1

counted : {V : Type 0} (es : List (GoalName × V)) → T (is_sorted goal_cmp es) → set.len (set.from_list {R = goal_cmp} (keys_of es)) ≡ length es
counted [] p = set.len-empty goal_cmp
counted (e ∷ es) p =
    let q = parts _ _ p in
    let ks = set.from_list {R = goal_cmp} (keys_of es) in
    let absent : set.contains ks e.0 ≡ false = set.contains-from_list goal_total (keys_of es) e.0 ∙ none_below e.0 es q.0 in
    let grown = set.len-insert goal_total ks e.0 ∙ ap (λ b. cond b (set.len ks) (set.len ks + 1)) absent in
    omega (arith, grown, counted es q.1)

pub count_of_names : {V : Type 0} (m : finite.FinMap goal_cmp V) → set.len (names_of m) ≡ finite.len m
count_of_names m = counted (finite.entries m) (finite.entries_sorted m) ∙ sym (finite.len-entries m)

-- entries of different names are as many as the map is large
pub count_of_entries : {V : Type 0} (es : List (GoalName × V)) → IsDistinct same (keys_of es) → finite.len (finite.from_entries {R = goal_cmp} es) ≡ length es
count_of_entries = indexed.counted goal_total goal_antisymmetric same same_is
