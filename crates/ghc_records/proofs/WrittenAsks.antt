-- Goals that are asked for and can be written are, printed, read again as themselves.
use Rattle.ghc_records.proofs.Words.{◌≡◌, ◌≢◌, ℕ, zero, suc, ◌+◌, ◌-◌, Bool, true, false, cond, List, [], ◌∷◌, ◌++◌, length, map, refl, sym, ap, ◌∙◌, subst, inl, inr, arith, Some, None, slice_get, slice_get-map, option_map, decimal, length-append, codes, unwrap_or, eq_by_cmp, ne_eqb, or_parts, length-map, decimal_is_IsNumeral, VarName, In, variable, Goal, goal_text, variable_text, name_cmp, variables_of_goals, firsts, in_at, IsNumberedAs, Names, blank, IsCalled, AreNamed, Each, doing, AreNumbered, AreApart, WrittenAsk, IsNaming, of_state, HasNumbers, IsWritableGoal, IsPrintedAs, IsReadAs, further_goals, goals_text, is_seen, test_cases, decimal_run, one_variable, numbered_by, replace_in_goal, NameNoneOf, asked_of, called, called_by, named_so, firsts_in, renamed_firsts, firsts_have, in_goals, by, goals_renamed, same_goals, goals_twice, body_text, followed_by, OpensFew, SaysGoals}
use Rattle.ghc_term.proofs.Names.{same_name}
use Rattle.ghc_unify.proofs.Bound.{itself as same_test}
use Rattle.ghc_fire.specs.Effect.{no_step}
use Rattle.ghc_records.proofs.Effects.{mapped}
use Rattle.ghc_records.proofs.RenamedSayings.{goals_say}
use Rattle.ghc_records.proofs.WritableGoals.{goals_have, none_streams}

-- ---- the text

further_text : (gs : List Goal) → followed_by (codes ", ") (map goal_text gs) ≡ further_goals gs
further_text [] = refl
further_text (g ∷ gs) = ap (λ l. codes ", " ++ (goal_text g ++ l)) (further_text gs)

-- a body is written as the reader's goals are
pub same_text : (gs : List Goal) → body_text gs ≡ goals_text gs
same_text [] = refl
same_text (g ∷ gs) = ap (λ l. goal_text g ++ l) (further_text gs)

-- ---- lists

get_map : {X Y : Type 0} (f : X → Y) (xs : List X) (i : ℕ) (y : Y) → slice_get (map f xs) i ≡ Some y → (x : X) × (slice_get xs i ≡ Some x) × (y ≡ f x)
get_map f [] i y e = cc
get_map f (x ∷ xs) zero y e = let same : f x ≡ y = cc in (x, refl, sym same)
get_map f (x ∷ xs) (suc i) y e = get_map f xs i y e

map_get : {X Y : Type 0} (f : X → Y) (xs : List X) (i : ℕ) (x : X) → slice_get xs i ≡ Some x → slice_get (map f xs) i ≡ Some (f x)
map_get f xs i x e = slice_get-map f xs i ∙ ap (option_map f) e

-- ---- the place of a variable in a list

abbrev place : List VarName → VarName → ℕ
place [] x = 0
place (y ∷ ys) x = cond (eq_by_cmp name_cmp x y) 0 (suc (place ys x))

place_here : (y : VarName) (ys : List VarName) (x : VarName) (b : Bool) → eq_by_cmp name_cmp x y ≡ b → place (y ∷ ys) x ≡ cond b 0 (suc (place ys x))
place_here y ys x b e = ap (λ c. cond c 0 (suc (place ys x))) e

-- what is there stands at its place
at_place : (ys : List VarName) (x : VarName) → In x ys → slice_get ys (place ys x) ≡ Some x
at_place [] x i = absurd i
at_place (y ∷ ys) x i = elim (test_cases (eq_by_cmp name_cmp x y)) [
  | inl same ↦ ap (slice_get (y ∷ ys)) (place_here y ys x true same) ∙ ap Some (sym (same_name x y same))
  | inr other ↦ ap (slice_get (y ∷ ys)) (place_here y ys x false other) ∙ elim i [
    | inl e ↦ let clash : true ≡ false = sym (same_test x y e) ∙ other in cc
    | inr j ↦ at_place ys x j
  ]
]

first_unseen : (seen xs : List VarName) (x : VarName) → In x (firsts seen xs) → is_seen x seen ≡ false
first_unseen seen [] x i = absurd i
first_unseen seen (y ∷ xs) x i =
    elim (is_seen y seen) as (λ b. is_seen y seen ≡ b → In x (cond b (firsts seen xs) (y ∷ firsts (y ∷ seen) xs)) → is_seen x seen ≡ false) [
      | true ↦ λ p j. first_unseen seen xs x j
      | false ↦ λ p j. elim j [
        | inl e ↦ subst (λ z. is_seen z seen ≡ false) (sym e) p
        | inr k ↦ (or_parts (eq_by_cmp name_cmp x y) (is_seen x seen) (first_unseen (y ∷ seen) xs x k)).1
      ]
    ] refl i

-- in a list whose other variables are not the first one
place_behind : (y : VarName) (ys : List VarName) (i : ℕ) (x : VarName) → ((j : ℕ) → slice_get ys j ≡ Some x → place ys x ≡ j) → (In x ys → eq_by_cmp name_cmp x y ≡ false) → slice_get (y ∷ ys) i ≡ Some x → place (y ∷ ys) x ≡ i
place_behind y ys zero x others apart e = let same : y ≡ x = cc in place_here y ys x true (same_test x y (sym same))
place_behind y ys (suc i) x others apart e = place_here y ys x false (apart (in_at ys i x e)) ∙ ap suc (others i e)

-- where each stands once, what stands at a place has that place
place_of : (seen xs : List VarName) (i : ℕ) (x : VarName) → slice_get (firsts seen xs) i ≡ Some x → place (firsts seen xs) x ≡ i
place_of seen [] i x e = cc
place_of seen (y ∷ xs) i x e =
    elim (is_seen y seen) as (λ b. slice_get (cond b (firsts seen xs) (y ∷ firsts (y ∷ seen) xs)) i ≡ Some x → place (cond b (firsts seen xs) (y ∷ firsts (y ∷ seen) xs)) x ≡ i) [
      | true ↦ λ q. place_of seen xs i x q
      | false ↦ λ q. place_behind y (firsts (y ∷ seen) xs) i x (λ j r. place_of (y ∷ seen) xs j x r) (λ k. (or_parts (eq_by_cmp name_cmp x y) (is_seen x seen) (first_unseen (y ∷ seen) xs x k)).0) q
    ] e

-- ---- names

-- a variable is called by its numbers
numbered_as : (x : VarName) → HasNumbers x → IsNumberedAs (variable_text x) x.step x.place
numbered_as x n =
    let step = (decimal_is_IsNumeral x.step (omega (arith, n.step))).1 in
    let place = (decimal_is_IsNumeral x.place (omega (arith, n.place))).1 in
    numbered_by (variable_text x) (decimal x.step) (decimal x.place) x.step x.place (decimal_run x.step n.step, decimal_run x.place n.place, refl) (sym step) (sym place) n.step n.place

not_blank : (x : VarName) → variable_text x ≢ blank
not_blank x e = omega (arith, ap length e, length-append (decimal x.step) (95 ∷ decimal x.place))

namings : (xs : List VarName) → ((x : VarName) → In x xs → HasNumbers x) → ((x : VarName) → In x xs → x.step ≢ no_step) → Each (IsNaming []) (map variable_text xs) (map Some xs)
namings [] numbers none = tt
namings (x ∷ xs) numbers none =
    (of_state {n = x.step} {m = x.place} (numbered_as x (numbers x (inl refl))) (none x (inl refl)), namings xs (λ y i. numbers y (inr i)) (λ y i. none y (inr i)))

never_none : (xs : List VarName) → ¬ In None (map Some xs)
never_none xs i = let k = mapped Some xs None i in cc

pub named_same : (x : VarName) → x.step ≢ no_step → named_so x ≡ x
named_same x d = rw (ne_eqb x.step no_step d) refl

called_same : (i : ℕ) (xs : List VarName) → ((x : VarName) → In x xs → x.step ≢ no_step) → called i (map Some xs) ≡ xs
called_same i [] none = refl
called_same i (x ∷ xs) none = let first = named_same x (none x (inl refl)) in let rest = called_same i xs (λ y j. none y (inr j)) in λ k. first k ∷ rest k

-- ---- goals

module _ (gs : List Goal) (writable : (g : Goal) → In g gs → IsWritableGoal HasNumbers g) where
  abbrev all : List VarName
  all = variables_of_goals gs

  -- their variables, each once
  abbrev xs : List VarName
  xs = firsts [] all

  -- the i-th of them as `_0_i`
  abbrev told : VarName → VarName
  told x = record { step = 0; place = place xs x + 1 }

  abbrev hs : List Goal
  hs = map (replace_in_goal (by told)) gs

  abbrev names : Names
  names = map variable_text xs

  there : (x : VarName) → In x all → In x xs
  there x i = elim (firsts_have [] all x i) [ inl none ↦ absurd none | inr j ↦ j ]

  numbers : (x : VarName) → In x xs → HasNumbers x
  numbers x i = goals_have HasNumbers x gs writable (firsts_in [] all x i)

  told_apart : (x y : VarName) → In x all → In y all → told x ≡ told y → x ≡ y
  told_apart x y i j e =
      let places : place xs x + 1 ≡ place xs y + 1 = ap (λ (v : VarName). v.place) e in
      let same : place xs x ≡ place xs y = omega (arith, places) in
      let both : Some x ≡ Some y = sym (at_place xs x (there x i)) ∙ ap (slice_get xs) same ∙ at_place xs y (there y j) in
      cc

  firsts_told : firsts [] (variables_of_goals hs) ≡ map told xs
  firsts_told = ap (firsts []) (goals_renamed told gs (none_streams HasNumbers gs writable)) ∙ renamed_firsts told [] all told_apart (λ x y i j. absurd j)

  are_numbered : AreNumbered (variables_of_goals hs)
  are_numbered i z e =
      let k = get_map told xs i z (sym (ap (λ l. slice_get l i) firsts_told) ∙ e) in
      k.2 ∙ ap (λ n. record { step = 0; place = n + 1 }) (place_of [] all i k.0 k.1)

  are_apart : AreApart names
  are_apart i j v e f other =
      let k = get_map variable_text xs i v e in
      let l = get_map variable_text xs j v f in
      let same = one_variable k.0 l.0 (numbers k.0 (in_at xs i k.0 k.1)) (numbers l.0 (in_at xs j l.0 l.1)) (sym k.2 ∙ l.2) in
      sym (place_of [] all i k.0 k.1) ∙ ap (place xs) same ∙ place_of [] all j l.0 l.1

  are_named : AreNamed names (variables_of_goals hs)
  are_named = record {
    numbered = are_numbered;
    named = length-map xs variable_text ∙ sym (ap length firsts_told ∙ length-map xs told);
    apart = are_apart;
    alone = λ i j x e f blank_named. let k = get_map variable_text xs blank_named.0 blank blank_named.1 in absurd (not_blank k.0 (sym k.2));
  }

  -- what is said of the goals as they are printed is said of these, by the names
  carried : (v : List ℕ) (x : VarName) → In x all → IsPrintedAs v x → IsCalled names v (told x)
  carried v x i e = (place xs x, map_get variable_text xs (place xs x) x (at_place xs x (there x i)) ∙ ap Some (sym e), refl)

  -- told by their numbers, the variables are those of the goals
  back_one : (x : VarName) → In x all → called_by xs (told x) ≡ variable x
  back_one x i =
      let at : place xs x + 1 - 1 ≡ place xs x = omega arith in
      ap variable (ap (λ o. unwrap_or o (told x)) (ap (slice_get xs) at ∙ at_place xs x (there x i)))

  module _ (none : NameNoneOf no_step gs) where
    abbrev ask : WrittenAsk
    ask = record { goals = hs; named = map Some xs }

    none_of : (x : VarName) → In x xs → x.step ≢ no_step
    none_of x i = none x (firsts_in [] all x i)

    back : asked_of ask ≡ gs
    back =
        ap (λ ys. map (replace_in_goal (called_by ys)) hs) (called_same 1 xs none_of)
        ∙ goals_twice (called_by xs) (by told) (λ x. called_by xs (told x)) (λ x. refl) gs
        ∙ in_goals (λ x. called_by xs (told x)) variable gs back_one
        ∙ same_goals gs

    pub asked_again : (text : List ℕ) → IsReadAs IsPrintedAs text gs → OpensFew text → OpensFew (body_text gs) → SaysGoals text gs
    asked_again text read few printed = (
      ask,
      (
        read.0,
        read.1,
        record {
          names = names;
          goals = goals_say IsPrintedAs (IsCalled names) told (doing read.0) gs carried read.2;
          variables = are_named;
          named = namings xs numbers none_of;
        },
      ),
      never_none xs,
      sym back,
      few,
      printed,
    )
