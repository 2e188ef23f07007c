-- Equations of two variables that were met: what is left of one stands in front of the equations, and lies below its variable.
use Rattle.ghc_unify.proofs.Words.{◌≡◌, List, [], ◌∷◌, ◌++◌, refl, sym, ap, ◌∙◌, subst, append-nil, append_assoc, inl, inr, Option, Some, VarName, Tree, Trees, variable, IsValue, Occurs, OccursIn, In, In_either, Each, each_as, each_both, Leads, at_integer, at_node, at_free, along, Reaches, here, IsAcyclic, name_cmp, reaches_on, IsTrue, Pairs, no_more, one_more, met, Meets, integers, nodes, Move, shared, left, right, both, Moves, stay, go}
use Rattle.std.specs.FinSet as set
use Rattle.ghc_unify.specs.inner.Met.{IsNoted}
use Rattle.ghc_unify.proofs.Falling.{one_more_move}

-- all of them are in the set
abbrev pub Within : List VarName → set.FinSet name_cmp → Type 0
Within xs s = (x : VarName) → In x xs → IsTrue (set.contains s x)

-- all that is in one set is in the other
abbrev pub Grows : set.FinSet name_cmp → set.FinSet name_cmp → Type 0
Grows s s' = (x : VarName) → IsTrue (set.contains s x) → IsTrue (set.contains s' x)

-- each variable of l is reached from t
abbrev pub Below : (VarName → Option Tree) → Tree → Tree → Type 0
Below T t l = (v : VarName) → Occurs v l → Reaches T t v

-- l ends in a value in which each variable of t stands
abbrev pub Under : (VarName → Option Tree) → Tree → Tree → Type 0
Under T l t = (a : List VarName) × (e : Tree) × Leads T l a e × IsValue e × ((v : VarName) → Occurs v t → Occurs v e)

leads_below : {T : VarName → Option Tree} {t l e : Tree} {a : List VarName} → Leads T l a e → Below T t l → Below T t e
leads_below at_integer b = b
leads_below at_node b = b
leads_below (at_free p) b = b
leads_below (along {x = z} {t = u} p l) b = leads_below l (λ v o. reaches_on (b z refl) p (here o))

under_below : {T : VarName → Option Tree} {t l : Tree} (m : Tree) → Under T l m → Below T t l → Below T t m
under_below m u b v o = leads_below u.2 b v (u.4 v o)

-- what stands under a bound variable is reached from its value
value_below : {T : VarName → Option Tree} {x : VarName} {a : List VarName} {e : Tree} → Leads T (variable x) a e → IsValue e → (t : Tree) × (T x ≡ Some t) × Below T t e
value_below (at_free p) v = absurd v
value_below (along {t = u} p l) v = (u, p, leads_below l (λ v o. here o))

-- the arguments of a value stand in it
pairs_in : {ts us : Trees} {es : List (Tree × Tree)} → Pairs ts us es → Each es (λ d. (v : VarName) → Occurs v d.0 → OccursIn v ts)
pairs_in no_more = tt
pairs_in (one_more {es = es} p) = (λ v o. inl o, each_as es _ _ (λ d f v o. inr (f v o)) (pairs_in p))

meets_in : {e f : Tree} {es : List (Tree × Tree)} → Meets e f es → IsValue e × Each es (λ d. (v : VarName) → Occurs v d.0 → Occurs v e)
meets_in integers = (tt, tt)
meets_in (nodes p) = (tt, pairs_in p)

-- moves from the first of the equations es on, that bind nothing, leave the equations fs
pub record Front (S T : VarName → Option Tree) (es fs : List (Tree × Tree)) (read : List VarName) : Type 0 where
  pub first : Tree × Tree
  pub rest : List (Tree × Tree)
  pub new : List (Tree × Tree)
  pub es_are : es ≡ first ∷ rest
  pub fs_are : fs ≡ new ++ rest
  pub moves : Moves S T (first ∷ []) T new [] read
  pub under : Each new (λ d. Under T first.0 d.0)

one_move : {S T U : VarName → Option Tree} {es fs : List (Tree × Tree)} {bs : List (VarName × Tree)} {rs : List VarName} → Move S T es U fs bs rs → Moves S T es U fs bs rs
one_move {bs = bs} {rs = rs} m = let all = go m stay in simp append-nil at all

pub front : {S T U : VarName → Option Tree} {es fs : List (Tree × Tree)} {bs : List (VarName × Tree)} {rs : List VarName} → Move S T es U fs bs rs → bs ≡ [] → Front S T es fs rs
front (shared {l = l} {r = r} {es = es} p q n) e = record { first = (l, r); rest = es; new = []; es_are = refl; fs_are = refl; moves = one_move (shared p q n); under = tt }
front {S = S} {T = T} (both {l = l} {r = r} {a = a} {b = b} {es = es} {new = new} p q apart m) e =
    let i = meets_in m in
    record {
      first = (l, r);
      rest = es;
      new = new;
      es_are = refl;
      fs_are = refl;
      moves = let all : Moves S T ((l, r) ∷ []) T (new ++ []) [] (met S a ++ met S b) = one_move (both p q apart m) in simp append-nil at all;
      under = each_as new _ _ (λ d f. (a, _, p, i.0, f)) i.1;
    }
front m e = cc

-- other equations may stand after those of a run
move_before : {S T U : VarName → Option Tree} {es fs : List (Tree × Tree)} {bs : List (VarName × Tree)} {rs : List VarName} → Move S T es U fs bs rs → (ks : List (Tree × Tree)) → Move S T (es ++ ks) U (fs ++ ks) bs rs
move_before (shared p q n) ks = shared p q n
move_before (left p n o) ks = left p n o
move_before (right p v q n o) ks = right p v q n o
move_before (both p q apart m) ks = simp append_assoc (both p q apart m)

moves_before : {S T U : VarName → Option Tree} {es fs : List (Tree × Tree)} {bs : List (VarName × Tree)} {rs : List VarName} → Moves S T es U fs bs rs → (ks : List (Tree × Tree)) → Moves S T (es ++ ks) U (fs ++ ks) bs rs
moves_before stay ks = stay
moves_before (go m ms) ks = go (move_before m ks) (moves_before ms ks)

-- the same with the equations that come after it
pub front_moves : {S T : VarName → Option Tree} {es fs : List (Tree × Tree)} {rs : List VarName} → Front S T es fs rs → Moves S T es T fs [] rs
front_moves f = rw (f.es_are, f.fs_are) (moves_before f.moves f.rest)

-- The equation of two variables was met: moves from it on, that bind nothing and whose reads are in the set, left the equations `ahead`. They
-- stand in front of all others, and on their left sides is nothing but what the value of the left variable reaches.
pub record Met (S T : VarName → Option Tree) (reads : set.FinSet name_cmp) (es : List (Tree × Tree)) (p : VarName × VarName) : Type 0 where
  pub ahead : List (Tree × Tree)
  pub rest : List (Tree × Tree)
  pub read : List VarName
  pub es_are : es ≡ ahead ++ rest
  pub moves : Moves S T ((variable p.0, variable p.1) ∷ []) T ahead [] read
  pub within : Within read reads
  pub below : Each ahead (λ d. (t : Tree) × (T p.0 ≡ Some t) × Below T t d.0)

within_both : (s : set.FinSet name_cmp) (xs ys : List VarName) → Within xs s → Within ys s → Within (xs ++ ys) s
within_both s xs ys a b x i = elim (In_either xs ys x i) [ inl j ↦ a x j | inr j ↦ b x j ]

-- it stays so with each move
module _ {S T : VarName → Option Tree} (reads grown : set.FinSet name_cmp) {es fs : List (Tree × Tree)} {rs : List VarName} (f : Front S T es fs rs) (grow : Grows reads grown) (within : Within rs grown) where
  met_on_by : (p : VarName × VarName) (ahead rest : List (Tree × Tree)) (read : List VarName) → es ≡ ahead ++ rest → Moves S T ((variable p.0, variable p.1) ∷ []) T ahead [] read → Within read reads
      → Each ahead (λ d. (t : Tree) × (T p.0 ≡ Some t) × Below T t d.0) → Met S T grown fs p
  met_on_by p [] rest read e m w b = record { ahead = []; rest = fs; read = read; es_are = refl; moves = m; within = λ x i. grow x (w x i); below = tt }
  met_on_by p (d ∷ ahead) rest read e m w b =
      let same : f.first ≡ d = let q = sym f.es_are ∙ e in cc in
      let tails : f.rest ≡ ahead ++ rest = let q = sym f.es_are ∙ e in cc in
      let on = moves_before f.moves ahead in
      record {
        ahead = f.new ++ ahead;
        rest = rest;
        read = read ++ rs;
        es_are = f.fs_are ∙ ap (λ z. f.new ++ z) tails ∙ sym (append_assoc f.new ahead rest);
        moves = one_more_move m (subst (λ z. Moves S T (z ∷ ahead) T (f.new ++ ahead) [] rs) same on);
        within = within_both grown read rs (λ x i. grow x (w x i)) within;
        below = each_both f.new ahead _ (each_as f.new _ _ (λ g u. (b.0.0, b.0.1, under_below g.0 (subst (λ z. Under T z.0 g.0) same u) b.0.2)) f.under) b.1;
      }

  pub met_on : (p : VarName × VarName) → Met S T reads es p → Met S T grown fs p
  met_on p m = met_on_by p m.ahead m.rest m.read m.es_are m.moves m.within m.below

  -- the pair that is met now
  pub met_now : (p : VarName × VarName) → f.first ≡ (variable p.0, variable p.1) → Met S T grown fs p
  met_now p e = record {
    ahead = f.new;
    rest = f.rest;
    read = rs;
    es_are = f.fs_are;
    moves = subst (λ z. Moves S T (z ∷ []) T f.new [] rs) e f.moves;
    within = within;
    below = each_as f.new _ _ (λ g u.
        let v = subst (λ z. Under T z.0 g.0) e u in
        let w = value_below v.2 v.3 in
        (w.0, w.1, λ x o. w.2 x (v.4 x o))) f.under;
  }

  pub all_met : {l r : Tree} (old new : List (VarName × VarName)) → f.first ≡ (l, r) → IsNoted l r old new
      → ((p : VarName × VarName) → In p old → Met S T reads es p) → (p : VarName × VarName) → In p new → Met S T grown fs p
  all_met {r = r} old new e n h p i = elim (n p i) [
    | inl j ↦ met_on p (h p j)
    | inr s ↦ met_now p (e ∙ ap (λ z. (z, r)) s.0 ∙ ap (λ z. (variable p.0, z)) s.1)
  ]

-- an equation that is met again is solved
module _ {S T : VarName → Option Tree} (reads : set.FinSet name_cmp) {es : List (Tree × Tree)} (acyclic : IsAcyclic T) (p : VarName × VarName) (rest : List (Tree × Tree)) (top : es ≡ (variable p.0, variable p.1) ∷ rest) where
  again_by : (ahead after : List (Tree × Tree)) (read : List VarName) → es ≡ ahead ++ after → Moves S T ((variable p.0, variable p.1) ∷ []) T ahead [] read → Within read reads
      → Each ahead (λ d. (t : Tree) × (T p.0 ≡ Some t) × Below T t d.0) → (rs : List VarName) × Front S T es rest rs × Within rs reads
  again_by [] after read e m w b =
      (read, record { first = (variable p.0, variable p.1); rest = rest; new = []; es_are = top; fs_are = refl; moves = m; under = tt }, w)
  again_by (d ∷ ahead) after read e m w b =
      let same : d ≡ (variable p.0, variable p.1) = let q = sym e ∙ top in cc in
      let below = subst (λ z. Below T b.0.0 z.0) same b.0.2 in
      absurd (acyclic p.0 b.0.0 b.0.1 (below p.0 refl))

  pub again : Met S T reads es p → (rs : List VarName) × Front S T es rest rs × Within rs reads
  again m = again_by m.ahead m.rest m.read m.es_are m.moves m.within m.below
