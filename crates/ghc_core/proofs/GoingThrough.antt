-- How many terms are gone through for an excerpt: each look lowers the count of what waits.
use Rattle.ghc_core.proofs.Words.{ℕ, ◌+◌, ◌<◌, ◌≤◌, ◌≡◌, ◌++◌, List, [], ◌∷◌, length, map, inl, inr, refl, sym, ap, ◌∙◌, subst, arith, append-nil, append_assoc, Option, Some, None, VarName, Tree, In, in_left, in_last, in_either, Picks, leave, nothing, picks_in}
use Rattle.std.specs.Prelude.{◌≢◌, ◌==◌, true, false}
use Rattle.std.specs.Borrow.{Bor}
use Rattle.ghc_term.specs.Tree.{variable, node, Trees, trees, more, IsClosed}
use Rattle.ghc_records.specs.Orders.{take}
use Rattle.ghc_records.proofs.PickLemmas.{pick_last, leave_last}
use Rattle.ghc_core.specs.GoneThrough.{GoesThrough, GoThrough, closed, unbound, bound, structure, no_term, terms}
use Rattle.ghc_core.specs.inner.CutOut.{IsGoingThrough, OpenOnesWait, TakesOver, has_it, is_unbound, takes}

module _ {S : VarName → Option Tree} where
  -- how many terms are gone through for a closed term, for an open one, for an open structure, and for a bound variable
  closed_count : (t : Tree) (n : ℕ) → IsClosed t → GoesThrough S t n → n ≡ 0
  closed_count t n shut (closed c) = refl
  closed_count t n shut (unbound {x = x} e) = absurd (shut x refl)
  closed_count t n shut (bound {x = x} e c) = absurd (shut x refl)
  closed_count t n shut (structure o c) = absurd (o shut)

  open_count : (t : Tree) (n : ℕ) → ¬ IsClosed t → GoesThrough S t n → 0 < n
  open_count t n o (closed c) = absurd (o c)
  open_count t n o (unbound e) = omega arith
  open_count t n o (bound e c) = omega arith
  open_count t n o (structure p c) = omega arith

  node_count : (f : List ℕ) (ts : Trees) (n : ℕ) → ¬ IsClosed (node f ts) → GoesThrough S (node f ts) n → (k : ℕ) × GoThrough S ts k × (k + 1 ≤ n)
  node_count f ts n o (closed c) = absurd (o c)
  node_count f ts n o (structure {n = k} p c) = (k, c, omega arith)

  value_count : (x : VarName) (u : Tree) (n : ℕ) → S x ≡ Some u → GoesThrough S (variable x) n → (k : ℕ) × GoesThrough S u k × (k + 1 ≤ n)
  value_count x u n e (closed c) = absurd (c x refl)
  value_count x u n e (unbound d) = let clash : None ≡ Some u = sym d ∙ e in cc
  value_count x u n e (bound {u = v} {n = k} d c) = let same : v ≡ u = cc in (k, subst (λ z. GoesThrough S z k) same c, omega arith)

  -- closed terms add nothing
  picked_count : (ts us : List Tree) (n : ℕ) → Picks (λ t. ¬ IsClosed t) ts us → GoThrough S (trees ts) n → GoThrough S (trees us) n
  picked_count [] us n nothing c = c
  picked_count (t ∷ ts) us n (take p k) (terms a b) = terms a (picked_count ts _ _ k b)
  picked_count (t ∷ ts) us n (leave p k) (terms {m = l} {n = m} a b) =
      let none : l ≡ 0 = closed_count t l (λ x o. p (λ c. c x o)) a in
      let same : m ≡ l + m = omega arith in
      subst (GoThrough S (trees us)) same (picked_count ts us m k b)

  -- those for two lists, one after the other, are those for each
  split_count : (rest us : List Tree) (n : ℕ) → GoThrough S (trees (rest ++ us)) n → (k m : ℕ) × GoThrough S (trees rest) k × GoThrough S (trees us) m × (n ≡ k + m)
  split_count [] us n c = (0, n, no_term, c, omega arith)
  split_count (t ∷ rest) us n (terms {m = l} a b) = let s = split_count rest us _ b in (l + s.0, s.1, terms a s.2, s.3, omega (arith, s.4))

  joined_count : (rest us : List Tree) (k m : ℕ) → GoThrough S (trees rest) k → GoThrough S (trees us) m → GoThrough S (trees (rest ++ us)) (k + m)
  joined_count [] us k m no_term d = let same : m ≡ 0 + m = omega arith in subst (GoThrough S (trees us)) same d
  joined_count (t ∷ rest) us k m (terms {m = l} {n = j} a b) d =
      let same : l + (j + m) ≡ (l + j) + m = omega arith in
      subst (GoThrough S (trees (t ∷ rest ++ us))) same (terms a (joined_count rest us j m b d))

  -- those for the first one, and for one alone
  first_count : (w : Tree) (ts : Trees) (n : ℕ) → ¬ IsClosed w → GoThrough S (more w ts) n → 0 < n
  first_count w ts n o (terms {m = k} a b) = let one = open_count w k o a in omega arith

  alone : (w : Tree) (n : ℕ) → GoThrough S (trees (w ∷ [])) n → GoesThrough S w n
  alone w n (terms {m = k} a no_term) = let same : k ≡ k + 0 = omega arith in subst (GoesThrough S w) same a

  by_itself : (w : Tree) (n : ℕ) → GoesThrough S w n → GoThrough S (trees (w ∷ [])) n
  by_itself w n a = let same : n + 0 ≡ n = omega arith in subst (GoThrough S (trees (w ∷ []))) same (terms a no_term)

module _ (S : VarName → Option Tree) (ts : List Tree) where
  -- at the beginning the open ones wait
  pub going_begins : (us : List Tree) → Picks (λ t. ¬ IsClosed t) ts us → IsGoingThrough S ts us 0
  going_begins us open_ones = record { waits = λ w j. (picks_in ts us w open_ones j).1; counts = λ n c. (n, picked_count ts us n open_ones c, omega arith) }

  -- where i terms were gone through, and some wait, more than i are to be gone through
  pub left_over : (ws : List Tree) (i n : ℕ) → ws ≢ [] → IsGoingThrough S ts ws i → GoThrough S (trees ts) n → i < n
  left_over [] i n some g c = absurd (some refl)
  left_over (w ∷ ws) i n some g c =
      let all = g.counts n c in
      let one = first_count w (trees ws) all.0 (g.waits w (inl refl)) all.1 in
      omega (arith, all.2)

  module _ (i : ℕ) (rest : List Tree) where
    -- the last term that waits is gone through, and others wait in its place, whose count is less
    gone_through : (new : List Tree) (w : Tree) → IsGoingThrough S ts (rest ++ w ∷ []) i → ((v : Tree) → In v new → ¬ IsClosed v)
        → ((n : ℕ) → ¬ IsClosed w → GoesThrough S w n → (k : ℕ) × GoThrough S (trees new) k × (k + 1 ≤ n)) → IsGoingThrough S ts (rest ++ new) (i + 1)
    gone_through new w g open_ones less = record {
      waits = λ v j. elim (in_either rest new v j) [ inl a ↦ g.waits v (in_left rest (w ∷ []) v a) | inr b ↦ open_ones v b ];
      counts = λ n c.
          let all = g.counts n c in
          let s = split_count rest (w ∷ []) all.0 all.1 in
          let one = alone w s.1 s.3 in
          let l = less s.1 (g.waits w (in_last rest w)) one in
          (s.0 + l.0, joined_count rest new s.0 l.0 s.2 l.1, omega (arith, all.2, s.4, l.2));
    }

    -- nothing waits in its place
    passes : (w : Tree) → IsGoingThrough S ts (rest ++ w ∷ []) i → IsGoingThrough S ts rest (i + 1)
    passes w g = subst (λ l. IsGoingThrough S ts l (i + 1)) (append-nil rest) (gone_through [] w g (λ v j. absurd j) (λ n o c. (0, no_term, omega (arith, open_count w n o c))))

    -- the open ones of some terms wait in its place
    gives_way : (us after : List Tree) (w : Tree) → OpenOnesWait us rest after → IsGoingThrough S ts (rest ++ w ∷ []) i
        → ((n : ℕ) → ¬ IsClosed w → GoesThrough S w n → (k : ℕ) × GoThrough S (trees us) k × (k + 1 ≤ n)) → IsGoingThrough S ts after (i + 1)
    gives_way us after w (vs, open_ones, is) g less =
        subst (λ l. IsGoingThrough S ts l (i + 1)) (sym is)
        (gone_through vs w g (λ v j. (picks_in us vs v open_ones j).1) (λ n o c. let l = less n o c in (l.0, picked_count us vs l.0 open_ones l.1, l.2)))

    -- what is neither a variable nor a structure is closed, and never waits
    pub never_waits : (w : Tree) → IsClosed w → IsGoingThrough S ts (rest ++ w ∷ []) i → ⊥
    never_waits w c g = g.waits w (in_last rest w) c

    -- the arguments of a structure wait in its place, or the value of a variable, but for closed ones
    pub goes_into : (f : List ℕ) (us after : List Tree) → OpenOnesWait us rest after → IsGoingThrough S ts (rest ++ node f (trees us) ∷ []) i → IsGoingThrough S ts after (i + 1)
    goes_into f us after waits g = gives_way us after (node f (trees us)) waits g (λ n o c. node_count f (trees us) n o c)

    pub goes_over : (M : VarName → Option Tree) (x : VarName) (M' : VarName → Option Tree) (after : List Tree) → TakesOver S x M M' rest after → IsGoingThrough S ts (rest ++ variable x ∷ []) i → IsGoingThrough S ts after (i + 1)
    goes_over M x M' after (has_it e) g = passes (variable x) g
    goes_over M x M' after (is_unbound e d) g = passes (variable x) g
    goes_over M x M' after (takes {u = u} e d waits) g = gives_way (u ∷ []) after (variable x) waits g (λ n o c. let l = value_count x u n d c in (l.0, by_itself u l.0 l.1, l.2))

-- terms come to those that wait, one by one
pub none_waits : (ws : List Tree) → OpenOnesWait [] ws ws
none_waits ws = ([], nothing, sym (append-nil ws))

pub open_one_waits : (ts ws ws' ts' : List Tree) (t : Tree) → ts' ≡ ts ++ t ∷ [] → OpenOnesWait ts ws ws' → ¬ IsClosed t → OpenOnesWait ts' ws (ws' ++ t ∷ [])
open_one_waits ts ws ws' ts' t e (us, open_ones, is) o = (us ++ t ∷ [], subst (λ l. Picks (λ t. ¬ IsClosed t) l (us ++ t ∷ [])) (sym e) (pick_last ts us t open_ones o), ap (λ l. l ++ t ∷ []) is ∙ append_assoc ws us (t ∷ []))

pub closed_one_does_not : (ts ws ws' ts' : List Tree) (t : Tree) → ts' ≡ ts ++ t ∷ [] → OpenOnesWait ts ws ws' → IsClosed t → OpenOnesWait ts' ws ws'
closed_one_does_not ts ws ws' ts' t e (us, open_ones, is) c = (us, subst (λ l. Picks (λ t. ¬ IsClosed t) l us) (sym e) (leave_last ts us t open_ones (λ o. o c)), is)

-- where none waited, the open ones wait; and where their number is not 0, some do
pub open_ones_of : (ts ws ws' : List Tree) → ws ≡ [] → OpenOnesWait ts ws ws' → Picks (λ t. ¬ IsClosed t) ts ws'
open_ones_of ts ws ws' e (us, open_ones, is) = subst (Picks (λ t. ¬ IsClosed t) ts) (sym (is ∙ ap (λ l. l ++ us) e)) open_ones

pub some_wait : (items : List (Bor Tree)) (n : ℕ) → n ≡ length items → (n == 0) ≡ false → map (λ (b : Bor Tree). b.now) items ≢ []
some_wait [] n e f = let clash : true ≡ false = sym (ap (λ k. k == 0) e) ∙ f in cc
some_wait (b ∷ items) n e f = λ q. cc
