-- Which variables reach others, found backwards from these.
use Rattle.ghc_trace.proofs.Words.{◌≡◌, ◌+◌, ◌<◌, ◌≤◌, ◌⊎◌, ◌↔◌, ◌∷◌, ◌++◌, ℕ, Bool, true, false, cond, List, [], length, refl, sym, ap, ◌∙◌, subst, inl, inr, arith, Option, Some, None, IsTrue, Tree, VarName, Variables, In, in_either, in_last, in_left, in_more, in_right, has_member, is_member, holds_nothing, one_inserted, same_value, eq_by_cmp, name_cmp}
use Rattle.std.proofs.lemmas.List.{length-append}
use Rattle.std.specs.BTreeMap.{get, is_at}
use Rattle.std.specs.FinSet as set
use Rattle.std.specs.Global.{Vec}
use Rattle.std.specs.Map.{lookup}
use Rattle.ghc_term.specs.Bindings.{Reaches, here, through}
use Rattle.ghc_term.specs.Sets.{IsSetOf}
use Rattle.ghc_term.specs.Tree.{Occurs, variable}
use Rattle.ghc_term.proofs.Chains.{reaches_on}
use Rattle.ghc_term.proofs.Decided.{name_decided}
use Rattle.ghc_term.proofs.Names.{apart, itself, same_name}
use Rattle.ghc_trace.specs.inner.Backward.{AreAllParents, AreParentsAmong, GainsParent, GainsParentsOf, HasAllBelow, IsAncestor, IsParent, Parents, StandsUnder, above, start}
use Rattle.ghc_trace.specs.inner.WhyNotCode.{HasOneOf}

-- the test of names at one name, and at two
chosen : {X : Type 0} (x y : VarName) (a b : X) → x ≡ y → cond (eq_by_cmp name_cmp x y) a b ≡ a
chosen x y a b same = ap (λ t. cond t a b) (ap (eq_by_cmp name_cmp x) (sym same) ∙ itself x)

passed : {X : Type 0} (x y : VarName) (a b : X) → ¬ (x ≡ y) → cond (eq_by_cmp name_cmp x y) a b ≡ b
passed x y a b other = ap (λ t. cond t a b) (apart x y other)

-- the list of a child, with one parent more
module _ (old : Parents) (child parent : VarName) where
  pub with_parent : (those now : Vec VarName) → get name_cmp old child ≡ Some those → now.items ≡ those.items ++ parent ∷ [] → (v : VarName) → In v now.items ↔ (StandsUnder old child v ⊎ (v ≡ parent))
  with_parent those now was is v = (
    λ i. elim (in_more those.items parent v (subst (In v) is i)) [ inl j ↦ inl (those, was, j) | inr e ↦ inr e ],
    λ c. subst (In v) (sym is) (elim c [
      | inl s ↦ in_left those.items (parent ∷ []) v (subst (λ (l : Vec VarName). In v l.items) (same_value s.1 was) s.2)
      | inr e ↦ subst (λ z. In z (those.items ++ parent ∷ [])) (sym e) (in_last those.items parent)
    ]),
  )

  pub first_parent : (now : Vec VarName) → get name_cmp old child ≡ None → now.items ≡ parent ∷ [] → (v : VarName) → In v now.items ↔ (StandsUnder old child v ⊎ (v ≡ parent))
  first_parent now none is v = (
    λ i. elim (subst (In v) is i) [ inl e ↦ inr e | inr never ↦ absurd never ],
    λ c. subst (In v) (sym is) (elim c [ inl s ↦ let clash : None ≡ Some s.0 = sym none ∙ s.1 in absurd (cc) | inr e ↦ inl e ]),
  )

  pub one_parent : (mid new : Parents) (now : Vec VarName) → ((v : VarName) → In v now.items ↔ (StandsUnder old child v ⊎ (v ≡ parent)))
      → ((q : VarName) → get name_cmp mid q ≡ cond (eq_by_cmp name_cmp child q) None (get name_cmp old q))
      → ((q : VarName) → get name_cmp new q ≡ cond (eq_by_cmp name_cmp child q) (Some now) (get name_cmp mid q)) → GainsParent old new child parent
  one_parent mid new now has taken put w v = elim (name_decided child w) [
    | inl same ↦
        let found : get name_cmp new w ≡ Some now = put w ∙ chosen child w (Some now) (get name_cmp mid w) same in (
          λ s. elim ((has v).0 (subst (λ (l : Vec VarName). In v l.items) (same_value s.1 found) s.2)) [ inl o ↦ inl (subst (λ z. StandsUnder old z v) same o) | inr e ↦ inr (sym same, e) ],
          λ c. (now, found, (has v).1 (elim c [ inl o ↦ inl (subst (λ z. StandsUnder old z v) (sym same) o) | inr p ↦ inr p.1 ])),
        )
    | inr other ↦
        let stays : get name_cmp new w ≡ get name_cmp old w = put w ∙ passed child w (Some now) (get name_cmp mid w) other ∙ taken w ∙ passed child w None (get name_cmp old w) other in (
          λ s. inl (s.0, sym stays ∙ s.1, s.2),
          λ c. elim c [ inl o ↦ (o.0, stays ∙ o.1, o.2) | inr p ↦ absurd (other (sym p.0)) ],
        )
  ]

-- under the children, the parent stands too
abbrev pub GainsAll : Parents → Parents → List VarName → VarName → Type 0
GainsAll old new children parent = (w v : VarName) → StandsUnder new w v ↔ (StandsUnder old w v ⊎ (In w children × (v ≡ parent)))

pub gains_none : (m : Parents) (parent : VarName) → GainsAll m m [] parent
gains_none m parent w v = (λ s. inl s, λ c. elim c [ inl s ↦ s | inr p ↦ absurd p.0 ])

pub gains_more : (old now new : Parents) (children : List VarName) (child parent : VarName) → GainsAll old now children parent → GainsParent now new child parent → GainsAll old new (children ++ child ∷ []) parent
gains_more old now new children child parent all one w v = (
  λ s. elim ((one w v).0 s) [
    | inl n ↦ elim ((all w v).0 n) [ inl o ↦ inl o | inr p ↦ inr (in_left children (child ∷ []) w p.0, p.1) ]
    | inr p ↦ inr (subst (λ z. In z (children ++ child ∷ [])) (sym p.0) (in_last children child), p.1)
  ],
  λ c. (one w v).1 (elim c [
    | inl o ↦ inl ((all w v).1 (inl o))
    | inr p ↦ elim (in_more children child w p.0) [ inl j ↦ inl ((all w v).1 (inr (j, p.1))) | inr e ↦ inr (e, p.1) ]
  ]),
)

module _ (S : VarName → Option Tree) where
  pub gains_of_value : (old new : Parents) (children : List VarName) (parent : VarName) (u : Tree) (found : Variables) → S parent ≡ Some u → set.from_list children ≡ found → IsSetOf found (λ x. Occurs x u)
      → GainsAll old new children parent → GainsParentsOf S old new parent
  gains_of_value old new children parent u found bound members are all w v = (
    λ s. elim ((all w v).0 s) [ inl o ↦ inl o | inr p ↦ inr ((u, bound, (are w).0 (has_member found children members w p.0)), p.1) ],
    λ c. (all w v).1 (elim c [
      | inl o ↦ inl o
      | inr p ↦ inr (is_member found children members w ((are w).1 (subst (Occurs w) (same_value p.0.1 bound) p.0.2)), p.1)
    ]),
  )

  pub gains_of_unbound : (m : Parents) (parent : VarName) → S parent ≡ None → GainsParentsOf S m m parent
  gains_of_unbound m parent none w v = (λ s. inl s, λ c. elim c [ inl s ↦ s | inr p ↦ let clash : None ≡ Some p.0.0 = sym none ∙ p.0.1 in absurd (cc) ])

  pub parents_of_none : (m : Parents) → m.entries ≡ [] → AreParentsAmong S [] m
  parents_of_none m empty w v = (λ s. let clash : None ≡ Some s.0 = sym (ap (λ es. lookup (is_at (name_cmp w)) es) empty) ∙ s.1 in absurd (cc), λ p. absurd p.0)

  pub parents_of_more : (among : List VarName) (x : VarName) (old new : Parents) → AreParentsAmong S among old → GainsParentsOf S old new x → AreParentsAmong S (among ++ x ∷ []) new
  parents_of_more among x old new are gains w v = (
    λ s. elim ((gains w v).0 s) [
      | inl o ↦ let p = (are w v).0 o in (in_left among (x ∷ []) v p.0, p.1)
      | inr p ↦ (subst (λ z. In z (among ++ x ∷ [])) (sym p.1) (in_last among x), subst (λ z. IsParent S z w) (sym p.1) p.0)
    ],
    λ c. (gains w v).1 (elim (in_more among x v c.0) [
      | inl i ↦ inl ((are w v).1 (i, c.1))
      | inr e ↦ inr (subst (λ z. IsParent S z w) e c.1, e)
    ]),
  )

-- how far the way up has come: some ancestors are gone through, and others wait
pub record Climbing (m : Parents) (From : VarName → Type 0) (ancestors : Variables) (waiting : List VarName) : Type 0 where
  pub first : (v : VarName) → From v → IsTrue (set.contains ancestors v) ⊎ In v waiting
  pub sound : (v : VarName) → IsTrue (set.contains ancestors v) → IsAncestor m From v
  pub ahead : (v : VarName) → In v waiting → IsAncestor m From v
  pub next : (w v : VarName) → IsTrue (set.contains ancestors w) → StandsUnder m w v → IsTrue (set.contains ancestors v) ⊎ In v waiting

module _ (m : Parents) (From : VarName → Type 0) where
  pub climbing_begins : (none : Variables) (waiting : List VarName) → none ≡ set.empty → ((v : VarName) → From v ↔ In v waiting) → Climbing m From none waiting
  climbing_begins none waiting e is = record {
    first = λ v f. inr ((is v).0 f);
    sound = λ v i. absurd (holds_nothing none e v i);
    ahead = λ v i. start ((is v).1 i);
    next = λ w v i. absurd (holds_nothing none e w i);
  }

  module _ (ancestors : Variables) (x : VarName) (waiting rest : List VarName) (e : waiting ≡ rest ++ x ∷ []) (s : Climbing m From ancestors waiting) where
    -- past one that is gone through
    pub climbs_past : IsTrue (set.contains ancestors x) → Climbing m From ancestors rest
    climbs_past there =
        let still : (v : VarName) → IsTrue (set.contains ancestors v) ⊎ In v waiting → IsTrue (set.contains ancestors v) ⊎ In v rest = λ v c. elim c [
          | inl i ↦ inl i
          | inr j ↦ elim (in_more rest x v (subst (In v) e j)) [ inl a ↦ inr a | inr same ↦ inl (subst (λ z. IsTrue (set.contains ancestors z)) (sym same) there) ]
        ] in
        record {
          first = λ v f. still v (s.first v f);
          sound = s.sound;
          ahead = λ v i. s.ahead v (subst (In v) (sym e) (in_left rest (x ∷ []) v i));
          next = λ w v i u. still v (s.next w v i u);
        }

    -- through one more
    pub climbs : (come : List VarName) → ((v : VarName) → In v come ↔ StandsUnder m x v) → Climbing m From (set.insert ancestors x) (rest ++ come)
    climbs come comes =
        let one = one_inserted ancestors x in
        let this : IsAncestor m From x = s.ahead x (subst (In x) (sym e) (in_last rest x)) in
        let still : (v : VarName) → IsTrue (set.contains ancestors v) ⊎ In v waiting → IsTrue (set.contains (set.insert ancestors x) v) ⊎ In v (rest ++ come) = λ v c. elim c [
          | inl i ↦ inl ((one v).1 (inl i))
          | inr j ↦ elim (in_more rest x v (subst (In v) e j)) [ inl a ↦ inr (in_left rest come v a) | inr same ↦ inl ((one v).1 (inr same)) ]
        ] in
        record {
          first = λ v f. still v (s.first v f);
          sound = λ v i. elim ((one v).0 i) [ inl was ↦ s.sound v was | inr same ↦ subst (IsAncestor m From) (sym same) this ];
          ahead = λ v i. elim (in_either rest come v i) [ inl a ↦ s.ahead v (subst (In v) (sym e) (in_left rest (x ∷ []) v a)) | inr b ↦ above this ((comes v).0 b) ];
          next = λ w v i u. elim ((one w).0 i) [
            | inl was ↦ still v (s.next w v was u)
            | inr same ↦ inr (in_right rest come v ((comes v).1 (subst (λ z. StandsUnder m z v) same u)))
          ];
        }

  gone_up : (ancestors : Variables) → Climbing m From ancestors [] → {v : VarName} → IsAncestor m From v → IsTrue (set.contains ancestors v)
  gone_up ancestors s (start {v = v} f) = elim (s.first v f) [ inl i ↦ i | inr never ↦ absurd never ]
  gone_up ancestors s (above {w = w} {v = v} a u) = elim (s.next w v (gone_up ancestors s a) u) [ inl i ↦ i | inr never ↦ absurd never ]

  pub climbing_ends : (ancestors : Variables) → Climbing m From ancestors [] → IsSetOf ancestors (IsAncestor m From)
  climbing_ends ancestors s v = (s.sound v, λ a. gone_up ancestors s a)

-- what the look-up finds comes, or nothing does
pub those_come : (m : Parents) (x : VarName) (those : Vec VarName) → get name_cmp m x ≡ Some those → (v : VarName) → In v those.items ↔ StandsUnder m x v
those_come m x those found v = (λ i. (those, found, i), λ s. subst (λ (l : Vec VarName). In v l.items) (same_value s.1 found) s.2)

pub none_come : (m : Parents) (x : VarName) → get name_cmp m x ≡ None → (v : VarName) → In v [] ↔ StandsUnder m x v
none_come m x none v = (λ i. absurd i, λ s. let clash : None ≡ Some s.0 = sym none ∙ s.1 in absurd (cc))

-- how many stand under variables that are not gone through
abbrev pub listed : Variables → List (VarName × Vec VarName) → ℕ
listed ancestors [] = 0
listed ancestors (e ∷ es) = cond (set.contains ancestors e.0) 0 (length e.1.items) + listed ancestors es

fewer_by : (before now : Bool) (n : ℕ) → (IsTrue before → IsTrue now) → cond now 0 n ≤ cond before 0 n
fewer_by true true n more = omega arith
fewer_by true false n more = let clash : false ≡ true = more refl in absurd (cc)
fewer_by false true n more = omega arith
fewer_by false false n more = omega arith

listed_fewer : (ancestors : Variables) (x : VarName) (es : List (VarName × Vec VarName)) → listed (set.insert ancestors x) es ≤ listed ancestors es
listed_fewer ancestors x [] = omega arith
listed_fewer ancestors x (e ∷ es) =
    let first = fewer_by (set.contains ancestors e.0) (set.contains (set.insert ancestors x) e.0) (length e.1.items) (λ i. (one_inserted ancestors x e.0).1 (inl i)) in
    let rest = listed_fewer ancestors x es in
    omega (arith, first, rest)

-- what stands under the variable is left out, where it was not gone through
gone_through : (before now : Bool) (n : ℕ) → ¬ IsTrue before → IsTrue now → cond now 0 n + n ≤ cond before 0 n
gone_through true now n new is = absurd (new refl)
gone_through false true n new is = omega arith
gone_through false false n new is = let clash : false ≡ true = is in absurd (cc)

listed_less : (ancestors : Variables) (x : VarName) (es : List (VarName × Vec VarName)) (vs : Vec VarName) → ¬ IsTrue (set.contains ancestors x) → lookup (is_at (name_cmp x)) es ≡ Some vs
    → listed (set.insert ancestors x) es + length vs.items ≤ listed ancestors es
listed_less ancestors x [] vs new is = let clash : None ≡ Some vs = is in absurd (cc)
listed_less ancestors x (e ∷ es) vs new is = elim (is_at (name_cmp x) e.0) as (λ b. is_at (name_cmp x) e.0 ≡ b → cond b (Some e.1) (lookup (is_at (name_cmp x)) es) ≡ Some vs
    → cond (set.contains (set.insert ancestors x) e.0) 0 (length e.1.items) + listed (set.insert ancestors x) es + length vs.items ≤ cond (set.contains ancestors e.0) 0 (length e.1.items) + listed ancestors es) [
      | true ↦ λ at i.
          let same : x ≡ e.0 = same_name x e.0 at in
          let long : length e.1.items ≡ length vs.items = ap (λ (l : Vec VarName). length l.items) (same_value refl i) in
          let first = gone_through (set.contains ancestors e.0) (set.contains (set.insert ancestors x) e.0) (length e.1.items) (λ there. new (subst (λ z. IsTrue (set.contains ancestors z)) (sym same) there)) ((one_inserted ancestors x e.0).1 (inr (sym same))) in
          let rest = listed_fewer ancestors x es in
          omega (arith, long, first, rest)
      | false ↦ λ at i.
          let first = fewer_by (set.contains ancestors e.0) (set.contains (set.insert ancestors x) e.0) (length e.1.items) (λ there. (one_inserted ancestors x e.0).1 (inl there)) in
          let rest = listed_less ancestors x es vs new i in
          omega (arith, first, rest)
    ] refl is

module _ (m : List (VarName × Vec VarName)) (ancestors : Variables) (x : VarName) (waiting rest : List VarName) (e : waiting ≡ rest ++ x ∷ []) where
  one_waits_less : length waiting ≡ length rest + 1
  one_waits_less = ap length e ∙ length-append rest (x ∷ [])

  pub falls_past : length rest + listed ancestors m < length waiting + listed ancestors m
  falls_past = omega (arith, one_waits_less)

  pub falls_by_none : length rest + listed (set.insert ancestors x) m < length waiting + listed ancestors m
  falls_by_none = let fewer = listed_fewer ancestors x m in omega (arith, one_waits_less, fewer)

  pub falls_by_those : (those : Vec VarName) (after : List VarName) → ¬ IsTrue (set.contains ancestors x) → lookup (is_at (name_cmp x)) m ≡ Some those → after ≡ rest ++ those.items
      → length after + listed (set.insert ancestors x) m < length waiting + listed ancestors m
  falls_by_those those after new found a =
      let then = ap length a ∙ length-append rest those.items in
      let fewer = listed_less ancestors x m those new found in
      omega (arith, one_waits_less, then, fewer)

-- what a variable reaches that is reached, is reached
pub via : (S : VarName → Option Tree) (t : Tree) (v y : VarName) → Reaches S t v → Reaches S (variable v) y → Reaches S t y
via S t v y r (here same) = subst (λ z. Reaches S t z) (sym same) r
via S t v y r (through {y = w} same e q) = reaches_on (subst (λ z. Reaches S t z) (sym same) r) e q

-- all that a term reaches has all below
pub has_all_below : (S : VarName → Option Tree) (t : Tree) (among : List VarName) (reached : Variables) → set.from_list among ≡ reached → IsSetOf reached (Reaches S t) → HasAllBelow S among
has_all_below S t among reached all is v w i p = is_member reached among all w ((is w).1 (reaches_on ((is v).0 (has_member reached among all v i)) p.1 (here p.2)))

-- of the variables, just the ancestors of y reach it
module _ (S : VarName → Option Tree) (among : List VarName) (m : Parents) (y : VarName) (are : AreParentsAmong S among m) where
  abbrev IsAbove : VarName → Type 0
  IsAbove = IsAncestor m (λ v. In v (y ∷ []))

  up : {v : VarName} → IsAbove v → Reaches S (variable v) y
  up (start i) = elim i [ inl same ↦ here (sym same) | inr never ↦ absurd never ]
  up (above {w = w} {v = v} a u) = let p = ((are w v).0 u).1 in through refl p.1 (via S p.0 w y (here p.2) (up a))

  down : HasAllBelow S among → {t : Tree} {x : VarName} → Reaches S t x → x ≡ y → ((w : VarName) → Occurs w t → In w among) → (w : VarName) × Occurs w t × IsAbove w
  down below (here {x = x} o) same all = (x, o, start (inl same))
  down below (through {u = u} {y = w} o e r) same all =
      let d = down below r same (λ z q. below w z (all w o) (u, e, q)) in
      (w, o, above d.2 ((are d.0 w).1 (all w o, (u, e, d.1))))

  pub ancestors_reach : HasAllBelow S among → (xs : Variables) → IsSetOf xs IsAbove → (v : VarName) → In v among → IsTrue (set.contains xs v) ↔ Reaches S (variable v) y
  ancestors_reach below xs is v i = (
    λ c. up ((is v).0 c),
    λ r. let d = down below r refl (λ w o. subst (λ z. In z among) (sym o) i) in (is v).1 (subst IsAbove d.1 d.2),
  )

-- where each parent of each variable is listed, a term reaches y just where an ancestor of y stands in it
module _ (S : VarName → Option Tree) (m : Parents) (y : VarName) (are : AreAllParents S m) where
  abbrev IsOver : VarName → Type 0
  IsOver = IsAncestor m (λ v. In v (y ∷ []))

  climbed : {v : VarName} → IsOver v → Reaches S (variable v) y
  climbed (start i) = elim i [ inl same ↦ here (sym same) | inr never ↦ absurd never ]
  climbed (above {w = w} {v = v} a u) = let p = (are w v).0 u in through refl p.1 (via S p.0 w y (here p.2) (climbed a))

  sunk : {t : Tree} {x : VarName} → Reaches S t x → x ≡ y → (w : VarName) × Occurs w t × IsOver w
  sunk (here {x = x} o) same = (x, o, start (inl same))
  sunk (through {u = u} {y = w} o e r) same = let d = sunk r same in (w, o, above d.2 ((are d.0 w).1 (u, e, d.1)))

  pub reaches_by : (xs : Variables) → IsSetOf xs IsOver → (t : Tree) → HasOneOf xs t ↔ Reaches S t y
  reaches_by xs is t = (λ h. via S t h.0 y (here h.1) (climbed ((is h.0).0 h.2)), λ r. let d = sunk r refl in (d.0, d.1, (is d.0).1 d.2))

-- where a variable that is bound is one of those listed from, each parent is listed
pub all_listed : (S : VarName → Option Tree) (among : List VarName) (m : Parents) → ((v : VarName) (u : Tree) → S v ≡ Some u → In v among) → AreParentsAmong S among m → AreAllParents S m
all_listed S among m all are w v = (λ s. ((are w v).0 s).1, λ p. (are w v).1 (all v p.0 p.1, p))
