-- What the positions that are done have shown.
use Rattle.ghc_match.proofs.Words.{◌≡◌, Bool, true, false, cond, List, [], ◌∷◌, ◌++◌, refl, sym, ap, ◌∙◌, subst, inl, inr, ◌⊎◌, append_assoc, ◌↔◌, IsTrue, Option, Some, None, zip, eq_by_cmp, VarName, Tree, variable, integer, node, Trees, none, more, list_of, IsValue, In, name_cmp, Passes, Variables, IsSetOf, StoreValue, value_at, leads_once, name_total, same_name, apart, itself, in_left, in_right, in_more, one_inserted, holds_nothing, AreDistinct, distinct_left, distinct_apart, ChainEnds, AreAlike, Gains, arguments, Clashes, Asks, Passed, standing, Opens}
use Rattle.std.specs.FinMap as finite
use Rattle.std.specs.FinSet as set
use Rattle.ghc_term.specs.Variables.{variables, variables_of_all, variables_of_list}
use Rattle.ghc_match.proofs.GainsLemmas.{OneHas, has_more}
use Rattle.ghc_match.proofs.Positions.{value_not, same_variable}

-- what one pair shows
module _ (S : VarName → Option Tree) (h t : Tree) where
  pub clash_not : (b : Bool) (x : VarName) → ChainEnds S t (variable x) → IsTrue b ↔ (IsTrue b ⊎ Clashes S h t)
  clash_not b x l = (λ i. inl i, λ k. elim k [ inl i ↦ i | inr m ↦ let c = m.1 in absurd (value_not (leads_once c.1.1 l.1).1 c.2) ])

  pub clash_new : (b : Bool) (e : Tree) → IsValue h → ChainEnds S t e → IsValue e → ¬ AreAlike h e → IsTrue true ↔ (IsTrue b ⊎ Clashes S h t)
  clash_new b e vh l ve n = (λ _. inr (vh, (e, l, ve, n)), λ _. refl)

  pub clash_alike : (b : Bool) (e : Tree) → ChainEnds S t e → AreAlike h e → IsTrue b ↔ (IsTrue b ⊎ Clashes S h t)
  clash_alike b e l a = (λ i. inl i, λ k. elim k [ inl i ↦ i | inr m ↦ let c = m.1 in absurd (c.3 (subst (AreAlike h) (leads_once l.1 c.1.1).1 a)) ])

  pub asks_new : (old new : Variables) (x : VarName) → IsValue h → ChainEnds S t (variable x) → new ≡ set.insert old x → Gains old new (Asks S h t)
  asks_new old new x v l e y = (
    λ c. elim ((one_inserted old x y).0 (subst (λ z. IsTrue (set.contains z y)) e c)) [ inl a ↦ inl a | inr same ↦ inr (v, subst (λ z. ChainEnds S t (variable z)) (sym same) l) ],
    λ c. subst (λ z. IsTrue (set.contains z y)) (sym e) ((one_inserted old x y).1 (elim c [ inl a ↦ inl a | inr p ↦ inr (let same : variable y ≡ variable x = (leads_once p.1.1 l.1).1 in cc) ])),
  )

  pub asks_not : (s : Variables) (e : Tree) → ChainEnds S t e → IsValue e → Gains s s (Asks S h t)
  asks_not s e l v y = (λ c. inl c, λ c. elim c [ inl a ↦ a | inr p ↦ absurd (value_not (leads_once l.1 p.1.1).1 v) ])

  pub passed_by : (old new : Variables) → IsValue h → Gains old new (Passes S t) → Gains old new (Passed S h t)
  passed_by old new v g y = (
    λ c. elim ((g y).0 c) [ inl a ↦ inl a | inr p ↦ inr (v, p) ],
    λ c. (g y).1 (elim c [ inl a ↦ inl a | inr p ↦ inr p.1 ]),
  )

pub standing_value : (h t : Tree) (stands : StoreValue) → IsValue h → stands ≡ standing h t stands
standing_value (variable x) t stands v = absurd v
standing_value _ t stands v = refl

-- What the pairs that are done have shown.
pub record Seen (S : VarName → Option Tree) (done : List (Tree × Tree)) (clashes : Bool) (stands : StoreValue) (wanted looked : Variables) : Type 0 where
  pub clash : IsTrue clashes ↔ ((q : Tree × Tree) × In q done × Clashes S q.0 q.1)
  pub stand : (y : VarName) (t : Tree) → (value_at stands y ≡ Some t) ↔ In {X = Tree × Tree} (variable y, t) done
  pub wants : IsSetOf wanted (OneHas (λ (q : Tree × Tree) x. Asks S q.0 q.1 x) done)
  pub looks : IsSetOf looked (OneHas (λ (q : Tree × Tree) x. Passed S q.0 q.1 x) done)

pub seen_nothing : (S : VarName → Option Tree) (stands : StoreValue) (wanted looked : Variables) → stands ≡ finite.empty → wanted ≡ set.empty → looked ≡ set.empty → Seen S [] false stands wanted looked
seen_nothing S stands wanted looked a b c = record {
  clash = (λ e. absurd (let clash : false ≡ true = e in cc), λ w. absurd w.1);
  stand = λ y t. (λ e. absurd (let clash : None ≡ Some t = sym (finite.get-empty name_cmp y) ∙ ap (λ s. value_at s y) (sym a) ∙ e in cc), λ i. absurd i);
  wants = λ x. (λ e. absurd (holds_nothing wanted b x e), λ w. absurd w.1);
  looks = λ x. (λ e. absurd (holds_nothing looked c x e), λ w. absurd w.1);
}

-- the variables of the heads of pairs
abbrev pub names : List (Tree × Tree) → List VarName
names [] = []
names (q ∷ qs) = variables q.0 ++ names qs

-- No variable of the heads ahead stands there twice, or stands for something already.
pub record IsFresh (stands : StoreValue) (ahead : List (Tree × Tree)) : Type 0 where
  pub distinct : AreDistinct (names ahead)
  pub free : (y : VarName) → In y (names ahead) → value_at stands y ≡ None

-- what variables stand for after one pair more
stand_on : (done : List (Tree × Tree)) (stands : StoreValue) → ((y : VarName) (t : Tree) → (value_at stands y ≡ Some t) ↔ In {X = Tree × Tree} (variable y, t) done)
    → (h u : Tree) → ((z : VarName) → In z (variables h) → value_at stands z ≡ None)
    → (y : VarName) (t : Tree) → (value_at (standing h u stands) y ≡ Some t) ↔ In {X = Tree × Tree} (variable y, t) (done ++ (h, u) ∷ [])
stand_on done stands old (variable z) u free y t =
    let read : value_at (finite.insert stands z u) y ≡ cond (eq_by_cmp name_cmp y z) (Some u) (value_at stands y) = finite.get-insert name_total stands z u y in (
      λ e.
          elim (eq_by_cmp name_cmp y z) as (λ b. eq_by_cmp name_cmp y z ≡ b → cond b (Some u) (value_at stands y) ≡ Some t → In {X = Tree × Tree} (variable y, t) (done ++ (variable z, u) ∷ [])) [
            | true ↦ λ p q. let is : u ≡ t = cc in let name = same_name y z p in in_right done ((variable z, u) ∷ []) (variable y, t) (inl (λ n. (variable (name n), sym is n)))
            | false ↦ λ p q. in_left done ((variable z, u) ∷ []) (variable y, t) ((old y t).0 q)
          ] refl (sym read ∙ e),
      λ i. elim (in_more done (variable z, u) (variable y, t) i) [
        | inl j ↦
            let bound = (old y t).1 j in
            let other : eq_by_cmp name_cmp y z ≡ false = apart y z (λ same. let clash : None ≡ Some t = sym (free z (inl refl)) ∙ ap (value_at stands) (sym same) ∙ bound in cc) in
            read ∙ ap (λ b. cond b (Some u) (value_at stands y)) other ∙ bound
        | inr same ↦
            let a : variable y ≡ variable z = ap (λ (q : Tree × Tree). q.0) same in
            let b : t ≡ u = ap (λ (q : Tree × Tree). q.1) same in
            read ∙ ap (λ b. cond b (Some u) (value_at stands y)) (ap (eq_by_cmp name_cmp y) (sym (same_variable a)) ∙ itself y) ∙ ap Some (sym b)
      ],
    )
stand_on done stands old h u free y t = (
  λ e. in_left done ((h, u) ∷ []) (variable y, t) ((old y t).0 e),
  λ i. elim (in_more done (h, u) (variable y, t) i) [
    | inl j ↦ (old y t).1 j
    | inr same ↦ absurd (let clash : variable y ≡ h = ap (λ (q : Tree × Tree). q.0) same in cc)
  ],
)

names_append : (ps qs : List (Tree × Tree)) → names (ps ++ qs) ≡ names ps ++ names qs
names_append [] qs = refl
names_append (p ∷ ps) qs = ap (λ l. variables p.0 ++ l) (names_append ps qs) ∙ sym (append_assoc (variables p.0) (names ps) (names qs))

-- one pair more is done
pub seen_on : (S : VarName → Option Tree) (done rest : List (Tree × Tree)) (q : Tree × Tree) (b c : Bool) (stands stands' : StoreValue) (wanted wanted' looked looked' : Variables)
    → Seen S done b stands wanted looked → IsFresh stands (rest ++ q ∷ []) → IsTrue c ↔ (IsTrue b ⊎ Clashes S q.0 q.1) → stands' ≡ standing q.0 q.1 stands
    → Gains wanted wanted' (Asks S q.0 q.1) → Gains looked looked' (Passed S q.0 q.1) → Seen S (done ++ q ∷ []) c stands' wanted' looked'
seen_on S done rest q b c stands stands' wanted wanted' looked looked' s f k e g l = record {
  clash = (
    λ i. elim (k.0 i) [
      | inl j ↦ let w = s.clash.0 j in (w.0, in_left done (q ∷ []) w.0 w.1, w.2)
      | inr m ↦ (q, in_right done (q ∷ []) q (inl refl), m)
    ],
    λ w. k.1 (elim (in_more done q w.0 w.1) [
      | inl i ↦ inl (s.clash.1 (w.0, i, w.2))
      | inr same ↦ inr (subst (λ (z : Tree × Tree). Clashes S z.0 z.1) same w.2)
    ]),
  );
  stand = λ y t. subst (λ m. (value_at m y ≡ Some t) ↔ In {X = Tree × Tree} (variable y, t) (done ++ q ∷ [])) (sym e)
      (stand_on done stands s.stand q.0 q.1 (λ z i. f.free z (subst (In z) (sym (names_append rest (q ∷ []))) (in_right (names rest) (variables q.0 ++ []) z (in_left (variables q.0) [] z i)))) y t);
  wants = has_more (λ (p : Tree × Tree) x. Asks S p.0 p.1 x) wanted wanted' done q s.wants g;
  looks = has_more (λ (p : Tree × Tree) x. Passed S p.0 p.1 x) looked looked' done q s.looks l;
}

-- the heads of two lists have the variables of the first, or of its beginning
abbrev Rest : List VarName → List VarName → Type 0
Rest all some = (xs : List VarName) × (all ≡ some ++ xs)

zip_names : (hs us : List Tree) → Rest (variables_of_list hs) (names (zip hs us))
zip_names [] us = ([], refl)
zip_names (h ∷ hs) [] = (variables_of_list (h ∷ hs), refl)
zip_names (h ∷ hs) (u ∷ us) = let r = zip_names hs us in (r.0, ap (λ l. variables h ++ l) r.1 ∙ sym (append_assoc (variables h) (names (zip hs us)) r.0))

all_listed : (ts : Trees) → variables_of_all ts ≡ variables_of_list (list_of ts)
all_listed none = refl
all_listed (more t ts) = ap (λ l. variables t ++ l) (all_listed ts)

inner_names : (h : Tree) (us : List Tree) → Rest (variables h) (names (zip (arguments h) us))
inner_names (variable x) us = (x ∷ [], refl)
inner_names (integer k) us = ([], refl)
inner_names (node f ts) us = let r = zip_names (list_of ts) us in (r.0, all_listed ts ∙ r.1)

standing_free : (h t : Tree) (stands : StoreValue) (y : VarName) → value_at stands y ≡ None → ((z : VarName) → h ≡ variable z → ¬ (y ≡ z)) → value_at (standing h t stands) y ≡ None
standing_free (variable z) t stands y e n = finite.get-insert name_total stands z t y ∙ ap (λ b. cond b (Some t) (value_at stands y)) (apart y z (n z refl)) ∙ e
standing_free _ t stands y e n = e

-- the variables ahead stay fresh
pub fresh_on : (S : VarName → Option Tree) (rest new : List (Tree × Tree)) (q : Tree × Tree) (stands stands' : StoreValue) → IsFresh stands (rest ++ q ∷ []) → Opens S q.0 q.1 rest new
    → stands' ≡ standing q.0 q.1 stands → IsFresh stands' new
unfolding inner_names
fresh_on S rest new q stands stands' f o e =
    let inner = zip (arguments q.0) (arguments o.0) in
    let r = inner_names q.0 (arguments o.0) in
    let tail = r.0 ++ [] in
    let all : names (rest ++ q ∷ []) ≡ names new ++ tail =
    names_append rest (q ∷ []) ∙ ap (λ l. names rest ++ (l ++ [])) r.1 ∙ ap (λ l. names rest ++ l) (append_assoc (names inner) r.0 [])
    ∙ sym (append_assoc (names rest) (names inner) tail) ∙ ap (λ l. l ++ tail) (sym (ap names o.2 ∙ names_append rest inner)) in
    let distinct = subst AreDistinct all f.distinct in
    record {
      distinct = distinct_left (names new) tail distinct;
      free = λ y i.
          let was = f.free y (subst (In y) (sym all) (in_left (names new) tail y i)) in
          ap (λ m. value_at m y) e ∙ standing_free q.0 q.1 stands y was (λ z is same.
          let own : In z r.0 = in_own q.0 (arguments o.0) z is in
          distinct_apart (names new) tail distinct y i (in_left r.0 [] y (subst (λ x. In x r.0) (sym same) own)));
    } where
      in_own : (h : Tree) (us : List Tree) (z : VarName) → h ≡ variable z → In z (inner_names h us).0
      in_own (variable x) us z is = inl (let same : z ≡ x = cc in same)
      in_own _ us z is = cc

-- a variable of the last pair ahead stands for nothing yet
pub fresh_last : (rest : List (Tree × Tree)) (q : Tree × Tree) (stands : StoreValue) → IsFresh stands (rest ++ q ∷ []) → (y : VarName) → q.0 ≡ variable y → value_at stands y ≡ None
fresh_last rest q stands f y e =
    f.free y (subst (In y) (sym (names_append rest (q ∷ []))) (in_right (names rest) (variables q.0 ++ []) y (in_left (variables q.0) [] y (subst (λ h. In y (variables h)) (sym e) (inl refl)))))

pub fresh_first : (hs ts : List Tree) (stands : StoreValue) → AreDistinct (variables_of_list hs) → stands ≡ finite.empty → IsFresh stands (zip hs ts)
fresh_first hs ts stands d e =
    let r = zip_names hs ts in
    record {
      distinct = distinct_left (names (zip hs ts)) r.0 (subst AreDistinct r.1 d);
      free = λ y i. ap (λ m. value_at m y) e ∙ finite.get-empty name_cmp y;
    }
