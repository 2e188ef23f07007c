-- Maps of which some values stand in a list, each under the name of its place, and others in the entries after it.
use Rattle.ghc_term.proofs.Words.{◌≡◌, ◌≢◌, ◌<◌, ◌≤◌, ◌+◌, ◌⊎◌, inl, inr, ℕ, zero, suc, cond, Bool, true, false, List, [], ◌∷◌, ◌++◌, length, refl, sym}
use Rattle.ghc_term.proofs.Words.{ap, ◌∙◌, subst, arith, Option, Some, None, get_or, slice_set, option_or, Ordering, eq_by_cmp, IsTotalOrder, IsAntisymmetric}
use Rattle.ghc_term.proofs.Words.{eq_by_cmp_equiv, tells_apart, false_from_ne_true, get_or_past, get_or-set_same, get_or-set_other}
use Rattle.std.specs.FinMap as finite

-- the entry of a place, if it has a value
abbrev pub slot : {K X : Type 0} → K → Option X → List (K × X)
slot k None = []
slot k (Some v) = (k, v) ∷ []

-- the entries of a list whose first place is the n-th: each place has a name of its own, and a blank one has no value
pub record Listing {K X A : Type 0} (R : K → K → Ordering) (name : ℕ → K) (read : A → Option X) (blank : A) (entries : ℕ → List A → List (K × X)) : Type 0 where
  pub total : IsTotalOrder R
  pub alike : IsAntisymmetric R
  pub once : (s t : ℕ) → name s ≡ name t → s ≡ t
  pub placed : (q : K) → ((s : ℕ) × (name s ≡ q)) ⊎ ((s : ℕ) → name s ≢ q)
  pub blank_is : read blank ≡ None
  pub empty : (n : ℕ) → entries n [] ≡ []
  pub more : (n : ℕ) (a : A) (ls : List A) → entries n (a ∷ ls) ≡ slot (name n) (read a) ++ entries (n + 1) ls

-- where there are no entries, there is no value
pub none_in : {K X : Type 0} (R : K → K → Ordering) (es : List (K × X)) (q : K) → length es ≡ 0 → None ≡ finite.get (finite.from_entries {R = R} es) q
none_in R [] q e = sym (finite.get-empty R q)
none_in R (d ∷ es) q e = absurd (omega (arith, e))

pub or_none : {X : Type 0} (o : Option X) → option_or o None ≡ o
or_none None = refl
or_none (Some v) = refl

-- what stands in front comes first
pub joined : {K X : Type 0} (R : K → K → Ordering) (ds es : List (K × X)) (q : K)
    → finite.find R q (ds ++ es) ≡ option_or (finite.find R q ds) (finite.find R q es)
joined R [] es q = refl
joined R (d ∷ ds) es q =
    let rest = finite.find R q (ds ++ es) in
    elim (eq_by_cmp R q d.0) as (λ b. cond b (Some d.1) rest ≡ option_or (cond b (Some d.1) (finite.find R q ds)) (finite.find R q es)) [
      | true ↦ refl
      | false ↦ joined R ds es q
    ]

still_none : {X : Type 0} (b : Bool) {o : Option X} → o ≡ None → cond b None o ≡ None
still_none true e = refl
still_none false e = e

cleared : {A : Type 0} (ls : List A) (s : ℕ) (d : A) → get_or (slice_set ls s d) s d ≡ d
cleared (a ∷ ls) (suc s) d = cleared ls s d
cleared ls s d = refl

module _ {K : Type 0} {R : K → K → Ordering} (o : IsTotalOrder R) (alike : IsAntisymmetric R) where
  apart : (k l : K) → k ≢ l → eq_by_cmp R k l ≡ false
  apart k l n = false_from_ne_true _ (λ e. n (tells_apart alike k l e))

  itself : (k : K) → eq_by_cmp R k k ≡ true
  itself = (eq_by_cmp_equiv o).refl

-- a map that differs from another one under one name at most, where it has p
abbrev Differs : {K X : Type 0} {R : K → K → Ordering} → finite.FinMap R X → K → Option X → finite.FinMap R X → Type 0
Differs {R = R} m k p n = (q : _) → finite.get n q ≡ cond (eq_by_cmp R q k) p (finite.get m q)

module _ {K X : Type 0} {R : K → K → Ordering} (o : IsTotalOrder R) (alike : IsAntisymmetric R) where
  put_differs : (m n : finite.FinMap R X) (k : K) (v : X) → n ≡ finite.insert m k v → Differs m k (Some v) n
  put_differs m n k v h q = ap (λ m. finite.get m q) h ∙ finite.get-insert o m k v q

  gone_differs : (m n : finite.FinMap R X) (k : K) → n ≡ finite.remove m k → Differs m k None n
  gone_differs m n k h q = ap (λ m. finite.get m q) h ∙ finite.get-remove o m k q

  differs_put : (m n : finite.FinMap R X) (k : K) (v : X) → Differs m k (Some v) n → n ≡ finite.insert m k v
  differs_put m n k v d = finite.same_map o alike _ _ (λ q. d q ∙ sym (finite.get-insert o m k v q))

  differs_gone : (m n : finite.FinMap R X) (k : K) → Differs m k None n → n ≡ finite.remove m k
  differs_gone m n k d = finite.same_map o alike _ _ (λ q. d q ∙ sym (finite.get-remove o m k q))

  -- nothing is gone where there was nothing
  pub gone_same : (m : finite.FinMap R X) (k : K) → None ≡ finite.get m k → finite.remove m k ≡ m
  gone_same m k none = sym (differs_gone m m k (λ q. elim (eq_by_cmp R q k) as (λ b. eq_by_cmp R q k ≡ b → finite.get m q ≡ cond b None (finite.get m q)) [
    | true ↦ λ e. ap (finite.get m) (tells_apart alike q k e) ∙ sym none
    | false ↦ λ e. refl
  ] refl))

  pub none_fewer : (es : List (K × X)) (k : K) → length es ≡ 0 → finite.from_entries es ≡ finite.remove (finite.from_entries {R = R} es) k
  none_fewer es k e = sym (gone_same _ k (none_in R es k e))

  at_others : (m n : finite.FinMap R X) (k : K) (p : Option X) → Differs m k p n → (q : K) → q ≢ k → finite.get n q ≡ finite.get m q
  at_others m n k p d q h = d q ∙ ap (λ b. cond b p (finite.get m q)) (apart o alike q k h)

  -- names under which nothing stands: where a value is put under another name, and where one is taken
  module _ (P : K → Type 0) (m n : finite.FinMap R X) (k : K) where
    pub none_put : (v : X) → ¬ P k → n ≡ finite.insert m k v → ((q : K) → P q → finite.get m q ≡ None) → (q : K) → P q → finite.get n q ≡ None
    none_put v h e none q p = at_others m n k (Some v) (put_differs m n k v e) q (λ f. h (subst P f p)) ∙ none q p

    pub none_gone : n ≡ finite.remove m k → ((q : K) → P q → finite.get m q ≡ None) → (q : K) → P q → finite.get n q ≡ None
    none_gone e none q p = gone_differs m n k e q ∙ still_none (eq_by_cmp R q k) (none q p)

  -- the entry of another name says nothing
  beside : (k q : K) (p : Option X) (es : List (K × X)) → q ≢ k → finite.find R q (slot k p ++ es) ≡ finite.find R q es
  beside k q None es n = refl
  beside k q (Some v) es n = ap (λ b. cond b (Some v) (finite.find R q es)) (apart o alike q k n)

  at_slot : (k : K) (p : Option X) (es : List (K × X)) → finite.find R k es ≡ None → finite.find R k (slot k p ++ es) ≡ p
  at_slot k None es none = none
  at_slot k (Some v) es none = ap (λ b. cond b (Some v) (finite.find R k es)) (itself o alike k)

module _ {K X A : Type 0} {R : K → K → Ordering} {name : ℕ → K} {read : A → Option X} {blank : A} {entries : ℕ → List A → List (K × X)}
    (L : Listing R name read blank entries) where
  abbrev held : List (K × X) → finite.FinMap R X
  held es = finite.from_entries es

  abbrev map_of : List A → List (K × X) → finite.FinMap R X
  map_of ls es = held (entries 0 ls ++ es)

  -- what the list has under a name, and at a place
  abbrev own : ℕ → List A → K → Option X
  own n ls q = finite.find R q (entries n ls)

  abbrev at : List A → ℕ → Option X
  at ls s = read (get_or ls s blank)

  own_more : (n : ℕ) (a : A) (ls : List A) (q : K) → q ≢ name n → own n (a ∷ ls) q ≡ own (n + 1) ls q
  own_more n a ls q h = ap (finite.find R q) (L.more n a ls) ∙ beside L.total L.alike (name n) q (read a) (entries (n + 1) ls) h

  own_none : (n : ℕ) (ls : List A) (q : K) → ((s : ℕ) → n ≤ s → q ≢ name s) → own n ls q ≡ None
  own_none n [] q h = ap (finite.find R q) (L.empty n)
  own_none n (a ∷ ls) q h = own_more n a ls q (h n (omega arith)) ∙ own_none (n + 1) ls q (λ s le. h s (omega (arith, le)))

  pub own_far : (ls : List A) (q : K) → ((s : ℕ) → name s ≢ q) → own 0 ls q ≡ None
  own_far ls q h = own_none 0 ls q (λ s le e. h s (sym e))

  own_at : (n s k : ℕ) (ls : List A) → k ≡ n + s → own n ls (name k) ≡ at ls s
  own_at n s k [] e = ap (finite.find R (name k)) (L.empty n) ∙ sym L.blank_is
  own_at n zero k (a ∷ ls) e =
      let here : n ≡ k = omega (arith, e) in
      ap (finite.find R (name k)) (L.more n a ls) ∙ ap (λ m. finite.find R (name k) (slot (name m) (read a) ++ entries (n + 1) ls)) here
      ∙ at_slot L.total L.alike (name k) (read a) _ (own_none (n + 1) ls (name k) (λ t le f. let same = L.once k t f in omega (arith, same, le, here)))
  own_at n (suc s) k (a ∷ ls) e = own_more n a ls (name k) (λ f. let same = L.once k n f in omega (arith, e, same)) ∙ own_at (n + 1) s k ls (omega (arith, e))

  own_near : (ls : List A) (s : ℕ) (q : K) → name s ≡ q → own 0 ls q ≡ at ls s
  own_near ls s q h = ap (own 0 ls) (sym h) ∙ own_at 0 s s ls (omega arith)

  pub own_past : (ls : List A) (s : ℕ) (q : K) → name s ≡ q → length ls ≤ s → own 0 ls q ≡ None
  own_past ls s q h past = own_near ls s q h ∙ ap read (get_or_past ls s blank past) ∙ L.blank_is

  -- the list comes before the entries
  abbrev behind : List (K × X) → K → Option X → Option X
  behind es q o = option_or o (finite.get (held es) q)

  value_is : (ls : List A) (es : List (K × X)) (q : K) → finite.get (map_of ls es) q ≡ behind es q (own 0 ls q)
  value_is ls es q =
      finite.get-from_entries L.total (entries 0 ls ++ es) q ∙ joined R (entries 0 ls) es q
      ∙ ap (option_or (own 0 ls q)) (sym (finite.get-from_entries L.total es q))

  pub value_near : (ls : List A) (es : List (K × X)) (s : ℕ) (q : K) → name s ≡ q → finite.get (map_of ls es) q ≡ behind es q (at ls s)
  value_near ls es s q h = value_is ls es q ∙ ap (behind es q) (own_near ls s q h)

  pub value_unlisted : (ls : List A) (es : List (K × X)) (q : K) → own 0 ls q ≡ None → finite.get (map_of ls es) q ≡ finite.get (held es) q
  value_unlisted ls es q none = value_is ls es q ∙ ap (behind es q) none

  -- lists that have the same values
  pub same_values : (ls ms : List A) (es : List (K × X)) → ((s : ℕ) → at ms s ≡ at ls s) → map_of ms es ≡ map_of ls es
  same_values ls ms es h = finite.same_map L.total L.alike _ _ (λ q. elim (L.placed q) [
    | inl a ↦ value_near ms es a.0 q a.1 ∙ ap (behind es q) (h a.0) ∙ sym (value_near ls es a.0 q a.1)
    | inr n ↦ value_unlisted ms es q (own_far ms q n) ∙ sym (value_unlisted ls es q (own_far ls q n))
  ])

  -- a place that is written says nothing of other names
  own_kept : (ls : List A) (s : ℕ) (b : A) (q : K) → q ≢ name s → own 0 (slice_set ls s b) q ≡ own 0 ls q
  own_kept ls s b q n = elim (L.placed q) [
    | inl a ↦ own_near (slice_set ls s b) a.0 q a.1 ∙ ap read (get_or-set_other ls s a.0 b blank (λ e. n (sym a.1 ∙ ap name e))) ∙ sym (own_near ls a.0 q a.1)
    | inr h ↦ own_far (slice_set ls s b) q h ∙ sym (own_far ls q h)
  ]

  -- a place that is written, and entries of which one may differ: the map differs under that name alone
  module _ (ls ms : List A) (es fs : List (K × X)) (x : K) (p : Option X) (listed : (q : K) → q ≢ x → own 0 ms q ≡ own 0 ls q)
      (kept : (q : K) → q ≢ x → finite.get (held fs) q ≡ finite.get (held es) q) (is : behind fs x (own 0 ms x) ≡ p) where
    changed : Differs (map_of ls es) x p (map_of ms fs)
    changed q = elim (eq_by_cmp R q x) as (λ b. eq_by_cmp R q x ≡ b → finite.get (map_of ms fs) q ≡ cond b p (finite.get (map_of ls es) q)) [
      | true ↦ λ e. ap (finite.get (map_of ms fs)) (tells_apart L.alike q x e) ∙ value_is ms fs x ∙ is
      | false ↦ λ e.
          let n : q ≢ x = λ f. let clash : true ≡ false = sym (itself L.total L.alike x) ∙ ap (λ y. eq_by_cmp R y x) (sym f) ∙ e in cc in
          value_is ms fs q ∙ ap (behind fs q) (listed q n) ∙ ap (option_or (own 0 ls q)) (kept q n) ∙ sym (value_is ls es q)
    ] refl

  -- where the list has no value under the name, or has none any more
  entry_changed : (ls ms : List A) (es fs : List (K × X)) (x : K) (p : Option X) → own 0 ms x ≡ None → ((q : K) → q ≢ x → own 0 ms q ≡ own 0 ls q)
      → Differs (held es) x p (held fs) → Differs (map_of ls es) x p (map_of ms fs)
  entry_changed ls ms es fs x p none listed d =
      changed ls ms es fs x p listed (at_others L.total L.alike _ _ x p d)
      (ap (behind fs x) none ∙ d x ∙ ap (λ b. cond b p (finite.get (held es) x)) (itself L.total L.alike x))

  module _ (ls : List A) (es : List (K × X)) (x : K) where
    pub put_unlisted : (fs : List (K × X)) (v : X) → own 0 ls x ≡ None → held fs ≡ finite.insert (held es) x v → map_of ls fs ≡ finite.insert (map_of ls es) x v
    put_unlisted fs v none h = differs_put L.total L.alike _ _ x v
        (entry_changed ls ls es fs x (Some v) none (λ q n. refl) (put_differs L.total L.alike _ _ x v h))

    pub removed_unlisted : (fs : List (K × X)) → own 0 ls x ≡ None → held fs ≡ finite.remove (held es) x → map_of ls fs ≡ finite.remove (map_of ls es) x
    removed_unlisted fs none h = differs_gone L.total L.alike _ _ x
        (entry_changed ls ls es fs x None none (λ q n. refl) (gone_differs L.total L.alike _ _ x h))

    module _ (s : ℕ) (h : name s ≡ x) where
      others_kept : (b : A) (q : K) → q ≢ x → own 0 (slice_set ls s b) q ≡ own 0 ls q
      others_kept b q n = own_kept ls s b q (λ e. n (e ∙ h))

      pub put_listed : (b : A) (v : X) → read b ≡ Some v → s < length ls → map_of (slice_set ls s b) es ≡ finite.insert (map_of ls es) x v
      put_listed b v is within = differs_put L.total L.alike _ _ x v (changed ls (slice_set ls s b) es es x (Some v) (others_kept b) (λ q n. refl)
          (ap (behind es x) (own_near (slice_set ls s b) s x h ∙ ap read (get_or-set_same ls s b blank within) ∙ is)))

      pub removed_listed : (fs : List (K × X)) → held fs ≡ finite.remove (held es) x → map_of (slice_set ls s blank) fs ≡ finite.remove (map_of ls es) x
      removed_listed fs e = differs_gone L.total L.alike _ _ x (entry_changed ls (slice_set ls s blank) es fs x None
          (own_near (slice_set ls s blank) s x h ∙ ap read (cleared ls s blank) ∙ L.blank_is) (others_kept blank) (gone_differs L.total L.alike _ _ x e))

      -- where no entry has the name
      pub removed_alone : finite.get (held es) x ≡ None → map_of (slice_set ls s blank) es ≡ finite.remove (map_of ls es) x
      removed_alone none = removed_listed es (sym (gone_same L.total L.alike _ x (sym none)))
