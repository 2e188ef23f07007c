-- Consequences of kept steps: which there are, the first, and the sets that are closed under them.
use Rattle.ghc_depend.proofs.Words.{◌≡◌, ◌⊎◌, List, [], ◌∷◌, ◌++◌, refl, sym, ap, ◌∙◌, subst, inl, inr, append_assoc, append-nil, In, in_left, in_right, Decided, decided_both, decided_either, nat_decided, Picks, nothing, leave, AreDistinct, Record, numbers, is_before, before_in, number_in, record_once, records_distinct, DependsOn, Follows, directly, further, GoesWith, IsFirstConsequence, IsClosedUnder, IsPartedBy, some_decided, in_more, arith}
use Rattle.ghc_records.specs.Orders.{take}
use Rattle.ghc_depend.proofs.Decided.{known_depends}
use Rattle.ghc_depend.proofs.Picking.{stands_in_front, pick, first_of}

-- a consequence of a consequence is one
pub follows_on : {rs : List Record} {a b c : Record} → Follows rs a b → Follows rs b c → Follows rs a c
follows_on f (directly d) = further f d
follows_on f (further g d) = further (follows_on f g) d

pub follows_in : {rs : List Record} {a b : Record} → Follows rs a b → In b rs
follows_in {rs} (directly {b = b} d) = (before_in rs _ b (is_before rs _ b d.0)).1
follows_in {rs} (further {c = c} f d) = (before_in rs _ c (is_before rs _ c d.0)).1

module _ (kept : List Record) (distinct : AreDistinct (numbers kept)) where
  pub known_itself : (s r : Record) → In s kept → In r kept → Decided (s ≡ r)
  known_itself s r i j = grind (arith, nat_decided, record_once)

  module _ (a : Record) (kept_a : In a kept) where
    -- b depends directly on one of the steps that go with a, or on none
    link : (b : Record) → In b kept → (cs : List Record) → ((c : Record) → In c cs → In c kept × Decided (Follows kept a c))
        → Decided ((c : Record) × In c cs × (GoesWith kept a c × DependsOn kept b c))
    link b kept_b cs known = some_decided cs (λ c. GoesWith kept a c × DependsOn kept b c) (λ c i.
        let k = known c i in
        decided_both (decided_either (known_itself c a k.0 kept_a) k.1) (known_depends kept distinct b c k.0 kept_b))

    in_front : (done rest : List Record) (b c : Record) → kept ≡ done ++ b ∷ rest → DependsOn kept b c → In c done
    in_front done rest b c e d = stands_in_front kept done rest b c (records_distinct kept distinct) e (is_before kept c b d.0)

    known_from : (done rest : List Record) → kept ≡ done ++ rest → ((b : Record) → In b done → Decided (Follows kept a b)) → (b : Record) → In b kept → Decided (Follows kept a b)
    known_from done [] e known b i = known b (subst (In b) (e ∙ append-nil done) i)
    known_from done (b ∷ rest) e known c i =
        let kept_b : In b kept = subst (In b) (sym e) (in_right done (b ∷ rest) b (inl refl)) in
        let here : Decided (Follows kept a b) = elim (link b kept_b done (λ c i. (subst (In c) (sym e) (in_left done (b ∷ rest) c i), known c i))) [
          | inl p ↦ inl (elim p.2.0 [ inl same ↦ directly (subst (DependsOn kept b) same p.2.1) | inr f ↦ further f p.2.1 ])
          | inr n ↦ inr (λ f. elim f [
            | directly {b = x} d ↦ n (a, in_front done rest b a e d, (inl refl, d))
            | further {b = c} g d ↦ n (c, in_front done rest b c e d, (inr g, d))
          ])
        ] in
        known_from (done ++ b ∷ []) rest (e ∙ sym (append_assoc done (b ∷ []) rest)) (λ d k. elim (in_more done b d k) [
          | inl j ↦ known d j
          | inr same ↦ subst (λ z. Decided (Follows kept a z)) (sym same) here
        ]) c i

    -- of each kept step it is known whether it is a consequence
    pub known_follows : (b : Record) → In b kept → Decided (Follows kept a b)
    known_follows = known_from [] kept refl (λ b i. absurd i)

    -- there is a first consequence, or none at all
    pub first_or_none : ((b : Record) × IsFirstConsequence kept a b) ⊎ ((b : Record) → ¬ Follows kept a b)
    first_or_none = first_of (Follows kept a) kept (λ b f. follows_in f) known_follows

    -- the step and its consequences part the kept list, and are closed
    pub split : (gone left : List Record) × IsPartedBy kept (GoesWith kept a) gone left
    split =
        let known : (s : Record) → In s kept → Decided (GoesWith kept a s) = λ s i. decided_either (known_itself s a i kept_a) (known_follows s i) in
        let gone = pick kept known in
        let left = pick kept (λ s i. elim (known s i) [ inl p ↦ inr (λ n. n p) | inr n ↦ inl n ]) in
        (gone.0, left.0, (gone.1, left.1))

    pub split_closed : IsClosedUnder kept (GoesWith kept a)
    split_closed c b (inl same) f = inr (subst (λ z. Follows kept z b) same f)
    split_closed c b (inr g) f = inr (follows_on g f)

  none_is : (rs : List Record) (a : Record) → ¬ In a.number (numbers rs) → Picks (λ s. s ≡ a) rs []
  none_is [] a n = nothing
  none_is (r ∷ rs) a n = leave (λ e. n (inl (ap (λ (z : Record). z.number) (sym e)))) (none_is rs a (λ i. n (inr i)))

  -- the step alone
  pub one_is : (rs : List Record) (a : Record) → AreDistinct (numbers rs) → In a rs → Picks (λ s. s ≡ a) rs (a ∷ [])
  one_is [] a d i = absurd i
  one_is (r ∷ rs) a d (inl e) =
      subst (λ z. Picks (λ s. s ≡ a) (r ∷ rs) (z ∷ [])) (sym e) (take (sym e) (none_is rs a (λ i. d.0 (subst (λ z. In z (numbers rs)) (ap (λ (z : Record). z.number) e) i))))
  one_is (r ∷ rs) a d (inr i) = leave (λ e. d.0 (subst (λ z. In z (numbers rs)) (ap (λ (z : Record). z.number) (sym e)) (number_in rs a i))) (one_is rs a d.1 i)

  -- a step parts the kept list, and is closed where it has no consequences
  pub alone : (a : Record) → In a kept → (left : List Record) × IsPartedBy kept (λ s. s ≡ a) (a ∷ []) left
  alone a i =
      let left = pick kept (λ s j. elim (known_itself s a j i) [ inl p ↦ inr (λ n. n p) | inr n ↦ inl n ]) in
      (left.0, (one_is kept a distinct i, left.1))

  pub alone_closed : (a : Record) → ((b : Record) → ¬ Follows kept a b) → IsClosedUnder kept (λ s. s ≡ a)
  alone_closed a none c b same f = absurd (none b (subst (λ z. Follows kept z b) same f))
