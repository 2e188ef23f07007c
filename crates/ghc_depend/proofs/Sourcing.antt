-- The least variables that a step reads or names from each other, found one after another.
use Rattle.ghc_depend.proofs.Words.{◌≡◌, ℕ, List, [], ◌∷◌, ◌++◌, refl, sym, ap, ◌∙◌, subst, inl, inr, ◌↔◌, Option, Some, None, IsSome, IfSome, IfNone, VarName, In, AreDistinct, Record, numbers, SlotList, HasNumberIn, StandsIn, StepBinds, held_in, stands_held, once_of, one_record, record_once, nat_decided, Binds, ReadsFrom, IsLeastRead, IsKeptAs, IsWokenBy, ◌<◌, rank, rank_less, ranked_at}
use Rattle.std.specs.FinSet as set
use Rattle.std.specs.Ordering.{nat_cmp}
use Rattle.std.specs.BTreeMap.{BTreeMap, get, is_at}
use Rattle.std.specs.Map.{lookup}
use Rattle.ghc_depend.specs.inner.Sources.{IsPlaceOfOne, AreFilled, PutsLeast, AreLeastReads}
use Rattle.ghc_depend.proofs.Causes.{IsLeastOf, least_passed, least_taken, least_is, least_none, stands_before}
use Rattle.ghc_depend.proofs.Finding.{same_value}

-- Q holds of no step but the one of this number
module _ (ss : SlotList) (distinct : AreDistinct (numbers (held_in ss))) (Q : Record → Type 0) (n : ℕ) (numbered : (a : Record) → Q a → a.number ≡ n) where
  pub only_there : (p : ℕ) (r : Record) → StandsIn ss p r → r.number ≡ n → Q r → IsPlaceOfOne ss Q (Some p)
  only_there p r at e holds = ((r, at, holds), λ q a there h. once_of ss distinct q p a r there at (numbered a h ∙ sym e))

  pub not_there : (p : ℕ) (r : Record) → StandsIn ss p r → r.number ≡ n → ¬ Q r → IsPlaceOfOne ss Q None
  not_there p r at e fails q a there h =
      let same : q ≡ p = once_of ss distinct q p a r there at (numbered a h ∙ sym e) in
      fails (subst Q (one_record ss q p a r there at same) h)

  pub nowhere : ((r : Record) → In r (held_in ss) → ¬ (r.number ≡ n)) → IsPlaceOfOne ss Q None
  nowhere none q a at h = none a (stands_held ss q a at) (numbered a h)

-- the same with what holds of each step
pub also_other : (ss : SlotList) (Q : Record → Type 0) {H : Type 0} → H → (place : Option ℕ) → IsPlaceOfOne ss Q place → IsPlaceOfOne ss (λ a. H × Q a) place
also_other ss Q h (Some p) one = ((one.0.0, one.0.1, (h, one.0.2)), λ q a at holds. one.1 q a at holds.1)
also_other ss Q h None none = λ q a at holds. none q a at holds.1

-- the place of the step that bound a variable
module _ (ss : SlotList) (distinct : AreDistinct (numbers (held_in ss))) (x : VarName) (binder : Option ℕ) (bound : (n : ℕ) → (binder ≡ Some n) ↔ StepBinds (held_in ss) n x) where
  pub no_binder : binder ≡ None → IsPlaceOfOne ss (λ a. Binds a x) None
  no_binder e q a at b = let clash : None ≡ Some a.number = sym e ∙ (bound a.number).1 (a, stands_held ss q a at, refl, b) in cc

  pub binder_at : (n : ℕ) → binder ≡ Some n → (place : Option ℕ) → IfSome place (λ p. HasNumberIn ss p n) → IfNone place ((r : Record) → In r (held_in ss) → ¬ (r.number ≡ n)) → IsPlaceOfOne ss (λ a. Binds a x) place
  binder_at n e (Some p) found none =
      let b = (bound n).0 e in
      let same : b.0 ≡ found.0 = record_once (held_in ss) b.0 found.0 distinct b.1 (stands_held ss p found.0 found.1) (b.2 ∙ sym found.2) in (
        (found.0, found.1, subst (λ z. Binds z x) same b.3),
        λ q a at h.
            let number : a.number ≡ n = same_value ((bound a.number).1 (a, stands_held ss q a at, refl, h)) e in
            once_of ss distinct q p a found.0 at found.1 (number ∙ sym found.2),
      )
  binder_at n e None found none =
      λ q a at h. none a (stands_held ss q a at) (same_value ((bound a.number).1 (a, stands_held ss q a at, refl, h)) e)

module _ (ss : SlotList) (Q : Record → VarName → Type 0) where
  -- under each place where a step stands, m has the least of xs of which Q holds at that step
  abbrev pub AreLeast : List VarName → BTreeMap ℕ VarName → Type 0
  AreLeast xs m = AreFilled ss m × ((p : ℕ) (a : Record) → StandsIn ss p a → IsLeastOf (Q a) xs (get nat_cmp m p))

  none_some : {A : Type 0} (o : Option A) → o ≡ None → IsSome o → ⊥
  none_some None e s = cc
  none_some (Some a) e s = cc

  module _ (xs : List VarName) (x : VarName) (m : BTreeMap ℕ VarName) (h : AreLeast xs m) where
    -- Q holds of the next variable nowhere
    pub least_still : IsPlaceOfOne ss (λ a. Q a x) None → AreLeast (xs ++ x ∷ []) m
    least_still none = (h.0, λ p a at. least_passed (Q a) xs x (get nat_cmp m p) (h.1 p a at) (none p a at))

    -- it holds of it at this place
    pub least_more : (p : ℕ) (n : BTreeMap ℕ VarName) → IsPlaceOfOne ss (λ a. Q a x) (Some p) → PutsLeast m n p x → AreLeast (xs ++ x ∷ []) n
    least_more p n one puts = (
      λ q s. elim (nat_decided q p) [
        | inl e ↦ (one.0.0, subst (λ k. StandsIn ss k one.0.0) (sym e) one.0.1)
        | inr other ↦ h.0 q (subst (λ o. IsSome o) (puts.1 q other) s)
      ],
      λ q a at. elim (nat_decided q p) [
        | inl e ↦
            let holds : Q a x = subst (λ z. Q z x) (one_record ss p q one.0.0 a one.0.1 at (sym e)) one.0.2 in
            let before : IsLeastOf (Q a) xs (get nat_cmp m p) = subst (λ k. IsLeastOf (Q a) xs (get nat_cmp m k)) e (h.1 q a at) in
            let now : get nat_cmp n q ≡ Some puts.0.0 = ap (λ k. get nat_cmp n k) e ∙ puts.0.1 in
            subst (IsLeastOf (Q a) (xs ++ x ∷ [])) (sym now) (least_taken (Q a) xs x (get nat_cmp m p) puts.0.0 before holds puts.0.2 puts.0.3)
        | inr other ↦ subst (IsLeastOf (Q a) (xs ++ x ∷ [])) (sym (puts.1 q other)) (least_passed (Q a) xs x (get nat_cmp m q) (h.1 q a at) (λ holds. other (one.1 q a at holds)))
      ],
    )

-- those of all that the step read, or names
pub are_reads : (ss : SlotList) (b : Record) (xs : List VarName) (m : BTreeMap ℕ VarName) → set.from_list xs ≡ b.effect.reads → AreLeast ss Binds xs m → AreLeastReads ss b m
are_reads ss b xs m all h = (h.0, λ p a at. (least_is b a xs (get nat_cmp m p) all (h.1 p a at), least_none b a xs (get nat_cmp m p) all (h.1 p a at)))

-- under each place stands what the step read from the one there
pub read_from : (ss : SlotList) (b : Record) (reads : BTreeMap ℕ VarName) → AreLeastReads ss b reads → (p : ℕ) (x : VarName) → get nat_cmp reads p ≡ Some x → (c : Record) × StandsIn ss p c × ReadsFrom b c x
read_from ss b reads h p x e =
    let c = h.0 p (subst (λ o. IsSome o) (sym e) refl) in
    (c.0, c.1, (subst (λ o. IfSome o (IsLeastRead b c.0)) e (h.1 p c.0 c.1).0).0)

-- a step in front of one that was read from woke nothing
pub not_woken : (rs : List Record) (ss : SlotList) → rs ≡ held_in ss → (b a c : Record) (place last : ℕ) (x : VarName) → StandsIn ss place a → StandsIn ss last c → ReadsFrom b c x → place < last → ¬ IsWokenBy rs b a
not_woken rs ss is b a c place last x at there read low woken =
    woken.2 (x, read.0, (c, stands_before rs (rank ss place) (rank ss last) a c (ranked_at rs ss is place a at) (ranked_at rs ss is last c there) (rank_less ss place last a at low), read.1))

-- what stands under a place, or that nothing does
pub where_none : (P : VarName → Type 0) (N : Type 0) (o : Option VarName) → IfSome o P × IfNone o N → o ≡ None → N
where_none P N None h e = h.1
where_none P N (Some a) h e = cc

pub where_some : (P : VarName → Type 0) (N : Type 0) (o : Option VarName) (x : VarName) → IfSome o P × IfNone o N → o ≡ Some x → P x
where_some P N None x h e = cc
where_some P N (Some a) x h e = subst P (same_value refl e) h.0

-- the step at a place is kept under its number
pub kept_as : (rs : List Record) (ss : SlotList) → rs ≡ held_in ss → (place n : ℕ) → HasNumberIn ss place n → (b : Record) → StandsIn ss place b → IsKeptAs rs n b
kept_as rs ss is place n f b at = (subst (In b) (sym is) (stands_held ss place b at), subst (λ (r : Record). r.number ≡ n) (one_record ss place place f.0 b f.1 at refl) f.2)
