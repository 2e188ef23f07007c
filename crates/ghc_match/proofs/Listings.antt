-- All of which something holds, as a list.
use Rattle.ghc_match.proofs.Words.{◌≡◌, List, [], ◌∷◌, ◌++◌, refl, subst, inl, inr, ◌⊎◌, sym, In, Each, each_in, in_left, in_right, each_both, each_as, Decided, some_decided, Tree, variable, integer}

-- the list of all of which P holds
pub record Listing {X : Type 0} (P : X → Type 0) : Type 0 where
  pub items : List X
  pub each : Each items P
  pub all : (x : X) → P x → In x items

module _ {X : Type 0} where
  pub none : {P : X → Type 0} → ((x : X) → ¬ P x) → Listing P
  none n = record { items = []; each = tt; all = λ x p. n x p }

  pub one : {P : X → Type 0} (x : X) → P x → ((y : X) → P y → y ≡ x) → Listing P
  one x p only = record { items = x ∷ []; each = (p, tt); all = λ y q. inl (only y q) }

  pub restated : {P Q : X → Type 0} → ((x : X) → P x → Q x) → ((x : X) → Q x → P x) → Listing P → Listing Q
  restated {P = P} {Q = Q} f g l = record { items = l.items; each = each_as l.items P Q f l.each; all = λ x q. l.all x (g x q) }

  pub either : {P Q : X → Type 0} → Listing P → Listing Q → Listing (λ x. P x ⊎ Q x)
  either {P = P} {Q = Q} p q = record {
    items = p.items ++ q.items;
    each = each_both p.items q.items (λ x. P x ⊎ Q x) (each_as p.items P (λ x. P x ⊎ Q x) (λ x h. inl h) p.each) (each_as q.items Q (λ x. P x ⊎ Q x) (λ x h. inr h) q.each);
    all = λ x h. elim h [ inl a ↦ in_left p.items q.items x (p.all x a) | inr b ↦ in_right p.items q.items x (q.all x b) ];
  }

  -- the list itself
  all_of : (xs ys : List X) → ((x : X) → In x xs → In x ys) → Each xs (λ x. In x ys)
  all_of [] ys h = tt
  all_of (x ∷ xs) ys h = (h x (inl refl), all_of xs ys (λ z i. h z (inr i)))

  pub itself : (xs : List X) → Listing (λ x. In x xs)
  itself xs = record { items = xs; each = all_of xs xs (λ x i. i); all = λ x i. i }

  -- something is listed, or P holds of nothing
  pub some : {P : X → Type 0} → Listing P → Decided ((x : X) × P x)
  some {P = P} l = at l.items l.each l.all where
    at : (xs : List X) → Each xs P → ((x : X) → P x → In x xs) → Decided ((x : X) × P x)
    at [] a h = inr (λ p. h p.0 p.1)
    at (x ∷ xs) a h = inl (x, a.0)

-- over the elements of a list
pub over : {A X : Type 0} (xs : List A) (Q : A → X → Type 0) → ((a : A) → In a xs → Listing (Q a)) → Listing (λ x. (a : A) × In a xs × Q a x)
over [] Q f = none (λ x h. h.1)
over (a ∷ xs) Q f = restated
    (λ x h. elim h [ inl q ↦ (a, inl refl, q) | inr r ↦ (r.0, inr r.1, r.2) ])
    (λ x h. elim h.1 [ inl e ↦ inl (subst (λ b. Q b x) e h.2) | inr i ↦ inr (h.0, i, h.2) ])
    (either (f a (inl refl)) (over xs Q (λ b i. f b (inr i))))

-- of the listed, one that has Q as well, or there is none
pub such : {X : Type 0} {P : X → Type 0} (Q : X → Type 0) → Listing P → ((x : X) → Decided (Q x)) → Decided ((x : X) × P x × Q x)
such {P = P} Q l d = elim (some_decided l.items Q (λ x i. d x)) [
  | inl r ↦ inl (r.0, each_in l.items P r.0 l.each r.1, r.2)
  | inr n ↦ inr (λ h. n (h.0, l.all h.0 h.1, h.2))
]

-- of each that is listed, all that stands to it so
pub through : {A X : Type 0} {P : A → Type 0} (R : A → X → Type 0) → Listing P → ((a : A) → Listing (R a)) → Listing (λ x. (a : A) × P a × R a x)
through {P = P} R l f = restated (λ x h. (h.0, each_in l.items P h.0 l.each h.1, h.2)) (λ x h. (h.0, l.all h.0 h.1, h.2)) (over l.items R (λ a i. f a))

-- the variable, and the integer, that a tree is
pub the_variable : (e : Tree) → Listing (λ x. e ≡ variable x)
the_variable (variable z) = one z refl (λ y q. let p : z ≡ y = cc in sym p)
the_variable _ = none (λ x q. cc)

pub the_integer : (e : Tree) → Listing (λ k. e ≡ integer k)
the_integer (integer j) = one j refl (λ k q. let p : j ≡ k = cc in sym p)
the_integer _ = none (λ k q. cc)
