-- When two values agree at the top.
use Rattle.ghc_unify.proofs.Words.{◌≡◌, ◌≢◌, ℕ, suc, List, [], ◌∷◌, length, refl, sym, ap, ◌∙◌, subst, inl, inr, arith, ℤ, ℤ_discrete, bytes_eq, bytes_eq-Decides, to_z-of_z, Bor, TermView, Int, Atom, Struct, Tree, integer, node, Trees, none, more, trees, shown, HasArgument, Pairs, no_more, one_more, Meets, integers, nodes, Decided, decided_both, decided_by, nat_decided, true_decided}
use mir.Val.{SFits, of_z, to_z}
use mir.Syntax.{w64}

abbrev pub count : Trees → ℕ
count none = 0
count (more t ts) = suc (count ts)

abbrev pub Alike : Tree → Tree → Type 0
Alike (integer j) (integer k) = j ≡ k
Alike (node f ts) (node g us) = (f ≡ g) × (count ts ≡ count us)
Alike t u = ⊥

pairs_count : {ts us : Trees} {es : List (Tree × Tree)} → Pairs ts us es → count ts ≡ count us
pairs_count no_more = refl
pairs_count (one_more p) = ap suc (pairs_count p)

pub alike : {e f : Tree} {es : List (Tree × Tree)} → Meets e f es → Alike e f
alike integers = refl
alike (nodes p) = (refl, pairs_count p)

pub count_trees : (ts : List Tree) → count (trees ts) ≡ length ts
count_trees [] = refl
count_trees (t ∷ ts) = ap suc (count_trees ts)

-- what agrees meets, and whether two trees agree is decided
pairs_made : (ts us : Trees) → count ts ≡ count us → (es : List (Tree × Tree)) × Pairs ts us es
pairs_made none none e = ([], no_more)
pairs_made (more t ts) (more u us) e = let r = pairs_made ts us (omega arith) in ((t, u) ∷ r.0, one_more r.1)
pairs_made ts us e = absurd (omega arith)

pub meet_made : (e f : Tree) → Alike e f → (es : List (Tree × Tree)) × Meets e f es
meet_made (integer j) (integer k) a = ([], subst (λ z. Meets (integer j) (integer z) []) a integers)
meet_made (node f ts) (node g us) a = let p = pairs_made ts us a.1 in (p.0, subst (λ z. Meets (node f ts) (node z us) p.0) a.0 (nodes p.1))
meet_made e f a = absurd a

pub alike_decided : (e f : Tree) → Decided (Alike e f)
alike_decided (integer j) (integer k) = elim (ℤ_discrete j k) [ yes e ↦ inl e | no n ↦ inr n ]
alike_decided (node f ts) (node g us) =
    let names = bytes_eq-Decides f g in
    decided_both (decided_by names.0 names.1 (true_decided (bytes_eq f g))) (nat_decided (count ts) (count us))
alike_decided e f = inr (λ a. a)

-- views of which not both are integers, both atoms or both structures
pub unlike : (v w : TermView) (l r : Tree) → shown v ≡ l → shown w ≡ r → HasArgument v → HasArgument w
    → ((j k : ℤ) → v ≡ Int j → w ≡ Int k → ⊥) → ((f g : Bor (List ℕ)) → v ≡ Atom f → w ≡ Atom g → ⊥)
    → ((f g : Bor (List ℕ)) (ts us : Bor (List Tree)) → v ≡ Struct f ts → w ≡ Struct g us → ⊥) → (es : List (Tree × Tree)) → ¬ Meets l r es
unlike v w l r p q a b ints atoms structs es m = go v w a b ints atoms structs (subst (λ z. Alike z (shown w)) (sym p) (subst (Alike l) (sym q) (alike m)))
  where
    no_args : (ts : List Tree) → ts ≢ [] → 0 ≡ count (trees ts) → ⊥
    no_args [] n e = n refl
    no_args (t ∷ ts) n e = cc

    go : (v w : TermView) → HasArgument v → HasArgument w → ((j k : ℤ) → v ≡ Int j → w ≡ Int k → ⊥) → ((f g : Bor (List ℕ)) → v ≡ Atom f → w ≡ Atom g → ⊥)
        → ((f g : Bor (List ℕ)) (ts us : Bor (List Tree)) → v ≡ Struct f ts → w ≡ Struct g us → ⊥) → ¬ Alike (shown v) (shown w)
    go (Int j) (Int h) a b i t s k = i j h refl refl
    go (Atom f) (Atom g) a b i t s k = t f g refl refl
    go (Atom f) (Struct g us) a b i t s k = no_args us.now b k.1
    go (Struct f ts) (Atom g) a b i t s k = no_args ts.now a (sym k.1)
    go (Struct f ts) (Struct g us) a b i t s k = s f g ts us refl refl
    go v w a b i t s k = k

-- structures that agree at the top
pub structures_alike : (l r : Tree) (f g : List ℕ) (ts us : List Tree) (es : List (Tree × Tree)) → node f (trees ts) ≡ l → node g (trees us) ≡ r → Meets l r es → (f ≡ g) × (length ts ≡ length us)
structures_alike l r f g ts us es p q m =
    let a = subst (λ z. Alike z (node g (trees us))) (sym p) (subst (Alike l) (sym q) (alike m)) in
    (a.0, sym (count_trees ts) ∙ a.1 ∙ count_trees us)

pub integers_meet : (l r : Tree) (j k : ℤ) → integer j ≡ l → integer k ≡ r → j ≡ k → Meets l r []
integers_meet l r j k p q e = subst (λ z. Meets z r []) p (subst (λ z. Meets (integer j) z []) (ap integer e ∙ q) integers)

pub structures_meet : (l r : Tree) (f g : List ℕ) (ts us : Trees) (es : List (Tree × Tree)) → node f ts ≡ l → node g us ≡ r → f ≡ g → Pairs ts us es → Meets l r es
structures_meet l r f g ts us es p q e pairs = subst (λ z. Meets z r es) p (subst (λ z. Meets (node f ts) z es) (ap (λ n. node n us) e ∙ q) (nodes pairs))

pub same_integer : (j k : ℤ) → SFits w64 j → SFits w64 k → of_z w64 j ≡ of_z w64 k → j ≡ k
same_integer j k f g e = sym (to_z-of_z w64 j f) ∙ ap (to_z w64) e ∙ to_z-of_z w64 k g
