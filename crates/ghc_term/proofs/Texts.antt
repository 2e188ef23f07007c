-- The texts of cells, of other structures, and of what ends a list.
use Rattle.ghc_term.proofs.Words.{◌≡◌, ◌≢◌, ℕ, false, List, [], ◌∷◌, ◌++◌, length, refl, ap, Option, None, codes, bytes_eq, bytes_eq-Decides, false_from_ne_true, VarName, TermView, Atom, Struct, Tree, variable, node, Trees, none, more, trees, cons, nil, shown, HasArgument, term_text, rest_text, arguments_text, is_cell, is_nil, barred, IsNoCell, Resolves, bound, a_node, ResolvesAll, no_more, one_more}

not_equal : (f g : List ℕ) → f ≢ g → bytes_eq f g ≡ false
not_equal f g n = false_from_ne_true _ (λ e. n ((bytes_eq-Decides f g).0 e))

-- a node that is no cell
pub no_cell : (f : List ℕ) (us : Trees) → IsNoCell (node f us) → is_cell f us ≡ false
no_cell f (more t (more u none)) n = not_equal f (codes ".") (λ e. n t u (ap (λ g. node g (more t (more u none))) e))
no_cell f us n = refl

no_nil : (f : List ℕ) (us : Trees) → node f us ≢ nil → is_nil f us ≡ false
no_nil f none n = not_equal f (codes "[]") (λ e. n (ap (λ g. node g none) e))
no_nil f (more t us) n = refl

pub structure_text : (f : List ℕ) (us : Trees) → IsNoCell (node f us) → term_text (node f us) ≡ f ++ arguments_text us
structure_text f us n = rw (no_cell f us n) refl

-- what is no list stands after a bar
pub rest_barred : (u : Tree) → u ≢ nil → IsNoCell u → rest_text u ≡ barred (term_text u)
rest_barred (node f us) n m = rw (no_nil f us n, no_cell f us m) refl
rest_barred u n m = refl

module _ {S : VarName → Option Tree} where
  all_none : {ts us : Trees} → ResolvesAll S ts us → us ≡ none → ts ≡ none
  all_none no_more e = refl
  all_none (one_more a m) e = cc

  all_two : {ts us : Trees} → ResolvesAll S ts us → (t u : Tree) → us ≡ more t (more u none) → (v : Tree) × (z : Tree) × (ts ≡ more v (more z none))
  all_two (one_more {t = v} a (one_more {t = z} b m)) t u e = let none_left = all_none m (cc) in (v, z, ap (λ us. more v (more z us)) none_left)
  all_two m t u e = cc

  -- what a value resolves to is the empty list only where it is the empty list, and a cell only where it is a cell
  pub no_new_nil : {e u : Tree} → Resolves S e u → ((x : VarName) → e ≡ variable x → S x ≡ None) → u ≡ nil → e ≡ nil
  no_new_nil (bound {x = x} p a) free q = let clash = free x refl in cc
  no_new_nil (a_node {f = f} m) free q = let none_left = all_none m (cc) in cc
  no_new_nil r free q = cc

  pub no_new_cell : {e u : Tree} → Resolves S e u → ((x : VarName) → e ≡ variable x → S x ≡ None) → IsNoCell e → IsNoCell u
  no_new_cell (bound {x = x} p a) free n t u q = let clash = free x refl in cc
  no_new_cell (a_node {f = f} m) free n t u q = let two = all_two m t u (cc) in n two.0 two.1 (let named : f ≡ codes "." = cc in let same = two.2 in cc)
  no_new_cell r free n t u q = cc

pub no_arguments : (ts : List Tree) → ts ≢ [] → trees ts ≢ none
no_arguments [] n q = n refl
no_arguments (t ∷ ts) n q = cc

-- what is lent of a cell
pub lent_cell : (v : TermView) → ((f : _) (ts : _) → v ≢ Struct f ts) → IsNoCell (shown v)
lent_cell (Struct f ts) n t u q = n f ts refl
lent_cell v n t u q = cc

pub lent_nil : (v : TermView) → HasArgument v → ((f : _) → v ≢ Atom f) → shown v ≢ nil
lent_nil (Atom f) h n q = n f refl
lent_nil (Struct f ts) h n q = no_arguments ts.now h (cc)
lent_nil v h n q = cc

-- a cell has two arguments
pub two_arguments : (f : List ℕ) (ts : List Tree) (t u : Tree) → node f (trees ts) ≡ cons t u → length ts ≡ 2
two_arguments f (v ∷ z ∷ []) t u e = refl
two_arguments f ts t u e = cc
