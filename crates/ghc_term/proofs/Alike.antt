-- Pairs that are to be compared, and what the comparison of one of them says of all.
use Rattle.ghc_term.proofs.Words.{◌≡◌, ◌≢◌, ℕ, suc, ◌+◌, ◌-◌, ◌<◌, ◌≤◌, Bool, true, false, List, [], ◌∷◌, ◌++◌, length, get_or, drop, refl, sym, ap, ◌∙◌, subst, append_assoc, append-nil, drop-cons, arith, ◌↔◌, IsTrue, not, Bor, bytes_eq-Decides, Pair, Terms, TermView, Atom, Struct, Tree, node, none, trees, list_of, atom, shown, HasArgument, nodes_of_all, IsAlike, AreAlike, left_nodes, all_left_nodes, Adds, Compared}
use Rattle.std.specs.Str.{bytes_eq}
use Rattle.ghc_term.proofs.Goals.{list_of-trees}
use Rattle.ghc_term.proofs.Texts.{no_arguments}

alike_join : (ps qs : List Pair) → AreAlike ps → AreAlike qs → AreAlike (ps ++ qs)
alike_join [] qs a b = b
alike_join (p ∷ ps) qs a b = (a.0, alike_join ps qs a.1 b)

alike_front : (ps qs : List Pair) → AreAlike (ps ++ qs) → AreAlike ps
alike_front [] qs a = tt
alike_front (p ∷ ps) qs a = (a.0, alike_front ps qs a.1)

alike_rest : (ps qs : List Pair) → AreAlike (ps ++ qs) → AreAlike qs
alike_rest [] qs a = a
alike_rest (p ∷ ps) qs a = alike_rest ps qs a.1

nodes_join : (ps qs : List Pair) → all_left_nodes (ps ++ qs) ≡ all_left_nodes ps + all_left_nodes qs
nodes_join [] qs = omega arith
nodes_join (p ∷ ps) qs = omega (arith, nodes_join ps qs)

-- a test that decides P leaves nothing to be compared
pub decided : (P : Type 0) (n : ℕ) (old : List Pair) (b : Bool) → IsTrue b ↔ P → 0 < n → Compared P n old old b
decided P n old b d h = record {
  no = λ e p. let clash : true ≡ false = sym (d.1 p) ∙ e in cc;
  yes = λ e. record { added = []; behind = sym (append-nil old); decide = (λ _. tt, λ _. d.0 e); fewer = omega arith };
}

-- P does not hold
pub refuted : (P : Type 0) (n : ℕ) (old new : List Pair) → ¬ P → Compared P n old new false
refuted P n old new h = record { no = λ _ p. h p; yes = λ e. let clash : false ≡ true = e in cc }

-- what decides P decides Q
pub adds_as : (P Q : Type 0) (m n : ℕ) (old new : List Pair) → (P → Q) → (Q → P) → m ≤ n → Adds P m old new → Adds Q n old new
adds_as P Q m n old new to from h a = record {
  added = a.added;
  behind = a.behind;
  decide = (λ q. a.decide.0 (from q), λ l. to (a.decide.1 l));
  fewer = omega (arith, a.fewer);
}

-- the same answer, where P and Q hold together
pub compared_as : (P Q : Type 0) (m n : ℕ) (old new : List Pair) (b : Bool) → (P → Q) → (Q → P) → m ≤ n → Compared P m old new b → Compared Q n old new b
compared_as P Q m n old new b to from h c = record {
  no = λ e q. c.no e (from q);
  yes = λ e. adds_as P Q m n old new to from h (c.yes e);
}

-- one pair of arguments more, from the right
pub arguments_more : (ls rs : List Tree) (n : ℕ) (t u : Bor Tree) (d f : Tree) (old now new : List Pair) → 0 < n → n ≤ length ls → length ls ≡ length rs → t.now ≡ get_or ls (n - 1) d → u.now ≡ get_or rs (n - 1) f
    → new ≡ now ++ Terms t u ∷ [] → Adds (drop n ls ≡ drop n rs) (suc (nodes_of_all (trees (drop n ls)))) old now
    → Adds (drop (n - 1) ls ≡ drop (n - 1) rs) (suc (nodes_of_all (trees (drop (n - 1) ls)))) old new
arguments_more ls rs n t u d f old now new p h e a b pushed rest =
    let back : suc (n - 1) ≡ n = omega arith in
    let left : drop (n - 1) ls ≡ t.now ∷ drop n ls = drop-cons ls (n - 1) d (omega arith) ∙ ap (λ z. z ∷ drop (suc (n - 1)) ls) (sym a) ∙ ap (λ k. t.now ∷ drop k ls) back in
    let right : drop (n - 1) rs ≡ u.now ∷ drop n rs = drop-cons rs (n - 1) f (omega arith) ∙ ap (λ z. z ∷ drop (suc (n - 1)) rs) (sym b) ∙ ap (λ k. u.now ∷ drop k rs) back in
    record {
      added = rest.added ++ Terms t u ∷ [];
      behind = pushed ∙ ap (λ l. l ++ Terms t u ∷ []) rest.behind ∙ append_assoc old rest.added (Terms t u ∷ []);
      decide = (
        λ q.
            let same : t.now ∷ drop n ls ≡ u.now ∷ drop n rs = sym left ∙ q ∙ right in
            let first : t.now ≡ u.now = cc in
            let others : drop n ls ≡ drop n rs = cc in
            alike_join rest.added (Terms t u ∷ []) (rest.decide.0 others) (first, tt),
        λ l.
            let first : t.now ≡ u.now = (alike_rest rest.added (Terms t u ∷ []) l).0 in
            let others = rest.decide.1 (alike_front rest.added (Terms t u ∷ []) l) in
            left ∙ (λ i. first i ∷ others i) ∙ sym right,
      );
      fewer = omega (arith, rest.fewer, nodes_join rest.added (Terms t u ∷ []), ap (λ l. nodes_of_all (trees l)) left);
    }

-- the last pair is compared: the answer stands for it
pub goes_on : (p : Pair) (all rest new : List Pair) → all ≡ rest ++ p ∷ [] → Adds (IsAlike p) (left_nodes p) rest new → AreAlike new ↔ AreAlike all
goes_on p all rest new e a = (
  λ l.
      let both = subst AreAlike a.behind l in
      subst AreAlike (sym e) (alike_join rest (p ∷ []) (alike_front rest a.added both) (a.decide.1 (alike_rest rest a.added both), tt)),
  λ l.
      let both = subst AreAlike e l in
      subst AreAlike (sym a.behind) (alike_join rest a.added (alike_front rest (p ∷ []) both) (a.decide.0 (alike_rest rest (p ∷ []) both).0)),
)

pub gets_fewer : (p : Pair) (all rest new : List Pair) → all ≡ rest ++ p ∷ [] → Adds (IsAlike p) (left_nodes p) rest new → all_left_nodes new < all_left_nodes all
gets_fewer p all rest new e a = omega (arith, a.fewer, ap all_left_nodes e, nodes_join rest (p ∷ []), ap all_left_nodes a.behind, nodes_join rest a.added)

pub stops : (p : Pair) (all rest : List Pair) → all ≡ rest ++ p ∷ [] → ¬ IsAlike p → ¬ AreAlike all
stops p all rest e n l = n (alike_rest rest (p ∷ []) (subst AreAlike e l)).0

-- the test on names
pub names_apart : (f g : List ℕ) (b : Bool) → b ≡ not (bytes_eq f g) → b ≡ true → ¬ (f ≡ g)
names_apart f g b e t same = let yes = (bytes_eq-Decides f g).1 same in let clash : true ≡ false = sym t ∙ e ∙ ap not yes in cc

pub not_false : (a : Bool) → not a ≡ false → a ≡ true
not_false true e = refl
not_false false e = let clash : true ≡ false = e in cc

pub names_same : (f g : List ℕ) (b : Bool) → b ≡ not (bytes_eq f g) → b ≡ false → f ≡ g
names_same f g b e t = (bytes_eq-Decides f g).0 (not_false (bytes_eq f g) (sym e ∙ t))

-- what is lent as no atom is none
pub lent_atom : (f : List ℕ) (v : TermView) → HasArgument v → ((g : Bor (List ℕ)) → v ≢ Atom g) → shown v ≢ atom f
lent_atom f (Atom g) h n q = n g refl
lent_atom f (Struct g ts) h n q = no_arguments ts.now h (cc)
lent_atom f v h n q = cc

-- what is lent as no structure is none
pub lent_structure : (f : List ℕ) (ts : List Tree) (v : TermView) → ts ≢ [] → ((g : Bor (List ℕ)) (us : Bor (List Tree)) → v ≢ Struct g us) → shown v ≢ node f (trees ts)
lent_structure f ts (Atom g) h n q = let e : none ≡ trees ts = cc in no_arguments ts h (sym e)
lent_structure f ts (Struct g us) h n q = n g us refl
lent_structure f ts v h n q = cc

-- structures are the same where their names and their arguments are
pub same_structure : (f g : List ℕ) (ts us : List Tree) (l r : Tree) → node f (trees ts) ≡ l → node g (trees us) ≡ r → (f ≡ g) × (ts ≡ us) → l ≡ r
same_structure f g ts us l r p q e = sym p ∙ (λ i. node (e.0 i) (trees (e.1 i))) ∙ q

pub same_parts : (f g : List ℕ) (ts us : List Tree) (l r : Tree) → node f (trees ts) ≡ l → node g (trees us) ≡ r → l ≡ r → (f ≡ g) × (ts ≡ us)
same_parts f g ts us l r p q e =
    let whole : node f (trees ts) ≡ node g (trees us) = p ∙ e ∙ sym q in
    let names : f ≡ g = cc in
    let args : trees ts ≡ trees us = cc in
    (names, sym (list_of-trees ts) ∙ ap list_of args ∙ list_of-trees us)
