-- Each tree that the grammar has a text for is said by a parse tree.
use Rattle.ghc_reader.proofs.Words.{◌≡◌, ℕ, ◌≤◌, List, [], ◌∷◌, length, refl, ap, inl, inr, arith, IsTrue, codes, bytes_eq-Decides, VarName, node, trees, list_of, is_cell, is_nil, IsHead, IsInGrammar, AllInGrammar, Tree, Trees, structure, empty, cell, none, some, count, widest, widest_of, SaysBy, SaysAllBy, IsCalled, IsWritable, AreWritable, false≢true}
use Rattle.ghc_term.specs.Tree as term
use Rattle.ghc_reader.specs.Source.{variable, integer}
use Rattle.ghc_reader.proofs.Meanings.{IsSoundBy, AreSoundBy, NoVariable}

-- a parse tree of at most 255 arguments that says the tree, and whose variables pass W
pub record IsMeant (C : List ℕ → VarName → Type 0) (W : List ℕ → Type 0) (u : term.Tree) : Type 0 where
  pub seen : Tree
  pub sound : IsSoundBy W seen
  pub width : widest seen ≤ 255
  pub says : SaysBy C seen u

-- .. for the trees of a list together
pub record AreMeant (C : List ℕ → VarName → Type 0) (W : List ℕ → Type 0) (us : term.Trees) : Type 0 where
  pub all : Trees
  pub sound : AreSoundBy W all
  pub width : widest_of all ≤ 255
  pub listed : List term.Tree
  pub are : us ≡ trees listed
  pub say : SaysAllBy C all listed
  pub counted : count all ≡ length (list_of us)

-- where V holds of the variables, each of which is called by a name that passes W
module _ (V : VarName → Type 0) (C : List ℕ → VarName → Type 0) (W : List ℕ → Type 0) (call : (x : VarName) → V x → (v : List ℕ) × C v x × W v) where
  abbrev EachIsMeant : term.Trees → Type 0
  EachIsMeant term.none = Unit {0}
  EachIsMeant (term.more u us) = IsMeant C W u × EachIsMeant us

  nil_meant : (f : List ℕ) (us : term.Trees) → IsTrue (is_nil f us) → IsMeant C W (node f us)
  nil_meant f term.none e = record {
    seen = empty;
    sound = tt;
    width = omega arith;
    says = ap (λ g. node g term.none) ((bytes_eq-Decides f (codes "[]")).0 e);
  }
  nil_meant f (term.more u us) e = absurd (false≢true e)

  cell_meant : (f : List ℕ) (us : term.Trees) → IsTrue (is_cell f us) → EachIsMeant us → IsMeant C W (node f us)
  cell_meant f (term.more a (term.more b term.none)) e parts =
      let t = parts.0 in
      let u = parts.1.0 in
      record {
        seen = cell t.seen u.seen;
        sound = (t.sound, u.sound);
        width = omega (arith, t.width, u.width);
        says = (a, b, ap (λ g. node g (term.more a (term.more b term.none))) ((bytes_eq-Decides f (codes ".")).0 e), t.says, u.says);
      }
  cell_meant f us e parts = absurd (false≢true e)

  gathered : (us : term.Trees) → EachIsMeant us → AreMeant C W us
  gathered term.none parts = record { all = none; sound = tt; width = omega arith; listed = []; are = refl; say = refl; counted = refl }
  gathered (term.more u us) parts =
      let first = parts.0 in
      let others = gathered us parts.1 in
      record {
        all = some first.seen others.all;
        sound = (first.sound, others.sound);
        width = omega (arith, first.width, others.width);
        listed = u ∷ others.listed;
        are = ap (term.more u) others.are;
        say = (u, others.listed, refl, first.says, others.say);
        counted = omega (arith, others.counted);
      }

  node_meant : (f : List ℕ) (us : term.Trees) → IsHead f us → EachIsMeant us → IsMeant C W (node f us)
  node_meant f us (inl empty_list) parts = nil_meant f us empty_list
  node_meant f us (inr (inl list_cell)) parts = cell_meant f us list_cell parts
  node_meant f us (inr (inr name)) parts =
      let those = gathered us parts in
      record {
        seen = structure f those.all;
        sound = (name.0, those.sound);
        width = omega (arith, name.1, those.width, those.counted);
        says = (those.listed, ap (node f) those.are, those.say);
      }

  mutual
    pub meant : (u : term.Tree) → IsWritable V u → IsMeant C W u
    meant (term.variable x) w =
        let named = call x w in
        record { seen = variable named.0; sound = named.2; width = omega arith; says = (x, refl, named.1) }
    meant (term.integer k) w = record { seen = integer k; sound = w; width = omega arith; says = refl }
    meant (node f us) w = node_meant f us w.0 (each_meant us w.1)

    each_meant : (us : term.Trees) → AreWritable V us → EachIsMeant us
    each_meant term.none w = tt
    each_meant (term.more u us) w = (meant u w.0, each_meant us w.1)

  pub all_meant : (us : term.Trees) → AreWritable V us → AreMeant C W us
  all_meant us w = gathered us (each_meant us w)

-- ---- closed trees

-- it holds of no variable
abbrev no_variable : VarName → Type 0
no_variable x = ⊥

mutual
  closed_writable : (u : term.Tree) → IsInGrammar u → IsWritable no_variable u
  closed_writable (term.variable x) g = absurd g
  closed_writable (term.integer k) g = g
  closed_writable (node f us) g = (g.0, all_closed us g.1)

  all_closed : (us : term.Trees) → AllInGrammar us → AreWritable no_variable us
  all_closed term.none g = tt
  all_closed (term.more u us) g = (closed_writable u g.0, all_closed us g.1)

pub closed_meant : (u : term.Tree) → IsInGrammar u → IsMeant (IsCalled []) NoVariable u
closed_meant u g = meant no_variable (IsCalled []) NoVariable (λ x none. absurd none) u (closed_writable u g)
