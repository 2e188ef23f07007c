-- Two trees with one code are one tree.
use Rattle.std.specs.Prelude.{◌≡◌, ℕ, refl}
use Rattle.std.proofs.Common.{ap}
use Rattle.std.specs.Coded.{Coded, code_by, coded×, coded_list, coded_ℕ, coded_ℤ}
use base.Stored.{Gv, gnil, gnum, gcons}
use Rattle.ghc_term.specs.declared.var_name.VarName.{VarName}
use Rattle.ghc_term.specs.Tree.{Tree, variable, integer, node, Trees, none, more}

abbrev mutual
  pub code_of : Tree → Gv
  code_of (variable x) = gcons gnil (gcons (gnum x.step) (gnum x.place))
  code_of (integer k) = gcons (gnum 0) (coded_ℤ.code k)
  code_of (node f ts) = gcons (gcons gnil gnil) (gcons (Coded.code (coded_list coded_ℕ) f) (codes_of ts))

  pub codes_of : Trees → Gv
  codes_of none = gnil
  codes_of (more t ts) = gcons (code_of t) (codes_of ts)

-- Two variables of one step and one place are one.
pub var_inj : (x y : VarName) → x.step ≡ y.step → x.place ≡ y.place → x ≡ y
var_inj x y p q i = record { step = p i; place = q i }

mutual
  pub inj : (a b : Tree) → code_of a ≡ code_of b → a ≡ b
  inj (variable x) (variable y) e = ap variable (var_inj x y (cc) (cc))
  inj (variable x) (integer k) e = cc
  inj (variable x) (node f ts) e = cc
  inj (integer j) (variable y) e = cc
  inj (integer j) (integer k) e = ap integer (coded_ℤ.inj j k (cc))
  inj (integer j) (node f ts) e = cc
  inj (node g us) (variable y) e = cc
  inj (node g us) (integer k) e = cc
  inj (node g us) (node f ts) e = let p : g ≡ f = Coded.inj (coded_list coded_ℕ) g f (cc) in let q : us ≡ ts = injs us ts (cc) in cc

  pub injs : (a b : Trees) → codes_of a ≡ codes_of b → a ≡ b
  injs none none e = refl
  injs none (more t ts) e = cc
  injs (more t ts) none e = cc
  injs (more t ts) (more u us) e = let p : t ≡ u = inj t u (cc) in let q : ts ≡ us = injs ts us (cc) in cc

-- the code of trees: two trees with one code are one
abbrev pub tree_code : Coded Tree
tree_code = record { code = code_of; inj = inj }

-- the code of variables: two variables with one code are one
abbrev pub name_code : Coded VarName
name_code = code_by (ℕ × ℕ) (coded× coded_ℕ coded_ℕ) (λ x. (x.step, x.place)) (λ p. record { step = p.0; place = p.1 }) (λ _. refl)
