-- A clause that refuses a call for its first argument.
use Rattle.ghc_match.proofs.Words.{◌≡◌, ◌∷◌, [], List, inl, Option, Some, None, slice_get, VarName, Tree, variable, integer, node, IsValue, Clause, AreOther, BeginsOtherwise, here, FirstEnds, AreAlike, Refuses}

pub first_refuses : (c : Clause) (h e : Tree) → slice_get c.head 0 ≡ Some h → IsValue h → IsValue e → ¬ AreAlike h e → (ts : List Tree) (S : VarName → Option Tree) → FirstEnds S ts (Some e) → Refuses c ts S
first_refuses c h e g vh ve n ts S f = inl (0 ∷ [], h, f.0, e, f.2.0, (here g, vh), here f.1, f.2.1, ve, n)

-- two values of other tops are not alike
other_values : (h e : Tree) → AreOther h e → IsValue h × IsValue e × (¬ AreAlike h e)
other_values (integer j) (integer k) n = (tt, tt, n)
other_values (integer j) (node g us) n = (tt, tt, λ a. a)
other_values (node f ts) (integer k) n = (tt, tt, λ a. a)
other_values (node f ts) (node g us) n = (tt, tt, λ a. n a.0)
other_values (integer j) (variable x) n = absurd n
other_values (node f ts) (variable x) n = absurd n
other_values (variable x) e n = absurd n

-- a clause that begins otherwise refuses
pub begins_otherwise : (c : Clause) (e : Option Tree) → BeginsOtherwise c e → (ts : List Tree) (S : VarName → Option Tree) → FirstEnds S ts e → Refuses c ts S
begins_otherwise c None b ts S f = absurd b
begins_otherwise c (Some e) (h, at, o) ts S f = let v = other_values h e o in first_refuses c h e at v.0 v.1 v.2 ts S f
