-- Walks along the tail of a stream.
use Rattle.ghc_fire.proofs.Words.{◌≡◌, ℕ, List, [], ◌∷◌, ◌++◌, subst, Option, Some, None, VarName, Tree, variable, IsValue, Leads, along, Comes, now, on, ends, Effect, Feeds, Closes, IsTailBound}

module _ {S : VarName → Option Tree} where
  -- a walk goes on to the variable that the last one is bound to
  pub comes_next : {t : Tree} {xs : List VarName} {x y : VarName} → Comes S t xs x → S x ≡ Some (variable y) → Comes S t (xs ++ x ∷ []) y
  comes_next now e = on e now
  comes_next (on p c) e = on p (comes_next c e)

  -- a walk to a variable that is bound ends where the chain of its value does
  pub comes_to_value : {t v e : Tree} {xs ys : List VarName} {x : VarName} → Comes S t xs x → S x ≡ Some v → Leads S v ys e → (zs : List VarName) × Leads S t zs e
  comes_to_value {ys = ys} {x = x} now p l = (x ∷ ys, along p l)
  comes_to_value (on {x = z} q c) p l = let r = comes_to_value c p l in (z ∷ r.0, along q r.1)

-- A tail that ends in a value does not end unbound.
pub not_open : {S : VarName → Option Tree} {s x : VarName} {xs : List VarName} → IsTailBound s S → Comes S (variable s) xs x → ¬ (S x ≡ None)
not_open {xs = xs} b c n = subst IsValue (ends n b.1.1 (xs, c)) b.2

-- So the stream takes no input,
pub takes_no_input : {S : VarName → Option Tree} (k : ℕ) (s : VarName) (u : Tree) (n : ℕ) → IsTailBound s S → (e : Effect) → ¬ Feeds k s u n S e
takes_no_input k s u n b e h = not_open b h.2.1 h.2.2

-- and is not closed.
pub takes_no_close : {S : VarName → Option Tree} (s : VarName) → IsTailBound s S → (e : Effect) → ¬ Closes s S e
takes_no_close s b e h = not_open b h.1.1 h.1.2
