-- What the variables of a clause at its first places stand for, laid over what others do.
use Rattle.std.specs.Prelude.{◌≡◌, ◌<◌, ℕ, suc, List, [], ◌∷◌, Option, Some, None}
use Rattle.std.specs.Borrow.{Bor}
use Rattle.std.specs.FinMap as finite
use Rattle.ghc_term.specs.Tree.{Tree}
use Rattle.ghc_term.specs.declared.var_name.VarName.{VarName}
use Rattle.ghc_term.specs.Store.{StoreValue, value_at}

-- the map where the variable of a clause at the place stands for the term, if there is one
abbrev pub with_one : ℕ → Option (Bor Tree) → StoreValue → StoreValue
with_one place None others = others
with_one place (Some t) others = finite.insert others (record { step = 0; place = place }) t.now

-- the map where the variables of a clause from the place on stand for the terms in order
abbrev pub laid_over : ℕ → List (Option (Bor Tree)) → StoreValue → StoreValue
laid_over place [] others = others
laid_over place (o ∷ os) others = with_one place o (laid_over (suc place) os others)

-- No variable of a clause at one of its first n places stands for anything in the map.
abbrev pub HasNoneBefore : ℕ → StoreValue → Type 0
HasNoneBefore n m = (x : VarName) → x.step ≡ 0 → x.place < n → value_at m x ≡ None
