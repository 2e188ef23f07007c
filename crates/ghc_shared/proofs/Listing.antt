-- What is found under the goals that looked at a variable looks where the step binds.
use Rattle.std.specs.Prelude.{◌≡◌, ◌⊎◌, ◌++◌, ℕ, ◌<◌, List, [], ◌∷◌, Bool, true, false, IsTrue}
use Rattle.std.specs.FinMap as finite
use Rattle.std.proofs.Common.{if◌then◌else◌, get_or, inl, is_some, length, sym, ap, ◌∙◌, subst}
use Rattle.std.specs.FinMap.Entries.{is_some-find}
use Rattle.std.specs.Map.{keys_of}
use Rattle.ghc_term.specs.Bindings.{name_cmp}
use Rattle.ghc_term.specs.Lists.{In}
use Rattle.ghc_term.specs.Store.{StoreValue}
use Rattle.ghc_term.specs.Tree.{Tree}
use Rattle.ghc_term.specs.declared.goal_name.GoalName.{GoalName}
use Rattle.ghc_term.specs.declared.var_name.VarName.{VarName}
use Rattle.ghc_term.proofs.ListsLemmas.{in_get, in_map, in_more}
use Rattle.ghc_term.proofs.Names.{name_total}
use Rattle.ghc_term.proofs.SetsLemmas.{in_any}
use Rattle.ghc_hooks.specs.Face.{GoalNames}
use Rattle.ghc_hooks.specs.Notes.{NotesByGoal}
use Rattle.ghc_hooks.specs.Tries.{HasLookedAt}
use Rattle.ghc_core.specs.Core.{AreExactIn}
use Rattle.ghc_core.specs.World.{World}
use Rattle.ghc_shared.specs.inner.Calls.{LooksAmong}

-- the variable of a binding has a value among the bindings
pub has_value : (es : List (VarName × Tree)) (i : ℕ) (b : VarName × Tree) → i < length es → b ≡ get_or es i b → IsTrue (finite.contains_key (finite.from_entries {R = name_cmp} es) b.0)
has_value es i b within is =
    let there : In b es = subst (λ z. In z es) (sym is) (in_get es i b within) in
    ap is_some (finite.get-from_entries name_total es b.0) ∙ is_some-find name_cmp b.0 es ∙ in_any b.0 (keys_of es) (in_map (λ (c : VarName × Tree). c.0) es b there)

-- a goal whose note looked at a variable that has a value among the bindings looks among them
pub looks_among : (w : World) (notes : NotesByGoal) (untried : GoalNames) (binds : StoreValue) (x : VarName) (g : GoalName) → AreExactIn w notes untried → IsTrue (finite.contains_key binds x) → HasLookedAt notes x g → LooksAmong w binds g
looks_among w notes untried binds x g exact bound looked =
    let noted = exact.noted g looked.0 looked.1 in (noted.0, x, noted.1, (noted.3.1 x).0 looked.2, bound)

-- what is in a list to which an element may have been added
pub in_pushed : {X : Type 0} (b : Bool) (xs : List X) (x y : X) → In y (if b then xs ++ x ∷ [] else xs) → In y xs ⊎ (y ≡ x)
in_pushed true xs x y i = in_more xs x y i
in_pushed false xs x y i = inl i
