use Rattle.ghc_term.proofs.Words.{◌≡◌, ◌≤◌, ◌<◌, ◌+◌, ℕ, List, [], ◌∷◌, ◌++◌, length, refl, sym, ap, ◌∙◌, arith, length-append, VarName, Tree, StoreValue, with_binds}
use Rattle.std.specs.FinMap as finite
use Rattle.ghc_term.proofs.table.entry_list.put_each.Goals as goal

-- the last binding of a list is made first
last_first : (bs : List (VarName × Tree)) (b : VarName × Tree) (s : StoreValue) → with_binds (bs ++ b ∷ []) s ≡ with_binds bs (finite.insert s b.0 b.1)
last_first [] b s = refl
last_first (c ∷ bs) b s = ap (λ m. finite.insert m c.0 c.1) (last_first bs b s)

-- where the last binding of a list was made, the others are left to be made
next : (all left : List (VarName × Tree)) (b : VarName × Tree) (s t last : StoreValue) → all ≡ left ++ b ∷ [] → t ≡ finite.insert s b.0 b.1 → with_binds all s ≡ last → with_binds left t ≡ last
next all left b s t last split made h = ap (with_binds left) made ∙ sym (last_first left b s) ∙ ap (λ l. with_binds l s) (sym split) ∙ h

some_room : (all left : List (VarName × Tree)) (b : VarName × Tree) (room : ℕ) → all ≡ left ++ b ∷ [] → length all ≤ room → 0 < room
some_room all left b room split within = let long = ap length split ∙ length-append left (b ∷ []) in omega (arith, long, within)

fewer : (all left : List (VarName × Tree)) (b : VarName × Tree) (room after : ℕ) → all ≡ left ++ b ∷ [] → length all ≤ room → room ≤ after + 1 → length left ≤ after
fewer all left b room after split within room_left = let long = ap length split ∙ length-append left (b ∷ []) in omega (arith, long, within, room_left)

pub put-requires : goal.put-requires
put-requires c = some_room c.loop-x.entries.items c.pop.new.self.items (c.in-Some.x, c.in-Some.value) _ c.in-Some.ensures.items c.loop-x.invariant.0

pub loop-x-preserved : goal.loop-x-preserved
loop-x-preserved c = (
  fewer c.loop-x.entries.items c.pop.new.self.items (c.in-Some.x, c.in-Some.value) _ _ c.in-Some.ensures.items c.loop-x.invariant.0 c.put.ensures.room,
  next c.loop-x.entries.items c.pop.new.self.items (c.in-Some.x, c.in-Some.value) _ _ _ c.in-Some.ensures.items c.put.ensures.held c.loop-x.invariant.1,
)
