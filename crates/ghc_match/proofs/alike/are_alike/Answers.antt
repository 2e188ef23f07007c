use Rattle.std.proofs.Common.{false, true, ◌≡◌}
use Rattle.ghc_match.proofs.AlikeLemmas.{alike_structures, atom_unlike, structure_unlike, named}
use Rattle.ghc_match.proofs.alike.are_alike.Goals as goal

pub returns-then-eq : goal.returns-then-eq
returns-then-eq c =
    let v = c.in-Struct-Struct in
    alike_structures c.args.left.now c.args.right.now v.f.now v.g.now v.lefts.now v.rights.now v.ensures.shown v.ensures'.shown (named v.f.now v.g.now _ c.eq-in-Struct-Struct.ensures c.if-eq.true)

pub returns-in_default-2 : goal.returns-in_default-2
returns-in_default-2 c = (
  λ h. absurd (let clash : false ≡ true = h in cc),
  λ k. absurd (atom_unlike c.view-2.result c.args.left.now c.args.right.now c.in_default.field-0-0.now c.in_default.ensures.shown c.view-2.ensures.shown c.view-2.ensures.arguments c.in_default.not-Atom-1 k),
)

pub returns-in_default-3 : goal.returns-in_default-3
returns-in_default-3 c = (
  λ h. absurd (let clash : false ≡ true = h in cc),
  λ k. absurd (structure_unlike c.view-2.result c.args.left.now c.args.right.now c.in_default.field-0-0.now c.in_default.field-1-0.now c.in_default.ensures.shown c.in_default.ensures.arguments c.view-2.ensures.shown c.in_default.not-Struct-1 k),
)
