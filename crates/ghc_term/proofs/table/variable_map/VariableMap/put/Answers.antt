use Rattle.ghc_term.proofs.Words.{◌≡◌, refl, ap, ◌∙◌, arith, Some, values_of}
use Rattle.std.specs.FinMap as finite
use Rattle.ghc_term.proofs.Names.{name_total, name_antisymmetric}
use Rattle.ghc_term.proofs.Slots.{put_listed, put_unlisted, own_past, none_put}
use Rattle.ghc_term.proofs.VariableMaps.{firsts, first_is, far}
use Rattle.ghc_term.proofs.table.variable_map.VariableMap.put.Goals as goal

pub invariant_of-self : goal.invariant_of-self
invariant_of-self g c = (
  λ n. none_put name_total name_antisymmetric (λ y. y.place ≡ 1) _ _ c.args.x c.args.value c.if-x-ne1.true c.put_other.ensures.held (c.self.invariant.0 n),
  omega (arith, c.saturating_sub-self-inside.ensures, c.put_other.ensures.room, c.self.invariant.1),
)

pub returns-then-x-ne1-clause-held : goal.returns-then-x-ne1-clause-held
returns-then-x-ne1-clause-held g c =
    let i = c.self.inside in
    put_unlisted firsts i.firsts.items i.others.entries c.args.x _ c.args.value (far i.firsts.items c.args.x c.if-x-ne1.true) c.put_other.ensures.held
    ∙ ap (λ t. finite.insert t.held c.args.x c.args.value) c.self.view_is

pub returns-then-place-len-clause-held : goal.returns-then-place-len-clause-held
returns-then-place-len-clause-held g c =
    let i = c.self.inside in
    let past = own_past firsts i.firsts.items c.args.x.step c.args.x (first_is c.args.x c.if-x-ne1.false) (omega (arith, c.if-place-len.true, c.len.ensures)) in
    put_unlisted firsts i.firsts.items i.others.entries c.args.x _ c.args.value past c.put_other-then-place-len.ensures.held
    ∙ ap (λ t. finite.insert t.held c.args.x c.args.value) c.self.view_is

pub returns-clause-held : goal.returns-clause-held
returns-clause-held g c =
    let i = c.self.inside in
    ap (λ l. values_of l i.others.entries) c.put_first.ensures
    ∙ put_listed firsts i.firsts.items i.others.entries c.args.x c.args.x.step (first_is c.args.x c.if-x-ne1.false) (Some c.args.value) c.args.value refl
    (omega (arith, c.if-place-len.false, c.len.ensures)) ∙ ap (λ t. finite.insert t.held c.args.x c.args.value) c.self.view_is
