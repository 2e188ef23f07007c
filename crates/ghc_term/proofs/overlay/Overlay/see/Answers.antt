use Rattle.std.proofs.Common.{refl, sym, inl, ◌∙◌}
use Rattle.ghc_term.proofs.VariableLists.{is_there}
use Rattle.ghc_term.proofs.overlay.Overlay.see.Goals as goal

pub returns-then-is_some : goal.returns-then-is_some
returns-then-is_some c = inl (is_there c.place_of.result c.args.seen.now c.args.x (sym c.is_some.ensures ∙ c.if-is_some.true) c.place_of.ensures.found, refl, refl)
