use Rattle.std.proofs.Common.{◌≡◌, false, true, sym, ap, ◌∙◌}
use Rattle.std.specs.Prelude.{codes, bytes_eq}
use Rattle.ghc_match.proofs.AlikeLemmas.{list_by_count, list_name, named, not_named}
use Rattle.ghc_match.proofs.alike.is_list.Goals as goal

pub returns-then-eq : goal.returns-then-eq
returns-then-eq c =
    let v = c.in-Struct in
    let same = c.eq-in-Struct.ensures ∙ ap (λ b. bytes_eq b (codes ".")) c.as_str-in-Struct.ensures.bytes in
    list_by_count c.args.term.now v.name.now v.arguments.now v.ensures.shown v.ensures.arguments (named v.name.now (codes ".") _ same c.if-eq.true)

pub returns-else-eq : goal.returns-else-eq
returns-else-eq c =
    let v = c.in-Struct in
    let same = c.eq-in-Struct.ensures ∙ ap (λ b. bytes_eq b (codes ".")) c.as_str-in-Struct.ensures.bytes in (
      λ h. absurd (let clash : false ≡ true = sym c.if-eq.false ∙ h in cc),
      λ k. absurd (not_named v.name.now (codes ".") _ same c.if-eq.false (list_name c.args.term.now v.name.now v.arguments.now v.ensures.shown v.ensures.arguments k)),
    )
