use Rattle.ghc_term.proofs.Words.{◌≡◌, true, false, refl, sym, ap, ◌∙◌}
use Rattle.ghc_term.proofs.Entries.{same, same_is}
use Rattle.ghc_term.proofs.Searches.{same_itself}
use Rattle.ghc_term.proofs.Total.{same_name}
use Rattle.ghc_term.proofs.Far.{begun, found, passed, opened, finished}
use Rattle.ghc_term.proofs.overlay.Overlay.search_far.Goals as goal

pub loop-index-init : goal.loop-index-init
loop-index-init c = begun c.new-seen.result c.add_variables.new.into c.new-seen.ensures c.in_ok-add_variables.ensures

pub returns-in_default : goal.returns-in_default
returns-in_default c =
    (λ h. absurd (let clash : false ≡ true = h in cc), λ r. absurd (finished c.loop-index.seen c.loop-index.index (sym c.name_at.ensures ∙ c.in_default.is) c.loop-index.invariant r))

pub returns-then-eq : goal.returns-then-eq
returns-then-eq c =
    let names : c.in-Some.x ≡ c.args.to = same_name c.in-Some.x c.args.to (sym (same_is c.in-Some.x c.args.to) ∙ sym c.eq.ensures ∙ c.if-eq.true) in
    (λ _. found c.loop-index.seen c.loop-index.index c.in-Some.x (sym c.in-Some.ensures) names c.loop-index.invariant, λ _. refl)

pub loop-index-preserved-then-is_name_known_apart : goal.loop-index-preserved-then-is_name_known_apart
loop-index-preserved-then-is_name_known_apart c = passed c.loop-index.seen c.loop-index.index c.in-Some.x (sym c.in-Some.ensures) (c.is_name_known_apart.ensures c.if-is_name_known_apart.true) c.loop-index.invariant

pub loop-index-preserved : goal.loop-index-preserved
loop-index-preserved c =
    opened c.loop-index.seen c.add_those_of_value.new.seen c.loop-index.index c.in-Some.x (sym c.in-Some.ensures)
    (λ e. let clash : true ≡ false = sym (same_itself c.in-Some.x) ∙ ap (same c.in-Some.x) e ∙ sym c.eq.ensures ∙ c.if-eq.false in cc)
    c.in_ok-add_those_of_value.ensures c.loop-index.invariant
