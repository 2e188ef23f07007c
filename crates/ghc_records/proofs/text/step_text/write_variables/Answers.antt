use Rattle.ghc_records.proofs.Words.{rules, ◌++◌, map, sym, ap, ◌∙◌, arith, string_bytes, codes, common_steps, variable_text}
use Rattle.ghc_records.proofs.Listing.{led, led_next}
use Rattle.ghc_records.proofs.text.step_text.write_variables.Goals as goal

pub loop-name-preserved : goal.loop-name-preserved
loop-name-preserved c =
    let here = string_bytes c.loop-name.out in (
      search rules,
      led_next (codes ",") c.loop-name.mark.now (variable_text c.in-Some.name.now) (map variable_text c.next.new.self) here
          (string_bytes c.push_str-in-loop-name.new.self) (string_bytes c.push_variable.new.out) _ c.in_ok-push_str.ensures.bytes c.in_ok-push_variable.ensures.text
          (ap (λ ks. here ++ led (codes ",") c.loop-name.mark.now (map variable_text ks)) (sym c.in-Some.ensures.steps) ∙ c.loop-name.invariant.1),
      grind (arith, common_steps),
    )
