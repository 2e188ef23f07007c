use Rattle.ghc_records.proofs.Words.{rules, ◌++◌, map, sym, ap, ◌∙◌, arith, string_bytes, codes, common_steps, binding_text}
use Rattle.ghc_records.proofs.Listing.{led, led_next}
use Rattle.ghc_records.proofs.BindingOrder.{shown}
use Rattle.ghc_records.proofs.text.step_text.write_bindings.Goals as goal

pub loop-x-preserved : goal.loop-x-preserved
loop-x-preserved c =
    let here = string_bytes c.loop-x.out in (
      search rules,
      led_next (codes ";") c.loop-x.mark.now (binding_text (c.in-Some.x.now, c.in-Some.value.now.now)) (map binding_text (shown (λ t. t.now) c.next.new.self)) here
          (string_bytes c.push_str-in-loop-x.new.self) (string_bytes c.write_binding.new.out) _ c.in_ok-push_str.ensures.bytes c.in_ok-write_binding.ensures.text
          (ap (λ es. here ++ led (codes ";") c.loop-x.mark.now (map binding_text (shown (λ t. t.now) es))) (sym c.in-Some.ensures.steps) ∙ c.loop-x.invariant.1),
      grind (arith, common_steps),
    )
