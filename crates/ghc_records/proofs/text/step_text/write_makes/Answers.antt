use Rattle.ghc_records.proofs.Words.{rules, ◌+◌, ◌++◌, map, drop, sym, ap, ◌∙◌, arith, string_bytes, codes, common_steps, goal_name_text, names_given}
use Rattle.ghc_records.proofs.Listing.{led, led_all, led_next}
use Rattle.ghc_records.proofs.Makes.{named_next, as_many_named}
use Rattle.ghc_records.proofs.text.step_text.write_makes.Goals as goal

pub loop-index-init : goal.loop-index-init
loop-index-init c = (
  search rules,
  ap (λ l. string_bytes c.args.out.now ++ l) (led_all (codes ",") goal_name_text (names_given c.args.number 1 c.args.effect.now.makes) (as_many_named c.args.number 1 c.args.effect.now.makes (λ none. c.if-count-eq0.false (c.made-count.ensures ∙ none)))),
  grind (arith, common_steps),
)

pub loop-index-preserved : goal.loop-index-preserved
loop-index-preserved c =
    let n = c.args.number in
    let i = c.loop-index.index in
    let here = string_bytes c.loop-index.out in (
      search rules,
      led_next (codes ",") c.loop-index.mark.now (goal_name_text (record { step = n; place = i + 1 })) (map goal_name_text (names_given n (i + 1 + 1) (drop (i + 1) c.args.effect.now.makes)))
          here (string_bytes c.push_str-in-loop-index.new.self) (string_bytes c.write_goal_name.new.out) _ c.in_ok-push_str.ensures.bytes c.in_ok-write_goal_name.ensures.text
          (ap (λ names. here ++ led (codes ",") c.loop-index.mark.now (map goal_name_text names)) (sym (named_next n i c.args.effect.now.makes (omega (arith, c.loop-index-test.true, c.made-count.ensures)))) ∙ c.loop-index.invariant.1),
      grind (arith, common_steps),
    )
