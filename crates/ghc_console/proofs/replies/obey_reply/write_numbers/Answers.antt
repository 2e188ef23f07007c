use Rattle.ghc_console.proofs.CitedWords.{rules, ◌+◌, ◌++◌, map, drop, get_or, sym, ap, ◌∙◌, string_bytes, codes, decimal, drop_more, led, led_next}
use Rattle.ghc_console.proofs.replies.obey_reply.write_numbers.Goals as goal

pub loop-number-preserved : goal.loop-number-preserved
loop-number-preserved c =
    let ns = c.args.numbers.now in
    let i = c.loop-number.number-index in
    let here = string_bytes c.loop-number.out in (
      search rules,
      led_next (codes ",") c.loop-number.mark.now (decimal (get_or ns i 0)) (map decimal (drop (i + 1) ns)) here (string_bytes c.push_str-in-loop-number.new.self) (string_bytes c.push_number.new.out) _
          c.in_ok-push_str.ensures.bytes c.in_ok-push_number.ensures
          (ap (λ rest. here ++ led (codes ",") c.loop-number.mark.now (map decimal rest)) (sym (drop_more ns i 0 c.loop-number-test.true)) ∙ c.loop-number.invariant.1),
    )
