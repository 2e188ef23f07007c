use Rattle.ghc_hooks.proofs.Words.{take, get_or, sym, subst, take_more, VarName, In, Gains, gains_one}
use Rattle.ghc_hooks.proofs.heard.add_all.Goals as goal

pub loop-name-preserved : goal.loop-name-preserved
loop-name-preserved c =
    let zero_name : VarName = record { step = 0; place = 0 } in
    let old = take c.loop-name.name-index c.args.names.now in
    let y = get_or c.args.names.now c.loop-name.name-index zero_name in
    let more = gains_one c.args.gathered.now c.loop-name.gathered old y c.insert.new.self c.loop-name.invariant c.in_ok-insert.ensures.ok in
    subst (λ l. Gains c.args.gathered.now c.insert.new.self (λ x. In x l)) (sym (take_more c.args.names.now c.loop-name.name-index zero_name c.loop-name-test.true)) more
