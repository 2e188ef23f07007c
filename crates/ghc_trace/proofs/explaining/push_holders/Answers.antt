use Rattle.ghc_trace.proofs.Words.{◌≡◌, ◌++◌, [], ℕ, List, get_or, take, sym, subst, append-nil, take_more, string_bytes}
use Rattle.ghc_term.proofs.ListsLemmas.{in_get}
use Rattle.ghc_trace.specs.declared.holding.Holder.{Holder}
use Rattle.ghc_trace.specs.Explaining.{AreHolderLines, no_holder}
use Rattle.ghc_trace.proofs.Explained.{one_told}
use Rattle.ghc_trace.proofs.explaining.push_holders.Goals as goal

pub loop-holder-init : goal.loop-holder-init
loop-holder-init c = ([], no_holder, sym (append-nil (string_bytes c.args.out.now)))

pub write_holder-requires-clause-there : goal.write_holder-requires-clause-there
write_holder-requires-clause-there c =
    let none : Holder = record { variable = record { step = 0; place = 0 }; goal = record { step = 0; place = 0 } } in
    c.requires.there (get_or c.args.holders.now c.loop-holder.holder-index none) (in_get c.args.holders.now c.loop-holder.holder-index none c.loop-holder-test.true)

pub loop-holder-preserved : goal.loop-holder-preserved
loop-holder-preserved c =
    let hs = c.args.holders.now in
    let i = c.loop-holder.holder-index in
    let none : Holder = record { variable = record { step = 0; place = 0 }; goal = record { step = 0; place = 0 } } in
    subst (λ l. (text : List ℕ) × AreHolderLines c.args.core.now.world l text × (string_bytes c.write_holder.new.out ≡ string_bytes c.args.out.now ++ text)) (sym (take_more hs i none c.loop-holder-test.true))
    (one_told c.args.core.now.world (take i hs) (get_or hs i none) (string_bytes c.args.out.now) (string_bytes c.loop-holder.out) (string_bytes c.write_holder.new.out) c.loop-holder.invariant c.in_ok-write_holder.ensures)
