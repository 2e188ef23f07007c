use Rattle.ghc_shared.proofs.Words.{◌≡◌, length, ap, ◌∙◌, sym, subst, arith, get_or, crosses, with_items_is, AreAll}
use mir.Syntax.{named}
use denote.Param.{param}
use denote.Param.Send.{sendable}
use Rattle.ghc_shared.proofs.CoreCrosses.{core_pass_send}
use Rattle.ghc_shared.proofs.Newcomers.{all_given}
use Rattle.ghc_shared.proofs.tests.passes.Crosses.{hands_sync}
use Rattle.ghc_shared.proofs.tests.passes.do_in_threads.Goals as goal

pub tend_all-requires-send-J : goal.tend_all-requires-send-J
tend_all-requires-send-J g c κs within = search (crosses, sendable, core_pass_send) depth 60 fits 20000

pub tend_all-requires-sync-W : goal.tend_all-requires-sync-W
tend_all-requires-sync-W g c κs within = record { shared = (hands_sync (record { mir = named 3; lft = κs.1.1.1.1.0 }) (param 0 g.row.N) (param 1 g.row.R) g.N.Naming g.N.Ledger c.type_bounds.sync-R).shared }

pub returns : goal.returns
returns g c =
    let v = c.args.passes.now in
    let after = c.tend_all.new.jobs in
    let is = c.as_mut_slice.ensures.value in
    let len : length after ≡ length v.items = c.tend_all.ensures.len ∙ ap (λ l. length l) is in
    let whole = with_items_is v after (omega (arith, len, v.ok.0)) in
    subst (λ l. AreAll g.N.Naming.passes 0 l) (sym whole) (all_given g.N.Naming.passes 0 v.items after len
    (λ i d low. subst (λ l. (get_or after i d).number ≡ (get_or l i d).number) is (c.tend_all.ensures.each i d (omega (arith, low, ap (λ l. length l) is)))) c.requires)
