use Rattle.ghc_pool.proofs.Words.{◌≡◌, length, sym, ap, ◌∙◌, subst, arith, with_items_is, works, own_deques, FirstBegins, AreJobs, Works, HasWorked, workers_in}
use lib.ListN.{get_or}
use Rattle.ghc_pool.proofs.Jobs.{job_works, have_worked}
use Rattle.ghc_pool.proofs.rounds.threads.work_in_threads.Goals as goal

pub tend_all-requires-clause-jobs : goal.tend_all-requires-clause-jobs
tend_all-requires-clause-jobs g c κs within =
    let fed = g.C.Craft.fed c.args.craft.now in
    let asks = g.C.Craft.asks c.args.craft.now in
    let tells = g.C.Craft.tells c.args.craft.now in
    let js = c.args.jobs.now.items in
    let is = c.as_mut_slice.ensures.value in
    let all = c.requires.jobs in
    λ i d low. subst (λ l. Works fed asks (get_or l i d)) (sym is) (job_works fed asks tells all.0 all.1 all.2 js i d (omega (arith, low, ap (λ l. length l) is)) all.3)

pub returns-clause-jobs : goal.returns-clause-jobs
returns-clause-jobs g c = λ k ds starts all.
    let fed = g.C.Craft.fed c.args.craft.now in
    let asks = g.C.Craft.asks c.args.craft.now in
    let tells = g.C.Craft.tells c.args.craft.now in
    let v = c.args.jobs.now in
    let ks = c.tend_all.new.jobs in
    let is = c.as_mut_slice.ensures.value in
    let len : length ks ≡ length v.items = c.tend_all.ensures.len ∙ ap (λ l. length l) is in
    let whole = with_items_is v ks (omega (arith, len, v.ok.0)) in
    let worked = have_worked fed asks tells k ds starts v.items ks len all (λ i d low. subst (λ l. HasWorked fed asks tells (get_or l i d) (get_or ks i d)) is (c.tend_all.ensures.each i d (omega (arith, low, ap (λ l. length l) is)))) in
    subst (AreJobs fed asks tells k ds starts) (sym whole) worked.0

pub returns-clause-deques : goal.returns-clause-deques
returns-clause-deques g c =
    let fed = g.C.Craft.fed c.args.craft.now in
    let asks = g.C.Craft.asks c.args.craft.now in
    let tells = g.C.Craft.tells c.args.craft.now in
    let all = c.requires.jobs in
    let v = c.args.jobs.now in
    let ks = c.tend_all.new.jobs in
    let is = c.as_mut_slice.ensures.value in
    let len : length ks ≡ length v.items = c.tend_all.ensures.len ∙ ap (λ l. length l) is in
    let whole = with_items_is v ks (omega (arith, len, v.ok.0)) in
    let worked = have_worked fed asks tells all.0 all.1 all.2 v.items ks len all.3 (λ i d low. subst (λ l. HasWorked fed asks tells (get_or l i d) (get_or ks i d)) is (c.tend_all.ensures.each i d (omega (arith, low, ap (λ l. length l) is)))) in
    ap (λ l. own_deques (workers_in l)) whole ∙ worked.1

pub returns-clause-begins : goal.returns-clause-begins
returns-clause-begins g c = λ names begins.
    let fed = g.C.Craft.fed c.args.craft.now in
    let asks = g.C.Craft.asks c.args.craft.now in
    let tells = g.C.Craft.tells c.args.craft.now in
    let all = c.requires.jobs in
    let v = c.args.jobs.now in
    let ks = c.tend_all.new.jobs in
    let is = c.as_mut_slice.ensures.value in
    let len : length ks ≡ length v.items = c.tend_all.ensures.len ∙ ap (λ l. length l) is in
    let whole = with_items_is v ks (omega (arith, len, v.ok.0)) in
    let worked = have_worked fed asks tells all.0 all.1 all.2 v.items ks len all.3 (λ i d low. subst (λ l. HasWorked fed asks tells (get_or l i d) (get_or ks i d)) is (c.tend_all.ensures.each i d (omega (arith, low, ap (λ l. length l) is)))) in
    subst (λ l. FirstBegins names (works (workers_in l))) (sym whole) (worked.2 names begins)
