use Rattle.ghc_pool.proofs.Words.{◌≡◌, ◌+◌, true, sym, ap, subst, arith, vec_len, all_parts, works, over, total_work, in_of, out_of, offered_in, taken_in, left_in, submits_by, IsSpent, AreJudged, AreTold, FirstBegins}
use Rattle.ghc_pool.proofs.Returned.{parts_plus}
use Rattle.ghc_pool.proofs.Judging.{judged_more}
use Rattle.ghc_pool.proofs.Drained.{pending_all, over_works, none_stolen_of, over_submits}
use Rattle.ghc_pool.proofs.Jobs.{over_in, over_out}
use Rattle.ghc_pool.proofs.rounds.threads.finish.Goals as goal

pub drain_all-stop-requires-clause-pending : goal.drain_all-stop-requires-clause-pending
drain_all-stop-requires-clause-pending g c =
    let ws = c.gather.new.workers.items in
    let parts = c.requires.parts in
    pending_all ws c.gather.ensures.ready c.gather.ensures.released (parts_plus ws (parts.0 + vec_len c.args.workers.now) all_parts parts.2 (c.gather.ensures.parts parts.0 parts.1))

pub drain_all-stop-requires-clause-judged : goal.drain_all-stop-requires-clause-judged
drain_all-stop-requires-clause-judged g c =
    let fed = g.C.Craft.fed c.args.craft.now in
    let asks = g.C.Craft.asks c.args.craft.now in
    let spent = IsSpent (g.C.Craft.takes c.args.craft.now) c.args.permits.spare c.args.permits.budget.left in
    subst (AreJudged fed asks spent c.first_stop-first.result) (sym c.gather.ensures.works) (judged_more fed asks ⊥ spent c.first_stop-first.result (works c.args.workers.now.items) (λ e. absurd e) c.first_stop-first.ensures)

pub returns-clause-settled : goal.returns-clause-settled
returns-clause-settled g c = λ h.
    let old = c.args.workers.now.items in
    let mid = c.gather.new.workers.items in
    let new = c.drain_all-stop.new.workers.items in
    let same = c.gather.ensures.works in
    let balanced : over (in_of h) new ≡ over (out_of h) new =
    omega (arith, c.requires.balanced h, c.drain_all-stop.ensures.balance h, over_in h old, over_out h old, over_in h mid, over_out h mid, c.gather.ensures.put h, c.gather.ensures.got h, none_stolen_of h mid c.gather.ensures.released, ap (λ ks. total_work (offered_in h) ks) same, ap (λ ks. total_work (taken_in h) ks) same, ap (λ ks. total_work (left_in h) ks) same) in
    over_works h new c.drain_all-stop.ensures.drained balanced

pub returns-clause-few : goal.returns-clause-few
returns-clause-few g c =
    let old = c.args.workers.now.items in
    let mid = c.gather.new.workers.items in
    let new = c.drain_all-stop.new.workers.items in
    omega (arith, c.requires.counted, c.drain_all-stop.ensures.counted, over_submits old, over_submits mid, over_submits new, ap (λ ks. total_work submits_by ks) c.gather.ensures.works, c.close.ensures.amount, c.close.ensures.same)

pub returns-clause-judged : goal.returns-clause-judged
returns-clause-judged g c =
    let fed = g.C.Craft.fed c.args.craft.now in
    let asks = g.C.Craft.asks c.args.craft.now in
    let old = c.args.workers.now.items in
    let mid = c.gather.new.workers.items in
    let new = c.drain_all-stop.new.workers.items in
    let after = c.drain_all-stop.new.permits in
    judged_more fed asks (IsSpent (g.C.Craft.takes c.args.craft.now) after.spare after.budget.left) ((g.C.Craft.takes c.args.craft.now ≡ true) × (total_work submits_by (works new) ≡ g.L.Limited.limit)) c.drain_all-stop.result (works new)
    (λ spent. (spent.0, omega (arith, spent.1, spent.2, c.requires.counted, c.drain_all-stop.ensures.counted, over_submits old, over_submits mid, over_submits new, ap (λ ks. total_work submits_by ks) c.gather.ensures.works, c.close.ensures.amount, c.close.ensures.same, c.close.ensures.left))) c.drain_all-stop.ensures.judged

pub returns-clause-tells : goal.returns-clause-tells
returns-clause-tells g c = λ starts told. c.drain_all-stop.ensures.tells starts (subst (λ ks. AreTold (g.C.Craft.tells c.args.craft.now) starts ks c.args.passes.now.items) (sym c.gather.ensures.works) told)

pub returns-clause-begins : goal.returns-clause-begins
returns-clause-begins g c = λ names begins. c.drain_all-stop.ensures.begins names (subst (FirstBegins names) (sym c.gather.ensures.works) begins)
