use Rattle.ghc_trace.proofs.Words.{◌+◌, take, ap, sym, subst, ◌∙◌, inl, inr, take_all, In, Binds, HasLookedAt, so_far, earlier, latest, LooksWhere, Gathers}
use Rattle.ghc_trace.proofs.Gathering.{gathers_none, gathers_both, gathers_alike}
use Rattle.ghc_trace.proofs.Disturbing.{looks_where_bound, LooksAtOneOf}
use Rattle.ghc_trace.proofs.gathered.Gathered.add_looking.Goals as goal

pub loop-x-init : goal.loop-x-init
loop-x-init c = gathers_none c.args.tries.now.notes (LooksAtOneOf c.args.tries.now.notes (take 0 c.entries-x-items.result.now)) c.args.self.now.goals.items (λ g never. never.1)

pub loop-x-preserved : goal.loop-x-preserved
loop-x-preserved c =
    let notes = c.args.tries.now.notes in
    let es = c.entries-x-items.result.now in
    let b = c.loop-x-item.result in
    let i = c.loop-x.x-index in
    let within = c.loop-x-test.true in
    gathers_both notes (LooksAtOneOf notes (take i es)) (λ g. In g c.looking_at.result.now) (LooksAtOneOf notes (take (i + 1) es)) c.args.self.now.goals.items c.loop-x.self.goals.items c.add_all.new.self.goals.items
    (λ g. (
      λ h. elim h [
        | inl l ↦ (l.0, earlier es i b within l.0 l.1, l.2)
        | inr k ↦ (b, latest es i b within b c.loop-x-item.is, (c.looking_at.ensures.each g).0 k)
      ],
      λ l. elim (so_far es i b within l.0 l.1) [
        | inl k ↦ inl (l.0, k, l.2)
        | inr same ↦ inr ((c.looking_at.ensures.each g).1 (subst (λ z. HasLookedAt notes z.0 g) (same ∙ sym c.loop-x-item.is) l.2))
      ],
    ))
    c.loop-x.invariant
    c.in_ok-add_all.ensures

pub returns : goal.returns
returns c =
    let notes = c.args.tries.now.notes in
    let es = c.entries-x-items.result.now in
    let old = c.args.self.now.goals.items in
    let new = c.loop-x.self.goals.items in
    gathers_alike notes (LooksAtOneOf notes es) (LooksWhere notes (Binds c.args.step.now)) old new (looks_where_bound notes c.args.step.now es (c.entries-x-items.ensures.all ∙ c.binds.ensures ∙ ap (λ e. e.binds) c.effect.ensures))
    (subst (λ l. Gathers notes (LooksAtOneOf notes l) old new) (take_all c.loop-x.x-index es c.loop-x-test.false) c.loop-x.invariant)
