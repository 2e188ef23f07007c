use Rattle.ghc_term.proofs.Words.{sym, ap, ◌∙◌, take_all, subst, inl, inr, In}
use Rattle.ghc_term.proofs.Entries.{same_is}
use Rattle.ghc_term.proofs.ListsLemmas.{next_in}
use Rattle.ghc_term.proofs.Names.{same_name}
use Rattle.ghc_term.proofs.Reaching.{not_there}
use Rattle.ghc_term.proofs.table.known.has_no_other.Goals as goal

pub loop-y-preserved-then-eq : goal.loop-y-preserved-then-eq
loop-y-preserved-then-eq c e i n =
    let item = c.loop-y-item.result in
    elim (next_in c.args.entries.now c.loop-y.y-index item e c.loop-y-test.true c.loop-y-item.is i) [
      | inl j ↦ c.loop-y.invariant e j n
      | inr same ↦ absurd (n (ap (λ p. p.0) same ∙ same_name item.0 c.args.x (sym (same_is item.0 c.args.x) ∙ sym c.eq.ensures ∙ c.if-eq.true)))
    ]

pub loop-y-preserved : goal.loop-y-preserved
loop-y-preserved c e i n =
    let item = c.loop-y-item.result in
    elim (next_in c.args.entries.now c.loop-y.y-index item e c.loop-y-test.true c.loop-y-item.is i) [
      | inl j ↦ c.loop-y.invariant e j n
      | inr same ↦ λ k. not_there c.place_of.result (sym c.is_some.ensures ∙ c.if-is_some.false) c.place_of.ensures.none (subst (λ p. In p.0 c.args.known.now) same k)
    ]

pub returns : goal.returns
returns c h e i n = c.loop-y.invariant e (subst (In e) (sym (take_all c.loop-y.y-index c.args.entries.now c.loop-y-test.false)) i) n
