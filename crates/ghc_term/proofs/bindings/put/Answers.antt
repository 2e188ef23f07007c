use Rattle.ghc_term.proofs.Words.{sym, ap, ◌∙◌, subst, slice_get, keys_of, In}
use Rattle.ghc_term.proofs.BindingLists.{still_once, changed, once_more, added, no_key}
use Rattle.ghc_term.proofs.bindings.put.Goals as goal

pub returns-in-Some-clause-once : goal.returns-in-Some-clause-once
returns-in-Some-clause-once c =
    still_once c.args.list.now.items c.in-Some.place c.args.x c.args.value c.requires (ap (λ l. slice_get (keys_of l) c.in-Some.place) (sym c.deref.ensures.value) ∙ c.in-Some.ensures.found)

pub returns-in-Some-clause-ok : goal.returns-in-Some-clause-ok
returns-in-Some-clause-ok c =
    changed c.args.list.now.items c.in-Some.place c.args.x c.args.value c.requires (ap (λ l. slice_get (keys_of l) c.in-Some.place) (sym c.deref.ensures.value) ∙ c.in-Some.ensures.found)

pub returns-in_ok-push-in-None-clause-once : goal.returns-in_ok-push-in-None-clause-once
returns-in_ok-push-in-None-clause-once c =
    once_more c.args.list.now.items c.push.new.self.items c.args.x c.args.value c.requires
    (λ i. no_key c.deref.result.now c.args.x c.in-None.ensures.none (subst (λ l. In c.args.x (keys_of l)) (sym c.deref.ensures.value) i)) c.in_ok-push-in-None.ensures.items

pub returns-in_ok-push-in-None-clause-ok : goal.returns-in_ok-push-in-None-clause-ok
returns-in_ok-push-in-None-clause-ok c =
    added c.args.list.now.items c.push.new.self.items c.args.x c.args.value
    (λ i. no_key c.deref.result.now c.args.x c.in-None.ensures.none (subst (λ l. In c.args.x (keys_of l)) (sym c.deref.ensures.value) i)) c.in_ok-push-in-None.ensures.items
