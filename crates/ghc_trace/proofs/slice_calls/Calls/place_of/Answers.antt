use Rattle.ghc_trace.proofs.Words.{sym, ◌∙◌, subst}
use Rattle.ghc_trace.proofs.CallPlaces.{IsPlaceNamed, is_found, is_nowhere, named_of}
use Rattle.ghc_trace.proofs.slice_calls.Calls.place_of.Goals as goal

pub returns-clause-found : goal.returns-clause-found
returns-clause-found c =
    let items = c.args.self.now.list.items in
    let g = c.args.name in
    is_found items g c.copied.result (subst (IsPlaceNamed items g) (sym (c.copied.ensures ∙ c.get.ensures.value)) (named_of items c.args.self.now.places c.args.self.now.placed g))

pub returns-clause-none : goal.returns-clause-none
returns-clause-none c =
    let items = c.args.self.now.list.items in
    let g = c.args.name in
    is_nowhere items g c.copied.result (subst (IsPlaceNamed items g) (sym (c.copied.ensures ∙ c.get.ensures.value)) (named_of items c.args.self.now.places c.args.self.now.placed g))
