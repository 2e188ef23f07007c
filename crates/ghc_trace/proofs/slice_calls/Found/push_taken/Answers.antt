use Rattle.ghc_trace.proofs.Words.{◌≡◌, ℕ, Some, length, refl, sym, ◌∙◌, subst, nat_cmp}
use Rattle.std.specs.BTreeMap.{BTreeMap, Updates}
use Rattle.ghc_trace.proofs.CallPlaces.{found_more}
use Rattle.ghc_trace.specs.inner.BlameCode.{AreFound}
use Rattle.ghc_trace.proofs.slice_calls.Found.push_taken.Goals as goal

pub returns-in-Ok-clause-found : goal.returns-in-Ok-clause-found
returns-in-Ok-clause-found c =
    let calls = c.args.self.now.list.items in
    let place : c.len-place.result ≡ length calls = c.len-place.ensures ∙ c.args.self.now.list.ok.0 in
    let up = subst (λ k. Updates nat_cmp c.push.new.self.takers c.insert.new.self c.args.number (Some k)) place c.in-Ok.ensures.updates in
    found_more calls c.push.new.self.list.items c.args.name (Some c.args.number) c.in_ok-push.ensures.list c.args.number refl c.push.new.self.takers c.insert.new.self
    (subst (λ (m : BTreeMap ℕ ℕ). AreFound calls m) (sym c.push.ensures.takers) c.requires) up
