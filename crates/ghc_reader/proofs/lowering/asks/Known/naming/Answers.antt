use Rattle.ghc_reader.proofs.Words.{◌≡◌, ◌≢◌, Some, None, ◌∙◌, bytes_eq, subst, rules, get, greatest_number, IsNaming}
use Rattle.ghc_reader.proofs.AsksLowered.{named_by_no_step, named_by_numbers, named_in_query, named_by_none}
use Rattle.ghc_reader.proofs.lowering.asks.Known.naming.Goals as goal

pub returns-then-step : goal.returns-then-step
returns-then-step c =
    let greatest : c.in-Some.step ≡ greatest_number = search rules in
    named_by_no_step c.args.self.now c.args.name.now c.as_bytes.result.now c.in-Some.step c.in-Some.place (c.as_bytes.ensures.value ∙ c.as_str.ensures.bytes) c.in-Some.ensures greatest

pub returns-in-Some : goal.returns-in-Some
returns-in-Some c =
    let less : c.in-Some.step ≢ greatest_number = search rules in
    named_by_numbers c.args.self.now c.args.name.now c.as_bytes.result.now c.in-Some.step c.in-Some.place (c.as_bytes.ensures.value ∙ c.as_str.ensures.bytes) c.in-Some.ensures less

pub returns-in-Some-get : goal.returns-in-Some-get
returns-in-Some-get c =
    let found : get bytes_eq c.self.inside.places c.args.name.now ≡ Some c.in-Some-get.place.now = search rules in
    subst (λ q. IsNaming q c.args.name.now (Some (record { step = 0; place = c.in-Some-get.place.now }))) c.self.view_is (named_in_query c.self.inside.names.now c.args.name.now c.as_bytes.result.now (get bytes_eq c.self.inside.places) c.in-Some-get.place.now (c.as_bytes.ensures.value ∙ c.as_str.ensures.bytes) c.in_default.ensures c.self.invariant found)

pub returns-in-None : goal.returns-in-None
returns-in-None c =
    let found : get bytes_eq c.self.inside.places c.args.name.now ≡ None = search rules in
    subst (λ q. IsNaming q c.args.name.now None) c.self.view_is (named_by_none c.self.inside.names.now c.args.name.now c.as_bytes.result.now (get bytes_eq c.self.inside.places) (c.as_bytes.ensures.value ∙ c.as_str.ensures.bytes) c.in_default.ensures c.self.invariant found)
