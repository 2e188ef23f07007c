use Rattle.ghc_trace.proofs.Words.{◌≡◌, sym, ap, ◌∙◌, arith, nat_tests, count_of_keys, predicate_cmp}
use Rattle.std.specs.FinSet as set
use Rattle.ghc_trace.proofs.Spied.{predicate_total, predicate_antisymmetric, same, same_is}
use Rattle.ghc_trace.proofs.spies.SpySet.is_empty.Goals as goal

pub returns : goal.returns
returns c =
    let count : c.len.result ≡ set.len c.args.self.now =
    c.len.ensures.len ∙ sym (count_of_keys predicate_total predicate_antisymmetric same same_is c.self.inside.table.keys c.len.ensures.unique) ∙ ap set.len c.self.view_is in (
      λ none. set.empty_of_len c.args.self.now (let zero : c.len.result ≡ 0 = grind (arith, nat_tests) in sym count ∙ zero),
      λ e. let zero : c.len.result ≡ 0 = count ∙ ap set.len e ∙ set.len-empty predicate_cmp in grind (arith, nat_tests),
    )
