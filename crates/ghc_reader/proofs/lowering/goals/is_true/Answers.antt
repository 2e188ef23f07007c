use Rattle.ghc_reader.proofs.Words.{sym, ap, ◌∙◌, ◌&&◌, nat_eq, bytes_eq, codes, count, views, goal_view, is_true}
use Rattle.ghc_reader.proofs.Misplaced.{count_views}
use Rattle.ghc_reader.proofs.lowering.goals.is_true.Goals as goal

pub returns-then-eq : goal.returns-then-eq
returns-then-eq c =
    let arguments = c.in-Call.call.arguments in
    let name_is = ap (λ n. bytes_eq n (codes "true")) (sym c.as_str.ensures.bytes) ∙ sym c.eq.ensures ∙ c.if-eq.true in
    let none = ap (λ k. nat_eq k 0) (count_views arguments.items ∙ sym arguments.ok.0) in
    sym (ap (λ g. is_true (goal_view g)) c.in-Call.is ∙ ap (λ b. b && nat_eq (count (views arguments.items)) 0) name_is ∙ none ∙ sym c.is_empty.ensures)
