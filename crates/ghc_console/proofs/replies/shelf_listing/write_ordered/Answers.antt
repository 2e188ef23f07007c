use Rattle.ghc_console.proofs.CitedWords.{◌≡◌, ℕ, List, arith, length, length-map, map, Record, step_of, step_text}
use Rattle.ghc_console.proofs.ListedLines.{none_listed, some_listed}
use Rattle.ghc_console.proofs.replies.shelf_listing.write_ordered.Goals as goal

pub returns-then-len-eq0-clause-told : goal.returns-then-len-eq0-clause-told
returns-then-len-eq0-clause-told g c =
    let es = c.args.ordered.now.entries in
    let rs : List (ℕ × Record) = map (λ e. (e.0, e.1.now)) es in
    let long : length rs ≡ length es = length-map es (λ e. (e.0, e.1.now)) in
    none_listed (λ e. step_text (step_of e.1)) rs _ _ c.write_all.result (omega (arith, c.if-len-eq0.true, c.len.ensures.len, long)) c.write_all.ensures.bytes

pub returns-clause-told : goal.returns-clause-told
returns-clause-told g c =
    let es = c.args.ordered.now.entries in
    let rs : List (ℕ × Record) = map (λ e. (e.0, e.1.now)) es in
    let long : length rs ≡ length es = length-map es (λ e. (e.0, e.1.now)) in
    some_listed (λ e. step_text (step_of e.1)) rs _ _ c.write_steps.result (λ none. c.if-len-eq0.false (omega (arith, none, c.len.ensures.len, long))) c.write_steps.ensures.told
