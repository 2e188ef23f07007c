use Rattle.ghc_reader.proofs.Words.{◌≡◌, ◌-◌, ◌<◌, Some, arith, clause_view, length, refl, slice_get, subst}
use Rattle.std.proofs.lemmas.Option.{slice_get_read}
use Rattle.ghc_reader.specs.ClauseLines.{BeginsAt}
use Rattle.ghc_reader.proofs.ClausesLowered.{each_more}
use Rattle.ghc_reader.proofs.HeadLines.{head_at}
use Rattle.ghc_reader.proofs.clause_lines.lines_of.Goals as goal

pub overflow_sub-front : goal.overflow_sub-front
overflow_sub-front c =
    let within = head_at _ c.args.clauses.now c.loop-clause.clause-index c.clause-item.result c.requires.among c.loop-clause-test.true c.clause-item.is in
    omega (arith, within, c.len.ensures, c.args.lexed.now.tokens.ok.0)

pub loop-clause-preserved : goal.loop-clause-preserved
loop-clause-preserved c =
    let tokens = c.args.lexed.now.tokens in
    let places = c.args.lexed.now.places.items in
    let left = c.clause-item.result.head.left in
    let place = c.index.result.now in
    let front : c.len.result - left ≡ length tokens.items - left = omega (arith, c.len.ensures, tokens.ok.0) in
    let inside : c.len.result - left < length places = omega (arith, c.len.ensures, tokens.ok.0, c.requires.paired) in
    let there = subst (λ n. slice_get places n ≡ Some place) front (slice_get_read places (length places) (c.len.result - left) place refl inside c.index.ensures) in
    let begins = BeginsAt tokens.items places in
    each_more begins begins clause_view c.args.clauses.now c.loop-clause.clause-index c.clause-item.result c.loop-clause.lines.items c.push.new.self.items place.line (λ x y h. h) c.loop-clause-test.true c.clause-item.is c.in_ok-push.ensures.items c.loop-clause.invariant (place, there, refl)
