use Rattle.ghc_console.proofs.CitedWords.{◌≡◌, ◌++◌, [], refl, arith, length, get_or, string_bytes, codes, decimal, value_at}
use Rattle.std.proofs.lemmas.List.{take_all}
use Rattle.std.proofs.lemmas.Grind.{common_steps}
use Rattle.std.proofs.lemmas.Option.{MatchOption-at_some}
use Rattle.ghc_fire.proofs.Calling.{numbered_for, some_there}
use Rattle.ghc_flat.specs.Clause.{IsClause}
use Rattle.ghc_reader.specs.ClauseLines.{line_of}
use Rattle.ghc_console.specs.Looks.{line_text}
use Rattle.ghc_console.proofs.LookReplies.{one_clause_told}
use Rattle.ghc_console.proofs.replies.clause_lines.clause_lines.Goals as goal

pub unwrap-clause-requires : goal.unwrap-clause-requires
unwrap-clause-requires c =
    let n = numbered_for c.args.program.now c.args.name.now (length c.args.arguments.now) c.clauses_for-number-items.result.now
    c.clauses_for-number-items.ensures c.loop-number.number-index _ c.loop-number-test.true refl in
    some_there (IsClause c.args.program.now _) c.clause.result c.clause.ensures.none n.0 n.1

pub loop-number-init : goal.loop-number-init
loop-number-init c = ([], tt, c.requires)

pub loop-number-preserved : goal.loop-number-preserved
loop-number-preserved c =
    let ks = c.clauses_for-number-items.result.now in
    let i = c.loop-number.number-index in
    let k = get_or ks i 0 in
    let before = string_bytes c.loop-number.reply in
    let (says, told, written) = c.in_ok-push_outcome.ensures in
    let line = decimal k ++ (codes " " ++ (says ++ line_text (line_of c.args.lines.now k))) in
    let is = MatchOption-at_some _ _ c.unwrap-clause.result c.unwrap-clause.ensures c.clause.ensures.found in
    let added : string_bytes c.push_str-in-loop-number.new.self ≡ before ++ (line ++ codes "\n") = grind (arith, common_steps) in
    one_clause_told c.args.lines.now c.args.program.now c.args.arguments.now (value_at c.args.store.now.held) ks i before (string_bytes c.push_str-in-loop-number.new.self) line c.loop-number-test.true c.loop-number.invariant
    (record { clause = c.unwrap-clause.result.now; is = is; says = says; told = told; written = refl }) added

pub returns : goal.returns
returns c =
    let ks = c.clauses_for-number-items.result.now in
    let (told, of_each, is) = c.loop-number.invariant in
    (ks, told, c.clauses_for-number-items.ensures, rw (take_all c.loop-number.number-index ks (omega (arith, c.loop-number-test.false))) at of_each, is)
