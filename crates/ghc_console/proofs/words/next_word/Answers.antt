use Rattle.std.proofs.Common.{◌∙◌, sym}
use Rattle.ghc_console.proofs.TextBehind.{space_off, behind_word, behind_last}
use Rattle.ghc_console.proofs.WordLemmas.{words_on, last_word}
use Rattle.ghc_console.proofs.words.next_word.Goals as goal

pub loop-i-preserved : goal.loop-i-preserved
loop-i-preserved c =
    let rest = c.loop-i.rest.now in
    let found = c.in-Some.ensures in
    let parts = c.split_at.ensures in
    let none = sym c.is_empty.ensures ∙ c.if-not-is_empty.false in (
      sym (words_on rest c.args.line.now _ _ c.in-Some.i _ found.found found.plain c.loop-i.invariant.0 parts.front parts.back none),
      space_off rest c.args.line.now _ _ c.in-Some.i found.found c.loop-i.invariant.1 parts.front parts.back none,
    )

pub returns-then-not-is_empty-clause-found : goal.returns-then-not-is_empty-clause-found
returns-then-not-is_empty-clause-found c = words_on c.loop-i.rest.now c.args.line.now _ _ c.in-Some.i _ c.in-Some.ensures.found c.in-Some.ensures.plain c.loop-i.invariant.0 c.split_at.ensures.front c.split_at.ensures.back (sym c.is_empty.ensures ∙ c.if-not-is_empty.true)

pub returns-then-not-is_empty-clause-rest : goal.returns-then-not-is_empty-clause-rest
returns-then-not-is_empty-clause-rest c = behind_word c.loop-i.rest.now c.args.line.now _ _ c.in-Some.i c.in-Some.ensures.found c.in-Some.ensures.plain c.loop-i.invariant.1 c.split_at.ensures.front c.split_at.ensures.back (sym c.is_empty.ensures ∙ c.if-not-is_empty.true)

pub returns-then-is_empty-clause-none : goal.returns-then-is_empty-clause-none
returns-then-is_empty-clause-none c = last_word c.loop-i.rest.now c.args.line.now _ c.in_default.ensures.none c.loop-i.invariant.0 (sym c.is_empty-2.ensures ∙ c.if-is_empty.true)

pub returns-clause-found : goal.returns-clause-found
returns-clause-found c = last_word c.loop-i.rest.now c.args.line.now _ c.in_default.ensures.none c.loop-i.invariant.0 (sym c.is_empty-2.ensures ∙ c.if-is_empty.false)

pub returns-clause-rest : goal.returns-clause-rest
returns-clause-rest c = behind_last c.loop-i.rest.now c.args.line.now c.in_default.ensures.none c.loop-i.invariant.1 (sym c.is_empty-2.ensures ∙ c.if-is_empty.false)
