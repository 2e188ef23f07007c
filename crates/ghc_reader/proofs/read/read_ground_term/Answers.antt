use Rattle.std.specs.Prelude.{Option, Some, None, IfNone, is_some, true}
use Rattle.ghc_term.specs.Tree as term
use Rattle.ghc_term.specs.InputTerm.{IsInputTerm}
use Rattle.ghc_reader.proofs.Words.{◌≡◌, refl, subst, sym, view, IsReadTerm}
use Rattle.ghc_reader.proofs.ClosedTrees.{input_is_closed}
use Rattle.ghc_reader.proofs.ReadTerms.{read_is_input}
use Rattle.ghc_reader.proofs.read.read_ground_term.Goals as goal

pub lower_closed-requires : goal.lower_closed-requires
lower_closed-requires c =
    let read = c.in_ok-parsed.ensures.found in input_is_closed read.derived.derivation (view c.in_ok-parsed.parsed) read.derived.sees

there : (o : Option term.Tree) (t : term.Tree) → IfNone o (¬ IsInputTerm t) → IsInputTerm t → is_some o ≡ true
there (Some g) t none input = refl
there None t none input = absurd (none input)

pub unwrap-requires : goal.unwrap-requires
unwrap-requires c =
    let input = read_is_input c.args.text.now c.in_ok-term.term (view c.in_ok-parsed.parsed, c.in_ok-parsed.ensures.found, c.in_ok-term.ensures) in
    there c.in_ok-of.field-0 c.in_ok-term.term c.in_ok-of.ensures.none input

pub returns-clause-answer : goal.returns-clause-answer
returns-clause-answer c =
    let same = rw c.unwrap.ensures at c.in_ok-of.ensures.some in
    (subst (IsReadTerm c.args.text.now) (sym same.0) (view c.in_ok-parsed.parsed, c.in_ok-parsed.ensures.found, c.in_ok-term.ensures), tt)
