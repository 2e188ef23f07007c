use Rattle.ghc_console.proofs.CitedWords.{List, ℕ, sym, subst, VarName, IsVariableNamed}
use Rattle.ghc_console.specs.BlameReplies.{RepliesToBlame, blames_nothing, blames_value}
use Rattle.ghc_console.proofs.BlameReplying.{named_known}
use Rattle.ghc_console.proofs.StepReplies.{if_ok, on_ok}
use Rattle.ghc_console.proofs.replies.blame.told_value.Goals as goal

pub told_of-requires-clause-known : goal.told_of-requires-clause-known
told_of-requires-clause-known c =
    let w = c.args.core.now.world in
    let x = c.in-Some.x in
    named_known w c.args.word.now x c.stands.ensures.standing (subst (λ (b : List ℕ). IsVariableNamed w b x) c.as_bytes.ensures.value c.in-Some.ensures.found)

pub returns-in-Some : goal.returns-in-Some
returns-in-Some c = on_ok c.told_of.result c.told_of.ensures (λ told.
    let w = c.args.core.now.world in
    let x = c.in-Some.x in
    blames_value x (subst (λ (b : List ℕ). IsVariableNamed w b x) c.as_bytes.ensures.value c.in-Some.ensures.found) told)

pub returns-in-None : goal.returns-in-None
returns-in-None c = if_ok c.refused.result c.refused.ensures.text c.refused.ensures.memory (λ _ told kept.
    let w = c.args.core.now.world in
    subst (RepliesToBlame w c.args.word.now c.args.answers.now) (sym told)
    (blames_nothing (subst (λ (b : List ℕ). (x : VarName) → ¬ IsVariableNamed w b x) c.as_bytes.ensures.value c.in-None.ensures.none)))
