use Rattle.ghc_console.proofs.CitedWords.{List, ℕ, inl, sym, subst, VarName, IsVariableNamed}
use Rattle.ghc_console.specs.BlameReplies.{RepliesToBlamePlace, blames_no_place}
use Rattle.ghc_console.proofs.StepReplies.{if_ok}
use Rattle.ghc_console.proofs.replies.blame.told_place.Goals as goal

pub told_place_in-requires-clause-named : goal.told_place_in-requires-clause-named
told_place_in-requires-clause-named c = subst (λ (b : List ℕ). IsVariableNamed c.args.core.now.world b c.in-Some.x) c.as_bytes.ensures.value c.in-Some.ensures.found

pub returns-in-None : goal.returns-in-None
returns-in-None c = if_ok c.refused.result c.refused.ensures.text c.refused.ensures.memory (λ _ told kept.
    let w = c.args.core.now.world in
    subst (RepliesToBlamePlace w c.args.word.now c.args.place.now c.args.answers.now) (sym told)
    (blames_no_place (inl (subst (λ (b : List ℕ). (x : VarName) → ¬ IsVariableNamed w b x) c.as_bytes.ensures.value c.in-None.ensures.none))))
