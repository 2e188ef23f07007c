use Rattle.ghc_console.proofs.CitedWords.{List, ℕ, inr, sym, subst, VarName, IsVariableNamed}
use Rattle.ghc_console.specs.BlameReplies.{RepliesToBlamePlace, blames_no_place, blames_place}
use Rattle.ghc_console.proofs.BlameReplying.{named_known}
use Rattle.ghc_console.proofs.StepReplies.{if_ok, on_ok}
use Rattle.ghc_console.proofs.replies.blame.told_place_in.Goals as goal

pub told_of-requires-clause-known : goal.told_of-requires-clause-known
told_of-requires-clause-known c =
    let w = c.args.core.now.world in
    let y = c.in-Some.y in
    let standing = c.stands.ensures.standing in (
      named_known w c.args.word.now c.args.x standing c.requires.named,
      named_known w c.args.place.now y standing (subst (λ (b : List ℕ). IsVariableNamed w b y) c.as_bytes.ensures.value c.in-Some.ensures.found),
    )

pub returns-in-Some : goal.returns-in-Some
returns-in-Some c = on_ok c.told_of.result c.told_of.ensures (λ told.
    let w = c.args.core.now.world in
    let y = c.in-Some.y in
    blames_place c.args.x y c.requires.named (subst (λ (b : List ℕ). IsVariableNamed w b y) c.as_bytes.ensures.value c.in-Some.ensures.found) told)

pub returns-in-None : goal.returns-in-None
returns-in-None c = if_ok c.refused.result c.refused.ensures.text c.refused.ensures.memory (λ _ told kept.
    let w = c.args.core.now.world in
    subst (RepliesToBlamePlace w c.args.word.now c.args.place.now c.args.answers.now) (sym told)
    (blames_no_place (inr (subst (λ (b : List ℕ). (y : VarName) → ¬ IsVariableNamed w b y) c.as_bytes.ensures.value c.in-None.ensures.none))))
