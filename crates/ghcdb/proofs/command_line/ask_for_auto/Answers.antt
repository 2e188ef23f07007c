use Rattle.ghcdb.proofs.CitedWords.{◌∙◌, arith, refl, sym}
use Rattle.std.proofs.lemmas.Bool.{false≢true}
use Rattle.std.specs.String.{string_bytes}
use Rattle.ghcdb.proofs.WordsOfAuto.{left_to_rest, said}
use Rattle.ghcdb.proofs.command_line.ask_for_auto.Goals as goal

pub returns-then-says_auto : goal.returns-then-says_auto
returns-then-says_auto c = (
  λ t. said string_bytes c.args.words.now c.loop-word.word-index c.word-item.result _ c.loop-word.behind c.as_str-text.result.now (omega arith) c.word-item.is c.as_str-text.ensures.value c.loop-word.invariant (c.says_auto.ensures.0 c.if-says_auto.true),
  λ a. refl,
)

pub loop-word-preserved : goal.loop-word-preserved
loop-word-preserved c =
    left_to_rest string_bytes c.args.words.now c.loop-word.word-index c.word-item.result _ c.loop-word.behind c.as_str-text.result.now (omega arith) c.word-item.is c.as_str-text.ensures.value c.loop-word.invariant
    c.eq-behind.result (λ s. false≢true (sym c.if-says_auto.false ∙ c.says_auto.ensures.1 s)) c.eq-behind.ensures
