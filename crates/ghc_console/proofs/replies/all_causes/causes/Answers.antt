use Rattle.ghc_console.proofs.CitedWords.{◌≡◌, ◌∙◌, ap, ℕ, List, subst, arith, string_bytes, Record}
use Rattle.std.specs.List.{AllZip, concat}
use Rattle.ghc_console.specs.Looks.{TellsCausesOf}
use Rattle.ghc_console.specs.TextLines.{text_or_none}
use Rattle.ghc_console.proofs.LookReplies.{all_causes, causes_on, no_causes, told_or_none}
use Rattle.ghc_console.proofs.StepReplies.{if_ok}
use Rattle.ghc_console.proofs.replies.all_causes.causes.Goals as goal

pub loop-place-init : goal.loop-place-init
loop-place-init c = no_causes c.records-records.result.now.held c.records-records.result.now.slots (string_bytes c.args.reply.now) c.requires

pub loop-place-preserved : goal.loop-place-preserved
loop-place-preserved c =
    causes_on c.records-records.result.now.held c.records-records.result.now.slots c.loop-place.place (string_bytes c.loop-place.reply) (string_bytes c.causes_at.new.reply) c.in_ok-causes_at.ensures c.loop-place.invariant

pub returns : goal.returns
returns c = if_ok c.or_none.result c.or_none.ensures.none c.or_none.ensures.some (λ _ none some.
    let lines = string_bytes c.loop-place.reply in
    let text = string_bytes c.or_none.new.reply in
    let (told, of_each, is) = all_causes c.records-records.result.now.held c.records-records.result.now.slots c.loop-place.place lines c.len-count.ensures.slots (omega (arith, c.loop-place-test.false, c.places-place-end.ensures)) c.loop-place.invariant in
    subst (λ (rs : List Record). (told : List (List ℕ)) × AllZip (TellsCausesOf rs) rs told × (text ≡ text_or_none (concat told))) c.records-records.ensures
    (told, of_each, told_or_none lines text none some ∙ ap text_or_none is))
