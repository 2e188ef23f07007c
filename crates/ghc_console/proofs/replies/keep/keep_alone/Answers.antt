use Rattle.ghc_console.proofs.CitedWords.{List, ℕ, sym, subst, ◌∙◌, In, string_bytes}
use Rattle.ghc_records.specs.Orders.{Picks}
use Rattle.ghc_console.specs.Keeping.{TellsKept}
use Rattle.ghc_console.proofs.StepReplies.{on_ok}
use Rattle.ghc_console.proofs.replies.keep.keep_alone.Goals as goal

pub outside-requires : goal.outside-requires
outside-requires c = subst (λ (ns : List ℕ). Picks (λ n. In n c.args.slice.now) ns c.args.slice.now) (sym (c.as_slice.ensures.value ∙ c.in_ok-kept.ensures)) c.requires.slice

pub returns-clause-told : goal.returns-clause-told
returns-clause-told c = on_ok c.take_back.result c.take_back.ensures.told (λ told.
    let w = c.args.core.now.world in
    let ns = c.in_ok-rest.rest.items in (
      ns,
      subst (λ (all : List ℕ). Picks (λ n. ¬ In n c.args.slice.now) all ns) (c.as_slice.ensures.value ∙ c.in_ok-kept.ensures) c.in_ok-rest.ensures,
      subst (λ (l : List ℕ). TellsKept w l (string_bytes c.take_back.new.reply) c.take_back.new.core.world) c.as_slice-2.ensures.value told,
    ))
