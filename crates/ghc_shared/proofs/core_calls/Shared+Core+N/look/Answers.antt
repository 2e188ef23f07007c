use Rattle.ghc_shared.proofs.Words.{◌≡◌, ◌∙◌, ℕ, List, length, sym, ap, subst, Entry, Item, history, numbers, World, Core, Leaves, entry_count, Shows}
use Rattle.ghc_shared.proofs.AnsweredCalls.{entries_counted}
use Rattle.ghc_shared.proofs.core_calls.Shared+Core+N.look.Goals as goal

-- what is shown of a front that is the history of the world
shown : (front : List Item) (w : World) (n : ℕ) (ns : List ℕ) → Leaves (history w.opening w.journal) w → front ≡ history w.opening w.journal → n ≡ length w.journal → ns ≡ numbers w.kept → Shows front n ns
shown front w n ns legal at is kept = (w, subst (λ (l : List Item). Leaves l w) (sym at) legal, is ∙ sym (ap entry_count at ∙ entries_counted w.journal), kept)

pub returns-clause-shows : goal.returns-clause-shows
returns-clause-shows g c =
    let same = c.get-core.ensures.value ∙ c.deref.ensures ∙ c.look.ensures.value in
    let at = c.look.ensures.front ∙ ap (λ (k : Core). history k.world.opening k.world.journal) (sym same) in
    shown c.look.new.me.front c.get-core.result.now.world c.len-length.result c.in_ok-kept.kept.items c.stands.ensures.legal at
    (c.len-length.ensures.length ∙ ap (λ (l : List Entry). length l) c.journal.ensures) c.in_ok-kept.ensures
