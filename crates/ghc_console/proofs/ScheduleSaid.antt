-- What a schedule says of a text that the reader refuses, and of refused memory.
use Rattle.ghc_console.proofs.CitedWords.{◌≡◌, ◌⊎◌, ◌∙◌, inl, inr, refl, sym, ap, subst, List, ℕ, Option, Some, Result, codes, Fault, a_term, an_ask, IsRefusal, reply_of, refused, Refused, WritesFront, IsAskedOf, IsGiven, reply_text}
use Rattle.ghc_term.specs.declared.fault.Fault.TheVariants as fault
use Rattle.ghc_core.specs.declared.reply.Reply.{Reply}
use Rattle.ghc_core.specs.declared.world.World.{World as Played}
use Rattle.ghc_console.specs.TextLines.{refusal}
use Rattle.ghc_console.specs.ScheduleReplies.{unasked, unread}

-- A text that the reader refuses is given to no stream.
pub given_refused : (old : Played) (k : ℕ) (given : List ℕ) (f : Fault) → (f ≡ fault.Memory) ⊎ IsRefusal a_term given f → IsGiven k given old (Some (refused f)) old
given_refused old k given f (inl m) = IsGiven.no_memory (ap (λ e. Some (refused e)) m, refl)
given_refused old k given f (inr r) = unread f r (refl, refl)

-- The core is asked for nothing that the reader refuses.
pub ask_refused : (old : Played) (given : List ℕ) (f : Fault) → (f ≡ fault.Memory) ⊎ IsRefusal an_ask given f → IsAskedOf given old (Some (refused f)) old
ask_refused old given f (inl m) = IsAskedOf.no_memory (ap (λ e. Some (refused e)) m, refl)
ask_refused old given f (inr r) = unasked f r (refl, refl)

-- The line of F1 is written without memory.
pub starving_told : {E : Type 0} (written now : Option (List ℕ)) (result : Result Unit E) (reply : Reply) (f : Fault) → reply ≡ Refused f → f ≡ fault.Memory
    → WritesFront written now result (codes "F1 no memory\n") → WritesFront written now result (reply_text (reply_of reply))
starving_told written now result reply f is memory told = subst (WritesFront written now result) (sym (ap (λ r. reply_text (reply_of r)) is ∙ ap refusal memory)) told
