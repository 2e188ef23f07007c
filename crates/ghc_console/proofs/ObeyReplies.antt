-- What the texts of replies to commands of the core say.
use Rattle.ghc_console.proofs.CitedWords.{◌≡◌, ◌≢◌, ◌⊎◌, ◌∙◌, inl, inr, sym, subst, ap, List, ℕ, Result, Ok, Err, OnOk, OnErr, Fault, a_term, an_ask, IsRefusal, Meter, one_more, World, Command, redo, Fails, opening_stays, CountsInObeying, FiresInObeying, IsObeyed, obeys, refuses, RepliesToAsk, RepliesToInput, unasked, unread, refusal}
use Rattle.ghc_term.specs.declared.fault.Fault.TheVariants as fault
use Rattle.ghc_core.proofs.Counted.{redo_decided}

-- a command that is refused
pub command_refused : (w v : World) (c : Command) (f : Fault) (text : List ℕ) → v ≡ w → (f ≡ fault.Memory) ⊎ Fails w c f → text ≡ refusal f → f ≢ fault.Memory → IsObeyed w c text v
command_refused w v c f text same (inl m) told kept = absurd (kept m)
command_refused w v c f text same (inr q) told kept = refuses f q told same

-- a text that the reader refuses
pub text_refused : (w : World) (k : ℕ) (given text : List ℕ) (f : Fault) → (f ≡ fault.Memory) ⊎ IsRefusal a_term given f → text ≡ refusal f → f ≢ fault.Memory → RepliesToInput w k given text w
text_refused w k given text f (inl m) told kept = absurd (kept m)
text_refused w k given text f (inr q) told kept = subst (λ t. RepliesToInput w k given t w) (sym told) (unread q)

-- a text that the reader refuses as what is asked for
pub ask_refused : (w : World) (given text : List ℕ) (f : Fault) → (f ≡ fault.Memory) ⊎ IsRefusal an_ask given f → text ≡ refusal f → f ≢ fault.Memory → RepliesToAsk w given text w
ask_refused w given text f (inl m) told kept = absurd (kept m)
ask_refused w given text f (inr q) told kept = subst (λ t. RepliesToAsk w given t w) (sym told) (unasked q)

-- A command leaves the opening as it was, whether it is obeyed or refused,
pub obeyed_leaves_opening : (w v : World) (c : Command) (text : List ℕ) → IsObeyed w c text v → v.opening ≡ w.opening
obeyed_leaves_opening w v c text (obeys change asked tells) = opening_stays w v change asked.1 tells.2
obeyed_leaves_opening w v c text (refuses f not_obeyed told same) = ap (λ (z : World). z.opening) same

-- and whether memory was refused or not.
pub opening_left : {T E : Type 0} (w u v : World) (c : Command) (text : List ℕ) (result : Result T E) → OnOk result (IsObeyed w c text v) → OnErr result (v ≡ u) → u ≡ w → v.opening ≡ w.opening
opening_left w u v c text (Ok t) told kept same = obeyed_leaves_opening w v c text told
opening_left w u v c text (Err e) told kept same = ap (λ (z : World). z.opening) (kept ∙ same)

-- What a command counted it fired, where nothing was fired before and after it.
pub fires_as_counted : (w : World) (c : Command) (m n : Meter) (before after : ℕ) → m.firings ≡ before → CountsInObeying w c m n → after ≡ n.firings → FiresInObeying c before after
fires_as_counted w (redo k) m n before after old counted new = elim (redo_decided w k) [
  | inl refused ↦ inl (new ∙ ap (λ (z : Meter). z.firings) (counted.0 refused) ∙ old)
  | inr possible ↦ inr (new ∙ ap (λ (z : Meter). z.firings) (counted.1 possible) ∙ ap one_more old)
]
fires_as_counted w c m n before after old counted new = new ∙ ap (λ (z : Meter). z.firings) counted ∙ old
