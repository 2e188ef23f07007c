-- What is read of the files that the command line names.
use Rattle.std.specs.Prelude.{◌≡◌, ◌⊎◌, ℕ, Bool, List, Option, is_some, option_map, true}
use Rattle.ghc_term.specs.declared.fault.Fault.TheVariants.{Memory, Device}
use Rattle.ghcdb.specs.declared.files.Texts.{Texts}
use Rattle.ghcdb.specs.declared.refusal.Refusal.{Refusal}
use Rattle.ghcdb.specs.declared.refused_part.RefusedPart.{RefusedPart}
use Rattle.ghcdb.specs.declared.refused_part.RefusedPart.TheVariants as part
use Rattle.ghcdb.specs.declared.settings.Options.{Options}

-- the bytes of the history that was read, if one was
abbrev pub history_in : Texts → Option (List ℕ)
history_in texts = option_map (λ text. text.items) texts.history

-- There is the text of a history where the options name one, and a schedule to be read where they name one.
abbrev pub HaveTexts : Options → Texts → Bool → Type 0
HaveTexts options texts scheduled = (is_some texts.history ≡ is_some options.load) × (scheduled ≡ is_some options.schedule)

-- The file of this part is named, and could not be read, or no memory was left for it.
pub record IsNotRead (named : Bool) (part : RefusedPart) (refusal : Refusal) : Type 0 where
  pub fault : (refusal.fault ≡ Memory) ⊎ (refusal.fault ≡ Device)
  pub part_is : (refusal.part ≡ part) × (named ≡ true)

-- A file is not read: the program's, or that of a history or a schedule that is named.
abbrev pub IsReadRefusal : Options → Refusal → Type 0
IsReadRefusal options refusal = IsNotRead true part.Program refusal ⊎ (IsNotRead (is_some options.load) part.History refusal ⊎ IsNotRead (is_some options.schedule) part.Schedule refusal)
