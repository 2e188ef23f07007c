-- Of a history that does not begin with the first line of one, no more need be read than such a line has.
use Rattle.ghcdb.proofs.CitedWords.{◌≡◌, ◌↔◌, ◌⊎◌, ◌++◌, ◌∷◌, ◌∙◌, ℕ, List, inl, inr, refl, ap, sym, subst, take, arith, take_all, length-take, Fault, IsLine, heading, chronicle_heading, History, Chronicle, TellsHistory, TellsChronicle, Started, IsHistoryFault, of_text, of_step, of_chronicle, of_entry, join_with_byte, join_with_byte-slice_split, IsFirstWrongLine, no_heading, heading_bytes, IsHeadingLine, WhatIsReadTells}

-- the text is cut together from its lines
joined : (text line : List ℕ) → IsLine text 0 line → (rest : List ℕ) × (text ≡ line ++ 10 ∷ rest)
joined text line (next, more, e) = (join_with_byte 10 (next ∷ more), sym (join_with_byte-slice_split 10 text) ∙ ap (join_with_byte 10) e)

-- a text with the first line of a history begins with it
pub begins_with : (text : List ℕ) → IsLine text 0 heading ⊎ IsLine text 0 chronicle_heading → IsHeadingLine (take heading_bytes text)
begins_with text (inl is) = let (rest, e) = joined text heading is in inl (ap (take heading_bytes) e)
begins_with text (inr is) = let (rest, e) = joined text chronicle_heading is in inr (ap (take heading_bytes) e)

-- The text begins with the first line of no history.
abbrev HasNoHeading : List ℕ → Type 0
HasNoHeading text = ¬ (IsLine text 0 heading ⊎ IsLine text 0 chronicle_heading)

-- such a text is refused for its first line
wrong_first : (s : Started) (text : List ℕ) → HasNoHeading text → IsHistoryFault s text (Fault.History 1)
wrong_first s text none = of_text (λ is. none (inr is)) (1, refl, no_heading (λ is. none (inl is)))

first_is_wrong : (text : List ℕ) (line : ℕ) → HasNoHeading text → IsFirstWrongLine text line → line ≡ 1
first_is_wrong text line none (no_heading one) = refl
first_is_wrong text line none (IsFirstWrongLine.no_count is c) = absurd (none (inl is))
first_is_wrong text line none (IsFirstWrongLine.no_step is c t) = absurd (none (inl is))
first_is_wrong text line none (IsFirstWrongLine.no_end is c t e n) = absurd (none (inl is))
first_is_wrong text line none (IsFirstWrongLine.more is c t e n m) = absurd (none (inl is))

-- and for nothing else
only_first : (s : Started) (text : List ℕ) (fault : Fault) → HasNoHeading text → IsHistoryFault s text fault → fault ≡ Fault.History 1
only_first s text fault none (of_text one (line, e, wrong)) = e ∙ ap Fault.History (first_is_wrong text line none wrong)
only_first s text fault none (of_step h tells fails) = absurd (none (inl tells.begins))
only_first s text fault none (of_chronicle is refusal) = absurd (none (inr is))
only_first s text fault none (of_entry c tells fails) = absurd (none (inr tells.spies.entries.opening.begins))

refused_alike : (s : Started) (a b : List ℕ) (fault : Fault) → HasNoHeading a → HasNoHeading b → IsHistoryFault s a fault → IsHistoryFault s b fault
refused_alike s a b fault first none is = subst (IsHistoryFault s b) (sym (only_first s a fault first is)) (wrong_first s b none)

-- the front of a text that begins with no such line is one that does not either
front_of_none : (whole : List ℕ) → ¬ IsHeadingLine (take heading_bytes whole) → HasNoHeading (take heading_bytes whole)
front_of_none whole none is =
    let short : take heading_bytes (take heading_bytes whole) ≡ take heading_bytes whole = take_all heading_bytes (take heading_bytes whole) (omega (arith, length-take heading_bytes whole)) in
    none (subst IsHeadingLine short (begins_with (take heading_bytes whole) is))

told_alike : (a b : List ℕ) → HasNoHeading a → HasNoHeading b
    → ((h : History) → TellsHistory a h ↔ TellsHistory b h) × ((c : Chronicle) → TellsChronicle a c ↔ TellsChronicle b c) × ((s : Started) (fault : Fault) → IsHistoryFault s a fault ↔ IsHistoryFault s b fault)
told_alike a b first none = (
  λ h. (λ tells. absurd (first (inl tells.begins)), λ tells. absurd (none (inl tells.begins))),
  λ c. (λ tells. absurd (first (inr tells.spies.entries.opening.begins)), λ tells. absurd (none (inr tells.spies.entries.opening.begins))),
  λ s fault. (refused_alike s a b fault first none, refused_alike s b a fault none first),
)

pub what_is_read_tells : WhatIsReadTells
what_is_read_tells whole text (inl (is, same)) = subst (λ t. ((h : History) → TellsHistory t h ↔ TellsHistory whole h) × ((c : Chronicle) → TellsChronicle t c ↔ TellsChronicle whole c) × ((s : Started) (fault : Fault) → IsHistoryFault s t fault ↔ IsHistoryFault s whole fault)) (sym same) (λ h. (λ x. x, λ x. x), λ c. (λ x. x, λ x. x), λ s fault. (λ x. x, λ x. x))
what_is_read_tells whole text (inr (none, same)) =
    let front = subst HasNoHeading (sym same) (front_of_none whole none) in
    told_alike text whole front (λ is. none (begins_with whole is))
