-- What the words after `blame` say, and when reading them takes memory.
use Rattle.ghc_console.proofs.CitedWords.{◌≡◌, ◌⊎◌, ◌∙◌, inl, inr, true, false, ℕ, List, [], ◌∷◌, refl, sym, ap, subst, cond, Some, Result, Ok, Err, OnErr, bytes_eq, codes, list_all, bytes_eq-Decides, GoalName, goal_name_of, is_printable, is_variable, words_of, command_of, command_of_words, Unknown, TakesMemory}
use Rattle.ghc_trace.specs.declared.judgements.Answer.{Answer}
use Rattle.ghc_console.specs.BlameWords.{answer_of, answers_of, blame_goal, blame_of, blame_of_variable, blame_place, blame_term}
use Rattle.ghc_console.specs.LineMemory.{BeginsWithAnswer, BlameTakesMemory, KeepsText, after_a_goal, after_a_place, after_a_variable, for_a_text, for_answers}

-- An answer was found among the words, so the first of them is one.
pub answers_begun : (rest words more : List (List ℕ)) (word : List ℕ) (answer : Answer) → (rest ≡ words) ⊎ BeginsWithAnswer words → rest ≡ word ∷ more → Some answer ≡ answer_of word → BeginsWithAnswer words
answers_begun rest words more word answer (inl same) found is = subst BeginsWithAnswer (sym found ∙ same) (answer, sym is)
answers_begun rest words more word answer (inr begins) found is = begins

-- a variable alone, one with a word after it that is none, and one with another variable after it
pub term_alone : (word : List ℕ) (words : List (List ℕ)) → words ≡ [] → blame_of_variable word words ≡ blame_term word (answers_of words)
term_alone word words none = subst (λ (ws : List (List ℕ)). blame_of_variable word ws ≡ blame_term word (answers_of ws)) (sym none) refl

pub term_said : (word next : List ℕ) (words more : List (List ℕ)) → words ≡ next ∷ more → is_variable next ≡ false → blame_of_variable word words ≡ blame_term word (answers_of words)
term_said word next words more found is =
    subst (λ (ws : List (List ℕ)). blame_of_variable word ws ≡ blame_term word (answers_of ws)) (sym found)
    (ap (λ b. cond b (blame_place word next (answers_of more)) (blame_term word (answers_of (next ∷ more)))) is)

pub place_said : (word next : List ℕ) (words more : List (List ℕ)) → words ≡ next ∷ more → is_variable next ≡ true → blame_of_variable word words ≡ blame_place word next (answers_of more)
place_said word next words more found is =
    ap (blame_of_variable word) found ∙ ap (λ b. cond b (blame_place word next (answers_of more)) (blame_term word (answers_of (next ∷ more)))) is

-- what the words after a variable take memory for
pub term_read : {T E : Type 0} (r : Result T E) (word : List ℕ) (words : List (List ℕ)) → is_variable word ≡ true → blame_of_variable word words ≡ blame_term word (answers_of words)
    → OnErr r (BeginsWithAnswer words ⊎ KeepsText (blame_term word (answers_of words))) → OnErr r (BlameTakesMemory (word ∷ words) ⊎ KeepsText (blame_of_variable word words))
term_read (Ok t) word words is said takes = tt
term_read (Err e) word words is said (inl begins) = inl (after_a_variable is begins)
term_read (Err e) word words is said (inr kept) = inr (subst KeepsText (sym said) kept)

pub place_read : {T E : Type 0} (r : Result T E) (word next : List ℕ) (words more : List (List ℕ)) → is_variable word ≡ true → is_variable next ≡ true → words ≡ next ∷ more
    → OnErr r (BeginsWithAnswer more ⊎ KeepsText (blame_place word next (answers_of more))) → OnErr r (BlameTakesMemory (word ∷ words) ⊎ KeepsText (blame_of_variable word words))
place_read (Ok t) word next words more is second found takes = tt
place_read (Err e) word next words more is second found (inl begins) = inl (subst (λ (ws : List (List ℕ)). BlameTakesMemory (word ∷ ws)) (sym found) (after_a_place is second begins))
place_read (Err e) word next words more is second found (inr kept) = inr (subst KeepsText (sym (place_said word next words more found second)) kept)

-- The words after `blame` that begin with a variable.
pub variable_said : (word : List ℕ) (words more : List (List ℕ)) → words ≡ word ∷ more → is_variable word ≡ true → blame_of words ≡ blame_of_variable word more
variable_said word words more found is = ap blame_of found ∙ ap (λ b. cond b (blame_of_variable word more) (blame_goal (goal_name_of word) (answers_of more))) is

pub variable_read : {T E : Type 0} (r : Result T E) (word : List ℕ) (words more : List (List ℕ)) → words ≡ word ∷ more → is_variable word ≡ true
    → OnErr r (BlameTakesMemory (word ∷ more) ⊎ KeepsText (blame_of_variable word more)) → OnErr r (BlameTakesMemory words ⊎ KeepsText (blame_of words))
variable_read (Ok t) word words more found is takes = tt
variable_read (Err e) word words more found is (inl takes) = inl (subst BlameTakesMemory (sym found) takes)
variable_read (Err e) word words more found is (inr kept) = inr (subst KeepsText (sym (variable_said word words more found is)) kept)

-- The words after `blame` that begin with a goal take memory for answers.
pub goal_read : {T E : Type 0} (r : Result T E) (word : List ℕ) (goal : GoalName) (words more : List (List ℕ)) → words ≡ word ∷ more → Some goal ≡ goal_name_of word → BeginsWithAnswer more
    → OnErr r (BlameTakesMemory words ⊎ KeepsText (blame_of words))
goal_read (Ok t) word goal words more found is begins = tt
goal_read (Err e) word goal words more found is begins = inl (subst BlameTakesMemory (sym found) (after_a_goal (sym is) begins))

-- A line that begins with `blame` says what the words after it say.
blame_said : (line : List ℕ) (words : List (List ℕ)) → list_all is_printable line ≡ true → words_of line ≡ codes "blame" ∷ words → command_of line ≡ blame_of words
blame_said line words plain here = ap (λ b. cond b (command_of_words (words_of line) line) Unknown) plain ∙ ap (λ (ws : List (List ℕ)). command_of_words ws line) here

-- So it takes memory for what they take memory for.
pub blame_read : {T E : Type 0} (line name : List ℕ) (words : List (List ℕ)) (r : Result T E) → list_all is_printable line ≡ true → words_of line ≡ name ∷ words → bytes_eq name (codes "blame") ≡ true
    → OnErr r (BlameTakesMemory words ⊎ KeepsText (blame_of words)) → OnErr r (TakesMemory line)
blame_read line name words (Ok t) plain found is takes = tt
blame_read line name words (Err e) plain found is takes =
    let here = found ∙ ap (λ n. n ∷ words) ((bytes_eq-Decides name (codes "blame")).0 is) in
    elim takes [
      | inl answers ↦ for_answers plain here answers
      | inr kept ↦ for_a_text (subst KeepsText (sym (blame_said line words plain here)) kept)
    ]
