-- What is gathered word by word: numbers, or answers.
use Rattle.ghc_console.proofs.CitedWords.{◌≡◌, ◌⊎◌, ◌∙◌, inl, inr, ℕ, List, [], ◌∷◌, ◌++◌, refl, sym, ap, subst, append_assoc, append-nil, Option, Some, None, BeginsWithNumber, in_front, number_of}

-- what is still to come, after what is there
abbrev pub behind : {X : Type 0} → List X → Option (List X) → Option (List X)
behind there None = None
behind there (Some more) = Some (there ++ more)

pub one_more : {X : Type 0} (there : List X) (x : X) (more : Option (List X)) → behind there (in_front (Some x) more) ≡ behind (there ++ x ∷ []) more
one_more there x None = refl
one_more there x (Some more) = ap Some (sym (append_assoc there (x ∷ []) more))

pub all_there : {X : Type 0} (there : List X) → behind there (Some []) ≡ Some there
all_there there = ap Some (append-nil there)

pub none_there : {X : Type 0} (more : Option (List X)) → behind [] more ≡ more
none_there None = refl
none_there (Some more) = refl

-- A number was found among the words, so the first of them is one.
pub begun : (rest words more : List (List ℕ)) (word : List ℕ) (n : ℕ) → (rest ≡ words) ⊎ BeginsWithNumber words → rest ≡ word ∷ more → Some n ≡ number_of word → BeginsWithNumber words
begun rest words more word n (inl same) found is = subst BeginsWithNumber (sym found ∙ same) (n, sym is)
begun rest words more word n (inr begins) found is = begins
