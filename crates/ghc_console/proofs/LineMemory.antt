-- When reading a line takes memory.
use Rattle.ghc_console.proofs.CitedWords.{◌≡◌, ◌∙◌, ℕ, true, ap, List, ◌∷◌, Result, Ok, Err, OnErr, bytes_eq, codes, list_all, bytes_eq-Decides, is_printable, words_of, BeginsWithNumber, TakesMemory, for_numbers}

-- An order takes memory from its first number on.
pub order_read : {T E : Type 0} (line name : List ℕ) (words : List (List ℕ)) (r : Result T E) → list_all is_printable line ≡ true → words_of line ≡ name ∷ words → bytes_eq name (codes "arrange") ≡ true
    → OnErr r (BeginsWithNumber words) → OnErr r (TakesMemory line)
order_read line name words (Ok t) plain found is begins = tt
order_read line name words (Err e) plain found is begins = for_numbers plain (found ∙ ap (λ n. n ∷ words) ((bytes_eq-Decides name (codes "arrange")).0 is)) begins
