-- The front of a text that was taken from a reader.
use Rattle.ghcdb.proofs.CitedWords.{Option, ◌≡◌, ◌≤◌, ℕ, List, None, Some, IfSome, sym, ap, ◌∙◌, length, take, take_all, take-append-le, Consumes, IsAtEnd, Consumes-whole}

-- bytes that were taken up to the end are a front of any length that they do not pass
pub front_at_end : (a b : Option (List ℕ)) (bytes : List ℕ) (n : ℕ) → Consumes a b bytes → IsAtEnd b → length bytes ≤ n → IfSome a (λ whole. bytes ≡ take n whole)
front_at_end a b bytes n taken ended short = Consumes-whole a b bytes (λ whole. bytes ≡ take n whole) taken ended (sym (take_all n bytes short))

-- bytes that were taken are the front of their length
pub front_in_full : (a b : Option (List ℕ)) (bytes : List ℕ) (n : ℕ) → Consumes a b bytes → length bytes ≤ n → n ≤ length bytes → IfSome a (λ whole. bytes ≡ take n whole)
front_in_full None b bytes n taken short long = tt
front_in_full (Some x) None bytes n taken short long = absurd taken
front_in_full (Some x) (Some y) bytes n taken short long = sym (ap (take n) taken ∙ take-append-le n bytes y long ∙ take_all n bytes short)
