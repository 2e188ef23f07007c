-- Lemmas on the names of the variables of a query.
use Rattle.ghc_console.proofs.CitedWords.{◌≡◌, ◌≢◌, ℕ, ◌+◌, ◌<◌, List, length, Some, refl, ap, ◌∙◌, slice_get_within, slice_get-get_or, get_or_from_slice_get, All, HoldsAt, codes, VarName, var_inj as same_parts, asked, IsGivenName}

-- the word at a place of the names names the variable of that place
pub given : (names : List (List ℕ)) (word : List ℕ) (i place : ℕ) → i < length names → HoldsAt (λ name. name ≡ word) names i → word ≢ codes "_" → place ≡ i + 1
    → IsGivenName names word (record { step = 0; place = place })
given names word i place low at named here = (i, slice_get-get_or names i word low ∙ ap Some (at word), named, same_parts (record { step = 0; place = place }) (asked (i + 1)) refl here)

-- a word that is no name names nothing
pub none_given : (names : List (List ℕ)) (word : List ℕ) → All (λ name. name ≢ word) names → (x : VarName) → ¬ IsGivenName names word x
none_given names word none x g = none g.0 word (slice_get_within names g.0 word g.1) (get_or_from_slice_get names g.0 word word g.1)
