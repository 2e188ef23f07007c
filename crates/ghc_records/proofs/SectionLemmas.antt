-- Lemmas on sections of a text.
use Rattle.ghc_records.proofs.Words.{◌≡◌, ℕ, ◌+◌, ◌<◌, List, [], ◌∷◌, ◌++◌, drop, length, refl, sym, ap, ◌∙◌, subst, arith, inl, inr, length-append, IsLineOf, pieces_of, TellsItems, TellsNoMoreItems, push_last, push_either}
use Rattle.ghc_records.proofs.CutLemmas.{drop_next, line_is, line_stands}

-- where the first line says nothing, no first line does
pub none_said : {A : Type 0} (Says : List ℕ → A → Type 0) (Fits : A → Type 0) (text line rest : List ℕ) → pieces_of text ≡ line ∷ pieces_of rest
    → ((a : A) → ¬ Says line a) → (other : List ℕ) (a : A) → IsLineOf (pieces_of text) 0 other → Says other a → ¬ Fits a
none_said Says Fits text line rest found none other a stands says fits =
    none a (subst (λ l. Says l a) (line_is (pieces_of text) 0 text line rest other refl found stands) says)

module _ {A : Type 0} (Says : List ℕ → A → Type 0) (Fit : List A → Type 0) where
  -- the first line says an item, and others follow it
  abbrev pub SaysNext : List ℕ → A → List ℕ → Type 0
  SaysNext text a behind = (line : List ℕ) × (pieces_of text ≡ line ∷ pieces_of behind) × Says line a

  -- the first of these pieces are lines that tell the items, so many, and the others are those of the rest
  pub record HasRead (pieces : List (List ℕ)) (index : ℕ) (rest : List ℕ) (items : List A) : Type 0 where
    pub at : drop index pieces ≡ pieces_of rest
    pub all : length items ≡ index
    pub told : TellsItems Says Fit pieces items

  -- at the start nothing was read
  pub nothing_read : (text : List ℕ) (items : List A) → items ≡ [] → Fit [] → HasRead (pieces_of text) 0 text items
  nothing_read text items none fit = record {
    at = refl;
    all = ap length none;
    told = subst (TellsItems Says Fit (pieces_of text)) (sym none) (record { each = λ i a e. cc; fit = fit });
  }

  module _ (pieces : List (List ℕ)) (index : ℕ) (rest : List ℕ) (items : List A) (has : HasRead pieces index rest items) where
    pub at_rest : drop (length items) pieces ≡ pieces_of rest
    at_rest = ap (λ n. drop n pieces) has.all ∙ has.at

    -- one line more tells one item more
    pub one_more_read : (a : A) (behind : List ℕ) → SaysNext rest a behind → Fit (items ++ a ∷ []) → HasRead pieces (index + 1) behind (items ++ a ∷ [])
    one_more_read a behind (line, is, says) fit = record {
      at = drop_next pieces index line (pieces_of behind) (has.at ∙ is);
      all = omega (arith, length-append items (a ∷ []), has.all);
      told = record {
        each = λ i t e. elim (push_either items a t i e) [
          | inl h ↦ has.told.each i t h
          | inr h ↦ (line, subst (λ k. IsLineOf pieces k line) (sym h.0) (line_stands pieces (length items) rest line behind at_rest is), subst (Says line) (sym h.1) says)
        ];
        fit = fit;
      };
    }

    -- where no line tells an item that goes with these, the pieces tell no more
    pub no_more_read : (count : ℕ) → index < count → ((line : List ℕ) (a : A) → IsLineOf (pieces_of rest) 0 line → Says line a → ¬ Fit (items ++ a ∷ [])) → TellsNoMoreItems Says Fit pieces count items
    no_more_read count low none = (
      has.told,
      omega (arith, low, has.all),
      λ a told. let k = told.each (length items) a (push_last items a) in none k.0 a (k.1.0, k.1.1, sym at_rest ∙ k.1.2) k.2 told.fit,
    )
