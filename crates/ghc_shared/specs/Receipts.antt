-- What a call does, and what its receipt tells.
use Rattle.std.specs.Prelude.{◌≡◌, ℕ, ◌++◌, List, [], ◌∷◌, length, Bool, MatchBool, Option, Some, None}
use mathlib.Core.List.{IsPrefix}
use Rattle.ghc_shared.specs.declared.receipt.Receipt.{Receipt}
use Rattle.ghc_shared.specs.Passes.{Known}

module _ {E A R : Type 0} (answers : List E → A → R → Option E → Type 0) where
  -- A call that was accepted added one item to the history, and one that was not added none; the reply is one that may be given to it.
  abbrev pub AddsIfAccepted : Bool → List E → List E → A → R → Type 0
  AddsIfAccepted accepted old new ask reply =
      MatchBool accepted ((item : E) × (new ≡ old ++ item ∷ []) × answers old ask reply (Some item)) ((new ≡ old) × answers old ask reply None)

  -- The call was accepted after these items: it is the last item that the pass has seen, and its place is one more of the pass's.
  pub record IsAcceptedCall (before : List E) (ask : A) (reply : R) (place : ℕ) (old new : Known E) : Type 0 where
    pub item : E
    pub front : new.front ≡ before ++ item ∷ []
    pub answer : answers before ask reply (Some item)
    pub places : new.places ≡ old.places ++ place ∷ []

  -- The call was refused after these items: the pass has seen them and no more, and its places are as they were.
  pub record IsRefusedCall (before : List E) (ask : A) (reply : R) (old new : Known E) : Type 0 where
    pub front : new.front ≡ before
    pub answer : answers before ask reply None
    pub places : new.places ≡ old.places

  -- The call was decided after these items, which begin with all that the pass had seen, and the receipt tells how many they are.
  pub record IsDecided (before : List E) (ask : A) (receipt : Receipt R) (old new : Known E) : Type 0 where
    pub seen : IsPrefix old.front before
    pub place : receipt.place ≡ length before
    pub decided : MatchBool receipt.accepted (IsAcceptedCall before ask receipt.reply receipt.place old new) (IsRefusedCall before ask receipt.reply old new)
