-- The numbers of the steps of a world can stand in a line.
use Rattle.ghcdb.proofs.CitedWords.{◌≡◌, ◌<◌, ℕ, zero, suc, List, [], ◌∷◌, inl, inr, refl, subst, arith, Some, All, In, World}
use Rattle.std.specs.FinMap as finite
use Rattle.ghc_records.specs.Record.{Record}
use Rattle.ghc_records.specs.EntryText.{IsNamed}
use Rattle.ghc_records.specs.Numbers.{number_limit}
use Rattle.ghc_records.proofs.OrderLemmas.{number_of}
use Rattle.ghc_depend.specs.Lawful.{IsLawful}
use Rattle.ghc_core.specs.Reached.{Reaches}
use Rattle.ghc_core.proofs.Reaching.{reached_good}
use Rattle.ghc_core.proofs.Replayed.{replayed}

-- what holds of each element holds at each place
pub all_of : {X : Type 0} (P : X → Type 0) (xs : List X) → ((x : X) → In x xs → P x) → All P xs
all_of P [] each k d l = absurd (omega arith)
all_of P (x ∷ xs) each zero d l = each x (inl refl)
all_of P (x ∷ xs) each (suc k) d l = all_of P xs (λ y i. each y (inr i)) k d (omega arith)

module _ (w : World) (at : Reaches w) where
  pub next_named : w.next < number_limit → IsNamed w.next
  next_named small = ((reached_good at).first, omega arith)

  pub kept_named : (r : Record) → In r w.kept → IsNamed r.number
  kept_named r i =
      let good = reached_good at in
      let limit = (replayed at).within in
      (good.positive r i, omega (arith, good.below r i, limit))

  pub shelf_named : (n : ℕ) (r : Record) → finite.get w.shelf n ≡ Some r → IsNamed n
  shelf_named n r e =
      let on = (reached_good at).shelf n r e in
      let limit = (replayed at).within in
      (on.1, omega (arith, on.2, limit))

  pub order_named : (order : List ℕ) → IsLawful w.kept order → (n : ℕ) → In n order → IsNamed n
  order_named order lawful n i =
      let r = number_of w.kept n (lawful.0.0.0 n i) in
      subst IsNamed r.2 (kept_named r.0 r.1)
