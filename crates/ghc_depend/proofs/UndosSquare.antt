-- Two undos make a square.
use Rattle.ghc_depend.proofs.Words.{◌≡◌, List, [], ◌∷◌, sym, inl, inr, In, Record, Picks, nothing, leave, is_before, before_is}
use Rattle.ghc_records.specs.Orders.{take}
use Rattle.ghc_depend.specs.Depend.{Follows, directly, further}
use Rattle.ghc_depend.specs.Kept.{IsWithout}
use Rattle.ghc_depend.specs.Laws.{StaysFree, UndosSquare}
use Rattle.ghc_depend.proofs.Picking.{picks_has, picks_order}

-- what was taken out in one order, is taken out in the other
swapped : (a b : Record) (kept left_a left_b left : List Record) → IsWithout kept a left_a → IsWithout kept b left_b → IsWithout left_a b left → IsWithout left_b a left
swapped a b [] la lb left nothing nothing nothing = nothing
swapped a b (r ∷ rs) la lb left (take na p) (take nb q) (take mb o) = take na (swapped a b rs _ _ _ p q o)
swapped a b (r ∷ rs) la lb left (take na p) (take nb q) (leave mb o) = absurd (mb nb)
swapped a b (r ∷ rs) la lb left (take na p) (leave nb q) (take mb o) = absurd (nb mb)
swapped a b (r ∷ rs) la lb left (take na p) (leave nb q) (leave mb o) = swapped a b rs _ _ _ p q o
swapped a b (r ∷ rs) la lb left (leave na p) (take nb q) o = leave na (swapped a b rs _ _ _ p q o)
swapped a b (r ∷ rs) la lb left (leave na p) (leave nb q) o = swapped a b rs _ _ _ p q o

-- what follows among fewer steps, follows among all
pub follows_more : {P : Record → Type 0} (kept left : List Record) → Picks P kept left → (a b : Record) → Follows left a b → Follows kept a b
follows_more kept left p a b (directly d) = directly (before_is kept a b (picks_order kept left a b p (is_before left a b d.0)), d.1)
follows_more kept left p a b (further {b = m} f d) = further (follows_more kept left p a m f) (before_is kept m b (picks_order kept left m b p (is_before left m b d.0)), d.1)

stays : (kept left : List Record) (a b : Record) → In b kept → ¬ (b ≡ a) → ((c : Record) → ¬ Follows kept b c) → IsWithout kept a left → StaysFree kept left b
stays kept left a b i other free w = record {
  there = elim (picks_has kept left b w i) [ inl j ↦ j | inr n ↦ absurd (n other) ];
  free = λ c f. free c (follows_more kept left w b c f);
}

pub undos : UndosSquare
undos kept left_a left_b left a b i j apart free_a free_b wa wb = (
  stays kept left_a a b j (λ e. apart (sym e)) free_b wa,
  stays kept left_b b a i apart free_a wb,
  (swapped a b kept left_a left_b left wa wb, swapped b a kept left_b left_a left wb wa),
)
