-- Which names stand over which arguments in the grammar.
use Rattle.ghc_term.proofs.Words.{◌≡◌, ◌≢◌, ℕ, ◌+◌, ◌≤◌, true, false, nat_eq, List, [], ◌∷◌, length, refl, sym, ap, inl, inr, arith, nat_tests, codes, bytes_eq, if◌then◌else◌, Tree, trees, is_cell, IsNameText, IsHead, marks_at, opened_at, own_bytes, own_nesting, last_place, Place, Alone, Rest}
use Rattle.ghc_term.proofs.Goals.{list_of-trees}

pub is_cell_by_count : (f : List ℕ) (ts : List Tree) → bytes_eq f (codes ".") ≡ true → nat_eq (length ts) 2 ≡ is_cell f (trees ts)
is_cell_by_count f (t ∷ (u ∷ [])) e = sym e
is_cell_by_count f (t ∷ (u ∷ (v ∷ ts))) e = grind (arith, nat_tests)
is_cell_by_count f ts e = refl

pub head_parts : (f : List ℕ) (ts : List Tree) → ts ≢ [] → is_cell f (trees ts) ≡ false → IsHead f (trees ts) → IsNameText f × (length ts ≤ 255)
head_parts f [] n e h = absurd (n refl)
head_parts f (t ∷ ts) n e (inl z) = cc
head_parts f (t ∷ ts) n e (inr (inl z)) = cc
head_parts f (t ∷ ts) n e (inr (inr p)) = (p.0, omega (arith, p.1, ap length (list_of-trees ts)))

pub head_whole : (f : List ℕ) (ts : List Tree) → IsNameText f → length ts ≤ 255 → IsHead f (trees ts)
head_whole f ts n h = inr (inr (n, omega (arith, h, ap length (list_of-trees ts))))

module _ (p : Place) (f : List ℕ) (ts : List Tree) (e : is_cell f (trees ts) ≡ false) where
  pub plain_last : Alone ≡ last_place f (trees ts)
  plain_last = sym (ap (λ b. if b then Rest else Alone) e)

  pub plain_own_bytes : own_bytes p f (trees ts) ≡ length f + 2 + marks_at p
  plain_own_bytes = ap (λ b. if b then 0 else length f + 2 + marks_at p) e

  pub plain_own_nesting : own_nesting p f (trees ts) ≡ 1
  plain_own_nesting = ap (λ b. if b then opened_at p else 1) e
