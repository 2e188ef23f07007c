-- Moves up to the next binding.
use Rattle.ghc_unify.proofs.Words.{◌≡◌, ◌<◌, List, [], ◌∷◌, ◌++◌, refl, sym, ap, ◌∙◌, subst, append-nil, Option, reverse, VarName, Tree, StoreValue, value_at, IsAcyclic, name_cmp, Move, Moves, stay, go}
use Rattle.std.specs.FinSet as set
use Rattle.ghc_unify.proofs.Falling.{one_more_move, weights, move_lighter}
use Rattle.ghc_unify.proofs.Growth.{union_none, union_append}
use Rattle.ghc_unify.proofs.Stacks.{reverse_push}

-- no binding so far, with the equations es left of the equations `first`
pub record Quiet (S T : VarName → Option Tree) (first es : List (Tree × Tree)) (init reads : set.FinSet name_cmp) : Type 0 where
  pub read : List VarName
  pub moves : Moves S T first T es [] read
  pub reads_are : reads ≡ set.union init (set.from_list read)

pub quiet : {S T : VarName → Option Tree} {es : List (Tree × Tree)} {init : set.FinSet name_cmp} → Quiet S T es es init init
quiet {init = init} = record { read = []; moves = stay; reads_are = union_none init }

module _ {S T : VarName → Option Tree} {first items : List (Tree × Tree)} (rest : List (Tree × Tree)) {init reads : set.FinSet name_cmp} {l r : Tree}
    (q : Quiet S T first (reverse items) init reads) (e : items ≡ rest ++ (l, r) ∷ []) where
  pub top : reverse items ≡ (l, r) ∷ reverse rest
  top = ap reverse e ∙ reverse_push rest (l, r)

  -- the move on the first of them
  pub next : {U : VarName → Option Tree} {fs : List (Tree × Tree)} {bs : List (VarName × Tree)} {grown : set.FinSet name_cmp}
      → (rs : List VarName) × Move S T ((l, r) ∷ reverse rest) U fs bs rs × (grown ≡ set.union reads (set.from_list rs))
      → (rs : List VarName) × Moves S T first U fs bs rs × (grown ≡ set.union init (set.from_list rs))
  next {U = U} {fs = fs} {bs = bs} s =
      let before = subst (λ z. Moves S T first T z [] q.read) top q.moves in
      let all : Moves S T first U fs (bs ++ []) (q.read ++ (s.0 ++ [])) = one_more_move before (go s.1 stay) in
      (q.read ++ s.0, simp append-nil at all, s.2 ∙ ap (λ z. set.union z (set.from_list s.0)) q.reads_are ∙ union_append init q.read s.0)

  pub gets_lighter : (s : StoreValue) {fs : List (Tree × Tree)} {grown : set.FinSet name_cmp} → value_at s ≡ T → IsAcyclic T
      → (rs : List VarName) × Move S T ((l, r) ∷ reverse rest) T fs [] rs × (grown ≡ set.union reads (set.from_list rs))
      → weights s fs < weights s (reverse items)
  gets_lighter s {fs = fs} is h m = subst (λ z. weights s fs < weights s z) (sym top) (move_lighter m.1 refl s is (subst IsAcyclic (sym is) h))
