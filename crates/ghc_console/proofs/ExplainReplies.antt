-- What a reply says of a slice, and of who holds a variable.
use Rattle.ghc_console.proofs.CitedWords.{◌≡◌, ◌≢◌, ◌++◌, sym, subst, ◌∙◌, ℕ, List, None, Some, Record}
use Rattle.std.proofs.Common.{append_assoc}
use Rattle.std.specs.FinMap as finite
use Rattle.ghc_term.specs.Lists.{In}
use Rattle.ghc_records.proofs.OrderLemmas.{number_of}
use Rattle.ghc_records.specs.Orders.{Picks}
use Rattle.ghc_records.specs.Record.{State, numbers}
use Rattle.ghc_depend.proofs.Picking.{picks_in}
use Rattle.ghc_depend.specs.Depend.{IsKeptAs}
use Rattle.ghc_trace.specs.declared.holding.Holder.{Holder}
use Rattle.ghc_trace.specs.Holding.{IsReaching}

-- the steps of a slice are kept
pub told_kept : (kept : List Record) {D : Record → Type 0} (found : List Record) (told : List ℕ) → Picks D kept found → numbers found ≡ told → (n : ℕ) → In n told → (r : Record) × IsKeptAs kept n r
told_kept kept found told picked is n i =
    let q = number_of found n (subst (λ ns. In n ns) (sym is) i) in
    (q.0, ((picks_in kept found q.0 picked q.1).0, q.2))

-- a holder's goal is there
pub reaching_there : (t : State) (h : Holder) → IsReaching t h → finite.get t.goals h.goal ≢ None
reaching_there t h q none =
    let never : None ≡ Some q.0 = sym none ∙ q.1 in
    cc

-- what is written one after another
pub joined : (a b c d : List ℕ) → ((a ++ b) ++ c) ++ d ≡ a ++ (b ++ (c ++ d))
joined a b c d = append_assoc (a ++ b) c d ∙ append_assoc a b (c ++ d)
