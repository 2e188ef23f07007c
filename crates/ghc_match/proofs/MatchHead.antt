-- How far the walk over a head has come, and what it has shown at its end.
use Rattle.ghc_match.proofs.Words.{◌≡◌, Bool, false, List, [], ◌∷◌, ◌++◌, zip, sym, subst, variables_of_list, AreDistinct, inl, inr, ◌⊎◌, ◌↔◌, IsTrue, Option, Some, VarName, Tree, variable, In, Variables, IsSetOf, StoreValue, value_at, Clause, StandsFor, Mismatch, HeadWants, Gains, Clashes, Asks, Passed, standing, Opens, HeadLooksAt}
use Rattle.std.specs.FinMap as finite
use Rattle.std.specs.FinSet as set
use Rattle.ghc_match.proofs.WalkedPositions.{Meets, Walked, walk_begins, walk_goes_on}
use Rattle.ghc_match.proofs.MeetingLemmas.{Seen, seen_nothing, seen_on, IsFresh, fresh_first, fresh_on}

-- How far the walk has come: which pairs are done is known, what they have shown, and that the variables ahead are fresh.
pub record HeadSoFar (S : VarName → Option Tree) (hs ts : List Tree) (clashes : Bool) (stands : StoreValue) (wanted looked : Variables) (ahead : List (Tree × Tree)) : Type 0 where
  pub done : List (Tree × Tree)
  pub walked : Walked S hs ts done ahead
  pub seen : Seen S done clashes stands wanted looked
  pub fresh : IsFresh stands ahead

-- nothing is done yet
pub head_begins : (S : VarName → Option Tree) (hs ts : List Tree) (b : Bool) (stands : StoreValue) (wanted looked : Variables)
    → AreDistinct (variables_of_list hs) → b ≡ false → stands ≡ finite.empty → wanted ≡ set.empty → looked ≡ set.empty → HeadSoFar S hs ts b stands wanted looked (zip hs ts)
head_begins S hs ts b stands wanted looked distinct quiet n m k = record {
  done = [];
  walked = walk_begins S hs ts;
  seen = subst (λ c. Seen S [] c stands wanted looked) (sym quiet) (seen_nothing S stands wanted looked n m k);
  fresh = fresh_first hs ts stands distinct n;
}

-- one pair more
pub head_goes_on : (S : VarName → Option Tree) (hs ts : List Tree) (b c : Bool) (stands stands' : StoreValue) (wanted wanted' looked looked' : Variables) (all rest new : List (Tree × Tree)) (q : Tree × Tree)
    → HeadSoFar S hs ts b stands wanted looked all → all ≡ rest ++ q ∷ [] → IsTrue c ↔ (IsTrue b ⊎ Clashes S q.0 q.1) → stands' ≡ standing q.0 q.1 stands
    → Gains wanted wanted' (Asks S q.0 q.1) → Gains looked looked' (Passed S q.0 q.1) → Opens S q.0 q.1 rest new → HeadSoFar S hs ts c stands' wanted' looked' new
head_goes_on S hs ts b c stands stands' wanted wanted' looked looked' all rest new q old is k e g l o =
    let fresh = subst (IsFresh stands) is old.fresh in
    record {
      done = old.done ++ q ∷ [];
      walked = walk_goes_on S hs ts old.done rest new q (subst (Walked S hs ts old.done) is old.walked) o;
      seen = seen_on S old.done rest q b c stands stands' wanted wanted' looked looked' old.seen fresh k e g l;
      fresh = fresh_on S rest new q stands stands' fresh o e;
    }

-- a clash so far is a mismatch
pub clash_found : (c : Clause) (ts : List Tree) (S : VarName → Option Tree) (b : Bool) (stands : StoreValue) (wanted looked : Variables) (ahead : List (Tree × Tree)) → HeadSoFar S c.head ts b stands wanted looked ahead → IsTrue b → Mismatch c ts S
clash_found c ts S b stands wanted looked ahead far i =
    let w = far.seen.clash.0 i in
    let m = far.walked.done_meets w.0 w.1 in
    let k = w.2.1 in
    (m.0, w.0.0, w.0.1, k.0, k.1.0, (m.1, w.2.0), m.2, k.1.1, k.2, k.3)

-- at the end
module _ (c : Clause) (ts : List Tree) (S : VarName → Option Tree) (b : Bool) (stands : StoreValue) (wanted looked : Variables) (end : HeadSoFar S c.head ts b stands wanted looked []) where
  is_done : (h t : Tree) → Meets S c.head ts h t → In {X = Tree × Tree} (h, t) end.done
  is_done h t m = elim (end.walked.covers h t m) [ inl i ↦ i | inr u ↦ absurd u.1 ]

  pub all_clashes : IsTrue b ↔ Mismatch c ts S
  all_clashes = (
    clash_found c ts S b stands wanted looked [] end,
    λ m. end.seen.clash.1 ((m.1, m.2), is_done m.1 m.2 (m.0, m.5.0, m.6), (m.5.1, (m.3, (m.4, m.7), m.8, m.9))),
  )

  pub all_stands : (y : VarName) (t : Tree) → (value_at stands y ≡ Some t) ↔ StandsFor c ts S y t
  all_stands y t = (
    λ e. end.walked.done_meets (variable y, t) ((end.seen.stand y t).0 e),
    λ m. (end.seen.stand y t).1 (is_done (variable y) t m),
  )

  pub all_wanted : IsSetOf wanted (HeadWants c ts S)
  all_wanted x = (
    λ i.
        let w = (end.seen.wants x).0 i in
        let m = end.walked.done_meets w.0 w.1 in
        (m.0, w.0.0, w.0.1, w.2.1.0, (m.1, w.2.0), m.2, w.2.1.1),
    λ m. (end.seen.wants x).1 ((m.1, m.2), is_done m.1 m.2 (m.0, m.4.0, m.5), (m.4.1, (m.3, m.6))),
  )

  pub all_looked : IsSetOf looked (HeadLooksAt c ts S)
  all_looked x = (
    λ i.
        let w = (end.seen.looks x).0 i in
        let m = end.walked.done_meets w.0 w.1 in
        (m.0, w.0.0, w.0.1, (m.1, w.2.0), m.2, w.2.1),
    λ m. (end.seen.looks x).1 ((m.1, m.2), is_done m.1 m.2 (m.0, m.3.0, m.4), (m.3.1, m.5)),
  )
