-- What is known of the reason to stop.
use Rattle.ghc_pool.proofs.Words.{◌≡◌, ◌<◌, ◌++◌, ℕ, zero, suc, List, [], ◌∷◌, length, set, Option, Some, None, inl, inr, sym, ◌∙◌, subst, arith, RoundStop, Memory, Limit, Full, Spied, Clash, Taken, IsReason, Work, joined, IsWell, IsOpen, GoesOn, IsJudged, WentOn, AreOpen, AreFed, OneAsks, AreJudged}
use lib.ListN.{get_or}
use Rattle.ghc_pool.proofs.Wells.{some_none}

module _ (fed : List Taken → Type 0) (asks : List Taken → RoundStop → Type 0) where
  -- a worker that is well is judged by what stopped it
  pub well_judged : (spent : Type 0) (k : Work) (stop : Option RoundStop) → IsWell fed asks k → k.stop ≡ stop → IsJudged fed asks spent stop k
  well_judged spent k None well e = (e, well.left e, subst (λ s. IsReason fed asks s k.taken.items) e well.reason)
  well_judged spent k (Some Memory) well e = tt
  well_judged spent k (Some Limit) well e = absurd (subst (λ s. IsReason fed asks s k.taken.items) e well.reason)
  well_judged spent k (Some Full) well e = subst (λ s. IsReason fed asks s k.taken.items) e well.reason
  well_judged spent k (Some (Spied g)) well e = subst (λ s. IsReason fed asks s k.taken.items) e well.reason
  well_judged spent k (Some (Clash g)) well e = subst (λ s. IsReason fed asks s k.taken.items) e well.reason

  -- only the names taken matter where there is a reason
  pub judged_again : (spent spent' : Type 0) (s : RoundStop) (k l : Work) → l.taken.items ≡ k.taken.items → (spent → spent') → IsJudged fed asks spent (Some s) k → IsJudged fed asks spent' (Some s) l
  judged_again spent spent' Memory k l same more j = tt
  judged_again spent spent' Limit k l same more j = (subst fed (sym same) j.0, more j.1)
  judged_again spent spent' Full k l same more j = subst (λ t. fed t × asks t RoundStop.Full) (sym same) j
  judged_again spent spent' (Spied g) k l same more j = subst (λ t. fed t × asks t (RoundStop.Spied g)) (sym same) j
  judged_again spent spent' (Clash g) k l same more j = subst (λ t. fed t × asks t (RoundStop.Clash g)) (sym same) j

  pub goes_on : {Q : Type 0} (spent : Type 0) (stop next : Option RoundStop) (k l : Work) (p q : Q) → WentOn fed asks spent stop next k l p q → GoesOn fed asks next l
  goes_on spent None None k l p q w = w
  goes_on spent None (Some s) k l p q w = tt
  goes_on spent (Some s) None k l p q w = absurd (some_none s (sym w.0))
  goes_on spent (Some s) (Some t) k l p q w = tt

  pub went_after : {Q : Type 0} (spent : Q → Type 0) (a b c : Option RoundStop) (k l m : Work) (p q r : Q) → WentOn fed asks (spent q) a b k l p q → WentOn fed asks (spent r) b c l m q r → WentOn fed asks (spent r) a c k m p r
  went_after spent None None c k l m p q r v w = w
  went_after spent None (Some s) c k l m p q r v w =
      subst (λ x. IsJudged fed asks (spent r) x m) (sym w.0) (judged_again (spent q) (spent r) s l m w.1 (subst spent (sym w.2)) v)
  went_after spent (Some s) None c k l m p q r v w = absurd (some_none s (sym v.0))
  went_after spent (Some s) (Some t) c k l m p q r v w = (w.0 ∙ v.0, w.1 ∙ v.1, w.2 ∙ v.2)

  -- lists of workers
  open_fed : (ks : List Work) → AreOpen fed asks ks → AreFed fed asks ks
  open_fed [] all = tt
  open_fed (k ∷ ks) all = (all.0.2, open_fed ks all.1)

  open_at : (ks : List Work) (i : ℕ) (d : Work) → i < length ks → AreOpen fed asks ks → IsOpen fed asks (get_or ks i d)
  open_at [] i d low all = absurd (omega (arith, low))
  open_at (k ∷ ks) zero d low all = all.0
  open_at (k ∷ ks) (suc i) d low all = open_at ks i d (omega (arith, low)) all.1

  open_set : (ks : List Work) (i : ℕ) (l : Work) → AreOpen fed asks ks → IsOpen fed asks l → AreOpen fed asks (set ks i l)
  open_set [] i l all is = tt
  open_set (k ∷ ks) zero l all is = (is, all.1)
  open_set (k ∷ ks) (suc i) l all is = (all.0, open_set ks i l all.1 is)

  fed_at : (ks : List Work) (i : ℕ) (d : Work) → i < length ks → AreFed fed asks ks → fed (get_or ks i d).taken.items
  fed_at [] i d low all = absurd (omega (arith, low))
  fed_at (k ∷ ks) zero d low all = all.0
  fed_at (k ∷ ks) (suc i) d low all = fed_at ks i d (omega (arith, low)) all.1

  fed_set : (ks : List Work) (i : ℕ) (l : Work) → AreFed fed asks ks → fed l.taken.items → AreFed fed asks (set ks i l)
  fed_set [] i l all is = tt
  fed_set (k ∷ ks) zero l all is = (is, all.1)
  fed_set (k ∷ ks) (suc i) l all is = (all.0, fed_set ks i l all.1 is)

  asks_set : (ks : List Work) (i : ℕ) (l : Work) (s : RoundStop) → i < length ks → asks l.taken.items s → OneAsks fed asks s (set ks i l)
  asks_set [] i l s low is = absurd (omega (arith, low))
  asks_set (k ∷ ks) zero l s low is = inl is
  asks_set (k ∷ ks) (suc i) l s low is = inr (asks_set ks i l s (omega (arith, low)) is)

  asks_kept : (ks : List Work) (i : ℕ) (d l : Work) (s : RoundStop) → i < length ks → l.taken.items ≡ (get_or ks i d).taken.items → OneAsks fed asks s ks → OneAsks fed asks s (set ks i l)
  asks_kept [] i d l s low same one = absurd (omega (arith, low))
  asks_kept (k ∷ ks) zero d l s low same (inl is) = inl (subst (λ t. asks t s) (sym same) is)
  asks_kept (k ∷ ks) zero d l s low same (inr one) = inr one
  asks_kept (k ∷ ks) (suc i) d l s low same (inl is) = inl is
  asks_kept (k ∷ ks) (suc i) d l s low same (inr one) = inr (asks_kept ks i d l s (omega (arith, low)) same one)

  -- nothing was a reason to stop, and one worker went on
  judged_first : (spent : Type 0) (next : Option RoundStop) (ks : List Work) (i : ℕ) (l : Work) → i < length ks → AreOpen fed asks ks → IsJudged fed asks spent next l → AreJudged fed asks spent next (set ks i l)
  judged_first spent None ks i l low all is = open_set ks i l all is
  judged_first spent (Some Memory) ks i l low all is = tt
  judged_first spent (Some Limit) ks i l low all is = (fed_set ks i l (open_fed ks all) is.0, is.1)
  judged_first spent (Some Full) ks i l low all is = (fed_set ks i l (open_fed ks all) is.0, asks_set ks i l RoundStop.Full low is.1)
  judged_first spent (Some (Spied g)) ks i l low all is = (fed_set ks i l (open_fed ks all) is.0, asks_set ks i l (RoundStop.Spied g) low is.1)
  judged_first spent (Some (Clash g)) ks i l low all is = (fed_set ks i l (open_fed ks all) is.0, asks_set ks i l (RoundStop.Clash g) low is.1)

  -- there was a reason to stop, and one worker took no name
  judged_kept : (spent spent' : Type 0) (s : RoundStop) (ks : List Work) (i : ℕ) (d l : Work) → i < length ks → l.taken.items ≡ (get_or ks i d).taken.items → (spent → spent') → AreJudged fed asks spent (Some s) ks
      → AreJudged fed asks spent' (Some s) (set ks i l)
  judged_kept spent spent' Memory ks i d l low same more j = tt
  judged_kept spent spent' Limit ks i d l low same more j = (fed_set ks i l j.0 (subst fed (sym same) (fed_at ks i d low j.0)), more j.1)
  judged_kept spent spent' Full ks i d l low same more j = (fed_set ks i l j.0 (subst fed (sym same) (fed_at ks i d low j.0)), asks_kept ks i d l RoundStop.Full low same j.1)
  judged_kept spent spent' (Spied g) ks i d l low same more j = (fed_set ks i l j.0 (subst fed (sym same) (fed_at ks i d low j.0)), asks_kept ks i d l (RoundStop.Spied g) low same j.1)
  judged_kept spent spent' (Clash g) ks i d l low same more j = (fed_set ks i l j.0 (subst fed (sym same) (fed_at ks i d low j.0)), asks_kept ks i d l (RoundStop.Clash g) low same j.1)

  pub judged_set : {Q : Type 0} (spent : Q → Type 0) (stop next : Option RoundStop) (ks : List Work) (i : ℕ) (d l : Work) (p q : Q) → i < length ks → WentOn fed asks (spent q) stop next (get_or ks i d) l p q
      → AreJudged fed asks (spent p) stop ks → AreJudged fed asks (spent q) next (set ks i l)
  judged_set spent None next ks i d l p q low w all = judged_first (spent q) next ks i l low all w
  judged_set spent (Some s) next ks i d l p q low w j =
      subst (λ x. AreJudged fed asks (spent q) x (set ks i l)) (sym w.0) (judged_kept (spent p) (spent q) s ks i d l low w.1 (subst spent (sym w.2)) j)

  -- where there is no reason to stop each worker goes on
  pub on_at : (spent : Type 0) (stop : Option RoundStop) (ks : List Work) (i : ℕ) (d : Work) → i < length ks → AreJudged fed asks spent stop ks → GoesOn fed asks stop (get_or ks i d)
  on_at spent None ks i d low all = open_at ks i d low all
  on_at spent (Some s) ks i d low all = tt

  pub judged_more : (spent spent' : Type 0) (stop : Option RoundStop) (ks : List Work) → (spent → spent') → AreJudged fed asks spent stop ks → AreJudged fed asks spent' stop ks
  judged_more spent spent' None ks more j = j
  judged_more spent spent' (Some Memory) ks more j = tt
  judged_more spent spent' (Some Limit) ks more j = (j.0, more j.1)
  judged_more spent spent' (Some Full) ks more j = j
  judged_more spent spent' (Some (Spied g)) ks more j = j
  judged_more spent spent' (Some (Clash g)) ks more j = j

  open_snoc : (ks : List Work) (k : Work) → AreOpen fed asks ks → IsOpen fed asks k → AreOpen fed asks (ks ++ k ∷ [])
  open_snoc [] k all is = (is, tt)
  open_snoc (j ∷ ks) k all is = (all.0, open_snoc ks k all.1 is)

  fed_snoc : (ks : List Work) (k : Work) → AreFed fed asks ks → fed k.taken.items → AreFed fed asks (ks ++ k ∷ [])
  fed_snoc [] k all is = (is, tt)
  fed_snoc (j ∷ ks) k all is = (all.0, fed_snoc ks k all.1 is)

  asks_last : (ks : List Work) (k : Work) (s : RoundStop) → asks k.taken.items s → OneAsks fed asks s (ks ++ k ∷ [])
  asks_last [] k s is = inl is
  asks_last (j ∷ ks) k s is = inr (asks_last ks k s is)

  asks_snoc : (ks : List Work) (k : Work) (s : RoundStop) → OneAsks fed asks s ks → OneAsks fed asks s (ks ++ k ∷ [])
  asks_snoc [] k s one = absurd one
  asks_snoc (j ∷ ks) k s (inl is) = inl is
  asks_snoc (j ∷ ks) k s (inr one) = inr (asks_snoc ks k s one)

  judged_snoc : (s : RoundStop) (ks : List Work) (k : Work) → fed k.taken.items → AreJudged fed asks ⊥ (Some s) ks → AreJudged fed asks ⊥ (Some s) (ks ++ k ∷ [])
  judged_snoc Memory ks k is j = tt
  judged_snoc Limit ks k is j = absurd j.1
  judged_snoc Full ks k is j = (fed_snoc ks k j.0 is, asks_snoc ks k RoundStop.Full j.1)
  judged_snoc (Spied g) ks k is j = (fed_snoc ks k j.0 is, asks_snoc ks k (RoundStop.Spied g) j.1)
  judged_snoc (Clash g) ks k is j = (fed_snoc ks k j.0 is, asks_snoc ks k (RoundStop.Clash g) j.1)

  -- the first worker that stopped
  judged_last : (stop : Option RoundStop) (ks : List Work) (k : Work) → AreOpen fed asks ks → IsJudged fed asks ⊥ stop k → AreJudged fed asks ⊥ stop (ks ++ k ∷ [])
  judged_last None ks k all is = open_snoc ks k all is
  judged_last (Some Memory) ks k all is = tt
  judged_last (Some Limit) ks k all is = absurd is.1
  judged_last (Some Full) ks k all is = (fed_snoc ks k (open_fed ks all) is.0, asks_last ks k RoundStop.Full is.1)
  judged_last (Some (Spied g)) ks k all is = (fed_snoc ks k (open_fed ks all) is.0, asks_last ks k (RoundStop.Spied g) is.1)
  judged_last (Some (Clash g)) ks k all is = (fed_snoc ks k (open_fed ks all) is.0, asks_last ks k (RoundStop.Clash g) is.1)

  pub judged_join : (found stop : Option RoundStop) (ks : List Work) (k : Work) → IsWell fed asks k → k.stop ≡ stop → AreJudged fed asks ⊥ found ks → AreJudged fed asks ⊥ (joined found stop) (ks ++ k ∷ [])
  judged_join None stop ks k well e j = judged_last stop ks k j (well_judged ⊥ k stop well e)
  judged_join (Some s) None ks k well e j = judged_snoc s ks k (well_judged ⊥ k None well e).2 j
  judged_join (Some s) (Some Memory) ks k well e j = tt
  judged_join (Some s) (Some Limit) ks k well e j = absurd (well_judged ⊥ k (Some RoundStop.Limit) well e).1
  judged_join (Some s) (Some Full) ks k well e j = judged_snoc s ks k (well_judged ⊥ k (Some RoundStop.Full) well e).0 j
  judged_join (Some s) (Some (Spied g)) ks k well e j = judged_snoc s ks k (well_judged ⊥ k (Some (RoundStop.Spied g)) well e).0 j
  judged_join (Some s) (Some (Clash g)) ks k well e j = judged_snoc s ks k (well_judged ⊥ k (Some (RoundStop.Clash g)) well e).0 j
