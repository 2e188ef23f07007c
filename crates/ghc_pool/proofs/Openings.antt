-- What is known of deques when passes are made.
use Rattle.ghc_pool.proofs.Words.{◌≡◌, None, inl, ℕ, zero, suc, ◌<◌, ◌≤◌, ◌++◌, List, [], ◌∷◌, length, set, drop, refl, sym, ap, ◌∙◌, arith, append-nil, length-append, vec_capacity, Vec, Global, RowsId, worker_deque, stealer_deque, Worker, Victim, weigh, IsVictim, AreVictims, deques, names, own_deques, Owner, IsFresh, AreFresh, AreFreshFrom, deques_of, IsHandful, AreHandfuls, IsStarting, AreNew}
use lib.ListN.{get_or}

abbrev first_or : RowsId × Global → List (RowsId × Global) → RowsId × Global
first_or z [] = z
first_or z (x ∷ xs) = x

abbrev behind : List (RowsId × Global) → List (RowsId × Global)
behind [] = []
behind (x ∷ xs) = xs

pub fresh_from : (k : ℕ) (os : List Owner) → AreFresh (suc k) os → AreFreshFrom 0 k os
fresh_from k [] h = tt
fresh_from k (o ∷ os) h = h

pub fresh_end : (k : ℕ) (os : List Owner) → AreFreshFrom (length os) k os → AreFresh k os
fresh_end k [] h = tt
fresh_end k (o ∷ os) h = (h.0, fresh_end k os h.1)

pub fresh_at : (os : List Owner) (j k : ℕ) (d : Owner) → j < length os → AreFreshFrom j k os → IsFresh (suc k) (get_or os j d)
fresh_at [] j k d low h = absurd (omega (arith, low))
fresh_at (o ∷ os) zero k d low h = h.0
fresh_at (o ∷ os) (suc j) k d low h = fresh_at os j k d (omega (arith, low)) h.1

pub fresh_set : (os : List Owner) (j k : ℕ) (o : Owner) → IsFresh k o → AreFreshFrom j k os → AreFreshFrom (suc j) k (set os j o)
fresh_set [] j k o is h = tt
fresh_set (u ∷ os) zero k o is h = (is, fresh_from k os h.1)
fresh_set (u ∷ os) (suc j) k o is h = (h.0, fresh_set os j k o is h.1)

pub of_set : (os : List Owner) (j : ℕ) (d o : Owner) → j < length os → worker_deque o ≡ worker_deque (get_or os j d) → deques_of (set os j o) ≡ deques_of os
of_set [] j d o low e = refl
of_set (u ∷ os) zero d o low e = ap (λ x. x ∷ deques_of os) e
of_set (u ∷ os) (suc j) d o low e = ap (λ xs. worker_deque u ∷ xs) (of_set os j d o (omega (arith, low)) e)

-- the deque at the place follows those in front of it
pub of_at : (os : List Owner) (j : ℕ) (d : Owner) (ds more : List (RowsId × Global)) → length ds ≡ j → j < length os → deques_of os ≡ ds ++ more → (rest : List (RowsId × Global)) × (deques_of os ≡ (ds ++ worker_deque (get_or os j d) ∷ []) ++ rest)
of_at [] j d ds more len low is = absurd (omega (arith, low))
of_at (o ∷ os) zero d [] more len low is = (deques_of os, refl)
of_at (o ∷ os) zero d (x ∷ ds) more len low is = absurd (omega (arith, len))
of_at (o ∷ os) (suc j) d [] more len low is = absurd (omega (arith, len))
of_at (o ∷ os) (suc j) d (x ∷ ds) more len low is =
    let r = of_at os j d ds more (omega (arith, len)) (omega (arith, low)) (ap behind is) in (r.0, λ i. first i ∷ r.1 i)
  where
    first : worker_deque o ≡ x
    first = ap (first_or x) is

length-of : (os : List Owner) → length (deques_of os) ≡ length os
length-of [] = refl
length-of (o ∷ os) = ap suc (length-of os)

-- as many deques: these are all
pub of_end : (os : List Owner) (ds more : List (RowsId × Global)) → length ds ≡ length os → deques_of os ≡ ds ++ more → ds ≡ deques_of os
of_end os ds [] len is = sym (is ∙ append-nil ds)
of_end os ds (x ∷ more) len is = absurd (omega (arith, len, length-of os, ap (λ l. length l) is, length-append ds (x ∷ more)))

pub victims_more : (vs : List Victim) (v : Victim) → AreVictims vs → IsVictim v → AreVictims (vs ++ v ∷ [])
victims_more [] v h is = (is, tt)
victims_more (u ∷ vs) v h is = (h.0, victims_more vs v h.1 is)

pub deques_more : (vs : List Victim) (v : Victim) → deques (vs ++ v ∷ []) ≡ deques vs ++ stealer_deque v.thief ∷ []
deques_more [] v = refl
deques_more (u ∷ vs) v = ap (λ l. stealer_deque u.thief ∷ l) (deques_more vs v)

pub fresh_more : (os : List Owner) (k : ℕ) (o : Owner) → AreFresh k os → IsFresh k o → AreFresh k (os ++ o ∷ [])
fresh_more [] k o h is = (is, tt)
fresh_more (u ∷ os) k o h is = (h.0, fresh_more os k o h.1 is)

pub length-deques : (vs : List Victim) → length (deques vs) ≡ length vs
length-deques [] = refl
length-deques (v ∷ vs) = ap suc (length-deques vs)

-- the first deque and the others
pub first_fresh : (os : List Owner) (k : ℕ) (d : Owner) → 0 < length os → AreFresh k os → IsFresh k (get_or os 0 d) × AreFresh k (drop 1 os) × (deques_of os ≡ worker_deque (get_or os 0 d) ∷ deques_of (drop 1 os))
first_fresh [] k d low h = absurd (omega (arith, low))
first_fresh (o ∷ os) k d low h = (h.0, h.1, refl)

pub handfuls_more : (ds : List (RowsId × Global)) (vs : List (Vec Victim)) (v : Vec Victim) → AreHandfuls ds vs → IsHandful ds v.items → AreHandfuls ds (vs ++ v ∷ [])
handfuls_more ds [] v h is = (is, tt)
handfuls_more ds (u ∷ vs) v h is = (h.0, handfuls_more ds vs v h.1 is)

pub handfuls_cut : (ds : List (RowsId × Global)) (vs : List (Vec Victim)) (v : Vec Victim) → AreHandfuls ds (vs ++ v ∷ []) → IsHandful ds v.items × AreHandfuls ds vs
handfuls_cut ds [] v h = (h.0, tt)
handfuls_cut ds (u ∷ vs) v h = let r = handfuls_cut ds vs v h.1 in (r.0, (h.0, r.1))

pub new_more : (k : ℕ) (ds : List (RowsId × Global)) (ws : List Worker) (w : Worker) → AreNew k ds ws → IsStarting k ds w → w.offered.items ≡ [] → AreNew k ds (ws ++ w ∷ [])
new_more k ds [] w h is none = (is, none, tt)
new_more k ds (v ∷ ws) w h is none = (h.0, h.1, new_more k ds ws w h.2 is none)

pub own_more : (ws : List Worker) (w : Worker) (more : List (RowsId × Global)) → own_deques (ws ++ w ∷ []) ++ more ≡ own_deques ws ++ worker_deque w.owner ∷ more
own_more [] w more = refl
own_more (v ∷ ws) w more = ap (λ l. worker_deque v.owner ∷ l) (own_more ws w more)

-- a worker that did nothing so far
pub new_worker : (k : ℕ) (ds : List (RowsId × Global)) (w : Worker) → 0 < k → IsFresh k w.owner → IsHandful ds w.victims.items → w.offered.items ≡ [] → w.taken.items ≡ [] → w.left.items ≡ [] → 1 ≤ vec_capacity w.left → w.stop ≡ None → IsStarting k ds w
new_worker k ds w some fresh hand offered taken left room stop = record {
  able = record { fifo = fresh.0; some_part = omega (arith, some, ap (λ v. v.parts) fresh.1); others = hand.each; offers = omega (arith, ap (λ v. length v.put) fresh.1) };
  balanced = λ h. omega (arith, ap (λ l. weigh h l) offered, ap (λ v. weigh h v.got) fresh.1, ap (λ v. weigh h v.put) fresh.1, hand.none h, ap (λ l. weigh h (names l)) taken, ap (λ l. weigh h l) left);
  room = omega (arith, ap (λ v. length v.put) fresh.1, w.left.ok.0, ap (λ l. length l) left, room);
  parts = ap (λ v. v.parts) fresh.1;
  others = hand.those;
  taken = taken;
  stop = inl (stop, left);
}
