-- What a worker's steps leave.
use Rattle.ghc_pool.proofs.Words.{◌≡◌, ℕ, zero, suc, ◌+◌, ◌<◌, ◌++◌, List, [], ◌∷◌, length, set, refl, sym, ap, ◌∙◌, arith, append_assoc, append-nil, vec_len, with_item, stealer_deque, view, GoalName, Victim, Worker, Taken, submits_in, weigh, IsVictim, AreVictims, deques, stolen, names, submits, IsAble, Keeps, DidNothing}
use mathlib.Core.List.{IsPrefix}
use lib.ListN.{get_or}
use Rattle.ghc_pool.proofs.Moves.{weigh-append}

pub victim_at : (vs : List Victim) (i : ℕ) (d : Victim) → i < length vs → AreVictims vs → IsVictim (get_or vs i d)
victim_at [] i d low all = absurd (omega (arith, low))
victim_at (v ∷ vs) zero d low all = all.0
victim_at (v ∷ vs) (suc i) d low all = victim_at vs i d (omega (arith, low)) all.1

pub victims_set : (vs : List Victim) (i : ℕ) (w : Victim) → AreVictims vs → IsVictim w → AreVictims (set vs i w)
victims_set [] i w all is = tt
victims_set (v ∷ vs) zero w all is = (is, all.1)
victims_set (v ∷ vs) (suc i) w all is = (all.0, victims_set vs i w all.1 is)

pub deques_set : (vs : List Victim) (i : ℕ) (d w : Victim) → i < length vs → stealer_deque w.thief ≡ stealer_deque (get_or vs i d).thief → deques (set vs i w) ≡ deques vs
deques_set [] i d w low e = refl
deques_set (v ∷ vs) zero d w low e = ap (λ x. x ∷ deques vs) e
deques_set (v ∷ vs) (suc i) d w low e = ap (λ xs. stealer_deque v.thief ∷ xs) (deques_set vs i d w (omega (arith, low)) e)

pub stolen_set : (h : GoalName → ℕ) (vs : List Victim) (i : ℕ) (d w : Victim) (k : ℕ) → i < length vs → weigh h (view w.pass).got ≡ weigh h (view (get_or vs i d).pass).got + k → stolen h (set vs i w) ≡ stolen h vs + k
stolen_set h [] i d w k low e = absurd (omega (arith, low))
stolen_set h (v ∷ vs) zero d w k low e = omega (arith, e)
stolen_set h (v ∷ vs) (suc i) d w k low e = omega (arith, stolen_set h vs i d w k (omega (arith, low)) e)

pub prefix_same : (xs : List GoalName) → IsPrefix xs xs
prefix_same xs = ([], append-nil xs)

pub prefix_after : (xs ys zs : List GoalName) → IsPrefix xs ys → IsPrefix ys zs → IsPrefix xs zs
prefix_after xs ys zs p q = (p.0 ++ q.0, sym (append_assoc xs p.0 q.0) ∙ ap (λ l. l ++ q.0) p.1 ∙ q.1)

pub keeps_after : (a b c : List GoalName) (u v w : Worker) → Keeps a b u v → Keeps b c v w → Keeps a c u w
keeps_after a b c u v w p q = record {
  able = q.able;
  balance = λ h. omega (arith, p.balance h, q.balance h);
  own = q.own ∙ p.own;
  parts = q.parts ∙ p.parts;
  others = q.others ∙ p.others;
  begins = prefix_after _ _ _ p.begins q.begins;
}

pub nothing_after : {u v w : Worker} → DidNothing u v → DidNothing v w → DidNothing u w
nothing_after p q = record { offered = q.offered ∙ p.offered; taken = q.taken ∙ p.taken; more = omega (arith, p.more, q.more); left = q.left ∙ p.left; stop = q.stop ∙ p.stop; put = q.put ∙ p.put }

-- the worker, with another victim at the place
abbrev pub with_victim : Worker → ℕ → Victim → Worker
with_victim w i v = record { owner = w.owner; victims = with_item w.victims i v; offered = w.offered; taken = w.taken; left = w.left; stop = w.stop }

-- what was stolen is in the worker's hand
pub stole : (w : Worker) (i : ℕ) (d v : Victim) (xs : List GoalName) → i < vec_len w.victims → IsAble w → IsVictim v → stealer_deque v.thief ≡ stealer_deque (get_or w.victims.items i d).thief → (view v.pass).got ≡ (view (get_or w.victims.items i d).pass).got ++ xs
    → Keeps [] xs w (with_victim w i v)
stole w i d v xs low is victim same got =
    let inside : i < length w.victims.items = omega (arith, w.victims.ok.0, low) in
    record {
      able = record { fifo = is.fifo; some_part = is.some_part; others = victims_set w.victims.items i v is.others victim; offers = is.offers };
      balance = λ h. omega (arith, stolen_set h w.victims.items i d v (weigh h xs) inside (ap (λ l. weigh h l) got ∙ weigh-append h (view (get_or w.victims.items i d).pass).got xs));
      own = refl;
      parts = refl;
      others = deques_set w.victims.items i d v inside same;
      begins = prefix_same w.offered.items;
    }

pub names-append : (xs : List Taken) (x : Taken) → names (xs ++ x ∷ []) ≡ names xs ++ x.0 ∷ []
names-append [] x = refl
names-append (y ∷ xs) x = ap (λ l. y.0 ∷ l) (names-append xs x)

pub submits-append : (xs : List Taken) (x : Taken) → submits (xs ++ x ∷ []) ≡ submits xs + submits_in x.1
submits-append [] x = omega arith
submits-append (y ∷ xs) x = omega (arith, submits-append xs x)
