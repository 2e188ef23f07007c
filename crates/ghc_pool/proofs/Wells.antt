-- What stays well when a worker goes on.
use Rattle.ghc_pool.proofs.Words.{◌≡◌, ◌⊎◌, ◌≤◌, ◌<◌, ℕ, List, length, Bool, true, false, Some, None, inl, inr, sym, ap, ◌∙◌, subst, arith, vec_capacity, vec_len, RoundStop, Worker, Taken, one_if, IsReason, Work, work_of, DidNothing, KeepsRoom, IsOfferedOrStopped, IsWell}
use Rattle.std.specs.Prelude.{refl}

pub enough : (b : Bool) (permits n : ℕ) → n ≤ one_if b → (b ≡ true → 0 < permits) → n ≤ permits
enough true permits n few some = omega (arith, few, some refl)
enough false permits n few some = omega (arith, few)

pub some_none : {A : Type 0} (x : A) → Some x ≡ None → ⊥
some_none x e = cc

pub offered_after : (u v w : Worker) → IsOfferedOrStopped u v → IsOfferedOrStopped v w → IsOfferedOrStopped u w
offered_after u v w (inl p) (inl q) = inl (q.0 ∙ p.0, q.1 ∙ p.1)
offered_after u v w (inr p) (inl q) = inr (q.1 ∙ p)
offered_after u v w p (inr q) = inr q

module _ (fed : List Taken → Type 0) (asks : List Taken → RoundStop → Type 0) where
  pub well_same : (u v : Worker) → DidNothing u v → IsWell fed asks (work_of u) → IsWell fed asks (work_of v)
  well_same u v same well = record {
    reason = subst (λ t. IsReason fed asks v.stop t) (sym same.taken) (subst (λ s. IsReason fed asks s u.taken.items) (sym same.stop) well.reason);
    left = λ none. ap (λ l. l.items) same.left ∙ well.left (sym same.stop ∙ none);
  }

pub room_same : (u v : Worker) → DidNothing u v → KeepsRoom u v
room_same u v same but room = omega (arith, room, ap (λ l. length l) same.put, ap vec_len same.left, ap vec_capacity same.left)

pub room_after : (u v w : Worker) → KeepsRoom u v → KeepsRoom v w → KeepsRoom u w
room_after u v w p q but room = q but (p but room)
