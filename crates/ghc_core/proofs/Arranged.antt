-- The record is put into a lawful order.
use Rattle.ghc_core.proofs.Words.{◌≡◌, ℕ, List, sym, subst, Program, StoreValue, Goals, In, AreDistinct, Record, numbers, number_in, number_of, record_once, IsLawful, IsInOrder, GoalNames, NotesByGoal, AreExact, AreLeft, not_both}

-- Where an order is lawful, kept records with its numbers are the record in that order.
pub is_in_order : (kept : List Record) (order : List ℕ) (new : List Record) → AreDistinct (numbers kept) → IsLawful kept order → numbers new ≡ order → ((r : Record) → In r new → In r kept) → IsInOrder kept order new
is_in_order kept order new distinct lawful same of_kept = (
  same,
  λ r. (
    of_kept r,
    λ i.
        let q = number_of new r.number (subst (In r.number) (sym same) (lawful.0.1 r.number (number_in kept r i))) in
        subst (λ z. In z new) (record_once kept q.0 r distinct (of_kept q.0 q.1) i q.2) q.1,
  ),
)

-- Where goals and store stay, all notes stay.
pub all_left : {P : Program} {G : Goals} {store : StoreValue} {notes : NotesByGoal} {untried : GoalNames} → AreExact P G store notes untried → AreLeft G (λ x. ⊥) notes notes
all_left exact g note = (λ k. (k, (λ none. not_both (exact.noted g note k).1 none), λ x never. absurd never), λ k. k.0)
