-- What a run adds to the record and the journal.
use Rattle.ghc_pool.proofs.Words.{◌≡◌, ℕ, List, [], ◌∷◌, ◌++◌, map, refl, sym, ap, ◌∙◌, subst, inl, inr, arith, append_assoc, append-nil, length-append, Some, None, map-append, Option, GoalName, in_left, in_either, Record, Entry, took, step_of, Descends, itself, made_by, NotesByGoal, World, IsReduction, Spies, IsInQuestion, IsRunStep, at_start, and_tries, and_step, AddsAtTheEnd, RunsAddAtTheEnd, RunsReduce}

-- the entry of a step that was taken
abbrev entry : Record → Entry
entry r = took (step_of r)

pub adds_at_the_end : RunsAddAtTheEnd
adds_at_the_end workers spies root w first v last steps at_start =
    record { kept = sym (append-nil w.kept); journal = sym (append-nil w.journal); next = omega arith; shelf = refl; opening = refl }
adds_at_the_end workers spies root w first v last steps (and_tries {notes = notes} more t kept) = adds_at_the_end workers spies root w first v notes steps t
adds_at_the_end workers spies root w first v last steps (and_step {steps = front} {v = u} {notes = notes} r left t s spared) =
    let before : AddsAtTheEnd w front u = adds_at_the_end workers spies root w first u notes front t in
    record {
      kept = ap (λ l. l ++ r ∷ []) before.kept ∙ append_assoc w.kept front (r ∷ []);
      journal = ap (λ l. l ++ entry r ∷ []) before.journal ∙ append_assoc w.journal (map entry front) (entry r ∷ []) ∙ ap (λ l. w.journal ++ l) (sym (map-append entry front (r ∷ [])));
      next = let less = before.next in let long = length-append front (r ∷ []) in omega (arith, less, long);
      shelf = before.shelf;
      opening = before.opening;
    }

-- what descends from the root still does so where more is kept
grows : {rs : List Record} {root g : GoalName} (more : List Record) → Descends rs root g → Descends (rs ++ more) root g
grows more itself = itself
grows {rs = rs} more (made_by r i m e d) = made_by r (in_left rs more r i) m e (grows more d)

pub still_in_question : (root : Option GoalName) (kept more : List Record) (g : GoalName) → IsInQuestion root kept g → IsInQuestion root (kept ++ more) g
still_in_question None kept more g q = tt
still_in_question (Some named) kept more g q = grows more q

reduces_one : {workers : ℕ} {spies : Spies} {root : Option GoalName} {w : World} {notes : NotesByGoal} {r : Record} → IsRunStep workers spies root w notes r → IsReduction r.act
reduces_one s = let commit = s.taken.2 in subst IsReduction (sym commit.3) commit.0.1

pub named_one : {workers : ℕ} {spies : Spies} {root : Option GoalName} {w : World} {notes : NotesByGoal} {r : Record} → (s : IsRunStep workers spies root w notes r) → r.goal ≡ Some s.goal
named_one s = s.taken.2.2 ∙ ap Some s.taken.1.3.0

pub reduces : RunsReduce
reduces workers spies root w first v last steps at_start r i = absurd i
reduces workers spies root w first v last steps (and_tries {notes = notes} more t kept) r i = reduces workers spies root w first v notes steps t r i
reduces workers spies root w first v last steps (and_step {steps = front} {v = u} {notes = notes} q left t s spared) r i =
    elim (in_either front (q ∷ []) r i) [
      | inl old ↦ let before = reduces workers spies root w first u notes front t r old in (before.0, (before.1.0, before.1.1, still_in_question root u.kept (q ∷ []) before.1.0 before.1.2))
      | inr new ↦ elim new [
        | inl is ↦ (
          subst (λ (z : Record). IsReduction z.act) (sym is) (reduces_one s),
          (s.goal, subst (λ (z : Record). z.goal ≡ Some s.goal) (sym is) (named_one s), still_in_question root u.kept (q ∷ []) s.goal s.asked),
        )
        | inr none ↦ absurd none
      ]
    ]
