-- What an event does to a world, one change does, or nothing; and what each change does to opening, journal and next number.
use Rattle.ghc_core.proofs.Words.{◌≡◌, ◌⊎◌, ◌+◌, ◌≤◌, [], ◌∷◌, ◌++◌, refl, sym, ap, subst, inl, inr, arith, Entry, took, redid, reordered, step_of, taken_numbers, Change, Comes as comes, Goes as goes, Reorders as reorders, Coming, Going, Hands, World, CanChange, Changes, entry_of_going, GoalName, Command, Event, note, command, Reply, Obeys, does, refuses, starves, by_command, Says, Answers, makes, says, fails, no_memory, Reaches, from_opening, by_change, IsReachable, at_opening, by_event, with_other_hands}
use Rattle.ghc_core.specs.Proposes as asking

-- The world moved by one change that could be made.
abbrev pub Moves : World → World → Type 0
Moves w v = (change : Change) × CanChange w change × Changes w change v

-- The world is as it was, or moved.
abbrev pub MovesOnce : World → World → Type 0
MovesOnce w v = (v ≡ w) ⊎ Moves w v

-- An event moves the world once, or leaves it.
pub answered_moves : {Starved : Type 0} (w : World) (hands left : Hands) (e : Event) (reply : Reply) (v : World) → Answers Starved w hands e reply v left → MovesOnce w v
answered_moves w hands left e reply v (makes {change = change} has asks can changes told) = inr (change, can, changes)
answered_moves w hands left e reply v a = inl refl

-- What a command does, and what a note says, is an answer to the event.
module _ {Starved : Type 0} {w : World} (hands : Hands) where
  pub obeyed_answers : {c : Command} {reply : Reply} {v : World} → Obeys Starved w c reply v → Answers Starved w hands (command c) reply v hands
  obeyed_answers (does asks can changes told) = makes tt (by_command asks) can changes told
  obeyed_answers (refuses f) = fails tt f
  obeyed_answers (starves starved) = no_memory starved

  pub noted_answers : {g : GoalName} {reply : Reply} → asking.Notes Starved w g reply → Answers Starved w hands (note g) reply w hands
  noted_answers (asking.Notes.tells status) = says tt (Says.tells status)
  noted_answers (asking.Notes.no_goal none) = fails tt (refl, none)
  noted_answers (asking.Notes.no_memory starved) = no_memory starved

-- What events reach, changes reach.
pub reachable_reached : {w : World} {hands : Hands} → IsReachable w hands → Reaches w
reachable_reached (at_opening sound opens empty) = from_opening sound opens
reachable_reached (by_event {w = w} {v = v} {hands = hands} {left = left} e reply r proper a) = elim (answered_moves w hands left e reply v a) [
  | inl same ↦ subst Reaches (sym same) (reachable_reached r)
  | inr m ↦ by_change m.0 (reachable_reached r) m.1 m.2
]
reachable_reached (with_other_hands r empty) = reachable_reached r

-- The entry takes no step, and the next number stays; or it takes the step of the next number.
abbrev pub Numbers : World → Entry → World → Type 0
Numbers w entry v = ((taken_numbers (entry ∷ []) ≡ []) × (v.next ≡ w.next)) ⊎ ((taken_numbers (entry ∷ []) ≡ w.next ∷ []) × (v.next ≡ w.next + 1))

-- The journal has one entry more, and the opening stays.
pub record Enters (w v : World) : Type 0 where
  pub entry : Entry
  pub journal : v.journal ≡ w.journal ++ entry ∷ []
  pub opening : v.opening ≡ w.opening
  pub numbers : Numbers w entry v

-- a change that takes no step
enters_none : (w v u : World) (entry : Entry) → v ≡ u → u.journal ≡ w.journal ++ entry ∷ [] → u.opening ≡ w.opening → taken_numbers (entry ∷ []) ≡ [] → u.next ≡ w.next → Enters w v
enters_none w v u entry e journal opening none next = subst (Enters w) (sym e) (record { entry = entry; journal = journal; opening = opening; numbers = inl (none, next) })

-- A change enters itself.
pub change_enters : (w v : World) (change : Change) → CanChange w change → Changes w change v → Enters w v
change_enters w v (comes Coming.Next r) can e = subst (Enters w) (sym e) (record { entry = took (step_of r); journal = refl; opening = refl; numbers = inr (ap (λ n. n ∷ []) can.0, refl) })
change_enters w v (comes Coming.Shelved r) can e = enters_none w v _ (redid r.number) e refl refl refl refl
change_enters w v (goes Going.Alone gone) can (left, split, (t, run, e)) = enters_none w v _ (entry_of_going Going.Alone gone.first) e refl refl refl refl
change_enters w v (goes Going.Together gone) can (left, split, (t, run, e)) = enters_none w v _ (entry_of_going Going.Together gone.first) e refl refl refl refl
change_enters w v (reorders a) can e = enters_none w v _ (reordered a.order) e refl refl refl refl

-- So the opening stays, and the next number does not go down.
pub opening_stays : (w v : World) (change : Change) → CanChange w change → Changes w change v → v.opening ≡ w.opening
opening_stays w v change can changes = (change_enters w v change can changes).opening

pub next_goes_on : (w v : World) → MovesOnce w v → w.next ≤ v.next
next_goes_on w v (inl same) = let e : v.next ≡ w.next = ap (λ (z : World). z.next) same in omega (arith, e)
next_goes_on w v (inr (change, can, changes)) = omega (arith, (change_enters w v change can changes).numbers)
