-- Entries are carried out by the changes that enter them, and each is carried out in one way.
use Rattle.ghc_core.proofs.Words.{◌≡◌, ◌≢◌, ℕ, List, [], ◌∷◌, ◌++◌, refl, sym, append_cancel_left, ap, ◌∙◌, subst, Fault, Record, Step, Entry, took, undid, rolled, redid, reordered, step_of, Change, Comes as comes, Goes as goes, Reorders as reorders, Coming, Going, no_hands, World, IsNextStep, with_step, CanChange, Changes, entry_of_going, IsStanding, Command, undo, roll, redo, arrange, command, refused, Asks, to_undo, to_roll, to_redo, to_arrange, told_of, Fails, by_command, makes, fails, IsAskedFor, CarriesOut, IsRefusedEntry}
use Rattle.ghc_core.proofs.Answering.{events_once}
use Rattle.ghc_core.proofs.Histories.{change_entered, entered_moves}
use Rattle.ghc_core.proofs.Standing.{standing_apart}
use Rattle.ghc_core.proofs.Taking.{reached_reachable}

-- the entry that a change enters
abbrev pub entered_by : Change → Entry
entered_by (comes Coming.Next r) = took (step_of r)
entered_by (comes Coming.Shelved r) = redid r.number
entered_by (goes how gone) = entry_of_going how gone.first
entered_by (reorders a) = reordered a.order

pub enters_own : (w v : World) (change : Change) → CanChange w change → Changes w change v → v.journal ≡ w.journal ++ entered_by change ∷ []
enters_own w v (goes how gone) can (left, split, (t, run, e)) = ap (λ (z : World). z.journal) e
enters_own w v (comes Coming.Next r) can e = ap (λ (z : World). z.journal) e
enters_own w v change can e = ap (λ (z : World). z.journal) e

-- Some change that can be made leads from the world w to v, and enters the entry.
abbrev pub IsChangeOf : World → Entry → World → Type 0
IsChangeOf w entry v = (change : Change) × CanChange w change × Changes w change v × (entered_by change ≡ entry)

-- An entry is carried out by a change that enters it.
pub carried_by : (w v : World) (entry : Entry) → CarriesOut w entry v → IsChangeOf w entry v
carried_by w v entry (reply, n) =
    let (change, can, changes) = entered_moves w v entry reply n in
    let last : entered_by change ∷ [] ≡ entry ∷ [] = append_cancel_left w.journal _ _ (sym (enters_own w v change can changes) ∙ n.4) in
    (change, can, changes, (let same : entered_by change ≡ entry = cc in same))

-- A change carries out what it enters.
pub carries : (w v : World) (entry : Entry) → IsStanding w → IsChangeOf w entry v → CarriesOut w entry v
carries w v entry s (change, can, changes, is) = change_entered w v change (standing_apart w s) can changes entry (enters_own w v change can changes ∙ ap (λ e. w.journal ++ e ∷ []) is)

-- A step is carried out as the next one.
pub step_carried : (w v : World) (s : Step) (r : Record) → IsStanding w → IsNextStep w r → step_of r ≡ s → v ≡ with_step r w → CarriesOut w (took s) v
step_carried w v s r standing next is e = carries w v (took s) standing (comes Coming.Next r, next, e, ap took is)

step_added : (w v : World) (s : Step) (change : Change) → CanChange w change → Changes w change v → entered_by change ≡ took s → (r : Record) × (step_of r ≡ s) × IsNextStep w r
step_added w v s (comes Coming.Next r) can changes e = (r, (let same : step_of r ≡ s = cc in same), can)
step_added w v s (goes Going.Alone gone) can changes e = cc
step_added w v s change can changes e = cc

-- A step that is not possible as the next one is refused.
pub step_refused : (w : World) (s : Step) → ((r : Record) → step_of r ≡ s → ¬ IsNextStep w r) → IsRefusedEntry w (took s)
step_refused w s never v carried =
    let by = carried_by w v (took s) carried in
    let (r, is, next) = step_added w v s by.0 by.1 by.2 by.3 in
    never r is next

-- The command is that of an entry that takes no step.
pub data IsCommandOf : Entry → Command → Type 0 where
  for_undo : {n : ℕ} → IsCommandOf (undid n) (undo n)
  for_roll : {n : ℕ} → IsCommandOf (rolled n) (roll n)
  for_redo : {n : ℕ} → IsCommandOf (redid n) (redo n)
  for_arrange : {ns : List ℕ} → IsCommandOf (reordered ns) (arrange ns)

-- The change for which it asks enters the entry.
asks_enters : {entry : Entry} {c : Command} {change : Change} → IsCommandOf entry c → Asks c change → entered_by change ≡ entry
asks_enters for_undo (to_undo e) = ap undid e
asks_enters for_roll (to_roll e) = ap rolled e
asks_enters for_redo (to_redo e) = ap redid e
asks_enters for_arrange (to_arrange e) = ap reordered e

-- Of a change that enters the entry, the command asks for it.
enters_asks : {c : Command} (change : Change) → IsCommandOf (entered_by change) c → Asks c change
enters_asks (comes Coming.Next r) of = elim of [ ]
enters_asks (comes Coming.Shelved r) for_redo = to_redo refl
enters_asks (goes Going.Alone gone) for_undo = to_undo refl
enters_asks (goes Going.Together gone) for_roll = to_roll refl
enters_asks (reorders a) for_arrange = to_arrange refl

-- What a command asks for carries out its entry.
pub command_carried : {w v : World} {entry : Entry} {c : Command} {T : Type 0} → IsCommandOf entry c → IsStanding w
    → (T → (change : Change) × IsAskedFor w c change × Changes w change v) → T → CarriesOut w entry v
command_carried {w} {v} {entry} of s by t = let (change, (asks, can), changes) = by t in carries w v entry s (change, can, changes, asks_enters of asks)

-- Where it asks for nothing that can be made, its entry is refused.
pub command_refused : {w : World} {entry : Entry} {c : Command} {T : Type 0} → IsCommandOf entry c
    → (T → (change : Change) (v : World) → IsAskedFor w c change → ¬ Changes w change v) → T → IsRefusedEntry w entry
command_refused {w} {entry} {c} of never t v carried =
    let by = carried_by w v entry carried in
    never t by.0 v (enters_asks by.0 (subst (λ e. IsCommandOf e c) (sym by.3) of), by.1) by.2

told_not_refused : (change : Change) (f : Fault) → told_of change ≢ refused f
told_not_refused (comes from r) f e = cc
told_not_refused change f e = cc

-- A command that is refused asks for nothing that can be made.
pub refused_asks_nothing : (w : World) → IsStanding w → (c : Command) (f : Fault) → Fails w c f → (change : Change) (v : World) → IsAskedFor w c change → ¬ Changes w change v
refused_asks_nothing w s c f because change v (asks, can) changes =
    told_not_refused change f (events_once w v w no_hands no_hands no_hands (command c) (told_of change) (refused f) (reached_reachable s) (makes tt (by_command asks) can changes refl) (fails tt because)).0
