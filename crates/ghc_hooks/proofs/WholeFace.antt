-- A face whose parts tell of all goals shows the state.
use Rattle.ghc_hooks.proofs.Words.{◌≡◌, List, refl, sym, subst, ◌∙◌, ◌↔◌, Some, IsTrue, GoalName, Fault, Goal, In, Variables, StoreValue, Program, Goals, same_goal, Kind, Ready, Waiting, Failed, Stream, Status, ready, waiting, failed, streaming, Face, GoalNames, StandsAs, IsFace, kind_of, TellsOutcomes, TellsStatuses, TellsHooks, TellsPool, contains_in, Contains-from_any, ap, is_some}
use Rattle.std.specs.FinMap as finite
use Rattle.std.specs.FinSet as set

-- of each kind there are the statuses of one form
abbrev HasForm : Kind → Status → Type 0
HasForm Ready s = s ≡ ready
HasForm Waiting s = (xs : Variables) × (s ≡ waiting xs)
HasForm Failed s = (f : Fault) × (s ≡ failed f)
HasForm Stream s = s ≡ streaming

has_form : (s : Status) → HasForm (kind_of s) s
has_form ready = refl
has_form (waiting xs) = (xs, refl)
has_form (failed f) = (f, refl)
has_form streaming = refl

module _ (P : Program) (G : Goals) (s : StoreValue) (gs : List GoalName) (all : gs ≡ finite.keys G) where
  here : (g : GoalName) (b : Goal) → finite.get G g ≡ Some b → In g gs
  here g b e = rw all (contains_in (finite.keys G) g (Contains-from_any same_goal g (finite.keys G) (sym (finite.contains_key-keys G g) ∙ ap is_some e)))

  module _ (face : Face) (told : TellsStatuses P G s gs face.statuses) where
    status_told : (g : GoalName) (t : Status) → (finite.get face.statuses g ≡ Some t) ↔ StandsAs P G s g t
    status_told g t = (λ e. ((told g t).0 e).1, λ h. (told g t).1 (here g h.0 h.1, h))

    -- the goals of one kind stand in the pool
    module _ (kind : Kind) (pool : GoalNames) (pooled : TellsPool face.statuses kind gs pool) (g : GoalName) where
      in_pool : IsTrue (set.contains pool g) → (t : Status) × StandsAs P G s g t × HasForm kind t
      in_pool e = let p = ((pooled g).0 e).1 in (p.0, (status_told g p.0).0 p.1, subst (λ k. HasForm k p.0) p.2 (has_form p.0))

      to_pool : (t : Status) → StandsAs P G s g t → kind_of t ≡ kind → IsTrue (set.contains pool g)
      to_pool t h e = (pooled g).1 (here g h.0 h.1, (t, (status_told g t).1 h, e))

    pub whole : face.goals ≡ G → face.store ≡ s → TellsOutcomes P G s gs face.outcomes → TellsHooks face.statuses gs face.hooks
        → TellsPool face.statuses Ready gs face.ready → TellsPool face.statuses Waiting gs face.waiting → TellsPool face.statuses Failed gs face.failed → TellsPool face.statuses Stream gs face.streams
        → IsFace P G s face
    whole goals store outcomes hooks readies waitings failures streams = record {
      same_goals = goals;
      same_store = store;
      outcomes = λ g k o. (λ e. ((outcomes g k o).0 e).1, λ h. (outcomes g k o).1 (here g _ h.3, h));
      statuses = status_told;
      hooks = λ x g. (
        λ e. let w = ((hooks x g).0 e).1 in (w.0, (status_told g (waiting w.0)).0 w.1, w.2),
        λ h. (hooks x g).1 (here g h.1.0 h.1.1, (h.0, (status_told g (waiting h.0)).1 h.1, h.2)),
      );
      ready_pool = λ g. (λ e. let p = in_pool Ready face.ready readies g e in subst (StandsAs P G s g) p.2 p.1, λ h. to_pool Ready face.ready readies g ready h refl);
      waiting_pool = λ g. (
        λ e. let p = in_pool Waiting face.waiting waitings g e in (p.2.0, subst (StandsAs P G s g) p.2.1 p.1),
        λ h. to_pool Waiting face.waiting waitings g (waiting h.0) h.1 refl,
      );
      failed_pool = λ g. (
        λ e. let p = in_pool Failed face.failed failures g e in (p.2.0, subst (StandsAs P G s g) p.2.1 p.1),
        λ h. to_pool Failed face.failed failures g (failed h.0) h.1 refl,
      );
      streams = λ g. (λ e. let p = in_pool Stream face.streams streams g e in subst (StandsAs P G s g) p.2 p.1, λ h. to_pool Stream face.streams streams g streaming h refl);
    }
