-- The names of the streams' goals, in the order of the streams.
use Rattle.std.specs.Prelude.{◌≡◌, ◌≢◌, ℕ, zero, suc, ◌+◌, List, [], ◌∷◌, Option, Some, None, slice_get, slice_set}
use Rattle.std.specs.Coded.{Coded, coded_list}
use Rattle.std.specs.FinMap as finite
use Rattle.ghc_term.specs.declared.var_name.VarName.{VarName}
use Rattle.ghc_term.specs.declared.goal_name.GoalName.{GoalName}
use Rattle.ghc_term.specs.Goal.{Goal, call, unify, assign, stream}
use Rattle.ghc_term.specs.Lists.{In}
use Rattle.ghc_flat.specs.Clause.{Query}
use Rattle.ghc_fire.specs.Goals.{Goals}
use Rattle.ghc_fire.specs.inner.GoalsCode.{goal_name_code}
use Rattle.ghc_records.specs.Record.{Record}

-- the code of the names of the streams' goals in order, which no other list of names has
abbrev pub stream_goals_code : Coded (List GoalName)
stream_goals_code = coded_list goal_name_code

-- what stands in the place of stream k, the first being 1
abbrev pub name_of : ℕ → List GoalName → Option GoalName
name_of zero names = None
name_of (suc i) names = slice_get names i

-- the names, with another in the place of stream k, if there is the stream
abbrev pub with_name : ℕ → GoalName → List GoalName → List GoalName
with_name zero g names = names
with_name (suc i) g names = slice_set names i g

-- the names of the stream goals among these, of which the first is 0.i
abbrev pub opened : ℕ → List Goal → List GoalName
opened i [] = []
opened i (call f ts ∷ gs) = opened (i + 1) gs
opened i (unify l r ∷ gs) = opened (i + 1) gs
opened i (assign t a ∷ gs) = opened (i + 1) gs
opened i (stream k s ∷ gs) = record { step = 0; place = i } ∷ opened (i + 1) gs

-- the stream of which a goal was consumed, if one was
abbrev pub stream_of : Option Goal → Option ℕ
stream_of None = None
stream_of (Some (call f ts)) = None
stream_of (Some (unify l r)) = None
stream_of (Some (assign t a)) = None
stream_of (Some (stream k s)) = Some k

-- the name of the first of the goals that step n made, if it made one
abbrev pub first_made : ℕ → List Goal → Option GoalName
first_made n [] = None
first_made n (b ∷ bs) = Some (record { step = n; place = 1 })

-- the names, with this one in the place of the stream, if there are both
abbrev pub renamed : Option ℕ → Option GoalName → List GoalName → List GoalName
renamed None o names = names
renamed (Some k) None names = names
renamed (Some k) (Some g) names = with_name k g names

-- the names after a step: a stream goes on with the goal that the step made
abbrev pub told : Record → List GoalName → List GoalName
told r names = renamed (stream_of r.consumed) (first_made r.number r.effect.makes) names

-- the names after the step is taken away: the stream has the goal that was consumed
abbrev pub told_back : Record → List GoalName → List GoalName
told_back r names = renamed (stream_of r.consumed) r.goal names

-- the names after the steps are taken away, the last one first
abbrev pub all_told_back : List Record → List GoalName → List GoalName
all_told_back [] names = names
all_told_back (r ∷ rs) names = told_back r (all_told_back rs names)

-- What is known of the names: where a stream goal is there, its name stands in the place of its stream; and each stream of the query has a place.
pub record TellStreams (query : Query) (goals : Goals) (names : List GoalName) : Type 0 where
  pub last : (k : ℕ) (g : GoalName) (s : VarName) → finite.get goals g ≡ Some (stream k s) → name_of k names ≡ Some g
  pub placed : (k : ℕ) (s : VarName) → In (stream k s) query → name_of k names ≢ None
