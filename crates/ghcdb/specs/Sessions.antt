-- Sessions that were started, and what opens as one.
use Rattle.std.specs.Prelude.{◌≡◌, ◌⊎◌, ℕ, Bool, List, Option}
use Rattle.ghc_core.specs.World.{World}
use Rattle.ghc_core.specs.Core.{IsStanding}
use Rattle.ghc_core.specs.AskedGoals.{HasClauseFor}
use Rattle.ghc_trace.specs.Spies.{Spies, HasPredicate}
use Rattle.ghc_console.specs.Replies.{IsReply}
use Rattle.ghc_console.specs.Session.{Began, Session}
use Rattle.ghc_console.specs.SessionState.{SessionState}
use Rattle.ghcdb.specs.Start.{IsStarted}
use Rattle.ghcdb.specs.Opening.{OpensOn}
use Rattle.ghcdb.specs.declared.start.Started.{Started}

-- A session on what was started can be in the world w with these spies. Changes lead to the world, it is of that program and query, and the program has a clause of each predicate that is spied.
pub record IsSessionOf (s : Started) (w : World) (spies : Spies) : Type 0 where
  pub standing : IsStanding w
  pub program : w.opening.program ≡ s.program
  pub query : w.opening.query ≡ s.query.goals
  pub names : w.opening.names ≡ s.query.variables
  pub spied : (f : List ℕ) (n : ℕ) → HasPredicate spies f n → HasClauseFor s.program f n

-- What opens on program and query that are started is a session on them.
abbrev pub WhatOpensIsASession : Type 0
WhatOpensIsASession =
    (program_text query_text : List ℕ) (s : Started) (history : Option (List ℕ)) (w : World) (spies : Spies)
    → IsStarted program_text query_text s → OpensOn s history w spies → IsSessionOf s w spies

-- The state of a session is one that a session on what was started can be in.
abbrev pub IsStateOf : Started → SessionState → Type 0
IsStateOf s t = IsSessionOf s t.world t.spies

-- What lines leave, in a session that is whole or broken off, is a session on what was started, where it was one before them. So it is after each line.
pub record SessionsStaySessions : Type 0 where
  pub line : (s : Started) (before after : SessionState) (bytes text : List ℕ) (ended : Bool) → IsStateOf s before → IsReply before bytes text after ended → IsStateOf s after
  pub whole : (s : Started) (count : ℕ) (before after : SessionState) (lines : List (List ℕ)) (out : List ℕ) → IsStateOf s before → Session count before lines out after ⊎ Began count before lines out after → IsStateOf s after
