-- What a text can tell of a world and its spies; and that each save of a session opens again.
use Rattle.std.specs.Prelude.{◌⊎◌, ◌≤◌, ℕ, List, [], Option, length}
use Rattle.ghc_term.specs.InputTerm.{IsNameText}
use Rattle.ghc_term.specs.Lists.{In}
use Rattle.ghc_records.specs.Journal.{Step, Entry}
use Rattle.ghc_records.specs.Chronicle.{entry_limit}
use Rattle.ghc_records.specs.ChronicleLaws.{CanBeSaid, CanBeTold}
use Rattle.ghc_records.specs.HistoryLaws.{IsOfAGoal}
use Rattle.ghc_reader.specs.Lexed.{greatest_number}
use Rattle.ghc_core.specs.World.{World}
use Rattle.ghc_core.specs.Resume.{chronicle_of_world}
use Rattle.ghc_trace.specs.Spies.{HasPredicate, spies_in_order}
use Rattle.ghc_console.specs.Replies.{saved_text}
use Rattle.ghc_console.specs.Session.{Began, Session}
use Rattle.ghc_console.specs.SessionState.{SessionState}
use Rattle.ghcdb.specs.Start.{IsStarted}
use Rattle.ghcdb.specs.Opening.{OpensOn}
use Rattle.ghcdb.specs.Saving.{OpensAs}
use Rattle.ghcdb.specs.Sessions.{IsStateOf}
use Rattle.ghcdb.specs.declared.start.Started.{Started}

-- A text can tell the state of a session, but for its length. The steps of its opening consume a goal each, lines can say the entries of its journal, and each predicate that is spied has a name of the grammar, and an arity of 32 bits.
pub record IsTellable (t : SessionState) : Type 0 where
  pub steps : (s : Step) → In s t.world.opening.steps → IsOfAGoal s
  pub entries : (e : Entry) → In e t.world.journal → CanBeSaid e
  pub names : (f : List ℕ) (n : ℕ) → HasPredicate t.spies f n → IsNameText f × (n ≤ greatest_number)

-- No more entries stand after the opening than a text may have.
abbrev pub HasFewEntries : World → Type 0
HasFewEntries w = let c = chronicle_of_world w [] in length c.entries ≤ entry_limit

-- What opens on program and query that are started is tellable, and so is what lines leave of a tellable session on them, whole or broken off. A text can tell the chronicle of such a state, where that has no more entries than a text may have.
pub record SessionsStayTellable : Type 0 where
  pub opened :
      (program_text query_text : List ℕ) (s : Started) (history : Option (List ℕ)) (t : SessionState)
      → IsStarted program_text query_text s → OpensOn s history t.world t.spies → IsTellable t
  pub lines :
      (program_text query_text : List ℕ) (s : Started) (count : ℕ) (before after : SessionState) (bytes : List (List ℕ)) (out : List ℕ)
      → IsStarted program_text query_text s → IsStateOf s before → IsTellable before → Session count before bytes out after ⊎ Began count before bytes out after → IsTellable after
  pub told :
      (program_text query_text : List ℕ) (s : Started) (t : SessionState)
      → IsStarted program_text query_text s → IsStateOf s t → IsTellable t → HasFewEntries t.world → CanBeTold (chronicle_of_world t.world (spies_in_order t.spies))

-- Take any point of a session that was opened, also of one that was broken off, where the journal has no more entries than a text may have. Where none of its lines says that memory was refused, what `save` tells there opens as that session, with its world, whole, and its spies.
abbrev pub EachSaveOpensAgain : Type 0
EachSaveOpensAgain =
    (program_text query_text : List ℕ) (s : Started) (history : Option (List ℕ)) (first last : SessionState) (count : ℕ) (lines : List (List ℕ)) (out : List ℕ)
    → IsStarted program_text query_text s → OpensOn s history first.world first.spies → Session count first lines out last ⊎ Began count first lines out last
    → HasFewEntries last.world → OpensAs s (saved_text last.world last.spies) last.world last.spies
