-- What is saved of a session opens again as that session.
use Rattle.std.specs.Prelude.{◌≡◌, ℕ, List, Some}
use Rattle.ghc_core.specs.World.{World}
use Rattle.ghc_core.specs.Resume.{chronicle_of_world}
use Rattle.ghc_trace.specs.Spies.{Spies, spies_in_order}
use Rattle.ghc_console.specs.Replies.{saved_text}
use Rattle.ghc_records.specs.ChronicleLaws.{CanBeTold}
use Rattle.ghcdb.specs.Opening.{OpensOn, IsHistoryRefused}
use Rattle.ghcdb.specs.Sessions.{IsSessionOf}
use Rattle.ghcdb.specs.declared.refusal.Refusal.{Refusal}
use Rattle.ghcdb.specs.declared.start.Started.{Started}

-- The text of a history opens as the session in the world w with these spies, and as no other, and it is not refused.
pub record OpensAs (s : Started) (text : List ℕ) (w : World) (spies : Spies) : Type 0 where
  pub opens : OpensOn s (Some text) w spies
  pub only : (v : World) (others : Spies) → OpensOn s (Some text) v others → (v ≡ w) × (others ≡ spies)
  pub accepted : (refusal : Refusal) → ¬ IsHistoryRefused s (Some text) refusal

-- What is saved of a session, where a text can tell that, opens as that session: its world, whole, and its spies.
abbrev pub SavedSessionsOpenAgain : Type 0
SavedSessionsOpenAgain =
    (s : Started) (w : World) (spies : Spies) → IsSessionOf s w spies → CanBeTold (chronicle_of_world w (spies_in_order spies)) → OpensAs s (saved_text w spies) w spies
