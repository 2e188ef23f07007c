-- What the program does for the words of its command line: what it writes, and how it ends.
use Rattle.std.specs.Prelude.{◌≡◌, ◌≢◌, ◌⊎◌, ℕ, Bool, List, Option, Some, Result, Ok, Err, is_some}
use Rattle.std.specs.declared.num.NonZeroUsize.{NonZeroUsize}
use Rattle.clap.specs.Words.{kind_of}
use Rattle.clap.specs.declared.error.Error.{Error}
use Rattle.clap.specs.declared.error.kind.ErrorKind.TheVariants.{DisplayHelp, DisplayVersion}
use Rattle.ghc_console.specs.declared.debugger.Debugger.{Debugger}
use Rattle.ghcdb.specs.Opening.{IsDebuggerOf, IsOpenRefusal, IsWithoutMemory}
use Rattle.ghcdb.specs.inner.CommandLine.{IsGivenBy}
use Rattle.ghcdb.specs.inner.Outputs.{Ends, lines_to_come, task_of}
use Rattle.ghcdb.specs.inner.Status.{status_of, status_of_print}
use Rattle.ghcdb.specs.inner.Texts.{HaveTexts, IsReadRefusal, history_in}
use Rattle.ghcdb.specs.inner.Workers.{AreProcessorsFor, AreWorkersOf}
use Rattle.ghcdb.specs.declared.files.Texts.{Texts}
use Rattle.ghcdb.specs.declared.refusal.Refusal.{Refusal}
use Rattle.ghcdb.specs.declared.run_or_play.Task.{Task}
use Rattle.ghcdb.specs.declared.settings.Given.{Given}
use Rattle.ghcdb.specs.declared.settings.Options.{Options}
use Rattle.ghcdb.specs.declared.settings.WorkersOption.{WorkersOption}
use Rattle.ghcdb.specs.declared.status.Status.{Status}
use Rattle.ghcdb.specs.declared.status.Status.TheVariants.{Done, Misused}

-- The status where the text of the words' fault was told, or could not be: help and the version are what was asked for.
pub record IsStatusAfter (error : Error) (printed : Bool) (status : Status) : Type 0 where
  pub help : kind_of error ≡ DisplayHelp → status ≡ status_of_print printed
  pub version : kind_of error ≡ DisplayVersion → status ≡ status_of_print printed
  pub mistake : kind_of error ≢ DisplayHelp → kind_of error ≢ DisplayVersion → status ≡ Misused

-- IsAnswer Prints error status: the text was told, and that went as it can go; the status is as it went.
abbrev pub IsAnswer : (Error → Bool → Type 0) → Error → Status → Type 0
IsAnswer Prints error status = (printed : Bool) × Prints error printed × IsStatusAfter error printed status

-- the status where what was begun ended so
abbrev pub status_at_end : Result Unit Refusal → Status
status_at_end (Ok done) = Done
status_at_end (Err refusal) = status_of refusal.fault

-- What came of the texts: they do not open, and nothing is written; or they do, with so many workers, and the task is done with the lines to come.
pub data CarriesOut (texts : Texts) (options : Options) (workers : WorkersOption) (processors : ℕ) (task : Task) (unread before : Option (List ℕ)) (after : Option (Option (List ℕ))) (result : Result Unit Refusal) : Type 0 where
  not_opened :
      (refusal : Refusal)
      → IsWithoutMemory texts.program.items options.query.now (history_in texts) refusal ⊎ IsOpenRefusal texts.program.items options.query.now (history_in texts) refusal
      → after ≡ Some before
      → result ≡ Err refusal
      → CarriesOut texts options workers processors task unread before after result
  opened :
      (d : Debugger)
      → IsDebuggerOf texts.program.items options.query.now (history_in texts) d
      → AreWorkersOf workers d.core.world.opening.program processors d.workers
      → Ends task d unread before after result
      → CarriesOut texts options workers processors task unread before after result

-- The same, and the status that goes with it.
abbrev pub DebugsTexts : Texts → Options → WorkersOption → ℕ → Task → Option (List ℕ) → Option (List ℕ) → Option (Option (List ℕ)) → Status → Type 0
DebugsTexts texts options workers processors task unread before after status = (result : Result Unit Refusal) × CarriesOut texts options workers processors task unread before after result × (status ≡ status_at_end result)

-- What came of the options: a file that they name was not read, and nothing is written; or all were, and the lines of a schedule that they name are to come, where these are known.
pub data Debugs (options : Options) (workers : WorkersOption) (processors : ℕ) (unread before : Option (List ℕ)) (after : Option (Option (List ℕ))) (status : Status) : Type 0 where
  not_read : (refusal : Refusal) → IsReadRefusal options refusal → after ≡ Some before → status ≡ status_of refusal.fault → Debugs options workers processors unread before after status
  are_read :
      (texts : Texts) (schedule : Option (Option (List ℕ)))
      → HaveTexts options texts (is_some schedule)
      → DebugsTexts texts options workers processors (task_of schedule) (lines_to_come schedule unread) before after status
      → Debugs options workers processors unread before after status

-- What came of words that give options.
pub record DebugsGiven (words : List (List ℕ)) (Says : WorkersOption → ℕ → Type 0) (unread before : Option (List ℕ)) (after : Option (Option (List ℕ))) (status : Status) : Type 0 where
  pub given : Given
  pub processors : ℕ
  pub is_given : IsGivenBy words given
  pub counted : Says given.workers processors
  pub debugs : Debugs given.options given.workers processors unread before after status

-- DoesAsAsked words Prints Says unread before after status: what came of the words. Their fault is told by `Prints`, and nothing is written; or they give options, of which the processors are those of `Says`.
abbrev pub DoesAsAsked : {E : Type 0} → List (List ℕ) → (Error → Bool → Type 0) → (Result NonZeroUsize E → Type 0) → Option (List ℕ) → Option (List ℕ) → Option (Option (List ℕ)) → Status → Type 0
DoesAsAsked words Prints Says unread before after status =
    ((error : Error) × IsAnswer Prints error status × (after ≡ Some before)) ⊎ DebugsGiven words (AreProcessorsFor Says) unread before after status
