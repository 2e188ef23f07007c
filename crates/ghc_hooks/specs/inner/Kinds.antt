-- The kinds of status.
use Rattle.ghc_hooks.specs.declared.face.status.Kind.{Kind}
use Rattle.ghc_hooks.specs.declared.face.status.Kind.TheVariants.{Ready, Waiting, Failed, Stream}
use Rattle.ghc_hooks.specs.Status.{Status, ready, waiting, failed, streaming}

-- the kind of a status, whatever variables it waits for or cause it failed for
abbrev pub kind_of : Status → Kind
kind_of ready = Ready
kind_of (waiting xs) = Waiting
kind_of (failed f) = Failed
kind_of streaming = Stream
