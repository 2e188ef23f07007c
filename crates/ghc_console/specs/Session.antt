-- Whole sessions.
use Rattle.std.specs.Prelude.{◌≡◌, ◌≤◌, ◌+◌, ℕ, Bool, true, false, List, [], ◌∷◌, ◌++◌, Option, Result, IfSome, MatchResult, take}
use Rattle.std.specs.Io.KnownBytes.{Appends}
use Rattle.ghc_console.specs.Lines.{line_feeds, lines_of}
use Rattle.ghc_console.specs.Replies.{IsReply}
use Rattle.ghc_console.specs.SessionState.{SessionState}

-- Session count s lines out t: out are the replies to the lines, in order, from the state s on, and they leave the state t. After `count` lines there is none, or one that ends the session.
pub data Session : ℕ → SessionState → List (List ℕ) → List ℕ → SessionState → Type 0 where
  at_end : {s : SessionState} → Session 0 s [] [] s
  ends :
      {s t : SessionState} {line text : List ℕ} {lines : List (List ℕ)}
      → IsReply s line text t true
      → Session 0 s (line ∷ lines) text t
  goes_on :
      {count : ℕ} {s r t : SessionState} {line text rest : List ℕ} {lines : List (List ℕ)}
      → IsReply s line text r false
      → Session count r lines rest t
      → Session (count + 1) s (line ∷ lines) (text ++ rest) t

-- Began count s lines out t: the same of a session that was broken off. After `count` lines a read failed, or a write of a reply, of which a beginning was written.
pub data Began : ℕ → SessionState → List (List ℕ) → List ℕ → SessionState → Type 0 where
  nothing_yet : {s : SessionState} {lines : List (List ℕ)} → Began 0 s lines [] s
  broken :
      {s t : SessionState} {line text : List ℕ} {lines : List (List ℕ)} {ended : Bool} (n : ℕ)
      → IsReply s line text t ended
      → Began 0 s (line ∷ lines) (take n text) t
  went_on :
      {count : ℕ} {s r t : SessionState} {line text rest : List ℕ} {lines : List (List ℕ)}
      → IsReply s line text r false
      → Began count r lines rest t
      → Began (count + 1) s (line ∷ lines) (text ++ rest) t

-- SoFar count s lines out t: the same of a session that goes on. Each of the first `count` lines has its whole reply, and no other is answered.
pub data SoFar : ℕ → SessionState → List (List ℕ) → List ℕ → SessionState → Type 0 where
  none_yet : {s : SessionState} {lines : List (List ℕ)} → SoFar 0 s lines [] s
  one_then :
      {count : ℕ} {s r t : SessionState} {line text rest : List ℕ} {lines : List (List ℕ)}
      → IsReply s line text r false
      → SoFar count r lines rest t
      → SoFar (count + 1) s (line ∷ lines) (text ++ rest) t

-- One line was served: its reply was written, or a beginning of it where a call failed.
pub record Served {E : Type 0} (s : SessionState) (line : List ℕ) (t : SessionState) (old new : Option (List ℕ)) (result : Result Bool E) : Type 0 where
  pub text : List ℕ
  pub ended : Bool
  pub reply : IsReply s line text t ended
  pub written : MatchResult result (λ b. (b ≡ ended) × Appends old new text) (λ _. (n : ℕ) × Appends old new (take n text))

-- What was written is that of such a run over the lines of the input. The bytes that were there when the last read was made, `before` of them, had no more whole lines than those after which the session went on.
pub record Writes (Run : ℕ → SessionState → List (List ℕ) → List ℕ → SessionState → Type 0) (s : SessionState) (input : List ℕ) (written now : Option (List ℕ)) (before : ℕ) (t : SessionState) : Type 0 where
  pub count : ℕ
  pub out : List ℕ
  pub appended : Appends written now out
  pub run : Run count s (lines_of input) out t
  pub asked : line_feeds (take before input) ≤ count

-- The same, where the bytes to come are known.
abbrev pub Tells : (ℕ → SessionState → List (List ℕ) → List ℕ → SessionState → Type 0) → SessionState → Option (List ℕ) → Option (List ℕ) → Option (List ℕ) → ℕ → SessionState → Type 0
Tells Run s unread written now before t = IfSome unread (λ input. Writes Run s input written now before t)
