-- What the clauses of devices say.
use Rattle.std.specs.Prelude.{◌≡◌, ℕ, ◌+◌, ◌<◌, false, List, ◌++◌, take, Option, IfSome, MatchResult, Result, if◌then◌else◌, is_ok}
use Rattle.std.specs.Io.KnownBytes.{Appends}

-- What a buffered device tells, as far as its bytes are known: the bytes to come, the bytes written, those of them that it still holds back, and those that it has handed on. Then how many calls have failed, how many bytes the last read gave, and how many those before it.
pub record LinesValue : Type 0 where
  pub unread : Option (List ℕ)
  pub written : Option (List ℕ)
  pub held : List ℕ
  pub handed : Option (List ℕ)
  pub failures : ℕ
  pub earlier : ℕ
  pub latest : ℕ

-- A call that fails is counted once, and no other is.
abbrev pub Counts : {T E : Type 0} → ℕ → ℕ → Result T E → Type 0
Counts before after result = after ≡ (if is_ok result then before else before + 1)

-- Where a call had failed before, this one fails too, and nothing more is handed on.
abbrev pub StaysBroken : {T E : Type 0} → ℕ → Option (List ℕ) → Option (List ℕ) → Result T E → Type 0
StaysBroken failures old new result = 0 < failures → (is_ok result ≡ false) × (new ≡ old)

-- All the bytes were written, or a front of them where a call failed.
abbrev pub WritesFront : {E : Type 0} → Option (List ℕ) → Option (List ℕ) → Result Unit E → List ℕ → Type 0
WritesFront old new result bytes = MatchResult result (λ _. Appends old new bytes) (λ _. (n : ℕ) × Appends old new (take n bytes))

-- The last read gave n bytes, or none where it failed.
abbrev pub Gives : {E : Type 0} → ℕ → Result ℕ E → Type 0
Gives latest result = MatchResult result (λ n. latest ≡ n) (λ _. latest ≡ 0)

-- Where the bytes are known, these are their end.
abbrev pub EndsWith : Option (List ℕ) → List ℕ → Type 0
EndsWith known end = IfSome known (λ bytes. (front : List ℕ) × (bytes ≡ front ++ end))

-- What the calls of a device are counted as: those that failed; how many bytes the last read gave, and how many those before it.
pub record Counted : Type 0 where
  pub failures : ℕ
  pub earlier : ℕ
  pub latest : ℕ
