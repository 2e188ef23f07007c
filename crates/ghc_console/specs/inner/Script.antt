-- What contracts see of a device over memory.
use Rattle.std.specs.Prelude.{ℕ, ◌-◌, ◌==◌, Bool, false, List, Option, None, Some, if◌then◌else◌}

-- A script is the bytes to come, the bytes written, and how many calls have failed; how many bytes the last read gave, and those before it; and how many calls come before the one that is to fail.
pub record ScriptValue : Type 0 where
  pub unread : List ℕ
  pub written : List ℕ
  pub failures : ℕ
  pub earlier : ℕ
  pub latest : ℕ
  pub fails_after : Option ℕ

-- The next call is the one that is to fail.
abbrev pub fails_next : Option ℕ → Bool
fails_next None = false
fails_next (Some calls) = calls == 0

-- How many calls are left before the one that is to fail, one call later.
abbrev pub after_call : Option ℕ → Option ℕ
after_call None = None
after_call (Some calls) = if calls == 0 then None else Some (calls - 1)
