-- A schedule is given where its lines are.
use Rattle.ghcdb.proofs.CitedWords.{◌≡◌, refl, Option, None, Some, option_map, is_some}
use Rattle.ghcdb.specs.inner.Outputs.{task_of}

pub is_some-option_map : {A B : Type 0} (f : A → B) (o : Option A) → is_some (option_map f o) ≡ is_some o
is_some-option_map f None = refl
is_some-option_map f (Some a) = refl

pub task_of-option_map : {A B : Type 0} (f : A → B) (o : Option A) → task_of (option_map f o) ≡ task_of o
task_of-option_map f None = refl
task_of-option_map f (Some a) = refl
