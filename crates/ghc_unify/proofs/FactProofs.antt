-- What an integer reaches.
use Rattle.ghc_unify.proofs.Words.{ℤ, Option, VarName, Tree, integer, Reaches, here, through}

pub from_integer : {S : VarName → Option Tree} {k : ℤ} {x : VarName} → ¬ Reaches S (integer k) x
from_integer (here o) = o
from_integer (through o e r) = o
