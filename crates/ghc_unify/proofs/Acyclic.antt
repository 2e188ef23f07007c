-- Each move keeps the store acyclic, where it binds a variable to what does not reach it.
use Rattle.ghc_unify.proofs.Words.{List, Option, VarName, Tree, IsAcyclic, binding_acyclic, Move, left, right, Moves, stay, go}

pub move_acyclic : {S T U : VarName → Option Tree} {es fs : List (Tree × Tree)} {bs : List (VarName × Tree)} {rs : List VarName} → Move S T es U fs bs rs → IsAcyclic T → IsAcyclic U
move_acyclic {T = T} (left {r = r} {x = x} p n o) h = binding_acyclic T x r o h
move_acyclic {T = T} (right {l = l} {y = y} p v q n o) h = binding_acyclic T y l o h
move_acyclic m h = h

pub moves_acyclic : {S T V : VarName → Option Tree} {es gs : List (Tree × Tree)} {bs : List (VarName × Tree)} {rs : List VarName} → Moves S T es V gs bs rs → IsAcyclic T → IsAcyclic V
moves_acyclic stay h = h
moves_acyclic (go m ms) h = moves_acyclic ms (move_acyclic m h)
