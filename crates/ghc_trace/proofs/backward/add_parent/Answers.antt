use Rattle.ghc_trace.proofs.Words.{◌↔◌, ◌⊎◌, ◌≡◌, ◌∷◌, ◌++◌, ◌∙◌, List, [], Some, ap, sym, VarName, In}
use Rattle.std.specs.Global.{Vec}
use Rattle.ghc_trace.specs.inner.Backward.{StandsUnder}
use Rattle.ghc_trace.proofs.Ancestors.{first_parent, one_parent, with_parent}
use Rattle.ghc_trace.proofs.backward.add_parent.Goals.{in-Some, in-None}
use Rattle.ghc_trace.proofs.backward.add_parent.Goals as goal

pub returns-in-Ok : goal.returns-in-Ok
returns-in-Ok c =
    let old = c.args.parents.now in
    let child = c.args.child in
    let parent = c.args.parent in
    let now = c.push.new.self in
    let pushed = c.in_ok-push.ensures.items in
    let has : (v : VarName) → In v now.items ↔ (StandsUnder old child v ⊎ (v ≡ parent)) = elim c.match-remove.branch [
      | in-Some w ↦ with_parent old child parent c.match-remove.those now (sym c.remove.ensures.value ∙ w.in-Some.is ∙ ap Some (sym w.those-is)) pushed
      | in-None w ↦
          let empty = ap (λ (l : Vec VarName). l.items) w.those-is ∙ w.new-those.ensures.items in
          first_parent old child parent now (sym c.remove.ensures.value ∙ w.in-None.is) (pushed ∙ ap (λ (l : List VarName). l ++ parent ∷ []) empty)
    ] in
    one_parent old child parent c.remove.new.self c.insert.new.self now has c.remove.ensures.updates.0 c.in-Ok.ensures.updates.0
