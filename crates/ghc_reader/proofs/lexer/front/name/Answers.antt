use Rattle.ghc_reader.proofs.Words.{◌≡◌, ◌≢◌, codes, subst, sym, rules, Stands}
use Rattle.ghc_reader.proofs.Forms.{name_stands, modulo_stands}
use Rattle.ghc_reader.proofs.lexer.front.name.Goals as goal
use Rattle.ghc_reader.proofs.lexer.front.name.Goals.{then-eq, else-eq}

pub returns : goal.returns
returns c = λ signs. (
  c.split_run.ensures.split,
  elim c.if-eq.branch [
    | then-eq w ↦
        let same : c.split_run.result.0.now ≡ codes "mod" = search rules in
        subst (λ k. Stands signs (record { kind = k; bytes = c.split_run.result.0.now }) c.split_run.result.1.now) (sym w.kind-is) (modulo_stands signs c.args.text.now _ _ c.split_run.ensures.split c.split_run.ensures.each c.split_run.ensures.stops c.requires same)
    | else-eq w ↦
        let other : c.split_run.result.0.now ≢ codes "mod" = search rules in
        subst (λ k. Stands signs (record { kind = k; bytes = c.split_run.result.0.now }) c.split_run.result.1.now) (sym w.kind-is) (name_stands signs c.args.text.now _ _ c.split_run.ensures.split c.split_run.ensures.each c.split_run.ensures.stops c.requires other)
  ],
)
