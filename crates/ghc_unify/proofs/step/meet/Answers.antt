use Rattle.ghc_unify.proofs.Words.{[], rules, ap, ◌∙◌, reverse, none, trees, no_more, names_apart, names_same}
use mir.Val.{SFits}
use mir.Syntax.{w64}
use Rattle.ghc_unify.proofs.TopAgreement.{unlike, structures_alike, integers_meet, structures_meet, same_integer}
use Rattle.ghc_unify.proofs.step.meet.Goals as goal
use Rattle.ghc_unify.proofs.step.meet.Goals.{then-ne-2-via-then-ne-2, then-ne-2-via-else-ne-2+then-lefts-rights, in_default-via-in-Int+in_default, in_default-via-in-Atom+in_default, in_default-via-in-Struct+in_default, in_default-via-in_default, in-Int-Int+else-i-k, in-Atom-Atom+else-ne, in-Struct-Struct+else-ne-2+else-lefts-rights+in_ok-push_pairs-in-Struct-Struct}

pub returns-then-ne-2-clause-clash : goal.returns-then-ne-2-clause-clash
returns-then-ne-2-clause-clash c _ new m =
    let v = c.in-Struct-Struct in
    let a = structures_alike c.args.left.now c.args.right.now v.f.now v.g.now v.lefts.now v.rights.now new v.ensures.shown v.ensures'.shown m in
    elim c.then-ne-2.branch [
      | then-ne-2-via-then-ne-2 w ↦ names_apart v.f.now v.g.now _ c.ne-in-Struct-Struct.ensures w.if-ne-2.true a.0
      | then-ne-2-via-else-ne-2+then-lefts-rights w ↦ w.if-lefts-rights.true a.1
    ]

pub returns-in_default-clause-clash : goal.returns-in_default-clause-clash
returns-in_default-clause-clash c _ new m =
    let apart = unlike c.view.result c.view-2.result c.args.left.now c.args.right.now c.view.ensures.shown c.view-2.ensures.shown c.view.ensures.arguments c.view-2.ensures.arguments in
    elim c.in_default.branch [
      | in_default-via-in-Int+in_default w ↦ apart (λ j k p q. w.in_default.not-Int-1 k q) (λ f g p q. cc) (λ f g ts us p q. cc) new m
      | in_default-via-in-Atom+in_default w ↦ apart (λ j k p q. cc) (λ f g p q. w.in_default.not-Atom-1 g q) (λ f g ts us p q. cc) new m
      | in_default-via-in-Struct+in_default w ↦ apart (λ j k p q. cc) (λ f g p q. cc) (λ f g ts us p q. w.in_default.not-Struct-1 g us q) new m
      | in_default-via-in_default w ↦ apart (λ j k p q. cc) (λ f g p q. cc) (λ f g ts us p q. cc) new m
    ]

pub returns-clause-ok : goal.returns-clause-ok
returns-clause-ok c =
    elim c.match-view.branch [
      | in-Int-Int+else-i-k w ↦
          let first : SFits w64 w.in-Int-Int.i = search rules in
          let second : SFits w64 w.in-Int-Int.k = search rules in
          ([], integers_meet c.args.left.now c.args.right.now w.in-Int-Int.i w.in-Int-Int.k w.in-Int-Int.ensures.shown w.in-Int-Int.ensures'.shown (same_integer w.in-Int-Int.i w.in-Int-Int.k first second w.if-i-k.false), ap (λ v. reverse v.items) w.equations-is)
      | in-Atom-Atom+else-ne w ↦
          let v = w.in-Atom-Atom in
          ([], structures_meet c.args.left.now c.args.right.now v.f.now v.g.now none none [] v.ensures.shown v.ensures'.shown (names_same v.f.now v.g.now _ w.ne.ensures w.if-ne.false) no_more, ap (λ v. reverse v.items) w.equations-is)
      | in-Struct-Struct+else-ne-2+else-lefts-rights+in_ok-push_pairs-in-Struct-Struct w ↦
          let v = w.in-Struct-Struct in
          let new = w.in_ok-push_pairs-in-Struct-Struct.ensures in (
            new.0,
            structures_meet c.args.left.now c.args.right.now v.f.now v.g.now (trees v.lefts.now) (trees v.rights.now) new.0 v.ensures.shown v.ensures'.shown (names_same v.f.now v.g.now _ w.ne-in-Struct-Struct.ensures w.if-ne-2.false) new.1,
            ap (λ v. reverse v.items) w.equations-is ∙ new.2,
          )
    ]
