use Rattle.ghc_fire.proofs.Words.{◌≡◌, ◌+◌, ◌∷◌, ◌++◌, [], drop, get_or, cond, ◌||◌, refl, sym, ap, ◌∙◌, append_assoc, list_any, eq_by_cmp, at_drop_more, name_cmp, firsts, name_total, made}
use Rattle.std.specs.FinSet as set
use Rattle.ghc_fire.proofs.called.each_once.Goals as goal
use Rattle.ghc_fire.proofs.called.each_once.Goals.{then-not-contains+in_ok-insert+in_ok-push, else-not-contains}

pub loop-x-init : goal.loop-x-init
loop-x-init c = ([], (λ y. rw c.new-seen.ensures (set.contains-empty name_cmp y)), rw c.new-once.ensures.items refl)

pub loop-x-preserved : goal.loop-x-preserved
loop-x-preserved c =
    let i = c.loop-x.x-index in
    let seen = c.loop-x.invariant.0 in
    let x = get_or c.args.xs.now i (made 0 0) in
    let rest = drop (i + 1) c.args.xs.now in
    let left = at_drop_more (firsts seen) c.args.xs.now i (made 0 0) c.loop-x-test.true in
    let told : list_any (eq_by_cmp name_cmp x) seen ≡ c.contains.result = sym (c.contains.ensures ∙ c.loop-x.invariant.1 x) in
    elim c.if-not-contains.branch [
      | then-not-contains+in_ok-insert+in_ok-push w ↦
          let new : firsts seen (x ∷ rest) ≡ x ∷ firsts (x ∷ seen) rest = ap (λ b. cond b (firsts seen rest) (x ∷ firsts (x ∷ seen) rest)) (told ∙ w.if-not-contains.true) in (
            x ∷ seen,
            (λ y. ap (λ s. set.contains s y) (w.seen-is ∙ w.in_ok-insert.ensures.ok) ∙ set.contains-insert name_total c.loop-x.seen x y ∙ ap (λ b. eq_by_cmp name_cmp y x || b) (c.loop-x.invariant.1 y)),
            ap (λ l. l ++ firsts (x ∷ seen) rest) (ap (λ v. v.items) w.once-is ∙ w.in_ok-push.ensures.items) ∙ append_assoc c.loop-x.once.items (x ∷ []) (firsts (x ∷ seen) rest)
                ∙ ap (λ l. c.loop-x.once.items ++ l) (sym (left ∙ new)) ∙ c.loop-x.invariant.2,
          )
      | else-not-contains w ↦
          let old : firsts seen (x ∷ rest) ≡ firsts seen rest = ap (λ b. cond b (firsts seen rest) (x ∷ firsts (x ∷ seen) rest)) (told ∙ w.if-not-contains.false) in (
            seen,
            (λ y. ap (λ s. set.contains s y) w.seen-is ∙ c.loop-x.invariant.1 y),
            ap (λ v. v.items ++ firsts seen rest) w.once-is ∙ ap (λ l. c.loop-x.once.items ++ l) (sym (left ∙ old)) ∙ c.loop-x.invariant.2,
          )
    ]
