use Rattle.ghc_trace.proofs.Words.{◌≡◌, ◌+◌, ◌∙◌, [], ◌∷◌, ◌++◌, List, get_or, take, sym, subst, inl, inr, arith, take_more, take_all, true, false, VarName, in_get, value_at}
use Rattle.ghc_trace.proofs.Places.{AreThoseOf, IsEitherWay, none_of_those, one_of_those}
use Rattle.ghc_trace.proofs.place_slices.on_way_to.Goals.{then-contains+in_ok-push, then-contains-via-then-contains, then-contains-via-else-contains+then-contains-2, else-contains+else-contains-2}
use Rattle.ghc_trace.proofs.place_slices.on_way_to.Goals as goal

pub loop-v-preserved : goal.loop-v-preserved
loop-v-preserved c =
    let S = value_at c.args.store.now.held in
    let y = c.args.y in
    let items = c.args.among.now in
    let i = c.loop-v.v-index in
    let none : VarName = record { step = 0; place = 0 } in
    let v = get_or items i none in
    let more : take (i + 1) items ≡ take i items ++ v ∷ [] = take_more items i none c.loop-v-test.true in
    let above = c.in_ok-above.ensures v (in_get items i none c.loop-v-test.true) in
    elim c.if-contains.branch [
      | then-contains+in_ok-push w ↦
          let on_way : IsEitherWay S y v = elim w.then-contains.branch [
            | then-contains-via-then-contains u ↦ inl (above.0 (sym c.contains.ensures ∙ u.if-contains.true))
            | then-contains-via-else-contains+then-contains-2 u ↦ inr ((c.requires.below v).0 (sym u.contains-else-contains.ensures ∙ u.if-contains-2.true))
          ] in
          rw w.way'-is (subst (λ (l : List VarName). AreThoseOf (IsEitherWay S y) l w.push.new.self.items) (sym more)
          (subst (λ (l : List VarName). AreThoseOf (IsEitherWay S y) (take i items ++ v ∷ []) l) (sym w.in_ok-push.ensures.items)
          (one_of_those (IsEitherWay S y) (take i items) c.loop-v.way.items v c.loop-v.invariant on_way)))
      | else-contains+else-contains-2 w ↦ rw w.way'-is (subst (λ (l : List VarName). AreThoseOf (IsEitherWay S y) l c.loop-v.way.items) (sym more)
          (none_of_those (IsEitherWay S y) (take i items) c.loop-v.way.items v c.loop-v.invariant (λ p. elim p [
            | inl r ↦ let clash : false ≡ true = sym w.if-contains.false ∙ c.contains.ensures ∙ above.1 r in cc
            | inr r ↦ let clash : false ≡ true = sym w.if-contains-2.false ∙ w.contains-else-contains.ensures ∙ (c.requires.below v).1 r in cc
          ])))
    ]

pub returns : goal.returns
returns c =
    let items = c.args.among.now in
    subst (λ (l : List VarName). AreThoseOf (IsEitherWay (value_at c.args.store.now.held) c.args.y) l c.loop-v.way.items) (take_all c.loop-v.v-index items (omega (arith, c.loop-v-test.false))) c.loop-v.invariant
