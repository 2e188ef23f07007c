use Rattle.ghc_console.proofs.CitedWords.{◌≡◌, ◌+◌, [], ◌∷◌, ◌++◌, true, false, get_or, take, drop, sym, subst, ◌∙◌, arith, In, drop_more}
use Rattle.std.proofs.lemmas.List.{take_all, take_more}
use Rattle.ghc_records.specs.Orders.{Picks, nothing}
use Rattle.ghc_console.proofs.Parting.{IsParting, passes_inside, passes_outside}
use Rattle.ghc_console.proofs.replies.outside.outside.Goals.{then-stands_at, else-stands_at+in_ok-push}
use Rattle.ghc_console.proofs.replies.outside.outside.Goals as goal

pub loop-number-init : goal.loop-number-init
loop-number-init c = record { outside = subst (Picks (λ n. ¬ In n c.args.part.now) []) (sym c.new-rest.ensures.items) nothing; inside = c.requires }

pub loop-number-preserved : goal.loop-number-preserved
loop-number-preserved c =
    let numbers = c.args.numbers.now in
    let part = c.args.part.now in
    let i = c.loop-number.number-index in
    let n = get_or numbers i 0 in
    let next = c.loop-number.next in
    let told = c.loop-number.rest.items in
    let ahead = drop (i + 1) numbers in
    let more : take (i + 1) numbers ≡ take i numbers ++ n ∷ [] = take_more numbers i 0 c.loop-number-test.true in
    let here = subst (λ l. IsParting part (take i numbers) l next told) (drop_more numbers i 0 c.loop-number-test.true) c.loop-number.invariant in
    elim c.if-stands_at.branch [
      | then-stands_at w ↦ rw (w.next-is, w.rest-is) (subst (λ l. IsParting part l ahead (next + 1) told) (sym more) (passes_inside part (take i numbers) ahead next n told here (c.stands_at.ensures.0 w.if-stands_at.true)))
      | else-stands_at+in_ok-push w ↦ rw (w.next-is, w.rest-is) (subst (λ l. IsParting part l ahead next w.push.new.self.items) (sym more)
          (subst (λ l. IsParting part (take i numbers ++ n ∷ []) ahead next l) (sym w.in_ok-push.ensures.items)
          (passes_outside part (take i numbers) ahead next n told here (λ there. let clash : false ≡ true = sym w.if-stands_at.false ∙ c.stands_at.ensures.1 there in cc))))
    ]

pub returns : goal.returns
returns c =
    subst (λ l. Picks (λ n. ¬ In n c.args.part.now) l c.loop-number.rest.items) (take_all c.loop-number.number-index c.args.numbers.now (omega (arith, c.loop-number-test.false))) c.loop-number.invariant.outside
