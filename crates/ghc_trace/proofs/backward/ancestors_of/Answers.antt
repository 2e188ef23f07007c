use Rattle.ghc_trace.proofs.Words.{◌≡◌, ◌+◌, ◌<◌, ◌∷◌, ◌++◌, ◌∙◌, List, [], true, false, length, ap, append-nil, option_copied, subst, sym, refl, IsTrue, VarName, Variables, In}
use Rattle.std.proofs.lemmas.List.{nil_from_length}
use Rattle.std.specs.FinSet as set
use Rattle.ghc_trace.proofs.Ancestors.{Climbing, climbing_begins, climbing_ends, climbs, climbs_past, falls_by_none, falls_by_those, falls_past, listed, none_come, those_come}
use Rattle.ghc_trace.proofs.backward.ancestors_of.Goals as goal

pub loop-x-init : goal.loop-x-init
loop-x-init c =
    let m = c.args.parents.now in
    let from = c.args.from.now in
    let all = c.in_ok-push_all.ensures ∙ ap (λ (l : List VarName). l ++ from) c.new-waiting.ensures.items in
    climbing_begins m (λ v. In v from) c.new-ancestors.result c.push_all.new.waiting.items c.new-ancestors.ensures (λ v. (λ i. subst (In v) (sym all) i, λ i. subst (In v) all i))

pub loop-x-smaller-then-contains : goal.loop-x-smaller-then-contains
loop-x-smaller-then-contains c = falls_past c.args.parents.now.entries c.loop-x.ancestors c.in-Some.x c.loop-x.waiting.items c.pop.new.self.items c.in-Some.ensures.items

pub loop-x-preserved-then-contains : goal.loop-x-preserved-then-contains
loop-x-preserved-then-contains c =
    climbs_past c.args.parents.now (λ v. In v c.args.from.now) c.loop-x.ancestors c.in-Some.x c.loop-x.waiting.items c.pop.new.self.items c.in-Some.ensures.items c.loop-x.invariant
    (sym c.contains.ensures ∙ c.if-contains.true)

pub returns : goal.returns
returns c =
    let m = c.args.parents.now in
    let none = nil_from_length c.loop-x.waiting.items (sym c.loop-x.waiting.ok.0 ∙ c.in_default.ensures.cases.0) in
    climbing_ends m (λ v. In v c.args.from.now) c.loop-x.ancestors (subst (λ l. Climbing m (λ v. In v c.args.from.now) c.loop-x.ancestors l) none c.loop-x.invariant)

pub loop-x-smaller-in-Continue-branch-3 : goal.loop-x-smaller-in-Continue-branch-3
loop-x-smaller-in-Continue-branch-3 c =
    let es = c.args.parents.now.entries in
    let x = c.in-Some.x in
    let ancestors = c.loop-x.ancestors in
    let waiting = c.loop-x.waiting.items in
    let rest = c.pop.new.self.items in
    let those = c.in-Some-get.those.now in
    let after = c.push_all-in-Some-get.new.waiting.items in
    let pushed = c.in_ok-push_all-2.ensures ∙ ap (λ l. rest ++ l) c.as_slice.ensures.value in
    let new : ¬ IsTrue (set.contains ancestors x) = λ t. let clash : false ≡ true = sym c.if-contains.false ∙ c.contains.ensures ∙ t in cc in
    subst (λ (s : Variables). length after + listed s es < length waiting + listed ancestors es) (sym c.in_ok-insert.ensures.ok)
    (falls_by_those es ancestors x waiting rest c.in-Some.ensures.items those after new (sym c.get.ensures.value ∙ ap option_copied c.in-Some-get.is) pushed)

pub loop-x-preserved-in-Continue-branch-3 : goal.loop-x-preserved-in-Continue-branch-3
loop-x-preserved-in-Continue-branch-3 c =
    let m = c.args.parents.now in
    let F : VarName → Type 0 = λ v. In v c.args.from.now in
    let x = c.in-Some.x in
    let ancestors = c.loop-x.ancestors in
    let rest = c.pop.new.self.items in
    let those = c.in-Some-get.those.now in
    let pushed = c.in_ok-push_all-2.ensures ∙ ap (λ l. rest ++ l) c.as_slice.ensures.value in
    subst (λ (s : Variables). Climbing m F s c.push_all-in-Some-get.new.waiting.items) (sym c.in_ok-insert.ensures.ok)
    (subst (λ l. Climbing m F (set.insert ancestors x) l) (sym pushed)
    (climbs m F ancestors x c.loop-x.waiting.items rest c.in-Some.ensures.items c.loop-x.invariant those.items (those_come m x those (sym c.get.ensures.value ∙ ap option_copied c.in-Some-get.is))))

pub loop-x-smaller : goal.loop-x-smaller
loop-x-smaller c =
    let es = c.args.parents.now.entries in
    subst (λ (s : Variables). length c.pop.new.self.items + listed s es < length c.loop-x.waiting.items + listed c.loop-x.ancestors es) (sym c.in_ok-insert.ensures.ok)
    (falls_by_none es c.loop-x.ancestors c.in-Some.x c.loop-x.waiting.items c.pop.new.self.items c.in-Some.ensures.items)

pub loop-x-preserved : goal.loop-x-preserved
loop-x-preserved c =
    let m = c.args.parents.now in
    let F : VarName → Type 0 = λ v. In v c.args.from.now in
    let x = c.in-Some.x in
    let rest = c.pop.new.self.items in
    subst (λ (s : Variables). Climbing m F s rest) (sym c.in_ok-insert.ensures.ok)
    (subst (λ l. Climbing m F (set.insert c.loop-x.ancestors x) l) (append-nil rest)
    (climbs m F c.loop-x.ancestors x c.loop-x.waiting.items rest c.in-Some.ensures.items c.loop-x.invariant [] (none_come m x (sym c.get.ensures.value ∙ ap option_copied c.in_default-get.is))))
