use Rattle.ghc_trace.proofs.Words.{◌≡◌, ◌≢◌, ◌++◌, ◌↔◌, List, [], ℕ, length, IsTrue, refl, sym, ap, ◌∙◌, subst, append-nil, arith, In, string_bytes}
use Rattle.std.specs.FinSet as set
use Rattle.std.proofs.lemmas.List.{nil_from_length}
use Rattle.ghc_trace.specs.declared.holding.Holder.{Holder}
use Rattle.ghc_trace.specs.Explaining.{AreHolderLines}
use Rattle.ghc_trace.specs.WhyNot.{MayGoOn}
use Rattle.ghc_trace.specs.inner.WhyNotCode.{verdict_line}
use Rattle.ghc_trace.proofs.WhyNotTold.{all_told, holders_there, none_told, three}
use Rattle.ghc_trace.proofs.why_not.push_asked.Goals as goal

pub returns-then-is_empty : goal.returns-then-is_empty
returns-then-is_empty c =
    let items = c.members.result.now in
    let none : length items ≡ 0 = grind (arith, c.is_empty.ensures, c.if-is_empty.true) in
    ([], none_told c.args.core.now.world c.args.first.now items c.members.ensures.all (nil_from_length items none), sym (append-nil (string_bytes c.args.out.now)))

pub push_holders-requires-clause-there : goal.push_holders-requires-clause-there
push_holders-requires-clause-there c h i =
    holders_there c.args.core.now.world (λ y. IsTrue (set.contains c.args.first.now y)) c.in_ok-asked.asked c.in_ok-holders.holders.items c.in_ok-asked.ensures c.in_ok-holders.ensures h (subst (In h) c.as_slice.ensures.value i)

pub one_may_go_on-may_be_bound-requires-clause-there : goal.one_may_go_on-may_be_bound-requires-clause-there
one_may_go_on-may_be_bound-requires-clause-there c h i =
    holders_there c.args.core.now.world (λ y. IsTrue (set.contains c.args.first.now y)) c.in_ok-asked.asked c.in_ok-holders.holders.items c.in_ok-asked.ensures c.in_ok-holders.ensures h (subst (In h) c.as_slice-2.ensures.value i)

pub returns : goal.returns
returns c =
    let w = c.args.core.now.world in
    let first = c.args.first.now in
    let items = c.members.result.now in
    let hs = c.in_ok-holders.holders.items in
    let going = c.one_may_go_on-may_be_bound.result in
    let held = c.in_ok-push_holders.ensures in
    let lost = c.in_ok-write_all_lost.ensures in
    let lines : AreHolderLines w hs held.0 = subst (λ (l : List Holder). AreHolderLines w l held.0) c.as_slice.ensures.value held.1 in
    let one : IsTrue going ↔ ((h : Holder) × In h hs × MayGoOn w h.goal) = subst (λ (l : List Holder). IsTrue going ↔ ((h : Holder) × In h l × MayGoOn w h.goal)) c.as_slice-2.ensures.value c.one_may_go_on-may_be_bound.ensures in
    let some : items ≢ [] = λ e. let z : length items ≡ 0 = ap length e in grind (arith, z, c.is_empty.ensures, c.if-is_empty.false) in (
      held.0 ++ (lost.1 ++ verdict_line going),
      all_told w first c.in_ok-asked.asked items hs lost.0 held.0 lost.1 going c.members.ensures.all some c.in_ok-asked.ensures c.in_ok-holders.ensures lines lost.2 lost.3 one,
      c.in_ok-push_str.ensures.bytes ∙ ap (λ v. string_bytes c.write_all_lost.new.out ++ v) c.verdict.ensures ∙ ap (λ t. t ++ verdict_line going) (lost.4 ∙ ap (λ t. t ++ lost.1) held.2) ∙ three (string_bytes c.args.out.now) held.0 lost.1 (verdict_line going),
    )
