use Rattle.ghc_trace.proofs.Words.{◌≡◌, ◌+◌, [], ◌∷◌, ◌++◌, List, length, get_or, take, Option, Some, None, sym, ap, ◌∙◌, subst, arith, take_all, take_more}
use Rattle.std.proofs.lemmas.List.{length-replicate, length-take-le}
use Rattle.std.specs.Prelude.{replicate}
use Rattle.ghc_trace.proofs.CallTops.{as_long, none_told, nothing_there, places_more, told_more, wrong_within}
use Rattle.ghc_trace.specs.declared.answered.ToldWrong.{ToldWrong}
use Rattle.ghc_trace.specs.declared.judgements.Answer.{Answer}
use Rattle.ghc_trace.specs.declared.judgements.Judgement.TheVariants.{Right}
use Rattle.ghc_trace.specs.inner.BlameCode.{AreToldWrong, NotesAnswer, StandAtTheirPlaces}
use Rattle.ghc_trace.proofs.answered.told_wrong_last.Goals as goal

pub loop-index-init : goal.loop-index-init
loop-index-init c =
    let calls = c.args.calls.now.list.items in
    let n = c.len.result in
    let count : n ≡ length calls = c.len.ensures ∙ c.args.calls.now.list.ok.0 in
    let is : c.in_ok-wrong.wrong.items ≡ replicate n None = c.in_ok-wrong.ensures in (
      ap (λ (l : List (Option ToldWrong)). length l) is ∙ length-replicate n None ∙ count,
      subst StandAtTheirPlaces (sym is) (λ i w there. let clash : Some w ≡ None = nothing_there n i (Some w) there in cc),
      λ rs t target are. subst (AreToldWrong calls []) (sym is) (none_told calls n),
    )

pub note_wrong-requires : goal.note_wrong-requires
note_wrong-requires c =
    let none : Answer = record { goal = record { step = 0; place = 0 }; judgement = Right } in
    wrong_within c.args.calls.now.list.items [] (get_or c.args.answers.now c.loop-index.index none) c.loop-index.wrong.items c.loop-index.invariant.0 c.wrong_place-place.result c.wrong_place-place.ensures.found

pub loop-index-preserved : goal.loop-index-preserved
loop-index-preserved c =
    let calls = c.args.calls.now.list.items in
    let items = c.args.answers.now in
    let k = c.loop-index.index in
    let none : Answer = record { goal = record { step = 0; place = 0 }; judgement = Right } in
    let a = get_or items k none in
    let told = take k items in
    let more : take (k + 1) items ≡ told ++ a ∷ [] = take_more items k none c.loop-index-test.true in
    let count : length told ≡ k = length-take-le k items (omega (arith, c.loop-index-test.true)) in
    let place = c.wrong_place-place.result in
    let found = c.wrong_place-place.ensures.found in
    let old = c.loop-index.wrong.items in
    let new = c.note_wrong.new.wrong.items in
    let long = c.loop-index.invariant.0 in
    let notes = subst (λ n. NotesAnswer place n old new) (sym count) c.note_wrong.ensures in (
      as_long calls told a old long new place notes,
      places_more calls told a old long new place found notes c.loop-index.invariant.1,
      λ rs t target are. subst (λ (l : List Answer). AreToldWrong calls l new) (sym more)
          (told_more calls told a old long new are.once place found c.wrong_place-place.ensures.none notes (c.loop-index.invariant.2 rs t target are)),
    )

pub returns-clause-told : goal.returns-clause-told
returns-clause-told c rs t target are =
    let items = c.args.answers.now in
    subst (λ (l : List Answer). AreToldWrong c.args.calls.now.list.items l c.loop-index.wrong.items) (take_all c.loop-index.index items (omega (arith, c.loop-index-test.false))) (c.loop-index.invariant.2 rs t target are)
