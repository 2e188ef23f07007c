use Rattle.ghcdb.proofs.CitedWords.{rules, ◌++◌, ℕ, List, subst, sym, places, Consumes, Consumes-trans}
use Rattle.ghcdb.proofs.TextFront.{front_at_end, front_in_full}
use Rattle.ghcdb.proofs.text_front.read_front.Goals as goal

pub returns-in-Ok-eq0-clause-text : goal.returns-in-Ok-eq0-clause-text
returns-in-Ok-eq0-clause-text g c =
    let added = c.in-Ok-eq0.ensures.added in
    let taken : Consumes _ _ c.add_some.new.text.items = subst (Consumes _ _) (sym {A = List ℕ} added.2) (Consumes-trans _ _ _ _ added.0 c.loop-piece.invariant.0 added.1) in
    front_at_end _ _ c.add_some.new.text.items c.args.most taken (c.in-Ok-eq0.ensures.end c.in-Ok-eq0.field-0-test (search (rules, places))) (search (rules, places))

pub returns-in-Err-clause-no_further : goal.returns-in-Err-clause-no_further
returns-in-Err-clause-no_further g c =
    let more = c.in-Err.ensures.err in
    (c.loop-piece.text.items ++ more.0, Consumes-trans _ _ _ _ more.0 c.loop-piece.invariant.0 more.1, search (rules, places))

pub returns-clause-text : goal.returns-clause-text
returns-clause-text g c = front_in_full _ _ c.loop-piece.text.items c.args.most c.loop-piece.invariant.0 c.loop-piece.invariant.1 (search rules)
