use Rattle.ghc_trace.proofs.Words.{◌≡◌, ◌<◌, ◌++◌, [], ◌∷◌, map, sym, ap, ◌∙◌, arith, append_assoc, append-nil, All-same, All-head, All-tail, Predicate, as_written}
use Rattle.ghc_records.specs.declared.predicate.Predicate as written
use Rattle.ghc_trace.proofs.spies.written.Goals as goal

abbrev IsSmall : Predicate → Type 0
IsSmall p = p.arity < 4294967296

pub loop-spied-init : goal.loop-spied-init
loop-spied-init c =
    let gives = c.into_iter-spied-iterator.ensures.into_iter_gives.0 in
    record {
      listed = ap (λ ls. ls ++ map as_written c.into_iter-spied-iterator.result) c.new-listed.ensures.items ∙ ap (map as_written) gives;
      small = All-same IsSmall c.into_iter-spied-iterator.result c.args.ordered.now.keys gives c.requires;
    }

pub overflow_cast-arity : goal.overflow_cast-arity
overflow_cast-arity c =
    let small : c.in-Some.spied.now.arity < 4294967296 =
    All-head IsSmall c.in-Some.spied.now c.next.new.self (All-same IsSmall _ _ (sym c.in-Some.ensures.steps) c.loop-spied.invariant.small) in
    omega (arith, small)

pub loop-spied-preserved : goal.loop-spied-preserved
loop-spied-preserved c =
    let spied = c.in-Some.spied.now in
    let listed = c.loop-spied.listed.items in
    let rest = map as_written c.next.new.self in
    let told : ◌≡◌ {A = written.Predicate} (record { name = c.in_ok-name.name; arity = spied.arity }) (as_written spied) = ap (λ f. record { name = f; arity = spied.arity }) c.in_ok-name.ensures.same in
    record {
      listed = ap (λ ls. ls ++ rest) (c.in_ok-push.ensures.items ∙ ap (λ p. listed ++ p ∷ []) told) ∙ append_assoc listed (as_written spied ∷ []) rest
          ∙ ap (λ ps. listed ++ map as_written ps) (sym c.in-Some.ensures.steps) ∙ c.loop-spied.invariant.listed;
      small = All-tail IsSmall spied c.next.new.self (All-same IsSmall _ _ (sym c.in-Some.ensures.steps) c.loop-spied.invariant.small);
    }

pub returns : goal.returns
returns c = sym (append-nil c.loop-spied.listed.items) ∙ ap (λ ps. c.loop-spied.listed.items ++ map as_written ps) (sym c.in-None.ensures.steps.0) ∙ c.loop-spied.invariant.listed
