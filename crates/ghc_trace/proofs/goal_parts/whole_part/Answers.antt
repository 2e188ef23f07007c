use Rattle.ghc_trace.proofs.Words.{◌≡◌, ℕ, Err, IfOk, In, List, Ok, Record, Result, ◌∙◌, numbers, subst, sym}
use Rattle.ghc_records.proofs.OrderLemmas.{number_of}
use Rattle.ghc_trace.specs.inner.PartsCode.{AreKeptAs}
use Rattle.ghc_trace.proofs.goal_parts.whole_part.Goals as goal

pub part_among-requires : goal.part_among-requires
part_among-requires c n i =
    let q = number_of c.args.records.now.held n (subst (λ (l : List ℕ). In n l) (c.as_slice.ensures.value ∙ c.in_ok-steps.ensures) i) in
    (q.0, (q.1, q.2))

-- all steps are as kept as they are
all_of : (kept : List Record) (ns : List ℕ) → ns ≡ numbers kept → AreKeptAs kept kept ns
all_of kept ns is = record { within = λ r i. i; numbered = sym is }

if_ok : {X E : Type 0} (r : Result X E) {A B : X → Type 0} → IfOk r A → ((x : X) → A x → B x) → IfOk r B
if_ok (Ok x) h f = f x h
if_ok (Err e) h f = tt

pub returns : goal.returns
returns c = if_ok c.part_among.result c.part_among.ensures (λ part of P query t asked replay.
    of P query c.args.records.now.held t (all_of c.args.records.now.held c.as_slice.result.now (c.as_slice.ensures.value ∙ c.in_ok-steps.ensures)) replay)
