use Rattle.ghc_flat.proofs.Words.{sym, subst, inl, inr, refl, AreWellWritten, AreNarrow, AreTablesOf, IsIndexOf, Knows, keys_of_program}
use Rattle.ghc_flat.proofs.Numbers.{made_keys}
use Rattle.ghc_flat.proofs.Clauses.{all_faultless}
use Rattle.ghc_flat.proofs.Faults.{known_has, has_known, first_fault_as, first_call_as, faultless_as, calls_as, program_of, query_of}
use Rattle.ghc_flat.proofs.checker.judge.Goals as goal

pub check_clauses-requires : goal.check_clauses-requires
check_clauses-requires c = subst AreWellWritten (sym c.into_clauses.ensures.same) c.into_clauses.ensures.well_written

pub check_calls-requires : goal.check_calls-requires
check_calls-requires c = subst AreNarrow (sym c.goals.ensures.same) c.goals.ensures.well_asked.limited.arguments

pub of-requires-2 : goal.of-requires-2
of-requires-2 c =
    let is = rw c.clauses.ensures.same at c.in-Ok.ensures in
    let made = rw c.into_clauses.ensures.same at c.in-Ok-check_clauses.ensures.made in
    subst (λ cs. IsIndexOf (keys_of_program cs) c.in-Ok.index) (sym c.deref.ensures.value) (rw (made_keys c.args.source c.in-Ok-check_clauses.clauses.items made) at is)

pub returns-in-Err-check_clauses-clause-refused : goal.returns-in-Err-check_clauses-clause-refused
returns-in-Err-check_clauses-clause-refused c =
    let is = rw c.clauses.ensures.same at c.in-Ok.ensures in
    elim c.in-Err-check_clauses.ensures.refused [
      | inl m ↦ inl m
      | inr f ↦
          inr (first_fault_as _ _ (known_has c.args.source c.in-Ok.index is) (has_known c.args.source c.in-Ok.index is) _ _
          (rw c.into_clauses.ensures.same at f))
    ]

pub invariant_of-result : goal.invariant_of-result
invariant_of-result c =
    let is = rw c.clauses.ensures.same at c.in-Ok.ensures in
    let made = rw c.into_clauses.ensures.same at c.in-Ok-check_clauses.ensures.made in
    let program = program_of c.args.source c.in-Ok-check_clauses.clauses.items c.in-Ok.index is made c.in-Ok-check_clauses.ensures.defined in (
      program,
      rw (made_keys c.args.source c.in-Ok-check_clauses.clauses.items made) at is,
      subst (λ cs. AreTablesOf cs c.in-Ok-of.firsts.tables.entries) c.deref.ensures.value c.in-Ok-of.ensures,
    )

pub returns-in-Ok-check_calls-clause-accepted : goal.returns-in-Ok-check_calls-clause-accepted
returns-in-Ok-check_calls-clause-accepted c =
    let is = rw c.clauses.ensures.same at c.in-Ok.ensures in
    let made = rw c.into_clauses.ensures.same at c.in-Ok-check_clauses.ensures.made in
    let calls = rw c.goals.ensures.same at c.in-Ok-check_calls.ensures.defined in
    record {
      made = made;
      program = program_of c.args.source c.in-Ok-check_clauses.clauses.items c.in-Ok.index is made c.in-Ok-check_clauses.ensures.defined;
      query = query_of c.args.source c.in-Ok-check_clauses.clauses.items c.args.query.now c.goals.ensures.well_asked made
          (calls_as _ _ (known_has c.args.source c.in-Ok.index is) (has_known c.args.source c.in-Ok.index is) c.args.query.now.goals calls);
    }

pub returns-in-Err-check_calls-clause-refused : goal.returns-in-Err-check_calls-clause-refused
returns-in-Err-check_calls-clause-refused c =
    let is = rw c.clauses.ensures.same at c.in-Ok.ensures in
    let made = rw c.into_clauses.ensures.same at c.in-Ok-check_clauses.ensures.made in
    let known = known_has c.args.source c.in-Ok.index is in
    let has = has_known c.args.source c.in-Ok.index is in
    let sound = all_faultless (Knows c.in-Ok.index) c.args.source c.in-Ok-check_clauses.clauses.items made c.in-Ok-check_clauses.ensures.defined in
    let clean = faultless_as _ _ known has c.args.source sound in
    rw c.of_query.ensures (elim c.in-Err-check_calls.ensures.refused [
      | inl m ↦ rw m (inl refl)
      | inr q ↦
          let undefined = first_call_as _ _ known has c.args.query.now.goals q.0 q.1 (rw c.goals.ensures.same at q.2) in
          rw q.3 (clean, (q.0, q.1, undefined, refl))
    ])
