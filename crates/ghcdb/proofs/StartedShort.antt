-- Program and query that are started are within the limits.
use Rattle.ghcdb.proofs.CitedWords.{◌≡◌, ℕ, suc, List, [], ◌∷◌, length, inl, inr, refl, sym, ap, ◌∙◌, subst, arith, In, Program, WrittenClause, AreMadeOf, Started, IsStarted}
use Rattle.ghc_flat.specs.Clause.{Clause}
use Rattle.ghc_reader.specs.Written.{AreWellWritten, IsWellAsked}
use Rattle.ghc_reader.proofs.WithinLimits.{program_well_written, query_well_asked}
use Rattle.ghc_records.specs.Journal.{Opening}
use Rattle.ghcdb.proofs.GoalNumbers.{HasShortBodies}
use Rattle.ghcdb.proofs.LinesTold.{IsShort}

as_many : (ws : List WrittenClause) (P : Program) → AreMadeOf ws P → length P ≡ length ws
as_many [] [] made = refl
as_many [] (c ∷ P) made = absurd made
as_many (w ∷ ws) [] made = absurd made
as_many (w ∷ ws) (c ∷ P) made = ap suc (as_many ws P made.1)

-- the written clause of which a clause is made
made_from : (ws : List WrittenClause) (P : Program) (c : Clause) → AreMadeOf ws P → In c P → (w : WrittenClause) × In w ws × (c.body ≡ w.body)
made_from [] [] c made i = absurd i
made_from [] (d ∷ P) c made i = absurd made
made_from (w ∷ ws) [] c made i = absurd i
made_from (w ∷ ws) (d ∷ P) c made (inl e) = (w, inl refl, ap (λ (x : Clause). x.body) e ∙ made.0.body)
made_from (w ∷ ws) (d ∷ P) c made (inr i) = let m = made_from ws P c made.1 i in (m.0, inr m.1, m.2)

-- an opening on what was started
pub started_short : (p q : List ℕ) (s : Started) (o : Opening) → IsStarted p q s → o.program ≡ s.program → o.query ≡ s.query.goals → o.names ≡ s.query.variables → IsShort o
started_short p q s o started program query names =
    let read = started.reads_program in
    let asked = started.reads_query in
    let well : AreWellWritten started.written = program_well_written read.0 started.written read.1.within read.2 in
    let put : IsWellAsked s.query = query_well_asked asked.0 s.query asked.1.within asked.2 in
    let made = started.accepted.made in
    record {
      clauses = omega (arith, ap length program, as_many started.written s.program made, well.few);
      bodies = subst HasShortBodies (sym program) (λ c i. let m = made_from started.written s.program c made i in omega (arith, ap length m.2, (well.each m.0 m.1).limited.goals));
      query = omega (arith, ap length query, put.limited.goals);
      names = omega (arith, ap length names, put.limited.variables);
    }
