-- A refusal by the checker, of texts that were read, is a refusal of the start; and texts start one thing alone, or are refused in one way.
use Rattle.ghcdb.proofs.CitedWords.{◌≡◌, ◌⊎◌, ℕ, List, inl, inr, refl, sym, ◌∙◌, subst, exact, WrittenClause, WrittenQuery, IsReadProgram, IsReadQuery, one_program_read, one_query_read, no_program_refused, one_program_refusal, no_query_refused, one_query_refusal, Refused, IsRefusedAs, HasClause, AreMadeOf, IsProgramFault, IsFault, program_once, fault_once, accepted_no_fault, first_fault_no, Refusal, Started, IsStarted, AreRead, IsOutOfMemory, for_program, IsStartRefusal, of_program, of_query, of_clauses, of_calls, StartIsExact, told_of}
use Rattle.ghc_flat.specs.declared.refused.Refused.TheVariants as refused

pub told : (p q : List ℕ) (ws : List WrittenClause) (asked : WrittenQuery) (r : Refused) → IsReadProgram p ws → IsReadQuery q asked → IsRefusedAs ws asked.goals r → IsOutOfMemory p (told_of r) ⊎ IsStartRefusal p q (told_of r)
told p q ws asked (refused.Program e) a b (inl m) = inl (for_program (record { fault = m; part_is = refl }))
told p q ws asked (refused.Program e) a b (inr f) = inr (of_clauses ws asked (record { reads_program = a; reads_query = b }) refl f)
told p q ws asked (refused.Query e) a b h = inr (of_calls ws asked (record { reads_program = a; reads_query = b }) refl h.0 h.1)

same_refusal : (r s : Refusal) → r.part ≡ s.part → r.fault ≡ s.fault → r ≡ s
same_refusal r s same fault i = record { part = same i; fault = fault i }

module _ (p q : List ℕ) where
  -- what is read twice is read as one
  one_read : (ws us : List WrittenClause) (asked other : WrittenQuery) → AreRead p q ws asked → AreRead p q us other → (ws ≡ us) × (asked ≡ other)
  one_read ws us asked other a b = (one_program_read p ws us a.reads_program b.reads_program, one_query_read q asked other a.reads_query b.reads_query)

  one_started : (s t : Started) → IsStarted p q s → IsStarted p q t → s ≡ t
  one_started s t h k =
      let written = one_program_read p h.written k.written h.reads_program k.reads_program in
      let query = one_query_read q s.query t.query h.reads_query k.reads_query in
      let program = program_once k.written s.program t.program (subst (λ ws. AreMadeOf ws s.program) written h.accepted.made) k.accepted.made in
      λ i. record { program = program i; query = query i }

  -- the fault of what is read is that of anything else that is read
  moved : (ws us : List WrittenClause) (asked other : WrittenQuery) (r : Refusal) → AreRead p q ws asked → AreRead p q us other → IsFault ws asked.goals r.fault → IsFault us other.goals r.fault
  moved ws us asked other r a b f =
      let same = one_read ws us asked other a b in subst (λ (a : WrittenQuery). IsFault us a.goals r.fault) same.1 (subst (λ vs. IsFault vs asked.goals r.fault) same.0 f)

  no_start_refusal : (s : Started) (r : Refusal) → IsStarted p q s → ¬ IsStartRefusal p q r
  no_start_refusal s r h (of_program part f) = no_program_refused p h.written r.fault h.reads_program f
  no_start_refusal s r h (of_query ws reads part f) = no_query_refused q s.query r.fault h.reads_query f
  no_start_refusal s r h (of_clauses ws asked are part f) =
      accepted_no_fault h.written s.query.goals s.program r.fault h.accepted (moved ws h.written asked s.query r are (record { reads_program = h.reads_program; reads_query = h.reads_query }) (inl f))
  no_start_refusal s r h (of_calls ws asked are part clean f) =
      accepted_no_fault h.written s.query.goals s.program r.fault h.accepted (moved ws h.written asked s.query r are (record { reads_program = h.reads_program; reads_query = h.reads_query }) (inr (clean, f)))

  one_start_refusal : (r s : Refusal) → IsStartRefusal p q r → IsStartRefusal p q s → r ≡ s
  one_start_refusal r s (of_program a f) (of_program b g) = same_refusal r s (a ∙ sym b) (one_program_refusal p r.fault s.fault f g)
  one_start_refusal r s (of_program a f) (of_query us reads b g) = absurd (no_program_refused p us r.fault reads f)
  one_start_refusal r s (of_program a f) (of_clauses us other are b g) = absurd (no_program_refused p us r.fault are.reads_program f)
  one_start_refusal r s (of_program a f) (of_calls us other are b clean g) = absurd (no_program_refused p us r.fault are.reads_program f)
  one_start_refusal r s (of_query ws reads a f) (of_program b g) = absurd (no_program_refused p ws s.fault reads g)
  one_start_refusal r s (of_query ws reads a f) (of_query us other b g) = same_refusal r s (a ∙ sym b) (one_query_refusal q r.fault s.fault f g)
  one_start_refusal r s (of_query ws reads a f) (of_clauses us other are b g) = absurd (no_query_refused q other r.fault are.reads_query f)
  one_start_refusal r s (of_query ws reads a f) (of_calls us other are b clean g) = absurd (no_query_refused q other r.fault are.reads_query f)
  one_start_refusal r s (of_clauses ws asked are a f) (of_program b g) = absurd (no_program_refused p ws s.fault are.reads_program g)
  one_start_refusal r s (of_clauses ws asked are a f) (of_query us reads b g) = absurd (no_query_refused q asked s.fault are.reads_query g)
  one_start_refusal r s (of_clauses ws asked are a f) (of_clauses us other be b g) =
      same_refusal r s (a ∙ sym b) (fault_once us other.goals r.fault s.fault (moved ws us asked other r are be (inl f)) (inl g))
  one_start_refusal r s (of_clauses ws asked are a f) (of_calls us other be b clean g) =
      absurd (first_fault_no (HasClause us) us r.fault clean (subst (λ vs. IsProgramFault vs r.fault) (one_read ws us asked other are be).0 f))
  one_start_refusal r s (of_calls ws asked are a clean f) (of_program b g) = absurd (no_program_refused p ws s.fault are.reads_program g)
  one_start_refusal r s (of_calls ws asked are a clean f) (of_query us reads b g) = absurd (no_query_refused q asked s.fault are.reads_query g)
  one_start_refusal r s (of_calls ws asked are a clean f) (of_clauses us other be b g) =
      absurd (first_fault_no (HasClause ws) ws s.fault clean (subst (λ vs. IsProgramFault vs s.fault) (sym (one_read ws us asked other are be).0) g))
  one_start_refusal r s (of_calls ws asked are a clean f) (of_calls us other be b pure g) =
      same_refusal r s (a ∙ sym b) (fault_once us other.goals r.fault s.fault (moved ws us asked other r are be (inr (clean, f))) (inr (pure, g)))

pub start_exact : StartIsExact
start_exact p q result = exact (one_started p q) (one_start_refusal p q) (no_start_refusal p q) result
