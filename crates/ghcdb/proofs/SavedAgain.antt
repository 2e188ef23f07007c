-- What is saved of a session opens again as that session.
use Rattle.ghcdb.proofs.CitedWords.{◌≡◌, ℕ, List, [], ◌∷◌, map, get_or, sym, ap, ◌∙◌, subst, arith, list_any-from_Contains, eq_by_cmp_equiv, Result, Ok, Err, Some, Fault, In, in_contains, in_map, Program, Query, IsLine, heading, Chronicle, TellsChronicle, chronicle_heading, TextsTellOneChronicle, HasClauseFor, World, no_hands, EventsLeadWhereChangesLead, ArePredicatesOf, Resumes, chronicle_of_world, WhatIsToldIsCarriedOut, Spies, HasPredicate, spied_of, spies_in_order, ListedSpiesComeBack, predicate_total, saved_text, Refusal, Started, WrittenChroniclesAreReadAgain, GivesBack, loads, resumes, IsHistoryFault, of_text, of_step, of_chronicle, of_entry, IsHistoryRefused, OpensAs, SavedSessionsOpenAgain}
use Rattle.std.specs.FinSet as set
use Rattle.ghc_records.specs.declared.predicate.Predicate as written
use Rattle.ghcdb.proofs.SessionsOpened.{told}

-- a predicate that is written is in the set of what is written
pub held : (ps : List written.Predicate) (p : written.Predicate) → In p ps → HasPredicate (spied_of ps) p.name p.arity
held ps p i = set.contains-from_list predicate_total (map told ps) (told p) ∙ list_any-from_Contains (eq_by_cmp_equiv predicate_total) (told p) (map told ps) (in_contains (map told ps) (told p) (in_map told ps p i))

-- the predicates that a set lists have clauses where those of the set do
listed_known : (P : Program) (spies : Spies) → spied_of (spies_in_order spies) ≡ spies → ((f : List ℕ) (n : ℕ) → HasPredicate spies f n → HasClauseFor P f n) → ArePredicatesOf P (spies_in_order spies)
listed_known P spies back known p i = known p.name p.arity (subst (λ s. HasPredicate s p.name p.arity) back (held (spies_in_order spies) p i))

-- the first line says one version alone
one_version : (text : List ℕ) → IsLine text 0 heading → ¬ IsLine text 0 chronicle_heading
one_version text a b =
    let first : get_or (get_or (heading ∷ a.0 ∷ a.1) 0 []) 12 0 ≡ get_or (get_or (chronicle_heading ∷ b.0 ∷ b.1) 0 []) 12 0 = ap (λ ls. get_or (get_or ls 0 []) 12 0) (sym a.2 ∙ b.2) in
    omega (arith, first)

begins_so : (text : List ℕ) (c : Chronicle) → TellsChronicle text c → IsLine text 0 chronicle_heading
begins_so text c t = t.spies.entries.opening.begins

one_world : (v w : World) → ◌≡◌ {A = Result World Fault} (Ok v) (Ok w) → v ≡ w
one_world v w e = cc

-- On what was started, the text tells this chronicle, which is carried out in one way alone.
module _ (s : Started) (text : List ℕ) (c : Chronicle) (w : World) (spies : Spies) (tells : TellsChronicle text c) (one : TextsTellOneChronicle)
    (done : Resumes s.program s.query.goals s.query.variables c ⊥ (Ok w)) (same : (r : Result World Fault) → Resumes s.program s.query.goals s.query.variables c ⊥ r → r ≡ Ok w)
    (back : spied_of c.spies ≡ spies) where
  opens_so : GivesBack s text w spies
  opens_so = subst (λ t. GivesBack s text w t) back (resumes c tells done)

  told_so : (d : Chronicle) (r : Result World Fault) → TellsChronicle text d → Resumes s.program s.query.goals s.query.variables d ⊥ r → (d ≡ c) × (r ≡ Ok w)
  told_so d r t h = let e : d ≡ c = one.one text d c t tells in (e, same r (subst (λ x. Resumes s.program s.query.goals s.query.variables x ⊥ r) e h))

  opens_once : (v : World) (others : Spies) → GivesBack s text v others → (v ≡ w) × (others ≡ spies)
  opens_once v others (loads h t l) = absurd (one_version text t.begins (begins_so text c tells))
  opens_once v others (resumes d t r) = let so = told_so d (Ok v) t r in (one_world v w so.1, ap (λ x. spied_of x.spies) so.0 ∙ back)

  no_fault : (f : Fault) → ¬ IsHistoryFault s text f
  no_fault f (of_text other h) = other (begins_so text c tells)
  no_fault f (of_step h t l) = one_version text t.begins (begins_so text c tells)
  no_fault f (of_chronicle begins h) = one.never_wrong text c h.0 tells h.2
  no_fault f (of_entry d t r) = let clash : ◌≡◌ {A = Result World Fault} (Err f) (Ok w) = (told_so d (Err f) t r).1 in cc

  accepted_so : (r : Refusal) → ¬ IsHistoryRefused s (Some text) r
  accepted_so r h = let e : h.text ≡ text = cc in no_fault r.fault (subst (λ t. IsHistoryFault s t r.fault) e h.fault)

  opens_as : OpensAs s text w spies
  opens_as = record { opens = opens_so; only = opens_once; accepted = accepted_so }

-- what is carried out on a world's program and query is carried out on the same ones
moved : (P Q : Program) (a b : Query) (xs ys : List (List ℕ)) (c : Chronicle) (r : Result World Fault) → P ≡ Q → a ≡ b → xs ≡ ys → Resumes P a xs c ⊥ r → Resumes Q b ys c ⊥ r
moved P Q a b xs ys c r p q n h = subst (λ zs. Resumes Q b zs c ⊥ r) n (subst (λ g. Resumes Q g xs c ⊥ r) q (subst (λ R. Resumes R a xs c ⊥ r) p h))

pub opens_again : WrittenChroniclesAreReadAgain → TextsTellOneChronicle → WhatIsToldIsCarriedOut → EventsLeadWhereChangesLead → ListedSpiesComeBack → SavedSessionsOpenAgain
opens_again reads one carried led back s w spies session can =
    let ps = spies_in_order spies in
    let c = chronicle_of_world w ps in
    let o = w.opening in
    let known = listed_known s.program spies (back spies) session.spied in
    let done = carried w no_hands ps (led.1 w session.standing) (subst (λ P. ArePredicatesOf P ps) (sym session.program) known) in
    opens_as s (saved_text w spies) c w spies (reads.written c can) one (moved o.program s.program o.query s.query.goals o.names s.query.variables c (Ok w) session.program session.query session.names done.0)
    (λ r h. done.1 r (moved s.program o.program s.query.goals o.query s.query.variables o.names c r (sym session.program) (sym session.query) (sym session.names) h)) (back spies)
