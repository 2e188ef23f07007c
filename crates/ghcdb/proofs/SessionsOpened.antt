-- What opens on program and query that are started is a session on them.
use Rattle.ghcdb.proofs.CitedWords.{◌≡◌, ℕ, true, false, List, [], ◌∷◌, map, inl, inr, refl, sym, ap, ◌∙◌, subst, Option, Some, None, list_any, eq_by_cmp, Equal-is, Contains-from_any, In, contains_in, Program, Opening, History, loaded_opening, Chronicle, World, Opens, IsSound, from_opening, EventsLeadWhereChangesLead, LegalIsReachable, HasClauseFor, IsStanding, ArePredicatesOf, IsCarriedOut, CarriedOutIsLegal, Predicate, Spies, HasPredicate, predicate, predicate_cmp, spied_of, predicate_total, predicate_antisymmetric, Started, IsStarted, OpensOn, loads, resumes, IsSessionOf, WhatOpensIsASession}
use Rattle.std.specs.FinSet as set
use Rattle.ghc_records.specs.declared.predicate.Predicate as written
use Rattle.ghc_core.specs.Load as load
use Rattle.ghc_core.specs.Resume as resume

-- ---- the predicates of a set

-- the predicate that is written
abbrev pub told : written.Predicate → Predicate
told p = predicate p.name p.arity

told_by : (ps : List written.Predicate) (q : Predicate) → In q (map told ps) → (p : written.Predicate) × In p ps × (told p ≡ q)
told_by [] q i = absurd i
told_by (p ∷ ps) q (inl e) = (p, inl refl, sym e)
told_by (p ∷ ps) q (inr i) = let r = told_by ps q i in (r.0, inr r.1, r.2)

-- a predicate of the set is written
pub is_written : (ps : List written.Predicate) (f : List ℕ) (n : ℕ) → HasPredicate (spied_of ps) f n → (p : written.Predicate) × In p ps × (told p ≡ predicate f n)
is_written ps f n h =
    let found : list_any (eq_by_cmp predicate_cmp (predicate f n)) (map told ps) ≡ true = sym (set.contains-from_list predicate_total (map told ps) (predicate f n)) ∙ h in
    told_by ps (predicate f n) (contains_in (map told ps) (predicate f n) (Contains-from_any (λ p q e. predicate_antisymmetric p q ((Equal-is (predicate_cmp p q)).0 e)) (predicate f n) (map told ps) found))

-- the predicates of the set have clauses where those that are written do
known_of : (P : Program) (ps : List written.Predicate) → ArePredicatesOf P ps → (f : List ℕ) (n : ℕ) → HasPredicate (spied_of ps) f n → HasClauseFor P f n
known_of P ps known f n h =
    let r = is_written ps f n h in
    subst (λ (q : Predicate). HasClauseFor P q.name q.arity) r.2 (known r.0 r.1)

pub none_spied : (f : List ℕ) (n : ℕ) → ¬ HasPredicate set.empty f n
none_spied f n h = let clash : true ≡ false = sym h ∙ set.contains-empty predicate_cmp (predicate f n) in cc

-- ---- what opens

-- program and query that are started are sound as an opening, with any steps loaded
pub sound : (p q : List ℕ) (s : Started) (h : History) → IsStarted p q s → IsSound (loaded_opening s.program s.query.goals s.query.variables h)
sound p q s h started =
    let named = started.reads_query.2.variables in
    (started.accepted.program, started.accepted.query, record { named = named.named; apart = named.apart })

-- a world of an opening on what was started, to which changes lead
session : (s : Started) (o : Opening) (w : World) (spies : Spies) → IsStanding w → w.opening ≡ o → o.program ≡ s.program → o.query ≡ s.query.goals → o.names ≡ s.query.variables
    → ((f : List ℕ) (n : ℕ) → HasPredicate spies f n → HasClauseFor s.program f n) → IsSessionOf s w spies
session s o w spies stands e program query names known = record {
  standing = stands;
  program = ap (λ (p : Opening). p.program) e ∙ program;
  query = ap (λ (p : Opening). p.query) e ∙ query;
  names = ap (λ (p : Opening). p.names) e ∙ names;
  spied = known;
}

module _ (legal : CarriedOutIsLegal) (reachable : LegalIsReachable) (led : EventsLeadWhereChangesLead) (p q : List ℕ) (s : Started) (started : IsStarted p q s) where
  opened_by : (h : History) (w : World) → Opens (loaded_opening s.program s.query.goals s.query.variables h) w → IsSessionOf s w set.empty
  opened_by h w opens =
      session s (loaded_opening s.program s.query.goals s.query.variables h) w set.empty (from_opening (sound p q s h started) opens) opens.opening refl refl refl (λ f n spied. absurd (none_spied f n spied))

  carried_by : (c : Chronicle) (w : World) → IsCarriedOut s.program s.query.goals s.query.variables c w → ArePredicatesOf s.program c.spies → IsSessionOf s w (spied_of c.spies)
  carried_by c w carried known =
      let o = loaded_opening s.program s.query.goals s.query.variables c.opening in
      let left = legal s.program s.query.goals s.query.variables c w (sound p q s c.opening started) carried in
      let told = reachable _ w left in
      let same : w.opening ≡ o = cc in
      session s o w (spied_of c.spies) (led.0 w told.1.0 told.1.1) same refl refl refl (known_of s.program c.spies known)

  pub opens_so : (history : Option (List ℕ)) (w : World) (spies : Spies) → OpensOn s history w spies → IsSessionOf s w spies
  opens_so None w spies opens = subst (λ t. IsSessionOf s w t) (sym opens.1) (opened_by (record { steps = []; next = 1 }) w opens.0)
  opens_so (Some text) w spies (loads h t (load.loads v opens)) = opened_by h w opens
  opens_so (Some text) w spies (resumes c t (resume.resumes v carried known)) = carried_by c w carried known

pub what_opens : CarriedOutIsLegal → LegalIsReachable → EventsLeadWhereChangesLead → WhatOpensIsASession
what_opens legal reachable led p q s history w spies started opens = opens_so legal reachable led p q s started history w spies opens
