-- A written program and a query are accepted as one program alone, or have one fault alone.
use Rattle.ghc_flat.proofs.Words.{◌≡◌, ℕ, ◌+◌, List, [], ◌∷◌, ◌++◌, length, inl, inr, refl, sym, ap, ◌∙◌, subst, arith, Some, None, slice_get, VarName, Fault, Repeated, Undefined, In, Goal, call, stream, Guard, Test, WrittenClause, WrittenQuery, IsWellAsked, AreWellWritten, IsWellWritten, IsWithinLimits, AreNumbered, Index, Clause, Program, Query, IsWellMade, AreDistinct, AreDefined, IsProgram, IsQuery, variables_of_list, variables_of_test, variables_of_goals, firsts, IsMadeOf, AreMadeOf, IsAcceptedAs, IsFirstTwice, IsNamed, IsRepeated, HasClause, AllCalls, IsFirstCallWithout, IsFaultless, AreFaultless, IsClauseFault, IsFirstFault, IsFault, IsFlatGuard, MakeTests, CheckIsExact, QueryFaultsAreTold, keys_of_written, Knows, IsIndexOf, AreSound, exact, in_at, at_of_in, in_middle, in_either, compare_splits}
use Rattle.ghc_flat.proofs.DistinctLemmas.{distinct_split}
use Rattle.ghc_flat.proofs.Tests.{make_once, all_variables_made}
use Rattle.ghc_flat.proofs.Numbers.{known, has_clause}
use Rattle.ghc_flat.proofs.Clauses.{faultless, made_clause, clause_made, call_name, call_arity}

same_twice : (xs : List VarName) (x y : VarName) → IsFirstTwice xs x → IsFirstTwice xs y → x ≡ y
same_twice xs x y p q =
    elim (compare_splits p.front q.front x y p.back q.back (sym p.splits ∙ q.splits)) [
      | inl e ↦ e.1
      | inr r ↦ elim r [
        | inl m ↦ absurd (distinct_split p.front x m.0 (subst AreDistinct m.1 q.distinct) p.before)
        | inr m ↦ absurd (distinct_split q.front y m.0 (subst AreDistinct m.1 p.distinct) q.before)
      ]
    ]

never_twice : (xs : List VarName) (x : VarName) → AreDistinct xs → ¬ IsFirstTwice xs x
never_twice xs x d p = distinct_split p.front x p.back (subst AreDistinct p.splits d) p.before

named_once : (w : WrittenClause) (x y : VarName) (v u : List ℕ) → x ≡ y → IsNamed w x v → IsNamed w y u → v ≡ u
named_once w x y v u e p q =
    let first : p.0 + 1 ≡ q.0 + 1 = ap (λ (z : VarName). z.place) (sym p.1 ∙ e ∙ q.1) in
    let place : p.0 ≡ q.0 = omega (arith, first) in
    let found : Some v ≡ Some u = sym p.2 ∙ ap (slice_get w.variables) place ∙ q.2 in
    cc

repeated_once : (w : WrittenClause) (v u : List ℕ) → IsRepeated w v → IsRepeated w u → v ≡ u
repeated_once w v u p q = named_once w p.0 q.0 v u (same_twice (variables_of_list w.head) p.0 q.0 p.1 q.1) p.2 q.2

module _ (D : List ℕ → ℕ → Type 0) where
  pub call_once : (gs : List Goal) (f h : List ℕ) (n k : ℕ) → IsFirstCallWithout D gs f n → IsFirstCallWithout D gs h k → (f ≡ h) × (n ≡ k)
  call_once gs f h n k p q =
      elim (compare_splits p.front q.front (call f p.arguments) (call h q.arguments) p.back q.back (sym p.splits ∙ q.splits)) [
        | inl e ↦ (call_name f h p.arguments q.arguments e.1, p.arity ∙ call_arity f h p.arguments q.arguments e.1 ∙ sym q.arity)
        | inr r ↦ elim r [
          | inl m ↦ absurd (p.without (subst (D f) (sym p.arity) (q.before f p.arguments (subst (In (call f p.arguments)) (sym m.1) (in_middle p.front (call f p.arguments) m.0)))))
          | inr m ↦ absurd (q.without (subst (D h) (sym q.arity) (p.before h q.arguments (subst (In (call h q.arguments)) (sym m.1) (in_middle q.front (call h q.arguments) m.0)))))
        ]
      ]

  pub no_call : (gs : List Goal) (f : List ℕ) (n : ℕ) → AllCalls D gs → ¬ IsFirstCallWithout D gs f n
  no_call gs f n all p = p.without (subst (D f) (sym p.arity) (all f p.arguments (subst (In (call f p.arguments)) (sym p.splits) (in_middle p.front (call f p.arguments) p.back))))

  clause_fault_once : (k : ℕ) (w : WrittenClause) (e d : Fault) → IsClauseFault D k w e → IsClauseFault D k w d → e ≡ d
  clause_fault_once k w e d (inl p) (inl q) = p.2 ∙ ap (Repeated k) (repeated_once w p.0 q.0 p.1 q.1) ∙ sym q.2
  clause_fault_once k w e d (inl p) (inr (inl q)) = absurd (never_twice (variables_of_list w.head) p.1.0 q.0 p.1.1)
  clause_fault_once k w e d (inl p) (inr (inr q)) = absurd (never_twice (variables_of_list w.head) p.1.0 q.0 p.1.1)
  clause_fault_once k w e d (inr (inl p)) (inl q) = absurd (never_twice (variables_of_list w.head) q.1.0 p.0 q.1.1)
  clause_fault_once k w e d (inr (inl p)) (inr (inl q)) = p.2 ∙ sym q.2
  clause_fault_once k w e d (inr (inl p)) (inr (inr q)) = absurd (p.1.2 (q.1 p.1.0 p.1.1))
  clause_fault_once k w e d (inr (inr p)) (inl q) = absurd (never_twice (variables_of_list w.head) q.1.0 p.0 q.1.1)
  clause_fault_once k w e d (inr (inr p)) (inr (inl q)) = absurd (q.1.2 (p.1 q.1.0 q.1.1))
  clause_fault_once k w e d (inr (inr p)) (inr (inr q)) =
      let same = call_once w.body p.2.0 q.2.0 p.2.1 q.2.1 p.2.2 q.2.2 in
      p.2.3 ∙ (λ i. Undefined (same.0 i) (same.1 i)) ∙ sym q.2.3

  clause_fault_no : (k : ℕ) (w : WrittenClause) (e : Fault) → IsFaultless D w → ¬ IsClauseFault D k w e
  clause_fault_no k w e s (inl p) = never_twice (variables_of_list w.head) p.1.0 s.linear p.1.1
  clause_fault_no k w e s (inr (inl p)) = p.1.2 (s.flat p.1.0 p.1.1)
  clause_fault_no k w e s (inr (inr p)) = no_call w.body p.2.0 p.2.1 s.defined p.2.2

  first_fault_once : (ws : List WrittenClause) (e d : Fault) → IsFirstFault D ws e → IsFirstFault D ws d → e ≡ d
  first_fault_once ws e d p q =
      elim (compare_splits p.front q.front p.clause q.clause p.back q.back (sym p.splits ∙ q.splits)) [
        | inl s ↦ clause_fault_once (length q.front + 1) q.clause e d (subst (λ u. IsClauseFault D (length q.front + 1) u e) s.1 (subst (λ f. IsClauseFault D (length f + 1) p.clause e) s.0 p.fault)) q.fault
        | inr r ↦ elim r [
          | inl m ↦ absurd (clause_fault_no (length p.front + 1) p.clause e (q.before p.clause (subst (In p.clause) (sym m.1) (in_middle p.front p.clause m.0))) p.fault)
          | inr m ↦ absurd (clause_fault_no (length q.front + 1) q.clause d (p.before q.clause (subst (In q.clause) (sym m.1) (in_middle q.front q.clause m.0))) q.fault)
        ]
      ]

  pub first_fault_no : (ws : List WrittenClause) (e : Fault) → AreFaultless D ws → ¬ IsFirstFault D ws e
  first_fault_no ws e all p = clause_fault_no (length p.front + 1) p.clause e (all p.clause (subst (In p.clause) (sym p.splits) (in_middle p.front p.clause p.back))) p.fault

-- the same, where another word says which calls are defined
module _ (D E : List ℕ → ℕ → Type 0) (to : (f : List ℕ) (n : ℕ) → D f n → E f n) (back : (f : List ℕ) (n : ℕ) → E f n → D f n) where
  pub calls_as : (gs : List Goal) → AllCalls D gs → AllCalls E gs
  calls_as gs all f ts i = to f (length ts) (all f ts i)

  pub first_call_as : (gs : List Goal) (f : List ℕ) (n : ℕ) → IsFirstCallWithout D gs f n → IsFirstCallWithout E gs f n
  first_call_as gs f n p = record { front = p.front; arguments = p.arguments; back = p.back; splits = p.splits; arity = p.arity; before = calls_as p.front p.before; without = λ e. p.without (back f n e) }

  pub faultless_as : (ws : List WrittenClause) → AreFaultless D ws → AreFaultless E ws
  faultless_as ws all w i = let s = all w i in record { linear = s.linear; flat = s.flat; defined = calls_as w.body s.defined }

  clause_fault_as : (k : ℕ) (w : WrittenClause) (e : Fault) → IsClauseFault D k w e → IsClauseFault E k w e
  clause_fault_as k w e (inl p) = inl p
  clause_fault_as k w e (inr (inl p)) = inr (inl p)
  clause_fault_as k w e (inr (inr p)) = inr (inr (p.0, p.1, (p.2.0, p.2.1, first_call_as w.body p.2.0 p.2.1 p.2.2, p.2.3)))

  pub first_fault_as : (ws : List WrittenClause) (e : Fault) → IsFirstFault D ws e → IsFirstFault E ws e
  first_fault_as ws e p = record { front = p.front; clause = p.clause; back = p.back; splits = p.splits; before = faultless_as p.front p.before; fault = clause_fault_as (length p.front + 1) p.clause e p.fault }

-- the index knows just the names and arities of the clauses
pub known_has : (ws : List WrittenClause) (i : Index) → IsIndexOf (keys_of_written ws) i → (f : List ℕ) (n : ℕ) → Knows i f n → HasClause ws f n
known_has ws i is f n k = has_clause ws 0 f n (λ e. k (is f n ∙ e))

pub has_known : (ws : List WrittenClause) (i : Index) → IsIndexOf (keys_of_written ws) i → (f : List ℕ) (n : ℕ) → HasClause ws f n → Knows i f n
has_known ws i is f n h e = known ws 0 f n h (sym (is f n) ∙ e)

-- calls are defined in the program where the written one has their clauses
pub defined_of_has : (ws : List WrittenClause) (P : Program) (gs : List Goal) → AreMadeOf ws P → AllCalls (HasClause ws) gs → AreDefined P gs
defined_of_has ws P gs m all f ts i =
    let h = all f ts i in
    let r = made_clause ws P m h.0 h.1 in
    let at = at_of_in P r.0 r.1 in
    (at.0 + 1, r.0, (at.0, refl, at.1), (r.2.name ∙ h.2, ap length r.2.head ∙ h.3))

pub has_of_defined : (ws : List WrittenClause) (P : Program) (gs : List Goal) → AreMadeOf ws P → AreDefined P gs → AllCalls (HasClause ws) gs
has_of_defined ws P gs m all f ts i =
    let d = all f ts i in
    let r = clause_made ws P m d.1 (in_at P d.2.0 d.1 d.2.2) in
    (r.0, r.1, sym r.2.name ∙ d.3.0, ap length (sym r.2.head) ∙ d.3.1)

-- sound clauses are a program
pub program_of : (ws : List WrittenClause) (P : Program) (i : Index) → IsIndexOf (keys_of_written ws) i → AreMadeOf ws P → AreSound i P → IsProgram P
program_of ws P i is m sound c j =
    let s = sound c j in
    record {
      flat = s.0.flat;
      linear = s.0.linear;
      defined = defined_of_has ws P c.body m (calls_as (Knows i) (HasClause ws) (known_has ws i is) (has_known ws i is) c.body s.1);
      numbered = s.0.numbered;
      closed = s.0.closed;
    }

pub query_of : (ws : List WrittenClause) (P : Program) (q : WrittenQuery) → IsWellAsked q → AreMadeOf ws P → AllCalls (HasClause ws) q.goals → IsQuery P q.goals
query_of ws P q ok m all = record { defined = defined_of_has ws P q.goals m all; numbered = ok.numbered; streams = ok.streams }

-- an accepted program has no fault
accepted_faultless : (ws : List WrittenClause) (gs : Query) (P : Program) → IsAcceptedAs ws gs P → AreFaultless (HasClause ws) ws
accepted_faultless ws gs P a w i =
    let r = made_clause ws P a.made w i in
    let s = a.program r.0 r.1 in
    faultless (HasClause ws) w r.0 r.2 s.flat s.linear (has_of_defined ws P r.0.body a.made s.defined)

pub accepted_no_fault : (ws : List WrittenClause) (gs : Query) (P : Program) (e : Fault) → IsAcceptedAs ws gs P → ¬ IsFault ws gs e
accepted_no_fault ws gs P e a (inl p) = first_fault_no (HasClause ws) ws e (accepted_faultless ws gs P a) p
accepted_no_fault ws gs P e a (inr p) = no_call (HasClause ws) gs p.1.0 p.1.1 (has_of_defined ws P gs a.made a.query.defined) p.1.2

-- a fault is the only one
pub fault_once : (ws : List WrittenClause) (gs : Query) (e d : Fault) → IsFault ws gs e → IsFault ws gs d → e ≡ d
fault_once ws gs e d (inl p) (inl q) = first_fault_once (HasClause ws) ws e d p q
fault_once ws gs e d (inl p) (inr q) = absurd (first_fault_no (HasClause ws) ws e q.0 p)
fault_once ws gs e d (inr p) (inl q) = absurd (first_fault_no (HasClause ws) ws d p.0 q)
fault_once ws gs e d (inr p) (inr q) =
    let same = call_once (HasClause ws) gs p.1.0 q.1.0 p.1.1 q.1.1 p.1.2 q.1.2 in
    p.1.3 ∙ (λ i. Undefined (same.0 i) (same.1 i)) ∙ sym q.1.3

-- a program is the only one
clause_once : (w : WrittenClause) (c d : Clause) → IsMadeOf w c → IsMadeOf w d → c ≡ d
clause_once w c d p q =
    let name = p.name ∙ sym q.name in
    let head = p.head ∙ sym q.head in
    let tests = make_once w.guards c.tests d.tests p.tests q.tests in
    let body = p.body ∙ sym q.body in
    λ i. record { name = name i; head = head i; tests = tests i; body = body i }

pub program_once : (ws : List WrittenClause) (P Q : Program) → AreMadeOf ws P → AreMadeOf ws Q → P ≡ Q
program_once [] [] [] p q = refl
program_once (w ∷ ws) (c ∷ P) (d ∷ Q) p q =
    let first = clause_once w c d p.0 q.0 in
    let rest = program_once ws P Q p.1 q.1 in
    λ i. first i ∷ rest i
program_once [] [] (d ∷ Q) p q = absurd q
program_once (w ∷ ws) (c ∷ P) [] p q = absurd q
program_once _ _ _ p q = absurd p

-- so the answer is the only one
-- what is answered is exact
pub check_exact : CheckIsExact
check_exact ws gs result = exact (λ P Q p q. program_once ws P Q p.made q.made) (fault_once ws gs) (λ P e p f. accepted_no_fault ws gs P e p f) result

-- guards that are all flat make tests
tests_of : (xs : List VarName) (gs : List Guard) → ((g : Guard) → In g gs → IsFlatGuard xs g) → (ts : List Test) × MakeTests gs ts × ((t : Test) (x : VarName) → In t ts → In x (variables_of_test t) → In x xs)
tests_of xs [] all = ([], refl, λ t x i j. absurd i)
tests_of xs (g ∷ gs) all =
    let first = all g (inl refl) in
    let rest = tests_of xs gs (λ h i. all h (inr i)) in
    (first.0 ++ rest.0, (first.0, rest.0, first.1, rest.1, refl), λ t x i j. elim (in_either first.0 rest.0 t i) [ inl k ↦ first.2 t x k j | inr k ↦ rest.2 t x k j ])

-- a clause without fault is made into one that is well made
make_clause : (D : List ℕ → ℕ → Type 0) (w : WrittenClause) → IsWellWritten w → IsFaultless D w → (c : Clause) × IsMadeOf w c × IsWellMade c × AllCalls D c.body
make_clause D w ok s =
    let tests = tests_of (variables_of_list w.head) w.guards s.flat in
    let same = sym (all_variables_made w.guards tests.0 tests.1) in (
      record { name = w.name; head = w.head; tests = tests.0; body = w.body },
      record { name = refl; head = refl; tests = tests.1; body = refl },
      record {
        flat = λ t x i j. tests.2 t x i j;
        linear = s.linear;
        numbered = subst (λ l. AreNumbered (variables_of_list w.head ++ l ++ variables_of_goals w.body)) same ok.numbered;
        closed = ok.closed;
        limited = subst (λ l. IsWithinLimits w.body (length (firsts [] (variables_of_list w.head ++ l ++ variables_of_goals w.body)))) same (subst (IsWithinLimits w.body) ok.named ok.limited);
      },
      s.defined,
    )

make_program : (D : List ℕ → ℕ → Type 0) (ws : List WrittenClause) → ((w : WrittenClause) → In w ws → IsWellWritten w) → AreFaultless D ws → (P : Program) × AreMadeOf ws P × ((c : Clause) → In c P → IsWellMade c × AllCalls D c.body)
make_program D [] ok s = ([], tt, λ c i. absurd i)
make_program D (w ∷ ws) ok s =
    let first = make_clause D w (ok w (inl refl)) (s w (inl refl)) in
    let rest = make_program D ws (λ v i. ok v (inr i)) (λ v i. s v (inr i)) in (
      first.0 ∷ rest.0,
      (first.1, rest.1),
      λ c i. elim i [
        | inl e ↦ subst (λ d. IsWellMade d × AllCalls D d.body) (sym e) (first.2, first.3)
        | inr j ↦ rest.2 c j
      ],
    )

-- clauses without fault are accepted with the empty query
accepted_alone : (ws : List WrittenClause) → AreWellWritten ws → AreFaultless (HasClause ws) ws → (P : Program) × IsAcceptedAs ws [] P
accepted_alone ws ok s =
    let made = make_program (HasClause ws) ws ok.each s in (
      made.0,
      record {
        made = made.1;
        program = λ c i.
            let t = made.2 c i in
            record { flat = t.0.flat; linear = t.0.linear; defined = defined_of_has ws made.0 c.body made.1 t.1; numbered = t.0.numbered; closed = t.0.closed };
        query = record {
          defined = λ f ts i. absurd i;
          numbered = λ i x e. let clash : None ≡ Some x = e in cc;
          streams = λ i k x e. let clash : None ≡ Some (stream k x) = e in cc;
        };
      },
    )

-- a fault is the query's where the program is accepted with the empty query
pub query_faults : QueryFaultsAreTold
query_faults ws gs e ok f = (
  λ p. accepted_alone ws ok p.0,
  λ a. elim f [ inl p ↦ absurd (first_fault_no (HasClause ws) ws e (accepted_faultless ws [] a.0 a.1) p) | inr p ↦ p ],
)
