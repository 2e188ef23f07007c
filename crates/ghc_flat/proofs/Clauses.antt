-- What is known of the clause that is made, and the faults of a written one.
use Rattle.ghc_flat.proofs.Words.{◌-◌, arith, ◌≡◌, ◌≢◌, ℕ, ◌+◌, ◌<◌, List, [], ◌∷◌, ◌++◌, length, filter, inl, inr, get_or, take, drop, refl, sym, ap, ◌∙◌, subst, Result, Err, IfErr, VarName, Fault, In, Tree, Goal, call, Bor, GoalView, Call, shown, Guard, WrittenClause, IsWellWritten, IsWithinLimits, AreNumbered, variables_of_written, is_stream, Test, Clause, Program, IsWellMade, IsFlat, IsLinear, AreDistinct, firsts, fresh_variables, variables_of_list, variables_of_test, variables_of_goals, variables_of_clause, IsMadeOf, AreMadeOf, MakeTests, IsFlatWritten, IsLinearWritten, IsNotFlat, IsFaultless, AreFaultless, AllCalls, IsFirstCallWithout, IsClauseFault, IsFirstFault, Rises, IsAmong, AreAmong, MakesAmong, splits_at, next_in, in_either}
use Rattle.ghc_flat.proofs.FreshVariables.{fresh_left}
use Rattle.ghc_flat.proofs.Rising.{rises_distinct, in_of_among}
use Rattle.ghc_flat.proofs.Tests.{made_by, all_variables_made, not_flat_guard}

-- the tests have variables of the head alone
abbrev pub TestsAmong : ℕ → List Test → Type 0
TestsAmong n ts = (t : Test) → In t ts → AreAmong n (variables_of_test t)

among_head : (w : WrittenClause) (n : ℕ) (x : VarName) → Rises 0 (variables_of_list w.head) → n ≡ length (variables_of_list w.head) → IsAmong n x → In x (variables_of_list w.head)
among_head w n x r e a = in_of_among (variables_of_list w.head) x r (subst (λ k. IsAmong k x) e a)

same_variables : (w : WrittenClause) (c : Clause) → IsMadeOf w c → variables_of_written w ≡ variables_of_clause c
same_variables w c m = sym (λ i. variables_of_list (m.head i) ++ all_variables_made w.guards c.tests m.tests i ++ variables_of_goals (m.body i))

pub well_made : (w : WrittenClause) (c : Clause) (n : ℕ) → IsWellWritten w → IsMadeOf w c → Rises 0 (variables_of_list w.head) → n ≡ length (variables_of_list w.head) → TestsAmong n c.tests → IsWellMade c
well_made w c n ok m r e among = record {
  flat = λ g x i j. subst (λ h. In x (variables_of_list h)) (sym m.head) (among_head w n x r e (among g i x j));
  linear = subst (λ h. AreDistinct (variables_of_list h)) (sym m.head) (rises_distinct (variables_of_list w.head) 0 r);
  numbered = subst AreNumbered (same_variables w c m) ok.numbered;
  closed = ap (λ b. filter is_stream b) m.body ∙ ok.closed;
  limited = subst (IsWithinLimits c.body) (ok.named ∙ ap (λ l. length (firsts [] l)) (same_variables w c m)) (subst (λ b. IsWithinLimits b (length w.variables)) (sym m.body) ok.limited);
}

-- the clause of a written one and its tests
abbrev clause_with : WrittenClause → List Test → Clause
clause_with v ts = record { name = v.name; head = v.head; tests = ts; body = v.body }

made_of : (v w : WrittenClause) (ts : List Test) → v ≡ w → MakeTests v.guards ts → IsMadeOf w (clause_with v ts)
made_of v w ts same m = record {
  name = ap (λ (u : WrittenClause). u.name) same;
  head = ap (λ (u : WrittenClause). u.head) same;
  tests = subst (λ (u : WrittenClause). MakeTests u.guards ts) same m;
  body = ap (λ (u : WrittenClause). u.body) same;
}

module _ (v w : WrittenClause) (ts : List Test) (n : ℕ) (same : v ≡ w) (ok : IsWellWritten w) (m : MakeTests v.guards ts) (r : Rises 0 (variables_of_list w.head)) (e : n ≡ length (variables_of_list w.head)) (among : TestsAmong n ts) where
  pub clause_of : IsWellMade (clause_with v ts)
  clause_of = well_made w (clause_with v ts) n ok (made_of v w ts same m) r e among

  -- its fresh variables are those that are left when so many stand in its head
  pub fresh_of : (k : ℕ) → k ≡ length w.variables - n → k ≡ length (fresh_variables (clause_with v ts))
  fresh_of k left =
      let made = made_of v w ts same m in
      let all = ok.named ∙ ap (λ l. length (firsts [] l)) (same_variables w (clause_with v ts) made) in
      let rest = fresh_left (clause_with v ts) (length w.variables) (subst (λ h. Rises 0 (variables_of_list h)) (sym made.head) r) clause_of.flat all in
      let heads = ap (λ h. length (variables_of_list h)) made.head in
      omega (arith, left, rest, heads, e)

pub linear_written : (w : WrittenClause) → Rises 0 (variables_of_list w.head) → IsLinearWritten w
linear_written w r = rises_distinct (variables_of_list w.head) 0 r

pub flat_written : (w : WrittenClause) (ts : List Test) (n : ℕ) → MakeTests w.guards ts → Rises 0 (variables_of_list w.head) → n ≡ length (variables_of_list w.head) → TestsAmong n ts → IsFlatWritten w
flat_written w ts n m r e among g i =
    let made = made_by w.guards ts m g i in
    (made.0, made.1, λ t x j k. among_head w n x r e (among t (made.2 t j) x k))

pub not_flat_written : (w : WrittenClause) (n : ℕ) → Rises 0 (variables_of_list w.head) → n ≡ length (variables_of_list w.head) → ((g : Guard) × In g w.guards × ((ts : List Test) → ¬ MakesAmong n g ts)) → IsNotFlat w
not_flat_written w n r e p = (p.0, p.1, not_flat_guard (variables_of_list w.head) n p.0 r e p.2)

-- a clause that is made well, of which each call is defined, is made of one without fault
pub faultless : (D : List ℕ → ℕ → Type 0) (w : WrittenClause) (c : Clause) → IsMadeOf w c → IsFlat c → IsLinear c → AllCalls D c.body → IsFaultless D w
faultless D w c m flat linear defined = record {
  linear = subst (λ h. AreDistinct (variables_of_list h)) m.head linear;
  flat = λ g i.
      let made = made_by w.guards c.tests m.tests g i in
      (made.0, made.1, λ t x j k. subst (λ h. In x (variables_of_list h)) m.head (flat t x (made.2 t j) k));
  defined = subst (AllCalls D) m.body defined;
}

-- the calls of one more goal
pub calls_next : (D : List ℕ → ℕ → Type 0) (gs : List Goal) (i : ℕ) (g : Goal) → i < length gs → g ≡ get_or gs i g → AllCalls D (take i gs)
    → ((f : List ℕ) (ts : List Tree) → g ≡ call f ts → D f (length ts)) → AllCalls D (take (i + 1) gs)
calls_next D gs i g h e before here f ts k = elim (next_in gs i g (call f ts) h e k) [ inl j ↦ before f ts j | inr s ↦ here f ts (sym s) ]

pub first_undefined : (D : List ℕ → ℕ → Type 0) (gs : List Goal) (i : ℕ) (g : Goal) (f : List ℕ) (ts : List Tree) → i < length gs → g ≡ get_or gs i g → AllCalls D (take i gs)
    → call f ts ≡ g → (¬ D f (length ts)) → IsFirstCallWithout D gs f (length ts)
first_undefined D gs i g f ts h e before s missing = record {
  front = take i gs;
  arguments = ts;
  back = drop (i + 1) gs;
  splits = splits_at gs i g h e ∙ ap (λ u. take i gs ++ u ∷ drop (i + 1) gs) (sym s);
  arity = refl;
  before = before;
  without = missing;
}

pub call_name : (f h : List ℕ) (ts us : List Tree) → call f ts ≡ call h us → f ≡ h
call_name f h ts us e = cc

pub call_arity : (f h : List ℕ) (ts us : List Tree) → call f ts ≡ call h us → length ts ≡ length us
call_arity f h ts us e = cc

pub same_call : (D : List ℕ → ℕ → Type 0) (f h : List ℕ) (ts us : List Tree) → call f ts ≡ call h us → D f (length ts) → D h (length us)
same_call D f h ts us e d = rw (sym (call_name f h ts us e), sym (call_arity f h ts us e)) d

-- one more clause
pub made_more : (ws : List WrittenClause) (w : WrittenClause) (P : Program) (c : Clause) → AreMadeOf ws P → IsMadeOf w c → AreMadeOf (ws ++ w ∷ []) (P ++ c ∷ [])
made_more [] w [] c m n = (n, tt)
made_more (v ∷ ws) w (d ∷ P) c m n = (m.0, made_more ws w P c m.1 n)
made_more _ w _ c m n = absurd m

-- a written clause of a program has its clause there
pub made_clause : (ws : List WrittenClause) (P : Program) → AreMadeOf ws P → (w : WrittenClause) → In w ws → (c : Clause) × In c P × IsMadeOf w c
made_clause [] [] m w i = absurd i
made_clause (v ∷ ws) (d ∷ P) m w (inl e) = (d, inl refl, subst (λ u. IsMadeOf u d) (sym e) m.0)
made_clause (v ∷ ws) (d ∷ P) m w (inr i) = let r = made_clause ws P m.1 w i in (r.0, inr r.1, r.2)
made_clause _ _ m w i = absurd m

pub clause_made : (ws : List WrittenClause) (P : Program) → AreMadeOf ws P → (c : Clause) → In c P → (w : WrittenClause) × In w ws × IsMadeOf w c
clause_made [] [] m c i = absurd i
clause_made (v ∷ ws) (d ∷ P) m c (inl e) = (v, inl refl, subst (IsMadeOf v) (sym e) m.0)
clause_made (v ∷ ws) (d ∷ P) m c (inr i) = let r = clause_made ws P m.1 c i in (r.0, inr r.1, r.2)
clause_made _ _ m c i = absurd m

-- clauses that are sound are made of ones without fault
pub all_faultless : (D : List ℕ → ℕ → Type 0) (ws : List WrittenClause) (P : Program) → AreMadeOf ws P → ((c : Clause) → In c P → IsWellMade c × AllCalls D c.body) → AreFaultless D ws
all_faultless D ws P m sound w i =
    let r = made_clause ws P m w i in
    let s = sound r.0 r.1 in
    faultless D w r.0 r.2 s.0.flat s.0.linear s.1

-- what is lent as no call is none
pub not_a_call : (v : GoalView) (f : List ℕ) (ts : List Tree) → ((g : Bor (List ℕ)) (us : Bor (List Tree)) → v ≢ Call g us) → shown v ≡ call f ts → ⊥
not_a_call (Call g us) f ts h e = h g us refl
not_a_call _ f ts h e = cc

-- a fault that is passed on
pub passed : {T : Type 0} (F : Fault → Type 0) (r : Result T Fault) (d e : Fault) → r ≡ Err d → d ≡ e → F e → IfErr r F
passed F r d e p q f = subst (λ x. IfErr x F) (sym (p ∙ ap Err q)) f

-- the fault of the clause after the ones that were checked
pub fault_behind : (D : List ℕ → ℕ → Type 0) (ws : List WrittenClause) (yielded : List WrittenClause) (P : Program) (w : WrittenClause) (m : ℕ) (e : Fault) → yielded ≡ take (length yielded) ws → length yielded < length ws → w ≡ get_or ws (length yielded) w
    → AreMadeOf yielded P → ((c : Clause) → In c P → IsWellMade c × AllCalls D c.body) → m ≡ length yielded + 1 → IsClauseFault D m w e → IsFirstFault D ws e
fault_behind D ws yielded P w m e same h at made sound place f = record {
  front = yielded;
  clause = w;
  back = drop (length yielded + 1) ws;
  splits = splits_at ws (length yielded) w h at ∙ ap (λ l. l ++ w ∷ drop (length yielded + 1) ws) (sym same);
  before = all_faultless D yielded P made sound;
  fault = subst (λ k. IsClauseFault D k w e) place f;
}

-- one sound clause more
pub sound_more : (D : List ℕ → ℕ → Type 0) (P : Program) (c : Clause) → ((d : Clause) → In d P → IsWellMade d × AllCalls D d.body) → IsWellMade c → AllCalls D c.body → (d : Clause) → In d (P ++ c ∷ []) → IsWellMade d × AllCalls D d.body
sound_more D P c all ok calls d i = elim (in_either P (c ∷ []) d i) [
  | inl j ↦ all d j
  | inr j ↦ elim j [ inl s ↦ (subst IsWellMade (sym s) ok, subst (λ (u : Clause). AllCalls D u.body) (sym s) calls) | inr none ↦ absurd none ]
]
