-- The numbers of the clauses of a name and arity.
use Rattle.ghc_flat.proofs.Words.{◌≡◌, ◌≢◌, ℕ, zero, suc, ◌+◌, ◌<◌, ◌≤◌, true, false, cond, ◌&&◌, List, [], ◌∷◌, ◌++◌, length, slice_index, inl, inr, refl, sym, ap, ◌∙◌, subst, arith, nat_eq, bytes_eq, Some, None, slice_get, IsStrictlyIncreasing, bytes_eq-Decides, and_parts, eq-eqb, eqb-true, length-map, map_push, In, WrittenClause, Clause, Program, IsClause, AreMadeOf, HasClause, Index, IsIndexOf, numbers_at, AreNumbersFor, keys_of_program, keys_of_written, is_same_key, numbers_from}

-- what the test of a key says
pub same_key : (f : List ℕ) (n : ℕ) (p : List ℕ × ℕ) → is_same_key f n p ≡ true → (p.0 ≡ f) × (p.1 ≡ n)
same_key f n p e = let parts = and_parts (bytes_eq p.0 f) (nat_eq p.1 n) e in ((bytes_eq-Decides p.0 f).0 parts.0, eqb-true p.1 n parts.1)

pub key_itself : (f : List ℕ) (n : ℕ) (p : List ℕ × ℕ) → p.0 ≡ f → p.1 ≡ n → is_same_key f n p ≡ true
key_itself f n p e d = ap (λ b. b && nat_eq p.1 n) ((bytes_eq-Decides p.0 f).1 e) ∙ eq-eqb p.1 n d

-- a number is that of one clause
pub clause_once : (P : Program) {k : ℕ} {c d : Clause} → IsClause P k c → IsClause P k d → c ≡ d
clause_once P {c = c} {d = d} p q =
    let same : p.0 ≡ q.0 = omega (arith, p.1, q.1) in
    let both : Some c ≡ Some d = sym p.2 ∙ ap (λ i. slice_get P i) same ∙ q.2 in
    cc

-- the numbers of one key more
pub numbers_push : (ps : List (List ℕ × ℕ)) (k : ℕ) (p : List ℕ × ℕ) (f : List ℕ) (n : ℕ)
    → numbers_from k (ps ++ p ∷ []) f n ≡ numbers_from k ps f n ++ cond (is_same_key f n p) ((k + length ps + 1) ∷ []) []
numbers_push [] k p f n = let same : k + 1 ≡ k + 0 + 1 = omega arith in ap (λ m. cond (is_same_key f n p) (m ∷ []) []) same
numbers_push (q ∷ ps) k p f n =
    let place : (k + 1) + length ps + 1 ≡ k + length (q ∷ ps) + 1 = omega arith in
    let rest = numbers_push ps (k + 1) p f n ∙ ap (λ m. numbers_from (k + 1) ps f n ++ cond (is_same_key f n p) (m ∷ []) []) place in
    elim (is_same_key f n q) as (λ b. cond b ((k + 1) ∷ numbers_from (k + 1) (ps ++ p ∷ []) f n) (numbers_from (k + 1) (ps ++ p ∷ []) f n)
    ≡ cond b ((k + 1) ∷ numbers_from (k + 1) ps f n) (numbers_from (k + 1) ps f n) ++ cond (is_same_key f n p) ((k + length (q ∷ ps) + 1) ∷ []) []) [
      | true ↦ ap (λ l. (k + 1) ∷ l) rest
      | false ↦ rest
    ]

-- a clause of the name and arity, at the place i
abbrev pub IsAt : Program → List ℕ → ℕ → ℕ → ℕ → Type 0
IsAt P f n k j = (i : ℕ) × (c : Clause) × (j ≡ k + i + 1) × (slice_get P i ≡ Some c) × (c.name ≡ f) × (length c.head ≡ n)

numbers_sound : (P : Program) (k : ℕ) (f : List ℕ) (n j : ℕ) → In j (numbers_from k (keys_of_program P) f n) → IsAt P f n k j
numbers_sound [] k f n j h = absurd h
numbers_sound (c ∷ P) k f n j h =
    let later : IsAt P f n (k + 1) j → IsAt (c ∷ P) f n k j = λ r. let place : (k + 1) + r.0 + 1 ≡ k + suc r.0 + 1 = omega arith in (suc r.0, r.1, r.2 ∙ place, r.3, r.4, r.5) in
    elim (is_same_key f n (c.name, length c.head)) as (λ b. is_same_key f n (c.name, length c.head) ≡ b
    → In j (cond b ((k + 1) ∷ numbers_from (k + 1) (keys_of_program P) f n) (numbers_from (k + 1) (keys_of_program P) f n)) → IsAt (c ∷ P) f n k j) [
      | true ↦ λ e i. elim i [
        | inl s ↦ let key = same_key f n (c.name, length c.head) e in let place : k + 1 ≡ k + 0 + 1 = omega arith in (0, c, s ∙ place, refl, key.0, key.1)
        | inr i ↦ later (numbers_sound P (k + 1) f n j i)
      ]
      | false ↦ λ e i. later (numbers_sound P (k + 1) f n j i)
    ] refl h

numbers_complete : (P : Program) (k : ℕ) (f : List ℕ) (n j : ℕ) → IsAt P f n k j → In j (numbers_from k (keys_of_program P) f n)
numbers_complete [] k f n j (i, c, e, at, name, arity) = let clash : None ≡ Some c = at in cc
numbers_complete (d ∷ P) k f n j (zero, c, e, at, name, arity) =
    let same : d ≡ c = cc in
    let yes : is_same_key f n (d.name, length d.head) ≡ true = key_itself f n (d.name, length d.head) (ap (λ (x : Clause). x.name) same ∙ name) (ap (λ (x : Clause). length x.head) same ∙ arity) in
    let place : j ≡ k + 1 = omega (arith, e) in
    subst (λ b. In j (cond b ((k + 1) ∷ numbers_from (k + 1) (keys_of_program P) f n) (numbers_from (k + 1) (keys_of_program P) f n))) (sym yes) (inl place)
numbers_complete (d ∷ P) k f n j (suc i, c, e, at, name, arity) =
    let place : j ≡ (k + 1) + i + 1 = omega (arith, e) in
    let rest = numbers_complete P (k + 1) f n j (i, c, place, at, name, arity) in
    elim (is_same_key f n (d.name, length d.head)) as (λ b. In j (cond b ((k + 1) ∷ numbers_from (k + 1) (keys_of_program P) f n) (numbers_from (k + 1) (keys_of_program P) f n))) [
      | true ↦ inr rest
      | false ↦ rest
    ]

-- each number is above k, and the next above it
abbrev pub Climbs : ℕ → List ℕ → Type 0
Climbs k [] = Unit {0}
Climbs k (j ∷ js) = (k < j) × Climbs j js

pub climbs_lower : (k m : ℕ) (js : List ℕ) → k ≤ m → Climbs m js → Climbs k js
climbs_lower k m [] l c = tt
climbs_lower k m (j ∷ js) l c = let above : m < j = c.0 in (omega (arith, l, above), c.1)

pub numbers_climb : (ps : List (List ℕ × ℕ)) (k : ℕ) (f : List ℕ) (n : ℕ) → Climbs k (numbers_from k ps f n)
numbers_climb [] k f n = tt
numbers_climb (p ∷ ps) k f n =
    elim (is_same_key f n p) as (λ b. Climbs k (cond b ((k + 1) ∷ numbers_from (k + 1) ps f n) (numbers_from (k + 1) ps f n))) [
      | true ↦ (omega arith, numbers_climb ps (k + 1) f n)
      | false ↦ climbs_lower k (k + 1) (numbers_from (k + 1) ps f n) (omega arith) (numbers_climb ps (k + 1) f n)
    ]

climbs_increasing : (k : ℕ) (js : List ℕ) → Climbs k js → IsStrictlyIncreasing js
climbs_increasing k (j ∷ h ∷ js) c zero l = c.1.0
climbs_increasing k (j ∷ h ∷ js) c (suc i) l =
    let rest = climbs_increasing j (h ∷ js) c.1 i (omega arith) in
    let same : suc i + 1 ≡ suc (i + 1) = omega arith in
    subst (λ m. slice_index (h ∷ js) i < slice_index (j ∷ h ∷ js) m) (sym same) rest
climbs_increasing k _ c i l = absurd (omega arith)

-- the look-up of the index is exact
pub numbers_for : (P : Program) (f : List ℕ) (n : ℕ) → AreNumbersFor P f n (numbers_from 0 (keys_of_program P) f n)
numbers_for P f n = record {
  «exactly» = λ k. (
    (λ i. let r = numbers_sound P 0 f n k i in let place : k ≡ r.0 + 1 = omega (arith, r.2) in (r.1, (r.0, place, r.3), r.4, r.5)),
    (λ h. let at = h.1 in let place : k ≡ 0 + at.0 + 1 = omega (arith, at.1) in numbers_complete P 0 f n k (at.0, h.0, place, at.2, h.2, h.3)),
  );
  increasing = climbs_increasing 0 (numbers_from 0 (keys_of_program P) f n) (numbers_climb (keys_of_program P) 0 f n);
}

-- a program has the keys of the clauses that it is made of
pub made_keys : (ws : List WrittenClause) (P : Program) → AreMadeOf ws P → keys_of_written ws ≡ keys_of_program P
made_keys [] [] m = refl
made_keys (w ∷ ws) (c ∷ P) m =
    let name : w.name ≡ c.name = sym m.0.name in
    let arity : length w.head ≡ length c.head = ap length (sym m.0.head) in
    let rest = made_keys ws P m.1 in
    λ i. (name i, arity i) ∷ rest i
made_keys _ _ m = absurd m

-- the index knows a name and arity where a written clause has them
pub known : (ws : List WrittenClause) (k : ℕ) (f : List ℕ) (n : ℕ) → HasClause ws f n → numbers_from k (keys_of_written ws) f n ≢ []
known [] k f n h e = absurd h.1
known (w ∷ ws) k f n h e =
    elim (is_same_key f n (w.name, length w.head)) as (λ b. is_same_key f n (w.name, length w.head) ≡ b
    → cond b ((k + 1) ∷ numbers_from (k + 1) (keys_of_written ws) f n) (numbers_from (k + 1) (keys_of_written ws) f n) ≡ [] → ⊥) [
      | true ↦ λ d q. cc
      | false ↦ λ d q. elim h.1 [
        | inl s ↦ let yes : is_same_key f n (w.name, length w.head) ≡ true = key_itself f n (w.name, length w.head) (ap (λ (x : WrittenClause). x.name) (sym s) ∙ h.2) (ap (λ (x : WrittenClause). length x.head) (sym s) ∙ h.3) in let clash : true ≡ false = sym yes ∙ d in cc
        | inr i ↦ known ws (k + 1) f n (h.0, i, h.2, h.3) q
      ]
    ] refl e

pub has_clause : (ws : List WrittenClause) (k : ℕ) (f : List ℕ) (n : ℕ) → numbers_from k (keys_of_written ws) f n ≢ [] → HasClause ws f n
has_clause [] k f n h = absurd (h refl)
has_clause (w ∷ ws) k f n h =
    elim (is_same_key f n (w.name, length w.head)) as (λ b. is_same_key f n (w.name, length w.head) ≡ b
    → (cond b ((k + 1) ∷ numbers_from (k + 1) (keys_of_written ws) f n) (numbers_from (k + 1) (keys_of_written ws) f n) ≢ []) → HasClause (w ∷ ws) f n) [
      | true ↦ λ d q. let key = same_key f n (w.name, length w.head) d in (w, inl refl, key.0, key.1)
      | false ↦ λ d q. let r = has_clause ws (k + 1) f n q in (r.0, inr r.1, r.2, r.3)
    ] refl h

-- one clause more
pub index_more : (ws : List WrittenClause) (w : WrittenClause) (old new : Index) (m : ℕ) → IsIndexOf (keys_of_written ws) old → m ≡ length ws + 1
    → ((f : List ℕ) (n : ℕ) → numbers_at new f n ≡ numbers_at old f n ++ cond (is_same_key f n (w.name, length w.head)) (m ∷ []) [])
    → IsIndexOf (keys_of_written (ws ++ w ∷ [])) new
index_more ws w old new m is e more f n =
    let many : length (keys_of_written ws) ≡ length ws = length-map ws _ in
    let pushed : keys_of_written (ws ++ w ∷ []) ≡ keys_of_written ws ++ (w.name, length w.head) ∷ [] = map_push _ ws w in
    let same : m ≡ 0 + length (keys_of_written ws) + 1 = omega (arith, e, many) in
    more f n ∙ ap (λ l. l ++ cond (is_same_key f n (w.name, length w.head)) (m ∷ []) []) (is f n)
    ∙ ap (λ k. numbers_from 0 (keys_of_written ws) f n ++ cond (is_same_key f n (w.name, length w.head)) (k ∷ []) []) same
    ∙ sym (numbers_push (keys_of_written ws) 0 (w.name, length w.head) f n) ∙ ap (λ ps. numbers_from 0 ps f n) (sym pushed)
