-- Variables that are named are determined by the names of the text in order.
use Rattle.ghc_reader.proofs.Words.{or_from, same_name, ◌≡◌, ◌≢◌, ◌⊎◌, ℕ, ◌+◌, ◌<◌, zero, suc, List, [], ◌∷◌, ◌++◌, length, true, false, cond, Some, refl, sym, ap, ◌∙◌, subst, inl, inr, arith, slice_get, append_assoc, bytes_eq, eq_by_cmp, append-nil, length_push, slice_get_within, bytes_eq-Decides, VarName, name_cmp, firsts, Names, blank, IsCalled, AreNamed, Each, IsFresh}
use Rattle.std.proofs.lemmas.List.{length-append}
use Rattle.ghc_reader.proofs.Names.{get_left}
use Rattle.ghc_reader.proofs.Numbered.{number, is_seen, Seen, seen_none, seen_next, test_cases, Apart, apart_next}

-- Where a variable called v is met, it is x, and the names become the later ones.
abbrev pub MeetsCalled : Names → List ℕ → VarName → Names → Type 0
MeetsCalled names v x later =
    ((i : ℕ) × (slice_get names i ≡ Some v) × (v ≢ blank) × (x ≡ number (i + 1)) × (later ≡ names)) ⊎ (IsFresh names v × (x ≡ number (length names + 1)) × (later ≡ names ++ v ∷ []))

-- Where variables called vs are met in order, they are xs, and the names become the later ones.
abbrev pub MeetsEach : Names → List (List ℕ) → List VarName → Names → Type 0
MeetsEach names [] xs later = (xs ≡ []) × (later ≡ names)
MeetsEach names (v ∷ vs) xs later = (x : VarName) × (rest : List VarName) × (between : Names) × (xs ≡ x ∷ rest) × MeetsCalled names v x between × MeetsEach between vs rest later

-- the same names met lead to the same variable and the same names
one_met : (names : Names) (v : List ℕ) (x y : VarName) (a b : Names) → Apart names → MeetsCalled names v x a → MeetsCalled names v y b → (x ≡ y) × (a ≡ b)
one_met names v x y a b apart (inl h) (inl k) = (h.3 ∙ ap (λ i. number (i + 1)) (apart h.0 k.0 v h.1 k.1 h.2) ∙ sym k.3, h.4 ∙ sym k.4)
one_met names v x y a b apart (inl h) (inr k) = absurd (h.2 (k.0 h.0 h.1))
one_met names v x y a b apart (inr h) (inl k) = absurd (k.2 (h.0 k.0 k.1))
one_met names v x y a b apart (inr h) (inr k) = (h.1 ∙ sym k.1, h.2 ∙ sym k.2)

apart_met : (names : Names) (v : List ℕ) (x : VarName) (a : Names) → Apart names → MeetsCalled names v x a → Apart a
apart_met names v x a apart (inl h) = subst Apart (sym h.4) apart
apart_met names v x a apart (inr h) = subst Apart (sym h.2) (apart_next names v apart h.0)

one_run : (vs : List (List ℕ)) (names : Names) (xs ys : List VarName) (a b : Names) → Apart names → MeetsEach names vs xs a → MeetsEach names vs ys b → (xs ≡ ys) × (a ≡ b)
one_run [] names xs ys a b apart h k = (h.0 ∙ sym k.0, h.1 ∙ sym k.1)
one_run (v ∷ vs) names xs ys a b apart h k =
    let first = one_met names v h.0 k.0 h.2 k.2 apart h.4 k.4 in
    let rest = one_run vs h.2 h.1 k.1 a b (apart_met names v h.0 h.2 apart h.4) h.5 (subst (λ l. MeetsEach l vs k.1 b) (sym first.1) k.5) in
    (h.3 ∙ ap (λ x. x ∷ h.1) first.0 ∙ ap (λ l. k.0 ∷ l) rest.0 ∙ sym k.3, rest.1)

-- A run of the rest of the variables, of which those seen are known by the names so far.
record Run (names prefix : Names) (xs seen : List VarName) : Type 0 where
  rest : Names
  whole : names ≡ prefix ++ rest
  seen_is : Seen (length prefix) seen
  numbers : (i : ℕ) (x : VarName) → slice_get (firsts seen xs) i ≡ Some x → x ≡ number (length prefix + i + 1)
  count : length names ≡ length prefix + length (firsts seen xs)
  unseen : (j : ℕ) (x : VarName) → slice_get xs j ≡ Some x → IsCalled names blank x → is_seen x seen ≡ false
  alone : (i j : ℕ) (x : VarName) → slice_get xs i ≡ Some x → slice_get xs j ≡ Some x → IsCalled names blank x → i ≡ j

get_front : {X : Type 0} (xs ys : List X) (i : ℕ) (x : X) → i < length xs → slice_get (xs ++ ys) i ≡ Some x → slice_get xs i ≡ Some x
get_front [] ys i x less e = absurd (omega arith)
get_front (y ∷ xs) ys zero x less e = e
get_front (y ∷ xs) ys (suc i) x less e = get_front xs ys i x (omega arith) e

get_seam : {X : Type 0} (xs ys : List X) (x : X) → slice_get (xs ++ ys) (length xs) ≡ Some x → (zs : List X) × (ys ≡ x ∷ zs)
get_seam [] [] x e = cc
get_seam [] (y ∷ ys) x e = (ys, (let same : y ≡ x = cc in ap (λ z. z ∷ ys) same))
get_seam (y ∷ xs) ys x e = get_seam xs ys x e

pub none_left : {X : Type 0} (xs : List X) → length xs ≡ 0 → xs ≡ []
none_left [] e = refl
none_left (x ∷ xs) e = absurd (omega arith)

known_step : (names prefix : Names) (v : List ℕ) (x : VarName) (xs seen : List VarName) → Run names prefix (x ∷ xs) seen → IsCalled names v x → is_seen x seen ≡ true → MeetsCalled prefix v x prefix × Run names prefix xs seen
known_step names prefix v x xs seen r called found =
    let b = r.seen_is.below x found in
    let place : called.0 + 1 ≡ b.0 + 1 = ap (λ y. y.place) (sym called.2 ∙ b.2) in
    let index : called.0 ≡ b.0 = omega arith in
    let here : slice_get (prefix ++ r.rest) b.0 ≡ Some v = ap (λ l. slice_get l b.0) (sym r.whole) ∙ ap (slice_get names) (sym index) ∙ called.1 in
    let same : firsts seen (x ∷ xs) ≡ firsts seen xs = ap (λ t. cond t (firsts seen xs) (x ∷ firsts (x ∷ seen) xs)) found in
    let named : v ≢ blank = λ e. let no = r.unseen zero x refl (subst (λ w. IsCalled names w x) e called) in cc in (
      inl (b.0, get_front prefix r.rest b.0 v b.1 here, named, b.2, refl),
      record {
        rest = r.rest;
        whole = r.whole;
        seen_is = r.seen_is;
        numbers = λ i y e. r.numbers i y (ap (λ l. slice_get l i) same ∙ e);
        count = r.count ∙ ap (λ l. length prefix + length l) same;
        unseen = λ j y e c. r.unseen (suc j) y e c;
        alone = λ i j y e f c. let h = r.alone (suc i) (suc j) y e f c in cc;
      },
    )

next_step : (names prefix : Names) (v : List ℕ) (x : VarName) (xs seen : List VarName) → Apart names → Run names prefix (x ∷ xs) seen → IsCalled names v x → is_seen x seen ≡ false → MeetsCalled prefix v x (prefix ++ v ∷ []) × Run names (prefix ++ v ∷ []) xs (x ∷ seen)
next_step names prefix v x xs seen apart r called absent =
    let n = length prefix in
    let same : firsts seen (x ∷ xs) ≡ x ∷ firsts (x ∷ seen) xs = ap (λ t. cond t (firsts seen xs) (x ∷ firsts (x ∷ seen) xs)) absent in
    let x_is : x ≡ number (n + 1) = r.numbers zero x (ap (λ l. slice_get l zero) same) ∙ ap number (omega arith) in
    let place : called.0 + 1 ≡ n + 1 = ap (λ y. y.place) (sym called.2 ∙ x_is) in
    let index : called.0 ≡ n = omega arith in
    let at_n : slice_get names n ≡ Some v = ap (slice_get names) (sym index) ∙ called.1 in
    let seam = get_seam prefix r.rest v (ap (λ l. slice_get l n) (sym r.whole) ∙ at_n) in
    let longer : length (prefix ++ v ∷ []) ≡ n + 1 = length_push prefix v in (
      inr (fresh at_n, x_is, refl),
      record {
        rest = seam.0;
        whole = r.whole ∙ ap (λ l. prefix ++ l) seam.1 ∙ sym (append_assoc prefix (v ∷ []) seam.0);
        seen_is = subst (λ k. Seen k (x ∷ seen)) (sym longer) (seen_next n seen x x_is r.seen_is);
        numbers = λ i y e. r.numbers (suc i) y (ap (λ l. slice_get l (suc i)) same ∙ e) ∙ ap number (omega (arith, longer));
        count = r.count ∙ ap (λ l. n + length l) same ∙ omega (arith, longer);
        unseen = λ j y e c. elim (test_cases (eq_by_cmp name_cmp y x)) [
          | inl again ↦ absurd (twice j y e c (same_name y x again))
          | inr other ↦ or_from (eq_by_cmp name_cmp y x) (is_seen y seen) other (r.unseen (suc j) y e c)
        ];
        alone = λ i j y e f c. let h = r.alone (suc i) (suc j) y e f c in cc;
      },
    )
  where
    fresh : slice_get names (length prefix) ≡ Some v → IsFresh prefix v
    fresh at_n i e = elim (test_cases (bytes_eq v blank)) [
      | inl is ↦ (bytes_eq-Decides v blank).0 is
      | inr is ↦ let named : v ≢ blank = λ same. let yes = (bytes_eq-Decides v blank).1 same in cc in
          let again = apart i (length prefix) v (ap (λ l. slice_get l i) r.whole ∙ get_left prefix r.rest i v e) at_n named in
          absurd (omega (arith, again, slice_get_within prefix i v e))
    ]

    twice : (j : ℕ) (y : VarName) → slice_get xs j ≡ Some y → IsCalled names blank y → y ≡ x → ⊥
    twice j y e c same = let h = r.alone zero (suc j) y (ap Some (sym same)) e c in cc

run_is : (vs : List (List ℕ)) (xs : List VarName) (names prefix : Names) (seen : List VarName) → Apart names → Run names prefix xs seen → Each (IsCalled names) vs xs → MeetsEach prefix vs xs names
run_is [] [] names prefix seen apart r h =
    let none : r.rest ≡ [] = none_left r.rest (omega (arith, r.count, ap length r.whole, length-append prefix r.rest)) in
    (refl, r.whole ∙ ap (λ l. prefix ++ l) none ∙ append-nil prefix)
run_is (v ∷ vs) (x ∷ xs) names prefix seen apart r h = elim (test_cases (is_seen x seen)) [
  | inl found ↦ let step = known_step names prefix v x xs seen r h.0 found in (x, xs, prefix, refl, step.0, run_is vs xs names prefix seen apart step.1 h.1)
  | inr absent ↦ let step = next_step names prefix v x xs seen apart r h.0 absent in
      (x, xs, prefix ++ v ∷ [], refl, step.0, run_is vs xs names (prefix ++ v ∷ []) (x ∷ seen) apart step.1 h.1)
]
run_is vs xs names prefix seen apart r h = absurd h

-- Variables that are named are met in one way.
pub named_are_met : (vs : List (List ℕ)) (xs : List VarName) (names : Names) → AreNamed names xs → Each (IsCalled names) vs xs → MeetsEach [] vs xs names
named_are_met vs xs names n h = run_is vs xs names [] [] n.apart (record {
  rest = names;
  whole = refl;
  seen_is = seen_none;
  numbers = λ i x e. n.numbered i x e ∙ ap number (omega arith);
  count = n.named ∙ omega arith;
  unseen = λ j x e c. refl;
  alone = n.alone;
}) h

-- Texts with the same names have the same variables.
pub one_naming : (vs : List (List ℕ)) (xs ys : List VarName) (a b : Names) → AreNamed a xs → AreNamed b ys → Each (IsCalled a) vs xs → Each (IsCalled b) vs ys → (xs ≡ ys) × (a ≡ b)
one_naming vs xs ys a b n m h k = one_run vs [] xs ys a b (λ i j v e f g. cc) (named_are_met vs xs a n h) (named_are_met vs ys b m k)
