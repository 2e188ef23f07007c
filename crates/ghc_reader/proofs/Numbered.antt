-- Variables that are met from no names on are numbered by first occurrence, each with its name.
use Rattle.ghc_reader.proofs.Words.{◌≡◌, ◌≢◌, ◌⊎◌, ℕ, ◌+◌, ◌<◌, zero, suc, List, [], ◌∷◌, ◌++◌, length, Bool, true, false, cond, Some, refl, sym, ap, ◌∙◌, subst, inl, inr, arith, slice_get, list_any, eq_by_cmp, cases_lt, or_cases, or_left, or_right, length_push, slice_get_within, VarName, name_cmp, firsts, itself, same_name, Names, blank, IsCalled, AreNamed, IsFresh, IsKnown, Meets, MeetsAll, false≢true, false_from_ne_true}
use Rattle.ghc_reader.proofs.Names.{get_left, get_last, get_push}
use Rattle.ghc_reader.proofs.Scopes.{grows, grows_met, grows_twice, called_still}

-- the variable of that number
abbrev pub number : ℕ → VarName
number n = record { step = 0; place = n }

-- whether the variable is among those seen
abbrev pub is_seen : VarName → List VarName → Bool
is_seen x seen = list_any (eq_by_cmp name_cmp x) seen

-- So many variables are seen, and these are `_0_1` and so on.
pub record Seen (n : ℕ) (seen : List VarName) : Type 0 where
  pub below : (x : VarName) → is_seen x seen ≡ true → (i : ℕ) × (i < n) × (x ≡ number (i + 1))
  pub all : (i : ℕ) → i < n → is_seen (number (i + 1)) seen ≡ true

pub test_cases : (b : Bool) → (b ≡ true) ⊎ (b ≡ false)
test_cases true = inl refl
test_cases false = inr refl

pub seen_none : Seen 0 []
seen_none = record { below = λ x e. absurd (false≢true e); all = λ i h. absurd (omega arith) }

pub seen_next : (n : ℕ) (seen : List VarName) (x : VarName) → x ≡ number (n + 1) → Seen n seen → Seen (n + 1) (x ∷ seen)
seen_next n seen x is s = record { below = below; all = all }
  where
    below : (y : VarName) → is_seen y (x ∷ seen) ≡ true → (i : ℕ) × (i < n + 1) × (y ≡ number (i + 1))
    below y e = elim (or_cases (eq_by_cmp name_cmp y x) (is_seen y seen) e) [ inl h ↦ (n, omega arith, same_name y x h ∙ is) | inr h ↦ let b = s.below y h in (b.0, omega (arith, b.1), b.2) ]

    all : (i : ℕ) → i < n + 1 → is_seen (number (i + 1)) (x ∷ seen) ≡ true
    all i h = elim (cases_lt i n) [
      | inl less ↦ or_right (eq_by_cmp name_cmp (number (i + 1)) x) (is_seen (number (i + 1)) seen) (s.all i less)
      | inr more ↦ let at : i ≡ n = omega arith in
          or_left (eq_by_cmp name_cmp (number (i + 1)) x) (is_seen (number (i + 1)) seen)
          (subst (λ y. eq_by_cmp name_cmp (number (i + 1)) y ≡ true) (ap (λ k. number (k + 1)) at ∙ sym is) (itself (number (i + 1))))
    ]

known_is_seen : (names : Names) (seen : List VarName) (x : VarName) → Seen (length names) seen → IsKnown names x → is_seen x seen ≡ true
known_is_seen names seen x s k = ap (λ y. is_seen y seen) k.4 ∙ s.all k.0 (slice_get_within names k.0 k.1 k.2)

next_is_unseen : (n : ℕ) (seen : List VarName) (x : VarName) → Seen n seen → x ≡ number (n + 1) → is_seen x seen ≡ false
next_is_unseen n seen x s is = false_from_ne_true _ (λ found.
    let b = s.below x found in
    let same_place : n + 1 ≡ b.0 + 1 = ap (λ y. y.place) (sym is ∙ b.2) in
    omega (arith, b.1, same_place))

-- From these names on, the variables that are met first are the next numbers, and the later names are as many more.
record Follow (names later : Names) (new : List VarName) : Type 0 where
  numbers : (i : ℕ) (x : VarName) → slice_get new i ≡ Some x → x ≡ number (length names + i + 1)
  count : length later ≡ length names + length new

follow : (xs : List VarName) (names later : Names) (seen : List VarName) → Seen (length names) seen → MeetsAll names xs later → Follow names later (firsts seen xs)
follow [] names later seen s m = record { numbers = λ i x e. nothing i x e; count = ap length m ∙ omega arith }
  where
    nothing : (i : ℕ) (x : VarName) → slice_get [] i ≡ Some x → x ≡ number (length names + i + 1)
    nothing i x e = cc
follow (x ∷ xs) names later seen s m = elim m.1 [
  | inl known ↦ let same : firsts seen (x ∷ xs) ≡ firsts seen xs = ap (λ b. cond b (firsts seen xs) (x ∷ firsts (x ∷ seen) xs)) (known_is_seen names seen x s known.0) in
      subst (Follow names later) (sym same) (follow xs names later seen s (subst (λ l. MeetsAll l xs later) known.1 m.2))
  | inr next ↦ let same : firsts seen (x ∷ xs) ≡ x ∷ firsts (x ∷ seen) xs = ap (λ b. cond b (firsts seen xs) (x ∷ firsts (x ∷ seen) xs)) (next_is_unseen (length names) seen x s next.2) in
      let longer : length m.0 ≡ length names + 1 = ap length next.3 ∙ length_push names next.0 in
      let rest = follow xs m.0 later (x ∷ seen) (subst (λ n. Seen n (x ∷ seen)) (sym longer) (seen_next (length names) seen x next.2 s)) m.2 in
      subst (Follow names later) (sym same) (one_more names m.0 later x (firsts (x ∷ seen) xs) longer next.2 rest)
]
  where
    one_more : (names between later : Names) (x : VarName) (new : List VarName) → length between ≡ length names + 1 → x ≡ number (length names + 1) → Follow between later new → Follow names later (x ∷ new)
    one_more names between later x new longer is f = record { numbers = numbers; count = f.count ∙ omega (arith, longer) }
      where
        numbers : (i : ℕ) (y : VarName) → slice_get (x ∷ new) i ≡ Some y → y ≡ number (length names + i + 1)
        numbers zero y e = let first : y ≡ x = cc in first ∙ is ∙ ap number (omega arith)
        numbers (suc i) y e = f.numbers i y e ∙ ap number (omega (arith, longer))

-- no name but `_` is that of two
abbrev pub Apart : Names → Type 0
Apart names = (i j : ℕ) (v : List ℕ) → slice_get names i ≡ Some v → slice_get names j ≡ Some v → v ≢ blank → i ≡ j

pub apart_next : (names : Names) (v : List ℕ) → Apart names → IsFresh names v → Apart (names ++ v ∷ [])
apart_next names v apart fresh i j w at_i at_j named =
    elim (get_push names v i w at_i) [
      | inl old_i ↦ elim (get_push names v j w at_j) [ inl old_j ↦ apart i j w old_i old_j named | inr new_j ↦ absurd (clash i new_j.1 old_i) ]
      | inr new_i ↦ elim (get_push names v j w at_j) [ inl old_j ↦ absurd (clash j new_i.1 old_j) | inr new_j ↦ new_i.0 ∙ sym new_j.0 ]
    ]
  where
    clash : (k : ℕ) → w ≡ v → slice_get names k ≡ Some w → ⊥
    clash k same old = named (same ∙ fresh k (old ∙ ap Some same))

apart_all : (xs : List VarName) (names later : Names) → Apart names → MeetsAll names xs later → Apart later
apart_all [] names later apart m = subst Apart (sym m) apart
apart_all (x ∷ xs) names later apart m = apart_all xs m.0 later (between m.1) m.2
  where
    between : Meets names x m.0 → Apart m.0
    between (inl known) = subst Apart (sym known.1) apart
    between (inr next) = subst Apart (sym next.3) (apart_next names next.0 apart next.1)

-- one place has one name
pub called_one : (names : Names) (v : List ℕ) (w : List ℕ) (i : ℕ) (x : VarName) → slice_get names i ≡ Some v → x ≡ number (i + 1) → IsCalled names w x → w ≡ v
called_one names v w i x at is c =
    let place : c.0 + 1 ≡ i + 1 = ap (λ y. y.place) (sym c.2 ∙ is) in
    let same_index : c.0 ≡ i = omega arith in
    let same_name : Some w ≡ Some v = sym c.1 ∙ ap (slice_get names) same_index ∙ at in
    cc

-- a variable called `_` that is known is not met again
blank_unmet : (xs : List VarName) (names later : Names) (x : VarName) (k : ℕ) → MeetsAll names xs later → IsCalled names blank x → slice_get xs k ≡ Some x → ⊥
blank_unmet [] names later x k m c e = cc
blank_unmet (y ∷ xs) names later x zero m c e =
    let first : y ≡ x = cc in
    elim m.1 [
      | inl known ↦ let k = known.0 in k.3 (sym (called_one names k.1 blank k.0 x k.2 (sym first ∙ k.4) c))
      | inr next ↦ let place : length names + 1 ≡ c.0 + 1 = ap (λ z. z.place) (sym next.2 ∙ first ∙ c.2) in absurd (omega (arith, slice_get_within names c.0 blank c.1, place))
    ]
blank_unmet (y ∷ xs) names later x (suc k) m c e = blank_unmet xs m.0 later x k m.2 (called_still names m.0 blank x (grows_met names m.0 y m.1) c) e

-- the first variable, if it is called `_`, does not stand again
once : (xs : List VarName) (names between later : Names) (x : VarName) (k : ℕ) → Meets names x between → MeetsAll between xs later → IsCalled later blank x → slice_get xs k ≡ Some x → ⊥
once xs names between later x k (inl known) m c e =
    let is = known.0 in
    let grow = grows_twice names between later (grows_met names between x (inl known)) (grows xs between later m) in
    let kept : slice_get later is.0 ≡ Some is.1 = subst (λ l. slice_get l is.0 ≡ Some is.1) (sym grow.1) (get_left names grow.0 is.0 is.1 is.2) in
    is.3 (sym (called_one later is.1 blank is.0 x kept is.4 c))
once xs names between later x k (inr next) m c e =
    let grow = grows xs between later m in
    let here : slice_get between (length names) ≡ Some next.0 = ap (λ l. slice_get l (length names)) next.3 ∙ get_last names next.0 in
    let kept : slice_get later (length names) ≡ Some next.0 = subst (λ l. slice_get l (length names) ≡ Some next.0) (sym grow.1) (get_left between grow.0 (length names) next.0 here) in
    let is_blank : blank ≡ next.0 = called_one later next.0 blank (length names) x kept next.2 c in
    blank_unmet xs between later x k m (length names, here ∙ ap Some (sym is_blank), next.2) e

alone : (xs : List VarName) (names later : Names) → MeetsAll names xs later → (i j : ℕ) (x : VarName) → slice_get xs i ≡ Some x → slice_get xs j ≡ Some x → IsCalled later blank x → i ≡ j
alone [] names later m i j x e f c = cc
alone (y ∷ xs) names later m zero zero x e f c = refl
alone (y ∷ xs) names later m zero (suc j) x e f c = absurd (let first : x ≡ y = cc in once xs names m.0 later y j m.1 m.2 (subst (IsCalled later blank) first c) (f ∙ ap Some first))
alone (y ∷ xs) names later m (suc i) zero x e f c = absurd (let first : x ≡ y = cc in once xs names m.0 later y i m.1 m.2 (subst (IsCalled later blank) first c) (e ∙ ap Some first))
alone (y ∷ xs) names later m (suc i) (suc j) x e f c = ap suc (alone xs m.0 later m.2 i j x e f c)

-- Variables that are met from no names on are named.
pub met_are_named : (xs : List VarName) (names : Names) → MeetsAll [] xs names → AreNamed names xs
met_are_named xs names m =
    let f = follow xs [] names [] seen_none m in
    record {
      numbered = λ i x e. f.numbers i x e ∙ ap number (omega arith);
      named = f.count ∙ omega arith;
      apart = apart_all xs [] names (λ i j v e. λ g n. absurd (nothing i v e)) m;
      alone = alone xs [] names m;
    }
  where
    nothing : (i : ℕ) (v : List ℕ) → slice_get [] i ≡ Some v → ⊥
    nothing i v e = cc
