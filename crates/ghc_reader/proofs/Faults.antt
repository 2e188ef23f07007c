-- A fault in a part is one of the whole: the two general forms.
use Rattle.ghc_reader.proofs.Words.{◌≡◌, ℕ, List, [], ◌∷◌, ◌++◌, length, Option, refl, sym, ap, ◌∙◌, append_assoc, Token, first, Fault}

pub first_append : (front a b : List Token) → first a ≡ first b → first (front ++ a) ≡ first (front ++ b)
first_append [] a b e = e
first_append (t ∷ ts) a b e = refl

module _ {C D : Type 0} {spell : C → List Token → List Token} {spell' : D → List Token → List Token} {Ends : C → Option Token → Type 0} {Ends' : D → Option Token → Type 0} where
  -- a derivation C stands after the tokens of pre in D
  pub inside : {ts : List Token} {left : ℕ} (pre : List Token → List Token) → Fault C spell Ends ts left
      → ((a b : List Token) → pre (a ++ b) ≡ pre a ++ b)
      → ((c : C) (a b : List Token) → spell c (a ++ b) ≡ spell c a ++ b)
      → ((c : C) → (d : D) × (tail : List Token) × (pre (spell c tail) ≡ spell' d []))
      → ((us : List Token) → first us ≡ first ts → (d : D) (r : List Token) → Ends' d (first r) → pre us ≡ spell' d r
      → (c : C) × (r' : List Token) × Ends c (first r') × (us ≡ spell c r'))
      → Fault D spell' Ends' (pre ts) left
  inside pre f pre_append append completes inverts = record {
    front = pre f.front;
    rest = f.rest;
    split = ap pre f.split ∙ pre_append f.front f.rest;
    count = f.count;
    goes_on =
        let c = f.goes_on.0 in
        let d = completes c in (
          d.0,
          f.goes_on.1 ++ d.1,
          sym (append_assoc (pre f.front) f.goes_on.1 d.1)
              ∙ ap (λ l. l ++ d.1) (sym (pre_append f.front f.goes_on.1))
              ∙ sym (pre_append (f.front ++ f.goes_on.1) d.1)
              ∙ ap pre (ap (λ l. l ++ d.1) f.goes_on.2 ∙ sym (append c [] d.1))
              ∙ d.2,
        );
    stuck = λ us same d r p e.
        let x = inverts (f.front ++ us) (first_append f.front us f.rest same ∙ ap first (sym f.split)) d r p (pre_append f.front us ∙ e) in
        f.stuck us same x.0 x.1 x.2 x.3;
  }

  -- a derivation C stands in front in D
  pub in_front : {ts : List Token} {left : ℕ} → Fault C spell Ends ts left
      → ((c : C) (a b : List Token) → spell c (a ++ b) ≡ spell c a ++ b)
      → ((c : C) → (d : D) × (tail : List Token) × (spell c tail ≡ spell' d []))
      → ((d : D) (us r : List Token) → Ends' d (first r) → us ≡ spell' d r → (c : C) × (r' : List Token) × Ends c (first r') × (us ≡ spell c r'))
      → Fault D spell' Ends' ts left
  in_front f append completes inverts = inside (λ l. l) f (λ a b. refl) append completes (λ us same d r p e. inverts d us r p e)

module _ (D : Type 0) (spell : D → List Token → List Token) (Ends : D → Option Token → Type 0) where
  -- the first of ts doesn't go on after the tokens of pre
  pub here : (pre : List Token → List Token) (ts : List Token) → ((a b : List Token) → pre (a ++ b) ≡ pre a ++ b) → (d : D) (tail : List Token) → pre tail ≡ spell d [] → ((us : List Token) → first us ≡ first ts → (e : D) (r : List Token) → Ends e (first r) → pre us ≡ spell e r → ⊥) → Fault D spell Ends (pre ts) (length ts)
  here pre ts append d tail e stuck = record {
    front = pre [];
    rest = ts;
    split = append [] ts;
    count = refl;
    goes_on = (d, tail, sym (append [] tail) ∙ e);
    stuck = λ us same c r p eq. stuck us same c r p (append [] us ∙ eq);
  }
