-- On which steps the bindings of variables rest: it goes up from those that bound them, always on with the last place.
use Rattle.ghc_trace.proofs.Words.{◌≡◌, ℕ, suc, true, false, IsTrue, nat_eq, cases_eq, eq-eqb, ne_eqb, ◌<◌, ◌≤◌, List, [], ◌∷◌, ◌++◌, length, refl, sym, ap, ◌∙◌, subst, inl, inr, arith, ◌↔◌, VarName, In, in_left, in_last, in_more, AreDistinct, Record, numbers, SlotList, held_in, StandsIn, once_of, stands_held, DependsOn, Uses, Binds}
use Rattle.std.specs.Prelude.{max}
use Rattle.ghc_records.proofs.SlotLemmas.{held_stands}
use Rattle.ghc_records.proofs.SlotPlaces.{one_record}
use Rattle.ghc_depend.proofs.Finding.{ends}
use Rattle.ghc_depend.specs.Depend.{Follows, directly, further, GoesWith}
use Rattle.ghc_trace.specs.Causes.{HasInFront}
use Rattle.ghc_trace.specs.inner.OtherClausesCode.{OneRestsOn}
use Rattle.ghc_trace.proofs.CausePlaces.{OfOne}
use Rattle.ghc_trace.proofs.Slicing.{stands_within, precedes_there, in_front_of}

-- at one of the places stands the step r, or a consequence of it
abbrev pub OneGoesWith : SlotList → Record → List ℕ → Type 0
OneGoesWith ss r ps = (p : ℕ) × (a : Record) × In p ps × StandsIn ss p a × GoesWith (held_in ss) r a

-- At each of the places stands a step; and a binding of one of the variables rests on the step at this place exactly where one of these is that step or a consequence.
pub record IsSought (ss : SlotList) (place : ℕ) (xs : List VarName) (ps : List ℕ) : Type 0 where
  pub filled : (p : ℕ) → In p ps → (a : Record) × StandsIn ss p a
  pub rests : (r : Record) → StandsIn ss place r → OneRestsOn (held_in ss) r xs ↔ OneGoesWith ss r ps

-- one more than the greatest
abbrev pub top : List ℕ → ℕ
top [] = 0
top (p ∷ ps) = max (suc p) (top ps)

pub below_top : (ps : List ℕ) (p : ℕ) → In p ps → p < top ps
below_top [] p i = absurd i
below_top (q ∷ ps) p (inl e) = omega (arith, e)
below_top (q ∷ ps) p (inr i) = let h = below_top ps p i in omega (arith, h)

pub top_most : (ps : List ℕ) (n : ℕ) → ((p : ℕ) → In p ps → p < n) → top ps ≤ n
top_most [] n h = omega arith
top_most (q ∷ ps) n h = let first = h q (inl refl) in let rest = top_most ps n (λ p i. h p (inr i)) in omega (arith, first, rest)

module _ (ss : SlotList) (distinct : AreDistinct (numbers (held_in ss))) (place : ℕ) (xs : List VarName) where
  pub sought_begin : (ps : List ℕ) → HasInFront ss (length ss) (OfOne ss (length ss) Binds xs) [] ps → IsSought ss place xs ps
  sought_begin ps h = record {
    filled = λ p i. elim ((h p).0 i) [ inl never ↦ absurd never | inr f ↦ (f.1, f.2) ];
    rests = λ r at. (
      λ o.
          let there = held_stands ss o.1 o.3 in
          (there.0, o.1, (h there.0).1 (inr (stands_within ss there.0 o.1 there.1, o.1, there.1, (o.0, o.2, o.5))), there.1, o.4),
      λ o. elim ((h o.0).0 o.2) [
        | inl never ↦ absurd never
        | inr f ↦
            let same : f.1 ≡ o.1 = one_record ss o.0 o.0 f.1 o.1 f.2 o.3 refl in
            (f.3.0, o.1, f.3.1, stands_held ss o.0 o.1 o.3, o.4, subst (λ z. Binds z f.3.0) same f.3.2)
      ],
    );
  }

  -- a consequence stands after the step
  behind_it : (r : Record) → StandsIn ss place r → {a : Record} → Follows (held_in ss) r a → (p : ℕ) → StandsIn ss p a → place < p
  behind_it r at (directly {b = b} d) p there = in_front_of ss distinct place p r b at there d.0
  behind_it r at (further {b = m} {c = c} f d) p there =
      let q = held_stands ss m (ends (held_in ss) c m d).0 in
      let low = behind_it r at f q.0 q.1 in
      let high = in_front_of ss distinct q.0 p m c q.1 there d.0 in
      omega (arith, low, high)

  module _ (rest : List ℕ) (last : ℕ) (ps : List ℕ) (s : IsSought ss place xs ps) (e : ps ≡ rest ++ last ∷ []) (below : (p : ℕ) → In p rest → p < last) where
    at_most : (p : ℕ) → In p ps → p ≤ last
    at_most p i = elim (in_more rest last p (subst (In p) e i)) [ inl j ↦ let l = below p j in omega (arith, l) | inr same ↦ omega (arith, same) ]

    -- the last is the place itself
    pub found_it : last ≡ place → (r : Record) → StandsIn ss place r → OneRestsOn (held_in ss) r xs
    found_it same r at = (s.rests r at).1 (place, r, subst (λ p. In p ps) same (subst (In last) (sym e) (in_last rest last)), at, inl refl)

    -- the last is in front of the place, and so are all
    pub all_passed : last < place → (r : Record) → StandsIn ss place r → ¬ OneRestsOn (held_in ss) r xs
    all_passed low r at o =
        let g = (s.rests r at).0 o in
        let high = at_most g.0 g.2 in
        elim g.4 [
          | inl same ↦
              let one : place ≡ g.0 = once_of ss distinct place g.0 r g.1 at g.3 (ap (λ (z : Record). z.number) (sym same)) in
              omega (arith, low, high, one)
          | inr f ↦ let far = behind_it r at f g.0 g.3 in omega (arith, low, high, far)
        ]

    -- so where the last is not after the place, it decides
    pub stopped : last ≤ place → (r : Record) → StandsIn ss place r → IsTrue (nat_eq last place) ↔ OneRestsOn (held_in ss) r xs
    stopped low r at = elim (cases_eq last place) [
      | inl same ↦ (λ _. found_it same r at, λ _. eq-eqb last place same)
      | inr other ↦ (
        λ h. absurd (let clash : true ≡ false = sym h ∙ ne_eqb last place other in cc),
        λ o. absurd (all_passed (omega (arith, low, other)) r at o),
      )
    ]

    -- on from the last, which is after the place
    module _ (a : Record) (there : StandsIn ss last a) (low : place < last) (new : List ℕ) (h : HasInFront ss last (Uses a) rest new) where
      onwards : (r : Record) → StandsIn ss place r → GoesWith (held_in ss) r a → OneGoesWith ss r new
      onwards r at (inl same) =
          let one : place ≡ last = once_of ss distinct place last r a at there (ap (λ (z : Record). z.number) (sym same)) in
          absurd (omega (arith, low, one))
      onwards r at (inr (directly d)) = (place, r, (h place).1 (inr (low, r, at, d.1)), at, inl refl)
      onwards r at (inr (further {b = m} f d)) =
          let q = held_stands ss m (ends (held_in ss) a m d).0 in
          (q.0, m, (h q.0).1 (inr (in_front_of ss distinct q.0 last m a q.1 there d.0, m, q.1, d.1)), q.1, inr f)

      pub sought_next : IsSought ss place xs new
      sought_next = record {
        filled = λ p i. elim ((h p).0 i) [ inl j ↦ s.filled p (subst (In p) (sym e) (in_left rest (last ∷ []) p j)) | inr f ↦ (f.1, f.2) ];
        rests = λ r at. (
          λ o.
              let g = (s.rests r at).0 o in
              elim (in_more rest last g.0 (subst (In g.0) e g.2)) [
                | inl j ↦ (g.0, g.1, (h g.0).1 (inl j), g.3, g.4)
                | inr same ↦ onwards r at (subst (GoesWith (held_in ss) r) (one_record ss g.0 last g.1 a g.3 there same) g.4)
              ],
          λ g. (s.rests r at).1 (elim ((h g.0).0 g.2) [
            | inl j ↦ (g.0, g.1, subst (In g.0) (sym e) (in_left rest (last ∷ []) g.0 j), g.3, g.4)
            | inr f ↦
                let same : f.1 ≡ g.1 = one_record ss g.0 g.0 f.1 g.1 f.2 g.3 refl in
                let uses : DependsOn (held_in ss) a g.1 = (precedes_there ss distinct g.0 last g.1 a g.3 there f.0, subst (Uses a) same f.3) in (
                  last,
                  a,
                  subst (In last) (sym e) (in_last rest last),
                  there,
                  elim g.4 [
                    | inl own ↦ inr (directly (subst (DependsOn (held_in ss) a) own uses))
                    | inr far ↦ inr (further far uses)
                  ],
                )
          ]),
        );
      }

      -- and all that are left are in front of the last
      pub top_less : top new < top ps
      top_less =
          let most = top_most new last (λ p i. elim ((h p).0 i) [ inl j ↦ below p j | inr f ↦ f.0 ]) in
          let mine = below_top ps last (subst (In last) (sym e) (in_last rest last)) in
          omega (arith, most, mine)

  -- where no place is left
  pub none_left : (ps : List ℕ) → IsSought ss place xs ps → ps ≡ [] → (r : Record) → StandsIn ss place r → ¬ OneRestsOn (held_in ss) r xs
  none_left ps s e r at o = let g = (s.rests r at).0 o in subst (In g.0) e g.2
