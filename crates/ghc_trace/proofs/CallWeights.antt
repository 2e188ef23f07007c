-- The weights of calls in question: from the last call on, each goes to the maker's.
use Rattle.ghc_trace.proofs.Words.{◌≡◌, ℕ, ◌+◌, ◌≤◌, Bool, true, false, List, length, get_or, map, refl, sym, ap, ◌∙◌, subst, inl, inr, arith, ◌⊎◌, ◌↔◌, Option, Some, None, cases_eq, slice_get, slice_get_within, GoalName, Program, Query, State, Record, MakesGoal, Replays, Descends, itself, same_value}
use Rattle.std.proofs.lemmas.Option.{get_or_from_slice_get, slice_get-get_or}
use Rattle.std.specs.List.{slice_set}
use Rattle.ghc_term.proofs.Placing.{set_other, set_same}
use Rattle.ghc_trace.proofs.CallCounts.{one_alone, one_at, so_many_as, so_many_both}
use Rattle.ghc_trace.proofs.CallsBelow.{above, between, call_at, circle, one_down, one_up}
use Rattle.ghc_trace.proofs.Descending.{descends_on, first_step, in_line}
use Rattle.ghc_trace.specs.Blaming.{AreSoMany, IsInQuestion, IsWeight}
use Rattle.ghc_trace.specs.declared.judgements.Answer.{Answer}
use Rattle.ghc_trace.specs.declared.slice_calls.Call.{Call}
use Rattle.ghc_trace.specs.inner.BlameCode.{AddsToMaker, AreCallsOf, AreInQuestion, IsOpenAt, StandsAtPlace, one_of}

-- x is the call g at the place i, or descends from a call in question that g made and that stands at `from` or later.
abbrev pub IsCountedIn : List Record → State → Option GoalName → List Answer → Option GoalName → List Call → ℕ → ℕ → GoalName → GoalName → Type 0
IsCountedIn rs t target told top calls from i g x = (x ≡ g)
    ⊎ ((j : ℕ) × (d : Call) × (from ≤ j) × StandsAtPlace calls j d × (d.maker ≡ Some i) × IsInQuestion rs t target told top d.name × Descends rs d.name x)

-- The weight of each call in question counts these of the calls in question.
abbrev pub AreCountedFrom : List Record → State → Option GoalName → List Answer → Option GoalName → List Call → List Bool → ℕ → List ℕ → Type 0
AreCountedFrom rs t target told top calls doubts from weights = (i w : ℕ) (c : Call) → StandsAtPlace calls i c → IsOpenAt doubts i → slice_get weights i ≡ Some w
    → AreSoMany (λ x. IsInQuestion rs t target told top x × IsCountedIn rs t target told top calls from i c.name x) w

module _ (P : Program) (query : Query) (rs : List Record) (t : State) (replay : Replays P query rs t) (target : Option GoalName) (calls : List Call) (h : AreCallsOf rs t target calls)
    (told : List Answer) (top : Option GoalName) (doubts : List Bool) (q : AreInQuestion rs t target told top calls doubts) where
  abbrev Doubted : GoalName → Type 0
  Doubted g = IsInQuestion rs t target told top g

  pub doubted_at : (i : ℕ) (c : Call) → StandsAtPlace calls i c → IsOpenAt doubts i → Doubted c.name
  doubted_at i c at holds = (q.said i c true at holds).0 refl

  pub at_doubted : (i : ℕ) (c : Call) → StandsAtPlace calls i c → Doubted c.name → IsOpenAt doubts i
  at_doubted i c at is =
      let low = slice_get_within calls i c at in
      let long = q.long in
      let value : slice_get doubts i ≡ Some (get_or doubts i false) = slice_get-get_or doubts i false (omega (arith, low, long)) in
      value ∙ ap Some ((q.said i c (get_or doubts i false) at value).1 is)

  abbrev IsCounted : ℕ → ℕ → GoalName → GoalName → Type 0
  IsCounted from i g x = IsCountedIn rs t target told top calls from i g x

  abbrev IsCountedCall : ℕ → ℕ → GoalName → GoalName → Type 0
  IsCountedCall from i g x = IsInQuestion rs t target told top x × IsCountedIn rs t target told top calls from i g x

  abbrev AreCounted : ℕ → List ℕ → Type 0
  AreCounted from weights = AreCountedFrom rs t target told top calls doubts from weights

  same_call : (i : ℕ) (c d : Call) → StandsAtPlace calls i c → StandsAtPlace calls i d → c ≡ d
  same_call i c d at there = same_value at there

  -- At first each counts itself.
  pub counted_first : AreCounted (length calls) (map one_of doubts)
  counted_first i w c at holds weight =
      let one : 1 ≡ w = same_value (one_at doubts i true holds) weight in
      subst (AreSoMany (IsCountedCall (length calls) i c.name)) one (one_alone (IsCountedCall (length calls) i c.name) c.name (doubted_at i c at holds, inl refl) (λ x (is, counted). elim counted [
        | inl same ↦ same
        | inr (j, d, high, there, made, doubted, down) ↦ let low = slice_get_within calls j d there in absurd (omega (arith, high, low))
      ]))

  -- If all calls that a call made are counted, all that descend from it are.
  pub counted_whole : (i from : ℕ) (c : Call) → StandsAtPlace calls i c → IsOpenAt doubts i → from ≤ i + 1 → (x : GoalName) → IsCountedCall from i c.name x ↔ (Doubted x × Descends rs c.name x)
  counted_whole i from c at holds low x = (
    (λ (is, counted). (
      is,
      elim counted [
        | inl same ↦ subst (Descends rs c.name) (sym same) itself
        | inr (j, d, high, there, made, doubted, down) ↦ descends_on rs c.name d.name x (one_down P query rs t replay target calls h j d there i made c at c.name itself) down
      ],
    )),
    (λ (is, down). (
      is,
      elim (first_step rs c.name x down) [
        | inl same ↦ inl same
        | inr (r, k, there, took, makes, rest) ↦
            let w = (h.all x).0 is.0 in
            let made_one : (j : ℕ) (d : Call) → StandsAtPlace calls j d → d.name ≡ k → IsCounted from i c.name x = λ j d at_d name.
            let made = (h.makers j i d at_d).1 (c, at, (r, there, took, subst (λ z. MakesGoal r z) (sym name) makes)) in
            let after = h.before j i d at_d made in
            let onward = subst (λ z. Descends rs z x) (sym name) rest in
            let of_c = one_down P query rs t replay target calls h j d at_d i made c at c.name itself in
            inr (j, d, omega (arith, after, low), at_d, made, between P query rs t replay target calls h told top c.name d.name x (doubted_at i c at holds) is (call_at P query rs t replay target calls h j d at_d) of_c onward, onward) in
            elim (above P query rs t replay target calls h k x rest w.0 w.1 w.2 w.3) [
              | inl same ↦ made_one w.0 w.1 w.2 (w.3 ∙ sym same)
              | inr p ↦ made_one p.0 p.1 p.2 p.3
            ]
      ],
    )),
  )

  -- Nothing changes if the call at the place is not in question, or another call made it.
  counted_as : (j i : ℕ) (g x : GoalName) → ((d : Call) → StandsAtPlace calls j d → d.maker ≡ Some i → ¬ Doubted d.name) → IsCountedCall (j + 1) i g x ↔ IsCountedCall j i g x
  counted_as j i g x none = (
    (λ (is, counted). (
      is,
      elim counted [
        | inl same ↦ inl same
        | inr (k, d, high, there, made, doubted, down) ↦ inr (k, d, omega (arith, high), there, made, doubted, down)
      ],
    )),
    (λ (is, counted). (
      is,
      elim counted [
        | inl same ↦ inl same
        | inr (k, d, high, there, made, doubted, down) ↦ elim (cases_eq k j) [
          | inl here ↦ absurd (none d (subst (λ z. StandsAtPlace calls z d) here there) made doubted)
          | inr other ↦ inr (k, d, omega (arith, high, other), there, made, doubted, down)
        ]
      ],
    )),
  )

  pub counted_still : (j : ℕ) (weights : List ℕ) → ((i : ℕ) (d : Call) → StandsAtPlace calls j d → d.maker ≡ Some i → ¬ Doubted d.name) → AreCounted (j + 1) weights → AreCounted j weights
  counted_still j weights none counted i w c at holds weight =
      so_many_as (IsCountedCall (j + 1) i c.name) (IsCountedCall j i c.name) w (λ x. counted_as j i c.name x (none i)) (counted i w c at holds weight)

  -- Of two calls that one call made, none descends from the other.
  apart : (m j k : ℕ) (c d e : Call) → StandsAtPlace calls m c → StandsAtPlace calls j d → StandsAtPlace calls k e → d.maker ≡ Some m → e.maker ≡ Some m → ¬ (j ≡ k) → ¬ Descends rs e.name d.name
  apart m j k c d e at_c at_d at_e made_d made_e other down =
      let low = h.before k m e at_e made_e in
      elim (one_up P query rs t replay target calls h j d at_d m made_d c at_c e.name down) [
        | inl same ↦ other (sym (h.once k j e d at_e at_d same))
        | inr up ↦ elim (above P query rs t replay target calls h e.name c.name up m c at_c refl) [
          | inl same ↦ let one = h.once k m e c at_e at_c same in omega (arith, low, one)
          | inr p ↦ let one = h.once k p.0 e p.1 at_e p.2 (sym p.3) in let first = p.4 in omega (arith, low, one, first)
        ]
      ]

  -- The weight of a call in question goes to its maker.
  module _ (j : ℕ) (d : Call) (at_d : StandsAtPlace calls j d) (yes_d : IsOpenAt doubts j) (m : ℕ) (made_d : d.maker ≡ Some m) (weights : List ℕ) (counted : AreCounted (j + 1) weights)
      (long : length weights ≡ length doubts) where
    abbrev weight_of : ℕ → ℕ
    weight_of i = get_or weights i 0

    within : (i : ℕ) (c : Call) → StandsAtPlace calls i c → slice_get weights i ≡ Some (weight_of i)
    within i c at =
        let low = slice_get_within calls i c at in
        let as_many = q.long in
        slice_get-get_or weights i 0 (omega (arith, low, as_many, long))

    both : (c : Call) → StandsAtPlace calls m c → (x : GoalName) → IsCountedCall j m c.name x ↔ (IsCountedCall (j + 1) m c.name x ⊎ IsCountedCall (j + 1) j d.name x)
    both c at x = (
      (λ (is, counts). elim counts [
        | inl same ↦ inl (is, inl same)
        | inr (k, e, high, there, made, doubted, down) ↦ elim (cases_eq k j) [
          | inl here ↦
              let one : e ≡ d = same_call j e d (subst (λ z. StandsAtPlace calls z e) here there) at_d in
              inr ((counted_whole j (j + 1) d at_d yes_d (omega arith) x).1 (is, subst (λ (z : Call). Descends rs z.name x) one down))
          | inr other ↦ inl (is, inr (k, e, omega (arith, high, other), there, made, doubted, down))
        ]
      ]),
      (λ either. elim either [
        | inl (is, counts) ↦ (
          is,
          elim counts [
            | inl same ↦ inl same
            | inr (k, e, high, there, made, doubted, down) ↦ inr (k, e, omega (arith, high), there, made, doubted, down)
          ],
        )
        | inr counts ↦
            let w = (counted_whole j (j + 1) d at_d yes_d (omega arith) x).0 counts in
            (w.0, inr (j, d, omega arith, at_d, made_d, doubted_at j d at_d yes_d, w.1))
      ]),
    )

    disjoint : (c : Call) → StandsAtPlace calls m c → (x : GoalName) → IsCountedCall (j + 1) m c.name x → ¬ IsCountedCall (j + 1) j d.name x
    disjoint c at x (is, counts) other =
        let w = (counted_whole j (j + 1) d at_d yes_d (omega arith) x).0 other in
        let low = h.before j m d at_d made_d in
        let of_c = one_down P query rs t replay target calls h j d at_d m made_d c at c.name itself in
        elim counts [
          | inl same ↦
              let one = circle P query rs t replay d.name c.name (subst (Descends rs d.name) same w.1) of_c in
              let place = h.once j m d c at_d at one in
              omega (arith, low, place)
          | inr (k, e, high, there, made, doubted, down) ↦
              let off : ¬ (j ≡ k) = λ e. omega (arith, e, high) in
              elim (in_line P query rs t replay e.name d.name x down w.1) [
                | inl first ↦ apart m j k c d e at at_d there made_d made off first
                | inr after ↦ apart m k j c e d at there at_d made made_d (λ z. off (sym z)) after
              ]
        ]

    pub counted_more : AreCounted j (slice_set weights m (weight_of m + weight_of j))
    counted_more i w c at holds weight =
        elim (cases_eq i m) [
          | inl here ↦
              let at_m : StandsAtPlace calls m c = subst (λ z. StandsAtPlace calls z c) here at in
              let short = slice_get_within calls m c at_m in
              let as_many = q.long in
              let sum_is : slice_get (slice_set weights m (weight_of m + weight_of j)) m ≡ Some (weight_of m + weight_of j) = set_same weights m (weight_of m + weight_of j) (omega (arith, short, as_many, long)) in
              let value : weight_of m + weight_of j ≡ w = same_value sum_is (subst (λ z. slice_get (slice_set weights m (weight_of m + weight_of j)) z ≡ Some w) here weight) in
              let joined = so_many_both (IsCountedCall (j + 1) m c.name) (IsCountedCall (j + 1) j d.name) (IsCountedCall j m c.name) (weight_of m) (weight_of j)
              (counted m (weight_of m) c at_m (subst (IsOpenAt doubts) here holds) (within m c at_m)) (counted j (weight_of j) d at_d yes_d (within j d at_d)) (disjoint c at_m) (both c at_m) in
              subst (λ z. AreSoMany (IsCountedCall j z c.name) w) (sym here) (subst (AreSoMany (IsCountedCall j m c.name)) value joined)
          | inr other ↦
              let old : slice_get weights i ≡ Some w = sym (set_other weights m i (weight_of m + weight_of j) other) ∙ weight in
              so_many_as (IsCountedCall (j + 1) i c.name) (IsCountedCall j i c.name) w (λ x. counted_as j i c.name x (λ e there made doubted.
              let one : e ≡ d = same_call j e d there at_d in
              let same : Some i ≡ Some m = sym made ∙ ap (λ (z : Call). z.maker) one ∙ made_d in
              let clash : i ≡ m = cc in
              other clash)) (counted i w c at holds old)
        ]

  -- The weight goes to the maker, if there is one.
  pub counted_moved : (j : ℕ) (d : Call) → StandsAtPlace calls j d → IsOpenAt doubts j → (weights new : List ℕ) → AreCountedFrom rs t target told top calls doubts (j + 1) weights
      → length weights ≡ length doubts → AddsToMaker d.maker j weights new → AreCountedFrom rs t target told top calls doubts j new
  counted_moved j d at_d holds weights new counted long adds = by_maker d.maker refl adds
    where
      by_maker : (o : Option ℕ) → d.maker ≡ o → AddsToMaker o j weights new → AreCountedFrom rs t target told top calls doubts j new
      by_maker None none same = subst (AreCountedFrom rs t target told top calls doubts j) (sym same) (counted_still j weights (λ i e there made doubted.
          let one : e ≡ d = same_call j e d there at_d in
          let clash : None ≡ Some i = sym none ∙ ap (λ (z : Call). z.maker) (sym one) ∙ made in
          cc) counted)
      by_maker (Some m) made is = subst (AreCountedFrom rs t target told top calls doubts j) (sym is) (counted_more j d at_d holds m made weights counted long)

  -- The weight of a call that is not in question goes nowhere.
  pub counted_closed : (j : ℕ) (weights : List ℕ) → get_or doubts j false ≡ false → AreCountedFrom rs t target told top calls doubts (j + 1) weights → AreCountedFrom rs t target told top calls doubts j weights
  counted_closed j weights closed counted = counted_still j weights (λ i d at made doubted.
      let open_value : get_or doubts j false ≡ true = get_or_from_slice_get doubts j true false (at_doubted j d at doubted) in
      let clash : true ≡ false = sym open_value ∙ closed in
      cc) counted

  -- In the end each counts all that descend from it.
  pub weights_told : (weights : List ℕ) → AreCounted 0 weights → (i w : ℕ) (c : Call) → StandsAtPlace calls i c → IsOpenAt doubts i → slice_get weights i ≡ Some w → IsWeight rs t target told top c.name w
  weights_told weights counted i w c at holds weight =
      so_many_as (IsCountedCall 0 i c.name) (λ x. Doubted x × Descends rs c.name x) w (counted_whole i 0 c at holds (omega arith)) (counted i w c at holds weight)
