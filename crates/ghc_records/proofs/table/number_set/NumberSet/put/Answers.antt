use Rattle.ghc_records.proofs.Words.{◌≡◌, ◌⊎◌, ◌<◌, [], ◌∷◌, sym, ap, ◌∙◌, subst, inl, inr, ◌↔◌, In, numbers_of, room_of}
use Rattle.indexmap.specs.IndexSet.{spare}
use Rattle.ghc_records.proofs.NumberSets.{found}
use Rattle.ghc_records.proofs.table.number_set.NumberSet.put.Goals as goal
use Rattle.ghc_records.proofs.table.number_set.NumberSet.put.Goals.{in-Listed-2, in-Tabled-2, in-Nothing-2, in-Listed-3, in-Tabled-3, in-Nothing-3}

pub put_tabled-requires : goal.put_tabled-requires
put_tabled-requires c =
    let keys = ap (λ t. t.keys) c.deref_mut-in-Tabled.ensures.value ∙ ap numbers_of (sym c.in-Tabled.is) ∙ ap (λ t. t.held) c.self.view_is in
    let room = ap spare c.deref_mut-in-Tabled.ensures.value ∙ ap room_of (sym c.in-Tabled.is) ∙ ap (λ t. t.room) c.self.view_is in
    elim c.requires [
      | inl r ↦ inl (subst (λ k. 0 < k) (sym room) r)
      | inr i ↦ inr (subst (In c.args.number) (sym keys) i)
    ]

pub returns-else-not-contains-clause-numbers : goal.returns-else-not-contains-clause-numbers
returns-else-not-contains-clause-numbers c n =
    let here = ap numbers_of (sym c.in-Two.is) ∙ ap (λ t. t.held) c.self.view_is in
    let there = found c.in-Two.two c.args.number (sym c.contains.ensures.value ∙ c.if-not-contains.false) in
    subst (λ l. In n c.in-Two.two ↔ (In n l ⊎ (n ≡ c.args.number))) here
    ((λ i. inl i), λ d. elim d [ inl i ↦ i | inr e ↦ subst (λ k. In k c.in-Two.two) (sym e) there ])

pub returns-in-Tabled-clause-numbers : goal.returns-in-Tabled-clause-numbers
returns-in-Tabled-clause-numbers c n =
    let here = ap (λ t. t.keys) c.deref_mut-in-Tabled.ensures.value ∙ ap numbers_of (sym c.in-Tabled.is) ∙ ap (λ t. t.held) c.self.view_is in
    subst (λ l. In n c.put_tabled.new.table.keys ↔ (In n l ⊎ (n ≡ c.args.number))) here (c.put_tabled.ensures.numbers n)

pub returns-then-one-number-clause-numbers : goal.returns-then-one-number-clause-numbers
returns-then-one-number-clause-numbers c n =
    let here : c.in-One.one ∷ [] ≡ c.args.self.now.held = ap numbers_of (sym c.in-One.is) ∙ ap (λ t. t.held) c.self.view_is in
    let new : c.match-self-3.self.held ≡ c.rising_two.result = elim c.match-self-3.branch [
      | in-Listed-2 w ↦ ap (λ t. t.held) w.self-is
      | in-Tabled-2 w ↦ ap (λ t. t.held) w.self-is
      | in-Nothing-2 w ↦ ap (λ t. t.held) w.self-is
    ] in
    let is = c.rising_two.ensures.numbers n in
    subst (λ l. In n l ↔ (In n c.args.self.now.held ⊎ (n ≡ c.args.number))) (sym new)
    (subst (λ l. In n c.rising_two.result ↔ (In n l ⊎ (n ≡ c.args.number))) here (
      λ i. elim (is.0 i) [ inl e ↦ inl (inl e) | inr e ↦ inr e ],
      λ d. elim d [ inl (inl e) ↦ is.1 (inl e) | inl (inr never) ↦ absurd never | inr e ↦ is.1 (inr e) ],
    ))

pub returns-then-not-contains-clause-numbers : goal.returns-then-not-contains-clause-numbers
returns-then-not-contains-clause-numbers c n =
    let here : c.in-Two.two ≡ c.args.self.now.held = ap numbers_of (sym c.in-Two.is) ∙ ap (λ t. t.held) c.self.view_is in
    let new : c.match-self-4.self.held ≡ c.rising_three.result = elim c.match-self-4.branch [
      | in-Listed-3 w ↦ ap (λ t. t.held) w.self-is
      | in-Tabled-3 w ↦ ap (λ t. t.held) w.self-is
      | in-Nothing-3 w ↦ ap (λ t. t.held) w.self-is
    ] in
    subst (λ l. In n l ↔ (In n c.args.self.now.held ⊎ (n ≡ c.args.number))) (sym new)
    (subst (λ l. In n c.rising_three.result ↔ (In n l ⊎ (n ≡ c.args.number))) here (c.rising_three.ensures.numbers n))

pub returns-in-Listed-clause-numbers : goal.returns-in-Listed-clause-numbers
returns-in-Listed-clause-numbers c n =
    let here = ap (λ v. v.items) c.deref_mut.ensures.value ∙ ap numbers_of (sym c.in-Listed.is) ∙ ap (λ t. t.held) c.self.view_is in
    subst (λ l. In n c.put_rising.new.list.items ↔ (In n l ⊎ (n ≡ c.args.number))) here (c.put_rising.ensures.numbers n)
