-- The run of append: who depends on whom, and which orders are lawful.
use Rattle.ghc_depend.proofs.Words.{Option, None, ◌≡◌, ℕ, ◌<◌, [], ◌∷◌, refl, sym, ap, ◌∙◌, subst, inl, inr, arith, Some, cond, nat_eq, true, false, GoalName, In, name_cmp, variables_asked, Precedes, nothing, leave, Record, is_before, before_in, precedes_rises, Rises, Consumes, DependsOn, Follows, directly, further, by_making, IsTooEarly, wrong, missing, too_early, step_1, step_2, step_3, step_4, run, AppendDepends, AppendOrders, each_in, ◌⊎◌}
use Rattle.std.specs.FinSet as set
use Rattle.ghc_records.specs.Orders.{take}

-- the number of a record
abbrev number : Record → ℕ
number r = r.number

rising : Rises number run
rising = ((omega arith, (omega arith, (omega arith, tt))), ((omega arith, (omega arith, tt)), ((omega arith, tt), (tt, tt))))

-- no step of the run reads or names anything, so dependence is by goals alone
by_goal : (b a : Record) → DependsOn run b a → In a run × In b run × Consumes b a
by_goal b a d =
    let i = before_in run a b (is_before run a b d.0) in
    let (reads, names) = each_in run (λ s. (s.effect.reads ≡ set.empty) × (variables_asked s.act ≡ [])) b
    ((refl, refl), ((refl, refl), ((refl, refl), ((refl, refl), tt)))) i.1 in
    elim d.1 [
      | inl c ↦ (i.0, i.1, c)
      | inr (inl r) ↦ absurd (let e : true ≡ false = sym r.1.0 ∙ ap (λ s. set.contains s r.0) reads ∙ set.contains-empty name_cmp r.0 in cc)
      | inr (inr n) ↦ absurd (subst (In n.0) names n.1.0.0)
    ]

-- two numbers are equal
abbrev Same : ℕ → ℕ → Type 0
Same m n = m ≡ n

-- the number of the step that made the goal
abbrev maker : Option GoalName → ℕ
maker None = 0
maker (Some g) = g.step

made_by : (b a : Record) → Consumes b a → maker b.goal ≡ a.number
made_by b a c = ap maker c.1 ∙ c.2.0

depends_21 : DependsOn run step_2 step_1
depends_21 = (([], [], step_3 ∷ step_4 ∷ [], refl), inl (record { step = 1; place = 1 }, refl, (refl, omega arith, omega arith)))

depends_31 : DependsOn run step_3 step_1
depends_31 = (([], step_2 ∷ [], step_4 ∷ [], refl), inl (record { step = 1; place = 2 }, refl, (refl, omega arith, omega arith)))

depends_43 : DependsOn run step_4 step_3
depends_43 = ((step_1 ∷ step_2 ∷ [], [], [], refl), inl (record { step = 3; place = 1 }, refl, (refl, omega arith, omega arith)))

-- a consequence has a greater number
follows_rises : {a b : Record} → Follows run a b → a.number < b.number
follows_rises {a} {b} (directly d) = precedes_rises number run a b rising d.0
follows_rises {a} {b} (further {b = m} f d) = let first = follows_rises f in let last = precedes_rises number run m b rising d.0 in omega arith

-- a chain of dependence begins with a step that depends directly on the first, and ends in a step of the run
first_link : {a b : Record} → Follows run a b → (c : Record) × DependsOn run c a
first_link {b = b} (directly d) = (b, d)
first_link (further f d) = first_link f

last_link : {a b : Record} → Follows run a b → In b run
last_link {b = b} (directly {b = _} d) = (by_goal b _ d).1
last_link {b = b} (further f d) = (by_goal b _ d).1

nothing_on_2 : {b : Record} → ¬ Follows run step_2 b
nothing_on_2 f =
    let l = first_link f in
    let g = by_goal l.0 step_2 l.1 in
    each_in run (λ r. ¬ (maker r.goal ≡ 2)) l.0
    ((λ (n : Same 0 2). omega arith), ((λ (n : Same 1 2). omega arith), ((λ (n : Same 1 2). omega arith), ((λ (n : Same 3 2). omega arith), tt))))
    g.1 (made_by l.0 step_2 g.2)

pub depends : AppendDepends
depends = record {
  second = by_making depends_21.0 (record { step = 1; place = 1 }, refl, (refl, omega arith, omega arith));
  third = by_making depends_31.0 (record { step = 1; place = 2 }, refl, (refl, omega arith, omega arith));
  fourth = by_making depends_43.0 (record { step = 3; place = 1 }, refl, (refl, omega arith, omega arith));
  of_first = leave (λ f. let n = follows_rises f in omega arith) (take (directly depends_21) (take (directly depends_31) (take (further (directly depends_31) depends_43) nothing)));
  of_second = leave nothing_on_2 (leave nothing_on_2 (leave nothing_on_2 (leave nothing_on_2 nothing)));
  of_third = leave (λ f. let n = follows_rises f in omega arith) (leave (λ f. let n = follows_rises f in omega arith) (leave (λ f. let n = follows_rises f in omega arith) (take (directly depends_43) nothing)));
  first_of_first = (
    directly depends_21,
    λ c f. each_in run (λ r. 1 < r.number → (r ≡ step_2) ⊎ Precedes run step_2 r) c (
      (λ (n : 1 < 1). absurd (omega arith)),
      (
        (λ _. inl refl),
        ((λ _. inr (step_1 ∷ [], [], step_4 ∷ [], refl)), ((λ _. inr (step_1 ∷ [], step_3 ∷ [], [], refl)), tt)),
      ),
    )
        (last_link f) (follows_rises f),
  );
}

-- the place of a number in the order 1 3 4 2
abbrev place : ℕ → ℕ
place n = cond (nat_eq n 1) 0 (cond (nat_eq n 3) 1 (cond (nat_eq n 4) 2 3))

places_rise : Rises place (1 ∷ 3 ∷ 4 ∷ 2 ∷ [])
places_rise = ((omega arith, (omega arith, (omega arith, tt))), ((omega arith, (omega arith, tt)), ((omega arith, tt), (tt, tt))))

none_early : (a b : Record) → ¬ IsTooEarly run (1 ∷ 3 ∷ 4 ∷ 2 ∷ []) a b
none_early a b t =
    let g = by_goal b a t.0 in
    let m = made_by b a g.2 in
    let less = precedes_rises place (1 ∷ 3 ∷ 4 ∷ 2 ∷ []) b.number a.number places_rise t.1 in
    let positive : 0 < a.number = each_in run (λ r. 0 < r.number) a (omega arith, (omega arith, (omega arith, (omega arith, tt)))) g.0 in
    each_in run (λ r. 0 < maker r.goal → place r.number < place (maker r.goal) → ⊥) b
    ((λ (n : 0 < 0) _. omega arith), ((λ _ (n : 3 < 0). omega arith), ((λ _ (n : 1 < 0). omega arith), ((λ _ (n : 2 < 1). omega arith), tt))))
    g.1 (subst (λ n. 0 < n) (sym m) positive) (subst (λ n. place b.number < place n) (sym m) less)

-- the only step on which step 2 depends
under_2 : (c : Record) → DependsOn run step_2 c → c ≡ step_1
under_2 c d =
    let g = by_goal step_2 c d in
    each_in run (λ r. 1 ≡ r.number → r ≡ step_1) c
    ((λ _. refl), ((λ (n : Same 1 2). absurd (omega arith)), ((λ (n : Same 1 3). absurd (omega arith)), ((λ (n : Same 1 4). absurd (omega arith)), tt))))
    g.0 (made_by step_2 c g.2)

pub orders : AppendOrders
orders = record {
  lawful = (
    ((λ n i. grind arith, (grind arith, (grind arith, (grind arith, (λ i. i, tt))))), λ n i. grind arith),
    none_early,
  );
  early = too_early {a = step_1} {b = step_2} ((λ n i. grind arith, (grind arith, (grind arith, (grind arith, (λ i. i, tt))))), λ n i. grind arith)
      (record {
        front = [];
        behind = 1 ∷ 3 ∷ 4 ∷ [];
        splits = refl;
        before = λ c d i. absurd i;
        early = (depends_21, ([], [], 3 ∷ 4 ∷ [], refl));
        first = λ c t. inl (under_2 c t.0);
      });
  missing = missing {r = step_4} (λ n i. grind arith, (grind arith, (grind arith, (λ i. i, tt))))
      (record { front = step_1 ∷ step_2 ∷ step_3 ∷ []; behind = []; splits = refl; before = λ n i. i; absent = grind arith });
  twice = wrong (record { front = 1 ∷ []; behind = 2 ∷ 3 ∷ []; splits = refl; before = (λ n i. grind arith, (λ i. i, tt)); not_new = inr (inl refl) });
}
