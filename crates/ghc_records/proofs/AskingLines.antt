-- Lemmas on lines that say steps which ask for goals.
use Rattle.ghc_records.proofs.Words.{◌≡◌, ◌≢◌, ◌≤◌, IfOk, IfSome, IfNone, ℕ, zero, suc, ◌+◌, ◌==◌, All, List, [], ◌∷◌, ◌++◌, Option, Some, None, Result, Ok, Err, true, false, inl, inr, refl, sym, ap, ◌∙◌, subst, arith, decimal, filter, drop, append_assoc, codes, is_some, MatchResult, list_all, eq-eqb, ne_eqb, append_cancel_left, none_weaker, Fault, VarName, IsExact, Goal, In, variables_of_goals, firsts, a_body, IsRefusal, IsReadBody, WrittenAsk, made, asked_of, made_from, Step, greatest_number, AreNewInOrder, SaysAsking, SaysGoals}
use Rattle.ghc_records.proofs.CutLemmas.{cut_once, no_cut, number_plain, one_number}

-- ---- lines

-- a line is cut at its first blank in one way
pub asking_apart : (line a b : List ℕ) (s : Step) → line ≡ a ++ 32 ∷ b → All (λ c. c ≢ 32) a → (h : SaysAsking line s) → (a ≡ decimal s.number) × (b ≡ codes "- ask " ++ h.body)
asking_apart line a b s cut plain h = cut_once 32 a b (decimal s.number) (codes "- ask " ++ h.body) plain (number_plain 32 s.number refl h.number.1) (sym cut ∙ h.parts)

pub no_blank : (line : List ℕ) → All (λ c. c ≢ 32) line → (s : Step) → ¬ SaysAsking line s
no_blank line plain s h = no_cut 32 (decimal s.number) (codes "- ask " ++ h.body) line (number_plain 32 s.number refl h.number.1) plain h.parts

-- ---- names

pub all_named : (named : List (Option VarName)) → list_all is_some named ≡ true → ¬ In None named
all_named [] e i = i
all_named (None ∷ os) e i = cc
all_named (Some x ∷ os) e (inl same) = cc
all_named (Some x ∷ os) e (inr i) = all_named os e i

pub one_unnamed : (named : List (Option VarName)) → list_all is_some named ≡ false → In None named
one_unnamed [] e = cc
one_unnamed (None ∷ os) e = inl refl
one_unnamed (Some x ∷ os) e = inr (one_unnamed os e)

-- ---- one reading

module _ (text : List ℕ) (r : Result WrittenAsk Fault) (exact : IsExact (IsReadBody text) (IsRefusal a_body text) r) where
  -- a text that is refused says no goals
  pub none_read : (f : Fault) → r ≡ Err f → f ≢ Fault.Memory → (gs : List Goal) → ¬ SaysGoals text gs
  none_read f is other gs says = other (subst (λ q. MatchResult q (λ b. b ≡ says.0) (λ e. e ≡ Fault.Memory)) is (exact.gives says.0 says.1))

  one_read : (a b : WrittenAsk) → r ≡ Ok a → IsReadBody text b → a ≡ b
  one_read a b is read = subst (λ q. MatchResult q (λ c. c ≡ b) (λ e. e ≡ Fault.Memory)) is (exact.gives b read)

  -- nor does one that calls a variable by another name
  pub unnamed_read : (a : WrittenAsk) → r ≡ Ok a → In None a.named → (gs : List Goal) → ¬ SaysGoals text gs
  unnamed_read a is i gs says = says.2 (subst (λ b. In None b.named) (one_read a says.0 is says.1) i)

  -- and it says no others
  pub same_goals : (a : WrittenAsk) (hs : List Goal) → r ≡ Ok a → hs ≡ asked_of a → (gs : List Goal) → SaysGoals text gs → gs ≡ hs
  same_goals a hs is are gs says = says.3 ∙ ap asked_of (sym (one_read a says.0 is says.1)) ∙ sym are

-- ---- new variables in order

-- one more
pub made_more : (n i k : ℕ) → made_from n i k ++ made n (i + k) ∷ [] ≡ made_from n i (suc k)
made_more n i zero = let same : i + 0 ≡ i = omega arith in ap (λ j. made n j ∷ []) same
made_more n i (suc k) =
    let same : i + suc k ≡ (i + 1) + k = omega arith in
    ap (λ j. made n i ∷ (made_from n (i + 1) k ++ made n j ∷ [])) same ∙ ap (λ l. made n i ∷ l) (made_more n (i + 1) k)

-- where made ones come first and another after them, and all are made ones, it is the next
next_made : (n i p k : ℕ) (x : VarName) (xs : List VarName) → made_from n i p ++ x ∷ xs ≡ made_from n i k → x.place ≡ i + p
next_made n i zero (suc k) x xs e = let same : x ≡ made n i = cc in ap (λ y. y.place) same ∙ omega arith
next_made n i (suc p) (suc k) x xs e =
    let rest : made_from n (i + 1) p ++ x ∷ xs ≡ made_from n (i + 1) k = cc in
    next_made n (i + 1) p k x xs rest ∙ omega arith
next_made n i p k x xs e = cc

-- the variables of a step
abbrev pub own : ℕ → List VarName → List VarName
own n xs = filter (λ x. x.step == n) xs

-- up to a place, those of the step are the first made ones
abbrev pub AreMade : List VarName → ℕ → ℕ → ℕ → Type 0
AreMade xs n i p = own n xs ≡ made_from n 1 p ++ own n (drop i xs)

module _ (xs : List VarName) (n i p : ℕ) (x : VarName) (here : drop i xs ≡ x ∷ drop (i + 1) xs) (so_far : AreMade xs n i p) where
  -- one of another step changes nothing
  pub passed : x.step ≢ n → AreMade xs n (i + 1) p
  passed other = rw (here, ne_eqb x.step n other) at so_far

  found : x.step ≡ n → own n xs ≡ made_from n 1 p ++ x ∷ own n (drop (i + 1) xs)
  found step = rw (here, eq-eqb x.step n step) at so_far

  -- the next one is one more
  pub counted : x.step ≡ n → x.place ≡ p + 1 → AreMade xs n (i + 1) (p + 1)
  counted step place =
      let place_is : x.place ≡ 1 + p = omega (arith, place) in
      let same : x ≡ made n (1 + p) = λ j. record { step = step j; place = place_is j } in
      let more : p + 1 ≡ suc p = omega arith in
      found step ∙ ap (λ y. made_from n 1 p ++ y ∷ own n (drop (i + 1) xs)) same
      ∙ sym (append_assoc (made_from n 1 p) (made n (1 + p) ∷ []) (own n (drop (i + 1) xs))) ∙ ap (λ l. l ++ own n (drop (i + 1) xs)) (made_more n 1 p ∙ ap (made_from n 1) (sym more))

  -- another one is out of order
  pub out_of_order : x.step ≡ n → x.place ≢ p + 1 → (k : ℕ) → own n xs ≢ made_from n 1 k
  out_of_order step other k e = other (next_made n 1 p k x (own n (drop (i + 1) xs)) (sym (found step) ∙ e) ∙ omega arith)

-- ---- lines put together

-- The line begins with the number of the step, and after `- ask ` the text stands.
line_is_made : (line word rest front text : List ℕ) (n : ℕ) → line ≡ word ++ 32 ∷ rest → rest ≡ front ++ text → front ≡ codes "- ask " → word ≡ decimal n → line ≡ decimal n ++ 32 ∷ (codes "- ask " ++ text)
line_is_made line word rest front text n cut begins at is = cut ∙ ap (λ w. w ++ 32 ∷ rest) is ∙ ap (λ r. decimal n ++ 32 ∷ r) (begins ∙ ap (λ f. f ++ text) at)

pub one_asking : {E : Type 0} (line word rest front text : List ℕ) (n : ℕ) (r : Result (Option Step) E) → line ≡ word ++ 32 ∷ rest → rest ≡ front ++ text → front ≡ codes "- ask " → word ≡ decimal n
    → IfOk r (λ found. IfSome found (λ s. SaysAsking (decimal n ++ 32 ∷ (codes "- ask " ++ text)) s)) → IfOk r (λ found. IfSome found (λ s. SaysAsking line s))
one_asking line word rest front text n r cut begins at is says =
    subst (λ l. IfOk r (λ found. IfSome found (λ s. SaysAsking l s))) (sym (line_is_made line word rest front text n cut begins at is)) says

pub no_asking : {E : Type 0} (line word rest front text : List ℕ) (n : ℕ) (r : Result (Option Step) E) → line ≡ word ++ 32 ∷ rest → All (λ c. c ≢ 32) word → rest ≡ front ++ text → front ≡ codes "- ask " → word ≡ decimal n → n ≤ greatest_number
    → IfOk r (λ found. IfNone found ((gs : List Goal) → SaysGoals text gs → ¬ AreNewInOrder n gs)) → IfOk r (λ found. IfNone found ((s : Step) → ¬ SaysAsking line s))
no_asking line word rest front text n r cut plain begins at is small = none_weaker r
    (λ (none : (gs : List Goal) → SaysGoals text gs → ¬ AreNewInOrder n gs). λ s says.
    let parts = asking_apart line word rest s cut plain says in
    let number = one_number n s.number small says.number.1 (sym is ∙ parts.0) in
    let body : says.body ≡ text = sym (append_cancel_left (codes "- ask ") text says.body (ap (λ f. f ++ text) (sym at) ∙ sym begins ∙ parts.1)) in
    none says.goals (subst (λ l. SaysGoals l says.goals) body says.says) (subst (λ m. AreNewInOrder m says.goals) (sym number) says.new))

-- where those of an ask are in order, so are those of its variables
pub in_order_of : (gs : List Goal) (xs : List VarName) (n : ℕ) → xs ≡ firsts [] (variables_of_goals gs) → AreNewInOrder n gs → (k : ℕ) × (own n xs ≡ made_from n 1 k)
in_order_of gs xs n is new = (new.0, ap (own n) is ∙ new.1)

pub new_in_order : (gs : List Goal) (xs : List VarName) (n : ℕ) → xs ≡ firsts [] (variables_of_goals gs) → (k : ℕ) × (own n xs ≡ made_from n 1 k) → AreNewInOrder n gs
new_in_order gs xs n is new = (new.0, ap (own n) (sym is) ∙ new.1)
