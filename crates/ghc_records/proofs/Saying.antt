-- Lemmas on what lines say of steps.
use Rattle.ghc_records.proofs.Words.{◌≡◌, ◌≢◌, ℕ, ◌+◌, ◌≤◌, All, List, ◌∷◌, ◌++◌, get_or, refl, sym, ap, ◌∙◌, arith, decimal, subst, codes, append_cancel_left, All-append, All-cons, GoalName, Act, ByClause as by_clause, Unified as unified, Assigned as assigned, Given as given, Closed as closed, Asked as asked, IsReadTerm, Tree, Step, act_text, goal_name_text, SaysAct, SaysStep, greatest_number}
use Rattle.ghc_records.proofs.CutLemmas.{cut_once, no_cut, number_plain, one_number}

-- the name of a goal has no blank
pub goal_plain : (g : GoalName) → g.step ≤ greatest_number → g.place ≤ greatest_number → All (λ c. c ≢ 32) (goal_name_text g)
goal_plain g step place =
    All-append (λ c. c ≢ 32) (decimal g.step) (46 ∷ decimal g.place) (number_plain 32 g.step refl step) (All-cons (λ c. c ≢ 32) 46 (decimal g.place) (λ e. omega (arith, e)) (number_plain 32 g.place refl place))

-- the name of a goal is cut at its point in one way
pub goal_apart : (word a b : List ℕ) (g : GoalName) → word ≡ a ++ 46 ∷ b → All (λ c. c ≢ 46) a → g.step ≤ greatest_number → word ≡ goal_name_text g → (a ≡ decimal g.step) × (b ≡ decimal g.place)
goal_apart word a b g cut plain small e = cut_once 46 a b (decimal g.step) (decimal g.place) plain (number_plain 46 g.step refl small) (sym cut ∙ e)

-- without a point no goal is named
pub no_goal : (word : List ℕ) → All (λ c. c ≢ 46) word → (g : GoalName) → g.step ≤ greatest_number → g.place ≤ greatest_number → word ≢ goal_name_text g
no_goal word plain g step place e = no_cut 46 (decimal g.step) (decimal g.place) word (number_plain 46 g.step refl step) plain e

-- a line is cut at its first blank in one way
pub line_apart : (line a b : List ℕ) (s : Step) → line ≡ a ++ 32 ∷ b → All (λ c. c ≢ 32) a → (h : SaysStep line s) → (a ≡ decimal s.number) × (b ≡ goal_name_text h.goal ++ 32 ∷ h.act)
line_apart line a b s cut plain h = cut_once 32 a b (decimal s.number) (goal_name_text h.goal ++ 32 ∷ h.act) plain (number_plain 32 s.number refl h.number.1) (sym cut ∙ h.parts)

pub no_blank : (line : List ℕ) → All (λ c. c ≢ 32) line → (s : Step) → ¬ SaysStep line s
no_blank line plain s h = no_cut 32 (decimal s.number) (goal_name_text h.goal ++ 32 ∷ h.act) line (number_plain 32 s.number refl h.number.1) plain h.parts

-- a line says a step of the number with which it begins
pub number_apart : (step : ℕ) (bytes : List ℕ) (s : Step) → step ≤ greatest_number → (h : SaysStep (decimal step ++ 32 ∷ bytes) s) → (step ≡ s.number) × (bytes ≡ goal_name_text h.goal ++ 32 ∷ h.act)
number_apart step bytes s small h =
    let (first, second) = line_apart (decimal step ++ 32 ∷ bytes) (decimal step) bytes s refl (number_plain 32 step refl small) h in
    (one_number step s.number small h.number.1 first, second)

-- what follows the number is cut at its blank in one way
pub act_apart : (step : ℕ) (bytes a b : List ℕ) (s : Step) → step ≤ greatest_number → bytes ≡ a ++ 32 ∷ b → All (λ c. c ≢ 32) a → (h : SaysStep (decimal step ++ 32 ∷ bytes) s) → (a ≡ goal_name_text h.goal) × (b ≡ h.act)
act_apart step bytes a b s small cut plain h =
    cut_once 32 a b (goal_name_text h.goal) h.act plain (goal_plain h.goal h.goal_numbers.0 h.goal_numbers.1) (sym cut ∙ (number_apart step bytes s small h).1)

pub no_act : (step : ℕ) (bytes : List ℕ) → step ≤ greatest_number → All (λ c. c ≢ 32) bytes → (s : Step) → ¬ SaysStep (decimal step ++ 32 ∷ bytes) s
no_act step bytes small plain s h = no_cut 32 (goal_name_text h.goal) h.act bytes (goal_plain h.goal h.goal_numbers.0 h.goal_numbers.1) plain (number_apart step bytes s small h).1

-- a line says steps of one number
pub one_step_number : (line : List ℕ) (s t : Step) → SaysStep line s → SaysStep line t → s.number ≡ t.number
one_step_number line s t h k =
    one_number s.number t.number h.number.1 k.number.1
    (line_apart line (decimal s.number) (goal_name_text h.goal ++ 32 ∷ h.act) t h.parts (number_plain 32 s.number refl h.number.1) k).0

-- bytes that begin otherwise are no same bytes
differ : (a b : List ℕ) → get_or a 0 0 + get_or a 1 0 ≢ get_or b 0 0 + get_or b 1 0 → a ≢ b
differ a b other e = other (ap (λ l. get_or l 0 0 + get_or l 1 0) e)

-- what begins with the one begins with the other
begun : (bytes front word begins : List ℕ) → front ≡ begins → bytes ≡ front ++ word → begins ++ word ≡ bytes
begun bytes front word begins at cut = ap (λ l. l ++ word) (sym at) ∙ sym cut

-- bytes that say an input
pub in_only : (bytes front text : List ℕ) → front ≡ codes "in " → bytes ≡ front ++ text → ((u : Tree) → ¬ IsReadTerm text u) → (act : Act) → ¬ SaysAct bytes act
in_only bytes front text at cut none (given u) h =
    let same : text ≡ h.0 = append_cancel_left (codes "in ") text h.0 (begun bytes front text (codes "in ") at cut ∙ h.1) in
    none u (subst (λ l. IsReadTerm l u) (sym same) h.2)
in_only bytes front text at cut none (asked gs) h = h
in_only bytes front text at cut none (by_clause k) h = differ (codes "in " ++ text) (codes "by " ++ decimal k) (λ e. omega (arith, e)) (begun bytes front text (codes "in ") at cut ∙ h.0)
in_only bytes front text at cut none act h = differ (codes "in " ++ text) (act_text act) (λ e. omega (arith, e)) (begun bytes front text (codes "in ") at cut ∙ h)

-- bytes that begin neither way, and are no other act
pub none_only : (bytes by given_front : List ℕ) → by ≡ codes "by " → given_front ≡ codes "in " → ((rest : List ℕ) → bytes ≢ by ++ rest) → ((rest : List ℕ) → bytes ≢ given_front ++ rest)
    → (bytes ≢ codes "eq") × (bytes ≢ codes "is") × (bytes ≢ codes "end") → (act : Act) → ¬ SaysAct bytes act
none_only bytes by given_front at here no_by no_in others (by_clause k) h = no_by (decimal k) (h.0 ∙ ap (λ l. l ++ decimal k) (sym at))
none_only bytes by given_front at here no_by no_in others unified h = others.0 h
none_only bytes by given_front at here no_by no_in others assigned h = others.1 h
none_only bytes by given_front at here no_by no_in others (given u) h = no_in h.0 (h.1 ∙ ap (λ l. l ++ h.0) (sym here))
none_only bytes by given_front at here no_by no_in others closed h = others.2 h
none_only bytes by given_front at here no_by no_in others (asked gs) h = h
