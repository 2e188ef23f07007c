-- The facts, step by step.
use Rattle.ghc_fire.proofs.Words.{◌≡◌, ℕ, cond, pos, List, [], ◌∷◌, map, refl, sym, ap, ◌∙◌, inl, inr, arith, Option, Some, unwrap_or, eq_by_cmp, VarName, Tree, variable, integer, nil, at_node, along, Reaches, now, on, name_cmp, name_total, name_antisymmetric, Clause, fresh_variables, asked, v, store, append_nothing, append_cell, HasOutcome, accepts, accepts_by, stands_at, stands_value, value_not, left, stay, go, ends, replace_in_goal, made, place_in, body_made, list_1, list_2, partial_list, AppendRun, InputAndClose, InputReadsAlias, BoundTailTakesNothing}
use Rattle.std.specs.FinMap as finite
use Rattle.std.specs.FinSet as set
use Rattle.ghc_match.specs.Position as position
use Rattle.ghc_fire.proofs.Steps.{given_open, closed_reaches}

no_entry : finite.from_entries {R = name_cmp} [] ≡ finite.empty {X = Tree}
no_entry = finite.same_map name_total name_antisymmetric _ _ (λ q. finite.get-from_entries name_total [] q ∙ sym (finite.get-empty name_cmp q))

one_entry : (x : VarName) (t : Tree) → finite.from_entries {R = name_cmp} ((x, t) ∷ []) ≡ finite.insert finite.empty x t
one_entry x t = finite.same_map name_total name_antisymmetric _ _ (λ q.
    finite.get-from_entries name_total ((x, t) ∷ []) q ∙ sym (finite.get-insert name_total finite.empty x t q ∙ ap (λ o. cond (eq_by_cmp name_cmp q x) (Some t) o) (finite.get-empty name_cmp q)))

-- the body of a clause whose head variables stand for the entries
body_is : (c : Clause) (es : List (VarName × Tree)) (n : ℕ) → body_made c (finite.from_entries es) n ≡ map (replace_in_goal (λ y. unwrap_or (finite.find name_cmp y es) (variable (made n (place_in (fresh_variables c) y))))) c.body
body_is c es n = ap (λ s. map (replace_in_goal s) c.body) (λ i y. unwrap_or (finite.get-from_entries name_total es y i) (variable (made n (place_in (fresh_variables c) y))))

abbrev cell_entries : List (VarName × Tree)
cell_entries = (asked 1, integer (pos 1)) ∷ (asked 2, nil) ∷ (asked 3, list_2) ∷ (asked 4, v 1) ∷ []

cell_accepts : HasOutcome append_cell (list_1 ∷ list_2 ∷ v 1 ∷ []) (store []) (accepts (finite.from_entries cell_entries) (set.from_list []))
cell_accepts = accepts_by append_cell (list_1 ∷ list_2 ∷ v 1 ∷ []) (store []) cell_entries []
    ((λ _. (list_1, [], list_1, position.here refl, at_node, inl (tt, (refl, refl)), tt)), ((λ i. absurd i), ((λ i. absurd i), ((λ i. absurd i), ((λ i. absurd i), tt))))) (
      stands_value cell_entries tt,
      (
        stands_at cell_entries (position.down refl at_node (position.here refl)) refl,
        (stands_at cell_entries (position.down refl at_node (position.here refl)) refl, (stands_at cell_entries (position.here refl) refl, (stands_at cell_entries (position.here refl) refl, tt))),
      ),
    ) (
      (0 ∷ 0 ∷ [], position.down refl at_node (position.here refl), position.down refl at_node (position.here refl)),
      (
        (0 ∷ 1 ∷ [], position.down refl at_node (position.here refl), position.down refl at_node (position.here refl)),
        ((1 ∷ [], position.here refl, position.here refl), ((2 ∷ [], position.here refl, position.here refl), tt)),
      ),
    )
    tt
    tt

abbrev rest : List Tree
rest = nil ∷ list_2 ∷ variable (made 1 1) ∷ []

abbrev nothing_entries : List (VarName × Tree)
nothing_entries = (asked 1, list_2) ∷ (asked 2, variable (made 1 1)) ∷ []

abbrev after_one : VarName → Option Tree
after_one = store ((asked 1, partial_list) ∷ [])

nothing_accepts : HasOutcome append_nothing rest after_one (accepts (finite.from_entries nothing_entries) (set.from_list []))
nothing_accepts = accepts_by append_nothing rest after_one nothing_entries []
    ((λ _. (nil, [], nil, position.here refl, at_node, inl (tt, (refl, refl)), tt)), ((λ i. absurd i), ((λ i. absurd i), tt)))
    (stands_value nothing_entries tt, (stands_at nothing_entries (position.here refl) refl, (stands_at nothing_entries (position.here refl) refl, tt)))
    ((1 ∷ [], position.here refl, position.here refl), ((2 ∷ [], position.here refl, position.here refl), tt))
    tt
    tt

-- what the list stands for does not reach R or the fresh variable itself
apart : {x y : VarName} → ¬ (x.step ≡ y.step) → ¬ (x ≡ y)
apart n e = n (λ i. (e i).step)

-- a closed list reaches nothing
from_list_2 : {S : VarName → Option Tree} {x : VarName} → ¬ Reaches S list_2 x
from_list_2 r = closed_reaches (λ x o. elim o [ inl i ↦ i | inr j ↦ elim j [ inl e ↦ e | inr k ↦ k ] ]) r

pub append_run : AppendRun
append_run = (
  (append_cell, finite.from_entries cell_entries, (1, refl, refl), (refl, refl), cell_accepts, no_entry, sym (body_is append_cell cell_entries 1), refl),
  (((asked 1, partial_list) ∷ [], [], (_, go (left now refl (given_open _ _ _ _ (λ x o. o) refl (apart (λ e. omega arith)))) stay), refl, refl), refl, refl),
  (append_nothing, finite.from_entries nothing_entries, (0, refl, refl), (refl, refl), nothing_accepts, no_entry, sym (body_is append_nothing nothing_entries 3), refl),
  (((made 1 1, list_2) ∷ [], [], (_, go (left now refl from_list_2) stay), refl, refl), refl, refl),
)

pub input_and_close : InputAndClose
input_and_close = (
  (asked 1, (λ x o. o), ([], now, refl, refl), one_entry (asked 1) _, refl, refl),
  (made 1 1, (λ x o. o), ([], now, refl, refl), one_entry (made 1 1) _, refl, refl),
  (made 2 1, ([], now, refl, refl), one_entry (made 2 1) _, refl, refl),
)

pub input_reads_alias : InputReadsAlias
input_reads_alias = (asked 2, (λ x o. o), (asked 1 ∷ [], on refl now, refl, refl), one_entry (asked 2) _, refl, refl)

pub bound_tail_takes_nothing : BoundTailTakesNothing
bound_tail_takes_nothing e d =
    let r = d.2 in
    let same : nil ≡ variable d.0 = ends r.2 (along refl at_node) (r.0, r.1) in
    value_not same tt
