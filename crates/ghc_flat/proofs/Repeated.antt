-- The variable of a head whose second place comes first.
use Rattle.ghc_flat.proofs.Words.{◌≡◌, ℕ, ◌+◌, ◌<◌, List, [], ◌∷◌, ◌++◌, length, append_assoc, sym, ap, ◌∙◌, subst, arith, Err, Some, slice_get, VarName, In, WrittenClause, IsWellWritten, AreNumbered, variables_of_guards, variables_of_written, asked, variables_of_list, IsFirstTwice, IsRepeated, CountsTo}
use Rattle.ghc_term.specs.Variables.{firsts, variables_of_goals}
use Rattle.ghc_flat.proofs.Rising.{again, place_of_in, rises_distinct, firsts_long}

-- the variables after the front of a head
behind : WrittenClause → List VarName → VarName → List VarName → List VarName
behind w front x back = back ++ (variables_of_guards w.guards ++ variables_of_goals w.body)

whole : (w : WrittenClause) (front : List VarName) (x : VarName) (back : List VarName) → variables_of_list w.head ≡ front ++ x ∷ back → variables_of_written w ≡ front ++ x ∷ behind w front x back
unfolding behind
whole w front x back e =
    append_assoc (variables_of_list w.head) (variables_of_guards w.guards) (variables_of_goals w.body)
    ∙ ap (λ l. l ++ (variables_of_guards w.guards ++ variables_of_goals w.body)) e
    ∙ append_assoc front (x ∷ back) (variables_of_guards w.guards ++ variables_of_goals w.body)

stands : (w : WrittenClause) → IsWellWritten w → (x : VarName) (c : CountsTo (variables_of_list w.head) 0 (Err x)) → In x c.0
stands w ok x c = again c.0 x (behind w c.0 x c.1) (subst AreNumbered (whole w c.0 x c.1 c.2) ok.numbered) c.3 c.4

pub first_twice : (w : WrittenClause) → IsWellWritten w → (x : VarName) → CountsTo (variables_of_list w.head) 0 (Err x) → IsFirstTwice (variables_of_list w.head) x
first_twice w ok x c = record { front = c.0; back = c.1; splits = c.2; distinct = rises_distinct c.0 0 c.3; before = stands w ok x c }

pub named_place : (w : WrittenClause) → IsWellWritten w → (x : VarName) → CountsTo (variables_of_list w.head) 0 (Err x) → (i : ℕ) × (x ≡ asked (i + 1)) × (i < length w.variables)
named_place w ok x c =
    let p = place_of_in c.0 0 x c.3 (stands w ok x c) in
    let less : p.0 < length c.0 = p.2 in
    let named = ok.named in
    let long = firsts_long c.0 0 [] (x ∷ behind w c.0 x c.1) c.3 (λ y i. absurd i) in
    let same : length (firsts [] (c.0 ++ x ∷ behind w c.0 x c.1)) ≡ length (firsts [] (variables_of_written w)) = ap (λ l. length (firsts [] l)) (sym (whole w c.0 x c.1 c.2)) in
    let place : 0 + p.0 + 1 ≡ p.0 + 1 = omega arith in
    (p.0, p.1 ∙ ap asked place, omega (arith, less, named, long, same))

-- the variable has its name
pub repeated : (w : WrittenClause) → IsWellWritten w → (x : VarName) → CountsTo (variables_of_list w.head) 0 (Err x) → (v : List ℕ) → ((i : ℕ) → x.place ≡ i + 1 → slice_get w.variables i ≡ Some v) → IsRepeated w v
repeated w ok x c v named =
    let p = named_place w ok x c in
    (x, first_twice w ok x c, (p.0, p.1, named p.0 (ap (λ (y : VarName). y.place) p.1)))
