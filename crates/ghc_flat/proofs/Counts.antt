-- Counting along terms and lists of terms.
use Rattle.ghc_flat.proofs.Words.{◌≡◌, ◌≢◌, ℕ, ◌+◌, ◌<◌, List, [], ◌∷◌, ◌++◌, length, length-append, append_assoc, append-nil, take, drop, get_or, refl, sym, ap, ◌∙◌, subst, arith, Result, Ok, Err, take_more, take-append-drop, VarName, Tree, node, trees, variables, variables_of_all, variables_of_list, asked, Rises, CountsTo}
use Rattle.ghc_flat.proofs.Rising.{rises_append}

pub counts_none : (k : ℕ) → CountsTo [] k (Ok k)
counts_none k = (tt, omega arith)

pub counts_other : (x : VarName) (k : ℕ) → x ≢ asked (k + 1) → CountsTo (x ∷ []) k (Err x)
counts_other x k n = let same : k + 0 + 1 ≡ k + 1 = omega arith in ([], [], refl, tt, λ e. n (e ∙ ap asked same))

-- one list counted after another
pub counts_append : (xs ys : List VarName) (k m : ℕ) (r : Result ℕ VarName) → CountsTo xs k (Ok m) → CountsTo ys m r → CountsTo (xs ++ ys) k r
counts_append xs ys k m (Ok n) p q =
    let ends : m ≡ k + length xs = p.1 in
    let whole : n ≡ m + length ys = q.1 in
    (rises_append xs ys k p.0 (subst (λ a. Rises a ys) ends q.0), omega (arith, ends, whole, length-append xs ys))
counts_append xs ys k m (Err x) p q =
    let ends : m ≡ k + length xs = p.1 in
    let place : k + length (xs ++ q.0) + 1 ≡ m + length q.0 + 1 = omega (arith, ends, length-append xs q.0) in (
      xs ++ q.0,
      q.1,
      ap (λ l. xs ++ l) q.2 ∙ sym (append_assoc xs q.0 (x ∷ q.1)),
      rises_append xs q.0 k p.0 (subst (λ a. Rises a q.0) ends q.3),
      λ e. q.4 (e ∙ ap asked place),
    )

-- one that has stopped
pub counts_stop : (xs ys : List VarName) (k : ℕ) (x : VarName) → CountsTo xs k (Err x) → CountsTo (xs ++ ys) k (Err x)
counts_stop xs ys k x p = (p.0, p.1 ++ ys, ap (λ l. l ++ ys) p.2 ∙ append_assoc p.0 (x ∷ p.1) ys, p.3, p.4)

-- the variables of a node's arguments are those of the list
pub all_list : (ts : List Tree) → variables_of_all (trees ts) ≡ variables_of_list ts
all_list [] = refl
all_list (t ∷ ts) = ap (λ l. variables t ++ l) (all_list ts)

pub list_append : (ts us : List Tree) → variables_of_list (ts ++ us) ≡ variables_of_list ts ++ variables_of_list us
list_append [] us = refl
list_append (t ∷ ts) us = ap (λ l. variables t ++ l) (list_append ts us) ∙ sym (append_assoc (variables t) (variables_of_list ts) (variables_of_list us))

pub list_push : (ts : List Tree) (t : Tree) → variables_of_list (ts ++ t ∷ []) ≡ variables_of_list ts ++ variables t
list_push ts t = list_append ts (t ∷ []) ∙ ap (λ l. variables_of_list ts ++ l) (append-nil (variables t))

-- the variables of a node, by its front arguments and its last one
pub node_variables : (f : List ℕ) (whole front : List Tree) (last : Tree) → whole ≡ front ++ last ∷ [] → variables_of_list front ++ variables last ≡ variables (node f (trees whole))
node_variables f whole front last e = sym (all_list whole ∙ ap variables_of_list e ∙ list_push front last)

-- the variables of one more of the terms
pub list_next : (ts : List Tree) (i : ℕ) (t : Tree) → i < length ts → t ≡ get_or ts i t → variables_of_list (take i ts) ++ variables t ≡ variables_of_list (take (i + 1) ts)
list_next ts i t h e = sym (ap variables_of_list (take_more ts i t h ∙ ap (λ u. take i ts ++ u ∷ []) (sym e)) ∙ list_push (take i ts) t)

-- and of the terms after it
pub list_rest : (ts : List Tree) (i : ℕ) (t : Tree) → i < length ts → t ≡ get_or ts i t → (rest : List VarName) × ((variables_of_list (take i ts) ++ variables t) ++ rest ≡ variables_of_list ts)
list_rest ts i t h e =
    let parts : take (i + 1) ts ++ drop (i + 1) ts ≡ ts = take-append-drop (i + 1) ts in
    (variables_of_list (drop (i + 1) ts), ap (λ l. l ++ variables_of_list (drop (i + 1) ts)) (list_next ts i t h e) ∙ sym (list_append (take (i + 1) ts) (drop (i + 1) ts)) ∙ ap variables_of_list parts)
