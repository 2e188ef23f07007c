-- The amounts of lists of terms, goals and clauses, one element after the other.
use Rattle.ghc_reader.proofs.Words.{◌≡◌, ℕ, ◌+◌, ◌<◌, ◌≤◌, List, [], ◌∷◌, ◌++◌, length, get_or, take, drop, map, refl, sym, ap, ◌∙◌, arith, append_assoc, Box, Global, Vec, vec_len, max, min, flat_map, ord_max, nat_cmp, common_steps, flat_map-append, take-append-drop, map-append, max_push, SourceTerm, SourceExpression, Sum, Product, Tree, Trees, none, some, Value, product, sum, cells, products, sums, view, views, value_view, factor_views, summand_views, count, largest, levels, widest, widest_of, names, names_of, names_in, nodes, nodes_of}
use Rattle.std.proofs.Common.{append-nil}
use Rattle.ghc_reader.specs.declared.source.SourceTerm.TheViews as w
use Rattle.ghc_reader.specs.declared.source.SourceExpression.TheViews as ew
use Rattle.ghc_reader.specs.Source.{trees_of}
use Rattle.ghc_reader.proofs.ExpressionsLowered.{mapped_more, products_push, sums_push}
use Rattle.ghc_reader.proofs.Misplaced.{count_views}
use Rattle.ghc_reader.proofs.Views.{view_list, view_structure, view_products, view_sums}

-- the greater of two numbers
pub max_is : (a b : ℕ) → ord_max nat_cmp a b ≡ max a b
max_is a b = grind (arith, common_steps)

-- the largest of one more
pub largest_more : {A B : Type 0} (f : B → ℕ) (v : A → B) (xs : List A) (i : ℕ) (x : A) → i < length xs → x ≡ get_or xs i x → largest f (map v (take (i + 1) xs)) ≡ max (largest f (map v (take i xs))) (f (v x))
largest_more f v xs i x less is =
    ap (largest f) (mapped_more v xs i x less is) ∙ max_push (largest f) f refl (λ x xs. refl) (map v (take i xs)) (v x)

-- the lists of one more, joined
pub joined_more : {A B C : Type 0} (f : B → List C) (v : A → B) (xs : List A) (i : ℕ) (x : A) → i < length xs → x ≡ get_or xs i x → flat_map f (map v (take (i + 1) xs)) ≡ flat_map f (map v (take i xs)) ++ f (v x)
joined_more f v xs i x less is =
    ap (flat_map f) (mapped_more v xs i x less is) ∙ flat_map-append f (map v (take i xs)) (v x ∷ []) ∙ ap (λ l. flat_map f (map v (take i xs)) ++ l) (append-nil (f (v x)))

-- so a loop that adds what each element has at the end of a list goes on
pub push_more : {A B C : Type 0} (f : B → List C) (v : A → B) (xs : List A) (i : ℕ) (x : A) (start now new : List C) → i < length xs → x ≡ get_or xs i x
    → now ≡ start ++ flat_map f (map v (take i xs)) → new ≡ now ++ f (v x) → new ≡ start ++ flat_map f (map v (take (i + 1) xs))
push_more f v xs i x start now new less is before pushed =
    pushed ∙ ap (λ l. l ++ f (v x)) before ∙ append_assoc start (flat_map f (map v (take i xs))) (f (v x)) ∙ ap (λ l. start ++ l) (sym (joined_more f v xs i x less is))

-- ---- arguments

widest_all : (us : List Tree) → widest_of (trees_of us) ≡ largest widest us
widest_all [] = refl
widest_all (u ∷ us) = ap (max (widest u)) (widest_all us)

pub widest_more : (ts : List SourceTerm) (i : ℕ) (t : SourceTerm) → i < length ts → t ≡ get_or ts i t → widest_of (views (take (i + 1) ts)) ≡ max (widest_of (views (take i ts))) (widest (view t))
widest_more ts i t less is =
    widest_all (map view (take (i + 1) ts)) ∙ largest_more widest view ts i t less is ∙ ap (λ n. max n (widest (view t))) (sym (widest_all (map view (take i ts))))

widest_cells : (us : Trees) (end : Tree) → widest (cells us end) ≡ max (widest_of us) (widest end)
widest_cells none end = omega arith
widest_cells (some u us) end = omega (arith, widest_cells us end)

pub widest_list : (a : Vec SourceTerm Global) (b : Box SourceTerm Global) → widest (view (w.List a b)) ≡ max (widest_of (views a.items)) (widest (view b.value))
widest_list a b = ap widest (view_list a b) ∙ widest_cells (views a.items) (view b.value)

pub widest_structure : (f : List ℕ) (a : Vec SourceTerm Global) → widest (view (w.Structure f a)) ≡ max (vec_len a) (widest_of (views a.items))
widest_structure f a =
    ap widest (view_structure f a) ∙ ap (λ n. max n (widest_of (views a.items))) (count_views a.items ∙ sym a.ok.0)

-- ---- nodes

nodes_push : (us : List Tree) (u : Tree) → nodes_of (trees_of (us ++ u ∷ [])) ≡ nodes_of (trees_of us) + nodes u
nodes_push [] u = omega arith
nodes_push (x ∷ us) u = omega (arith, nodes_push us u)

pub nodes_more : (ts : List SourceTerm) (i : ℕ) (t : SourceTerm) → i < length ts → t ≡ get_or ts i t → nodes_of (views (take (i + 1) ts)) ≡ nodes_of (views (take i ts)) + nodes (view t)
nodes_more ts i t less is =
    ap (λ l. nodes_of (trees_of l)) (mapped_more view ts i t less is) ∙ nodes_push (map view (take i ts)) (view t)

-- the nodes of the first terms and of the next one are among those of all
nodes_front : (us vs : List Tree) → nodes_of (trees_of us) ≤ nodes_of (trees_of (us ++ vs))
nodes_front [] vs = omega arith
nodes_front (u ∷ us) vs = omega (arith, nodes_front us vs)

pub nodes_within : (ts : List SourceTerm) (i : ℕ) (t : SourceTerm) → i < length ts → t ≡ get_or ts i t → nodes_of (views (take i ts)) + nodes (view t) ≤ nodes_of (views ts)
nodes_within ts i t less is =
    let split : map view ts ≡ map view (take (i + 1) ts) ++ map view (drop (i + 1) ts) = ap (map view) (sym (take-append-drop (i + 1) ts)) ∙ map-append view (take (i + 1) ts) (drop (i + 1) ts) in
    let all = ap (λ l. nodes_of (trees_of l)) split in
    omega (arith, all, nodes_more ts i t less is, nodes_front (map view (take (i + 1) ts)) (map view (drop (i + 1) ts)))

nodes_cells : (us : Trees) (end : Tree) → nodes (cells us end) ≡ count us + (nodes_of us + nodes end)
nodes_cells none end = omega arith
nodes_cells (some u us) end = omega (arith, nodes_cells us end)

pub nodes_list : (a : Vec SourceTerm Global) (b : Box SourceTerm Global) → nodes (view (w.List a b)) ≡ vec_len a + (nodes_of (views a.items) + nodes (view b.value))
nodes_list a b =
    ap nodes (view_list a b) ∙ nodes_cells (views a.items) (view b.value) ∙ ap (λ n. n + (nodes_of (views a.items) + nodes (view b.value))) (count_views a.items ∙ sym a.ok.0)

-- ---- variables

names_all : (us : List Tree) → names_of (trees_of us) ≡ flat_map names us
names_all [] = refl
names_all (u ∷ us) = ap (λ l. names u ++ l) (names_all us)

pub names_more : (ts : List SourceTerm) (i : ℕ) (t : SourceTerm) → i < length ts → t ≡ get_or ts i t → names_of (views (take (i + 1) ts)) ≡ names_of (views (take i ts)) ++ names (view t)
names_more ts i t less is =
    names_all (map view (take (i + 1) ts)) ∙ joined_more names view ts i t less is ∙ ap (λ l. l ++ names (view t)) (sym (names_all (map view (take i ts))))

names_cells : (us : Trees) (end : Tree) → names (cells us end) ≡ names_of us ++ names end
names_cells none end = refl
names_cells (some u us) end = ap (λ l. names u ++ l) (names_cells us end) ∙ sym (append_assoc (names u) (names_of us) (names end))

pub names_list : (a : Vec SourceTerm Global) (b : Box SourceTerm Global) → names (view (w.List a b)) ≡ names_of (views a.items) ++ names (view b.value)
names_list a b = ap names (view_list a b) ∙ names_cells (views a.items) (view b.value)

names_products : (left : Value) (xs : List (Product × Value)) → names_in (products left xs) ≡ names_in left ++ flat_map (λ x. names_in x.1) xs
names_products left [] = sym (append-nil (names_in left))
names_products left (x ∷ xs) =
    names_products (product x.0 left x.1) xs ∙ append_assoc (names_in left) (names_in x.1) (flat_map (λ y. names_in y.1) xs)

names_sums : (left : Value) (xs : List (Sum × Value)) → names_in (sums left xs) ≡ names_in left ++ flat_map (λ x. names_in x.1) xs
names_sums left [] = sym (append-nil (names_in left))
names_sums left (x ∷ xs) =
    names_sums (sum x.0 left x.1) xs ∙ append_assoc (names_in left) (names_in x.1) (flat_map (λ y. names_in y.1) xs)

pub names_of_products : (a : Box SourceExpression Global) (others : Vec (Product × SourceExpression) Global) → names_in (value_view (ew.Products a others)) ≡ names_in (value_view a.value) ++ flat_map (λ x. names_in x.1) (factor_views others.items)
names_of_products a others = ap names_in (view_products a others) ∙ names_products (value_view a.value) (factor_views others.items)

pub names_of_sums : (a : Box SourceExpression Global) (others : Vec (Sum × SourceExpression) Global) → names_in (value_view (ew.Sums a others)) ≡ names_in (value_view a.value) ++ flat_map (λ x. names_in x.1) (summand_views others.items)
names_of_sums a others = ap names_in (view_sums a others) ∙ names_sums (value_view a.value) (summand_views others.items)

-- ---- operators

-- so many, counted up to one more than the most
abbrev pub counted : ℕ → ℕ
counted n = min n 1001

pub counted_above : (a b n m r : ℕ) → n ≡ counted a → m ≡ counted b → r ≡ counted (max n m + 1) → r ≡ counted (max a b + 1)
counted_above a b n m r first second over = omega (arith, first, second, over)

pub levels_of_factors : (left : Value) (xs : List (Product × SourceExpression)) (i : ℕ) (x : Product × SourceExpression) → i < length xs → x ≡ get_or xs i x
    → levels (products left (factor_views (take (i + 1) xs))) ≡ max (levels (products left (factor_views (take i xs)))) (levels (value_view x.1)) + 1
levels_of_factors left xs i x less is =
    ap (λ l. levels (products left l)) (mapped_more {B = Product × Value} (λ y. (y.0, value_view y.1)) xs i x less is) ∙ ap levels (products_push left (factor_views (take i xs)) (x.0, value_view x.1))

pub levels_of_summands : (left : Value) (xs : List (Sum × SourceExpression)) (i : ℕ) (x : Sum × SourceExpression) → i < length xs → x ≡ get_or xs i x
    → levels (sums left (summand_views (take (i + 1) xs))) ≡ max (levels (sums left (summand_views (take i xs)))) (levels (value_view x.1)) + 1
levels_of_summands left xs i x less is =
    ap (λ l. levels (sums left l)) (mapped_more {B = Sum × Value} (λ y. (y.0, value_view y.1)) xs i x less is) ∙ ap levels (sums_push left (summand_views (take i xs)) (x.0, value_view x.1))
