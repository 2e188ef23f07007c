-- A term measured part by part, along last arguments and list tails.
use Rattle.ghc_term.proofs.Words.{◌≡◌, ℕ, ◌+◌, ◌≤◌, ◌<◌, List, [], ◌∷◌, ◌++◌, length, take, drop, get_or, sym, ap, ◌∙◌, subst, arith, Option, Some, None, take_more, take-append-drop, Tree, node, trees, height, IsHead, IsInGrammar, AllInGrammar, nodes, nodes_of_all, deepest, HasRoom, Leaves, Enters, MeasuredAt, MeasuredAll, bytes_at, nesting_at, bytes_of_all, own_bytes, own_nesting, Room, Inside, Place, Alone}
use Rattle.ghc_term.proofs.Trees.{height_last}
use Rattle.ghc_term.proofs.Written.{nodes-append, bytes-append, deepest-append, grammar_parts, grammar_whole, node_bytes, node_nesting}

abbrev pub RoomAt : Place → Tree → ℕ → Room → Type 0
RoomAt p t d r = HasRoom (IsInGrammar t) (nodes t) (bytes_at p t) (nesting_at p t) d r

abbrev pub LeavesAt : Place → Tree → ℕ → Room → Room → Type 0
LeavesAt p t d r left = Leaves (IsInGrammar t) (nodes t) (bytes_at p t) (nesting_at p t) d r left

abbrev pub RoomAll : List Tree → ℕ → Room → Type 0
RoomAll ts d r = HasRoom (AllInGrammar (trees ts)) (nodes_of_all (trees ts)) (bytes_of_all (trees ts)) (deepest (trees ts)) d r

abbrev pub LeavesAll : List Tree → ℕ → Room → Room → Type 0
LeavesAll ts d r left = Leaves (AllInGrammar (trees ts)) (nodes_of_all (trees ts)) (bytes_of_all (trees ts)) (deepest (trees ts)) d r left

-- what is left to measure of t is u
pub record Along (t : Tree) (d : ℕ) (r : Room) (p : Place) (u : Tree) (within : ℕ) (left : Room) : Type 0 where
  pub back : RoomAt Alone t d r → RoomAt p u within left
  pub forth : (end : Room) → LeavesAt p u within left end → LeavesAt Alone t d r end
  pub low : height u ≤ height t

module _ (p : Place) (f : List ℕ) (ts : List Tree) (t : Tree) (d : ℕ) (r : Room) where
  abbrev structure : Tree
  structure = node f (trees (ts ++ t ∷ []))

  structure_nodes : nodes structure ≡ 1 + nodes_of_all (trees ts) + nodes t
  structure_nodes = omega (arith, nodes-append ts (t ∷ []))

  pub own_room : RoomAt p structure d r → HasRoom (IsHead f (trees (ts ++ t ∷ []))) 1 (own_bytes p f (trees (ts ++ t ∷ []))) (own_nesting p f (trees (ts ++ t ∷ []))) d r
  own_room h = record {
    grammar = h.grammar.0;
    size = omega (arith, structure_nodes, h.size);
    text = omega (arith, node_bytes p f ts t, h.text);
    nested = omega (arith, node_nesting p f ts t, h.nested);
  }

  module _ (i : Inside) (e : Enters p f (trees (ts ++ t ∷ [])) d r i) where
    pub front_room : RoomAt p structure d r → RoomAll ts i.depth i.room
    front_room h = record {
      grammar = (grammar_parts ts (t ∷ []) h.grammar.1).0;
      size = omega (arith, structure_nodes, h.size, e.size);
      text = omega (arith, node_bytes p f ts t, h.text, e.text);
      nested = omega (arith, node_nesting p f ts t, h.nested, e.nested);
    }

    pub last_room : (left : Room) → LeavesAll ts i.depth i.room left → RoomAt p structure d r → RoomAt i.place t i.depth left
    last_room left l h = record {
      grammar = (grammar_parts ts (t ∷ []) h.grammar.1).1.0;
      size = omega (arith, structure_nodes, h.size, e.size, l.size);
      text = omega (arith, node_bytes p f ts t, h.text, e.text, l.text, ap (λ q. bytes_at q t) e.last);
      nested = omega (arith, node_nesting p f ts t, h.nested, e.nested, ap (λ q. nesting_at q t) e.last);
    }

    pub last_leaves : (left end : Room) → LeavesAll ts i.depth i.room left → LeavesAt i.place t i.depth left end → LeavesAt p structure d r end
    last_leaves left end l h = record {
      grammar = (e.head, grammar_whole ts (t ∷ []) l.grammar (h.grammar, tt));
      size = omega (arith, structure_nodes, h.size, e.size, l.size);
      text = omega (arith, node_bytes p f ts t, h.text, e.text, l.text, ap (λ q. bytes_at q t) e.last);
      nested = omega (arith, node_nesting p f ts t, h.nested, e.nested, l.nested, ap (λ q. nesting_at q t) e.last);
    }

module _ (t : Tree) (d : ℕ) (r : Room) (p : Place) (u : Tree) (within : ℕ) (left : Room) (a : Along t d r p u within left) (f : List ℕ) (args front : List Tree) (last : Tree)
    (is : u ≡ node f (trees args)) (split : args ≡ front ++ last ∷ []) where
  abbrev seen : u ≡ node f (trees (front ++ last ∷ []))
  seen = subst (λ l. u ≡ node f (trees l)) split is

  -- the structure itself has no room
  pub no_own_room : ¬ HasRoom (IsHead f (trees args)) 1 (own_bytes p f (trees args)) (own_nesting p f (trees args)) within left → ¬ RoomAt Alone t d r
  no_own_room n h =
      n (subst (λ l. HasRoom (IsHead f (trees l)) 1 (own_bytes p f (trees l)) (own_nesting p f (trees l)) within left) (sym split)
      (own_room p f front last within left (subst (λ v. RoomAt p v within left) seen (a.back h))))

  module _ (i : Inside) (e : Enters p f (trees args) within left i) where
    abbrev entered : Enters p f (trees (front ++ last ∷ [])) within left i
    entered = subst (λ l. Enters p f (trees l) within left i) split e

    -- its first arguments have none
    pub no_front_room : ¬ RoomAll front i.depth i.room → ¬ RoomAt Alone t d r
    no_front_room n h = n (front_room p f front last within left i entered (subst (λ v. RoomAt p v within left) seen (a.back h)))

    -- they have, and the last argument goes on
    pub go_on : (rest : Room) → LeavesAll front i.depth i.room rest → Along t d r i.place last i.depth rest
    go_on rest l = record {
      back = λ h. last_room p f front last within left i entered rest l (subst (λ v. RoomAt p v within left) seen (a.back h));
      forth = λ end h. a.forth end (subst (λ v. LeavesAt p v within left end) (sym seen) (last_leaves p f front last within left i entered rest end l h));
      low = omega (arith, height_last front last, ap height seen, a.low);
    }

    pub go_down : height last < height u
    go_down = omega (arith, height_last front last, ap height seen)

pub at_first : (t : Tree) (d : ℕ) (r : Room) → Along t d r Alone t d r
at_first t d r = record { back = λ h. h; forth = λ end h. h; low = omega arith }

-- the last part is measured
pub finished : (t : Tree) (d : ℕ) (r : Room) (p : Place) (u : Tree) (within : ℕ) (left : Room) → Along t d r p u within left
    → (o : Option Room) → MeasuredAt p u within left o → MeasuredAt Alone t d r o
finished t d r p u within left a None n = λ h. n (a.back h)
finished t d r p u within left a (Some end) l = a.forth end l

pub refused : (t : Tree) (d : ℕ) (r : Room) (o : Option Room) → o ≡ None → ¬ RoomAt Alone t d r → MeasuredAt Alone t d r o
refused t d r o e n = subst (λ v. MeasuredAt Alone t d r v) (sym e) n

pub all_refused : (ts : List Tree) (d : ℕ) (r : Room) (o : Option Room) → o ≡ None → ¬ RoomAll ts d r → MeasuredAll (trees ts) d r o
all_refused ts d r o e n = subst (λ v. MeasuredAll (trees ts) d r v) (sym e) n

-- the first of the terms have room where all have
first_room : (ts us : List Tree) (d : ℕ) (r : Room) → RoomAll (ts ++ us) d r → RoomAll ts d r
first_room ts us d r h = record {
  grammar = (grammar_parts ts us h.grammar).0;
  size = omega (arith, nodes-append ts us, h.size);
  text = omega (arith, bytes-append ts us, h.text);
  nested = omega (arith, deepest-append ts us, h.nested);
}

-- a mark and a term after others
module _ (ts : List Tree) (i : ℕ) (t : Tree) (d : ℕ) (r left : Room) (lt : i < length ts) (is : t ≡ get_or ts i t) (l : LeavesAll (take i ts) d r left) where
  next : take (i + 1) ts ≡ take i ts ++ t ∷ []
  next = take_more ts i t lt ∙ ap (λ u. take i ts ++ u ∷ []) (sym is)

  so_far : RoomAll ts d r → RoomAll (take i ts ++ t ∷ []) d r
  so_far h = subst (λ us. RoomAll us d r) next (first_room (take (i + 1) ts) (drop (i + 1) ts) d r (subst (λ us. RoomAll us d r) (sym (take-append-drop (i + 1) ts)) h))

  -- there is no room for the mark
  pub no_mark : ¬ ((0 ≤ left.nodes) × (1 ≤ left.bytes)) → ¬ RoomAll ts d r
  no_mark n h =
      let all = so_far h in
      let mark : 1 ≤ left.bytes = omega (arith, bytes-append (take i ts) (t ∷ []), all.text, l.text) in
      n (omega arith, mark)

  module _ (mark : Room) (m : (0 + mark.nodes ≡ left.nodes) × (1 + mark.bytes ≡ left.bytes)) where
    -- .. or for the term
    pub no_term : ¬ RoomAt Alone t d mark → ¬ RoomAll ts d r
    no_term n h =
        let all = so_far h in
        n record {
          grammar = (grammar_parts (take i ts) (t ∷ []) all.grammar).1.0;
          size = omega (arith, nodes-append (take i ts) (t ∷ []), all.size, l.size, m.0);
          text = omega (arith, bytes-append (take i ts) (t ∷ []), all.text, l.text, m.1);
          nested = omega (arith, deepest-append (take i ts) (t ∷ []), all.nested);
        }

    -- there is
    pub one_more : (end : Room) → LeavesAt Alone t d mark end → LeavesAll (take (i + 1) ts) d r end
    one_more end h =
        let more : LeavesAll (take i ts ++ t ∷ []) d r end = record {
          grammar = grammar_whole (take i ts) (t ∷ []) l.grammar (h.grammar, tt);
          size = omega (arith, nodes-append (take i ts) (t ∷ []), h.size, l.size, m.0);
          text = omega (arith, bytes-append (take i ts) (t ∷ []), h.text, l.text, m.1);
          nested = omega (arith, deepest-append (take i ts) (t ∷ []), h.nested, l.nested);
        } in
        subst (λ us. LeavesAll us d r end) (sym next) more
