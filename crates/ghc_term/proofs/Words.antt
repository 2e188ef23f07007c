-- The words of other crates and of the definitions that the proofs cite, from one place.
pub use Rattle.ghc_term.specs.Answered.{AnsweredUnless, IsExactUnless}
pub use Rattle.ghc_term.specs.inner.BindingList.{in_order}
pub use Rattle.ghc_term.specs.inner.BindingTable.{AreOnce, Entries, map_of}
pub use Rattle.ghc_term.specs.Bindings.{IsAcyclic, Leads, Reaches, along, at_free, at_integer, at_node, here, name_cmp, through, with_binding}
pub use Rattle.ghc_term.specs.inner.Code.{var_inj}
pub use Rattle.ghc_term.specs.inner.Equality.{Adds, AreAlike, Compared, IsAlike, IsWithin, all_left_nodes, left_nodes}
pub use Rattle.ghc_term.specs.inner.ExpressionView.{depth_of, expression_of}
pub use Rattle.ghc_term.specs.Goal.{Goal, call}
pub use Rattle.ghc_term.specs.GoalMap.{ArePlaces, goal_cmp, names_of, values_by}
pub use Rattle.ghc_term.specs.inner.GoalPlaces.{HasNoNear, HasSameNumbers, IsNear, near_name, near_numbers, number_at, number_in, numbers_in, numbers_of}
pub use Rattle.ghc_term.specs.inner.GoalShape.{goal_of}
pub use Rattle.ghc_term.specs.GoalText.{IsGoalTextOf, expression_text_by, goal_text, goal_text_by, operand}
pub use Rattle.ghc_term.specs.InputTerm.{AllInGrammar, IsHead, IsInGrammar, IsInputTerm, IsNameText, arguments_nesting, cell_nesting, deepest, is_name_byte, most_open, nesting, nodes, nodes_of_all, open_behind, rest_nesting}
pub use Rattle.ghc_term.specs.inner.Known.{AreKnown, AreKnownBut}
pub use Rattle.ghc_term.specs.Lists.{In}
pub use Rattle.ghc_term.specs.inner.Measure.{Enters, HasRoom, Leaves, MeasuredAll, MeasuredAt, bytes_at, bytes_of_all, last_place, marks_at, nesting_at, opened_at, own_bytes, own_nesting}
pub use Rattle.ghc_term.specs.inner.Overlay.{value_in}
pub use Rattle.ghc_term.specs.inner.Pieces.{Advances, IsLeaf, IsMeasure, arguments_size, expression_size, piece_size, piece_text, pieces_size, pieces_text, term_size, total}
pub use Rattle.ghc_term.specs.Resolved.{IsResolution, IsTextOf, Resolves, ResolvesAll, a_node, all_resolved, an_integer, bound, no_more, one_more, unbound}
pub use Rattle.ghc_term.specs.inner.Seen.{Sees, value_list}
pub use Rattle.ghc_term.specs.Sets.{IsSetOf, Variables}
pub use Rattle.ghc_term.specs.inner.Shown.{HasArgument, shown}
pub use Rattle.ghc_term.specs.Store.{StoreValue, value_at, with_bindings, with_binds}
pub use Rattle.ghc_term.specs.Table.{Table}
pub use Rattle.ghc_term.specs.Text.{IsNoCell, arguments_text, barred, cell_text, further_text, is_cell, is_nil, rest_text, term_text, variable_text}
pub use Rattle.ghc_term.specs.Tree.{AreClosed, IsClosed, Occurs, OccursIn, Tree, Trees, atom, cons, integer, list_of, more, nil, node, none, trees, variable}
pub use Rattle.ghc_term.specs.inner.VariableList.{AreDifferent, is_same}
pub use Rattle.ghc_term.specs.inner.VariableMap.{HasNoFirsts, HasSameValues, first_at, first_of, first_variables, values_in, values_of}
pub use Rattle.ghc_term.specs.inner.View.{IsWellMade, closed_of, height, height_of_all, items_of, tree_of}
pub use Rattle.ghc_term.specs.declared.equality.Pair.{Pair}
pub use Rattle.ghc_term.specs.declared.equality.Pair.TheVariants.{Terms}
pub use Rattle.ghc_term.specs.declared.fault.Fault.TheVariants.{Limit}
pub use Rattle.ghc_term.specs.declared.goal_name.GoalName.{GoalName}
pub use Rattle.ghc_term.specs.declared.limit.Limit.TheVariants.{Print}
pub use Rattle.ghc_term.specs.declared.measure.Inside.{Inside}
pub use Rattle.ghc_term.specs.declared.measure.Place.{Place}
pub use Rattle.ghc_term.specs.declared.measure.Place.TheVariants.{Alone, Rest}
pub use Rattle.ghc_term.specs.declared.measure.Room.{Room}
pub use Rattle.ghc_term.specs.declared.overlay.Overlay.{Overlay}
pub use Rattle.ghc_term.specs.declared.printing.pieces.Piece.{Piece}
pub use Rattle.ghc_term.specs.declared.term.Term.TheDeep.{size-Term}
pub use Rattle.ghc_term.specs.declared.var_name.VarName.{VarName}
pub use Rattle.ghc_term.specs.declared.view.TermView.{TermView}
pub use Rattle.ghc_term.specs.declared.view.TermView.TheVariants.{Atom, Int, Struct, Var}
pub use Rattle.indexmap.specs.IndexSet.{insert_key}
pub use Rattle.std.proofs.Common.{All, Bool, Err, FitsSigned, IfNone, IfOk, IfSome, IsOk, IsSome, IsTrue, List, None, Ok, OnOk, Option, Result, Some, T, [], add-one, ap, append-nil, append_assoc, arith, bytes_eq, codes, cond, drop, drop-cons, false, get_or, if◌then◌else◌, inl, inr, is_ok, is_some, length, length-append, length-drop, map, max, nat_eq, negsuc, not, pos, position, refl, replicate, rules, slice_get, slice_index_or, slice_set, string_bytes, subst, suc, sym, take, take_all, true, vec_capacity, vec_len, w64, zero, ℕ, ℤ, ◌&&◌, ◌*◌, ◌++◌, ◌+◌, ◌-◌, ◌<◌, ◌^◌, ◌||◌, ◌↔◌, ◌∙◌, ◌∷◌, ◌≡◌, ◌≢◌, ◌≤◌, ◌⊎◌}
pub use Rattle.std.proofs.Math.Seq.{drop-length}
pub use Rattle.std.proofs.lemmas.Bool.{cases_eq, cases_lt, eqb-false, eqb-true, false_from_ne_true, or_cases, or_right}
pub use Rattle.std.proofs.lemmas.Bool.Decides.{nat_tests}
pub use Rattle.std.proofs.lemmas.Cmp.{on_total, then_total}
pub use Rattle.std.proofs.lemmas.Fmt.{IsAscii-decimal, decimal-digits_of, decimal_digit, length-decimal-le}
pub use Rattle.std.proofs.lemmas.Grind.{common_steps}
pub use Rattle.std.proofs.lemmas.Int.{to_z-of_z}
pub use Rattle.std.proofs.lemmas.Int.Digits.{all_below_base_digits_of}
pub use Rattle.std.proofs.lemmas.List.{drop_all, drop_more, get_or-map, get_or-set_other, get_or-set_same, get_or-take, get_or_default, get_or_past, length-set, length-take-le, map-append, take-append-drop, take-map, take_more}
pub use Rattle.std.proofs.lemmas.List.Elements.{All-contains, Contains-append_cases, Contains-append_left, Contains-append_right, Contains-get_or}
pub use Rattle.std.proofs.lemmas.List.Quantifiers.{position-Some}
pub use Rattle.std.proofs.lemmas.Map.Entries.{length-keys_of, lookup_from_place}
pub use Rattle.std.proofs.lemmas.Map.Keys.{IsDistinct-push, apart_from_distinct}
pub use Rattle.std.proofs.lemmas.Map.Views.{Contains-from_any, list_any-from_Contains, tells_apart}
pub use Rattle.std.proofs.lemmas.Option.{MatchOption-at_some, slice_get-get_or, slice_get_cases, slice_get_read, slice_get_within}
pub use Rattle.std.proofs.lemmas.Result.{IfOk-weaker, on_ok_weaker}
pub use Rattle.std.proofs.lemmas.Slice.Eq.{bytes_eq-Decides}
pub use Rattle.std.proofs.lemmas.Str.{IsCharBoundary-from_take, IsUtf8-from_ascii, IsUtf8-from_is_utf8, IsUtf8-string_bytes, is_utf8-from_IsUtf8}
pub use Rattle.std.specs.Borrow.{Bor}
pub use Rattle.std.specs.Char.{is_ascii_lowercase}
pub use Rattle.std.specs.Cmp.{IsEquivalence, IsTotalOrder, eq_by_cmp_equiv, nat_cmp_total, ranked, tied_then}
pub use Rattle.std.specs.Coded.{Coded}
pub use Rattle.std.specs.FinMap.{IsAntisymmetric}
pub use Rattle.std.specs.FinMap.Entries.{below_all, is_sorted}
pub use Rattle.std.specs.Fmt.{decimal, signed_decimal}
pub use Rattle.std.specs.Int.Digits.{AllBelowBase, digits_of}
pub use Rattle.std.specs.Io.{StartsWith}
pub use Rattle.std.specs.List.{AllByRecursion, Contains, list_all, list_any, swap_remove, zip}
pub use Rattle.std.specs.Map.{keys_of, lookup}
pub use Rattle.std.specs.Option.{option_map, option_or}
pub use Rattle.std.specs.Ordering.{eq_by_cmp, is_eq, is_lt, nat_cmp, ordering_then}
pub use Rattle.std.specs.Str.{IsAscii, IsUtf8}
pub use Rattle.std.specs.String.{string_len}
pub use Rattle.std.specs.declared.cmp.Ordering.{Ordering}
pub use Rattle.std.specs.declared.cmp.Ordering.TheVariants.{Equal, Greater, Less}
