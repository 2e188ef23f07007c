-- The words of other crates and of the definitions that the proofs cite, from one place.
pub use Rattle.ghc_reader.specs.Amounts.{goals_of_clause, is_unnamed, largest, levels, levels_of_goal, names, names_in, names_of, names_of_clause, names_of_goal, names_of_goals, names_of_test, nodes, nodes_of, variables, widest, widest_clause, widest_goal, widest_goals, widest_of, widest_test}
pub use Rattle.ghc_reader.specs.Bytes.{BeginsNegative, IsRun, Lacks, begins_variable, goes_on, is_blank, is_word}
pub use Rattle.ghc_reader.specs.Depth.{IsDeeperThan, IsTooDeep, open_after, open_behind}
pub use Rattle.ghc_reader.specs.Derived.{arguments_of, call_of, cells_of, clause_of, clauses_of, goals_of, item_of, operand_of, product_of, product_onto, query_of, right_of, sum_onto, test_of, tests_of, tree_of, trees_of, value_of}
pub use Rattle.ghc_reader.specs.inner.Front.{Begins, IsNotAssigned, IsNotNamed, NoVariable, StartsWithVariable, first, item_like, like, like_assignment, like_equation, second}
pub use Rattle.ghc_reader.specs.Grammar.{AreClosedArguments, Arguments, Body, Clause, Expression, Factors, Input, IsClosedRest, Item, Operand, Program, Query, Rest, Right, Term, Terms, Test, Tests, arguments, assign, body, call, clause, clauses, closed, compare, done, expression, fact, factor, factors, goal, guarded, input, integer, item, last, last_test, list, more, nested, next, next_test, one, operand, partial, plain, plain_test, program, query, rest, right, rule, stopped, summand, summands, term, terms, test, tests, unguarded, unify, variable, whole, within, without}
pub use Rattle.ghc_reader.specs.Laws.{IsSpelledBy, ReadAskIsExact, ReadBodyIsExact, ReadProgramIsExact, ReadQueryIsExact, ReadTermIsExact}
pub use Rattle.ghc_reader.specs.Lexed.{AreDigits, BeginsNumber, EveryTextIsRead, IsBadAt, IsCutFault, IsCutInto, IsLexFault, IsLexed, IsNumberedAs, IsRefused, IsRefusedToken, IsReserved, IsReservedAs, IsReservedBy, IsTooGreat, NoTextIsReadTwice, greatest_number, piece_of, place_of_token, token_of, token_of_bytes, token_places}
pub use Rattle.ghc_term.specs.Limit.{text_limit}
pub use Rattle.ghc_reader.specs.Limits.{first_exceeded, of_ask, of_program, of_query, of_term}
pub use Rattle.ghc_reader.specs.Lowered.{AreClosed, AreCounted, AreNamed, Each, IsCalled, IsClosed, Names, Says, SaysAll, SaysAllBy, SaysAsked, SaysBy, SaysClause, SaysGoal, SaysGoalBy, SaysGuard, SaysQuery, SaysValue, SaysValueBy, blank, doing, first_variable, is_true, product_operator, sum_operator, tail_of, variable_of}
pub use Rattle.ghc_reader.specs.inner.Parts.{ClosedFront, EndsArguments, EndsBody, EndsClause, EndsExpression, EndsItem, EndsOperand, EndsProduct, EndsProgram, EndsQuery, EndsRest, EndsRight, EndsTerm, EndsTerms, EndsTest, EndsTests, EndsWhole, Fault, Found, FoundAt}
pub use Rattle.ghc_reader.specs.Pieces.{Cuts, HasForm, HasNoPiece, IsByte, IsFront, IsNegative, Piece, Stands, signs_after, signs_behind, spelled}
pub use Rattle.ghc_reader.specs.Places.{behind_byte, fault_at, place_behind, start}
pub use Rattle.ghc_reader.specs.PrintedGoals.{AreWritable, HasNumbers, IsNamedIn, IsPrintedAs, IsReadAs, IsSaidIn, IsWritable, IsWritableExpression, IsWritableGoal, further_goals, goals_text}
pub use Rattle.ghc_reader.specs.Read.{IsReadAsk, IsReadBody, IsReadInOneWay, IsReadProgram, IsReadQuery, IsReadTerm}
pub use Rattle.ghc_reader.specs.Reserved.{count, first_place, is_reserved, is_variable, misplaced_body, misplaced_clause, misplaced_goal, misplaced_program, misplaced_query, misplaced_query_goal, place_if, starts_with_variable}
pub use Rattle.ghc_reader.specs.inner.Scope.{Counts, IsFresh, IsKnown, IsTable, Meets, MeetsAll, conses}
pub use Rattle.ghc_reader.specs.Source.{Call, Goal, Tree, Trees, Value, cell, cells, empty, named, none, number, plains, product, products, some, structure, sum, sums}
pub use Rattle.ghc_reader.specs.Symbols.{IsLongest, spelling, token_of_symbol}
pub use Rattle.ghc_reader.specs.Tests.{HasTokens, IsAnsweredOnce, IsDerived, IsFaultAt, IsLimitRefusal, IsPlaceRefusal, IsRead, IsRefusal, IsShallow, IsSyntaxRefusal, IsTokenRefusal, a_body, a_program, a_query, a_term, an_ask, asked, bad_byte, by_limit, by_place, by_syntax, by_tokens, too_deep, too_long}
pub use Rattle.ghc_reader.specs.Viable.{FaultAt, IfSyntax, Viable}
pub use Rattle.ghc_reader.specs.inner.Views.{clause_view, clause_views, factor_views, goal_view, goal_views, summand_views, test_view, test_views, value_step, value_view, view, view_step, views}
pub use Rattle.ghc_reader.specs.Written.{AreApart, AreWellWritten, IsWellAsked, IsWellWritten, IsWithinLimits, WrittenClause, WrittenQuery, is_stream, variables_of_guard, variables_of_guards, variables_of_written}
pub use Rattle.ghc_reader.specs.WrittenAsk.{IsNaming, IsUnnumbered, IsWellPut, SaysAsk, WrittenAsk, is_new, of_no_step, of_state}
pub use Rattle.ghc_reader.specs.declared.lexer.Lexed.{Lexed}
pub use Rattle.ghc_reader.specs.declared.lexer.front.Front.{Front}
pub use Rattle.ghc_reader.specs.declared.lexer.front.Kind.{Kind}
pub use Rattle.ghc_reader.specs.declared.lexer.symbol.Symbol.{Symbol}
pub use Rattle.ghc_reader.specs.declared.lexer.value.Reserved.{Reserved}
pub use Rattle.ghc_reader.specs.declared.lexer.value.Reserved.TheVariants.{Allowed, Refused}
pub use Rattle.ghc_reader.specs.declared.parse_error.ParseError.{ParseError}
pub use Rattle.ghc_reader.specs.declared.place.Place.{Place}
pub use Rattle.ghc_reader.specs.declared.source.SourceCall.{SourceCall}
pub use Rattle.ghc_reader.specs.declared.source.SourceClause.{SourceClause}
pub use Rattle.ghc_reader.specs.declared.source.SourceExpression.{SourceExpression}
pub use Rattle.ghc_reader.specs.declared.source.SourceExpression.TheFolds.{fold-roll-SourceExpression}
pub use Rattle.ghc_reader.specs.declared.source.SourceExpression.TheOpen.{SourceExpression-F}
pub use Rattle.ghc_reader.specs.declared.source.SourceGoal.{SourceGoal}
pub use Rattle.ghc_reader.specs.declared.source.SourceTerm.{SourceTerm}
pub use Rattle.ghc_reader.specs.declared.source.SourceTerm.TheFolds.{fold-roll-SourceTerm}
pub use Rattle.ghc_reader.specs.declared.source.SourceTerm.TheOpen.{SourceTerm-F}
pub use Rattle.ghc_reader.specs.declared.source.SourceTest.{SourceTest}
pub use Rattle.ghc_reader.specs.declared.token.Mark.{Mark}
pub use Rattle.ghc_reader.specs.declared.token.Mark.TheVariants.{Assign, Bar, Close, CloseList, Comma, Define, Equals, Open, OpenList, Stop}
pub use Rattle.ghc_reader.specs.declared.token.Product.{Product}
pub use Rattle.ghc_reader.specs.declared.token.Product.TheVariants.{Divide, Modulo, Times}
pub use Rattle.ghc_reader.specs.declared.token.Sum.{Sum}
pub use Rattle.ghc_reader.specs.declared.token.Sum.TheVariants.{Minus, Plus}
pub use Rattle.ghc_reader.specs.declared.token.Token.{Token}
pub use Rattle.ghc_reader.specs.declared.written.Guard.{Guard}
pub use Rattle.ghc_term.proofs.Exact.{exact}
pub use Rattle.ghc_term.proofs.Goals.{list_of-trees}
pub use Rattle.ghc_term.proofs.Names.{itself, same_name}
pub use Rattle.ghc_term.specs.Bindings.{name_cmp}
pub use Rattle.ghc_term.specs.Expression.{leaf, operation}
pub use Rattle.ghc_term.specs.Goal.{stream}
pub use Rattle.ghc_term.specs.GoalText.{expression_text, goal_text, operator_text}
pub use Rattle.ghc_term.specs.InputTerm.{AllInGrammar, IsHead, IsInGrammar, IsInputTerm, IsNameText, arguments_nesting, cell_nesting, deepest, nesting, rest_nesting}
pub use Rattle.ghc_term.specs.Lists.{In}
pub use Rattle.ghc_term.specs.Resolved.{IsTextOf, Resolves, ResolvesAll, a_node, all_resolved, an_integer, no_more, one_more}
pub use Rattle.ghc_term.specs.Text.{arguments_text, barred, cell_text, further_text, is_cell, is_nil, rest_text, term_text, variable_text}
pub use Rattle.ghc_term.specs.Tree.{cons, list_of, nil, node, trees}
pub use Rattle.ghc_term.specs.Variables.{firsts, leaf_variables, variables_of_all, variables_of_expression, variables_of_goal, variables_of_goals, variables_of_list}
pub use Rattle.ghc_term.specs.declared.comparison.Comparison.{Comparison}
pub use Rattle.ghc_term.specs.declared.comparison.Comparison.TheVariants.{AtLeast, AtMost, Equal, Greater, Less, NotEqual}
pub use Rattle.ghc_term.specs.declared.limit.Limit.{Limit}
pub use Rattle.ghc_term.specs.declared.operator.Operator.{Operator}
pub use Rattle.ghc_term.specs.declared.var_name.VarName.{VarName}
pub use Rattle.indexmap.specs.IndexMap.{get}
pub use Rattle.std.proofs.Common.{All, Bool, Bor, Box, Err, FitsSigned, Global, IfErr, IfOk, IsTrue, List, MatchOption, MatchResult, None, Ok, OkIff, OnErr, OnOk, Option, Result, Some, Vec, [], add-zero, ap, append_assoc, arith, bytes_eq, codes, cond, drop, false, filter, get_or, if◌then◌else◌, inl, inr, is_some, length, length-append, map, max, min, nat_eq, nat_lt, neg_ℤ, negsuc, not, one-add, pos, refl, reverse, rules, slice_get, subst, suc, sym, take, take_all, true, vec_len, w64, zero, ℕ, ℤ, ⊎_elim, ◌&&◌, ◌*◌, ◌++◌, ◌+◌, ◌-◌, ◌<◌, ◌==◌, ◌^◌, ◌||◌, ◌↔◌, ◌∙◌, ◌∷◌, ◌≡◌, ◌≢◌, ◌≤◌, ◌⊎◌}
pub use Rattle.std.proofs.Math.Nat.{eq-or-lt_of_le}
pub use Rattle.std.proofs.Math.Seq.{drop-append_seam, take-append-add, take-append_seam, take-suc}
pub use Rattle.std.proofs.lemmas.Bool.{cases_lt, false_from_ne_true, false≢true, or_cases, or_from, or_left, or_parts, or_right}
pub use Rattle.std.proofs.lemmas.Bool.Decides.{eqb_tells, nat_tests, same_from_decides}
pub use Rattle.std.proofs.lemmas.Fmt.{decimal_is_IsNumeral, length-decimal-le}
pub use Rattle.std.proofs.lemmas.Grind.{common_steps, flat_map-append}
pub use Rattle.std.proofs.lemmas.Int.{to_z-of_z}
pub use Rattle.std.proofs.lemmas.Int.Digits.{digits_value-lt}
pub use Rattle.std.proofs.lemmas.List.{append-nil, append_cancel_left, length-map, length-take-le, length_push, map-append, map_push, take-append-drop, take-append-le, take-take, take_more}
pub use Rattle.std.proofs.lemmas.List.Elements.{All-cons, All-head, All-nil, All-push, All-tail, filter-append, filter_map-append}
pub use Rattle.std.proofs.lemmas.List.Filters.{length-filter_both}
pub use Rattle.std.proofs.lemmas.List.Folds.{list_all-append, list_any-append}
pub use Rattle.std.proofs.lemmas.List.Recursion.{max_push}
pub use Rattle.std.proofs.lemmas.Map.Text.{btree_map_updates_str}
pub use Rattle.std.proofs.lemmas.Option.{slice_get_within}
pub use Rattle.std.proofs.lemmas.Result.{IfOk-weaker, err_from_is_err_and}
pub use Rattle.std.proofs.lemmas.Slice.Eq.{bytes_eq-Decides}
pub use Rattle.std.proofs.lemmas.Str.Parse.{IsDigitsTest, digit_from_value, numerals_by_value, parse_digits}
pub use Rattle.std.specs.BTreeMap.{BTreeMap, IsUnchanged, UpdatesBy, get_by, is_at}
pub use Rattle.std.specs.Char.{is_ascii_digit, is_ascii_lowercase}
pub use Rattle.std.specs.Cmp.Lexicographic.{slice_cmp}
pub use Rattle.std.specs.Fmt.{decimal, signed_decimal}
pub use Rattle.std.specs.HashMap.{HashMap, Updates}
pub use Rattle.std.specs.List.{cons_option, filter_map, flat_map, list_all, list_any}
pub use Rattle.std.specs.Map.{lookup}
pub use Rattle.std.specs.Option.{option_to_list}
pub use Rattle.std.specs.Ordering.{eq_by_cmp, nat_cmp, ord_max}
pub use Rattle.std.specs.Result.{IsErrAnd, IsOk, is_err}
pub use Rattle.std.specs.Str.Parse.{AllDigits, IsNumeral, ParsesUnsigned, digits_value, signed_digits_value, starts_with_minus, without_leading_sign}
