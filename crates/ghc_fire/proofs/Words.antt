-- The words of other crates and of the definitions that the proofs cite, from one place.
pub use Rattle.ghc_fire.specs.Asked.{AreAskable, Asks, IsAsk, NameNoneOf, asked_as, asked_of, called, called_by, effect_of_asking, made_from, named_so, own_variables, renumbered}
pub use Rattle.ghc_fire.specs.Attempt.{Answer, AssignmentAnswers, CallAnswers, ChoiceAnswers, IsLeast, SomeAccepts, SomeWaitsFor, UnificationAnswers, proposes, refused}
pub use Rattle.ghc_fire.specs.Attempted.{AttemptsAt, IsProposed}
pub use Rattle.ghc_fire.specs.inner.Calls.{HasVerdict}
pub use Rattle.ghc_fire.specs.Effect.{Assigns, Closes, Effect, Feeds, HasEffect, IsOnChainsOf, ReadsTail, Reduces, Unites, no_step}
pub use Rattle.ghc_fire.specs.inner.EffectCode.{effect_code}
pub use Rattle.ghc_fire.specs.Firing.{Firing, IsReductionOf}
pub use Rattle.ghc_fire.specs.Facts.{AppendRun, BoundTailTakesNothing, InputAndClose, InputReadsAlias, list_1, list_2, partial_list}
pub use Rattle.ghc_fire.specs.Goals.{Goals, goal_cmp}
pub use Rattle.ghc_fire.specs.Instance.{becomes, body_made, made, place_in, replace_in_expression, replace_in_goal}
pub use Rattle.ghc_fire.specs.Laws.{AttemptHasOneAnswer, AttemptIsExact, AttemptIsOfWhatIsLookedAt, ComesFrom, EachActHasAnEffectOrNone, EachAttemptHasAnAnswer, EachEffectIsDecided, EffectBindsAndReads, EffectIsLocal, EffectIsOfWhatItRead, EffectIsOne, EffectKeepsAcyclic, EffectUnderANumber, EffectUnderEachNumber, EffectVariables, IsMadeBy, ProposalAsAStep, ProposalIsEffect}
pub use Rattle.ghc_fire.specs.Proposal.{Proposal, numbered, under}
pub use Rattle.ghc_fire.specs.inner.Renaming.{AreBehindHead, operated, plugged, renamed, replacement}
pub use Rattle.ghc_fire.specs.inner.Tail.{IsTailBound}
pub use Rattle.ghc_fire.specs.declared.act.Act.{Act}
pub use Rattle.ghc_fire.specs.declared.act.Act.TheVariants.{Assigned, ByClause, Closed, Given, Unified}
pub use Rattle.ghc_fire.specs.declared.instances.terms.Front.{Front}
pub use Rattle.ghc_flat.specs.Clause.{Clause, IsClause, IsFor, Program}
pub use Rattle.ghc_flat.specs.Flat.{AreDefined, IsProgram, is_stream}
pub use Rattle.ghc_flat.specs.Numbers.{AreNumbersFor, AreNumbersWith}
pub use Rattle.ghc_match.specs.inner.First.{FirstEnds}
pub use Rattle.ghc_flat.specs.Samples.{append_cell, append_nothing, asked, store, v}
pub use Rattle.ghc_flat.specs.Variables.{fresh_variables, leaf_variables, variables_of_list}
pub use Rattle.ghc_match.proofs.AlikeLemmas.{shown_value}
pub use Rattle.ghc_match.proofs.Chains.{leads_back, leads_there, written}
pub use Rattle.ghc_match.proofs.EachOutcome.{each_outcome}
pub use Rattle.ghc_match.proofs.EachValue.{each_value}
pub use Rattle.ghc_match.proofs.Listings.{Listing, itself, over, restated}
pub use Rattle.ghc_match.proofs.LooksAt.{looks_back}
pub use Rattle.ghc_match.proofs.Outcomes.{accepts_refuses, accepts_there, accepts_waits, outcome_there, outcomes_exclude, refuses_there, refuses_waits, waits_there}
pub use Rattle.ghc_match.proofs.OutcomesByPlaces.{accepts_by, stands_at, stands_value}
pub use Rattle.ghc_match.proofs.Positions.{back_again, value_not}
pub use Rattle.ghc_match.proofs.PushLeaves.{leaves, parts}
pub use Rattle.ghc_match.proofs.SetsOf.{either_set, listed_set, own_set}
pub use Rattle.ghc_match.proofs.Values.{ends_once, leaf_reaches, number_once, number_there, number_waits_not, passes_reaches, value_looks}
pub use Rattle.ghc_match.specs.Looked.{ExpressionReaches, GoalLooksAt}
pub use Rattle.ghc_match.specs.Match.{Accepts, AreAlike, HasOutcome, HeadFits, LooksAt, Outcome, Refuses, StandsFor, WaitsFor, accepts, refuses}
pub use Rattle.ghc_match.specs.inner.Meeting.{Gains}
pub use Rattle.ghc_match.specs.Position.{At, EndsIn, down, unbound}
pub use Rattle.ghc_match.specs.inner.Told.{outcome_laid, value_of}
pub use Rattle.ghc_match.specs.Value.{HasValue, Number, Value, bad, computed, number, of_integer, of_variable, waits}
pub use Rattle.ghc_reader.specs.WrittenAsk.{IsWellPut, WrittenAsk}
pub use Rattle.ghc_term.proofs.Bind.{binding_acyclic}
pub use Rattle.ghc_term.proofs.Chains.{leads_agree, leads_once}
pub use Rattle.ghc_term.proofs.Decided.{Decided, nat_decided, same_decided}
pub use Rattle.ghc_term.proofs.Exact.{exact}
pub use Rattle.ghc_term.proofs.GoalMaps.{in_names}
pub use Rattle.ghc_term.proofs.ListsLemmas.{in_at, in_contains, in_either, in_get, in_last, in_left, in_map, in_middle, in_more, in_right}
pub use Rattle.ghc_term.proofs.Merged.{by_answers}
pub use Rattle.ghc_term.proofs.Names.{apart, name_antisymmetric, name_total}
pub use Rattle.ghc_term.proofs.SetsLemmas.{any_in, in_any, in_set, one_inserted, one_set, set_in, set_of}
pub use Rattle.ghc_term.proofs.Total.{chain, same_name, walk, walk_step}
pub use Rattle.ghc_term.proofs.Trees.{height_front, height_item, height_last}
pub use Rattle.ghc_term.proofs.Walks.{at_value}
pub use Rattle.ghc_term.specs.Bindings.{Comes, IsAcyclic, Leads, Reaches, along, at_free, at_integer, at_node, here, name_cmp, now, on, through, with_binding}
pub use Rattle.ghc_term.specs.Expression.{Expression, leaf, operation}
pub use Rattle.ghc_term.specs.inner.ExpressionView.{depth_of}
pub use Rattle.ghc_term.specs.Goal.{Goal, assign, call, stream, unify}
pub use Rattle.ghc_term.specs.Lists.{In}
pub use Rattle.ghc_term.specs.Sets.{Variables}
pub use Rattle.ghc_term.specs.Store.{StoreValue, value_at}
pub use Rattle.ghc_term.specs.Tree.{AreClosed, IsClosed, IsValue, Occurs, OccursIn, Tree, Trees, cons, integer, list_of, more, nil, node, none, trees, variable}
pub use Rattle.ghc_term.specs.Variables.{firsts, variables, variables_of_all, variables_of_expression, variables_of_goal, variables_of_goals}
pub use Rattle.ghc_term.specs.inner.View.{height, height_of_all}
pub use Rattle.ghc_term.specs.declared.fault.Fault.{Fault}
pub use Rattle.ghc_term.specs.declared.fault.Fault.TheVariants.{Arithmetic, Clash, Cycle, Memory, NoClause, NoGoal, NoMatch, Waits}
pub use Rattle.ghc_term.specs.declared.goal_name.GoalName.{GoalName}
pub use Rattle.ghc_term.specs.declared.operator.Operator.{Operator}
pub use Rattle.ghc_term.specs.declared.var_name.VarName.{VarName}
pub use Rattle.ghc_unify.proofs.Agree.{append_inside, looks_at_terms, meets_inside}
pub use Rattle.ghc_unify.proofs.Endings.{each_ending}
pub use Rattle.ghc_unify.proofs.Ends.{comes_leads, ends, left_end}
pub use Rattle.ghc_unify.proofs.Extension.{comes_reaches, leads_bound, passed_on}
pub use Rattle.ghc_unify.proofs.FactProofs.{from_integer}
pub use Rattle.ghc_unify.proofs.LawProofs.{binds_and_reads, is_local, keeps_acyclic, one_ending}
pub use Rattle.ghc_unify.proofs.Locality.{by_value, comes_agree}
pub use Rattle.ghc_unify.proofs.Once.{clash_no_cycle, comes_end, solved_no_clash, solved_no_cycle}
pub use Rattle.ghc_unify.specs.Laws.{BindsAndReads, IsCutDown}
pub use Rattle.ghc_unify.specs.Solutions.{replace, replace_all}
pub use Rattle.ghc_unify.specs.Unify.{Clashes, Cycles, Ending, HasEnding, IsCycle, Meets, Move, Moves, Pairs, Unifies, UnifyFails, both, clash, clashes, cycle, cycles, go, integers, left, no_more, nodes, one_more, right, shared, solved, stay, with_bindings}
pub use Rattle.std.proofs.Common.{Bool, Err, IfNone, IfOk, IfSome, IsSome, IsTrue, List, MatchOption, None, Ok, Option, Result, Some, T, [], ap, append_assoc, arith, cond, drop, false, filter, get_or, if◌then◌else◌, inl, inr, is_none, is_some, length, length-append, map, nat_lt, option_map, pos, refl, reverse, rules, slice_get, slice_index_or, subst, suc, sym, take, true, zero, ℕ, ℤ, ◌&&◌, ◌*◌, ◌++◌, ◌+◌, ◌-◌, ◌<◌, ◌==◌, ◌||◌, ◌↔◌, ◌∙◌, ◌∷◌, ◌≡◌, ◌≢◌, ◌≤◌, ◌⊎◌, append-nil, slice_index}
pub use Rattle.std.proofs.lemmas.Bool.{eq-eqb, eqb-true, ne_eqb}
pub use Rattle.std.proofs.Math.Bool.{or-false, or-true}
pub use Rattle.std.proofs.lemmas.Bool.Decides.{eqb_tells, nat_tests}
pub use Rattle.std.proofs.lemmas.Int.{to_z-of_z}
pub use Rattle.std.proofs.lemmas.List.{at_drop_more, get_or-take, get_or_default, length-map, length-take-le, map-append, map_push, reverse-append, take-append-le, take_all, take_more}
pub use Rattle.std.proofs.lemmas.List.Folds.{find_at, list_any-append}
pub use Rattle.std.proofs.lemmas.List.Kept.{AllPairs-from_increasing}
pub use Rattle.std.proofs.lemmas.Map.Made.{keys_of-map_values, lookup-map_values}
pub use Rattle.std.proofs.lemmas.Map.Views.{tells_apart}
pub use Rattle.std.proofs.lemmas.Option.{MatchOption-at_some, slice_get_within}
pub use Rattle.std.proofs.lemmas.Result.{IfOk-weaker, err_from_is_err_and, on_ok_weaker}
pub use Rattle.std.specs.Cmp.{IsTotalOrder, eq_by_cmp_equiv}
pub use Rattle.std.specs.Coded.{coded_list, coded_ℕ}
pub use Rattle.std.specs.FinMap.{IsAntisymmetric}
pub use Rattle.std.specs.FinMap.Entries.{below_all, is_sorted}
pub use Rattle.std.specs.List.{AllByRecursion, find, list_any, position_or_len}
pub use Rattle.std.specs.List.Sorted.{IsStrictlyIncreasing, IsStrictlySortedBy}
pub use Rattle.std.specs.Map.{keys_of, lookup}
pub use Rattle.std.specs.Option.{option_or}
pub use Rattle.std.specs.Ordering.{eq_by_cmp, is_eq, is_lt}
pub use Rattle.std.specs.Prelude.{unwrap_or}
pub use Rattle.std.specs.declared.cmp.Ordering.{Ordering}
pub use Rattle.std.specs.declared.cmp.Ordering.TheVariants.{Less}
