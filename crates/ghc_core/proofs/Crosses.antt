-- A core may go to another thread, and threads may share one.
use denote.RattleType.{RattleType}
use denote.Param.Send.{IsSend, IsSync, sendable}
use Rattle.std.specs.declared.cmp.Ord as ord
use Rattle.std.specs.declared.cmp.PartialEq as eq
use Rattle.std.specs.declared.cmp.PartialOrd as partial
use Rattle.std.specs.contracts.alloc.Global as heap
use Rattle.std.specs.contracts.collections.BTreeSet as tree_set
use Rattle.std.specs.contracts.impls.GlobalAllocator.TheImpl.{ghosts}
use Rattle.std.proofs.Crossing.{crosses, frees, send, sync}
use Rattle.std.proofs.MapsCrossing as maps
use Rattle.std.proofs.MapsCrossingOver as over
use Rattle.counted_slot.proofs.Counted.TheSendSync as slot
use Rattle.ghc_term.proofs.kept.Listed.TheSendSync as listed
use Rattle.ghc_term.proofs.term.Term.TheLaws.TheKnot as of_terms
use Rattle.ghc_term.proofs.expr.Expr.TheLaws.TheKnot as of_expressions
use Rattle.ghc_term.proofs.goal_name.GoalName.TheSendSync as goal_name
use Rattle.ghc_term.proofs.operator.Operator.TheSendSync as operator
use Rattle.ghc_term.specs.contracts.term.Term as term
use Rattle.ghc_term.specs.contracts.expr.Expr as expression
use Rattle.ghc_term.specs.contracts.goal.Goal as goal
use Rattle.ghc_term.specs.contracts.bindings.Bindings as bindings
use Rattle.ghc_term.specs.contracts.table.variables.Variables as variables
use Rattle.ghc_fire.specs.contracts.act.Act as act
use Rattle.ghc_fire.specs.contracts.made.MadeGoal as made_goal
use Rattle.ghc_fire.specs.contracts.effect.Effect as effect
use Rattle.ghc_fire.specs.contracts.goals.Goals as goals
use Rattle.ghc_records.specs.contracts.record.Record as taken
use Rattle.ghc_records.specs.contracts.records.Records as records
use Rattle.ghc_records.specs.contracts.table.slots.Slots as slots
use Rattle.ghc_records.specs.contracts.table.use_index.UseIndex as use_index
use Rattle.ghc_records.specs.contracts.shelf.Shelf as shelf
use Rattle.ghc_records.specs.contracts.state.State as state
use Rattle.ghc_records.specs.contracts.history.History as history
use Rattle.ghc_flat.specs.contracts.clause.Clause as clause
use Rattle.ghc_flat.specs.contracts.firsts.Firsts as firsts
use Rattle.ghc_flat.specs.contracts.program.Program as program
use Rattle.ghc_hooks.specs.contracts.note.Note as note
use Rattle.ghc_hooks.specs.contracts.notes.Notes as notes
use Rattle.ghc_hooks.specs.contracts.goal_set.GoalSet as goal_set
use Rattle.ghc_hooks.specs.contracts.looks.Looks as looks
use Rattle.ghc_hooks.specs.contracts.unblocked.Unblocked as unblocked
use Rattle.ghc_hooks.specs.contracts.tries.Tries as tries
use Rattle.ghc_core.specs.contracts.core_state.Core as core

term_send : IsSend term.the_row
term_send = search (slot.the_send, slot.the_sync, listed.the_send, listed.the_sync, of_terms.crosses, crosses, sendable) depth 60 fits 20000

term_sync : IsSync term.the_row
term_sync = search (slot.the_sync, slot.the_send, listed.the_sync, listed.the_send, of_terms.crosses, crosses, sendable) depth 60 fits 20000

expression_send : IsSend expression.the_row
expression_send = search (term_send, term_sync, operator.the_send, operator.the_sync, of_expressions.crosses, crosses, sendable) depth 60 fits 20000

expression_sync : IsSync expression.the_row
expression_sync = search (term_sync, term_send, operator.the_sync, operator.the_send, of_expressions.crosses, crosses, sendable) depth 60 fits 20000

goal_send : IsSend goal.the_row
goal_send = search (term_send, term_sync, expression_send, crosses, sendable) depth 60 fits 20000

goal_sync : IsSync goal.the_row
goal_sync = search (term_sync, term_send, expression_sync, crosses, sendable) depth 60 fits 20000

bindings_send : IsSend bindings.the_row
bindings_send = search (term_send, crosses, sendable) depth 60 fits 20000

bindings_sync : IsSync bindings.the_row
bindings_sync = search (term_sync, crosses, sendable) depth 60 fits 20000

act_send : IsSend act.the_field.row
act_send = search (term_send, term_sync, goal_send, goal_sync, crosses, sendable) depth 60 fits 20000

act_sync : IsSync act.the_field.row
act_sync = search (term_sync, term_send, goal_sync, goal_send, crosses, sendable) depth 60 fits 20000

made_goal_send : IsSend made_goal.the_row
made_goal_send = search (goal_send, goal_sync, crosses, sendable) depth 60 fits 20000

made_goal_sync : IsSync made_goal.the_row
made_goal_sync = search (goal_sync, goal_send, crosses, sendable) depth 60 fits 20000

effect_send : IsSend effect.the_row
effect_send = search (bindings_send, goal_send, goal_sync, crosses, sendable) depth 60 fits 20000

effect_sync : IsSync effect.the_row
effect_sync = search (bindings_sync, goal_sync, goal_send, crosses, sendable) depth 60 fits 20000

taken_send : IsSend taken.the_row
taken_send = search (goal_send, goal_sync, act_send, act_sync, effect_send, effect_sync, goal_name.the_send, goal_name.the_sync, crosses, sendable) depth 60 fits 20000

taken_sync : IsSync taken.the_row
taken_sync = search (goal_sync, goal_send, act_sync, act_send, effect_sync, effect_send, goal_name.the_sync, goal_name.the_send, crosses, sendable) depth 60 fits 20000

goals_send : IsSend goals.the_row
goals_send = search (made_goal_send, goal_name.the_send, maps.crosses, crosses, sendable) depth 60 fits 20000

goals_sync : IsSync goals.the_row
goals_sync = search (made_goal_sync, goal_name.the_sync, maps.crosses, crosses, sendable) depth 60 fits 20000

state_send : IsSend state.the_row
state_send = search (goals_send, term_send, crosses, sendable) depth 60 fits 20000

state_sync : IsSync state.the_row
state_sync = search (goals_sync, term_sync, crosses, sendable) depth 60 fits 20000

slots_send : IsSend slots.the_row
slots_send = search (taken_send, maps.crosses, crosses, sendable) depth 60 fits 20000

slots_sync : IsSync slots.the_row
slots_sync = search (taken_sync, maps.crosses, crosses, sendable) depth 60 fits 20000

use_index_send : IsSend use_index.the_row
use_index_send = search (maps.crosses, crosses, sendable) depth 60 fits 20000

use_index_sync : IsSync use_index.the_row
use_index_sync = search (maps.crosses, crosses, sendable) depth 60 fits 20000

records_send : IsSend records.the_row
records_send = search (slots_send, use_index_send, crosses, sendable) depth 60 fits 20000

records_sync : IsSync records.the_row
records_sync = search (slots_sync, use_index_sync, crosses, sendable) depth 60 fits 20000

shelf_send : IsSend shelf.the_row
shelf_send = search (taken_send, maps.crosses, crosses, sendable) depth 60 fits 20000

shelf_sync : IsSync shelf.the_row
shelf_sync = search (taken_sync, maps.crosses, crosses, sendable) depth 60 fits 20000

history_send : IsSend history.the_row
history_send = search (act_send, act_sync, goal_name.the_send, goal_name.the_sync, crosses, sendable) depth 60 fits 20000

history_sync : IsSync history.the_row
history_sync = search (act_sync, act_send, goal_name.the_sync, goal_name.the_send, crosses, sendable) depth 60 fits 20000

clause_send : IsSend clause.the_row
clause_send = search (term_send, expression_send, goal_send, crosses, sendable) depth 60 fits 20000

clause_sync : IsSync clause.the_row
clause_sync = search (term_sync, expression_sync, goal_sync, crosses, sendable) depth 60 fits 20000

firsts_send : IsSend firsts.the_row
firsts_send = search (crosses, sendable) depth 60 fits 20000

firsts_sync : IsSync firsts.the_row
firsts_sync = search (crosses, sendable) depth 60 fits 20000

program_send : IsSend program.the_row
program_send = search (clause_send, firsts_send, crosses, sendable) depth 60 fits 20000

program_sync : IsSync program.the_row
program_sync = search (clause_sync, firsts_sync, crosses, sendable) depth 60 fits 20000

variables_send : IsSend variables.the_row
variables_send = search (crosses, sendable) depth 60 fits 20000

variables_sync : IsSync variables.the_row
variables_sync = search (crosses, sendable) depth 60 fits 20000

note_send : IsSend note.the_row
note_send = search (variables_send, crosses, sendable) depth 60 fits 20000

note_sync : IsSync note.the_row
note_sync = search (variables_sync, crosses, sendable) depth 60 fits 20000

notes_send : IsSend notes.the_row
notes_send = search (note_send, maps.crosses, crosses, sendable) depth 60 fits 20000

notes_sync : IsSync notes.the_row
notes_sync = search (note_sync, maps.crosses, crosses, sendable) depth 60 fits 20000

goal_set_send : IsSend goal_set.the_row
goal_set_send = search (goal_name.the_send, maps.crosses, crosses, sendable) depth 60 fits 20000

goal_set_sync : IsSync goal_set.the_row
goal_set_sync = search (goal_name.the_sync, maps.crosses, crosses, sendable) depth 60 fits 20000

looks_send : IsSend looks.the_row
looks_send = search (goal_set_send, maps.crosses, crosses, sendable) depth 60 fits 20000

looks_sync : IsSync looks.the_row
looks_sync = search (goal_set_sync, maps.crosses, crosses, sendable) depth 60 fits 20000

module _ (K : RattleType) (o : ord.Ghosts K.Denot) (e : eq.Ghosts K.Denot) (p : partial.Ghosts K.Denot) where
  tree_set_send : IsSend K → IsSend (tree_set.the_field K heap.the_row o e p ghosts).row
  tree_set_send k = over.BTreeSet-send K heap.the_row o e p ghosts k send frees

  tree_set_sync : IsSync K → IsSync (tree_set.the_field K heap.the_row o e p ghosts).row
  tree_set_sync k = over.BTreeSet-sync K heap.the_row o e p ghosts k sync

unblocked_send : IsSend unblocked.the_field.row
unblocked_send = search (goal_set_send, goal_name.the_send, tree_set_send, crosses, sendable) depth 60 fits 20000

unblocked_sync : IsSync unblocked.the_field.row
unblocked_sync = search (goal_set_sync, goal_name.the_sync, tree_set_sync, crosses, sendable) depth 60 fits 20000

tries_send : IsSend tries.the_row
tries_send = search (notes_send, goal_set_send, looks_send, unblocked_send, crosses, sendable) depth 60 fits 20000

tries_sync : IsSync tries.the_row
tries_sync = search (notes_sync, goal_set_sync, looks_sync, unblocked_sync, crosses, sendable) depth 60 fits 20000

pub core_send : IsSend core.the_row
core_send = search (program_send, program_sync, goal_send, state_send, records_send, shelf_send, taken_send, history_send, tries_send, crosses, sendable) depth 60 fits 20000

pub core_sync : IsSync core.the_row
core_sync = search (program_sync, program_send, goal_sync, state_sync, records_sync, shelf_sync, taken_sync, history_sync, tries_sync, crosses, sendable) depth 60 fits 20000
