-- Two records, states, steps or entries with one code are one.
use Rattle.std.specs.Prelude.{◌≡◌, ℕ, List, [], Option, None, refl, cond, nat_eq}
use Rattle.std.specs.Coded.{Coded, code_by, coded×, coded_list, coded_option, coded_ℕ}
use Rattle.std.specs.FinMap as finite
use Rattle.ghc_term.specs.declared.goal_name.GoalName.{GoalName}
use Rattle.ghc_term.specs.Goal.{Goal}
use Rattle.ghc_term.specs.Table.{Table, table_code}
use Rattle.ghc_term.specs.inner.Code.{name_code}
use Rattle.ghc_term.specs.inner.GoalCode.{goal_code}
use Rattle.ghc_term.specs.Store.{StoreValue, store_code}
use Rattle.ghc_flat.specs.Clause.{Program, Query}
use Rattle.ghc_flat.specs.inner.ClauseCode.{program_code}
use Rattle.ghc_fire.specs.Goals.{Goals}
use Rattle.ghc_fire.specs.inner.GoalsCode.{goal_name_code, goals_code}
use Rattle.ghc_fire.specs.declared.act.Act.{Act}
use Rattle.ghc_fire.specs.declared.act.Act.TheVariants.{Closed as closed}
use Rattle.ghc_fire.specs.inner.ActCode.{act_code}
use Rattle.ghc_fire.specs.Effect.{Effect}
use Rattle.ghc_fire.specs.inner.EffectCode.{effect_code}
use Rattle.ghc_records.specs.Record.{State, Record, Shelf}
use Rattle.ghc_records.specs.State.{StateRoom, StateTables}
use Rattle.ghc_records.specs.UseIndex.{UsersByStep, BindersByVariable, Index, RecordsTables}
use Rattle.ghc_records.specs.inner.Slots.{SlotList, PlacesByNumber}
use Rattle.ghc_records.specs.Journal.{Step, Entry, took, undid, rolled, redid, reordered, Opening}

-- the code of a state, its goals and its store, which no other state has
abbrev pub state_code : Coded State
state_code = code_by (Goals × StoreValue) (coded× goals_code store_code) (λ s. (s.goals, s.store)) (λ p. record { goals = p.0; store = p.1 }) (λ _. refl)

-- the code of how many more goals and bindings a state takes, which no other such room has
abbrev pub state_room_code : Coded StateRoom
state_room_code = code_by (ℕ × ℕ) (coded× coded_ℕ coded_ℕ) (λ r. (r.goals, r.bindings)) (λ p. record { goals = p.0; bindings = p.1 }) (λ _. refl)

-- the code of the tables of a state, what they hold and their room, which no other such tables have
abbrev pub tables_code : Coded StateTables
tables_code = code_by (State × StateRoom) (coded× state_code state_room_code) (λ t. (t.held, t.room)) (λ p. record { held = p.0; room = p.1 }) (λ _. refl)

-- the code of the record of a step, which no other record has
abbrev pub record_code : Coded Record
record_code =
    code_by (ℕ × (Option GoalName × (Option Goal × (Act × Effect))))
    (coded× coded_ℕ (coded× (coded_option goal_name_code) (coded× (coded_option goal_code) (coded× act_code effect_code))))
    (λ r. (r.number, (r.goal, (r.consumed, (r.act, r.effect)))))
    (λ p. record { number = p.0; goal = p.1.0; consumed = p.1.1.0; act = p.1.1.1.0; effect = p.1.1.1.1 })
    (λ _. refl)

-- the code of a list of records in order, which no other list of records has
abbrev pub records_code : Coded (List Record)
records_code = coded_list record_code

-- the code of a list of slots, with its records and gaps, which no other such list has
abbrev pub slots_code : Coded SlotList
slots_code = coded_list (coded_option record_code)

-- the code of the places of strays by number, which no other such map has
abbrev pub places_code : Coded PlacesByNumber
places_code = finite.code coded_ℕ coded_ℕ

-- the code of a list of step numbers in order, which no other list of numbers has
abbrev pub numbers_code : Coded (List ℕ)
numbers_code = coded_list coded_ℕ

-- the code of the users of each step with the room for more, which no other such map has
abbrev pub users_code : Coded UsersByStep
users_code = finite.code coded_ℕ (table_code numbers_code)

-- the code of the binder of each variable, which no other such map has
abbrev pub binders_code : Coded BindersByVariable
binders_code = finite.code name_code coded_ℕ

-- the code of the index of a record, which no other index has
abbrev pub index_code : Coded Index
index_code = code_by (UsersByStep × Table BindersByVariable) (coded× users_code (table_code binders_code)) (λ i. (i.users, i.binders)) (λ p. record { users = p.0; binders = p.1 }) (λ _. refl)

-- the code of the tables of a record, its steps, their slots, how many of these its index has, and its room, which no other such
-- tables have
abbrev pub records_tables_code : Coded RecordsTables
records_tables_code =
    code_by (List Record × (SlotList × (ℕ × ℕ))) (coded× records_code (coded× slots_code (coded× coded_ℕ coded_ℕ))) (λ t. (t.held, (t.slots, (t.indexed, t.room))))
    (λ p. record { held = p.0; slots = p.1.0; indexed = p.1.1.0; room = p.1.1.1 }) (λ _. refl)

-- the code of a shelf, its records by number, which no other shelf has
abbrev pub shelf_code : Coded Shelf
shelf_code = finite.code coded_ℕ record_code

-- the code of a step of a journal, its number, goal and act, which no other step has
abbrev pub step_code : Coded Step
step_code =
    code_by (ℕ × (Option GoalName × Act)) (coded× coded_ℕ (coded× (coded_option goal_name_code) act_code)) (λ s. (s.number, (s.goal, s.act)))
    (λ p. record { number = p.0; goal = p.1.0; act = p.1.1 }) (λ _. refl)

-- the step that stands for none
abbrev pub no_step_at_all : Step
no_step_at_all = record { number = 0; goal = None; act = closed }

-- what an entry is made of: its kind, its step, its number, its order
abbrev pub EntryParts : Type 0
EntryParts = ℕ × (Step × (ℕ × List ℕ))

-- the parts of a journal entry; those that its kind lacks are zero, empty or no step
abbrev pub entry_parts : Entry → EntryParts
entry_parts (took s) = (0, (s, (0, [])))
entry_parts (undid n) = (1, (no_step_at_all, (n, [])))
entry_parts (rolled n) = (2, (no_step_at_all, (n, [])))
entry_parts (redid n) = (3, (no_step_at_all, (n, [])))
entry_parts (reordered order) = (4, (no_step_at_all, (0, order)))

-- the journal entry that has these parts
abbrev pub entry_from : EntryParts → Entry
entry_from p =
    cond (nat_eq p.0 0) (took p.1.0)
    (cond (nat_eq p.0 1) (undid p.1.1.0) (cond (nat_eq p.0 2) (rolled p.1.1.0) (cond (nat_eq p.0 3) (redid p.1.1.0) (reordered p.1.1.1))))

-- What a journal entry is coded as is read back as that entry.
pub entry_back : (e : Entry) → entry_from (entry_parts e) ≡ e
entry_back (took s) = refl
entry_back (undid n) = refl
entry_back (rolled n) = refl
entry_back (redid n) = refl
entry_back (reordered order) = refl

-- the code of a journal entry, which no other entry has
abbrev pub entry_code : Coded Entry
entry_code = code_by EntryParts (coded× coded_ℕ (coded× step_code (coded× coded_ℕ (coded_list coded_ℕ)))) entry_parts entry_from entry_back

-- the code of a journal, its entries in order, which no other journal has
abbrev pub journal_code : Coded (List Entry)
journal_code = coded_list entry_code

-- the code of an opening, which no other opening has
abbrev pub opening_code : Coded Opening
opening_code =
    code_by (Program × (Query × (List (List ℕ) × (List Step × ℕ))))
    (coded× program_code (coded× (coded_list goal_code) (coded× (coded_list (coded_list coded_ℕ)) (coded× (coded_list step_code) coded_ℕ))))
    (λ o. (o.program, (o.query, (o.names, (o.steps, o.next)))))
    (λ p. record { program = p.0; query = p.1.0; names = p.1.1.0; steps = p.1.1.1.0; next = p.1.1.1.1 })
    (λ _. refl)
