-- What is answered for a text is exact.
use Rattle.ghc_reader.proofs.Words.{◌≡◌, ℕ, List, exact, WrittenClause, WrittenQuery, a_program, a_query, a_term, an_ask, a_body, IsRefusal, IsReadProgram, IsReadQuery, ReadProgramIsExact, ReadQueryIsExact, ReadTermIsExact, ReadAskIsExact, ReadBodyIsExact}
use Rattle.ghc_term.specs.declared.fault.Fault.{Fault}
use Rattle.ghc_reader.proofs.Whole.{one_query}
use Rattle.ghc_reader.proofs.OneReading.{answered_once, one_program_tree, one_input_tree}
use Rattle.ghc_reader.proofs.OneMeaning.{one_program_read, one_query_read, one_term_read, one_ask_read, one_body_read}

-- a text of a program is not both read and refused, and refused in one way
pub no_program_refused : (text : List ℕ) (ws : List WrittenClause) (f : Fault) → IsReadProgram text ws → ¬ IsRefusal a_program text f
no_program_refused text ws f read refused = (answered_once a_program one_program_tree text).never_both read.0 f read.1 refused

pub one_program_refusal : (text : List ℕ) (f g : Fault) → IsRefusal a_program text f → IsRefusal a_program text g → f ≡ g
one_program_refusal text = (answered_once a_program one_program_tree text).one_refusal

-- the same of a query
pub no_query_refused : (text : List ℕ) (asked : WrittenQuery) (f : Fault) → IsReadQuery text asked → ¬ IsRefusal a_query text f
no_query_refused text asked f read refused = (answered_once a_query one_query text).never_both read.0 f read.1 refused

pub one_query_refusal : (text : List ℕ) (f g : Fault) → IsRefusal a_query text f → IsRefusal a_query text g → f ≡ g
one_query_refusal text = (answered_once a_query one_query text).one_refusal

pub program_exact : ReadProgramIsExact
program_exact text result = exact (one_program_read text) (one_program_refusal text) (no_program_refused text) result

pub query_exact : ReadQueryIsExact
query_exact text result = exact (one_query_read text) (one_query_refusal text) (no_query_refused text) result

pub term_exact : ReadTermIsExact
term_exact text result =
    let once = answered_once a_term one_input_tree text in exact (one_term_read text) once.one_refusal (λ term f read refused. once.never_both read.0 f read.1 refused) result

pub ask_exact : ReadAskIsExact
ask_exact query text result apart =
    let once = answered_once an_ask one_query text in
    exact (λ a other x y. one_ask_read query apart text a other x y) once.one_refusal (λ a f read refused. once.never_both read.0 f read.1 refused) result

pub body_exact : ReadBodyIsExact
body_exact text result =
    let once = answered_once a_body one_query text in exact (one_body_read text) once.one_refusal (λ a f read refused. once.never_both read.0 f read.1 refused) result
