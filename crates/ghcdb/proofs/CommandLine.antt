-- A parse of the program's command finds FILE and the query.
use Rattle.ghcdb.proofs.CitedWords.{zero, suc, ◌≡◌, ◌∙◌, ◌<◌, ℕ, true, false, List, [], ◌∷◌, slice_index, is_some, codes, refl, sym, inl, inr, arith, All, slice_index_or, bytes_eq, bytes_eq-Decides, IsParsedFrom, IsPlainArg, first_value, found_of, FitsChain, HasDistinctIds, Arg, Command, ValueParser, ArgMatches, required_in_chain, HasOptions, IsGhcdb, IsOptionalValue, IsRequiredValue, IsWorkersValue}

-- the id of an argument begins with the first byte of its name
first_byte : (id : List ℕ) (a : Arg) → a.id.now ≡ id → (other : List ℕ) → a.id.now ≡ other → slice_index other 0 ≡ slice_index id 0
first_byte id a is other e = rw (← e, is) refl

-- a name that begins with another byte than those of clap's own flags fits
fits : (id : List ℕ) (a : Arg) → a.id.now ≡ id → IsPlainArg a → a.global ≡ false → (slice_index id 0 ≡ 0 → ⊥) → (slice_index id 0 ≡ 104 → ⊥) → (slice_index id 0 ≡ 118 → ⊥) → FitsChain a
fits id a is plain local named no_help no_version = (
  plain,
  local,
  (λ e. named (sym (first_byte id a is [] e))),
  (λ auto. elim auto [
    | inl e ↦ no_help (sym (first_byte id a is (codes "help") e))
    | inr e ↦ no_version (sym (first_byte id a is (codes "version") e))
  ]),
)

file_fits : (a : Arg) → IsRequiredValue (codes "FILE") a → FitsChain a
file_fits a h = fits (codes "FILE") a h.id_is h.plain h.local (λ e. absurd (omega arith)) (λ e. absurd (omega arith)) (λ e. absurd (omega arith))

query_fits : (a : Arg) → IsRequiredValue (codes "query") a → FitsChain a
query_fits a h = fits (codes "query") a h.id_is h.plain h.local (λ e. absurd (omega arith)) (λ e. absurd (omega arith)) (λ e. absurd (omega arith))

load_fits : (a : Arg) → IsOptionalValue (codes "load") a → FitsChain a
load_fits a h = fits (codes "load") a h.id_is h.plain h.local (λ e. absurd (omega arith)) (λ e. absurd (omega arith)) (λ e. absurd (omega arith))

schedule_fits : (a : Arg) → IsOptionalValue (codes "schedule") a → FitsChain a
schedule_fits a h = fits (codes "schedule") a h.id_is h.plain h.local (λ e. absurd (omega arith)) (λ e. absurd (omega arith)) (λ e. absurd (omega arith))

workers_fits : (by : ValueParser) (a : Arg) → IsWorkersValue by a → FitsChain a
workers_fits by a h = fits (codes "workers") a h.optional.id_is h.optional.plain h.optional.local (λ e. absurd (omega arith)) (λ e. absurd (omega arith)) (λ e. absurd (omega arith))

all_fit : (file query load schedule workers : Arg) → FitsChain file → FitsChain query → FitsChain load → FitsChain schedule → FitsChain workers → All FitsChain (file ∷ query ∷ load ∷ schedule ∷ workers ∷ [])
all_fit file query load schedule workers f q l s w zero d lt = f
all_fit file query load schedule workers f q l s w (suc zero) d lt = q
all_fit file query load schedule workers f q l s w (suc (suc zero)) d lt = l
all_fit file query load schedule workers f q l s w (suc (suc (suc zero))) d lt = s
all_fit file query load schedule workers f q l s w (suc (suc (suc (suc zero)))) d lt = w
all_fit file query load schedule workers f q l s w (suc (suc (suc (suc (suc k))))) d lt = absurd (omega arith)

-- names that begin with two bytes are two
pub differ : (id other : List ℕ) (a b : Arg) → a.id.now ≡ id → b.id.now ≡ other → (slice_index other 0 ≡ slice_index id 0 → ⊥) → bytes_eq a.id.now b.id.now ≡ true → ⊥
differ id other a b is also never same = never (first_byte id a is other ((bytes_eq-Decides a.id.now b.id.now).0 same ∙ also))

module _ (file query load schedule workers : Arg) (f : IsRequiredValue (codes "FILE") file) (q : IsRequiredValue (codes "query") query) (l : IsOptionalValue (codes "load") load) (s : IsOptionalValue (codes "schedule") schedule) (w : IsOptionalValue (codes "workers") workers) where
  distinct : HasDistinctIds (file ∷ query ∷ load ∷ schedule ∷ workers ∷ [])
  distinct zero zero d e lt lt2 same = refl
  distinct zero (suc zero) d e lt lt2 same = absurd (differ (codes "FILE") (codes "query") file query f.id_is q.id_is (λ e. absurd (omega arith)) same)
  distinct zero (suc (suc zero)) d e lt lt2 same = absurd (differ (codes "FILE") (codes "load") file load f.id_is l.id_is (λ e. absurd (omega arith)) same)
  distinct zero (suc (suc (suc zero))) d e lt lt2 same = absurd (differ (codes "FILE") (codes "schedule") file schedule f.id_is s.id_is (λ e. absurd (omega arith)) same)
  distinct zero (suc (suc (suc (suc zero)))) d e lt lt2 same = absurd (differ (codes "FILE") (codes "workers") file workers f.id_is w.id_is (λ e. absurd (omega arith)) same)
  distinct zero (suc (suc (suc (suc (suc k))))) d e lt lt2 same = absurd (omega arith)
  distinct (suc zero) zero d e lt lt2 same = absurd (differ (codes "query") (codes "FILE") query file q.id_is f.id_is (λ e. absurd (omega arith)) same)
  distinct (suc zero) (suc zero) d e lt lt2 same = refl
  distinct (suc zero) (suc (suc zero)) d e lt lt2 same = absurd (differ (codes "query") (codes "load") query load q.id_is l.id_is (λ e. absurd (omega arith)) same)
  distinct (suc zero) (suc (suc (suc zero))) d e lt lt2 same = absurd (differ (codes "query") (codes "schedule") query schedule q.id_is s.id_is (λ e. absurd (omega arith)) same)
  distinct (suc zero) (suc (suc (suc (suc zero)))) d e lt lt2 same = absurd (differ (codes "query") (codes "workers") query workers q.id_is w.id_is (λ e. absurd (omega arith)) same)
  distinct (suc zero) (suc (suc (suc (suc (suc k))))) d e lt lt2 same = absurd (omega arith)
  distinct (suc (suc zero)) zero d e lt lt2 same = absurd (differ (codes "load") (codes "FILE") load file l.id_is f.id_is (λ e. absurd (omega arith)) same)
  distinct (suc (suc zero)) (suc zero) d e lt lt2 same = absurd (differ (codes "load") (codes "query") load query l.id_is q.id_is (λ e. absurd (omega arith)) same)
  distinct (suc (suc zero)) (suc (suc zero)) d e lt lt2 same = refl
  distinct (suc (suc zero)) (suc (suc (suc zero))) d e lt lt2 same = absurd (differ (codes "load") (codes "schedule") load schedule l.id_is s.id_is (λ e. absurd (omega arith)) same)
  distinct (suc (suc zero)) (suc (suc (suc (suc zero)))) d e lt lt2 same = absurd (differ (codes "load") (codes "workers") load workers l.id_is w.id_is (λ e. absurd (omega arith)) same)
  distinct (suc (suc zero)) (suc (suc (suc (suc (suc k))))) d e lt lt2 same = absurd (omega arith)
  distinct (suc (suc (suc zero))) zero d e lt lt2 same = absurd (differ (codes "schedule") (codes "FILE") schedule file s.id_is f.id_is (λ e. absurd (omega arith)) same)
  distinct (suc (suc (suc zero))) (suc zero) d e lt lt2 same = absurd (differ (codes "schedule") (codes "query") schedule query s.id_is q.id_is (λ e. absurd (omega arith)) same)
  distinct (suc (suc (suc zero))) (suc (suc zero)) d e lt lt2 same = absurd (differ (codes "schedule") (codes "load") schedule load s.id_is l.id_is (λ e. absurd (omega arith)) same)
  distinct (suc (suc (suc zero))) (suc (suc (suc zero))) d e lt lt2 same = refl
  distinct (suc (suc (suc zero))) (suc (suc (suc (suc zero)))) d e lt lt2 same = absurd (differ (codes "schedule") (codes "workers") schedule workers s.id_is w.id_is (λ e. absurd (omega arith)) same)
  distinct (suc (suc (suc zero))) (suc (suc (suc (suc (suc k))))) d e lt lt2 same = absurd (omega arith)
  distinct (suc (suc (suc (suc zero)))) zero d e lt lt2 same = absurd (differ (codes "workers") (codes "FILE") workers file w.id_is f.id_is (λ e. absurd (omega arith)) same)
  distinct (suc (suc (suc (suc zero)))) (suc zero) d e lt lt2 same = absurd (differ (codes "workers") (codes "query") workers query w.id_is q.id_is (λ e. absurd (omega arith)) same)
  distinct (suc (suc (suc (suc zero)))) (suc (suc zero)) d e lt lt2 same = absurd (differ (codes "workers") (codes "load") workers load w.id_is l.id_is (λ e. absurd (omega arith)) same)
  distinct (suc (suc (suc (suc zero)))) (suc (suc (suc zero))) d e lt lt2 same = absurd (differ (codes "workers") (codes "schedule") workers schedule w.id_is s.id_is (λ e. absurd (omega arith)) same)
  distinct (suc (suc (suc (suc zero)))) (suc (suc (suc (suc zero)))) d e lt lt2 same = refl
  distinct (suc (suc (suc (suc zero)))) (suc (suc (suc (suc (suc k))))) d e lt lt2 same = absurd (omega arith)
  distinct (suc (suc (suc (suc (suc j))))) k d e lt lt2 same = absurd (omega arith)

-- what the parse found at a place of the chain
found_at : (by : ValueParser) (command : Command) (matches : ArgMatches) (h : IsGhcdb by command) → IsParsedFrom command matches → (k : ℕ) → k < 5
    → (id : List ℕ) → IsRequiredValue id (slice_index_or (h.file ∷ h.query ∷ h.load ∷ h.schedule ∷ h.workers ∷ []) k h.file) → is_some (first_value (found_of matches) id) ≡ true
found_at by command matches h parsed k lt id is =
    let there = required_in_chain h.start command (h.file ∷ h.query ∷ h.load ∷ h.schedule ∷ h.workers ∷ []) k h.file matches h.chain
    h.empty.arguments h.empty.groups h.empty.local h.empty.negates
    (all_fit h.file h.query h.load h.schedule h.workers (file_fits h.file h.file_is) (query_fits h.query h.query_is) (load_fits h.load h.load_is) (schedule_fits h.schedule h.schedule_is) (workers_fits by h.workers h.workers_is))
    (distinct h.file h.query h.load h.schedule h.workers h.file_is h.query_is h.load_is h.schedule_is h.workers_is.optional) lt is.value parsed in
    rw is.id_is at there

pub has_options : (by : ValueParser) (command : Command) (matches : ArgMatches) → IsGhcdb by command → IsParsedFrom command matches → HasOptions (found_of matches)
has_options by command matches h parsed = record {
  file = found_at by command matches h parsed 0 (omega arith) (codes "FILE") h.file_is;
  query = found_at by command matches h parsed 1 (omega arith) (codes "query") h.query_is;
}
