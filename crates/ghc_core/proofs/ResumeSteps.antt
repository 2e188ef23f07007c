-- A chronicle is carried out entry by entry: what was done so far, and where it stops.
use Rattle.ghc_core.proofs.Words.{◌≡◌, ◌⊎◌, ℕ, ◌+◌, ◌<◌, List, [], ◌∷◌, ◌++◌, map, length, take, drop, get_or, sym, ap, ◌∙◌, subst, inl, inr, arith, slice_get, Some, append_assoc, map-append, length-map, Ok, Err, Fault, splits_at, Program, Query, Opening, Entry, Predicate, WrittenEntry, Chronicle, said_by, World, Loads, loads, stops, CarriesOut, CarriesOutEach, IsRefusedEntry, StopsBehind, IsPredicateOf, ArePredicatesOf, LacksBehind, IsOpened, Resumes, no_entry, no_spy, line_of_entry, line_of_spy, take_more, length-take-le}
use Rattle.ghc_core.specs.Load.{no_memory}
use Rattle.ghc_core.specs.Resume.{no_step}
use Rattle.ghc_core.proofs.ResumedOnce.{each_push, each_grown}
use Rattle.ghc_core.proofs.SavedSteps.{drop_at}

module _ (entries : List WrittenEntry) (i : ℕ) (e : WrittenEntry) (less : i < length entries) (is : e ≡ get_or entries i e) (w u : World) (done : CarriesOutEach w (map said_by (take i entries)) u) where
  -- one entry more
  pub one_more_carried : (v : World) → CarriesOut u (said_by e) v → CarriesOutEach w (map said_by (take (i + 1) entries)) v
  one_more_carried v one =
      rw (take_more entries i e less, ← is, map-append) (each_push w u v (map said_by (take i entries)) (said_by e) done one)

  -- the entry is refused
  pub stops_here : IsRefusedEntry u (said_by e) → StopsBehind w (map said_by entries) i
  stops_here refused = record {
    before = map said_by (take i entries);
    stopped = said_by e;
    behind = map said_by (drop (i + 1) entries);
    whole = ap (map said_by) (splits_at entries i e less is) ∙ map-append said_by (take i entries) (e ∷ drop (i + 1) entries);
    count_is = sym (length-map (take i entries) said_by ∙ length-take-le i entries (omega (arith, less)));
    world = u;
    carried = done;
    refused = refused;
  }

-- one of the predicates has no clause
pub lacks_here : (P : Program) (spies : List Predicate) (i : ℕ) (p : Predicate) → i < length spies → p ≡ get_or spies i p → ArePredicatesOf P (take i spies) → ¬ IsPredicateOf P p → LacksBehind P spies i
lacks_here P spies i p less is known unknown = record {
  before = take i spies;
  lacking = p;
  behind = drop (i + 1) spies;
  whole = splits_at spies i p less is;
  count_is = sym (length-take-le i spies (omega (arith, less)));
  known = known;
  unknown = unknown;
}

module _ (P : Program) (query : Query) (names : List (List ℕ)) (c : Chronicle) where
  pub loaded_opened : {w : World} → Loads ⊥ P query names c.opening (Ok w) → IsOpened P query names c w
  loaded_opened (loads w opens) = opens

  -- the opening is refused
  pub opening_refused : {f : Fault} → Loads ⊥ P query names c.opening (Err f) → Resumes P query names c ⊥ (Err f)
  opening_refused (stops p) = no_step p
  opening_refused (no_memory n) = absurd n

  -- an entry is
  pub entry_refused : (o : World) (f : Fault) (first : ℕ) → IsOpened P query names c o → first ≡ length c.opening.steps + 4 → (f ≡ Fault.Memory) ⊎ ((n : ℕ) × (f ≡ Fault.History (first + n)) × StopsBehind o c.entries n)
      → (f ≡ Fault.Memory) ⊎ Resumes P query names c ⊥ (Err f)
  entry_refused o f first opens line (inl memory) = inl memory
  entry_refused o f first opens line (inr (n, is, p)) =
      let same : first + n ≡ line_of_entry c n = omega (arith, line) in
      inr (rw (is, same) (no_entry o opens p))

  -- one of the spies is
  pub spy_refused : (o w : World) (n line : ℕ) → IsOpened P query names c o → CarriesOutEach o c.entries w → LacksBehind P c.spies n → line ≡ line_of_spy c n → Resumes P query names c ⊥ (Err (Fault.History line))
  spy_refused o w n line opens each lacks is = subst (λ k. Resumes P query names c ⊥ (Err (Fault.History k))) (sym is) (no_spy w (o, opens, each) lacks)

  -- the program stays
  pub program_stays : (o w : World) → IsOpened P query names c o → CarriesOutEach o c.entries w → w.opening.program ≡ P
  program_stays o w opens each = ap (λ (p : Opening). p.program) ((each_grown o w c.entries each).opening ∙ opens.opening)

-- One more entry is written.
pub told_pushed : (held : List Entry) (place : ℕ) (told : List WrittenEntry) (t : WrittenEntry) (x : Entry) → slice_get held place ≡ Some x → said_by t ≡ x
    → map said_by (told ++ t ∷ []) ++ drop (place + 1) held ≡ map said_by told ++ drop place held
told_pushed held place told t x at is =
    let one : said_by t ∷ drop (place + 1) held ≡ drop place held = ap (λ y. y ∷ drop (place + 1) held) is ∙ sym (drop_at held place x at) in
    rw (map-append, append_assoc) (ap (λ l. map said_by told ++ l) one)
