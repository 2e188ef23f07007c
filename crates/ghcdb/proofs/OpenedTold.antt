-- What opens on program and query that are started a text can tell.
use Rattle.ghcdb.proofs.CitedWords.{◌≡◌, ℕ, List, [], ◌∷◌, ◌++◌, map, inl, inr, refl, sym, ◌∙◌, subst, arith, append-nil, Option, None, Some, In, Opening, History, loaded_opening, Chronicle, World, LegalIsReachable, CarriedOutIsLegal, IsCarriedOut, Predicate, Spies, spied_of, Started, IsStarted, OpensOn, TellsHistory, loads, resumes}
use Rattle.std.specs.FinSet as set
use Rattle.ghc_term.proofs.ListsLemmas.{in_either}
use Rattle.ghc_reader.proofs.ReadTerms.{read_is_input}
use Rattle.ghc_reader.proofs.SoundGoals.{read_writable}
use Rattle.ghc_records.specs.ChronicleLaws.{CanBeSaid, CanBeSpied, CanBeTold}
use Rattle.ghc_records.specs.HistoryLaws.{IsOfAGoal}
use Rattle.ghc_records.specs.Journal.{Step, Entry, took, entered, history, opening_journal}
use Rattle.ghc_records.specs.declared.predicate.Predicate as written
use Rattle.ghc_records.proofs.ToldChronicles.{can_be_told}
use Rattle.ghc_records.proofs.ToldHistories.{told_history, told_in_range}
use Rattle.ghc_core.specs.Load as load
use Rattle.ghc_core.specs.Resume as resume
use Rattle.ghcdb.proofs.LinesTold.{IsSaid}
use Rattle.ghcdb.proofs.SessionsOpened.{is_written, none_spied, sound}
use Rattle.ghcdb.proofs.SpiesTold.{HaveNames}
use Rattle.ghc_core.proofs.Histories.{entries_once}

-- ---- entries

-- those of an opening are its steps
taken_said : (steps : List Step) → ((s : Step) → In s steps → IsOfAGoal s) → (e : Entry) → In e (map took steps) → CanBeSaid e
taken_said [] of e i = absurd i
taken_said (s ∷ steps) of e (inl same) = subst CanBeSaid (sym same) (inl (of s (inl refl)))
taken_said (s ∷ steps) of e (inr i) = taken_said steps (λ t j. of t (inr j)) e i

-- ---- what opens

-- of an opening of these steps, and these entries after them
tellable : (w : World) (o : Opening) (es : List Entry) → w.opening ≡ o → w.journal ≡ opening_journal o ++ es → ((s : Step) → In s o.steps → IsOfAGoal s) → ((e : Entry) → In e es → CanBeSaid e) → IsSaid w
tellable w o es opening journal of can = record {
  steps = λ s i. of s (subst (λ (p : Opening). In s p.steps) opening i);
  entries = λ e i. elim (in_either (opening_journal o) es e (subst (λ (l : List Entry). In e l) journal i)) [ inl j ↦ taken_said o.steps of e j | inr j ↦ can e j ];
}

no_names : HaveNames set.empty
no_names f n spied = absurd (none_spied f n spied)

-- the spies of a chronicle
written_names : (ps : List written.Predicate) → ((p : written.Predicate) → In p ps → CanBeSpied p) → HaveNames (spied_of ps)
written_names ps can f n spied =
    let p = is_written ps f n spied in
    subst (λ (q : Predicate). CanBeSpied (record { name = q.name; arity = q.arity })) p.2 (can p.0 p.1)

-- the steps of a history of version 1
steps_of_history : (text : List ℕ) (h : History) → TellsHistory text h → (s : Step) → In s h.steps → IsOfAGoal s
steps_of_history text h told s i =
    let form = told_history text h told in
    let number = form.numbered s i in
    let limit = form.next_number.1 in
    record {
      number = (number.0, omega (arith, number.1, limit));
      goal = form.of_goals s i;
      unasked = λ gs e. form.unasked s gs i e;
      clause = λ k e. form.of_clauses s k i e;
      range = told_in_range read_is_input text h told s i;
    }

-- what is carried out has the journal of its chronicle
record Journal (o : Opening) (es : List Entry) (w : World) : Type 0 where
  opening : w.opening ≡ o
  journal : w.journal ≡ opening_journal o ++ es

module _ (legal : CarriedOutIsLegal) (reachable : LegalIsReachable) (p q : List ℕ) (s : Started) (started : IsStarted p q s) where
  carried_journal : (c : Chronicle) (w : World) → IsCarriedOut s.program s.query.goals s.query.variables c w → Journal (loaded_opening s.program s.query.goals s.query.variables c.opening) c.entries w
  carried_journal c w carried =
      let o = loaded_opening s.program s.query.goals s.query.variables c.opening in
      let left = legal s.program s.query.goals s.query.variables c w (sound p q s c.opening started) carried in
      let same : history o (opening_journal o ++ c.entries) ≡ history w.opening w.journal = (reachable _ w left).0 in
      let opening : w.opening ≡ o = cc in
      let entries : map entered (opening_journal o ++ c.entries) ≡ map entered w.journal = cc in
      record { opening = opening; journal = sym (entries_once (opening_journal o ++ c.entries) w.journal entries) }

  carried_told : (text : List ℕ) (c : Chronicle) (w : World) → CanBeTold c → IsCarriedOut s.program s.query.goals s.query.variables c w → IsSaid w
  carried_told text c w can carried =
      let j = carried_journal c w carried in
      tellable w _ c.entries j.opening j.journal can.steps (can.entries)

  -- what opens
  pub opened_tellable : (given : Option (List ℕ)) (w : World) (spies : Spies) → OpensOn s given w spies → IsSaid w × HaveNames spies
  opened_tellable None w spies opens =
      (tellable w _ [] opens.0.opening opens.0.journal (λ t i. absurd i) (λ e i. absurd i), subst HaveNames (sym opens.1) no_names)
  opened_tellable (Some text) w spies (loads h told (load.loads v opens)) =
      (tellable w _ [] opens.opening (opens.journal ∙ sym (append-nil _)) (steps_of_history text h told) (λ e i. absurd i), no_names)
  opened_tellable (Some text) w spies (resumes c told (resume.resumes v carried known)) =
      let can = can_be_told read_is_input read_writable text c told in
      (carried_told text c w can carried, written_names c.spies can.spies)
