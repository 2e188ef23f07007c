-- A chronicle has one answer, that of a world is carried out again, and one that is carried out is written again.
use Rattle.ghc_core.proofs.Words.{◌≡◌, ℕ, List, [], ◌∷◌, ◌++◌, map, length, drop, refl, sym, ap, ◌∙◌, subst, subst₂, inl, inr, append_assoc, append-nil, Result, Ok, Err, Fault, In, compare_splits, in_middle, Program, Query, Step, Opening, Entry, took, history, opening_journal, IsHistory, loaded_opening, Change, Comes as comes, Goes as goes, Coming, Going, Predicate, Chronicle, next_after, next_behind, World, Opens, CanChange, Changes, IsSound, Reaches, from_opening, by_change, Leaves, the_opening, and_entry, CarriesOut, CarriesOutEach, StopsBehind, LacksBehind, IsCarriedOut, Resumes, resumes, no_entry, no_spy, line_of_entry, line_of_spy, opening_of, chronicle_of_world}
use Rattle.ghc_core.specs.Resume.{no_step, no_memory}
use Rattle.ghc_core.specs.ResumeLaws as laws
use Rattle.ghc_core.proofs.Histories.{history_push, leaves_once}
use Rattle.ghc_core.proofs.LoadedAgain.{one_world, no_stop, one_stop}
use Rattle.ghc_core.proofs.Moving.{opening_stays, reachable_reached}
use Rattle.ghc_core.proofs.Reaching.{reachable_good}
use Rattle.ghc_core.proofs.Resuming.{entered_by, enters_own, carried_by, carries}

-- what is carried out after a legal history is legal
each_legal : (o : Opening) (done : List Entry) (entries : List Entry) (w v : World) → Leaves (history o done) w → CarriesOutEach w entries v → Leaves (history o (done ++ entries)) v
each_legal o done [] w v l e = subst₂ (λ es z. Leaves (history o es) z) (sym (append-nil done)) (sym e) l
each_legal o done (x ∷ entries) w v l (u, (reply, n), rest) =
    let one : Leaves (history o (done ++ x ∷ [])) u = subst (λ items. Leaves items u) (sym (history_push o done x)) (and_entry x reply l n) in
    subst (λ es. Leaves (history o es) v) (append_assoc done (x ∷ []) entries) (each_legal o (done ++ x ∷ []) entries u v one rest)

each_once : (o : Opening) (done entries : List Entry) (w u v : World) → Leaves (history o done) w → CarriesOutEach w entries u → CarriesOutEach w entries v → u ≡ v
each_once o done entries w u v l a b = leaves_once (history o (done ++ entries)) u v (each_legal o done entries w u l a) (each_legal o done entries w v l b)

-- in front of an entry others are carried out
each_splits : (w v : World) (front : List Entry) (x : Entry) (more : List Entry) → CarriesOutEach w (front ++ x ∷ more) v → (u z : World) × CarriesOutEach w front u × CarriesOut u x z
each_splits w v [] x more (z, one, rest) = (w, z, refl, one)
each_splits w v (y ∷ front) x more (u, one, rest) = let s = each_splits u v front x more rest in (s.0, s.1, (u, one, s.2), s.3)

pub each_push : (w u v : World) (front : List Entry) (x : Entry) → CarriesOutEach w front u → CarriesOut u x v → CarriesOutEach w (front ++ x ∷ []) v
each_push w u v [] x e one = (v, subst (λ z. CarriesOut z x v) e one, refl)
each_push w u v (y ∷ front) x (z, first, rest) one = (z, first, each_push z u v front x rest one)

-- entries of which one is refused are not all carried out
not_all : (o : Opening) (done : List Entry) (w v : World) (entries : List Entry) (n : ℕ) → Leaves (history o done) w → StopsBehind w entries n → ¬ CarriesOutEach w entries v
not_all o done w v entries n l p all =
    let s = each_splits w v p.before p.stopped p.behind (subst (λ es. CarriesOutEach w es v) p.whole all) in
    let same : s.0 ≡ p.world = each_once o done p.before w s.0 p.world l s.2 p.carried in
    p.refused s.1 (subst (λ z. CarriesOut z p.stopped s.1) same s.3)

stops_once : (o : Opening) (done : List Entry) (w : World) (entries : List Entry) (n m : ℕ) → Leaves (history o done) w → StopsBehind w entries n → StopsBehind w entries m → n ≡ m
stops_once o done w entries n m l p q = elim (compare_splits p.before q.before p.stopped q.stopped p.behind q.behind (sym p.whole ∙ q.whole)) [
  | inl same ↦ p.count_is ∙ ap (λ (es : List Entry). length es) same.0 ∙ sym q.count_is
  | inr (inl more) ↦ absurd (not_all o done w q.world q.before n l (behind p more.0 more.1) q.carried)
  | inr (inr more) ↦ absurd (not_all o done w p.world p.before m l (behind q more.0 more.1) p.carried)
]
  where
    behind : {k : ℕ} {longer : List Entry} (s : StopsBehind w entries k) (more : List Entry) → longer ≡ s.before ++ s.stopped ∷ more → StopsBehind w longer k
    behind s more e = record { before = s.before; stopped = s.stopped; behind = more; whole = e; count_is = s.count_is; world = s.world; carried = s.carried; refused = s.refused }

lacks_once : (P : Program) (spies : List Predicate) (n m : ℕ) → LacksBehind P spies n → LacksBehind P spies m → n ≡ m
lacks_once P spies n m p q = elim (compare_splits p.before q.before p.lacking q.lacking p.behind q.behind (sym p.whole ∙ q.whole)) [
  | inl same ↦ p.count_is ∙ ap (λ (ps : List Predicate). length ps) same.0 ∙ sym q.count_is
  | inr (inl more) ↦ absurd (p.unknown (q.known p.lacking (subst (In p.lacking) (sym more.1) (in_middle p.before p.lacking more.0))))
  | inr (inr more) ↦ absurd (q.unknown (p.known q.lacking (subst (In q.lacking) (sym more.1) (in_middle q.before q.lacking more.0))))
]

module _ (P : Program) (query : Query) (names : List (List ℕ)) (c : Chronicle) (sound : IsSound (loaded_opening P query names c.opening)) where
  abbrev o : Opening
  o = loaded_opening P query names c.opening

  opened_legal : (w : World) → Opens o w → Leaves (history o (opening_journal o)) w
  opened_legal w opens = the_opening sound opens

  pub carried_legal : (w : World) → IsCarriedOut P query names c w → Leaves (history o (opening_journal o ++ c.entries)) w
  carried_legal w (first, opens, each) = each_legal o (opening_journal o) c.entries first w (opened_legal first opens) each

  opened_once : (w v : World) → Opens o w → Opens o v → w ≡ v
  opened_once w v a b = one_world P query sound.0 sound.1 names c.opening v w b a

  carried_once : (w v : World) → IsCarriedOut P query names c w → IsCarriedOut P query names c v → w ≡ v
  carried_once w v a b = leaves_once (history o (opening_journal o ++ c.entries)) w v (carried_legal w a) (carried_legal v b)

  -- where all is carried out, no entry is refused
  never_stops : (w first : World) (n : ℕ) → IsCarriedOut P query names c w → Opens o first → ¬ StopsBehind first c.entries n
  never_stops w first n (other, opens, each) begins stops =
      not_all o (opening_journal o) first w c.entries n (opened_legal first begins) stops (subst (λ z. CarriesOutEach z c.entries w) (opened_once other first opens begins) each)

  pub only_world : (w v : World) → Resumes P query names c ⊥ (Ok w) → Resumes P query names c ⊥ (Ok v) → w ≡ v
  only_world w v (resumes _ a all) (resumes _ b other) = carried_once w v a b

  pub never_both : (w : World) (f : Fault) → Resumes P query names c ⊥ (Ok w) → ¬ Resumes P query names c ⊥ (Err f)
  never_both w _ (resumes _ a all) (no_step {line = line} p) = no_stop P query sound.0 sound.1 names c.opening a.0 line a.1 p
  never_both w _ (resumes _ a all) (no_entry first {n = n} opens p) = never_stops w first n a opens p
  never_both w _ (resumes _ a all) (no_spy v b p) = p.unknown (all p.lacking (subst (In p.lacking) (sym p.whole) (in_middle p.before p.lacking p.behind)))
  never_both w _ (resumes _ a all) (no_memory n) = n

  pub one_refusal : IsHistory c.opening → (f g : Fault) → Resumes P query names c ⊥ (Err f) → Resumes P query names c ⊥ (Err g) → f ≡ g
  one_refusal form _ _ (no_step {line = line} p) (no_step {line = other} q) = ap Fault.History (one_stop P query sound.0 sound.1 names c.opening form line other p q)
  one_refusal form _ _ (no_step {line = line} p) (no_entry w opens q) = absurd (no_stop P query sound.0 sound.1 names c.opening w line opens p)
  one_refusal form _ _ (no_step {line = line} p) (no_spy w a q) = absurd (no_stop P query sound.0 sound.1 names c.opening a.0 line a.1 p)
  one_refusal form _ _ (no_entry w opens p) (no_step {line = line} q) = absurd (no_stop P query sound.0 sound.1 names c.opening w line opens q)
  one_refusal form _ _ (no_entry w {n = n} opens p) (no_entry v {n = m} begins q) =
      ap (λ k. Fault.History (line_of_entry c k)) (stops_once o (opening_journal o) v c.entries n m (opened_legal v begins) (subst (λ z. StopsBehind z c.entries n) (opened_once w v opens begins) p) q)
  one_refusal form _ _ (no_entry w {n = n} opens p) (no_spy v a q) = absurd (never_stops v w n a opens p)
  one_refusal form _ _ (no_spy w a p) (no_step {line = line} q) = absurd (no_stop P query sound.0 sound.1 names c.opening a.0 line a.1 q)
  one_refusal form _ _ (no_spy w a p) (no_entry v {n = m} opens q) = absurd (never_stops w v m a opens q)
  one_refusal form _ _ (no_spy w {n = n} a p) (no_spy v {n = m} b q) = ap (λ k. Fault.History (line_of_spy c k)) (lacks_once P c.spies n m p q)
  one_refusal form _ _ (no_memory n) q = absurd n
  one_refusal form _ _ p (no_memory n) = absurd n

-- What a reachable world entered after its opening is carried out.
record Entered (w : World) : Type 0 where
  pub first : World
  pub opens : Opens w.opening first
  pub entries : List Entry
  pub journal : w.journal ≡ opening_journal w.opening ++ entries
  pub carried : CarriesOutEach first entries w

reached_entered : {w : World} → Reaches w → Entered w
reached_entered (from_opening {w = w} sound opens) = record {
  first = w;
  opens = subst (λ p. Opens p w) (sym opens.opening) opens;
  entries = [];
  journal = opens.journal ∙ ap opening_journal (sym opens.opening) ∙ sym (append-nil (opening_journal w.opening));
  carried = refl;
}
reached_entered (by_change {w = w} {v = v} change r can changes) =
    let before = reached_entered r in
    let same : v.opening ≡ w.opening = opening_stays w v change can changes in
    let entry = entered_by change in
    record {
      first = before.first;
      opens = subst (λ p. Opens p before.first) (sym same) before.opens;
      entries = before.entries ++ entry ∷ [];
      journal = enters_own w v change can changes ∙ ap (λ es. es ++ entry ∷ []) before.journal ∙ append_assoc (opening_journal w.opening) before.entries (entry ∷ [])
          ∙ ap (λ (p : Opening). opening_journal p ++ (before.entries ++ entry ∷ [])) (sym same);
      carried = each_push before.first w v before.entries entry before.carried (carries w v entry r (change, can, changes, refl));
    }

-- after the steps of the opening come the other entries
behind_steps : (ss : List Step) (entries : List Entry) → drop (length ss) (map took ss ++ entries) ≡ entries
behind_steps [] entries = refl
behind_steps (s ∷ ss) entries = behind_steps ss entries

pub told_carried : laws.WhatIsToldIsCarriedOut
told_carried w hands spies r known = (answer, only)
  where
    by : Entered w
    by = reached_entered (reachable_reached r)

    c : Chronicle
    c = chronicle_of_world w spies

    behind : c.entries ≡ by.entries
    behind = ap (λ es. drop (length w.opening.steps) es) by.journal ∙ behind_steps w.opening.steps by.entries

    answer : Resumes w.opening.program w.opening.query w.opening.names c ⊥ (Ok w)
    answer = resumes w (by.first, by.opens, subst (λ es. CarriesOutEach by.first es w) (sym behind) by.carried) known

    sound : IsSound w.opening
    sound = let good = reachable_good r in (good.accepted, good.asked, good.named)

    only : (result : Result World Fault) → Resumes w.opening.program w.opening.query w.opening.names c ⊥ result → result ≡ Ok w
    only (Ok v) other = ap Ok (only_world w.opening.program w.opening.query w.opening.names c sound v w other answer)
    only (Err f) other = absurd (never_both w.opening.program w.opening.query w.opening.names c sound w f answer other)

-- the number that the next step gets after a change
change_next : (w v : World) (change : Change) → CanChange w change → Changes w change v → v.next ≡ next_after w.next (entered_by change)
change_next w v (goes Going.Alone gone) can (left, split, (t, run, e)) = ap (λ (z : World). z.next) e
change_next w v (goes Going.Together gone) can (left, split, (t, run, e)) = ap (λ (z : World). z.next) e
change_next w v (comes Coming.Next r) can e = ap (λ (z : World). z.next) e
change_next w v change can e = ap (λ (z : World). z.next) e

-- What stays and what grows where entries are carried out.
pub record Grown (w : World) (entries : List Entry) (v : World) : Type 0 where
  pub opening : v.opening ≡ w.opening
  pub journal : v.journal ≡ w.journal ++ entries
  pub next : v.next ≡ next_behind w.next entries

pub each_grown : (w v : World) (entries : List Entry) → CarriesOutEach w entries v → Grown w entries v
each_grown w v [] e = record { opening = ap (λ (z : World). z.opening) e; journal = ap (λ (z : World). z.journal) e ∙ sym (append-nil w.journal); next = ap (λ (z : World). z.next) e }
each_grown w v (x ∷ entries) (u, one, rest) =
    let by = carried_by w u x one in
    let more = each_grown u v entries rest in
    record {
      opening = more.opening ∙ opening_stays w u by.0 by.1 by.2;
      journal = more.journal ∙ ap (λ es. es ++ entries) (enters_own w u by.0 by.1 by.2 ∙ ap (λ e. w.journal ++ e ∷ []) by.3) ∙ append_assoc w.journal (x ∷ []) entries;
      next = more.next ∙ ap (λ n. next_behind n entries) (change_next w u by.0 by.1 by.2 ∙ ap (next_after w.next) by.3);
    }

pub carried_told : laws.WhatIsCarriedOutIsTold
carried_told P query names c w next (first, opens, each) =
    let grown = each_grown first w c.entries each in
    let opening : w.opening ≡ loaded_opening P query names c.opening = grown.opening ∙ opens.opening in
    let began : opening_of w ≡ c.opening = ap (λ (p : Opening). record { steps = p.steps; next = p.next }) opening in
    let journal : w.journal ≡ map took c.opening.steps ++ c.entries = grown.journal ∙ ap (λ es. es ++ c.entries) opens.journal in
    let entries : drop (length w.opening.steps) w.journal ≡ c.entries =
    subst₂ (λ (p : Opening) es. drop (length p.steps) es ≡ c.entries) (sym opening) (sym journal) (behind_steps c.opening.steps c.entries) in
    let number : w.next ≡ c.next = grown.next ∙ ap (λ n. next_behind n c.entries) opens.next ∙ sym next in
    λ i. record { opening = began i; entries = entries i; spies = c.spies; next = number i }
