use Rattle.ghc_trace.proofs.Words.{None, sym, subst, List}
use Rattle.ghc_trace.proofs.CallPlaces.{before_more}
use Rattle.ghc_trace.proofs.CallsFound.{none_asked, one_asked}
use Rattle.ghc_trace.specs.declared.slice_calls.Call.{Call}
use Rattle.ghc_trace.specs.declared.slice_calls.Found.{Found}
use Rattle.ghc_trace.specs.inner.BlameCode.{AreCallsOf, AreMakersBefore, ArePlacesOf, IsAskedAbout}
use Rattle.ghc_trace.proofs.slice_calls.calls_of.Goals.{in-Some+in_ok-push, in_default}
use Rattle.ghc_trace.proofs.slice_calls.calls_of.Goals as goal

pub invariant_of-result-clause-placed : goal.invariant_of-result-clause-placed
invariant_of-result-clause-placed c = subst (λ (l : List Call). ArePlacesOf l c.in_ok-places.places) c.as_slice.ensures.value c.in_ok-places.ensures

pub invariant_of-result-clause-before : goal.invariant_of-result-clause-before
invariant_of-result-clause-before c =
    let calls = c.in_ok-found.found.list.items in
    let so_far = c.in_ok-found.ensures.found.before in
    elim c.match-asked_about.branch [
      | in-Some+in_ok-push w ↦ subst (λ (f : Found). AreMakersBefore f.list.items) (sym w.found-is) (before_more calls w.push.new.self.list.items w.in-Some.name None w.in_ok-push.ensures.list so_far)
      | in_default w ↦ subst (λ (f : Found). AreMakersBefore f.list.items) (sym w.found-is) so_far
    ]

pub returns : goal.returns
returns c P query rs t target are replay asked =
    let calls = c.in_ok-found.found.list.items in
    let taken = c.in_ok-found.ensures.calls P query rs t are replay in
    elim c.match-asked_about.branch [
      | in-Some+in_ok-push w ↦ subst (λ (f : Found). AreCallsOf rs t target f.list.items) (sym w.found-is)
          (one_asked P query rs t replay target calls taken w.in-Some.name (subst (IsAskedAbout t target) w.in-Some.is asked) w.push.new.self.list.items w.in_ok-push.ensures.list)
      | in_default w ↦ subst (λ (f : Found). AreCallsOf rs t target f.list.items) (sym w.found-is) (none_asked P query rs t replay target calls taken (subst (IsAskedAbout t target) w.in_default.is asked))
    ]
