-- What is saved anywhere in a session that was opened opens as that session.
use Rattle.ghcdb.proofs.CitedWords.{ℕ, List, length, sym, ap, ◌∙◌, subst, arith, In, spies_in_order, chronicle_of_world, CarriedOutIsLegal, LegalIsReachable, EventsLeadWhereChangesLead, WhatIsToldIsCarriedOut, ListedSpiesComeBack, WrittenChroniclesAreReadAgain, TextsTellOneChronicle, SessionState, Started, IsStarted}
use Rattle.ghc_records.specs.Chronicle.{AreInTurn, next_behind}
use Rattle.ghc_records.specs.ChronicleLaws.{CanBeTold}
use Rattle.ghc_records.specs.Journal.{Entry, opening_journal}
use Rattle.ghc_term.proofs.ListsLemmas.{in_right}
use Rattle.ghcdb.specs.Sessions.{IsStateOf}
use Rattle.ghcdb.specs.Tellable.{EachSaveOpensAgain, HasFewEntries, IsTellable, SessionsStayTellable}
use Rattle.ghcdb.proofs.LinesTold.{IsToldState, lines_tell}
use Rattle.ghcdb.proofs.OpenedTold.{opened_tellable}
use Rattle.ghcdb.proofs.SavedAgain.{opens_again}
use Rattle.ghcdb.proofs.SessionsOpened.{what_opens}
use Rattle.ghcdb.proofs.SessionsStay.{stay}
use Rattle.ghcdb.proofs.StartedShort.{started_short}
use Rattle.ghcdb.proofs.SpiesTold.{can_be_spied, few_listed}
use Rattle.ghcdb.proofs.Turns.{behind_opening, numbered, turns}

-- A state of a session on what was started, of which world and spies can be told.
told_state : (p q : List ℕ) (s : Started) (t : SessionState) → IsStarted p q s → IsStateOf s t → IsTellable t → IsToldState t
told_state p q s t started session can = record {
  world = record { reached = session.standing; short = started_short p q s t.world.opening started session.program session.query session.names; tells = record { steps = can.steps; entries = can.entries } };
  named = can.names;
}

-- A text can tell its chronicle.
chronicle_told : (s : Started) (t : SessionState) → ListedSpiesComeBack → IsStateOf s t → IsToldState t → HasFewEntries t.world → CanBeTold (chronicle_of_world t.world (spies_in_order t.spies))
chronicle_told s t come_back session told few =
    let w = t.world in
    let o = numbered told.world.reached in
    let behind = turns told.world.reached in
    let cut = behind_opening w behind in
    let same = come_back t.spies in
    record {
      few_steps = o.few;
      steps = told.world.tells.steps;
      below = o.below;
      first = o.first;
      few_entries = few;
      entries = λ e i. told.world.tells.entries e (subst (λ (l : List Entry). In e l) (sym behind.journal) (in_right (opening_journal w.opening) behind.entries e (subst (λ (l : List Entry). In e l) cut i)));
      in_turn = subst (λ (l : List Entry). AreInTurn w.opening.next l) (sym cut) behind.in_turn;
      few_spies = omega (arith, few_listed s.program t.spies same session.spied, told.world.short.clauses, ap length session.program);
      spies = can_be_spied s.program t.spies same told.named;
      next = sym (ap (λ (l : List Entry). next_behind w.opening.next l) cut ∙ behind.next);
    }

pub stay_tellable : ListedSpiesComeBack → CarriedOutIsLegal → LegalIsReachable → SessionsStayTellable
stay_tellable come_back legal reachable = record {
  opened = λ p q s given t started opens.
      let can = opened_tellable legal reachable p q s started given t.world t.spies opens in
      record { steps = can.0.steps; entries = can.0.entries; names = can.1 };
  lines = λ p q s count before after lines out started session can run.
      let left = lines_tell count before after lines out (told_state p q s before started session can) run in
      record { steps = left.world.tells.steps; entries = left.world.tells.entries; names = left.named };
  told = λ p q s t started session can few. chronicle_told s t come_back session (told_state p q s t started session can) few;
}

pub each_save : WrittenChroniclesAreReadAgain → TextsTellOneChronicle → WhatIsToldIsCarriedOut → EventsLeadWhereChangesLead → ListedSpiesComeBack → CarriedOutIsLegal → LegalIsReachable → EachSaveOpensAgain
each_save reads one carried led come_back legal reachable p q s given first last count lines out started opens run few =
    let tell = stay_tellable come_back legal reachable in
    let begun : IsStateOf s first = what_opens legal reachable led p q s given first.world first.spies started opens in
    let session : IsStateOf s last = stay.whole s count first last lines out begun run in
    let can = tell.lines p q s count first last lines out started begun (tell.opened p q s given first started opens) run in
    opens_again reads one carried led come_back s last.world last.spies session (tell.told p q s last started session can few)
