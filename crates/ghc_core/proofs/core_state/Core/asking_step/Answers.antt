use Rattle.ghc_core.proofs.Words.{◌≡◌, None, sym, ap, ◌∙◌, subst, own_variables, made_from, effect_of_asking, Asked as asked, Record, AreKnownIn, CanBeAsked, Core, World, IsKnown}
use Rattle.ghc_core.proofs.AskedAgain.{asking_next, asking_each, asking_known}
use Rattle.ghc_core.proofs.core_state.Core.asking_step.Goals as goal

pub returns-then-not-can_all_be_asked_for-clause-none : goal.returns-then-not-can_all_be_asked_for-clause-none
returns-then-not-can_all_be_asked_for-clause-none c r is next =
    let each = asking_each c.args.self.now.world c.args.asked.now r is next in
    let yes = c.can_all_be_asked_for.ensures.1 (rw (c.deref.ensures, c.goals.ensures.goals) (subst (λ (x : Core). CanBeAsked x.world.opening.program c.args.asked.now) (sym c.self.view_is) each)) in
    cc

pub returns-then-not-names_known-clause-none : goal.returns-then-not-names_known-clause-none
returns-then-not-names_known-clause-none c r is next =
    let w : World = c.args.self.now.world in
    let q = c.in_ok-record.record in
    let known : IsKnown w q = asking_known w c.args.asked.now r is next q (ap (λ (z : Record). z.number) c.in_ok-record.ensures ∙ ap (λ (x : Core). x.world.next) c.self.view_is) (ap (λ (z : Record). z.act) c.in_ok-record.ensures) in
    let yes = c.names_known.ensures.1 (subst (λ (x : Core). AreKnownIn x.world.opening.query x.world.kept q) (sym c.self.view_is) known) in
    cc

pub returns-clause-next : goal.returns-clause-next
returns-clause-next c =
    let w : World = c.args.self.now.world in
    let gs = c.args.asked.now in
    let q = c.in_ok-record.record in
    let fresh = c.in-Some.fresh in
    let all = subst (λ (x : Core). CanBeAsked x.world.opening.program gs) c.self.view_is (rw (c.deref.ensures, c.goals.ensures.goals) at (c.can_all_be_asked_for.ensures.0 c.if-not-can_all_be_asked_for.false)) in
    let own = subst (λ (x : Core). own_variables x.world.next gs ≡ made_from x.world.next 1 fresh) c.self.view_is c.in-Some.ensures.some in
    let known : IsKnown w q = subst (λ (x : Core). AreKnownIn x.world.opening.query x.world.kept q) c.self.view_is (c.names_known.ensures.0 c.if-not-names_known.false) in
    let next = ap (λ (x : Core). x.world.next) c.self.view_is in
    asking_next w gs fresh c.in_ok-of.field-0 c.goals.ensures.few all own c.requires.room (subst (IsKnown w) (sym c.in_ok-of.ensures) known)
    (c.in_ok-of.ensures ∙ c.in_ok-record.ensures ∙ (λ i. record { number = next i; goal = None; consumed = None; act = asked gs; effect = effect_of_asking gs fresh }))
