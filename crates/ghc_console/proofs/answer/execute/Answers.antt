use Rattle.ghc_console.proofs.CitedWords.{None, refl, sym, subst, AsksForListing, AsksForRun, goals_asks, leap_asks, records_asks, save_asks, save_steps_asks, shelf_asks}
use Rattle.ghc_console.specs.declared.answered.Listing.TheVariants as listing
use Rattle.ghc_console.proofs.answer.execute.Goals as goal

pub returns-in-Leap-clause-answered : goal.returns-in-Leap-clause-answered
returns-in-Leap-clause-answered c = (refl, subst (λ k. AsksForRun c.args.debugger.now.core.world k None c.in-Leap.limit) (sym c.in-Leap.is) (leap_asks c.in-Leap.limit))

pub returns-in-Records-clause-answered : goal.returns-in-Records-clause-answered
returns-in-Records-clause-answered c = (refl, subst (λ k. AsksForListing k listing.Records) (sym c.in-Records.is) records_asks)

pub returns-in-Save-clause-answered : goal.returns-in-Save-clause-answered
returns-in-Save-clause-answered c = (refl, subst (λ k. AsksForListing k listing.Session) (sym c.in-Save.is) save_asks)

pub returns-in-Goals-clause-answered : goal.returns-in-Goals-clause-answered
returns-in-Goals-clause-answered c = (refl, subst (λ k. AsksForListing k listing.Goals) (sym c.in-Goals.is) goals_asks)

pub returns-in-Shelf-clause-answered : goal.returns-in-Shelf-clause-answered
returns-in-Shelf-clause-answered c = (refl, subst (λ k. AsksForListing k listing.Shelf) (sym c.in-Shelf.is) shelf_asks)

pub returns-in-SaveSteps-clause-answered : goal.returns-in-SaveSteps-clause-answered
returns-in-SaveSteps-clause-answered c = (refl, subst (λ k. AsksForListing k listing.KeptSteps) (sym c.in-SaveSteps.is) save_steps_asks)
