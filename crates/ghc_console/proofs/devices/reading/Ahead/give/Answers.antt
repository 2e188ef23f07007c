use Rattle.ghc_console.proofs.Rows.{gives, gives_all}
use Rattle.ghc_console.proofs.devices.reading.Ahead.give.Goals as goal

pub returns-in-Some : goal.returns-in-Some
returns-in-Some c = gives c.self.inside.buf c.self.inside.start c.self.inside.end _ _ _ c.self.view_is c.in-Some.i
    c.in-Some.ensures.bound c.in-Some.ensures.found c.in-Some.ensures.plain c.add.ensures

pub returns-in-None : goal.returns-in-None
returns-in-None c = gives_all c.self.inside.buf c.self.inside.start c.self.inside.end _ _ _ c.self.view_is c.in-None.ensures.none c.add-in-None.ensures
