use Rattle.std.proofs.Common.{refl}
use Rattle.ghc_term.proofs.Reaching.{stay_known}
use Rattle.ghc_term.proofs.store.Store.put_and_know.Goals as goal

pub know-requires : goal.know-requires
know-requires c =
    stay_known c.self.inside.map.held c.put_into.new.map.held c.args.binds c.entries.result.now c.args.x c.self.inside.known c.replace-known.result
    c.self.invariant.1 c.replace-known.ensures.value c.entries.ensures.all (c.if-is_first.ensures refl) c.put_into.ensures
