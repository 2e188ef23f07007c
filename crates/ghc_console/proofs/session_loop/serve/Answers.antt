use Rattle.ghc_console.proofs.CitedWords.{◌≡◌, ap, err_from_is_err_and, false, refl, string_bytes, subst, sym, IsReply, SessionState, Asks as asks, Lists as lists, state_of}
use Rattle.ghc_console.proofs.RunCommands.{listing_replied}
use Rattle.ghc_console.proofs.Served.{asks_listing, asks_run, breaks, not_run, serves}
use Rattle.ghc_console.proofs.session_loop.serve.Goals as goal

pub returns-in_err-flush-in-Ok-Asks-clause-served : goal.returns-in_err-flush-in-Ok-Asks-clause-served
returns-in_err-flush-in-Ok-Asks-clause-served g c bytes says =
    let answer = c.answer in
    let is : c.in-Ok-Asks.field-0 ≡ asks c.in-Ok-Asks.root c.in-Ok-Asks.limit = c.in-Ok-Asks.field-0-is in
    let asked = asks_run (state_of c.args.debugger.now) (state_of answer.new.debugger) bytes (string_bytes answer.new.reply) answer.result _ c.in-Ok-Asks.root c.in-Ok-Asks.limit c.in-Ok-Asks.is is (answer.ensures.reply bytes says) in
    rw (err_from_is_err_and c.from_residual-in_err-flush-in-Ok-Asks.result c.from_residual-in_err-flush-in-Ok-Asks.ensures.1).1 (not_run _ (state_of c.args.debugger.now) (state_of answer.new.debugger) bytes _ _ asked.0 c.in_err-flush-in-Ok-Asks.ensures.written)

pub returns-in_ok-write_listing-in-Ok-Lists-clause-served : goal.returns-in_ok-write_listing-in-Ok-Lists-clause-served
returns-in_ok-write_listing-in-Ok-Lists-clause-served g c bytes says =
    let answer = c.answer in
    let s = state_of c.args.debugger.now in
    let t = state_of answer.new.debugger in
    let u : SessionState = record t { world = c.write_listing.new.core.world } in
    let listed = c.in-Ok-Lists.listing in
    let is : c.in-Ok-Lists.field-0 ≡ lists listed = c.in-Ok-Lists.field-0-is in
    let asked = asks_listing s t bytes (string_bytes answer.new.reply) answer.result _ listed c.in-Ok-Lists.is is (answer.ensures.reply bytes says) in
    let told = c.in_ok-write_listing-in-Ok-Lists.ensures.told in
    let same : u ≡ t = ap (λ w. record t { world = w }) c.in_ok-write_listing-in-Ok-Lists.ensures.world in
    serves s u bytes told.0 told.0 false _ _ (subst (λ v. IsReply s bytes told.0 v false) (sym same) (listing_replied s t bytes listed told.0 asked.0 asked.1 asked.2 told.1)) refl told.2

pub returns-in_err-write_listing-in-Ok-Lists-clause-served : goal.returns-in_err-write_listing-in-Ok-Lists-clause-served
returns-in_err-write_listing-in-Ok-Lists-clause-served g c bytes says =
    let answer = c.answer in
    let s = state_of c.args.debugger.now in
    let t = state_of answer.new.debugger in
    let u : SessionState = record t { world = c.write_listing.new.core.world } in
    let listed = c.in-Ok-Lists.listing in
    let is : c.in-Ok-Lists.field-0 ≡ lists listed = c.in-Ok-Lists.field-0-is in
    let asked = asks_listing s t bytes (string_bytes answer.new.reply) answer.result _ listed c.in-Ok-Lists.is is (answer.ensures.reply bytes says) in
    let told = c.in_err-write_listing-in-Ok-Lists.ensures.told in
    let same : u ≡ t = ap (λ w. record t { world = w }) c.in_err-write_listing-in-Ok-Lists.ensures.world in
    rw (err_from_is_err_and c.from_residual-in_err-write_listing-in-Ok-Lists.result c.from_residual-in_err-write_listing-in-Ok-Lists.ensures.1).1 (breaks _ s u bytes told.0 told.0 false _ _ (subst (λ v. IsReply s bytes told.0 v false) (sym same) (listing_replied s t bytes listed told.0 asked.0 asked.1 asked.2 told.1)) refl told.2)
