use Rattle.ghc_console.proofs.CitedWords.{sym, ◌∙◌, arith, string_bytes, refusal}
use Rattle.ghc_term.specs.declared.fault.Fault.TheVariants as fault
use Rattle.ghc_console.proofs.Settling.{put, where_refused}
use Rattle.ghc_console.proofs.Keeping.{where_ok, told_some}
use Rattle.ghc_console.proofs.replies.rollbacks.take_back.Goals as goal

pub returns-then-is_ok-clause-told : goal.returns-then-is_ok-clause-told
returns-then-is_ok-clause-told c = where_ok c.roll_and_tell.result (sym c.is_ok.ensures.value ∙ c.if-is_ok.true) c.roll_and_tell.ensures.all

pub returns-clause-told : goal.returns-clause-told
returns-clause-told c =
    let r = c.roll_and_tell.result in
    let refused = sym c.is_ok.ensures.value ∙ c.if-is_ok.false in
    let room = where_refused r refused c.roll_and_tell.ensures.room in
    told_some c.args.core.now.world c.roll_and_tell.new.core.world c.args.ns.now (string_bytes c.roll_and_tell.new.reply) (string_bytes c.push_str.new.self) (where_refused r refused c.roll_and_tell.ensures.some)
    (put c.push_str.result (string_bytes c.push_str.new.self) (string_bytes c.roll_and_tell.new.reply) (refusal fault.Memory) c.push_str.ensures.bytes (c.push_str.ensures.succeeds (omega (arith, room))))
