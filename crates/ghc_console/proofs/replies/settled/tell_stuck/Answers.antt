use Rattle.ghc_console.proofs.CitedWords.{◌++◌, sym, ap, subst, ◌∙◌, string_bytes, arith, Settled, unsettled, refusal}
use Rattle.ghc_term.specs.declared.fault.Fault.TheVariants as fault
use Rattle.ghc_console.proofs.Settling.{put, where_refused}
use Rattle.ghc_console.proofs.replies.settled.tell_stuck.Goals as goal

pub returns-clause-told : goal.returns-clause-told
returns-clause-told c w change notes j =
    let r = c.push_stuck.result in
    let refused = sym c.is_ok.ensures.value ∙ c.if-is_ok.false in
    let len = where_refused r refused c.push_stuck.ensures.len in
    let more = c.push_stuck.ensures.capacity in
    let room = c.requires.room in
    let told = put c.push_str.result (string_bytes c.push_str.new.self) (string_bytes c.push_stuck.new.reply) (refusal fault.Memory) c.push_str.ensures.bytes (c.push_str.ensures.succeeds (omega (arith, len, more, room))) in
    subst (Settled w c.push_stuck.new.core.world (string_bytes c.args.reply.now)) (sym (told ∙ ap (λ l. l ++ refusal fault.Memory) (where_refused r refused c.push_stuck.ensures.err))) unsettled
