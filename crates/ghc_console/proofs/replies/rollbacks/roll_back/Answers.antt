use Rattle.ghc_console.proofs.CitedWords.{◌≡◌, ◌++◌, [], inl, inr, length, sym, ap, ◌∙◌, append-nil, arith, string_bytes, numbers}
use Rattle.ghc_term.specs.declared.fault.Fault.TheVariants as fault
use Rattle.ghc_core.specs.Gone.{all_gone}
use Rattle.ghc_console.specs.Keeping.{not_kept, rolls}
use Rattle.ghc_console.specs.TextLines.{undone_text}
use Rattle.ghc_console.proofs.Settling.{put}
use Rattle.ghc_console.proofs.replies.rollbacks.roll_back.Goals as goal

pub returns-in-Err-NotKept-clause-told : goal.returns-in-Err-NotKept-clause-told
returns-in-Err-NotKept-clause-told c = elim c.in-Err-NotKept.ensures.fault [
  | inl m ↦ let clash : fault.NotKept ≡ fault.Memory = sym c.in-Err-NotKept.field-0-is ∙ m.0 in cc
  | inr q ↦ ([], not_kept q.1, sym (append-nil (string_bytes c.args.reply.now)))
]

pub returns-clause-told : goal.returns-clause-told
returns-clause-told c =
    let gone = c.in-Ok.rollback in
    let room = c.in_ok-make_room.ensures.room in
    let len = c.in_ok-make_room.ensures.len in
    let same : length c.as_str-2.result.now ≡ length c.as_str.result.now = ap (λ l. length l) (c.as_str-2.ensures.value ∙ sym c.as_str.ensures.value) in
    let told = put c.push_str.result (string_bytes c.push_str.new.self) (string_bytes c.make_room.new.reply) c.as_str-2.result.now c.push_str.ensures.bytes (c.push_str.ensures.succeeds (omega (arith, room, len, same))) in (
      undone_text (numbers (all_gone gone)),
      rolls gone c.in-Ok.ensures.step c.in-Ok.ensures.found c.in_ok-make.ensures.changed,
      told ∙ ap (λ l. l ++ c.as_str-2.result.now) c.make_room.ensures.bytes ∙ ap (λ l. string_bytes c.args.reply.now ++ l) (c.as_str-2.ensures.value ∙ c.in_ok-gone.ensures),
    )
