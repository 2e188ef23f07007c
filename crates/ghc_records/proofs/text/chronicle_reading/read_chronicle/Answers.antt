use Rattle.ghc_records.proofs.Words.{◌≡◌, ◌+◌, length, map, ap, inl, inr, subst, arith, rules, length-map, Fault, pieces_of, IsFirstWrongOf, AreInTurn, entry_limit, SaysEntry, entries_line, lines_to_end, lines_to_spies, said_by}
use Rattle.ghc_records.proofs.ChronicleTold.{chronicle_told, read_to_end, read_to_spies, wrong_end, wrong_entry, wrong_rest, wrong_spy}
use Rattle.ghc_records.proofs.text.chronicle_reading.read_chronicle.Goals as goal

pub returns-in-Err-entries_of : goal.returns-in-Err-entries_of
returns-in-Err-entries_of c =
    let counted = c.in-Ok.read.1.now in
    let number = ap (λ l. length l + 3) c.steps.ensures.steps in (
      tt,
      elim c.in-Err-entries_of.ensures.fault [
        | inl memory ↦ inl memory
        | inr wrong ↦ inr (wrong_entry c.args.text.now counted c.in-Ok.read.0 c.in-Ok.ensures.told c.in-Ok.ensures.rest c.in-Err-entries_of.fault
            (length c.steps.result.now + 3) wrong.0 number wrong.1
            (subst (λ n. IsFirstWrongOf SaysEntry (AreInTurn n) entries_line entry_limit (pieces_of counted) wrong.0) c.next.ensures wrong.2))
      ],
    )

pub returns-in-Err-spies_of : goal.returns-in-Err-spies_of
returns-in-Err-spies_of c =
    let o = c.in-Ok.read.0 in
    let e = c.in-Ok-entries_of in
    let es = map said_by e.read.0.items in
    let told = e.read.2.now in
    let entries = read_to_spies c.in-Ok.read.1.now told es c.in-Ok.ensures.told c.in-Ok.ensures.rest c.next.ensures e.ensures.told e.ensures.next e.ensures.rest in
    let line = length c.steps.result.now + 3 + c.len.result + 1 in
    let number : line ≡ lines_to_spies o es + 1 = omega (arith, ap length c.steps.ensures.steps, c.len.ensures, length-map e.read.0.items said_by) in (
      tt,
      elim c.in-Err-spies_of.ensures.fault [
        | inl memory ↦ inl memory
        | inr wrong ↦ inr (wrong_spy c.args.text.now told o es entries.tells entries.behind c.in-Err-spies_of.fault line wrong.0 number wrong.1 wrong.2)
      ],
    )

pub returns-in_default : goal.returns-in_default
returns-in_default c =
    let e = c.in-Ok-entries_of in
    let p = c.in-Ok-spies_of in
    let es = map said_by e.read.0.items in
    let entries = read_to_spies c.in-Ok.read.1.now e.read.2.now es c.in-Ok.ensures.told c.in-Ok.ensures.rest c.next.ensures e.ensures.told e.ensures.next e.ensures.rest in
    let spies = read_to_end p.read.1.now p.read.0.items entries p.ensures.told p.ensures.rest in
    let line = length c.steps.result.now + 3 + c.len.result + 1 + c.len-2.result + 1 in
    let here = lines_to_end c.in-Ok.read.0 es p.read.0.items + 1 in
    let number : line ≡ here = omega (arith, ap length c.steps.ensures.steps, c.len.ensures, c.len-2.ensures, length-map e.read.0.items said_by) in
    (tt, inr (here, ap Fault.History number, wrong_end entries spies c.in_default.ensures.none))

pub returns-then-not-is_empty : goal.returns-then-not-is_empty
returns-then-not-is_empty c =
    let e = c.in-Ok-entries_of in
    let p = c.in-Ok-spies_of in
    let es = map said_by e.read.0.items in
    let entries = read_to_spies c.in-Ok.read.1.now e.read.2.now es c.in-Ok.ensures.told c.in-Ok.ensures.rest c.next.ensures e.ensures.told e.ensures.next e.ensures.rest in
    let spies = read_to_end p.read.1.now p.read.0.items entries p.ensures.told p.ensures.rest in
    let line = length c.steps.result.now + 3 + c.len.result + 1 + c.len-2.result + 1 + 1 in
    let here = lines_to_end c.in-Ok.read.0 es p.read.0.items + 2 in
    let number : line ≡ here = omega (arith, ap length c.steps.ensures.steps, c.len.ensures, c.len-2.ensures, length-map e.read.0.items said_by) in
    (tt, inr (here, ap Fault.History number, wrong_rest entries spies c.in-Some.rest.now c.in-Some.ensures.some (search rules)))

pub returns : goal.returns
returns c =
    let e = c.in-Ok-entries_of in
    let p = c.in-Ok-spies_of in
    let es = map said_by e.read.0.items in
    let entries = read_to_spies c.in-Ok.read.1.now e.read.2.now es c.in-Ok.ensures.told c.in-Ok.ensures.rest c.next.ensures e.ensures.told e.ensures.next e.ensures.rest in
    let spies = read_to_end p.read.1.now p.read.0.items entries p.ensures.told p.ensures.rest in
    (rw c.new.ensures (chronicle_told entries spies c.in-Some.rest.now c.in-Some.ensures.some (search rules)), tt)
