use Rattle.ghc_term.proofs.Words.{◌≡◌, ◌≤◌, false, true, length, refl, sym, ap, ◌∙◌, subst, arith, trees, is_cell, IsNameText}
use Rattle.ghc_term.proofs.Heads.{head_parts, head_whole, plain_last, plain_own_bytes, plain_own_nesting}
use Rattle.ghc_term.proofs.measure.enter.Goals as goal

pub returns-then-arguments-gt255 : goal.returns-then-arguments-gt255
returns-then-arguments-gt255 c =
    let e : is_cell c.args.name.now (trees c.args.arguments.now) ≡ false = sym c.is_list_cell.ensures ∙ c.if-is_list_cell.false in
    λ h. absurd (omega (arith, (head_parts c.args.name.now c.args.arguments.now c.requires e h.grammar).1, c.if-arguments-gt255.true))

pub returns-then-not-is_name : goal.returns-then-not-is_name
returns-then-not-is_name c =
    let e : is_cell c.args.name.now (trees c.args.arguments.now) ≡ false = sym c.is_list_cell.ensures ∙ c.if-is_list_cell.false in
    λ h.
    let name = subst IsNameText (sym c.as_str-text.ensures.bytes) (head_parts c.args.name.now c.args.arguments.now c.requires e h.grammar).0 in
    let clash : false ≡ true = c.if-not-is_name.ensures.1 name in
    cc

pub returns : goal.returns
returns c =
    let e : is_cell c.args.name.now (trees c.args.arguments.now) ≡ false = sym c.is_list_cell.ensures ∙ c.if-is_list_cell.false in
    let few : length c.args.arguments.now ≤ 255 = omega (arith, c.if-arguments-gt255.false) in
    record {
      head = head_whole c.args.name.now c.args.arguments.now (subst IsNameText c.as_str-text.ensures.bytes (c.if-not-is_name.ensures.0 refl)) few;
      last = plain_last c.args.place c.args.name.now c.args.arguments.now e;
      size = c.in_ok-room.ensures.0;
      text = omega (arith, plain_own_bytes c.args.place c.args.name.now c.args.arguments.now e, c.in_ok-room.ensures.1, c.marks.ensures, ap length c.as_str-text.ensures.bytes);
      nested = omega (arith, plain_own_nesting c.args.place c.args.name.now c.args.arguments.now e, c.in_ok-checked_sub-2.ensures);
    }
