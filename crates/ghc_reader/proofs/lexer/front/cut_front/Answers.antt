use Rattle.ghc_reader.proofs.lexer.front.cut_front.Goals as goal

pub returns-then-is_blank : goal.returns-then-is_blank
returns-then-is_blank c = c.blank.ensures c.args.signs

pub returns-then-first-eq37 : goal.returns-then-first-eq37
returns-then-first-eq37 c = c.comment.ensures c.args.signs

pub returns-then-is_ascii_lowercase : goal.returns-then-is_ascii_lowercase
returns-then-is_ascii_lowercase c = c.name.ensures c.args.signs

pub returns-then-begins_variable : goal.returns-then-begins_variable
returns-then-begins_variable c = c.variable.ensures c.args.signs

pub returns-then-is_ascii_digit : goal.returns-then-is_ascii_digit
returns-then-is_ascii_digit c = c.integer.ensures c.args.signs
