use Rattle.ghcdb.proofs.CitedWords.{ℕ, codes, subst, sym, ◌∙◌, ExplainsUnsignedError, HasUnsignedDigitsIfOk, ParsesUnsigned, first_value, found_of, IsGhcdb, SaysNumber}
use Rattle.clap.specs.declared.builder.value_parser.ValueParser.TheVariants as parser
use Rattle.ghcdb.proofs.CommandLine.{has_options}
use Rattle.ghcdb.proofs.NumberOfWorkers.{is_made, made_is, says, says_one}
use Rattle.ghcdb.proofs.command_line.by_number.Goals as goal
use Rattle.ghcdb.proofs.command_line.by_number.Goals.{in-Some, in-None}

pub options_in-options-requires : goal.options_in-options-requires
options_in-options-requires c = has_options _ _ _ c.in_ok-command.ensures c.in_ok-matches.ensures.parsed

pub unwrap-workers-requires : goal.unwrap-workers-requires
unwrap-workers-requires c =
    let said = says c.in_ok-command.command c.in_ok-matches.matches (subst (λ by. IsGhcdb by c.in_ok-command.command) c.unsigned.ensures c.in_ok-command.ensures) c.in_ok-matches.ensures.parsed _
    (λ bs r. ParsesUnsigned 32 10 bs r × ExplainsUnsignedError 10 bs r × HasUnsignedDigitsIfOk bs r) (λ u x g. g.0) c.get_one.result c.get_one.ensures.none c.get_one.ensures.value c.in-Some.count c.in-Some.is in
    is_made c.new.result c.in-Some.count c.new.ensures.none said.1 said.2

pub returns : goal.returns
returns c = let is : IsGhcdb (parser.Unsigned 1 64) c.in_ok-command.command = subst (λ by. IsGhcdb by c.in_ok-command.command) c.unsigned.ensures c.in_ok-command.ensures in record {
  command = c.in_ok-command.command;
  matches = c.in_ok-matches.matches;
  is_ghcdb = is;
  parsed = c.in_ok-matches.ensures.parsed;
  found = c.in_ok-matches.ensures.matches;
  options = c.options_in-options.ensures;
  workers = elim c.match-get_one.branch [
    | in-Some w ↦ subst (λ (n : ℕ). SaysNumber (first_value (found_of c.in_ok-matches.matches) (codes "workers")) n) (made_is _ _ _ w.unwrap-workers.ensures w.new.ensures.some ∙ sym w.workers-is)
        (says c.in_ok-command.command c.in_ok-matches.matches is c.in_ok-matches.ensures.parsed _
        (λ bs r. ParsesUnsigned 32 10 bs r × ExplainsUnsignedError 10 bs r × HasUnsignedDigitsIfOk bs r) (λ u x g. g.0) c.get_one.result c.get_one.ensures.none c.get_one.ensures.value w.in-Some.count w.in-Some.is).0
    | in-None w ↦ subst (λ (n : ℕ). SaysNumber (first_value (found_of c.in_ok-matches.matches) (codes "workers")) n) (sym w.one-workers.ensures ∙ sym w.workers-is)
        (says_one c.in_ok-command.command c.in_ok-matches.matches is c.in_ok-matches.ensures.parsed _
        (λ bs r. ParsesUnsigned 32 10 bs r × ExplainsUnsignedError 10 bs r × HasUnsignedDigitsIfOk bs r) (λ u x g. g.0) c.get_one.result c.get_one.ensures.value w.in-None.is)
  ];
}
