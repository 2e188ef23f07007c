use Rattle.std.proofs.Common.{ap, refl, ◌∙◌}
use Rattle.ghcdb.proofs.command_line.command.Goals as goal

pub returns : goal.returns
returns c = record {
  start = c.after_help.result;
  file = c.file_argument.result;
  query = c.query_argument.result;
  load = c.load_argument.result;
  schedule = c.schedule_argument.result;
  workers = c.workers_argument.result;
  empty = record {
    arguments = ap (λ f. f.args.items) c.after_help.ensures ∙ (ap (λ f. f.args.items) c.version.ensures ∙ ap (λ f. f.args.items) c.about.ensures ∙ c.new.ensures.empty.0);
    groups = ap (λ f. f.groups.items) c.after_help.ensures ∙ (ap (λ f. f.groups.items) c.version.ensures ∙ ap (λ f. f.groups.items) c.about.ensures ∙ c.new.ensures.empty.1);
    local = ap (λ f. f.has_globals) c.after_help.ensures ∙ (ap (λ f. f.has_globals) c.version.ensures ∙ ap (λ f. f.has_globals) c.about.ensures ∙ c.new.ensures.local);
    negates = ap (λ f. f.subcommand_negates_reqs) c.after_help.ensures ∙ (ap (λ f. f.subcommand_negates_reqs) c.version.ensures ∙ ap (λ f. f.subcommand_negates_reqs) c.about.ensures ∙ c.new.ensures.negates);
  };
  file_is = c.file_argument.ensures;
  query_is = c.query_argument.ensures;
  load_is = c.load_argument.ensures;
  schedule_is = c.schedule_argument.ensures;
  workers_is = c.workers_argument.ensures;
  chain = (c.in_ok-arg.field-0, c.in_ok-arg.ensures, (c.in_ok-arg-2.field-0, c.in_ok-arg-2.ensures, (c.in_ok-arg-3.field-0, c.in_ok-arg-3.ensures, (c.in_ok-arg-4.field-0, c.in_ok-arg-4.ensures, (c.in_ok-command.command, c.in_ok-command.ensures, refl)))));
}
