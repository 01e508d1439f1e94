-- The command as clap sees it.
use Rattle.std.specs.Prelude.{true, Some, codes}
use Rattle.clap.specs.Words.{App, Rule, new_app, new_rule, with_rule}
use Rattle.clap.specs.Simple.{on_top}
use Rattle.clap.specs.declared.builder.ArgAction.TheVariants.{Set, Append}
use Rattle.s80_line.specs.Line.{Word}

abbrev pub option_rule : Word → Rule
option_rule name = record (new_rule name) { long = Some name; action = Some Append }

abbrev pub required_rule : Word → Rule
required_rule name = record (new_rule name) { required = true; action = Some Set }

abbrev pub rest_rule : Word → Rule
rest_rule name = record (new_rule name) { action = Some Append }

abbrev pub bare_app : App
bare_app = on_top (λ s. record s { disable_help_flag = true }) (new_app (codes "st80"))

abbrev pub the_app : App
the_app = with_rule (with_rule (with_rule (with_rule (with_rule bare_app (option_rule (codes "budget"))) (option_rule (codes "keep"))) (required_rule (codes "folder"))) (required_rule (codes "command"))) (rest_rule (codes "arguments"))
