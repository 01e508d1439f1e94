use Rattle.std.proofs.Common.{◌∙◌, map, ap, sym, subst}
use Rattle.std.specs.Prelude.{option_map, unwrap_or, []}
use Rattle.s80_line.specs.Rows.{IsOutcome}
use Rattle.s80_line.proofs.Outcomes.{folder_there, command_there, read_is}
use Rattle.s80_line.proofs.words.read_parts.Goals as goal

pub unwrap-folder-requires : goal.unwrap-folder-requires
unwrap-folder-requires c =
    let words = map (λ s. s.now) c.args.words.now in
    folder_there words c.in-Some.matches (subst (IsOutcome words) c.in-Some.is c.in_ok-matches.ensures) (λ s. s.now) c.get_str.result c.get_str.ensures

pub unwrap-command-requires : goal.unwrap-command-requires
unwrap-command-requires c =
    let words = map (λ s. s.now) c.args.words.now in
    command_there words c.in-Some.matches (subst (IsOutcome words) c.in-Some.is c.in_ok-matches.ensures) (λ s. s.now) c.get_str-2.result c.get_str-2.ensures

pub returns : goal.returns
returns c =
    let words = map (λ s. s.now) c.args.words.now in
    read_is words c.in-Some.matches (subst (IsOutcome words) c.in-Some.is c.in_ok-matches.ensures)
    (map (λ s. s.now) c.in_ok-budgets.budgets.items) (map (λ s. s.now) c.in_ok-keeps.keeps.items) (map (λ s. s.now) c.in_ok-arguments.arguments.items)
    c.unwrap-folder.result.now c.unwrap-command.result.now
    (c.in_ok-budgets.ensures ∙ ap (λ o. unwrap_or o []) c.get_raw.ensures)
    (c.in_ok-keeps.ensures ∙ ap (λ o. unwrap_or o []) c.get_raw-2.ensures)
    (c.in_ok-arguments.ensures ∙ ap (λ o. unwrap_or o []) c.get_raw-3.ensures)
    (ap (option_map (λ s. s.now)) (sym c.unwrap-folder.ensures) ∙ c.get_str.ensures)
    (ap (option_map (λ s. s.now)) (sym c.unwrap-command.ensures) ∙ c.get_str-2.ensures)
