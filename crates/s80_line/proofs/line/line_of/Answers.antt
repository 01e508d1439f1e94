use Rattle.std.proofs.Common.{◌≡◌, ◌∙◌, Some, [], ◌∷◌, ap, map, rules, sym}
use Rattle.s80_line.specs.Line.{budget_of, keep_of}
use Rattle.s80_line.proofs.Lines.{with_both, with_folder}
use Rattle.s80_line.proofs.line.line_of.Goals as goal

pub returns-clause-read : goal.returns-clause-read
returns-clause-read c =
    let parts = c.args.parts.now in
    let budgets = map (λ s. s.now) parts.budgets.items in
    let keeps = map (λ s. s.now) parts.keeps.items in
    let arguments = map (λ s. s.now) parts.arguments.items in
    let named : parts.folder.now ≡ [] → ⊥ = search rules in
    let budget = sym c.in-Some.is ∙ c.number_or.ensures.meant ∙ ap (λ values. budget_of (map (λ s. s.now) values)) c.as_slice-budgets.ensures.value in
    let keep = sym c.in-Some-number_or.is ∙ c.number_or-2.ensures.meant ∙ ap (λ values. keep_of (map (λ s. s.now) values)) c.as_slice-keeps.ensures.value in
    ap (λ line. Some line) c.in_ok-line.ensures ∙ with_folder parts.folder.now parts.command.now arguments _ _ named
    ∙ with_both budgets keeps (parts.folder.now ∷ parts.command.now ∷ arguments) _ _ budget keep
