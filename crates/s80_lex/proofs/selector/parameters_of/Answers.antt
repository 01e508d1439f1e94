use Rattle.std.proofs.Common.{sym, ◌∙◌}
use Rattle.s80_lex.specs.Spelling.{IsName, IsBinary}
use Rattle.s80_lex.proofs.lemmas.SelectorLemmas.{of_name, of_binary, of_keywords, name_is, is_name_when, binary_is, is_binary_when, not_true}
use Rattle.s80_lex.proofs.selector.parameters_of.Goals as goal

pub returns-then-is_name : goal.returns-then-is_name
returns-then-is_name c = λ n. of_name c.args.bytes.now (name_is c.args.bytes.now (sym c.is_name.ensures ∙ c.if-is_name.true)) n

pub returns-then-is_binary : goal.returns-then-is_binary
returns-then-is_binary c = λ n. of_binary c.args.bytes.now (binary_is c.args.bytes.now (sym c.is_binary.ensures ∙ c.if-is_binary.true)) n

pub returns-else-is_binary : goal.returns-else-is_binary
returns-else-is_binary c = λ n.
    let h = of_keywords c.args.bytes.now
    (not_true c.is_name.result (IsName c.args.bytes.now) c.if-is_name.false (λ p. c.is_name.ensures ∙ is_name_when c.args.bytes.now p))
    (not_true c.is_binary.result (IsBinary c.args.bytes.now) c.if-is_binary.false (λ p. c.is_binary.ensures ∙ is_binary_when c.args.bytes.now p))
    n in
    (λ e. h.0 (sym c.keywords.ensures ∙ e), λ s. c.keywords.ensures ∙ h.1 s)
