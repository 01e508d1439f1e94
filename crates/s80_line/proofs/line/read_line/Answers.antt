use Rattle.std.proofs.Common.{◌≡◌, ◌∙◌, All, IsUtf8, ap, map, subst, sym, IfSome}
use Rattle.std.specs.Prelude.{option_map}
use Rattle.std.proofs.lemmas.Result.{IfOk-weaker}
use Rattle.s80_line.specs.Rows.{whole_read}
use Rattle.s80_line.specs.Shown.{parts_shown, shown}
use Rattle.s80_line.proofs.Lines.{a_line}
use Rattle.s80_line.proofs.line.read_line.Goals as goal

pub read_parts-requires : goal.read_parts-requires
read_parts-requires c =
    let texts = subst (λ o. IfSome o (λ texts. All IsUtf8 c.args.words.now × (map (λ s. s.now) texts.items ≡ c.args.words.now))) c.in-Some.is c.in_ok-words.ensures.texts in
    let words = ap (map (λ s. s.now)) c.as_slice.ensures.value ∙ texts.1 in
    subst (All IsUtf8) (sym words) texts.0

pub returns-clause-read : goal.returns-clause-read
returns-clause-read c =
    let texts = subst (λ o. IfSome o (λ texts. All IsUtf8 c.args.words.now × (map (λ s. s.now) texts.items ≡ c.args.words.now))) c.in-Some.is c.in_ok-words.ensures.texts in
    let words = ap (map (λ s. s.now)) c.as_slice.ensures.value ∙ texts.1 in
    let read = ap (option_map parts_shown) (sym c.in-Some-2.is) ∙ c.in_ok-parts.ensures ∙ ap whole_read words in
    IfOk-weaker c.line_of.result _ _ (λ line is. a_line c.args.words.now (parts_shown c.in-Some-2.parts) (option_map shown line) texts.0 read is) c.line_of.ensures.read
