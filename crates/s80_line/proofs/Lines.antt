-- From what was read to the line.
use Rattle.std.proofs.Common.{◌≡◌, ◌∙◌, ℕ, refl, sym, ap, List, [], ◌∷◌, Option, Some, None}
use Rattle.std.specs.Prelude.{All, IsUtf8, option_and_then}
use Rattle.s80_line.specs.Line.{Word, Read, LineParts, IsLine, before, budget_of, keep_of, line_of, line_of_read, nothing_read, read_from, with_numbers}
use Rattle.s80_line.specs.Rows.{whole, whole_read}

-- a line, by the numbers of its options and by its plain words
pub with_both : (budgets keeps plains : List Word) (b k : ℕ) → Some b ≡ budget_of budgets → Some k ≡ keep_of keeps
    → with_numbers plains b k ≡ line_of_read (record { budgets = budgets; keeps = keeps; plains = plains })
with_both budgets keeps plains b k budget_is keep_is =
    ap (option_and_then (λ k. with_numbers plains b k)) keep_is ∙ ap (option_and_then (λ b. option_and_then (λ k. with_numbers plains b k) (keep_of keeps))) budget_is

pub with_folder : (folder command : Word) (arguments : List Word) (b k : ℕ) → (folder ≡ [] → ⊥)
    → Some (let parts : LineParts = record { folder = folder; command = command; arguments = arguments; budget = b; keep = k } in parts)
    ≡ with_numbers (folder ∷ command ∷ arguments) b k
with_folder [] command arguments b k some = absurd (some refl)
with_folder (x ∷ xs) command arguments b k some = refl

-- where a folder or the command is wanting, there is no line
nothing : (b k : Option ℕ) → option_and_then (λ b. option_and_then (λ (k : ℕ). let none : Option LineParts = None in none) k) b ≡ None
nothing None k = refl
nothing (Some b) None = refl
nothing (Some b) (Some k) = refl

whole_line : (ps : List Word) (r : Read) → ps ≡ r.plains → line_of_read r ≡ option_and_then line_of_read (whole ps r)
whole_line [] r e = rw (← e) (nothing (budget_of r.budgets) (keep_of r.keeps))
whole_line (x ∷ []) r e = rw (← e) (nothing (budget_of r.budgets) (keep_of r.keeps))
whole_line (x ∷ y ∷ ys) r e = refl

some_line : (o : Option Read) → option_and_then line_of_read o ≡ option_and_then line_of_read (option_and_then (λ r. whole r.plains r) o)
some_line None = refl
some_line (Some r) = whole_line r.plains r refl

line_is : (words : List Word) → line_of words ≡ option_and_then line_of_read (whole_read words)
unfolding read_from
line_is [] = refl
line_is (program ∷ words) = some_line (read_from before nothing_read words)

pub no_line : (words : List Word) → None ≡ whole_read words → IsLine words None
no_line words e = λ texts. line_is words ∙ ap (option_and_then line_of_read) (sym e)

pub a_line : (words : List Word) (read : Read) (o : Option LineParts) → All IsUtf8 words → Some read ≡ whole_read words → o ≡ line_of_read read → IsLine words o
a_line words read None texts e is = λ utf8. line_is words ∙ ap (option_and_then line_of_read) (sym e) ∙ sym is
a_line words read (Some parts) texts e is = (texts, line_is words ∙ ap (option_and_then line_of_read) (sym e) ∙ sym is)
