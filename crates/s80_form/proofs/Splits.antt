-- Names that are joined by spaces, and split again.
use Rattle.std.proofs.Common.{◌≡◌, ℕ, List, [], ◌∷◌, ◌++◌, Bool, true, false, cond, not, refl, ap, ◌∙◌}
use Rattle.std.specs.Char.{is_ascii_alphanumeric}
use Rattle.std.specs.List.{list_all, filter, slice_split}
use Rattle.std.specs.List as slice
use Rattle.std.proofs.lemmas.Bool.{and_parts, false≢true}
use Rattle.std.proofs.lemmas.List.{append-nil}
use Rattle.std.proofs.lemmas.List.Elements.{All-head, All-tail}
use Rattle.s80_base.specs.Byte.{is_separator}
use Rattle.s80_lex.specs.Selector.{is_name as is_identifier}
use Rattle.s80_form.specs.Name.{IsName, AreNames}
use Rattle.s80_form.proofs.lemmas.Identifiers.{identifier_of, identifier_passes, no_separator}
use Rattle.s80_form.specs.Definition.{pieces, onto_first, is_empty, split_names, joined}

-- the first piece ends at the first space
pieces_byte : (b : ℕ) (bytes : List ℕ) → is_ascii_alphanumeric b ≡ true → pieces (b ∷ bytes) ≡ onto_first b (pieces bytes)
pieces_byte b bytes e = ap (λ t. cond t ([] ∷ pieces bytes) (onto_first b (pieces bytes))) (no_separator b e)

pieces_word : (w rest : List ℕ) → list_all is_ascii_alphanumeric w ≡ true → pieces (w ++ 32 ∷ rest) ≡ w ∷ pieces rest
pieces_word [] rest e = refl
pieces_word (b ∷ w) rest e =
    let parts = and_parts (is_ascii_alphanumeric b) (list_all is_ascii_alphanumeric w) e in
    pieces_byte b (w ++ 32 ∷ rest) parts.0 ∙ ap (onto_first b) (pieces_word w rest parts.1)

pieces_last : (w : List ℕ) → list_all is_ascii_alphanumeric w ≡ true → pieces w ≡ w ∷ []
pieces_last [] e = refl
pieces_last (b ∷ w) e =
    let parts = and_parts (is_ascii_alphanumeric b) (list_all is_ascii_alphanumeric w) e in
    pieces_byte b w parts.0 ∙ ap (onto_first b) (pieces_last w parts.1)

some_kept : (w : List ℕ) (more : List (List ℕ)) → is_identifier w ≡ true → filter (λ piece. not (is_empty piece)) (w ∷ more) ≡ w ∷ filter (λ piece. not (is_empty piece)) more
some_kept [] more e = absurd (false≢true e)
some_kept (b ∷ w) more e = refl

split_word : (w rest : List ℕ) → is_identifier w ≡ true → split_names (w ++ 32 ∷ rest) ≡ w ∷ split_names rest
split_word w rest e =
    ap (filter (λ piece. not (is_empty piece))) (pieces_word w rest (identifier_passes w e)) ∙ some_kept w (pieces rest) e

split_last : (w : List ℕ) → is_identifier w ≡ true → split_names w ≡ w ∷ []
split_last w e = ap (filter (λ piece. not (is_empty piece))) (pieces_last w (identifier_passes w e)) ∙ some_kept w [] e

-- names that are joined are split again
pub joined_split : (names : List (List ℕ)) → AreNames names → split_names (joined names) ≡ names
joined_split [] h = refl
joined_split (n ∷ []) h = ap split_names (append-nil n) ∙ split_last n (identifier_of n (All-head IsName n [] h))
joined_split (n ∷ m ∷ more) h =
    split_word n (joined (m ∷ more)) (identifier_of n (All-head IsName n (m ∷ more) h))
    ∙ ap (λ names. n ∷ names) (joined_split (m ∷ more) (All-tail IsName n (m ∷ more) h))

-- the pieces of a string, in the words of std
onto_same : (b : ℕ) (parts : List (List ℕ)) → slice.onto_first b parts ≡ onto_first b parts
onto_same b [] = refl
onto_same b (p ∷ parts) = refl

either_same : (t : Bool) (b : ℕ) (ps qs : List (List ℕ)) → ps ≡ qs → cond t ([] ∷ ps) (slice.onto_first b ps) ≡ cond t ([] ∷ qs) (onto_first b qs)
either_same true b ps qs e = ap (λ l. [] ∷ l) e
either_same false b ps qs e = ap (slice.onto_first b) e ∙ onto_same b qs

pub pieces_are : (text : List ℕ) → slice_split is_separator text ≡ pieces text
pieces_are [] = refl
pieces_are (b ∷ text) = either_same (is_separator b) b (slice_split is_separator text) (pieces text) (pieces_are text)
