-- Each kind of token is the longest at its place, before what a printed text has behind it.
use Rattle.std.proofs.Common.{◌≡◌, ℕ, List, [], ◌∷◌, ◌++◌, Bool, true, false, ◌==◌, codes, take, length, refl, sym, subst, arith, rules, tests}
use Rattle.std.specs.List.{list_any}
use Rattle.std.proofs.lemmas.List.{take_at, drop_at}
use Rattle.s80_lex.specs.declared.token.TokenKind.{TokenKind}
use Rattle.s80_lex.specs.declared.token.TokenKind.TheVariants as kind
use Rattle.s80_lex.specs.Class.{class_of}
use Rattle.s80_lex.specs.Front.{first_class, Takes}
use Rattle.s80_lex.specs.Spelling.{IsBinary, NotNext}
use Rattle.s80_lex.specs.Text.{IsLongest}
use Rattle.s80_lex.proofs.lemmas.Selectors.{binary_one, binary_two}
use Rattle.s80_lex.proofs.lemmas.Signs.{colon_takes, array_takes}
use Rattle.s80_lex.proofs.lemmas.Taken.{binary_takes, character_takes, underscore_takes}
use Rattle.s80_form.proofs.Longest.{Ends, Stops}

-- what was taken, as a word and what follows it
from_front : (k : TokenKind) (n : ℕ) (word rest : List ℕ) → n ≡ length word → Takes k n (word ++ rest) → IsLongest k word rest
from_front k n word rest e t =
    subst (λ w. IsLongest k w rest) (take_at word rest n (sym e)) (subst (IsLongest k (take n (word ++ rest))) (drop_at word rest n (sym e)) t.longest)

-- the bytes that may stand behind a token in a printed text: a space, and the marks before which none stands
abbrev pub stops_at : ℕ → Bool
stops_at b = list_any (λ c. b == c) (codes " )].;")

abbrev pub StopsAt : List ℕ → Type 0
StopsAt [] = Unit {0}
StopsAt (b ∷ rest) = stops_at b ≡ true

no_special : (b : ℕ) → stops_at b ≡ true → class_of b ≡ class_of 43 → ⊥
no_special b e i = search (rules, tests)

ends_at : (b : ℕ) → stops_at b ≡ true → Ends b
ends_at b e = record { passes = search (rules, tests); colon = search (rules, tests); equals = search (rules, tests); special = no_special b e }

pub stops : (rest : List ℕ) → StopsAt rest → Stops rest
stops [] h = tt
stops (b ∷ rest) h = ends_at b h

no_quote : (b : ℕ) → stops_at b ≡ true → (b == 39) ≡ false
no_quote b e = search (rules, tests)

pub not_quote : (rest : List ℕ) → StopsAt rest → NotNext 39 rest
not_quote [] h = refl
not_quote (b ∷ rest) h = no_quote b h

pub not_equals : (rest : List ℕ) → Stops rest → NotNext 61 rest
not_equals [] h = refl
not_equals (b ∷ rest) h = h.equals

no_special_next : (rest : List ℕ) → Stops rest → first_class rest ≡ class_of 43 → ⊥
no_special_next [] h i = cc
no_special_next (b ∷ rest) h i = h.special i

pub binary_longest : (w rest : List ℕ) → IsBinary w → Stops rest → IsLongest kind.Binary w rest
binary_longest [] rest h s = absurd h
binary_longest (b ∷ []) rest h s = from_front kind.Binary 1 (b ∷ []) rest refl (binary_takes 1 (b ∷ rest) h (binary_one (b ∷ rest) h (no_special_next rest s)))
binary_longest (b ∷ c ∷ []) rest h s = from_front kind.Binary 2 (b ∷ c ∷ []) rest refl (binary_takes 2 (b ∷ c ∷ rest) h.0 (binary_two (b ∷ c ∷ rest) h.0 h.1))
binary_longest (b ∷ c ∷ d ∷ w) rest h s = absurd h

-- the minus before a digit
pub minus_longest : (rest : List ℕ) → first_class rest ≡ class_of 48 → IsLongest kind.Binary (codes "-") rest
minus_longest rest e = from_front kind.Binary 1 (45 ∷ []) rest refl (binary_takes 1 (45 ∷ rest) tt (binary_one (45 ∷ rest) tt (λ i. cc)))

pub character_longest : (b : ℕ) (rest : List ℕ) → IsLongest kind.Character (36 ∷ b ∷ []) rest
character_longest b rest = from_front kind.Character 2 (36 ∷ b ∷ []) rest refl (character_takes (36 ∷ b ∷ rest) refl (omega arith))

pub assign_longest : (rest : List ℕ) → IsLongest kind.Assign (codes "_") rest
assign_longest rest = from_front kind.Assign 1 (95 ∷ []) rest refl (underscore_takes (95 ∷ rest) refl)

pub mark_longest : (m : TokenKind) (b : ℕ) (rest : List ℕ) → Takes m 1 (b ∷ rest) → IsLongest m (b ∷ []) rest
mark_longest m b rest t = from_front m 1 (b ∷ []) rest refl t

pub array_longest : (rest : List ℕ) → IsLongest kind.ArrayStart (codes "#(") rest
array_longest rest = from_front kind.ArrayStart 2 (35 ∷ 40 ∷ []) rest refl (array_takes (35 ∷ 40 ∷ rest) refl refl)

pub colon_longest : (rest : List ℕ) → NotNext 61 rest → IsLongest kind.Colon (codes ":") rest
colon_longest rest e = from_front kind.Colon 1 (58 ∷ []) rest refl (colon_takes (58 ∷ rest) refl e)
