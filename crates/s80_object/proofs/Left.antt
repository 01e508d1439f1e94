-- Room for what is left of a list of literals.
use Rattle.std.proofs.Common.{◌≡◌, ◌∙◌, ℕ, ◌+◌, ◌-◌, ◌≤◌, ◌<◌, arith, List, length, map, get_or, Option, Some, None, SomeIff, sym, ap}
use Rattle.std.proofs.lemmas.Bool.Decides.{nat_tests}
use Rattle.s80_base.specs.Literal.{LiteralTrees, literal_of, literals_of, literals_from, literals_list, literals}
use Rattle.s80_base.specs.declared.literal.Literal.{Literal}
use Rattle.s80_base.specs.declared.literal.Literals.{Literals, out-Literals}
use Rattle.s80_base.proofs.lemmas.Lists.{literals_open, literals_out, length_map}
use Rattle.s80_base.proofs.lemmas.LiteralLists.{literals_left, literals_next, literals_done}
use Rattle.s80_object.specs.Steps.{left_of, words_in, words_in_all}

module _ (room a b : ℕ) where
  pub left_some : (left : ℕ) → left_of room a ≡ Some left → left_of room (a + b) ≡ left_of left b
  left_some left is = grind (arith, nat_tests)

  pub left_none : left_of room a ≡ None → left_of room (a + b) ≡ None
  left_none is = grind (arith, nat_tests)

-- what the literals in front leave of room is left
abbrev pub RoomGoesOn : ℕ → LiteralTrees → ℕ → LiteralTrees → Type 0
RoomGoesOn room all left rest = (n : ℕ) → left_of room (words_in_all all + n) ≡ left_of left (words_in_all rest + n)

pub room_begins : (room : ℕ) (ls : Literals) (xs : List Literal) → xs ≡ (out-Literals ls).items.items → RoomGoesOn room (literals_of ls) room (literals_left xs 0)
room_begins room ls xs is n = ap (λ ls. left_of room (words_in_all ls + n)) (literals_open ls ∙ ap (λ xs. literals_from (map literal_of xs)) (sym is))

module _ (room : ℕ) (all : LiteralTrees) (left : ℕ) (xs : List Literal) (i : ℕ) (x : Literal) (within : i < length xs) (is : x ≡ get_or xs i x) (goes : RoomGoesOn room all left (literals_left xs i)) where
  parts : (n : ℕ) → words_in_all (literals_left xs i) + n ≡ words_in (literal_of x) + (words_in_all (literals_left xs (i + 1)) + n)
  parts n = ap (λ ls. words_in_all ls + n) (literals_next xs i x within is) ∙ omega arith

  pub room_goes_on : (after : ℕ) → Some after ≡ left_of left (words_in (literal_of x)) → RoomGoesOn room all after (literals_left xs (i + 1))
  room_goes_on after told n = goes n ∙ ap (left_of left) (parts n) ∙ left_some left (words_in (literal_of x)) _ after (sym told)

  pub room_fails : None ≡ left_of left (words_in (literal_of x)) → (n : ℕ) → None ≡ left_of room (words_in_all all + n)
  room_fails told n = sym (goes n ∙ ap (left_of left) (parts n) ∙ left_none left (words_in (literal_of x)) _ (sym told))

pub room_ends : (room : ℕ) (all : LiteralTrees) (left : ℕ) (xs : List Literal) (i : ℕ) → length xs ≤ i → RoomGoesOn room all left (literals_left xs i) → (n : ℕ) → left_of room (words_in_all all + n) ≡ left_of left n
room_ends room all left xs i past goes n = goes n ∙ ap (left_of left) (ap (λ ls. words_in_all ls + n) (literals_done xs i past) ∙ omega arith)

pub subtracted : (room n : ℕ) (r : Option ℕ) → SomeIff r (n ≤ room) (room - n) → r ≡ left_of room n
subtracted room n r is = grind (arith, nat_tests)

pub count_is : (ls : Literals) (xs : List Literal) → xs ≡ (out-Literals ls).items.items → (n : ℕ) → n ≡ length xs → n ≡ length (literals_list (literals_of ls))
count_is ls xs is n told = told ∙ ap length is ∙ sym (ap length (literals_out ls) ∙ length_map literal_of (out-Literals ls).items.items)
