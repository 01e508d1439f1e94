-- How literals and the entries of literal frames are spelled and read.
use Rattle.std.specs.Prelude.{ℕ, zero, suc, ◌^◌, ℤ, ◌==◌, ◌&&◌, ◌||◌, Bool, true, nat_le, nat_lt, List, [], ◌∷◌, ◌++◌, length, Ok, Err, if◌then◌else◌}
use Rattle.std.specs.Int.{w32, to_be_bytes, cast_signed, cast_unsigned}
use Rattle.s80_base.specs.declared.literal.NumberKind.{NumberKind}
use Rattle.s80_base.specs.declared.literal.NumberKind.TheVariants.{LargePositive, LargeNegative, Float}
use Rattle.s80_base.specs.Literal.{LiteralTree, LiteralTrees, small, character, str, symbol, array, true_literal, false_literal, nil_literal, number, no_literals, literals, literals_append, kind_number}
use Rattle.s80_base.specs.SameLiteral.{same_number}
use Rattle.s80_base.specs.declared.names.Side.{Side}
use Rattle.s80_code.specs.Entries.{EntryTree, constant, class_variable, outer, owner, extension}
use Rattle.s80_image.specs.declared.fault.Fault.TheVariants.{Short}
use Rattle.s80_image.specs.Format.{Format, Reading, ◌>>=◌, byte, mapped, number_where, pair, text, word32}
use Rattle.s80_image.specs.Parts.{at_most, class_text, name_text, side}

-- a number of 32 bits with its sign
abbrev pub signed : Format ℤ
signed = record {
  spell = λ z. to_be_bytes w32 (cast_unsigned w32 z);
  lawful = λ z. nat_lt (cast_unsigned w32 z) (2 ^ 32) && same_number (cast_signed w32 (cast_unsigned w32 z)) z;
  read = λ bytes. word32.read bytes >>= λ n. Ok (cast_signed w32 n.0, n.1);
}

abbrev pub number_kind_of : ℕ → NumberKind
number_kind_of n = if n == 0 then LargePositive else (if n == 1 then LargeNegative else Float)

-- a number that is kept by its text, behind its kind
abbrev pub kept_number : Format (NumberKind × List ℕ)
kept_number = pair (mapped number_kind_of kind_number (at_most 2)) (λ _. text)

-- ---- literals

abbrev pub count_of : LiteralTrees → ℕ
count_of no_literals = 0
count_of (literals l ls) = suc (count_of ls)

abbrev mutual
  pub literal_bytes : LiteralTree → List ℕ
  literal_bytes (small z) = 0 ∷ signed.spell z
  literal_bytes (character c) = 1 ∷ c ∷ []
  literal_bytes (str t) = 2 ∷ text.spell t
  literal_bytes (symbol t) = 3 ∷ text.spell t
  literal_bytes (array ls) = 4 ∷ to_be_bytes w32 (count_of ls) ++ literals_bytes ls
  literal_bytes true_literal = 5 ∷ []
  literal_bytes false_literal = 6 ∷ []
  literal_bytes nil_literal = 7 ∷ []
  literal_bytes (number kind t) = 8 ∷ kept_number.spell (kind, t)

  pub literals_bytes : LiteralTrees → List ℕ
  literals_bytes no_literals = []
  literals_bytes (literals l ls) = literal_bytes l ++ literals_bytes ls

abbrev mutual
  pub is_lawful_literal : LiteralTree → Bool
  is_lawful_literal (small z) = signed.lawful z
  is_lawful_literal (character c) = nat_lt c 256
  is_lawful_literal (str t) = text.lawful t
  is_lawful_literal (symbol t) = text.lawful t
  is_lawful_literal (array ls) = nat_lt (count_of ls) (2 ^ 32) && are_lawful_literals ls
  is_lawful_literal true_literal = true
  is_lawful_literal false_literal = true
  is_lawful_literal nil_literal = true
  is_lawful_literal (number kind t) = kept_number.lawful (kind, t)

  pub are_lawful_literals : LiteralTrees → Bool
  are_lawful_literals no_literals = true
  are_lawful_literals (literals l ls) = is_lawful_literal l && are_lawful_literals ls

-- so many elements behind others, each read so
unfoldable pub elements : (List ℕ → Reading LiteralTree) → LiteralTrees → ℕ → List ℕ → Reading LiteralTrees
elements element before zero bytes = Ok (before, bytes)
elements element before (suc n) bytes = element bytes >>= λ l. elements element (literals_append before (literals l.0 no_literals)) n l.1

-- a literal behind its tag, with elements that are read so
unfoldable pub literal_behind : (List ℕ → Reading LiteralTree) → ℕ → List ℕ → Reading LiteralTree
literal_behind element tag bytes =
    if tag == 0 then signed.read bytes >>= (λ z. Ok (small z.0, z.1))
    else (if tag == 1 then byte.read bytes >>= (λ c. Ok (character c.0, c.1))
    else (if tag == 2 then text.read bytes >>= (λ t. Ok (str t.0, t.1))
    else (if tag == 3 then text.read bytes >>= (λ t. Ok (symbol t.0, t.1))
    else (if tag == 4 then word32.read bytes >>= (λ n. elements element no_literals n.0 n.1 >>= (λ ls. Ok (array ls.0, ls.1)))
    else (if tag == 5 then Ok (true_literal, bytes)
    else (if tag == 6 then Ok (false_literal, bytes)
    else (if tag == 7 then Ok (nil_literal, bytes)
    else kept_number.read bytes >>= (λ n. Ok (number n.0.0 n.0.1, n.1)))))))))

-- A literal takes at least one byte, so with more steps than there are bytes none is cut short.
unfoldable pub literal_at : ℕ → List ℕ → Reading LiteralTree
literal_at zero bytes = Err Short
literal_at (suc most) bytes = (at_most 8).read bytes >>= λ tag. literal_behind (literal_at most) tag.0 tag.1

-- ---- entries of a literal frame

abbrev pub is_entry_tag : ℕ → Bool
is_entry_tag tag = nat_le tag 8 || (nat_le 16 tag && nat_le tag 19)

-- a class variable, by its class and its name
abbrev pub class_variable_entry : Format (List ℕ × List ℕ)
class_variable_entry = pair class_text (λ _. name_text)

abbrev pub owner_entry : Format (List ℕ × Side)
owner_entry = pair class_text (λ _. side)

abbrev pub entry_bytes : EntryTree → List ℕ
entry_bytes (constant l) = literal_bytes l
entry_bytes (class_variable class name) = 16 ∷ class_variable_entry.spell (class, name)
entry_bytes (outer name) = 17 ∷ text.spell name
entry_bytes (owner class s) = 18 ∷ owner_entry.spell (class, s)
entry_bytes (extension n) = 19 ∷ word32.spell n

abbrev pub is_lawful_entry : EntryTree → Bool
is_lawful_entry (constant l) = is_lawful_literal l
is_lawful_entry (class_variable class name) = class_variable_entry.lawful (class, name)
is_lawful_entry (outer name) = name_text.lawful name
is_lawful_entry (owner class s) = owner_entry.lawful (class, s)
is_lawful_entry (extension n) = word32.lawful n

unfoldable pub entry_behind : ℕ → List ℕ → Reading EntryTree
entry_behind tag bytes =
    if tag == 16 then class_variable_entry.read bytes >>= (λ x. Ok (class_variable x.0.0 x.0.1, x.1))
    else (if tag == 17 then name_text.read bytes >>= (λ x. Ok (outer x.0, x.1))
    else (if tag == 18 then owner_entry.read bytes >>= (λ x. Ok (owner x.0.0 x.0.1, x.1))
    else (if tag == 19 then word32.read bytes >>= (λ x. Ok (extension x.0, x.1))
    else literal_behind (literal_at (length bytes)) tag bytes >>= (λ l. Ok (constant l.0, l.1)))))

unfoldable pub entry : Format EntryTree
entry = record {
  spell = entry_bytes;
  lawful = is_lawful_entry;
  read = λ bytes. (number_where is_entry_tag byte).read bytes >>= λ tag. entry_behind tag.0 tag.1;
}
