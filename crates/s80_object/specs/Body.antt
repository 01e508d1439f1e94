-- The bodies of objects, and what they cost.
use Rattle.std.specs.Prelude.{ℕ, ◌+◌, ◌/◌, ◌^◌, List, [], ◌∷◌, length, map, replicate, pos, nat_le, if◌then◌else◌, Option, Some, None}
use Rattle.s80_object.specs.declared.value.Value.{Value}
use Rattle.s80_object.specs.declared.value.Value.TheVariants.{Nil, Small}
use Rattle.s80_object.specs.declared.value.BodyKind.{BodyKind}
use Rattle.s80_object.specs.declared.value.BodyKind.TheVariants as kind

pub data BodyTree : Type 0 where
  -- the class, the named fields, the items
  pointers : ℕ → List Value → List Value → BodyTree
  bytes : ℕ → List ℕ → BodyTree
  words : ℕ → List ℕ → BodyTree
  -- the method, the receiver, the temporaries
  home : ℕ → Value → List Value → BodyTree
  -- the home, the place where it starts, the number of its arguments
  block : Value → ℕ → ℕ → BodyTree

-- a new object
abbrev pub blank : ℕ → BodyKind → ℕ → ℕ → BodyTree
blank class kind.Pointers named indexed = pointers class (replicate named Nil) (replicate indexed Nil)
blank class kind.Bytes named indexed = bytes class (replicate indexed 0)
blank class kind.Words named indexed = words class (replicate indexed 0)

-- the words that a body costs; a byte is a quarter of one, an element of words a half, rounded up
abbrev pub cost : BodyTree → ℕ
cost (pointers class fields items) = 2 + length fields + length items
cost (bytes class items) = 2 + (length items + 3) / 4
cost (words class items) = 2 + (length items + 1) / 2
cost (home method receiver temporaries) = 32
cost (block whole start arguments) = 8

abbrev pub words_of : List BodyTree → ℕ
words_of [] = 0
words_of (b ∷ bodies) = cost b + words_of bodies

abbrev pub word_limit : ℕ
word_limit = 2 ^ 20

-- the fields of a body, which for a home are its temporaries
abbrev pub fields_of : BodyTree → Option (List Value)
fields_of (pointers class fields items) = Some fields
fields_of (home method receiver temporaries) = Some temporaries
fields_of _ = None

-- the items of a body, as values
abbrev pub items_of : BodyTree → Option (List Value)
items_of (pointers class fields items) = Some items
items_of (bytes class items) = Some (map (λ n. Small (pos n)) items)
items_of (words class items) = Some (map (λ n. Small (pos n)) items)
items_of _ = None

-- the items of a body of bytes
abbrev pub bytes_of : BodyTree → Option (List ℕ)
bytes_of (bytes class items) = Some items
bytes_of _ = None

abbrev pub kind_of : BodyTree → Option (ℕ × BodyKind)
kind_of (pointers class fields items) = Some (class, kind.Pointers)
kind_of (bytes class items) = Some (class, kind.Bytes)
kind_of (words class items) = Some (class, kind.Words)
kind_of _ = None

-- the number of a value that is a natural number up to a limit
abbrev pub number_to : ℕ → Value → Option ℕ
number_to most (Small (pos n)) = if nat_le n most then Some n else None
number_to most _ = None
