-- What the objects in memory are seen as.
use Rattle.std.specs.Prelude.{◌≡◌, ℕ, zero, suc, ◌/◌, ◌%◌, ◌≤◌, ◌^◌, List, ◌∷◌, drop, get_or, length}
use Rattle.s80_base.specs.declared.literal.NumberKind.{NumberKind}
use Rattle.s80_base.specs.declared.literal.NumberKind.TheVariants.{LargePositive, LargeNegative, Float}
use Rattle.s80_object.specs.declared.body.Body.{Body}
use Rattle.s80_object.specs.declared.body.Body.TheVariants as variant
use Rattle.s80_object.specs.declared.value.Value.{Value}
use Rattle.s80_object.specs.Body.{BodyTree, pointers, bytes, words, home, block, words_of, word_limit}
use Rattle.s80_object.specs.Objects.{Made, Opaque}

-- ---- bodies

abbrev pub tree_of : Body → BodyTree
tree_of (variant.Pointers class fields items) = pointers class fields.items items.items
tree_of (variant.Bytes class items) = bytes class items.items
tree_of (variant.Words class items) = words class items.items
tree_of (variant.Home method receiver temporaries) = home method receiver temporaries.items
tree_of (variant.Block whole start arguments) = block whole start arguments

-- the words that are kept are those of the bodies, and within the limit
pub record AreCounted (bodies : List BodyTree) (count : ℕ) : Type 0 where
  pub words : count ≡ words_of bodies
  pub limit : count ≤ word_limit

-- ---- texts

-- as many as a number of 32 bits can name
abbrev pub AreNamed : {X : Type 0} → List X → Type 0
AreNamed texts = length texts ≤ 2 ^ 32

-- ---- numbers that are kept as their texts

abbrev pub kind_byte : NumberKind → ℕ
kind_byte LargePositive = 0
kind_byte LargeNegative = 1
kind_byte Float = 2

abbrev pub kind_of_byte : ℕ → NumberKind
kind_of_byte zero = LargePositive
kind_of_byte (suc zero) = LargeNegative
kind_of_byte _ = Float

-- a number's key: a byte for its kind before its text
abbrev pub key_of : NumberKind → List ℕ → List ℕ
key_of kind text = kind_byte kind ∷ text

abbrev pub number_of : List ℕ → Opaque
number_of key = record { kind = kind_of_byte (get_or key 0 0); text = drop 1 key }

-- a key that is some number's
abbrev pub IsKey : List ℕ → Type 0
IsKey key = key_of (kind_of_byte (get_or key 0 0)) (drop 1 key) ≡ key

-- ---- literals that are objects

-- by 256 times the method's number, plus the entry's
abbrev pub made_of : ℕ × Value → Made
made_of p = record { method = p.0 / 256; entry = p.0 % 256; value = p.1 }
