-- Whether two entries are one.
use Rattle.std.specs.Prelude.{◌≡◌, ◌<◌, slice_get, Option, Some, None, length, ℕ, List, Bool, false, ◌&&◌}
use Rattle.std.specs.Str.{bytes_eq}
use Rattle.s80_base.specs.SameLiteral.{same_literal}
use Rattle.s80_code.specs.Entries.{EntryTree, constant, class_variable, outer, owner, extension}

-- entries that a header alone asks for are never looked for
abbrev pub same_entry : EntryTree → EntryTree → Bool
same_entry (constant v) (constant w) = same_literal v w
same_entry (class_variable a b) (class_variable c d) = bytes_eq a c && bytes_eq b d
same_entry (outer a) (outer b) = bytes_eq a b
same_entry _ _ = false

-- an entry that code names
abbrev pub IsNamed : EntryTree → Type 0
IsNamed (owner class side) = ⊥
IsNamed (extension k) = ⊥
IsNamed _ = Unit {0}

-- none of the first entries is this one
abbrev pub AreOther : List EntryTree → ℕ → EntryTree → Type 0
AreOther frame count entry = (k : ℕ) (x : EntryTree) → k < count → slice_get frame k ≡ Some x → x ≡ entry → ⊥

-- the number of an entry in the frame, or none where it isn't there
abbrev pub IsFound : List EntryTree → EntryTree → Option ℕ → Type 0
IsFound frame entry (Some n) = slice_get frame n ≡ Some entry
IsFound frame entry None = AreOther frame (length frame) entry
