-- Whether two codes are equal, as a test.
use Rattle.std.specs.Prelude.{ℕ, ◌==◌, ◌&&◌, Bool, true, false, List, [], ◌∷◌}
use Rattle.std.specs.Str.{bytes_eq}
use Rattle.s80_base.specs.SameLiteral.{same_literal}
use Rattle.s80_dict.specs.Table.{same_side}
use Rattle.s80_code.specs.Entries.{EntryTree, constant, class_variable, outer, owner, extension}
use Rattle.s80_image.specs.Methods.{CodeView}

abbrev pub same_entry : EntryTree → EntryTree → Bool
same_entry (constant a) (constant b) = same_literal a b
same_entry (class_variable c a) (class_variable d b) = bytes_eq c d && bytes_eq a b
same_entry (outer a) (outer b) = bytes_eq a b
same_entry (owner c a) (owner d b) = bytes_eq c d && same_side a b
same_entry (extension a) (extension b) = a == b
same_entry _ _ = false

abbrev pub same_entries : List EntryTree → List EntryTree → Bool
same_entries [] [] = true
same_entries (a ∷ more) (b ∷ others) = same_entry a b && same_entries more others
same_entries _ _ = false

abbrev pub same_flag : Bool → Bool → Bool
same_flag true true = true
same_flag false false = true
same_flag _ _ = false

-- all but the entries and the bytes
abbrev pub same_header : CodeView → CodeView → Bool
same_header a b = a.flag == b.flag && (a.arguments == b.arguments && (a.primitive == b.primitive && (a.temporaries == b.temporaries && same_flag a.large b.large)))

abbrev pub same_code : CodeView → CodeView → Bool
same_code a b = same_header a b && (bytes_eq a.bytes b.bytes && same_entries a.entries b.entries)
