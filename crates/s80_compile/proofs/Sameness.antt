-- Entries that look the same are one.
use Rattle.std.proofs.Common.{◌≡◌, true, ap, ap₂}
use Rattle.s80_base.proofs.Sameness.{and_true, both_true, literal_is_same, literal_looks_same, word_looks_same, word_same}
use Rattle.s80_code.specs.Entries.{EntryTree, constant, class_variable, outer, owner, extension}
use Rattle.s80_compile.specs.Same.{IsNamed, same_entry}

pub entry_is_same : (a b : EntryTree) → same_entry a b ≡ true → a ≡ b
entry_is_same (constant v) (constant w) e = ap constant (literal_is_same v w e)
entry_is_same (class_variable a b) (class_variable c d) e = let h = both_true _ _ e in ap₂ class_variable (word_same a c h.0) (word_same b d h.1)
entry_is_same (outer a) (outer b) e = ap outer (word_same a b e)
entry_is_same _ _ e = cc

pub entry_looks_same : (a : EntryTree) → IsNamed a → same_entry a a ≡ true
entry_looks_same (constant v) n = literal_looks_same v
entry_looks_same (class_variable a b) n = and_true _ _ (word_looks_same a) (word_looks_same b)
entry_looks_same (outer a) n = word_looks_same a
entry_looks_same (owner class side) n = absurd n
entry_looks_same (extension k) n = absurd n
