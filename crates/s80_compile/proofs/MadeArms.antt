-- Rows with a jump, from their parts.
use Rattle.std.proofs.Common.{◌≡◌, ℕ, ◌+◌, ℤ, pos, List, [], ◌++◌, Bool, refl, sym, ap, subst, ◌∙◌, arith}
use Rattle.std.proofs.lemmas.List.{append-nil}
use Rattle.s80_base.specs.Literal.{LiteralTree, LiteralTrees, small, literal_of, literal_layer, literals_layer}
use Rattle.s80_base.specs.declared.literal.Literal.{fold-roll-Literal}
use Rattle.s80_base.specs.declared.literal.Literal.TheVariants as kind
use Rattle.s80_base.specs.declared.literal.Literal.TheOpen as layer
use Rattle.s80_code.specs.Entries.{EntryTree}
use Rattle.s80_code.specs.declared.instruction.Instruction.TheVariants.{PushFixed}
use Rattle.s80_code.specs.Spelling.{Written}
use Rattle.s80_scope.specs.declared.fit.position.Position.{Position}
use Rattle.s80_scope.specs.declared.fit.position.Position.TheVariants.{Value}
use Rattle.s80_core.specs.Core.{CoreTree, constant, shortcut}
use Rattle.s80_core.specs.Measures.{entries, constant_entries, size, popped}
use Rattle.s80_compile.specs.Rows.{Ends, Pushes, shortcut_number}
use Rattle.s80_compile.specs.Emitted.{Emitted, CoreRow, OneRow, IsEmitted, Adds, AddsEnd, AddsChoice, constant_width}
use Rattle.s80_compile.proofs.Made.{changed}
use Rattle.s80_compile.proofs.Parts.{BothRow, ChooseRow, CountRow, joined, ended, instructed, core_moves, ends_moves, stands_moves, chosen}

-- the value that stands for an arm that isn't taken
pub number_there : (on : Bool) (n : ℕ) (other : List ℕ) → n ≡ shortcut_number on → Adds (PushFixed n) 1 [] other → Adds (PushFixed (shortcut_number on)) 1 [] other
number_there on n other same a = subst (λ (m : ℕ). Adds (PushFixed m) 1 [] other) same a

module _ (on : Bool) (x a : CoreTree) (position : Position) (f g h : List EntryTree) (c d e k arm other : List ℕ) where
  pub shortcut_made : IsEmitted x Value f g c d → IsEmitted a Value g h [] arm → Adds (PushFixed (shortcut_number on)) 1 [] other → AddsChoice on arm other d e → AddsEnd position e k
      → IsEmitted (shortcut on x a) position f h c k
  shortcut_made p q push s end =
      changed (BothRow (CoreRow (shortcut on x a) Value) (λ bytes es m n. Ends bytes position m n)) (CoreRow (shortcut on x a) position)
      ((entries x ++ entries a) ++ []) (entries x ++ entries a) ((size Value x + 2 + size Value a + 2 + 1 + 0) + popped position) (size Value x + 2 + size Value a + 2 + 1 + popped position) f h c k
      (λ bytes es m n y. record { mid = y.first.mid; first = y.first.first; second = subst (λ (z : ℕ). Ends bytes position z n) (sym y.first.second) y.second })
      (append-nil (entries x ++ entries a)) (omega arith)
      (joined (CoreRow (shortcut on x a) Value) (λ bytes es m n. Ends bytes position m n) (entries x ++ entries a) [] (size Value x + 2 + size Value a + 2 + 1 + 0) (popped position) f h h c e k
      (core_moves (shortcut on x a) Value) (ends_moves position)
      (changed (ChooseRow on (CoreRow x Value) (CoreRow a Value) (λ bytes es m n. Written bytes m (PushFixed (shortcut_number on)) n)) (CoreRow (shortcut on x a) Value)
      (entries x ++ (entries a ++ [])) (entries x ++ entries a) (size Value x + 2 + size Value a + 2 + 1) (size Value x + 2 + size Value a + 2 + 1 + 0) f h c e
      (λ bytes es m n y. record { mid = n; first = y; second = refl })
      (ap (λ l. entries x ++ l) (append-nil (entries a))) (omega arith)
      (chosen on (CoreRow x Value) (CoreRow a Value) (λ bytes es m n. Written bytes m (PushFixed (shortcut_number on)) n) (entries x) (entries a) [] (size Value x) (size Value a) 1 f g h h c d arm other e
      (core_moves x Value) (core_moves a Value) (stands_moves (PushFixed (shortcut_number on))) p q (instructed (PushFixed (shortcut_number on)) 1 h [] other push) s))
      (ended position h e k end))

-- the number of a block's parameters
pub small_open : (n : ℤ) → literal_of (kind.Small n) ≡ small n
small_open n = ap literal_of (sym (kind.rolls-Small n)) ∙ fold-roll-Literal LiteralTree LiteralTrees literal_layer literals_layer (layer.Small n)

pub count_there : (v : LiteralTree) (n : ℕ) (f g : List EntryTree) (c d : List ℕ) → v ≡ small (pos n) → Emitted (OneRow (λ entries i. Pushes entries (constant v) i)) (constant_entries v) (constant_width v) f g c d
    → Emitted (CountRow n) (constant_entries (small (pos n))) (constant_width (small (pos n))) f g c d
count_there v n f g c d same a =
    subst (λ (l : LiteralTree). Emitted (OneRow (λ entries i. Pushes entries (constant l) i)) (constant_entries l) (constant_width l) f g c d) same a
