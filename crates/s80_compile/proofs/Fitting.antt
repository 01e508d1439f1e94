-- What the parts of a tree that fits need fits too.
use Rattle.std.proofs.Common.{ℕ, ◌≤◌, List, ◌++◌, Bool, arith}
use Rattle.s80_base.specs.Literal.{small}
use Rattle.std.specs.Prelude.{pos}
use Rattle.s80_code.specs.Entries.{EntryTree}
use Rattle.s80_scope.specs.declared.fit.position.Position.{Position}
use Rattle.s80_scope.specs.declared.fit.position.Position.TheVariants.{Value, Effect}
use Rattle.s80_core.specs.Core.{VariableTree, LeafTree, temporary, instance, class_variable, outer, variable, constant, receiver, context, CoreTree, CoreTrees, SendTree, SendTrees, leaf, assign, value, send, cascade, real_block, two_arms, one_arm, shortcut, repeat, before, answer, leave}
use Rattle.s80_core.specs.Measures.{InRange, entries, entries_all, entries_sends, variable_entries, constant_entries, selector_entries}
use Rattle.s80_compile.specs.Emitted.{Row, Emitted, Fits, AllFit, SendsFit, MessageFits, HasRoom, LeafInRange}
use Rattle.s80_compile.proofs.Firsts.{room_first}
use Rattle.s80_compile.proofs.Parts.{room_after}

in_range : (t : ℕ) (v : VariableTree) → t ≤ 31 → InRange t v → InRange 64 v
in_range t (temporary k) low h = omega (arith, low, h)
in_range t (instance place) low h = h
in_range t (class_variable owner word) low h = tt
in_range t (outer word) low h = tt

leaf_range : (t : ℕ) (l : LeafTree) (f : List EntryTree) (p : Position) → Fits f (leaf l) p → LeafInRange 64 l
leaf_range t (variable v) f p h = in_range h.temporaries v h.low h.range
leaf_range t (constant v) f p h = tt
leaf_range t receiver f p h = tt
leaf_range t context f p h = tt

pub leaf_in_range : (l : LeafTree) (f : List EntryTree) (p : Position) → Fits f (leaf l) p → LeafInRange 64 l
leaf_in_range l f p h = leaf_range 0 l f p h

module _ (f g : List EntryTree) (P : Row) (m : ℕ) (c d : List ℕ) where
  -- the first part, and a part behind another
  pub assign_value : (v : VariableTree) (e : CoreTree) (p : Position) → Fits f (assign v e) p → Fits f e Value
  assign_value v e p h = record { room = room_first f (entries e) (variable_entries v) h.room; size = omega (arith, h.size); temporaries = h.temporaries; low = h.low; range = h.range.1; few = h.few }

  pub assign_room : (v : VariableTree) (e : CoreTree) (p : Position) → Fits f (assign v e) p → Emitted P (entries e) m f g c d → HasRoom g (variable_entries v)
  assign_room v e p h a = room_after P (entries e) (variable_entries v) m f g c d a h.room

  pub value_part : (e : CoreTree) (p : Position) → Fits f (value e) p → Fits f e Value
  value_part e p h = record { room = h.room; size = omega (arith, h.size); temporaries = h.temporaries; low = h.low; range = h.range; few = h.few }

  pub sent_receiver : (r : CoreTree) (to_super : Bool) (s : List ℕ) (es : CoreTrees) (p : Position) → Fits f (send r to_super s es) p → Fits f r Value
  sent_receiver r to_super s es p h = record { room = room_first f (entries r) (entries_all es ++ selector_entries to_super s) h.room; size = omega (arith, h.size); temporaries = h.temporaries; low = h.low; range = h.range.0; few = h.few.0 }

  pub sent_message : (r : CoreTree) (to_super : Bool) (s : List ℕ) (es : CoreTrees) (p : Position) → Fits f (send r to_super s es) p → Emitted P (entries r) m f g c d → MessageFits g to_super (s, es)
  sent_message r to_super s es p h a = record { room = room_after P (entries r) (entries_all es ++ selector_entries to_super s) m f g c d a h.room; size = omega (arith, h.size); temporaries = h.temporaries; low = h.low; range = h.range.1; few = h.few.1.0; count = h.few.1.1 }

  pub cascade_receiver : (r : CoreTree) (to_super : Bool) (ms : SendTrees) (p : Position) → Fits f (cascade r to_super ms) p → Fits f r Value
  cascade_receiver r to_super ms p h = record { room = room_first f (entries r) (entries_sends to_super ms) h.room; size = omega (arith, h.size); temporaries = h.temporaries; low = h.low; range = h.range.0; few = h.few.0 }

  pub cascade_messages : (r : CoreTree) (to_super : Bool) (ms : SendTrees) (p : Position) → Fits f (cascade r to_super ms) p → Emitted P (entries r) m f g c d → SendsFit g to_super ms
  cascade_messages r to_super ms p h a = record { room = room_after P (entries r) (entries_sends to_super ms) m f g c d a h.room; size = omega (arith, h.size); temporaries = h.temporaries; low = h.low; range = h.range.1; few = h.few.1 }

  pub block_body : (first n : ℕ) (e : CoreTree) (p : Position) → Fits f (real_block first n e) p → Emitted P (constant_entries (small (pos n))) m f g c d → Fits g e Effect
  block_body first n e p h a = record { room = room_after P (constant_entries (small (pos n))) (entries e) m f g c d a h.room; size = omega (arith, h.size); temporaries = h.temporaries; low = h.low; range = h.range.1; few = h.few }

  pub two_condition : (on : Bool) (x a b : CoreTree) (p : Position) → Fits f (two_arms on x a b) p → Fits f x Value
  two_condition on x a b p h = record { room = room_first f (entries x) (entries a ++ entries b) h.room; size = omega (arith, h.size); temporaries = h.temporaries; low = h.low; range = h.range.0; few = h.few.0 }

  pub two_first : (on : Bool) (x a b : CoreTree) (p : Position) → Fits f (two_arms on x a b) p → Emitted P (entries x) m f g c d → Fits g a p
  two_first on x a b p h i = record { room = room_first g (entries a) (entries b) (room_after P (entries x) (entries a ++ entries b) m f g c d i h.room); size = omega (arith, h.size); temporaries = h.temporaries; low = h.low; range = h.range.1.0; few = h.few.1.0 }

  pub two_rest : (on : Bool) (x a b : CoreTree) (p : Position) → Fits f (two_arms on x a b) p → Emitted P (entries x) m f g c d → HasRoom g (entries a ++ entries b)
  two_rest on x a b p h i = room_after P (entries x) (entries a ++ entries b) m f g c d i h.room

  pub one_condition : (on : Bool) (x a : CoreTree) (p : Position) → Fits f (one_arm on x a) p → Fits f x Value
  one_condition on x a Value h = record { room = room_first f (entries x) (entries a) h.room; size = omega (arith, h.size); temporaries = h.temporaries; low = h.low; range = h.range.0; few = h.few.0 }
  one_condition on x a Effect h = record { room = room_first f (entries x) (entries a) h.room; size = omega (arith, h.size); temporaries = h.temporaries; low = h.low; range = h.range.0; few = h.few.0 }

  pub one_part : (on : Bool) (x a : CoreTree) (p : Position) → Fits f (one_arm on x a) p → Emitted P (entries x) m f g c d → Fits g a p
  one_part on x a Value h i = record { room = room_after P (entries x) (entries a) m f g c d i h.room; size = omega (arith, h.size); temporaries = h.temporaries; low = h.low; range = h.range.1; few = h.few.1 }
  one_part on x a Effect h i = record { room = room_after P (entries x) (entries a) m f g c d i h.room; size = omega (arith, h.size); temporaries = h.temporaries; low = h.low; range = h.range.1; few = h.few.1 }

  pub shortcut_condition : (on : Bool) (x a : CoreTree) (p : Position) → Fits f (shortcut on x a) p → Fits f x Value
  shortcut_condition on x a p h = record { room = room_first f (entries x) (entries a) h.room; size = omega (arith, h.size); temporaries = h.temporaries; low = h.low; range = h.range.0; few = h.few.0 }

  pub shortcut_part : (on : Bool) (x a : CoreTree) (p : Position) → Fits f (shortcut on x a) p → Emitted P (entries x) m f g c d → Fits g a Value
  shortcut_part on x a p h i = record { room = room_after P (entries x) (entries a) m f g c d i h.room; size = omega (arith, h.size); temporaries = h.temporaries; low = h.low; range = h.range.1; few = h.few.1 }

  pub loop_condition : (on : Bool) (x a : CoreTree) (p : Position) → Fits f (repeat on x a) p → Fits f x Value
  loop_condition on x a p h = record { room = room_first f (entries x) (entries a) h.room; size = omega (arith, h.size); temporaries = h.temporaries; low = h.low; range = h.range.0; few = h.few.0 }

  pub loop_body : (on : Bool) (x a : CoreTree) (p : Position) → Fits f (repeat on x a) p → Emitted P (entries x) m f g c d → Fits g a Effect
  loop_body on x a p h i = record { room = room_after P (entries x) (entries a) m f g c d i h.room; size = omega (arith, h.size); temporaries = h.temporaries; low = h.low; range = h.range.1; few = h.few.1 }

  pub before_first : (a b : CoreTree) (p : Position) → Fits f (before a b) p → Fits f a Effect
  before_first a b p h = record { room = room_first f (entries a) (entries b) h.room; size = omega (arith, h.size); temporaries = h.temporaries; low = h.low; range = h.range.0; few = h.few.0 }

  pub before_second : (a b : CoreTree) (p : Position) → Fits f (before a b) p → Emitted P (entries a) m f g c d → Fits g b p
  before_second a b p h i = record { room = room_after P (entries a) (entries b) m f g c d i h.room; size = omega (arith, h.size); temporaries = h.temporaries; low = h.low; range = h.range.1; few = h.few.1 }

  pub answer_value : (e : CoreTree) (p : Position) → Fits f (answer e) p → Fits f e Value
  answer_value e p h = record { room = h.room; size = omega (arith, h.size); temporaries = h.temporaries; low = h.low; range = h.range; few = h.few }

  pub leave_value : (e : CoreTree) (p : Position) → Fits f (leave e) p → Fits f e Value
  leave_value e p h = record { room = h.room; size = omega (arith, h.size); temporaries = h.temporaries; low = h.low; range = h.range; few = h.few }

  pub message_arguments : (to_super : Bool) (x : SendTree) → MessageFits f to_super x → AllFit f x.1
  message_arguments to_super x h = record { room = room_first f (entries_all x.1) (selector_entries to_super x.0) h.room; size = omega (arith, h.size); temporaries = h.temporaries; low = h.low; range = h.range; few = h.few }

  pub message_selector : (to_super : Bool) (x : SendTree) → MessageFits f to_super x → Emitted P (entries_all x.1) m f g c d → HasRoom g (selector_entries to_super x.0)
  message_selector to_super x h a = room_after P (entries_all x.1) (selector_entries to_super x.0) m f g c d a h.room

-- the second of two arms
pub two_second : (g h : List EntryTree) (P : Row) (m : ℕ) (c d : List ℕ) (on : Bool) (x a b : CoreTree) (p : Position) (f : List EntryTree) → Fits f (two_arms on x a b) p
    → HasRoom g (entries a ++ entries b) → Emitted P (entries a) m g h c d → Fits h b p
two_second g h P m c d on x a b p f k room i = record { room = room_after P (entries a) (entries b) m g h c d i room; size = omega (arith, k.size); temporaries = k.temporaries; low = k.low; range = k.range.1.1; few = k.few.1.1 }
