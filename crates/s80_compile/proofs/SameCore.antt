-- Code of a core tree over one frame, wherever it stands in two codes, is the same bytes; by induction on the core tree. So two
-- codes of one core tree in one class are equal.
use Rattle.std.proofs.Common.{◌≡◌, ◌∙◌, ap, sym, subst, ℕ, List, [], ◌++◌, Bool, length}
use Rattle.s80_base.specs.declared.names.Side.{Side}
use Rattle.s80_code.specs.declared.code.Code.{Code}
use Rattle.s80_code.specs.declared.instruction.Instruction.TheVariants.{PushFixed, ReturnFixed, ReturnTop, ReturnFromBlock, Pop, Duplicate}
use Rattle.s80_code.specs.Entries.{EntryTree, entries_of}
use Rattle.s80_scope.specs.declared.fit.position.Position.{Position}
use Rattle.s80_scope.specs.declared.fit.position.Position.TheVariants.{Value, Effect}
use Rattle.s80_tree.specs.Tree.{MethodParts}
use Rattle.s80_core.specs.Core.{VariableTree, LeafTree, CoreTree, CoreTrees, SendTrees, leaf, assign, value, send, cascade, real_block, two_arms, one_arm, shortcut, repeat, nothing, before, answer, answer_fixed, leave, no_cores, cores, no_sends, sends, count}
use Rattle.s80_core.specs.Measures.{entries}
use Rattle.s80_compile.specs.Rows.{Pushes, Stores, SendsTo, One, shortcut_number, At, AllAt, SendsAt}
use Rattle.s80_compile.specs.Compiles.{last_entries, IsCodeOf, AreEqual}
use Rattle.s80_compile.proofs.OneFrame.{IsOnce, same_firsts, frame_once}
use Rattle.s80_compile.proofs.SameInstructions.{one_push, one_store, one_send}
use Rattle.s80_compile.proofs.SamePart.{same_bytes}
use Rattle.s80_compile.proofs.SameRows.{Agree, written, instruction, nothing_there, both, ends, nil_for, chooses, skips, loops, makes}

module _ (one other : List ℕ) (frame : List EntryTree) (once : IsOnce frame) where
  pushed : (l : LeafTree) → Agree one other (One one (Pushes frame l)) (One other (Pushes frame l))
  pushed l = instruction (Pushes frame l) (one_push frame once l)

  stored : (v : VariableTree) (position : Position) → Agree one other (One one (Stores frame v position)) (One other (Stores frame v position))
  stored v position = instruction (Stores frame v position) (one_store frame once v position)

  sent : (to_super : Bool) (s : List ℕ) (n : ℕ) → Agree one other (One one (SendsTo frame to_super s n)) (One other (SendsTo frame to_super s n))
  sent to_super s n = instruction (SendsTo frame to_super s n) (one_send frame once to_super s n)

  mutual
    same_core : (c : CoreTree) (position : Position) → Agree one other (At one frame c position) (At other frame c position)
    same_core (leaf l) position = both (pushed l) (ends position)
    same_core (assign v e) position = both (same_core e Value) (stored v position)
    same_core (value e) position = both (same_core e Value) (ends position)
    same_core (send r to_super s es) position =
        both (same_core r Value)
        (both (same_all es) (both (sent to_super s (count es)) (ends position)))
    same_core (cascade r to_super ms) position =
        both (same_core r Value) (both (same_sends to_super ms) (ends position))
    same_core (real_block first n e) position = makes frame once first n position (same_core e Effect)
    same_core (two_arms on c a b) position = chooses on (same_core c Value) (same_core a position) (same_core b position)
    same_core (one_arm on c a) Value = chooses on (same_core c Value) (same_core a Value) (nil_for Value)
    same_core (one_arm on c a) Effect = skips on (same_core c Value) (same_core a Effect)
    same_core (shortcut on c a) position =
        both (chooses on (same_core c Value) (same_core a Value) (written (PushFixed (shortcut_number on))))
        (ends position)
    same_core (repeat on c e) position = loops on position (same_core c Value) (same_core e Effect)
    same_core nothing position = nil_for position
    same_core (before a b) position = both (same_core a Effect) (same_core b position)
    same_core (answer e) position = both (same_core e Value) (written ReturnTop)
    same_core (answer_fixed n) position = written (ReturnFixed n)
    same_core (leave e) position = both (same_core e Value) (written ReturnFromBlock)

    same_all : (cs : CoreTrees) → Agree one other (AllAt one frame cs) (AllAt other frame cs)
    same_all no_cores = nothing_there
    same_all (cores c cs) = both (same_core c Value) (same_all cs)

    same_sends : (to_super : Bool) (ms : SendTrees) → Agree one other (SendsAt one frame to_super ms) (SendsAt other frame to_super ms)
    same_sends to_super no_sends = nothing_there
    same_sends to_super (sends s es no_sends) = both (same_all es) (sent to_super s (count es))
    same_sends to_super (sends s es (sends t fs ms)) =
        both (written Duplicate)
        (both (same_all es)
        (both (sent to_super s (count es))
        (both (written Pop) (same_sends to_super (sends t fs ms)))))

-- ---- the whole code

module _ (m : MethodParts) (core : CoreTree) (class : List ℕ) (side : Side) (one other : Code) (a : IsCodeOf m core class side one) (b : IsCodeOf m core class side other) where
  same_frame : entries_of one.literals ≡ entries_of other.literals
  same_frame = a.frame ∙ ap (λ plain. plain ++ last_entries m core class side) (same_firsts [] (entries core) a.plain b.plain a.firsts b.firsts) ∙ sym b.frame

  once : IsOnce (entries_of one.literals)
  once = subst (λ (es : List EntryTree). IsOnce es) (sym a.frame) (frame_once m core class side (entries core) a.plain a.firsts)

  body : At other.bytes (entries_of one.literals) core Effect 0 (length other.bytes)
  body = subst (λ (es : List EntryTree). At other.bytes es core Effect 0 (length other.bytes)) (sym same_frame) b.body

  pub equal : AreEqual one other
  equal =
      record {
        flag = a.flag ∙ sym b.flag;
        arguments = a.arguments ∙ sym b.arguments;
        primitive = a.primitive ∙ sym b.primitive;
        temporaries = a.temporaries ∙ sym b.temporaries;
        large = a.large ∙ sym b.large;
        literals = same_frame;
        bytes = same_bytes
            (same_core one.bytes other.bytes (entries_of one.literals) once core Effect 0 (length one.bytes) 0 (length other.bytes) a.body body);
      }
