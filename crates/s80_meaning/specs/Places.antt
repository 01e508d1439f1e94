-- Which code stands for a numbered tree: what stands for the core tree, where each real block begins at the place that is its own.
use Rattle.std.specs.Prelude.{◌≡◌, ℕ, pos, List, Bool, slice_get, length, Some}
use Rattle.s80_base.specs.Literal.{small}
use Rattle.s80_code.specs.declared.code.Code.{Code}
use Rattle.s80_code.specs.declared.instruction.Instruction.TheVariants.{Duplicate, Pop, PushContext, PushFixed, ReturnFixed, ReturnFromBlock, ReturnTop, SendSpecial}
use Rattle.s80_code.specs.Entries.{EntryTree, entries_of}
use Rattle.s80_code.specs.Special.{block_copy}
use Rattle.s80_code.specs.Spelling.{Written}
use Rattle.s80_scope.specs.declared.fit.position.Position.{Position}
use Rattle.s80_scope.specs.declared.fit.position.Position.TheVariants.{Value, Effect}
use Rattle.s80_core.specs.Core.{constant}
use Rattle.s80_compile.specs.Rows.{One, Both, Chooses, Ends, JumpsOver, Loops, NilFor, Pushes, SendsTo, Skips, Stores, Takes, shortcut_number}
use Rattle.s80_meaning.specs.Tree.{Meant, RealBlock, Tree, Trees, Sends, leaf, assign, value, send, cascade, real, two_arms, one_arm, shortcut, repeat, nothing, before, answer, answer_fixed, leave, no_trees, trees, no_sends, sends, count}

-- a real block where it stands as a value: it is made, and its code is jumped over
pub record MakesReal (bytes : List ℕ) (entries : List EntryTree) (blocks : List RealBlock) (starts : ℕ → ℕ) (b : ℕ) (position : Position) (p q : ℕ) : Type 0 where
  pub block : RealBlock
  pub push : ℕ
  pub copy : ℕ
  pub jump : ℕ
  pub start : ℕ
  pub after : ℕ
  pub is_block : slice_get blocks b ≡ Some block
  pub context : Written bytes p PushContext push
  pub parameters : One bytes (Pushes entries (constant (small (pos block.parameters)))) push copy
  pub copies : Written bytes copy (SendSpecial block_copy) jump
  pub over : JumpsOver bytes after jump start
  pub starts_at : starts b ≡ start
  pub ending : Ends bytes position after q

module _ (bytes : List ℕ) (entries : List EntryTree) (blocks : List RealBlock) (starts : ℕ → ℕ) where
  abbrev mutual
    pub At : Tree → Position → ℕ → ℕ → Type 0
    At (leaf l) position p q = Both (One bytes (Pushes entries l)) (Ends bytes position) p q
    At (assign v e) position p q = Both (At e Value) (One bytes (Stores entries v position)) p q
    At (value e) position p q = Both (At e Value) (Ends bytes position) p q
    At (send r to_super s es) position p q =
        Both (At r Value) (Both (AllAt es) (Both (One bytes (SendsTo entries to_super s (count es))) (Ends bytes position))) p q
    At (cascade r to_super ms) position p q = Both (At r Value) (Both (SendsAt to_super ms) (Ends bytes position)) p q
    At (real b) position p q = MakesReal bytes entries blocks starts b position p q
    At (two_arms on c a b) position p q = Chooses bytes on (At c Value) (At a position) (At b position) p q
    At (one_arm on c a) Value p q = Chooses bytes on (At c Value) (At a Value) (NilFor bytes Value) p q
    At (one_arm on c a) Effect p q = Skips bytes on (At c Value) (At a Effect) p q
    At (shortcut on c a) position p q =
        Both (Chooses bytes on (At c Value) (At a Value) (λ m r. Written bytes m (PushFixed (shortcut_number on)) r)) (Ends bytes position) p q
    At (repeat on c e) position p q = Loops bytes on (At c Value) (At e Effect) position p q
    At nothing position p q = NilFor bytes position p q
    At (before a b) position p q = Both (At a Effect) (At b position) p q
    At (answer e) position p q = Both (At e Value) (λ m r. Written bytes m ReturnTop r) p q
    At (answer_fixed n) position p q = Written bytes p (ReturnFixed n) q
    At (leave e) position p q = Both (At e Value) (λ m r. Written bytes m ReturnFromBlock r) p q

    pub AllAt : Trees → ℕ → ℕ → Type 0
    AllAt no_trees p q = p ≡ q
    AllAt (trees e es) p q = Both (At e Value) (AllAt es) p q

    pub SendsAt : Bool → Sends → ℕ → ℕ → Type 0
    SendsAt to_super no_sends p q = p ≡ q
    SendsAt to_super (sends s es no_sends) p q = Both (AllAt es) (One bytes (SendsTo entries to_super s (count es))) p q
    SendsAt to_super (sends s es ms) p q =
        Both (λ m r. Written bytes m Duplicate r)
        (Both (AllAt es) (Both (One bytes (SendsTo entries to_super s (count es))) (Both (λ m r. Written bytes m Pop r) (SendsAt to_super ms)))) p q

-- a real block's own code
pub record BlockAt (bytes : List ℕ) (entries : List EntryTree) (blocks : List RealBlock) (starts : ℕ → ℕ) (block : RealBlock) (p : ℕ) : Type 0 where
  pub body_at : ℕ
  pub after : ℕ
  pub takes : Takes bytes block.first block.parameters p body_at
  pub body : At bytes entries blocks starts block.body Effect body_at after

-- a method's code, with the places at which its real blocks begin
pub record MethodAt (meant : Meant) (code : Code) (starts : ℕ → ℕ) : Type 0 where
  pub body : At code.bytes (entries_of code.literals) meant.blocks starts meant.body Effect 0 (length code.bytes)
  pub blocks : (b : ℕ) (block : RealBlock) → slice_get meant.blocks b ≡ Some block
      → BlockAt code.bytes (entries_of code.literals) meant.blocks starts block (starts b)
