-- Instructions of the compiling table fit where they stand.
use Rattle.std.proofs.Common.{◌≡◌, ◌≢◌, ap, sym, subst, refl, ℕ, suc, ◌+◌, ◌≤◌, inl, inr, pos, List, Bool, true, false, Option, Some, None, slice_get, get_or, nat_le, cond, arith, tests}
use Rattle.s80_base.specs.Literal.{LiteralTree, small, symbol}
use Rattle.s80_code.specs.declared.code.Code.{Code}
use Rattle.s80_code.specs.declared.instruction.Instruction.{Instruction}
use Rattle.s80_code.specs.declared.instruction.Instruction.TheVariants.{Push, Store, PopInto, PushFixed, Send, SendSuper, SendSpecial, PushContext}
use Rattle.s80_code.specs.declared.instruction.Storage.{Storage}
use Rattle.s80_code.specs.declared.instruction.Storage.TheVariants.{Constant}
use Rattle.s80_code.specs.Entries as frame
use Rattle.s80_code.specs.Entries.{entries_of}
use Rattle.s80_code.specs.Special.{block_copy, special_arguments, special_number}
use Rattle.s80_code.specs.Table.{Stands}
use Rattle.s80_scope.specs.declared.fit.position.Position.{Position}
use Rattle.s80_scope.specs.declared.fit.position.Position.TheVariants.{Value, Effect}
use Rattle.s80_core.specs.Core.{VariableTree, temporary, instance, class_variable, outer, LeafTree, variable, constant, receiver, context, leaf}
use Rattle.s80_core.specs.Measures.{InRange, AreInRange, fixed_number, sent_number}
use Rattle.s80_verify.specs.declared.stack.Stack.{Stack}
use Rattle.s80_verify.specs.Operands.{IsReadable, IsWritable, HasOwner}
use Rattle.s80_lex.specs.Selector.{IsSelectorOf}
use Rattle.s80_compile.specs.Rows.{Holds, PushesConstant, Pushes, Stores, send_of, SendsBy, SendsTo, One}
use Rattle.s80_compile.proofs.PointsSound.{Part, straight}
use Rattle.s80_compile.proofs.PointsRows.{left}
use Rattle.s80_compile.proofs.PointsBlock.{IsCount}

abbrev pub Specials : Type 0
Specials = (s : List ℕ) (n number : ℕ) → IsSelectorOf n s → special_number s ≡ Some number → (get_or special_arguments number 0 ≡ n) × (number ≢ block_copy)

abbrev number_of : Instruction → ℕ
number_of (SendSpecial number) = number
number_of _ = 0

module _ (code : Code) (room : Stack → ℕ) where
  pub readable : (v : VariableTree) (s : Storage) → InRange code.temporaries v → Holds (entries_of code.literals) v s → IsReadable code s
  readable (temporary number) s range is = subst (λ (x : Storage). IsReadable code x) (sym is) range
  readable (instance place) s range is = subst (λ (x : Storage). IsReadable code x) (sym is) tt
  readable (class_variable class word) s range (n, is, found) = subst (λ (x : Storage). IsReadable code x) (sym is) (inl (class, word, found))
  readable (outer word) s range (n, is, found) = subst (λ (x : Storage). IsReadable code x) (sym is) (inr (word, found))

  pub writable : (v : VariableTree) (s : Storage) → InRange code.temporaries v → Holds (entries_of code.literals) v s → IsWritable code s
  writable (temporary number) s range is = subst (λ (x : Storage). IsWritable code x) (sym is) range
  writable (instance place) s range is = subst (λ (x : Storage). IsWritable code x) (sym is) tt
  writable (class_variable class word) s range (n, is, found) = subst (λ (x : Storage). IsWritable code x) (sym is) (inl (class, word, found))
  writable (outer word) s range (n, is, found) = subst (λ (x : Storage). IsWritable code x) (sym is) (inr (word, found))

  stands_as : (i j : Instruction) (p q : ℕ) → i ≡ j → Stands code.bytes p i q → Stands code.bytes p j q
  stands_as i j p q e s = subst (λ (x : Instruction). Stands code.bytes p x q) e s

  pub fixed_part : (number : ℕ) (stack : Stack) (depth p q : ℕ) → Stands code.bytes p (PushFixed number) q → depth ≤ room stack → Part code room stack depth (suc depth) p q
  fixed_part number stack depth p q s fits =
      straight code room (suc depth) (record { stands = s; enough = omega arith; fits = fits; differs = λ e. cc; suits = tt }) refl (omega arith)

  push_part : (s : Storage) (stack : Stack) (depth p q : ℕ) → IsReadable code s → Stands code.bytes p (Push s) q → depth ≤ room stack → Part code room stack depth (suc depth) p q
  push_part s stack depth p q suits stands fits =
      straight code room (suc depth) (record { stands = stands; enough = omega arith; fits = fits; differs = λ e. cc; suits = suits }) refl (omega arith)

  constant_part : (v : LiteralTree) (fixed : Option ℕ) (i : Instruction) (stack : Stack) (depth p q : ℕ) → PushesConstant (entries_of code.literals) v fixed i
      → Stands code.bytes p i q → depth ≤ room stack → Part code room stack depth (suc depth) p q
  constant_part v (Some number) i stack depth p q is stands fits = fixed_part number stack depth p q (stands_as i (PushFixed number) p q is stands) fits
  constant_part v None i stack depth p q (n, is, found) stands fits =
      push_part (Constant n) stack depth p q (v, found) (stands_as i (Push (Constant n)) p q is stands) fits

  pub leaf_part : (l : LeafTree) (stack : Stack) (depth p q : ℕ) → AreInRange code.temporaries (leaf l) → One code.bytes (Pushes (entries_of code.literals) l) p q
      → depth ≤ room stack → Part code room stack depth (suc depth) p q
  leaf_part (variable v) stack depth p q range o fits =
      let (s, is, holds) = o.is in push_part s stack depth p q (readable v s range holds) (stands_as o.instruction (Push s) p q is o.stands.stands) fits
  leaf_part (constant v) stack depth p q range o fits = constant_part v (fixed_number v) o.instruction stack depth p q o.is o.stands.stands fits
  leaf_part receiver stack depth p q range o fits = fixed_part 0 stack depth p q (stands_as o.instruction (PushFixed 0) p q o.is o.stands.stands) fits
  leaf_part context stack depth p q range o fits =
      straight code room (suc depth)
      (record { stands = stands_as o.instruction PushContext p q o.is o.stands.stands; enough = omega arith; fits = fits; differs = λ e. cc; suits = tt }) refl (omega arith)

  -- the number of a block's parameters
  pub count_pushes : (n : ℕ) (i : Instruction) (stack : Stack) (at : ℕ) → n ≤ 31 → Pushes (entries_of code.literals) (constant (small (pos n))) i → IsCount code room i stack at n
  count_pushes n i stack at few is = by_test (nat_le n 2) refl is
    where
      by_test : (small_one : Bool) → nat_le n 2 ≡ small_one → PushesConstant (entries_of code.literals) (small (pos n)) (cond small_one (Some (5 + n)) None) i → IsCount code room i stack at n
      by_test true e is =
          subst (λ (x : Instruction). IsCount code room x stack at n) (sym is)
          (record { counted = (omega arith, search tests); none_taken = refl; one_left = refl; no_jump = refl; differs = λ e. cc; suits = tt })
      by_test false e (k, is, found) =
          subst (λ (x : Instruction). IsCount code room x stack at n) (sym is)
          (record { counted = (found, few); none_taken = refl; one_left = refl; no_jump = refl; differs = λ e. cc; suits = (small (pos n), found) })

  pub store_part : (v : VariableTree) (position : Position) (stack : Stack) (depth p q : ℕ) → InRange code.temporaries v
      → One code.bytes (Stores (entries_of code.literals) v position) p q → suc depth ≤ room stack → Part code room stack (suc depth) (left position depth) p q
  store_part v Value stack depth p q range o fits =
      let (s, is, holds) = o.is in
      straight code room (suc depth)
      (record { stands = stands_as o.instruction (Store s) p q is o.stands.stands; enough = omega arith; fits = fits; differs = λ e. cc; suits = writable v s range holds })
      refl (omega arith)
  store_part v Effect stack depth p q range o fits =
      let (s, is, holds) = o.is in
      straight code room depth
      (record { stands = stands_as o.instruction (PopInto s) p q is o.stands.stands; enough = omega arith; fits = fits; differs = λ e. cc; suits = writable v s range holds })
      refl (omega arith)

  pub send_part : Specials → (to_super : Bool) (s : List ℕ) (n : ℕ) (stack : Stack) (base depth p q : ℕ) → depth ≡ suc base + n → depth ≤ room stack
      → IsSelectorOf n s → (to_super ≡ true → HasOwner code) → One code.bytes (SendsTo (entries_of code.literals) to_super s n) p q
      → Part code room stack depth (suc base) p q
  send_part specials to_super s n stack base depth p q is fits sel owner o = by_number (sent_number to_super s) refl o.is
    where
      special : (super : Bool) (number : ℕ) → sent_number super s ≡ Some number → (get_or special_arguments number 0 ≡ n) × (number ≢ block_copy)
      special true number e = cc
      special false number e = specials s n number sel e

      by_own : (super : Bool) (number : ℕ) → (super ≡ true → HasOwner code) → o.instruction ≡ send_of super n number
          → slice_get (entries_of code.literals) number ≡ Some (frame.constant (symbol s)) → Part code room stack depth (suc base) p q
      by_own true number owned e found =
          straight code room (suc base)
          (record {
            stands = stands_as o.instruction (SendSuper n number) p q e o.stands.stands;
            enough = omega (arith, is);
            fits = fits;
            differs = λ e. cc;
            suits = ((s, found, sel), owned refl);
          }) refl (omega (arith, is))
      by_own false number owned e found =
          straight code room (suc base)
          (record {
            stands = stands_as o.instruction (Send n number) p q e o.stands.stands;
            enough = omega (arith, is);
            fits = fits;
            differs = λ e. cc;
            suits = (s, found, sel);
          }) refl (omega (arith, is))

      by_number : (by : Option ℕ) → sent_number to_super s ≡ by → SendsBy (entries_of code.literals) to_super s n by o.instruction → Part code room stack depth (suc base) p q
      by_number (Some number) e same =
          let (arguments, other) = special to_super number e in
          straight code room (suc base)
          (record {
            stands = stands_as o.instruction (SendSpecial number) p q same o.stands.stands;
            enough = omega (arith, is, arguments);
            fits = fits;
            differs = λ e. other (ap number_of e);
            suits = λ e. absurd (other e);
          }) refl (omega (arith, is, arguments))
      by_number None e (number, same, found) = by_own to_super number owner same found
