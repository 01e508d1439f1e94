-- Instructions of one row over one frame are equal, as a frame has each constant and variable once. No induction.
use Rattle.std.proofs.Common.{◌≡◌, ◌∙◌, ap, sym, refl, ℕ, List, Bool, Option, Some, None}
use Rattle.s80_base.specs.Literal.{LiteralTree, symbol}
use Rattle.s80_code.specs.declared.instruction.Storage.{Storage}
use Rattle.s80_code.specs.declared.instruction.Storage.TheVariants.{Constant, Variable}
use Rattle.s80_code.specs.declared.instruction.Instruction.{Instruction}
use Rattle.s80_code.specs.declared.instruction.Instruction.TheVariants.{Push}
use Rattle.s80_code.specs.Entries as frame
use Rattle.s80_code.specs.Entries.{EntryTree}
use Rattle.s80_scope.specs.declared.fit.position.Position.{Position}
use Rattle.s80_core.specs.Core.{VariableTree, temporary, instance, class_variable, outer, LeafTree, variable, constant, receiver, context}
use Rattle.s80_core.specs.Measures.{fixed_number, sent_number}
use Rattle.s80_compile.specs.Rows.{Holds, PushesConstant, Pushes, stored, Stores, send_of, SendsBy, SendsTo}
use Rattle.s80_compile.proofs.OneFrame.{IsOnce}

module _ (entries : List EntryTree) (once : IsOnce entries) where
  one_storage : (v : VariableTree) (s t : Storage) → Holds entries v s → Holds entries v t → s ≡ t
  one_storage (temporary number) s t a b = a ∙ sym b
  one_storage (instance place) s t a b = a ∙ sym b
  one_storage (class_variable class word) s t (n, a, found) (k, b, again) =
      a ∙ ap (λ n. Variable n) (once (frame.class_variable class word) n k refl found again) ∙ sym b
  one_storage (outer word) s t (n, a, found) (k, b, again) = a ∙ ap (λ n. Variable n) (once (frame.outer word) n k refl found again) ∙ sym b

  one_constant : (v : LiteralTree) (fixed : Option ℕ) (i j : Instruction) → PushesConstant entries v fixed i → PushesConstant entries v fixed j → i ≡ j
  one_constant v (Some number) i j a b = a ∙ sym b
  one_constant v None i j (n, a, found) (k, b, again) = a ∙ ap (λ n. Push (Constant n)) (once (frame.constant v) n k refl found again) ∙ sym b

  pub one_push : (l : LeafTree) (i j : Instruction) → Pushes entries l i → Pushes entries l j → i ≡ j
  one_push (variable v) i j (s, a, holds) (t, b, again) = a ∙ ap (λ s. Push s) (one_storage v s t holds again) ∙ sym b
  one_push (constant v) i j a b = one_constant v (fixed_number v) i j a b
  one_push receiver i j a b = a ∙ sym b
  one_push context i j a b = a ∙ sym b

  pub one_store : (v : VariableTree) (position : Position) (i j : Instruction) → Stores entries v position i → Stores entries v position j → i ≡ j
  one_store v position i j (s, a, holds) (t, b, again) = a ∙ ap (λ s. stored position s) (one_storage v s t holds again) ∙ sym b

  one_send_by : (to_super : Bool) (s : List ℕ) (n : ℕ) (by : Option ℕ) (i j : Instruction) → SendsBy entries to_super s n by i → SendsBy entries to_super s n by j → i ≡ j
  one_send_by to_super s n (Some number) i j a b = a ∙ sym b
  one_send_by to_super s n None i j (number, a, found) (another, b, again) =
      a ∙ ap (λ k. send_of to_super n k) (once (frame.constant (symbol s)) number another refl found again) ∙ sym b

  pub one_send : (to_super : Bool) (s : List ℕ) (n : ℕ) (i j : Instruction) → SendsTo entries to_super s n i → SendsTo entries to_super s n j → i ≡ j
  one_send to_super s n i j a b = one_send_by to_super s n (sent_number to_super s) i j a b
