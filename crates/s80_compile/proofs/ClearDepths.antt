-- Points with all that they lead to are depths of a code, and no jump lands inside a block's beginning.
use Rattle.std.proofs.Common.{◌≡◌, ◌≢◌, ◌∙◌, ap, sym, subst, refl, ℕ, ◌+◌, ◌-◌, ◌≤◌, ◌⊎◌, inl, inr, Bool, true, false, Option, Some, None}
use Rattle.s80_code.specs.declared.code.Code.{Code}
use Rattle.s80_code.specs.declared.instruction.Instruction.{Instruction}
use Rattle.s80_code.specs.declared.instruction.Instruction.TheVariants.{SendSpecial}
use Rattle.s80_code.specs.Special.{block_copy}
use Rattle.s80_code.specs.Table.{Stands}
use Rattle.s80_verify.specs.declared.stack.Stack.{Stack}
use Rattle.s80_verify.specs.declared.stack.Stack.TheVariants.{OfHome, OfBlock}
use Rattle.s80_verify.specs.Effect.{takes, leaves, Jumps, Goes}
use Rattle.s80_verify.specs.Fault.{room_of, taken}
use Rattle.s80_verify.specs.Operands.{Suits}
use Rattle.s80_verify.specs.Reach.{IsPlace, IsInstruction, Begins, Continues, Leads}
use Rattle.s80_verify.specs.Record.{Fits, Depths, IsClear}
use Rattle.s80_verify.proofs.lemmas.PlaceLemmas.{same_instruction, moved, one_block}
use Rattle.s80_compile.proofs.Points.{Point, In, IsAt, Meets, IsCopy, AreDone}
use Rattle.s80_compile.proofs.ClearPoints.{is_place, one_point, depth_in, found_meets, meets_found}

-- an instruction that stands at a point is the point's
pub record IsPoints (point : Point) (i : Instruction) (next : ℕ) : Type 0 where
  pub instruction : point.instruction ≡ i
  pub place : point.next ≡ next

suits_copy : (code : Code) (at : ℕ) (stack : Stack) (i : Instruction) (arguments start : ℕ) → i ≡ SendSpecial block_copy → Begins code at arguments start → Suits code at stack i
suits_copy code at stack i arguments start e b = subst (λ (i : Instruction). Suits code at stack i) (sym e) (λ _. (arguments, start, b))

some_when : (o : Option ℕ) → o ≢ None → (depth : ℕ) × (o ≡ Some depth)
some_when None h = absurd (h refl)
some_when (Some depth) h = (depth, refl)

module _ (code : Code) (room : Stack → ℕ) (a : AreDone code room) where
  pub depth_of : Stack → ℕ → Option ℕ
  depth_of = depth_in a.points

  placed : (point : Point) → In a.points point → IsPlace code.bytes point.at
  placed point has = is_place code.bytes 0 a.end a.points point (0, refl) a.chain has

  one : (x y : Point) → In a.points x → In a.points y → x.at ≡ y.at → x ≡ y
  one x y has other e = one_point code.bytes 0 a.end a.points x y a.chain has other e

  found : (at : ℕ) (stack : Stack) (depth : ℕ) → Meets a.points at stack depth → depth_of stack at ≡ Some depth
  unfolding depth_of
  found at stack depth m = meets_found code.bytes 0 a.end a.points stack at depth a.chain m

  meets : (at : ℕ) (stack : Stack) (depth : ℕ) → depth_of stack at ≡ Some depth → Meets a.points at stack depth
  unfolding depth_of
  meets at stack depth e = found_meets a.points stack at depth e

  is_points : (point : Point) (at : ℕ) (i : Instruction) (next : ℕ) → In a.points point → point.at ≡ at → Stands code.bytes at i next → IsPoints point i next
  is_points point at i next has e s =
      let d = a.done point has in
      let same = same_instruction code.bytes at point.instruction i point.next next (moved code.bytes point.at at point.instruction point.next e d.stands) s in
      record { instruction = same.instruction; place = same.place }

  instruction_at : (at : ℕ) (inner : Bool) → IsAt a.points at inner → IsInstruction code.bytes at
  instruction_at at inner is =
      subst (λ (k : ℕ). IsInstruction code.bytes k) is.here
      (placed is.point is.has, (is.point.instruction, is.point.next, (a.done is.point is.has).stands))

  begins_at : (point : Point) (at : ℕ) → point.at ≡ at → (c : IsCopy code a.points point) → Begins code at c.arguments c.start
  begins_at point at e c =
      record {
        context = c.context;
        push = c.push;
        count = c.count;
        jump = c.jump;
        distance = c.distance;
        byte = c.byte;
        placed = (instruction_at c.context false c.placed).0;
        is_context = c.is_context;
        is_count = subst (λ (k : ℕ). Stands code.bytes c.push c.count k) e c.is_count;
        counted = c.counted;
        is_copy = moved code.bytes point.at at (SendSpecial block_copy) c.jump e c.is_copy;
        is_jump = c.is_jump;
        begun = c.begun;
        low = c.low;
        high = c.high;
      }

  suits_at : (point : Point) → In a.points point → Suits code point.at point.stack point.instruction
  suits_at point has = elim ((a.done point has).kind) [
    | inl ordinary ↦ ordinary.suits
    | inr copy ↦ suits_copy code point.at point.stack point.instruction copy.arguments copy.start copy.copies (begins_at point point.at refl copy)
  ]

  -- a block that begins at a point is the point's
  record IsBlock (at arguments start push jump : ℕ) : Type 0 where
    pub leads : Meets a.points start OfBlock arguments
    pub push_inner : IsAt a.points push true
    pub copy_inner : IsAt a.points at true
    pub jump_inner : IsAt a.points jump true

  is_block : (point : Point) (at arguments start : ℕ) → In a.points point → point.at ≡ at → (b : Begins code at arguments start) → IsBlock at arguments start b.push b.jump
  unfolding begins_at
  is_block point at arguments start has e b = elim ((a.done point has).kind) [
    | inl ordinary ↦ absurd (ordinary.differs (is_points point at (SendSpecial block_copy) b.jump has e b.is_copy).instruction)
    | inr copy ↦
        let same = one_block code at copy.arguments arguments copy.start start (begins_at point at e copy) b in
        record {
          leads = subst (λ (n : ℕ). Meets a.points start OfBlock n) same.arguments
              (subst (λ (k : ℕ). Meets a.points k OfBlock copy.arguments) same.start copy.starts);
          push_inner = subst (λ (k : ℕ). IsAt a.points k true) same.push copy.push_inner;
          copy_inner = subst (λ (k : ℕ). IsAt a.points k true) e copy.copy_inner;
          jump_inner = subst (λ (k : ℕ). IsAt a.points k true) same.jump copy.jump_inner;
        }
  ]

  -- ---- the depths

  fits_at : ((stack : Stack) (depth : ℕ) → depth ≤ room stack → taken code stack depth ≤ room_of code)
      → (stack : Stack) (at depth : ℕ) → Meets a.points at stack depth → Fits code at stack depth
  fits_at roomy stack at depth m =
      let point = m.point in
      let d = a.done point m.has in
      let fits : depth ≤ room stack = subst (λ (s : Stack). depth ≤ room s) m.on (subst (λ (n : ℕ). n ≤ room point.stack) m.deep d.fits) in
      record {
        instruction = point.instruction;
        next = point.next;
        stands = moved code.bytes point.at at point.instruction point.next m.here d.stands;
        enough = subst (λ (n : ℕ). takes point.instruction ≤ n) m.deep d.enough;
        room = roomy stack depth fits;
        suits = subst (λ (s : Stack). Suits code at s point.instruction) m.on
            (subst (λ (k : ℕ). Suits code k point.stack point.instruction) m.here (suits_at point m.has));
        lands = λ jumps. let j = d.jumps_somewhere jumps in (j.0, j.1, instruction_at j.0 false (d.jumps j.0 j.1));
      }

  goes_on_at : (stack other : Stack) (at depth to after : ℕ) → Meets a.points at stack depth → Continues code at stack depth to other after → Meets a.points to other after
  goes_on_at stack other at depth to after m c =
      let point = m.point in
      let p = is_points point at c.instruction c.next m.has m.here c.stands in
      let goes : Goes point.instruction point.next to =
      subst (λ (i : Instruction). Goes i point.next to) (sym p.instruction) (subst (λ (k : ℕ). Goes c.instruction k to) (sym p.place) c.leads) in
      let r = (a.done point m.has).goes to goes in
      record {
        point = r.point;
        has = r.has;
        here = r.here;
        on = r.on ∙ m.on ∙ sym c.same;
        deep =
            r.deep
            ∙ ap (λ i. (point.depth - takes i) + leaves i) p.instruction
            ∙ ap (λ n. (n - takes c.instruction) + leaves c.instruction) m.deep
            ∙ sym c.left;
      }

  leads_at : (stack other : Stack) (at depth to after : ℕ) → Meets a.points at stack depth → Leads code at stack depth to other after → Meets a.points to other after
  leads_at stack other at depth to after m (inl c) = goes_on_at stack other at depth to after m c
  leads_at stack other at depth to after m (inr (on, b)) =
      subst (λ (s : Stack). Meets a.points to s after) (sym on) (is_block m.point at after to m.has m.here b).leads

  pub depths_hold : ((stack : Stack) (depth : ℕ) → depth ≤ room stack → taken code stack depth ≤ room_of code) → Depths code depth_of
  depths_hold roomy =
      record {
        start = found 0 OfHome 0 a.begins;
        one = λ stack other at depth another e f.
            let m = meets at stack depth e in
            let n = meets at other another f in
            sym m.deep ∙ ap (λ x. x.depth) (one m.point n.point m.has n.has (m.here ∙ sym n.here)) ∙ n.deep;
        fits = λ stack at depth e. fits_at roomy stack at depth (meets at stack depth e);
        closed = λ stack other at depth to after e leads. found to other after (leads_at stack other at depth to after (meets at stack depth e) leads);
      }

  -- ---- no jump between

  not_both : (at : ℕ) → IsAt a.points at false → IsAt a.points at true → ⊥
  not_both at x y = differ (sym x.kind ∙ ap (λ p. p.inner) (one x.point y.point x.has y.has (x.here ∙ sym y.here)) ∙ y.kind)
    where
      differ : false ≡ true → ⊥
      differ e = cc

  is_clear : (to at arguments start push jump : ℕ) → IsAt a.points to false → IsBlock at arguments start push jump → (to ≡ push) ⊎ ((to ≡ at) ⊎ (to ≡ jump)) → ⊥
  is_clear to at arguments start push jump lands block (inl e) = not_both to lands (subst (λ (k : ℕ). IsAt a.points k true) (sym e) block.push_inner)
  is_clear to at arguments start push jump lands block (inr (inl e)) = not_both to lands (subst (λ (k : ℕ). IsAt a.points k true) (sym e) block.copy_inner)
  is_clear to at arguments start push jump lands block (inr (inr e)) = not_both to lands (subst (λ (k : ℕ). IsAt a.points k true) (sym e) block.jump_inner)

  jump_lands : (stack : Stack) (from next to depth : ℕ) (i : Instruction) → Meets a.points from stack depth → Stands code.bytes from i next → Jumps i next to → IsAt a.points to false
  jump_lands stack from next to depth i m s j =
      let p = is_points m.point from i next m.has m.here s in
      (a.done m.point m.has).jumps to
      (subst (λ (i : Instruction). Jumps i m.point.next to) (sym p.instruction) (subst (λ (k : ℕ). Jumps i k to) (sym p.place) j))

  pub clear_holds : IsClear code depth_of
  clear_holds stack other from next to at arguments start i has s j also b landed =
      let (depth, e) = some_when (depth_of stack from) has in
      let (another, f) = some_when (depth_of other at) also in
      let m = meets at other another f in
      is_clear to at arguments start b.push b.jump (jump_lands stack from next to depth i (meets from stack depth e) s j)
      (is_block m.point at arguments start m.has m.here b) landed
