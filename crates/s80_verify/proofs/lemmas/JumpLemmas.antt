-- Where jumps land, and the faults of instructions.
use Rattle.std.proofs.Common.{◌≡◌, ◌≢◌, ◌∙◌, ap, sym, subst, refl, ℕ, zero, suc, ◌+◌, ◌-◌, ◌<◌, ◌≤◌, ◌≤ℤ◌, ◌<ℤ◌, ◌⊎◌, inl, inr, ℤ, pos, negsuc, ◌+ℤ◌, ◌^◌, List, [], ◌∷◌, ◌++◌, Option, Some, None, Bool, true, false, length, drop, slice_get, set, replicate, arith, rules, length-drop}
use Rattle.std.specs.Prelude.{SomeIff, unsigned_abs, option_map, if◌then◌else◌}
use Rattle.s80_code.specs.declared.code.Code.{Code}
use Rattle.s80_code.specs.declared.instruction.Instruction.{Instruction}
use Rattle.s80_code.specs.declared.instruction.Instruction.TheVariants.{Jump}
use Rattle.s80_code.specs.Table.{Stands, decoded, is_unused, width_of}
use Rattle.s80_code.proofs.lemmas.TableLemmas.{value, none_where}
use Rattle.s80_verify.specs.declared.stack.Stack.{Stack}
use Rattle.s80_verify.specs.declared.stack.Stack.TheVariants.{OfHome, OfBlock}
use Rattle.s80_verify.specs.declared.fault.VerifyKind.{VerifyKind}
use Rattle.s80_verify.specs.declared.fault.VerifyKind.TheVariants.{Short, JumpTarget, StackLow, StackDiffers, Operand}
use Rattle.s80_verify.specs.declared.point.Point.{Point}
use Rattle.s80_verify.specs.declared.search.Found.{Found}
use Rattle.s80_verify.specs.declared.search.Steps.{Steps}
use Rattle.s80_verify.specs.declared.operands.Beginning.{Beginning}
use Rattle.s80_verify.specs.Effect.{takes, leaves, goes_on, distance_of, Jumps, Goes}
use Rattle.s80_verify.specs.Reach.{IsInstruction, IsReached, Reached, Leads, Continues, Begins}
use Rattle.s80_verify.specs.Operands.{Suits, LandsBetween}
use Rattle.s80_verify.specs.Fault.{Fails, RunsAt, room_of, taken}
use Rattle.s80_verify.specs.Record.{Fits, IsClear}
use Rattle.s80_verify.specs.Found.{LandsAt, Clashes, depth_in, depths_in, IsKnown, point_at, IsSound, Grows, IsDone, IsStep, AreSteps, IsTarget, IsBegun, IsBeginning, IsBetween, AreBetween, SetsBetween, BetweenSoFar, JumpsClear, ClearSoFar}
use Rattle.s80_verify.proofs.lemmas.PlaceLemmas.{Same, same_instruction, goes_forward, ends_within, front_at}
use Rattle.s80_verify.proofs.FoundLemmas.{marked_reached, not_none}
use Rattle.s80_verify.proofs.lemmas.ListLemmas.{same_or_not, set_here, set_there, set_long, replicate_long, nothing_set, get_within, get_past, get_below}

pub lands_by : (z : ℤ) (o : Option ℕ) → SomeIff o ((pos 0 ≤ℤ z) × (z <ℤ pos (2 ^ 32))) (unsigned_abs z) → LandsAt z o
lands_by (pos n) (Some x) (fits, is) = ap pos is
lands_by (negsuc n) (Some x) (fits, is) = absurd fits.0.le
lands_by z None none = λ to small e.
    let low : 0 ≤ to = omega arith in
    let high : to < 2 ^ 32 = omega (arith, small) in
    none (subst (λ (y : ℤ). (pos 0 ≤ℤ y) × (y <ℤ pos (2 ^ 32))) e (search rules, search rules))

pub same_place : (a b : ℕ) → pos a ≡ pos b → a ≡ b
same_place a b e = cc

pub jump_is : (i : Instruction) (next to : ℕ) (distance : ℤ) → distance_of i ≡ Some distance → Jumps i next to → pos to ≡ pos next +ℤ distance
jump_is i next to distance e (d, f, g) = g ∙ ap (λ x. pos next +ℤ x) (value (sym f ∙ e))

pub does_jump : (i : Instruction) (distance : ℤ) → distance_of i ≡ Some distance → distance_of i ≢ None
does_jump i distance e none = let both = sym e ∙ none in cc

pub runs : (code : Code) (at : ℕ) (stack : Stack) (depth : ℕ) (i : Instruction) (next : ℕ) → Reached code at stack depth → Stands code.bytes at i next → RunsAt code at
runs code at stack depth i next r s = record { stack = stack; depth = depth; instruction = i; next = next; reached = r; stands = s }

pub no_target : (code : Code) (at : ℕ) (stack : Stack) (depth : ℕ) (i : Instruction) (next : ℕ) (distance : ℤ) → length code.bytes < 1024 → Reached code at stack depth → Stands code.bytes at i next
    → distance_of i ≡ Some distance → LandsAt (pos next +ℤ distance) None → Fails code JumpTarget at
no_target code at stack depth i next distance short r s e none = (
  record { stack = stack; depth = depth; instruction = i; next = next; reached = r; stands = s },
  does_jump i distance e,
  λ to jumps is. none to (omega (arith, goes_forward code.bytes to is.1.0 is.1.1 is.1.2, ends_within code.bytes to is.1.0 is.1.1 is.1.2, short)) (jump_is i next to distance e jumps),
)

pub bad_target : (code : Code) (at : ℕ) (stack : Stack) (depth : ℕ) (i : Instruction) (next to : ℕ) (distance : ℤ) → Reached code at stack depth → Stands code.bytes at i next
    → distance_of i ≡ Some distance → pos to ≡ pos next +ℤ distance → (IsInstruction code.bytes to → ⊥) → Fails code JumpTarget at
bad_target code at stack depth i next to distance r s e lands none = (
  record { stack = stack; depth = depth; instruction = i; next = next; reached = r; stands = s },
  does_jump i distance e,
  λ other jumps is. none (subst (λ (q : ℕ). IsInstruction code.bytes q) (same_place other to (jump_is i next other distance e jumps ∙ sym lands)) is),
)

pub is_short : (code : Code) (at byte : ℕ) → IsReached code at → decoded (drop at code.bytes) ≡ None → slice_get code.bytes at ≡ Some byte → is_unused byte ≡ false → byte < 256 → Fails code Short at
is_short code at byte r none got used small =
    let front = front_at code.bytes at byte got in
    let long : length (drop at code.bytes) ≡ length (byte ∷ drop (suc at) code.bytes) = ap (λ l. length l) front in
    let left : length (drop at code.bytes) ≡ length code.bytes - at = length-drop at code.bytes in
    elim (none_where byte (drop (suc at) code.bytes) small (sym (ap decoded front) ∙ none)) [
      | inl unused ↦ absurd (let both = sym used ∙ unused in cc)
      | inr short ↦ (r, (byte, got, used, omega (arith, long, left, short, get_within code.bytes at byte got)))
    ]

pub clashing : (code : Code) (found : Found) (point : Point) → IsSound code found → Reached code point.at point.stack point.depth → Clashes found.marks point → Fails code StackDiffers point.at
clashing code found point h r (stack, another, e, differs) =
    (point.stack, stack, point.depth, another, r, marked_reached code found h stack point.at another e, differs)

pub below : (code : Code) (found : Found) (n : ℕ) (point : Point) → IsSound code found → slice_get found.points n ≡ Some point → n < 2048
below code found n point h e = omega (arith, h.count, get_within found.points n point e)

pub is_low : (code : Code) (at : ℕ) (stack : Stack) (depth : ℕ) (i : Instruction) (next : ℕ) → Reached code at stack depth → Stands code.bytes at i next → depth < takes i → Fails code StackLow at
is_low code at stack depth i next r s low = (record { stack = stack; depth = depth; instruction = i; next = next; reached = r; stands = s }, low)

pub is_unfit : (code : Code) (at : ℕ) (stack : Stack) (depth : ℕ) (i : Instruction) (next : ℕ) → Reached code at stack depth → Stands code.bytes at i next → (Suits code at stack i → ⊥) → Fails code Operand at
is_unfit code at stack depth i next r s bad = (record { stack = stack; depth = depth; instruction = i; next = next; reached = r; stands = s }, inl bad)

pub lands_between : (code : Code) (found : Found) (at : ℕ) (i : Instruction) (next to : ℕ) (distance : ℤ) → IsSound code found → IsReached code at → Stands code.bytes at i next
    → distance_of i ≡ Some distance → pos to ≡ pos next +ℤ distance → IsBetween code found to → Fails code Operand at
lands_between code found at i next to distance h (stack, depth, r) s e lands b = (
  record { stack = stack; depth = depth; instruction = i; next = next; reached = r; stands = s },
  inr (record {
    to = to;
    jumps = (distance, e, lands);
    at = b.at;
    arguments = b.arguments;
    start = b.start;
    begins = b.begins;
    reached = (b.stack, b.depth, marked_reached code found h b.stack b.at b.depth b.marked);
    landed = b.here;
  }),
)

-- the steps of a point
pub step_to : (o : Option ℕ) (stack : Stack) (depth : ℕ) (p : Point) → option_map (λ at. point_at at stack depth) o ≡ Some p → (at : ℕ) × (o ≡ Some at) × (point_at at stack depth ≡ p)
step_to None stack depth p e = cc
step_to (Some at) stack depth p e = (at, refl, value e)

pub block_to : (o : Option Beginning) (p : Point) → option_map (λ (b : Beginning). point_at b.start OfBlock b.arguments) o ≡ Some p → (b : Beginning) × (o ≡ Some b) × (point_at b.start OfBlock b.arguments ≡ p)
block_to None p e = cc
block_to (Some b) p e = (b, refl, value e)

pub goes_behind : (b : Bool) (next at : ℕ) → (if b then Some next else None) ≡ Some at → (b ≡ true) × (at ≡ next)
goes_behind true next at e = (refl, sym (value e))
goes_behind false next at e = cc

pub target_is : (code : Code) (i : Instruction) (next at : ℕ) (o : Option ℕ) → IsTarget code i next o → o ≡ Some at → Jumps i next at × IsInstruction code.bytes at
target_is code i next at None t e = cc
target_is code i next at (Some to) t e = subst (λ (q : ℕ). Jumps i next q × IsInstruction code.bytes q) (value e) t

pub begun_is : (code : Code) (at : ℕ) (o : Option Beginning) (b : Beginning) → IsBeginning code at o → o ≡ Some b → IsBegun code at b
begun_is code at None b t e = cc
begun_is code at (Some c) b t e = subst (λ (d : Beginning). IsBegun code at d) (value e) t

pub target_of : (code : Code) (i : Instruction) (next to : ℕ) (o : Option ℕ) → IsTarget code i next o → Jumps i next to → o ≡ Some to
target_of code i next to None t (d, e, f) = absurd (let both = sym t ∙ e in cc)
target_of code i next to (Some q) (j, is) jumps =
    ap (λ x. Some x) (same_place q to (jump_is i next q j.0 j.1 j ∙ sym (jump_is i next to j.0 j.1 jumps)))

pub begun_of : (code : Code) (at arguments start : ℕ) (o : Option Beginning) → IsBeginning code at o → Begins code at arguments start → (b : Beginning) × (o ≡ Some b) × (b.arguments ≡ arguments) × (b.start ≡ start)
begun_of code at arguments start None t b = absurd (t arguments start b)
begun_of code at arguments start (Some c) t b = let o = t.only arguments start b in (c, refl, sym o.0, sym o.1)

pub record Parts (code : Code) (from : Point) (i : Instruction) (next : ℕ) (to : Option ℕ) (block : Option Beginning) (steps : Steps) : Type 0 where
  pub stands : Stands code.bytes from.at i next
  pub enough : takes i ≤ from.depth
  pub target : IsTarget code i next to
  pub beginning : IsBeginning code from.at block
  pub behind : steps.behind ≡ option_map (λ at. point_at at from.stack ((from.depth - takes i) + leaves i)) (if goes_on i then Some next else None)
  pub jump : steps.jump ≡ option_map (λ at. point_at at from.stack ((from.depth - takes i) + leaves i)) to
  pub start : steps.block ≡ option_map (λ (b : Beginning). point_at b.start OfBlock b.arguments) block

pub goes_step : (code : Code) (from : Point) (i : Instruction) (next to : ℕ) → Stands code.bytes from.at i next → takes i ≤ from.depth → Goes i next to → (p : Point) → point_at to from.stack ((from.depth - takes i) + leaves i) ≡ p → to ≤ length code.bytes
    → Leads code from.at from.stack from.depth p.at p.stack p.depth × (p.at ≤ length code.bytes)
goes_step code from i next to s enough goes p e within =
    subst (λ (q : Point). Leads code from.at from.stack from.depth q.at q.stack q.depth × (q.at ≤ length code.bytes)) e
    (inl (record { instruction = i; next = next; stands = s; enough = enough; leads = goes; same = refl; left = refl }), within)

pub each_step : (code : Code) (from : Point) (i : Instruction) (next : ℕ) (to : Option ℕ) (block : Option Beginning) (steps : Steps) → Parts code from i next to block steps → (p : Point) → IsStep steps p
    → Leads code from.at from.stack from.depth p.at p.stack p.depth × (p.at ≤ length code.bytes)
each_step code from i next to block steps h p (inl e) =
    let (at, o, is) = step_to (if goes_on i then Some next else None) from.stack ((from.depth - takes i) + leaves i) p (sym h.behind ∙ e) in
    let g = goes_behind (goes_on i) next at o in
    goes_step code from i next at h.stands h.enough (inl (g.0, g.1)) p is (omega (arith, g.1, ends_within code.bytes from.at i next h.stands))
each_step code from i next to block steps h p (inr (inl e)) =
    let (at, o, is) = step_to to from.stack ((from.depth - takes i) + leaves i) p (sym h.jump ∙ e) in
    let t = target_is code i next at to h.target o in
    goes_step code from i next at h.stands h.enough (inr t.0) p is (omega (arith, goes_forward code.bytes at t.1.1.0 t.1.1.1 t.1.1.2, ends_within code.bytes at t.1.1.0 t.1.1.1 t.1.1.2))
each_step code from i next to block steps h p (inr (inr e)) =
    let (b, o, is) = block_to block p (sym h.start ∙ e) in
    let begun = begun_is code from.at block b h.beginning o in
    subst (λ (q : Point). Leads code from.at from.stack from.depth q.at q.stack q.depth × (q.at ≤ length code.bytes)) is
    (inr (refl, begun.begins), ends_within code.bytes begun.begins.jump (Jump begun.begins.distance) b.start begun.begins.is_jump)

pub point_same : (at : ℕ) (stack other : Stack) (depth after : ℕ) → other ≡ stack → after ≡ depth → point_at at stack depth ≡ point_at at other after
point_same at stack other depth after e f = ap (λ s. point_at at s depth) (sym e) ∙ ap (λ d. point_at at other d) (sym f)

pub goes_on_is : (i : Instruction) (next to : ℕ) → goes_on i ≡ true → to ≡ next → (if goes_on i then Some next else None) ≡ Some to
goes_on_is i next to e f = rw e (ap (λ x. Some x) (sym f))

pub whole_steps : (code : Code) (from : Point) (i : Instruction) (next : ℕ) (to : Option ℕ) (block : Option Beginning) (steps : Steps) → Parts code from i next to block steps
    → (other : Stack) (q after : ℕ) → Leads code from.at from.stack from.depth q other after → IsStep steps (point_at q other after)
whole_steps code from i next to block steps h other q after (inl c) = steps_there same.instruction same.place c.leads c.same c.left
  where
    same : Same c.instruction i c.next next
    same = same_instruction code.bytes from.at c.instruction i c.next next c.stands h.stands

    steps_there : c.instruction ≡ i → c.next ≡ next → Goes c.instruction c.next q → other ≡ from.stack → after ≡ (from.depth - takes c.instruction) + leaves c.instruction → IsStep steps (point_at q other after)
    steps_there e f goes s d = goes_here (subst (λ (j : Instruction). Goes j next q) e (subst (λ (n : ℕ). Goes c.instruction n q) f goes)) s (d ∙ ap (λ j. (from.depth - takes j) + leaves j) e)
      where
        goes_here : Goes i next q → other ≡ from.stack → after ≡ (from.depth - takes i) + leaves i → IsStep steps (point_at q other after)
        goes_here (inl (on, is)) s d = inl (h.behind ∙ ap (λ o. option_map (λ at. point_at at from.stack ((from.depth - takes i) + leaves i)) o) (goes_on_is i next q on is) ∙ ap (λ p. Some p) (point_same q from.stack other ((from.depth - takes i) + leaves i) after s d))
        goes_here (inr jumps) s d = inr (inl (h.jump ∙ ap (λ o. option_map (λ at. point_at at from.stack ((from.depth - takes i) + leaves i)) o) (target_of code i next q to h.target jumps) ∙ ap (λ p. Some p) (point_same q from.stack other ((from.depth - takes i) + leaves i) after s d)))
whole_steps code from i next to block steps h other q after (inr (on, b)) =
    let (c, o, arguments, start) = begun_of code from.at after q block h.beginning b in
    inr (inr (h.start ∙ ap (λ x. option_map (λ (d : Beginning). point_at d.start OfBlock d.arguments) x) o
    ∙ ap (λ p. Some p) (ap (λ s. point_at s OfBlock c.arguments) start ∙ point_same q OfBlock other c.arguments after on (sym arguments))))

pub are_steps : (code : Code) (from : Point) (i : Instruction) (next : ℕ) (to : Option ℕ) (block : Option Beginning) (steps : Steps) → Parts code from i next to block steps → AreSteps code from steps
are_steps code from i next to block steps h = record { each = each_step code from i next to block steps h; whole = whole_steps code from i next to block steps h }

pub lands_well : (code : Code) (i : Instruction) (next : ℕ) (to : Option ℕ) → IsTarget code i next to → distance_of i ≢ None → (q : ℕ) × Jumps i next q × IsInstruction code.bytes q
lands_well code i next None t jumps = absurd (jumps t)
lands_well code i next (Some to) t jumps = (to, t.0, t.1)

-- the places between
pub none_between : (code : Code) (found : Found) → BetweenSoFar code found (replicate 1024 false) 0
none_between code found =
    record {
      long = replicate_long false 1024;
      sound = λ place e. absurd (let both = nothing_set false 1024 place true e in cc);
      whole = λ k point upto. absurd (omega (arith, upto));
    }

pub still_set : (xs : List Bool) (k j : ℕ) → slice_get xs j ≡ Some true → slice_get (set xs k true) j ≡ Some true
still_set xs k j e =
    elim (same_or_not j k) [
      | inl same ↦ ap (λ q. slice_get (set xs k true) q) same ∙ set_here xs k true (omega (arith, same, get_within xs j true e))
      | inr differs ↦ set_there xs k j true differs ∙ e
    ]

pub was_set : (xs : List Bool) (k j : ℕ) → slice_get (set xs k true) j ≡ Some true → (j ≡ k) ⊎ (slice_get xs j ≡ Some true)
was_set xs k j e =
    elim (same_or_not j k) [
      | inl same ↦ inl same
      | inr differs ↦ inr (sym (set_there xs k j true differs) ∙ e)
    ]

pub newly_set : (xs : List Bool) (k j : ℕ) → j ≡ k → k < length xs → slice_get (set xs k true) j ≡ Some true
newly_set xs k j e h = ap (λ q. slice_get (set xs k true) q) e ∙ set_here xs k true h

pub more_between : (code : Code) (found : Found) (old : List Bool) (n : ℕ) (point : Point) (block : Beginning) → length code.bytes < 1024 → IsSound code found → BetweenSoFar code found old n → slice_get found.points n ≡ Some point
    → IsBegun code point.at block → BetweenSoFar code found (set (set (set old block.push true) point.at true) block.jump true) (n + 1)
more_between code found old n point block short h b got begun = record { long = set_long two block.jump true ∙ set_long one point.at true ∙ set_long old block.push true ∙ b.long; sound = sound; whole = whole }
  where
    one : List Bool
    one = set old block.push true

    two : List Bool
    two = set one point.at true

    known : IsKnown code found.marks point
    known = h.known n point got

    is_between : (place : ℕ) → (place ≡ begun.begins.push) ⊎ ((place ≡ point.at) ⊎ (place ≡ begun.begins.jump)) → IsBetween code found place
    is_between place here = record { stack = point.stack; at = point.at; depth = point.depth; marked = known.marked; arguments = block.arguments; start = block.start; begins = begun.begins; here = here }

    sound : (place : ℕ) → slice_get (set two block.jump true) place ≡ Some true → IsBetween code found place
    sound place e = elim (was_set two block.jump place e) [
      | inl jump ↦ is_between place (inr (inr (jump ∙ sym begun.jump)))
      | inr f ↦ elim (was_set one point.at place f) [
        | inl at ↦ is_between place (inr (inl at))
        | inr g ↦ elim (was_set old block.push place g) [
          | inl push ↦ is_between place (inl (push ∙ sym begun.push))
          | inr before ↦ b.sound place before
        ]
      ]
    ]

    push_within : block.push < length old
    push_within = omega (arith, b.long, begun.push, short, goes_forward code.bytes begun.begins.push begun.begins.count point.at begun.begins.is_count, ends_within code.bytes begun.begins.push begun.begins.count point.at begun.begins.is_count)

    at_within : point.at < length one
    at_within = omega (arith, b.long, known.within, short, set_long old block.push true)

    jump_within : block.jump < length two
    jump_within = omega (arith, b.long, begun.jump, short, set_long old block.push true, set_long one point.at true, goes_forward code.bytes begun.begins.jump (Jump begun.begins.distance) block.start begun.begins.is_jump, ends_within code.bytes begun.begins.jump (Jump begun.begins.distance) block.start begun.begins.is_jump)

    here : (arguments start : ℕ) (c : Begins code point.at arguments start) (place : ℕ) → (place ≡ c.push) ⊎ ((place ≡ point.at) ⊎ (place ≡ c.jump)) → slice_get (set two block.jump true) place ≡ Some true
    here arguments start c place (inl push) = still_set two block.jump place (still_set one point.at place (newly_set old block.push place (push ∙ (begun.only arguments start c).2) push_within))
    here arguments start c place (inr (inl at)) = still_set two block.jump place (newly_set one point.at place at at_within)
    here arguments start c place (inr (inr jump)) = newly_set two block.jump place (jump ∙ (begun.only arguments start c).3) jump_within

    whole : (k : ℕ) (other : Point) → suc k ≤ n + 1 → slice_get found.points k ≡ Some other → (arguments start : ℕ) (c : Begins code other.at arguments start) (place : ℕ)
        → (place ≡ c.push) ⊎ ((place ≡ other.at) ⊎ (place ≡ c.jump)) → slice_get (set two block.jump true) place ≡ Some true
    whole k other upto e = elim (same_or_not k n) [
      | inl same ↦
          let is : Some point ≡ Some other = sym got ∙ ap (λ j. slice_get found.points j) (sym same) ∙ e in
          subst (λ (p : Point). (arguments start : ℕ) (c : Begins code p.at arguments start) (place : ℕ) → (place ≡ c.push) ⊎ ((place ≡ p.at) ⊎ (place ≡ c.jump)) → slice_get (set two block.jump true) place ≡ Some true) (value is) here
      | inr differs ↦ λ arguments start c place landed.
          still_set two block.jump place (still_set one point.at place (still_set old block.push place (b.whole k other (omega (arith, upto, differs)) e arguments start c place landed)))
    ]

pub same_between : (code : Code) (found : Found) (old : List Bool) (n : ℕ) (point : Point) → BetweenSoFar code found old n → slice_get found.points n ≡ Some point → IsBeginning code point.at None → BetweenSoFar code found old (n + 1)
same_between code found old n point b got none = record { long = b.long; sound = b.sound; whole = whole }
  where
    whole : (k : ℕ) (other : Point) → suc k ≤ n + 1 → slice_get found.points k ≡ Some other → (arguments start : ℕ) (c : Begins code other.at arguments start) (place : ℕ)
        → (place ≡ c.push) ⊎ ((place ≡ other.at) ⊎ (place ≡ c.jump)) → slice_get old place ≡ Some true
    whole k other upto e = elim (same_or_not k n) [
      | inl same ↦
          let is : Some point ≡ Some other = sym got ∙ ap (λ j. slice_get found.points j) (sym same) ∙ e in
          let gone : IsBeginning code other.at None = subst (λ (p : Point). IsBeginning code p.at None) (value is) none in
          λ arguments start c place landed. absurd (gone arguments start c)
      | inr differs ↦ b.whole k other (omega (arith, upto, differs)) e
    ]

pub between_step : (code : Code) (found : Found) (old new : List Bool) (n : ℕ) (point : Point) (o : Option Beginning) → length code.bytes < 1024 → IsSound code found → BetweenSoFar code found old n → slice_get found.points n ≡ Some point
    → IsBeginning code point.at o → SetsBetween old new point.at o → BetweenSoFar code found new (n + 1)
between_step code found old new n point None short h b got none sets =
    subst (λ (l : List Bool). BetweenSoFar code found l (n + 1)) (sym sets) (same_between code found old n point b got none)
between_step code found old new n point (Some block) short h b got begun sets =
    subst (λ (l : List Bool). BetweenSoFar code found l (n + 1)) (sym sets) (more_between code found old n point block short h b got begun)

pub all_between : (code : Code) (found : Found) (between : List Bool) (n : ℕ) → IsSound code found → BetweenSoFar code found between n → slice_get found.points n ≡ None → AreBetween code found between
all_between code found between n h b last = λ place. (
  b.sound place,
  λ x.
      let (k, got) = h.listed x.stack x.at x.depth x.marked in
      b.whole k (point_at x.at x.stack x.depth) (get_past found.points k n (point_at x.at x.stack x.depth) last got) got x.arguments x.start x.begins place x.here,
)

-- no jump lands there
pub clear_more : (code : Code) (found : Found) (n : ℕ) (point : Point) → ClearSoFar code found n → slice_get found.points n ≡ Some point → JumpsClear code found point.at → ClearSoFar code found (n + 1)
clear_more code found n point h got clear k other upto e =
    elim (same_or_not k n) [
      | inl same ↦
          let is : Some point ≡ Some other = sym got ∙ ap (λ j. slice_get found.points j) (sym same) ∙ e in
          subst (λ (p : Point). JumpsClear code found p.at) (value is) clear
      | inr differs ↦ h k other (omega (arith, upto, differs)) e
    ]

pub all_clear : (code : Code) (found : Found) (n : ℕ) → IsSound code found → ClearSoFar code found n → slice_get found.points n ≡ None → IsClear code (depths_in found)
all_clear code found n h clear last stack other from next to at arguments start i here s jumps there b landed =
    let (d, e) = not_none (depth_in found.marks stack from) here in
    let (f, g) = not_none (depth_in found.marks other at) there in
    let (k, got) = h.listed stack from d e in
    clear k (point_at from stack d) (get_past found.points k n (point_at from stack d) last got) got i next to s jumps
    (record { stack = other; at = at; depth = f; marked = g; arguments = arguments; start = start; begins = b; here = landed })

pub step_equal : (o r : Option ℕ) (result : Option Point) (stack : Stack) (depth t l u m : ℕ) → t ≡ u → l ≡ m → o ≡ r
    → result ≡ option_map (λ at. point_at at stack ((depth - t) + l)) o → result ≡ option_map (λ at. point_at at stack ((depth - u) + m)) r
step_equal o r result stack depth t l u m e f g h =
    h ∙ ap (λ x. option_map (λ at. point_at at stack ((depth - x) + l)) o) e ∙ ap (λ x. option_map (λ at. point_at at stack ((depth - u) + x)) o) f
    ∙ ap (λ x. option_map (λ at. point_at at stack ((depth - u) + m)) x) g
