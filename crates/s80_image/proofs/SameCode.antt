-- Codes that look alike have the same faults.
use Rattle.std.proofs.Common.{◌≡◌, ℕ, zero, suc, ◌⊎◌, inl, inr, ◌+◌, ◌*◌, [], ◌∷◌, sym, ap, subst, ◌∙◌}
use Rattle.std.specs.Prelude.{slice_get, length}
use Rattle.s80_code.specs.declared.code.Code.{Code}
use Rattle.s80_code.specs.declared.code.Frame.{Frame}
use Rattle.s80_code.specs.declared.instruction.Instruction.{Instruction}
use Rattle.s80_code.specs.declared.instruction.Instruction.TheVariants.{Push, Store, PopInto, PushFixed, ReturnFixed, ReturnTop, ReturnFromBlock, Send, SendSuper, SendSpecial, Pop, Duplicate, PushContext, Jump, JumpOnTrue, JumpOnFalse}
use Rattle.s80_code.specs.declared.instruction.Storage.{Storage}
use Rattle.s80_code.specs.declared.instruction.Storage.TheVariants.{Receiver, Temporary, Constant, Variable}
use Rattle.s80_code.specs.Entries.{entries_of, extension, owner}
use Rattle.s80_verify.specs.declared.stack.Stack.{Stack}
use Rattle.s80_verify.specs.declared.fault.VerifyKind.{VerifyKind}
use Rattle.s80_verify.specs.declared.fault.VerifyKind.TheVariants as kinds
use Rattle.s80_verify.specs.Fault.{Fails, IsVerified, RunsAt}
use Rattle.s80_verify.specs.Header.{HeaderFits, IsShort, IsExtended, EndsPlain, EndsIn}
use Rattle.s80_verify.specs.Operands.{HasVariable, HasOwner, IsReadable, IsWritable, LandsBetween, Sends, Suits}
use Rattle.s80_verify.specs.Reach.{Begins, Counts, IsReached, Leads, Reached, ReachedIn}
use Rattle.s80_image.specs.Methods.{CodeView, code_of}

abbrev with_frame : Code → Frame → Code
with_frame c f = record c { literals = f }

-- a frame in the place of another with the same entries
module _ (c : Code) (f g : Frame) (e : entries_of f ≡ entries_of g) where
  counts : (i : Instruction) (n : ℕ) → Counts (with_frame c f) i n → Counts (with_frame c g) i n
  counts (PushFixed k) n p = p
  counts (Push (Constant k)) n p = (ap (λ es. slice_get es k) (sym e) ∙ p.0, p.1)
  counts (Push (Receiver k)) n p = absurd p
  counts (Push (Temporary k)) n p = absurd p
  counts (Push (Variable k)) n p = absurd p
  counts (Store s) n p = absurd p
  counts (PopInto s) n p = absurd p
  counts (ReturnFixed k) n p = absurd p
  counts ReturnTop n p = absurd p
  counts ReturnFromBlock n p = absurd p
  counts (Send a s) n p = absurd p
  counts (SendSuper a s) n p = absurd p
  counts (SendSpecial k) n p = absurd p
  counts Pop n p = absurd p
  counts Duplicate n p = absurd p
  counts PushContext n p = absurd p
  counts (Jump d) n p = absurd p
  counts (JumpOnTrue d) n p = absurd p
  counts (JumpOnFalse d) n p = absurd p

  begins : (at arguments start : ℕ) → Begins (with_frame c f) at arguments start → Begins (with_frame c g) at arguments start
  begins at arguments start b = record {
    context = b.context;
    push = b.push;
    count = b.count;
    jump = b.jump;
    distance = b.distance;
    byte = b.byte;
    placed = b.placed;
    is_context = b.is_context;
    is_count = b.is_count;
    counted = counts b.count arguments b.counted;
    is_copy = b.is_copy;
    is_jump = b.is_jump;
    begun = b.begun;
    low = b.low;
    high = b.high;
  }

  leads : (at : ℕ) (stack : Stack) (depth to : ℕ) (other : Stack) (after : ℕ) → Leads (with_frame c f) at stack depth to other after → Leads (with_frame c g) at stack depth to other after
  leads at stack depth to other after (inl k) = inl (record { instruction = k.instruction; next = k.next; stands = k.stands; enough = k.enough; leads = k.leads; same = k.same; left = k.left })
  leads at stack depth to other after (inr (o, b)) = inr (o, begins at after to b)

  reached_in : (n at : ℕ) (stack : Stack) (depth : ℕ) → ReachedIn (with_frame c f) n at stack depth → ReachedIn (with_frame c g) n at stack depth
  reached_in zero at stack depth p = p
  reached_in (suc n) at stack depth (before, under, held, r, l) = (before, under, held, reached_in n before under held r, leads before under held at stack depth l)

  reached : (at : ℕ) (stack : Stack) (depth : ℕ) → Reached (with_frame c f) at stack depth → Reached (with_frame c g) at stack depth
  reached at stack depth (n, r) = (n, reached_in n at stack depth r)

  is_reached : (at : ℕ) → IsReached (with_frame c f) at → IsReached (with_frame c g) at
  is_reached at (stack, depth, r) = (stack, depth, reached at stack depth r)

  runs : (at : ℕ) → RunsAt (with_frame c f) at → RunsAt (with_frame c g) at
  runs at r = record { stack = r.stack; depth = r.depth; instruction = r.instruction; next = r.next; reached = reached at r.stack r.depth r.reached; stands = r.stands }

  header : HeaderFits (with_frame c f) → HeaderFits (with_frame c g)
  header h = record { arguments = h.arguments; temporaries = h.temporaries; flag = both h.flag }
    where
      both : IsShort (with_frame c f) ⊎ IsExtended (with_frame c f) → IsShort (with_frame c g) ⊎ IsExtended (with_frame c g)
      both (inl s) = inl (record { few = s.few; counts = s.counts; no_primitive = s.no_primitive; ending = subst EndsPlain e s.ending })
      both (inr s) = inr (record { flagged = s.flagged; needed = s.needed; class = s.class; side = s.side; ending = subst (λ es. EndsIn (extension (c.arguments * 256 + c.primitive) ∷ owner s.class s.side ∷ []) es) e s.ending })

  variable : (k : ℕ) → HasVariable (with_frame c f) k → HasVariable (with_frame c g) k
  variable k (inl (class, name, p)) = inl (class, name, ap (λ es. slice_get es k) (sym e) ∙ p)
  variable k (inr (name, p)) = inr (name, ap (λ es. slice_get es k) (sym e) ∙ p)

  readable : (s : Storage) → IsReadable (with_frame c f) s → IsReadable (with_frame c g) s
  readable (Receiver k) p = p
  readable (Temporary k) p = p
  readable (Constant k) (value, p) = (value, ap (λ es. slice_get es k) (sym e) ∙ p)
  readable (Variable k) p = variable k p

  writable : (s : Storage) → IsWritable (with_frame c f) s → IsWritable (with_frame c g) s
  writable (Receiver k) p = p
  writable (Temporary k) p = p
  writable (Constant k) p = p
  writable (Variable k) p = variable k p

  sends : (a k : ℕ) → Sends (with_frame c f) a k → Sends (with_frame c g) a k
  sends a k (word, p, s) = (word, ap (λ es. slice_get es k) (sym e) ∙ p, s)

  has_owner : HasOwner (with_frame c f) → HasOwner (with_frame c g)
  has_owner (last, class, side, l, p) = (last, class, side, ap length (sym e) ∙ l, ap (λ es. slice_get es last) (sym e) ∙ p)

  suits : (at : ℕ) (stack : Stack) (i : Instruction) → Suits (with_frame c f) at stack i → Suits (with_frame c g) at stack i
  suits at stack (Push s) p = readable s p
  suits at stack (Store s) p = writable s p
  suits at stack (PopInto s) p = writable s p
  suits at stack (PushFixed k) p = p
  suits at stack (ReturnFixed k) p = p
  suits at stack ReturnTop p = p
  suits at stack ReturnFromBlock p = p
  suits at stack (Send a k) p = sends a k p
  suits at stack (SendSuper a k) (p, o) = (sends a k p, has_owner o)
  suits at stack (SendSpecial k) p = λ is. let b = p is in (b.0, b.1, begins at b.0 b.1 b.2)
  suits at stack Pop p = p
  suits at stack Duplicate p = p
  suits at stack PushContext p = p
  suits at stack (Jump d) p = p
  suits at stack (JumpOnTrue d) p = p
  suits at stack (JumpOnFalse d) p = p

  lands : (i : Instruction) (next : ℕ) → LandsBetween (with_frame c f) i next → LandsBetween (with_frame c g) i next
  unfolding begins
  lands i next l = record { to = l.to; jumps = l.jumps; at = l.at; arguments = l.arguments; start = l.start; begins = begins l.at l.arguments l.start l.begins; reached = is_reached l.at l.reached; landed = l.landed }

fails_so : (c : Code) (f g : Frame) (e : entries_of f ≡ entries_of g) (kind : VerifyKind) (at : ℕ) → Fails (with_frame c f) kind at → Fails (with_frame c g) kind at
unfolding runs
fails_so c f g e kinds.Header at (z, wrong) = (z, λ h. wrong (header c g f (sym e) h))
fails_so c f g e kinds.TooLong at p = p
fails_so c f g e kinds.Unused at (r, p) = (is_reached c f g e at r, p)
fails_so c f g e kinds.Short at (r, p) = (is_reached c f g e at r, p)
fails_so c f g e kinds.JumpTarget at (run, p, wrong) = (runs c f g e at run, p, wrong)
fails_so c f g e kinds.StackLow at (run, p) = (runs c f g e at run, p)
fails_so c f g e kinds.StackHigh at (stack, depth, r, p) = (stack, depth, reached c f g e at stack depth r, p)
fails_so c f g e kinds.StackDiffers at (stack, other, depth, another, r, s, p) = (stack, other, depth, another, reached c f g e at stack depth r, reached c f g e at other another s, p)
fails_so c f g e kinds.Operand at (run, inl wrong) = (runs c f g e at run, inl (λ s. wrong (suits c g f (sym e) at run.stack run.instruction s)))
fails_so c f g e kinds.Operand at (run, inr l) = (runs c f g e at run, inr (lands c f g e run.instruction run.next l))
fails_so c f g e kinds.Falls at (r, p) = (is_reached c f g e at r, p)

-- a code is its fields, but for its frame
rebuilt : (a b : Code) → code_of a ≡ code_of b → with_frame a b.literals ≡ b
rebuilt a b e =
    ap (λ (v : CodeView). record { flag = v.flag; arguments = v.arguments; primitive = v.primitive; temporaries = v.temporaries; large = v.large; literals = b.literals; bytes = v.bytes }) e

pub fails_alike : (a b : Code) → code_of a ≡ code_of b → (kind : VerifyKind) (at : ℕ) → Fails a kind at → Fails b kind at
fails_alike a b e kind at p = subst (λ code. Fails code kind at) (rebuilt a b e) (fails_so a a.literals b.literals (ap (λ v. v.entries) e) kind at p)

-- whatever looks like verified code is verified
pub verified_alike : (a b : Code) → code_of a ≡ code_of b → IsVerified a → IsVerified b
verified_alike a b e v kind at p = v kind at (fails_alike b a (sym e) kind at p)
