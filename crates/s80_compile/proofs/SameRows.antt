-- Rows whose parts are the same bytes in two codes are so too: the lengths of the parts give the distances of the jumps, and these
-- their bytes. By induction on the number of a block's parameters alone.
use Rattle.std.proofs.Common.{◌≡◌, ap, refl, ℕ, zero, suc, ◌+◌, ◌<◌, ◌≤◌, ℤ, pos, negsuc, ◌+ℤ◌, Bool, List, length, arith}
use Rattle.s80_base.specs.Literal.{small}
use Rattle.s80_code.specs.declared.instruction.Instruction.{Instruction}
use Rattle.s80_code.specs.declared.instruction.Storage.TheVariants.{Temporary}
use Rattle.s80_code.specs.declared.instruction.Instruction.TheVariants.{PopInto, PushFixed, SendSpecial, Pop, PushContext, Jump}
use Rattle.s80_code.specs.Entries.{EntryTree}
use Rattle.s80_code.specs.Special.{block_copy}
use Rattle.s80_code.specs.Spelling.{spelled, far, Written}
use Rattle.s80_code.proofs.lemmas.TableLemmas.{place_law}
use Rattle.s80_scope.specs.declared.fit.position.Position.{Position}
use Rattle.s80_scope.specs.declared.fit.position.Position.TheVariants.{Value, Effect}
use Rattle.s80_core.specs.Core.{constant}
use Rattle.s80_compile.specs.Rows.{Part, Pushes, One, Both, Ends, NilFor, JumpsTo, JumpsOver, jump_unless, Chooses, Skips, Loops, Takes, Makes}
use Rattle.s80_compile.proofs.OneFrame.{IsOnce}
use Rattle.s80_compile.proofs.SameInstructions.{one_push}
use Rattle.s80_compile.proofs.SamePart.{Same, reads_stood, reads_written, same_on, same_none, same_text, same_written, same_length}

abbrev pub Agree : List ℕ → List ℕ → Part → Part → Type 0
Agree one other First Second = (p q r s : ℕ) → First p q → Second r s → Same one other p q r s

-- ---- jumps

-- to places that are equally far
one_distance : (to q there s : ℕ) (d e : ℤ) → pos to ≡ pos q +ℤ d → pos there ≡ pos s +ℤ e → to + s ≡ there + q → d ≡ e
one_distance to q there s d e a b same = grind arith

-- a jump back takes two bytes
back_width : (to q : ℕ) (d : ℤ) → pos to ≡ pos q +ℤ d → to < q → length (spelled (Jump d)) ≡ 2
unfolding spelled
back_width to q (pos d) e less = absurd (let there : to ≡ q + d = cc in omega (arith, there, less))
back_width to q (negsuc d) e less = refl

jumps_on : {bytes : List ℕ} {to p q : ℕ} (jump : ℤ → Instruction) → JumpsTo bytes jump to p q → p < q
jumps_on {bytes} {to} {p} {q} jump j = (place_law bytes p q (jump j.distance) j.stands.stands).0

jumped_back : {bytes : List ℕ} {to p q : ℕ} → JumpsTo bytes Jump to p q → to ≤ p → q ≡ p + 2
jumped_back {bytes} {to} {p} {q} j back =
    omega (arith, (reads_written (Jump j.distance) j.stands).ends, back_width to q j.distance j.lands (omega (arith, jumps_on Jump j, back)))

-- ---- rows

module _ {one other : List ℕ} where
  pub written : (i : Instruction) → Agree one other (λ p q. Written one p i q) (λ r s. Written other r i s)
  written i p q r s a b = same_written i i refl a b

  pub instruction : (Is : Instruction → Type 0) → ((i j : Instruction) → Is i → Is j → i ≡ j) → Agree one other (One one Is) (One other Is)
  instruction Is unique p q r s a b =
      same_written a.instruction b.instruction (unique a.instruction b.instruction a.is b.is) a.stands b.stands

  pub nothing_there : Agree one other (λ p q. p ≡ q) (λ r s. r ≡ s)
  nothing_there p q r s e f = same_none e f

  pub both : {First Second There Behind : Part} → Agree one other First There → Agree one other Second Behind
      → Agree one other (Both First Second) (Both There Behind)
  both front back p q r s a b = same_on (front p a.mid r b.mid a.first b.first) (back a.mid q b.mid s a.second b.second)

  pub ends : (position : Position) → Agree one other (Ends one position) (Ends other position)
  ends Value p q r s a b = same_none a b
  ends Effect p q r s a b = written Pop p q r s a b

  pub nil_for : (position : Position) → Agree one other (NilFor one position) (NilFor other position)
  nil_for Value p q r s a b = written (PushFixed 3) p q r s a b
  nil_for Effect p q r s a b = same_none a b

  same_jump : {p q r s : ℕ} (jump : ℤ → Instruction) (to there : ℕ) → JumpsTo one jump to p q → JumpsTo other jump there r s → to + s ≡ there + q
      → Same one other p q r s
  same_jump {q = q} {s = s} jump to there a b same =
      same_written (jump a.distance) (jump b.distance) (ap jump (one_distance to q there s a.distance b.distance a.lands b.lands same)) a.stands b.stands

  same_over : {p q r s : ℕ} (to there : ℕ) → JumpsOver one to p q → JumpsOver other there r s → to + s ≡ there + q → Same one other p q r s
  same_over to there a b same =
      let distance : a.distance ≡ b.distance = omega (arith, a.lands, b.lands, same) in
      same_text (far 164 a.distance) (far 164 b.distance) (ap (far 164) distance)
      (reads_stood (Jump (pos a.distance)) a.stands a.here) (reads_stood (Jump (pos b.distance)) b.stands b.here)

  pub chooses : {If Then Else When First Second : Part} (on : Bool)
      → Agree one other If When → Agree one other Then First → Agree one other Else Second
      → Agree one other (Chooses one on If Then Else) (Chooses other on When First Second)
  chooses on condition first second p q r s a b =
      let c = condition p a.test r b.test a.condition b.condition in
      let f = first a.first_at a.over b.first_at b.over a.first b.first in
      let e = second a.second_at q b.second_at s a.second b.second in
      let past = same_jump Jump q s a.past b.past (same_length e) in
      let unless = same_jump (jump_unless on) a.second_at b.second_at a.unless b.unless (omega (arith, same_length f, same_length past)) in
      same_on c (same_on unless (same_on f (same_on past e)))

  pub skips : {If Then When Arm : Part} (on : Bool) → Agree one other If When → Agree one other Then Arm
      → Agree one other (Skips one on If Then) (Skips other on When Arm)
  skips on condition arm p q r s a b =
      let c = condition p a.test r b.test a.condition b.condition in
      let f = arm a.arm_at q b.arm_at s a.arm b.arm in
      same_on c (same_on (same_jump (jump_unless on) q s a.unless b.unless (same_length f)) f)

  -- the jump back is of two bytes, so that the length of the body gives the other jump's distance
  pub loops : {If Do When Body : Part} (on : Bool) (position : Position) → Agree one other If When → Agree one other Do Body
      → Agree one other (Loops one on If Do position) (Loops other on When Body position)
  loops on position condition body p q r s a b =
      let c = condition p a.test r b.test a.condition b.condition in
      let f = body a.body_at a.over b.body_at b.over a.body b.body in
      let l = nil_for position a.done q b.done s a.leaves b.leaves in
      let less = jumps_on (jump_unless on) a.unless in
      let later = jumps_on (jump_unless on) b.unless in
      let back = jumped_back a.back (omega (arith, c.first.ends, less, f.first.ends)) in
      let returned = jumped_back b.back (omega (arith, c.second.ends, later, f.second.ends)) in
      let unless = same_jump (jump_unless on) a.done b.done a.unless b.unless (omega (arith, same_length f, back, returned)) in
      let again = same_jump Jump p r a.back b.back (omega (arith, same_length c, same_length unless, same_length f, back, returned)) in
      same_on c (same_on unless (same_on f (same_on again l)))

  takes : (n first : ℕ) → Agree one other (Takes one first n) (Takes other first n)
  takes zero first p q r s a b = same_none a b
  takes (suc n) first p q r s a b = both (takes n (suc first)) (written (PopInto (Temporary first))) p q r s a b

  pub makes : {Do Body : Part} (entries : List EntryTree) → IsOnce entries → (first n : ℕ) (position : Position) → Agree one other Do Body
      → Agree one other (Makes one entries first n Do position) (Makes other entries first n Body position)
  makes entries once first n position body p q r s a b =
      let number = constant (small (pos n)) in
      let context = written PushContext p a.push r b.push a.context b.context in
      let parameters = instruction (Pushes entries number) (one_push entries once number) a.push a.copy b.push b.copy a.parameters b.parameters in
      let copies = written (SendSpecial block_copy) a.copy a.jump b.copy b.jump a.copies b.copies in
      let t = takes n first a.start a.body_at b.start b.body_at a.takes b.takes in
      let f = body a.body_at a.after b.body_at b.after a.body b.body in
      let over = same_over a.after b.after a.over b.over (omega (arith, same_length t, same_length f)) in
      let ending = ends position a.after q b.after s a.ending b.ending in
      same_on context (same_on parameters (same_on copies (same_on over (same_on t (same_on f ending)))))
