-- Rows of the compiling table, made of parts that are sound.
use Rattle.std.proofs.Common.{◌≡◌, subst, refl, ℕ, zero, suc, ◌+◌, ◌≤◌, List, Bool, true, false, arith}
use Rattle.s80_code.specs.declared.code.Code.{Code}
use Rattle.s80_code.specs.declared.instruction.Instruction.TheVariants.{Jump}
use Rattle.s80_scope.specs.declared.fit.position.Position.{Position}
use Rattle.s80_scope.specs.declared.fit.position.Position.TheVariants.{Value, Effect}
use Rattle.s80_verify.specs.declared.stack.Stack.{Stack}
use Rattle.s80_verify.specs.declared.stack.Stack.TheVariants.{OfBlock}
use Rattle.s80_compile.specs.Rows.{Ends, NilFor, JumpsTo, Takes, jump_unless}
use Rattle.s80_compile.proofs.Points.{Point, Lands}
use Rattle.s80_compile.proofs.PointsSound.{ends, free, Sound, Part, join, then, both, nothing_at, needing, straight, leaps, in_second}

-- how deep the stack is behind a part
abbrev pub left : Position → ℕ → ℕ
left Value depth = suc depth
left Effect depth = depth

module _ (code : Code) (room : Stack → ℕ) where
  pub ending_part : (position : Position) (stack : Stack) (depth p q : ℕ) → Ends code.bytes position p q → suc depth ≤ room stack
      → Part code room stack (suc depth) (left position depth) p q
  ending_part Value stack depth p q e fits = nothing_at code room stack (suc depth) p q e
  ending_part Effect stack depth p q s fits =
      straight code room depth (record { stands = s.stands; enough = omega arith; fits = fits; differs = λ e. cc; suits = tt }) refl (omega arith)

  pub nil_part : (position : Position) (stack : Stack) (depth p q : ℕ) → NilFor code.bytes position p q → depth ≤ room stack
      → Part code room stack depth (left position depth) p q
  nil_part Value stack depth p q s fits =
      straight code room (suc depth) (record { stands = s.stands; enough = omega arith; fits = fits; differs = λ e. cc; suits = tt }) refl (omega arith)
  nil_part Effect stack depth p q e fits = nothing_at code room stack depth p q e

  -- the jump that a test takes, and the place behind it
  abbrev pub two_ways : Stack → ℕ → ℕ → ℕ → List Point → Type 0
  two_ways stack depth to behind all = Lands all behind stack depth × Lands all to stack depth

  pub unless_part : (on : Bool) (stack : Stack) (depth to p q : ℕ) → JumpsTo code.bytes (jump_unless on) to p q → suc depth ≤ room stack
      → Sound code room stack (suc depth) free (two_ways stack depth to q) p q
  unless_part true stack depth to p q j fits =
      leaps code room depth to (two_ways stack depth to q)
      (record { stands = j.stands.stands; enough = omega arith; fits = fits; differs = λ e. cc; suits = tt })
      (j.distance, refl, j.lands) (omega arith) (λ all need. need.1) (λ all need on. need.0)
  unless_part false stack depth to p q j fits =
      leaps code room depth to (two_ways stack depth to q)
      (record { stands = j.stands.stands; enough = omega arith; fits = fits; differs = λ e. cc; suits = tt })
      (j.distance, refl, j.lands) (omega arith) (λ all need. need.1) (λ all need on. need.0)

  pub jump_part : (stack : Stack) (depth to p q : ℕ) → JumpsTo code.bytes Jump to p q → depth ≤ room stack
      → Sound code room stack depth free (ends stack depth to) p q
  jump_part stack depth to p q j fits =
      leaps code room depth to (ends stack depth to)
      (record { stands = j.stands.stands; enough = omega arith; fits = fits; differs = λ e. cc; suits = tt })
      (j.distance, refl, j.lands) (omega arith) (λ all need. need) (λ all need on. cc)

  pub chooses : (on : Bool) (stack : Stack) (depth end p test first_at over second_at q : ℕ)
      → suc depth ≤ room stack → end ≤ room stack
      → Part code room stack depth (suc depth) p test → JumpsTo code.bytes (jump_unless on) second_at test first_at
      → Part code room stack depth end first_at over → JumpsTo code.bytes Jump q over second_at → Part code room stack depth end second_at q
      → Part code room stack depth end p q
  chooses on stack depth end p test first_at over second_at q fits fits_end condition unless first past second =
      let jump = jump_part stack end q over second_at past fits_end in
      let ending = join code room free (ends stack end q) jump second (λ all a b start. tt) (λ all a b need. need) (λ all a b need. need) in
      let arms = then code room first ending (λ all need. tt) in
      let tested = join code room free (ends stack end q) (unless_part on stack depth second_at test first_at unless fits) arms
      (λ all a b start. tt)
      (λ all a b need. (arms.begins all b tt, second.begins all (in_second jump.points second.points all (in_second first.points ending.points all b)) need))
      (λ all a b need. need) in
      needing code room (ends stack end q) (ends stack end q) (λ all need. tt) (λ all need. need) (then code room condition tested (λ all need. tt))

  pub skips : (on : Bool) (stack : Stack) (depth p test arm_at q : ℕ) → suc depth ≤ room stack
      → Part code room stack depth (suc depth) p test → JumpsTo code.bytes (jump_unless on) q test arm_at → Part code room stack depth depth arm_at q
      → Part code room stack depth depth p q
  skips on stack depth p test arm_at q fits condition unless arm =
      both code room condition
      (needing code room (ends stack depth q) (ends stack depth q) (λ all need. tt) (λ all need. need)
      (join code room free (ends stack depth q) (unless_part on stack depth q test arm_at unless fits) arm
      (λ all a b start. tt) (λ all a b need. (arm.begins all b need, need)) (λ all a b need. need)))

  -- back to the beginning, and on behind the end
  abbrev pub again : Stack → ℕ → ℕ → ℕ → ℕ → List Point → Type 0
  again stack depth end p q all = Lands all p stack depth × Lands all q stack end

  pub loops : (on : Bool) (stack : Stack) (depth end p test body_at over done q : ℕ) → suc depth ≤ room stack
      → Part code room stack depth (suc depth) p test → JumpsTo code.bytes (jump_unless on) done test body_at
      → Part code room stack depth depth body_at over → JumpsTo code.bytes Jump p over done → Part code room stack depth end done q
      → Part code room stack depth end p q
  loops on stack depth end p test body_at over done q fits condition unless body back leave =
      let jump = jump_part stack depth p over done back (omega (arith, fits)) in
      let ending = join code room free (again stack depth end p q) jump leave (λ all a b start. tt) (λ all a b need. need.0) (λ all a b need. need.1) in
      let turn = then code room body ending (λ all need. tt) in
      let tested = join code room free (again stack depth end p q) (unless_part on stack depth done test body_at unless fits) turn
      (λ all a b start. tt)
      (λ all a b need. (turn.begins all b tt, leave.begins all (in_second jump.points leave.points all (in_second body.points ending.points all b)) need.1))
      (λ all a b need. need) in
      join code room (ends stack end q) (ends stack end q) condition tested
      (λ all a b start. tested.begins all b tt)
      (λ all a b need. tested.begins all b tt)
      (λ all a b need. (condition.begins all a (tested.begins all b tt), need))

  -- pops into parameters
  pub takes_part : (n first p q : ℕ) (depth base : ℕ) → Takes code.bytes first n p q → depth ≡ base + n → depth ≤ room OfBlock → first + n ≤ code.temporaries
      → Part code room OfBlock depth base p q
  takes_part zero first p q depth base e is fits few = subst (λ (d : ℕ). Part code room OfBlock depth d p q) (omega (arith, is)) (nothing_at code room OfBlock depth p q e)
  takes_part (suc n) first p q depth base t is fits few =
      both code room (takes_part n (suc first) p t.mid depth (suc base) t.first (omega (arith, is)) fits (omega (arith, few)))
      (straight code room base (record { stands = t.second.stands; enough = omega arith; fits = omega (arith, is, fits); differs = λ e. cc; suits = omega (arith, few) }) refl (omega arith))
