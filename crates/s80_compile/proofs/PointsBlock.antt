-- The code of a real block, made of parts that are sound.
use Rattle.std.proofs.Common.{◌≡◌, ◌≢◌, sym, ap, ◌∙◌, subst, refl, ℕ, suc, ◌+◌, ◌-◌, ◌/◌, ◌%◌, pos, ◌≤◌, inl, inr, List, [], ◌∷◌, true, false, None, arith}
use Rattle.s80_code.specs.declared.code.Code.{Code}
use Rattle.s80_code.specs.declared.instruction.Instruction.{Instruction}
use Rattle.s80_code.specs.declared.instruction.Instruction.TheVariants.{PushContext, SendSpecial, Jump}
use Rattle.s80_code.specs.Special.{block_copy}
use Rattle.s80_code.specs.Table.{Stands}
use Rattle.s80_code.proofs.lemmas.SpellingLemmas.{first_byte}
use Rattle.std.proofs.Math.IntN.{pos-+ℤ-pos}
use Rattle.s80_scope.specs.declared.fit.position.Position.{Position}
use Rattle.s80_verify.specs.declared.stack.Stack.{Stack}
use Rattle.s80_verify.specs.declared.stack.Stack.TheVariants.{OfBlock}
use Rattle.s80_verify.specs.Effect.{takes, leaves, distance_of, Goes, Jumps}
use Rattle.s80_verify.specs.Operands.{Suits}
use Rattle.s80_verify.specs.Reach.{Counts}
use Rattle.s80_compile.specs.Rows.{Ends, JumpsOver, Takes}
use Rattle.s80_compile.proofs.Points.{Point, In, Within, Meets, Lands, IsDone}
use Rattle.s80_compile.proofs.PointsSound.{ends, free, Sound, Part, join, then, needing, meets_of, at_of, one_target, never_jumps, only_behind, in_first, in_second}
use Rattle.s80_compile.proofs.PointsRows.{left, ending_part, takes_part}

-- a point of the list is met at its place
pub met : (all : List Point) (point : Point) → In all point → (to depth : ℕ) → to ≡ point.at → depth ≡ point.depth → Meets all to point.stack depth
met all point h to depth e d = record { point = point; has = h; here = sym e; on = refl; deep = sym d }

module _ (code : Code) (room : Stack → ℕ) where
  -- the push of the number of parameters
  pub record IsCount (i : Instruction) (stack : Stack) (at n : ℕ) : Type 0 where
    pub counted : Counts code i n
    pub none_taken : takes i ≡ 0
    pub one_left : leaves i ≡ 1
    pub no_jump : distance_of i ≡ None
    pub differs : i ≢ SendSpecial block_copy
    pub suits : Suits code at stack i

  abbrev pub context_point : Stack → ℕ → ℕ → ℕ → Point
  context_point stack depth p push = record { at = p; next = push; instruction = PushContext; stack = stack; depth = depth; inner = false }

  abbrev pub inner_point : Instruction → Stack → ℕ → ℕ → ℕ → Point
  inner_point i stack depth at behind = record { at = at; next = behind; instruction = i; stack = stack; depth = depth; inner = true }

  -- the place behind the block, and its beginning on its own stack
  abbrev pub around : Stack → ℕ → ℕ → ℕ → ℕ → List Point → Type 0
  around stack depth n start after all = Lands all after stack (suc depth) × Meets all start OfBlock n

  -- the four instructions that begin a block
  pub record IsBegun (stack : Stack) (depth n p push copy jump start after : ℕ) : Type 0 where
    pub count : Instruction
    pub context : Stands code.bytes p PushContext push
    pub pushes : Stands code.bytes push count copy
    pub is_count : IsCount count stack push n
    pub copies : Stands code.bytes copy (SendSpecial block_copy) jump
    pub over : JumpsOver code.bytes after jump start

  pub begin_part : (stack : Stack) (depth n p push copy jump start after : ℕ) → IsBegun stack depth n p push copy jump start after
      → suc (suc depth) ≤ room stack → Sound code room stack depth free (around stack depth n start after) p start
  begin_part stack depth n p push copy jump start after b fits = record {
    points = first ∷ second ∷ third ∷ fourth ∷ [];
    chain = (refl, (b.context, (refl, (b.pushes, (refl, (b.copies, (refl, (b.over.stands, refl))))))));
    begins = λ all within start. record { point = first; has = within first (inl refl); here = refl; on = refl; deep = refl; plain = refl };
    done = each;
  }
    where
      first : Point
      first = context_point stack depth p push

      second : Point
      second = inner_point b.count stack (suc depth) push copy

      third : Point
      third = inner_point (SendSpecial block_copy) stack (suc (suc depth)) copy jump

      fourth : Point
      fourth = inner_point (Jump (pos b.over.distance)) stack (suc depth) jump start

      points : List Point
      points = first ∷ second ∷ third ∷ fourth ∷ []

      is_first : (all : List Point) → Within points all → IsDone code room all first
      is_first all within = record {
        stands = b.context;
        enough = omega arith;
        fits = omega (arith, fits);
        kind = inl (record { differs = λ e. cc; suits = tt });
        goes = λ to g. met all second (within second (inr (inl refl))) to ((depth - 0) + 1) (only_behind PushContext push to refl g) (omega arith);
        jumps = λ to j. absurd (never_jumps PushContext push to refl j);
        jumps_somewhere = λ some. absurd (some refl);
      }

      is_second : (all : List Point) → Within points all → IsDone code room all second
      is_second all within = record {
        stands = b.pushes;
        enough = omega (arith, b.is_count.none_taken);
        fits = omega (arith, fits);
        kind = inl (record { differs = b.is_count.differs; suits = b.is_count.suits });
        goes = λ to g. met all third (within third (inr (inr (inl refl)))) to ((suc depth - takes b.count) + leaves b.count)
            (only_behind b.count copy to b.is_count.no_jump g) (omega (arith, b.is_count.none_taken, b.is_count.one_left));
        jumps = λ to j. absurd (never_jumps b.count copy to b.is_count.no_jump j);
        jumps_somewhere = λ some. absurd (some b.is_count.no_jump);
      }

      is_third : (all : List Point) → Within points all → around stack depth n start after all → IsDone code room all third
      is_third all within need = record {
        stands = b.copies;
        enough = omega arith;
        fits = fits;
        kind = inr (record {
          arguments = n;
          start = start;
          context = p;
          push = push;
          count = b.count;
          jump = jump;
          distance = pos b.over.distance;
          byte = 164 + b.over.distance / 256;
          copies = refl;
          placed = record { point = first; has = within first (inl refl); here = refl; kind = refl };
          is_context = b.context;
          is_count = b.pushes;
          counted = b.is_count.counted;
          is_copy = b.copies;
          is_jump = b.over.stands;
          begun = first_byte code.bytes (b.over.distance % 256 ∷ []) jump start (164 + b.over.distance / 256) b.over.here;
          low = omega arith;
          high = omega (arith, b.over.reach);
          push_inner = record { point = second; has = within second (inr (inl refl)); here = refl; kind = refl };
          copy_inner = record { point = third; has = within third (inr (inr (inl refl))); here = refl; kind = refl };
          jump_inner = record { point = fourth; has = within fourth (inr (inr (inr (inl refl)))); here = refl; kind = refl };
          starts = need.1;
        });
        goes = λ to g. met all fourth (within fourth (inr (inr (inr (inl refl))))) to ((suc (suc depth) - 2) + 1)
            (only_behind (SendSpecial block_copy) jump to refl g) (omega arith);
        jumps = λ to j. absurd (never_jumps (SendSpecial block_copy) jump to refl j);
        jumps_somewhere = λ some. absurd (some refl);
      }

      lands : Jumps (Jump (pos b.over.distance)) start after
      lands = (pos b.over.distance, refl, ap pos b.over.lands ∙ sym (pos-+ℤ-pos start b.over.distance))

      jumped : (all : List Point) → around stack depth n start after all → (to : ℕ) → Goes (Jump (pos b.over.distance)) start to → Meets all to stack ((suc depth - 0) + 0)
      jumped all need to (inl (on, e)) = absurd cc
      jumped all need to (inr j) =
          meets_of all after to stack (suc depth) ((suc depth - 0) + 0) need.0 (one_target (Jump (pos b.over.distance)) start after to lands j) (omega arith)

      is_fourth : (all : List Point) → Within points all → around stack depth n start after all → IsDone code room all fourth
      is_fourth all within need = record {
        stands = b.over.stands;
        enough = omega arith;
        fits = omega (arith, fits);
        kind = inl (record { differs = λ e. cc; suits = tt });
        goes = jumped all need;
        jumps = λ to j. at_of all after to stack (suc depth) need.0 (one_target (Jump (pos b.over.distance)) start after to lands j);
        jumps_somewhere = λ some. (after, lands);
      }

      each : (all : List Point) → Within points all → around stack depth n start after all → (point : Point) → In points point → IsDone code room all point
      each all within need point (inl e) = subst (λ (x : Point). IsDone code room all x) (sym e) (is_first all within)
      each all within need point (inr (inl e)) = subst (λ (x : Point). IsDone code room all x) (sym e) (is_second all within)
      each all within need point (inr (inr (inl e))) = subst (λ (x : Point). IsDone code room all x) (sym e) (is_third all within need)
      each all within need point (inr (inr (inr (inl e)))) = subst (λ (x : Point). IsDone code room all x) (sym e) (is_fourth all within need)
      each all within need point (inr (inr (inr (inr none)))) = absurd none

  pub makes : (position : Position) (stack : Stack) (depth first n p push copy jump start body_at after q : ℕ)
      → suc (suc depth) ≤ room stack → n ≤ room OfBlock → first + n ≤ code.temporaries
      → IsBegun stack depth n p push copy jump start after → Takes code.bytes first n start body_at
      → Sound code room OfBlock 0 free free body_at after → Ends code.bytes position after q
      → Part code room stack depth (left position depth) p q
  makes position stack depth first n p push copy jump start body_at after q fits few ranged b takes body ending =
      let end = left position depth in
      let last = ending_part code room position stack depth after q ending (omega (arith, fits)) in
      let own = then code room (takes_part code room n first start body_at n 0 takes (omega arith) few ranged) body (λ all need. tt) in
      let rest = join code room free (ends stack end q) own last (λ all a b start. tt) (λ all a b need. tt) (λ all a b need. need) in
      needing code room (ends stack end q) (ends stack end q) (λ all need. tt) (λ all need. need)
      (join code room free (ends stack end q) (begin_part stack depth n p push copy jump start after b fits) rest
      (λ all a b start. tt)
      (λ all a b need. (
        last.begins all (in_second own.points last.points all b) need,
        meets_of all start start OfBlock n n (own.begins all (in_first own.points last.points all b) tt) refl refl,
      ))
      (λ all a b need. need))
