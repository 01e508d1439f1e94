-- Parts of a code whose instructions fit and lead to points, as soon as what they need is among all points.
use Rattle.std.proofs.Common.{◌≡◌, ◌≢◌, ◌∙◌, ap, sym, subst, refl, ℕ, ◌+◌, ◌-◌, ◌≤◌, ◌⊎◌, inl, inr, ℤ, pos, ◌+ℤ◌, List, [], ◌∷◌, ◌++◌, true, false, None}
use Rattle.s80_code.specs.Special.{block_copy}
use Rattle.s80_code.proofs.lemmas.TableLemmas.{value}
use Rattle.s80_code.specs.declared.code.Code.{Code}
use Rattle.s80_code.specs.declared.instruction.Instruction.{Instruction}
use Rattle.s80_code.specs.declared.instruction.Instruction.TheVariants.{SendSpecial}
use Rattle.s80_code.specs.Table.{Stands}
use Rattle.s80_verify.specs.declared.stack.Stack.{Stack}
use Rattle.s80_verify.specs.Effect.{takes, leaves, goes_on, distance_of, Goes, Jumps}
use Rattle.s80_verify.specs.Operands.{Suits}
use Rattle.s80_compile.proofs.Points.{Point, In, Within, Chain, IsAt, Meets, Lands, IsDone}

-- ---- lists of points

pub in_left : (xs ys : List Point) (point : Point) → In xs point → In (xs ++ ys) point
in_left [] ys point h = absurd h
in_left (x ∷ xs) ys point (inl e) = inl e
in_left (x ∷ xs) ys point (inr h) = inr (in_left xs ys point h)

pub in_right : (xs ys : List Point) (point : Point) → In ys point → In (xs ++ ys) point
in_right [] ys point h = h
in_right (x ∷ xs) ys point h = inr (in_right xs ys point h)

pub in_either : (xs ys : List Point) (point : Point) → In (xs ++ ys) point → In xs point ⊎ In ys point
in_either [] ys point h = inr h
in_either (x ∷ xs) ys point (inl e) = inl (inl e)
in_either (x ∷ xs) ys point (inr h) =
    elim (in_either xs ys point h) [
      | inl left ↦ inl (inr left)
      | inr right ↦ inr right
    ]

pub in_first : (xs ys all : List Point) → Within (xs ++ ys) all → Within xs all
in_first xs ys all within point h = within point (in_left xs ys point h)

pub in_second : (xs ys all : List Point) → Within (xs ++ ys) all → Within ys all
in_second xs ys all within point h = within point (in_right xs ys point h)

pub chain_append : (bytes : List ℕ) (p m q : ℕ) (xs ys : List Point) → Chain bytes p m xs → Chain bytes m q ys → Chain bytes p q (xs ++ ys)
chain_append bytes p m q [] ys e c = subst (λ (k : ℕ). Chain bytes k q ys) (sym e) c
chain_append bytes p m q (x ∷ xs) ys (here, (stands, rest)) c = (here, (stands, chain_append bytes x.next m q xs ys rest c))

-- ---- points that are met

pub meets_of : (all : List Point) (at to : ℕ) (stack : Stack) (depth after : ℕ) → Lands all at stack depth → to ≡ at → after ≡ depth → Meets all to stack after
meets_of all at to stack depth after l e d = record { point = l.point; has = l.has; here = l.here ∙ sym e; on = l.on; deep = l.deep ∙ sym d }

pub at_of : (all : List Point) (at to : ℕ) (stack : Stack) (depth : ℕ) → Lands all at stack depth → to ≡ at → IsAt all to false
at_of all at to stack depth l e = record { point = l.point; has = l.has; here = l.here ∙ sym e; kind = l.plain }

pub lands_as : (all : List Point) (at to : ℕ) (stack : Stack) (depth after : ℕ) → Lands all at stack depth → to ≡ at → after ≡ depth → Lands all to stack after
lands_as all at to stack depth after l e d =
    record { point = l.point; has = l.has; here = l.here ∙ sym e; on = l.on; deep = l.deep ∙ sym d; plain = l.plain }

-- what is met behind a part
abbrev pub ends : Stack → ℕ → ℕ → List Point → Type 0
ends stack depth q all = Lands all q stack depth

-- an instruction jumps to one place
pub one_target : (i : Instruction) (next to other : ℕ) → Jumps i next to → Jumps i next other → other ≡ to
one_target i next to other (a, is, lands) (b, same, too) =
    let e : b ≡ a = value (sym same ∙ is) in
    let z : pos other ≡ pos to = too ∙ ap (λ (d : ℤ). pos next +ℤ d) e ∙ sym lands in
    cc

pub never_jumps : (i : Instruction) (next to : ℕ) → distance_of i ≡ None → Jumps i next to → ⊥
never_jumps i next to none (d, is, lands) = let differs = sym none ∙ is in cc

pub only_behind : (i : Instruction) (next to : ℕ) → distance_of i ≡ None → Goes i next to → to ≡ next
only_behind i next to none (inl (on, e)) = e
only_behind i next to none (inr j) = absurd (never_jumps i next to none j)

-- nothing is needed
abbrev pub free : List Point → Type 0
free all = Unit {0}

-- ---- parts

module _ (code : Code) (room : Stack → ℕ) where
  -- what the first of its points needs to be there, and what all of them need
  pub record Sound (stack : Stack) (depth : ℕ) (Start Need : List Point → Type 0) (p q : ℕ) : Type 0 where
    pub points : List Point
    pub chain : Chain code.bytes p q points
    pub begins : (all : List Point) → Within points all → Start all → Lands all p stack depth
    pub done : (all : List Point) → Within points all → Need all → (point : Point) → In points point → IsDone code room all point

  -- from one depth to another
  abbrev pub Part : Stack → ℕ → ℕ → ℕ → ℕ → Type 0
  Part stack depth after p q = Sound stack depth (ends stack after q) (ends stack after q) p q

  -- one part behind another
  abbrev pub join : {stack other : Stack} {depth after : ℕ} {Begin First Middle Second : List Point → Type 0} {p m q : ℕ} (Start Need : List Point → Type 0)
      (a : Sound stack depth Begin First p m) (b : Sound other after Middle Second m q)
      → ((all : List Point) → Within a.points all → Within b.points all → Start all → Begin all)
      → ((all : List Point) → Within a.points all → Within b.points all → Need all → First all)
      → ((all : List Point) → Within a.points all → Within b.points all → Need all → Second all)
      → Sound stack depth Start Need p q
  join {p = p} {m = m} {q = q} Start Need a b begin first second = record {
    points = a.points ++ b.points;
    chain = chain_append code.bytes p m q a.points b.points a.chain b.chain;
    begins = λ all within start. a.begins all (in_first a.points b.points all within)
        (begin all (in_first a.points b.points all within) (in_second a.points b.points all within) start);
    done = λ all within need point h.
        elim (in_either a.points b.points point h) [
          | inl here ↦ a.done all (in_first a.points b.points all within)
              (first all (in_first a.points b.points all within) (in_second a.points b.points all within) need) point here
          | inr there ↦ b.done all (in_second a.points b.points all within)
              (second all (in_first a.points b.points all within) (in_second a.points b.points all within) need) point there
        ];
  }

  -- what the first needs is that the second begins
  abbrev pub then : {stack : Stack} {depth after : ℕ} {Start Need : List Point → Type 0} {p m q : ℕ}
      → Part stack depth after p m → Sound stack after Start Need m q → ((all : List Point) → Need all → Start all) → Sound stack depth Start Need p q
  then {Start = Start} {Need = Need} a b enough =
      join Start Need a b (λ all left right start. b.begins all right start) (λ all left right need. b.begins all right (enough all need)) (λ all left right need. need)

  -- two parts
  abbrev pub both : {stack : Stack} {depth after end p m q : ℕ} → Part stack depth after p m → Part stack after end m q → Part stack depth end p q
  both a b = then a b (λ all need. need)

  pub nothing_at : (stack : Stack) (depth p q : ℕ) → p ≡ q → Part stack depth depth p q
  nothing_at stack depth p q e = record {
    points = [];
    chain = e;
    begins = λ all within need. lands_as all q p stack depth depth need e refl;
    done = λ all within need point h. absurd h;
  }

  pub needing : {stack : Stack} {depth : ℕ} {Start Need : List Point → Type 0} {p q : ℕ} (Begin More : List Point → Type 0)
      → ((all : List Point) → Begin all → Start all) → ((all : List Point) → More all → Need all) → Sound stack depth Start Need p q → Sound stack depth Begin More p q
  needing Begin More start less s = record {
    points = s.points;
    chain = s.chain;
    begins = λ all within need. s.begins all within (start all need);
    done = λ all within need. s.done all within (less all need);
  }

  -- one instruction
  pub record Suited (i : Instruction) (stack : Stack) (depth p q : ℕ) : Type 0 where
    pub stands : Stands code.bytes p i q
    pub enough : takes i ≤ depth
    pub fits : depth ≤ room stack
    pub differs : i ≢ SendSpecial block_copy
    pub suits : Suits code p stack i

  pub instruction : {i : Instruction} {stack : Stack} {depth p q : ℕ} (Need : List Point → Type 0) → Suited i stack depth p q
      → ((all : List Point) → Need all → (to : ℕ) → Goes i q to → Meets all to stack ((depth - takes i) + leaves i))
      → ((all : List Point) → Need all → (to : ℕ) → Jumps i q to → IsAt all to false)
      → (distance_of i ≢ None → (to : ℕ) × Jumps i q to)
      → Sound stack depth free Need p q
  instruction {i = i} {stack = stack} {depth = depth} {p = p} {q = q} Need s goes jumps somewhere = record {
    points = here ∷ [];
    chain = (refl, (s.stands, refl));
    begins = λ all within start. record { point = here; has = within here (inl refl); here = refl; on = refl; deep = refl; plain = refl };
    done = λ all within need point h.
        elim h [
          | inl e ↦ subst (λ (x : Point). IsDone code room all x) (sym e) (is_done all need)
          | inr none ↦ absurd none
        ];
  }
    where
      here : Point
      here = record { at = p; next = q; instruction = i; stack = stack; depth = depth; inner = false }

      is_done : (all : List Point) → Need all → IsDone code room all here
      is_done all need = record {
        stands = s.stands;
        enough = s.enough;
        fits = s.fits;
        kind = inl (record { differs = s.differs; suits = s.suits });
        goes = goes all need;
        jumps = jumps all need;
        jumps_somewhere = somewhere;
      }

  -- it goes on behind it alone
  pub straight : {i : Instruction} {stack : Stack} {depth p q : ℕ} (after : ℕ) → Suited i stack depth p q → distance_of i ≡ None
      → after ≡ (depth - takes i) + leaves i → Part stack depth after p q
  straight {i = i} {stack = stack} {depth = depth} {p = p} {q = q} after s none left =
      needing (ends stack after q) (ends stack after q) (λ all need. tt) (λ all need. need)
      (instruction (ends stack after q) s
      (λ all need to g. meets_of all q to stack after ((depth - takes i) + leaves i) need (only_behind i q to none g) (sym left))
      (λ all need to j. absurd (never_jumps i q to none j)) (λ some. absurd (some none)))

  -- it goes nowhere
  pub stops : {i : Instruction} {stack : Stack} {depth p q : ℕ} → Suited i stack depth p q → distance_of i ≡ None
      → goes_on i ≡ false → Sound stack depth free free p q
  stops {i = i} {stack = stack} {depth = depth} {q = q} s none ended =
      instruction free s (λ all need to g. absurd (nowhere to g)) (λ all need to j. absurd (never_jumps i q to none j)) (λ some. absurd (some none))
    where
      nowhere : (to : ℕ) → Goes i q to → ⊥
      nowhere to (inl (on, e)) = let differs = sym ended ∙ on in cc
      nowhere to (inr j) = never_jumps i q to none j

  -- it jumps to a place, and may go on behind it
  pub leaps : {i : Instruction} {stack : Stack} {depth p q : ℕ} (after to : ℕ) (Need : List Point → Type 0) → Suited i stack depth p q
      → Jumps i q to → after ≡ (depth - takes i) + leaves i
      → ((all : List Point) → Need all → Lands all to stack after)
      → ((all : List Point) → Need all → goes_on i ≡ true → Lands all q stack after)
      → Sound stack depth free Need p q
  leaps {i = i} {stack = stack} {depth = depth} {q = q} after to Need s j left there behind =
      instruction Need s goes (λ all need other k. at_of all to other stack after (there all need) (one_target i q to other j k)) (λ some. (to, j))
    where
      goes : (all : List Point) → Need all → (other : ℕ) → Goes i q other → Meets all other stack ((depth - takes i) + leaves i)
      goes all need other (inl (on, e)) = meets_of all q other stack after ((depth - takes i) + leaves i) (behind all need on) e (sym left)
      goes all need other (inr k) = meets_of all to other stack after ((depth - takes i) + leaves i) (there all need) (one_target i q to other j k) (sym left)
