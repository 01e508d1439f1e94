-- Code of a core tree is code of the numbered tree, with places for the numbers.
use Rattle.std.proofs.Common.{◌≡◌, ℕ, zero, suc, ◌+◌, List, [], ◌∷◌, ◌++◌, Bool, length, Some, refl, sym, ap, ◌∙◌, subst, arith, length-append}
use Rattle.std.specs.Prelude.{slice_get, slice_index_or}
use Rattle.s80_base.specs.declared.names.Side.{Side}
use Rattle.s80_code.specs.declared.code.Code.{Code}
use Rattle.s80_code.specs.Entries.{EntryTree, entries_of}
use Rattle.s80_tree.specs.Tree.{MethodParts}
use Rattle.s80_scope.specs.declared.fit.position.Position.{Position}
use Rattle.s80_scope.specs.declared.fit.position.Position.TheVariants.{Value, Effect}
use Rattle.s80_core.specs.Core.{CoreTree, CoreTrees, SendTrees, leaf, assign, value, send, cascade, real_block, two_arms, one_arm, shortcut, repeat, nothing, before, answer, answer_fixed, leave, no_cores, cores, no_sends, sends, count}
use Rattle.s80_compile.specs.Rows as rows
use Rattle.s80_compile.specs.Compiles.{IsCodeOf}
use Rattle.s80_meaning.specs.Tree as tree
use Rattle.s80_meaning.specs.Tree.{RealBlock, size, size_all, size_sends, numbered, numbered_all, numbered_sends, blocks, blocks_all, blocks_sends, meant_by}
use Rattle.s80_meaning.specs.Places.{At, AllAt, SendsAt, BlockAt, MethodAt}

-- the places at which the real blocks begin, in their order: read off the derivation
module _ (bytes : List ℕ) (entries : List EntryTree) where
  abbrev mutual
    places : (e : CoreTree) (position : Position) (p q : ℕ) → rows.At bytes entries e position p q → List ℕ
    places (leaf l) position p q r = []
    places (assign v e) position p q r = places e Value p r.mid r.first
    places (value e) position p q r = places e Value p r.mid r.first
    places (send e to_super s es) position p q r = places e Value p r.mid r.first ++ places_all es r.mid r.second.mid r.second.first
    places (cascade e to_super ms) position p q r = places e Value p r.mid r.first ++ places_sends to_super ms r.mid r.second.mid r.second.first
    places (real_block first n e) position p q r = r.start ∷ places e Effect r.body_at r.after r.body
    places (two_arms on c a b) position p q r =
        places c Value p r.test r.condition ++ (places a position r.first_at r.over r.first ++ places b position r.second_at q r.second)
    places (one_arm on c a) Value p q r = places c Value p r.test r.condition ++ places a Value r.first_at r.over r.first
    places (one_arm on c a) Effect p q r = places c Value p r.test r.condition ++ places a Effect r.arm_at q r.arm
    places (shortcut on c a) position p q r =
        places c Value p r.first.test r.first.condition ++ places a Value r.first.first_at r.first.over r.first.first
    places (repeat on c e) position p q r = places c Value p r.test r.condition ++ places e Effect r.body_at r.over r.body
    places nothing position p q r = []
    places (before a b) position p q r = places a Effect p r.mid r.first ++ places b position r.mid q r.second
    places (answer e) position p q r = places e Value p r.mid r.first
    places (answer_fixed n) position p q r = []
    places (leave e) position p q r = places e Value p r.mid r.first

    places_all : (es : CoreTrees) (p q : ℕ) → rows.AllAt bytes entries es p q → List ℕ
    places_all no_cores p q r = []
    places_all (cores e es) p q r = places e Value p r.mid r.first ++ places_all es r.mid q r.second

    places_sends : (to_super : Bool) (ms : SendTrees) (p q : ℕ) → rows.SendsAt bytes entries to_super ms p q → List ℕ
    places_sends to_super no_sends p q r = []
    places_sends to_super (sends s es no_sends) p q r = places_all es p r.mid r.first ++ []
    places_sends to_super (sends s es (sends s2 es2 ms)) p q r =
        places_all es r.mid r.second.mid r.second.first
        ++ places_sends to_super (sends s2 es2 ms) r.second.second.second.mid q r.second.second.second.second

pub count_numbered : (k : ℕ) (es : CoreTrees) → tree.count (numbered_all k es) ≡ count es
count_numbered k no_cores = refl
count_numbered k (cores e es) = ap suc (count_numbered (k + size e) es)

two_long : {T : Type 0} (m n : ℕ) (xs ys : List T) → length xs ≡ m → length ys ≡ n → length (xs ++ ys) ≡ m + n
two_long m n xs ys x y = omega (arith, x, y, length-append xs ys)

mutual
  long_blocks : (k : ℕ) (e : CoreTree) → length (blocks k e) ≡ size e
  long_blocks k (leaf l) = refl
  long_blocks k (assign v e) = long_blocks k e
  long_blocks k (value e) = long_blocks k e
  long_blocks k (send e to_super s es) = two_long (size e) (size_all es) (blocks k e) (blocks_all (k + size e) es) (long_blocks k e) (all_long (k + size e) es)
  long_blocks k (cascade e to_super ms) =
      two_long (size e) (size_sends ms) (blocks k e) (blocks_sends (k + size e) ms) (long_blocks k e) (sends_long (k + size e) ms)
  long_blocks k (real_block first n e) = ap suc (long_blocks (suc k) e)
  long_blocks k (two_arms on c a b) =
      two_long (size c) (size a + size b) (blocks k c) (blocks (k + size c) a ++ blocks (k + size c + size a) b) (long_blocks k c)
      (two_long (size a) (size b) (blocks (k + size c) a) (blocks (k + size c + size a) b) (long_blocks (k + size c) a) (long_blocks (k + size c + size a) b))
  long_blocks k (one_arm on c a) = two_long (size c) (size a) (blocks k c) (blocks (k + size c) a) (long_blocks k c) (long_blocks (k + size c) a)
  long_blocks k (shortcut on c a) = two_long (size c) (size a) (blocks k c) (blocks (k + size c) a) (long_blocks k c) (long_blocks (k + size c) a)
  long_blocks k (repeat on c a) = two_long (size c) (size a) (blocks k c) (blocks (k + size c) a) (long_blocks k c) (long_blocks (k + size c) a)
  long_blocks k nothing = refl
  long_blocks k (before c a) = two_long (size c) (size a) (blocks k c) (blocks (k + size c) a) (long_blocks k c) (long_blocks (k + size c) a)
  long_blocks k (answer e) = long_blocks k e
  long_blocks k (answer_fixed n) = refl
  long_blocks k (leave e) = long_blocks k e

  all_long : (k : ℕ) (es : CoreTrees) → length (blocks_all k es) ≡ size_all es
  all_long k no_cores = refl
  all_long k (cores e es) = two_long (size e) (size_all es) (blocks k e) (blocks_all (k + size e) es) (long_blocks k e) (all_long (k + size e) es)

  sends_long : (k : ℕ) (ms : SendTrees) → length (blocks_sends k ms) ≡ size_sends ms
  sends_long k no_sends = refl
  sends_long k (sends s es ms) =
      two_long (size_all es) (size_sends ms) (blocks_all k es) (blocks_sends (k + size_all es) ms) (all_long k es) (sends_long (k + size_all es) ms)

module _ (bytes : List ℕ) (entries : List EntryTree) where
  mutual
    long_places : (e : CoreTree) (position : Position) (p q : ℕ) (r : rows.At bytes entries e position p q) → length (places bytes entries e position p q r) ≡ size e
    long_places (leaf l) position p q r = refl
    long_places (assign v e) position p q r = long_places e Value p r.mid r.first
    long_places (value e) position p q r = long_places e Value p r.mid r.first
    long_places (send e to_super s es) position p q r =
        two_long (size e) (size_all es) (places bytes entries e Value p r.mid r.first) (places_all bytes entries es r.mid r.second.mid r.second.first)
        (long_places e Value p r.mid r.first) (all_places es r.mid r.second.mid r.second.first)
    long_places (cascade e to_super ms) position p q r =
        two_long (size e) (size_sends ms) (places bytes entries e Value p r.mid r.first) (places_sends bytes entries to_super ms r.mid r.second.mid r.second.first)
        (long_places e Value p r.mid r.first) (sends_places to_super ms r.mid r.second.mid r.second.first)
    long_places (real_block first n e) position p q r = ap suc (long_places e Effect r.body_at r.after r.body)
    long_places (two_arms on c a b) position p q r =
        two_long (size c) (size a + size b) (places bytes entries c Value p r.test r.condition)
        (places bytes entries a position r.first_at r.over r.first ++ places bytes entries b position r.second_at q r.second) (long_places c Value p r.test r.condition)
        (two_long (size a) (size b) (places bytes entries a position r.first_at r.over r.first) (places bytes entries b position r.second_at q r.second)
        (long_places a position r.first_at r.over r.first) (long_places b position r.second_at q r.second))
    long_places (one_arm on c a) Value p q r =
        two_long (size c) (size a) (places bytes entries c Value p r.test r.condition) (places bytes entries a Value r.first_at r.over r.first)
        (long_places c Value p r.test r.condition) (long_places a Value r.first_at r.over r.first)
    long_places (one_arm on c a) Effect p q r =
        two_long (size c) (size a) (places bytes entries c Value p r.test r.condition) (places bytes entries a Effect r.arm_at q r.arm)
        (long_places c Value p r.test r.condition) (long_places a Effect r.arm_at q r.arm)
    long_places (shortcut on c a) position p q r =
        two_long (size c) (size a) (places bytes entries c Value p r.first.test r.first.condition) (places bytes entries a Value r.first.first_at r.first.over r.first.first)
        (long_places c Value p r.first.test r.first.condition) (long_places a Value r.first.first_at r.first.over r.first.first)
    long_places (repeat on c a) position p q r =
        two_long (size c) (size a) (places bytes entries c Value p r.test r.condition) (places bytes entries a Effect r.body_at r.over r.body)
        (long_places c Value p r.test r.condition) (long_places a Effect r.body_at r.over r.body)
    long_places nothing position p q r = refl
    long_places (before c a) position p q r =
        two_long (size c) (size a) (places bytes entries c Effect p r.mid r.first) (places bytes entries a position r.mid q r.second)
        (long_places c Effect p r.mid r.first) (long_places a position r.mid q r.second)
    long_places (answer e) position p q r = long_places e Value p r.mid r.first
    long_places (answer_fixed n) position p q r = refl
    long_places (leave e) position p q r = long_places e Value p r.mid r.first

    all_places : (es : CoreTrees) (p q : ℕ) (r : rows.AllAt bytes entries es p q) → length (places_all bytes entries es p q r) ≡ size_all es
    all_places no_cores p q r = refl
    all_places (cores e es) p q r =
        two_long (size e) (size_all es) (places bytes entries e Value p r.mid r.first) (places_all bytes entries es r.mid q r.second)
        (long_places e Value p r.mid r.first) (all_places es r.mid q r.second)

    sends_places : (to_super : Bool) (ms : SendTrees) (p q : ℕ) (r : rows.SendsAt bytes entries to_super ms p q) → length (places_sends bytes entries to_super ms p q r) ≡ size_sends ms
    sends_places to_super no_sends p q r = refl
    sends_places to_super (sends s es no_sends) p q r =
        two_long (size_all es) 0 (places_all bytes entries es p r.mid r.first) [] (all_places es p r.mid r.first) refl
    sends_places to_super (sends s es (sends s2 es2 ms)) p q r =
        two_long (size_all es) (size_sends (sends s2 es2 ms)) (places_all bytes entries es r.mid r.second.mid r.second.first)
        (places_sends bytes entries to_super (sends s2 es2 ms) r.second.second.second.mid q r.second.second.second.second)
        (all_places es r.mid r.second.mid r.second.first)
        (sends_places to_super (sends s2 es2 ms) r.second.second.second.mid q r.second.second.second.second)

module _ (bytes : List ℕ) (entries : List EntryTree) (all : List RealBlock) (starts : ℕ → ℕ) where
  -- these stand in the list of all blocks from k on, and begin at these places
  abbrev Placed : ℕ → List RealBlock → List ℕ → Type 0
  Placed k [] [] = Unit {0}
  Placed k [] (p ∷ ps) = ⊥
  Placed k (b ∷ bs) [] = ⊥
  Placed k (b ∷ bs) (p ∷ ps) = (slice_get all k ≡ Some b) × (starts k ≡ p) × Placed (suc k) bs ps

  -- and have their own code there
  abbrev Coded : ℕ → List RealBlock → Type 0
  Coded k [] = Unit {0}
  Coded k (b ∷ bs) = BlockAt bytes entries all starts b (starts k) × Coded (suc k) bs

  coded_append : (k n : ℕ) (bs cs : List RealBlock) → length bs ≡ n → Coded k bs → Coded (k + n) cs → Coded k (bs ++ cs)
  coded_append k n [] cs e h j = subst (λ m. Coded m cs) (omega (arith, e)) j
  coded_append k n (b ∷ bs) cs e h j = (h.0, coded_append (suc k) (length bs) bs cs refl h.1 (subst (λ m. Coded m cs) (omega (arith, e)) j))

  placed_split : (k n : ℕ) (bs cs : List RealBlock) (ps qs : List ℕ) → length bs ≡ n → length ps ≡ n → Placed k (bs ++ cs) (ps ++ qs) → Placed k bs ps × Placed (k + n) cs qs
  placed_split k n [] cs [] qs e d h = (tt, subst (λ m. Placed m cs qs) (omega (arith, e)) h)
  placed_split k n [] cs (p ∷ ps) qs e d h = absurd (omega (arith, e, d))
  placed_split k n (b ∷ bs) cs [] qs e d h = absurd (omega (arith, e, d))
  placed_split k n (b ∷ bs) cs (p ∷ ps) qs e d h =
      let s = placed_split (suc k) (length bs) bs cs ps qs refl (omega (arith, e, d)) h.2 in
      ((h.0, h.1, s.0), subst (λ m. Placed m cs qs) (omega (arith, e)) s.1)

  -- what is made of two parts, one behind the other
  join : {A B : Type 0} (k n : ℕ) (bs cs : List RealBlock) (ps qs : List ℕ) → length bs ≡ n → length ps ≡ n
      → (Placed k bs ps → A × Coded k bs) → (Placed (k + n) cs qs → B × Coded (k + n) cs)
      → Placed k (bs ++ cs) (ps ++ qs) → (A × B) × Coded k (bs ++ cs)
  join k n bs cs ps qs e d f g h =
      let split = placed_split k n bs cs ps qs e d h in
      let a = f split.0 in
      let b = g split.1 in
      ((a.0, b.0), coded_append k n bs cs e a.1 b.1)

  mutual
    numbered_at : (e : CoreTree) (k : ℕ) (position : Position) (p q : ℕ) (r : rows.At bytes entries e position p q) → Placed k (blocks k e) (places bytes entries e position p q r) → At bytes entries all starts (numbered k e) position p q × Coded k (blocks k e)
    numbered_at (leaf l) k position p q r h = (record { mid = r.mid; first = r.first; second = r.second }, tt)
    numbered_at (assign v e) k position p q r h =
        let a = numbered_at e k Value p r.mid r.first h in (record { mid = r.mid; first = a.0; second = r.second }, a.1)
    numbered_at (value e) k position p q r h =
        let a = numbered_at e k Value p r.mid r.first h in (record { mid = r.mid; first = a.0; second = r.second }, a.1)
    numbered_at (send e to_super s es) k position p q r h =
        let x = r.second in
        let j = join k (size e) (blocks k e) (blocks_all (k + size e) es) (places bytes entries e Value p r.mid r.first) (places_all bytes entries es r.mid x.mid x.first)
        (long_blocks k e) (long_places bytes entries e Value p r.mid r.first)
        (numbered_at e k Value p r.mid r.first) (all_numbered es (k + size e) r.mid x.mid x.first) h in
        let n = count_numbered (k + size e) es in
        (record { mid = r.mid; first = j.0.0; second = record { mid = x.mid; first = j.0.1; second = rw n x.second } }, j.1)
    numbered_at (cascade e to_super ms) k position p q r h =
        let x = r.second in
        let j = join k (size e) (blocks k e) (blocks_sends (k + size e) ms) (places bytes entries e Value p r.mid r.first) (places_sends bytes entries to_super ms r.mid x.mid x.first)
        (long_blocks k e) (long_places bytes entries e Value p r.mid r.first)
        (numbered_at e k Value p r.mid r.first) (sends_numbered to_super ms (k + size e) r.mid x.mid x.first) h in
        (record { mid = r.mid; first = j.0.0; second = record { mid = x.mid; first = j.0.1; second = x.second } }, j.1)
    numbered_at (real_block first n e) k position p q r h =
        let a = numbered_at e (suc k) Effect r.body_at r.after r.body h.2 in
        let b : RealBlock = record { first = first; parameters = n; body = numbered (suc k) e } in (
          record {
            block = b;
            push = r.push;
            copy = r.copy;
            jump = r.jump;
            start = r.start;
            after = r.after;
            is_block = h.0;
            context = r.context;
            parameters = r.parameters;
            copies = r.copies;
            over = r.over;
            starts_at = h.1;
            ending = r.ending;
          },
          (subst (BlockAt bytes entries all starts b) (sym h.1) (record { body_at = r.body_at; after = r.after; takes = r.takes; body = a.0 }), a.1),
        )
    numbered_at (two_arms on c x y) k position p q r h =
        let kx = k + size c in
        let ky = k + size c + size x in
        let px = places bytes entries x position r.first_at r.over r.first in
        let py = places bytes entries y position r.second_at q r.second in
        let j = join k (size c) (blocks k c) (blocks kx x ++ blocks ky y) (places bytes entries c Value p r.test r.condition) (px ++ py)
        (long_blocks k c) (long_places bytes entries c Value p r.test r.condition)
        (numbered_at c k Value p r.test r.condition)
        (join kx (size x) (blocks kx x) (blocks ky y) px py (long_blocks kx x) (long_places bytes entries x position r.first_at r.over r.first)
        (numbered_at x kx position r.first_at r.over r.first) (numbered_at y ky position r.second_at q r.second)) h in (
          record {
            test = r.test;
            first_at = r.first_at;
            over = r.over;
            second_at = r.second_at;
            condition = j.0.0;
            unless = r.unless;
            first = j.0.1.0;
            past = r.past;
            second = j.0.1.1;
          },
          j.1,
        )
    numbered_at (one_arm on c x) k Value p q r h =
        let j = join k (size c) (blocks k c) (blocks (k + size c) x) (places bytes entries c Value p r.test r.condition) (places bytes entries x Value r.first_at r.over r.first)
        (long_blocks k c) (long_places bytes entries c Value p r.test r.condition)
        (numbered_at c k Value p r.test r.condition) (numbered_at x (k + size c) Value r.first_at r.over r.first) h in (
          record {
            test = r.test;
            first_at = r.first_at;
            over = r.over;
            second_at = r.second_at;
            condition = j.0.0;
            unless = r.unless;
            first = j.0.1;
            past = r.past;
            second = r.second;
          },
          j.1,
        )
    numbered_at (one_arm on c x) k Effect p q r h =
        let j = join k (size c) (blocks k c) (blocks (k + size c) x) (places bytes entries c Value p r.test r.condition) (places bytes entries x Effect r.arm_at q r.arm)
        (long_blocks k c) (long_places bytes entries c Value p r.test r.condition)
        (numbered_at c k Value p r.test r.condition) (numbered_at x (k + size c) Effect r.arm_at q r.arm) h in
        (record { test = r.test; arm_at = r.arm_at; condition = j.0.0; unless = r.unless; arm = j.0.1 }, j.1)
    numbered_at (shortcut on c x) k position p q r h =
        let f = r.first in
        let j = join k (size c) (blocks k c) (blocks (k + size c) x) (places bytes entries c Value p f.test f.condition) (places bytes entries x Value f.first_at f.over f.first)
        (long_blocks k c) (long_places bytes entries c Value p f.test f.condition)
        (numbered_at c k Value p f.test f.condition) (numbered_at x (k + size c) Value f.first_at f.over f.first) h in (
          record {
            mid = r.mid;
            first = record {
              test = f.test;
              first_at = f.first_at;
              over = f.over;
              second_at = f.second_at;
              condition = j.0.0;
              unless = f.unless;
              first = j.0.1;
              past = f.past;
              second = f.second;
            };
            second = r.second;
          },
          j.1,
        )
    numbered_at (repeat on c x) k position p q r h =
        let j = join k (size c) (blocks k c) (blocks (k + size c) x) (places bytes entries c Value p r.test r.condition) (places bytes entries x Effect r.body_at r.over r.body)
        (long_blocks k c) (long_places bytes entries c Value p r.test r.condition)
        (numbered_at c k Value p r.test r.condition) (numbered_at x (k + size c) Effect r.body_at r.over r.body) h in (
          record {
            test = r.test;
            body_at = r.body_at;
            over = r.over;
            done = r.done;
            condition = j.0.0;
            unless = r.unless;
            body = j.0.1;
            back = r.back;
            leaves = r.leaves;
          },
          j.1,
        )
    numbered_at nothing k position p q r h = (r, tt)
    numbered_at (before x y) k position p q r h =
        let j = join k (size x) (blocks k x) (blocks (k + size x) y) (places bytes entries x Effect p r.mid r.first) (places bytes entries y position r.mid q r.second)
        (long_blocks k x) (long_places bytes entries x Effect p r.mid r.first)
        (numbered_at x k Effect p r.mid r.first) (numbered_at y (k + size x) position r.mid q r.second) h in
        (record { mid = r.mid; first = j.0.0; second = j.0.1 }, j.1)
    numbered_at (answer e) k position p q r h =
        let a = numbered_at e k Value p r.mid r.first h in (record { mid = r.mid; first = a.0; second = r.second }, a.1)
    numbered_at (answer_fixed n) k position p q r h = (r, tt)
    numbered_at (leave e) k position p q r h =
        let a = numbered_at e k Value p r.mid r.first h in (record { mid = r.mid; first = a.0; second = r.second }, a.1)

    all_numbered : (es : CoreTrees) (k p q : ℕ) (r : rows.AllAt bytes entries es p q) → Placed k (blocks_all k es) (places_all bytes entries es p q r) → AllAt bytes entries all starts (numbered_all k es) p q × Coded k (blocks_all k es)
    all_numbered no_cores k p q r h = (r, tt)
    all_numbered (cores e es) k p q r h =
        let j = join k (size e) (blocks k e) (blocks_all (k + size e) es) (places bytes entries e Value p r.mid r.first) (places_all bytes entries es r.mid q r.second)
        (long_blocks k e) (long_places bytes entries e Value p r.mid r.first)
        (numbered_at e k Value p r.mid r.first) (all_numbered es (k + size e) r.mid q r.second) h in
        (record { mid = r.mid; first = j.0.0; second = j.0.1 }, j.1)

    sends_numbered : (to_super : Bool) (ms : SendTrees) (k p q : ℕ) (r : rows.SendsAt bytes entries to_super ms p q) → Placed k (blocks_sends k ms) (places_sends bytes entries to_super ms p q r) → SendsAt bytes entries all starts to_super (numbered_sends k ms) p q × Coded k (blocks_sends k ms)
    sends_numbered to_super no_sends k p q r h = (r, tt)
    sends_numbered to_super (sends s es no_sends) k p q r h =
        let split = placed_split k (size_all es) (blocks_all k es) [] (places_all bytes entries es p r.mid r.first) [] (all_long k es) (all_places bytes entries es p r.mid r.first) h in
        let a = all_numbered es k p r.mid r.first split.0 in
        let n = count_numbered k es in
        (record { mid = r.mid; first = a.0; second = rw n r.second }, coded_append k (size_all es) (blocks_all k es) [] (all_long k es) a.1 tt)
    sends_numbered to_super (sends s es (sends s2 es2 ms)) k p q r h =
        let x = r.second in
        let y = x.second in
        let z = y.second in
        let j = join k (size_all es) (blocks_all k es) (blocks_sends (k + size_all es) (sends s2 es2 ms)) (places_all bytes entries es r.mid x.mid x.first) (places_sends bytes entries to_super (sends s2 es2 ms) z.mid q z.second)
        (all_long k es) (all_places bytes entries es r.mid x.mid x.first)
        (all_numbered es k r.mid x.mid x.first) (sends_numbered to_super (sends s2 es2 ms) (k + size_all es) z.mid q z.second) h in
        let n = count_numbered k es in (
          record {
            mid = r.mid;
            first = r.first;
            second = record {
              mid = x.mid;
              first = j.0.0;
              second = record { mid = y.mid; first = rw n y.first; second = record { mid = z.mid; first = z.first; second = j.0.1 } };
            };
          },
          j.1,
        )

  placed_of : (k : ℕ) (bs : List RealBlock) (ps : List ℕ) → length bs ≡ length ps → ((i : ℕ) → slice_get all (k + i) ≡ slice_get bs i) → ((i : ℕ) → starts (k + i) ≡ slice_index_or ps i 0) → Placed k bs ps
  placed_of k [] [] e h g = tt
  placed_of k [] (p ∷ ps) e h g = absurd (omega (arith, e))
  placed_of k (b ∷ bs) [] e h g = absurd (omega (arith, e))
  placed_of k (b ∷ bs) (p ∷ ps) e h g =
      let z : k + 0 ≡ k = omega arith in
      let next : (i : ℕ) → suc k + i ≡ k + suc i = λ i. omega arith in
      (sym (ap (slice_get all) z) ∙ h 0, sym (ap starts z) ∙ g 0, placed_of (suc k) bs ps (omega (arith, e)) (λ i. ap (slice_get all) (next i) ∙ h (suc i)) (λ i. ap starts (next i) ∙ g (suc i)))

  coded_get : (k : ℕ) (bs : List RealBlock) → Coded k bs → (i : ℕ) (b : RealBlock) → slice_get bs i ≡ Some b → BlockAt bytes entries all starts b (starts (k + i))
  coded_get k [] h zero b e = cc
  coded_get k [] h (suc i) b e = cc
  coded_get k (x ∷ bs) h zero b e =
      let same : x ≡ b = cc in
      let z : k ≡ k + 0 = omega arith in
      subst (λ n. BlockAt bytes entries all starts b (starts n)) z (subst (λ y. BlockAt bytes entries all starts y (starts k)) same h.0)
  coded_get k (x ∷ bs) h (suc i) b e =
      let next : suc k + i ≡ k + suc i = omega arith in
      subst (λ n. BlockAt bytes entries all starts b (starts n)) next (coded_get (suc k) bs h.1 i b e)

-- a method's code, with the places for its real blocks
pub method_numbered : (m : MethodParts) (c : CoreTree) (class : List ℕ) (side : Side) (code : Code) → IsCodeOf m c class side code → (starts : ℕ → ℕ) × MethodAt (meant_by m c) code starts
method_numbered m c class side code is =
    let es = entries_of code.literals in
    let end = length code.bytes in
    let ps = places code.bytes es c Effect 0 end is.body in
    let all = blocks 0 c in
    let starts : ℕ → ℕ = λ b. slice_index_or ps b 0 in
    let zero_more : (i : ℕ) → 0 + i ≡ i = λ i. omega arith in
    let placed = placed_of code.bytes es all starts 0 all ps (long_blocks 0 c ∙ sym (long_places code.bytes es c Effect 0 end is.body)) (λ i. ap (slice_get all) (zero_more i)) (λ i. ap starts (zero_more i)) in
    let n = numbered_at code.bytes es all starts c 0 Effect 0 end is.body placed in (
      starts,
      record {
        body = n.0;
        blocks = λ b block given. subst (λ x. BlockAt code.bytes es all starts block (starts x)) (zero_more b) (coded_get code.bytes es all starts 0 all n.1 b block given);
      },
    )
