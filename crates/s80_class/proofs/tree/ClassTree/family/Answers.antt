use Rattle.std.proofs.Common.{◌≡◌, ◌≤◌, ◌<◌, ℕ, List, get_or, ◌++◌, ◌∷◌, [], ◌∙◌, refl, sym, ap, subst, length, Some, slice_get, arith}
use Rattle.std.specs.FinMap as map
use Rattle.std.proofs.lemmas.Option.{slice_get_read}
use Rattle.s80_class.specs.Table.{Table}
use Rattle.s80_class.specs.Family.{Found}
use Rattle.s80_class.proofs.Keeping.{ordered_length}
use Rattle.s80_class.proofs.Families.{IsFound, known_table, begun, few, few_grown, grown}
use Rattle.s80_class.specs.Known.{IsKnown}
use Rattle.s80_class.proofs.lemmas.Lines.{len_positive}
use Rattle.s80_class.proofs.Extents.{are_family}
use Rattle.s80_class.proofs.tree.ClassTree.family.Goals.{After-len-count}
use Rattle.s80_class.proofs.tree.ClassTree.family.Goals as goal

known : (c : After-len-count) → IsKnown c.args.self.now
known c = known_table c.self.inside.entries.items c.self.inside.order.items c.self.invariant.kept c.self.inside.spare c.args.self.now c.self.view_is

pub push_reserved-requires : goal.push_reserved-requires
push_reserved-requires c =
    let all = known_table c.self.inside.entries.items c.self.inside.order.items c.self.invariant.kept c.self.inside.spare c.args.self.now c.self.view_is in
    let row = all.known c.args.c c.requires.class.0 c.requires.class.1 in
    omega (arith, len_positive c.args.self.now.classes c.requires.class.0 row.0 row.1, c.requires.room, ap length c.requires.none)

pub loop-next-init : goal.loop-next-init
loop-next-init c =
    let first : Found = (c.args.c, c.args.top) in
    record {
      so_far = subst (λ found. IsFound c.args.self.now c.args.c c.args.top found 0) (sym (c.push_reserved.ensures.items ∙ ap (λ found. found ++ first ∷ []) c.requires.none))
          (begun c.args.self.now (known (goal.at.loop-next-init c).After-len-count) c.args.c c.args.top c.requires.class.0 c.requires.class.1);
      capacity = c.push_reserved.ensures.capacity;
    }

-- the one that is looked at
looked_at : (found slice : List Found) (next : ℕ) (p : Found) → slice ≡ found → next < length slice → p ≡ get_or slice next p → slice_get found next ≡ Some p
looked_at found slice next p same lt is = ap (λ xs. slice_get xs next) (sym same) ∙ slice_get_read slice (length slice) next p refl lt is

pub find_below-requires : goal.find_below-requires
find_below-requires c = record {
  room = λ more under.
      let table = c.args.self.now in
      let so_far = c.loop-next.invariant.so_far in
      let p = c.in-Some.field-0.now in
      let fits = few_grown table (known (goal.at.find_below-requires c).After-len-count) c.args.c c.args.top c.requires.class.0 c.requires.class.1 c.loop-next.found.items c.loop-next.next so_far
      p.0 p.1 (looked_at c.loop-next.found.items c.deref.result.now c.loop-next.next c.in-Some.field-0.now c.deref.ensures.value c.in-Some.ensures.lookup.3.0 c.in-Some.ensures.lookup.1) more under in
      omega (arith, fits, c.requires.room, c.loop-next.invariant.capacity);
}

pub loop-next-preserved : goal.loop-next-preserved
loop-next-preserved c =
    let found = c.loop-next.found.items in
    let next = c.loop-next.next in
    record {
      so_far = grown c.args.self.now (known (goal.at.loop-next-preserved c).After-len-count) c.args.c c.args.top c.requires.class.0 c.requires.class.1 found next c.loop-next.invariant.so_far
          c.in-Some.field-0.now.0 c.in-Some.field-0.now.1 (looked_at c.loop-next.found.items c.deref.result.now c.loop-next.next c.in-Some.field-0.now c.deref.ensures.value c.in-Some.ensures.lookup.3.0 c.in-Some.ensures.lookup.1) c.find_below.new.found.items c.find_below.ensures.grows;
      capacity = c.find_below.ensures.capacity ∙ c.loop-next.invariant.capacity;
    }

pub returns-in_default-clause-family : goal.returns-in_default-clause-family
returns-in_default-clause-family c = λ name row named valid is_top.
    let le : length c.deref.result.now ≤ c.loop-next.next = c.in_default.ensures.lookup.3 in
    let done : length c.loop-next.found.items ≤ c.loop-next.next = omega (arith, le, ap length c.deref.ensures.value) in
    are_family c.args.self.now (known (goal.at.returns-in_default-clause-family c).After-len-count) c.args.c c.args.top c.loop-next.found.items c.loop-next.next c.loop-next.invariant.so_far done name row named valid is_top

pub returns-clause-family : goal.returns-clause-family
returns-clause-family c = λ name row named valid is_top.
    let all = known (goal.at.returns-clause-family c).After-len-count in
    let so_far = c.loop-next.invariant.so_far in
    let short : length c.loop-next.found.items ≤ map.len c.args.self.now.classes = few c.args.self.now all c.args.c c.args.top c.requires.class.0 c.requires.class.1 c.loop-next.found.items c.loop-next.next so_far in
    let count : length c.self.inside.order.items ≡ map.len c.args.self.now.classes =
    ordered_length c.self.inside.entries.items c.self.inside.order.items c.self.invariant.kept ∙ ap (λ (t : Table). map.len t.classes) c.self.view_is in
    let done : length c.loop-next.found.items ≤ c.loop-next.next = omega (arith, short, count) in
    are_family c.args.self.now all c.args.c c.args.top c.loop-next.found.items c.loop-next.next so_far done name row named valid is_top
