use Rattle.std.proofs.Common.{◌≡◌, ◌<◌, ◌≤◌, ◌+◌, ◌++◌, ◌∷◌, [], ◌∙◌, ℕ, List, get_or, refl, sym, ap, length, Some, slice_get, arith, append_assoc, length-append, vec_capacity}
use Rattle.std.proofs.lemmas.Option.{slice_get_read, slice_get_within}
use Rattle.s80_class.specs.Counted.{over}
use Rattle.s80_class.specs.Family.{Found}
use Rattle.s80_class.specs.Below.{Pair}
use Rattle.s80_class.proofs.Indexed.{IsRead, nothing_read, read_more, are_under, are_subclasses, class_of_pair, differs, same_number_of, push_none, push_one}
use Rattle.s80_class.proofs.tree.ClassTree.find_below.Goals.{After-over}
use Rattle.s80_class.proofs.tree.ClassTree.find_below.Goals as goal

-- the pair that is read
read_at : (pairs : List Pair) (at : ℕ) (pair : Pair) → at < length pairs → pair ≡ get_or pairs at pair → slice_get pairs at ≡ Some pair
read_at pairs at pair lt is = slice_get_read pairs (length pairs) at pair refl lt is

pub loop-at-init : goal.loop-at-init
loop-at-init c = record {
  so_far = ([], push_none c.args.found.now.items, nothing_read c.args.self.now c.args.number c.args.totals c.self.inside.subclasses.items c.place_below-first.result);
  capacity = refl;
}

pub at-requires : goal.at-requires
at-requires c =
    class_of_pair c.self.inside.entries.items c.self.inside.order.items c.self.invariant.kept c.self.inside.subclasses.items c.self.invariant.indexed c.self.inside.spare c.args.self.now c.self.view_is
    c.index.result.now (c.loop-at.at, read_at c.self.inside.subclasses.items c.loop-at.at c.index.result.now (omega arith) c.index.ensures)

-- one more is found, and the subclasses that were found are still some of those that there are
module _ (c : After-over) where
  abbrev number : ℕ
  number = c.args.number

  abbrev one : Found
  one = (c.index.result.now.1, c.over.result)

  abbrev more : List Found
  more = c.loop-at.invariant.so_far.0 ++ one ∷ []

  read_one : IsRead c.args.self.now number c.args.totals c.self.inside.subclasses.items c.place_below-first.result (c.loop-at.at + 1) more
  read_one =
      let pairs = c.self.inside.subclasses.items in
      let pair = c.index.result.now in
      let same : pair.0 ≡ Some number = same_number_of pair.0 number c.ne.result c.ne.ensures c.if-ne.false in
      let here : slice_get pairs c.loop-at.at ≡ Some (Some number, pair.1) = read_at pairs c.loop-at.at pair (omega arith) c.index.ensures ∙ (λ i. Some (same i, pair.1)) in
      let so_far = c.loop-at.invariant.so_far in
      read_more c.self.inside.entries.items c.self.inside.order.items c.self.invariant.kept pairs c.self.invariant.indexed c.self.inside.spare c.args.self.now c.self.view_is
      number c.args.totals c.place_below-first.result c.loop-at.at pair.1 so_far.0 c.at.result.now c.over.result so_far.2 here c.at.ensures
      (c.over.ensures ∙ ap (λ t. over t c.args.totals) c.own-own.ensures)

  one_fits : length (c.args.found.now.items ++ more) ≤ vec_capacity c.args.found.now
  one_fits =
      c.requires.room more
      (are_under c.self.inside.entries.items c.self.inside.order.items c.self.invariant.kept c.self.inside.subclasses.items c.self.invariant.indexed c.self.inside.spare c.args.self.now c.self.view_is
      number c.args.totals c.place_below-first.result (c.loop-at.at + 1) more read_one)

pub push_reserved-requires : goal.push_reserved-requires
push_reserved-requires c =
    let o = (goal.at.push_reserved-requires c).After-over in
    let so_far = c.loop-at.invariant.so_far in
    let fits = one_fits o in
    let size : length (c.args.found.now.items ++ more o) ≡ length c.loop-at.found.items + 1 =
    ap length (sym (append_assoc c.args.found.now.items so_far.0 (one o ∷ []))) ∙ ap (λ (xs : List Found). length (xs ++ one o ∷ [])) (sym so_far.1) ∙ length-append c.loop-at.found.items (one o ∷ []) in
    omega (arith, fits, size, c.loop-at.invariant.capacity)

pub loop-at-preserved : goal.loop-at-preserved
loop-at-preserved c =
    let o = (goal.at.loop-at-preserved c).After-over in
    let so_far = c.loop-at.invariant.so_far in
    record {
      so_far = (more o, push_one c.args.found.now.items so_far.0 c.loop-at.found.items c.push_reserved.new.self.items (one o) so_far.1 c.push_reserved.ensures.items, read_one o);
      capacity = c.push_reserved.ensures.capacity ∙ c.loop-at.invariant.capacity;
    }

pub returns-then-ne-clause-grows : goal.returns-then-ne-clause-grows
returns-then-ne-clause-grows c =
    let pairs = c.self.inside.subclasses.items in
    let so_far = c.loop-at.invariant.so_far in
    let place = rw c.deref.ensures.value at c.place_below-first.ensures in
    let here = read_at pairs c.loop-at.at c.index.result.now (omega arith) c.index.ensures in (
      so_far.0,
      so_far.1,
      are_subclasses c.self.inside.entries.items c.self.inside.order.items c.self.invariant.kept pairs c.self.invariant.indexed c.self.inside.spare c.args.self.now c.self.view_is
          c.args.number c.args.totals c.place_below-first.result c.loop-at.at so_far.0 so_far.2 place
          (λ p is same. differs c.index.result.now.0 c.args.number c.ne.result c.ne.ensures c.if-ne.true
          (ap (λ (q : Pair). q.0) (let both : Some c.index.result.now ≡ Some p = sym here ∙ is in let alike : c.index.result.now ≡ p = cc in alike) ∙ same)),
    )

pub returns-clause-grows : goal.returns-clause-grows
returns-clause-grows c =
    let pairs = c.self.inside.subclasses.items in
    let so_far = c.loop-at.invariant.so_far in
    let place = rw c.deref.ensures.value at c.place_below-first.ensures in (
      so_far.0,
      so_far.1,
      are_subclasses c.self.inside.entries.items c.self.inside.order.items c.self.invariant.kept pairs c.self.invariant.indexed c.self.inside.spare c.args.self.now c.self.view_is
          c.args.number c.args.totals c.place_below-first.result c.loop-at.at so_far.0 so_far.2 place
          (λ p is same. let lt : c.loop-at.at < length pairs = slice_get_within pairs c.loop-at.at p is in absurd (omega arith)),
    )
