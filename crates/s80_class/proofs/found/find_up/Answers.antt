use Rattle.std.proofs.Common.{◌∙◌, ap, refl, subst, sym}
use Rattle.std.specs.FinMap as map_of
use Rattle.s80_class.specs.Table.{IsClass, IsSuperclass}
use Rattle.s80_class.proofs.lemmas.Walks.{left, left_end, left_none}
use Rattle.s80_class.specs.Lookup.{IsFound, first_found, numbers_from, on_side}
use Rattle.s80_class.proofs.lemmas.Lookups.{found_none, found_one, goes_up, has_place, starts}
use Rattle.s80_class.proofs.found.find_up.Goals as goal

pub loop-init : goal.loop-init
loop-init g c = record {
  size = c.count-end.ensures.count;
  live = c.requires.class;
  same = ap (λ ns. first_found c.args.methods.now c.args.selector.now (on_side c.args.side ns)) (starts c.args.classes.now c.count-end.result c.args.from c.count-end.ensures.count c.requires.class);
}

pub returns-in_err-class : goal.returns-in_err-class
returns-in_err-class g c =
    let table = c.args.classes.now in
    let all = first_found c.args.methods.now c.args.selector.now (on_side c.args.side (numbers_from table c.args.from)) in
    subst (IsFound all) (sym c.from_residual.ensures)
    (found_none table c.count-end.ensures.known c.args.methods.now c.args.selector.now c.args.side all c.count-end.result c.loop.counter c.loop.next c.loop.invariant.same
    (ap (left table c.count-end.result c.loop.counter) c.in_err-class.was ∙ left_none table c.count-end.result c.loop.counter))

pub dict-requires : goal.dict-requires
dict-requires g c =
    let class : IsClass c.args.classes.now.names c.in_ok-class.class = subst (IsSuperclass c.args.classes.now.names) c.in_ok-class.was c.loop.invariant.live in
    has_place c.args.classes.now c.in_ok-class.class c.args.methods.now.sides c.requires.sides class

pub returns-in-Some : goal.returns-in-Some
returns-in-Some g c =
    let table = c.args.classes.now in
    let class : IsClass table.names c.in_ok-class.class = subst (IsSuperclass table.names) c.in_ok-class.was c.loop.invariant.live in
    found_one table c.count-end.ensures.known c.args.methods.now c.args.selector.now c.args.side (first_found c.args.methods.now c.args.selector.now (on_side c.args.side (numbers_from table c.args.from)))
    c.count-end.result c.loop.counter c.loop.next c.loop.invariant.same c.in_ok-class.class c.in-Some.entry.now (record { class = c.in_ok-class.class; side = c.args.side; entry = c.in-Some.entry }) c.loop-test.true class
    c.in_ok-class.was (sym (c.in-Some.ensures.value ∙ (λ i. map_of.get (c.dict.ensures i).methods c.args.selector.now))) refl refl refl

pub at-requires : goal.at-requires
at-requires g c = subst (IsSuperclass c.args.classes.now.names) c.in_ok-class.was c.loop.invariant.live

pub loop-preserved : goal.loop-preserved
loop-preserved g c =
    let table = c.args.classes.now in
    record {
      size = c.loop.invariant.size;
      live = c.at.ensures.superclass;
      same = sym (goes_up table c.count-end.ensures.known c.args.methods.now c.args.selector.now c.args.side c.count-end.result c.loop.counter c.in_ok-class.class c.at.result.now c.loop.next c.loop-test.true c.at.ensures c.in_ok-class.was
          (sym (c.in_default.ensures.value ∙ (λ i. map_of.get (c.dict.ensures i).methods c.args.selector.now))))
          ∙ c.loop.invariant.same;
    }

pub returns : goal.returns
returns g c =
    let table = c.args.classes.now in
    found_none table c.count-end.ensures.known c.args.methods.now c.args.selector.now c.args.side (first_found c.args.methods.now c.args.selector.now (on_side c.args.side (numbers_from table c.args.from)))
    c.count-end.result c.loop.counter c.loop.next c.loop.invariant.same (left_end table c.count-end.result c.loop.counter c.loop.next c.loop-test.false)
