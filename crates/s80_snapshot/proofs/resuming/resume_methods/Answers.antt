use Rattle.std.proofs.Common.{◌≡◌, ◌∙◌, List, Some, true, false, length, map, slice_get, sym, ap, subst, arith}
use Rattle.std.specs.Vec.Iter.{into_iter_items, into_iter_len}
use Rattle.s80_image.specs.Classes.{ClassView, classes_of}
use Rattle.s80_snapshot.specs.declared.resumed_methods.ListedMethod.{ListedMethod}
use Rattle.s80_snapshot.specs.Resuming.{Resumed, listed_of, with_sources}
use Rattle.s80_snapshot.specs.Sources.{imaged_methods}
use Rattle.s80_snapshot.proofs.OnWay.{begun_way}
use Rattle.s80_snapshot.proofs.PiecesAdded.{item_at}
use Rattle.s80_snapshot.proofs.TakingSources.{all_left, another, ends, enough, further, not_as_many, one_taken, ready}
use Rattle.s80_snapshot.proofs.resuming.resume_methods.Goals as goal
use Rattle.s80_snapshot.proofs.resuming.resume_methods.Goals.{After-deref-method-items, In-Some}

-- the methods that are listed are the image's, and as many as the sources
are_listed : (c : After-deref-method-items) → map listed_of c.deref-method-items.result.now ≡ imaged_methods (classes_of c.args.classes.now)
are_listed c = ap (map listed_of) c.deref-method-items.ensures.value ∙ c.in_ok-methods.ensures

as_many : (c : After-deref-method-items) → length c.deref-method-items.result.now ≡ length c.args.sources.items
as_many c =
    ap length c.deref-method-items.ensures.value ∙ sym c.in_ok-methods.methods.ok.0 ∙ sym c.len.ensures ∙ c.if-len.false ∙ c.len-2.ensures ∙ c.args.sources.ok.0

-- the method that is next, and its source
method_there : (c : In-Some) → slice_get c.deref-method-items.result.now c.loop-method.method-index ≡ Some c.method-item.result
method_there c = item_at c.deref-method-items.result.now c.loop-method.method-index c.method-item.result c.loop-method-test.true c.method-item.is

pub loop-method-init : goal.loop-method-init
loop-method-init c =
    let cs = classes_of c.args.classes.now in
    let sources = c.args.sources.items in
    let rest = c.into_iter-rest.result in
    record {
      left = all_left sources (into_iter_items rest) (into_iter_len rest) c.into_iter-rest.ensures.rest (c.into_iter-rest.ensures.len ∙ c.args.sources.ok.0 ∙ ap length (sym c.into_iter-rest.ensures.rest));
      on = begun_way cs (with_sources (imaged_methods cs) sources) c.args.system.now c.requires.begun;
    }

pub resume_method-requires : goal.resume_method-requires
resume_method-requires c =
    let listed = c.deref-method-items.result.now in
    ready (classes_of c.args.classes.now) c.requires.ordered listed (are_listed (goal.at.resume_method-requires c).After-deref-method-items) c.args.sources.items c.loop-method.method-index c.method-item.result c.loop-method.system
    (method_there (goal.at.resume_method-requires c).In-Some) c.loop-method.invariant.on

pub loop-method-preserved : goal.loop-method-preserved
loop-method-preserved c =
    let cs = classes_of c.args.classes.now in
    let listed = c.deref-method-items.result.now in
    let sources = c.args.sources.items in
    let i = c.loop-method.method-index in
    let before = c.loop-method.rest in
    let after = c.next.new.self in
    let source = c.in-Some.source in
    let method = c.method-item.result in
    let at = goal.at.loop-method-preserved c in
    let taken = one_taken sources (into_iter_items before) (into_iter_items after) (into_iter_len before) (into_iter_len after) i source c.loop-method.invariant.left c.in-Some.ensures.cases.0 c.in-Some.ensures.cases.1 in
    record {
      left = taken.1;
      on = further cs c.requires.ordered listed (are_listed at.After-deref-method-items) sources (as_many at.After-deref-method-items) i method source c.loop-method.system c.resume_method.new.system
          (method_there at.In-Some) taken.0 c.loop-method.invariant.on
          (subst (Resumed (listed_of method) source c.loop-method.system c.resume_method.new.system) c.if-not-branch.false c.in_ok-resume_method.ensures);
    }

pub returns-then-len : goal.returns-then-len
returns-then-len c =
    not_as_many (classes_of c.args.classes.now) c.requires.ordered c.in_ok-methods.methods.items c.in_ok-methods.ensures c.args.sources.items
    (λ same. c.if-len.true (c.len.ensures ∙ c.in_ok-methods.methods.ok.0 ∙ same ∙ sym c.args.sources.ok.0 ∙ sym c.len-2.ensures))

pub returns-in_default : goal.returns-in_default
returns-in_default c =
    let at = goal.at.returns-in_default c in
    let before = c.loop-method.rest in
    enough (classes_of c.args.classes.now) c.requires.ordered c.deref-method-items.result.now (are_listed at.After-deref-method-items) c.args.sources.items (as_many at.After-deref-method-items)
    (into_iter_items before) (into_iter_len before) c.loop-method.method-index c.loop-method.invariant.left c.in_default.ensures.cases.0 c.loop-method-test.true

pub returns-then-not-branch : goal.returns-then-not-branch
returns-then-not-branch c =
    let cs = classes_of c.args.classes.now in
    let listed = c.deref-method-items.result.now in
    let sources = c.args.sources.items in
    let i = c.loop-method.method-index in
    let before = c.loop-method.rest in
    let after = c.next.new.self in
    let source = c.in-Some.source in
    let method = c.method-item.result in
    let at = goal.at.returns-then-not-branch c in
    let taken = one_taken sources (into_iter_items before) (into_iter_items after) (into_iter_len before) (into_iter_len after) i source c.loop-method.invariant.left c.in-Some.ensures.cases.0 c.in-Some.ensures.cases.1 in
    another cs c.requires.ordered listed (are_listed at.After-deref-method-items) sources (as_many at.After-deref-method-items) i method source c.loop-method.system c.resume_method.new.system
    (method_there at.In-Some) taken.0 c.loop-method.invariant.on
    (subst (Resumed (listed_of method) source c.loop-method.system c.resume_method.new.system) c.if-not-branch.true c.in_ok-resume_method.ensures)

pub returns : goal.returns
returns c =
    let at = goal.at.returns c in
    ends (classes_of c.args.classes.now) c.requires.ordered c.deref-method-items.result.now (are_listed at.After-deref-method-items) c.args.sources.items (as_many at.After-deref-method-items)
    c.one_tree.ensures.method c.one_code.ensures.method c.loop-method.method-index c.loop-method.system c.loop-method-test.false c.loop-method.invariant.on
