use Rattle.std.proofs.Common.{◌∙◌, refl, sym, ap, Some, is_some}
use Rattle.s80_form.specs.declared.refusal.ManyKind.TheVariants.{Methods as ManyMethods}
use Rattle.s80_apply.specs.Accept.{above, len_with}
use Rattle.s80_tree.specs.Tree.{method_of}
use Rattle.s80_apply.specs.Placed.{PlacedRow}
use Rattle.s80_apply.proofs.Codes.{code_is}
use Rattle.s80_apply.proofs.Places.{some_same}
use Rattle.s80_apply.proofs.method.placed_at.Goals as goal

pub returns-in-Some-above : goal.returns-in-Some-above
returns-in-Some-above c = record {
  number = Some c.in-Some.number;
  found = (c.in-Some.ensures.found.named, ap is_some c.in-Some.ensures.found.row);
  refused = ap (above 16384 ManyMethods) (sym (c.in_ok-count.ensures ∙ ap (λ d. len_with c.args.tree.now.selector d.methods) c.dict.ensures)) ∙ sym c.above.ensures ∙ c.in-Some-above.is;
}

pub returns : goal.returns
returns c = record {
  selector_is = c.in_ok-copy.ensures;
  side = refl;
  number = c.in-Some.ensures.found.named;
  only = λ n named. sym (some_same c.in-Some.number n (c.in-Some.ensures.only n named));
  there = ap is_some c.in-Some.ensures.found.row;
  few = ap (above 16384 ManyMethods) (sym (c.in_ok-count.ensures ∙ ap (λ d. len_with c.args.tree.now.selector d.methods) c.dict.ensures)) ∙ sym c.above.ensures ∙ c.in_default-above.is;
  row = c.in_ok-entry.ensures.row;
  code = code_is c.args.classes.now.classes c.args.method.now.class_name c.args.method.now.side c.args.tree.now.selector c.args.method.now.source.text c.in_ok-entry.field-0 c.in_ok-code.code (ap (λ (row : PlacedRow). row.source) c.in_ok-entry.ensures.row)
      c.in_ok-entry.ensures.code c.requires.short (method_of c.args.tree.now, c.requires.tree.method, c.requires.tree.fits, refl)
      (c.in_ok-code.ensures c.args.method.now.class_name c.args.method.now.source.text c.in-Some.ensures.found.named c.requires.tree.method);
  near = c.in_ok-entry.ensures.near;
}
