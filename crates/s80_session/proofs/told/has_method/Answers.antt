use Rattle.std.proofs.Common.{◌≡◌, Option, Some, None, is_some, option_map, refl, sym, ap, ◌∙◌}
use Rattle.std.specs.FinMap as map
use Rattle.s80_dict.specs.Table.{MethodsValue, methods_at}
use Rattle.s80_apply.specs.Entries.{Entry}
use Rattle.s80_session.proofs.told.has_method.Goals as goal

-- what is seen of a value is there where the value is
some_alike : {X Y : Type 0} (f : X → Y) (o : Option X) → is_some (option_map f o) ≡ is_some o
some_alike f None = refl
some_alike f (Some x) = refl

pub returns : goal.returns
returns c = λ state name system named.
    let these : c.dict.result.now.methods ≡ methods_at c.args.system.now.methods c.args.number c.args.side = ap (λ d. d.methods) c.dict.ensures ∙ ap (λ (m : MethodsValue Entry). methods_at m c.args.number c.args.side) c.methods.ensures.methods in
    let found = c.get.ensures.value ∙ ap (λ m. map.get m c.args.selector.now) these in
    let seen = (system.methods c.args.number name c.args.side named).each c.args.selector.now in
    c.is_some.ensures ∙ sym (some_alike _ c.get.result) ∙ ap is_some found ∙ sym (some_alike _ (map.get (methods_at c.args.system.now.methods c.args.number c.args.side) c.args.selector.now)) ∙ ap is_some seen
