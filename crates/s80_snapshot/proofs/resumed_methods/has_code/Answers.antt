use Rattle.std.proofs.Common.{◌≡◌, ◌↔◌, ◌∙◌, Bool, Bor, IsTrue, Option, Some, None, sym, ap, subst}
use Rattle.std.specs.FinMap as finmap
use Rattle.std.specs.Option.{option_copied}
use Rattle.s80_code.specs.declared.code.Code.{Code}
use Rattle.s80_dict.specs.Slots.{DictValue}
use Rattle.s80_dict.specs.Table.{MethodsValue, methods_at}
use Rattle.s80_apply.specs.Entries.{Entry}
use Rattle.s80_image.specs.Methods.{code_of}
use Rattle.s80_snapshot.specs.Resuming.{listed_of, selector_of}
use Rattle.s80_snapshot.specs.SameCode.{same_code}
use Rattle.s80_snapshot.proofs.ResumingOne.{not_absent, not_lacking, same_entry}
use Rattle.s80_snapshot.proofs.SameCodes.{code_told}
use Rattle.s80_snapshot.proofs.resumed_methods.has_code.Goals as goal
use Rattle.s80_snapshot.proofs.resumed_methods.has_code.Goals.{After-get}

found_by : (c : After-get) → option_copied c.get.result ≡ finmap.get (methods_at c.args.system.now.methods c.in-Some.number c.args.listed.now.side) (selector_of (listed_of c.args.listed.now))
found_by c =
    let selector = selector_of (listed_of c.args.listed.now) in
    c.get.ensures.value ∙ ap (λ (d : DictValue Entry). finmap.get d.methods selector) c.dict.ensures
    ∙ ap (λ (m : MethodsValue Entry). finmap.get (methods_at m c.in-Some.number c.args.listed.now.side) selector) c.methods-methods.ensures.methods

pub returns-in_default-clause-same : goal.returns-in_default-clause-same
returns-in_default-clause-same c = λ number entry numbered there. not_absent c.args.system.now (listed_of c.args.listed.now).class_name number numbered c.in_default.ensures

pub returns-in-None-clause-same : goal.returns-in-None-clause-same
returns-in-None-clause-same c = λ number entry numbered there.
    let m = listed_of c.args.listed.now in
    not_lacking c.args.system.now m.class_name m.side (selector_of m) c.in-Some.number number entry c.in-Some.ensures numbered
    (sym (found_by (goal.at.returns-in-None-clause-same c).After-get) ∙ ap (λ (o : Option (Bor Entry)). option_copied o) c.in-None.is) there

pub returns-in-Some-get-clause-same : goal.returns-in-Some-get-clause-same
returns-in-Some-get-clause-same c = λ number entry numbered there.
    let m = listed_of c.args.listed.now in
    let found : Entry = c.in-Some-get.entry.now in
    let got : finmap.get (methods_at c.args.system.now.methods c.in-Some.number m.side) (selector_of m) ≡ Some found =
    sym (found_by (goal.at.returns-in-Some-get-clause-same c).After-get) ∙ ap (λ (o : Option (Bor Entry)). option_copied o) c.in-Some-get.is in
    let same : found ≡ entry = same_entry c.args.system.now m.class_name m.side (selector_of m) c.in-Some.number number found entry c.in-Some.ensures numbered got there in
    let own : c.code.result.now ≡ entry.code = c.code.ensures.code ∙ ap (λ (e : Entry). e.code) same in
    let other : c.code-in-Some-get.result.now ≡ c.args.listed.now.method.now.code = c.code-in-Some-get.ensures.code in
    code_told (code_of entry.code) m.method.code c.same_code.result (c.same_code.ensures ∙ (λ i. same_code (code_of (own i)) (code_of (other i))))
