use Rattle.std.proofs.Common.{◌∙◌, ◌+◌, ap, refl, sym, subst, arith, Vec, Global}
use Rattle.std.specs.Option.{IsSome}
use Rattle.std.specs.FinMap as map
use Rattle.s80_dict.specs.Dict.{HasRoom}
use Rattle.s80_dict.specs.Table.{methods_at}
use Rattle.s80_apply.specs.declared.step.PlacedMethod.{PlacedMethod}
use Rattle.s80_apply.specs.System.{SystemState}
use Rattle.s80_apply.proofs.Recompiled.{IsAdding, adding_all, adding_more, adding_none, adding_same, is_recompiled, keys_once}
use Rattle.s80_apply.proofs.recompile.recompile_named.Goals as goal
use Rattle.s80_apply.proofs.recompile.recompile_named.Goals.{in-Some+in_ok-copy+in_ok-recompiled_entry+in_ok-push, in_default}

pub loop-i-init : goal.loop-i-init
loop-i-init c = adding_none (record { table = c.args.classes.now; methods = c.args.methods.now }) c.args.class c.args.side c.args.selectors.now c.args.recompiled.now.items

pub recompiled_entry-requires-clause-source : goal.recompiled_entry-requires-clause-source
recompiled_entry-requires-clause-source c =
    let key = c.at-selector.result.now in
    let h = c.requires.sources c.args.class c.args.side key c.in-Some.entry.now (sym (c.in-Some.ensures.value ∙ ap (λ d. map.get d.methods key) c.dict-dict.ensures)) in
    (h.0, (key, h.1))

pub loop-i-preserved : goal.loop-i-preserved
loop-i-preserved c =
    let system : SystemState = record { table = c.args.classes.now; methods = c.args.methods.now } in
    let key = c.at-selector.result.now in
    let before = c.args.recompiled.now.items in
    elim c.match-get.branch [
      | in-Some+in_ok-copy+in_ok-recompiled_entry+in_ok-push w ↦
          adding_more system c.args.class c.args.side c.args.selectors.now c.loop-i.i key c.at-selector.ensures before c.loop-i.recompiled.items c.loop-i.invariant
          (keys_once (methods_at system.methods c.args.class c.args.side) c.args.selectors.now c.requires.selectors)
          (record { number = c.args.class; side = c.args.side; selector = w.in_ok-copy.field-0; entry = w.in_ok-recompiled_entry.field-0 }) c.match-get.recompiled.items
          (is_recompiled system c.args.class c.args.side key w.in_ok-copy.field-0 w.in-Some.entry.now w.in_ok-recompiled_entry.field-0 c.requires.dictionaries c.requires.class c.requires.sources w.in_ok-copy.ensures
          (sym (w.in-Some.ensures.value ∙ ap (λ d. map.get d.methods key) c.dict-dict.ensures))
          (subst (λ d. HasRoom d.room key) c.dict-dict.ensures (c.get.ensures.room key (subst IsSome w.in-Some.ensures.value refl))) w.in_ok-recompiled_entry.ensures.row w.in_ok-recompiled_entry.ensures.code)
          refl refl w.in_ok-copy.ensures (ap (λ (v : Vec PlacedMethod Global). v.items) w.recompiled-is ∙ w.in_ok-push.ensures.items)
      | in_default w ↦
          subst (λ (v : Vec PlacedMethod Global). IsAdding system c.args.class c.args.side c.args.selectors.now (c.loop-i.i + 1) before v.items) (sym w.recompiled-is)
          (adding_same system c.args.class c.args.side c.args.selectors.now c.loop-i.i key c.at-selector.ensures before c.loop-i.recompiled.items c.loop-i.invariant
          (sym (w.in_default.ensures.value ∙ ap (λ d. map.get d.methods key) c.dict-dict.ensures)))
    ]

pub returns : goal.returns
returns c =
    let system : SystemState = record { table = c.args.classes.now; methods = c.args.methods.now } in
    adding_all system c.args.class c.args.side c.args.selectors.now c.loop-i.i c.args.recompiled.now.items c.loop-i.recompiled.items c.requires.selectors (omega (arith, c.loop-i-test.false, c.count-i-end.ensures)) c.loop-i.invariant
