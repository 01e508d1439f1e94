use Rattle.std.proofs.Common.{◌∙◌, ◌+◌, sym, ap}
use Rattle.s80_base.specs.Literal.{literal_of}
use Rattle.s80_object.specs.Body.{words_of}
use Rattle.s80_object.specs.Literal.{made_before}
use Rattle.s80_object.proofs.Building.{is_first, refused, succeeded, taken_back}
use Rattle.s80_object.proofs.objects.Objects.literal.Goals as goal

pub returns-then-is_none : goal.returns-then-is_none
returns-then-is_none c =
    refused c.args.string c.args.array (literal_of c.args.l.now) c.args.self.now c.room.result (sym (ap (λ s. words_of s.bodies + c.room.result) c.self.view_is) ∙ c.room.ensures) c.room_behind.result c.room_behind.ensures
    c.args.method c.args.entry (is_first c.args.method c.args.entry c.args.self.now c.get.result (c.get.ensures ∙ ap (made_before c.args.method c.args.entry) c.self.view_is) c.in_default.not-Some)
    c.if-is_none.ensures c.words.result (c.words.ensures.words ∙ ap (λ s. words_of s.bodies) c.self.view_is)

pub returns-in-Ok : goal.returns-in-Ok
returns-in-Ok c =
    succeeded c.args.string c.args.array (literal_of c.args.l.now) c.args.self.now c.room.result (sym (ap (λ s. words_of s.bodies + c.room.result) c.self.view_is) ∙ c.room.ensures) c.room_behind.result c.room_behind.ensures
    c.args.method c.args.entry (is_first c.args.method c.args.entry c.args.self.now c.get.result (c.get.ensures ∙ ap (made_before c.args.method c.args.entry) c.self.view_is) c.in_default.not-Some)
    c.if-is_none.ensures c.push_first.new.self c.in-Ok.value c.in-Ok.ensures.value c.in-Ok.ensures.ok

pub returns-in-Err : goal.returns-in-Err
returns-in-Err c =
    taken_back c.args.string c.args.array (literal_of c.args.l.now) c.args.self.now c.room.result (sym (ap (λ s. words_of s.bodies + c.room.result) c.self.view_is) ∙ c.room.ensures) c.room_behind.result c.room_behind.ensures
    c.args.method c.args.entry (is_first c.args.method c.args.entry c.args.self.now c.get.result (c.get.ensures ∙ ap (made_before c.args.method c.args.entry) c.self.view_is) c.in_default.not-Some)
    c.if-is_none.ensures c.take_back.new.self (c.take_back.ensures c.args.self.now c.marks-marks.ensures c.in-Err.ensures.err)
