use Rattle.std.proofs.Common.{◌∙◌, ap, map as list_map, slice_get}
use Rattle.s80_history.specs.declared.noted.Noted.{Noted}
use Rattle.s80_history.specs.History.{HistoryState, set_places}
use Rattle.s80_history.specs.Members.{in_set}
use Rattle.s80_history.proofs.Continuing.{set_stands}
use Rattle.s80_history.proofs.history.History.set_at.Goals as goal

pub returns-clause-place : goal.returns-clause-place
returns-clause-place c =
    c.place_at.ensures
    ∙ ap (λ members. slice_get (list_map (λ (m : Noted). m.at) (in_set members)) c.args.i) c.deref.ensures.value
    ∙ ap (λ (h : HistoryState). slice_get (set_places h) c.args.i) c.self.view_is

pub returns-clause-of : goal.returns-clause-of
returns-clause-of c = λ changes is. returns-clause-place c ∙ ap (λ places. slice_get places c.args.i) (set_stands c.args.self.now changes is)
