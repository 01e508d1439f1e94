use Rattle.std.proofs.Common.{◌≡◌, ◌∙◌, None, ap, arith, length, refl, rules}
use Rattle.std.specs.Bool.{⊤}
use Rattle.std.proofs.lemmas.Option.{MatchOption-at_some}
use Rattle.s80_history.specs.History.{HistoryState}
use Rattle.s80_history.specs.Members.{in_set}
use Rattle.s80_history.specs.Traces.{HasPlaceIn}
use Rattle.s80_history.proofs.Continuing.{places_still, shown, still_history}
use Rattle.s80_history.proofs.Kept.{kept_ready, kept_roomy, kept_unready}
use Rattle.s80_history.proofs.Stepping.{alike_itself, none_made, room_made}
use Rattle.s80_history.proofs.history.History.reserve.Goals as goal

pub invariant_of-self : goal.invariant_of-self
invariant_of-self c =
    let classes = c.self.inside.classes.entries in (
      none_made c.self.inside.members c.reserve.new.self c.self.inside.begun classes classes c.self.inside.next c.reserve.ensures.items (alike_itself classes) c.self.invariant.0,
      kept_roomy classes c.self.inside.keys c.self.inside.keys c.self.inside.next c.self.inside.next_key c.self.invariant.1 refl,
    )

pub invariant_of-self-then-number : goal.invariant_of-self-then-number
invariant_of-self-then-number c =
    let classes = c.self.inside.classes.entries in (
      none_made c.self.inside.members c.reserve.new.self c.self.inside.begun classes classes c.self.inside.next c.reserve.ensures.items (alike_itself classes) c.self.invariant.0,
      kept_roomy classes c.self.inside.keys c.self.inside.keys c.self.inside.next c.self.inside.next_key c.self.invariant.1 refl,
    )

pub invariant_of-self-in_err-reserve-2 : goal.invariant_of-self-in_err-reserve-2
invariant_of-self-in_err-reserve-2 c =
    let classes = c.self.inside.classes.entries in (
      none_made c.self.inside.members c.reserve.new.self c.self.inside.begun classes classes c.self.inside.next c.reserve.ensures.items (alike_itself classes) c.self.invariant.0,
      kept_roomy classes c.self.inside.keys c.reserve-2.new.self c.self.inside.next c.self.inside.next_key c.self.invariant.1 c.reserve-2.ensures.items,
    )

pub invariant_of-self-in_err-noted : goal.invariant_of-self-in_err-noted
invariant_of-self-in_err-noted c = (
  none_made c.self.inside.members c.reserve.new.self c.self.inside.begun c.self.inside.classes.entries c.ready.new.classes.entries c.self.inside.next c.reserve.ensures.items c.ready.ensures.same c.self.invariant.0,
  kept_unready c.self.inside.classes.entries c.ready.new.classes.entries c.self.inside.keys c.reserve-2.new.self c.self.inside.next c.self.inside.next_key c.self.invariant.1 c.reserve-2.ensures.items
      c.ready.ensures.same.versions,
)

pub invariant_of-self-in_err-self-inside : goal.invariant_of-self-in_err-self-inside
invariant_of-self-in_err-self-inside c = (
  none_made c.self.inside.members c.reserve.new.self c.self.inside.begun c.self.inside.classes.entries c.ready.new.classes.entries c.self.inside.next c.reserve.ensures.items c.ready.ensures.same c.self.invariant.0,
  kept_unready c.self.inside.classes.entries c.ready.new.classes.entries c.self.inside.keys c.reserve-2.new.self c.self.inside.next c.self.inside.next_key c.self.invariant.1 c.reserve-2.ensures.items
      c.ready.ensures.same.versions,
)

pub returns-in_err-self-inside-clause-versions : goal.returns-in_err-self-inside-clause-versions
returns-in_err-self-inside-clause-versions c = λ name.
    places_still c.self.inside.members.items c.reserve.new.self.items c.self.inside.classes.entries c.ready.new.classes.entries c.self.inside.next None c.args.self.now name c.self.view_is
    (c.ready.ensures.same.versions name)

pub returns-in_err-self-inside-clause-of : goal.returns-in_err-self-inside-clause-of
returns-in_err-self-inside-clause-of c = λ changes is.
    still_history c.args.self.now (shown c.reserve.new.self.items c.ready.new.classes.entries None) changes
    (ap in_set c.reserve.ensures.items ∙ ap (λ (h : HistoryState). h.members) c.self.view_is) (returns-in_err-self-inside-clause-versions c) is

pub returns-in_err-noted-clause-versions : goal.returns-in_err-noted-clause-versions
returns-in_err-noted-clause-versions c = λ name.
    places_still c.self.inside.members.items c.reserve.new.self.items c.self.inside.classes.entries c.ready.new.classes.entries c.self.inside.next None c.args.self.now name c.self.view_is
    (c.ready.ensures.same.versions name)

pub returns-in_err-noted-clause-of : goal.returns-in_err-noted-clause-of
returns-in_err-noted-clause-of c = λ changes is.
    still_history c.args.self.now (shown c.reserve.new.self.items c.ready.new.classes.entries None) changes
    (ap in_set c.reserve.ensures.items ∙ ap (λ (h : HistoryState). h.members) c.self.view_is) (returns-in_err-noted-clause-versions c) is

pub invariant_of-self-2 : goal.invariant_of-self-2
invariant_of-self-2 c =
    let counted : c.len.result ≡ length c.reserve.new.self.items = search rules in
    let same = ap length c.reserve.ensures.items in (
      room_made c.self.inside.members c.reserve.new.self c.self.inside.begun c.self.inside.classes.entries c.ready.new.classes.entries c.self.inside.next c.reserve.ensures.items c.ready.ensures.same c.self.invariant.0
          c.in_ok-noted.noted (λ noted is. record {
            number = omega (arith, counted, same, c.self.invariant.0.fits, c.if-number.false);
            room = omega (arith, c.in_ok-reserve.ensures.ok);
            place = MatchOption-at_some ⊤ (HasPlaceIn c.ready.new.classes.entries) noted is c.in_ok-noted.ensures.place;
          }),
      kept_ready c.self.inside.classes.entries c.ready.new.classes.entries c.self.inside.keys c.reserve-2.new.self c.self.inside.next c.self.inside.next_key c.self.invariant.1 c.reserve-2.ensures.items
          c.ready.ensures.same.versions c.in_ok-noted.noted c.in_ok-self-inside.field-0 c.in_ok-self-inside.ensures (λ there. omega (arith, c.in_ok-reserve-2.ensures.ok)),
    )

pub returns-clause-versions : goal.returns-clause-versions
returns-clause-versions c = λ name.
    places_still c.self.inside.members.items c.reserve.new.self.items c.self.inside.classes.entries c.ready.new.classes.entries c.self.inside.next c.in_ok-noted.noted c.args.self.now name c.self.view_is
    (c.ready.ensures.same.versions name)

pub returns-clause-of : goal.returns-clause-of
returns-clause-of c = λ changes is.
    still_history c.args.self.now (shown c.reserve.new.self.items c.ready.new.classes.entries c.in_ok-noted.noted) changes
    (ap in_set c.reserve.ensures.items ∙ ap (λ (h : HistoryState). h.members) c.self.view_is) (returns-clause-versions c) is
