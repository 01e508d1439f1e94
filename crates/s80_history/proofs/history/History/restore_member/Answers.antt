use Rattle.std.proofs.Common.{◌≡◌, ◌+◌, ◌-◌, ◌∙◌, ◌++◌, ◌∷◌, ◌^◌, ◌<◌, [], None, ap, arith, length, refl, rules}
use Rattle.s80_history.specs.History.{HistoryState}
use Rattle.s80_history.proofs.Continuing.{places_still}
use Rattle.s80_history.proofs.Kept.{kept_roomy, kept_unready}
use Rattle.s80_history.proofs.Restoring.{set_is_restored, sound_restored, versions_restored}
use Rattle.s80_history.proofs.Stepping.{alike_itself, none_made}
use Rattle.s80_history.proofs.history.History.restore_member.Goals as goal
use Rattle.s80_history.proofs.history.History.restore_member.Goals.{After-restore}

-- ---- out of memory

pub invariant_of-self : goal.invariant_of-self
invariant_of-self c =
    let classes = c.self.inside.classes.entries in (
      none_made c.self.inside.members c.reserve.new.self c.self.inside.begun classes classes c.self.inside.next c.reserve.ensures.items (alike_itself classes) c.self.invariant.0,
      kept_roomy classes c.self.inside.keys c.self.inside.keys c.self.inside.next c.self.inside.next_key c.self.invariant.1 refl,
    )

pub invariant_of-self-then-number : goal.invariant_of-self-then-number
invariant_of-self-then-number c =
    let classes = c.self.inside.classes.entries in (
      none_made c.self.inside.members c.reserve.new.self c.self.inside.begun classes classes c.self.inside.next c.reserve.ensures.items (alike_itself classes) c.self.invariant.0,
      kept_roomy classes c.self.inside.keys c.self.inside.keys c.self.inside.next c.self.inside.next_key c.self.invariant.1 refl,
    )

pub invariant_of-self-in_err-make_place : goal.invariant_of-self-in_err-make_place
invariant_of-self-in_err-make_place c = (
  none_made c.self.inside.members c.reserve.new.self c.self.inside.begun c.self.inside.classes.entries c.make_place.new.classes.entries c.self.inside.next c.reserve.ensures.items c.make_place.ensures.same
      c.self.invariant.0,
  kept_unready c.self.inside.classes.entries c.make_place.new.classes.entries c.self.inside.keys c.self.inside.keys c.self.inside.next c.self.inside.next_key c.self.invariant.1 refl c.make_place.ensures.same.versions,
)

pub returns-in_err-make_place-clause-versions : goal.returns-in_err-make_place-clause-versions
returns-in_err-make_place-clause-versions c = λ name.
    places_still c.self.inside.members.items c.reserve.new.self.items c.self.inside.classes.entries c.make_place.new.classes.entries c.self.inside.next None c.args.self.now name c.self.view_is
    (c.make_place.ensures.same.versions name)

-- ---- one member more

numbered : (c : After-restore) → c.self.inside.begun + c.len.result ≡ c.self.inside.begun + length c.reserve.new.self.items
numbered c = let counted : c.len.result ≡ length c.reserve.new.self.items = search rules in ap (λ n. c.self.inside.begun + n) counted

fits : (c : After-restore) → c.self.inside.begun + length c.reserve.new.self.items + 1 < 2 ^ 64
fits c =
    let counted : c.len.result ≡ length c.reserve.new.self.items = search rules in
    let same = ap length c.reserve.ensures.items in
    omega (arith, counted, same, c.self.invariant.0.fits, c.if-number.false)

pub invariant_of-self-2 : goal.invariant_of-self-2
invariant_of-self-2 c =
    let at = (goal.at.invariant_of-self-2 c).After-restore in
    let inside = c.self.inside in (
      sound_restored inside.members c.reserve.new.self c.restore.new.members inside.begun inside.classes.entries c.make_place.new.classes.entries c.note-first.new.classes.entries inside.next c.args.member
          c.joining-member.result (inside.begun + c.len.result) c.note-first.result (c.note-first.result - inside.begun) c.self.invariant.0 c.reserve.ensures.items c.make_place.ensures.same c.joining-member.ensures
          (numbered at) c.note-first.ensures refl c.restore.ensures (fits at),
      kept_unready inside.classes.entries c.note-first.new.classes.entries inside.keys inside.keys inside.next inside.next_key c.self.invariant.1 refl
          (versions_restored inside.members c.reserve.new.self c.restore.new.members inside.begun inside.classes.entries c.make_place.new.classes.entries c.note-first.new.classes.entries inside.next c.args.member
          c.joining-member.result (inside.begun + c.len.result) c.note-first.result (c.note-first.result - inside.begun) c.self.invariant.0 c.reserve.ensures.items c.make_place.ensures.same c.joining-member.ensures
          (numbered at) c.note-first.ensures),
    )

pub returns-clause-ok : goal.returns-clause-ok
returns-clause-ok c =
    let at = (goal.at.returns-clause-ok c).After-restore in
    let inside = c.self.inside in
    set_is_restored inside.members c.reserve.new.self c.restore.new.members inside.begun inside.classes.entries c.make_place.new.classes.entries c.note-first.new.classes.entries inside.next c.args.member
    c.joining-member.result (inside.begun + c.len.result) c.note-first.result (c.note-first.result - inside.begun) c.self.invariant.0 c.reserve.ensures.items c.make_place.ensures.same c.joining-member.ensures
    (numbered at) c.note-first.ensures refl c.restore.ensures (fits at)
    ∙ ap (λ (h : HistoryState). h.members ++ c.args.member ∷ []) c.self.view_is

pub returns-clause-versions : goal.returns-clause-versions
returns-clause-versions c = λ name.
    let at = (goal.at.returns-clause-versions c).After-restore in
    let inside = c.self.inside in
    places_still inside.members.items c.restore.new.members.items inside.classes.entries c.note-first.new.classes.entries inside.next None c.args.self.now name c.self.view_is
    (versions_restored inside.members c.reserve.new.self c.restore.new.members inside.begun inside.classes.entries c.make_place.new.classes.entries c.note-first.new.classes.entries inside.next c.args.member
    c.joining-member.result (inside.begun + c.len.result) c.note-first.result (c.note-first.result - inside.begun) c.self.invariant.0 c.reserve.ensures.items c.make_place.ensures.same c.joining-member.ensures
    (numbered at) c.note-first.ensures name)
