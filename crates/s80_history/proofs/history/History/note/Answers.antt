use Rattle.std.proofs.Common.{◌≡◌, ◌+◌, ◌-◌, ◌∙◌, None, Some, [], ap, option_map, if◌then◌else◌, length, refl, rules, sym}
use Rattle.s80_history.specs.declared.noted.Noted.{Noted}
use Rattle.s80_history.specs.History.{HistoryState, noting}
use Rattle.s80_history.specs.Keys.{key_name, names_in, with_names}
use Rattle.s80_history.specs.Members.{in_set}
use Rattle.s80_history.specs.Sound.{IsRoomFor, group_here}
use Rattle.s80_history.specs.Topics.{is_new}
use Rattle.s80_history.specs.Traces.{IsJoinedIn}
use Rattle.s80_history.proofs.Continuing.{history_noted, history_passed, noted_at}
use Rattle.s80_history.proofs.Kept.{kept_noted, kept_passed}
use Rattle.s80_history.proofs.Stepping.{group_before, items_after, joins_of, placed_anywhere, sound_after, sound_anew}
use Rattle.s80_history.proofs.Tying.{set_added}
use Rattle.s80_history.proofs.history.History.note.Goals as goal
use Rattle.s80_history.proofs.history.History.note.Goals.{After-note-first, In-Some, In_default}

-- ---- a member

abbrev noted : In-Some → Noted
noted c = record c.in-Some.noted { at = c.args.at }

room : (c : In-Some) → IsRoomFor c.self.inside.members c.self.inside.begun c.self.inside.classes.entries c.in-Some.noted
room c = c.self.invariant.0.ready c.in-Some.noted (sym c.in-Some.ensures.value)

readied : (c : In-Some) → Some c.in-Some.noted ≡ noting 0 c.args.change.now
readied c = c.in-Some.ensures.value ∙ ap (λ (h : HistoryState). h.ready) c.self.view_is ∙ c.requires

joins : (c : After-note-first) → IsJoinedIn (record c.in-Some.noted { at = c.args.at }) c.self.inside.begun (c.self.inside.begun + c.len-2.result) c.self.inside.classes.entries c.note-first.new.classes.entries c.note-first.result
joins c = joins_of (record c.in-Some.noted { at = c.args.at }) c.self.inside.begun (c.self.inside.begun + c.len-2.result) c.self.inside.classes.entries c.note-first.new.classes.entries c.note-first.result c.note-first.ensures

numbered : (c : After-note-first) → c.self.inside.begun + c.len-2.result ≡ c.self.inside.begun + length c.self.inside.members.items
numbered c = let counted : c.len-2.result ≡ length c.self.inside.members.items = search rules in ap (λ n. c.self.inside.begun + n) counted

pub note-first-requires : goal.note-first-requires
note-first-requires c = placed_anywhere c.self.inside.classes.entries c.in-Some.noted c.args.at (room (goal.at.note-first-requires c).In-Some).place

pub add-requires-clause-room : goal.add-requires-clause-room
add-requires-clause-room c = (room (goal.at.add-requires-clause-room c).In-Some).room

pub add-requires-clause-group : goal.add-requires-clause-group
add-requires-clause-group c =
    let at = goal.at.add-requires-clause-group c in
    group_before c.self.inside.members c.self.inside.begun c.self.inside.classes.entries c.self.inside.next (noted at.In-Some) c.note-first.new.classes.entries
    (c.self.inside.begun + c.len-2.result) c.note-first.result c.self.invariant.0 (numbered at.After-note-first) (joins at.After-note-first)

pub invariant_of-self-2 : goal.invariant_of-self-2
invariant_of-self-2 c =
    let at = goal.at.invariant_of-self-2 c in
    rw (c.take.ensures.after, c.take-2.ensures.after) (
      sound_after c.self.inside.members c.self.inside.begun c.self.inside.classes.entries c.self.inside.next (noted at.In-Some) c.note-first.new.classes.entries
          (c.self.inside.begun + c.len-2.result) c.note-first.result c.self.invariant.0 (numbered at.After-note-first) (joins at.After-note-first) c.add.new.members (c.note-first.result - c.self.inside.begun) (is_new (noted at.In-Some)) (λ new. new) refl
          c.add.ensures (room at.In-Some).number,
      kept_noted c.self.inside.classes.entries c.note-first.new.classes.entries c.self.inside.keys c.put_next.new.keys c.self.inside.next c.self.inside.next_key c.self.invariant.1 c.in-Some.noted c.args.at
          (sym c.in-Some.ensures.value) (c.put_next.ensures ∙ ap (λ key. with_names (option_map key_name key) (names_in c.self.inside.keys.items)) c.take-2.ensures.value) c.note-first.ensures.versions,
    )

pub returns : goal.returns
returns c = λ changes lawful here history.
    let at = goal.at.returns c in
    let inside = c.self.inside in
    let m = noted at.In-Some in
    let items = items_after inside.members inside.begun inside.classes.entries inside.next m c.note-first.new.classes.entries (inside.begun + c.len-2.result) c.note-first.result c.self.invariant.0
    (numbered at.After-note-first) (joins at.After-note-first) c.add.new.members (c.note-first.result - inside.begun) (is_new m) (λ new. new) refl c.add.ensures (room at.In-Some).number in
    history_noted inside.members.items inside.classes.entries inside.next c.args.self.now c.self.view_is c.args.change.now c.args.at changes here history m c.add.new.members.items
    c.note-first.new.classes.entries c.take.new.self (noted_at c.args.change.now c.args.at c.in-Some.noted (readied at.In-Some))
    (ap in_set items ∙ set_added inside.members.items m (group_here inside.begun inside.classes.entries) c.self.invariant.0.within c.self.invariant.0.tied) c.note-first.ensures.versions

-- ---- no member

unready : (c : In_default) → None ≡ noting 0 c.args.change.now
unready c = c.in_default.ensures.value ∙ ap (λ (h : HistoryState). h.ready) c.self.view_is ∙ c.requires

pub invariant_of-self : goal.invariant_of-self
invariant_of-self c =
    let counted : c.len.result ≡ length c.self.inside.members.items = search rules in
    rw c.take.ensures.after (
      sound_anew c.self.inside.members c.clear.new.self c.self.inside.begun (c.self.inside.begun + c.len.result) c.self.inside.classes.entries c.self.inside.next c.self.invariant.0 c.clear.ensures.items
          (ap (λ n. c.self.inside.begun + n) counted),
      kept_passed c.self.inside.classes.entries c.self.inside.keys c.self.inside.next c.self.inside.next_key c.self.invariant.1 c.in_default.ensures.value,
    )

pub returns-then-is_no_changes : goal.returns-then-is_no_changes
returns-then-is_no_changes c = λ changes lawful here history.
    let inside = c.self.inside in
    history_passed inside.members.items inside.classes.entries inside.next c.args.self.now c.self.view_is c.args.change.now c.args.at changes here history c.clear.new.self.items c.take.new.self
    (unready (goal.at.returns-then-is_no_changes c).In_default)
    (ap in_set c.clear.ensures.items ∙ ap (λ b. if b then [] else in_set inside.members.items) c.if-is_no_changes.ensures)

pub returns-else-is_no_changes : goal.returns-else-is_no_changes
returns-else-is_no_changes c = λ changes lawful here history.
    let inside = c.self.inside in
    history_passed inside.members.items inside.classes.entries inside.next c.args.self.now c.self.view_is c.args.change.now c.args.at changes here history inside.members.items c.take.new.self
    (unready (goal.at.returns-else-is_no_changes c).In_default)
    (ap (λ b. if b then [] else in_set inside.members.items) c.if-is_no_changes.ensures)
