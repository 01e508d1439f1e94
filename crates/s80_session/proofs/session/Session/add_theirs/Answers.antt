use Rattle.std.proofs.Common.{◌≡◌, ◌∷◌, ℕ, [], List, Ok, Option, refl, sym, ap, subst, ◌∙◌, arith, rules, length, length-append}
use Rattle.std.proofs.lemmas.List.{nil_from_length}
use Rattle.std.proofs.lemmas.List.Elements.{All-head, All-rest, All-same}
use Rattle.std.proofs.lemmas.Result.{err_from_is_err_and}
use Rattle.std.specs.Prelude.{All, false}
use Rattle.std.specs.Vec.Iter.{into_iter_items}
use Rattle.s80_change.specs.Block.{IsLawful}
use Rattle.s80_change.specs.declared.change.Change.{Change}
use Rattle.s80_disk.specs.Moments.{LeavesOnly}
use Rattle.s80_disk.proofs.lemmas.Showing.{told_beside}
use Rattle.s80_form.specs.declared.refusal.Refusal.{Refusal}
use Rattle.s80_joining.specs.declared.outcome.Outcome.TheVariants as outcomes
use Rattle.s80_model.specs.Replies.{Work}
use Rattle.s80_session.specs.declared.merge.MergeReply.{MergeReply}
use Rattle.s80_session.specs.Merging.{AddsChange, IsDone, IsHalfDone, IsJoining, JoinBreaks, JoinKeeps}
use Rattle.s80_session.specs.Working.{IsAt}
use Rattle.s80_session.proofs.Answering.{no_fewer_on}
use Rattle.s80_session.proofs.Breaking.{done_counts, err_counts_on, memory_counts, memory_only}
use Rattle.s80_session.proofs.Joining.{after_one, done_all, done_refused, joining_half, joining_more, joining_next, joining_none, joining_on, joining_starts, rest_on, rest_stays}
use Rattle.s80_session.proofs.Knowing.{ends_so}
use Rattle.s80_session.proofs.session.Session.add_theirs.Goals as goal
use Rattle.s80_session.proofs.session.Session.add_theirs.Goals.{After-next, After-add_change}

pub loop-change-init : goal.loop-change-init
loop-change-init g c = record {
  joins = λ work put at. (
    joining_none (g.O.Disk.may_leave c.args.outside.now) (g.O.Outside.shown c.args.outside.now) c.args.self.now work put (into_iter_items c.into_iter-change-iterator.result) at,
    joining_starts g.O.Disk.moment g.O.Disk.left_since (g.O.Disk.may_leave c.args.outside.now) (g.O.Outside.shown c.args.outside.now) c.args.self.now c.args.outside.now work put (outcomes.Joins (into_iter_items c.into_iter-change-iterator.result)) (λ told image left. let x = g.met.O.Disk.only_now c.args.outside.now told image left in (x.0, x.1 ∙ told_beside g.met.O.Outside.beside_is g.met.O.Outside.shown_is c.args.outside.now)) at,
  );
  items_left = search rules;
  lawful = All-same IsLawful (into_iter_items c.into_iter-change-iterator.result) c.args.theirs (c.into_iter-change-iterator.ensures.into_iter_gives.0 ∙ c.into_vec-change-items.ensures) c.requires.lawful;
  counted = refl;
  within = omega arith;
  few =
      let size = ap length c.into_iter-change-iterator.ensures.into_iter_gives.0 in
      let ok = c.into_vec-change-items.result.ok in
      omega (arith, size, ok.0, ok.1, c.into_vec-change-items.result.small);
  unheld = c.requires.resting.silent;
  rest = rest_stays c.args.self.now;
  left = refl;
  tells = refl;
  later = record { read = omega arith; write = omega arith; disk = omega arith };
  faults_stay = refl;
  faultless = c.requires.resting.faultless;
  known = λ knows. knows;
}

pub add_change-requires-clause-lawful : goal.add_change-requires-clause-lawful
add_change-requires-clause-lawful g c =
    let steps : into_iter_items c.loop-change.change-iterator ≡ c.in-Some.change ∷ (into_iter_items c.next.new.self) = c.in-Some.ensures.steps.0 in
    All-head IsLawful c.in-Some.change (into_iter_items c.next.new.self) (subst (All IsLawful) steps c.loop-change.invariant.lawful)

-- a change more is to be added: what the paths share

module _ (g : _) (c : After-add_change g) where
  steps_then : into_iter_items c.loop-change.change-iterator ≡ c.in-Some.change ∷ (into_iter_items c.next.new.self)
  steps_then = c.in-Some.ensures.steps.0

  module _ (work : Work) (put : List ℕ) (at : IsAt (g.O.Disk.may_leave c.args.outside.now) (g.O.Outside.shown c.args.outside.now) c.args.self.now work put) where
    joins_then : IsJoining (g.O.Disk.may_leave c.loop-change.outside) (g.O.Outside.shown c.loop-change.outside) c.loop-change.self work put (into_iter_items c.into_iter-change-iterator.result) c.loop-change.yielded (c.in-Some.change ∷ (into_iter_items c.next.new.self))
    joins_then = joining_next (g.O.Disk.may_leave c.loop-change.outside) (g.O.Outside.shown c.loop-change.outside) c.loop-change.self work put (into_iter_items c.into_iter-change-iterator.result) c.loop-change.yielded (into_iter_items c.loop-change.change-iterator) (c.in-Some.change ∷ (into_iter_items c.next.new.self)) steps_then (c.loop-change.invariant.joins work put at).0

    all_lasts : LeavesOnly g.O.Disk.moment g.O.Disk.left_since c.args.outside.now c.add_change.new.outside (JoinKeeps work (outcomes.Joins (into_iter_items c.into_iter-change-iterator.result)) put)
    all_lasts = joining_on g.O.Disk.moment g.O.Disk.left_since c.args.outside.now c.loop-change.outside c.add_change.new.outside work put (outcomes.Joins (into_iter_items c.into_iter-change-iterator.result)) (c.loop-change.invariant.joins work put at).1 (c.add_change.ensures.any_moment work put (into_iter_items c.into_iter-change-iterator.result) c.loop-change.yielded (into_iter_items c.next.new.self) joins_then)

    lasts : LeavesOnly g.O.Disk.moment g.O.Disk.left_since c.args.outside.now c.add_change.new.outside (JoinKeeps work (outcomes.Joins c.args.theirs) put)
    lasts = let P : List Change → Type 0 = λ l. LeavesOnly g.O.Disk.moment g.O.Disk.left_since c.args.outside.now c.add_change.new.outside (JoinKeeps work (outcomes.Joins l) put) in subst P (c.into_iter-change-iterator.ensures.into_iter_gives.0 ∙ c.into_vec-change-items.ensures) all_lasts

-- it isn't

pub returns-in_err-refusal-clause-replied : goal.returns-in_err-refusal-clause-replied
returns-in_err-refusal-clause-replied g c = λ work put at.
    let x = goal.at.returns-in_err-refusal-clause-replied g c in
    let P : List Change → Type 0 = λ l. JoinBreaks c.in_err-refusal.field-0.0 (g.O.Disk.may_leave c.add_change.new.outside) (g.O.Outside.shown c.add_change.new.outside) c.add_change.new.self work put (outcomes.Joins l) in
    let p = err_from_is_err_and c.from_residual.result c.from_residual.ensures.1 in
    rw (p.1, p.2) (subst P (c.into_iter-change-iterator.ensures.into_iter_gives.0 ∙ c.into_vec-change-items.ensures) (c.in_err-refusal.ensures.added work put (into_iter_items c.into_iter-change-iterator.result) c.loop-change.yielded (into_iter_items c.next.new.self) (joins_then g x.After-add_change work put at)))

pub returns-in_err-refusal-clause-any_moment : goal.returns-in_err-refusal-clause-any_moment
returns-in_err-refusal-clause-any_moment g c = λ work put at. lasts g (goal.at.returns-in_err-refusal-clause-any_moment g c).After-add_change work put at

pub returns-in_err-refusal-clause-rest : goal.returns-in_err-refusal-clause-rest
returns-in_err-refusal-clause-rest g c = rest_on c.args.self.now c.loop-change.self c.add_change.new.self c.loop-change.invariant.rest c.add_change.ensures.rest

pub returns-in_err-refusal-clause-known : goal.returns-in_err-refusal-clause-known
returns-in_err-refusal-clause-known g c = λ knows.
    let p = err_from_is_err_and c.from_residual.result c.from_residual.ensures.1 in
    rw (p.1, p.2) (ends_so (Option Refusal) MergeReply c.in_err-refusal.field-0.0 (g.O.Outside.shown c.add_change.new.outside) c.add_change.new.self (c.in_err-refusal.ensures.known (c.loop-change.invariant.known knows)))

pub returns-in_err-refusal-clause-counts : goal.returns-in_err-refusal-clause-counts
returns-in_err-refusal-clause-counts g c =
    let p = err_from_is_err_and c.from_residual.result c.from_residual.ensures.1 in
    rw (p.1, p.2) (err_counts_on (Option Refusal) MergeReply (g.O.Outside.faults c.args.outside.now) (g.O.Outside.faults c.loop-change.outside) (g.O.Outside.faults c.add_change.new.outside) c.in_err-refusal.field-0.0 c.loop-change.invariant.faults_stay c.in_err-refusal.ensures.counts)

pub returns-in_err-refusal-clause-faultless : goal.returns-in_err-refusal-clause-faultless
returns-in_err-refusal-clause-faultless g c =
    let p = err_from_is_err_and c.from_residual.result c.from_residual.ensures.1 in
    rw (p.1, p.2) (memory_only MergeReply (Option Refusal) _ c.in_err-refusal.field-0.0 c.in_err-refusal.ensures.faultless)

-- it is refused, and memory is wanting to tell so

pub returns-in_err-joined_lines-clause-replied : goal.returns-in_err-joined_lines-clause-replied
returns-in_err-joined_lines-clause-replied g c = λ work put at.
    let x = goal.at.returns-in_err-joined_lines-clause-replied g c in
    let P : List Change → Type 0 = λ l. IsHalfDone (g.O.Disk.may_leave c.add_change.new.outside) (g.O.Outside.shown c.add_change.new.outside) c.add_change.new.self work put (outcomes.Joins l) in
    let one = c.in_ok-refusal.ensures.added work put (into_iter_items c.into_iter-change-iterator.result) c.loop-change.yielded (into_iter_items c.next.new.self) (joins_then g x.After-add_change work put at) in
    let y = after_one c.in_ok-refusal.field-0 (g.O.Disk.may_leave c.add_change.new.outside) (g.O.Outside.shown c.add_change.new.outside) c.add_change.new.self work put (into_iter_items c.into_iter-change-iterator.result) c.loop-change.yielded c.in-Some.change (into_iter_items c.next.new.self) one in
    let p = err_from_is_err_and c.from_residual-in_err-joined_lines.result c.from_residual-in_err-joined_lines.ensures.1 in
    rw (p.1, p.2) (subst P (c.into_iter-change-iterator.ensures.into_iter_gives.0 ∙ c.into_vec-change-items.ensures) (joining_half (g.O.Disk.may_leave c.add_change.new.outside) (g.O.Outside.shown c.add_change.new.outside) c.add_change.new.self work put (into_iter_items c.into_iter-change-iterator.result) y.0 y.1 y.2))

pub returns-in_err-joined_lines-clause-any_moment : goal.returns-in_err-joined_lines-clause-any_moment
returns-in_err-joined_lines-clause-any_moment g c = λ work put at. lasts g (goal.at.returns-in_err-joined_lines-clause-any_moment g c).After-add_change work put at

pub returns-in_err-joined_lines-clause-rest : goal.returns-in_err-joined_lines-clause-rest
returns-in_err-joined_lines-clause-rest g c = rest_on c.args.self.now c.loop-change.self c.add_change.new.self c.loop-change.invariant.rest c.add_change.ensures.rest

pub returns-in_err-joined_lines-clause-known : goal.returns-in_err-joined_lines-clause-known
returns-in_err-joined_lines-clause-known g c = λ knows.
    let p = err_from_is_err_and c.from_residual-in_err-joined_lines.result c.from_residual-in_err-joined_lines.ensures.1 in
    rw (p.1, p.2) tt

pub returns-in_err-joined_lines-clause-counts : goal.returns-in_err-joined_lines-clause-counts
returns-in_err-joined_lines-clause-counts g c =
    let p = err_from_is_err_and c.from_residual-in_err-joined_lines.result c.from_residual-in_err-joined_lines.ensures.1 in
    rw (p.1, p.2) (memory_counts MergeReply (g.O.Outside.faults c.args.outside.now) (g.O.Outside.faults c.add_change.new.outside) (c.in_ok-refusal.ensures.counts.reason ∙ c.loop-change.invariant.faults_stay))

pub returns-in_err-joined_lines-clause-faultless : goal.returns-in_err-joined_lines-clause-faultless
returns-in_err-joined_lines-clause-faultless g c =
    let p = err_from_is_err_and c.from_residual-in_err-joined_lines.result c.from_residual-in_err-joined_lines.ensures.1 in
    rw (p.1, p.2) c.in_ok-refusal.ensures.faultless

-- it is told

pub returns-in-Some-2-clause-replied : goal.returns-in-Some-2-clause-replied
returns-in-Some-2-clause-replied g c = λ work put at.
    let x = goal.at.returns-in-Some-2-clause-replied g c in
    let P : List Change → Type 0 = λ l. IsDone (g.O.Disk.may_leave c.add_change.new.outside) (g.O.Outside.shown c.add_change.new.outside) c.add_change.new.self work put (outcomes.Joins l) c.trouble.result in
    let Q : Option Refusal → Type 0 = λ o. AddsChange (Ok o) (g.O.Disk.may_leave c.add_change.new.outside) (g.O.Outside.shown c.add_change.new.outside) c.add_change.new.self work put (into_iter_items c.into_iter-change-iterator.result) c.loop-change.yielded c.in-Some.change (into_iter_items c.next.new.self) in
    let one = subst Q c.in-Some-2.is (c.in_ok-refusal.ensures.added work put (into_iter_items c.into_iter-change-iterator.result) c.loop-change.yielded (into_iter_items c.next.new.self) (joins_then g x.After-add_change work put at)) in
    let text = ap (λ (r : MergeReply). r.text) c.trouble.ensures ∙ c.in_ok-joined_lines.ensures in
    let trouble = ap (λ (r : MergeReply). r.is_trouble) c.trouble.ensures in
    subst P (c.into_iter-change-iterator.ensures.into_iter_gives.0 ∙ c.into_vec-change-items.ensures) (done_refused (g.O.Disk.may_leave c.add_change.new.outside) (g.O.Outside.shown c.add_change.new.outside) c.add_change.new.self work put (into_iter_items c.into_iter-change-iterator.result) c.loop-change.yielded c.in-Some.change (into_iter_items c.next.new.self) c.in-Some-2.refusal c.loop-change.count c.trouble.result one c.loop-change.invariant.counted text trouble)

pub returns-in-Some-2-clause-any_moment : goal.returns-in-Some-2-clause-any_moment
returns-in-Some-2-clause-any_moment g c = λ work put at. lasts g (goal.at.returns-in-Some-2-clause-any_moment g c).After-add_change work put at

pub returns-in-Some-2-clause-rest : goal.returns-in-Some-2-clause-rest
returns-in-Some-2-clause-rest g c = rest_on c.args.self.now c.loop-change.self c.add_change.new.self c.loop-change.invariant.rest c.add_change.ensures.rest

pub returns-in-Some-2-clause-known : goal.returns-in-Some-2-clause-known
returns-in-Some-2-clause-known g c = λ knows. c.in_ok-refusal.ensures.known (c.loop-change.invariant.known knows)

pub returns-in-Some-2-clause-counts : goal.returns-in-Some-2-clause-counts
returns-in-Some-2-clause-counts g c = done_counts (g.O.Outside.faults c.args.outside.now) (g.O.Outside.faults c.add_change.new.outside) c.trouble.result (c.in_ok-refusal.ensures.counts.reason ∙ c.loop-change.invariant.faults_stay)

pub returns-in-Some-2-clause-faultless : goal.returns-in-Some-2-clause-faultless
returns-in-Some-2-clause-faultless g c = c.in_ok-refusal.ensures.faultless

-- it is added

pub overflow_add-count : goal.overflow_add-count
overflow_add-count g c =
    let steps : into_iter_items c.loop-change.change-iterator ≡ c.in-Some.change ∷ (into_iter_items c.next.new.self) = c.in-Some.ensures.steps.0 in
    let short = ap length steps in
    omega (arith, short, c.loop-change.invariant.within, c.loop-change.invariant.few)

pub loop-change-smaller : goal.loop-change-smaller
loop-change-smaller g c = let gone = c.in-Some.ensures.steps.1 in omega arith

pub loop-change-preserved : goal.loop-change-preserved
loop-change-preserved g c =
    let after = (goal.at.loop-change-preserved g c).After-add_change in
    let so_far = c.loop-change.invariant in
    let steps : into_iter_items c.loop-change.change-iterator ≡ c.in-Some.change ∷ (into_iter_items c.next.new.self) = c.in-Some.ensures.steps.0 in
    let short = ap length steps in
    let gone = c.in-Some.ensures.steps.1 in
    let more = length-append c.loop-change.yielded (c.in-Some.change ∷ []) in
    record {
      joins = λ work put at. (
        joining_more c.in_ok-refusal.field-0 (g.O.Disk.may_leave c.add_change.new.outside) (g.O.Outside.shown c.add_change.new.outside) c.add_change.new.self work put (into_iter_items c.into_iter-change-iterator.result) c.loop-change.yielded c.in-Some.change (into_iter_items c.next.new.self) c.in_default.not-Some (c.in_ok-refusal.ensures.added work put (into_iter_items c.into_iter-change-iterator.result) c.loop-change.yielded (into_iter_items c.next.new.self) (joins_then g after work put at)),
        all_lasts g after work put at,
      );
      items_left = omega (arith, so_far.items_left, gone, short);
      lawful = All-rest IsLawful c.in-Some.change (into_iter_items c.next.new.self) (into_iter_items c.loop-change.change-iterator) steps so_far.lawful;
      counted = omega (arith, so_far.counted, more);
      within = omega (arith, so_far.within, short);
      few = so_far.few;
      unheld = c.add_change.ensures.held;
      rest = rest_on c.args.self.now c.loop-change.self c.add_change.new.self so_far.rest c.add_change.ensures.rest;
      left = c.add_change.ensures.left ∙ so_far.left;
      tells = c.add_change.ensures.tells ∙ so_far.tells;
      later = no_fewer_on _ _ _ so_far.later c.add_change.ensures.counts.later;
      faults_stay = c.in_ok-refusal.ensures.counts.reason ∙ so_far.faults_stay;
      faultless = c.in_ok-refusal.ensures.faultless;
      known = λ knows. c.in_ok-refusal.ensures.known (so_far.known knows);
    }

-- all are: what the paths share

module _ (g : _) (c : After-next g) (work : Work) (put : List ℕ) (at : IsAt (g.O.Disk.may_leave c.args.outside.now) (g.O.Outside.shown c.args.outside.now) c.args.self.now work put) where
  lasts_so_far : LeavesOnly g.O.Disk.moment g.O.Disk.left_since c.args.outside.now c.loop-change.outside (JoinKeeps work (outcomes.Joins c.args.theirs) put)
  lasts_so_far = let P : List Change → Type 0 = λ l. LeavesOnly g.O.Disk.moment g.O.Disk.left_since c.args.outside.now c.loop-change.outside (JoinKeeps work (outcomes.Joins l) put) in subst P (c.into_iter-change-iterator.ensures.into_iter_gives.0 ∙ c.into_vec-change-items.ensures) (c.loop-change.invariant.joins work put at).1

-- memory is wanting to tell so

pub returns-in_err-merged_line-clause-replied : goal.returns-in_err-merged_line-clause-replied
returns-in_err-merged_line-clause-replied g c = λ work put at.
    let P : List Change → Type 0 = λ l. IsHalfDone (g.O.Disk.may_leave c.loop-change.outside) (g.O.Outside.shown c.loop-change.outside) c.loop-change.self work put (outcomes.Joins l) in
    let p = err_from_is_err_and c.from_residual-in_err-merged_line.result c.from_residual-in_err-merged_line.ensures.1 in
    rw (p.1, p.2) (subst P (c.into_iter-change-iterator.ensures.into_iter_gives.0 ∙ c.into_vec-change-items.ensures) (joining_half (g.O.Disk.may_leave c.loop-change.outside) (g.O.Outside.shown c.loop-change.outside) c.loop-change.self work put (into_iter_items c.into_iter-change-iterator.result) c.loop-change.yielded (into_iter_items c.loop-change.change-iterator) (c.loop-change.invariant.joins work put at).0))

pub returns-in_err-merged_line-clause-any_moment : goal.returns-in_err-merged_line-clause-any_moment
returns-in_err-merged_line-clause-any_moment g c = λ work put at. lasts_so_far g (goal.at.returns-in_err-merged_line-clause-any_moment g c).After-next work put at

pub returns-in_err-merged_line-clause-known : goal.returns-in_err-merged_line-clause-known
returns-in_err-merged_line-clause-known g c = λ knows.
    let p = err_from_is_err_and c.from_residual-in_err-merged_line.result c.from_residual-in_err-merged_line.ensures.1 in
    rw (p.1, p.2) tt

pub returns-in_err-merged_line-clause-counts : goal.returns-in_err-merged_line-clause-counts
returns-in_err-merged_line-clause-counts g c =
    let p = err_from_is_err_and c.from_residual-in_err-merged_line.result c.from_residual-in_err-merged_line.ensures.1 in
    rw (p.1, p.2) (memory_counts MergeReply (g.O.Outside.faults c.args.outside.now) (g.O.Outside.faults c.loop-change.outside) c.loop-change.invariant.faults_stay)

pub returns-in_err-merged_line-clause-faultless : goal.returns-in_err-merged_line-clause-faultless
returns-in_err-merged_line-clause-faultless g c =
    let p = err_from_is_err_and c.from_residual-in_err-merged_line.result c.from_residual-in_err-merged_line.ensures.1 in
    rw (p.1, p.2) c.loop-change.invariant.faultless

-- it is told

pub returns-clause-replied : goal.returns-clause-replied
returns-clause-replied g c = λ work put at.
    let reply : MergeReply = record { text = c.in_ok-merged_line.field-0; is_trouble = false } in
    let P : List Change → Type 0 = λ l. IsDone (g.O.Disk.may_leave c.loop-change.outside) (g.O.Outside.shown c.loop-change.outside) c.loop-change.self work put (outcomes.Joins l) reply in
    let none = c.in-None.ensures.steps in
    let empty : into_iter_items c.loop-change.change-iterator ≡ [] = nil_from_length (into_iter_items c.loop-change.change-iterator) (sym c.loop-change.invariant.items_left ∙ none.0) in
    subst P (c.into_iter-change-iterator.ensures.into_iter_gives.0 ∙ c.into_vec-change-items.ensures) (done_all (g.O.Disk.may_leave c.loop-change.outside) (g.O.Outside.shown c.loop-change.outside) c.loop-change.self work put (into_iter_items c.into_iter-change-iterator.result) c.loop-change.yielded (into_iter_items c.loop-change.change-iterator) c.loop-change.count reply empty (c.loop-change.invariant.joins work put at).0 c.loop-change.invariant.counted c.in_ok-merged_line.ensures refl)

pub returns-clause-any_moment : goal.returns-clause-any_moment
returns-clause-any_moment g c = λ work put at. lasts_so_far g (goal.at.returns-clause-any_moment g c).After-next work put at

pub returns-clause-counts : goal.returns-clause-counts
returns-clause-counts g c = record { later = c.loop-change.invariant.later; reason = c.loop-change.invariant.faults_stay }
