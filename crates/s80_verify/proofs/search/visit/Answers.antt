use Rattle.std.proofs.Common.{inl, inr, ◌≤◌, length}
use Rattle.s80_verify.specs.declared.point.Point.{Point}
use Rattle.s80_verify.specs.Reach.{Reached}
use Rattle.s80_verify.proofs.lemmas.LawLemmas.{step_there}
use Rattle.s80_verify.proofs.FoundLemmas.{if_some, visited}
use Rattle.s80_verify.proofs.search.visit.Goals as goal

pub reach_if-requires-clause-within : goal.reach_if-requires-clause-within
reach_if-requires-clause-within c = if_some c.in_ok-steps.steps.behind (λ (p : Point). p.at ≤ length c.args.code.now.bytes) (λ p e. (c.in_ok-steps.ensures.steps.each p (inl e)).1)

pub reach_if-requires-clause-reached : goal.reach_if-requires-clause-reached
reach_if-requires-clause-reached c =
    if_some c.in_ok-steps.steps.behind (λ (p : Point). Reached c.args.code.now p.at p.stack p.depth)
    (λ p e. step_there c.args.code.now c.args.point.at p.at c.args.point.stack p.stack c.args.point.depth p.depth c.requires.known.reached (c.in_ok-steps.ensures.steps.each p (inl e)).0)

pub reach_if-requires-2-clause-within : goal.reach_if-requires-2-clause-within
reach_if-requires-2-clause-within c = if_some c.in_ok-steps.steps.jump (λ (p : Point). p.at ≤ length c.args.code.now.bytes) (λ p e. (c.in_ok-steps.ensures.steps.each p (inr (inl e))).1)

pub reach_if-requires-2-clause-reached : goal.reach_if-requires-2-clause-reached
reach_if-requires-2-clause-reached c =
    if_some c.in_ok-steps.steps.jump (λ (p : Point). Reached c.args.code.now p.at p.stack p.depth)
    (λ p e. step_there c.args.code.now c.args.point.at p.at c.args.point.stack p.stack c.args.point.depth p.depth c.requires.known.reached (c.in_ok-steps.ensures.steps.each p (inr (inl e))).0)

pub reach_if-requires-3-clause-within : goal.reach_if-requires-3-clause-within
reach_if-requires-3-clause-within c = if_some c.in_ok-steps.steps.block (λ (p : Point). p.at ≤ length c.args.code.now.bytes) (λ p e. (c.in_ok-steps.ensures.steps.each p (inr (inr e))).1)

pub reach_if-requires-3-clause-reached : goal.reach_if-requires-3-clause-reached
reach_if-requires-3-clause-reached c =
    if_some c.in_ok-steps.steps.block (λ (p : Point). Reached c.args.code.now p.at p.stack p.depth)
    (λ p e. step_there c.args.code.now c.args.point.at p.at c.args.point.stack p.stack c.args.point.depth p.depth c.requires.known.reached (c.in_ok-steps.ensures.steps.each p (inr (inr e))).0)

pub returns-clause-done : goal.returns-clause-done
returns-clause-done c =
    visited c.args.code.now c.args.found.now c.reach_if.new.self c.reach_if-2.new.self c.reach_if-3.new.self c.args.point c.in_ok-steps.steps c.in_ok-steps.ensures.fits c.in_ok-steps.ensures.steps
    c.in_ok-reach_if.ensures.marked c.in_ok-reach_if-2.ensures.grows c.in_ok-reach_if-2.ensures.marked c.in_ok-reach_if-3.ensures.grows c.in_ok-reach_if-3.ensures.marked
