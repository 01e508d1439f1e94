-- The change set and the versions of a list stand at their places in its log.
use Rattle.std.proofs.Common.{◌≡◌, ◌∙◌, ℕ, ◌+◌, Bool, true, false, List, [], ◌∷◌, ◌++◌, length, drop, map as list_map, reverse, refl, sym, ap, arith, append_assoc, length-append, if◌then◌else◌}
use Rattle.std.specs.List.{All, filter, list_any}
use Rattle.std.proofs.lemmas.List.{reverse-append}
use Rattle.std.proofs.lemmas.List.Elements.{All-cons, All-filter, All-head, All-nil, All-push, All-same, All-tail}
use Rattle.std.proofs.Math.Seq.{drop-append_seam}
use Rattle.s80_change.specs.declared.change.Change.{Change}
use Rattle.s80_change.specs.Block.{block, blocks, IsLawful}
use Rattle.s80_change.specs.Blocks.{BeginsWith}
use Rattle.s80_history.specs.Lists.{MethodName, Placed, behind_last, is_left_out, is_no_changes, not_left_out, placed_from, puts, set_of, versions_of}

-- the block of the change begins at its place
abbrev pub Begins : List ℕ → Placed → Type 0
Begins log p = BeginsWith (drop p.0 log) p.1

-- so do those of all changes of a list behind other bytes
begin_from : (log before : List ℕ) (at : ℕ) (changes : List Change) → All IsLawful changes → at ≡ length before → log ≡ before ++ blocks changes → All (Begins log) (placed_from at changes)
begin_from log before at [] lawful here is = All-nil (Begins log)
begin_from log before at (c ∷ cs) lawful here is =
    let first : Begins log (at, c) = record {
      lawful = All-head IsLawful c cs lawful;
      after = blocks cs;
      begins = ap (λ n. drop n log) here ∙ ap (drop (length before)) is ∙ drop-append_seam before (block c ++ blocks cs);
    } in
    let others =
    begin_from log (before ++ block c) (at + length (block c)) cs (All-tail IsLawful c cs lawful) (omega (arith, here, length-append before (block c))) (is ∙ sym (append_assoc before (block c) (blocks cs))) in
    All-cons (Begins log) (at, c) (placed_from (at + length (block c)) cs) first others

-- ---- what is left of a list

module _ (P : Placed → Type 0) where
  either : (first : Bool) (ps qs : List Placed) → All P ps → All P qs → All P (if first then ps else qs)
  either true ps qs these those = these
  either false ps qs these those = those

  pub not_left : (ps : List Placed) → All P ps → All P (not_left_out ps)
  not_left [] all = all
  not_left (p ∷ later) all =
      let others = not_left later (All-tail P p later all) in
      either (is_left_out p.1 (list_map (λ q. q.1) later)) (not_left_out later) (p ∷ not_left_out later) others (All-cons P p (not_left_out later) (All-head P p later all) others)

  pub behind : (passes : Change → Bool) (ps : List Placed) → All P ps → All P (behind_last passes ps)
  behind passes [] all = all
  behind passes (p ∷ ps) all =
      let others = All-tail P p ps all in
      either (list_any (λ q. passes q.1) ps) (behind_last passes ps) (if passes p.1 then ps else p ∷ ps) (behind passes ps others) (either (passes p.1) ps (p ∷ ps) others all)

  pub turned : (ps : List Placed) → All P ps → All P (reverse ps)
  turned [] all = all
  turned (p ∷ ps) all = All-same P (reverse (p ∷ ps)) (reverse ps ++ p ∷ []) (reverse-append (p ∷ []) ps) (All-push P (reverse ps) p (turned ps (All-tail P p ps all)) (All-head P p ps all))

-- ---- a list of lawful changes

module _ (changes : List Change) (lawful : All IsLawful changes) where
  all_begin : All (Begins (blocks changes)) (placed_from 0 changes)
  all_begin = begin_from (blocks changes) [] 0 changes lawful refl refl

  pub set_begins : All (Begins (blocks changes)) (set_of changes)
  set_begins = not_left (Begins (blocks changes)) (behind_last is_no_changes (placed_from 0 changes)) (behind (Begins (blocks changes)) is_no_changes (placed_from 0 changes) all_begin)

  pub versions_begin : (name : MethodName) → All (Begins (blocks changes)) (versions_of changes name)
  versions_begin name = turned (Begins (blocks changes)) (filter (λ p. puts name p.1) (placed_from 0 changes)) (All-filter (λ p. puts name p.1) (Begins (blocks changes)) (placed_from 0 changes) all_begin)
