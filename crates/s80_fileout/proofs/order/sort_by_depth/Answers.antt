use Rattle.std.proofs.lemmas.List.Sorted.{answers_always}
use Rattle.std.proofs.Common.{rules}
use Rattle.s80_fileout.specs.declared.order.RankedClass.{RankedClass}
use Rattle.s80_fileout.proofs.Owned.{own_sorted}
use Rattle.s80_fileout.proofs.order.sort_by_depth.Goals as goal

pub returns : goal.returns
returns c =
    λ classes named.
    own_sorted classes c.args.own.now.items named c.sort_by_key.new.self.items
    (c.in_ok-sort_by_key.ensures.sorted (λ (class : RankedClass). class.depth) (answers_always _ _ _ (λ f a r g h. search rules)))
    (c.sort_by_key.ensures.stable (λ (class : RankedClass). class.depth) (answers_always _ _ _ (λ f a r g h. search rules)))
    c.sort_by_key.ensures.permutation
