use Rattle.std.proofs.Common.{◌≡◌, ◌∙◌, ◌++◌, map, sym, ap, subst, append-nil}
use Rattle.std.specs.Cmp.Lexicographic.{slice_cmp}
use Rattle.std.specs.List.Sorted.{IsStrictlySortedBy}
use Rattle.std.specs.Map.Iter.{deref}
use Rattle.std.specs.Ordering.{nat_cmp}
use Rattle.std.proofs.lemmas.Map.Iter.{rest_so_far}
use Rattle.s80_xref.proofs.WordSets.{one_listed, words_of, words_rise}
use Rattle.s80_xref.proofs.word_set.WordSet.listed.Goals as goal
use Rattle.s80_xref.proofs.word_set.WordSet.listed.Goals.{In-None}

pub loop-word-preserved : goal.loop-word-preserved
loop-word-preserved c =
    one_listed c.loop-word.yielded c.in-Some.word c.loop-word.names c.push.new.self c.in_ok-from_bytes.field-0 c.loop-word.invariant c.in_ok-push.ensures.ok (c.in_ok-from_bytes.ensures ∙ c.deref.ensures.value)

all_words : (c : In-None) → c.loop-word.names ≡ words_of c.self.inside.words.keys
all_words c =
    let all =
    sym (append-nil (map deref c.loop-word.yielded)) ∙ ap (λ rest. map deref c.loop-word.yielded ++ rest) (sym c.in-None.ensures.steps.0)
    ∙ sym (rest_so_far deref c.loop-word.yielded c.into_iter-word-iterator.result c.loop-word.word-iterator c.loop-word.yielded_by)
    ∙ c.into_iter-word-iterator.ensures.into_iter_gives.0 in
    c.loop-word.invariant ∙ ap words_of all

pub returns-clause-same : goal.returns-clause-same
returns-clause-same c = all_words c ∙ c.self.view_is

pub returns-clause-ascending : goal.returns-clause-ascending
returns-clause-ascending c = subst (IsStrictlySortedBy (slice_cmp nat_cmp)) (sym (all_words c)) (words_rise c.self.inside.words.keys c.into_iter-word-iterator.ensures.into_iter_gives.4)
