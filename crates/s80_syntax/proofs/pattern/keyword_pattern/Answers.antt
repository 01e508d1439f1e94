use Rattle.std.proofs.Common.{◌∙◌, ◌++◌, ap}
use Rattle.s80_syntax.proofs.Parameters.{name_found, name_missing}
use Rattle.s80_syntax.proofs.Patterns.{keyword_missing, keyword_read, keyword_taken, keywords_done}
use Rattle.s80_syntax.proofs.pattern.keyword_pattern.Goals as goal

pub returns-in_default-2 : goal.returns-in_default-2
returns-in_default-2 c = keyword_missing _ _ _ _ _ c.in-Some.token _ c.loop-token.invariant.same c.in-Some.ensures.0 c.in-Some.ensures.1 (name_missing _ _ _ c.in_ok-name.ensures c.in_default-2.is) c.place_of.ensures

pub loop-token-preserved : goal.loop-token-preserved
loop-token-preserved c =
    let x = name_found _ _ _ _ c.in_ok-name.ensures c.in-Some-2.is in
    record {
      read = keyword_read _ _ _ _ _ _ _ _ _ _ c.in-Some.token c.loop-token.invariant.read c.in-Some.ensures.0 c.in-Some.ensures.1 x (c.in_ok-append.ensures.ok ∙ ap (λ y. c.loop-token.selector ++ y) c.bytes.ensures) c.in_ok-push.ensures.ok;
      same = c.loop-token.invariant.same ∙ keyword_taken _ _ _ _ _ _ _ c.in-Some.token c.in-Some.ensures.0 c.in-Some.ensures.1 x c.in_ok-push.ensures.ok;
      slices = x.slices;
    }

pub returns : goal.returns
returns c = keywords_done _ _ _ _ _ c.loop-token.invariant.read c.requires.keyword c.in_default.ensures c.loop-token.invariant.slices
