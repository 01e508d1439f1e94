use Rattle.std.proofs.Common.{subst, MatchBool, sym, ap, refl, ◌∙◌, ◌++◌, ◌∷◌, [], arith, true}
use Rattle.std.proofs.lemmas.Result.{err_from_is_err_and}
use Rattle.s80_tree.specs.Tree.{body_of, expr_of, paren}
use Rattle.s80_syntax.specs.Grammar.{IsBody}
use Rattle.s80_syntax.specs.Stack.{body as body_symbol}
use Rattle.s80_syntax.specs.Reads.{Parses}
use Rattle.s80_syntax.specs.Expr.{MessageNext, NoMessage}
use Rattle.s80_syntax.proofs.NextToken.{tail_slices, tail_smaller}
use Rattle.s80_syntax.proofs.Operands.{literal_end}
use Rattle.s80_syntax.proofs.Primaries.{name_primary, literal_primary, paren_nested, block_nested, paren_passes, block_passes, paren_fails, paren_unclosed, paren_done}
use Rattle.s80_syntax.proofs.Blocks.{block_plain, block_barred, block_none, block_parameters_fail, block_body_fails, block_unclosed, block_done, no_parameters, some_parameters}
use Rattle.s80_syntax.proofs.FoundNames.{in_block}
use Rattle.s80_syntax.proofs.Statements.{caret_shorter, statement_added, body_none, body_grows, body_same, body_fails, body_ends, body_returns, body_done}
use Rattle.s80_syntax.proofs.Chains.{binaries_start, binary_read, binary_taken, binary_fails, binaries_done}
use Rattle.s80_syntax.proofs.Arguments.{receiver_fails, binary_rest, argument_receiver_fails, argument_messages_fail, argument_done, no_parts, part_read, part_taken, part_fails, parts_done}
use Rattle.s80_syntax.proofs.Cascades.{chain_fails, chain_keyword_fails, chain_short, chain_done, message_end, message_unary, message_binary, message_keyword, message_refused, cascade_none, cascade_read, cascade_taken, cascade_fails, cascades_done}
use Rattle.s80_syntax.proofs.Expressions.{expr_receiver_fails, expr_short, expr_chain_fails, expr_cascade_fails, expr_done}
use Rattle.s80_syntax.proofs.expr.+parser.Goals as goal

pub primary-returns-in_default : goal.primary-returns-in_default
primary-returns-in_default t c = literal_end _ _ _ _ _ c.in_default.ensures c.place_of.ensures

pub primary-returns-in_err-open-in-OpenParen : goal.primary-returns-in_err-open-in-OpenParen
primary-returns-in_err-open-in-OpenParen t c =
    let p = err_from_is_err_and c.from_residual-in_err-open-in-OpenParen.result c.from_residual-in_err-open-in-OpenParen.ensures.1 in
    rw (p.1, p.2) (paren_nested _ _ _ _ _ c.in-Some.token _ c.in-Some.ensures c.in-OpenParen.is c.in_err-open-in-OpenParen.ensures)

pub primary-returns-in_err-open-in-OpenBracket : goal.primary-returns-in_err-open-in-OpenBracket
primary-returns-in_err-open-in-OpenBracket t c =
    let p = err_from_is_err_and c.from_residual-in_err-open-in-OpenBracket.result c.from_residual-in_err-open-in-OpenBracket.ensures.1 in
    rw (p.1, p.2) (block_nested _ _ _ _ _ c.in-Some.token _ c.in-Some.ensures c.in-OpenBracket.is c.in_err-open-in-OpenBracket.ensures)

pub primary-returns-in_err-literal-in_default-kind : goal.primary-returns-in_err-literal-in_default-kind
primary-returns-in_err-literal-in_default-kind t c =
    let p = err_from_is_err_and c.from_residual-in_err-literal-in_default-kind.result c.from_residual-in_err-literal-in_default-kind.ensures.1 in
    rw (p.1, p.2) (c.in_err-literal-in_default-kind.ensures _)

pub primary-returns-in_ok-name_at-in-Name : goal.primary-returns-in_ok-name_at-in-Name
primary-returns-in_ok-name_at-in-Name t c = name_primary _ _ _ _ _ _ _ c.in-Some.token c.requires.slices c.in-Some.ensures c.in-Name.is c.name.ensures c.in_ok-name_at-in-Name.ensures

pub primary-returns-in_ok-open-in-OpenParen : goal.primary-returns-in_ok-open-in-OpenParen
primary-returns-in_ok-open-in-OpenParen t c = paren_passes _ _ _ _ _ c.in-Some.token _ c.in-Some.ensures c.in-OpenParen.is c.in_ok-open-in-OpenParen.ensures c.paren.ensures

pub primary-returns-in_ok-open-in-OpenBracket : goal.primary-returns-in_ok-open-in-OpenBracket
primary-returns-in_ok-open-in-OpenBracket t c = block_passes _ _ _ _ _ c.in-Some.token _ c.in-Some.ensures c.in-OpenBracket.is c.in_ok-open-in-OpenBracket.ensures c.block.ensures

pub primary-returns-in_ok-literal-in_default-kind : goal.primary-returns-in_ok-literal-in_default-kind
primary-returns-in_ok-literal-in_default-kind t c = literal_primary _ _ _ _ _ _ _ (c.in_ok-literal-in_default-kind.ensures _) c.literal-in_default-kind.ensures

pub paren-returns-in_err-inner : goal.paren-returns-in_err-inner
paren-returns-in_err-inner t c =
    let p = err_from_is_err_and c.from_residual.result c.from_residual.ensures.1 in
    rw (p.1, p.2) (paren_fails _ _ _ _ _ _ refl c.in_err-inner.ensures)

pub paren-returns-in_default : goal.paren-returns-in_default
paren-returns-in_default t c = paren_unclosed _ _ _ _ _ _ _ _ refl c.in_ok-inner.ensures c.in_default.ensures c.place_of.ensures

pub paren-returns : goal.paren-returns
paren-returns t c = paren_done _ _ _ _ _ _ _ _ _ c.in-Some.field-0-0 refl c.in_ok-inner.ensures c.in-Some.ensures.0 c.in-Some.ensures.1 (c.paren.ensures ∙ ap (λ e. paren (expr_of e)) c.in_ok-new.ensures.ok)

pub block-returns-in_err-parameters : goal.block-returns-in_err-parameters
block-returns-in_err-parameters t c =
    let p = err_from_is_err_and c.from_residual.result c.from_residual.ensures.1 in
    rw (p.1, p.2) (block_parameters_fail _ _ _ _ _ c.in_err-parameters.ensures)

pub block-returns-in_err-body : goal.block-returns-in_err-body
block-returns-in_err-body t c =
    let p = err_from_is_err_and c.from_residual-in_err-body.result c.from_residual-in_err-body.ensures.1 in
    rw (p.1, p.2) (block_body_fails _ _ _ _ _ _ _ _ _ refl c.deref.ensures.value (c.in_ok-parameters.ensures 0 (λ w. true)) c.in_err-body.ensures)

pub block-returns-in_default : goal.block-returns-in_default
block-returns-in_default t c = block_unclosed _ _ _ _ _ _ _ _ _ _ _ refl c.deref.ensures.value (c.in_ok-parameters.ensures 0 (λ w. true)) c.in_ok-body.ensures c.in_default.ensures c.place_of.ensures

pub block-returns : goal.block-returns
block-returns t c = block_done _ _ _ _ _ _ _ _ _ _ _ _ _ c.in-Some.field-0-0 refl c.deref.ensures.value (c.in_ok-parameters.ensures 0 (λ w. true)) c.in_ok-body.ensures c.in-Some.ensures.0 c.in-Some.ensures.1 c.block.ensures c.new.ensures

pub block_body-returns-then-is_empty : goal.block_body-returns-then-is_empty
block_body-returns-then-is_empty t c = block_plain _ _ _ _ _ _ _ (no_parameters _ c.if-is_empty.ensures) c.requires.no_colon refl c.inner_body.ensures

pub block_body-returns-in-Some : goal.block_body-returns-in-Some
block_body-returns-in-Some t c = block_barred _ _ _ _ _ _ _ c.in-Some.ensures.0 _ (some_parameters _ c.if-is_empty.ensures) c.in-Some.ensures.1 c.in-Some.ensures.2 c.in-Some.ensures.3 refl c.inner_body-in-Some.ensures

pub block_body-returns-in-None : goal.block_body-returns-in-None
block_body-returns-in-None t c = block_none _ _ _ _ _ _ (some_parameters _ c.if-is_empty.ensures) c.requires.no_colon c.in-None.ensures c.requires.slices c.empty.ensures

pub inner_body-returns : goal.inner_body-returns
inner_body-returns t c = subst (λ names. Parses c.args.text.now c.args.depth names (body_symbol ∷ []) (λ found. IsBody (body_of found)) c.args.tokens.now c.body.result) (in_block _ _ _ _ c.within-inner.ensures c.in_ok-names.ensures) c.body.ensures

pub body-loop-alloc-init : goal.body-loop-alloc-init
body-loop-alloc-init t c = record { read = body_none _ _ _ c.empty-statements.ensures; same = λ k g. refl; slices = c.requires.slices; shorter = omega arith }

pub body-returns-in_err-expr : goal.body-returns-in_err-expr
body-returns-in_err-expr t c =
    let p = err_from_is_err_and c.from_residual.result c.from_residual.ensures.1 in
    rw (p.1, p.2) (body_fails _ _ _ _ _ _ _ _ c.loop-alloc.invariant.same (sym c.starts_statement.ensures ∙ c.loop-alloc-test.true) c.caret-returns.ensures c.in_err-expr.ensures)

pub body-returns-in_default : goal.body-returns-in_default
body-returns-in_default t c = body_ends _ _ _ _ _ _ _ _ _ _ _ c.loop-alloc.invariant.read c.loop-alloc.invariant.same c.loop-alloc.invariant.shorter (sym c.starts_statement.ensures ∙ c.loop-alloc-test.true) c.caret-returns.ensures c.in_ok-expr.ensures c.in_default.ensures (statement_added _ _ _ _ _ c.in_ok-push.ensures.ok c.new.ensures)

pub body-returns-then-returns : goal.body-returns-then-returns
body-returns-then-returns t c = body_returns _ _ _ _ _ _ _ _ _ _ _ _ c.in-Some.field-0-0 c.loop-alloc.invariant.read c.loop-alloc.invariant.same c.loop-alloc.invariant.shorter (sym c.starts_statement.ensures ∙ c.loop-alloc-test.true) c.caret-returns.ensures c.in_ok-expr.ensures c.in-Some.ensures.0 c.in-Some.ensures.1 c.if-returns.true (statement_added _ _ _ _ _ c.in_ok-push.ensures.ok c.new.ensures)

pub body-loop-alloc-smaller : goal.body-loop-alloc-smaller
body-loop-alloc-smaller t c =
    let m = caret_shorter _ _ _ c.caret-returns.ensures in let s = c.in_ok-expr.ensures.shorter in let q = tail_smaller _ _ c.in-Some.field-0-0 c.in-Some.ensures.0 in omega arith

pub body-loop-alloc-preserved : goal.body-loop-alloc-preserved
body-loop-alloc-preserved t c = record {
  read = body_grows _ _ _ _ _ _ _ _ _ _ _ _ c.in-Some.field-0-0 c.loop-alloc.invariant.read c.caret-returns.ensures c.in_ok-expr.ensures c.in-Some.ensures.0 c.in-Some.ensures.1 c.if-returns.false (statement_added _ _ _ _ _ c.in_ok-push.ensures.ok c.new.ensures);
  same = body_same _ _ _ _ _ _ _ _ _ _ c.in-Some.field-0-0 c.loop-alloc.invariant.same (sym c.starts_statement.ensures ∙ c.loop-alloc-test.true) c.caret-returns.ensures c.in_ok-expr.ensures c.in-Some.ensures.0 c.in-Some.ensures.1 c.if-returns.false;
  slices = tail_slices _ _ _ c.in-Some.field-0-0 c.in-Some.ensures.0 c.in_ok-expr.ensures.slices;
  shorter = (let m = caret_shorter _ _ _ c.caret-returns.ensures in let s = c.in_ok-expr.ensures.shorter in let r = c.loop-alloc.invariant.shorter in let q = tail_smaller _ _ c.in-Some.field-0-0 c.in-Some.ensures.0 in omega arith);
}

pub body-returns : goal.body-returns
body-returns t c = body_done _ _ _ _ _ _ c.loop-alloc.invariant.read c.loop-alloc.invariant.same (sym c.starts_statement.ensures ∙ c.loop-alloc-test.false) c.loop-alloc.invariant.slices c.loop-alloc.invariant.shorter

pub expr-returns-in_err-names : goal.expr-returns-in_err-names
expr-returns-in_err-names t c =
    let p = err_from_is_err_and c.from_residual.result c.from_residual.ensures.1 in
    rw (p.1, p.2) (c.in_err-names.ensures _)

pub expr-returns-in_err-receiver : goal.expr-returns-in_err-receiver
expr-returns-in_err-receiver t c =
    let p = err_from_is_err_and c.from_residual-in_err-receiver.result c.from_residual-in_err-receiver.ensures.1 in
    rw (p.1, p.2) (expr_receiver_fails _ _ _ _ _ _ _ (c.in_ok-names.ensures 0) c.in_err-receiver.ensures)

pub expr-returns-then-not-starts_message : goal.expr-returns-then-not-starts_message
expr-returns-then-not-starts_message t c = expr_short _ _ _ _ _ _ _ _ _ _ _ (c.in_ok-names.ensures 0) c.in_ok-receiver.ensures (subst (λ b. MatchBool b (MessageNext c.in_ok-receiver.rest.now) (NoMessage c.in_ok-receiver.rest.now)) c.if-not-starts_message.true c.starts_message.ensures) c.new.ensures c.empty-none.ensures c.empty.ensures

pub expr-returns-in_err-messages : goal.expr-returns-in_err-messages
expr-returns-in_err-messages t c =
    let p = err_from_is_err_and c.from_residual-in_err-messages.result c.from_residual-in_err-messages.ensures.1 in
    rw (p.1, p.2) (expr_chain_fails _ _ _ _ _ _ _ _ _ (c.in_ok-names.ensures 0) c.in_ok-receiver.ensures (subst (λ b. MatchBool b (MessageNext c.in_ok-receiver.rest.now) (NoMessage c.in_ok-receiver.rest.now)) c.if-not-starts_message.false c.starts_message.ensures) c.in_err-messages.ensures)

pub expr-returns-in_err-others : goal.expr-returns-in_err-others
expr-returns-in_err-others t c =
    let p = err_from_is_err_and c.from_residual-in_err-others.result c.from_residual-in_err-others.ensures.1 in
    rw (p.1, p.2) (expr_cascade_fails _ _ _ _ _ _ _ _ _ _ _ (c.in_ok-names.ensures 0) c.in_ok-receiver.ensures (subst (λ b. MatchBool b (MessageNext c.in_ok-receiver.rest.now) (NoMessage c.in_ok-receiver.rest.now)) c.if-not-starts_message.false c.starts_message.ensures) c.in_ok-messages.ensures c.in_err-others.ensures)

pub expr-returns : goal.expr-returns
expr-returns t c = expr_done _ _ _ _ _ _ _ _ _ _ _ _ _ (c.in_ok-names.ensures 0) c.in_ok-receiver.ensures (subst (λ b. MatchBool b (MessageNext c.in_ok-receiver.rest.now) (NoMessage c.in_ok-receiver.rest.now)) c.if-not-starts_message.false c.starts_message.ensures) c.in_ok-messages.ensures c.in_ok-others.ensures c.new-2.ensures

pub chain-returns-in_err-messages : goal.chain-returns-in_err-messages
chain-returns-in_err-messages t c =
    let p = err_from_is_err_and c.from_residual.result c.from_residual.ensures.1 in
    rw (p.1, p.2) (chain_fails _ _ _ _ _ c.in_err-messages.ensures)

pub chain-returns-in_default : goal.chain-returns-in_default
chain-returns-in_default t c = chain_short _ _ _ _ _ _ c.in_ok-messages.ensures c.in_default.ensures

pub chain-returns-in_err-message : goal.chain-returns-in_err-message
chain-returns-in_err-message t c =
    let p = err_from_is_err_and c.from_residual-in_err-message.result c.from_residual-in_err-message.ensures.1 in
    rw (p.1, p.2) (chain_keyword_fails _ _ _ _ _ _ _ c.in_ok-messages.ensures c.in_err-message.ensures)

pub chain-returns : goal.chain-returns
chain-returns t c = chain_done _ _ _ _ _ _ _ _ _ c.in_ok-messages.ensures c.in_ok-message.ensures c.in_ok-push.ensures.ok

pub cascades-loop-tail-init : goal.cascades-loop-tail-init
cascades-loop-tail-init t c = record { read = cascade_none _ _ _ c.empty-messages.ensures; same = λ k g. refl; slices = c.requires.slices; shorter = omega arith }

pub cascades-returns-in_err-message : goal.cascades-returns-in_err-message
cascades-returns-in_err-message t c =
    let p = err_from_is_err_and c.from_residual.result c.from_residual.ensures.1 in
    rw (p.1, p.2) (cascade_fails _ _ _ _ _ _ _ c.in-Some.field-0-0 c.loop-tail.invariant.same c.in-Some.ensures.0 c.in-Some.ensures.1 c.in_err-message.ensures)

pub cascades-loop-tail-smaller : goal.cascades-loop-tail-smaller
cascades-loop-tail-smaller t c =
    let s = c.in_ok-message.ensures.shorter in let q = tail_smaller _ _ c.in-Some.field-0-0 c.in-Some.ensures.0 in omega arith

pub cascades-loop-tail-preserved : goal.cascades-loop-tail-preserved
cascades-loop-tail-preserved t c = record {
  read = cascade_read _ _ _ _ _ _ _ _ _ _ c.in-Some.field-0-0 c.loop-tail.invariant.read c.in-Some.ensures.0 c.in-Some.ensures.1 c.in_ok-message.ensures c.in_ok-push.ensures.ok;
  same = λ k g. c.loop-tail.invariant.same k g ∙ cascade_taken _ _ _ _ _ _ _ c.in-Some.field-0-0 c.in-Some.ensures.0 c.in-Some.ensures.1 c.in_ok-message.ensures k g;
  slices = c.in_ok-message.ensures.slices;
  shorter = (let s = c.in_ok-message.ensures.shorter in let r = c.loop-tail.invariant.shorter in let q = tail_smaller _ _ c.in-Some.field-0-0 c.in-Some.ensures.0 in omega arith);
}

pub cascades-returns : goal.cascades-returns
cascades-returns t c = cascades_done _ _ _ _ _ _ c.loop-tail.invariant.read c.loop-tail.invariant.same c.in_default.ensures c.loop-tail.invariant.slices c.loop-tail.invariant.shorter

pub message-returns-in_default : goal.message-returns-in_default
message-returns-in_default t c = message_end _ _ _ _ _ c.in_default.ensures c.place_of.ensures

pub message-returns-in_ok-selector-in-Name : goal.message-returns-in_ok-selector-in-Name
message-returns-in_ok-selector-in-Name t c = message_unary _ _ _ _ _ _ _ _ c.in-Some.token c.requires.slices c.in-Some.ensures c.in-Name.is c.new.ensures c.in_ok-selector-in-Name.ensures c.empty.ensures

pub message-returns-in-Binary : goal.message-returns-in-Binary
message-returns-in-Binary t c = message_binary _ _ _ _ _ c.in-Some.token _ c.in-Some.ensures c.in-Binary.is c.binary_message.ensures

pub message-returns-in-Keyword : goal.message-returns-in-Keyword
message-returns-in-Keyword t c = message_keyword _ _ _ _ _ c.in-Some.token _ c.in-Some.ensures c.in-Keyword.is c.keyword_message.ensures

pub message-returns-in_default-kind : goal.message-returns-in_default-kind
message-returns-in_default-kind t c = message_refused _ _ _ _ _ c.in-Some.token _ c.in-Some.ensures c.in_default-kind.not-Name c.in_default-kind.not-Binary c.in_default-kind.not-Keyword c.place_of-in_default-kind.ensures

pub binary_messages-loop-token-init : goal.binary_messages-loop-token-init
binary_messages-loop-token-init t c =
    let u = c.in_ok-messages.ensures in
    record { read = binaries_start _ _ _ _ u; same = λ k g. u.same _; slices = u.slices; shorter = u.shorter }

pub binary_messages-returns-in_err-message : goal.binary_messages-returns-in_err-message
binary_messages-returns-in_err-message t c =
    let p = err_from_is_err_and c.from_residual-in_err-message.result c.from_residual-in_err-message.ensures.1 in
    rw (p.1, p.2) (binary_fails _ _ _ _ _ _ _ c.in-Some.token c.loop-token.invariant.same c.in-Some.ensures.0 c.in-Some.ensures.1 c.in_err-message.ensures)

pub binary_messages-loop-token-smaller : goal.binary_messages-loop-token-smaller
binary_messages-loop-token-smaller t c =
    let s = c.in_ok-message.ensures.shorter in let q = tail_smaller _ _ c.in-Some.token c.in-Some.ensures.0 in omega arith

pub binary_messages-loop-token-preserved : goal.binary_messages-loop-token-preserved
binary_messages-loop-token-preserved t c = record {
  read = binary_read _ _ _ _ _ _ _ _ _ _ c.in-Some.token c.loop-token.invariant.read c.in-Some.ensures.0 c.in-Some.ensures.1 c.in_ok-message.ensures c.in_ok-push.ensures.ok;
  same = λ k g. c.loop-token.invariant.same k g ∙ binary_taken _ _ _ _ _ _ _ c.in-Some.token c.in-Some.ensures.0 c.in-Some.ensures.1 c.in_ok-message.ensures k g;
  slices = c.in_ok-message.ensures.slices;
  shorter = (let s = c.in_ok-message.ensures.shorter in let r = c.loop-token.invariant.shorter in let q = tail_smaller _ _ c.in-Some.token c.in-Some.ensures.0 in omega arith);
}

pub binary_messages-returns : goal.binary_messages-returns
binary_messages-returns t c = binaries_done _ _ _ _ _ _ c.loop-token.invariant.read c.loop-token.invariant.same c.in_default.ensures c.loop-token.invariant.slices c.loop-token.invariant.shorter

pub binary_message-returns-in_err-receiver : goal.binary_message-returns-in_err-receiver
binary_message-returns-in_err-receiver t c =
    let p = err_from_is_err_and c.from_residual.result c.from_residual.ensures.1 in
    rw (p.1, p.2) (receiver_fails _ _ _ _ _ c.in_err-receiver.ensures)

pub binary_message-returns : goal.binary_message-returns
binary_message-returns t c = binary_rest _ _ _ _ _ _ _ _ _ _ _ _ _ c.in_ok-receiver.ensures c.in_ok-messages.ensures c.operand.ensures c.in_ok-arguments.ensures c.in_ok-spelled.ensures c.new.ensures

pub keyword_message-loop-token-init : goal.keyword_message-loop-token-init
keyword_message-loop-token-init t c = record { read = no_parts _ _ _ c.empty-arguments.ensures c.empty-selector.ensures; same = λ k g. refl; slices = c.requires.slices; shorter = omega arith }

pub keyword_message-returns-in_err-argument : goal.keyword_message-returns-in_err-argument
keyword_message-returns-in_err-argument t c =
    let p = err_from_is_err_and c.from_residual-in_err-argument.result c.from_residual-in_err-argument.ensures.1 in
    rw (p.1, p.2) (part_fails _ _ _ _ _ _ _ c.in-Some.token c.loop-token.invariant.same c.in-Some.ensures.0 c.in-Some.ensures.1 c.in_err-argument.ensures)

pub keyword_message-loop-token-smaller : goal.keyword_message-loop-token-smaller
keyword_message-loop-token-smaller t c =
    let s = c.in_ok-argument.ensures.shorter in let q = tail_smaller _ _ c.in-Some.token c.in-Some.ensures.0 in omega arith

pub keyword_message-loop-token-preserved : goal.keyword_message-loop-token-preserved
keyword_message-loop-token-preserved t c = record {
  read = part_read _ _ _ _ _ _ _ _ _ _ _ _ c.in-Some.token c.loop-token.invariant.read c.in-Some.ensures.0 c.in-Some.ensures.1 c.in_ok-argument.ensures (c.in_ok-append.ensures.ok ∙ ap (λ y. c.loop-token.selector ++ y) c.bytes.ensures) c.in_ok-push.ensures.ok;
  same = λ k g. c.loop-token.invariant.same k g ∙ part_taken _ _ _ _ _ _ _ c.in-Some.token c.in-Some.ensures.0 c.in-Some.ensures.1 c.in_ok-argument.ensures k g;
  slices = c.in_ok-argument.ensures.slices;
  shorter = (let s = c.in_ok-argument.ensures.shorter in let r = c.loop-token.invariant.shorter in let q = tail_smaller _ _ c.in-Some.token c.in-Some.ensures.0 in omega arith);
}

pub keyword_message-returns : goal.keyword_message-returns
keyword_message-returns t c = parts_done _ _ _ _ _ _ _ _ c.loop-token.invariant.read c.loop-token.invariant.same c.requires.keyword c.in_default.ensures c.new.ensures c.loop-token.invariant.slices c.loop-token.invariant.shorter

pub keyword_argument-returns-in_err-receiver : goal.keyword_argument-returns-in_err-receiver
keyword_argument-returns-in_err-receiver t c =
    let p = err_from_is_err_and c.from_residual.result c.from_residual.ensures.1 in
    rw (p.1, p.2) (argument_receiver_fails _ _ _ _ _ c.in_err-receiver.ensures)

pub keyword_argument-returns-in_err-messages : goal.keyword_argument-returns-in_err-messages
keyword_argument-returns-in_err-messages t c =
    let p = err_from_is_err_and c.from_residual-in_err-messages.result c.from_residual-in_err-messages.ensures.1 in
    rw (p.1, p.2) (argument_messages_fail _ _ _ _ _ _ _ c.in_ok-receiver.ensures c.in_err-messages.ensures)

pub keyword_argument-returns : goal.keyword_argument-returns
keyword_argument-returns t c = argument_done _ _ _ _ _ _ _ _ _ c.in_ok-receiver.ensures c.in_ok-messages.ensures c.operand.ensures

pub block-block_body-requires : goal.block-block_body-requires
block-block_body-requires t c =
    let x = c.in_ok-parameters.ensures 0 (λ w. true) in
    ((let s = x.shorter in let d = c.decreases in omega arith), (c.requires.text, (x.slices, (omega arith, x.none))))

pub expr-primary-requires : goal.expr-primary-requires
expr-primary-requires t c =
    let x = c.in_ok-names.ensures 0 in
    ((let s = x.shorter in let d = c.decreases in omega arith), (c.requires.text, (x.slices, c.requires.depth)))

pub expr-chain-requires : goal.expr-chain-requires
expr-chain-requires t c =
    let x = c.in_ok-names.ensures 0 in
    let y = c.in_ok-receiver.ensures in
    ((let s = x.shorter in let r = y.shorter in let d = c.decreases in omega arith), (c.requires.text, (y.slices, c.requires.depth)))

pub expr-cascades-requires : goal.expr-cascades-requires
expr-cascades-requires t c =
    let x = c.in_ok-names.ensures 0 in
    let y = c.in_ok-messages.ensures in
    ((let s = x.shorter in let r = c.in_ok-receiver.ensures.shorter in let q = y.shorter in let d = c.decreases in omega arith), (c.requires.text, (y.slices, c.requires.depth)))
