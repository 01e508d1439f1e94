-- Which tokens may come next: a stack of what is still wanted, and what each token does to it. It makes no tree.
use Rattle.std.specs.Prelude.{ℕ, suc, List, [], ◌∷◌, ◌++◌, Bool, true, false, cond}
use Rattle.s80_lex.specs.declared.token.TokenKind.{TokenKind}
use Rattle.s80_lex.specs.declared.token.TokenKind.TheVariants as kind
use Rattle.s80_syntax.specs.Lexeme.{Lexeme, Lexemes}
use Rattle.s80_syntax.specs.Word.{Names, is_reserved, is_word, is_minus, is_primitive_number, bar, less, greater, primitive_word as primitive_bytes}
use Rattle.s80_syntax.specs.Limits.{may_open, may_assign, home_assigns, block_assigns}
use Rattle.s80_syntax.specs.Faults.{Wrong, Unexpected, Nested, NotAssignable}

pub data Symbol : Type 0 where
  method_start : Symbol
  -- a pattern, with the parameters so far
  binary_parameter : Symbol
  keyword_parameter : Names → Symbol
  after_keyword : Names → Symbol
  -- what may stand before a method's body, with the parameters, and the temporaries so far
  after_pattern : Names → Symbol
  optional_temporaries : Names → Symbol
  -- the temporaries, and whether a primitive may follow
  temporaries : Names → Names → Bool → Symbol
  after_temporaries : Names → Names → Symbol
  primitive_word : Symbol
  primitive_number : Symbol
  primitive_end : Symbol
  -- no token: the names that are declared around what stands above
  home_scope : Names → Names → Symbol
  block_scope : Names → Symbol
  body : Symbol
  after_statement : Symbol
  after_return : Symbol
  expr_start : Symbol
  -- a name that may turn out to be a target
  after_name : Lexeme → Symbol
  first_message : Symbol
  primary : Symbol
  unary_tail : Symbol
  binary_tail : Symbol
  keyword_tail : Symbol
  cascade : Symbol
  message : Symbol
  -- the number behind a minus
  after_minus : Symbol
  elements : Symbol
  -- the keyword that the one before is joined to
  joined_keyword : Symbol
  close_paren : Symbol
  close_bracket : Symbol
  block_start : Symbol
  -- a block's parameter, with those so far
  parameter : Names → Symbol
  after_parameter : Names → Symbol

-- a doIt is like what follows the primitive of a method without parameters
abbrev pub doit_start : Symbol
doit_start = optional_temporaries []

abbrev pub Stack : Type 0
Stack = List Symbol

pub data Action : Type 0 where
  -- takes the token, and wants these in place of the symbol
  Pushes : Stack → Action
  -- the same, and the token opens a level
  Opens : Stack → Action
  -- takes an assignment sign behind this name
  Assigns : Lexeme → Action
  -- is done without the token
  Pops : Action
  -- no text goes on with the token
  Refuses : Action

-- further symbols below those that are pushed; they are done wherever the first symbol is
abbrev pub above : Action → Stack → Action
above (Pushes p) more = Pushes (p ++ more)
above (Opens p) more = Opens (p ++ more)
above (Assigns n) more = Assigns n
above Pops more = Pops
above Refuses more = Refuses

-- a chain of messages after its first one
abbrev pub tails : Stack
tails = unary_tail ∷ binary_tail ∷ keyword_tail ∷ cascade ∷ []

-- an operand, and then more
abbrev pub primary_takes : TokenKind → Bool → Stack → Action → Action
primary_takes kind.Name negative more other = Pushes more
primary_takes kind.Number negative more other = Pushes more
primary_takes kind.Character negative more other = Pushes more
primary_takes kind.Str negative more other = Pushes more
primary_takes kind.Symbol negative more other = Pushes more
primary_takes kind.Binary true more other = Pushes (after_minus ∷ more)
primary_takes kind.ArrayStart negative more other = Opens (elements ∷ close_paren ∷ more)
primary_takes kind.OpenParen negative more other = Opens (expr_start ∷ close_paren ∷ more)
primary_takes kind.OpenBracket negative more other = Opens (block_start ∷ close_bracket ∷ more)
primary_takes _ negative more other = other

abbrev pub expr_takes : TokenKind → Bool → Lexeme → Stack → Action → Action
expr_takes kind.Name negative l more other = Pushes (after_name l ∷ more)
expr_takes k negative l more other = primary_takes k negative (first_message ∷ more) other

abbrev pub body_takes : TokenKind → Bool → Lexeme → Action
body_takes kind.Caret negative l = Pushes (expr_start ∷ after_return ∷ [])
body_takes k negative l = expr_takes k negative l (after_statement ∷ []) Pops

-- elements of an array
abbrev pub element_takes : TokenKind → Bool → Bool → Action
element_takes kind.Number negative joined = Pushes (elements ∷ [])
element_takes kind.Character negative joined = Pushes (elements ∷ [])
element_takes kind.Str negative joined = Pushes (elements ∷ [])
element_takes kind.Symbol negative joined = Pushes (elements ∷ [])
element_takes kind.Name negative joined = Pushes (elements ∷ [])
element_takes kind.Binary true joined = Pushes (after_minus ∷ elements ∷ [])
element_takes kind.Binary false joined = Pushes (elements ∷ [])
element_takes kind.Keyword negative true = Pushes (joined_keyword ∷ elements ∷ [])
element_takes kind.Keyword negative false = Pushes (elements ∷ [])
element_takes kind.ArrayStart negative joined = Opens (elements ∷ close_paren ∷ elements ∷ [])
element_takes kind.OpenParen negative joined = Opens (elements ∷ close_paren ∷ elements ∷ [])
element_takes _ negative joined = Pops

abbrev pub joined_takes : TokenKind → Bool → Action
joined_takes kind.Keyword true = Pushes (joined_keyword ∷ [])
joined_takes kind.Keyword false = Pushes []
joined_takes _ joined = Refuses

abbrev pub number_takes : TokenKind → Bool → Action
number_takes kind.Number true = Pushes []
number_takes _ lawful = Refuses

abbrev pub message_takes : TokenKind → Action
message_takes kind.Name = Pushes tails
message_takes kind.Binary = Pushes (primary ∷ tails)
message_takes kind.Keyword = Pushes (primary ∷ tails)
message_takes _ = Pops

abbrev pub cascade_takes : TokenKind → Action
cascade_takes kind.Name = Pushes []
cascade_takes kind.Binary = Pushes (primary ∷ unary_tail ∷ [])
cascade_takes kind.Keyword = Pushes (primary ∷ unary_tail ∷ binary_tail ∷ keyword_tail ∷ [])
cascade_takes _ = Refuses

abbrev pub name_takes : TokenKind → Stack → Action → Action
name_takes kind.Name more other = Pushes more
name_takes _ more other = other

-- a name that is declared
abbrev pub declared_takes : TokenKind → Bool → Stack → Action → Action
declared_takes kind.Name false more other = Pushes more
declared_takes _ reserved more other = other

-- a binary selector with certain bytes, such as a bar
abbrev pub sign_takes : TokenKind → Bool → Stack → Action → Action
sign_takes kind.Binary true more other = Pushes more
sign_takes _ same more other = other

abbrev pub colon_takes : TokenKind → Stack → Action → Action
colon_takes kind.Colon more other = Pushes more
colon_takes _ more other = other

abbrev pub assign_takes : TokenKind → Lexeme → Action
assign_takes kind.Assign n = Assigns n
assign_takes k n = message_takes k

abbrev pub binary_takes : TokenKind → Action
binary_takes kind.Binary = Pushes (primary ∷ unary_tail ∷ binary_tail ∷ [])
binary_takes _ = Pops

abbrev pub keyword_takes : TokenKind → Stack → Action → Action
keyword_takes kind.Keyword more other = Pushes more
keyword_takes _ more other = other

abbrev pub semicolon_takes : TokenKind → Action
semicolon_takes kind.Semicolon = Pushes (message ∷ cascade ∷ [])
semicolon_takes _ = Pops

abbrev pub period_takes : TokenKind → Stack → Action
period_takes kind.Period more = Pushes more
period_takes _ more = Pops

abbrev pub paren_takes : TokenKind → Action
paren_takes kind.CloseParen = Pushes []
paren_takes _ = Refuses

abbrev pub bracket_takes : TokenKind → Action
bracket_takes kind.CloseBracket = Pushes []
bracket_takes _ = Refuses

abbrev pub pattern_takes : TokenKind → Action
pattern_takes kind.Name = Pushes (after_pattern [] ∷ [])
pattern_takes kind.Binary = Pushes (binary_parameter ∷ [])
pattern_takes kind.Keyword = Pushes (keyword_parameter [] ∷ [])
pattern_takes _ = Refuses

abbrev pub word_takes : TokenKind → Bool → Action
word_takes kind.Keyword true = Pushes []
word_takes _ same = Refuses

abbrev pub after_bar : Bool → Names → Names → Stack
after_bar true ps ns = after_temporaries ps ns ∷ []
after_bar false ps ns = body ∷ home_scope ps ns ∷ []

-- a primitive, and then more
abbrev pub primitive_then : Stack → Stack
primitive_then more = primitive_word ∷ primitive_number ∷ primitive_end ∷ more

abbrev pub home_takes : Names → Names → Lexeme → Action
home_takes ps ns l = above (body_takes l.kind (is_minus l) l) (home_scope ps ns ∷ [])

abbrev pub head_takes : Names → Lexeme → Action
head_takes ps l =
    sign_takes l.kind (is_word less l) (primitive_then (optional_temporaries ps ∷ []))
    (sign_takes l.kind (is_word bar l) (temporaries ps [] true ∷ []) (home_takes ps [] l))

abbrev pub takes : Symbol → Lexeme → Action
takes method_start l = pattern_takes l.kind
takes binary_parameter l = declared_takes l.kind (is_reserved l.bytes) (after_pattern (l.bytes ∷ []) ∷ []) Refuses
takes (keyword_parameter ps) l = declared_takes l.kind (is_reserved l.bytes) (after_keyword (ps ++ l.bytes ∷ []) ∷ []) Refuses
takes (after_keyword ps) l = keyword_takes l.kind (keyword_parameter ps ∷ []) (head_takes ps l)
takes (after_pattern ps) l = head_takes ps l
takes (optional_temporaries ps) l = sign_takes l.kind (is_word bar l) (temporaries ps [] false ∷ []) (home_takes ps [] l)
takes (temporaries ps ns primitive) l =
    declared_takes l.kind (is_reserved l.bytes) (temporaries ps (ns ++ l.bytes ∷ []) primitive ∷ [])
    (sign_takes l.kind (is_word bar l) (after_bar primitive ps ns) Refuses)
takes (after_temporaries ps ns) l = sign_takes l.kind (is_word less l) (primitive_then (body ∷ home_scope ps ns ∷ [])) (home_takes ps ns l)
takes primitive_word l = word_takes l.kind (is_word primitive_bytes l)
takes primitive_number l = number_takes l.kind (is_primitive_number l)
takes primitive_end l = sign_takes l.kind (is_word greater l) [] Refuses
takes (home_scope ps ns) l = Pops
takes (block_scope ns) l = Pops
takes body l = body_takes l.kind (is_minus l) l
takes after_statement l = period_takes l.kind (body ∷ [])
takes after_return l = period_takes l.kind []
takes expr_start l = expr_takes l.kind (is_minus l) l [] Refuses
takes (after_name n) l = assign_takes l.kind n
takes first_message l = message_takes l.kind
takes primary l = primary_takes l.kind (is_minus l) [] Refuses
takes unary_tail l = name_takes l.kind (unary_tail ∷ []) Pops
takes binary_tail l = binary_takes l.kind
takes keyword_tail l = keyword_takes l.kind (primary ∷ unary_tail ∷ binary_tail ∷ keyword_tail ∷ []) Pops
takes cascade l = semicolon_takes l.kind
takes message l = cascade_takes l.kind
takes after_minus l = number_takes l.kind true
takes elements l = element_takes l.kind (is_minus l) l.joined
takes joined_keyword l = joined_takes l.kind l.joined
takes close_paren l = paren_takes l.kind
takes close_bracket l = bracket_takes l.kind
takes block_start l = colon_takes l.kind (parameter [] ∷ []) (body_takes l.kind (is_minus l) l)
takes (parameter ns) l = declared_takes l.kind (is_reserved l.bytes) (after_parameter (ns ++ l.bytes ∷ []) ∷ []) Refuses
takes (after_parameter ns) l = colon_takes l.kind (parameter ns ∷ []) (sign_takes l.kind (is_word bar l) (body ∷ block_scope ns ∷ []) Pops)

-- what need not come
abbrev pub may_end : Symbol → Bool
may_end method_start = false
may_end binary_parameter = false
may_end (keyword_parameter ps) = false
may_end (temporaries ps ns primitive) = false
may_end primitive_word = false
may_end primitive_number = false
may_end primitive_end = false
may_end expr_start = false
may_end primary = false
may_end message = false
may_end after_minus = false
may_end joined_keyword = false
may_end close_paren = false
may_end close_bracket = false
may_end (parameter ns) = false
may_end _ = true

-- how many brackets are open
abbrev pub level : Stack → ℕ
level [] = 0
level (close_paren ∷ k) = suc (level k)
level (close_bracket ∷ k) = suc (level k)
level (_ ∷ k) = level k

-- which names may be assigned
abbrev pub assigns : Stack → List ℕ → Bool
assigns [] = home_assigns [] []
assigns (home_scope ps ns ∷ k) = home_assigns ps ns
assigns (block_scope ns ∷ k) = block_assigns ns (assigns k)
assigns (_ ∷ k) = assigns k

-- whether all is taken, or what is wrong and the tokens from there on
pub data Outcome : Type 0 where
  Accepts : Outcome
  Fails : Wrong → Lexemes → Outcome

abbrev pub finish : Stack → Outcome
finish [] = Accepts
finish (a ∷ k) = cond (may_end a) (finish k) (Fails Unexpected [])

-- strict also minds the limits
abbrev pub act : Bool → (Stack → Outcome) → Lexeme → Lexemes → Stack → Action → Outcome → Outcome
act strict go l ts k (Pushes p) popped = go (p ++ k)
act strict go l ts k (Opens p) popped = cond (may_open strict (level k)) (go (p ++ k)) (Fails Nested (l ∷ ts))
act strict go l ts k (Assigns n) popped = cond (may_assign strict (assigns k) n.bytes) (go (expr_start ∷ k)) (Fails (NotAssignable n) (l ∷ ts))
act strict go l ts k Pops popped = popped
act strict go l ts k Refuses popped = Fails Unexpected (l ∷ ts)

abbrev pub step : Bool → (Stack → Outcome) → Lexeme → Lexemes → Stack → Outcome
step strict go l ts [] = Fails Unexpected (l ∷ ts)
step strict go l ts (a ∷ k) = act strict go l ts k (takes a l) (step strict go l ts k)

unfoldable pub run : Bool → Lexemes → Stack → Outcome
run strict [] = finish
run strict (l ∷ ts) = step strict (run strict ts) l ts
