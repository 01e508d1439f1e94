-- Temporaries and primitives, as they are read.
use Rattle.std.proofs.Common.{subst, ◌≡◌, ◌≢◌, ℕ, ◌≤◌, List, [], ◌∷◌, ◌++◌, Bool, true, false, refl, ap, sym, ◌∙◌, append-nil, arith, inl, inr, cond, nat_le, Result, Ok, Err, Option, Some, None}
use Rattle.std.specs.Prelude.{ℤ, pos}
use Rattle.std.specs.Borrow.{Bor}
use Rattle.std.proofs.lemmas.Bool.Decides.{nat_tests}
use Rattle.s80_base.specs.Literal.{LiteralTree, small}
use Rattle.s80_lex.specs.declared.token.Token.{Token}
use Rattle.s80_lex.specs.declared.token.TokenKind.{TokenKind}
use Rattle.s80_lex.specs.declared.token.TokenKind.TheVariants as kind
use Rattle.s80_lex.specs.Number.{number_literal}
use Rattle.s80_tree.specs.declared.name.NameAt.{NameAt}
use Rattle.s80_tree.specs.declared.name.NamesAt.{NamesAt}
use Rattle.s80_tree.specs.Name.{names_of}
use Rattle.s80_syntax.specs.Lexeme.{Lexeme, Lexemes, lexeme, lexemes}
use Rattle.s80_syntax.specs.Grammar.{IsSign, IsBar, IsDeclared, AreDeclared, AreTemporaries, AreOptionalTemporaries, IsPrimitive, IsHead}
use Rattle.s80_syntax.specs.Word.{Names, names_in, is_reserved, is_word, is_primitive_number, primitive_value, bar, less, greater, primitive_word as primitive_bytes}
use Rattle.s80_syntax.specs.Faults.{Unexpected}
use Rattle.s80_syntax.specs.Stack.{Symbol, Stack, Action, Pushes, Refuses, run, takes, declared_takes, sign_takes, word_takes, number_takes, home_takes, after_bar, primitive_then, after_pattern, optional_temporaries, temporaries, after_temporaries, primitive_word, primitive_number, primitive_end, body, home_scope}
use Rattle.s80_syntax.proofs.Moves.{pushes}
use Rattle.s80_syntax.proofs.Words.{word_true, word_false}
use Rattle.s80_syntax.proofs.TakenSigns.{sign_taken, declared_taken}
use Rattle.s80_syntax.proofs.TakenTexts.{primitive_taken, optional_row, behind_row, less_row, bar_row}
use Rattle.s80_syntax.specs.declared.fault.ParseFault.{ParseFault}
use Rattle.s80_syntax.specs.Reads.{AreSlices, IsNotSign, IsNotNext, Took, place_in, bytes_of}
use Rattle.s80_syntax.specs.Names.{NoDeclared}
use Rattle.s80_syntax.specs.Method.{Breaks, BreaksAs, Goes, GoesTo, AreTemporariesRest, IsPrimitiveRest, NoNumber, TookNumber, IsNumberNext, home_body}
use Rattle.s80_syntax.proofs.NextToken.{takes_next, tail_slices}
use Rattle.s80_syntax.proofs.Steps.{at_list}
use Rattle.s80_syntax.proofs.Parameters.{not_declared}
use Rattle.s80_syntax.proofs.Going.{breaks_later, goes_through, breaks_refused, breaks_end, other_sign, sign_missing, sign_here, home_follows}

-- what an after_sign finds
abbrev pub Signed : List ℕ → TokenKind → List ℕ → List Token → List Token → Type 0
Signed text k word ts tail = (t : Token) × (ts ≡ t ∷ tail) × (t.kind ≡ k) × (bytes_of text t ≡ word)

-- one more temporary
declared_more : (ns : List NameAt) (n : NameAt) (ts a rest : Lexemes) → AreDeclared ns ts a → IsDeclared n a rest → AreDeclared (ns ++ n ∷ []) ts rest
declared_more [] n ts a rest h i = (rest, subst (λ x. IsDeclared n x rest) (sym h) i, refl)
declared_more (m ∷ ns) n ts a rest h i = (h.0, h.1, declared_more ns n h.0 a rest h.2 i)

pub temporary_read : (text : List ℕ) (old new : List NameAt) (n : NameAt) (ts : Lexemes) (a rest : List Token) → AreDeclared old ts (lexemes text a) → Took text (IsDeclared n) a rest → new ≡ old ++ n ∷ [] → AreDeclared new ts (lexemes text rest)
temporary_read text old new n ts a rest h x e = subst (λ y. AreDeclared y ts (lexemes text rest)) (sym e) (declared_more old n ts (lexemes text a) (lexemes text rest) h x.read)

names_end : (ns : List NameAt) (n : NameAt) → names_in (ns ++ n ∷ []) ≡ names_in ns ++ n.name ∷ []
names_end [] n = refl
names_end (m ∷ ns) n = ap (λ x. m.name ∷ x) (names_end ns n)

pub temporary_taken : (text : List ℕ) (old new : List NameAt) (n : NameAt) (a rest : List Token) → Took text (IsDeclared n) a rest → new ≡ old ++ n ∷ [] → (ps : Names) (more : Bool) → run true (lexemes text a) (temporaries ps (names_in old) more ∷ []) ≡ run true (lexemes text rest) (temporaries ps (names_in new) more ∷ [])
temporary_taken text old new n a rest x e ps more =
    declared_taken true (temporaries ps (names_in old) more) (λ y. temporaries ps (names_in old ++ y ∷ []) more ∷ []) (λ l. sign_takes l.kind (is_word bar l) (after_bar more ps (names_in old)) Refuses) (λ l. refl) n (lexemes text a) (lexemes text rest) x.read []
    ∙ ap (λ y. run true (lexemes text rest) (temporaries ps y more ∷ [])) (sym (ap names_in e ∙ names_end old n))

-- the second bar
last_bar_row : (ps ns : Names) (more : Bool) (l : Lexeme) → l.kind ≡ kind.Binary → is_word bar l ≡ true → takes (temporaries ps ns more) l ≡ Pushes (after_bar more ps ns)
last_bar_row ps ns more l e h =
    ap (λ z. declared_takes z (is_reserved l.bytes) (temporaries ps (ns ++ l.bytes ∷ []) more ∷ []) (sign_takes z (is_word bar l) (after_bar more ps ns) Refuses)) e
    ∙ ap (λ z. sign_takes kind.Binary z (after_bar more ps ns) Refuses) h

pub temporaries_done : (text : List ℕ) (ns : List NameAt) (ts rest after : List Token) → AreDeclared ns (lexemes text ts) (lexemes text rest) → ((ps : Names) (more : Bool) → run true (lexemes text ts) (temporaries ps [] more ∷ []) ≡ run true (lexemes text rest) (temporaries ps (names_in ns) more ∷ [])) → AreSlices text rest → Signed text kind.Binary bar rest after → (ps : Names) (more : Bool) → Goes text (temporaries ps [] more ∷ []) (after_bar more ps (names_in ns)) (AreTemporariesRest ns) ts after
temporaries_done text ns ts rest after h s w b ps more =
    let sign : IsBar (lexemes text rest) (lexemes text after) = sign_here text bar kind.Binary rest after b in
    record {
      read = (lexemes text rest, h, sign);
      same = s ps more ∙ sign_taken true (temporaries ps (names_in ns) more) (after_bar more ps (names_in ns)) kind.Binary bar (last_bar_row ps (names_in ns) more) (lexemes text rest) (lexemes text after) sign [] ∙ ap (run true (lexemes text after)) (append-nil (after_bar more ps (names_in ns)));
      slices = tail_slices text rest after b.0 b.1 w;
    }

bar_missing : (text : List ℕ) (ps ns : Names) (more : Bool) (ts : List Token) (p : ℕ) → NoDeclared text ts → IsNotSign kind.Binary bar text ts → p ≡ place_in text ts → Breaks text (temporaries ps ns more ∷ []) (lexemes text ts) Unexpected p
bar_missing text ps ns more [] p n m q = breaks_end text (temporaries ps ns more) [] [] p refl refl q
bar_missing text ps ns more (t ∷ ts) p n m q =
    let l : Lexeme = lexeme text t ts in
    breaks_refused text (temporaries ps ns more) [] (t ∷ ts) ts t p refl
    (not_declared t.kind (is_reserved (bytes_of text t)) (temporaries ps (ns ++ bytes_of text t ∷ []) more ∷ []) (sign_takes t.kind (is_word bar l) (after_bar more ps ns) Refuses) n
    ∙ other_sign text bar t ts (after_bar more ps ns) Refuses m) q

pub temporaries_unended : (text : List ℕ) (ns : List NameAt) (ts rest : List Token) (p : ℕ) → ((ps : Names) (more : Bool) → run true (lexemes text ts) (temporaries ps [] more ∷ []) ≡ run true (lexemes text rest) (temporaries ps (names_in ns) more ∷ [])) → NoDeclared text rest → IsNotSign kind.Binary bar text rest → p ≡ place_in text rest → (ps : Names) (more : Bool) → Breaks text (temporaries ps [] more ∷ []) (lexemes text ts) Unexpected p
temporaries_unended text ns ts rest p s n m q ps more =
    let b = bar_missing text ps (names_in ns) more rest p n m q in
    record { rest = b.rest; is_place = b.is_place; same = s ps more ∙ b.same }

-- temporaries, if any
bar_opens : (text : List ℕ) (ps : Names) (ts tail : List Token) → Signed text kind.Binary bar ts tail → run true (lexemes text ts) (optional_temporaries ps ∷ []) ≡ run true (lexemes text tail) (temporaries ps [] false ∷ [])
bar_opens text ps ts tail h = sign_taken true (optional_temporaries ps) (temporaries ps [] false ∷ []) kind.Binary bar (optional_row ps) (lexemes text ts) (lexemes text tail) (sign_here text bar kind.Binary ts tail h) []

pub optional_some : (text : List ℕ) (ts tail : List Token) (r : Result (NamesAt × Bor (List Token)) ParseFault) → Signed text kind.Binary bar ts tail → ((ps : Names) (more : Bool) → GoesTo text (temporaries ps [] more ∷ []) (λ x. after_bar more ps (names_in (names_of x))) (λ x. AreTemporariesRest (names_of x)) tail r) → (ps : Names) → GoesTo text (optional_temporaries ps ∷ []) (λ x. home_body ps (names_in (names_of x))) (λ x. AreOptionalTemporaries (names_of x)) ts r
optional_some text ts tail r h x ps =
    goes_through text (optional_temporaries ps ∷ []) (temporaries ps [] false ∷ []) (λ y. home_body ps (names_in (names_of y))) (λ y. AreTemporariesRest (names_of y)) (λ y. AreOptionalTemporaries (names_of y)) ts tail r
    (bar_opens text ps ts tail h) (λ v end g. inl (lexemes text tail, g.0, sign_here text bar kind.Binary ts tail h, g.1, g.2)) (x ps false)

pub optional_none : (text : List ℕ) (ns : List NameAt) (ts : List Token) → IsNotSign kind.Binary bar text ts → ns ≡ [] → AreSlices text ts → (ps : Names) → Goes text (optional_temporaries ps ∷ []) (home_body ps (names_in ns)) (AreOptionalTemporaries ns) ts ts
optional_none text ns ts n e w ps = record {
  read = inr (e, refl);
  same = home_follows text (optional_temporaries ps) ps [] refl ts (λ t tail h. other_sign text bar t tail (temporaries ps [] false ∷ []) (home_takes ps [] (lexeme text t tail)) (subst (IsNotSign kind.Binary bar text) h n)) ∙ ap (λ x. run true (lexemes text ts) (home_body ps (names_in x))) (sym e);
  slices = w;
}

-- a primitive
word_row : (l : Lexeme) → l.kind ≡ kind.Keyword → is_word primitive_bytes l ≡ true → takes primitive_word l ≡ Pushes []
word_row l e h = ap (λ q. word_takes q (is_word primitive_bytes l)) e ∙ ap (word_takes kind.Keyword) h

end_row : (l : Lexeme) → l.kind ≡ kind.Binary → is_word greater l ≡ true → takes primitive_end l ≡ Pushes []
end_row l e h = ap (λ q. sign_takes q (is_word greater l) [] Refuses) e ∙ ap (λ q. sign_takes kind.Binary q [] Refuses) h

word_taken : (text : List ℕ) (ts tail : List Token) (k : Stack) → Signed text kind.Keyword primitive_bytes ts tail → run true (lexemes text ts) (primitive_word ∷ k) ≡ run true (lexemes text tail) k
word_taken text ts tail k h = sign_taken true primitive_word [] kind.Keyword primitive_bytes word_row (lexemes text ts) (lexemes text tail) (sign_here text primitive_bytes kind.Keyword ts tail h) k

no_word : (d : TokenKind) (b : Bool) → (d ≡ kind.Keyword → b ≡ false) → word_takes d b ≡ Refuses
no_word kind.Keyword b h = ap (word_takes kind.Keyword) (h refl)
no_word _ b h = refl

pub word_missing : (text : List ℕ) (ts : List Token) (p : ℕ) (k : Stack) → IsNotSign kind.Keyword primitive_bytes text ts → p ≡ place_in text ts → Breaks text (primitive_then k) (lexemes text ts) Unexpected p
word_missing text [] p k n q = breaks_end text primitive_word (primitive_number ∷ primitive_end ∷ k) [] p refl refl q
word_missing text (t ∷ ts) p k n q =
    breaks_refused text primitive_word (primitive_number ∷ primitive_end ∷ k) (t ∷ ts) ts t p refl (no_word t.kind (is_word primitive_bytes (lexeme text t ts)) (λ e. word_false primitive_bytes (lexeme text t ts) (n e))) q

-- a value from 1 to 255
small_value : (v : LiteralTree) (n : ℕ) → primitive_value v ≡ n → n ≢ 0 → (v ≡ small (pos n)) × (1 ≤ n) × (n ≤ 255)
small_value (small (pos m)) n e h = within m n e h
  where
    within : (m n : ℕ) → cond (nat_le m 255) m 0 ≡ n → n ≢ 0 → (small (pos m) ≡ small (pos n)) × (1 ≤ n) × (n ≤ 255)
    within m n e h =
        let q : (m ≡ n) × (n ≤ 255) = (grind (arith, nat_tests), grind (arith, nat_tests)) in
        (ap (λ x. small (pos x)) q.0, omega (arith, h), q.1)
small_value (small _) n e h = absurd (h (sym e))
small_value _ n e h = absurd (h (sym e))

is_number : (l : Lexeme) → primitive_value (number_literal false l.bytes) ≢ 0 → is_primitive_number l ≡ true
unfolding is_primitive_number
is_number l h = grind (arith, nat_tests, h)

is_none : (l : Lexeme) → primitive_value (number_literal false l.bytes) ≡ 0 → is_primitive_number l ≡ false
unfolding is_primitive_number
is_none l h = grind (arith, nat_tests, h)

no_number : (d : TokenKind) (b : Bool) → (d ≡ kind.Number → b ≡ false) → number_takes d b ≡ Refuses
no_number kind.Number b h = ap (number_takes kind.Number) (h refl)
no_number _ b h = refl

number_refused : (text : List ℕ) (ts : List Token) (p : ℕ) (k : Stack) → NoNumber text ts → p ≡ place_in text ts → Breaks text (primitive_number ∷ k) (lexemes text ts) Unexpected p
number_refused text [] p k n q = breaks_end text primitive_number k [] p refl refl q
number_refused text (t ∷ ts) p k n q =
    breaks_refused text primitive_number k (t ∷ ts) ts t p refl (no_number t.kind (is_primitive_number (lexeme text t ts)) (λ e. is_none (lexeme text t ts) (n e))) q

pub number_missing : (text : List ℕ) (o : Option (ℕ × Bor (List Token))) (ts tail : List Token) (p : ℕ) (k : Stack) → Signed text kind.Keyword primitive_bytes ts tail → IsNumberNext text tail o → o ≡ None → p ≡ place_in text tail → Breaks text (primitive_then k) (lexemes text ts) Unexpected p
number_missing text o ts tail p k h n e q =
    let b = number_refused text tail p (primitive_end ∷ k) (subst (IsNumberNext text tail) e n) q in
    record { rest = b.rest; is_place = b.is_place; same = word_taken text ts tail (primitive_number ∷ primitive_end ∷ k) h ∙ b.same }

number_taken : (text : List ℕ) (n : ℕ) (ts rest : List Token) (k : Stack) → TookNumber text n ts rest → run true (lexemes text ts) (primitive_number ∷ k) ≡ run true (lexemes text rest) k
number_taken text n ts rest k x =
    let l : Lexeme = lexeme text x.token rest in
    at_list text ts (x.token ∷ rest) (primitive_number ∷ k) x.first
    ∙ pushes true l (lexemes text rest) primitive_number k [] (ap (λ q. number_takes q (is_primitive_number l)) x.kind ∙ ap (number_takes kind.Number) (is_number l (λ e. x.some (sym x.value ∙ e))))

pub number_found : (text : List ℕ) (o : Option (ℕ × Bor (List Token))) (x : ℕ × Bor (List Token)) (ts : List Token) → IsNumberNext text ts o → o ≡ Some x → TookNumber text x.0 ts x.1.now
number_found text o x ts h e = subst (IsNumberNext text ts) e h

pub end_missing : (text : List ℕ) (n : ℕ) (ts tail rest : List Token) (p : ℕ) (k : Stack) → Signed text kind.Keyword primitive_bytes ts tail → TookNumber text n tail rest → IsNotSign kind.Binary greater text rest → p ≡ place_in text rest → Breaks text (primitive_then k) (lexemes text ts) Unexpected p
end_missing text n ts tail rest p k h x m q =
    let b = sign_missing text greater primitive_end [] k (λ l. refl) refl rest p m q in
    record { rest = b.rest; is_place = b.is_place; same = word_taken text ts tail (primitive_number ∷ primitive_end ∷ k) h ∙ number_taken text n tail rest (primitive_end ∷ k) x ∙ b.same }

pub primitive_done : (text : List ℕ) (n : ℕ) (ts tail rest after : List Token) (k : Stack) → Signed text kind.Keyword primitive_bytes ts tail → TookNumber text n tail rest → Signed text kind.Binary greater rest after → Goes text (primitive_then k) k (IsPrimitiveRest n) ts after
primitive_done text n ts tail rest after k h x g =
    let sign : IsSign kind.Binary greater (lexemes text rest) (lexemes text after) = sign_here text greater kind.Binary rest after g in
    let v = small_value (number_literal false (bytes_of text x.token)) n x.value x.some in
    record {
      read = (lexeme text x.token rest, lexemes text tail, lexemes text rest, sign_here text primitive_bytes kind.Keyword ts tail h, takes_next text tail rest x.token kind.Number x.first x.kind, v.0, v.1, v.2, sign);
      same = word_taken text ts tail (primitive_number ∷ primitive_end ∷ k) h ∙ number_taken text n tail rest (primitive_end ∷ k) x ∙ sign_taken true primitive_end [] kind.Binary greater end_row (lexemes text rest) (lexemes text after) sign k;
      slices = tail_slices text rest after g.0 g.1 x.slices;
    }

-- a head that begins with a primitive
less_opens : (text : List ℕ) (ps : Names) (ts tail : List Token) → Signed text kind.Binary less ts tail → run true (lexemes text ts) (after_pattern ps ∷ []) ≡ run true (lexemes text tail) (primitive_then (optional_temporaries ps ∷ []))
less_opens text ps ts tail h = sign_taken true (after_pattern ps) (primitive_then (optional_temporaries ps ∷ [])) kind.Binary less (less_row ps) (lexemes text ts) (lexemes text tail) (sign_here text less kind.Binary ts tail h) []

whole_primitive : (n : ℕ) (ts a rest : Lexemes) → IsSign kind.Binary less ts a → IsPrimitiveRest n a rest → IsPrimitive n ts rest
whole_primitive n ts a rest s h = (h.0, a, h.1, h.2, s, h.3, h.4, h.5, h.6, h.7, h.8)

pub first_primitive_fails : (text : List ℕ) (e : ParseFault) (ts tail : List Token) → Signed text kind.Binary less ts tail → ((k : Stack) → BreaksAs text (primitive_then k) (lexemes text tail) e) → (ps : Names) → BreaksAs text (after_pattern ps ∷ []) (lexemes text ts) e
first_primitive_fails text e ts tail h f ps =
    breaks_later text (after_pattern ps ∷ []) (primitive_then (optional_temporaries ps ∷ [])) (lexemes text ts) (lexemes text tail) e (less_opens text ps ts tail h) (f (optional_temporaries ps ∷ []))

first_primitive : (text : List ℕ) (n : ℕ) (ts tail rest : List Token) → Signed text kind.Binary less ts tail → ((k : Stack) → Goes text (primitive_then k) k (IsPrimitiveRest n) tail rest) → (ps : Names) → run true (lexemes text ts) (after_pattern ps ∷ []) ≡ run true (lexemes text rest) (optional_temporaries ps ∷ [])
first_primitive text n ts tail rest h x ps = less_opens text ps ts tail h ∙ (x (optional_temporaries ps ∷ [])).same

pub behind_primitive_fails : (text : List ℕ) (e : ParseFault) (n : ℕ) (ts tail rest : List Token) → Signed text kind.Binary less ts tail → ((k : Stack) → Goes text (primitive_then k) k (IsPrimitiveRest n) tail rest) → ((ps : Names) → BreaksAs text (optional_temporaries ps ∷ []) (lexemes text rest) e) → (ps : Names) → BreaksAs text (after_pattern ps ∷ []) (lexemes text ts) e
behind_primitive_fails text e n ts tail rest h x f ps =
    breaks_later text (after_pattern ps ∷ []) (optional_temporaries ps ∷ []) (lexemes text ts) (lexemes text rest) e (first_primitive text n ts tail rest h x ps) (f ps)

pub primitive_first : (text : List ℕ) (n : ℕ) (ns : List NameAt) (ts tail rest after : List Token) → Signed text kind.Binary less ts tail → ((k : Stack) → Goes text (primitive_then k) k (IsPrimitiveRest n) tail rest) → ((ps : Names) → Goes text (optional_temporaries ps ∷ []) (home_body ps (names_in ns)) (AreOptionalTemporaries ns) rest after) → (ps : Names) → Goes text (after_pattern ps ∷ []) (home_body ps (names_in ns)) (IsHead ns n) ts after
primitive_first text n ns ts tail rest after h x y ps =
    let p = whole_primitive n (lexemes text ts) (lexemes text tail) (lexemes text rest) (sign_here text less kind.Binary ts tail h) (x []).read in
    record {
      read = inr (inl (lexemes text rest, p, (y ps).read));
      same = first_primitive text n ts tail rest h x ps ∙ (y ps).same;
      slices = (y ps).slices;
    }

-- a head without signs
pub no_head : (text : List ℕ) (ns : List NameAt) (ts : List Token) → IsNotSign kind.Binary less text ts → IsNotSign kind.Binary bar text ts → ns ≡ [] → AreSlices text ts → (ps : Names) → Goes text (after_pattern ps ∷ []) (home_body ps (names_in ns)) (IsHead ns 0) ts ts
no_head text ns ts n m e w ps = record {
  read = inl (refl, inr (e, refl));
  same = home_follows text (after_pattern ps) ps [] refl ts
      (λ t tail h.
      other_sign text less t tail (primitive_then (optional_temporaries ps ∷ [])) (sign_takes t.kind (is_word bar (lexeme text t tail)) (temporaries ps [] true ∷ []) (home_takes ps [] (lexeme text t tail))) (subst (IsNotSign kind.Binary less text) h n)
      ∙ other_sign text bar t tail (temporaries ps [] true ∷ []) (home_takes ps [] (lexeme text t tail)) (subst (IsNotSign kind.Binary bar text) h m))
      ∙ ap (λ x. run true (lexemes text ts) (home_body ps (names_in x))) (sym e);
  slices = w;
}

-- a head that begins with temporaries
bar_first : (text : List ℕ) (ps : Names) (ts tail : List Token) → Signed text kind.Binary bar ts tail → run true (lexemes text ts) (after_pattern ps ∷ []) ≡ run true (lexemes text tail) (temporaries ps [] true ∷ [])
bar_first text ps ts tail h =
    at_list text ts (h.0 ∷ tail) (after_pattern ps ∷ []) h.1 ∙ pushes true (lexeme text h.0 tail) (lexemes text tail) (after_pattern ps) [] (temporaries ps [] true ∷ []) (bar_row ps (lexeme text h.0 tail) h.2 h.3)

pub first_temporaries_fail : (text : List ℕ) (e : ParseFault) (ts tail : List Token) → Signed text kind.Binary bar ts tail → ((ps : Names) (more : Bool) → BreaksAs text (temporaries ps [] more ∷ []) (lexemes text tail) e) → (ps : Names) → BreaksAs text (after_pattern ps ∷ []) (lexemes text ts) e
first_temporaries_fail text e ts tail h f ps =
    breaks_later text (after_pattern ps ∷ []) (temporaries ps [] true ∷ []) (lexemes text ts) (lexemes text tail) e (bar_first text ps ts tail h) (f ps true)

first_temporaries : (text : List ℕ) (ns : List NameAt) (ts tail rest : List Token) → Signed text kind.Binary bar ts tail → ((ps : Names) (more : Bool) → Goes text (temporaries ps [] more ∷ []) (after_bar more ps (names_in ns)) (AreTemporariesRest ns) tail rest) → (ps : Names) → run true (lexemes text ts) (after_pattern ps ∷ []) ≡ run true (lexemes text rest) (after_temporaries ps (names_in ns) ∷ [])
first_temporaries text ns ts tail rest h x ps = bar_first text ps ts tail h ∙ (x ps true).same

whole_temporaries : (text : List ℕ) (ns : List NameAt) (ts tail rest : List Token) → Signed text kind.Binary bar ts tail → AreTemporariesRest ns (lexemes text tail) (lexemes text rest) → AreTemporaries ns (lexemes text ts) (lexemes text rest)
whole_temporaries text ns ts tail rest h g = (lexemes text tail, g.0, sign_here text bar kind.Binary ts tail h, g.1, g.2)

pub temporaries_alone : (text : List ℕ) (ns : List NameAt) (ts tail rest : List Token) → Signed text kind.Binary bar ts tail → ((ps : Names) (more : Bool) → Goes text (temporaries ps [] more ∷ []) (after_bar more ps (names_in ns)) (AreTemporariesRest ns) tail rest) → IsNotSign kind.Binary less text rest → (ps : Names) → Goes text (after_pattern ps ∷ []) (home_body ps (names_in ns)) (IsHead ns 0) ts rest
temporaries_alone text ns ts tail rest h x n ps = record {
  read = inl (refl, inl (whole_temporaries text ns ts tail rest h (x ps true).read));
  same = first_temporaries text ns ts tail rest h x ps
      ∙ home_follows text (after_temporaries ps (names_in ns)) ps (names_in ns) refl rest
      (λ t tail e. other_sign text less t tail (primitive_then (body ∷ home_scope ps (names_in ns) ∷ [])) (home_takes ps (names_in ns) (lexeme text t tail)) (subst (IsNotSign kind.Binary less text) e n));
  slices = (x ps true).slices;
}

less_behind : (text : List ℕ) (ps ns : Names) (ts tail : List Token) → Signed text kind.Binary less ts tail → run true (lexemes text ts) (after_temporaries ps ns ∷ []) ≡ run true (lexemes text tail) (primitive_then (home_body ps ns))
less_behind text ps ns ts tail h = sign_taken true (after_temporaries ps ns) (primitive_then (home_body ps ns)) kind.Binary less (behind_row ps ns) (lexemes text ts) (lexemes text tail) (sign_here text less kind.Binary ts tail h) []

pub last_primitive_fails : (text : List ℕ) (e : ParseFault) (ns : List NameAt) (ts tail rest inner : List Token) → Signed text kind.Binary bar ts tail → ((ps : Names) (more : Bool) → Goes text (temporaries ps [] more ∷ []) (after_bar more ps (names_in ns)) (AreTemporariesRest ns) tail rest) → Signed text kind.Binary less rest inner → ((k : Stack) → BreaksAs text (primitive_then k) (lexemes text inner) e) → (ps : Names) → BreaksAs text (after_pattern ps ∷ []) (lexemes text ts) e
last_primitive_fails text e ns ts tail rest inner h x g f ps =
    breaks_later text (after_pattern ps ∷ []) (primitive_then (home_body ps (names_in ns))) (lexemes text ts) (lexemes text inner) e (first_temporaries text ns ts tail rest h x ps ∙ less_behind text ps (names_in ns) rest inner g) (f (home_body ps (names_in ns)))

pub primitive_last : (text : List ℕ) (n : ℕ) (ns : List NameAt) (ts tail rest inner after : List Token) → Signed text kind.Binary bar ts tail → ((ps : Names) (more : Bool) → Goes text (temporaries ps [] more ∷ []) (after_bar more ps (names_in ns)) (AreTemporariesRest ns) tail rest) → Signed text kind.Binary less rest inner → ((k : Stack) → Goes text (primitive_then k) k (IsPrimitiveRest n) inner after) → (ps : Names) → Goes text (after_pattern ps ∷ []) (home_body ps (names_in ns)) (IsHead ns n) ts after
primitive_last text n ns ts tail rest inner after h x g y ps =
    let p = whole_primitive n (lexemes text rest) (lexemes text inner) (lexemes text after) (sign_here text less kind.Binary rest inner g) (y []).read in
    record {
      read = inr (inr (lexemes text rest, whole_temporaries text ns ts tail rest h (x ps true).read, p));
      same = first_temporaries text ns ts tail rest h x ps ∙ less_behind text ps (names_in ns) rest inner g ∙ (y (home_body ps (names_in ns))).same;
      slices = (y []).slices;
    }
