-- A text has one reading.
use Rattle.std.proofs.Common.{◌≡◌, ℕ, ◌⊎◌, inl, inr, List, [], ◌∷◌, ◌++◌, drop, length, get_or, refl, ap, sym, ◌∙◌, subst, arith, append_assoc, length-append}
use Rattle.std.specs.Char.{is_ascii_alphanumeric}
use Rattle.std.proofs.lemmas.List.{append-nil}
use Rattle.s80_lex.specs.declared.class.Class.{Class}
use Rattle.s80_lex.specs.declared.class.Class.TheVariants as class
use Rattle.s80_lex.specs.declared.fault.LexFault.{LexFault}
use Rattle.s80_lex.specs.declared.fault.LexFault.TheVariants as cause
use Rattle.s80_lex.specs.declared.part.Part.{Part}
use Rattle.s80_lex.specs.declared.part.Part.TheVariants as part
use Rattle.s80_lex.specs.declared.token.Token.{Token}
use Rattle.s80_lex.specs.declared.token.TokenKind.{TokenKind}
use Rattle.s80_lex.specs.declared.token.TokenKind.TheVariants.{Name, Keyword, Number, Str, Character, Symbol, ArrayStart, Assign, Colon, OpenParen}
use Rattle.s80_lex.specs.Class.{class_of}
use Rattle.s80_lex.specs.Spelling.{IsToken, IsName, IsKeyword, IsSymbol, unended}
use Rattle.s80_lex.specs.Number.{IsLawfulNumber}
use Rattle.s80_lex.specs.Text.{IsLongest, IsPart, AreParts, AreTokens, IsUnended, IsBadNumber, IsStuck, IsFaultAt, IsFirstFault, text_of, tokens_of}
use Rattle.s80_lex.specs.Front.{first_class}
use Rattle.s80_lex.proofs.Begins.{Begins, token_begins, number_first}
use Rattle.s80_lex.proofs.lemmas.Fronts.{split_same}
use Rattle.s80_lex.proofs.lemmas.Quotes.{one_quoted, unended_or_quoted}
use Rattle.s80_lex.proofs.lemmas.Runs.{run_longest}
use Rattle.s80_lex.proofs.lemmas.Signs.{no_selector, symbol_left}
use Rattle.s80_lex.proofs.lemmas.Standing.{BeginsPart, part_begins, part_some}
use Rattle.s80_lex.proofs.Words.{name_passes, keyword_shows}

-- one word is of one kind
name_or_keyword : (w r : List ℕ) → IsName w → IsKeyword w r → ⊥
name_or_keyword w r h k =
    let shown = keyword_shows (w ++ r) w r refl k in
    omega (arith, shown.1, run_longest is_ascii_alphanumeric w r (name_passes w h))

symbol_or_array : (w r : List ℕ) → IsSymbol w r → w ≡ 35 ∷ 40 ∷ [] → ⊥
symbol_or_array w r s e =
    no_selector OpenParen s.selector r s.selects (ap first_class (symbol_left (w ++ r) w r refl s ∙ ap (λ l. drop 1 (l ++ r)) e))

as_kind : (k m : TokenKind) (w r : List ℕ) → k ≡ m → IsToken k w r → IsToken m w r
as_kind k m w r e t = subst (λ x. IsToken x w r) e t

letter_same : (k j : TokenKind) (w r : List ℕ) → IsToken k w r → IsToken j w r → (k ≡ Name) ⊎ (k ≡ Keyword) → (j ≡ Name) ⊎ (j ≡ Keyword) → k ≡ j
letter_same k j w r h i (inl e) (inl f) = e ∙ sym f
letter_same k j w r h i (inl e) (inr f) = absurd (name_or_keyword w r (as_kind k Name w r e h) (as_kind j Keyword w r f i))
letter_same k j w r h i (inr e) (inl f) = absurd (name_or_keyword w r (as_kind j Name w r f i) (as_kind k Keyword w r e h))
letter_same k j w r h i (inr e) (inr f) = e ∙ sym f

hash_same : (k j : TokenKind) (w r : List ℕ) → IsToken k w r → IsToken j w r → (k ≡ Symbol) ⊎ (k ≡ ArrayStart) → (j ≡ Symbol) ⊎ (j ≡ ArrayStart) → k ≡ j
hash_same k j w r h i (inl e) (inl f) = e ∙ sym f
hash_same k j w r h i (inl e) (inr f) = absurd (symbol_or_array w r (as_kind k Symbol w r e h) (as_kind j ArrayStart w r f i))
hash_same k j w r h i (inr e) (inl f) = absurd (symbol_or_array w r (as_kind j Symbol w r f i) (as_kind k ArrayStart w r e h))
hash_same k j w r h i (inr e) (inr f) = e ∙ sym f

colon_or_assign : (w : List ℕ) → w ≡ 58 ∷ [] → (w ≡ 95 ∷ []) ⊎ (w ≡ 58 ∷ 61 ∷ []) → ⊥
colon_or_assign w e (inl f) = omega (arith, ap (λ l. get_or l 0 0) (sym e ∙ f))
colon_or_assign w e (inr f) = omega (arith, ap length (sym e ∙ f))

colon_same : (k j : TokenKind) (w r : List ℕ) → IsToken k w r → IsToken j w r → (k ≡ Colon) ⊎ (k ≡ Assign) → (j ≡ Colon) ⊎ (j ≡ Assign) → k ≡ j
colon_same k j w r h i (inl e) (inl f) = e ∙ sym f
colon_same k j w r h i (inl e) (inr f) = absurd (colon_or_assign w (as_kind k Colon w r e h) (as_kind j Assign w r f i))
colon_same k j w r h i (inr e) (inl f) = absurd (colon_or_assign w (as_kind j Colon w r f i) (as_kind k Assign w r e h))
colon_same k j w r h i (inr e) (inr f) = e ∙ sym f

begun_same : (c : Class) (k j : TokenKind) (w r : List ℕ) → IsToken k w r → IsToken j w r → Begins c k → Begins c j → k ≡ j
begun_same class.Letter k j w r h i e f = letter_same k j w r h i e f
begun_same class.Hash k j w r h i e f = hash_same k j w r h i e f
begun_same class.Colon k j w r h i e f = colon_same k j w r h i e f
begun_same class.Digit k j w r h i e f = e ∙ sym f
begun_same class.Special k j w r h i e f = e ∙ sym f
begun_same class.Minus k j w r h i e f = e ∙ sym f
begun_same class.Quote k j w r h i e f = e ∙ sym f
begun_same class.Dollar k j w r h i e f = e ∙ sym f
begun_same class.Underscore k j w r h i e f = e ∙ sym f
begun_same (class.Mark m) k j w r h i e f = e ∙ sym f
begun_same class.DoubleQuote k j w r h i e f = absurd e
begun_same class.Separator k j w r h i e f = absurd e
begun_same class.Other k j w r h i e f = absurd e

same_kind : (k j : TokenKind) (w r : List ℕ) → IsToken k w r → IsToken j w r → k ≡ j
same_kind k j w r h i = begun_same (first_class (w ++ r)) k j w r h i (token_begins k w r h) (token_begins j w r i)

-- the longest token is one
longest_same : (k j : TokenKind) (w r v s : List ℕ) → IsLongest k w r → IsLongest j v s → w ++ r ≡ v ++ s → (w ≡ v) × (r ≡ s)
longest_same k j w r v s a b t =
    let long : length w ≡ length v = omega (arith, a.longest j v s (sym t) b.token, b.longest k w r t a.token) in
    split_same w r v s long t

-- one part stands at a place
part_same : (p q : Part) (w r v s : List ℕ) → IsPart p w r → IsPart q v s → w ++ r ≡ v ++ s → (p ≡ q) × (w ≡ v)
part_same p q w r v s a b t = by_parts p q a b (part_begins p w r a) (subst (λ l. BeginsPart (first_class l) q) (sym t) (part_begins q v s b))
  where
    by_parts : (m n : Part) → IsPart m w r → IsPart n v s → BeginsPart (first_class (w ++ r)) m → BeginsPart (first_class (w ++ r)) n → (m ≡ n) × (w ≡ v)
    by_parts part.Separator part.Separator h i e f = (refl, (split_same w r v s (ap length h.1 ∙ sym (ap length i.1)) t).0)
    by_parts part.Separator part.Comment h i e f = absurd (cc)
    by_parts part.Separator (part.Token k) h i e f = absurd (subst (λ c. Begins c k) e f)
    by_parts part.Comment part.Separator h i e f = absurd (cc)
    by_parts part.Comment part.Comment h i e f = (refl, sym (one_quoted 34 w r v s h i (sym t)))
    by_parts part.Comment (part.Token k) h i e f = absurd (subst (λ c. Begins c k) e f)
    by_parts (part.Token k) part.Separator h i e f = absurd (subst (λ c. Begins c k) f e)
    by_parts (part.Token k) part.Comment h i e f = absurd (subst (λ c. Begins c k) f e)
    by_parts (part.Token k) (part.Token j) h i e f =
        let same = longest_same k j w r v s h.0 i.0 t in
        let moved : IsToken j w r = subst (λ l. IsToken j l r) (sym same.0) (subst (IsToken j v) (sym same.1) i.0.token) in
        (ap part.Token (same_kind k j w r h.0.token moved), same.0)

pub parts_same : (ps qs : List (Part × List ℕ)) (rest left : List ℕ) → AreParts ps rest → AreParts qs left → IsStuck rest → IsStuck left → text_of ps ++ rest ≡ text_of qs ++ left → (ps ≡ qs) × (rest ≡ left)
parts_same [] [] rest left a b x y t = (refl, t)
parts_same [] (q ∷ qs) rest left a b x y t = absurd (x q.0 q.1 (text_of qs ++ left) (sym (append_assoc q.1 (text_of qs) left) ∙ sym t) b.0)
parts_same (p ∷ ps) [] rest left a b x y t = absurd (y p.0 p.1 (text_of ps ++ rest) (sym (append_assoc p.1 (text_of ps) rest) ∙ t) a.0)
parts_same (p ∷ ps) (q ∷ qs) rest left a b x y t =
    let s : p.1 ++ (text_of ps ++ rest) ≡ q.1 ++ (text_of qs ++ left) = sym (append_assoc p.1 (text_of ps) rest) ∙ t ∙ append_assoc q.1 (text_of qs) left in
    let first = part_same p.0 q.0 p.1 (text_of ps ++ rest) q.1 (text_of qs ++ left) a.0 b.0 s in
    let more = parts_same ps qs rest left a.1 b.1 x y (split_same p.1 (text_of ps ++ rest) q.1 (text_of qs ++ left) (ap length first.1) s).1 in
    (ap (λ (z : Part). (z, p.1) ∷ ps) first.0 ∙ ap (λ (z : List ℕ). (q.0, z) ∷ ps) first.1 ∙ ap (λ (z : List (Part × List ℕ)). q ∷ z) more.0, more.1)

-- no part stands at the end, nor at a fault
nil_stuck : IsStuck []
nil_stuck p w r t h = omega (arith, part_some p w r h, ap length t, length-append w r)

-- what an unended text begins with
abbrev IsOpen : Class → Type 0
IsOpen class.Quote = Unit {0}
IsOpen class.DoubleQuote = Unit {0}
IsOpen class.Dollar = Unit {0}
IsOpen _ = ⊥

unended_first : (rest : List ℕ) → IsUnended rest → IsOpen (first_class rest)
unended_first rest (inl h) = elim h.1 [
  | inl e ↦ subst (λ l. IsOpen (first_class l)) (sym e) tt
  | inr e ↦ subst (λ l. IsOpen (first_class l)) (sym e) tt
]
unended_first rest (inr e) = subst (λ l. IsOpen (first_class l)) (sym e) tt

quote_stuck : (q : ℕ) (text rest : List ℕ) → (q ≡ 39) ⊎ (q ≡ 34) → rest ≡ unended q text → IsStuck rest
quote_stuck q text rest which e p w r t h = by_quote which
  where
    begins : BeginsPart (class_of q) p
    begins = subst (λ l. BeginsPart (first_class l) p) (t ∙ e) (part_begins p w r h)

    by_part : (m : Part) → IsPart m w r → BeginsPart (class_of q) m → (q ≡ 39) ⊎ (q ≡ 34) → ⊥
    by_part part.Separator i b (inl f) = let c : class.Quote ≡ class.Separator = ap class_of (sym f) ∙ b in cc
    by_part part.Separator i b (inr f) = let c : class.DoubleQuote ≡ class.Separator = ap class_of (sym f) ∙ b in cc
    by_part part.Comment i b (inl f) = let c : class.Quote ≡ class.DoubleQuote = ap class_of (sym f) ∙ b in cc
    by_part part.Comment i b (inr f) = unended_or_quoted 34 text w r (t ∙ e ∙ ap (λ x. unended x text) f) i
    by_part (part.Token k) i b (inl f) =
        let str : k ≡ Str = subst (λ x. Begins (class_of x) k) f b in
        unended_or_quoted 39 text w r (t ∙ e ∙ ap (λ x. unended x text) f) (subst (λ x. IsToken x w r) str i.0.token)
    by_part (part.Token k) i b (inr f) = subst (λ x. Begins (class_of x) k) f b

    by_quote : (q ≡ 39) ⊎ (q ≡ 34) → ⊥
    by_quote f = by_part p h begins f

dollar_stuck : (rest : List ℕ) → rest ≡ 36 ∷ [] → IsStuck rest
dollar_stuck rest e p w r t h = by_part p h (subst (λ l. BeginsPart (first_class l) p) (t ∙ e) (part_begins p w r h))
  where
    by_part : (m : Part) → IsPart m w r → BeginsPart class.Dollar m → ⊥
    by_part part.Separator i b = cc
    by_part part.Comment i b = cc
    by_part (part.Token k) i b =
        let character : IsToken Character w r = subst (λ x. IsToken x w r) b i.0.token in
        omega (arith, ap length character.1, ap length (t ∙ e), length-append w r)

unended_stuck : (rest : List ℕ) → IsUnended rest → IsStuck rest
unended_stuck rest (inl h) = elim h.1 [
  | inl e ↦ quote_stuck 39 h.0 rest (inl refl) e
  | inr e ↦ quote_stuck 34 h.0 rest (inr refl) e
]
unended_stuck rest (inr e) = dollar_stuck rest e

number_stuck : (rest : List ℕ) → IsBadNumber rest → IsStuck rest
number_stuck rest bad p w r t h = by_part p h (subst (λ c. BeginsPart c p) (ap first_class (t ∙ bad.spelled) ∙ number_first bad.word bad.left bad.longest.token) (part_begins p w r h))
  where
    by_part : (m : Part) → IsPart m w r → BeginsPart class.Digit m → ⊥
    by_part part.Separator i b = cc
    by_part part.Comment i b = cc
    by_part (part.Token k) i b =
        let same = longest_same k Number w r bad.word bad.left i.0 bad.longest (t ∙ bad.spelled) in
        bad.unlawful (subst IsLawfulNumber same.0 (i.1 b))

fault_stuck : (f : LexFault) (place : ℕ) (rest : List ℕ) → IsFaultAt f place rest → IsStuck rest
fault_stuck cause.Memory place rest h = absurd h
fault_stuck (cause.Unended at) place rest h = unended_stuck rest h.1
fault_stuck (cause.BadByte at) place rest h = h.1.stuck
fault_stuck (cause.BadNumber at) place rest h = number_stuck rest h.1

-- two faults at one place are one
number_ends : (rest : List ℕ) → IsUnended rest → IsBadNumber rest → ⊥
number_ends rest u bad = subst IsOpen (ap first_class bad.spelled ∙ number_first bad.word bad.left bad.longest.token) (unended_first rest u)

fault_same : (f g : LexFault) (place : ℕ) (rest : List ℕ) → IsFaultAt f place rest → IsFaultAt g place rest → f ≡ g
fault_same cause.Memory g place rest h i = absurd h
fault_same (cause.Unended a) cause.Memory place rest h i = absurd i
fault_same (cause.BadByte a) cause.Memory place rest h i = absurd i
fault_same (cause.BadNumber a) cause.Memory place rest h i = absurd i
fault_same (cause.Unended a) (cause.Unended b) place rest h i = ap cause.Unended (h.0 ∙ sym i.0)
fault_same (cause.Unended a) (cause.BadByte b) place rest h i = absurd (i.1.ended h.1)
fault_same (cause.Unended a) (cause.BadNumber b) place rest h i = absurd (number_ends rest h.1 i.1)
fault_same (cause.BadByte a) (cause.Unended b) place rest h i = absurd (h.1.ended i.1)
fault_same (cause.BadByte a) (cause.BadByte b) place rest h i = ap cause.BadByte (h.0 ∙ sym i.0)
fault_same (cause.BadByte a) (cause.BadNumber b) place rest h i = absurd (h.1.lawful i.1)
fault_same (cause.BadNumber a) (cause.Unended b) place rest h i = absurd (number_ends rest i.1 h.1)
fault_same (cause.BadNumber a) (cause.BadByte b) place rest h i = absurd (i.1.lawful h.1)
fault_same (cause.BadNumber a) (cause.BadNumber b) place rest h i = ap cause.BadNumber (h.0 ∙ sym i.0)

fault_some : (f : LexFault) (place : ℕ) → IsFaultAt f place [] → ⊥
fault_some cause.Memory place h = h
fault_some (cause.Unended at) place h = unended_first [] h.1
fault_some (cause.BadByte at) place h = h.1.some refl
fault_some (cause.BadNumber at) place h = let e : class.Other ≡ class.Digit = ap first_class h.1.spelled ∙ number_first h.1.word h.1.left h.1.longest.token in cc

-- The laws.
pub one_list : (text : List ℕ) (tokens others : List Token) → AreTokens tokens text → AreTokens others text → tokens ≡ others
one_list text tokens others a b =
    let same = parts_same a.parts b.parts [] [] a.each b.each nil_stuck nil_stuck (append-nil (text_of a.parts) ∙ sym a.whole ∙ b.whole ∙ sym (append-nil (text_of b.parts))) in
    a.listed ∙ ap (tokens_of 0) same.0 ∙ sym b.listed

pub one_fault : (text : List ℕ) (f g : LexFault) → IsFirstFault f text → IsFirstFault g text → f ≡ g
one_fault text f g a b =
    let same = parts_same a.parts b.parts a.rest b.rest a.each b.each (fault_stuck f (length (text_of a.parts)) a.rest a.here) (fault_stuck g (length (text_of b.parts)) b.rest b.here) (sym a.whole ∙ b.whole) in
    fault_same f g (length (text_of b.parts)) b.rest (subst (λ ps. IsFaultAt f (length (text_of ps)) b.rest) same.0 (subst (IsFaultAt f (length (text_of a.parts))) same.1 a.here)) b.here

pub not_both : (text : List ℕ) (tokens : List Token) (f : LexFault) → AreTokens tokens text → IsFirstFault f text → ⊥
not_both text tokens f a b =
    let same = parts_same a.parts b.parts [] b.rest a.each b.each nil_stuck (fault_stuck f (length (text_of b.parts)) b.rest b.here) (append-nil (text_of a.parts) ∙ sym a.whole ∙ b.whole) in
    fault_some f (length (text_of b.parts)) (subst (IsFaultAt f (length (text_of b.parts))) (sym same.1) b.here)
