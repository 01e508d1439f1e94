-- What a colon and a hash begin.
use Rattle.std.proofs.Common.{◌≡◌, ℕ, suc, ◌+◌, ◌≤◌, ◌⊎◌, inl, inr, List, [], ◌∷◌, ◌++◌, true, false, None, take, drop, length, ap, sym, ◌∙◌, subst, arith, add-one}
use Rattle.std.proofs.lemmas.Bool.{eqb-true}
use Rattle.s80_lex.specs.declared.class.Class.TheVariants as class
use Rattle.s80_lex.specs.declared.token.TokenKind.{TokenKind}
use Rattle.s80_lex.specs.declared.token.TokenKind.TheVariants.{Assign, Symbol, ArrayStart, Colon}
use Rattle.s80_lex.specs.Spelling.{IsToken, IsOperator, IsSelector, IsSymbol, begins_with}
use Rattle.s80_lex.specs.Front.{first_class, IsMost, Lacks, Takes, FindsKind}
use Rattle.s80_lex.proofs.Begins.{Begins, token_begins}
use Rattle.s80_lex.proofs.Classes.{hash, colon}
use Rattle.s80_lex.proofs.Keywords.{keywords_first}
use Rattle.s80_lex.proofs.lemmas.Selectors.{binary_first}
use Rattle.s80_lex.proofs.lemmas.Taken.{takes}
use Rattle.s80_lex.proofs.Words.{name_first}

-- the byte that comes next
next_is : (b : ℕ) (text : List ℕ) → begins_with b text ≡ true → text ≡ b ∷ drop 1 text
next_is b [] e = absurd (cc)
next_is b (c ∷ text) e = ap (λ d. d ∷ text) (eqb-true c b e)

assign_here : (text : List ℕ) → first_class text ≡ class.Colon → begins_with 61 (drop 1 text) ≡ true → text ≡ 58 ∷ 61 ∷ drop 2 text
assign_here [] e f = absurd (cc)
assign_here (b ∷ []) e f = absurd (cc)
assign_here (b ∷ c ∷ text) e f = ap (λ d. d ∷ c ∷ text) (colon b e) ∙ ap (λ d. 58 ∷ d ∷ text) (eqb-true c 61 f)

pub assign_takes : (text : List ℕ) → first_class text ≡ class.Colon → begins_with 61 (drop 1 text) ≡ true → Takes Assign 2 text
assign_takes text e f =
    let here : text ≡ 58 ∷ 61 ∷ drop 2 text = assign_here text e f in
    let most : IsMost (IsToken Assign) 2 text = record {
      fits = omega (arith, ap length here);
      here = inr (ap (take 2) here);
      longest = assign;
    } in
    takes Assign 2 text most (λ k b w r t h. others k (subst (λ c. Begins c k) e b) w r t h)
  where
    assign : (w r : List ℕ) → w ++ r ≡ text → IsToken Assign w r → length w ≤ 2
    assign w r t (inl h) = omega (arith, ap length h)
    assign w r t (inr h) = omega (arith, ap length h)

    others : (k : TokenKind) → Begins class.Colon k → (w r : List ℕ) → w ++ r ≡ text → IsToken k w r → length w ≤ 2
    others k (inl i) w r t h = let one : w ≡ 58 ∷ [] = subst (λ j. IsToken j w r) i h in omega (arith, ap length one)
    others k (inr i) w r t h = assign w r t (subst (λ j. IsToken j w r) i h)

pub colon_takes : (text : List ℕ) → first_class text ≡ class.Colon → begins_with 61 (drop 1 text) ≡ false → Takes Colon 1 text
colon_takes [] e f = absurd (cc)
colon_takes (b ∷ text) e f =
    let most : IsMost (IsToken Colon) 1 (b ∷ text) = record {
      fits = omega arith;
      here = ap (λ c. c ∷ []) (colon b e);
      longest = λ w r t h. omega (arith, ap length h);
    } in
    takes Colon 1 (b ∷ text) most (λ k i w r t h. others k (subst (λ c. Begins c k) e i) w r t h)
  where
    assign : (w r : List ℕ) → w ++ r ≡ b ∷ text → IsToken Assign w r → length w ≤ 1
    assign w r t (inl h) = omega (arith, ap length h)
    assign w r t (inr h) =
        let s : 58 ∷ 61 ∷ r ≡ b ∷ text = ap (λ l. l ++ r) (sym h) ∙ t in
        let yes : true ≡ begins_with 61 text = ap (λ l. begins_with 61 (drop 1 l)) s in
        absurd (cc)

    others : (k : TokenKind) → Begins class.Colon k → (w r : List ℕ) → w ++ r ≡ b ∷ text → IsToken k w r → length w ≤ 1
    others k (inl i) w r t h = let one : w ≡ 58 ∷ [] = subst (λ j. IsToken j w r) i h in omega (arith, ap length one)
    others k (inr i) w r t h = assign w r t (subst (λ j. IsToken j w r) i h)

-- a selector begins with a letter or an operator
selector_first : (w r : List ℕ) → IsSelector w r → (first_class (w ++ r) ≡ class.Letter) ⊎ IsOperator (first_class (w ++ r))
selector_first w r (inl h) = inl (keywords_first h.joined.names w r h.joined.some h.joined.named h.joined.spelled)
selector_first w r (inr (inl h)) = inl (name_first w r h)
selector_first w r (inr (inr h)) = inr (binary_first w r h)

pub no_selector : (m : TokenKind) (w r : List ℕ) → IsSelector w r → first_class (w ++ r) ≡ class.Mark m → ⊥
no_selector m w r s e = apart (selector_first w r s)
  where
    apart : (first_class (w ++ r) ≡ class.Letter) ⊎ IsOperator (first_class (w ++ r)) → ⊥
    apart (inl h) = cc
    apart (inr h) = subst IsOperator e h

-- what stands behind a hash
behind_hash : (text : List ℕ) → first_class text ≡ class.Hash → text ≡ 35 ∷ drop 1 text
behind_hash [] e = absurd (cc)
behind_hash (b ∷ text) e = ap (λ c. c ∷ text) (hash b e)

pub symbol_left : (text : List ℕ) (w r : List ℕ) → w ++ r ≡ text → (s : IsSymbol w r) → s.selector ++ r ≡ drop 1 text
symbol_left text w r t s = ap (drop 1) (ap (λ l. l ++ r) (sym s.spelled) ∙ t)

array_left : (text : List ℕ) (w r : List ℕ) → w ++ r ≡ text → IsToken ArrayStart w r → begins_with 40 (drop 1 text) ≡ true
array_left text w r t h = sym (ap (λ l. begins_with 40 (drop 1 l)) (ap (λ l. l ++ r) (sym h) ∙ t))

pub array_takes : (text : List ℕ) → first_class text ≡ class.Hash → begins_with 40 (drop 1 text) ≡ true → Takes ArrayStart 2 text
array_takes text e f =
    let next : drop 1 text ≡ 40 ∷ drop 1 (drop 1 text) = next_is 40 (drop 1 text) f in
    let here : text ≡ 35 ∷ 40 ∷ drop 1 (drop 1 text) = behind_hash text e ∙ ap (λ l. 35 ∷ l) next in
    let most : IsMost (IsToken ArrayStart) 2 text = record {
      fits = omega (arith, ap length here);
      here = ap (take 2) here;
      longest = λ w r t h. omega (arith, ap length h);
    } in
    takes ArrayStart 2 text most (λ k b w r t h. others next k (subst (λ c. Begins c k) e b) w r t h)
  where
    others : drop 1 text ≡ 40 ∷ drop 1 (drop 1 text) → (k : TokenKind) → Begins class.Hash k → (w r : List ℕ) → w ++ r ≡ text → IsToken k w r → length w ≤ 2
    others next k (inl i) w r t h =
        let s : IsSymbol w r = subst (λ j. IsToken j w r) i h in
        absurd (no_selector _ s.selector r s.selects (ap first_class (symbol_left text w r t s ∙ next)))
    others next k (inr i) w r t h = let two : w ≡ 35 ∷ 40 ∷ [] = subst (λ j. IsToken j w r) i h in omega (arith, ap length two)

pub symbol_takes : (n : ℕ) (text : List ℕ) → first_class text ≡ class.Hash → begins_with 40 (drop 1 text) ≡ false → IsMost IsSelector n (drop 1 text) → Takes Symbol (n + 1) text
symbol_takes n text e f m =
    let here : text ≡ 35 ∷ drop 1 text = behind_hash text e in
    let most : IsMost (IsToken Symbol) (n + 1) text = record {
      fits = omega (arith, m.fits, ap length here);
      here = record {
        selector = take n (drop 1 text);
        spelled = ap (λ k. take k text) (add-one n) ∙ ap (take (suc n)) here;
        selects = subst (λ l. IsSelector (take n (drop 1 text)) l) (sym (ap (λ k. drop k text) (add-one n) ∙ ap (drop (suc n)) here)) m.here;
      };
      longest = symbol;
    } in
    takes Symbol (n + 1) text most (λ k b w r t h. others k (subst (λ c. Begins c k) e b) w r t h)
  where
    symbol : (w r : List ℕ) → w ++ r ≡ text → IsSymbol w r → length w ≤ n + 1
    symbol w r t s = omega (arith, ap length s.spelled, m.longest s.selector r (symbol_left text w r t s) s.selects)

    others : (k : TokenKind) → Begins class.Hash k → (w r : List ℕ) → w ++ r ≡ text → IsToken k w r → length w ≤ n + 1
    others k (inl i) w r t h = symbol w r t (subst (λ j. IsToken j w r) i h)
    others k (inr i) w r t h = let yes : begins_with 40 (drop 1 text) ≡ true = array_left text w r t (subst (λ j. IsToken j w r) i h) in absurd (cc)

pub no_symbol : (text : List ℕ) → first_class text ≡ class.Hash → begins_with 40 (drop 1 text) ≡ false → Lacks IsSelector (drop 1 text) → FindsKind None text
no_symbol text e f none k w r t h = others (subst (λ c. Begins c k) e (subst (λ l. Begins (first_class l) k) t (token_begins k w r h)))
  where
    others : Begins class.Hash k → ⊥
    others (inl i) = let s : IsSymbol w r = subst (λ j. IsToken j w r) i h in none s.selector r (symbol_left text w r t s) s.selects
    others (inr i) = let yes : begins_with 40 (drop 1 text) ≡ true = array_left text w r t (subst (λ j. IsToken j w r) i h) in cc
