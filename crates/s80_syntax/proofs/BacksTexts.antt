-- The rows of blocks and of a method's head read backwards.
use Rattle.std.proofs.Common.{subst, ◌≡◌, ℕ, List, [], ◌∷◌, ◌++◌, Bool, true, false, refl, sym, append_assoc, append-nil, inl, inr}
use Rattle.s80_lex.specs.declared.token.TokenKind.{TokenKind}
use Rattle.s80_lex.specs.declared.token.TokenKind.TheVariants as kind
use Rattle.s80_tree.specs.declared.name.NameAt.{NameAt}
use Rattle.s80_tree.specs.Tree.{BodyTree, no_stmts, stmts}
use Rattle.s80_syntax.specs.Lexeme.{Lexeme, Lexemes}
use Rattle.s80_syntax.specs.Grammar.{IsSign, IsBar, IsDeclared, IsBarBetween, IsBody, AreTemporaries, IsHead}
use Rattle.s80_syntax.specs.Word.{Names, names_in, is_word, is_minus, is_reserved, is_primitive_number, bar, less, greater, primitive_word as primitive_bytes}
use Rattle.s80_syntax.specs.Limits.{home_assigns, block_assigns, IsLawfulBody}
use Rattle.s80_syntax.specs.Stack.{Symbol, Stack, Action, Pushes, Opens, Assigns, Pops, Refuses, takes, level, assigns, above, body_takes, declared_takes, sign_takes, colon_takes, keyword_takes, number_takes, word_takes, pattern_takes, after_bar, primitive_then, home_takes, head_takes, method_start, binary_parameter, keyword_parameter, after_keyword, after_pattern, optional_temporaries, temporaries, after_temporaries, primitive_word, primitive_number, primitive_end, home_scope, block_scope, body, block_start, parameter, after_parameter}
use Rattle.s80_syntax.proofs.Words.{word_bytes, primitive_is}
use Rattle.s80_syntax.proofs.Means.{Means, MeansBody, MeansHead, MaybePrimitive, Derives, name_of, is_declared, no_keywords, no_parameters}
use Rattle.s80_syntax.proofs.BacksExprs.{Back, IsNoSign, back_body}

-- a declared name, where it is taken
back_declared : (strict : Bool) (a : Symbol) (l : Lexeme) (p : Stack) (other : Action) (d : TokenKind) (r : Bool) → l.kind ≡ d → is_reserved l.bytes ≡ r → (((us : Lexemes) → IsDeclared (name_of l) (l ∷ us) us) → Back strict a l (Pushes p)) → Back strict a l other → Back strict a l (declared_takes d r p other)
back_declared strict a l p other kind.Name false e f h g = h (λ us. is_declared l us e f)
back_declared strict a l p other _ r e f h g = g

-- a sign, where it is taken
back_sign : (strict : Bool) (a : Symbol) (l : Lexeme) (word : List ℕ) (p : Stack) (other : Action) (d : TokenKind) (b : Bool) → l.kind ≡ d → is_word word l ≡ b → (((us : Lexemes) → IsSign kind.Binary word (l ∷ us) us) → Back strict a l (Pushes p)) → Back strict a l other → Back strict a l (sign_takes d b p other)
back_sign strict a l word p other kind.Binary true e f h g = h (λ us. (l, (refl, e), word_bytes word l f))
back_sign strict a l word p other _ b e f h g = g

back_colon : (strict : Bool) (a : Symbol) (l : Lexeme) (p : Stack) (other : Action) (d : TokenKind) → l.kind ≡ d → (l.kind ≡ kind.Colon → Back strict a l (Pushes p)) → Back strict a l other → Back strict a l (colon_takes d p other)
back_colon strict a l p other kind.Colon e h g = h e
back_colon strict a l p other _ e h g = g

back_keyword : (strict : Bool) (a : Symbol) (l : Lexeme) (p : Stack) (other : Action) (d : TokenKind) → l.kind ≡ d → (l.kind ≡ kind.Keyword → Back strict a l (Pushes p)) → Back strict a l other → Back strict a l (keyword_takes d p other)
back_keyword strict a l p other kind.Keyword e h g = h e
back_keyword strict a l p other _ e h g = g

-- names so far, one more, and others
seen_more : (P : Names → Type 0) (seen : Names) (word : List ℕ) (ns : Names) → P ((seen ++ word ∷ []) ++ ns) → P (seen ++ word ∷ ns)
seen_more P seen word ns h = subst P (append_assoc seen (word ∷ []) ns) h

seen_all : (P : Names → Type 0) (seen : Names) → P seen → P (seen ++ [])
seen_all P seen h = subst P (sym (append-nil seen)) h

-- without parameters a block is a body
block_of_body : (strict : Bool) (l : Lexeme) (x : Action) → IsNoSign x → Back strict body l x → Back strict block_start l x
block_of_body strict l (Pushes p) i h = λ k us d. let r = h k us d in (r.0, ([], r.1.0, l ∷ us, l ∷ us, refl, refl, r.1.1, r.1.2), r.2)
block_of_body strict l (Opens p) i h = λ k us o d. let r = h k us o d in (r.0, ([], r.1.0, l ∷ us, l ∷ us, refl, refl, r.1.1, r.1.2), r.2)
block_of_body strict l (Assigns n) i h = absurd i
block_of_body strict l Pops i h = λ depth names us. let r = h depth names us in ([], r.0, us, us, refl, refl, r.1, r.2)
block_of_body strict l Refuses i h = tt

body_no_sign : (d : TokenKind) (b : Bool) (l : Lexeme) → IsNoSign (body_takes d b l)
body_no_sign kind.Binary true l = tt
body_no_sign kind.Binary false l = tt
body_no_sign _ b l = tt

bar_between_any : (n : NameAt) (ns : List NameAt) (ss : BodyTree) (a b : Lexemes) → ((n : NameAt) → IsBarBetween (n ∷ []) ss a b) → IsBarBetween (n ∷ ns) ss a b
bar_between_any n ns no_stmts a b h = h n
bar_between_any n ns (stmts r e ss) a b h = h n

any_bar : (ss : BodyTree) (l : Lexeme) (us : Lexemes) → IsBar (l ∷ us) us → (n : NameAt) → IsBarBetween (n ∷ []) ss (l ∷ us) us
any_bar no_stmts l us h n = inl h
any_bar (stmts r x ss) l us h n = h

pub back_block : (strict : Bool) (l : Lexeme) → Back strict block_start l (takes block_start l)
back_block strict l =
    back_colon strict block_start l (parameter [] ∷ []) (body_takes l.kind (is_minus l) l) l.kind refl
    (λ e k us (x, (n, a, hn, (ps, ss, b, c, hp, hb, hs, w)), g). (x, (n ∷ ps, ss, b, c, (us, a, (l, (refl, e)), hn, hp), bar_between_any n ps ss b c hb, hs, w), g))
    (block_of_body strict l (body_takes l.kind (is_minus l) l) (body_no_sign l.kind (is_minus l) l) (back_body strict l l.kind (is_minus l) refl refl))

pub back_parameter : (strict : Bool) (ns : Names) (l : Lexeme) → Back strict (parameter ns) l (takes (parameter ns) l)
back_parameter strict ns l =
    back_declared strict (parameter ns) l (after_parameter (ns ++ l.bytes ∷ []) ∷ []) Refuses l.kind (is_reserved l.bytes) refl refl
    (λ h k us (x, m, g). (x, (name_of l, us, h us, m), g)) tt

pub back_parameters : (strict : Bool) (ns : Names) (l : Lexeme) → Back strict (after_parameter ns) l (takes (after_parameter ns) l)
back_parameters strict ns l =
    back_colon strict (after_parameter ns) l (parameter ns ∷ []) (sign_takes l.kind (is_word bar l) (body ∷ block_scope ns ∷ []) Pops) l.kind refl
    (λ e k us (x, (n, a, hn, (ps, ss, b, c, hp, hb, hs, w)), g).
    (x, (n ∷ ps, ss, b, c, (us, a, (l, (refl, e)), hn, hp), hb, hs, seen_more (λ z. IsLawfulBody strict (level k) (block_assigns z (assigns k)) ss) ns n.name (names_in ps) w), g))
    (back_sign strict (after_parameter ns) l bar (body ∷ block_scope ns ∷ []) Pops l.kind (is_word bar l) refl refl
    (λ h k us (x, (ss, hs, w), (y, i, g)).
    (y, ([], ss, l ∷ us, us, refl, any_bar ss l us (h us), subst (IsBody ss us) i hs, seen_all (λ z. IsLawfulBody strict (level k) (block_assigns z (assigns k)) ss) ns w), g))
    (λ depth names us. no_parameters strict ns depth names us))

-- where a method's body follows
home_of_body : (strict : Bool) (a : Symbol) (ps ns : Names) (l : Lexeme) → ((depth : ℕ) (names : List ℕ → Bool) (ts rest : Lexemes) → MeansBody strict depth (home_assigns ps ns) ts rest → Means strict a depth names ts rest) → (x : Action) → IsNoSign x → Back strict body l x → Back strict a l (above x (home_scope ps ns ∷ []))
home_of_body strict a ps ns l f (Pushes p) i h = λ k us d.
    let (x, m, (y, e, g)) = h (home_scope ps ns ∷ k) us (subst (λ z. Derives strict z us) (append_assoc p (home_scope ps ns ∷ []) k) d) in
    (y, f (level k) (assigns k) (l ∷ us) y (subst (MeansBody strict (level k) (home_assigns ps ns) (l ∷ us)) e m), g)
home_of_body strict a ps ns l f (Opens p) i h = λ k us o d.
    let (x, m, (y, e, g)) = h (home_scope ps ns ∷ k) us o (subst (λ z. Derives strict z us) (append_assoc p (home_scope ps ns ∷ []) k) d) in
    (y, f (level k) (assigns k) (l ∷ us) y (subst (MeansBody strict (level k) (home_assigns ps ns) (l ∷ us)) e m), g)
home_of_body strict a ps ns l f (Assigns n) i h = absurd i
home_of_body strict a ps ns l f Pops i h = λ depth names us. f depth names us us (h depth (home_assigns ps ns) us)
home_of_body strict a ps ns l f Refuses i h = tt

back_home : (strict : Bool) (a : Symbol) (ps ns : Names) (l : Lexeme) → ((depth : ℕ) (names : List ℕ → Bool) (ts rest : Lexemes) → MeansBody strict depth (home_assigns ps ns) ts rest → Means strict a depth names ts rest) → Back strict a l (home_takes ps ns l)
back_home strict a ps ns l f = home_of_body strict a ps ns l f (body_takes l.kind (is_minus l) l) (body_no_sign l.kind (is_minus l) l) (back_body strict l l.kind (is_minus l) refl refl)

pub back_optional : (strict : Bool) (ps : Names) (l : Lexeme) → Back strict (optional_temporaries ps) l (takes (optional_temporaries ps) l)
back_optional strict ps l =
    back_sign strict (optional_temporaries ps) l bar (temporaries ps [] false ∷ []) (home_takes ps [] l) l.kind (is_word bar l) refl refl
    (λ h k us (x, (ns, n, ss, a, b, c, hd, hb, (z, e), hs, w), g). (x, (ns, ss, c, inl (us, a, h us, hd, subst (IsBar a) e hb), hs, w), g))
    (back_home strict (optional_temporaries ps) ps [] l (λ depth names ts rest (ss, h, w). ([], ss, ts, inr (refl, refl), h, w)))

head_with : (l : Lexeme) (us a b c : Lexemes) (ns : List NameAt) (n : ℕ) → AreTemporaries ns (l ∷ us) b → MaybePrimitive true n b c → IsHead ns n (l ∷ us) c
head_with l us a b c ns n h (inl p) = inr (inr (b, h, p))
head_with l us a b c ns n h (inr (z, e)) = inl (z, inl (subst (AreTemporaries ns (l ∷ us)) e h))

back_head : (strict : Bool) (ps : Names) (l : Lexeme) → Back strict (after_pattern ps) l (head_takes ps l)
back_head strict ps l =
    back_sign strict (after_pattern ps) l less (primitive_then (optional_temporaries ps ∷ [])) (sign_takes l.kind (is_word bar l) (temporaries ps [] true ∷ []) (home_takes ps [] l)) l.kind (is_word less l) refl refl
    (λ h k us (x, word, (y, (num, n, tk, v, lo, hi), (z, last, (q, (ns, ss, a, ht, hs, w), g)))).
    (q, (ns, n, ss, a, inr (inl (z, (num, us, x, y, h us, word, tk, v, lo, hi, last), ht)), hs, w), g))
    (back_sign strict (after_pattern ps) l bar (temporaries ps [] true ∷ []) (home_takes ps [] l) l.kind (is_word bar l) refl refl
    (λ h k us (x, (ns, n, ss, a, b, c, hd, hb, mp, hs, w), g). (x, (ns, n, ss, c, head_with l us a b c ns n (us, a, h us, hd, hb) mp, hs, w), g))
    (back_home strict (after_pattern ps) ps [] l (λ depth names ts rest (ss, h, w). ([], 0, ss, ts, inl (refl, inr (refl, refl)), h, w))))

pub back_pattern : (strict : Bool) (ps : Names) (l : Lexeme) → Back strict (after_pattern ps) l (takes (after_pattern ps) l)
back_pattern strict ps l = back_head strict ps l

after_bar_back : (strict : Bool) (ps ns : Names) (primitive : Bool) (l : Lexeme) → ((us : Lexemes) → IsBar (l ∷ us) us) → Back strict (temporaries ps ns primitive) l (Pushes (after_bar primitive ps ns))
after_bar_back strict ps ns true l h = λ k us (x, (n, ss, a, mp, hs, w), g).
    (x, ([], n, ss, l ∷ us, us, a, refl, h us, mp, hs, seen_all (λ z. IsLawfulBody strict (level k) (home_assigns ps z) ss) ns w), g)
after_bar_back strict ps ns false l h = λ k us (x, (ss, hs, w), (y, i, g)).
    (y, ([], 0, ss, l ∷ us, us, us, refl, h us, (refl, refl), subst (IsBody ss us) i hs, seen_all (λ z. IsLawfulBody strict (level k) (home_assigns ps z) ss) ns w), g)

pub back_temporaries : (strict : Bool) (ps ns : Names) (primitive : Bool) (l : Lexeme) → Back strict (temporaries ps ns primitive) l (takes (temporaries ps ns primitive) l)
back_temporaries strict ps ns primitive l =
    back_declared strict (temporaries ps ns primitive) l (temporaries ps (ns ++ l.bytes ∷ []) primitive ∷ []) (sign_takes l.kind (is_word bar l) (after_bar primitive ps ns) Refuses) l.kind (is_reserved l.bytes) refl refl
    (λ h k us (x, (more, n, ss, a, b, c, hd, hb, mp, hs, w), g).
    (x, (name_of l ∷ more, n, ss, a, b, c, (us, h us, hd), hb, mp, hs, seen_more (λ z. IsLawfulBody strict (level k) (home_assigns ps z) ss) ns l.bytes (names_in more) w), g))
    (back_sign strict (temporaries ps ns primitive) l bar (after_bar primitive ps ns) Refuses l.kind (is_word bar l) refl refl (after_bar_back strict ps ns primitive l) tt)

pub back_behind : (strict : Bool) (ps ns : Names) (l : Lexeme) → Back strict (after_temporaries ps ns) l (takes (after_temporaries ps ns) l)
back_behind strict ps ns l =
    back_sign strict (after_temporaries ps ns) l less (primitive_then (body ∷ home_scope ps ns ∷ [])) (home_takes ps ns l) l.kind (is_word less l) refl refl
    (λ h k us (x, word, (y, (num, n, tk, v, lo, hi), (z, last, (q, (ss, hs, w), (r, i, g))))).
    (r, (n, ss, z, inl (num, us, x, y, h us, word, tk, v, lo, hi, last), subst (IsBody ss z) i hs, w), g))
    (back_home strict (after_temporaries ps ns) ps ns l (λ depth names ts rest (ss, h, w). (0, ss, ts, inr (refl, refl), h, w)))

keywords_of_head : (strict : Bool) (ps : Names) (l : Lexeme) (x : Action) → IsNoSign x → Back strict (after_pattern ps) l x → Back strict (after_keyword ps) l x
keywords_of_head strict ps l (Pushes p) i h = λ k us d. let r = h k us d in (r.0, ([], [], l ∷ us, (refl, refl), seen_all (λ z. MeansHead strict z (level k) (l ∷ us) r.0) ps r.1), r.2)
keywords_of_head strict ps l (Opens p) i h = λ k us o d. let r = h k us o d in (r.0, ([], [], l ∷ us, (refl, refl), seen_all (λ z. MeansHead strict z (level k) (l ∷ us) r.0) ps r.1), r.2)
keywords_of_head strict ps l (Assigns n) i h = absurd i
keywords_of_head strict ps l Pops i h = λ depth names us. no_keywords strict ps depth us
keywords_of_head strict ps l Refuses i h = tt

sign_no_sign : (d : TokenKind) (b : Bool) (p : Stack) (other : Action) → IsNoSign other → IsNoSign (sign_takes d b p other)
sign_no_sign kind.Binary true p other i = tt
sign_no_sign kind.Binary false p other i = i
sign_no_sign _ b p other i = i

above_no_sign : (x : Action) (m : Stack) → IsNoSign x → IsNoSign (above x m)
above_no_sign (Assigns n) m i = absurd i
above_no_sign (Pushes p) m i = tt
above_no_sign (Opens p) m i = tt
above_no_sign Pops m i = tt
above_no_sign Refuses m i = tt

head_no_sign : (ps : Names) (l : Lexeme) → IsNoSign (head_takes ps l)
head_no_sign ps l =
    sign_no_sign l.kind (is_word less l) (primitive_then (optional_temporaries ps ∷ [])) (sign_takes l.kind (is_word bar l) (temporaries ps [] true ∷ []) (home_takes ps [] l))
    (sign_no_sign l.kind (is_word bar l) (temporaries ps [] true ∷ []) (home_takes ps [] l) (above_no_sign (body_takes l.kind (is_minus l) l) (home_scope ps [] ∷ []) (body_no_sign l.kind (is_minus l) l)))

pub back_keywords : (strict : Bool) (ps : Names) (l : Lexeme) → Back strict (after_keyword ps) l (takes (after_keyword ps) l)
back_keywords strict ps l =
    back_keyword strict (after_keyword ps) l (keyword_parameter ps ∷ []) (head_takes ps l) l.kind refl
    (λ e k us (x, (q, a, hq, (qs, s, b, hk, m)), g).
    (x, (q ∷ qs, l.bytes ++ s, b, (l, us, a, s, (refl, e), refl, hq, hk), seen_more (λ z. MeansHead strict z (level k) b x) ps q.name (names_in qs) m), g))
    (keywords_of_head strict ps l (head_takes ps l) (head_no_sign ps l) (back_head strict ps l))

pub back_keyword_parameter : (strict : Bool) (ps : Names) (l : Lexeme) → Back strict (keyword_parameter ps) l (takes (keyword_parameter ps) l)
back_keyword_parameter strict ps l =
    back_declared strict (keyword_parameter ps) l (after_keyword (ps ++ l.bytes ∷ []) ∷ []) Refuses l.kind (is_reserved l.bytes) refl refl
    (λ h k us (x, m, g). (x, (name_of l, us, h us, m), g)) tt

pub back_binary_parameter : (strict : Bool) (l : Lexeme) → Back strict binary_parameter l (takes binary_parameter l)
back_binary_parameter strict l =
    back_declared strict binary_parameter l (after_pattern (l.bytes ∷ []) ∷ []) Refuses l.kind (is_reserved l.bytes) refl refl
    (λ h k us (x, m, g). (x, (name_of l, us, h us, m), g)) tt

pub back_start : (strict : Bool) (l : Lexeme) (d : TokenKind) → l.kind ≡ d → Back strict method_start l (pattern_takes d)
back_start strict l kind.Name e = λ k us (x, m, g). (x, (l.bytes, [], us, (l, (refl, e), refl), m), g)
back_start strict l kind.Binary e = λ k us (x, (q, a, hq, m), g). (x, (l.bytes, q ∷ [], a, inl (l, us, (refl, e), refl, hq, refl), m), g)
back_start strict l kind.Keyword e = λ k us (x, (q, a, hq, (qs, s, b, hk, m)), g). (x, (l.bytes ++ s, q ∷ qs, b, inr (l, us, a, s, (refl, e), refl, hq, hk), m), g)
back_start strict l _ e = tt

pub back_word : (strict : Bool) (l : Lexeme) (d : TokenKind) (b : Bool) → l.kind ≡ d → is_word primitive_bytes l ≡ b → Back strict primitive_word l (word_takes d b)
back_word strict l kind.Keyword true e f = λ k us g. (us, (l, (refl, e), word_bytes primitive_bytes l f), g)
back_word strict l _ b e f = tt

pub back_number : (strict : Bool) (l : Lexeme) (d : TokenKind) (b : Bool) → l.kind ≡ d → is_primitive_number l ≡ b → Back strict primitive_number l (number_takes d b)
back_number strict l kind.Number true e f = λ k us g. let n = primitive_is l f in (us, (l, n.0, (refl, e), n.1.0, n.1.1, n.1.2), g)
back_number strict l _ b e f = tt

pub back_end : (strict : Bool) (l : Lexeme) → Back strict primitive_end l (takes primitive_end l)
back_end strict l = back_sign strict primitive_end l greater [] Refuses l.kind (is_word greater l) refl refl (λ h k us g. (us, h us, g)) tt
