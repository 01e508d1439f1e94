-- Entries in the order in which they come first.
use Rattle.std.proofs.Common.{◌≡◌, zero, suc, ◌≤◌, List, [], ◌∷◌, ◌++◌, length, refl, sym, ap, subst, ◌∙◌, arith, append_assoc, inl, inr}
use Rattle.std.specs.List.{Contains}
use Rattle.std.proofs.lemmas.List.{append-nil}
use Rattle.std.proofs.lemmas.List.Elements.{Contains-push, Contains-append_left, Contains-append_right, Contains-append_cases}
use Rattle.std.proofs.lemmas.Map.Made.{Contains-tail}
use Rattle.s80_code.specs.Entries.{EntryTree}
use Rattle.s80_compile.specs.Compiles.{AreFirsts}
use Rattle.s80_compile.specs.Emitted.{HasRoom}

pub firsts_join : (seen v w a b : List EntryTree) → AreFirsts seen v a → AreFirsts (seen ++ a) w b → AreFirsts seen (v ++ w) (a ++ b)
firsts_join seen [] w a b f g =
    subst (λ (x : List EntryTree). AreFirsts seen w (x ++ b)) (sym f)
    (subst (λ (s : List EntryTree). AreFirsts s w b) (ap (λ x. seen ++ x) f ∙ append-nil seen) g)
firsts_join seen (e ∷ es) w a b (inl (there, more)) g = inl (there, firsts_join seen es w a b more g)
firsts_join seen (e ∷ es) w a b (inr (fresh, (rest, is, more))) g =
    inr (
      fresh,
      (
        rest ++ b,
        ap (λ x. x ++ b) is,
        firsts_join (seen ++ e ∷ []) es w rest b more
            (subst (λ (s : List EntryTree). AreFirsts s w b) (ap (λ x. seen ++ x) is ∙ sym (append_assoc seen (e ∷ []) rest)) g),
      ),
    )

-- what a part leaves room for
pub room_first : (frame v w : List EntryTree) → HasRoom frame (v ++ w) → HasRoom frame v
room_first frame v w r = record { allowed = r.allowed; few = r.few; before = r.before; once = r.once; old = r.old; new = λ y c. r.new y (Contains-append_left v w y c) }

pub room_second : (frame v w a : List EntryTree) → HasRoom frame (v ++ w) → AreFirsts frame v a → HasRoom (frame ++ a) w
room_second frame v w a r f =
    record {
      allowed = r.allowed;
      few = r.few;
      before = r.before ++ v;
      once = firsts_join [] r.before v frame a r.once f;
      old = λ y c. elim (Contains-append_cases r.before v y c) [ inl early ↦ r.old y early | inr late ↦ r.new y (Contains-append_left v w y late) ];
      new = λ y c. r.new y (Contains-append_right v w y c);
    }

-- a list without one of its members
removed : (xs : List EntryTree) (x : EntryTree) → Contains xs x → (less : List EntryTree) × (length xs ≡ suc (length less)) × ((y : EntryTree) → (x ≡ y → ⊥) → Contains xs y → Contains less y)
removed [] x (k, within, is) = absurd (omega (arith, within))
removed (z ∷ zs) x (zero, within, is) = (zs, refl, λ y other c. Contains-tail z zs y (λ e. other (sym is ∙ e)) c)
removed (z ∷ zs) x (suc k, within, is) =
    let r = removed zs x (k, omega (arith, within), is) in
    (z ∷ r.0, ap suc r.1, λ y other c. elim (Contains-append_cases (z ∷ []) zs y c) [ inl here ↦ Contains-append_left (z ∷ []) r.0 y here | inr there ↦ Contains-append_right (z ∷ []) r.0 y (r.2 y other there) ])

-- no more come first than are allowed
firsts_few : (seen allowed w firsts : List EntryTree) → AreFirsts seen w firsts → ((y : EntryTree) → Contains w y → (Contains seen y → ⊥) → Contains allowed y) → length firsts ≤ length allowed
firsts_few seen allowed [] firsts f h = omega (arith, ap length f)
firsts_few seen allowed (e ∷ es) firsts (inl (there, more)) h =
    firsts_few seen allowed es firsts more (λ y c fresh. h y (Contains-append_right (e ∷ []) es y c) fresh)
firsts_few seen allowed (e ∷ es) firsts (inr (fresh, (rest, is, more))) h =
    let r = removed allowed e (h e (Contains-append_left (e ∷ []) es e (Contains-push [] e)) fresh) in
    let few = firsts_few (seen ++ e ∷ []) r.0 es rest more
    (λ y c new. r.2 y (λ same. new (subst (λ (x : EntryTree). Contains (seen ++ e ∷ []) x) same (Contains-push seen e)))
    (h y (Contains-append_right (e ∷ []) es y c) (λ old. new (Contains-append_left seen (e ∷ []) y old)))) in
    omega (arith, few, r.1, ap length is)

none_there : (y : EntryTree) → Contains [] y → ⊥
none_there y (k, within, is) = absurd (omega (arith, within))

-- so a frame has few entries
pub frame_few : (frame : List EntryTree) → HasRoom frame [] → length frame ≤ 60
frame_few frame r = let few = firsts_few [] r.allowed r.before frame r.once (λ y c fresh. r.old y c) in omega (arith, few, r.few)
