-- The machine follows returns: a home is alive on both sides, and the end of an activation is awaited by the one below it.
use Rattle.std.proofs.Common.{◌≡◌, ◌∙◌, ap, sym, subst, refl, ℕ, List, [], ◌∷◌, map, Bool, true, false, ◌||◌, ◌==◌, Option, Some, None, if◌then◌else◌}
use Rattle.s80_object.specs.declared.value.Value.{Value}
use Rattle.s80_prims.specs.declared.stop.Stop.TheVariants.{CannotReturn}
use Rattle.s80_machine.specs.World.{World, home_in, Activation, own, home, block, is_home_activation}
use Rattle.s80_machine.specs.Turn.{Context, State, deliver, return_from, return_home, stops}
use Rattle.s80_meaning.specs.Meaning.{Out, Gives, Answers, Returns, Stopped, Unfinished, awaited, ends_home, is_alive, returned}
use Rattle.s80_meaning.proofs.Variables.{Alike, alike_then, mark, same_alike}
use Rattle.s80_meaning.proofs.Corresponds.{Active, Follows, Known, Leads, Setting, above, facts, here_of, mark_of, return_past, shown}

-- ---- homes

seen_home : (h : ℕ) (f : Activation) → is_home_activation h (mark f) ≡ is_home_activation h f
seen_home h (own temporaries) = refl
seen_home h (home k) = refl
seen_home h (block b k) = refl

-- a home that no activation below has isn't alive
not_below : (h : ℕ) (v : Value) (w : World) (rest : List Context) → is_alive h (map mark_of rest) ≡ false → return_home h v rest w ≡ stops CannotReturn w
not_below h v w [] e = refl
not_below h v w (c ∷ rest) e = here (is_home_activation h (mark c.activation)) (is_home_activation h c.activation) (seen_home h c.activation) (not_below h v w rest) e
  where
    here : (b d : Bool) → b ≡ d → (is_alive h (map mark_of rest) ≡ false → return_home h v rest w ≡ stops CannotReturn w) → (b || is_alive h (map mark_of rest)) ≡ false → (if d then deliver v rest w else return_home h v rest w) ≡ stops CannotReturn w
    here true d same below e = cc
    here false true same below e = cc
    here false false same below e = below e

pub home_mark : (f : Activation) → home_in (mark f) ≡ home_in f
home_mark (own temporaries) = refl
home_mark (home h) = refl
home_mark (block b h) = refl

-- whether it is the home that an activation is
abbrev pub is_mine : ℕ → Option ℕ → Bool
is_mine h None = false
is_mine h (Some k) = h == k

module _ {on : Setting} where
  -- a return from where a tree stands
  pub returns : {A : Type 0} (a : Active on) (s : State) (q : ℕ) (onto : A → List Value) (v : Value) (w : World) (f : Activation) → Known a w f → Leads on s (return_from f v a.below (shown on w)) → Follows a w s q onto (returned f (here_of a).alive v w)
  returns a s q onto v w (own temporaries) known l = (same_alike (facts on) w known.fine, l)
  returns a s q onto v w (home h) known l = (same_alike (facts on) w known.fine, l)
  returns {A} a s q onto v w (block b h) known l = by_alive (is_alive h (here_of a).alive) refl
    where
      not_own : (seen : Activation) → block b h ≡ seen → is_home_activation h seen ≡ false
      not_own seen e = ap (is_home_activation h) (sym e)

      by_alive : (x : Bool) → is_alive h (here_of a).alive ≡ x → Follows {A = A} a w s q onto (if x then Returns h v w else Stopped CannotReturn w)
      by_alive true e = (same_alike (facts on) w known.fine, subst (λ x. Leads on s (if x then deliver v a.below (shown on w) else return_home h v a.below (shown on w))) (sym (not_own a.seen known.seen)) l, e)
      by_alive false e = subst (Leads on s) (not_below h v (shown on w) a.below (ap (λ x. x || is_alive h (map mark_of a.below)) (sym (not_own a.seen known.seen)) ∙ e)) l

  -- an activation has ended, or a return passes it
  pub ends_so : (a : Active on) (f : Activation) (p : ℕ) (stack : List Value) (b : Active on) (w0 w : World) (s : State) (q : ℕ) (mine : Option ℕ) → Known a w0 f → b.below ≡ above a f p stack
      → ((h : ℕ) → is_home_activation h b.seen ≡ is_mine h mine) → Alike (facts on) w0 w → (o : Out Value) → ((v : Value) (w1 : World) (g : Activation) → o ≡ Gives v w1 g → ⊥) → Follows b w s q (λ v. []) o → Follows a w0 s p (λ v. v ∷ stack) (awaited f mine o)
  ends_so a f p stack b w0 w s q mine known below seen alike (Gives v w1 g) silent r = absurd (silent v w1 g refl)
  ends_so a f p stack b w0 w s q mine known below seen alike (Answers v w1) silent r =
      (alike_then (facts on) w0 w w1 alike r.0, known.seen, subst (λ l. Leads on s (deliver v l (shown on w1))) below r.1)
  ends_so a f p stack b w0 w s q mine known below seen alike (Returns h v w1) silent r =
      by_mine mine refl (subst (λ x. Leads on s (if x then deliver v (above a f p stack) (shown on w1) else return_home h v (above a f p stack) (shown on w1))) (seen h)
      (subst (λ l. Leads on s (return_past h v b.seen l (shown on w1))) below r.1))
    where
      further : is_home_activation h b.seen ≡ false → Leads on s (return_home h v (above a f p stack) (shown on w1)) → Follows a w0 s p (λ v. v ∷ stack) (Returns h v w1)
      further other l = (
        alike_then (facts on) w0 w w1 alike r.0,
        subst (λ x. Leads on s (if x then deliver v a.below (shown on w1) else return_home h v a.below (shown on w1))) (sym (seen_home h f) ∙ ap (is_home_activation h) known.seen) l,
        sym (ap (is_alive h) (ap (map mark_of) below ∙ ap (λ x. x ∷ map mark_of a.below) known.seen)) ∙ ap (λ x. x || is_alive h (map mark_of b.below)) (sym other) ∙ r.2,
      )

      by_same : (k : ℕ) → is_home_activation h b.seen ≡ (h == k) → (x : Bool) → (h == k) ≡ x → Leads on s (if x then deliver v (above a f p stack) (shown on w1) else return_home h v (above a f p stack) (shown on w1))
          → Follows a w0 s p (λ v. v ∷ stack) (if x then Gives v w1 f else Returns h v w1)
      by_same k is true same l = (alike_then (facts on) w0 w w1 alike r.0, known.seen, l)
      by_same k is false same l = further (is ∙ same) l

      by_mine : (own_home : Option ℕ) → mine ≡ own_home → Leads on s (if is_mine h own_home then deliver v (above a f p stack) (shown on w1) else return_home h v (above a f p stack) (shown on w1)) → Follows a w0 s p (λ v. v ∷ stack) (ends_home f h v w1 own_home)
      by_mine None is l = further (seen h ∙ ap (is_mine h) is) l
      by_mine (Some k) is l = by_same k (seen h ∙ ap (is_mine h) is) (h == k) refl l
  ends_so a f p stack b w0 w s q mine known below seen alike (Stopped stop w1) silent r = r
  ends_so a f p stack b w0 w s q mine known below seen alike Unfinished silent r = r
