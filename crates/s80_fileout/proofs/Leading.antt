-- Changes that are accepted one after the other, and lead to a state of which something holds.
use Rattle.std.proofs.Common.{◌≡◌, ◌≢◌, ◌⊎◌, inl, inr, sym, subst, List, [], ◌∷◌, ◌++◌, refl, Ok}
use Rattle.std.specs.List.{flat_map}
use Rattle.s80_change.specs.declared.change.Change.{Change}
use Rattle.s80_apply.specs.Accept.{accept}
use Rattle.s80_apply.specs.List.{AreAccepted, state_after, state_from}
use Rattle.s80_apply.specs.State.{State}
use Rattle.s80_apply.proofs.lemmas.Lists.{is_accepted, is_after}
use Rattle.s80_fileout.proofs.Elements.{IsIn, AreApart}

abbrev pub Leads : State → List Change → (State → Type 0) → Type 0
Leads state cs P = AreAccepted state cs × P (state_from state cs)

pub leads_first : (c : Change) (cs : List Change) (state now : State) (P : State → Type 0) → accept c state ≡ Ok now → Leads now cs P → Leads state (c ∷ cs) P
leads_first c cs state now P is rest =
    let moved = subst (λ (n : State). Leads n cs P) (is_after (accept c state) state now is) rest in
    ((is_accepted (accept c state) now is, moved.0), moved.1)

pub leads_one : (c : Change) (state now : State) (P : State → Type 0) → accept c state ≡ Ok now → P now → Leads state (c ∷ []) P
leads_one c state now P is holds = leads_first c [] state now P is (tt, holds)

pub leads_weaker : (cs : List Change) (state : State) (P Q : State → Type 0) → Leads state cs P → ((now : State) → P now → Q now) → Leads state cs Q
leads_weaker cs state P Q leads weaker = (leads.0, weaker (state_from state cs) leads.1)

pub leads_then : (cs ds : List Change) (state : State) (P Q : State → Type 0) → Leads state cs P → ((now : State) → P now → Leads now ds Q) → Leads state (cs ++ ds) Q
leads_then [] ds state P Q first rest = rest state first.1
leads_then (c ∷ cs) ds state P Q first rest =
    let more = leads_then cs ds (state_after c state) P Q (first.0.1, first.1) rest in
    ((first.0.0, more.0), more.1)

-- Each step works on what is under its own key, and keeps what holds throughout.
module _ {X K : Type 0} (key : X → K) (f : X → List Change) (Same : K → State → State → Type 0)
    (itself : (k : K) (s : State) → Same k s s) (through : (k : K) (r s t : State) → Same k r s → Same k s t → Same k r t) (I : State → Type 0)
    (Todo Done : X → State → Type 0) (todo_yet : (x : X) (s t : State) → Same (key x) s t → Todo x s → Todo x t) (done_yet : (x : X) (s t : State) → Same (key x) s t → Done x s → Done x t) where
  -- a step that was done
  pub record Stepped (x : X) (s t : State) : Type 0 where
    pub keeps : I t
    pub done : Done x t
    pub others : (k : K) → k ≢ key x → Same k s t

  pub record AllStepped (xs : List X) (s t : State) : Type 0 where
    pub keeps : I t
    pub done : (x : X) → IsIn x xs → Done x t
    pub others : (k : K) → ((x : X) → IsIn x xs → k ≢ key x) → Same k s t

  pub leads_keyed : (xs : List X) → AreApart key xs → ((x : X) → IsIn x xs → (s : State) → I s → Todo x s → Leads s (f x) (Stepped x s))
      → (s : State) → I s → ((x : X) → IsIn x xs → Todo x s) → Leads s (flat_map f xs) (AllStepped xs s)
  leads_keyed [] apart step s holds todo = (tt, record { keeps = holds; done = λ x at. absurd at; others = λ k out. itself k s })
  leads_keyed (x ∷ xs) apart step s holds todo =
      leads_then (f x) (flat_map f xs) s (Stepped x s) (AllStepped (x ∷ xs) s) (step x (inl refl) s holds (todo x (inl refl))) (λ t first.
      leads_weaker (flat_map f xs) t (AllStepped xs t) (AllStepped (x ∷ xs) s)
      (leads_keyed xs apart.1 (λ y at. step y (inr at)) t first.keeps (λ y at. todo_yet y s t (first.others (key y) (apart.0 y at)) (todo y (inr at)))) (λ u rest. record {
        keeps = rest.keeps;
        done = λ y at. either t u first rest y at;
        others = λ k out. through k s t u (first.others k (out x (inl refl))) (rest.others k (λ y at. out y (inr at)));
      }))
    where
      either : (t u : State) → Stepped x s t → AllStepped xs t u → (y : X) → (y ≡ x) ⊎ IsIn y xs → Done y u
      either t u first rest y (inl same) = subst (λ z. Done z u) (sym same) (done_yet x t u (rest.others (key x) (λ z at is. apart.0 z at (sym is))) first.done)
      either t u first rest y (inr more) = rest.done y more
