-- Bytes that are read in two ways: as the blocks of a list and a rest.
use Rattle.std.proofs.Common.{◌≡◌, ◌≢◌, ◌⊎◌, inl, inr, ⊎_elim, ℕ, ◌+◌, ◌≤◌, List, [], ◌∷◌, ◌++◌, length, Some, None, refl, sym, ap, ◌∙◌, subst, arith, append_assoc, append-nil, length-append}
use Rattle.std.specs.List.{All}
use Rattle.std.proofs.lemmas.Grind.{flat_map-append}
use Rattle.std.proofs.lemmas.List.Elements.{All-head, All-tail}
use Rattle.s80_change.specs.declared.change.Change.{Change}
use Rattle.s80_form.specs.declared.refusal.Refusal.{Refusal}
use Rattle.s80_change.specs.Block.{block, blocks, log_limit, IsLawful}
use Rattle.s80_change.proofs.lemmas.BlockLaws.{block_unique}
use Rattle.s80_apply.specs.Accept.{accept}
use Rattle.s80_apply.specs.List.{AreAccepted, IsAccepted, refusal_to, state_from}
use Rattle.s80_apply.specs.State.{State}
use Rattle.s80_change.specs.Blocks.{BeginsWithNone}
use Rattle.s80_apply.proofs.lemmas.Lists.{accepted_from}
use Rattle.s80_keeper.proofs.Accepted.{unrefusing}

-- the one reading goes further than the other, by more changes
record GoesFurther (list : List Change) (rest : List ℕ) (longer : List Change) (after : List ℕ) : Type 0 where
  more : List Change
  list_is : longer ≡ list ++ more
  rest_is : rest ≡ blocks more ++ after

one_more : (x y : Change) (xs : List Change) (r : List ℕ) (ys : List Change) (s : List ℕ) → x ≡ y → GoesFurther xs r ys s → GoesFurther (x ∷ xs) r (y ∷ ys) s
one_more x y xs r ys s same further =
    let list = further.list_is in
    record { more = further.more; list_is = cc; rest_is = further.rest_is }

-- of two readings one goes further, or both are the same
compared : (xs : List Change) (r : List ℕ) (ys : List Change) (s : List ℕ) → All IsLawful xs → All IsLawful ys → blocks xs ++ r ≡ blocks ys ++ s → GoesFurther xs r ys s ⊎ GoesFurther ys s xs r
compared [] r ys s one two e = inl record { more = ys; list_is = refl; rest_is = e }
compared (x ∷ xs) r [] s one two e = inr record { more = x ∷ xs; list_is = refl; rest_is = sym e }
compared (x ∷ xs) r (y ∷ ys) s one two e =
    let both = block_unique x y (blocks xs ++ r) (blocks ys ++ s) (All-head IsLawful x xs one) (All-head IsLawful y ys two) (sym (append_assoc (block x) (blocks xs) r) ∙ e ∙ append_assoc (block y) (blocks ys) s) in
    ⊎_elim (λ h. inl (one_more x y xs r ys s both.0 h)) (λ h. inr (one_more y x ys s xs r (sym both.0) h)) (compared xs r ys s (All-tail IsLawful x xs one) (All-tail IsLawful y ys two) both.1)

-- how long the blocks of two lists are
pub blocks_length : (xs more all : List Change) → all ≡ xs ++ more → length (blocks all) ≡ length (blocks xs) + length (blocks more)
blocks_length xs more all e = ap (λ l. length (blocks l)) e ∙ ap length (flat_map-append block xs more) ∙ length-append (blocks xs) (blocks more)

pub lawful_after : (xs : List Change) (z : Change) (zs : List Change) → All IsLawful (xs ++ z ∷ zs) → IsLawful z
lawful_after [] z zs all = All-head IsLawful z zs all
lawful_after (x ∷ xs) z zs all = lawful_after xs z zs (All-tail IsLawful x (xs ++ z ∷ zs) all)

-- no reading by lawful changes goes further than one whose rest begins with no block
no_further : (xs : List Change) (r : List ℕ) (ys : List Change) (s : List ℕ) → All IsLawful ys → BeginsWithNone r → GoesFurther xs r ys s → length (blocks ys) ≤ length (blocks xs)
no_further xs r ys s lawful none further = by_more further.more further.list_is further.rest_is
  where
    by_more : (more : List Change) → ys ≡ xs ++ more → r ≡ blocks more ++ s → length (blocks ys) ≤ length (blocks xs)
    by_more [] list rest = let n = blocks_length xs [] ys list in omega arith
    by_more (z ∷ zs) list rest =
        let P : List Change → Type 0 = All IsLawful in
        absurd (none z record { lawful = lawful_after xs z zs (subst P list lawful); after = blocks zs ++ s; begins = rest ∙ append_assoc (block z) (blocks zs) s })

pub stops_last : (xs : List Change) (r : List ℕ) (ys : List Change) (s : List ℕ) → blocks xs ++ r ≡ blocks ys ++ s → All IsLawful xs → All IsLawful ys → BeginsWithNone r → length (blocks ys) ≤ length (blocks xs)
stops_last xs r ys s e own lawful none =
    ⊎_elim (no_further xs r ys s lawful none) (λ h. let n = blocks_length ys h.more xs h.list_is in omega arith) (compared xs r ys s own lawful e)

-- what is accepted where there is room for it isn't refused
accepted_there : (before : State) (end : ℕ) (change : Change) (refusal : Refusal) → IsAccepted (accept change before) → end + length (block change) ≤ log_limit → refusal_to before end change ≡ Some refusal → ⊥
accepted_there before end change refusal accepted within is =
    let none = unrefusing (accept change before) end (length (block change)) accepted within in
    let both : Some refusal ≡ None = sym is ∙ none in
    cc

-- ---- behind a state, from a place of the log on

module _ (state : State) (at : ℕ) where
  -- no changes go on behind others with one that these refuse
  goes_on : (xs : List Change) (z : Change) (zs ys : List Change) (refusal : Refusal) → ys ≡ xs ++ z ∷ zs → (ys ≢ [] → at + length (blocks ys) ≤ log_limit) → AreAccepted state ys → refusal_to (state_from state xs) (at + length (blocks xs)) z ≡ Some refusal → ⊥
  goes_on xs z zs ys refusal is within built e =
      let accepted = accepted_from state xs z zs (subst (AreAccepted state) is built) in
      let n = blocks_length xs (z ∷ zs) ys is in
      let k = length-append (block z) (blocks zs) in
      let some : ys ≢ [] = λ none. omega (arith, ap length (sym is ∙ none), length-append xs (z ∷ zs)) in
      let end = within some in
      accepted_there (state_from state xs) (at + length (blocks xs)) z refusal accepted (omega (arith, n, k, end)) e

  -- so no reading goes past a block whose change is refused
  module _ (xs : List Change) (x : Change) (r : List ℕ) (ys : List Change) (s : List ℕ) (refusal : Refusal) (one : IsLawful x) (lawful : All IsLawful ys) (within : ys ≢ [] → at + length (blocks ys) ≤ log_limit) (built : AreAccepted state ys) (refused : refusal_to (state_from state xs) (at + length (blocks xs)) x ≡ Some refusal) where
    stops_there : GoesFurther xs (block x ++ r) ys s → (ys ≡ xs) × (block x ++ r ≡ s)
    stops_there further = by_more further.more further.list_is further.rest_is
      where
        by_more : (more : List Change) → ys ≡ xs ++ more → block x ++ r ≡ blocks more ++ s → (ys ≡ xs) × (block x ++ r ≡ s)
        by_more [] is rest = (is ∙ append-nil xs, rest)
        by_more (z ∷ zs) is rest =
            let P : List Change → Type 0 = All IsLawful in
            let same = (block_unique x z r (blocks zs ++ s) one (lawful_after xs z zs (subst P is lawful)) (rest ∙ append_assoc (block z) (blocks zs) s)).0 in
            absurd (goes_on xs z zs ys refusal is within built (ap (refusal_to (state_from state xs) (at + length (blocks xs))) (sym same) ∙ refused))

    pub refuses_last : blocks xs ++ (block x ++ r) ≡ blocks ys ++ s → All IsLawful xs → length (blocks ys) ≤ length (blocks xs)
    refuses_last e own =
        ⊎_elim (λ h. let n = ap (λ l. length (blocks l)) (stops_there h).0 in omega arith) (λ h. let n = blocks_length ys h.more xs h.list_is in omega arith) (compared xs (block x ++ r) ys s own lawful e)

  -- two readings that end at blocks whose changes are refused end at one place, with one change
  pub one_refused : (xs : List Change) (x : Change) (r : List ℕ) (ys : List Change) (y : Change) (s : List ℕ) (refusal other : Refusal) → All IsLawful xs → All IsLawful ys → (xs ≢ [] → at + length (blocks xs) ≤ log_limit) → (ys ≢ [] → at + length (blocks ys) ≤ log_limit) → AreAccepted state xs → AreAccepted state ys → IsLawful x → IsLawful y → refusal_to (state_from state xs) (at + length (blocks xs)) x ≡ Some refusal → refusal_to (state_from state ys) (at + length (blocks ys)) y ≡ Some other → blocks xs ++ (block x ++ r) ≡ blocks ys ++ (block y ++ s) → (xs ≡ ys) × (x ≡ y)
  one_refused xs x r ys y s refusal other own also within also_within built also_built one two refused also_refused e =
      ⊎_elim (λ h.
      let same = stops_there xs x r ys (block y ++ s) refusal one also also_within also_built refused h in
      (sym same.0, (block_unique x y r s one two same.1).0)) (λ h.
      let same = stops_there ys y s xs (block x ++ r) other two own within built also_refused h in
      (same.0, (block_unique x y r s one two (sym same.1)).0)) (compared xs (block x ++ r) ys (block y ++ s) own also e)
