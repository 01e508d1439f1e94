-- What stands at each place of the codes of methods that were activated.
use Rattle.std.proofs.Common.{◌≡◌, ◌∙◌, ap, ap₂, sym, refl, ℕ, zero, suc, ◌+◌, ◌<◌, ◌≤◌, List, [], ◌∷◌, ◌++◌, take, drop, length, map, get_or, slice_get, Vec, Option, Some, None, arith}
use Rattle.std.specs.Option.{option_map}
use Rattle.std.proofs.lemmas.List.{at_drop_all, map-append, take_all, take_more}
use Rattle.std.proofs.lemmas.Option.{get_or_from_slice_get, none-some, same_Some, slice_get-map, slice_get_past, slice_get_read}
use Rattle.s80_code.specs.declared.instruction.Instruction.{Instruction}
use Rattle.s80_code.specs.Table.{decoded}
use Rattle.s80_machine.specs.declared.methods.Activated.{Activated}
use Rattle.s80_machine.specs.Seen.{AreListed, Method, listing, methods_of}

-- what stands at a place
abbrev pub Entry : Type 0
Entry = Option (Instruction × ℕ)

-- ---- what is read of a list

module _ {A : Type 0} (read xs : List A) (same : read ≡ xs) (i : ℕ) where
  pub none_read : length read ≤ i → slice_get xs i ≡ None
  none_read past = ap (λ l. slice_get l i) (sym same) ∙ slice_get_past read i past

  pub one_read : (x : A) → x ≡ get_or read i x → i < length read → slice_get xs i ≡ Some x
  one_read x is within = ap (λ l. slice_get l i) (sym same) ∙ slice_get_read read (length read) i x refl within is

-- ---- one code

pub as_long : (bytes : List ℕ) → length (listing bytes) ≡ length bytes
as_long [] = refl
as_long (b ∷ more) = ap suc (as_long more)

stands_at : (bytes : List ℕ) (at : ℕ) → at < length bytes → slice_get (listing bytes) at ≡ Some (decoded (drop at bytes))
stands_at [] at lt = absurd (omega (arith, lt))
stands_at (b ∷ more) zero lt = refl
stands_at (b ∷ more) (suc at) lt = stands_at more at (omega (arith, lt))

pub none_listed : (bytes : List ℕ) (at : ℕ) → slice_get (listing bytes) at ≡ None → decoded (drop at bytes) ≡ None
none_listed [] at e = at_drop_all decoded [] at (omega arith)
none_listed (b ∷ more) zero e = cc
none_listed (b ∷ more) (suc at) e = none_listed more at e

pub some_listed : (bytes : List ℕ) (at : ℕ) (entry : Entry) → slice_get (listing bytes) at ≡ Some entry → decoded (drop at bytes) ≡ entry
some_listed [] at entry e = cc
some_listed (b ∷ more) zero entry e = same_Some _ _ e
some_listed (b ∷ more) (suc at) entry e = some_listed more at entry e

-- a listing that is made entry by entry
module _ (bytes : List ℕ) (at : ℕ) (made : List Entry) (is : made ≡ take at (listing bytes)) where
  pub one_listed : (entry : Entry) (more : List Entry) → at < length bytes → entry ≡ decoded (drop at bytes) → more ≡ made ++ entry ∷ [] → more ≡ take (at + 1) (listing bytes)
  one_listed entry more lt here pushed =
      let within : at < length (listing bytes) = omega (arith, lt, as_long bytes) in
      let read : get_or (listing bytes) at entry ≡ entry = get_or_from_slice_get (listing bytes) at _ entry (stands_at bytes at lt) ∙ sym here in
      pushed ∙ ap₂ (λ xs x. xs ++ x ∷ []) is (sym read) ∙ sym (take_more (listing bytes) at entry within)

  pub all_listed : length bytes ≤ at → made ≡ listing bytes
  all_listed le = is ∙ take_all at (listing bytes) (omega (arith, le, as_long bytes))

-- ---- the codes of all methods

listing_at : (ks : List (List ℕ)) (done : List Activated) (i : ℕ) (m : Method) → slice_get (methods_of ks done) i ≡ Some m → option_map (λ a. listing a.code.now.bytes) (slice_get done i) ≡ Some (listing m.code.bytes)
listing_at [] done i m e = cc
listing_at (k ∷ ks) [] i m e = cc
listing_at (k ∷ ks) (a ∷ done) zero m e = ap (λ (x : Method). Some (listing x.code.bytes)) (same_Some _ m e)
listing_at (k ∷ ks) (a ∷ done) (suc i) m e = listing_at ks done i m e

module _ {Z : Type 0} where
  -- what stands at each place, by what keeps it
  abbrev pub listings_of : List (Vec Entry Z) → List (List Entry)
  listings_of ls = map (λ l. l.items) ls

  module _ (done : List Activated) (ls : List (Vec Entry Z)) (listed : AreListed done (listings_of ls)) where
    module _ (ks : List (List ℕ)) (now : List Method) (shows : methods_of ks done ≡ now) (i : ℕ) (m : Method) (there : slice_get now i ≡ Some m) where
      kept_at : option_map (λ (l : Vec Entry Z). l.items) (slice_get ls i) ≡ Some (listing m.code.bytes)
      kept_at =
          sym (slice_get-map (λ (l : Vec Entry Z). l.items) ls i) ∙ ap (λ l. slice_get l i) listed ∙ slice_get-map (λ (a : Activated). listing a.code.now.bytes) done i
          ∙ listing_at ks done i m (ap (λ ms. slice_get ms i) shows ∙ there)

      pub some_kept : slice_get ls i ≡ None → ⊥
      some_kept none = none-some _ (sym (ap (option_map (λ (l : Vec Entry Z). l.items)) none) ∙ kept_at)

      module _ (l : Vec Entry Z) (is : slice_get ls i ≡ Some l) (place : ℕ) where
        kept : l.items ≡ listing m.code.bytes
        kept = same_Some _ _ (sym (ap (option_map (λ (l : Vec Entry Z). l.items)) is) ∙ kept_at)

        pub none_there : slice_get l.items place ≡ None → None ≡ decoded (drop place m.code.bytes)
        none_there none = sym (none_listed m.code.bytes place (ap (λ xs. slice_get xs place) (sym kept) ∙ none))

        pub entry_there : (entry : Entry) → slice_get l.items place ≡ Some entry → entry ≡ decoded (drop place m.code.bytes)
        entry_there entry some = sym (some_listed m.code.bytes place entry (ap (λ xs. slice_get xs place) (sym kept) ∙ some))

    -- one more
    pub one_more_listed : (a : Activated) (l : Vec Entry Z) → l.items ≡ listing a.code.now.bytes → AreListed (done ++ a ∷ []) (listings_of (ls ++ l ∷ []))
    one_more_listed a l is =
        map-append (λ (l : Vec Entry Z). l.items) ls (l ∷ []) ∙ ap₂ (λ xs x. xs ++ x ∷ []) listed is ∙ sym (map-append (λ (a : Activated). listing a.code.now.bytes) done (a ∷ []))

-- the listings of all methods
listings_same : (ks : List (List ℕ)) (done : List Activated) → length done ≡ length ks → map (λ (m : Method). listing m.code.bytes) (methods_of ks done) ≡ map (λ (a : Activated). listing a.code.now.bytes) done
listings_same [] [] same = refl
listings_same [] (a ∷ done) same = absurd (omega (arith, same))
listings_same (k ∷ ks) [] same = absurd (omega (arith, same))
listings_same (k ∷ ks) (a ∷ done) same = ap (λ ls. listing a.code.now.bytes ∷ ls) (listings_same ks done (omega (arith, same)))

pub all_kept : {Z : Type 0} (done : List Activated) (ls : List (Vec Entry Z)) → AreListed done (map (λ l. l.items) ls) → (ks : List (List ℕ)) (now : List Method) → length done ≡ length ks → methods_of ks done ≡ now → (i : ℕ)
    → option_map (λ (l : Vec Entry Z). l.items) (slice_get ls i) ≡ option_map (λ (m : Method). listing m.code.bytes) (slice_get now i)
all_kept {Z} done ls listed ks now same shows i =
    sym (slice_get-map (λ (l : Vec Entry Z). l.items) ls i) ∙ ap (λ l. slice_get l i) (listed ∙ sym (listings_same ks done same) ∙ ap (map (λ (m : Method). listing m.code.bytes)) shows)
    ∙ slice_get-map (λ (m : Method). listing m.code.bytes) now i
