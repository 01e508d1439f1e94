-- Places of an image that are below where the log goes on.
use Rattle.std.proofs.Common.{◌≡◌, ◌<◌, ◌&&◌, ℕ, Bool, true, false, nat_lt, List, [], ◌∷◌, refl, sym, ap, ◌∙◌, true≢false}
use Rattle.std.specs.List.{All, list_all}
use Rattle.std.proofs.lemmas.Bool.Decides.{Decides-ltb}
use Rattle.std.proofs.lemmas.List.Elements.{All-cons, All-head, All-nil, All-tail}
use Rattle.s80_history.specs.declared.noted.Noted.{Noted}
use Rattle.s80_image.specs.declared.image.MethodVersions.{MethodVersions}
use Rattle.s80_image.specs.History.{VersionsView, all_versions_of, versions_of}
use Rattle.s80_image.specs.declared.image.Image.{Image as ImageInMemory}
use Rattle.s80_image.specs.Image.{ImageView, view_of}
use Rattle.s80_keeper.specs.Beginning.{AreBelow}
use Rattle.s80_keeper.specs.ImageReading.{are_below, places_below}

both_true : (a b : Bool) → (a && b) ≡ true → (a ≡ true) × (b ≡ true)
both_true true b is = (refl, is)
both_true false b is = absurd (true≢false (sym is))

true_both : (a b : Bool) → a ≡ true → b ≡ true → (a && b) ≡ true
true_both true b first second = second
true_both false b first second = absurd (true≢false (sym first))

module _ {X : Type 0} (test : X → Bool) (P : X → Type 0) where
  all_so : ((x : X) → test x ≡ true → P x) → (xs : List X) → list_all test xs ≡ true → All P xs
  all_so so [] is = All-nil P
  all_so so (x ∷ xs) is = let both = both_true (test x) (list_all test xs) is in All-cons P x xs (so x both.0) (all_so so xs both.1)

  so_all : ((x : X) → P x → test x ≡ true) → (xs : List X) → All P xs → list_all test xs ≡ true
  so_all so [] all = refl
  so_all so (x ∷ xs) all = true_both (test x) (list_all test xs) (so x (All-head P x xs all)) (so_all so xs (All-tail P x xs all))

module _ (position : ℕ) where
  less_so : (at : ℕ) → nat_lt at position ≡ true → at < position
  less_so at is = (Decides-ltb at position).0 is

  so_less : (at : ℕ) → at < position → nat_lt at position ≡ true
  so_less at is = (Decides-ltb at position).1 is

  places_so : (v : VersionsView) → places_below position v ≡ true → All (λ at. at < position) v.places
  places_so v is = all_so (λ at. nat_lt at position) (λ at. at < position) less_so v.places is

  so_places : (v : VersionsView) → All (λ at. at < position) v.places → places_below position v ≡ true
  so_places v all = so_all (λ at. nat_lt at position) (λ at. at < position) so_less v.places all

  pub below_so : (image : ImageView) → are_below position image ≡ true → AreBelow position image
  below_so image is =
      let both = both_true (list_all (λ (m : Noted). nat_lt m.at position) image.change_set) (list_all (places_below position) image.versions) is in
      record {
        change_set = all_so (λ (m : Noted). nat_lt m.at position) (λ m. m.at < position) (λ m. less_so m.at) image.change_set both.0;
        versions = all_so (places_below position) (λ v. All (λ at. at < position) v.places) places_so image.versions both.1;
      }

  so_below : (image : ImageView) → AreBelow position image → are_below position image ≡ true
  so_below image below =
      true_both (list_all (λ (m : Noted). nat_lt m.at position) image.change_set) (list_all (places_below position) image.versions)
      (so_all (λ (m : Noted). nat_lt m.at position) (λ m. m.at < position) (λ m. so_less m.at) image.change_set below.change_set)
      (so_all (places_below position) (λ v. All (λ at. at < position) v.places) so_places image.versions below.versions)

  pub not_below : (image : ImageView) (answer : Bool) → answer ≡ are_below position image → answer ≡ false → AreBelow position image → ⊥
  not_below image answer is isnt below = true≢false (sym (so_below image below) ∙ sym is ∙ isnt)

  versions_seen : (vs : List MethodVersions) → list_all (λ v. places_below position (versions_of v)) vs ≡ list_all (places_below position) (all_versions_of vs)
  versions_seen [] = refl
  versions_seen (v ∷ vs) = ap (λ b. places_below position (versions_of v) && b) (versions_seen vs)

  -- both tests, of an image in memory
  pub also_below : (image : ImageInMemory) (first second : Bool) (members : List Noted) (versions : List MethodVersions) → members ≡ image.change_set.items → versions ≡ image.versions.items
      → first ≡ list_all (λ (m : Noted). nat_lt m.at position) members → first ≡ true → second ≡ list_all (λ v. places_below position (versions_of v)) versions → second ≡ are_below position (view_of image)
  also_below image first second members versions members_are versions_are one holds two =
      let left : list_all (λ (m : Noted). nat_lt m.at position) image.change_set.items ≡ true = ap (list_all (λ (m : Noted). nat_lt m.at position)) (sym members_are) ∙ sym one ∙ holds in
      two ∙ versions_seen versions ∙ ap (λ l. list_all (places_below position) (all_versions_of l)) versions_are ∙ ap (λ b. b && list_all (places_below position) (view_of image).versions) (sym left)
