-- Frames of 38 words, one after another.
use Rattle.std.specs.Prelude.{◌≡◌, ℕ, ◌-◌, ◌*◌, zero, suc, List, [], ◌∷◌, ◌++◌, length, take, drop, refl}
use Rattle.std.specs.List.{refill}
use Rattle.std.specs.Coded.{Coded, code_by, coded×, coded_ℕ, coded_list}

-- the frames, the lowest first; how many more there is room for; and what a new frame is full of
pub record ArenaValue (X : Type 0) : Type 0 where
  pub frames : List (List X)
  pub spare : ℕ
  pub blank : X

abbrev pub arena_code : {X : Type 0} → Coded X → Coded (ArenaValue X)
arena_code {X} code = code_by (List (List X) × (ℕ × X)) (coded× (coded_list (coded_list code)) (coded× coded_ℕ code)) (λ a. (a.frames, (a.spare, a.blank))) (λ p. record { frames = p.0; spare = p.1.0; blank = p.1.1 }) (λ _. refl)

module _ {X : Type 0} where
  abbrev pub HasFrameWords : List X → Type 0
  HasFrameWords frame = length frame ≡ 38

  -- words cut into n frames
  abbrev pub frames_of : ℕ → List X → List (List X)
  frames_of zero words = []
  frames_of (suc n) words = take 38 words ∷ frames_of n (drop 38 words)

  abbrev pub joined : List (List X) → List X
  joined [] = []
  joined (f ∷ fs) = f ++ joined fs

  -- the upper k frames
  abbrev pub upper : ℕ → List (List X) → List (List X)
  upper k frames = drop (length frames - k) frames

  -- the frames below the upper k, and then the words cut into k frames
  abbrev pub with_upper : ℕ → List (List X) → List X → List (List X)
  with_upper k frames words = take (length frames - k) frames ++ frames_of k (refill (k * 38) (joined (upper k frames)) words)
