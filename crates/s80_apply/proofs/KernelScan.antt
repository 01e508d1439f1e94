-- The tokens of a text, computed.
use Rattle.std.proofs.Common.{◌≡◌, refl, ap, sym, subst, Option, Some, None, Ok, true, ◌==◌, nat_le, ℕ, zero, suc, ◌+◌, ◌-◌, List, [], ◌∷◌, ◌++◌, take, drop, length}
use Rattle.std.proofs.lemmas.Bool.{eqb-true, leb-true}
use Rattle.std.proofs.lemmas.List.{take_rest}
use Rattle.s80_lex.specs.declared.token.Token.{Token}
use Rattle.s80_lex.specs.Class.{class_of}
use Rattle.s80_lex.specs.Front.{Takes, Stands}
use Rattle.s80_lex.specs.Number.{IsLawfulNumber}
use Rattle.s80_lex.specs.Text.{AreTokens, token_of}
use Rattle.s80_lex.proofs.lemmas.Parts.{Up, up_none, up_separator, up_more, up_all}
use Rattle.s80_lex.proofs.lemmas.Standing.{takes_stands}
use Rattle.s80_apply.proofs.KernelTold.{◌>>=◌, told}
use Rattle.s80_apply.proofs.KernelFronts.{Front, front_in}

-- the tokens up to a place
record State (bytes : List ℕ) : Type 0 where
  place : ℕ
  tokens : List Token
  up : Up tokens place bytes

-- the tokens of a whole text
pub record Tokens (bytes : List ℕ) : Type 0 where
  pub tokens : List Token
  pub are_tokens : AreTokens tokens bytes

-- a part more, by what stands at its place
part_more : (bytes : List ℕ) (place n : ℕ) (tokens : List Token) (t : Token) (p : _) → Up tokens place bytes → Stands (Ok (p, n)) (take (length bytes - place) (drop place bytes)) → token_of p place (place + n) ≡ t ∷ [] → Up (tokens ++ t ∷ []) (place + n) bytes
part_more bytes place n tokens t p up seen is = subst (λ l. Up (tokens ++ l) (place + n) bytes) is (up_more tokens place n p bytes up seen)

-- a token more
pub token_more : (bytes : List ℕ) (place : ℕ) (tokens : List Token) → Up tokens place bytes → (f : Front (drop place bytes)) → Up (tokens ++ record { kind = f.kind; from = place; to = place + f.size } ∷ []) (place + f.size) bytes
token_more bytes place tokens up f =
    let rest : List ℕ = take (length bytes - place) (drop place bytes) in
    let same : drop place bytes ≡ rest = sym (take_rest bytes place) in
    let seen = takes_stands f.kind f.size rest (subst (Takes f.kind f.size) same f.taken) (λ e. subst (λ l. IsLawfulNumber (take f.size l)) same (f.lawful e)) in
    search (part_more)

-- a space (32) more
pub space_more : (bytes : List ℕ) (place : ℕ) (tokens : List Token) → Up tokens place bytes → (b : ℕ) (rest : List ℕ) → drop place bytes ≡ b ∷ rest → (b == 32) ≡ true → Up tokens (place + 1) bytes
space_more bytes place tokens up b rest e space = up_separator tokens place b bytes rest up e (ap class_of (eqb-true b 32 space))

abbrev after_space : (bytes : List ℕ) (s : State bytes) (text : List ℕ) → drop s.place bytes ≡ text → Option (State bytes)
after_space bytes s [] e = None
after_space bytes s (b ∷ rest) e = do
  space ← told (b == 32)
  Some (record { place = s.place + 1; tokens = s.tokens; up = space_more bytes s.place s.tokens s.up b rest e space })

abbrev after_token : (bytes : List ℕ) (s : State bytes) → Option (State bytes)
after_token bytes s = do
  f ← front_in (drop s.place bytes)
  Some (record { place = s.place + f.size; tokens = s.tokens ++ record { kind = f.kind; from = s.place; to = s.place + f.size } ∷ []; up = token_more bytes s.place s.tokens s.up f })

abbrev at_end : (bytes : List ℕ) (s : State bytes) → Option (Tokens bytes)
at_end bytes s = do
  e ← told (nat_le (length bytes) s.place)
  Some (record { tokens = s.tokens; are_tokens = up_all s.tokens s.place bytes (leb-true (length bytes) s.place e) s.up })

abbrev scan : ℕ → (bytes : List ℕ) → State bytes → Option (Tokens bytes)
scan zero bytes s = None
scan (suc n) bytes s = elim (at_end bytes s) [
  | Some whole ↦ Some whole
  | None ↦ elim (after_space bytes s (drop s.place bytes) refl) [
    | Some t ↦ scan n bytes t
    | None ↦ after_token bytes s >>= λ t. scan n bytes t
  ]
]

abbrev pub tokens_in : (bytes : List ℕ) → Option (Tokens bytes)
tokens_in bytes = scan (suc (length bytes)) bytes (record { place = 0; tokens = []; up = up_none bytes })
