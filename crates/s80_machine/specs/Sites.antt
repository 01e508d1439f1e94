-- Where messages went before.
use Rattle.std.specs.Prelude.{◌≡◌, ℕ, zero, suc, ◌<◌, ◌==◌, ◌&&◌, List, length, slice_get, Option, Some, None, option_and_then, if◌then◌else◌}
use Rattle.std.specs.List.{position_or_len}
use Rattle.s80_code.specs.declared.code.Code.{Code}
use Rattle.s80_code.specs.Special.{special_selectors}
use Rattle.s80_dict.specs.declared.dict.MethodEntry.{MethodEntry}
use Rattle.s80_machine.specs.declared.sites.Site.{Site}
use Rattle.s80_machine.specs.declared.sites.Sites.{Sites}
use Rattle.s80_machine.specs.declared.sites.Target.{Target}
use Rattle.s80_machine.specs.declared.sites.Target.TheVariants.{Numbered, Primitive, Handler}
use Rattle.s80_machine.specs.World.{Key, method, same_key}
use Rattle.s80_class.specs.Lookup.{Found, IsFound, Place, first_found, places_up}
use Rattle.s80_machine.specs.Shared.{does_not_understand}
use Rattle.s80_machine.specs.Step.{code_for, selector_at}
use Rattle.s80_machine.specs.Seen.{Given}

-- what is noted at a place of a row
abbrev pub site_in : Sites → ℕ → ℕ → Option Site
site_in sites m k = option_and_then (λ row. option_and_then (λ site. site) (slice_get row.items k)) (slice_get sites.rows.items m)

-- this was noted, and nothing else
abbrev pub IsNoted : Sites → ℕ → ℕ → Site → Sites → Type 0
IsNoted old m k site new = (n j : ℕ) → site_in new n j ≡ (if n == m && j == k then Some site else site_in old n j)

-- the selector of a literal of the code of this method
pub record IsLiteralOf (on : Given) (keys : List Key) (m k : ℕ) (selector : List ℕ) : Type 0 where
  pub key : Key
  pub code : Code
  pub key_is : slice_get keys m ≡ Some key
  pub code_is : code_for on.methods on.code key ≡ Some code
  pub selector_is : selector_at on.table on.methods on.code on.budget code k ≡ Some selector

-- the selector at a place of a row: in the first row those of the messages that have bytes of their own, behind it those of each method's literals
abbrev pub IsSentAt : Given → List Key → ℕ → ℕ → List ℕ → Type 0
IsSentAt on keys zero k selector = slice_get special_selectors k ≡ Some selector
IsSentAt on keys (suc m) k selector = IsLiteralOf on keys m k selector

-- a method without a primitive is found, which has this number
pub record IsNumberFound (on : Given) (keys : List Key) (selector : List ℕ) (at : List Place) (n : ℕ) : Type 0 where
  pub found : Found (MethodEntry Code)
  pub finds : first_found on.methods selector at ≡ Some found
  pub plain : found.entry.code.primitive ≡ 0
  pub number : position_or_len (same_key (method found.class found.side selector)) keys ≡ n
  pub there : n < length keys

-- where a message of this selector goes that is looked up along these places: to the method that is found, or where none is to that of `doesNotUnderstand:`
abbrev pub IsTarget : Given → List Key → List ℕ → List Place → Target → Type 0
IsTarget on keys selector at (Numbered n) = IsNumberFound on keys selector at n
IsTarget on keys selector at (Primitive g) = IsFound (first_found on.methods selector at) (Some g)
IsTarget on keys selector at (Handler g) = IsFound (first_found on.methods selector at) None × IsFound (first_found on.methods does_not_understand at) (Some g)

-- the message of this place of a row goes there, to a receiver whose class has the site's place
pub record IsSite (on : Given) (keys : List Key) (m k : ℕ) (site : Site) : Type 0 where
  pub selector : List ℕ
  pub sent : IsSentAt on keys m k selector
  pub goes : IsTarget on keys selector (places_up on.table site.class site.side) site.target
