-- The methods of the kernel, each with its selector and the place of its source in the text.
use Rattle.std.specs.Prelude.{◌≡◌, ◌≢◌, ℕ, ◌+◌, ◌≤◌, ◌&&◌, Bool, false, Option, List, [], ◌∷◌, ◌++◌, codes, length, map, find, slice_range}
use Rattle.std.specs.List.{All}
use Rattle.std.specs.Str.{bytes_eq}
use Rattle.std.specs.Bool.{beq}
use Rattle.s80_base.specs.Byte.{is_separator}
use Rattle.s80_kernel.specs.declared.methods.KernelMethod.{KernelMethod}
use Rattle.s80_kernel.specs.Text.{Section, sections, spec_of, section_text}

-- a method, and how many bytes of the text stand before its source
pub record KernelMethodRow : Type 0 where
  pub class : List ℕ
  pub on_class_side : Bool
  pub selector : List ℕ
  pub source : List ℕ
  pub position : ℕ

-- the selectors of each section's sources
abbrev pub selectors : List (List (List ℕ))
selectors =
    (codes "==" ∷ codes "=" ∷ codes "~=" ∷ codes "~~" ∷ codes "class" ∷ codes "yourself" ∷ codes "isNil" ∷ codes "notNil" ∷ codes "at:" ∷ codes "at:put:" ∷ codes "size" ∷ codes "perform:" ∷ codes "printString" ∷ codes "error:" ∷ codes "primitiveFailed" ∷ codes "subclassResponsibility" ∷ codes "halt" ∷ []) ∷
    (codes "new" ∷ codes "new:" ∷ []) ∷
    (codes "isNil" ∷ codes "notNil" ∷ []) ∷
    (codes "&" ∷ codes "|" ∷ codes "not" ∷ codes "and:" ∷ codes "or:" ∷ codes "ifTrue:" ∷ codes "ifFalse:" ∷ codes "ifTrue:ifFalse:" ∷ codes "ifFalse:ifTrue:" ∷ []) ∷
    (codes "&" ∷ codes "|" ∷ codes "not" ∷ codes "and:" ∷ codes "or:" ∷ codes "ifTrue:" ∷ codes "ifFalse:" ∷ codes "ifTrue:ifFalse:" ∷ codes "ifFalse:ifTrue:" ∷ []) ∷
    (codes "max:" ∷ codes "min:" ∷ codes "between:and:" ∷ []) ∷
    (codes "value" ∷ codes "<" ∷ codes ">" ∷ codes "<=" ∷ codes ">=" ∷ []) ∷
    (codes "value:" ∷ []) ∷
    (codes "abs" ∷ codes "negated" ∷ codes "to:do:" ∷ []) ∷
    (codes "timesRepeat:" ∷ codes "even" ∷ codes "odd" ∷ []) ∷
    (codes "+" ∷ codes "-" ∷ codes "<" ∷ codes ">" ∷ codes "<=" ∷ codes ">=" ∷ codes "=" ∷ codes "~=" ∷ codes "*" ∷ codes "/" ∷ codes "\\\\" ∷ codes "//" ∷ codes "bitAnd:" ∷ codes "bitOr:" ∷ codes "bitXor:" ∷ codes "bitShift:" ∷ []) ∷
    (codes "isEmpty" ∷ codes "do:" ∷ codes "inject:into:" ∷ codes "includes:" ∷ codes "detect:ifNone:" ∷ []) ∷
    (codes "species" ∷ codes "first" ∷ codes "last" ∷ codes "do:" ∷ codes "=" ∷ codes "," ∷ codes "collect:" ∷ []) ∷
    (codes "with:" ∷ codes "with:with:" ∷ []) ∷
    (codes "at:" ∷ codes "at:put:" ∷ codes "asSymbol" ∷ codes "asString" ∷ []) ∷
    (codes "=" ∷ codes "species" ∷ codes "asString" ∷ []) ∷
    (codes "value" ∷ codes "value:" ∷ codes "value:value:" ∷ codes "value:value:value:" ∷ codes "whileTrue:" ∷ codes "whileFalse:" ∷ codes "whileTrue" ∷ []) ∷
    (codes "show:" ∷ codes "print:" ∷ codes "space" ∷ codes "cr" ∷ []) ∷
    (codes "selector" ∷ codes "arguments" ∷ []) ∷
    []

-- what stands before a section's sources
abbrev pub head_of : Section → List ℕ
head_of s = codes "!" ++ (spec_of s ++ (codes " methodsFor: 'kernel'!" ++ (10 ∷ [])))

-- sources with their selectors, the first of them at this place; a mark and a line feed part them
abbrev pub source_rows : Section → ℕ → List (List ℕ) → List (List ℕ) → List KernelMethodRow
source_rows s at [] names = []
source_rows s at (source ∷ more) [] = []
source_rows s at (source ∷ more) (name ∷ names) =
    record { class = s.class; on_class_side = s.on_class_side; selector = name; source = source; position = at }
    ∷ source_rows s (at + length source + 2) more names

-- the rows of sections, the first of which begins at this place
abbrev pub rows_from : ℕ → List Section → List (List (List ℕ)) → List KernelMethodRow
rows_from at [] names = []
rows_from at (s ∷ more) [] = []
rows_from at (s ∷ more) (names ∷ others) =
    source_rows s (at + length (head_of s)) s.sources names ++ rows_from (at + length (section_text s)) more others

-- the 104 methods, in the order of the text
unfoldable pub kernel_methods : List KernelMethodRow
kernel_methods = rows_from 0 sections selectors

-- a source with its class and side
abbrev pub filed_in : KernelMethodRow → List ℕ × Bool × List ℕ
filed_in row = (row.class, row.on_class_side, row.source)

abbrev pub all_filed_in : Section → List (List ℕ × Bool × List ℕ)
all_filed_in s = map (λ source. (s.class, s.on_class_side, source)) s.sources

-- what names a method
abbrev pub key_of : KernelMethodRow → List ℕ × Bool × List ℕ
key_of row = (row.class, row.on_class_side, row.selector)

abbrev pub is_method : List ℕ → Bool → List ℕ → KernelMethodRow → Bool
is_method class on_class_side selector row = bytes_eq row.class class && (beq row.on_class_side on_class_side && bytes_eq row.selector selector)

-- the kernel's method of this name
unfoldable pub found_method : List ℕ → Bool → List ℕ → Option KernelMethodRow
found_method class on_class_side selector = find (is_method class on_class_side selector) kernel_methods

-- a method, and where its source stands
pub record MethodPlace : Type 0 where
  pub class : List ℕ
  pub on_class_side : Bool
  pub selector : List ℕ
  pub position : ℕ
  pub size : ℕ

abbrev pub place_of : KernelMethodRow → MethodPlace
place_of row = record { class = row.class; on_class_side = row.on_class_side; selector = row.selector; position = row.position; size = length row.source }

-- a method as the code has it
abbrev pub held_place : KernelMethod → MethodPlace
held_place m = record { class = m.class_name.now; on_class_side = m.on_class_side; selector = m.selector.now; position = m.position; size = m.length }

-- The source stands in this text at its place.
pub record StandsIn (text : List ℕ) (row : KernelMethodRow) : Type 0 where
  pub ends : row.position + length row.source ≤ length text
  pub same : slice_range text row.position (row.position + length row.source) ≡ row.source

-- There is a first byte, and it is no separator.
abbrev pub IsBegun : List ℕ → Type 0
IsBegun [] = ⊥
IsBegun (b ∷ bs) = is_separator b ≡ false

-- A source that is its own spelling as a chunk, and no longer than a chunk may be.
pub record IsPlainSource (source : List ℕ) : Type 0 where
  pub begun : IsBegun source
  pub unmarked : All (λ b. b ≢ 33) source
  pub short : length source ≤ 65535

abbrev pub holds_method : List ℕ → Bool → List ℕ → KernelMethod → Bool
holds_method class on_class_side selector m = bytes_eq m.class_name.now class && (beq m.on_class_side on_class_side && bytes_eq m.selector.now selector)
