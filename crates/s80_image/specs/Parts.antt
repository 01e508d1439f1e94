-- Parts of an image that others are made of, and what is asked of them.
use Rattle.std.specs.Prelude.{ℕ, ◌-◌, ◌==◌, ◌||◌, Bool, true, false, nat_le, nat_lt, List, length, slice_get, Option, Some, None, if◌then◌else◌}
use Rattle.std.specs.Option.{is_some}
use Rattle.std.specs.Ordering.{nat_cmp, is_lt}
use Rattle.std.specs.Cmp.Lexicographic.{slice_cmp}
use Rattle.s80_base.specs.declared.names.Side.{Side}
use Rattle.s80_base.specs.declared.names.Side.TheVariants.{Instance, Class}
use Rattle.s80_lex.specs.Selector.{is_name as is_unary, is_binary, keywords_of}
use Rattle.s80_form.specs.Name.{is_class_name, is_name}
use Rattle.s80_image.specs.Format.{Format, byte, list_of, mapped, number_where, text_where, word64}

abbrev pub Name : Type 0
Name = List ℕ

-- ---- numbers that stand for something else

abbrev pub at_most : ℕ → Format ℕ
at_most most = number_where (λ n. nat_le n most) byte

-- whether something is so: 0 for no, 1 for yes
abbrev pub flag_number : Bool → ℕ
flag_number false = 0
flag_number true = 1

abbrev pub flag : Format Bool
flag = mapped (λ n. n == 1) flag_number (at_most 1)

-- where the source of a method stands: 0 in the kernel's text, 1 in the log
abbrev pub source_number : Bool → ℕ
source_number true = 0
source_number false = 1

abbrev pub source : Format Bool
source = mapped (λ n. n == 0) source_number (at_most 1)

-- 0 for the instance side, 1 for the class side
abbrev pub side_number : Side → ℕ
side_number Instance = 0
side_number Class = 1

abbrev pub side_of : ℕ → Side
side_of n = if n == 0 then Instance else Class

abbrev pub side : Format Side
side = mapped side_of side_number (at_most 1)

-- ---- orders

abbrev pub last_of : {A : Type 0} → List A → Option A
last_of xs = slice_get xs (length xs - 1)

-- the last one, if there is one, comes before this one
abbrev pub is_above : Option Name → Name → Bool
is_above None name = true
is_above (Some last) name = is_lt (slice_cmp nat_cmp last name)

abbrev pub is_above_number : Option ℕ → ℕ → Bool
is_above_number None n = true
is_above_number (Some last) n = nat_lt last n

-- ---- names

abbrev pub is_selector : Name → Bool
is_selector word = is_unary word || is_binary word || is_some (keywords_of word)

abbrev pub class_text : Format Name
class_text = text_where is_class_name

abbrev pub name_text : Format Name
name_text = text_where is_name

-- places in the log, each above the one before
abbrev pub place_above : Option ℕ → Format ℕ
place_above last = number_where (is_above_number last) word64

abbrev pub places : Format (List ℕ)
places = list_of (λ n. nat_lt 0 n) (λ before. place_above (last_of before))
