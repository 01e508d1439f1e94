-- How codes and methods are spelled and read.
use Rattle.std.specs.Prelude.{ℕ, ◌&&◌, Bool, true, nat_le, List, map, Option, option_map}
use Rattle.s80_code.specs.declared.code.Code.{Code}
use Rattle.s80_code.specs.Entries.{EntryTree, entries_of}
use Rattle.s80_image.specs.declared.image.ImageMethod.{ImageMethod}
use Rattle.s80_image.specs.declared.image.MethodHeading.{MethodHeading}
use Rattle.s80_image.specs.Format.{Format, byte, list_of, mapped, pair, text, text_where, word64}
use Rattle.s80_image.specs.Parts.{Name, flag, is_above, is_selector, last_of, source}
use Rattle.s80_image.specs.Literals.{entry}

-- ---- without where they lie in memory

pub record CodeView : Type 0 where
  pub flag : ℕ
  pub arguments : ℕ
  pub primitive : ℕ
  pub temporaries : ℕ
  pub large : Bool
  pub entries : List EntryTree
  pub bytes : List ℕ

abbrev pub code_of : Code → CodeView
code_of c = record {
  flag = c.flag;
  arguments = c.arguments;
  primitive = c.primitive;
  temporaries = c.temporaries;
  large = c.large;
  entries = entries_of c.literals;
  bytes = c.bytes;
}

pub record MethodView : Type 0 where
  pub heading : MethodHeading
  pub code : CodeView

abbrev pub method_of : ImageMethod → MethodView
method_of m = record { heading = m.heading; code = code_of m.code }

abbrev pub methods_of : List ImageMethod → List MethodView
methods_of ms = map method_of ms

-- ---- formats

unfoldable pub frame : Format (List EntryTree)
frame = list_of (λ _. true) (λ _. entry)

-- flag, arguments, primitive, temporaries, whether it is large, the entries, and the bytes
abbrev pub code_fields : Format (ℕ × (ℕ × (ℕ × (ℕ × (Bool × (List EntryTree × List ℕ))))))
code_fields = pair byte (λ _. pair byte (λ _. pair byte (λ _. pair byte (λ _. pair flag (λ _. pair frame (λ _. text))))))

unfoldable pub code : Format CodeView
code = mapped
    (λ p. record { flag = p.0; arguments = p.1.0; primitive = p.1.1.0; temporaries = p.1.1.1.0; large = p.1.1.1.1.0; entries = p.1.1.1.1.1.0; bytes = p.1.1.1.1.1.1 })
    (λ c. (c.flag, (c.arguments, (c.primitive, (c.temporaries, (c.large, (c.entries, c.bytes)))))))
    code_fields

-- selector, category, where the source stands, its place and its length there; behind another method in the order of selectors
unfoldable pub method_heading : Option Name → Format MethodHeading
method_heading last = mapped
    (λ p. record { selector = p.0; category = p.1.0; from_kernel = p.1.1.0; position = p.1.1.1.0; length = p.1.1.1.1 })
    (λ m. (m.selector, (m.category, (m.from_kernel, (m.position, m.length)))))
    (pair (text_where (λ word. is_selector word && is_above last word)) (λ _. pair text (λ _. pair source (λ _. pair word64 (λ _. word64)))))

unfoldable pub method : Option Name → Format MethodView
method last = mapped (λ p. record { heading = p.0; code = p.1 }) (λ m. (m.heading, m.code)) (pair (method_heading last) (λ _. code))

abbrev pub method_limit : ℕ
method_limit = 16384

abbrev pub method_behind : List MethodView → Format MethodView
method_behind before = method (option_map (λ m. m.heading.selector) (last_of before))

unfoldable pub methods : Format (List MethodView)
methods = list_of (λ n. nat_le n method_limit) method_behind
