-- Definitions of classes: their texts, and the trees that are such.
use Rattle.std.specs.Prelude.{◌≡◌, ℕ, List, [], ◌∷◌, ◌++◌, Bool, true, false, not, codes, filter, map, if◌then◌else◌}
use Rattle.std.specs.List.{flat_map}
use Rattle.s80_base.specs.Literal.{symbol, str}
use Rattle.s80_base.specs.declared.names.Side.TheVariants.{Instance}
use Rattle.s80_base.specs.Byte.{is_separator}
use Rattle.s80_lex.specs.Spelling.{quoted}
use Rattle.s80_tree.specs.Tree.{ExprTrees, DoItParts, exprs_from}
use Rattle.s80_form.specs.declared.definition.Kind.{Kind}
use Rattle.s80_form.specs.declared.definition.Kind.TheVariants.{Plain, Pointers, Bytes, Words}
use Rattle.s80_form.specs.declared.definition.Definition.{Definition}
use Rattle.s80_form.specs.Name.{IsName, AreNames, IsBrief, AreBrief}
use Rattle.s80_form.specs.TreeParts.{argument, IsSending}

-- ---- lists of names

-- what stands between separators, also where that is nothing
abbrev pub onto_first : ℕ → List (List ℕ) → List (List ℕ)
onto_first b [] = (b ∷ []) ∷ []
onto_first b (piece ∷ more) = (b ∷ piece) ∷ more

abbrev pub pieces : List ℕ → List (List ℕ)
pieces [] = [] ∷ []
pieces (b ∷ bytes) = if is_separator b then [] ∷ pieces bytes else onto_first b (pieces bytes)

abbrev pub is_empty : List ℕ → Bool
is_empty [] = true
is_empty (b ∷ bytes) = false

-- the names in a string: it is split at separators
abbrev pub split_names : List ℕ → List (List ℕ)
split_names text = filter (λ piece. not (is_empty piece)) (pieces text)

-- names with one space between them
abbrev pub joined : List (List ℕ) → List ℕ
joined [] = []
joined (first ∷ more) = first ++ flat_map (λ next. 32 ∷ next) more

-- ---- the text

-- the first word of the message that defines a class of this kind
abbrev pub defining_word : Kind → List ℕ
defining_word Plain = codes "subclass:"
defining_word Pointers = codes "variableSubclass:"
defining_word Bytes = codes "variableByteSubclass:"
defining_word Words = codes "variableWordSubclass:"

-- a line feed, a tab, and a keyword with a string
abbrev pub next_line : List ℕ → List ℕ → List ℕ
next_line word text = 10 ∷ 9 ∷ word ++ 32 ∷ quoted 39 text

-- the receiver, the word that tells the kind, and the class
abbrev pub first_line : Definition → List ℕ
first_line d = d.superclass ++ 32 ∷ defining_word d.kind ++ codes " #" ++ d.class_name

abbrev pub definition_text : Definition → List ℕ
definition_text d =
    first_line d
    ++ next_line (codes "instanceVariableNames:") (joined d.inst_vars)
    ++ next_line (codes "classVariableNames:") (joined d.class_vars)
    ++ next_line (codes "poolDictionaries:") (joined d.pools)
    ++ next_line (codes "category:") d.category

-- each of its names and its category has fewer than 2^32 bytes
pub record IsBriefDefinition (d : Definition) : Type 0 where
  pub superclass : IsBrief d.superclass
  pub class_name : IsBrief d.class_name
  pub inst_vars : AreBrief d.inst_vars
  pub class_vars : AreBrief d.class_vars
  pub pools : AreBrief d.pools
  pub category : IsBrief d.category

-- its names are identifiers that aren't reserved
pub record HasDefinitionNames (d : Definition) : Type 0 where
  pub superclass : IsName d.superclass
  pub class_name : IsName d.class_name
  pub inst_vars : AreNames d.inst_vars
  pub class_vars : AreNames d.class_vars
  pub pools : AreNames d.pools

-- ---- the tree

abbrev pub defining_selector : Kind → List ℕ
defining_selector kind = defining_word kind ++ codes "instanceVariableNames:classVariableNames:poolDictionaries:category:"

-- the texts of a symbol and of four strings, as arguments
abbrev pub are_arguments : List ℕ × List ℕ × List ℕ × List ℕ × List ℕ → ExprTrees
are_arguments t = exprs_from (map argument (symbol t.0 ∷ str t.1 ∷ str t.2 ∷ str t.3 ∷ str t.4 ∷ []))

-- The tree defines a class so: the superclass is sent the message that defines a class, with a symbol and four strings, and nothing else is done.
pub record IsDefining (tree : DoItParts) (d : Definition) : Type 0 where
  pub at : ℕ
  pub inst_vars : List ℕ
  pub class_vars : List ℕ
  pub pools : List ℕ
  pub sending : IsSending tree (record { name = d.superclass; at = at }, Instance, (defining_selector d.kind, are_arguments (d.class_name, inst_vars, class_vars, pools, d.category)))
  pub inst_vars_are : d.inst_vars ≡ split_names inst_vars
  pub class_vars_are : d.class_vars ≡ split_names class_vars
  pub pools_are : d.pools ≡ split_names pools
