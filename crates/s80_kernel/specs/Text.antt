-- The methods of the kernel, and the text in which they are filed in.
use Rattle.std.specs.Prelude.{ℕ, List, [], ◌∷◌, ◌++◌, Bool, true, false, codes, if◌then◌else◌}
use Rattle.std.specs.List.{flat_map}

-- the methods that a class has on one side
pub record Section : Type 0 where
  pub class : List ℕ
  pub on_class_side : Bool
  pub sources : List (List ℕ)

abbrev pub methods_of : List ℕ → List (List ℕ) → Section
methods_of class sources = record { class = class; on_class_side = false; sources = sources }

abbrev pub class_methods_of : List ℕ → List (List ℕ) → Section
class_methods_of class sources = record { class = class; on_class_side = true; sources = sources }

abbrev pub sections : List Section
sections =
    methods_of (codes "Object") (
    codes "== anObject <primitive: 110>" ∷
    codes "= anObject ^self == anObject" ∷
    codes "~= anObject ^(self = anObject) not" ∷
    codes "~~ anObject ^(self == anObject) not" ∷
    codes "class <primitive: 111>" ∷
    codes "yourself ^self" ∷
    codes "isNil ^false" ∷
    codes "notNil ^true" ∷
    codes "at: index <primitive: 60> ^self primitiveFailed" ∷
    codes "at: index put: anObject <primitive: 61> ^self primitiveFailed" ∷
    codes "size <primitive: 62> ^0" ∷
    codes "perform: aSymbol <primitive: 83> ^self primitiveFailed" ∷
    codes "printString <primitive: 133>" ∷
    codes "error: aString <primitive: 129> ^self error: 'error'" ∷
    codes "primitiveFailed ^self error: 'primitive failed'" ∷
    codes "subclassResponsibility ^self error: 'subclass responsibility'" ∷
    codes "halt ^self error: 'halt'" ∷
    []) ∷
    methods_of (codes "Behavior") (
    codes "new <primitive: 70> ^self new: 0" ∷
    codes "new: size <primitive: 71> ^self primitiveFailed" ∷
    []) ∷
    methods_of (codes "UndefinedObject") (
    codes "isNil ^true" ∷
    codes "notNil ^false" ∷
    []) ∷
    methods_of (codes "True") (
    codes "& aBoolean ^aBoolean" ∷
    codes "| aBoolean ^self" ∷
    codes "not ^false" ∷
    codes "and: aBlock ^aBlock value" ∷
    codes "or: aBlock ^self" ∷
    codes "ifTrue: aBlock ^aBlock value" ∷
    codes "ifFalse: aBlock ^nil" ∷
    codes "ifTrue: a ifFalse: b ^a value" ∷
    codes "ifFalse: a ifTrue: b ^b value" ∷
    []) ∷
    methods_of (codes "False") (
    codes "& aBoolean ^self" ∷
    codes "| aBoolean ^aBoolean" ∷
    codes "not ^true" ∷
    codes "and: aBlock ^self" ∷
    codes "or: aBlock ^aBlock value" ∷
    codes "ifTrue: aBlock ^nil" ∷
    codes "ifFalse: aBlock ^aBlock value" ∷
    codes "ifTrue: a ifFalse: b ^b value" ∷
    codes "ifFalse: a ifTrue: b ^a value" ∷
    []) ∷
    methods_of (codes "Magnitude") (
    codes "max: other ^self > other ifTrue: [self] ifFalse: [other]" ∷
    codes "min: other ^self < other ifTrue: [self] ifFalse: [other]" ∷
    codes "between: low and: high ^self >= low and: [self <= high]" ∷
    []) ∷
    methods_of (codes "Character") (
    codes "value <primitive: 130>" ∷
    codes "< other ^self value < other value" ∷
    codes "> other ^self value > other value" ∷
    codes "<= other ^self value <= other value" ∷
    codes ">= other ^self value >= other value" ∷
    []) ∷
    class_methods_of (codes "Character") (
    codes "value: anInteger <primitive: 131> ^self primitiveFailed" ∷
    []) ∷
    methods_of (codes "Number") (
    codes "abs ^self < 0 ifTrue: [0 - self] ifFalse: [self]" ∷
    codes "negated ^0 - self" ∷
    codes "to: stop do: aBlock | i | i _ self. [i <= stop] whileTrue: [aBlock value: i. i _ i + 1]" ∷
    []) ∷
    methods_of (codes "Integer") (
    codes "timesRepeat: aBlock | n | n _ 1. [n <= self] whileTrue: [aBlock value. n _ n + 1]" ∷
    codes "even ^self \\\\ 2 = 0" ∷
    codes "odd ^self even not" ∷
    []) ∷
    methods_of (codes "SmallInteger") (
    codes "+ n <primitive: 1> ^self primitiveFailed" ∷
    codes "- n <primitive: 2> ^self primitiveFailed" ∷
    codes "< n <primitive: 3> ^self primitiveFailed" ∷
    codes "> n <primitive: 4> ^self primitiveFailed" ∷
    codes "<= n <primitive: 5> ^self primitiveFailed" ∷
    codes ">= n <primitive: 6> ^self primitiveFailed" ∷
    codes "= n <primitive: 7> ^false" ∷
    codes "~= n <primitive: 8> ^true" ∷
    codes "* n <primitive: 9> ^self primitiveFailed" ∷
    codes "/ n <primitive: 10> ^self primitiveFailed" ∷
    codes "\\\\ n <primitive: 11> ^self primitiveFailed" ∷
    codes "// n <primitive: 12> ^self primitiveFailed" ∷
    codes "bitAnd: n <primitive: 14> ^self primitiveFailed" ∷
    codes "bitOr: n <primitive: 15> ^self primitiveFailed" ∷
    codes "bitXor: n <primitive: 16> ^self primitiveFailed" ∷
    codes "bitShift: n <primitive: 17> ^self primitiveFailed" ∷
    []) ∷
    methods_of (codes "Collection") (
    codes "isEmpty ^self size = 0" ∷
    codes "do: aBlock ^self subclassResponsibility" ∷
    codes "inject: start into: aBlock | next | next _ start. self do: [:each | next _ aBlock value: next value: each]. ^next" ∷
    codes "includes: anObject self do: [:each | each = anObject ifTrue: [^true]]. ^false" ∷
    codes "detect: aBlock ifNone: other self do: [:each | (aBlock value: each) ifTrue: [^each]]. ^other value" ∷
    []) ∷
    methods_of (codes "SequenceableCollection") (
    codes "species ^self class" ∷
    codes "first ^self at: 1" ∷
    codes "last ^self at: self size" ∷
    codes "do: aBlock 1 to: self size do: [:i | aBlock value: (self at: i)]" ∷
    codes "= other self class == other class ifFalse: [^false]. self size = other size ifFalse: [^false]. 1 to: self size do: [:i | (self at: i) = (other at: i) ifFalse: [^false]]. ^true" ∷
    codes ", other | result n | n _ self size. result _ self species new: n + other size. 1 to: n do: [:i | result at: i put: (self at: i)]. 1 to: other size do: [:i | result at: n + i put: (other at: i)]. ^result" ∷
    codes "collect: aBlock | result | result _ Array new: self size. 1 to: self size do: [:i | result at: i put: (aBlock value: (self at: i))]. ^result" ∷
    []) ∷
    class_methods_of (codes "ArrayedCollection") (
    codes "with: a ^(self new: 1) at: 1 put: a; yourself" ∷
    codes "with: a with: b ^(self new: 2) at: 1 put: a; at: 2 put: b; yourself" ∷
    []) ∷
    methods_of (codes "String") (
    codes "at: index <primitive: 63> ^self primitiveFailed" ∷
    codes "at: index put: aCharacter <primitive: 64> ^self primitiveFailed" ∷
    codes "asSymbol <primitive: 132>" ∷
    codes "asString ^self" ∷
    []) ∷
    methods_of (codes "Symbol") (
    codes "= other ^self == other" ∷
    codes "species ^String" ∷
    codes "asString ^'' , self" ∷
    []) ∷
    methods_of (codes "BlockContext") (
    codes "value <primitive: 81> ^self primitiveFailed" ∷
    codes "value: a <primitive: 81> ^self primitiveFailed" ∷
    codes "value: a value: b <primitive: 81> ^self primitiveFailed" ∷
    codes "value: a value: b value: c <primitive: 81> ^self primitiveFailed" ∷
    codes "whileTrue: aBlock ^[self value] whileTrue: [aBlock value]" ∷
    codes "whileFalse: aBlock ^[self value] whileFalse: [aBlock value]" ∷
    codes "whileTrue ^[self value] whileTrue: []" ∷
    []) ∷
    methods_of (codes "TextCollector") (
    codes "show: aString <primitive: 128> ^self primitiveFailed" ∷
    codes "print: anObject ^self show: anObject printString" ∷
    codes "space ^self show: ' '" ∷
    codes "cr ^self show: ((String new: 1) at: 1 put: (Character value: 10); yourself)" ∷
    []) ∷
    methods_of (codes "Message") (
    codes "selector ^selector" ∷
    codes "arguments ^args" ∷
    []) ∷
    []

-- the side of a class as a head names it
abbrev pub spec_of : Section → List ℕ
spec_of s = s.class ++ (if s.on_class_side then codes " class" else [])

-- each source, a mark and a line feed; behind the last the mark, a space, a mark and a line feed
abbrev pub filed : List (List ℕ) → List ℕ
filed [] = []
filed (source ∷ []) = source ++ (codes "! !" ++ 10 ∷ [])
filed (source ∷ more) = source ++ (codes "!" ++ (10 ∷ filed more))

abbrev pub section_text : Section → List ℕ
section_text s = codes "!" ++ (spec_of s ++ (codes " methodsFor: 'kernel'!" ++ (10 ∷ filed s.sources)))

-- the whole text
unfoldable pub kernel_text : List ℕ
kernel_text = flat_map section_text sections
