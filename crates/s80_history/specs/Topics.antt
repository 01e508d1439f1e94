-- What later members of a change set leave out, and until when.
use Rattle.std.specs.Prelude.{ℕ, Bool, true, false, List, Option, Some, None}
use Rattle.std.specs.Str.{bytes_eq}
use Rattle.s80_history.specs.declared.noted.Noted.{Noted}
use Rattle.s80_history.specs.declared.noted.NotedKind.{NotedKind}
use Rattle.s80_history.specs.declared.noted.NotedKind.TheVariants as kinds
use Rattle.s80_history.specs.Lists.{MethodName, is_same}

-- a class's comment, or what a method is by its puts and its classifications
pub data Topic : Type 0 where
  CommentOf : List ℕ → Topic
  MethodOf : MethodName → Topic

abbrev pub class_of : Topic → List ℕ
class_of (CommentOf class) = class
class_of (MethodOf name) = name.class_name

abbrev pub name_of : Noted → MethodName
name_of m = record { class_name = m.class_name; side = m.side; selector = m.selector }

-- the topic of a member of this kind, if it has one
abbrev pub topic_by : NotedKind → Noted → Option Topic
topic_by kinds.Comment m = Some (CommentOf m.class_name)
topic_by kinds.Method m = Some (MethodOf (name_of m))
topic_by kinds.Classify m = Some (MethodOf (name_of m))
topic_by _ m = None

-- whether it has this topic
abbrev pub is_on_by : NotedKind → Topic → Noted → Bool
is_on_by kinds.Comment (CommentOf class) m = bytes_eq class m.class_name
is_on_by kinds.Method (MethodOf name) m = is_same name (name_of m)
is_on_by kinds.Classify (MethodOf name) m = is_same name (name_of m)
is_on_by _ _ _ = false

-- whether it leaves out all before it that has its topic, but for what stands before a removal
abbrev pub is_new_by : NotedKind → Bool
is_new_by kinds.Comment = true
is_new_by kinds.Method = true
is_new_by _ = false

-- as which a member that is restored joins those of its topic: a method's put as a classification, which leaves no version
abbrev pub joining : NotedKind → NotedKind
joining kinds.Method = kinds.Classify
joining kind = kind

-- whether it removes the method
abbrev pub removes_method_by : NotedKind → Topic → Noted → Bool
removes_method_by kinds.RemoveMethod (MethodOf name) m = is_same name (name_of m)
removes_method_by _ _ _ = false

-- whether it removes the class
abbrev pub removes_class_by : NotedKind → List ℕ → Noted → Bool
removes_class_by kinds.RemoveClass class m = bytes_eq class m.class_name
removes_class_by _ _ _ = false

abbrev pub ends_by : NotedKind → Topic → Noted → Bool
ends_by kinds.RemoveMethod u m = removes_method_by kinds.RemoveMethod u m
ends_by kinds.RemoveClass u m = removes_class_by kinds.RemoveClass (class_of u) m
ends_by _ _ _ = false

abbrev pub topic_of : Noted → Option Topic
topic_of m = topic_by m.kind m

abbrev pub is_on : Topic → Noted → Bool
is_on u m = is_on_by m.kind u m

abbrev pub is_new : Noted → Bool
is_new m = is_new_by m.kind

abbrev pub ends : Topic → Noted → Bool
ends u m = ends_by m.kind u m
