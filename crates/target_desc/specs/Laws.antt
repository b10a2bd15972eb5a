-- Laws of targets and their texts.
use Rattle.std.specs.Prelude.{◌≡◌, ◌↔◌, ℕ, ◌≤◌, Bool, true, ◌&&◌, nat_le, List, length, Some, Ok}
use Rattle.std.specs.List.{AllByRecursion, list_all}
use Rattle.line_words.specs.Text.{words_of}
use Rattle.line_words.specs.Cursor.{Cursor}
use Rattle.op_table.specs.Laws.{IsWordUpTo}
use Rattle.target_desc.specs.declared.target.Target.{Target}
use Rattle.target_desc.specs.Target.{IsTarget, IsOfVersion, builtin_of}
use Rattle.target_desc.specs.Reading.{target_at, reading_of_target}
use Rattle.target_desc.specs.Text.{description_text, target_words, target_text}
use Rattle.target_desc.specs.Spelling.{IsName, IsTargetText}

abbrev pub is_printable : ℕ → Bool
is_printable b = nat_le 32 b && nat_le b 126

-- what is printed of a target is read again in a version that it is of
abbrev pub PrintedIsRead : Type 0
PrintedIsRead = (version : ℕ) (t : Target) → IsTarget t → IsOfVersion version t → reading_of_target version (target_text t) ≡ Ok t

-- what is read is a target of the version
abbrev pub ReadIsTarget : Type 0
ReadIsTarget = (version : ℕ) (c : Cursor) (t : Target) → target_at version c ≡ Ok t → IsTarget t × IsOfVersion version t

-- words are read as a target exactly where they say it
abbrev pub ReadingIsSpelling : Type 0
ReadingIsSpelling = (version : ℕ) (c : Cursor) (t : Target) → (target_at version c ≡ Ok t) ↔ IsTargetText version c.left t

-- words say one target at most, whatever the version
abbrev pub SpellsOne : Type 0
SpellsOne = (v w : ℕ) (words : List (List ℕ)) (s t : Target) → IsTargetText v words s → IsTargetText w words t → s ≡ t

-- the names of the table, and no other word, are names of targets
abbrev pub BuiltinIsName : Type 0
BuiltinIsName = (name : List ℕ) (t : Target) → (builtin_of name ≡ Some t) ↔ IsName name t

-- those of the table are targets
abbrev pub NamedIsTarget : Type 0
NamedIsTarget = (name : List ℕ) (t : Target) → IsName name t → IsTarget t

-- and of each version
abbrev pub NamedIsOfVersion : Type 0
NamedIsOfVersion = (version : ℕ) (name : List ℕ) (t : Target) → IsName name t → IsOfVersion version t

-- a target that has a name is printed as it
abbrev pub NameIsPrinted : Type 0
NameIsPrinted = (name : List ℕ) (t : Target) → IsName name t → target_text t ≡ name

-- every other target is printed as its description
abbrev pub DescriptionIsPrinted : Type 0
DescriptionIsPrinted = (t : Target) → ((name : List ℕ) → IsName name t → ⊥) → target_text t ≡ description_text t

-- the text of a target has at most 44 bytes
abbrev pub TextIsShort : Type 0
TextIsShort = (t : Target) → IsTarget t → length (target_text t) ≤ 44

-- its bytes are 32 to 126
abbrev pub TextIsPrintable : Type 0
TextIsPrintable = (t : Target) → IsTarget t → list_all is_printable (target_text t) ≡ true

-- its words have no spaces and no controls, and are those of the text
abbrev pub WordsArePlain : Type 0
WordsArePlain = (t : Target) → IsTarget t → AllByRecursion (IsWordUpTo 19) (target_words t)

abbrev pub TextHasWords : Type 0
TextHasWords = (t : Target) → IsTarget t → words_of (target_text t) ≡ target_words t
