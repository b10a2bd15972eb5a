-- The one canonical text of a workload: no comment, no empty line, no spare space, and no order that may be left out.
use Rattle.std.specs.Prelude.{ℕ, List, [], ◌∷◌, ◌++◌, map, codes, ◌==◌, if◌then◌else◌}
use Rattle.std.specs.List.{flat_map}
use Rattle.op_table.specs.Value.{value_text}
use Rattle.op_table.specs.Words.{kind_word}
use Rattle.target_desc.specs.declared.target.Target.{Target}
use Rattle.target_desc.specs.Text.{target_text}
use Rattle.place_core.specs.declared.name.Declared.{Declared}
use Rattle.place_core.specs.declared.script.Line.{Line}
use Rattle.place_core.specs.declared.script.Piece.{Piece}
use Rattle.place_core.specs.declared.script.Piece.TheVariants.{One, Block}
use Rattle.work_lang.specs.Operands.{position_kind}
use Rattle.work_lang.specs.Streams.{text_of}
use Rattle.work_lang.specs.Workload.{Workload}
use Rattle.work_lang.specs.Print.{call_line}

-- the line of a target, with its end
unfoldable pub target_line : Target → List ℕ
target_line t = codes "target " ++ target_text t ++ 10 ∷ []

-- the line of an object
unfoldable pub object_line : Declared → List ℕ
object_line d = codes "object " ++ d.name ++ 32 ∷ (kind_word d.kind ++ 32 ∷ (value_text d.kind d.start ++ 10 ∷ []))

-- the line of a call
abbrev pub ended_call_line : List Declared → Line → List ℕ
ended_call_line objects l = call_line objects l ++ 10 ∷ []

-- the line that opens a block
unfoldable pub repeat_line : ℕ → List ℕ
repeat_line times = codes "repeat: " ++ value_text position_kind times ++ 10 ∷ []

-- the lines of a block stand between one that says how often it is made and one that closes it
abbrev pub block_texts : List Declared → ℕ → List Line → List (List ℕ)
block_texts objects times lines = repeat_line times ∷ (map (ended_call_line objects) lines ++ codes "end\n" ∷ [])

-- the lines of a piece
abbrev pub piece_texts : List Declared → Piece → List (List ℕ)
piece_texts objects (One line) = ended_call_line objects line ∷ []
piece_texts objects (Block times lines) = block_texts objects times lines

-- the lines of a thread
abbrev pub thread_lines : List Declared → List Piece → List (List ℕ)
thread_lines objects script = codes "thread\n" ∷ (flat_map (piece_texts objects) script ++ codes "end\n" ∷ [])

-- the line of a version
abbrev pub version_line : ℕ → List ℕ
version_line version = if version == 1 then codes "work 1\n" else codes "work 2\n"

-- the lines of a workload, each with its end
abbrev pub canonical_lines : Workload → List (List ℕ)
canonical_lines w = version_line w.version ∷ target_line w.target ∷ (map object_line w.objects ++ flat_map (thread_lines w.objects) w.scripts)

unfoldable pub canonical_text : Workload → List ℕ
canonical_text w = text_of (canonical_lines w)
