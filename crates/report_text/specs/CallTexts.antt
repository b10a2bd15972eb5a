-- The text of a call that is kept from one line to the next.
use Rattle.std.specs.Prelude.{◌≡◌, ℕ, ◌≤◌, List, ◌++◌, length, codes, IfSome}
use Rattle.place_core.specs.declared.name.Declared.{Declared}
use Rattle.place_core.specs.declared.script.Line.{Line}
use Rattle.work_lang.specs.Print.{call_line}
use Rattle.report_text.specs.declared.call_text.CallText.{CallText}

-- a call, up to its reply
abbrev pub call_front : List Declared → Line → List ℕ
call_front objects line = call_line objects line ++ codes " = "

-- the text of the line that it was made for, if it was made for one
abbrev pub IsTextOf : List Declared → CallText → Type 0
IsTextOf objects kept = IfSome kept.line (λ line. (kept.text ≡ call_front objects line) × (length kept.text ≤ 139))
