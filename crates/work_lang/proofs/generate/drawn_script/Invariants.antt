use Rattle.std.specs.Prelude.{◌≡◌, ◌+◌, ◌++◌, length}
use Rattle.place_core.specs.Pieces.{script_lines}
use Rattle.work_lang.specs.Generated.{after_words, script_from}
use Rattle.work_lang.proofs.generate.drawn_script.Given as goal

-- what was drawn, with what is left to be drawn, is the script
abbrev pub invariant-calls : goal.invariant-calls
invariant-calls l = record {
  script : l.script ++ script_from l.left l.generator ≡ script_from l.calls l.fn.generator;
  generator : after_words l.left l.generator ≡ after_words l.calls l.fn.generator;
  pieces : length l.script + l.left ≡ l.calls;
  lines : length (script_lines l.script) + l.left ≡ l.calls;
}

abbrev pub decreases-calls : goal.decreases-calls
decreases-calls l = l.left
