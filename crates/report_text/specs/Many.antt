-- The last values of a generated run, as a list of lines, each with its end.
use Rattle.std.specs.Prelude.{ℕ, List, [], ◌∷◌, ◌++◌, ◌<◌, Option, Some, None, IsSomeAnd, codes, map}
use Rattle.std.specs.Fmt.{decimal}
use Rattle.op_table.specs.declared.call.Reply.{Reply}
use Rattle.op_table.specs.declared.call.Reply.TheVariants as reply
use Rattle.op_table.specs.Kind.{values_of}
use Rattle.place_core.specs.declared.name.Declared.{Declared}
use Rattle.work_lang.specs.Generated.{generated_objects, many_of}
use Rattle.work_lang.specs.Spelling.{Pairs}
use Rattle.report_text.specs.Report.{fixed_of, last_lines}

-- `many SEED THREADS CALLS`
abbrev pub many_head : ℕ → ℕ → ℕ → List ℕ
many_head seed threads calls = codes "many " ++ decimal seed ++ 32 ∷ (decimal threads ++ 32 ∷ (decimal calls ++ 10 ∷ []))

-- the value of a reply
abbrev pub value_replied : Reply → Option ℕ
value_replied (reply.Value v) = Some v
value_replied _ = None

abbrev pub value_reply : Option ℕ → Reply
value_reply None = reply.Unit
value_reply (Some v) = reply.Value v

-- the lines where the last loads replied so: each value is told as a fixed one
abbrev pub many_with : ℕ → ℕ → ℕ → List Declared → List Reply → List (List ℕ)
many_with seed threads calls objects last = many_head seed threads calls ∷ last_lines objects last (map value_replied last)

-- the lines of a generated run, by its three numbers alone: each object with its fixed value
unfoldable pub many_lines : ℕ → ℕ → ℕ → List (List ℕ)
many_lines seed threads calls = many_with seed threads calls generated_objects (map value_reply (fixed_of (many_of seed threads calls)))

-- a value for each object, of its kind
abbrev pub AreValues : List Declared → List Reply → Type 0
AreValues objects replies = Pairs (λ (d : Declared) r. IsSomeAnd (value_replied r) (λ v. v < values_of d.kind)) objects replies
