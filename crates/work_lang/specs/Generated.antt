-- Generated workloads: eight objects on `word32`, and calls that a generator of random numbers draws from a seed.
use Rattle.std.specs.Prelude.{ℕ, zero, suc, ◌*◌, ◌/◌, ◌%◌, ◌^◌, ◌==◌, Bool, true, false, ◌&&◌, nat_le, List, [], ◌∷◌, map, None, codes, if◌then◌else◌}
use Rattle.rand_core.specs.Steps.{first_words}
use Rattle.rand_core.specs.Pcg32Seed.{pcg32_seed}
use Rattle.rand_pcg.specs.Lcg.{Lcg, advance}
use Rattle.rand_pcg.specs.Pcg.{multiplier_128, pcg64, pcg64_of_seed}
use Rattle.op_table.specs.declared.call.Call.{Call}
use Rattle.op_table.specs.declared.call.Call.TheVariants.{Add, Sub, Max, Min, Xor, Or, And}
use Rattle.op_table.specs.declared.kind.Kind.{Kind}
use Rattle.op_table.specs.declared.kind.Width.TheVariants.{W8, W16, W32, W64, W128}
use Rattle.op_table.specs.declared.order.Order.TheVariants.{SeqCst}
use Rattle.op_table.specs.Limits.{most_locks}
use Rattle.op_table.specs.Words.{integer}
use Rattle.target_desc.specs.declared.target.Target.{Target}
use Rattle.target_desc.specs.Target.{all_steps}
use Rattle.place_core.specs.declared.name.Declared.{Declared}
use Rattle.place_core.specs.declared.script.Line.{Line}
use Rattle.place_core.specs.declared.script.Piece.{Piece}
use Rattle.place_core.specs.declared.script.Piece.TheVariants.{One}
use Rattle.work_lang.specs.Limits.{most_threads, limits_of}
use Rattle.work_lang.specs.Workload.{Workload}

-- so many threads of so many calls each are within the limits
abbrev pub many_fits : ℕ → ℕ → Bool
many_fits threads calls = nat_le 1 threads && nat_le threads most_threads && nat_le calls (limits_of 1).calls && nat_le (threads * calls) (limits_of 1).calls_in_all

-- ---- the objects

-- the target `word32`
abbrev pub generated_target : Target
generated_target = record { word_bits = 32; packed = true; steps = all_steps; locks = most_locks; section = false; big = false }

abbrev pub declared : List ℕ → Kind → ℕ → Declared
declared name kind start = record { name = name; kind = kind; start = start }

abbrev pub generated_objects : List Declared
generated_objects =
    declared (codes "n8") (integer false W8) 0
    ∷ declared (codes "n16") (integer true W16) 0
    ∷ declared (codes "m32") (integer false W32) 0
    ∷ declared (codes "s32") (integer true W32) 0
    ∷ declared (codes "x64") (integer false W64) 0
    ∷ declared (codes "o8") (integer false W8) 0
    ∷ declared (codes "a16") (integer false W16) 65535
    ∷ declared (codes "w128") (integer false W128) 0
    ∷ []

-- ---- the calls

-- the call on the object of that number, whose operand is so many of these bits as the object has
abbrev pub call_on : ℕ → ℕ → Call
call_on number bits =
    if number == 0 then Add (bits % 2 ^ 8) false
    else if number == 1 then Sub (bits % 2 ^ 16) false
    else if number == 2 then Max (bits % 2 ^ 32)
    else if number == 3 then Min (bits % 2 ^ 32)
    else if number == 4 then Xor (bits % 2 ^ 64) false
    else if number == 5 then Or (bits % 2 ^ 8) false
    else if number == 6 then And (bits % 2 ^ 16) false
    else Add (bits % 2 ^ 128) false

-- the line that a word of 64 bits draws: its lowest three bits are the number of the object
abbrev pub drawn_line : ℕ → Line
drawn_line word = record { call = call_on (word % 8) (word / 8); object = word % 8; success = SeqCst; failure = None }

-- the generator of a seed, and the same after so many words
abbrev pub generator_of : ℕ → Lcg
generator_of seed = pcg64_of_seed (pcg32_seed 32 seed)

abbrev pub after_words : ℕ → Lcg → Lcg
after_words count g = advance 128 multiplier_128 count g

-- the script of a thread of so many calls: a line for each word
abbrev pub script_from : ℕ → Lcg → List Piece
script_from calls g = map (λ word. One (drawn_line word)) (first_words pcg64 calls g)

-- the scripts of so many threads, drawn one thread after another
abbrev pub scripts_from : ℕ → ℕ → Lcg → List (List Piece)
scripts_from zero calls g = []
scripts_from (suc threads) calls g = script_from calls g ∷ scripts_from threads calls (after_words calls g)

-- the workload of a seed
unfoldable pub many_of : ℕ → ℕ → ℕ → Workload
many_of seed threads calls = record {
  version = 1;
  target = generated_target;
  objects = generated_objects;
  scripts = scripts_from threads calls (generator_of seed);
}
