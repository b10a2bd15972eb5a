-- The forms of the command line, word by word.
use Rattle.std.specs.Prelude.{◌≡◌, ℕ, List, [], ◌∷◌, Some, None, Option, true, false, String, codes}
use Rattle.std.specs.declared.alloc.Global.{Global}
use Rattle.clap.specs.Words.{Text}
use Rattle.target_desc.specs.declared.target.Target.{Target}
use Rattle.target_desc.specs.Target.{all_steps, no_steps}
use Rattle.top_call.specs.declared.command.Command.{Command}
use Rattle.top_call.specs.declared.command.Command.TheVariants.{Run, Check, Convert, Plan, Targets, Many}
use Rattle.top_call.specs.Commands.{command_of, texts_of}

-- words of these texts ask for this
abbrev pub Asks : List Text → Option Command → Type 0
Asks texts asked = (words : List (String Global)) → texts_of words ≡ texts → command_of words ≡ asked

-- ---- the built-in targets

abbrev pub full64 : Target
full64 = record { word_bits = 64; packed = false; steps = all_steps; locks = 67; section = false; big = false }

abbrev pub word64 : Target
word64 = record { word_bits = 64; packed = true; steps = all_steps; locks = 67; section = false; big = false }

abbrev pub word32 : Target
word32 = record { word_bits = 32; packed = true; steps = all_steps; locks = 67; section = false; big = false }

abbrev pub cas32 : Target
cas32 = record { word_bits = 32; packed = true; steps = no_steps; locks = 67; section = false; big = false }

abbrev pub section32 : Target
section32 = record { word_bits = 32; packed = false; steps = no_steps; locks = 1; section = true; big = false }

-- ---- forms

-- each form of the table of commands asks for its command; of `many`, whose numbers are many, these
pub record EachFormAsks : Type 0 where
  pub run_alone : Asks (codes "run" ∷ []) (Some (Run None))
  pub check_alone : Asks (codes "check" ∷ []) (Some (Check))
  pub convert_alone : Asks (codes "convert" ∷ []) (Some (Convert))
  pub plan_alone : Asks (codes "plan" ∷ []) (Some (Plan None))
  pub targets_alone : Asks (codes "targets" ∷ []) (Some (Targets))
  pub run_on_full64 : Asks (codes "run" ∷ codes "--target" ∷ codes "full64" ∷ []) (Some (Run (Some (full64))))
  pub plan_on_full64 : Asks (codes "plan" ∷ codes "--target" ∷ codes "full64" ∷ []) (Some (Plan (Some (full64))))
  pub run_on_word64 : Asks (codes "run" ∷ codes "--target" ∷ codes "word64" ∷ []) (Some (Run (Some (word64))))
  pub plan_on_word64 : Asks (codes "plan" ∷ codes "--target" ∷ codes "word64" ∷ []) (Some (Plan (Some (word64))))
  pub run_on_word32 : Asks (codes "run" ∷ codes "--target" ∷ codes "word32" ∷ []) (Some (Run (Some (word32))))
  pub plan_on_word32 : Asks (codes "plan" ∷ codes "--target" ∷ codes "word32" ∷ []) (Some (Plan (Some (word32))))
  pub run_on_cas32 : Asks (codes "run" ∷ codes "--target" ∷ codes "cas32" ∷ []) (Some (Run (Some (cas32))))
  pub plan_on_cas32 : Asks (codes "plan" ∷ codes "--target" ∷ codes "cas32" ∷ []) (Some (Plan (Some (cas32))))
  pub run_on_section32 : Asks (codes "run" ∷ codes "--target" ∷ codes "section32" ∷ []) (Some (Run (Some (section32))))
  pub plan_on_section32 : Asks (codes "plan" ∷ codes "--target" ∷ codes "section32" ∷ []) (Some (Plan (Some (section32))))
  pub many_of_eight : Asks (codes "many" ∷ codes "7" ∷ codes "8" ∷ codes "10000" ∷ []) (Some (Many 7 8 10000))
  pub many_of_none : Asks (codes "many" ∷ codes "7" ∷ codes "1" ∷ codes "0" ∷ []) (Some (Many 7 1 0))
  pub many_of_the_last_seed : Asks (codes "many" ∷ codes "18446744073709551615" ∷ codes "64" ∷ codes "15625" ∷ []) (Some (Many 18446744073709551615 64 15625))

-- other words that look like a form ask for nothing
pub record OthersAskNothing : Type 0 where
  pub no_words : Asks [] None
  pub run_on_none : Asks (codes "run" ∷ codes "--target" ∷ codes "none" ∷ []) None
  pub run_with_more : Asks (codes "run" ∷ codes "full64" ∷ []) None
  pub run_on_nothing : Asks (codes "run" ∷ codes "--target" ∷ []) None
  pub run_on_two : Asks (codes "run" ∷ codes "--target" ∷ codes "full64" ∷ codes "word64" ∷ []) None
  pub check_with_target : Asks (codes "check" ∷ codes "--target" ∷ codes "full64" ∷ []) None
  pub convert_with_more : Asks (codes "convert" ∷ codes "x" ∷ []) None
  pub targets_with_more : Asks (codes "targets" ∷ codes "x" ∷ []) None
  pub target_first : Asks (codes "--target" ∷ codes "full64" ∷ codes "run" ∷ []) None
  pub great_word : Asks (codes "Run" ∷ []) None
  pub unknown_word : Asks (codes "describe" ∷ []) None
  pub empty_word : Asks ([] ∷ []) None
  pub many_without_calls : Asks (codes "many" ∷ codes "7" ∷ codes "8" ∷ []) None
  pub many_with_more : Asks (codes "many" ∷ codes "7" ∷ codes "8" ∷ codes "1" ∷ codes "1" ∷ []) None
  pub many_of_no_threads : Asks (codes "many" ∷ codes "7" ∷ codes "0" ∷ codes "5" ∷ []) None
  pub many_of_too_many_threads : Asks (codes "many" ∷ codes "7" ∷ codes "65" ∷ codes "1" ∷ []) None
  pub many_of_no_number : Asks (codes "many" ∷ codes "x" ∷ codes "1" ∷ codes "1" ∷ []) None
  pub many_of_a_spare_zero : Asks (codes "many" ∷ codes "07" ∷ codes "1" ∷ codes "1" ∷ []) None
  pub many_of_a_great_seed : Asks (codes "many" ∷ codes "18446744073709551616" ∷ codes "1" ∷ codes "1" ∷ []) None
  pub help_word : Asks (codes "help" ∷ []) None
  pub help_flag : Asks (codes "--help" ∷ []) None
