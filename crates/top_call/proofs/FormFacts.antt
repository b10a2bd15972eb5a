-- The forms of the command line: each side computes.
use Rattle.std.proofs.Common.{◌≡◌, ◌∙◌, ℕ, List, [], ◌∷◌, ap, refl, sym, subst}
use Rattle.std.specs.Prelude.{Some, None, Option, String, codes}
use Rattle.std.specs.declared.alloc.Global.{Global}
use Rattle.clap.specs.Words.{Text, fault_of, subcommand_of}
use Rattle.clap.specs.Faults.{flags_fault, walk_fault, defaults_fault}
use Rattle.clap.specs.Takes.{flags_pass, walk_passes}
use Rattle.clap.specs.Walk.{bundle_met, walked}
use Rattle.op_table.specs.Value.{parsed_value}
use Rattle.top_call.specs.declared.command.Command.{Command}
use Rattle.top_call.specs.declared.command.Command.TheVariants.{Run, Check, Convert, Plan, Targets, Many}
use Rattle.top_call.specs.CommandLine.{command_line}
use Rattle.top_call.specs.Commands.{command_of, command_in, texts_of, unless_refused, number_of, target_named}
use Rattle.top_call.specs.Forms.{Asks, full64, word64, word32, cas32, section32, EachFormAsks, OthersAskNothing}

-- what texts ask for
asked_by : List Text → Option Command
asked_by texts = unless_refused (fault_of command_line texts) (command_in (subcommand_of command_line texts))

asks : (texts : List Text) (asked : Option Command) → asked_by texts ≡ asked → Asks texts asked
unfolding command_of asked_by
asks texts asked by words is = ap asked_by is ∙ by

by_run_alone : asked_by (codes "run" ∷ []) ≡ (Some (Run None))
unfolding asked_by command_of command_line command_in number_of target_named flags_fault walk_fault defaults_fault flags_pass walk_passes bundle_met walked parsed_value
by_run_alone = refl

by_check_alone : asked_by (codes "check" ∷ []) ≡ (Some (Check))
unfolding asked_by command_of command_line command_in number_of target_named flags_fault walk_fault defaults_fault flags_pass walk_passes bundle_met walked parsed_value
by_check_alone = refl

by_convert_alone : asked_by (codes "convert" ∷ []) ≡ (Some (Convert))
unfolding asked_by command_of command_line command_in number_of target_named flags_fault walk_fault defaults_fault flags_pass walk_passes bundle_met walked parsed_value
by_convert_alone = refl

by_plan_alone : asked_by (codes "plan" ∷ []) ≡ (Some (Plan None))
unfolding asked_by command_of command_line command_in number_of target_named flags_fault walk_fault defaults_fault flags_pass walk_passes bundle_met walked parsed_value
by_plan_alone = refl

by_targets_alone : asked_by (codes "targets" ∷ []) ≡ (Some (Targets))
unfolding asked_by command_of command_line command_in number_of target_named flags_fault walk_fault defaults_fault flags_pass walk_passes bundle_met walked parsed_value
by_targets_alone = refl

by_run_on_full64 : asked_by (codes "run" ∷ codes "--target" ∷ codes "full64" ∷ []) ≡ (Some (Run (Some (full64))))
unfolding asked_by command_of command_line command_in number_of target_named flags_fault walk_fault defaults_fault flags_pass walk_passes bundle_met walked parsed_value
by_run_on_full64 = refl

by_plan_on_full64 : asked_by (codes "plan" ∷ codes "--target" ∷ codes "full64" ∷ []) ≡ (Some (Plan (Some (full64))))
unfolding asked_by command_of command_line command_in number_of target_named flags_fault walk_fault defaults_fault flags_pass walk_passes bundle_met walked parsed_value
by_plan_on_full64 = refl

by_run_on_word64 : asked_by (codes "run" ∷ codes "--target" ∷ codes "word64" ∷ []) ≡ (Some (Run (Some (word64))))
unfolding asked_by command_of command_line command_in number_of target_named flags_fault walk_fault defaults_fault flags_pass walk_passes bundle_met walked parsed_value
by_run_on_word64 = refl

by_plan_on_word64 : asked_by (codes "plan" ∷ codes "--target" ∷ codes "word64" ∷ []) ≡ (Some (Plan (Some (word64))))
unfolding asked_by command_of command_line command_in number_of target_named flags_fault walk_fault defaults_fault flags_pass walk_passes bundle_met walked parsed_value
by_plan_on_word64 = refl

by_run_on_word32 : asked_by (codes "run" ∷ codes "--target" ∷ codes "word32" ∷ []) ≡ (Some (Run (Some (word32))))
unfolding asked_by command_of command_line command_in number_of target_named flags_fault walk_fault defaults_fault flags_pass walk_passes bundle_met walked parsed_value
by_run_on_word32 = refl

by_plan_on_word32 : asked_by (codes "plan" ∷ codes "--target" ∷ codes "word32" ∷ []) ≡ (Some (Plan (Some (word32))))
unfolding asked_by command_of command_line command_in number_of target_named flags_fault walk_fault defaults_fault flags_pass walk_passes bundle_met walked parsed_value
by_plan_on_word32 = refl

by_run_on_cas32 : asked_by (codes "run" ∷ codes "--target" ∷ codes "cas32" ∷ []) ≡ (Some (Run (Some (cas32))))
unfolding asked_by command_of command_line command_in number_of target_named flags_fault walk_fault defaults_fault flags_pass walk_passes bundle_met walked parsed_value
by_run_on_cas32 = refl

by_plan_on_cas32 : asked_by (codes "plan" ∷ codes "--target" ∷ codes "cas32" ∷ []) ≡ (Some (Plan (Some (cas32))))
unfolding asked_by command_of command_line command_in number_of target_named flags_fault walk_fault defaults_fault flags_pass walk_passes bundle_met walked parsed_value
by_plan_on_cas32 = refl

by_run_on_section32 : asked_by (codes "run" ∷ codes "--target" ∷ codes "section32" ∷ []) ≡ (Some (Run (Some (section32))))
unfolding asked_by command_of command_line command_in number_of target_named flags_fault walk_fault defaults_fault flags_pass walk_passes bundle_met walked parsed_value
by_run_on_section32 = refl

by_plan_on_section32 : asked_by (codes "plan" ∷ codes "--target" ∷ codes "section32" ∷ []) ≡ (Some (Plan (Some (section32))))
unfolding asked_by command_of command_line command_in number_of target_named flags_fault walk_fault defaults_fault flags_pass walk_passes bundle_met walked parsed_value
by_plan_on_section32 = refl

by_many_of_eight : asked_by (codes "many" ∷ codes "7" ∷ codes "8" ∷ codes "10000" ∷ []) ≡ (Some (Many 7 8 10000))
unfolding asked_by command_of command_line command_in number_of target_named flags_fault walk_fault defaults_fault flags_pass walk_passes bundle_met walked parsed_value
by_many_of_eight = refl

by_many_of_none : asked_by (codes "many" ∷ codes "7" ∷ codes "1" ∷ codes "0" ∷ []) ≡ (Some (Many 7 1 0))
unfolding asked_by command_of command_line command_in number_of target_named flags_fault walk_fault defaults_fault flags_pass walk_passes bundle_met walked parsed_value
by_many_of_none = refl

by_many_of_the_last_seed : asked_by (codes "many" ∷ codes "18446744073709551615" ∷ codes "64" ∷ codes "15625" ∷ []) ≡ (Some (Many 18446744073709551615 64 15625))
unfolding asked_by command_of command_line command_in number_of target_named flags_fault walk_fault defaults_fault flags_pass walk_passes bundle_met walked parsed_value
by_many_of_the_last_seed = refl

by_no_words : asked_by [] ≡ None
unfolding asked_by command_of command_line command_in number_of target_named flags_fault walk_fault defaults_fault flags_pass walk_passes bundle_met walked parsed_value
by_no_words = refl

by_run_on_none : asked_by (codes "run" ∷ codes "--target" ∷ codes "none" ∷ []) ≡ None
unfolding asked_by command_of command_line command_in number_of target_named flags_fault walk_fault defaults_fault flags_pass walk_passes bundle_met walked parsed_value
by_run_on_none = refl

by_run_with_more : asked_by (codes "run" ∷ codes "full64" ∷ []) ≡ None
unfolding asked_by command_of command_line command_in number_of target_named flags_fault walk_fault defaults_fault flags_pass walk_passes bundle_met walked parsed_value
by_run_with_more = refl

by_run_on_nothing : asked_by (codes "run" ∷ codes "--target" ∷ []) ≡ None
unfolding asked_by command_of command_line command_in number_of target_named flags_fault walk_fault defaults_fault flags_pass walk_passes bundle_met walked parsed_value
by_run_on_nothing = refl

by_run_on_two : asked_by (codes "run" ∷ codes "--target" ∷ codes "full64" ∷ codes "word64" ∷ []) ≡ None
unfolding asked_by command_of command_line command_in number_of target_named flags_fault walk_fault defaults_fault flags_pass walk_passes bundle_met walked parsed_value
by_run_on_two = refl

by_check_with_target : asked_by (codes "check" ∷ codes "--target" ∷ codes "full64" ∷ []) ≡ None
unfolding asked_by command_of command_line command_in number_of target_named flags_fault walk_fault defaults_fault flags_pass walk_passes bundle_met walked parsed_value
by_check_with_target = refl

by_convert_with_more : asked_by (codes "convert" ∷ codes "x" ∷ []) ≡ None
unfolding asked_by command_of command_line command_in number_of target_named flags_fault walk_fault defaults_fault flags_pass walk_passes bundle_met walked parsed_value
by_convert_with_more = refl

by_targets_with_more : asked_by (codes "targets" ∷ codes "x" ∷ []) ≡ None
unfolding asked_by command_of command_line command_in number_of target_named flags_fault walk_fault defaults_fault flags_pass walk_passes bundle_met walked parsed_value
by_targets_with_more = refl

by_target_first : asked_by (codes "--target" ∷ codes "full64" ∷ codes "run" ∷ []) ≡ None
unfolding asked_by command_of command_line command_in number_of target_named flags_fault walk_fault defaults_fault flags_pass walk_passes bundle_met walked parsed_value
by_target_first = refl

by_great_word : asked_by (codes "Run" ∷ []) ≡ None
unfolding asked_by command_of command_line command_in number_of target_named flags_fault walk_fault defaults_fault flags_pass walk_passes bundle_met walked parsed_value
by_great_word = refl

by_unknown_word : asked_by (codes "describe" ∷ []) ≡ None
unfolding asked_by command_of command_line command_in number_of target_named flags_fault walk_fault defaults_fault flags_pass walk_passes bundle_met walked parsed_value
by_unknown_word = refl

by_empty_word : asked_by ([] ∷ []) ≡ None
unfolding asked_by command_of command_line command_in number_of target_named flags_fault walk_fault defaults_fault flags_pass walk_passes bundle_met walked parsed_value
by_empty_word = refl

by_many_without_calls : asked_by (codes "many" ∷ codes "7" ∷ codes "8" ∷ []) ≡ None
unfolding asked_by command_of command_line command_in number_of target_named flags_fault walk_fault defaults_fault flags_pass walk_passes bundle_met walked parsed_value
by_many_without_calls = refl

by_many_with_more : asked_by (codes "many" ∷ codes "7" ∷ codes "8" ∷ codes "1" ∷ codes "1" ∷ []) ≡ None
unfolding asked_by command_of command_line command_in number_of target_named flags_fault walk_fault defaults_fault flags_pass walk_passes bundle_met walked parsed_value
by_many_with_more = refl

by_many_of_no_threads : asked_by (codes "many" ∷ codes "7" ∷ codes "0" ∷ codes "5" ∷ []) ≡ None
unfolding asked_by command_of command_line command_in number_of target_named flags_fault walk_fault defaults_fault flags_pass walk_passes bundle_met walked parsed_value
by_many_of_no_threads = refl

by_many_of_too_many_threads : asked_by (codes "many" ∷ codes "7" ∷ codes "65" ∷ codes "1" ∷ []) ≡ None
unfolding asked_by command_of command_line command_in number_of target_named flags_fault walk_fault defaults_fault flags_pass walk_passes bundle_met walked parsed_value
by_many_of_too_many_threads = refl

by_many_of_no_number : asked_by (codes "many" ∷ codes "x" ∷ codes "1" ∷ codes "1" ∷ []) ≡ None
unfolding asked_by command_of command_line command_in number_of target_named flags_fault walk_fault defaults_fault flags_pass walk_passes bundle_met walked parsed_value
by_many_of_no_number = refl

by_many_of_a_spare_zero : asked_by (codes "many" ∷ codes "07" ∷ codes "1" ∷ codes "1" ∷ []) ≡ None
unfolding asked_by command_of command_line command_in number_of target_named flags_fault walk_fault defaults_fault flags_pass walk_passes bundle_met walked parsed_value
by_many_of_a_spare_zero = refl

by_many_of_a_great_seed : asked_by (codes "many" ∷ codes "18446744073709551616" ∷ codes "1" ∷ codes "1" ∷ []) ≡ None
unfolding asked_by command_of command_line command_in number_of target_named flags_fault walk_fault defaults_fault flags_pass walk_passes bundle_met walked parsed_value
by_many_of_a_great_seed = refl

by_help_word : asked_by (codes "help" ∷ []) ≡ None
unfolding asked_by command_of command_line command_in number_of target_named flags_fault walk_fault defaults_fault flags_pass walk_passes bundle_met walked parsed_value
by_help_word = refl

by_help_flag : asked_by (codes "--help" ∷ []) ≡ None
unfolding asked_by command_of command_line command_in number_of target_named flags_fault walk_fault defaults_fault flags_pass walk_passes bundle_met walked parsed_value
by_help_flag = refl

pub each_form : EachFormAsks
each_form = record {
  run_alone = asks (codes "run" ∷ []) (Some (Run None)) by_run_alone;
  check_alone = asks (codes "check" ∷ []) (Some (Check)) by_check_alone;
  convert_alone = asks (codes "convert" ∷ []) (Some (Convert)) by_convert_alone;
  plan_alone = asks (codes "plan" ∷ []) (Some (Plan None)) by_plan_alone;
  targets_alone = asks (codes "targets" ∷ []) (Some (Targets)) by_targets_alone;
  run_on_full64 = asks (codes "run" ∷ codes "--target" ∷ codes "full64" ∷ []) (Some (Run (Some (full64)))) by_run_on_full64;
  plan_on_full64 = asks (codes "plan" ∷ codes "--target" ∷ codes "full64" ∷ []) (Some (Plan (Some (full64)))) by_plan_on_full64;
  run_on_word64 = asks (codes "run" ∷ codes "--target" ∷ codes "word64" ∷ []) (Some (Run (Some (word64)))) by_run_on_word64;
  plan_on_word64 = asks (codes "plan" ∷ codes "--target" ∷ codes "word64" ∷ []) (Some (Plan (Some (word64)))) by_plan_on_word64;
  run_on_word32 = asks (codes "run" ∷ codes "--target" ∷ codes "word32" ∷ []) (Some (Run (Some (word32)))) by_run_on_word32;
  plan_on_word32 = asks (codes "plan" ∷ codes "--target" ∷ codes "word32" ∷ []) (Some (Plan (Some (word32)))) by_plan_on_word32;
  run_on_cas32 = asks (codes "run" ∷ codes "--target" ∷ codes "cas32" ∷ []) (Some (Run (Some (cas32)))) by_run_on_cas32;
  plan_on_cas32 = asks (codes "plan" ∷ codes "--target" ∷ codes "cas32" ∷ []) (Some (Plan (Some (cas32)))) by_plan_on_cas32;
  run_on_section32 = asks (codes "run" ∷ codes "--target" ∷ codes "section32" ∷ []) (Some (Run (Some (section32)))) by_run_on_section32;
  plan_on_section32 = asks (codes "plan" ∷ codes "--target" ∷ codes "section32" ∷ []) (Some (Plan (Some (section32)))) by_plan_on_section32;
  many_of_eight = asks (codes "many" ∷ codes "7" ∷ codes "8" ∷ codes "10000" ∷ []) (Some (Many 7 8 10000)) by_many_of_eight;
  many_of_none = asks (codes "many" ∷ codes "7" ∷ codes "1" ∷ codes "0" ∷ []) (Some (Many 7 1 0)) by_many_of_none;
  many_of_the_last_seed = asks (codes "many" ∷ codes "18446744073709551615" ∷ codes "64" ∷ codes "15625" ∷ []) (Some (Many 18446744073709551615 64 15625)) by_many_of_the_last_seed;
}

pub others : OthersAskNothing
others = record {
  no_words = asks [] None by_no_words;
  run_on_none = asks (codes "run" ∷ codes "--target" ∷ codes "none" ∷ []) None by_run_on_none;
  run_with_more = asks (codes "run" ∷ codes "full64" ∷ []) None by_run_with_more;
  run_on_nothing = asks (codes "run" ∷ codes "--target" ∷ []) None by_run_on_nothing;
  run_on_two = asks (codes "run" ∷ codes "--target" ∷ codes "full64" ∷ codes "word64" ∷ []) None by_run_on_two;
  check_with_target = asks (codes "check" ∷ codes "--target" ∷ codes "full64" ∷ []) None by_check_with_target;
  convert_with_more = asks (codes "convert" ∷ codes "x" ∷ []) None by_convert_with_more;
  targets_with_more = asks (codes "targets" ∷ codes "x" ∷ []) None by_targets_with_more;
  target_first = asks (codes "--target" ∷ codes "full64" ∷ codes "run" ∷ []) None by_target_first;
  great_word = asks (codes "Run" ∷ []) None by_great_word;
  unknown_word = asks (codes "describe" ∷ []) None by_unknown_word;
  empty_word = asks ([] ∷ []) None by_empty_word;
  many_without_calls = asks (codes "many" ∷ codes "7" ∷ codes "8" ∷ []) None by_many_without_calls;
  many_with_more = asks (codes "many" ∷ codes "7" ∷ codes "8" ∷ codes "1" ∷ codes "1" ∷ []) None by_many_with_more;
  many_of_no_threads = asks (codes "many" ∷ codes "7" ∷ codes "0" ∷ codes "5" ∷ []) None by_many_of_no_threads;
  many_of_too_many_threads = asks (codes "many" ∷ codes "7" ∷ codes "65" ∷ codes "1" ∷ []) None by_many_of_too_many_threads;
  many_of_no_number = asks (codes "many" ∷ codes "x" ∷ codes "1" ∷ codes "1" ∷ []) None by_many_of_no_number;
  many_of_a_spare_zero = asks (codes "many" ∷ codes "07" ∷ codes "1" ∷ codes "1" ∷ []) None by_many_of_a_spare_zero;
  many_of_a_great_seed = asks (codes "many" ∷ codes "18446744073709551616" ∷ codes "1" ∷ codes "1" ∷ []) None by_many_of_a_great_seed;
  help_word = asks (codes "help" ∷ []) None by_help_word;
  help_flag = asks (codes "--help" ∷ []) None by_help_flag;
}
