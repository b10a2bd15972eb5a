-- What texts are read as, by example: each side computes.
use Rattle.std.proofs.Common.{◌≡◌, [], ◌∷◌, refl}
use Rattle.std.specs.Prelude.{codes}
use Rattle.line_words.specs.Text.{lines_of, words_of}
use Rattle.op_table.specs.Value.{parsed_value}
use Rattle.op_table.specs.Words.{kind_of_word, operation_of_word}
use Rattle.op_table.specs.Orders.{order_of_word}
use Rattle.target_desc.specs.Fields.{steps_of}
use Rattle.target_desc.specs.Reading.{word_at as target_word_at, need_at as target_need_at, end_at as target_end_at, big_word_at, no_big_at, big_at, description_at, target_at}
use Rattle.work_lang.specs.declared.fault.Cause.TheVariants as causes
use Rattle.work_lang.specs.Slips.{word_at, end_at, need_at, check_at, value_at}
use Rattle.work_lang.specs.Reading.{version_at, target_line_at, object_at, thread_at, number_at, one_operand_at, two_operands_at, operands_at, operation_in, operation_at, order_at, one_order_at, two_orders_at, orders_at, call_at, repeat_at, first_thread_at, next_thread_at, in_thread_at, item_at, content_at, after_line, run, reading_of}
use Rattle.work_lang.specs.Vectors.{HasFault, NoObjectsIsRead, OneThreadIsRead, CommentsAndSpacesIsRead, LanesIsRead, InASectionIsRead, KindsOfValuesIsRead, BoolsAndPointersIsRead, ABlockIsRead, ANewValueIsRead, ABigTargetIsRead, TwoThreadsIsRead, WeakExchangeIsRead, EightBytesIsRead, ALeastValueIsRead, ANandIsRead, AMinimumIsRead, PositionsIsRead, FourWordsIsRead, NoThreadsIsRead, EqualLinesIsRead, AUsualWorkloadIsRead}

pub empty_text : HasFault [] 0 0 causes.Missing
unfolding lines_of words_of parsed_value kind_of_word operation_of_word order_of_word steps_of target_word_at target_need_at target_end_at big_word_at no_big_at big_at description_at target_at word_at end_at need_at check_at value_at version_at target_line_at object_at thread_at number_at one_operand_at two_operands_at operands_at operation_in operation_at order_at one_order_at two_orders_at orders_at call_at repeat_at first_thread_at next_thread_at in_thread_at item_at content_at after_line run reading_of
empty_text = refl

pub empty_line : HasFault ([] ∷ []) 1 0 causes.Missing
unfolding lines_of words_of parsed_value kind_of_word operation_of_word order_of_word steps_of target_word_at target_need_at target_end_at big_word_at no_big_at big_at description_at target_at word_at end_at need_at check_at value_at version_at target_line_at object_at thread_at number_at one_operand_at two_operands_at operands_at operation_in operation_at order_at one_order_at two_orders_at orders_at call_at repeat_at first_thread_at next_thread_at in_thread_at item_at content_at after_line run reading_of
empty_line = refl

pub version_alone : HasFault (codes "work 1" ∷ []) 1 0 causes.Missing
unfolding lines_of words_of parsed_value kind_of_word operation_of_word order_of_word steps_of target_word_at target_need_at target_end_at big_word_at no_big_at big_at description_at target_at word_at end_at need_at check_at value_at version_at target_line_at object_at thread_at number_at one_operand_at two_operands_at operands_at operation_in operation_at order_at one_order_at two_orders_at orders_at call_at repeat_at first_thread_at next_thread_at in_thread_at item_at content_at after_line run reading_of
version_alone = refl

pub version_three : HasFault (codes "work 3" ∷ []) 1 2 causes.Version
unfolding lines_of words_of parsed_value kind_of_word operation_of_word order_of_word steps_of target_word_at target_need_at target_end_at big_word_at no_big_at big_at description_at target_at word_at end_at need_at check_at value_at version_at target_line_at object_at thread_at number_at one_operand_at two_operands_at operands_at operation_in operation_at order_at one_order_at two_orders_at orders_at call_at repeat_at first_thread_at next_thread_at in_thread_at item_at content_at after_line run reading_of
version_three = refl

pub version_missing : HasFault (codes "work" ∷ []) 1 2 causes.Missing
unfolding lines_of words_of parsed_value kind_of_word operation_of_word order_of_word steps_of target_word_at target_need_at target_end_at big_word_at no_big_at big_at description_at target_at word_at end_at need_at check_at value_at version_at target_line_at object_at thread_at number_at one_operand_at two_operands_at operands_at operation_in operation_at order_at one_order_at two_orders_at orders_at call_at repeat_at first_thread_at next_thread_at in_thread_at item_at content_at after_line run reading_of
version_missing = refl

pub version_word_wrong : HasFault (codes "works 1" ∷ []) 1 1 causes.Version
unfolding lines_of words_of parsed_value kind_of_word operation_of_word order_of_word steps_of target_word_at target_need_at target_end_at big_word_at no_big_at big_at description_at target_at word_at end_at need_at check_at value_at version_at target_line_at object_at thread_at number_at one_operand_at two_operands_at operands_at operation_in operation_at order_at one_order_at two_orders_at orders_at call_at repeat_at first_thread_at next_thread_at in_thread_at item_at content_at after_line run reading_of
version_word_wrong = refl

pub version_with_more : HasFault (codes "work 1 1" ∷ []) 1 3 causes.Extra
unfolding lines_of words_of parsed_value kind_of_word operation_of_word order_of_word steps_of target_word_at target_need_at target_end_at big_word_at no_big_at big_at description_at target_at word_at end_at need_at check_at value_at version_at target_line_at object_at thread_at number_at one_operand_at two_operands_at operands_at operation_in operation_at order_at one_order_at two_orders_at orders_at call_at repeat_at first_thread_at next_thread_at in_thread_at item_at content_at after_line run reading_of
version_with_more = refl

pub not_ascii_in_comment : HasFault ((35 ∷ 32 ∷ 233 ∷ []) ∷ []) 1 0 causes.NotAscii
unfolding lines_of words_of parsed_value kind_of_word operation_of_word order_of_word steps_of target_word_at target_need_at target_end_at big_word_at no_big_at big_at description_at target_at word_at end_at need_at check_at value_at version_at target_line_at object_at thread_at number_at one_operand_at two_operands_at operands_at operation_in operation_at order_at one_order_at two_orders_at orders_at call_at repeat_at first_thread_at next_thread_at in_thread_at item_at content_at after_line run reading_of
not_ascii_in_comment = refl

pub tab_in_line : HasFault ((119 ∷ 111 ∷ 114 ∷ 107 ∷ 9 ∷ 49 ∷ []) ∷ []) 1 0 causes.NotAscii
unfolding lines_of words_of parsed_value kind_of_word operation_of_word order_of_word steps_of target_word_at target_need_at target_end_at big_word_at no_big_at big_at description_at target_at word_at end_at need_at check_at value_at version_at target_line_at object_at thread_at number_at one_operand_at two_operands_at operands_at operation_in operation_at order_at one_order_at two_orders_at orders_at call_at repeat_at first_thread_at next_thread_at in_thread_at item_at content_at after_line run reading_of
tab_in_line = refl

pub target_missing : HasFault (codes "work 1" ∷ codes "target" ∷ []) 2 2 causes.Missing
unfolding lines_of words_of parsed_value kind_of_word operation_of_word order_of_word steps_of target_word_at target_need_at target_end_at big_word_at no_big_at big_at description_at target_at word_at end_at need_at check_at value_at version_at target_line_at object_at thread_at number_at one_operand_at two_operands_at operands_at operation_in operation_at order_at one_order_at two_orders_at orders_at call_at repeat_at first_thread_at next_thread_at in_thread_at item_at content_at after_line run reading_of
target_missing = refl

pub target_unknown : HasFault (codes "work 1" ∷ codes "target full" ∷ []) 2 2 causes.BadTarget
unfolding lines_of words_of parsed_value kind_of_word operation_of_word order_of_word steps_of target_word_at target_need_at target_end_at big_word_at no_big_at big_at description_at target_at word_at end_at need_at check_at value_at version_at target_line_at object_at thread_at number_at one_operand_at two_operands_at operands_at operation_in operation_at order_at one_order_at two_orders_at orders_at call_at repeat_at first_thread_at next_thread_at in_thread_at item_at content_at after_line run reading_of
target_unknown = refl

pub target_steps_bad : HasFault (codes "work 1" ∷ codes "target 64 packed x" ∷ []) 2 4 causes.BadTarget
unfolding lines_of words_of parsed_value kind_of_word operation_of_word order_of_word steps_of target_word_at target_need_at target_end_at big_word_at no_big_at big_at description_at target_at word_at end_at need_at check_at value_at version_at target_line_at object_at thread_at number_at one_operand_at two_operands_at operands_at operation_in operation_at order_at one_order_at two_orders_at orders_at call_at repeat_at first_thread_at next_thread_at in_thread_at item_at content_at after_line run reading_of
target_steps_bad = refl

pub target_section_bad : HasFault (codes "work 1" ∷ codes "target 64 packed none 1 section x" ∷ []) 2 6 causes.BadTarget
unfolding lines_of words_of parsed_value kind_of_word operation_of_word order_of_word steps_of target_word_at target_need_at target_end_at big_word_at no_big_at big_at description_at target_at word_at end_at need_at check_at value_at version_at target_line_at object_at thread_at number_at one_operand_at two_operands_at operands_at operation_in operation_at order_at one_order_at two_orders_at orders_at call_at repeat_at first_thread_at next_thread_at in_thread_at item_at content_at after_line run reading_of
target_section_bad = refl

pub target_big_in_version_1 : HasFault (codes "work 1" ∷ codes "target 32 apart none 67 locks big" ∷ []) 2 7 causes.Extra
unfolding lines_of words_of parsed_value kind_of_word operation_of_word order_of_word steps_of target_word_at target_need_at target_end_at big_word_at no_big_at big_at description_at target_at word_at end_at need_at check_at value_at version_at target_line_at object_at thread_at number_at one_operand_at two_operands_at operands_at operation_in operation_at order_at one_order_at two_orders_at orders_at call_at repeat_at first_thread_at next_thread_at in_thread_at item_at content_at after_line run reading_of
target_big_in_version_1 = refl

pub target_big_apart : HasFault (codes "work 2" ∷ codes "target 32 apart none 67 locks big" ∷ []) 2 7 causes.BadTarget
unfolding lines_of words_of parsed_value kind_of_word operation_of_word order_of_word steps_of target_word_at target_need_at target_end_at big_word_at no_big_at big_at description_at target_at word_at end_at need_at check_at value_at version_at target_line_at object_at thread_at number_at one_operand_at two_operands_at operands_at operation_in operation_at order_at one_order_at two_orders_at orders_at call_at repeat_at first_thread_at next_thread_at in_thread_at item_at content_at after_line run reading_of
target_big_apart = refl

pub object_too_great : HasFault (codes "work 1" ∷ codes "target full64" ∷ codes "object a u8 256" ∷ []) 3 4 causes.OutOfRange
unfolding lines_of words_of parsed_value kind_of_word operation_of_word order_of_word steps_of target_word_at target_need_at target_end_at big_word_at no_big_at big_at description_at target_at word_at end_at need_at check_at value_at version_at target_line_at object_at thread_at number_at one_operand_at two_operands_at operands_at operation_in operation_at order_at one_order_at two_orders_at orders_at call_at repeat_at first_thread_at next_thread_at in_thread_at item_at content_at after_line run reading_of
object_too_great = refl

pub object_negative : HasFault (codes "work 1" ∷ codes "target full64" ∷ codes "object a u8 -1" ∷ []) 3 4 causes.OutOfRange
unfolding lines_of words_of parsed_value kind_of_word operation_of_word order_of_word steps_of target_word_at target_need_at target_end_at big_word_at no_big_at big_at description_at target_at word_at end_at need_at check_at value_at version_at target_line_at object_at thread_at number_at one_operand_at two_operands_at operands_at operation_in operation_at order_at one_order_at two_orders_at orders_at call_at repeat_at first_thread_at next_thread_at in_thread_at item_at content_at after_line run reading_of
object_negative = refl

pub object_no_number : HasFault (codes "work 1" ∷ codes "target full64" ∷ codes "object a u8 12x" ∷ []) 3 4 causes.BadNumber
unfolding lines_of words_of parsed_value kind_of_word operation_of_word order_of_word steps_of target_word_at target_need_at target_end_at big_word_at no_big_at big_at description_at target_at word_at end_at need_at check_at value_at version_at target_line_at object_at thread_at number_at one_operand_at two_operands_at operands_at operation_in operation_at order_at one_order_at two_orders_at orders_at call_at repeat_at first_thread_at next_thread_at in_thread_at item_at content_at after_line run reading_of
object_no_number = refl

pub object_minus_zero : HasFault (codes "work 1" ∷ codes "target full64" ∷ codes "object a u8 -0" ∷ []) 3 4 causes.BadNumber
unfolding lines_of words_of parsed_value kind_of_word operation_of_word order_of_word steps_of target_word_at target_need_at target_end_at big_word_at no_big_at big_at description_at target_at word_at end_at need_at check_at value_at version_at target_line_at object_at thread_at number_at one_operand_at two_operands_at operands_at operation_in operation_at order_at one_order_at two_orders_at orders_at call_at repeat_at first_thread_at next_thread_at in_thread_at item_at content_at after_line run reading_of
object_minus_zero = refl

pub object_twice : HasFault (codes "work 1" ∷ codes "target full64" ∷ codes "object n u64 0" ∷ codes "object n u8 0" ∷ []) 4 2 causes.Twice
unfolding lines_of words_of parsed_value kind_of_word operation_of_word order_of_word steps_of target_word_at target_need_at target_end_at big_word_at no_big_at big_at description_at target_at word_at end_at need_at check_at value_at version_at target_line_at object_at thread_at number_at one_operand_at two_operands_at operands_at operation_in operation_at order_at one_order_at two_orders_at orders_at call_at repeat_at first_thread_at next_thread_at in_thread_at item_at content_at after_line run reading_of
object_twice = refl

pub object_name_end : HasFault (codes "work 1" ∷ codes "target full64" ∷ codes "object end u64 0" ∷ []) 3 2 causes.UnknownWord
unfolding lines_of words_of parsed_value kind_of_word operation_of_word order_of_word steps_of target_word_at target_need_at target_end_at big_word_at no_big_at big_at description_at target_at word_at end_at need_at check_at value_at version_at target_line_at object_at thread_at number_at one_operand_at two_operands_at operands_at operation_in operation_at order_at one_order_at two_orders_at orders_at call_at repeat_at first_thread_at next_thread_at in_thread_at item_at content_at after_line run reading_of
object_name_end = refl

pub object_kind_missing : HasFault (codes "work 1" ∷ codes "target full64" ∷ codes "object n" ∷ []) 3 3 causes.Missing
unfolding lines_of words_of parsed_value kind_of_word operation_of_word order_of_word steps_of target_word_at target_need_at target_end_at big_word_at no_big_at big_at description_at target_at word_at end_at need_at check_at value_at version_at target_line_at object_at thread_at number_at one_operand_at two_operands_at operands_at operation_in operation_at order_at one_order_at two_orders_at orders_at call_at repeat_at first_thread_at next_thread_at in_thread_at item_at content_at after_line run reading_of
object_kind_missing = refl

pub object_kind_unknown : HasFault (codes "work 1" ∷ codes "target full64" ∷ codes "object n i256 0" ∷ []) 3 3 causes.UnknownWord
unfolding lines_of words_of parsed_value kind_of_word operation_of_word order_of_word steps_of target_word_at target_need_at target_end_at big_word_at no_big_at big_at description_at target_at word_at end_at need_at check_at value_at version_at target_line_at object_at thread_at number_at one_operand_at two_operands_at operands_at operation_in operation_at order_at one_order_at two_orders_at orders_at call_at repeat_at first_thread_at next_thread_at in_thread_at item_at content_at after_line run reading_of
object_kind_unknown = refl

pub object_with_more : HasFault (codes "work 1" ∷ codes "target full64" ∷ codes "object n u64 0 0" ∷ []) 3 5 causes.Extra
unfolding lines_of words_of parsed_value kind_of_word operation_of_word order_of_word steps_of target_word_at target_need_at target_end_at big_word_at no_big_at big_at description_at target_at word_at end_at need_at check_at value_at version_at target_line_at object_at thread_at number_at one_operand_at two_operands_at operands_at operation_in operation_at order_at one_order_at two_orders_at orders_at call_at repeat_at first_thread_at next_thread_at in_thread_at item_at content_at after_line run reading_of
object_with_more = refl

pub thread_with_more : HasFault (codes "work 1" ∷ codes "target full64" ∷ codes "thread 1" ∷ []) 3 2 causes.Extra
unfolding lines_of words_of parsed_value kind_of_word operation_of_word order_of_word steps_of target_word_at target_need_at target_end_at big_word_at no_big_at big_at description_at target_at word_at end_at need_at check_at value_at version_at target_line_at object_at thread_at number_at one_operand_at two_operands_at operands_at operation_in operation_at order_at one_order_at two_orders_at orders_at call_at repeat_at first_thread_at next_thread_at in_thread_at item_at content_at after_line run reading_of
thread_with_more = refl

pub object_after_thread : HasFault (codes "work 1" ∷ codes "target full64" ∷ codes "object n u64 0" ∷ codes "thread" ∷ codes "end" ∷ codes "object m u8 0" ∷ []) 6 1 causes.UnknownWord
unfolding lines_of words_of parsed_value kind_of_word operation_of_word order_of_word steps_of target_word_at target_need_at target_end_at big_word_at no_big_at big_at description_at target_at word_at end_at need_at check_at value_at version_at target_line_at object_at thread_at number_at one_operand_at two_operands_at operands_at operation_in operation_at order_at one_order_at two_orders_at orders_at call_at repeat_at first_thread_at next_thread_at in_thread_at item_at content_at after_line run reading_of
object_after_thread = refl

pub repeat_between_threads : HasFault (codes "work 2" ∷ codes "target full64" ∷ codes "object n u8 0" ∷ codes "thread" ∷ codes "end" ∷ codes "repeat: 2" ∷ []) 6 1 causes.UnknownWord
unfolding lines_of words_of parsed_value kind_of_word operation_of_word order_of_word steps_of target_word_at target_need_at target_end_at big_word_at no_big_at big_at description_at target_at word_at end_at need_at check_at value_at version_at target_line_at object_at thread_at number_at one_operand_at two_operands_at operands_at operation_in operation_at order_at one_order_at two_orders_at orders_at call_at repeat_at first_thread_at next_thread_at in_thread_at item_at content_at after_line run reading_of
repeat_between_threads = refl

pub call_of_unknown_name : HasFault (codes "work 1" ∷ codes "target full64" ∷ codes "object n u64 0" ∷ codes "thread" ∷ codes "m load" ∷ []) 5 1 causes.UnknownName
unfolding lines_of words_of parsed_value kind_of_word operation_of_word order_of_word steps_of target_word_at target_need_at target_end_at big_word_at no_big_at big_at description_at target_at word_at end_at need_at check_at value_at version_at target_line_at object_at thread_at number_at one_operand_at two_operands_at operands_at operation_in operation_at order_at one_order_at two_orders_at orders_at call_at repeat_at first_thread_at next_thread_at in_thread_at item_at content_at after_line run reading_of
call_of_unknown_name = refl

pub call_without_word : HasFault (codes "work 1" ∷ codes "target full64" ∷ codes "object n u64 0" ∷ codes "thread" ∷ codes "n" ∷ []) 5 2 causes.Missing
unfolding lines_of words_of parsed_value kind_of_word operation_of_word order_of_word steps_of target_word_at target_need_at target_end_at big_word_at no_big_at big_at description_at target_at word_at end_at need_at check_at value_at version_at target_line_at object_at thread_at number_at one_operand_at two_operands_at operands_at operation_in operation_at order_at one_order_at two_orders_at orders_at call_at repeat_at first_thread_at next_thread_at in_thread_at item_at content_at after_line run reading_of
call_without_word = refl

pub call_of_unknown_word : HasFault (codes "work 1" ∷ codes "target full64" ∷ codes "object n u64 0" ∷ codes "thread" ∷ codes "n nosuch 1" ∷ []) 5 2 causes.UnknownWord
unfolding lines_of words_of parsed_value kind_of_word operation_of_word order_of_word steps_of target_word_at target_need_at target_end_at big_word_at no_big_at big_at description_at target_at word_at end_at need_at check_at value_at version_at target_line_at object_at thread_at number_at one_operand_at two_operands_at operands_at operation_in operation_at order_at one_order_at two_orders_at orders_at call_at repeat_at first_thread_at next_thread_at in_thread_at item_at content_at after_line run reading_of
call_of_unknown_word = refl

pub call_without_operand : HasFault (codes "work 1" ∷ codes "target full64" ∷ codes "object n u64 0" ∷ codes "thread" ∷ codes "n store" ∷ []) 5 3 causes.Missing
unfolding lines_of words_of parsed_value kind_of_word operation_of_word order_of_word steps_of target_word_at target_need_at target_end_at big_word_at no_big_at big_at description_at target_at word_at end_at need_at check_at value_at version_at target_line_at object_at thread_at number_at one_operand_at two_operands_at operands_at operation_in operation_at order_at one_order_at two_orders_at orders_at call_at repeat_at first_thread_at next_thread_at in_thread_at item_at content_at after_line run reading_of
call_without_operand = refl

pub call_not_for_kind : HasFault (codes "work 1" ∷ codes "target word64" ∷ codes "object f bool false" ∷ codes "thread" ∷ codes "f fetch_add 1" ∷ []) 5 2 causes.NotForKind
unfolding lines_of words_of parsed_value kind_of_word operation_of_word order_of_word steps_of target_word_at target_need_at target_end_at big_word_at no_big_at big_at description_at target_at word_at end_at need_at check_at value_at version_at target_line_at object_at thread_at number_at one_operand_at two_operands_at operands_at operation_in operation_at order_at one_order_at two_orders_at orders_at call_at repeat_at first_thread_at next_thread_at in_thread_at item_at content_at after_line run reading_of
call_not_for_kind = refl

pub call_with_bad_order : HasFault (codes "work 1" ∷ codes "target word64" ∷ codes "object a u8 0" ∷ codes "thread" ∷ codes "a load release" ∷ []) 5 3 causes.BadOrder
unfolding lines_of words_of parsed_value kind_of_word operation_of_word order_of_word steps_of target_word_at target_need_at target_end_at big_word_at no_big_at big_at description_at target_at word_at end_at need_at check_at value_at version_at target_line_at object_at thread_at number_at one_operand_at two_operands_at operands_at operation_in operation_at order_at one_order_at two_orders_at orders_at call_at repeat_at first_thread_at next_thread_at in_thread_at item_at content_at after_line run reading_of
call_with_bad_order = refl

pub exchange_with_no_order : HasFault (codes "work 1" ∷ codes "target full64" ∷ codes "object n u64 0" ∷ codes "thread" ∷ codes "n compare_exchange 3 4 x" ∷ []) 5 5 causes.Extra
unfolding lines_of words_of parsed_value kind_of_word operation_of_word order_of_word steps_of target_word_at target_need_at target_end_at big_word_at no_big_at big_at description_at target_at word_at end_at need_at check_at value_at version_at target_line_at object_at thread_at number_at one_operand_at two_operands_at operands_at operation_in operation_at order_at one_order_at two_orders_at orders_at call_at repeat_at first_thread_at next_thread_at in_thread_at item_at content_at after_line run reading_of
exchange_with_no_order = refl

pub exchange_with_one_order : HasFault (codes "work 1" ∷ codes "target full64" ∷ codes "object n u64 0" ∷ codes "thread" ∷ codes "n compare_exchange 3 4 relaxed" ∷ []) 5 6 causes.Missing
unfolding lines_of words_of parsed_value kind_of_word operation_of_word order_of_word steps_of target_word_at target_need_at target_end_at big_word_at no_big_at big_at description_at target_at word_at end_at need_at check_at value_at version_at target_line_at object_at thread_at number_at one_operand_at two_operands_at operands_at operation_in operation_at order_at one_order_at two_orders_at orders_at call_at repeat_at first_thread_at next_thread_at in_thread_at item_at content_at after_line run reading_of
exchange_with_one_order = refl

pub new_value_in_version_1 : HasFault (codes "work 1" ∷ codes "target full64" ∷ codes "object n u64 0" ∷ codes "thread" ∷ codes "n add_fetch 1" ∷ []) 5 2 causes.UnknownWord
unfolding lines_of words_of parsed_value kind_of_word operation_of_word order_of_word steps_of target_word_at target_need_at target_end_at big_word_at no_big_at big_at description_at target_at word_at end_at need_at check_at value_at version_at target_line_at object_at thread_at number_at one_operand_at two_operands_at operands_at operation_in operation_at order_at one_order_at two_orders_at orders_at call_at repeat_at first_thread_at next_thread_at in_thread_at item_at content_at after_line run reading_of
new_value_in_version_1 = refl

pub end_with_more : HasFault (codes "work 1" ∷ codes "target full64" ∷ codes "object n u64 0" ∷ codes "thread" ∷ codes "end x" ∷ []) 5 2 causes.Extra
unfolding lines_of words_of parsed_value kind_of_word operation_of_word order_of_word steps_of target_word_at target_need_at target_end_at big_word_at no_big_at big_at description_at target_at word_at end_at need_at check_at value_at version_at target_line_at object_at thread_at number_at one_operand_at two_operands_at operands_at operation_in operation_at order_at one_order_at two_orders_at orders_at call_at repeat_at first_thread_at next_thread_at in_thread_at item_at content_at after_line run reading_of
end_with_more = refl

pub thread_left_open : HasFault (codes "work 1" ∷ codes "target full64" ∷ codes "object n u64 0" ∷ codes "thread" ∷ codes "n load" ∷ []) 5 0 causes.Unclosed
unfolding lines_of words_of parsed_value kind_of_word operation_of_word order_of_word steps_of target_word_at target_need_at target_end_at big_word_at no_big_at big_at description_at target_at word_at end_at need_at check_at value_at version_at target_line_at object_at thread_at number_at one_operand_at two_operands_at operands_at operation_in operation_at order_at one_order_at two_orders_at orders_at call_at repeat_at first_thread_at next_thread_at in_thread_at item_at content_at after_line run reading_of
thread_left_open = refl

pub block_in_version_1 : HasFault (codes "work 1" ∷ codes "target full64" ∷ codes "object n u8 0" ∷ codes "thread" ∷ codes "repeat: 300" ∷ codes "n fetch_add 1" ∷ codes "end" ∷ codes "n load" ∷ codes "end" ∷ []) 5 1 causes.UnknownName
unfolding lines_of words_of parsed_value kind_of_word operation_of_word order_of_word steps_of target_word_at target_need_at target_end_at big_word_at no_big_at big_at description_at target_at word_at end_at need_at check_at value_at version_at target_line_at object_at thread_at number_at one_operand_at two_operands_at operands_at operation_in operation_at order_at one_order_at two_orders_at orders_at call_at repeat_at first_thread_at next_thread_at in_thread_at item_at content_at after_line run reading_of
block_in_version_1 = refl

pub block_of_no_times : HasFault (codes "work 2" ∷ codes "target full64" ∷ codes "object n u8 0" ∷ codes "thread" ∷ codes "repeat: 0" ∷ []) 5 2 causes.OutOfRange
unfolding lines_of words_of parsed_value kind_of_word operation_of_word order_of_word steps_of target_word_at target_need_at target_end_at big_word_at no_big_at big_at description_at target_at word_at end_at need_at check_at value_at version_at target_line_at object_at thread_at number_at one_operand_at two_operands_at operands_at operation_in operation_at order_at one_order_at two_orders_at orders_at call_at repeat_at first_thread_at next_thread_at in_thread_at item_at content_at after_line run reading_of
block_of_no_times = refl

pub block_of_no_times_with_more : HasFault (codes "work 2" ∷ codes "target full64" ∷ codes "object n u8 0" ∷ codes "thread" ∷ codes "repeat: 0 x" ∷ []) 5 2 causes.OutOfRange
unfolding lines_of words_of parsed_value kind_of_word operation_of_word order_of_word steps_of target_word_at target_need_at target_end_at big_word_at no_big_at big_at description_at target_at word_at end_at need_at check_at value_at version_at target_line_at object_at thread_at number_at one_operand_at two_operands_at operands_at operation_in operation_at order_at one_order_at two_orders_at orders_at call_at repeat_at first_thread_at next_thread_at in_thread_at item_at content_at after_line run reading_of
block_of_no_times_with_more = refl

pub block_in_block : HasFault (codes "work 2" ∷ codes "target full64" ∷ codes "object n u8 0" ∷ codes "thread" ∷ codes "repeat: 300" ∷ codes "repeat: 2" ∷ []) 6 1 causes.UnknownWord
unfolding lines_of words_of parsed_value kind_of_word operation_of_word order_of_word steps_of target_word_at target_need_at target_end_at big_word_at no_big_at big_at description_at target_at word_at end_at need_at check_at value_at version_at target_line_at object_at thread_at number_at one_operand_at two_operands_at operands_at operation_in operation_at order_at one_order_at two_orders_at orders_at call_at repeat_at first_thread_at next_thread_at in_thread_at item_at content_at after_line run reading_of
block_in_block = refl

pub bad_block_in_block : HasFault (codes "work 2" ∷ codes "target full64" ∷ codes "object n u8 0" ∷ codes "thread" ∷ codes "repeat: 300" ∷ codes "repeat: x" ∷ []) 6 1 causes.UnknownWord
unfolding lines_of words_of parsed_value kind_of_word operation_of_word order_of_word steps_of target_word_at target_need_at target_end_at big_word_at no_big_at big_at description_at target_at word_at end_at need_at check_at value_at version_at target_line_at object_at thread_at number_at one_operand_at two_operands_at operands_at operation_in operation_at order_at one_order_at two_orders_at orders_at call_at repeat_at first_thread_at next_thread_at in_thread_at item_at content_at after_line run reading_of
bad_block_in_block = refl

pub block_without_space : HasFault (codes "work 2" ∷ codes "target full64" ∷ codes "object n u8 0" ∷ codes "thread" ∷ codes "repeat:2" ∷ []) 5 1 causes.UnknownName
unfolding lines_of words_of parsed_value kind_of_word operation_of_word order_of_word steps_of target_word_at target_need_at target_end_at big_word_at no_big_at big_at description_at target_at word_at end_at need_at check_at value_at version_at target_line_at object_at thread_at number_at one_operand_at two_operands_at operands_at operation_in operation_at order_at one_order_at two_orders_at orders_at call_at repeat_at first_thread_at next_thread_at in_thread_at item_at content_at after_line run reading_of
block_without_space = refl

pub no_objects : NoObjectsIsRead
unfolding lines_of words_of parsed_value kind_of_word operation_of_word order_of_word steps_of target_word_at target_need_at target_end_at big_word_at no_big_at big_at description_at target_at word_at end_at need_at check_at value_at version_at target_line_at object_at thread_at number_at one_operand_at two_operands_at operands_at operation_in operation_at order_at one_order_at two_orders_at orders_at call_at repeat_at first_thread_at next_thread_at in_thread_at item_at content_at after_line run reading_of
no_objects = refl

pub one_thread : OneThreadIsRead
unfolding lines_of words_of parsed_value kind_of_word operation_of_word order_of_word steps_of target_word_at target_need_at target_end_at big_word_at no_big_at big_at description_at target_at word_at end_at need_at check_at value_at version_at target_line_at object_at thread_at number_at one_operand_at two_operands_at operands_at operation_in operation_at order_at one_order_at two_orders_at orders_at call_at repeat_at first_thread_at next_thread_at in_thread_at item_at content_at after_line run reading_of
one_thread = refl

pub comments_and_spaces : CommentsAndSpacesIsRead
unfolding lines_of words_of parsed_value kind_of_word operation_of_word order_of_word steps_of target_word_at target_need_at target_end_at big_word_at no_big_at big_at description_at target_at word_at end_at need_at check_at value_at version_at target_line_at object_at thread_at number_at one_operand_at two_operands_at operands_at operation_in operation_at order_at one_order_at two_orders_at orders_at call_at repeat_at first_thread_at next_thread_at in_thread_at item_at content_at after_line run reading_of
comments_and_spaces = refl

pub lanes : LanesIsRead
unfolding lines_of words_of parsed_value kind_of_word operation_of_word order_of_word steps_of target_word_at target_need_at target_end_at big_word_at no_big_at big_at description_at target_at word_at end_at need_at check_at value_at version_at target_line_at object_at thread_at number_at one_operand_at two_operands_at operands_at operation_in operation_at order_at one_order_at two_orders_at orders_at call_at repeat_at first_thread_at next_thread_at in_thread_at item_at content_at after_line run reading_of
lanes = refl

pub in_a_section : InASectionIsRead
unfolding lines_of words_of parsed_value kind_of_word operation_of_word order_of_word steps_of target_word_at target_need_at target_end_at big_word_at no_big_at big_at description_at target_at word_at end_at need_at check_at value_at version_at target_line_at object_at thread_at number_at one_operand_at two_operands_at operands_at operation_in operation_at order_at one_order_at two_orders_at orders_at call_at repeat_at first_thread_at next_thread_at in_thread_at item_at content_at after_line run reading_of
in_a_section = refl

pub kinds_of_values : KindsOfValuesIsRead
unfolding lines_of words_of parsed_value kind_of_word operation_of_word order_of_word steps_of target_word_at target_need_at target_end_at big_word_at no_big_at big_at description_at target_at word_at end_at need_at check_at value_at version_at target_line_at object_at thread_at number_at one_operand_at two_operands_at operands_at operation_in operation_at order_at one_order_at two_orders_at orders_at call_at repeat_at first_thread_at next_thread_at in_thread_at item_at content_at after_line run reading_of
kinds_of_values = refl

pub bools_and_pointers : BoolsAndPointersIsRead
unfolding lines_of words_of parsed_value kind_of_word operation_of_word order_of_word steps_of target_word_at target_need_at target_end_at big_word_at no_big_at big_at description_at target_at word_at end_at need_at check_at value_at version_at target_line_at object_at thread_at number_at one_operand_at two_operands_at operands_at operation_in operation_at order_at one_order_at two_orders_at orders_at call_at repeat_at first_thread_at next_thread_at in_thread_at item_at content_at after_line run reading_of
bools_and_pointers = refl

pub a_block : ABlockIsRead
unfolding lines_of words_of parsed_value kind_of_word operation_of_word order_of_word steps_of target_word_at target_need_at target_end_at big_word_at no_big_at big_at description_at target_at word_at end_at need_at check_at value_at version_at target_line_at object_at thread_at number_at one_operand_at two_operands_at operands_at operation_in operation_at order_at one_order_at two_orders_at orders_at call_at repeat_at first_thread_at next_thread_at in_thread_at item_at content_at after_line run reading_of
a_block = refl

pub a_new_value : ANewValueIsRead
unfolding lines_of words_of parsed_value kind_of_word operation_of_word order_of_word steps_of target_word_at target_need_at target_end_at big_word_at no_big_at big_at description_at target_at word_at end_at need_at check_at value_at version_at target_line_at object_at thread_at number_at one_operand_at two_operands_at operands_at operation_in operation_at order_at one_order_at two_orders_at orders_at call_at repeat_at first_thread_at next_thread_at in_thread_at item_at content_at after_line run reading_of
a_new_value = refl

pub a_big_target : ABigTargetIsRead
unfolding lines_of words_of parsed_value kind_of_word operation_of_word order_of_word steps_of target_word_at target_need_at target_end_at big_word_at no_big_at big_at description_at target_at word_at end_at need_at check_at value_at version_at target_line_at object_at thread_at number_at one_operand_at two_operands_at operands_at operation_in operation_at order_at one_order_at two_orders_at orders_at call_at repeat_at first_thread_at next_thread_at in_thread_at item_at content_at after_line run reading_of
a_big_target = refl

pub two_threads : TwoThreadsIsRead
unfolding lines_of words_of parsed_value kind_of_word operation_of_word order_of_word steps_of target_word_at target_need_at target_end_at big_word_at no_big_at big_at description_at target_at word_at end_at need_at check_at value_at version_at target_line_at object_at thread_at number_at one_operand_at two_operands_at operands_at operation_in operation_at order_at one_order_at two_orders_at orders_at call_at repeat_at first_thread_at next_thread_at in_thread_at item_at content_at after_line run reading_of
two_threads = refl

pub weak_exchange : WeakExchangeIsRead
unfolding lines_of words_of parsed_value kind_of_word operation_of_word order_of_word steps_of target_word_at target_need_at target_end_at big_word_at no_big_at big_at description_at target_at word_at end_at need_at check_at value_at version_at target_line_at object_at thread_at number_at one_operand_at two_operands_at operands_at operation_in operation_at order_at one_order_at two_orders_at orders_at call_at repeat_at first_thread_at next_thread_at in_thread_at item_at content_at after_line run reading_of
weak_exchange = refl

pub eight_bytes : EightBytesIsRead
unfolding lines_of words_of parsed_value kind_of_word operation_of_word order_of_word steps_of target_word_at target_need_at target_end_at big_word_at no_big_at big_at description_at target_at word_at end_at need_at check_at value_at version_at target_line_at object_at thread_at number_at one_operand_at two_operands_at operands_at operation_in operation_at order_at one_order_at two_orders_at orders_at call_at repeat_at first_thread_at next_thread_at in_thread_at item_at content_at after_line run reading_of
eight_bytes = refl

pub a_least_value : ALeastValueIsRead
unfolding lines_of words_of parsed_value kind_of_word operation_of_word order_of_word steps_of target_word_at target_need_at target_end_at big_word_at no_big_at big_at description_at target_at word_at end_at need_at check_at value_at version_at target_line_at object_at thread_at number_at one_operand_at two_operands_at operands_at operation_in operation_at order_at one_order_at two_orders_at orders_at call_at repeat_at first_thread_at next_thread_at in_thread_at item_at content_at after_line run reading_of
a_least_value = refl

pub a_nand : ANandIsRead
unfolding lines_of words_of parsed_value kind_of_word operation_of_word order_of_word steps_of target_word_at target_need_at target_end_at big_word_at no_big_at big_at description_at target_at word_at end_at need_at check_at value_at version_at target_line_at object_at thread_at number_at one_operand_at two_operands_at operands_at operation_in operation_at order_at one_order_at two_orders_at orders_at call_at repeat_at first_thread_at next_thread_at in_thread_at item_at content_at after_line run reading_of
a_nand = refl

pub a_minimum : AMinimumIsRead
unfolding lines_of words_of parsed_value kind_of_word operation_of_word order_of_word steps_of target_word_at target_need_at target_end_at big_word_at no_big_at big_at description_at target_at word_at end_at need_at check_at value_at version_at target_line_at object_at thread_at number_at one_operand_at two_operands_at operands_at operation_in operation_at order_at one_order_at two_orders_at orders_at call_at repeat_at first_thread_at next_thread_at in_thread_at item_at content_at after_line run reading_of
a_minimum = refl

pub positions : PositionsIsRead
unfolding lines_of words_of parsed_value kind_of_word operation_of_word order_of_word steps_of target_word_at target_need_at target_end_at big_word_at no_big_at big_at description_at target_at word_at end_at need_at check_at value_at version_at target_line_at object_at thread_at number_at one_operand_at two_operands_at operands_at operation_in operation_at order_at one_order_at two_orders_at orders_at call_at repeat_at first_thread_at next_thread_at in_thread_at item_at content_at after_line run reading_of
positions = refl

pub four_words : FourWordsIsRead
unfolding lines_of words_of parsed_value kind_of_word operation_of_word order_of_word steps_of target_word_at target_need_at target_end_at big_word_at no_big_at big_at description_at target_at word_at end_at need_at check_at value_at version_at target_line_at object_at thread_at number_at one_operand_at two_operands_at operands_at operation_in operation_at order_at one_order_at two_orders_at orders_at call_at repeat_at first_thread_at next_thread_at in_thread_at item_at content_at after_line run reading_of
four_words = refl

pub no_threads : NoThreadsIsRead
unfolding lines_of words_of parsed_value kind_of_word operation_of_word order_of_word steps_of target_word_at target_need_at target_end_at big_word_at no_big_at big_at description_at target_at word_at end_at need_at check_at value_at version_at target_line_at object_at thread_at number_at one_operand_at two_operands_at operands_at operation_in operation_at order_at one_order_at two_orders_at orders_at call_at repeat_at first_thread_at next_thread_at in_thread_at item_at content_at after_line run reading_of
no_threads = refl

pub equal_lines : EqualLinesIsRead
unfolding lines_of words_of parsed_value kind_of_word operation_of_word order_of_word steps_of target_word_at target_need_at target_end_at big_word_at no_big_at big_at description_at target_at word_at end_at need_at check_at value_at version_at target_line_at object_at thread_at number_at one_operand_at two_operands_at operands_at operation_in operation_at order_at one_order_at two_orders_at orders_at call_at repeat_at first_thread_at next_thread_at in_thread_at item_at content_at after_line run reading_of
equal_lines = refl

pub a_usual_workload : AUsualWorkloadIsRead
unfolding lines_of words_of parsed_value kind_of_word operation_of_word order_of_word steps_of target_word_at target_need_at target_end_at big_word_at no_big_at big_at description_at target_at word_at end_at need_at check_at value_at version_at target_line_at object_at thread_at number_at one_operand_at two_operands_at operands_at operation_in operation_at order_at one_order_at two_orders_at orders_at call_at repeat_at first_thread_at next_thread_at in_thread_at item_at content_at after_line run reading_of
a_usual_workload = refl
