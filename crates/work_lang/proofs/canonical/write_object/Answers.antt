use Rattle.std.proofs.Common.{◌≡◌, ℕ, ap, refl, ◌∙◌, arith, length, length-append}
use Rattle.op_table.proofs.ShortWords.{kind_word_is_short}
use Rattle.op_table.proofs.ValueTexts.{value_text_is_short}
use Rattle.work_lang.proofs.canonical.write_object.Goals as goal

pub push_value-requires-clause-room : goal.push_value-requires-clause-room
push_value-requires-clause-room g c =
    let kind = kind_word_is_short c.args.object.now.kind c.requires.0 in
    let value = value_text_is_short c.args.object.now.kind c.args.object.now.start c.requires.0 c.requires.1 in
    let head : length c.push_text.new.self ≡ 7 = rw (c.push_text.ensures, c.new-out.ensures) refl in
    omega (arith, head, c.bytes.ensures.short, kind.short, value.short, ap length (c.as_bytes.ensures.value ∙ c.kind_word.ensures), ap length c.push_text-2.ensures, ap length c.push_text-3.ensures, ap length c.push_text-4.ensures, ap length c.push_text-5.ensures, length-append {A = ℕ})

pub push_text-requires-6 : goal.push_text-requires-6
push_text-requires-6 g c =
    let kind = kind_word_is_short c.args.object.now.kind c.requires.0 in
    let value = value_text_is_short c.args.object.now.kind c.args.object.now.start c.requires.0 c.requires.1 in
    let head : length c.push_text.new.self ≡ 7 = rw (c.push_text.ensures, c.new-out.ensures) refl in
    omega (arith, head, c.bytes.ensures.short, kind.short, value.short, ap length (c.as_bytes.ensures.value ∙ c.kind_word.ensures), ap length c.push_text-2.ensures, ap length c.push_text-3.ensures, ap length c.push_text-4.ensures, ap length c.push_text-5.ensures, ap length c.push_value.ensures, length-append {A = ℕ})
