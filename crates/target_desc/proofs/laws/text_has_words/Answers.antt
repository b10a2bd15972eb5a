use Rattle.target_desc.proofs.Printed.{text_has_words}
use Rattle.target_desc.proofs.laws.text_has_words.Goals as goal

pub returns : goal.returns
returns c = text_has_words
