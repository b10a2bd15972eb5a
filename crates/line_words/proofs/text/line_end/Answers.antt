use Rattle.std.proofs.Common.{eqb, sym, length, arith, subst, ℕ, Option}
use Rattle.std.proofs.lemmas.Bool.{ne_eqb, eq-eqb}
use Rattle.memchr.specs.Find.{IsFirstByte, is_byte}
use Rattle.line_words.proofs.Splits.{first_place, no_place}
use Rattle.line_words.proofs.text.line_end.Goals as goal

pub returns-in-Some-clause-value : goal.returns-in-Some-clause-value
returns-in-Some-clause-value c = sym (first_place 10 c.args.text.now c.in-Some.at (subst (λ (r : Option ℕ). IsFirstByte (is_byte 10) c.args.text.now r) c.in-Some.is c.memchr.ensures))

pub returns-in-None-clause-value : goal.returns-in-None-clause-value
returns-in-None-clause-value c = sym (no_place 10 c.args.text.now (subst (λ (r : Option ℕ). IsFirstByte (is_byte 10) c.args.text.now r) c.in-None.is c.memchr.ensures))
