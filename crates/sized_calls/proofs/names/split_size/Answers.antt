use Rattle.std.proofs.Common.{ℕ, List, [], ◌∷◌, ◌∙◌}
use Rattle.sized_calls.specs.Names.{split_size}
use Rattle.sized_calls.proofs.NameReading.{ends, goes_on}
use Rattle.sized_calls.proofs.names.split_size.Goals as goal

-- the sizes from the second on, from the third, and so on
abbrev sixteen : List ℕ
sixteen = 16 ∷ []

abbrev eight : List ℕ
eight = 8 ∷ sixteen

abbrev four : List ℕ
four = 4 ∷ eight

abbrev two : List ℕ
two = 2 ∷ four

pub returns-in-Some : goal.returns-in-Some
unfolding split_size
returns-in-Some c = ends 1 two c.args.text.now _ c.in-Some.ensures.cases.0 c.in-Some.ensures.cases.1

pub returns-in-Some-strip_suffix : goal.returns-in-Some-strip_suffix
unfolding split_size
returns-in-Some-strip_suffix c = goes_on 1 two c.args.text.now c.in_default.ensures.cases ∙ ends 2 four c.args.text.now _ c.in-Some-strip_suffix.ensures.cases.0 c.in-Some-strip_suffix.ensures.cases.1

pub returns-in-Some-strip_suffix-2 : goal.returns-in-Some-strip_suffix-2
unfolding split_size
returns-in-Some-strip_suffix-2 c =
    goes_on 1 two c.args.text.now c.in_default.ensures.cases
    ∙ goes_on 2 four c.args.text.now c.in_default-strip_suffix.ensures.cases
    ∙ ends 4 eight c.args.text.now _ c.in-Some-strip_suffix-2.ensures.cases.0 c.in-Some-strip_suffix-2.ensures.cases.1

pub returns-in-Some-strip_suffix-3 : goal.returns-in-Some-strip_suffix-3
unfolding split_size
returns-in-Some-strip_suffix-3 c =
    goes_on 1 two c.args.text.now c.in_default.ensures.cases
    ∙ goes_on 2 four c.args.text.now c.in_default-strip_suffix.ensures.cases
    ∙ goes_on 4 eight c.args.text.now c.in_default-strip_suffix-2.ensures.cases
    ∙ ends 8 sixteen c.args.text.now _ c.in-Some-strip_suffix-3.ensures.cases.0 c.in-Some-strip_suffix-3.ensures.cases.1

pub returns : goal.returns
unfolding split_size
returns c =
    goes_on 1 two c.args.text.now c.in_default.ensures.cases
    ∙ goes_on 2 four c.args.text.now c.in_default-strip_suffix.ensures.cases
    ∙ goes_on 4 eight c.args.text.now c.in_default-strip_suffix-2.ensures.cases
    ∙ goes_on 8 sixteen c.args.text.now c.in_default-strip_suffix-3.ensures.cases
    ∙ ends 16 [] c.args.text.now _ c.in_ok-words.ensures.cases.0 c.in_ok-words.ensures.cases.1
