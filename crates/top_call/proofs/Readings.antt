-- Texts of which a front is read.
use Rattle.std.proofs.Common.{◌≡◌, ⊎_elim, Bool, true, cond, ltb, ℕ, ◌<◌, ◌≤◌, List, length, take, Ok, Err, sym, ap, ◌∙◌, arith, length-take}
use Rattle.std.proofs.lemmas.Bool.{cases_lt}
use Rattle.std.proofs.lemmas.Bool.Decides.{nat_tests}
use Rattle.std.proofs.lemmas.List.{take_all}
use Rattle.work_lang.specs.declared.fault.Cause.TheVariants.{TooLong}
use Rattle.work_lang.specs.Streams.{most_read}
use Rattle.work_lang.specs.Workload.{Workload}
use Rattle.work_lang.specs.Reading.{Fault, reading_of}

abbrev too_long_fault : Fault
too_long_fault = record { line = 0; word = 0; cause = TooLong }

chosen : {A : Type 0} (b : Bool) (x y : A) → b ≡ true → cond b x y ≡ x
chosen b x y is = ap (λ c. cond c x y) is

too_long : (text : List ℕ) → 8388608 < length text → reading_of text ≡ Err too_long_fault
unfolding reading_of
too_long text long = let tested : ltb 8388608 (length text) ≡ true = grind (arith, nat_tests) in chosen (ltb 8388608 (length text)) _ _ tested

pub short_text : (text : List ℕ) (w : Workload) → reading_of text ≡ Ok w → length text ≤ 8388608
short_text text w read = ⊎_elim (λ long. let fault = too_long text long in absurd (cc)) (λ short. short) (cases_lt 8388608 (length text))

-- what is read of a text reads as the whole
pub reading_of-take : (bytes : List ℕ) → reading_of (take most_read bytes) ≡ reading_of bytes
reading_of-take bytes = ⊎_elim
    (λ long. too_long (take most_read bytes) (omega (arith, length-take most_read bytes)) ∙ sym (too_long bytes (omega arith)))
    (λ short. ap reading_of (take_all most_read bytes short)) (cases_lt most_read (length bytes))
