-- Additions and subtractions leave the start and all that they add, modulo the number of values.
use Rattle.std.proofs.Common.{◌≡◌, ℕ, ◌+◌, ◌*◌, ◌%◌, ◌<◌, true, List, [], ◌∷◌, refl, ap, sym, ◌∙◌, arith, mod-lt}
use Rattle.std.proofs.Math.Nat.{mod-add-mod}
use Rattle.std.proofs.lemmas.Nat.{mod-mul-add, pow_pos}
use Rattle.op_table.specs.declared.kind.Kind.{Kind}
use Rattle.op_table.specs.declared.call.Call.{Call}
use Rattle.op_table.specs.declared.call.Call.TheVariants.{Load, Add, Sub, AddFetch, SubFetch}
use Rattle.op_table.specs.Kind.{bits_of, values_of}
use Rattle.op_table.specs.Call.{after_of}
use Rattle.ledger_sums.specs.declared.families.Family.TheVariants.{Sums}
use Rattle.ledger_sums.specs.Families.{mix_of, suits, all_suit}
use Rattle.ledger_sums.specs.Fixed.{calls_on, lines_of, after_calls}
use Rattle.ledger_sums.specs.Totals.{added_by, total_of}
use Rattle.ledger_sums.specs.Laws.{SumIsExact}
use Rattle.ledger_sums.proofs.LastValues.{both_true, last_value}

nothing_added : (k : Kind) (v : ℕ) → v < values_of k → v ≡ (v + 0) % values_of k
nothing_added k v small = sym (ap (λ x. x % values_of k) (let e : v + 0 ≡ 0 * values_of k + v = omega arith in e) ∙ mod-mul-add 0 (values_of k) v small)

added : (k : Kind) (c : Call) (v : ℕ) → suits Sums (mix_of c) ≡ true → v < values_of k → after_of k c v ≡ (v + added_by k c) % values_of k
added k Load v suited small = nothing_added k v small
added k (Add a q) v suited small = refl
added k (Sub a q) v suited small = refl
added k (AddFetch a) v suited small = refl
added k (SubFetch a) v suited small = refl
added k _ v suited small = absurd cc

added_all : (k : Kind) (v : ℕ) (calls : List Call) → all_suit Sums calls ≡ true → v < values_of k → after_calls k v calls ≡ (v + total_of k calls) % values_of k
added_all k v [] all small = nothing_added k v small
added_all k v (call ∷ calls) all small =
    let both = both_true (suits Sums (mix_of call)) (all_suit Sums calls) all in
    let next = (v + added_by k call) % values_of k in
    ap (λ w. after_calls k w calls) (added k call v both.0 small)
    ∙ added_all k next calls both.1 (mod-lt (v + added_by k call) (pow_pos (bits_of k.width)))
    ∙ mod-add-mod (v + added_by k call) (values_of k) (total_of k calls)
    ∙ ap (λ x. x % values_of k) (let e : v + added_by k call + total_of k calls ≡ v + (added_by k call + total_of k calls) = omega arith in e)

pub sum_is_exact : SumIsExact
sum_is_exact cells scripts H o cell at sound run all =
    last_value cells scripts H Sums o cell at sound run all ∙ added_all cell.kind cell.start (calls_on o (lines_of scripts)) all sound.1
