-- How often a short piece was tried, of a sink that takes it whole.
use Rattle.std.proofs.Common.{◌≡◌, ℕ, ◌<◌, ◌≤◌, min, List, length, drop, length-drop, refl, inl, inr, arith}
use Rattle.std.specs.Prelude.{◌⊎◌}
use Rattle.work_lang.specs.Counts.{raised}

-- not yet, while all of it is left; else once
pub record Tried (before now piece rest : ℕ) : Type 0 where
  pub cases : ((now ≡ before) × (rest ≡ piece)) ⊎ ((now ≡ raised before 1) × (0 < piece) × (rest ≡ 0))

pub Tried-not : (before piece : ℕ) → Tried before before piece piece
Tried-not before piece = record { cases = inl (refl, refl) }

once_by : {before between now piece rest left : ℕ} → 0 < rest → rest ≤ piece → left ≡ 0 → now ≡ raised between 1
    → ((between ≡ before) × (rest ≡ piece)) ⊎ ((between ≡ raised before 1) × (0 < piece) × (rest ≡ 0)) → Tried before now piece left
once_by some within none once (inl first) = record { cases = inr (omega (arith, once, first.0), omega arith, none) }
once_by some within none once (inr after) = absurd (omega (arith, after.2))

-- a write was made of all that is left, which takes all of it
pub Tried-more : {before between now piece : ℕ} (rest : List ℕ) (n : ℕ) → n ≡ length rest → 0 < length rest → length rest ≤ piece → now ≡ raised between 1 → Tried before between piece (length rest) → Tried before now piece (length (drop n rest))
Tried-more rest n all some within once tried = once_by some within (omega (arith, length-drop n rest)) once tried.cases

end_by : {before now piece rest : ℕ} → rest ≡ 0 → ((now ≡ before) × (rest ≡ piece)) ⊎ ((now ≡ raised before 1) × (0 < piece) × (rest ≡ 0)) → now ≡ raised before (min 1 piece)
end_by none (inl first) = omega (arith, first.0, first.1)
end_by none (inr after) = omega (arith, after.0, after.1)

-- at the end it was tried once, or never where it is empty
pub Tried-end : {before now piece rest : ℕ} → rest ≡ 0 → Tried before now piece rest → now ≡ raised before (min 1 piece)
Tried-end none tried = end_by none tried.cases

stop_by : {before between now piece rest : ℕ} → 0 < rest → now ≡ raised between 1 → ((between ≡ before) × (rest ≡ piece)) ⊎ ((between ≡ raised before 1) × (0 < piece) × (rest ≡ 0)) → now ≡ raised before (min 1 piece)
stop_by some once (inl first) = omega (arith, once, first.0, first.1)
stop_by some once (inr after) = absurd (omega (arith, after.2))

-- a write of what is left failed
pub Tried-stop : {before between now piece rest : ℕ} → 0 < rest → now ≡ raised between 1 → Tried before between piece rest → now ≡ raised before (min 1 piece)
Tried-stop some once tried = stop_by some once tried.cases
