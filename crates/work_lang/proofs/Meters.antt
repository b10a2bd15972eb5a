-- How far a source was read, read by read.
use Rattle.std.proofs.Common.{◌≡◌, ℕ, ◌+◌, ◌<◌, ◌≤◌, true, false, refl, subst, sym, ◌∙◌, ap, arith}
use Rattle.std.proofs.lemmas.Bool.Decides.{nat_tests}
use Rattle.work_lang.specs.declared.meter.Meter.{Meter}
use Rattle.work_lang.specs.Counts.{raised, after_stop, after_bytes, ReadSoFar, ReadToStop}

pub SoFar-none : (meter : Meter) → ReadSoFar meter meter 0
SoFar-none meter = record { given = omega arith; stops = refl }

to_stop : {old between : Meter} {count : ℕ} → ReadSoFar old between count → ReadToStop old (after_stop between) count
to_stop {old = old} far = record { given = far.given; stops = ap (λ (n : ℕ). raised n 1) far.stops; stopped = refl }

-- a read failed
pub Stop-after_fault : {old between new : Meter} {count : ℕ} → new ≡ after_stop between → ReadSoFar old between count → ReadToStop old new count
Stop-after_fault {old = old} {count = count} metered far = subst (λ (m : Meter). ReadToStop old m count) (sym metered) (to_stop far)

after_none : (between : Meter) (n room : ℕ) → n ≡ 0 → 0 < room → after_bytes between n room ≡ after_stop between
after_none between n room none some = grind (arith, nat_tests)

after_some : (between : Meter) (n room : ℕ) → 0 < n → after_bytes between n room ≡ record between { given = raised between.given n; stopped = false }
after_some between n room some = grind (arith, nat_tests)

-- a read gave nothing, though there was room
pub Stop-after_end : {old between new : Meter} {count : ℕ} (n room : ℕ) → n ≡ 0 → 0 < room → new ≡ after_bytes between n room → ReadSoFar old between count → ReadToStop old new count
Stop-after_end {between = between} n room none some metered far = Stop-after_fault (metered ∙ after_none between n room none some) far

-- a read gave bytes
pub SoFar-more : {old between new : Meter} {count : ℕ} (n room : ℕ) → 0 < n → new ≡ after_bytes between n room → ReadSoFar old between count → ReadSoFar old new (count + n)
SoFar-more {old = old} {between = between} {count = count} n room some metered far =
    subst (λ (m : Meter). ReadSoFar old m (count + n)) (sym (metered ∙ after_some between n room some))
    (record { given = omega (arith, far.given); stops = far.stops })
