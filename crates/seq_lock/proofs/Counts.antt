-- How many parts an object has, and what they hold.
use Rattle.std.proofs.Common.{◌≡◌, ◌⊎◌, ⊎_elim, ℕ, zero, suc, ◌+◌, ◌*◌, ◌^◌, ◌<◌, ◌≤◌, ap, sym, ◌∙◌, subst, refl, arith, Some}
use Rattle.std.specs.Prelude.{slice_get}
use Rattle.op_table.specs.declared.kind.Width.{Width}
use Rattle.op_table.specs.declared.kind.Width.TheVariants.{W1, W8, W16, W32, W64, W128}
use Rattle.op_table.specs.Kind.{bits_of, values_of}
use Rattle.place_core.specs.declared.places.Object.{Object}
use Rattle.place_core.specs.declared.places.Place.{Place}
use Rattle.place_core.specs.declared.places.Place.TheVariants.{Parts}
use Rattle.place_core.specs.declared.shape.Shape.{Shape}
use Rattle.place_core.specs.Shapes.{kind_of, parts_for, IsShape}
use Rattle.place_core.specs.PartValues.{joined}
use Rattle.place_core.proofs.PartSums.{joined_fits}
use Rattle.place_core.proofs.ShapeFacts.{place_of-at}
use Rattle.seat_views.specs.Places.{HasParts, parts_of}
use Rattle.seat_views.proofs.Joining.{join_none, join_more}
use Rattle.seat_views.proofs.ShapePlaces.{count_is, parts_is, parts_hold, parts_within}

pub spread_count : (S : Shape) (o : ℕ) (a : Object) (l f n b : ℕ) → slice_get S.objects o ≡ Some a → a.place ≡ Parts l f n b → n ≡ parts_of S o
spread_count S o a l f n b there is = sym (count_is S o l f n b (place_of-at S o a there ∙ ap (λ (z : Place). Some z) is))

-- two parts or more have just a value's bits
whole_parts : (w : Width) (bits : ℕ) → (bits ≡ 32) ⊎ (bits ≡ 64) → 2 ≤ parts_for (bits_of w) bits → bits * parts_for (bits_of w) bits ≡ bits_of w
whole_parts w bits both more = ⊎_elim (λ (e : bits ≡ 32). subst (λ (b : ℕ). 2 ≤ parts_for (bits_of w) b → b * parts_for (bits_of w) b ≡ bits_of w) (sym e) (of_32 w) more)
    (λ (e : bits ≡ 64). subst (λ (b : ℕ). 2 ≤ parts_for (bits_of w) b → b * parts_for (bits_of w) b ≡ bits_of w) (sym e) (of_64 w) more) both
  where
    of_32 : (w : Width) → 2 ≤ parts_for (bits_of w) 32 → 32 * parts_for (bits_of w) 32 ≡ bits_of w
    of_32 W1 more = absurd (omega arith)
    of_32 W8 more = absurd (omega arith)
    of_32 W16 more = absurd (omega arith)
    of_32 W32 more = absurd (omega arith)
    of_32 W64 more = refl
    of_32 W128 more = refl

    of_64 : (w : Width) → 2 ≤ parts_for (bits_of w) 64 → 64 * parts_for (bits_of w) 64 ≡ bits_of w
    of_64 W1 more = absurd (omega arith)
    of_64 W8 more = absurd (omega arith)
    of_64 W16 more = absurd (omega arith)
    of_64 W32 more = absurd (omega arith)
    of_64 W64 more = absurd (omega arith)
    of_64 W128 more = refl

module _ (S : Shape) (ok : IsShape S) (o : ℕ) (has : HasParts S o) where
  count_at : parts_of S o ≡ parts_for (bits_of (kind_of S o).width) S.word_bits
  count_at = let p = parts_is S ok o has.lock has.first has.count has.bits has.place in
      count_is S o has.lock has.first has.count has.bits has.place ∙ (p.suffice ∙ ap (parts_for (bits_of (kind_of S o).width)) p.bits)

  -- they hold every value of the kind
  pub value_held : (v : ℕ) → v < values_of (kind_of S o) → v < 2 ^ (S.word_bits * parts_of S o)
  value_held v small =
      let count : has.count ≡ parts_of S o = sym (count_is S o has.lock has.first has.count has.bits has.place) in
      let bits : has.bits ≡ S.word_bits = (parts_within S ok o has.lock has.first has.count has.bits has.place).2 in
      subst (λ (z : ℕ × ℕ). v < 2 ^ (z.0 * z.1)) (λ t. (bits t, count t)) (parts_hold S ok o has.lock has.first has.count has.bits v has.place small)

  -- what they are joined to is a value of the kind, where each is no greater than one
  pub joined_value : (g : ℕ → ℕ) → 1 ≤ parts_of S o → ((j : ℕ) → j < parts_of S o → g j < 2 ^ S.word_bits) → ((j : ℕ) → j < parts_of S o → g j < values_of (kind_of S o)) → joined S.word_bits g (parts_of S o) < values_of (kind_of S o)
  joined_value g some small of_kind = go (parts_of S o) refl
    where
      go : (n : ℕ) → parts_of S o ≡ n → joined S.word_bits g n < values_of (kind_of S o)
      go zero e = absurd (omega arith)
      go (suc zero) e =
          let first : g 0 < values_of (kind_of S o) = of_kind 0 (omega arith) in
          let shift : g 0 * 2 ^ (S.word_bits * 0) ≡ g 0 = (let z : S.word_bits * 0 ≡ 0 = omega arith in ap (λ (k : ℕ). g 0 * 2 ^ k) z ∙ omega arith) in
          let on_none : g 0 * 2 ^ (S.word_bits * 0) ≡ 0 + g 0 * 2 ^ (S.word_bits * 0) = omega arith in
          let whole : g 0 ≡ joined S.word_bits g 1 = join_more S.word_bits g 0 0 (g 0) (join_none S.word_bits g) (sym shift ∙ on_none) in
          subst (λ (z : ℕ). z < values_of (kind_of S o)) whole first
      go (suc (suc n)) e =
          let more : 2 ≤ parts_of S o = omega arith in
          let all : S.word_bits * parts_of S o ≡ bits_of (kind_of S o).width = ap (λ (z : ℕ). S.word_bits * z) count_at ∙ whole_parts (kind_of S o).width S.word_bits ok.bits (subst (λ (z : ℕ). 2 ≤ z) count_at more) in
          let fits : joined S.word_bits g (parts_of S o) < 2 ^ (S.word_bits * parts_of S o) = joined_fits S.word_bits (parts_of S o) g small in
          subst (λ (z : ℕ × ℕ). joined S.word_bits g z.0 < 2 ^ z.1) (λ t. (e t, all t)) fits
