-- What the code finds under an object's number.
use Rattle.std.proofs.Common.{◌≡◌, ⊎_elim, ◌+◌, ◌*◌, ◌<◌, ◌≤◌, ℕ, ap, sym, ◌∙◌, subst, arith, Some}
use Rattle.std.specs.Prelude.{slice_get}
use Rattle.op_table.specs.Kind.{bits_of, IsKind}
use Rattle.place_core.specs.declared.places.Object.{Object}
use Rattle.place_core.specs.declared.places.Place.{Place}
use Rattle.place_core.specs.declared.places.Place.TheVariants.{Lane, Parts}
use Rattle.place_core.specs.declared.shape.Shape.{Shape}
use Rattle.place_core.specs.Shapes.{place_of, IsShape}
use Rattle.place_core.proofs.ShapeFacts.{place_of-at, kind_of-at, lane-at}
use Rattle.place_core.proofs.ShapeTests.{bits_pos}
use Rattle.seat_views.proofs.ShapePlaces.{parts_within, parts_few}

-- of an object that has a lane
pub record LaneFacts (a : Object) (s d : ℕ) : Type 0 where
  pub valid : IsKind a.kind
  pub some : 0 < d
  pub ends : s + d ≤ 64
  pub bits : bits_of a.kind.width ≡ d

pub lane_facts : (S : Shape) → IsShape S → (o : ℕ) (a : Object) (w s d : ℕ) → slice_get S.objects o ≡ Some a → a.place ≡ Lane w s d → LaneFacts a s d
lane_facts S ok o a w s d there is = let lane = lane-at S ok o a w s d there is in let wide : bits_of a.kind.width ≡ d = sym lane.wide in record {
  valid = subst IsKind (kind_of-at S o a there) (ok.kinds o);
  some = subst (λ (z : ℕ). 0 < z) wide (bits_pos a.kind.width);
  ends = lane.ends;
  bits = wide;
}

-- of an object that has parts
pub record PartsFacts (S : Shape) (a : Object) (n b : ℕ) : Type 0 where
  pub valid : IsKind a.kind
  pub some : 1 ≤ n
  pub four : n ≤ 4
  pub word : b ≡ S.word_bits
  pub positive : 0 < b
  pub within : b ≤ 64
  pub all : b * n ≤ 128

pub parts_facts : (S : Shape) → IsShape S → (o : ℕ) (a : Object) (l f n b : ℕ) → slice_get S.objects o ≡ Some a → a.place ≡ Parts l f n b → PartsFacts S a n b
parts_facts S ok o a l f n b there is =
    let at : place_of S o ≡ Some (Parts l f n b) = place_of-at S o a there ∙ ap (λ (z : Place). Some z) is in
    let few = parts_few S ok o l f n b at in
    let word = (parts_within S ok o l f n b at).2 in
    let range : (0 < b) × (b ≤ 64) = ⊎_elim (λ (e : S.word_bits ≡ 32). (omega arith, omega arith)) (λ (e : S.word_bits ≡ 64). (omega arith, omega arith)) ok.bits in record {
      valid = subst IsKind (kind_of-at S o a there) (ok.kinds o);
      some = few.0;
      four = few.1;
      word = word;
      positive = range.0;
      within = range.1;
      all = few.2;
    }
