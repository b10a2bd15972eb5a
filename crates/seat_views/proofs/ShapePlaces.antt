-- Places of a valid shape, as the rule asks for them; and entries that may come next.
use Rattle.std.proofs.Common.{◌≡◌, ◌≢◌, ◌⊎◌, ⊎_elim, ℕ, ◌+◌, ◌-◌, ◌*◌, ◌/◌, ◌^◌, ◌<◌, ◌≤◌, List, [], ◌∷◌, ◌++◌, ap, sym, ◌∙◌, subst, refl, arith, Option, Some, None}
use Rattle.std.specs.Prelude.{IsSomeAnd}
use Rattle.op_table.specs.declared.kind.Kind.{Kind}
use Rattle.op_table.specs.Kind.{bits_of, values_of}
use Rattle.op_table.specs.Call.{CallFits, Permits}
use Rattle.place_core.specs.declared.entry.Entry.{Entry}
use Rattle.place_core.specs.declared.places.Place.{Place}
use Rattle.place_core.specs.declared.places.Place.TheVariants.{Lane, Parts}
use Rattle.place_core.specs.declared.shape.Shape.{Shape}
use Rattle.place_core.specs.Cells.{Cell, left_by, value_of, IsLawful}
use Rattle.place_core.specs.Shapes.{place_of, kind_of, cells_of_shape, IsLane, IsParts, IsShape}
use Rattle.place_core.proofs.EntryLists.{Each-more}
use Rattle.place_core.proofs.LegalValues.{cell_at}
use Rattle.place_core.proofs.PartSums.{parts_are_few, parts_suffice}
use Rattle.place_core.proofs.ShapeFacts.{kind_of-at}
use Rattle.place_core.proofs.ShapeTests.{object_of-place}
use Rattle.seat_views.specs.Places.{value_after, IsLegalIn, count_in, HasParts, parts_of}

module _ (S : Shape) (ok : IsShape S) where
  pub lane_is : (o w s d : ℕ) → place_of S o ≡ Some (Lane w s d) → IsLane S (kind_of S o) w s d
  lane_is o w s d at = ok.placed o (Lane w s d) at

  pub lane_within : (o w s d : ℕ) → place_of S o ≡ Some (Lane w s d) → w < S.words
  lane_within o w s d at = (lane_is o w s d at).within

  pub parts_is : (o l f n b : ℕ) → place_of S o ≡ Some (Parts l f n b) → IsParts S (kind_of S o) l f n b
  parts_is o l f n b at = ok.placed o (Parts l f n b) at

  pub parts_within : (o l f n b : ℕ) → place_of S o ≡ Some (Parts l f n b) → (l < S.locks) × (f + n ≤ S.words) × (b ≡ S.word_bits)
  parts_within o l f n b at = let p = parts_is o l f n b at in (p.lock, p.within, p.bits)

  -- one to four parts, within 128 bits
  pub parts_few : (o l f n b : ℕ) → place_of S o ≡ Some (Parts l f n b) → (1 ≤ n) × (n ≤ 4) × (b * n ≤ 128)
  parts_few o l f n b at = let p = parts_is o l f n b at in
      subst (λ (z : ℕ × ℕ). (1 ≤ z.0) × (z.0 ≤ 4) × (z.1 * z.0 ≤ 128)) (λ i. (sym (p.suffice ∙ ap (λ (z : ℕ). (bits_of (kind_of S o).width + z - 1) / z) p.bits) i, sym p.bits i)) (parts_are_few (kind_of S o) S.word_bits ok.bits)

  -- they hold each value of the kind
  pub parts_hold : (o l f n b v : ℕ) → place_of S o ≡ Some (Parts l f n b) → v < values_of (kind_of S o) → v < 2 ^ (b * n)
  parts_hold o l f n b v at small = let p = parts_is o l f n b at in
      let positive : 1 ≤ b = ⊎_elim (λ (e : S.word_bits ≡ 32). (let q = p.bits in omega arith)) (λ (e : S.word_bits ≡ 64). (let q = p.bits in omega arith)) ok.bits in
      subst (λ (z : ℕ). v < 2 ^ (b * z)) (sym p.suffice) (parts_suffice (kind_of S o) b v positive small)

  -- a lane's word is none of a part
  pub lane_apart : (o p w s d l f n b : ℕ) → place_of S o ≡ Some (Lane w s d) → place_of S p ≡ Some (Parts l f n b) → (w < f) ⊎ (f + n ≤ w)
  lane_apart o p w s d l f n b at there =
      let ne : o ≢ p = λ e. let bad : Some (Lane w s d) ≡ Some (Parts l f n b) = sym at ∙ (ap (place_of S) e ∙ there) in cc in
      ok.apart o p (Lane w s d) (Parts l f n b) at there ne

  pub parts_apart : (o p l f n b m g c e : ℕ) → place_of S o ≡ Some (Parts l f n b) → place_of S p ≡ Some (Parts m g c e) → o ≢ p → (f + n ≤ g) ⊎ (g + c ≤ f)
  parts_apart o p l f n b m g c e at there ne = ok.apart o p (Parts l f n b) (Parts m g c e) at there ne

-- an object has one place
pub record SameParts (l f n b m g c e : ℕ) : Type 0 where
  pub lock : l ≡ m
  pub first : f ≡ g
  pub count : n ≡ c
  pub bits : b ≡ e

pub one_place : (S : Shape) (o l f n b m g c e : ℕ) → place_of S o ≡ Some (Parts l f n b) → place_of S o ≡ Some (Parts m g c e) → SameParts l f n b m g c e
one_place S o l f n b m g c e at there = let same : Some (Parts l f n b) ≡ Some (Parts m g c e) = sym at ∙ there in record { lock = cc (same); first = cc (same); count = cc (same); bits = cc (same) }

-- an object with a part has parts
pub has_parts : (S : Shape) (o i : ℕ) → i < parts_of S o → HasParts S o
has_parts S o i lt = go (place_of S o) refl lt
  where
    go : (a : Option Place) → place_of S o ≡ a → i < count_in a → HasParts S o
    go None e lt = absurd (omega arith)
    go (Some (Lane w s d)) e lt = absurd (omega arith)
    go (Some (Parts l f n b)) e lt = record { lock = l; first = f; count = n; bits = b; place = e }

pub count_is : (S : Shape) (o l f n b : ℕ) → place_of S o ≡ Some (Parts l f n b) → parts_of S o ≡ n
count_is S o l f n b at = ap count_in at

-- ---- entries that may come next

pub lawful : (S : Shape) (H : List Entry) (x : Entry) (p : Place) → place_of S x.object ≡ Some p → CallFits (kind_of S x.object) x.call
    → Permits (kind_of S x.object) x.call (value_after S H x.object) x.reply (left_by (kind_of S x.object) x (value_after S H x.object)) → IsLawful (cells_of_shape S) H x
lawful S H x p there fits permits = let t = object_of-place S.objects x.object p there in
    let kind : kind_of S x.object ≡ t.0.kind = kind_of-at S x.object t.0 t.1 in
    let v : ℕ = value_after S H x.object in
    let both : CallFits t.0.kind x.call × Permits t.0.kind x.call v x.reply (left_by t.0.kind x v) = subst (λ (k : Kind). CallFits k x.call × Permits k x.call v x.reply (left_by k x v)) kind (fits, permits) in
    subst (λ (c : Option Cell). IsSomeAnd c (λ (cell : Cell). let v = value_of (cells_of_shape S) H x.object in CallFits cell.kind x.call × Permits cell.kind x.call v x.reply (left_by cell.kind x v)))
    (sym (cell_at S x.object t.0 t.1)) both

pub legal_more : (S : Shape) (H : List Entry) (x : Entry) → IsLegalIn S H → IsLawful (cells_of_shape S) H x → IsLegalIn S (H ++ x ∷ [])
legal_more S H x legal law = (Each-more (IsLawful (cells_of_shape S)) H x).1 (legal, law)
