-- The place of an object at an aligned address, and that it is apart from the place of an object behind it.
use Rattle.std.proofs.Common.{◌≡◌, ◌⊎◌, inl, inr, ⊎_elim, ℕ, ◌+◌, ◌-◌, ◌*◌, ◌/◌, ◌%◌, ◌<◌, ◌≤◌, Bool, true, false, not, ◌&&◌, if◌then◌else◌, List, refl, ap, ◌∙◌, arith}
use Rattle.std.specs.Prelude.{nat_le}
use Rattle.std.proofs.lemmas.Bool.{leb-true, le-leb, cases_lt}
use Rattle.op_table.specs.declared.kind.Kind.{Kind}
use Rattle.op_table.specs.Kind.{bits_of, bytes_of}
use Rattle.target_desc.specs.declared.target.Target.{Target}
use Rattle.target_desc.specs.Target.{IsTarget}
use Rattle.place_core.specs.declared.places.Place.TheVariants.{Lane, Parts}
use Rattle.place_core.specs.declared.places.Object.{Object}
use Rattle.place_core.specs.declared.shape.Shape.{Shape}
use Rattle.place_core.specs.Shapes.{parts_for, IsPlaced, AreApart, IsInSection}
use Rattle.layout_plan.specs.Layout.{word_bytes, alignment_of, next_address, has_lane, shift_at, place_at, words_for}
use Rattle.layout_plan.proofs.WordSizes.{some_bytes, IsNextMultiple, next_is, Divides, IsSeated, divides, seated, counted, aligns}

-- ---- which objects have lanes

narrow : (s : Bool) (b n : ℕ) → (not s && nat_le b n) ≡ true → (s ≡ false) × (b ≤ n)
narrow true b n e = absurd cc
narrow false b n e = (refl, leb-true b n e)

wide : (s : Bool) (b n : ℕ) → (not s && nat_le b n) ≡ false → (s ≡ true) ⊎ (n < b)
wide true b n e = inl refl
wide false b n e = ⊎_elim (λ (lt : n < b). inr lt) (λ (le : b ≤ n). absurd (let t = le-leb b n le in cc)) (cases_lt n b)

pub has_lane-narrow : (t : Target) (k : Kind) → has_lane t k ≡ true → (t.section ≡ false) × (bits_of k.width ≤ t.word_bits)
has_lane-narrow t k e = narrow t.section (bits_of k.width) t.word_bits e

pub has_lane-wide : (t : Target) (k : Kind) → has_lane t k ≡ false → (t.section ≡ true) ⊎ (t.word_bits < bits_of k.width)
has_lane-wide t k e = wide t.section (bits_of k.width) t.word_bits e

-- a shape of the target's words: so many bytes of them hold so many objects
abbrev pub shape_with : Target → ℕ → List Object → Shape
shape_with t e os = record { word_bits = t.word_bits; steps = t.steps; section = t.section; words = words_for t e; locks = t.locks; objects = os }

module _ (t : Target) (ok : IsTarget t) where
  -- ---- addresses

  pub next_at : (after : ℕ) (k : Kind) → IsNextMultiple (alignment_of t k) after (next_address t after k)
  next_at after k = next_is (alignment_of t k) after (aligns t.word_bits ok.bits t.packed k.width).0

  pub few_bytes : (after : ℕ) (k : Kind) → next_address t after k + bytes_of k ≤ after + 32
  few_bytes after k =
      let a = (next_at after k).most in let m = (aligns t.word_bits ok.bits t.packed k.width).1 in let b = (some_bytes k.width).1 in
      omega (arith, a, m, b)

  cuts : Divides (word_bytes t)
  cuts = divides t.word_bits ok.bits

  -- a shape's words at most
  pub words_within : (e : ℕ) → e ≤ 16777216 * word_bytes t → words_for t e ≤ 16777216
  words_within e le = cuts.few e le

  pub few_words : (e : ℕ) → e ≤ 4194304 → words_for t e ≤ 16777216
  few_words e le = let some = cuts.some.0 in words_within e (omega (arith, le, some))

  seat : (k : Kind) (a : ℕ) → a % alignment_of t k ≡ 0 → IsSeated t.packed k.width t.word_bits a
  seat k a aligned = seated t.word_bits ok.bits t.packed k.width a aligned

  pub next_aligned : (after : ℕ) (k : Kind) → next_address t after k % alignment_of t k ≡ 0
  next_aligned after k = (next_at after k).aligned

  -- where objects share words, the bytes of a lane are in its word
  pub fits_word : (k : Kind) (a : ℕ) → t.packed ≡ true → has_lane t k ≡ true → a % alignment_of t k ≡ 0 → 8 * (a % word_bytes t) + 8 * bytes_of k ≤ 64
  fits_word k a packed lane aligned =
      let fits = (seat k a aligned).fits packed (has_lane-narrow t k lane).1 in let most = cuts.some.1 in
      omega (arith, fits, most)

  -- an object with parts begins a word
  begins : (k : Kind) (a : ℕ) → has_lane t k ≡ false → a % alignment_of t k ≡ 0 → a % word_bytes t ≡ 0
  begins k a none aligned = ⊎_elim
      (λ (is : t.section ≡ true). (seat k a aligned).alone (ok.section is).apart)
      (λ (lt : t.word_bits < bits_of k.width). (seat k a aligned).whole lt)
      (has_lane-wide t k none)

  -- ---- words

  one_word : (k : Kind) → has_lane t k ≡ false → ((t.packed ≡ false) × (parts_for (bits_of k.width) t.word_bits ≡ 1)) ⊎ (parts_for (bits_of k.width) t.word_bits * word_bytes t ≡ bytes_of k)
  one_word k none = ⊎_elim
      (λ (lt : t.word_bits < bits_of k.width). inr ((counted t.word_bits ok.bits k.width).tight lt))
      (λ (le : bits_of k.width ≤ t.word_bits). ⊎_elim
      (λ (is : t.section ≡ true). inl ((ok.section is).apart, (counted t.word_bits ok.bits k.width).one le))
      (λ (lt : t.word_bits < bits_of k.width). absurd (omega (arith, lt, le)))
      (has_lane-wide t k none))
      (cases_lt t.word_bits (bits_of k.width))

  -- parts end before the word of an object behind them
  parts_end : (k j : Kind) (a b : ℕ) → has_lane t k ≡ false → a % alignment_of t k ≡ 0 → b % alignment_of t j ≡ 0 → a + bytes_of k ≤ b → a / word_bytes t + parts_for (bits_of k.width) t.word_bits ≤ b / word_bytes t
  parts_end k j a b none at bt le = ⊎_elim
      (λ (o : (t.packed ≡ false) × (parts_for (bits_of k.width) t.word_bits ≡ 1)).
      let lt : a / word_bytes t < b / word_bytes t = cuts.next_word a b (let pos = (some_bytes k.width).0 in omega (arith, pos, le)) ((seat j b bt).alone o.0) in
      let one = o.1 in omega (arith, lt, one))
      (λ (e : parts_for (bits_of k.width) t.word_bits * word_bytes t ≡ bytes_of k). cuts.next_whole a b (bytes_of k) (parts_for (bits_of k.width) t.word_bits) (begins k a none at) e le)
      (one_word k none)

  parts_within : (k : Kind) (a e : ℕ) → has_lane t k ≡ false → a % alignment_of t k ≡ 0 → a + bytes_of k ≤ e → a / word_bytes t + parts_for (bits_of k.width) t.word_bits ≤ words_for t e
  parts_within k a e none at le = ⊎_elim
      (λ (o : (t.packed ≡ false) × (parts_for (bits_of k.width) t.word_bits ≡ 1)).
      let lt : a / word_bytes t < words_for t e = cuts.in_words a e (let pos = (some_bytes k.width).0 in omega (arith, pos, le)) in
      let one = o.1 in omega (arith, lt, one))
      (λ (is : parts_for (bits_of k.width) t.word_bits * word_bytes t ≡ bytes_of k). cuts.whole_in_words a e (bytes_of k) (parts_for (bits_of k.width) t.word_bits) (begins k a none at) is le)
      (one_word k none)

  -- the lowest bit of a lane, by whether objects are packed and whether `big` holds
  abbrev shift_by : Bool → Bool → Kind → ℕ → ℕ
  shift_by p q k a = if p then (if q then 64 - 8 * (a % word_bytes t) - 8 * bytes_of k else 64 - t.word_bits + 8 * (a % word_bytes t)) else 64 - bits_of k.width

  -- of two lanes of a word, the one behind lies above the other, or below it where `big` holds
  lanes_apart : (k j : Kind) (a b : ℕ) → has_lane t k ≡ true → has_lane t j ≡ true → b % alignment_of t j ≡ 0 → a + bytes_of k ≤ b → a / word_bytes t ≡ b / word_bytes t
      → (shift_at t k a + bits_of k.width ≤ shift_at t j b) ⊎ (shift_at t j b + bits_of j.width ≤ shift_at t k a)
  lanes_apart k j a b lane also bt le same = go t.packed t.big refl
    where
      low : a % word_bytes t + bytes_of k ≤ b % word_bytes t
      low = cuts.same_word a b (bytes_of k) le same

      go : (p q : Bool) → t.packed ≡ p
          → (shift_by p q k a + bits_of k.width ≤ shift_by p q j b) ⊎ (shift_by p q j b + bits_of j.width ≤ shift_by p q k a)
      go true false is = let fits = (some_bytes k.width).2 in inl (omega (arith, low, fits))
      go true true is = let fits = (some_bytes j.width).2 in let within = fits_word j b is also bt in inr (omega (arith, low, fits, within))
      go false q is =
          let lt : a / word_bytes t < b / word_bytes t = cuts.next_word a b (let pos = (some_bytes k.width).0 in omega (arith, pos, le)) ((seat j b bt).alone is) in
          absurd (omega (arith, lt, same))

  pub places_apart : (k j : Kind) (a b : ℕ) → a % alignment_of t k ≡ 0 → b % alignment_of t j ≡ 0 → a + bytes_of k ≤ b → AreApart (place_at t k a) (place_at t j b)
  places_apart k j a b at bt le = go (has_lane t k) (has_lane t j) refl refl
    where
      go : (p q : Bool) → has_lane t k ≡ p → has_lane t j ≡ q
          → AreApart (if p then Lane (a / word_bytes t) (shift_at t k a) (bits_of k.width) else Parts (a % t.locks) (a / word_bytes t) (parts_for (bits_of k.width) t.word_bits) t.word_bits)
          (if q then Lane (b / word_bytes t) (shift_at t j b) (bits_of j.width) else Parts (b % t.locks) (b / word_bytes t) (parts_for (bits_of j.width) t.word_bits) t.word_bits)
      go true true l m = λ same. lanes_apart k j a b l m bt le same
      go true false l m = inl (cuts.next_word a b (let pos = (some_bytes k.width).0 in omega (arith, pos, le)) (begins j b m bt))
      go false true l m = inr (parts_end k j a b l at bt le)
      go false false l m = inl (parts_end k j a b l at bt le)

  lane_ends : (k : Kind) (a : ℕ) → has_lane t k ≡ true → a % alignment_of t k ≡ 0 → shift_at t k a + bits_of k.width ≤ 64
  lane_ends k a lane at = go t.packed t.big refl
    where
      le : bits_of k.width ≤ t.word_bits
      le = (has_lane-narrow t k lane).1

      go : (p q : Bool) → t.packed ≡ p → shift_by p q k a + bits_of k.width ≤ 64
      go true false is = (seat k a at).ends le
      go true true is = let fits = (some_bytes k.width).2 in let within = fits_word k a is lane at in omega (arith, fits, within)
      go false q is = ⊎_elim (λ (e : t.word_bits ≡ 32). omega (arith, e, le)) (λ (e : t.word_bits ≡ 64). omega (arith, e, le)) ok.bits

  some_lock : (a : ℕ) → a % t.locks < t.locks
  some_lock a = let some = ok.some in omega (arith, some)

  pub is_placed : (k : Kind) (a e : ℕ) (os : List Object) → a % alignment_of t k ≡ 0 → a + bytes_of k ≤ e → IsPlaced (shape_with t e os) k (place_at t k a)
  is_placed k a e os at le = go (has_lane t k) refl
    where
      go : (p : Bool) → has_lane t k ≡ p → IsPlaced (shape_with t e os) k (if p then Lane (a / word_bytes t) (shift_at t k a) (bits_of k.width) else Parts (a % t.locks) (a / word_bytes t) (parts_for (bits_of k.width) t.word_bits) t.word_bits)
      go true l = record {
        wide = refl;
        ends = lane_ends k a l at;
        within = cuts.in_words a e (let pos = (some_bytes k.width).0 in omega (arith, pos, le));
      }
      go false l = record { bits = refl; suffice = refl; within = parts_within k a e l at le; lock = some_lock a }

  pub in_section : (k : Kind) (a : ℕ) → t.section ≡ true → IsInSection (place_at t k a)
  in_section k a is = go (has_lane t k) refl
    where
      go : (p : Bool) → has_lane t k ≡ p → IsInSection (if p then Lane (a / word_bytes t) (shift_at t k a) (bits_of k.width) else Parts (a % t.locks) (a / word_bytes t) (parts_for (bits_of k.width) t.word_bits) t.word_bits)
      go true l = absurd (let no = (has_lane-narrow t k l).0 in cc)
      go false l = let one : t.locks ≡ 1 = (ok.section is).locks in ap (λ (n : ℕ). a % n) one ∙ (omega arith)
