-- An arena begins with each object's start, and that keeps the rule.
use Rattle.std.proofs.Common.{◌≡◌, ◌≢◌, inl, inr, ⊎_elim, ℕ, zero, suc, ◌≤◌, ◌<◌, ◌+◌, ◌*◌, ◌%◌, ◌^◌, ◌==◌, Bool, false, if◌then◌else◌, List, [], ◌∷◌, length, set, get_or, refl, ap, sym, ◌∙◌, subst, arith, Some, None, length-set, get_or-set_other, get_or-set_same, slice_get}
use Rattle.std.specs.Prelude.{slice_index, replicate}
use Rattle.std.proofs.lemmas.Bool.{cases_lt, lt-ltb, le-ltb}
use mathlib.Core.Logic.{dite}
use native.Mathlib.Decide.{ℕ_discrete}
use Rattle.atomic_table.specs.Table.{opening}
use Rattle.op_table.specs.Kind.{bits_of, values_of}
use Rattle.place_core.specs.declared.places.Object.{Object}
use Rattle.place_core.specs.declared.places.Place.{Place}
use Rattle.place_core.specs.declared.places.Place.TheVariants.{Lane, Parts as In}
use Rattle.place_core.specs.declared.shape.Shape.{Shape}
use Rattle.place_core.specs.Cells.{IsLawful}
use Rattle.place_core.specs.PartValues.{part_of}
use Rattle.place_core.specs.WordSums.{word_sum}
use Rattle.place_core.specs.Shapes.{place_of, start_of, kind_of, strips_of, cells_of_shape, data_word, IsShape}
use Rattle.place_core.proofs.EntryLists.{Each-none, CallersWithin-none, made_by-none}
use Rattle.place_core.proofs.LaneSums.{sum_same, sum_none, sum_below, change_at}
use Rattle.place_core.proofs.LegalValues.{value_start}
use Rattle.place_core.proofs.PartSums.{part_fits}
use Rattle.place_core.proofs.Seats.{one_view}
use Rattle.place_core.proofs.ShapeFacts.{place_of-at, start_of-at}
use Rattle.place_core.proofs.ShapeTests.{bits_pos, object_of-place}
use Rattle.place_core.proofs.ShapeWords.{strip, strip_at, strip_back, laid}
use Rattle.seat_views.specs.declared.view.Opening.{Opening}
use Rattle.seat_views.specs.declared.view.View.{View}
use Rattle.seat_views.specs.Places.{value_after}
use Rattle.seat_views.specs.Stamps.{entries_under}
use Rattle.seat_views.specs.Rule.{first_view, caller_of, Lock, KnowsHold, KnowsGlance, ArenaHolds}
use Rattle.seat_views.specs.Starts.{Begins, start_below, StartsSoFar, Puts}
use Rattle.seat_views.specs.Steps.{IsSoundView}
use Rattle.seat_views.proofs.ShapePlaces.{lane_is, lane_within, lane_apart, parts_apart, parts_within, parts_few, one_place}
use Rattle.seat_views.proofs.Histories.{history_opens}

-- a lock that no one has held
abbrev pub free_lock : ℕ → Lock
free_lock stamp = record { holder = None; stamp = stamp; dirty = false; object = 0 }

not_above : (first n : ℕ) → first ≤ first + 2 * n
not_above first n = omega arith

pub opens : (k : Opening) (words : List ℕ) → k.first_stamp % 2 ≡ 0 → Begins k words → ArenaHolds k (opening words [] (first_view k))
opens k words even begins = record {
  log = [];
  count = 0;
  owner = λ n. if n == 0 then Some 0 else None;
  locks = λ l. free_lock k.first_stamp;
  history = history_opens k;
  lanes = begins.lanes;
  parts = record {
    locked = begins.locks;
    even = λ l lt. even;
    from_first = λ l lt. omega arith;
    upto_first = λ l lt. not_above k.first_stamp (entries_under k.shape l []);
    clean = λ l e. refl;
    holders = λ l j e. absurd (cc (e));
    small = λ o l f n b i at lt. subst (λ (z : ℕ). z < 2 ^ b) (sym (begins.parts o l f n b i at lt)) (part_fits b i (start_of k.shape o));
    spelled = λ o l f n b at _ i lt. begins.parts o l f n b i at lt ∙ ap (part_of b i) (sym (value_start k.shape o));
    holds = λ j v e. let t = one_view (first_view k) j v e in subst (λ (x : View). KnowsHold k.shape [] (λ l. free_lock k.first_stamp) words j x.flight) t.1 tt;
  };
  glances = record { glances = λ j v e. let t = one_view (first_view k) j v e in subst (λ (x : View). KnowsGlance k.shape [] (λ l. free_lock k.first_stamp) words x.flight) t.1 tt };
}

pub first_sound : (k : Opening) → IsSoundView (first_view k)
first_sound k = record {
  role = refl;
  legal = Each-none (IsLawful (cells_of_shape k.shape));
  own = made_by-none caller_of 0;
  root = λ _. record { callers = CallersWithin-none caller_of 0; back = tt; once = Each-none _ };
}

-- ---- starts, object after object

-- the starts of one object more
start_old : (S : Shape) (k o : ℕ) → o ≢ k → start_below S (k + 1) o ≡ start_below S k o
start_old S k o ne = ⊎_elim
    (λ (lt : o < k). ap (λ (b : Bool). if b then start_of S o else 0) (lt-ltb o (k + 1) (omega arith) ∙ sym (lt-ltb o k lt)))
    (λ (ge : k ≤ o). ap (λ (b : Bool). if b then start_of S o else 0) (le-ltb o (k + 1) (omega arith) ∙ sym (le-ltb o k ge)))
    (cases_lt o k)

start_new : (S : Shape) (k : ℕ) → (start_below S (k + 1) k ≡ start_of S k) × (start_below S k k ≡ 0)
start_new S k = (ap (λ (b : Bool). if b then start_of S k else 0) (lt-ltb k (k + 1) (omega arith)), ap (λ (b : Bool). if b then start_of S k else 0) (le-ltb k k (omega arith)))

start_small : (S : Shape) (k o m : ℕ) → start_of S o < m → start_below S k o < m
start_small S k o m lt = ⊎_elim
    (λ (b : o < k). subst (λ (z : Bool). (if z then start_of S o else 0) < m) (sym (lt-ltb o k b)) lt)
    (λ (b : k ≤ o). subst (λ (z : Bool). (if z then start_of S o else 0) < m) (sym (le-ltb o k b)) (omega arith))
    (cases_lt o k)

place_at : (S : Shape) (k : ℕ) (a : Object) (p : Place) → slice_get S.objects k ≡ Some a → a.place ≡ p → place_of S k ≡ Some p
place_at S k a p there is = place_of-at S k a there ∙ ap (λ (z : Place). Some z) is

-- another word's sum stays, where object k has no lane in it
sum_stays : (S : Shape) (k u : ℕ) → ((s d : ℕ) → place_of S k ≢ Some (Lane u s d)) → word_sum (strips_of S) 0 (start_below S k) u ≡ word_sum (strips_of S) 0 (start_below S (k + 1)) u
sum_stays S k u none = sum_same (strips_of S) 0 (start_below S k) (start_below S (k + 1)) u
    (λ i p lies. let at : 0 + i ≡ i = omega arith in subst (λ (z : ℕ). start_below S k z ≡ start_below S (k + 1) z) (sym at)
    (sym (start_old S k i (λ same. none p.shift p.width (ap (place_of S) (sym same) ∙ strip_back S i u p lies)))))

-- the word after one object more, which is one of 64 bits
pub start_word : (S : Shape) (words : List ℕ) (k : ℕ) (a : Object) (w s d : ℕ) → IsShape S → StartsSoFar S words k → slice_get S.objects k ≡ Some a → a.place ≡ Lane w s d
    → (slice_index words (data_word w) + a.start * 2 ^ s ≡ word_sum (strips_of S) 0 (start_below S (k + 1)) w) × (slice_index words (data_word w) + a.start * 2 ^ s < 2 ^ 64)
start_word S words k a w s d ok h there is =
    let at : place_of S k ≡ Some (Lane w s d) = place_at S k a (Lane w s d) there is in
    let now = h.lanes k w s d at in
    let start : start_of S k ≡ a.start = start_of-at S k a there in
    let new = start_new S k in
    let change : word_sum (strips_of S) 0 (start_below S (k + 1)) w + start_below S k k * 2 ^ s ≡ word_sum (strips_of S) 0 (start_below S k) w + start_below S (k + 1) k * 2 ^ s =
    change_at (strips_of S) k (strip w s d) (start_below S k) (start_below S (k + 1)) w (strip_at S k w s d at) (start_old S k) in
    let x : start_below S k k * 2 ^ s ≡ 0 = ap (λ (z : ℕ). z * 2 ^ s) new.1 ∙ omega arith in
    let y : start_below S (k + 1) k * 2 ^ s ≡ a.start * 2 ^ s = ap (λ (z : ℕ). z * 2 ^ s) (new.0 ∙ start) in
    let is_sum : slice_index words (data_word w) + a.start * 2 ^ s ≡ word_sum (strips_of S) 0 (start_below S (k + 1)) w = omega arith in
    let below : word_sum (strips_of S) 0 (start_below S (k + 1)) w < 2 ^ 64 = sum_below 64 64 (omega arith) (strips_of S) (start_below S (k + 1)) w (laid S ok w)
    (λ i t lies. start_small S (k + 1) i (2 ^ t.width) (subst (λ (z : ℕ). start_of S i < 2 ^ z) (sym (lane_is S ok i w t.shift t.width (strip_back S i w t lies)).wide) (ok.starts i)))
    (λ i t lies _. (lane_is S ok i w t.shift t.width (strip_back S i w t lies)).ends) in
    (is_sum, subst (λ (z : ℕ). z < 2 ^ 64) (sym is_sum) below)

pub starts_lane : (S : Shape) (words : List ℕ) (k : ℕ) (a : Object) (w s d n : ℕ) → IsShape S → StartsSoFar S words k → slice_get S.objects k ≡ Some a → a.place ≡ Lane w s d
    → n ≡ slice_index words (data_word w) + a.start * 2 ^ s → StartsSoFar S (set words (data_word w) n) (k + 1)
starts_lane S words k a w s d n ok h there is made =
    let at : place_of S k ≡ Some (Lane w s d) = place_at S k a (Lane w s d) there is in
    let inside : w < S.words = lane_within S ok k w s d at in let sized = h.sized in
    let sum = start_word S words k a w s d ok h there is in record {
      sized = length-set words (data_word w) n ∙ h.sized;
      quiet = get_or-set_other words (data_word w) 0 n 0 (λ e. omega arith) ∙ h.quiet;
      lanes = λ o u t e here. dite (ℕ_discrete w u)
          (λ (same : w ≡ u). ap (λ (z : ℕ). get_or (set words (data_word w) n) (data_word z) 0) (sym same)
          ∙ (get_or-set_same words (data_word w) n 0 (omega arith) ∙ (made ∙ (sum.0 ∙ ap (word_sum (strips_of S) 0 (start_below S (k + 1))) same))))
          (λ (ne : w ≢ u). get_or-set_other words (data_word w) (data_word u) n 0 (λ x. ne (omega arith)) ∙ (h.lanes o u t e here
          ∙ sum_stays S k u (λ x y bad. let both : Some (Lane w s d) ≡ Some (Lane u x y) = sym at ∙ bad in let same : w ≡ u = cc (both) in ne same)));
      parts = λ o l f m b i lt here within. let before : o ≢ k = λ e. let bad : Some (In l f m b) ≡ Some (Lane w s d) = sym here ∙ (ap (place_of S) e ∙ at) in cc in
          get_or-set_other words (data_word w) (data_word (f + i)) n 0 (λ e. ⊎_elim (λ (x : w < f). omega arith) (λ (x : f + m ≤ w). omega arith) (lane_apart S ok k o w s d l f m b at here))
          ∙ h.parts o l f m b i (omega arith) here within;
    }

pub starts_parts : (S : Shape) (words words' : List ℕ) (k : ℕ) (a : Object) (l f n b : ℕ) → IsShape S → StartsSoFar S words k → slice_get S.objects k ≡ Some a → a.place ≡ In l f n b
    → Puts words (data_word f) n (λ i. part_of b i a.start) words' → StartsSoFar S words' (k + 1)
starts_parts S words words' k a l f n b ok h there is p =
    let at : place_of S k ≡ Some (In l f n b) = place_at S k a (In l f n b) there is in
    let start : start_of S k ≡ a.start = start_of-at S k a there in record {
      sized = p.sized ∙ h.sized;
      quiet = p.others 0 (inl (omega arith)) ∙ h.quiet;
      lanes = λ o u t e here. p.others (data_word u) (⊎_elim (λ (x : u < f). inl (omega arith)) (λ (x : f + n ≤ u). inr (omega arith)) (lane_apart S ok o k u t e l f n b here at))
          ∙ (h.lanes o u t e here ∙ sum_stays S k u (λ x y bad. let both : Some (In l f n b) ≡ Some (Lane u x y) = sym at ∙ bad in cc));
      parts = λ o m g c e i lt here within. dite (ℕ_discrete o k)
          (λ same. let q = one_place S k l f n b m g c e at (ap (place_of S) (sym same) ∙ here) in
          subst (λ (z : ℕ × ℕ). slice_index words' (data_word (z.0 + i)) ≡ part_of z.1 i (start_of S o)) (λ j. (q.first j, q.bits j))
          (let inside : i < n = subst (λ (z : ℕ). i < z) (sym q.count) within in let at_word : data_word (f + i) ≡ data_word f + i = omega arith in
          ap (slice_index words') at_word ∙ (p.done i inside ∙ ap (part_of b i) (sym start ∙ ap (start_of S) (sym same)))))
          (λ ne. let lt' : o < k = omega arith in p.others (data_word (g + i)) (⊎_elim (λ (x : g + c ≤ f). inl (omega arith)) (λ (x : f + n ≤ g). inr (omega arith)) (parts_apart S ok o k m g c e l f n b here at ne))
          ∙ h.parts o m g c e i lt' here within);
    }

-- before any start, where all words are 0
pub starts_none : (S : Shape) (words : List ℕ) → length words ≡ 1 + S.words + S.locks → ((i : ℕ) → slice_index words i ≡ 0) → StartsSoFar S words 0
starts_none S words sized zeros = record {
  sized = sized;
  quiet = zeros 0;
  lanes = λ o w s d there. zeros (data_word w) ∙ sym (sum_same (strips_of S) 0 (start_below S 0) (λ _. 0) w (λ i t lies. ap (λ (b : Bool). if b then start_of S (0 + i) else 0) (le-ltb (0 + i) 0 (omega arith))) ∙ sum_none (strips_of S) 0 w);
  parts = λ o l f n b i lt there within. absurd (omega arith);
}

pub zeros : (n i : ℕ) → slice_index (replicate n 0) i ≡ 0
zeros zero i = refl
zeros (suc n) zero = refl
zeros (suc n) (suc i) = zeros n i

-- what a lane's start needs
pub start_lane : (S : Shape) (k : ℕ) (a : Object) (w s d : ℕ) → IsShape S → slice_get S.objects k ≡ Some a → a.place ≡ Lane w s d → (0 < d) × (s + d ≤ 64) × (a.start < 2 ^ d) × (w < S.words)
start_lane S k a w s d ok there is =
    let at : place_of S k ≡ Some (Lane w s d) = place_at S k a (Lane w s d) there is in
    let lane = lane_is S ok k w s d at in
    let wide : bits_of (kind_of S k).width ≡ d = sym lane.wide in
    (subst (λ (z : ℕ). 0 < z) wide (bits_pos (kind_of S k).width), lane.ends, subst (λ (z : ℕ). a.start < 2 ^ z) wide (subst (λ (z : ℕ). z < values_of (kind_of S k)) (start_of-at S k a there) (ok.starts k)), lane.within)

-- what parts need
pub start_parts : (S : Shape) (k : ℕ) (a : Object) (l f n b : ℕ) → IsShape S → slice_get S.objects k ≡ Some a → a.place ≡ In l f n b → (0 < b) × (b ≤ 64) × (b * n ≤ 128) × (f + n ≤ S.words)
start_parts S k a l f n b ok there is =
    let at : place_of S k ≡ Some (In l f n b) = place_at S k a (In l f n b) there is in
    let within = parts_within S ok k l f n b at in
    let few = parts_few S ok k l f n b at in
    let bits = within.2 in
    let range : (0 < b) × (b ≤ 64) = ⊎_elim (λ (e : S.word_bits ≡ 32). (omega arith, omega arith)) (λ (e : S.word_bits ≡ 64). (omega arith, omega arith)) ok.bits in
    (range.0, range.1, few.2, within.1)

-- every object has its start, and every lock its stamp
pub starts_begin : (S : Shape) (stamp : ℕ) (words words' : List ℕ) (k : ℕ) → length S.objects ≤ k → IsShape S → StartsSoFar S words k → Puts words (1 + S.words) S.locks (λ _. stamp) words'
    → Begins (record { shape = S; first_stamp = stamp }) words'
starts_begin S stamp words words' k le ok h p = record {
  lanes = record {
    sized = p.sized ∙ h.sized;
    quiet = p.others 0 (inl (omega arith)) ∙ h.quiet;
    spelled = λ o w s d there. let inside : w < S.words = lane_within S ok o w s d there in
        p.others (data_word w) (inl (omega arith)) ∙ (h.lanes o w s d there ∙ sum_same (strips_of S) 0 (start_below S k) (value_after S []) w
        (λ i t lies. let at : 0 + i ≡ i = omega arith in subst (λ (z : ℕ). start_below S k z ≡ value_after S [] z) (sym at) (start_is i (strip_back S i w t lies))));
  };
  locks = λ l lt. p.done l lt;
  parts = λ o l f n b i there lt. let top : f + n ≤ S.words = (parts_within S ok o l f n b there).1 in
      p.others (data_word (f + i)) (inl (omega arith)) ∙ h.parts o l f n b i (inside o (In l f n b) there) there lt;
}
  where
    inside : (o : ℕ) (a : Place) → place_of S o ≡ Some a → o < k
    inside o a there = let t = object_of-place S.objects o a there in let lt : o < length S.objects = get_within S.objects o t.0 t.1 in omega arith
      where
        get_within : (xs : List Object) (i : ℕ) (x : Object) → slice_get xs i ≡ Some x → i < length xs
        get_within [] i x e = absurd cc
        get_within (y ∷ ys) zero x e = omega arith
        get_within (y ∷ ys) (suc i) x e = let h = get_within ys i x e in omega arith

    start_is : (o : ℕ) {w s d : ℕ} → place_of S o ≡ Some (Lane w s d) → start_below S k o ≡ value_after S [] o
    start_is o there = ap (λ (b : Bool). if b then start_of S o else 0) (lt-ltb o k (inside o (Lane _ _ _) there)) ∙ sym (value_start S o)
