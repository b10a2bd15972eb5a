-- What the code keeps of a call in flight fits it after each step.
use Rattle.std.proofs.Common.{◌≡◌, ◌≢◌, ◌%◌, ◌^◌, ℕ, ◌<◌, ◌==◌, Bool, true, false, if◌then◌else◌, List, [], ◌∷◌, length, set, get_or, refl, ap, sym, ◌∙◌, Some, eq-eqb, ne_eqb, subst, get_or-set_other, get_or-set_same}
use Rattle.std.specs.Prelude.{slice_index}
use Rattle.std.proofs.lemmas.Nat.{pow_pos}
use mathlib.Core.Logic.{dite}
use native.Mathlib.Decide.{ℕ_discrete}
use Rattle.op_table.specs.declared.call.Call.{Call}
use Rattle.place_core.specs.declared.places.Place.TheVariants.{Parts}
use Rattle.place_core.specs.declared.shape.Shape.{Shape}
use Rattle.place_core.specs.Shapes.{place_of}
use Rattle.place_core.specs.PartValues.{joined}
use Rattle.place_core.proofs.PartSums.{equal_parts_join_equally}
use Rattle.seat_views.specs.declared.hand.Hand.{Hand}
use Rattle.seat_views.specs.declared.view.Flight.{Flight}
use Rattle.seat_views.specs.declared.view.Flight.TheVariants.{Idle, Hold, Glance}
use Rattle.seat_views.specs.Places.{parts_of}
use Rattle.seat_views.specs.PartLists.{look_up, got, HasAll}
use Rattle.seat_views.specs.Limits.{last_stamp}
use Rattle.seat_views.specs.LockSteps.{taken_flight, stamped_flight, read_more, write_more, read_in, stamp_in, released, stored_by, value_read, HandReads, HandFits, HoldsClean, HoldsRead, MayRelease, GlancesAt, GlancesRead, IsGlance}
use Rattle.seat_views.proofs.ShapePlaces.{count_is}

-- a hand with nothing read
none_read : (bits n : ℕ) (h : Hand) → h.stamp ≡ n → ((i : ℕ) → slice_index h.read i ≡ 0) → HandReads bits n [] h
none_read bits n h stamp zero = record { stamp_is = stamp; reads = λ i m e. absurd (cc (e)); small = λ i. subst (λ (z : ℕ). z < 2 ^ bits) (sym (zero i)) (pow_pos bits) }

pub take_hand : (bits o n : ℕ) (h : Hand) → h.stamp ≡ n → h.wrote ≡ false → ((i : ℕ) → slice_index h.read i ≡ 0) → (n ≢ 1 → n % 2 ≡ 0) → HandFits bits (taken_flight o n) h
take_hand bits o n h stamp wrote zero even = dite (ℕ_discrete n 1)
    (λ e. subst (λ (b : Bool). HandFits bits (if b then Idle else Hold o n [] false []) h) (sym (eq-eqb n 1 e)) tt)
    (λ ne. subst (λ (b : Bool). HandFits bits (if b then Idle else Hold o n [] false []) h) (sym (ne_eqb n 1 ne)) (none_read bits n h stamp zero, wrote, even ne))

pub stamp_hand : (bits o n : ℕ) (h : Hand) → h.stamp ≡ n → ((i : ℕ) → slice_index h.read i ≡ 0) → HandFits bits (stamped_flight o n) h
stamp_hand bits o n h stamp zero = go (n == 1) (n == last_stamp)
  where
    go : (a b : Bool) → HandFits bits (if a then Idle else (if b then Idle else Glance o n [])) h
    go true b = tt
    go false true = tt
    go false false = none_read bits n h stamp zero

-- one more part was read
more_read : (bits stamp : ℕ) (read : List (ℕ × ℕ)) (h : Hand) (i n : ℕ) → i < length h.read → n < 2 ^ bits → HandReads bits stamp read h → HandReads bits stamp ((i, n) ∷ read) (record h { read = set h.read i n })
more_read bits stamp read h i n lt small r = record {
  stamp_is = r.stamp_is;
  reads = λ k m look. dite (ℕ_discrete k i)
      (λ e. let a : Some n ≡ Some m = sym (ap (λ (b : Bool). if b then Some n else look_up k read) (eq-eqb k i e)) ∙ look in
      ap (λ (z : ℕ). get_or (set h.read i n) z 0) e ∙ (get_or-set_same h.read i n 0 lt ∙ cc (a)))
      (λ ne. get_or-set_other h.read i k n 0 ne ∙ r.reads k m (sym (ap (λ (b : Bool). if b then Some n else look_up k read) (ne_eqb k i ne)) ∙ look));
  small = λ k. dite (ℕ_discrete k i)
      (λ e. subst (λ (z : ℕ). z < 2 ^ bits) (sym (ap (λ (z : ℕ). get_or (set h.read i n) z 0) e ∙ get_or-set_same h.read i n 0 lt)) small)
      (λ ne. subst (λ (z : ℕ). z < 2 ^ bits) (sym (get_or-set_other h.read i k n 0 ne)) (r.small k));
}

pub held_hand : (bits o : ℕ) (f : Flight) (h : Hand) (i n : ℕ) → HoldsClean o f → i < length h.read → n < 2 ^ bits → HandFits bits f h → HandFits bits (read_more f i n) (record h { read = set h.read i n })
held_hand bits o Idle h i n held lt small fits = absurd held
held_hand bits o (Glance p stamp read) h i n held lt small fits = absurd held
held_hand bits o (Hold p stamp read wrote now) h i n held lt small fits = (more_read bits stamp read h i n lt small fits.0, fits.1, fits.2)

pub part_hand : (bits o : ℕ) (f : Flight) (h : Hand) (i n : ℕ) → GlancesAt o f → i < length h.read → n < 2 ^ bits → HandFits bits f h → HandFits bits (read_more f i n) (record h { read = set h.read i n })
part_hand bits o Idle h i n held lt small fits = absurd held
part_hand bits o (Hold p stamp read wrote now) h i n held lt small fits = absurd held
part_hand bits o (Glance p stamp read) h i n held lt small fits = more_read bits stamp read h i n lt small fits

pub put_hand : (bits o c : ℕ) (f : Flight) (h : Hand) (i n : ℕ) → HoldsRead o c f → HandFits bits f h → HandFits bits (write_more f i n) (record h { wrote = true })
put_hand bits o c Idle h i n held fits = absurd held
put_hand bits o c (Glance p stamp read) h i n held fits = absurd held
put_hand bits o c (Hold p stamp read wrote now) h i n held fits = let r = fits.0 in (record { stamp_is = r.stamp_is; reads = r.reads; small = r.small }, refl, fits.2)

-- ---- the end of a call

-- the parts that the code keeps are those that were read
kept_parts : (bits stamp n : ℕ) (read : List (ℕ × ℕ)) (h : Hand) → HandReads bits stamp read h → HasAll n read → joined bits (slice_index h.read) n ≡ joined bits (got read) n
kept_parts bits stamp n read h r all = equal_parts_join_equally bits n (slice_index h.read) (got read) (λ i lt. r.reads i (got read i) (all i lt))

-- what a hand knows of a hold that is given up
pub record EndsHold (S : Shape) (o : ℕ) (f : Flight) (h : Hand) : Type 0 where
  pub even : h.stamp % 2 ≡ 0
  pub small : (i : ℕ) → slice_index h.read i < 2 ^ S.word_bits
  pub value : joined S.word_bits (slice_index h.read) (parts_of S o) ≡ joined S.word_bits (got (read_in f)) (parts_of S o)
  pub stored : released h.wrote h.stamp ≡ stored_by f

pub ends_hold : (S : Shape) (o : ℕ) (call : Call) (f : Flight) (h : Hand) → MayRelease S o call f → HandFits S.word_bits f h → EndsHold S o f h
ends_hold S o call Idle h may fits = absurd may
ends_hold S o call (Glance p stamp read) h may fits = absurd may
ends_hold S o call (Hold p stamp read wrote now) h may fits = let r = fits.0 in record {
  even = ap (λ (z : ℕ). z % 2) r.stamp_is ∙ fits.2;
  small = r.small;
  value = kept_parts S.word_bits stamp (parts_of S o) read h r may.1;
  stored = λ i. released (fits.1 i) (r.stamp_is i);
}

-- and of a glance that is matched
pub record EndsGlance (S : Shape) (o : ℕ) (f : Flight) (h : Hand) : Type 0 where
  pub small : (i : ℕ) → slice_index h.read i < 2 ^ S.word_bits
  pub value : joined S.word_bits (slice_index h.read) (parts_of S o) ≡ joined S.word_bits (got (read_in f)) (parts_of S o)
  pub stamp : h.stamp ≡ stamp_in f

pub ends_glance : (S : Shape) (o : ℕ) (f : Flight) (h : Hand) → GlancesRead o (parts_of S o) f → HandFits S.word_bits f h → EndsGlance S o f h
ends_glance S o Idle h held fits = absurd held
ends_glance S o (Hold p stamp read wrote now) h held fits = absurd held
ends_glance S o (Glance p stamp read) h held fits = record { small = fits.small; value = kept_parts S.word_bits stamp (parts_of S o) read h fits held.1; stamp = fits.stamp_is }

module _ (S : Shape) (o l f n b : ℕ) (place : place_of S o ≡ Some (Parts l f n b)) (bits : b ≡ S.word_bits) (fl : Flight) (h : Hand) (v : ℕ) (v_is : v ≡ joined b (slice_index h.read) n) where
  -- what the code joins, over the shape
  by_shape : v ≡ joined S.word_bits (slice_index h.read) (parts_of S o)
  by_shape = v_is ∙ (λ i. joined (bits i) (slice_index h.read) (sym (count_is S o l f n b place) i))

  pub release_value : (call : Call) → MayRelease S o call fl → HandFits S.word_bits fl h → v ≡ value_read S o fl
  release_value call may fits = let e = ends_hold S o call fl h may fits in by_shape ∙ e.value

  pub match_value : GlancesRead o (parts_of S o) fl → HandFits S.word_bits fl h → v ≡ value_read S o fl
  match_value held fits = let e = ends_glance S o fl h held fits in by_shape ∙ e.value

-- the stamp of a glance
pub glance_stamp : (bits : ℕ) (f : Flight) (h : Hand) → IsGlance f → HandFits bits f h → h.stamp ≡ stamp_in f
glance_stamp bits Idle h glance fits = absurd glance
glance_stamp bits (Hold o stamp read wrote now) h glance fits = absurd glance
glance_stamp bits (Glance o stamp read) h glance fits = fits.stamp_is
