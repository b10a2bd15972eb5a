-- A step on a lane's word keeps the rule.
use Rattle.std.proofs.Common.{◌⊎◌, if◌then◌else◌, false, true, Bool, ◌==◌, inl, inr, ◌≡◌, ◌≢◌, ⊎_elim, ℕ, ◌≤◌, ◌<◌, ◌+◌, ◌-◌, ◌*◌, ◌/◌, ◌%◌, ◌^◌, List, [], ◌∷◌, ◌++◌, set, get_or, refl, ap, sym, ◌∙◌, subst, arith, Some, length-set, get_or-set_other, get_or-set_same, ne_eqb}
use Rattle.std.specs.Prelude.{slice_index, not}
use Rattle.std.proofs.lemmas.List.{set-get_or}
use prog.Atomic.{either}
use mathlib.Core.Logic.{dite}
use mathlib.Core.Option.{some}
use lib.ListN.{get_elem?}
use native.Mathlib.Decide.{ℕ_discrete}
use Rattle.atomic_table.specs.Table.{State, Act, Me, Valid, carried_after, stepped, keeps, Allows}
use Rattle.atomic_table.proofs.Lists.{exchanged}
use Rattle.op_table.specs.declared.kind.Kind.{Kind}
use Rattle.op_table.specs.declared.call.Call.{Call}
use Rattle.op_table.specs.declared.call.Call.TheVariants.{Load, Store, Swap, Cas, CasWeak, Add, Sub, Max, Min, AddFetch, SubFetch}
use Rattle.op_table.specs.declared.call.Reply.{Reply}
use Rattle.op_table.specs.declared.call.Reply.TheVariants as reply
use Rattle.op_table.specs.Call.{after_of, answer_of, Permits, CallFits}
use Rattle.place_core.specs.declared.entry.Entry.{Entry}
use Rattle.place_core.specs.declared.places.WordOp.{WordOp}
use Rattle.place_core.specs.declared.places.WordOp.TheVariants as op
use Rattle.place_core.specs.declared.places.Place.TheVariants.{Lane, Parts}
use Rattle.place_core.specs.declared.shape.Shape.{Shape}
use Rattle.place_core.specs.Cells.{left_by, effect_of, IsLawful}
use Rattle.place_core.specs.Shapes.{place_of, kind_of, cells_of_shape, word_of, data_word, lock_word, is_sole, IsShape}
use Rattle.place_core.specs.Operations.{word_after, only_if, op_for, OpServes, Replaces}
use Rattle.place_core.proofs.CellValues.{value_of-other, effect_of-answer_of}
use Rattle.place_core.proofs.ShapeWords.{lane_is, word_other}
use Rattle.place_core.proofs.StepLaws.{step_makes_call}
use Rattle.place_core.proofs.WordEntries.{put_makes_call, failed_leaves_word, kept_value_keeps_word}
use Rattle.seat_views.specs.declared.view.Opening.{Opening}
use Rattle.seat_views.specs.declared.view.Role.TheVariants as role
use Rattle.seat_views.specs.declared.view.Item.{Item}
use Rattle.seat_views.specs.declared.view.StepKind.TheVariants as kind
use Rattle.seat_views.specs.declared.view.Flight.TheVariants.{Idle}
use Rattle.seat_views.specs.declared.view.View.{View}
use Rattle.seat_views.specs.Places.{value_after, IsLegalIn}
use Rattle.seat_views.specs.Rule.{Lanes, HoldsUnder, ArenaHolds}
use Rattle.seat_views.specs.Deciding.{look_settles, lost_try_settles}
use Rattle.seat_views.specs.Steps.{Asked, lane_in, entry, item, op_item, grown, caught_up, GrowsAt, Sees, op_tells, look_tells, try_tells}
use Rattle.seat_views.proofs.ShapePlaces.{lane_within, lane_apart, lawful}
use Rattle.seat_views.proofs.Frames.{SameInParts, all_same, flights_of, flights_set, parts_frame, glances_frame}
use Rattle.seat_views.proofs.Histories.{pass_known, shape_is, history_adds, history_sees, sound_set}
use Rattle.seat_views.proofs.StampFacts.{under_more, under_same}

-- ---- the words

-- the words after a step that made an entry on an object with a lane
lanes_adds : (S : Shape) → IsShape S → (log : List Entry) (words : List ℕ) → Lanes S log words → (x : Entry) (w s d n : ℕ) → place_of S x.object ≡ Some (Lane w s d)
    → n ≡ word_of S (log ++ x ∷ []) w → Lanes S (log ++ x ∷ []) (set words (data_word w) n)
lanes_adds S ok log words l x w s d n there new =
    let inside : w < S.words = lane_within S ok x.object w s d there in let sized = l.sized in record {
      sized = length-set words (data_word w) n ∙ l.sized;
      quiet = get_or-set_other words (data_word w) 0 n 0 (λ e. omega arith) ∙ l.quiet;
      spelled = λ p u t e at. dite (ℕ_discrete w u)
          (λ (same : w ≡ u). ap (λ (z : ℕ). get_or (set words (data_word w) n) (data_word z) 0) (sym same)
          ∙ (get_or-set_same words (data_word w) n 0 (omega arith) ∙ (new ∙ ap (word_of S (log ++ x ∷ [])) same)))
          (λ (ne : w ≢ u). get_or-set_other words (data_word w) (data_word u) n 0 (λ h. ne (omega arith))
          ∙ (l.spelled p u t e at ∙ sym (word_other S log x u (λ a b here. let both : Some (Lane w s d) ≡ Some (Lane u a b) = sym there ∙ here in let is : w ≡ u = cc (both) in ne is))));
    }

-- parts do not change where a lane's word does
lane_same_parts : (S : Shape) → IsShape S → (log : List Entry) (words : List ℕ) (x : Entry) (w s d n : ℕ) → place_of S x.object ≡ Some (Lane w s d) → SameInParts S log (log ++ x ∷ []) words (set words (data_word w) n)
lane_same_parts S ok log words x w s d n there o l f c b at = (
  (λ i lt. get_or-set_other words (data_word w) (data_word (f + i)) n 0 (λ e. ⊎_elim (λ (h : w < f). omega arith) (λ (h : f + c ≤ w). omega arith) (lane_apart S ok x.object o w s d l f c b there at))),
  value_of-other (cells_of_shape S) log x o (λ e. let bad : Some (Lane w s d) ≡ Some (Parts l f c b) = sym there ∙ (ap (place_of S) e ∙ at) in cc),
)

-- ---- one step of a seat on a lane's word

-- the word's new number z, and what the step tells
abbrev pub StepsOn : Opening → State (Unit {0}) View → ℕ → ℕ → ℕ → Me (Unit {0}) View → (Me (Unit {0}) View → Type 0) → Type 0
StepsOn k s spot z id m told = (w : View) × (b : Act (Unit {0})) × Valid s.homes m.1 b × ArenaHolds k (stepped s (data_word spot) z id m.1 w b) × told (w, carried_after m.1 b)

module _ (k : Opening) (ok : IsShape k.shape) (o spot sh wd : ℕ) (there : place_of k.shape o ≡ Some (Lane spot sh wd)) (m : Me (Unit {0}) View) (is : m.0.role ≡ role.Pass) (rest : m.0.flight ≡ Idle)
    (s : State (Unit {0}) View) (r : ArenaHolds k s) (id : ℕ) (at : get_elem? s.views id ≡ some m.0) where
  -- the number found is the word of the history, and its lane is the object's value
  found_is : slice_index s.words (data_word spot) ≡ word_of k.shape r.log spot
  found_is = let l = r.lanes in l.spelled o spot sh wd there

  legal_is : IsLegalIn k.shape r.log
  legal_is = let h = r.history in let p = h.passes in p.legal

  lane_found : slice_index s.words (data_word spot) / 2 ^ sh % 2 ^ wd ≡ value_after k.shape r.log o
  lane_found = ap (λ (z : ℕ). z / 2 ^ sh % 2 ^ wd) found_is ∙ lane_is k.shape ok r.log legal_is o spot sh wd there

  -- a view with nothing in flight held nothing
  none_held : (l : ℕ) → HoldsUnder k.shape l m.0.flight → HoldsUnder k.shape l Idle
  none_held l u = subst (HoldsUnder k.shape l) rest u

  -- the step makes an entry
  enters : (call : Call) (rp : Reply) (i : Item) (z : ℕ) → IsLawful (cells_of_shape k.shape) r.log (entry m.0.number o call rp) → z ≡ word_of k.shape (r.log ++ entry m.0.number o call rp ∷ []) spot
      → StepsOn k s spot z id m (λ w. (w.1 ≡ m.1) × GrowsAt m.0 (entry m.0.number o call rp) i spot (slice_index s.words (data_word spot)) w.0)
  enters call rp i z right becomes =
      let S : Shape = k.shape in
      let v : View = m.0 in
      let x : Entry = entry v.number o call rp in
      let w : View = grown v r.log x i in
      let words' : List ℕ = set s.words (data_word spot) z in
      let inside : spot < S.words = lane_within S ok o spot sh wd there in
      let same : SameInParts S r.log (r.log ++ x ∷ []) s.words words' = lane_same_parts S ok r.log s.words x spot sh wd z there in
      let old = flights_of S k.first_stamp r.log r.locks s.words s.views r.parts r.glances in
      let flights = flights_set S r.log r.locks s.words s.views old id v at w tt tt none_held in
      let known = pass_known S r.log r.count r.owner s.views r.history id v at is in
      let shaped : v.shape ≡ S = shape_is S r.log r.count r.owner s.views r.history id v at is in
      let h = history_adds S r.log r.count r.owner s.views r.history id v at is x i refl right in (
        w,
        keeps,
        tt,
        record {
          log = r.log ++ x ∷ [];
          count = r.count;
          owner = r.owner;
          locks = r.locks;
          history = h;
          lanes = lanes_adds S ok r.log s.words r.lanes x spot sh wd z there becomes;
          parts = parts_frame S k.first_stamp r.log r.locks s.words s.views r.parts r.glances (r.log ++ x ∷ []) words' same (set s.views id w) flights
              (λ l lt. get_or-set_other s.words (data_word spot) (lock_word S l) z 0 (λ e. omega arith)) (under_more S r.log (x ∷ []));
          glances = glances_frame S k.first_stamp r.log r.locks s.words s.views r.parts r.glances (r.log ++ x ∷ []) words' same (set s.views id w) flights;
        },
        (
          refl,
          record {
            between = known.prefix.0;
            now = ap (λ (l : List Entry). grown v l x i) (sym known.prefix.1);
            word_is = (λ t. word_of (shaped t) (known.prefix.1 t) spot) ∙ sym found_is;
            sound = sound_set S (r.log ++ x ∷ []) r.count r.owner s.views id v w at h is;
          },
        ),
      )

  -- the step makes no entry, and changes no word
  looks : (i : Item) → StepsOn k s spot (slice_index s.words (data_word spot)) id m (λ w. (w.1 ≡ m.1) × Sees m.0 i spot (slice_index s.words (data_word spot)) w.0)
  looks i =
      let S : Shape = k.shape in
      let v : View = m.0 in
      let w : View = caught_up v r.log i in
      let old = flights_of S k.first_stamp r.log r.locks s.words s.views r.parts r.glances in
      let flights = flights_set S r.log r.locks s.words s.views old id v at w tt tt none_held in
      let known = pass_known S r.log r.count r.owner s.views r.history id v at is in
      let shaped : v.shape ≡ S = shape_is S r.log r.count r.owner s.views r.history id v at is in
      let h = history_sees S r.log r.count r.owner s.views r.history id v at is i in (
        w,
        keeps,
        tt,
        subst (λ (ws : List ℕ). ArenaHolds k record { words = ws; homes = s.homes; views = set s.views id w }) (sym (set-get_or s.words (data_word spot) 0)) record {
          log = r.log;
          count = r.count;
          owner = r.owner;
          locks = r.locks;
          history = h;
          lanes = r.lanes;
          parts = parts_frame S k.first_stamp r.log r.locks s.words s.views r.parts r.glances r.log s.words (all_same S r.log s.words) (set s.views id w) flights (λ l lt. refl) (under_same S r.log);
          glances = glances_frame S k.first_stamp r.log r.locks s.words s.views r.parts r.glances r.log s.words (all_same S r.log s.words) (set s.views id w) flights;
        },
        (
          refl,
          record {
            between = known.prefix.0;
            now = ap (λ (l : List Entry). caught_up v l i) (sym known.prefix.1);
            word_is = (λ t. word_of (shaped t) (known.prefix.1 t) spot) ∙ sym found_is;
            sound = sound_set S r.log r.count r.owner s.views id v w at h is;
          },
        ),
      )

-- ---- a call in one step

-- what is known of a call on a lane
pub record OnLane (S : Shape) (a : Asked) (spot : ℕ) : Type 0 where
  pub place : place_of S a.object ≡ Some (Lane spot a.shift a.width)
  pub kind : kind_of S a.object ≡ a.kind
  pub fits : CallFits a.kind a.call

only : (b : Bool) (o done : WordOp) → only_if b o ≡ Some done → o ≡ done
only true o done e = cc (e)
only false o done e = absurd cc

-- a store's answer is the same at every number
abbrev pub IsBlind : Kind → Call → Type 0
IsBlind k call = (u v : ℕ) → answer_of k call u ≡ answer_of k call v

pub stored : (k : Kind) (s d : ℕ) (sole : Bool) (call : Call) (z : ℕ) → op_for k s d sole call ≡ Some (op.Store z) → IsBlind k call
stored k s d sole (Store a) z e = λ u v. refl
stored k s d sole (Swap a) z e = absurd (let t = only sole (op.Swap (a * 2 ^ s)) (op.Store z) e in cc)
stored k s d sole (Cas x a) z e = absurd (let t = only sole (op.Cas (x * 2 ^ s) (a * 2 ^ s)) (op.Store z) e in cc)
stored k s d sole (CasWeak x a) z e = absurd (let t = only sole (op.Cas (x * 2 ^ s) (a * 2 ^ s)) (op.Store z) e in cc)
stored k s d sole (Add a q) z e = absurd (let t = only _ (op.Add (a * 2 ^ s)) (op.Store z) e in cc)
stored k s d sole (Sub a q) z e = absurd (let t = only _ (op.Sub (a * 2 ^ s)) (op.Store z) e in cc)
stored k s d sole (Max a) z e = absurd (let t = only _ (op.Max (a * 2 ^ s)) (op.Store z) e in cc)
stored k s d sole (Min a) z e = absurd (let t = only _ (op.Min (a * 2 ^ s)) (op.Store z) e in cc)
stored k s d sole (AddFetch a) z e = absurd (let t = only _ (op.Add (a * 2 ^ s)) (op.Store z) e in cc)
stored k s d sole (SubFetch a) z e = absurd (let t = only _ (op.Sub (a * 2 ^ s)) (op.Store z) e in cc)
stored k s d sole _ z e = absurd cc

-- the number that the step tells: the one found, or another that its item doesn't show and at which the call replies the same
abbrev pub TellsReply : Asked → (ℕ → ℕ) → Type 0
TellsReply a g = (n : ℕ) → answer_of a.kind a.call (lane_in a (g n)) ≡ answer_of a.kind a.call (lane_in a n)

less : (spot : ℕ) → data_word spot - 1 ≡ spot
less spot = omega arith

pub op_keeps : (k : Opening) → IsShape k.shape → (a : Asked) (spot : ℕ) → OnLane k.shape a spot → op_for a.kind a.shift a.width (is_sole k.shape spot) a.call ≡ Some a.done → (slots id : ℕ) (m : Me (Unit {0}) View) (g : ℕ → ℕ)
    → m.0.role ≡ role.Pass → m.0.flight ≡ Idle → TellsReply a g → Allows (ArenaHolds k) slots id m (data_word spot) (word_after a.done) (λ n. op_tells a (data_word spot) m (g n))
op_keeps k ok a spot on serves slots id m g is rest told s r _ at _ =
    let S : Shape = k.shape in
    let n : ℕ = slice_index s.words (data_word spot) in
    let kd : Kind = kind_of S a.object in
    let rp : Reply = answer_of a.kind a.call (lane_in a n) in
    let x : Entry = entry m.0.number a.object a.call rp in
    let found : n ≡ word_of S r.log spot = found_is k ok a.object spot a.shift a.width on.place m is rest s r id at in
    let legal = legal_is k ok a.object spot a.shift a.width on.place m is rest s r id at in
    let bits : lane_in a n ≡ value_after S r.log a.object = lane_found k ok a.object spot a.shift a.width on.place m is rest s r id at in
    let replied : rp ≡ answer_of kd a.call (lane_in a n) = ap (λ (z : Kind). answer_of z a.call (lane_in a n)) (sym on.kind) in
    let fits : CallFits kd a.call = subst (λ (z : Kind). CallFits z a.call) (sym on.kind) on.fits in
    let sv : OpServes S a.object a.call a.done = record { word = spot; shift = a.shift; width = a.width; lane = on.place; serves = subst (λ (z : Kind). op_for z a.shift a.width (is_sole S spot) a.call ≡ Some a.done) (sym on.kind) serves } in
    let at_value : rp ≡ answer_of kd a.call (value_after S r.log a.object) = replied ∙ ap (answer_of kd a.call) bits in
    let left : left_by kd x (value_after S r.log a.object) ≡ after_of kd a.call (value_after S r.log a.object) =
    ap (λ (z : Reply). effect_of z (after_of kd a.call (value_after S r.log a.object)) (value_after S r.log a.object)) at_value ∙ effect_of-answer_of kd a.call (value_after S r.log a.object) in
    let becomes : word_after a.done n ≡ word_of S (r.log ++ x ∷ []) spot = ap (word_after a.done) found
    ∙ step_makes_call S ok r.log legal a.call a.done x refl sv fits (replied ∙ ap (λ (z : ℕ). answer_of kd a.call (z / 2 ^ a.shift % 2 ^ a.width)) found) in
    let t = enters k ok a.object spot a.shift a.width on.place m is rest s r id at a.call rp (op_item (data_word spot) a.done n) (word_after a.done n)
    (lawful S r.log x (Lane spot a.shift a.width) on.place fits (inl (at_value, left))) becomes in
    (t.0, t.1, t.2, t.3, (t.4.0, record { found = n; same = told n; grows = subst (λ (z : ℕ). GrowsAt m.0 x (op_item (data_word spot) a.done n) z n t.0) (sym (less spot)) t.4.1 }))

-- ---- a look, and a try

-- an answer of an exchange that fails
failing : (b : Bool) (v : ℕ) → not b ≡ true → (if b then reply.Done v else reply.Failed v) ≡ reply.Failed v
failing true v e = absurd cc
failing false v e = refl

-- where a look settles the call, the answer leaves the value
decided : (k : Kind) (call : Call) (v : ℕ) → look_settles call v ≡ true → effect_of (answer_of k call v) (after_of k call v) v ≡ v
decided k Load v e = refl
decided k (Cas x n) v e = ap (λ (z : Reply). effect_of z (after_of k (Cas x n) v) v) (failing (v == x) v e)
decided k (CasWeak x n) v e = ap (λ (z : Reply). effect_of z (after_of k (CasWeak x n) v) v) (failing (v == x) v e)
decided k _ v e = absurd cc

-- where a lost try fails the call, the failure is permitted
strong_fails : (k : Kind) (e n v : ℕ) → not (v == e) ≡ true → (reply.Failed v ≡ answer_of k (Cas e n) v) × (v ≡ after_of k (Cas e n) v)
strong_fails k e n v t = go (v == e) refl t
  where
    go : (b : Bool) → (v == e) ≡ b → not b ≡ true → (reply.Failed v ≡ answer_of k (Cas e n) v) × (v ≡ after_of k (Cas e n) v)
    go true h t = absurd cc
    go false h t = (ap (λ (b : Bool). if b then reply.Done v else reply.Failed v) (sym h), ap (λ (b : Bool). if b then n else v) (sym h))

failed : (k : Kind) (call : Call) (v : ℕ) → lost_try_settles call v ≡ true → Permits k call v (reply.Failed v) v
failed k (Cas e n) v t = inl (strong_fails k e n v t)
failed k (CasWeak e n) v t = dite (ℕ_discrete v e)
    (λ same. inr (same, refl, refl))
    (λ ne. inl (strong_fails k e n v (ap not (ne_eqb v e ne))))
failed k _ v t = absurd cc

two_ways : (b : Bool) → (b ≡ true) ⊎ (b ≡ false)
two_ways true = inl refl
two_ways false = inr refl

pub look_keeps : (k : Opening) → IsShape k.shape → (a : Asked) (spot : ℕ) → OnLane k.shape a spot → (slots id : ℕ) (m : Me (Unit {0}) View) → m.0.role ≡ role.Pass → m.0.flight ≡ Idle
    → Allows (ArenaHolds k) slots id m (data_word spot) (λ n. n) (look_tells a (data_word spot) m)
look_keeps k ok a spot on slots id m is rest s r _ at _ =
    let S : Shape = k.shape in
    let n : ℕ = slice_index s.words (data_word spot) in
    let kd : Kind = kind_of S a.object in
    let v : ℕ = value_after S r.log a.object in
    let found : n ≡ word_of S r.log spot = found_is k ok a.object spot a.shift a.width on.place m is rest s r id at in
    let bits : lane_in a n ≡ v = lane_found k ok a.object spot a.shift a.width on.place m is rest s r id at in
    let it : Item = item (data_word spot) kind.Look n in
    ⊎_elim
    (λ (t : look_settles a.call (lane_in a n) ≡ true).
    let rp : Reply = answer_of a.kind a.call (lane_in a n) in
    let x : Entry = entry m.0.number a.object a.call rp in
    let replied : rp ≡ answer_of kd a.call v = (λ i. answer_of (sym on.kind i) a.call (bits i)) in
    let fits : CallFits kd a.call = subst (λ (z : Kind). CallFits z a.call) (sym on.kind) on.fits in
    let at_value : look_settles a.call v ≡ true = subst (λ (z : ℕ). look_settles a.call z ≡ true) bits t in
    let left : left_by kd x v ≡ v = ap (λ (z : Reply). effect_of z (after_of kd a.call v) v) replied ∙ decided kd a.call v at_value in
    let as_after : left_by kd x v ≡ after_of kd a.call v = ap (λ (z : Reply). effect_of z (after_of kd a.call v) v) replied ∙ effect_of-answer_of kd a.call v in
    let stays : n ≡ word_of S (r.log ++ x ∷ []) spot = found ∙ sym ((kept_value_keeps_word S r.log x left).1 spot) in
    let g = enters k ok a.object spot a.shift a.width on.place m is rest s r id at a.call rp it n (lawful S r.log x (Lane spot a.shift a.width) on.place fits (inl (replied, as_after))) stays in
    (g.0, g.1, g.2, g.3, (g.4.0, (λ _. subst (λ (z : ℕ). GrowsAt m.0 x it z n g.0) (sym (less spot)) g.4.1), λ (f : look_settles a.call (lane_in a n) ≡ false). let bad : true ≡ false = sym t ∙ f in absurd cc)))
    (λ (f : look_settles a.call (lane_in a n) ≡ false).
    let g = looks k ok a.object spot a.shift a.width on.place m is rest s r id at it in
    (g.0, g.1, g.2, g.3, (g.4.0, (λ (t : look_settles a.call (lane_in a n) ≡ true). let bad : true ≡ false = sym t ∙ f in absurd cc), λ _. subst (λ (z : ℕ). Sees m.0 it z n g.0) (sym (less spot)) g.4.1)))
    (two_ways (look_settles a.call (lane_in a n)))

-- a try: the word is exchanged from the number found to the one with the lane replaced
pub try_keeps : (k : Opening) → IsShape k.shape → (a : Asked) (spot : ℕ) → OnLane k.shape a spot → (slots id : ℕ) (m : Me (Unit {0}) View) (found new : ℕ) → m.0.role ≡ role.Pass → m.0.flight ≡ Idle
    → Replaces a.shift (lane_in a found) (after_of a.kind a.call (lane_in a found)) found new
    → Allows (ArenaHolds k) slots id m (data_word spot) (λ n. either (n == found) new n) (try_tells a (data_word spot) found m)
try_keeps k ok a spot on slots id m found new is rest made s r _ at _ =
    let S : Shape = k.shape in
    let n : ℕ = slice_index s.words (data_word spot) in
    let kd : Kind = kind_of S a.object in
    let v : ℕ = value_after S r.log a.object in
    let f_is : n ≡ word_of S r.log spot = found_is k ok a.object spot a.shift a.width on.place m is rest s r id at in
    let legal = legal_is k ok a.object spot a.shift a.width on.place m is rest s r id at in
    let bits : lane_in a n ≡ v = lane_found k ok a.object spot a.shift a.width on.place m is rest s r id at in
    let fits : CallFits kd a.call = subst (λ (z : Kind). CallFits z a.call) (sym on.kind) on.fits in
    let it : Item = item (data_word spot) kind.Try n in
    exchanged n found new
    (λ z. StepsOn k s spot z id m (try_tells a (data_word spot) found m n))
    (λ hit.
    let rp : Reply = answer_of a.kind a.call (lane_in a n) in
    let x : Entry = entry m.0.number a.object a.call rp in
    let at_lane : rp ≡ answer_of kd a.call (lane_in a n) = ap (λ (z : Kind). answer_of z a.call (lane_in a n)) (sym on.kind) in
    let replied : rp ≡ answer_of kd a.call v = at_lane ∙ ap (answer_of kd a.call) bits in
    let left : left_by kd x v ≡ after_of kd a.call v = ap (λ (z : Reply). effect_of z (after_of kd a.call v) v) replied ∙ effect_of-answer_of kd a.call v in
    let made_n : Replaces a.shift (lane_in a n) (after_of kd a.call (lane_in a n)) n new =
    subst (λ (z : ℕ × Kind). Replaces a.shift (lane_in a z.0) (after_of z.1 a.call (lane_in a z.0)) z.0 new) (λ i. (sym hit i, sym on.kind i)) made in
    let g = enters k ok a.object spot a.shift a.width on.place m is rest s r id at a.call rp it new (lawful S r.log x (Lane spot a.shift a.width) on.place fits (inl (replied, left)))
    (put_makes_call S ok r.log legal x spot a.shift a.width n new on.place f_is at_lane made_n) in
    (g.0, g.1, g.2, g.3, (g.4.0, (λ _. subst (λ (z : ℕ). GrowsAt m.0 x it z n g.0) (sym (less spot)) g.4.1), (λ miss. absurd (miss hit)), λ miss. absurd (miss hit))))
    (λ miss. ⊎_elim
    (λ (t : lost_try_settles a.call (lane_in a n) ≡ true).
    let x : Entry = entry m.0.number a.object a.call (reply.Failed (lane_in a n)) in
    let permitted : Permits kd a.call v (reply.Failed (lane_in a n)) v = subst (λ (z : ℕ). Permits kd a.call v (reply.Failed z) v) (sym bits) (failed kd a.call v (subst (λ (z : ℕ). lost_try_settles a.call z ≡ true) bits t)) in
    let g = enters k ok a.object spot a.shift a.width on.place m is rest s r id at a.call (reply.Failed (lane_in a n)) it n
    (lawful S r.log x (Lane spot a.shift a.width) on.place fits permitted) (f_is ∙ sym ((failed_leaves_word S r.log x (lane_in a n) refl).1 spot)) in
    (g.0, g.1, g.2, g.3, (g.4.0, (λ hit. absurd (miss hit)), (λ _ _. subst (λ (z : ℕ). GrowsAt m.0 x it z n g.0) (sym (less spot)) g.4.1), λ _ (f : lost_try_settles a.call (lane_in a n) ≡ false). let bad : true ≡ false = sym t ∙ f in absurd cc)))
    (λ (f : lost_try_settles a.call (lane_in a n) ≡ false).
    let g = looks k ok a.object spot a.shift a.width on.place m is rest s r id at it in
    (g.0, g.1, g.2, g.3, (g.4.0, (λ hit. absurd (miss hit)), (λ _ (t : lost_try_settles a.call (lane_in a n) ≡ true). let bad : true ≡ false = sym t ∙ f in absurd cc), λ _ _. subst (λ (z : ℕ). Sees m.0 it z n g.0) (sym (less spot)) g.4.1)))
    (two_ways (lost_try_settles a.call (lane_in a n))))
