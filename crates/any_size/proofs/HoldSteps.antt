-- The steps of a hold keep the rule: the lock is taken, words are read and written, the lock is given up.
use Rattle.std.proofs.Common.{◌≡◌, ◌≢◌, inl, inr, ⊎_elim, ℕ, ◌≤◌, ◌<◌, ◌+◌, ◌==◌, Bool, true, false, if◌then◌else◌, List, [], ◌∷◌, ◌++◌, length, take, drop, set, get_or, refl, ap, sym, ◌∙◌, subst, arith, Option, Some, None, length-set, length-append, get_or-set_other, eq-eqb}
use Rattle.std.specs.Prelude.{slice_index}
use Rattle.std.proofs.lemmas.List.{set-get_or, take_more, take_all}
use mathlib.Core.Option.{some}
use mathlib.Core.Logic.{dite}
use native.Mathlib.Decide.{ℕ_discrete}
use lib.ListN.{get_elem?}
use Rattle.atomic_table.specs.Table.{State, Me, Act, keeps, Valid, stepped, carried_after, Allows}
use Rattle.place_core.proofs.EntryLists.{value_from-own, value_from-other}
use Rattle.place_core.proofs.Seats.{set_own, seats_stay}
use Rattle.any_size.specs.declared.call.BlockCall.{BlockCall}
use Rattle.any_size.specs.declared.call.BlockEntry.{BlockEntry}
use Rattle.any_size.specs.declared.view.BlockRole.TheVariants as role
use Rattle.any_size.specs.declared.view.BlockStep.TheVariants as kind
use Rattle.any_size.specs.declared.view.BlockItem.{BlockItem}
use Rattle.any_size.specs.declared.view.Hold.{Hold}
use Rattle.any_size.specs.declared.view.Hold.TheVariants.{Idle, Held}
use Rattle.any_size.specs.declared.view.BlockView.{BlockView}
use Rattle.any_size.specs.Bytes.{Spells}
use Rattle.any_size.specs.Operations.{block_after, block_answer, OperandsFit}
use Rattle.any_size.specs.Histories.{start_at, size_of, object_of, left_by, value_of}
use Rattle.any_size.specs.Layout.{count_of, lock_of, lock_word, first_word, table_size}
use Rattle.any_size.specs.Rule.{Lock, shown, written_of, IsWritten, held_now, object_words, HoldFits, KnowsHold, HoldsUnder, IsHolder, Words, BlocksHold}
use Rattle.any_size.specs.Steps.{item, entry, moved, grown, taken, read_more, put_more, IsSpelled, TellsValue, Grows}
use Rattle.any_size.proofs.WordLists.{words_else, words_own, words_length, words_get, put_next, put_written, spells_one}
use Rattle.any_size.proofs.Layouts.{lies_within, lies_apart, lock_within}
use Rattle.any_size.proofs.Frames.{set_lock, lock_here, lock_else, each_lock, lock_shows, lock_object, holds_else, holder_set, words_view}
use Rattle.any_size.proofs.Histories.{pass_known, carries, history_moved, history_adds, sound_set}

other_holder : (a : Option ℕ) (id j : ℕ) → a ≡ Some id → j ≢ id → a ≢ Some j
other_holder a id j is apart e = let both : Some id ≡ Some j = sym is ∙ e in let same : id ≡ j = cc (both) in apart (sym same)

not_held : (a : Option ℕ) (j : ℕ) → a ≡ None → a ≢ Some j
not_held a j is e = let bad : None ≡ Some j = sym is ∙ e in cc

module _ (S : List (List ℕ)) (K : ℕ) where
  -- a load, after which the view has another call in flight
  load_step : (s : State (Unit {0}) BlockView) (r : BlocksHold S K s) (id : ℕ) (v : BlockView) → get_elem? s.views id ≡ some v → (i : BlockItem) (f : Hold) → KnowsHold S K r.log r.state s.words id f
      → ((l : ℕ) → HoldsUnder K l v.hold → HoldsUnder K l f) → (j : ℕ) → BlocksHold S K record { words = set s.words j (slice_index s.words j); homes = s.homes; views = set s.views id (moved v i f) }
  load_step s r id v at i f hold under j =
      subst (λ (ws : List ℕ). BlocksHold S K record { words = ws; homes = s.homes; views = set s.views id (moved v i f) }) (sym (set-get_or s.words j 0)) record {
        log = r.log;
        count = r.count;
        owner = r.owner;
        state = r.state;
        history = history_moved S K r.log r.count r.owner s.views r.history id v at i f;
        words = words_view S K r.log r.state s.words s.views r.words id v at (moved v i f) hold under;
      }

  -- the object o, and its lock
  module _ (some_lock : 0 < K) (o : ℕ) (inside : o < length S) where
    -- the lock is swapped for 1
    pub take_keeps : (slots id : ℕ) (m : Me (Unit {0}) BlockView) → m.0.hold ≡ Idle
        → Allows (BlocksHold S K) slots id m (lock_word (lock_of K o)) (λ _. 1) (λ n w. (w.1 ≡ m.1) × (n < 2) × (w.0 ≡ moved m.0 (item (lock_word (lock_of K o)) kind.Take n) (taken o n)))
    take_keeps slots id m rest s r _ at _ = let old = r.words in by_holder s r id m rest at (r.state (lock_of K o)).holder refl (old.locked (lock_of K o) (lock_within S K o some_lock))
      where
        by_holder : (s : State (Unit {0}) BlockView) (r : BlocksHold S K s) (id : ℕ) (m : Me (Unit {0}) BlockView) → m.0.hold ≡ Idle → get_elem? s.views id ≡ some m.0 → (h : Option ℕ) → (r.state (lock_of K o)).holder ≡ h
            → slice_index s.words (lock_word (lock_of K o)) ≡ shown h → (w : BlockView) × (a : Act (Unit {0})) × Valid s.homes m.1 a × BlocksHold S K (stepped s (lock_word (lock_of K o)) 1 id m.1 w a)
            × ((carried_after m.1 a ≡ m.1) × (slice_index s.words (lock_word (lock_of K o)) < 2)
            × (w ≡ moved m.0 (item (lock_word (lock_of K o)) kind.Take (slice_index s.words (lock_word (lock_of K o)))) (taken o (slice_index s.words (lock_word (lock_of K o))))))
        by_holder s r id m rest at (Some j) holder one =
            let word : ℕ = lock_word (lock_of K o) in
            let q : ℕ = slice_index s.words word in
            let v : BlockView = m.0 in
            let it : BlockItem = item word kind.Take q in (
              moved v it Idle,
              keeps,
              tt,
              subst (λ (x : ℕ). BlocksHold S K record { words = set s.words word x; homes = s.homes; views = set s.views id (moved v it Idle) }) one
                  (load_step s r id v at it Idle tt (λ z u. subst (HoldsUnder K z) rest u) word),
              (refl, omega arith, ap (λ (x : ℕ). moved v it (taken o x)) (sym one)),
            )
        by_holder s r id m rest at None free zero_is =
            let l : ℕ = lock_of K o in
            let word : ℕ = lock_word l in
            let q : ℕ = slice_index s.words word in
            let v : BlockView = m.0 in
            let it : BlockItem = item word kind.Take q in
            let f : Hold = Held o [] [] in
            let w : BlockView = moved v it f in
            let c : Lock = record { holder = Some id; written = None } in
            let state' : ℕ → Lock = set_lock r.state l c in
            let words' : List ℕ = set s.words word 1 in
            let old = r.words in
            let sized : length s.words ≡ table_size S K = old.sized in
            let lt : l < K = lock_within S K o some_lock in
            let clean : (r.state l).written ≡ None = old.clean l free in
            let same : (p : ℕ) → p < length S → object_words S K words' p ≡ object_words S K s.words p = λ p here. lock_object S K s.words l 1 p lt here in (
              w,
              keeps,
              tt,
              record {
                log = r.log;
                count = r.count;
                owner = r.owner;
                state = state';
                history = history_moved S K r.log r.count r.owner s.views r.history id v at it f;
                words = record {
                  sized = length-set s.words word 1 ∙ sized;
                  quiet = get_or-set_other s.words word 0 1 0 (λ e. omega arith) ∙ old.quiet;
                  locked = lock_shows K r.state s.words l 1 c lt (omega arith) refl old.locked;
                  clean = each_lock (λ i z. z.holder ≡ None → z.written ≡ None) r.state l c (λ _. refl) (λ i _ e. old.clean i e);
                  holders = each_lock (λ i z. (j : ℕ) → z.holder ≡ Some j → IsHolder K i (set s.views id w) j) r.state l c
                      (λ j e. let is : id ≡ j = cc (e) in record { view = w; there = subst (λ (z : ℕ). get_elem? (set s.views id w) z ≡ some w) is (set_own s.views id w v at); under = refl })
                      (λ i _ j e. holder_set S K i s.views id v w at (λ u. absurd (subst (HoldsUnder K i) rest u)) j (old.holders i j e));
                  spelled = λ p here not_now. subst (λ (ws : List ℕ). Spells (size_of S p) ws (value_of S r.log p)) (sym (same p here)) (old.spelled p here
                      (λ was. dite (ℕ_discrete (lock_of K p) l)
                      (λ e. not_held (r.state l).written p clean (ap (λ (z : ℕ). (r.state z).written) (sym e) ∙ was))
                      (λ ne. not_now (ap (λ (z : Lock). z.written) (lock_else r.state l c (lock_of K p) ne) ∙ was))));
                  holds = seats_stay (λ j d. KnowsHold S K r.log state' words' j d.hold) s.views id w
                      record { inside = inside; mine = lock_here r.state l c l refl; now = refl; whole = λ bad. absurd bad }
                      (λ j d _ there. holds_else S K r.log r.log r.state l c s.words words' j (not_held (r.state l).holder j free) (λ p here _. (same p here, refl)) d.hold (old.holds j d there));
                };
              },
              (refl, omega arith, ap (λ (x : ℕ). moved v it (taken o x)) (sym zero_is)),
            )

    -- a word is read under the lock
    pub held_keeps : (read : List ℕ) → length read < count_of S o → (slots id : ℕ) (m : Me (Unit {0}) BlockView) → m.0.hold ≡ Held o read []
        → Allows (BlocksHold S K) slots id m (first_word S K o + length read) (λ x. x)
        (λ n w. (w.1 ≡ m.1) × (w.0 ≡ moved m.0 (item (first_word S K o + length read) kind.Held n) (read_more m.0.hold (n ∷ []))) × TellsValue S (read_more m.0.hold (n ∷ [])))
    held_keeps read fewer slots id m is s r _ at _ =
        let v : BlockView = m.0 in
        let f : ℕ = first_word S K o in
        let n : ℕ = count_of S o in
        let i : ℕ = length read in
        let word : ℕ = f + i in
        let x : ℕ = slice_index s.words word in
        let it : BlockItem = item word kind.Held x in
        let all : List ℕ = object_words S K s.words o in
        let old = r.words in
        let sized : length s.words ≡ table_size S K = old.sized in
        let within = lies_within S K o inside in
        let top : f + n ≤ table_size S K = within.1 in
        let long : length all ≡ n = words_length s.words f n (omega arith) in
        let h : HoldFits S K r.log r.state s.words id o read [] = subst (KnowsHold S K r.log r.state s.words id) is (old.holds id v at) in
        let now : take (i + 1) all ≡ read ++ x ∷ [] = take_more all i 0 (omega arith) ∙ (λ t. h.now t ++ words_get s.words f n i fewer t ∷ []) in
        let more : length (read ++ x ∷ []) ≡ i + 1 = length-append read (x ∷ []) in
        let spelled : Spells (size_of S o) all (value_of S r.log o) = old.spelled o inside (λ bad. not_held _ o (ap (λ (z : Lock). z.written) h.mine) bad) in (
          moved v it (Held o (read ++ x ∷ []) []),
          keeps,
          tt,
          load_step s r id v at it (Held o (read ++ x ∷ []) [])
              record { inside = inside; mine = h.mine; now = ap (λ (z : ℕ). take z all) more ∙ now; whole = λ bad. absurd bad }
              (λ z u. subst (HoldsUnder K z) is u) word,
          (
            refl,
            ap (λ (z : Hold). moved v it (read_more z (x ∷ []))) (sym is),
            subst (λ (z : Hold). TellsValue S (read_more z (x ∷ []))) (sym is)
                (λ full. record { value = value_of S r.log o; spells = subst (λ (ws : List ℕ). Spells (size_of S o) ws (value_of S r.log o)) (sym (take_all (i + 1) all (omega arith)) ∙ now) spelled }),
          ),
        )

    -- the words as they are, and what was read spells the value
    module _ (read put : List ℕ) (full : length read ≡ count_of S o) (s : State (Unit {0}) BlockView) (r : BlocksHold S K s) (id : ℕ) (v : BlockView) (at : get_elem? s.views id ≡ some v) (is : v.hold ≡ Held o read put) where
      held_is : HoldFits S K r.log r.state s.words id o read put
      held_is = subst (KnowsHold S K r.log r.state s.words id) is (let old = r.words in old.holds id v at)

      all_long : length (object_words S K s.words o) ≡ count_of S o
      all_long = let old = r.words in let sized : length s.words ≡ table_size S K = old.sized in let within = lies_within S K o inside in words_length s.words (first_word S K o) (count_of S o) (omega (arith, within.1))

      all_is : object_words S K s.words o ≡ held_now read put
      all_is = let h = held_is in sym (take_all (length read) (object_words S K s.words o) (let long = all_long in omega arith)) ∙ h.now

    reads_value : (read put : List ℕ) (full : length read ≡ count_of S o) (s : State (Unit {0}) BlockView) (r : BlocksHold S K s) (id : ℕ) (v : BlockView) → get_elem? s.views id ≡ some v → v.hold ≡ Held o read put
        → Spells (size_of S o) read (value_of S r.log o)
    reads_value read [] full s r id v at is = let h = held_is read [] full s r id v at is in let old = r.words in
        subst (λ (ws : List ℕ). Spells (size_of S o) ws (value_of S r.log o)) (all_is read [] full s r id v at is) (old.spelled o inside (λ bad. not_held _ o (ap (λ (z : Lock). z.written) h.mine) bad))
    reads_value read (p ∷ put) full s r id v at is = let h = held_is read (p ∷ put) full s r id v at is in (h.whole tt).1

    -- no other object was written under the lock
    written_else : (put : List ℕ) (p : ℕ) → p ≢ o → written_of o put ≢ Some p
    written_else [] p far e = cc
    written_else (x ∷ xs) p far e = let same : o ≡ p = cc (e) in far (sym same)

    -- a word is written under the lock
    pub put_keeps : (read put : List ℕ) → length read ≡ count_of S o → length put < count_of S o → (x slots id : ℕ) (m : Me (Unit {0}) BlockView) → m.0.hold ≡ Held o read put
        → Allows (BlocksHold S K) slots id m (first_word S K o + length put) (λ _. x)
        (λ _ w. (w.1 ≡ m.1) × (w.0 ≡ moved m.0 (item (first_word S K o + length put) kind.Put x) (put_more m.0.hold (x ∷ []))))
    put_keeps read put full fewer x slots id m is s r _ at _ =
        let v : BlockView = m.0 in
        let l : ℕ = lock_of K o in
        let f : ℕ = first_word S K o in
        let n : ℕ = count_of S o in
        let i : ℕ = length put in
        let word : ℕ = f + i in
        let it : BlockItem = item word kind.Put x in
        let put' : List ℕ = put ++ x ∷ [] in
        let g : Hold = Held o read put' in
        let w : BlockView = moved v it g in
        let c : Lock = record { holder = Some id; written = Some o } in
        let state' : ℕ → Lock = set_lock r.state l c in
        let words' : List ℕ = set s.words word x in
        let old = r.words in
        let sized : length s.words ≡ table_size S K = old.sized in
        let lt : l < K = lock_within S K o some_lock in
        let within = lies_within S K o inside in
        let low : 1 + K ≤ f = within.0 in
        let h = held_is read put full s r id v at is in
        let holder : (r.state l).holder ≡ Some id = ap (λ (z : Lock). z.holder) h.mine in
        let written : (r.state l).written ≡ written_of o put = ap (λ (z : Lock). z.written) h.mine in
        let same : (p : ℕ) → p < length S → p ≢ o → object_words S K words' p ≡ object_words S K s.words p = λ p here far. words_else s.words (first_word S K p) (count_of S p) word x
        (⊎_elim (λ (a : first_word S K p + count_of S p ≤ f). inr (omega arith)) (λ (a : f + n ≤ first_word S K p). inl (omega arith)) (lies_apart S K p o here inside far)) in
        let now : object_words S K words' o ≡ held_now read put' = words_own s.words f n i x fewer ∙ (ap (λ (ws : List ℕ). set ws i x) (all_is read put full s r id v at is) ∙ sym (put_next read put x (omega arith))) in
        let apart : (p : ℕ) → lock_of K p ≢ l → p ≢ o = λ p far e. far (ap (lock_of K) e) in (
          w,
          keeps,
          tt,
          record {
            log = r.log;
            count = r.count;
            owner = r.owner;
            state = state';
            history = history_moved S K r.log r.count r.owner s.views r.history id v at it g;
            words = record {
              sized = length-set s.words word x ∙ sized;
              quiet = get_or-set_other s.words word 0 x 0 (λ e. omega arith) ∙ old.quiet;
              locked = each_lock (λ j z. j < K → slice_index words' (lock_word j) ≡ shown z.holder) r.state l c
                  (λ here. get_or-set_other s.words word (lock_word l) x 0 (λ e. omega arith) ∙ (old.locked l here ∙ ap shown holder))
                  (λ j _ here. get_or-set_other s.words word (lock_word j) x 0 (λ e. omega arith) ∙ old.locked j here);
              clean = each_lock (λ j z. z.holder ≡ None → z.written ≡ None) r.state l c (λ bad. absurd (cc (bad))) (λ j _ e. old.clean j e);
              holders = each_lock (λ j z. (k : ℕ) → z.holder ≡ Some k → IsHolder K j (set s.views id w) k) r.state l c
                  (λ k e. let is_id : id ≡ k = cc (e) in record { view = w; there = subst (λ (z : ℕ). get_elem? (set s.views id w) z ≡ some w) is_id (set_own s.views id w v at); under = refl })
                  (λ j _ k e. holder_set S K j s.views id v w at (λ u. subst (HoldsUnder K j) is u) k (old.holders j k e));
              spelled = λ p here not_now. dite (ℕ_discrete p o)
                  (λ e. absurd (not_now (ap (λ (z : Lock). z.written) (lock_here r.state l c (lock_of K p) (ap (lock_of K) e)) ∙ ap (λ (z : ℕ). Some z) (sym e))))
                  (λ far. subst (λ (ws : List ℕ). Spells (size_of S p) ws (value_of S r.log p)) (sym (same p here far)) (old.spelled p here
                  (λ was. dite (ℕ_discrete (lock_of K p) l)
                  (λ e. written_else put p far (sym written ∙ (ap (λ (z : ℕ). (r.state z).written) (sym e) ∙ was)))
                  (λ ne. not_now (ap (λ (z : Lock). z.written) (lock_else r.state l c (lock_of K p) ne) ∙ was)))));
              holds = seats_stay (λ j d. KnowsHold S K r.log state' words' j d.hold) s.views id w
                  record {
                    inside = inside;
                    mine = lock_here r.state l c l refl ∙ ap (λ (z : Option ℕ). record { holder = Some id; written = z }) (sym (put_written o put x));
                    now = take_all (length read) (object_words S K words' o) (let e = all_long read put full s r id v at is in let d = ap length (words_own s.words f n i x fewer) in let b = length-set (object_words S K s.words o) i x in omega arith) ∙ now;
                    whole = λ _. (full, reads_value read put full s r id v at is);
                  }
                  (λ j d far there. holds_else S K r.log r.log r.state l c s.words words' j (other_holder (r.state l).holder id j holder far) (λ p here ne. (same p here (apart p ne), refl)) d.hold (old.holds j d there));
            };
          },
          (refl, ap (λ (z : Hold). moved v it (put_more z (x ∷ []))) (sym is)),
        )

    -- the lock is given up, and the call enters the history
    pub release_keeps : (call : BlockCall) (val read put : List ℕ) → OperandsFit (size_of S o) call → length read ≡ count_of S o → Spells (size_of S o) read val → Spells (size_of S o) (held_now read put) (block_after call val)
        → (slots id : ℕ) (m : Me (Unit {0}) BlockView) → m.0.role ≡ role.Pass → m.0.hold ≡ Held o read put
        → Allows (BlocksHold S K) slots id m (lock_word (lock_of K o)) (λ _. 0)
        (λ _ w. (w.1 ≡ m.1) × Grows m.0 (entry m.0.number o call (block_answer call val)) (item (lock_word (lock_of K o)) kind.Release 0) val w.0)
    release_keeps call val read put fits full before after slots id m pass is s r _ at _ =
        let v : BlockView = m.0 in
        let l : ℕ = lock_of K o in
        let word : ℕ = lock_word l in
        let it : BlockItem = item word kind.Release 0 in
        let value : List ℕ = value_of S r.log o in
        let x : BlockEntry = entry v.number o call (block_answer call val) in
        let log' : List BlockEntry = r.log ++ x ∷ [] in
        let w : BlockView = grown v r.log x it in
        let c : Lock = record { holder = None; written = None } in
        let state' : ℕ → Lock = set_lock r.state l c in
        let words' : List ℕ = set s.words word 0 in
        let old = r.words in
        let sized : length s.words ≡ table_size S K = old.sized in
        let lt : l < K = lock_within S K o some_lock in
        let h = held_is read put full s r id v at is in
        let holder : (r.state l).holder ≡ Some id = ap (λ (z : Lock). z.holder) h.mine in
        let written : (r.state l).written ≡ written_of o put = ap (λ (z : Lock). z.written) h.mine in
        let same : (p : ℕ) → p < length S → object_words S K words' p ≡ object_words S K s.words p = λ p here. lock_object S K s.words l 0 p lt here in
        let val_is : val ≡ value = spells_one (size_of S o) read val value before (reads_value read put full s r id v at is) in
        let hist = history_adds S K r.log r.count r.owner s.views r.history id v at pass x it refl record { object = inside; operands = fits; reply = ap (block_answer call) val_is } in
        let known = pass_known S K r.log r.count r.owner s.views r.history id v at pass in
        let carried = carries S K r.log r.count r.owner s.views r.history id v at pass in
        let own : value_of S log' o ≡ block_after call value = value_from-own object_of left_by o (start_at S o) r.log x refl in
        let others : (p : ℕ) → p ≢ o → value_of S log' p ≡ value_of S r.log p = λ p far. value_from-other object_of left_by p (start_at S p) r.log x (λ e. far (sym e)) in
        let apart : (p : ℕ) → lock_of K p ≢ l → p ≢ o = λ p far e. far (ap (lock_of K) e) in
        let spelled_now : Spells (size_of S o) (object_words S K words' o) (value_of S log' o) =
        subst (λ (z : List ℕ × List ℕ). Spells (size_of S o) z.0 z.1) (λ t. (sym (same o inside ∙ all_is read put full s r id v at is) t, (ap (block_after call) val_is ∙ sym own) t)) after in (
          w,
          keeps,
          tt,
          record {
            log = log';
            count = r.count;
            owner = r.owner;
            state = state';
            history = hist;
            words = record {
              sized = length-set s.words word 0 ∙ sized;
              quiet = get_or-set_other s.words word 0 0 0 (λ e. omega arith) ∙ old.quiet;
              locked = lock_shows K r.state s.words l 0 c lt (omega arith) refl old.locked;
              clean = each_lock (λ i z. z.holder ≡ None → z.written ≡ None) r.state l c (λ _. refl) (λ i _ e. old.clean i e);
              holders = each_lock (λ i z. (j : ℕ) → z.holder ≡ Some j → IsHolder K i (set s.views id w) j) r.state l c
                  (λ j e. absurd (cc (e)))
                  (λ i ne j e. holder_set S K i s.views id v w at (λ u. absurd (let here : l ≡ i = subst (HoldsUnder K i) is u in ne (sym here))) j (old.holders i j e));
              spelled = λ p here not_now. dite (ℕ_discrete p o)
                  (λ e. subst (λ (z : ℕ). Spells (size_of S z) (object_words S K words' z) (value_of S log' z)) (sym e) spelled_now)
                  (λ far. subst (λ (z : List ℕ × List ℕ). Spells (size_of S p) z.0 z.1) (λ t. (sym (same p here) t, sym (others p far) t)) (old.spelled p here
                  (λ was. dite (ℕ_discrete (lock_of K p) l)
                  (λ e. written_else put p far (sym written ∙ (ap (λ (z : ℕ). (r.state z).written) (sym e) ∙ was)))
                  (λ ne. not_now (ap (λ (z : Lock). z.written) (lock_else r.state l c (lock_of K p) ne) ∙ was)))));
              holds = seats_stay (λ j d. KnowsHold S K log' state' words' j d.hold) s.views id w tt
                  (λ j d far there. holds_else S K r.log log' r.state l c s.words words' j (other_holder (r.state l).holder id j holder far) (λ p here ne. (same p here, others p (apart p ne))) d.hold (old.holds j d there));
            };
          },
          (
            refl,
            record {
              between = known.prefix.0;
              now = ap (λ (z : List BlockEntry). grown v z x it) (sym known.prefix.1);
              value_is = (λ t. value_of (carried.0 t) (known.prefix.1 t) o) ∙ sym val_is;
              sound = sound_set S K log' r.count r.owner s.views id v w at hist pass;
            },
          ),
        )
