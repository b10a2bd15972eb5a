-- The parts of a call, one after another.
use Rattle.std.proofs.Common.{◌≡◌, ◌≢◌, ℕ, zero, suc, ◌+◌, ◌-◌, ◌≤◌, ◌<◌, ◌==◌, Bool, true, false, if◌then◌else◌, List, [], ◌∷◌, ◌++◌, length, take, set, get_or, refl, ap, sym, ◌∙◌, subst, arith, append_assoc, length-append}
use Rattle.std.specs.Prelude.{replicate}
use Rattle.std.proofs.lemmas.List.{append-nil, replicate-append-replicate, length-take-le, take_more}
use Rattle.any_size.specs.declared.call.BlockCall.{BlockCall}
use Rattle.any_size.specs.declared.call.BlockCall.TheVariants.{Load, Store, Exchange, CompareExchange}
use Rattle.any_size.specs.declared.call.BlockEntry.{BlockEntry}
use Rattle.any_size.specs.declared.call.BlockReply.{BlockReply}
use Rattle.any_size.specs.declared.view.BlockStep.{BlockStep}
use Rattle.any_size.specs.declared.view.BlockStep.TheVariants as kind
use Rattle.any_size.specs.declared.view.BlockItem.{BlockItem}
use Rattle.any_size.specs.declared.view.Hold.{Hold}
use Rattle.any_size.specs.declared.view.Hold.TheVariants.{Idle, Held}
use Rattle.any_size.specs.Bytes.{bytes_of, words_for, Spells}
use Rattle.any_size.specs.Operations.{block_after, block_answer, does_write}
use Rattle.any_size.specs.Histories.{size_of, value_of}
use Rattle.any_size.specs.Layout.{count_of, lock_of, lock_word, first_word}
use Rattle.any_size.specs.Rule.{held_now}
use Rattle.any_size.specs.Steps.{item, items, entry, read_more, put_more, IsSpelled, TellsValue, HoldsClean, HoldsRead, MayRelease}
use Rattle.any_size.specs.States.{BlocksState, BlockPassState, IsOf, IsKept, Moved, Appends}
use Rattle.any_size.specs.Calls.{missed, takes, IsHeldTrail, IsCallTrail, MakesCall, MakesSome, Trying, Took, TookLast, Reading, ReadsAll, Putting, PutsAll, MakesHeld}
use Rattle.any_size.proofs.WordLists.{put_all}
use Rattle.any_size.proofs.Spelling.{front_spells, reads_spell}

-- ---- steps in a row

pub items_more : (k : BlockStep) (f : ℕ) (ns : List ℕ) (n : ℕ) → items k f (ns ++ n ∷ []) ≡ items k f ns ++ item (f + length ns) k n ∷ []
items_more k f [] n = ap (λ (z : ℕ). item z k n ∷ []) (let e : f ≡ f + 0 = omega arith in e)
items_more k f (x ∷ xs) n = ap (λ (l : List BlockItem). item f k x ∷ l) (items_more k (f + 1) xs n ∙ ap (λ (z : ℕ). items k (f + 1) xs ++ item z k n ∷ []) (let e : f + 1 + length xs ≡ f + suc (length xs) = omega arith in e))

one_more : (T : List BlockItem) (n : ℕ) (x : BlockItem) → (T ++ replicate n x) ++ x ∷ [] ≡ T ++ replicate (n + 1) x
one_more T n x = append_assoc T (replicate n x) (x ∷ []) ∙ ap (λ (l : List BlockItem). T ++ l) (replicate-append-replicate n 1 x)

-- ---- takes

module _ (b : BlocksState) (o : ℕ) where
  l : ℕ
  l = lock_word (lock_of b.locks o)

  pub trying_none : (p : BlockPassState) → Trying b o p p
  trying_none p = record { misses = 0; now = λ t. record p { trail = sym (append-nil p.trail) t } }

  pub trying_more : (p q r : BlockPassState) → Trying b o p q → r ≡ record q { trail = q.trail ++ item (lock_word (lock_of b.locks o)) kind.Take 1 ∷ [] } → Trying b o p r
  trying_more p q r h e = record {
    misses = h.misses + 1;
    now = e ∙ (ap (λ (s : BlockPassState). record s { trail = s.trail ++ item (lock_word (lock_of b.locks o)) kind.Take 1 ∷ [] }) h.now ∙ (λ t. record p { trail = one_more p.trail h.misses (item (lock_word (lock_of b.locks o)) kind.Take 1) t }));
  }

  pub took_last : (p q r : BlockPassState) → Trying b o p q → Took b o 0 q r → TookLast b o p r
  took_last p q r h e = record {
    misses = h.misses;
    took = record {
      now = e.now ∙ (ap (λ (s : BlockPassState). record s { trail = s.trail ++ takes (lock_word (lock_of b.locks o)) 0; hold = Held o [] [] }) h.now
          ∙ (λ t. record p { trail = append_assoc p.trail (missed (lock_word (lock_of b.locks o)) h.misses) (item (lock_word (lock_of b.locks o)) kind.Take 0 ∷ []) t; hold = Held o [] [] }));
    };
  }

  -- ---- reading

  pub reading_none : (p : BlockPassState) (eight : List ℕ) → p.hold ≡ Held o [] [] → eight ≡ replicate 8 0 → 1 ≤ count_of b.starts o → Reading b o p 0 eight p
  reading_none p eight rest zeros some = record {
    read = [];
    count = refl;
    are = zeros;
    now = λ t. record p { trail = sym (append-nil p.trail) t; hold = rest t };
    told = λ full. absurd (omega arith);
  }

  set_next : (read : List ℕ) (k n : ℕ) → set (read ++ replicate (suc k) 0) (length read) n ≡ (read ++ n ∷ []) ++ replicate k 0
  set_next [] k n = refl
  set_next (x ∷ xs) k n = ap (λ (z : List ℕ). x ∷ z) (set_next xs k n)

  pub reading_clean : (p q : BlockPassState) (i : ℕ) (eight : List ℕ) → Reading b o p i eight q → HoldsClean o i q.hold
  reading_clean p q i eight h = subst (HoldsClean o i) (sym (ap (λ (s : BlockPassState). s.hold) h.now)) (refl, h.count, refl)

  pub reading_more : (p q r : BlockPassState) (i n : ℕ) (eight : List ℕ) → i < 8 → Reading b o p i eight q → Moved q (item (first_word b.starts b.locks o + i) kind.Held n) (read_more q.hold (n ∷ [])) r
      → TellsValue b.starts (read_more q.hold (n ∷ [])) → Reading b o p (i + 1) (set eight i n) r
  reading_more p q r i n eight few h e told =
      let hold_is : q.hold ≡ Held o h.read [] = ap (λ (s : BlockPassState). s.hold) h.now in
      let f : ℕ = first_word b.starts b.locks o in
      let left : 8 - i ≡ suc (8 - (i + 1)) = omega arith in
      let long : length (h.read ++ n ∷ []) ≡ i + 1 = length-append h.read (n ∷ []) ∙ ap (λ (z : ℕ). z + 1) h.count in record {
        read = h.read ++ n ∷ [];
        count = long;
        are = (λ t. set (h.are t) (sym h.count t) n) ∙ (ap (λ (z : ℕ). set (h.read ++ replicate z 0) (length h.read) n) left ∙ set_next h.read (8 - (i + 1)) n);
        now = e ∙ (ap (λ (s : BlockPassState). record s { trail = s.trail ++ item (f + i) kind.Held n ∷ []; hold = read_more s.hold (n ∷ []) }) h.now
            ∙ (λ t. record p {
              trail = (append_assoc p.trail (items kind.Held f h.read) (item (f + i) kind.Held n ∷ [])
                  ∙ ap (λ (s : List BlockItem). p.trail ++ s) (ap (λ (z : ℕ). items kind.Held f h.read ++ item (f + z) kind.Held n ∷ []) (sym h.count) ∙ sym (items_more kind.Held f h.read n))) t;
              hold = Held o (h.read ++ n ∷ []) [];
            }));
        told = λ full. subst (λ (z : Hold). TellsValue b.starts (read_more z (n ∷ []))) hold_is told (long ∙ full);
      }

  -- the eight words spell the value, and nothing else
  pub reading_spells : (p q : BlockPassState) (i size : ℕ) (eight : List ℕ) → Reading b o p i eight q → i ≡ count_of b.starts o → size ≡ size_of b.starts o → 1 ≤ size_of b.starts o → size_of b.starts o ≤ 64
      → (bytes_of eight ≡ take size (bytes_of eight) ++ replicate (64 - size) 0) × ((v : List ℕ) → v ≡ take size (bytes_of eight) → ReadsAll b o p v q)
  reading_spells p q i size eight h full size_is some few =
      let told = h.told full in
      let long : length h.read ≡ words_for (size_of b.starts o) = h.count ∙ full in
      let are : eight ≡ h.read ++ replicate (8 - length h.read) 0 = h.are ∙ ap (λ (z : ℕ). h.read ++ replicate (8 - z) 0) (sym h.count) in
      let t = reads_spell h.read eight told.value (size_of b.starts o) some few long are told.spells in (
        subst (λ (z : ℕ). bytes_of eight ≡ take z (bytes_of eight) ++ replicate (64 - z) 0) (sym size_is) t.0,
        λ v is. record {
          read = h.read;
          all = long;
          spells = subst (Spells (size_of b.starts o) h.read) (sym t.1 ∙ (ap (λ (z : ℕ). take z (bytes_of eight)) (sym size_is) ∙ sym is)) told.spells;
          now = h.now;
        },
      )

  -- ---- writing

  empty_more : (f : Hold) → put_more f [] ≡ f
  empty_more Idle = refl
  empty_more (Held p read put) = ap (λ (z : List ℕ). Held p read z) (append-nil put)

  pub putting_none : (p : BlockPassState) → Putting b o p [] p
  putting_none p = λ t. record p { trail = sym (append-nil p.trail) t; hold = sym (empty_more p.hold) t }

  put_twice : (f : Hold) (xs : List ℕ) (n : ℕ) → put_more (put_more f xs) (n ∷ []) ≡ put_more f (xs ++ n ∷ [])
  put_twice Idle xs n = refl
  put_twice (Held p read put) xs n = ap (λ (z : List ℕ). Held p read z) (append_assoc put xs (n ∷ []))

  reads_put : (n i : ℕ) (f : Hold) (xs : List ℕ) → length xs ≡ i → HoldsRead o n 0 f → HoldsRead o n i (put_more f xs)
  reads_put n i Idle xs e h = absurd h
  reads_put n i (Held p read put) xs e h = (h.0, h.1, length-append put xs ∙ (let none = h.2 in omega arith))

  pub putting_read : (p q : BlockPassState) (xs : List ℕ) (i : ℕ) → length xs ≡ i → HoldsRead o (count_of b.starts o) 0 p.hold → Putting b o p xs q → HoldsRead o (count_of b.starts o) i q.hold
  putting_read p q xs i e held h = subst (HoldsRead o (count_of b.starts o) i) (sym (ap (λ (s : BlockPassState). s.hold) h)) (reads_put (count_of b.starts o) i p.hold xs e held)

  pub putting_more : (p q r : BlockPassState) (words : List ℕ) (i : ℕ) → i < length words → Putting b o p (take i words) q → Moved q (item (first_word b.starts b.locks o + i) kind.Put (get_or words i 0)) (put_more q.hold (get_or words i 0 ∷ [])) r
      → Putting b o p (take (i + 1) words) r
  putting_more p q r words i lt h e =
      let f : ℕ = first_word b.starts b.locks o in
      let n : ℕ = get_or words i 0 in
      let xs : List ℕ = take i words in
      let long : length xs ≡ i = length-take-le i words (omega arith) in
      let more : take (i + 1) words ≡ xs ++ n ∷ [] = take_more words i 0 lt in
      e ∙ (ap (λ (s : BlockPassState). record s { trail = s.trail ++ item (f + i) kind.Put n ∷ []; hold = put_more s.hold (n ∷ []) }) h
      ∙ (λ t. record p {
        trail = (append_assoc p.trail (items kind.Put f xs) (item (f + i) kind.Put n ∷ [])
            ∙ ap (λ (s : List BlockItem). p.trail ++ s) (ap (λ (z : ℕ). items kind.Put f xs ++ item (f + z) kind.Put n ∷ []) (sym long) ∙ (sym (items_more kind.Put f xs n) ∙ ap (items kind.Put f) (sym more)))) t;
        hold = (put_twice p.hold xs n ∙ ap (put_more p.hold) (sym more)) t;
      }))

  pub putting_all : (p q : BlockPassState) (words v : List ℕ) (i : ℕ) → i ≡ count_of b.starts o → length words ≡ 8 → length v ≡ size_of b.starts o → 1 ≤ size_of b.starts o → size_of b.starts o ≤ 64 → bytes_of words ≡ v ++ replicate (64 - length v) 0
      → Putting b o p (take i words) q → PutsAll b o p v q
  putting_all p q words v i full eight count some few spelled h =
      let t = front_spells words v (size_of b.starts o) eight count some few spelled in record {
        put = take (count_of b.starts o) words;
        all = t.0;
        spells = t.1;
        now = subst (λ (z : ℕ). Putting b o p (take z words) q) full h;
      }

  -- ---- the call under the lock

  kept_after : (call : BlockCall) (v : List ℕ) → does_write call v ≡ false → block_after call v ≡ v
  kept_after Load v e = refl
  kept_after (Store a) v e = absurd cc
  kept_after (Exchange a) v e = absurd cc
  kept_after (CompareExchange x n) v e = ap (λ (c : Bool). if c then n else v) e

  pub reads_ready : (p q : BlockPassState) (v : List ℕ) → ReadsAll b o p v q → HoldsRead o (count_of b.starts o) 0 q.hold
  reads_ready p q v h = subst (HoldsRead o (count_of b.starts o) 0) (sym (ap (λ (s : BlockPassState). s.hold) h.now)) (refl, h.all, refl)

  pub kept_may : (p q : BlockPassState) (v : List ℕ) (call : BlockCall) → ReadsAll b o p v q → does_write call v ≡ false → MayRelease o (count_of b.starts o) (size_of b.starts o) call v q.hold
  kept_may p q v call h kept = subst (MayRelease o (count_of b.starts o) (size_of b.starts o) call v) (sym (ap (λ (s : BlockPassState). s.hold) h.now))
      (refl, h.all, h.spells, subst (Spells (size_of b.starts o) h.read) (sym (kept_after call v kept)) h.spells)

  pub put_may : (p q r : BlockPassState) (v new : List ℕ) (call : BlockCall) → ReadsAll b o p v q → PutsAll b o q new r → new ≡ block_after call v → MayRelease o (count_of b.starts o) (size_of b.starts o) call v r.hold
  put_may p q r v new call h k is =
      let hold_is : r.hold ≡ Held o h.read k.put = ap (λ (s : BlockPassState). s.hold) k.now ∙ ap (λ (s : BlockPassState). put_more s.hold k.put) h.now in
      subst (MayRelease o (count_of b.starts o) (size_of b.starts o) call v) (sym hold_is)
      (refl, h.all, h.spells, subst (λ (z : List ℕ × List ℕ). Spells (size_of b.starts o) z.0 z.1) (λ t. (sym (put_all h.read k.put (k.all ∙ sym h.all)) t, is t)) k.spells)

  -- the entry, with everything that the pass did before it under the lock
  ends : List BlockEntry → BlockCall → BlockReply → BlockPassState → BlockPassState
  ends between call r s = record s { seen = (s.seen ++ between) ++ entry s.number o call r ∷ []; mine = s.mine ++ entry s.number o call r ∷ []; trail = s.trail ++ item (lock_word (lock_of b.locks o)) kind.Release 0 ∷ []; hold = Idle }

  module _ (p q s : BlockPassState) (v put : List ℕ) (call : BlockCall) (r : BlockReply) (h : ReadsAll b o p v q) (u : BlockPassState) (k : Putting b o q put u) (reply : r ≡ block_answer call v)
      (a : Appends u (entry u.number o call (block_answer call v)) (item (lock_word (lock_of b.locks o)) kind.Release 0) v s) where
    made : ((does_write call v ≡ true) → (length put ≡ count_of b.starts o) × Spells (size_of b.starts o) put (block_after call v)) → ((does_write call v ≡ false) → put ≡ []) → MakesHeld b o call p r s
    unfolding ends
    made writes leaves =
        let f : ℕ = first_word b.starts b.locks o in
        let rel : List BlockItem = item (lock_word (lock_of b.locks o)) kind.Release 0 ∷ [] in
        let start : u.starts ≡ p.starts = ap (λ (x : BlockPassState). x.starts) k ∙ ap (λ (x : BlockPassState). x.starts) h.now in
        let seen : u.seen ≡ p.seen = ap (λ (x : BlockPassState). x.seen) k ∙ ap (λ (x : BlockPassState). x.seen) h.now in
        let value : value_of p.starts (p.seen ++ a.between) o ≡ v = (λ t. value_of (sym start t) (sym seen t ++ a.between) o) ∙ a.value in
        let under : IsHeldTrail b o call v (items kind.Held f h.read ++ (items kind.Put f put ++ rel)) = record { read = h.read; put = put; all = h.all; spells = h.spells; writes = writes; leaves = leaves; are = refl } in record {
          between = a.between;
          steps = items kind.Held f h.read ++ (items kind.Put f put ++ rel);
          now = a.now ∙ ((λ t. ends a.between call (sym reply t) u) ∙ (ap (ends a.between call r) k
              ∙ (ap (λ (x : BlockPassState). ends a.between call r (record x { trail = x.trail ++ items kind.Put f put; hold = put_more x.hold put })) h.now
              ∙ (λ t. record p {
                seen = (p.seen ++ a.between) ++ entry p.number o call r ∷ [];
                mine = p.mine ++ entry p.number o call r ∷ [];
                trail = (append_assoc (p.trail ++ items kind.Held f h.read) (items kind.Put f put) rel ∙ append_assoc p.trail (items kind.Held f h.read) (items kind.Put f put ++ rel)) t;
                hold = Idle;
              }))));
          reply = reply ∙ ap (block_answer call) (sym value);
          trail = subst (λ (z : List ℕ). IsHeldTrail b o call z (items kind.Held f h.read ++ (items kind.Put f put ++ rel))) (sym value) under;
          kept = a.kept;
        }

  truth : (c : Bool) → c ≡ true → c ≡ false → ⊥
  truth c yes_it no_it = let bad : true ≡ false = sym yes_it ∙ no_it in cc

  pub put_made : (p q u s : BlockPassState) (v new : List ℕ) (call : BlockCall) (r : BlockReply) → ReadsAll b o p v q → PutsAll b o q new u → does_write call v ≡ true → new ≡ block_after call v
      → Appends u (entry u.number o call (block_answer call v)) (item (lock_word (lock_of b.locks o)) kind.Release 0) v s → r ≡ block_answer call v → MakesHeld b o call p r s
  put_made p q u s v new call r h k wrote is a reply = made p q s v k.put call r h u k.now reply a (λ _. (k.all, subst (Spells (size_of b.starts o) k.put) is k.spells)) (λ not_it. absurd (truth (does_write call v) wrote not_it))

  pub kept_made : (p q s : BlockPassState) (v : List ℕ) (call : BlockCall) (r : BlockReply) → ReadsAll b o p v q → does_write call v ≡ false
      → Appends q (entry q.number o call (block_answer call v)) (item (lock_word (lock_of b.locks o)) kind.Release 0) v s → r ≡ block_answer call v → MakesHeld b o call p r s
  kept_made p q s v call r h kept a reply = made p q s v [] call r h q (putting_none q) reply a (λ wrote. absurd (truth (does_write call v) wrote kept)) (λ _. refl)

  -- ---- the whole call

  pub call_made : (p q s : BlockPassState) (call : BlockCall) (misses : ℕ) (r : BlockReply) → p.hold ≡ Idle → Took b o misses p q → MakesHeld b o call q r s → MakesCall b o call misses p r s
  call_made p q s call misses r rest t h =
      let lock : ℕ = lock_word (lock_of b.locks o) in
      let start : q.starts ≡ p.starts = ap (λ (x : BlockPassState). x.starts) t.now in
      let seen : q.seen ≡ p.seen = ap (λ (x : BlockPassState). x.seen) t.now in
      let value : value_of q.starts (q.seen ++ h.between) o ≡ value_of p.starts (p.seen ++ h.between) o = (λ i. value_of (start i) (seen i ++ h.between) o) in record {
        between = h.between;
        steps = takes lock misses ++ h.steps;
        now = h.now ∙ (ap (λ (x : BlockPassState). record x { seen = (x.seen ++ h.between) ++ entry x.number o call r ∷ []; mine = x.mine ++ entry x.number o call r ∷ []; trail = x.trail ++ h.steps; hold = Idle }) t.now
            ∙ (λ i. record p { seen = (p.seen ++ h.between) ++ entry p.number o call r ∷ []; mine = p.mine ++ entry p.number o call r ∷ []; trail = append_assoc p.trail (takes lock misses) h.steps i; hold = sym rest i }));
        reply = h.reply ∙ ap (block_answer call) value;
        trail = record { held = h.steps; under = subst (λ (v : List ℕ). IsHeldTrail b o call v h.steps) value h.trail; are = refl };
        kept = h.kept;
      }
